use Rattle.std.proofs.Common.{◌≡◌, ◌≤◌, List}
use Rattle.written.specs.TokenWalks.{Ahead, bytes_left}
use Rattle.written.specs.Tokens.{Placed, tokens}
use Rattle.written.specs.Walks.{heads_from}
use Rattle.written.proofs.heads.HeadsIterator.next.Given as goal

abbrev pub invariant-loop-token : goal.invariant-loop-token
invariant-loop-token l =
    (bytes_left l.self.tokens ≤ bytes_left l.initial.self.tokens)
    × ((ts : List Placed) → Ahead l.initial.self.tokens ts → (rest : List Placed) × (heads_from l.initial.self.between (tokens ts) ≡ heads_from l.self.between (tokens rest)) × Ahead l.self.tokens rest)

abbrev pub decreases-loop-token : goal.decreases-loop-token
decreases-loop-token l = bytes_left l.self.tokens
