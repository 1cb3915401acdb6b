use Rattle.std.proofs.Common.{◌≡◌, List}
use Rattle.written.specs.Drafts.{AllKnown, blank_draft, draft_after, drafted}
use Rattle.written.specs.Spelled.{spelled}
use Rattle.written.specs.TokenWalks.{Ahead}
use Rattle.written.specs.Tokens.{Laid, Placed, tokens}
use Rattle.written.proofs.draft.read_rules.Given as goal

abbrev pub invariant-loop-token : goal.invariant-loop-token
invariant-loop-token l =
    (goal.iterator-loop-token).can_next l.token-iterator
    × (goal.iterator-loop-token).is_finite l.token-iterator
    × ((ts : List Placed) → Laid 0 ts l.text → (rest : List Placed)
    × (draft_after (spelled l.names.words) (spelled l.names.heads) blank_draft (tokens ts) ≡ draft_after (spelled l.names.words) (spelled l.names.heads) (drafted l.draft) (tokens rest))
    × (AllKnown (spelled l.names.words) (spelled l.names.heads) (tokens ts) → AllKnown (spelled l.names.words) (spelled l.names.heads) (tokens rest))
    × Ahead l.token-iterator rest)
