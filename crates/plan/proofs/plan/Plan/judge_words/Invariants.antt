use Rattle.std.proofs.Common.{◌≡◌, take, drop}
use Rattle.tables.specs.Building.{held}
use Rattle.plan.specs.Plans.{SameBook}
use Rattle.plan.specs.WholeCalls.{words_call}
use Rattle.plan.specs.Made.{Made}
use Rattle.plan.specs.WholeLines.{Taken}
use Rattle.plan.proofs.plan.Plan.judge_words.Given as goal

abbrev pub invariant-loop-word : goal.invariant-loop-word
invariant-loop-word g l =
    Made g.B.Book.list g.B.Book.free g.B.Book.grows (Taken l.designer (take l.word-index l.words)) l.initial.self l.self
    × SameBook l.initial.self l.self
    × (words_call (held l.initial.self.tables) l.initial.self.model l.designer l.words ≡ words_call (held l.initial.self.tables) l.self.model l.designer (drop l.word-index l.words))
