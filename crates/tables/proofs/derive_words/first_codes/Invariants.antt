use Rattle.std.proofs.Common.{◌≡◌, ℕ, ◌<◌, ◌&&◌, false, get_or, leb}
use Rattle.tables.proofs.derive_words.first_codes.Given as goal

abbrev pub invariant-loop-code : goal.invariant-loop-code
invariant-loop-code l = (k : ℕ) → k < l.code → get_or l.mark-items k false ≡ (leb 1 k && leb k l.words)
