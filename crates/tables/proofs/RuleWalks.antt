-- Walks along codes, and where they stop.
use Rattle.std.proofs.Common.{◌≡◌, ℕ, ◌+◌, ◌<◌, ◌≤◌, List, length, get_or, take, sym, ◌∙◌, subst, add-one, arith, Some, None}
use Rattle.std.proofs.lemmas.List.{take_all}
use Rattle.std.proofs.lemmas.Option.{none-some, slice_get-get_or}
use Rattle.grammar.specs.States.{Automaton}
use Rattle.grammar.specs.Lookahead.{Leads, here, onward}
use Rattle.tables.specs.declared.rules.Rules.{Rules}
use Rattle.tables.specs.declared.states.States.{States}
use Rattle.tables.specs.Arrays.{automaton}
use Rattle.tables.proofs.Gotos.{goto_moves}
use Rattle.tables.proofs.Walks.{leads_on, further}

module _ (R : Rules) (S : States) where
  abbrev A : Automaton
  A = automaton R S

  -- A walk from a state ends in a state.
  pub walk_inside : {p s : ℕ} (Xs : List ℕ) → Leads A p Xs s → p < S.count → s < S.count
  walk_inside Xs here h = h
  walk_inside Xs (onward {s = s} {t = t} {X = X} {Xs = Ys} e l) h = walk_inside Ys l (goto_moves R S s X t e).to

  module _ (q : ℕ) (codes : List ℕ) where
    abbrev code : ℕ → ℕ
    code d = get_or codes d 0

    pub walk_on : (d p t : ℕ) → d < length codes → Leads A q (take d codes) p → Some t ≡ A.goto p (code d) → Leads A q (take (d + 1) codes) t
    walk_on d p t h w e = subst (λ n. Leads A q (take n codes) t) (sym (add-one d)) (leads_on codes d (slice_get-get_or codes d 0 h) w (sym e))

    pub walk_stops : (d e p u : ℕ) → d < length codes → Leads A q (take d codes) p → None ≡ A.goto p (code d) → d < e → Leads A q (take e codes) u → ⊥
    walk_stops d e p u h w n l v = none-some _ (n ∙ (further codes d e l (slice_get-get_or codes d 0 h) w v).move)

    -- A walk that stops leads to no end.
    pub stops : (d p u : ℕ) → d < length codes → Leads A q (take d codes) p → None ≡ A.goto p (code d) → Leads A q codes u → ⊥
    stops d p u h w n v = walk_stops d (length codes) p u h w n h (subst (λ l. Leads A q l u) (sym (take_all (length codes) codes (omega arith))) v)

    -- A walk over all codes.
    pub walked : (d p : ℕ) → length codes ≤ d → Leads A q (take d codes) p → Leads A q codes p
    walked d p h w = subst (λ l. Leads A q l p) (take_all d codes h) w
