-- A grammar's states are numbered in one way.
use Rattle.std.proofs.Common.{◌≡◌, ℕ, zero, suc, ◌<◌, ◌≤◌, sym, ap, ◌∙◌, subst, inl, inr, arith, Option, Some}
use mathlib.Core.Path.{fun_ext}
use Rattle.std.proofs.lemmas.Bool.{cases_lt, cases_eq, cases_order}
use Rattle.grammar.specs.Grammar.{Grammar}
use Rattle.grammar.specs.Items.{Move, Waits}
use Rattle.grammar.specs.States.{Automaton, Earlier, Met, Numbered}
use Rattle.grammar.specs.Theorems.{OneNumbering}
use Rattle.grammar.proofs.Agreement.{option_iff}
use Rattle.grammar.proofs.Completion.{equal_sets, same_items, one_completion}
use Rattle.grammar.proofs.Moves.{goes}
use Rattle.grammar.proofs.Places.{at_once, before, after, order}
use Rattle.grammar.proofs.ReachedSets.{state_reached, reached_listed}

-- The states below t are the same.
abbrev Alike : Automaton → Automaton → ℕ → Type 0
Alike A B t = (i : ℕ) → i < t → A.has i ≡ B.has i

module _ (G : Grammar) where
  -- Where the states that a move leaves are the same, the other numbering moves too, to the same set.
  record Follows (m : ℕ) (A B : Automaton) (s X t : ℕ) : Type 0 where
    to : ℕ
    move : B.goto s X ≡ Some to
    low : to < m
    same : A.has t ≡ B.has to

  follows : (n m : ℕ) (A B : Automaton) → Numbered G n A → Numbered G m B → (s X t : ℕ) → A.goto s X ≡ Some t → s < m → A.has s ≡ B.has s → Follows m A B s X t
  follows n m A B N M s X t e l same =
      let g = goes G n A N s X t e in
      let k = M.moves s X l (subst (λ S. Waits G S X) same g.waits) in
      record { to = k.0; move = k.1; low = k.2; same = one_completion G (subst (λ S. Move G S X (A.has t)) same g.move) k.3 }

  -- What one numbering meets first, the other does not meet later.
  not_later : (n m : ℕ) (A B : Automaton) → Numbered G n A → Numbered G m B → (t : ℕ) → t < n → t < m → Alike A B t → (p : Met A t) (q : Met B t) → Earlier p.state p.code q.state q.code → ⊥
  not_later n m A B N M t l h alike p q early =
      let f = follows n m A B N M p.state p.code t p.here (omega (arith, p.lower)) (alike p.state p.lower) in
      let low : f.to < t = q.before p.state p.code f.to early f.move in
      let e : t ≡ f.to = N.apart t f.to l (omega arith) (same_items (f.same ∙ sym (alike f.to low))) in
      omega arith

  module _ (n m : ℕ) (A B : Automaton) (N : Numbered G n A) (M : Numbered G m B) where
    next_alike : (t : ℕ) → t < n → t < m → Alike A B t → A.has t ≡ B.has t
    next_alike zero l h alike = one_completion G N.begins M.begins
    next_alike (suc k) l h alike =
        by (N.met (suc k) (omega arith) l) (M.met (suc k) (omega arith) h)
      where
        by : (p : Met A (suc k)) (q : Met B (suc k)) → A.has (suc k) ≡ B.has (suc k)
        by p q =
            elim (order p.state p.code q.state q.code) [
              | at_once e f ↦
                  (let g = goes G n A N p.state p.code (suc k) p.here in
                  let b : B.goto p.state p.code ≡ Some (suc k) = ap (λ s. B.goto s p.code) e ∙ ap (λ X. B.goto q.state X) f ∙ q.here in
                  let u = goes G m B M p.state p.code (suc k) b in
                  one_completion G (subst (λ S. Move G S p.code (A.has (suc k))) (alike p.state p.lower) g.move) u.move)
              | before early ↦ absurd (not_later n m A B N M (suc k) l h alike p q early)
              | after early ↦ absurd (not_later m n B A M N (suc k) h l (λ i b. sym (alike i b)) q p early)
            ]

    alike_upto : (k : ℕ) → k ≤ n → k ≤ m → Alike A B k
    alike_upto zero a b i l = absurd (omega arith)
    alike_upto (suc k) a b i l =
        let below : Alike A B k = alike_upto k (omega arith) (omega arith) in
        elim (cases_eq i k) [
          | inl e ↦ subst (λ j. A.has j ≡ B.has j) (sym e) (next_alike k (omega arith) (omega arith) below)
          | inr ne ↦ below i (omega arith)
        ]

    -- A state of the second beyond the first's would be one of the first's.
    no_more : n < m → ⊥
    no_more l =
        let at = reached_listed G n A N (state_reached G m B M n l) in
        let e : at.number ≡ n = M.apart at.number n (omega (arith, at.low)) l (λ r d. sym (same_items (alike_upto n (omega arith) (omega arith) at.number at.low) r d) ∙ at.same r d) in
        omega (arith, at.low)

  module _ (n m : ℕ) (A B : Automaton) (N : Numbered G n A) (M : Numbered G m B) where
    one_count : n ≡ m
    one_count =
        elim (cases_order n m) [
          | inl e ↦ e
          | inr s ↦ elim s [ inl l ↦ absurd (no_more n m A B N M l) | inr l ↦ absurd (no_more m n B A M N l) ]
        ]

    one_has : (s : ℕ) → A.has s ≡ B.has s
    one_has s =
        elim (cases_lt s n) [
          | inl l ↦ (let e = one_count in alike_upto n m A B N M n (omega arith) (omega arith) s l)
          | inr g ↦ (let e = one_count in equal_sets (A.has s) (B.has s) λ r d. N.outside s r d g ∙ sym (M.outside s r d (omega arith)))
        ]

  goto_onto : (n m : ℕ) (A B : Automaton) → Numbered G n A → Numbered G m B → (s X t : ℕ) → A.goto s X ≡ Some t → B.goto s X ≡ Some t
  goto_onto n m A B N M s X t e =
      let g = goes G n A N s X t e in
      let count = one_count n m A B N M in
      let f = follows n m A B N M s X t e (omega (arith, g.from)) (one_has n m A B N M s) in
      let same : f.to ≡ t = M.apart f.to t f.low (omega (arith, g.to)) (same_items (sym f.same ∙ one_has n m A B N M t)) in
      f.move ∙ ap {B = Option ℕ} Some same

pub one_numbering : OneNumbering
one_numbering G n m A B N M = (
  one_count G n m A B N M,
  record {
    has = λ s r d. same_items (one_has G n m A B N M s) r d;
    goto = λ s X. option_iff (A.goto s X) (B.goto s X) (goto_onto G n m A B N M s X) (goto_onto G m n B A M N s X);
  },
)

-- So they are one automaton.
pub one_automaton : (G : Grammar) (n m : ℕ) (A B : Automaton) → Numbered G n A → Numbered G m B → A ≡ B
one_automaton G n m A B N M =
    let agree = (one_numbering G n m A B N M).1 in
    let has : A.has ≡ B.has = fun_ext λ s. fun_ext λ r. fun_ext λ d. agree.has s r d in
    let goto : A.goto ≡ B.goto = fun_ext λ s. fun_ext λ X. agree.goto s X in
    λ i. record { has = has i; goto = goto i }
