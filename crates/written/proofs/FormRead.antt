-- What a text's bytes tell when they are read by calls that each lead from a stage to the next, or break off at a place.
use Rattle.std.proofs.Common.{◌≡◌, ℕ, zero, suc, ◌+◌, ◌<◌, ◌≤◌, List, [], ◌∷◌, length, get_or, drop, Bor, Some, None, Option, Ok, Err, Result, MatchOption, sym, refl, ap, ◌∙◌, subst, arith, rules}
use Rattle.std.proofs.lemmas.List.{length-drop}
use Rattle.std.specs.Fn.{Called, Mut}
use Rattle.std.specs.Iterator.{TryFoldTurn, TryFoldsItems, Yields}
use Rattle.std.specs.Iterator.Adapters.{enumerate_source, enumerate_count, enumerate_steps}
use Rattle.std.specs.List.{FoldsTo}
use Rattle.std.specs.Option.{ok_or}
use Rattle.std.specs.Slice.Iter.{iter_rest, iter_steps}
use Rattle.std.specs.declared.iter.Enumerate.{Enumerate}
use Rattle.std.specs.declared.slice.Iter.{Iter}
use Rattle.std.specs.declared.ops.ControlFlow.{ControlFlow}
use Rattle.std.specs.declared.ops.ControlFlow.TheVariants.{Continue, Break}
use Rattle.written.specs.Form.{WellFormed, Misplaced}
use Rattle.written.specs.Stages.{next}
use Rattle.written.specs.declared.form.Stage.{Stage}
use Rattle.written.specs.declared.form.Stage.TheVariants.{Between}
use Rattle.written.proofs.FormVerdict.{Sofar, sofar_none, sofar_more}

-- What the stage behind the last byte tells, or the place of a byte that cannot stand where it does.
abbrev pub Told : List ℕ → Result Stage ℕ → Type 0
Told text (Ok s) = (s ≡ Between → WellFormed text) × ((s ≡ Between → ⊥) → Misplaced text (length text))
Told text (Err at) = Misplaced text at

at_head : (n : ℕ) (text : List ℕ) (b : ℕ) (rest : List ℕ) → drop n text ≡ b ∷ rest → (n < length text) × (get_or text n 0 ≡ b) × (drop (n + 1) text ≡ rest)
at_head zero [] b rest e = absurd (search (rules, e))
at_head zero (c ∷ cs) b rest e = (omega arith, search (rules, e), search (rules, e))
at_head (suc n) [] b rest e = absurd (search (rules, e))
at_head (suc n) (c ∷ cs) b rest e = let later = at_head n cs b rest e in let next : suc (n + 1) ≡ suc n + 1 = omega arith in (omega (arith, later.0), later.1, subst (λ k. drop k (c ∷ cs) ≡ rest) next later.2)

went_on : (o : Option Stage) (at : ℕ) (s : Stage) → Ok s ≡ ok_or o at → Some s ≡ o
went_on None at s e = absurd (search (rules, e))
went_on (Some t) at s e = search (rules, e)

broke_off : (o : Option Stage) (at : ℕ) (v : Result Stage ℕ) → v ≡ ok_or o at → ((s : Stage) → v ≡ Ok s → ⊥) → (None ≡ o) × (v ≡ Err at)
broke_off None at v e n = (refl, e)
broke_off (Some t) at v e n = absurd (n t e)

abbrev Bytes : Type 0
Bytes = Enumerate (Iter ℕ)

-- The bytes before the place are read, to the stage, and the others are left.
record Here (text : List ℕ) (s : Bytes) (a : Stage) : Type 0 where
  pub left : iter_rest (enumerate_source s) ≡ drop (enumerate_count s) text
  pub sofar : Sofar text (enumerate_count s) a

module _ {F E : Type 0} (g : Mut F (Stage × ((ℕ × Bor ℕ) × Unit {0})) (Result Stage ℕ)) (branches : Result Stage ℕ → ControlFlow E Stage → Type 0) (resumes : E → Result Stage ℕ → Type 0) (tells : (p : F) (a : Stage) (x : ℕ × Bor ℕ) (r : Result Stage ℕ) (q : F) → Called g p (a, (x, tt)) r q → r ≡ ok_or (next a x.1.now) x.0) (goes : (r : Result Stage ℕ) (a : Stage) → branches r (Continue a) → r ≡ Ok a) (breaks : (v r : Result Stage ℕ) (e : E) → branches v (Break e) → resumes e r → (v ≡ r) × ((a : Stage) → v ≡ Ok a → ⊥)) (text : List ℕ) where
  here_more : (s t : Bytes) (a b : Stage) (x : ℕ × Bor ℕ) → Here text s a → enumerate_steps iter_steps s (Some x) t → Some b ≡ next a x.1.now → Here text t b
  here_more s t a b x h y e =
      let head = at_head (enumerate_count s) text x.1.now _ (sym h.left ∙ y.0) in
      let counted = y.2 in
      record {
        left = sym head.2 ∙ ap (λ n. drop n text) (sym counted);
        sofar = subst (λ n. Sofar text n b) (sym counted) (sofar_more text (enumerate_count s) a b head.0 h.sofar (e ∙ ap (next a) (sym head.1)));
      }

  read : (s t : Bytes) (xs : List (ℕ × Bor ℕ)) (f f' : F) (a b : Stage) → Here text s a → Yields (enumerate_steps iter_steps) s xs t → FoldsTo {P = F × Stage} (TryFoldTurn g branches) (f, a) xs (f', b) → Here text t b
  read s t [] f f' a b h y c = subst (λ u. Here text u b) y (subst (λ p. Here text s p) (ap (λ p. p.1) c) h)
  read s t (x ∷ xs) f f' a b h y c =
      let turn = c.1 in
      let on = went_on (next a x.1.now) x.0 c.0.1 (sym (goes turn.0 c.0.1 turn.2) ∙ tells f a x turn.0 c.0.0 turn.1) in
      read y.0 t xs c.0.0 f' c.0.1 b (here_more s y.0 a c.0.1 x h y.1 on) y.2 c.2

  told_at : (t u : Bytes) (o : Option (ℕ × Bor ℕ)) (f : F) (a : Stage) (r : Result Stage ℕ) → Here text t a → enumerate_steps iter_steps t o u → MatchOption o (branches r (Continue a)) (λ x. (v : Result Stage ℕ) × (h : F) × (e : E) × Called g f (a, (x, tt)) v h × branches v (Break e) × resumes e r) → Told text r
  told_at t u None f a r h y m =
      let none = y.0.0 in
      let size = ap length h.left ∙ length-drop (enumerate_count t) text in
      let past : length text ≤ enumerate_count t = omega (arith, none, size) in
      subst (Told text) (sym (goes r a m)) (h.sofar.ends_well past, h.sofar.ends_early past)
  told_at t u (Some x) f a r h y m =
      let head = at_head (enumerate_count t) text x.1.now _ (sym h.left ∙ y.0) in
      let stop = breaks m.0 r m.2 m.4 m.5 in
      let off = broke_off (next a x.1.now) x.0 m.0 (tells f a x m.0 m.1 m.3) stop.1 in
      let place : Err (enumerate_count t) ≡ r = ap Err (sym y.1) ∙ sym off.1 ∙ stop.0 in
      subst (Told text) place (h.sofar.stops head.0 (off.0 ∙ ap (next a) (sym head.1)))

  pub told : (s u : Bytes) (f : F) (r : Result Stage ℕ) → enumerate_count s ≡ 0 → iter_rest (enumerate_source s) ≡ text → TryFoldsItems (enumerate_steps iter_steps) g branches resumes s f Between r u → Told text r
  told s u f r none whole ran =
      let start : Here text s Between = record { left = whole ∙ ap (λ n. drop n text) (sym none); sofar = subst (λ n. Sofar text n Between) (sym none) (sofar_none text) } in
      told_at ran.4.0 u ran.1 ran.2 ran.3 r (read s ran.4.0 ran.0 f ran.2 Between ran.3 start ran.4.1 ran.5) ran.4.2 ran.6
