-- How many bytes from a place of a text on pass a test.
use Rattle.std.proofs.Common.{◌≡◌, ℕ, Bool, false, List, length, ◌+◌, ◌-◌, ◌<◌, get_or, take, drop, Bor, sym, ap, ◌∙◌, arith, length-drop}
use denote.Param.Members.{Mut}
use Rattle.std.specs.Fn.{CalledAt}
use Rattle.std.specs.Iterator.{Drains}
use Rattle.std.specs.Iterator.Adapters.{take_while_source, take_while_done, take_while_callee, take_while_steps}
use Rattle.std.specs.List.{prefix_len}
use Rattle.std.specs.Slice.Iter.{iter_rest}
use Rattle.std.specs.declared.iter.TakeWhile.{TakeWhile}
use Rattle.std.specs.declared.slice.Iter.{Iter}
use Rattle.std.proofs.iter.Yields.{fronts}
use Rattle.std.proofs.lemmas.Iterator.{YieldsList-from_slice, items_from_drains}
use Rattle.std.proofs.lemmas.Iterator.Search.{YieldsList-from_take_while}
use Rattle.std.proofs.lemmas.List.{length-map, take_all, get_or-drop}
use Rattle.std.proofs.lemmas.List.Sums.{prefix_len_stops}
use Rattle.std.proofs.lemmas.List.Folds.{length-prefix_len}

-- As `take_while` counts them.
pub leading_count : {F : Type 0} (g : Mut F (Bor (Bor ℕ) × Unit {0}) Bool) (p : ℕ → Bool) (text : List ℕ) (from : ℕ) {f : F} {s : TakeWhile (Iter ℕ) F} (n : ℕ)
    → (xs : List (Bor ℕ)) × Drains (take_while_steps fronts g) s xs × (n ≡ length xs)
    → iter_rest (take_while_source s) ≡ take (length text - from) (drop from text) → take_while_callee s ≡ f → take_while_done s ≡ false
    → ((x : Bor ℕ) (b : Bool) (q : F) → CalledAt g f x b q → (q ≡ f) × (b ≡ p x.now)) → n ≡ prefix_len p (drop from text)
leading_count g p text from n (xs, (u, (t, ys, end)), e) rest callee started acts =
    let bs = drop from text in
    let whole = items_from_drains xs (t, ys, λ _. (u, end)) (YieldsList-from_take_while g p (YieldsList-from_slice bs (rest ∙ take_all (length text - from) bs (omega (arith, length-drop from text)))) callee started acts) in
    e ∙ sym (length-map xs (λ x. x.now)) ∙ ap length whole ∙ length-prefix_len p bs

-- The byte behind them does not pass.
pub leading_stops : (p : ℕ → Bool) (text : List ℕ) (from at : ℕ) → at ≡ from + prefix_len p (drop from text) → at < length text → p (get_or text at 0) ≡ false
leading_stops p text from at value h =
    let left = length-drop from text in
    let place = get_or-drop from text (prefix_len p (drop from text)) 0 in
    ap (λ k. p (get_or text k 0)) value ∙ ap p (sym place) ∙ prefix_len_stops p (drop from text) 0 (omega arith)
