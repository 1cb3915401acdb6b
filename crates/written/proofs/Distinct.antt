-- Spellings collected by first appearance.
use Rattle.std.proofs.Common.{◌≡◌, ℕ, ◌<◌, ◌≤◌, true, false, cond, List, [], ◌∷◌, ◌++◌, length, take, drop, Ok, Err, Some, Option, Bor, sym, refl, ap, ◌∙◌, subst, arith, take-append-drop}
use Rattle.std.specs.Iterator.{Yields}
use Rattle.std.proofs.iter.Next.{Yields-more}
use Rattle.std.proofs.lemmas.Iterator.{YieldsList, items_from_drains}
use Rattle.std.proofs.lemmas.Iterator.Consumers.{YieldsList-so_far}
use Rattle.std.proofs.lemmas.List.{length-append, map-append}
use Rattle.bounded.specs.declared.full.Full.{Full}
use Rattle.written.specs.Spelled.{Collects, bytes, spelled}
use Rattle.written.specs.Statements.{member, noted, distinct, distinct_from}
use Rattle.written.specs.declared.spellings.Spellings.{Spellings}

distinct_append : (seen xs ys : List (List ℕ)) → distinct_from seen (xs ++ ys) ≡ distinct_from (distinct_from seen xs) ys
unfolding distinct_from
distinct_append seen [] ys = refl
distinct_append seen (x ∷ xs) ys = distinct_append (noted seen x) xs ys

noted_longer : (seen : List (List ℕ)) (x : List ℕ) → length seen ≤ length (noted seen x)
noted_longer seen x = elim (member x seen) as (λ v. length seen ≤ length (cond v seen (seen ++ x ∷ []))) [ true ↦ omega arith | false ↦ (let long = length-append seen (x ∷ []) in omega arith) ]

-- Spellings once noted stay.
distinct_longer : (xs seen : List (List ℕ)) → length seen ≤ length (distinct_from seen xs)
unfolding distinct_from
distinct_longer [] seen = omega arith
distinct_longer (x ∷ xs) seen = let a = noted_longer seen x in let b = distinct_longer xs (noted seen x) in omega arith

-- One more spelling is collected.
pub distinct_more : (xs : List (Bor (List ℕ))) (x : Bor (List ℕ)) → distinct (bytes (xs ++ x ∷ [])) ≡ noted (distinct (bytes xs)) x.now
unfolding distinct_from
distinct_more xs x = ap distinct (map-append (λ b. b.now) xs (x ∷ [])) ∙ distinct_append [] (bytes xs) (x.now ∷ [])

pub distinct_none : [] ≡ distinct (bytes [])
unfolding distinct_from
distinct_none = refl

-- What was noted before is what was collected from the spellings before.
pub noted_more : (seen after : List (List ℕ)) (xs : List (Bor (List ℕ))) (x : Bor (List ℕ)) → seen ≡ distinct (bytes xs) → after ≡ noted seen x.now → after ≡ distinct (bytes (xs ++ x ∷ []))
noted_more seen after xs x sofar one = one ∙ ap (λ s. noted s x.now) sofar ∙ sym (distinct_more xs x)

-- A spelling is one too many.
pub collects_full : {S : Type 0} (steps : S → Option (Bor (List ℕ)) → S → Type 0) (s t u : S) (xs : List (Bor (List ℕ))) (x : Bor (List ℕ)) (seen : List (List ℕ)) (e : Full)
    → Yields steps s xs t → steps t (Some x) u → seen ≡ distinct (bytes xs) → 63 < length (noted seen x.now) → Collects steps s (Err e)
collects_full steps s t u xs x seen e gave here sofar full =
    (xs ++ x ∷ [], u, Yields-more steps s xs t x u gave here, subst (λ l. 63 < length l) (noted_more seen (noted seen x.now) xs x sofar refl) full)

-- A list of spellings collected is what the iterator always gives, or it has too many.
pub collected_all : {S : Type 0} (steps : S → Option (Bor (List ℕ)) → S → Type 0) (s : S) (all : List (List ℕ)) (out : Spellings) → YieldsList steps (λ b. b.now) s all → Collects steps s (Ok out) → spelled out ≡ distinct all
collected_all steps s all out yields (xs, (u, (t, ys, end)), e) = e ∙ ap distinct (items_from_drains xs (t, ys, λ _. (u, end)) yields)

pub collected_full : {S : Type 0} (steps : S → Option (Bor (List ℕ)) → S → Type 0) (s : S) (all : List (List ℕ)) (e : Full) → YieldsList steps (λ b. b.now) s all → Collects steps s (Err e) → 63 < length (distinct all)
collected_full steps s all e yields (xs, t, ys, many) =
    let front = YieldsList-so_far yields xs t ys in
    let whole = ap distinct (sym (take-append-drop (length xs) all)) ∙ distinct_append [] (take (length xs) all) (drop (length xs) all) in
    let longer = distinct_longer (drop (length xs) all) (distinct (take (length xs) all)) in
    omega (arith, ap (λ l. length (distinct l)) front, ap length whole)
