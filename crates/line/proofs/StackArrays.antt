-- A stack in an array has its top last, and read as a list its top first.
use Rattle.std.proofs.Common.{◌≡◌, ℕ, ◌+◌, ◌-◌, ◌<◌, ◌≤◌, Bool, List, [], ◌∷◌, ◌++◌, reverse, length, get_or, take, drop, set, sym, ap, ◌∙◌, arith}
use Rattle.std.proofs.lemmas.List.{reverse-append, length-reverse, length-drop, length-take-le, take-append-drop, take-take, take_more, take_more_set, drop_at}
use Rattle.line.specs.PlanLines.{PlanLine}

-- The array's first n elements, the last first.
abbrev stack : ℕ → List ℕ → List ℕ
stack n xs = reverse (take n xs)

-- Putting a state on.
pub stack_put : (xs : List ℕ) (n x : ℕ) → n < length xs → stack (n + 1) (set xs n x) ≡ x ∷ stack n xs
stack_put xs n x h = ap reverse (take_more_set xs n x h) ∙ reverse-append (take n xs) (x ∷ [])

-- The top.
pub stack_top : (xs : List ℕ) (n : ℕ) → n < length xs → stack (n + 1) xs ≡ get_or xs n 0 ∷ stack n xs
stack_top xs n h = ap reverse (take_more xs n 0 h) ∙ reverse-append (take n xs) (get_or xs n 0 ∷ [])

-- Taking k off.
pub stack_off : (xs : List ℕ) (n k : ℕ) → k ≤ n → n ≤ length xs → drop k (stack n xs) ≡ stack (n - k) xs
stack_off xs n k h l =
    let m : n - k ≤ n = omega arith in
    let rest : List ℕ = drop (n - k) (take n xs) in
    let split : take n xs ≡ take (n - k) xs ++ rest = sym (take-append-drop (n - k) (take n xs)) ∙ ap (λ p. p ++ rest) (take-take (n - k) n xs m) in
    let long : length (reverse rest) ≡ k = omega (arith, length-reverse rest, length-drop (n - k) (take n xs), length-take-le n xs l) in
    ap (λ p. drop k (reverse p)) split ∙ ap (drop k) (reverse-append (take (n - k) xs) rest) ∙ drop_at (reverse rest) (stack (n - k) xs) k long

-- What lies under k.
pub stack_under : (xs : List ℕ) (n k : ℕ) → k < n → n ≤ length xs → drop k (stack n xs) ≡ get_or xs (n - k - 1) 0 ∷ drop (k + 1) (stack n xs)
stack_under xs n k h l =
    let one : n - k ≡ (n - k - 1) + 1 = omega arith in
    let same : n - (k + 1) ≡ n - k - 1 = omega arith in
    let low : n - k - 1 < length xs = omega arith in
    stack_off xs n k (omega arith) l ∙ ap (λ m. stack m xs) one ∙ stack_top xs (n - k - 1) low ∙ ap (λ m. get_or xs (n - k - 1) 0 ∷ stack m xs) (sym same) ∙ ap (λ ρ. get_or xs (n - k - 1) 0 ∷ ρ) (sym (stack_off xs n (k + 1) (omega arith) l))

-- A state put in the place of the topmost k.
pub stack_replace : (xs : List ℕ) (n k x : ℕ) → k ≤ n → n ≤ length xs → n - k < length xs → stack (n - k + 1) (set xs (n - k) x) ≡ x ∷ drop k (stack n xs)
stack_replace xs n k x h l m = stack_put xs (n - k) x m ∙ ap (λ ρ. x ∷ ρ) (sym (stack_off xs n k h l))

abbrev plan_line : Bool → List ℕ → List ℕ → List ℕ → PlanLine
plan_line judged σ ws ps = record { judged = judged; line = record { states = σ; words = ws; rules = ps } }

-- Lines with the same states, words and rules.
pub same_line : (judged : Bool) {σ τ ws vs ps qs : List ℕ} → σ ≡ τ → ws ≡ vs → ps ≡ qs → plan_line judged σ ws ps ≡ plan_line judged τ vs qs
same_line judged {σ} {τ} {ws} {vs} {ps} {qs} e f g = ap (λ x. plan_line judged x ws ps) e ∙ ap (λ x. plan_line judged τ x ps) f ∙ ap (plan_line judged τ vs) g
