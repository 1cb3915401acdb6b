-- Rightmost derivations: each rule replaces the last nonterminal of the form, its own left side, by its right side.
use Rattle.std.specs.Prelude.{ℕ, ◌≤◌, Bool, cond, ◌&&◌, List, [], ◌∷◌, ◌++◌, length, ◌==◌, nat_le, Option, Some, None, option_and_then}
use Rattle.grammar.specs.Grammar.{Grammar, IsRule, AllTerminals, left_side, right_side, start}

-- A form, the rules that replace its last nonterminal one after the other, and the words that are left.
pub data Rightmost (G : Grammar) : List ℕ → List ℕ → List ℕ → Type 0 where
  done : {ws : List ℕ} → AllTerminals G ws → Rightmost G ws [] ws
  step : {r : ℕ} {rs ws : List ℕ} (α us : List ℕ) → IsRule G r → AllTerminals G us → Rightmost G (α ++ (right_side G r ++ us)) rs ws → Rightmost G (α ++ left_side G r ∷ us) (r ∷ rs) ws

-- The rules ds are a rightmost derivation of the words ws, from the start alone; each is a derivation step.
abbrev pub Derives : Grammar → List ℕ → List ℕ → Type 0
Derives G ds ws = Rightmost G (start G ∷ []) ds ws

-- A sentence is a list of words that has a rightmost derivation.
abbrev pub Sentence : Grammar → List ℕ → Type 0
Sentence G ws = (ds : List ℕ) × Derives G ds ws

-- A sentence with at most 768 derivation steps.
abbrev pub ShortSentence : Grammar → List ℕ → Type 0
ShortSentence G ws = (ds : List ℕ) × Derives G ds ws × (length ds ≤ 768)

-- Some sentence begins with the words.
abbrev pub Begins : Grammar → List ℕ → Type 0
Begins G ws = (vs : List ℕ) × Sentence G (ws ++ vs)

abbrev pub is_terminal : Grammar → ℕ → Bool
is_terminal G w = nat_le 1 w && nat_le w G.terminals

abbrev pub is_rule : Grammar → ℕ → Bool
is_rule G r = nat_le 1 r && nat_le r (length G.rules)

-- The same as a computation: a form is cut at its last nonterminal.
pub record Cut : Type 0 where
  pub before : List ℕ
  pub nonterminal : ℕ
  pub after : List ℕ

abbrev pub cut_at : Grammar → ℕ → List ℕ → Option Cut → Option Cut
cut_at G Y Ys (Some c) = Some (record { before = Y ∷ c.before; nonterminal = c.nonterminal; after = c.after })
cut_at G Y Ys None = cond (is_terminal G Y) None (Some (record { before = []; nonterminal = Y; after = Ys }))

unfoldable pub last_nonterminal : Grammar → List ℕ → Option Cut
last_nonterminal G [] = None
last_nonterminal G (Y ∷ Ys) = cut_at G Y Ys (last_nonterminal G Ys)

-- The form after a rule, if its left side is the last nonterminal.
abbrev pub replaced : Grammar → ℕ → Option Cut → Option (List ℕ)
replaced G r None = None
replaced G r (Some c) = cond (is_rule G r && c.nonterminal == left_side G r) (Some (c.before ++ (right_side G r ++ c.after))) None

-- Just words are left.
abbrev pub finished : List ℕ → Option Cut → Option (List ℕ)
finished ws None = Some ws
finished ws (Some c) = None

-- The words that a list of rules leads to from a form, if each rule replaces the last nonterminal.
unfoldable pub derive : Grammar → List ℕ → List ℕ → Option (List ℕ)
derive G [] form = finished form (last_nonterminal G form)
derive G (r ∷ rs) form = option_and_then (derive G rs) (replaced G r (last_nonterminal G form))
