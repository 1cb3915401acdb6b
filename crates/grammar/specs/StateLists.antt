-- Numbered states as lists: the set of each state, and where each code leads from each, at 88 times the state and the code, 255 for nowhere.
use Rattle.std.specs.Prelude.{◌≡◌, ℕ, ◌+◌, ◌*◌, ◌<◌, ◌≤◌, Bool, cond, ◌&&◌, ◌⊎◌, List, [], length, ◌≢◌, nat_le, nat_lt, slice_index, slice_index_or, slice_set, Option, Some, None}
use Rattle.grammar.specs.Grammar.{Grammar}
use Rattle.grammar.specs.Items.{Completes, origin, Move, Waits}
use Rattle.grammar.specs.States.{Automaton, Reached}
use Rattle.grammar.specs.ItemLists.{items_of}

-- A code of a right side.
pub record IsCode (G : Grammar) (X : ℕ) : Type 0 where
  pub low : 1 ≤ X
  pub high : X ≤ G.terminals + G.nonterminals

abbrev pub state_at : List (List Bool) → ℕ → List Bool
state_at sets s = slice_index_or sets s []

abbrev pub goto_at : List ℕ → ℕ → ℕ → ℕ
goto_at gotos s X = slice_index gotos (88 * s + X)

-- The automaton of n such states.
unfoldable pub has_at : ℕ → List (List Bool) → ℕ → ℕ → ℕ → Bool
has_at n sets s r d = nat_lt s n && items_of (state_at sets s) r d

unfoldable pub leads_at : Grammar → ℕ → List ℕ → ℕ → ℕ → Option ℕ
leads_at G n gotos s X = cond (nat_lt s n && (nat_le 1 X && (nat_le X (G.terminals + G.nonterminals) && nat_lt (goto_at gotos s X) n))) (Some (goto_at gotos s X)) None

abbrev pub automaton_of : Grammar → ℕ → List (List Bool) → List ℕ → Automaton
automaton_of G n sets gotos = record { has = has_at n sets; goto = leads_at G n gotos }

-- The entry of a state at a code: 255 where no item waits for the code, and else the state that the move leads to.
pub data Entry (G : Grammar) (n : ℕ) (sets : List (List Bool)) (xs : List Bool) (X : ℕ) : ℕ → Type 0 where
  nowhere : (Waits G (items_of xs) X → ⊥) → Entry G n sets xs X 255
  leads : {t : ℕ} → t < n → Waits G (items_of xs) X → Move G (items_of xs) X (items_of (state_at sets t)) → Entry G n sets xs X t

-- State t is new at this state and code: all entries before have lower states.
pub record MetAt (G : Grammar) (gotos : List ℕ) (t s X : ℕ) : Type 0 where
  pub lower : s < t
  pub code : IsCode G X
  pub here : goto_at gotos s X ≡ t
  pub before : (p Y : ℕ) → IsCode G Y → 88 * p + Y < 88 * s + X → (goto_at gotos p Y ≡ 255) ⊎ (goto_at gotos p Y < t)

-- The numbering as far as the entries before a state and a code.
pub record Sofar (G : Grammar) (n : ℕ) (sets : List (List Bool)) (gotos : List ℕ) (s X : ℕ) : Type 0 where
  pub low : 1 ≤ n
  pub high : n ≤ 96
  pub upto : s ≤ n
  pub sets_size : length sets ≡ 96
  pub gotos_size : length gotos ≡ 8448
  pub state_sizes : (i : ℕ) → i < n → length (state_at sets i) ≡ 873
  pub begins : Completes G origin (items_of (state_at sets 0))
  pub reached : (i : ℕ) → i < n → Reached G (items_of (state_at sets i))
  pub apart : (i j : ℕ) → i < n → j < n → state_at sets i ≡ state_at sets j → i ≡ j
  pub entries : (p Y : ℕ) → IsCode G Y → 88 * p + Y < 88 * s + X → Entry G n sets (state_at sets p) Y (goto_at gotos p Y)
  pub met : (t : ℕ) → 1 ≤ t → t < n → (p Y : ℕ) × (88 * p + Y < 88 * s + X) × MetAt G gotos t p Y

-- What giving a list a number does: it was there, or it is put at the end, or there is no room.
pub data Placed (items : List Bool) (n : ℕ) (sets : List (List Bool)) : ℕ → List (List Bool) → ℕ → Type 0 where
  old : {t : ℕ} → t < n → state_at sets t ≡ items → Placed items n sets n sets t
  new : {t : ℕ} → t ≡ n → n < 96 → ((j : ℕ) → j < n → state_at sets j ≢ items) → Placed items n sets (n + 1) (slice_set sets t items) t
  full : n ≡ 96 → ((j : ℕ) → j < n → state_at sets j ≢ items) → Placed items n sets n sets 96
