-- The lookaheads of DeRemer and Pennello.
use Rattle.std.specs.Prelude.{◌≡◌, ℕ, true, List, [], ◌∷◌, ◌++◌, Some}
use Rattle.grammar.specs.Grammar.{Grammar, IsTerminal, IsNonterminal, IsRule, left_side, right_side}
use Rattle.grammar.specs.Trees.{Nullable, AllNullable}
use Rattle.grammar.specs.States.{Automaton}

-- Zero or more steps.
pub data Star {B : Type 0} (R : B → B → Type 0) : B → B → Type 0 where
  stop : {a : B} → Star R a a
  go : {a b c : B} → R a b → Star R b c → Star R a c

-- The codes lead from one state to another.
pub data Leads (A : Automaton) : ℕ → List ℕ → ℕ → Type 0 where
  here : {s : ℕ} → Leads A s [] s
  onward : {s t u X : ℕ} {Xs : List ℕ} → A.goto s X ≡ Some t → Leads A t Xs u → Leads A s (X ∷ Xs) u

module _ (G : Grammar) (A : Automaton) where
  -- A transition: a state with a move by a nonterminal.
  pub record Transition (x : ℕ × ℕ) : Type 0 where
    pub nonterminal : IsNonterminal G x.1
    pub to : ℕ
    pub move : A.goto x.0 x.1 ≡ Some to

  -- The words by which a state moves, and 0 where it has rule 0 with the dot before the end mark.
  pub data Direct : ℕ → ℕ → Type 0 where
    next_word : {s w t : ℕ} → IsTerminal G w → A.goto s w ≡ Some t → Direct s w
    next_end : {s : ℕ} → A.has s 0 1 ≡ true → Direct s 0

  -- Transition (p, X) reads (q, Y): X leads from p to q, q moves by Y, and Y is nullable.
  pub record Reads (x y : ℕ × ℕ) : Type 0 where
    pub from : Transition x
    pub to : Transition y
    pub move : A.goto x.0 x.1 ≡ Some y.0
    pub nullable : Nullable G y.1

  -- Transition (p, X) includes (q, Y): a rule of Y is β X γ, all of γ is nullable, and β leads from q to p.
  pub record Includes (x y : ℕ × ℕ) : Type 0 where
    pub from : Transition x
    pub to : Transition y
    pub rule : ℕ
    pub before : List ℕ
    pub after : List ℕ
    pub is_rule : IsRule G rule
    pub is_left : left_side G rule ≡ y.1
    pub is_right : right_side G rule ≡ before ++ x.1 ∷ after
    pub nullables : AllNullable G after
    pub leads : Leads A y.0 before x.0

  -- A word of the read set: a direct word behind a transition reached by reads.
  pub record Read (x : ℕ × ℕ) (w : ℕ) : Type 0 where
    pub last : ℕ × ℕ
    pub steps : Star Reads x last
    pub is_transition : Transition last
    pub direct : Direct is_transition.to w

  -- A word of the follow set: one of a read set reached by includes.
  pub record Follow (x : ℕ × ℕ) (w : ℕ) : Type 0 where
    pub last : ℕ × ℕ
    pub steps : Star Includes x last
    pub read : Read last w

  -- A word of the lookahead of rule r in state s: one of a follow set of its left side in a state from which its right side leads to s.
  pub record Lookahead (s r w : ℕ) : Type 0 where
    pub back : ℕ
    pub leads : Leads A back (right_side G r) s
    pub follow : Follow (back, left_side G r) w
