-- What is proved of the definitions, and nothing else.
use Rattle.std.specs.Prelude.{◌≡◌, ℕ, ◌+◌, ◌<◌, ◌≤◌, ◌↔◌, List, [], ◌∷◌, ◌++◌, reverse, length, drop, Option, Some}
use Rattle.grammar.specs.Grammar.{Grammar, Valid, left_side, right_side}
use Rattle.grammar.specs.Trees.{TreeOf, AllProductive}
use Rattle.grammar.specs.Derivation.{Derives, ShortSentence, Begins, Rightmost, derive}
use Rattle.grammar.specs.Items.{Items, Same}
use Rattle.grammar.specs.States.{Automaton, Reached, Numbered, Crowded, Agree, Laws}
use Rattle.grammar.specs.Cells.{Holds, ConflictFree, Exact}
use Rattle.grammar.specs.Machine.{Run, AcceptsWords, FewReductions}
use Rattle.grammar.specs.Line.{Line, Open, after, take_word, judge_line}
use Rattle.grammar.specs.Outcome.{Built, Outcome, SameBuilt}
use Rattle.grammar.specs.declared.action.Action.{Action}
use Rattle.grammar.specs.declared.action.Action.TheVariants.{Reduce}

-- The states of a grammar, numbered.
pub record Given (G : Grammar) (n : ℕ) (A : Automaton) : Type 0 where
  pub valid : Valid G
  pub numbered : Numbered G n A

-- The machine accepts every sentence, with the rules of its tree; and all derivations of a sentence are equal, where no cell has two actions.
abbrev pub Completeness : Type 0
Completeness = (G : Grammar) (n : ℕ) (A : Automaton) → Given G n A → (ws ps : List ℕ) → TreeOf G ws ps → AcceptsWords G A ws ps

abbrev pub Unambiguity : Type 0
Unambiguity = (G : Grammar) (n : ℕ) (A : Automaton) → Given G n A → ConflictFree G A → (ws ds es : List ℕ) → Derives G ds ws → Derives G es ws → ds ≡ es

-- What is accepted is a sentence, and what was noted, reversed, is its rightmost derivation.
abbrev pub Soundness : Type 0
Soundness = (G : Grammar) (n : ℕ) (A : Automaton) → Given G n A → (ws ps : List ℕ) → AcceptsWords G A ws ps → Derives G (reverse ps) ws

-- Wherever the machine stands, a reduction finds its states on the stack and its goto.
abbrev pub NeverStuck : Type 0
NeverStuck = (G : Grammar) (n : ℕ) (A : Automaton) → Given G n A → (ws j ps σ : List ℕ) (s w r : ℕ) → Run G A (0 ∷ []) (ws ++ j) ps (s ∷ σ) j → Holds G A s w (Reduce r) → (q : ℕ) × (ρ : List ℕ) × (t : ℕ) × (drop (length (right_side G r)) (s ∷ σ) ≡ q ∷ ρ) × (A.goto q (left_side G r) ≡ Some t)

-- What was taken begins a sentence, where every nonterminal is productive.
abbrev pub ViablePrefix : Type 0
ViablePrefix = (G : Grammar) (n : ℕ) (A : Automaton) → Given G n A → AllProductive G → (ws j ps τ : List ℕ) → Run G A (0 ∷ []) (ws ++ j) ps τ j → Begins G ws

-- A word is taken wherever some sentence goes on so: the machine, run on anything that begins with the words of a sentence, gets behind them.
abbrev pub Taken : Type 0
Taken = (G : Grammar) (n : ℕ) (A : Automaton) → Given G n A → (ws j : List ℕ) (w : ℕ) → Begins G (ws ++ w ∷ []) → (ps τ : List ℕ) × Run G A (0 ∷ []) (ws ++ w ∷ j) ps τ j

-- A list of rules is a rightmost derivation exactly when its reverse is the post-order of a tree.
abbrev pub Postorder : Type 0
Postorder = (G : Grammar) → Valid G → (ds ws : List ℕ) → Derives G ds ws ↔ TreeOf G ws (reverse ds)

-- Replacing the last nonterminal step by step is the same relation.
abbrev pub Stepwise : Type 0
Stepwise = (G : Grammar) → Valid G → (ds form ws : List ℕ) → (derive G ds form ≡ Some ws) ↔ Rightmost G form ds ws

-- An open line is judged good exactly when its words are a sentence with at most 768 derivation steps; its rules are then that derivation, reversed.
abbrev pub JudgedGood : Type 0
JudgedGood = (G : Grammar) (n : ℕ) (A : Automaton) (cells : ℕ → ℕ → Option Action) → Given G n A → Exact G A cells → (l : Line) → Open G A cells l → ((m : Line) × (judge_line G A cells l ≡ after m)) ↔ ShortSentence G l.words

abbrev pub JudgedRules : Type 0
JudgedRules = (G : Grammar) (n : ℕ) (A : Automaton) (cells : ℕ → ℕ → Option Action) → Given G n A → Exact G A cells → (l m : Line) → Open G A cells l → judge_line G A cells l ≡ after m → Derives G (reverse m.rules) l.words

-- A word that comes to an open line below its limits is taken exactly when some sentence begins so.
abbrev pub WordTaken : Type 0
WordTaken = (G : Grammar) (n : ℕ) (A : Automaton) (cells : ℕ → ℕ → Option Action) → Given G n A → AllProductive G → Exact G A cells → (l : Line) (w : ℕ) → Open G A cells l → length l.words < 256 → FewReductions G A (l.words ++ w ∷ []) → ((m : Line) × (take_word G A cells l w ≡ after m)) ↔ Begins G (l.words ++ w ∷ [])

-- An open line has at most 1,025 states.
abbrev pub Depth : Type 0
Depth = (G : Grammar) (A : Automaton) (cells : ℕ → ℕ → Option Action) → Exact G A cells → (l : Line) → Open G A cells l → (length l.words ≤ 256) × (length l.rules ≤ 768) × (length l.states ≤ 1 + length l.words + length l.rules)

-- The numbered states are exactly the sets reached by moves from state 0, each once.
pub record Listed (G : Grammar) (n : ℕ) (A : Automaton) (S : Items) : Type 0 where
  pub number : ℕ
  pub low : number < n
  pub same : Same (A.has number) S
  pub once : (s : ℕ) → s < n → Same (A.has s) S → s ≡ number

abbrev pub NumberedStates : Type 0
NumberedStates = (G : Grammar) (n : ℕ) (A : Automaton) → Numbered G n A → (S : Items) → Reached G S ↔ Listed G n A S

-- The numbered states keep the laws on which all else stands.
abbrev pub LawfulStates : Type 0
LawfulStates = (G : Grammar) (n : ℕ) (A : Automaton) → Numbered G n A → Laws G A

-- There is one numbering at most, and none of 96 states where a 97th is reached.
abbrev pub OneNumbering : Type 0
OneNumbering = (G : Grammar) (n m : ℕ) (A B : Automaton) → Numbered G n A → Numbered G m B → (n ≡ m) × Agree A B

abbrev pub NotCrowded : Type 0
NotCrowded = (G : Grammar) (n : ℕ) (A : Automaton) → n ≤ 96 → Numbered G n A → Crowded G → ⊥

-- At most one outcome fits a grammar.
abbrev pub OneOutcome : Type 0
OneOutcome = (G : Grammar) (x y : Built) → Outcome G x → Outcome G y → SameBuilt x y
