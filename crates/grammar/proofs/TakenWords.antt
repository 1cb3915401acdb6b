-- A word that comes to an open line below its limits is taken exactly when some sentence begins so.
use Rattle.std.proofs.Common.{◌≡◌, ℕ, ◌-◌, ◌<◌, Bool, false, cond, not, List, [], ◌∷◌, ◌++◌, length, sym, refl, ap, ◌∙◌, subst, append_assoc, arith, length-append, Option}
use Rattle.std.proofs.Math.Seq.{drop-append_seam}
use Rattle.std.proofs.lemmas.List.Elements.{All-head, All-drop}
use borrow.Author.Tests.{lt-leb}
use Rattle.grammar.specs.Grammar.{Grammar, Valid, IsTerminal, AllTerminals}
use Rattle.grammar.specs.Trees.{AllProductive}
use Rattle.grammar.specs.Derivation.{Derives, Begins}
use Rattle.grammar.specs.States.{Automaton, Laws}
use Rattle.grammar.specs.Cells.{Exact}
use Rattle.grammar.specs.Machine.{halt, reduce, FewReductions}
use Rattle.grammar.specs.Line.{Line, Ended, stuck, full, shifted, accepted, runs, Turned, after, refused, after_word, take_word}
use Rattle.grammar.specs.declared.action.Action.{Action}
use Rattle.grammar.proofs.Forests.{terminals_of}
use Rattle.grammar.proofs.Runs.{then}
use Rattle.grammar.proofs.SpelledStacks.{stands_at, can_reduce}
use Rattle.grammar.proofs.FormSteps.{is_terminal_lem}
use Rattle.grammar.proofs.Sentences.{tree_of, begins_sentence}
use Rattle.grammar.proofs.AcceptedPrefixes.{no_middle}
use Rattle.grammar.proofs.MachineEnds.{Says, says, Agrees, agrees}
use Rattle.grammar.proofs.OpenLines.{Standing, same_line, not_after, machine_says}
use Rattle.grammar.proofs.JudgedLines.{rest}

middle_terminal : (G : Grammar) (us : List ℕ) (w : ℕ) (z : List ℕ) → AllTerminals G ((us ++ w ∷ []) ++ z) → IsTerminal G w
middle_terminal G us w z h =
    let rest : AllTerminals G (w ∷ z) = subst (AllTerminals G) (drop-append_seam us (w ∷ z)) (All-drop (IsTerminal G) (length us) _ (rw append_assoc at h)) in
    All-head (IsTerminal G) w z rest

words_ended : (l : Line) {m : Line} (w : ℕ) (o : Ended) → after_word l w o ≡ after m → m.words ≡ l.words ++ w ∷ []
words_ended l w stuck e = cc
words_ended l w full e = cc
words_ended l w (accepted τ ps) e = cc
words_ended l w (shifted τ ps) e = sym (ap (λ m. m.words) (same_line e))

-- A word taken is the line's last.
pub words_after : (G : Grammar) (A : Automaton) (cells : ℕ → ℕ → Option Action) (l m : Line) (w : ℕ) → take_word G A cells l w ≡ after m → m.words ≡ l.words ++ w ∷ []
words_after G A cells l m w e = words_ended l w (runs G A cells (768 - length l.rules) w l.states) (machine_says G A cells l w e not_after not_after).1

-- Each word with which a sentence begins is a terminal.
pub begins_terminal : {G : Grammar} → Valid G → (us : List ℕ) (w : ℕ) → Begins G (us ++ w ∷ []) → IsTerminal G w
begins_terminal {G} v us w b = middle_terminal G us w b.0 (terminals_of (tree_of v b.1.0 ((us ++ w ∷ []) ++ b.0) b.1.1))

module _ {G : Grammar} {A : Automaton} (v : Valid G) (L : Laws G A) (cells : ℕ → ℕ → Option Action) (exact : Exact G A cells) (l : Line) (w : ℕ) (st : Standing G A l) where
  -- Room for no further rule: a run over the words and w makes a 769th reduction.
  pub overfull : FewReductions G A (l.words ++ w ∷ []) → Says G A (768 - length l.rules) w l.states full → ⊥
  overfull few s =
      let y = s [] in
      let r = then (st.run (w ∷ [])) y.4 in
      let p = stands_at L l.words r in
      let c = can_reduce L p.spells y.5 in
      let m = few ((l.rules ++ y.0) ++ y.3 ∷ []) (c.2 ∷ c.0 ∷ c.1) (w ∷ []) (then r (reduce y.5 c.3 c.4 halt)) in
      omega (arith, m, length-append (l.rules ++ y.0) (y.3 ∷ []), length-append l.rules y.0, y.6, st.few_rules)

  begins_ended : FewReductions G A (l.words ++ w ∷ []) → (z qs : List ℕ) (o : Ended) → Says G A (768 - length l.rules) w l.states o → Agrees G A (768 - length l.rules) (z ++ 0 ∷ []) qs o → (m : Line) × (after_word l w o ≡ after m)
  begins_ended few z qs stuck s x = absurd x
  begins_ended few z qs full s x = absurd (overfull few s)
  begins_ended few z qs (accepted τ ps) s x = absurd (no_middle z 0 [] (sym x))
  begins_ended few z qs (shifted τ ps) s x = (record { states = τ; words = l.words ++ w ∷ []; rules = l.rules ++ ps }, refl)

  untested : (o : Turned) {a b : Bool} → a ≡ false → b ≡ false → cond a (refused 11) (cond b (refused 12) o) ≡ o
  untested o e f = rw (e, f)

  pub begins_taken : length l.words < 256 → FewReductions G A (l.words ++ w ∷ []) → Begins G (l.words ++ w ∷ []) → (m : Line) × (take_word G A cells l w ≡ after m)
  begins_taken h few b =
      let z = b.0 in
      let n = 768 - length l.rules in
      let r = rest v L cells exact l st (w ∷ z) b.1.0 (subst (λ ws. Derives G b.1.0 ws) (append_assoc l.words (w ∷ []) z) b.1.1) in
      let y = begins_ended few z r.0 (runs G A cells n w l.states) (says G A cells exact n w l.states) (agrees G A cells exact n r.2) in
      (y.0, untested (after_word l w (runs G A cells n w l.states)) (lt-leb 256 (length l.words) h) (ap not (is_terminal_lem G w (begins_terminal v l.words w b))) ∙ y.1)

-- What a line has taken begins a sentence.
pub taken_begins : {G : Grammar} {A : Automaton} → Valid G → Laws G A → AllProductive G → (cells : ℕ → ℕ → Option Action) → Exact G A cells → (l m : Line) (w : ℕ) → Standing G A m → take_word G A cells l w ≡ after m → Begins G (l.words ++ w ∷ [])
taken_begins {G} {A} v L p cells exact l m w st e =
    subst (λ ws. Begins G ws) (words_after G A cells l m w e) (begins_sentence v L p m.words [] m.rules m.states (st.run []))
