-- Slips booked.
use Rattle.std.proofs.Common.{◌≡◌, ℕ, ◌+◌, ◌-◌, ◌^◌, ◌<◌, ◌≤◌, min, true, set, ltb, List, [], ◌∷◌, ◌++◌, reverse, length, sym, refl, ap, ◌∙◌, subst, subst₂, append_assoc, append-nil, add-zero, arith, length-append, ltb-false, ltb-true, Option}
use mathlib.Core.List.{reverse-reverse}
use Rattle.std.proofs.lemmas.Bool.{cond_both}
use Rattle.grammar.specs.Grammar.{Grammar, Valid}
use Rattle.grammar.specs.States.{Automaton, Laws}
use Rattle.grammar.specs.Cells.{Exact}
use Rattle.grammar.specs.Derivation.{Derives}
use Rattle.grammar.specs.Line.{Line}
use Rattle.grammar.specs.declared.action.Action.{Action}
use Rattle.grammar.proofs.Lawful.{lawful_states}
use Rattle.grammar.proofs.MachineEnds.{conflict_free}
use Rattle.grammar.proofs.Sentences.{one_derivation}
use Rattle.line.specs.Answers.{Answer, given, refused}
use Rattle.plan.specs.Turns.{SlipModel, Turn, book}
use Rattle.plan.specs.Account.{account, line_of}
use Rattle.plan.specs.Entries.{entry, EntryOf}
use Rattle.plan.specs.RightAnswers.{Ready, Unready, no_designer, other_status, bookable, BookCause, unready, no_room, RightBook}
use Rattle.tables.specs.Held.{holding}
use Rattle.line.specs.Steps.{Step, done, refused as not_done}
use Rattle.line.specs.PlanLines.{fresh_plan_line}
use Rattle.plan.specs.Model.{Model, PlanLine, plan_line}
use Rattle.plan.specs.Steps.{Stepped, BookStepped, placed, entry_on, counted, not_booking, book_step}
use Rattle.plan.specs.Shows.{account_line, Stands, Shows}
use Rattle.plan.proofs.Continuing.{TablesOf, Continues}
use Rattle.plan.proofs.Unreadiness.{not_ready, high_designer, low_designer}
use Rattle.plan.proofs.EntryLists.{same_entry, entries_more}
use Rattle.plan.proofs.ShownTurns.{line_shown, shown_same, shown_booked}

-- The entry of a judged line has its one derivation, reversed.
judged_entry : {G : Grammar} {A : Automaton} (v : Valid G) (L : Laws G A) (cells : ℕ → ℕ → Option Action) → Exact G A cells → (d : ℕ) (l : Line) → Derives G (reverse l.rules) l.words → EntryOf G (record { designer = d; words = l.words }) (entry d l.words l.rules)
judged_entry {G} {A} v L cells exact d l y =
    record {
      derivation = reverse l.rules;
      derives = y;
      only = λ ds z. one_derivation v L (conflict_free G A cells exact) l.words ds (reverse l.rules) z y;
      is = ap (λ rs. entry d l.words rs) (sym (reverse-reverse l.rules));
    }

module _ (G : Grammar) (n : ℕ) (A : Automaton) (cells : ℕ → ℕ → Option Action) (T : TablesOf G n A cells) {turns : List Turn} {b₀ : List ℕ} {n₀ : ℕ} {m : Model} {list : List ℕ} {free : ℕ} (s : Shows G A.goto cells turns b₀ n₀ m list free) (p : SlipModel) where
  abbrev entry_of : Model → ℕ → List ℕ
  entry_of m d = entry_on d (plan_line m d)

  abbrev Booked : BookStepped → Type 0
  Booked x = (list' : List ℕ) (free' : ℕ) → list' ≡ list ++ x.written → free ≡ free' + length x.written → Shows G A.goto cells (turns ++ book p x.answer ∷ []) b₀ n₀ x.next list' free'

  not_booked : (c : ℕ) → RightBook G n₀ (account turns) p.designer (refused c) → Booked (not_booking m c)
  not_booked c r list' free' e f = subst₂ (λ l i. Shows G A.goto cells (turns ++ book p (refused c) ∷ []) b₀ n₀ m l i) (sym (e ∙ append-nil list)) (f ∙ add-zero free') (shown_same G A cells s (book p (refused c)) r refl)

  book_unready : (c : ℕ) → Unready true p.designer (account_line (plan_line m p.designer)) c → Booked (not_booking m c)
  book_unready c u =
      let d = p.designer in
      let u' = subst (λ l. Unready true d l c) (sym (line_shown G A cells s d)) u in
      let w = s.law.written in
      not_booked c (record { list = w.list; entries = w.entries; done = (λ y. absurd y, λ y. not_ready u' y.0); count = λ i x. cc; cause = λ i x. unready (subst (λ i. Unready true d (line_of (account turns) d) i) (cc) u') })

  module _ (low : p.designer < 8) (judged : (plan_line m p.designer).judged ≡ true) where
    ready : Ready true p.designer (line_of (account turns) p.designer)
    ready = record { designer_low = low; status = ap (λ l. l.judged) (line_shown G A cells s p.designer) ∙ judged }

    the_entry : EntryOf G (bookable (account turns) p.designer) (entry_of m p.designer)
    the_entry =
        let d = p.designer in
        let l = (plan_line m d).line in
        subst (λ i. EntryOf G (record { designer = d; words = i.words }) (entry_of m d)) (sym (line_shown G A cells s d))
        (judged_entry T.given.valid (lawful_states G n A T.given.numbered) cells T.exact d l (subst (λ j. Stands G A.goto cells j l) judged (s.stands d)))

    no_book : free < length (entry_of m p.designer) → Booked (not_booking m 15)
    no_book h =
        let w = s.law.written in
        let over : n₀ < length w.list + length (entry_of m p.designer) = omega (arith, w.free) in
        not_booked 15
        (record {
          list = w.list;
          entries = w.entries;
          done = (λ y. absurd y, λ y. omega (arith, over, y.1.2, ap length (same_entry y.1.1 the_entry)));
          count = λ i x. cc;
          cause = λ i x. subst (λ i. BookCause G n₀ (account turns) p.designer w.list i) (cc) (no_room ready (entry_of m p.designer, the_entry, over));
        })

    booked : length (entry_of m p.designer) ≤ free → Booked (counted (given (entry_of m p.designer)) (record { lines = set m.lines p.designer fresh_plan_line; count = m.count }))
    booked h list' free' e f =
        let d = p.designer in
        let w = s.law.written in
        let b = bookable (account turns) d in
        let numbers = entry_of m d in
        let count = min (m.count + 1) (2 ^ 64 - 1) in
        let fits : length w.list + length numbers ≤ n₀ = omega (arith, w.free, h) in
        let counts : count ≡ min (length (account turns).booked + 1) (2 ^ 64 - 1) = omega (arith, s.count) in
        shown_booked G A cells s (book p (given count))
        (record {
          list = w.list;
          entries = w.entries;
          done = (λ y. (ready, (numbers, the_entry, fits)), λ y. tt);
          count = λ i x. let q = counts in cc;
          cause = λ i x. cc;
        })
        d count b refl (counts ∙ ap (λ i. min i (2 ^ 64 - 1)) (sym (length-append (account turns).booked (b ∷ []))))
        (record {
          list = w.list ++ numbers;
          entries = entries_more w.entries the_entry;
          book = e ∙ ap (λ l. l ++ numbers) w.book ∙ append_assoc b₀ w.list numbers;
          free = rw (length-append w.list numbers) (omega (arith, w.free, f));
        })

  pub book_shown : Booked (book_step (holding G n A cells) m free p.designer)
  book_shown =
      let d = p.designer in
      let l = plan_line m d in
      let Done : Stepped (List ℕ) → Type 0 = λ x. Booked (counted x.answer x.next) in
      let Turned : Step PlanLine (List ℕ) → Type 0 = λ t. Done (placed m d t) in
      cond_both (ltb 7 d) _ _ Done (λ e. book_unready 9 (no_designer (high_designer d e))) (λ e.
      cond_both l.judged _ (not_done 10) Turned (λ f.
      cond_both (ltb free (length (entry_of m d))) (not_done 15) (done (entry_of m d) fresh_plan_line) Turned (λ g. no_book (low_designer d e) f (ltb-true free (length (entry_of m d)) g)) (λ g.
      booked (low_designer d e) f (ltb-false free (length (entry_of m d)) g))) (λ f.
      book_unready 10 (other_status (low_designer d e) f)))

pub book_continues : (G : Grammar) (n : ℕ) (A : Automaton) (cells : ℕ → ℕ → Option Action) → TablesOf G n A cells → (m : Model) (list : List ℕ) (free : ℕ) (p : SlipModel) (x : Answer ℕ) (m' : Model) (numbers list' : List ℕ) (free' : ℕ) → book_step (holding G n A cells) m free p.designer ≡ record { answer = x; next = m'; written = numbers } → list' ≡ list ++ numbers → free ≡ free' + length numbers → Continues G A cells m list free (book p x) m' list' free'
book_continues G n A cells T m list free p x m' numbers list' free' e f g turns b₀ n₀ s = subst (Booked G n A cells T s p) e (book_shown G n A cells T s p) list' free' f g
