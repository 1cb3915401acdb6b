-- Lists with every entry made are a numbering of the states.
use Rattle.std.proofs.Common.{◌≡◌, ℕ, ◌+◌, ◌*◌, ◌<◌, ◌≤◌, Bool, false, ◌&&◌, ltb, leb, List, sym, ap, ◌∙◌, subst, inl, inr, arith, Option, Some, None}
use Rattle.std.proofs.lemmas.Bool.{and_parts, and_from, and_left, ltb-true, leb-true, lt-ltb, le-ltb, le-leb, cond-true, cond-false, cases_Bool}
use Rattle.std.proofs.lemmas.Option.{same_Some, none-some}
use Rattle.grammar.specs.Grammar.{Grammar, Valid}
use Rattle.grammar.specs.Items.{Same, Completes, origin, Move, Waits}
use Rattle.grammar.specs.States.{Earlier, Met, Numbered}
use Rattle.grammar.specs.Outcome.{Within}
use Rattle.grammar.specs.ItemLists.{items_of}
use Rattle.grammar.specs.StateLists.{IsCode, state_at, goto_at, has_at, leads_at, automaton_of, Entry, nowhere, leads, MetAt, Sofar}
use Rattle.grammar.proofs.Completion.{equal_sets}
use Rattle.grammar.proofs.Codes.{code_in_range}
use Rattle.grammar.proofs.ItemLists.{equal_lists}

entry_leads : {G : Grammar} {n : ℕ} {sets : List (List Bool)} {xs : List Bool} {X v : ℕ} → Entry G n sets xs X v → Waits G (items_of xs) X → (v < n) × Move G (items_of xs) X (items_of (state_at sets v))
entry_leads (nowhere h) w = absurd (h w)
entry_leads (leads l w m) v = (l, m)

entry_waits : {G : Grammar} {n : ℕ} {sets : List (List Bool)} {xs : List Bool} {X v : ℕ} → n ≤ 96 → Entry G n sets xs X v → v < n → Waits G (items_of xs) X
entry_waits few (nowhere h) l = absurd (omega arith)
entry_waits few (leads b w m) l = w

module _ (n : ℕ) (sets : List (List Bool)) where
  -- The items of a state are those of its list, and a number from n on has none.
  pub has_state : (s : ℕ) → s < n → has_at n sets s ≡ items_of (state_at sets s)
  unfolding has_at
  has_state s l = equal_sets (has_at n sets s) (items_of (state_at sets s)) λ r d. ap (λ b. b && items_of (state_at sets s) r d) (lt-ltb s n l)

  pub has_none : (s r d : ℕ) → n ≤ s → has_at n sets s r d ≡ false
  unfolding has_at
  has_none s r d l = and_left (ltb s n) (items_of (state_at sets s) r d) (le-ltb s n l)

-- What a move of the lists says.
record Goes (G : Grammar) (n : ℕ) (gotos : List ℕ) (s X t : ℕ) : Type 0 where
  from : s < n
  code : IsCode G X
  entry : goto_at gotos s X ≡ t
  to : goto_at gotos s X < n

module _ (G : Grammar) (n : ℕ) (gotos : List ℕ) where
  goes : (s X t : ℕ) → leads_at G n gotos s X ≡ Some t → Goes G n gotos s X t
  unfolding leads_at
  goes s X t h =
      elim (cases_Bool (ltb s n && (leb 1 X && (leb X (G.terminals + G.nonterminals) && ltb (goto_at gotos s X) n)))) [
        | inl b ↦
            (let p = and_parts (ltb s n) _ b in
            let q = and_parts (leb 1 X) _ p.1 in
            let u = and_parts (leb X (G.terminals + G.nonterminals)) _ q.1 in
            record {
              from = ltb-true s n p.0;
              code = record { low = leb-true 1 X q.0; high = leb-true X (G.terminals + G.nonterminals) u.0 };
              entry = same_Some _ _ (sym (cond-true _ (Some (goto_at gotos s X)) None b) ∙ h);
              to = ltb-true (goto_at gotos s X) n u.1;
            })
        | inr b ↦ absurd (none-some t (sym (cond-false _ (Some (goto_at gotos s X)) None b) ∙ h))
      ]

  going : (s X : ℕ) → s < n → IsCode G X → goto_at gotos s X < n → leads_at G n gotos s X ≡ Some (goto_at gotos s X)
  unfolding leads_at
  going s X l o b =
      cond-true _ (Some (goto_at gotos s X)) None
      (and_from (ltb s n) _ (lt-ltb s n l) (and_from (leb 1 X) _ (le-leb 1 X o.low) (and_from (leb X (G.terminals + G.nonterminals)) _ (le-leb X (G.terminals + G.nonterminals) o.high) (lt-ltb (goto_at gotos s X) n b))))

module _ (G : Grammar) (V : Valid G) (W : Within G) (n : ℕ) (sets : List (List Bool)) (gotos : List ℕ) (s : ℕ) (f : Sofar G n sets gotos s 1) (far : n ≤ s) where
  entries : (p Y : ℕ) → p < n → IsCode G Y → Entry G n sets (state_at sets p) Y (goto_at gotos p Y)
  entries p Y l o = f.entries p Y o (omega (arith, o.high, W.counts.terminals, W.counts.nonterminals))

  met_state : (t : ℕ) → 1 ≤ t → t < n → Met (automaton_of G n sets gotos) t
  met_state t low l =
      let m = f.met t low l in
      let at = m.3 in
      record {
        state = m.0;
        code = m.1;
        lower = at.lower;
        here = going G n gotos m.0 m.1 (omega (arith, at.lower)) at.code (omega (arith, at.here)) ∙ ap {B = Option ℕ} Some at.here;
        before = λ p Y u early e. earlier m.0 m.1 at p Y u early (goes G n gotos p Y u e);
      }
    where
      place : (a b p Y : ℕ) → IsCode G Y → Earlier p Y a b → 88 * p + Y < 88 * a + b
      place a b p Y o (inl h) = omega (arith, o.high, W.counts.terminals, W.counts.nonterminals)
      place a b p Y o (inr h) = omega (arith, h.0, h.1)

      earlier : (a b : ℕ) → MetAt G gotos t a b → (p Y u : ℕ) → Earlier p Y a b → Goes G n gotos p Y u → u < t
      earlier a b at p Y u early g =
          elim (at.before p Y g.code (place a b p Y g.code early)) [
            | inl e ↦ absurd (omega (arith, g.to, f.high))
            | inr h ↦ omega (arith, g.entry)
          ]

  pub numbered_lists : Numbered G n (automaton_of G n sets gotos)
  numbered_lists =
      record {
        some_state = f.low;
        begins = subst (λ S. Completes G origin S) (sym (state 0 f.low)) f.begins;
        apart = λ i j l h same. f.apart i j l h (equal_lists (state_at sets i) (state_at sets j) (f.state_sizes i l ∙ sym (f.state_sizes j h)) (subst (λ S. Same S (items_of (state_at sets j))) (state i l) (subst (λ S. Same (has_at n sets i) S) (state j h) same)));
        moves = moves;
        only = only;
        met = met_state;
        outside = has_none n sets;
      }
    where
      state : (i : ℕ) → i < n → has_at n sets i ≡ items_of (state_at sets i)
      state = has_state n sets

      moves : (i X : ℕ) → i < n → Waits G (has_at n sets i) X → (t : ℕ) × (leads_at G n gotos i X ≡ Some t) × (t < n) × Move G (has_at n sets i) X (has_at n sets t)
      moves i X l w =
          let o = code_in_range G V w.rule w.dot X w.code in
          let e = entry_leads (entries i X l o) (subst (λ S. Waits G S X) (state i l) w) in
          let t = goto_at gotos i X in
          let m : Move G (items_of (state_at sets i)) X (has_at n sets t) = subst (λ S. Move G (items_of (state_at sets i)) X S) (sym (state t e.0)) e.1 in
          (t, going G n gotos i X l o e.0, e.0, subst (λ S. Move G S X (has_at n sets t)) (sym (state i l)) m)

      only : (i X t : ℕ) → leads_at G n gotos i X ≡ Some t → (i < n) × Waits G (has_at n sets i) X
      only i X t h =
          let g = goes G n gotos i X t h in
          (g.from, subst (λ S. Waits G S X) (sym (state i g.from)) (entry_waits f.high (entries i X g.from g.code) g.to))
