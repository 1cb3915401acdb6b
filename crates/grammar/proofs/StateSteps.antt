-- The numbering of states in lists, entry by entry.
use Rattle.std.proofs.Common.{◌≡◌, ℕ, ◌+◌, ◌*◌, ◌<◌, ◌≤◌, Bool, cond, ltb, ◌⊎◌, List, [], length, set, sym, refl, ap, ◌∙◌, subst, inl, inr, arith, length-set}
use Rattle.std.proofs.lemmas.List.{get_or-set_same, get_or-set_other}
use Rattle.std.proofs.lemmas.Bool.{cases_lt, cond-true, lt-ltb}
use Rattle.grammar.specs.Grammar.{Grammar}
use Rattle.grammar.specs.Items.{Completes, origin, Move, Waits}
use Rattle.grammar.specs.States.{Reached, first, onward, Crowded}
use Rattle.grammar.specs.Outcome.{Within}
use Rattle.grammar.specs.ItemLists.{items_of}
use Rattle.grammar.specs.StateLists.{IsCode, state_at, goto_at, Entry, nowhere, leads, MetAt, Sofar}
use Rattle.grammar.proofs.ItemLists.{equal_lists}

entry_cases : {G : Grammar} {n : ℕ} {sets : List (List Bool)} {xs : List Bool} {X v : ℕ} → Entry G n sets xs X v → (v ≡ 255) ⊎ (v < n)
entry_cases (nowhere h) = inl refl
entry_cases (leads l w m) = inr l

module _ (G : Grammar) (W : Within G) where
  -- Rows of 88 entries keep apart.
  code_below : {X : ℕ} → IsCode G X → X < 88
  code_below o = omega (arith, o.high, W.counts.terminals, W.counts.nonterminals)

  -- The first state, before any entry.
  pub sofar_start : (sets : List (List Bool)) (gotos : List ℕ) → length sets ≡ 96 → length gotos ≡ 8448 → length (state_at sets 0) ≡ 873 → Completes G origin (items_of (state_at sets 0)) → Sofar G 1 sets gotos 0 1
  sofar_start sets gotos a b size c =
      record {
        low = omega arith;
        high = omega arith;
        upto = omega arith;
        sets_size = a;
        gotos_size = b;
        state_sizes = λ i l. let e : 0 ≡ i = omega arith in subst (λ j. length (state_at sets j) ≡ 873) e size;
        begins = c;
        reached = λ i l. let e : 0 ≡ i = omega arith in subst (λ j. Reached G (items_of (state_at sets j))) e (first c);
        apart = λ i j l h e. omega arith;
        entries = λ p Y o l. absurd (omega (arith, o.low));
        met = λ t l h. absurd (omega arith);
      }

  module _ (n : ℕ) (sets : List (List Bool)) (gotos : List ℕ) (s X : ℕ) (f : Sofar G n sets gotos s X) (inside : s < n) (ok : IsCode G X) where
    place : 88 * s + X < length gotos
    place = omega (arith, f.gotos_size, f.high, code_below ok)

    kept : (v p Y : ℕ) → 88 * p + Y < 88 * s + X → goto_at (set gotos (88 * s + X) v) p Y ≡ goto_at gotos p Y
    kept v p Y l = get_or-set_other gotos (88 * s + X) (88 * p + Y) v 0 (λ e. omega arith)

    put : (v : ℕ) → goto_at (set gotos (88 * s + X) v) s X ≡ v
    put v = get_or-set_same gotos (88 * s + X) v 0 place

    -- The entries before the next one: those before this one, and this one.
    split : (p Y : ℕ) → IsCode G Y → 88 * p + Y < 88 * s + (X + 1) → (88 * p + Y < 88 * s + X) ⊎ ((p ≡ s) × (Y ≡ X))
    split p Y o l =
        elim (cases_lt (88 * p + Y) (88 * s + X)) [
          | inl h ↦ inl h
          | inr h ↦ inr (let e : p ≡ s = omega (arith, code_below ok, code_below o) in (e, omega arith))
        ]

    met_kept : (v t p Y : ℕ) → 88 * p + Y < 88 * s + X → MetAt G gotos t p Y → MetAt G (set gotos (88 * s + X) v) t p Y
    met_kept v t p Y l m =
        record {
          lower = m.lower;
          code = m.code;
          here = kept v p Y l ∙ m.here;
          before = λ q Z o k. subst (λ g. (g ≡ 255) ⊎ (g < t)) (sym (kept v q Z (omega arith))) (m.before q Z o k);
        }

    -- What is said of this entry holds wherever it is looked up.
    at_entry : (P : ℕ → ℕ → ℕ → Type 0) (v p Y : ℕ) → p ≡ s → Y ≡ X → P s X v → P p Y (goto_at (set gotos (88 * s + X) v) p Y)
    at_entry P v p Y e d h =
        subst (λ q. P q Y (goto_at (set gotos (88 * s + X) v) q Y)) (sym e)
        (subst (λ Z. P s Z (goto_at (set gotos (88 * s + X) v) s Z)) (sym d) (subst (λ g. P s X g) (sym (put v)) h))

    -- An entry that names no new state.
    pub sofar_entry : (v : ℕ) → Entry G n sets (state_at sets s) X v → Sofar G n sets (set gotos (88 * s + X) v) s (X + 1)
    sofar_entry v e =
        record {
          low = f.low;
          high = f.high;
          upto = f.upto;
          sets_size = f.sets_size;
          gotos_size = length-set gotos (88 * s + X) v ∙ f.gotos_size;
          state_sizes = f.state_sizes;
          begins = f.begins;
          reached = f.reached;
          apart = f.apart;
          entries = λ p Y o l. elim (split p Y o l) [
            | inl h ↦ subst (λ g. Entry G n sets (state_at sets p) Y g) (sym (kept v p Y h)) (f.entries p Y o h)
            | inr k ↦ at_entry (λ q Z g. Entry G n sets (state_at sets q) Z g) v p Y k.0 k.1 e
          ];
          met = λ t l h. let m = f.met t l h in (m.0, m.1, omega (arith, m.2), met_kept v t m.0 m.1 m.2 m.3);
        }

    module _ (items : List Bool) (size : length items ≡ 873) (waits : Waits G (items_of (state_at sets s)) X) (move : Move G (items_of (state_at sets s)) X (items_of items)) (unlisted : (j : ℕ) → j < n → state_at sets j ≡ items → ⊥) where
      found : Reached G (items_of items)
      found = onward (f.reached s inside) waits move

      at_old : (i : ℕ) → i < n → state_at (set sets n items) i ≡ state_at sets i
      at_old i l = get_or-set_other sets n i items [] (λ e. omega arith)

      at_new : n < 96 → (i : ℕ) → i < n + 1 → n ≤ i → state_at (set sets n items) i ≡ items
      at_new room i l h =
          let e : i ≡ n = omega arith in
          ap (λ k. state_at (set sets n items) k) e ∙ get_or-set_same sets n items [] (omega (arith, f.sets_size))

      -- What holds of the states so far and of the new one holds of all.
      each_state : n < 96 → (P : List Bool → Type 0) → ((i : ℕ) → i < n → P (state_at sets i)) → P items → (i : ℕ) → i < n + 1 → P (state_at (set sets n items) i)
      each_state room P low top i l =
          elim (cases_lt i n) [
            | inl h ↦ subst P (sym (at_old i h)) (low i h)
            | inr h ↦ subst P (sym (at_new room i l h)) top
          ]

      entry_kept : (p Y v : ℕ) → p < n → Entry G n sets (state_at sets p) Y v → Entry G (n + 1) (set sets n items) (state_at (set sets n items) p) Y v
      entry_kept p Y v l e = subst (λ xs. Entry G (n + 1) (set sets n items) xs Y v) (sym (at_old p l)) (more e)
        where
          more : {xs : List Bool} {Z u : ℕ} → Entry G n sets xs Z u → Entry G (n + 1) (set sets n items) xs Z u
          more (nowhere h) = nowhere h
          more {xs} {Z} (leads {t = t} h w m) = leads (omega arith) w (subst (λ ys. Move G (items_of xs) Z (items_of ys)) (sym (at_old t h)) m)

      apart_new : n < 96 → (i j : ℕ) → i < n + 1 → j < n + 1 → state_at (set sets n items) i ≡ state_at (set sets n items) j → i ≡ j
      apart_new room i j l h e =
          elim (cases_lt i n) [
            | inl p ↦ elim (cases_lt j n) [
              | inl q ↦ f.apart i j p q (sym (at_old i p) ∙ e ∙ at_old j q)
              | inr q ↦ absurd (unlisted i p (sym (at_old i p) ∙ e ∙ at_new room j h q))
            ]
            | inr p ↦ elim (cases_lt j n) [
              | inl q ↦ absurd (unlisted j q (sym (at_old j q) ∙ sym e ∙ at_new room i l p))
              | inr q ↦ omega arith
            ]
          ]

      met_here : MetAt G (set gotos (88 * s + X) n) n s X
      met_here =
          record {
            lower = inside;
            code = ok;
            here = put n;
            before = λ p Y o k. subst (λ g. (g ≡ 255) ⊎ (g < n)) (sym (kept n p Y k)) (entry_cases (f.entries p Y o k));
          }

      -- An entry that names the next state.
      pub sofar_new : n < 96 → Sofar G (n + 1) (set sets n items) (set gotos (88 * s + X) n) s (X + 1)
      sofar_new room =
          record {
            low = omega arith;
            high = omega arith;
            upto = omega (arith, f.upto);
            sets_size = length-set sets n items ∙ f.sets_size;
            gotos_size = length-set gotos (88 * s + X) n ∙ f.gotos_size;
            state_sizes = each_state room (λ xs. length xs ≡ 873) f.state_sizes size;
            begins = subst (λ xs. Completes G origin (items_of xs)) (sym (at_old 0 f.low)) f.begins;
            reached = each_state room (λ xs. Reached G (items_of xs)) f.reached found;
            apart = apart_new room;
            entries = λ p Y o l. elim (split p Y o l) [
              | inl h ↦ subst (λ g. Entry G (n + 1) (set sets n items) (state_at (set sets n items) p) Y g) (sym (kept n p Y h))
                  (entry_kept p Y (goto_at gotos p Y) (omega (arith, code_below ok)) (f.entries p Y o h))
              | inr k ↦ at_entry (λ q Z g. Entry G (n + 1) (set sets n items) (state_at (set sets n items) q) Z g) n p Y k.0 k.1 this
            ];
            met = λ t l h. elim (cases_lt t n) [
              | inl p ↦ (let m = f.met t l p in (m.0, m.1, omega (arith, m.2), met_kept n t m.0 m.1 m.2 m.3))
              | inr p ↦ (let e : n ≡ t = omega arith in (s, X, omega arith, subst (λ k. MetAt G (set gotos (88 * s + X) n) k s X) e met_here))
            ];
          }
        where
          this : Entry G (n + 1) (set sets n items) (state_at (set sets n items) s) X n
          this =
              subst (λ xs. Entry G (n + 1) (set sets n items) xs X n) (sym (at_old s inside))
              (leads (omega arith) waits (subst (λ ys. Move G (items_of (state_at sets s)) X (items_of ys)) (sym (at_new room n (omega arith) (omega arith))) move))

      -- A set for which there is no number.
      pub sofar_full : n ≡ 96 → Crowded G
      sofar_full e =
          record {
            at = λ i. items_of (at i);
            reached = λ i l. each (λ xs. Reached G (items_of xs)) f.reached found i l;
            apart = λ i j l h same. apart i j l h (equal_lists (at i) (at j) (sizes i l ∙ sym (sizes j h)) same);
          }
        where
          at : ℕ → List Bool
          at i = cond (ltb i 96) (state_at sets i) items

          at_low : (i : ℕ) → i < 96 → at i ≡ state_at sets i
          at_low i l = cond-true (ltb i 96) (state_at sets i) items (lt-ltb i 96 l)

          at_top : (i : ℕ) → i < 97 → 96 ≤ i → at i ≡ items
          at_top i l h = let p : i ≡ 96 = omega arith in ap at p

          each : (P : List Bool → Type 0) → ((i : ℕ) → i < n → P (state_at sets i)) → P items → (i : ℕ) → i < 97 → P (at i)
          each P low top i l =
              elim (cases_lt i 96) [
                | inl h ↦ subst P (sym (at_low i h)) (low i (omega arith))
                | inr h ↦ subst P (sym (at_top i l h)) top
              ]

          sizes : (i : ℕ) → i < 97 → length (at i) ≡ 873
          sizes = each (λ xs. length xs ≡ 873) f.state_sizes size

          apart : (i j : ℕ) → i < 97 → j < 97 → at i ≡ at j → i ≡ j
          apart i j l h p =
              elim (cases_lt i 96) [
                | inl a ↦ elim (cases_lt j 96) [
                  | inl b ↦ f.apart i j (omega arith) (omega arith) (sym (at_low i a) ∙ p ∙ at_low j b)
                  | inr b ↦ absurd (unlisted i (omega arith) (sym (at_low i a) ∙ p ∙ at_top j h b))
                ]
                | inr a ↦ elim (cases_lt j 96) [
                  | inl b ↦ absurd (unlisted j (omega arith) (sym (at_low j b) ∙ sym p ∙ at_top i l a))
                  | inr b ↦ omega arith
                ]
              ]

  -- The end of a row.
  pub sofar_row : (n : ℕ) (sets : List (List Bool)) (gotos : List ℕ) (s X : ℕ) → G.terminals + G.nonterminals + 1 ≡ X → s < n → Sofar G n sets gotos s X → Sofar G n sets gotos (s + 1) 1
  sofar_row n sets gotos s X far inside f =
      record {
        low = f.low;
        high = f.high;
        upto = omega arith;
        sets_size = f.sets_size;
        gotos_size = f.gotos_size;
        state_sizes = f.state_sizes;
        begins = f.begins;
        reached = f.reached;
        apart = f.apart;
        entries = λ p Y o l. f.entries p Y o (omega (arith, o.low, o.high, W.counts.terminals, W.counts.nonterminals));
        met = λ t l h. let m = f.met t l h in (m.0, m.1, omega (arith, m.2, W.counts.terminals, W.counts.nonterminals), m.3);
      }
