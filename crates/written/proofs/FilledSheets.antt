-- What the walks over a written sheet put together.
use Rattle.std.proofs.Common.{◌≡◌, ℕ, zero, suc, ◌≤◌, List, [], ◌∷◌, map, length, None, Ok, Err, refl, sym, ap, ◌∙◌, subst, ⊎_elim, arith}
use Rattle.std.specs.List.{AllByRecursion}
use Rattle.std.proofs.ByRecursion.{All-get_or, All-from_get_or}
use Rattle.std.proofs.lemmas.List.{length-map}
use Rattle.bounded.specs.BoundedList.{listed}
use Rattle.bounded.specs.declared.bounded_list.BoundedList.{BoundedList}
use Rattle.bounded.specs.declared.full.Full.{Full}
use Rattle.bounded.proofs.Listed.{listed_fits}
use Rattle.grammar.specs.Grammar.{Grammar, IsRule, right_side, no_rule}
use Rattle.grammar.specs.Outcome.{Within}
use Rattle.written.specs.WrittenRefusals.{limits_told, told}
use Rattle.written.specs.declared.written_refusal.WrittenRefusal.{WrittenRefusal}
use Rattle.sheet.specs.ShortRules.{rule_of}
use Rattle.sheet.specs.declared.short_rule.ShortRule.{ShortRule}
use Rattle.written.specs.Tokens.{Placed, tokens}
use Rattle.written.specs.Statements.{Statement, Written, words_in, distinct, terminals_of, nonterminals_of, grammar_of}
use Rattle.written.specs.Walks.{heads_in, first_headless}
use Rattle.written.specs.Drafts.{AllKnown, blank_draft, draft, draft_after, rule_list, Fitting, Read}
use Rattle.written.specs.NamesOf.{CountsWithin, NamesIn}
use Rattle.written.specs.WrittenSheets.{contents, headless_place, meant}
use Rattle.written.specs.Spelled.{spelled}
use Rattle.written.specs.declared.names.Names.{Names}
use Rattle.written.specs.declared.spellings.Spellings.{Spellings}
use Rattle.written.proofs.SheetHeads.{heads_in_sheet}
use Rattle.written.proofs.Drafting.{draft_sheet}
use Rattle.written.proofs.KnownTokens.{all_known}
use Rattle.written.proofs.Overfull.{overfull_fails}

-- The right sides of a grammar are short exactly when those of its rules are.
short_rights : (G : Grammar) → AllByRecursion (λ r. length r.right ≤ 8) G.rules → (r : ℕ) → IsRule G r → length (right_side G r) ≤ 8
unfolding right_side
short_rights G a zero i = absurd (let h = i.low in omega arith)
short_rights G a (suc k) i = All-get_or (λ r. length r.right ≤ 8) G.rules k no_rule (let h = i.high in omega arith) a

short_rules : (G : Grammar) → ((r : ℕ) → IsRule G r → length (right_side G r) ≤ 8) → AllByRecursion (λ r. length r.right ≤ 8) G.rules
unfolding right_side
short_rules G a = All-from_get_or (λ r. length r.right ≤ 8) G.rules no_rule (λ k h. a (suc k) (record { low = omega arith; high = omega arith }))

all_short : (rs : List ShortRule) → AllByRecursion (λ r. length r.right ≤ 8) (map rule_of rs)
all_short [] = tt
all_short (r ∷ rs) = (listed_fits r.codes, all_short rs)

some_rule : (rs : List ShortRule) → (rs ≡ [] → ⊥) → 1 ≤ length (map rule_of rs)
some_rule [] h = absurd (h refl)
some_rule (r ∷ rs) h = omega arith

-- A table of spellings has at most 63.
few_spelled : (s : Spellings) → length (spelled s) ≤ 63
few_spelled s = let few = listed_fits s.items in omega (arith, length-map (listed s.items) (λ b. b.now))

module _ (ts : List Placed) (ss : List Statement) {text : List ℕ} (w : Written text ts ss) where
  words_are : distinct (words_in (tokens ts)) ≡ terminals_of ss
  words_are = ap (λ l. distinct (words_in l)) w.tokens_are

  heads_are : heads_in (tokens ts) ≡ map (λ s. s.head) ss
  heads_are = ap heads_in w.tokens_are ∙ heads_in_sheet ss

  -- The first name that heads nothing, as the walk finds it.
  pub headless_found : first_headless (heads_in (tokens ts)) ts ≡ headless_place ts ss
  headless_found = ap (λ hs. first_headless hs ts) heads_are

  done : draft_after (terminals_of ss) (nonterminals_of ss) blank_draft (tokens ts) ≡ draft None (grammar_of ss).rules
  done = ap (draft_after (terminals_of ss) (nonterminals_of ss) blank_draft) w.tokens_are ∙ draft_sheet (terminals_of ss) (nonterminals_of ss) ss []

  -- More than 63 words or heads.
  pub names_off : (e : Full) → NamesIn (Err e) (tokens ts) → Within (grammar_of ss) → ⊥
  names_off e many i = ⊎_elim (λ h. omega (arith, ap length words_are, i.counts.terminals)) (λ h. omega (arith, ap (λ l. length (distinct l)) heads_are, i.counts.nonterminals)) many

  module _ (names : Names) (in_text : NamesIn (Ok names) (tokens ts)) where
    abbrev words : List (List ℕ)
    words = spelled names.words

    abbrev heads : List (List ℕ)
    heads = spelled names.heads

    words_found : words ≡ terminals_of ss
    words_found = in_text.0 ∙ words_are

    heads_found : heads ≡ nonterminals_of ss
    heads_found = in_text.1 ∙ ap distinct heads_are

    drafted_all : draft_after words heads blank_draft (tokens ts) ≡ draft None (grammar_of ss).rules
    drafted_all = ap (λ l. draft_after l heads blank_draft (tokens ts)) words_found ∙ ap (λ l. draft_after (terminals_of ss) l blank_draft (tokens ts)) heads_found ∙ done

    -- A rule too many, or one that is too long; and nothing else.
    pub rules_off : (e : WrittenRefusal) → headless_place ts ss ≡ None → Read (Err e) words heads (tokens ts) → (told e ≡ limits_told) × (Within (grammar_of ss) → ⊥)
    rules_off e none bad =
        let known = all_known (heads_in (tokens ts)) ts (headless_found ∙ none) in
        let found = bad (subst (λ l. AllKnown l heads (tokens ts)) (sym in_text.0) (subst (λ l. AllKnown (distinct (words_in (tokens ts))) l (tokens ts)) (sym in_text.1) known)) in
        let same = sym found.4 ∙ drafted_all in (
          found.0,
          λ i.
              let fitting : Fitting (grammar_of ss).rules = record { few = i.counts.rules; short = short_rules (grammar_of ss) i.right_sides } in
              overfull_fails words heads found.3 found.1 found.2 (ap (λ d. d.rule) same) (subst Fitting (sym (ap (λ d. d.rules) same)) fitting),
        )

    pub counts_off : (CountsWithin (length words) (length heads) → ⊥) → Within (grammar_of ss) → ⊥
    counts_off off i =
        let n = ap length words_found in
        let m = ap length heads_found in
        let t = i.counts.some_terminal in
        let s = i.counts.some_nonterminal in
        let few = i.counts.nonterminals in
        off (omega arith, omega arith, omega arith)

    module _ (rs : BoundedList ShortRule 96) (read : Read (Ok rs) words heads (tokens ts)) where
      rules_found : rule_list rs ≡ (grammar_of ss).rules
      rules_found = read ∙ ap (λ d. d.rules) drafted_all

      pub no_rules_off : listed rs ≡ [] → Within (grammar_of ss) → ⊥
      no_rules_off e i = omega (arith, ap (λ l. length (map rule_of l)) e, ap length rules_found, i.counts.some_rule)

      -- The sheet that is put together.
      pub contents_are : contents (record { names = names; rules = rs }) ≡ meant ss
      contents_are = let w = words_found in let h = heads_found in let r = rules_found in cc

      pub sheet_within : CountsWithin (length words) (length heads) → (listed rs ≡ [] → ⊥) → Within (grammar_of ss)
      sheet_within counts some =
          let n = ap length words_found in
          let m = ap length heads_found in
          let r = ap length rules_found in
          let few = few_spelled names.words in
          let one = some_rule (listed rs) some in
          let many = listed_fits rs in
          let long = length-map (listed rs) rule_of in
          record {
            counts = record {
              some_terminal = omega arith;
              terminals = omega arith;
              some_nonterminal = omega arith;
              nonterminals = omega arith;
              some_rule = omega arith;
              rules = omega arith;
            };
            right_sides = short_rights (grammar_of ss) (subst (AllByRecursion (λ r. length r.right ≤ 8)) rules_found (all_short (listed rs)));
          }
