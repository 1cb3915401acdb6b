-- The draft of all tokens of a sheet has its rules.
use Rattle.std.proofs.Common.{◌≡◌, ℕ, List, [], ◌∷◌, ◌++◌, map, Some, None, sym, refl, ap, ◌∙◌}
use Rattle.std.proofs.lemmas.List.{append_assoc, append-nil}
use Rattle.grammar.specs.Grammar.{Rule}
use Rattle.written.specs.Tokens.{Token}
use Rattle.written.specs.Statements.{Symbol, named, quoted, Statement, symbol_token, more_tokens, statement_tokens, sheet_tokens, symbol_code, name_code, rule_of, rules_of}
use Rattle.written.specs.Drafts.{Drafted, draft, draft_after}

module _ (T N : List (List ℕ)) where
  -- A rule that is being read, with left side l and right side r, and rules rs before it.
  abbrev reading : ℕ → List ℕ → List Rule → Drafted
  reading l r rs = draft (Some (record { left = l; right = r })) rs

  draft_symbols : (a : List Symbol) (l : ℕ) (r : List ℕ) (rs : List Rule) (k : List Token) → draft_after T N (reading l r rs) (map symbol_token a ++ k) ≡ draft_after T N (reading l (r ++ map (symbol_code T N) a) rs) k
  draft_symbols [] l r rs k = ap (λ r. draft_after T N (reading l r rs) k) (sym (append-nil r))
  draft_symbols (named n ∷ a) l r rs k =
      draft_symbols a l (r ++ symbol_code T N (named n) ∷ []) rs k
      ∙ ap (λ r. draft_after T N (reading l r rs) k) (append_assoc r (symbol_code T N (named n) ∷ []) (map (symbol_code T N) a))
  draft_symbols (quoted w ∷ a) l r rs k =
      draft_symbols a l (r ++ symbol_code T N (quoted w) ∷ []) rs k
      ∙ ap (λ r. draft_after T N (reading l r rs) k) (append_assoc r (symbol_code T N (quoted w) ∷ []) (map (symbol_code T N) a))

  draft_rights : (head : List ℕ) (more : List (List Symbol)) (r : List ℕ) (rs : List Rule) (k : List Token)
      → draft_after T N (reading (name_code T N head) r rs) (more_tokens more ++ k) ≡ draft_after T N (draft None (rs ++ record { left = name_code T N head; right = r } ∷ map (rule_of T N head) more)) k
  draft_rights head [] r rs k = refl
  draft_rights head (a ∷ more) r rs k =
      let l = name_code T N head in
      let rule : Rule = record { left = l; right = r } in
      ap (draft_after T N (reading l [] (rs ++ rule ∷ []))) (append_assoc (map symbol_token a) (more_tokens more) k)
      ∙ draft_symbols a l [] (rs ++ rule ∷ []) (more_tokens more ++ k)
      ∙ draft_rights head more (map (symbol_code T N) a) (rs ++ rule ∷ []) k
      ∙ ap (λ rs. draft_after T N (draft None rs) k) (append_assoc rs (rule ∷ []) (rule_of T N head a ∷ map (rule_of T N head) more))

  draft_statement : (s : Statement) (rs : List Rule) (k : List Token)
      → draft_after T N (draft None rs) (statement_tokens s ++ k) ≡ draft_after T N (draft None (rs ++ map (rule_of T N s.head) (s.first ∷ s.more))) k
  draft_statement s rs k =
      let X = name_code T N s.head in
      ap (draft_after T N (reading X [] rs)) (append_assoc (map symbol_token s.first) (more_tokens s.more) k)
      ∙ draft_symbols s.first X [] rs (more_tokens s.more ++ k)
      ∙ draft_rights s.head s.more (map (symbol_code T N) s.first) rs k

  -- The draft of a whole sheet: nothing is being read, and its rules are there.
  pub draft_sheet : (ss : List Statement) (rs : List Rule) → draft_after T N (draft None rs) (sheet_tokens ss) ≡ draft None (rs ++ rules_of T N ss)
  draft_sheet [] rs = ap (draft None) (sym (append-nil rs))
  draft_sheet (s ∷ ss) rs =
      let here = map (rule_of T N s.head) (s.first ∷ s.more) in
      draft_statement s rs (sheet_tokens ss) ∙ draft_sheet ss (rs ++ here) ∙ ap (draft None) (append_assoc rs here (rules_of T N ss))
