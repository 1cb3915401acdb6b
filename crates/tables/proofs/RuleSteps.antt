-- The steps of includes that a rule gives in a state, dot by dot.
use Rattle.std.proofs.Common.{◌≡◌, ℕ, suc, ◌+◌, ◌<◌, ◌≤◌, List, length, get_or, take, sym, refl, ◌∙◌, subst, arith, Some, None}
use Rattle.std.proofs.lemmas.Option.{none-some, slice_get-get_or}
use Rattle.grammar.specs.Grammar.{Grammar, right_side}
use Rattle.grammar.specs.States.{Automaton}
use Rattle.grammar.specs.Lookahead.{Leads, Transition}
use Rattle.grammar.proofs.Dots.{one_target}
use Rattle.tables.specs.declared.rules.Rules.{Rules}
use Rattle.tables.specs.declared.states.States.{States}
use Rattle.tables.specs.declared.step.Step.{Step}
use Rattle.tables.specs.Arrays.{grammar_of, automaton}
use Rattle.tables.specs.IncludeSteps.{NullableFrom, IncludesBy, order, StepsUpto}
use Rattle.tables.proofs.RuleArrays.{is_rule_lem, left_is, right_length, terminals_is}
use Rattle.tables.proofs.Transitions.{transition}
use Rattle.tables.proofs.RuleWalks.{walk_stops}
use Rattle.tables.proofs.Walks.{leads_on}
use Rattle.tables.proofs.IncludeSteps.{bounds, jump}

module _ (R : Rules) (S : States) (q r : ℕ) (low : 1 ≤ r) (high : r ≤ R.count) where
  abbrev G : Grammar
  G = grammar_of R

  abbrev A : Automaton
  A = automaton R S

  abbrev codes : List ℕ
  codes = right_side G r

  abbrev size : ℕ
  size = length codes

  short : size ≤ 8
  short = omega (arith, right_length R r high, R.short r)

  abbrev left : ℕ
  left = get_or R.left r 0

  abbrev code : ℕ → ℕ
  code d = get_or codes d 0

  -- A step between the dot d and the next rule is one of this rule, at d or behind.
  record OfRule (q' r' d' d : ℕ) : Type 0 where
    state : q' ≡ q
    rule : r' ≡ r
    dot : d ≤ d'

  of_rule : (q' r' d' d : ℕ) (x y : ℕ × ℕ) → IncludesBy G A q' r' d' x y → order q r d ≤ order q' r' d' → order q' r' d' < order q (r + 1) 0 → OfRule q' r' d' d
  of_rule q' r' d' d x y b h k =
      let B = bounds R S q' r' d' x y b in
      let top : r ≤ 96 = omega (arith, R.count96) in
      record {
        state = omega (arith, B.low, B.top, B.dot);
        rule = omega (arith, B.low, B.top, B.dot);
        dot = omega (arith, B.low, B.top, B.dot);
      }

  here : (q' r' d' d : ℕ) (x y : ℕ × ℕ) → IncludesBy G A q' r' d' x y → OfRule q' r' d' d → IncludesBy G A q r d' x y
  here q' r' d' d x y b o = subst (λ a. IncludesBy G A q a d' x y) o.rule (subst (λ a. IncludesBy G A a r' d' x y) o.state b)

  -- The rest of the rule gives no step, for a reason that holds at every dot from d on.
  skip : (d m : ℕ) (s : List Step) → order q r d ≤ m → m ≤ order q (r + 1) 0 → ((d' : ℕ) (x y : ℕ × ℕ) → d ≤ d' → order q r d' < m → IncludesBy G A q r d' x y → ⊥) → StepsUpto R S (order q r d) s → StepsUpto R S m s
  skip d m s h k nay f =
      jump R S (order q r d) m s h (λ q' r' d' x y b u v.
      let o = of_rule q' r' d' d x y b u (omega arith) in
      nay d' x y o.dot (omega (arith, o.state, o.rule)) (here q' r' d' d x y b o)) f

  -- Behind the last code.
  pub ended : (d : ℕ) (s : List Step) → size ≤ d → d ≤ size → StepsUpto R S (order q r d) s → StepsUpto R S (order q (r + 1) 0) s
  ended d s h k f =
      skip d (order q (r + 1) 0) s (omega (arith, short)) (omega arith) (λ d' x y l v b. omega (arith, (bounds R S q r d' x y b).inside, right_length R r high)) f

  -- The state does not move by the left side.
  pub no_left : (s : List Step) → None ≡ A.goto q left → StepsUpto R S (order q r 0) s → StepsUpto R S (order q (r + 1) 0) s
  no_left s e f =
      skip 0 (order q (r + 1) 0) s (omega arith) (omega arith) (λ d' x y l v b.
      none-some _ (e ∙ subst (λ X. A.goto q X ≡ Some b.to.to) (sym b.is_left ∙ sym (left_is R r b.is_rule)) (subst (λ p. A.goto p y.1 ≡ Some b.to.to) b.state b.to.move))) f

  -- The walk stops before the end.
  pub stopped : (d p : ℕ) (s : List Step) → d < size → Leads A q (take d codes) p → None ≡ A.goto p (code d) → StepsUpto R S (order q r d) s → StepsUpto R S (order q (r + 1) 0) s
  stopped d p s h w e f =
      skip d (order q (r + 1) 0) s (omega (arith, short)) (omega arith) (λ d' x y l v b.
      let whole : Leads A q (take (suc d') codes) b.from.to = leads_on codes d' b.code b.leads b.from.move in
      walk_stops R S q codes d (suc d') p b.from.to h w e (omega arith) whole) f

  module _ (e : ℕ) (E : NullableFrom G r e) where
    -- A code that is no nonterminal, or that has something not nullable behind it, gives no step.
    pub passed : (d : ℕ) (s : List Step) → d < size → (e ≤ d + 1 → R.terminals < code d → ⊥) → StepsUpto R S (order q r d) s → StepsUpto R S (order q r (d + 1)) s
    passed d s h nay f =
        skip d (order q r (d + 1)) s (omega arith) (omega (arith, short)) (λ d' x y l v b.
        let same : d' ≡ d = omega arith in
        let c : IncludesBy G A q r d x y = subst (λ a. IncludesBy G A q r a x y) same b in
        let X : code d ≡ x.1 = one_target (slice_get-get_or codes d 0 h) c.code in
        let k : e ≤ suc d = E.whole (suc d) c.nullables in
        nay (omega arith) (omega (arith, c.from.nonterminal.low, terminals_is R))) f

    pub found : (d p t : ℕ) → Transition G A (q, left) → d < size → Leads A q (take d codes) p → Some t ≡ A.goto p (code d) → e ≤ d + 1 → R.terminals < code d → IncludesBy G A q r d (p, code d) (q, left)
    found d p t to h w g k l = record {
      from = transition R S p (code d) t l g;
      to = to;
      state = refl;
      is_rule = is_rule_lem R r low high;
      is_left = sym (left_is R r (is_rule_lem R r low high));
      code = slice_get-get_or codes d 0 h;
      nullables = E.sound (suc d) (omega arith);
      leads = w;
    }

-- No rules behind the last: the next state follows.
pub last_rule : (R : Rules) (S : States) (q n : ℕ) (s : List Step) → R.count + 1 ≤ n → n ≤ R.count + 1 → StepsUpto R S (order q n 0) s → StepsUpto R S (order (q + 1) 1 0) s
last_rule R S q n s h k f =
    jump R S (order q n 0) (order (q + 1) 1 0) s (omega (arith, R.count96)) (λ q' r' d' x y b u v.
    let B = bounds R S q' r' d' x y b in
    omega (arith, B.low, B.high, B.top, B.dot, R.count96)) f
