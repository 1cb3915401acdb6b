use Rattle.std.proofs.Common.{◌≡◌, ◌<◌, List, length, refl, rules, sym, ap, ◌∙◌, subst, arith}
use Rattle.std.proofs.lemmas.List.{get_or_default}
use Rattle.gather.specs.declared.visit.Visit.TheVariants.{Unseen, Open}
use Rattle.gather.specs.Reach.{Step}
use Rattle.gather.specs.Stack.{LeftStack, snap, value, visit, top}
use Rattle.gather.proofs.Calls.{outside, seen_before, walked_from}
use Rattle.gather.proofs.Folds.{fold_turn}
use Rattle.gather.proofs.Listed.{nth_some, nth_none, listed_at}
use Rattle.gather.proofs.Parts.{Lattice}
use Rattle.gather.proofs.Pops.{stay, closed}
use Rattle.gather.proofs.Pushes.{push, push_room}
use Rattle.gather.proofs.Turns.{Turn, Joint, turn_as, joint_as}
use Rattle.gather.proofs.walk.Walk.+traverse.Given as given
use Rattle.gather.proofs.walk.Walk.+traverse.Goals as goal
use Rattle.gather.proofs.walk.Walk.+traverse.Goals.{then-eq, else-eq}

laws : (g : given.Over) → Lattice g.J.Join.op
laws g = record { idem = g.met.J.Join.idem; comm = g.met.J.Join.comm; assoc = g.met.J.Join.assoc }

pub push-requires : goal.push-requires
push-requires g t c = let room = push_room c.requires.1 c.requires.2 c.requires.3 in (omega (arith, c.requires.1.few), omega (arith, c.requires.2, c.requires.1.sizes))

pub loop-target-init : goal.loop-target-init
loop-target-init g t c =
    let begun = c.into_iter-target-iterator.ensures.into_iter_gives ∙ c.of-target-items.ensures in
    record {
      can = tt;
      finite = tt;
      relation = ap (λ i. i.relation.now) begun;
      place = ap (λ i. i.place) begun;
      turn = λ seeds w. turn_as _ _ _ _ c.push.ensures (ap (λ i. i.k) begun) (push w (omega (arith, c.requires.1.size, c.requires.2, w.size)) c.requires.3);
    }

pub fold-requires-clause-inside : goal.fold-requires-clause-inside
fold-requires-clause-inside g t c =
    let u = c.loop-target.invariant.turn c.requires.0 c.requires.1 in
    let size : length c.if-eq.self.values.now ≡ length c.requires.0 =
    elim c.if-eq.branch [
      | then-eq w ↦ ap (λ z. length z.values.now) w.self-is ∙ (w.traverse.ensures c.requires.0 u.sound).sound.size
      | else-eq w ↦ ap (λ z. length z.values.now) w.self-is ∙ u.sound.size
    ] in
    (omega (arith, u.in_x), omega (arith, u.sound.size, c.if-target-self.true))

pub fold-requires-clause-few : goal.fold-requires-clause-few
fold-requires-clause-few g t c =
    let u = c.loop-target.invariant.turn c.requires.0 c.requires.1 in
    let size : length c.if-eq.self.values.now ≡ length c.requires.0 =
    elim c.if-eq.branch [
      | then-eq w ↦ ap (λ z. length z.values.now) w.self-is ∙ (w.traverse.ensures c.requires.0 u.sound).sound.size
      | else-eq w ↦ ap (λ z. length z.values.now) w.self-is ∙ u.sound.size
    ] in
    omega (arith, c.requires.1.sizes, c.requires.1.few)

pub loop-target-preserved-then-target-self : goal.loop-target-preserved-then-target-self
loop-target-preserved-then-target-self g t c =
    let went : (seeds : List g.row.J.Denot)
    → Turn g.J.Join.NONE g.J.Join.op (g.R.Relation.targets c.args.relation.now) seeds
    (snap c.args.self.now) (snap c.loop-target.self)
    c.args.place (top (snap c.args.self.now)) c.loop-target.target-iterator.k
    → Step (length seeds) (g.R.Relation.targets c.args.relation.now) c.args.place c.in-Some.target
    → Joint g.J.Join.NONE g.J.Join.op (g.R.Relation.targets c.args.relation.now) seeds
    (snap c.args.self.now) (snap c.if-eq.self)
    c.args.place (top (snap c.args.self.now)) c.loop-target.target-iterator.k
    (top (snap c.loop-target.self)) c.in-Some.target =
    elim c.if-eq.branch [
      | then-eq w ↦
          (let fresh : visit (snap c.loop-target.self) c.in-Some.target ≡ Unseen = search rules in
          λ seeds u hop. joint_as _ _ _ _ (ap snap w.self-is) (walked_from (laws g) c.in-Some.target u hop fresh (w.traverse.ensures seeds u.sound)))
      | else-eq w ↦
          (let seen : visit (snap c.loop-target.self) c.in-Some.target ≡ Unseen → ⊥ = λ e. search rules in
          λ seeds u hop. joint_as _ _ _ _ (ap snap w.self-is) (seen_before c.in-Some.target u hop seen))
    ] in
    let it = c.loop-target.invariant in
    let on = c.in-Some.ensures.steps in
    let read = nth_some (g.R.Relation.targets c.args.relation.now c.args.place) c.loop-target.target-iterator.k c.in-Some.target (listed_at g.R.Relation.targets c.loop-target.target-iterator.k it.relation it.place on.0) in
    record {
      can = tt;
      finite = tt;
      relation = ap (λ i. i.relation.now) on.1 ∙ it.relation;
      place = ap (λ i. i.place) on.1 ∙ it.place;
      turn = λ seeds s.
          let u = it.turn seeds s in
          let hop : Step (length seeds) (g.R.Relation.targets c.args.relation.now) c.args.place c.in-Some.target =
          record { inside = omega (arith, u.sound.size, c.if-target-self.true); nr = c.loop-target.target-iterator.k; listed = read.0; there = read.1 } in
          turn_as _ _ _ _ c.fold.ensures (ap (λ i. i.k) on.1) (fold_turn (laws g) c.in-Some.target (went seeds u hop) read.1);
    }

pub loop-target-preserved : goal.loop-target-preserved
loop-target-preserved g t c =
    let it = c.loop-target.invariant in
    let on = c.in-Some.ensures.steps in
    let read = nth_some (g.R.Relation.targets c.args.relation.now c.args.place) c.loop-target.target-iterator.k c.in-Some.target (listed_at g.R.Relation.targets c.loop-target.target-iterator.k it.relation it.place on.0) in
    record {
      can = tt;
      finite = tt;
      relation = ap (λ i. i.relation.now) on.1 ∙ it.relation;
      place = ap (λ i. i.place) on.1 ∙ it.place;
      turn = λ seeds s. let u = it.turn seeds s in turn_as _ _ _ _ refl (ap (λ i. i.k) on.1) (outside u (omega (arith, read.1, u.sound.size)));
    }

pub close-requires-clause-inside : goal.close-requires-clause-inside
close-requires-clause-inside g t c = λ k d l.
    let u = c.loop-target.invariant.turn c.requires.0 c.requires.1 in
    subst (λ p. p < length c.loop-target.self.values.now) (get_or_default c.loop-target.self.stack k 0 d l) (omega (arith, u.sound.inside k l, u.sound.size))

pub returns-then-eq-2 : goal.returns-then-eq-2
returns-then-eq-2 g t c =
    let root : visit (snap c.loop-target.self) c.args.place ≡ Open c.height-height.result = grind arith steps 40000000 in
    let it = c.loop-target.invariant in
    let all = nth_none (g.R.Relation.targets c.args.relation.now c.args.place) c.loop-target.target-iterator.k (listed_at g.R.Relation.targets c.loop-target.target-iterator.k it.relation it.place c.in-None.ensures.steps.0) in
    λ seeds s. closed (laws g) (it.turn seeds s) all (root ∙ ap Open c.height-height.ensures)
    (subst (λ h. LeftStack g.J.Join.NONE (value g.J.Join.NONE (snap c.loop-target.self) c.args.place)
    h (snap c.loop-target.self) (snap c.close.new.self)) c.height-height.ensures c.close.ensures) s

pub returns-else-eq-2 : goal.returns-else-eq-2
returns-else-eq-2 g t c =
    let off : visit (snap c.loop-target.self) c.args.place ≡ Open c.height-height.result → ⊥ = λ e. search rules in
    let it = c.loop-target.invariant in
    let all = nth_none (g.R.Relation.targets c.args.relation.now c.args.place) c.loop-target.target-iterator.k (listed_at g.R.Relation.targets c.loop-target.target-iterator.k it.relation it.place c.in-None.ensures.steps.0) in
    λ seeds s. stay (laws g) (it.turn seeds s) all (λ e. off (e ∙ ap Open (sym c.height-height.ensures)))
