use Rattle.std.proofs.Common.{◌≡◌, length, rules, ap, arith, ◌∙◌, subst}
use Rattle.gather.specs.declared.visit.Visit.TheVariants.{Unseen}
use Rattle.gather.specs.Stack.{snap, visit}
use Rattle.gather.proofs.Ends.{Between, pass_seen, pass_walked, between_as, finish}
use Rattle.gather.proofs.Parts.{Lattice}
use Rattle.gather.proofs.walk.Walk.walk_all.Given as given
use Rattle.gather.proofs.walk.Walk.walk_all.Goals as goal
use Rattle.gather.proofs.walk.Walk.walk_all.Goals.{then-eq, else-eq}

laws : (g : given.Over) → Lattice g.J.Join.op
laws g = record { idem = g.met.J.Join.idem; comm = g.met.J.Join.comm; assoc = g.met.J.Join.assoc }

pub loop-place-preserved : goal.loop-place-preserved
loop-place-preserved g c =
    elim c.if-eq.branch [
      | then-eq w ↦
          (let b = c.loop-place.invariant.between in
          let walked = w.traverse.ensures c.args.self.now.values.now b.sound in
          record {
            lent = ap (λ z. z.values.ghost_name) w.self-is ∙ walked.kept.lent ∙ c.loop-place.invariant.lent;
            between = between_as (ap snap w.self-is) (pass_walked (omega arith) b walked);
          })
      | else-eq w ↦
          (let seen : visit (snap c.loop-place.self) c.loop-place.place ≡ Unseen → ⊥ = λ e. search rules in
          record {
            lent = ap (λ z. z.values.ghost_name) w.self-is ∙ c.loop-place.invariant.lent;
            between = between_as (ap snap w.self-is) (pass_seen (omega arith) c.loop-place.invariant.between seen);
          })
    ]

pub returns-clause-gathered : goal.returns-clause-gathered
returns-clause-gathered g c =
    let all : c.loop-place.place ≡ length c.args.self.now.values.now = omega arith in
    finish (laws g)
    (subst (λ i. Between g.J.Join.NONE g.J.Join.op (g.R.Relation.targets c.args.relation.now)
    c.args.self.now.values.now (snap c.loop-place.self) i) all c.loop-place.invariant.between)
