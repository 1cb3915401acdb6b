use Rattle.std.proofs.Common.{◌≡◌, ◌<◌, ℕ, Bool, Result, Ok, Err, is_ok, List, [], ◌∷◌, ◌++◌, length, filter, true, false, sym, ap, ◌∙◌, arith}
use Rattle.std.specs.List.{range_with_len}
use Rattle.std.specs.Result.{OnOk}
use Rattle.std.proofs.lemmas.Bool.{true≢false}
use Rattle.std.proofs.lemmas.List.FromFn.{length-range_with_len}
use Rattle.bounded.specs.BoundedList.{listed}
use Rattle.tables.specs.ReadSteps.{passes}
use Rattle.tables.proofs.Filtered.{few_filtered, filter_next_no, filter_next_yes}
use Rattle.tables.proofs.reads.leading.Goals as goal
use Rattle.tables.proofs.reads.leading.Goals.{then-leads_on+else-prove, else-leads_on}

at_ok : {T E P : Type 0} (r : Result T E) → is_ok r ≡ true → OnOk r P → P
at_ok (Ok x) good h = h
at_ok (Err e) good h = absurd (true≢false (sym good))

pub prove-unreachable-requires : goal.prove-unreachable-requires
prove-unreachable-requires c =
    let R = c.args.machine.now.rules in
    let p : ℕ → Bool = passes R c.args.machine.now.states c.args.null.now c.args.state in
    let held : length (listed c.loop-number.numbers) ≡ length (filter p (range_with_len 0 c.loop-number.number)) = ap length c.loop-number.invariant in
    let room : length (listed c.loop-number.numbers) < 24 = omega (arith, held, few_filtered p (range_with_len 0 c.loop-number.number), length-range_with_len 0 c.loop-number.number, c.loop-number-test.true, c.loop-number.auto.number-end, R.nonterminals24) in
    true≢false (sym (c.push-pushed.ensures.room.1 room) ∙ sym c.is_ok.ensures.value ∙ c.if-prove.true)

pub loop-number-preserved : goal.loop-number-preserved
loop-number-preserved c =
    let p : ℕ → Bool = passes c.args.machine.now.rules c.args.machine.now.states c.args.null.now c.args.state in
    let n = c.loop-number.number in
    elim c.if-leads_on.branch [
      | then-leads_on+else-prove w ↦
          ap listed w.numbers-is ∙ at_ok w.push-pushed.result (sym w.is_ok.ensures.value ∙ w.if-prove.false) w.push-pushed.ensures.pushed ∙ ap (λ l. l ++ n ∷ []) c.loop-number.invariant
          ∙ sym (filter_next_yes p n (sym c.leads_on.ensures ∙ w.if-leads_on.true))
      | else-leads_on w ↦
          ap listed w.numbers-is ∙ c.loop-number.invariant ∙ sym (filter_next_no p n (sym c.leads_on.ensures ∙ w.if-leads_on.false))
    ]
