use Rattle.std.proofs.Common.{◌+◌, ◌*◌, ◌<◌, false, true, sym, ◌∙◌, subst, arith, length, take, set, length-take, length-append, get_or-take}
use Rattle.std.proofs.lemmas.Slice.Zip.{zip_turn, zip_end}
use Rattle.tables.proofs.Closing.{Seeded, seeded_none, seeded_more, seeded_skip, seeded_all}
use Rattle.tables.proofs.closure.waiting.Goals as goal

pub loop-is_in-init : goal.loop-is_in-init
loop-is_in-init c = seeded_none c.args.rules.now c.args.items.now

pub loop-is_in-preserved-then-is_in : goal.loop-is_in-preserved-then-is_in
loop-is_in-preserved-then-is_in c =
    let R = c.args.rules.now in
    let xs = c.args.items.now in
    let done = c.loop-is_in.yielded in
    let n = length done in
    let code = c.from-then-is_in.result in
    let turn = zip_turn (take (9 * c.from.result + 9) xs) R.right done c.into_iter-is_in-iterator.result c.loop-is_in.is_in-iterator c.next.new.self c.next.result (cc) (cc) c.loop-is_in.yielded_by _ c.in-Some.is c.next.ensures.steps in
    let low : n < 9 * c.from.result + 9 = omega (arith, turn.0, length-take (9 * c.from.result + 9) xs) in
    let is = turn.2 false ∙ get_or-take (9 * c.from.result + 9) xs n false low in
    subst (λ k. Seeded R xs k (set c.loop-is_in.ahead code true)) (sym (length-append done _)) (seeded_more R xs n c.loop-is_in.ahead code (sym is ∙ c.if-is_in.true) (c.from-then-is_in.ensures ∙ turn.3 0) c.loop-is_in.invariant)

pub loop-is_in-preserved : goal.loop-is_in-preserved
loop-is_in-preserved c =
    let R = c.args.rules.now in
    let xs = c.args.items.now in
    let done = c.loop-is_in.yielded in
    let n = length done in
    let turn = zip_turn (take (9 * c.from.result + 9) xs) R.right done c.into_iter-is_in-iterator.result c.loop-is_in.is_in-iterator c.next.new.self c.next.result (cc) (cc) c.loop-is_in.yielded_by _ c.in-Some.is c.next.ensures.steps in
    let low : n < 9 * c.from.result + 9 = omega (arith, turn.0, length-take (9 * c.from.result + 9) xs) in
    let is = turn.2 false ∙ get_or-take (9 * c.from.result + 9) xs n false low in
    subst (λ k. Seeded R xs k c.loop-is_in.ahead) (sym (length-append done _)) (seeded_skip R xs n c.loop-is_in.ahead (sym is ∙ c.if-is_in.false) c.loop-is_in.invariant)

pub returns : goal.returns
returns c =
    let R = c.args.rules.now in
    let xs = c.args.items.now in
    let done = c.loop-is_in.yielded in
    let end = zip_end (take (9 * c.from.result + 9) xs) R.right done c.into_iter-is_in-iterator.result c.loop-is_in.is_in-iterator c.next.new.self c.next.result (cc) (cc) c.loop-is_in.yielded_by c.in-None.is c.next.ensures.steps in
    seeded_all R xs (length done) c.loop-is_in.ahead (omega (arith, end, R.count96, R.rightlength, c.told-items, c.from.ensures, length-take (9 * c.from.result + 9) xs)) c.loop-is_in.invariant
