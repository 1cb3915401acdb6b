use Rattle.std.proofs.Common.{ℕ, ◌≡◌, refl, sym, ◌∙◌, arith, Option, Some, None, MatchOption, rules, get_or}
use Rattle.gather.specs.Members.{no_members}
use Rattle.tables.proofs.Transitions.{behind_place}
use Rattle.tables.proofs.DirectWords.{words_told}
use Rattle.tables.proofs.direct.direct_behind.Goals as goal

pub map_or-requires : goal.map_or-requires
map_or-requires c x e = let m = c.args.machine.now in let low = behind_place m.rules m.states c.args.place x (sym e ∙ c.behind.ensures) in ((λ k l w n. omega (arith, low, m.states.few)), (λ k l w n. omega (arith, low, m.states.few)))

pub returns : goal.returns
returns c =
    let m = c.args.machine.now in
    words_told m.rules m.states c.args.direct.now c.args.place c.behind.result c.map_or.result
    c.requires c.behind.ensures (by c.behind.result refl)
  where
    by : (o : Option ℕ)
        → c.behind.result ≡ o
        → MatchOption o (c.map_or.result ≡ no_members)
        (λ t. c.map_or.result ≡ get_or c.args.direct.now t no_members)
    by None e = search rules
    by (Some t) e = search rules
