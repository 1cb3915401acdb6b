-- The three promises, of whatever keeps the law.
use Rattle.std.proofs.Common.{ℕ, List, Option}
use Rattle.grammar.specs.Grammar.{Grammar}
use Rattle.grammar.specs.declared.action.Action.{Action}
use Rattle.plan.specs.Turns.{Turn, word, judge}
use Rattle.plan.specs.Law.{Law, Promises}

pub promises : {G : Grammar} {goto : ℕ → ℕ → Option ℕ} {cells : ℕ → ℕ → Option Action} {b₀ : List ℕ} {n₀ : ℕ} {turns : List Turn} {list : List ℕ} {free : ℕ} → Law G goto cells b₀ n₀ turns list free → Promises G goto cells b₀ n₀ turns list free
promises law =
    record {
      judged = λ before after d x e low status.
          let r = law.right before after (judge d x) e in
          (λ y. (r.good.0 y).1, λ y. r.good.1 (record { designer_low = low; status = status }, y));
      taken = λ before after d w x e low status short few.
          let r = law.right before after (word d w x) e in
          (λ y. (r.taken.0 y).3, λ y. r.taken.1 (record { designer_low = low; status = status }, short, few, y));
      written = law.written;
    }
