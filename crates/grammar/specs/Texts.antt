-- What is printed of an action and of a refusal.
use Rattle.std.specs.Prelude.{ℕ, List, ◌++◌, codes, decimal, flat_map}
use Rattle.grammar.specs.Refusals.{Value, number, action, Told}
use Rattle.grammar.specs.declared.action.Action.{Action}
use Rattle.grammar.specs.declared.action.Action.TheVariants.{Shift, Accept, Reduce}

abbrev pub action_text : Action → List ℕ
action_text (Shift t) = codes "shift " ++ decimal t
action_text Accept = codes "accept"
action_text (Reduce r) = codes "reduce " ++ decimal r

abbrev pub value_text : Value → List ℕ
value_text (number n) = decimal n
value_text (action a) = action_text a

-- A refusal's number, and each value that it tells behind a space.
abbrev pub told_text : Told → List ℕ
told_text t = decimal t.number ++ flat_map (λ v. codes " " ++ value_text v) t.values
