-- Whole lines answered one behind another.
use Rattle.std.proofs.Common.{◌≡◌, ℕ, ◌+◌, ◌<◌, List, [], ◌∷◌, ◌++◌, length, get_or, set, take, Some, sym, ap, ◌∙◌, subst₂, Result}
use Rattle.std.proofs.lemmas.List.{take_more, take_more_set}
use Rattle.line.specs.Answers.{answer_of}
use Rattle.line.specs.declared.turn_refusal.TurnRefusal.{TurnRefusal}
use Rattle.plan.specs.declared.whole_lines.LineAsked.{LineAsked}
use Rattle.plan.specs.Turns.{Turn}
use Rattle.plan.specs.WholeLines.{WholeLine}
use Rattle.plan.specs.LinesAnswered.{LinesAnswered, one_more}

-- One line more.
module _ (xs ls : List LineAsked) (i : ℕ) (d : LineAsked) (low : i < length xs) (low' : i < length ls) (next : get_or ls i d ≡ get_or xs i d) where
  abbrev answered : LineAsked → Result ℕ TurnRefusal → LineAsked
  answered x r = record { designer = x.designer; words = x.words; answer = Some r }

  pub lines_more : {ts us : List Turn} (r : Result ℕ TurnRefusal) → LinesAnswered (take i xs) (take i ls) ts → WholeLine (get_or ls i d).designer (get_or ls i d).words.now (answer_of r) us → LinesAnswered (take (i + 1) xs) (take (i + 1) (set ls i (answered (get_or ls i d) r))) (ts ++ us)
  lines_more {ts} {us} r p q =
      let x = get_or ls i d in
      subst₂ (λ l m. LinesAnswered l m (ts ++ us)) (ap (λ y. take i xs ++ y ∷ []) next ∙ sym (take_more xs i d low)) (sym (take_more_set ls i (answered x r) low'))
      (one_more x r p q)
