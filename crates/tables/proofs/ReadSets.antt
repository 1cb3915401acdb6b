-- Direct words gathered along reads are read sets.
use Rattle.std.proofs.Common.{◌≡◌, Bool, List, length}
use Rattle.gather.specs.Gathered.{Gathered}
use Rattle.gather.specs.Members.{no_members, unite}
use Rattle.gather.specs.declared.word_set.WordSet.{WordSet}
use Rattle.grammar.specs.Lookahead.{Reads}
use Rattle.tables.specs.declared.rules.Rules.{Rules}
use Rattle.tables.specs.declared.states.States.{States}
use Rattle.tables.specs.Arrays.{grammar_of, automaton}
use Rattle.tables.specs.NullableMarks.{NullableMarks}
use Rattle.tables.specs.ReadSteps.{reads_from}
use Rattle.tables.specs.Transitions.{DirectlyBehind, DirectAt, ReadAt}
use Rattle.tables.specs.WordSets.{SetsOf}
use Rattle.tables.proofs.Gathering.{gathered}
use Rattle.tables.proofs.ReadSteps.{reads_steps}

pub read_sets : (R : Rules) (S : States) (null : List Bool) → NullableMarks (grammar_of R) null → (seeds values : List WordSet) → length seeds ≡ 2304 → SetsOf (DirectAt R S) 2304 seeds → Gathered no_members unite (reads_from R S null) seeds values → SetsOf (ReadAt R S) 2304 values
read_sets R S null N seeds values size s g =
    let G = grammar_of R in
    let A = automaton R S in
    let a = gathered R S (Reads G A) (reads_from R S null) (reads_steps R S null N) (DirectlyBehind G A) seeds values size s g in
    record {
      sound = λ i w h e. let r = a.sound i w h e in record { last = r.last; steps = r.steps; is_transition = r.there.is_transition; direct = r.there.direct };
      whole = λ i w h r. a.whole i w h (record { last = r.last; steps = r.steps; there = record { is_transition = r.is_transition; direct = r.direct } });
    }
