use Rattle.core_stops.proofs.EarlyLaws.{run_after_run, run_is_right, run_leaves}
use Rattle.core_stops.proofs.runs.a_run_is_right_over_its_whole_log.Goals as goal

pub returns-clause-right : goal.returns-clause-right
returns-clause-right c = λ opening blocks entry earlier session sound logical most report within early stops.
    run_is_right opening blocks entry earlier session sound logical most 0 report within early stops

pub returns-clause-leaves : goal.returns-clause-leaves
returns-clause-leaves c = λ opening blocks entry earlier session sound logical most left report within early stops late named later prefix same image is.
    run_leaves opening blocks entry earlier session sound logical most left report within early stops late named later prefix same image is

pub returns-clause-again : goal.returns-clause-again
returns-clause-again c = run_after_run
