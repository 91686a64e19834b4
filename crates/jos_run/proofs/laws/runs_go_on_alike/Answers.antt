use Rattle.jos_run.proofs.RunsKept as run
use Rattle.jos_run.proofs.laws.runs_go_on_alike.Goals as goal

pub returns-clause-run_begins : goal.returns-clause-run_begins
returns-clause-run_begins c = run.run_begins

pub returns-clause-turn_begins : goal.returns-clause-turn_begins
returns-clause-turn_begins c = λ schedule first turns w written h n chosen few. run.turn_begins h n chosen few

pub returns-clause-step : goal.returns-clause-step
returns-clause-step c = λ schedule first turns n visible w after written bytes h progress keeps may quiet only.
    run.step_kept bytes h progress keeps may quiet only

pub returns-clause-turn_ends : goal.returns-clause-turn_ends
returns-clause-turn_ends c = λ schedule first turns n visible w written h hidden fit. run.turn_ends h hidden fit

pub returns-clause-fit : goal.returns-clause-fit
returns-clause-fit c = λ schedule first turns w written h. run.between_fits h
