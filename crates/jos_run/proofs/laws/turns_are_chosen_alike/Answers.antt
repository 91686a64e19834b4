use Rattle.jos_run.proofs.Choices.{next_stands, end_stands}
use Rattle.jos_run.proofs.laws.turns_are_chosen_alike.Goals as goal

pub returns-clause-choice : goal.returns-clause-choice
returns-clause-choice c = λ names s a h none. next_stands h none

pub returns-clause-end : goal.returns-clause-end
returns-clause-end c = λ names s a h none only turns spent. end_stands h none only turns spent
