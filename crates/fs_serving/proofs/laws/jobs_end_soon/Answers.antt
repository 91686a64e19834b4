use Rattle.fs_serving.proofs.JobsLeft as lemma
use Rattle.fs_serving.proofs.laws.jobs_end_soon.Goals as goal

pub returns : goal.returns
returns c = lemma.jobs_end_soon
