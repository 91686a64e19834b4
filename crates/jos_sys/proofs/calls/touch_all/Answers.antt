use Rattle.std.proofs.Common.{◌∙◌, ap, refl}
use Rattle.jos_sys.proofs.Buffers.{touching_start, touching_more, touching_end}
use Rattle.jos_sys.proofs.calls.touch_all.Goals as goal
use Rattle.jos_base.proofs.Uses.{directory_is}

pub loop-init : goal.loop-init
loop-init c = (touching_start, refl)

pub access-requires : goal.access-requires
access-requires c = directory_is _ (ap (λ d. d c.args.space.directory.0) c.loop.invariant.0.directories ∙ c.requires.space)

pub loop-preserved : goal.loop-preserved
loop-preserved c = (
  touching_more _ c.loop.invariant.0 c.loop-test.true c.access.ensures.after c.access.ensures.directories,
  c.access.ensures.records ∙ c.loop.invariant.1,
)

pub returns-clause-state : goal.returns-clause-state
returns-clause-state c = touching_end c.loop.invariant.0 c.loop-test.false

pub returns-clause-directories : goal.returns-clause-directories
returns-clause-directories c = c.loop.invariant.0.directories

pub returns-clause-records : goal.returns-clause-records
returns-clause-records c = c.loop.invariant.1
