use Rattle.std.proofs.Common.{◌≡◌, ◌∙◌, None, sym}
use Rattle.fs_make.specs.MakeFaults.{make_fault}
use Rattle.fs_make.proofs.MadeDisks.{made_is_disk}
use Rattle.fs_make.proofs.MadeTrees.{made_has_files}
use Rattle.fs_make.proofs.making.make.Goals as goal

no_fault : (c : goal.In-Ok) → make_fault c.args.blocks c.args.files.now ≡ None
no_fault c = sym c.in-Ok-None.ensures ∙ c.in-Ok-None.field-0-is

pub returns-in-Ok-clause-disk : goal.returns-in-Ok-clause-disk
returns-in-Ok-clause-disk c = rw c.in-Ok.ensures (made_is_disk c.args.blocks c.args.files.now (no_fault c))

pub returns-in-Ok-clause-files : goal.returns-in-Ok-clause-files
returns-in-Ok-clause-files c = rw c.in-Ok.ensures (made_has_files c.args.blocks c.args.files.now (no_fault c))
