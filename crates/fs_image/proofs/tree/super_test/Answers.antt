use Rattle.std.specs.Prelude.{slice_index}
use Rattle.std.proofs.Common.{sym}
use Rattle.fs_layout.specs.DiskImage.{none_named}
use Rattle.fs_image.proofs.Image.{super_1, super_2, super_3, super_4, super_5}
use Rattle.fs_image.proofs.tree.super_test.Goals as goal

pub returns-then-not-is_long_enough-clause-exact : goal.returns-then-not-is_long_enough-clause-exact
returns-then-not-is_long_enough-clause-exact c = sym (super_1 c.args.total (slice_index c.args.disk.now.bytes.now) none_named (cc))

pub returns-then-not-has_magic-clause-exact : goal.returns-then-not-has_magic-clause-exact
returns-then-not-has_magic-clause-exact c = sym (super_2 c.args.total (slice_index c.args.disk.now.bytes.now) none_named (cc) (cc))

pub returns-then-not-is_good_count-clause-exact : goal.returns-then-not-is_good_count-clause-exact
returns-then-not-is_good_count-clause-exact c = sym (super_3 c.args.total (slice_index c.args.disk.now.bytes.now) none_named (cc) (cc) (cc))

pub returns-then-not-has_root-clause-exact : goal.returns-then-not-has_root-clause-exact
returns-then-not-has_root-clause-exact c = sym (super_4 c.args.total (slice_index c.args.disk.now.bytes.now) none_named (cc) (cc) (cc) (cc))

pub returns-clause-exact : goal.returns-clause-exact
returns-clause-exact c = sym (super_5 c.args.total (slice_index c.args.disk.now.bytes.now) none_named (cc) (cc) (cc) (cc))
