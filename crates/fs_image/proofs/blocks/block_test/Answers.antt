use Rattle.std.specs.Prelude.{slice_index}
use Rattle.std.proofs.Common.{sym}
use Rattle.fs_image.proofs.OneBlock.{named_twice, marked_free, block_passed}
use Rattle.fs_image.proofs.blocks.block_test.Goals as goal

pub returns-then-named-block : goal.returns-then-named-block
returns-then-named-block c = sym (named_twice (slice_index c.args.disk.now.bytes.now) c.args.block c.args.named.now (cc) c.if-named-block.true)

pub returns-then-is_marked_free : goal.returns-then-is_marked_free
returns-then-is_marked_free c = sym (marked_free (slice_index c.args.disk.now.bytes.now) c.args.block c.args.named.now (cc) c.if-named-block.false (cc))

pub returns : goal.returns
returns c = sym (block_passed (slice_index c.args.disk.now.bytes.now) c.args.block c.args.named.now (cc) c.if-named-block.false (cc) c.requires)
