use Rattle.std.specs.Prelude.{slice_index}
use Rattle.std.proofs.Common.{◌≡◌, sym, arith, ◌∙◌, ap}
use Rattle.fs_layout.specs.DiskImage.{first_data_block}
use Rattle.fs_image.proofs.Image.{blocks_none, blocks_passed, blocks_failed, blocks_done}
use Rattle.fs_image.proofs.tree.first_blocks_test.Goals as goal

pub loop-block-init : goal.loop-block-init
loop-block-init c = blocks_none (slice_index c.args.disk.now.bytes.now)

pub returns-then-is_marked_free : goal.returns-then-is_marked_free
returns-then-is_marked_free c = λ n. sym (blocks_failed (slice_index c.args.disk.now.bytes.now) c.loop-block.block c.first_data_block-block-end.result n (c.first_data_block-block-end.ensures ∙ ap first_data_block c.block_count.ensures) c.loop-block-test.true (c.loop-block.invariant n) (cc))

pub loop-block-preserved : goal.loop-block-preserved
loop-block-preserved c = λ n. blocks_passed (slice_index c.args.disk.now.bytes.now) c.loop-block.block n (c.loop-block.invariant n) (cc)

pub returns : goal.returns
returns c = λ n.
    let end : c.loop-block.block ≡ c.first_data_block-block-end.result = omega arith in
    sym (blocks_done (slice_index c.args.disk.now.bytes.now) c.loop-block.block c.first_data_block-block-end.result n (c.first_data_block-block-end.ensures ∙ ap first_data_block c.block_count.ensures) end (c.loop-block.invariant n))
