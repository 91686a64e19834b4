use Rattle.std.specs.Prelude.{slice_index}
use Rattle.std.proofs.Common.{◌≡◌, ◌+◌, ◌∙◌, ap, sym, arith}
use Rattle.jos_base.specs.Environments.{bit_of}
use Rattle.fs_image.proofs.Checked.{free_none, free_more, free_all}
use Rattle.fs_image.proofs.blocks.free_blocks.Goals as goal
use Rattle.fs_image.proofs.blocks.free_blocks.Goals.{then-is_marked_free, else-is_marked_free}

pub loop-block-init : goal.loop-block-init
loop-block-init c = record { counted = free_none (slice_index c.args.disk.now.bytes.now); few = omega arith }

pub loop-block-preserved : goal.loop-block-preserved
loop-block-preserved c = record {
  counted =
      let now : c.if-is_marked_free.free ≡ c.loop-block.free + bit_of c.is_marked_free.result =
      elim c.if-is_marked_free.branch [
        | then-is_marked_free w ↦ w.free-is ∙ ap (λ b. c.loop-block.free + bit_of b) (sym w.if-is_marked_free.true)
        | else-is_marked_free w ↦ let same : c.if-is_marked_free.free ≡ c.loop-block.free + 0 = omega (arith, w.free-is) in same ∙ ap (λ b. c.loop-block.free + bit_of b) (sym w.if-is_marked_free.false)
      ] in
      free_more (slice_index c.args.disk.now.bytes.now) c.loop-block.block c.loop-block.free c.if-is_marked_free.free c.is_marked_free.result c.loop-block.invariant.counted c.is_marked_free.ensures now;
  few =
      elim c.if-is_marked_free.branch [
        | then-is_marked_free w ↦ omega (arith, w.free-is)
        | else-is_marked_free w ↦ omega (arith, w.free-is)
      ];
}

pub returns : goal.returns
returns c =
    let end : c.loop-block.block ≡ c.block_count-block-end.result = omega arith in
    free_all (slice_index c.args.disk.now.bytes.now) c.loop-block.block c.block_count-block-end.result c.loop-block.free end c.block_count-block-end.ensures c.loop-block.invariant.counted
