use Rattle.std.specs.Prelude.{slice_index}
use Rattle.std.proofs.Common.{◌∙◌, Ok, Err, sym, ap}
use Rattle.fs_layout.specs.DiskImage.{contents_test, root_place}
use Rattle.fs_image.specs.Answers.{blocks_in, fault_of}
use Rattle.fs_image.proofs.Image.{tree_1, tree_3}
use Rattle.fs_image.proofs.Checked.{tree_stops}
use Rattle.fs_image.proofs.tree.tree_test.Goals as goal

pub returns-in-Some : goal.returns-in-Some
returns-in-Some c = tree_1 (slice_index c.args.disk.now.bytes.now) (blocks_in c.args.named.now) (fault_of c.in-Some.fault) (sym c.in-Some.ensures)

pub returns-in-Err : goal.returns-in-Err
returns-in-Err c =
    tree_stops (slice_index c.args.disk.now.bytes.now) (blocks_in c.args.named.now) (blocks_in c.record_test.new.named) c.block_count.result c.in-Err.fault _ _ c.block_count.ensures (sym c.in_default.ensures) c.in-Err.ensures

pub returns-in-Some-first_blocks_test : goal.returns-in-Some-first_blocks_test
returns-in-Some-first_blocks_test c =
    tree_3 (slice_index c.args.disk.now.bytes.now) (blocks_in c.args.named.now) (blocks_in c.record_test.new.named) (blocks_in c.contents_test.new.named) (Err (fault_of c.in-Some-first_blocks_test.fault)) (sym c.in_default.ensures) (ap (λ d. contents_test d (slice_index c.args.disk.now.bytes.now) root_place (blocks_in c.record_test.new.named)) (sym c.block_count.ensures) ∙ c.in_default-contents_test.ensures) (sym (c.in-Some-first_blocks_test.ensures (blocks_in c.contents_test.new.named)))

pub returns-in-None : goal.returns-in-None
returns-in-None c =
    tree_3 (slice_index c.args.disk.now.bytes.now) (blocks_in c.args.named.now) (blocks_in c.record_test.new.named) (blocks_in c.contents_test.new.named) (Ok (blocks_in c.contents_test.new.named)) (sym c.in_default.ensures) (ap (λ d. contents_test d (slice_index c.args.disk.now.bytes.now) root_place (blocks_in c.record_test.new.named)) (sym c.block_count.ensures) ∙ c.in_default-contents_test.ensures) (sym (c.in-None.ensures (blocks_in c.contents_test.new.named)))
