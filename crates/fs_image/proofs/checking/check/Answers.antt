use Rattle.std.proofs.Common.{◌≡◌, ◌∙◌, false, replicate, ap, sym, rules}
use Rattle.std.specs.Prelude.{slice_index}
use Rattle.fs_image.specs.Answers.{blocks_in, fault_of}
use Rattle.fs_image.proofs.Image.{image_1}
use Rattle.fs_image.proofs.Checked.{none_marked, held_fault, held_disk, tree_fails, tree_passes}
use Rattle.fs_image.proofs.checking.check.Goals as goal

pub returns-in-Some-clause-bad : goal.returns-in-Some-clause-bad
returns-in-Some-clause-bad c =
    held_fault c.args.disk.now c.total.result c.new-bytes.result.bytes.now _ c.total.ensures.total (cc)
    (image_1 c.total.result (slice_index c.new-bytes.result.bytes.now) (fault_of c.in-Some.fault) (sym c.in-Some.ensures.exact))

pub returns-in-Err-tree_test-clause-bad : goal.returns-in-Err-tree_test-clause-bad
returns-in-Err-tree_test-clause-bad c =
    let marks : c.in-Ok.named.items ≡ replicate c.block_count-blocks.result false = c.in-Ok.ensures.items_if_clones_equal (λ y h. search rules) in
    tree_fails c.args.disk.now c.total.result c.new-bytes.result.bytes.now (blocks_in c.deref_mut.result.now) c.in-Err-tree_test.fault _ c.total.ensures.total (cc) (ap blocks_in (c.deref_mut.ensures.value ∙ marks) ∙ none_marked c.block_count-blocks.result) (sym c.in_default.ensures.exact) c.in-Err-tree_test.ensures

pub returns-clause-no_fault : goal.returns-clause-no_fault
returns-clause-no_fault c =
    let marks : c.in-Ok.named.items ≡ replicate c.block_count-blocks.result false = c.in-Ok.ensures.items_if_clones_equal (λ y h. search rules) in
    tree_passes c.args.disk.now c.total.result c.new-bytes.result.bytes.now (blocks_in c.deref_mut.result.now) (blocks_in c.tree_test.new.named) c.total.ensures.total (cc) (ap blocks_in (c.deref_mut.ensures.value ∙ marks) ∙ none_marked c.block_count-blocks.result) (sym c.in_default.ensures.exact) c.in_default-tree_test.ensures

pub returns-clause-disk : goal.returns-clause-disk
returns-clause-disk c =
    let marks : c.in-Ok.named.items ≡ replicate c.block_count-blocks.result false = c.in-Ok.ensures.items_if_clones_equal (λ y h. search rules) in
    held_disk c.args.disk.now
    (tree_passes c.args.disk.now c.total.result c.new-bytes.result.bytes.now (blocks_in c.deref_mut.result.now) (blocks_in c.tree_test.new.named) c.total.ensures.total (cc) (ap blocks_in (c.deref_mut.ensures.value ∙ marks) ∙ none_marked c.block_count-blocks.result) (sym c.in_default.ensures.exact) c.in_default-tree_test.ensures)
    c.total.ensures.long_enough
