use Rattle.std.proofs.Common.{◌∙◌, ap, arith}
use Rattle.fs_make.specs.MakeFaults.{span_of}
use Rattle.fs_make.proofs.GoodFiles.{good-files, root-room, all-room, used-room}
use Rattle.fs_make.proofs.Appended.{image-is}
use Rattle.fs_make.proofs.image.make_image.Goals as goal

pub first_data_block-first-requires : goal.first_data_block-first-requires
first_data_block-first-requires c =
    let good = good-files c.args.blocks c.args.files.now c.requires.good in
    good.count

pub span_of-requires : goal.span_of-requires
span_of-requires c =
    let good = good-files c.args.blocks c.args.files.now c.requires.good in
    omega (arith, good.root, c.root_size.ensures)

pub overflow_cast-first_file : goal.overflow_cast-first_file
overflow_cast-first_file c =
    let good = good-files c.args.blocks c.args.files.now c.requires.good in
    let room = all-room c.args.blocks c.args.files.now c.first_data_block-first.result c.root_size.result c.span_of.result good c.first_data_block-first.ensures c.root_size.ensures c.span_of.ensures in
    omega (arith, room, good.count)

pub overflow_add-first_file : goal.overflow_add-first_file
overflow_add-first_file c =
    let good = good-files c.args.blocks c.args.files.now c.requires.good in
    let room = all-room c.args.blocks c.args.files.now c.first_data_block-first.result c.root_size.result c.span_of.result good c.first_data_block-first.ensures c.root_size.ensures c.span_of.ensures in
    omega (arith, room, good.count)

pub blocks_used-used-requires-clause-blocks : goal.blocks_used-used-requires-clause-blocks
blocks_used-used-requires-clause-blocks c =
    let good = good-files c.args.blocks c.args.files.now c.requires.good in
    good.count

pub blocks_used-used-requires-clause-sizes : goal.blocks_used-used-requires-clause-sizes
blocks_used-used-requires-clause-sizes c =
    let good = good-files c.args.blocks c.args.files.now c.requires.good in
    good.sizes

pub overflow_cast-used : goal.overflow_cast-used
overflow_cast-used c =
    let good = good-files c.args.blocks c.args.files.now c.requires.good in
    let room = used-room c.args.blocks c.args.files.now c.blocks_used-used.result good c.blocks_used-used.ensures in
    omega (arith, room, good.count)

pub root_bytes-requires-clause-names : goal.root_bytes-requires-clause-names
root_bytes-requires-clause-names c =
    let good = good-files c.args.blocks c.args.files.now c.requires.good in
    good.names

pub root_bytes-requires-clause-blocks : goal.root_bytes-requires-clause-blocks
root_bytes-requires-clause-blocks c =
    let good = good-files c.args.blocks c.args.files.now c.requires.good in
    let room = all-room c.args.blocks c.args.files.now c.first_data_block-first.result c.root_size.result c.span_of.result good c.first_data_block-first.ensures c.root_size.ensures c.span_of.ensures in
    omega (arith, room, good.count)

pub root_bytes-requires-clause-root : goal.root_bytes-requires-clause-root
root_bytes-requires-clause-root c =
    let good = good-files c.args.blocks c.args.files.now c.requires.good in
    good.root

pub push_bitmap_bytes-requires : goal.push_bitmap_bytes-requires
push_bitmap_bytes-requires c =
    let good = good-files c.args.blocks c.args.files.now c.requires.good in
    good.count

pub push_node_blocks-requires : goal.push_node_blocks-requires
push_node_blocks-requires c =
    let good = good-files c.args.blocks c.args.files.now c.requires.good in
    rw (c.deref.ensures.value, c.in_ok-root.ensures.len, c.first_data_block-first.ensures) (root-room c.args.blocks c.args.files.now good)

pub push_files_blocks-requires : goal.push_files_blocks-requires
push_files_blocks-requires c =
    let good = good-files c.args.blocks c.args.files.now c.requires.good in
    let room = all-room c.args.blocks c.args.files.now c.first_data_block-first.result c.root_size.result c.span_of.result good c.first_data_block-first.ensures c.root_size.ensures c.span_of.ensures in
    omega (arith, room, good.count)

pub overflow_sub-blocks : goal.overflow_sub-blocks
overflow_sub-blocks c =
    let good = good-files c.args.blocks c.args.files.now c.requires.good in
    let room = used-room c.args.blocks c.args.files.now c.blocks_used-used.result good c.blocks_used-used.ensures in
    omega (arith, room)

pub overflow_mul-blocks-2 : goal.overflow_mul-blocks-2
overflow_mul-blocks-2 c =
    let good = good-files c.args.blocks c.args.files.now c.requires.good in
    omega (arith, good.count)

pub returns : goal.returns
returns c =
    image-is c.args.blocks c.args.files.now c.first_data_block-first.result c.span_of.result c.blocks_used-used.result c.deref.result.now c.make_super.result c.in_ok-image.image.items
    c.push_zeros.new.image.items c.extend_from_slice.new.self.items c.push_bitmap_bytes.new.image.items c.push_node_blocks.new.image.items c.push_files_blocks.new.image.items c.push_zeros-2.new.image.items
    c.first_data_block-first.ensures (c.span_of.ensures ∙ ap span_of c.root_size.ensures) c.blocks_used-used.ensures (c.deref.ensures.value ∙ c.in_ok-root.ensures.bytes) c.make_super.ensures
    c.in_ok-image.ensures.items c.in_ok-push_zeros.ensures.bytes c.in_ok-extend_from_slice.ensures.items c.in_ok-push_bitmap_bytes.ensures c.in_ok-push_node_blocks.ensures
    c.in_ok-push_files_blocks.ensures c.in_ok-push_zeros-2.ensures.bytes
