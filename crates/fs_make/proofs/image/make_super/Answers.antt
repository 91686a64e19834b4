use Rattle.std.proofs.Common.{arith}
use Rattle.fs_make.proofs.GoodFiles.{good-files, root-room}
use Rattle.fs_make.proofs.image.make_super.Goals as goal

pub overflow_cast-size : goal.overflow_cast-size
overflow_cast-size c =
    let good = good-files c.args.blocks c.args.files.now c.requires.good in
    omega (arith, good.root, c.root_size-size.ensures)

pub first_data_block-requires : goal.first_data_block-requires
first_data_block-requires c = (good-files c.args.blocks c.args.files.now c.requires.good).count

pub make_entry-requires-clause-blocks : goal.make_entry-requires-clause-blocks
make_entry-requires-clause-blocks c = rw (c.root_size-size.ensures, c.first_data_block.ensures) (root-room c.args.blocks c.args.files.now (good-files c.args.blocks c.args.files.now c.requires.good))
