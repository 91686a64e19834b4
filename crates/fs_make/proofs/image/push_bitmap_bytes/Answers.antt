use Rattle.std.proofs.Common.{◌≡◌, ◌*◌, ap, arith}
use Rattle.fs_layout.specs.declared.numbers.TheConstants.{BLKSIZE}
use Rattle.fs_layout.specs.FileTree.{bitmap_blocks}
use Rattle.fs_make.specs.MadeImage.{bitmap_byte, bitmap_bytes}
use Rattle.fs_make.proofs.Appended.{bytes-more, bytes-all}
use Rattle.fs_make.proofs.image.push_bitmap_bytes.Goals as goal

pub loop-k-preserved : goal.loop-k-preserved
loop-k-preserved c = bytes-more (bitmap_byte c.args.used) c.loop-k.k c.bitmap_byte.result c.args.image.now.items c.loop-k.image.items c.push.new.self.items c.in_ok-push.ensures.items c.bitmap_byte.ensures c.loop-k.invariant

pub returns : goal.returns
unfolding bitmap_bytes
returns c =
    let whole : c.loop-k.k ≡ BLKSIZE * bitmap_blocks c.args.blocks = omega (arith, ap (λ n. BLKSIZE * n) c.bitmap_blocks-k-end.ensures) in
    bytes-all (bitmap_byte c.args.used) c.loop-k.k (BLKSIZE * bitmap_blocks c.args.blocks) c.args.image.now.items c.loop-k.image.items whole c.loop-k.invariant
