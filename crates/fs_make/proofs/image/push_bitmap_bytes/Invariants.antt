use Rattle.std.proofs.Common.{◌≡◌, ◌++◌, map}
use Rattle.std.specs.List.{range_with_len}
use Rattle.fs_make.specs.MadeImage.{bitmap_byte}
use Rattle.fs_make.proofs.image.push_bitmap_bytes.Given as goal

-- the bytes so far
abbrev pub invariant-loop-k : goal.invariant-loop-k
invariant-loop-k l = l.image.items ≡ l.initial.image.items ++ map (bitmap_byte l.used) (range_with_len 0 l.k)
