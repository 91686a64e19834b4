use Rattle.std.proofs.Common.{◌≡◌, ◌+◌, ◌++◌, map}
use Rattle.std.specs.Prelude.{nat_lt, if◌then◌else◌}
use Rattle.std.specs.List.{range_with_len}
use Rattle.jos_base.specs.TrapFrames.{bytes_of_words}
use Rattle.fs_layout.specs.declared.numbers.TheConstants.{NDIRECT}
use Rattle.fs_layout.specs.FileTree.{blocks_of}
use Rattle.fs_make.proofs.nodes.push_further_numbers.Given as goal

-- the numbers so far
abbrev pub invariant-loop-i : goal.invariant-loop-i
invariant-loop-i l =
    l.image.items
    ≡ l.initial.image.items ++ bytes_of_words (map (λ i. if nat_lt (NDIRECT + i) (blocks_of l.fn.size) then l.first + NDIRECT + 1 + i else 0) (range_with_len 0 l.i))
