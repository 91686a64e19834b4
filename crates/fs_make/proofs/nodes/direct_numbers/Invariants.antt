use Rattle.std.proofs.Common.{◌≡◌, ℕ, ◌<◌, ◌+◌, length, get_or}
use Rattle.std.specs.Prelude.{nat_lt, if◌then◌else◌}
use Rattle.fs_layout.specs.declared.numbers.TheConstants.{NDIRECT}
use Rattle.fs_layout.specs.FileTree.{blocks_of}
use Rattle.fs_make.proofs.nodes.direct_numbers.Given as goal

-- the numbers so far
abbrev pub invariant-loop-i : goal.invariant-loop-i
invariant-loop-i l = record {
  read : (k : ℕ) → k < l.i → get_or l.numbers k 0 ≡ (if nat_lt k (blocks_of l.size) then l.first + k else 0);
  whole : length l.numbers ≡ NDIRECT;
}
