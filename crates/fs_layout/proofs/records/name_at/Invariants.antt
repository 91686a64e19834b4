use Rattle.std.proofs.Common.{◌≡◌, ℕ, ◌<◌, ◌+◌, length, get_or}
use Rattle.std.specs.Prelude.{slice_index}
use Rattle.fs_layout.specs.declared.numbers.TheConstants.{MAXNAMELEN}
use Rattle.fs_layout.proofs.records.name_at.Given as goal

-- what is read so far
abbrev pub invariant-loop-place : goal.invariant-loop-place
invariant-loop-place l = record {
  read : (k : ℕ) → k < l.place → get_or l.name k 0 ≡ slice_index l.bytes (l.at + k);
  whole : length l.name ≡ MAXNAMELEN;
}
