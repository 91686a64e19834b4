use Rattle.std.proofs.Common.{◌≡◌, ℕ, ◌<◌, ◌+◌, ◌*◌, length, get_or}
use Rattle.std.specs.Prelude.{slice_index}
use Rattle.jos_base.specs.Words.{word_at}
use Rattle.fs_layout.specs.declared.numbers.TheConstants.{NDIRECT}
use Rattle.fs_layout.proofs.records.direct_at.Given as goal

-- what is read so far
abbrev pub invariant-loop-place : goal.invariant-loop-place
invariant-loop-place l = record {
  read : (k : ℕ) → k < l.place → get_or l.direct k 0 ≡ word_at (slice_index l.bytes) (l.at + 4 * k);
  whole : length l.direct ≡ NDIRECT;
}
