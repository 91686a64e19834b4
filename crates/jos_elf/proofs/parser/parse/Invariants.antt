use Rattle.std.proofs.Common.{◌≡◌, ◌≤◌, length, None}
use Rattle.std.specs.Prelude.{slice_index}
use Rattle.jos_elf.specs.Headers.{header_of}
use Rattle.jos_elf.specs.Tests.{first_failed, table_tests}
use Rattle.jos_elf.specs.Parsed.{segments_of}
use Rattle.jos_elf.proofs.parser.parse.Given as goal

-- the program headers so far pass, and say of the segments so far
abbrev pub invariant-loop-place : goal.invariant-loop-place
invariant-loop-place l = record {
  passed : first_failed (table_tests (length l.bytes) (header_of (slice_index l.bytes)) l.place) ≡ None;
  segments : l.segments.items ≡ segments_of (header_of (slice_index l.bytes)) l.place;
  few : length l.segments.items ≤ l.place;
}
