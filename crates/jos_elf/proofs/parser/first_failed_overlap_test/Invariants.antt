use Rattle.std.proofs.Common.{◌≡◌, None}
use Rattle.std.specs.Prelude.{slice_index}
use Rattle.jos_elf.specs.Headers.{header_of}
use Rattle.jos_elf.specs.Tests.{first_failed, overlap_tests}
use Rattle.jos_elf.proofs.parser.first_failed_overlap_test.Given as goal

-- no segment so far shares a byte
abbrev pub invariant-loop-earlier : goal.invariant-loop-earlier
invariant-loop-earlier l = first_failed (overlap_tests (header_of (slice_index l.file)) l.place l.earlier) ≡ None
