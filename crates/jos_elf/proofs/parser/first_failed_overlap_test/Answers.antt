use Rattle.std.proofs.Common.{arith, sym}
use Rattle.std.specs.Prelude.{slice_index}
use Rattle.jos_elf.specs.Headers.{header_of}
use Rattle.jos_elf.proofs.Tests.{overlap-none, overlap-passed, overlap-failed}
use Rattle.jos_elf.proofs.parser.first_failed_overlap_test.Goals as goal

pub loop-earlier-init : goal.loop-earlier-init
loop-earlier-init c = overlap-none (header_of (slice_index c.args.file.now)) c.args.place

pub returns-then-not-leaves_free : goal.returns-then-not-leaves_free
returns-then-not-leaves_free c = sym (overlap-failed (header_of (slice_index c.args.file.now)) c.args.place c.loop-earlier.earlier c.args.place (omega arith) c.loop-earlier.invariant cc)

pub loop-earlier-preserved : goal.loop-earlier-preserved
loop-earlier-preserved c = overlap-passed (header_of (slice_index c.args.file.now)) c.args.place c.loop-earlier.earlier c.loop-earlier.invariant cc
