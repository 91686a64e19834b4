use Rattle.std.proofs.Common.{◌≡◌, arith, sym, ◌∙◌, true, false}
use Rattle.std.proofs.Common.{length, length-append}
use Rattle.std.specs.Prelude.{slice_index}
use Rattle.jos_elf.specs.declared.image.Segment.{Segment}
use Rattle.jos_elf.specs.Headers.{header_of, entry_count_of}
use Rattle.jos_elf.specs.Tests.{is_loaded}
use Rattle.jos_elf.specs.Parsed.{parsed}
use Rattle.jos_elf.proofs.Tests.{table-none, table-passed_over, table-passed, table-failed}
use Rattle.jos_elf.proofs.Parsed.{parsed-header_failed, parsed-table_failed, parsed-passed, segments-none}
use Rattle.jos_elf.proofs.Parsed.{segments-passed_over, segments-more, segments-lie, segments-apart}
use Rattle.jos_elf.proofs.parser.parse.Goals as goal

pub returns-in-Some-clause-exact : goal.returns-in-Some-clause-exact
unfolding parsed
returns-in-Some-clause-exact c = parsed-header_failed (length c.args.bytes.now) (slice_index c.args.bytes.now) c.in-Some.fault (sym c.in-Some.ensures.exact)

pub loop-place-init : goal.loop-place-init
loop-place-init c = record {
  passed = table-none (length c.args.bytes.now) (header_of (slice_index c.args.bytes.now));
  segments = c.new-segments.ensures ∙ sym (segments-none (header_of (slice_index c.args.bytes.now)));
  few = rw c.new-segments.ensures (omega arith);
}

pub loop-place-preserved-then-not-is_loaded : goal.loop-place-preserved-then-not-is_loaded
loop-place-preserved-then-not-is_loaded c =
    let over : is_loaded (header_of (slice_index c.args.bytes.now) c.loop-place.place) ≡ false = cc in
    record {
      passed = table-passed_over (length c.args.bytes.now) (header_of (slice_index c.args.bytes.now)) c.loop-place.place c.loop-place.invariant.passed over;
      segments = segments-passed_over (header_of (slice_index c.args.bytes.now)) c.loop-place.place c.loop-place.segments.items c.loop-place.invariant.segments over;
      few = omega arith;
    }

pub returns-in-Some-first_failed_segment_test-clause-exact :
    goal.returns-in-Some-first_failed_segment_test-clause-exact
unfolding parsed
returns-in-Some-first_failed_segment_test-clause-exact c =
    let loaded : is_loaded (header_of (slice_index c.args.bytes.now) c.loop-place.place) ≡ true = cc in
    parsed-table_failed (length c.args.bytes.now) (slice_index c.args.bytes.now) c.in-Some-first_failed_segment_test.fault (sym c.in_default.ensures.exact)
    (table-failed (length c.args.bytes.now) (header_of (slice_index c.args.bytes.now)) c.loop-place.place (entry_count_of (slice_index c.args.bytes.now)) c.in-Some-first_failed_segment_test.fault
    (omega arith) c.loop-place.invariant.passed loaded (sym c.in-Some-first_failed_segment_test.ensures))

pub loop-place-preserved : goal.loop-place-preserved
loop-place-preserved c =
    let loaded : is_loaded (header_of (slice_index c.args.bytes.now) c.loop-place.place) ≡ true = cc in
    record {
      passed = table-passed (length c.args.bytes.now) (header_of (slice_index c.args.bytes.now)) c.loop-place.place c.loop-place.invariant.passed loaded (sym c.in_default-first_failed_segment_test.ensures);
      segments = c.push.ensures.items ∙ rw c.header_of-header.ensures (segments-more (header_of (slice_index c.args.bytes.now)) c.loop-place.place c.loop-place.segments.items c.loop-place.invariant.segments loaded);
      few = rw c.push.ensures.items (omega (arith, length-append {A = Segment}));
    }

pub returns-clause-exact : goal.returns-clause-exact
unfolding parsed
returns-clause-exact c =
    let whole : c.loop-place.place ≡ entry_count_of (slice_index c.args.bytes.now) = omega arith in
    parsed-passed (length c.args.bytes.now) (slice_index c.args.bytes.now) c.word_at.result c.loop-place.segments.items (sym c.in_default.ensures.exact)
    (rw (← whole) c.loop-place.invariant.passed) c.word_at.ensures (rw (← whole) c.loop-place.invariant.segments)

pub returns-clause-lie : goal.returns-clause-lie
returns-clause-lie c = rw c.loop-place.invariant.segments (segments-lie (length c.args.bytes.now) (header_of (slice_index c.args.bytes.now)) c.loop-place.place c.loop-place.invariant.passed)

pub returns-clause-apart : goal.returns-clause-apart
returns-clause-apart c = rw c.loop-place.invariant.segments (segments-apart (length c.args.bytes.now) (header_of (slice_index c.args.bytes.now)) c.loop-place.place c.loop-place.invariant.passed)
