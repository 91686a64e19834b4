use Rattle.std.specs.Prelude.{slice_index}
use Rattle.std.proofs.Common.{sym, Ok, Err, arith}
use Rattle.fs_layout.specs.DiskImage.{size_of, Stray}
use Rattle.fs_image.specs.Answers.{blocks_in, fault_of}
use Rattle.fs_image.proofs.OneRecord.{record_1, record_2, record_3, record_4, stray_1, stray_2, stray_3, size_past, size_within}
use Rattle.fs_image.proofs.records.record_test.Goals as goal

pub returns-then-not-is_good_size : goal.returns-then-not-is_good_size
returns-then-not-is_good_size c = sym (record_1 (slice_index c.args.disk.now.bytes.now) c.args.place (blocks_in c.args.named.now) (cc))

pub returns-then-size-gt-MAXFILESIZE : goal.returns-then-size-gt-MAXFILESIZE
returns-then-size-gt-MAXFILESIZE c = sym (record_2 (slice_index c.args.disk.now.bytes.now) c.args.place (blocks_in c.args.named.now) (cc) (size_past c.size_of-size.result (size_of (slice_index c.args.disk.now.bytes.now) c.args.place) c.size_of-size.ensures (omega arith)))

pub returns-in-Some : goal.returns-in-Some
returns-in-Some c = sym (record_3 (slice_index c.args.disk.now.bytes.now) c.args.place (blocks_in c.args.named.now) (fault_of c.in-Some.fault) (cc) (size_within c.size_of-size.result (size_of (slice_index c.args.disk.now.bytes.now) c.args.place) c.size_of-size.ensures (omega arith)) (sym c.in-Some.ensures))

pub returns-then-has_stray : goal.returns-then-has_stray
returns-then-has_stray c = sym (record_4 (slice_index c.args.disk.now.bytes.now) c.args.place (blocks_in c.args.named.now) (blocks_in c.numbers_test.new.named) (Err (Stray c.args.place)) (cc) (size_within c.size_of-size.result (size_of (slice_index c.args.disk.now.bytes.now) c.args.place) c.size_of-size.ensures (omega arith)) (sym c.in_default.ensures) (stray_1 (slice_index c.args.disk.now.bytes.now) c.args.place (blocks_in c.numbers_test.new.named) (cc)))

pub returns-then-has_far_stray : goal.returns-then-has_far_stray
returns-then-has_far_stray c = sym (record_4 (slice_index c.args.disk.now.bytes.now) c.args.place (blocks_in c.args.named.now) (blocks_in c.numbers_test.new.named) (Err (Stray c.args.place)) (cc) (size_within c.size_of-size.result (size_of (slice_index c.args.disk.now.bytes.now) c.args.place) c.size_of-size.ensures (omega arith)) (sym c.in_default.ensures) (stray_2 (slice_index c.args.disk.now.bytes.now) c.args.place (blocks_in c.numbers_test.new.named) (cc) (cc)))

pub returns : goal.returns
returns c = sym (record_4 (slice_index c.args.disk.now.bytes.now) c.args.place (blocks_in c.args.named.now) (blocks_in c.numbers_test.new.named) (Ok (blocks_in c.numbers_test.new.named)) (cc) (size_within c.size_of-size.result (size_of (slice_index c.args.disk.now.bytes.now) c.args.place) c.size_of-size.ensures (omega arith)) (sym c.in_default.ensures) (stray_3 (slice_index c.args.disk.now.bytes.now) c.args.place (blocks_in c.numbers_test.new.named) (cc) (cc)))
