use Rattle.std.specs.Prelude.{slice_index}
use Rattle.std.proofs.Common.{◌∙◌, ap, sym, arith, Ok}
use Rattle.fs_layout.specs.DiskImage.{number_test, number_in_indirect}
use Rattle.fs_image.specs.Answers.{blocks_in, fault_of}
use Rattle.fs_image.proofs.Each.{each_none, each_passed, each_failed}
use Rattle.fs_image.proofs.records.others_test.Goals as goal

pub loop-i-init : goal.loop-i-init
loop-i-init c = each_none (λ i. number_test (slice_index c.args.disk.now.bytes.now) c.args.place (number_in_indirect (slice_index c.args.disk.now.bytes.now) c.args.place i)) (blocks_in c.args.named.now)

pub returns-in-Some : goal.returns-in-Some
returns-in-Some c =
    sym (each_failed (λ i. number_test (slice_index c.args.disk.now.bytes.now) c.args.place (number_in_indirect (slice_index c.args.disk.now.bytes.now) c.args.place i))
    (blocks_in c.args.named.now) (blocks_in c.loop-i.named) (fault_of c.in-Some.fault) c.loop-i.i c.args.count (omega arith) c.loop-i.invariant
    (ap (λ n. number_test (slice_index c.args.disk.now.bytes.now) c.args.place n (blocks_in c.loop-i.named)) (sym c.number_in_indirect.ensures) ∙ sym c.in-Some.ensures))

pub loop-i-preserved : goal.loop-i-preserved
loop-i-preserved c =
    each_passed (λ i. number_test (slice_index c.args.disk.now.bytes.now) c.args.place (number_in_indirect (slice_index c.args.disk.now.bytes.now) c.args.place i))
    (blocks_in c.args.named.now) (blocks_in c.loop-i.named) (Ok (blocks_in c.number_test.new.named)) c.loop-i.i c.loop-i.invariant
    (ap (λ n. number_test (slice_index c.args.disk.now.bytes.now) c.args.place n (blocks_in c.loop-i.named)) (sym c.number_in_indirect.ensures) ∙ sym c.in_default.ensures)
