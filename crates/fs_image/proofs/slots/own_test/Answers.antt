use Rattle.std.specs.Prelude.{slice_index}
use Rattle.std.proofs.Common.{sym}
use Rattle.fs_image.specs.Answers.{blocks_in, fault_of}
use Rattle.fs_image.proofs.OneSlot.{own_1, own_2, own_3, own_4, own_5}
use Rattle.fs_image.proofs.slots.own_test.Goals as goal

pub returns-then-not-is_good_kind-clause-exact : goal.returns-then-not-is_good_kind-clause-exact
returns-then-not-is_good_kind-clause-exact c = sym (own_1 (slice_index c.args.disk.now.bytes.now) c.args.directory c.args.i c.slot_place-place.result (blocks_in c.args.named.now) c.slot_place-place.ensures.place (cc))

pub returns-then-not-is_good_name-clause-exact : goal.returns-then-not-is_good_name-clause-exact
returns-then-not-is_good_name-clause-exact c = sym (own_2 (slice_index c.args.disk.now.bytes.now) c.args.directory c.args.i c.slot_place-place.result (blocks_in c.args.named.now) c.slot_place-place.ensures.place (cc) (cc))

pub returns-in-Some-clause-exact : goal.returns-in-Some-clause-exact
returns-in-Some-clause-exact c = sym (own_3 (slice_index c.args.disk.now.bytes.now) c.args.directory c.args.i c.slot_place-place.result (blocks_in c.args.named.now) (fault_of c.in-Some.fault) c.slot_place-place.ensures.place (cc) (cc) (sym c.in-Some.ensures))

pub returns-then-is_taken-clause-exact : goal.returns-then-is_taken-clause-exact
returns-then-is_taken-clause-exact c = sym (own_4 (slice_index c.args.disk.now.bytes.now) c.args.directory c.args.i c.slot_place-place.result (blocks_in c.args.named.now) (blocks_in c.record_test.new.named) c.slot_place-place.ensures.place (cc) (cc) (sym c.in_default.ensures) (cc))

pub returns-clause-exact : goal.returns-clause-exact
returns-clause-exact c = sym (own_5 (slice_index c.args.disk.now.bytes.now) c.args.directory c.args.i c.slot_place-place.result (blocks_in c.args.named.now) (blocks_in c.record_test.new.named) c.slot_place-place.ensures.place (cc) (cc) (sym c.in_default.ensures) (cc))
