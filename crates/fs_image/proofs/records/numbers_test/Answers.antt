use Rattle.std.specs.Prelude.{slice_index}
use Rattle.std.proofs.Common.{sym}
use Rattle.fs_image.specs.Answers.{test_answer, blocks_in, fault_of}
use Rattle.fs_image.proofs.OneRecord.{numbers_1, numbers_2, numbers_3}
use Rattle.fs_image.proofs.records.numbers_test.Goals as goal

pub returns-in-Some : goal.returns-in-Some
returns-in-Some c = sym (numbers_1 (slice_index c.args.disk.now.bytes.now) c.args.place (blocks_in c.args.named.now) (fault_of c.in-Some.fault) (cc c.in-Some.ensures))

pub returns-in-Some-indirect_test : goal.returns-in-Some-indirect_test
returns-in-Some-indirect_test c = sym (numbers_2 (slice_index c.args.disk.now.bytes.now) c.args.place (blocks_in c.args.named.now) (blocks_in c.directs_test.new.named) (fault_of c.in-Some-indirect_test.fault) (cc c.in_default.ensures) (cc c.in-Some-indirect_test.ensures))

pub returns : goal.returns
returns c = sym (numbers_3 (slice_index c.args.disk.now.bytes.now) c.args.place (blocks_in c.args.named.now) (blocks_in c.directs_test.new.named) (blocks_in c.indirect_test.new.named) (test_answer c.others_test.result c.others_test.new.named) (cc c.in_default.ensures) (cc c.in_default-indirect_test.ensures) (cc))
