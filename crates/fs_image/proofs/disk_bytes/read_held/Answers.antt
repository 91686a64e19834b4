use Rattle.std.proofs.Common.{◌≡◌, sym, subst, arith}
use Rattle.fs_image.specs.declared.disk_bytes.DiskFault.TheVariants.{NoMemory}
use Rattle.fs_image.specs.DiskHeld.{blocks_held}
use Rattle.fs_image.proofs.Reading.{IsTold, reading_more, fault_under, ended_later, long_enough, told_ended_first, told_ended_later, told_all}
use Rattle.fs_image.proofs.disk_bytes.read_held.Goals as goal

pub returns-in-Err-clause-told : goal.returns-in-Err-clause-told
returns-in-Err-clause-told g c = fault_under (g.H.Host.files c.args.host.now) c.args.name.now c.in-Err.fault c.in-Err.ensures.there

pub returns-then-len-first-clause-told : goal.returns-then-len-first-clause-told
returns-then-len-first-clause-told g c =
    subst (IsTold (g.H.Host.files c.args.host.now) c.args.name.now) (sym c.whole_file.ensures)
    (told_ended_first (g.H.Host.files c.args.host.now) c.args.name.now c.read_to.new.bytes.items c.args.size c.min-first.result c.requires (omega arith) (rw c.new-bytes.ensures.items at c.in_default.ensures.told) (omega arith))

pub returns-in-Err-reserve_exact-clause-told : goal.returns-in-Err-reserve_exact-clause-told
returns-in-Err-reserve_exact-clause-told g c = fault_under (g.H.Host.files c.args.host.now) c.args.name.now NoMemory (λ absent. cc)

pub returns-in-Err-read_to-clause-told : goal.returns-in-Err-read_to-clause-told
returns-in-Err-read_to-clause-told g c = fault_under (g.H.Host.files c.args.host.now) c.args.name.now c.in-Err-read_to.fault c.in-Err-read_to.ensures.there

pub returns-in-Err-read_to-clause-asked : goal.returns-in-Err-read_to-clause-asked
returns-in-Err-read_to-clause-asked g c =
    reading_more c.args.name.now (g.H.Host.asked c.args.host.now) (g.H.Host.asked c.read_to.new.host) (g.H.Host.asked c.read_to-2.new.host) c.in_default.ensures.asked c.in-Err-read_to.ensures.asked

pub whole_file-requires-then-len-end : goal.whole_file-requires-then-len-end
whole_file-requires-then-len-end g c =
    let counted : c.blocks_held.result ≡ blocks_held c.read_to.new.bytes.items = cc in
    ended_later c.read_to.new.bytes.items c.read_to-2.new.bytes.items c.args.size c.min-first.result c.min-end.result (omega arith) (omega arith) (omega (arith, counted)) (rw c.reserve_exact.ensures.items at c.in_default-read_to.ensures.grows)

pub returns-then-len-end-clause-told : goal.returns-then-len-end-clause-told
returns-then-len-end-clause-told g c =
    let later = rw c.reserve_exact.ensures.items at (rw c.in_default.ensures.rest.first at c.in_default-read_to.ensures.told) in
    subst (IsTold (g.H.Host.files c.args.host.now) c.args.name.now) (sym c.whole_file-then-len-end.ensures)
    (told_ended_later (g.H.Host.files c.args.host.now) c.args.name.now c.read_to.new.bytes.items c.read_to-2.new.bytes.items c.args.size c.min-first.result c.min-end.result c.requires (omega arith) (rw c.new-bytes.ensures.items at c.in_default.ensures.told) later (omega arith))

pub returns-then-len-end-clause-asked : goal.returns-then-len-end-clause-asked
returns-then-len-end-clause-asked g c =
    reading_more c.args.name.now (g.H.Host.asked c.args.host.now) (g.H.Host.asked c.read_to.new.host) (g.H.Host.asked c.read_to-2.new.host) c.in_default.ensures.asked c.in_default-read_to.ensures.asked

pub invariant_of-result : goal.invariant_of-result
invariant_of-result g c =
    let counted : c.blocks_held.result ≡ blocks_held c.read_to.new.bytes.items = cc in
    long_enough c.read_to.new.bytes.items c.read_to-2.new.bytes.items c.args.size c.min-first.result c.min-end.result (omega arith) (omega arith) (omega (arith, counted)) (rw c.reserve_exact.ensures.items at c.in_default-read_to.ensures.grows) (omega arith)

pub returns-clause-told : goal.returns-clause-told
returns-clause-told g c =
    let counted : c.blocks_held.result ≡ blocks_held c.read_to.new.bytes.items = cc in
    let later = rw c.reserve_exact.ensures.items at (rw c.in_default.ensures.rest.first at c.in_default-read_to.ensures.told) in
    told_all (g.H.Host.files c.args.host.now) c.args.name.now c.read_to.new.bytes.items c.read_to-2.new.bytes.items c.args.size c.min-first.result c.min-end.result c.requires (omega arith) (omega arith) (omega (arith, counted)) (rw c.reserve_exact.ensures.items at c.in_default-read_to.ensures.grows) (omega arith) (rw c.new-bytes.ensures.items at c.in_default.ensures.told) later

pub returns-clause-asked : goal.returns-clause-asked
returns-clause-asked g c =
    reading_more c.args.name.now (g.H.Host.asked c.args.host.now) (g.H.Host.asked c.read_to.new.host) (g.H.Host.asked c.read_to-2.new.host) c.in_default.ensures.asked c.in_default-read_to.ensures.asked
