use Rattle.std.proofs.Common.{◌∙◌, true, false, sym}
use Rattle.fs_make.proofs.FirstFault.{bad-count, bad-name, name-taken, too-long, last-test, sizes-fit}
use Rattle.fs_make.proofs.make_faults.make_fault.Goals as goal

pub returns-then-not-is_good_count : goal.returns-then-not-is_good_count
returns-then-not-is_good_count c = bad-count c.args.blocks c.args.files.now (sym c.is_good_count.ensures ∙ c.if-not-is_good_count.true)

pub returns-in-Some : goal.returns-in-Some
returns-in-Some c = bad-name c.args.blocks c.args.files.now c.in-Some.place (sym c.is_good_count.ensures ∙ c.if-not-is_good_count.false) (sym c.first_bad_name.ensures.place ∙ c.in-Some.is)

pub returns-in-Some-2 : goal.returns-in-Some-2
returns-in-Some-2 c =
    name-taken c.args.blocks c.args.files.now c.in-Some-2.place (sym c.is_good_count.ensures ∙ c.if-not-is_good_count.false)
    (sym c.first_bad_name.ensures.place ∙ c.in_default.is) (sym c.in_ok-place.ensures ∙ c.in-Some-2.is)

pub returns-in-Some-first_too_long : goal.returns-in-Some-first_too_long
returns-in-Some-first_too_long c =
    too-long c.args.blocks c.args.files.now c.in-Some-first_too_long.place (sym c.is_good_count.ensures ∙ c.if-not-is_good_count.false)
    (sym c.first_bad_name.ensures.place ∙ c.in_default.is) (sym c.in_ok-place.ensures ∙ c.in_default-2.is)
    (sym c.first_too_long.ensures.place ∙ c.in-Some-first_too_long.is)

pub lacks_room-requires-clause-sizes : goal.lacks_room-requires-clause-sizes
lacks_room-requires-clause-sizes c = sizes-fit c.args.files.now (sym c.first_too_long.ensures.place ∙ c.in_default-first_too_long.is)

pub returns-then-lacks_room : goal.returns-then-lacks_room
returns-then-lacks_room c =
    last-test c.args.blocks c.args.files.now true (sym c.is_good_count.ensures ∙ c.if-not-is_good_count.false)
    (sym c.first_bad_name.ensures.place ∙ c.in_default.is) (sym c.in_ok-place.ensures ∙ c.in_default-2.is)
    (sym c.first_too_long.ensures.place ∙ c.in_default-first_too_long.is) (sym c.if-lacks_room.true ∙ c.lacks_room.ensures)

pub returns : goal.returns
returns c =
    last-test c.args.blocks c.args.files.now false (sym c.is_good_count.ensures ∙ c.if-not-is_good_count.false)
    (sym c.first_bad_name.ensures.place ∙ c.in_default.is) (sym c.in_ok-place.ensures ∙ c.in_default-2.is)
    (sym c.first_too_long.ensures.place ∙ c.in_default-first_too_long.is) (sym c.if-lacks_room.false ∙ c.lacks_room.ensures)
