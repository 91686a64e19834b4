use Rattle.std.proofs.Common.{◌≡◌, ◌+◌, ◌*◌, ◌≤◌, Bool, true, false, length, refl, subst, arith, vec_capacity}
use Rattle.std.specs.Prelude.{IsTrue, nat_lt, not}
use Rattle.jos_asm.specs.declared.limits.TheConstants.{CODE_MAX}
use Rattle.jos_asm.specs.declared.item.Item.{Item}
use Rattle.jos_asm.specs.Items.{is_item, is_relative, length_of, relative_length}
use Rattle.jos_asm.specs.Program.{reaches, is_far, known_place}
use Rattle.jos_asm.proofs.Lawful.{lawful_jump, length-relative, length-mov}
use Rattle.jos_asm.proofs.finishing.write_item.Goals as goal

reached : (b : Bool) → not b ≡ false → b ≡ true
reached true h = refl
reached false h = absurd cc

pub write_insn-requires-in-Jump-clause-lawful : goal.write_insn-requires-in-Jump-clause-lawful
write_insn-requires-in-Jump-clause-lawful c =
    let place = known_place c.args.labels.now c.in-Jump.name in
    let behind = length c.args.code.now.items + relative_length c.in-Jump.row in
    let is : IsTrue (is_relative c.in-Jump.row) = subst (λ (i : Item). IsTrue (is_item i)) c.in-Jump.is c.requires.lawful in
    let near : reaches c.in-Jump.row behind place ≡ true = reached (reaches c.in-Jump.row behind place)
    (subst (λ (i : Item). is_far (known_place c.args.labels.now) (length c.args.code.now.items) i ≡ false) c.in-Jump.is c.requires.near) in
    let low : behind ≤ 2 * CODE_MAX = let small = subst (λ (i : Item). length c.args.code.now.items + length_of i ≤ CODE_MAX) c.in-Jump.is c.requires.small in omega (arith, small) in
    let long : c.len.result ≡ length c.args.code.now.items = omega arith in
    rw (c.relative.ensures, c.distance-distance.ensures, c.known_place.ensures, c.relative_length.ensures, long) (lawful_jump c.in-Jump.row behind place is near low)

pub write_insn-requires-in-Jump-clause-room : goal.write_insn-requires-in-Jump-clause-room
write_insn-requires-in-Jump-clause-room c =
    let is : IsTrue (is_relative c.in-Jump.row) = subst (λ (i : Item). IsTrue (is_item i)) c.in-Jump.is c.requires.lawful in
    rw (c.relative.ensures, length-relative c.in-Jump.row c.distance-distance.result is)
    (subst (λ (i : Item). length c.args.code.now.items + length_of i ≤ vec_capacity c.args.code.now) c.in-Jump.is c.requires.room)

pub write_insn-requires-in-Address-clause-room : goal.write_insn-requires-in-Address-clause-room
write_insn-requires-in-Address-clause-room c =
    let small : IsTrue (nat_lt c.in-Address.reg 8) = subst (λ (i : Item). IsTrue (is_item i)) c.in-Address.is c.requires.lawful in
    rw (c.mov.ensures.value, length-mov c.in-Address.reg _ small)
    (subst (λ (i : Item). length c.args.code.now.items + length_of i ≤ vec_capacity c.args.code.now) c.in-Address.is c.requires.room)
