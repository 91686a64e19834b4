use Rattle.std.proofs.Common.{length, subst, sym, arith, vec_capacity}
use Rattle.std.specs.Prelude.{IsTrue}
use Rattle.jos_asm.specs.declared.limits.TheConstants.{CODE_MAX}
use Rattle.jos_asm.specs.declared.item.Item.{Item}
use Rattle.jos_asm.specs.Items.{is_item}
use Rattle.jos_asm.specs.Program.{known_place}
use Rattle.jos_asm.proofs.Passes.{all_near, written_within, written_more, written_end}
use Rattle.jos_asm.proofs.finishing.spell.Goals as goal

pub write_item-requires-clause-near : goal.write_item-requires-clause-near
write_item-requires-clause-near c =
    let same = c.items-item-items.ensures.items in
    all_near c.args.labels.now c.loop-item.item-index c.item-item.result (rw (← same) c.item-item.is) (rw (← same) c.loop-item-test.true)
    (known_place c.args.labels.now) (length c.loop-item.code.items) c.loop-item.invariant.encoded.reached c.requires.near

pub write_item-requires-clause-small : goal.write_item-requires-clause-small
write_item-requires-clause-small c =
    let same = c.items-item-items.ensures.items in
    written_within c.args.labels.now c.loop-item.item-index c.item-item.result (rw (← same) c.item-item.is) (rw (← same) c.loop-item-test.true)
    c.args.base (known_place c.args.labels.now) c.loop-item.code.items c.loop-item.invariant.encoded CODE_MAX c.items-item-items.ensures.small

pub write_item-requires-clause-room : goal.write_item-requires-clause-room
write_item-requires-clause-room c =
    let same = c.items-item-items.ensures.items in
    written_within c.args.labels.now c.loop-item.item-index c.item-item.result (rw (← same) c.item-item.is) (rw (← same) c.loop-item-test.true)
    c.args.base (known_place c.args.labels.now) c.loop-item.code.items c.loop-item.invariant.encoded (vec_capacity c.loop-item.code) c.loop-item.invariant.room

pub loop-item-preserved : goal.loop-item-preserved
loop-item-preserved c =
    let same = c.items-item-items.ensures.items in
    let lawful : IsTrue (is_item c.item-item.result) = subst (λ (i : Item). IsTrue (is_item i)) (sym (rw same at c.item-item.is)) (c.items-item-items.ensures.lawful c.loop-item.item-index c.item-item.result (rw (← same) c.loop-item-test.true)) in
    let held = c.loop-item.invariant.room in
    let kept = c.write_item.ensures.room in
    record {
      encoded = written_more c.args.labels.now c.loop-item.item-index c.item-item.result (rw (← same) c.item-item.is) (rw (← same) c.loop-item-test.true)
          c.args.base (known_place c.args.labels.now) c.loop-item.code.items c.loop-item.invariant.encoded c.write_item.new.code.items lawful
          (all_near c.args.labels.now c.loop-item.item-index c.item-item.result (rw (← same) c.item-item.is) (rw (← same) c.loop-item-test.true)
          (known_place c.args.labels.now) (length c.loop-item.code.items) c.loop-item.invariant.encoded.reached c.requires.near)
          c.write_item.ensures.bytes;
      room = omega (arith, held, kept);
    }

pub returns-clause-bytes : goal.returns-clause-bytes
returns-clause-bytes c =
    written_end c.args.labels.now c.loop-item.item-index c.args.base (known_place c.args.labels.now) c.loop-item.code.items (rw (← c.items-item-items.ensures.items) c.loop-item-test.false) c.loop-item.invariant.encoded
