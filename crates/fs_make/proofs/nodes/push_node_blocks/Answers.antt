use Rattle.std.proofs.Common.{◌-◌, ◌∙◌, length, take, drop, length-take, sym, arith}
use Rattle.std.proofs.lemmas.List.{take_rest}
use Rattle.fs_make.proofs.Appended.{indirect-long, node-long, node-short}
use Rattle.fs_make.proofs.nodes.push_node_blocks.Goals as goal

pub slice_bounds-extend_from_slice-end : goal.slice_bounds-extend_from_slice-end
slice_bounds-extend_from_slice-end c =
    let long = indirect-long (length c.args.bytes.now) (sym c.needs_indirect.ensures ∙ c.if-needs_indirect.true) in
    omega (arith, long, length-take 40960 c.args.bytes.now)

pub returns-in_ok-push_further_numbers : goal.returns-in_ok-push_further_numbers
returns-in_ok-push_further_numbers c =
    node-long c.push_padded.result c.args.first c.args.bytes.now (take (length c.args.bytes.now - 40960) (drop 40960 c.args.bytes.now)) c.args.image.now.items c.extend_from_slice.new.self.items c.push_further_numbers.new.image.items c.push_padded.new.image.items
    (sym c.needs_indirect.ensures ∙ c.if-needs_indirect.true) (take_rest c.args.bytes.now 40960) c.in_ok-extend_from_slice.ensures.items c.in_ok-push_further_numbers.ensures c.push_padded.ensures

pub returns-else-needs_indirect : goal.returns-else-needs_indirect
returns-else-needs_indirect c =
    node-short c.push_padded-else-needs_indirect.result c.args.first c.args.bytes.now c.args.image.now.items c.push_padded-else-needs_indirect.new.image.items
    (sym c.needs_indirect.ensures ∙ c.if-needs_indirect.false) c.push_padded-else-needs_indirect.ensures
