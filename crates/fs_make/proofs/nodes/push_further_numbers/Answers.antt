use Rattle.std.proofs.Common.{◌+◌, arith}
use Rattle.std.specs.Prelude.{nat_lt, if◌then◌else◌}
use Rattle.fs_layout.specs.declared.numbers.TheConstants.{NDIRECT}
use Rattle.fs_layout.specs.FileTree.{blocks_of}
use Rattle.fs_make.proofs.Appended.{words-none, words-more, words-all}
use Rattle.fs_make.proofs.nodes.push_further_numbers.Goals as goal

pub loop-i-init : goal.loop-i-init
loop-i-init c = words-none (λ i. if nat_lt (NDIRECT + i) (blocks_of c.args.size) then c.args.first + NDIRECT + 1 + i else 0) c.args.image.now.items

pub loop-i-preserved : goal.loop-i-preserved
loop-i-preserved c =
    words-more (λ i. if nat_lt (NDIRECT + i) (blocks_of c.args.size) then c.args.first + NDIRECT + 1 + i else 0) c.loop-i.i c.number_within-number.result
    c.args.image.now.items c.loop-i.image.items c.extend_from_slice.new.self.items
    (rw (← c.to_le_bytes.ensures) c.in_ok-extend_from_slice.ensures.items) (rw (← c.blocks_of-blocks.ensures) c.number_within-number.ensures) c.loop-i.invariant

pub returns : goal.returns
returns c =
    words-all (λ i. if nat_lt (NDIRECT + i) (blocks_of c.args.size) then c.args.first + NDIRECT + 1 + i else 0) c.loop-i.i c.args.image.now.items c.loop-i.image.items
    (omega arith) c.loop-i.invariant
