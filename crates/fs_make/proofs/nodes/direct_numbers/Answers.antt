use Rattle.std.proofs.Common.{◌+◌, arith, ◌∙◌, length-set}
use Rattle.std.specs.Prelude.{nat_lt, if◌then◌else◌}
use Rattle.std.proofs.lemmas.List.FromFn.{fill_by_all}
use Rattle.fs_layout.specs.declared.numbers.TheConstants.{NDIRECT}
use Rattle.fs_layout.specs.FileTree.{blocks_of}
use Rattle.fs_make.proofs.nodes.direct_numbers.Goals as goal
use Rattle.jos_base.proofs.Lists.{one_more}

pub loop-i-preserved : goal.loop-i-preserved
loop-i-preserved c = record {
  read = one_more c.loop-i.numbers (λ k. if nat_lt k (blocks_of c.args.size) then c.args.first + k else 0) c.loop-i.i c.number_within.result
      (omega (arith, c.loop-i.invariant.whole)) c.loop-i.invariant.read (rw (← c.blocks_of-blocks.ensures) c.number_within.ensures);
  whole = length-set c.loop-i.numbers c.loop-i.i c.number_within.result ∙ c.loop-i.invariant.whole;
}

pub returns : goal.returns
returns c =
    fill_by_all (λ k. if nat_lt k (blocks_of c.args.size) then c.args.first + k else 0) c.loop-i.numbers NDIRECT 0 c.loop-i.invariant.whole
    (λ k within. c.loop-i.invariant.read k (omega arith))
