use Rattle.std.proofs.Common.{◌+◌, refl, arith, ◌∙◌, length-set}
use Rattle.std.specs.Prelude.{slice_index}
use Rattle.std.proofs.lemmas.List.FromFn.{fill_by_all}
use Rattle.fs_layout.specs.Layout.{bytes_from}
use Rattle.fs_layout.specs.declared.numbers.TheConstants.{MAXNAMELEN}
use Rattle.fs_layout.proofs.records.name_at.Goals as goal
use Rattle.jos_base.proofs.Lists.{one_more}

pub loop-place-preserved : goal.loop-place-preserved
loop-place-preserved c = record {
  read = one_more c.loop-place.name (λ k. slice_index c.args.bytes.now (c.args.at + k)) c.loop-place.place _ (omega arith) c.loop-place.invariant.read refl;
  whole = length-set _ _ _ ∙ c.loop-place.invariant.whole;
}

pub returns : goal.returns
unfolding bytes_from
returns c =
    fill_by_all (λ k. slice_index c.args.bytes.now (c.args.at + k)) c.loop-place.name MAXNAMELEN 0 c.loop-place.invariant.whole
    (λ k within. c.loop-place.invariant.read k (omega arith))
