use Rattle.std.proofs.Common.{◌+◌, ◌*◌, arith, ◌∙◌, length-set}
use Rattle.std.specs.Prelude.{slice_index}
use Rattle.std.proofs.lemmas.List.FromFn.{fill_by_all}
use Rattle.fs_layout.specs.Layout.{words_from}
use Rattle.fs_layout.specs.declared.numbers.TheConstants.{NDIRECT}
use Rattle.fs_layout.proofs.records.direct_at.Goals as goal
use Rattle.jos_base.proofs.Lists.{one_more}
use Rattle.jos_base.specs.Words.{word_at}

pub loop-place-preserved : goal.loop-place-preserved
loop-place-preserved c = record {
  read = one_more c.loop-place.direct (λ k. word_at (slice_index c.args.bytes.now) (c.args.at + 4 * k)) c.loop-place.place _ (omega arith) c.loop-place.invariant.read c.word_at.ensures;
  whole = length-set _ _ _ ∙ c.loop-place.invariant.whole;
}

pub returns : goal.returns
unfolding words_from
returns c =
    fill_by_all (λ k. word_at (slice_index c.args.bytes.now) (c.args.at + 4 * k)) c.loop-place.direct NDIRECT 0 c.loop-place.invariant.whole
    (λ k within. c.loop-place.invariant.read k (omega arith))
