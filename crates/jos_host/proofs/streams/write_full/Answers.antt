use Rattle.std.proofs.Common.{ℕ, List, ◌++◌, take, arith, sym, ap, ◌∙◌, subst, length-drop}
use Rattle.std.proofs.Math.Seq.{take-add}
use Rattle.std.proofs.lemmas.List.{take_rest}
use Rattle.std.proofs.KnownBytes.{Appends-trans}
use Rattle.std.specs.Io.KnownBytes.{Appends}
use Rattle.jos_host.proofs.streams.write_full.Goals as goal

pub loop-written-preserved : goal.loop-written-preserved
loop-written-preserved g c =
    let bytes = c.args.bytes.now in
    let n = c.loop-written.written in
    let count = c.in_ok-count.count in
    let fits = rw (take_rest bytes n) at c.in_ok-count.ensures.within in
    record {
      within = omega (arith, length-drop n bytes);
      appended = subst (Appends _ _)
          (ap (λ (l : List ℕ). take n bytes ++ take count l) (take_rest bytes n) ∙ sym (take-add n count bytes))
          (Appends-trans _ _ _ _ _ c.loop-written.invariant.appended c.in_ok-count.ensures.written);
    }
