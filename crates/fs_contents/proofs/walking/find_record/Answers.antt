use Rattle.std.proofs.Common.{◌<◌, ◌≤◌, ◌/◌, ◌==◌, ℕ, sym, subst, ap, arith, ◌∙◌}
use Rattle.std.specs.Prelude.{slice_index}
use Rattle.fs_contents.proofs.Ways.{none-before, none-more}
use Rattle.fs_contents.proofs.walking.find_record.Goals as goal

pub loop-i-init : goal.loop-i-init
loop-i-init c = none-before (slice_index c.args.disk.now.bytes.now) c.args.directory c.args.name.now

pub loop-i-preserved : goal.loop-i-preserved
loop-i-preserved c =
    none-more (slice_index c.args.disk.now.bytes.now) c.args.directory c.args.name.now c.loop-i.i c.slot_place-place.result c.has_name.result
    c.loop-i.invariant c.slot_place-place.ensures.place c.has_name.ensures c.if-has_name.false

pub returns-then-has_name-clause-found : goal.returns-then-has_name-clause-found
returns-then-has_name-clause-found c = record {
  in_directory = ap (λ kind. kind == 1) (sym c.kind_at.ensures ∙ c.if-kind_at-ne-FTYPE_DIR.false);
  slot = c.loop-i.i;
  within = subst (λ size. c.loop-i.i < size / 256) c.size_of-i-end.ensures c.loop-i-test.true;
  stands = c.slot_place-place.ensures.place;
  named = sym c.has_name.ensures ∙ c.if-has_name.true;
  first = c.loop-i.invariant;
}

pub returns-clause-none : goal.returns-clause-none
returns-clause-none c = λ is j below.
    c.loop-i.invariant j
    (all-passed j (c.size_of-i-end.result / 256) c.loop-i.i c.loop-i-test.false
    (subst (λ size. j < size / 256) (sym c.size_of-i-end.ensures) below))
  where
    all-passed : (j n i : ℕ) → n ≤ i → j < n → j < i
    all-passed j n i le lt = omega arith
