use Rattle.std.proofs.Common.{◌≡◌, ℕ, Bool, sym, arith, ◌∙◌, ap}
use Rattle.std.specs.Prelude.{◌&&◌, ◌==◌, not, nat_le, slice_index}
use Rattle.jos_base.specs.Below.{some_below}
use Rattle.fs_layout.specs.DiskImage.{blocks_needed, direct_of, has_stray}
use Rattle.fs_image.proofs.Each.{some_none, some_passed}
use Rattle.fs_image.proofs.records.has_stray.Goals as goal
use Rattle.jos_base.proofs.Below.{some_below-at}

abbrev stray_at : (ℕ → ℕ) → ℕ → ℕ → Bool
stray_at byte place i = nat_le (blocks_needed byte place) (i) && not (direct_of byte place i == 0)

pub loop-i-init : goal.loop-i-init
loop-i-init c = some_none (stray_at (slice_index c.args.disk.now.bytes.now) c.args.place)

pub returns-then-is_stray : goal.returns-then-is_stray
unfolding has_stray
returns-then-is_stray c = sym (some_below-at (stray_at (slice_index c.args.disk.now.bytes.now) c.args.place) 10 c.loop-i.i (omega arith) (cc))

pub loop-i-preserved : goal.loop-i-preserved
loop-i-preserved c = some_passed (stray_at (slice_index c.args.disk.now.bytes.now) c.args.place) c.loop-i.i c.loop-i.invariant (cc)

pub returns : goal.returns
unfolding has_stray
returns c = let e : c.loop-i.i ≡ 10 = omega arith in sym (ap (λ k. some_below k (stray_at (slice_index c.args.disk.now.bytes.now) c.args.place)) (sym e) ∙ c.loop-i.invariant)
