use Rattle.std.specs.Prelude.{slice_index}
use Rattle.std.proofs.Common.{◌≡◌, ◌∙◌, ◌<◌, List, [], ◌∷◌, ◌++◌, length, sym, subst, ap, arith, length-append}
use Rattle.std.proofs.lemmas.List.{nil_from_length}
use Rattle.fs_layout.specs.DiskImage.{contents_test, slot_count}
use Rattle.fs_image.specs.declared.walk.WalkFrame.{WalkFrame}
use Rattle.fs_image.specs.Answers.{blocks_in}
use Rattle.fs_image.specs.Walk.{rest_of_way, AreFrames, steps_left}
use Rattle.fs_image.proofs.Walking.{no_deeper, way_first, way_none, frames_front, frames_last, tells_fault}
use Rattle.fs_image.proofs.walk.contents_test.Goals as goal

pub returns-then-depth-eq0 : goal.returns-then-depth-eq0
returns-then-depth-eq0 c = no_deeper (slice_index c.args.disk.now.bytes.now) c.args.depth c.args.directory (blocks_in c.args.named.now) c.if-depth-eq0.true

pub loop-frame-init : goal.loop-frame-init
loop-frame-init c =
    let pushed : c.push.new.self.items ≡ [] ++ c.in-Ok.first ∷ [] = c.in_default.ensures.items ∙ ap (λ way. way ++ c.in-Ok.first ∷ []) c.new-way.ensures.items in
    let deep : 0 < c.args.depth = omega arith in
    record {
      exact =
          ap (λ p. contents_test c.args.depth (slice_index c.args.disk.now.bytes.now) p (blocks_in c.args.named.now)) (sym c.in-Ok.ensures.directory)
          ∙ way_first (slice_index c.args.disk.now.bytes.now) c.args.depth c.in-Ok.first (blocks_in c.args.named.now) deep c.in-Ok.ensures.next (c.in-Ok.ensures.count ∙ ap (slot_count (slice_index c.args.disk.now.bytes.now)) (sym c.in-Ok.ensures.directory))
          ∙ ap (λ way. rest_of_way (slice_index c.args.disk.now.bytes.now) c.args.depth way (blocks_in c.args.named.now)) (sym pushed);
      deep = omega (arith, ap length pushed);
      frames = subst (AreFrames (slice_index c.args.disk.now.bytes.now)) (sym pushed) (c.in-Ok.ensures.frame, tt);
    }

pub step-requires-clause-deep : goal.step-requires-clause-deep
step-requires-clause-deep c = omega (arith, ap length c.in-Some.ensures.items, length-append c.pop.new.self.items (c.in-Some.frame ∷ []))

pub step-requires-clause-frame : goal.step-requires-clause-frame
step-requires-clause-frame c =
    frames_last (slice_index c.args.disk.now.bytes.now) c.pop.new.self.items c.in-Some.frame (subst (AreFrames (slice_index c.args.disk.now.bytes.now)) c.in-Some.ensures.items c.loop-frame.invariant.frames)

pub step-requires-clause-frames : goal.step-requires-clause-frames
step-requires-clause-frames c =
    frames_front (slice_index c.args.disk.now.bytes.now) c.pop.new.self.items c.in-Some.frame (subst (AreFrames (slice_index c.args.disk.now.bytes.now)) c.in-Some.ensures.items c.loop-frame.invariant.frames)

pub returns-in-Err-step : goal.returns-in-Err-step
returns-in-Err-step c =
    tells_fault c.in-Err-step.fault _ _ _ _
    (c.loop-frame.invariant.exact ∙ ap (λ way. rest_of_way (slice_index c.args.disk.now.bytes.now) c.args.depth way (blocks_in c.loop-frame.named)) c.in-Some.ensures.items)
    c.in-Err-step.ensures.exact

pub loop-frame-smaller : goal.loop-frame-smaller
loop-frame-smaller c =
    subst (λ (way : List WalkFrame). steps_left c.args.depth c.step.new.way.items < steps_left c.args.depth way) (sym c.in-Some.ensures.items) c.in_default-step.ensures.fewer

pub loop-frame-preserved : goal.loop-frame-preserved
loop-frame-preserved c = record {
  exact =
      c.loop-frame.invariant.exact
      ∙ ap (λ way. rest_of_way (slice_index c.args.disk.now.bytes.now) c.args.depth way (blocks_in c.loop-frame.named)) c.in-Some.ensures.items
      ∙ c.in_default-step.ensures.exact;
  deep = c.in_default-step.ensures.deep;
  frames = c.in_default-step.ensures.frames;
}

pub returns : goal.returns
returns c =
    let none : c.loop-frame.way.items ≡ [] = nil_from_length c.loop-frame.way.items (omega (arith, c.in_default-pop.ensures.cases.0, c.loop-frame.way.ok.0)) in
    c.loop-frame.invariant.exact
    ∙ ap (λ way. rest_of_way (slice_index c.args.disk.now.bytes.now) c.args.depth way (blocks_in c.loop-frame.named)) none
    ∙ way_none (slice_index c.args.disk.now.bytes.now) c.args.depth (blocks_in c.loop-frame.named)
