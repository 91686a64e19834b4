use Rattle.std.specs.Prelude.{slice_index}
use Rattle.std.proofs.Common.{◌≡◌, ◌≢◌, ◌∙◌, ◌+◌, ◌-◌, ◌<◌, Ok, List, [], ◌∷◌, ◌++◌, length, sym, subst, ap, arith, eq-eqb, length-append}
use Rattle.fs_layout.specs.DiskImage.{contents_test, slot_count, slot_place}
use Rattle.fs_image.specs.declared.walk.WalkFrame.{WalkFrame}
use Rattle.fs_image.specs.Answers.{blocks_in, fault_of}
use Rattle.fs_image.specs.Walk.{rest_of_way, AreFrames, steps_left}
use Rattle.fs_image.proofs.OneSlot.{slot_empty, slot_fails, slot_file, slot_directory}
use Rattle.fs_image.proofs.Walking.{onward, step_done, step_passed, step_failed, step_deeper, no_deeper, frames_more, frame_onward, steps_done, steps_passed, steps_deeper}
use Rattle.fs_image.proofs.walk.step.Goals as goal

pub returns-then-frame-clause-exact : goal.returns-then-frame-clause-exact
returns-then-frame-clause-exact c = step_done (slice_index c.args.disk.now.bytes.now) c.args.depth c.args.way.now.items c.args.frame (blocks_in c.args.named.now) c.if-frame.true

pub returns-then-frame-clause-fewer : goal.returns-then-frame-clause-fewer
returns-then-frame-clause-fewer c = steps_done c.args.depth c.args.way.now.items c.args.frame

pub returns-then-byte-eq0-clause-exact : goal.returns-then-byte-eq0-clause-exact
returns-then-byte-eq0-clause-exact c =
    let pushed : c.push.new.self.items ≡ c.args.way.now.items ++ onward c.args.frame ∷ [] = c.in_default.ensures.items in
    let more : c.args.frame.next < c.args.frame.count = omega (arith, c.requires.frame.ahead, c.requires.frame.first.within) in
    let empty : slice_index c.args.disk.now.bytes.now c.slot_place-place.result ≡ 0 = omega arith in
    let slot = slot_empty (contents_test (c.args.depth - length c.args.way.now.items - 1) (slice_index c.args.disk.now.bytes.now)) (slice_index c.args.disk.now.bytes.now) c.args.frame.directory c.args.frame.next c.slot_place-place.result (blocks_in c.args.named.now) c.slot_place-place.ensures.place empty in
    step_passed (slice_index c.args.disk.now.bytes.now) c.args.depth c.args.way.now.items c.args.frame (blocks_in c.args.named.now) (blocks_in c.args.named.now) more slot ∙ ap (λ way. rest_of_way (slice_index c.args.disk.now.bytes.now) c.args.depth way (blocks_in c.args.named.now)) (sym pushed)

pub returns-then-byte-eq0-clause-frames : goal.returns-then-byte-eq0-clause-frames
returns-then-byte-eq0-clause-frames c =
    let pushed : c.push.new.self.items ≡ c.args.way.now.items ++ onward c.args.frame ∷ [] = c.in_default.ensures.items in
    let more : c.args.frame.next < c.args.frame.count = omega (arith, c.requires.frame.ahead, c.requires.frame.first.within) in
    subst (AreFrames (slice_index c.args.disk.now.bytes.now)) (sym pushed)
    (frames_more (slice_index c.args.disk.now.bytes.now) c.args.way.now.items (onward c.args.frame) c.requires.frames (frame_onward (slice_index c.args.disk.now.bytes.now) c.args.frame c.requires.frame more (λ e. c.requires.frame.first.full (let h : c.args.frame.taken < c.args.frame.count = omega (arith, e) in h) (ap (λ i. slice_index c.args.disk.now.bytes.now (slot_place (slice_index c.args.disk.now.bytes.now) c.args.frame.directory i)) (sym e) ∙ ap (slice_index c.args.disk.now.bytes.now) (sym c.slot_place-place.ensures.place) ∙ (let empty : slice_index c.args.disk.now.bytes.now c.slot_place-place.result ≡ 0 = omega arith in empty)))))

pub returns-then-byte-eq0-clause-fewer : goal.returns-then-byte-eq0-clause-fewer
returns-then-byte-eq0-clause-fewer c =
    let pushed : c.push.new.self.items ≡ c.args.way.now.items ++ onward c.args.frame ∷ [] = c.in_default.ensures.items in
    let more : c.args.frame.next < c.args.frame.count = omega (arith, c.requires.frame.ahead, c.requires.frame.first.within) in
    subst (λ (way : List WalkFrame). steps_left c.args.depth way < steps_left c.args.depth (c.args.way.now.items ++ c.args.frame ∷ [])) (sym pushed) (steps_passed c.args.depth c.args.way.now.items c.args.frame more)

pub returns-in-Some-clause-exact : goal.returns-in-Some-clause-exact
returns-in-Some-clause-exact c =
    let more : c.args.frame.next < c.args.frame.count = omega (arith, c.requires.frame.ahead, c.requires.frame.first.within) in
    let full : slice_index c.args.disk.now.bytes.now c.slot_place-place.result ≢ 0 = omega arith in
    step_failed (slice_index c.args.disk.now.bytes.now) c.args.depth c.args.way.now.items c.args.frame (blocks_in c.args.named.now) (fault_of c.in-Some.fault) more
    (slot_fails (contents_test (c.args.depth - length c.args.way.now.items - 1) (slice_index c.args.disk.now.bytes.now)) (slice_index c.args.disk.now.bytes.now) c.args.frame.directory c.args.frame.next c.slot_place-place.result (blocks_in c.args.named.now) (fault_of c.in-Some.fault) c.slot_place-place.ensures.place full (sym c.in-Some.ensures.exact))

pub returns-then-kind_at-ne-FTYPE_DIR-clause-exact : goal.returns-then-kind_at-ne-FTYPE_DIR-clause-exact
returns-then-kind_at-ne-FTYPE_DIR-clause-exact c =
    let pushed : c.push.new.self.items ≡ c.args.way.now.items ++ onward c.args.frame ∷ [] = c.in_default.ensures.items in
    let more : c.args.frame.next < c.args.frame.count = omega (arith, c.requires.frame.ahead, c.requires.frame.first.within) in
    let full : slice_index c.args.disk.now.bytes.now c.slot_place-place.result ≢ 0 = omega arith in
    let slot = slot_file (contents_test (c.args.depth - length c.args.way.now.items - 1) (slice_index c.args.disk.now.bytes.now)) (slice_index c.args.disk.now.bytes.now) c.args.frame.directory c.args.frame.next c.slot_place-place.result (blocks_in c.args.named.now) (blocks_in c.own_test.new.named) c.slot_place-place.ensures.place full (sym c.in_default-own_test.ensures.exact) (λ e. c.if-kind_at-ne-FTYPE_DIR.true (c.kind_at.ensures ∙ e)) in
    step_passed (slice_index c.args.disk.now.bytes.now) c.args.depth c.args.way.now.items c.args.frame (blocks_in c.args.named.now) (blocks_in c.own_test.new.named) more slot ∙ ap (λ way. rest_of_way (slice_index c.args.disk.now.bytes.now) c.args.depth way (blocks_in c.own_test.new.named)) (sym pushed)

pub returns-then-kind_at-ne-FTYPE_DIR-clause-frames : goal.returns-then-kind_at-ne-FTYPE_DIR-clause-frames
returns-then-kind_at-ne-FTYPE_DIR-clause-frames c =
    let pushed : c.push.new.self.items ≡ c.args.way.now.items ++ onward c.args.frame ∷ [] = c.in_default.ensures.items in
    let more : c.args.frame.next < c.args.frame.count = omega (arith, c.requires.frame.ahead, c.requires.frame.first.within) in
    subst (AreFrames (slice_index c.args.disk.now.bytes.now)) (sym pushed)
    (frames_more (slice_index c.args.disk.now.bytes.now) c.args.way.now.items (onward c.args.frame) c.requires.frames (frame_onward (slice_index c.args.disk.now.bytes.now) c.args.frame c.requires.frame more (λ e. let same = eq-eqb c.args.frame.next c.args.frame.taken e in absurd (cc (c.in_default-own_test.ensures.free)))))

pub returns-then-kind_at-ne-FTYPE_DIR-clause-fewer : goal.returns-then-kind_at-ne-FTYPE_DIR-clause-fewer
returns-then-kind_at-ne-FTYPE_DIR-clause-fewer c =
    let pushed : c.push.new.self.items ≡ c.args.way.now.items ++ onward c.args.frame ∷ [] = c.in_default.ensures.items in
    let more : c.args.frame.next < c.args.frame.count = omega (arith, c.requires.frame.ahead, c.requires.frame.first.within) in
    subst (λ (way : List WalkFrame). steps_left c.args.depth way < steps_left c.args.depth (c.args.way.now.items ++ c.args.frame ∷ [])) (sym pushed) (steps_passed c.args.depth c.args.way.now.items c.args.frame more)

pub returns-then-len-depth-clause-exact : goal.returns-then-len-depth-clause-exact
returns-then-len-depth-clause-exact c =
    let pushed : c.push.new.self.items ≡ c.args.way.now.items ++ onward c.args.frame ∷ [] = c.in_default.ensures.items in
    let more : c.args.frame.next < c.args.frame.count = omega (arith, c.requires.frame.ahead, c.requires.frame.first.within) in
    let full : slice_index c.args.disk.now.bytes.now c.slot_place-place.result ≢ 0 = omega arith in
    let last : c.args.depth - length c.args.way.now.items - 1 ≡ 0 = omega (arith, ap length pushed, length-append c.args.way.now.items (onward c.args.frame ∷ [])) in
    let slot = slot_directory (contents_test (c.args.depth - length c.args.way.now.items - 1) (slice_index c.args.disk.now.bytes.now)) (slice_index c.args.disk.now.bytes.now) c.args.frame.directory c.args.frame.next c.slot_place-place.result (blocks_in c.args.named.now) (blocks_in c.own_test.new.named) (Ok (blocks_in c.own_test.new.named)) c.slot_place-place.ensures.place full (sym c.in_default-own_test.ensures.exact) (sym c.kind_at.ensures ∙ c.if-kind_at-ne-FTYPE_DIR.false) (no_deeper (slice_index c.args.disk.now.bytes.now) _ c.slot_place-place.result (blocks_in c.own_test.new.named) last) in
    step_passed (slice_index c.args.disk.now.bytes.now) c.args.depth c.args.way.now.items c.args.frame (blocks_in c.args.named.now) (blocks_in c.own_test.new.named) more slot ∙ ap (λ way. rest_of_way (slice_index c.args.disk.now.bytes.now) c.args.depth way (blocks_in c.own_test.new.named)) (sym pushed)

pub returns-then-len-depth-clause-frames : goal.returns-then-len-depth-clause-frames
returns-then-len-depth-clause-frames c =
    let pushed : c.push.new.self.items ≡ c.args.way.now.items ++ onward c.args.frame ∷ [] = c.in_default.ensures.items in
    let more : c.args.frame.next < c.args.frame.count = omega (arith, c.requires.frame.ahead, c.requires.frame.first.within) in
    subst (AreFrames (slice_index c.args.disk.now.bytes.now)) (sym pushed)
    (frames_more (slice_index c.args.disk.now.bytes.now) c.args.way.now.items (onward c.args.frame) c.requires.frames (frame_onward (slice_index c.args.disk.now.bytes.now) c.args.frame c.requires.frame more (λ e. let same = eq-eqb c.args.frame.next c.args.frame.taken e in absurd (cc (c.in_default-own_test.ensures.free)))))

pub returns-then-len-depth-clause-fewer : goal.returns-then-len-depth-clause-fewer
returns-then-len-depth-clause-fewer c =
    let pushed : c.push.new.self.items ≡ c.args.way.now.items ++ onward c.args.frame ∷ [] = c.in_default.ensures.items in
    let more : c.args.frame.next < c.args.frame.count = omega (arith, c.requires.frame.ahead, c.requires.frame.first.within) in
    subst (λ (way : List WalkFrame). steps_left c.args.depth way < steps_left c.args.depth (c.args.way.now.items ++ c.args.frame ∷ [])) (sym pushed) (steps_passed c.args.depth c.args.way.now.items c.args.frame more)

pub returns-in-Ok-push-clause-exact : goal.returns-in-Ok-push-clause-exact
returns-in-Ok-push-clause-exact c =
    let pushed : c.push.new.self.items ≡ c.args.way.now.items ++ onward c.args.frame ∷ [] = c.in_default.ensures.items in
    let pushed_2 : c.push-2.new.self.items ≡ (c.args.way.now.items ++ onward c.args.frame ∷ []) ++ c.in-Ok.below ∷ [] = c.in-Ok-push.ensures.items ∙ ap (λ way. way ++ c.in-Ok.below ∷ []) pushed in
    let more : c.args.frame.next < c.args.frame.count = omega (arith, c.requires.frame.ahead, c.requires.frame.first.within) in
    let full : slice_index c.args.disk.now.bytes.now c.slot_place-place.result ≢ 0 = omega arith in
    let deep : length c.args.way.now.items + 1 < c.args.depth = omega (arith, ap length pushed, length-append c.args.way.now.items (onward c.args.frame ∷ []), c.requires.deep) in
    let slot = slot_directory (contents_test (c.args.depth - length c.args.way.now.items - 1) (slice_index c.args.disk.now.bytes.now)) (slice_index c.args.disk.now.bytes.now) c.args.frame.directory c.args.frame.next c.slot_place-place.result (blocks_in c.args.named.now) (blocks_in c.own_test.new.named) _ c.slot_place-place.ensures.place full (sym c.in_default-own_test.ensures.exact) (sym c.kind_at.ensures ∙ c.if-kind_at-ne-FTYPE_DIR.false) (ap (λ p. contents_test (c.args.depth - length c.args.way.now.items - 1) (slice_index c.args.disk.now.bytes.now) p (blocks_in c.own_test.new.named)) (sym c.in-Ok.ensures.directory)) in
    step_deeper (slice_index c.args.disk.now.bytes.now) c.args.depth c.args.way.now.items c.args.frame c.in-Ok.below (blocks_in c.args.named.now) (blocks_in c.own_test.new.named) more deep c.in-Ok.ensures.next (c.in-Ok.ensures.count ∙ ap (slot_count (slice_index c.args.disk.now.bytes.now)) (sym c.in-Ok.ensures.directory)) slot
    ∙ ap (λ way. rest_of_way (slice_index c.args.disk.now.bytes.now) c.args.depth way (blocks_in c.own_test.new.named)) (sym pushed_2)

pub returns-in-Ok-push-clause-frames : goal.returns-in-Ok-push-clause-frames
returns-in-Ok-push-clause-frames c =
    let pushed : c.push.new.self.items ≡ c.args.way.now.items ++ onward c.args.frame ∷ [] = c.in_default.ensures.items in
    let pushed_2 : c.push-2.new.self.items ≡ (c.args.way.now.items ++ onward c.args.frame ∷ []) ++ c.in-Ok.below ∷ [] = c.in-Ok-push.ensures.items ∙ ap (λ way. way ++ c.in-Ok.below ∷ []) pushed in
    let more : c.args.frame.next < c.args.frame.count = omega (arith, c.requires.frame.ahead, c.requires.frame.first.within) in
    subst (AreFrames (slice_index c.args.disk.now.bytes.now)) (sym pushed_2)
    (frames_more (slice_index c.args.disk.now.bytes.now) (c.args.way.now.items ++ onward c.args.frame ∷ []) c.in-Ok.below
    (frames_more (slice_index c.args.disk.now.bytes.now) c.args.way.now.items (onward c.args.frame) c.requires.frames (frame_onward (slice_index c.args.disk.now.bytes.now) c.args.frame c.requires.frame more (λ e. let same = eq-eqb c.args.frame.next c.args.frame.taken e in absurd (cc (c.in_default-own_test.ensures.free)))))
    c.in-Ok.ensures.frame)

pub returns-in-Ok-push-clause-fewer : goal.returns-in-Ok-push-clause-fewer
returns-in-Ok-push-clause-fewer c =
    let pushed : c.push.new.self.items ≡ c.args.way.now.items ++ onward c.args.frame ∷ [] = c.in_default.ensures.items in
    let pushed_2 : c.push-2.new.self.items ≡ (c.args.way.now.items ++ onward c.args.frame ∷ []) ++ c.in-Ok.below ∷ [] = c.in-Ok-push.ensures.items ∙ ap (λ way. way ++ c.in-Ok.below ∷ []) pushed in
    let more : c.args.frame.next < c.args.frame.count = omega (arith, c.requires.frame.ahead, c.requires.frame.first.within) in
    let deep : length c.args.way.now.items + 1 < c.args.depth = omega (arith, ap length pushed, length-append c.args.way.now.items (onward c.args.frame ∷ []), c.requires.deep) in
    subst (λ (way : List WalkFrame). steps_left c.args.depth way < steps_left c.args.depth (c.args.way.now.items ++ c.args.frame ∷ [])) (sym pushed_2) (steps_deeper c.args.depth c.args.way.now.items c.args.frame c.in-Ok.below more deep c.in-Ok.ensures.few)
