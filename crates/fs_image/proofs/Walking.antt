-- The walk down the directories, step by step.
use Rattle.std.proofs.Common.{◌≡◌, ◌≢◌, ◌∙◌, ℕ, zero, suc, ◌+◌, ◌-◌, ◌*◌, ◌^◌, ◌<◌, ◌≤◌, List, [], ◌∷◌, ◌++◌, length, Result, Ok, Err, refl, sym, ap, arith, add-one, add-zero, length-append}
use Rattle.std.proofs.Math.Nat.{mul-le-mul_right}
use Rattle.fs_layout.specs.DiskImage.{ImageFault, Blocks, Test, then_tested, for_each_below, slot_count, slot_test, contents_test}
use Rattle.fs_image.specs.declared.walk.WalkFrame.{WalkFrame}
use Rattle.fs_image.specs.declared.checking.CheckFault.{CheckFault}
use Rattle.fs_image.specs.declared.checking.CheckFault.TheVariants.{Bad, NoMemory}
use Rattle.fs_image.specs.Walk.{Tells, for_each_from, rest_of, rest_of_way, IsFrame, AreFrames, most_steps, frame_steps, steps_left}
use Rattle.fs_image.proofs.OneSlot.{contents_deep, contents_none}

after_after : (r : Result Blocks ImageFault) (first then : Test) → then_tested (then_tested r first) then ≡ then_tested r (λ named. then_tested (first named) then)
after_after (Ok named) first then = refl
after_after (Err fault) first then = refl

after_none : (r : Result Blocks ImageFault) → then_tested r (λ named. Ok named) ≡ r
after_none (Ok named) = refl
after_none (Err fault) = refl

-- ---- records

from_below : (test : ℕ → Test) (n i : ℕ) (named : Blocks) → then_tested (for_each_below i test named) (for_each_from n i test) ≡ for_each_below (i + n) test named
unfolding for_each_from for_each_below
from_below test zero i named =
    after_none (for_each_below i test named) ∙ ap (λ k. for_each_below k test named) (sym (add-zero i))
from_below test (suc n) i named =
    sym (after_after (for_each_below i test named) (test i) (for_each_from n (suc i) test))
    ∙ from_below test n (suc i) named
    ∙ ap (λ k. for_each_below k test named) (let e : suc i + n ≡ i + suc n = omega arith in e)

from_none : (test : ℕ → Test) (n : ℕ) (named : Blocks) → for_each_from n 0 test named ≡ for_each_below n test named
unfolding for_each_below
from_none test n named =
    from_below test n 0 named ∙ ap (λ k. for_each_below k test named) (let e : 0 + n ≡ n = omega arith in e)

-- the same directory, one record on
abbrev pub onward : WalkFrame → WalkFrame
onward frame = record frame { next = frame.next + 1 }

rest_done : (byte : ℕ → ℕ) (depth : ℕ) (frame : WalkFrame) (named : Blocks) → frame.next ≡ frame.count → rest_of byte depth frame named ≡ Ok named
unfolding rest_of for_each_from
rest_done byte depth frame named e =
    let none : frame.count - frame.next ≡ 0 = omega arith in
    ap (λ n. for_each_from n frame.next (slot_test (contents_test (depth - 1) byte) byte frame.directory) named) none

abbrev pub slot_of : (ℕ → ℕ) → ℕ → WalkFrame → Test
slot_of byte depth frame = slot_test (contents_test (depth - 1) byte) byte frame.directory frame.next

rest_next : (byte : ℕ → ℕ) (depth : ℕ) (frame : WalkFrame) (named : Blocks) → frame.next < frame.count → rest_of byte depth frame named ≡ then_tested (slot_of byte depth frame named) (rest_of byte depth (onward frame))
unfolding rest_of for_each_from
rest_next byte depth frame named more =
    let test = slot_test (contents_test (depth - 1) byte) byte frame.directory in
    let one : frame.count - frame.next ≡ suc (frame.count - (frame.next + 1)) = omega arith in
    ap (λ n. for_each_from n frame.next (slot_test (contents_test (depth - 1) byte) byte frame.directory) named) one
    ∙ ap (λ i. then_tested (slot_of byte depth frame named) (for_each_from (frame.count - (frame.next + 1)) i (slot_test (contents_test (depth - 1) byte) byte frame.directory))) (sym (add-one frame.next))

-- ---- the way

rest_push : (byte : ℕ → ℕ) (depth : ℕ) (way : List WalkFrame) (frame : WalkFrame) (named : Blocks) → rest_of_way byte depth (way ++ frame ∷ []) named ≡ then_tested (rest_of byte (depth - length way) frame named) (rest_of_way byte depth way)
unfolding rest_of_way
rest_push byte depth [] frame named =
    ap (λ d. rest_of byte d frame named) (let e : depth ≡ depth - 0 = omega arith in e)
    ∙ sym (after_none (rest_of byte (depth - 0) frame named))
rest_push byte depth (top ∷ way) frame named =
    ap (λ r. then_tested r (rest_of byte depth top)) (rest_push byte (depth - 1) way frame named)
    ∙ after_after (rest_of byte (depth - 1 - length way) frame named) (rest_of_way byte (depth - 1) way) (rest_of byte depth top)
    ∙ ap (λ d. then_tested (rest_of byte d frame named) (rest_of_way byte depth (top ∷ way))) (let e : depth - 1 - length way ≡ depth - suc (length way) = omega arith in e)

child : (byte : ℕ → ℕ) (depth : ℕ) (frame : WalkFrame) (named : Blocks) → 0 < depth → frame.next ≡ 0 → frame.count ≡ slot_count byte frame.directory → contents_test depth byte frame.directory named ≡ rest_of byte depth frame named
unfolding rest_of
child byte depth frame named deep e h =
    let test = slot_test (contents_test (depth - 1) byte) byte frame.directory in
    let all : slot_count byte frame.directory ≡ frame.count - frame.next = omega (arith, h) in
    contents_deep depth byte frame.directory named deep
    ∙ sym (from_none (slot_test (contents_test (depth - 1) byte) byte frame.directory) (slot_count byte frame.directory) named)
    ∙ ap (λ n. for_each_from n 0 (slot_test (contents_test (depth - 1) byte) byte frame.directory) named) all
    ∙ ap (λ i. for_each_from (frame.count - frame.next) i (slot_test (contents_test (depth - 1) byte) byte frame.directory) named) (sym e)

pub way_first : (byte : ℕ → ℕ) (depth : ℕ) (frame : WalkFrame) (named : Blocks) → 0 < depth → frame.next ≡ 0 → frame.count ≡ slot_count byte frame.directory → contents_test depth byte frame.directory named ≡ rest_of_way byte depth ([] ++ frame ∷ []) named
unfolding rest_of_way rest_of
way_first byte depth frame named deep e h = child byte depth frame named deep e h

pub way_none : (byte : ℕ → ℕ) (depth : ℕ) (named : Blocks) → rest_of_way byte depth [] named ≡ Ok named
unfolding rest_of_way
way_none byte depth named = refl

pub step_done : (byte : ℕ → ℕ) (depth : ℕ) (way : List WalkFrame) (frame : WalkFrame) (named : Blocks) → frame.next ≡ frame.count → rest_of_way byte depth (way ++ frame ∷ []) named ≡ rest_of_way byte depth way named
step_done byte depth way frame named e =
    rest_push byte depth way frame named
    ∙ ap (λ r. then_tested r (rest_of_way byte depth way)) (rest_done byte (depth - length way) frame named e)

step_next : (byte : ℕ → ℕ) (depth : ℕ) (way : List WalkFrame) (frame : WalkFrame) (named : Blocks) (r : Result Blocks ImageFault) → frame.next < frame.count → slot_of byte (depth - length way) frame named ≡ r → rest_of_way byte depth (way ++ frame ∷ []) named ≡ then_tested r (rest_of_way byte depth (way ++ onward frame ∷ []))
step_next byte depth way frame named r more e =
    rest_push byte depth way frame named
    ∙ ap (λ x. then_tested x (rest_of_way byte depth way)) (rest_next byte (depth - length way) frame named more)
    ∙ after_after (slot_of byte (depth - length way) frame named) (rest_of byte (depth - length way) (onward frame)) (rest_of_way byte depth way)
    ∙ ap (λ x. then_tested x (λ m. then_tested (rest_of byte (depth - length way) (onward frame) m) (rest_of_way byte depth way))) e
    ∙ ap (then_tested r) (λ i. λ m. sym (rest_push byte depth way (onward frame) m) i)

pub step_passed : (byte : ℕ → ℕ) (depth : ℕ) (way : List WalkFrame) (frame : WalkFrame) (named now : Blocks) → frame.next < frame.count → slot_of byte (depth - length way) frame named ≡ Ok now → rest_of_way byte depth (way ++ frame ∷ []) named ≡ rest_of_way byte depth (way ++ onward frame ∷ []) now
step_passed byte depth way frame named now more e = step_next byte depth way frame named (Ok now) more e

pub step_failed : (byte : ℕ → ℕ) (depth : ℕ) (way : List WalkFrame) (frame : WalkFrame) (named : Blocks) (fault : ImageFault) → frame.next < frame.count → slot_of byte (depth - length way) frame named ≡ Err fault → rest_of_way byte depth (way ++ frame ∷ []) named ≡ Err fault
step_failed byte depth way frame named fault more e = step_next byte depth way frame named (Err fault) more e

-- into a directory
pub step_deeper : (byte : ℕ → ℕ) (depth : ℕ) (way : List WalkFrame) (frame below : WalkFrame) (named now : Blocks) → frame.next < frame.count → length way + 1 < depth → below.next ≡ 0 → below.count ≡ slot_count byte below.directory → slot_of byte (depth - length way) frame named ≡ contents_test (depth - length way - 1) byte below.directory now → rest_of_way byte depth (way ++ frame ∷ []) named ≡ rest_of_way byte depth ((way ++ onward frame ∷ []) ++ below ∷ []) now
step_deeper byte depth way frame below named now more deep e h k =
    step_next byte depth way frame named (contents_test (depth - length way - 1) byte below.directory now) more k
    ∙ ap (λ r. then_tested r (rest_of_way byte depth (way ++ onward frame ∷ []))) (child byte (depth - length way - 1) below now (omega arith) e h)
    ∙ ap (λ d. then_tested (rest_of byte d below now) (rest_of_way byte depth (way ++ onward frame ∷ []))) (let e : depth - length way - 1 ≡ depth - length (way ++ onward frame ∷ []) = omega (arith, length-append way (onward frame ∷ [])) in e)
    ∙ sym (rest_push byte depth (way ++ onward frame ∷ []) below now)

-- no directory is looked into at the depth 0
pub no_deeper : (byte : ℕ → ℕ) (depth place : ℕ) (named : Blocks) → depth ≡ 0 → contents_test depth byte place named ≡ Ok named
no_deeper byte depth place named e = ap (λ d. contents_test d byte place named) e ∙ contents_none byte place named

-- ---- frames

pub frames_more : (byte : ℕ → ℕ) (way : List WalkFrame) (frame : WalkFrame) → AreFrames byte way → IsFrame byte frame → AreFrames byte (way ++ frame ∷ [])
frames_more byte [] frame are is = (is, tt)
frames_more byte (top ∷ way) frame are is = (are.0, frames_more byte way frame are.1 is)

pub frames_front : (byte : ℕ → ℕ) (way : List WalkFrame) (frame : WalkFrame) → AreFrames byte (way ++ frame ∷ []) → AreFrames byte way
frames_front byte [] frame are = tt
frames_front byte (top ∷ way) frame are = (are.0, frames_front byte way frame are.1)

pub frames_last : (byte : ℕ → ℕ) (way : List WalkFrame) (frame : WalkFrame) → AreFrames byte (way ++ frame ∷ []) → IsFrame byte frame
frames_last byte [] frame are = are.0
frames_last byte (top ∷ way) frame are = frames_last byte way frame are.1

pub frame_onward : (byte : ℕ → ℕ) (frame : WalkFrame) → IsFrame byte frame → frame.next < frame.count → (frame.next ≡ frame.taken → ⊥) → IsFrame byte (onward frame)
frame_onward byte frame is more other =
    let ahead = is.ahead in
    let not_here : frame.next ≢ frame.taken = other in
    record { place = is.place; ahead = omega arith; first = is.first }

-- ---- steps

left_push : (depth : ℕ) (way : List WalkFrame) (frame : WalkFrame) → steps_left depth (way ++ frame ∷ []) ≡ steps_left depth way + frame_steps (depth - length way) frame
unfolding steps_left
left_push depth [] frame =
    ap (λ d. 0 + frame_steps d frame) (let e : depth ≡ depth - 0 = omega arith in e)
left_push depth (top ∷ way) frame =
    let rest = left_push (depth - 1) way frame in
    let same = ap (λ d. frame_steps d frame) (let e : depth - 1 - length way ≡ depth - suc (length way) = omega arith in e) in
    omega (arith, rest, same)

pub steps_done : (depth : ℕ) (way : List WalkFrame) (frame : WalkFrame) → steps_left depth way < steps_left depth (way ++ frame ∷ [])
unfolding frame_steps
steps_done depth way frame = let pushed = left_push depth way frame in omega (arith, pushed)

steps_on : (depth : ℕ) (frame : WalkFrame) → frame.next < frame.count → frame_steps depth (onward frame) + (1 + most_steps (depth - 1)) ≡ frame_steps depth frame
unfolding frame_steps
steps_on depth frame more =
    let one : frame.count - frame.next ≡ (frame.count - (frame.next + 1)) + 1 = omega arith in
    let many = ap (λ n. n * (1 + most_steps (depth - 1)) + 1) one in
    omega (arith, many)

pub steps_passed : (depth : ℕ) (way : List WalkFrame) (frame : WalkFrame) → frame.next < frame.count → steps_left depth (way ++ onward frame ∷ []) < steps_left depth (way ++ frame ∷ [])
steps_passed depth way frame more =
    let before = left_push depth way frame in
    let now = left_push depth way (onward frame) in
    let on = steps_on (depth - length way) frame more in
    omega (arith, before, now, on)

steps_few : (depth : ℕ) (frame : WalkFrame) → 0 < depth → frame.count < 2 ^ 32 → frame_steps depth frame ≤ most_steps depth
unfolding frame_steps most_steps
steps_few zero frame deep few = absurd (omega arith)
steps_few (suc depth) frame deep few =
    let same = ap (λ d. (frame.count - frame.next) * (1 + most_steps d)) (let e : suc depth - 1 ≡ depth = omega arith in e) in
    let less = mul-le-mul_right (1 + most_steps depth) (let e : frame.count - frame.next ≤ 2 ^ 32 = omega arith in e) in
    omega (arith, same, less)

pub steps_deeper : (depth : ℕ) (way : List WalkFrame) (frame below : WalkFrame) → frame.next < frame.count → length way + 1 < depth → below.count < 2 ^ 32 → steps_left depth ((way ++ onward frame ∷ []) ++ below ∷ []) < steps_left depth (way ++ frame ∷ [])
steps_deeper depth way frame below more deep few =
    let before = left_push depth way frame in
    let now = left_push depth way (onward frame) in
    let deeper = left_push depth (way ++ onward frame ∷ []) below in
    let on = steps_on (depth - length way) frame more in
    let same = ap (λ d. frame_steps d below) (let e : depth - length (way ++ onward frame ∷ []) ≡ depth - length way - 1 = omega (arith, length-append way (onward frame ∷ [])) in e) in
    let most = steps_few (depth - length way - 1) below (omega arith) few in
    omega (arith, before, now, deeper, on, same, most)

-- ---- answers

-- a fault that is told of what is left is told of the whole
pub tells_fault : (fault : CheckFault) (whole rest one other : Result Blocks ImageFault) → whole ≡ rest → Tells (Err fault) rest one → Tells (Err fault) whole other
tells_fault (Bad fault) whole rest one other e tells = e ∙ tells
tells_fault NoMemory whole rest one other e tells = tt
