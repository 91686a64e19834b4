-- A walk down the directories that keeps its own way: what is left to test while a record is tested. (This system's own.)
use Rattle.std.specs.Prelude.{◌≡◌, ◌≢◌, ℕ, zero, suc, ◌+◌, ◌-◌, ◌*◌, ◌^◌, ◌<◌, ◌≤◌, true, false, List, [], ◌∷◌, Result, Ok, Err}
use Rattle.fs_layout.specs.DiskImage.{ImageFault, Blocks, Test, then_tested, slot_place, slot_test, contents_test, has_taken_name}
use Rattle.fs_image.specs.declared.checking.CheckFault.{CheckFault}
use Rattle.fs_image.specs.declared.checking.CheckFault.TheVariants.{Bad, NoMemory}
use Rattle.fs_image.specs.declared.walk.WalkFrame.{WalkFrame}
use Rattle.fs_image.specs.Answers.{fault_of}

-- a test for each of so many numbers from one on
unfoldable pub for_each_from : ℕ → ℕ → (ℕ → Test) → Test
for_each_from zero i test named = Ok named
for_each_from (suc n) i test named = then_tested (test i named) (for_each_from n (suc i) test)

-- the records of a directory on the way that are left
unfoldable pub rest_of : (ℕ → ℕ) → ℕ → WalkFrame → Test
rest_of byte depth frame =
    for_each_from (frame.count - frame.next) frame.next (slot_test (contents_test (depth - 1) byte) byte frame.directory)

-- those of all directories on the way: the deepest stands last, and is tested first
unfoldable pub rest_of_way : (ℕ → ℕ) → ℕ → List WalkFrame → Test
rest_of_way byte depth [] named = Ok named
rest_of_way byte depth (frame ∷ way) named = then_tested (rest_of_way byte (depth - 1) way named) (rest_of byte depth frame)

-- What a check answers that takes memory: where there was none it says nothing. What is left passes as that which comes after.
abbrev pub Tells : Result (Unit {0}) CheckFault → Result Blocks ImageFault → Result Blocks ImageFault → Type 0
Tells (Ok _) before later = before ≡ later
Tells (Err (Bad fault)) before later = before ≡ Err (fault_of fault)
Tells (Err NoMemory) before later = Unit {0}

-- ---- the first record whose name is taken

-- This is its number, or that of all records where there is none.
pub record IsFirstTaken (byte : ℕ → ℕ) (directory count taken : ℕ) : Type 0 where
  pub within : taken ≤ count
  pub free : (i : ℕ) → i < taken → byte (slot_place byte directory i) ≢ 0 → has_taken_name byte directory i ≡ false
  pub full : taken < count → byte (slot_place byte directory taken) ≢ 0
  pub here : taken < count → has_taken_name byte directory taken ≡ true

-- ---- the way

pub record IsFrame (byte : ℕ → ℕ) (frame : WalkFrame) : Type 0 where
  pub place : frame.directory < 2 ^ 50
  pub ahead : frame.next ≤ frame.taken
  pub first : IsFirstTaken byte frame.directory frame.count frame.taken

abbrev pub AreFrames : (ℕ → ℕ) → List WalkFrame → Type 0
AreFrames byte [] = Unit {0}
AreFrames byte (frame ∷ way) = IsFrame byte frame × AreFrames byte way

-- ---- how far the walk is from its end

-- more steps than any directory takes with so much below it
unfoldable pub most_steps : ℕ → ℕ
most_steps zero = 0
most_steps (suc depth) = 2 ^ 32 * (1 + most_steps depth) + 1

unfoldable pub frame_steps : ℕ → WalkFrame → ℕ
frame_steps depth frame = (frame.count - frame.next) * (1 + most_steps (depth - 1)) + 1

unfoldable pub steps_left : ℕ → List WalkFrame → ℕ
steps_left depth [] = 0
steps_left depth (frame ∷ way) = steps_left (depth - 1) way + frame_steps depth frame
