-- What is read at UPAGES: how often a frame is counted. Such a read sets no bit.
use Rattle.std.proofs.Common.{◌≡◌, ◌∙◌, ◌+◌, ◌*◌, ◌/◌, ◌%◌, ◌^◌, ◌<◌, ℕ, true, false, List}
use Rattle.std.proofs.Common.{refl, ap, arith}
use Rattle.std.proofs.lemmas.Bool.Decides.{nat_tests}
use Rattle.std.specs.Prelude.{nat_lt, Option, Some, Ok}
use Rattle.jos_base.specs.declared.memory.Access.TheVariants.{Read}
use Rattle.jos_base.specs.declared.numbers.TheConstants.{NPTENTRIES, UPAGES}
use Rattle.jos_base.specs.Counting.{page_limit}
use Rattle.jos_base.specs.Environments.{records_of}
use Rattle.jos_base.specs.KernelState.{KernelState, slot_at, with_spaces}
use Rattle.jos_base.specs.Reach.{Entry, reach_entry}
use Rattle.jos_base.specs.SpacesState.{SpacesState, count_frames, reference_count}
use Rattle.jos_base.specs.UserMemory.{byte_at, byte_or_zero, reach_in, touched, touched_by}
use Rattle.jos_base.specs.Windows.{pages_frame, pages_index, region_size, walked, window_byte, window_entry, window_word}
use Rattle.jos_base.specs.Words.{page_number, page_offset}
use Rattle.lib_os.specs.UserCalls.{accessing, giving, load, user_word}
use Rattle.lib_os.proofs.WindowWords.{read_at, word_back}

-- the address of a frame's count
abbrev pub count_at : ℕ → ℕ
count_at frame = UPAGES + 8 * frame + 4

module _ (s : SpacesState) (d frame : ℕ) (small : frame < 65536) (recorded : frame < s.frames) where
  -- the page in which it lies
  abbrev lies : ℕ
  lies = pages_frame + frame / 512

  number_is : page_number (count_at frame) ≡ 978944 + frame / 512
  number_is = omega arith

  count_walked : walked s d (page_number (count_at frame)) ≡ Some (window_entry lies)
  unfolding walked page_limit
  count_walked =
      let number = number_is in
      let past : nat_lt (page_number (count_at frame)) page_limit ≡ false = grind (arith, nat_tests, number) in
      let region : page_number (count_at frame) / NPTENTRIES ≡ pages_index = omega (arith, number, small) in
      let index : page_number (count_at frame) % NPTENTRIES ≡ frame / 512 = omega (arith, number, small) in
      let few : frame / 512 < count_frames s.frames = omega (arith, recorded) in
      let is : nat_lt (frame / 512) (count_frames s.frames) ≡ true = grind (arith, nat_tests, few) in
      rw (past, region, index, is) refl

  count_reached : reach_in s d (count_at frame) Read ≡ Ok (record { frame = lies; offset = page_offset (count_at frame) })
  count_reached = ap (λ (o : Option Entry). reach_entry o (count_at frame) Read) count_walked

  pub count_touched : touched s d (count_at frame) Read ≡ s
  unfolding touched page_limit
  count_touched =
      let number = number_is in
      let past : nat_lt (page_number (count_at frame)) page_limit ≡ false = grind (arith, nat_tests, number) in
      let region : page_number (count_at frame) / NPTENTRIES ≡ pages_index = omega (arith, number, small) in
      ap (touched_by s d (count_at frame) Read) count_reached ∙ rw (past, region) refl

  count_word_is : (records : ℕ → List ℕ) (k : ℕ) → k < 4 → window_word records s d (count_at frame + k) ≡ reference_count s frame
  count_word_is records k part =
      let region : (count_at frame + k) / region_size ≡ pages_index = omega (arith, small, part) in
      let place : (count_at frame + k) % region_size / 4 ≡ 2 * frame + 1 = omega (arith, small, part) in
      let half : (2 * frame + 1) / 2 ≡ frame = omega arith in
      let odd : (2 * frame + 1) % 2 ≡ 1 = omega arith in
      let is : nat_lt frame s.frames ≡ true = grind (arith, nat_tests, recorded) in
      rw (region, place, half, odd, is) refl

  count_byte : (records : ℕ → List ℕ) (k : ℕ) → k < 4 → byte_at records s d (count_at frame + k) ≡ reference_count s frame / 256 ^ k % 256
  unfolding byte_at window_byte page_limit
  count_byte records k part =
      let number = number_is in
      let same : page_number (count_at frame + k) ≡ page_number (count_at frame) = omega (arith, part) in
      let past : nat_lt (page_number (count_at frame)) page_limit ≡ false = grind (arith, nat_tests, number) in
      let past_k : nat_lt (page_number (count_at frame + k)) page_limit ≡ false = rw same past in
      let at : walked s d (page_number (count_at frame + k)) ≡ Some (window_entry lies) = rw same count_walked in
      let low : (count_at frame + k) % 4 ≡ k = omega (arith, part) in
      let here = count_word_is records k part in
      ap (byte_or_zero records s d (count_at frame + k)) (ap (λ (o : Option Entry). reach_entry o (count_at frame + k) Read) at) ∙ rw
      (past_k, here, low) refl

-- The count is loaded.
pub load_count_word : (s : KernelState) (n frame : ℕ) → frame < 65536 → frame < s.spaces.frames → reference_count s.spaces frame < 2 ^ 32 →
    load s n (count_at frame) ≡ read_at s n (count_at frame) (reference_count s.spaces frame)
unfolding load
load_count_word s n frame small recorded fits =
    let d : ℕ = (slot_at s n).directory in
    let still : with_spaces s (touched s.spaces d (count_at frame) Read) ≡ with_spaces s s.spaces = ap (with_spaces s)
    (count_touched s.spaces d frame small recorded) in
    let byte = count_byte s.spaces d frame small recorded (records_of s.environments) in
    let zeroth : byte_at (records_of s.environments) s.spaces d (count_at frame + 0) ≡ reference_count s.spaces frame / 256 ^ 0 % 256 = byte 0
    (omega arith) in
    let none : count_at frame + 0 ≡ count_at frame = omega arith in
    let first : byte_at (records_of s.environments) s.spaces d
    (count_at frame) ≡ reference_count s.spaces frame / 256 ^ 0 % 256 = rw none at zeroth in
    let second = byte 1 (omega arith) in
    let third = byte 2 (omega arith) in
    let fourth = byte 3 (omega arith) in
    let whole : user_word (with_spaces s s.spaces) n (count_at frame) ≡ reference_count s.spaces frame =
    rw (first, second, third, fourth) (word_back (reference_count s.spaces frame) fits) in
    ap (accessing s n (count_at frame) Read (λ t. giving t (user_word t n (count_at frame)))) (count_reached s.spaces d frame small recorded)
    ∙ ap (λ (t : KernelState). giving (with_spaces s (touched s.spaces d (count_at frame) Read)) (user_word t n (count_at frame))) still
    ∙ ap (λ (w : ℕ). giving (with_spaces s (touched s.spaces d (count_at frame) Read)) w) whole
