-- What the library reads in the pages of its environment: a word of a page that is there is read whole, and so is one of the frame of a
-- page fault.
use Rattle.std.proofs.Common.{◌≡◌, ◌≢◌, ◌∙◌, ◌+◌, ◌-◌, ◌*◌, ◌%◌, ◌^◌, ◌<◌, ℕ, zero, suc, true, false, List, [], ◌∷◌, length}
use Rattle.std.proofs.Common.{refl, ap, arith, get_or}
use Rattle.std.proofs.lemmas.Bool.Decides.{nat_tests}
use Rattle.std.proofs.lemmas.Nat.{from_le_bytes-to_le_bytes_4}
use Rattle.std.specs.Prelude.{bit_and, nat_lt, Option, Some, Ok, slice_index}
use Rattle.std.specs.Int.{w32, from_le_bytes}
use Rattle.jos_base.specs.declared.memory.Access.TheVariants.{Read}
use Rattle.jos_base.specs.declared.memory.PageFault.{PageFault}
use Rattle.jos_base.specs.declared.numbers.TheConstants.{PGSIZE, UTRAPFRAME_WORDS}
use Rattle.jos_base.specs.declared.registers.Regs.{Regs}
use Rattle.jos_base.specs.Counting.{page_limit}
use Rattle.jos_base.specs.Environments.{records_of}
use Rattle.jos_base.specs.KernelState.{KernelState, slot_at, with_spaces}
use Rattle.jos_base.specs.Reach.{Entry, allows, reach_entry}
use Rattle.jos_base.specs.SpacesState.{SpacesState}
use Rattle.jos_base.specs.SystemCalls.{is_page_perm}
use Rattle.jos_base.specs.TrapFrames.{bytes_of_words, frame_bytes, frame_size, frame_words}
use Rattle.jos_base.specs.UserMemory.{reach_in, touched, byte_at, byte_or_zero}
use Rattle.jos_base.specs.Words.{page_number, page_offset}
use Rattle.jos_base.proofs.Walks.{walked_below}
use Rattle.lib_os.specs.declared.numbers.TheConstants.{PFTEMP, UXSTACK}
use Rattle.lib_os.specs.declared.place.HandlerStep.{HandlerStep}
use Rattle.lib_os.specs.AbstractState.{AbstractState}
use Rattle.lib_os.specs.InOrder.{HasOneUse}
use Rattle.lib_os.specs.LibraryPages.{HasFrame, View, frame_place}
use Rattle.lib_os.specs.Rows.{Names, lasting, rows_of}
use Rattle.lib_os.specs.StandsFor.{StandsFor, view_of}
use Rattle.lib_os.specs.StandsInHandler.{page_word}
use Rattle.lib_os.specs.UserCalls.{accessing, giving, load, user_word}
use Rattle.lib_os.proofs.BytesRead.{lasting_reads}
use Rattle.lib_os.proofs.EntryWords.{row_entry}
use Rattle.lib_os.proofs.Handled.{IsHandled}
use Rattle.lib_os.specs.declared.place.Place.{Place}
use Rattle.lib_os.specs.declared.place.Place.TheVariants as place
use Rattle.lib_os.specs.Places.{place_of}
use Rattle.lib_os.proofs.Logical.{is_remapped, logical_beside}
use Rattle.lib_os.proofs.WordsTell.{handler_runs, is_in_handler}
use Rattle.lib_os.proofs.StatesStand.{clients_live}
use Rattle.lib_os.proofs.Touching.{touched_quiet}
use Rattle.lib_os.proofs.WindowWords.{read_at}

-- ---- a byte of a page that is there

module _ (s : SpacesState) (d va : ℕ) (row : Entry) (stands : rows_of s d (page_number va) ≡ Some row) (readable : is_page_perm row.perm ≡ true)
    (below : page_number va < page_limit) where
  found : (e : Entry) × (s.entries d (page_number va) ≡ Some e) × (lasting e ≡ row)
  found = row_entry s d (page_number va) row stands

  found_allows : allows found.0.perm Read ≡ true
  found_allows =
      let page : is_page_perm (lasting found.0).perm ≡ true = ap (λ (e : Entry). is_page_perm e.perm) found.2 ∙ readable in
      let reads : bit_and found.0.perm 5 ≡ 5 = lasting_reads found.0.perm page in
      grind (arith, nat_tests)

  entry_reached : (e : Entry) → allows e.perm Read ≡ true → reach_entry (Some e) va Read ≡ Ok (record { frame = e.frame; offset = page_offset va })
  entry_reached e may = rw may refl

  -- a read reaches it
  pub page_reached : reach_in s d va Read ≡ Ok (record { frame = row.frame; offset = page_offset va })
  page_reached =
      ap (λ (o : Option Entry). reach_entry o va Read) (walked_below s d (page_number va) below ∙ found.1)
      ∙ entry_reached found.0 found_allows
      ∙ ap (λ (e : Entry). Ok (record { frame = e.frame; offset = page_offset va })) found.2

  pub page_byte : (records : ℕ → List ℕ) → byte_at records s d va ≡ slice_index (s.pages row.frame) (page_offset va)
  unfolding byte_at
  page_byte records =
      let is_below : nat_lt (page_number va) page_limit ≡ true = grind (arith, nat_tests) in
      ap (byte_or_zero records s d va) page_reached ∙ rw is_below refl

-- ---- a word of one

-- a word by its four bytes
word_alike : (bytes more : List ℕ) (at place : ℕ) → ((k : ℕ) → k < 4 → slice_index bytes (at + k) ≡ slice_index more (place + k)) →
    page_word bytes at ≡ page_word more place
word_alike bytes more at place same =
    let first : slice_index bytes at ≡ slice_index more place =
    let here : at ≡ at + 0 = omega arith in
    let there : place + 0 ≡ place = omega arith in
    ap (slice_index bytes) here ∙ same 0 (omega arith) ∙ ap (slice_index more) there in
    λ i. from_le_bytes w32 (first i ∷ same 1 (omega arith) i ∷ same 2 (omega arith) i ∷ same 3 (omega arith) i ∷ [])

module _ (s : KernelState) (n va : ℕ) (row : Entry) (aligned : va % 4 ≡ 0)
    (stands : rows_of s.spaces (slot_at s n).directory (page_number va) ≡ Some row) (readable : is_page_perm row.perm ≡ true)
    (uses : HasOneUse s.spaces) where
  abbrev d : ℕ
  d = (slot_at s n).directory

  abbrev reached : SpacesState
  reached = touched s.spaces d va Read

  below : page_number va < page_limit
  below =
      let e = row_entry s.spaces d (page_number va) row stands in
      (uses.within d (page_number va) e.0 e.1).1

  -- the page has all its bytes
  same_page : (k : ℕ) → k < 4 → page_number (va + k) ≡ page_number va
  same_page k part = omega arith

  same_offset : (k : ℕ) → k < 4 → page_offset (va + k) ≡ page_offset va + k
  same_offset k part = omega arith

  byte_is : (k : ℕ) → k < 4 → byte_at (records_of s.environments) reached d (va + k) ≡ slice_index (s.spaces.pages row.frame) (page_offset va + k)
  byte_is k part =
      let quiet = touched_quiet s.spaces d va Read in
      let same = same_page k part in
      let there : rows_of reached d (page_number (va + k)) ≡ Some row = (λ i. quiet.rows i d (same i)) ∙ stands in
      let low : page_number (va + k) < page_limit = omega (arith, same, below) in
      page_byte reached d (va + k) row there readable low (records_of s.environments)
      ∙ (λ i. slice_index (quiet.pages i row.frame) (same_offset k part i))

  pub load_page_word : load s n va ≡ read_at s n va (page_word (s.spaces.pages row.frame) (page_offset va))
  unfolding load
  load_page_word =
      let none : va ≡ va + 0 = omega arith in
      let none_behind : page_offset va + 0 ≡ page_offset va = omega arith in
      let first : byte_at (records_of s.environments) reached d va ≡ slice_index (s.spaces.pages row.frame) (page_offset va) =
      ap (byte_at (records_of s.environments) reached d) none ∙ byte_is 0 (omega arith) ∙ ap (slice_index (s.spaces.pages row.frame)) none_behind in
      let second = byte_is 1 (omega arith) in
      let third = byte_is 2 (omega arith) in
      let fourth = byte_is 3 (omega arith) in
      let whole : user_word (with_spaces s reached) n va ≡ page_word (s.spaces.pages row.frame) (page_offset va) =
      λ i. from_le_bytes w32 (first i ∷ second i ∷ third i ∷ fourth i ∷ []) in
      ap (accessing s n va Read (λ t. giving t (user_word t n va))) (page_reached s.spaces d va row stands readable below)
      ∙ ap (λ (w : ℕ). giving (with_spaces s reached) w) whole

-- ---- a word among the bytes of words

pub word_of_words : (words : List ℕ) (i : ℕ) → i < length words → get_or words i 0 < 2 ^ 32 →
    page_word (bytes_of_words words) (4 * i) ≡ get_or words i 0
unfolding bytes_of_words
word_of_words [] i lt small = absurd (omega arith)
word_of_words (word ∷ rest) zero lt small = from_le_bytes-to_le_bytes_4 word small
word_of_words (word ∷ rest) (suc i) lt small =
    word_alike (bytes_of_words (word ∷ rest)) (bytes_of_words rest) (4 * suc i) (4 * i) moved
    ∙ word_of_words rest i (omega arith) small
  where
    moved : (k : ℕ) → k < 4 → slice_index (bytes_of_words (word ∷ rest)) (4 * suc i + k) ≡ slice_index (bytes_of_words rest) (4 * i + k)
    moved k part =
        let later : 4 * suc i + k ≡ suc (suc (suc (suc (4 * i + k)))) = omega arith in
        ap (slice_index (bytes_of_words (word ∷ rest))) later

-- ---- a word of the frame

frame_count : (fault : PageFault) (regs : Regs) → length (frame_words fault regs) ≡ UTRAPFRAME_WORDS
unfolding frame_words
frame_count fault regs = refl

pub frame_word_is : (v : View) (esp : ℕ) (fault : PageFault) (regs : Regs) (frame : HasFrame v esp fault regs) (i : ℕ) → i < UTRAPFRAME_WORDS →
    get_or (frame_words fault regs) i 0 < 2 ^ 32 →
    page_word (v.bytes frame.entry.frame) (PGSIZE - frame_size + 4 * i) ≡ get_or (frame_words fault regs) i 0
frame_word_is v esp fault regs frame i lt small =
    word_alike (v.bytes frame.entry.frame) (frame_bytes fault regs) (PGSIZE - frame_size + 4 * i) (4 * i) there
    ∙ word_of_words (frame_words fault regs) i (omega (arith, frame_count fault regs, lt)) small
  where
    there : (k : ℕ) → k < 4 →
        slice_index (v.bytes frame.entry.frame) (PGSIZE - frame_size + 4 * i + k) ≡ slice_index (frame_bytes fault regs) (4 * i + k)
    there k part =
        let place : PGSIZE - frame_size + 4 * i + k ≡ PGSIZE - frame_size + (4 * i + k) = omega arith in
        ap (slice_index (v.bytes frame.entry.frame)) place ∙ frame.bytes (4 * i + k) (omega arith)

-- while its handler runs nothing is mapped onto itself
is_handlers_page : (at : Place) (p : ℕ) → is_in_handler at ≡ true → is_remapped at p ≡ false
is_handlers_page (place.InHandler step) p inside = refl
is_handlers_page place.Guest p inside = refl
is_handlers_page (place.InService s step) p inside = absurd (let contradiction : false ≡ true = inside in cc)

module _ {names : Names} {s : KernelState} {a : AbstractState} (h : StandsFor names s a) (n : ℕ) (step : HandlerStep)
    (v : IsHandled names s a n step) where
  -- Its handler reads a word of the frame.
  pub load_frame_word : (i : ℕ) → i < UTRAPFRAME_WORDS →
      load s n (frame_place + 4 * i) ≡ read_at s n (frame_place + 4 * i) (get_or (frame_words v.at.fault v.at.regs) i 0)
  load_frame_word i lt =
      let frame = v.at.frame in
      let beside : page_number UXSTACK ≢ page_number PFTEMP = λ same. absurd (omega arith) in
      let counts =
      logical_beside s.spaces s.environments.slots n (clients_live h n v.b v.is) (page_number UXSTACK) beside
      (is_handlers_page (place_of (slot_at s n)) (page_number UXSTACK) (handler_runs (slot_at s n).registers (slot_at s n).extra ∙ v.inside))
      ∙ frame.stands in
      let user = h.users n (page_number UXSTACK) frame.entry counts in
      let number : page_number (frame_place + 4 * i) ≡ page_number UXSTACK = omega arith in
      let offset : page_offset (frame_place + 4 * i) ≡ PGSIZE - frame_size + 4 * i = omega arith in
      let there : rows_of s.spaces (slot_at s n).directory (page_number (frame_place + 4 * i)) ≡ Some frame.entry =
      ap (rows_of s.spaces (slot_at s n).directory) number ∙ frame.stands in
      load_page_word s n (frame_place + 4 * i) frame.entry (omega arith) there user.page h.in_order.frames
      ∙ ap (λ (w : ℕ). read_at s n (frame_place + 4 * i) w)
      (ap (page_word (s.spaces.pages frame.entry.frame)) offset
      ∙ frame_word_is (view_of s.spaces (slot_at s n).directory) (slot_at s n).registers.esp v.at.fault v.at.regs frame i lt (v.at.small i lt))
