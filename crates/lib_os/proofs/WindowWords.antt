-- What the library reads at the windows: the words of the directory, of tables and of the records of slots. A word that
-- lies in a window is read whole, and the read sets no bit but A of a region's table.
use Rattle.std.proofs.Common.{◌≡◌, ◌∙◌, ◌+◌, ◌*◌, ◌/◌, ◌%◌, ◌^◌, ◌<◌, ◌≤◌, ℕ, Bool, true, false, List, [], ◌∷◌}
use Rattle.std.proofs.Common.{refl, ap, arith, get_or, if◌then◌else◌}
use Rattle.std.proofs.lemmas.Bool.Decides.{nat_tests}
use Rattle.std.proofs.lemmas.Nat.{from_le_bytes-to_le_bytes_4}
use Rattle.std.specs.Prelude.{nat_lt, is_some, Option, Some, None, Ok}
use Rattle.std.specs.Option.{option_map}
use Rattle.std.specs.Int.{w32, from_le_bytes}
use Rattle.jos_base.specs.declared.memory.Access.TheVariants.{Read}
use Rattle.jos_base.specs.declared.numbers.TheConstants.{PGSIZE, UTOP, UENVS, UVPT, NPTENTRIES, NENV, ENV_WORDS}
use Rattle.jos_base.specs.Counting.{page_limit, frame_limit}
use Rattle.jos_base.specs.Environments.{Environments, records_of, record_words}
use Rattle.jos_base.specs.KernelState.{KernelState, slot_at, with_spaces}
use Rattle.jos_base.specs.Reach.{Entry, reach_entry}
use Rattle.jos_base.specs.SpacesState.{SpacesState, Region, region_limit}
use Rattle.jos_base.specs.UserMemory.{reach_in, touched, touched_by, with_window_bits, with_region_bit, region_accessed}
use Rattle.jos_base.specs.UserMemory.{byte_at, byte_or_zero}
use Rattle.jos_base.specs.Windows.{walked, window_entry, window_word, window_byte, read_only, region_entry, directory_entry}
use Rattle.jos_base.specs.Windows.{entry_above, entry_word, table_index, envs_index, envs_frames, region_size}
use Rattle.jos_base.specs.Words.{page_number, page_offset}
use Rattle.lib_os.specs.declared.numbers.TheConstants.{UVPD}
use Rattle.lib_os.specs.InOrder.{HasOneUse}
use Rattle.lib_os.specs.UserCalls.{CallStep, got, load, accessing, giving, user_word}
use Rattle.jos_base.proofs.Puts.{put-at, put-other}
use Rattle.jos_base.proofs.Options.{some_is}

-- ---- a word of its bytes

pub word_back : (word : ℕ) → word < 2 ^ 32 →
    from_le_bytes w32 (word / 256 ^ 0 % 256 ∷ word / 256 ^ 1 % 256 ∷ word / 256 ^ 2 % 256 ∷ word / 256 ^ 3 % 256 ∷ []) ≡ word
word_back word small = let whole : word / 1 ≡ word = omega arith in rw whole (from_le_bytes-to_le_bytes_4 word small)

-- ---- a word of a window

-- the page of a word has all its bytes
same_page : (va k : ℕ) → va % 4 ≡ 0 → k < 4 → page_number (va + k) ≡ page_number va
same_page va k aligned below = omega arith

above_number : (va : ℕ) → UTOP ≤ va → page_limit ≤ page_number va
unfolding page_limit
above_number va above = omega arith

module _ (s : SpacesState) (d : ℕ) where
  -- a page of a window is reached for a read
  window_reached : (va frame : ℕ) → walked s d (page_number va) ≡ Some (window_entry frame) →
      reach_in s d va Read ≡ Ok (record { frame = frame; offset = page_offset va })
  window_reached va frame is = ap (λ (o : Option Entry). reach_entry o va Read) is

  window_touched : (va frame : ℕ) → UTOP ≤ va → walked s d (page_number va) ≡ Some (window_entry frame) →
      touched s d va Read ≡ with_window_bits s d (page_number va)
  unfolding touched
  window_touched va frame above is =
      let number = above_number va above in
      let past : nat_lt (page_number va) page_limit ≡ false = grind (arith, nat_tests) in
      ap (touched_by s d va Read) (window_reached va frame is) ∙ rw past refl

  window_byte_is : (records : ℕ → List ℕ) (va k frame word : ℕ) → va % 4 ≡ 0 → k < 4 → UTOP ≤ va →
      walked s d (page_number va) ≡ Some (window_entry frame) → window_word records s d (va + k) ≡ word →
      byte_at records s d (va + k) ≡ word / 256 ^ k % 256
  unfolding byte_at window_byte
  window_byte_is records va k frame word aligned below above is here =
      let same = same_page va k aligned below in
      let number = above_number va above in
      let past : nat_lt (page_number va) page_limit ≡ false = grind (arith, nat_tests) in
      let past_k : nat_lt (page_number (va + k)) page_limit ≡ false = rw same past in
      let at : walked s d (page_number (va + k)) ≡ Some (window_entry frame) = rw same is in
      let low : (va + k) % 4 ≡ k = omega arith in
      ap (byte_or_zero records s d (va + k)) (window_reached (va + k) frame at) ∙ rw (past_k, here, low) refl

-- the state after a load, and the word that it gives
abbrev pub read_at : KernelState → ℕ → ℕ → ℕ → CallStep ℕ
read_at s n va word =
    record { state = with_spaces s (touched s.spaces (slot_at s n).directory va Read); gives = got word; written = [] }

-- A word of a window is read in the state in which its page is reached.
module _ (s : KernelState) (n va frame after word : ℕ) (aligned : va % 4 ≡ 0) (above : UTOP ≤ va) (small : word < 2 ^ 32) where
  abbrev reached : SpacesState
  reached = touched s.spaces (slot_at s n).directory va Read

  window_load : walked s.spaces (slot_at s n).directory (page_number va) ≡ Some (window_entry frame) →
      walked reached (slot_at s n).directory (page_number va) ≡ Some (window_entry after) →
      ((k : ℕ) → k < 4 → window_word (records_of s.environments) reached (slot_at s n).directory (va + k) ≡ word) →
      load s n va ≡ read_at s n va word
  unfolding load
  window_load is still here =
      let byte = λ (k : ℕ) (below : k < 4).
      window_byte_is reached (slot_at s n).directory (records_of s.environments) va k after word aligned below above still (here k below) in
      let zeroth : byte_at (records_of s.environments) reached (slot_at s n).directory (va + 0) ≡ word / 256 ^ 0 % 256 = byte 0 (omega arith) in
      let none : va + 0 ≡ va = omega arith in
      let first : byte_at (records_of s.environments) reached (slot_at s n).directory va ≡ word / 256 ^ 0 % 256 = rw none at zeroth in
      let second = byte 1 (omega arith) in
      let third = byte 2 (omega arith) in
      let fourth = byte 3 (omega arith) in
      let whole : user_word (with_spaces s reached) n va ≡ word = rw (first, second, third, fourth) (word_back word small) in
      ap (accessing s n va Read (λ t. giving t (user_word t n va))) (window_reached s.spaces (slot_at s n).directory va frame is)
      ∙ ap (λ (w : ℕ). giving (with_spaces s reached) w) whole

-- ---- the region of the tables

module _ (s : SpacesState) (d : ℕ) where
  walked_above : (number region index : ℕ) → page_limit ≤ number → number / NPTENTRIES ≡ region → number % NPTENTRIES ≡ index →
      walked s d number ≡ option_map read_only (entry_above s d region index)
  unfolding walked
  walked_above number region index above in_region at =
      let past : nat_lt number page_limit ≡ false = grind (arith, nat_tests) in
      rw (past, in_region, at) refl

  directory_below : (r : ℕ) → r < region_limit → directory_entry s d r ≡ option_map region_entry (s.regions d r)
  directory_below r below = let is : nat_lt r region_limit ≡ true = grind (arith, nat_tests) in rw is refl

  -- a read there sets A of the region whose table is read
  bits_of_tables : (number index : ℕ) → number / NPTENTRIES ≡ table_index → number % NPTENTRIES ≡ index →
      with_window_bits s d number ≡ with_region_bit s d index
  bits_of_tables number index in_region at = rw (in_region, at) refl

  -- ---- the directory's words

  directory_walked : (r : ℕ) → r < region_limit → walked s d (page_number (UVPD + 4 * r)) ≡ Some (window_entry d)
  directory_walked r below =
      let number : page_number (UVPD + 4 * r) ≡ 0xef7bd = omega arith in
      walked_above (page_number (UVPD + 4 * r)) table_index table_index (above_number (UVPD + 4 * r) (omega arith)) (omega (arith, number)) (omega (arith, number))

  pub directory_touched : (r : ℕ) → r < region_limit → touched s d (UVPD + 4 * r) Read ≡ with_region_bit s d table_index
  directory_touched r below =
      let number : page_number (UVPD + 4 * r) ≡ 0xef7bd = omega arith in
      window_touched s d (UVPD + 4 * r) d (omega arith) (directory_walked r below)
      ∙ bits_of_tables (page_number (UVPD + 4 * r)) table_index (omega (arith, number)) (omega (arith, number))

  directory_word : (records : ℕ → List ℕ) (r k : ℕ) → r < region_limit → k < 4 →
      window_word records s d (UVPD + 4 * r + k) ≡ entry_word (option_map region_entry (s.regions d r))
  unfolding page_limit
  directory_word records r k below part =
      let region : (UVPD + 4 * r + k) / region_size ≡ table_index = omega arith in
      let place : (UVPD + 4 * r + k) % region_size / 4 ≡ 979968 + r = omega arith in
      let past : nat_lt (979968 + r) page_limit ≡ false = grind (arith, nat_tests) in
      let at_region : (979968 + r) / NPTENTRIES ≡ table_index = omega arith in
      let at_index : (979968 + r) % NPTENTRIES ≡ r = omega arith in
      rw (region, place, past, at_region, at_index) (ap entry_word (directory_below r below))

  -- ---- the words of tables

  tables_number : (p : ℕ) → page_number (UVPT + 4 * p) ≡ 979968 + p / NPTENTRIES
  tables_number p = omega arith

  region_below : (p : ℕ) → p < page_limit → p / NPTENTRIES < region_limit
  unfolding page_limit
  region_below p below = omega arith

  table_walked : (p : ℕ) (region : Region) → p < page_limit → s.regions d (p / NPTENTRIES) ≡ Some region →
      walked s d (page_number (UVPT + 4 * p)) ≡ Some (window_entry region.table)
  table_walked p region below is =
      let number = tables_number p in
      let index = region_below p below in
      walked_above (page_number (UVPT + 4 * p)) table_index (p / NPTENTRIES) (above_number (UVPT + 4 * p) (omega arith))
      (omega (arith, number, index)) (omega (arith, number, index))
      ∙ ap (option_map read_only) (directory_below (p / NPTENTRIES) index ∙ ap (option_map region_entry) is)

  pub table_touched : (p : ℕ) (region : Region) → p < page_limit → s.regions d (p / NPTENTRIES) ≡ Some region →
      touched s d (UVPT + 4 * p) Read ≡ with_region_bit s d (p / NPTENTRIES)
  table_touched p region below is =
      let number = tables_number p in
      let index = region_below p below in
      window_touched s d (UVPT + 4 * p) region.table (omega arith) (table_walked p region below is)
      ∙ bits_of_tables (page_number (UVPT + 4 * p)) (p / NPTENTRIES) (omega (arith, number, index)) (omega (arith, number, index))

  table_word : (records : ℕ → List ℕ) (p k : ℕ) → p < page_limit → k < 4 →
      window_word records s d (UVPT + 4 * p + k) ≡ entry_word (s.entries d p)
  table_word records p k below part =
      let index = region_below p below in
      let region : (UVPT + 4 * p + k) / region_size ≡ table_index = omega (arith, index) in
      let place : (UVPT + 4 * p + k) % region_size / 4 ≡ p = omega (arith, index) in
      let is_below : nat_lt p page_limit ≡ true = grind (arith, nat_tests) in
      rw (region, place, is_below) refl

  -- ---- the words of records

  envs_walked : (m i : ℕ) → m < NENV → i < ENV_WORDS →
      walked s d (page_number (UENVS + 64 * m + 4 * i)) ≡ Some (window_entry (1 + (64 * m + 4 * i) / PGSIZE))
  envs_walked m i slot word =
      let number : page_number (UENVS + 64 * m + 4 * i) ≡ 977920 + (64 * m + 4 * i) / PGSIZE = omega arith in
      let page : (64 * m + 4 * i) / PGSIZE < envs_frames = omega arith in
      let is : nat_lt ((64 * m + 4 * i) / PGSIZE) envs_frames ≡ true = grind (arith, nat_tests) in
      walked_above (page_number (UENVS + 64 * m + 4 * i)) envs_index ((64 * m + 4 * i) / PGSIZE) (above_number (UENVS + 64 * m + 4 * i) (omega arith))
      (omega (arith, number, page)) (omega (arith, number, page))
      ∙ rw is refl

  -- No bit is set by a read there.
  pub record_touched : (m i : ℕ) → m < NENV → i < ENV_WORDS → touched s d (UENVS + 64 * m + 4 * i) Read ≡ s
  record_touched m i slot word =
      let region : page_number (UENVS + 64 * m + 4 * i) / NPTENTRIES ≡ envs_index = omega arith in
      window_touched s d (UENVS + 64 * m + 4 * i) (1 + (64 * m + 4 * i) / PGSIZE) (omega arith) (envs_walked m i slot word) ∙ rw region refl

  envs_word : (e : Environments) (m i k : ℕ) → m < NENV → i < ENV_WORDS → k < 4 →
      window_word (records_of e) s d (UENVS + 64 * m + 4 * i + k) ≡ get_or (record_words (e.slots m)) i 0
  unfolding records_of
  envs_word e m i k slot word part =
      let region : (UENVS + 64 * m + 4 * i + k) / region_size ≡ envs_index = omega arith in
      let place : (UENVS + 64 * m + 4 * i + k) % region_size / 4 ≡ 16 * m + i = omega arith in
      let at_slot : (16 * m + i) / ENV_WORDS ≡ m = omega arith in
      let at_word : (16 * m + i) % ENV_WORDS ≡ i = omega arith in
      let is : nat_lt m NENV ≡ true = grind (arith, nat_tests) in
      rw (region, place, at_slot, at_word, is) refl

-- ---- what is loaded

entry_word_small : (s : SpacesState) → HasOneUse s → (d p : ℕ) → entry_word (s.entries d p) < 2 ^ 32
unfolding frame_limit
entry_word_small s uses d p = by_entry (s.entries d p) refl
  where
    by_entry : (o : Option Entry) → s.entries d p ≡ o → entry_word o < 2 ^ 32
    by_entry None is = omega arith
    by_entry (Some e) is = let small = uses.small d p e is in omega (arith, small.0, small.1)

region_word_small : (s : SpacesState) → HasOneUse s → (d r : ℕ) → entry_word (option_map region_entry (s.regions d r)) < 2 ^ 32
unfolding frame_limit
region_word_small s uses d r = by_region (s.regions d r) refl
  where
    by_bit : (region : Region) (t : Bool) → region.table < 65536 → region.table * 4096 + (if t then 39 else 7) < 2 ^ 32
    by_bit region true small = omega arith
    by_bit region false small = omega arith

    by_region : (o : Option Region) → s.regions d r ≡ o → entry_word (option_map region_entry o) < 2 ^ 32
    by_region None is = omega arith
    by_region (Some region) is = by_bit region region.accessed ((uses.tables d r region is).1)

module _ (s : KernelState) (n : ℕ) (uses : HasOneUse s.spaces) where
  abbrev own_directory : ℕ
  own_directory = (slot_at s n).directory

  pub load_directory_word : (r : ℕ) → r < region_limit →
      load s n (UVPD + 4 * r) ≡ read_at s n (UVPD + 4 * r) (entry_word (option_map region_entry (s.spaces.regions own_directory r)))
  load_directory_word r below =
      window_load s n (UVPD + 4 * r) own_directory own_directory (entry_word (option_map region_entry (s.spaces.regions own_directory r)))
      (omega arith) (omega arith) (region_word_small s.spaces uses own_directory r)
      (directory_walked s.spaces own_directory r below)
      (directory_walked (touched s.spaces own_directory (UVPD + 4 * r) Read) own_directory r below)
      (λ k part. directory_word (touched s.spaces own_directory (UVPD + 4 * r) Read) own_directory (records_of s.environments) r k below part
      ∙ ap (λ (o : Option Region). entry_word (option_map region_entry o)) kept)
    where
      kept : (touched s.spaces own_directory (UVPD + 4 * r) Read).regions own_directory r ≡ s.spaces.regions own_directory r
      kept =
          ap (λ (t : SpacesState). t.regions own_directory r) (directory_touched s.spaces own_directory r below)
          ∙ put-other s.spaces.regions own_directory table_index (region_accessed (s.spaces.regions own_directory table_index)) own_directory r (λ _. omega arith)

  pub load_table_word : (p : ℕ) → p < page_limit → is_some (s.spaces.regions own_directory (p / NPTENTRIES)) ≡ true →
      load s n (UVPT + 4 * p) ≡ read_at s n (UVPT + 4 * p) (entry_word (s.spaces.entries own_directory p))
  load_table_word p below there =
      window_load s n (UVPT + 4 * p) region.table region.table (entry_word (s.spaces.entries own_directory p))
      (omega arith) (omega arith) (entry_word_small s.spaces uses own_directory p)
      (table_walked s.spaces own_directory p region below region_is)
      (table_walked (touched s.spaces own_directory (UVPT + 4 * p) Read) own_directory p (record region { accessed = true }) below marked)
      (λ k part. table_word (touched s.spaces own_directory (UVPT + 4 * p) Read) own_directory (records_of s.environments) p k below part
      ∙ ap (λ (t : SpacesState). entry_word (t.entries own_directory p)) touched_is)
    where
      region : Region
      region = (some_is (s.spaces.regions own_directory (p / NPTENTRIES)) there).0

      region_is : s.spaces.regions own_directory (p / NPTENTRIES) ≡ Some region
      region_is = (some_is (s.spaces.regions own_directory (p / NPTENTRIES)) there).1

      touched_is : touched s.spaces own_directory (UVPT + 4 * p) Read ≡ with_region_bit s.spaces own_directory (p / NPTENTRIES)
      touched_is = table_touched s.spaces own_directory p region below region_is

      marked : (touched s.spaces own_directory (UVPT + 4 * p) Read).regions own_directory (p / NPTENTRIES) ≡ Some (record region { accessed = true })
      marked =
          ap (λ (t : SpacesState). t.regions own_directory (p / NPTENTRIES)) touched_is
          ∙ put-at s.spaces.regions own_directory (p / NPTENTRIES) (region_accessed (s.spaces.regions own_directory (p / NPTENTRIES)))
          ∙ ap region_accessed region_is

-- the record of any slot, also of one that is free
pub load_record_word : (s : KernelState) (n m i : ℕ) → m < NENV → i < ENV_WORDS → get_or (record_words (slot_at s m)) i 0 < 2 ^ 32 →
    load s n (UENVS + 64 * m + 4 * i) ≡ read_at s n (UENVS + 64 * m + 4 * i) (get_or (record_words (slot_at s m)) i 0)
load_record_word s n m i slot word small =
    window_load s n (UENVS + 64 * m + 4 * i) (1 + (64 * m + 4 * i) / PGSIZE) (1 + (64 * m + 4 * i) / PGSIZE)
    (get_or (record_words (slot_at s m)) i 0)
    (omega arith) (omega arith) small
    (envs_walked s.spaces (slot_at s n).directory m i slot word)
    (envs_walked (touched s.spaces (slot_at s n).directory (UENVS + 64 * m + 4 * i) Read) (slot_at s n).directory m i slot word)
    (λ k part. envs_word (touched s.spaces (slot_at s n).directory (UENVS + 64 * m + 4 * i) Read) (slot_at s n).directory
    s.environments m i k slot word part)
