-- The spaces at the beginning: the directories of the first two environments, and between them a page of the first and its table.
use Rattle.std.proofs.Common.{◌≡◌, ◌≢◌, ◌∙◌, ◌+◌, ◌-◌, ◌/◌, ◌<◌, ◌≤◌, ℕ, zero, suc, Bool, true, false, List, [], ◌∷◌, Option, None, Some}
use Rattle.std.proofs.Common.{refl, sym, ap, subst, arith, if◌then◌else◌}
use Rattle.std.specs.Prelude.{nat_lt}
use Rattle.std.specs.List.{All}
use Rattle.std.specs.Option.{option_map}
use Rattle.std.proofs.lemmas.Bool.Decides.{nat_tests}
use Rattle.jos_base.specs.declared.numbers.TheConstants.{NENV, NPTENTRIES, PGSIZE}
use Rattle.jos_base.specs.Counting.{frame_limit, page_limit}
use Rattle.jos_base.specs.Reach.{Entry}
use Rattle.jos_base.specs.SpacesState.{SpacesState, Use, reserved, free, directory, is_directory, created, created_from}
use Rattle.jos_base.specs.SpacesState.{first_spaces, reserved_frames, rising, zero_page, Region}
use Rattle.jos_base.specs.SpacesState.{taken, fresh_from, fresh_of, with_entry, with_table, mapped}
use Rattle.jos_base.specs.SpacesState.{tabled_new, tabled_by, tabled, inserted, allocated_in, allocated}
use Rattle.jos_base.specs.Words.{upd}
use Rattle.jos_kernel.specs.Boot.{perm_of}
use Rattle.lib_os.specs.declared.numbers.TheConstants.{OPEN_RECORDS}
use Rattle.lib_os.specs.InOrder.{HasOneUse, AreFree}
use Rattle.lib_os.specs.Need.{EachHasUse}
use Rattle.lib_os.specs.StandsFor.{AreSlots}
use Rattle.lib_os.proofs.UsesFound.{first_found}
use Rattle.lib_os.proofs.UsesPlaced.{allocated_found, created_found}
use Rattle.jos_run.proofs.FramesTaken.{AreBelow, Takes, allocated_takes, head_taken, head_below, mapped_new}
use Rattle.jos_base.proofs.Maps.{upd-at, upd-other}
use Rattle.jos_base.proofs.Puts.{Elsewhere, put-at, put-other}

-- ---- rising numbers

pub rising-some : (first n : ℕ) → rising first (suc n) ≡ first ∷ rising (first + 1) n
unfolding rising
rising-some first n = refl

-- each is another than those below it
rising-apart : (low first n : ℕ) → low < first → All (λ g. g ≢ low) (rising first n)
unfolding rising
rising-apart low first zero lt k d within = absurd (omega arith)
rising-apart low first (suc n) lt zero d within = λ same. absurd (omega arith)
rising-apart low first (suc n) lt (suc k) d within = rising-apart low (first + 1) n (omega arith) k d (omega arith)

rising-free : (uses : ℕ → Use) (first n : ℕ) → ((f : ℕ) → first ≤ f → f < first + n → uses f ≡ free) → AreFree uses (rising first n)
unfolding rising
rising-free uses first zero each = tt
rising-free uses first (suc n) each = (
  each first (omega arith) (omega arith),
  rising-apart first (first + 1) n (omega arith),
  rising-free uses (first + 1) n
      (λ f le lt. each f (omega arith) (omega arith)),
)

rising-below : (first n : ℕ) → first + n ≤ frame_limit → AreBelow (rising first n)
unfolding rising
rising-below first zero le = tt
rising-below first (suc n) le = (omega arith, rising-below (first + 1) n (omega arith))

-- these are slots of the table
pub rising-slots : (first n : ℕ) → first + n ≤ NENV → AreSlots (rising first n)
unfolding rising
rising-slots first zero le = tt
rising-slots first (suc n) le = (omega (arith, le), rising-slots (first + 1) n (omega (arith, le)))

-- ---- the first spaces

-- the frame of the second directory stands behind that of the first, those of a page and its table
abbrev pub second_at : ℕ → ℕ
second_at first = first + 1 + 1 + 1

-- the frames that are free: so many from the first on, four of them at least
pub record HasFrames (frames first n : ℕ) : Type 0 where
  pub first_is : reserved_frames frames ≡ first
  pub count_is : frames - reserved_frames frames ≡ suc (suc (suc (suc n)))
  pub most : first + suc (suc (suc (suc n))) ≤ 65536

module _ (frames first n : ℕ) (has : HasFrames frames first n) where
  pub first_free : (first_spaces frames).free ≡ rising first (suc (suc (suc (suc n))))
  unfolding first_spaces
  first_free = λ i. rising (has.first_is i) (has.count_is i)

  first_uses : (f : ℕ) → first ≤ f → f < first + suc (suc (suc (suc n))) → (first_spaces frames).uses f ≡ free
  unfolding first_spaces
  first_uses f le lt =
      let start = has.first_is in
      let count = has.count_is in
      let low : nat_lt f (reserved_frames frames) ≡ false = grind (arith, nat_tests) in
      let high : nat_lt f frames ≡ true = grind (arith, nat_tests) in
      rw (low, high) refl

  first_one_use : HasOneUse (first_spaces frames)
  unfolding first_spaces
  first_one_use = record {
    pages = λ d p e is. absurd cc;
    owners = λ d p e is. absurd cc;
    within = λ d p e is. absurd cc;
    small = λ d p e is. absurd cc;
    regions = λ d p e is. absurd cc;
    tables = λ d r region is. absurd cc;
    tables_apart = λ d r e q x y is js same. absurd cc;
    region_owners = λ d r region is. absurd cc;
    free_list = subst (AreFree (first_spaces frames).uses) (sym first_free)
        (rising-free (first_spaces frames).uses first (suc (suc (suc (suc n)))) first_uses);
  }

  first_below : AreBelow (first_spaces frames).free
  unfolding frame_limit
  first_below = subst AreBelow (sym first_free) (rising-below first (suc (suc (suc (suc n)))) has.most)

  -- no frame is a directory
  pub first_none : (f : ℕ) → is_directory ((first_spaces frames).uses f) ≡ false
  unfolding first_spaces
  first_none f = by_tests (nat_lt f (reserved_frames frames)) (nat_lt f frames)
    where
      by_tests : (t u : Bool) → is_directory (if t then reserved else if u then free else reserved) ≡ false
      by_tests true u = refl
      by_tests false true = refl
      by_tests false false = refl

  -- ---- the first directory

  -- the spaces with a directory in a frame, and these frames left
  abbrev pub directory_in : SpacesState → ℕ → List ℕ → SpacesState
  directory_in s f rest = record s { uses = upd s.uses f directory; free = rest; pages = upd s.pages f [] }

  abbrev pub spaces_one : SpacesState
  spaces_one = directory_in (first_spaces frames) first (rising (first + 1) (suc (suc (suc n))))

  pub created_one : created (first_spaces frames) ≡ Some (first, spaces_one)
  unfolding created
  created_one = ap (created_from (first_spaces frames)) (first_free ∙ rising-some first (suc (suc (suc n))))

  one_listed : (first_spaces frames).free ≡ first ∷ rising (first + 1) (suc (suc (suc n)))
  one_listed = first_free ∙ rising-some first (suc (suc (suc n)))

  one_one_use : HasOneUse spaces_one
  one_one_use = head_taken (first_spaces frames) first_one_use first_below first (rising (first + 1) (suc (suc (suc n)))) one_listed directory
      (upd (first_spaces frames).pages first [])

  one_below : AreBelow spaces_one.free
  one_below = let both = head_below (first_spaces frames) first_one_use first_below first (rising (first + 1) (suc (suc (suc n))))
      one_listed in both.1

  -- ---- the page of the first, and its table

  abbrev pub records_page : ℕ
  records_page = OPEN_RECORDS / PGSIZE

  abbrev pub records_entry : Entry
  records_entry = record { frame = first + 1; perm = perm_of true }

  -- its frame is taken
  abbrev page_taken : SpacesState
  page_taken = taken spaces_one (first + 1) (rising (first + 1 + 1) (suc (suc n))) zero_page

  -- and that of its table
  abbrev table_taken : SpacesState
  table_taken = with_table (record page_taken { free = rising (second_at first) (suc n) }) first (records_page / NPTENTRIES) (first + 1 + 1)

  abbrev pub spaces_records : SpacesState
  spaces_records = with_entry table_taken first records_page records_entry

  no_entries : (d p : ℕ) → spaces_one.entries d p ≡ None
  unfolding first_spaces
  no_entries d p = refl

  no_tables : (d r : ℕ) → spaces_one.regions d r ≡ None
  unfolding first_spaces
  no_tables d r = refl

  table_is : tabled page_taken first (records_page / NPTENTRIES) ≡ Some table_taken
  unfolding tabled
  table_is =
      ap (λ (o : Option Region). tabled_by page_taken o first (records_page / NPTENTRIES)) (no_tables first (records_page / NPTENTRIES))
      ∙ ap (λ (list : List ℕ). tabled_new page_taken list first (records_page / NPTENTRIES)) (rising-some (first + 1 + 1) (suc n))

  page_is : inserted page_taken first records_page records_entry ≡ Some spaces_records
  unfolding inserted
  page_is =
      ap (option_map (λ (t : SpacesState). mapped t first records_page records_entry)) table_is
      ∙ ap (λ (t : SpacesState). Some t) (mapped_new table_taken first records_page records_entry (no_entries first records_page))

  pub records_made : allocated spaces_one first records_page (perm_of true) ≡ Some (first + 1, spaces_records)
  unfolding allocated fresh_of
  records_made =
      ap (λ (list : List ℕ). allocated_in (fresh_from spaces_one list) first records_page (perm_of true)) (rising-some (first + 1) (suc (suc n)))
      ∙ ap (option_map (λ (u : SpacesState). let pair : ℕ × SpacesState = (first + 1, u) in pair)) page_is

  pub first_small : first < frame_limit
  unfolding frame_limit
  first_small = let most = has.most in omega arith

  pub records_small : records_page < page_limit
  unfolding page_limit
  records_small = omega arith

  pub first_is_directory : spaces_one.uses first ≡ directory
  first_is_directory = upd-at (first_spaces frames).uses first directory

  records_takes : Takes spaces_one spaces_records
  records_takes = allocated_takes spaces_one one_one_use one_below first records_page (perm_of true) first_is_directory first_small records_small
      (omega arith) (no_entries first records_page) (first + 1) spaces_records records_made

  -- ---- the second directory

  abbrev pub spaces_two : SpacesState
  spaces_two = directory_in spaces_records (second_at first) (rising (second_at first + 1) n)

  -- the page holds zeros
  pub records_zero : spaces_two.pages (first + 1) ≡ zero_page
  records_zero =
      upd-other spaces_records.pages (second_at first) [] (first + 1) (λ same. omega (arith, same))
      ∙ upd-other page_taken.pages (first + 1 + 1) [] (first + 1) (λ same. omega (arith, same))
      ∙ upd-at spaces_one.pages (first + 1) zero_page

  pub records_stand : spaces_two.entries first records_page ≡ Some records_entry
  records_stand = put-at spaces_one.entries first records_page (Some records_entry)

  pub records_alone : (d p : ℕ) → Elsewhere d p first records_page → spaces_two.entries d p ≡ None
  records_alone d p ne = put-other spaces_one.entries first records_page (Some records_entry) d p ne ∙ no_entries d p

  pub one_table : (d r : ℕ) → Elsewhere d r first (records_page / NPTENTRIES) → spaces_two.regions d r ≡ None
  one_table d r ne =
      put-other spaces_one.regions first (records_page / NPTENTRIES) (Some (record { table = first + 1 + 1; accessed = false })) d r ne ∙ no_tables d r

  pub created_two : created spaces_records ≡ Some (second_at first, spaces_two)
  unfolding created
  created_two = ap (created_from spaces_records) (rising-some (second_at first) n)

  pub two_one_use : HasOneUse spaces_two
  two_one_use = head_taken spaces_records records_takes.one_use records_takes.below (second_at first) (rising (second_at first + 1) n) (rising-some (second_at first) n)
      directory (upd spaces_records.pages (second_at first) [])

  pub two_below : AreBelow spaces_two.free
  two_below = let both = head_below spaces_records records_takes.one_use records_takes.below (second_at first) (rising (second_at first + 1) n)
      (rising-some (second_at first) n) in both.1

  pub both_used : EachHasUse spaces_two
  both_used =
      created_found spaces_records (second_at first, spaces_two)
      (allocated_found spaces_one first records_page (perm_of true) (first + 1, spaces_records) one_one_use first_is_directory records_small
      (created_found (first_spaces frames) (first, spaces_one) (first_found frames) created_one) records_made)
      created_two

  -- the directories are these two
  pub directory_one : is_directory (spaces_two.uses first) ≡ true
  directory_one =
      ap is_directory (upd-other spaces_records.uses (second_at first) directory first (λ same. omega (arith, same)))
      ∙ records_takes.directories first ∙ ap is_directory first_is_directory

  pub directory_two : is_directory (spaces_two.uses (second_at first)) ≡ true
  directory_two = ap is_directory (upd-at spaces_records.uses (second_at first) directory)

  pub no_other : (f : ℕ) → f ≢ first → f ≢ second_at first → is_directory (spaces_two.uses f) ≡ false
  no_other f ne too =
      ap is_directory (upd-other spaces_records.uses (second_at first) directory f too)
      ∙ records_takes.directories f
      ∙ ap is_directory (upd-other (first_spaces frames).uses first directory f ne) ∙ first_none f

-- so many frames are enough
pub has_frames : (frames : ℕ) → 64 ≤ frames → frames ≤ 65536 →
    HasFrames frames (reserved_frames frames) (frames - reserved_frames frames - 4)
has_frames frames least most = record { first_is = refl; count_is = omega arith; most = omega arith }
