-- How many frames of the list what is done to address spaces takes: none, but where a page or a table is asked for.
use Rattle.std.proofs.Common.{◌≡◌, ◌∙◌, ◌==◌, ◌/◌, ◌%◌, ◌+◌, ◌^◌, ℕ, zero, suc, Bool, true, false, List, [], ◌∷◌, Option, Some, None, Result}
use Rattle.std.proofs.Common.{Ok, Err, IfSome, refl, ap, arith, if◌then◌else◌}
use Rattle.std.specs.Prelude.{length, nat_lt}
use Rattle.std.specs.Option.{option_map}
use Rattle.jos_base.specs.declared.memory.Access.{Access}
use Rattle.jos_base.specs.declared.memory.Access.TheVariants.{Read, Write}
use Rattle.jos_base.specs.declared.memory.PageFault.{PageFault}
use Rattle.jos_base.specs.declared.numbers.TheConstants.{NPTENTRIES}
use Rattle.jos_base.specs.Counting.{page_limit, page_count}
use Rattle.jos_base.specs.Reach.{Entry, FrameOffset}
use Rattle.jos_base.specs.SpacesState.{created, created_from}
use Rattle.jos_base.specs.SpacesState.{Region, SpacesState, taken, fresh_of, fresh_from, frame_of, with_entry, released, freed}
use Rattle.jos_base.specs.SpacesState.{mapped, tabled_new, tabled_by, tabled, inserted, allocated_in, allocated, without_entry, unmapped}
use Rattle.jos_base.specs.SpacesState.{pages_removed, without_region, tables_freed, region_limit, destroyed, zero_page}
use Rattle.jos_base.specs.SystemCalls.{second_of}
use Rattle.jos_base.specs.UserMemory.{reach_in, with_page_bits, with_region_bit, with_window_bits, touched_by, touched, all_touched, stored_byte}
use Rattle.jos_base.specs.UserMemory.{with_byte_at}
use Rattle.jos_base.specs.Windows.{table_index}
use Rattle.jos_base.specs.Words.{page_number}
use Rattle.lib_os.specs.LibrarySteps.{TakesAtMost}

-- ---- what gives frames back

freed_more : (s : SpacesState) (frame : ℕ) → TakesAtMost 0 s (freed s frame)
freed_more s frame = omega arith

released_more : (s : SpacesState) (o : Option ℕ) → TakesAtMost 0 s (released s o)
released_more s None = omega arith
released_more s (Some frame) = by_test (page_count s.entries frame == 0)
  where
    by_test : (c : Bool) → TakesAtMost 0 s (if c then freed s frame else s)
    by_test true = freed_more s frame
    by_test false = omega arith

pub mapped_more : (s : SpacesState) (space number : ℕ) (entry : Entry) → TakesAtMost 0 s (mapped s space number entry)
unfolding mapped
mapped_more s space number entry = released_more (with_entry s space number entry) (frame_of (s.entries space number))

pub unmapped_more : (s : SpacesState) (space number : ℕ) → TakesAtMost 0 s (unmapped s space number)
unfolding unmapped
unmapped_more s space number = released_more (without_entry s space number) (frame_of (s.entries space number))

removed_more : (s : SpacesState) (space n : ℕ) → TakesAtMost 0 s (pages_removed s space n)
unfolding pages_removed
removed_more s space zero = omega arith
removed_more s space (suc n) =
    let before = removed_more s space n in
    let one = unmapped_more (pages_removed s space n) space n in
    omega (arith, before, one)

region_more : (s : SpacesState) (space index : ℕ) (region : Option Region) → TakesAtMost 0 s (without_region s space index region)
region_more s space index None = omega arith
region_more s space index (Some region) = omega arith

tables_more : (s : SpacesState) (space n : ℕ) → TakesAtMost 0 s (tables_freed s space n)
unfolding tables_freed
tables_more s space zero = omega arith
tables_more s space (suc n) =
    let before = tables_more s space n in
    let one = region_more (tables_freed s space n) space n ((tables_freed s space n).regions space n) in
    omega (arith, before, one)

pub destroyed_more : (s : SpacesState) (space : ℕ) → TakesAtMost 0 s (destroyed s space)
unfolding destroyed
destroyed_more s space =
    let pages = removed_more s space page_limit in
    let tables = tables_more (pages_removed s space page_limit) space region_limit in
    let own = freed_more (tables_freed (pages_removed s space page_limit) space region_limit) space in
    omega (arith, pages, tables, own)

-- ---- what asks for some

tabled_one : (s : SpacesState) (space index : ℕ) → IfSome (tabled s space index) (TakesAtMost 1 s)
unfolding tabled
tabled_one s space index = by_region (s.regions space index)
  where
    by_free : (free : List ℕ) → s.free ≡ free → IfSome (tabled_new s free space index) (TakesAtMost 1 s)
    by_free [] is = tt
    by_free (frame ∷ rest) is = let long : length s.free ≡ suc (length rest) = ap (λ (l : List ℕ). length l) is in omega (arith, long)

    by_region : (region : Option Region) → IfSome (tabled_by s region space index) (TakesAtMost 1 s)
    by_region None = by_free s.free refl
    by_region (Some region) = omega arith

-- a page takes a table, where its region has none
pub inserted_one : (s : SpacesState) (space number : ℕ) (entry : Entry) → IfSome (inserted s space number entry) (TakesAtMost 1 s)
unfolding inserted
inserted_one s space number entry = by_tabled (tabled s space (number / NPTENTRIES)) (tabled_one s space (number / NPTENTRIES))
  where
    by_tabled : (found : Option SpacesState) → IfSome found (TakesAtMost 1 s) →
        IfSome (option_map (λ t. mapped t space number entry) found) (TakesAtMost 1 s)
    by_tabled None one = tt
    by_tabled (Some t) one = let more = mapped_more t space number entry in omega (arith, one, more)

-- and a new page its frame besides
pub allocated_two : (s : SpacesState) (space number perm : ℕ) → IfSome (second_of (allocated s space number perm)) (TakesAtMost 2 s)
unfolding allocated fresh_of
allocated_two s space number perm = by_free s.free refl
  where
    by_inserted : (frame : ℕ) (rest : List ℕ) → length s.free ≡ suc (length rest) → (found : Option SpacesState) →
        IfSome found (TakesAtMost 1 (taken s frame rest zero_page)) → IfSome (second_of (option_map (λ t. (frame, t)) found)) (TakesAtMost 2 s)
    by_inserted frame rest long None one = tt
    by_inserted frame rest long (Some t) one = omega (arith, long, one)

    by_free : (free : List ℕ) → s.free ≡ free → IfSome (second_of (allocated_in (fresh_from s free) space number perm)) (TakesAtMost 2 s)
    by_free [] is = tt
    by_free (frame ∷ rest) is =
        by_inserted frame rest (ap (λ (l : List ℕ). length l) is)
        (inserted (taken s frame rest zero_page) space number (record { frame = frame; perm = perm }))
        (inserted_one (taken s frame rest zero_page) space number (record { frame = frame; perm = perm }))

-- a space takes its directory
pub created_one : (s : SpacesState) → IfSome (created s) (λ f. TakesAtMost 1 s f.1)
unfolding created
created_one s = by_free s.free refl
  where
    by_free : (free : List ℕ) → s.free ≡ free → IfSome (created_from s free) (λ f. TakesAtMost 1 s f.1)
    by_free [] is = tt
    by_free (frame ∷ rest) is = let long : length s.free ≡ suc (length rest) = ap (λ (l : List ℕ). length l) is in omega (arith, long)

-- ---- bits and bytes

by_test : (s a b : SpacesState) (t : Bool) → a.free ≡ s.free → b.free ≡ s.free → (if t then a else b).free ≡ s.free
by_test s a b true first second = first
by_test s a b false first second = second

pub touched_free : (s : SpacesState) (space va : ℕ) (access : Access) → (touched s space va access).free ≡ s.free
unfolding touched
touched_free s space va access = by_reach (reach_in s space va access)
  where
    by_reach : (reached : Result FrameOffset PageFault) → (touched_by s space va access reached).free ≡ s.free
    by_reach (Ok location) =
        let page = page_number va in
        by_test s (with_page_bits s space page access) (with_window_bits s space page) (nat_lt page page_limit) refl
        (by_test s (with_region_bit s space (page % NPTENTRIES)) s (page / NPTENTRIES == table_index) refl refl)
    by_reach (Err fault) = refl

pub all_touched_free : (s : SpacesState) (space va n : ℕ) → (all_touched s space va n).free ≡ s.free
unfolding all_touched
all_touched_free s space va zero = refl
all_touched_free s space va (suc n) =
    all_touched_free (touched s space va Read) space ((va + 1) % 2 ^ 32) n ∙ touched_free s space va Read

pub stored_free : (s : SpacesState) (d va byte : ℕ) → (stored_byte s d va byte).free ≡ s.free
unfolding stored_byte
stored_free s d va byte = by_reach (reach_in s d va Write)
  where
    by_reach : (reached : Result FrameOffset PageFault) → (with_byte_at s byte reached).free ≡ s.free
    by_reach (Ok location) = refl
    by_reach (Err fault) = refl
