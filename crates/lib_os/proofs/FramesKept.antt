-- How many frames there are never changes, and where two are free, whoever asks for a page gets it.
use Rattle.std.proofs.Common.{◌≡◌, ◌∙◌, ◌==◌, ◌/◌, ◌%◌, ◌+◌, ◌^◌, ◌≤◌, ℕ, zero, suc, Bool, true, false, List, [], ◌∷◌, Option}
use Rattle.std.proofs.Common.{Some, None}
use Rattle.std.proofs.Common.{Result, Ok, Err, refl, ap, arith, if◌then◌else◌}
use Rattle.std.specs.Prelude.{length, nat_lt}
use Rattle.std.specs.Option.{option_map}
use Rattle.jos_base.specs.declared.memory.Access.{Access}
use Rattle.jos_base.specs.declared.memory.Access.TheVariants.{Read}
use Rattle.jos_base.specs.declared.memory.PageFault.{PageFault}
use Rattle.jos_base.specs.declared.numbers.TheConstants.{NPTENTRIES}
use Rattle.jos_base.specs.Counting.{page_limit}
use Rattle.jos_base.specs.Reach.{Entry, FrameOffset}
use Rattle.jos_base.specs.SpacesState.{Region, SpacesState, taken, fresh_of, fresh_from, frame_of, with_entry}
use Rattle.jos_base.specs.SpacesState.{mapped, tabled_new}
use Rattle.jos_base.specs.SpacesState.{tabled_by, tabled, inserted, allocated_in, allocated, without_entry, unmapped}
use Rattle.jos_base.specs.SpacesState.{pages_removed}
use Rattle.jos_base.specs.SpacesState.{without_region, tables_freed, region_limit, destroyed, zero_page}
use Rattle.jos_base.specs.SystemCalls.{second_of}
use Rattle.jos_base.specs.UserMemory.{reach_in, with_page_bits, with_region_bit, with_window_bits, touched_by, touched}
use Rattle.jos_base.specs.UserMemory.{all_touched}
use Rattle.jos_base.specs.Windows.{table_index}
use Rattle.jos_base.specs.Words.{page_number}
use Rattle.jos_base.proofs.Released.{released_frames}

by_test : (s a b : SpacesState) (t : Bool) → a.frames ≡ s.frames → b.frames ≡ s.frames → (if t then a else b).frames ≡ s.frames
by_test s a b true first second = first
by_test s a b false first second = second

-- ---- pages removed

mapped_frames : (s : SpacesState) (space number : ℕ) (entry : Entry) → (mapped s space number entry).frames ≡ s.frames
unfolding mapped
mapped_frames s space number entry = released_frames (with_entry s space number entry) (frame_of (s.entries space number))

pub unmapped_frames : (s : SpacesState) (space number : ℕ) → (unmapped s space number).frames ≡ s.frames
unfolding unmapped
unmapped_frames s space number = released_frames (without_entry s space number) (frame_of (s.entries space number))

removed_frames : (s : SpacesState) (space n : ℕ) → (pages_removed s space n).frames ≡ s.frames
unfolding pages_removed
removed_frames s space zero = refl
removed_frames s space (suc n) = unmapped_frames (pages_removed s space n) space n ∙ removed_frames s space n

region_frames : (s : SpacesState) (space index : ℕ) (region : Option Region) →
    (without_region s space index region).frames ≡ s.frames
region_frames s space index None = refl
region_frames s space index (Some region) = refl

tables_frames : (s : SpacesState) (space n : ℕ) → (tables_freed s space n).frames ≡ s.frames
unfolding tables_freed
tables_frames s space zero = refl
tables_frames s space (suc n) =
    region_frames (tables_freed s space n) space n ((tables_freed s space n).regions space n) ∙ tables_frames s space n

pub destroyed_frames : (s : SpacesState) (space : ℕ) → (destroyed s space).frames ≡ s.frames
unfolding destroyed
destroyed_frames s space = tables_frames (pages_removed s space page_limit) space region_limit ∙ removed_frames s space page_limit

-- ---- pages asked for

-- where so many frames are free, spaces are given, and there are as many frames as before
abbrev pub Gets : ℕ → SpacesState → Option SpacesState → Type 0
Gets frames s None = frames ≤ length s.free → ⊥
Gets frames s (Some t) = t.frames ≡ s.frames

tabled_gets : (s : SpacesState) (space index : ℕ) → Gets 1 s (tabled s space index)
unfolding tabled
tabled_gets s space index = by_region (s.regions space index)
  where
    by_free : (free : List ℕ) → s.free ≡ free → Gets 1 s (tabled_new s free space index)
    by_free [] is = λ one. let none : length s.free ≡ 0 = ap (λ (l : List ℕ). length l) is in omega arith
    by_free (frame ∷ rest) is = refl

    by_region : (region : Option Region) → Gets 1 s (tabled_by s region space index)
    by_region None = by_free s.free refl
    by_region (Some region) = refl

pub inserted_gets : (s : SpacesState) (space number : ℕ) (entry : Entry) → Gets 1 s (inserted s space number entry)
unfolding inserted
inserted_gets s space number entry = by_tabled (tabled s space (number / NPTENTRIES)) (tabled_gets s space (number / NPTENTRIES))
  where
    by_tabled : (found : Option SpacesState) → Gets 1 s found → Gets 1 s (option_map (λ t. mapped t space number entry) found)
    by_tabled None gets = gets
    by_tabled (Some t) gets = mapped_frames t space number entry ∙ gets

pub allocated_gets : (s : SpacesState) (space number perm : ℕ) → Gets 2 s (second_of (allocated s space number perm))
unfolding allocated fresh_of
allocated_gets s space number perm = by_free s.free refl
  where
    by_inserted : (frame : ℕ) (rest : List ℕ) → (2 ≤ length s.free → 1 ≤ length rest) → (found : Option SpacesState) →
        Gets 1 (taken s frame rest zero_page) found → Gets 2 s (second_of (option_map (λ t. (frame, t)) found))
    by_inserted frame rest enough None gets = λ two. gets (enough two)
    by_inserted frame rest enough (Some t) gets = gets

    by_free : (free : List ℕ) → s.free ≡ free → Gets 2 s (second_of (allocated_in (fresh_from s free) space number perm))
    by_free [] is = λ two. let none : length s.free ≡ 0 = ap (λ (l : List ℕ). length l) is in omega arith
    by_free (frame ∷ rest) is =
        let long : length s.free ≡ suc (length rest) = ap (λ (l : List ℕ). length l) is in
        by_inserted frame rest (λ two. omega arith)
        (inserted (taken s frame rest zero_page) space number (record { frame = frame; perm = perm }))
        (inserted_gets (taken s frame rest zero_page) space number (record { frame = frame; perm = perm }))

-- ---- bits set

pub touched_frames : (s : SpacesState) (space va : ℕ) (access : Access) → (touched s space va access).frames ≡ s.frames
unfolding touched
touched_frames s space va access = by_reach (reach_in s space va access)
  where
    by_reach : (reached : Result FrameOffset PageFault) → (touched_by s space va access reached).frames ≡ s.frames
    by_reach (Ok location) =
        let page = page_number va in
        by_test s (with_page_bits s space page access) (with_window_bits s space page) (nat_lt page page_limit) refl
        (by_test s (with_region_bit s space (page % NPTENTRIES)) s (page / NPTENTRIES == table_index) refl refl)
    by_reach (Err fault) = refl

pub all_touched_frames : (s : SpacesState) (space va n : ℕ) → (all_touched s space va n).frames ≡ s.frames
unfolding all_touched
all_touched_frames s space va zero = refl
all_touched_frames s space va (suc n) =
    all_touched_frames (touched s space va Read) space ((va + 1) % 2 ^ 32) n ∙ touched_frames s space va Read
