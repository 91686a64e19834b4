-- Each frame that is handed out goes on having a use where accesses set bits, bytes are put, and frames are freed or handed out:
-- it is free, or an entry names it, or it is a directory or a table.
use Rattle.std.proofs.Common.{◌≡◌, ◌≢◌, ◌∙◌, ◌+◌, ◌-◌, ◌/◌, ◌%◌, ◌^◌, ◌==◌, ◌<◌, ◌≤◌, ◌⊎◌, inl, inr, ℕ, zero, suc, Bool, true}
use Rattle.std.proofs.Common.{false, List, ◌∷◌}
use Rattle.std.proofs.Common.{refl, sym, ap, subst, arith}
use Rattle.std.specs.Prelude.{nat_lt, Option, Some, None, Result, Ok, Err, if◌then◌else◌}
use Rattle.std.specs.List.{Contains}
use Rattle.std.proofs.lemmas.Bool.Decides.{nat_tests}
use Rattle.jos_base.specs.declared.memory.Access.{Access}
use Rattle.jos_base.specs.declared.memory.Access.TheVariants.{Read, Write}
use Rattle.jos_base.specs.declared.memory.PageFault.{PageFault}
use Rattle.jos_base.specs.declared.numbers.TheConstants.{NPTENTRIES}
use Rattle.jos_base.specs.Words.{page_number}
use Rattle.jos_base.specs.Reach.{Entry, FrameOffset}
use Rattle.jos_base.specs.Counting.{total, named, page_count, frame_limit, page_limit}
use Rattle.jos_base.specs.SpacesState.{SpacesState, Region, directory, freed, released, frame_of, reserved_frames, rising}
use Rattle.jos_base.specs.SpacesState.{first_spaces}
use Rattle.jos_base.specs.SpacesState.{region_limit, with_page_bytes}
use Rattle.jos_base.specs.Windows.{table_index}
use Rattle.jos_base.specs.UserMemory.{reach_in, access_bits, region_accessed, entry_marked, with_page_bits, with_region_bit}
use Rattle.jos_base.specs.UserMemory.{with_entry_bits, with_bits, touched, touched_by, all_touched, stored_byte, with_byte_at}
use Rattle.lib_os.specs.Need.{HasUse, in_list, in_entry, as_directory, as_table, EachHasUse}
use Rattle.std.proofs.lemmas.Bool.{cases_eq}
use Rattle.jos_base.proofs.Maps.{upd-other}
use Rattle.jos_base.proofs.Puts.{put-alike}

-- ---- lists

pub contains_head : (f x : ℕ) (rest : List ℕ) → x ≡ f → Contains (x ∷ rest) f
contains_head f x rest same = (zero, omega arith, same)

pub contains_later : (f x : ℕ) (rest : List ℕ) → Contains rest f → Contains (x ∷ rest) f
contains_later f x rest (k, lt, at) = (suc k, omega (arith, lt), at)

-- what a list has is its head, or is behind that
pub contains_cases : (f x : ℕ) (rest : List ℕ) → Contains (x ∷ rest) f → (x ≡ f) ⊎ Contains rest f
contains_cases f x rest (zero, lt, at) = inl at
contains_cases f x rest (suc k, lt, at) = inr (k, omega (arith, lt), at)

-- ---- what has a frame or a table

abbrev pub table_in : Option Region → Option ℕ
table_in None = None
table_in (Some region) = Some region.table

pub framed : (o : Option Entry) (f : ℕ) → frame_of o ≡ Some f → (e : Entry) × (o ≡ Some e) × (e.frame ≡ f)
framed None f is = absurd cc
framed (Some e) f is = (e, refl, let same : e.frame ≡ f = cc in same)

pub tabled_by : (o : Option Region) (f : ℕ) → table_in o ≡ Some f → (region : Region) × (o ≡ Some region) × (region.table ≡ f)
tabled_by None f is = absurd cc
tabled_by (Some region) f is = (region, refl, let same : region.table ≡ f = cc in same)

-- ---- what is used as before

-- Frames are used as before, and entries and regions name those that they named.
pub record UsedAlike (s t : SpacesState) : Type 0 where
  pub frames : t.frames ≡ s.frames
  pub uses : t.uses ≡ s.uses
  pub list : t.free ≡ s.free
  pub entries : (q r : ℕ) → frame_of (t.entries q r) ≡ frame_of (s.entries q r)
  pub regions : (q r : ℕ) → table_in (t.regions q r) ≡ table_in (s.regions q r)

alike_use : (s t : SpacesState) → UsedAlike s t → (f : ℕ) → HasUse s f → HasUse t f
alike_use s t h f (in_list listed) = in_list (subst (λ (l : List ℕ). Contains l f) (sym h.list) listed)
alike_use s t h f (in_entry d p e stands same) =
    let x = framed (t.entries d p) f (h.entries d p ∙ ap frame_of stands ∙ ap (λ (z : ℕ). Some z) same) in
    in_entry d p x.0 x.1 x.2
alike_use s t h f (as_directory is) = as_directory ((λ i. h.uses i f) ∙ is)
alike_use s t h f (as_table d r region is lt stands same) =
    let x = tabled_by (t.regions d r) f (h.regions d r ∙ ap table_in stands ∙ ap (λ (z : ℕ). Some z) same) in
    as_table d r x.0 ((λ i. h.uses i d) ∙ is) lt x.1 x.2

pub alike_found : (s t : SpacesState) → UsedAlike s t → EachHasUse s → EachHasUse t
alike_found s t h all f low high =
    alike_use s t h f (all f (subst (λ (n : ℕ). reserved_frames n ≤ f) h.frames low) (subst (λ (n : ℕ). f < n) h.frames high))

alike_both : (s t u : SpacesState) → UsedAlike s t → UsedAlike t u → UsedAlike s u
alike_both s t u one two = record {
  frames = two.frames ∙ one.frames;
  uses = two.uses ∙ one.uses;
  list = two.list ∙ one.list;
  entries = λ q r. two.entries q r ∙ one.entries q r;
  regions = λ q r. two.regions q r ∙ one.regions q r;
}

alike_self : (s : SpacesState) → UsedAlike s s
alike_self s = record { frames = refl; uses = refl; list = refl; entries = λ q r. refl; regions = λ q r. refl }

-- ---- accesses

accessed_table : (o : Option Region) → table_in (region_accessed o) ≡ table_in o
accessed_table None = refl
accessed_table (Some region) = refl

marked_frame : (bits : ℕ) (o : Option Entry) → frame_of (entry_marked bits o) ≡ frame_of o
marked_frame bits None = refl
marked_frame bits (Some e) = refl

module _ (s : SpacesState) (d : ℕ) where
  region_alike : (index : ℕ) → UsedAlike s (with_region_bit s d index)
  region_alike index = record {
    frames = refl;
    uses = refl;
    list = refl;
    entries = λ q r. refl;
    regions = put-alike s.regions d index (region_accessed (s.regions d index)) table_in (accessed_table (s.regions d index));
  }

  entry_alike : (number bits : ℕ) → UsedAlike s (with_entry_bits s d number bits)
  entry_alike number bits = record {
    frames = refl;
    uses = refl;
    list = refl;
    entries = put-alike s.entries d number (entry_marked bits (s.entries d number)) frame_of
        (marked_frame bits (s.entries d number));
    regions = λ q r. refl;
  }

bits_alike : (s : SpacesState) (d n : ℕ) (a : Access) → UsedAlike s (with_bits s d n a)
bits_alike s d n a = by_place (nat_lt n page_limit) (n / NPTENTRIES == table_index)
  where
    by_place : (below window : Bool) →
        UsedAlike s (if below then with_page_bits s d n a else if window then with_region_bit s d (n % NPTENTRIES) else s)
    by_place true window =
        alike_both s (with_region_bit s d (n / NPTENTRIES)) (with_page_bits s d n a) (region_alike s d (n / NPTENTRIES))
        (entry_alike (with_region_bit s d (n / NPTENTRIES)) d n (access_bits a))
    by_place false true = region_alike s d (n % NPTENTRIES)
    by_place false false = alike_self s

touched_alike : (s : SpacesState) (d va : ℕ) (a : Access) → UsedAlike s (touched s d va a)
unfolding touched
touched_alike s d va a = by_outcome (reach_in s d va a)
  where
    by_outcome : (r : Result FrameOffset PageFault) → UsedAlike s (touched_by s d va a r)
    by_outcome (Ok location) = bits_alike s d (page_number va) a
    by_outcome (Err fault) = alike_self s

pub touched_found : (s : SpacesState) (d va : ℕ) (a : Access) → EachHasUse s → EachHasUse (touched s d va a)
touched_found s d va a = alike_found s (touched s d va a) (touched_alike s d va a)

pub all_touched_found : (s : SpacesState) (d va n : ℕ) → EachHasUse s → EachHasUse (all_touched s d va n)
unfolding all_touched
all_touched_found s d va zero all = all
all_touched_found s d va (suc n) all =
    all_touched_found (touched s d va Read) d ((va + 1) % 2 ^ 32) n (touched_found s d va Read all)

bytes_alike : (s : SpacesState) (frame : ℕ) (bytes : List ℕ) → UsedAlike s (with_page_bytes s frame bytes)
bytes_alike s frame bytes = record { frames = refl; uses = refl; list = refl; entries = λ q r. refl; regions = λ q r. refl }

pub bytes_found : (s : SpacesState) (frame : ℕ) (bytes : List ℕ) → EachHasUse s → EachHasUse (with_page_bytes s frame bytes)
bytes_found s frame bytes = alike_found s (with_page_bytes s frame bytes) (bytes_alike s frame bytes)

pub stored_found : (s : SpacesState) (d va byte : ℕ) → EachHasUse s → EachHasUse (stored_byte s d va byte)
unfolding stored_byte
stored_found s d va byte all = by_outcome (reach_in s d va Write)
  where
    by_outcome : (r : Result FrameOffset PageFault) → EachHasUse (with_byte_at s byte r)
    by_outcome (Ok location) = bytes_found s location.frame _ all
    by_outcome (Err fault) = all

-- ---- a frame that is counted is named

total_found : (n : ℕ) (g : ℕ → ℕ) → total n g ≢ 0 → (k : ℕ) × (g k ≢ 0)
unfolding total
total_found zero g some = absurd (some refl)
total_found (suc n) g some = elim (cases_eq (g n) 0) [
  | inl none ↦ total_found n g (λ all. some (omega (arith, none, all)))
  | inr here ↦ (n, here)
]

named_found : (f : ℕ) (o : Option Entry) → named f o ≢ 0 → (e : Entry) × (o ≡ Some e) × (e.frame ≡ f)
named_found f None some = absurd (some refl)
named_found f (Some e) some = by_test (e.frame == f) refl some
  where
    by_test : (t : Bool) → (e.frame == f) ≡ t → ◌≢◌ {A = ℕ} (if t then 1 else 0) 0 → (x : Entry) × (Some e ≡ Some x) × (x.frame ≡ f)
    by_test true test is = (e, refl, grind (arith, nat_tests))
    by_test false test is = absurd (is refl)

counted_found : (s : SpacesState) (f : ℕ) → page_count s.entries f ≢ 0 → HasUse s f
unfolding page_count
counted_found s f some =
    let outer = total_found frame_limit (λ d. total page_limit (λ p. named f (s.entries d p))) some in
    let inner = total_found page_limit (λ p. named f (s.entries outer.0 p)) outer.1 in
    let e = named_found f (s.entries outer.0 inner.0) inner.1 in
    in_entry outer.0 inner.0 e.0 e.1 e.2

-- ---- a frame is freed

-- no region of the frame has a table
abbrev pub HasNoTables : SpacesState → ℕ → Type 0
HasNoTables s x = s.uses x ≡ directory → (r : ℕ) (region : Region) → r < region_limit → s.regions x r ≡ Some region → ⊥

pub freed_use : (s : SpacesState) (x : ℕ) → HasNoTables s x → (f : ℕ) → HasUse s f ⊎ (x ≡ f) → HasUse (freed s x) f
freed_use s x tableless f (inr same) = in_list (contains_head f x s.free same)
freed_use s x tableless f (inl (in_list listed)) = in_list (contains_later f x s.free listed)
freed_use s x tableless f (inl (in_entry d p e stands same)) = in_entry d p e stands same
freed_use s x tableless f (inl (as_directory is)) = elim (cases_eq f x) [
  | inl same ↦ in_list (contains_head f x s.free (sym same))
  | inr ne ↦ as_directory (upd-other s.uses x _ f ne ∙ is)
]
freed_use s x tableless f (inl (as_table d r region is lt stands same)) = elim (cases_eq d x) [
  | inl d_is ↦
      absurd (tableless (ap s.uses (sym d_is) ∙ is) r region lt (ap (λ (q : ℕ). s.regions q r) (sym d_is) ∙ stands))
  | inr ne ↦ as_table d r region (upd-other s.uses x _ d ne ∙ is) lt stands same
]

pub released_use : (s : SpacesState) (o : Option ℕ) → ((x : ℕ) → o ≡ Some x → s.uses x ≢ directory) →
    (f : ℕ) → HasUse s f ⊎ (o ≡ Some f) → HasUse (released s o) f
released_use s None no_directory f (inl h) = h
released_use s None no_directory f (inr is) = absurd cc
released_use s (Some x) no_directory f has = by_test (page_count s.entries x == 0) refl
  where
    freed_one : HasUse s f ⊎ (Some x ≡ Some f) → HasUse s f ⊎ (x ≡ f)
    freed_one (inl h) = inl h
    freed_one (inr is) = inr (let same : x ≡ f = cc in same)

    counted_one : page_count s.entries x ≢ 0 → HasUse s f ⊎ (Some x ≡ Some f) → HasUse s f
    counted_one some (inl h) = h
    counted_one some (inr is) = let same : x ≡ f = cc in subst (λ (y : ℕ). HasUse s y) same (counted_found s x some)

    by_test : (t : Bool) → (page_count s.entries x == 0) ≡ t → HasUse (if t then freed s x else s) f
    by_test true test = freed_use s x (λ is. absurd (no_directory x refl is)) f (freed_one has)
    by_test false test = counted_one (grind (arith, nat_tests)) has

-- ---- the beginning

rising_has : (n first f : ℕ) → first ≤ f → f < first + n → Contains (rising first n) f
unfolding rising
rising_has zero first f low high = absurd (omega (arith, low, high))
rising_has (suc n) first f low high = elim (cases_eq first f) [
  | inl same ↦ contains_head f first (rising (first + 1) n) same
  | inr ne ↦ contains_later f first (rising (first + 1) n) (rising_has n (first + 1) f (omega (arith, low)) (omega (arith, high)))
]

pub first_found : (frames : ℕ) → EachHasUse (first_spaces frames)
unfolding first_spaces
first_found frames f low high =
    in_list (rising_has (frames - reserved_frames frames) (reserved_frames frames) f low (omega (arith, low, high)))
