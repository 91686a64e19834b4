-- A and D bits, over the lists.
use Rattle.std.proofs.Common.{◌≡◌, ◌∙◌, ◌+◌, ◌/◌, ◌%◌, ◌<◌, ◌≤◌, ◌==◌, ℕ, Bool, true, false, cond, List, [], length}
use Rattle.std.proofs.Common.{get_or, Option, Some, None, Ok, Err, refl, sym, ap, subst, arith, length-set}
use Rattle.std.specs.Prelude.{slice_set, nat_lt, bit_or, is_some}
use Rattle.std.specs.Option.{option_map}
use Rattle.std.proofs.lemmas.Bool.Decides.{nat_tests}
use Rattle.std.specs.Int.Bits.{or_zero_r}
use Rattle.std.proofs.lemmas.Nat.{or_lt, or_shr, or_mod, le_or_r}
use Rattle.std.proofs.lemmas.List.{set-get_or}
use Rattle.jos_base.specs.Reach.{Entry, FrameOffset, reach_entry}
use Rattle.jos_base.specs.declared.memory.Access.{Access}
use Rattle.jos_base.specs.declared.memory.PageFault.{PageFault}
use Rattle.jos_space.specs.declared.role.Role.{Role}
use Rattle.jos_space.specs.declared.role.Role.TheVariants.{Reserved, Page, Directory, Table}
use Rattle.jos_base.specs.Counting.{named}
use Rattle.jos_base.specs.SpacesState.{Region, SpacesState, put, page, region_limit}
use Rattle.jos_base.specs.UserMemory.{entry_marked, region_accessed, with_entry_bits, with_region_bit, with_bits}
use Rattle.jos_base.specs.UserMemory.{with_window_bits}
use Rattle.jos_base.specs.Windows.{table_index}
use Rattle.jos_base.specs.UserMemory.{reach_in, touched, touched_by}
use Rattle.jos_space.specs.Frames.{Held, IsSound, Lists, AreSound, held_in, state, regions_of, entries_of, entry_in}
use Rattle.jos_space.specs.Frames.{entry_of, is_directory, is_accessed, region_of, use_of, state_of, may_map}
use Rattle.jos_space.proofs.Lookups.{region_facts}
use Rattle.jos_space.proofs.Roles.{below_frames, is_reserved}
use Rattle.jos_space.proofs.Tables.{with_region, region_sound, region_state, region_at, knows_one}
use Rattle.jos_space.proofs.TableLists.{regions_state}
use Rattle.jos_space.proofs.MapsPage.{region_is, entry_present}
use Rattle.jos_space.proofs.OverLists.{word-set, mapped_lists_sound, mapped_lists_state}
use Rattle.jos_base.proofs.Maps.{upd-stays}
use Rattle.jos_base.proofs.Puts.{put-at, put-stays}
use Rattle.jos_base.proofs.Options.{some_is}

-- bits set in a word's low twelve
or_zero : (a : ℕ) → bit_or a 0 ≡ a
or_zero a = or_zero_r a

module _ (w bits : ℕ) (even : bits % 2 ≡ 0) (small : bits < 4096) where
  or_present : bit_or w bits % 2 ≡ w % 2
  or_present = let law = or_mod w bits 1 in let none = ap (bit_or (w % 2)) even in let same = or_zero (w % 2) in omega (arith, law, none, same)

  or_frame : bit_or w bits / 4096 ≡ w / 4096
  or_frame =
      let law = or_shr w bits 12 in
      let none : bits / 4096 ≡ 0 = omega arith in
      let at = ap (bit_or (w / 4096)) none in
      let same = or_zero (w / 4096) in
      omega (arith, law, at, same)

  or_low : bit_or w bits % 4096 ≡ bit_or (w % 4096) bits
  or_low =
      let law = or_mod w bits 12 in
      let all : bits % 4096 ≡ bits = omega arith in
      let at = ap (bit_or (w % 4096)) all in
      omega (arith, law, at)

  pub entry_or : w % 2 ≡ 1 → entry_of (bit_or w bits) ≡ entry_marked bits (entry_of w)
  entry_or present =
      entry_present (bit_or w bits) (or_present ∙ present) ∙ (λ i. Some (record { frame = or_frame i; perm = or_low i })) ∙ sym (ap (entry_marked bits) (entry_present w present))

set_stays : {X : Type 0} (xs : List X) (k : ℕ) (v d : X) → get_or xs k d ≡ v → k < length xs → slice_set xs k v ≡ xs
set_stays xs k v d is below = ap (slice_set xs k) (sym is) ∙ set-get_or xs k d

-- ---- a page's entry

module _ (l : Lists) (ok : AreSound l) (d p t bits : ℕ) (here : option_map (λ (r : Region). r.table) ((state l).regions d (p / 1024)) ≡ Some t)
    (even : bits % 2 ≡ 0) (small : bits < 4096) (o : ℕ) (o_is : o ≡ get_or (get_or l.words t []) (p % 1024) 0) (stood : o % 2 ≡ 1) where
  region_of_held : regions_of (held_in l) d (p / 1024) ≡ (state l).regions d (p / 1024)
  unfolding state_of
  region_of_held = refl

  found : (region : Region) × ((state l).regions d (p / 1024) ≡ Some region) × (region.table ≡ t)
  found = region_is ((state l).regions d (p / 1024)) t here

  is : regions_of (held_in l) d (p / 1024) ≡ Some (record found.0 { table = t })
  is = region_of_held ∙ found.1 ∙ (λ i. Some (record found.0 { table = found.2 i }))

  old_is : entries_of (held_in l) d p ≡ entry_of o
  unfolding entries_of
  old_is = ap (λ z. entry_in (held_in l) z (p % 1024)) is ∙ ap entry_of (sym o_is)

  pub entry_found : (state l).entries d p ≡ Some (record { frame = o / 4096; perm = o % 4096 })
  unfolding state_of
  entry_found = old_is ∙ entry_present o stood

  held_entry : entries_of (held_in l) d p ≡ Some (record { frame = o / 4096; perm = o % 4096 })
  held_entry = old_is ∙ entry_present o stood

  is_page : get_or l.roles (o / 4096) Reserved ≡ Page
  is_page = ok.sound.pages d p _ held_entry

  page_below : o / 4096 < length l.roles
  page_below = below_frames (length l.roles) (held_in l) (o / 4096) ok.sound (ap is_reserved is_page)

  abbrev marked : Entry
  marked = record { frame = o / 4096; perm = bit_or (o % 4096) bits }

  word_marked : entry_of (bit_or o bits) ≡ Some marked
  word_marked = entry_or o bits even small stood ∙ ap (entry_marked bits) (entry_present o stood)

  law : (f : ℕ) → get_or l.counts f 0 + named f (entries_of (held_in l) d p) ≡ get_or l.counts f 0 + named f (Some marked)
  law f = ap (λ z. get_or l.counts f 0 + named f z) held_entry

  module _ (row : length (get_or l.words t []) ≡ 1024) where
    abbrev pub marked_lists : Lists
    marked_lists = record l { words = slice_set l.words t (slice_set (get_or l.words t []) (p % 1024) (bit_or o bits)) }

    roles_stay : slice_set l.roles (o / 4096) Page ≡ l.roles
    roles_stay = set_stays l.roles (o / 4096) Page Reserved is_page page_below

    pub marked_lists_sound : AreSound marked_lists
    marked_lists_sound = subst (λ (rs : List Role). AreSound (record l { words = slice_set l.words t (slice_set (get_or l.words t []) (p % 1024) (bit_or o bits)); roles = rs })) roles_stay
        (mapped_lists_sound l ok d p (record found.0 { table = t }) is (bit_or o bits) marked word_marked (ap may_map is_page) l.counts refl law row)

    pub marked_state : state marked_lists ≡ record (state l) { entries = put (state l).entries d p (entry_marked bits ((state l).entries d p)) }
    unfolding state_of
    marked_state =
        ap (λ (rs : List Role). state (record l { words = slice_set l.words t (slice_set (get_or l.words t []) (p % 1024) (bit_or o bits)); roles = rs })) (sym roles_stay)
        ∙ mapped_lists_state l ok d p (record found.0 { table = t }) is (bit_or o bits) marked word_marked (ap may_map is_page) l.counts refl law row
        ∙ (λ i. record (state l) { uses = λ f. upd-stays (state l).uses (o / 4096) page (sym (ap use_of is_page)) f i; entries = put (state l).entries d p (ap (entry_marked bits) (sym entry_found) i) })

-- ---- a region's A bit

accessed_or : (w : ℕ) → is_accessed (bit_or w 32) ≡ true
accessed_or w =
    let shifted = or_shr w 32 5 in
    let low = or_mod (w / 32) 1 1 in
    let some = le_or_r (w / 32 % 2) 1 in
    let small = or_lt 1 (w / 32 % 2) 1 (omega arith) (omega arith) in
    let odd : bit_or w 32 / 32 % 2 ≡ 1 = omega (arith, shifted, low, some, small) in
    grind (arith, nat_tests)

region_or : (w : ℕ) → w % 2 ≡ 1 → region_of (bit_or w 32) ≡ Some (record { table = w / 4096; accessed = true })
region_or w present =
    let odd = or_present w 32 refl (omega arith) ∙ present in
    let p : (bit_or w 32 % 2 == 1) ≡ true = grind (arith, nat_tests) in
    ap (λ b. cond b (Some (record { table = bit_or w 32 / 4096; accessed = is_accessed (bit_or w 32) })) None) p
    ∙ (λ i. Some (record { table = or_frame w 32 refl (omega arith) i; accessed = accessed_or w i }))

region_word : (o : ℕ) (region : Region) → region_of o ≡ Some region → (o % 2 ≡ 1) × (region.table ≡ o / 4096)
region_word o region e = by_test (o % 2 == 1) refl e
  where
    by_test : (b : Bool) → (o % 2 == 1) ≡ b → cond b (Some (record { table = o / 4096; accessed = is_accessed o })) None ≡ Some region → (o % 2 ≡ 1) × (region.table ≡ o / 4096)
    by_test true p e =
        let is : ◌≡◌ {A = Region} (record { table = o / 4096; accessed = is_accessed o }) region = cc in
        (grind (arith, nat_tests), ap (λ (r : Region). r.table) (sym is))
    by_test false p e = absurd cc

module _ (l : Lists) (ok : AreSound l) (d r : ℕ) (region : Region) (here : (state l).regions d r ≡ Some region) (o : ℕ) (o_is : o ≡ get_or (get_or l.words d []) r 0) where
  region_in_held : regions_of (held_in l) d r ≡ Some region
  region_in_held = in_held ∙ here
    where
      in_held : regions_of (held_in l) d r ≡ (state l).regions d r
      in_held = sym (regions_state (held_in l) d r)

  facts : (get_or l.roles d Reserved ≡ Directory) × (r < region_limit)
  facts = region_facts (held_in l) d r region region_in_held

  word_facts : (o % 2 ≡ 1) × (region.table ≡ o / 4096)
  word_facts = region_word o region (ap region_of o_is ∙ sym (region_at (held_in l) d r facts.0 facts.1) ∙ region_in_held)

  abbrev set : Region
  set = record region { accessed = true }

  word_is : region_of (bit_or o 32) ≡ Some set
  word_is = region_or o word_facts.0 ∙ (λ i. Some (record { table = sym word_facts.1 i; accessed = true }))

  knows : get_or l.roles region.table Reserved ≡ Table d r
  knows = ok.sound.tables d r region region_in_held

  entries_kept : (i : ℕ) → entry_of ((held_in l).word region.table i) ≡ entry_in (held_in l) (regions_of (held_in l) d r) i
  entries_kept i = sym (ap (λ z. entry_in (held_in l) z i) region_in_held)

  abbrev set_held : Held
  set_held = with_region (length l.roles) (held_in l) ok.sound d r facts.0 facts.1 (bit_or o 32) (Some set) word_is

  pub directory_below : d < length l.words
  directory_below = let below = below_frames (length l.roles) (held_in l) d ok.sound (ap is_reserved facts.0) in let len = ok.words in omega (arith, below, len)

  module _ (row : length (get_or l.words d []) ≡ 1024) where
    abbrev pub region_lists : Lists
    region_lists = record l { words = slice_set l.words d (slice_set (get_or l.words d []) r (bit_or o 32)) }

    set_is : held_in region_lists ≡ set_held
    set_is = λ i. record (held_in l) { word = λ f j. word-set l.words d r (bit_or o 32) directory_below (let b = facts.1 in omega (arith, row, b)) f j i }

    pub region_lists_sound : AreSound region_lists
    region_lists_sound = record {
      words = length-set l.words d (slice_set (get_or l.words d []) r (bit_or o 32)) ∙ ok.words;
      bytes = ok.bytes;
      counts = ok.counts;
      order = ok.order;
      records = ok.records;
      sound = subst (λ (c : Held). IsSound (length l.roles) c) (sym set_is) (region_sound (length l.roles) (held_in l) ok.sound d r facts.0 facts.1 (bit_or o 32) (Some set) word_is (knows_one (held_in l) d r set knows) (λ i below. entries_kept i));
    }

    pub region_lists_state : state region_lists ≡ record (state l) { regions = put (state l).regions d r (region_accessed ((state l).regions d r)) }
    unfolding state_of
    region_lists_state =
        ap state_of set_is ∙ region_state (length l.roles) (held_in l) ok.sound d r facts.0 facts.1 (bit_or o 32) (Some set) word_is (knows_one (held_in l) d r set knows) (λ i below. entries_kept i)
        ∙ (λ i. record (state l) { regions = put (state l).regions d r (ap region_accessed (sym here) i) })

-- ---- what an entry is, by the word that was read

pub entries_at : (l : Lists) (d p t : ℕ) → option_map (λ (r : Region). r.table) ((state l).regions d (p / 1024)) ≡ Some t → (state l).entries d p ≡ entry_of (get_or (get_or l.words t []) (p % 1024) 0)
unfolding state_of entries_of
entries_at l d p t here = by_region (regions_of (held_in l) d (p / 1024)) here
  where
    by_region : (o : Option Region) → option_map (λ (r : Region). r.table) o ≡ Some t → entry_in (held_in l) o (p % 1024) ≡ entry_of (get_or (get_or l.words t []) (p % 1024) 0)
    by_region None e = absurd cc
    by_region (Some region) e = let same : region.table ≡ t = cc in ap (λ z. entry_of (get_or (get_or l.words z []) (p % 1024) 0)) same

pub entries_none : (l : Lists) (d p : ℕ) → (state l).regions d (p / 1024) ≡ None → (state l).entries d p ≡ None
unfolding state_of entries_of
entries_none l d p e = ap (λ o. entry_in (held_in l) o (p % 1024)) e

pub regions_past : (l : Lists) (d r : ℕ) → region_limit ≤ r → (state l).regions d r ≡ None
unfolding state_of regions_of
regions_past l d r past = let no : nat_lt r region_limit ≡ false = grind (arith, nat_tests) in rw no (by_directory (is_directory (get_or l.roles d Reserved)))
  where
    by_directory : (b : Bool) → ◌≡◌ {A = Option Region} (cond b None None) None
    by_directory true = refl
    by_directory false = refl

stood_if : (o : ℕ) → is_some (entry_of o) ≡ true → o % 2 ≡ 1
stood_if o e = by_test (o % 2 == 1) refl e
  where
    by_test : (b : Bool) → (o % 2 == 1) ≡ b → is_some {T = Entry} (cond b (Some (record { frame = o / 4096; perm = o % 4096 })) None) ≡ true → o % 2 ≡ 1
    by_test true p e = grind (arith, nat_tests)
    by_test false p e = absurd cc

-- what `mark_entry` does
pub record Marks (l : Lists) (d p t o bits : ℕ) (words : List (List ℕ)) : Type 0 where
  pub sound : AreSound (record l { words = words })
  pub state_is : state (record l { words = words }) ≡ with_entry_bits (state l) d p bits

pub marks : (l : Lists) → AreSound l → (d p t bits : ℕ) → option_map (λ (r : Region). r.table) ((state l).regions d (p / 1024)) ≡ Some t → is_some ((state l).entries d p) ≡ true
    → bits % 2 ≡ 0 → bits < 4096 → (o : ℕ) → o ≡ get_or (get_or l.words t []) (p % 1024) 0 → length (get_or l.words t []) ≡ 1024
    → (words : List (List ℕ)) → words ≡ slice_set l.words t (slice_set (get_or l.words t []) (p % 1024) (bit_or o bits)) → Marks l d p t o bits words
marks l ok d p t bits here some even small o o_is row words words_is =
    let stood = stood_if o (ap is_some (ap entry_of o_is ∙ sym (entries_at l d p t here)) ∙ some) in
    subst (λ (ws : List (List ℕ)). Marks l d p t o bits ws) (sym words_is) (record {
      sound = marked_lists_sound l ok d p t bits here even small o o_is stood row;
      state_is = marked_state l ok d p t bits here even small o o_is stood row;
    })

pub marks_table : (l : Lists) → AreSound l → (d p t : ℕ) → option_map (λ (r : Region). r.table) ((state l).regions d (p / 1024)) ≡ Some t → t < length l.words
marks_table l ok d p t here =
    let found = region_is ((state l).regions d (p / 1024)) t here in
    let is = sound_table l ok d (p / 1024) found.0 found.1 in
    let below = below_frames (length l.roles) (held_in l) found.0.table ok.sound (ap is_reserved is) in
    let len = ok.words in
    let same = found.2 in
    omega (arith, below, len, same)
  where
    sound_table : (l : Lists) → AreSound l → (d r : ℕ) (region : Region) → (state l).regions d r ≡ Some region → get_or l.roles region.table Reserved ≡ Table d r
    sound_table l ok d r region e = ok.sound.tables d r region (sym (regions_state (held_in l) d r) ∙ e)

-- what `mark_region` does
pub record MarksRegion (l : Lists) (d r o : ℕ) (words : List (List ℕ)) : Type 0 where
  pub sound : AreSound (record l { words = words })
  pub state_is : state (record l { words = words }) ≡ with_region_bit (state l) d r

pub marks_region : (l : Lists) → AreSound l → (d r : ℕ) → is_some ((state l).regions d r) ≡ true → (o : ℕ) → o ≡ get_or (get_or l.words d []) r 0 → length (get_or l.words d []) ≡ 1024
    → (words : List (List ℕ)) → words ≡ slice_set l.words d (slice_set (get_or l.words d []) r (bit_or o 32)) → MarksRegion l d r o words
marks_region l ok d r some o o_is row words words_is =
    let found = some_is ((state l).regions d r) some in
    subst (λ (ws : List (List ℕ)). MarksRegion l d r o ws) (sym words_is) (record {
      sound = region_lists_sound l ok d r found.0 found.1 o o_is row;
      state_is = region_lists_state l ok d r found.0 found.1 o o_is row;
    })

pub region_bounds : (l : Lists) → AreSound l → (d r : ℕ) → is_some ((state l).regions d r) ≡ true → (d < length l.words) × (r < 1024)
region_bounds l ok d r some =
    let found = some_is ((state l).regions d r) some in
    let f = region_facts (held_in l) d r found.0 (sym (regions_state (held_in l) d r) ∙ found.1) in
    let limit = f.1 in
    let below = below_frames (length l.roles) (held_in l) d ok.sound (ap is_reserved f.0) in
    let len = ok.words in
    (omega (arith, below, len), omega (arith, limit))

-- ---- an access

pub touched_fault : (s : SpacesState) (d va : ℕ) (access : Access) (fault : PageFault) → reach_in s d va access ≡ Err fault → s ≡ touched s d va access
unfolding touched
touched_fault s d va access fault e = sym (ap (touched_by s d va access) e)

pub touched_ok : (s : SpacesState) (d va : ℕ) (access : Access) (place : FrameOffset) → reach_in s d va access ≡ Ok place → with_bits s d (va / 4096) access ≡ touched s d va access
unfolding touched
touched_ok s d va access place e = sym (ap (touched_by s d va access) e)

pub marked_table : (s : SpacesState) (d r t : ℕ) → option_map (λ (r : Region). r.table) (s.regions d r) ≡ Some t → option_map (λ (r : Region). r.table) ((with_region_bit s d r).regions d r) ≡ Some t
marked_table s d r t e = ap (option_map (λ (r : Region). r.table)) (put-at s.regions d r (region_accessed (s.regions d r))) ∙ same (s.regions d r) ∙ e
  where
    same : (o : Option Region) → option_map (λ (r : Region). r.table) (region_accessed o) ≡ option_map (λ (r : Region). r.table) o
    same None = refl
    same (Some region) = refl

pub reached_some : (o : Option Entry) (va : ℕ) (access : Access) (place : FrameOffset) → reach_entry o va access ≡ Ok place → is_some o ≡ true
reached_some None va access place e = absurd cc
reached_some (Some entry) va access place e = refl

pub not_some : {X : Type 0} (o : Option X) → is_some o ≡ false → None ≡ o
not_some None e = refl
not_some (Some x) e = absurd cc

-- what has no table has no bit to set
pub nothing_marked : (s : SpacesState) (d r : ℕ) → s.regions d r ≡ None → s ≡ with_region_bit s d r
nothing_marked s d r none = λ i. record s { regions = λ x y. sym (put-stays s.regions d r (region_accessed (s.regions d r)) (ap region_accessed none ∙ sym none) x y) i }

pub window_marked : (s : SpacesState) (d n : ℕ) → n / 1024 ≡ table_index → with_region_bit s d (n % 1024) ≡ with_window_bits s d n
window_marked s d n at = let test : (n / 1024 == table_index) ≡ true = grind (arith, nat_tests) in rw test refl

-- ---- what region a word is

pub region_there : (w : ℕ) → w % 2 ≡ 1 → region_of w ≡ Some (record { table = w / 4096; accessed = is_accessed w })
region_there w present = let there : (w % 2 == 1) ≡ true = grind (arith, nat_tests) in rw there refl

pub region_away : (w : ℕ) → (w % 2 ≡ 1 → ⊥) → region_of w ≡ None
region_away w absent = let away : (w % 2 == 1) ≡ false = grind (arith, nat_tests) in rw away refl
