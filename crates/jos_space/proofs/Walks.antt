-- A walk through a directory and a table finds the frame that the definitions say.
use Rattle.std.proofs.Common.{◌≡◌, ◌≢◌, ◌∙◌, ◌/◌, ◌%◌, ◌<◌, ◌≤◌, ◌==◌, ℕ, Bool, true, false, cond, [], length, get_or}
use Rattle.std.proofs.Common.{Option, Some, None, refl, sym, ap, arith}
use Rattle.std.specs.Prelude.{bit_and, is_some}
use Rattle.std.specs.Option.{option_map}
use Rattle.std.proofs.lemmas.Bool.Decides.{nat_tests}
use Rattle.jos_base.specs.SpacesState.{Region, SpacesState, region_limit}
use Rattle.jos_base.specs.Counting.{page_limit}
use Rattle.jos_space.proofs.TableLists.{regions_state}
use Rattle.jos_space.specs.declared.role.Role.TheVariants.{Reserved, Directory, Page}
use Rattle.jos_space.specs.Frames.{Lists, AreSound, held_in, state, state_of, may_map, region_of, entry_of}
use Rattle.jos_space.specs.AtHand.{frame_with, frame_by, frame_by_entry}
use Rattle.jos_space.proofs.EntryBits.{marks_of, low_bits, bits_present}
use Rattle.jos_space.proofs.Marking.{entries_at, regions_past, marks_table}
use Rattle.jos_space.proofs.AtHand.{is_found}
use Rattle.jos_space.proofs.Lookups.{entry_region, region_facts}
use Rattle.jos_space.proofs.OverLists.{table_is}
use Rattle.jos_base.proofs.Options.{some_is}

by_region : (s : SpacesState) (d n bits : ℕ) (o : Option Region) → s.regions d (n / 1024) ≡ o → frame_with s d n bits ≡ frame_by bits o (s.entries d n)
unfolding frame_with
by_region s d n bits o is = ap (λ (r : Option Region). frame_by bits r (s.entries d n)) is

pub walk_past : (l : Lists) (d n bits : ℕ) → region_limit ≤ n / 1024 → None ≡ frame_with (state l) d n bits
walk_past l d n bits past = sym (by_region (state l) d n bits None (regions_past l d (n / 1024) past))

-- the region's word is read
module _ (l : Lists) (d n : ℕ) (dir : get_or l.roles d Reserved ≡ Directory) (o : ℕ) (below : n / 1024 < region_limit) (o_is : o ≡ get_or (get_or l.words d []) (n / 1024) 0) where
  region_read : (state l).regions d (n / 1024) ≡ region_of o
  region_read = table_is l d (n / 1024) dir below ∙ ap region_of (sym o_is)

  pub walk_unmarked : (bits : ℕ) → (bit_and o 33 ≡ 33 → ⊥) → None ≡ frame_with (state l) d n bits
  walk_unmarked bits lacks = sym (by_region (state l) d n bits (region_of o) region_read ∙ by_bits (o % 2 == 1) (o / 32 % 2 == 1) refl refl)
    where
      by_bits : (p a : Bool) → (o % 2 == 1) ≡ p → (o / 32 % 2 == 1) ≡ a
          → frame_by bits (cond p (Some (record { table = o / 4096; accessed = a })) None) ((state l).entries d n) ≡ None
      by_bits false a p_is a_is = refl
      by_bits true false p_is a_is = refl
      by_bits true true p_is a_is =
          absurd (lacks (let both = marks_of o in let p : o % 2 ≡ 1 = grind (arith, nat_tests) in let a : o / 32 % 2 ≡ 1 = grind (arith, nat_tests) in omega (arith, both, p, a)))

  module _ (marked : bit_and o 33 ≡ 33) where
    region_found : (state l).regions d (n / 1024) ≡ Some (record { table = o / 4096; accessed = true })
    region_found =
        let both = marks_of o in
        let p : (o % 2 == 1) ≡ true = (let p : o % 2 ≡ 1 = omega (arith, both, marked) in grind (arith, nat_tests)) in
        let a : (o / 32 % 2 == 1) ≡ true = (let a : o / 32 % 2 ≡ 1 = omega (arith, both, marked) in grind (arith, nat_tests)) in
        region_read ∙ (λ i. cond (p i) (Some (record { table = o / 4096; accessed = a i })) None)

    table_there : option_map (λ (r : Region). r.table) ((state l).regions d (n / 1024)) ≡ Some (o / 4096)
    table_there = ap (option_map (λ (r : Region). r.table)) region_found

    pub walk_table : AreSound l → o / 4096 < length l.words
    walk_table ok = marks_table l ok d n (o / 4096) table_there

    -- the page's word is read
    module _ (bits : ℕ) (present : bits % 2 ≡ 1) (small : bits < 4096) (w : ℕ) (w_is : w ≡ get_or (get_or l.words (o / 4096) []) (n % 1024) 0) where
      found_by : frame_with (state l) d n bits ≡ frame_by_entry bits (entry_of w)
      found_by =
          by_region (state l) d n bits (Some (record { table = o / 4096; accessed = true })) region_found
          ∙ ap (frame_by_entry bits) (entries_at l d n (o / 4096) table_there ∙ ap entry_of (sym w_is))

      pub walk_lacking : (bit_and w bits ≡ bits → ⊥) → None ≡ frame_with (state l) d n bits
      walk_lacking lacks = sym (found_by ∙ by_bits (w % 2 == 1) refl)
        where
          by_bits : (p : Bool) → (w % 2 == 1) ≡ p → frame_by_entry bits (cond p (Some (record { frame = w / 4096; perm = w % 4096 })) None) ≡ None
          by_bits false p_is = refl
          by_bits true p_is =
              let low = low_bits w bits present small in
              let no : (bit_and (w % 4096) bits == bits) ≡ false = (let no : bit_and (w % 4096) bits ≢ bits = (λ e. lacks (sym low ∙ e)) in grind (arith, nat_tests)) in
              ap (λ (b : Bool). cond b (Some (w / 4096)) None) no

      pub walk_found : bit_and w bits ≡ bits → Some (w / 4096) ≡ frame_with (state l) d n bits
      walk_found stand =
          let low = low_bits w bits present small in
          let is = bits_present w bits present small stand in
          let p : (w % 2 == 1) ≡ true = grind (arith, nat_tests) in
          let yes : (bit_and (w % 4096) bits == bits) ≡ true = (let yes : bit_and (w % 4096) bits ≡ bits = low ∙ stand in grind (arith, nat_tests)) in
          sym (found_by ∙ ap (λ (b : Bool). frame_by_entry bits (cond b (Some (record { frame = w / 4096; perm = w % 4096 })) None)) p
          ∙ ap (λ (b : Bool). cond b (Some (w / 4096)) None) yes)

-- a frame that was found is a page
pub found_page : (l : Lists) → AreSound l → (d n bits frame : ℕ) → frame_with (state l) d n bits ≡ Some frame → get_or l.roles frame Reserved ≡ Page
unfolding state_of
found_page l ok d n bits frame found =
    let is = is_found (state l) d n bits frame found in
    ok.sound.pages d n (record { frame = frame; perm = is.perm }) is.entry_is

pub found_holds : (l : Lists) → AreSound l → (d n bits frame : ℕ) → frame_with (state l) d n bits ≡ Some frame → may_map (get_or l.roles frame Reserved) ≡ true
found_holds l ok d n bits frame found = ap may_map (found_page l ok d n bits frame found)

pub found_below : (l : Lists) (d n bits frame : ℕ) → frame_with (state l) d n bits ≡ Some frame → n < page_limit
unfolding page_limit
found_below l d n bits frame found =
    let is = is_found (state l) d n bits frame found in
    let facts = region_facts (held_in l) d (n / 1024) is.region (sym (regions_state (held_in l) d (n / 1024)) ∙ is.region_is) in
    let below : n / 1024 < region_limit = facts.1 in
    omega (arith, below)

-- where a page is there is a table
pub entry_place : (l : Lists) (d n : ℕ) → is_some ((state l).entries d n) ≡ true → (n / 1024 < region_limit) × (is_some ((state l).regions d (n / 1024)) ≡ true)
unfolding state_of
entry_place l d n some =
    let entry = some_is ((state l).entries d n) some in
    let region = entry_region (held_in l) d n entry.0 entry.1 in
    (((region_facts (held_in l) d (n / 1024) region.0 region.1).1), ap is_some region.1)
