-- page_map, where a page of one's own space is put at another place of it. A copy is put so in the place of its page, and never refused:
-- the region has its table.
use Rattle.std.proofs.Common.{◌≡◌, ◌∙◌, ◌*◌, ◌/◌, ◌<◌, ◌==◌, ◌&&◌, ℕ, Bool, true, false, not, [], ◌∷◌, Option, Some, None}
use Rattle.std.proofs.Common.{refl, sym, ap, subst, arith, if◌then◌else◌}
use Rattle.std.specs.Prelude.{is_some, bit_and}
use Rattle.std.specs.Option.{option_map}
use Rattle.std.proofs.lemmas.Bool.Decides.{nat_tests}
use Rattle.std.proofs.lemmas.Nat.{and_assoc}
use Rattle.jos_base.specs.declared.called.Called.{Called}
use Rattle.jos_base.specs.declared.called.Called.TheVariants.{Answered}
use Rattle.jos_base.specs.declared.numbers.TheConstants.{NPTENTRIES, PGSIZE, PTE_SYSCALL, SYS_PAGE_MAP}
use Rattle.jos_base.specs.declared.registers.Regs.{Regs}
use Rattle.jos_base.specs.Counting.{page_limit}
use Rattle.jos_base.specs.Environments.{found, is_live}
use Rattle.jos_base.specs.KernelState.{KernelState, slot_at, with_registers, with_spaces}
use Rattle.jos_base.specs.Reach.{Entry}
use Rattle.jos_base.specs.SpacesState.{SpacesState, Region, inserted, mapped, tabled, tabled_by}
use Rattle.jos_base.specs.SystemCalls.{call_of, answered_with, entry_at, inserted_at, shared_entry, is_page_address, is_page_perm, has_write}
use Rattle.jos_base.specs.Words.{page_number}
use Rattle.lib_os.specs.declared.numbers.TheConstants.{PFTEMP}
use Rattle.lib_os.specs.declared.place.HandlerStep.TheVariants as handler
use Rattle.lib_os.specs.declared.place.Place.{Place}
use Rattle.lib_os.specs.declared.place.Place.TheVariants as place
use Rattle.lib_os.specs.AbstractState.{AbstractState}
use Rattle.lib_os.specs.Fence.{is_inside}
use Rattle.lib_os.specs.LibraryPages.{LibraryPages, IsOwnWritable}
use Rattle.lib_os.specs.LibrarySteps.{TakesAtMost, is_to_copy}
use Rattle.lib_os.specs.Places.{place_of}
use Rattle.lib_os.specs.Rows.{Names, rows_of, lasting}
use Rattle.lib_os.specs.StandsFor.{StandsFor}
use Rattle.lib_os.specs.UserCalls.{CallStep, asking, system, giving}
use Rattle.lib_os.proofs.Calls.{system_is, caller_is, made_is, made_step}
use Rattle.lib_os.proofs.CopiesStand.{copy_page, copy_bits, over_way}
use Rattle.lib_os.proofs.EntryWords.{row_entry}
use Rattle.lib_os.proofs.Fences.{inside_below, inside_number}
use Rattle.lib_os.proofs.FreeFrames.{mapped_more}
use Rattle.lib_os.proofs.Handled.{handled_part}

-- page_map(0, from, 0, to, perm), by the entry that is given on
module _ (s : KernelState) (n : ℕ) (live : is_live (slot_at s n) ≡ true) (from to perm : ℕ) (from_address : is_page_address from ≡ true)
    (to_address : is_page_address to ≡ true) where
  pub page_map_is : (e : Entry) → shared_entry (entry_at s n from) perm ≡ Some e →
      system s n SYS_PAGE_MAP (0 ∷ from ∷ 0 ∷ to ∷ perm ∷ []) ≡ made_step s (inserted_at s n to e)
  unfolding call_of found
  page_map_is e is =
      let q : Regs = asking (slot_at s n).registers SYS_PAGE_MAP (0 ∷ from ∷ 0 ∷ to ∷ perm ∷ []) in
      let k : KernelState = with_registers s n q in
      let gives : shared_entry (entry_at k n from) perm ≡ Some e =
      (λ i. shared_entry (s.spaces.entries (caller_is s n q i).directory (page_number from)) perm) ∙ is in
      system_is s n SYS_PAGE_MAP (0 ∷ from ∷ 0 ∷ to ∷ perm ∷ []) (answered_with k n (inserted_at k n to e)) refl
      (rw (from_address, to_address, gives) refl)
      ∙ made_is s n live q (inserted_at k n to e)
      ∙ (λ i. made_step s (inserted s.spaces (caller_is s n q i).directory (page_number to) e))

-- where the region has a table
tabled_already : (s : SpacesState) (d r : ℕ) → is_some (s.regions d r) ≡ true → tabled s d r ≡ Some s
unfolding tabled
tabled_already s d r some = by_region (s.regions d r) some
  where
    by_region : (o : Option Region) → is_some o ≡ true → tabled_by s o d r ≡ Some s
    by_region (Some region) some = refl
    by_region None some = absurd (let contradiction : false ≡ true = some in cc)

pub inserted_already : (s : SpacesState) (d p : ℕ) (e : Entry) → is_some (s.regions d (p / NPTENTRIES)) ≡ true →
    inserted s d p e ≡ Some (mapped s d p e)
unfolding inserted
inserted_already s d p e some = ap (option_map (λ t. mapped t d p e)) (tabled_already s d (p / NPTENTRIES) some)

-- W is among the bits that last
pub lasting_write : (perm : ℕ) → has_write perm ≡ has_write (bit_and perm PTE_SYSCALL)
lasting_write perm =
    let same : bit_and (bit_and perm PTE_SYSCALL) 2 ≡ bit_and perm 2 = and_assoc 2 perm PTE_SYSCALL in
    ap (λ (w : ℕ). w == 2) (sym same)

-- a page that may be written is given on with the bits of a copy
pub given_on : (e : Entry) (perm : ℕ) → is_page_perm perm ≡ true → has_write e.perm ≡ true →
    shared_entry (Some e) perm ≡ Some (record { frame = e.frame; perm = perm })
given_on e perm permitted writes = rw (permitted, writes) (by_test (has_write perm))
  where
    given : Entry
    given = record { frame = e.frame; perm = perm }

    by_test : (c : Bool) → (if c && not true then None else Some given) ≡ Some given
    by_test true = refl
    by_test false = refl

-- ---- the copy

-- The call that puts the copy in the place of its page, which waited to be copied: what stands where the copy was made, and the spaces
-- after it.
pub record PutsOver (s : KernelState) (n va : ℕ) (asked : CallStep Called) : Type 0 where
  pub copy : Entry
  pub stands : rows_of s.spaces (slot_at s n).directory copy_page ≡ Some copy
  pub entry : Entry
  pub there : s.spaces.entries (slot_at s n).directory copy_page ≡ Some entry
  pub frame : entry.frame ≡ copy.frame
  pub spaces : SpacesState
  pub is : inserted s.spaces (slot_at s n).directory (page_number va) (record { frame = copy.frame; perm = copy_bits }) ≡ Some spaces
  pub takes : TakesAtMost 0 s.spaces spaces
  pub step : asked ≡ giving (with_spaces s spaces) (Answered 0)
  pub waited : is_to_copy (rows_of s.spaces (slot_at s n).directory (page_number va)) ≡ true
  pub below : page_number va < page_limit

page_begins : (va : ℕ) → is_inside va ≡ true → (is_page_address (va / PGSIZE * PGSIZE) ≡ true) × (page_number (va / PGSIZE * PGSIZE) ≡ page_number va)
page_begins va inside = let below = inside_below va inside in (grind (arith, nat_tests), omega arith)

module _ {names : Names} {s : KernelState} {a : AbstractState} (h : StandsFor names s a) (n va : ℕ) (live : is_live (slot_at s n) ≡ true)
    (stands : place_of (slot_at s n) ≡ place.InHandler (handler.MappingOver va)) where
  abbrev d : ℕ
  d = (slot_at s n).directory

  abbrev start : ℕ
  start = va / PGSIZE * PGSIZE

  pub puts_over : PutsOver s n va (system s n SYS_PAGE_MAP (0 ∷ PFTEMP ∷ 0 ∷ start ∷ copy_bits ∷ []))
  puts_over =
      let v = handled_part h n (handler.MappingOver va) stands in
      let way = over_way v in
      let library : LibraryPages (place.InHandler (handler.MappingOver va)) (slot_at s n).extra (rows_of s.spaces d) =
      subst (λ (q : Place). LibraryPages q (slot_at s n).extra (rows_of s.spaces d)) stands v.own.library in
      let it : IsOwnWritable (rows_of s.spaces d) copy_page = library.copy refl in
      let raw = row_entry s.spaces d copy_page it.entry it.stands in
      let writes : has_write raw.0.perm ≡ true =
      lasting_write raw.0.perm ∙ ap (λ (e : Entry). has_write e.perm) raw.2 ∙ it.writes in
      let inside : is_inside va ≡ true = ap (λ (q : ℕ). is_inside q) way.at.0 ∙ way.inside in
      let begins = page_begins va inside in
      let over : Entry = record { frame = raw.0.frame; perm = copy_bits } in
      let page_is : rows_of s.spaces d (page_number va) ≡ Some way.at.1.entry =
      ap (λ (q : ℕ). rows_of s.spaces d (page_number q)) way.at.0 ∙ way.at.1.stands in
      let page = row_entry s.spaces d (page_number va) way.at.1.entry page_is in
      let is : inserted s.spaces d (page_number va) over ≡ Some (mapped s.spaces d (page_number va) over) =
      inserted_already s.spaces d (page_number va) over (h.in_order.frames.regions d (page_number va) page.0 page.1) in
      record {
        copy = lasting raw.0;
        stands = it.stands ∙ ap (λ (e : Entry). Some e) (sym raw.2);
        entry = raw.0;
        there = raw.1;
        frame = refl;
        spaces = mapped s.spaces d (page_number va) over;
        is = is;
        takes = mapped_more s.spaces d (page_number va) over;
        step = page_map_is s n live PFTEMP start copy_bits refl begins.0 over
            (ap (λ (o : Option Entry). shared_entry o copy_bits) raw.1 ∙ given_on raw.0 copy_bits refl writes)
            ∙ ap (λ (q : ℕ). made_step s (inserted s.spaces d q over)) begins.1
            ∙ ap (made_step s) is;
        waited = ap is_to_copy page_is ∙ way.at.1.copied;
        below = inside_number va inside;
      }
