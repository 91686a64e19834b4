-- A byte that a program may touch is to the kernel what it is to the abstract system, if it is read: it may be reached as its
-- page allows, else the fault is the page's, and the byte is that of the page. So are the bytes of a buffer. A write that the
-- page refuses is refused with its fault, and one that the kernel alone refuses is that of a page which waits to be copied.
use Rattle.std.proofs.Common.{◌≡◌, ◌∙◌, ◌+◌, ◌*◌, ◌/◌, ◌%◌, ◌^◌, ◌<◌, ◌≤◌, ◌||◌, ℕ, zero, suc, Bool, true, false, List}
use Rattle.std.proofs.Common.{refl, sym, ap, subst, arith, if◌then◌else◌}
use Rattle.std.proofs.lemmas.Bool.Decides.{nat_tests}
use Rattle.std.proofs.lemmas.Option.{same_Some}
use Rattle.std.proofs.lemmas.Nat.{and_mod, and_mask, and_assoc, and_shr}
use Rattle.std.specs.Prelude.{bit_and, is_ok, is_some, nat_lt, Option, Some, None, Result, Ok, Err, slice_index}
use Rattle.std.specs.Option.{option_map}
use Rattle.jos_base.specs.declared.memory.Access.{Access}
use Rattle.jos_base.specs.declared.memory.Access.TheVariants.{Read, Write}
use Rattle.jos_base.specs.declared.memory.PageFault.{PageFault}
use Rattle.jos_base.specs.declared.numbers.TheConstants.{FEC_PR, FEC_U, FEC_WR, PTE_SYSCALL}
use Rattle.jos_base.specs.Counting.{page_limit}
use Rattle.jos_base.specs.Environments.{Slot, records_of}
use Rattle.jos_base.specs.KernelState.{KernelState, slot_at}
use Rattle.jos_base.specs.Reach.{Entry, allows, reach_entry, bytes_read}
use Rattle.jos_base.specs.SpacesState.{SpacesState}
use Rattle.jos_base.specs.SystemCalls.{has_write, is_page_perm, user_bytes}
use Rattle.jos_base.specs.UserMemory.{reach_in, is_allowed, fault_at, fault_or, byte_at, byte_of, byte_or_zero, read_byte}
use Rattle.jos_base.specs.UserMemory.{byte_or_fault as kernel_byte_or_fault}
use Rattle.jos_base.specs.Windows.{walked}
use Rattle.jos_base.specs.Words.{page_number, page_offset}
use Rattle.lib_os.specs.AbstractState.{AbstractState, Born, Page, own, named, AbstractSlot, born}
use Rattle.lib_os.specs.AbstractMemory.{page_at, page_allows, page_fault, is_writable, bytes_of_page, byte_in}
use Rattle.lib_os.specs.AbstractMemory.{byte_at as abstract_byte_at}
use Rattle.lib_os.specs.DescriptorPages.{Things}
use Rattle.lib_os.specs.Fence.{is_inside, is_buffer}
use Rattle.lib_os.specs.MemoryServices.{byte_or_fault}
use Rattle.lib_os.specs.Rows.{EntryRow, Names, lasting, rows_of, is_shared, is_cow, may_write, page_by, page_seen, seen_where, is_programs}
use Rattle.lib_os.specs.Rows.{is_of_descriptor, logical, IsNamed, IsUsers}
use Rattle.lib_os.specs.StandsFor.{StandsFor, StandsForBorn, StandsForSlot, StandsAt, IsRemapping, view_of, things_in}
use Rattle.lib_os.specs.LibraryPages.{View}
use Rattle.lib_os.specs.Places.{place_of}
use Rattle.lib_os.specs.declared.place.Place.{Place}
use Rattle.lib_os.specs.declared.place.Place.TheVariants as place
use Rattle.lib_os.specs.declared.place.Step.TheVariants as step
use Rattle.lib_os.specs.declared.service.Service.TheVariants as service
use Rattle.lib_os.specs.StandsInHandler.{IsToCopy, is_refused_by, is_write}
use Rattle.lib_os.proofs.EntriesStand.{page_shows}
use Rattle.lib_os.proofs.Fences.{buffer_each, buffer_below, inside_number}
use Rattle.lib_os.proofs.Logical.{both, inside_programs, programs_beside, programs_no_descriptor, logical_beside, is_remapped}
use Rattle.lib_os.proofs.StatesStand.{clients_live}
use Rattle.jos_base.proofs.Walks.{walked_below}
use Rattle.lib_os.proofs.KeptPages.{beside_childs, is_spawns, programs_no_spawns}

-- ---- bits

-- P, W and U by the places of bits
pub reading_bits : (perm : ℕ) → bit_and perm 5 ≡ 4 * (perm / 4 % 2) + perm % 2
reading_bits perm =
    let high = and_shr perm 5 2 in
    let high_is = and_mask (perm / 4) 1 in
    let low = and_mod perm 5 2 in
    let low_is = and_mask (perm % 4) 1 in
    omega (arith, high, high_is, low, low_is)

writing_bit : (perm : ℕ) → bit_and perm 2 ≡ 2 * (perm / 2 % 2)
writing_bit perm =
    let high = and_shr perm 2 1 in
    let high_is = and_mask (perm / 2) 1 in
    let low = and_mod perm 2 1 in
    let low_is = and_mask (perm % 2) 0 in
    omega (arith, high, high_is, low, low_is)

-- The bits that accesses set are none of P, W and U.
lasting_part : (perm part : ℕ) → bit_and PTE_SYSCALL part ≡ part → bit_and (bit_and perm PTE_SYSCALL) part ≡ bit_and perm part
lasting_part perm part within = and_assoc part perm PTE_SYSCALL ∙ ap (bit_and perm) within

pub lasting_reads : (perm : ℕ) → is_page_perm (bit_and perm PTE_SYSCALL) ≡ true → bit_and perm 5 ≡ 5
lasting_reads perm user =
    let part = lasting_part perm 5 refl in
    let stands : bit_and (bit_and perm PTE_SYSCALL) 5 ≡ 5 = grind (arith, nat_tests) in
    sym part ∙ stands

pub lasting_writes : (perm : ℕ) → bit_and perm 5 ≡ 5 → allows perm Write ≡ has_write (bit_and perm PTE_SYSCALL)
lasting_writes perm reads =
    let three = and_mask perm 3 in
    let two = reading_bits perm in
    let one = writing_bit perm in
    let part = lasting_part perm 2 refl in
    grind (arith, nat_tests)

-- ---- an entry

module _ (names : Names) (bytes : ℕ → List ℕ) where
  -- whether its page may be written
  writable_is : (e : Entry) → is_writable (page_by names bytes e) ≡ (if is_shared e.perm then has_write e.perm else may_write e.perm)
  writable_is e = by_share (is_shared e.perm)
    where
      by_share : (t : Bool) →
          is_writable (if t then named (names.name e.frame) (has_write e.perm) else own (bytes e.frame) (may_write e.perm))
          ≡ (if t then has_write e.perm else may_write e.perm)
      by_share true = refl
      by_share false = refl

  -- it may be, where the entry has W
  writable_on : (e : Entry) → has_write e.perm ≡ true → is_writable (page_by names bytes e) ≡ true
  writable_on e on = writable_is e ∙ by_share (is_shared e.perm)
    where
      by_share : (t : Bool) → (if t then has_write e.perm else may_write e.perm) ≡ true
      by_share true = on
      by_share false = rw on refl

  -- it may be read as its page may
  pub entry_allows : (e : Entry) → bit_and e.perm 5 ≡ 5 → allows e.perm Read ≡ page_allows (Some (page_by names bytes (lasting e))) Read
  entry_allows e reads = grind (arith, nat_tests)

  -- and written only where its page may
  pub entry_allows_write : (e : Entry) → bit_and e.perm 5 ≡ 5 → allows e.perm Write ≡ true →
      page_allows (Some (page_by names bytes (lasting e))) Write ≡ true
  entry_allows_write e reads may = writable_on (lasting e) (sym (lasting_writes e.perm reads) ∙ may)

  pub entry_right : (e : Entry) → bit_and e.perm 5 ≡ 5 → (access : Access) → allows e.perm access ≡ true →
      page_allows (Some (page_by names bytes (lasting e))) access ≡ true
  entry_right e reads Read may = refl
  entry_right e reads Write may = entry_allows_write e reads may

  -- Where its page may be written and it has no W, the page is one of its own, which waits to be copied.
  entry_waits : (e : Entry) → has_write e.perm ≡ false → is_writable (page_by names bytes e) ≡ true →
      (is_shared e.perm ≡ false) × (is_cow e.perm ≡ true)
  entry_waits e off on = by_bits (is_shared e.perm) (has_write e.perm) (is_cow e.perm) off (sym (writable_is e) ∙ on)
    where
      by_bits : (shared_page writes copied : Bool) → writes ≡ false → (if shared_page then writes else (writes || copied)) ≡ true →
          (shared_page ≡ false) × (copied ≡ true)
      by_bits true writes copied off on = absurd (let contradiction : true ≡ false = sym on ∙ off in cc)
      by_bits false true copied off on = absurd (let contradiction : true ≡ false = off in cc)
      by_bits false false copied off on = (refl, on)

  -- Where its page may not be written, it has no W and is not copied when it is written.
  entry_locked : (e : Entry) → IsUsers e.perm → is_writable (page_by names bytes e) ≡ false → (has_write e.perm ≡ false) × (is_cow e.perm ≡ false)
  entry_locked e user off =
      by_bits (is_shared e.perm) (has_write e.perm) (is_cow e.perm) (λ copied. (user.copied copied).0) (sym (writable_is e) ∙ off)
    where
      by_bits : (shared_page writes copied : Bool) → (copied ≡ true → shared_page ≡ false) →
          (if shared_page then writes else (writes || copied)) ≡ false → (writes ≡ false) × (copied ≡ false)
      by_bits true writes false alone off = (off, refl)
      by_bits true writes true alone off = absurd (let contradiction : true ≡ false = alone refl in cc)
      by_bits false true copied alone off = absurd (let contradiction : true ≡ false = off in cc)
      by_bits false false copied alone off = (refl, off)

  abbrev seen : Option Entry → Option Page
  seen o = option_map (page_by names bytes) (option_map lasting o)

  -- an entry by which its environment may read
  abbrev Readable : Option Entry → Type 0
  Readable o = (e : Entry) → o ≡ Some e → bit_and e.perm 5 ≡ 5

  module _ (va : ℕ) (access : Access) where
    pub entry_reached : (e : Entry) → allows e.perm access ≡ true →
        reach_entry (Some e) va access ≡ Ok (record { frame = e.frame; offset = page_offset va })
    entry_reached e may = rw may refl

    entry_refused : (e : Entry) → allows e.perm access ≡ false →
        reach_entry (Some e) va access ≡ Err (page_fault (seen (Some e)) va access)
    entry_refused e may = rw may refl

    reaches : (e : Entry) → is_ok (reach_entry (Some e) va access) ≡ allows e.perm access
    reaches e = by_test (allows e.perm access) refl
      where
        by_test : (t : Bool) → allows e.perm access ≡ t → is_ok (reach_entry (Some e) va access) ≡ allows e.perm access
        by_test true may = rw may refl
        by_test false may = rw may refl

    -- what is reached its page allows
    reach_right : (o : Option Entry) → Readable o → is_ok (reach_entry o va access) ≡ true → page_allows (seen o) access ≡ true
    reach_right None reads on = cc
    reach_right (Some e) reads on = entry_right e (reads e refl) access (sym (reaches e) ∙ on)

    -- so that what its page refuses is not reached
    reach_off : (o : Option Entry) → Readable o → page_allows (seen o) access ≡ false → is_ok (reach_entry o va access) ≡ false
    reach_off o reads off = by_test (is_ok (reach_entry o va access)) refl
      where
        by_test : (t : Bool) → is_ok (reach_entry o va access) ≡ t → t ≡ false
        by_test false is = refl
        by_test true is = absurd (let contradiction : true ≡ false = sym (reach_right o reads is) ∙ off in cc)

    -- what is not reached has the fault of its page
    reach_refused : (o : Option Entry) → is_ok (reach_entry o va access) ≡ false → reach_entry o va access ≡ Err (page_fault (seen o) va access)
    reach_refused None off = refl
    reach_refused (Some e) off = entry_refused e (sym (reaches e) ∙ off)

    -- what is reached has an entry, and it allows it
    reach_entry_is : (o : Option Entry) → is_ok (reach_entry o va access) ≡ true → (e : Entry) × (o ≡ Some e) × (allows e.perm access ≡ true)
    reach_entry_is (Some e) on = (e, refl, sym (reaches e) ∙ on)
    reach_entry_is None on = cc

  reach_reads : (va : ℕ) (o : Option Entry) → Readable o → is_ok (reach_entry o va Read) ≡ page_allows (seen o) Read
  reach_reads va None reads = refl
  reach_reads va (Some e) reads = reaches va Read e ∙ entry_allows e (reads e refl)

  -- the bytes of its page are those of its frame
  entry_bytes : (a : AbstractState) (e : Entry) → (is_shared (lasting e).perm ≡ true → a.shared (names.name e.frame) ≡ bytes e.frame) →
      bytes_of_page a (page_by names bytes (lasting e)) ≡ bytes e.frame
  entry_bytes a e name = by_share (is_shared (lasting e).perm) name
    where
      by_share : (t : Bool) → (t ≡ true → a.shared (names.name e.frame) ≡ bytes e.frame) →
          bytes_of_page a (if t then named (names.name e.frame) (has_write (lasting e).perm) else own (bytes e.frame) (may_write (lasting e).perm))
          ≡ bytes e.frame
      by_share true name = name refl
      by_share false name = refl

-- ---- an address

-- A write that its page allows and the kernel refuses: the page waits to be copied, and the fault is that of a page that is there.
pub record IsLostWrite (s : SpacesState) (d va : ℕ) : Type 0 where
  pub page : IsToCopy (rows_of s d) va
  pub read_only : has_write page.entry.perm ≡ false
  pub fault : fault_at s d va Write ≡ record { va = va; error = FEC_U + FEC_PR + FEC_WR }

-- A fault is told by the entry of its page, which does not wait to be copied.
pub record IsRefusal (row : EntryRow) (fault : PageFault) : Type 0 where
  pub refused : is_refused_by (is_write fault.error) (row (page_number fault.va)) ≡ true
  pub present : fault.error ≡ FEC_U + FEC_PR + FEC_WR → is_some (row (page_number fault.va)) ≡ true

-- a space whose pages inside the fence are those of an environment
module _ (names : Names) (s : SpacesState) (d : ℕ) (b : Born) (memory : (p : ℕ) → b.memory p ≡ page_seen names s d p)
    (users : (p : ℕ) (x : Entry) → is_programs p ≡ true → rows_of s d p ≡ Some x → IsUsers x.perm) where
  module _ (va : ℕ) (inside : is_inside va ≡ true) where
    abbrev entry : Option Entry
    entry = s.entries d (page_number va)

    page_is : page_at b va ≡ seen names s.pages entry
    unfolding rows_of
    page_is =
        memory (page_number va)
        ∙ ap (λ (t : Bool). seen_where t (option_map (page_by names s.pages) (rows_of s d (page_number va)))) (inside_programs va inside)

    row_is : (e : Entry) → entry ≡ Some e → rows_of s d (page_number va) ≡ Some (lasting e)
    unfolding rows_of
    row_is e is = ap (option_map lasting) is

    row_none : entry ≡ None → rows_of s d (page_number va) ≡ None
    unfolding rows_of
    row_none is = ap (option_map lasting) is

    user_is : (e : Entry) → entry ≡ Some e → IsUsers (lasting e).perm
    user_is e is = users (page_number va) (lasting e) (inside_programs va inside) (row_is e is)

    reads_all : (e : Entry) → entry ≡ Some e → bit_and e.perm 5 ≡ 5
    reads_all e is = lasting_reads e.perm (user_is e is).page

    walk_is : walked s d (page_number va) ≡ entry
    walk_is = walked_below s d (page_number va) (inside_number va inside)

    reach_is : (access : Access) → reach_in s d va access ≡ reach_entry entry va access
    reach_is access = ap (λ (o : Option Entry). reach_entry o va access) walk_is

    -- it may be read as its page may
    pub space_allows : is_allowed s d va Read ≡ page_allows (page_at b va) Read
    space_allows =
        ap is_ok (reach_is Read) ∙ reach_reads names s.pages va entry reads_all ∙ sym (ap (λ (page : Option Page). page_allows page Read) page_is)

    module _ (access : Access) where
      -- what the kernel allows its page allows
      pub space_right : is_allowed s d va access ≡ true → page_allows (page_at b va) access ≡ true
      space_right on =
          ap (λ (page : Option Page). page_allows page access) page_is
          ∙ reach_right names s.pages va access entry reads_all (sym (ap is_ok (reach_is access)) ∙ on)

      -- and what its page refuses the kernel refuses
      pub space_off : page_allows (page_at b va) access ≡ false → is_allowed s d va access ≡ false
      space_off off =
          ap is_ok (reach_is access)
          ∙ reach_off names s.pages va access entry reads_all (sym (ap (λ (page : Option Page). page_allows page access) page_is) ∙ off)

      -- what the kernel refuses has the fault of the page
      pub space_refused : is_allowed s d va access ≡ false → reach_in s d va access ≡ Err (page_fault (page_at b va) va access)
      space_refused off =
          reach_is access
          ∙ reach_refused names s.pages va access entry (sym (ap is_ok (reach_is access)) ∙ off)
          ∙ sym (ap (λ (page : Option Page). Err (page_fault page va access)) page_is)

      pub space_fault : is_allowed s d va access ≡ false → fault_at s d va access ≡ page_fault (page_at b va) va access
      space_fault off = ap (fault_or (record { va = va; error = 0 })) (space_refused off)

      pub space_refuses : page_allows (page_at b va) access ≡ false → reach_in s d va access ≡ Err (page_fault (page_at b va) va access)
      space_refuses may = space_refused (space_off may)

      pub space_faults : page_allows (page_at b va) access ≡ false → fault_at s d va access ≡ page_fault (page_at b va) va access
      space_faults may = space_fault (space_off may)

      -- where the kernel allows it there is an entry, and that allows it
      pub space_entry : is_allowed s d va access ≡ true → (e : Entry) × (s.entries d (page_number va) ≡ Some e) × (allows e.perm access ≡ true)
      space_entry on = reach_entry_is names s.pages va access entry (sym (ap is_ok (reach_is access)) ∙ on)

      pub space_reached : (e : Entry) → s.entries d (page_number va) ≡ Some e → allows e.perm access ≡ true →
          reach_in s d va access ≡ Ok (record { frame = e.frame; offset = page_offset va })
      space_reached e is may =
          reach_is access ∙ ap (λ (o : Option Entry). reach_entry o va access) is ∙ entry_reached names s.pages va access e may

    pub space_allows_write : is_allowed s d va Write ≡ true → page_allows (page_at b va) Write ≡ true
    space_allows_write on = space_right Write on

    pub space_entry_read : page_allows (page_at b va) Read ≡ true →
        (e : Entry) × (s.entries d (page_number va) ≡ Some e) × (allows e.perm Read ≡ true)
    space_entry_read may = space_entry Read (space_allows ∙ may)

    -- an entry that lets a byte be written has W
    pub space_entry_write : is_allowed s d va Write ≡ true →
        (e : Entry) × (s.entries d (page_number va) ≡ Some e) × (allows e.perm Write ≡ true) × (has_write (lasting e).perm ≡ true)
    space_entry_write on =
        let found = space_entry Write on in
        (found.0, found.1, found.2, sym (lasting_writes found.0.perm (reads_all found.0 found.1)) ∙ found.2)

    -- a write that the kernel alone refuses
    pub space_lost : is_allowed s d va Write ≡ false → page_allows (page_at b va) Write ≡ true → IsLostWrite s d va
    space_lost off on = by_entry entry refl
      where
        allowed : (o : Option Entry) → entry ≡ o → page_allows (seen names s.pages o) Write ≡ true
        allowed o is = sym (ap (λ (page : Option Page). page_allows page Write) (page_is ∙ ap (seen names s.pages) is)) ∙ on

        by_entry : (o : Option Entry) → entry ≡ o → IsLostWrite s d va
        by_entry None is = absurd (let contradiction : false ≡ true = allowed None is in cc)
        by_entry (Some e) is =
            let refused : allows e.perm Write ≡ false =
            sym (reaches names s.pages va Write e)
            ∙ sym (ap is_ok (reach_is Write ∙ ap (λ (o : Option Entry). reach_entry o va Write) is)) ∙ off in
            let no_write : has_write (lasting e).perm ≡ false = sym (lasting_writes e.perm (reads_all e is)) ∙ refused in
            let waits = entry_waits names s.pages (lasting e) no_write (allowed (Some e) is) in record {
              page = record { entry = lasting e; stands = row_is e is; own_page = waits.0; copied = waits.1 };
              read_only = no_write;
              fault =
                  space_fault Write off
                  ∙ ap (λ (page : Option Page). page_fault page va Write) (page_is ∙ ap (seen names s.pages) is);
            }

    -- an access that its page refuses
    pub space_refusal : (access : Access) → page_allows (page_at b va) access ≡ false → IsRefusal (rows_of s d) (page_fault (page_at b va) va access)
    space_refusal access off =
        subst (λ (page : Option Page). IsRefusal (rows_of s d) (page_fault page va access)) (sym page_is)
        (by_entry access entry refl (sym (ap (λ (page : Option Page). page_allows page access) page_is) ∙ off))
      where
        by_entry : (access : Access) (o : Option Entry) → entry ≡ o → page_allows (seen names s.pages o) access ≡ false →
            IsRefusal (rows_of s d) (page_fault (seen names s.pages o) va access)
        by_entry access (Some e) is off = by_access access off
          where
            by_access : (access : Access) → page_allows (seen names s.pages (Some e)) access ≡ false →
                IsRefusal (rows_of s d) (page_fault (seen names s.pages (Some e)) va access)
            by_access Read off = absurd (let contradiction : true ≡ false = off in cc)
            by_access Write off =
                let locked = entry_locked names s.pages (lasting e) (user_is e is) off in record {
                  refused = ap (is_refused_by true) (row_is e is) ∙ rw (locked.0, locked.1) refl;
                  present = λ told. ap is_some (row_is e is);
                }
        by_entry Read None is off = record {
          refused = ap (is_refused_by false) (row_none is);
          present = λ told. absurd (let contradiction : 4 ≡ 7 = told in cc);
        }
        by_entry Write None is off = record {
          refused = ap (is_refused_by true) (row_none is);
          present = λ told. absurd (let contradiction : 6 ≡ 7 = told in cc);
        }

    module _ (a : AbstractState) {things : Things} (are_named : (p : ℕ) (x : Entry) → is_programs p ≡ true → rows_of s d p ≡ Some x →
        is_shared x.perm ≡ true → IsNamed names s.pages a.shared things a.next_name p x.frame) (records : ℕ → List ℕ) where
      -- the byte of the page is that of the frame which its entry names
      pub page_byte : (e : Entry) → s.entries d (page_number va) ≡ Some e →
          abstract_byte_at a b va ≡ slice_index (s.pages e.frame) (page_offset va)
      page_byte e is =
          let at : page_at b va ≡ Some (page_by names s.pages (lasting e)) = page_is ∙ ap (seen names s.pages) is in
          ap (λ (page : Option Page). byte_in a page (page_offset va)) at
          ∙ ap (λ (bytes : List ℕ). slice_index bytes (page_offset va)) (entry_bytes names s.pages a e shared)
        where
          shared : is_shared (lasting e).perm ≡ true → a.shared (names.name e.frame) ≡ s.pages e.frame
          shared h =
              page_shows (inside_programs va inside) (are_named (page_number va) (lasting e) (inside_programs va inside) (row_is e is) h)

      location_byte : (e : Entry) → s.entries d (page_number va) ≡ Some e →
          byte_of records s d va (record { frame = e.frame; offset = page_offset va }) ≡ abstract_byte_at a b va
      location_byte e is =
          let number = inside_number va inside in
          let below : nat_lt (page_number va) page_limit ≡ true = grind (arith, nat_tests) in
          rw below (sym (page_byte e is))

      pub space_byte : page_allows (page_at b va) Read ≡ true → byte_at records s d va ≡ abstract_byte_at a b va
      unfolding byte_at
      space_byte may =
          let found = space_entry_read may in
          ap (byte_or_zero records s d va) (space_reached Read found.0 found.1 found.2) ∙ location_byte found.0 found.1

      pub space_reads : read_byte records s d va ≡ byte_or_fault a b va
      unfolding read_byte
      space_reads = by_test (page_allows (page_at b va) Read) refl
        where
          by_test : (t : Bool) → page_allows (page_at b va) Read ≡ t →
              kernel_byte_or_fault records s d va (reach_in s d va Read) ≡ byte_or_fault a b va
          by_test true may =
              let found = space_entry_read may in
              ap (kernel_byte_or_fault records s d va) (space_reached Read found.0 found.1 found.2)
              ∙ ap Ok (location_byte found.0 found.1)
              ∙ sym (ap (λ (t : Bool). if t then Ok (abstract_byte_at a b va) else Err (page_fault (page_at b va) va Read)) may)
          by_test false may =
              ap (kernel_byte_or_fault records s d va) (space_refuses Read may)
              ∙ sym (ap (λ (t : Bool). if t then Ok (abstract_byte_at a b va) else Err (page_fault (page_at b va) va Read)) may)

-- ---- bytes one behind the other

-- where nothing wraps, they are read alike by what reads each alike
pub bytes_alike : (f g : ℕ → Result ℕ PageFault) (va n : ℕ) → va + n < 2 ^ 32 → ((q : ℕ) → va ≤ q → q < va + n → f q ≡ g q) →
    bytes_read f va n ≡ bytes_read g va n
unfolding bytes_read
bytes_alike f g va zero below same = refl
bytes_alike f g va (suc n) below same =
    let next : (va + 1) % 2 ^ 32 ≡ va + 1 = omega arith in
    let here : f va ≡ g va = same va (omega arith) (omega arith) in
    let rest : bytes_read f (va + 1) n ≡ bytes_read g (va + 1) n =
    bytes_alike f g (va + 1) n (omega arith) (λ q from to. same q (omega arith) (omega arith)) in
    rw (here, next, rest) refl

bytes_none : (f g : ℕ → Result ℕ PageFault) (va n : ℕ) → n ≡ 0 → bytes_read f va n ≡ bytes_read g va n
unfolding bytes_read
bytes_none f g va n none = rw none refl

-- ---- an environment of a state that stands for an abstract one

pub born_part : (names : Names) (s : KernelState) (a : AbstractState) (n : ℕ) (b : Born) → StandsFor names s a → a.slots n ≡ born b →
    StandsForBorn names s.spaces (slot_at s n) b
born_part names s a n b stands is = subst (λ (slot : AbstractSlot). StandsForSlot names s.spaces (slot_at s n) slot) is (stands.slots n)

-- the pages that its program may have count as they stand, but for the one that fork maps onto itself
pub logical_inside : {names : Names} {s : KernelState} {a : AbstractState} → StandsFor names s a → (n : ℕ) (b : Born) → a.slots n ≡ born b →
    (p : ℕ) → is_programs p ≡ true → is_remapped (place_of (slot_at s n)) p ≡ false →
    logical s.spaces s.environments.slots n p ≡ rows_of s.spaces (slot_at s n).directory p
logical_inside {names} {s} {a} stands n b is p inside other =
    logical_beside s.spaces s.environments.slots n (clients_live stands n b is) p (programs_beside p inside).0 other

-- of that it is known what stands there, where it is not a page that service pipe makes, nor one of spawn's
pub remapped_at : (at : Place) (v : View) (k : Slot) (b : Born) (p : ℕ) → is_of_descriptor p ≡ false → is_spawns p ≡ false → is_remapped at p ≡ true →
    StandsAt at v k b → IsRemapping v.row p
remapped_at (place.InService (service.Spawn path argv) (step.Spawning step)) v k b p other none is at =
    absurd (let contradiction : false ≡ true = sym (beside_childs step p none) ∙ is in cc)
remapped_at (place.InService service.Pipe (step.Piped making)) v k b p other none is at =
    absurd (let contradiction : false ≡ true = sym other ∙ (both (is_of_descriptor p) _ is).0 in cc)
remapped_at (place.InService service.Fork (step.Remap id page)) v k b p other none is at =
    let same : page ≡ p = grind (arith, nat_tests) in subst (λ (q : ℕ). IsRemapping v.row q) same at.1
remapped_at _ v k b p other none is at = absurd (let contradiction : false ≡ true = is in cc)

module _ (names : Names) (s : KernelState) (a : AbstractState) (n : ℕ) (b : Born) (stands : StandsFor names s a) (is : a.slots n ≡ born b) where
  memory_is : (p : ℕ) → b.memory p ≡ page_seen names s.spaces (slot_at s n).directory p
  memory_is = (born_part names s a n b stands is).memory

  abbrev is_twice : ℕ → Bool
  is_twice p = is_remapped (place_of (slot_at s n)) p

  pub remapped : (p : ℕ) → is_of_descriptor p ≡ false → is_spawns p ≡ false → is_twice p ≡ true → IsRemapping (rows_of s.spaces (slot_at s n).directory) p
  remapped p none no_spawns twice =
      remapped_at (place_of (slot_at s n)) (view_of s.spaces (slot_at s n).directory) (slot_at s n) b p none no_spawns twice (born_part names s a n b
      stands is).at

  pub users_inside : (p : ℕ) (x : Entry) → is_programs p ≡ true → rows_of s.spaces (slot_at s n).directory p ≡ Some x → IsUsers x.perm
  users_inside p x inside at = by_step (is_twice p) refl
    where
      by_step : (c : Bool) → is_twice p ≡ c → IsUsers x.perm
      by_step true twice = let it = remapped p (programs_no_descriptor p inside) (programs_no_spawns p inside) twice in subst (λ (e : Entry). IsUsers e.perm) (same_Some
          it.entry x (sym it.stands ∙ at)) it.user
      by_step false other = stands.users n p x (logical_inside stands n b is p inside other ∙ at)

  pub named_inside : (p : ℕ) (x : Entry) → is_programs p ≡ true → rows_of s.spaces (slot_at s n).directory p ≡ Some x → is_shared x.perm ≡ true →
      IsNamed names s.spaces.pages a.shared (things_in s a) a.next_name p x.frame
  named_inside p x inside at shared_page = by_step (is_twice p) refl
    where
      by_step : (c : Bool) → is_twice p ≡ c → IsNamed names s.spaces.pages a.shared (things_in s a) a.next_name p x.frame
      by_step true twice =
          let it = remapped p (programs_no_descriptor p inside) (programs_no_spawns p inside) twice in
          let own_page : is_shared x.perm ≡ false =
          ap (λ (e : Entry). is_shared e.perm) (sym (same_Some it.entry x (sym it.stands ∙ at))) ∙ it.own_page in
          absurd (let contradiction : false ≡ true = sym own_page ∙ shared_page in cc)
      by_step false other = stands.named n p x (logical_inside stands n b is p inside other ∙ at) shared_page

  module _ (va : ℕ) (inside : is_inside va ≡ true) where
    -- it may be read as its page may
    pub user_allows : is_allowed s.spaces (slot_at s n).directory va Read ≡ page_allows (page_at b va) Read
    user_allows = space_allows names s.spaces (slot_at s n).directory b memory_is users_inside va inside

    -- and written only where its page may
    pub user_allows_write : is_allowed s.spaces (slot_at s n).directory va Write ≡ true → page_allows (page_at b va) Write ≡ true
    user_allows_write = space_allows_write names s.spaces (slot_at s n).directory b memory_is users_inside va inside

    module _ (access : Access) where
      -- what the kernel allows its page allows
      pub user_right : is_allowed s.spaces (slot_at s n).directory va access ≡ true → page_allows (page_at b va) access ≡ true
      user_right = space_right names s.spaces (slot_at s n).directory b memory_is users_inside va inside access

      -- and what its page refuses the kernel refuses
      pub user_off : page_allows (page_at b va) access ≡ false → is_allowed s.spaces (slot_at s n).directory va access ≡ false
      user_off = space_off names s.spaces (slot_at s n).directory b memory_is users_inside va inside access

      -- what the kernel refuses has the fault of the page
      pub user_fault : is_allowed s.spaces (slot_at s n).directory va access ≡ false →
          fault_at s.spaces (slot_at s n).directory va access ≡ page_fault (page_at b va) va access
      user_fault = space_fault names s.spaces (slot_at s n).directory b memory_is users_inside va inside access

      pub user_refuses : page_allows (page_at b va) access ≡ false →
          reach_in s.spaces (slot_at s n).directory va access ≡ Err (page_fault (page_at b va) va access)
      user_refuses may = space_refuses names s.spaces (slot_at s n).directory b memory_is users_inside va inside access may

      pub user_faults : page_allows (page_at b va) access ≡ false →
          fault_at s.spaces (slot_at s n).directory va access ≡ page_fault (page_at b va) va access
      user_faults may = space_faults names s.spaces (slot_at s n).directory b memory_is users_inside va inside access may

      -- where the kernel allows it there is an entry, and that allows it
      pub user_entry : is_allowed s.spaces (slot_at s n).directory va access ≡ true →
          (e : Entry) × (s.spaces.entries (slot_at s n).directory (page_number va) ≡ Some e) × (allows e.perm access ≡ true)
      user_entry on = space_entry names s.spaces (slot_at s n).directory b memory_is users_inside va inside access on

    pub user_entry_read : page_allows (page_at b va) Read ≡ true →
        (e : Entry) × (s.spaces.entries (slot_at s n).directory (page_number va) ≡ Some e) × (allows e.perm Read ≡ true)
    user_entry_read may = space_entry_read names s.spaces (slot_at s n).directory b memory_is users_inside va inside may

    pub user_entry_write : is_allowed s.spaces (slot_at s n).directory va Write ≡ true →
        (e : Entry) × (s.spaces.entries (slot_at s n).directory (page_number va) ≡ Some e) × (allows e.perm Write ≡ true)
        × (has_write (lasting e).perm ≡ true)
    user_entry_write on = space_entry_write names s.spaces (slot_at s n).directory b memory_is users_inside va inside on

    -- a write that the kernel alone refuses
    pub user_lost : is_allowed s.spaces (slot_at s n).directory va Write ≡ false → page_allows (page_at b va) Write ≡ true →
        IsLostWrite s.spaces (slot_at s n).directory va
    user_lost off on = space_lost names s.spaces (slot_at s n).directory b memory_is users_inside va inside off on

    -- an access that its page refuses
    pub user_refusal : (access : Access) → page_allows (page_at b va) access ≡ false →
        IsRefusal (rows_of s.spaces (slot_at s n).directory) (page_fault (page_at b va) va access)
    user_refusal access off = space_refusal names s.spaces (slot_at s n).directory b memory_is users_inside va inside access off

    pub user_byte_is : (records : ℕ → List ℕ) → page_allows (page_at b va) Read ≡ true →
        byte_at records s.spaces (slot_at s n).directory va ≡ abstract_byte_at a b va
    user_byte_is records may =
        space_byte names s.spaces (slot_at s n).directory b memory_is users_inside va inside a named_inside records may

    pub user_reads : (records : ℕ → List ℕ) → read_byte records s.spaces (slot_at s n).directory va ≡ byte_or_fault a b va
    user_reads records = space_reads names s.spaces (slot_at s n).directory b memory_is users_inside va inside a named_inside records

  pub buffer_reads : (va len : ℕ) → is_buffer va len ≡ true → user_bytes s n va len ≡ bytes_read (byte_or_fault a b) va len
  buffer_reads va zero buffer = bytes_none _ _ va 0 refl
  buffer_reads va (suc len) buffer =
      let end = buffer_below va (suc len) buffer (omega arith) in
      bytes_alike _ (byte_or_fault a b) va (suc len) (omega (arith, end))
      (λ q from to. user_reads q (buffer_each va (suc len) q buffer from to) (records_of s.environments))
