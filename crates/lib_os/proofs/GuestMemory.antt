-- The memory of a guest is lawful: reaching a byte changes nothing, and putting one changes the bytes of one page.
use Rattle.std.proofs.Common.{◌≡◌, ◌⊎◌, ℕ, Bool, true, false, List, refl, sym, ap, subst, inl, arith}
use Rattle.std.specs.Prelude.{Option, Some, None, slice_set, slice_index, ◌&&◌, ◌==◌, if◌then◌else◌}
use Rattle.std.proofs.lemmas.Bool.Decides.{nat_tests}
use Rattle.jos_base.specs.declared.memory.Access.{Access}
use Rattle.jos_base.specs.declared.memory.Access.TheVariants.{Read, Write}
use Rattle.jos_base.specs.Words.{page_number, page_offset, upd}
use Rattle.jos_cpu.specs.declared.memory.MemFault.TheVariants as fault
use Rattle.jos_cpu.specs.Memory.{IsLawful}
use Rattle.jos_cpu.specs.MemoryProofs.{set_or_same}
use Rattle.lib_os.specs.AbstractState.{AbstractState, Born, Page, own, named, AbstractSlot, free, unborn, born, serving}
use Rattle.lib_os.specs.AbstractMemory.{page_allows, page_fault, byte_in, stored_in}
use Rattle.lib_os.specs.Fence.{is_inside}
use Rattle.lib_os.specs.GuestStep.{guest_memory, guest_byte, guest_allows, guest_fault, guest_stored, born_in}
use Rattle.jos_base.proofs.Maps.{upd-at, upd-alike}

-- ---- a page whose bytes are others

rights_alike : (page : Option Page) (bytes new : List ℕ) (w : Bool) → page ≡ Some (own bytes w) → (access : Access) →
    page_allows (Some (own new w)) access ≡ page_allows page access
rights_alike page bytes new w e Read = subst (λ (p : Option Page). page_allows (Some (own new w)) Read ≡ page_allows p Read) (sym e) refl
rights_alike page bytes new w e Write = subst (λ (p : Option Page). page_allows (Some (own new w)) Write ≡ page_allows p Write) (sym e) refl

fault_alike : (page : Option Page) (bytes new : List ℕ) (w : Bool) → page ≡ Some (own bytes w) → (q : ℕ) (access : Access) →
    page_fault (Some (own new w)) q access ≡ page_fault page q access
fault_alike page bytes new w e q access =
    subst (λ (p : Option Page). page_fault (Some (own new w)) q access ≡ page_fault p q access) (sym e) refl

module _ (a : AbstractState) (n va byte : ℕ) where
  module _ (b : Born) where
    abbrev own_after : List ℕ → Bool → Born
    own_after bytes w =
        record b { memory = upd b.memory (page_number va) (Some (own (slice_set bytes (page_offset va) byte) w)) }

    allows_own : (bytes : List ℕ) (w : Bool) → b.memory (page_number va) ≡ Some (own bytes w) → (q : ℕ) (access : Access) →
        guest_allows (Some (own_after bytes w)) q access ≡ guest_allows (Some b) q access
    allows_own bytes w e q access =
        ap (λ right. is_inside q && right)
        (upd-alike (λ page. page_allows page access) b.memory (page_number va) (Some (own (slice_set bytes (page_offset va) byte) w))
        (rights_alike (b.memory (page_number va)) bytes (slice_set bytes (page_offset va) byte) w e access) (page_number q))

    fault_own : (bytes : List ℕ) (w : Bool) → b.memory (page_number va) ≡ Some (own bytes w) → (q : ℕ) (access : Access) →
        guest_fault (Some (own_after bytes w)) q access ≡ guest_fault (Some b) q access
    fault_own bytes w e q access =
        ap (λ refusal. if is_inside q then fault.Page refusal else fault.Fence)
        (upd-alike (λ page. page_fault page q access) b.memory (page_number va) (Some (own (slice_set bytes (page_offset va) byte) w))
        (fault_alike (b.memory (page_number va)) bytes (slice_set bytes (page_offset va) byte) w e q access) (page_number q))

    byte_own : (bytes : List ℕ) (w : Bool) → b.memory (page_number va) ≡ Some (own bytes w) → (q : ℕ) →
        (byte_in a ((own_after bytes w).memory (page_number q)) (page_offset q) ≡ byte_in a (b.memory (page_number q)) (page_offset q))
        ⊎ (byte_in a ((own_after bytes w).memory (page_number q)) (page_offset q) ≡ byte)
    unfolding upd
    byte_own bytes w e q = by_test (page_number q == page_number va) refl
      where
        new : Page
        new = own (slice_set bytes (page_offset va) byte) w

        by_test : (t : Bool) → (page_number q == page_number va) ≡ t →
            (byte_in a (if t then Some new else b.memory (page_number q)) (page_offset q) ≡ byte_in a (b.memory (page_number q)) (page_offset q))
            ⊎ (byte_in a (if t then Some new else b.memory (page_number q)) (page_offset q) ≡ byte)
        by_test false test = inl refl
        by_test true test =
            let at : page_number q ≡ page_number va = grind (arith, nat_tests) in
            rw (at, e) (set_or_same bytes (page_offset va) byte (page_offset q))

    byte_named : (name : ℕ) (page : Option Page) (q : ℕ) →
        (byte_in (record a { shared = upd a.shared name (slice_set (a.shared name) (page_offset va) byte) }) page (page_offset q)
        ≡ byte_in a page (page_offset q))
        ⊎ (byte_in (record a { shared = upd a.shared name (slice_set (a.shared name) (page_offset va) byte) }) page (page_offset q) ≡ byte)
    unfolding upd
    byte_named name None q = inl refl
    byte_named name (Some (own bytes w)) q = inl refl
    byte_named name (Some (named other w)) q = by_test (other == name) refl
      where
        by_test : (t : Bool) → (other == name) ≡ t →
            (slice_index (if t then slice_set (a.shared name) (page_offset va) byte else a.shared other) (page_offset q)
            ≡ slice_index (a.shared other) (page_offset q))
            ⊎ (slice_index (if t then slice_set (a.shared name) (page_offset va) byte else a.shared other) (page_offset q) ≡ byte)
        by_test false test = inl refl
        by_test true test =
            let at : other ≡ name = grind (arith, nat_tests) in
            rw at (set_or_same (a.shared name) (page_offset va) byte (page_offset q))

-- ---- by what stands in the slot, and by its page

module _ (n va byte : ℕ) where
  abbrev put : AbstractState → AbstractState
  put a = guest_stored a n (born_in (a.slots n)) va byte

  -- what sees a page of other bytes as it saw the page sees nothing of what was put
  seen_put : {W : Type 0} (seen : Option Born → W) (a : AbstractState) →
      ((b : Born) (bytes : List ℕ) (w : Bool) → b.memory (page_number va) ≡ Some (own bytes w) →
      seen (Some (own_after a n va byte b bytes w)) ≡ seen (Some b)) →
      seen (born_in ((put a).slots n)) ≡ seen (born_in (a.slots n))
  seen_put seen a alike = by_slot (a.slots n) refl
    where
      by_page : (b : Born) (page : Option Page) → a.slots n ≡ born b → b.memory (page_number va) ≡ page →
          seen (born_in ((stored_in a n b va byte page).slots n)) ≡ seen (Some b)
      by_page b None e p = rw e refl
      by_page b (Some (own bytes w)) e p = rw (upd-at a.slots n (born (own_after a n va byte b bytes w))) (alike b bytes w p)
      by_page b (Some (named name w)) e p = rw e refl

      by_slot : (slot : AbstractSlot) → a.slots n ≡ slot →
          seen (born_in ((guest_stored a n (born_in slot) va byte).slots n)) ≡ seen (born_in slot)
      by_slot (free id) e = rw e refl
      by_slot (unborn id parent) e = rw e refl
      by_slot (born b) e = by_page b (b.memory (page_number va)) e refl
      by_slot (serving id) e = rw e refl

  rights_put : (a : AbstractState) (q : ℕ) (access : Access) →
      guest_allows (born_in ((put a).slots n)) q access ≡ guest_allows (born_in (a.slots n)) q access
  rights_put a q access =
      seen_put (λ o. guest_allows o q access) a (λ b bytes w p. allows_own a n va byte b bytes w p q access)

  faults_put : (a : AbstractState) (q : ℕ) (access : Access) →
      guest_fault (born_in ((put a).slots n)) q access ≡ guest_fault (born_in (a.slots n)) q access
  faults_put a q access =
      seen_put (λ o. guest_fault o q access) a (λ b bytes w p. fault_own a n va byte b bytes w p q access)

  bytes_put : (a : AbstractState) (q : ℕ) →
      (guest_byte (put a) (born_in ((put a).slots n)) q ≡ guest_byte a (born_in (a.slots n)) q)
      ⊎ (guest_byte (put a) (born_in ((put a).slots n)) q ≡ byte)
  bytes_put a q = by_slot (a.slots n) refl
    where
      by_page : (b : Born) (page : Option Page) → a.slots n ≡ born b → b.memory (page_number va) ≡ page →
          (guest_byte (stored_in a n b va byte page) (born_in ((stored_in a n b va byte page).slots n)) q ≡ guest_byte a (Some b) q)
          ⊎ (guest_byte (stored_in a n b va byte page) (born_in ((stored_in a n b va byte page).slots n)) q ≡ byte)
      by_page b None e p = rw e (inl refl)
      by_page b (Some (own bytes w)) e p = rw (upd-at a.slots n (born (own_after a n va byte b bytes w))) (byte_own a n va byte b bytes w p q)
      by_page b (Some (named name w)) e p = rw e (byte_named a n va byte b name (b.memory (page_number q)) q)

      by_slot : (slot : AbstractSlot) → a.slots n ≡ slot →
          (guest_byte (guest_stored a n (born_in slot) va byte) (born_in ((guest_stored a n (born_in slot) va byte).slots n)) q ≡ guest_byte a (born_in slot) q)
          ⊎ (guest_byte (guest_stored a n (born_in slot) va byte) (born_in ((guest_stored a n (born_in slot) va byte).slots n)) q ≡ byte)
      by_slot (free id) e = rw e (inl refl)
      by_slot (unborn id parent) e = rw e (inl refl)
      by_slot (born b) e = by_page b (b.memory (page_number va)) e refl
      by_slot (serving id) e = rw e (inl refl)

pub guest_memory_is_lawful : IsLawful guest_memory
unfolding guest_memory
guest_memory_is_lawful = record {
  reached_rights = λ m va access. refl;
  reached_faults = λ m va access. refl;
  stored_bytes = λ m va byte q. bytes_put m.slot va byte m.state q;
  stored_rights = λ m va byte. λ i q access. rights_put m.slot va byte m.state q access i;
  stored_faults = λ m va byte. λ i q access. faults_put m.slot va byte m.state q access i;
}
