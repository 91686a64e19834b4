-- The memory of a program in the kernel and in the abstract system, where the kernel's state stands for the abstract one. What the
-- kernel lets the program reach the abstract system does, with the same bytes, and what neither lets it has one fault. The kernel
-- alone refuses to write to a page that waits to be copied.
use Rattle.std.proofs.Common.{◌≡◌, ◌∙◌, ◌<◌, ◌^◌, ◌+◌, ℕ, Bool, true, false, List, refl, sym, ap, subst, arith, if◌then◌else◌}
use Rattle.std.specs.Prelude.{◌&&◌, not, Option, None, Some}
use Rattle.std.specs.Option.{option_map}
use Rattle.std.proofs.lemmas.Bool.{and_parts}
use Rattle.jos_base.specs.declared.memory.Access.{Access}
use Rattle.jos_base.specs.declared.memory.Access.TheVariants.{Read, Write}
use Rattle.jos_base.specs.declared.memory.PageFault.{PageFault}
use Rattle.jos_base.specs.declared.numbers.TheConstants.{FEC_PR, FEC_U, FEC_WR}
use Rattle.jos_base.specs.Environments.{Slot, records_of}
use Rattle.jos_base.specs.KernelState.{slot_at, with_spaces}
use Rattle.jos_base.specs.Reach.{Entry, write_bit}
use Rattle.jos_base.specs.SpacesState.{SpacesState}
use Rattle.jos_base.specs.SystemCalls.{has_write}
use Rattle.jos_base.specs.UserMemory.{is_allowed, fault_at, touched, stored_byte}
use Rattle.jos_base.specs.Words.{page_number}
use Rattle.jos_base.proofs.Maps.{upd-at}
use Rattle.jos_cpu.specs.declared.memory.MemFault.TheVariants as fault
use Rattle.jos_cpu.proofs.Agreement.{AllowsFewer, AgreesWriting}
use Rattle.jos_cpu.proofs.FaultsRaised.{IsRefused}
use Rattle.jos_cpu.proofs.FewerWrites.{RefusesWrites, IsQuiet}
use Rattle.jos_kernel.specs.Running.{Running, user_memory, touched_in, stored_in_space}
use Rattle.jos_space.proofs.Keeping.{stored_uses}
use Rattle.lib_os.specs.declared.place.Place.TheVariants as place
use Rattle.lib_os.specs.AbstractState.{AbstractState, Born, Page, own, named, born}
use Rattle.lib_os.specs.AbstractMemory.{page_at, page_allows, page_fault, presence_bit, stored, stored_in}
use Rattle.lib_os.specs.Fence.{is_inside}
use Rattle.lib_os.specs.GuestStep.{GuestMemory, guest_memory}
use Rattle.lib_os.specs.InOrder.{IsInOrder}
use Rattle.lib_os.specs.LibrarySteps.{is_to_copy}
use Rattle.lib_os.specs.Places.{place_of}
use Rattle.lib_os.specs.Rows.{EntryRow, Names, Rows, is_cow, lasting, rows_of}
use Rattle.lib_os.specs.StandsFor.{StandsFor, borne_in}
use Rattle.lib_os.specs.StandsInHandler.{is_refused_by, is_write}
use Rattle.lib_os.proofs.BytesRead.{IsLostWrite, IsRefusal, user_right, user_allows, user_fault, user_entry_write, user_lost, user_refusal, user_byte_is}
use Rattle.lib_os.proofs.BytesStand.{stored_stands}
use Rattle.lib_os.proofs.Fences.{inside_number}
use Rattle.lib_os.proofs.Logical.{inside_programs, is_making_pipe}
use Rattle.lib_os.proofs.SlotsStand.{is_piped}
use Rattle.lib_os.proofs.StatesStand.{quiet_stands}
use Rattle.lib_os.proofs.Touching.{touched_quiet, byte_stored}
use Rattle.lib_os.proofs.UsesKept.{touched_kept, stored_kept}
use Rattle.lib_os.proofs.WordsTell.{is_in_handler}
use Rattle.jos_run.specs.FencedMemory.{fenced_memory}
use Rattle.jos_run.specs.MemoryProofs.{fenced_memory_is_lawful}
use Rattle.jos_run.proofs.SpacesKept.{touched_uses, spaces_kept}

-- ---- a store in the abstract system

-- the environment is there still, with its program and where it stands, and nothing is printed
pub record StandsAfter (a : AbstractState) (n : ℕ) (old : Born) (console : List ℕ) : Type 0 where
  pub it : Born
  pub there : a.slots n ≡ born it
  pub program : it.program ≡ old.program
  pub phase : it.phase ≡ old.phase
  pub console_is : a.console ≡ console

stored_after : (a : AbstractState) (n : ℕ) (it : Born) (va byte : ℕ) (page : Option Page) → a.slots n ≡ born it →
    StandsAfter (stored_in a n it va byte page) n it a.console
stored_after a n it va byte None there = record { it = it; there = there; program = refl; phase = refl; console_is = refl }
stored_after a n it va byte (Some (own bytes writable)) there =
    record { it = _; there = upd-at a.slots n _; program = refl; phase = refl; console_is = refl }
stored_after a n it va byte (Some (named name writable)) there =
    record { it = it; there = there; program = refl; phase = refl; console_is = refl }

-- ---- what is refused

-- what may be reached in any way may be read
readable : (page : Option Page) (access : Access) → page_allows page access ≡ true → page_allows page Read ≡ true
readable None access on = on
readable (Some _) access on = refl

page_same : (x y : PageFault) → fault.Page x ≡ fault.Page y → x ≡ y
page_same x y e = cc

error_small : (page : Option Page) (access : Access) → FEC_U + presence_bit page + write_bit access < 2 ^ 32
error_small None Read = omega arith
error_small None Write = omega arith
error_small (Some page) Read = omega arith
error_small (Some page) Write = omega arith

row_is : (s : SpacesState) (d p : ℕ) (e : Entry) → s.entries d p ≡ Some e → rows_of s d p ≡ Some (lasting e)
unfolding rows_of
row_is s d p e is = ap (option_map lasting) is

-- what is refused does not wait to be copied
refused_by_rest : (write : Bool) (entry : Option Entry) → is_refused_by write entry ≡ true → (write && is_to_copy entry) ≡ false
refused_by_rest false entry refused = refl
refused_by_rest true None refused = refl
refused_by_rest true (Some entry) refused = by_bits (has_write entry.perm) (is_cow entry.perm) refused
  where
    by_bits : (writes copied : Bool) → (true && not writes && not copied) ≡ true → copied ≡ false
    by_bits writes false on = refl
    by_bits true true on = absurd (let contradiction : false ≡ true = on in cc)
    by_bits false true on = absurd (let contradiction : false ≡ true = on in cc)

-- The program was refused an access inside the fence, by an entry of which its page tells it.
pub record IsGuestRefusal (row : EntryRow) (error va : ℕ) : Type 0 where
  pub inside : is_inside va ≡ true
  pub small : error < 2 ^ 32
  pub refusal : IsRefusal row (record { va = va; error = error })

pub refusal_rests : (row : EntryRow) (error va : ℕ) → IsGuestRefusal row error va → (is_write error && is_to_copy (row (page_number va))) ≡ false
refusal_rests row error va h = refused_by_rest (is_write error) (row (page_number va)) h.refusal.refused

-- It was refused to write to a page inside the fence that waits to be copied.
pub record IsGuestCopy (s : SpacesState) (d va : ℕ) : Type 0 where
  pub inside : is_inside va ≡ true
  pub lost : IsLostWrite s d va

-- ---- the two memories

-- of the environment in slot n, which stands at its program
module _ (names : Names) (n : ℕ) (k : Slot) (is_guest : place_of k ≡ place.Guest) (rows : Rows) (old : Born) (console : List ℕ) where
  -- The kernel's state with the directory of slot n, which has the turn, stands for the abstract state; of the environment in the slot
  -- nothing is changed but its memory, and entries stand as they stood.
  pub record Alike (m : Running) (g : GuestMemory) : Type 0 where
    pub loaded : m.directory ≡ Some (slot_at m.state n).directory
    pub slot : g.slot ≡ n
    pub kept : slot_at m.state n ≡ k
    pub last : m.state.last ≡ Some n
    pub rows_kept : rows_of m.state.spaces ≡ rows
    pub after : StandsAfter g.state n old console
    pub stands : StandsFor names m.state g.state

  module _ {m : Running} {g : GuestMemory} (r : Alike m g) where
    abbrev it : Born
    it = r.after.it

    abbrev d : ℕ
    d = (slot_at m.state n).directory

    pub stands_at : place_of (slot_at m.state n) ≡ place.Guest
    stands_at = ap (λ (slot : Slot). place_of slot) r.kept ∙ is_guest

    alike_right : (va : ℕ) (access : Access) → fenced_memory.allowed m va access ≡ true → guest_memory.allowed g va access ≡ true
    unfolding guest_memory fenced_memory user_memory
    alike_right va access on =
        let h = and_parts (is_inside va) (is_allowed m.state.spaces d va access) (rw r.loaded at on) in
        rw (r.slot, r.after.there, h.0) (user_right names m.state g.state n it r.stands r.after.there va h.0 access h.1)

    alike_reads : (va : ℕ) → fenced_memory.allowed m va Read ≡ false → guest_memory.allowed g va Read ≡ false
    unfolding guest_memory fenced_memory user_memory
    alike_reads va off = rw (r.slot, r.after.there) (by_fence (is_inside va) refl (rw r.loaded at off))
      where
        by_fence : (inside : Bool) → is_inside va ≡ inside → (inside && is_allowed m.state.spaces d va Read) ≡ false →
            (inside && page_allows (page_at it va) Read) ≡ false
        by_fence false is off = refl
        by_fence true is off = sym (user_allows names m.state g.state n it r.stands r.after.there va is) ∙ off

    alike_fault : (va : ℕ) (access : Access) → fenced_memory.allowed m va access ≡ false → guest_memory.allowed g va access ≡ false →
        guest_memory.fault g va access ≡ fenced_memory.fault m va access
    unfolding guest_memory fenced_memory user_memory
    alike_fault va access off other = rw (r.slot, r.after.there, r.loaded) (by_fence (is_inside va) refl (rw r.loaded at off))
      where
        by_fence : (inside : Bool) → is_inside va ≡ inside → (inside && is_allowed m.state.spaces d va access) ≡ false →
            (if inside then fault.Page (page_fault (page_at it va) va access) else fault.Fence)
            ≡ (if inside then fault.Page (fault_at m.state.spaces d va access) else fault.Fence)
        by_fence false is off = refl
        by_fence true is off =
            ap (λ (x : PageFault). fault.Page x) (sym (user_fault names m.state g.state n it r.stands r.after.there va is access off))

    alike_byte : (va : ℕ) (access : Access) → fenced_memory.allowed m va access ≡ true → guest_memory.byte g va ≡ fenced_memory.byte m va
    unfolding guest_memory fenced_memory user_memory
    alike_byte va access on =
        let h = and_parts (is_inside va) (is_allowed m.state.spaces d va access) (rw r.loaded at on) in
        let may = user_right names m.state g.state n it r.stands r.after.there va h.0 access h.1 in
        rw (r.slot, r.after.there, r.loaded)
        (sym (user_byte_is names m.state g.state n it r.stands r.after.there va h.0 (records_of m.state.environments) (readable (page_at it va) access may)))

    -- a write that the kernel alone refuses
    pub alike_lost : (va : ℕ) → fenced_memory.allowed m va Write ≡ false → guest_memory.allowed g va Write ≡ true → IsGuestCopy m.state.spaces d va
    unfolding guest_memory fenced_memory user_memory
    alike_lost va off on =
        let h = and_parts (is_inside va) (page_allows (page_at it va) Write) (rw (r.slot, r.after.there) at on) in record {
          inside = h.0;
          lost = user_lost names m.state g.state n it r.stands r.after.there va h.0 (rw (r.loaded, h.0) at off) h.1;
        }

    lost_fault : (va : ℕ) → IsGuestCopy m.state.spaces d va →
        fenced_memory.fault m va Write ≡ fault.Page (record { va = va; error = FEC_U + FEC_PR + FEC_WR })
    unfolding fenced_memory user_memory
    lost_fault va h = rw (r.loaded, h.inside) (ap (λ (x : PageFault). fault.Page x) h.lost.fault)

    -- what is reached is not seen
    touched_order : (va : ℕ) (access : Access) → IsInOrder (with_spaces m.state (touched m.state.spaces d va access))
    touched_order va access =
        let h = r.stands.in_order in record {
          frames = touched_kept m.state.spaces d va access h.frames;
          spaces = spaces_kept m.state.spaces (touched m.state.spaces d va access) m.state.environments (touched_uses m.state.spaces d va access) h.spaces;
        }

    alike_touched : (va : ℕ) (access : Access) →
        Alike (record { state = with_spaces m.state (touched m.state.spaces d va access); directory = m.directory }) g
    alike_touched va access =
        let quiet = touched_quiet m.state.spaces d va access in record {
          loaded = r.loaded;
          slot = r.slot;
          kept = r.kept;
          last = r.last;
          rows_kept = quiet.rows ∙ r.rows_kept;
          after = r.after;
          stands = quiet_stands r.stands quiet (touched_order va access);
        }

    alike_reached : (va : ℕ) (access : Access) → Alike (fenced_memory.reached m va access) (guest_memory.reached g va access)
    unfolding guest_memory fenced_memory user_memory
    alike_reached va access =
        subst (λ (o : Option ℕ). Alike (record { state = touched_in m.state o va access; directory = m.directory }) g) (sym r.loaded) (alike_touched va access)

    -- what is stored is stored there too
    stored_order : (va byte : ℕ) → IsInOrder (with_spaces m.state (stored_byte m.state.spaces d va byte))
    stored_order va byte =
        let h = r.stands.in_order in record {
          frames = stored_kept m.state.spaces d va byte h.frames;
          spaces = spaces_kept m.state.spaces (stored_byte m.state.spaces d va byte) m.state.environments (stored_uses m.state.spaces d va byte) h.spaces;
        }

    later : (a : AbstractState) → StandsAfter a n it g.state.console → StandsAfter a n old console
    later a s = record {
      it = s.it;
      there = s.there;
      program = s.program ∙ r.after.program;
      phase = s.phase ∙ r.after.phase;
      console_is = s.console_is ∙ r.after.console_is;
    }

    alike_put : (va byte : ℕ) → byte < 256 → (is_inside va && is_allowed m.state.spaces d va Write) ≡ true →
        Alike (record { state = with_spaces m.state (stored_byte m.state.spaces d va byte); directory = m.directory })
        (record { state = stored g.state n it va byte; slot = n })
    alike_put va byte small on =
        let h = and_parts (is_inside va) (is_allowed m.state.spaces d va Write) on in
        let found = user_entry_write names m.state g.state n it r.stands r.after.there va h.0 h.1 in
        let put = byte_stored m.state.spaces d va byte found.0 (inside_number va h.0) found.1 found.2 in
        let outside = ap is_in_handler stands_at in record {
          loaded = r.loaded;
          slot = refl;
          kept = r.kept;
          last = r.last;
          rows_kept = put.rows ∙ r.rows_kept;
          after = later (stored g.state n it va byte) (stored_after g.state n it va byte (it.memory (page_number va)) r.after.there);
          stands = stored_stands r.stands n it r.after.there outside (ap borne_in stands_at)
              (ap is_making_pipe stands_at) (ap is_piped stands_at) r.last va byte small (inside_programs va h.0) (lasting found.0)
              (row_is m.state.spaces d (page_number va) found.0 found.1) found.3 put (stored_order va byte);
        }

    alike_stored : (va byte : ℕ) → byte < 256 → fenced_memory.allowed m va Write ≡ true →
        Alike (fenced_memory.stored m va byte) (guest_memory.stored g va byte)
    unfolding guest_memory fenced_memory user_memory
    alike_stored va byte small on =
        rw (r.slot, r.after.there)
        (subst (λ (o : Option ℕ). Alike (record { state = stored_in_space m.state o va byte; directory = m.directory }) (record { state = stored g.state n it va byte; slot = n }))
        (sym r.loaded) (alike_put va byte small (rw r.loaded at on)))

    -- what the abstract memory refuses its page does
    pub alike_refused : (error va : ℕ) → IsRefused guest_memory g (fault.Page (record { va = va; error = error })) →
        IsGuestRefusal (rows_of m.state.spaces d) error va
    unfolding guest_memory
    alike_refused error va h = by_fence (is_inside h.at) refl (rw (r.slot, r.after.there) at h.refused) (rw (r.slot, r.after.there) at h.fault_is)
      where
        by_fence : (inside : Bool) → is_inside h.at ≡ inside → (inside && page_allows (page_at it h.at) h.access) ≡ false →
            (if inside then fault.Page (page_fault (page_at it h.at) h.at h.access) else fault.Fence) ≡ fault.Page (record { va = va; error = error }) →
            IsGuestRefusal (rows_of m.state.spaces d) error va
        by_fence false is off told = absurd cc
        by_fence true is off told =
            subst (λ (f : PageFault). IsGuestRefusal (rows_of m.state.spaces d) f.error f.va)
            (page_same (page_fault (page_at it h.at) h.at h.access) (record { va = va; error = error }) told)
            (record {
              inside = is;
              small = error_small (page_at it h.at) h.access;
              refusal = user_refusal names m.state g.state n it r.stands r.after.there h.at is h.access off;
            })

  pub reading : AllowsFewer fenced_memory guest_memory Alike fenced_memory.allowed
  reading = record {
    allowed = λ {m} {n = g} r va access on. alike_right r va access on;
    fault = λ {m} {n = g} r va access off other. alike_fault r va access off other;
    byte = λ {m} {n = g} r va access on. alike_byte r va access on;
    reached = λ {m} {n = g} r va access on. alike_reached r va access;
    enough = λ {m} {n = g} r va access on. on;
    stays = λ {m} {n = g} r va access on. fenced_memory_is_lawful.reached_rights m va access;
  }

  pub writing : AgreesWriting fenced_memory guest_memory Alike fenced_memory.allowed
  writing = record {
    stored = λ {m} {n = g} r va byte small on. alike_stored r va byte small on;
    stays = λ {m} {n = g} r va byte small on. fenced_memory_is_lawful.stored_rights m va byte;
  }

  pub refusing : RefusesWrites fenced_memory guest_memory Alike
  refusing = record {
    reads = λ {m} {n = g} r va off. alike_reads r va off;
    writes = λ {m} {n = g} r va off on. lost_fault r va (alike_lost r va off on);
  }

pub quiet : IsQuiet guest_memory
unfolding guest_memory
quiet g va access = refl
