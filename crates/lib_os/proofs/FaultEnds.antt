-- An access that the entry of its page refuses, by an environment that handles no page faults, ends it with a line, as its program ends
-- that raised the fault.
use Rattle.std.proofs.Common.{◌≡◌, ◌∙◌, ◌&&◌, ◌+◌, ◌<◌, ℕ, Bool, true, false, not, ◌∷◌, refl, ap}
use Rattle.std.specs.Prelude.{Option, Some, None, Err}
use Rattle.jos_base.specs.declared.line.Line.TheVariants as line
use Rattle.jos_base.specs.declared.line.Line.TheVariants.{UserFault}
use Rattle.jos_base.specs.declared.memory.Access.{Access}
use Rattle.jos_base.specs.declared.memory.Access.TheVariants.{Read, Write}
use Rattle.jos_base.specs.declared.memory.PageFault.{PageFault}
use Rattle.jos_base.specs.declared.numbers.TheConstants.{FEC_PR, FEC_U, FEC_WR}
use Rattle.jos_base.specs.declared.registers.Regs.{Regs}
use Rattle.jos_base.specs.Counting.{page_limit}
use Rattle.jos_base.specs.Environments.{Slot, free_slot}
use Rattle.jos_base.specs.KernelState.{KernelState, slot_at, with_registers}
use Rattle.jos_base.specs.Lines.{line_text}
use Rattle.jos_base.specs.Reach.{Entry, allows, reach_entry}
use Rattle.jos_base.specs.SpacesState.{SpacesState, destroyed}
use Rattle.jos_base.specs.SystemCalls.{has_write, is_page_perm, handled, killed, without_environment}
use Rattle.jos_base.specs.UserMemory.{reach_in}
use Rattle.jos_base.specs.Words.{page_number, upd}
use Rattle.jos_base.proofs.Maps.{upd-twice}
use Rattle.jos_base.proofs.Uses.{directory_is}
use Rattle.jos_base.proofs.Walks.{walked_below}
use Rattle.lib_os.specs.AbstractRun.{abs_step}
use Rattle.lib_os.specs.AbstractState.{AbstractState, Born, born, guest, faulted}
use Rattle.lib_os.specs.GuestStep.{ends_with}
use Rattle.lib_os.specs.InOrder.{IsInOrder}
use Rattle.lib_os.specs.Rows.{Names, lasting, rows_of, is_cow, IsUsers}
use Rattle.lib_os.specs.Places.{place_of}
use Rattle.lib_os.specs.StandsFor.{StandsFor, borne_in}
use Rattle.lib_os.specs.StandsInHandler.{is_refused_by}
use Rattle.lib_os.specs.UserCalls.{CallStep, gone, by_access, accessing}
use Rattle.lib_os.proofs.BytesRead.{lasting_reads, lasting_writes}
use Rattle.lib_os.proofs.EntryWords.{row_entry, row_missing}
use Rattle.lib_os.proofs.EndsStand.{ended_stands}
use Rattle.lib_os.proofs.PipesStand.{is_calm}
use Rattle.lib_os.proofs.Removing.{destroyed_gone}
use Rattle.lib_os.proofs.Slots.{slot_put}
use Rattle.lib_os.proofs.SlotsStand.{born_at, born_live}
use Rattle.lib_os.proofs.StatesStand.{printed_stands}

-- ---- an access that is refused

-- it is a write, or a read
abbrev pub access_of : Bool → Access
access_of true = Write
access_of false = Read

-- the fault of an access, at its address
pub record IsRefused (s : SpacesState) (d va : ℕ) (access : Access) : Type 0 where
  pub fault : PageFault
  pub is : reach_in s d va access ≡ Err fault
  pub at : fault.va ≡ va

module _ (s : SpacesState) (d va : ℕ) (below : page_number va < page_limit)
    (users : (x : Entry) → rows_of s d (page_number va) ≡ Some x → IsUsers x.perm) where
  by_walk : (o : Option Entry) → s.entries d (page_number va) ≡ o → (access : Access) → reach_in s d va access ≡ reach_entry o va access
  by_walk o is access = ap (λ (e : Option Entry). reach_entry e va access) (walked_below s d (page_number va) below ∙ is)

  write_refused : (row : Entry) → rows_of s d (page_number va) ≡ Some row → has_write row.perm ≡ false → IsRefused s d va Write
  write_refused row stands off =
      let found = row_entry s d (page_number va) row stands in
      let same : (lasting found.0).perm ≡ row.perm = ap (λ (e : Entry). e.perm) found.2 in
      let page : is_page_perm (lasting found.0).perm ≡ true = ap is_page_perm same ∙ (users row stands).page in
      let reads = lasting_reads found.0.perm page in
      let may : allows found.0.perm Write ≡ false = lasting_writes found.0.perm reads ∙ ap has_write same ∙ off in
      record {
        fault = record { va = va; error = FEC_U + FEC_PR + FEC_WR };
        is = by_walk (Some found.0) found.1 Write ∙ rw may refl;
        at = refl;
      }

  none_refused : rows_of s d (page_number va) ≡ None → (access : Access) → IsRefused s d va access
  none_refused none access = record { fault = _; is = by_walk None (row_missing s d (page_number va) none) access; at = refl }

  pub access_refused : (write : Bool) → is_refused_by write (rows_of s d (page_number va)) ≡ true → IsRefused s d va (access_of write)
  access_refused write refused = by_row (rows_of s d (page_number va)) refl refused
    where
      no_write : (writes copied : Bool) → (true && not writes && not copied) ≡ true → writes ≡ false
      no_write false copied is = refl
      no_write true copied is = absurd (let contradiction : false ≡ true = is in cc)

      by_kind : (w : Bool) (row : Entry) → rows_of s d (page_number va) ≡ Some row → is_refused_by w (Some row) ≡ true →
          IsRefused s d va (access_of w)
      by_kind true row stands is = write_refused row stands (no_write (has_write row.perm) (is_cow row.perm) is)
      by_kind false row stands is = absurd (let contradiction : false ≡ true = is in cc)

      by_row : (o : Option Entry) → rows_of s d (page_number va) ≡ o → is_refused_by write o ≡ true → IsRefused s d va (access_of write)
      by_row None none is = none_refused none (access_of write)
      by_row (Some row) stands is = by_kind write row stands is

-- ---- who handles none is gone by it

-- what is left, and what is written
abbrev pub ended_by : {X : Type 0} → KernelState → ℕ → ℕ → ℕ → CallStep X
ended_by s n va ip = record { state = without_environment s n; gives = gone; written = line_text (slot_at s n).id (UserFault va ip) }

pub refused_ends : {X : Type 0} (t : KernelState) (n va : ℕ) (access : Access) (done : KernelState → CallStep X) → (slot_at t n).upcall ≡ 0 →
    IsRefused t.spaces (slot_at t n).directory va access → by_access t n va access done ≡ ended_by t n va (slot_at t n).registers.eip
unfolding handled killed
refused_ends t n va access done none refused =
    ap (accessing t n va access done) refused.is
    ∙ rw none refl
    ∙ ap (λ (at : ℕ). ended_by t n at (slot_at t n).registers.eip) refused.at

-- It leaves nothing of its registers.
module _ (s : KernelState) (n : ℕ) (regs : Regs) where
  abbrev t : KernelState
  t = with_registers s n regs

  there : slot_at t n ≡ record (slot_at s n) { registers = regs }
  there = slot_put s n (record (slot_at s n) { registers = regs })

  without_set : without_environment t n ≡ without_environment s n
  without_set =
      let slots = s.environments.slots in
      let first : Slot = record (slots n) { registers = regs } in
      (λ i. record s {
        spaces = destroyed s.spaces (there i).directory;
        environments = record { slots = upd (upd slots n first) n (free_slot (there i).id); free_slots = n ∷ s.environments.free_slots };
      })
      ∙ (λ i. record s {
        spaces = destroyed s.spaces (slots n).directory;
        environments = record { slots = upd-twice slots n first (free_slot (slots n).id) i; free_slots = n ∷ s.environments.free_slots };
      })

  pub ended_set : {X : Type 0} (va : ℕ) → ◌≡◌ {A = CallStep X} (ended_by t n va (slot_at t n).registers.eip) (ended_by s n va regs.eip)
  ended_set va = λ i. record {
    state = without_set i;
    gives = gone;
    written = line_text (there i).id (UserFault va (there i).registers.eip);
  }

-- ---- the end of its program

-- A program that is marked with a fault ends by its next step.
pub faulted_step : (a : AbstractState) (n : ℕ) (b : Born) (regs : Regs) (va ip : ℕ) → a.slots n ≡ born b → b.blocked ≡ false →
    b.program ≡ guest regs → b.phase ≡ faulted va ip → abs_step a n ≡ Some (ends_with a n b (line.UserFault va ip))
unfolding abs_step
faulted_step a n b regs va ip is awake program phase = rw (is, awake, program, phase) refl

module _ {names : Names} {s : KernelState} {a : AbstractState} (h : StandsFor names s a) (n : ℕ) (b : Born) (is : a.slots n ≡ born b) where
  -- its line is the kernel's
  pub same_line : (va ip : ℕ) → line_text (slot_at s n).id (UserFault va ip) ≡ line_text b.id (line.UserFault va ip)
  same_line va ip = ap (λ (id : ℕ). line_text id (UserFault va ip)) (born_at h n b is).id

  -- and it is gone in both systems
  pub fault_ended : borne_in (place_of (slot_at s n)) ≡ None → is_calm (place_of (slot_at s n)) ≡ true → s.last ≡ Some n → (va ip : ℕ) → IsInOrder (without_environment s n) →
      StandsFor names (without_environment s n) (ends_with a n b (line.UserFault va ip))
  fault_ended unborne calm last va ip order =
      let used = directory_is (s.spaces.uses (slot_at s n).directory) (h.in_order.spaces.in_use n (born_live (born_at h n b is))) in
      printed_stands (ended_stands h n b is unborne calm last (destroyed_gone s.spaces (slot_at s n).directory h.in_order.frames used) order)
      (line_text b.id (line.UserFault va ip))
