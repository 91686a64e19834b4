-- The step of a program under the library, as the kernel makes it, is the step of its slot in the abstract system: where
-- the kernel's state stands for an abstract one, the state after stands for the abstract one after, and the bytes that
-- are written are those that it prints. Or it is a write to a page that waits to be copied, which the handler of page faults
-- has in its hands then: nothing is written, and the state after stands for the same abstract one.
use Rattle.std.proofs.Common.{◌≡◌, ◌∙◌, ◌==◌, ◌+◌, ◌++◌, ◌<◌, ◌⊎◌, inl, inr, ℕ, Bool, true, false, List, [], ◌∷◌, refl, sym, ap, subst}
use Rattle.std.proofs.Common.{if◌then◌else◌, append-nil, arith}
use Rattle.std.specs.Prelude.{◌&&◌, ◌||◌, not, is_some, None, Some}
use Rattle.std.proofs.lemmas.Bool.{false≢true}
use Rattle.std.proofs.lemmas.Bool.Decides.{nat_tests}
use Rattle.std.proofs.Math.Bool.{or-true}
use Rattle.jos_base.specs.declared.called.Called.TheVariants.{Ended}
use Rattle.jos_base.specs.declared.line.Line.{Line}
use Rattle.jos_base.specs.declared.line.Line.TheVariants as line
use Rattle.jos_base.specs.declared.memory.PageFault.{PageFault}
use Rattle.jos_base.specs.declared.numbers.TheConstants.{FEC_PR, FEC_U, FEC_WR, T_BRKPT, T_GPFLT, T_PGFLT, T_SERVICE}
use Rattle.jos_base.specs.declared.registers.Regs.{Regs}
use Rattle.jos_base.specs.Environments.{Slot, free_slot}
use Rattle.jos_base.specs.KernelState.{KernelState, slot_at, with_slot_at, with_registers, with_extra}
use Rattle.jos_base.specs.Lines.{line_text}
use Rattle.jos_base.specs.SpacesState.{destroyed}
use Rattle.jos_base.specs.SystemCalls.{Did, Trapped, handled, delivered_to, deliver_fault, trapped_by, killed, without_environment}
use Rattle.jos_base.specs.TrapFrames.{user_flags}
use Rattle.jos_base.specs.Words.{page_number, upd}
use Rattle.jos_base.proofs.Maps.{upd-at, upd-twice}
use Rattle.jos_base.proofs.Uses.{directory_is}
use Rattle.jos_cpu.specs.declared.events.Event.{Event}
use Rattle.jos_cpu.specs.declared.events.Event.TheVariants.{Next, Soft, Raised}
use Rattle.jos_cpu.specs.declared.events.Gates.TheVariants.{Run}
use Rattle.jos_cpu.specs.Steps as cpu
use Rattle.jos_cpu.proofs.Agreement.{SameStep}
use Rattle.jos_cpu.proofs.FaultsRaised.{IsOfMemory, step_told}
use Rattle.jos_cpu.proofs.FewerWrites.{IsWriteStopped, step_or_stopped}
use Rattle.jos_cpu.proofs.FlagsKept.{step_keeps_flags}
use Rattle.jos_cpu.proofs.RegistersLeft.{Leaves, step_leaves}
use Rattle.jos_kernel.specs.Running.{Running, loaded_in}
use Rattle.jos_kernel.specs.Steps.{EnvStep, after_trap}
use Rattle.lib_os.specs.declared.place.Place.{Place}
use Rattle.lib_os.specs.declared.place.Place.TheVariants as place
use Rattle.lib_os.specs.AbstractState.{AbstractState, Born, born, guest, at_guest, faulted, in_service, entered, with_born}
use Rattle.lib_os.specs.AbstractRun.{abs_step}
use Rattle.lib_os.specs.Fence.{is_resident}
use Rattle.lib_os.specs.GuestStep as guests
use Rattle.lib_os.specs.GuestStep.{GuestMemory, guest_memory, guest_step, born_in, ends_with}
use Rattle.lib_os.specs.InOrder.{IsInOrder}
use Rattle.lib_os.specs.LibraryPages.{has_copy}
use Rattle.lib_os.specs.LibrarySteps.{GoesOn, copies_left, hidden_left, is_to_copy, left_at}
use Rattle.lib_os.specs.Places.{is_handlers, place_of, words_entered}
use Rattle.lib_os.specs.Services.{service_of}
use Rattle.lib_os.specs.Rows.{Names, Rows, rows_of}
use Rattle.lib_os.specs.StandsFor.{StandsAt, StandsFor, StandsForBorn, upcall_at, view_of, borne_in}
use Rattle.lib_os.specs.StandsInHandler.{AreSmall, IsAtGuest, is_write}
use Rattle.lib_os.proofs.EndsStand.{ended_stands}
use Rattle.lib_os.proofs.FaultsStand.{esp_free, fault_copies, fault_ends, fault_handled, fault_lowers, guest_at, guest_beneath, handed, stack_frame}
use Rattle.lib_os.proofs.Logical.{is_plain}
use Rattle.lib_os.proofs.PipesStand.{calm_places, descriptors_turned, is_calm}
use Rattle.lib_os.proofs.Removing.{destroyed_gone}
use Rattle.lib_os.proofs.Serving.{library_moved, words_of_none, pages_kept}
use Rattle.lib_os.proofs.Slots.{slot_back}
use Rattle.lib_os.proofs.SlotsSet.{both_set}
use Rattle.lib_os.proofs.SlotsStand.{born_at, born_live}
use Rattle.lib_os.proofs.StatesStand.{slot_changed, printed_stands, Settles}
use Rattle.jos_run.specs.FencedMemory.{fenced_memory}
use Rattle.jos_run.specs.GuestSteps.{quietly, goes_on, service_entered, after_event, after_instruction, guest_instruction, is_copying, is_handed_over}
use Rattle.jos_run.proofs.GuestMemories.{Alike, IsGuestCopy, IsGuestRefusal, alike_lost, alike_refused, refusal_rests, stands_at}
use Rattle.jos_run.proofs.GuestMemories.{quiet, reading, refusing, writing}
use Rattle.jos_run.proofs.ServicesEntered.{entered_holds, entered_plain, place_entered}

-- ---- a program's step

-- one that stands at its program and is not blocked makes an instruction
step_of_guest : (a : AbstractState) (n : ℕ) (b : Born) (regs : Regs) → a.slots n ≡ born b → b.blocked ≡ false → b.program ≡ guest regs →
    b.phase ≡ at_guest → abs_step a n ≡ Some (guest_step a n regs)
unfolding abs_step
step_of_guest a n b regs there awake program phase = rw (there, awake, program, phase) refl

-- where the stack pointer belongs to none of the library's parts, it lies on no stack of the handler
pub not_handlers : (esp : ℕ) → is_resident esp ≡ false → is_handlers esp ≡ false
not_handlers esp free = grind (arith, nat_tests)

stack_free : (esp : ℕ) → is_resident esp ≡ false → (is_handlers esp || not (is_resident esp)) ≡ true
stack_free esp free = ap (λ (c : Bool). is_handlers esp || not c) free ∙ or-true (is_handlers esp)

-- ---- the kernel's steps

module _ (t : KernelState) (n : ℕ) (regs : Regs) where
  abbrev after : KernelState
  after = with_registers t n regs

  slot_set : slot_at after n ≡ record (slot_at t n) { registers = regs }
  slot_set = upd-at t.environments.slots n (record (slot_at t n) { registers = regs })

  -- what ends leaves no registers
  without_set : without_environment after n ≡ without_environment t n
  without_set =
      let slots = t.environments.slots in
      let first : Slot = record (slots n) { registers = regs } in
      (λ i. record t {
        spaces = destroyed t.spaces (slot_set i).directory;
        environments = record { slots = upd (upd slots n first) n (free_slot (slot_set i).id); free_slots = n ∷ t.environments.free_slots };
      })
      ∙ (λ i. record t {
        spaces = destroyed t.spaces (slots n).directory;
        environments = record { slots = upd-twice slots n first (free_slot (slots n).id) i; free_slots = n ∷ t.environments.free_slots };
      })

  killed_set : (why : Line) → killed after n why ≡ killed t n why
  unfolding killed
  killed_set why = λ i. record { state = without_set i; called = Ended; written = line_text (slot_set i).id why }

  -- the registers that it had leave all as it is
  same_set : regs ≡ (slot_at t n).registers → after ≡ t
  same_set same = slot_back t n (record (slot_at t n) { registers = regs }) (λ i. record (slot_at t n) { registers = same i })

-- ---- what comes of the instruction

-- registers with which a page fault is raised are small
abbrev pub SmallAtFault : Regs → Event → Type 0
SmallAtFault regs (Raised trap error va) = (trap == T_PGFLT) ≡ true → AreSmall regs
SmallAtFault regs _ = Unit {0}

module _ (names : Names) (n : ℕ) (k : Slot) (is_guest : place_of k ≡ place.Guest) (rows : Rows) (old : Born) (console : List ℕ) where
  abbrev AlikeHere : Running → GuestMemory → Type 0
  AlikeHere = Alike names n k is_guest rows old console

  -- the bytes that are written are printed, and the state stands for the abstract one
  record Goes (state : KernelState) (written : List ℕ) (next : AbstractState) : Type 0 where
    printed : next.console ≡ console ++ written
    stands : IsInOrder state → StandsFor names state next

  module _ {m : Running} {g : GuestMemory} (r : AlikeHere m g) where
    abbrev ip : ℕ
    ip = k.registers.eip

    abbrev it : Born
    it = r.after.it

    abbrev d : ℕ
    d = (slot_at m.state n).directory

    abbrev born_stands : StandsForBorn names m.state.spaces (slot_at m.state n) it
    born_stands = born_at r.stands n it r.after.there

    at_program : place_of (slot_at m.state n) ≡ place.Guest
    at_program = stands_at names n k is_guest rows old console r

    is_at_guest : IsAtGuest (slot_at m.state n) it
    is_at_guest = guest_at r.stands n it r.after.there at_program

    -- it ends
    ends : (why : Line) → Goes (killed m.state n why).state (killed m.state n why).written (ends_with g.state n it why)
    unfolding killed
    ends why =
        let h = r.stands.in_order in
        let used = directory_is (m.state.spaces.uses d) (h.spaces.in_use n (born_live born_stands)) in record {
          printed = λ i. r.after.console_is i ++ line_text (sym born_stands.id i) why;
          stands = λ order. printed_stands (ended_stands r.stands n it r.after.there (ap borne_in at_program) (ap is_calm at_program) r.last
              (destroyed_gone m.state.spaces d h.frames used) order)
              (line_text it.id why);
        }

    ends_set : (regs : Regs) (why : Line) →
        Goes (killed (with_registers m.state n regs) n why).state (killed (with_registers m.state n regs) n why).written (ends_with g.state n it why)
    ends_set regs why =
        subst (λ (did : Did). Goes did.state did.written (ends_with g.state n it why)) (sym (killed_set m.state n regs why)) (ends why)

    -- it goes on, with nothing written
    moves : (slot : Slot) (next : Born) → slot.directory ≡ d → Settles (slot_at m.state n) slot → is_plain (place_of slot) ≡ true →
        is_calm (place_of slot) ≡ true → StandsForBorn names m.state.spaces slot next → ((fd : ℕ) → next.descriptors fd ≡ it.descriptors fd) →
        Goes (with_slot_at m.state n slot) [] (with_born g.state n next)
    moves slot next same settles plain calm h descriptors = record {
      printed = r.after.console_is ∙ sym (append-nil console);
      stands = λ order. slot_changed r.stands n it r.after.there slot next same settles (ap is_plain at_program) plain h
          (calm_places (ap is_calm at_program) calm) descriptors;
    }

    abbrev with_regs : Regs → Slot
    with_regs regs = record (slot_at m.state n) { registers = regs }

    place_with : (regs : Regs) → is_resident regs.esp ≡ false → place_of (with_regs regs) ≡ place.Guest
    place_with regs outside = words_of_none regs (slot_at m.state n).extra (not_handlers regs.esp outside) is_at_guest.words

    stepped : (regs : Regs) → is_resident regs.esp ≡ false → regs.eflags ≡ user_flags regs.eflags →
        StandsForBorn names m.state.spaces (with_regs regs) (record it { program = guest regs })
    stepped regs outside flags =
        let h = born_stands in
        let w = is_at_guest in
        let there = place_with regs outside in record {
          id = h.id;
          id_small = h.id_small;
          parent = h.parent;
          env_type = h.env_type;
          runs = h.runs;
          upcall = h.upcall ∙ ap upcall_at (at_program ∙ sym there);
          descriptors = descriptors_turned names m.state.spaces d (place_of (slot_at m.state n)) (place_of (with_regs regs)) it.descriptors
              (ap is_calm at_program) (ap is_calm there) h.descriptors;
          memory = h.memory;
          library = library_moved (place_of (slot_at m.state n)) (place_of (with_regs regs)) (slot_at m.state n).extra (slot_at m.state n).extra
              (rows_of m.state.spaces d) (ap has_copy (at_program ∙ sym there))
              (ap (λ (p : Place). pages_kept p (slot_at m.state n).extra) (at_program ∙ sym there)) h.library;
          regions_have = h.regions_have;
          regions_only = h.regions_only;
          stack = stack_free regs.esp outside;
          flags = flags;
          at = subst (λ (p : Place). StandsAt p (view_of m.state.spaces d) (with_regs regs) (record it { program = guest regs })) (sym there)
              (record { program = refl; phase = w.phase; words = w.words; silent = w.silent; awake = w.awake });
        }

    abbrev asked_slot : Regs → Slot
    asked_slot regs = record (slot_at m.state n) { registers = regs; extra = words_entered regs }

    abbrev asked_born : Regs → Born
    asked_born regs = record it { program = guest regs; phase = in_service (service_of regs) entered; spawning = None }

    asked : (regs : Regs) → is_resident regs.esp ≡ false → regs.eflags ≡ user_flags regs.eflags →
        StandsForBorn names m.state.spaces (asked_slot regs) (asked_born regs)
    asked regs outside flags =
        let h = born_stands in
        let w = is_at_guest in
        let there = place_entered regs (not_handlers regs.esp outside) in record {
          id = h.id;
          id_small = h.id_small;
          parent = h.parent;
          env_type = h.env_type;
          runs = h.runs;
          upcall = h.upcall ∙ ap upcall_at at_program ∙ sym (ap upcall_at there);
          descriptors = descriptors_turned names m.state.spaces d (place_of (slot_at m.state n)) (place_of (asked_slot regs)) it.descriptors
              (ap is_calm at_program) (ap is_calm there) h.descriptors;
          memory = h.memory;
          library = library_moved (place_of (slot_at m.state n)) (place_of (asked_slot regs)) (slot_at m.state n).extra (words_entered regs)
              (rows_of m.state.spaces d) (ap has_copy at_program ∙ sym (ap has_copy there))
              (ap (λ (p : Place). pages_kept p (slot_at m.state n).extra) at_program
              ∙ sym (ap (λ (p : Place). pages_kept p (words_entered regs)) there ∙ entered_holds (service_of regs) (words_entered regs))) h.library;
          regions_have = h.regions_have;
          regions_only = h.regions_only;
          stack = stack_free regs.esp outside;
          flags = flags;
          at = subst (λ (p : Place). StandsAt p (view_of m.state.spaces d) (asked_slot regs) (asked_born regs)) (sym there)
              (record { program = refl; phase = refl; silent = w.silent; awake = w.awake });
        }

    -- ---- by what comes of it

    abbrev GoesOnTo : EnvStep → AbstractState → Type 0
    GoesOnTo did next = Goes did.state did.written next

    on_next : (regs : Regs) → regs.eflags ≡ user_flags regs.eflags →
        GoesOnTo (goes_on (with_registers m.state n regs) n ip) (guests.goes_on g.state n it ip regs)
    on_next regs flags =
        let e : is_resident (slot_at (with_registers m.state n regs) n).registers.esp ≡ is_resident regs.esp =
        ap (λ (slot : Slot). is_resident slot.registers.esp) (slot_set m.state n regs) in
        rw e (by_stack (is_resident regs.esp) refl)
      where
        by_stack : (c : Bool) → is_resident regs.esp ≡ c →
            GoesOnTo (if c then after_trap (with_registers m.state n regs) n T_GPFLT 0 0 ip else quietly (with_registers m.state n regs))
            (if c then ends_with g.state n it (line.Trap T_GPFLT 0 ip) else with_born g.state n (record it { program = guest regs }))
        by_stack true is = ends_set regs (line.Trap T_GPFLT 0 ip)
        by_stack false is =
            moves (with_regs regs) (record it { program = guest regs }) refl (record { id = refl; env_type = refl; turns = refl; calm = λ runs. runs })
            (ap is_plain (place_with regs is)) (ap is_calm (place_with regs is)) (stepped regs is flags) (λ fd. refl)

    on_soft : (regs : Regs) (vector : ℕ) → regs.esp ≡ k.registers.esp → regs.eflags ≡ user_flags regs.eflags →
        GoesOnTo (after_event (with_registers m.state n regs) n ip (Soft vector)) (guests.after_event g.state n it ip regs (Soft vector))
    on_soft regs vector stack flags = by_vector (vector == T_SERVICE)
      where
        outside : is_resident regs.esp ≡ false
        outside =
            ap is_resident stack ∙ ap (λ (slot : Slot). is_resident slot.registers.esp) (sym r.kept)
            ∙ esp_free r.stands n it r.after.there place.Guest at_program refl refl refl

        entered_is : with_extra (with_registers m.state n regs) n (words_entered (slot_at (with_registers m.state n regs) n).registers)
            ≡ with_slot_at m.state n (asked_slot regs)
        entered_is =
            ap (λ (slot : Slot). with_extra (with_registers m.state n regs) n (words_entered slot.registers)) (slot_set m.state n regs)
            ∙ both_set m.state n regs (words_entered regs)

        by_vector : (c : Bool) →
            GoesOnTo (if c then service_entered (with_registers m.state n regs) n
            else after_trap (with_registers m.state n regs) n T_BRKPT 0 0 (slot_at (with_registers m.state n regs) n).registers.eip)
            (if c then guests.service_entered g.state n it regs else ends_with g.state n it (line.Trap T_BRKPT 0 regs.eip))
        by_vector true =
            subst (λ (state : KernelState). Goes state [] (with_born g.state n (asked_born regs))) (sym entered_is)
            (moves (asked_slot regs) (asked_born regs) refl (record { id = refl; env_type = refl; turns = refl; calm = λ runs. runs })
            (ap is_plain (place_entered regs (not_handlers regs.esp outside)) ∙ entered_plain (service_of regs))
            (ap is_calm (place_entered regs (not_handlers regs.esp outside))) (asked regs outside flags) (λ fd. refl))
        by_vector false =
            let e : (slot_at (with_registers m.state n regs) n).registers.eip ≡ regs.eip =
            ap (λ (slot : Slot). slot.registers.eip) (slot_set m.state n regs) in
            rw e (ends_set regs (line.Trap T_BRKPT 0 regs.eip))

    -- what is delivered of a page fault
    abbrev fault_state : PageFault → KernelState
    fault_state fault = handed m.state n fault (stack_frame r.stands n it r.after.there place.Guest at_program refl refl refl)

    delivered_is : (regs : Regs) (fault : PageFault) → regs ≡ k.registers →
        deliver_fault (with_registers m.state n regs) n fault ≡ record { state = fault_state fault; written = [] }
    delivered_is regs fault same =
        ap (λ (t : KernelState). deliver_fault t n fault)
        (same_set m.state n regs (same ∙ ap (λ (slot : Slot). slot.registers) (sym r.kept)))
        ∙ ap (delivered_to m.state n fault) (fault_handled r.stands n it r.after.there place.Guest at_program refl refl refl fault)

    -- it is marked with a page fault that ends it
    marked : (error va : ℕ) → AreSmall k.registers → IsGuestRefusal (rows_of m.state.spaces d) error va →
        Goes (fault_state (record { va = va; error = error })) [] (with_born g.state n (record it { phase = faulted va ip }))
    marked error va small refusal = record {
      printed = r.after.console_is ∙ sym (append-nil console);
      stands = λ order.
          subst (λ (slot : Slot). StandsFor names (fault_state (record { va = va; error = error }))
          (with_born g.state n (record it { phase = faulted va slot.registers.eip }))) r.kept
          (fault_ends r.stands n it r.after.there place.Guest at_program refl refl refl (record { va = va; error = error })
          (guest_at r.stands n it r.after.there at_program)
          (subst (λ (slot : Slot). AreSmall slot.registers) (sym r.kept) small) refusal.inside refusal.small refusal.refusal order r.last);
    }

    on_raised : (regs : Regs) (trap error va : ℕ) → regs ≡ k.registers → IsOfMemory guest_memory (Raised trap error va) g →
        ((trap == T_PGFLT) ≡ true → AreSmall k.registers) →
        GoesOnTo (after_trap (with_registers m.state n regs) n trap error va ip) (guests.trapped g.state n it ip trap error va)
    on_raised regs trap error va same told small = by_trap (trap == T_PGFLT) refl
      where
        by_trap : (c : Bool) → (trap == T_PGFLT) ≡ c →
            (let done : Trapped = if◌then◌else◌ {A = Trapped} c (deliver_fault (with_registers m.state n regs) n (record { va = va; error = error }))
            (trapped_by (killed (with_registers m.state n regs) n (line.Trap trap error ip))) in
            Goes done.state done.written
            (if c then with_born g.state n (record it { phase = faulted va ip }) else ends_with g.state n it (line.Trap trap error ip)))
        by_trap true is =
            let refusal = alike_refused names n k is_guest rows old console r error va (told is) in
            subst (λ (done : Trapped). Goes done.state done.written (with_born g.state n (record it { phase = faulted va ip })))
            (sym (delivered_is regs (record { va = va; error = error }) same)) (marked error va (small is) refusal)
        by_trap false is = ends_set regs (line.Trap trap error ip)

    by_event : (event : Event) (regs : Regs) → Leaves event k.registers regs → regs.eflags ≡ user_flags regs.eflags →
        IsOfMemory guest_memory event g → SmallAtFault k.registers event →
        GoesOnTo (after_event (with_registers m.state n regs) n ip event) (guests.after_event g.state n it ip regs event)
    by_event Next regs left flags told small = on_next regs flags
    by_event (Soft vector) regs left flags told small = on_soft regs vector left flags
    by_event (Raised trap error va) regs left flags told small = on_raised regs trap error va left told small

    written_so : (event : Event) (regs : Regs) → Leaves event k.registers regs → regs.eflags ≡ user_flags regs.eflags →
        IsOfMemory guest_memory event g → SmallAtFault k.registers event →
        GoesOnTo (after_event (with_registers m.state n regs) n ip event) (guests.after_writes g.state n ip regs event (born_in (g.state.slots n)))
    written_so event regs left flags told small = rw r.after.there (by_event event regs left flags told small)

    -- no page is copied for it
    nothing_copied : (event : Event) (regs : Regs) → IsOfMemory guest_memory event g → is_copying (with_registers m.state n regs) n event ≡ false
    nothing_copied Next regs told = refl
    nothing_copied (Soft vector) regs told = refl
    nothing_copied (Raised trap error va) regs told =
        ap (λ (slot : Slot). (trap == T_PGFLT) && (is_write error && is_to_copy (rows_of m.state.spaces slot.directory (page_number va))))
        (slot_set m.state n regs) ∙ by_trap (trap == T_PGFLT) refl
      where
        by_trap : (c : Bool) → (trap == T_PGFLT) ≡ c → (c && (is_write error && is_to_copy (rows_of m.state.spaces d (page_number va)))) ≡ false
        by_trap false is = refl
        by_trap true is =
            refusal_rests (rows_of m.state.spaces d) error va (alike_refused names n k is_guest rows old console r error va (told is))

    -- ---- a write to a page that waits to be copied

    abbrev copy_fault : ℕ → PageFault
    copy_fault va = record { va = va; error = FEC_U + FEC_PR + FEC_WR }

    -- The handler has its fault in its hands then: nothing is written, and of the steps that are hidden fewer are left.
    record Copies (did : EnvStep) : Type 0 where
      written : did.written ≡ []
      stands : IsInOrder did.state → StandsFor names did.state g.state
      lowers : hidden_left did.state n < left_at (place_of k) (copies_left (rows k.directory))

    copies_so : (va : ℕ) (regs : Regs) → regs ≡ k.registers → AreSmall k.registers → IsGuestCopy m.state.spaces d va →
        Copies (after_event (with_registers m.state n regs) n ip (Raised T_PGFLT (FEC_U + FEC_PR + FEC_WR) va))
    copies_so va regs same small copy =
        let told = delivered_is regs (copy_fault va) same in
        let state_is : (deliver_fault (with_registers m.state n regs) n (copy_fault va)).state ≡ fault_state (copy_fault va) =
        ap (λ (done : Trapped). done.state) told in
        record {
          written = ap (λ (done : Trapped). done.written) told;
          stands = λ order.
              subst (λ (t : KernelState). StandsFor names t g.state) (sym state_is)
              (fault_copies r.stands n it r.after.there place.Guest at_program refl refl refl (copy_fault va)
              (subst (λ (slot : Slot). AreSmall slot.registers) (sym r.kept) small) copy.inside refl copy.lost.page
              (guest_beneath r.stands n it r.after.there at_program) (subst IsInOrder state_is order) r.last);
          lowers =
              subst (λ (t : KernelState). hidden_left t n < left_at (place_of k) (copies_left (rows k.directory))) (sym state_is)
              (subst (λ (left : ℕ). hidden_left (fault_state (copy_fault va)) n < left)
              (λ i. left_at (place_of (r.kept i)) (copies_left (r.rows_kept i (r.kept i).directory)))
              (fault_lowers r.stands n it r.after.there place.Guest at_program refl refl refl (copy_fault va) refl copy.inside copy.lost.page));
        }

    copied_so : (va : ℕ) (regs : Regs) → IsGuestCopy m.state.spaces d va →
        is_copying (with_registers m.state n regs) n (Raised T_PGFLT (FEC_U + FEC_PR + FEC_WR) va) ≡ true
    copied_so va regs copy =
        ap (λ (slot : Slot). is_to_copy (rows_of m.state.spaces slot.directory (page_number va))) (slot_set m.state n regs)
        ∙ ap is_to_copy copy.lost.page.stands ∙ copy.lost.page.copied

    handed_so : (va : ℕ) (regs : Regs) → regs ≡ k.registers →
        is_handed_over (with_registers m.state n regs) n (Raised T_PGFLT (FEC_U + FEC_PR + FEC_WR) va) ≡ true
    handed_so va regs same =
        ap (λ (t : KernelState). is_some (handled t n (copy_fault va)))
        (same_set m.state n regs (same ∙ ap (λ (slot : Slot). slot.registers) (sym r.kept)))
        ∙ ap is_some (fault_handled r.stands n it r.after.there place.Guest at_program refl refl refl (copy_fault va))

  -- two steps in related memories
  after_both : (s : cpu.Stepped Running) (z : cpu.Stepped GuestMemory) → SameStep AlikeHere s z → Leaves s.event k.registers s.regs →
      s.regs.eflags ≡ user_flags s.regs.eflags → IsOfMemory guest_memory s.event z.memory → SmallAtFault k.registers s.event →
      Goes (after_instruction n k.registers.eip s).state (after_instruction n k.registers.eip s).written (guests.after_instruction n k.registers.eip z)
  after_both s z same left flags told small =
      rw (same.regs, same.event) (written_so same.memory s.event s.regs left flags told small)

-- ---- the theorem

-- the instruction as the processor makes it
abbrev pub instruction_step : KernelState → ℕ → cpu.Stepped Running
instruction_step s n = let k = slot_at s n in cpu.step_of fenced_memory k.registers (loaded_in s k.directory) Run

-- what it leaves, with its registers in the slot
abbrev pub instruction_end : KernelState → ℕ → KernelState
instruction_end s n = let step = instruction_step s n in with_registers step.memory.state n step.regs

-- whether a page to be copied has stopped it
abbrev pub copying_at : KernelState → ℕ → Bool
copying_at s n = is_copying (instruction_end s n) n (instruction_step s n).event

-- The step is the slot's in the abstract system.
pub record IsGuestStep (names : Names) (s : KernelState) (a : AbstractState) (n : ℕ) : Type 0 where
  pub seen : copying_at s n ≡ false
  pub next : AbstractState
  pub step_is : abs_step a n ≡ Some next
  pub console : next.console ≡ a.console ++ (guest_instruction s n).written
  pub stands : IsInOrder (guest_instruction s n).state → StandsFor names (guest_instruction s n).state next

-- A page to be copied has stopped it: the handler has the fault, nobody sees that, and of the steps that nobody sees fewer are left.
pub record IsCopied (names : Names) (s : KernelState) (a : AbstractState) (n : ℕ) : Type 0 where
  pub copying : copying_at s n ≡ true
  pub handed_over : is_handed_over (instruction_end s n) n (instruction_step s n).event ≡ true
  pub written : (guest_instruction s n).written ≡ []
  pub stands : IsInOrder (guest_instruction s n).state → StandsFor names (guest_instruction s n).state a
  pub lowers : hidden_left (guest_instruction s n).state n < hidden_left s n

module _ (names : Names) (s : KernelState) (a : AbstractState) (n : ℕ) (b : Born) (h : StandsFor names s a) (there : a.slots n ≡ born b)
    (is_guest : place_of (slot_at s n) ≡ place.Guest) (small : SmallAtFault (slot_at s n).registers (instruction_step s n).event)
    (last : s.last ≡ Some n) where
  abbrev k : Slot
  k = slot_at s n

  abbrev AlikeNow : Running → GuestMemory → Type 0
  AlikeNow = Alike names n k is_guest (rows_of s.spaces) b a.console

  abbrev first : GuestMemory
  first = record { state = a; slot = n }

  start : AlikeNow (loaded_in s k.directory) first
  start = record {
    loaded = refl;
    slot = refl;
    kept = refl;
    last = last;
    rows_kept = refl;
    after = record { it = b; there = there; program = refl; phase = refl; console_is = refl };
    stands = h;
  }

  its_step : abs_step a n ≡ Some (guest_step a n k.registers)
  its_step =
      let w = guest_at h n b there is_guest in
      step_of_guest a n b k.registers there w.awake w.program w.phase

  abbrev abstract_step : cpu.Stepped GuestMemory
  abstract_step = cpu.step_of guest_memory k.registers first Run

  as_seen : SameStep AlikeNow (instruction_step s n) abstract_step → IsGuestStep names s a n
  unfolding guest_instruction guest_step
  as_seen same =
      let step = instruction_step s n in
      let told : IsOfMemory guest_memory step.event abstract_step.memory =
      subst (λ (event : Event). IsOfMemory guest_memory event abstract_step.memory) same.event (step_told guest_memory k.registers Run first) in
      let goes = after_both names n k is_guest (rows_of s.spaces) b a.console step abstract_step same
      (step_leaves fenced_memory Run k.registers (loaded_in s k.directory))
      (step_keeps_flags fenced_memory k.registers (loaded_in s k.directory) Run (born_at h n b there).flags) told small in
      record {
        seen = nothing_copied names n k is_guest (rows_of s.spaces) b a.console same.memory step.event step.regs told;
        next = guest_step a n k.registers;
        step_is = its_step;
        console = goes.printed;
        stands = goes.stands;
      }

  as_copied : IsWriteStopped fenced_memory guest_memory AlikeNow k.registers (loaded_in s k.directory) first (instruction_step s n) →
      IsCopied names s a n
  unfolding guest_instruction
  as_copied stop =
      let step = instruction_step s n in
      let copy = alike_lost names n k is_guest (rows_of s.spaces) b a.console stop.related stop.va stop.refused stop.allowed in
      let few : AreSmall k.registers = subst (λ (event : Event). SmallAtFault k.registers event) stop.event small refl in
      let event_is : Raised T_PGFLT (FEC_U + FEC_PR + FEC_WR) stop.va ≡ step.event = sym stop.event in
      let copies = subst (λ (event : Event). Copies names n k is_guest (rows_of s.spaces) b a.console stop.related
      (after_event (with_registers step.memory.state n step.regs) n k.registers.eip event)) event_is
      (copies_so names n k is_guest (rows_of s.spaces) b a.console stop.related stop.va step.regs stop.regs_kept few copy) in
      record {
        copying =
            subst (λ (event : Event). is_copying (instruction_end s n) n event ≡ true) event_is
            (copied_so names n k is_guest (rows_of s.spaces) b a.console stop.related stop.va step.regs copy);
        handed_over =
            subst (λ (event : Event). is_handed_over (instruction_end s n) n event ≡ true) event_is
            (handed_so names n k is_guest (rows_of s.spaces) b a.console stop.related stop.va step.regs stop.regs_kept);
        written = copies.written;
        stands = copies.stands;
        lowers = copies.lowers;
      }

  -- It is the slot's step, or it is stopped by a page to be copied.
  pub guest_stands : IsGuestStep names s a n ⊎ IsCopied names s a n
  guest_stands = elim (step_or_stopped (reading names n k is_guest (rows_of s.spaces) b a.console)
      (writing names n k is_guest (rows_of s.spaces) b a.console) (refusing names n k is_guest (rows_of s.spaces) b a.console) quiet k.registers Run start) [
        | inl same ↦ inl (as_seen same)
        | inr stop ↦ inr (as_copied stop)
      ]

  -- where none has stopped it, it goes on as a visible step does
  pub guest_seen : copying_at s n ≡ false → IsGuestStep names s a n
  guest_seen is = elim guest_stands [
    | inl seen ↦ seen
    | inr copied ↦ absurd (false≢true (sym is ∙ copied.copying))
  ]

  pub guest_goes_on : copying_at s n ≡ false → IsInOrder (guest_instruction s n).state →
      GoesOn n (guest_instruction s n).state a (guest_instruction s n).written
  guest_goes_on is order = let g = guest_seen is in (g.next, g.step_is, g.console, (names, g.stands order))

  pub guest_copied : copying_at s n ≡ true → IsCopied names s a n
  guest_copied is = elim guest_stands [
    | inl seen ↦ absurd (false≢true (sym seen.seen ∙ is))
    | inr copied ↦ copied
  ]
