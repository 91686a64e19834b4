-- A burst of the processor inside the fence, with the registers put back into the slot behind it, is as many instructions of
-- the program: those that go on, and the last, with what comes of it.
use Rattle.std.proofs.Common.{◌≡◌, ◌∙◌, ◌==◌, ℕ, zero, suc, Bool, true, false, List, Some, refl, sym, ap, subst, if◌then◌else◌}
use Rattle.std.specs.Prelude.{◌-◌, not}
use Rattle.std.proofs.lemmas.Bool.{false≢true}
use Rattle.jos_base.specs.declared.registers.Regs.{Regs}
use Rattle.jos_base.specs.Environments.{Slot, is_live}
use Rattle.jos_base.specs.KernelState.{KernelState, slot_at, with_registers}
use Rattle.jos_base.proofs.Maps.{upd-at}
use Rattle.jos_cpu.specs.declared.events.Event.{Event}
use Rattle.jos_cpu.specs.declared.events.Event.TheVariants.{Next, Soft, Raised}
use Rattle.jos_cpu.specs.declared.events.Gates.TheVariants.{Run}
use Rattle.jos_cpu.specs.Bursts.{ProcessorState, StepsTo, StepsOn, IsBurst}
use Rattle.jos_cpu.specs.Steps.{Stepped, step_of}
use Rattle.jos_cpu.proofs.Agreement.{through}
use Rattle.jos_kernel.specs.Running.{Running, memory_inside, loaded_in}
use Rattle.jos_kernel.proofs.EnvSteps.{with_registers_in, registers_twice, step_with_registers}
use Rattle.jos_kernel.proofs.KeepsRest.{KeepsRest, directory_is, slot_is, steps_keeps, going_keeps, burst_keeps}
use Rattle.lib_os.specs.declared.place.Place.{Place}
use Rattle.lib_os.specs.declared.place.Place.TheVariants as place
use Rattle.lib_os.specs.Fence.{is_inside, is_resident}
use Rattle.lib_os.specs.Places.{handler_step_in, is_handlers, place_in_words, place_of, service_word, step_in}
use Rattle.lib_os.specs.Services.{service_of}
use Rattle.lib_os.proofs.Slots as slots
use Rattle.jos_run.specs.FencedMemory.{fenced_memory, may_stand}
use Rattle.jos_run.specs.GuestSteps.{quietly, after_event, after_instruction, guest_instruction}
use Rattle.jos_run.specs.StepsAtOnce.{GuestGoesOn}
use Rattle.jos_run.proofs.GuestStands.{instruction_end, instruction_step, not_handlers}
use Rattle.jos_run.proofs.StepsAtOnce.{IsGuestBurst}

-- ---- the program's steps

abbrev is_program : Place → Bool
is_program place.Guest = true
is_program _ = false

-- where it stands at its program, it keeps no words
words_are_none : (regs : Regs) (words : List ℕ) → place_in_words regs words ≡ place.Guest → (service_word words == 0) ≡ true
unfolding place_in_words
words_are_none regs words is =
    by_tests (is_handlers regs.esp) (service_word words == 0) (place.InHandler (handler_step_in regs))
    (place.InService (service_of (record regs { eax = service_word words - 1 })) (step_in words)) refl refl is
  where
    by_tests : (esp none : Bool) (p q : Place) → is_program p ≡ false → is_program q ≡ false →
        (if esp then p else if none then place.Guest else q) ≡ place.Guest → none ≡ true
    by_tests true none p q no_p no_q is = absurd (false≢true (sym no_p ∙ ap is_program is))
    by_tests false true p q no_p no_q is = refl
    by_tests false false p q no_p no_q is = absurd (false≢true (sym no_q ∙ ap is_program is))

none_are_guests : (regs : Regs) (words : List ℕ) → is_handlers regs.esp ≡ false → (service_word words == 0) ≡ true →
    place_in_words regs words ≡ place.Guest
unfolding place_in_words
none_are_guests regs words outside none = rw (outside, none) refl

free_stack : (esp : ℕ) → may_stand esp ≡ true → is_resident esp ≡ false
free_stack esp may = by_test (is_resident esp) may
  where
    by_test : (c : Bool) → not c ≡ true → c ≡ false
    by_test true is = absurd (false≢true is)
    by_test false is = refl

-- where so many of its instructions go on, it stands at its program behind them
guest_reached : (n k : ℕ) (s t : KernelState) → GuestGoesOn n k s t → place_of (slot_at s n) ≡ place.Guest → place_of (slot_at t n) ≡ place.Guest
guest_reached n zero s t same guest = (λ i. place_of (slot_at (same i) n)) ∙ guest
guest_reached n (suc k) s t g guest = guest_reached n k g.0 t g.3 g.2

module _ (n : ℕ) where
  -- the kernel's state with the registers in the slot
  abbrev put_back : ProcessorState Running → KernelState
  put_back m = with_registers m.memory.state n m.regs

  slot_back : (m : ProcessorState Running) → slot_at (put_back m) n ≡ record (slot_at m.memory.state n) { registers = m.regs }
  slot_back m = upd-at m.memory.state.environments.slots n (record (slot_at m.memory.state n) { registers = m.regs })

  abbrev IsLoaded : ProcessorState Running → Type 0
  IsLoaded m = m.memory.directory ≡ Some (slot_at m.memory.state n).directory

  abbrev IsAtProgram : ProcessorState Running → Type 0
  IsAtProgram m = place_of (slot_at (put_back m) n) ≡ place.Guest

  -- A step of the processor is the program's instruction.
  step_is : {event : Event} (before after : ProcessorState Running) → StepsTo (memory_inside is_inside) Run before event after → IsLoaded before →
      instruction_step (put_back before) n
      ≡ through (with_registers_in n before.regs) (record { regs = after.regs; memory = after.memory; event = event })
  unfolding fenced_memory
  step_is before after step loaded =
      let entered = put_back before in
      (λ i. step_of (memory_inside is_inside) (slot_back before i).registers
      (record { state = entered; directory = Some (slot_back before i).directory }) Run)
      ∙ (λ i. step_of (memory_inside is_inside) before.regs (record { state = entered; directory = sym loaded i }) Run)
      ∙ step_with_registers n before.regs is_inside before.regs before.memory Run
      ∙ (λ i. through (with_registers_in n before.regs) (step i))

  end_is : {event : Event} (before after : ProcessorState Running) → StepsTo (memory_inside is_inside) Run before event after → IsLoaded before →
      instruction_end (put_back before) n ≡ put_back after
  end_is before after step loaded =
      ap (λ (s : Stepped Running). with_registers s.memory.state n s.regs) (step_is before after step loaded)
      ∙ registers_twice after.memory.state n before.regs after.regs

  -- With what comes of it, it is the program's step.
  instruction_is : {event : Event} (before after : ProcessorState Running) → StepsTo (memory_inside is_inside) Run before event after → IsLoaded before →
      guest_instruction (put_back before) n ≡ after_event (put_back after) n before.regs.eip event
  unfolding guest_instruction
  instruction_is {event = event} before after step loaded =
      let ip = before.regs.eip in
      (λ i. after_instruction n (slot_back before i).registers.eip (instruction_step (put_back before) n))
      ∙ ap (after_instruction n ip) (step_is before after step loaded)
      ∙ (λ i. after_event (registers_twice after.memory.state n before.regs after.regs i) n ip event)

  resident_is : (m : ProcessorState Running) → is_resident (slot_at (put_back m) n).registers.esp ≡ is_resident m.regs.esp
  resident_is m = ap (λ (slot : Slot). is_resident slot.registers.esp) (slot_back m)

  not_resident : (m : ProcessorState Running) → may_stand m.regs.esp ≡ true → is_resident (slot_at (put_back m) n).registers.esp ≡ false
  not_resident m may = resident_is m ∙ free_stack m.regs.esp may

  -- one that goes on is told nothing
  goes_quietly : (m : ProcessorState Running) (ip : ℕ) → may_stand m.regs.esp ≡ true → after_event (put_back m) n ip Next ≡ quietly (put_back m)
  goes_quietly m ip may = rw (not_resident m may) refl

  loaded_still : (before after : ProcessorState Running) → KeepsRest before.memory after.memory → IsLoaded before → IsLoaded after
  loaded_still before after k loaded = directory_is k ∙ loaded ∙ (λ i. Some (sym (slot_is k n) i).directory)

  -- Where an environment stands at its program, it does so with any registers, but where ESP is no program's.
  guest_still : (before after : ProcessorState Running) → KeepsRest before.memory after.memory → may_stand after.regs.esp ≡ true → IsAtProgram before →
      IsAtProgram after
  guest_still before after k may is =
      let word : (service_word (slot_at before.memory.state n).extra == 0) ≡ true =
      words_are_none before.regs (slot_at before.memory.state n).extra ((λ i. place_of (sym (slot_back before) i)) ∙ is) in
      (λ i. place_of (slot_back after i))
      ∙ none_are_guests after.regs (slot_at after.memory.state n).extra (not_handlers after.regs.esp (free_stack after.regs.esp may))
      ((λ i. service_word (slot_is k n i).extra == 0) ∙ word)

  pub goes_on : (k : ℕ) (before after : ProcessorState Running) → StepsOn (memory_inside is_inside) may_stand Run k before after → IsLoaded before →
      IsAtProgram before → GuestGoesOn n k (put_back before) (put_back after)
  goes_on zero before after e loaded guest = ap put_back e
  goes_on (suc k) before after g loaded guest =
      let next = g.0 in
      let kept = steps_keeps is_inside Run Next before next g.1 in
      let guest_next = guest_still before next kept g.2 guest in (
        put_back next,
        instruction_is before next g.1 loaded ∙ goes_quietly next before.regs.eip g.2,
        guest_next,
        goes_on k next after g.3 (loaded_still before next kept loaded) guest_next,
      )

  -- what comes of an instruction hangs on its address where that ends a burst, but for an interrupt
  address_told : (after : ProcessorState Running) (a b : ℕ) (event : Event) →
      ((event ≡ Next → may_stand after.regs.esp ≡ true → ⊥) → a ≡ b) →
      after_event (put_back after) n a event ≡ after_event (put_back after) n b event
  address_told after a b Next same = by_test (is_resident after.regs.esp) refl
    where
      by_test : (c : Bool) → is_resident after.regs.esp ≡ c →
          after_event (put_back after) n a Next ≡ after_event (put_back after) n b Next
      by_test true is =
          let there = same (λ e may. absurd (false≢true (sym (ap not is) ∙ may))) in
          ap (λ (ip : ℕ). after_event (put_back after) n ip Next) there
      by_test false is =
          let may : may_stand after.regs.esp ≡ true = ap not is in goes_quietly after a may ∙ sym (goes_quietly after b may)
  address_told after a b (Soft vector) same = refl
  address_told after a b (Raised trap error va) same =
      ap (λ (ip : ℕ). after_event (put_back after) n ip (Raised trap error va))
      (same (λ e may. absurd (let contradiction : Raised trap error va ≡ Next = e in cc)))

-- steps of the processor, begun with the registers of the slot
guest_burst : (n going ip : ℕ) {event : Event} (s : KernelState) (before reached after : ProcessorState Running) →
    StepsOn (memory_inside is_inside) may_stand Run going before reached → StepsTo (memory_inside is_inside) Run reached event after →
    ((event ≡ Next → may_stand after.regs.esp ≡ true → ⊥) → ip ≡ reached.regs.eip) → s ≡ put_back n before → IsLoaded n before →
    place_of (slot_at s n) ≡ place.Guest → IsGuestBurst n going s (put_back n after) ip event
guest_burst n going ip {event = event} s before reached after went last at begun loaded guest =
    let guest_before : IsAtProgram n before = (λ i. place_of (slot_at (sym begun i) n)) ∙ guest in
    let kept = going_keeps is_inside may_stand Run going before reached went in
    let loaded_there = loaded_still n before reached kept loaded in
    let all = subst (λ (x : KernelState). GuestGoesOn n going x (put_back n reached)) (sym begun)
    (goes_on n going before reached went loaded guest_before) in
    record {
      reached = put_back n reached;
      went = all;
      is_guest = guest_reached n going s (put_back n reached) all guest;
      event_is = ap (λ (s : Stepped Running). s.event) (step_is n reached after last loaded_there);
      end_is = end_is n reached after last loaded_there;
      last = instruction_is n reached after last loaded_there ∙ address_told n after reached.regs.eip ip event (λ ends. sym (at ends));
    }

-- A burst was made: its environment is live still, and it is one of the program.
pub record HasBurst (s : KernelState) (n going ip : ℕ) (new : Regs) (after : KernelState) (event : Event) : Type 0 where
  pub live : is_live (slot_at after n) ≡ true
  pub burst : IsGuestBurst n going s (with_registers after n new) ip event

module _ (s : KernelState) (n : ℕ) {limit steps ip : ℕ} {event : Event} (regs new : Regs) (before after : Running)
    (before_is : before ≡ loaded_in s (slot_at s n).directory) (regs_are : regs ≡ (slot_at s n).registers)
    (live : is_live (slot_at s n) ≡ true) (guest : place_of (slot_at s n) ≡ place.Guest)
    (b : IsBurst (memory_inside is_inside) may_stand Run limit steps ip event (record { regs = regs; memory = before })
    (record { regs = new; memory = after })) where
  begun : s ≡ with_registers before.state n regs
  begun =
      sym (slots.slot_back s n (record (slot_at s n) { registers = regs }) (λ i. record (slot_at s n) { registers = regs_are i }))
      ∙ (λ i. with_registers (sym before_is i).state n regs)

  loaded : before.directory ≡ Some (slot_at before.state n).directory
  loaded = (λ i. (before_is i).directory) ∙ (λ i. Some (slot_at (sym before_is i).state n).directory)

  pub has_burst : HasBurst s n b.going ip new after.state event
  has_burst = record {
    live = (λ i. is_live (slot_is (burst_keeps is_inside may_stand b) n i)) ∙ (λ i. is_live (slot_at (before_is i).state n)) ∙ live;
    burst = guest_burst n b.going ip s (record { regs = regs; memory = before }) b.reached (record { regs = new; memory = after })
        b.went b.last b.at begun loaded guest;
  }
