-- What a step of a program leaves: the last turn and the number of turns, the frames and the refusals; and an environment that
-- is not RUNNABLE is not so afterwards.
use Rattle.std.proofs.Common.{◌≡◌, ◌≢◌, ◌∙◌, ◌==◌, ◌<◌, ℕ, Bool, true, false, Option, Some, None, Result, Ok, Err, IfSome, refl, sym, ap, subst}
use Rattle.std.proofs.Common.{if◌then◌else◌}
use Rattle.jos_base.specs.declared.environment.Status.{Status}
use Rattle.jos_base.specs.declared.line.Line.{Line}
use Rattle.jos_base.specs.declared.line.Line.TheVariants as line
use Rattle.jos_base.specs.declared.memory.Access.{Access}
use Rattle.jos_base.specs.declared.memory.Access.TheVariants.{Write}
use Rattle.jos_base.specs.declared.memory.PageFault.{PageFault}
use Rattle.jos_base.specs.declared.numbers.TheConstants.{T_BRKPT, T_GPFLT, T_PGFLT, T_SERVICE}
use Rattle.jos_base.specs.declared.registers.Regs.{Regs}
use Rattle.jos_base.specs.Environments.{Slot, free_slot, is_runnable}
use Rattle.jos_base.specs.KernelState.{KernelState, slot_at, with_slot_at, with_registers, with_spaces}
use Rattle.jos_base.specs.Reach.{FrameOffset}
use Rattle.jos_base.specs.SpacesState.{SpacesState, overlaid, with_page_bytes}
use Rattle.jos_base.specs.SystemCalls.{Trapped, handler_entered, handled_at, handled, delivered_to, deliver_fault, trapped_by, killed}
use Rattle.jos_base.specs.TrapFrames.{frame_bytes, upcall_place}
use Rattle.jos_base.specs.UserMemory.{reach_in, touched, stored_byte, with_byte_at}
use Rattle.jos_cpu.specs.declared.events.Event.{Event}
use Rattle.jos_cpu.specs.declared.events.Event.TheVariants.{Next, Soft, Raised}
use Rattle.jos_cpu.specs.declared.events.Gates.TheVariants.{Run}
use Rattle.jos_cpu.specs.Steps.{Stepped, step_of}
use Rattle.jos_cpu.proofs.Agreement.{Agrees}
use Rattle.jos_cpu.proofs.Through.{step_through}
use Rattle.jos_kernel.specs.Running.{Running, user_memory, loaded_in, touched_in, stored_in_space}
use Rattle.jos_kernel.specs.Steps.{EnvStep, trapped}
use Rattle.lib_os.specs.declared.progress.Progress.{Progress}
use Rattle.lib_os.specs.Fence.{is_resident}
use Rattle.lib_os.specs.LibrarySteps.{Leaves, KeepsServer, KeepsUses}
use Rattle.lib_os.specs.Places.{place_of, words_entered}
use Rattle.lib_os.proofs.FramesKept.{destroyed_frames, touched_frames}
use Rattle.lib_os.proofs.Leaving.{running_calm}
use Rattle.lib_os.proofs.NumbersKept.{KeepsOthers, copies_kept, numbers_kept, places_kept, working_kept}
use Rattle.lib_os.proofs.OthersCopies.{IsBeside, NoMoreWait, both_wait, destroyed_wait, entries_wait, same_wait, stored_wait, touched_wait}
use Rattle.lib_os.proofs.OthersKept.{OthersStay}
use Rattle.lib_os.proofs.Slots.{slot_kept, slot_put}
use Rattle.jos_run.specs.FencedMemory.{fenced_memory}
use Rattle.jos_run.specs.GuestSteps.{after_event, after_instruction, guest_instruction}
use Rattle.jos_run.proofs.GuestServer.{guest_server}
use Rattle.jos_run.proofs.GuestUses.{guest_uses}
use Rattle.jos_base.proofs.Maps.{upd-at, upd-other}

-- what a step of the program in slot n leaves of a state
pub record GuestLeaves (s : KernelState) (n : ℕ) (after : KernelState) : Type 0 where
  pub last : after.last ≡ s.last
  pub turns : after.turns ≡ s.turns
  pub frames : after.spaces.frames ≡ s.spaces.frames
  pub refusals : after.refusals ≡ s.refusals
  pub calm : is_runnable (slot_at s n).status ≡ false → is_runnable (slot_at after n).status ≡ false
  -- no other's slot is changed
  pub others : (m : ℕ) → m ≢ n → slot_at after m ≡ slot_at s m
  -- in other spaces no page waits to be copied that did not wait before, and those are the same in which services keep what they move
  pub waits : NoMoreWait (IsBeside s n) s.spaces after.spaces

-- so far, and it has its space still
record Going (s : KernelState) (n : ℕ) (after : KernelState) : Type 0 where
  left : GuestLeaves s n after
  home : (slot_at after n).directory ≡ (slot_at s n).directory

stored_frames : (s : SpacesState) (d va byte : ℕ) → (stored_byte s d va byte).frames ≡ s.frames
unfolding stored_byte
stored_frames s d va byte = by_outcome (reach_in s d va Write)
  where
    by_outcome : (r : Result FrameOffset PageFault) → (with_byte_at s byte r).frames ≡ s.frames
    by_outcome (Ok location) = refl
    by_outcome (Err refusal) = refl

module _ (s : KernelState) (n : ℕ) where
  abbrev Left : KernelState → Type 0
  Left after = GuestLeaves s n after

  same_left : Left s
  same_left = record { last = refl; turns = refl; frames = refl; refusals = refl; calm = λ calm. calm; others = λ m ne. refl; waits = same_wait (IsBeside s n) s.spaces }

  spaces_left : (t : KernelState) → Left t → (spaces : SpacesState) → spaces.frames ≡ t.spaces.frames →
      NoMoreWait (IsBeside s n) t.spaces spaces → Left (with_spaces t spaces)
  spaces_left t h spaces same wait = record {
    last = h.last;
    turns = h.turns;
    frames = same ∙ h.frames;
    refusals = h.refusals;
    calm = h.calm;
    others = h.others;
    waits = both_wait (IsBeside s n) s.spaces t.spaces spaces h.waits wait;
  }

  -- a slot that keeps its status
  put_left : (t : KernelState) → Left t → (slot : Slot) → slot.status ≡ (slot_at t n).status → Left (with_slot_at t n slot)
  put_left t h slot same = record {
    last = h.last;
    turns = h.turns;
    frames = h.frames;
    refusals = h.refusals;
    calm = λ calm.
        ap (λ (x : Slot). is_runnable x.status) (slot_put t n slot) ∙ ap (λ (status : Status). is_runnable status) same ∙ h.calm calm;
    others = λ m ne. slot_kept t n slot m ne ∙ h.others m ne;
    waits = h.waits;
  }

  registers_left : (t : KernelState) → Left t → (regs : Regs) → Left (with_registers t n regs)
  registers_left t h regs = put_left t h (record (slot_at t n) { registers = regs }) refl

  registers_going : (t : KernelState) → Going s n t → (regs : Regs) → Going s n (with_registers t n regs)
  registers_going t h regs = record {
    left = registers_left t h.left regs;
    home = ap (λ (x : Slot). x.directory) (slot_put t n (record (slot_at t n) { registers = regs })) ∙ h.home;
  }

  killed_left : (t : KernelState) → Going s n t → (why : Line) → Left (killed t n why).state
  unfolding killed
  killed_left t h why = record {
    last = h.left.last;
    turns = h.left.turns;
    frames = destroyed_frames t.spaces (slot_at t n).directory ∙ h.left.frames;
    refusals = h.left.refusals;
    calm = λ calm. ap (λ (x : Slot). is_runnable x.status) (upd-at t.environments.slots n (free_slot (slot_at t n).id));
    others = λ m ne. upd-other t.environments.slots n (free_slot (slot_at t n).id) m ne ∙ h.left.others m ne;
    waits = both_wait (IsBeside s n) s.spaces t.spaces _ h.left.waits
        (destroyed_wait (IsBeside s n) t.spaces (slot_at t n).directory (λ beside. beside h.home));
  }

  -- ---- traps

  entered_left : (t : KernelState) → Left t → (fault : PageFault) (place : ℕ) (reached : Result FrameOffset PageFault) →
      IfSome (handler_entered t n fault place reached) Left
  entered_left t h fault place (Err refusal) = tt
  entered_left t h fault place (Ok at) =
      let k = slot_at t n in
      let reached : SpacesState = touched t.spaces k.directory place Write in
      let u : KernelState =
      with_spaces t (with_page_bytes reached at.frame (overlaid (reached.pages at.frame) at.offset (frame_bytes fault k.registers))) in
      let wait = both_wait (IsBeside s n) t.spaces reached u.spaces (touched_wait (IsBeside s n) t.spaces k.directory place Write)
      (entries_wait (IsBeside s n) reached u.spaces refl) in
      let left = registers_left u (spaces_left t h u.spaces (touched_frames t.spaces k.directory place Write) wait) (record k.registers { esp = place; eip = k.upcall }) in
      record { last = left.last; turns = left.turns; frames = left.frames; refusals = left.refusals; calm = left.calm; others = left.others; waits = left.waits }

  handled_left : (t : KernelState) → Left t → (fault : PageFault) → IfSome (handled t n fault) Left
  unfolding handled
  handled_left t h fault = by_upcall ((slot_at t n).upcall == 0) (upcall_place (slot_at t n).registers.esp)
    where
      by_upcall : (c : Bool) (place : Option ℕ) → IfSome (if c then None else handled_at t n fault place) Left
      by_upcall true place = tt
      by_upcall false None = tt
      by_upcall false (Some place) = entered_left t h fault place (reach_in t.spaces (slot_at t n).directory place Write)

  delivered_left : (t : KernelState) → Going s n t → (fault : PageFault) (after : Option KernelState) → IfSome after Left →
      Left (delivered_to t n fault after).state
  delivered_left t h fault (Some after) left = left
  delivered_left t h fault None left = killed_left t h (line.UserFault fault.va (slot_at t n).registers.eip)

  trap_left : (t : KernelState) → Going s n t → (trap error va ip : ℕ) → Left (trapped t n trap error va ip).state
  trap_left t h trap error va ip = by_number (trap == T_PGFLT)
    where
      by_number : (c : Bool) →
          Left (if◌then◌else◌ {A = Trapped} c (deliver_fault t n (record { va = va; error = error })) (trapped_by (killed t n (line.Trap trap error ip)))).state
      by_number true =
          delivered_left t h (record { va = va; error = error }) (handled t n (record { va = va; error = error }))
          (handled_left t h.left (record { va = va; error = error }))
      by_number false = killed_left t h (line.Trap trap error ip)

  -- ---- the instruction

  step_by : (c : Bool) (a b : EnvStep) → Left a.state → Left b.state → Left (if◌then◌else◌ {A = EnvStep} c a b).state
  step_by true a b h k = h
  step_by false a b h k = k

  event_left : (t : KernelState) → Going s n t → (ip : ℕ) (event : Event) → Left (after_event t n ip event).state
  event_left t h ip Next = step_by (is_resident (slot_at t n).registers.esp) _ _ (trap_left t h T_GPFLT 0 0 ip) h.left
  event_left t h ip (Soft vector) =
      step_by (vector == T_SERVICE) _ _
      (put_left t h.left (record (slot_at t n) { extra = words_entered (slot_at t n).registers }) refl)
      (trap_left t h T_BRKPT 0 0 (slot_at t n).registers.eip)
  event_left t h ip (Raised trap error va) = trap_left t h trap error va ip

  touched_left : (t : KernelState) → Going s n t → (o : Option ℕ) (va : ℕ) (access : Access) → Going s n (touched_in t o va access)
  touched_left t h None va access = h
  touched_left t h (Some d) va access = record {
    left = spaces_left t h.left (touched t.spaces d va access) (touched_frames t.spaces d va access) (touched_wait (IsBeside s n) t.spaces d va access);
    home = h.home;
  }

  stored_left : (t : KernelState) → Going s n t → (o : Option ℕ) (va byte : ℕ) → Going s n (stored_in_space t o va byte)
  stored_left t h None va byte = h
  stored_left t h (Some d) va byte = record {
    left = spaces_left t h.left (stored_byte t.spaces d va byte) (stored_frames t.spaces d va byte) (stored_wait (IsBeside s n) t.spaces d va byte);
    home = h.home;
  }

  memory_left : (regs : Regs) (m : Running) → Going s n m.state → Going s n (step_of fenced_memory regs m Run).memory.state
  unfolding fenced_memory user_memory
  memory_left regs m h = (step_through leaves regs m Run h).0
    where
      leaves : Agrees fenced_memory fenced_memory (λ (x : Running). x) (λ (x : Running). Going s n x.state)
      leaves = record {
        byte = λ x h va. refl;
        allowed = λ x h va access. refl;
        fault = λ x h va access off. refl;
        reached = λ x h va access on. (touched_left x.state h x.directory va access, refl);
        stored = λ x h va byte small. (stored_left x.state h x.directory va byte, refl);
      }

  stepped_left : (ip : ℕ) (step : Stepped Running) → Going s n step.memory.state → Left (after_instruction n ip step).state
  stepped_left ip step h =
      event_left (with_registers step.memory.state n step.regs) (registers_going step.memory.state h step.regs) ip step.event

  pub instruction_left : Left (guest_instruction s n).state
  unfolding guest_instruction
  instruction_left =
      let k = slot_at s n in
      stepped_left k.registers.eip (step_of fenced_memory k.registers (loaded_in s k.directory) Run)
      (memory_left k.registers (loaded_in s k.directory) (record { left = same_left; home = refl }))

others_stay : (s after : KernelState) (n : ℕ) → GuestLeaves s n after → OthersStay s n after
others_stay s after n h = record {
  stay = λ m ne was lives.
      record { place = ap (λ (k : Slot). place_of k) (h.others m ne); directory = ap (λ (k : Slot). k.directory) (h.others m ne) };
}

-- So it leaves what each step leaves, whatever it has come to.
pub guest_leaves : (s after : KernelState) (n : ℕ) (done : Progress) → after ≡ (guest_instruction s n).state → Leaves (Ok done) n s after
guest_leaves s after n done is =
    let h = subst (λ (t : KernelState). GuestLeaves s n t) (sym is) (instruction_left s n) in
    let others : KeepsOthers n s after = λ before then_so live a stands. others_stay s after n h in
    record {
      rest = record { last = h.last; turns = h.turns; frames = h.frames; refused = λ two some. h.refusals; told = λ some. subst (λ (k : ℕ). 0 < k) (sym h.refusals) some };
      turn = λ a stands running silent runs. absurd (
          let contradiction : true ≡ false = sym runs ∙ h.calm (running_calm (slot_at s n).status running) in cc
          );
      uses = subst (λ (t : KernelState). KeepsUses n s t) (sym is) (λ in_order live each. guest_uses s n in_order live each);
      places = places_kept s after n others;
      numbers = numbers_kept s after n others (copies_kept s after n h.waits);
      working = working_kept s after n others (copies_kept s after n h.waits);
      server = subst (λ (t : KernelState). KeepsServer n s t) (sym is) (guest_server s n);
    }
