-- A step of a program leaves to the file server what it has: its slot, its space and the bytes of its pages which the program has not, or has as
-- pages of descriptors alone. The instruction reaches bytes in the program's own space and stores bytes inside the fence there, where no page of a
-- descriptor's is; a page fault is handled there or ends the environment, and any other trap ends it.
use Rattle.std.proofs.Common.{◌≡◌, ◌≢◌, ◌∙◌, ◌==◌, ℕ, Bool, true, false, Option, Some, None, Result, Ok, Err, IfSome, refl, sym, ap, subst}
use Rattle.std.proofs.Common.{if◌then◌else◌}
use Rattle.std.proofs.lemmas.Bool.{and_parts}
use Rattle.std.proofs.lemmas.Option.{same_Some}
use Rattle.jos_base.specs.declared.line.Line.{Line}
use Rattle.jos_base.specs.declared.line.Line.TheVariants as line
use Rattle.jos_base.specs.declared.memory.Access.{Access}
use Rattle.jos_base.specs.declared.memory.Access.TheVariants.{Write}
use Rattle.jos_base.specs.declared.memory.PageFault.{PageFault}
use Rattle.jos_base.specs.declared.numbers.TheConstants.{T_BRKPT, T_GPFLT, T_PGFLT, T_SERVICE}
use Rattle.jos_base.specs.Environments.{Slot, free_slot, is_live}
use Rattle.jos_base.specs.KernelState.{KernelState, slot_at, with_slot_at, with_registers}
use Rattle.jos_base.specs.Reach.{Entry, FrameOffset}
use Rattle.jos_base.specs.SpacesState.{SpacesState}
use Rattle.jos_base.specs.SystemCalls.{Trapped, handled, delivered_to, deliver_fault, trapped_by, killed}
use Rattle.jos_base.specs.UserMemory.{reach_in, stored_byte, with_byte_at}
use Rattle.jos_base.specs.Words.{page_number}
use Rattle.jos_cpu.specs.declared.events.Event.{Event}
use Rattle.jos_cpu.specs.declared.events.Event.TheVariants.{Next, Soft, Raised}
use Rattle.jos_cpu.specs.declared.events.Gates.TheVariants.{Run}
use Rattle.jos_cpu.specs.Steps.{Stepped, step_of}
use Rattle.jos_cpu.proofs.Agreement.{AgreesReading, AgreesWriting}
use Rattle.jos_cpu.proofs.Related.{same_step}
use Rattle.jos_kernel.specs.Running.{Running, user_memory, allowed_in, loaded_in, with_state, touched_in, stored_in_space}
use Rattle.jos_kernel.specs.Steps.{EnvStep, trapped}
use Rattle.lib_os.specs.Fence.{is_inside, is_resident}
use Rattle.lib_os.specs.InOrder.{HasOneUse}
use Rattle.lib_os.specs.LibrarySteps.{KeepsServer}
use Rattle.lib_os.specs.Places.{words_entered}
use Rattle.lib_os.specs.Rows.{is_of_descriptor}
use Rattle.lib_os.proofs.Logical.{inside_programs, programs_no_descriptor}
use Rattle.lib_os.proofs.ServerLeft.{IsAside, ServerStays, aside_asked, asked_before, handled_server, keeps_server}
use Rattle.lib_os.proofs.SpacesLeft.{SpaceLeft, IsBesidePages, IsNoneLeft, begins_beside, destroyed_left, same_left, stored_beside, stored_left}
use Rattle.lib_os.proofs.SpacesLeft.{touched_beside, touched_left}
use Rattle.lib_os.proofs.UsesKept.{stored_kept, touched_kept}
use Rattle.jos_run.specs.FencedMemory.{fenced_memory}
use Rattle.jos_run.specs.MemoryProofs.{fenced_memory_is_lawful}
use Rattle.jos_run.specs.GuestSteps.{after_event, guest_instruction}
use Rattle.jos_run.proofs.SpacesKept.{touched_uses}
use Rattle.jos_base.proofs.Maps.{upd-other}

stored_uses : (s : SpacesState) (d va byte : ℕ) → (stored_byte s d va byte).uses ≡ s.uses
unfolding stored_byte
stored_uses s d va byte = by_outcome (reach_in s d va Write)
  where
    by_outcome : (r : Result FrameOffset PageFault) → (with_byte_at s byte r).uses ≡ s.uses
    by_outcome (Ok location) = refl
    by_outcome (Err refusal) = refl

-- what is left after one step and after the next, where none of the pages that are left is one of the program's in between
stays_then : (d n : ℕ) (s t u : KernelState) →
    ((p : ℕ) (e : Entry) → is_of_descriptor p ≡ false → t.spaces.entries (slot_at t n).directory p ≡ Some e →
    IsNoneLeft (slot_at s n).directory d s.spaces e.frame) →
    ServerStays d n s t → ServerStays d n t u → ServerStays d n s u
stays_then d n s t u none h k = record {
  slot = k.slot ∙ h.slot;
  space = record {
    entries = λ p. k.space.entries p ∙ h.space.entries p;
    regions = λ r. k.space.regions r ∙ h.space.regions r;
    pages = λ p e is lacks.
        k.space.pages p e (h.space.entries p ∙ is) (λ q x other there same. none q x other there p e is lacks (sym same)) ∙ h.space.pages p e is lacks;
  };
}

-- ---- what comes of the instruction

module _ (d : ℕ) (s : KernelState) (n : ℕ) (h : IsAside d s n) where
  abbrev Left : KernelState → Type 0
  Left t = ServerStays d n s t

  home_apart : (slot_at s n).directory ≢ d
  home_apart = let it = h.homes n h.other h.live in it.0

  stays_so : Left s
  stays_so = record { slot = refl; space = same_left (slot_at s n).directory d s.spaces h.frames }

  put_stays : (slot : Slot) → Left (with_slot_at s n slot)
  put_stays slot = record {
    slot = upd-other s.environments.slots n slot 0 (λ same. h.other (sym same));
    space = same_left (slot_at s n).directory d s.spaces h.frames;
  }

  killed_stays : (why : Line) → Left (killed s n why).state
  unfolding killed
  killed_stays why =
      let it = h.homes n h.other h.live in
      record {
        slot = upd-other s.environments.slots n (free_slot (slot_at s n).id) 0 (λ same. h.other (sym same));
        space = destroyed_left (slot_at s n).directory d s.spaces h.frames (slot_at s n).directory it.0 it.1;
      }

  delivered_stays : (fault : PageFault) (after : Option KernelState) → IfSome after Left → Left (delivered_to s n fault after).state
  delivered_stays fault (Some after) left = left
  delivered_stays fault None left = killed_stays (line.UserFault fault.va (slot_at s n).registers.eip)

  trap_stays : (trap error va ip : ℕ) → Left (trapped s n trap error va ip).state
  trap_stays trap error va ip = by_number (trap == T_PGFLT)
    where
      fault : PageFault
      fault = record { va = va; error = error }

      by_number : (c : Bool) →
          Left (if◌then◌else◌ {A = Trapped} c (deliver_fault s n fault) (trapped_by (killed s n (line.Trap trap error ip)))).state
      by_number true = delivered_stays fault (handled s n fault) (handled_server d s n h fault)
      by_number false = killed_stays (line.Trap trap error ip)

  step_by : (c : Bool) (a b : EnvStep) → Left a.state → Left b.state → Left (if◌then◌else◌ {A = EnvStep} c a b).state
  step_by true a b x y = x
  step_by false a b x y = y

  event_stays : (ip : ℕ) (event : Event) → Left (after_event s n ip event).state
  event_stays ip Next = step_by (is_resident (slot_at s n).registers.esp) _ _ (trap_stays T_GPFLT 0 0 ip) stays_so
  event_stays ip (Soft vector) =
      step_by (vector == T_SERVICE) _ _ (put_stays (record (slot_at s n) { extra = words_entered (slot_at s n).registers }))
      (trap_stays T_BRKPT 0 0 (slot_at s n).registers.eip)
  event_stays ip (Raised trap error va) = trap_stays trap error va ip

-- ---- the instruction

module _ (d : ℕ) (s : KernelState) (n : ℕ) (h : IsAside d s n) where
  abbrev home : ℕ
  home = (slot_at s n).directory

  abbrev apart : home ≢ d
  apart = home_apart d s n h

  -- while it reaches and stores bytes
  record Walks (x : Running) : Type 0 where
    environments : x.state.environments ≡ s.environments
    directory : x.directory ≡ Some home
    uses : x.state.spaces.uses ≡ s.spaces.uses
    frames : HasOneUse x.state.spaces
    space : SpaceLeft home d s.spaces x.state.spaces
    pages : IsBesidePages home d s.spaces h.frames x.state.spaces

  touched_walks : (x : Running) → Walks x → (o : Option ℕ) → o ≡ Some home → (va : ℕ) (access : Access) →
      Walks (with_state x (touched_in x.state o va access))
  touched_walks x w None none va access = absurd cc
  touched_walks x w (Some q) is va access =
      subst (λ (q : ℕ). Walks (with_state x (touched_in x.state (Some q) va access))) (sym (same_Some q home is)) (record {
        environments = w.environments;
        directory = w.directory;
        uses = touched_uses x.state.spaces home va access ∙ w.uses;
        frames = touched_kept x.state.spaces home va access w.frames;
        space = touched_left home d s.spaces h.frames home apart x.state.spaces va access w.space;
        pages = touched_beside home d s.spaces h.frames x.state.spaces va access w.pages;
      })

  stored_walks : (x : Running) → Walks x → (o : Option ℕ) → o ≡ Some home → (va byte : ℕ) → is_of_descriptor (page_number va) ≡ false →
      Walks (with_state x (stored_in_space x.state o va byte))
  stored_walks x w None none va byte beside = absurd cc
  stored_walks x w (Some q) is va byte beside =
      subst (λ (q : ℕ). Walks (with_state x (stored_in_space x.state (Some q) va byte))) (sym (same_Some q home is)) (record {
        environments = w.environments;
        directory = w.directory;
        uses = stored_uses x.state.spaces home va byte ∙ w.uses;
        frames = stored_kept x.state.spaces home va byte w.frames;
        space = stored_left home d s.spaces h.frames x.state.spaces va byte beside w.pages w.space;
        pages = stored_beside home d s.spaces h.frames x.state.spaces va byte w.pages;
      })

  -- it walks in its memory
  abbrev Same : Running → Running → Type 0
  Same x y = Walks x × (y ≡ x)

  inside_walks : (x : Running) → Walks x → (va byte : ℕ) → fenced_memory.allowed x va Write ≡ true → Walks (fenced_memory.stored x va byte)
  unfolding fenced_memory user_memory
  inside_walks x w va byte on =
      let inside = and_parts (is_inside va) (allowed_in x.state x.directory va Write) on in
      stored_walks x w x.directory w.directory va byte (programs_no_descriptor (page_number va) (inside_programs va inside.0))

  reached_walks : (x : Running) → Walks x → (va : ℕ) (access : Access) → Walks (fenced_memory.reached x va access)
  unfolding fenced_memory user_memory
  reached_walks x w va access = touched_walks x w x.directory w.directory va access

  reading : AgreesReading fenced_memory fenced_memory Same fenced_memory.allowed
  reading = record {
    allowed = λ {m} {n = y} r va access. ap (λ (z : Running). fenced_memory.allowed z va access) r.1;
    fault = λ {m} {n = y} r va access off. ap (λ (z : Running). fenced_memory.fault z va access) r.1;
    byte = λ {m} {n = y} r va access on. ap (λ (z : Running). fenced_memory.byte z va) r.1;
    reached = λ {m} {n = y} r va access on.
        (reached_walks m r.0 va access, ap (λ (z : Running). fenced_memory.reached z va access) r.1);
    enough = λ {m} {n = y} r va access on. on;
    stays = λ {m} {n = y} r va access on. fenced_memory_is_lawful.reached_rights m va access;
  }

  writing : AgreesWriting fenced_memory fenced_memory Same fenced_memory.allowed
  writing = record {
    stored = λ {m} {n = y} r va byte small on.
        (inside_walks m r.0 va byte on, ap (λ (z : Running). fenced_memory.stored z va byte) r.1);
    stays = λ {m} {n = y} r va byte small on. fenced_memory_is_lawful.stored_rights m va byte;
  }

  -- it is still aside, and the file server is as it was
  aside_walked : (x : Running) → Walks x → IsAside d x.state n
  aside_walked x w = record {
    frames = w.frames;
    other = h.other;
    live = (λ i. is_live ((w.environments i).slots n)) ∙ h.live;
    first = (λ i. is_live ((w.environments i).slots 0)) ∙ h.first;
    named = (λ i. ((w.environments i).slots 0).id) ∙ h.named;
    no_child = λ same. h.no_child
        ((λ i. ((sym w.environments i).slots 0).parent) ∙ same ∙ (λ i. ((w.environments i).slots n).id));
    homes = λ m ne lives.
        let it = h.homes m ne ((λ i. is_live ((sym w.environments i).slots m)) ∙ lives) in (
          λ same. it.0 ((λ i. ((sym w.environments i).slots m).directory) ∙ same),
          (λ i. w.uses i ((w.environments i).slots m).directory) ∙ it.1,
        );
  }

  walked_stays : (x : Running) → Walks x → ServerStays d n s x.state
  walked_stays x w = record { slot = λ i. (w.environments i).slots 0; space = w.space }

  begins : Walks (loaded_in s home)
  begins = record {
    environments = refl;
    directory = refl;
    uses = refl;
    frames = h.frames;
    space = same_left home d s.spaces h.frames;
    pages = begins_beside home d s.spaces h.frames;
  }

  instruction_stays : ServerStays d n s (guest_instruction s n).state
  unfolding guest_instruction
  instruction_stays =
      let regs = (slot_at s n).registers in
      let step : Stepped Running = step_of fenced_memory regs (loaded_in s home) Run in
      let w = (same_step writing reading regs Run {m = loaded_in s home} {n = loaded_in s home} (begins, refl)).memory.0 in
      let t = step.memory.state in
      let u = with_registers t n step.regs in
      let aside = aside_asked d t n step.regs (aside_walked step.memory w) in
      stays_then d n s t (after_event u n regs.eip step.event).state
      (λ p e other there. w.pages.none p e other ((λ i. t.spaces.entries ((sym w.environments i).slots n).directory p) ∙ there))
      (walked_stays step.memory w)
      (asked_before d t n step.regs (after_event u n regs.eip step.event).state h.other (event_stays d u n aside regs.eip step.event))

pub guest_server : (s : KernelState) (n : ℕ) → KeepsServer n s (guest_instruction s n).state
guest_server s n = keeps_server s (guest_instruction s n).state n (λ then_so a stands d aside. instruction_stays d s n aside)
