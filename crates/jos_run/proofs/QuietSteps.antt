-- Instructions of a program that go on with nothing told: each is a visible step that prints nothing and is refused nothing,
-- and its environment stays RUNNING.
use Rattle.std.proofs.Common.{◌≡◌, ◌∙◌, ℕ, ◌+◌, ◌-◌, ◌^◌, ◌<◌, ◌==◌, ◌||◌, zero, suc, Bool, true, false, List, [], Option, Some, None}
use Rattle.std.proofs.Common.{refl, sym, ap, subst, arith, append-nil, if◌then◌else◌}
use Rattle.jos_base.specs.declared.environment.EnvType.{EnvType}
use Rattle.jos_base.specs.declared.environment.Status.{Status}
use Rattle.jos_base.specs.declared.memory.Access.{Access}
use Rattle.jos_base.specs.declared.numbers.TheConstants.{T_BRKPT, T_GPFLT, T_SERVICE}
use Rattle.jos_base.specs.declared.registers.Regs.{Regs}
use Rattle.jos_base.specs.Environments.{Slot, is_live, is_runnable, is_running}
use Rattle.jos_base.specs.KernelState.{KernelState, slot_at, with_slot_at, with_registers}
use Rattle.jos_base.specs.UserMemory.{touched, stored_byte}
use Rattle.jos_cpu.specs.declared.events.Event.{Event}
use Rattle.jos_cpu.specs.declared.events.Event.TheVariants.{Next, Soft, Raised}
use Rattle.jos_cpu.specs.declared.events.Gates.TheVariants.{Run}
use Rattle.jos_cpu.specs.Steps.{Stepped, step_of}
use Rattle.jos_cpu.proofs.Agreement.{Agrees}
use Rattle.jos_cpu.proofs.Through.{step_through}
use Rattle.jos_kernel.specs.declared.report.Turn.{Turn}
use Rattle.jos_kernel.specs.declared.trace.TrapLine.{TrapLine}
use Rattle.jos_kernel.specs.Running.{Running, user_memory, loaded_in, touched_in, stored_in_space}
use Rattle.jos_kernel.specs.Steps.{EnvStep, after_trap}
use Rattle.jos_space.proofs.Keeping.{stored_uses}
use Rattle.lib_os.specs.declared.place.Place.TheVariants as place
use Rattle.lib_os.specs.declared.progress.Progress.TheVariants as progress
use Rattle.lib_os.specs.AbstractState.{AbstractState}
use Rattle.lib_os.specs.Fence.{is_resident}
use Rattle.lib_os.specs.Disk.{Disk}
use Rattle.lib_os.specs.InOrder.{IsInOrder}
use Rattle.lib_os.specs.LibrarySteps.{GoesOn, LeavesEach, NothingRefused}
use Rattle.lib_os.specs.Need.{EachHasUse}
use Rattle.lib_os.specs.Places.{place_of, words_entered}
use Rattle.lib_os.specs.UserCalls.{is_file_server}
use Rattle.lib_os.proofs.Slots.{slot_put}
use Rattle.lib_os.proofs.StatesStand.{slot_in_order}
use Rattle.lib_os.proofs.UsesKept.{touched_kept, stored_kept}
use Rattle.jos_run.specs.FencedMemory.{fenced_memory}
use Rattle.jos_run.specs.GuestSteps.{quietly, service_entered, after_event, after_instruction, guest_instruction, is_copying}
use Rattle.jos_run.specs.LibraryRuns.{IsInTurn}
use Rattle.jos_run.specs.ServerStands.{KeepsWhole}
use Rattle.jos_run.specs.Worlds.{beside}
use Rattle.jos_run.specs.Steps.{is_awake, is_servers}
use Rattle.jos_run.specs.StepsAtOnce.{GuestGoesOn}
use Rattle.jos_run.proofs.Choices.{only_runs}
use Rattle.jos_run.proofs.GuestLeaves.{GuestLeaves, guest_leaves, instruction_left}
use Rattle.jos_run.proofs.GuestStands.{SmallAtFault, guest_goes_on, instruction_end, instruction_step}
use Rattle.jos_run.proofs.GuestUses.{guest_uses}
use Rattle.jos_run.proofs.WholeStands.{KeepsRunning, others_slot, whole_kept}
use Rattle.jos_run.proofs.ProgramSteps.{awake_born}
use Rattle.jos_run.proofs.RequestsCalm.{none_requests}
use Rattle.jos_run.proofs.RunsKept.{step_visible}
use Rattle.jos_run.proofs.SpacesKept.{touched_uses, spaces_kept}
use Rattle.std.proofs.Math.Bool.{or-true}

-- ---- one instruction

abbrev has_trap : Option TrapLine → Bool
has_trap None = false
has_trap (Some trap) = true

abbrev tells : EnvStep → Bool
tells step = has_trap step.trap

-- The slot has its status still, and its type, and the state is in order.
pub record StaysCalm (s : KernelState) (n : ℕ) (after : KernelState) : Type 0 where
  pub status : (slot_at after n).status ≡ (slot_at s n).status
  pub env_type : (slot_at after n).env_type ≡ (slot_at s n).env_type
  pub in_order : IsInOrder s → IsInOrder after

module _ (s : KernelState) (n : ℕ) where
  abbrev Calm : KernelState → Type 0
  Calm after = StaysCalm s n after

  touched_calm : (t : KernelState) → Calm t → (o : Option ℕ) (va : ℕ) (access : Access) → Calm (touched_in t o va access)
  touched_calm t h None va access = h
  touched_calm t h (Some d) va access = record {
    status = h.status;
    env_type = h.env_type;
    in_order = λ order. record {
      frames = touched_kept t.spaces d va access (h.in_order order).frames;
      spaces = spaces_kept t.spaces (touched t.spaces d va access) t.environments (touched_uses t.spaces d va access)
          (h.in_order order).spaces;
    };
  }

  stored_calm : (t : KernelState) → Calm t → (o : Option ℕ) (va byte : ℕ) → Calm (stored_in_space t o va byte)
  stored_calm t h None va byte = h
  stored_calm t h (Some d) va byte = record {
    status = h.status;
    env_type = h.env_type;
    in_order = λ order. record {
      frames = stored_kept t.spaces d va byte (h.in_order order).frames;
      spaces = spaces_kept t.spaces (stored_byte t.spaces d va byte) t.environments (stored_uses t.spaces d va byte)
          (h.in_order order).spaces;
    };
  }

  memory_calm : (regs : Regs) (m : Running) → Calm m.state → Calm (step_of fenced_memory regs m Run).memory.state
  unfolding fenced_memory user_memory
  memory_calm regs m h = (step_through keeps regs m Run h).0
    where
      keeps : Agrees fenced_memory fenced_memory (λ (x : Running). x) (λ (x : Running). Calm x.state)
      keeps = record {
        byte = λ x h va. refl;
        allowed = λ x h va access. refl;
        fault = λ x h va access off. refl;
        reached = λ x h va access on. (touched_calm x.state h x.directory va access, refl);
        stored = λ x h va byte small. (stored_calm x.state h x.directory va byte, refl);
      }

  put_calm : (t : KernelState) → Calm t → (slot : Slot) → slot.status ≡ (slot_at t n).status →
      slot.env_type ≡ (slot_at t n).env_type → slot.directory ≡ (slot_at t n).directory → Calm (with_slot_at t n slot)
  put_calm t h slot status env_type directory = record {
    status = ap (λ (x : Slot). x.status) (slot_put t n slot) ∙ status ∙ h.status;
    env_type = ap (λ (x : Slot). x.env_type) (slot_put t n slot) ∙ env_type ∙ h.env_type;
    in_order = λ order. slot_in_order t n slot (ap (λ (x : Status). is_live (record slot { status = x })) status) directory
        (h.in_order order);
  }

  quiet_by : (c : Bool) (a b : EnvStep) → (tells a ≡ false → Calm a.state) → (tells b ≡ false → Calm b.state) →
      tells (if◌then◌else◌ {A = EnvStep} c a b) ≡ false → Calm (if◌then◌else◌ {A = EnvStep} c a b).state
  quiet_by true a b h k = h
  quiet_by false a b h k = k

  trap_tells : {X : Type 0} (t : KernelState) (trap error va ip : ℕ) → tells (after_trap t n trap error va ip) ≡ false → X
  trap_tells t trap error va ip is = absurd (let contradiction : true ≡ false = is in cc)

  event_calm : (t : KernelState) → Calm t → (ip : ℕ) (event : Event) → tells (after_event t n ip event) ≡ false →
      Calm (after_event t n ip event).state
  event_calm t h ip Next =
      quiet_by (is_resident (slot_at t n).registers.esp) (after_trap t n T_GPFLT 0 0 ip) (quietly t)
      (trap_tells t T_GPFLT 0 0 ip) (λ is. h)
  event_calm t h ip (Soft vector) =
      let eip = (slot_at t n).registers.eip in
      quiet_by (vector == T_SERVICE) (service_entered t n) (after_trap t n T_BRKPT 0 0 eip)
      (λ is. put_calm t h (record (slot_at t n) { extra = words_entered (slot_at t n).registers }) refl refl refl)
      (trap_tells t T_BRKPT 0 0 eip)
  event_calm t h ip (Raised trap error va) = trap_tells t trap error va ip

  stepped_calm : (ip : ℕ) (step : Stepped Running) → Calm step.memory.state → tells (after_instruction n ip step) ≡ false →
      Calm (after_instruction n ip step).state
  stepped_calm ip step h =
      event_calm (with_registers step.memory.state n step.regs)
      (put_calm step.memory.state h (record (slot_at step.memory.state n) { registers = step.regs }) refl refl refl) ip step.event

  instruction_calm : tells (guest_instruction s n) ≡ false → Calm (guest_instruction s n).state
  unfolding guest_instruction
  instruction_calm =
      let k = slot_at s n in
      stepped_calm k.registers.eip (step_of fenced_memory k.registers (loaded_in s k.directory) Run)
      (memory_calm k.registers (loaded_in s k.directory) (record { status = refl; env_type = refl; in_order = λ order. order }))

-- One that tells of no trap has raised none: no page to be copied has stopped it, nor any other page fault.
pub record RaisesNone (n : ℕ) (regs : Regs) (left : KernelState) (event : Event) : Type 0 where
  pub seen : is_copying left n event ≡ false
  pub small : SmallAtFault regs event

module _ (n : ℕ) where
  raises_none : (regs : Regs) (left t : KernelState) (ip : ℕ) (event : Event) → tells (after_event t n ip event) ≡ false →
      RaisesNone n regs left event
  raises_none regs left t ip Next none = record { seen = refl; small = tt }
  raises_none regs left t ip (Soft vector) none = record { seen = refl; small = tt }
  raises_none regs left t ip (Raised trap error va) none = absurd (let contradiction : true ≡ false = none in cc)

  instruction_none : (s : KernelState) → tells (guest_instruction s n) ≡ false →
      RaisesNone n (slot_at s n).registers (instruction_end s n) (instruction_step s n).event
  unfolding guest_instruction
  instruction_none s =
      let step = instruction_step s n in
      raises_none (slot_at s n).registers (instruction_end s n) (instruction_end s n) (slot_at s n).registers.eip step.event

-- one that goes on
module _ (s after : KernelState) (n : ℕ) (is : guest_instruction s n ≡ quietly after) where
  state_is : (guest_instruction s n).state ≡ after
  state_is = ap (λ (step : EnvStep). step.state) is

  quiet_left : GuestLeaves s n after
  quiet_left = subst (λ (t : KernelState). GuestLeaves s n t) state_is (instruction_left s n)

  pub quiet_calm : StaysCalm s n after
  quiet_calm = subst (λ (t : KernelState). StaysCalm s n t) state_is (instruction_calm s n (ap tells is))

  quiet_stands : is_servers s n ≡ false → is_awake (slot_at s n).status ≡ true → place_of (slot_at s n) ≡ place.Guest →
      KeepsRunning progress.Visible n s after []
  quiet_stands user awake guest a h runs none_refused =
      let b = awake_born h.0 s a h.1 n (others_slot h.1 n user) awake in
      let none = instruction_none n s (ap tells is) in
      subst (λ (step : EnvStep). GoesOn n step.state a step.written) is
      (guest_goes_on h.0 s a n b.0 h.1 b.1 guest none.small (h.1.tabled.running n runs) none.seen (subst IsInOrder (sym state_is) (quiet_calm.in_order h.1.in_order)))

  pub quiet_keeps : (disk : Option Disk) → is_servers s n ≡ false → is_awake (slot_at s n).status ≡ true → place_of (slot_at s n) ≡ place.Guest →
      KeepsWhole progress.Visible n (beside s disk) (beside after disk) []
  quiet_keeps disk user awake guest =
      whole_kept disk n s after progress.Visible [] user awake (λ names a stands other. awake_born names s a stands n other awake)
      left (none_requests s after n place.Guest guest refl refl) (quiet_stands user awake guest)
    where
      left : LeavesEach progress.Visible n s after
      left = guest_leaves s after n progress.Visible (sym state_is)

  quiet_uses : IsInOrder s → is_live (slot_at s n) ≡ true → EachHasUse s.spaces → EachHasUse after.spaces
  quiet_uses order live each = subst (λ (t : KernelState). EachHasUse t.spaces) state_is (guest_uses s n order live each)

-- another than the file server is another still
pub still_user : (s after : KernelState) (n : ℕ) → guest_instruction s n ≡ quietly after → is_servers s n ≡ false → is_servers after n ≡ false
still_user s after n is user = ap (λ (t : EnvType). is_file_server t) (quiet_calm s after n is).env_type ∙ user

-- ---- so many of them

-- what so many leave
pub record GoneQuietly (n : ℕ) (s t : KernelState) : Type 0 where
  pub last : t.last ≡ s.last
  pub turns : t.turns ≡ s.turns
  pub frames : t.spaces.frames ≡ s.spaces.frames
  pub refusals : t.refusals ≡ s.refusals
  pub status : (slot_at t n).status ≡ (slot_at s n).status
  pub env_type : (slot_at t n).env_type ≡ (slot_at s n).env_type

pub gone_quietly : (n k : ℕ) (s t : KernelState) → GuestGoesOn n k s t → GoneQuietly n s t
gone_quietly n zero s t same = record {
  last = λ i. (same i).last;
  turns = λ i. (same i).turns;
  frames = λ i. (same i).spaces.frames;
  refusals = λ i. (same i).refusals;
  status = λ i. (slot_at (same i) n).status;
  env_type = λ i. (slot_at (same i) n).env_type;
}
gone_quietly n (suc k) s t g =
    let one = quiet_left s g.0 n g.1 in
    let rest = gone_quietly n k g.0 t g.3 in record {
      last = rest.last ∙ one.last;
      turns = rest.turns ∙ one.turns;
      frames = rest.frames ∙ one.frames;
      refusals = rest.refusals ∙ one.refusals;
      status = rest.status ∙ (quiet_calm s g.0 n g.1).status;
      env_type = rest.env_type ∙ (quiet_calm s g.0 n g.1).env_type;
    }

pub running_awake : (status : Status) → is_running status ≡ true → is_awake status ≡ true
running_awake status runs = ap (λ (c : Bool). is_runnable status || c) runs ∙ or-true (is_runnable status)

-- The abstract system has taken as many visible steps, and has printed nothing in them.
pub quiet_in_turn : {schedule : List ℕ} {first : AbstractState} {turns : List Turn} {n : ℕ} {printed : List ℕ} (disk : Option Disk) (k visible : ℕ)
    (s t : KernelState) → GuestGoesOn n k s t → IsInTurn schedule first turns n visible (beside s disk) printed →
    (0 < k → (is_servers s n ≡ false) × (place_of (slot_at s n) ≡ place.Guest)) → is_running (slot_at s n).status ≡ true → s.last ≡ Some n →
    s.refusals < 2 ^ 64 - 1 → IsInTurn schedule first turns n (visible + k) (beside t disk) printed
quiet_in_turn {schedule = schedule} {first = first} {turns = turns} {n = n} {printed = printed} disk zero visible s t same h guest runs last few =
    let none : visible ≡ visible + 0 = omega arith in
    subst (λ (x : ℕ). IsInTurn schedule first turns n x (beside t disk) printed) none
    (subst (λ (x : KernelState). IsInTurn schedule first turns n visible (beside x disk) printed) (sym same) h)
quiet_in_turn {schedule = schedule} {first = first} {turns = turns} {n = n} {printed = printed} disk (suc k) visible s t g h guest runs last few =
    let next = g.0 in
    let left = quiet_left s next n g.1 in
    let none_refused : NothingRefused s next = record { stays = left.refusals; could = few } in
    let who = guest (omega arith) in
    let goes_on = quiet_keeps s next n g.1 disk who.0 (running_awake (slot_at s n).status runs) who.1 h.now h.stands (λ other. runs) none_refused in
    let one : IsInTurn schedule first turns n (visible + 1) (beside next disk) printed =
    subst (λ (l : List ℕ). IsInTurn schedule first turns n (visible + 1) (beside next disk) l) (append-nil printed)
    (step_visible [] h goes_on (only_runs goes_on.3.0.1 n (left.last ∙ last))) in
    let all : (visible + 1) + k ≡ visible + suc k = omega arith in
    subst (λ (x : ℕ). IsInTurn schedule first turns n x (beside t disk) printed) all
    (quiet_in_turn disk k (visible + 1) next t g.3 one (λ some. (still_user s next n g.1 who.0, g.2)) (ap (λ (x : Status). is_running x) (quiet_calm s next n g.1).status ∙ runs)
    (left.last ∙ last) (subst (λ (x : ℕ). x < 2 ^ 64 - 1) (sym left.refusals) few))

-- Each frame that is handed out keeps a use.
pub quiet_each : (n k : ℕ) (s t : KernelState) → GuestGoesOn n k s t → IsInOrder s → is_live (slot_at s n) ≡ true →
    EachHasUse s.spaces → EachHasUse t.spaces
quiet_each n zero s t same order live each = subst (λ (x : KernelState). EachHasUse x.spaces) (sym same) each
quiet_each n (suc k) s t g order live each =
    let calm = quiet_calm s g.0 n g.1 in
    quiet_each n k g.0 t g.3 (calm.in_order order) (ap (λ (x : Status). is_live (record (slot_at s n) { status = x })) calm.status ∙ live)
    (quiet_uses s g.0 n g.1 order live each)
