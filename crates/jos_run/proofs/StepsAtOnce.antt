-- Steps of a run that are made at once: instructions of a program that go on, and one more step, which may be the library's.
use Rattle.std.proofs.Common.{◌≡◌, ◌∙◌, ℕ, ◌+◌, ◌<◌, zero, suc, Bool, true, false, List, [], ◌∷◌, ◌++◌, length, Option, Some, None, Ok}
use Rattle.std.proofs.Common.{Result, Err, refl, sym, ap, subst, arith, if◌then◌else◌}
use Rattle.std.specs.Prelude.{IfOk, OnErr}
use Rattle.jos_host.specs.declared.host.Failed.{Failed}
use Rattle.jos_base.specs.declared.environment.EnvType.{EnvType}
use Rattle.jos_base.specs.declared.environment.Status.{Status}
use Rattle.jos_base.specs.declared.registers.Regs.{Regs}
use Rattle.jos_base.specs.Environments.{Slot, is_running}
use Rattle.jos_base.specs.KernelState.{KernelState, slot_at, turn_begun, turn_ended}
use Rattle.jos_cpu.specs.declared.events.Event.{Event}
use Rattle.jos_cpu.specs.declared.events.Event.TheVariants.{Next, Soft, Raised}
use Rattle.jos_cpu.specs.declared.events.Gates.TheVariants.{Run}
use Rattle.jos_cpu.specs.Steps.{Stepped}
use Rattle.jos_cpu.proofs.RegistersLeft.{Leaves as RegistersLeft, step_leaves}
use Rattle.jos_sched.specs.RoundRobin.{next}
use Rattle.jos_kernel.specs.declared.report.Turn.{Turn}
use Rattle.jos_kernel.specs.declared.trace.TrapLine.{TrapLine}
use Rattle.jos_kernel.specs.Books.{turn_of}
use Rattle.jos_kernel.specs.Running.{Running, loaded_in}
use Rattle.jos_kernel.specs.Steps.{EnvStep}
use Rattle.lib_os.specs.declared.place.Place.TheVariants as place
use Rattle.lib_os.specs.declared.progress.Progress.{Progress}
use Rattle.lib_os.specs.declared.progress.Progress.TheVariants as progress
use Rattle.lib_os.specs.LibrarySteps.{Leaves, LeavesRest, Lowers, TakesByPlace, is_pausing}
use Rattle.lib_os.specs.Disk.{Disk}
use Rattle.lib_os.specs.InOrder.{IsInOrder}
use Rattle.lib_os.specs.Places.{place_of}
use Rattle.lib_os.specs.UserCalls.{Output, is_file_server}
use Rattle.lib_os.specs.StandsInHandler.{AreSmall}
use Rattle.lib_os.proofs.GoingOn.{gives_nothing_up}
use Rattle.lib_os.proofs.Slots.{slot_put}
use Rattle.jos_run.specs.FencedMemory.{fenced_memory}
use Rattle.jos_run.specs.declared.steps.StepOutcome.{StepOutcome}
use Rattle.jos_run.specs.Guest.{Follows}
use Rattle.jos_run.specs.GuestSteps.{quietly, after_event, guest_instruction, is_copying, is_handed_over}
use Rattle.jos_run.specs.LibraryRuns.{visible_steps, hidden_steps}
use Rattle.jos_run.specs.RunSteps.{StepMade, IsMade, LeadTo, traps_of, written_in, turns_with}
use Rattle.jos_run.specs.ServerStands.{KeepsWhole}
use Rattle.jos_run.specs.Steps.{LeavesAs, Raises, RaisesAs, is_awake, is_servers, step_progress}
use Rattle.jos_run.specs.StepsAtOnce.{GuestGoesOn, came_to, MakesSteps}
use Rattle.jos_run.specs.Worlds.{World, beside}
use Rattle.jos_run.proofs.GuestLeaves.{guest_leaves}
use Rattle.jos_run.proofs.GuestStands.{SmallAtFault, copying_at, instruction_end, instruction_step}
use Rattle.jos_run.proofs.GuestTakes.{guest_takes}
use Rattle.jos_run.proofs.ProgramSteps.{IsRunningStep, program_goes_on, program_ends, program_copies, program_lowers, program_fails, guest_raises, leaves_as}
use Rattle.jos_run.proofs.ProgramSteps.{raises_as, whole_step}
use Rattle.jos_run.proofs.RequestsCalm.{none_requests}
use Rattle.jos_run.proofs.QuietSteps.{gone_quietly, quiet_calm, quiet_keeps, running_awake, still_user}
use Rattle.jos_run.proofs.RunSteps.{turns_further, turn_longer}

-- ---- a program

-- The burst of the program in slot n: those of its instructions that go on, where the last begins, and what comes of that.
pub record IsGuestBurst (n going : ℕ) (s after : KernelState) (ip : ℕ) (event : Event) : Type 0 where
  pub reached : KernelState
  pub went : GuestGoesOn n going s reached
  pub is_guest : place_of (slot_at reached n) ≡ place.Guest
  pub event_is : (instruction_step reached n).event ≡ event
  pub end_is : instruction_end reached n ≡ after
  pub last : guest_instruction reached n ≡ after_event after n ip event

-- A trap leaves the registers, so that they are small where they are small behind it.
small_before : (event : Event) (old new : Regs) → RegistersLeft event old new → AreSmall new → SmallAtFault old event
small_before Next old new left small = tt
small_before (Soft vector) old new left small = tt
small_before (Raised trap error va) old new left small = λ is. subst AreSmall left small

-- so it is as many steps of its environment
module _ {n going ip : ℕ} {event : Event} (disk : Option Disk) (s mid after : KernelState) (output : Output) (b : IsGuestBurst n going s mid ip event)
    (user : is_servers s n ≡ false) (awake : is_awake (slot_at s n).status ≡ true) (guest : place_of (slot_at s n) ≡ place.Guest) (small : AreSmall (slot_at mid n).registers)
    (order : IsInOrder after) where
  still_awake : is_awake (slot_at b.reached n).status ≡ true
  still_awake = ap (λ (x : Status). is_awake x) (gone_quietly n going s b.reached b.went).status ∙ awake

  reached_user : is_servers b.reached n ≡ false
  reached_user = ap (λ (t : EnvType). is_file_server t) (gone_quietly n going s b.reached b.went).env_type ∙ user

  abbrev step : Stepped Running
  step = instruction_step b.reached n

  still_small : SmallAtFault (slot_at b.reached n).registers step.event
  still_small =
      let k = slot_at b.reached n in
      let set : Slot = record (slot_at step.memory.state n) { registers = step.regs } in
      small_before step.event k.registers step.regs (step_leaves fenced_memory Run k.registers (loaded_in b.reached k.directory))
      (subst AreSmall ((λ i. (slot_at (sym b.end_is i) n).registers) ∙ ap (λ (x : Slot). x.registers) (slot_put step.memory.state n set)) small)

  makes : (last : Result StepOutcome Failed) → IsRunningStep (step_progress last) n b.reached after output →
      Leaves (step_progress last) n b.reached after → Lowers (step_progress last) n b.reached after → IfOk (step_progress last) (λ done. TakesByPlace n b.reached after) →
      IfOk last (λ stepped. Raises (place_of (slot_at b.reached n)) n b.reached stepped.trap after) → MakesSteps n going last (beside s disk) (beside after disk) output
  makes (Ok stepped) step leaves lowers takes raises = record {
    reached = b.reached;
    went = b.went;
    is_guest = λ some. (user, guest);
    step = whole_step disk b.reached after n output reached_user still_awake (Ok stepped.progress) leaves
        (none_requests b.reached after n place.Guest b.is_guest refl refl) step;
    rest = leaves.rest;
    leaves = leaves_as (is_servers b.reached n) disk (Ok stepped.progress) b.reached after n reached_user (record {
      each = leaves;
      lowers = lowers;
      gives_up = gives_nothing_up (Ok stepped.progress) (slot_at b.reached n) (slot_at after n) (ap is_pausing b.is_guest);
      takes = takes;
    });
    raises = raises_as (is_servers b.reached n) b.reached after n stepped.trap reached_user raises;
  }
  makes (Err failed) step leaves lowers takes raises = record {
    reached = b.reached;
    went = b.went;
    is_guest = λ some. (user, guest);
    step = whole_step disk b.reached after n output reached_user still_awake (Err failed) tt tt step;
    rest = tt;
    leaves = leaves_as (is_servers b.reached n) disk (Err failed) b.reached after n reached_user
        (record { each = tt; lowers = tt; gives_up = tt; takes = tt });
    raises = tt;
  }

  by_followed : (copying live : Bool) → copying_at b.reached n ≡ copying → (followed : Result (Option TrapLine) Failed) →
      Follows followed (guest_instruction b.reached n) after output →
      OnErr followed (is_handed_over (instruction_end b.reached n) n step.event ≡ false) →
      MakesSteps n going (came_to copying live followed) (beside s disk) (beside after disk) output
  by_followed true live is (Ok trap) told ended =
      makes (Ok (record { progress = progress.Hidden; trap = trap }))
      (program_copies b.reached after n output reached_user still_awake b.is_guest still_small order is trap told)
      (guest_leaves b.reached after n progress.Hidden told.0)
      (program_lowers b.reached after n output reached_user still_awake b.is_guest still_small order is trap told)
      (guest_takes b.reached after n b.is_guest told.0) (guest_raises b.reached after n trap b.is_guest told.0 told.1)
  by_followed false true is (Ok trap) told ended =
      makes (Ok (record { progress = progress.Visible; trap = trap }))
      (program_goes_on b.reached after n output reached_user still_awake b.is_guest still_small order is trap told)
      (guest_leaves b.reached after n progress.Visible told.0) tt (guest_takes b.reached after n b.is_guest told.0)
      (guest_raises b.reached after n trap b.is_guest told.0 told.1)
  by_followed false false is (Ok trap) told ended =
      makes (Ok (record { progress = progress.Ended; trap = trap }))
      (program_ends b.reached after n output reached_user still_awake b.is_guest still_small order is trap told)
      (guest_leaves b.reached after n progress.Ended told.0) tt (guest_takes b.reached after n b.is_guest told.0)
      (guest_raises b.reached after n trap b.is_guest told.0 told.1)
  by_followed copying live is (Err failed) told ended =
      makes (Err failed) (program_fails b.reached after n output reached_user still_awake b.is_guest still_small order failed told ended) tt tt tt tt

  pub program_made : (copying live : Bool) → copying ≡ is_copying mid n event → (followed : Result (Option TrapLine) Failed) →
      Follows followed (after_event mid n ip event) after output → OnErr followed (is_handed_over mid n event ≡ false) →
      MakesSteps n going (came_to copying live followed) (beside s disk) (beside after disk) output
  program_made copying live is followed told ended =
      by_followed copying live ((λ i. is_copying (b.end_is i) n (b.event_is i)) ∙ sym is) followed
      (subst (λ (step : EnvStep). Follows followed step after output) (sym b.last) told)
      (subst (λ (handed : Bool). OnErr followed (handed ≡ false)) (λ i. is_handed_over (sym b.end_is i) n (sym b.event_is i)) ended)

-- ---- steps of a run

-- a step of the environment in slot n
abbrev pub made_step : ℕ → Bool → Bool → Progress → List ℕ → Option TrapLine → World → StepMade
made_step n begins goes_on done bytes trap left = record {
  slot = n;
  begins = begins;
  goes_on = goes_on;
  progress = done;
  written = bytes;
  trap = trap;
  left = left;
}

-- an instruction that goes on
abbrev quiet_step : Option Disk → ℕ → Bool → KernelState → StepMade
quiet_step disk n begins left = made_step n begins true progress.Visible [] None (beside left disk)

-- So many of them beside a disk, and the last step, given whether it is the first of its turn.
pub steps_with : (disk : Option Disk) (begins : Bool) (n k : ℕ) (s t : KernelState) → GuestGoesOn n k s t → (Bool → StepMade) → List StepMade
steps_with disk begins n zero s t g last = last begins ∷ []
steps_with disk begins n (suc k) s t g last = quiet_step disk n begins g.0 ∷ steps_with disk false n k g.0 t g.3 last

-- ---- one that goes on

-- whether it is the first of its turn or not
quiet_made : (disk : Option Disk) (begins : Bool) (n : ℕ) (s u after : KernelState) → guest_instruction s n ≡ quietly after → is_servers s n ≡ false →
    place_of (slot_at s n) ≡ place.Guest → is_running (slot_at s n).status ≡ true → (if begins then turn_begun u n else u) ≡ s →
    (begins ≡ true → next u.environments u.last ≡ Some n) → IsMade (beside u disk) (quiet_step disk n begins after)
quiet_made disk begins n s u after g user guest runs is chosen =
    let state_is : after ≡ (guest_instruction s n).state = ap (λ (step : EnvStep). step.state) (sym g) in
    let left : Leaves (Ok progress.Visible) n s after = guest_leaves s after n progress.Visible state_is in
    record {
      chosen = chosen;
      running = (λ i. is_running (slot_at (is i) n).status) ∙ runs;
      raises = subst (λ (x : KernelState). RaisesAs (is_servers x n) n x None after) (sym is)
          (raises_as (is_servers s n) s after n None user
          (guest_raises s after n None guest state_is (ap (λ (step : EnvStep). step.trap) (sym g))));
      keeps = subst (λ (x : KernelState). KeepsWhole progress.Visible n (beside x disk) (beside after disk) []) (sym is)
          (quiet_keeps s after n g disk user (running_awake (slot_at s n).status runs) guest);
      rest = subst (λ (x : KernelState). LeavesRest x after) (sym is) left.rest;
      leaves = subst (λ (x : KernelState). LeavesAs (is_servers x n) disk (Ok progress.Visible) n x after) (sym is)
          (leaves_as (is_servers s n) disk (Ok progress.Visible) s after n user (record {
            each = left;
            lowers = tt;
            gives_up = gives_nothing_up (Ok progress.Visible) (slot_at s n) (slot_at after n) (ap is_pausing guest);
            takes = guest_takes s after n guest state_is;
          }));
    }

-- ---- all of them

module _ (disk : Option Disk) (n : ℕ) (goes_on : Bool) (done : Progress) (bytes : List ℕ) (trap : Option TrapLine) (left : World) where
  abbrev last : Bool → StepMade
  last begins = made_step n begins goes_on done bytes trap left

  pub steps_long : (begins : Bool) (k : ℕ) (s t : KernelState) (g : GuestGoesOn n k s t) →
      length (steps_with disk begins n k s t g last) ≡ k + 1
  unfolding steps_with
  steps_long begins zero s t g = refl
  steps_long begins (suc k) s t g =
      let rest : length (steps_with disk false n k g.0 t g.3 last) ≡ k + 1 = steps_long false k g.0 t g.3 in omega arith

  -- they lead on to where the last one leads
  module _ (t v : KernelState) (raises : RaisesAs (is_servers t n) n t trap left.state) (keeps : KeepsWhole done n (beside t disk) left bytes)
      (rest : LeavesRest t left.state) (leaves : LeavesAs (is_servers t n) disk (Ok done) n t left.state)
      (passed_is : (if goes_on then left.state else turn_ended left.state n) ≡ v) where
    pub steps_lead : (begins : Bool) (k : ℕ) (s u : KernelState) (g : GuestGoesOn n k s t) → (if begins then turn_begun u n else u) ≡ s →
        (begins ≡ true → next u.environments u.last ≡ Some n) → is_running (slot_at s n).status ≡ true →
        (0 < k → (is_servers s n ≡ false) × (place_of (slot_at s n) ≡ place.Guest)) →
        LeadTo (steps_with disk begins n k s t g last) (beside u disk) (beside v left.disk)
    unfolding steps_with LeadTo
    steps_lead begins zero s u g is chosen runs guest =
        let at_last : (if begins then turn_begun u n else u) ≡ t = is ∙ sym g in (
          record {
            chosen = chosen;
            running = (λ i. is_running (slot_at (is i) n).status) ∙ runs;
            raises = subst (λ (x : KernelState). RaisesAs (is_servers x n) n x trap left.state) (sym at_last) raises;
            keeps = subst (λ (x : KernelState). KeepsWhole done n (beside x disk) left bytes) (sym at_last) keeps;
            rest = subst (λ (x : KernelState). LeavesRest x left.state) (sym at_last) rest;
            leaves = subst (λ (x : KernelState). LeavesAs (is_servers x n) disk (Ok done) n x left.state) (sym at_last) leaves;
          },
          ap (λ (x : KernelState). beside x left.disk) passed_is,
        )
    steps_lead begins (suc k) s u g is chosen runs guest = (
      quiet_made disk begins n s u g.0 g.1 (guest (omega arith)).0 (guest (omega arith)).1 runs is chosen,
      steps_lead false k g.0 g.0 g.3 refl (λ so. absurd (let contradiction : false ≡ true = so in cc))
          (ap (λ (x : Status). is_running x) (quiet_calm s g.0 n g.1).status ∙ runs)
          (λ some. (still_user s g.0 n g.1 (guest (omega arith)).0, g.2)),
    )

  -- none of those that go on raises a trap or writes
  pub steps_traps : (begins : Bool) (k : ℕ) (s t : KernelState) (g : GuestGoesOn n k s t) →
      traps_of (steps_with disk begins n k s t g last) ≡ traps_of (last begins ∷ [])
  unfolding steps_with traps_of
  steps_traps begins zero s t g = refl
  steps_traps begins (suc k) s t g = steps_traps false k g.0 t g.3

  pub steps_written : (begins : Bool) (k : ℕ) (s t : KernelState) (g : GuestGoesOn n k s t) →
      written_in (steps_with disk begins n k s t g last) ≡ written_in (last begins ∷ [])
  unfolding steps_with written_in
  steps_written begins zero s t g = refl
  steps_written begins (suc k) s t g = steps_written false k g.0 t g.3

  -- the turn with them
  pub steps_turns : (begins : Bool) (k : ℕ) (s t : KernelState) (g : GuestGoesOn n k s t) (turns : List Turn) (slot visible hidden : ℕ) →
      (begins ≡ true → (slot ≡ n) × (visible ≡ 0) × (hidden ≡ 0)) →
      turns_with (if begins then turns else turns ++ turn_of slot visible hidden ∷ []) (steps_with disk begins n k s t g last)
      ≡ turns ++ turn_of slot (visible + (k + visible_steps done)) (hidden + hidden_steps done) ∷ []
  unfolding steps_with
  steps_turns begins zero s t g turns slot visible hidden begun =
      let none : visible + visible_steps done ≡ visible + (0 + visible_steps done) = omega arith in
      turn_longer begins turns (last begins) slot visible hidden refl begun
      ∙ (λ i. turns ++ turn_of slot (none i) (hidden + hidden_steps done) ∷ [])
  steps_turns begins (suc k) s t g turns slot visible hidden begun =
      let first = quiet_step disk n begins g.0 in
      let none : hidden + 0 ≡ hidden = omega arith in
      let all : (visible + 1) + (k + visible_steps done) ≡ visible + (suc k + visible_steps done) = omega arith in
      turns_further (if begins then turns else turns ++ turn_of slot visible hidden ∷ []) (first ∷ []) (steps_with disk false n k g.0 t g.3 last)
      ∙ ap (λ (l : List Turn). turns_with l (steps_with disk false n k g.0 t g.3 last))
      (turn_longer begins turns first slot visible hidden refl begun ∙ (λ i. turns ++ turn_of slot (visible + 1) (none i) ∷ []))
      ∙ steps_turns false k g.0 t g.3 turns slot (visible + 1) hidden (λ so. absurd (let contradiction : false ≡ true = so in cc))
      ∙ (λ i. turns ++ turn_of slot (all i) (hidden + hidden_steps done) ∷ [])
