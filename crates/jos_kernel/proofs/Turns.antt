-- Steps of a turn at once: what a burst does is what the run does in as many steps.
use Rattle.std.proofs.Common.{◌≡◌, ℕ, ◌+◌, ◌<◌, ◌==◌, ◌&&◌, ◌||◌, Bool, Option, None, Some, zero, suc, true, false}
use Rattle.std.proofs.Common.{List, [], ◌∷◌, ◌++◌, length, refl, sym, ap, ◌∙◌, arith, if◌then◌else◌}
use Rattle.std.specs.Prelude.{nat_lt, not}
use Rattle.std.proofs.lemmas.Bool.Decides.{nat_tests}
use Rattle.std.proofs.lemmas.List.{append-nil}
use Rattle.jos_base.specs.declared.numbers.TheConstants.{NENV}
use Rattle.jos_base.specs.declared.registers.Regs.{Regs}
use Rattle.jos_base.specs.declared.environment.Status.{Status}
use Rattle.jos_base.specs.declared.environment.Status.TheVariants as status
use Rattle.jos_base.specs.Environments.{Environments, Slot, is_live, is_free, is_running}
use Rattle.jos_base.specs.KernelState.{KernelState, slot_at, with_registers, turn_ended}
use Rattle.jos_envs.specs.Table.{any_live, any_live_below}
use Rattle.jos_sched.specs.Quantum.{quantum}
use Rattle.jos_cpu.specs.declared.events.Event.TheVariants.{Next}
use Rattle.jos_cpu.specs.declared.events.Gates.TheVariants.{Exo}
use Rattle.jos_cpu.specs.Memory.{anywhere}
use Rattle.jos_cpu.specs.Bursts.{ProcessorState, StepsTo, StepsOn}
use Rattle.jos_kernel.specs.declared.report.Refusal.{Refusal}
use Rattle.jos_kernel.specs.Running.{Running, user_memory}
use Rattle.jos_kernel.specs.Steps.{EnvStep, env_step}
use Rattle.jos_kernel.specs.Books.{turn_of, turn_goes_on, noted}
use Rattle.jos_kernel.specs.ExoRun.{RunProgress, current, current_runs, bytes_counted, turn_entered, end_of}
use Rattle.jos_kernel.specs.ExoRun.{first_refusal, traps_after}
use Rattle.jos_kernel.specs.ExoRun.{progressed_in, progressed, one_step, after_test, run_from}
use Rattle.jos_kernel.proofs.KeepsRest.{KeepsRest, steps_keeps, directory_is, slot_is, state_is}
use Rattle.jos_kernel.proofs.EnvSteps.{env_step_is}
use Rattle.std.proofs.Math.Bool.{or-true}
use Rattle.jos_base.proofs.Maps.{upd-at}

-- ---- live environments

live_below : (slots : ℕ → Slot) (bound n : ℕ) → n < bound → is_live (slots n) ≡ true → any_live_below slots bound ≡ true
unfolding any_live_below
live_below slots zero n below live = absurd (omega (arith, below))
live_below slots (suc bound) n below live = by_last (n == bound) refl (λ k. live_below slots bound n k live)
  where
    by_last : (c : Bool) → (n == bound) ≡ c → (n < bound → any_live_below slots bound ≡ true) →
        (any_live_below slots bound || is_live (slots bound)) ≡ true
    by_last true e rest =
        let k : n ≡ bound = grind (arith, nat_tests) in
        ap (λ c. any_live_below slots bound || c) (ap (λ (x : ℕ). is_live (slots x)) (sym k) ∙ live) ∙ or-true (any_live_below slots bound)
    by_last false e rest =
        let k : n < bound = grind (arith, nat_tests) in
        ap (λ c. c || is_live (slots bound)) (rest k)

pub some_live : (e : Environments) (n : ℕ) → n < NENV → is_live (e.slots n) ≡ true → any_live e ≡ true
unfolding any_live
some_live e n below live = live_below e.slots NENV n below live

pub running_live : (slot : Slot) → is_running slot.status ≡ true → is_live slot ≡ true
running_live slot runs = by_status slot.status runs
  where
    by_status : (s : Status) → is_running s ≡ true → not (is_free s) ≡ true
    by_status status.Running e = refl
    by_status status.Free e = cc
    by_status status.Dying e = cc
    by_status status.Runnable e = cc
    by_status status.NotRunnable e = cc

-- ---- one step that goes on

-- Where a turn of the environment in slot c stands: the machine has this memory, and these registers.
pub record InTurn (c : ℕ) (p : RunProgress) (m : ProcessorState Running) : Type 0 where
  pub none : end_of p false ≡ None
  pub begun : turn_entered p.state p.made ≡ with_registers m.memory.state c m.regs
  pub at : current m.memory.state ≡ c
  pub within : c < NENV
  pub runs : is_running (slot_at m.memory.state c).status ≡ true
  pub loaded : m.memory.directory ≡ Some (slot_at m.memory.state c).directory
  pub refusals : p.state.refusals ≡ m.memory.state.refusals

-- where it stands after a step that goes on
abbrev pub went : ℕ → RunProgress → ProcessorState Running → RunProgress
went c p m = record p { state = with_registers m.memory.state c m.regs; steps = p.steps + 1; made = p.made + 1 }

none_noted : (first : Option Refusal) (turn written : ℕ) → noted first false turn written ≡ first
none_noted (Some refusal) turn written = refl
none_noted None turn written = refl

refusal-same : (p : RunProgress) (after : KernelState) → p.state.refusals ≡ after.refusals → first_refusal p after ≡ p.first_refused
refusal-same p after e =
    let k : (p.state.refusals == after.refusals) ≡ true = grind (arith, nat_tests) in
    ap (λ c. noted p.first_refused (not c) (length p.turns) (bytes_counted p.console)) k
    ∙ none_noted p.first_refused (length p.turns) (bytes_counted p.console)

slot-at : (s : KernelState) (c : ℕ) (regs : Regs) → slot_at (with_registers s c regs) c ≡ record (slot_at s c) { registers = regs }
slot-at s c regs = upd-at s.environments.slots c (record (slot_at s c) { registers = regs })

-- what a step makes of a progress, where this is the first refusal then
abbrev with_first : RunProgress → EnvStep → Bool → Option Refusal → RunProgress
with_first q s goes first = record {
  state = if goes then s.state else turn_ended s.state (current s.state);
  console = q.console ++ s.written;
  steps = q.steps + 1;
  turns = if goes then q.turns else q.turns ++ turn_of (current s.state) (q.made + 1) 0 ∷ [];
  made = if goes then q.made + 1 else 0;
  first_refused = first;
  traps = traps_after q.traps s.trap;
}

refused_same : (state : KernelState) (q : RunProgress) (s : EnvStep) → state.refusals ≡ q.state.refusals → (goes : Bool) →
    with_first q s goes (first_refusal (record q { state = state }) s.state) ≡ with_first q s goes (first_refusal q s.state)
refused_same state q s r goes =
    λ i. with_first q s goes (noted q.first_refused (not (r i == s.state.refusals)) (length q.turns) (bytes_counted q.console))

module _ (schedule : List ℕ) (c : ℕ) where
  -- what a run does next, where its turn stands so
  pub run_from-step : (left : ℕ) (p : RunProgress) (m : ProcessorState Running) → InTurn c p m →
      run_from schedule (suc left) p
      ≡ run_from schedule left (progressed schedule p (env_step (with_registers m.memory.state c m.regs) c))
  unfolding run_from one_step
  run_from-step left p m t =
      (λ i. after_test p (t.none i) (run_from schedule left (one_step schedule p)))
      ∙ (λ i. run_from schedule left (progressed schedule p (env_step (t.begun i) (current (t.begun i)))))
      ∙ (λ i. run_from schedule left (progressed schedule p (env_step (with_registers m.memory.state c m.regs) (t.at i))))

  progressed-went : (p : RunProgress) (s : KernelState) → is_running (slot_at s c).status ≡ true → current s ≡ c →
      p.made + 1 < quantum schedule (length p.turns) → p.state.refusals ≡ s.refusals →
      progressed schedule p (record { state = s; written = []; trap = None })
      ≡ record p { state = s; steps = p.steps + 1; made = p.made + 1 }
  unfolding progressed
  progressed-went p s runs at below refusals =
      let lt : nat_lt (p.made + 1) (quantum schedule (length p.turns)) ≡ true = grind (arith, nat_tests) in
      let goes : turn_goes_on schedule (length p.turns) (p.made + 1) (current_runs s) ≡ true =
      (λ i. is_running (slot_at s (at i)).status && lt i) ∙ (λ i. runs i && true) in
      rw (goes, append-nil p.console, refusal-same p s refusals) refl

  module _ (p : RunProgress) (before after : ProcessorState Running) (t : InTurn c p before) (step : StepsTo user_memory Exo before Next after)
      (below : p.made + 1 < quantum schedule (length p.turns)) where
    kept : KeepsRest before.memory after.memory
    kept = steps_keeps anywhere Exo Next before after step

    slot : slot_at after.memory.state c ≡ slot_at before.memory.state c
    slot = slot_is kept c

    state_at : current after.memory.state ≡ c
    state_at = (λ i. current (state_is kept i)) ∙ t.at

    runs : is_running (slot_at after.memory.state c).status ≡ true
    runs = (λ i. is_running (slot i).status) ∙ t.runs

    runs_with : is_running (slot_at (with_registers after.memory.state c after.regs) c).status ≡ true
    runs_with = (λ i. is_running (slot-at after.memory.state c after.regs i).status) ∙ runs

    refusals : p.state.refusals ≡ after.memory.state.refusals
    refusals = t.refusals ∙ (λ i. (sym (state_is kept) i).refusals)

    pub run_from-went : (left : ℕ) → run_from schedule (suc left) p ≡ run_from schedule left (went c p after)
    run_from-went left =
        run_from-step left p before t
        ∙ (λ i. run_from schedule left (progressed schedule p (env_step_is c before after step t.loaded i)))
        ∙ (λ i. run_from schedule left (progressed-went p (with_registers after.memory.state c after.regs) runs_with state_at below refusals i))

    pub turn-went : InTurn c (went c p after) after
    unfolding end_of
    turn-went = record {
      none =
          let nz : (p.made + 1 == 0) ≡ false = grind (arith, nat_tests) in
          let live : any_live (with_registers after.memory.state c after.regs).environments ≡ true =
          some_live (with_registers after.memory.state c after.regs).environments c t.within
          (running_live (slot_at (with_registers after.memory.state c after.regs) c) runs_with) in
          rw (live, nz) refl;
      begun = let nz : (p.made + 1 == 0) ≡ false = grind (arith, nat_tests) in rw nz refl;
      at = state_at;
      within = t.within;
      runs = runs;
      loaded = directory_is kept ∙ t.loaded ∙ (λ i. Some (sym slot i).directory);
      refusals = refl;
    }

  -- where a turn stands after so many further steps that go on, but for its state
  abbrev pub further : RunProgress → ℕ → RunProgress
  further p n = record p { steps = p.steps + n; made = p.made + n }

  -- what a step makes of where a turn stands does not hang on its state, but for the refusals
  progressed-same : (p q : RunProgress) (s : EnvStep) → p.state.refusals ≡ q.state.refusals → p.steps ≡ q.steps → p.made ≡ q.made →
      p.console ≡ q.console → p.turns ≡ q.turns → p.first_refused ≡ q.first_refused → p.traps ≡ q.traps →
      progressed schedule p s ≡ progressed schedule q s
  unfolding progressed
  progressed-same p q s r a b k t f l =
      (λ i. progressed_in (turn_goes_on schedule (length (t i)) (b i + 1) (current_runs s.state))
      (record { state = p.state; console = k i; steps = a i; turns = t i; made = b i; first_refused = f i; traps = l i }) s)
      ∙ refused_same p.state q s r (turn_goes_on schedule (length q.turns) (q.made + 1) (current_runs s.state))

  -- so many steps that go on, and one more
  pub many : (n later : ℕ) (p : RunProgress) (before after : ProcessorState Running) → InTurn c p before → p.made + n < quantum schedule (length p.turns) →
      StepsOn user_memory anywhere Exo n before after →
      run_from schedule (suc n + later) p
      ≡ run_from schedule later (progressed schedule (further p n) (env_step (with_registers after.memory.state c after.regs) c))
  many zero later p before after t below g =
      let a : suc zero + later ≡ suc later = omega arith in
      ap (λ (x : ℕ). run_from schedule x p) a
      ∙ run_from-step later p before t
      ∙ (λ i. run_from schedule later (progressed schedule p (env_step (with_registers (sym g i).memory.state c (sym g i).regs) c)))
      ∙ ap (run_from schedule later) (progressed-same p (further p 0) _ refl (omega arith) (omega arith) refl refl refl refl)
  many (suc n) later p before after t below g =
      let a : suc (suc n) + later ≡ suc (suc n + later) = omega arith in
      let first : p.made + 1 < quantum schedule (length p.turns) = omega (arith, below) in
      let q = went c p g.0 in
      ap (λ (x : ℕ). run_from schedule x p) a
      ∙ run_from-went p before g.0 t g.1 first (suc n + later)
      ∙ many n later q g.0 after (turn-went p before g.0 t g.1 first) (omega (arith, below)) g.3
      ∙ ap (run_from schedule later) (progressed-same (further q n) (further p (suc n)) _
      (sym (refusals p before g.0 t g.1 first)) (omega arith) (omega arith) refl refl refl refl)
