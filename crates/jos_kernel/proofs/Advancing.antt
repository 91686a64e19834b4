-- A burst of the machine, with what comes of its last step and the count of its steps, is as many steps of the run.
use Rattle.std.proofs.Common.{◌≡◌, ℕ, ◌+◌, ◌-◌, ◌<◌, ◌≤◌, ◌==◌, ◌^◌, Bool, Option, None, Some, Ok, suc, true, false}
use Rattle.std.proofs.Common.{List, [], ◌∷◌, ◌++◌, length, min, vec_len, refl, sym, ap, subst, ◌∙◌, arith, if◌then◌else◌}
use Rattle.std.specs.Prelude.{not, nat_eq, unwrap_or}
use Rattle.std.specs.Option.{ForSome}
use Rattle.std.proofs.lemmas.Bool.Decides.{nat_tests}
use Rattle.std.proofs.lemmas.List.{length-append}
use Rattle.jos_host.specs.Frames.{from_to}
use Rattle.jos_host.specs.Gains.{Gains, GainsPart}
use Rattle.jos_base.specs.declared.registers.Regs.{Regs}
use Rattle.jos_base.specs.Words.{upd}
use Rattle.jos_base.specs.Environments.{Slot, is_live, is_running}
use Rattle.jos_base.specs.declared.numbers.TheConstants.{NENV}
use Rattle.jos_base.specs.KernelState.{KernelState, slot_at, with_registers, turn_begun, turn_ended}
use Rattle.jos_sched.specs.Quantum.{quantum}
use Rattle.jos_cpu.specs.declared.events.Event.{Event}
use Rattle.jos_cpu.specs.declared.events.Gates.TheVariants.{Exo}
use Rattle.jos_cpu.specs.Memory.{anywhere}
use Rattle.jos_cpu.specs.Bursts.{IsBurst}
use Rattle.jos_kernel.specs.declared.kernel.Kernel.{Kernel}
use Rattle.jos_kernel.specs.Running.{Running, user_memory}
use Rattle.jos_kernel.specs.declared.trace.TrapLine.{TrapLine}
use Rattle.jos_kernel.specs.Steps.{EnvStep, after_event, env_step}
use Rattle.jos_kernel.specs.Books.{turn_of, turn_goes_on, noted, traced, made}
use Rattle.jos_kernel.specs.ExoRun.{Ran, current, current_runs, bytes_counted, next_slot, turn_entered, end_of, traps_after, progressed, run_from}
use Rattle.jos_kernel.specs.Kernel.{ToldSoFar, nothing, and_told, state_of, progress_of, Counts, FailsIn, Advances}
use Rattle.jos_kernel.specs.Kernel.{goes_on_after, Counted}
use Rattle.jos_kernel.proofs.KeepsRest.{going_keeps, burst_keeps, directory_is, slot_is, state_is}
use Rattle.jos_kernel.proofs.EnvSteps.{env_step_is}
use Rattle.jos_kernel.proofs.TrapsKept.{traced_more}
use Rattle.jos_kernel.proofs.Turns.{running_live, InTurn, further, many}
use Rattle.jos_kernel.proofs.FirstStates.{SameTurns}
use Rattle.jos_kernel.proofs.TurnsKept.{event_same}
use Rattle.jos_kernel.proofs.RunsOn.{run_from-console}
use Rattle.jos_base.proofs.Maps.{upd-at}

-- ---- words

upd-same : {V : Type 0} (f : ℕ → V) (k q : ℕ) → upd f k (f k) q ≡ f q
unfolding upd
upd-same f k q = by_key (q == k) refl
  where
    by_key : (c : Bool) → (q == k) ≡ c → (if c then f k else f q) ≡ f q
    by_key true e = let same : q ≡ k = grind (arith, nat_tests) in ap f (sym same)
    by_key false e = refl

-- the registers that stand in a slot, put there
registers-same : (s : KernelState) (n : ℕ) → with_registers s n (slot_at s n).registers ≡ s
registers-same s n =
    λ i. record s { environments = record s.environments { slots = λ q. upd-same s.environments.slots n q i } }

pub end-told : (kernel : Kernel) (told : ToldSoFar) (spent : Bool) → end_of (progress_of kernel told) spent ≡ end_of (progress_of kernel nothing) spent
unfolding end_of
end-told kernel told spent = refl

-- what is counted of bytes, and of more
pub counted-more : (a b : List ℕ) → min (bytes_counted a + length b) (2 ^ 64 - 1) ≡ bytes_counted (a ++ b)
counted-more a b =
    let long : length (a ++ b) ≡ length a + length b = length-append a b in
    omega (arith, long)

same_test : (a b : ℕ) → nat_eq a b ≡ nat_eq b a
same_test a b = by_test (nat_eq b a) refl
  where
    by_test : (c : Bool) → nat_eq b a ≡ c → nat_eq a b ≡ c
    by_test true e = grind (arith, nat_tests)
    by_test false e = grind (arith, nat_tests)

both_or_none : (c : Bool) (a b : ℕ) → (if c then a else 0) + (if c then b else 0) ≡ (if c then a + b else 0)
both_or_none true a b = refl
both_or_none false a b = refl

-- an environment whose turn begins is RUNNING
pub begun_running : (s : KernelState) (n : ℕ) → is_running (slot_at (turn_begun s n) n).status ≡ true
begun_running s n = ap (λ (slot : Slot). is_running slot.status) (upd-at s.environments.slots n _)

-- a turn that begins refuses nothing
in_turn-refusals : (s : KernelState) (made : ℕ) → (turn_entered s made).refusals ≡ s.refusals
in_turn-refusals s made = by_made (made == 0)
  where
    by_made : (c : Bool) → (if c then turn_begun s (unwrap_or (next_slot s) 0) else s).refusals ≡ s.refusals
    by_made true = refl
    by_made false = refl

-- a slot of the table had the last turn
pub last_within : (last : Option ℕ) (slot : ℕ) → slot ≡ unwrap_or last 0 → slot < NENV → ForSome last (λ n. n < NENV)
last_within None slot e h = λ n k. absurd (cc)
last_within (Some m) slot e h = λ n k. subst (λ x. x < NENV) (e ∙ ap (λ o. unwrap_or o 0) k) h

-- ---- a burst

-- a turn in which the environment in this slot makes a burst
pub record Bursts (before : Kernel) (slot limit steps : ℕ) (event : Event) (m n : Running) (regs new : Regs) : Type 0 where
  pub goes_on : end_of (progress_of before nothing) false ≡ None
  pub visible : before.book.hidden ≡ 0
  pub begun : turn_entered (state_of before) (made before.book) ≡ m.state
  pub registers : regs ≡ (slot_at m.state slot).registers
  pub at : slot ≡ current (turn_entered (state_of before) (made before.book))
  pub within : slot < NENV
  pub runs : is_running (slot_at m.state slot).status ≡ true
  pub loaded : m.directory ≡ Some (slot_at m.state slot).directory
  pub ip : ℕ
  pub burst : IsBurst user_memory anywhere Exo limit steps ip event (record { regs = regs; memory = m }) (record { regs = new; memory = n })
  pub room : made before.book + limit ≤ quantum before.book.schedule (length before.book.turns.items)

module _ {before : Kernel} {slot limit steps : ℕ} {event : Event} {m n : Running} {regs new : Regs}
    (h : Bursts before slot limit steps event m n regs new) where
  abbrev burst : IsBurst user_memory anywhere Exo limit steps h.ip event (record { regs = regs; memory = m }) (record { regs = new; memory = n })
  burst = h.burst

  refusals : (state_of before).refusals ≡ m.state.refusals
  refusals = sym (in_turn-refusals (state_of before) (made before.book)) ∙ ap (λ (s : KernelState). s.refusals) h.begun

  entered : (told : ToldSoFar) → InTurn slot (progress_of before told) (record { regs = regs; memory = m })
  entered told = record {
    none = end-told before told false ∙ h.goes_on;
    begun = h.begun ∙ sym (registers-same m.state slot) ∙ (λ i. with_registers m.state slot (sym h.registers i));
    at = ap current (sym h.begun) ∙ sym h.at;
    within = h.within;
    runs = h.runs;
    loaded = h.loaded;
    refusals = refusals;
  }

  -- what comes of the last step
  abbrev pub last : EnvStep
  last = after_event (with_registers n.state slot new) slot event

  last_is : env_step (with_registers burst.reached.memory.state slot burst.reached.regs) slot ≡ last
  last_is =
      let k = going_keeps anywhere anywhere Exo burst.going (record { regs = regs; memory = m }) burst.reached burst.went in
      env_step_is slot burst.reached (record { regs = new; memory = n }) burst.last
      (directory_is k ∙ h.loaded ∙ (λ i. Some (sym (slot_is k slot) i).directory))

  pub burst_run : (told : ToldSoFar) (later : ℕ) →
      run_from before.book.schedule (steps + later) (progress_of before told)
      ≡ run_from before.book.schedule later (progressed before.book.schedule (further before.book.schedule slot (progress_of before told) burst.going) last)
  burst_run told later =
      let count : steps ≡ burst.going + 1 = burst.count in
      let fits : steps ≤ limit = burst.within in
      let a : steps + later ≡ suc burst.going + later = omega arith in
      ap (λ (x : ℕ). run_from before.book.schedule x (progress_of before told)) a
      ∙ many before.book.schedule slot burst.going later (progress_of before told) (record { regs = regs; memory = m }) burst.reached (entered told)
      (omega (arith, count, fits, h.room)) burst.went
      ∙ (λ i. run_from before.book.schedule later (progressed before.book.schedule (further before.book.schedule slot (progress_of before told) burst.going) (last_is i)))

  state_kept : n.state.refusals ≡ (state_of before).refusals
  state_kept = (λ i. (state_is (burst_keeps anywhere anywhere burst) i).refusals) ∙ sym refusals

  pub live_after : is_live (slot_at n.state slot) ≡ true
  live_after = running_live (slot_at n.state slot) ((λ i. is_running (slot_is (burst_keeps anywhere anywhere burst) slot i).status) ∙ h.runs)

  pub last_same : SameTurns m.state last.state
  last_same =
      let k = event_same (with_registers n.state slot new) slot event in
      let b = state_is (burst_keeps anywhere anywhere burst) in record {
        last = k.last ∙ (λ i. (b i).last);
        turns = k.turns ∙ (λ i. (b i).turns);
      }

  pub last_there : current last.state ≡ slot
  last_there = (λ i. unwrap_or (last_same.last i) 0) ∙ ap current (sym h.begun) ∙ sym h.at

  -- the steps are counted
  module _ (mid after : Kernel) (written : ℕ) (raised : Option TrapLine)
      (book : mid.book ≡ record before.book { trace = traced before.book.trace raised }) (written_is : mid.written ≡ before.written)
      (state : state_of mid ≡ last.state) (bytes : written ≡ length last.written) (trap : raised ≡ last.trap)
      (counts : Counted mid after slot steps written (not (nat_eq (state_of mid).refusals n.state.refusals))) where
    all_made : made mid.book + steps ≡ (made before.book + burst.going) + 1
    all_made =
        let count : steps ≡ burst.going + 1 = burst.count in
        let now : made mid.book ≡ made before.book = λ i. made (book i) in
        omega (arith, count, now)

    all_visible : mid.book.visible + steps ≡ (made before.book + burst.going) + 1
    all_visible =
        let hidden : mid.book.hidden ≡ 0 = (λ i. (book i).hidden) ∙ h.visible in
        omega (arith, all_made, hidden)

    none_hidden : mid.book.hidden + 0 ≡ 0
    none_hidden = let hidden : mid.book.hidden ≡ 0 = (λ i. (book i).hidden) ∙ h.visible in omega (arith, hidden)

    all_steps : after.book.steps ≡ (before.book.steps + burst.going) + 1
    all_steps =
        let count : steps ≡ burst.going + 1 = burst.count in
        let before_is : mid.book.steps ≡ before.book.steps = λ i. (book i).steps in
        omega (arith, count, counts.book.steps, before_is)

    goes : goes_on_after mid steps
        ≡ turn_goes_on before.book.schedule (length before.book.turns.items) ((made before.book + burst.going) + 1) (current_runs last.state)
    goes = λ i. turn_goes_on (book i).schedule (length (book i).turns.items) (all_made i) (current_runs (state i))

    slot_at_end : slot ≡ current last.state
    slot_at_end = sym last_there

    abbrev traps_told : (told : ToldSoFar) → List TrapLine
    traps_told told = traps_after told.traps last.trap

    pub counted_is : (told : ToldSoFar) → Counts before told →
        progress_of after (and_told told last.written (traps_told told))
        ≡ progressed before.book.schedule (further before.book.schedule slot (progress_of before told) burst.going) last
    unfolding progressed
    counted_is told c = λ i. record {
      state = (counts.state ∙ (λ j. if goes j then state j else turn_ended (state j) (slot_at_end j))) i;
      console = told.console ++ last.written;
      steps = all_steps i;
      turns = (counts.book.turns
          ∙ (λ j. if goes j then (book j).turns.items
          else (book j).turns.items ++ turn_of (slot_at_end j) (all_visible j) (none_hidden j) ∷ [])) i;
      made = ((λ j. counts.book.visible_are j + counts.book.hidden_are j)
          ∙ both_or_none (goes_on_after mid steps) (mid.book.visible + steps) (mid.book.hidden + 0)
          ∙ (λ j. if goes j then all_counted j else 0)) i;
      first_refused = (counts.book.first_refused
          ∙ (λ j. noted (book j).first_refused (not (nat_eq (state j).refusals (state_kept j))) (vec_len (book j).turns)
          ((written_is ∙ c.written) j))
          ∙ (λ j. noted before.book.first_refused (not (same_test last.state.refusals (state_of before).refusals j))
          (before.book.turns.ok.0 j) (bytes_counted told.console))) i;
      traps = traps_told told;
    }
      where
        all_counted : (mid.book.visible + steps) + (mid.book.hidden + 0) ≡ (made before.book + burst.going) + 1
        all_counted = omega (arith, all_visible, none_hidden)

    pub counts_told : (told : ToldSoFar) → Counts before told → Counts after (and_told told last.written (traps_told told))
    counts_told told c = record {
      written =
          counts.written_is
          ∙ (λ i. min ((written_is ∙ c.written) i + bytes i) (2 ^ 64 - 1))
          ∙ counted-more told.console last.written;
      trace = counts.book.trace ∙ (λ i. (book i).trace) ∙ (λ i. traced (c.trace i) (trap i)) ∙ traced_more told.kept told.traps last.trap;
    }

    pub on_counted : (left : ℕ) (first_console now : Option (List ℕ)) → limit ≤ left → Gains (from_to first_console now) last.written →
        Advances (Ok steps) left (from_to before after) (from_to first_console now)
    on_counted left first_console now fits gains =
        let count : steps ≡ burst.going + 1 = burst.count in
        let below : steps ≤ limit = burst.within in (
          omega (arith, count),
          omega (arith, below, fits),
          record {
            written = last.written;
            gains = gains;
            steps = (let before_is : mid.book.steps ≡ before.book.steps = λ i. (book i).steps in omega (arith, counts.book.steps, before_is));
            schedule = counts.book.schedule ∙ (λ i. (book i).schedule);
            traps = λ told c. traps_told told;
            counts = λ told c. counts_told told c;
            run = λ told c later. burst_run told later ∙ ap (run_from before.book.schedule later) (sym (counted_is told c));
          },
        )

  pub on_failed : (left : ℕ) (first_console now : Option (List ℕ)) → limit ≤ left → GainsPart (from_to first_console now) last.written →
      FailsIn left before (from_to first_console now)
  unfolding progressed
  on_failed left first_console now fits part =
      let below : steps ≤ limit = burst.within in
      let e : left ≡ steps + (left - steps) = omega (arith, below, fits) in (
        last.written,
        part,
        λ told c.
            let more = run_from-console before.book.schedule (left - steps)
            (progressed before.book.schedule (further before.book.schedule slot (progress_of before told) burst.going) last) in (
              more.0,
              ap (λ (x : ℕ). (run_from before.book.schedule x (progress_of before told)).progress.console) e
                  ∙ ap (λ (r : Ran). r.progress.console) (burst_run told (left - steps)) ∙ more.1,
            ),
      )
