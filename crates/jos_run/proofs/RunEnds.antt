-- Runs step after step, how they end, and what is told of them.
use Rattle.std.proofs.Common.{◌≡◌, ◌≢◌, ◌∙◌, ℕ, ◌+◌, ◌-◌, ◌<◌, ◌≤◌, ◌==◌, ◌&&◌, Bool, true, false}
use Rattle.std.proofs.Common.{List, [], ◌∷◌, ◌++◌, length}
use Rattle.std.proofs.Common.{Option, Some, None, Ok, inl, inr, refl, sym, ap, subst, arith, append_assoc, if◌then◌else◌, vec_len}
use Rattle.std.specs.Prelude.{◌^◌, min, nat_le, not, is_none}
use Rattle.std.specs.Option.{ForSome}
use Rattle.std.proofs.lemmas.Bool.Decides.{nat_tests}
use Rattle.std.proofs.lemmas.Bool.{cases_lt, false≢true}
use Rattle.std.proofs.lemmas.List.{append-nil, length-append}
use Rattle.std.proofs.lemmas.Option.{same_Some}
use Rattle.circular_buffer.specs.Buffer.{Buffer, buffer, keep_last}
use Rattle.jos_host.specs.Frames.{from_to}
use Rattle.jos_host.specs.Gains.{Gains}
use Rattle.jos_base.specs.declared.numbers.TheConstants.{NENV, TURN_MAX}
use Rattle.jos_base.specs.Environments.{is_live, is_running}
use Rattle.jos_base.specs.KernelState.{KernelState, slot_at, turn_ended}
use Rattle.jos_envs.specs.Table.{may_run}
use Rattle.jos_sched.specs.Quantum.{quantum}
use Rattle.jos_sched.specs.RoundRobin.{start, next}
use Rattle.jos_sched.proofs.RoundRobin.{next_runs, none_runs}
use Rattle.jos_kernel.specs.declared.report.End.{End}
use Rattle.jos_kernel.specs.declared.report.End.TheVariants.{Done, Stuck, Budget, TurnsFull}
use Rattle.jos_kernel.specs.declared.report.Refusal.{Refusal}
use Rattle.jos_kernel.specs.declared.report.Turn.{Turn}
use Rattle.jos_kernel.specs.declared.trace.TrapLine.{TrapLine}
use Rattle.jos_kernel.specs.Books.{turn_of, made, HasRoom}
use Rattle.jos_kernel.specs.ExoRun.{bytes_counted}
use Rattle.jos_kernel.specs.Reports.{CutOff, Reported}
use Rattle.jos_kernel.proofs.ToldBytes.{gains_none, gains_more}
use Rattle.lib_os.specs.AbstractState.{AbstractState, AbstractSlot, can_run, can_run_as}
use Rattle.lib_os.specs.Disk.{Disk}
use Rattle.lib_os.specs.Rows.{Names}
use Rattle.lib_os.specs.StandsFor.{StandsFor}
use Rattle.lib_os.proofs.SlotsStand.{born_at}
use Rattle.lib_os.proofs.StatesStand.{turn_ended_stands}
use Rattle.fs_serving.specs.ServerRuns.{is_acting}
use Rattle.fs_seen.specs.ServerSoon.{SERVER_STEPS_MAX}
use Rattle.jos_run.specs.Begun.{IsNew}
use Rattle.jos_run.specs.ServerStands.{StandsWhole}
use Rattle.jos_run.specs.declared.closing.TheConstants.{CLOSING_MAX}
use Rattle.jos_run.specs.declared.library_run.LibraryRun.{LibraryRun}
use Rattle.jos_run.specs.AbstractTurns.{next_slot, is_client, any_live, end_of, steps_taken}
use Rattle.jos_run.specs.LibraryRuns.{others_live, end_seen, IsBetween, IsInTurn}
use Rattle.jos_run.specs.RunReports.{CutOffBy, HasEnded, HasFinished, HasTakenTurns, IsRefused, IsRefusedInTurn, IsTold, IsToldCutOff, TellsFiles}
use Rattle.jos_run.specs.RunReports.{ToldBy, behind_turns, in_a_turn, quietly}
use Rattle.jos_run.specs.RunSteps.{HasGone, IsWrittenBack, IsWrittenOver, acts_in, end_at, traps_of, turns_with}
use Rattle.jos_run.specs.Closing.{ClosesBy, ClosesRun, FailsBy, HasGoneOn, IsCutClosing, IsNotedSo, IsOver, StandsQuietly}
use Rattle.jos_run.specs.Served.{kernel_state}
use Rattle.jos_run.specs.Running.{state_of, turns_so_far, Holds, StandsBy, StandsSo, RunsBy, Runs, IsChosen, Went, HasFailed}
use Rattle.jos_run.specs.Running.{EndsBy, HasRunToEnd, report_of, cut_off_of}
use Rattle.jos_run.specs.Worlds.{World, beside}
use Rattle.jos_run.proofs.Advancing.{awake_running}
use Rattle.jos_run.proofs.ClosingSteps.{acting_of}
use Rattle.jos_run.proofs.FilesStand.{files_written}
use Rattle.jos_run.proofs.TurnsTaken.{no_steps}
use Rattle.jos_run.proofs.Choices.{any_live_stands, end_stands, ended_none, next_stands, runs_stand, only_first_serves}
use Rattle.jos_run.proofs.RunsKept.{run_begins, between_fits, in_turn_ran, in_turn_fits, running_born}
use Rattle.jos_run.proofs.ServerTurns.{running_serves}
use Rattle.jos_run.proofs.RunSteps.{no_step, lead_further, no_trap, traps_further, none_kept, none_written, written_further, no_turn_more, turns_further, end_between, end_in_turn, budget_spent}
use Rattle.jos_run.proofs.StepsMade.{none_made, some_made}
use Rattle.jos_base.proofs.Below.{some_below-at}
use Rattle.jos_kernel.proofs.Choices.{runnable_live}

-- ---- who is there

-- The slot that gets the next turn has an environment.
pub next_live : (s : KernelState) (n : ℕ) → next s.environments s.last ≡ Some n → (n < NENV) × (is_live (slot_at s n) ≡ true)
next_live s n is = let runs = next_runs s.environments s.last n is in (runs.0, runnable_live (slot_at s n) runs.1)

-- outside of slot 0 it is one but the file server
pub next_other : (s : KernelState) (n : ℕ) → next s.environments s.last ≡ Some n → n ≢ 0 → others_live s ≡ true
next_other s n is other =
    let there = next_live s n is in
    let test : (n == 0) ≡ false = grind (arith, nat_tests) in
    some_below-at (λ m. not (m == 0) && is_live (slot_at s m)) NENV n there.0
    (ap (λ (c : Bool). not c && is_live (slot_at s n)) test ∙ there.1)

-- ---- steps after steps

-- none was made yet
pub none_yet : (r : LibraryRun) (disk : Option Disk) (console : Option (List ℕ)) → Went 0 (from_to r r) (from_to disk disk) (from_to console console)
none_yet r disk console = record {
  printed = [];
  gains = gains_none console;
  steps_are = omega arith;
  schedule = refl;
  steps_made = [];
  long = refl;
  lead = no_step (beside (state_of r) disk);
  printed_are = sym none_written;
  turns = no_turn_more (turns_so_far r);
  kept = λ most traps is.
      is ∙ ap (λ (l : List TrapLine). buffer (keep_last most l) most)
      (sym (append-nil traps) ∙ ap (λ (l : List TrapLine). traps ++ l) (sym no_trap));
  runs = λ first frames before h. subst (λ (l : List ℕ). Runs first frames disk r l) (sym (append-nil before)) h;
}

pub went_further : {steps more : ℕ} {r s t : LibraryRun} {d e f : Option Disk} {a b c : Option (List ℕ)} →
    Went steps (from_to r s) (from_to d e) (from_to a b) → Went more (from_to s t) (from_to e f) (from_to b c) →
    Went (steps + more) (from_to r t) (from_to d f) (from_to a c)
went_further {steps = steps} {more = more} {r = r} {s = s} {t = t} {d = d} {e = e} {f = f} {a = a} {b = b} {c = c} v w = record {
  printed = v.printed ++ w.printed;
  gains = gains_more a b c v.printed w.printed v.gains w.gains;
  steps_are = omega (arith, v.steps_are, w.steps_are);
  schedule = w.schedule ∙ v.schedule;
  steps_made = v.steps_made ++ w.steps_made;
  long = length-append v.steps_made w.steps_made ∙ (λ i. v.long i + w.long i);
  lead = lead_further v.steps_made w.steps_made (beside (state_of r) d) (beside (state_of s) e) (beside (state_of t) f) v.lead w.lead;
  printed_are =
      (λ i. v.printed_are i ++ w.printed_are i) ∙ sym (written_further v.steps_made w.steps_made);
  turns = w.turns ∙ ap (λ (l : List Turn). turns_with l w.steps_made) v.turns
      ∙ sym (turns_further (turns_so_far r) v.steps_made w.steps_made);
  kept = λ most traps is.
      w.kept most (traps ++ traps_of v.steps_made) (v.kept most traps is)
      ∙ ap (λ (l : List TrapLine). buffer (keep_last most l) most)
      (append_assoc traps (traps_of v.steps_made) (traps_of w.steps_made)
      ∙ ap (λ (l : List TrapLine). traps ++ l) (sym (traps_further v.steps_made w.steps_made)));
  runs = λ first frames before h. subst (λ (l : List ℕ). Runs first frames f t l) (append_assoc before v.printed w.printed)
      (w.runs first frames (before ++ v.printed) (v.runs first frames before h));
}

-- the host failed after steps that were made
pub fails_further : {steps : ℕ} {r s t : LibraryRun} {d e f : Option Disk} {a b c : Option (List ℕ)} →
    Went steps (from_to r s) (from_to d e) (from_to a b) → HasFailed (from_to s t) (from_to e f) (from_to b c) →
    HasFailed (from_to r t) (from_to d f) (from_to a c)
fails_further {r = r} {s = s} {t = t} {a = a} {b = b} {c = c} v x = record {
  printed = v.printed ++ x.printed;
  gains = gains_more a b c v.printed x.printed v.gains x.gains;
  cut_off = λ first frames before h.
      subst (λ (schedule : List ℕ). CutOffBy t.book.first_refused schedule first frames (turns_so_far t)
      (before ++ (v.printed ++ x.printed))) v.schedule
      (subst (λ (l : List ℕ). CutOffBy t.book.first_refused s.book.schedule first frames (turns_so_far t) l)
      (append_assoc before v.printed x.printed)
      (x.cut_off first frames (before ++ v.printed) (v.runs first frames before h)));
}

-- ---- the end

-- Between two turns the end tests tell it.
between_end : (r : LibraryRun) (disk : Option Disk) (spent : Bool) (end : End) → made r.book ≡ 0 →
    end_seen (state_of r) (vec_len r.book.turns) spent ≡ Some end →
    (first : AbstractState) (frames : ℕ) (printed : List ℕ) → Runs first frames disk r printed →
    EndsBy r.book.first_refused first spent disk r printed end
between_end r disk spent end none seen first frames printed = by_first r.book.first_refused
  where
    test : true ≡ (made r.book == 0)
    test = grind (arith, nat_tests)

    told : IsBetween r.book.schedule first r.book.turns.items (beside (state_of r) disk) printed →
        HasEnded r.book.schedule first r.book.turns.items printed spent (beside (state_of r) disk) end
    told h = record {
      now = h.now;
      stands = h.stands;
      taken = record { ran = h.ran; fit = between_fits h; console = h.console };
      whole = λ other. h.fit;
      over = ap (λ (k : ℕ). end_of h.now k spent) (sym r.book.turns.ok.0)
          ∙ end_stands h.stands.0.1 h.none (only_first_serves h.stands.0.1) (vec_len r.book.turns) spent ∙ seen;
    }

    by_made : (c : Bool) → true ≡ c → StandsBy c r.book.schedule first disk r printed →
        HasEnded r.book.schedule first (if c then r.book.turns.items else r.book.turns.items ++ turn_of r.served.slot r.book.visible r.book.hidden ∷ [])
        printed spent (beside (state_of r) disk) end
    by_made true is h = told h
    by_made false is h = absurd (let contradiction : true ≡ false = is in cc)

    by_first : (o : Option Refusal) → RunsBy o first frames disk r printed → EndsBy o first spent disk r printed end
    by_first None h = by_made (made r.book == 0) test h.stands
    by_first (Some refusal) h = tt

-- An environment that is RUNNING may have a turn after this one.
goes_on_next : {names : Names} {s : KernelState} {a : AbstractState} → StandsFor names s a → (n : ℕ) → n < NENV →
    ForSome s.last (λ m. m < NENV) →
    ((m : ℕ) → m ≢ n → is_running (slot_at s m).status ≡ false) → is_running (slot_at s n).status ≡ true → is_none (next_slot a) ≡ false
goes_on_next {names = names} {s = s} {a = a} h n within last only runs = by_next (next_slot a) refl
  where
    over : StandsFor names (turn_ended s n) a
    over = turn_ended_stands h n

    ready : can_run a n ≡ true
    ready = by_slot (n == 0) refl
      where
        by_slot : (c : Bool) → (n == 0) ≡ c → can_run a n ≡ true
        by_slot true test =
            let is_first : n ≡ 0 = grind (arith, nat_tests) in
            ap (λ (m : ℕ). can_run a m) is_first ∙ ap (λ (slot : AbstractSlot). can_run_as a.server slot) h.first
            ∙ ap (λ (c : Bool). not c) (running_serves h (ap (λ (m : ℕ). is_running (slot_at s m).status) (sym is_first) ∙ runs))
        by_slot false test =
            let other : n ≢ 0 = grind (arith, nat_tests) in
            let who = running_born h n other runs in
            ap (λ (slot : AbstractSlot). can_run (record a { slots = λ m. slot }) n) who.1
            ∙ ap (λ (c : Bool). not c) (awake_running (slot_at s n).status who.0.blocked (born_at h n who.0 who.1).runs runs)

    last_small : (o : Option ℕ) → ForSome o (λ m. m < NENV) → start o ≤ NENV
    last_small None h = omega arith
    last_small (Some m) h = let below : m < NENV = h m refl in omega arith

    by_next : (o : Option ℕ) → next_slot a ≡ o → is_none o ≡ false
    by_next (Some m) is = refl
    by_next None is =
        let none = ended_none s n only in
        let nobody : next (turn_ended s n).environments (turn_ended s n).last ≡ None = next_stands over none ∙ is in
        let most : start (turn_ended s n).last ≤ NENV =
        subst (λ (o : Option ℕ). start o ≤ NENV) (h.last ∙ sym over.last) (last_small s.last last) in
        let idle_now : may_run (turn_ended s n).environments n ≡ false = none_runs (turn_ended s n).environments
        (turn_ended s n).last most nobody n within in
        absurd (let contradiction : true ≡ false = sym ready ∙ sym (runs_stand over n (none n)) ∙ idle_now in cc)

running_client : {names : Names} {s : KernelState} {a : AbstractState} → StandsFor names s a → (n : ℕ) → n < NENV →
    is_running (slot_at s n).status ≡ true → (n ≡ 0 → others_live s ≡ true) → any_live a ≡ true
running_client {s = s} {a = a} h n within runs others = by_slot (n == 0) refl
  where
    by_slot : (c : Bool) → (n == 0) ≡ c → any_live a ≡ true
    by_slot true test = any_live_stands h (only_first_serves h) ∙ others (grind (arith, nat_tests))
    by_slot false test =
        let other : n ≢ 0 = grind (arith, nat_tests) in
        let who = running_born h n other runs in
        some_below-at (λ m. is_client (a.slots m)) NENV n within (ap (λ (slot : AbstractSlot). is_client slot) who.1)

-- the steps are used up while an environment runs, beside which there is another where it is the file server's
spent_end : (a : AbstractState) (turns : ℕ) → any_live a ≡ true → is_none (next_slot a) ≡ false → end_of a turns true ≡ Some Budget
unfolding end_of
spent_end a turns live ready =
    ap (λ (c : Bool). if not c then Some Done else if is_none (next_slot a) then Some Stuck else Some Budget) live
    ∙ ap (λ (c : Bool). if c then Some Stuck else Some Budget) ready

-- Where the steps are used up in a turn, it is the budget that ends the run.
in_turn_end : (r : LibraryRun) (disk : Option Disk) → Holds r → 0 < made r.book →
    (first : AbstractState) (frames : ℕ) (printed : List ℕ) → Runs first frames disk r printed →
    EndsBy r.book.first_refused first true disk r printed Budget
in_turn_end r disk holds some first frames printed = by_first r.book.first_refused
  where
    test : false ≡ (made r.book == 0)
    test = grind (arith, nat_tests)

    told : (r.served.slot ≡ 0 → others_live (state_of r) ≡ true) →
        IsInTurn r.book.schedule first r.book.turns.items r.served.slot r.book.visible (beside (state_of r) disk) printed →
        HasEnded r.book.schedule first (r.book.turns.items ++ turn_of r.served.slot r.book.visible r.book.hidden ∷ []) printed true
        (beside (state_of r) disk) Budget
    told others h =
        let left : made r.book < quantum r.book.schedule (length r.book.turns.items) = holds.left some in
        let within : r.served.slot < NENV = holds.last r.served.slot (holds.current some) in
        let runs = holds.running some in
        record {
          now = h.now;
          stands = h.stands;
          taken = record { ran = in_turn_ran h r.book.hidden; fit = in_turn_fits h r.book.hidden some (omega arith); console = h.console };
          whole = λ other. absurd (other refl);
          over = spent_end h.now (length (r.book.turns.items ++ turn_of r.served.slot r.book.visible r.book.hidden ∷ []))
              (running_client h.stands.0.1 r.served.slot within runs others)
              (goes_on_next h.stands.0.1 r.served.slot within holds.last h.only runs);
        }

    by_made : (c : Bool) → false ≡ c → (r.served.slot ≡ 0 → others_live (state_of r) ≡ true) → StandsBy c r.book.schedule first disk r printed →
        HasEnded r.book.schedule first (if c then r.book.turns.items else r.book.turns.items ++ turn_of r.served.slot r.book.visible r.book.hidden ∷ [])
        printed true (beside (state_of r) disk) Budget
    by_made true is others h = absurd (let contradiction : false ≡ true = is in cc)
    by_made false is others h = told others h

    by_first : (o : Option Refusal) → RunsBy o first frames disk r printed → EndsBy o first true disk r printed Budget
    by_first None h = by_made (made r.book == 0) test (λ is_first. h.others some is_first) h.stands
    by_first (Some refusal) h = tt

-- how many turns are told
turns_are : (r : LibraryRun) → length (turns_so_far r) ≡ (if made r.book == 0 then vec_len r.book.turns else vec_len r.book.turns + 1)
turns_are r = by_test (made r.book == 0)
  where
    by_test : (c : Bool) → length (if c then r.book.turns.items else r.book.turns.items ++ turn_of r.served.slot r.book.visible r.book.hidden ∷ [])
        ≡ (if c then vec_len r.book.turns else vec_len r.book.turns + 1)
    by_test true = sym r.book.turns.ok.0
    by_test false =
        length-append r.book.turns.items (turn_of r.served.slot r.book.visible r.book.hidden ∷ []) ∙ ap (λ (n : ℕ). n + 1) (sym r.book.turns.ok.0)

stops_between : (r : LibraryRun) → Holds r → (spent : Bool) (end : End) → made r.book ≡ 0 →
    end_seen (state_of r) (vec_len r.book.turns) spent ≡ Some end → end_at (state_of r) (length (turns_so_far r)) spent ≡ Some end
stops_between r holds spent end none seen =
    let test : (made r.book == 0) ≡ true = grind (arith, nat_tests) in
    let told : length (turns_so_far r) ≡ vec_len r.book.turns =
    turns_are r ∙ ap (λ (c : Bool). if c then vec_len r.book.turns else vec_len r.book.turns + 1) test in
    end_between (state_of r) (length (turns_so_far r)) spent (holds.between none)
    ∙ ap (λ (k : ℕ). end_seen (state_of r) k spent) told ∙ seen

-- An end test holds while steps are left.
pub on_end : {budget left : ℕ} {r t : LibraryRun} {d e : Option Disk} {a b : Option (List ℕ)} →
    Went (budget - left) (from_to r t) (from_to d e) (from_to a b) → 0 < left → left ≤ budget → Holds t →
    (end : End) → made t.book ≡ 0 → end_seen (state_of t) (vec_len t.book.turns) false ≡ Some end →
    HasRunToEnd budget (Ok end) (from_to r t) (from_to d e) (from_to a b)
on_end {budget = budget} {left = left} {t = t} {e = e} went some within holds end none seen =
    let test : false ≡ (budget - left == budget) = grind (arith, nat_tests) in (
      budget - left,
      omega arith,
      went,
      λ first frames before h. subst (λ (spent : Bool). EndsBy t.book.first_refused first spent e t (before ++ went.printed) end) test
          (between_end t e false end none seen first frames (before ++ went.printed) (went.runs first frames before h)),
      subst (λ (spent : Bool). end_at (state_of t) (length (turns_so_far t)) spent ≡ Some end) test
          (stops_between t holds false end none seen),
    )

-- The steps are used up.
pub on_budget : {budget left : ℕ} {r t : LibraryRun} {d e : Option Disk} {a b : Option (List ℕ)} →
    Went (budget - left) (from_to r t) (from_to d e) (from_to a b) → left ≡ 0 →
    Holds t → (end : End) → (made t.book ≡ 0 → end_seen (state_of t) (vec_len t.book.turns) true ≡ Some end) → (0 < made t.book → end ≡ Budget) →
    HasRunToEnd budget (Ok end) (from_to r t) (from_to d e) (from_to a b)
on_budget {budget = budget} {left = left} {t = t} {e = e} went none holds end between in_turn =
    let test : true ≡ (budget - left == budget) = grind (arith, nat_tests) in (
      budget - left,
      omega arith,
      went,
      λ first frames before h. subst (λ (spent : Bool). EndsBy t.book.first_refused first spent e t (before ++ went.printed) end) test
          (by_made (made t.book == 0) refl first frames (before ++ went.printed) (went.runs first frames before h)),
      subst (λ (spent : Bool). end_at (state_of t) (length (turns_so_far t)) spent ≡ Some end) test (stops (made t.book == 0) refl),
    )
  where
    stops : (c : Bool) → (made t.book == 0) ≡ c → end_at (state_of t) (length (turns_so_far t)) true ≡ Some end
    stops true is = stops_between t holds true end (none_made t is) (between (none_made t is))
    stops false is =
        end_in_turn (state_of t) (length (turns_so_far t)) t.served.slot (holds.current (some_made t is)) (holds.running (some_made t is))
        ∙ ap (λ (e : End). Some e) (sym (in_turn (some_made t is)))

    by_made : (c : Bool) → (made t.book == 0) ≡ c → (first : AbstractState) (frames : ℕ) (printed : List ℕ) → Runs first frames e t printed →
        EndsBy t.book.first_refused first true e t printed end
    by_made true is first frames printed h =
        between_end t e true end (none_made t is) (between (none_made t is)) first frames printed h
    by_made false is first frames printed h =
        subst (λ (x : End). EndsBy t.book.first_refused first true e t printed x) (sym (in_turn (some_made t is)))
        (in_turn_end t e holds (some_made t is) first frames printed h)

-- ---- what is told

-- A run has not begun to make steps.
pub begins : (r : LibraryRun) → r.book.turns.items ≡ [] → made r.book ≡ 0 → r.book.first_refused ≡ None → r.served.written ≡ 0 →
    (first : AbstractState) (frames : ℕ) (disk : Option Disk) → StandsWhole (beside (state_of r) disk) first → IsNew (state_of r) frames →
    Runs first frames disk r []
begins r empty none quiet written first frames disk stands h =
    let test : true ≡ (made r.book == 0) = grind (arith, nat_tests) in
    subst (λ (o : Option Refusal). RunsBy o first frames disk r []) (sym quiet) (record {
      stands = subst (λ (c : Bool). StandsBy c r.book.schedule first disk r []) test
          (subst (λ (turns : List Turn). IsBetween r.book.schedule first turns (beside (state_of r) disk) []) (sym empty)
          (run_begins r.book.schedule first (beside (state_of r) disk) stands h.none_runs));
      quiet = h.refusals;
      frames_are = h.frames_are;
      used = h.used;
      others = λ some. absurd (omega (arith, none, some));
      counted_so = written;
    })

-- No more turns are told than a run may have.
pub turns_within : (r : LibraryRun) → HasRoom r.book → length (turns_so_far r) ≤ TURN_MAX
turns_within r h = subst (λ (n : ℕ). n ≤ TURN_MAX) (sym (turns_are r)) (by_test (made r.book == 0) refl)
  where
    by_test : (c : Bool) → (made r.book == 0) ≡ c → (if c then vec_len r.book.turns else vec_len r.book.turns + 1) ≤ TURN_MAX
    by_test true is = h.most
    by_test false is = let below : vec_len r.book.turns < TURN_MAX = h.place (some_made r is) in omega (arith, below)

-- ---- and how it closes

-- more was printed behind a refusal
refused_on : {schedule : List ℕ} {first : AbstractState} {frames : ℕ} {turns : List Turn} {refusal : Refusal} {printed : List ℕ}
    (more : List ℕ) → IsRefusedInTurn schedule first frames turns refusal printed →
    IsRefusedInTurn schedule first frames turns refusal (printed ++ more)
refused_on more h = record {
  before = h.before;
  turn = h.turn;
  later = h.later;
  turns_are = h.turns_are;
  place = h.place;
  begun = h.begun;
  ran = h.ran;
  fit = h.fit;
  chosen = h.chosen;
  visible = h.visible;
  within = h.within;
  now = h.now;
  taken = h.taken;
  told = h.told;
  rest = h.rest ++ more;
  printed_is = ap (λ (l : List ℕ). l ++ more) h.printed_is ∙ append_assoc h.told h.rest more;
  console = h.console;
  console_len = h.console_len;
  needed = h.needed;
}

-- where a run has ended, nothing was refused in its turns
ended_quietly : {schedule : List ℕ} {first : AbstractState} {frames : ℕ} {turns : List Turn} {printed : List ℕ} {spent : Bool} {end : End}
    {disk : Option Disk} {t : LibraryRun} → StandsSo first frames disk t printed →
    (ended : HasEnded schedule first turns printed spent (beside (state_of t) disk) end) →
    StandsQuietly frames (beside (state_of t) disk) ended.now
ended_quietly so ended = record { stands = ended.stands; quiet = so.quiet; frames_are = so.frames_are; used = so.used }

-- something was refused behind the turns
refused_behind : {schedule : List ℕ} {first : AbstractState} {frames : ℕ} {turns : List Turn} {printed : List ℕ} {spent : Bool} {end : End}
    {turned : World} {refusal : Refusal} {written : ℕ} (more : List ℕ) → written ≡ bytes_counted printed →
    (ended : HasEnded schedule first turns printed spent turned end) → IsNotedSo frames (length turns) written ended.now refusal →
    IsRefused schedule first frames turns refusal (printed ++ more)
refused_behind {printed = printed} more counted ended it = behind_turns (record {
  place = ap (λ (x : Refusal). x.turn) it.is;
  begun = ended.now;
  ran = ended.taken.ran;
  fit = ended.taken.fit;
  visible = it.lacked.visible;
  now = it.lacked.now;
  taken = it.lacked.taken;
  acting = it.lacked.acting;
  told = printed;
  rest = more;
  printed_is = refl;
  console = it.lacked.console ∙ ended.taken.console;
  console_len = ap (λ (x : Refusal). x.console_len) it.is ∙ counted;
  needed = it.lacked.needed;
})

-- nothing was, and nothing was printed
taken_on : {schedule : List ℕ} {first : AbstractState} {turns : List Turn} {printed more : List ℕ} {now : AbstractState} → more ≡ [] →
    HasTakenTurns schedule first turns printed now → HasTakenTurns schedule first turns (printed ++ more) now
taken_on {first = first} {printed = printed} none h = record {
  ran = h.ran;
  fit = h.fit;
  console = h.console ∙ ap (λ (l : List ℕ). first.console ++ l) (sym (append-nil printed) ∙ ap (λ (l : List ℕ). printed ++ l) (sym none));
}

abbrev ended_on : {schedule : List ℕ} {first : AbstractState} {turns : List Turn} {printed more : List ℕ} {spent : Bool} {end : End} {turned : World} →
    more ≡ [] → HasEnded schedule first turns printed spent turned end → HasEnded schedule first turns (printed ++ more) spent turned end
ended_on none h = record { now = h.now; stands = h.stands; taken = taken_on none h.taken; whole = h.whole; over = h.over }

-- It has come to its act before all steps were made that it may make.
rests_behind : (frames : ℕ) (begun : AbstractState) (count : ℕ) (s : KernelState) (disk : Option Disk) → HasGoneOn frames begun count (beside s disk) →
    IsOver count s → acts_in s ≡ false
rests_behind frames begun count s disk gone (inl rests) = rests
rests_behind frames begun count s disk gone (inr all) = by_acting (acts_in s) refl
  where
    too_many : (left most end count : ℕ) → left + count ≤ most → most < end → count ≡ end → ⊥
    too_many left most end count within less is = omega (arith, within, less, is)

    by_acting : (t : Bool) → acts_in s ≡ t → acts_in s ≡ false
    by_acting false is = is
    by_acting true is =
        let it = gone.soon (sym (acting_of disk s gone.now gone.stood.stands) ∙ is) in
        absurd (too_many it.0 SERVER_STEPS_MAX CLOSING_MAX count it.1 (omega arith) all)

-- The file server acts no more: its act is made, and the disk has the files.
has_finished : (frames : ℕ) (begun : AbstractState) (count closing : ℕ) (s : KernelState) (disk : Option Disk) (last : World) →
    HasGoneOn frames begun count (beside s disk) → closing ≡ min count (2 ^ 32 - 1) → acts_in s ≡ false → IsWrittenBack (beside s disk) last →
    HasFinished begun closing last
has_finished frames begun count closing s disk last gone counted rests back = record {
  closed = gone.now;
  visible = gone.visible;
  closes = record { taken = gone.taken; over = over; needed = gone.acting };
  made = count;
  counted = counted;
  within = gone.within;
  none = λ idle. elim (cases_lt 0 count) [
    | inl some ↦ absurd (false≢true (sym idle ∙ gone.some some))
    | inr past ↦ omega (arith, past, counted)
  ];
  some = λ busy. elim (cases_lt 0 count) [
    | inl some ↦ omega (arith, some, counted)
    | inr past ↦
        let none : 0 ≡ gone.visible = (let within : gone.visible ≤ count = gone.within in omega (arith, past, within)) in
        let same : gone.now ≡ begun = same_Some gone.now begun (sym gone.taken ∙ (λ i. steps_taken begun 0 (sym none i)) ∙ no_steps begun 0) in
        absurd (false≢true (sym over ∙ ap (λ (x : AbstractState). is_acting x.server) same ∙ busy))
  ];
  files = by_disk disk gone.stood.stands back.blocks;
}
  where
    over : is_acting gone.now.server ≡ false
    over = sym (acting_of disk s gone.now gone.stood.stands) ∙ rests

    by_disk : (o : Option Disk) → StandsWhole (beside s o) gone.now → IsWrittenOver o s last.disk → TellsFiles last.disk gone.now.files
    by_disk None stands none = absurd stands.1
    by_disk (Some d) stands blocks =
        let it = blocks stands.1.serving.stands.cache in
        subst (λ (o : Option Disk). TellsFiles o gone.now.files) (sym it.1) (files_written d it.0 s gone.now stands over it.2)

-- The report of a run that has ended by itself, and was closed.
module _ {budget : ℕ} {r t : LibraryRun} {d e f : Option Disk} {a b c : Option (List ℕ)} (end : End) (most : ℕ)
    (ran : HasRunToEnd budget (Ok end) (from_to r t) (from_to d e) (from_to a b)) (none : r.book.steps ≡ 0) (empty : r.book.trace ≡ buffer [] most)
    (no_turns : turns_so_far r ≡ []) (holds : Holds t) (closed : Reported) (last : World)
    (k : ClosesRun (report_of t end) closed t.served (from_to e f) (from_to b c) last) where
  abbrev turned : World
  turned = beside (state_of t) e

  abbrev told_report : Reported
  told_report = record (report_of t end) {
    closing = closed.closing;
    refused = (kernel_state k.behind).refusals;
    first_refused = closed.first_refused;
    upcalls = (kernel_state k.behind).upcalls;
  }

  abbrev all_printed : List ℕ
  all_printed = ran.2.printed ++ k.closing.printed

  steps_so : t.book.steps ≡ ran.0
  steps_so = let all : t.book.steps ≡ r.book.steps + ran.0 = ran.2.steps_are in omega (arith, all, none)

  -- what the kernel has gone through
  gone_whole : HasGone (beside (state_of r) d) turned last budget most told_report t.book.trace.items all_printed
  gone_whole =
      let went = ran.2 in
      record {
        steps = went.steps_made;
        lead = went.lead;
        steps_are = steps_so ∙ sym went.long;
        turns = went.turns ∙ ap (λ (l : List Turn). turns_with l went.steps_made) no_turns;
        turns_count = turns_are t ∙ sym holds.turns;
        end = subst (λ (n : ℕ). end_at (state_of t) (length (turns_so_far t)) (n == budget) ≡ Some end) (sym steps_so) ran.4;
        last_traps = ap (λ (x : Buffer TrapLine). x.items)
            (went.kept most [] (empty ∙ ap (λ (l : List TrapLine). buffer l most) (sym (none_kept most))));
        closing = k.closing.steps_made;
        closed = beside (kernel_state k.behind) k.disk;
        close = k.closing.close;
        closing_are = k.counted ∙ (λ i. min (sym k.closing.long i) (2 ^ 32 - 1));
        refused = refl;
        upcalls = refl;
        printed_are = λ i. went.printed_are i ++ k.closing.printed_are i;
        written_back = k.written_back;
      }

  -- and what is told
  module _ (frames : ℕ) (h : (first : AbstractState) → StandsWhole (beside (state_of r) d) first → Runs first frames d r []) where
    spent_all : (ran.0 == budget) ≡ true → t.book.steps ≡ budget
    spent_all spent = let steps = steps_so in grind (arith, nat_tests)

    by_closed : (first : AbstractState) → t.book.first_refused ≡ None → StandsSo first frames e t ran.2.printed →
        (ended : HasEnded t.book.schedule first (turns_so_far t) ran.2.printed (t.book.steps == budget) turned end) → (o : Option Refusal) →
        ClosesBy o frames (length (turns_so_far t)) (from_to t.served.written k.behind.written) ended.now k.count
        (beside (kernel_state k.behind) k.disk) k.closing.printed →
        ToldBy o t.book.schedule first frames budget told_report all_printed turned last
    by_closed first is so ended None closes = (
      closes.2.stood.quiet,
      ended_on closes.0 ended,
      has_finished frames ended.now k.count closed.closing (kernel_state k.behind) k.disk last closes.2 k.counted
          (rests_behind frames ended.now k.count (kernel_state k.behind) k.disk closes.2 k.over) k.written_back,
    )
    by_closed first is so ended (Some refusal) closes = (closes.0, refused_behind k.closing.printed so.counted_so ended closes.1)

    by_first : (first : AbstractState) → (o : Option Refusal) → t.book.first_refused ≡ o → RunsBy o first frames e t ran.2.printed →
        EndsBy o first (ran.0 == budget) e t ran.2.printed end →
        ToldBy closed.first_refused t.book.schedule first frames budget told_report all_printed turned last
    by_first first None is so ends =
        let ended = subst (λ (n : ℕ). HasEnded t.book.schedule first (turns_so_far t) ran.2.printed (n == budget) turned end) (sym steps_so) ends in
        by_closed first is so ended closed.first_refused (k.closing.runs frames ended.now is (ended_quietly so ended))
    by_first first (Some refusal) is runs ends =
        subst (λ (o : Option Refusal). ToldBy o t.book.schedule first frames budget told_report all_printed turned last)
        (sym (k.closing.kept refusal is))
        (k.closing.refused runs.0, in_a_turn (refused_on k.closing.printed runs.1))

    told_whole : IsTold r.book.schedule (StandsWhole (beside (state_of r) d)) frames budget told_report all_printed turned last
    told_whole =
        let went = ran.2 in
        let within : ran.0 ≤ budget = ran.1 in
        record {
          steps = holds.steps;
          within = (let steps : t.book.steps ≡ ran.0 = steps_so in omega (arith, steps, within));
          spent = λ is. spent_all (budget_spent (state_of t) (length (turns_so_far t)) (ran.0 == budget) (ran.4 ∙ ap (λ (x : End). Some x) is));
          most = turns_within t holds.has_room;
          closing = (let counted : closed.closing ≡ min k.count (2 ^ 32 - 1) = k.counted in omega (arith, counted));
          by_refusal = λ first stands. subst (λ (schedule : List ℕ). ToldBy closed.first_refused schedule first frames budget told_report
              all_printed turned last) went.schedule
              (by_first first t.book.first_refused refl (went.runs first frames [] (h first stands)) (ran.3 first frames [] (h first stands)));
        }

  pub closed_whole : (frames : ℕ) → ((first : AbstractState) → StandsWhole (beside (state_of r) d) first → Runs first frames d r []) →
      (printed : List ℕ) × Gains (from_to a c) printed
      × IsTold r.book.schedule (StandsWhole (beside (state_of r) d)) frames budget closed printed turned last
      × HasGone (beside (state_of r) d) turned last budget most closed t.book.trace.items printed
  closed_whole frames h = (
    all_printed,
    gains_more a b c ran.2.printed k.closing.printed ran.2.gains k.closing.gains,
    subst (λ (x : Reported). IsTold r.book.schedule (StandsWhole (beside (state_of r) d)) frames budget x all_printed turned last) (sym k.told)
        (told_whole frames h),
    subst (λ (x : Reported). HasGone (beside (state_of r) d) turned last budget most x t.book.trace.items all_printed) (sym k.told) gone_whole,
  )

-- What is told where a call of the host failed behind the turns.
module _ {budget : ℕ} {r t : LibraryRun} {d e f : Option Disk} {a b c : Option (List ℕ)} (end : End)
    (ran : HasRunToEnd budget (Ok end) (from_to r t) (from_to d e) (from_to a b)) (room : HasRoom t.book) (cut : CutOff)
    (k : IsCutClosing (report_of t end) cut t.served (from_to e f) (from_to b c)) (frames : ℕ)
    (h : (first : AbstractState) → StandsWhole (beside (state_of r) d) first → Runs first frames d r []) where
  abbrev part_printed : List ℕ
  part_printed = ran.2.printed ++ k.failed.printed

  by_failed : (first : AbstractState) → StandsSo first frames e t ran.2.printed →
      (ended : HasEnded t.book.schedule first (turns_so_far t) ran.2.printed (ran.0 == budget) (beside (state_of t) e) end) → (o : Option Refusal) →
      FailsBy o frames (length (turns_so_far t)) t.served.written ended.now k.failed.printed →
      CutOffBy o t.book.schedule first frames (turns_so_far t) part_printed
  by_failed first so ended None nothing = quietly ended.now (taken_on nothing ended.taken)
  by_failed first so ended (Some refusal) it = refused_behind k.failed.printed so.counted_so ended it

  by_start : (first : AbstractState) (o : Option Refusal) → t.book.first_refused ≡ o → RunsBy o first frames e t ran.2.printed →
      EndsBy o first (ran.0 == budget) e t ran.2.printed end → CutOffBy cut.first_refused t.book.schedule first frames (turns_so_far t) part_printed
  by_start first None is so ended = by_failed first so ended cut.first_refused (k.failed.runs frames ended.now is (ended_quietly so ended))
  by_start first (Some refusal) is runs ended =
      subst (λ (o : Option Refusal). CutOffBy o t.book.schedule first frames (turns_so_far t) part_printed) (sym (k.failed.kept refusal is))
      (in_a_turn (refused_on k.failed.printed runs.1))

  pub closed_cut_off : IsToldCutOff r.book.schedule (StandsWhole (beside (state_of r) d)) frames cut (from_to a c)
  closed_cut_off = (
    part_printed,
    gains_more a b c ran.2.printed k.failed.printed ran.2.gains k.failed.gains,
    (λ first stands.
        subst (λ (turns : List Turn). CutOffBy cut.first_refused r.book.schedule first frames turns part_printed) (sym k.turns)
        (subst (λ (schedule : List ℕ). CutOffBy cut.first_refused schedule first frames (turns_so_far t) part_printed) ran.2.schedule
        (by_start first t.book.first_refused refl (ran.2.runs first frames [] (h first stands)) (ran.3 first frames [] (h first stands))))),
    subst (λ (turns : List Turn). length turns ≤ TURN_MAX) (sym k.turns) (turns_within t room),
  )

-- What is told of one that was cut off.
pub told_cut_off : {r t : LibraryRun} {d e : Option Disk} {a b : Option (List ℕ)} → HasFailed (from_to r t) (from_to d e) (from_to a b) →
    HasRoom t.book → (frames : ℕ) → ((first : AbstractState) → StandsWhole (beside (state_of r) d) first → Runs first frames d r []) →
    IsToldCutOff r.book.schedule (StandsWhole (beside (state_of r) d)) frames (cut_off_of t) (from_to a b)
told_cut_off {t = t} failed room frames h =
    (failed.printed, failed.gains, (λ first stands. failed.cut_off first frames [] (h first stands)), turns_within t room)

-- ---- the next step

-- between two turns, where no end test holds
pub chosen_next : (r : LibraryRun) (n : ℕ) → made r.book ≡ 0 → next (state_of r).environments (state_of r).last ≡ Some n →
    others_live (state_of r) ≡ true → vec_len r.book.turns < TURN_MAX → IsChosen r n
chosen_next r n none is live room =
    let there = next_live (state_of r) n is in
    let full : nat_le TURN_MAX (vec_len r.book.turns) ≡ false = grind (arith, nat_tests) in
    record {
      turn = λ some. absurd (omega (arith, none, some));
      next_is = λ empty. is;
      goes_on = λ empty. end_none live is full;
      room = room;
      live = there.1;
      within = there.0;
    }
  where
    end_none : others_live (state_of r) ≡ true → next (state_of r).environments (state_of r).last ≡ Some n →
        nat_le TURN_MAX (vec_len r.book.turns) ≡ false → end_seen (state_of r) (vec_len r.book.turns) false ≡ None
    end_none live is full =
        ap (λ (c : Bool). if not c then Some Done else if is_none (next (state_of r).environments (state_of r).last) then Some Stuck
        else if nat_le TURN_MAX (vec_len r.book.turns) then Some TurnsFull else None) live
        ∙ ap (λ (o : Option ℕ). if is_none o then Some Stuck else if nat_le TURN_MAX (vec_len r.book.turns) then Some TurnsFull else None) is
        ∙ ap (λ (c : Bool). if c then Some TurnsFull else None) full
