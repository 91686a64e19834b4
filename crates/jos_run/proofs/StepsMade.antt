-- A run after more steps: what the calls of steps that are made at once have done to it tells where it has come to.
use Rattle.std.proofs.Common.{◌≡◌, ◌≢◌, ◌∙◌, ℕ, zero, suc, ◌+◌, ◌-◌, ◌^◌, ◌<◌, ◌≤◌, ◌==◌, ◌&&◌, Bool, true, false, List, [], ◌∷◌, ◌++◌, length, min, Ok}
use Rattle.std.proofs.Common.{Option, Some, None, Result, inl, inr, refl, sym, ap, subst, arith, if◌then◌else◌, take, drop, vec_len}
use Rattle.std.specs.Prelude.{is_none, nat_lt, nat_le, not}
use Rattle.std.proofs.lemmas.Bool.Decides.{nat_tests}
use Rattle.std.proofs.lemmas.List.{append-nil, take-append-drop}
use Rattle.circular_buffer.specs.Buffer.{Buffer, buffer, keep_last}
use Rattle.jos_host.specs.declared.host.Failed.{Failed}
use Rattle.jos_host.specs.Frames.{Around, from_to}
use Rattle.jos_host.specs.Gains.{Gains, GainsPart}
use Rattle.jos_base.specs.declared.environment.Status.{Status}
use Rattle.jos_base.specs.declared.environment.Status.TheVariants.{Runnable}
use Rattle.jos_base.specs.declared.numbers.TheConstants.{TURN_MAX}
use Rattle.jos_base.specs.Environments.{is_running}
use Rattle.jos_base.specs.KernelState.{KernelState, slot_at, with_status, turn_begun, turn_ended}
use Rattle.jos_base.specs.SpacesState.{SpacesState, reserved_frames}
use Rattle.jos_sched.specs.Quantum.{quantum}
use Rattle.jos_sched.specs.RoundRobin.{next}
use Rattle.jos_kernel.specs.declared.report.End.{End}
use Rattle.jos_kernel.specs.declared.report.End.TheVariants.{Done, Stuck, TurnsFull}
use Rattle.jos_kernel.specs.declared.report.Refusal.{Refusal}
use Rattle.jos_kernel.specs.declared.report.Turn.{Turn}
use Rattle.jos_kernel.specs.declared.trace.TrapLine.{TrapLine}
use Rattle.jos_kernel.specs.Books.{turn_of, noted, traced, made}
use Rattle.jos_kernel.proofs.Advancing.{counted-more}
use Rattle.jos_kernel.proofs.Turns.{running_live}
use Rattle.lib_os.specs.declared.place.Place.TheVariants as place
use Rattle.lib_os.specs.declared.progress.Progress.{Progress}
use Rattle.lib_os.specs.declared.progress.Progress.TheVariants as progress
use Rattle.lib_os.specs.AbstractState.{AbstractState}
use Rattle.lib_os.specs.AbstractRun.{abs_step}
use Rattle.lib_os.specs.Disk.{Disk}
use Rattle.lib_os.specs.LibrarySteps.{KeepsUses, LeavesEach, LeavesRest, NothingRefused, Stands}
use Rattle.lib_os.specs.Need.{EachHasUse, NeedIsReached, need}
use Rattle.lib_os.specs.Places.{place_of}
use Rattle.lib_os.specs.UserCalls.{Output}
use Rattle.jos_run.specs.declared.library_run.LibraryRun.{LibraryRun}
use Rattle.jos_run.specs.declared.steps.StepOutcome.{StepOutcome}
use Rattle.jos_run.specs.AbstractTurns.{steps_taken}
use Rattle.jos_run.specs.AbstractTurns.{turn_begun as begun_at}
use Rattle.jos_run.specs.LibraryRuns.{IsBetween, IsInTurn, end_seen, others_live, visible_steps, hidden_steps}
use Rattle.jos_run.specs.RunReports.{CutOffBy, IsCutOff, IsRefusedInTurn, LacksSpace, in_a_turn, printing, quietly}
use Rattle.jos_run.specs.RunSteps.{StepMade, LeadTo, traps_of, written_in, turns_with}
use Rattle.jos_run.specs.ServerStands.{KeepsWhole, MayStep, ServerLeaves, StandsWhole}
use Rattle.jos_run.specs.Steps.{LeavesAs, RaisesAs, is_servers}
use Rattle.jos_run.specs.StepsAtOnce.{GuestGoesOn, MakesSteps}
use Rattle.jos_run.specs.Worlds.{World, beside}
use Rattle.jos_run.specs.Running.{state_of, turns_so_far, Holds, StandsBy, StandsSo, RunsBy, Runs, IsChosen, entered}
use Rattle.jos_run.specs.Running.{goes_on_after, turn_after, CountedBy, Counted, Went, HasFailed}
use Rattle.jos_run.proofs.Advancing.{Comes, server_stepped, stepped, turn_over}
use Rattle.jos_run.proofs.Choices.{any_live_stands, only_first_serves}
use Rattle.jos_run.proofs.ServerTurns.{server_others}
use Rattle.jos_run.proofs.QuietSteps.{GoneQuietly, gone_quietly, quiet_in_turn, quiet_each}
use Rattle.jos_run.proofs.RunSteps.{kept_one, written_one}
use Rattle.jos_run.proofs.Refusals.{refused_further, refused_longer}
use Rattle.jos_run.proofs.RunsKept.{turn_begins, in_turn_ran, in_turn_fits, step_failed, failed_fits}
use Rattle.jos_run.proofs.StepsAtOnce.{made_step, steps_with, steps_long, steps_lead, steps_traps, steps_written, steps_turns}
use Rattle.jos_run.proofs.WholeStands.{others_slot, servers_first}

-- ---- the turn under way, or the next

pub none_made : (r : LibraryRun) → (made r.book == 0) ≡ true → made r.book ≡ 0
none_made r is = grind (arith, nat_tests)

pub some_made : (r : LibraryRun) → (made r.book == 0) ≡ false → 0 < made r.book
some_made r is = grind (arith, nat_tests)

-- where no end test holds there is another environment than the file server
seen_others : (s : KernelState) (turns : ℕ) → end_seen s turns false ≡ None → others_live s ≡ true
seen_others s turns none = by_test (others_live s) none
  where
    by_test : (c : Bool) → (if not c then Some Done else if is_none (next s.environments s.last) then Some Stuck
        else if nat_le TURN_MAX turns then Some TurnsFull else None) ≡ None → c ≡ true
    by_test true is = refl
    by_test false is = absurd (let contradiction : ◌≡◌ {A = Option End} (Some Done) None = is in cc)

-- what a turn's beginning leaves
entered_rest : (r : LibraryRun) (n : ℕ) →
    ((entered r n).spaces ≡ (state_of r).spaces) × ((entered r n).refusals ≡ (state_of r).refusals)
entered_rest r n = by_test (made r.book == 0)
  where
    by_test : (c : Bool) → ((if c then turn_begun (state_of r) n else state_of r).spaces ≡ (state_of r).spaces)
        × ((if c then turn_begun (state_of r) n else state_of r).refusals ≡ (state_of r).refusals)
    by_test true = (refl, refl)
    by_test false = (refl, refl)

-- and its end
ended_rest : (s : KernelState) (n : ℕ) → ((turn_ended s n).spaces ≡ s.spaces) × ((turn_ended s n).refusals ≡ s.refusals)
ended_rest s n = by_test (is_running (slot_at s n).status)
  where
    by_test : (b : Bool) → ((if b then with_status s n Runnable else s).spaces ≡ s.spaces)
        × ((if b then with_status s n Runnable else s).refusals ≡ s.refusals)
    by_test true = (refl, refl)
    by_test false = (refl, refl)

-- the slot whose turn it is had the last turn
entered_last : (r : LibraryRun) (n : ℕ) → Holds r → IsChosen r n → (entered r n).last ≡ Some n
entered_last r n holds chosen = by_test (made r.book == 0) refl
  where
    by_test : (c : Bool) → (made r.book == 0) ≡ c → (if c then turn_begun (state_of r) n else state_of r).last ≡ Some n
    by_test true is = refl
    by_test false is =
        holds.current (some_made r is) ∙ ap (λ (m : ℕ). Some m) (sym (chosen.turn (some_made r is)))

-- and is one more turn
entered_turns : (r : LibraryRun) (n : ℕ) → Holds r → (entered r n).turns ≡ vec_len r.book.turns + 1
entered_turns r n holds = by_test (made r.book == 0) refl holds.turns
  where
    by_test : (c : Bool) → (made r.book == 0) ≡ c → (state_of r).turns ≡ (if c then vec_len r.book.turns else vec_len r.book.turns + 1) →
        (if c then turn_begun (state_of r) n else state_of r).turns ≡ vec_len r.book.turns + 1
    by_test true is h = ap (λ (k : ℕ). k + 1) h
    by_test false is h = h

-- there is room for one more
few_turns : (r : LibraryRun) (n : ℕ) → Holds r → IsChosen r n → (made r.book == 0) ≡ true → (state_of r).turns + 1 < 2 ^ 32
few_turns r n holds chosen is =
    let so : (state_of r).turns ≡ vec_len r.book.turns =
    holds.turns ∙ ap (λ (c : Bool). if c then vec_len r.book.turns else vec_len r.book.turns + 1) is in
    let room : vec_len r.book.turns < TURN_MAX = chosen.room in
    omega (arith, so, room)

in_turn_of : (first : AbstractState) (disk : Option Disk) (r : LibraryRun) (n : ℕ) (printed : List ℕ) → Holds r → IsChosen r n →
    StandsBy (made r.book == 0) r.book.schedule first disk r printed →
    IsInTurn r.book.schedule first r.book.turns.items n r.book.visible (beside (entered r n) disk) printed
in_turn_of first disk r n printed holds chosen stands = by_test (made r.book == 0) refl stands
  where
    by_test : (c : Bool) → (made r.book == 0) ≡ c → StandsBy c r.book.schedule first disk r printed →
        IsInTurn r.book.schedule first r.book.turns.items n r.book.visible (beside (if c then turn_begun (state_of r) n else state_of r) disk) printed
    by_test true is h =
        let none : 0 ≡ r.book.visible = (let all : made r.book ≡ 0 = none_made r is in omega arith) in
        subst (λ (visible : ℕ). IsInTurn r.book.schedule first r.book.turns.items n visible (beside (turn_begun (state_of r) n) disk) printed) none
        (turn_begins h n (chosen.next_is (none_made r is)) (few_turns r n holds chosen is))
    by_test false is h =
        subst (λ (m : ℕ). IsInTurn r.book.schedule first r.book.turns.items m r.book.visible (beside (state_of r) disk) printed)
        (sym (chosen.turn (some_made r is))) h

-- Where the file server's turn is under way, or begins, there is another environment.
entered_others : {frames : ℕ} (first : AbstractState) (disk : Option Disk) (r : LibraryRun) (n : ℕ) (printed : List ℕ) → Holds r → IsChosen r n →
    StandsSo first frames disk r printed → n ≡ 0 → others_live (entered r n) ≡ true
unfolding turn_begins
entered_others first disk r n printed holds chosen so is_first = by_test (made r.book == 0) refl so.stands
  where
    by_test : (c : Bool) → (made r.book == 0) ≡ c → StandsBy c r.book.schedule first disk r printed →
        others_live (if c then turn_begun (state_of r) n else state_of r) ≡ true
    by_test true is h =
        let none = none_made r is in
        let t = turn_begins h n (chosen.next_is none) (few_turns r n holds chosen is) in
        sym (any_live_stands t.stands.0.1 (only_first_serves t.stands.0.1)) ∙ any_live_stands h.stands.0.1 (only_first_serves h.stands.0.1)
        ∙ seen_others (state_of r) (vec_len r.book.turns) (chosen.goes_on none)
    by_test false is h = let some = some_made r is in so.others some (sym (chosen.turn some) ∙ is_first)

-- ---- steps

-- what holds of a slot and of a state holds of the same in other words
pub moved : {n n' : ℕ} {s s' : KernelState} (holds : ℕ → KernelState → Type 0) → n ≡ n' → s ≡ s' → holds n s → holds n' s'
moved {n' = n'} {s = s} holds a b h = subst (λ (x : KernelState). holds n' x) b (subst (λ (x : ℕ). holds x s) a h)

-- so many steps went on in the turn, and the last begins
pub record Reaches (r : LibraryRun) (n going : ℕ) : Type 0 where
  pub holds : Holds r
  pub chosen : IsChosen r n
  pub left : made r.book + going < quantum r.book.schedule (length r.book.turns.items)
  pub running : is_running (slot_at (entered r n) n).status ≡ true
  pub is_guest : 0 < going → (is_servers (entered r n) n ≡ false) × (place_of (slot_at (entered r n) n) ≡ place.Guest)
  pub reached : KernelState
  pub went : GuestGoesOn n going (entered r n) reached

abbrev pub reaches : {r : LibraryRun} {n going : ℕ} {last : Result StepOutcome Failed} {disk : Option Disk} {after : World} {output : Output} →
    Holds r → IsChosen r n → made r.book + going < quantum r.book.schedule (length r.book.turns.items) →
    is_running (slot_at (entered r n) n).status ≡ true → MakesSteps n going last (beside (entered r n) disk) after output → Reaches r n going
reaches holds chosen left running b = record {
  holds = holds;
  chosen = chosen;
  left = left;
  running = running;
  is_guest = b.is_guest;
  reached = b.reached;
  went = b.went;
}

-- what the calls of steps have done before they are counted
pub record Makes (r m : LibraryRun) (disks : Around (Option Disk)) (n going : ℕ) (done : Progress) (bytes : List ℕ) : Type 0 where
  pub before : Reaches r n going
  pub keeps : KeepsWhole done n (beside before.reached disks.before) (beside (state_of m) disks.after) bytes
  pub rest : LeavesRest before.reached (state_of m)
  pub leaves : LeavesAs (is_servers before.reached n) disks.before (Ok done) n before.reached (state_of m)
  pub trap : Option TrapLine
  pub raises : RaisesAs (is_servers before.reached n) n before.reached trap (state_of m)
  pub slot : m.served.slot ≡ n
  pub written : m.served.written ≡ min (r.served.written + length bytes) (2 ^ 64 - 1)
  pub disk : m.served.disk ≡ r.served.disk
  pub book : m.book ≡ record r.book {
    trace = traced r.book.trace trap;
    first_refused = noted r.book.first_refused (not ((state_of m).refusals == (entered r n).refusals)) (vec_len r.book.turns) r.served.written;
  }

-- a step is visible or hidden
pub one_step : (done : Progress) → visible_steps done + hidden_steps done ≡ 1
one_step progress.Hidden = refl
one_step progress.Waited = refl
one_step progress.Visible = refl
one_step progress.Finished = refl
one_step progress.Ended = refl

-- and behind so many that go on there is one more in all
abbrev pub seen_with : ℕ → Progress → ℕ
seen_with going done = going + visible_steps done

pub all_steps : (going : ℕ) (done : Progress) → seen_with going done + hidden_steps done ≡ going + 1
all_steps going done = let one : visible_steps done + hidden_steps done ≡ 1 = one_step done in omega (arith, one)

pub some_steps : (going : ℕ) (done : Progress) → 0 < seen_with going done + hidden_steps done
some_steps going done = let all : seen_with going done + hidden_steps done ≡ going + 1 = all_steps going done in omega (arith, all)

-- the turn under way with the steps
abbrev turn_with : LibraryRun → ℕ → Progress → Turn
turn_with m going done = turn_after m (seen_with going done) (hidden_steps done)

-- what is counted of them
abbrev pub CountsSteps : LibraryRun → LibraryRun → ℕ → Progress → Type 0
CountsSteps old new going done = Counted old new (seen_with going done) (hidden_steps done)

abbrev goes_on_with : LibraryRun → ℕ → Progress → Bool
goes_on_with m going done = goes_on_after m (seen_with going done + hidden_steps done)

-- the turns that are told behind steps that were counted
pub told_turns : (c : Bool) (m after : LibraryRun) (visible hidden : ℕ) → 0 < visible + hidden → CountedBy c m after visible hidden →
    turns_so_far after ≡ m.book.turns.items ++ turn_after m visible hidden ∷ []
told_turns true m after visible hidden more k =
    let some : (made after.book == 0) ≡ false =
    (let all : made after.book ≡ (m.book.visible + visible) + (m.book.hidden + hidden) = (λ i. k.book.visible_are i + k.book.hidden_are i) in
    grind (arith, nat_tests)) in
    ap (λ (b : Bool). if b then after.book.turns.items else after.book.turns.items ++ turn_of after.served.slot after.book.visible
    after.book.hidden ∷ []) some
    ∙ (λ i. k.book.turns i ++ turn_of (k.slot i) (k.book.visible_are i) (k.book.hidden_are i) ∷ [])
told_turns false m after visible hidden more k =
    let none : (made after.book == 0) ≡ true =
    (let all : made after.book ≡ 0 = (λ i. k.book.visible_are i + k.book.hidden_are i) in grind (arith, nat_tests)) in
    ap (λ (b : Bool). if b then after.book.turns.items else after.book.turns.items ++ turn_of after.served.slot after.book.visible
    after.book.hidden ∷ []) none
    ∙ k.book.turns

-- ---- nothing was refused

-- the same in other words
between_is : {schedule schedule' : List ℕ} {first : AbstractState} {turns turns' : List Turn} {s s' : KernelState} {disk : Option Disk}
    {printed : List ℕ} → schedule ≡ schedule' → turns ≡ turns' → s ≡ s' → IsBetween schedule first turns (beside s disk) printed →
    IsBetween schedule' first turns' (beside s' disk) printed
between_is {schedule' = schedule'} {first = first} {turns = turns} {turns' = turns'} {s = s} {disk = disk} {printed = printed} a b c h =
    subst (λ (x : KernelState). IsBetween schedule' first turns' (beside x disk) printed) c
    (subst (λ (x : List Turn). IsBetween schedule' first x (beside s disk) printed) b
    (subst (λ (x : List ℕ). IsBetween x first turns (beside s disk) printed) a h))

in_turn_is : {schedule schedule' : List ℕ} {first : AbstractState} {turns turns' : List Turn} {n n' visible visible' : ℕ}
    {s s' : KernelState} {disk : Option Disk}
    {printed : List ℕ} → schedule ≡ schedule' → turns ≡ turns' → n ≡ n' → visible ≡ visible' → s ≡ s' →
    IsInTurn schedule first turns n visible (beside s disk) printed → IsInTurn schedule' first turns' n' visible' (beside s' disk) printed
in_turn_is {schedule' = schedule'} {first = first} {turns = turns} {turns' = turns'} {n = n} {n' = n'} {visible = visible}
    {visible' = visible'} {s = s} {disk = disk}
    {printed = printed} a b c d e h =
    subst (λ (x : KernelState). IsInTurn schedule' first turns' n' visible' (beside x disk) printed) e
    (subst (λ (x : ℕ). IsInTurn schedule' first turns' n' x (beside s disk) printed) d
    (subst (λ (x : ℕ). IsInTurn schedule' first turns' x visible (beside s disk) printed) c
    (subst (λ (x : List Turn). IsInTurn schedule' first x n visible (beside s disk) printed) b
    (subst (λ (x : List ℕ). IsInTurn x first turns n visible (beside s disk) printed) a h))))

stands_after : (c : Bool) (schedule : List ℕ) (first : AbstractState) (disk : Option Disk) (m after : LibraryRun) (visible hidden : ℕ) (printed : List ℕ) →
    goes_on_after m (visible + hidden) ≡ c → CountedBy c m after visible hidden → m.book.schedule ≡ schedule → 0 < visible + hidden →
    made m.book + (visible + hidden) ≤ quantum schedule (length m.book.turns.items) →
    Comes schedule first m.book.turns.items m.served.slot (m.book.visible + visible) (m.book.hidden + hidden) (beside (state_of m) disk)
    printed → StandsBy (made after.book == 0) after.book.schedule first disk after printed
stands_after true schedule first disk m after visible hidden printed goes_on k by more within h =
    let some : false ≡ (made after.book == 0) =
    (let all : made after.book ≡ (m.book.visible + visible) + (m.book.hidden + hidden) = (λ i. k.book.visible_are i + k.book.hidden_are i) in
    grind (arith, nat_tests)) in
    subst (λ (b : Bool). StandsBy b after.book.schedule first disk after printed) some
    (in_turn_is (sym (k.book.schedule ∙ by)) (sym k.book.turns) (sym k.slot) (sym k.book.visible_are) (sym k.state) h.in_turn)
stands_after false schedule first disk m after visible hidden printed goes_on k by more within h =
    let none : true ≡ (made after.book == 0) =
    (let all : made after.book ≡ 0 = (λ i. k.book.visible_are i + k.book.hidden_are i) in grind (arith, nat_tests)) in
    let all : (m.book.visible + visible) + (m.book.hidden + hidden) ≡ made m.book + (visible + hidden) = omega arith in
    let over : (is_running (slot_at (state_of m) m.served.slot).status && nat_lt ((m.book.visible + visible) + (m.book.hidden + hidden))
    (quantum schedule (length m.book.turns.items))) ≡ false =
    (λ i. is_running (slot_at (state_of m) m.served.slot).status && nat_lt (all i) (quantum (sym by i) (length m.book.turns.items))) ∙ goes_on in
    subst (λ (b : Bool). StandsBy b after.book.schedule first disk after printed) none
    (between_is (sym (k.book.schedule ∙ by)) (sym k.book.turns) (sym k.state) (turn_over h (omega (arith, more)) (omega (arith, within)) over))

-- counting leaves the frames and the refusals
counted_rest : (c : Bool) (m after : LibraryRun) (visible hidden : ℕ) → CountedBy c m after visible hidden →
    ((state_of after).spaces ≡ (state_of m).spaces) × ((state_of after).refusals ≡ (state_of m).refusals)
counted_rest true m after visible hidden k = ((λ i. (k.state i).spaces), (λ i. (k.state i).refusals))
counted_rest false m after visible hidden k =
    let rest = ended_rest (state_of m) m.served.slot in ((λ i. (k.state i).spaces) ∙ rest.0, (λ i. (k.state i).refusals) ∙ rest.1)

-- What is told of the refusal stays so with the step.
still_refused : (first : AbstractState) (frames : ℕ) (refusal : Refusal) (r : LibraryRun) (next : Turn) (more printed : List ℕ) →
    (0 < made r.book → next.slot ≡ r.served.slot) → r.book.visible ≤ next.visible →
    IsRefusedInTurn r.book.schedule first frames (turns_so_far r) refusal printed →
    IsRefusedInTurn r.book.schedule first frames (r.book.turns.items ++ next ∷ []) refusal (printed ++ more)
still_refused first frames refusal r next more printed slot visible h = by_test (made r.book == 0) refl h
  where
    by_test : (c : Bool) → (made r.book == 0) ≡ c →
        IsRefusedInTurn r.book.schedule first frames (if c then r.book.turns.items else r.book.turns.items ++ turn_of r.served.slot r.book.visible
        r.book.hidden ∷ []) refusal printed →
        IsRefusedInTurn r.book.schedule first frames (r.book.turns.items ++ next ∷ []) refusal (printed ++ more)
    by_test true is h = refused_longer r.book.turns.items next more h
    by_test false is h =
        refused_further r.book.turns.items (turn_of r.served.slot r.book.visible r.book.hidden) next more h (slot (some_made r is)) visible

-- ---- the steps that went on

module _ {r : LibraryRun} {n going : ℕ} (k : Reaches r n going) where
  -- what they leave
  gone : GoneQuietly n (entered r n) k.reached
  gone = gone_quietly n going (entered r n) k.reached k.went

  -- nothing was refused in them
  before_last : k.reached.refusals ≡ (state_of r).refusals
  before_last = gone.refusals ∙ (entered_rest r n).1

  still_runs : is_running (slot_at k.reached n).status ≡ true
  still_runs = ap (λ (x : Status). is_running x) gone.status ∙ k.running

  pub last_is : k.reached.last ≡ Some n
  last_is = gone.last ∙ entered_last r n k.holds k.chosen

  pub turns_are : k.reached.turns ≡ vec_len r.book.turns + 1
  turns_are = gone.turns ∙ entered_turns r n k.holds

  -- The abstract system has come so far with them, where nothing was refused yet.
  before_stands : (first : AbstractState) (disk : Option Disk) (printed : List ℕ) →
      StandsBy (made r.book == 0) r.book.schedule first disk r printed → (state_of r).refusals ≡ 0 →
      IsInTurn r.book.schedule first r.book.turns.items n (r.book.visible + going) (beside k.reached disk) printed
  before_stands first disk printed stands quiet =
      let few : (entered r n).refusals ≡ 0 = (entered_rest r n).1 ∙ quiet in
      quiet_in_turn disk going r.book.visible (entered r n) k.reached k.went (in_turn_of first disk r n printed k.holds k.chosen stands) k.is_guest k.running
      (entered_last r n k.holds k.chosen) (omega (arith, few))

  -- each frame that is handed out has a use
  before_used : (first : AbstractState) (disk : Option Disk) (printed : List ℕ) →
      StandsBy (made r.book == 0) r.book.schedule first disk r printed → EachHasUse (state_of r).spaces → EachHasUse k.reached.spaces
  before_used first disk printed stands used =
      let begun = in_turn_of first disk r n printed k.holds k.chosen stands in
      quiet_each n going (entered r n) k.reached k.went begun.stands.0.1.in_order (running_live (slot_at (entered r n) n) k.running)
      (subst (λ (x : SpacesState). EachHasUse x) (sym (entered_rest r n).0) used)

  -- In a turn of the file server there is another environment: no instruction of a program goes before its step.
  reached_others : {first : AbstractState} {frames : ℕ} {disk : Option Disk} {printed : List ℕ} → StandsSo first frames disk r printed → n ≡ 0 →
      others_live k.reached ≡ true
  reached_others {first = first} {disk = disk} {printed = printed} h is_first = by_going going k.went k.is_guest
    where
      begun : IsInTurn r.book.schedule first r.book.turns.items n r.book.visible (beside (entered r n) disk) printed
      begun = in_turn_of first disk r n printed k.holds k.chosen h.stands

      by_going : (count : ℕ) → GuestGoesOn n count (entered r n) k.reached →
          (0 < count → (is_servers (entered r n) n ≡ false) × (place_of (slot_at (entered r n) n) ≡ place.Guest)) → others_live k.reached ≡ true
      by_going zero went guest = ap others_live went ∙ entered_others first disk r n printed k.holds k.chosen h is_first
      by_going (suc count) went guest = absurd (others_slot begun.stands.0.1 n (guest (omega arith)).0 is_first)

-- ---- the steps

-- what the last of them leaves, where the state stands for an abstract one
data LeftBy (n : ℕ) (over : Option Disk) (done : Progress) (before after : KernelState) : Type 0 where
  served : n ≡ 0 → ServerLeaves over done before after → LeftBy n over done before after
  another : n ≢ 0 → LeavesEach done n before after → LeftBy n over done before after

module _ {r m : LibraryRun} {disks : Around (Option Disk)} {n going : ℕ} {done : Progress} {bytes : List ℕ} (k : Makes r m disks n going done bytes) where
  abbrev reached : KernelState
  reached = k.before.reached

  -- where the last of them begins, and where it leads
  abbrev reached_whole : World
  reached_whole = beside reached disks.before

  abbrev left_whole : World
  left_whole = beside (state_of m) disks.after

  left_by : (a : AbstractState) → Stands reached a → LeftBy n disks.before done reached (state_of m)
  left_by a h = by_test (is_servers reached n) refl k.leaves
    where
      by_test : (c : Bool) → is_servers reached n ≡ c → LeavesAs c disks.before (Ok done) n reached (state_of m) → LeftBy n disks.before done reached (state_of m)
      by_test true is leaves = let is_first = servers_first h.1 n is in served is_first (leaves is_first)
      by_test false is leaves = another (others_slot h.1 n is) leaves.each

  uses_by : LeftBy n disks.before done reached (state_of m) → KeepsUses n reached (state_of m)
  uses_by (served is_first left) = subst (λ (x : ℕ). KeepsUses x reached (state_of m)) (sym is_first) left.uses
  uses_by (another other left) = left.uses

  -- in a turn of the file server there is another environment still
  others_further : {first : AbstractState} {frames : ℕ} {printed : List ℕ} → StandsSo first frames disks.before r printed →
      IsInTurn r.book.schedule first r.book.turns.items n (r.book.visible + going) reached_whole printed → NothingRefused reached (state_of m) →
      (c : Bool) (after : LibraryRun) (visible hidden : ℕ) → CountedBy c m after visible hidden → 0 < made after.book → after.served.slot ≡ 0 →
      others_live (state_of after) ≡ true
  others_further h t none_refused true after visible hidden counts some slot =
      let is_first : n ≡ 0 = sym k.slot ∙ sym counts.slot ∙ slot in
      (λ i. others_live (counts.state i))
      ∙ server_others n reached_whole left_whole done bytes is_first t.now t.stands none_refused k.keeps (reached_others k.before h is_first)
  others_further h t none_refused false after visible hidden counts some slot =
      let none : made after.book ≡ 0 = (λ i. counts.book.visible_are i + counts.book.hidden_are i) in
      absurd (omega (arith, none, some))

  -- the steps are within the turn
  within_turn : made m.book + (seen_with going done + hidden_steps done) ≤ quantum r.book.schedule (length m.book.turns.items)
  within_turn =
      let same : made m.book ≡ made r.book = λ i. made (k.book i) in
      let turns : quantum r.book.schedule (length m.book.turns.items) ≡ quantum r.book.schedule (length r.book.turns.items) =
      λ i. quantum r.book.schedule (length (k.book i).turns.items) in
      let left : made r.book + going < quantum r.book.schedule (length r.book.turns.items) = k.before.left in
      let all : seen_with going done + hidden_steps done ≡ going + 1 = all_steps going done in
      omega (arith, same, turns, left, all)

  -- the visible ones with them
  seen_is : (r.book.visible + going) + visible_steps done ≡ m.book.visible + seen_with going done
  seen_is = let same : m.book.visible ≡ r.book.visible = (λ i. (k.book i).visible) in omega (arith, same)

  seen_grown : r.book.visible + going ≤ m.book.visible + seen_with going done
  seen_grown = let is : (r.book.visible + going) + visible_steps done ≡ m.book.visible + seen_with going done = seen_is in omega (arith, is)

  -- the abstract system has come so far, where nothing was refused
  comes_with : {first : AbstractState} {printed : List ℕ} →
      IsInTurn r.book.schedule first r.book.turns.items n (r.book.visible + going) reached_whole printed → NothingRefused reached (state_of m) →
      Comes r.book.schedule first m.book.turns.items m.served.slot (m.book.visible + seen_with going done) (m.book.hidden + hidden_steps done)
      left_whole (printed ++ bytes)
  comes_with {first = first} {printed = printed} t none_refused =
      comes_is (λ i. (sym k.book i).turns.items) (sym k.slot) seen_is (λ i. (sym k.book i).hidden + hidden_steps done)
      (by_left (left_by t.now t.stands.0))
    where
      by_left : LeftBy n disks.before done reached (state_of m) →
          Comes r.book.schedule first r.book.turns.items n ((r.book.visible + going) + visible_steps done) (r.book.hidden + hidden_steps done)
          left_whole (printed ++ bytes)
      by_left (served is_first left) =
          server_stepped bytes is_first t done k.keeps none_refused (k.rest.last ∙ last_is k.before) (still_runs k.before) left
          (r.book.hidden + hidden_steps done)
      by_left (another other left) =
          stepped bytes other t done k.keeps none_refused (k.rest.last ∙ last_is k.before) (still_runs k.before) left.turn
          (r.book.hidden + hidden_steps done)

      comes_is : {turns turns' : List Turn} {n n' visible visible' hidden hidden' : ℕ} → turns ≡ turns' → n ≡ n' → visible ≡ visible' →
          hidden ≡ hidden' → Comes r.book.schedule first turns n visible hidden left_whole (printed ++ bytes) →
          Comes r.book.schedule first turns' n' visible' hidden' left_whole (printed ++ bytes)
      comes_is {turns = turns} {turns' = turns'} {n = n} {n' = n'} {visible = visible} {visible' = visible'} {hidden = hidden} a b c d h =
          subst (λ (x : ℕ). Comes r.book.schedule first turns' n' visible' x left_whole (printed ++ bytes)) d
          (subst (λ (x : ℕ). Comes r.book.schedule first turns' n' x hidden left_whole (printed ++ bytes)) c
          (subst (λ (x : ℕ). Comes r.book.schedule first turns' x visible hidden left_whole (printed ++ bytes)) b
          (subst (λ (x : List Turn). Comes r.book.schedule first x n visible hidden left_whole (printed ++ bytes)) a h)))

  quiet_further : (after : LibraryRun) → CountsSteps m after going done → (state_of m).refusals ≡ (entered r n).refusals →
      (first : AbstractState) (frames : ℕ) (printed : List ℕ) → StandsSo first frames disks.before r printed →
      StandsSo first frames disks.after after (printed ++ bytes)
  quiet_further after counts same first frames printed h =
      let kept = entered_rest r n in
      let rest = counted_rest (goes_on_with m going done) m after (seen_with going done) (hidden_steps done) counts in
      let t = before_stands k.before first disks.before printed h.stands h.quiet in
      let none : reached.refusals ≡ 0 = before_last k.before ∙ h.quiet in
      let none_refused : NothingRefused reached (state_of m) =
      record { stays = same ∙ sym (gone k.before).refusals; could = omega (arith, none) } in
      record {
        stands = stands_after (goes_on_with m going done) r.book.schedule first disks.after m after (seen_with going done) (hidden_steps done)
            (printed ++ bytes) refl counts (λ i. (k.book i).schedule) (some_steps going done) within_turn (comes_with t none_refused);
        quiet = rest.1 ∙ same ∙ kept.1 ∙ h.quiet;
        frames_are = (λ i. (rest.0 i).frames) ∙ k.rest.frames ∙ (gone k.before).frames ∙ (λ i. (kept.0 i).frames) ∙ h.frames_are;
        used = subst (λ (x : SpacesState). EachHasUse x) (sym rest.0)
            (uses_by (left_by t.now t.stands.0) t.stands.0.1.in_order (running_live (slot_at reached n) (still_runs k.before))
            (before_used k.before first disks.before printed h.stands h.used));
        others = others_further h t none_refused (goes_on_with m going done) after (seen_with going done) (hidden_steps done) counts;
        counted_so = counts.written ∙ k.written ∙ (λ i. min (h.counted_so i + length bytes) (2 ^ 64 - 1)) ∙ counted-more printed bytes;
      }

  -- The last was refused something: no more than one frame was free, or no slot.
  lacks_space : ((state_of m).refusals == (entered r n).refusals) ≡ false → (frames : ℕ) (now : AbstractState) →
      reached.environments.free_slots ≡ now.free_slots → (length reached.spaces.free ≤ 1 → frames - reserved_frames frames ≤ need now) →
      (c : Bool) → nat_le 2 (length reached.spaces.free) ≡ c → (slots : List ℕ) → reached.environments.free_slots ≡ slots → LacksSpace frames now
  lacks_space rose frames now same needed false is slots are = inl (needed (grind (arith, nat_tests)))
  lacks_space rose frames now same needed true is [] are = inr (sym same ∙ are)
  lacks_space rose frames now same needed true is (slot ∷ rest) are =
      let two : 2 ≤ length reached.spaces.free = grind (arith, nat_tests) in
      let some : reached.environments.free_slots ≢ [] = λ none. let contradiction : ◌≡◌ {A = List ℕ} [] (slot ∷ rest) = sym none ∙ are in absurd cc in
      let still : (state_of m).refusals ≡ (entered r n).refusals = k.rest.refused two some ∙ (gone k.before).refusals in
      let test : ((state_of m).refusals == (entered r n).refusals) ≡ true = grind (arith, nat_tests) in
      absurd (let contradiction : true ≡ false = sym test ∙ rose in cc)

  -- that was the first refusal
  refused_first : NeedIsReached → ((state_of m).refusals == (entered r n).refusals) ≡ false → (first : AbstractState) (frames : ℕ)
      (printed : List ℕ) → StandsSo first frames disks.before r printed →
      IsRefusedInTurn r.book.schedule first frames (m.book.turns.items ++ turn_with m going done ∷ [])
      (record { turn = vec_len r.book.turns; console_len = r.served.written })
      (printed ++ bytes)
  refused_first needs rose first frames printed h =
      let t = before_stands k.before first disks.before printed h.stands h.quiet in
      let used : EachHasUse reached.spaces = before_used k.before first disks.before printed h.stands h.used in
      let all : reached.spaces.frames ≡ frames = (gone k.before).frames ∙ (λ i. ((entered_rest r n).0 i).frames) ∙ h.frames_are in
      record {
        before = r.book.turns.items;
        turn = turn_with m going done;
        later = [];
        turns_are = λ i. (k.book i).turns.items ++ turn_with m going done ∷ [];
        place = r.book.turns.ok.0;
        begun = t.before;
        ran = t.ran;
        fit = t.fit;
        chosen = t.chosen ∙ ap (λ (x : ℕ). Some x) (sym k.slot);
        visible = r.book.visible + going;
        within = seen_grown;
        now = t.now;
        taken = subst (λ (x : ℕ). steps_taken (begun_at t.before x) x (r.book.visible + going) ≡ Some t.now) (sym k.slot) t.taken;
        told = printed;
        rest = bytes;
        printed_is = refl;
        console = t.console;
        console_len = h.counted_so;
        needed = lacks_space rose frames t.now t.stands.0.1.free_slots.same
            (λ few. subst (λ (x : ℕ). x - reserved_frames x ≤ need t.now) all (needs t.stands.0.0 reached t.now t.stands.0.1 used few))
            (nat_le 2 (length reached.spaces.free)) refl reached.environments.free_slots refl;
      }

  turn_grown : r.book.visible ≤ m.book.visible + seen_with going done
  turn_grown =
      let more : r.book.visible + going ≤ m.book.visible + seen_with going done = seen_grown in omega (arith, more)

  -- The run after the steps.
  runs_further : NeedIsReached → (after : LibraryRun) → CountsSteps m after going done → (first : AbstractState) (frames : ℕ)
      (printed : List ℕ) → Runs first frames disks.before r printed → Runs first frames disks.after after (printed ++ bytes)
  runs_further needs after counts first frames printed = by_first r.book.first_refused refl
    where
      refusal_by : Bool → Option Refusal → Option Refusal
      refusal_by rose o = noted o rose (vec_len r.book.turns) r.served.written

      -- where what is told of the refusal is known, with the turns as they are told
      refused_so : (refusal : Refusal) → after.book.first_refused ≡ Some refusal → 0 < (state_of m).refusals →
          IsRefusedInTurn r.book.schedule first frames (m.book.turns.items ++ turn_with m going done ∷ []) refusal (printed ++ bytes) →
          Runs first frames disks.after after (printed ++ bytes)
      refused_so refusal is some h =
          subst (λ (o : Option Refusal). RunsBy o first frames disks.after after (printed ++ bytes)) (sym is) (
            subst (λ (x : ℕ). 0 < x) (sym (counted_rest (goes_on_with m going done) m after (seen_with going done) (hidden_steps done) counts).1) some,
            subst (λ (x : List ℕ). IsRefusedInTurn x first frames (turns_so_far after) refusal (printed ++ bytes))
                (sym (counts.book.schedule ∙ (λ i. (k.book i).schedule)))
                (subst (λ (x : List Turn). IsRefusedInTurn r.book.schedule first frames x refusal (printed ++ bytes))
                (sym (told_turns (goes_on_with m going done) m after (seen_with going done) (hidden_steps done) (some_steps going done) counts)) h),
          )

      by_rose : (c : Bool) → ((state_of m).refusals == (entered r n).refusals) ≡ c → r.book.first_refused ≡ None →
          StandsSo first frames disks.before r printed →
          Runs first frames disks.after after (printed ++ bytes)
      by_rose true test is h =
          let same : (state_of m).refusals ≡ (entered r n).refusals = grind (arith, nat_tests) in
          let quiet : after.book.first_refused ≡ None =
          counts.book.first_refused ∙ (λ i. (k.book i).first_refused) ∙ ap (λ (b : Bool). refusal_by (not b) r.book.first_refused) test
          ∙ ap (λ (o : Option Refusal). refusal_by false o) is in
          subst (λ (o : Option Refusal). RunsBy o first frames disks.after after (printed ++ bytes)) (sym quiet)
          (quiet_further after counts same first frames printed h)
      by_rose false test is h =
          let told : after.book.first_refused ≡ Some (record { turn = vec_len r.book.turns; console_len = r.served.written }) =
          counts.book.first_refused ∙ (λ i. (k.book i).first_refused) ∙ ap (λ (b : Bool). refusal_by (not b) r.book.first_refused) test
          ∙ ap (λ (o : Option Refusal). refusal_by true o) is in
          let stood : (entered r n).refusals ≡ 0 = (entered_rest r n).1 ∙ h.quiet in
          let some : 0 < (state_of m).refusals = grind (arith, nat_tests) in
          refused_so (record { turn = vec_len r.book.turns; console_len = r.served.written }) told some
          (refused_first needs test first frames printed h)

      by_first : (o : Option Refusal) → r.book.first_refused ≡ o → RunsBy o first frames disks.before r printed →
          Runs first frames disks.after after (printed ++ bytes)
      by_first None is h = by_rose ((state_of m).refusals == (entered r n).refusals) refl is h
      by_first (Some refusal) is h =
          let told : after.book.first_refused ≡ Some refusal =
          counts.book.first_refused ∙ (λ i. (k.book i).first_refused)
          ∙ ap (λ (o : Option Refusal). refusal_by (not ((state_of m).refusals == (entered r n).refusals)) o) is in
          refused_so refusal told (k.rest.told (subst (λ (x : ℕ). 0 < x) (sym (before_last k.before)) h.0))
          (subst (λ (x : List Turn). IsRefusedInTurn r.book.schedule first frames (x ++ turn_with m going done ∷ []) refusal (printed ++ bytes))
          (λ i. (sym k.book i).turns.items)
          (still_refused first frames refusal r (turn_with m going done) bytes printed (λ some. k.slot ∙ k.before.chosen.turn some)
          turn_grown h.1))

  -- the steps themselves
  abbrev last_made : Bool → StepMade
  last_made begins = made_step n begins (goes_on_with m going done) done bytes k.trap left_whole

  made_all : List StepMade
  made_all = steps_with disks.before (made r.book == 0) n going (entered r n) reached k.before.went last_made

  made_long : length made_all ≡ going + 1
  unfolding made_all
  made_long =
      steps_long disks.before n (goes_on_with m going done) done bytes k.trap left_whole (made r.book == 0) going (entered r n) reached k.before.went

  leads_on : (after : LibraryRun) → CountsSteps m after going done →
      LeadTo made_all (beside (state_of r) disks.before) (beside (state_of after) disks.after)
  unfolding made_all
  leads_on after counts =
      steps_lead disks.before n (goes_on_with m going done) done bytes k.trap left_whole reached (state_of after) k.raises k.keeps
      k.rest k.leaves
      ((λ i. if goes_on_with m going done then state_of m else turn_ended (state_of m) (sym k.slot i)) ∙ sym counts.state)
      (made r.book == 0) going (entered r n) (state_of r) k.before.went refl (λ is. k.before.chosen.next_is (none_made r is)) k.before.running
      k.before.is_guest

  keeps_traps : (after : LibraryRun) → CountsSteps m after going done → (most : ℕ) (traps : List TrapLine) →
      r.book.trace ≡ buffer (keep_last most traps) most → after.book.trace ≡ buffer (keep_last most (traps ++ traps_of made_all)) most
  unfolding made_all
  keeps_traps after counts most traps is =
      let one = steps_traps disks.before n (goes_on_with m going done) done bytes k.trap left_whole (made r.book == 0) going (entered r n) reached k.before.went in
      counts.book.trace ∙ (λ i. (k.book i).trace) ∙ ap (λ (b : Buffer TrapLine). traced b k.trap) is
      ∙ kept_one most traps (last_made (made r.book == 0))
      ∙ ap (λ (l : List TrapLine). buffer (keep_last most (traps ++ l)) most) (sym one)

  writes : bytes ≡ written_in made_all
  unfolding made_all
  writes =
      sym (steps_written disks.before n (goes_on_with m going done) done bytes k.trap left_whole (made r.book == 0) going (entered r n) reached k.before.went
      ∙ written_one (last_made (made r.book == 0)))

  -- the turns with them
  turns_on : (after : LibraryRun) → CountsSteps m after going done → turns_so_far after ≡ turns_with (turns_so_far r) made_all
  unfolding made_all
  turns_on after counts =
      told_turns (goes_on_with m going done) m after (seen_with going done) (hidden_steps done) (some_steps going done) counts
      ∙ (λ i. (k.book i).turns.items
      ++ turn_of (whose i) ((k.book i).visible + seen_with going done) ((k.book i).hidden + hidden_steps done) ∷ [])
      ∙ sym (by_begins (made r.book == 0) refl)
    where
      -- the slot whose turn it is, where one is under way
      whose : m.served.slot ≡ (if made r.book == 0 then n else r.served.slot)
      whose = k.slot ∙ by_test (made r.book == 0) refl
        where
          by_test : (c : Bool) → (made r.book == 0) ≡ c → n ≡ (if c then n else r.served.slot)
          by_test true is = refl
          by_test false is = k.before.chosen.turn (some_made r is)

      by_begins : (c : Bool) → (made r.book == 0) ≡ c →
          turns_with (if c then r.book.turns.items else r.book.turns.items ++ turn_of r.served.slot r.book.visible r.book.hidden ∷ [])
          (steps_with disks.before c n going (entered r n) reached k.before.went last_made)
          ≡ r.book.turns.items
          ++ turn_of (if c then n else r.served.slot) (r.book.visible + seen_with going done) (r.book.hidden + hidden_steps done) ∷ []
      by_begins true is =
          let none : made r.book ≡ 0 = none_made r is in
          steps_turns disks.before n (goes_on_with m going done) done bytes k.trap left_whole true going (entered r n) reached k.before.went
          r.book.turns.items n r.book.visible r.book.hidden (λ so. (refl, omega (arith, none), omega (arith, none)))
      by_begins false is =
          steps_turns disks.before n (goes_on_with m going done) done bytes k.trap left_whole false going (entered r n) reached k.before.went
          r.book.turns.items r.served.slot r.book.visible r.book.hidden (λ so. absurd (let contradiction : false ≡ true = so in cc))

  -- so many steps more were made
  pub went_all : NeedIsReached → (after : LibraryRun) (console : Around (Option (List ℕ))) → CountsSteps m after going done →
      Gains console bytes → Went (going + 1) (from_to r after) disks console
  went_all needs after console counts gains = record {
    printed = bytes;
    gains = gains;
    steps_are = counts.book.steps ∙ (λ i. (k.book i).steps + all_steps going done i);
    schedule = counts.book.schedule ∙ (λ i. (k.book i).schedule);
    steps_made = made_all;
    long = made_long;
    lead = leads_on after counts;
    printed_are = writes;
    turns = turns_on after counts;
    kept = keeps_traps after counts;
    runs = runs_further needs after counts;
  }

-- ---- the host failed

-- What is told of a run that was cut off in the turn under way, where nothing or something was refused before.
cut_off_by : (r m : LibraryRun) (first : AbstractState) (frames : ℕ) (disk : Option Disk) (turn : Turn) (more printed : List ℕ) →
    m.book.first_refused ≡ r.book.first_refused → turns_so_far m ≡ r.book.turns.items ++ turn ∷ [] →
    (0 < made r.book → turn.slot ≡ r.served.slot) → r.book.visible ≤ turn.visible →
    (StandsSo first frames disk r printed → IsCutOff r.book.schedule first (r.book.turns.items ++ turn ∷ []) (printed ++ more)) →
    Runs first frames disk r printed → CutOffBy m.book.first_refused r.book.schedule first frames (turns_so_far m) (printed ++ more)
cut_off_by r m first frames disk turn more printed same turns slot visible cut = by_first r.book.first_refused refl
  where
    told : (o : Option Refusal) → r.book.first_refused ≡ o →
        CutOffBy o r.book.schedule first frames (r.book.turns.items ++ turn ∷ []) (printed ++ more) →
        CutOffBy m.book.first_refused r.book.schedule first frames (turns_so_far m) (printed ++ more)
    told o is h =
        subst (λ (x : Option Refusal). CutOffBy x r.book.schedule first frames (turns_so_far m) (printed ++ more)) (sym (same ∙ is))
        (subst (λ (x : List Turn). CutOffBy o r.book.schedule first frames x (printed ++ more)) (sym turns) h)

    by_first : (o : Option Refusal) → r.book.first_refused ≡ o → RunsBy o first frames disk r printed →
        CutOffBy m.book.first_refused r.book.schedule first frames (turns_so_far m) (printed ++ more)
    by_first None is h = told None is (cut h)
    by_first (Some refusal) is h =
        told (Some refusal) is (in_a_turn (still_refused first frames refusal r turn more printed slot visible h.1))

-- ---- in a step that prints

-- what the calls of steps have done, in the last of which the host failed
pub record Fails (r m : LibraryRun) (disk : Option Disk) (n going : ℕ) (bytes : List ℕ) : Type 0 where
  pub before : Reaches r n going
  pub would : (a : AbstractState) → StandsWhole (beside before.reached disk) a → MayStep before.reached n →
      (b : AbstractState) × (abs_step a n ≡ Some b) × (b.console ≡ a.console ++ bytes)
  pub slot : m.served.slot ≡ n
  pub book : m.book ≡ record r.book { visible = r.book.visible + (going + 1) }

module _ {r m : LibraryRun} {disk : Option Disk} {n going : ℕ} {bytes : List ℕ} (k : Fails r m disk n going bytes) where
  failed_turns : turns_so_far m ≡ r.book.turns.items ++ turn_of n (r.book.visible + going + 1) r.book.hidden ∷ []
  failed_turns =
      let some : (made m.book == 0) ≡ false =
      (let all : made m.book ≡ r.book.visible + (going + 1) + r.book.hidden = (λ i. made (k.book i)) in grind (arith, nat_tests)) in
      ap (λ (b : Bool). if b then m.book.turns.items else m.book.turns.items ++ turn_of m.served.slot m.book.visible m.book.hidden ∷ []) some
      ∙ (λ i. (k.book i).turns.items ++ turn_of (k.slot i) (k.book i).visible (k.book i).hidden ∷ [])
      ∙ (let all : r.book.visible + (going + 1) ≡ r.book.visible + going + 1 = omega arith in
      (λ i. r.book.turns.items ++ turn_of n (all i) r.book.hidden ∷ []))

  cut_off_in : (first : AbstractState) (frames part : ℕ) (printed : List ℕ) → StandsSo first frames disk r printed →
      IsCutOff r.book.schedule first (r.book.turns.items ++ turn_of n (r.book.visible + going + 1) r.book.hidden ∷ [])
      (printed ++ take part bytes)
  cut_off_in first frames part printed h =
      let t = before_stands k.before first disk printed h.stands h.quiet in
      let would : (a : AbstractState) → StandsWhole (beside k.before.reached disk) a →
      (b : AbstractState) × (abs_step a n ≡ Some b) × (b.console ≡ a.console ++ bytes) =
      λ a stands. k.would a stands (λ other. still_runs k.before) in
      let b = step_failed bytes t r.book.hidden would in
      let left : made r.book + going < quantum r.book.schedule (length r.book.turns.items) = k.before.left in
      printing (record {
        before = r.book.turns.items;
        slot = n;
        visible = r.book.visible + going;
        hidden = r.book.hidden;
        turns_are = refl;
        fit = t.fit;
        begun = t.now;
        told = printed;
        ran = in_turn_ran t r.book.hidden;
        console = t.console;
        now = b.0;
        whole = bytes;
        would = record { ran = b.1; fit = failed_fits t r.book.hidden would (omega arith) (omega arith); console = b.2 };
        part = take part bytes;
        rest = drop part bytes;
        whole_is = sym (take-append-drop part bytes);
        printed_is = refl;
      })

  -- What is told of the run that the failed call has cut off.
  pub failed_last : (after : Option Disk) (console : Around (Option (List ℕ))) → GainsPart console bytes →
      HasFailed (from_to r m) (from_to disk after) console
  failed_last after console gains = record {
    printed = take gains.0 bytes;
    gains = gains.2;
    cut_off = λ first frames printed h.
        cut_off_by r m first frames disk (turn_of n (r.book.visible + going + 1) r.book.hidden) (take gains.0 bytes) printed
        (λ i. (k.book i).first_refused) failed_turns k.before.chosen.turn (omega arith) (cut_off_in first frames gains.0 printed) h;
  }

-- ---- in a step of the file server

-- So it is where that was in a step that nobody sees, which is counted.
pub record FailsQuietly (r m after : LibraryRun) (disk : Option Disk) (n going : ℕ) (bytes : List ℕ) : Type 0 where
  pub before : Reaches r n going
  pub none : (a : AbstractState) → StandsWhole (beside before.reached disk) a → bytes ≡ []
  pub slot : m.served.slot ≡ n
  pub book : m.book ≡ r.book
  pub counts : Counted m after going 1

module _ {r m after : LibraryRun} {disk : Option Disk} {n going : ℕ} {bytes : List ℕ} (k : FailsQuietly r m after disk n going bytes) where
  quiet_turns : turns_so_far after ≡ r.book.turns.items ++ turn_of n (r.book.visible + going) (r.book.hidden + 1) ∷ []
  quiet_turns =
      told_turns (goes_on_after m (going + 1)) m after going 1 (omega arith) k.counts
      ∙ (λ i. (k.book i).turns.items ++ turn_of (k.slot i) ((k.book i).visible + going) ((k.book i).hidden + 1) ∷ [])

  -- the turn with it has steps that fit
  cut_off_quietly : (first : AbstractState) (frames part : ℕ) (printed : List ℕ) → StandsSo first frames disk r printed →
      IsCutOff r.book.schedule first (r.book.turns.items ++ turn_of n (r.book.visible + going) (r.book.hidden + 1) ∷ [])
      (printed ++ take part bytes)
  cut_off_quietly first frames part printed h =
      let t = before_stands k.before first disk printed h.stands h.quiet in
      let left : made r.book + going < quantum r.book.schedule (length r.book.turns.items) = k.before.left in
      let nothing : take part bytes ≡ [] = ap (λ (l : List ℕ). take part l) (k.none t.now t.stands) ∙ take_none part in
      quietly t.now (record {
        ran = in_turn_ran t (r.book.hidden + 1);
        fit = in_turn_fits t (r.book.hidden + 1) (omega arith) (omega arith);
        console = t.console ∙ ap (λ (l : List ℕ). first.console ++ l) (sym (append-nil printed) ∙ ap (λ (l : List ℕ). printed ++ l) (sym nothing));
      })
    where
      take_none : (count : ℕ) → take {A = ℕ} count [] ≡ []
      take_none zero = refl
      take_none (suc count) = refl

  pub failed_quietly : (later : Option Disk) (console : Around (Option (List ℕ))) → GainsPart console bytes →
      HasFailed (from_to r after) (from_to disk later) console
  failed_quietly later console gains = record {
    printed = take gains.0 bytes;
    gains = gains.2;
    cut_off = λ first frames printed h.
        cut_off_by r after first frames disk (turn_of n (r.book.visible + going) (r.book.hidden + 1)) (take gains.0 bytes) printed
        (k.counts.book.first_refused ∙ (λ i. (k.book i).first_refused)) quiet_turns k.before.chosen.turn (omega arith)
        (cut_off_quietly first frames gains.0 printed) h;
  }
