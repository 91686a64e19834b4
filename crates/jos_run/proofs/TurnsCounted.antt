-- What a run keeps between two steps: at its beginning, and where a step was counted.
use Rattle.std.proofs.Common.{◌≡◌, ◌∙◌, ℕ, ◌+◌, ◌<◌, ◌==◌, Bool, true, false, List, [], ◌∷◌, ◌++◌, length}
use Rattle.std.proofs.Common.{Option, Some, None, refl, sym, ap, subst, arith, if◌then◌else◌, vec_len}
use Rattle.std.specs.Prelude.{nat_lt, unwrap_or}
use Rattle.std.specs.Option.{ForSome}
use Rattle.std.proofs.lemmas.Bool.Decides.{nat_tests}
use Rattle.std.proofs.lemmas.List.{length-append}
use Rattle.jos_host.specs.Frames.{Around}
use Rattle.jos_base.specs.declared.environment.Status.TheVariants.{Runnable}
use Rattle.jos_base.specs.declared.numbers.TheConstants.{NENV}
use Rattle.jos_base.specs.Environments.{is_running}
use Rattle.jos_base.specs.KernelState.{KernelState, slot_at, with_status, turn_ended}
use Rattle.jos_sched.specs.Quantum.{quantum}
use Rattle.jos_kernel.specs.declared.report.Turn.{Turn}
use Rattle.jos_kernel.specs.Books.{turn_of, made, HasRoom, HasStepsLeft}
use Rattle.lib_os.specs.declared.progress.Progress.{Progress}
use Rattle.lib_os.specs.Disk.{Disk}
use Rattle.jos_run.specs.declared.library_run.LibraryRun.{LibraryRun}
use Rattle.jos_run.specs.LibraryRuns.{hidden_steps}
use Rattle.jos_run.specs.RunReports.{steps_of}
use Rattle.jos_run.specs.RunSteps.{is_in_turn}
use Rattle.jos_run.specs.Running.{state_of, turns_so_far, Holds, goes_on_after, turn_after, CountedBy}
use Rattle.jos_run.proofs.Refusals.{steps_append, no_steps_yet}
use Rattle.jos_run.proofs.RunSteps.{ended_idle}
use Rattle.jos_run.proofs.StepsMade.{none_made, told_turns, Makes, CountsSteps, seen_with, some_steps, last_is, turns_are}
use Rattle.std.proofs.lemmas.Bool.{and_parts}

-- ---- the beginning

some_last : (n : ℕ) (o : Option ℕ) → o ≡ Some n → n < NENV → ForSome o (λ m. m < NENV)
some_last n o is within m at =
    let same : n ≡ m = ap (λ (x : Option ℕ). unwrap_or x n) (sym is ∙ at) in subst (λ (x : ℕ). x < NENV) same within

no_last : (o : Option ℕ) → o ≡ None → ForSome o (λ m. m < NENV)
no_last o is m at = absurd (let contradiction : ◌≡◌ {A = Option ℕ} None (Some m) = sym is ∙ at in cc)

pub begun_holds : (r : LibraryRun) → HasRoom r.book → r.book.turns.items ≡ [] → made r.book ≡ 0 → (state_of r).turns ≡ 0 →
    (state_of r).last ≡ None → r.book.steps ≡ 0 → Holds r
begun_holds r room empty none turns last steps =
    let test : true ≡ (made r.book == 0) = grind (arith, nat_tests) in
    let long : vec_len r.book.turns ≡ 0 = r.book.turns.ok.0 ∙ ap (λ (l : List Turn). length l) empty in
    let told : turns_so_far r ≡ r.book.turns.items =
    ap (λ (c : Bool). if c then r.book.turns.items else r.book.turns.items ++ turn_of r.served.slot r.book.visible r.book.hidden ∷ []) (sym test) in
    record {
      has_room = room;
      turns = subst (λ (c : Bool). (state_of r).turns ≡ (if c then vec_len r.book.turns else vec_len r.book.turns + 1)) test (turns ∙ sym long);
      left = λ some. absurd (omega (arith, none, some));
      running = λ some. absurd (omega (arith, none, some));
      current = λ some. absurd (omega (arith, none, some));
      last = no_last (state_of r).last last;
      between = λ so. ap (λ (o : Option ℕ). is_in_turn (state_of r) o) last;
      steps = steps ∙ sym (ap (λ (l : List Turn). steps_of l) (told ∙ empty) ∙ no_steps_yet);
    }

-- ---- a step

ended_turns : (s : KernelState) (n : ℕ) → ((turn_ended s n).turns ≡ s.turns) × ((turn_ended s n).last ≡ s.last)
ended_turns s n = by_test (is_running (slot_at s n).status)
  where
    by_test : (b : Bool) → ((if b then with_status s n Runnable else s).turns ≡ s.turns) × ((if b then with_status s n Runnable
        else s).last ≡ s.last)
    by_test true = (refl, refl)
    by_test false = (refl, refl)

-- what a turn keeps in which a step is counted
pub record InTurn (r : LibraryRun) : Type 0 where
  pub turns : (state_of r).turns ≡ vec_len r.book.turns + 1
  pub last : (state_of r).last ≡ Some r.served.slot
  pub within : r.served.slot < NENV
  pub steps : r.book.steps ≡ steps_of r.book.turns.items + made r.book

pub counted_holds : (c : Bool) (old new : LibraryRun) (visible hidden : ℕ) → 0 < visible + hidden → CountedBy c old new visible hidden →
    goes_on_after old (visible + hidden) ≡ c → InTurn old → HasRoom new.book → HasStepsLeft new.book → Holds new
counted_holds true old new visible hidden more k goes_on t room left =
    let now_made : made new.book ≡ (old.book.visible + visible) + (old.book.hidden + hidden) =
    (λ i. k.book.visible_are i + k.book.hidden_are i) in
    let test : false ≡ (made new.book == 0) = grind (arith, nat_tests) in
    let long : vec_len new.book.turns ≡ vec_len old.book.turns =
    new.book.turns.ok.0 ∙ ap (λ (l : List Turn). length l) k.book.turns ∙ sym old.book.turns.ok.0 in
    let parts = and_parts (is_running (slot_at (state_of old) old.served.slot).status)
    (nat_lt (made old.book + (visible + hidden)) (quantum old.book.schedule (length old.book.turns.items)))
    goes_on in
    let told : steps_of (turns_so_far new) ≡ steps_of old.book.turns.items + ((old.book.visible + visible) + (old.book.hidden + hidden)) =
    ap (λ (l : List Turn). steps_of l) (told_turns true old new visible hidden more k)
    ∙ steps_append old.book.turns.items (turn_after old visible hidden) in
    let all : new.book.steps ≡ old.book.steps + (visible + hidden) = k.book.steps in
    let before : old.book.steps ≡ steps_of old.book.turns.items + made old.book = t.steps in
    record {
      has_room = room;
      left = left;
      turns = subst (λ (b : Bool). (state_of new).turns ≡ (if b then vec_len new.book.turns else vec_len new.book.turns + 1)) test
          ((λ i. (k.state i).turns) ∙ t.turns ∙ ap (λ (n : ℕ). n + 1) (sym long));
      running = λ some. (λ i. is_running (slot_at (k.state i) (k.slot i)).status) ∙ parts.0;
      current = λ some. (λ i. (k.state i).last) ∙ t.last ∙ ap (λ (n : ℕ). Some n) (sym k.slot);
      last = some_last old.served.slot (state_of new).last ((λ i. (k.state i).last) ∙ t.last) t.within;
      between = λ so. absurd (omega (arith, now_made, more, so));
      steps = omega (arith, told, all, before);
    }
counted_holds false old new visible hidden more k goes_on t room left =
    let none : made new.book ≡ 0 = (λ i. k.book.visible_are i + k.book.hidden_are i) in
    let test : true ≡ (made new.book == 0) = grind (arith, nat_tests) in
    let ended = ended_turns (state_of old) old.served.slot in
    let long : vec_len new.book.turns ≡ vec_len old.book.turns + 1 =
    new.book.turns.ok.0 ∙ ap (λ (l : List Turn). length l) k.book.turns
    ∙ length-append old.book.turns.items (turn_after old visible hidden ∷ [])
    ∙ ap (λ (n : ℕ). n + 1) (sym old.book.turns.ok.0) in
    let told : steps_of (turns_so_far new) ≡ steps_of old.book.turns.items + ((old.book.visible + visible) + (old.book.hidden + hidden)) =
    ap (λ (l : List Turn). steps_of l) (told_turns false old new visible hidden more k)
    ∙ steps_append old.book.turns.items (turn_after old visible hidden) in
    let all : new.book.steps ≡ old.book.steps + (visible + hidden) = k.book.steps in
    let before : old.book.steps ≡ steps_of old.book.turns.items + made old.book = t.steps in
    record {
      has_room = room;
      left = left;
      turns = subst (λ (b : Bool). (state_of new).turns ≡ (if b then vec_len new.book.turns else vec_len new.book.turns + 1)) test
          ((λ i. (k.state i).turns) ∙ ended.0 ∙ t.turns ∙ sym long);
      running = λ some. absurd (omega (arith, none, some));
      current = λ some. absurd (omega (arith, none, some));
      last = some_last old.served.slot (state_of new).last ((λ i. (k.state i).last) ∙ ended.1 ∙ t.last) t.within;
      between = λ so. (λ i. is_in_turn (k.state i) (k.state i).last) ∙ ended_idle (state_of old) old.served.slot t.last;
      steps = omega (arith, told, all, before);
    }

-- the steps that are told, with those of the turn under way
steps_told : (r : LibraryRun) → steps_of (turns_so_far r) ≡ steps_of r.book.turns.items + made r.book
steps_told r = by_test (made r.book == 0) refl
  where
    by_test : (c : Bool) → (made r.book == 0) ≡ c →
        steps_of (if c then r.book.turns.items else r.book.turns.items ++ turn_of r.served.slot r.book.visible r.book.hidden ∷ []) ≡ steps_of
        r.book.turns.items + made r.book
    by_test true is = let none : made r.book ≡ 0 = none_made r is in omega arith
    by_test false is = steps_append r.book.turns.items (turn_of r.served.slot r.book.visible r.book.hidden)

pub steps_hold : {r m : LibraryRun} {disks : Around (Option Disk)} {n going : ℕ} {done : Progress} {bytes : List ℕ}
    (k : Makes r m disks n going done bytes) (after : LibraryRun) → CountsSteps m after going done → HasRoom after.book → HasStepsLeft after.book → Holds after
steps_hold {r = r} {m = m} {going = going} {done = done} k after counts room left =
    let told : r.book.steps ≡ steps_of r.book.turns.items + made r.book = k.before.holds.steps ∙ steps_told r in
    counted_holds _ m after (seen_with going done) (hidden_steps done) (some_steps going done) counts refl (record {
      turns = k.rest.turns ∙ turns_are k.before ∙ (λ i. vec_len (sym k.book i).turns + 1);
      last = k.rest.last ∙ last_is k.before ∙ ap (λ (x : ℕ). Some x) (sym k.slot);
      within = subst (λ (x : ℕ). x < NENV) (sym k.slot) k.before.chosen.within;
      steps = (λ i. (k.book i).steps) ∙ told ∙ (λ i. steps_of (sym k.book i).turns.items + made (sym k.book i));
    }) room left
