use Rattle.std.proofs.Common.{◌≡◌, ◌∙◌, ◌<◌, ◌+◌, ◌-◌, ◌^◌, min, ◌==◌, ℕ, Bool, true, false, length, Option, Ok, Err, sym, subst, arith, vec_len}
use Rattle.std.specs.Prelude.{not, Result}
use Rattle.std.proofs.lemmas.Bool.Decides.{nat_tests}
use Rattle.jos_host.specs.declared.host.Failed.{Failed}
use Rattle.jos_host.specs.Files.{Files}
use Rattle.jos_host.specs.Frames.{Around, around, from_to}
use Rattle.jos_base.specs.Environments.{is_running}
use Rattle.jos_base.specs.KernelState.{slot_at}
use Rattle.jos_kernel.specs.Books.{noted, traced}
use Rattle.lib_os.specs.declared.progress.Progress.{Progress}
use Rattle.lib_os.specs.Disk.{Disk, DiskFile, HasBlocks}
use Rattle.lib_os.specs.MadeCalls.{TouchesDisk}
use Rattle.lib_os.specs.UserCalls.{Output}
use Rattle.lib_os.proofs.NeedReached.{need_is_reached}
use Rattle.jos_run.specs.declared.library_run.LibraryRun.{LibraryRun}
use Rattle.jos_run.specs.declared.steps.StepOutcome.{StepOutcome}
use Rattle.jos_run.specs.LibraryRuns.{visible_steps, hidden_steps}
use Rattle.jos_run.specs.DiskTouches.{TouchesDiskOnly}
use Rattle.jos_run.specs.Running.{state_of, entered, Counted, Went}
use Rattle.jos_run.specs.Served.{kernel_state}
use Rattle.jos_run.specs.ServerStands.{WouldFollow}
use Rattle.jos_run.specs.StepsAtOnce.{MakesSteps}
use Rattle.jos_run.specs.Worlds.{beside, told_disk}
use Rattle.jos_run.proofs.DiskKept.{only_step}
use Rattle.jos_run.proofs.Printed.{printed}
use Rattle.jos_run.proofs.StepsMade.{Makes, Reaches, reaches, CountsSteps, seen_with, all_steps, moved, went_all, failed_last, failed_quietly}
use Rattle.jos_run.proofs.TurnsCounted.{steps_hold}
use Rattle.jos_run.proofs.library_run.LibraryRun.advance.Given as given
use Rattle.jos_run.proofs.library_run.LibraryRun.advance.Goals as goal
use Rattle.jos_run.proofs.library_run.LibraryRun.advance.Goals.{After-make_steps-made, After-count_steps}

-- ---- what the steps have done

module _ (g : given.Over) (c : goal.After-make_steps-made g) where
  abbrev output_made : Output
  output_made =
      printed (around g.H.Host.console c.args.host.now c.make_steps-made.new.host) c.enter_turn.new.self.served.written
      c.make_steps-made.new.self.written

  abbrev files_before : Option Files
  files_before = g.H.Host.files c.args.host.now

  abbrev disk_before : Option Disk
  disk_before = told_disk files_before c.args.self.now.served.disk

  abbrev disk_behind : Option Disk
  disk_behind = told_disk (g.H.Host.files c.make_steps-made.new.host) c.make_steps-made.new.self.disk

  abbrev HasMade : Result StepOutcome Failed → Type 0
  HasMade last =
      MakesSteps c.args.slot c.make_steps-made.result.going last (beside (entered c.args.self.now c.args.slot) disk_before)
      (beside (kernel_state c.make_steps-made.new.self) disk_behind) output_made

  has_made : HasMade c.make_steps-made.result.last
  has_made =
      subst (λ (d : DiskFile). MakesSteps c.args.slot c.make_steps-made.result.going c.make_steps-made.result.last
      (beside (entered c.args.self.now c.args.slot) (told_disk files_before d)) (beside (kernel_state c.make_steps-made.new.self) disk_behind) output_made)
      c.enter_turn.ensures.disk
      (moved (λ n s. MakesSteps n c.make_steps-made.result.going c.make_steps-made.result.last
      (beside s (told_disk files_before c.enter_turn.new.self.served.disk)) (beside (kernel_state c.make_steps-made.new.self) disk_behind)
      output_made) c.enter_turn.ensures.slot c.enter_turn.ensures.state c.make_steps-made.ensures.made)

  abbrev before_last : (last : Result StepOutcome Failed) → HasMade last → Reaches c.args.self.now c.args.slot c.make_steps-made.result.going
  before_last last b =
      let within : c.make_steps-made.result.going < c.min-most.result = c.make_steps-made.ensures.within in
      reaches c.requires.holds c.requires.chosen (omega (arith, within, c.min-most.ensures, c.steps_left-left_of_turn.ensures.exact))
      ((λ i. is_running (slot_at (sym c.enter_turn.ensures.state i) c.args.slot).status) ∙ c.enter_turn.ensures.running) b

  -- so much is touched of the host's files
  touched : TouchesDiskOnly c.args.self.now.served.disk (from_to files_before (g.H.Host.files c.make_steps-made.new.host))
      (from_to (g.H.Host.asked c.args.host.now) (g.H.Host.asked c.make_steps-made.new.host))
  touched =
      only_step c.args.self.now.served.disk (from_to files_before (g.H.Host.files c.make_steps-made.new.host))
      (from_to (g.H.Host.asked c.args.host.now) (g.H.Host.asked c.make_steps-made.new.host)) c.requires.whole
      (subst (λ (d : DiskFile). TouchesDisk d (from_to files_before (g.H.Host.files c.make_steps-made.new.host))
      (from_to (g.H.Host.asked c.args.host.now) (g.H.Host.asked c.make_steps-made.new.host))) c.enter_turn.ensures.disk c.make_steps-made.ensures.disk_only)

-- ---- the disk

pub make_steps-made-requires-clause-whole : goal.make_steps-made-requires-clause-whole
make_steps-made-requires-clause-whole g c =
    subst (λ (d : DiskFile). HasBlocks (g.H.Host.files c.args.host.now) d) (sym c.enter_turn.ensures.disk) c.requires.whole

pub returns-in-Ok-clause-disk : goal.returns-in-Ok-clause-disk
returns-in-Ok-clause-disk g c = c.count_steps.ensures.counted.disk ∙ c.make_steps-made.ensures.disk ∙ c.enter_turn.ensures.disk

pub returns-in-Ok-clause-disk_only : goal.returns-in-Ok-clause-disk_only
returns-in-Ok-clause-disk_only g c = touched g (goal.at.returns-in-Ok-clause-disk_only g c).After-make_steps-made

pub returns-then-slot-eq0-clause-disk_only : goal.returns-then-slot-eq0-clause-disk_only
returns-then-slot-eq0-clause-disk_only g c = touched g (goal.at.returns-then-slot-eq0-clause-disk_only g c).After-make_steps-made

pub returns-else-slot-eq0-clause-disk_only : goal.returns-else-slot-eq0-clause-disk_only
returns-else-slot-eq0-clause-disk_only g c = touched g (goal.at.returns-else-slot-eq0-clause-disk_only g c).After-make_steps-made

-- ---- they are counted

-- the run whose steps are counted
abbrev behind : (g : given.Over) (c : goal.After-count_steps g) → LibraryRun
behind g c = record { served = c.make_steps-made.new.self; decodings = c.make_steps-made.new.decodings; book = c.keep_trap.new.self }

abbrev made_so : (g : given.Over) (c : goal.After-count_steps g) → goal.After-make_steps-made g
made_so g c = (goal.at.After-count_steps g c).After-make_steps-made

made_ok : (g : given.Over) (c : goal.After-count_steps g) → HasMade g (made_so g c) (Ok c.in-Ok.stepped)
made_ok g c = subst (λ (last : Result StepOutcome Failed). HasMade g (made_so g c) last) c.in-Ok.is (has_made g (made_so g c))

abbrev disks : (g : given.Over) (c : goal.After-count_steps g) → Around (Option Disk)
disks g c = from_to (disk_before g (made_so g c)) (disk_behind g (made_so g c))

makes : (g : given.Over) (c : goal.After-count_steps g) →
    Makes c.args.self.now (behind g c) (disks g c) c.args.slot c.make_steps-made.result.going c.in-Ok.stepped.progress (made_ok g c).step.0
makes g c =
    let b = made_ok g c in
    let trap = c.in-Ok.stepped.trap in
    let before = c.enter_turn.ensures in
    let so_far : c.written-printed.result ≡ c.args.self.now.served.written = c.written-printed.ensures ∙ before.written in
    let now : c.refused.result ≡ (state_of (behind g c)).refusals = c.refused.ensures in
    let stood : c.refused-refusals.result ≡ (entered c.args.self.now c.args.slot).refusals =
    c.refused-refusals.ensures ∙ (λ i. (before.state i).refusals) in
    record {
      before = before_last g (made_so g c) (Ok c.in-Ok.stepped) b;
      keeps = b.step.2;
      rest = b.rest;
      leaves = b.leaves;
      trap = trap;
      raises = b.raises;
      slot = c.make_steps-made.ensures.slot ∙ before.slot;
      written = b.step.1.counted ∙ (λ i. min (before.written i + length b.step.0) (2 ^ 64 - 1));
      disk = c.make_steps-made.ensures.disk ∙ before.disk;
      book = c.keep_trap.ensures
          ∙ (λ i. record (c.note_refusal.ensures i) { trace = traced (c.note_refusal.ensures i).trace trap })
          ∙ (λ i. record (before.rest i).book {
            trace = traced (before.rest i).book.trace trap;
            first_refused = noted (before.rest i).book.first_refused (not (now i == stood i)) (vec_len (before.rest i).book.turns) (so_far i);
          });
    }

counts : (g : given.Over) (c : goal.After-count_steps g) →
    CountsSteps (behind g c) c.count_steps.new.self c.make_steps-made.result.going c.in-Ok.stepped.progress
counts g c =
    subst (λ (n : ℕ). Counted (behind g c) c.count_steps.new.self (seen_with c.make_steps-made.result.going c.in-Ok.stepped.progress) n)
    c.hidden_steps-hidden.ensures
    (subst (λ (n : ℕ). Counted (behind g c) c.count_steps.new.self (c.make_steps-made.result.going + n) c.hidden_steps-hidden.result)
    c.visible_steps.ensures c.count_steps.ensures.counted)

-- as many steps are counted as were made
all_counted : (going : ℕ) (done : Progress) (visible hidden : ℕ) → visible ≡ visible_steps done → hidden ≡ hidden_steps done →
    (going + visible) + hidden ≡ going + 1
all_counted going done visible hidden v h = (λ i. (going + v i) + h i) ∙ all_steps going done

pub count_steps-requires-clause-steps : goal.count_steps-requires-clause-steps
count_steps-requires-clause-steps g c =
    let all = all_counted c.make_steps-made.result.going _ _ _ c.visible_steps.ensures c.hidden_steps-hidden.ensures in
    let within : c.make_steps-made.result.going < c.min-most.result = c.make_steps-made.ensures.within in
    let steps : c.keep_trap.new.self.steps ≡ c.args.self.now.book.steps =
    (λ i. (c.keep_trap.ensures i).steps) ∙ (λ i. (c.note_refusal.ensures i).steps) ∙ (λ i. (c.enter_turn.ensures.rest i).book.steps) in
    omega (arith, all, steps, within, c.min-most.ensures, c.requires.steps)

pub count_steps-requires-clause-within : goal.count_steps-requires-clause-within
count_steps-requires-clause-within g c =
    let all = all_counted c.make_steps-made.result.going _ _ _ c.visible_steps.ensures c.hidden_steps-hidden.ensures in
    let within : c.make_steps-made.result.going < c.min-most.result = c.make_steps-made.ensures.within in
    omega (arith, all, within, c.min-most.ensures)

pub returns-in-Ok-clause-told : goal.returns-in-Ok-clause-told
returns-in-Ok-clause-told g c =
    let at = (goal.at.returns-in-Ok-clause-told g c).After-count_steps in
    let within : c.make_steps-made.result.going < c.min-most.result = c.make_steps-made.ensures.within in (
      omega arith,
      omega (arith, within, c.min-most.ensures),
      subst (λ (d : DiskFile). Went (c.make_steps-made.result.going + 1) (from_to c.args.self.now c.count_steps.new.self)
          (from_to (disk_before g (made_so g at)) (told_disk (g.H.Host.files c.make_steps-made.new.host) d))
          (around g.H.Host.console c.args.host.now c.make_steps-made.new.host)) (sym c.count_steps.ensures.counted.disk)
          (went_all (makes g at) need_is_reached c.count_steps.new.self _ (counts g at) (made_ok g at).step.1.gains),
    )

pub returns-in-Ok-clause-holds : goal.returns-in-Ok-clause-holds
returns-in-Ok-clause-holds g c =
    let at = (goal.at.returns-in-Ok-clause-holds g c).After-count_steps in
    steps_hold (makes g at) c.count_steps.new.self (counts g at) c.count_steps.ensures.room c.count_steps.ensures.left

-- ---- or the host failed in the last

-- in a step of the file server, which is told as a hidden one
pub returns-then-slot-eq0-clause-told : goal.returns-then-slot-eq0-clause-told
returns-then-slot-eq0-clause-told g c =
    let at = (goal.at.returns-then-slot-eq0-clause-told g c).After-make_steps-made in
    let before = c.enter_turn.ensures in
    let b = subst (λ (last : Result StepOutcome Failed). HasMade g at last) c.in-Err.is (has_made g at) in
    let is_first = c.if-slot-eq0.true in
    let first : (c.args.slot == 0) ≡ true = grind (arith, nat_tests, is_first) in
    let zero : c.args.slot ≡ 0 = grind (arith, nat_tests, is_first) in
    failed_quietly (record {
      before = before_last g at (Err c.in-Err.failed) b;
      none = λ a stands. subst (λ (t : Bool). WouldFollow t c.args.slot a b.step.0) first (b.step.2 a stands (λ other. absurd (other zero)));
      slot = c.make_steps-made.ensures.slot ∙ before.slot;
      book = λ i. (before.rest i).book;
      counts = c.count_steps-then-slot-eq0.ensures.counted;
    }) _ _ b.step.1

-- or in one of another
pub returns-else-slot-eq0-clause-told : goal.returns-else-slot-eq0-clause-told
returns-else-slot-eq0-clause-told g c =
    let at = (goal.at.returns-else-slot-eq0-clause-told g c).After-make_steps-made in
    let before = c.enter_turn.ensures in
    let b = subst (λ (last : Result StepOutcome Failed). HasMade g at last) c.in-Err.is (has_made g at) in
    let no_first = c.if-slot-eq0.false in
    let other : (c.args.slot == 0) ≡ false = grind (arith, nat_tests, no_first) in
    failed_last (record {
      before = before_last g at (Err c.in-Err.failed) b;
      would = λ a stands may. subst (λ (t : Bool). WouldFollow t c.args.slot a b.step.0) other (b.step.2 a stands may);
      slot = c.make_steps-made.ensures.slot ∙ before.slot;
      book = c.tell_failed_steps.ensures
          ∙ (λ i. record (before.rest i).book { visible = (before.rest i).book.visible + (c.make_steps-made.result.going + 1) });
    }) _ _ b.step.1
