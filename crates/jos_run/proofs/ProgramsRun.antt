-- A program that is booted runs, and what is told of its run is so.
use Rattle.std.proofs.Common.{◌≡◌, ◌∙◌, ℕ, List, [], Option, Some, None, Ok, Err, refl, sym, subst}
use Rattle.std.specs.Prelude.{IsSome}
use Rattle.circular_buffer.specs.Buffer.{buffer}
use Rattle.jos_host.specs.declared.host.Failed.{Failed}
use Rattle.jos_host.specs.Frames.{Around, from_to}
use Rattle.jos_base.specs.KernelState.{KernelState}
use Rattle.jos_elf.specs.Parsed.{Layout}
use Rattle.jos_kernel.specs.declared.kernel.BootFault.{BootFault}
use Rattle.jos_kernel.specs.declared.kernel.BootFault.TheVariants.{Pool, NoMemory}
use Rattle.jos_kernel.specs.declared.report.End.{End}
use Rattle.jos_kernel.specs.declared.trace.TrapLine.{TrapLine}
use Rattle.jos_kernel.specs.Books.{HasRoom}
use Rattle.jos_kernel.specs.Reports.{Reported, CutOff}
use Rattle.fs_layout.specs.FileTree.{FileSystem}
use Rattle.lib_os.specs.AbstractState.{AbstractState}
use Rattle.lib_os.specs.Disk.{Disk}
use Rattle.jos_run.specs.declared.library_run.LibraryRun.{LibraryRun}
use Rattle.jos_run.specs.declared.programs.Setup.{Setup}
use Rattle.jos_run.specs.Boot.{booted_within}
use Rattle.jos_run.specs.declared.programs.RunEnd.{RunEnd}
use Rattle.jos_run.specs.declared.programs.RunEnd.TheVariants.{Ended, HostFault}
use Rattle.jos_run.specs.RunEnds.{Job, AnswersFor, BeginsWith, CanBegin, IsEndOf, RunsFrom, begun, given_job}
use Rattle.jos_run.specs.Closing.{ClosesRun, IsClosedSo, IsCutClosing}
use Rattle.jos_run.specs.ServerStands.{StandsWhole}
use Rattle.jos_run.specs.Start.{HoldsFiles, start_state}
use Rattle.jos_run.specs.RunReports.{IsTold, IsToldCutOff}
use Rattle.jos_run.specs.RunSteps.{HasGone}
use Rattle.jos_run.specs.Running.{state_of, turns_so_far, Holds, Runs, HasRunToEnd, report_of, cut_off_of}
use Rattle.jos_run.specs.Worlds.{World, beside}
use Rattle.jos_run.proofs.RunEnds.{closed_cut_off, closed_whole, told_cut_off}

pub ended_told : {budget : ℕ} {r t : LibraryRun} {d e : Option Disk} {a b : Option (List ℕ)} (f : Option Disk) (c : Option (List ℕ)) (end : End) (report : Reported) (setup : Setup)
    (s : KernelState) (traps : List TrapLine) (result : RunEnd) → HasRunToEnd budget (Ok end) (from_to r t) (from_to d e) (from_to a b) →
    budget ≡ setup.budget → r.book.steps ≡ 0 → r.book.trace ≡ buffer [] setup.trace → turns_so_far r ≡ [] → Holds t → r.book.schedule ≡ setup.schedule →
    report ≡ report_of t end → traps ≡ t.book.trace.items → state_of r ≡ s →
    ((first : AbstractState) → StandsWhole (beside (state_of r) d) first → Runs first setup.frames d r []) →
    IsClosedSo report traps result t.served (from_to e f) (from_to b c) → RunsFrom s setup result (from_to d f) (from_to a c)
ended_told {budget = budget} {r = r} {t = t} {d = d} {e = e} {a = a} {b = b} f c end report setup s traps (Ended closed trace) ran same none
    empty no_turns holds scheduled reported kept begun_so h k =
    let turned = beside (state_of t) e in
    let last = beside k.0 f in
    let closes = subst (λ (x : Reported). ClosesRun x closed t.served (from_to e f) (from_to b c) last) reported k.1 in
    let told = closed_whole end setup.trace ran none empty no_turns holds closed last closes setup.frames h in (
      told.0,
      turned,
      k.0,
      told.1,
      subst (λ (n : ℕ). IsTold setup.schedule (StandsWhole (beside s d)) setup.frames n closed told.0 turned last) same
          (subst (λ (x : KernelState). IsTold setup.schedule (StandsWhole (beside x d)) setup.frames budget closed told.0 turned last) begun_so
          (subst (λ (numbers : List ℕ). IsTold numbers (StandsWhole (beside (state_of r) d)) setup.frames budget closed told.0 turned last) scheduled
          told.2)),
      subst (λ (n : ℕ). HasGone (beside s d) turned last n setup.trace closed trace.items told.0) same
          (subst (λ (x : KernelState). HasGone (beside x d) turned last budget setup.trace closed trace.items told.0) begun_so
          (subst (λ (l : List TrapLine). HasGone (beside (state_of r) d) turned last budget setup.trace closed l told.0) (sym (k.2 ∙ kept)) told.3)),
    )
ended_told {budget = budget} {r = r} {t = t} {d = d} {e = e} {a = a} {b = b} f c end report setup s traps (HostFault cut) ran same none
    empty no_turns holds scheduled reported kept begun_so h k =
    let cuts = subst (λ (x : Reported). IsCutClosing x cut t.served (from_to e f) (from_to b c)) reported k in
    subst (λ (x : KernelState). IsToldCutOff setup.schedule (StandsWhole (beside x d)) setup.frames cut (from_to a c)) begun_so
    (subst (λ (numbers : List ℕ). IsToldCutOff numbers (StandsWhole (beside (state_of r) d)) setup.frames cut (from_to a c)) scheduled
    (closed_cut_off end ran holds.has_room cut cuts setup.frames h))

pub failed_told : {r t : LibraryRun} {d e : Option Disk} {a b : Option (List ℕ)} (budget : ℕ) (failed : Failed) (cut : CutOff) (schedule : List ℕ)
    (s : KernelState) → HasRunToEnd budget (Err failed) (from_to r t) (from_to d e) (from_to a b) → HasRoom t.book → r.book.schedule ≡ schedule →
    cut ≡ cut_off_of t → state_of r ≡ s → (frames : ℕ) →
    ((first : AbstractState) → StandsWhole (beside (state_of r) d) first → Runs first frames d r []) →
    IsToldCutOff schedule (StandsWhole (beside s d)) frames cut (from_to a b)
failed_told {r = r} {d = d} {a = a} {b = b} budget failed cut schedule s ran room scheduled cut_is begun frames h =
    subst (λ (k : KernelState). IsToldCutOff schedule (StandsWhole (beside k d)) frames cut (from_to a b)) begun
    (subst (λ (numbers : List ℕ). IsToldCutOff numbers (StandsWhole (beside (state_of r) d)) frames cut (from_to a b)) scheduled
    (subst (λ (x : CutOff). IsToldCutOff r.book.schedule (StandsWhole (beside (state_of r) d)) frames x (from_to a b)) (sym cut_is)
    (told_cut_off ran room frames h)))

-- ---- what it begins with

-- what is told from each abstract state on with which a run may begin is told from fewer
told_of : {schedule : List ℕ} {Begins These : AbstractState → Type 0} {frames budget : ℕ} {report : Reported} {printed : List ℕ} {turned last : World} →
    ((first : AbstractState) → These first → Begins first) → IsTold schedule Begins frames budget report printed turned last →
    IsTold schedule These frames budget report printed turned last
told_of fewer told = record {
  steps = told.steps;
  within = told.within;
  spent = told.spent;
  most = told.most;
  closing = told.closing;
  by_refusal = λ first begins. told.by_refusal first (fewer first begins);
}

cut_off_told_of : (schedule : List ℕ) (Begins These : AbstractState → Type 0) (frames : ℕ) (cut : CutOff) (console : Around (Option (List ℕ))) →
    ((first : AbstractState) → These first → Begins first) → IsToldCutOff schedule Begins frames cut console →
    IsToldCutOff schedule These frames cut console
cut_off_told_of schedule Begins These frames cut console fewer told = (told.0, told.1, (λ first begins. told.2 first (fewer first begins)), told.3)

-- so `run` answers what it has to
module _ (setup : Setup) (image : Layout) (file : List ℕ) (words : List (List ℕ)) (disks : Around (Option Disk)) (console : Around (Option (List ℕ)))
    (s : KernelState) (booted : booted_within image file words setup.frames setup.input.items ≡ Some s)
    (stands : (d : Disk) (files : FileSystem) → HoldsFiles d files → StandsWhole (beside s (Some d)) (start_state image file words setup.input.items files))
  where
    can_begin : CanBegin (given_job image file words setup)
    can_begin = subst (λ (o : Option KernelState). IsSome o) (sym booted) refl

    begins_so : (first : AbstractState) → BeginsWith (given_job image file words setup) disks.before first → StandsWhole (beside s disks.before) first
    begins_so first h =
        subst (λ (a : AbstractState). StandsWhole (beside s disks.before) a) (sym h.starts)
        (subst (λ (o : Option Disk). StandsWhole (beside s o) (start_state image file words setup.input.items h.files)) (sym h.is)
        (stands h.told h.files h.holds))

    pub booted_answers : (end : RunEnd) → RunsFrom s setup end disks console → IsEndOf (given_job image file words setup) end disks console
    booted_answers (Ended report trace) runs = (can_begin, (runs.0, runs.1, runs.2, runs.3, told_of begins_so runs.4, (s, booted, runs.5)))
    booted_answers (HostFault cut) runs = (
      can_begin,
      cut_off_told_of setup.schedule (StandsWhole (beside s disks.before)) (BeginsWith (given_job image file words setup) disks.before) setup.frames cut
          console begins_so runs,
    )

-- and where none was booted
pub unbooted_answers : (p : Job) (fault : BootFault) (disks : Around (Option Disk)) (console : Option (List ℕ)) → (fault ≡ Pool → begun p ≡ None) →
    AnswersFor p (Err fault) disks (from_to console console)
unbooted_answers p Pool disks console none = (none refl, refl)
unbooted_answers p NoMemory disks console none = refl
