-- From a run of the kernel to the outcome.
use Rattle.std.proofs.Common.{◌≡◌, ℕ, ◌-◌, List, Option, Some, None, Ok, Err, refl, sym, ap, subst, ◌∙◌, arith}
use Rattle.jos_host.specs.declared.host.Failed.{Failed}
use Rattle.jos_host.specs.Frames.{from_to}
use Rattle.jos_host.specs.Gains.{GainsPart}
use Rattle.jos_base.specs.KernelState.{KernelState}
use Rattle.jos_kernel.specs.declared.report.End.{End}
use Rattle.jos_kernel.specs.declared.kernel.Kernel.{Kernel}
use Rattle.jos_kernel.specs.Reports.{Reported, CutOff}
use Rattle.jos_kernel.specs.Boot.{Loadable, booted}
use Rattle.jos_kernel.specs.ExoRun.{RunProgress, Ran, run_from, run_from_boot, before_steps, exo_run, report_of}
use Rattle.circular_buffer.specs.Buffer.{keep_last}
use Rattle.jos_kernel.specs.declared.trace.TrapLine.{TrapLine}
use Rattle.jos_kernel.specs.Kernel.{ToldSoFar, progress_of, nothing, and_told, Counts, IsRun}
use Rattle.jos_cli.specs.Answer.{ran, expected_of_run}
use Rattle.jos_cli.specs.Kinds.{answered, cut_off, AnswersBy, Answers}
use Rattle.jos_cli.specs.Stages.{outcome_of_run}
use Rattle.jos_cli.specs.declared.outcome.Outcome.TheVariants.{Limit}
use Rattle.jos_cli.specs.declared.outcome.Which.TheVariants.{Boot}
use Rattle.jos_kernel.specs.declared.kernel.BootFault.{BootFault}
use Rattle.jos_kernel.specs.declared.kernel.BootFault.TheVariants as boot_fault
use Rattle.jos_kernel.proofs.ToldBytes.{part_of_first, gains_none}

module _ (old new : Kernel) (steps kept : ℕ) (counts : Counts old (record nothing { kept = kept })) (fresh : old.book.steps ≡ 0) where
  abbrev whole : Ran
  whole = run_from old.book.schedule steps (progress_of old nothing)

  all_left : steps - old.book.steps ≡ steps
  all_left = omega (arith, fresh)

  pub on_ended : (end : End) (report : Reported) (trace : List TrapLine) (first now : Option (List ℕ)) →
      IsRun (Ok end) (steps - old.book.steps) (from_to old new) (from_to first now) → report ≡ report_of (progress_of new nothing) end →
      ((told : ToldSoFar) → Counts new told → trace ≡ keep_last told.kept told.traps) →
      AnswersBy (expected_of_run kept (Some whole)) (answered (ran report trace)) (from_to first now)
  on_ended end report trace first now h told last =
      let end_is = h.2 (record nothing { kept = kept }) counts in
      subst (λ (r : Ran). AnswersBy (expected_of_run kept (Some r)) (answered (ran report trace)) (from_to first now))
      (sym (ap (λ n. run_from old.book.schedule n (progress_of old nothing)) (sym all_left) ∙ end_is.1))
      (λ i. ran (told i) (last (and_told (record nothing { kept = kept }) h.0 end_is.0) end_is.2 i), h.1)

  pub on_failed : (failed : Failed) (stopped : CutOff) (first now : Option (List ℕ)) → IsRun (Err failed) (steps - old.book.steps) (from_to old new) (from_to first now) →
      AnswersBy (expected_of_run kept (Some whole)) (cut_off stopped) (from_to first now)
  on_failed failed stopped first now h =
      let more = h.2 (record nothing { kept = kept }) counts in
      subst (λ (bytes : List ℕ). GainsPart (from_to first now) bytes)
      (sym (ap (λ n. (run_from old.book.schedule n (progress_of old nothing)).progress.console) (sym all_left) ∙ more.1))
      (part_of_first first now h.0 h.0 more.0 refl h.1)

-- the run of images that were booted
pub run_booted : (images : List Loadable) (input schedule : List ℕ) (frames steps : ℕ) (state : KernelState) (numbers : List ℕ) (p : RunProgress) →
    booted images frames input ≡ Some state → numbers ≡ schedule → p ≡ before_steps state →
    exo_run images input schedule frames steps ≡ Some (run_from numbers steps p)
unfolding exo_run
run_booted images input schedule frames steps state numbers p b n e =
    ap (run_from_boot schedule steps) b ∙ (λ i. Some (run_from (sym n i) steps (sym e i)))

pub not_booted : (images : List Loadable) (input schedule : List ℕ) (frames steps : ℕ) → booted images frames input ≡ None →
    exo_run images input schedule frames steps ≡ None
unfolding exo_run
not_booted images input schedule frames steps b = ap (run_from_boot schedule steps) b

-- no kernel was booted
pub on_unbooted : (kept : ℕ) (images : List Loadable) (input schedule : List ℕ) (frames steps : ℕ) (fault : BootFault) (console : Option (List ℕ)) →
    (fault ≡ boot_fault.Pool → booted images frames input ≡ None) →
    Answers (expected_of_run kept (exo_run images input schedule frames steps)) (outcome_of_run (Err fault)) (from_to console console)
on_unbooted kept images input schedule frames steps boot_fault.Pool console none =
    subst (λ (r : Option Ran). Answers (expected_of_run kept r) (Limit Boot) (from_to console console))
    (sym (not_booted images input schedule frames steps (none refl))) (refl, gains_none console)
on_unbooted kept images input schedule frames steps boot_fault.NoMemory console none = refl
