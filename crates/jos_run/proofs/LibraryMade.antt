-- A step of the library, of a service or of the handler of page faults, is made alone: no instruction goes before it. So is a step of the file
-- server.
use Rattle.std.proofs.Common.{◌≡◌, ℕ, Bool, true, false, Option, None, Result, Ok, Err, refl, sym, subst, arith}
use Rattle.std.specs.Prelude.{IfOk, OnOk}
use Rattle.jos_host.specs.declared.host.Failed.{Failed}
use Rattle.jos_host.specs.Files.{Files}
use Rattle.jos_host.specs.Frames.{Around, from_to}
use Rattle.jos_base.specs.KernelState.{KernelState, slot_at}
use Rattle.jos_kernel.specs.declared.trace.TrapLine.{TrapLine}
use Rattle.lib_os.specs.declared.progress.Progress.{Progress}
use Rattle.lib_os.specs.Disk.{Disk, DiskFile}
use Rattle.lib_os.specs.MadeCalls.{MakesServersCall}
use Rattle.lib_os.specs.LibrarySteps.{HasCounts, IsLibraryStep, Leaves, LeavesRest, Lowers, GivesUp, TakesByPlace}
use Rattle.lib_os.specs.Places.{place_of}
use Rattle.lib_os.specs.UserCalls.{Output}
use Rattle.jos_run.specs.declared.steps.StepOutcome.{StepOutcome}
use Rattle.jos_run.specs.ServerStands.{IsWholeStep, LeavesServed}
use Rattle.jos_run.specs.Steps.{LeavesAs, Raises, RaisesAs, is_awake, is_servers, step_progress}
use Rattle.jos_run.specs.StepsAtOnce.{MakesSteps}
use Rattle.jos_run.specs.Worlds.{World, beside}
use Rattle.jos_run.proofs.ServerLeavings.{server_call_leaves}
use Rattle.jos_run.proofs.ProgramSteps.{leaves_as, raises_as, running_step, whole_step}
use Rattle.jos_run.proofs.RequestsCalm.{RequestsCalmly}

-- ---- a step alone, by what it has come to

module _ (v w : World) (n : ℕ) (output : Output) (did : Result Progress Failed) (trap : Option TrapLine)
    (raised : RaisesAs (is_servers v.state n) n v.state trap w.state) where
  abbrev s : KernelState
  s = v.state

  abbrev after : KernelState
  after = w.state

  raises_it : (last : Result StepOutcome Failed) → IfOk last (λ stepped. stepped.trap ≡ trap) →
      IfOk last (λ stepped. RaisesAs (is_servers s n) n s stepped.trap after)
  raises_it (Ok stepped) told = subst (λ (t : Option TrapLine). RaisesAs (is_servers s n) n s t after) (sym told) raised
  raises_it (Err failed) told = tt

  rest_it : (last : Result StepOutcome Failed) → step_progress last ≡ did → IfOk did (λ done. LeavesRest s after) →
      IfOk last (λ stepped. LeavesRest s after)
  rest_it (Ok stepped) told rest = subst (λ (r : Result Progress Failed). IfOk r (λ done. LeavesRest s after)) (sym told) rest
  rest_it (Err failed) told rest = tt

  made_alone : (last : Result StepOutcome Failed) → step_progress last ≡ did → IfOk last (λ stepped. stepped.trap ≡ trap) →
      IsWholeStep did n v w output → IfOk did (λ done. LeavesRest s after) → LeavesAs (is_servers s n) v.disk did n s after →
      MakesSteps n 0 last v w output
  made_alone last told with_trap step rest leaves = record {
    reached = s;
    went = refl;
    is_guest = λ some. absurd (omega (arith, some));
    step = subst (λ (r : Result Progress Failed). IsWholeStep r n v w output) (sym told) step;
    rest = rest_it last told rest;
    leaves = subst (λ (r : Result Progress Failed). LeavesAs (is_servers s n) v.disk r n s after) (sym told) leaves;
    raises = raises_it last with_trap;
  }

-- ---- of the library

module _ (disk : Option Disk) (s after : KernelState) (n : ℕ) (output : Output) (user : is_servers s n ≡ false) (awake : is_awake (slot_at s n).status ≡ true)
    (trap : Option TrapLine) (raised : Raises (place_of (slot_at s n)) n s trap after) where
  step_rest : (did : Result Progress Failed) → Leaves did n s after → IfOk did (λ done. LeavesRest s after)
  step_rest (Ok done) leaves = leaves.rest
  step_rest (Err failed) leaves = tt

  pub library_made : HasCounts s n → (did : Result Progress Failed) (last : Result StepOutcome Failed) → step_progress last ≡ did →
      IfOk last (λ stepped. stepped.trap ≡ trap) → IsLibraryStep did n s after output → Leaves did n s after → Lowers did n s after →
      GivesUp did (slot_at s n) (slot_at after n) → IfOk did (λ done. TakesByPlace n s after) → IfOk did (λ done. RequestsCalmly n s after) →
      MakesSteps n 0 last (beside s disk) (beside after disk) output
  library_made words did last told with_trap step leaves lowers gives_up takes calm =
      made_alone (beside s disk) (beside after disk) n output did trap (raises_as (is_servers s n) s after n trap user raised) last told with_trap
      (whole_step disk s after n output user awake did leaves calm (running_step s after n output words did step))
      (step_rest did leaves)
      (leaves_as (is_servers s n) disk did s after n user (record { each = leaves; lowers = lowers; gives_up = gives_up; takes = takes }))

-- ---- of the file server

module _ (before behind : Option Disk) (s after : KernelState) (n : ℕ) (output : Output) (server : is_servers s n ≡ true) where
  raises_none : RaisesAs (is_servers s n) n s None after
  raises_none = by_test (is_servers s n) server
    where
      by_test : (c : Bool) → c ≡ true → RaisesAs c n s None after
      by_test true is = refl
      by_test false is = absurd (let contradiction : false ≡ true = is in cc)

  served_as : (did : Result Progress Failed) → (n ≡ 0 → LeavesServed before did s after) → LeavesAs (is_servers s n) before did n s after
  served_as did served = by_test (is_servers s n) server
    where
      by_test : (c : Bool) → c ≡ true → LeavesAs c before did n s after
      by_test true is = served
      by_test false is = absurd (let contradiction : false ≡ true = is in cc)

  -- what its call leaves, in whatever slot it stands
  pub server_rest : (did : Result Progress Failed) (disk : DiskFile) (files : Around (Option Files)) →
      OnOk did (MakesServersCall (from_to s after) n disk files output) → IfOk did (λ done. LeavesRest s after)
  server_rest (Ok done) disk files made = (server_call_leaves s n made.call made.own after disk files output made.makes).rest
  server_rest (Err failed) disk files made = tt

  pub server_made : (did : Result Progress Failed) (last : Result StepOutcome Failed) → step_progress last ≡ did →
      IfOk last (λ stepped. stepped.trap ≡ None) → IsWholeStep did n (beside s before) (beside after behind) output →
      IfOk did (λ done. LeavesRest s after) → (n ≡ 0 → LeavesServed before did s after) → MakesSteps n 0 last (beside s before) (beside after behind) output
  server_made did last told no_trap step rest served =
      made_alone (beside s before) (beside after behind) n output did None raises_none last told no_trap step rest (served_as did served)
