-- A step of the file server, where it has a request whose act is not made, leads nearer to that act: each call that it makes there lowers how many of
-- its own steps may come, where nothing is refused.
use Rattle.std.proofs.Common.{◌≡◌, ◌≢◌, ◌∙◌, ◌⊎◌, inl, inr, ℕ, true, false, Option, Some, None, Result, Ok, Err, OnOk, refl, sym, ap, subst, arith}
use Rattle.jos_host.specs.declared.host.Failed.{Failed}
use Rattle.jos_host.specs.Files.{Files}
use Rattle.jos_host.specs.Frames.{Around, from_to}
use Rattle.jos_base.specs.declared.environment.Status.TheVariants.{NotRunnable}
use Rattle.jos_base.specs.KernelState.{KernelState, slot_at}
use Rattle.lib_os.specs.declared.progress.Progress.{Progress}
use Rattle.lib_os.specs.declared.progress.Progress.TheVariants as progress
use Rattle.lib_os.specs.AbstractState.{AbstractState, idle}
use Rattle.lib_os.specs.Disk.{Disk, DiskFile, disk_in}
use Rattle.lib_os.specs.InOrder.{IsInOrder}
use Rattle.lib_os.specs.LibrarySteps.{NothingRefused, Stands}
use Rattle.lib_os.specs.MadeCalls.{MakesServersCall}
use Rattle.lib_os.specs.UserCalls.{Output}
use Rattle.fs_requests.specs.declared.plan.ServerAsk.{ServerAsk}
use Rattle.fs_requests.specs.declared.state.ServerState.{ServerState}
use Rattle.fs_requests.specs.declared.state.ServerStep.{ServerStep}
use Rattle.fs_requests.specs.declared.state.ServerStep.TheVariants as step
use Rattle.fs_requests.specs.ServerPlans.{ask_for, call_for}
use Rattle.fs_server.specs.ServerSteps.{HasCalled, Serves, ServesBy, WorksQuietly, WorksWhereTold, server_at}
use Rattle.fs_serving.specs.ServerRuns.{is_acting, is_serving}
use Rattle.fs_seen.specs.BlockSteps.{LacksBlock}
use Rattle.fs_seen.specs.ServerMemory.{HasWords}
use Rattle.fs_seen.specs.ServerSees.{AllStands, LacksPage, is_working, makes_call}
use Rattle.fs_seen.specs.ServerSoon.{ActsWithin, Sooner}
use Rattle.fs_seen.proofs.ActsSoon.{calls_act_soon, flushes_act_soon, jobs_act_soon}
use Rattle.fs_seen.proofs.JobsServed.{jobs_are_lawful}
use Rattle.jos_run.specs.Closing.{ActsSooner, ActsWithinOver, SoonerOver}
use Rattle.jos_run.specs.ServerStands.{ServesOver, StandsWhole, step_of}
use Rattle.jos_run.specs.Worlds.{beside, told_disk, world_of}
use Rattle.jos_run.proofs.CallNexts.{calls_it}
use Rattle.jos_run.proofs.ServerNow.{StandsNow, calling, flushing, pausing, receiving, releasing, replying, stands_now, working}
use Rattle.jos_run.proofs.ServerStepped.{acting_not_idle, all_stand, stands_serving}

module _ (disk : DiskFile) (before after : KernelState) (files : Around (Option Files)) (output : Output) where
  abbrev state : ServerState
  state = server_at before 0

  -- what is asked at a step
  asked : (done : Progress) (x : ServerStep) → state.step ≡ x → Serves (Ok done) disk 0 (from_to before after) files output →
      ServesBy (ask_for state x) state (Ok done) disk 0 (from_to before after) files output
  asked done x at serves = subst (λ (y : ServerStep). ServesBy (ask_for state y) state (Ok done) disk 0 (from_to before after) files output) at serves

  module _ (f : Files) (told : files.before ≡ Some f) (a : AbstractState) (whole : StandsWhole (beside before (Some (disk_in f disk))) a)
      (words : HasWords before 0) (order : IsInOrder after) (nothing : NothingRefused before after) (most : ℕ)
      (within : ActsWithin most (disk_in f disk) before 0 a) (done : Progress) where
    abbrev d : Disk
    d = disk_in f disk

    abbrev Comes : Type 0
    Comes = (now : Files) × (files.after ≡ Some now) × Sooner most done (disk_in now disk) after a

    module _ (acts : is_acting a.server ≡ true) where
      other : a.server ≢ idle
      other = acting_not_idle disk before after files output d a whole words acts

      all : AllStands d before 0
      all = all_stand disk before after files output d a whole words acts

      -- by a call of its own
      call_sooner : makes_call state.step ≡ true → HasCalled (call_for state state.step) state before after 0 output done → files.after ≡ files.before → Comes
      call_sooner makes called same = (
        f,
        same ∙ told,
        by_soon (calls_act_soon most a d before after output done makes all within other order called),
      )
        where
          by_soon : Sooner most done d after a ⊎ ((state.step ≡ step.TakingPage) × LacksPage d before after 0 done) → Sooner most done d after a
          by_soon (inl soon) = soon
          by_soon (inr (taking, lacks)) = absurd (let more = lacks.counted nothing.could in let same = nothing.stays in omega (arith, more, same))

      -- by a step of its job
      job_sooner : is_working state.step ≡ true → MakesServersCall (from_to before after) 0 disk files output →
          WorksWhereTold state (Ok done) disk 0 (from_to before after) files → Comes
      job_sooner on made works =
          let tree = jobs_are_lawful a d before 0 on whole.1.serving.requested all
          (stands_serving disk before after files output d a whole words other) in
          let came = works f told tree.0 tree.1 in (
            came.0,
            came.1,
            by_soon came.0 (jobs_act_soon most a disk f came.0 before after files output done on all within other order told came.1 made came.2),
          )
        where
          by_soon : (now : Files) → Sooner most done (disk_in now disk) after a ⊎ LacksBlock d (disk_in now disk) before after 0 done →
              Sooner most done (disk_in now disk) after a
          by_soon now (inl soon) = soon
          by_soon now (inr lacks) = absurd (let more = lacks.counted nothing.could in let same = nothing.stays in omega (arith, more, same))

    -- a step at which it serves nobody
    serves_none : {X : Type 0} (x : ServerStep) → step_of (slot_at before 0) ≡ x → is_serving (step_of (slot_at before 0)) ≡ true →
        is_serving x ≡ false → X
    serves_none x at serves_now none =
        absurd (let contradiction : false ≡ true = sym none ∙ sym (ap (λ (y : ServerStep). is_serving y) at) ∙ serves_now in cc)

    work_asked : (x : ServerStep) → is_working x ≡ true → ServesBy (ask_for state x) state (Ok done) disk 0 (from_to before after) files output →
        WorksWhereTold state (Ok done) disk 0 (from_to before after) files × WorksQuietly (Ok done) disk 0 before files.before output
    work_asked step.Working works serves = serves
    work_asked step.Finding works serves = serves
    work_asked step.Sizing works serves = serves
    work_asked _ works serves = absurd (let contradiction : false ≡ true = works in cc)

    comes_sooner : StandsNow before a → is_serving (step_of (slot_at before 0)) ≡ true → Serves (Ok done) disk 0 (from_to before after) files output →
        MakesServersCall (from_to before after) 0 disk files output → Comes
    comes_sooner (releasing server at) on serves made = serves_none step.Releasing at on refl
    comes_sooner (receiving server at) on serves made = serves_none step.Receiving at on refl
    comes_sooner (calling acts makes) on serves made =
        let it = subst (λ (y : ServerAsk). ServesBy y state (Ok done) disk 0 (from_to before after) files output) (calls_it state state.step makes) serves in
        call_sooner acts makes it.0 it.1
    comes_sooner (working acts works) on serves made =
        let it = work_asked state.step works serves in job_sooner acts works made it.0
    comes_sooner (flushing client server at) on serves made =
        let acts : is_acting a.server ≡ true = ap is_acting server in
        flushes_act_soon most a disk f before after files output done at (all acts) within (other acts) order told (asked done step.Flushing at serves)
    comes_sooner (replying client answer bytes object server at) on serves made = serves_none step.Replying at on refl
    comes_sooner (pausing client answer bytes object server at) on serves made = serves_none step.Pausing at on refl

  -- over the disk that is told
  told_sooner : (done : Progress) (most : ℕ) (e : Disk) (a : AbstractState) → Sooner most done e after a → SoonerOver most done (beside after (Some e)) a
  told_sooner progress.Hidden most e a soon = soon
  told_sooner progress.Visible most e a soon = soon
  told_sooner progress.Waited most e a soon = soon
  told_sooner progress.Finished most e a soon = soon
  told_sooner progress.Ended most e a soon = soon

  module _ (words : HasWords before 0) (in_order : IsInOrder before → IsInOrder after) (awake : (slot_at before 0).status ≡ NotRunnable → ⊥)
      (on : is_serving (step_of (slot_at before 0)) ≡ true) (done : Progress) (serves : Serves (Ok done) disk 0 (from_to before after) files output)
      (made : MakesServersCall (from_to before after) 0 disk files output) (a : AbstractState) (nothing : NothingRefused before after) (most : ℕ) where
    step_sooner : StandsWhole (world_of before files.before disk) a → ActsWithinOver (told_disk files.before disk) most before a →
        SoonerOver most done (world_of after files.after disk) a
    step_sooner whole within = by_files files.before refl whole.0 whole.1 within
      where
        by_files : (o : Option Files) → files.before ≡ o → Stands before a → ServesOver (told_disk o disk) before a →
            ActsWithinOver (told_disk o disk) most before a → SoonerOver most done (world_of after files.after disk) a
        by_files None is stands standing within = absurd standing
        by_files (Some f) is stands standing within =
            let it = comes_sooner f is a (stands, standing) words (in_order stands.1.in_order) nothing most within done
            (stands_now (disk_in f disk) before a stands standing awake) on serves made in
            subst (λ (o : Option Files). SoonerOver most done (world_of after o disk) a) (sym it.1)
            (told_sooner done most (disk_in it.0 disk) a it.2)

  pub server_sooner : (result : Result Progress Failed) → HasWords before 0 → (IsInOrder before → IsInOrder after) →
      ((slot_at before 0).status ≡ NotRunnable → ⊥) → is_serving (step_of (slot_at before 0)) ≡ true →
      Serves result disk 0 (from_to before after) files output → OnOk result (MakesServersCall (from_to before after) 0 disk files output) →
      ActsSooner result (world_of before files.before disk) (world_of after files.after disk)
  server_sooner (Ok done) words in_order awake on serves made =
      λ acts a whole nothing most within. step_sooner words in_order awake on done serves made a nothing most whole within
  server_sooner (Err failed) words in_order awake on serves made = tt
