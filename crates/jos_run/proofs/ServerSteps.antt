-- What a step of the file server is to a run. At each step at which it may stand its call comes to what the abstract system's server does, or nobody
-- sees it; and whatever it calls, it leaves the others as they were. Where the host fails in it, nothing is printed.
use Rattle.std.proofs.Common.{◌≡◌, ◌≢◌, ◌∙◌, ◌==◌, ℕ, Bool, true, false, List, [], Option, Some, None, Result, Ok, Err, OnOk, OnErr, refl, sym, ap, subst}
use Rattle.std.proofs.Common.{arith}
use Rattle.std.proofs.lemmas.Bool.Decides.{nat_tests}
use Rattle.jos_host.specs.declared.host.Failed.{Failed}
use Rattle.jos_host.specs.Files.{Files}
use Rattle.jos_host.specs.Frames.{Around, from_to}
use Rattle.jos_base.specs.declared.environment.Status.TheVariants.{NotRunnable}
use Rattle.jos_base.specs.KernelState.{KernelState, slot_at}
use Rattle.lib_os.specs.declared.progress.Progress.{Progress}
use Rattle.lib_os.specs.declared.user_os.Stop.TheVariants as stop
use Rattle.lib_os.specs.AbstractState.{AbstractState}
use Rattle.lib_os.specs.Disk.{Disk, DiskFile, disk_in}
use Rattle.lib_os.specs.InOrder.{IsInOrder}
use Rattle.lib_os.specs.LibrarySteps.{Stands}
use Rattle.lib_os.specs.MadeCalls.{MakesServersCall, PrintsPartOfSome}
use Rattle.lib_os.specs.UserCalls.{Output, PrintsPart, is_file_server}
use Rattle.lib_os.proofs.ServedStay.{served_clients_stay}
use Rattle.fs_tree.proofs.TiesLaw.{no_part}
use Rattle.fs_requests.specs.declared.state.ServerState.{ServerState}
use Rattle.fs_requests.specs.declared.state.ServerStep.{ServerStep}
use Rattle.fs_requests.specs.declared.state.ServerStep.TheVariants as step
use Rattle.fs_requests.specs.declared.plan.ServerAsk.{ServerAsk}
use Rattle.fs_requests.specs.ServerPlans.{ask_for, call_for}
use Rattle.fs_server.specs.ServerSteps.{IsCalled, Serves, ServesBy, WorksQuietly, WorksWhereTold, server_at}
use Rattle.fs_seen.specs.ServerMemory.{HasWords}
use Rattle.fs_seen.specs.ServerSees.{is_working, makes_call}
use Rattle.jos_run.specs.ServerStands.{IsWholeStep, LeavesServed, ServerLeaves, ServesOver, StandsWhole, WholeFollows}
use Rattle.jos_run.specs.Steps.{is_awake}
use Rattle.jos_run.specs.Worlds.{beside, told_disk, world_of}
use Rattle.jos_run.proofs.ServerAnswers.{pause_steps, receive_steps, reply_steps}
use Rattle.jos_run.proofs.CallNexts.{calls_it}
use Rattle.jos_run.proofs.ServerCalls.{call_goes_on, call_steps}
use Rattle.jos_run.proofs.ServerFlushes.{flush_fails, flush_steps}
use Rattle.jos_run.proofs.ServerLeavings.{made_prints, numbers_left, places_left, server_call_leaves}
use Rattle.jos_run.proofs.ServerNow.{StandsNow, awake_so, calling, flushing, is_first, pausing, receiving, releasing, replying, running_so, stands_now, working}
use Rattle.jos_run.proofs.ServerPrints.{prints_only, prints_part_only}
use Rattle.jos_run.proofs.ServerStepped.{Stepped, release_steps}
use Rattle.jos_run.proofs.ServerWorks.{job_fails, job_steps}

module _ (disk : DiskFile) (before after : KernelState) (files : Around (Option Files)) (output : Output) where
  abbrev state : ServerState
  state = server_at before 0

  -- what is asked at a step
  asked : (result : Result Progress Failed) (x : ServerStep) → state.step ≡ x → Serves result disk 0 (from_to before after) files output →
      ServesBy (ask_for state x) state result disk 0 (from_to before after) files output
  asked result x at serves =
      subst (λ (y : ServerStep). ServesBy (ask_for state y) state result disk 0 (from_to before after) files output) at serves

  -- ---- the step

  module _ (f : Files) (told : files.before ≡ Some f) (a : AbstractState) (whole : StandsWhole (beside before (Some (disk_in f disk))) a)
      (words : HasWords before 0) where
    abbrev d : Disk
    d = disk_in f disk

    -- what it comes to over the disk that the host tells then
    abbrev Comes : Progress → Type 0
    Comes done = (now : Files) × (files.after ≡ Some now) × Stepped before (beside after (Some (disk_in now disk))) a done output

    -- where it leaves the files
    same_comes : (done : Progress) → files.after ≡ files.before → Stepped before (beside after (Some d)) a done output → Comes done
    same_comes done same stepped = (f, same ∙ told, stepped)

    -- a call of its own is what it asks for
    call_asked : (result : Result Progress Failed) (x : ServerStep) → makes_call x ≡ true →
        ServesBy (ask_for state x) state result disk 0 (from_to before after) files output →
        IsCalled (call_for state x) state result 0 (from_to before after) output × (files.after ≡ files.before)
    call_asked result x makes serves = subst (λ (y : ServerAsk). ServesBy y state result disk 0 (from_to before after) files output) (calls_it state x makes) serves

    -- and so it is with a job
    work_asked : (result : Result Progress Failed) (x : ServerStep) → is_working x ≡ true →
        ServesBy (ask_for state x) state result disk 0 (from_to before after) files output →
        WorksWhereTold state result disk 0 (from_to before after) files × WorksQuietly result disk 0 before files.before output
    work_asked result step.Working on serves = serves
    work_asked result step.Finding on serves = serves
    work_asked result step.Sizing on serves = serves
    work_asked result _ on serves = absurd (let contradiction : false ≡ true = on in cc)

    comes_to : (done : Progress) → StandsNow before a → Serves (Ok done) disk 0 (from_to before after) files output →
        MakesServersCall (from_to before after) 0 disk files output → Comes done
    comes_to done (releasing server at) serves made =
        let it = asked (Ok done) step.Releasing at serves in
        same_comes done it.1 (release_steps disk before after files output d a whole words done server at it.0 it.1)
    comes_to done (receiving server at) serves made =
        let it = asked (Ok done) step.Receiving at serves in
        same_comes done it.1 (receive_steps served_clients_stay disk before after files output d a whole words done server at it.0)
    comes_to done (calling acts makes) serves made =
        let it = call_asked (Ok done) state.step makes serves in
        same_comes done it.1 (call_steps disk before after files output d a whole words acts done makes it.0 it.1)
    comes_to done (working acts on) serves made =
        let it = work_asked (Ok done) state.step on serves in
        job_steps disk before files output f told a whole words acts on after done made it.0 it.1
    comes_to done (flushing client server at) serves made =
        flush_steps disk before files output f told a whole words client server at after done (asked (Ok done) step.Flushing at serves)
    comes_to done (replying client answer bytes object server at) serves made =
        let it = asked (Ok done) step.Replying at serves in
        same_comes done it.1
        (reply_steps served_clients_stay disk before after files output d a whole words client answer bytes object server at done it.0)
    comes_to done (pausing client answer bytes object server at) serves made =
        let it = asked (Ok done) step.Pausing at serves in
        same_comes done it.1
        (pause_steps served_clients_stay disk before after files output d a whole words client answer bytes object server done at it.0 it.1)

    -- ---- where the host fails in it

    fails : (failed : Failed) → StandsNow before a → Serves (Err failed) disk 0 (from_to before after) files output → PrintsPart output []
    fails failed (releasing server at) serves = let it = asked (Err failed) step.Releasing at serves in absurd it.0
    fails failed (receiving server at) serves = let it = asked (Err failed) step.Receiving at serves in absurd it.0
    fails failed (calling acts makes) serves =
        let it = call_asked (Err failed) state.step makes serves in
        absurd (call_goes_on disk before after files output d a whole words acts stop.Failed makes it.0)
    fails failed (working acts on) serves =
        let it = work_asked (Err failed) state.step on serves in job_fails disk before files output f told a whole words acts on failed it.1
    fails failed (flushing client server at) serves =
        no_part output
        (flush_fails disk before files output f told a whole words client server at after failed (asked (Err failed) step.Flushing at serves))
    fails failed (replying client answer bytes object server at) serves = let it = asked (Err failed) step.Replying at serves in absurd it.0
    fails failed (pausing client answer bytes object server at) serves = let it = asked (Err failed) step.Pausing at serves in absurd it.0

  -- ---- the disk that the host tells

  record IsToldOver (a : AbstractState) : Type 0 where
    f : Files
    told : files.before ≡ Some f
    whole : StandsWhole (beside before (Some (disk_in f disk))) a

  told_over : (a : AbstractState) → StandsWhole (world_of before files.before disk) a → IsToldOver a
  told_over a whole = by_files files.before refl whole.0 whole.1
    where
      by_files : (o : Option Files) → files.before ≡ o → Stands before a → ServesOver (told_disk o disk) before a → IsToldOver a
      by_files None is stands serves = absurd serves
      by_files (Some f) is stands serves = record { f = f; told = is; whole = (stands, serves) }

  now_at : (d : Disk) (a : AbstractState) → StandsWhole (beside before (Some d)) a → ((slot_at before 0).status ≡ NotRunnable → ⊥) → StandsNow before a
  now_at d a whole awake = stands_now d before a whole.0 whole.1 awake

  -- ---- a step in slot 0

  module _ (words : HasWords before 0) (done : Progress) (serves : Serves (Ok done) disk 0 (from_to before after) files output)
      (made : MakesServersCall (from_to before after) 0 disk files output) where
    abbrev Keeps : Type 0
    Keeps = IsWholeStep (Ok done) 0 (world_of before files.before disk) (world_of after files.after disk) output

    -- what it comes to, beside the disk that is told then
    comes : ((slot_at before 0).status ≡ NotRunnable → ⊥) → (a : AbstractState) → StandsWhole (world_of before files.before disk) a →
        Stepped before (world_of after files.after disk) a done output
    comes awake a whole =
        let it = told_over a whole in
        let so = comes_to it.f it.told a it.whole words done (now_at (disk_in it.f disk) a it.whole awake) serves made in
        subst (λ (o : Option Disk). Stepped before (beside after o) a done output) (sym (ap (λ (o : Option Files). told_disk o disk) so.1)) so.2

    step_keeps : (IsInOrder before → IsInOrder after) → ((slot_at before 0).status ≡ NotRunnable → ⊥) → Keeps
    step_keeps in_order awake =
        let printed = prints_only output (made_prints made.call before 0 disk files made.makes.mid output made.makes.made) in (
          printed.written,
          printed.prints,
          (λ a whole may nothing.
              let it = comes awake a whole in
              subst (λ (written : List ℕ). WholeFollows done 0 (world_of after files.after disk) a written) (sym (printed.quiet it.quiet))
              (it.follows (in_order whole.0.1.in_order) nothing)),
        )

    step_leaves : ServerLeaves (told_disk files.before disk) done before after
    step_leaves =
        let left = server_call_leaves before 0 made.call made.own after disk files output made.makes in
        record {
          rest = left.rest;
          uses = left.uses;
          places = places_left left;
          numbers = numbers_left left;
          takes = left.takes;
          turn = λ a stands serving running gave.
              (let it = comes (running_so (slot_at before 0).status running) a (stands, serving) in it.calm running gave);
        }

  step_fails : HasWords before 0 → (failed : Failed) → Serves (Err failed) disk 0 (from_to before after) files output →
      ((slot_at before 0).status ≡ NotRunnable → ⊥) → PrintsPartOfSome output →
      IsWholeStep (Err failed) 0 (world_of before files.before disk) (world_of after files.after disk) output
  step_fails words failed serves awake some =
      let printed = prints_part_only output some in (
        printed.written,
        printed.prints,
        (λ a whole may. let it = told_over a whole in
            printed.quiet (fails it.f it.told a it.whole words failed (now_at (disk_in it.f disk) a it.whole awake) serves)),
      )

-- ---- its step

module _ (result : Result Progress Failed) (disk : DiskFile) (n : ℕ) (before after : KernelState) (files : Around (Option Files)) (output : Output)
    (words : HasWords before n)
    (serves : Serves result disk n (from_to before after) files output)
    (made : OnOk result (MakesServersCall (from_to before after) n disk files output)) where
  -- where each of its results leaves the whole so
  abbrev KeptBy : Result Progress Failed → ℕ → Type 0
  KeptBy r m = IsWholeStep r m (world_of before files.before disk) (world_of after files.after disk) output

  -- In whatever slot it stands: where the state stands for an abstract one, that is slot 0.
  pub server_keeps : is_file_server (slot_at before n).env_type ≡ true → is_awake (slot_at before n).status ≡ true →
      (IsInOrder before → IsInOrder after) → OnErr result (PrintsPartOfSome output) →
      KeptBy result n
  server_keeps server awake in_order failed = by_slot (n == 0) refl
    where
      first_keeps : (r : Result Progress Failed) → HasWords before 0 → Serves r disk 0 (from_to before after) files output →
          OnOk r (MakesServersCall (from_to before after) 0 disk files output) → is_awake (slot_at before 0).status ≡ true →
          OnErr r (PrintsPartOfSome output) → KeptBy r 0
      first_keeps (Ok done) words serves made awake failed =
          step_keeps disk before after files output words done serves made in_order (awake_so (slot_at before 0).status awake)
      first_keeps (Err failure) words serves made awake failed =
          step_fails disk before after files output words failure serves (awake_so (slot_at before 0).status awake) failed

      -- the state stands for none
      other_keeps : n ≢ 0 → (r : Result Progress Failed) → OnOk r (MakesServersCall (from_to before after) n disk files output) →
          OnErr r (PrintsPartOfSome output) → KeptBy r n
      other_keeps other (Ok done) made failed =
          let printed = made_prints made.call before n disk files made.makes.mid output made.makes.made in
          (printed.bytes, printed.prints, (λ a whole may quiet. absurd (other (is_first before a n whole.0 server))))
      other_keeps other (Err failure) made failed = (failed.0, failed.1, (λ a whole may. absurd (other (is_first before a n whole.0 server))))

      by_slot : (t : Bool) → (n == 0) ≡ t → KeptBy result n
      by_slot true test =
          let first : n ≡ 0 = grind (arith, nat_tests) in
          subst (λ (m : ℕ). HasWords before m → Serves result disk m (from_to before after) files output →
          OnOk result (MakesServersCall (from_to before after) m disk files output) → is_awake (slot_at before m).status ≡ true →
          KeptBy result m) (sym first) (λ small step call wakes. first_keeps result small step call wakes failed)
          words serves made awake
      by_slot false test = let other : n ≢ 0 = grind (arith, nat_tests) in other_keeps other result made failed

  pub server_leaves : n ≡ 0 → LeavesServed (told_disk files.before disk) result before after
  server_leaves first =
      subst (λ (m : ℕ). HasWords before m → Serves result disk m (from_to before after) files output →
      OnOk result (MakesServersCall (from_to before after) m disk files output) → LeavesServed (told_disk files.before disk) result before after)
      (sym first) (first_leaves result) words serves made
    where
      first_leaves : (r : Result Progress Failed) → HasWords before 0 → Serves r disk 0 (from_to before after) files output →
          OnOk r (MakesServersCall (from_to before after) 0 disk files output) → LeavesServed (told_disk files.before disk) r before after
      first_leaves (Ok done) words serves made = step_leaves disk before after files output words done serves made
      first_leaves (Err failure) words serves made = tt
