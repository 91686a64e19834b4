-- At which of its steps the file server is, where the kernel's state stands for an abstract one: it waits for a request or with its reply, makes a call
-- of its own for one, or runs a job or a flush.
use Rattle.std.proofs.Common.{◌≡◌, ◌≢◌, ◌∙◌, ◌==◌, ◌⊎◌, inl, inr, ◌<◌, ◌^◌, ℕ, Bool, true, false, List, Option, Some, None, refl, sym, ap, subst, arith}
use Rattle.std.proofs.lemmas.Bool.Decides.{nat_tests}
use Rattle.jos_base.specs.declared.environment.Status.{Status}
use Rattle.jos_base.specs.declared.environment.Status.TheVariants.{NotRunnable}
use Rattle.jos_base.specs.Environments.{is_running}
use Rattle.jos_base.specs.KernelState.{KernelState, slot_at}
use Rattle.fs_layout.specs.FileTree.{sync_files}
use Rattle.fs_runs.specs.TreeRuns.{Memory}
use Rattle.lib_os.specs.declared.service.Service.{Service}
use Rattle.lib_os.specs.AbstractLaws.{ServesWhoAsked, client_served, has_asked, is_asking}
use Rattle.lib_os.specs.AbstractState.{AbstractSlot, AbstractState, Born, Phase, Server, act, acted, asked, awaiting, born, busy, idle, in_service}
use Rattle.lib_os.specs.AbstractState.{leaving, slot_id}
use Rattle.lib_os.specs.AskedFor.{IsThere}
use Rattle.lib_os.specs.Disk.{Disk}
use Rattle.lib_os.specs.LibrarySteps.{Stands}
use Rattle.lib_os.specs.Rows.{Names}
use Rattle.lib_os.specs.StandsFor.{IsServerStatus, StandsFor}
use Rattle.lib_os.specs.UserCalls.{is_file_server}
use Rattle.lib_os.proofs.SlotsStand.{born_at}
use Rattle.fs_requests.specs.declared.state.ServerStep.{ServerStep}
use Rattle.fs_requests.specs.declared.state.ServerStep.TheVariants as step
use Rattle.fs_serving.specs.ServerRuns.{StandsAtStep, client_of, is_acting, is_serving}
use Rattle.fs_serving.specs.ServerViews.{Serving}
use Rattle.fs_serving.proofs.ActsAt.{acts_at}
use Rattle.fs_seen.specs.ServerMemory.{serving_in}
use Rattle.fs_seen.specs.ServerSees.{is_working, makes_call}
use Rattle.fs_seen.proofs.ServesFor.{servers_stand}
use Rattle.jos_run.specs.ServerStands.{IsClient, ServerStands, step_of}
use Rattle.jos_run.specs.Steps.{is_awake}

-- ---- which slot it is

-- where the state stands for an abstract one, a file server stands in slot 0
pub is_first : (s : KernelState) (a : AbstractState) (n : ℕ) → Stands s a → is_file_server (slot_at s n).env_type ≡ true → n ≡ 0
is_first s a n stands server = by_test (n == 0) refl
  where
    by_test : (t : Bool) → (n == 0) ≡ t → n ≡ 0
    by_test true test = grind (arith, nat_tests)
    by_test false test =
        let other : n ≢ 0 = grind (arith, nat_tests) in
        let user = stands.1.tabled.servers n other in
        absurd (let contradiction : false ≡ true = sym (ap is_file_server user) ∙ server in cc)

-- ---- which step it is

pub data StandsNow (s : KernelState) (a : AbstractState) : Type 0 where
  releasing : a.server ≡ leaving → step_of (slot_at s 0) ≡ step.Releasing → StandsNow s a
  receiving : a.server ≡ leaving → step_of (slot_at s 0) ≡ step.Receiving → StandsNow s a
  calling : is_acting a.server ≡ true → makes_call (step_of (slot_at s 0)) ≡ true → StandsNow s a
  working : is_acting a.server ≡ true → is_working (step_of (slot_at s 0)) ≡ true → StandsNow s a
  flushing : (client : ℕ) → a.server ≡ busy client (act sync_files None) None → step_of (slot_at s 0) ≡ step.Flushing → StandsNow s a
  replying : (client answer : ℕ) (bytes : List ℕ) (object : Option ℕ) → a.server ≡ acted client answer bytes object →
      step_of (slot_at s 0) ≡ step.Replying → StandsNow s a
  pausing : (client answer : ℕ) (bytes : List ℕ) (object : Option ℕ) → a.server ≡ acted client answer bytes object →
      step_of (slot_at s 0) ≡ step.Pausing → StandsNow s a

module _ (s : KernelState) (a : AbstractState) (d : Disk) (before : Memory) where
  abbrev it : Serving
  it = serving_in d s 0

  -- at a call it is busy with a request, or looks at a place for it
  call_now : (x : ServerStep) → step_of (slot_at s 0) ≡ x → StandsAtStep x d.count a it before → makes_call x ≡ true → is_serving x ≡ true →
      StandsNow s a
  call_now x is h makes serves =
      calling (acts_at d.count a it before x h ∙ serves) (ap (λ (y : ServerStep). makes_call y) is ∙ makes)

  -- and so it is where it runs a job
  work_now : (x : ServerStep) → step_of (slot_at s 0) ≡ x → StandsAtStep x d.count a it before → is_working x ≡ true → is_serving x ≡ true →
      StandsNow s a
  work_now x is h works serves =
      working (acts_at d.count a it before x h ∙ serves) (ap (λ (y : ServerStep). is_working y) is ∙ works)

  now_at : (x : ServerStep) → step_of (slot_at s 0) ≡ x → StandsAtStep x d.count a it before → StandsNow s a
  now_at step.Releasing is h = releasing h.0 is
  now_at step.Receiving is h = receiving h.0 is
  now_at step.ReadingKind is h = call_now step.ReadingKind is h refl refl
  now_at step.ReadingClient is h = call_now step.ReadingClient is h refl refl
  now_at step.ReadingFile is h = call_now step.ReadingFile is h refl refl
  now_at step.ReadingOffset is h = call_now step.ReadingOffset is h refl refl
  now_at step.ReadingCount is h = call_now step.ReadingCount is h refl refl
  now_at step.ReadingRecord is h = call_now step.ReadingRecord is h refl refl
  now_at step.LookingRecord is h = call_now step.LookingRecord is h refl refl
  now_at step.LookingEntry is h = call_now step.LookingEntry is h refl refl
  now_at step.LookingHolders is h = call_now step.LookingHolders is h refl refl
  now_at step.TakingPage is h = call_now step.TakingPage is h refl refl
  now_at step.ReadingMode is h = call_now step.ReadingMode is h refl refl
  now_at step.Working is h = work_now step.Working is h refl refl
  now_at step.Finding is h = work_now step.Finding is h refl refl
  now_at step.StoringRecord is h = call_now step.StoringRecord is h refl refl
  now_at step.StoringDevice is h = call_now step.StoringDevice is h refl refl
  now_at step.ReadingModeAgain is h = call_now step.ReadingModeAgain is h refl refl
  now_at step.StoringMode is h = call_now step.StoringMode is h refl refl
  now_at step.StoringFile is h = call_now step.StoringFile is h refl refl
  now_at step.ReadingRecordAgain is h = call_now step.ReadingRecordAgain is h refl refl
  now_at step.Sizing is h = work_now step.Sizing is h refl refl
  now_at step.StoringSize is h = call_now step.StoringSize is h refl refl
  now_at step.Advancing is h = call_now step.Advancing is h refl refl
  now_at step.StoringOffset is h = call_now step.StoringOffset is h refl refl
  now_at step.CheckingRecord is h = call_now step.CheckingRecord is h refl refl
  now_at step.CheckingEntry is h = call_now step.CheckingEntry is h refl refl
  now_at step.CheckingHolders is h = call_now step.CheckingHolders is h refl refl
  now_at step.Flushing is h = flushing (client_of it.state) h.0.server is
  now_at step.Acting is h = call_now step.Acting is h refl refl
  now_at step.Replying is h = replying (client_of it.state) it.state.count h.bytes h.object h.server is
  now_at step.Pausing is h = pausing (client_of it.state) it.state.count h.bytes h.object h.server is

-- where it is awake it is not idle
pub not_idle : (s : KernelState) (a : AbstractState) → Stands s a → ((slot_at s 0).status ≡ NotRunnable → ⊥) → a.server ≢ idle
not_idle s a stands awake is = awake (subst (λ (x : Server). IsServerStatus x (slot_at s 0)) is stands.1.server.status).status

pub stands_now : (d : Disk) (s : KernelState) (a : AbstractState) → Stands s a → ServerStands d s a → ((slot_at s 0).status ≡ NotRunnable → ⊥) →
    StandsNow s a
stands_now d s a stands h awake =
    let serving = servers_stand a d s h.serving (not_idle s a stands awake) in
    now_at s a d serving.before (step_of (slot_at s 0)) refl serving.at

pub awake_so : (status : Status) → is_awake status ≡ true → status ≡ NotRunnable → ⊥
awake_so status awake is = let contradiction : false ≡ true = sym (ap is_awake is) ∙ awake in cc

pub running_so : (status : Status) → is_running status ≡ true → status ≡ NotRunnable → ⊥
running_so status running is = let contradiction : false ≡ true = sym (ap is_running is) ∙ running in cc

-- ---- its client

-- The client is there, by this id, and has asked by a service.
pub record ClientThere (s : KernelState) (a : AbstractState) (client id : ℕ) : Type 0 where
  pub b : Born
  pub at : a.slots client ≡ born b
  pub named : b.id ≡ id
  pub small : b.id < 2 ^ 32
  pub service : Service
  pub there : IsThere b service

asker : (slot : AbstractSlot) → is_asking slot ≡ true → (b : Born) × (slot ≡ born b) × (has_asked b.phase ≡ true)
asker (born b) is = (b, refl, is)
asker _ is = absurd (let contradiction : false ≡ true = is in cc)

-- by its phase it has asked, or waits for the reply
asks_or_waits : (p : Phase) → has_asked p ≡ true → (x : Service) × ((p ≡ in_service x asked) ⊎ (p ≡ in_service x awaiting))
asks_or_waits (in_service x asked) is = (x, inl refl)
asks_or_waits (in_service x awaiting) is = (x, inr refl)
asks_or_waits _ is = absurd (let contradiction : false ≡ true = is in cc)

module _ {names : Names} {s : KernelState} {a : AbstractState} (h : StandsFor names s a) where
  pub client_there : (client id : ℕ) → ServesWhoAsked a → client_served a.server ≡ Some client → IsClient a client id → ClientThere s a client id
  client_there client id serves served named =
      let it = asker (a.slots client) ((serves.asked client served).1) in
      let own = born_at h client it.0 it.1 in
      let has = asks_or_waits it.0.phase it.2 in
      record {
        b = it.0;
        at = it.1;
        named = sym (ap slot_id it.1) ∙ named.same;
        small = subst (λ (i : ℕ). i < 2 ^ 32) own.id own.id_small;
        service = has.0;
        there = has.1;
      }
