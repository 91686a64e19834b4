-- Where the server stands by itself for an abstract state, the abstract server is not idle; so what it has served by a step is kept.
use Rattle.std.proofs.Common.{◌≡◌, ◌≢◌, ◌∙◌, ◌+◌, ◌==◌, ℕ, Bool, true, false, List, Option, Some, None, refl, ap, subst, if◌then◌else◌}
use Rattle.std.proofs.lemmas.Bool.{false≢true}
use Rattle.std.proofs.lemmas.Option.{none-some, same_Some}
use Rattle.std.specs.Prelude.{nat_lt, not}
use Rattle.jos_base.specs.KernelState.{KernelState}
use Rattle.lib_os.specs.declared.numbers.TheConstants.{MAXOPEN}
use Rattle.fs_layout.specs.FileActs.{Acted}
use Rattle.fs_layout.specs.FileTree.{FileAct, open_path, read_file, remove_path, set_file_size, stat_file, sync_files, write_file}
use Rattle.lib_os.specs.declared.progress.Progress.{Progress}
use Rattle.lib_os.specs.declared.progress.Progress.TheVariants as progress
use Rattle.lib_os.specs.AbstractState.{AbstractState, Born, Object, Phase, Request, Server, act, acted, awaiting, busy, file, idle, in_service, is_idle}
use Rattle.lib_os.specs.AbstractState.{leaving, looking, seek}
use Rattle.lib_os.specs.Disk.{Disk}
use Rattle.lib_os.specs.FileServer.{act_done, after_act, file_opened, is_count, is_held_by, looked, moved_on, reply, reply_at, served}
use Rattle.lib_os.specs.FileServer.{server_step, with_offset_of}
use Rattle.lib_os.specs.GuestStep.{born_in}
use Rattle.fs_runs.specs.TreeRuns.{Memory}
use Rattle.fs_requests.specs.declared.state.ServerStep.{ServerStep}
use Rattle.fs_requests.specs.declared.state.ServerStep.TheVariants as step
use Rattle.fs_serving.specs.ServerRuns.{Follows, StandsAtStep, StandsServing, is_acting}
use Rattle.fs_serving.specs.ServerViews.{Serving}
use Rattle.fs_serving.proofs.ActsAt.{acts_at}
use Rattle.fs_server.specs.ServerSteps.{server_at}
use Rattle.fs_seen.specs.ServerMemory.{HasPageFor, HasRequested, has_request, serving_in}
use Rattle.fs_seen.specs.ServerWhole.{GoesOnServing, IsIdle, ServedIsKept, ServersStand, ServesBy, ServesFor}

-- ---- the abstract server is not idle

-- for one that acts is not
acting_runs : (x : Server) → is_acting x ≡ true → is_idle x ≡ false
acting_runs (looking client request place) acts = refl
acting_runs (busy client request place) acts = refl
acting_runs _ acts = absurd (false≢true acts)

module _ (count : ℕ) (a : AbstractState) (it : Serving) (before : Memory) where
  runs_as : (x : Server) → a.server ≡ x → is_idle x ≡ false → is_idle a.server ≡ false
  runs_as x same runs = ap is_idle same ∙ runs

  runs_at : (at : ServerStep) → StandsAtStep at count a it before → is_idle a.server ≡ false
  runs_at step.Releasing h = runs_as leaving h.0 refl
  runs_at step.Receiving h = runs_as leaving h.0 refl
  runs_at step.Replying h = runs_as _ h.server refl
  runs_at step.Pausing h = runs_as _ h.server refl
  runs_at at h = acting_runs a.server (acts_at count a it before at h)

-- ---- from one to the other

module _ (a : AbstractState) (d : Disk) (s : KernelState) (n : ℕ) where
  by_self : (x : Server) → ServesBy x d s n a → (x ≡ idle → IsIdle d s n a → ⊥) → StandsServing d.count a (serving_in d s n)
  by_self idle h never = absurd (never refl h)
  by_self leaving h never = h
  by_self (looking client request place) h never = h
  by_self (busy client request place) h never = h
  by_self (acted client answer bytes object) h never = h

  by_runs : (x : Server) → is_idle x ≡ false → StandsServing d.count a (serving_in d s n) → ServesBy x d s n a
  by_runs idle runs h = absurd (let contradiction : true ≡ false = runs in cc)
  by_runs leaving runs h = h
  by_runs (looking client request place) runs h = h
  by_runs (busy client request place) runs h = h
  by_runs (acted client answer bytes object) runs h = h

  pub serves_for : StandsServing d.count a (serving_in d s n) → ServesFor d s n a
  serves_for h = by_runs a.server (runs_at d.count a (serving_in d s n) h.before (server_at s n).step h.at) h

  -- at any step but the first
  pub stands_at : ServesFor d s n a → (server_at s n).step ≢ step.ReadingKind → StandsServing d.count a (serving_in d s n)
  stands_at h other = by_self a.server h (λ same it. other it.at)

pub servers_stand : ServersStand
servers_stand a d s h other = by_self a d s 0 a.server h.serves (λ same it. other same)

-- ---- the page of the request

-- It is there as it was.
module _ (s after : KernelState) (n : ℕ) (same : has_request after n ≡ has_request s n) where
  pub requested_stays : (x : Server) → HasRequested x s n → HasRequested x after n
  requested_stays (looking client request place) h = λ sends. same ∙ h sends
  requested_stays (busy client request place) h = λ sends. same ∙ h sends
  requested_stays idle h = tt
  requested_stays leaving h = tt
  requested_stays (acted client answer bytes object) h = tt

-- Behind the act none is asked for.
module _ (after : KernelState) (n : ℕ) where
  abbrev Has : AbstractState → Type 0
  Has x = HasRequested x.server after n

  by_test : (t : Bool) (x y : AbstractState) → Has x → Has y → Has (if t then x else y)
  by_test true x y one two = one
  by_test false x y one two = two

  has_offset : (x : AbstractState) (name offset : ℕ) (object : Object) → Has x → Has (with_offset_of x name offset object)
  has_offset x name offset (file f) h = h
  has_offset x name offset _ h = h

  has_moved : (x : AbstractState) (object : Option ℕ) (answer : ℕ) → Has x → Has (moved_on x object answer)
  has_moved x None answer h = h
  has_moved x (Some name) answer h = by_test (is_count answer) _ _ (has_offset x name _ (x.objects name) h) h

  has_opened : (x : AbstractState) (client answer : ℕ) (place : Option ℕ) (way : Option (List ℕ)) (mode : ℕ) →
      Has (file_opened x client answer place way mode)
  has_opened x client answer place None mode = tt
  has_opened x client answer None (Some way) mode = tt
  has_opened x client answer (Some k) (Some way) mode = tt

  has_acted : (a : AbstractState) (client : ℕ) (f : FileAct) (object place : Option ℕ) (did : Acted) → Has (after_act a client f object place did)
  has_acted a client (open_path path mode) object place did =
      by_test (did.answer == 0) _ _ (has_opened (record a { files = did.files }) client 0 place _ _) tt
  has_acted a client (read_file way offset len) object place did = has_moved _ object did.answer tt
  has_acted a client (write_file way offset bytes) object place did = has_moved _ object did.answer tt
  has_acted a client (set_file_size way size) object place did = has_moved _ object did.answer tt
  has_acted a client (stat_file way) object place did = has_moved _ object did.answer tt
  has_acted a client (remove_path path) object place did = has_moved _ object did.answer tt
  has_acted a client sync_files object place did = has_moved _ object did.answer tt

  has_done : (a : AbstractState) (client : ℕ) (request : Request) (place : Option ℕ) → Has (act_done a client request place)
  has_done a client (act f object) place = has_acted a client f object place _
  has_done a client (seek name offset) place = has_offset (record a { server = acted client 0 _ None }) name offset (a.objects name) tt

  has_looked : (a : AbstractState) (client : ℕ) (request : Request) (k : ℕ) → HasPageFor request after n → Has (looked a client request k)
  has_looked a client request k h =
      by_test (not (is_held_by a (a.opened k).held_by)) _ _ h
      (by_test (nat_lt (k + 1) MAXOPEN) (record a { server = looking client request (k + 1) }) _ h tt)

  has_reply : (a b : AbstractState) (client answer : ℕ) (bytes : List ℕ) (object : Option ℕ) (o : Option Born) →
      reply a client answer bytes object o ≡ Some b → Has b
  has_reply a b client answer bytes object None is = subst (λ (x : AbstractState). Has x) (same_Some _ b is) tt
  has_reply a b client answer bytes object (Some born) is = by_phase born.phase is
    where
      by_phase : (phase : Phase) → reply_at a client born answer bytes object phase ≡ Some b → Has b
      by_phase (in_service service awaiting) is = subst (λ (x : AbstractState). Has x) (same_Some _ b is) tt
      by_phase _ is = absurd (none-some b is)

  has_next : (a b : AbstractState) (x : Server) → served a x ≡ Some b → HasRequested x after n → Has b
  has_next a b leaving is h = subst (λ (y : AbstractState). Has y) (same_Some _ b is) tt
  has_next a b idle is h = absurd (none-some b is)
  has_next a b (looking client request k) is h =
      subst (λ (y : AbstractState). Has y) (same_Some _ b is) (has_looked a client request k h)
  has_next a b (busy client request place) is h = subst (λ (y : AbstractState). Has y) (same_Some _ b is) (has_done a client request place)
  has_next a b (acted client answer bytes object) is h = has_reply a b client answer bytes object (born_in (a.slots client)) is

  pub requested_next : (a b : AbstractState) → server_step a ≡ Some b → HasRequested a.server after n → HasRequested b.server after n
  unfolding server_step
  requested_next a b is h = has_next a b a.server is h

-- ---- what was served is kept

pub served_is_kept : ServedIsKept
served_is_kept a e s after done requested rests served_so = by_done done served_so.follows
  where
    still : HasRequested a.server after 0
    still = requested_stays s after 0 served_so.request_stays a.server requested

    by_done : (p : Progress) → Follows e.count a p (serving_in e after 0) → GoesOnServing p e after 0 a
    by_done progress.Hidden h =
        record { stands = served_so.stands; serves = serves_for a e after 0 h; requested = still; rests = served_so.rests rests }
    by_done progress.Visible h = (
      h.0,
      h.1,
      record {
        stands = served_so.stands;
        serves = serves_for h.0 e after 0 h.2;
        requested = requested_next after 0 a h.0 h.1 still;
        rests = served_so.rests rests;
      },
    )
    by_done progress.Waited h = h
    by_done progress.Finished h = h
    by_done progress.Ended h = h
