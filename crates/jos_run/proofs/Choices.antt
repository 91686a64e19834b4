-- Who gets the next turn, and whether anybody is left: between two turns the kernel and the abstract system that it stands
-- for answer alike.
use Rattle.std.proofs.Common.{◌≡◌, ◌≢◌, ◌∙◌, ℕ, zero, suc, ◌+◌, ◌%◌, ◌^◌, ◌==◌, ◌&&◌, Bool, true, false, Option, Some, None}
use Rattle.std.proofs.Common.{refl, sym, ap, subst, arith, if◌then◌else◌}
use Rattle.std.proofs.lemmas.Bool.Decides.{nat_tests}
use Rattle.std.specs.Prelude.{not, nat_le, is_none}
use Rattle.jos_base.specs.declared.environment.EnvType.{EnvType}
use Rattle.jos_base.specs.declared.environment.Status.{Status}
use Rattle.jos_base.specs.declared.environment.Status.TheVariants.{Runnable, Running, NotRunnable}
use Rattle.jos_base.specs.declared.numbers.TheConstants.{NENV, TURN_MAX}
use Rattle.jos_base.specs.Environments.{Slot, Environments, is_free, is_live as is_live_slot, is_running, is_runnable}
use Rattle.jos_base.specs.KernelState.{KernelState, slot_at, with_slot_at, turn_begun, turn_ended}
use Rattle.jos_base.specs.SpacesState.{SpacesState}
use Rattle.jos_envs.specs.Table.{may_run}
use Rattle.jos_sched.specs.RoundRobin.{start, next}
use Rattle.jos_sched.specs.RoundRobin as robin
use Rattle.jos_kernel.specs.declared.report.End.{End}
use Rattle.jos_kernel.specs.declared.report.End.TheVariants.{Done, Stuck, Budget, TurnsFull}
use Rattle.jos_base.specs.Below.{some_below}
use Rattle.lib_os.specs.AbstractState.{AbstractState, AbstractSlot, free, unborn, born, serving, Server, idle, leaving, looking, busy, acted, is_idle, can_run, can_run_as}
use Rattle.lib_os.specs.Rows.{Names}
use Rattle.lib_os.specs.StandsFor.{StandsFor, StandsForServer, StandsForSlot, IsServerStatus, IsStatusFor}
use Rattle.lib_os.proofs.SlotsStand.{born_live}
use Rattle.jos_run.specs.AbstractTurns.{first_of, next_slot, is_client, any_live, end_of}
use Rattle.jos_run.specs.LibraryRuns.{NoneRuns, OnlyRuns, OnlyFirstServes, is_user, others_live, end_seen}
use Rattle.jos_base.proofs.Maps.{upd-other, upd-all}
use Rattle.jos_base.proofs.Below.{some_below-same}

-- ---- who may run

runs_alike : (status : Status) (blocked : Bool) → IsStatusFor status blocked → is_running status ≡ false → is_runnable status ≡ not blocked
runs_alike Runnable false h idle_now = refl
runs_alike Running false h idle_now = absurd (let contradiction : true ≡ false = idle_now in cc)
runs_alike NotRunnable true h idle_now = refl
runs_alike _ _ h idle_now = absurd h

server_runs : (server : Server) (k : Slot) → IsServerStatus server k → is_running k.status ≡ false → is_runnable k.status ≡ not (is_idle server)
server_runs idle k h idle_now = ap (λ (x : Status). is_runnable x) h.status
server_runs leaving k h idle_now = runs_alike k.status false h.0 idle_now
server_runs (looking client request number) k h idle_now = runs_alike k.status false h.0 idle_now
server_runs (busy client request place) k h idle_now = runs_alike k.status false h.0 idle_now
server_runs (acted client answer bytes object) k h idle_now = runs_alike k.status false h.0 idle_now

-- the file server stands in slot 0
pub serving_first : {names : Names} {s : KernelState} {a : AbstractState} → StandsFor names s a → (n id : ℕ) →
    StandsForServer (slot_at s n) id → 0 ≡ n
serving_first h n id so = sym (ap (λ (i : ℕ). i % NENV) (so.id_is ∙ so.first)) ∙ h.tabled.ids n so.lives

-- A slot that is not RUNNING may have the next turn where it may have it in the abstract system.
pub runs_stand : {names : Names} {s : KernelState} {a : AbstractState} → StandsFor names s a → (n : ℕ) →
    is_running (slot_at s n).status ≡ false → may_run s.environments n ≡ can_run a n
runs_stand {names = names} {s = s} {a = a} h n idle_now = by_slot (a.slots n) refl (h.slots n)
  where
    by_slot : (slot : AbstractSlot) → a.slots n ≡ slot → StandsForSlot names s.spaces (slot_at s n) slot →
        is_runnable (slot_at s n).status ≡ can_run_as a.server slot
    by_slot (free id) at k = ap (λ (x : Slot). is_runnable x.status) k
    by_slot (unborn id parent) at k = ap (λ (x : Status). is_runnable x) k.status
    by_slot (born b) at k = runs_alike (slot_at s n).status b.blocked k.runs idle_now
    by_slot (serving id) at k =
        let first : 0 ≡ n = serving_first h n id k in
        server_runs a.server (slot_at s n) (subst (λ (m : ℕ). IsServerStatus a.server (slot_at s m)) first h.server.status) idle_now

-- ---- who gets the next turn

if_alike : (c d : Bool) (n : ℕ) (x y : Option ℕ) → c ≡ d → x ≡ y → (if c then Some n else x) ≡ (if d then Some n else y)
if_alike c d n x y same others = ap (λ (b : Bool). if b then Some n else x) same ∙ ap (λ (o : Option ℕ). if d then Some n else o) others

first_alike : (e : Environments) (a : AbstractState) → ((n : ℕ) → may_run e n ≡ can_run a n) → (slot count : ℕ) →
    robin.first_of e slot count ≡ first_of a slot count
unfolding robin.first_of first_of
first_alike e a same slot zero = refl
first_alike e a same slot (suc count) =
    if_alike (may_run e (slot % NENV)) (can_run a (slot % NENV)) (slot % NENV) (robin.first_of e (slot + 1) count) (first_of a (slot + 1) count)
    (same (slot % NENV)) (first_alike e a same (slot + 1) count)

-- The kernel and the abstract system choose the same slot.
pub next_stands : {names : Names} {s : KernelState} {a : AbstractState} → StandsFor names s a → NoneRuns s →
    next s.environments s.last ≡ next_slot a
unfolding next next_slot
next_stands {s = s} {a = a} h none =
    first_alike s.environments a (λ n. runs_stand h n (none n)) (start s.last) NENV
    ∙ ap (λ (last : Option ℕ). first_of a (start last) NENV) h.last

-- ---- whether anybody is left

client_counts : (names : Names) (sp : SpacesState) (k : Slot) (slot : AbstractSlot) → StandsForSlot names sp k slot →
    is_client slot ≡ (is_live_slot k && is_user k.env_type)
client_counts names sp k (free id) h = sym (ap (λ (x : Slot). is_live_slot x && is_user x.env_type) h)
client_counts names sp k (unborn id parent) h =
    sym (ap (λ (x : Status). not (is_free x) && is_user k.env_type) h.status ∙ ap (λ (x : EnvType). is_user x) h.env_type)
client_counts names sp k (born b) h =
    sym (ap (λ (c : Bool). c && is_user k.env_type) (born_live h) ∙ ap (λ (x : EnvType). is_user x) h.env_type)
client_counts names sp k (serving id) h =
    sym (ap (λ (c : Bool). c && is_user k.env_type) h.lives ∙ ap (λ (x : EnvType). is_user x) h.env_type)

-- a client is a live environment but a file server
pub clients_stand : {names : Names} {s : KernelState} {a : AbstractState} → StandsFor names s a → (n : ℕ) →
    is_client (a.slots n) ≡ (is_live_slot (slot_at s n) && is_user (slot_at s n).env_type)
clients_stand {names = names} {s = s} {a = a} h n = client_counts names s.spaces (slot_at s n) (a.slots n) (h.slots n)

pub any_user_stands : {names : Names} {s : KernelState} {a : AbstractState} → StandsFor names s a →
    any_live a ≡ some_below NENV (λ n. is_live_slot (slot_at s n) && is_user (slot_at s n).env_type)
any_user_stands {s = s} {a = a} h =
    some_below-same NENV (λ n. is_client (a.slots n)) (λ n. is_live_slot (slot_at s n) && is_user (slot_at s n).env_type)
    (λ n below. clients_stand h n)

and_true : (c : Bool) → (c && true) ≡ c
and_true true = refl
and_true false = refl

client_other : {names : Names} {s : KernelState} {a : AbstractState} → StandsFor names s a → OnlyFirstServes s → (n : ℕ) →
    is_client (a.slots n) ≡ (not (n == 0) && is_live_slot (slot_at s n))
client_other {s = s} {a = a} h only n = by_test (n == 0) refl
  where
    by_test : (c : Bool) → (n == 0) ≡ c → is_client (a.slots n) ≡ (not c && is_live_slot (slot_at s n))
    by_test true test =
        let at : n ≡ 0 = grind (arith, nat_tests) in
        ap (λ (x : ℕ). is_client (a.slots x)) at ∙ ap (λ (slot : AbstractSlot). is_client slot) h.first
    by_test false test =
        let other : n ≢ 0 = grind (arith, nat_tests) in
        clients_stand h n ∙ ap (λ (c : Bool). is_live_slot (slot_at s n) && c) (only n other) ∙ and_true (is_live_slot (slot_at s n))

-- Somebody is left in the abstract system where a slot other than 0 is live.
pub any_live_stands : {names : Names} {s : KernelState} {a : AbstractState} → StandsFor names s a → OnlyFirstServes s →
    any_live a ≡ others_live s
any_live_stands {s = s} {a = a} h only =
    some_below-same NENV (λ n. is_client (a.slots n)) (λ n. not (n == 0) && is_live_slot (slot_at s n)) (λ n below. client_other h only n)

-- no file server stands but in slot 0, whatever the state stands for
pub only_first_serves : {names : Names} {s : KernelState} {a : AbstractState} → StandsFor names s a → OnlyFirstServes s
only_first_serves h n other = ap (λ (t : EnvType). is_user t) (h.tabled.servers n other)

-- ---- the end

-- Between two turns the end tests of the abstract system are told by the kernel's state.
pub end_stands : {names : Names} {s : KernelState} {a : AbstractState} → StandsFor names s a → NoneRuns s → OnlyFirstServes s →
    (turns : ℕ) (spent : Bool) → end_of a turns spent ≡ end_seen s turns spent
unfolding end_of
end_stands {s = s} {a = a} h none only turns spent =
    ap (λ (c : Bool). end_by c (is_none (next_slot a)) turns spent) (any_live_stands h only)
    ∙ ap (λ (o : Option ℕ). end_by (others_live s) (is_none o) turns spent) (sym (next_stands h none))
  where
    end_by : Bool → Bool → ℕ → Bool → Option End
    end_by live stuck turns spent =
        if not live then Some Done
        else if stuck then Some Stuck
        else if spent then Some Budget
        else if nat_le TURN_MAX turns then Some TurnsFull
        else None

-- ---- RUNNING

-- in the turn of a slot no other is RUNNING, whatever the state stands for
pub only_runs : {names : Names} {s : KernelState} {a : AbstractState} → StandsFor names s a → (n : ℕ) → s.last ≡ Some n → OnlyRuns s n
only_runs {s = s} h n last m ne = by_test (is_running (slot_at s m).status) refl
  where
    by_test : (c : Bool) → is_running (slot_at s m).status ≡ c → c ≡ false
    by_test true is = let same : ◌≡◌ {A = Option ℕ} (Some n) (Some m) = sym last ∙ h.tabled.running m is in absurd (ne (cc))
    by_test false is = refl

pub begun_only : (s : KernelState) (n : ℕ) → NoneRuns s → OnlyRuns (turn_begun s n) n
begun_only s n none m ne =
    let k : Slot = record (slot_at s n) { status = Running; runs = ((slot_at s n).runs + 1) % 2 ^ 32 } in
    ap (λ (x : Slot). is_running x.status) (upd-other s.environments.slots n k m ne) ∙ none m

-- at the end of the turn of the slot that had it no slot is RUNNING
pub ended_none : (s : KernelState) (n : ℕ) → OnlyRuns s n → NoneRuns (turn_ended s n)
ended_none s n only = by_test (is_running (slot_at s n).status) refl
  where
    runnable : Slot
    runnable = record (slot_at s n) { status = Runnable }

    by_test : (c : Bool) → is_running (slot_at s n).status ≡ c →
        (m : ℕ) → is_running (slot_at (if c then with_slot_at s n runnable else s) m).status ≡ false
    by_test true is m = upd-all (λ m (k : Slot). is_running k.status ≡ false) s.environments.slots n runnable refl only m
    by_test false is m = by_place (m == n) refl
      where
        by_place : (c : Bool) → (m == n) ≡ c → is_running (slot_at s m).status ≡ false
        by_place true test =
            let at : n ≡ m = grind (arith, nat_tests) in subst (λ (x : ℕ). is_running (slot_at s x).status ≡ false) at is
        by_place false test = only m (grind (arith, nat_tests))
