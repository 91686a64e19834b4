-- The server replies, or the client does not wait yet, and it gives up its turn.
use Rattle.std.proofs.Common.{◌≡◌, ◌≢◌, ◌∙◌, ◌==◌, ◌&&◌, ℕ, Bool, true, false, List, [], ◌∷◌, Option, Some, None, refl, sym, ap, subst, arith}
use Rattle.std.proofs.Common.{if◌then◌else◌}
use Rattle.std.proofs.lemmas.Bool.Decides.{nat_tests}
use Rattle.std.specs.Prelude.{is_some}
use Rattle.jos_base.specs.declared.called.Called.{Called}
use Rattle.jos_base.specs.declared.environment.Status.TheVariants.{Runnable}
use Rattle.jos_base.specs.declared.numbers.TheConstants.{E_IPC_NOT_RECV, UTOP}
use Rattle.jos_base.specs.Environments.{Slot, is_live}
use Rattle.jos_base.specs.KernelState.{KernelState, slot_at, with_status}
use Rattle.jos_base.specs.Reach.{Entry}
use Rattle.jos_base.specs.SpacesState.{reference_count}
use Rattle.jos_base.specs.Words.{negated}
use Rattle.fs_layout.specs.FileTree.{FileSystem}
use Rattle.lib_os.specs.declared.progress.Progress.{Progress}
use Rattle.lib_os.specs.declared.progress.Progress.TheVariants as progress
use Rattle.lib_os.specs.declared.request.RequestKind.{RequestKind}
use Rattle.lib_os.specs.declared.request.RequestKind.TheVariants as kind
use Rattle.lib_os.specs.AbstractState.{AbstractState, acted}
use Rattle.lib_os.specs.Disk.{Disk}
use Rattle.lib_os.specs.InOrder.{IsInOrder}
use Rattle.lib_os.specs.UserCalls.{CallStep, Output}
use Rattle.lib_os.proofs.Calls.{yield_is}
use Rattle.lib_os.proofs.Slots.{slot_put}
use Rattle.fs_runs.specs.TreeRuns.{Memory}
use Rattle.fs_requests.specs.declared.plan.ServerNext.{ServerNext}
use Rattle.fs_requests.specs.declared.state.ServerState.{ServerState}
use Rattle.fs_requests.specs.declared.state.ServerStep.{ServerStep}
use Rattle.fs_requests.specs.declared.state.ServerStep.TheVariants as step
use Rattle.fs_requests.specs.ServerPlans.{call_for, hidden, next_at, next_for, open_page, open_perm, opens, page_with, replying, shown}
use Rattle.fs_serving.specs.ServerRuns.{HasFiles, HasObject, IsReplying, StandsAtStep, StandsServing, client_of}
use Rattle.fs_serving.specs.ServerViews.{Serving}
use Rattle.fs_server.specs.ServerSteps.{HasCalled, by_word, gone_on, server_at, was_stopped}
use Rattle.fs_seen.specs.BlockSteps.{SeesAlike}
use Rattle.fs_seen.specs.ServerMemory.{entry_of, request_page, serving_in, view_in}
use Rattle.fs_seen.specs.ServerSees.{is_working}
use Rattle.fs_seen.specs.ServerWhole.{IsServing, LeavesSlot, PausesServe, RepliesServe, RepliesWithWord, ServesOn, WaitsServe}
use Rattle.fs_seen.proofs.Between.{called_at, leaving_serves, number_small, same_state, sees_same, table_seen}
use Rattle.fs_seen.proofs.Rests.{rests_still}
use Rattle.fs_seen.proofs.SeenAlike.{seeing, sees_as}
use Rattle.fs_seen.proofs.ServesAs.{serves_as}
use Rattle.fs_seen.proofs.ServesFor.{requested_stays, serves_for, stands_at}
use Rattle.fs_seen.proofs.Setting.{was_in_order}
use Rattle.fs_seen.proofs.StaysGone.{HasGone, SlotStays, counts_still, has_gone, stays_still, still_entry}
use Rattle.fs_seen.proofs.StaysSo.{CountsStay, disk_same, same_table, stands_so}
use Rattle.fs_seen.proofs.TablesAlike.{table_again}

-- ---- the page that goes with it

no_page : (state : ServerState) → (state.kind ≡ Some kind.Open → state.count ≢ 0) → page_with state ≡ (UTOP, 0)
no_page state none = by_kind state.kind none
  where
    by_test : (t : Bool) → (state.count == 0) ≡ t → state.count ≢ 0 →
        ◌≡◌ {A = ℕ × ℕ} (if t then (open_page state.number, open_perm) else (UTOP, 0)) (UTOP, 0)
    by_test true is other = absurd (other (grind (arith, nat_tests)))
    by_test false is other = refl

    by_kind : (k : Option RequestKind) → (k ≡ Some kind.Open → state.count ≢ 0) →
        ◌≡◌ {A = ℕ × ℕ} (if opens k && (state.count == 0) then (open_page state.number, open_perm) else (UTOP, 0)) (UTOP, 0)
    by_kind None other = refl
    by_kind (Some kind.Open) other = by_test (state.count == 0) refl (other refl)
    by_kind (Some kind.SetSize) other = refl
    by_kind (Some kind.Read) other = refl
    by_kind (Some kind.Write) other = refl
    by_kind (Some kind.Stat) other = refl
    by_kind (Some kind.Remove) other = refl
    by_kind (Some kind.Sync) other = refl
    by_kind (Some kind.Seek) other = refl
    by_kind (Some kind.ReadAt) other = refl

-- ---- from one of the two steps to the other

-- the same server at another step
abbrev at_other : Serving → ServerStep → Serving
at_other it at = record {
  state = record {
    step = at;
    kind = it.state.kind;
    client = it.state.client;
    number = it.state.number;
    home = it.state.home;
    at = it.state.at;
    count = it.state.count;
  };
  job = it.job;
  view = it.view;
}

still_replying : (a : AbstractState) (it : Serving) (before : Memory) (at : ServerStep) → IsReplying a it before →
    IsReplying a (at_other it at) before
still_replying a it before at h = record {
  bytes = h.bytes;
  object = h.object;
  server = h.server;
  memory = h.memory;
  handed = h.handed;
  has_object = by_object h.object h.has_object;
}
  where
    by_object : (o : Option ℕ) → HasObject a it o → HasObject a (at_other it at) o
    by_object None h = h
    by_object (Some name) h = h

module _ (a : AbstractState) (d : Disk) (s : KernelState) (h : IsServing d s 0 a) where
  abbrev st : ServerState
  st = server_at s 0

  pub standing : (at : ServerStep) → st.step ≡ at → at ≢ step.ReadingKind → StandsServing d.count a (serving_in d s 0)
  standing at is other = stands_at a d s 0 h.serves (λ same. other (sym is ∙ same))

  module _ (stands : StandsServing d.count a (serving_in d s 0)) (replies : IsReplying a (serving_in d s 0) stands.before) where
    word_goes : (client answer : ℕ) (bytes : List ℕ) → a.server ≡ acted client answer bytes None →
        (page_with st ≡ (UTOP, 0)) × (client_of st ≡ client) × (st.count ≡ answer)
    word_goes client answer bytes is =
        let both : acted (client_of st) st.count replies.bytes replies.object ≡ acted client answer bytes None = sym replies.server ∙ is in
        let none : replies.object ≡ None = cc in
        let who : client_of st ≡ client = cc in
        let what : st.count ≡ answer = cc in
        (no_page st (subst (λ (o : Option ℕ). HasObject a (serving_in d s 0) o) none replies.has_object), who, what)

    -- behind a step that leaves all that is seen
    module _ (mid after : KernelState) (at : ServerStep) (idle : is_working st.step ≡ false) (other : is_working at ≡ false)
        (gone : HasGone s mid after 0 (record { state = record st { step = at }; begins = None; seen = progress.Hidden }))
        (still : SlotStays s mid 0) (message : (slot_at mid 0).rendezvous ≡ (slot_at s 0).rendezvous) where
      counts_on : CountsStay s after 0
      counts_on number e below is = (λ i. reference_count (gone.spaces i) e.frame) ∙ counts_still d s mid 0 h.stands still number e below is

      entry_on : entry_of after 0 request_page ≡ entry_of s 0 request_page
      entry_on = gone.entries request_page ∙ still_entry d s mid 0 h.stands still request_page

      sees_on : SeesAlike (view_in d s 0) (view_in d after 0)
      sees_on =
          sees_same d s after 0 h.stands gone.stays counts_on entry_on
          (λ e is. (λ i. (gone.spaces i).pages e.frame) ∙ (λ i. (still.spaces i).pages e.frame)) (gone.message ∙ message)

      abbrev it : Serving
      it = at_other (serving_in d s 0) at

      step_is : (server_at after 0).step ≡ at
      step_is = ap (λ (x : ServerState). x.step) gone.server

      replying_on : StandsAtStep at d.count a it stands.before → StandsServing d.count a (serving_in d after 0)
      replying_on so =
          serves_as d.count a (seeing it (view_in d after 0)) (serving_in d after 0)
          (record {
            at_step = sym step_is;
            kind = λ i. (sym gone.server i).kind;
            client = λ i. (sym gone.server i).client;
            number = λ i. (sym gone.server i).number;
            words = λ off. sym gone.server;
            job = λ on. absurd (let contradiction : true ≡ false = sym on ∙ other in cc);
            view = refl;
          })
          (sees_as d.count a it (view_in d after 0) sees_on
          (record { before = stands.before; files = stands.files; table = stands.table; at = so }))

      goes_on : StandsAtStep at d.count a it stands.before → ServesOn d s after a at
      goes_on so = record {
        serving = record {
          stands = stands_so s after 0 gone.stays d h.stands;
          serves = serves_for a d after 0 (replying_on so);
          requested = requested_stays s after 0 (ap (λ (o : Option Entry). is_some o) entry_on) a.server h.requested;
          rests = rests_still s after 0 idle gone.stays.cache h.rests;
        };
        at_step = step_is;
        table = same_table s after 0 gone.stays;
      }

-- ---- the laws

-- the kernel has left the slot as it was
left_still : (d : Disk) (s mid : KernelState) → LeavesSlot s mid 0 → is_live (slot_at s 0) ≡ true → SlotStays s mid 0
left_still d s mid left live = record {
  lives = ap (λ (x : Slot). is_live x) left.slot ∙ live;
  env_type = ap (λ (x : Slot). x.env_type) left.slot;
  directory = ap (λ (x : Slot). x.directory) left.slot;
  words = ap (λ (x : Slot). x.extra) left.slot;
  spaces = left.spaces;
}

pub replies_with_word : RepliesWithWord
replies_with_word a d s client answer bytes at is h =
    let stands = standing a d s h step.Replying at (λ same. cc) in
    let replies = subst (λ (x : ServerStep). StandsAtStep x d.count a (serving_in d s 0) stands.before) at stands.at in
    let it = word_goes a d s h stands replies client answer bytes is in (
      ap (λ (x : ServerStep). call_for (server_at s 0) x) at ∙ ap (λ (p : ℕ × ℕ). replying (server_at s 0) p) it.0,
      it.1,
      it.2,
    )

pub replies_serve : RepliesServe
replies_serve a b d s mid after at h in_order left is server files table =
    let st : ServerState = server_at s 0 in
    let stands = standing a d s h step.Replying at (λ same. cc) in
    let replies = subst (λ (x : ServerStep). StandsAtStep x d.count a (serving_in d s 0) stands.before) at stands.at in
    let goes : next_at st 0 ≡ shown st step.Releasing = ap (λ (x : ServerStep). next_for st x 0) at in
    let here : after ≡ gone_on mid 0 (shown st step.Releasing) = is ∙ ap (λ (z : ServerNext). gone_on mid 0 z) goes in
    let still = left_still d s mid left h.stands.cache.live in
    let stays = stays_still d s mid 0 h.stands still (was_in_order mid 0 (shown st step.Releasing) after here in_order) in
    let gone = has_gone s mid 0 (shown st step.Releasing) refl (number_small s 0) stays after here in_order in
    let step_is : (server_at after 0).step ≡ step.Releasing = ap (λ (x : ServerState). x.step) gone.server in
    let counts : CountsStay s after 0 =
    λ number e below there. (λ i. reference_count (gone.spaces i) e.frame) ∙ counts_still d s mid 0 h.stands still number e below there in
    record {
      serving = leaving_serves b d after stands.before (stands_so s after 0 gone.stays d h.stands) server
          (subst (λ (f : FileSystem). HasFiles d.count stands.before f) (sym files) stands.files)
          (table_again stands.before.disk b b (view_in d s 0) (view_in d after 0) (same_state b) (table_seen d d s after 0 gone.stays counts)
          (table stands.before.disk stands.table))
          (subst (λ (x : ServerStep). StandsAtStep x d.count b (serving_in d after 0) stands.before) (sym step_is)
          (server, disk_same s after 0 gone.stays d ∙ ap (λ (m : Memory). m.disk) replies.memory))
          (rests_still s after 0 (ap is_working at) gone.stays.cache h.rests);
      at_step = step_is;
      table = same_table s after 0 gone.stays;
    }

pub waits_serve : WaitsServe
waits_serve a d s mid after at h in_order left is =
    let st : ServerState = server_at s 0 in
    let next : ServerNext = record { state = record st { step = step.Pausing }; begins = None; seen = progress.Waited } in
    let stands = standing a d s h step.Replying at (λ same. cc) in
    let replies = subst (λ (x : ServerStep). StandsAtStep x d.count a (serving_in d s 0) stands.before) at stands.at in
    let goes : next_at st (negated E_IPC_NOT_RECV) ≡ next = ap (λ (x : ServerStep). next_for st x (negated E_IPC_NOT_RECV)) at in
    let here : after ≡ gone_on mid 0 next = is ∙ ap (λ (z : ServerNext). gone_on mid 0 z) goes in
    let still = left_still d s mid left h.stands.cache.live in
    let stays = stays_still d s mid 0 h.stands still (was_in_order mid 0 next after here in_order) in
    let gone = has_gone s mid 0 next refl (number_small s 0) stays after here in_order in
    goes_on a d s h stands replies mid after step.Pausing (ap is_working at) refl
    (record { stays = gone.stays; server = gone.server; message = gone.message; entries = gone.entries; spaces = gone.spaces }) still
    (ap (λ (x : Slot). x.rendezvous) left.slot) (still_replying a (serving_in d s 0) stands.before step.Pausing replies)

module _ (a : AbstractState) (d : Disk) (s after : KernelState) (output : Output) (h : IsServing d s 0 a) (in_order : IsInOrder after)
    (at : (server_at s 0).step ≡ step.Pausing) where
  abbrev pausing : ServerState
  pausing = server_at s 0

  abbrev given_up : KernelState
  given_up = with_status s 0 Runnable

  up_there : slot_at given_up 0 ≡ record (slot_at s 0) { status = Runnable }
  up_there = slot_put s 0 (record (slot_at s 0) { status = Runnable })

  up_stays : SlotStays s given_up 0
  up_stays = record {
    lives = ap (λ (x : Slot). is_live x) up_there;
    env_type = ap (λ (x : Slot). x.env_type) up_there;
    directory = ap (λ (x : Slot). x.directory) up_there;
    words = ap (λ (x : Slot). x.extra) up_there;
    spaces = refl;
  }

  pauses : (done : Progress) → HasCalled (call_for pausing step.Pausing) pausing s after 0 output done →
      (done ≡ progress.Hidden) × ServesOn d s after a step.Replying
  pauses _ (by_word word mid reply behind) =
      let stands = standing a d s h step.Pausing at (λ same. cc) in
      let replies = subst (λ (x : ServerStep). StandsAtStep x d.count a (serving_in d s 0) stands.before) at stands.at in
      let step_made = yield_is s 0 h.stands.cache.live (0 ∷ 0 ∷ 0 ∷ 0 ∷ 0 ∷ []) in
      let came : mid ≡ given_up = reply.2.1 ∙ ap (λ (z : CallStep Called). z.state) step_made in
      let goes : next_at pausing word ≡ hidden pausing step.Replying = ap (λ (x : ServerStep). next_for pausing x word) at in
      let here : after ≡ gone_on given_up 0 (hidden pausing step.Replying) = behind ∙ (λ i. gone_on (came i) 0 (goes i)) in
      let stays = stays_still d s given_up 0 h.stands up_stays (was_in_order given_up 0 (hidden pausing step.Replying) after here in_order) in
      let gone = has_gone s given_up 0 (hidden pausing step.Replying) refl (number_small s 0) stays after here in_order in (
        ap (λ (z : ServerNext). z.seen) goes,
        goes_on a d s h stands replies given_up after step.Replying (ap is_working at) refl gone up_stays (ap (λ (x : Slot). x.rendezvous) up_there)
            (still_replying a (serving_in d s 0) stands.before step.Replying replies),
      )
  pauses done (was_stopped why end reply stops) = absurd reply

pub pauses_serve : PausesServe
pauses_serve a d s after output done at h in_order called =
    pauses a d s after output h in_order at done (called_at s after output done step.Pausing at called)
