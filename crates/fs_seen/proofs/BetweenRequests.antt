-- The server gives back the page of the request that it has served, and waits for the next.
use Rattle.std.proofs.Common.{◌≡◌, ◌≢◌, ◌∙◌, ℕ, false, [], ◌∷◌, Option, Some, refl, sym, ap, subst}
use Rattle.std.specs.Prelude.{is_some}
use Rattle.jos_base.specs.declared.called.Called.{Called}
use Rattle.jos_base.specs.Environments.{Slot, is_live}
use Rattle.jos_base.specs.KernelState.{KernelState, slot_at, with_spaces}
use Rattle.jos_base.specs.Reach.{Entry}
use Rattle.jos_base.specs.SpacesState.{reference_count}
use Rattle.lib_os.specs.declared.numbers.TheConstants.{REQUEST}
use Rattle.lib_os.specs.declared.progress.Progress.{Progress}
use Rattle.lib_os.specs.declared.progress.Progress.TheVariants as progress
use Rattle.lib_os.specs.AbstractState.{AbstractState, Server, idle}
use Rattle.lib_os.specs.Disk.{Disk}
use Rattle.lib_os.specs.FileServer.{served, server_step}
use Rattle.lib_os.specs.InOrder.{IsInOrder}
use Rattle.lib_os.specs.UserCalls.{CallStep, Output}
use Rattle.lib_os.proofs.Calls.{page_unmap_is}
use Rattle.lib_os.proofs.ServerReplies.{ready_slot, ready_state, receive_is}
use Rattle.lib_os.proofs.Slots.{slot_put}
use Rattle.fs_requests.specs.declared.plan.ServerNext.{ServerNext}
use Rattle.fs_requests.specs.declared.state.ServerState.{ServerState}
use Rattle.fs_requests.specs.declared.state.ServerStep.{ServerStep}
use Rattle.fs_requests.specs.declared.state.ServerStep.TheVariants as step
use Rattle.fs_requests.specs.ServerPlans.{call_for, hidden, next_at, next_for, shown}
use Rattle.fs_serving.specs.ServerRuns.{StandsAtStep, StandsServing, TableStands}
use Rattle.fs_server.specs.ServerSteps.{HasCalled, by_word, gone_on, server_at, was_stopped}
use Rattle.fs_seen.specs.ServerMemory.{has_request, request_page, serving_in, view_in}
use Rattle.fs_seen.specs.ServerSees.{is_working}
use Rattle.fs_seen.specs.ServerWhole.{IsServing, ReceivesServe, ReleasesServe, ServesOn}
use Rattle.fs_seen.proofs.Between.{called_at, files_over, leaving_serves, number_small, same_objects, same_state, table_seen}
use Rattle.fs_seen.proofs.Rests.{rests_still}
use Rattle.fs_seen.proofs.ServesFor.{stands_at}
use Rattle.fs_seen.proofs.Setting.{was_in_order}
use Rattle.fs_seen.proofs.StaysGone.{HasGone, SlotStays, counts_released, counts_still, given_back, has_gone, none_there, stays_released, stays_still, still_entry}
use Rattle.fs_seen.proofs.StaysSo.{CountsStay, disk_same, same_table, stands_so}
use Rattle.fs_seen.proofs.TablesAlike.{table_again}

module _ (a : AbstractState) (d : Disk) (s after : KernelState) (output : Output) (h : IsServing d s 0 a) (in_order : IsInOrder after) where
  abbrev st : ServerState
  st = server_at s 0

  standing : (at : ServerStep) → st.step ≡ at → at ≢ step.ReadingKind → StandsServing d.count a (serving_in d s 0)
  standing at is other = stands_at a d s 0 h.serves (λ same. other (sym is ∙ same))

  counts_on : (mid : KernelState) → after.spaces ≡ mid.spaces → CountsStay s mid 0 → CountsStay s after 0
  counts_on mid same counts number e below is = (λ i. reference_count (same i) e.frame) ∙ counts number e below is

  -- ---- it gives back the page

  module _ (at : st.step ≡ step.Releasing) where
    abbrev released : KernelState
    released = with_spaces s (given_back d s 0 h.stands)

    released_serves : (gone : HasGone s released after 0 (hidden st step.Receiving)) →
        ServesOn d s after a step.Receiving × (has_request after 0 ≡ false)
    released_serves gone = (
      record {
        serving = leaving_serves a d after stands.before (stands_so s after 0 gone.stays d h.stands) is.0 stands.files
            (table_again stands.before.disk a a (view_in d s 0) (view_in d after 0) (same_state a)
            (table_seen d d s after 0 gone.stays (counts_on released gone.spaces (counts_released d s 0 h.stands))) stands.table)
            (subst (λ (x : ServerStep). StandsAtStep x d.count a (serving_in d after 0) stands.before) (sym step_is)
            (is.0, disk_same s after 0 gone.stays d ∙ is.1))
            (rests_still s after 0 (ap is_working at) gone.stays.cache h.rests);
        at_step = step_is;
        table = same_table s after 0 gone.stays;
      },
      ap (λ (o : Option Entry). is_some o) (gone.entries request_page ∙ none_there d s 0 h.stands),
    )
      where
        stands : StandsServing d.count a (serving_in d s 0)
        stands = standing step.Releasing at (λ same. cc)

        is : StandsAtStep step.Releasing d.count a (serving_in d s 0) stands.before
        is = subst (λ (x : ServerStep). StandsAtStep x d.count a (serving_in d s 0) stands.before) at stands.at

        step_is : (server_at after 0).step ≡ step.Receiving
        step_is = ap (λ (x : ServerState). x.step) gone.server

    releases : (done : Progress) → HasCalled (call_for st step.Releasing) st s after 0 output done →
        (done ≡ progress.Hidden) × ServesOn d s after a step.Receiving × (has_request after 0 ≡ false)
    releases _ (by_word word mid reply behind) =
        let step_made = page_unmap_is s 0 h.stands.cache.live REQUEST (0 ∷ 0 ∷ 0 ∷ []) refl in
        let came : mid ≡ released = reply.2.1 ∙ ap (λ (z : CallStep Called). z.state) step_made in
        let goes : next_at st word ≡ hidden st step.Receiving = ap (λ (x : ServerStep). next_for st x word) at in
        let here : after ≡ gone_on released 0 (hidden st step.Receiving) = behind ∙ (λ i. gone_on (came i) 0 (goes i)) in
        let stays = stays_released d s 0 h.stands (was_in_order released 0 (hidden st step.Receiving) after here in_order) in
        let behind_it = released_serves (has_gone s released 0 (hidden st step.Receiving) refl (number_small s 0) stays after here in_order) in
        (ap (λ (z : ServerNext). z.seen) goes, behind_it.0, behind_it.1)
    releases done (was_stopped why end reply stops) = absurd reply

  -- ---- it waits for a request

  module _ (at : st.step ≡ step.Receiving) where
    abbrev ready : KernelState
    ready = ready_state s

    ready_there : slot_at ready 0 ≡ ready_slot (slot_at s 0)
    ready_there = slot_put s 0 (ready_slot (slot_at s 0))

    ready_stays : SlotStays s ready 0
    ready_stays = record {
      lives = ap (λ (x : Slot). is_live x) ready_there;
      env_type = ap (λ (x : Slot). x.env_type) ready_there;
      directory = ap (λ (x : Slot). x.directory) ready_there;
      words = ap (λ (x : Slot). x.extra) ready_there;
      spaces = refl;
    }

    abbrev waiting : AbstractState
    waiting = record a { server = idle }

    ready_serves : (gone : HasGone s ready after 0 (shown st step.ReadingKind)) →
        (server_step a ≡ Some waiting) × ServesOn d s after waiting step.ReadingKind × (has_request after 0 ≡ has_request s 0)
    unfolding server_step
    ready_serves gone = (
      ap (λ (x : Server). served a x) is.0,
      record {
        serving = record {
          stands = stands_so s after 0 gone.stays d h.stands;
          serves = record {
            at = step_is;
            files = files_over d.count stands.before _ a.files disk_is stands.files;
            table = subst (λ (disk : ℕ → ℕ). TableStands disk waiting (view_in d after 0)) (sym disk_is)
                (table_again stands.before.disk a waiting (view_in d s 0) (view_in d after 0) (same_objects a idle)
                (table_seen d d s after 0 gone.stays (counts_on ready gone.spaces (counts_still d s ready 0 h.stands ready_stays))) stands.table);
          };
          requested = tt;
          rests = rests_still s after 0 (ap is_working at) gone.stays.cache h.rests;
        };
        at_step = step_is;
        table = same_table s after 0 gone.stays;
      },
      ap (λ (o : Option Entry). is_some o) (gone.entries request_page ∙ still_entry d s ready 0 h.stands ready_stays request_page),
    )
      where
        stands : StandsServing d.count a (serving_in d s 0)
        stands = standing step.Receiving at (λ same. cc)

        is : StandsAtStep step.Receiving d.count a (serving_in d s 0) stands.before
        is = subst (λ (x : ServerStep). StandsAtStep x d.count a (serving_in d s 0) stands.before) at stands.at

        disk_is : (view_in d after 0).memory.disk ≡ stands.before.disk
        disk_is = disk_same s after 0 gone.stays d ∙ is.1

        step_is : (server_at after 0).step ≡ step.ReadingKind
        step_is = ap (λ (x : ServerState). x.step) gone.server

    receives : (done : Progress) → HasCalled (call_for st step.Receiving) st s after 0 output done →
        (done ≡ progress.Visible) × (server_step a ≡ Some waiting) × ServesOn d s after waiting step.ReadingKind
        × (has_request after 0 ≡ has_request s 0)
    receives _ (by_word word mid reply behind) =
        let step_made = receive_is s (0 ∷ 0 ∷ 0 ∷ []) h.stands.cache.live in
        let came : mid ≡ ready = reply.2.1 ∙ ap (λ (z : CallStep Called). z.state) step_made in
        let goes : next_at st word ≡ shown st step.ReadingKind = ap (λ (x : ServerStep). next_for st x word) at in
        let here : after ≡ gone_on ready 0 (shown st step.ReadingKind) = behind ∙ (λ i. gone_on (came i) 0 (goes i)) in
        let stays = stays_still d s ready 0 h.stands ready_stays (was_in_order ready 0 (shown st step.ReadingKind) after here in_order) in
        let behind_it = ready_serves (has_gone s ready 0 (shown st step.ReadingKind) refl (number_small s 0) stays after here in_order) in
        (ap (λ (z : ServerNext). z.seen) goes, behind_it.0, behind_it.1, behind_it.2)
    receives done (was_stopped why end reply stops) = absurd reply

pub releases_serve : ReleasesServe
releases_serve a d s after output done at h in_order called =
    releases a d s after output h in_order at done (called_at s after output done step.Releasing at called)

pub receives_serve : ReceivesServe
receives_serve a d s after output done at h in_order called =
    receives a d s after output h in_order at done (called_at s after output done step.Receiving at called)
