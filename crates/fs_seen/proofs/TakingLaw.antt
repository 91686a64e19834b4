-- The step in which the server takes a page for a place: the server by itself makes it too, or none was to be had.
use Rattle.std.proofs.Common.{◌≡◌, ◌∙◌, ◌⊎◌, inl, inr, ℕ, Ok, Err, refl, sym, ap, subst, arith}
use Rattle.jos_base.specs.KernelState.{KernelState}
use Rattle.lib_os.specs.Disk.{Disk}
use Rattle.lib_os.specs.InOrder.{IsInOrder}
use Rattle.lib_os.specs.UserCalls.{Output}
use Rattle.fs_tree.specs.TreeSteps.{job_in}
use Rattle.fs_requests.specs.declared.plan.ServerNext.{ServerNext}
use Rattle.fs_requests.specs.declared.state.ServerState.{ServerState}
use Rattle.fs_requests.specs.declared.state.ServerStep.{ServerStep}
use Rattle.fs_requests.specs.declared.state.ServerStep.TheVariants as step
use Rattle.fs_requests.specs.ServerPlans.{call_for, next_at}
use Rattle.fs_serving.specs.ServerViews.{View, with_new_page}
use Rattle.fs_server.specs.ServerSteps as server
use Rattle.fs_server.specs.ServerSteps.{IsReply, by_word, server_at, was_stopped}
use Rattle.fs_seen.specs.ServerMemory.{serving_in, view_in}
use Rattle.fs_seen.specs.ServerSees.{LacksPage, IsSeen, HavePages, PagesAreTaken, AllStands, ServesAlike}
use Rattle.fs_seen.proofs.CallsSeen.{HasGiven, own_below, seen_by}
use Rattle.fs_seen.proofs.GoesOn.{goes_well}
use Rattle.fs_seen.proofs.Setting.{going_to, has_gone_on, was_in_order}
use Rattle.fs_seen.proofs.TakingSeen.{HasAsked, made, page_asked_for, refused}

-- to go on refuses nothing
refusals_stay : (mid : KernelState) (n : ℕ) (next : ServerNext) → (server.gone_on mid n next).refusals ≡ mid.refusals
unfolding server.gone_on
refusals_stay mid n next = refl

module _ (d : Disk) (s mid after : KernelState) (n : ℕ) (output : Output) (word : ℕ) (taking : (server_at s n).step ≡ step.TakingPage)
    (have : HavePages (view_in d s n)) (h : AllStands d s n)
    (order : IsInOrder after) (is : after ≡ server.gone_on mid n (next_at (server_at s n) word)) where
  abbrev st : ServerState
  st = server_at s n

  abbrev next : ServerNext
  next = next_at st word

  taken_or_refused : HasAsked d s mid n st.number word → IsSeen d s after n next.seen ⊎ LacksPage d s after n next.seen
  taken_or_refused (made frame holders zero behind once others) =
      inl (seen_by d s n output h mid after word
      (subst (λ (at : ServerStep). HasGiven d s mid n at st word) (sym taking)
      (record {
        view = with_new_page (view_in d s n) st.number frame holders;
        gives = zero;
        seen = (frame, holders, refl, once, λ j inside ne used. others j inside ne (have j inside used));
        behind = behind;
      }))
      order is)
  taken_or_refused (refused told behind refusal) =
      let gone = has_gone_on mid n next d (goes_well st st.step word (own_below d s n output h)) behind.over
      (job_in s n) after is order in
      inr (record {
        counted = λ small. (let count = ap (λ (k : KernelState). k.refusals) is ∙ refusals_stay mid n next ∙ ap
            (λ (k : KernelState). k.refusals) refusal in omega (arith, count, small));
        stands_as = subst (λ (w : ℕ). ServesAlike (going_to (next_at st w) (job_in s n) (view_in d s n)) (serving_in d after n)) told
            (subst (λ (v : View). ServesAlike (going_to next (job_in s n) v) (serving_in d after n)) behind.view gone.stands_as);
        shows = ap (λ (w : ℕ). (next_at st w).seen) told;
        stands = gone.over;
        request_stays = gone.request_stays ∙ behind.request_stays;
      })

pub pages_are_taken : PagesAreTaken
pages_are_taken d s after n output _ taking have h order (by_word word mid reply is) =
    let st : ServerState = server_at s n in
    let told = subst (λ (at : ServerStep). IsReply (call_for st at) s n (Ok word) mid output) taking reply in
    taken_or_refused d s mid after n output word taking have h order is
    (page_asked_for d s mid n output st.number word (own_below d s n output h) h.stands
    (was_in_order mid n (next_at st word) after is order) told.0 told.1 told.2)
pages_are_taken d s after n output _ taking have h order (was_stopped why done reply stopped) =
    absurd (subst (λ (at : ServerStep). IsReply (call_for (server_at s n) at) s n (Err why) after output) taking reply)
