-- sync, behind its request: it waits for the server's reply, and answers the word that it reads in the record of its own slot.
use Rattle.std.proofs.Common.{◌≡◌, ◌||◌, ℕ, true, [], ◌∷◌, ap}
use Rattle.jos_base.specs.declared.numbers.TheConstants.{FIRST_ENV_ID, SYS_IPC_RECV, UTOP}
use Rattle.jos_base.specs.Environments.{Slot, is_runnable, is_running}
use Rattle.jos_base.specs.KernelState.{KernelState, slot_at, with_extra}
use Rattle.lib_os.specs.declared.numbers.TheConstants.{SERVICE_SYNC}
use Rattle.lib_os.specs.declared.place.Place.TheVariants as place
use Rattle.lib_os.specs.declared.place.Step.TheVariants as step
use Rattle.lib_os.specs.declared.progress.Progress.TheVariants as progress
use Rattle.lib_os.specs.declared.service.Service.TheVariants as service
use Rattle.lib_os.specs.AbstractState.{AbstractState}
use Rattle.lib_os.specs.Answers.{answered}
use Rattle.lib_os.specs.FileServer.{await_reply}
use Rattle.lib_os.specs.InOrder.{IsInOrder}
use Rattle.lib_os.specs.LibrarySteps.{AbstractFollows, KeepsStanding, service_answered}
use Rattle.lib_os.specs.Places.{place_of, words_at}
use Rattle.lib_os.specs.Rows.{Names}
use Rattle.lib_os.specs.StandsFor.{StandsFor, HasAsked, HasReply, AwaitsOrHas, borne_in}
use Rattle.lib_os.specs.UserCalls.{load, system}
use Rattle.lib_os.proofs.Loading.{loaded}
use Rattle.lib_os.proofs.Numbered.{named_at}
use Rattle.lib_os.proofs.PipesStand.{is_calm}
use Rattle.lib_os.proofs.ReplyRead.{awaiting_stands, awaiting_step, awake_reply, reply_load, reply_stands, reply_step}
use Rattle.lib_os.proofs.Serving.{holds_page, printed_nothing, served}
use Rattle.lib_os.proofs.SlotsStand.{born_live}
use Rattle.lib_os.proofs.WindowWords.{read_at}
use Rattle.lib_request.specs.Replies.{reply_place}

module _ (s : KernelState) (n id : ℕ) where
  abbrev k : Slot
  k = slot_at s n

  -- ---- it waits

  pub awaiting_keeps : place_of k ≡ place.InService service.Sync (step.Awaiting id) →
      KeepsStanding progress.Visible n s
      (with_extra (system s n SYS_IPC_RECV (UTOP ∷ FIRST_ENV_ID ∷ 0 ∷ 0 ∷ 0 ∷ [])).state n (words_at SERVICE_SYNC (step.ReadingReply id))) []
  awaiting_keeps stands a h turn quiet =
      let v = served h.1 n service.Sync (step.Awaiting id) stands in
      let at : (id ≡ k.id) × HasAsked k v.b service.Sync = v.at in (
        await_reply a n v.b service.Sync,
        awaiting_step h.1 n v.b v.is v.outside (ap borne_in v.place) (ap holds_page v.place) (ap is_calm v.place) at.1,
        printed_nothing a,
        (
          h.0,
          awaiting_stands h.1 n v.b v.is v.outside (ap borne_in v.place) (ap holds_page v.place) (ap is_calm v.place) id (0 ∷ 0 ∷ 0 ∷ []) at.0 at.1
              (named_at k service.Sync (step.Awaiting id) stands),
        ),
      )

  -- ---- the reply

  module _ (stands : place_of k ≡ place.InService service.Sync (step.ReadingReply id)) (awake : (is_runnable k.status || is_running k.status) ≡ true)
      (names : Names) (a : AbstractState) (h : StandsFor names s a) where
    pub reply_there : load s n (reply_place id) ≡ read_at s n (reply_place id) k.rendezvous.value
    reply_there =
        let v = served h n service.Sync (step.ReadingReply id) stands in
        let at : (id ≡ k.id) × AwaitsOrHas k v.b service.Sync = v.at in
        reply_load s n id (h.tabled.ids n (born_live v.own)) at.0 (awake_reply k v.b service.Sync v.own.runs awake at.1).small

    pub reply_follows : IsInOrder (loaded s n (reply_place id)) →
        AbstractFollows progress.Finished n (service_answered (loaded s n (reply_place id)) n k.rendezvous.value) a []
    reply_follows order =
        let v = served h n service.Sync (step.ReadingReply id) stands in
        let at : (id ≡ k.id) × AwaitsOrHas k v.b service.Sync = v.at in
        let has : HasReply k v.b service.Sync = awake_reply k v.b service.Sync v.own.runs awake at.1 in (
          answered a n v.b has.regs k.rendezvous.value,
          reply_step h n v.b v.is v.outside (ap borne_in v.place) (ap holds_page v.place) (ap is_calm v.place) has,
          printed_nothing a,
          (names, reply_stands h n v.b v.is v.outside (ap borne_in v.place) (ap holds_page v.place) (ap is_calm v.place) has (reply_place id) order),
        )
