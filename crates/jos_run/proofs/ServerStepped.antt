-- What a step of the file server comes to, and what is known of the server before and behind one while it serves. And that nobody sees it where it has
-- released the page of the last request.
use Rattle.std.proofs.Common.{◌≡◌, ◌≢◌, ◌∙◌, ◌+◌, ◌*◌, ◌<◌, ◌^◌, inr, ℕ, Bool, true, false, List, [], ◌∷◌, Option, Some, None}
use Rattle.std.proofs.Common.{refl, sym, ap, subst, get_or, arith}
use Rattle.jos_host.specs.Files.{Files}
use Rattle.jos_host.specs.Frames.{Around}
use Rattle.jos_base.specs.declared.called.Called.TheVariants.{Answered}
use Rattle.jos_base.specs.declared.numbers.TheConstants.{ENV_IPC_FROM, ENV_WORDS, SYS_PAGE_UNMAP, UENVS, UTEMP}
use Rattle.jos_base.specs.Environments.{Slot, is_runnable, is_running, record_words}
use Rattle.jos_base.specs.KernelState.{KernelState, slot_at, with_spaces}
use Rattle.jos_base.specs.Reach.{Entry}
use Rattle.jos_base.specs.SpacesState.{unmapped}
use Rattle.jos_base.specs.Words.{page_number}
use Rattle.lib_os.specs.declared.numbers.TheConstants.{MAXOPEN, REQUEST}
use Rattle.lib_os.specs.declared.progress.Progress.{Progress}
use Rattle.lib_os.specs.declared.progress.Progress.TheVariants as progress
use Rattle.lib_os.specs.AbstractLaws.{ServesWhoAsked, client_served}
use Rattle.lib_os.specs.AbstractRun.{abs_step}
use Rattle.lib_os.specs.AbstractState.{AbstractState, Server, acted, busy, idle, leaving, looking}
use Rattle.lib_os.specs.AskedFor.{OpensWell, ServesAsAsked}
use Rattle.lib_os.specs.Disk.{Disk, DiskFile}
use Rattle.lib_os.specs.FileServer.{server_step}
use Rattle.lib_os.specs.InOrder.{IsInOrder}
use Rattle.lib_os.specs.LibrarySteps.{NothingRefused}
use Rattle.lib_os.specs.MadeCalls.{calls, unmaps_request}
use Rattle.lib_os.specs.Rows.{IsPage, rows_of}
use Rattle.lib_os.specs.UserCalls.{Output, Prints, giving, load, system}
use Rattle.lib_os.proofs.AnswersFit.{server_fits}
use Rattle.lib_os.proofs.Calls.{comes_to, page_unmap_is}
use Rattle.lib_os.proofs.EntriesCount.{entry_counts}
use Rattle.lib_os.proofs.EntryWords.{row_entry}
use Rattle.lib_os.proofs.ServedStay.{served_clients_stay}
use Rattle.lib_os.proofs.ServerReplies.{served_is}
use Rattle.lib_os.proofs.ServersCalls.{server_call_stands}
use Rattle.lib_os.proofs.ServerStands.{first_slot}
use Rattle.lib_os.proofs.SlotsStand.{born_at, born_live}
use Rattle.lib_os.proofs.StatesStand.{born_not_first}
use Rattle.lib_os.proofs.WindowWords.{load_record_word, read_at}
use Rattle.fs_requests.specs.declared.plan.ServerCall.TheVariants as call
use Rattle.fs_requests.specs.declared.plan.ServerNext.{ServerNext}
use Rattle.fs_requests.specs.declared.state.ServerState.{ServerState}
use Rattle.fs_requests.specs.declared.state.ServerStep.{ServerStep}
use Rattle.fs_requests.specs.declared.state.ServerStep.TheVariants as step
use Rattle.fs_requests.specs.ServerPlans.{call_for, hidden, next_at, next_for}
use Rattle.fs_server.specs.ServerSteps.{HasCalled, by_word, gone_on, server_at, was_stopped}
use Rattle.fs_server.proofs.ServerMade.{server_sets}
use Rattle.fs_serving.specs.ServerRuns.{StandsServing, is_acting}
use Rattle.fs_seen.specs.ServerMemory.{HasWholeRequest, HasWords, request_page, sends_page, serving_in}
use Rattle.fs_seen.specs.ServerSees.{AllStands, HasCalledAt}
use Rattle.fs_seen.proofs.BetweenRequests.{releases_serve}
use Rattle.fs_seen.proofs.NamesShort.{short_names}
use Rattle.fs_seen.proofs.Over.{whole_none, whole_where}
use Rattle.fs_seen.proofs.ServesFor.{servers_stand}
use Rattle.jos_run.specs.ServerStands.{HasLent, IsLent, IsLentBy, MayGiveUpServing, StandsWhole, WholeFollows, client_id, step_of}
use Rattle.jos_run.specs.Worlds.{World, beside}
use Rattle.jos_run.proofs.ActsBehind.{acts_on}
use Rattle.jos_run.proofs.ServerGoes.{CallBehind, ServesClient, behind_slot, behind_stands, gone_directories, gone_spaces, gone_to, number_below}
use Rattle.jos_run.proofs.ServerGoes.{turn_kept}
use Rattle.jos_run.proofs.ServerNow.{client_there}
use Rattle.jos_run.proofs.ServerRows.{RowsStay, lent_rows}

-- ---- what it comes to

-- It has printed nothing, leaves the whole so, and keeps its turn or may give it up.
pub record Stepped (before : KernelState) (after : World) (a : AbstractState) (done : Progress) (output : Output) : Type 0 where
  pub quiet : Prints output []
  pub follows : IsInOrder after.state → NothingRefused before after.state → WholeFollows done 0 after a []
  pub calm : is_running (slot_at before 0).status ≡ true → is_runnable (slot_at after.state 0).status ≡ true → MayGiveUpServing done a

-- nobody sees it, and its status is the same
pub unseen : (before : KernelState) (after : World) (a : AbstractState) (done : Progress) (output : Output) → progress.Hidden ≡ done →
    Prints output [] → (IsInOrder after.state → NothingRefused before after.state → StandsWhole after a) → (slot_at after.state 0).status ≡ (slot_at before 0).status →
    Stepped before after a done output
unseen before after a done output is quiet stands status =
    subst (λ (p : Progress). Stepped before after a p output) is (record {
      quiet = quiet;
      follows = λ in_order nothing. (refl, stands in_order nothing);
      calm = λ running gave. turn_kept (slot_at before 0).status (slot_at after.state 0).status status running gave;
    })

-- while it is leaving or idle it serves nobody
pub serves_none : (b : AbstractState) (x : ServerStep) (k : Slot) → client_served b.server ≡ None → ServesClient b x k
serves_none b x k none client served = absurd (let contradiction : ◌≡◌ {A = Option ℕ} None (Some client) = sym none ∙ served in cc)

-- where its call has left the spaces, so does its step
pub rows_gone : (s mid after : KernelState) (next : ServerNext) → after ≡ gone_on mid 0 next → mid.spaces ≡ s.spaces →
    ((m : ℕ) → (slot_at mid m).directory ≡ (slot_at s m).directory) → RowsStay s after
rows_gone s mid after next is spaces directories = record {
  directories = λ m. ap (λ (z : KernelState). (slot_at z m).directory) is ∙ gone_directories mid next m ∙ directories m;
  others = λ q r other i. rows_of (all i) q r;
  request = λ i. rows_of (all i) (slot_at s 0).directory request_page;
}
  where
    all : after.spaces ≡ s.spaces
    all = ap (λ (z : KernelState). z.spaces) is ∙ gone_spaces mid next ∙ spaces

-- ---- each step

module _ (disk : DiskFile) (before after : KernelState) (files : Around (Option Files)) (output : Output) where
  abbrev state : ServerState
  state = server_at before 0

  module _ (d : Disk) (a : AbstractState) (whole : StandsWhole (beside before (Some d)) a) (words : HasWords before 0) where
    abbrev k : Slot
    k = slot_at before 0

    pub below : state.number < MAXOPEN
    below = number_below k.registers k.extra

    -- nothing is called, but the words are set
    pub as_before : CallBehind d before
    as_before = record { twelve = whole.1.twelve; brings = whole.1.brings }

    -- the call at its step
    pub called_at : (done : Progress) (x : ServerStep) → step_of k ≡ x → HasCalled (call_for state x) state before after 0 output done →
        HasCalledAt before after 0 output done
    called_at done x at called = subst (λ (y : ServerStep). HasCalled (call_for state y) state before after 0 output done) (sym at) called

    -- whom it serves, at a step where it stands
    pub serves_at : (x : ServerStep) → step_of k ≡ x → ServesClient a x k
    serves_at x at = subst (λ (y : ServerStep). ServesClient a y k) at whole.1.client

    -- the client's space is another
    pub client_apart : (client : ℕ) → client_served a.server ≡ Some client → (slot_at before client).directory ≢ k.directory
    client_apart client served same =
        let h = whole.0.1 in
        let it = client_there h client (client_id (step_of k) k) whole.1.asked served (whole.1.client client served) in
        born_not_first h client it.b it.at
        (h.in_order.spaces.apart 0 client (first_slot h).lives (born_live (born_at h client it.b it.at)) (sym same))

    -- a word of its own record
    reads_record : (i word : ℕ) → i < ENV_WORDS → get_or (record_words k) i 0 ≡ word → word < 2 ^ 32 →
        load before 0 (UENVS + 64 * 0 + 4 * i) ≡ read_at before 0 (UENVS + 64 * 0 + 4 * i) word
    reads_record i word within is small =
        load_record_word before 0 0 i (omega arith) within (subst (λ (w : ℕ). w < 2 ^ 32) (sym is) small)
        ∙ ap (λ (w : ℕ). read_at before 0 (UENVS + 64 * 0 + 4 * i) w) is

    sender_word : get_or (record_words k) ENV_IPC_FROM 0 ≡ k.rendezvous.sender
    unfolding record_words
    sender_word = refl

    pub reads_sender : load before 0 (UENVS + 4 * ENV_IPC_FROM) ≡ read_at before 0 (UENVS + 4 * ENV_IPC_FROM) k.rendezvous.sender
    reads_sender = reads_record ENV_IPC_FROM k.rendezvous.sender (omega arith) sender_word words.sender

    -- ---- while it serves

    pub acting_not_idle : is_acting a.server ≡ true → a.server ≢ idle
    acting_not_idle acts is = let contradiction : false ≡ true = sym (ap is_acting is) ∙ acts in cc

    pub acting_not_leaving : is_acting a.server ≡ true → a.server ≢ leaving
    acting_not_leaving acts is = let contradiction : false ≡ true = sym (ap is_acting is) ∙ acts in cc

    pub stands_serving : a.server ≢ idle → StandsServing d.count a (serving_in d before 0)
    stands_serving other = servers_stand a d before whole.1.serving other

    -- the page of a request is that of its client, and whole
    lent_whole : (client : ℕ) → client_served a.server ≡ Some client → IsLent before client → HasWholeRequest before 0
    lent_whole client served lent =
        let h = whole.0.1 in
        let c = entry_counts h (slot_at before client).directory (page_number UTEMP) lent.own (client_apart client served) lent.kept in
        let e = row_entry before.spaces k.directory (page_number REQUEST) lent.entry lent.stands in
        whole_where before 0 e.0 e.1
        (subst (λ (f : ℕ). IsPage (before.spaces.pages f)) (c.frame ∙ lent.same ∙ sym (ap (λ (y : Entry). y.frame) e.2))
        (h.whole c.slot c.page c.entry c.counts))

    lent_by_whole : (sends : Bool) (client : ℕ) → client_served a.server ≡ Some client → IsLentBy sends before client → HasWholeRequest before 0
    lent_by_whole true client served lent = lent_whole client served lent
    lent_by_whole false client served none = whole_none before 0 none

    request_whole : (server : Server) → a.server ≡ server → is_acting server ≡ true → HasLent server before → HasWholeRequest before 0
    request_whole (looking client request place) is acts lent = lent_by_whole (sends_page request) client (ap client_served is) lent
    request_whole (busy client request place) is acts lent = lent_by_whole (sends_page request) client (ap client_served is) lent
    request_whole leaving is acts lent = absurd (let contradiction : false ≡ true = acts in cc)
    request_whole idle is acts lent = absurd (let contradiction : false ≡ true = acts in cc)
    request_whole (acted client answer bytes object) is acts lent = absurd (let contradiction : false ≡ true = acts in cc)

    pub all_stand : is_acting a.server ≡ true → AllStands d before 0
    all_stand acts = record { stands = whole.1.serving.stands; words = words; request = request_whole a.server refl acts whole.1.lent }

    -- what is lent stays so where its call leaves the entries,
    pub lent_still : a.server ≢ leaving → RowsStay before after → HasLent a.server after
    lent_still other rows = lent_rows a.server other rows client_apart whole.1.lent

    -- and behind the act where the request has it
    pub lent_acts : (b : AbstractState) → is_acting a.server ≡ true → server_step a ≡ Some b → RowsStay before after → HasLent b.server after
    lent_acts b acts is rows = let behind = acts_on a b acts is in behind.lent after (lent_still (acting_not_leaving acts) rows)

    -- ---- behind its own step

    -- the step of the abstract system
    pub its_step : (b : AbstractState) → server_step a ≡ Some b → abs_step a 0 ≡ Some b
    unfolding server_step
    its_step b is = served_is whole.0.1 a.server refl ∙ is

    pub still_asked : (b : AbstractState) → server_step a ≡ Some b → ServesWhoAsked b
    still_asked b is = served_clients_stay a b 0 (omega arith) whole.1.asked (its_step b is)

    pub still_fits : (b : AbstractState) → a.server ≢ idle → OpensWell a a.server → server_step a ≡ Some b → ServesAsAsked b
    still_fits b other well is =
        let it = stands_serving other in server_fits a b (short_names d.count it.before a.files it.files) well whole.1.fits is

    -- ---- the page of the last request is released

    abbrev release_args : List ℕ
    release_args = 0 ∷ REQUEST ∷ 0 ∷ 0 ∷ 0 ∷ []

    abbrev released : KernelState
    released = with_spaces before (unmapped before.spaces k.directory (page_number REQUEST))

    pub release_steps : (done : Progress) → a.server ≡ leaving → step_of k ≡ step.Releasing →
        HasCalled (call.System SYS_PAGE_UNMAP release_args) state before after 0 output done → files.after ≡ files.before →
        Stepped before (beside after (Some d)) a done output
    release_steps done server at (by_word word mid reply is) same =
        let came = comes_to (system before 0 SYS_PAGE_UNMAP release_args) (Answered 0) reply.0 released mid [] output unmaps reply.2 in
        let goes : next_at state word ≡ next = ap (λ (x : ServerStep). next_for state x word) at in
        let here : after ≡ gone_on released 0 next = is ∙ (λ i. gone_on (came.1 i) 0 (goes i)) in
        unseen before (beside after (Some d)) a done output (ap (λ (z : ServerNext). z.seen) (sym goes))
        came.2
        (λ in_order nothing. let left = server_call_stands whole.0.1 (calls SYS_PAGE_UNMAP release_args) unmaps_request after disk files output
        (record { mid = mid; made = (reply.0, reply.2, same); left = inr (server_sets mid after 0 (next_at state word) is) }) tt whole.1.twelve in_order in
        let serves = releases_serve a d before after output done at whole.1.serving in_order
        (called_at done step.Releasing at (by_word word mid reply is)) in (
          (whole.0.0, left.stands),
          behind_stands d released after next a here below (record { twelve = whole.1.twelve; brings = whole.1.brings }) serves.1.serving
              (serves_none a step.Receiving (gone_to k next) (ap client_served server)) whole.1.asked whole.1.fits
              (subst (λ (x : Server). HasLent x after) (sym server) (λ receiving. serves.2)),
        ))
        (ap (λ (x : Slot). x.status) (behind_slot released after next here))
      where
        next : ServerNext
        next = hidden state step.Receiving

        unmaps : system before 0 SYS_PAGE_UNMAP release_args ≡ giving released (Answered 0)
        unmaps = page_unmap_is before 0 (first_slot whole.0.1).lives REQUEST (0 ∷ 0 ∷ 0 ∷ []) refl
    release_steps done server at (was_stopped why end reply stops) same = absurd reply
