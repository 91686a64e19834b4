-- Each step of the file server that makes a call of its own for a request, from where the request is read up to its act: what the call does is seen by
-- nobody, or it is the step of the abstract server. A store to the page of a place which clients have is that of the file's offset, and moves that.
use Rattle.std.proofs.Common.{◌≡◌, ◌≢◌, ◌∙◌, ◌⊎◌, inl, inr, ◌+◌, ◌*◌, ◌%◌, ◌<◌, ℕ, true, false, List, [], ◌∷◌, length, Option, Some, None, Ok, Err, refl}
use Rattle.std.proofs.Common.{sym, ap, subst, arith}
use Rattle.std.specs.Option.{option_map}
use Rattle.std.proofs.lemmas.Option.{same_Some}
use Rattle.jos_host.specs.Files.{Files}
use Rattle.jos_host.specs.Frames.{Around}
use Rattle.jos_base.specs.declared.numbers.TheConstants.{ENV_IPC_FROM, PGSIZE, SYS_GETENVID, SYS_PAGE_ALLOC, UENVS}
use Rattle.jos_base.specs.Environments.{Environments, Slot}
use Rattle.jos_base.specs.KernelState.{KernelState, slot_at}
use Rattle.jos_base.specs.Reach.{Entry}
use Rattle.jos_base.specs.Words.{page_number}
use Rattle.lib_os.specs.declared.numbers.TheConstants.{DEVICE_FILE, FD_DEVICE, FD_FILE, FD_MODE, FD_OFFSET, FD_SIZE, MAXOPEN, OPEN_RECORDS}
use Rattle.lib_os.specs.declared.progress.Progress.{Progress}
use Rattle.lib_os.specs.declared.progress.Progress.TheVariants as progress
use Rattle.lib_os.specs.declared.request.RequestKind.{RequestKind}
use Rattle.lib_os.specs.declared.request.RequestKind.TheVariants as kind
use Rattle.lib_os.specs.declared.user_os.Stop.{Stop}
use Rattle.lib_os.specs.AbstractLaws.{client_served}
use Rattle.lib_os.specs.AbstractState.{AbstractSlot, AbstractState, idle, slot_id}
use Rattle.lib_os.specs.AskedFor.{OpensWell}
use Rattle.lib_os.specs.DescriptorPages.{place_page}
use Rattle.lib_os.specs.Disk.{Disk, DiskFile}
use Rattle.lib_os.specs.FileServer.{server_step}
use Rattle.lib_os.specs.InOrder.{IsInOrder}
use Rattle.lib_os.specs.LibrarySteps.{NothingRefused}
use Rattle.lib_os.specs.MadeCalls.{IsMade, IsServersCall, MakesCall, UserCall, asks_id, calls, gave, is_server_page, loads, place_address, stores, takes_place}
use Rattle.lib_os.specs.Rows.{lasting, rows_of}
use Rattle.lib_os.specs.StandsFor.{StandsFor}
use Rattle.lib_os.specs.UserCalls.{IsStep, Output, Prints, store}
use Rattle.lib_os.proofs.CallsMade.{in_place, in_records}
use Rattle.lib_os.proofs.Loading.{loaded_word}
use Rattle.lib_os.proofs.OffsetStored.{offset_stands}
use Rattle.lib_os.proofs.ServerActs.{acted_stands, served_stands}
use Rattle.lib_os.proofs.ServersCalls.{MayCall, records_plain, server_call_stands}
use Rattle.lib_os.proofs.ServerStands.{IsPrivateAt, place_private, plain_private, words_stand}
use Rattle.lib_os.proofs.Serving.{printed_nothing}
use Rattle.fs_blocks.specs.declared.place.CacheState.{CacheState}
use Rattle.fs_blocks.specs.CachePlaces.{state_in}
use Rattle.fs_requests.specs.declared.plan.ServerCall.TheVariants as call
use Rattle.fs_requests.specs.declared.plan.ServerNext.{ServerNext}
use Rattle.fs_requests.specs.declared.state.ServerState.{ServerState}
use Rattle.fs_requests.specs.declared.state.ServerStep.{ServerStep}
use Rattle.fs_requests.specs.declared.state.ServerStep.TheVariants as step
use Rattle.fs_requests.specs.ServerPlans.{call_at, call_for, next_at, next_for, open_page, open_perm, open_record, place_va}
use Rattle.fs_runs.specs.TreeRuns.{Memory}
use Rattle.fs_server.specs.ServerSteps.{IsReply, by_word, gone_on, server_at, was_stopped}
use Rattle.fs_server.proofs.ServerMade.{server_sets}
use Rattle.fs_serving.specs.ServerRuns.{IsChecking, IsLooking, IsOpening, IsStoring, StandsAtStep, StandsServing, is_acting, moved, opened, sought}
use Rattle.fs_serving.specs.ServerViews.{Serving}
use Rattle.fs_seen.specs.ServerMemory.{HasWords, serving_in, view_in}
use Rattle.fs_seen.specs.ServerMemory as memory
use Rattle.fs_seen.specs.ServerSees.{AllStands, HasCalledAt, HasPlace, HasServed, LacksPage, NeedsAt, ReadsPage, makes_call}
use Rattle.fs_seen.specs.ServerWhole.{GoesOnServing, IsServing}
use Rattle.fs_seen.proofs.CallsMade.{e, e_stands}
use Rattle.fs_seen.proofs.CallsSeen.{calls_go_on}
use Rattle.fs_seen.proofs.GoesOn.{goes_well}
use Rattle.fs_seen.proofs.Needs.{has_needs, reads_page}
use Rattle.fs_seen.proofs.ServesFor.{served_is_kept}
use Rattle.fs_seen.proofs.ServesOver.{calls_serve, quiet_or_taking}
use Rattle.fs_seen.proofs.Setting.{was_in_order}
use Rattle.jos_run.specs.ServerStands.{BringsOwn, IsClient, StandsWhole, WholeFollows, client_id}
use Rattle.jos_run.specs.Worlds.{beside}
use Rattle.jos_run.proofs.ActsBehind.{StaysBehind, acts_on}
use Rattle.jos_run.proofs.CallActs.{ActsAlone, MovesOffset, Shows, checks_act, done_acts, looks_show, moved_moves, opened_shows, sought_moves}
use Rattle.jos_run.proofs.CallNexts.{asked_unseen, counted_unseen, keeps_client, taken_unseen}
use Rattle.jos_run.proofs.ServerGoes.{CallBehind, ServesClient, behind_stands, gone_to, stands_told, turn_kept}
use Rattle.jos_run.proofs.ServerRows.{Gives, LeavesRequestBy, RowsStay, quietly_by, rows_by, status_stays}
use Rattle.jos_run.proofs.ServerStepped.{Stepped, acting_not_idle, acting_not_leaving, all_stand, below, its_step, lent_acts, lent_still, reads_sender}
use Rattle.jos_run.proofs.ServerStepped.{stands_serving, still_asked, still_fits}

-- where the place of the next byte is told is a word of its own
place_aligned : (kind : Option RequestKind) (number : ℕ) → place_va kind number % 4 ≡ 0
place_aligned None number = omega arith
place_aligned (Some kind.Open) number = omega arith
place_aligned (Some kind.SetSize) number = omega arith
place_aligned (Some kind.Read) number = omega arith
place_aligned (Some kind.Write) number = omega arith
place_aligned (Some kind.Stat) number = omega arith
place_aligned (Some kind.Remove) number = omega arith
place_aligned (Some kind.Sync) number = omega arith
place_aligned (Some kind.Seek) number = omega arith
place_aligned (Some kind.ReadAt) number = refl

-- how what is seen of a step may come about
data Way (a : AbstractState) (seen : Progress) : Type 0 where
  unseen : seen ≡ progress.Hidden → Way a seen
  shows : Shows a → Way a seen
  acts_alone : ActsAlone a → Way a seen

module _ (disk : DiskFile) (before after : KernelState) (files : Around (Option Files)) (output : Output) (d : Disk) (a : AbstractState)
    (whole : StandsWhole (beside before (Some d)) a) (words : HasWords before 0) (acts : is_acting a.server ≡ true) where
  abbrev k : Slot
  k = slot_at before 0

  abbrev state : ServerState
  state = server_at before 0

  abbrev it : Serving
  it = serving_in d before 0

  not_idle_so : a.server ≢ idle
  not_idle_so = acting_not_idle disk before after files output d a whole words acts

  serving_so : StandsServing d.count a it
  serving_so = stands_serving disk before after files output d a whole words not_idle_so

  all_so : AllStands d before 0
  all_so = all_stand disk before after files output d a whole words acts

  its_number : state.number < MAXOPEN
  its_number = below disk before after files output d a whole words

  needs_so : NeedsAt state.step state (view_in d before 0) 0
  needs_so = has_needs d.count a it 0 refl serving_so

  reads_so : ReadsPage before 0
  reads_so = reads_page d.count a it before 0 whole.1.serving.requested serving_so

  -- ---- where the host fails

  pub call_goes_on : (why : Stop) → makes_call state.step ≡ true → IsReply (call_at state) before 0 (Err why) after output → ⊥
  call_goes_on why makes reply = elim (quiet_or_taking state.step makes) [
    | inl quiet ↦ calls_go_on d before after 0 output why quiet needs_so reads_so all_so reply
    | inr taking ↦ subst (λ (x : ServerStep). IsReply (call_for state x) before 0 (Err why) after output) taking reply
  ]

  -- ---- which call it is

  -- A call was made of those that it makes, which leaves the page of a request, and gives something.
  record CallMade (mid : KernelState) : Type 0 where
    call : UserCall
    own : IsServersCall call
    leaves : LeavesRequestBy call own
    made : IsMade call before 0 disk files mid output
    gives : Gives call before

  -- No client sees it; or it stores an offset.
  data HowMade (mid : KernelState) (seen : Progress) : CallMade mid → Type 0 where
    alone : (it : CallMade mid) → MayCall it.call it.own before a → Way a seen → HowMade mid seen it
    stores_offset : (it : CallMade mid) → state.step ≡ step.StoringOffset →
        IsStep (store before 0 (open_page state.number + FD_OFFSET) state.at) (Ok tt) mid output → MovesOffset a state.number state.at →
        HowMade mid seen it

  abbrev Made : KernelState → Progress → Type 0
  Made mid seen = (it : CallMade mid) × HowMade mid seen it

  -- the page of a place is that of its number
  place_at : (at : ℕ) → at < PGSIZE → place_page state.number ≡ page_number (open_page state.number + at)
  place_at at small = let number = its_number in omega (arith, number, small)

  place_first : place_page state.number ≡ page_number (open_page state.number)
  place_first = let number = its_number in omega (arith, number)

  within : state.number % MAXOPEN < MAXOPEN
  within = omega arith

  same_number : state.number ≡ state.number % MAXOPEN
  same_number = let number = its_number in omega (arith, number)

  opening_private : {m : Memory} {path : List ℕ} {mode : ℕ} → IsOpening a it m path mode → IsPrivateAt before (place_page state.number)
  opening_private h = place_private whole.0.1 state.number its_number h.nobodys

  module _ (word : ℕ) (mid : KernelState) (same : files.after ≡ files.before) where
    loads_made : {seen : Progress} (va : ℕ) → Way a seen → va % 4 ≡ 0 → IsReply (call.Load va) before 0 (Ok word) mid output → Made mid seen
    loads_made va way aligned reply =
        let made : CallMade mid = record { call = loads va; own = aligned; leaves = tt; made = (gave word reply, same); gives = (word, reply.0) } in
        (made, alone made (word, reply.0) way)

    stores_made : {seen : Progress} (va value : ℕ) → Way a seen → va % 4 ≡ 0 → is_server_page (page_number va) ≡ true → IsPrivateAt before (page_number va) →
        IsReply (call.Store va value) before 0 (Ok word) mid output → Made mid seen
    stores_made va value way aligned page private reply =
        let made : CallMade mid =
        record { call = stores va value; own = (aligned, page); leaves = tt; made = (gave tt reply.1, same); gives = reply.1.0 } in
        (made, alone made (reply.1.0, private) way)

    places_made : {seen : Progress} (at value : ℕ) → Way a seen → at < PGSIZE → at % 4 ≡ 0 → IsPrivateAt before (place_page state.number) →
        IsReply (call.Store (open_page state.number + at) value) before 0 (Ok word) mid output → Made mid seen
    places_made at value way small aligned private reply =
        stores_made (open_page state.number + at) value way (omega (arith, aligned)) (in_place (state.number % MAXOPEN) at within small)
        (subst (λ (p : ℕ). IsPrivateAt before p) (place_at at small) private) reply

    offset_made : {seen : Progress} → state.step ≡ step.StoringOffset → MovesOffset a state.number state.at →
        IsReply (call.Store (open_page state.number + FD_OFFSET) state.at) before 0 (Ok word) mid output → Made mid seen
    offset_made at moves reply =
        let made : CallMade mid =
        record {
          call = stores (open_page state.number + FD_OFFSET) state.at;
          own = (omega arith, in_place (state.number % MAXOPEN) FD_OFFSET within (omega arith));
          leaves = tt;
          made = (gave tt reply.1, same);
          gives = reply.1.0;
        } in
        (made, stores_offset made at reply.1 moves)

    records_made : {seen : Progress} → Way a seen → IsReply (call.Store (open_record state.number) state.home) before 0 (Ok word) mid output → Made mid seen
    records_made way reply =
        let page : page_number OPEN_RECORDS ≡ page_number (open_record state.number) = omega arith in
        stores_made (open_record state.number) state.home way (omega arith) (in_records (4 * (state.number % MAXOPEN)) (omega arith))
        (subst (λ (p : ℕ). IsPrivateAt before p) page (plain_private whole.0.1 (page_number OPEN_RECORDS) records_plain)) reply

    takes_made : {seen : Progress} {m : Memory} {path : List ℕ} {mode : ℕ} → Way a seen → IsOpening a it m path mode →
        IsReply (call.System SYS_PAGE_ALLOC (0 ∷ open_page state.number ∷ open_perm ∷ 0 ∷ 0 ∷ [])) before 0 (Ok word) mid output → Made mid seen
    takes_made way h reply =
        let made : CallMade mid =
        record {
          call = calls SYS_PAGE_ALLOC (0 ∷ open_page state.number ∷ open_perm ∷ 0 ∷ 0 ∷ []);
          own = takes_place (state.number % MAXOPEN) within;
          leaves = tt;
          made = (reply.0, reply.2, same);
          gives = tt;
        } in (
          made,
          alone made (
            ap (λ (n : ℕ). (a.opened n).used) (sym same_number) ∙ h.used,
            subst (λ (p : ℕ). IsPrivateAt before p) place_first (opening_private h),
          ) way,
        )

    asks_made : {seen : Progress} → Way a seen → IsReply (call.System SYS_GETENVID (0 ∷ 0 ∷ 0 ∷ 0 ∷ 0 ∷ [])) before 0 (Ok word) mid output → Made mid seen
    asks_made way reply =
        let made : CallMade mid =
        record {
          call = calls SYS_GETENVID (0 ∷ 0 ∷ 0 ∷ 0 ∷ 0 ∷ []);
          own = asks_id;
          leaves = tt;
          made = (reply.0, reply.2, same);
          gives = tt;
        } in
        (made, alone made tt way)

    store_made : {seen : Progress} → state.step ≡ step.StoringOffset → IsStoring a it serving_so.before →
        IsReply (call.Store (open_page state.number + FD_OFFSET) state.at) before 0 (Ok word) mid output → Made mid seen
    store_made at (opened told) reply =
        places_made FD_OFFSET state.at (shows (opened_shows d.count a it serving_so.before serving_so.files serving_so.table told)) (omega arith) refl
        (opening_private told.opened.opening) reply
    store_made at (moved so at_is) reply =
        offset_made at (moved_moves d.count a it serving_so.before serving_so.files serving_so.table so at_is) reply
    store_made at (sought name so number at_is none memory_is) reply =
        offset_made at (sought_moves d.count a it serving_so.before serving_so.files serving_so.table name so number) reply

    looks_so : {seen : Progress} → IsLooking a it serving_so.before → Way a seen
    looks_so h = shows (looks_show d.count a it serving_so.before serving_so.files serving_so.table h)

    checks_so : {seen : Progress} → IsChecking a it serving_so.before → Way a seen
    checks_so h = shows (checks_act d.count a it serving_so.before serving_so.files serving_so.table h)

    made_at : (x : ServerStep) → state.step ≡ x → makes_call x ≡ true → StandsAtStep x d.count a it serving_so.before →
        IsReply (call_for state x) before 0 (Ok word) mid output → Made mid (next_for state x word).seen
    made_at step.ReadingKind at makes h reply = loads_made _ (unseen refl) refl reply
    made_at step.ReadingClient at makes h reply = loads_made _ (unseen (asked_unseen state word)) refl reply
    made_at step.ReadingFile at makes h reply = loads_made _ (unseen refl) refl reply
    made_at step.ReadingOffset at makes h reply = loads_made _ (unseen refl) (place_aligned state.kind state.number) reply
    made_at step.ReadingCount at makes h reply = loads_made _ (unseen (counted_unseen state word)) refl reply
    made_at step.ReadingRecord at makes h reply = loads_made _ (unseen refl) (omega arith) reply
    made_at step.LookingRecord at makes h reply = loads_made _ (looks_so h) (omega arith) reply
    made_at step.LookingEntry at makes h reply = loads_made _ (unseen refl) (omega arith) reply
    made_at step.LookingHolders at makes h reply = loads_made _ (looks_so h.0) (omega arith) reply
    made_at step.TakingPage at makes h reply = takes_made (unseen (taken_unseen state word)) h.2 reply
    made_at step.ReadingMode at makes h reply = loads_made _ (unseen refl) refl reply
    made_at step.StoringRecord at makes h reply = records_made (unseen refl) reply
    made_at step.StoringDevice at makes h reply =
        places_made FD_DEVICE DEVICE_FILE (unseen refl) (omega arith) refl (opening_private h.opened.opening) reply
    made_at step.ReadingModeAgain at makes h reply = loads_made _ (unseen refl) refl reply
    made_at step.StoringMode at makes h reply =
        places_made FD_MODE (state.count % 4) (unseen refl) (omega arith) refl (opening_private h.opened.opening) reply
    made_at step.StoringFile at makes h reply =
        places_made FD_FILE state.number (unseen refl) (omega arith) refl (opening_private h.opened.opening) reply
    made_at step.ReadingRecordAgain at makes h reply = loads_made _ (unseen refl) (omega arith) reply
    made_at step.StoringSize at makes h reply =
        places_made FD_SIZE state.count (unseen refl) (omega arith) refl (opening_private h.opened.opening) reply
    made_at step.Advancing at makes h reply = loads_made _ (unseen refl) (omega arith) reply
    made_at step.StoringOffset at makes h reply = store_made at h reply
    made_at step.CheckingRecord at makes h reply = loads_made _ (checks_so h) (omega arith) reply
    made_at step.CheckingEntry at makes h reply = loads_made _ (unseen refl) (omega arith) reply
    made_at step.CheckingHolders at makes h reply = loads_made _ (checks_so h.0) (omega arith) reply
    made_at step.Acting at makes h reply =
        asks_made (acts_alone (done_acts d.count a it serving_so.before serving_so.files serving_so.table h)) reply
    made_at step.Releasing at makes h reply = absurd (let contradiction : false ≡ true = makes in cc)
    made_at step.Receiving at makes h reply = absurd (let contradiction : false ≡ true = makes in cc)
    made_at step.Working at makes h reply = absurd (let contradiction : false ≡ true = makes in cc)
    made_at step.Finding at makes h reply = absurd (let contradiction : false ≡ true = makes in cc)
    made_at step.Sizing at makes h reply = absurd (let contradiction : false ≡ true = makes in cc)
    made_at step.Flushing at makes h reply = absurd (let contradiction : false ≡ true = makes in cc)
    made_at step.Replying at makes h reply = absurd (let contradiction : false ≡ true = makes in cc)
    made_at step.Pausing at makes h reply = absurd (let contradiction : false ≡ true = makes in cc)

  -- ---- what it serves by it

  call_served : (done : Progress) → makes_call state.step ≡ true → HasCalledAt before after 0 output done → IsInOrder after →
      NothingRefused before after → GoesOnServing done d after 0 a
  call_served done makes called in_order nothing =
      by_served (calls_serve d.count a d before after output done makes whole.1.serving.requested all_so serving_so in_order called)
    where
      by_served : HasServed d.count a d before after 0 done ⊎ ((state.step ≡ step.TakingPage) × LacksPage d before after 0 done) →
          GoesOnServing done d after 0 a
      by_served (inl served) = served_is_kept a d before after done whole.1.serving.requested whole.1.serving.rests served
      by_served (inr (taking, lacks)) = absurd (let more = lacks.counted nothing.could in let same = nothing.stays in omega (arith, more, same))

  -- ---- the state behind it

  module _ (makes : makes_call state.step ≡ true) (word : ℕ) (mid : KernelState) (reply : IsReply (call_at state) before 0 (Ok word) mid output)
      (is : after ≡ gone_on mid 0 (next_at state word)) (same : files.after ≡ files.before) where
    abbrev next : ServerNext
    next = next_at state word

    its_call : Made mid next.seen
    its_call = made_at word mid same state.step refl makes serving_so.at reply

    one : CallMade mid
    one = its_call.0

    how_one : HowMade mid next.seen one
    unfolding one
    how_one = its_call.1

    quietly : (mid.environments ≡ before.environments) × Prints output []
    quietly = quietly_by whole.0.1 one.call one.own one.leaves one.gives mid disk files output one.made

    made_so : MakesCall one.call before after 0 disk files output
    made_so = record { mid = mid; made = one.made; left = inr (server_sets mid after 0 next is) }

    same_slot : slot_at mid 0 ≡ k
    same_slot = ap (λ (e : Environments). e.slots 0) quietly.0

    call_behind : CallBehind d mid
    call_behind = record {
      twelve = ap (λ (x : Slot). length x.extra) same_slot ∙ whole.1.twelve;
      brings = subst (λ (c : CacheState). BringsOwn d c.place) (sym (ap (λ (x : Slot). state_in x.extra) same_slot)) whole.1.brings;
    }

    next_below : next.state.number < MAXOPEN
    next_below = (goes_well state state.step word its_number).below

    rows_so : IsInOrder after → RowsStay before after
    rows_so in_order = rows_by whole.0.1 one.call one.own one.leaves after disk files output made_so one.gives in_order

    -- whom it serves then
    sender_so : state.step ≡ step.ReadingClient → word ≡ k.rendezvous.sender
    sender_so at =
        loaded_word before mid 0 (UENVS + 4 * ENV_IPC_FROM) word output
        (subst (λ (x : ServerStep). IsReply (call_for state x) before 0 (Ok word) mid output) at reply) k.rendezvous.sender
        (reads_sender disk before after files output d a whole words)

    named : (b : AbstractState) → b.slots ≡ a.slots → client_served b.server ≡ client_served a.server →
        ServesClient b next.state.step (gone_to (slot_at mid 0) next)
    named b slots serves client served =
        let told = stands_told (slot_at mid 0) next next_below call_behind.twelve in
        let was = whole.1.client client (sym serves ∙ served) in
        let kept : client_id next.state.step (gone_to (slot_at mid 0) next) ≡ client_id state.step k =
        keeps_client k state.step word makes (gone_to (slot_at mid 0) next) told.client (ap (λ (x : Slot). x.rendezvous) same_slot) sender_so in
        subst (λ (i : ℕ). IsClient b client i) (sym kept)
        (record { slot = was.slot; same = ap (λ (slots : ℕ → AbstractSlot). slot_id (slots client)) slots ∙ was.same })

    stays_for : MayCall one.call one.own before a → IsInOrder after → StandsFor whole.0.0 after a
    stays_for may in_order =
        (server_call_stands whole.0.1 one.call one.own after disk files output made_so may whole.1.twelve in_order).stands

    -- an offset is stored
    moves_for : (moves : MovesOffset a state.number state.at) → state.step ≡ step.StoringOffset →
        IsStep (store before 0 (open_page state.number + FD_OFFSET) state.at) (Ok tt) mid output → IsInOrder after → (b : AbstractState) →
        server_step a ≡ Some b → StandsFor whole.0.0 after b
    unfolding rows_of
    moves_for moves at stored in_order b steps =
        subst (λ (z : AbstractState). StandsFor whole.0.0 after z) (same_Some _ b (sym moves.comes ∙ steps))
        (words_stand
        (acted_stands
        (offset_stands whole.0.1 moves.name state.number moves.f (lasting entry) its_number row moves.held moves.is moves.alone state.at moves.small mid output
        (subst (λ (n : ℕ). IsStep (store before 0 (place_address n + FD_OFFSET) state.at) (Ok tt) mid output) (sym same_number) stored)
        (was_in_order mid 0 next after is in_order)) moves.client moves.request moves.place moves.server moves.files moves.blocks moves.answer moves.bytes)
        after (server_sets mid after 0 next is) call_behind.twelve)
      where
        there : HasPlace state (view_in d before 0)
        there = subst (λ (x : ServerStep). NeedsAt x state (view_in d before 0) 0) at needs_so

        entry : Entry
        entry = e d before 0 all_so state.number its_number there

        row : rows_of before.spaces k.directory (place_page state.number) ≡ Some (lasting entry)
        row =
            ap (option_map lasting)
            (ap (λ (p : ℕ). before.spaces.entries k.directory p) page ∙ e_stands d before 0 all_so state.number its_number there)
          where
            page : place_page state.number ≡ memory.place_page state.number
            page = let number = its_number in omega (arith, number)

    -- Behind a hidden step it is the same abstract state,
    stays_whole : IsInOrder after → next.seen ≡ progress.Hidden → IsServing d after 0 a → StandsWhole (beside after (Some d)) a
    stays_whole in_order hidden serving = (
      (whole.0.0, by_way how_one),
      behind_stands d mid after next a is next_below call_behind serving (named a refl refl) whole.1.asked whole.1.fits
          (lent_still disk before after files output d a whole words (acting_not_leaving disk before after files output d a whole words acts) (rows_so in_order)),
    )
      where
        by_way : HowMade mid next.seen one → StandsFor whole.0.0 after a
        by_way (alone _ may way) = stays_for may in_order
        by_way (stores_offset _ at stored moves) =
            absurd (let contradiction : progress.Visible ≡ progress.Hidden =
            sym (ap (λ (x : ServerStep). (next_for state x word).seen) at) ∙ hidden in cc)

    -- and behind a visible one that of the abstract server's step.
    goes_whole : IsInOrder after → next.seen ≡ progress.Visible → (b : AbstractState) → server_step a ≡ Some b → IsServing d after 0 b →
        StandsWhole (beside after (Some d)) b
    goes_whole in_order visible b steps serving = (
      (whole.0.0, by_call how_one),
      behind_stands d mid after next b is next_below call_behind serving (named b behind.slots behind.serves)
          (still_asked disk before after files output d a whole words b steps)
          (still_fits disk before after files output d a whole words b not_idle_so (well how_one) steps)
          (lent_acts disk before after files output d a whole words b acts steps (rows_so in_order)),
    )
      where
        behind : StaysBehind a b
        behind = acts_on a b acts steps

        by_way : MayCall one.call one.own before a → Way a next.seen → StandsFor whole.0.0 after b
        by_way may (unseen hidden) = absurd (let contradiction : progress.Hidden ≡ progress.Visible = sym hidden ∙ visible in cc)
        by_way may (shows so) = served_stands (stays_for may in_order) b steps so.moves so.opens_free so.looks
        by_way may (acts_alone so) =
            subst (λ (z : AbstractState). StandsFor whole.0.0 after z) (same_Some _ b (sym so.comes ∙ steps))
            (acted_stands (stays_for may in_order) so.client so.request so.place so.server so.files so.blocks so.answer so.bytes)

        by_call : HowMade mid next.seen one → StandsFor whole.0.0 after b
        by_call (alone _ may way) = by_way may way
        by_call (stores_offset _ at stored moves) = moves_for moves at stored in_order b steps

        well_by : Way a next.seen → OpensWell a a.server
        well_by (unseen hidden) = absurd (let contradiction : progress.Hidden ≡ progress.Visible = sym hidden ∙ visible in cc)
        well_by (shows so) = so.well
        well_by (acts_alone so) = so.well

        well : HowMade mid next.seen one → OpensWell a a.server
        well (alone _ may way) = well_by way
        well (stores_offset _ at stored moves) = moves.well

    follows_so : IsInOrder after → NothingRefused before after → WholeFollows next.seen 0 (beside after (Some d)) a []
    follows_so in_order nothing = by_seen next.seen refl (call_served next.seen makes (by_word word mid reply is) in_order nothing)
      where
        by_seen : (seen : Progress) → next.seen ≡ seen → GoesOnServing seen d after 0 a → WholeFollows seen 0 (beside after (Some d)) a []
        by_seen progress.Hidden at serving = (refl, stays_whole in_order at serving)
        by_seen progress.Visible at (b, steps, serving) =
            let behind = acts_on a b acts steps in (
              b,
              its_step disk before after files output d a whole words b steps,
              behind.console ∙ printed_nothing a,
              goes_whole in_order at b steps serving,
            )
        by_seen progress.Waited at none = absurd none
        by_seen progress.Finished at none = absurd none
        by_seen progress.Ended at none = absurd none

    call_comes : Stepped before (beside after (Some d)) a next.seen output
    call_comes = record {
      quiet = quietly.1;
      follows = follows_so;
      calm = λ running gave.
          turn_kept k.status (slot_at after 0).status (status_stays whole.0.1 mid after quietly.0 (inr (server_sets mid after 0 next is))) running gave;
    }

  -- ---- the step

  pub call_steps : (done : Progress) → makes_call state.step ≡ true → HasCalledAt before after 0 output done → files.after ≡ files.before →
      Stepped before (beside after (Some d)) a done output
  call_steps done makes (by_word word mid reply is) same = call_comes makes word mid reply is same
  call_steps done makes (was_stopped why end reply stops) same = absurd (call_goes_on why makes reply)
