-- The steps of the file server that are seen, and those with which it waits for its client: it waits for a request, shows that what is asked is done,
-- and replies; or the client does not wait yet, and it gives up its turn.
use Rattle.std.proofs.Common.{◌≡◌, ◌∙◌, ◌⊎◌, inl, inr, ◌<◌, ◌^◌, ℕ, true, false, List, [], ◌∷◌, length, Option, Some, None, Ok, refl}
use Rattle.std.proofs.Common.{sym, ap, subst, arith, ◌+◌, ◌*◌, ◌≢◌, if◌then◌else◌}
use Rattle.std.proofs.lemmas.Bool.Decides.{nat_tests}
use Rattle.std.specs.Int.Bits.{bit_and}
use Rattle.std.specs.Option.{option_map}
use Rattle.std.specs.Prelude.{nat_le, nat_lt, slice_index}
use Rattle.jos_host.specs.Files.{Files}
use Rattle.jos_host.specs.Frames.{Around}
use Rattle.jos_base.specs.declared.called.Called.{Called}
use Rattle.jos_base.specs.declared.called.Called.TheVariants.{Answered, Blocked}
use Rattle.jos_base.specs.declared.environment.Status.TheVariants.{Runnable}
use Rattle.jos_base.specs.declared.numbers.TheConstants.{E_IPC_NOT_RECV, E_MAX_OPEN, E_NO_MEM, FDTABLE, NENV, PGSIZE, SYS_IPC_RECV}
use Rattle.jos_base.specs.declared.numbers.TheConstants.{SYS_IPC_TRY_SEND, SYS_YIELD, UTOP}
use Rattle.jos_base.specs.declared.memory.Access.TheVariants.{Read, Write}
use Rattle.jos_base.specs.Below.{some_below}
use Rattle.jos_base.specs.Environments.{Slot, is_runnable}
use Rattle.jos_base.specs.KernelState.{KernelState, slot_at, with_refusal, with_spaces, with_status}
use Rattle.jos_base.specs.Reach.{Entry}
use Rattle.jos_base.specs.SpacesState.{SpacesState, inserted}
use Rattle.jos_base.specs.SystemCalls.{has_write}
use Rattle.jos_base.specs.Words.{negated, word_at}
use Rattle.jos_base.proofs.Maps.{upd-alike}
use Rattle.lib_os.specs.declared.numbers.TheConstants.{FD_DEVICE, FD_FILE, FD_MODE, FD_OFFSET, FD_SIZE, MAXOPEN, REQUEST, SHORT_QUANTUM}
use Rattle.lib_os.specs.declared.progress.Progress.{Progress}
use Rattle.lib_os.specs.declared.progress.Progress.TheVariants as progress
use Rattle.lib_os.specs.declared.service.Service.{Service}
use Rattle.lib_os.specs.declared.service.Service.TheVariants as service
use Rattle.lib_os.specs.AbstractLaws.{ServedClientsStay, ServesWhoAsked, client_served, opened_by}
use Rattle.lib_os.specs.AbstractRun.{abs_step, may_wait}
use Rattle.lib_os.specs.AbstractState.{AbstractSlot, AbstractState, Born, Server, Spawning, acted, born, idle, leaving, opening}
use Rattle.lib_os.specs.AskedFor.{AnswersBy, is_opening}
use Rattle.lib_os.specs.DescriptorPages as descriptors
use Rattle.lib_os.specs.DescriptorPages.{IsOpenFile, number_of}
use Rattle.lib_os.specs.Descriptors.{holds_in, is_held, with_descriptor}
use Rattle.lib_os.specs.Disk.{Disk, DiskFile}
use Rattle.lib_os.specs.FileServer.{reply_to, server_step}
use Rattle.lib_os.specs.GuestStep.{born_in}
use Rattle.lib_os.specs.LibrarySteps.{NothingRefused}
use Rattle.lib_os.specs.MadeCalls.{calls, yields}
use Rattle.lib_os.specs.Rows.{IsPage, Names, descriptor_perm, lasting, rows_of}
use Rattle.lib_os.specs.InOrder.{IsInOrder}
use Rattle.lib_os.specs.StandsFor.{IsServerStatus, StandsFor, things_in}
use Rattle.lib_os.specs.UserCalls.{CallStep, IsCallStep, Output, Prints, answer_of, giving, got, system}
use Rattle.lib_os.proofs.BytesRead.{lasting_writes}
use Rattle.lib_os.proofs.Calls.{comes_to, refusal_is_seen, yield_is}
use Rattle.lib_os.proofs.Quieting.{turn_given}
use Rattle.lib_os.proofs.Remapping.{lasting_write}
use Rattle.lib_os.proofs.Sends.{received_in, with_message}
use Rattle.lib_os.proofs.ServerReplies.{HasReplied, HasToWait, ready_slot, ready_state, receive_is, receives_stand, receives_step, replied_born}
use Rattle.lib_os.proofs.ServerReplies.{replied_state, replies_stand, reply_call, served_is}
use Rattle.lib_os.proofs.ServerOpens.{HasGivenFile, HasOpenedFile, IsToldNoneFree, descriptor_entry, open_reply_call}
use Rattle.lib_os.proofs.ServersCalls.{server_call_stands}
use Rattle.lib_os.proofs.ServerStands.{first_slot, words_stand}
use Rattle.lib_os.proofs.Serving.{printed_nothing}
use Rattle.lib_os.proofs.Slots.{slot_kept, slot_put, slots_alike}
use Rattle.lib_os.proofs.SlotsStand.{born_at, born_live}
use Rattle.lib_os.proofs.StatesStand.{born_not_first, slot_was_in_order}
use Rattle.fs_blocks.specs.declared.place.CacheState.{CacheState}
use Rattle.fs_blocks.specs.CachePlaces.{state_in}
use Rattle.fs_requests.specs.declared.plan.ServerCall.{ServerCall}
use Rattle.fs_requests.specs.declared.plan.ServerCall.TheVariants as call
use Rattle.fs_requests.specs.declared.plan.ServerNext.{ServerNext}
use Rattle.fs_requests.specs.declared.state.ServerState.{ServerState}
use Rattle.fs_requests.specs.declared.state.ServerStep.{ServerStep}
use Rattle.fs_requests.specs.declared.state.ServerStep.TheVariants as step
use Rattle.fs_requests.specs.ServerPlans.{call_for, hidden, next_at, next_for, next_replied, open_page, shown}
use Rattle.fs_requests.specs.ServerWords.{server_in}
use Rattle.fs_server.specs.ServerSteps.{HasCalled, by_word, gone_on, server_at, was_stopped}
use Rattle.fs_server.proofs.ServerMade.{server_sets}
use Rattle.fs_serving.specs.ServerRuns.{HasFile, TableStands}
use Rattle.fs_serving.specs.ServerViews.{page_word, word_of}
use Rattle.fs_seen.specs.ServerMemory.{HasWords, IsOpenPage, StandsOver, bytes_by, entry_of, has_request, is_table_page, place_entry, place_page}
use Rattle.fs_seen.specs.ServerMemory.{view_in}
use Rattle.fs_seen.specs.ServerOthers.{GivesOpened, HasReplyPage, LeavesBytes}
use Rattle.fs_seen.specs.ServerSees.{HasCalledAt}
use Rattle.fs_seen.specs.ServerWhole.{ServesOn}
use Rattle.fs_seen.proofs.BetweenRequests.{receives_serve}
use Rattle.fs_seen.proofs.RepliesNow.{pauses_serve, replies_serve, replies_with_word, waits_serve}
use Rattle.fs_seen.proofs.CountsTold.{standing_counts_tell}
use Rattle.fs_seen.proofs.RepliesGiven.{given_files_are_apart, replies_give, replies_giving, replies_with_page}
use Rattle.fs_seen.proofs.Setting.{was_in_order}
use Rattle.fs_seen.proofs.TablesAlike.{table_again}
use Rattle.fs_seen.proofs.TablesLeft.{table_serving}
use Rattle.jos_run.specs.ServerStands.{BringsOwn, HasLent, IsClient, ServerStands, StandsWhole, WaitsToReply, serving_at, step_of}
use Rattle.jos_run.specs.Worlds.{beside}
use Rattle.jos_run.proofs.ServerGoes.{CallBehind, ServesClient, behind_slot, behind_stands, directories_behind, gone_to, spaces_behind, stands_told, step_behind}
use Rattle.jos_run.proofs.ServerGoes.{turn_kept}
use Rattle.jos_run.proofs.ServerNow.{ClientThere, client_there}
use Rattle.jos_run.proofs.OpenReplies.{OpenReplied, comes, file_unused, lacks, opened_replied, tells, waits}
use Rattle.jos_run.proofs.PageGiven.{given_leaves}
use Rattle.jos_run.proofs.ReplyParts.{acted_lent, answers_by, fits_none, hands_over}
use Rattle.jos_run.proofs.ServerStepped.{Stepped, as_before, below, called_at, client_apart, serves_at, serves_none}

-- ---- behind a call that leaves its space

-- Its slot has the same words.
same_behind : {d : Disk} {a : AbstractState} (s mid : KernelState) (k : Slot) → slot_at mid 0 ≡ k → k.extra ≡ (slot_at s 0).extra →
    ServerStands d s a → CallBehind d mid
same_behind {d = d} s mid k slot words h = record {
  twelve = ap (λ (x : Slot). length x.extra) slot ∙ ap (λ (l : List ℕ). length l) words ∙ h.twelve;
  brings = subst (λ (x : CacheState). BringsOwn d x.place) (sym (ap (λ (x : Slot). state_in x.extra) slot ∙ ap state_in words)) h.brings;
}

-- ---- the abstract states

-- behind the reply the same objects are held
held_same : (a : AbstractState) (client : ℕ) (x : Service) (b : Born) (bytes : List ℕ) (answer name : ℕ) → a.slots client ≡ born b →
    is_held (replied_state a client x b bytes answer) name ≡ is_held a name
held_same a client x b bytes answer name at i =
    some_below NENV (λ n. upd-alike (λ (y : AbstractSlot). holds_in (born_in y) name) a.slots client (born (replied_born x b bytes answer))
    (sym (ap (λ (y : AbstractSlot). holds_in (born_in y) name) at)) n i)

-- what it counts is a word
count_small : (s : KernelState) → HasWords s 0 → (server_at s 0).count < 2 ^ 32
unfolding server_in
count_small s words = words.words 3

-- ---- what was opened

-- with a name it was asked to open a file
record IsOpeningBy (call : Service) (found : Option Spawning) (answer : ℕ) (bytes : List ℕ) : Type 0 where
  asks_it : is_opening call found ≡ true
  zero_answer : answer ≡ 0
  no_bytes : bytes ≡ []

none_long : (bytes : List ℕ) → length bytes ≡ 0 → bytes ≡ []
none_long [] none = refl
none_long (byte ∷ rest) none = absurd (omega (arith, none))

opening_by : (call : Service) (found : Option Spawning) (answer : ℕ) (bytes : List ℕ) (name : ℕ) → AnswersBy call found answer bytes (Some name) →
    IsOpeningBy call found answer bytes
opening_by (service.OpenFile path mode) found answer bytes name h =
    record { asks_it = refl; zero_answer = h.opened; no_bytes = none_long bytes h.many }
opening_by (service.Spawn path argv) (Some (opening words)) answer bytes name h = record {
  asks_it = refl;
  zero_answer = h.opened;
  no_bytes = none_long bytes (h.many ∙ ap (λ (word : ℕ). if nat_le word 0 then word else 0) h.opened);
}
opening_by (service.Spawn path argv) (Some _) answer bytes name h = absurd h.opened
opening_by (service.Spawn path argv) None answer bytes name h = absurd h.opened
opening_by _ found answer bytes name h = absurd h.opened

-- the page of its place
module _ (d : Disk) (s : KernelState) (number : ℕ) (e : Entry) (below : number < MAXOPEN)
    (there : entry_of s 0 (place_page number) ≡ Some e) where
  is_table : is_table_page (place_page number) ≡ true
  is_table = grind (arith, nat_tests)

  open_page_stands : StandsOver d s 0 → IsOpenPage s e
  open_page_stands stands = stands.table.pages (place_page number) e is_table there

  open_page_whole : StandsOver d s 0 → IsPage (s.spaces.pages e.frame)
  open_page_whole stands = (open_page_stands stands).whole

  open_page_writes : StandsOver d s 0 → has_write e.perm ≡ true
  open_page_writes stands =
      let it = open_page_stands stands in
      let reads : bit_and e.perm 5 ≡ 5 = let may = it.allowed Read in grind (arith, nat_tests, may) in
      lasting_write e.perm ∙ sym (lasting_writes e.perm reads) ∙ it.allowed Write

  page_seen : bytes_by s (place_entry s 0 number) ≡ Some (slice_index (s.spaces.pages e.frame))
  page_seen =
      let within : nat_lt number MAXOPEN ≡ true = grind (arith, nat_tests) in
      rw within (ap (λ (o : Option Entry). bytes_by s o) there)

  told_word : (at : ℕ) → page_word (view_in d s 0) number at ≡ word_at (slice_index (s.spaces.pages e.frame)) at
  told_word at = ap (λ (o : Option (ℕ → ℕ)). word_of o at) page_seen

  -- it tells the file
  open_file_told : (a : AbstractState) (name : ℕ) → s.spaces.entries (slot_at s 0).directory (descriptors.place_page number) ≡ Some e →
      (a.opened number).held_by ≡ Some name → {on : ℕ → ℕ} → (f : HasFile on a (view_in d s 0) number name) →
      IsOpenFile (things_in s a) name e.frame f.f (s.spaces.pages e.frame)
  unfolding rows_of
  open_file_told a name stands held_by f =
      let number_is : number_of (s.spaces.pages e.frame) ≡ number = sym (told_word FD_FILE) ∙ f.number_is in
      record {
        device = sym (told_word FD_DEVICE) ∙ f.device;
        offset = sym (told_word FD_OFFSET) ∙ f.offset;
        mode = sym (told_word FD_MODE) ∙ f.mode;
        size = sym (told_word FD_SIZE) ∙ f.size;
        below = subst (λ (n : ℕ). n < MAXOPEN) (sym number_is) below;
        held = ap (λ (n : ℕ). (a.opened n).held_by) number_is ∙ held_by;
        entry = lasting e;
        stands = ap (λ (n : ℕ). option_map lasting (s.spaces.entries (slot_at s 0).directory (descriptors.place_page n))) number_is
            ∙ ap (λ (o : Option Entry). option_map lasting o) stands;
        same = refl;
      }

-- a step of the server's own sets no count of refusals
refusals_behind : (mid : KernelState) (next : ServerNext) → (gone_on mid 0 next).refusals ≡ mid.refusals
unfolding gone_on
refusals_behind mid next = refl

module _ (stays : ServedClientsStay) (disk : DiskFile) (before after : KernelState) (files : Around (Option Files)) (output : Output) (d : Disk)
    (a : AbstractState) (whole : StandsWhole (beside before (Some d)) a) (words : HasWords before 0) where
  abbrev k : Slot
  k = slot_at before 0

  abbrev state : ServerState
  state = server_at before 0

  its_step : {b : AbstractState} → abs_step a 0 ≡ Some b → server_step a ≡ Some b
  unfolding server_step
  its_step is = sym (served_is whole.0.1 a.server refl) ∙ is

  still_asked : (b : AbstractState) → abs_step a 0 ≡ Some b → ServesWhoAsked b
  still_asked b is = stays a b 0 (omega arith) whole.1.asked is

  its_number : state.number < MAXOPEN
  its_number = below disk before after files output d a whole words

  -- the call at its step
  at_its_step : (done : Progress) (x : ServerStep) → step_of k ≡ x → HasCalled (call_for state x) state before after 0 output done →
      HasCalledAt before after 0 output done
  at_its_step = called_at disk before after files output d a whole words

  unmoved : CallBehind d before
  unmoved = as_before disk before after files output d a whole words

  -- ---- it waits for a request

  abbrev receive_args : List ℕ
  receive_args = REQUEST ∷ 0 ∷ 0 ∷ 0 ∷ 0 ∷ []

  pub receive_steps : (done : Progress) → a.server ≡ leaving → step_of k ≡ step.Receiving →
      HasCalled (call.System SYS_IPC_RECV receive_args) state before after 0 output done →
      Stepped before (beside after (Some d)) a done output
  receive_steps done server at (by_word word mid reply is) =
      let came = comes_to (system before 0 SYS_IPC_RECV receive_args) Blocked reply.0 (ready_state before) mid [] output waits reply.2 in
      let goes : next_at state word ≡ next = ap (λ (x : ServerStep). next_for state x word) at in
      let here : after ≡ gone_on (ready_state before) 0 next = is ∙ (λ i. gone_on (came.1 i) 0 (goes i)) in
      let slot = behind_slot (ready_state before) after next here ∙ ap (λ (x : Slot). gone_to x next) ready in
      subst (λ (p : Progress). Stepped before (beside after (Some d)) a p output)
      (ap (λ (z : ServerNext). z.seen) (sym goes))
      (record {
        quiet = came.2;
        follows = λ in_order nothing.
            let serves = receives_serve a d before after output (next_at state word).seen at whole.1.serving in_order
            (at_its_step (next_at state word).seen step.Receiving at (by_word word mid reply is)) in (
              b,
              now,
              printed_nothing a,
              stands here in_order serves.2 serves.3,
            );
        calm = λ running gave. absurd (let contradiction : false ≡ true = sym (ap (λ (x : Slot). is_runnable x.status) slot) ∙ gave in cc);
      })
    where
      next : ServerNext
      next = shown state step.ReadingKind

      b : AbstractState
      b = record a { server = idle }

      waits : system before 0 SYS_IPC_RECV receive_args ≡ record { state = ready_state before; gives = got Blocked; written = [] }
      waits = receive_is before (0 ∷ 0 ∷ 0 ∷ []) (first_slot whole.0.1).lives

      now : abs_step a 0 ≡ Some b
      now = receives_step whole.0.1 server

      ready : slot_at (ready_state before) 0 ≡ ready_slot k
      ready = slot_put before 0 (ready_slot k)

      call_behind : CallBehind d (ready_state before)
      call_behind = same_behind before (ready_state before) (ready_slot k) ready refl whole.1

      -- no page of a request was there, nor is one then
      lent : has_request after 0 ≡ has_request before 0 → has_request after 0 ≡ false
      lent same = same ∙ subst (λ (x : Server). HasLent x before) server whole.1.lent at

      stands : after ≡ gone_on (ready_state before) 0 next → IsInOrder after → ServesOn d before after b step.ReadingKind →
          has_request after 0 ≡ has_request before 0 → StandsWhole (beside after (Some d)) b
      stands here in_order serves same = (
        (whole.0.0, words_stand (receives_stand whole.0.1) after (server_sets (ready_state before) after 0 next here) call_behind.twelve),
        behind_stands d (ready_state before) after next b here its_number call_behind serves.serving
            (serves_none b step.ReadingKind (gone_to (slot_at (ready_state before) 0) next) refl) (still_asked b now) (fits_none b refl) (lent same),
      )
  receive_steps done server at (was_stopped why end reply stops) = absurd reply

  abbrev no_args : List ℕ
  no_args = 0 ∷ 0 ∷ 0 ∷ 0 ∷ 0 ∷ []

  -- ---- it waits with its reply

  module _ (client answer : ℕ) (bytes : List ℕ) (object : Option ℕ) (server : a.server ≡ acted client answer bytes object) where
    -- the same client, at the other of the two steps
    waits_at : (x : ServerStep) → step_of k ≡ x → ServesClient a x k ≡ ServesClient a step.Replying k → (to : ServerStep) (j : Slot) →
        ServesClient a to j ≡ ServesClient a step.Replying j → (serving_at j).client ≡ state.client → ServesClient a to j
    waits_at x at x_is to j to_is client_same =
        subst (λ (X : Type 0). X) (sym to_is)
        (λ who served. subst (λ (i : ℕ). IsClient a who i) (sym client_same)
        (subst (λ (X : Type 0). X) x_is (serves_at disk before after files output d a whole words x at) who served))

    -- what is lent stays lent where no entry changes
    lent_then : (mid : KernelState) (next : ServerNext) → after ≡ gone_on mid 0 next → next.state.number < MAXOPEN → CallBehind d mid →
        mid.spaces ≡ before.spaces → ((m : ℕ) → (slot_at mid m).directory ≡ (slot_at before m).directory) → HasLent a.server after
    lent_then mid next here small call spaces homes =
        subst (λ (x : Server). HasLent x after) (sym server)
        (acted_lent client answer bytes object before after (spaces_behind d mid after next a here small call ∙ spaces)
        (λ m. directories_behind d mid after next a here small call m ∙ homes m) (subst (λ (x : Server). HasLent x before) server whole.1.lent))

    status : IsServerStatus (acted client answer bytes object) k
    status = subst (λ (x : Server). IsServerStatus x k) server whole.0.1.server.status

    -- it gives up its turn
    pub pause_steps : (done : Progress) → step_of k ≡ step.Pausing → HasCalled (call.System SYS_YIELD no_args) state before after 0 output done →
        files.after ≡ files.before → Stepped before (beside after (Some d)) a done output
    pause_steps done at (by_word word mid reply is) same =
        let gave_up : mid ≡ with_status before 0 Runnable = turn_given before 0 no_args (first_slot whole.0.1).lives mid reply.0 output reply.2 in
        let goes : next_at state word ≡ next = ap (λ (x : ServerStep). next_for state x word) at in
        let here : after ≡ gone_on (with_status before 0 Runnable) 0 next = is ∙ (λ i. gone_on (gave_up i) 0 (goes i)) in
        subst (λ (p : Progress). Stepped before (beside after (Some d)) a p output)
        (ap (λ (z : ServerNext). z.seen) (sym goes))
        (record {
          quiet = subst (λ (bytes : List ℕ). Prints output bytes)
              (ap (λ (z : CallStep Called). z.written) (yield_is before 0 (first_slot whole.0.1).lives no_args)) reply.2.2;
          follows = λ in_order nothing.
              let left = server_call_stands whole.0.1 (calls SYS_YIELD no_args) yields after disk files output
              (record { mid = mid; made = (reply.0, reply.2, same); left = inr (server_sets mid after 0 (next_at state word) is) })
              status.0 whole.1.twelve in_order in
              let serves = pauses_serve a d before after output (next_at state word).seen at whole.1.serving in_order
              (at_its_step (next_at state word).seen step.Pausing at (by_word word mid reply is)) in (
                refl,
                (
                  (whole.0.0, left.stands),
                  behind_stands d (with_status before 0 Runnable) after next a here its_number call_behind serves.1.serving
                      (waits_at step.Pausing at refl step.Replying (gone_to (slot_at (with_status before 0 Runnable) 0) next) refl
                      (let told = stands_told (slot_at (with_status before 0 Runnable) 0) next its_number call_behind.twelve in told.client))
                      whole.1.asked whole.1.fits
                      (lent_then (with_status before 0 Runnable) next here its_number call_behind refl
                      (slots_alike before 0 (λ (x : Slot). x.directory) (record k { status = Runnable }) refl)),
                ),
              );
          calm = λ running gave. subst (λ (x : Server). WaitsToReply x) (sym server) tt;
        })
      where
        next : ServerNext
        next = hidden state step.Replying

        call_behind : CallBehind d (with_status before 0 Runnable)
        call_behind =
            same_behind before (with_status before 0 Runnable) (record k { status = Runnable })
            (slot_put before 0 (record k { status = Runnable })) refl whole.1
    pause_steps done at (was_stopped why end reply stops) same = absurd reply

    -- ---- it waits on

    -- where it replied, and the client does not wait for that yet
    waits_on : step_of k ≡ step.Replying → Prints output [] → {word : ℕ} → word ≡ negated E_IPC_NOT_RECV →
        after ≡ gone_on before 0 (next_replied state word) → may_wait a 0 SHORT_QUANTUM ≡ true →
        Stepped before (beside after (Some d)) a (next_replied state word).seen output
    waits_on at quiet {word} deaf there may =
        let goes : next_replied state word ≡ next = ap (λ (w : ℕ). next_replied state w) deaf in
        let here : after ≡ gone_on before 0 next = there ∙ ap (λ (z : ServerNext). gone_on before 0 z) goes in
        let on : after ≡ gone_on before 0 (next_at state (negated E_IPC_NOT_RECV)) =
        here ∙ ap (λ (y : ServerStep). gone_on before 0 (next_for state y (negated E_IPC_NOT_RECV))) (sym at) in
        subst (λ (p : Progress). Stepped before (beside after (Some d)) a p output)
        (ap (λ (z : ServerNext). z.seen) (sym goes))
        (record {
          quiet = quiet;
          follows = λ in_order nothing. (
            (refl, stands here (waits_serve a d before before after at whole.1.serving in_order (record { slot = refl; spaces = refl }) on)),
            may,
          );
          calm = turn_kept k.status (slot_at after 0).status (ap (λ (x : Slot). x.status) (behind_slot before after next here));
        })
      where
        next : ServerNext
        next = record { state = record state { step = step.Pausing }; begins = None; seen = progress.Waited }

        stands : after ≡ gone_on before 0 next → ServesOn d before after a step.Pausing → StandsWhole (beside after (Some d)) a
        stands here serves = (
          (whole.0.0, words_stand whole.0.1 after (server_sets before after 0 next here) whole.1.twelve),
          behind_stands d before after next a here its_number unmoved serves.serving
              (waits_at step.Replying at refl step.Pausing (gone_to k next) refl
              (let told = stands_told k next its_number whole.1.twelve in told.client))
              whole.1.asked whole.1.fits (lent_then before next here its_number unmoved refl (λ m. refl)),
        )

  -- ---- it replies

  module _ (client answer : ℕ) (bytes : List ℕ) (server : a.server ≡ acted client answer bytes None) where
    module _ (at : step_of k ≡ step.Replying) where
      -- it counts the answer, and no page goes with it
      with_word : (call_for state step.Replying ≡ call.System SYS_IPC_TRY_SEND (state.client ∷ state.count ∷ UTOP ∷ 0 ∷ 0 ∷ [])) × (state.count ≡ answer)
      with_word =
          let it = replies_with_word a d before client answer bytes at server whole.1.serving in
          (ap (λ (y : ServerStep). call_for state y) (sym at) ∙ it.0, it.2)

      small : answer < 2 ^ 32
      small = subst (λ (w : ℕ). w < 2 ^ 32) with_word.1 (count_small before words)

      it : ClientThere before a client state.client
      it =
          client_there whole.0.1 client state.client whole.1.asked (ap client_served server)
          (serves_at disk before after files output d a whole words step.Replying at client (ap client_served server))

      replies_with : call_for state step.Replying ≡ call.System SYS_IPC_TRY_SEND (it.b.id ∷ answer ∷ UTOP ∷ 0 ∷ 0 ∷ [])
      replies_with =
          with_word.0 ∙ (λ i. call.System SYS_IPC_TRY_SEND (sym it.named i ∷ with_word.1 i ∷ UTOP ∷ 0 ∷ 0 ∷ []))

      -- where it goes by the word
      goes_at : (mid : KernelState) (word w : ℕ) → after ≡ gone_on mid 0 (next_replied state word) → word ≡ w → after ≡ gone_on mid 0 (next_at state w)
      goes_at mid word w is same =
          is ∙ (λ i. gone_on mid 0 (next_replied state (same i))) ∙ ap (λ (y : ServerStep). gone_on mid 0 (next_for state y w)) (sym at)

      -- the reply has come
      fitting : AnswersBy it.service it.b.spawning answer bytes None
      fitting = answers_by a whole.1.fits client answer bytes None server it.b it.at it.service it.there

      apart : (slot_at before client).directory ≢ k.directory
      apart = client_apart disk before after files output d a whole words client (ap client_served server)

      replied_steps : HasReplied whole.0.0 before a client it.service it.b bytes answer → (word : ℕ) (mid : KernelState) (called : Called) → word ≡ answer_of called →
          IsCallStep (reply_call before it.b.id answer) (Ok called) mid output → after ≡ gone_on mid 0 (next_replied state word) →
          Stepped before (beside after (Some d)) a (next_replied state word).seen output
      replied_steps so word mid called word_is reply is =
          let came = comes_to (reply_call before it.b.id answer) (Answered 0) called mid_is mid [] output so.call reply in
          let zero : word ≡ 0 = word_is ∙ ap answer_of came.0 in
          let goes : next_replied state word ≡ next = ap (λ (w : ℕ). next_replied state w) zero in
          let there : after ≡ gone_on mid_is 0 (next_replied state word) = is ∙ ap (λ (z : KernelState). gone_on z 0 (next_replied state word)) came.1 in
          let here : after ≡ gone_on mid_is 0 next = there ∙ ap (λ (z : ServerNext). gone_on mid_is 0 z) goes in
          let slot = behind_slot mid_is after next here ∙ ap (λ (x : Slot). gone_to x next) kept in
          subst (λ (p : Progress). Stepped before (beside after (Some d)) a p output)
          (ap (λ (z : ServerNext). z.seen) (sym goes))
          (record {
            quiet = came.2;
            follows = λ in_order nothing. (
              b,
              so.step,
              printed_nothing a,
              stands here (replies_serve a b d before mid_is after at whole.1.serving in_order (record { slot = kept; spaces = refl })
                  (goes_at mid_is word 0 there zero) refl refl table),
            );
            calm = turn_kept k.status (slot_at after 0).status (ap (λ (x : Slot). x.status) slot);
          })
        where
          next : ServerNext
          next = shown state step.Releasing

          b : AbstractState
          b = replied_state a client it.service it.b bytes answer

          mid_is : KernelState
          mid_is = with_message before 0 client answer 0

          kept : slot_at mid_is 0 ≡ k
          kept = slot_kept before client (received_in (slot_at before client) k.id answer 0) 0 (born_not_first whole.0.1 client it.b it.at)

          call_behind : CallBehind d mid_is
          call_behind = same_behind before mid_is k kept refl whole.1

          -- the table stands as it did
          table : (bytes : ℕ → ℕ) → TableStands bytes a (view_in d before 0) → TableStands bytes b (view_in d before 0)
          table bytes_on h =
              table_again bytes_on a b (view_in d before 0) (view_in d before 0)
              (record {
                opened = refl;
                objects = refl;
                held = λ name. held_same a client it.service it.b bytes answer name it.at;
                names = refl;
              })
              (record { homes = λ number. refl; pages = λ number. refl; holders = λ number there. refl }) h

          stands : after ≡ gone_on mid_is 0 next → ServesOn d before after b step.Releasing → StandsWhole (beside after (Some d)) b
          stands here serves = (
            (whole.0.0, words_stand so.stands after (server_sets mid_is after 0 next here) call_behind.twelve),
            behind_stands d mid_is after next b here its_number call_behind serves.serving
                (serves_none b step.Releasing (gone_to (slot_at mid_is 0) next) refl) (still_asked b so.step) (fits_none b refl)
                (λ receiving. absurd (let contradiction : step.Releasing ≡ step.Receiving =
                sym (step_behind d mid_is after next b here its_number call_behind) ∙ receiving in cc)),
          )

      -- the client does not wait for it yet
      waited_steps : HasToWait before a it.b answer → (word : ℕ) (mid : KernelState) (called : Called) → word ≡ answer_of called →
          IsCallStep (reply_call before it.b.id answer) (Ok called) mid output → after ≡ gone_on mid 0 (next_replied state word) →
          Stepped before (beside after (Some d)) a (next_replied state word).seen output
      waited_steps so word mid called word_is reply is =
          let came = comes_to (reply_call before it.b.id answer) (Answered (negated E_IPC_NOT_RECV)) called before mid [] output so.call reply in
          waits_on client answer bytes None server at came.2 (word_is ∙ ap answer_of came.0)
          (is ∙ ap (λ (z : KernelState). gone_on z 0 (next_replied state word)) came.1) so.waits

      sent_steps : (done : Progress) → HasCalled (call.System SYS_IPC_TRY_SEND (it.b.id ∷ answer ∷ UTOP ∷ 0 ∷ 0 ∷ [])) state before after 0 output done →
          Stepped before (beside after (Some d)) a done output
      sent_steps done (by_word word mid reply is) =
          let goes : next_at state word ≡ next_replied state word = ap (λ (x : ServerStep). next_for state x word) at in
          let here : after ≡ gone_on mid 0 (next_replied state word) = is ∙ ap (λ (x : ServerNext). gone_on mid 0 x) goes in
          subst (λ (p : Progress). Stepped before (beside after (Some d)) a p output)
          (ap (λ (z : ServerNext). z.seen) (sym goes))
          (by_way word mid reply.0 reply.1 reply.2 here (replies_stand whole.0.1 client answer bytes server it.b it.at it.service it.there small
          (hands_over d before a whole.0.1 whole.1 client answer bytes None server apart at it.service it.b.spawning fitting.many)
          fitting.opened))
        where
          by_way : (word : ℕ) (mid : KernelState) (called : Called) → word ≡ answer_of called →
              IsCallStep (reply_call before it.b.id answer) (Ok called) mid output → after ≡ gone_on mid 0 (next_replied state word) →
              HasReplied whole.0.0 before a client it.service it.b bytes answer ⊎ HasToWait before a it.b answer →
              Stepped before (beside after (Some d)) a (next_replied state word).seen output
          by_way word mid called word_is reply is (inl so) = replied_steps so word mid called word_is reply is
          by_way word mid called word_is reply is (inr so) = waited_steps so word mid called word_is reply is
      sent_steps done (was_stopped why end reply stops) = absurd reply

      pub word_steps : (done : Progress) → HasCalled (call_for state step.Replying) state before after 0 output done →
          Stepped before (beside after (Some d)) a done output
      word_steps done called =
          subst (λ (c : ServerCall). HasCalled c state before after 0 output done → Stepped before (beside after (Some d)) a done output)
          (sym replies_with) (sent_steps done) called

  -- ---- it replies with the page of what it has opened

  module _ (client answer name : ℕ) (bytes : List ℕ) (server : a.server ≡ acted client answer bytes (Some name)) (at : step_of k ≡ step.Replying) where
    abbrev opened_page : HasReplyPage a d before client answer name
    opened_page = replies_with_page a d before client answer name bytes at server whole.1.serving

    its : ClientThere before a client state.client
    its =
        client_there whole.0.1 client state.client whole.1.asked (ap client_served server)
        (serves_at disk before after files output d a whole words step.Replying at client (ap client_served server))

    answered_so : AnswersBy its.service its.b.spawning answer bytes (Some name)
    answered_so = answers_by a whole.1.fits client answer bytes (Some name) server its.b its.at its.service its.there

    -- it was asked to open a file
    opens_so : IsOpeningBy its.service its.b.spawning answer bytes
    opens_so = opening_by its.service its.b.spawning answer bytes name answered_so

    abbrev page_entry : Entry
    page_entry = opened_page.entry

    page_there : before.spaces.entries k.directory (descriptors.place_page state.number) ≡ Some page_entry
    page_there =
        let low = opened_page.below in
        let same : place_page state.number ≡ descriptors.place_page state.number = omega (arith, low) in
        ap (λ (p : ℕ). before.spaces.entries k.directory p) (sym same) ∙ opened_page.there

    table : (on : ℕ → ℕ) × TableStands on a (view_in d before 0)
    table = table_serving a d before whole.1.serving

    has_opened : HasOpenedFile whole.0.0 before a state.number name
    has_opened =
        let nobodys = whole.1.asked.opens.opened name (ap (λ (x : Server). opened_by x) server) in
        let f = opened_page.tells in
        record {
          below = opened_page.below;
          source = page_entry;
          stands = page_there;
          writes = open_page_writes d before state.number page_entry opened_page.below opened_page.there whole.1.serving.stands;
          file_is = f.f;
          object = f.is;
          told = open_file_told d before state.number page_entry opened_page.below opened_page.there a name page_there opened_page.held_by f;
          whole = open_page_whole d before state.number page_entry opened_page.below opened_page.there whole.1.serving.stands;
          old = nobodys.old;
          unused = file_unused whole.0.1 state.number name page_entry opened_page.below page_there opened_page.held_by
              (λ other by. table.1.alone state.number other name opened_page.held_by by) f.f f.is nobodys;
        }

    -- the call
    opens_with : call_for state step.Replying ≡
        call.System SYS_IPC_TRY_SEND (its.b.id ∷ 0 ∷ (FDTABLE + PGSIZE * state.number) ∷ descriptor_perm ∷ 0 ∷ [])
    opens_with =
        let low = opened_page.below in
        let place : open_page state.number ≡ FDTABLE + PGSIZE * state.number = omega (arith, low) in
        let none : state.count ≡ 0 = opened_page.answer_is ∙ opens_so.zero_answer in
        ap (λ (y : ServerStep). call_for state y) (sym at) ∙ opened_page.calls
        ∙ (λ i. call.System SYS_IPC_TRY_SEND (sym its.named i ∷ none i ∷ place i ∷ descriptor_perm ∷ 0 ∷ []))

    refused_now : (mid : KernelState) (next : ServerNext) → after ≡ gone_on mid 0 next → mid ≡ with_refusal before → NothingRefused before after → ⊥
    refused_now mid next is refused nothing =
        refusal_is_seen before (record {
          stays = ap (λ (z : KernelState). z.refusals) (sym refused) ∙ sym (refusals_behind mid next) ∙ ap (λ (z : KernelState). z.refusals) (sym is)
              ∙ nothing.stays;
          could = nothing.could;
        })

    -- there is no frame for a table of the client's: the kernel has refused it
    lacked_steps : open_reply_call before its.b.id state.number ≡ giving (with_refusal before) (Answered (negated E_NO_MEM)) →
        (word : ℕ) (mid : KernelState) (called : Called) → IsCallStep (open_reply_call before its.b.id state.number) (Ok called) mid output →
        after ≡ gone_on mid 0 (next_replied state word) → Stepped before (beside after (Some d)) a (next_replied state word).seen output
    lacked_steps lacking word mid called reply is =
        let came = comes_to (open_reply_call before its.b.id state.number) (Answered (negated E_NO_MEM)) called (with_refusal before) mid [] output lacking
        reply in
        let slot = behind_slot mid after (next_replied state word) is
        ∙ ap (λ (z : KernelState). gone_to (slot_at z 0) (next_replied state word)) came.1 in
        record {
          quiet = came.2;
          follows = λ in_order nothing. absurd (refused_now mid (next_replied state word) is came.1 nothing);
          calm = turn_kept k.status (slot_at after 0).status (ap (λ (x : Slot). x.status) slot);
        }

    -- The reply has come: the client has the page, or it is told that no descriptor is free.
    module _ (mid_is : KernelState) (to : Born × ℕ) (kept : slot_at mid_is 0 ≡ k)
        (sends : open_reply_call before its.b.id state.number ≡ giving mid_is (Answered 0))
        (steps : abs_step a 0 ≡ Some (reply_to a client its.service [] to))
        (stands_then : IsInOrder mid_is → (names : Names) × StandsFor names mid_is (reply_to a client its.service [] to))
        (leaves : IsInOrder mid_is → LeavesBytes a.server before mid_is 0) where
      abbrev next : ServerNext
      next = shown state step.Releasing

      abbrev b : AbstractState
      b = reply_to a client its.service [] to

      call_behind : CallBehind d mid_is
      call_behind = same_behind before mid_is k kept refl whole.1

      gives : (b.server ≡ leaving) × GivesOpened a b name
      gives = replies_give a b client answer name bytes server (its_step steps)

      stands : after ≡ gone_on mid_is 0 next → after ≡ gone_on mid_is 0 (next_at state 0) → IsInOrder after →
          StandsWhole (beside after (Some d)) b
      stands here on in_order =
          let order = was_in_order mid_is 0 next after here in_order in
          let now = stands_then order in
          let stands_b = words_stand now.1 after (server_sets mid_is after 0 next here) call_behind.twelve in
          let tells_now = standing_counts_tell now.0 after b stands_b
          (given_files_are_apart a b d before client answer name bytes at server whole.1.serving gives.1) in
          let serves = replies_giving a b d before mid_is after client answer name bytes at server whole.1.serving in_order (leaves order) on gives.0
          gives.1 tells_now in (
            (now.0, stands_b),
            behind_stands d mid_is after next b here its_number call_behind serves.serving
                (serves_none b step.Releasing (gone_to (slot_at mid_is 0) next) refl) (still_asked b steps) (fits_none b refl)
                (λ receiving. absurd (let contradiction : step.Releasing ≡ step.Receiving =
                sym (step_behind d mid_is after next b here its_number call_behind) ∙ receiving in cc)),
          )

      come_steps : (word : ℕ) (mid : KernelState) (called : Called) → word ≡ answer_of called →
          IsCallStep (open_reply_call before its.b.id state.number) (Ok called) mid output → after ≡ gone_on mid 0 (next_replied state word) →
          Stepped before (beside after (Some d)) a (next_replied state word).seen output
      come_steps word mid called word_is reply is =
          let came = comes_to (open_reply_call before its.b.id state.number) (Answered 0) called mid_is mid [] output sends reply in
          let zero : word ≡ 0 = word_is ∙ ap answer_of came.0 in
          let goes : next_replied state word ≡ next = ap (λ (w : ℕ). next_replied state w) zero in
          let there : after ≡ gone_on mid_is 0 (next_replied state word) = is ∙ ap (λ (z : KernelState). gone_on z 0 (next_replied state word)) came.1 in
          let here : after ≡ gone_on mid_is 0 next = there ∙ ap (λ (z : ServerNext). gone_on mid_is 0 z) goes in
          let slot = behind_slot mid_is after next here ∙ ap (λ (x : Slot). gone_to x next) kept in
          let on : after ≡ gone_on mid_is 0 (next_at state 0) = here ∙ ap (λ (y : ServerStep). gone_on mid_is 0 (next_for state y 0)) (sym at) in
          subst (λ (p : Progress). Stepped before (beside after (Some d)) a p output)
          (ap (λ (z : ServerNext). z.seen) (sym goes))
          (record {
            quiet = came.2;
            follows = λ in_order nothing. (b, steps, printed_nothing a, stands here on in_order);
            calm = turn_kept k.status (slot_at after 0).status (ap (λ (x : Slot). x.status) slot);
          })

    not_client : 0 ≢ client
    not_client = born_not_first whole.0.1 client its.b its.at

    -- the client has the page
    given_steps : (sp : SpacesState) (p : ℕ) → inserted before.spaces (slot_at before client).directory p (descriptor_entry page_entry) ≡ Some sp →
        HasGivenFile whole.0.0 before a client state.number name its.service its.b sp → (word : ℕ) (mid : KernelState) (called : Called) →
        word ≡ answer_of called → IsCallStep (open_reply_call before its.b.id state.number) (Ok called) mid output →
        after ≡ gone_on mid 0 (next_replied state word) → Stepped before (beside after (Some d)) a (next_replied state word).seen output
    given_steps sp p put so =
        come_steps mid_is (with_descriptor its.b so.fd (Some name), so.fd)
        (slot_kept (with_spaces before sp) client (received_in (slot_at before client) k.id 0 descriptor_perm) 0 not_client) so.call so.step
        (λ order. so.stands (order_of order))
        (λ order. given_leaves before sp client p (descriptor_entry page_entry) page_entry (descriptors.place_page state.number)
        whole.0.1.in_order (order_of order) refl refl page_there
        (client_apart disk before after files output d a whole words client (ap client_served server)) not_client put a.server 0 descriptor_perm)
      where
        mid_is : KernelState
        mid_is = with_message (with_spaces before sp) 0 client 0 descriptor_perm

        order_of : IsInOrder mid_is → IsInOrder (with_spaces before sp)
        order_of order =
            slot_was_in_order (with_spaces before sp) client (received_in (slot_at before client) k.id 0 descriptor_perm)
            (sym (born_live (born_at whole.0.1 client its.b its.at))) refl order

    -- it has no free descriptor, and is told that
    told_steps : IsToldNoneFree whole.0.0 before a client state.number its.service its.b → (word : ℕ) (mid : KernelState) (called : Called) →
        word ≡ answer_of called → IsCallStep (open_reply_call before its.b.id state.number) (Ok called) mid output →
        after ≡ gone_on mid 0 (next_replied state word) → Stepped before (beside after (Some d)) a (next_replied state word).seen output
    told_steps so =
        come_steps mid_is (its.b, negated E_MAX_OPEN) kept so.call so.step (λ order. (whole.0.0, so.stands)) (λ order. record {
          slot = kept;
          entries = λ q. ap (λ (x : Slot). before.spaces.entries x.directory q) kept;
          tables = λ r. refl;
          bytes = λ q x inside other is. refl;
          request = λ keeps x is. refl;
        })
      where
        mid_is : KernelState
        mid_is = with_message before 0 client 0 0

        kept : slot_at mid_is 0 ≡ k
        kept = slot_kept before client (received_in (slot_at before client) k.id 0 0) 0 not_client

    page_sent : (done : Progress) →
        HasCalled (call.System SYS_IPC_TRY_SEND (its.b.id ∷ 0 ∷ (FDTABLE + PGSIZE * state.number) ∷ descriptor_perm ∷ 0 ∷ [])) state before after 0 output done →
        Stepped before (beside after (Some d)) a done output
    unfolding has_opened
    page_sent done (by_word word mid reply is) =
        let goes : next_at state word ≡ next_replied state word = ap (λ (x : ServerStep). next_for state x word) at in
        let here : after ≡ gone_on mid 0 (next_replied state word) = is ∙ ap (λ (x : ServerNext). gone_on mid 0 x) goes in
        subst (λ (p : Progress). Stepped before (beside after (Some d)) a p output)
        (ap (λ (z : ServerNext). z.seen) (sym goes))
        (by_way word mid reply.0 reply.1 reply.2 here replied_so)
      where
        replied_so : OpenReplied whole.0.0 before a client state.number name its.service its.b (descriptor_entry page_entry)
        replied_so =
            opened_replied whole.0.1 client state.number name answer
            (subst (λ (l : List ℕ). a.server ≡ acted client answer l (Some name)) opens_so.no_bytes server) its.b its.at has_opened its.service
            opens_so.asks_it its.there

        by_way : (word : ℕ) (mid : KernelState) (called : Called) → word ≡ answer_of called →
            IsCallStep (open_reply_call before its.b.id state.number) (Ok called) mid output → after ≡ gone_on mid 0 (next_replied state word) →
            OpenReplied whole.0.0 before a client state.number name its.service its.b (descriptor_entry page_entry) →
            Stepped before (beside after (Some d)) a (next_replied state word).seen output
        by_way word mid called word_is reply is (waits so none may) =
            let came = comes_to (open_reply_call before its.b.id state.number) (Answered (negated E_IPC_NOT_RECV)) called before mid [] output so reply in
            waits_on client answer bytes (Some name) server at came.2 (word_is ∙ ap answer_of came.0)
            (is ∙ ap (λ (z : KernelState). gone_on z 0 (next_replied state word)) came.1) may
        by_way word mid called word_is reply is (comes sp p put so) = given_steps sp p put so word mid called word_is reply is
        by_way word mid called word_is reply is (lacks so) = lacked_steps so word mid called reply is
        by_way word mid called word_is reply is (tells so) = told_steps so word mid called word_is reply is
    page_sent done (was_stopped why end reply stops) = absurd reply

    page_steps : (done : Progress) → HasCalled (call_for state step.Replying) state before after 0 output done →
        Stepped before (beside after (Some d)) a done output
    page_steps done called =
        subst (λ (c : ServerCall). HasCalled c state before after 0 output done → Stepped before (beside after (Some d)) a done output)
        (sym opens_with) (page_sent done) called

  -- ---- it replies with either

  pub reply_steps : (client answer : ℕ) (bytes : List ℕ) (object : Option ℕ) → a.server ≡ acted client answer bytes object →
      step_of k ≡ step.Replying → (done : Progress) → HasCalled (call_for state step.Replying) state before after 0 output done →
      Stepped before (beside after (Some d)) a done output
  reply_steps client answer bytes None server at done called = word_steps client answer bytes server at done called
  reply_steps client answer bytes (Some name) server at done called = page_steps client answer name bytes server at done called
