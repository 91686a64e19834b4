-- One who asks the file server with a page: where the server waits, the word of the request and the page that tells it come to it, which is
-- seen; and where it does not, nothing is changed, and the one who asks gives up its turn and asks again.
use Rattle.std.proofs.Common.{◌≡◌, ◌≢◌, ◌∙◌, ◌⊎◌, inl, inr, ◌==◌, ◌&&◌, ◌||◌, ◌<◌, ℕ, Bool, true, false, [], ◌∷◌, refl, sym, ap, subst}
use Rattle.std.proofs.Common.{arith}
use Rattle.std.proofs.lemmas.Bool.Decides.{nat_tests}
use Rattle.std.specs.Prelude.{Option, Some, None}
use Rattle.std.specs.Option.{option_map}
use Rattle.std.proofs.lemmas.Option.{same_Some}
use Rattle.jos_base.specs.declared.called.Called.{Called}
use Rattle.jos_base.specs.declared.called.Called.TheVariants.{Answered}
use Rattle.jos_base.specs.declared.environment.Status.TheVariants.{Runnable}
use Rattle.jos_base.specs.declared.numbers.TheConstants.{E_IPC_NOT_RECV, E_NO_MEM, FIRST_ENV_ID, SYS_IPC_TRY_SEND, UTEMP, UTOP}
use Rattle.jos_base.specs.Environments.{Slot, found, is_live as is_live_slot}
use Rattle.jos_base.specs.KernelState.{KernelState, slot_at, with_extra, with_refusal, with_slot_at, with_spaces, with_status}
use Rattle.jos_base.specs.Reach.{Entry}
use Rattle.jos_base.specs.SpacesState.{SpacesState, inserted}
use Rattle.jos_base.specs.SystemCalls.{entry_at, has_write, inserted_at, shared_entry}
use Rattle.jos_base.specs.Words.{negated, page_number}
use Rattle.fs_layout.specs.FileTree.{open_path}
use Rattle.lib_os.specs.declared.numbers.TheConstants.{REQUEST, SHORT_QUANTUM}
use Rattle.lib_os.specs.declared.place.Place.{Place}
use Rattle.lib_os.specs.declared.place.Place.TheVariants as place
use Rattle.lib_os.specs.declared.progress.Progress.TheVariants as progress
use Rattle.lib_os.specs.declared.service.Service.{Service}
use Rattle.lib_os.specs.AbstractState.{AbstractState, Born, Request, Stage, act, born, asked, in_service, seek}
use Rattle.lib_os.specs.AbstractState.{Server, leaving, idle, looking, busy, acted, is_idle}
use Rattle.lib_os.specs.Answers.{at_stage}
use Rattle.lib_os.specs.FileServer.{request_begun}
use Rattle.lib_os.specs.InOrder.{IsInOrder}
use Rattle.lib_os.specs.LibraryPages.{IsOwnWritable}
use Rattle.lib_os.specs.LibrarySteps.{AbstractFollows, KeepsServer, KeepsStanding, LeavesOrAsks, NothingRefused, asked_it, left_alone}
use Rattle.lib_os.specs.LibrarySteps.{asking_step, request_perm, service_answered, with_message_in}
use Rattle.lib_os.specs.Places.{place_of, words_at, is_handlers}
use Rattle.lib_os.specs.Rows.{MayBeHad, Names, is_shared, lasting, logical, rows_of}
use Rattle.lib_os.specs.Services.{service_of}
use Rattle.lib_os.specs.InService.{IsIn}
use Rattle.lib_os.specs.StandsFor.{AwaitsRequest, HasAsked, IsServerStatus, StandsAt, StandsAtStep, StandsFor, StandsForBorn, StandsForServer}
use Rattle.lib_os.specs.StandsFor.{TellsRequest}
use Rattle.lib_os.specs.LibraryPages.{View}
use Rattle.lib_os.specs.StandsFor.{borne_in, upcall_at, view_of}
use Rattle.lib_os.specs.UserCalls.{CallStep, Got, got, giving, system}
use Rattle.lib_os.proofs.AskedPlaces.{asked_step}
use Rattle.lib_os.proofs.Calls.{refusal_is_seen}
use Rattle.lib_os.proofs.Effects.{Given}
use Rattle.lib_os.proofs.EntriesStand.{other_frame, same_sharing}
use Rattle.lib_os.proofs.EntryWords.{row_entry}
use Rattle.lib_os.proofs.GoingOn.{words_stand}
use Rattle.lib_os.proofs.Logical.{clients_so, is_plain, logical_plain}
use Rattle.lib_os.proofs.Numbered.{named_at, number_of}
use Rattle.lib_os.proofs.NumbersKept.{KeepsCopies, sent_copies}
use Rattle.lib_os.proofs.PassedOn.{given_with}
use Rattle.lib_os.proofs.PipesStand.{calm_places, descriptors_turned, is_calm}
use Rattle.lib_os.proofs.Placing.{inserted_given}
use Rattle.lib_os.proofs.Remapping.{lasting_write}
use Rattle.lib_os.proofs.RequestPages.{asked_calm, asking_calm, asking_unpiped, identifying_calm, pausing_calm}
use Rattle.lib_os.proofs.RequestPages.{told_put, asking_told, pausing_told, request_brought, IsBeside, asked_held, asking_held, brings_page}
use Rattle.lib_os.proofs.RequestPages.{brings_plain, brings_unborne, identifying_held, identifying_step, pausing_held, pausing_step}
use Rattle.lib_os.specs.StandsInHandler.{MayPut, hands_back}
use Rattle.lib_os.proofs.RequestPages.{there_asked, told_asking, told_identifying, told_in, told_moved, told_pausing, word_asked}
use Rattle.lib_os.proofs.RequestsTold.{IsAsking, request_may_wait, request_step, request_told, with_request_of}
use Rattle.lib_os.proofs.Sends.{found_where, not_waited_for, page_comes, page_has_no_table}
use Rattle.lib_os.proofs.ServerAsked.{word_got}
use Rattle.lib_os.proofs.ServerStands.{IsPlacePage, OthersKept, OwnKept, first_slot, lent, placed_others, placed_own, server_moves}
use Rattle.lib_os.proofs.Serving.{IsServed, holds_page, library_moved, plain_copy, plain_upcall, plain_working, printed_nothing, served, kept_where, works}
use Rattle.lib_os.proofs.Slots.{slot_kept}
use Rattle.lib_os.proofs.SlotsStand.{born_at, born_live, is_piped}
use Rattle.lib_os.proofs.StatesStand.{born_not_first, counts_beside, slot_changed, slot_was_in_order, status_stands, stopped_settles}
use Rattle.lib_os.proofs.Trying.{IsAnswered, try_send_answered}
use Rattle.lib_os.proofs.WordsTell.{handler_runs, is_in_handler, place_at}
use Rattle.jos_base.proofs.Maps.{upd-at}
use Rattle.jos_base.proofs.Puts.{Elsewhere, place_cases}

-- ---- the call

abbrev pub page_ask_call : KernelState → ℕ → ℕ → CallStep Called
page_ask_call s n word = system s n SYS_IPC_TRY_SEND (FIRST_ENV_ID ∷ word ∷ UTEMP ∷ request_perm ∷ 0 ∷ [])

-- the entry by which the server has the page
abbrev pub request_entry : Entry → Entry
request_entry x = record { frame = x.frame; perm = request_perm }

-- the server's slot, to which the word has come
abbrev pub server_told : KernelState → ℕ → ℕ → Slot
server_told s n word = with_message_in (slot_at s 0) (slot_at s n).id word request_perm

-- the state in which both have come
abbrev pub page_asked : KernelState → SpacesState → ℕ → ℕ → KernelState
page_asked s sp n word = with_slot_at (with_spaces s sp) 0 (server_told s n word)

-- The page at UTEMP comes to the server.
pub record PageComes (s : KernelState) (sp : SpacesState) (n : ℕ) : Type 0 where
  pub entry : Entry
  pub stands : s.spaces.entries (slot_at s n).directory (page_number UTEMP) ≡ Some entry
  pub is : inserted s.spaces (slot_at s 0).directory (page_number REQUEST) (request_entry entry) ≡ Some sp

-- The server waits, and both come to it, or there is no frame for a table; or it does not wait, and nothing is changed.
pub data PageAsksOrWaits (s : KernelState) (a : AbstractState) (n word : ℕ) : Type 0 where
  asks : a.server ≡ idle → AwaitsRequest (slot_at s 0) → (sp : SpacesState) → PageComes s sp n →
      page_ask_call s n word ≡ giving (page_asked s sp n word) (Answered 0) → PageAsksOrWaits s a n word
  lacks : page_ask_call s n word ≡ giving (with_refusal s) (Answered (negated E_NO_MEM)) → PageAsksOrWaits s a n word
  waits : is_idle a.server ≡ false → page_ask_call s n word ≡ giving s (Answered (negated E_IPC_NOT_RECV)) → PageAsksOrWaits s a n word

module _ {names : Names} {s : KernelState} {a : AbstractState} (h : StandsFor names s a) (n : ℕ) (b : Born) (at : a.slots n ≡ born b)
    (silent : (slot_at s n).rendezvous.receiving ≡ false)
    (working : IsOwnWritable (rows_of s.spaces (slot_at s n).directory) (page_number UTEMP)) (word : ℕ) where
  abbrev dir : ℕ
  dir = (slot_at s n).directory

  abbrev servers : ℕ
  servers = (slot_at s 0).directory

  live : is_live_slot (slot_at s n) ≡ true
  live = born_live (born_at h n b at)

  named : found s.environments FIRST_ENV_ID n false ≡ Some 0
  named = found_where s.environments FIRST_ENV_ID n (λ e. omega (arith, e)) (first_slot h).lives (first_slot h).id_is

  -- the page as the kernel has it
  source : (e : Entry) × (s.spaces.entries dir (page_number UTEMP) ≡ Some e) × (lasting e ≡ working.entry)
  source = row_entry s.spaces dir (page_number UTEMP) working.entry working.stands

  given_on : shared_entry (entry_at s n UTEMP) request_perm ≡ Some (request_entry source.0)
  given_on =
      ap (λ (o : Option Entry). shared_entry o request_perm) source.1
      ∙ given_with source.0 request_perm refl
      (λ writes. lasting_write source.0.perm ∙ ap (λ (x : Entry). has_write x.perm) source.2 ∙ working.writes)

  pub page_asks_or_waits : PageAsksOrWaits s a n word
  page_asks_or_waits = by_server a.server refl h.server.status
    where
      deaf : (server : Server) → a.server ≡ server → is_idle server ≡ false → (slot_at s 0).rendezvous.receiving ≡ false → PageAsksOrWaits s a n word
      deaf server is not_idle silent_too =
          waits (ap is_idle is ∙ not_idle)
          (not_waited_for s n FIRST_ENV_ID word UTEMP request_perm (0 ∷ []) live silent 0 named
          (λ i. silent_too i && (((slot_at s 0).rendezvous.wanted == 0) || ((slot_at s 0).rendezvous.wanted == (slot_at s n).id))))

      by_spaces : a.server ≡ idle → (so : AwaitsRequest (slot_at s 0)) → (o : Option SpacesState) →
          inserted s.spaces servers (page_number REQUEST) (request_entry source.0) ≡ o → PageAsksOrWaits s a n word
      by_spaces is so None none =
          lacks
          (page_has_no_table s n FIRST_ENV_ID word UTEMP request_perm (0 ∷ []) live silent 0 named
          (λ i. so.receiving i && ((so.anybody i == 0) || (so.anybody i == (slot_at s n).id))) (omega arith) (omega arith)
          (request_entry source.0) given_on (subst (λ (va : ℕ). va < UTOP) (sym so.destination) (omega arith))
          (ap (λ (va : ℕ). inserted_at s 0 va (request_entry source.0)) so.destination ∙ none))
      by_spaces is so (Some sp) put =
          asks is so sp (record { entry = source.0; stands = source.1; is = put })
          (page_comes s n FIRST_ENV_ID word UTEMP request_perm (0 ∷ []) live silent 0 named
          (λ i. so.receiving i && ((so.anybody i == 0) || (so.anybody i == (slot_at s n).id))) (omega arith) (omega arith)
          (request_entry source.0) given_on (subst (λ (va : ℕ). va < UTOP) (sym so.destination) (omega arith)) sp
          (ap (λ (va : ℕ). inserted_at s 0 va (request_entry source.0)) so.destination ∙ put))

      by_server : (server : Server) → a.server ≡ server → IsServerStatus server (slot_at s 0) → PageAsksOrWaits s a n word
      by_server idle is so = by_spaces is so (inserted s.spaces servers (page_number REQUEST) (request_entry source.0)) refl
      by_server leaving is so = deaf leaving is refl so.1
      by_server (looking client request place) is so = deaf (looking client request place) is refl so.1
      by_server (busy client request place) is so = deaf (busy client request place) is refl so.1
      by_server (acted client answer bytes object) is so = deaf (acted client answer bytes object) is refl so.1

-- ---- its page

-- as the library sees it
pub request_page : {names : Names} {s : KernelState} {a : AbstractState} {n : ℕ} (id fd : ℕ) (call : Service) → brings_page call ≡ true →
    IsServed names s a n call (asking_step call id fd) → IsOwnWritable (rows_of s.spaces (slot_at s n).directory) (page_number UTEMP)
request_page {s = s} {n = n} id fd call with_page v =
    v.own.library.working
    (works (plain_working (place_of (slot_at s n)) (slot_at s n).extra (ap is_in_handler v.place) ∙ ap holds_page v.place
    ∙ asking_held call with_page id fd))

-- its own part, where it has asked
asked_page_own : {names : Names} {s : SpacesState} {k : Slot} {b : Born} (call : Service) → brings_page call ≡ true → (id fd : ℕ) (stage : Stage) →
    StandsForBorn names s k b → is_handlers k.registers.esp ≡ false → holds_page (place_of k) ≡ kept_where true → is_calm (place_of k) ≡ true →
    IsIn k b call stage → id ≡ k.id →
    IsBeside (rows_of s k.directory) call fd → (hands_back call ≡ true → MayPut call) →
    service_of (record k.registers { eax = (number_of call) }) ≡ call →
    StandsForBorn names s (record k { extra = words_at (number_of call) (asked_step call id fd) })
    (record b { phase = in_service call asked })
asked_page_own {names = names} {s = s} {k = k} {b = b} call with_page id fd stage own outside holds calm is_in self beside put names_it =
    let j : Slot = record k { extra = words_at (number_of call) (asked_step call id fd) } in
    let c : Born = record b { phase = in_service call asked } in
    let there : place_of j ≡ place.InService call (asked_step call id fd) =
    place_at k.registers (number_of call) (asked_step call id fd) outside ∙ ap (λ (x : Service). place.InService x (asked_step call id fd)) names_it in
    let plain : is_in_handler (place_of k) ≡ false = handler_runs k.registers k.extra ∙ outside in
    let so : HasAsked j c call = record { program = is_in.program; phase = refl; silent = is_in.silent; awake = is_in.awake } in
    record {
      id = own.id;
      id_small = own.id_small;
      parent = own.parent;
      env_type = own.env_type;
      runs = own.runs;
      upcall = own.upcall ∙ plain_upcall (place_of k) plain ∙ sym (ap upcall_at there);
      descriptors = descriptors_turned names s k.directory (place_of k) (place_of j) b.descriptors calm (ap is_calm there ∙ asked_calm call id fd)
          own.descriptors;
      memory = own.memory;
      library = library_moved (place_of k) (place_of j) k.extra j.extra (rows_of s k.directory)
          (plain_copy (place_of k) plain ∙ sym (plain_copy (place_of j) (ap is_in_handler there)))
          (plain_working (place_of k) k.extra plain ∙ holds ∙ sym (ap holds_page there ∙ asked_held call with_page id fd)
          ∙ sym (plain_working (place_of j) j.extra (ap is_in_handler there))) own.library;
      regions_have = own.regions_have;
      regions_only = own.regions_only;
      stack = own.stack;
      flags = own.flags;
      at = subst (λ (p : Place). StandsAt p (view_of s k.directory) j c) (sym there)
          (there_asked (view_of s k.directory) j c call with_page id fd put (self, beside, so));
    }

-- ---- the page has come

module _ {names : Names} {s : KernelState} {a : AbstractState} (h : StandsFor names s a) (n : ℕ) (b : Born) (at : a.slots n ≡ born b)
    (page : IsOwnWritable (rows_of s.spaces (slot_at s n).directory) (page_number UTEMP))
    (page_counts : logical s.spaces s.environments.slots n (page_number UTEMP) ≡ Some page.entry) (unpiped : is_piped (place_of (slot_at s n)) ≡ false)
    (word : ℕ) (sp : SpacesState) (comes : PageComes s sp n) (in_order : IsInOrder (page_asked s sp n word)) (last : s.last ≡ Some n) where
  abbrev server_dir : ℕ
  server_dir = (slot_at s 0).directory

  abbrev entry : Entry
  entry = request_entry comes.entry

  page_is : lasting comes.entry ≡ page.entry
  unfolding rows_of
  page_is = same_Some (lasting comes.entry) page.entry (sym (ap (λ (o : Option Entry). option_map lasting o) comes.stands) ∙ page.stands)

  -- no client has its frame elsewhere
  page_alone : (m p : ℕ) (x : Entry) → logical s.spaces s.environments.slots m p ≡ Some x → x.frame ≡ entry.frame → MayBeHad true p x
  page_alone m p x is same = by_case (place_cases m p n (page_number UTEMP))
    where
      frames : x.frame ≡ page.entry.frame
      frames = same ∙ ap (λ (e : Entry). e.frame) page_is

      sharing : is_shared x.perm ≡ false
      sharing =
          same_sharing (logical s.spaces s.environments.slots) h.apart m p n (page_number UTEMP) x page.entry is page_counts frames ∙ page.own_page

      by_case : ((m ≡ n) × (p ≡ page_number UTEMP)) ⊎ Elsewhere m p n (page_number UTEMP) → MayBeHad true p x
      by_case (inl here) = (here.1, sharing)
      by_case (inr ne) =
          absurd (other_frame (logical s.spaces s.environments.slots) h.apart n (page_number UTEMP) m p x page.entry ne page_counts page.writes is
          sharing frames)

  -- nor has the server, but perhaps as the page of a request
  not_lent : (q : ℕ) (y : Entry) → rows_of s.spaces server_dir q ≡ Some y → y.frame ≡ entry.frame → q ≡ page_number REQUEST
  not_lent q y stands same = by_test (q == page_number REQUEST) refl
      (h.beside n (page_number UTEMP) q page.entry y page_counts stands (sym (same ∙ ap (λ (e : Entry). e.frame) page_is)))
    where
      by_test : (c : Bool) → (q == page_number REQUEST) ≡ c → MayBeHad c (page_number UTEMP) page.entry → q ≡ page_number REQUEST
      by_test true test may = grind (arith, nat_tests, test)
      by_test false test may = absurd (let contradiction : false ≡ true = may.descriptor in cc)

  spaces_in_order : IsInOrder (with_spaces s sp)
  spaces_in_order = slot_was_in_order (with_spaces s sp) 0 (server_told s n word) (sym (first_slot h).lives) refl in_order

  page_given : Given s.spaces sp server_dir (page_number REQUEST) entry
  page_given =
      inserted_given s.spaces sp server_dir (page_number REQUEST) entry (slot_at s n).directory (page_number UTEMP) comes.entry h.in_order.frames
      spaces_in_order.frames refl comes.stands refl comes.is

  pub others_asked : OthersKept s.spaces sp server_dir
  others_asked =
      placed_others page_given.placed
      (λ q r y there same. ap sp.pages same ∙ page_given.same ∙ ap s.spaces.pages (sym same))

  own : OwnKept s.spaces sp server_dir a.opened a.files.blocks (logical s.spaces s.environments.slots)
  own =
      placed_own h.server (page_number REQUEST) entry page_given.placed (lent refl page_alone not_lent)
      (λ place z is. absurd (no_place place)) refl refl
    where
      no_place : IsPlacePage (page_number REQUEST) → ⊥
      no_place place = let below = place.1 in let is = place.2 in omega (arith, below, is)

  told_stands : StandsForServer (server_told s n word) FIRST_ENV_ID
  told_stands =
      let k = first_slot h in record {
        first = k.first;
        id_is = k.id_is;
        lives = refl;
        parent = k.parent;
        env_type = k.env_type;
        words = k.words;
        stack = k.stack;
      }

  -- the request has come to the server
  pub request_comes : (request : Request) → StandsFor names (page_asked s sp n word) (with_request_of a n request)
  request_comes request =
      server_moves h sp others_asked own (λ m ne. counts_beside h n last unpiped sp m)
      (server_told s n word) (with_request_of a n request).server refl
      (stopped_settles (slot_at s 0) (server_told s n word) refl refl refl refl) told_stands (begun_status request) in_order
    where
      -- it may run, whatever is asked
      begun_status : (x : Request) → IsServerStatus (request_begun n x) (server_told s n word)
      begun_status (act (open_path path mode) object) = (tt, refl)
      begun_status (act _ object) = (tt, refl)
      begun_status (seek name offset) = (tt, refl)

module _ {names : Names} {s : KernelState} {a : AbstractState} (h : StandsFor names s a) (n id fd : ℕ) (call : Service)
    (with_page : brings_page call ≡ true) (v : IsServed names s a n call (asking_step call id fd)) (sp : SpacesState) (comes : PageComes s sp n)
    (in_order : IsInOrder (page_asked s sp n (word_asked call))) (last : s.last ≡ Some n) where
  abbrev told_word : ℕ
  told_word = word_asked call

  other : n ≢ 0
  other same = born_not_first h n v.b v.is (sym same)

  abbrev page : IsOwnWritable (rows_of s.spaces (slot_at s n).directory) (page_number UTEMP)
  page = request_page id fd call with_page v

  page_counts : logical s.spaces s.environments.slots n (page_number UTEMP) ≡ Some page.entry
  page_counts =
      logical_plain s.spaces s.environments.slots n
      (clients_so n (slot_at s n) (λ same. other (sym same)) (born_live (born_at h n v.b v.is))) (ap is_plain v.place ∙ brings_plain call with_page (asking_step call id fd)) (page_number UTEMP)
      ∙ page.stands

  page_request_stands : (request : Request) → StandsFor names (page_asked s sp n (word_asked call)) (with_request_of a n request)
  page_request_stands request =
      request_comes h n v.b v.is page page_counts (ap is_piped v.place ∙ asking_unpiped call id fd) told_word sp comes in_order last request

  told : (id ≡ (slot_at s n).id) × IsBeside (rows_of s.spaces (slot_at s n).directory) call fd
      × TellsRequest (view_of s.spaces (slot_at s n).directory) (slot_at s n) v.b call
  told = told_asking (view_of s.spaces (slot_at s n).directory) (slot_at s n) v.b call with_page id fd v.at

  -- and who has asked stands where it will wait for the reply
  pub page_asking_stands : (request : Request) →
      StandsFor names (with_extra (page_asked s sp n (word_asked call)) n (words_at (number_of call) (asked_step call id fd)))
      (at_stage (with_request_of a n request) n v.b call asked)
  page_asking_stands what =
      let m : KernelState = page_asked s sp n told_word in
      let k : Slot = slot_at m n in
      let request = page_request_stands what in
      let stage = told_in (view_of s.spaces (slot_at s n).directory) (slot_at s n) v.b call told.2 in
      let kept : k ≡ slot_at s n = slot_kept (with_spaces s sp) 0 (server_told s n told_word) n other in
      let outside : is_handlers k.registers.esp ≡ false = ap (λ (x : Slot). is_handlers x.registers.esp) kept ∙ v.outside in
      let place_is : place_of k ≡ place.InService call (asking_step call id fd) = ap (λ (x : Slot). place_of x) kept ∙ v.place in
      let names_it : service_of (record k.registers { eax = number_of call }) ≡ call = named_at k call (asking_step call id fd) place_is in
      let standing : StandsAtStep (view_of sp k.directory) k v.b call (asking_step call id fd) =
      subst (λ (p : Place). StandsAt p (view_of sp k.directory) k v.b) place_is (born_at request n v.b v.is).at in
      let beside : IsBeside (rows_of sp k.directory) call fd = (told_asking (view_of sp k.directory) k v.b call with_page id fd standing).1 in
      let own_part = asked_page_own call with_page id fd stage.0 (born_at request n v.b v.is) outside
      (ap holds_page place_is ∙ asking_held call with_page id fd) (ap is_calm place_is ∙ asking_calm call id fd)
      (subst (λ (x : Slot). IsIn x v.b call stage.0) (sym kept) stage.1)
      (told.0 ∙ sym (ap (λ (x : Slot). x.id) kept)) beside
      (told_put (view_of s.spaces (slot_at s n).directory) (slot_at s n) v.b call told.2) names_it in
      let j : Slot = record k { extra = words_at (number_of call) (asked_step call id fd) } in
      let there : place_of j ≡ place.InService call (asked_step call id fd) =
      place_at k.registers (number_of call) (asked_step call id fd) outside ∙ ap (λ (x : Service). place.InService x (asked_step call id fd)) names_it in
      slot_changed request n v.b v.is j (record v.b { phase = in_service call asked }) refl
      (record { id = refl; env_type = refl; turns = refl; calm = λ runs. runs }) (ap is_plain place_is ∙ brings_plain call with_page (asking_step call id fd))
      (ap is_plain there ∙ brings_plain call with_page (asked_step call id fd)) own_part
      (calm_places (ap is_calm place_is ∙ asking_calm call id fd) (ap is_calm there ∙ asked_calm call id fd)) (λ which. refl)

-- ---- by its answer

module _ (s : KernelState) (n id fd : ℕ) (call : Service) (with_page : brings_page call ≡ true)
    (stands : place_of (slot_at s n) ≡ place.InService call (asking_step call id fd)) where
  abbrev code : ℕ
  code = word_asked call

  abbrev mid : KernelState
  mid = (page_ask_call s n code).state

  -- what its page tells
  tells : {names : Names} {a : AbstractState} → (h : StandsFor names s a) →
      TellsRequest (view_of s.spaces (slot_at s n).directory) (slot_at s n) (served h n call (asking_step call id fd) stands).b call
  tells h =
      let v = served h n call (asking_step call id fd) stands in
      (told_asking (view_of s.spaces (slot_at s n).directory) (slot_at s n) v.b call with_page id fd v.at).2

  asking : {names : Names} {a : AbstractState} → (h : StandsFor names s a) → IsAsking a n (served h n call (asking_step call id fd) stands).b call
  asking h =
      let v = served h n call (asking_step call id fd) stands in
      request_told h n v.b v.is (ap borne_in v.place ∙ brings_unborne call with_page (asking_step call id fd))
      (ap is_calm v.place ∙ asking_calm call id fd) call fd
      (told_asking (view_of s.spaces (slot_at s n).directory) (slot_at s n) v.b call with_page id fd v.at).1 (tells h)

  outcome : {names : Names} {a : AbstractState} → StandsFor names s a → PageAsksOrWaits s a n code
  outcome h =
      let v = served h n call (asking_step call id fd) stands in
      page_asks_or_waits h n v.b v.is (told_in (view_of s.spaces (slot_at s n).directory) (slot_at s n) v.b call (tells h)).1.silent
      (request_page id fd call with_page v) code

  gave : (after : KernelState) (w word : ℕ) → page_ask_call s n code ≡ giving after (Answered w) →
      (page_ask_call s n code).gives ≡ got (Answered word) → word ≡ w
  gave after w word is gives = ap (λ (x : Got Called). word_got x) (sym gives ∙ ap (λ (x : CallStep Called). x.gives) is)

  came_to : (after : KernelState) (w : ℕ) → page_ask_call s n code ≡ giving after (Answered w) → mid ≡ after
  came_to after w is = ap (λ (x : CallStep Called). x.state) is

  -- the word and the page have come
  pub page_asked_keeps : IsInOrder mid → (page_ask_call s n code).gives ≡ got (Answered 0) →
      KeepsStanding progress.Visible n s (with_extra mid n (words_at (number_of call) (asked_step call id fd))) []
  page_asked_keeps order gives a h turn quiet = by_outcome (outcome h.1)
    where
      by_outcome : PageAsksOrWaits s a n code → AbstractFollows progress.Visible n (with_extra mid n (words_at (number_of call) (asked_step call id fd))) a []
      by_outcome (waits not_idle call_is) =
          let same = gave s (negated E_IPC_NOT_RECV) 0 call_is gives in absurd (omega (arith, same))
      by_outcome (lacks call_is) =
          let same = gave (with_refusal s) (negated E_NO_MEM) 0 call_is gives in absurd (omega (arith, same))
      by_outcome (asks is so sp comes call_is) =
          let v = served h.1 n call (asking_step call id fd) stands in
          let it = came_to (page_asked s sp n code) 0 call_is in
          let does = asking h.1 in
          let end : AbstractState = at_stage (with_request_of a n does.request) n v.b call asked in (
            end,
            request_step a n v.b call does is,
            printed_nothing a,
            (
              h.0,
              subst (λ (t : KernelState). StandsFor h.0 (with_extra t n (words_at (number_of call) (asked_step call id fd))) end) (sym it)
                  (page_asking_stands h.1 n id fd call with_page v sp comes (subst (λ (t : KernelState). IsInOrder t) it order) turn.last does.request),
            ),
          )

  -- the server does not wait
  pub page_waiting_keeps : (page_ask_call s n code).gives ≡ got (Answered (negated E_IPC_NOT_RECV)) →
      KeepsStanding progress.Waited n s (with_extra mid n (words_at (number_of call) (pausing_step call id fd))) []
  page_waiting_keeps gives a h turn quiet = by_outcome (outcome h.1)
    where
      by_outcome : PageAsksOrWaits s a n code → AbstractFollows progress.Waited n (with_extra mid n (words_at (number_of call) (pausing_step call id fd))) a []
      by_outcome (asks is so sp comes call_is) =
          let same = gave (page_asked s sp n code) 0 (negated E_IPC_NOT_RECV) call_is gives in absurd (omega (arith, same))
      by_outcome (lacks call_is) =
          let same = gave (with_refusal s) (negated E_NO_MEM) (negated E_IPC_NOT_RECV) call_is gives in absurd (omega (arith, same))
      by_outcome (waits not_idle call_is) =
          let v = served h.1 n call (asking_step call id fd) stands in
          let told = told_asking (view_of s.spaces (slot_at s n).directory) (slot_at s n) v.b call with_page id fd v.at in
          let stage = told_in (view_of s.spaces (slot_at s n).directory) (slot_at s n) v.b call told.2 in
          let words = words_at (number_of call) (pausing_step call id fd) in (
            (
              refl,
              (
                h.0,
                subst (λ (t : KernelState). StandsFor h.0 (with_extra t n words) a) (sym (came_to s (negated E_IPC_NOT_RECV) call_is))
                    (words_stand h.1 n (number_of call) v.b v.is v.own v.outside
                    (ap borne_in v.place ∙ brings_unborne call with_page (asking_step call id fd)) (ap is_calm v.place ∙ asking_calm call id fd) call
                    (pausing_step call id fd)
                    (ap holds_page v.place ∙ asking_held call with_page id fd
                    ∙ sym (pausing_held call with_page id fd))
                    (brings_unborne call with_page (pausing_step call id fd)) (pausing_calm call id fd)
                    (named_at (slot_at s n) call (asking_step call id fd) stands)
                    (pausing_told (view_of s.spaces (slot_at s n).directory) (record (slot_at s n) { extra = words }) v.b call with_page id fd
                    (told.0, told.1, told_moved (view_of s.spaces (slot_at s n).directory) (slot_at s n) v.b (slot_at s n).status words call told.2))),
              ),
            ),
            request_may_wait a n v.b call with_page v.is (asking h.1) stage.0 stage.1.phase not_idle SHORT_QUANTUM,
          )

  -- there was no frame for a table, of which nothing is said
  pub page_lacking_keeps : (word : ℕ) → (page_ask_call s n code).gives ≡ got (Answered word) → word ≢ 0 → word ≢ negated E_IPC_NOT_RECV →
      KeepsStanding progress.Finished n s (service_answered mid n word) []
  page_lacking_keeps word gives some other a h turn quiet = by_outcome (outcome h.1)
    where
      by_outcome : PageAsksOrWaits s a n code → AbstractFollows progress.Finished n (service_answered mid n word) a []
      by_outcome (asks is so sp comes call_is) = absurd (some (gave (page_asked s sp n code) 0 word call_is gives))
      by_outcome (waits not_idle call_is) = absurd (other (gave s (negated E_IPC_NOT_RECV) word call_is gives))
      by_outcome (lacks call_is) =
          absurd (refusal_is_seen s
          (subst (λ (t : KernelState). NothingRefused s t) (came_to (with_refusal s) (negated E_NO_MEM) call_is)
          (record { stays = quiet.stays; could = quiet.could })))

  -- the file server is asked, or left alone
  pub page_asking_server : KeepsServer n s mid
  page_asking_server then_so differs lives a h = by_outcome (outcome h.1)
    where
      by_outcome : PageAsksOrWaits s a n code → LeavesOrAsks n s mid
      by_outcome (asks is so sp comes call_is) =
          subst (λ (t : KernelState). LeavesOrAsks n s t) (sym (came_to (page_asked s sp n code) 0 call_is))
          (asked_it (record {
            by_service = call;
            id = id;
            fd = fd;
            at = stands;
            waited = so;
            brings = request_brought call with_page n s (page_asked s sp n code) (
              upd-at s.environments.slots 0 (server_told s n code),
              record { entry = comes.entry; stands = comes.stands; spaces = comes.is },
            );
          }))
      by_outcome (lacks call_is) =
          subst (λ (t : KernelState). LeavesOrAsks n s t) (sym (came_to (with_refusal s) (negated E_NO_MEM) call_is))
          (left_alone (record { slot = refl; entries = λ p. refl; regions = λ r. refl; pages = λ p e is lacks_it. refl }))
      by_outcome (waits not_idle call_is) =
          subst (λ (t : KernelState). LeavesOrAsks n s t) (sym (came_to s (negated E_IPC_NOT_RECV) call_is))
          (left_alone (record { slot = refl; entries = λ p. refl; regions = λ r. refl; pages = λ p e is lacks_it. refl }))

  -- what it leaves to the others
  pub page_asking_copies : KeepsCopies n s mid
  page_asking_copies = sent_copies s n (FIRST_ENV_ID ∷ code ∷ UTEMP ∷ request_perm ∷ 0 ∷ []) (λ a stands_so low. refl)

-- it is answered, and lives on
pub page_asking_answered : (s : KernelState) (n word : ℕ) → is_live_slot (slot_at s n) ≡ true →
    IsAnswered (page_ask_call s n word) n (slot_at s n).registers
page_asking_answered s n word live = try_send_answered s n FIRST_ENV_ID word UTEMP request_perm (0 ∷ []) live

-- ---- it knows its id, and gives up its turn

pub identified_keeps : (s : KernelState) (n fd : ℕ) (call : Service) → brings_page call ≡ true →
    place_of (slot_at s n) ≡ place.InService call (identifying_step call fd) →
    KeepsStanding progress.Hidden n s (with_extra s n (words_at (number_of call) (asking_step call (slot_at s n).id fd))) []
identified_keeps s n fd call with_page stands a h turn quiet =
    let v = served h.1 n call (identifying_step call fd) stands in
    let seen : View = view_of s.spaces (slot_at s n).directory in
    let told = told_identifying seen (slot_at s n) v.b call with_page fd v.at in
    let w = words_at (number_of call) (asking_step call (slot_at s n).id fd) in (
      refl,
      (
        h.0,
        words_stand h.1 n (number_of call) v.b v.is v.own v.outside (ap borne_in v.place ∙ brings_unborne call with_page (identifying_step call fd))
            (ap is_calm v.place ∙ identifying_calm call fd) call (asking_step call (slot_at s n).id fd)
            (ap holds_page v.place ∙ identifying_held call with_page fd
            ∙ sym (asking_held call with_page (slot_at s n).id fd))
            (brings_unborne call with_page (asking_step call (slot_at s n).id fd)) (asking_calm call (slot_at s n).id fd)
            (named_at (slot_at s n) call (identifying_step call fd) stands)
            (asking_told seen (record (slot_at s n) { extra = w }) v.b call with_page (slot_at s n).id fd
            (refl, told.0, told_moved seen (slot_at s n) v.b (slot_at s n).status w call told.1)),
      ),
    )

pub page_pausing_keeps : (s : KernelState) (n id fd : ℕ) (call : Service) → brings_page call ≡ true →
    place_of (slot_at s n) ≡ place.InService call (pausing_step call id fd) →
    KeepsStanding progress.Hidden n s (with_extra (with_status s n Runnable) n (words_at (number_of call) (asking_step call id fd))) []
page_pausing_keeps s n id fd call with_page stands a h turn quiet =
    let v = served h.1 n call (pausing_step call id fd) stands in
    let seen : View = view_of s.spaces (slot_at s n).directory in
    let told = told_pausing seen (slot_at s n) v.b call with_page id fd v.at in
    let stage = told_in seen (slot_at s n) v.b call told.2 in
    let ran = status_stands h.1 n v.b v.is stage.1.awake in
    let w = words_at (number_of call) (asking_step call id fd) in
    let slot_is : slot_at (with_status s n Runnable) n ≡ record (slot_at s n) { status = Runnable } =
    upd-at s.environments.slots n (record (slot_at s n) { status = Runnable }) in (
      refl,
      (
        h.0,
        words_stand ran n (number_of call) v.b v.is (born_at ran n v.b v.is)
            (ap (λ (x : Slot). is_handlers x.registers.esp) slot_is ∙ v.outside)
            (ap (λ (x : Slot). borne_in (place_of x)) slot_is ∙ ap borne_in v.place ∙ brings_unborne call with_page (pausing_step call id fd))
            (ap (λ (x : Slot). is_calm (place_of x)) slot_is ∙ ap is_calm v.place ∙ pausing_calm call id fd) call (asking_step call id fd)
            (ap (λ (x : Slot). holds_page (place_of x)) slot_is ∙ ap holds_page v.place ∙ pausing_held call with_page id fd
            ∙ sym (asking_held call with_page id fd))
            (brings_unborne call with_page (asking_step call id fd)) (asking_calm call id fd)
            (subst (λ (x : Slot). service_of (record x.registers { eax = number_of call }) ≡ call) (sym slot_is)
            (named_at (slot_at s n) call (pausing_step call id fd) stands))
            (subst (λ (x : Slot). StandsAtStep (view_of s.spaces x.directory) (record x { extra = w }) v.b call (asking_step call id fd)) (sym slot_is)
            (asking_told seen (record (slot_at s n) { status = Runnable; extra = w }) v.b call with_page id fd
            (told.0, told.1, told_moved seen (slot_at s n) v.b Runnable w call told.2))),
      ),
    )
