-- At each step of the server that makes a quiet call that gives what is seen, and does what is to be seen behind it; and nothing stops it.
use Rattle.std.proofs.Common.{◌≡◌, ◌∙◌, ◌*◌, ◌+◌, ◌/◌, ◌%◌, ◌<◌, ◌≤◌, ◌^◌, ℕ, true, false, Option, Some, Ok, Err, refl, sym, ap, subst, arith}
use Rattle.std.specs.Prelude.{get_or}
use Rattle.jos_base.specs.declared.numbers.TheConstants.{PGSIZE, UENVS, UVPT}
use Rattle.jos_base.specs.declared.registers.Regs.{Regs}
use Rattle.jos_base.specs.Environments.{Slot, record_words}
use Rattle.jos_base.specs.KernelState.{KernelState, slot_at}
use Rattle.jos_base.specs.Words.{upd}
use Rattle.std.proofs.Common.{List, [], ◌∷◌}
use Rattle.lib_os.specs.declared.numbers.TheConstants.{DEVICE_FILE, FD_DEVICE, FD_FILE, FD_MODE, FD_OFFSET, FD_SIZE, MAXOPEN, REQUEST}
use Rattle.lib_os.specs.declared.numbers.TheConstants.{REQUEST_COUNT, REQUEST_FILE, REQUEST_MODE, REQUEST_PLACE}
use Rattle.lib_os.specs.declared.request.RequestKind.{RequestKind}
use Rattle.lib_os.specs.declared.request.RequestKind.TheVariants as kind
use Rattle.lib_os.specs.declared.user_os.Stop.{Stop}
use Rattle.lib_os.specs.Disk.{Disk}
use Rattle.lib_os.specs.InOrder.{IsInOrder}
use Rattle.lib_os.specs.UserCalls.{IsStep, Output, load, store}
use Rattle.fs_tree.specs.TreeSteps.{job_in}
use Rattle.fs_requests.specs.declared.state.ServerState.{ServerState}
use Rattle.fs_requests.specs.declared.state.ServerStep.{ServerStep}
use Rattle.fs_requests.specs.declared.state.ServerStep.TheVariants as step
use Rattle.fs_requests.specs.ServerPlans.{call_for, next_at, open_page, open_record, place_va}
use Rattle.fs_requests.specs.ServerWords.{server_in}
use Rattle.fs_serving.specs.ServerViews.{IsReplyFor, IsSeenBehind, View, called, gone_on, place_told, request_word, with_page_word}
use Rattle.fs_server.specs.ServerSteps as server
use Rattle.fs_server.specs.ServerSteps.{IsReply, by_word, server_at, was_stopped}
use Rattle.fs_seen.specs.ServerMemory.{has_request, serving_in, view_in}
use Rattle.fs_seen.specs.ServerSees.{CallsAreSeen, CallsGoOn, HasPlace, IsSeen, NeedsAt, AllStands, ServesAlike, is_quiet, reads_request}
use Rattle.fs_seen.proofs.Accesses.{never_stops}
use Rattle.fs_seen.proofs.Alike.{IsBehind}
use Rattle.fs_seen.proofs.CallsMade.{e, e_stands, frame_is, getenvid_made, is_table, load_place, load_record, load_request, place_gives}
use Rattle.fs_seen.proofs.CallsMade.{place_store_gives}
use Rattle.fs_seen.proofs.CallsMade.{record_read_gives, record_store_gives, request_gives, store_place, store_record, yield_made}
use Rattle.fs_seen.proofs.CountWords.{count_at}
use Rattle.fs_seen.proofs.GoesOn.{goes_well}
use Rattle.fs_seen.proofs.Setting.{going_to, has_gone_on, was_in_order}
use Rattle.fs_seen.proofs.WindowsSeen.{count_gives, count_loaded, entry_gives, entry_loaded, record_gives, record_loaded}
use Rattle.fs_seen.specs.ServerMemory.{place_page}

-- ---- a call

-- a call at a step gives this word, and this is seen behind it
pub record HasGiven (d : Disk) (s mid : KernelState) (n : ℕ) (at : ServerStep) (st : ServerState) (word : ℕ) : Type 0 where
  pub view : View
  pub gives : IsReplyFor at st (view_in d s n) word
  pub seen : IsSeenBehind at st (view_in d s n) view
  pub behind : IsBehind d s mid n view

-- the words of a message in a record
value_at : (slot : Slot) → get_or (record_words slot) 10 0 ≡ slot.rendezvous.value
unfolding record_words
value_at slot = refl

sender_at : (slot : Slot) → get_or (record_words slot) 11 0 ≡ slot.rendezvous.sender
unfolding record_words
sender_at slot = refl

module _ (d : Disk) (s : KernelState) (n : ℕ) (h : AllStands d s n) (st : ServerState) (below : st.number < MAXOPEN) (output : Output) where
  abbrev v : View
  v = view_in d s n

  -- ---- the message

  value_is : n ≡ 0 → get_or (record_words (slot_at s 0)) 10 0 ≡ v.value
  value_is first = value_at (slot_at s 0) ∙ ap (λ (m : ℕ). (slot_at s m).rendezvous.value) (sym first)

  sender_is : n ≡ 0 → get_or (record_words (slot_at s 0)) 11 0 ≡ v.sender
  sender_is first = sender_at (slot_at s 0) ∙ ap (λ (m : ℕ). (slot_at s m).rendezvous.sender) (sym first)

  value_small : n ≡ 0 → get_or (record_words (slot_at s 0)) 10 0 < 2 ^ 32
  value_small first = subst (λ (w : ℕ). w < 2 ^ 32) (sym (value_is first)) h.words.value

  sender_small : n ≡ 0 → get_or (record_words (slot_at s 0)) 11 0 < 2 ^ 32
  sender_small first = subst (λ (w : ℕ). w < 2 ^ 32) (sym (sender_is first)) h.words.sender

  -- ---- a frame's count

  module _ (there : HasPlace st v) (frame : st.at / PGSIZE ≡ v.frames st.number) where
    same_frame : st.at / PGSIZE ≡ (e d s n h st.number below there).frame
    same_frame = frame ∙ frame_is d s n h st.number below there

    load_count : (word : ℕ) (mid : KernelState) → IsStep (load s n (count_at (st.at / PGSIZE))) (Ok word) mid output →
        (word ≡ v.holders (st.at / PGSIZE)) × IsBehind d s mid n v
    load_count word mid reply =
        let loaded = count_loaded d s n h.stands (place_page st.number) (is_table d s n h st.number below there)
        (e d s n h st.number below there)
        (e_stands d s n h st.number below there) h.stands.cache.in_order.frames h.words word mid output
        (subst (λ (f : ℕ). IsStep (load s n (count_at f)) (Ok word) mid output) same_frame reply) in
        (loaded.0 ∙ ap v.holders (sym same_frame), loaded.1)

    count_goes : (why : Stop) (mid : KernelState) → IsStep (load s n (count_at (st.at / PGSIZE))) (Err why) mid output → ⊥
    count_goes why mid reply =
        let f : ℕ = (e d s n h st.number below there).frame in
        never_stops (load s n (count_at f)) _ why mid output
        (count_gives d s n h.stands (place_page st.number) (is_table d s n h st.number below there) (e d s n h st.number below there)
        (e_stands d s n h st.number below there) h.stands.cache.in_order.frames h.words)
        (subst (λ (g : ℕ). IsStep (load s n (count_at g)) (Err why) mid output) same_frame reply)

  load_entry : (there : HasPlace st v) (word : ℕ) (mid : KernelState) →
      IsStep (load s n (UVPT + 4 * (open_page st.number / PGSIZE))) (Ok word) mid output →
      IsInOrder mid → (word / PGSIZE ≡ v.frames st.number) × IsBehind d s mid n v
  load_entry there word mid reply order =
      let loaded = entry_loaded d s n h.stands (place_page st.number) (is_table d s n h st.number below there) (e d s n h st.number below there)
      (e_stands d s n h st.number below there) h.stands.cache.in_order.frames word mid output reply order in
      (loaded.0 ∙ sym (frame_is d s n h st.number below there), loaded.1)

  entry_goes : (there : HasPlace st v) (why : Stop) (mid : KernelState) →
      IsStep (load s n (UVPT + 4 * (open_page st.number / PGSIZE))) (Err why) mid output → ⊥
  entry_goes there why mid reply =
      never_stops (load s n (UVPT + 4 * place_page st.number)) _ why mid output
      (entry_gives d s n h.stands (place_page st.number) (is_table d s n h st.number below there) (e d s n h st.number below there)
      (e_stands d s n h st.number below there) h.stands.cache.in_order.frames)
      reply

  -- ---- what is given

  module _ (mid : KernelState) (order : IsInOrder mid) (word : ℕ) where
    -- what changes nothing that is seen
    still : (at : ServerStep) → IsReplyFor at st v word → IsSeenBehind at st v v → IsBehind d s mid n v → HasGiven d s mid n at st word
    still at gives seen behind = record { view = v; gives = gives; seen = seen; behind = behind }

    of_request : (at : ServerStep) (place : ℕ) → has_request s n ≡ true → place + 4 ≤ PGSIZE → IsStep (load s n (REQUEST + place)) (Ok word) mid output →
        ((word ≡ request_word v place) → IsReplyFor at st v word) → IsSeenBehind at st v v → HasGiven d s mid n at st word
    of_request at place there fits reply gives seen =
        let loaded = load_request d s n h there place fits word mid output reply order in still at (gives loaded.0) seen loaded.1

    of_record : (at : ServerStep) → IsStep (load s n (open_record st.number)) (Ok word) mid output →
        ((word ≡ v.homes st.number) → IsReplyFor at st v word) → IsSeenBehind at st v v → HasGiven d s mid n at st word
    of_record at reply gives seen =
        let loaded = load_record d s n h st.number below word mid output reply order in still at (gives loaded.0) seen loaded.1

    of_store : (at : ServerStep) (place put : ℕ) → place + 4 ≤ PGSIZE → HasPlace st v →
        IsStep (store s n (open_page st.number + place) put) (Ok tt) mid output →
        IsReplyFor at st v word → ((w : View) → w ≡ with_page_word v st.number place put → IsSeenBehind at st v w) → HasGiven d s mid n at st word
    of_store at place put fits there reply gives seen = record {
      view = with_page_word v st.number place put;
      gives = gives;
      seen = seen (with_page_word v st.number place put) refl;
      behind = store_place d s n h st.number below there place fits put mid output reply order;
    }

    -- the place of the next byte, wherever it stands
    offset_given : (asked : Option RequestKind) → HasPlace st v → has_request s n ≡ true →
        IsStep (load s n (place_va asked st.number)) (Ok word) mid output → (word ≡ place_told asked v st.number) × IsBehind d s mid n v
    offset_given (Some kind.ReadAt) there page reply = load_request d s n h page REQUEST_PLACE (omega arith) word mid output reply order
    offset_given _ there page reply = load_place d s n h st.number below there FD_OFFSET (omega arith) word mid output reply order

    pub given : (at : ServerStep) → is_quiet at ≡ true → NeedsAt at st v n → (reads_request at ≡ true → has_request s n ≡ true) → st.home < 2 ^ 32 →
        IsReply (call_for st at) s n (Ok word) mid output → HasGiven d s mid n at st word
    given step.ReadingKind quiet first reads small reply =
        let loaded = record_loaded d s n h.stands 10 (omega arith) (value_small first) word mid output reply in
        still step.ReadingKind (loaded.0 ∙ value_is first) refl loaded.1
    given step.ReadingClient quiet first reads small reply =
        let loaded = record_loaded d s n h.stands 11 (omega arith) (sender_small first) word mid output reply in
        still step.ReadingClient (loaded.0 ∙ sender_is first) refl loaded.1
    given step.ReadingFile quiet need reads small reply = of_request step.ReadingFile REQUEST_FILE (reads refl) (omega arith) reply (λ is. is) refl
    given step.ReadingOffset quiet there reads small reply =
        let loaded = offset_given st.kind there (reads refl) reply in still step.ReadingOffset loaded.0 refl loaded.1
    given step.ReadingCount quiet need reads small reply = of_request step.ReadingCount REQUEST_COUNT (reads refl) (omega arith) reply (λ is. is) refl
    given step.ReadingRecord quiet need reads small reply = of_record step.ReadingRecord reply (λ is. is) refl
    given step.LookingRecord quiet need reads small reply = of_record step.LookingRecord reply (λ is. is) refl
    given step.LookingEntry quiet there reads small reply =
        let loaded = load_entry there word mid reply order in still step.LookingEntry loaded.0 refl loaded.1
    given step.LookingHolders quiet need reads small reply =
        let loaded = load_count need.0 need.1 word mid reply in still step.LookingHolders loaded.0 refl loaded.1
    given step.ReadingMode quiet need reads small reply = of_request step.ReadingMode REQUEST_MODE (reads refl) (omega arith) reply (λ is. is) refl
    given step.StoringRecord quiet need reads small reply = record {
      view = record v { homes = upd v.homes st.number st.home };
      gives = tt;
      seen = refl;
      behind = store_record d s n h st.number below st.home small mid output reply.1 order;
    }
    given step.StoringDevice quiet there reads small reply =
        of_store step.StoringDevice FD_DEVICE DEVICE_FILE (omega arith) there reply.1 tt (λ w is. is)
    given step.ReadingModeAgain quiet need reads small reply = of_request step.ReadingModeAgain REQUEST_MODE (reads refl) (omega arith) reply (λ is. is) refl
    given step.StoringMode quiet there reads small reply =
        of_store step.StoringMode FD_MODE (st.count % 4) (omega arith) there reply.1 tt (λ w is. is)
    given step.StoringFile quiet there reads small reply = of_store step.StoringFile FD_FILE st.number (omega arith) there reply.1 tt (λ w is. is)
    given step.ReadingRecordAgain quiet need reads small reply = of_record step.ReadingRecordAgain reply (λ is. is) refl
    given step.StoringSize quiet there reads small reply =
        of_store step.StoringSize FD_SIZE st.count (omega arith) there reply.1 tt (λ w is. is)
    given step.Advancing quiet there reads small reply =
        let loaded = load_place d s n h st.number below there FD_OFFSET (omega arith) word mid output reply order in
        still step.Advancing loaded.0 refl loaded.1
    given step.StoringOffset quiet there reads small reply = of_store step.StoringOffset FD_OFFSET st.at (omega arith) there reply.1 tt (λ w is. is)
    given step.CheckingRecord quiet need reads small reply = of_record step.CheckingRecord reply (λ is. is) refl
    given step.CheckingEntry quiet there reads small reply =
        let loaded = load_entry there word mid reply order in still step.CheckingEntry loaded.0 refl loaded.1
    given step.CheckingHolders quiet need reads small reply =
        let loaded = load_count need.0 need.1 word mid reply in still step.CheckingHolders loaded.0 refl loaded.1
    given step.Acting quiet need reads small (answer, told, call) =
        still step.Acting tt refl (getenvid_made d s n h (0 ∷ 0 ∷ 0 ∷ 0 ∷ 0 ∷ []) answer mid output call)
    given step.Pausing quiet need reads small (answer, told, call) =
        still step.Pausing tt refl (yield_made d s n h (0 ∷ 0 ∷ 0 ∷ 0 ∷ 0 ∷ []) answer mid output call order)
    given step.Releasing quiet need reads small reply = absurd (let contradiction : false ≡ true = quiet in cc)
    given step.Receiving quiet need reads small reply = absurd (let contradiction : false ≡ true = quiet in cc)
    given step.TakingPage quiet need reads small reply = absurd (let contradiction : false ≡ true = quiet in cc)
    given step.Working quiet need reads small reply = absurd (let contradiction : false ≡ true = quiet in cc)
    given step.Finding quiet need reads small reply = absurd (let contradiction : false ≡ true = quiet in cc)
    given step.Sizing quiet need reads small reply = absurd (let contradiction : false ≡ true = quiet in cc)
    given step.Flushing quiet need reads small reply = absurd (let contradiction : false ≡ true = quiet in cc)
    given step.Replying quiet need reads small reply = absurd (let contradiction : false ≡ true = quiet in cc)

  -- ---- no fault

  module _ (mid : KernelState) (why : Stop) where
    request_goes : (place : ℕ) → has_request s n ≡ true → place + 4 ≤ PGSIZE → IsStep (load s n (REQUEST + place)) (Err why) mid output → ⊥
    request_goes place there fits = never_stops (load s n (REQUEST + place)) _ why mid output (request_gives d s n h there place fits)

    record_goes : IsStep (load s n (open_record st.number)) (Err why) mid output → ⊥
    record_goes = never_stops (load s n (open_record st.number)) _ why mid output (record_read_gives d s n h st.number below)

    place_goes : (there : HasPlace st v) → IsStep (load s n (open_page st.number + FD_OFFSET)) (Err why) mid output → ⊥
    place_goes there =
        never_stops (load s n (open_page st.number + FD_OFFSET)) _ why mid output (place_gives d s n h st.number below there FD_OFFSET (omega arith))

    store_goes : (there : HasPlace st v) (place put : ℕ) → place + 4 ≤ PGSIZE →
        IsStep (store s n (open_page st.number + place) put) (Err why) mid output → ⊥
    store_goes there place put fits =
        never_stops (store s n (open_page st.number + place) put) tt why mid output (place_store_gives d s n h st.number below there place fits put)

    offset_goes : (asked : Option RequestKind) → HasPlace st v → has_request s n ≡ true →
        IsStep (load s n (place_va asked st.number)) (Err why) mid output → ⊥
    offset_goes (Some kind.ReadAt) there page reply = request_goes REQUEST_PLACE page (omega arith) reply
    offset_goes _ there page reply = place_goes there reply

    pub goes : (at : ServerStep) → is_quiet at ≡ true → NeedsAt at st v n → (reads_request at ≡ true → has_request s n ≡ true) →
        IsReply (call_for st at) s n (Err why) mid output → ⊥
    goes step.ReadingKind quiet first reads reply =
        never_stops (load s n (UENVS + 64 * 0 + 4 * 10)) _ why mid output
        (record_gives d s n h.stands 10 (omega arith) (value_small first)) reply
    goes step.ReadingClient quiet first reads reply =
        never_stops (load s n (UENVS + 64 * 0 + 4 * 11)) _ why mid output
        (record_gives d s n h.stands 11 (omega arith) (sender_small first)) reply
    goes step.ReadingFile quiet need reads reply = request_goes REQUEST_FILE (reads refl) (omega arith) reply
    goes step.ReadingOffset quiet there reads reply = offset_goes st.kind there (reads refl) reply
    goes step.ReadingCount quiet need reads reply = request_goes REQUEST_COUNT (reads refl) (omega arith) reply
    goes step.ReadingRecord quiet need reads reply = record_goes reply
    goes step.LookingRecord quiet need reads reply = record_goes reply
    goes step.LookingEntry quiet there reads reply = entry_goes there why mid reply
    goes step.LookingHolders quiet need reads reply = count_goes need.0 need.1 why mid reply
    goes step.ReadingMode quiet need reads reply = request_goes REQUEST_MODE (reads refl) (omega arith) reply
    goes step.StoringRecord quiet need reads reply =
        never_stops (store s n (open_record st.number) st.home) tt why mid output (record_store_gives d s n h st.number below st.home) reply
    goes step.StoringDevice quiet there reads reply = store_goes there FD_DEVICE DEVICE_FILE (omega arith) reply
    goes step.ReadingModeAgain quiet need reads reply = request_goes REQUEST_MODE (reads refl) (omega arith) reply
    goes step.StoringMode quiet there reads reply = store_goes there FD_MODE (st.count % 4) (omega arith) reply
    goes step.StoringFile quiet there reads reply = store_goes there FD_FILE st.number (omega arith) reply
    goes step.ReadingRecordAgain quiet need reads reply = record_goes reply
    goes step.StoringSize quiet there reads reply = store_goes there FD_SIZE st.count (omega arith) reply
    goes step.Advancing quiet there reads reply = place_goes there reply
    goes step.StoringOffset quiet there reads reply = store_goes there FD_OFFSET st.at (omega arith) reply
    goes step.CheckingRecord quiet need reads reply = record_goes reply
    goes step.CheckingEntry quiet there reads reply = entry_goes there why mid reply
    goes step.CheckingHolders quiet need reads reply = count_goes need.0 need.1 why mid reply
    goes step.Acting quiet need reads reply = reply
    goes step.Pausing quiet need reads reply = reply
    goes step.Releasing quiet need reads reply = reply
    goes step.Receiving quiet need reads reply = reply
    goes step.TakingPage quiet need reads reply = reply
    goes step.Working quiet need reads reply = reply
    goes step.Finding quiet need reads reply = reply
    goes step.Sizing quiet need reads reply = reply
    goes step.Flushing quiet need reads reply = reply
    goes step.Replying quiet need reads reply = reply

-- ---- the laws

pub number_below : (regs : Regs) (words : List ℕ) → (server_in regs words).number < MAXOPEN
unfolding server_in
number_below regs words = omega arith

home_at : (regs : Regs) (words : List ℕ) → (server_in regs words).home ≡ get_or words 1 0
unfolding server_in
home_at regs words = refl

module _ (d : Disk) (s : KernelState) (n : ℕ) (output : Output) (h : AllStands d s n) where
  abbrev st : ServerState
  st = server_at s n

  abbrev pub own_below : st.number < MAXOPEN
  own_below = number_below (slot_at s n).registers (slot_at s n).extra

  home_small : st.home < 2 ^ 32
  home_small = subst (λ (w : ℕ). w < 2 ^ 32) (sym (home_at (slot_at s n).registers (slot_at s n).extra)) (h.words.words 1)

  -- a call that has given a word, and behind which the server has gone on
  pub seen_by : (mid after : KernelState) (word : ℕ) → HasGiven d s mid n st.step st word → IsInOrder after →
      after ≡ server.gone_on mid n (next_at st word) →
      IsSeen d s after n (next_at st word).seen
  seen_by mid after word g order is =
      let gone = has_gone_on mid n (next_at st word) d (goes_well st st.step word own_below) g.behind.over
      (job_in s n) after is order in
      record {
        next = next_at st word;
        behind = gone_on (serving_in d s n) (next_at st word) g.view;
        calls = called word g.view g.gives g.seen refl;
        stands_as = subst (λ (w : View). ServesAlike (going_to (next_at st word) (job_in s n) w) (serving_in d after n)) g.behind.view gone.stands_as;
        shows = refl;
        stands = gone.over;
        request_stays = gone.request_stays ∙ g.behind.request_stays;
        cache = gone.cache ∙ g.behind.cache;
      }

pub calls_go_on : CallsGoOn
calls_go_on d s mid n output why quiet need reads h reply =
    goes d s n h (server_at s n) (own_below d s n output h) output mid why (server_at s n).step quiet need reads reply

pub calls_are_seen : CallsAreSeen
calls_are_seen d s after n output _ quiet need reads h order (by_word word mid reply is) =
    let st : ServerState = server_at s n in
    seen_by d s n output h mid after word
    (given d s n h st (own_below d s n output h) output mid (was_in_order mid n (next_at st word) after is order) word st.step quiet need reads
    (home_small d s n output h) reply)
    order is
calls_are_seen d s after n output _ quiet need reads h order (was_stopped why done reply stopped) =
    absurd (goes d s n h (server_at s n) (own_below d s n output h) output after why (server_at s n).step quiet need reads reply)
