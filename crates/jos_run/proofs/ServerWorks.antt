-- A step of the job on files that the file server makes for a request: a call of its cache, or an access to the page of a block or of the request, which
-- nobody sees; or the job has answered, and the server goes on by that. Where no page was to be had for a block that is counted, and nothing is owed.
-- A byte that is handed back stands then in the page that the client has lent, of which nothing is known while it waits.
use Rattle.std.proofs.Common.{◌≡◌, ◌≢◌, ◌∙◌, ◌⊎◌, inl, inr, ◌==◌, ◌+◌, ◌-◌, ◌%◌, ◌<◌, ◌≤◌, ℕ, Bool, true, false, [], length, Option, Some, None, Ok, Err}
use Rattle.std.proofs.Common.{refl, sym, ap, subst, arith, if◌then◌else◌}
use Rattle.std.specs.Prelude.{is_some}
use Rattle.std.proofs.lemmas.Option.{same_Some}
use Rattle.jos_host.specs.declared.host.Failed.{Failed}
use Rattle.jos_host.specs.Files.{Files}
use Rattle.jos_host.specs.Frames.{Around, from_to}
use Rattle.jos_base.specs.Environments.{Slot}
use Rattle.jos_base.specs.KernelState.{KernelState, slot_at, with_slot_at}
use Rattle.jos_base.specs.Reach.{Entry}
use Rattle.jos_base.specs.Words.{page_number}
use Rattle.jos_base.proofs.Maps.{upd-at}
use Rattle.fs_layout.specs.declared.numbers.TheConstants.{MAXBLOCKS}
use Rattle.lib_os.specs.declared.numbers.TheConstants.{CACHE_BLOCKS, MAXOPEN, REQUEST}
use Rattle.lib_os.specs.declared.progress.Progress.{Progress}
use Rattle.lib_os.specs.declared.progress.Progress.TheVariants as progress
use Rattle.lib_os.specs.declared.request.RequestKind.{RequestKind}
use Rattle.lib_os.specs.declared.request.RequestKind.TheVariants as kind
use Rattle.lib_os.specs.AbstractLaws.{client_served}
use Rattle.lib_os.specs.AbstractState.{AbstractState, Server, busy, idle, leaving, looking}
use Rattle.lib_os.specs.BlockCache.{block_address}
use Rattle.lib_os.specs.Disk.{Disk, DiskFile, disk_in}
use Rattle.lib_os.specs.InOrder.{IsInOrder}
use Rattle.lib_os.specs.LibrarySteps.{NothingRefused}
use Rattle.lib_os.specs.MadeCalls.{IsServersCall, MakesCall, MakesServersCall, SetsWords, UserCall, gave, is_server_page, loads, loads_byte, stores, stores_byte}
use Rattle.lib_os.specs.StandsFor.{StandsFor}
use Rattle.lib_os.specs.UserCalls.{IsStep, Output, PrintsPart, store_byte}
use Rattle.lib_os.proofs.CallsMade.{in_block, in_request, of_word, sets_twice}
use Rattle.lib_os.proofs.HandedBack.{handed_back_stands}
use Rattle.lib_os.proofs.ServersCalls.{CallLeaves, MayCall, block_plain, server_call_stands}
use Rattle.lib_os.proofs.ServerStands.{IsPrivateAt, plain_private, words_stand}
use Rattle.lib_os.proofs.SlotsSet.{both_set}
use Rattle.lib_os.proofs.StatesStand.{slot_was_in_order}
use Rattle.fs_blocks.specs.CachePlaces.{state_in as cache_in}
use Rattle.fs_blocks.specs.declared.place.CacheState.{CacheState}
use Rattle.fs_cache.specs.CacheSteps.{cache_state, fetch_state}
use Rattle.fs_cache.proofs.CacheBegins.{fetch_goes, fetch_stands}
use Rattle.fs_cache.proofs.Interfaces.{view_in as cache_seen}
use Rattle.fs_jobs.specs.declared.asks.TreeAsk.{TreeAsk}
use Rattle.fs_jobs.specs.declared.asks.TreeAsk.TheVariants as ask
use Rattle.fs_jobs.specs.declared.place.Job.TheVariants as job
use Rattle.fs_jobs.specs.TreeTests.{low_byte}
use Rattle.fs_runs.specs.TreePlans as tree
use Rattle.fs_tree.specs.declared.steps.Acted.{Acted}
use Rattle.fs_tree.specs.declared.steps.Acted.TheVariants as acted
use Rattle.fs_tree.specs.TreeMakes.{IsAccess, IsOfRequest, IsTreeCall, IsTreeStep, asks_block, asks_request, fetches}
use Rattle.fs_tree.specs.TreeSteps as steps
use Rattle.fs_tree.specs.TreeSteps.{HasRequest, HasStepped, IsLawful, TreeAt, job_in}
use Rattle.fs_tree.proofs.TiesBlocks.{found_stands}
use Rattle.fs_tree.proofs.TiesLaw.{access_slot}
use Rattle.fs_tree.proofs.TiesWords.{cache_alike}
use Rattle.fs_requests.specs.declared.plan.ServerNext.{ServerNext}
use Rattle.fs_requests.specs.declared.state.ServerState.{ServerState}
use Rattle.fs_requests.specs.declared.state.ServerStep.{ServerStep}
use Rattle.fs_requests.specs.declared.state.ServerStep.TheVariants as step
use Rattle.fs_requests.specs.ServerPlans.{acting as about_to_act, advancing, begun, found_by, hidden, is_count, next_at, next_for, worked_by}
use Rattle.fs_server.specs.ServerSteps.{HasWorked, WorksQuietly, WorksWhereTold, answers, goes, server_at}
use Rattle.fs_server.proofs.ServerMade.{server_sets}
use Rattle.fs_serving.specs.ServerRuns.{StandsServing, is_acting}
use Rattle.fs_seen.specs.BlockSteps.{LacksBlock}
use Rattle.fs_seen.specs.ServerMemory.{HasWords, sends_page, serving_in}
use Rattle.fs_seen.specs.ServerSees.{AllStands, HasServed, is_working}
use Rattle.fs_seen.specs.ServerWhole.{GoesOnServing}
use Rattle.fs_seen.proofs.GoesOn.{goes_well}
use Rattle.fs_seen.proofs.JobsServed.{jobs_are_lawful, jobs_serve}
use Rattle.fs_seen.proofs.ServesFor.{served_is_kept}
use Rattle.fs_seen.proofs.TableLeft.{still}
use Rattle.jos_run.specs.ServerStands.{BringsOwn, HasLent, IsClient, IsLent, IsLentBy, StandsWhole, client_id, serving_at, step_of}
use Rattle.jos_run.specs.Worlds.{beside}
use Rattle.jos_run.proofs.CacheCalls.{fetch_brings}
use Rattle.jos_run.proofs.CacheGoes.{blocks_are, cache_step, makes_then_sets}
use Rattle.jos_run.proofs.ServerGoes.{ServesClient, behind_slot, behind_stands, gone_to, number_below, stands_told}
use Rattle.jos_run.proofs.ServerNow.{client_there}
use Rattle.jos_run.proofs.ServerRows.{LeavesRequestBy, RowsStay, rows_by, server_call_rows}
use Rattle.jos_run.proofs.ServerStepped.{Stepped, all_stand, lent_still, stands_serving, unseen}

-- ---- words that are set twice

-- Behind a state, or behind words that are set there, words are set once more, or not.
sets_behind : (mid after last : KernelState) → (after ≡ mid) ⊎ SetsWords mid after 0 → (last ≡ after) ⊎ SetsWords after last 0 →
    (last ≡ mid) ⊎ SetsWords mid last 0
sets_behind mid after last (inl same) (inl more) = inl (more ∙ same)
sets_behind mid after last (inl same) (inr sets) = inr (subst (λ (x : KernelState). SetsWords x last 0) same sets)
sets_behind mid after last (inr before) (inl more) = inr (subst (λ (x : KernelState). SetsWords mid x 0) (sym more) before)
sets_behind mid after last (inr before) (inr sets) = inr (sets_twice mid after last 0 before sets)

makes_behind : {call : UserCall} {s mid after : KernelState} {disk : DiskFile} {files : Around (Option Files)} {output : Output} →
    MakesCall call s mid 0 disk files output → (after ≡ mid) ⊎ SetsWords mid after 0 → MakesCall call s after 0 disk files output
makes_behind {call = call} {s = s} {disk = disk} {files = files} {output = output} makes (inl same) =
    subst (λ (z : KernelState). MakesCall call s z 0 disk files output) (sym same) makes
makes_behind makes (inr sets) = makes_then_sets makes sets

-- ---- the page that is lent

-- While it acts it serves a client,
acts_for : (server : Server) → is_acting server ≡ true → (client : ℕ) × (client_served server ≡ Some client)
acts_for (looking client request place) acts = (client, refl)
acts_for (busy client request place) acts = (client, refl)
acts_for _ acts = absurd (let contradiction : false ≡ true = acts in cc)

-- which has lent the page of the request, where there is one.
lent_page : (t : Bool) (s : KernelState) (client : ℕ) → IsLentBy t s client → HasRequest s 0 → IsLent s client
lent_page true s client lent has = lent
lent_page false s client none has =
    absurd (let contradiction : false ≡ true = sym none ∙ ap (λ (o : Option Entry). is_some o) has.stands in cc)

acts_lent : (server : Server) (s : KernelState) (client : ℕ) → is_acting server ≡ true → client_served server ≡ Some client → HasLent server s →
    HasRequest s 0 → IsLent s client
acts_lent (looking who request place) s client acts served lent has =
    lent_page (sends_page request) s client (subst (λ (n : ℕ). IsLentBy (sends_page request) s n) (same_Some who client served) lent) has
acts_lent (busy who request place) s client acts served lent has =
    lent_page (sends_page request) s client (subst (λ (n : ℕ). IsLentBy (sends_page request) s n) (same_Some who client served) lent) has
acts_lent _ s client acts served lent has = absurd (let contradiction : false ≡ true = acts in cc)

acts_leaves : (server : Server) → is_acting server ≡ true → server ≢ leaving
acts_leaves server acts is = let contradiction : false ≡ true = sym (ap is_acting is) ∙ acts in cc

acts_idle : (server : Server) → is_acting server ≡ true → server ≢ idle
acts_idle server acts is = let contradiction : false ≡ true = sym (ap is_acting is) ∙ acts in cc

-- ---- whom it serves

-- at the steps at which a job is under way its own words tell its client
works_for : (x : ServerStep) → is_working x ≡ true → (j : Slot) → client_id x j ≡ (serving_at j).client
works_for step.Working on j = refl
works_for step.Finding on j = refl
works_for step.Sizing on j = refl
works_for _ on j = absurd (let contradiction : false ≡ true = on in cc)

-- ---- where it goes by the answer

module _ (state : ServerState) where
  -- Nobody sees it, and it goes on for the same client.
  abbrev Answers : ServerNext → Type 0
  Answers next =
      (progress.Hidden ≡ next.seen) × (next.state.client ≡ state.client) × ((j : Slot) → client_id next.state.step j ≡ (serving_at j).client)

  by_test : (t : Bool) (x y : ServerNext) → Answers x → Answers y → Answers (if t then x else y)
  by_test true x y first second = first
  by_test false x y first second = second

  about_acts : (word : ℕ) → Answers (about_to_act state word)
  about_acts word = (refl, refl, (λ j. refl))

  moves_by : (word : ℕ) → Answers (advancing state word)
  moves_by word =
      by_test (is_count word) (hidden (record state { count = word }) step.Advancing) (about_to_act state word) (refl, refl, (λ j. refl))
      (about_acts word)

  worked_so : (o : Option RequestKind) (word : ℕ) → Answers (worked_by o state word)
  worked_so (Some kind.Open) word =
      by_test (word == 0) (begun state step.Finding job.Find) (about_to_act state word) (refl, refl, (λ j. refl)) (about_acts word)
  worked_so (Some kind.Read) word = moves_by word
  worked_so (Some kind.Write) word = moves_by word
  worked_so (Some kind.SetSize) word = about_acts word
  worked_so (Some kind.Stat) word = about_acts word
  worked_so (Some kind.Remove) word = about_acts word
  worked_so (Some kind.Sync) word = about_acts word
  worked_so (Some kind.Seek) word = about_acts word
  worked_so (Some kind.ReadAt) word = about_acts word
  worked_so None word = about_acts word

  found_so : (o : Option RequestKind) (word : ℕ) → Answers (found_by o state word)
  found_so (Some kind.Open) word =
      by_test (is_count word) (hidden (record state { home = word }) step.StoringRecord) (about_to_act state word) (refl, refl, (λ j. refl))
      (about_acts word)
  found_so (Some kind.Remove) word =
      by_test (is_count word) (hidden (record state { home = word }) step.CheckingRecord) (about_to_act state word) (refl, refl, (λ j. refl))
      (about_acts word)
  found_so (Some kind.Read) word = about_acts word
  found_so (Some kind.Write) word = about_acts word
  found_so (Some kind.SetSize) word = about_acts word
  found_so (Some kind.Stat) word = about_acts word
  found_so (Some kind.Sync) word = about_acts word
  found_so (Some kind.Seek) word = about_acts word
  found_so (Some kind.ReadAt) word = about_acts word
  found_so None word = about_acts word

  answers_by : (x : ServerStep) → is_working x ≡ true → (word : ℕ) → Answers (next_for state x word)
  answers_by step.Working on word = worked_so state.kind word
  answers_by step.Finding on word = found_so state.kind word
  answers_by step.Sizing on word =
      by_test (is_count word) (hidden (record state { count = word }) step.StoringSize) (about_to_act state word) (refl, refl, (λ j. refl))
      (about_acts word)
  answers_by _ on word = absurd (let contradiction : false ≡ true = on in cc)

module _ (disk : DiskFile) (before : KernelState) (files : Around (Option Files)) (output : Output) (f : Files) (told : files.before ≡ Some f)
    (a : AbstractState) (whole : StandsWhole (beside before (Some (disk_in f disk))) a) (words : HasWords before 0)
    (acts : is_acting a.server ≡ true) where
  abbrev d : Disk
  d = disk_in f disk

  abbrev k : Slot
  k = slot_at before 0

  abbrev state : ServerState
  state = server_at before 0

  all_so : (after : KernelState) → AllStands d before 0
  all_so after = all_stand disk before after files output d a whole words acts

  serving_so : (after : KernelState) → StandsServing d.count a (serving_in d before 0)
  serving_so after = stands_serving disk before after files output d a whole words (acts_idle a.server acts)

  count_is : a.files.blocks ≡ d.count
  count_is = let it = serving_so before in blocks_are d.count it.before a.files it.files

  few : a.files.blocks ≤ MAXBLOCKS
  few = subst (λ (n : ℕ). n ≤ MAXBLOCKS) (sym count_is) whole.1.serving.stands.count

  -- ---- the call

  -- What is left behind the call, and behind the words that are set then.
  record Left (after : KernelState) : Type 0 where
    call : CallLeaves whole.0.0 after a
    rows : RowsStay before after

  -- It leaves a state that stands for the same, with its entries, and where the cache stands goes on bringing blocks of the disk.
  record TreeMade (mid : KernelState) : Type 0 where
    leaves : (after : KernelState) → (after ≡ mid) ⊎ SetsWords mid after 0 → IsInOrder after → Left after
    brings : BringsOwn d (cache_state mid 0).place

  abbrev same_files : Around (Option Files)
  same_files = from_to (Some f) (Some f)

  word_page : (va : ℕ) → page_number (va - va % 4) ≡ page_number va
  word_page va = omega arith

  -- one that it may make
  call_leaves : (call : UserCall) (servers : IsServersCall call) → LeavesRequestBy call servers → MayCall call servers before a → (mid : KernelState)
      (others : Around (Option Files)) (printed : Output) → MakesCall call before mid 0 disk others printed → (after : KernelState) →
      (after ≡ mid) ⊎ SetsWords mid after 0 → IsInOrder after → Left after
  call_leaves call servers leaves may mid others printed makes after left in_order =
      let made = makes_behind makes left in
      record {
        call = server_call_stands whole.0.1 call servers after disk others printed made may whole.1.twelve in_order;
        rows = server_call_rows whole.0.1 call servers leaves after disk others printed made may in_order;
      }

  -- an access to a page that no client has, or one that reads
  module _ (va w : ℕ) (mid : KernelState) (printed : Output) (own : is_server_page (page_number va) ≡ true) (same_slot : slot_at mid 0 ≡ k) where
    brings_still : BringsOwn d (cache_state mid 0).place
    brings_still = subst (λ (x : Slot). let c : CacheState = cache_in x.extra in BringsOwn d c.place) (sym same_slot) whole.1.brings

    made_by : (call : UserCall) (servers : IsServersCall call) → LeavesRequestBy call servers → MakesCall call before mid 0 disk same_files printed →
        MayCall call servers before a → TreeMade mid
    made_by call servers leaves makes may =
        record { leaves = call_leaves call servers leaves may mid same_files printed makes; brings = brings_still }

    private_access : IsPrivateAt before (page_number va) → (asked : TreeAsk) → IsAccess asked va before 0 (Ok w) mid printed → TreeMade mid
    private_access private (ask.Load at) it =
        made_by (loads (va - va % 4)) (of_word va own).0 tt (record { mid = mid; made = (gave w it, refl); left = inl refl }) (w, it.0)
    private_access private (ask.LoadByte at) it =
        made_by (loads_byte va) tt tt (record { mid = mid; made = (gave w it, refl); left = inl refl }) (w, it.0)
    private_access private (ask.Store at value) it =
        made_by (stores (va - va % 4) value) (of_word va own) tt (record { mid = mid; made = (gave tt it.1, refl); left = inl refl })
        (it.1.0, subst (λ (p : ℕ). IsPrivateAt before p) (sym (word_page va)) private)
    private_access private (ask.StoreByte at byte) it =
        made_by (stores_byte va (low_byte byte)) own tt (record { mid = mid; made = (gave tt it.1, refl); left = inl refl }) (it.1.0, private)
    private_access private (ask.Request at) it =
        made_by (loads_byte va) tt tt (record { mid = mid; made = (gave w it, refl); left = inl refl }) (w, it.0)
    private_access private (ask.HandBack at byte) it =
        made_by (stores_byte va (low_byte byte)) own tt (record { mid = mid; made = (gave tt it.1, refl); left = inl refl }) (it.1.0, private)

    -- a byte that is handed back, in the page that the client has lent
    module _ (page : page_number va ≡ page_number REQUEST) (has : HasRequest before 0) where
      hand_stands : (byte : ℕ) → byte < 256 → IsStep (store_byte before 0 va byte) (Ok tt) mid printed → IsInOrder mid → StandsFor whole.0.0 mid a
      hand_stands byte small it in_order =
          let for_whom = acts_for a.server acts in
          let there = client_there whole.0.1 for_whom.0 (client_id (step_of k) k) whole.1.asked for_whom.1 (whole.1.client for_whom.0 for_whom.1) in
          let lent = acts_lent a.server before for_whom.0 acts for_whom.1 whole.1.lent has in
          handed_back_stands whole.0.1 for_whom.0 there.b there.at there.service there.there lent.own lent.entry lent.kept lent.stands lent.same va byte
          small page mid printed it in_order

      hand_leaves : (byte : ℕ) → byte < 256 → IsStep (store_byte before 0 va byte) (Ok tt) mid printed → (after : KernelState) →
          (after ≡ mid) ⊎ SetsWords mid after 0 → IsInOrder after → Left after
      hand_leaves byte small it after left in_order = record { call = by_left left; rows = rows }
        where
          makes : MakesCall (stores_byte va byte) before after 0 disk same_files printed
          makes = record { mid = mid; made = (gave tt it, refl); left = left }

          rows : RowsStay before after
          rows = rows_by whole.0.1 (stores_byte va byte) own tt after disk same_files printed makes it.0 in_order

          twelve : length (slot_at mid 0).extra ≡ 12
          twelve = ap (λ (x : Slot). length x.extra) same_slot ∙ whole.1.twelve

          by_left : (after ≡ mid) ⊎ SetsWords mid after 0 → CallLeaves whole.0.0 after a
          by_left (inl same) = record {
            stands = subst (λ (z : KernelState). StandsFor whole.0.0 z a) (sym same) (hand_stands byte small it (subst IsInOrder same in_order));
            twelve = ap (λ (z : KernelState). length (slot_at z 0).extra) same ∙ twelve;
          }
          by_left (inr sets) =
              let j : Slot = record (slot_at mid 0) { registers = sets.registers; extra = sets.words } in
              let set : after ≡ with_slot_at mid 0 j = sets.set ∙ both_set mid 0 sets.registers sets.words in
              let stands = hand_stands byte small it (slot_was_in_order mid 0 j refl refl (subst IsInOrder set in_order)) in
              record {
                stands = words_stand stands after sets twelve;
                twelve = ap (λ (z : KernelState). length (slot_at z 0).extra) set
                    ∙ ap (λ (x : Slot). length x.extra) (upd-at mid.environments.slots 0 j) ∙ sets.long twelve;
              }

      low_small : (byte : ℕ) → low_byte byte < 256
      low_small byte = omega arith

      request_access : (asked : TreeAsk) (at : ℕ) → IsOfRequest asked at → IsAccess asked va before 0 (Ok w) mid printed → TreeMade mid
      request_access (ask.Request place) at of it =
          made_by (loads_byte va) tt tt (record { mid = mid; made = (gave w it, refl); left = inl refl }) (w, it.0)
      request_access (ask.HandBack place byte) at of it =
          record { leaves = hand_leaves (low_byte byte) (low_small byte) it.1; brings = brings_still }
      request_access (ask.Load place) at of it = absurd of
      request_access (ask.LoadByte place) at of it = absurd of
      request_access (ask.Store place value) at of it = absurd of
      request_access (ask.StoreByte place byte) at of it = absurd of

  module _ (stands : TreeAt d before 0) where
    abbrev asked : TreeAsk
    asked = tree.ask_at (job_in before 0)

    tree_made : (now : Files) (mid : KernelState) (printed : Output) → IsTreeCall asked disk f now before mid 0 printed → TreeMade mid
    tree_made now mid printed (fetches block tells below gone) =
        let place = (cache_state before 0).place in
        let hand = (cache_state before 0).hand in
        let it = cache_step whole.0.1 few d count_is disk (from_to (Some f) (Some now)) whole.1.serving.stands.cache (fetch_state before 0 block)
        (fetch_stands d (cache_seen before 0) place hand block below.0 whole.1.serving.stands.cache.stands) (fetch_goes place block)
        (fetch_brings d place block below.1 whole.1.brings) tells mid printed gone in
        record {
          leaves = call_leaves it.call it.own it.leaves it.may mid (from_to (Some f) (Some now)) printed it.makes;
          brings = it.brings_on;
        }
    tree_made now mid printed (asks_block block at w small found call) =
        let below : block < CACHE_BLOCKS = let it = found_stands d before 0 block stands found in it.block_below in
        let page : page_number (block_address block + at) ≡ page_number (block_address block) = omega (arith, small) in
        private_access (block_address block + at) w mid printed (in_block block at below small)
        (access_slot asked before mid 0 (block_address block + at) w printed call)
        (subst (λ (p : ℕ). IsPrivateAt before p) (sym page) (plain_private whole.0.1 (page_number (block_address block)) (block_plain block below)))
        asked call
    tree_made now mid printed (asks_request place at w is small call) =
        let page : page_number (REQUEST + at) ≡ page_number REQUEST = omega (arith, small) in
        request_access (REQUEST + at) w mid printed (in_request at small) (access_slot asked before mid 0 (REQUEST + at) w printed call) page
        stands.request asked place is call

    -- ---- the step of the job

    -- What a step of the job leaves, which is such a call.
    record TreeLeft (after : KernelState) : Type 0 where
      leaves : (last : KernelState) → (last ≡ after) ⊎ SetsWords after last 0 → IsInOrder last → Left last
      brings : BringsOwn d (cache_state after 0).place
      status : (slot_at after 0).status ≡ k.status

    tree_left : (now : Files) (after : KernelState) → IsTreeStep asked disk f now before after 0 → TreeLeft after
    tree_left now after it =
        let made = tree_made now it.mid it.output it.call in
        record {
          leaves = λ last left in_order. made.leaves last (sets_behind it.mid after last it.left left) in_order;
          brings = subst (λ (c : CacheState). BringsOwn d c.place)
              (sym (cache_alike (slot_at after 0).extra (slot_at it.mid 0).extra it.cache)) made.brings;
          status = ap (λ (x : Slot). x.status) it.rest.slot;
        }

  still_tree : {e : Disk} (mid : KernelState) (acts : Acted) → HasStepped d e before mid 0 acts → TreeAt e mid 0
  still_tree mid _ (steps.waits waiting) = waiting.stands
  still_tree mid _ (steps.goes next moved by there) = moved.stands
  still_tree mid _ (steps.answers word moved by) = moved.stands
  still_tree mid _ (steps.lacks waiting refusal rests) = waiting.stands

  -- ---- the step

  abbrev ComesTo : KernelState → Progress → Type 0
  ComesTo after done = (now : Files) × (files.after ≡ Some now) × Stepped before (beside after (Some (disk_in now disk))) a done output

  module _ (on : is_working (step_of k) ≡ true) where
    answers_at : (word : ℕ) → Answers state (next_at state word)
    answers_at word = answers_by state (step_of k) on word

    tree_stands : TreeAt d before 0 × IsLawful d before 0
    tree_stands = jobs_are_lawful a d before 0 on whole.1.serving.requested (all_so before) (serving_so before)

    -- the client that it serves
    serves_as : (y : ServerStep) (j : Slot) → client_id y j ≡ state.client → ServesClient a y j
    serves_as y j same who served =
        subst (λ (i : ℕ). IsClient a who i) (sym (same ∙ sym (works_for (step_of k) on k))) (whole.1.client who served)

    module _ (after : KernelState) (now : Files) (told_then : files.after ≡ Some now) (done : Progress)
        (made : MakesServersCall (from_to before after) 0 disk files output) where
      abbrev e : Disk
      e = disk_in now disk

      -- what it serves, where no page was refused
      work_served : HasWorked state disk f now before after 0 done → IsInOrder after → NothingRefused before after → GoesOnServing done e after 0 a
      work_served worked in_order nothing =
          by_served (jobs_serve d.count a disk f now before after files output done on whole.1.serving.requested (all_so after) (serving_so after)
          in_order told told_then made worked)
        where
          by_served : HasServed d.count a e before after 0 done ⊎ LacksBlock d e before after 0 done → GoesOnServing done e after 0 a
          by_served (inl served) = served_is_kept a e before after done whole.1.serving.requested whole.1.serving.rests served
          by_served (inr lacks) =
              absurd (let more = lacks.counted nothing.could in let same = nothing.stays in omega (arith, more, same))

    abbrev e_at : Files → Disk
    e_at now = disk_in now disk

    lent_so : (after : KernelState) → RowsStay before after → HasLent a.server after
    lent_so after rows = lent_still disk before after files output d a whole words (acts_leaves a.server acts) rows

    work_stands : (after : KernelState) (now : Files) (done : Progress) → HasWorked state disk f now before after 0 done → IsInOrder after →
        GoesOnServing done (e_at now) after 0 a → StandsWhole (beside after (Some (e_at now))) a
    work_stands after now _ (goes stepped alone) in_order serving =
        let it = tree_left tree_stands.0 now after alone in
        let left = it.leaves after (inl refl) in_order in
        let same = still before after 0 alone.rest in (
          (whole.0.0, left.call.stands),
          record {
            serving = serving;
            twelve = left.call.twelve;
            brings = it.brings;
            client = subst (λ (y : ServerStep). ServesClient a y (slot_at after 0)) (sym same.at_step)
                (serves_as (step_of k) (slot_at after 0) (works_for (step_of k) on (slot_at after 0) ∙ same.client));
            asked = whole.1.asked;
            fits = whole.1.fits;
            lent = lent_so after left.rows;
          },
        )
    work_stands after now _ (answers word mid stepped alone is) in_order serving =
        let it = tree_left tree_stands.0 now mid alone in
        let next = next_at state word in
        let to = answers_at word in
        let left = it.leaves after (inr (server_sets mid after 0 next is)) in_order in
        let below : next.state.number < MAXOPEN =
        let well = goes_well state state.step word (number_below k.registers k.extra) in well.below in
        let long : length (slot_at mid 0).extra ≡ 12 = let tree_then = still_tree mid (acted.Answer word) stepped in tree_then.cache.words in
        let told_so = stands_told (slot_at mid 0) next below long in (
          (whole.0.0, left.call.stands),
          behind_stands (e_at now) mid after next a is below (record { twelve = long; brings = it.brings })
              (subst (λ (p : Progress). GoesOnServing p (e_at now) after 0 a) (sym to.0) serving)
              (serves_as next.state.step (gone_to (slot_at mid 0) next) (to.2 (gone_to (slot_at mid 0) next) ∙ told_so.client ∙ to.1))
              whole.1.asked whole.1.fits (lent_so after left.rows),
        )

    work_hidden : (after : KernelState) (now : Files) (done : Progress) → HasWorked state disk f now before after 0 done → progress.Hidden ≡ done
    work_hidden after now _ (goes stepped alone) = refl
    work_hidden after now _ (answers word mid stepped alone is) = let to = answers_at word in to.0

    work_status : (after : KernelState) (now : Files) (done : Progress) → HasWorked state disk f now before after 0 done → (slot_at after 0).status ≡ k.status
    work_status after now _ (goes stepped alone) = let it = tree_left tree_stands.0 now after alone in it.status
    work_status after now _ (answers word mid stepped alone is) =
        let it = tree_left tree_stands.0 now mid alone in
        ap (λ (y : Slot). y.status) (behind_slot mid after (next_at state word) is) ∙ it.status

    -- What it comes to over the disk that the host tells then.
    steps_at : (after : KernelState) (now : Files) → files.after ≡ Some now → (done : Progress) →
        MakesServersCall (from_to before after) 0 disk files output → WorksWhereTold state (Ok done) disk 0 (from_to before after) files →
        WorksQuietly (Ok done) disk 0 before files.before output → Stepped before (beside after (Some (disk_in now disk))) a done output
    steps_at after now told_then done made works quiet =
        let came = works f told tree_stands.0 tree_stands.1 in
        let same : came.0 ≡ now = same_Some came.0 now (sym came.1 ∙ told_then) in
        let worked : HasWorked state disk f now before after 0 done =
        subst (λ (g : Files). HasWorked state disk f g before after 0 done) same came.2 in
        unseen before (beside after (Some (disk_in now disk))) a done output (work_hidden after now done worked)
        (quiet f told tree_stands.0 tree_stands.1)
        (λ in_order nothing. work_stands after now done worked in_order (work_served after now told_then done made worked in_order nothing))
        (work_status after now done worked)

    -- the host tells its files then
    pub job_steps : (after : KernelState) (done : Progress) → MakesServersCall (from_to before after) 0 disk files output →
        WorksWhereTold state (Ok done) disk 0 (from_to before after) files → WorksQuietly (Ok done) disk 0 before files.before output → ComesTo after done
    job_steps after done made works quiet =
        let came = works f told tree_stands.0 tree_stands.1 in (came.0, came.1, steps_at after came.0 came.1 done made works quiet)

    -- where the host fails in it nothing is printed
    pub job_fails : (failed : Failed) → WorksQuietly (Err failed) disk 0 before files.before output → PrintsPart output []
    job_fails failed quiet = quiet f told tree_stands.0 tree_stands.1
