-- Spawn asks the file server with the page at UTEMP: where the server waits, the word of the request and the page that tells it come to it, which is
-- seen; and where it does not, nothing is changed, and spawn gives up its turn and asks again.
use Rattle.std.proofs.Common.{◌≡◌, ◌≢◌, ◌∙◌, ◌||◌, ℕ, Bool, true, false, [], ◌∷◌, refl, sym, ap, subst, arith}
use Rattle.std.specs.Prelude.{None, Some}
use Rattle.jos_base.specs.declared.called.Called.{Called}
use Rattle.jos_base.specs.declared.called.Called.TheVariants.{Answered}
use Rattle.jos_base.specs.declared.environment.Status.TheVariants.{Runnable}
use Rattle.jos_base.specs.declared.numbers.TheConstants.{E_IPC_NOT_RECV, E_NO_MEM, FIRST_ENV_ID, UTEMP}
use Rattle.jos_base.specs.Environments.{Slot}
use Rattle.jos_base.specs.KernelState.{KernelState, slot_at, with_extra, with_refusal, with_status}
use Rattle.jos_base.specs.SpacesState.{SpacesState}
use Rattle.jos_base.specs.Words.{negated, page_number}
use Rattle.lib_os.specs.declared.numbers.TheConstants.{SERVICE_SPAWN, SHORT_QUANTUM}
use Rattle.lib_os.specs.declared.place.Step.TheVariants as step
use Rattle.lib_os.specs.declared.progress.Progress.TheVariants as progress
use Rattle.lib_os.specs.declared.service.Service.TheVariants as service
use Rattle.lib_os.specs.declared.spawn_steps.SpawnStep.{SpawnStep}
use Rattle.lib_os.specs.AbstractRun.{may_wait, phase_may_wait, pipe_at, pipe_may_wait, slot_may_wait}
use Rattle.lib_os.specs.AbstractSpawn.{with_spawning}
use Rattle.lib_os.specs.AbstractState.{AbstractSlot, AbstractState, Born, Phase, Spawning, Stage, asked, born, in_service, is_idle, with_born}
use Rattle.lib_os.specs.Answers.{at_stage}
use Rattle.lib_os.specs.DescriptorPages.{lasting_words}
use Rattle.lib_os.specs.InOrder.{IsInOrder}
use Rattle.lib_os.specs.LibraryPages.{View}
use Rattle.lib_os.specs.LibrarySteps.{AbstractFollows, KeepsServer, KeepsStanding, LeavesOrAsks, NothingRefused, left_alone, request_perm, spawn_asked, spawn_asks_by}
use Rattle.lib_os.specs.Places.{place_of}
use Rattle.lib_os.specs.Rows.{Names, descriptor_page}
use Rattle.lib_os.specs.SpawnedChild.{spawning_child}
use Rattle.lib_os.specs.StandsAtSpawn.{StandsAtSpawn}
use Rattle.lib_os.specs.StandsFor.{StandsFor, borne_in, view_of}
use Rattle.lib_os.specs.UserCalls.{CallStep, Got, got, giving}
use Rattle.lib_os.proofs.Calls.{refusal_is_seen}
use Rattle.lib_os.proofs.GoingOn.{words_stand}
use Rattle.lib_os.proofs.Numbered.{named_at}
use Rattle.lib_os.proofs.NumbersKept.{KeepsCopies, sent_copies}
use Rattle.lib_os.proofs.PageAsked.{PageAsksOrWaits, PageComes, asks, lacks, others_asked, page_ask_call, page_asked, page_asks_or_waits, request_comes}
use Rattle.lib_os.proofs.PageAsked.{server_told, waits}
use Rattle.lib_os.proofs.PipesStand.{is_calm}
use Rattle.lib_os.proofs.RequestsTold.{IsAsking, request_step, waits_for_server, with_request_of}
use Rattle.lib_os.proofs.ServerAsked.{word_got}
use Rattle.lib_os.proofs.ServerStands.{OthersKept, first_slot}
use Rattle.lib_os.proofs.Serving.{holds_page, printed_nothing}
use Rattle.lib_os.proofs.Slots.{slot_kept}
use Rattle.lib_os.proofs.SlotsStand.{born_live, is_piped}
use Rattle.lib_os.proofs.SpawnGathers.{spawn_found}
use Rattle.lib_os.proofs.SpawnedGoes.{borne_went, goes_still, same_born}
use Rattle.lib_os.proofs.SpawnedTurns.{KeepsBearing, LoadsOn, bears_none, bears_same, shown_on}
use Rattle.lib_os.proofs.SpawnOwnPages.{IsSpawnsOwn, keeps_own, spawn_there, spawn_words, spawns_at, spawns_own}
use Rattle.lib_os.proofs.SpawnStays.{spawn_kept}
use Rattle.lib_os.proofs.StatesStand.{born_not_first, status_stands}
use Rattle.jos_base.proofs.Maps.{upd-at}

-- ---- in another space nothing that it has in mind changes

pub others_spawn : {s t : SpacesState} {d : ℕ} → OthersKept s t d → (q : ℕ) → q ≢ d → (k : Slot) (b : Born) (path argv : ℕ) (at : SpawnStep) →
    StandsAtSpawn (view_of s q) k b path argv at → StandsAtSpawn (view_of t q) k b path argv at
others_spawn {s = s} {t = t} kept q other k b path argv at h =
    spawn_kept (view_of s q) (view_of t q) (kept.rows q other)
    (λ fd below x is. ap lasting_words (kept.bytes q (descriptor_page fd) x other is)) (λ x is own_page. kept.bytes q _ x other is)
    (λ x is own_page. kept.bytes q _ x other is) k b k.status k.runs b.memory b.regions b.descriptors path argv
    (λ x is own_page. kept.bytes q _ x other is) (λ r is. kept.regions q r other ∙ is) at h

-- ---- what it asks

-- Where it stands before it asks: what it has found out when it has asked, what it asks of the server, and that it stands so behind that, and where it
-- gives up its turn.
pub record SpawnAsking (a : AbstractState) (n : ℕ) (v : View) (k : Slot) (b : Born) (path argv : ℕ) (from pausing awaiting : SpawnStep) : Type 0 where
  pub stage : Stage
  pub phase : b.phase ≡ in_service (service.Spawn path argv) stage
  pub silent : k.rendezvous.receiving ≡ false
  pub found : Spawning
  pub does : IsAsking a n (with_spawning b found) (service.Spawn path argv)
  pub pauses : StandsAtSpawn v (record k { extra = spawn_words pausing }) b path argv pausing
  pub has_asked : StandsAtSpawn v (record k { extra = spawn_words awaiting }) (spawn_found b path argv found asked) path argv awaiting
  -- where it bears a child, it goes on loading the same image
  pub loads_on : (id : ℕ) → spawning_child from ≡ Some id → LoadsOn b (Some found) (in_service (service.Spawn path argv) asked)

spawn_may_wait : (a : AbstractState) (n : ℕ) (b c : Born) (path argv : ℕ) (stage : Stage) → a.slots n ≡ born b →
    b.phase ≡ in_service (service.Spawn path argv) stage → IsAsking a n c (service.Spawn path argv) → is_idle a.server ≡ false → (quantum : ℕ) →
    may_wait a n quantum ≡ true
unfolding may_wait
spawn_may_wait a n b c path argv stage at phase it not_idle quantum =
    ap (λ (x : AbstractSlot). slot_may_wait a n x quantum) at
    ∙ ap (λ (x : Phase). phase_may_wait a n b x quantum) phase
    ∙ ap (λ (t : Bool). t || pipe_may_wait a n (service.Spawn path argv) (pipe_at a b None) quantum)
    (waits_for_server a n c (service.Spawn path argv) it not_idle)

-- ---- it goes on

-- It goes on at another step, with the same pages, whatever else it has found out; and where nothing is seen of that.
pub record GoesFrom (n path argv : ℕ) (from to : SpawnStep) : Type 0 where
  pub shown : (names : Names) (t : KernelState) (c : AbstractState) → StandsFor names t c → place_of (slot_at t n) ≡ spawns_at path argv from →
      (b : Born) → c.slots n ≡ born b → (found : Spawning) (stage : Stage) →
      ((id : ℕ) → spawning_child from ≡ Some id → LoadsOn b (Some found) (in_service (service.Spawn path argv) stage)) →
      StandsAtSpawn (view_of t.spaces (slot_at t n).directory) (record (slot_at t n) { extra = spawn_words to }) (spawn_found b path argv found stage) path argv
      to →
      StandsFor names (with_extra t n (spawn_words to)) (with_born c n (spawn_found b path argv found stage))

pub record HidesFrom (n path argv : ℕ) (from to : SpawnStep) : Type 0 where
  pub hidden : (names : Names) (t : KernelState) (c : AbstractState) → StandsFor names t c → place_of (slot_at t n) ≡ spawns_at path argv from →
      (b : Born) → c.slots n ≡ born b →
      StandsAtSpawn (view_of t.spaces (slot_at t n).directory) (record (slot_at t n) { extra = spawn_words to }) b path argv to →
      StandsFor names (with_extra t n (spawn_words to)) c

module _ (n path argv : ℕ) (from to : SpawnStep) (held : holds_page (spawns_at path argv from) ≡ holds_page (spawns_at path argv to)) where
  pub goes_bearing : KeepsBearing from to → GoesFrom n path argv from to
  goes_bearing keeps = record {
    shown = λ names t c h stands b is found stage loads so. shown_on h n path argv from to stands keeps held b is found stage loads so;
  }

  hidden_on : (names : Names) (t : KernelState) (c : AbstractState) → StandsFor names t c → place_of (slot_at t n) ≡ spawns_at path argv from →
      (b : Born) → c.slots n ≡ born b →
      StandsAtSpawn (view_of t.spaces (slot_at t n).directory) (record (slot_at t n) { extra = spawn_words to }) b path argv to →
      KeepsBearing from to → StandsFor names (with_extra t n (spawn_words to)) c
  hidden_on names t c h stands b is so (bears_none unborne unborne_after) =
      let v = spawn_there h n path argv from stands in
      let same : v.b ≡ b = same_born v.b b (sym v.is ∙ is) in
      words_stand h n SERVICE_SPAWN v.b v.is v.own v.outside (ap borne_in v.place ∙ unborne) (ap is_calm v.place) (service.Spawn path argv)
      (step.Spawning to) (ap holds_page v.place ∙ held) unborne_after refl (named_at (slot_at t n) (service.Spawn path argv) (step.Spawning from) stands)
      (subst (λ (x : Born). StandsAtSpawn (view_of t.spaces (slot_at t n).directory) (record (slot_at t n) { extra = spawn_words to }) x path argv to)
      (sym same) so)
  hidden_on names t c h stands b is so (bears_same id bears bears_after childs told still) =
      borne_went h n path argv id from to stands bears bears_after held childs told b is (goes_still id from to still) so

  pub hides_bearing : KeepsBearing from to → HidesFrom n path argv from to
  hides_bearing keeps = record { hidden = λ names t c h stands b is so. hidden_on names t c h stands b is so keeps }

-- where it bears no child
pub goes_unborne : (n path argv : ℕ) (from to : SpawnStep) → spawning_child from ≡ None → spawning_child to ≡ None →
    holds_page (spawns_at path argv from) ≡ holds_page (spawns_at path argv to) → GoesFrom n path argv from to
goes_unborne n path argv from to unborne unborne_after held = goes_bearing n path argv from to held (bears_none unborne unborne_after)

pub hides_unborne : (n path argv : ℕ) (from to : SpawnStep) → spawning_child from ≡ None → spawning_child to ≡ None →
    holds_page (spawns_at path argv from) ≡ holds_page (spawns_at path argv to) → HidesFrom n path argv from to
hides_unborne n path argv from to unborne unborne_after held = hides_bearing n path argv from to held (bears_none unborne unborne_after)

-- ---- the call

module _ (s : KernelState) (n path argv : ℕ) (from pausing awaiting : SpawnStep) (word : ℕ)
    (stands : place_of (slot_at s n) ≡ spawns_at path argv from) (keeps : keeps_own from (page_number UTEMP) ≡ true)
    (by : spawn_asks_by from ≡ Some word) (waits_on : HidesFrom n path argv from pausing) (goes : GoesFrom n path argv from awaiting)
    (asking : (names : Names) (a : AbstractState) (h : StandsFor names s a) →
    SpawnAsking a n (view_of s.spaces (slot_at s n).directory) (slot_at s n) (spawn_there h n path argv from stands).b path argv from pausing awaiting) where
  abbrev mid : KernelState
  mid = (page_ask_call s n word).state

  own_page : {names : Names} {a : AbstractState} → StandsFor names s a → IsSpawnsOwn s n (page_number UTEMP)
  own_page h = spawns_own h n path argv from stands (page_number UTEMP) keeps

  outcome : {names : Names} {a : AbstractState} → StandsFor names s a → PageAsksOrWaits s a n word
  outcome {names = names} {a = a} h =
      let v = spawn_there h n path argv from stands in page_asks_or_waits h n v.b v.is (asking names a h).silent (own_page h).page word

  gave : (after : KernelState) (w answer : ℕ) → page_ask_call s n word ≡ giving after (Answered w) →
      (page_ask_call s n word).gives ≡ got (Answered answer) → answer ≡ w
  gave after w answer is gives = ap (λ (x : Got Called). word_got x) (sym gives ∙ ap (λ (x : CallStep Called). x.gives) is)

  came_to : (after : KernelState) (w : ℕ) → page_ask_call s n word ≡ giving after (Answered w) → mid ≡ after
  came_to after w is = ap (λ (x : CallStep Called). x.state) is

  -- the word and the page have come
  module _ {names : Names} {a : AbstractState} (h : StandsFor names s a) (sp : SpacesState) (comes : PageComes s sp n)
      (order : IsInOrder (page_asked s sp n word)) (last : s.last ≡ Some n) where
    abbrev b : Born
    b = (spawn_there h n path argv from stands).b

    abbrev asks_now : SpawnAsking a n (view_of s.spaces (slot_at s n).directory) (slot_at s n) b path argv from pausing awaiting
    asks_now = asking names a h

    other : n ≢ 0
    other same = born_not_first h n b (spawn_there h n path argv from stands).is (sym same)

    kept : slot_at (page_asked s sp n word) n ≡ slot_at s n
    kept = slot_kept (record s { spaces = sp }) 0 (server_told s n word) n other

    apart : (slot_at s n).directory ≢ (slot_at s 0).directory
    apart same =
        other (h.in_order.spaces.apart n 0 (born_live (spawn_there h n path argv from stands).own) (first_slot h).lives same)

    comes_there : StandsFor names (page_asked s sp n word) (with_request_of a n asks_now.does.request)
    comes_there =
        let mine = own_page h in
        request_comes h n b (spawn_there h n path argv from stands).is mine.page (mine.counts ∙ mine.page.stands) (ap is_piped stands) word sp comes
        order last asks_now.does.request

    others : OthersKept s.spaces sp (slot_at s 0).directory
    others =
        let mine = own_page h in
        others_asked h n b (spawn_there h n path argv from stands).is mine.page (mine.counts ∙ mine.page.stands) (ap is_piped stands) word sp comes
        order last

    has_asked_there : StandsAtSpawn (view_of sp (slot_at (page_asked s sp n word) n).directory)
        (record (slot_at (page_asked s sp n word) n) { extra = spawn_words awaiting }) (spawn_found b path argv asks_now.found asked) path argv awaiting
    has_asked_there =
        subst (λ (k : Slot). StandsAtSpawn (view_of sp k.directory) (record k { extra = spawn_words awaiting })
        (spawn_found b path argv asks_now.found asked) path argv awaiting) (sym kept)
        (others_spawn others (slot_at s n).directory apart (record (slot_at s n) { extra = spawn_words awaiting })
        (spawn_found b path argv asks_now.found asked) path argv awaiting asks_now.has_asked)

    pub spawn_asked_stands : StandsFor names (with_extra (page_asked s sp n word) n (spawn_words awaiting))
        (at_stage (with_request_of a n asks_now.does.request) n (with_spawning b asks_now.found) (service.Spawn path argv) asked)
    spawn_asked_stands =
        goes.shown names (page_asked s sp n word) (with_request_of a n asks_now.does.request) comes_there
        (ap (λ (k : Slot). place_of k) kept ∙ stands) b (spawn_there h n path argv from stands).is asks_now.found asked asks_now.loads_on has_asked_there

  pub spawn_asked_keeps : IsInOrder mid → (page_ask_call s n word).gives ≡ got (Answered 0) →
      KeepsStanding progress.Visible n s (with_extra mid n (spawn_words awaiting)) []
  spawn_asked_keeps order gives a h turn quiet = by_outcome (outcome h.1)
    where
      by_outcome : PageAsksOrWaits s a n word → AbstractFollows progress.Visible n (with_extra mid n (spawn_words awaiting)) a []
      by_outcome (waits not_idle call_is) =
          let same = gave s (negated E_IPC_NOT_RECV) 0 call_is gives in absurd (omega (arith, same))
      by_outcome (lacks call_is) =
          let same = gave (with_refusal s) (negated E_NO_MEM) 0 call_is gives in absurd (omega (arith, same))
      by_outcome (asks is so sp comes call_is) =
          let v = spawn_there h.1 n path argv from stands in
          let it = came_to (page_asked s sp n word) 0 call_is in
          let asks_so = asking h.0 a h.1 in
          let end : AbstractState =
          at_stage (with_request_of a n asks_so.does.request) n (with_spawning v.b asks_so.found) (service.Spawn path argv) asked in (
            end,
            request_step a n (with_spawning v.b asks_so.found) (service.Spawn path argv) asks_so.does is,
            printed_nothing a,
            (
              h.0,
              subst (λ (t : KernelState). StandsFor h.0 (with_extra t n (spawn_words awaiting)) end) (sym it)
                  (spawn_asked_stands h.1 sp comes (subst (λ (t : KernelState). IsInOrder t) it order) turn.last),
            ),
          )

  -- the server does not wait
  pub spawn_waiting_keeps : (page_ask_call s n word).gives ≡ got (Answered (negated E_IPC_NOT_RECV)) →
      KeepsStanding progress.Waited n s (with_extra mid n (spawn_words pausing)) []
  spawn_waiting_keeps gives a h turn quiet = by_outcome (outcome h.1)
    where
      by_outcome : PageAsksOrWaits s a n word → AbstractFollows progress.Waited n (with_extra mid n (spawn_words pausing)) a []
      by_outcome (asks is so sp comes call_is) =
          let same = gave (page_asked s sp n word) 0 (negated E_IPC_NOT_RECV) call_is gives in absurd (omega (arith, same))
      by_outcome (lacks call_is) =
          let same = gave (with_refusal s) (negated E_NO_MEM) (negated E_IPC_NOT_RECV) call_is gives in absurd (omega (arith, same))
      by_outcome (waits not_idle call_is) =
          let v = spawn_there h.1 n path argv from stands in
          let asks_so = asking h.0 a h.1 in (
            (
              refl,
              (
                h.0,
                subst (λ (t : KernelState). StandsFor h.0 (with_extra t n (spawn_words pausing)) a) (sym (came_to s (negated E_IPC_NOT_RECV) call_is))
                    (waits_on.hidden h.0 s a h.1 stands v.b v.is asks_so.pauses),
              ),
            ),
            spawn_may_wait a n v.b (with_spawning v.b asks_so.found) path argv asks_so.stage v.is asks_so.phase asks_so.does not_idle SHORT_QUANTUM,
          )

  -- there was no frame for a table, of which nothing is said
  pub spawn_lacking_keeps : (to : SpawnStep) (answer : ℕ) → (page_ask_call s n word).gives ≡ got (Answered answer) → answer ≢ 0 →
      answer ≢ negated E_IPC_NOT_RECV → KeepsStanding progress.Hidden n s (with_extra mid n (spawn_words to)) []
  spawn_lacking_keeps to answer gives some off a h turn quiet = by_outcome (outcome h.1)
    where
      by_outcome : PageAsksOrWaits s a n word → AbstractFollows progress.Hidden n (with_extra mid n (spawn_words to)) a []
      by_outcome (asks is so sp comes call_is) = absurd (some (gave (page_asked s sp n word) 0 answer call_is gives))
      by_outcome (waits not_idle call_is) = absurd (off (gave s (negated E_IPC_NOT_RECV) answer call_is gives))
      by_outcome (lacks call_is) =
          absurd (refusal_is_seen s
          (subst (λ (t : KernelState). NothingRefused s t) (came_to (with_refusal s) (negated E_NO_MEM) call_is)
          (record { stays = quiet.stays; could = quiet.could })))

  -- the file server is asked, or left alone
  pub spawn_asking_server : KeepsServer n s mid
  spawn_asking_server then_so differs lives a h = by_outcome (outcome h.1)
    where
      by_outcome : PageAsksOrWaits s a n word → LeavesOrAsks n s mid
      by_outcome (asks is so sp comes call_is) =
          subst (λ (t : KernelState). LeavesOrAsks n s t) (sym (came_to (page_asked s sp n word) 0 call_is))
          (spawn_asked (record {
            path = path;
            argv = argv;
            from = from;
            word = word;
            at = stands;
            asks = by;
            waited = so;
            brings = (
              upd-at s.environments.slots 0 (server_told s n word),
              record { entry = comes.entry; stands = comes.stands; spaces = comes.is },
            );
          }))
      by_outcome (lacks call_is) =
          subst (λ (t : KernelState). LeavesOrAsks n s t) (sym (came_to (with_refusal s) (negated E_NO_MEM) call_is))
          (left_alone (record { slot = refl; entries = λ p. refl; regions = λ r. refl; pages = λ p e is lacks_it. refl }))
      by_outcome (waits not_idle call_is) =
          subst (λ (t : KernelState). LeavesOrAsks n s t) (sym (came_to s (negated E_IPC_NOT_RECV) call_is))
          (left_alone (record { slot = refl; entries = λ p. refl; regions = λ r. refl; pages = λ p e is lacks_it. refl }))

  -- what it leaves to the others
  pub spawn_asking_copies : KeepsCopies n s mid
  spawn_asking_copies = sent_copies s n (FIRST_ENV_ID ∷ word ∷ UTEMP ∷ request_perm ∷ 0 ∷ []) (λ a stands_so low. refl)

-- ---- it gives up its turn

pub spawn_pausing_keeps : (s : KernelState) (n path argv : ℕ) (from to : SpawnStep) → place_of (slot_at s n) ≡ spawns_at path argv from →
    HidesFrom n path argv from to →
    ((v : View) (k : Slot) (b : Born) → StandsAtSpawn v k b path argv from →
    (b.blocked ≡ false) × StandsAtSpawn v (record k { status = Runnable; extra = spawn_words to }) b path argv to) →
    KeepsStanding progress.Hidden n s (with_extra (with_status s n Runnable) n (spawn_words to)) []
spawn_pausing_keeps s n path argv from to stands hides goes a h turn quiet =
    let v = spawn_there h.1 n path argv from stands in
    let it = goes (view_of s.spaces (slot_at s n).directory) (slot_at s n) v.b v.at in
    let ran = status_stands h.1 n v.b v.is it.0 in
    let slot_is : slot_at (with_status s n Runnable) n ≡ record (slot_at s n) { status = Runnable } =
    upd-at s.environments.slots n (record (slot_at s n) { status = Runnable }) in (
      refl,
      (
        h.0,
        hides.hidden h.0 (with_status s n Runnable) a ran (ap (λ (x : Slot). place_of x) slot_is ∙ stands) v.b v.is
            (subst (λ (x : Slot). StandsAtSpawn (view_of s.spaces x.directory) (record x { extra = spawn_words to }) v.b path argv to) (sym slot_is) it.1),
      ),
    )
