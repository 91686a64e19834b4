-- One to which the file server hands bytes back counts them, when the reply has come: by its word it puts them into its buffer, or there are
-- none, and its page is given back.
use Rattle.std.proofs.Common.{◌≡◌, ◌∙◌, ◌<◌, ◌≤◌, ◌==◌, ◌||◌, ℕ, Bool, true, false, List, [], ◌∷◌, length, refl, sym, ap, subst, arith, if◌then◌else◌}
use Rattle.std.proofs.lemmas.Bool.{false≢true}
use Rattle.std.proofs.lemmas.Bool.Decides.{nat_tests}
use Rattle.std.specs.Prelude.{min, nat_le}
use Rattle.jos_base.specs.declared.environment.Status.{Status}
use Rattle.jos_base.specs.declared.environment.Status.TheVariants.{NotRunnable, Runnable, Running}
use Rattle.jos_base.specs.Environments.{Slot, is_runnable, is_running}
use Rattle.jos_base.specs.KernelState.{KernelState, slot_at, with_extra}
use Rattle.lib_os.specs.declared.numbers.TheConstants.{STAT_SIZE, TRANSFER_MAX}
use Rattle.lib_os.specs.declared.place.Place.TheVariants as place
use Rattle.lib_os.specs.declared.place.Step.{Step}
use Rattle.lib_os.specs.declared.place.Step.TheVariants as step
use Rattle.lib_os.specs.declared.service.Service.{Service}
use Rattle.lib_os.specs.declared.service.Service.TheVariants as service
use Rattle.lib_os.specs.AbstractState.{AbstractState, Born, Phase, in_service, replied}
use Rattle.lib_os.specs.Fence.{in_fence, is_buffer}
use Rattle.lib_os.specs.InOrder.{IsInOrder}
use Rattle.lib_os.specs.LibraryPages.{HasTaken, View, keeps_request}
use Rattle.lib_os.specs.Places.{place_of, words_at}
use Rattle.lib_os.specs.Rows.{Names}
use Rattle.lib_os.specs.StandsFor.{AwaitsOrHasBytes, HasBytesReply, HasReply, IsCounting, IsStatusFor, StandsAtStep, StandsFor, awaits_bytes, has_bytes, view_of}
use Rattle.lib_os.specs.StandsInHandler.{HandsAt, answer_behind, buffer_of, by_reply, handed_with, hands_back, most_of, wanted_of}
use Rattle.lib_os.specs.UserCalls.{load}
use Rattle.lib_os.proofs.Beneath.{handing_unborne}
use Rattle.lib_os.proofs.DescriptorLooks.{read_goes_on}
use Rattle.lib_os.proofs.FileLooks.{handing_held}
use Rattle.lib_os.proofs.Loading.{loaded}
use Rattle.lib_os.proofs.Numbered.{number_of}
use Rattle.lib_os.proofs.ReplyRead.{reply_at, reply_load}
use Rattle.lib_os.proofs.PipesStand.{is_calm_step}
use Rattle.lib_os.proofs.Serving.{IsServed, served}
use Rattle.lib_os.proofs.SlotsStand.{born_live}
use Rattle.lib_os.proofs.WindowWords.{read_at}

-- One that may run does not wait: the reply has come.
awake_bytes : (v : View) (k : Slot) (b : Born) (s : Service) → IsStatusFor k.status b.blocked → (is_runnable k.status || is_running k.status) ≡ true →
    AwaitsOrHasBytes v k b s → HasBytesReply v k b s
awake_bytes v k b s runs awake (has_bytes h) = h
awake_bytes v k b s runs awake (awaits_bytes h) = absurd (never k.status b.blocked runs awake h.blocked)
  where
    never : (status : Status) (blocked : Bool) → IsStatusFor status blocked → (is_runnable status || is_running status) ≡ true → blocked ≡ true → ⊥
    never Runnable false r w e = let contradiction : false ≡ true = e in absurd cc
    never Running false r w e = let contradiction : false ≡ true = e in absurd cc
    never NotRunnable true r w e = let contradiction : false ≡ true = w in absurd cc
    never _ _ r w e = r

-- ---- how many they are

-- no more than are wanted
handed_most : (s : Service) → hands_back s ≡ true → (word : ℕ) → (handed_with s word ≤ most_of s) × (most_of s ≤ TRANSFER_MAX)
handed_most (service.Read fd va len) hands word = (by_test (nat_le word (wanted_of len)) refl, wanted)
  where
    wanted : min len TRANSFER_MAX ≤ TRANSFER_MAX
    wanted = grind (arith, nat_tests)

    by_test : (t : Bool) → nat_le word (wanted_of len) ≡ t → (if t then word else 0) ≤ wanted_of len
    by_test true is = grind (arith, nat_tests, is)
    by_test false is = omega arith
handed_most (service.Stat fd va) hands word = (by_test (word == 0), omega arith)
  where
    by_test : (t : Bool) → (if t then STAT_SIZE else 0) ≤ STAT_SIZE
    by_test true = omega arith
    by_test false = omega arith
handed_most _ hands word = absurd (false≢true hands)

-- and the word of the reply is what is answered behind them
handed_answer : (s : Service) → hands_back s ≡ true → (word : ℕ) → 0 < handed_with s word → word ≡ answer_behind s (handed_with s word)
handed_answer (service.Read fd va len) hands word some = by_test (nat_le word (wanted_of len)) some
  where
    by_test : (t : Bool) → 0 < (if t then word else 0) → word ≡ (if t then word else 0)
    by_test true some = refl
    by_test false some = absurd (omega (arith, some))
handed_answer (service.Stat fd va) hands word some = by_test (word == 0) refl some
  where
    by_test : (t : Bool) → (word == 0) ≡ t → 0 < (if t then STAT_SIZE else 0) → word ≡ 0
    by_test true is some = grind (arith, nat_tests, is)
    by_test false is some = absurd (omega (arith, some))
handed_answer _ hands word some = absurd (false≢true hands)

-- a buffer of fewer bytes
pub buffer_less : (va n m : ℕ) → is_buffer va n ≡ true → m ≤ n → is_buffer va m ≡ true
unfolding in_fence
buffer_less va n m buffer few = grind (arith, nat_tests)

none_long : (bytes : List ℕ) → length bytes ≡ 0 → bytes ≡ []
none_long [] none = refl
none_long (byte ∷ rest) none = absurd (omega (arith, none))

-- where its page is given back it has the reply
clearing_there : (v : View) (k : Slot) (b : Born) (id : ℕ) (s : Service) → hands_back s ≡ true → (id ≡ k.id) × HasReply k b s →
    StandsAtStep v k b s (step.Clearing id)
clearing_there v k b id (service.Read fd va len) hands h = h
clearing_there v k b id (service.Stat fd va) hands h = h
clearing_there v k b id _ hands h = absurd (false≢true hands)

-- ---- the step

module _ (s : KernelState) (n id : ℕ) (call : Service) (stands : place_of (slot_at s n) ≡ place.InService call (step.CountingReply id))
    (runs : (is_runnable (slot_at s n).status || is_running (slot_at s n).status) ≡ true) {names : Names} {a : AbstractState}
    (h : StandsFor names s a) where
  abbrev space : View
  space = view_of s.spaces (slot_at s n).directory

  -- the word of the reply, and how many bytes come with it
  abbrev pub counted_word : ℕ
  counted_word = (slot_at s n).rendezvous.value

  abbrev pub counted_bytes : ℕ
  counted_bytes = handed_with call (slot_at s n).rendezvous.value

  abbrev v : IsServed names s a n call (step.CountingReply id)
  v = served h n call (step.CountingReply id) stands

  abbrev it : IsCounting space (slot_at s n) v.b call id
  it = v.at

  has : HasBytesReply space (slot_at s n) v.b call
  has = awake_bytes space (slot_at s n) v.b call v.own.runs runs it.so

  pub counting_gives : load s n (reply_at id) ≡ read_at s n (reply_at id) (slot_at s n).rendezvous.value
  counting_gives = reply_load s n id (h.tabled.ids n (born_live v.own)) it.self has.small

  module _ (order : IsInOrder (loaded s n (reply_at id))) where
    counting_goes : (to : Step) → keeps_request to ≡ true → is_calm_step to ≡ true →
        StandsAtStep space (record (slot_at s n) { extra = words_at (number_of call) to }) v.b call to →
        StandsFor names (with_extra (loaded s n (reply_at id)) n (words_at (number_of call) to)) a
    counting_goes to keeps calm so =
        read_goes_on h n call (step.CountingReply id) v (handing_unborne call it.hands (step.CountingReply id)) refl (reply_at id) order to
        (handing_unborne call it.hands to) calm
        (handing_held call it.hands (step.CountingReply id) refl ∙ sym (handing_held call it.hands to keeps)) so

    -- no bytes come with it: its page is given back
    pub counts_none : handed_with call (slot_at s n).rendezvous.value ≡ 0 →
        StandsFor names (with_extra (loaded s n (reply_at id)) n (words_at (number_of call) (step.Clearing id))) a
    counts_none none =
        counting_goes (step.Clearing id) refl refl (clearing_there space (record (slot_at s n) {
          extra = words_at (number_of call) (step.Clearing
              id);
        }) v.b id
        call it.hands (
          it.self,
          record {
            regs = has.regs;
            program = has.program;
            registers = has.registers;
            phase = has.phase ∙ ap (λ (l : List ℕ). in_service call (replied l counted_word)) (none_long has.bytes (has.many ∙ none));
            awake = has.awake;
            silent = has.silent;
            small = has.small;
          },
        ))

    -- some do: it is about to put the first of them
    pub counts_some : 0 < handed_with call (slot_at s n).rendezvous.value →
        StandsFor names (with_extra (loaded s n (reply_at id)) n (words_at (number_of call) (step.FileRegion 0 counted_bytes))) a
    counts_some some =
        let most = handed_most call it.hands counted_word in
        counting_goes (step.FileRegion 0 counted_bytes) refl refl (record {
          hands = it.hands;
          regs = has.regs;
          program = has.program;
          eax = 0;
          registers = has.registers;
          bytes = has.bytes;
          hands_at = subst (λ (q : Phase). HandsAt call has.bytes (answer_behind call counted_bytes) 0 q)
              (sym (has.phase ∙ ap (λ (word : ℕ). in_service call (replied has.bytes word)) (handed_answer call it.hands counted_word some))) by_reply;
          many = has.many;
          fewer = some;
          most = (let first = most.0 in let last = most.1 in omega (arith, first, last));
          inside = buffer_less (buffer_of call) (most_of call) counted_bytes it.inside most.0;
          small = has.small_bytes;
          kept = subst (λ (m : ℕ). HasTaken space has.bytes m) has.many has.kept;
          silent = has.silent;
          awake = has.awake;
        })
