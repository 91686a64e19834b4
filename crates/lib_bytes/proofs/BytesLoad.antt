-- The law of the stages in which read or stat of a file loads the next of its bytes from the page of its request: a word, a byte, or the first
-- and then the second of the two words in which four bytes stand. Nobody sees any of it.
use Rattle.std.proofs.Common.{◌≡◌, ◌∙◌, ◌+◌, ◌-◌, ◌%◌, ◌^◌, ◌==◌, ◌&&◌, ◌<◌, ℕ, Bool, true, false, not, refl, sym, ap, subst, arith}
use Rattle.std.proofs.Common.{if◌then◌else◌}
use Rattle.std.specs.Prelude.{slice_index}
use Rattle.std.proofs.lemmas.Bool.Decides.{nat_tests}
use Rattle.jos_base.specs.declared.called.Called.{Called}
use Rattle.jos_base.specs.declared.called.Called.TheVariants.{Answered}
use Rattle.jos_base.specs.declared.numbers.TheConstants.{PGSIZE, UTEMP}
use Rattle.jos_base.specs.Environments.{is_live}
use Rattle.jos_base.specs.KernelState.{KernelState, slot_at}
use Rattle.jos_base.specs.Words.{word_at}
use Rattle.lib_os.specs.declared.place.Place.TheVariants as place
use Rattle.lib_os.specs.declared.place.Step.TheVariants as step
use Rattle.lib_os.specs.declared.service.Service.{Service}
use Rattle.lib_os.specs.AbstractState.{AbstractState}
use Rattle.lib_os.specs.Answers.{moved_at_once}
use Rattle.lib_os.specs.InOrder.{IsInOrder}
use Rattle.lib_os.specs.Places.{place_of}
use Rattle.lib_os.specs.Rows.{Names}
use Rattle.lib_os.specs.StandsFor.{StandsFor, view_of}
use Rattle.lib_os.specs.StandsInHandler.{IsLoadingBytes, IsLoadingRest, buffer_of, hands_back, put_at_once}
use Rattle.lib_os.specs.UserCalls.{CallStep, Got, gone, got, load, load_byte, to_handler}
use Rattle.lib_os.proofs.BufferLooks.{buffer_va}
use Rattle.lib_os.proofs.FileLoaded.{loading_byte, loading_first, loading_page, loading_service, loading_word, loads_byte, loads_first, loads_second}
use Rattle.lib_os.proofs.FileLoaded.{loads_word, rest_page, second_word}
use Rattle.lib_os.proofs.Loading.{loaded}
use Rattle.lib_os.proofs.Serving.{served}
use Rattle.lib_os.proofs.WindowWords.{read_at}
use Rattle.lib_stage.specs.declared.ask.Ask.{Ask}
use Rattle.lib_stage.specs.declared.ask.Ask.TheVariants as ask
use Rattle.lib_stage.specs.declared.ask.Next.{Next}
use Rattle.lib_stage.specs.declared.ask.Next.TheVariants as next
use Rattle.lib_stage.specs.Asks.{performed}
use Rattle.lib_stage.specs.ServiceSteps.{Plan, ServiceHolds}
use Rattle.lib_stage.proofs.Laws.{FailsBy, FollowsBy, IsAt, KeepsBy, NeverFaults, law_of, law_of_load, plainly}
use Rattle.lib_file.proofs.Finds.{staged}
use Rattle.lib_file.proofs.Moves.{byte_goes, told_byte}
use Rattle.lib_bytes.specs.FileStages.{joined, loading_asked, next_of_loading, rest_asked}
use Rattle.lib_bytes.proofs.Handing.{handing_steady, moved_few, moved_one, moved_same}

module _ (s : KernelState) (n : ℕ) (call : Service) (hands : hands_back call ≡ true) (live : is_live (slot_at s n) ≡ true) (done count : ℕ) where
  -- how many bytes are put at once
  abbrev many : ℕ
  many = moved_at_once (buffer_va call done) (count - done)

  many_is : many ≡ put_at_once call done count
  many_is = moved_same (buffer_of call + done) (count - done)

  -- ---- the next bytes

  module _ (stands : place_of (slot_at s n) ≡ place.InService call (step.LoadingBytes done count)) where
    -- by whether they are four, and whether those stand in two words
    abbrev asks_by : Bool → Ask
    asks_by four = if four then ask.Load (UTEMP + (done - done % 4) % PGSIZE) else ask.LoadByte (UTEMP + done % PGSIZE)

    abbrev next_by : Bool → Bool → ℕ → Next
    next_by four apart word =
        if four && apart then next.GoOn (step.LoadingRest done count word) else next.GoOn (step.PuttingBytes done count word)

    abbrev loading : Bool → Bool → Plan
    loading four apart = staged call (asks_by four) (next_by four apart)

    here : (four apart : Bool) → IsAt s n (loading four apart) call (step.LoadingBytes done count)
    here true true = record {
      stands = stands;
      live = live;
      numbered = refl;
      plain = plainly refl;
      falls = λ called. omega arith;
      few = omega arith;
      goes_on = handing_steady call hands (step.LoadingBytes done count) refl;
    }
    here true false = record {
      stands = stands;
      live = live;
      numbered = refl;
      plain = plainly refl;
      falls = λ called. omega arith;
      few = omega arith;
      goes_on = handing_steady call hands (step.LoadingBytes done count) refl;
    }
    here false apart = record {
      stands = stands;
      live = live;
      numbered = refl;
      plain = plainly refl;
      falls = λ called. omega arith;
      few = omega arith;
      goes_on = handing_steady call hands (step.LoadingBytes done count) refl;
    }

    -- its page has the byte
    inside : {names : Names} {a : AbstractState} → StandsFor names s a → done < 4096
    inside h =
        let it : IsLoadingBytes (view_of s.spaces (slot_at s n).directory) (slot_at s n) (loading_service h n call done count stands).b call done count =
        (loading_service h n call done count stands).at in
        let fewer = it.has.fewer in
        let most = it.has.most in
        omega (arith, fewer, most)

    abbrev page : {names : Names} {a : AbstractState} → StandsFor names s a → ℕ → ℕ
    page h = slice_index (loading_page h n call done count stands)

    -- the first of two words
    first_holds : (many == 4) ≡ true → not (done % 4 == 0) ≡ true → ServiceHolds s n (loading true true)
    first_holds four apart =
        law_of_load s n (loading true true) call (step.LoadingBytes done count) (here true true) (UTEMP + (done - done % 4) % PGSIZE) refl
        (λ names a h.
        let low = inside h in
        let there : done - done % 4 ≡ (done - done % 4) % PGSIZE = omega (arith, low) in
        let word : ℕ = word_at (page h) (done - done % 4) in (
          record {
            word = word;
            is = subst (λ (o : ℕ). load s n (UTEMP + o) ≡ read_at s n (UTEMP + o) word) there (loading_first h n call done count stands);
          },
          λ order. (
            refl,
            (
              names,
              loads_first h n call done count stands (UTEMP + (done - done % 4) % PGSIZE) order
                  (sym many_is ∙ grind (arith, nat_tests, four)) (grind (arith, nat_tests, apart)),
            ),
          ),
        ))

    -- a word
    word_holds : (many == 4) ≡ true → not (done % 4 == 0) ≡ false → ServiceHolds s n (loading true false)
    word_holds four aligned =
        law_of_load s n (loading true false) call (step.LoadingBytes done count) (here true false) (UTEMP + (done - done % 4) % PGSIZE) refl
        (λ names a h.
        let low = inside h in
        let even : done % 4 ≡ 0 = grind (arith, nat_tests, aligned) in
        let there : done ≡ (done - done % 4) % PGSIZE = omega (arith, low, even) in
        let word : ℕ = word_at (page h) done in (
          record {
            word = word;
            is = subst (λ (o : ℕ). load s n (UTEMP + o) ≡ read_at s n (UTEMP + o) word) there (loading_word h n call done count stands even);
          },
          λ order. (
            refl,
            (
              names,
              loads_word h n call done count stands (UTEMP + (done - done % 4) % PGSIZE) order
                  (sym many_is ∙ grind (arith, nat_tests, four)),
            ),
          ),
        ))

    -- a byte
    module _ (test : (many == 4) ≡ false) (apart : Bool) where
      abbrev at_byte : ℕ
      at_byte = UTEMP + done % PGSIZE

      byte_is : {names : Names} {a : AbstractState} (h : StandsFor names s a) →
          told_byte (load_byte s n at_byte) ≡ told_byte (read_at s n at_byte (page h done))
      byte_is h =
          let low = inside h in
          let there : done ≡ done % PGSIZE = omega (arith, low) in
          ap told_byte (subst (λ (o : ℕ). load_byte s n (UTEMP + o) ≡ read_at s n (UTEMP + o) (page h done)) there
          (loading_byte h n call done count stands))

      byte_given : {names : Names} {a : AbstractState} (h : StandsFor names s a) →
          (told_byte (load_byte s n at_byte)).gives ≡ got (Answered (page h done))
      byte_given h = ap (λ (z : CallStep Called). z.gives) (byte_is h)

      byte_never : NeverFaults s n (told_byte (load_byte s n at_byte))
      byte_never a h turn handled =
          absurd (let contradiction : ◌≡◌ {A = Got Called} to_handler (got (Answered (page h.1 done))) = sym handled ∙ byte_given h.1 in cc)

      byte_keeps : IsInOrder (load_byte s n at_byte).state → KeepsBy s n (loading false apart) (told_byte (load_byte s n at_byte))
      byte_keeps order a h turn quiet =
          let ordered : IsInOrder (loaded s n at_byte) =
          subst (λ (t : KernelState). IsInOrder t) (ap (λ (z : CallStep Called). z.state) (byte_is h.1)) order in
          subst (λ (z : CallStep Called). FollowsBy s n (loading false apart) a z) (sym (byte_is h.1)) (
            refl,
            (
              h.0,
              loads_byte h.1 n call done count stands at_byte ordered
                  (sym many_is ∙ moved_one (buffer_va call done) (count - done) test),
            ),
          )

      byte_fails : FailsBy s n (loading false apart) (told_byte (load_byte s n at_byte))
      byte_fails may a h turn =
          absurd (let contradiction : ◌≡◌ {A = Got Called} gone (got (Answered (page h.1 done))) = sym may ∙ byte_given h.1 in cc)

      byte_holds : ServiceHolds s n (loading false apart)
      unfolding performed
      byte_holds =
          law_of s n (loading false apart) call (step.LoadingBytes done count) (here false apart) (byte_goes s n (loading false apart) at_byte live)
          byte_never byte_keeps byte_fails

    by_tests : (four : Bool) → (many == 4) ≡ four → (apart : Bool) → not (done % 4 == 0) ≡ apart → ServiceHolds s n (loading four apart)
    by_tests true four true apart = first_holds four apart
    by_tests true four false aligned = word_holds four aligned
    by_tests false one apart is = byte_holds one apart

    pub loading_holds : ServiceHolds s n (staged call (loading_asked (buffer_of call) done count) (next_of_loading (buffer_of call) done count))
    loading_holds = by_tests (many == 4) refl (not (done % 4 == 0)) refl

  -- ---- the second of two words

  module _ (first : ℕ) (stands : place_of (slot_at s n) ≡ place.InService call (step.LoadingRest done count first)) where
    abbrev resting : Plan
    resting = staged call (rest_asked done) (λ word. next.GoOn (step.PuttingBytes done count (joined (done % 4) first word)))

    rest_here : IsAt s n resting call (step.LoadingRest done count first)
    rest_here = record {
      stands = stands;
      live = live;
      numbered = refl;
      plain = plainly refl;
      falls = λ called. omega arith;
      few = omega arith;
      goes_on = handing_steady call hands (step.LoadingRest done count first) refl;
    }

    abbrev at_rest : ℕ
    at_rest = UTEMP + (done - done % 4 + 4) % 2 ^ 32 % PGSIZE

    -- it stands in its page
    rest_inside : {names : Names} {a : AbstractState} → StandsFor names s a → done - done % 4 + 4 < 4096
    rest_inside h =
        let v = served h n call (step.LoadingRest done count first) stands in
        let it : IsLoadingRest (view_of s.spaces (slot_at s n).directory) (slot_at s n) v.b call done count first = v.at in
        let whole = moved_few (buffer_of call + done) (count - done) it.whole in
        let apart = it.apart in
        let most = it.has.most in
        omega (arith, whole, apart, most)

    pub rest_holds :
        ServiceHolds s n (staged call (rest_asked done) (λ word. next.GoOn (step.PuttingBytes done count (joined (done % 4) first word))))
    rest_holds =
        law_of_load s n resting call (step.LoadingRest done count first) rest_here at_rest refl
        (λ names a h.
        let low = rest_inside h in
        let there : done - done % 4 + 4 ≡ (done - done % 4 + 4) % 2 ^ 32 % PGSIZE = omega (arith, low) in
        let word : ℕ = word_at (slice_index (rest_page h n call done count first stands)) (done - done % 4 + 4) in (
          record {
            word = word;
            is = subst (λ (o : ℕ). load s n (UTEMP + o) ≡ read_at s n (UTEMP + o) word) there (second_word h n call done count first stands);
          },
          λ order. (refl, (names, loads_second h n call done count first stands at_rest order)),
        ))
