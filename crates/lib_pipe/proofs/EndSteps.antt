-- The law of a step on an end of a pipe, by what its call comes to: a word or a byte is loaded, something is put, or the lock is asked for.
use Rattle.std.proofs.Common.{◌≡◌, ◌≢◌, ◌∙◌, ◌+◌, ◌==◌, ℕ, Bool, true, false, not, [], Some, refl, sym, ap, subst, arith, if◌then◌else◌}
use Rattle.std.proofs.lemmas.Bool.Decides.{nat_tests}
use Rattle.jos_base.specs.declared.called.Called.{Called}
use Rattle.jos_base.specs.declared.called.Called.TheVariants.{Answered}
use Rattle.jos_base.specs.Environments.{Slot, is_live}
use Rattle.jos_base.specs.KernelState.{KernelState, slot_at, with_spaces}
use Rattle.jos_base.specs.SpacesState.{SpacesState}
use Rattle.lib_os.specs.declared.numbers.TheConstants.{PIPE_LOCK, SHORT_QUANTUM}
use Rattle.lib_os.specs.declared.place.PipeStep.{PipeStep}
use Rattle.lib_os.specs.declared.place.Place.TheVariants as place
use Rattle.lib_os.specs.declared.place.Step.{Step}
use Rattle.lib_os.specs.declared.place.Step.TheVariants as step
use Rattle.lib_os.specs.declared.service.Service.{Service}
use Rattle.lib_os.specs.AbstractState.{AbstractState}
use Rattle.lib_os.specs.InOrder.{IsInOrder}
use Rattle.lib_os.specs.LibrarySteps.{AbstractFollows, HasTurn, KeepsServer, KeepsStanding, Stands, is_pausing}
use Rattle.lib_os.specs.Places.{place_of}
use Rattle.lib_os.specs.Rows.{Names}
use Rattle.lib_os.specs.StandsAtPipe.{end_given}
use Rattle.lib_os.specs.StandsFor.{StandsFor}
use Rattle.lib_os.specs.UserCalls.{CallStep, Got, answer_of, exchange, giving, gone, got, load, load_byte, to_handler}
use Rattle.lib_os.proofs.BytesKept.{load_byte_slots}
use Rattle.lib_os.proofs.Loading.{GivesWord, loaded}
use Rattle.lib_os.proofs.Numbered.{number_of}
use Rattle.lib_os.proofs.PipeLocked.{IsExchanged}
use Rattle.lib_os.proofs.PipeWritten.{pipe_address}
use Rattle.lib_os.proofs.WindowWords.{read_at}
use Rattle.lib_stage.specs.declared.ask.Ask.{Ask}
use Rattle.lib_stage.specs.declared.ask.Ask.TheVariants as ask
use Rattle.lib_stage.specs.declared.ask.Next.{Next}
use Rattle.lib_stage.specs.declared.ask.Next.TheVariants as next
use Rattle.lib_stage.specs.Asks.{MayFail, frames_of, got_as, performed, told_as}
use Rattle.lib_stage.specs.Nexts.{seen_as, settled}
use Rattle.lib_stage.specs.ServiceSteps.{Plan, ServiceHolds}
use Rattle.lib_stage.proofs.Laws.{FailsBy, Falls, FallsOrAsks, FollowsBy, GoesOn, IsAt, IsPlain, KeepsBy, NeverFaults, StandsThere, asking_lowers}
use Rattle.lib_stage.proofs.Laws.{exchange_known, law_of, law_of_load_in_turn, law_of_load_with, plainly}
use Rattle.lib_pipe.proofs.PipeAside.{exchange_slots}
use Rattle.lib_pipe.specs.PipeStages.{next_of_lock}

-- what a service is at a stage: what it asks, and what it does by the word of the reply
abbrev pub staged : Service → Ask → (ℕ → Next) → Plan
staged service asks next = record { number = number_of service; asks = asks; next = λ called. next (answer_of called) }

-- what the step is in the abstract system by what it does next
abbrev pub Follows : KernelState → ℕ → Service → AbstractState → Next → Type 0
Follows s n service a x = AbstractFollows (seen_as x) n (settled (number_of service) x s n) a []

-- what is got as an answer was got
got_some : {X : Type 0} (word : X → ℕ) (called : Called) (g : Got X) → got_as word g ≡ got called → (x : X) × (g ≡ got x)
got_some word called (got x) is = (x, refl)
got_some word called to_handler is = absurd (let contradiction : ◌≡◌ {A = Got Called} to_handler (got called) = is in cc)
got_some word called gone is = absurd (let contradiction : ◌≡◌ {A = Got Called} gone (got called) = is in cc)

-- the word of it
abbrev word_got : Got Called → ℕ
word_got (got called) = answer_of called
word_got _ = 0

module _ (s : KernelState) (n : ℕ) (call : Service) (live : is_live (slot_at s n) ≡ true) (from : Step)
    (stands : place_of (slot_at s n) ≡ place.InService call from) (steady : is_pausing (place.InService call from) ≡ false) where
  is_at : (asks : Ask) (next : ℕ → Next) → IsPlain s n asks → frames_of asks ≡ 0 → ((word : ℕ) → Falls call from (next word)) →
      IsAt s n (staged call asks next) call from
  is_at asks next plain none falls = record {
    stands = stands;
    live = live;
    numbered = refl;
    plain = plain;
    goes_on = steady;
    falls = λ called. falls (answer_of called);
    few = omega (arith, none);
  }

  is_there : (asks : Ask) (next : ℕ → Next) → IsPlain s n asks → frames_of asks ≡ 0 → StandsThere s n (staged call asks next) call from
  is_there asks next plain none = record { stands = stands; plain = plain; goes_on = steady; few = omega (arith, none) }

  -- ---- a word is loaded

  pub load_holds : (va : ℕ) (next : ℕ → Next) → ((word : ℕ) → Falls call from (next word)) →
      ((names : Names) (a : AbstractState) → StandsFor names s a →
      (w : GivesWord s n va) × (HasTurn s n → IsInOrder (loaded s n va) → Follows (loaded s n va) n call a (next w.word))) →
      ServiceHolds s n (staged call (ask.Load va) next)
  load_holds va next falls gives =
      law_of_load_in_turn s n (staged call (ask.Load va) next) call from (is_at (ask.Load va) next (plainly refl) refl falls) va refl
      (λ names a h turn. let it = gives names a h in (it.0, it.1 turn))

  -- the same where the word is known by its being in its turn
  pub turn_load_holds : (va : ℕ) (next : ℕ → Next) → ((word : ℕ) → Falls call from (next word)) →
      ((names : Names) (a : AbstractState) → StandsFor names s a → HasTurn s n →
      (w : GivesWord s n va) × (IsInOrder (loaded s n va) → Follows (loaded s n va) n call a (next w.word))) →
      ServiceHolds s n (staged call (ask.Load va) next)
  turn_load_holds va next falls gives =
      law_of_load_in_turn s n (staged call (ask.Load va) next) call from (is_at (ask.Load va) next (plainly refl) refl falls) va refl gives

  -- and where it is by the word that the number falls, or the test is asked again
  pub known_load_holds : (va : ℕ) (next : ℕ → Next) →
      ((word : ℕ) → ((names : Names) (a : AbstractState) → StandsFor names s a → HasTurn s n → load s n va ≡ read_at s n va word) →
      FallsOrAsks s n call from (next word)) →
      ((names : Names) (a : AbstractState) → StandsFor names s a → HasTurn s n →
      (w : GivesWord s n va) × (IsInOrder (loaded s n va) → Follows (loaded s n va) n call a (next w.word))) →
      ServiceHolds s n (staged call (ask.Load va) next)
  unfolding performed
  known_load_holds va next falls gives =
      law_of_load_with s n (staged call (ask.Load va) next) call from (is_there (ask.Load va) next (plainly refl) refl) live va refl gives
      (λ goes never. asking_lowers s n (staged call (ask.Load va) next) (performed s n (ask.Load va)) call from stands refl goes never
      (λ called given. falls (answer_of called) (λ names a h turn. the_word called given names a h turn)))
    where
      the_word : (called : Called) → (performed s n (ask.Load va)).gives ≡ got called → (names : Names) (a : AbstractState) → StandsFor names s a →
          HasTurn s n → load s n va ≡ read_at s n va (answer_of called)
      the_word called given names a h turn =
          let w = (gives names a h turn).0 in
          let gave : got_as (λ (x : ℕ). x) (load s n va).gives ≡ got (Answered w.word) = ap (λ (z : CallStep ℕ). got_as (λ (x : ℕ). x) z.gives) w.is in
          let word : w.word ≡ answer_of called = ap (λ (g : Got Called). word_got g) (sym gave ∙ given) in
          w.is ∙ ap (λ (x : ℕ). read_at s n va x) word

  -- ---- a byte is loaded

  module _ (va : ℕ) (byte : ℕ) (next : ℕ → Next) (falls : (word : ℕ) → Falls call from (next word))
      (gives : (names : Names) (a : AbstractState) → StandsFor names s a → load_byte s n va ≡ read_at s n va byte)
      (follows : (names : Names) (a : AbstractState) → StandsFor names s a → IsInOrder (loaded s n va) → Follows (loaded s n va) n call a (next byte)) where
    abbrev told : CallStep ℕ → CallStep Called
    told step = told_as (λ (x : ℕ). x) step

    abbrev byte_plan : Plan
    byte_plan = staged call (ask.LoadByte va) next

    byte_goes : GoesOn s n byte_plan (told (load_byte s n va))
    byte_goes = record {
      live = λ called is stays. let it = got_some (λ (x : ℕ). x) called (load_byte s n va).gives is in
          ap (λ (k : Slot). is_live k) (load_byte_slots s n va it.0 it.1 n) ∙ live;
      registers = λ called is stays. let it = got_some (λ (x : ℕ). x) called (load_byte s n va).gives is in
          ap (λ (k : Slot). k.registers) (load_byte_slots s n va it.0 it.1 n);
    }

    byte_given : (names : Names) (a : AbstractState) → StandsFor names s a → (told (load_byte s n va)).gives ≡ got (Answered byte)
    byte_given names a h = ap (λ (z : CallStep ℕ). (told z).gives) (gives names a h)

    byte_never : NeverFaults s n (told (load_byte s n va))
    byte_never a h turn handled =
        absurd (let contradiction : ◌≡◌ {A = Got Called} to_handler (got (Answered byte)) = sym handled ∙ byte_given h.0 a h.1 in cc)

    byte_keeps : IsInOrder (load_byte s n va).state → KeepsBy s n byte_plan (told (load_byte s n va))
    byte_keeps order a h turn quiet =
        let is = gives h.0 a h.1 in
        subst (λ (z : CallStep ℕ). FollowsBy s n byte_plan a (told z)) (sym is)
        (follows h.0 a h.1 (subst (λ (t : KernelState). IsInOrder t) (ap (λ (z : CallStep ℕ). z.state) is) order))

    byte_fails : FailsBy s n byte_plan (told (load_byte s n va))
    byte_fails may a h turn = absurd (let contradiction : ◌≡◌ {A = Got Called} gone (got (Answered byte)) = sym may ∙ byte_given h.0 a h.1 in cc)

    pub byte_holds : ServiceHolds s n (staged call (ask.LoadByte va) next)
    unfolding performed
    byte_holds =
        law_of s n byte_plan call from (is_at (ask.LoadByte va) next (plainly refl) refl falls) byte_goes byte_never byte_keeps byte_fails

  -- ---- something is put, and it goes on in the same way whatever is told

  module _ (asks : Ask) (does : CallStep (Unit {0})) (is : performed s n asks ≡ told_as (λ (x : Unit {0}). 0) does) (plain : IsPlain s n asks)
      (none : frames_of asks ≡ 0) (dies : (g : Got Called) → MayFail asks g → g ≡ gone)
      (slots : (x : Unit {0}) → does.gives ≡ got x → (m : ℕ) → slot_at does.state m ≡ slot_at s m)
      (comes : (names : Names) (a : AbstractState) → StandsFor names s a → (sp : SpacesState) × (does ≡ giving (with_spaces s sp) tt))
      (x : Next) (falls : Falls call from x)
      (keeps : IsInOrder does.state → KeepsStanding (seen_as x) n s (settled (number_of call) x does.state n) []) where
    abbrev done : CallStep (Unit {0}) → CallStep Called
    done step = told_as (λ (x : Unit {0}). 0) step

    abbrev put_plan : Plan
    put_plan = staged call asks (λ word. x)

    put_goes : GoesOn s n put_plan (done does)
    put_goes = record {
      live = λ called given stays. let it = got_some (λ (x : Unit {0}). 0) called does.gives given in
          ap (λ (k : Slot). is_live k) (slots it.0 it.1 n) ∙ live;
      registers = λ called given stays. let it = got_some (λ (x : Unit {0}). 0) called does.gives given in
          ap (λ (k : Slot). k.registers) (slots it.0 it.1 n);
    }

    put_given : (names : Names) (a : AbstractState) → StandsFor names s a → (done does).gives ≡ got (Answered 0)
    put_given names a h = ap (λ (z : CallStep (Unit {0})). (done z).gives) (comes names a h).1

    put_never : NeverFaults s n (done does)
    put_never a h turn handled =
        absurd (let contradiction : ◌≡◌ {A = Got Called} to_handler (got (Answered 0)) = sym handled ∙ put_given h.0 a h.1 in cc)

    abbrev KeepsIt : CallStep (Unit {0}) → Type 0
    KeepsIt z = KeepsStanding (seen_as x) n s (settled (number_of call) x z.state n) []

    put_keeps : IsInOrder does.state → KeepsBy s n put_plan (done does)
    put_keeps order a h turn quiet =
        let it = (comes h.0 a h.1).1 in
        let there : KeepsBy s n put_plan (done (giving (with_spaces s (comes h.0 a h.1).0) tt)) =
        subst (λ (z : CallStep (Unit {0})). KeepsIt z) it (keeps order) in
        subst (λ (z : CallStep (Unit {0})). KeepsBy s n put_plan (done z)) (sym it) there a h turn quiet

    put_fails : MayFail asks (done does).gives → (a : AbstractState) → Stands s a → ⊥
    put_fails may a h =
        let contradiction : ◌≡◌ {A = Got Called} gone (got (Answered 0)) = sym (dies (done does).gives may) ∙ put_given h.0 a h.1 in cc

    pub put_holds : ServiceHolds s n (staged call asks (λ word. x))
    put_holds =
        law_of s n put_plan call from (is_at asks (λ word. x) plain none (λ word. falls))
        (subst (λ (z : CallStep Called). GoesOn s n put_plan z) (sym is) put_goes)
        (subst (λ (z : CallStep Called). NeverFaults s n z) (sym is) put_never)
        (subst (λ (z : CallStep Called). IsInOrder z.state → KeepsBy s n put_plan z) (sym is) put_keeps)
        (subst (λ (z : CallStep Called). FailsBy s n put_plan z) (sym is) (λ may a h turn. absurd (put_fails may a h)))

  -- ---- the lock is asked for

  module _ (va : ℕ) (server : KeepsServer n s (performed s n (ask.Exchange va 1)).state)
      (comes : (names : Names) (a : AbstractState) → StandsFor names s a → (after : KernelState) × (stood : ℕ)
      × (exchange s n va 1 ≡ record { state = after; gives = got stood; written = [] }))
      (free held : PipeStep) (falls : Falls call from (next.GoOn (step.Piped free))) (pauses : is_pausing (place.InService call (step.Piped held)) ≡ true)
      (same : (a : AbstractState) → Stands s a → pipe_address (end_given call) + PIPE_LOCK ≡ va)
      (exchanges : (names : Names) (a : AbstractState) → StandsFor names s a → s.last ≡ Some n →
      IsExchanged names s a n call (step.Piped free) (step.Piped held)) where
    abbrev at : ℕ
    at = pipe_address (end_given call) + PIPE_LOCK

    abbrev stood : CallStep ℕ → CallStep Called
    stood step = told_as (λ (x : ℕ). x) step

    abbrev lock_next : ℕ → Next
    lock_next word = next_of_lock word free held

    abbrev lock_plan : Plan
    lock_plan = staged call (ask.Exchange va 1) lock_next

    lock_goes : GoesOn s n lock_plan (stood (exchange s n va 1))
    lock_goes = record {
      live = λ called is stays. let it = got_some (λ (x : ℕ). x) called (exchange s n va 1).gives is in
          ap (λ (k : Slot). is_live k) (exchange_slots s n va 1 it.0 it.1 n) ∙ live;
      registers = λ called is stays. let it = got_some (λ (x : ℕ). x) called (exchange s n va 1).gives is in
          ap (λ (k : Slot). k.registers) (exchange_slots s n va 1 it.0 it.1 n);
    }

    lock_given : (names : Names) (a : AbstractState) (h : StandsFor names s a) → (stood (exchange s n va 1)).gives ≡ got (Answered (comes names a h).1)
    lock_given names a h = ap (λ (z : CallStep ℕ). (stood z).gives) (comes names a h).2

    lock_never : NeverFaults s n (stood (exchange s n va 1))
    lock_never a h turn handled =
        absurd (let contradiction : ◌≡◌ {A = Got Called} to_handler (got (Answered (comes h.0 a h.1).1)) = sym handled ∙ lock_given h.0 a h.1 in cc)

    lock_falls : (word : ℕ) → Falls call from (lock_next word)
    lock_falls word = by_test (word == 0)
      where
        by_test : (t : Bool) → Falls call from (if not t then next.Wait (step.Piped held) else next.GoOn (step.Piped free))
        by_test true = falls
        by_test false = pauses

    lock_fails : FailsBy s n lock_plan (stood (exchange s n va 1))
    lock_fails may a h turn =
        absurd (let contradiction : ◌≡◌ {A = Got Called} gone (got (Answered (comes h.0 a h.1).1)) = sym may ∙ lock_given h.0 a h.1 in cc)

    lock_keeps_at : (names : Names) (a : AbstractState) → StandsFor names s a → HasTurn s n → IsInOrder (exchange s n at 1).state →
        FollowsBy s n lock_plan a (stood (exchange s n at 1))
    lock_keeps_at names a h turn order =
        subst (λ (z : CallStep ℕ). FollowsBy s n lock_plan a (stood z)) (sym it.step_is)
        (by_test (it.word == 0) refl (subst (λ (t : KernelState). IsInOrder t) (ap (λ (z : CallStep ℕ). z.state) it.step_is) order))
      where
        it : IsExchanged names s a n call (step.Piped free) (step.Piped held)
        it = exchanges names a h turn.last

        by_test : (t : Bool) → (it.word == 0) ≡ t → IsInOrder (with_spaces s it.spaces) →
            Follows (with_spaces s it.spaces) n call a (if not t then next.Wait (step.Piped held) else next.GoOn (step.Piped free))
        by_test true test order = (refl, (names, it.takes (grind (arith, nat_tests, test)) order))
        by_test false test order =
            let some : it.word ≢ 0 = grind (arith, nat_tests, test) in ((refl, (names, it.finds some order)), it.waits some SHORT_QUANTUM)

    lock_keeps : IsInOrder (exchange s n va 1).state → KeepsBy s n lock_plan (stood (exchange s n va 1))
    lock_keeps order a h turn quiet =
        subst (λ (va : ℕ). IsInOrder (exchange s n va 1).state → FollowsBy s n lock_plan a (stood (exchange s n va 1))) (same a h)
        (lock_keeps_at h.0 a h.1 turn) order

    pub lock_holds : ServiceHolds s n (staged call (ask.Exchange va 1) (λ word. next_of_lock word free held))
    unfolding performed
    lock_holds =
        law_of s n lock_plan call from (is_at (ask.Exchange va 1) lock_next (exchange_known s n va 1 server) refl lock_falls) lock_goes lock_never
        lock_keeps lock_fails
