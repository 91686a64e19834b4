-- The law of a stage at which a service loads a word or a byte from a page of its own, or stores one into it: what it loads is told by where it stands, and so is
-- where it goes on.
use Rattle.std.proofs.Common.{◌≡◌, ◌∙◌, ◌+◌, ◌*◌, ◌≤◌, ℕ, true, false, Some, refl, sym, ap, subst, arith}
use Rattle.jos_base.specs.declared.called.Called.{Called}
use Rattle.jos_base.specs.declared.called.Called.TheVariants.{Answered}
use Rattle.jos_base.specs.declared.numbers.TheConstants.{PGSIZE}
use Rattle.jos_base.specs.Environments.{Slot, is_live}
use Rattle.jos_base.specs.KernelState.{KernelState, slot_at, with_spaces}
use Rattle.jos_base.specs.SpacesState.{SpacesState}
use Rattle.jos_base.specs.Words.{page_number}
use Rattle.lib_os.specs.declared.place.Place.TheVariants as place
use Rattle.lib_os.specs.declared.place.Step.{Step}
use Rattle.lib_os.specs.declared.service.Service.{Service}
use Rattle.lib_os.specs.AbstractState.{AbstractState}
use Rattle.lib_os.specs.InOrder.{IsInOrder}
use Rattle.lib_os.specs.LibrarySteps.{is_pausing}
use Rattle.lib_os.specs.Places.{place_of}
use Rattle.lib_os.specs.Rows.{Names, is_of_descriptor}
use Rattle.lib_os.specs.StandsFor.{StandsFor}
use Rattle.lib_os.specs.UserCalls.{CallStep, Got, answer_of, giving, gone, got, load, load_byte, store, store_byte, to_handler}
use Rattle.lib_os.proofs.BytesKept.{store_byte_slots, store_slots}
use Rattle.lib_os.proofs.Loading.{loaded}
use Rattle.lib_os.proofs.WindowWords.{read_at}
use Rattle.lib_stage.specs.declared.ask.Ask.{Ask}
use Rattle.lib_stage.specs.declared.ask.Ask.TheVariants as ask
use Rattle.lib_stage.specs.declared.ask.Next.{Next}
use Rattle.lib_stage.specs.Asks.{MayFail, frames_of, performed}
use Rattle.lib_stage.specs.ServiceSteps.{Plan, ServiceHolds}
use Rattle.lib_stage.proofs.Laws.{FailsBy, Falls, FallsOrAsks, FollowsBy, GoesOn, KeepsBy, NeverFaults, asking_lowers, falls_so, is_plain, is_word_beside}
use Rattle.lib_stage.proofs.Laws.{law_of_load_with, law_with, plainly}
use Rattle.lib_file.proofs.Finds.{Follows, staged}
use Rattle.lib_file.proofs.Moves.{byte_goes, got_done, told_byte, told_done}

-- What a store comes to, and what follows it.
pub record IsStoredSo (s : KernelState) (n : ℕ) (service : Service) (a : AbstractState) (next : ℕ → Next) (call : CallStep (Unit {0})) : Type 0 where
  pub spaces : SpacesState
  pub step_is : call ≡ giving (with_spaces s spaces) tt
  pub follows : IsInOrder (with_spaces s spaces) → s.last ≡ Some n → Follows (with_spaces s spaces) n service a (next 0)

-- What a load comes to, and what follows it, by what it gives.
pub record IsLoadedSo (s : KernelState) (n : ℕ) (service : Service) (a : AbstractState) (next : ℕ → Next) (va : ℕ) (call : CallStep ℕ) : Type 0 where
  pub word : ℕ
  pub step_is : call ≡ read_at s n va word
  pub follows : IsInOrder (loaded s n va) → Follows (loaded s n va) n service a (next word)

-- a word in a page that is no descriptor's
pub own_word_beside : (p at : ℕ) → at + 4 ≤ PGSIZE → is_of_descriptor p ≡ false → is_word_beside (p * PGSIZE + at) ≡ true
own_word_beside p at fits none =
    let first : page_number (p * PGSIZE + at) ≡ p = omega (arith, fits) in
    let last : page_number (p * PGSIZE + at + 3) ≡ p = omega (arith, fits) in
    rw (first, last, none) refl

-- where it is by where the service stands that the number of its hidden steps falls
module _ (s : KernelState) (n : ℕ) (service : Service) (from : Step) (live : is_live (slot_at s n) ≡ true)
    (steady : is_pausing (place.InService service from) ≡ false) (stands : place_of (slot_at s n) ≡ place.InService service from) (next : ℕ → Next)
    (falls : (word : ℕ) → FallsOrAsks s n service from (next word)) where
  -- ---- a store

  module _ (asks : Ask) (call : CallStep (Unit {0})) (performs : performed s n asks ≡ told_done call) (plain : is_plain asks ≡ true)
      (few : frames_of asks ≤ 0) (fails_gone : (g : Got Called) → MayFail asks g → g ≡ gone)
      (slots : (x : Unit {0}) → call.gives ≡ got x → (m : ℕ) → slot_at call.state m ≡ slot_at s m)
      (stored : (names : Names) (a : AbstractState) → StandsFor names s a → IsStoredSo s n service a next call) where
    abbrev storing : Plan
    storing = staged service asks next

    goes : GoesOn s n storing (told_done call)
    goes = record {
      live = λ called is stays. let it = got_done called call.gives is in ap (λ (k : Slot). is_live k) (slots it.0 it.1 n) ∙ live;
      registers = λ called is stays. let it = got_done called call.gives is in ap (λ (k : Slot). k.registers) (slots it.0 it.1 n);
    }

    does_is : (names : Names) (a : AbstractState) (h : StandsFor names s a) →
        told_done call ≡ giving (with_spaces s (stored names a h).spaces) (Answered 0)
    does_is names a h = ap (λ (z : CallStep (Unit {0})). told_done z) (stored names a h).step_is

    given : (names : Names) (a : AbstractState) (h : StandsFor names s a) → (told_done call).gives ≡ got (Answered 0)
    given names a h = ap (λ (z : CallStep Called). z.gives) (does_is names a h)

    never : NeverFaults s n (told_done call)
    never a h turn handled =
        absurd (let contradiction : ◌≡◌ {A = Got Called} to_handler (got (Answered 0)) = sym handled ∙ given h.0 a h.1 in cc)

    keeps : IsInOrder (told_done call).state → KeepsBy s n storing (told_done call)
    keeps order a h turn quiet =
        let it = stored h.0 a h.1 in
        subst (λ (z : CallStep Called). FollowsBy s n storing a z) (sym (does_is h.0 a h.1))
        (it.follows (subst (λ (t : KernelState). IsInOrder t) (ap (λ (z : CallStep Called). z.state) (does_is h.0 a h.1)) order) turn.last)

    fails : FailsBy s n storing (told_done call)
    fails may a h turn =
        absurd (let contradiction : ◌≡◌ {A = Got Called} gone (got (Answered 0)) = sym (fails_gone (told_done call).gives may) ∙ given h.0 a h.1 in cc)

    stores : ServiceHolds s n (staged service asks next)
    stores =
        let goes_so = subst (λ (z : CallStep Called). GoesOn s n storing z) (sym performs) goes in
        let never_so = subst (λ (z : CallStep Called). NeverFaults s n z) (sym performs) never in
        law_with s n storing service from (record { stands = stands; plain = plainly plain; goes_on = steady; few = omega (arith, few) }) goes_so.live
        (subst (λ (z : CallStep Called). IsInOrder z.state → KeepsBy s n storing z) (sym performs) keeps)
        (subst (λ (z : CallStep Called). FailsBy s n storing z) (sym performs) fails)
        (asking_lowers s n storing (performed s n asks) service from stands refl goes_so never_so (λ called is. falls (answer_of called)))

  -- of a word
  pub own_store_known : (va word : ℕ) → is_word_beside va ≡ true →
      ((names : Names) (a : AbstractState) → StandsFor names s a → IsStoredSo s n service a next (store s n va word)) →
      ServiceHolds s n (staged service (ask.Store va word) next)
  unfolding performed
  own_store_known va word beside stored =
      stores (ask.Store va word) (store s n va word) refl beside (omega arith) (λ g may. may) (store_slots s n va word) stored

  -- of a byte
  pub own_store_byte_known : (va byte : ℕ) → is_of_descriptor (page_number va) ≡ false →
      ((names : Names) (a : AbstractState) → StandsFor names s a → IsStoredSo s n service a next (store_byte s n va byte)) →
      ServiceHolds s n (staged service (ask.StoreByte va byte) next)
  unfolding performed
  own_store_byte_known va byte none stored =
      stores (ask.StoreByte va byte) (store_byte s n va byte) refl (rw none refl) (omega arith) (λ g may. may) (store_byte_slots s n va byte) stored

  -- ---- a load

  -- of a word
  pub own_load_known : (va : ℕ) →
      ((names : Names) (a : AbstractState) → StandsFor names s a → IsLoadedSo s n service a next va (load s n va)) →
      ServiceHolds s n (staged service (ask.Load va) next)
  own_load_known va gives =
      law_of_load_with s n (staged service (ask.Load va) next) service from
      (record { stands = stands; plain = plainly refl; goes_on = steady; few = omega arith }) live va refl
      (λ names a h turn. let it = gives names a h in (record { word = it.word; is = it.step_is }, it.follows))
      (λ goes never.
      asking_lowers s n (staged service (ask.Load va) next) (performed s n (ask.Load va)) service from stands refl goes never
      (λ called is. falls (answer_of called)))

  -- of a byte
  module _ (va : ℕ) (gives : (names : Names) (a : AbstractState) → StandsFor names s a → IsLoadedSo s n service a next va (load_byte s n va)) where
    abbrev loading : Plan
    loading = staged service (ask.LoadByte va) next

    byte_given : (names : Names) (a : AbstractState) (h : StandsFor names s a) →
        (told_byte (load_byte s n va)).gives ≡ got (Answered (gives names a h).word)
    byte_given names a h = ap (λ (z : CallStep ℕ). (told_byte z).gives) (gives names a h).step_is

    byte_never : NeverFaults s n (told_byte (load_byte s n va))
    byte_never a h turn handled =
        absurd (let contradiction : ◌≡◌ {A = Got Called} to_handler (got (Answered (gives h.0 a h.1).word)) = sym handled ∙ byte_given h.0 a h.1 in cc)

    byte_keeps : IsInOrder (told_byte (load_byte s n va)).state → KeepsBy s n loading (told_byte (load_byte s n va))
    byte_keeps order a h turn quiet =
        let it = gives h.0 a h.1 in
        subst (λ (z : CallStep ℕ). FollowsBy s n loading a (told_byte z)) (sym it.step_is)
        (it.follows (subst (λ (t : KernelState). IsInOrder t) (ap (λ (z : CallStep ℕ). z.state) it.step_is) order))

    byte_fails : FailsBy s n loading (told_byte (load_byte s n va))
    byte_fails may a h turn =
        absurd (let contradiction : ◌≡◌ {A = Got Called} gone (got (Answered (gives h.0 a h.1).word)) = sym may ∙ byte_given h.0 a h.1 in cc)

    pub own_load_byte_known : ServiceHolds s n (staged service (ask.LoadByte va) next)
    unfolding performed
    own_load_byte_known =
        let goes = byte_goes s n loading va live in
        law_with s n loading service from (record { stands = stands; plain = plainly refl; goes_on = steady; few = omega arith }) goes.live byte_keeps byte_fails
        (asking_lowers s n loading (performed s n (ask.LoadByte va)) service from stands refl goes byte_never (λ called is. falls (answer_of called)))

-- and where it falls wherever the service stands
module _ (s : KernelState) (n : ℕ) (service : Service) (from : Step) (live : is_live (slot_at s n) ≡ true)
    (steady : is_pausing (place.InService service from) ≡ false) (stands : place_of (slot_at s n) ≡ place.InService service from) (next : ℕ → Next)
    (falls : (word : ℕ) → Falls service from (next word)) where
  known : (word : ℕ) → FallsOrAsks s n service from (next word)
  known word = falls_so s n service from (next word) (falls word)

  pub own_store_holds : (va word : ℕ) → is_word_beside va ≡ true →
      ((names : Names) (a : AbstractState) → StandsFor names s a → IsStoredSo s n service a next (store s n va word)) →
      ServiceHolds s n (staged service (ask.Store va word) next)
  own_store_holds va word beside stored = own_store_known s n service from live steady stands next known va word beside stored

  pub own_store_byte_holds : (va byte : ℕ) → is_of_descriptor (page_number va) ≡ false →
      ((names : Names) (a : AbstractState) → StandsFor names s a → IsStoredSo s n service a next (store_byte s n va byte)) →
      ServiceHolds s n (staged service (ask.StoreByte va byte) next)
  own_store_byte_holds va byte none stored = own_store_byte_known s n service from live steady stands next known va byte none stored

  pub own_load_holds : (va : ℕ) →
      ((names : Names) (a : AbstractState) → StandsFor names s a → IsLoadedSo s n service a next va (load s n va)) →
      ServiceHolds s n (staged service (ask.Load va) next)
  own_load_holds va gives = own_load_known s n service from live steady stands next known va gives

  pub own_load_byte_holds : (va : ℕ) →
      ((names : Names) (a : AbstractState) → StandsFor names s a → IsLoadedSo s n service a next va (load_byte s n va)) →
      ServiceHolds s n (staged service (ask.LoadByte va) next)
  own_load_byte_holds va gives = own_load_byte_known s n service from live steady stands next known va gives
