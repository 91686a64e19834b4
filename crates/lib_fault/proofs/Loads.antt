-- A load of the handler: it gives a word wherever the state stands for an abstract one, and the handler goes on by that word.
use Rattle.std.proofs.Common.{◌≡◌, ◌∙◌, ℕ, true, [], refl, sym, ap, subst}
use Rattle.jos_base.specs.declared.called.Called.{Called}
use Rattle.jos_base.specs.declared.called.Called.TheVariants.{Answered}
use Rattle.jos_base.specs.KernelState.{KernelState, slot_at}
use Rattle.lib_os.specs.declared.place.HandlerStep.{HandlerStep}
use Rattle.lib_os.specs.declared.place.Place.TheVariants as place
use Rattle.lib_os.specs.AbstractState.{AbstractState}
use Rattle.lib_os.specs.InOrder.{IsInOrder}
use Rattle.lib_os.specs.LibraryPages.{has_copy}
use Rattle.lib_os.specs.LibrarySteps.{AbstractFollows, Stands}
use Rattle.lib_os.specs.Places.{place_of}
use Rattle.lib_os.specs.Rows.{Names}
use Rattle.lib_os.specs.StandingLaws.{IsHandlerStep}
use Rattle.lib_os.specs.StandsFor.{StandsFor, view_of, upcall_at}
use Rattle.lib_os.specs.StandsInHandler.{CopiesOrEnds}
use Rattle.lib_os.specs.UserCalls.{CallStep, Got, got, gone, load, to_handler}
use Rattle.lib_os.proofs.Handled.{IsHandled, handled_part, handler_slot}
use Rattle.lib_os.proofs.HandlerGoes.{load_goes}
use Rattle.lib_os.proofs.Loading.{loaded}
use Rattle.lib_os.proofs.Logical.{is_plain}
use Rattle.lib_os.proofs.WindowWords.{read_at}
use Rattle.lib_stage.specs.declared.ask.Ask.{Ask}
use Rattle.lib_stage.specs.declared.ask.Ask.TheVariants as ask
use Rattle.lib_stage.specs.declared.ask.Next.{Next}
use Rattle.lib_stage.specs.declared.ask.Next.TheVariants as next
use Rattle.lib_stage.specs.Asks.{got_as, told_as, performed, MayFail}
use Rattle.lib_stage.specs.Nexts.{settled, seen_as}
use Rattle.lib_stage.proofs.Laws.{FailsBy, FollowsBy, KeepsBy, NeverFaults, word_read}
use Rattle.lib_fault.specs.HandlerStages.{ask_of, handling, next_of}

-- at two steps the handler has the same of its own
pub record StandsAlike (from to : HandlerStep) : Type 0 where
  pub there : IsHandlerStep to
  pub plain : is_plain (place.InHandler from) ≡ true
  pub plain_to : is_plain (place.InHandler to) ≡ true
  pub upcall : upcall_at (place.InHandler from) ≡ upcall_at (place.InHandler to)
  pub copy : has_copy (place.InHandler from) ≡ has_copy (place.InHandler to)

-- the word that a load gives, and where the handler goes on by it
pub record Reads {names : Names} {s : KernelState} {a : AbstractState} (n va : ℕ) (from : HandlerStep) (v : IsHandled names s a n from) : Type 0 where
  pub word : ℕ
  pub is : load s n va ≡ read_at s n va word
  pub to : HandlerStep
  pub leads : next_of from word ≡ next.Handle to
  pub alike : StandsAlike from to
  pub way : CopiesOrEnds to (view_of s.spaces (slot_at s n).directory) (handler_slot (slot_at s n) to) v.b v.at.fault v.at.regs

module _ (s : KernelState) (n va : ℕ) (from : HandlerStep) (asks : ask_of from ≡ ask.Load va)
    (stands : place_of (slot_at s n) ≡ place.InHandler from)
    (reads : (names : Names) (a : AbstractState) → StandsFor names s a → (v : IsHandled names s a n from) → Reads n va from v) where
  is_load : performed s n (ask_of from) ≡ told_as (λ w. w) (load s n va)
  unfolding performed
  is_load = ap (λ (x : Ask). performed s n x) asks

  -- the state after stands for the same abstract one
  follows : (names : Names) (a : AbstractState) (h : StandsFor names s a) → IsInOrder (loaded s n va) →
      let r = reads names a h (handled_part h n from stands) in FollowsBy s n (handling from) a (word_read s n va r.word)
  follows names a h order =
      let v = handled_part h n from stands in
      let r = reads names a h v in
      subst (λ (x : Next). AbstractFollows (seen_as x) n (settled (handling from).number x (loaded s n va) n) a []) (sym r.leads)
      (refl, (names, load_goes h n va from r.to v order stands r.alike.there r.alike.plain r.alike.plain_to r.alike.upcall r.alike.copy r.way))

  keeps : IsInOrder (load s n va).state → KeepsBy s n (handling from) (told_as (λ w. w) (load s n va))
  keeps order a h turn quiet =
      let r = reads h.0 a h.1 (handled_part h.1 n from stands) in
      subst (λ (z : CallStep ℕ). FollowsBy s n (handling from) a (told_as (λ w. w) z)) (sym r.is)
      (follows h.0 a h.1 (subst (λ (t : KernelState). IsInOrder t) (ap (λ (z : CallStep ℕ). z.state) r.is) order))

  pub load_keeps : IsInOrder (performed s n (ask_of from)).state → KeepsBy s n (handling from) (performed s n (ask_of from))
  load_keeps = subst (λ (z : CallStep Called). IsInOrder z.state → KeepsBy s n (handling from) z) (sym is_load) keeps

  -- the access is always allowed
  gives_word : (a : AbstractState) → Stands s a → (word : ℕ) × ((performed s n (ask_of from)).gives ≡ got (Answered word))
  gives_word a h =
      let r = reads h.0 a h.1 (handled_part h.1 n from stands) in
      (r.word, ap (λ (z : CallStep Called). z.gives) is_load ∙ ap (λ (z : CallStep ℕ). got_as (λ w. w) z.gives) r.is)

  pub load_fails : FailsBy s n (handling from) (performed s n (ask_of from))
  load_fails may a h turn =
      let given = gives_word a h in
      let none : (performed s n (ask_of from)).gives ≡ gone = subst (λ (x : Ask). MayFail x (performed s n (ask_of from)).gives) asks may in
      absurd (let contradiction : ◌≡◌ {A = Got Called} gone (got (Answered given.0)) = sym none ∙ given.1 in cc)

  pub load_never : NeverFaults s n (performed s n (ask_of from))
  load_never a h turn faults =
      let given = gives_word a h in
      let contradiction : ◌≡◌ {A = Got Called} to_handler (got (Answered given.0)) = sym faults ∙ given.1 in cc
