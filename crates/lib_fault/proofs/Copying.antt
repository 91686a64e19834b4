-- The handler of page faults at the steps that change pages: it takes a page for the copy, stores words there, puts it in the
-- place of the page, and takes it away from where it was made. The state stands for the same abstract one as before.
use Rattle.std.proofs.Common.{◌≡◌, ◌∙◌, ◌+◌, ◌-◌, ◌<◌, ℕ, Bool, true, false, inl, inr, List, ◌∷◌, [], refl, sym, ap, subst, arith}
use Rattle.std.proofs.Common.{if◌then◌else◌}
use Rattle.std.specs.Prelude.{nat_lt}
use Rattle.std.proofs.lemmas.Bool.Decides.{nat_tests}
use Rattle.jos_base.specs.declared.called.Called.{Called}
use Rattle.jos_base.specs.declared.called.Called.TheVariants.{Answered}
use Rattle.jos_base.specs.Environments.{is_live}
use Rattle.jos_base.specs.KernelState.{KernelState, slot_at, with_spaces}
use Rattle.jos_base.specs.declared.numbers.TheConstants.{SYS_PAGE_MAP}
use Rattle.jos_base.specs.Words.{page_number}
use Rattle.lib_os.specs.declared.numbers.TheConstants.{PAGE_WORDS, PFTEMP, SERVICES}
use Rattle.lib_os.specs.declared.place.HandlerStep.{HandlerStep}
use Rattle.lib_os.specs.declared.place.HandlerStep.TheVariants as handler
use Rattle.lib_os.specs.declared.place.Place.TheVariants as place
use Rattle.lib_os.specs.declared.progress.Progress.TheVariants as progress
use Rattle.lib_os.specs.InOrder.{IsInOrder}
use Rattle.lib_os.specs.LibrarySteps.{AbstractFollows, KeepsStanding, Stays}
use Rattle.lib_os.specs.Places.{place_of}
use Rattle.lib_os.specs.UserCalls.{CallStep, Got, got, gone, system, store, to_handler}
use Rattle.lib_os.proofs.Calls.{page_made_or_refused, page_unmap_is, refusal_is_seen}
use Rattle.lib_os.proofs.CopiesStand.{copy_page, taken_stands, unmapped_stands, over_stands}
use Rattle.lib_os.proofs.CopiesStored.{StoresWord, stores_word, word_stored, last_stored}
use Rattle.lib_os.proofs.Placing.{allocated_made, inserted_given}
use Rattle.lib_os.proofs.Remapping.{puts_over}
use Rattle.lib_os.proofs.Removing.{unmapped_removed}
use Rattle.lib_os.proofs.StepsThere.{step_is_there}
use Rattle.lib_stage.specs.declared.ask.Next.TheVariants as next
use Rattle.lib_stage.specs.Asks.{performed, got_as, told_as}
use Rattle.lib_stage.specs.Nexts.{settled, seen_as}
use Rattle.lib_stage.specs.ServiceSteps.{upshot_by}
use Rattle.lib_stage.proofs.Laws.{KeepsBy, FollowsBy, FailsBy, NeverFaults, system_gives}
use Rattle.lib_fault.specs.HandlerStages.{ask_of, handling, copy_perm, page_start, word_of_page}

-- ---- a page is taken

pub taking_keeps : (s : KernelState) (n va : ℕ) → is_live (slot_at s n) ≡ true → place_of (slot_at s n) ≡ place.InHandler (handler.Taking va) →
    IsInOrder (performed s n (ask_of (handler.Taking va))).state → KeepsBy s n (handling (handler.Taking va)) (performed s n (ask_of (handler.Taking va)))
unfolding performed
taking_keeps s n va live stands order = elim (page_made_or_refused s n PFTEMP copy_perm (0 ∷ 0 ∷ []) live refl refl) [
  | inl made ↦
      subst (λ (z : CallStep Called). IsInOrder z.state → KeepsBy s n (handling (handler.Taking va)) z) (sym made.step)
      (λ in_order a h turn quiet. (
        refl,
        (
          h.0,
          taken_stands h.1 n va stands
              (allocated_made s.spaces made.spaces (slot_at s n).directory copy_page copy_perm made.frame h.1.in_order.frames in_order.frames refl made.is)
              in_order turn.last,
        ),
      )) order
  | inr none ↦
      subst (λ (z : CallStep Called). KeepsBy s n (handling (handler.Taking va)) z) (sym none.step)
      (λ a h turn quiet. absurd (refusal_is_seen s (record { stays = quiet.stays; could = quiet.could })))
]

pub taking_fails : (s : KernelState) (n va : ℕ) → is_live (slot_at s n) ≡ true → place_of (slot_at s n) ≡ place.InHandler (handler.Taking va) →
    FailsBy s n (handling (handler.Taking va)) (performed s n (ask_of (handler.Taking va)))
taking_fails s n va live stands may a h turn = absurd (let contradiction : false ≡ true = may.0 in cc)

-- ---- a word is stored in the copy

module _ (s : KernelState) (n va index word : ℕ) (live : is_live (slot_at s n) ≡ true)
    (stands : place_of (slot_at s n) ≡ place.InHandler (handler.Storing va index word)) where
  abbrev stored : CallStep (Unit {0})
  stored = store s n (word_of_page PFTEMP index) word

  abbrev at : HandlerStep
  at = handler.Storing va index word

  -- the word has the bytes from which it was loaded
  pub storing_keeps : IsInOrder (performed s n (ask_of (handler.Storing va index word))).state →
      KeepsBy s n (handling (handler.Storing va index word)) (performed s n (ask_of (handler.Storing va index word)))
  unfolding performed
  storing_keeps order a h turn quiet =
      let call = stores_word h.1 n va index word stands in
      subst (λ (z : CallStep (Unit {0})). IsInOrder z.state → FollowsBy s n (handling at) a (told_as (λ done. 0) z)) (sym call.step)
      (λ in_order. by_test call in_order (nat_lt index (PAGE_WORDS - 1)) refl) order
    where
      by_test : (call : StoresWord s n va index word) → IsInOrder (with_spaces s call.spaces) → (c : Bool) → nat_lt index (PAGE_WORDS - 1) ≡ c →
          let x = if c then next.Handle (handler.Loading va (index + 1)) else next.Handle (handler.MappingOver va) in
          AbstractFollows (seen_as x) n (settled SERVICES x (with_spaces s call.spaces) n) a []
      by_test call in_order true test =
          let more : index + 1 < PAGE_WORDS = grind (arith, nat_tests) in (
            refl,
            (
              h.0,
              word_stored h.1 n va index word stands (step_is_there (slot_at s n) at stands) call.copy call.stands call.rewritten in_order turn.last more,
            ),
          )
      by_test call in_order false test =
          let there = step_is_there (slot_at s n) at stands in
          let all : index + 1 ≡ PAGE_WORDS = grind (arith, nat_tests) in (
            refl,
            (
              h.0,
              last_stored h.1 n va index word stands there call.copy call.stands call.rewritten in_order turn.last all,
            ),
          )

  pub storing_fails : FailsBy s n (handling (handler.Storing va index word)) (performed s n (ask_of (handler.Storing va index word)))
  unfolding performed
  storing_fails may a h turn =
      let call = stores_word h.1 n va index word stands in
      let given : got (Answered 0) ≡ gone = sym (ap (λ (z : CallStep (Unit {0})). got_as (λ done. 0) z.gives) call.step) ∙ may in
      absurd (let contradiction : ◌≡◌ {A = Got Called} (got (Answered 0)) gone = given in cc)

  -- the copy may always be written
  pub storing_never : NeverFaults s n (performed s n (ask_of (handler.Storing va index word)))
  unfolding performed
  storing_never a h turn faults =
      let call = stores_word h.1 n va index word stands in
      let given : got (Answered 0) ≡ to_handler = sym (ap (λ (z : CallStep (Unit {0})). got_as (λ done. 0) z.gives) call.step) ∙ faults in
      let contradiction : ◌≡◌ {A = Got Called} (got (Answered 0)) to_handler = given in cc

-- ---- the copy is taken away from where it was made

pub unmapping_keeps : (s : KernelState) (n va : ℕ) → is_live (slot_at s n) ≡ true → place_of (slot_at s n) ≡ place.InHandler (handler.Unmapping va) →
    IsInOrder (performed s n (ask_of (handler.Unmapping va))).state → KeepsBy s n (handling (handler.Unmapping va)) (performed s n (ask_of (handler.Unmapping va)))
unfolding performed
unmapping_keeps s n va live stands order =
    subst (λ (z : CallStep Called). IsInOrder z.state → KeepsBy s n (handling (handler.Unmapping va)) z)
    (sym (page_unmap_is s n live PFTEMP (0 ∷ 0 ∷ 0 ∷ []) refl))
    (λ in_order a h turn quiet. (
      refl,
      (h.0, unmapped_stands h.1 n va stands (unmapped_removed s.spaces (slot_at s n).directory copy_page h.1.in_order.frames) in_order turn.last),
    )) order

pub unmapping_fails : (s : KernelState) (n va : ℕ) → is_live (slot_at s n) ≡ true → place_of (slot_at s n) ≡ place.InHandler (handler.Unmapping va) →
    FailsBy s n (handling (handler.Unmapping va)) (performed s n (ask_of (handler.Unmapping va)))
unmapping_fails s n va live stands may a h turn = absurd (let contradiction : false ≡ true = may.0 in cc)

-- ---- the copy is put in the place of the page

-- where the call stands for nothing it is not known what it comes to, but that the handler goes on
module _ (s : KernelState) (n va : ℕ) (live : is_live (slot_at s n) ≡ true)
    (stands : place_of (slot_at s n) ≡ place.InHandler (handler.MappingOver va)) where
  abbrev args : List ℕ
  args = 0 ∷ PFTEMP ∷ 0 ∷ page_start va ∷ copy_perm ∷ []

  abbrev asked : CallStep Called
  asked = system s n SYS_PAGE_MAP args

  -- the state in which it goes on
  abbrev over : KernelState → KernelState
  over mid = settled SERVICES (next.Handle (handler.Unmapping va)) mid n

  over_keeps : IsInOrder asked.state → KeepsStanding progress.Hidden n s (over asked.state) asked.written
  over_keeps order a h turn quiet =
      let call = puts_over h.1 n va live stands in
      subst (λ (z : CallStep Called). IsInOrder z.state → Stays (over z.state) a z.written) (sym call.step)
      (λ in_order. (
        refl,
        (
          h.0,
          over_stands h.1 n va stands call.copy call.stands
              (inserted_given s.spaces call.spaces (slot_at s n).directory (page_number va) (record { frame = call.copy.frame; perm = copy_perm })
              (slot_at s n).directory copy_page call.entry h.1.in_order.frames in_order.frames refl call.there call.frame call.is) in_order turn.last,
        ),
      )) order

  pub mapping_over_keeps : IsInOrder (performed s n (ask_of (handler.MappingOver va))).state →
      KeepsBy s n (handling (handler.MappingOver va)) (performed s n (ask_of (handler.MappingOver va)))
  unfolding performed
  mapping_over_keeps order =
      let gives = system_gives s n SYS_PAGE_MAP args in
      subst (λ (g : Got Called). let did = upshot_by (handling (handler.MappingOver va)) n asked g in KeepsStanding did.progress n s did.state did.written)
      (sym gives.1) (over_keeps order)

  pub mapping_over_fails : FailsBy s n (handling (handler.MappingOver va)) (performed s n (ask_of (handler.MappingOver va)))
  mapping_over_fails may a h turn = absurd (let contradiction : false ≡ true = may.0 in cc)
