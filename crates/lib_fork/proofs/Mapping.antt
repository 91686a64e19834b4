-- Fork maps a page of the parent into the child, and the state stands for the same abstract one as before: it goes on below a page that is
-- mapped as it is, and maps any other onto itself.
use Rattle.std.proofs.Common.{◌≡◌, ◌∙◌, ◌==◌, ◌%◌, ◌*◌, ◌<◌, ℕ, Bool, true, false, not, List, [], ◌∷◌, Option, Some, None}
use Rattle.std.proofs.Common.{refl, sym, ap, subst, arith, if◌then◌else◌}
use Rattle.std.proofs.lemmas.Bool.Decides.{nat_tests}
use Rattle.jos_base.specs.declared.called.Called.{Called}
use Rattle.jos_base.specs.declared.called.Called.TheVariants.{Answered}
use Rattle.jos_base.specs.declared.numbers.TheConstants.{E_NO_MEM, NENV, PGSIZE, SYS_PAGE_MAP}
use Rattle.jos_base.specs.Environments.{is_live}
use Rattle.jos_base.specs.KernelState.{KernelState, slot_at, with_extra, with_refusal, with_spaces}
use Rattle.jos_base.specs.SpacesState.{SpacesState, inserted}
use Rattle.jos_base.specs.SystemCalls.{is_page_address}
use Rattle.jos_base.specs.Words.{negated, page_number}
use Rattle.lib_os.specs.declared.numbers.TheConstants.{SERVICE_FORK}
use Rattle.lib_os.specs.declared.place.Place.TheVariants as place
use Rattle.lib_os.specs.declared.place.Step.{Step}
use Rattle.lib_os.specs.declared.place.Step.TheVariants as step
use Rattle.lib_os.specs.declared.service.Service.TheVariants as service
use Rattle.lib_os.specs.AbstractState.{AbstractState}
use Rattle.lib_os.specs.InOrder.{IsInOrder}
use Rattle.lib_os.specs.LibrarySteps.{KeepsStanding, NothingRefused, Stays}
use Rattle.lib_os.specs.Places.{place_of, words_at}
use Rattle.lib_os.specs.Rows.{Names, is_cow}
use Rattle.lib_os.specs.StandsFor.{StandsFor, top_page}
use Rattle.lib_os.specs.UserCalls.{CallStep, Got, answer_of, giving, got, system}
use Rattle.lib_os.proofs.Bearing.{IsBearer, bearer}
use Rattle.lib_os.proofs.Calls.{made_step, refusal_is_seen}
use Rattle.lib_os.proofs.PassedOn.{below_stands, child_given, is_kept, kept_not_copied, maps_child, mapping, others_copied, passed_on, remap_stands}
use Rattle.lib_stage.specs.declared.ask.Next.{Next}
use Rattle.lib_stage.specs.declared.ask.Next.TheVariants as next
use Rattle.lib_stage.specs.Asks.{performed}
use Rattle.lib_stage.specs.Nexts.{seen_as, settled}
use Rattle.lib_stage.specs.ServiceSteps.{upshot_by}
use Rattle.lib_stage.proofs.Laws.{FailsBy, KeepsBy, system_gives}
use Rattle.lib_fork.specs.declared.fork.ForkStage.{ForkStage}
use Rattle.lib_fork.specs.declared.fork.ForkStage.TheVariants as stage
use Rattle.lib_fork.specs.ForkStages.{ask_of, below, forking, next_of, page_va}

-- the address of a page that fork passes on
pub passed_address : (page : ℕ) → page < top_page → (is_page_address (page_va page) ≡ true) × (page_number (page_va page) ≡ page)
passed_address page lower =
    let number : page_number (page_va page) ≡ page = omega (arith, lower) in
    let begins : page_va page % PGSIZE ≡ 0 = omega arith in
    let same : page_va page ≡ page * PGSIZE = omega (arith, lower) in
    (grind (arith, nat_tests), number)

module _ (s : KernelState) (n id page perm : ℕ) (live : is_live (slot_at s n) ≡ true)
    (stands : place_of (slot_at s n) ≡ place.InService service.Fork (step.MapChild id page perm)) where
  abbrev at : ForkStage
  at = stage.MapChild id page perm

  abbrev args : List ℕ
  args = 0 ∷ page_va page ∷ id ∷ page_va page ∷ perm ∷ []

  abbrev asked : CallStep Called
  asked = system s n SYS_PAGE_MAP args

  -- where it goes on, by the word that came
  abbrev to : ℕ → Step
  to word = if not (word == 0) then step.Undoing id word else if is_cow perm then step.Remap id page else below id page

  goes_on : (word : ℕ) → next_of at word ≡ next.GoOn (to word)
  goes_on word = by_tests (not (word == 0)) (is_cow perm)
    where
      by_tests : (refused copied : Bool) →
          (if refused then next.GoOn (step.Undoing id word) else if copied then next.GoOn (step.Remap id page) else next.GoOn (below id page))
          ≡ next.GoOn (if refused then step.Undoing id word else if copied then step.Remap id page else below id page)
      by_tests true copied = refl
      by_tests false true = refl
      by_tests false false = refl

  module _ (names : Names) (a : AbstractState) (h : StandsFor names s a) (last : s.last ≡ Some n) where
    v : IsBearer names s a n (step.MapChild id page perm) id
    v = bearer h n (step.MapChild id page perm) id stands refl

    call_is : asked ≡ made_step s (inserted s.spaces (slot_at s (id % NENV)).directory page (passed_on h n id page perm v))
    call_is = let address = passed_address page (mapping h n id page perm v).below in maps_child h n id page perm v (page_va page) address.0 address.1

    abbrev StandsAfter : SpacesState → Step → Type 0
    StandsAfter sp next = StandsFor names (with_extra (with_spaces s sp) n (words_at SERVICE_FORK next)) a

    -- the page is mapped
    mapped_stands : (sp : SpacesState) → IsInOrder (with_spaces s sp) →
        inserted s.spaces (slot_at s (id % NENV)).directory page (passed_on h n id page perm v) ≡ Some sp → StandsAfter sp (to 0)
    mapped_stands sp order is = by_bits (is_kept h n id page perm v) refl
      where
        goes_to : (c : Bool) → is_cow perm ≡ c → StandsAfter sp (if c then step.Remap id page else below id page) → StandsAfter sp (to 0)
        goes_to c copied so = subst (λ (t : Bool). StandsAfter sp (if t then step.Remap id page else below id page)) (sym copied) so

        by_bits : (c : Bool) → is_kept h n id page perm v ≡ c → StandsAfter sp (to 0)
        by_bits true kept =
            goes_to false (kept_not_copied h n id page perm v kept)
            (below_stands h n id page perm v (child_given h n id page perm v sp order is) order last kept)
        by_bits false kept =
            goes_to true (others_copied h n id page perm v kept)
            (remap_stands h n id page perm v (child_given h n id page perm v sp order is) order last kept)

    abbrev Follows : Called → CallStep Called → Type 0
    Follows called step = Stays (with_extra step.state n (words_at SERVICE_FORK (to (answer_of called)))) a step.written

    -- what is answered is what the call gives
    answered : (called : Called) (word : ℕ) (state : KernelState) → asked.gives ≡ got called → asked ≡ giving state (Answered word) →
        Answered word ≡ called
    answered called word state gives is =
        let told : ◌≡◌ {A = Got Called} (got (Answered word)) (got called) = sym (ap (λ (z : CallStep Called). z.gives) is) ∙ gives in cc

    follows : (called : Called) → asked.gives ≡ got called → IsInOrder asked.state →
        NothingRefused s (with_extra asked.state n (words_at SERVICE_FORK (to (answer_of called)))) → Follows called asked
    follows called gives order quiet =
        by_spaces (inserted s.spaces (slot_at s (id % NENV)).directory page (passed_on h n id page perm v)) refl
      where
        by_spaces : (o : Option SpacesState) → inserted s.spaces (slot_at s (id % NENV)).directory page (passed_on h n id page perm v) ≡ o →
            Follows called asked
        by_spaces None is =
            let call : asked ≡ giving (with_refusal s) (Answered (negated E_NO_MEM)) = call_is ∙ ap (made_step s) is in
            let state = ap (λ (z : CallStep Called). z.state) call in
            let stays : (with_refusal s).refusals ≡ s.refusals = sym (ap (λ (t : KernelState). t.refusals) state) ∙ quiet.stays in
            absurd (refusal_is_seen s (record { stays = stays; could = quiet.could }))
        by_spaces (Some sp) is =
            let call : asked ≡ giving (with_spaces s sp) (Answered 0) = call_is ∙ ap (made_step s) is in
            subst (λ (z : CallStep Called). IsInOrder z.state → Follows called z) (sym call)
            (λ in_order. subst (λ (c : Called). Follows c (giving (with_spaces s sp) (Answered 0)))
            (answered called 0 (with_spaces s sp) gives call) (refl, (names, mapped_stands sp in_order is))) order

  keeps_by : (called : Called) → asked.gives ≡ got called → IsInOrder asked.state →
      let x = next_of at (answer_of called) in KeepsStanding (seen_as x) n s (settled SERVICE_FORK x asked.state n) asked.written
  keeps_by called gives order =
      subst (λ (x : Next). KeepsStanding (seen_as x) n s (settled SERVICE_FORK x asked.state n) asked.written) (sym (goes_on (answer_of called)))
      (λ a h turn quiet. follows h.0 a h.1 turn.last called gives order quiet)

  pub map_child_keeps : IsInOrder (performed s n (ask_of (stage.MapChild id page perm))).state →
      KeepsBy s n (forking (record { at = stage.MapChild id page perm })) (performed s n (ask_of (stage.MapChild id page perm)))
  unfolding performed
  map_child_keeps order =
      let gives = system_gives s n SYS_PAGE_MAP args in
      subst (λ (g : Got Called). let did = upshot_by (forking (record { at = stage.MapChild id page perm })) n asked g in
      KeepsStanding did.progress n s did.state did.written) (sym gives.1) (keeps_by gives.0 gives.1 order)

  pub map_child_fails : FailsBy s n (forking (record { at = stage.MapChild id page perm })) (performed s n (ask_of (stage.MapChild id page perm)))
  unfolding performed
  map_child_fails may a h turn = absurd (let contradiction : false ≡ true = may.0 in cc)
