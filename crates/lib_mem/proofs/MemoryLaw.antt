-- The law of the services of this crate: each is one step of the abstract system, and one call of the kernel.
use Rattle.std.proofs.Common.{◌≡◌, ◌≤◌, ◌||◌, ℕ, Bool, true, false, not, List, [], ◌∷◌, Option, Some, None, Result, Ok, Err, refl, sym, ap, subst, arith}
use Rattle.std.specs.Prelude.{nat_lt}
use Rattle.std.proofs.lemmas.Bool.Decides.{nat_tests}
use Rattle.jos_base.specs.declared.called.Called.{Called}
use Rattle.jos_base.specs.declared.called.Called.TheVariants.{Answered, Ended, Blocked}
use Rattle.jos_base.specs.declared.environment.Status.TheVariants.{Runnable}
use Rattle.jos_base.specs.declared.memory.PageFault.{PageFault}
use Rattle.jos_base.specs.declared.numbers.TheConstants.{CPUTS_MAX, E_NO_MEM, SYS_GETENVID, SYS_YIELD}
use Rattle.jos_base.specs.Environments.{Slot, is_live, no_extra}
use Rattle.jos_base.specs.KernelState.{KernelState, slot_at, with_refusal, with_spaces, with_status}
use Rattle.jos_base.specs.SpacesState.{SpacesState}
use Rattle.jos_base.specs.SystemCalls.{user_bytes, with_bytes_reached, without_environment}
use Rattle.jos_base.specs.Words.{negated}
use Rattle.lib_os.specs.declared.place.Place.TheVariants as place
use Rattle.lib_os.specs.declared.place.Step.{Step}
use Rattle.lib_os.specs.declared.progress.Progress.TheVariants as progress
use Rattle.lib_os.specs.AbstractState.{AbstractState}
use Rattle.lib_os.specs.Fence.{is_buffer, is_page_inside}
use Rattle.lib_os.specs.InOrder.{IsInOrder}
use Rattle.lib_os.specs.LibrarySteps.{KeepsServer, LeavesRest, KeepsUses, frames_at, is_pausing, is_yield, service_answered}
use Rattle.lib_os.specs.Places.{place_of}
use Rattle.lib_os.specs.Rows.{Names}
use Rattle.lib_os.specs.StandsFor.{StandsFor}
use Rattle.lib_os.specs.UserCalls.{CallStep, Got, got, to_handler, system}
use Rattle.lib_os.proofs.Calls.{cputs_writes, cputs_ends, getenvid_is, yield_is}
use Rattle.lib_os.proofs.GoingOn.{gives_nothing_up}
use Rattle.lib_os.proofs.Leaving.{system_left}
use Rattle.lib_os.proofs.Numbered.{number_of}
use Rattle.lib_os.proofs.NumbersKept.{copies_kept, numbers_kept, places_kept, working_kept}
use Rattle.lib_os.proofs.OthersCopies.{IsBeside, same_wait}
use Rattle.lib_os.proofs.OthersKept.{OthersStay, own_stay, same_stay}
use Rattle.lib_os.proofs.ServerLeft.{own_server, system_server}
use Rattle.lib_os.proofs.Slots.{slot_put}
use Rattle.lib_os.proofs.UsesCalled.{system_found}
use Rattle.lib_stage.specs.declared.ask.Ask.{Ask}
use Rattle.lib_stage.specs.declared.ask.Ask.TheVariants as ask
use Rattle.lib_stage.specs.Asks.{frames_of, performed}
use Rattle.lib_stage.specs.Nexts.{is_gone}
use Rattle.lib_stage.specs.ServiceSteps.{Plan, PlanHolds, ServiceHolds}
use Rattle.lib_stage.proofs.FramesTaken.{takes_none}
use Rattle.lib_stage.proofs.Laws.{Falls, IsAt, GoesOn, KeepsBy, FailsBy, NeverFaults, is_plain, law_of, plainly}
use Rattle.lib_mem.specs.declared.services.MemoryService.{MemoryService}
use Rattle.lib_mem.specs.declared.services.MemoryService.TheVariants as memory
use Rattle.lib_mem.specs.MemoryPlans.{service_number, is_refused, perm_of_flags, ask_of, passed_on, plan_by, memory_plan}
use Rattle.lib_mem.proofs.Asking.{getid_leads, yield_leads}
use Rattle.lib_mem.proofs.Dropping as dropping
use Rattle.lib_mem.proofs.Making as making
use Rattle.lib_mem.proofs.Passing.{Leads, ending, service_in, telling}
use Rattle.lib_mem.proofs.Printing.{line, bytes_leads, fault_leads}
use Rattle.lib_mem.proofs.Refusing.{refused_leads}

-- ---- the tests

either_off : (t u : Bool) → (t || not u) ≡ false → (t ≡ false) × (u ≡ true)
either_off false true off = (refl, refl)
either_off false false off = absurd (let contradiction : true ≡ false = off in cc)
either_off true u off = absurd (let contradiction : true ≡ false = off in cc)

negated_off : (t : Bool) → not t ≡ false → t ≡ true
negated_off true off = refl
negated_off false off = absurd (let contradiction : true ≡ false = off in cc)

module _ (s : KernelState) (n : ℕ) (step : Step) (live : is_live (slot_at s n) ≡ true) where
  abbrev IsThere : MemoryService → Type 0
  IsThere m = place_of (slot_at s n) ≡ place.InService (service_in m) step

  abbrev none : List ℕ
  none = 0 ∷ 0 ∷ 0 ∷ 0 ∷ 0 ∷ []

  numbered : (m : MemoryService) → service_number m ≡ number_of (service_in m)
  numbered (memory.Cputs va len) = refl
  numbered memory.GetId = refl
  numbered memory.Yield = refl
  numbered (memory.PageNew va flags) = refl
  numbered (memory.PageDrop va) = refl
  numbered memory.Unknown = refl

  no_pause : (m : MemoryService) → is_pausing (place.InService (service_in m) step) ≡ false
  no_pause (memory.Cputs va len) = refl
  no_pause memory.GetId = refl
  no_pause memory.Yield = refl
  no_pause (memory.PageNew va flags) = refl
  no_pause (memory.PageDrop va) = refl
  no_pause memory.Unknown = refl

  falls : (m : MemoryService) (called : Called) → Falls (service_in m) step (passed_on called)
  falls m (Answered word) = tt
  falls m Ended = tt
  falls m Blocked = tt

  -- ---- by what the call comes to

  got_no_handler : (called : Called) → ◌≡◌ {A = Got Called} (got called) to_handler → ⊥
  got_no_handler called is = cc

  by_call : (m : MemoryService) (plan : Plan) → IsAt s n plan (service_in m) step → (z : CallStep Called) → performed s n plan.asks ≡ z → GoesOn s n plan z →
      NeverFaults s n z → (IsInOrder z.state → KeepsBy s n plan z) → FailsBy s n plan z → ServiceHolds s n plan
  by_call m plan at z is goes never keeps fails =
      law_of s n plan (service_in m) step at (subst (λ (x : CallStep Called). GoesOn s n plan x) (sym is) goes)
      (subst (λ (x : CallStep Called). NeverFaults s n x) (sym is) never)
      (subst (λ (x : CallStep Called). IsInOrder x.state → KeepsBy s n plan x) (sym is) keeps)
      (subst (λ (x : CallStep Called). FailsBy s n plan x) (sym is) fails)

  abbrev passing : MemoryService → Ask → Plan
  passing m asks = record { number = service_number m; asks = asks; next = passed_on }

  -- it takes no more frames than it may
  abbrev Few : MemoryService → Ask → Type 0
  Few m asks = frames_of asks ≤ frames_at (place.InService (service_in m) step)

  passes_at : (m : MemoryService) (asks : Ask) → IsThere m → is_plain asks ≡ true → Few m asks → IsAt s n (passing m asks) (service_in m) step
  passes_at m asks there plain few =
      record { stands = there; live = live; numbered = numbered m; plain = plainly plain; goes_on = no_pause m; falls = falls m; few = few }

  -- a call that answers
  told_holds : (m : MemoryService) (asks : Ask) → IsThere m → is_plain asks ≡ true → Few m asks →
      (state : KernelState) (word : ℕ) (written : List ℕ) → performed s n asks ≡ telling state word written →
      is_live (slot_at state n) ≡ true → (slot_at state n).registers ≡ (slot_at s n).registers →
      ((names : Names) (a : AbstractState) → StandsFor names s a → Leads s n written state (service_answered state n word) a) → ServiceHolds s n (passing m asks)
  told_holds m asks there plain few state word written is lives kept leads =
      by_call m (passing m asks) (passes_at m asks there plain few) (telling state word written) is
      (record { live = λ called given stays. lives; registers = λ called given stays. kept })
      (λ a h turn is. got_no_handler (Answered word) is)
      (λ order a h turn quiet. let l = leads h.0 a h.1 in (l.0, l.1, l.2, l.3 order turn.last quiet))
      (λ may a h turn. let l = leads h.0 a h.1 in (l.0, l.1, l.2))

  -- one that ends the environment
  ended : (called : Called) → got Ended ≡ got called → is_gone (passed_on called) ≡ false → ⊥
  ended (Answered word) is stays = let contradiction : got Ended ≡ got (Answered word) = is in absurd cc
  ended Ended is stays = let contradiction : true ≡ false = stays in absurd cc
  ended Blocked is stays = let contradiction : true ≡ false = stays in absurd cc

  over_holds : (m : MemoryService) (asks : Ask) → IsThere m → is_plain asks ≡ true → Few m asks → (state : KernelState) (written : List ℕ) →
      performed s n asks ≡ ending state written →
      ((names : Names) (a : AbstractState) → StandsFor names s a → Leads s n written state state a) → ServiceHolds s n (passing m asks)
  over_holds m asks there plain few state written is leads =
      by_call m (passing m asks) (passes_at m asks there plain few) (ending state written) is
      (record { live = λ called given stays. absurd (ended called given stays); registers = λ called given stays. absurd (ended called given stays) })
      (λ a h turn is. got_no_handler Ended is)
      (λ order a h turn quiet. let l = leads h.0 a h.1 in (l.0, l.1, l.2, l.3 order turn.last quiet))
      (λ may a h turn. let l = leads h.0 a h.1 in (l.0, l.1, l.2))

  -- ---- each

  refused_holds : (m : MemoryService) → IsThere m → is_refused m ≡ true → ServiceHolds s n (plan_by true m)
  unfolding performed
  refused_holds m there is =
      let leads = refused_leads s n m step there is in
      by_call m (plan_by true m)
      (record { stands = there; live = live; numbered = numbered m; plain = plainly refl; goes_on = no_pause m; falls = λ called. tt; few = omega arith })
      (telling s (slot_at s n).id []) (getenvid_is s n live none)
      (record { live = λ called given stays. live; registers = λ called given stays. refl })
      (λ a h turn is. got_no_handler (Answered (slot_at s n).id) is)
      (λ order a h turn quiet. let l = leads h.0 a h.1 in (l.0, l.1, l.2, l.3 order turn.last quiet))
      (λ may a h turn. let l = leads h.0 a h.1 in (l.0, l.1, l.2))

  yield_holds : IsThere memory.Yield → ServiceHolds s n (passing memory.Yield (ask.System SYS_YIELD none))
  unfolding performed
  yield_holds there =
      let ran = with_status s n Runnable in
      let put : slot_at ran n ≡ record (slot_at s n) { status = Runnable } = slot_put s n (record (slot_at s n) { status = Runnable }) in
      let is : system s n SYS_YIELD none ≡ telling ran 0 [] = yield_is s n live none in
      let rest : LeavesRest s ran = subst (λ (z : CallStep Called). LeavesRest s z.state) is (system_left s n SYS_YIELD none).rest in
      let used : KeepsUses n s ran = subst (λ (z : CallStep Called). KeepsUses n s z.state) is (λ order is_there each. system_found s n SYS_YIELD none order is_there each) in
      let others : OthersStay s n (service_answered ran n 0) =
      own_stay s n ran (own_stay s n s (same_stay s n) (record (slot_at s n) { status = Runnable }))
      (record (slot_at ran n) { registers = record (slot_at ran n).registers { eax = 0 }; extra = no_extra }) in
      subst (λ (z : CallStep Called). PlanHolds s n (passing memory.Yield (ask.System SYS_YIELD none)) z) (sym is) (record {
        lives = λ called given stays. ap (λ (k : Slot). is_live k) put;
        keeps = λ order a h turn quiet. let l = yield_leads s n step there h.0 a h.1 in (l.0, l.1, l.2, l.3 order turn.last quiet);
        fails = λ may a h turn. absurd (let contradiction : false ≡ true = may.0 in cc);
        leaves = record {
          rest = record { last = rest.last; turns = rest.turns; frames = rest.frames; refused = rest.refused; told = rest.told };
          turn = λ a stands_for running silent runs. ap is_yield there;
          uses = used;
          places = places_kept s (service_answered ran n 0) n (λ before then_so lives b stood. others);
          numbers = numbers_kept s (service_answered ran n 0) n (λ before then_so lives b stood. others)
              (copies_kept s (service_answered ran n 0) n (same_wait (IsBeside s n) s.spaces));
          working = working_kept s (service_answered ran n 0) n (λ before then_so lives b stood. others)
              (copies_kept s (service_answered ran n 0) n (same_wait (IsBeside s n) s.spaces));
          server = own_server s n ran (record (slot_at ran n) { registers = record (slot_at ran n).registers { eax = 0 }; extra = no_extra }) refl refl
              (subst (λ (z : CallStep Called). KeepsServer n s z.state) is (system_server s n SYS_YIELD none refl (λ a h. refl)));
        };
        lowers = tt;
        gives_up = gives_nothing_up (Ok progress.Finished) (slot_at s n) (slot_at (service_answered ran n 0) n) (ap is_pausing there);
        takes = takes_none s n (passing memory.Yield (ask.System SYS_YIELD none)) (telling ran 0 []) refl;
      })

  module _ (va len : ℕ) (there : IsThere (memory.Cputs va len)) (few : len ≤ CPUTS_MAX) (buffer : is_buffer va len ≡ true) where
    abbrev rest : List ℕ
    rest = 0 ∷ 0 ∷ 0 ∷ []

    cputs_holds : ServiceHolds s n (plan_by false (memory.Cputs va len))
    unfolding performed
    cputs_holds = by_read (user_bytes s n va len) refl
      where
        by_read : (r : Result (List ℕ) PageFault) → user_bytes s n va len ≡ r → ServiceHolds s n (plan_by false (memory.Cputs va len))
        by_read (Ok bytes) is =
            told_holds (memory.Cputs va len) (ask_of (memory.Cputs va len)) there refl (omega arith) (with_bytes_reached s n va len) 0 bytes
            (cputs_writes s n live va len rest few bytes is) live refl (bytes_leads s n va len step rest live there few buffer bytes is)
        by_read (Err fault) is =
            over_holds (memory.Cputs va len) (ask_of (memory.Cputs va len)) there refl (omega arith) (without_environment s n)
            (line s n va len step rest live there few buffer fault is)
            (cputs_ends s n live va len rest few fault is) (fault_leads s n va len step rest live there few buffer fault is)

  module _ (va flags : ℕ) (there : IsThere (memory.PageNew va flags)) (few : flags ≤ 3) (inside : is_page_inside va ≡ true) where
    abbrev tail : List ℕ
    tail = 0 ∷ 0 ∷ []

    abbrev found : Option (ℕ × SpacesState)
    found = making.found s n va flags (perm_of_flags flags) step tail live there few inside refl

    page_new_holds : ServiceHolds s n (plan_by false (memory.PageNew va flags))
    unfolding performed
    page_new_holds = by_found found refl
      where
        by_found : (o : Option (ℕ × SpacesState)) → found ≡ o → ServiceHolds s n (plan_by false (memory.PageNew va flags))
        by_found None is =
            told_holds (memory.PageNew va flags) (ask_of (memory.PageNew va flags)) there refl (omega arith) (with_refusal s) (negated E_NO_MEM) []
            (making.none_is s n va flags (perm_of_flags flags) step tail live there few inside refl is) live refl
            (making.none_leads s n va flags (perm_of_flags flags) step tail live there few inside refl is)
        by_found (Some pair) is =
            told_holds (memory.PageNew va flags) (ask_of (memory.PageNew va flags)) there refl (omega arith) (with_spaces s pair.1) 0 []
            (making.some_is s n va flags (perm_of_flags flags) step tail live there few inside refl pair.0 pair.1 is) live refl
            (making.some_leads s n va flags (perm_of_flags flags) step tail live there few inside refl pair.0 pair.1 is)

  passed_holds : (m : MemoryService) → IsThere m → is_refused m ≡ false → ServiceHolds s n (plan_by false m)
  unfolding performed
  passed_holds (memory.Cputs va len) there off =
      let tests = either_off (nat_lt CPUTS_MAX len) (is_buffer va len) off in
      let e = tests.0 in cputs_holds va len there (grind (arith, nat_tests)) (tests.1)
  passed_holds memory.GetId there off =
      told_holds memory.GetId (ask.System SYS_GETENVID none) there refl (omega arith) s (slot_at s n).id [] (getenvid_is s n live none) live refl
      (getid_leads s n step there)
  passed_holds memory.Yield there off = yield_holds there
  passed_holds (memory.PageNew va flags) there off =
      let tests = either_off (nat_lt 3 flags) (is_page_inside va) off in
      let e = tests.0 in page_new_holds va flags there (grind (arith, nat_tests)) (tests.1)
  passed_holds (memory.PageDrop va) there off =
      let inside = negated_off (is_page_inside va) off in
      let rest = 0 ∷ 0 ∷ 0 ∷ [] in
      told_holds (memory.PageDrop va) (ask_of (memory.PageDrop va)) there refl (omega arith)
      (with_spaces s (dropping.spaces s n va step rest live there inside)) 0 []
      (dropping.asked_is s n va step rest live there inside) live refl (dropping.drop_leads s n va step rest live there inside)
  passed_holds memory.Unknown there off = absurd (let contradiction : true ≡ false = off in cc)

  pub memory_holds : (m : MemoryService) → IsThere m → ServiceHolds s n (memory_plan m)
  memory_holds m there = by_test (is_refused m) refl
    where
      by_test : (t : Bool) → is_refused m ≡ t → ServiceHolds s n (plan_by t m)
      by_test true is = refused_holds m there is
      by_test false off = passed_holds m there off
