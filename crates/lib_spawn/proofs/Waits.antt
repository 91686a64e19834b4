-- wait: what it tries tells whether the other lives, in both systems; while it does, the environment waits.
use Rattle.std.proofs.Common.{◌≡◌, ◌≢◌, ◌∙◌, ◌==◌, ◌%◌, ◌&&◌, ◌||◌, ◌⊎◌, inl, inr, ℕ, Bool, true, false, [], ◌∷◌, Option, Some, None}
use Rattle.std.proofs.Common.{refl, sym, ap, subst, arith, if◌then◌else◌}
use Rattle.std.specs.Prelude.{is_none}
use Rattle.std.proofs.lemmas.Bool.Decides.{nat_tests}
use Rattle.jos_base.specs.declared.called.Called.{Called}
use Rattle.jos_base.specs.declared.called.Called.TheVariants.{Answered}
use Rattle.jos_base.specs.declared.environment.Status.TheVariants.{Runnable}
use Rattle.jos_base.specs.declared.numbers.TheConstants.{SYS_IPC_TRY_SEND, E_BAD_ENV, E_INVAL, E_IPC_NOT_RECV, NENV}
use Rattle.jos_base.specs.declared.registers.Regs.{Regs}
use Rattle.jos_base.specs.Environments.{Slot, is_live, found}
use Rattle.jos_base.specs.KernelState.{KernelState, slot_at, with_extra, with_status}
use Rattle.jos_base.specs.Messages.{accepts}
use Rattle.jos_base.specs.Words.{negated}
use Rattle.lib_os.specs.declared.numbers.TheConstants.{SERVICE_WAIT, SHORT_QUANTUM}
use Rattle.lib_os.specs.declared.place.Place.TheVariants as place
use Rattle.lib_os.specs.declared.place.Step.TheVariants as step
use Rattle.lib_os.specs.declared.progress.Progress.TheVariants as progress
use Rattle.lib_os.specs.declared.service.Service.TheVariants as service
use Rattle.lib_os.specs.AbstractRun.{abs_step, may_wait, phase_may_wait, slot_may_wait}
use Rattle.lib_os.specs.AbstractState.{AbstractState, Born, AbstractSlot, Phase, born, entered}
use Rattle.lib_os.specs.Answers as abstract_system
use Rattle.lib_os.specs.LibraryCall.{library_step}
use Rattle.lib_os.specs.LibrarySteps.{AbstractFollows, KeepsStanding}
use Rattle.lib_os.specs.MemoryServices.{lives}
use Rattle.lib_os.specs.Places.{place_of, words_at, is_handlers}
use Rattle.lib_os.specs.Services.{service_of}
use Rattle.lib_os.specs.Rows.{Names}
use Rattle.lib_os.specs.InService.{IsIn}
use Rattle.lib_os.specs.StandsFor.{StandsFor, IsWaiting, borne_in}
use Rattle.lib_os.specs.UserCalls.{CallStep, Got, got, giving, system}
use Rattle.lib_os.proofs.Answering.{back_stands}
use Rattle.lib_os.proofs.GoingOn.{in_with_words, words_stand}
use Rattle.jos_base.proofs.Maps.{upd-at}
use Rattle.lib_os.proofs.Numbered.{named_at}
use Rattle.lib_os.proofs.PipesStand.{is_calm}
use Rattle.lib_os.proofs.Sends.{found_some, found_none, nobody_named, never_taken}
use Rattle.lib_os.proofs.Serving.{IsServed, holds_page, printed_nothing, served, step_in}
use Rattle.lib_os.proofs.SlotsStand.{born_at}
use Rattle.lib_os.proofs.StatesStand.{status_stands}
use Rattle.lib_os.proofs.Trying.{IsAnswered, try_send_answered, there_stands}
use Rattle.lib_stage.specs.declared.ask.Next.TheVariants as next
use Rattle.lib_stage.specs.Nexts.{seen_as, settled}
use Rattle.lib_spawn.specs.declared.services.WaitStage.TheVariants as stage
use Rattle.lib_spawn.specs.WaitStages.{next_of}

-- ---- the abstract step

refused_step : (a : AbstractState) (n : ℕ) (b : Born) (regs : Regs) (id : ℕ) → (id ≡ 0) ⊎ (id ≡ b.id) →
    library_step a n b regs (service.Wait id) entered ≡ Some (abstract_system.refused a n b regs E_INVAL)
unfolding library_step
refused_step a n b regs id (inl none) = let test : (id == 0) ≡ true = grind (arith, nat_tests) in rw test refl
refused_step a n b regs id (inr own) = by_test (id == 0)
  where
    by_test : (t : Bool) → (if t || (id == b.id) then Some (abstract_system.refused a n b regs E_INVAL)
        else if lives a id then None else Some (abstract_system.answered a n b regs 0)) ≡ Some (abstract_system.refused a n b regs E_INVAL)
    by_test true = refl
    by_test false = let test : (id == b.id) ≡ true = grind (arith, nat_tests) in rw test refl

over_step : (a : AbstractState) (n : ℕ) (b : Born) (regs : Regs) (id : ℕ) → id ≢ 0 → id ≢ b.id → lives a id ≡ false →
    library_step a n b regs (service.Wait id) entered ≡ Some (abstract_system.answered a n b regs 0)
unfolding library_step
over_step a n b regs id some other gone =
    let first : (id == 0) ≡ false = grind (arith, nat_tests) in
    let second : (id == b.id) ≡ false = grind (arith, nat_tests) in
    rw (first, second, gone) refl

no_step_yet : (a : AbstractState) (n : ℕ) (b : Born) (regs : Regs) (id : ℕ) → id ≢ 0 → id ≢ b.id → lives a id ≡ true →
    library_step a n b regs (service.Wait id) entered ≡ None
unfolding library_step
no_step_yet a n b regs id some other there =
    let first : (id == 0) ≡ false = grind (arith, nat_tests) in
    let second : (id == b.id) ≡ false = grind (arith, nat_tests) in
    rw (first, second, there) refl

waits_step : (a : AbstractState) (n : ℕ) (b : Born) (k : Slot) (id quantum : ℕ) → a.slots n ≡ born b →
    IsWaiting k b id → lives a id ≡ true → may_wait a n quantum ≡ true
unfolding may_wait
waits_step a n b k id quantum is at there =
    let none : abs_step a n ≡ None =
    step_in a n b k (service.Wait id) entered is at.is_in ∙ no_step_yet a n b k.registers id at.some at.other there in
    ap (λ (x : AbstractSlot). slot_may_wait a n x quantum) is
    ∙ ap (λ (x : Phase). phase_may_wait a n b x quantum) at.is_in.phase
    ∙ (λ i. there i && is_none (none i))

-- ---- the first step

module _ (s : KernelState) (n id : ℕ) (stands : place_of (slot_at s n) ≡ place.InService (service.Wait id) step.Entered) where
  abbrev own : ℕ
  own = (slot_at s n).id

  pub entered_keeps : let x = next_of id stage.Entered own in KeepsStanding (seen_as x) n s (settled SERVICE_WAIT x s n) []
  entered_keeps = by_tests (id == 0) (id == own) refl refl
    where
      refused : (id ≡ 0) ⊎ (id ≡ own) → let x = next.Answer (negated E_INVAL) in KeepsStanding (seen_as x) n s (settled SERVICE_WAIT x s n) []
      refused why a h turn quiet =
          let v = served h.1 n (service.Wait id) step.Entered stands in
          let here : IsIn (slot_at s n) v.b (service.Wait id) entered = v.at in
          let regs = (slot_at s n).registers in (
            abstract_system.refused a n v.b regs E_INVAL,
            step_in a n v.b (slot_at s n) (service.Wait id) entered v.is here ∙ refused_step a n v.b regs id (by_own v.b v.own.id why),
            printed_nothing a,
            (h.0, back_stands h.1 n v.b v.is (record regs { eax = negated E_INVAL }) (ap borne_in v.place) (ap holds_page v.place) (ap is_calm v.place) here.silent here.awake v.outside refl refl),
          )
        where
          by_own : (b : Born) → own ≡ b.id → (id ≡ 0) ⊎ (id ≡ own) → (id ≡ 0) ⊎ (id ≡ b.id)
          by_own b e (inl none) = inl none
          by_own b e (inr o) = inr (o ∙ e)

      goes_on : id ≢ 0 → id ≢ own → let x = next.GoOn (step.Trying 0) in KeepsStanding (seen_as x) n s (settled SERVICE_WAIT x s n) []
      goes_on some other a h turn quiet =
          let v = served h.1 n (service.Wait id) step.Entered stands in
          let here : IsIn (slot_at s n) v.b (service.Wait id) entered = v.at in (
            refl,
            (
              h.0,
              words_stand h.1 n SERVICE_WAIT v.b v.is v.own v.outside (ap borne_in v.place) (ap is_calm v.place) (service.Wait id) (step.Trying 0) (ap holds_page v.place) refl refl (named_at (slot_at s n) (service.Wait id) step.Entered stands)
                  (record { is_in = in_with_words (words_at SERVICE_WAIT (step.Trying 0)) here; some = some; other = λ e. other (e ∙ sym v.own.id) }),
            ),
          )

      by_tests : (t u : Bool) → (id == 0) ≡ t → (id == own) ≡ u →
          let x = if t || u then next.Answer (negated E_INVAL) else next.GoOn (step.Trying 0) in KeepsStanding (seen_as x) n s (settled SERVICE_WAIT x s n) []
      by_tests true u none mine = refused (inl (grind (arith, nat_tests)))
      by_tests false true some mine = refused (inr (grind (arith, nat_tests)))
      by_tests false false some other = goes_on (grind (arith, nat_tests)) (grind (arith, nat_tests))

-- ---- what it tries

abbrev pub wait_call : KernelState → ℕ → ℕ → CallStep Called
wait_call s n id = system s n SYS_IPC_TRY_SEND (id ∷ 0 ∷ 1 ∷ 0 ∷ 0 ∷ [])

-- what was tried tells whether the other lives
data Tried (s mid : KernelState) (n id word : ℕ) (a : AbstractState) : Type 0 where
  over : word ≡ negated E_BAD_ENV → mid ≡ s → lives a id ≡ false → Tried s mid n id word a
  lives_on : word ≢ negated E_BAD_ENV → mid ≡ s → lives a id ≡ true → Tried s mid n id word a

other_answer : (t : Bool) (word : ℕ) → word ≡ (if t then negated E_INVAL else negated E_IPC_NOT_RECV) → word ≢ negated E_BAD_ENV
other_answer true word is bad = omega arith
other_answer false word is bad = omega arith

abbrev word_of : Called → ℕ
word_of (Answered word) = word
word_of _ = 0

abbrev word_got : Got Called → ℕ
word_got (got called) = word_of called
word_got _ = 0

module _ (s : KernelState) (n id perm : ℕ) (stands : place_of (slot_at s n) ≡ place.InService (service.Wait id) (step.Trying perm))
    (live : is_live (slot_at s n) ≡ true) where
  pub tried_is : IsAnswered (wait_call s n id) n (slot_at s n).registers
  tried_is = try_send_answered s n id 0 1 0 (0 ∷ []) live

  abbrev mid : KernelState
  mid = (wait_call s n id).state

  abbrev word : ℕ
  word = tried_is.answer

  tried : {names : Names} {a : AbstractState} → StandsFor names s a → (b : Born) → IsWaiting (slot_at s n) b id → Tried s mid n id word a
  tried {a = a} h b at = by_found (found s.environments id n false) refl
    where
      told : (w : ℕ) → wait_call s n id ≡ giving s (Answered w) → (word ≡ w) × (mid ≡ s)
      told w is = (
        ap (λ (g : Got Called). word_got g) (sym tried_is.gives ∙ ap (λ (z : CallStep Called). z.gives) is),
        ap (λ (z : CallStep Called). z.state) is,
      )

      by_found : (f : Option ℕ) → found s.environments id n false ≡ f → Tried s mid n id word a
      by_found None none =
          let came = told (negated E_BAD_ENV) (nobody_named s n id 0 1 0 (0 ∷ []) live at.is_in.silent none) in
          over (came.0) (came.1) (sym (there_stands h id) ∙ found_none s.environments id n at.some none)
      by_found (Some target) named =
          let answer = if accepts (slot_at s target).rendezvous (slot_at s n).id then negated E_INVAL else negated E_IPC_NOT_RECV in
          let came = told answer (never_taken s n id 0 1 0 (0 ∷ []) live at.is_in.silent target named refl refl) in
          let there = found_some s.environments id n at.some target named in
          let test : ((slot_at s (id % NENV)).id == id) ≡ true = let e = there.2 in grind (arith, nat_tests) in
          lives_on (other_answer (accepts (slot_at s target).rendezvous (slot_at s n).id) word (came.0)) (came.1)
          (sym (there_stands h id) ∙ rw (there.1, test) refl)

  pub trying_keeps : let x = next_of id (stage.Trying perm) word in KeepsStanding (seen_as x) n s (settled SERVICE_WAIT x mid n) []
  trying_keeps a h turn quiet = by_test (word == negated E_BAD_ENV) refl (tried h.1 v.b v.at)
    where
      v : IsServed h.0 s a n (service.Wait id) (step.Trying perm)
      v = served h.1 n (service.Wait id) (step.Trying perm) stands

      at : IsWaiting (slot_at s n) v.b id
      at = v.at

      by_test : (t : Bool) → (word == negated E_BAD_ENV) ≡ t → Tried s mid n id word a →
          let x = if t then next.Answer 0 else next.Wait (step.Pausing perm) in AbstractFollows (seen_as x) n (settled SERVICE_WAIT x mid n) a []
      by_test true is (lives_on other as_before there) = absurd (other (grind (arith, nat_tests)))
      by_test false is (over bad as_before gone) = absurd (let no_bad : word ≢ negated E_BAD_ENV = grind (arith, nat_tests) in no_bad bad)
      by_test true is (over bad as_before gone) =
          let regs = (slot_at s n).registers in
          subst (λ (t : KernelState). AbstractFollows progress.Finished n (settled SERVICE_WAIT (next.Answer 0) t n) a []) (sym as_before) (
            abstract_system.answered a n v.b regs 0,
            step_in a n v.b (slot_at s n) (service.Wait id) entered v.is at.is_in ∙ over_step a n v.b regs id at.some at.other gone,
            printed_nothing a,
            (h.0, back_stands h.1 n v.b v.is (record regs { eax = 0 }) (ap borne_in v.place) (ap holds_page v.place) (ap is_calm v.place) at.is_in.silent at.is_in.awake v.outside refl refl),
          )
      by_test false is (lives_on other as_before there) =
          let words = words_at SERVICE_WAIT (step.Pausing perm) in
          subst (λ (t : KernelState). AbstractFollows progress.Waited n (settled SERVICE_WAIT (next.Wait (step.Pausing perm)) t n) a []) (sym as_before) (
            (
              refl,
              (
                h.0,
                words_stand h.1 n SERVICE_WAIT v.b v.is v.own v.outside (ap borne_in v.place) (ap is_calm v.place) (service.Wait id) (step.Pausing perm) (ap holds_page v.place) refl refl
                    (named_at (slot_at s n) (service.Wait id) (step.Trying perm) stands)
                    (record { is_in = in_with_words words at.is_in; some = at.some; other = at.other }),
              ),
            ),
            waits_step a n v.b (slot_at s n) id SHORT_QUANTUM v.is at there,
          )

-- ---- it gives up its turn

module _ (s : KernelState) (n id perm : ℕ) (stands : place_of (slot_at s n) ≡ place.InService (service.Wait id) (step.Pausing perm)) where
  pub pausing_keeps : KeepsStanding progress.Hidden n s (with_extra (with_status s n Runnable) n (words_at SERVICE_WAIT (step.Trying perm))) []
  pausing_keeps a h turn quiet =
      let v = served h.1 n (service.Wait id) (step.Pausing perm) stands in
      let at : IsWaiting (slot_at s n) v.b id = v.at in
      let ran = status_stands h.1 n v.b v.is at.is_in.awake in
      let w = words_at SERVICE_WAIT (step.Trying perm) in
      let slot_is : slot_at (with_status s n Runnable) n ≡ record (slot_at s n) { status = Runnable } =
      upd-at s.environments.slots n (record (slot_at s n) { status = Runnable }) in
      let k : Slot = record (slot_at s n) { status = Runnable } in
      let in_it : IsIn k v.b (service.Wait id) entered =
      record { program = at.is_in.program; phase = at.is_in.phase; silent = at.is_in.silent; awake = at.is_in.awake } in (
        refl,
        (
          h.0,
          words_stand ran n SERVICE_WAIT v.b v.is (born_at ran n v.b v.is)
              (ap (λ (x : Slot). is_handlers x.registers.esp) slot_is ∙ v.outside)
              (ap (λ (x : Slot). borne_in (place_of x)) slot_is ∙ ap borne_in v.place)
              (ap (λ (x : Slot). is_calm (place_of x)) slot_is ∙ ap is_calm v.place) (service.Wait id) (step.Trying perm)
              (ap (λ (x : Slot). holds_page (place_of x)) slot_is ∙ ap holds_page v.place) refl refl
              (subst (λ (x : Slot). service_of (record x.registers { eax = SERVICE_WAIT }) ≡ service.Wait id) (sym slot_is)
              (named_at (slot_at s n) (service.Wait id) (step.Pausing perm) stands))
              (subst (λ (x : Slot). IsWaiting (record x { extra = w }) v.b id) (sym slot_is)
              (record { is_in = in_with_words w in_it; some = at.some; other = at.other })),
        ),
      )
