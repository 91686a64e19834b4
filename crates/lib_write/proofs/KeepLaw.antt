-- The law of write as it puts into its page the bytes that it has loaded, of which nothing is seen.
use Rattle.std.proofs.Common.{◌≡◌, ◌∙◌, ◌+◌, ◌-◌, ◌/◌, ◌%◌, ◌^◌, ◌==◌, ◌<◌, ◌≤◌, ℕ, Bool, true, false, refl, sym, ap, subst, arith}
use Rattle.std.proofs.Common.{if◌then◌else◌}
use Rattle.std.specs.Prelude.{nat_le}
use Rattle.std.proofs.lemmas.Bool.Decides.{nat_tests}
use Rattle.jos_base.specs.declared.called.Called.{Called}
use Rattle.jos_base.specs.declared.called.Called.TheVariants.{Answered}
use Rattle.jos_base.specs.declared.numbers.TheConstants.{PGSIZE, UTEMP}
use Rattle.jos_base.specs.Environments.{Slot, is_live}
use Rattle.jos_base.specs.KernelState.{KernelState, slot_at, with_spaces}
use Rattle.lib_os.specs.declared.numbers.TheConstants.{SERVICE_WRITE}
use Rattle.lib_os.specs.declared.place.PipeStep.TheVariants as pipe
use Rattle.lib_os.specs.declared.place.Place.TheVariants as place
use Rattle.lib_os.specs.declared.place.Step.TheVariants as step
use Rattle.lib_os.specs.declared.service.Service.{Service}
use Rattle.lib_os.specs.declared.service.Service.TheVariants as service
use Rattle.lib_os.specs.AbstractState.{AbstractState}
use Rattle.lib_os.specs.InOrder.{IsInOrder}
use Rattle.lib_os.specs.Places.{place_of}
use Rattle.lib_os.specs.Rows.{Names}
use Rattle.lib_os.specs.StandsFor.{StandsFor}
use Rattle.lib_os.specs.StandsInHandler.{wanted_from}
use Rattle.lib_os.specs.UserCalls.{CallStep, Got, giving, gone, got, store, store_byte, to_handler}
use Rattle.lib_os.proofs.BytesKept.{IsKept, keeping, keeping_slots, keeps_bytes, kept_at_once, place_in, step_behind, step_behind_keeping}
use Rattle.lib_os.proofs.BytesKept.{step_with_all}
use Rattle.lib_stage.specs.declared.ask.Ask.{Ask}
use Rattle.lib_stage.specs.declared.ask.Ask.TheVariants as ask
use Rattle.lib_stage.specs.declared.ask.Next.{Next}
use Rattle.lib_stage.specs.declared.ask.Next.TheVariants as next
use Rattle.lib_stage.specs.Asks.{MayFail, frames_of, performed}
use Rattle.lib_stage.specs.ServiceSteps.{Plan, ServiceHolds}
use Rattle.lib_stage.proofs.Laws.{FailsBy, Falls, FollowsBy, GoesOn, IsAt, KeepsBy, NeverFaults, law_of, plainly}
use Rattle.lib_file.specs.Keeping.{keeping_asked}
use Rattle.lib_file.proofs.Moves.{got_done, keeping_plain, some_kept, told_done}
use Rattle.lib_write.specs.declared.write.WriteStage.TheVariants as stage
use Rattle.lib_write.specs.WriteStages.{next_behind, next_of_keeping, next_with_all, writing}

-- ---- where it goes on

all_is : (start : ℕ) → next_with_all start ≡ next.GoOn (step_with_all start)
all_is start = by_tests (start == 0) (start == PGSIZE)
  where
    by_tests : (printed piped : Bool) →
        (if printed then next.GoOn step.Printing
        else if piped then next.GoOn (step.Piped (pipe.Locking 0 0 0)) else next.GoOn step.ReadingNumber)
        ≡ next.GoOn (if printed then step.Printing else if piped then step.Piped (pipe.Locking 0 0 0) else step.ReadingNumber)
    by_tests true piped = refl
    by_tests false true = refl
    by_tests false false = refl

behind_is : (va len start done : ℕ) → next_behind va len start done ≡ next.GoOn (step_behind va len start done)
behind_is va len start done = by_tests (nat_le (wanted_from start len) done) ((va + done) % 2 ^ 32 % PGSIZE == 0)
  where
    by_tests : (all edge : Bool) →
        (if all then next_with_all start else if edge then next.GoOn (step.BufferRegion done start) else next.GoOn (step.GatheringBytes done start))
        ≡ next.GoOn (if all then step_with_all start else if edge then step.BufferRegion done start else step.GatheringBytes done start)
    by_tests true edge = all_is start
    by_tests false true = refl
    by_tests false false = refl

next_is : (va len start done word left : ℕ) →
    next_of_keeping va len start done word left ≡ next.GoOn (step_behind_keeping va len start done word left)
next_is va len start done word left =
    by_left (kept_at_once (place_in start done) left) ((done + kept_at_once (place_in start done) left) % 2 ^ 32)
    (nat_le left (kept_at_once (place_in start done) left))
  where
    by_left : (kept behind : ℕ) (t : Bool) →
        (if t then next_behind va len start behind else next.GoOn (step.KeepingBytes behind (word / 256) (left - kept) start))
        ≡ next.GoOn (if t then step_behind va len start behind else step.KeepingBytes behind (word / 256) (left - kept) start)
    by_left kept behind true = behind_is va len start behind
    by_left kept behind false = refl

behind_falls : (fd va len start done word left behind : ℕ) →
    Falls (service.Write fd va len) (step.KeepingBytes done word left start) (next_behind va len start behind)
behind_falls fd va len start done word left behind =
    by_tests (nat_le (wanted_from start len) behind) ((va + behind) % 2 ^ 32 % PGSIZE == 0) (start == 0) (start == PGSIZE)
  where
    by_tests : (all edge printed piped : Bool) →
        Falls (service.Write fd va len) (step.KeepingBytes done word left start)
        (if all then (if printed then next.GoOn step.Printing
        else if piped then next.GoOn (step.Piped (pipe.Locking 0 0 0)) else next.GoOn step.ReadingNumber)
        else if edge then next.GoOn (step.BufferRegion behind start) else next.GoOn (step.GatheringBytes behind start))
    by_tests true edge true piped = omega arith
    by_tests true edge false true = omega arith
    by_tests true edge false false = omega arith
    by_tests false true printed piped = omega arith
    by_tests false false printed piped = omega arith

keeping_falls : (fd va len start done word left : ℕ) →
    Falls (service.Write fd va len) (step.KeepingBytes done word left start) (next_of_keeping va len start done word left)
keeping_falls fd va len start done word left =
    by_left (kept_at_once (place_in start done) left) ((done + kept_at_once (place_in start done) left) % 2 ^ 32)
    (some_kept (place_in start done) left) (nat_le left (kept_at_once (place_in start done) left)) refl
  where
    by_left : (kept behind : ℕ) → 0 < kept → (t : Bool) → nat_le left kept ≡ t →
        Falls (service.Write fd va len) (step.KeepingBytes done word left start)
        (if t then next_behind va len start behind else next.GoOn (step.KeepingBytes behind (word / 256) (left - kept) start))
    by_left kept behind some true test = behind_falls fd va len start done word left behind
    by_left kept behind some false test = let more : kept < left = grind (arith, nat_tests) in omega (arith, some, more)

-- ---- what it asks

module _ (s : KernelState) (n fd va len start done word left : ℕ) (live : is_live (slot_at s n) ≡ true)
    (stands : place_of (slot_at s n) ≡ place.InService (service.Write fd va len) (step.KeepingBytes done word left start)) where
  abbrev write : Service
  write = service.Write fd va len

  abbrev plan : Plan
  plan = writing (record { fd = fd; va = va; len = len; at = stage.Keeping done word left start })

  abbrev at_place : ℕ
  at_place = place_in start done

  abbrev at_page : ℕ
  at_page = UTEMP + at_place % PGSIZE

  abbrev asked_by : Bool → Ask
  asked_by whole = if whole then ask.Store at_page word else ask.StoreByte at_page (word % 256)

  abbrev call : CallStep Called
  call = told_done (keeping s n (place_in start done) word left)

  performed_is : performed s n (keeping_asked at_place word left) ≡ call
  unfolding performed
  performed_is = by_kept (kept_at_once at_place left == 4)
    where
      by_kept : (whole : Bool) →
          performed s n (asked_by whole) ≡ told_done (if whole then store s n at_page word else store_byte s n at_page (word % 256))
      by_kept true = refl
      by_kept false = refl

  few_by : (whole : Bool) → frames_of (asked_by whole) ≤ 0
  few_by true = omega arith
  few_by false = omega arith

  fails_gone : (whole : Bool) (g : Got Called) → MayFail (asked_by whole) g → g ≡ gone
  fails_gone true g may = may
  fails_gone false g may = may

  here : IsAt s n plan write (step.KeepingBytes done word left start)
  here = record {
    stands = stands;
    live = live;
    numbered = refl;
    plain = plainly (keeping_plain at_place word left);
    goes_on = refl;
    falls = λ called. keeping_falls fd va len start done word left;
    few = few_by (kept_at_once at_place left == 4);
  }

  goes : GoesOn s n plan call
  goes = record {
    live = λ called is stays. let it = got_done called (keeping s n (place_in start done) word left).gives is in
        ap (λ (k : Slot). is_live k) (keeping_slots s n (place_in start done) word left it.0 it.1 n) ∙ live;
    registers = λ called is stays. let it = got_done called (keeping s n (place_in start done) word left).gives is in
        ap (λ (k : Slot). k.registers) (keeping_slots s n (place_in start done) word left it.0 it.1 n);
  }

  kept : {names : Names} {a : AbstractState} → StandsFor names s a → IsKept names s a n va len start done word left
  kept h = keeps_bytes h n fd va len start done word left stands

  call_is : {names : Names} {a : AbstractState} (h : StandsFor names s a) → call ≡ giving (with_spaces s (kept h).spaces) (Answered 0)
  call_is h = ap told_done (kept h).step_is

  given : {names : Names} {a : AbstractState} (h : StandsFor names s a) → call.gives ≡ got (Answered 0)
  given h = ap (λ (z : CallStep Called). z.gives) (call_is h)

  never : NeverFaults s n call
  never a h turn handled = absurd (let contradiction : ◌≡◌ {A = Got Called} to_handler (got (Answered 0)) = sym handled ∙ given h.1 in cc)

  -- what follows it, by where it goes on
  abbrev keeping_to : Next → Plan
  keeping_to x = record { number = SERVICE_WRITE; asks = keeping_asked at_place word left; next = λ called. x }

  keeps : IsInOrder call.state → KeepsBy s n plan call
  keeps order a h turn quiet =
      let it = kept h.1 in
      subst (λ (z : CallStep Called). FollowsBy s n plan a z) (sym (call_is h.1))
      (subst (λ (x : Next). FollowsBy s n (keeping_to x) a (giving (with_spaces s it.spaces) (Answered 0))) (sym (next_is va len start done word left))
      (refl, (h.0, it.stands (subst (λ (t : KernelState). IsInOrder t) (ap (λ (z : CallStep Called). z.state) (call_is h.1)) order) turn.last)))

  fails : FailsBy s n plan call
  fails may a h turn =
      let is_gone : call.gives ≡ gone = fails_gone (kept_at_once at_place left == 4) call.gives may in
      absurd (let contradiction : ◌≡◌ {A = Got Called} gone (got (Answered 0)) = sym is_gone ∙ given h.1 in cc)

  pub keeping_holds : ServiceHolds s n (writing (record { fd = fd; va = va; len = len; at = stage.Keeping done word left start }))
  keeping_holds =
      law_of s n plan write (step.KeepingBytes done word left start) here (subst (λ (z : CallStep Called). GoesOn s n plan z) (sym performed_is) goes)
      (subst (λ (z : CallStep Called). NeverFaults s n z) (sym performed_is) never)
      (subst (λ (z : CallStep Called). IsInOrder z.state → KeepsBy s n plan z) (sym performed_is) keeps)
      (subst (λ (z : CallStep Called). FailsBy s n plan z) (sym performed_is) fails)
