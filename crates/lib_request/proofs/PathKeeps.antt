-- The law of a service as it puts into its page the bytes of its path that it has loaded, of which nothing is seen.
use Rattle.std.proofs.Common.{◌≡◌, ◌∙◌, ◌+◌, ◌-◌, ◌/◌, ◌%◌, ◌^◌, ◌==◌, ◌&&◌, ◌<◌, ◌≤◌, ℕ, Bool, true, false, refl, sym, ap, subst, arith}
use Rattle.std.proofs.Common.{if◌then◌else◌}
use Rattle.std.specs.Prelude.{nat_le}
use Rattle.std.proofs.lemmas.Bool.Decides.{nat_tests}
use Rattle.jos_base.specs.declared.called.Called.{Called}
use Rattle.jos_base.specs.declared.called.Called.TheVariants.{Answered}
use Rattle.jos_base.specs.declared.numbers.TheConstants.{PGSIZE, UTEMP}
use Rattle.jos_base.specs.Environments.{Slot, is_live}
use Rattle.jos_base.specs.KernelState.{KernelState, slot_at, with_spaces}
use Rattle.lib_os.specs.declared.place.Place.TheVariants as place
use Rattle.lib_os.specs.declared.place.Step.TheVariants as step
use Rattle.lib_os.specs.declared.service.Service.{Service}
use Rattle.lib_os.specs.declared.service.Service.TheVariants as service
use Rattle.lib_os.specs.AbstractState.{AbstractState}
use Rattle.lib_os.specs.InOrder.{IsInOrder}
use Rattle.lib_os.specs.Places.{place_of}
use Rattle.lib_os.specs.Rows.{Names}
use Rattle.lib_os.specs.StandsFor.{StandsFor}
use Rattle.lib_os.specs.StandsInHandler.{AreSmall, buffer_of, may_follow}
use Rattle.lib_os.specs.UserCalls.{CallStep, Got, giving, gone, got, store, store_byte, to_handler}
use Rattle.lib_os.proofs.BytesKept.{keeping, keeping_slots, kept_at_once}
use Rattle.lib_os.proofs.PathKept.{IsPathKept, keeps_path_bytes, path_step_behind, path_step_behind_keeping}
use Rattle.lib_os.proofs.Numbered.{number_of}
use Rattle.lib_os.proofs.PathRefused.{path_small}
use Rattle.lib_os.proofs.PathServices.{has_path, whole_step}
use Rattle.lib_stage.specs.declared.ask.Ask.{Ask}
use Rattle.lib_stage.specs.declared.ask.Ask.TheVariants as ask
use Rattle.lib_stage.specs.declared.ask.Next.{Next}
use Rattle.lib_stage.specs.declared.ask.Next.TheVariants as next
use Rattle.lib_stage.specs.Asks.{MayFail, frames_of, performed}
use Rattle.lib_stage.specs.ServiceSteps.{Plan, ServiceHolds}
use Rattle.lib_stage.proofs.Laws.{FailsBy, Falls, FollowsBy, GoesOn, IsAt, KeepsBy, NeverFaults, law_of, plainly}
use Rattle.lib_file.proofs.Finds.{staged}
use Rattle.lib_file.specs.Keeping.{keeping_asked}
use Rattle.lib_file.proofs.Moves.{got_done, keeping_plain, some_kept, told_done}
use Rattle.lib_request.specs.PathStages.{ends_in, follows, next_behind, next_of_keeping}
use Rattle.lib_request.proofs.PathFollows.{follows_is, path_steady}

-- ---- where it goes on

behind_is : (path done : ℕ) → path < 2 ^ 32 → next_behind path done ≡ next.GoOn (path_step_behind path done)
behind_is path done small =
    ap (λ (t : Bool). if t && ((path + done) % 2 ^ 32 % PGSIZE == 0) then next.GoOn (step.BufferRegion done 0) else next.GoOn (step.Gathering done))
    (follows_is path done small)
    ∙ by_test (may_follow path done && ((path + done) % 2 ^ 32 % PGSIZE == 0))
  where
    by_test : (t : Bool) →
        (if t then next.GoOn (step.BufferRegion done 0) else next.GoOn (step.Gathering done))
        ≡ next.GoOn (if t then step.BufferRegion done 0 else step.Gathering done)
    by_test true = refl
    by_test false = refl

next_is : (call : Service) (done word left : ℕ) → buffer_of call < 2 ^ 32 →
    next_of_keeping (buffer_of call) (whole_step call) done word left ≡ next.GoOn (path_step_behind_keeping call done word left)
next_is call done word left small =
    by_tests (kept_at_once done left) ((done + kept_at_once done left) % 2 ^ 32) (ends_in (kept_at_once done left) word)
    (nat_le left (kept_at_once done left))
  where
    by_tests : (kept behind : ℕ) (ends all : Bool) →
        (if ends then next.GoOn (whole_step call) else if all then next_behind (buffer_of call) behind else next.GoOn (step.Keeping behind (word / 256) (left - kept)))
        ≡ next.GoOn (if ends then (whole_step call) else if all then path_step_behind (buffer_of call) behind else step.Keeping behind (word / 256) (left - kept))
    by_tests kept behind true all = refl
    by_tests kept behind false true = behind_is (buffer_of call) behind small
    by_tests kept behind false false = refl

behind_falls : (call : Service) (done word left behind : ℕ) → (t : Bool) →
    Falls call (step.Keeping done word left) (if t then next.GoOn (step.BufferRegion behind 0) else next.GoOn (step.Gathering behind))
behind_falls call done word left behind true = omega arith
behind_falls call done word left behind false = omega arith

-- fewer steps are left where the path is taken
whole_falls : (call : Service) (done word left : ℕ) → Falls call (step.Keeping done word left) (next.GoOn (whole_step call))
whole_falls (service.OpenFile path mode) done word left = omega arith
whole_falls (service.Spawn path argv) done word left = omega arith
whole_falls _ done word left = omega arith

keeping_falls : (call : Service) (done word left : ℕ) →
    Falls call (step.Keeping done word left) (next_of_keeping (buffer_of call) (whole_step call) done word left)
keeping_falls call done word left =
    by_tests (kept_at_once done left) ((done + kept_at_once done left) % 2 ^ 32) (some_kept done left) (ends_in (kept_at_once done left) word)
    (nat_le left (kept_at_once done left)) refl
  where
    by_tests : (kept behind : ℕ) → 0 < kept → (ends all : Bool) → nat_le left kept ≡ all →
        Falls call (step.Keeping done word left)
        (if ends then next.GoOn (whole_step call) else if all then next_behind (buffer_of call) behind else next.GoOn (step.Keeping behind (word / 256) (left - kept)))
    by_tests kept behind some true all test = whole_falls call done word left
    by_tests kept behind some false true test =
        behind_falls call done word left behind (follows (buffer_of call) behind && ((buffer_of call + behind) % 2 ^ 32 % PGSIZE == 0))
    by_tests kept behind some false false test =
        let more : kept < left = grind (arith, nat_tests, test) in omega (arith, some, more)

-- ---- what it asks

module _ (s : KernelState) (n : ℕ) (of : Service) (takes : has_path of ≡ true) (done word left : ℕ) (live : is_live (slot_at s n) ≡ true)
    (small : AreSmall (slot_at s n).registers) (stands : place_of (slot_at s n) ≡ place.InService of (step.Keeping done word left)) where
  abbrev plan : Plan
  plan = staged of (keeping_asked done word left) (λ x. next_of_keeping (buffer_of of) (whole_step of) done word left)

  abbrev at_page : ℕ
  at_page = UTEMP + done % PGSIZE

  abbrev asked_by : Bool → Ask
  asked_by whole = if whole then ask.Store at_page word else ask.StoreByte at_page (word % 256)

  abbrev call : CallStep Called
  call = told_done (keeping s n done word left)

  performed_is : performed s n (keeping_asked done word left) ≡ call
  unfolding performed
  performed_is = by_kept (kept_at_once done left == 4)
    where
      by_kept : (whole : Bool) →
          performed s n (asked_by whole) ≡ told_done (if whole then store s n at_page word else store_byte s n at_page (word % 256))
      by_kept true = refl
      by_kept false = refl

  few_by : (whole : Bool) → frames_of (asked_by whole) ≤ 0
  few_by true = omega arith
  few_by false = omega arith

  fails_gone : (whole : Bool) (g : Got Called) → MayFail (asked_by whole) g → g ≡ gone
  fails_gone true g may = may
  fails_gone false g may = may

  here : IsAt s n plan of (step.Keeping done word left)
  here = record {
    stands = stands;
    live = live;
    numbered = refl;
    plain = plainly (keeping_plain done word left);
    goes_on = path_steady of takes (step.Keeping done word left) refl;
    falls = λ called. keeping_falls of done word left;
    few = let few = few_by (kept_at_once done left == 4) in omega (arith, few);
  }

  goes : GoesOn s n plan call
  goes = record {
    live = λ called is stays. let it = got_done called (keeping s n done word left).gives is in
        ap (λ (k : Slot). is_live k) (keeping_slots s n done word left it.0 it.1 n) ∙ live;
    registers = λ called is stays. let it = got_done called (keeping s n done word left).gives is in
        ap (λ (k : Slot). k.registers) (keeping_slots s n done word left it.0 it.1 n);
  }

  kept : {names : Names} {a : AbstractState} → StandsFor names s a → IsPathKept names s a n of done word left
  kept h = keeps_path_bytes h n of takes done word left stands

  call_is : {names : Names} {a : AbstractState} (h : StandsFor names s a) → call ≡ giving (with_spaces s (kept h).spaces) (Answered 0)
  call_is h = ap told_done (kept h).step_is

  given : {names : Names} {a : AbstractState} (h : StandsFor names s a) → call.gives ≡ got (Answered 0)
  given h = ap (λ (z : CallStep Called). z.gives) (call_is h)

  never : NeverFaults s n call
  never a h turn handled = absurd (let contradiction : ◌≡◌ {A = Got Called} to_handler (got (Answered 0)) = sym handled ∙ given h.1 in cc)

  -- what follows it, by where it goes on
  abbrev keeping_to : Next → Plan
  keeping_to x = record { number = number_of of; asks = keeping_asked done word left; next = λ called. x }

  keeps : IsInOrder call.state → KeepsBy s n plan call
  keeps order a h turn quiet =
      let it = kept h.1 in
      subst (λ (z : CallStep Called). FollowsBy s n plan a z) (sym (call_is h.1))
      (subst (λ (x : Next). FollowsBy s n (keeping_to x) a (giving (with_spaces s it.spaces) (Answered 0)))
      (sym (next_is of done word left (path_small s n of takes (step.Keeping done word left) stands small)))
      (refl, (h.0, it.stands (subst (λ (t : KernelState). IsInOrder t) (ap (λ (z : CallStep Called). z.state) (call_is h.1)) order) turn.last)))

  fails : FailsBy s n plan call
  fails may a h turn =
      let is_gone : call.gives ≡ gone = fails_gone (kept_at_once done left == 4) call.gives may in
      absurd (let contradiction : ◌≡◌ {A = Got Called} gone (got (Answered 0)) = sym is_gone ∙ given h.1 in cc)

  pub keeping_holds : ServiceHolds s n (staged of (keeping_asked done word left)
      (λ x. next_of_keeping (buffer_of of) (whole_step of) done word left))
  keeping_holds =
      law_of s n plan of (step.Keeping done word left) here (subst (λ (z : CallStep Called). GoesOn s n plan z) (sym performed_is) goes)
      (subst (λ (z : CallStep Called). NeverFaults s n z) (sym performed_is) never)
      (subst (λ (z : CallStep Called). IsInOrder z.state → KeepsBy s n plan z) (sym performed_is) keeps)
      (subst (λ (z : CallStep Called). FailsBy s n plan z) (sym performed_is) fails)
