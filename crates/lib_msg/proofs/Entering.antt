-- receive, up to where it waits: what it refuses, and that the environment waits in both systems.
use Rattle.std.proofs.Common.{◌≡◌, ◌≢◌, ◌∙◌, ◌==◌, ◌&&◌, ◌||◌, ℕ, Bool, true, false, not, [], ◌∷◌, Some}
use Rattle.std.proofs.Common.{refl, sym, ap, subst, arith, if◌then◌else◌}
use Rattle.std.proofs.lemmas.Bool.Decides.{nat_tests}
use Rattle.jos_base.specs.declared.numbers.TheConstants.{SYS_IPC_RECV, E_INVAL, FIRST_ENV_ID}
use Rattle.jos_base.specs.declared.registers.Regs.{Regs}
use Rattle.jos_base.specs.KernelState.{KernelState, slot_at, with_extra}
use Rattle.jos_base.specs.Words.{negated}
use Rattle.lib_os.specs.declared.numbers.TheConstants.{SERVICE_RECEIVE}
use Rattle.lib_os.specs.declared.place.Place.TheVariants as place
use Rattle.lib_os.specs.declared.place.Step.TheVariants as step
use Rattle.lib_os.specs.declared.progress.Progress.TheVariants as progress
use Rattle.lib_os.specs.declared.service.Service.TheVariants as service
use Rattle.lib_os.specs.AbstractMessages.{server_id, is_page_or_none, receive}
use Rattle.lib_os.specs.AbstractState.{AbstractState, Born, AbstractSlot, entered, receiving, in_service, slot_id, with_born}
use Rattle.lib_os.specs.Answers as abstract_system
use Rattle.lib_os.specs.LibraryCall.{library_step}
use Rattle.lib_os.specs.LibrarySteps.{KeepsStanding}
use Rattle.lib_os.specs.Places.{place_of, words_at}
use Rattle.lib_os.specs.Rows.{Names}
use Rattle.lib_os.specs.InService.{IsIn}
use Rattle.lib_os.specs.StandsFor.{StandsFor, IsAboutToWait, destination_of, borne_in}
use Rattle.lib_os.specs.UserCalls.{system}
use Rattle.lib_os.proofs.Answering.{back_stands}
use Rattle.lib_os.proofs.GoingOn.{in_with_words, words_stand}
use Rattle.lib_os.proofs.Numbered.{named_at}
use Rattle.lib_os.proofs.PipesStand.{is_calm}
use Rattle.lib_os.proofs.Receiving.{recv_stands}
use Rattle.lib_os.proofs.Serving.{holds_page, printed_nothing, served, step_in}
use Rattle.lib_stage.specs.declared.ask.Next.TheVariants as next
use Rattle.lib_stage.specs.Nexts.{seen_as, settled}
use Rattle.lib_msg.specs.declared.receive.ReceiveStage.TheVariants as stage
use Rattle.lib_msg.specs.ReceiveStages.{may_receive, next_of}

-- ---- the abstract step

pub server_is : {names : Names} {s : KernelState} {a : AbstractState} → StandsFor names s a → server_id a ≡ FIRST_ENV_ID
server_is h = ap (λ (x : AbstractSlot). slot_id x) h.first

refused_step : (a : AbstractState) (n : ℕ) (b : Born) (regs : Regs) (va from own : ℕ) → own ≡ b.id → server_id a ≡ FIRST_ENV_ID →
    may_receive va from own ≡ false →
    library_step a n b regs (service.Receive va from) entered ≡ Some (abstract_system.refused a n b regs E_INVAL)
unfolding library_step
refused_step a n b regs va from own own_is server off =
    rw server (by_test (is_page_or_none va) (from == b.id) (from == FIRST_ENV_ID)
    (subst (λ (i : ℕ). may_receive va from i ≡ false) own_is off))
  where
    by_test : (t u v : Bool) → (t && (not u && not v)) ≡ false →
        Some (if not t then abstract_system.refused a n b regs E_INVAL
        else if u || v then abstract_system.refused a n b regs E_INVAL
        else with_born a n (record b { phase = in_service (service.Receive va from) receiving; blocked = true }))
        ≡ Some (abstract_system.refused a n b regs E_INVAL)
    by_test false u v e = refl
    by_test true true v e = refl
    by_test true false true e = refl
    by_test true false false e = absurd (let contradiction : true ≡ false = e in cc)

-- the environment that waits
abbrev waiting : Born → ℕ → ℕ → Born
waiting b va from = record b { phase = in_service (service.Receive va from) receiving; blocked = true }

waits_step : (a : AbstractState) (n : ℕ) (b : Born) (regs : Regs) (va from : ℕ) → is_page_or_none va ≡ true → from ≢ b.id →
    from ≢ server_id a →
    library_step a n b regs (service.Receive va from) entered ≡ Some (with_born a n (waiting b va from))
unfolding library_step
waits_step a n b regs va from page own server =
    let first : (from == b.id) ≡ false = grind (arith, nat_tests) in
    let second : (from == server_id a) ≡ false = grind (arith, nat_tests) in
    rw (page, first, second) refl

receive_waits : (a : AbstractState) (n : ℕ) (b : Born) (regs : Regs) (va from : ℕ) → is_page_or_none va ≡ true → from ≢ b.id →
    from ≢ server_id a → receive a n b regs va from ≡ with_born a n (waiting b va from)
receive_waits a n b regs va from page own server =
    let first : (from == b.id) ≡ false = grind (arith, nat_tests) in
    let second : (from == server_id a) ≡ false = grind (arith, nat_tests) in
    rw (page, first, second) refl

parts : (t u v : Bool) → (t && (not u && not v)) ≡ true → (t ≡ true) × (u ≡ false) × (v ≡ false)
parts true false false e = (refl, refl, refl)
parts true true v e = absurd (let contradiction : false ≡ true = e in cc)
parts true false true e = absurd (let contradiction : false ≡ true = e in cc)
parts false u v e = absurd (let contradiction : false ≡ true = e in cc)

-- ---- the first step

module _ (s : KernelState) (n va from : ℕ)
    (stands : place_of (slot_at s n) ≡ place.InService (service.Receive va from) step.Entered) where
  abbrev own : ℕ
  own = (slot_at s n).id

  pub entered_keeps : let x = next_of va from stage.Entered own in KeepsStanding (seen_as x) n s (settled SERVICE_RECEIVE x s n) []
  entered_keeps = by_test (may_receive va from own) refl
    where
      by_test : (t : Bool) → may_receive va from own ≡ t →
          let x = if not t then next.Answer (negated E_INVAL) else next.GoOn (step.Receiving own) in KeepsStanding (seen_as x) n s (settled SERVICE_RECEIVE x s n) []
      by_test false off a h turn quiet =
          let v = served h.1 n (service.Receive va from) step.Entered stands in
          let here : IsIn (slot_at s n) v.b (service.Receive va from) entered = v.at in
          let regs = (slot_at s n).registers in (
            abstract_system.refused a n v.b regs E_INVAL,
            step_in a n v.b (slot_at s n) (service.Receive va from) entered v.is here
                ∙ refused_step a n v.b regs va from own v.own.id (server_is h.1) off,
            printed_nothing a,
            (h.0, back_stands h.1 n v.b v.is (record regs { eax = negated E_INVAL }) (ap borne_in v.place) (ap holds_page v.place) (ap is_calm v.place) here.silent here.awake v.outside refl refl),
          )
      by_test true on a h turn quiet =
          let v = served h.1 n (service.Receive va from) step.Entered stands in
          let here : IsIn (slot_at s n) v.b (service.Receive va from) entered = v.at in
          let all = parts (is_page_or_none va) (from == own) (from == FIRST_ENV_ID) on in
          let not_own : from ≢ own = let e = all.1 in grind (arith, nat_tests) in
          let not_server : from ≢ FIRST_ENV_ID = let e = all.2 in grind (arith, nat_tests) in (
            refl,
            (
              h.0,
              words_stand h.1 n SERVICE_RECEIVE v.b v.is v.own v.outside (ap borne_in v.place) (ap is_calm v.place) (service.Receive va from) (step.Receiving own) (ap holds_page v.place) refl refl
                  (named_at (slot_at s n) (service.Receive va from) step.Entered stands)
                  (record {
                    is_in = in_with_words (words_at SERVICE_RECEIVE (step.Receiving own)) here;
                    self = refl;
                    page = all.0;
                    other = (λ e. not_own (e ∙ sym v.own.id), not_server);
                  }),
            ),
          )

-- ---- it waits

module _ (s : KernelState) (n va from id : ℕ)
    (stands : place_of (slot_at s n) ≡ place.InService (service.Receive va from) (step.Receiving id)) where
  abbrev mid : KernelState
  mid = (system s n SYS_IPC_RECV (destination_of va ∷ from ∷ 0 ∷ 0 ∷ 0 ∷ [])).state

  pub waiting_keeps : KeepsStanding progress.Visible n s (with_extra mid n (words_at SERVICE_RECEIVE (step.ReadingValue id))) []
  waiting_keeps a h turn quiet =
      let v = served h.1 n (service.Receive va from) (step.Receiving id) stands in
      let at : IsAboutToWait (slot_at s n) v.b va from id = v.at in (
        with_born a n (waiting v.b va from),
        step_in a n v.b (slot_at s n) (service.Receive va from) entered v.is at.is_in
            ∙ waits_step a n v.b (slot_at s n).registers va from at.page (at.other.0) (λ e. at.other.1 (e ∙ server_is h.1)),
        printed_nothing a,
        (
          h.0,
          subst (λ (b : AbstractState). StandsFor h.0 (with_extra mid n (words_at SERVICE_RECEIVE (step.ReadingValue id))) b)
              (receive_waits a n v.b (slot_at s n).registers va from at.page (at.other.0) (λ e. at.other.1 (e ∙ server_is h.1)))
              (recv_stands h.1 n v.b v.is v.outside (ap borne_in v.place) (ap holds_page v.place) (ap is_calm v.place) va from id (0 ∷ 0 ∷ 0 ∷ []) at
              (named_at (slot_at s n) (service.Receive va from) (step.Receiving id) stands) mid refl),
        ),
      )
