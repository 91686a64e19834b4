-- One who tries to send: what its step is in the abstract system, by who is named and whether that one waits for it; and when
-- the message has come, the sender's answer goes with it in both systems.
use Rattle.std.proofs.Common.{◌≡◌, ◌≢◌, ◌∙◌, ◌<◌, ◌^◌, ◌%◌, ◌==◌, ◌&&◌, ◌||◌, ℕ, Bool, true, false, not, List, Some, None}
use Rattle.std.proofs.Common.{refl, sym, ap, subst, arith, if◌then◌else◌}
use Rattle.std.specs.Prelude.{is_none}
use Rattle.std.proofs.lemmas.Bool.Decides.{nat_tests}
use Rattle.jos_base.specs.declared.numbers.TheConstants.{E_BAD_ENV, E_INVAL, FIRST_ENV_ID, NENV}
use Rattle.jos_base.specs.declared.registers.Regs.{Regs}
use Rattle.jos_base.specs.Environments.{Slot}
use Rattle.jos_base.specs.KernelState.{KernelState, slot_at, with_spaces}
use Rattle.jos_base.specs.Messages.{accepts}
use Rattle.jos_base.specs.Reach.{Entry}
use Rattle.jos_base.specs.SpacesState.{SpacesState}
use Rattle.jos_base.specs.SystemCalls.{has_write}
use Rattle.jos_base.specs.Words.{page_number}
use Rattle.lib_os.specs.declared.service.Service.TheVariants as service
use Rattle.lib_os.specs.AbstractState.{AbstractState, Born, own, named, AbstractSlot, free, unborn, born, serving, Phase, entered, with_born, slot_id, is_live}
use Rattle.lib_os.specs.AbstractMemory.{page_at}
use Rattle.lib_os.specs.AbstractMessages.{may_pass, is_page_to_send, server_id, with_sent, woken, sent, sent_to}
use Rattle.lib_os.specs.AbstractRun.{abs_step, may_wait, phase_may_wait, slot_may_wait}
use Rattle.lib_os.specs.Answers.{refused, answered}
use Rattle.lib_os.specs.Fence.{is_page_inside}
use Rattle.lib_os.specs.GuestStep.{born_in}
use Rattle.lib_os.specs.InOrder.{IsInOrder}
use Rattle.lib_os.specs.LibraryCall.{library_step}
use Rattle.lib_os.specs.LibrarySteps.{service_answered}
use Rattle.lib_os.specs.MemoryServices.{lives}
use Rattle.lib_os.specs.Places.{place_of, is_handlers}
use Rattle.lib_os.specs.Rows.{Names, rows_of, page_by, is_shared, may_write}
use Rattle.lib_os.specs.StandsFor.{StandsFor, StandsForSlot, MaySendBy, IsTrying, borne_in}
use Rattle.lib_os.proofs.Answering.{back_stands}
use Rattle.lib_os.proofs.Effects.{Given}
use Rattle.lib_os.proofs.EntriesStand.{seen_by}
use Rattle.lib_os.proofs.Logical.{page_inside_programs}
use Rattle.lib_os.proofs.MessagesStand.{word_alone, page_stands}
use Rattle.lib_os.proofs.PipesStand.{is_calm}
use Rattle.lib_os.proofs.Sends.{received_in, with_message}
use Rattle.lib_os.proofs.Serving.{holds_page, step_in, kept_where}
use Rattle.lib_os.proofs.Slots.{slot_kept}
use Rattle.lib_os.proofs.SlotsStand.{CountsKept, born_at}
use Rattle.lib_os.proofs.Waiters.{IsTaken, not_accepted, taken_is_sent}
use Rattle.std.proofs.lemmas.Bool.{and_parts}
use Rattle.jos_base.proofs.Maps.{upd-other}

-- ---- what passes

pub passes_alike : (names : Names) (bytes : ℕ → List ℕ) (x : Entry) →
    may_pass (Some (page_by names bytes x)) ≡ (is_shared x.perm || not (may_write x.perm))
passes_alike names bytes x = by_sharing (is_shared x.perm)
  where
    by_sharing : (c : Bool) → may_pass (Some (if c then named (names.name x.frame) (has_write x.perm) else own (bytes x.frame) (may_write x.perm)))
        ≡ (c || not (may_write x.perm))
    by_sharing true = refl
    by_sharing false = refl

-- an environment, or a child that is not born
pub data IsSomeone (slot : AbstractSlot) : Type 0 where
  is_born : (c : Born) → slot ≡ born c → IsSomeone slot
  is_unborn : (id parent : ℕ) → slot ≡ unborn id parent → IsSomeone slot

-- the server is not there to be named by another's id, and a slot that is not live not at all
who_lives : {names : Names} {s : KernelState} {a : AbstractState} → StandsFor names s a → (t id : ℕ) → is_live (a.slots t) ≡ true →
    slot_id (a.slots t) ≡ id → id ≢ FIRST_ENV_ID → IsSomeone (a.slots t)
who_lives {names = names} {s = s} {a = a} h t id live same other = by_slot (a.slots t) refl (h.slots t) live same
  where
    by_slot : (slot : AbstractSlot) → a.slots t ≡ slot → StandsForSlot names s.spaces (slot_at s t) slot → is_live slot ≡ true → slot_id slot ≡ id →
        IsSomeone (a.slots t)
    by_slot (free last) is k lives_in id_is = absurd (let contradiction : false ≡ true = lives_in in cc)
    by_slot (unborn own_id parent) is k lives_in id_is = is_unborn own_id parent is
    by_slot (born c) is k lives_in id_is = is_born c is
    by_slot (serving own_id) is k lives_in id_is = absurd (other (sym id_is ∙ k.first))

-- ---- its step

module _ {names : Names} {s : KernelState} {a : AbstractState} (h : StandsFor names s a) (n : ℕ) (b : Born) (at : a.slots n ≡ born b) where
  -- a page whose entry lets it pass may be sent
  pub page_passes : (va perm : ℕ) (none : Bool) → MaySendBy none (rows_of s.spaces (slot_at s n).directory) va perm →
      (none || (is_page_inside va && may_pass (page_at b va))) ≡ true
  page_passes va perm true may = refl
  page_passes va perm false may =
      let seen : page_at b va ≡ Some (page_by names s.spaces.pages may.entry) =
      (born_at h n b at).memory (page_number va)
      ∙ seen_by names s.spaces (slot_at s n).directory (page_number va) may.entry (page_inside_programs va may.inside) may.stands in
      let passes : (is_shared may.entry.perm || not (may_write may.entry.perm)) ≡ true =
      subst (λ (p : ℕ). (is_shared p || not (may_write p)) ≡ true) may.bits may.passes in
      (λ i. may.inside i && may_pass (seen i)) ∙ passes_alike names s.spaces.pages may.entry ∙ passes

  module _ (id value va perm : ℕ) (trying : IsTrying (rows_of s.spaces (slot_at s n).directory) (slot_at s n) b id value va perm) where
    abbrev regs : Regs
    regs = (slot_at s n).registers

    abbrev t : ℕ
    t = id % NENV

    by_tests : (none own_id servers may there : Bool) → none ≡ false → own_id ≡ false → servers ≡ false → may ≡ true →
        (if none || own_id || servers then Some (refused a n b regs E_INVAL)
        else if not may then Some (refused a n b regs E_INVAL)
        else if not there then Some (refused a n b regs E_BAD_ENV)
        else sent_to a n b regs t value va (born_in (a.slots t)))
        ≡ (if there then sent_to a n b regs t value va (born_in (a.slots t)) else Some (refused a n b regs E_BAD_ENV))
    by_tests false false false true true none_is own_is servers_is may_is = refl
    by_tests false false false true false none_is own_is servers_is may_is = refl
    by_tests true own_id servers may there none_is own_is servers_is may_is = absurd cc
    by_tests false true servers may there none_is own_is servers_is may_is = absurd cc
    by_tests false false true may there none_is own_is servers_is may_is = absurd cc
    by_tests false false false false there none_is own_is servers_is may_is = absurd cc

    -- nothing is refused but an id that nobody has
    pub tried_is : abs_step a n
        ≡ (if lives a id then sent_to a n b regs t value va (born_in (a.slots t)) else Some (refused a n b regs E_BAD_ENV))
    unfolding library_step
    tried_is =
        let first : server_id a ≡ FIRST_ENV_ID = ap slot_id h.first in
        let some : id ≢ 0 = trying.some in
        let other : id ≢ b.id = trying.other.0 in
        let server_not : id ≢ server_id a = λ same. trying.other.1 (same ∙ first) in
        step_in a n b (slot_at s n) (service.Send id value va) entered at trying.is_in
        ∙ by_tests (id == 0) (id == b.id) (id == server_id a) (is_page_to_send b va) (lives a id)
        (grind (arith, nat_tests)) (grind (arith, nat_tests)) (grind (arith, nat_tests)) (page_passes va perm (va == 0) trying.page)

    pub nobody_is_there : lives a id ≡ false → abs_step a n ≡ Some (refused a n b regs E_BAD_ENV)
    nobody_is_there off =
        tried_is ∙ ap (λ (x : Bool). if x then sent_to a n b regs t value va (born_in (a.slots t)) else Some (refused a n b regs E_BAD_ENV)) off

    module _ (there : lives a id ≡ true) where
      named_id : slot_id (a.slots t) ≡ id
      named_id = let test = (and_parts (is_live (a.slots t)) (slot_id (a.slots t) == id) there).1 in grind (arith, nat_tests, test)

      -- an environment has the id, and it is another
      pub named_is : IsSomeone (a.slots t)
      named_is = who_lives h t id (and_parts (is_live (a.slots t)) (slot_id (a.slots t) == id) there).0 named_id trying.other.1

      pub named_other : t ≢ n
      named_other same = trying.other.0 (sym named_id ∙ ap (λ (m : ℕ). slot_id (a.slots m)) same ∙ ap slot_id at)

      to_named : (c : Born) → a.slots t ≡ born c → abs_step a n ≡ sent_to a n b regs t value va (Some c)
      to_named c is =
          tried_is
          ∙ ap (λ (x : Bool). if x then sent_to a n b regs t value va (born_in (a.slots t)) else Some (refused a n b regs E_BAD_ENV)) there
          ∙ ap (λ (x : AbstractSlot). sent_to a n b regs t value va (born_in x)) is

      -- a child that is not born waits for nobody
      pub no_step_unborn : (own_id parent : ℕ) → a.slots t ≡ unborn own_id parent → abs_step a n ≡ None
      no_step_unborn own_id parent is =
          tried_is
          ∙ ap (λ (x : Bool). if x then sent_to a n b regs t value va (born_in (a.slots t)) else Some (refused a n b regs E_BAD_ENV)) there
          ∙ ap (λ (x : AbstractSlot). sent_to a n b regs t value va (born_in x)) is

      -- where there is no step yet it may wait
      pub may_wait_yet : abs_step a n ≡ None → (quantum : ℕ) → may_wait a n quantum ≡ true
      unfolding may_wait
      may_wait_yet none quantum =
          ap (λ (x : AbstractSlot). slot_may_wait a n x quantum) at
          ∙ ap (λ (x : Phase). phase_may_wait a n b x quantum) trying.is_in.phase
          ∙ (λ i. there i && is_none (none i))

      module _ (c : Born) (is : a.slots t ≡ born c) where
        pub no_step_yet : accepts (slot_at s t).rendezvous (slot_at s n).id ≡ false → abs_step a n ≡ None
        no_step_yet off = to_named c is ∙ not_accepted h n b at t c is off regs value va

        pub step_to_taken : (taken : IsTaken (slot_at s t) c b.id) → abs_step a n ≡ Some (sent a n b regs t value va c taken.w)
        step_to_taken taken = to_named c is ∙ taken_is_sent a n b regs t value va (slot_at s t) c taken

-- ---- the sender is answered

-- where its slot is as it was, whatever else is another
pub answered_stands : {names : Names} {s : KernelState} {a : AbstractState} → StandsFor names s a → (n : ℕ) (b : Born) →
    a.slots n ≡ born b → (k : Slot) (word : ℕ) → slot_at s n ≡ k → borne_in (place_of k) ≡ None → holds_page (place_of k) ≡ kept_where false →
    is_calm (place_of k) ≡ true → k.rendezvous.receiving ≡ false → b.blocked ≡ false → is_handlers k.registers.esp ≡ false → StandsFor names (service_answered s n word) (answered a n b k.registers word)
answered_stands {names = names} {s = s} {a = a} h n b at k word same unborne holds calm silent awake outside =
    subst (λ (x : Slot). StandsFor names (service_answered s n word) (answered a n b x.registers word)) same
    (back_stands h n b at (record (slot_at s n).registers { eax = word }) (ap (λ (x : Slot). borne_in (place_of x)) same ∙ unborne)
    (ap (λ (x : Slot). holds_page (place_of x)) same ∙ holds) (ap (λ (x : Slot). is_calm (place_of x)) same ∙ calm)
    (ap (λ (x : Slot). x.rendezvous.receiving) same ∙ silent) awake
    (ap (λ (x : Slot). is_handlers x.registers.esp) same ∙ outside) refl refl)

module _ {names : Names} {s : KernelState} {a : AbstractState} (h : StandsFor names s a) (n : ℕ) (b : Born) (at : a.slots n ≡ born b)
    (unborne : borne_in (place_of (slot_at s n)) ≡ None) (holds : holds_page (place_of (slot_at s n)) ≡ kept_where false)
    (calm : is_calm (place_of (slot_at s n)) ≡ true) (silent : (slot_at s n).rendezvous.receiving ≡ false) (awake : b.blocked ≡ false) (outside : is_handlers (slot_at s n).registers.esp ≡ false)
    (t : ℕ) (ne : t ≢ n) (c : Born) (there : a.slots t ≡ born c) (taken : IsTaken (slot_at s t) c b.id) (value : ℕ) (small : value < 2 ^ 32)
    (va : ℕ) where
  abbrev come : AbstractState
  come = with_born a t (woken c taken.w b.id value (with_sent c taken.w va b.id (page_at b va)))

  still : come.slots n ≡ born b
  still = upd-other a.slots t (born (woken c taken.w b.id value (with_sent c taken.w va b.id (page_at b va)))) n (λ e. ne (sym e)) ∙ at

  -- the word alone came
  pub word_sent : ((va == 0) || (taken.w.va == 0)) ≡ true →
      StandsFor names (service_answered (with_message s n t value 0) n 0) (sent a n b (slot_at s n).registers t value va c taken.w)
  word_sent none =
      answered_stands (word_alone h n b at t c there taken value small va none) n b still (slot_at s n) 0
      (slot_kept s t (received_in (slot_at s t) (slot_at s n).id value 0) n (λ e. ne (sym e))) unborne holds calm silent awake outside

  -- a page came with it
  pub page_sent : {sp : SpacesState} → is_page_inside va ≡ true → (x : Entry) → rows_of s.spaces (slot_at s n).directory (page_number va) ≡ Some x →
      (is_shared x.perm || not (may_write x.perm)) ≡ true →
      Given s.spaces sp (slot_at s t).directory (page_number taken.w.va) x → va ≢ 0 → taken.w.va ≢ 0 →
      IsInOrder (with_message (with_spaces s sp) n t value x.perm) → ((q : ℕ) → q ≢ t → CountsKept s.spaces sp (slot_at s q)) →
      StandsFor names (service_answered (with_message (with_spaces s sp) n t value x.perm) n 0)
      (sent a n b (slot_at s n).registers t value va c taken.w)
  page_sent {sp = sp} inside x hx passes given some wanted in_order counts =
      answered_stands (page_stands h n b at t c there taken value small va inside x hx passes unborne given some wanted in_order counts) n b
      still (slot_at s n) 0
      (slot_kept (with_spaces s sp) t (received_in (slot_at s t) (slot_at s n).id value x.perm) n (λ e. ne (sym e))) unborne holds calm silent awake outside
