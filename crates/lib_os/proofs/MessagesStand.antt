-- The kernel's state goes on standing for the abstract one where a receiver begins to wait, where a message comes to it, with
-- a page or without, and where it answers what came.
use Rattle.std.proofs.Common.{◌≡◌, ◌≢◌, ◌∙◌, ◌<◌, ◌^◌, ◌==◌, ◌||◌, ℕ, Bool, true, false, not, List, Option, Some, None}
use Rattle.std.proofs.Common.{refl, sym, ap, subst, arith, if◌then◌else◌}
use Rattle.std.specs.Prelude.{bit_and}
use Rattle.std.proofs.lemmas.Bool.Decides.{nat_tests}
use Rattle.std.proofs.lemmas.Nat.{and_le_r}
use Rattle.jos_base.specs.declared.environment.Status.TheVariants.{NotRunnable}
use Rattle.jos_base.specs.declared.numbers.TheConstants.{E_INVAL, PTE_SYSCALL}
use Rattle.jos_base.specs.declared.registers.Regs.{Regs}
use Rattle.jos_base.specs.Environments.{Slot}
use Rattle.jos_base.specs.KernelState.{KernelState, slot_at, with_slot_at, with_spaces}
use Rattle.jos_base.specs.Messages.{wanting}
use Rattle.jos_base.specs.Reach.{Entry}
use Rattle.jos_base.specs.SpacesState.{SpacesState}
use Rattle.jos_base.specs.SystemCalls.{has_write, is_page_perm}
use Rattle.jos_base.specs.Words.{page_number}
use Rattle.lib_os.specs.declared.place.Place.{Place}
use Rattle.lib_os.specs.declared.place.Place.TheVariants as place
use Rattle.lib_os.specs.declared.place.Step.TheVariants as step
use Rattle.lib_os.specs.declared.service.Service.{Service}
use Rattle.lib_os.specs.declared.service.Service.TheVariants as service
use Rattle.lib_os.specs.AbstractState.{AbstractState, Born, Page, own, named, born, Message, in_service, entered, receiving, received, with_born, slot_id}
use Rattle.lib_os.specs.AbstractMemory.{page_at, with_page}
use Rattle.lib_os.specs.AbstractMessages.{receive, received_answer, is_page_or_none, server_id, with_sent, woken, page_kind}
use Rattle.lib_os.specs.AbstractRun.{abs_step}
use Rattle.lib_os.specs.Answers.{refused, back_with}
use Rattle.lib_os.specs.Fence.{is_page_inside}
use Rattle.lib_os.specs.InOrder.{IsInOrder}
use Rattle.lib_os.specs.LibraryCall.{library_step}
use Rattle.lib_os.specs.LibraryPages.{has_copy}
use Rattle.lib_os.specs.LibrarySteps.{gone_back}
use Rattle.lib_os.specs.Places.{place_in_words, handler_step_in, place_of, words_at, is_handlers}
use Rattle.lib_os.specs.Services.{service_of}
use Rattle.lib_os.specs.Rows.{Names, rows_of, page_by, is_programs, is_shared, is_cow, may_write}
use Rattle.lib_os.specs.StandsFor.{StandsFor, StandsForBorn, StandsAt, view_of, upcall_at, borne_in}
use Rattle.lib_os.specs.StandsFor.{IsAboutToWait, destination_of, IsReceiving, kind_by, HasReceived, waits, has}
use Rattle.lib_os.proofs.Answering.{back_stands}
use Rattle.lib_os.proofs.BytesRead.{users_inside}
use Rattle.lib_os.proofs.Effects.{Given}
use Rattle.lib_os.proofs.EntriesStand.{seen_by}
use Rattle.lib_os.proofs.Logical.{is_plain, unborne_plain, page_inside_programs}
use Rattle.lib_os.proofs.PagesStand.{given_stands}
use Rattle.lib_os.proofs.PipesStand.{calm_places, calm_unmade, descriptors_turned, is_calm}
use Rattle.lib_os.proofs.Sends.{received_in, with_message}
use Rattle.lib_os.proofs.Serving.{service_step, step_in, holds_page, plain_upcall, plain_copy, plain_working, library_moved, kept_where, pages_kept}
use Rattle.lib_os.proofs.SlotsStand.{CountsKept, minds_page, born_at, born_live}
use Rattle.lib_os.proofs.StatesStand.{slot_changed, slot_was_in_order, stopped_settles}
use Rattle.lib_os.proofs.Waiters.{IsTaken}
use Rattle.lib_os.proofs.WordsTell.{place_at, is_in_handler, handler_runs}
use Rattle.jos_base.proofs.Maps.{upd-at, upd-twice}

-- ---- it begins to wait

-- the abstract step where nothing is refused
pub receive_is : (a : AbstractState) (n : ℕ) (b : Born) (regs : Regs) (va from : ℕ) → is_page_or_none va ≡ true →
    from ≢ b.id → from ≢ server_id a →
    receive a n b regs va from ≡ with_born a n (record b { phase = in_service (service.Receive va from) receiving; blocked = true })
receive_is a n b regs va from page other server_not =
    by_tests (is_page_or_none va) (from == b.id) (from == server_id a) page (grind (arith, nat_tests)) (grind (arith, nat_tests))
  where
    by_tests : (page_test own_test server_test : Bool) → page_test ≡ true → own_test ≡ false → server_test ≡ false →
        (if not page_test then refused a n b regs E_INVAL else if own_test || server_test then refused a n b regs E_INVAL
        else with_born a n (record b { phase = in_service (service.Receive va from) receiving; blocked = true }))
        ≡ with_born a n (record b { phase = in_service (service.Receive va from) receiving; blocked = true })
    by_tests true false false page_is own_is server_is = refl
    by_tests false own_test server_test page_is own_is server_is = absurd cc
    by_tests true true server_test page_is own_is server_is = absurd cc
    by_tests true false true page_is own_is server_is = absurd cc

-- the slot of one that begins to wait
abbrev pub waiting_in_slot : Slot → ℕ → ℕ → ℕ → Slot
waiting_in_slot k va from id = record k {
  rendezvous = wanting k.rendezvous (destination_of va) from;
  status = NotRunnable;
  extra = words_at 9 (step.ReadingValue id);
}

waiting_place : (k : Slot) (va from id : ℕ) → is_handlers k.registers.esp ≡ false →
    service_of (record k.registers { eax = 9 }) ≡ service.Receive va from →
    place_of (waiting_in_slot k va from id) ≡ place.InService (service.Receive va from) (step.ReadingValue id)
waiting_place k va from id outside names_it =
    place_at k.registers 9 (step.ReadingValue id) outside ∙ ap (λ (x : Service). place.InService x (step.ReadingValue id)) names_it

waiting_own : {names : Names} {s : SpacesState} {k : Slot} {b : Born} (va from id : ℕ) → StandsForBorn names s k b →
    is_handlers k.registers.esp ≡ false → holds_page (place_of k) ≡ kept_where false → is_calm (place_of k) ≡ true →
    IsAboutToWait k b va from id → service_of (record k.registers { eax = 9 }) ≡ service.Receive va from →
    StandsForBorn names s (waiting_in_slot k va from id)
    (record b { phase = in_service (service.Receive va from) receiving; blocked = true })
waiting_own {names = names} {s = s} {k = k} {b = b} va from id own_part outside holds calm about names_it =
    let j : Slot = waiting_in_slot k va from id in
    let c : Born = record b { phase = in_service (service.Receive va from) receiving; blocked = true } in
    let at : place_of j ≡ place.InService (service.Receive va from) (step.ReadingValue id) =
    waiting_place k va from id outside names_it in
    let plain : is_in_handler (place_of k) ≡ false = handler_runs k.registers k.extra ∙ outside in
    let so : IsReceiving j c va from = record {
      program = about.is_in.program;
      phase = refl;
      blocked = refl;
      page = about.page;
      rendezvous = refl;
      wanted = refl;
      destination = refl;
    } in
    record {
      id = own_part.id;
      id_small = own_part.id_small;
      parent = own_part.parent;
      env_type = own_part.env_type;
      runs = tt;
      upcall = own_part.upcall ∙ plain_upcall (place_of k) plain ∙ sym (ap upcall_at at);
      descriptors = descriptors_turned names s k.directory (place_of k) (place_of j) b.descriptors calm (ap is_calm at) own_part.descriptors;
      memory = own_part.memory;
      library = library_moved (place_of k) (place_of j) k.extra j.extra (rows_of s k.directory) (plain_copy (place_of k) plain ∙ sym (ap has_copy at))
          (plain_working (place_of k) k.extra plain ∙ holds ∙ sym (ap (λ (p : Place). pages_kept p j.extra) at)) own_part.library;
      regions_have = own_part.regions_have;
      regions_only = own_part.regions_only;
      stack = own_part.stack;
      flags = own_part.flags;
      at = subst (λ (p : Place). StandsAt p (view_of s k.directory) j c) (sym at) (about.self, waits so);
    }

pub waits_stand : {names : Names} {s : KernelState} {a : AbstractState} → StandsFor names s a → (n : ℕ) (b : Born) →
    a.slots n ≡ born b → is_handlers (slot_at s n).registers.esp ≡ false → borne_in (place_of (slot_at s n)) ≡ None →
    holds_page (place_of (slot_at s n)) ≡ kept_where false → is_calm (place_of (slot_at s n)) ≡ true → (va from id : ℕ) → IsAboutToWait (slot_at s n) b va from id →
    service_of (record (slot_at s n).registers { eax = 9 }) ≡ service.Receive va from →
    StandsFor names
    (with_slot_at s n (record (slot_at s n) {
      rendezvous = wanting (slot_at s n).rendezvous (destination_of va) from;
      status = NotRunnable;
      extra = words_at 9 (step.ReadingValue id);
    }))
    (receive a n b (slot_at s n).registers va from)
waits_stand {names = names} {s = s} {a = a} h n b is outside unborne holds calm va from id about names_it =
    let c : Born = record b { phase = in_service (service.Receive va from) receiving; blocked = true } in
    let first : server_id a ≡ 0x1000 = ap slot_id h.first in
    subst (λ (x : AbstractState). StandsFor names (with_slot_at s n (waiting_in_slot (slot_at s n) va from id)) x)
    (sym (receive_is a n b (slot_at s n).registers va from about.page about.other.0 (λ same. about.other.1 (same ∙ first))))
    (slot_changed h n b is (waiting_in_slot (slot_at s n) va from id) c refl
    (stopped_settles (slot_at s n) (waiting_in_slot (slot_at s n) va from id) refl refl refl refl)
    (unborne_plain (place_of (slot_at s n)) (handler_runs (slot_at s n).registers (slot_at s n).extra ∙ outside) unborne
    (calm_unmade (place_of (slot_at s n)) calm))
    (ap is_plain (waiting_place (slot_at s n) va from id outside names_it))
    (waiting_own va from id (born_at h n b is) outside holds calm about names_it)
    (calm_places calm (ap is_calm (waiting_place (slot_at s n) va from id outside names_it))) (λ fd. refl))

-- its step
pub receive_step : (a : AbstractState) (n : ℕ) (b : Born) (k : Slot) (va from id : ℕ) → a.slots n ≡ born b →
    IsAboutToWait k b va from id → abs_step a n ≡ Some (receive a n b k.registers va from)
unfolding library_step
receive_step a n b k va from id is about = step_in a n b k (service.Receive va from) entered is about.is_in

-- ---- a message comes

-- where the receiver's slot stands after
told_at : (k : Slot) (id value perm : ℕ) → place_of (received_in k id value perm) ≡ place_of k
unfolding place_in_words handler_step_in
told_at k id value perm = refl

told_own : {names : Names} {s : SpacesState} {k : Slot} {c d : Born} (sender : ℕ) (taken : IsTaken k c sender) →
    (id value perm kind : ℕ) → StandsForBorn names s k d → d.program ≡ c.program → d.phase ≡ c.phase → d.blocked ≡ c.blocked →
    id ≡ sender → id < 2 ^ 32 → value < 2 ^ 32 → perm < 4096 → kind_by perm ≡ kind →
    StandsForBorn names s (received_in k id value perm) (woken c taken.w sender value (d, kind))
told_own {names = names} {s = s} {k = k} {c = c} {d = d} sender taken id value perm kind own_part program phase blocked sender_is id_small value_small perm_small kind_is =
    let j : Slot = received_in k id value perm in
    let after : Born = woken c taken.w sender value (d, kind) in
    let message : Message = record { sender = sender; value = value; page = kind } in
    let came : HasReceived j after taken.w.va taken.w.from = record {
      regs = k.registers;
      program = program ∙ taken.so.program;
      registers = refl;
      message = message;
      phase = refl;
      awake = refl;
      silent = refl;
      come = record {
        value = refl;
        sender = sender_is;
        page = kind_is;
        value_small = value_small;
        sender_small = id_small;
        perm_small = perm_small;
      };
    } in
    record {
      id = own_part.id;
      id_small = own_part.id_small;
      parent = own_part.parent;
      env_type = own_part.env_type;
      runs = tt;
      upcall = own_part.upcall ∙ sym (ap upcall_at (told_at k id value perm));
      descriptors = descriptors_turned names s k.directory (place_of k) (place_of j) d.descriptors (ap is_calm taken.at)
          (ap is_calm (told_at k id value perm ∙ taken.at)) own_part.descriptors;
      memory = own_part.memory;
      library = library_moved (place_of k) (place_of j) k.extra j.extra (rows_of s k.directory) (sym (ap has_copy (told_at k id value perm)))
          (sym (ap (λ (p : Place). pages_kept p k.extra) (told_at k id value perm))) own_part.library;
      regions_have = own_part.regions_have;
      regions_only = own_part.regions_only;
      stack = own_part.stack;
      flags = own_part.flags;
      at = subst (λ (p : Place). StandsAt p (view_of s k.directory) j after) (sym (told_at k id value perm ∙ taken.at)) (taken.self, has came);
    }

module _ {names : Names} {s : KernelState} {a : AbstractState} (h : StandsFor names s a) (n : ℕ) (b : Born) (at : a.slots n ≡ born b)
    (t : ℕ) (c : Born) (there : a.slots t ≡ born c) (taken : IsTaken (slot_at s t) c b.id) (value : ℕ) (small : value < 2 ^ 32) where
  mine : StandsForBorn names s.spaces (slot_at s n) b
  mine = born_at h n b at

  -- the word alone
  pub word_stands : StandsFor names (with_message s n t value 0) (with_born a t (woken c taken.w b.id value (c, 0)))
  word_stands =
      slot_changed h t c there (received_in (slot_at s t) (slot_at s n).id value 0) (woken c taken.w b.id value (c, 0)) refl
      (stopped_settles (slot_at s t) (received_in (slot_at s t) (slot_at s n).id value 0) refl refl refl refl)
      (ap is_plain taken.at) (ap is_plain (told_at (slot_at s t) (slot_at s n).id value 0 ∙ taken.at))
      (told_own b.id taken (slot_at s n).id value 0 0 (born_at h t c there) refl refl refl mine.id mine.id_small small (omega arith) refl)
      (calm_places (ap is_calm taken.at) (ap is_calm (told_at (slot_at s t) (slot_at s n).id value 0 ∙ taken.at))) (λ fd. refl)

  pub word_alone : (va : ℕ) → ((va == 0) || (taken.w.va == 0)) ≡ true →
      StandsFor names (with_message s n t value 0)
      (with_born a t (woken c taken.w b.id value (with_sent c taken.w va b.id (page_at b va))))
  word_alone va none =
      subst (λ (given : Born × ℕ). StandsFor names (with_message s n t value 0) (with_born a t (woken c taken.w b.id value given)))
      (sym (by_page (page_at b va))) word_stands
    where
      by_page : (page : Option Page) → with_sent c taken.w va b.id page ≡ (c, 0)
      by_page None = refl
      by_page (Some page) = ap (λ (x : Bool). if x then (c, 0) else (with_page c taken.w.va page, page_kind page)) none

-- ---- a page comes with it

-- what is told of a page is what its entry's bits are told as
kind_alike : (names : Names) (bytes : ℕ → List ℕ) (x : Entry) → is_page_perm x.perm ≡ true →
    (is_shared x.perm || not (may_write x.perm)) ≡ true → kind_by x.perm ≡ page_kind (page_by names bytes x)
kind_alike names bytes x user passes =
    let some : (x.perm == 0) ≡ false = by_perm (x.perm == 0) refl in
    ap (λ (c : Bool). if c then 0 else if has_write x.perm then 2 else 1) some
    ∙ by_bits (is_shared x.perm) (has_write x.perm) (is_cow x.perm) passes
  where
    never : is_page_perm 0 ≡ true → ⊥
    never is = cc

    by_perm : (c : Bool) → (x.perm == 0) ≡ c → (x.perm == 0) ≡ false
    by_perm false is = is
    by_perm true is =
        let zero_is : x.perm ≡ 0 = grind (arith, nat_tests) in
        absurd (never (subst (λ (p : ℕ). is_page_perm p ≡ true) zero_is user))

    by_bits : (shared_page writes copied : Bool) → (shared_page || not (writes || copied)) ≡ true → (if writes then 2 else 1)
        ≡ page_kind (if shared_page then named (names.name x.frame) writes else own (bytes x.frame) (writes || copied))
    by_bits true writes copied may = refl
    by_bits false false false may = refl
    by_bits false true copied may = absurd (let contradiction : false ≡ true = may in cc)
    by_bits false false true may = absurd (let contradiction : false ≡ true = may in cc)

perm_small : (perm : ℕ) → is_page_perm perm ≡ true → perm < 4096
perm_small perm user =
    let same : bit_and perm PTE_SYSCALL ≡ perm = grind (arith, nat_tests) in
    let most = and_le_r perm PTE_SYSCALL in
    omega (arith, same, most)

module _ {names : Names} {s : KernelState} {a : AbstractState} {sp : SpacesState} (h : StandsFor names s a) (n : ℕ) (b : Born)
    (at : a.slots n ≡ born b) (t : ℕ) (c : Born) (there : a.slots t ≡ born c) (taken : IsTaken (slot_at s t) c b.id)
    (value : ℕ) (small : value < 2 ^ 32) (va : ℕ) (inside : is_page_inside va ≡ true) (x : Entry)
    (hx : rows_of s.spaces (slot_at s n).directory (page_number va) ≡ Some x)
    (passes : (is_shared x.perm || not (may_write x.perm)) ≡ true) (sends_it : borne_in (place_of (slot_at s n)) ≡ None)
    (given : Given s.spaces sp (slot_at s t).directory (page_number taken.w.va) x)
    (some : va ≢ 0) (wanted : taken.w.va ≢ 0)
    (in_order : IsInOrder (with_message (with_spaces s sp) n t value x.perm))
    (counts : (q : ℕ) → q ≢ t → CountsKept s.spaces sp (slot_at s q)) where
  abbrev page : Page
  page = page_by names s.spaces.pages x

  abbrev with_it : Born
  with_it = with_page c taken.w.va page

  spaces_in_order : IsInOrder (with_spaces s sp)
  spaces_in_order =
      slot_was_in_order (with_spaces s sp) t (received_in (slot_at s t) (slot_at s n).id value x.perm) (sym (born_live (born_at h t c there))) refl
      in_order

  unminded : minds_page (place_of (slot_at s t)) ≡ false
  unminded = ap (λ (p : Place). minds_page p) taken.at

  from_programs : is_programs (page_number va) ≡ true
  from_programs = page_inside_programs va inside

  to_programs : is_programs (page_number taken.w.va) ≡ true
  to_programs =
      let somewhere : (taken.w.va == 0) ≡ false = grind (arith, nat_tests) in
      page_inside_programs taken.w.va (sym (ap (λ (c : Bool). c || is_page_inside taken.w.va) somewhere) ∙ taken.so.page)

  page_is : page_at b va ≡ Some page
  page_is =
      (born_at h n b at).memory (page_number va)
      ∙ seen_by names s.spaces (slot_at s n).directory (page_number va) x from_programs hx

  placed : StandsFor names (with_spaces s sp) (with_born a t with_it)
  placed = given_stands h n b at va from_programs x page hx passes page_is sends_it t c there taken.w.va to_programs given unminded spaces_in_order counts

  put_there : (with_born a t with_it).slots t ≡ born with_it
  put_there = upd-at a.slots t (born with_it)

  told : StandsFor names (with_message (with_spaces s sp) n t value x.perm)
      (with_born (with_born a t with_it) t (woken c taken.w b.id value (with_it, page_kind page)))
  told =
      slot_changed placed t with_it put_there (received_in (slot_at s t) (slot_at s n).id value x.perm)
      (woken c taken.w b.id value (with_it, page_kind page)) refl
      (stopped_settles (slot_at s t) (received_in (slot_at s t) (slot_at s n).id value x.perm) refl refl refl refl)
      (ap is_plain taken.at) (ap is_plain (told_at (slot_at s t) (slot_at s n).id value x.perm ∙ taken.at))
      (told_own b.id taken (slot_at s n).id value x.perm (page_kind page) (born_at placed t with_it put_there) refl refl refl
      (born_at h n b at).id (born_at h n b at).id_small small (perm_small x.perm user) (kind_alike names s.spaces.pages x user passes))
      (calm_places (ap is_calm taken.at) (ap is_calm (told_at (slot_at s t) (slot_at s n).id value x.perm ∙ taken.at))) (λ fd. refl)
    where
      user : is_page_perm x.perm ≡ true
      user = (users_inside names s a n b h at (page_number va) x from_programs hx).page

  sent_page : with_sent c taken.w va b.id (page_at b va) ≡ (with_it, page_kind page)
  sent_page =
      let first : (va == 0) ≡ false = grind (arith, nat_tests) in
      let second : (taken.w.va == 0) ≡ false = grind (arith, nat_tests) in
      ap (λ (o : Option Page). with_sent c taken.w va b.id o) page_is
      ∙ (λ i. if first i || second i then (c, 0) else (with_it, page_kind page))

  pub page_stands : StandsFor names (with_message (with_spaces s sp) n t value x.perm)
      (with_born a t (woken c taken.w b.id value (with_sent c taken.w va b.id (page_at b va))))
  page_stands =
      subst (λ (given_it : Born × ℕ). StandsFor names (with_message (with_spaces s sp) n t value x.perm)
      (with_born a t (woken c taken.w b.id value given_it)))
      (sym sent_page)
      (subst (λ (y : AbstractState). StandsFor names (with_message (with_spaces s sp) n t value x.perm) y)
      (λ i. record a { slots = upd-twice a.slots t (born with_it) (born (woken c taken.w b.id value (with_it, page_kind page))) i })
      told)

-- ---- what came is answered

module _ {names : Names} {s : KernelState} {a : AbstractState} (h : StandsFor names s a) (n : ℕ) (b : Born) (at : a.slots n ≡ born b)
    (outside : is_handlers (slot_at s n).registers.esp ≡ false) (unborne : borne_in (place_of (slot_at s n)) ≡ None)
    (holds : holds_page (place_of (slot_at s n)) ≡ kept_where false) (calm : is_calm (place_of (slot_at s n)) ≡ true) (va from : ℕ) (r : HasReceived (slot_at s n) b va from) where
  -- its step
  pub answer_step : abs_step a n ≡ Some (received_answer a n b r.regs r.message)
  unfolding library_step
  answer_step = service_step a n b r.regs (service.Receive va from) (received r.message) at r.program r.phase r.awake

  abbrev told_regs : Regs
  told_regs = record (slot_at s n).registers {
    edx = (slot_at s n).rendezvous.sender;
    ecx = (slot_at s n).rendezvous.value;
    ebx = kind_by (slot_at s n).rendezvous.perm;
  }

  told_is : told_regs ≡ record r.regs { eax = 0; edx = r.message.sender; ecx = r.message.value; ebx = r.message.page }
  told_is = λ i. record (r.registers i) { edx = r.come.sender i; ecx = r.come.value i; ebx = r.come.page i }

  pub answers_with : StandsFor names
      (gone_back s n (record (slot_at s n).registers {
        edx = (slot_at s n).rendezvous.sender;
        ecx = (slot_at s n).rendezvous.value;
        ebx = kind_by (slot_at s n).rendezvous.perm;
      }))
      (received_answer a n b r.regs r.message)
  answers_with =
      subst (λ (regs : Regs). StandsFor names (gone_back s n told_regs) (back_with a n b regs)) told_is
      (back_stands h n b at told_regs unborne holds calm r.silent r.awake outside refl refl)
