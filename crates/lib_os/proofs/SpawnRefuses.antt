-- Spawn that is refused has given back all but the page of its path, and answers an error: its next step in the abstract system is that answer, and the state
-- behind the call that gives back the page stands for the one behind it.
use Rattle.std.proofs.Common.{◌≡◌, ◌≢◌, ◌∙◌, ◌+◌, ◌-◌, ◌%◌, ◌^◌, ◌==◌, ◌++◌, ℕ, Bool, true, false, List, [], ◌∷◌, length, refl, sym, ap, subst, arith}
use Rattle.std.specs.Prelude.{nat_le, nat_lt, slice_index, Option, Some, None, if◌then◌else◌}
use Rattle.std.proofs.lemmas.Bool.Decides.{nat_tests}
use Rattle.std.proofs.lemmas.List.{get_or_at, length-append}
use Rattle.jos_base.specs.declared.numbers.TheConstants.{E_INVAL, PGSIZE}
use Rattle.jos_base.specs.declared.registers.Regs.{Regs}
use Rattle.jos_base.specs.Environments.{Slot, no_extra}
use Rattle.jos_base.specs.KernelState.{KernelState, slot_at, with_slot_at, with_spaces}
use Rattle.jos_base.specs.SpacesState.{SpacesState}
use Rattle.jos_base.specs.Words.{negated, page_number, word_at}
use Rattle.jos_base.proofs.Maps.{upd-at, upd-stays, upd-twice}
use Rattle.jos_elf.specs.declared.numbers.TheConstants.{ARGS_MAX}
use Rattle.jos_elf.specs.StackPage.{fits_stack}
use Rattle.lib_os.specs.declared.numbers.TheConstants.{SPAWN_GIVEN, SPAWN_HERE, SPAWN_STACK}
use Rattle.lib_os.specs.declared.place.Place.{Place}
use Rattle.lib_os.specs.declared.place.Place.TheVariants as place
use Rattle.lib_os.specs.declared.place.Step.TheVariants as step
use Rattle.lib_os.specs.declared.progress.Progress.TheVariants as progress
use Rattle.lib_os.specs.declared.service.Service.TheVariants as service
use Rattle.lib_os.specs.declared.spawn_steps.SpawnStep.TheVariants as spawn
use Rattle.lib_os.specs.declared.spawn_steps.SpawnStep.{SpawnStep}
use Rattle.lib_os.specs.declared.spawn_steps.UndoingStep.TheVariants as undoing
use Rattle.lib_os.specs.AbstractRun.{abs_step}
use Rattle.lib_os.specs.AbstractSpawn.{more_gathered, spawn_answered, spawn_step}
use Rattle.lib_os.specs.AbstractState.{AbstractState, Born, Stage, at_guest, born, guest, quoting, with_born}
use Rattle.lib_os.specs.Answers.{back_with}
use Rattle.lib_os.specs.InOrder.{IsInOrder}
use Rattle.lib_os.specs.LibraryCall.{library_step}
use Rattle.lib_os.specs.LibrarySteps.{KeepsStanding, service_answered}
use Rattle.lib_os.specs.Places.{place_of}
use Rattle.lib_os.specs.Rows.{Names}
use Rattle.lib_os.specs.SpawnGiven.{Lists, Quotes, amid, amid_word, behind, behind_addresses, behind_path, behind_word}
use Rattle.lib_os.specs.StandsAtSpawn.{IsGivenWrongly, IsIn, Refuses, address_outside, by_drop, by_file, by_given, no_fit, string_endless, string_outside, too_many}
use Rattle.lib_os.specs.StandsFor.{StandsAt, StandsFor, StandsForBorn, borne_in, view_of}
use Rattle.lib_os.specs.StandsInHandler.{IsAtGuest}
use Rattle.lib_os.proofs.Effects.{Removed}
use Rattle.lib_os.proofs.Logical.{is_plain}
use Rattle.lib_os.proofs.PageGiven.{give_removes, given_puts, given_row, given_tables, without_working}
use Rattle.lib_os.proofs.PageTaken.{working_back, working_page}
use Rattle.lib_os.proofs.PipesStand.{is_calm, same_places}
use Rattle.lib_os.proofs.Serving.{IsServed, others_kept, printed_nothing, service_step, words_of_none}
use Rattle.lib_os.proofs.SlotsStand.{born_at}
use Rattle.lib_os.proofs.SpawnGathers.{list_steps, quote_steps}
use Rattle.lib_os.proofs.SpawnKeeps.{none_kept}
use Rattle.lib_os.proofs.SpawnOwnPages.{spawn_there, spawns_at}
use Rattle.lib_os.proofs.StatesStand.{slot_changed}

-- ---- lists

-- two lists that are one element longer than others are the same, so that these are as long, and that element is the same
same_longer : (xs ys : List ℕ) (x y : ℕ) → xs ++ x ∷ [] ≡ ys ++ y ∷ [] → length xs ≡ length ys
same_longer xs ys x y same =
    let first = length-append xs (x ∷ []) in
    let second = length-append ys (y ∷ []) in
    let both : length (xs ++ x ∷ []) ≡ length (ys ++ y ∷ []) = ap (λ (l : List ℕ). length l) same in
    omega (arith, first, second, both)

same_last : (xs ys : List ℕ) (x y : ℕ) → xs ++ x ∷ [] ≡ ys ++ y ∷ [] → x ≡ y
same_last xs ys x y same =
    sym (get_or_at xs x [] 0 (length ys) (same_longer xs ys x y same)) ∙ ap (λ (l : List ℕ). slice_index l (length ys)) same
    ∙ get_or_at ys y [] 0 (length ys) refl

not_empty : (xs : List ℕ) (x : ℕ) → xs ++ x ∷ [] ≡ [] → ⊥
not_empty xs x same =
    let first = length-append xs (x ∷ []) in
    let none : length (xs ++ x ∷ []) ≡ 0 = ap (λ (l : List ℕ). length l) same in
    omega (arith, first, none)

-- ---- the step of the abstract system

module _ (a : AbstractState) (n : ℕ) (b : Born) (regs : Regs) (path argv : ℕ) where
  -- with this it is over
  abbrev over : ℕ → Option AbstractState
  over word = Some (spawn_answered a n b regs word)

  -- there is one address too many
  too_many_refused : (name addresses : List ℕ) (word : ℕ) (stage : Stage) → Lists b name (addresses ++ word ∷ []) [] stage → length addresses ≡ ARGS_MAX →
      word ≢ 0 → library_step a n b regs (service.Spawn path argv) stage ≡ over (negated E_INVAL)
  unfolding library_step spawn_step
  too_many_refused name addresses word stage lists full some = by_case (addresses ++ word ∷ []) [] refl refl lists
    where
      by_case : {one : List ℕ} {at : Stage} (all taken : List ℕ) → all ≡ addresses ++ word ∷ [] → taken ≡ [] → Lists b one all taken at →
          library_step a n b regs (service.Spawn path argv) at ≡ over (negated E_INVAL)
      by_case _ _ same none (behind_path bytes whole) = absurd (not_empty addresses word (sym same))
      by_case _ _ same none (amid one first taken found more few) =
          absurd (let nothing : length taken ≡ 0 = ap (λ (l : List ℕ). length l) none in omega (arith, more, nothing))
      by_case _ _ same none (behind one first taken found whole) =
          let last : ℕ = word_at (slice_index taken) 0 in
          let all : nat_lt (length taken) 4 ≡ false = grind (arith, nat_tests, whole) in
          let one_word : last ≡ word = same_last first addresses last word same in
          let more : (last == 0) ≡ false = grind (arith, nat_tests, one_word, some) in
          let long = same_longer first addresses last word same in
          let past : nat_le ARGS_MAX (length first) ≡ true = grind (arith, nat_tests, long, full) in
          rw (found, all, more, past) refl

  -- the words have no room
  no_fit_refused : (name : List ℕ) (words : List (List ℕ)) (stage : Stage) → Quotes b name [] words [] stage → fits_stack words ≡ false →
      library_step a n b regs (service.Spawn path argv) stage ≡ over (negated E_INVAL)
  unfolding library_step spawn_step
  no_fit_refused name words stage quotes off = by_case [] refl quotes off
    where
      by_case : {one taken : List ℕ} {some : List (List ℕ)} {at : Stage} (left : List ℕ) → left ≡ [] → Quotes b one left some taken at →
          fits_stack some ≡ false → library_step a n b regs (service.Spawn path argv) at ≡ over (negated E_INVAL)
      by_case _ none (behind_addresses one addresses taken found whole last) off =
          let all : nat_lt (length taken) 4 ≡ false = grind (arith, nat_tests, whole) in rw (found, all, last, none, off) refl
      by_case _ none (amid_word one address left some taken found no_end) off = absurd (let contradiction : address ∷ left ≡ [] = none in cc)
      by_case _ none (behind_word one address left some taken found ended) off = rw (found, ended, none, off) refl

  -- what it is given is refused
  pub wrongly_refused : {stage : Stage} → IsGivenWrongly b path argv stage →
      library_step a n b regs (service.Spawn path argv) stage ≡ over (negated E_INVAL)
  wrongly_refused (address_outside name addresses taken stage lists are few off) = list_steps a n b regs path argv lists are few ∙ rw off refl
  wrongly_refused (too_many name addresses word stage lists full some) = too_many_refused name addresses word stage lists full some
  wrongly_refused (string_outside name left taken words address stage quotes off) =
      quote_steps a n b regs path argv quotes ∙ by_long (nat_le PGSIZE (length taken))
    where
      by_long : (long : Bool) →
          (if long then over (negated E_INVAL)
          else more_gathered a n b regs (service.Spawn path argv) (quoting name (address ∷ left) words) ((address + length taken) % 2 ^ 32)
          (PGSIZE - length taken) taken) ≡ over (negated E_INVAL)
      by_long true = refl
      by_long false = rw off refl
  wrongly_refused (string_endless name left taken words address stage quotes full) =
      let long : nat_le PGSIZE (length taken) ≡ true = grind (arith, nat_tests, full) in
      quote_steps a n b regs path argv quotes ∙ rw long refl
  wrongly_refused (no_fit name words stage quotes off) = no_fit_refused name words stage quotes off

-- Its registers are those of its program, but for EAX.
answered_alike : (a : AbstractState) (n : ℕ) {k : Slot} {b : Born} {path argv : ℕ} {stage : Stage} (h : IsIn k b path argv stage) (word : ℕ) →
    spawn_answered a n b h.regs word ≡ spawn_answered a n b k.registers word
answered_alike a n {b = b} h word = λ i. spawn_answered a n b (sym h.registers i) word

module _ (a : AbstractState) (n : ℕ) (k : Slot) (b : Born) (path argv : ℕ) (is : a.slots n ≡ born b) where
  step_is : {stage : Stage} (h : IsIn k b path argv stage) → abs_step a n ≡ library_step a n b h.regs (service.Spawn path argv) stage
  step_is {stage = stage} h = service_step a n b h.regs (service.Spawn path argv) stage is h.program h.phase h.awake

  pub refuses_step : {answer : ℕ} → Refuses k b path argv answer → abs_step a n ≡ Some (spawn_answered a n b k.registers answer)
  unfolding library_step spawn_step
  refuses_step {answer = answer} (by_given stage is_in wrongly same) =
      step_is is_in ∙ wrongly_refused a n b is_in.regs path argv wrongly
      ∙ ap Some (answered_alike a n is_in (negated E_INVAL)) ∙ ap (λ (w : ℕ). Some (spawn_answered a n b k.registers w)) (sym same)
  refuses_step {answer = answer} (by_file words found none) =
      step_is found.is_in ∙ rw (found.is, none) refl ∙ ap Some (answered_alike a n found.is_in answer)
  refuses_step {answer = answer} (by_drop found) = step_is found.is_in ∙ rw found.is refl ∙ ap Some (answered_alike a n found.is_in answer)

pub refuses_awake : {k : Slot} {b : Born} {path argv answer : ℕ} → Refuses k b path argv answer →
    (k.rendezvous.receiving ≡ false) × (b.blocked ≡ false)
refuses_awake (by_given stage is_in wrongly same) = (is_in.silent, is_in.awake)
refuses_awake (by_file words found none) = (found.is_in.silent, found.is_in.awake)
refuses_awake (by_drop found) = (found.is_in.silent, found.is_in.awake)

-- ---- at its program nothing is told of what a spawn has found out

same_slot : (s : KernelState) (n : ℕ) → with_slot_at s n (slot_at s n) ≡ s
same_slot s n =
    λ i. record s { environments = record s.environments { slots = λ q. upd-stays s.environments.slots n (slot_at s n) refl q i } }

pub born_twice : (a : AbstractState) (n : ℕ) (b c : Born) → with_born (with_born a n b) n c ≡ with_born a n c
born_twice a n b c = λ i. record a { slots = upd-twice a.slots n (born b) (born c) i }

module _ {names : Names} {s : KernelState} {a : AbstractState} (h : StandsFor names s a) (n : ℕ) (b : Born) (is : a.slots n ≡ born b)
    (guest_there : place_of (slot_at s n) ≡ place.Guest) where
  abbrev later : Born
  later = record b { spawning = None }

  part : StandsForBorn names s.spaces (slot_at s n) later
  part =
      let own = born_at h n b is in
      let at : IsAtGuest (slot_at s n) b =
      subst (λ (p : Place). StandsAt p (view_of s.spaces (slot_at s n).directory) (slot_at s n) b) guest_there own.at in
      record {
        id = own.id;
        id_small = own.id_small;
        parent = own.parent;
        env_type = own.env_type;
        runs = own.runs;
        upcall = own.upcall;
        descriptors = own.descriptors;
        memory = own.memory;
        library = own.library;
        regions_have = own.regions_have;
        regions_only = own.regions_only;
        stack = own.stack;
        flags = own.flags;
        at = subst (λ (p : Place). StandsAt p (view_of s.spaces (slot_at s n).directory) (slot_at s n) later) (sym guest_there)
            (record { program = at.program; phase = at.phase; words = at.words; silent = at.silent; awake = at.awake });
      }

  pub spawning_over : StandsFor names s (with_born a n (record b { spawning = None }))
  spawning_over =
      let plain : is_plain (place_of (slot_at s n)) ≡ true = ap is_plain guest_there in
      subst (λ (t : KernelState). StandsFor names t (with_born a n later)) (same_slot s n)
      (slot_changed h n b is (slot_at s n) later refl (record { id = refl; env_type = refl; turns = refl; calm = λ runs. runs }) plain plain part
      (same_places refl) (λ fd. refl))

-- ---- the state behind the call

module _ {names : Names} {s : KernelState} {a : AbstractState} {sp : SpacesState} (h : StandsFor names s a) (n path argv error : ℕ)
    (stands : place_of (slot_at s n) ≡ spawns_at path argv (spawn.Undoing (undoing.UndoingPath error)))
    (removed : Removed s.spaces sp (slot_at s n).directory working_page) (in_order : IsInOrder (with_spaces s sp)) (last : s.last ≡ Some n) where
  abbrev from : SpawnStep
  from = spawn.Undoing (undoing.UndoingPath error)

  abbrev v : IsServed names s a n (service.Spawn path argv) (step.Spawning from)
  v = spawn_there h n path argv from stands

  abbrev regs : Regs
  regs = record (slot_at s n).registers { eax = error }

  abbrev back : Slot
  back = record (slot_at s n) { registers = regs; extra = no_extra }

  at_program : place_of back ≡ place.Guest
  at_program = words_of_none regs no_extra v.outside refl

  so : Refuses (slot_at s n) v.b path argv error
  so = v.at

  no_others : others_kept (place_of (slot_at s n)) ≡ others_kept place.Guest
  no_others =
      ap others_kept stands
      ∙ (λ i. λ p. none_kept (p == page_number SPAWN_GIVEN) (p == page_number SPAWN_STACK) (p == page_number SPAWN_HERE) i)

  abbrev gone : AbstractState
  gone = back_with a n v.b regs

  answers_stands : StandsFor names (service_answered (with_spaces s sp) n error) gone
  answers_stands =
      let awake = refuses_awake so in
      working_back h n v.b v.is v.own v.outside (ap borne_in stands) (ap is_calm stands) (given_puts h n v.b v.is removed) last regs no_extra place.Guest
      at_program refl refl refl no_others refl refl refl awake.0 awake.1 refl refl (given_tables h n v.b v.is removed) (given_row h n v.b v.is removed)
      in_order

  pub refused_stands : StandsFor names (service_answered (with_spaces s sp) n error) (spawn_answered a n v.b (slot_at s n).registers error)
  refused_stands =
      let c : Born = record v.b { program = guest regs; phase = at_guest; blocked = false } in
      let there : slot_at (service_answered (with_spaces s sp) n error) n ≡ back = upd-at s.environments.slots n back in
      subst (λ (x : AbstractState). StandsFor names (service_answered (with_spaces s sp) n error) x) (born_twice a n c (record c { spawning = None }))
      (spawning_over answers_stands n c (upd-at a.slots n (born c)) (ap (λ (k : Slot). place_of k) there ∙ at_program))

-- what the step comes to
pub gives_path_back : (s : KernelState) (n path argv error : ℕ) →
    place_of (slot_at s n) ≡ spawns_at path argv (spawn.Undoing (undoing.UndoingPath error)) → IsInOrder (with_spaces s (without_working s n)) →
    KeepsStanding progress.Finished n s (service_answered (with_spaces s (without_working s n)) n error) []
gives_path_back s n path argv error stands in_order a h turn quiet =
    let v = spawn_there h.1 n path argv (spawn.Undoing (undoing.UndoingPath error)) stands in (
      spawn_answered a n v.b (slot_at s n).registers error,
      refuses_step a n (slot_at s n) v.b path argv v.is v.at,
      printed_nothing a,
      (h.0, refused_stands h.1 n path argv error stands (give_removes s n h.1) in_order turn.last),
    )
