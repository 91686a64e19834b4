-- The law of spawn as it sets its child's registers, by the record in its own page: the child stands at its first instruction then.
use Rattle.std.proofs.Common.{◌≡◌, ◌≢◌, ◌∙◌, ◌+◌, ◌*◌, ◌<◌, ◌≤◌, ◌==◌, ◌%◌, ◌^◌, ◌⊎◌, inl, inr, ℕ, zero, suc, Bool, true, false, List, [], ◌∷◌, Some, Ok}
use Rattle.std.proofs.Common.{length, map, refl, sym, ap, subst, arith}
use Rattle.std.proofs.Common.{if◌then◌else◌}
use Rattle.std.specs.Prelude.{get_or, slice_index}
use Rattle.std.proofs.lemmas.Bool.{eqb-false, eqb-true, false≢true}
use Rattle.std.proofs.lemmas.Bool.Decides.{nat_tests}
use Rattle.jos_base.specs.declared.called.Called.{Called}
use Rattle.jos_base.specs.declared.called.Called.TheVariants.{Answered, Blocked, Ended}
use Rattle.jos_base.specs.declared.numbers.TheConstants.{FL_1, FL_IF, NENV, SYS_ENV_SET_TRAPFRAME, UTEMP, USTACKTOP}
use Rattle.jos_base.specs.declared.registers.Regs.{Regs}
use Rattle.jos_base.specs.Environments.{Slot, is_live}
use Rattle.jos_base.specs.KernelState.{KernelState, slot_at, with_extra, with_slot_at, with_spaces}
use Rattle.jos_base.specs.SpacesState.{SpacesState, rising}
use Rattle.jos_base.specs.SystemCalls.{record_size, user_bytes}
use Rattle.jos_base.specs.TrapFrames.{bytes_of_words, from_record, words_of_bytes}
use Rattle.jos_base.specs.UserMemory.{all_touched}
use Rattle.jos_base.specs.Words.{page_number}
use Rattle.jos_base.proofs.Maps.{upd-at, upd-other}
use Rattle.jos_elf.specs.Headers.{entry_count_of, entry_point_of}
use Rattle.jos_elf.specs.StackPage.{stack_pointer}
use Rattle.jos_elf.specs.Started.{program_registers}
use Rattle.lib_os.specs.declared.numbers.TheConstants.{SERVICE_SPAWN}
use Rattle.lib_os.specs.declared.place.Place.TheVariants as place
use Rattle.lib_os.specs.declared.place.Step.TheVariants as step
use Rattle.lib_os.specs.declared.progress.Progress.TheVariants as progress
use Rattle.lib_os.specs.declared.service.Service.TheVariants as service
use Rattle.lib_os.specs.declared.spawn_steps.BearingStep.{BearingStep}
use Rattle.lib_os.specs.declared.spawn_steps.BearingStep.TheVariants as bearing
use Rattle.lib_os.specs.declared.spawn_steps.SpawnStep.{SpawnStep}
use Rattle.lib_os.specs.declared.spawn_steps.SpawnStep.TheVariants as spawn
use Rattle.lib_os.specs.AbstractState.{AbstractState, Born, ImageRead}
use Rattle.lib_os.specs.InOrder.{IsInOrder}
use Rattle.lib_os.specs.LibraryPages.{View}
use Rattle.lib_os.specs.LibrarySteps.{Lowers}
use Rattle.lib_os.specs.Places.{is_handlers, place_of}
use Rattle.lib_os.specs.Rows.{Names}
use Rattle.lib_os.specs.SpawnedChild.{IsProgress, Loads, Progress, bytes_replied, fresh, placing}
use Rattle.lib_os.specs.StandsAtSpawn.{HasRecord, register_word as word_of_record, register_words}
use Rattle.lib_os.specs.StandsFor.{StandsFor, borne_in, view_of}
use Rattle.lib_os.specs.UserCalls.{CallStep, giving, got, system}
use Rattle.lib_os.proofs.FrameRead.{words_back}
use Rattle.lib_os.proofs.GoingOn.{went_to}
use Rattle.lib_os.proofs.NumbersKept.{copies_kept}
use Rattle.lib_os.proofs.OthersCopies.{plain_wait}
use Rattle.lib_os.proofs.OthersKept.{OthersStay, StaysThere}
use Rattle.lib_os.proofs.RegistersSet.{SetsRegisters, own_record_reads, registers_set_is, registers_stand, trapframe_lives}
use Rattle.lib_os.proofs.ServerLeft.{trapframe_server}
use Rattle.lib_os.proofs.Serving.{words_of_none}
use Rattle.lib_os.proofs.SpawnedGoes.{IsSpawner, spawner}
use Rattle.lib_os.proofs.SpawnedProgress.{loads_same}
use Rattle.lib_os.proofs.SpawnOwnPages.{spawn_there, spawn_words, spawns_at, spawns_own}
use Rattle.lib_os.proofs.StepsLeave.{Behind, behind}
use Rattle.lib_os.proofs.Touching.{all_touched_quiet}
use Rattle.lib_stage.specs.declared.ask.Ask.TheVariants as ask
use Rattle.lib_stage.specs.declared.ask.Next.TheVariants as next
use Rattle.lib_stage.specs.Asks.{performed}
use Rattle.lib_stage.specs.Nexts.{is_gone, seen_as, settled}
use Rattle.lib_stage.specs.ServiceSteps.{Plan, ServiceHolds, upshot_by}
use Rattle.lib_stage.proofs.Laws.{FollowsBy, behind_so, law_with, service_lowers, system_gives}
use Rattle.lib_child.specs.BearingStages.{bears}
use Rattle.lib_child.specs.ChildSegments.{pages_from}
use Rattle.lib_child.proofs.BearingFalls.{bearing_falls}
use Rattle.lib_child.proofs.BearingOn.{ComesTo, none_mine, pages_come}
use Rattle.lib_child.proofs.PiecesLeft.{count_of}
use Rattle.lib_child.proofs.RecordTold.{record_told}
use Rattle.lib_child.proofs.RegisterGoes.{register_words_long}

-- ---- the words of the record

word_small : (entry_point esp index : ℕ) → entry_point < 2 ^ 32 → esp < 2 ^ 32 → word_of_record entry_point esp index < 2 ^ 32
word_small entry_point esp index first second = by_tests (index == 12) (index == 14) (index == 15)
  where
    by_tests : (c d e : Bool) → (if c then entry_point else if d then FL_IF + FL_1 else if e then esp else 0) < 2 ^ 32
    by_tests true d e = first
    by_tests false true e = omega arith
    by_tests false false true = second
    by_tests false false false = omega arith

each_small : (word : ℕ → ℕ) → ((j : ℕ) → word j < 2 ^ 32) → (numbers : List ℕ) (i : ℕ) → i < length (map word numbers) →
    get_or (map word numbers) i 0 < 2 ^ 32
each_small word small [] i lt = absurd (omega (arith, lt))
each_small word small (j ∷ rest) zero lt = small j
each_small word small (j ∷ rest) (suc i) lt = each_small word small rest i (omega (arith, lt))

esp_below : (words : List (List ℕ)) → stack_pointer words ≤ USTACKTOP
esp_below words = omega arith

esp_outside : (words : List (List ℕ)) → is_handlers (stack_pointer words) ≡ false
esp_outside words = let low = esp_below words in grind (arith, nat_tests, low)

-- they tell the registers of its program
registers_told : (entry_point : ℕ) (words : List (List ℕ)) → entry_point < 2 ^ 32 →
    from_record (words_of_bytes (bytes_of_words (register_words entry_point (stack_pointer words) 17))) ≡ program_registers entry_point words
registers_told entry_point words small =
    let low = esp_below words in
    ap from_record
    (words_back (register_words entry_point (stack_pointer words) 17)
    (each_small (word_of_record entry_point (stack_pointer words))
    (λ j. word_small entry_point (stack_pointer words) j small (omega (arith, low))) (rising 0 17)))
    ∙ record_told (stack_pointer words) entry_point

-- ---- the law

module _ (s : KernelState) (n path argv : ℕ) (live : is_live (slot_at s n) ≡ true) (fd headers child : ℕ)
    (stands : place_of (slot_at s n) ≡ spawns_at path argv (spawn.Bearing (bearing.SettingRegisters fd headers child))) where
  abbrev at : BearingStep
  at = bearing.SettingRegisters fd headers child

  abbrev from : SpawnStep
  from = spawn.Bearing at

  abbrev to : SpawnStep
  to = pages_from fd headers child 0

  abbrev home : ℕ
  home = (slot_at s n).directory

  abbrev m : ℕ
  m = child % NENV

  abbrev args : List ℕ
  args = child ∷ UTEMP ∷ 0 ∷ 0 ∷ 0 ∷ []

  abbrev asked : CallStep Called
  asked = system s n SYS_ENV_SET_TRAPFRAME args

  abbrev plan : Plan
  plan = bears (record { at = bearing.SettingRegisters fd headers child })

  abbrev reached : SpacesState
  reached = all_touched s.spaces home UTEMP record_size

  module _ (names : Names) (a : AbstractState) (h : StandsFor names s a) where
    abbrev b : Born
    b = (spawn_there h n path argv from stands).b

    so : HasRecord (view_of s.spaces home) (slot_at s n) b path argv fd headers child
    so = (spawn_there h n path argv from stands).at

    u : IsSpawner names s a n path argv from child b
    u = spawner h n path argv child from stands refl

    abbrev entry_point : ℕ
    entry_point = entry_point_of (slice_index so.image.header)

    abbrev bytes : List ℕ
    bytes = bytes_of_words (register_words entry_point (stack_pointer so.image.words) 17)

    abbrev regs : Regs
    regs = from_record (words_of_bytes bytes)

    regs_are : regs ≡ program_registers entry_point so.image.words
    regs_are = registers_told entry_point so.image.words so.begins

    outside : is_handlers regs.esp ≡ false
    outside = ap (λ (r : Regs). is_handlers r.esp) regs_are ∙ esp_outside so.image.words

    reads : user_bytes s n UTEMP record_size ≡ Ok bytes
    reads =
        own_record_reads (spawns_own h n path argv from stands (page_number UTEMP) refl) bytes so.kept
        (register_words_long entry_point (stack_pointer so.image.words) 17) (omega arith)

    abbrev started : Slot
    started = record (slot_at s m) { registers = regs }

    call_is : asked ≡ giving (with_slot_at (with_spaces s reached) m started) (Answered 0)
    call_is = registers_set_is h n child b (spawn_there h n path argv from stands).is (ap borne_in stands) UTEMP bytes reads

    -- nobody else is another, and the child stands nowhere but at its program
    others_stay : OthersStay s n asked.state
    others_stay =
        subst (λ (z : CallStep Called). OthersStay s n z.state) (sym call_is) (record { stay = λ j ne was lives. by_child j (j == m) refl })
      where
        guest : (k : Slot) → k.extra ≡ (slot_at s m).extra → is_handlers k.registers.esp ≡ false → place_of k ≡ place.Guest
        guest k extra free = words_of_none k.registers k.extra free (extra ∙ u.child_own.words)

        at_child : StaysThere (slot_at s m) (slot_at (with_slot_at (with_spaces s reached) m started) m)
        at_child =
            subst (λ (k : Slot). StaysThere (slot_at s m) k) (sym (upd-at s.environments.slots m started))
            (record { place = guest started refl outside ∙ sym (guest (slot_at s m) refl u.child_own.stack); directory = refl })

        by_child : (j : ℕ) (c : Bool) → (j == m) ≡ c → StaysThere (slot_at s j) (slot_at (with_slot_at (with_spaces s reached) m started) j)
        by_child j true test =
            subst (λ (q : ℕ). StaysThere (slot_at s q) (slot_at (with_slot_at (with_spaces s reached) m started) q)) (sym (eqb-true j m test)) at_child
        by_child j false test =
            subst (λ (k : Slot). StaysThere (slot_at s j) k) (sym (upd-other s.environments.slots m started j (eqb-false j m test)))
            (record { place = refl; directory = refl })

    -- the caller's registers are what they were
    own_registers : (slot_at asked.state n).registers ≡ (slot_at s n).registers
    own_registers =
        ap (λ (z : CallStep Called). (slot_at z.state n).registers) call_is
        ∙ ap (λ (k : Slot). k.registers) (upd-other s.environments.slots m started n (λ same. u.apart (sym same)))

    -- ---- where it goes on

    comes : (v : View) → HasRecord v (slot_at s n) b path argv fd headers child →
        (image : ImageRead) × ComesTo v (slot_at s n) b path argv child (count_of image) (placing 0 0) to
    comes v it = (it.image, pages_come it.has 0 (omega arith))

    abbrev on : ComesTo (view_of s.spaces home) (slot_at s n) b path argv child (count_of so.image) (placing 0 0) to
    on = pages_come so.has 0 (omega arith)

    sets_so : (file : List ℕ) → SetsRegisters b so.image file fresh to
    sets_so file = record {
      progress = placing 0 0;
      is_so = on.is_so;
      registers = refl;
      handler = refl;
      handler_stack = refl;
      passed = refl;
      pages = λ p. refl;
    }

    sets : (image : ImageRead) (file : List ℕ) (progress : Progress) → Loads m image b.spawning (bytes_replied b.phase) file →
        IsProgress (entry_count_of (slice_index image.header)) from progress →
        SetsRegisters b image file progress to × (regs ≡ program_registers (entry_point_of (slice_index image.header)) image.words)
    sets image file progress loads is_so =
        let same = loads_same loads so.has.found.is in
        subst (λ (x : ImageRead). SetsRegisters b x file progress to × (regs ≡ program_registers (entry_point_of (slice_index x.header)) x.words))
        (sym same.image_is)
        (subst (λ (p : Progress). SetsRegisters b so.image file p to) (sym is_so) (sets_so file), regs_are)

    set_stands : s.last ≡ Some n → IsInOrder (with_slot_at (with_spaces s reached) m started) →
        StandsFor names (with_extra (with_slot_at (with_spaces s reached) m started) n (spawn_words to)) a
    set_stands last order =
        registers_stand h n path argv child from to stands refl on.bears (sym on.held) (none_mine from refl refl) on.mine
        (all_touched_quiet s.spaces home UTEMP record_size) regs last order outside sets (λ v it. (comes v it).1.stands)

    follows : s.last ≡ Some n → IsInOrder asked.state → FollowsBy s n plan a asked
    follows last order =
        subst (λ (z : CallStep Called). IsInOrder z.state → FollowsBy s n plan a z) (sym call_is)
        (λ in_order. (refl, (names, set_stands last in_order))) order

  -- ---- whatever it stands for

  -- who is not gone lives on
  lives : (called : Called) → asked.gives ≡ got called → is_gone (plan.next called) ≡ false → is_live (slot_at asked.state n) ≡ true
  lives called gives stays = by_case (trapframe_lives s n live args)
    where
      by_case : (asked.gives ≡ got Ended) ⊎ (is_live (slot_at asked.state n) ≡ true) → is_live (slot_at asked.state n) ≡ true
      by_case (inl ends) =
          let same : got Ended ≡ got called = sym ends ∙ gives in
          let ended : Ended ≡ called = cc in
          absurd (false≢true (sym stays ∙ ap (λ (c : Called). is_gone (plan.next c)) (sym ended)))
      by_case (inr on) = on

  left_behind : Behind s n asked.state
  left_behind =
      behind s n SYS_ENV_SET_TRAPFRAME args refl (λ before then_so on a h. others_stay h.0 a h.1)
      (copies_kept s asked.state n (plain_wait s n SYS_ENV_SET_TRAPFRAME args refl)) (trapframe_server s n args)

  -- a hidden step lowers the number
  goes_lower : Lowers (Ok progress.Hidden) n s (settled SERVICE_SPAWN (next.GoOn (step.Spawning to)) asked.state n)
  goes_lower a h turn quiet =
      service_lowers s (settled SERVICE_SPAWN (next.GoOn (step.Spawning to)) asked.state n) n (service.Spawn path argv) (step.Spawning from)
      (step.Spawning to) stands
      (went_to s asked.state (settled SERVICE_SPAWN (next.GoOn (step.Spawning to)) asked.state n) n n n (service.Spawn path argv) (step.Spawning from)
      (step.Spawning to) stands (own_registers h.0 a h.1) refl refl refl)
      (bearing_falls path argv at 0 tt)

  lowers_by : (called : Called) → Lowers (Ok (seen_as (plan.next called))) n s (settled SERVICE_SPAWN (plan.next called) asked.state n)
  lowers_by Ended = tt
  lowers_by (Answered word) = goes_lower
  lowers_by Blocked = goes_lower

  lowers : (let did = upshot_by plan n asked asked.gives in Lowers (Ok did.progress) n s did.state)
  lowers =
      let gives = system_gives s n SYS_ENV_SET_TRAPFRAME args in
      subst (λ g. let did = upshot_by plan n asked g in Lowers (Ok did.progress) n s did.state) (sym gives.1) (lowers_by gives.0)

  pub setting_registers_holds : ServiceHolds s n (bears (record { at = bearing.SettingRegisters fd headers child }))
  unfolding performed
  setting_registers_holds =
      law_with s n plan (service.Spawn path argv) (step.Spawning from)
      (record { stands = stands; plain = behind_so left_behind; goes_on = refl; few = omega arith }) lives
      (λ order a h turn quiet. follows h.0 a h.1 turn.last order)
      (λ may a h turn.
      let ends = may.1 (λ same. omega (arith, same)) in
      let same : got Ended ≡ got (Answered 0) = sym ends ∙ ap (λ (z : CallStep Called). z.gives) (call_is h.0 a h.1) in
      absurd cc)
      lowers
