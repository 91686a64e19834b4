-- Spawn, where the next byte of what it is given lies in a page that the abstract system does not allow to be read: its next step ends the
-- environment.
use Rattle.std.proofs.Common.{◌≡◌, ◌≢◌, ◌∙◌, ◌-◌, ◌^◌, ◌<◌, ◌≤◌, ◌==◌, ◌++◌, ℕ, true, false, List, [], ◌∷◌, length, refl, sym, ap, subst, arith}
use Rattle.std.specs.Prelude.{All, Option, Some, nat_le, nat_lt, slice_index}
use Rattle.std.proofs.lemmas.Bool.Decides.{nat_tests}
use Rattle.std.proofs.lemmas.List.{get_or_at, length-append}
use Rattle.jos_base.specs.declared.memory.Access.TheVariants.{Read}
use Rattle.jos_base.specs.declared.numbers.TheConstants.{PGSIZE}
use Rattle.jos_base.specs.declared.registers.Regs.{Regs}
use Rattle.jos_base.specs.Environments.{Slot}
use Rattle.jos_base.specs.Words.{word_at}
use Rattle.jos_elf.specs.declared.numbers.TheConstants.{ARGS_MAX}
use Rattle.lib_os.specs.declared.service.Service.TheVariants as service
use Rattle.lib_os.specs.declared.spawn_steps.GivenStep.TheVariants as given
use Rattle.lib_os.specs.AbstractMemory.{page_allows, page_at}
use Rattle.lib_os.specs.AbstractSpawn.{address_gathered, more_gathered, spawn_step, string_gathered}
use Rattle.lib_os.specs.AbstractState.{AbstractState, Born, guest, Spawning, Stage, listing, quoting}
use Rattle.lib_os.specs.Answers.{ended_at}
use Rattle.lib_os.specs.Fence.{is_inside}
use Rattle.lib_os.specs.LibraryCall.{library_step}
use Rattle.lib_os.specs.LibraryPages.{View}
use Rattle.lib_os.specs.SpawnGiven.{Lists, Quotes, address_place, amid, amid_word, behind, behind_addresses, behind_path, behind_word, string_place}
use Rattle.lib_os.specs.StandsAtSpawn.{GivenStands}
use Rattle.lib_os.specs.StandsInHandler.{listed, quoted}
use Rattle.lib_os.proofs.Beneath.{IsStopping}

-- of those in a list the last
last_all : (P : ℕ → Type 0) (before : List ℕ) (x : ℕ) → All P (before ++ x ∷ []) → P x
last_all P before x each =
    let many = length-append before (x ∷ []) in
    subst P (get_or_at before x [] 0 (length before) refl) (each (length before) 0 (omega (arith, many)))

module _ (a : AbstractState) (n : ℕ) (b : Born) (regs : Regs) (path argv va : ℕ) (inside : is_inside va ≡ true)
    (off : page_allows (page_at b va) Read ≡ false) where
  abbrev over : Option AbstractState
  over = Some (ended_at a n b regs va)

  -- whatever it has found out, and however many are still wanted
  gathered_ends : (found : Spawning) (at wanted : ℕ) (taken : List ℕ) → at ≡ va →
      more_gathered a n b regs (service.Spawn path argv) found at wanted taken ≡ over
  gathered_ends found at wanted taken there =
      ap (λ (x : ℕ). more_gathered a n b regs (service.Spawn path argv) found x wanted taken) there ∙ rw (inside, off) refl

  address_ends : (name addresses taken : List ℕ) → va ≡ address_place argv (length addresses) (length taken) →
      address_gathered a n b regs (service.Spawn path argv) argv name addresses taken ≡ over
  address_ends name addresses taken there =
      gathered_ends (listing name addresses) (address_place argv (length addresses) (length taken)) (4 - length taken) taken (sym there)

  string_ends : (found : Spawning) (address : ℕ) (taken : List ℕ) → length taken < PGSIZE → va ≡ string_place address (length taken) →
      string_gathered a n b regs (service.Spawn path argv) found address taken ≡ over
  string_ends found address taken short there =
      let long : nat_le PGSIZE (length taken) ≡ false = grind (arith, nat_tests, short) in
      rw long (gathered_ends found (string_place address (length taken)) (PGSIZE - length taken) taken (sym there))

  -- an address is taken
  pub list_ends : {name addresses taken : List ℕ} {stage : Stage} → Lists b name addresses taken stage →
      All (λ address. (address ≢ 0) × (address < 2 ^ 32)) addresses → length addresses ≤ ARGS_MAX →
      va ≡ address_place argv (length addresses) (length taken) → library_step a n b regs (service.Spawn path argv) stage ≡ over
  unfolding library_step spawn_step
  list_ends (behind_path bytes whole) are few there = rw whole (address_ends _ [] [] there)
  list_ends (amid name addresses taken found some fewer) are few there =
      let less : nat_lt (length taken) 4 ≡ true = grind (arith, nat_tests, fewer) in
      rw (found, less) (address_ends name addresses taken there)
  list_ends (behind name addresses taken found whole) are few there =
      let word : ℕ = word_at (slice_index taken) 0 in
      let all : nat_lt (length taken) 4 ≡ false = grind (arith, nat_tests, whole) in
      let more : word ≢ 0 = (last_all (λ address. (address ≢ 0) × (address < 2 ^ 32)) addresses word are).0 in
      let some : (word == 0) ≡ false = grind (arith, nat_tests, more) in
      let many = length-append addresses (word ∷ []) in
      let room : nat_le ARGS_MAX (length addresses) ≡ false = grind (arith, nat_tests, many, few) in
      rw (found, all, some, room) (address_ends name (addresses ++ word ∷ []) [] there)

  -- or a string
  pub quote_ends : {name left taken : List ℕ} {words : List (List ℕ)} {stage : Stage} {address : ℕ} → Quotes b name (address ∷ left) words taken stage →
      length taken < PGSIZE → va ≡ string_place address (length taken) → library_step a n b regs (service.Spawn path argv) stage ≡ over
  unfolding library_step spawn_step
  quote_ends {name = name} {left = left} {address = address} h short there = by_case (address ∷ left) refl h short there
    where
      by_case : {name taken : List ℕ} {words : List (List ℕ)} {stage : Stage} (all : List ℕ) → all ≡ address ∷ left → Quotes b name all words taken stage →
          length taken < PGSIZE → va ≡ string_place address (length taken) → library_step a n b regs (service.Spawn path argv) stage ≡ over
      by_case _ same (behind_addresses name addresses taken found whole last) short there =
          let all : nat_lt (length taken) 4 ≡ false = grind (arith, nat_tests, whole) in
          rw (found, all, last, same) (string_ends (quoting name (address ∷ left) []) address [] short there)
      by_case _ same (amid_word name first rest words taken found no_end) short there =
          let known : b.spawning ≡ Some (quoting name (address ∷ left) words) = found ∙ ap (λ (l : List ℕ). Some (quoting name l words)) same in
          rw (known, no_end) (string_ends (quoting name (address ∷ left) words) address taken short there)
      by_case _ same (behind_word name first all words taken found ended) short there =
          rw (found, ended, same) (string_ends (quoting name (address ∷ left) _) address [] short there)

-- ---- where it stands before such a byte

module _ (v : View) (k : Slot) (b : Born) (path argv : ℕ) where
  -- of an address
  pub stops_listing : (index done : ℕ) → GivenStands v k b path argv (given.AddressFaulting index done) →
      IsStopping false v k b (address_place argv index done)
  stops_listing index done h =
      let it = h.0.1 in
      record {
        eax = it.is_in.regs.eax;
        program = it.is_in.program ∙ sym (λ i. guest (record (it.is_in.registers i) { eax = it.is_in.regs.eax }));
        silent = it.is_in.silent;
        awake = it.is_in.awake;
        inside = h.1.inside;
        stopped = λ ip.
            listed path argv it.name it.addresses it.taken it.stage refl it.is_in.phase it.lists it.are
            (let many = it.many in let most = it.most in omega (arith, many, most)) (let long = it.bytes in let few = it.few in omega (arith, long, few))
            (λ i. address_place argv (sym it.many i) (sym it.bytes i));
      }

  -- of a string
  pub stops_quoting : (address done : ℕ) → GivenStands v k b path argv (given.StringFaulting address done) →
      IsStopping false v k b (string_place address done)
  stops_quoting address done h =
      let it = h.0.2 in
      record {
        eax = it.so.is_in.regs.eax;
        program = it.so.is_in.program ∙ sym (λ i. guest (record (it.so.is_in.registers i) { eax = it.so.is_in.regs.eax }));
        silent = it.so.is_in.silent;
        awake = it.so.is_in.awake;
        inside = h.1.inside;
        stopped = λ ip.
            quoted path argv address it.so.name it.rest it.so.taken it.so.words it.so.stage refl it.so.is_in.phase
            (subst (λ (left : List ℕ). Quotes b it.so.name left it.so.words it.so.taken it.so.stage) it.next it.so.quotes)
            (let long = it.so.done_is in let within = it.within in omega (arith, long, within)) (ap (string_place address) (sym it.so.done_is));
      }
