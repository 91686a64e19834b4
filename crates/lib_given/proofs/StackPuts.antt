-- The law of spawn as it puts the strings into the page of the stack, byte by byte, and the addresses of each, and then the place of these and their number.
use Rattle.std.proofs.Common.{◌≡◌, ◌≢◌, ◌∙◌, ◌+◌, ◌-◌, ◌*◌, ◌%◌, ◌^◌, ◌<◌, ◌≤◌, ◌==◌, ◌&&◌, ℕ, Bool, true, false, List, [], ◌∷◌}
use Rattle.std.proofs.Common.{refl, sym, ap, subst, arith, if◌then◌else◌}
use Rattle.std.specs.Int.{w32, to_le_bytes}
use Rattle.std.specs.Prelude.{min, nat_le, slice_index, take}
use Rattle.std.proofs.Math.Nat.{min-eq_left, min-le_right}
use Rattle.std.proofs.lemmas.Bool.Decides.{nat_tests}
use Rattle.jos_base.specs.declared.numbers.TheConstants.{PGSIZE, USTACKTOP}
use Rattle.jos_base.specs.Environments.{Slot, is_live}
use Rattle.jos_base.specs.KernelState.{KernelState, slot_at}
use Rattle.jos_base.specs.SpacesState.{overlaid}
use Rattle.jos_base.specs.Words.{page_number}
use Rattle.jos_elf.specs.StackPage.{stack_pointer, strings_of, strings_size}
use Rattle.lib_os.specs.declared.numbers.TheConstants.{SPAWN_STACK}
use Rattle.lib_os.specs.declared.place.Step.{Step}
use Rattle.lib_os.specs.declared.place.Step.TheVariants as step
use Rattle.lib_os.specs.declared.service.Service.TheVariants as service
use Rattle.lib_os.specs.declared.spawn_steps.GivenStep.{GivenStep}
use Rattle.lib_os.specs.declared.spawn_steps.GivenStep.TheVariants as given
use Rattle.lib_os.specs.declared.spawn_steps.OpeningStep.TheVariants as opening_step
use Rattle.lib_os.specs.declared.spawn_steps.SpawnStep.{SpawnStep}
use Rattle.lib_os.specs.declared.spawn_steps.SpawnStep.TheVariants as spawn
use Rattle.lib_os.specs.AbstractState.{AbstractState, Born}
use Rattle.lib_os.specs.LibraryPages.{View}
use Rattle.lib_os.specs.Places.{place_of}
use Rattle.lib_os.specs.Rows.{Names, is_of_descriptor}
use Rattle.lib_os.specs.StandsAtSpawn.{GivenStands, HasStrings, HasWords, PageHas, stack_so_far, with_argv, with_strings}
use Rattle.lib_os.specs.StandsFor.{StandsFor, view_of}
use Rattle.lib_os.specs.UserCalls.{store, store_byte}
use Rattle.lib_os.proofs.PagesPut.{IsPutIn, page_beside, page_over}
use Rattle.lib_os.proofs.SpawnOwnPages.{own_byte_stored, own_word_stored, spawn_there, spawn_words, spawns_at}
use Rattle.lib_stage.specs.declared.ask.Next.{Next}
use Rattle.lib_stage.specs.declared.ask.Next.TheVariants as next
use Rattle.lib_stage.specs.ServiceSteps.{ServiceHolds}
use Rattle.lib_stage.proofs.Laws.{is_word_beside}
use Rattle.lib_request.proofs.OwnPageLaws.{IsStoredSo, own_store_byte_holds, own_store_holds}
use Rattle.lib_request.proofs.SpawnGoes.{GoesTo, stored_so}
use Rattle.lib_given.specs.declared.stack.TheConstants.{STACK_VA}
use Rattle.lib_given.specs.GivenPlan.{giving}
use Rattle.lib_given.specs.Refusals.{at_given}
use Rattle.lib_given.specs.StackWords.{addresses_place, behind_copy, byte_place}
use Rattle.lib_given.proofs.GivenFalls.{given_falls}
use Rattle.lib_given.proofs.GivenStays.{in_told, path_beside}
use Rattle.lib_given.proofs.StackLists.{ends_where, last_string, next_byte_lies, next_string_lies, strings_small}
use Rattle.lib_given.proofs.StackPlaces.{HaveRoom, address_put, addresses_so, all_put, begin_is, byte_put, byte_so, have_room, so_far_long}
use Rattle.lib_given.proofs.StackPlaces.{stack_made, with_argv_long, with_strings_long}

-- ---- what stays as the page of the stack is written

module _ {v w : View} {k : Slot} {b : Born} {path argv place : ℕ} {bytes : List ℕ} (put : IsPutIn v w (page_number SPAWN_STACK) place bytes) (words : List ℕ) where
  words_still : {given_words : List (List ℕ)} → HasWords v k b path argv given_words → HasWords w (record k { extra = words }) b path argv given_words
  words_still h = record {
    name = h.name;
    stage = h.stage;
    quotes = h.quotes;
    is_in = in_told words h.is_in;
    path_kept = path_beside put (λ same. absurd (omega (arith, same))) h.path_kept;
    fits = h.fits;
    small_words = h.small_words;
    no_ends = h.no_ends;
  }

  strings_still : {count size : ℕ} → HasStrings v k b path argv count size → HasStrings w (record k { extra = words }) b path argv count size
  strings_still h = record {
    words = h.words;
    has = words_still h.has;
    count_is = h.count_is;
    size_is = h.size_is;
    strings = page_beside put (λ same. absurd (omega (arith, same))) h.strings;
  }

-- ---- where it goes on

module _ (v w : View) (k : Slot) (b : Born) (path argv count size : ℕ) where
  -- behind the address of a string
  module _ (index copied place word : ℕ) (h : GivenStands v k b path argv (given.StringFirst count size index copied))
      (put : IsPutIn v w (page_number SPAWN_STACK) place (to_le_bytes w32 word)) where
    abbrev first_words : List (List ℕ)
    first_words = h.0.has.words

    first_room : HaveRoom first_words
    first_room = have_room first_words h.0.has.has.fits

    abbrev copying : SpawnStep
    copying = spawn.Given (given.StringCopying count size index copied)

    pub first_goes : place ≡ stack_pointer first_words + 8 - (USTACKTOP - PGSIZE) + 4 * index → word ≡ USTACKTOP - strings_size first_words + copied →
        GoesTo w k b path argv (spawn.Given (given.StringFirst count size index copied)) (at_given (given.StringCopying count size index copied))
    unfolding strings_still
    first_goes place_is word_is = record {
      at = copying;
      is = refl;
      held = refl;
      unborne = refl;
      stands = record {
        has = strings_still put (spawn_words copying) h.0.has;
        lies = h.0.lies;
        most = h.0.most;
        kept =
            let most = h.0.most in
            let size_is = h.0.has.size_is in
            let below = h.0.lies.below in
            let begins = h.1 in
            subst (λ (bytes : List ℕ). PageHas w (page_number SPAWN_STACK) 0 bytes)
            (address_put first_words first_room copied index place word (omega (arith, most, size_is)) below place_is (omega (arith, word_is, begins)))
            (page_over put (so_far_long first_words first_room copied index (omega (arith, most, size_is)) (omega (arith, below))) h.0.kept);
      };
    }

  -- behind a byte
  module _ (index copied byte place : ℕ) (h : GivenStands v k b path argv (given.StringPutting count size index copied byte))
      (put : IsPutIn v w (page_number SPAWN_STACK) place (byte % 256 ∷ [])) where
    abbrev words : List (List ℕ)
    words = h.0.has.words

    abbrev here : SpawnStep
    here = spawn.Given (given.StringPutting count size index copied byte)

    room : HaveRoom words
    room = have_room words h.0.has.has.fits

    below : copied < strings_size words
    below = let most = h.0.most in let size_is = h.0.has.size_is in omega (arith, most, size_is)

    byte_is : byte % 256 ≡ slice_index (strings_of words) copied
    byte_is = let same = h.1 in let small = strings_small words h.0.has.has.small_words copied in omega (arith, same, small)

    module _ (place_is : place ≡ PGSIZE - strings_size words + copied) where
      kept_now : PageHas w (page_number SPAWN_STACK) 0 (stack_so_far words (copied + 1) (index + 1))
      kept_now =
          let low = below in
          let lies = h.0.lies.below in
          subst (λ (bytes : List ℕ). PageHas w (page_number SPAWN_STACK) 0 bytes)
          (byte_put words room copied (index + 1) place (byte % 256) low (omega (arith, lies)) place_is byte_is)
          (page_over put (so_far_long words room copied (index + 1) (omega (arith, low)) (omega (arith, lies))) h.0.kept)

      -- it was the last
      all_goes : size - copied ≤ 1 → GoesTo w k b path argv here (at_given (given.StoringArgv count size))
      unfolding strings_still
      all_goes last = record {
        at = spawn.Given (given.StoringArgv count size);
        is = refl;
        held = refl;
        unborne = refl;
        stands = record {
          has = strings_still put (spawn_words (spawn.Given (given.StoringArgv count size))) h.0.has;
          kept =
              let low = below in
              let size_is = h.0.has.size_is in
              let all : copied + 1 ≡ strings_size words = omega (arith, last, low, size_is) in
              subst (λ (bytes : List ℕ). PageHas w (page_number SPAWN_STACK) 0 bytes)
              (ap (λ (many : ℕ). stack_so_far words many (index + 1)) all
              ∙ all_put words room (index + 1) (last_string words index copied h.0.lies all)) kept_now;
        };
      }

      -- it was the end of a string
      string_goes : 1 < size - copied → byte ≡ 0 → GoesTo w k b path argv here (at_given (given.StringFirst count size (index + 1) (copied + 1)))
      unfolding strings_still
      string_goes more zero =
          let size_is = h.0.has.size_is in
          let ends : copied + 1 ≡ strings_size (take (index + 1) words) =
          ends_where words h.0.has.has.no_ends index copied h.0.lies (sym h.1 ∙ zero) in
          let some : copied + 1 < strings_size words = omega (arith, more, size_is) in
          record {
            at = spawn.Given (given.StringFirst count size (index + 1) (copied + 1));
            is = refl;
            held = refl;
            unborne = refl;
            stands = (
              record {
                has = strings_still put (spawn_words (spawn.Given (given.StringFirst count size (index + 1) (copied + 1)))) h.0.has;
                lies = next_string_lies words index copied h.0.lies some ends;
                most = omega (arith, more);
                kept = kept_now;
              },
              ends,
            );
          }

      -- or another
      byte_goes : 1 < size - copied → byte ≢ 0 → GoesTo w k b path argv here (at_given (given.StringCopying count size index (copied + 1)))
      unfolding strings_still
      byte_goes more some = record {
        at = spawn.Given (given.StringCopying count size index (copied + 1));
        is = refl;
        held = refl;
        unborne = refl;
        stands = record {
          has = strings_still put (spawn_words (spawn.Given (given.StringCopying count size index (copied + 1)))) h.0.has;
          lies = next_byte_lies words index copied h.0.lies (λ zero. some (h.1 ∙ zero));
          most = omega (arith, more);
          kept = kept_now;
        };
      }

      pub put_goes : GoesTo w k b path argv here (behind_copy count size index copied byte)
      put_goes = by_tests (nat_le (size - copied) 1) refl (byte == 0) refl
        where
          by_tests : (last : Bool) → nat_le (size - copied) 1 ≡ last → (ends : Bool) → (byte == 0) ≡ ends →
              GoesTo w k b path argv here
              (if last then at_given (given.StoringArgv count size)
              else if ends then at_given (given.StringFirst count size ((index + 1) % 2 ^ 32) (copied + 1))
              else at_given (given.StringCopying count size index (copied + 1)))
          by_tests true is ends ended = all_goes (grind (arith, nat_tests, is))
          by_tests false is true ended =
              let few = room.few in
              let lies = h.0.lies.below in
              let next_index : index + 1 ≡ (index + 1) % 2 ^ 32 = omega (arith, few, lies) in
              subst (λ (i : ℕ). GoesTo w k b path argv here (at_given (given.StringFirst count size i (copied + 1)))) next_index
              (string_goes (grind (arith, nat_tests, is)) (grind (arith, nat_tests, ended)))
          by_tests false is false ended = byte_goes (grind (arith, nat_tests, is)) (grind (arith, nat_tests, ended))

  -- behind the place of the addresses
  module _ (place word : ℕ) (h : GivenStands v k b path argv (given.StoringArgv count size))
      (put : IsPutIn v w (page_number SPAWN_STACK) place (to_le_bytes w32 word)) where
    abbrev argc : SpawnStep
    argc = spawn.Given (given.StoringArgc count size)

    pub argv_goes : place ≡ stack_pointer h.has.words + 4 - (USTACKTOP - PGSIZE) → word ≡ stack_pointer h.has.words + 8 →
        GoesTo w k b path argv (spawn.Given (given.StoringArgv count size)) (at_given (given.StoringArgc count size))
    unfolding strings_still
    argv_goes place_is word_is = record {
      at = argc;
      is = refl;
      held = refl;
      unborne = refl;
      stands = record {
        has = strings_still put (spawn_words argc) h.has;
        kept =
            subst (λ (bytes : List ℕ). PageHas w (page_number SPAWN_STACK) 0 bytes) (λ i. overlaid (with_strings h.has.words) (place_is i) (to_le_bytes w32 (word_is i)))
            (page_over put (with_strings_long h.has.words (have_room h.has.words h.has.has.fits)) h.kept);
      };
    }

  -- and behind their number the file is opened
  module _ (place esp : ℕ) (h : GivenStands v k b path argv (given.StoringArgc count size))
      (put : IsPutIn v w (page_number SPAWN_STACK) place (to_le_bytes w32 count)) where
    abbrev opens : SpawnStep
    opens = spawn.Opening (opening_step.FreeRegion esp)

    pub argc_goes : place ≡ stack_pointer h.has.words - (USTACKTOP - PGSIZE) → esp ≡ stack_pointer h.has.words →
        GoesTo w k b path argv (spawn.Given (given.StoringArgc count size)) (step.Spawning (spawn.Opening (opening_step.FreeRegion esp)))
    argc_goes place_is esp_is = record {
      at = opens;
      is = refl;
      held = refl;
      unborne = refl;
      stands = record {
        words = h.has.words;
        has = words_still put (spawn_words opens) h.has.has;
        stack = record {
          fits = h.has.has.fits;
          esp_is = esp_is;
          kept =
              subst (λ (bytes : List ℕ). PageHas w (page_number SPAWN_STACK) 0 bytes)
              ((λ i. overlaid (with_argv h.has.words) (place_is i) (to_le_bytes w32 (h.has.count_is i)))
              ∙ stack_made h.has.words (have_room h.has.words h.has.has.fits))
              (page_over put (with_argv_long h.has.words (have_room h.has.words h.has.has.fits)) h.kept);
        };
      };
    }

-- ---- the steps

-- a word in the page of the stack, or in the page behind it, lies in no page of a descriptor's
stack_beside : (at : ℕ) → at ≤ PGSIZE + 64 → is_word_beside (SPAWN_STACK + at) ≡ true
stack_beside at most =
    let first : is_of_descriptor (page_number (SPAWN_STACK + at)) ≡ false = below_descriptors (page_number (SPAWN_STACK + at)) (omega (arith, most)) in
    let last : is_of_descriptor (page_number (SPAWN_STACK + at + 3)) ≡ false = below_descriptors (page_number (SPAWN_STACK + at + 3)) (omega (arith, most)) in
    rw (first, last) refl
  where
    below_descriptors : (p : ℕ) → p < 1028 → is_of_descriptor p ≡ false
    below_descriptors p low = grind (arith, nat_tests, low)

place_low : (count size : ℕ) → addresses_place count size ≤ PGSIZE
place_low count size = omega arith

module _ (s : KernelState) (n path argv count size : ℕ) (live : is_live (slot_at s n) ≡ true) where
  abbrev home : ℕ
  home = (slot_at s n).directory

  -- the address of a string
  module _ (index copied : ℕ) (stands : place_of (slot_at s n) ≡ spawns_at path argv (spawn.Given (given.StringFirst count size index copied))) where
    abbrev first : GivenStep
    first = given.StringFirst count size index copied

    abbrev first_va : ℕ
    first_va = SPAWN_STACK + addresses_place count size + 4 * min index 16

    abbrev first_word : ℕ
    first_word = STACK_VA + byte_place size copied

    abbrev behind_first : ℕ → Next
    behind_first w = next.GoOn (at_given (given.StringCopying count size index copied))

    puts_address : (names : Names) (a : AbstractState) → StandsFor names s a →
        IsStoredSo s n (service.Spawn path argv) a behind_first (store s n first_va first_word)
    puts_address names a h =
        let at = spawn_there h n path argv (spawn.Given first) stands in
        let has : GivenStands (view_of s.spaces home) (slot_at s n) at.b path argv first = at.at in
        let words : List (List ℕ) = has.0.has.words in
        let room : HaveRoom words = have_room words has.0.has.has.fits in
        let few = room.few in
        let all = room.room in
        let most = has.0.most in
        let strings_fit = room.strings in
        let below = has.0.lies.below in
        let count_is = has.0.has.count_is in
        let size_is = has.0.has.size_is in
        let begin = begin_is words room in
        let least : min index 16 ≡ index = min-eq_left (omega (arith, few, below)) in
        let begins : addresses_place count size ≡ stack_pointer words + 8 - (USTACKTOP - PGSIZE) =
        (λ i. addresses_place (count_is i) (size_is i)) ∙ addresses_so words room in
        let byte : byte_place size copied ≡ PGSIZE - strings_size words + copied =
        (λ i. byte_place (size_is i) copied) ∙ byte_so words room copied (omega (arith, most, size_is)) in
        let place : ℕ = stack_pointer words + 8 - (USTACKTOP - PGSIZE) + 4 * index in
        let there : page_number SPAWN_STACK * PGSIZE + place ≡ first_va = omega (arith, begins, least) in
        let it =
        own_word_stored h n path argv (spawn.Given first) stands (page_number SPAWN_STACK) refl place first_word (omega (arith, begin, below, all)) in
        subst (λ (va : ℕ). IsStoredSo s n (service.Spawn path argv) a behind_first (store s n va first_word)) there
        (stored_so h n path argv (spawn.Given first) stands refl behind_first it (at_given (given.StringCopying count size index copied)) refl
        (λ order. first_goes (view_of s.spaces home) (view_of it.spaces home) (slot_at s n) at.b path argv count size index copied place first_word has
        (it.put order) refl (omega (arith, byte, strings_fit))))

    pub string_first_holds : ServiceHolds s n (giving (record { argv = argv; at = given.StringFirst count size index copied }))
    string_first_holds =
        own_store_holds s n (service.Spawn path argv) (at_given first) live refl stands behind_first (given_falls path argv first) first_va first_word
        beside puts_address
      where
        beside : is_word_beside first_va ≡ true
        beside =
            let low = place_low count size in
            let few = min-le_right index 16 in
            let same : SPAWN_STACK + (addresses_place count size + 4 * min index 16) ≡ first_va = omega arith in
            subst (λ (va : ℕ). is_word_beside va ≡ true) same (stack_beside (addresses_place count size + 4 * min index 16) (omega (arith, low, few)))

  -- a byte
  module _ (index copied byte : ℕ)
      (stands : place_of (slot_at s n) ≡ spawns_at path argv (spawn.Given (given.StringPutting count size index copied byte))) where
    abbrev putting : GivenStep
    putting = given.StringPutting count size index copied byte

    abbrev put_va : ℕ
    put_va = SPAWN_STACK + byte_place size copied

    abbrev behind_put : ℕ → Next
    behind_put w = next.GoOn (behind_copy count size index copied byte)

    puts_byte : (names : Names) (a : AbstractState) → StandsFor names s a →
        IsStoredSo s n (service.Spawn path argv) a behind_put (store_byte s n put_va (byte % 256))
    puts_byte names a h =
        let at = spawn_there h n path argv (spawn.Given putting) stands in
        let has : GivenStands (view_of s.spaces home) (slot_at s n) at.b path argv putting = at.at in
        let words : List (List ℕ) = has.0.has.words in
        let room : HaveRoom words = have_room words has.0.has.has.fits in
        let most = has.0.most in
        let size_is = has.0.has.size_is in
        let strings_fit = room.strings in
        let byte_there : byte_place size copied ≡ PGSIZE - strings_size words + copied =
        (λ i. byte_place (size_is i) copied) ∙ byte_so words room copied (omega (arith, most, size_is)) in
        let place : ℕ = PGSIZE - strings_size words + copied in
        let there : page_number SPAWN_STACK * PGSIZE + place ≡ put_va = omega (arith, byte_there) in
        let it =
        own_byte_stored h n path argv (spawn.Given putting) stands (page_number SPAWN_STACK) refl place (byte % 256) (omega arith)
        (omega (arith, most, size_is, strings_fit)) in
        subst (λ (va : ℕ). IsStoredSo s n (service.Spawn path argv) a behind_put (store_byte s n va (byte % 256))) there
        (stored_so h n path argv (spawn.Given putting) stands refl behind_put it (behind_copy count size index copied byte) refl
        (λ order. put_goes (view_of s.spaces home) (view_of it.spaces home) (slot_at s n) at.b path argv count size index copied byte place has
        (it.put order) refl))

    pub string_putting_holds : ServiceHolds s n (giving (record { argv = argv; at = given.StringPutting count size index copied byte }))
    string_putting_holds =
        own_store_byte_holds s n (service.Spawn path argv) (at_given putting) live refl stands behind_put (given_falls path argv putting) put_va (byte % 256)
        beside puts_byte
      where
        beside : is_of_descriptor (page_number put_va) ≡ false
        beside = let same : page_number put_va ≡ page_number SPAWN_STACK = omega arith in ap is_of_descriptor same

  -- the place of the addresses
  module _ (stands : place_of (slot_at s n) ≡ spawns_at path argv (spawn.Given (given.StoringArgv count size))) where
    abbrev storing_argv : GivenStep
    storing_argv = given.StoringArgv count size

    abbrev argv_va : ℕ
    argv_va = SPAWN_STACK + (addresses_place count size - 4)

    abbrev argv_word : ℕ
    argv_word = STACK_VA + addresses_place count size

    abbrev behind_argv : ℕ → Next
    behind_argv w = next.GoOn (at_given (given.StoringArgc count size))

    puts_argv : (names : Names) (a : AbstractState) → StandsFor names s a →
        IsStoredSo s n (service.Spawn path argv) a behind_argv (store s n argv_va argv_word)
    puts_argv names a h =
        let at = spawn_there h n path argv (spawn.Given storing_argv) stands in
        let has : GivenStands (view_of s.spaces home) (slot_at s n) at.b path argv storing_argv = at.at in
        let words : List (List ℕ) = has.has.words in
        let room : HaveRoom words = have_room words has.has.has.fits in
        let all = room.room in
        let whole = room.size in
        let count_is = has.has.count_is in
        let size_is = has.has.size_is in
        let begins : addresses_place count size ≡ stack_pointer words + 8 - (USTACKTOP - PGSIZE) =
        (λ i. addresses_place (count_is i) (size_is i)) ∙ addresses_so words room in
        let place : ℕ = stack_pointer words + 4 - (USTACKTOP - PGSIZE) in
        let there : page_number SPAWN_STACK * PGSIZE + place ≡ argv_va = omega (arith, begins, all, whole) in
        let it =
        own_word_stored h n path argv (spawn.Given storing_argv) stands (page_number SPAWN_STACK) refl place argv_word (omega (arith, all, whole)) in
        subst (λ (va : ℕ). IsStoredSo s n (service.Spawn path argv) a behind_argv (store s n va argv_word)) there
        (stored_so h n path argv (spawn.Given storing_argv) stands refl behind_argv it (at_given (given.StoringArgc count size)) refl
        (λ order. argv_goes (view_of s.spaces home) (view_of it.spaces home) (slot_at s n) at.b path argv count size place argv_word has (it.put order)
        refl (omega (arith, begins, all, whole))))

    pub storing_argv_holds : ServiceHolds s n (giving (record { argv = argv; at = given.StoringArgv count size }))
    storing_argv_holds =
        own_store_holds s n (service.Spawn path argv) (at_given storing_argv) live refl stands behind_argv (given_falls path argv storing_argv) argv_va
        argv_word (let low = place_low count size in stack_beside (addresses_place count size - 4) (omega (arith, low))) puts_argv

  -- and their number
  module _ (stands : place_of (slot_at s n) ≡ spawns_at path argv (spawn.Given (given.StoringArgc count size))) where
    abbrev storing_argc : GivenStep
    storing_argc = given.StoringArgc count size

    abbrev argc_va : ℕ
    argc_va = SPAWN_STACK + (addresses_place count size - 8)

    abbrev esp : ℕ
    esp = STACK_VA + (addresses_place count size - 8)

    abbrev opening : Step
    opening = step.Spawning (spawn.Opening (opening_step.FreeRegion esp))

    abbrev behind_argc : ℕ → Next
    behind_argc w = next.GoOn opening

    puts_argc : (names : Names) (a : AbstractState) → StandsFor names s a →
        IsStoredSo s n (service.Spawn path argv) a behind_argc (store s n argc_va count)
    puts_argc names a h =
        let at = spawn_there h n path argv (spawn.Given storing_argc) stands in
        let has : GivenStands (view_of s.spaces home) (slot_at s n) at.b path argv storing_argc = at.at in
        let words : List (List ℕ) = has.has.words in
        let room : HaveRoom words = have_room words has.has.has.fits in
        let all = room.room in
        let whole = room.size in
        let count_is = has.has.count_is in
        let size_is = has.has.size_is in
        let begins : addresses_place count size ≡ stack_pointer words + 8 - (USTACKTOP - PGSIZE) =
        (λ i. addresses_place (count_is i) (size_is i)) ∙ addresses_so words room in
        let place : ℕ = stack_pointer words - (USTACKTOP - PGSIZE) in
        let there : page_number SPAWN_STACK * PGSIZE + place ≡ argc_va = omega (arith, begins, all, whole) in
        let it = own_word_stored h n path argv (spawn.Given storing_argc) stands (page_number SPAWN_STACK) refl place count (omega (arith, all, whole)) in
        subst (λ (va : ℕ). IsStoredSo s n (service.Spawn path argv) a behind_argc (store s n va count)) there
        (stored_so h n path argv (spawn.Given storing_argc) stands refl behind_argc it opening refl
        (λ order. argc_goes (view_of s.spaces home) (view_of it.spaces home) (slot_at s n) at.b path argv count size place esp has (it.put order) refl
        (omega (arith, begins, all, whole))))

    pub storing_argc_holds : ServiceHolds s n (giving (record { argv = argv; at = given.StoringArgc count size }))
    storing_argc_holds =
        own_store_holds s n (service.Spawn path argv) (at_given storing_argc) live refl stands behind_argc (given_falls path argv storing_argc) argc_va count
        (let low = place_low count size in stack_beside (addresses_place count size - 8) (omega (arith, low))) puts_argc
