-- The law of spawn as it loads the next bytes of a string: its step in the abstract system takes the same.
use Rattle.std.proofs.Common.{◌≡◌, ◌∙◌, ◌+◌, ◌-◌, ◌%◌, ◌<◌, ◌==◌, ◌++◌, ℕ, Bool, true, false, List, [], ◌∷◌, length, Some, refl, sym, ap, subst, arith}
use Rattle.std.proofs.Common.{if◌then◌else◌}
use Rattle.std.specs.Int.{w32, from_le_bytes, to_le_bytes}
use Rattle.std.specs.Prelude.{drop, nat_le, take}
use Rattle.std.proofs.Math.Seq.{drop-append_seam}
use Rattle.std.proofs.lemmas.Bool.Decides.{nat_tests}
use Rattle.std.proofs.lemmas.List.{length-append}
use Rattle.std.proofs.lemmas.Nat.{le_bytes_4}
use Rattle.jos_base.specs.declared.numbers.TheConstants.{PGSIZE}
use Rattle.jos_base.specs.Environments.{is_live}
use Rattle.jos_base.specs.KernelState.{KernelState, slot_at}
use Rattle.jos_elf.specs.StackPage.{strings_of}
use Rattle.lib_os.specs.declared.service.Service.TheVariants as service
use Rattle.lib_os.specs.declared.spawn_steps.GivenStep.TheVariants as given
use Rattle.lib_os.specs.declared.spawn_steps.SpawnStep.{SpawnStep}
use Rattle.lib_os.specs.declared.spawn_steps.SpawnStep.TheVariants as spawn
use Rattle.lib_os.specs.AbstractMemory.{byte_at}
use Rattle.lib_os.specs.AbstractRun.{abs_step}
use Rattle.lib_os.specs.AbstractSpawn.{more_gathered}
use Rattle.lib_os.specs.AbstractState.{AbstractState, Born, Stage, Spawning, quoting, taking, with_born}
use Rattle.lib_os.specs.Answers.{bytes_from, moved_at_once}
use Rattle.lib_os.specs.LibraryPages.{View}
use Rattle.lib_os.specs.Places.{place_of}
use Rattle.lib_os.specs.Rows.{Names}
use Rattle.lib_os.specs.SpawnGiven.{Quotes, amid_word, behind_addresses, behind_word, string_place}
use Rattle.lib_os.specs.StandsAtSpawn.{GivenHas, GivenStands, IsAtString, MayLoad, kept_strings}
use Rattle.lib_os.specs.StandsFor.{StandsFor, view_of}
use Rattle.lib_os.specs.StandsInHandler.{HasNoEnd}
use Rattle.lib_os.specs.UserCalls.{load, load_byte}
use Rattle.lib_os.proofs.BytesGathered.{one_from}
use Rattle.lib_os.proofs.Fences.{inside_below}
use Rattle.lib_os.proofs.Loading.{loaded}
use Rattle.lib_os.proofs.PageBytes.{bytes_append}
use Rattle.lib_os.proofs.PathKept.{end_within}
use Rattle.lib_os.proofs.Serving.{service_step}
use Rattle.lib_os.proofs.SpawnGathers.{given_allowed, given_byte, given_byte_small, given_bytes, given_last, given_long, given_small, given_word, lies, more_steps}
use Rattle.lib_os.proofs.SpawnGathers.{quote_steps, spawn_found}
use Rattle.lib_os.proofs.SpawnOwnPages.{spawn_there, spawns_at}
use Rattle.lib_stage.specs.declared.ask.Ask.TheVariants as ask
use Rattle.lib_stage.specs.declared.ask.Next.TheVariants as next
use Rattle.lib_stage.specs.ServiceSteps.{ServiceHolds}
use Rattle.lib_file.proofs.Finds.{Follows, staged}
use Rattle.lib_request.proofs.OwnPageLaws.{IsLoadedSo, own_load_byte_holds, own_load_holds}
use Rattle.lib_request.proofs.SpawnGoes.{GoesTo}
use Rattle.lib_given.specs.GivenPlan.{giving}
use Rattle.lib_given.specs.Refusals.{at_given}
use Rattle.lib_given.proofs.GivenLists.{take_front}
use Rattle.lib_given.proofs.GivenLoads.{shown_follows}

module _ (s : KernelState) (n path argv : ℕ) (live : is_live (slot_at s n) ≡ true) (index address used done : ℕ)
    (stands : place_of (slot_at s n) ≡ spawns_at path argv (spawn.Given (given.StringLoading index address used done))) where
  abbrev from : SpawnStep
  from = spawn.Given (given.StringLoading index address used done)

  abbrev home : ℕ
  home = (slot_at s n).directory

  abbrev place : ℕ
  place = string_place address done

  abbrev view : View
  view = view_of s.spaces home

  abbrev moved : ℕ
  moved = moved_at_once place (PGSIZE - done)

  abbrev keeping : ℕ → SpawnStep
  keeping word = spawn.Given (given.StringKeeping index address used done word moved)

  module _ {names : Names} {a : AbstractState} (h : StandsFor names s a) where
    abbrev b : Born
    b = (spawn_there h n path argv from stands).b

    has : GivenStands view (slot_at s n) b path argv (given.StringLoading index address used done)
    has = (spawn_there h n path argv from stands).at

    it : IsAtString view (slot_at s n) b path argv index address used done
    it = has.0

    more_wanted : 0 < PGSIZE - done
    more_wanted = let within = it.within in omega (arith, within)

    abbrev taken_now : List ℕ
    taken_now = given_bytes h n path argv from stands place (PGSIZE - done) has.1 more_wanted

    abbrev all_taken : List ℕ
    all_taken = it.so.taken ++ taken_now

    abbrev found : Spawning
    found = quoting it.so.name (address ∷ it.rest) it.so.words

    abbrev born_after : Born
    born_after = spawn_found b path argv found (taking all_taken)

    quotes : Quotes b it.so.name (address ∷ it.rest) it.so.words it.so.taken it.so.stage
    quotes = subst (λ (left : List ℕ). Quotes b it.so.name left it.so.words it.so.taken it.so.stage) it.next it.so.quotes

    steps : abs_step a n ≡ Some (with_born a n born_after)
    steps =
        let within = it.within in
        let long = it.so.done_is in
        let short : nat_le PGSIZE (length it.so.taken) ≡ false = grind (arith, nat_tests, within, long) in
        service_step a n b it.so.is_in.regs (service.Spawn path argv) it.so.stage (spawn_there h n path argv from stands).is it.so.is_in.program
        it.so.is_in.phase it.so.is_in.awake
        ∙ quote_steps a n b it.so.is_in.regs path argv quotes
        ∙ rw short
        ((λ i. more_gathered a n b it.so.is_in.regs (service.Spawn path argv) found (string_place address (long i)) (PGSIZE - long i) it.so.taken)
        ∙ more_steps a n b it.so.is_in.regs path argv found place (PGSIZE - done) it.so.taken has.1.inside
        (given_allowed h n path argv from stands place (PGSIZE - done) has.1 more_wanted))

    -- its page has those before, and these are to be kept
    goes_to : (word : ℕ) → take moved (to_le_bytes w32 word) ≡ taken_now →
        GoesTo view (slot_at s n) born_after path argv from (at_given (given.StringKeeping index address used done word moved))
    goes_to word is =
        let part = lies h n path argv from stands place (PGSIZE - done) has.1 more_wanted in
        let some = part.some in
        let fits = part.within in
        let all = length-append it.so.taken taken_now in
        let those = given_long h n path argv from stands place (PGSIZE - done) has.1 more_wanted in
        let long = it.so.done_is in
        let within = it.within in
        record {
          at = keeping word;
          is = refl;
          held = refl;
          unborne = refl;
          stands = (
            record {
              name = it.so.name;
              addresses_left = it.rest;
              words = it.so.words;
              taken = all_taken;
              found = record {
                is_in = record {
                  regs = it.so.is_in.regs;
                  program = it.so.is_in.program;
                  eax = it.so.is_in.eax;
                  registers = it.so.is_in.registers;
                  phase = refl;
                  silent = it.so.is_in.silent;
                  awake = it.so.is_in.awake;
                };
                is = refl;
              };
              path_kept = it.so.path_kept;
              addresses = it.so.addresses;
              kept = it.so.kept;
              are = it.so.are;
              few = it.so.few;
              left_is = sym it.next ∙ it.so.left_is;
              many = it.so.many;
              used_is = it.so.used_is;
              many_taken = omega (arith, all, those, long);
              short = omega (arith, fits, within);
              some = some;
              last = part.last;
              word_is = is ∙ sym (drop-append_seam it.so.taken taken_now) ∙ ap (λ (m : ℕ). drop m all_taken) long;
              small = bytes_append it.so.taken taken_now it.so.small (given_small h n path argv from stands place (PGSIZE - done) has.1 more_wanted);
              small_words = it.so.small_words;
              no_ends = it.so.no_ends;
              no_end = subst HasNoEnd (sym before_is) (no_end_yet quotes);
              strings = subst (λ (bytes : List ℕ). GivenHas view (kept_strings (used + done) (strings_of it.so.words ++ bytes))) (sym before_is) it.so.strings;
            },
            subst (λ (va : ℕ). MayLoad view va) last_place (given_last h n path argv from stands place (PGSIZE - done) has.1 more_wanted),
          );
        }
      where
        before_is : take done all_taken ≡ it.so.taken
        before_is =
            ap (λ (m : ℕ). take m all_taken) (sym it.so.done_is) ∙ take_front it.so.taken taken_now

        last_place : place + (moved - 1) ≡ string_place address (done + moved - 1)
        last_place =
            let part = lies h n path argv from stands place (PGSIZE - done) has.1 more_wanted in
            let some = part.some in
            let last = part.last in
            let low = inside_below place has.1.inside in
            omega (arith, some, last, low)

        no_end_yet : {name left taken : List ℕ} {words : List (List ℕ)} {stage : Stage} → Quotes b name left words taken stage → HasNoEnd taken
        no_end_yet (behind_addresses name addresses taken is_listing whole last) = refl
        no_end_yet (amid_word name first rest words taken is_quoting none) = let most = end_within taken in grind (arith, nat_tests, none, most)
        no_end_yet (behind_word name first rest words taken is_quoting ended) = refl

    follows_with : (word : ℕ) → take moved (to_le_bytes w32 word) ≡ taken_now →
        Follows (loaded s n place) n (service.Spawn path argv) a (next.Show (at_given (given.StringKeeping index address used done word moved)))
    follows_with word is =
        shown_follows h n path argv from stands place (PGSIZE - done) has.1 more_wanted found (taking all_taken) refl steps
        (at_given (given.StringKeeping index address used done word moved)) (goes_to word is)

    -- a word
    word_so : (moved == 4) ≡ true → IsLoadedSo s n (service.Spawn path argv) a
        (λ w. next.Show (at_given (given.StringKeeping index address used done w moved))) place (load s n place)
    word_so test =
        let four = (lies h n path argv from stands place (PGSIZE - done) has.1 more_wanted).word test in
        record {
          word = from_le_bytes w32 taken_now;
          step_is = given_word h n path argv from stands place (PGSIZE - done) has.1 more_wanted test;
          follows = λ order.
              follows_with (from_le_bytes w32 taken_now)
              (ap (λ (m : ℕ). take m (to_le_bytes w32 (from_le_bytes w32 taken_now))) four
              ∙ le_bytes_4 taken_now (from_le_bytes w32 taken_now) (given_long h n path argv from stands place (PGSIZE - done) has.1 more_wanted ∙ four)
              (given_small h n path argv from stands place (PGSIZE - done) has.1 more_wanted) refl);
        }

    -- or a byte
    byte_so : (moved == 4) ≡ false → IsLoadedSo s n (service.Spawn path argv) a
        (λ w. next.Show (at_given (given.StringKeeping index address used done w moved))) place (load_byte s n place)
    byte_so test =
        let one = (lies h n path argv from stands place (PGSIZE - done) has.1 more_wanted).byte test in
        let small = given_byte_small h n path argv from stands place (PGSIZE - done) has.1 more_wanted in
        let byte_is : byte_at a b place % 256 ≡ byte_at a b place = omega (arith, small) in
        record {
          word = byte_at a b place;
          step_is = given_byte h n path argv from stands place (PGSIZE - done) has.1 more_wanted test;
          follows = λ order.
              follows_with (byte_at a b place)
              (ap (λ (m : ℕ). take m (to_le_bytes w32 (byte_at a b place))) one
              ∙ ap (λ (byte : ℕ). byte ∷ []) byte_is
              ∙ sym (ap (bytes_from a b place) one ∙ one_from a b place));
        }

  by_moved : (whole : Bool) → (moved == 4) ≡ whole →
      ServiceHolds s n (staged (service.Spawn path argv) (if whole then ask.Load place else ask.LoadByte place)
      (λ w. next.Show (at_given (given.StringKeeping index address used done w moved))))
  by_moved true test =
      own_load_holds s n (service.Spawn path argv) (at_given (given.StringLoading index address used done)) live refl stands
      (λ w. next.Show (at_given (given.StringKeeping index address used done w moved))) (λ w. tt) place (λ names a h. word_so h test)
  by_moved false test =
      own_load_byte_holds s n (service.Spawn path argv) (at_given (given.StringLoading index address used done)) live refl stands
      (λ w. next.Show (at_given (given.StringKeeping index address used done w moved))) (λ w. tt) place (λ names a h. byte_so h test)

  pub string_loading_holds : ServiceHolds s n (giving (record { argv = argv; at = given.StringLoading index address used done }))
  string_loading_holds = by_moved (moved == 4) refl
