-- The law of spawn as it takes a page for the strings, and one for the child's stack.
use Rattle.std.proofs.Common.{◌≡◌, ◌≢◌, ◌∙◌, ◌+◌, ◌-◌, ◌<◌, ◌==◌, ◌&&◌, ◌||◌, ◌++◌, ℕ, Bool, true, false, not, List, [], ◌∷◌, length}
use Rattle.std.proofs.Common.{refl, sym, ap, subst, arith, if◌then◌else◌}
use Rattle.std.specs.Prelude.{drop, take}
use Rattle.std.proofs.lemmas.Bool.{false≢true}
use Rattle.std.proofs.lemmas.Bool.Decides.{nat_tests}
use Rattle.std.proofs.lemmas.List.{length-append, take-append-drop}
use Rattle.jos_base.specs.declared.called.Called.{Called}
use Rattle.jos_base.specs.declared.numbers.TheConstants.{E_INVAL, E_NO_MEM, PGSIZE, SYS_PAGE_ALLOC, USTACKTOP, UTEMP}
use Rattle.jos_base.specs.Environments.{is_live}
use Rattle.jos_base.specs.KernelState.{KernelState, slot_at, with_extra, with_refusal, with_spaces}
use Rattle.jos_base.specs.SpacesState.{overlaid, zero_page}
use Rattle.jos_base.specs.TrapFrames.{bytes_of_words}
use Rattle.jos_base.specs.Words.{negated, page_number}
use Rattle.jos_elf.specs.StackPage.{fits_stack, stack_pointer, strings_of, strings_size}
use Rattle.lib_os.specs.declared.numbers.TheConstants.{SERVICE_SPAWN, SPAWN_ADDRESSES, SPAWN_GIVEN, SPAWN_HERE, SPAWN_STACK}
use Rattle.lib_os.specs.declared.progress.Progress.TheVariants as progress
use Rattle.lib_os.specs.declared.service.Service.TheVariants as service
use Rattle.lib_os.specs.declared.spawn_steps.GivenStep.TheVariants as given
use Rattle.lib_os.specs.declared.spawn_steps.SpawnStep.{SpawnStep}
use Rattle.lib_os.specs.declared.spawn_steps.SpawnStep.TheVariants as spawn
use Rattle.lib_os.specs.declared.spawn_steps.UndoingStep.TheVariants as undoing
use Rattle.lib_os.specs.AbstractState.{AbstractState, Born}
use Rattle.lib_os.specs.Fence.{is_inside}
use Rattle.lib_os.specs.InOrder.{IsInOrder}
use Rattle.lib_os.specs.LibraryPages.{View}
use Rattle.lib_os.specs.LibrarySteps.{KeepsStanding}
use Rattle.lib_os.specs.Places.{place_of, words_at}
use Rattle.lib_os.specs.Rows.{Names}
use Rattle.lib_os.specs.SpawnPages.{keeps_page_at}
use Rattle.lib_os.specs.StandsAtSpawn.{GivenStands, HasAddresses, HasOnlyPath, HasStrings, PageHas, Refuses, address_outside, by_given, stack_so_far}
use Rattle.lib_os.specs.StandsFor.{StandsFor, view_of}
use Rattle.lib_os.specs.UserCalls.{CallStep, answer_of}
use Rattle.lib_os.proofs.Calls.{PageMade, refusal_is_seen}
use Rattle.lib_os.proofs.KeptPages.{LiesAside, number_aside}
use Rattle.lib_os.proofs.PageBytes.{bytes_none}
use Rattle.lib_os.proofs.PageTaken.{working_perm}
use Rattle.lib_os.proofs.SpawnOwnPages.{spawn_there, spawn_words, spawns_at}
use Rattle.lib_os.proofs.SpawnPagesTaken.{IsBesidePage, page_aside, page_asked_at, page_holds, page_lives, path_aside, taking_keeps_at}
use Rattle.lib_stage.specs.ServiceSteps.{Plan, ServiceHolds}
use Rattle.lib_stage.proofs.Laws.{KeepsBy, law_of_call, plainly}
use Rattle.lib_given.specs.Addresses.{address_va}
use Rattle.lib_given.specs.GivenPlan.{giving}
use Rattle.lib_given.specs.Refusals.{at_given, path_refused_with, refused, refused_with}
use Rattle.lib_given.proofs.AddressGoes.{va_is}
use Rattle.lib_given.proofs.GivenFalls.{given_falls}
use Rattle.lib_given.proofs.GivenLists.{strings_none}
use Rattle.lib_given.proofs.GivenStays.{in_told}
use Rattle.lib_given.proofs.StackLists.{first_lies}

-- ---- lists

words_none : bytes_of_words [] ≡ []
unfolding bytes_of_words
words_none = refl

-- nothing lies over them
overlaid_none : (old : List ℕ) (at : ℕ) → overlaid old at [] ≡ old
overlaid_none old at =
    let place : at + 0 ≡ at = omega arith in ap (λ (m : ℕ). take at old ++ drop m old) place ∙ take-append-drop at old

-- of what is to stand on the stack nothing is put yet
stack_begun : (words : List (List ℕ)) → stack_so_far words 0 0 ≡ zero_page
stack_begun words =
    ap (λ (l : List ℕ). overlaid (overlaid zero_page (PGSIZE - strings_size words) []) (stack_pointer words + 8 - (USTACKTOP - PGSIZE)) l) words_none
    ∙ overlaid_none (overlaid zero_page (PGSIZE - strings_size words) []) (stack_pointer words + 8 - (USTACKTOP - PGSIZE))
    ∙ overlaid_none zero_page (PGSIZE - strings_size words)

-- there are words, where they may be given
some_words : (words : List (List ℕ)) → fits_stack words ≡ true → 0 < length words
unfolding fits_stack
some_words [] fits = absurd (false≢true fits)
some_words (word ∷ rest) fits = omega arith

-- words that may be given have bytes
some_bytes : (words : List (List ℕ)) → fits_stack words ≡ true → 0 < strings_size words
unfolding fits_stack strings_of
some_bytes [] fits = absurd (false≢true fits)
some_bytes (word ∷ rest) fits = let many = length-append word (0 ∷ strings_of rest) in omega (arith, many)

-- ---- pages

given_aside : LiesAside (page_number SPAWN_GIVEN)
given_aside = number_aside (page_number SPAWN_GIVEN) refl

stack_aside : LiesAside (page_number SPAWN_STACK)
stack_aside = number_aside (page_number SPAWN_STACK) refl

other_number : (q p : ℕ) → q ≢ p → (q == p) ≡ false
other_number q p other = grind (arith, nat_tests, other)

-- the page of the strings alone is another
first_alone : (c d e : Bool) → c ≡ false → ((c && false) || (d && false) || (e && false)) ≡ ((c && true) || (d && false) || (e && false))
first_alone false d e off = refl
first_alone true d e off = absurd (false≢true (sym off))

-- or that of the stack
second_alone : (c d e : Bool) → d ≡ false → ((c && true) || (d && false) || (e && false)) ≡ ((c && true) || (d && true) || (e && false))
second_alone c false e off = refl
second_alone c true e off = absurd (false≢true (sym off))

module _ (s : KernelState) (n path argv : ℕ) (live : is_live (slot_at s n) ≡ true) where
  abbrev home : ℕ
  home = (slot_at s n).directory

  -- one that was refused, of which nothing is said
  untaken_keeps : (words : List ℕ) → KeepsStanding progress.Hidden n s (with_extra (with_refusal s) n words) []
  untaken_keeps words a h turn quiet = absurd (refusal_is_seen s (record { stays = quiet.stays; could = quiet.could }))

  -- ---- that of the strings

  module _ (stands : place_of (slot_at s n) ≡ spawns_at path argv (spawn.Given given.TakingGiven)) where
    abbrev from : SpawnStep
    from = spawn.Given given.TakingGiven

    abbrev taking : Plan
    taking = giving (record { argv = argv; at = given.TakingGiven })

    module _ {names : Names} {a : AbstractState} (h : StandsFor names s a) (w : View)
        (beside : IsBesidePage (view_of s.spaces home) w (page_number SPAWN_GIVEN)) where
      abbrev own_born : Born
      own_born = (spawn_there h n path argv from stands).b

      has : HasOnlyPath (view_of s.spaces home) (slot_at s n) own_born path argv
      has = (spawn_there h n path argv from stands).at

      no_addresses : HasAddresses w []
      no_addresses =
          let page = page_aside beside (λ same. absurd (omega (arith, same))) has.path_kept.kept in
          subst (λ (bytes : List ℕ). PageHas w (page_number UTEMP) SPAWN_ADDRESSES bytes) (sym words_none)
          (record { entry = page.entry; stands = page.stands; own_page = page.own_page; same = λ i lt. absurd (omega (arith, lt)) })

      begins_so : is_inside (address_va argv 0 0) ≡ true →
          GivenStands w (record (slot_at s n) { extra = spawn_words (spawn.Given (given.AddressRegion 0 0 0)) }) own_born path argv (given.AddressRegion 0 0 0)
      begins_so inside = (
        record {
          name = has.name;
          addresses = [];
          taken = [];
          stage = has.stage;
          lists = has.lists;
          is_in = in_told (spawn_words (spawn.Given (given.AddressRegion 0 0 0))) has.is_in;
          path_kept = path_aside beside (λ same. absurd (omega (arith, same))) has.path_kept;
          kept = no_addresses;
          are = λ i d lt. absurd (omega (arith, lt));
          many = refl;
          most = omega arith;
          bytes = refl;
          few = omega arith;
          word_is = refl;
          small = bytes_none;
        },
        ap is_inside (sym (va_is argv 0 0 (omega arith))) ∙ inside,
      )

      refused_so : is_inside (address_va argv 0 0) ≡ false →
          Refuses (record (slot_at s n) { extra = spawn_words (spawn.Undoing (undoing.UndoingGiven (negated E_INVAL))) }) own_born path argv (negated E_INVAL)
      refused_so outside =
          by_given has.stage (in_told (spawn_words (spawn.Undoing (undoing.UndoingGiven (negated E_INVAL)))) has.is_in)
          (address_outside has.name [] [] has.stage has.lists (λ i d lt. absurd (omega (arith, lt))) (omega arith)
          (ap is_inside (sym (va_is argv 0 0 (omega arith))) ∙ outside)) refl

    same_others : (q : ℕ) → q ≢ page_number SPAWN_GIVEN → keeps_page_at from q ≡ keeps_page_at (spawn.Given (given.AddressRegion 0 0 0)) q
    same_others q other =
        first_alone (q == page_number SPAWN_GIVEN) (q == page_number SPAWN_STACK) (q == page_number SPAWN_HERE) (other_number q (page_number SPAWN_GIVEN) other)

    made_keeps : (made : PageMade s n SPAWN_GIVEN working_perm (page_asked_at s n SPAWN_GIVEN refl)) → IsInOrder (with_spaces s made.spaces) →
        (inside : Bool) → is_inside (address_va argv 0 0) ≡ inside →
        KeepsStanding progress.Hidden n s (with_extra (with_spaces s made.spaces) n
        (words_at SERVICE_SPAWN (if not inside then refused else at_given (given.AddressRegion 0 0 0)))) []
    made_keeps made order true inside =
        taking_keeps_at s n path argv SPAWN_GIVEN from (spawn.Given (given.AddressRegion 0 0 0)) stands refl refl given_aside refl same_others refl refl made order
        (λ names a h zero beside. begins_so h (view_of made.spaces home) beside inside)
    made_keeps made order false outside =
        taking_keeps_at s n path argv SPAWN_GIVEN from (spawn.Undoing (undoing.UndoingGiven (negated E_INVAL))) stands refl refl given_aside refl same_others
        refl refl made order (λ names a h zero beside. refused_so h (view_of made.spaces home) beside outside)

    pub taking_given_holds : ServiceHolds s n (giving (record { argv = argv; at = given.TakingGiven }))
    taking_given_holds =
        law_of_call s n taking (service.Spawn path argv) (at_given given.TakingGiven) (record {
          stands = stands;
          live = live;
          numbered = refl;
          plain = plainly refl;
          goes_on = refl;
          falls = λ called. given_falls path argv given.TakingGiven (answer_of called);
          few = omega arith;
        }) SYS_PAGE_ALLOC (0 ∷ SPAWN_GIVEN ∷ working_perm ∷ 0 ∷ 0 ∷ []) refl refl (page_lives s n SPAWN_GIVEN refl live)
        (page_holds s n SPAWN_GIVEN refl live (λ (z : CallStep Called). IsInOrder z.state → KeepsBy s n taking z)
        (λ made order. made_keeps made order (is_inside (address_va argv 0 0)) refl)
        (λ order. untaken_keeps (words_at SERVICE_SPAWN (path_refused_with (negated E_NO_MEM)))))

  -- ---- that of the stack

  module _ (count size : ℕ) (stands : place_of (slot_at s n) ≡ spawns_at path argv (spawn.Given (given.TakingStack count size))) where
    abbrev begin : SpawnStep
    begin = spawn.Given (given.TakingStack count size)

    abbrev first : SpawnStep
    first = spawn.Given (given.StringFirst count size 0 0)

    abbrev stacking : Plan
    stacking = giving (record { argv = argv; at = given.TakingStack count size })

    same_but_stack : (q : ℕ) → q ≢ page_number SPAWN_STACK → keeps_page_at begin q ≡ keeps_page_at first q
    same_but_stack q other =
        second_alone (q == page_number SPAWN_GIVEN) (q == page_number SPAWN_STACK) (q == page_number SPAWN_HERE)
        (other_number q (page_number SPAWN_STACK) other)

    module _ {names : Names} {a : AbstractState} (h : StandsFor names s a) (w : View)
        (beside : IsBesidePage (view_of s.spaces home) w (page_number SPAWN_STACK)) (zero : PageHas w (page_number SPAWN_STACK) 0 zero_page) where
      abbrev born_there : Born
      born_there = (spawn_there h n path argv begin stands).b

      strings : HasStrings (view_of s.spaces home) (slot_at s n) born_there path argv count size
      strings = (spawn_there h n path argv begin stands).at

      first_so : GivenStands w (record (slot_at s n) { extra = spawn_words first }) born_there path argv (given.StringFirst count size 0 0)
      first_so = (
        record {
          has = record {
            words = strings.words;
            has = record {
              name = strings.has.name;
              stage = strings.has.stage;
              quotes = strings.has.quotes;
              is_in = in_told (spawn_words first) strings.has.is_in;
              path_kept = path_aside beside (λ same. absurd (omega (arith, same))) strings.has.path_kept;
              fits = strings.has.fits;
              small_words = strings.has.small_words;
              no_ends = strings.has.no_ends;
            };
            count_is = strings.count_is;
            size_is = strings.size_is;
            strings = page_aside beside (λ same. absurd (omega (arith, same))) strings.strings;
          };
          lies = first_lies strings.words (some_words strings.words strings.has.fits);
          most = let some = some_bytes strings.words strings.has.fits in let size_is = strings.size_is in omega (arith, some, size_is);
          kept = subst (λ (bytes : List ℕ). PageHas w (page_number SPAWN_STACK) 0 bytes) (sym (stack_begun strings.words)) zero;
        },
        sym (ap (λ (l : List ℕ). length l) strings_none),
      )

    pub taking_stack_holds : ServiceHolds s n (giving (record { argv = argv; at = given.TakingStack count size }))
    taking_stack_holds =
        law_of_call s n stacking (service.Spawn path argv) (at_given (given.TakingStack count size)) (record {
          stands = stands;
          live = live;
          numbered = refl;
          plain = plainly refl;
          goes_on = refl;
          falls = λ called. given_falls path argv (given.TakingStack count size) (answer_of called);
          few = omega arith;
        }) SYS_PAGE_ALLOC (0 ∷ SPAWN_STACK ∷ working_perm ∷ 0 ∷ 0 ∷ []) refl refl (page_lives s n SPAWN_STACK refl live)
        (page_holds s n SPAWN_STACK refl live (λ (z : CallStep Called). IsInOrder z.state → KeepsBy s n stacking z)
        (λ made order. taking_keeps_at s n path argv SPAWN_STACK begin first stands refl refl stack_aside refl same_but_stack refl refl made order
        (λ names a h zero beside. first_so h (view_of made.spaces home) beside zero))
        (λ order. untaken_keeps (words_at SERVICE_SPAWN (refused_with (negated E_NO_MEM)))))
