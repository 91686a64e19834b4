-- Where spawn goes on before the next byte of an address: it looks at its page where that is another than that of the byte before, loads it, or refuses what it is
-- given. And where it has an address, which it has put behind its path.
use Rattle.std.proofs.Common.{◌≡◌, ◌≢◌, ◌∙◌, ◌+◌, ◌*◌, ◌%◌, ◌^◌, ◌<◌, ◌≤◌, ◌==◌, ◌&&◌, ◌||◌, ◌++◌, ℕ, Bool, true, false, not, List, [], ◌∷◌, length}
use Rattle.std.proofs.Common.{refl, sym, ap, subst, arith, if◌then◌else◌}
use Rattle.std.specs.Int.{w32, to_le_bytes}
use Rattle.std.specs.Prelude.{All, min, slice_index, Some}
use Rattle.std.proofs.Math.Nat.{min-eq_left}
use Rattle.std.proofs.lemmas.Bool.Decides.{nat_tests}
use Rattle.std.proofs.lemmas.List.{length-append}
use Rattle.jos_base.specs.declared.numbers.TheConstants.{E_INVAL, PGSIZE, UTEMP}
use Rattle.jos_base.specs.Environments.{Slot}
use Rattle.jos_base.specs.TrapFrames.{bytes_of_words}
use Rattle.jos_base.specs.Words.{negated, page_number, word_at}
use Rattle.jos_base.proofs.WordBytes.{length-bytes_of_words}
use Rattle.lib_os.specs.declared.numbers.TheConstants.{SPAWN_ADDRESSES}
use Rattle.lib_os.specs.declared.place.Step.{Step}
use Rattle.lib_os.specs.declared.spawn_steps.GivenStep.TheVariants as given
use Rattle.lib_os.specs.declared.spawn_steps.SpawnStep.{SpawnStep}
use Rattle.lib_os.specs.declared.spawn_steps.SpawnStep.TheVariants as spawn
use Rattle.lib_os.specs.declared.spawn_steps.UndoingStep.TheVariants as undoing
use Rattle.lib_os.specs.AbstractState.{Born, Stage, listing}
use Rattle.lib_os.specs.Fence.{is_inside}
use Rattle.lib_os.specs.LibraryPages.{View}
use Rattle.lib_os.specs.SpawnGiven.{Lists, Quotes, address_place, amid, behind, behind_addresses, behind_path}
use Rattle.lib_os.specs.StandsAtSpawn.{GivenHas, GivenStands, HasAddress, IsListing, MayLoad, PageHas, address_outside, by_given}
use Rattle.lib_os.specs.StandsInHandler.{is_refused_by}
use Rattle.lib_os.proofs.Fences.{inside_below}
use Rattle.lib_os.proofs.PageBytes.{bytes_none}
use Rattle.lib_os.proofs.PagesPut.{IsPutIn, may_load_still, page_more}
use Rattle.lib_os.proofs.Serving.{Kept, holds_page}
use Rattle.lib_os.proofs.SpawnOwnPages.{spawn_words, spawns_at}
use Rattle.lib_request.proofs.SpawnGoes.{GoesTo}
use Rattle.lib_given.specs.Addresses.{address_va, at_address, behind_kept}
use Rattle.lib_given.specs.Refusals.{at_given, refused}
use Rattle.lib_given.proofs.GivenLists.{all_more, last_same, strings_none, words_more}
use Rattle.lib_given.proofs.GivenStays.{in_told, listing_told, path_before}

-- the pages that are kept while the program's words are taken
abbrev pub taking_pages : Kept
taking_pages = holds_page (spawns_at 0 0 (spawn.Given (given.AddressKeeping 0 0)))

-- where the next byte lies, as the code reckons
pub va_is : (argv index done : ℕ) → index ≤ 16 → address_va argv index done ≡ address_place argv index done
va_is argv index done few =
    let least : min index 16 ≡ index = min-eq_left few in
    ap (λ (m : ℕ). ((argv + 4 * m) % 2 ^ 32 + done) % 2 ^ 32) least ∙ wrapped
  where
    wrapped : ((argv + 4 * index) % 2 ^ 32 + done) % 2 ^ 32 ≡ (argv + 4 * index + done) % 2 ^ 32
    wrapped = omega arith

-- a page is allowed to be loaded from as far as it goes
pub allowed_on : (v : View) (before va : ℕ) → MayLoad v before → va ≡ (before + 1) % 2 ^ 32 → (va % PGSIZE == 0) ≡ false → is_inside va ≡ true → MayLoad v va
allowed_on v before va may next off inside =
    let below = inside_below before may.inside in
    let amid_page : va % PGSIZE ≢ 0 = grind (arith, nat_tests, off) in
    let same : page_number va ≡ page_number before = omega (arith, below, next, amid_page) in
    record { inside = inside; allowed = ap (λ (p : ℕ). is_refused_by false (v.row p)) same ∙ may.allowed }

-- ---- before the next byte

module _ (v : View) (k : Slot) (b : Born) (path argv : ℕ) (from : SpawnStep) (kept : holds_page (spawns_at path argv from) ≡ taking_pages)
    (index done word : ℕ) (so : IsListing v k b path argv index done word)
    (known : ((index == 0) && (done == 0)) ≡ false → (before : ℕ) × MayLoad v before × (address_place argv index done ≡ (before + 1) % 2 ^ 32)) where
  abbrev next_place : ℕ
  next_place = address_place argv index done

  place_so : address_place argv (length so.addresses) (length so.taken) ≡ next_place
  place_so = λ i. address_place argv (so.many i) (so.bytes i)

  by_tests : (inside : Bool) → is_inside next_place ≡ inside → (first : Bool) → ((index == 0) && (done == 0)) ≡ first → (begins : Bool) →
      (next_place % PGSIZE == 0) ≡ begins → GoesTo v k b path argv from
      (if not inside then refused else if first || begins then at_given (given.AddressRegion index done word)
      else at_given (given.AddressLoading index done word))
  by_tests false outside first is_first begins is_begin = record {
    at = spawn.Undoing (undoing.UndoingGiven (negated E_INVAL));
    is = refl;
    held = kept;
    unborne = refl;
    stands =
        let many = so.many in
        let most = so.most in
        by_given so.stage (in_told (spawn_words (spawn.Undoing (undoing.UndoingGiven (negated E_INVAL)))) so.is_in)
        (address_outside so.name so.addresses so.taken so.stage so.lists so.are (omega (arith, many, most)) (ap is_inside place_so ∙ outside)) refl;
  }
  by_tests true inside true is_first begins is_begin = record {
    at = spawn.Given (given.AddressRegion index done word);
    is = refl;
    held = kept;
    unborne = refl;
    stands = (listing_told (spawn_words (spawn.Given (given.AddressRegion index done word))) so, inside);
  }
  by_tests true inside false later true is_begin = record {
    at = spawn.Given (given.AddressRegion index done word);
    is = refl;
    held = kept;
    unborne = refl;
    stands = (listing_told (spawn_words (spawn.Given (given.AddressRegion index done word))) so, inside);
  }
  by_tests true inside false later false amid_page = record {
    at = spawn.Given (given.AddressLoading index done word);
    is = refl;
    held = kept;
    unborne = refl;
    stands =
        let before = known later in (
          listing_told (spawn_words (spawn.Given (given.AddressLoading index done word))) so,
          allowed_on v before.0 next_place before.1 before.2 amid_page inside,
        );
  }

  pub address_goes : GoesTo v k b path argv from (at_address argv index done word)
  address_goes =
      let most = so.most in
      subst (λ (va : ℕ). GoesTo v k b path argv from
      (if not (is_inside va) then refused
      else if ((index == 0) && (done == 0)) || (va % PGSIZE == 0) then at_given (given.AddressRegion index done word)
      else at_given (given.AddressLoading index done word)))
      (sym (va_is argv index done (omega (arith, most))))
      (by_tests (is_inside next_place) refl ((index == 0) && (done == 0)) refl (next_place % PGSIZE == 0) refl)

-- ---- the 0 behind the last

-- All addresses are taken, where the last is 0: the strings are to be taken.
pub none_quoted : {b : Born} {name listed taken : List ℕ} {stage : Stage} → Lists b name listed taken stage → (addresses : List ℕ) (word : ℕ) →
    listed ≡ addresses ++ word ∷ [] → taken ≡ [] → word ≡ 0 → Quotes b name addresses [] [] stage
none_quoted (behind_path bytes whole) addresses word same none zero =
    let many = length-append addresses (word ∷ []) in
    let long : 0 ≡ length (addresses ++ word ∷ []) = ap (λ (l : List ℕ). length l) same in
    absurd (omega (arith, many, long))
none_quoted (amid name addresses taken found some fewer) all word same none zero =
    let long : length taken ≡ 0 = ap (λ (l : List ℕ). length l) none in absurd (omega (arith, long, some))
none_quoted {b = b} (behind name addresses taken found whole) all word same none zero =
    let both = last_same addresses all (word_at (slice_index taken) 0) word same in
    behind_addresses name all taken (found ∙ ap (λ (l : List ℕ). Some (listing name l)) both.0) whole (both.1 ∙ zero)

-- ---- it is put behind the path

module _ (v w : View) (k : Slot) (b : Born) (path argv index word : ℕ) (h : GivenStands v k b path argv (given.AddressKeeping index word))
    (put : IsPutIn v w (page_number UTEMP) (SPAWN_ADDRESSES + 4 * index) (to_le_bytes w32 word)) (there : GivenHas w []) where
  abbrev here : SpawnStep
  here = spawn.Given (given.AddressKeeping index word)

  has : HasAddress v k b path argv index word
  has = h.0

  abbrev all : List ℕ
  all = has.addresses ++ word ∷ []

  kept_now : PageHas w (page_number UTEMP) SPAWN_ADDRESSES (bytes_of_words all)
  kept_now =
      let long = length-bytes_of_words has.addresses in
      let many = has.many in
      subst (λ (bytes : List ℕ). PageHas w (page_number UTEMP) SPAWN_ADDRESSES bytes) (sym (words_more has.addresses word))
      (page_more put (omega (arith, long, many)) has.kept)

  last_kept : word ≡ 0 → GoesTo w k b path argv here (at_given (given.StringAddress 0 0))
  last_kept zero = record {
    at = spawn.Given (given.StringAddress 0 0);
    is = refl;
    held = refl;
    unborne = refl;
    stands = record {
      name = has.name;
      left = has.addresses;
      words = [];
      taken = [];
      stage = has.stage;
      quotes = none_quoted has.lists has.addresses word refl refl zero;
      is_in = in_told (spawn_words (spawn.Given (given.StringAddress 0 0))) has.is_in;
      path_kept = path_before put (omega arith) has.path_kept;
      addresses = has.addresses;
      kept = subst (λ (last : ℕ). PageHas w (page_number UTEMP) SPAWN_ADDRESSES (bytes_of_words (has.addresses ++ last ∷ []))) zero kept_now;
      are = has.are;
      few = let many = has.many in let most = has.most in omega (arith, many, most);
      reached = omega arith;
      left_is = refl;
      many = refl;
      used_is = sym (ap (λ (l : List ℕ). min (length l) (PGSIZE + 1)) strings_none);
      done_is = refl;
      short = omega arith;
      small = bytes_none;
      small_words = λ i d lt. absurd (omega (arith, lt));
      no_ends = λ i d lt. absurd (omega (arith, lt));
      strings = subst (λ (l : List ℕ). GivenHas w (l ++ [])) (sym strings_none) there;
    };
  }

  more_kept : word ≢ 0 → GoesTo w k b path argv here (at_address argv (index + 1) 0 0)
  more_kept some =
      let room = has.room some in
      address_goes w k b path argv here refl (index + 1) 0 0
      (record {
        name = has.name;
        addresses = all;
        taken = [];
        stage = has.stage;
        lists = has.lists;
        is_in = has.is_in;
        path_kept = path_before put (omega arith) has.path_kept;
        kept = kept_now;
        are = all_more (λ address. (address ≢ 0) × (address < 2 ^ 32)) has.addresses word has.are (some, has.small);
        many = let long = length-append has.addresses (word ∷ []) in let many = has.many in omega (arith, long, many);
        most = omega (arith, room);
        bytes = refl;
        few = omega arith;
        word_is = refl;
        small = bytes_none;
      })
      (λ later. (address_place argv index 3, may_load_still put h.1, next_word))
    where
      next_word : address_place argv (index + 1) 0 ≡ (address_place argv index 3 + 1) % 2 ^ 32
      next_word = omega arith

  pub address_kept_goes : GoesTo w k b path argv here (behind_kept argv index word)
  address_kept_goes = by_word (word == 0) refl
    where
      by_word : (c : Bool) → (word == 0) ≡ c →
          GoesTo w k b path argv here (if c then at_given (given.StringAddress 0 0) else at_address argv ((index + 1) % 2 ^ 32) 0 0)
      by_word true test = last_kept (grind (arith, nat_tests, test))
      by_word false test =
          let some : word ≢ 0 = grind (arith, nat_tests, test) in
          let room = has.room some in
          let next : index + 1 ≡ (index + 1) % 2 ^ 32 = omega (arith, room) in
          subst (λ (i : ℕ). GoesTo w k b path argv here (at_address argv i 0 0)) next (more_kept some)
