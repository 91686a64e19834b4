-- Where spawn goes on behind a byte of a string that it has put behind those before: with the next that it has loaded, with the string's next, or behind the NUL with
-- the next string.
use Rattle.std.proofs.Common.{◌≡◌, ◌≢◌, ◌∙◌, ◌+◌, ◌-◌, ◌/◌, ◌%◌, ◌^◌, ◌<◌, ◌≤◌, ◌==◌, ◌++◌, ℕ, suc, Bool, true, false, List, [], ◌∷◌, length}
use Rattle.std.proofs.Common.{refl, sym, ap, subst, arith, if◌then◌else◌}
use Rattle.std.specs.Int.{w32, to_le_bytes}
use Rattle.std.specs.Prelude.{drop, min, nat_le, nat_lt, slice_index, take}
use Rattle.std.specs.List.{before_first, position_or_len}
use Rattle.std.proofs.Math.Nat.{min-eq_left, min-eq_right}
use Rattle.std.proofs.lemmas.Bool.Decides.{nat_tests}
use Rattle.std.proofs.lemmas.List.{append_assoc, append-nil, drop_more, get_or-take, length-append, length-drop, length-take-le, take_all, take_more}
use Rattle.std.proofs.lemmas.List.Sums.{fails_before_first, position_or_len_is}
use Rattle.jos_base.specs.declared.numbers.TheConstants.{PGSIZE, UTEMP}
use Rattle.jos_base.specs.Environments.{Slot}
use Rattle.jos_base.specs.Words.{page_number}
use Rattle.jos_elf.specs.StackPage.{strings_of, strings_size}
use Rattle.lib_os.specs.declared.numbers.TheConstants.{SPAWN_GIVEN}
use Rattle.lib_os.specs.declared.place.Step.{Step}
use Rattle.lib_os.specs.declared.spawn_steps.GivenStep.TheVariants as given
use Rattle.lib_os.specs.declared.spawn_steps.SpawnStep.{SpawnStep}
use Rattle.lib_os.specs.declared.spawn_steps.SpawnStep.TheVariants as spawn
use Rattle.lib_os.specs.AbstractState.{Born, taking}
use Rattle.lib_os.specs.AbstractSpawn.{has_nul}
use Rattle.lib_os.specs.FileServices.{is_nul}
use Rattle.lib_os.specs.LibraryPages.{View}
use Rattle.lib_os.specs.Rows.{AreBytes}
use Rattle.lib_os.specs.SpawnGiven.{amid_word, behind_word, string_place}
use Rattle.lib_os.specs.StandsAtSpawn.{GivenHas, GivenStands, HasAddresses, HasPath, IsKeepingString, MayLoad, kept_strings}
use Rattle.lib_os.specs.StandsInHandler.{HasNoEnd}
use Rattle.lib_os.proofs.BytesKept.{word_behind, word_byte}
use Rattle.lib_os.proofs.PageBytes.{bytes_none, bytes_take}
use Rattle.lib_os.proofs.PagesPut.{IsPutIn, may_load_still, page_beside, page_more, page_there}
use Rattle.lib_os.proofs.SpawnOwnPages.{spawn_words}
use Rattle.lib_request.proofs.SpawnGoes.{GoesTo}
use Rattle.lib_given.specs.Refusals.{at_given}
use Rattle.lib_given.specs.Strings.{at_string, behind_byte}
use Rattle.lib_given.proofs.GivenLists.{all_more, strings_more}
use Rattle.lib_given.proofs.GivenStays.{found_told, in_told, path_beside}
use Rattle.lib_given.proofs.StringGoes.{string_goes}

-- ---- the first NUL

-- where the first so many bytes are none, and the next is
pub nul_found : (bytes : List ℕ) (done : ℕ) → done < length bytes → HasNoEnd (take done bytes) → slice_index bytes done ≡ 0 →
    position_or_len is_nul bytes ≡ done
nul_found bytes done lt none zero =
    position_or_len_is is_nul bytes done 0 (omega (arith, lt)) (λ k below. ap is_nul (sym (get_or-take done bytes k 0 below)) ∙ fails k below)
    (λ low. ap is_nul zero)
  where
    fails : (k : ℕ) → k < done → is_nul (slice_index (take done bytes) k) ≡ false
    fails k below =
        let long : length (take done bytes) ≡ done = length-take-le done bytes (omega (arith, lt)) in
        fails_before_first is_nul (take done bytes) k 0 (omega (arith, none, long, below))

-- and where the next is none
pub no_nul_more : (bytes : List ℕ) (done : ℕ) → done < length bytes → HasNoEnd (take done bytes) → slice_index bytes done ≢ 0 →
    HasNoEnd (take (done + 1) bytes)
no_nul_more bytes done lt none some =
    position_or_len_is is_nul (take (done + 1) bytes) (length (take (done + 1) bytes)) 0 (omega arith) each (λ low. absurd (omega (arith, low)))
  where
    each : (k : ℕ) → k < length (take (done + 1) bytes) → is_nul (slice_index (take (done + 1) bytes) k) ≡ false
    each k below = by_place (nat_lt k done) refl
      where
        long : length (take (done + 1) bytes) ≡ done + 1
        long = length-take-le (done + 1) bytes (omega (arith, lt))

        by_place : (c : Bool) → nat_lt k done ≡ c → is_nul (slice_index (take (done + 1) bytes) k) ≡ false
        by_place true test =
            let low : k < done = grind (arith, nat_tests, test) in
            let long_before : length (take done bytes) ≡ done = length-take-le done bytes (omega (arith, lt)) in
            ap is_nul (get_or-take (done + 1) bytes k 0 (omega (arith, low)))
            ∙ ap is_nul (sym (get_or-take done bytes k 0 low))
            ∙ fails_before_first is_nul (take done bytes) k 0 (omega (arith, none, long_before, low))
        by_place false test =
            let past : done ≤ k = grind (arith, nat_tests, test) in
            let all = long in
            let same : k ≡ done = omega (arith, past, below, all) in
            let first : slice_index (take (done + 1) bytes) k ≡ slice_index bytes done =
            get_or-take (done + 1) bytes k 0 (omega (arith, same)) ∙ ap (slice_index bytes) same in
            let other : is_nul (slice_index bytes done) ≡ false = grind (arith, nat_tests, some) in
            ap is_nul first ∙ other

-- ---- how many bytes are counted

-- where they are fewer than are counted at most, all are
size_within : (used size : ℕ) → used ≡ min size (PGSIZE + 1) → used ≤ PGSIZE → used ≡ size
size_within used size is low = by_size (nat_le size (PGSIZE + 1)) refl
  where
    by_size : (c : Bool) → nat_le size (PGSIZE + 1) ≡ c → used ≡ size
    by_size true test = let few : size ≤ PGSIZE + 1 = grind (arith, nat_tests, test) in is ∙ min-eq_left few
    by_size false test =
        let many : PGSIZE + 1 ≤ size = grind (arith, nat_tests, test) in
        let all : used ≡ PGSIZE + 1 = is ∙ min-eq_right many in
        absurd (omega (arith, all, low))

sum_within : (sum : ℕ) → min sum (PGSIZE + 1) ≤ PGSIZE → sum ≤ PGSIZE
sum_within sum low = let all = size_within (min sum (PGSIZE + 1)) sum refl low in omega (arith, all, low)

-- ---- where a byte is put

module _ (v w : View) (k : Slot) (b : Born) (path argv index address used done word left : ℕ)
    (h : GivenStands v k b path argv (given.StringKeeping index address used done word left))
    (put : IsPutIn v w (page_number SPAWN_GIVEN) ((used + done) % PGSIZE) (word % 256 ∷ [])) where
  abbrev here : SpawnStep
  here = spawn.Given (given.StringKeeping index address used done word left)

  has : IsKeepingString v k b path argv index address used done word left
  has = h.0

  abbrev strings : List ℕ
  strings = strings_of has.words

  there : done < length has.taken
  there = let many = has.many_taken in let some = has.some in omega (arith, many, some)

  -- it is the next of the string
  byte_is : word % 256 ≡ slice_index has.taken done
  byte_is =
      let some = has.some in
      let none : done + 0 ≡ done = omega arith in
      let first : slice_index (to_le_bytes w32 word) 0 ≡ word % 256 = omega arith in
      sym first ∙ word_byte has.taken done word left 0 has.word_is (omega (arith, some)) ∙ ap (slice_index has.taken) none

  -- the page has it behind those before
  now_taken : take (done + 1) has.taken ≡ take done has.taken ++ word % 256 ∷ []
  now_taken = take_more has.taken done 0 there ∙ ap (λ (byte : ℕ). take done has.taken ++ byte ∷ []) (sym byte_is)

  put_strings : used + done < PGSIZE → GivenHas w (strings ++ take (done + 1) has.taken)
  put_strings room =
      let counted = has.used_is in
      let all : used ≡ strings_size has.words = size_within used (strings_size has.words) counted (omega (arith, room)) in
      let long_taken : length (take done has.taken) ≡ done = length-take-le done has.taken (let low = there in omega (arith, low)) in
      let long = length-append strings (take done has.taken) in
      let kept : nat_le (used + done) PGSIZE ≡ true = grind (arith, nat_tests, room) in
      let had : GivenHas v (strings ++ take done has.taken) =
      subst (λ (c : Bool). GivenHas v (if c then strings ++ take done has.taken else [])) kept has.strings in
      subst (λ (bytes : List ℕ). GivenHas w bytes)
      (append_assoc strings (take done has.taken) (word % 256 ∷ []) ∙ ap (λ (l : List ℕ). strings ++ l) (sym now_taken))
      (page_more put (omega (arith, long, long_taken, all, room)) had)

  strings_now : (bytes : List ℕ) → bytes ≡ strings ++ take (done + 1) has.taken → GivenHas w (kept_strings (used + done + 1) bytes)
  strings_now bytes is = by_room (nat_le (used + done + 1) PGSIZE) refl
    where
      by_room : (c : Bool) → nat_le (used + done + 1) PGSIZE ≡ c → GivenHas w (if c then bytes else [])
      by_room true test = subst (λ (l : List ℕ). GivenHas w l) (sym is) (put_strings (grind (arith, nat_tests, test)))
      by_room false test = page_there put has.strings 0

  path_still : HasPath w has.name
  path_still = path_beside put (λ same. absurd (omega (arith, same))) has.path_kept

  addresses_still : HasAddresses w (has.addresses ++ 0 ∷ [])
  addresses_still = page_beside put (λ same. absurd (omega (arith, same))) has.kept

  -- how many addresses there are
  index_low : index + 1 ≤ length has.addresses
  index_low =
      let few = length-drop index has.addresses in
      let some : suc (length has.addresses_left) ≡ length (drop index has.addresses) = ap (λ (l : List ℕ). length l) has.left_is in
      omega (arith, few, some)

  rest_left : has.addresses_left ≡ drop (index + 1) has.addresses
  rest_left =
      let low = index_low in
      ap (λ (l : List ℕ). drop 1 l) (has.left_is ∙ drop_more has.addresses index 0 (omega (arith, low)))

  -- ---- it is the NUL

  module _ (zero : word % 256 ≡ 0) where
    ended : slice_index has.taken done ≡ 0
    ended = sym byte_is ∙ zero

    found_at : position_or_len is_nul has.taken ≡ done
    found_at = nul_found has.taken done there has.no_end ended

    has_end : has_nul has.taken ≡ true
    has_end = let low = there in let place = found_at in grind (arith, nat_tests, low, place)

    abbrev string : List ℕ
    string = before_first is_nul has.taken

    string_is : string ≡ take done has.taken
    string_is = ap (λ (m : ℕ). take m has.taken) found_at

    abbrev words_now : List (List ℕ)
    words_now = has.words ++ string ∷ []

    strings_are : strings_of words_now ≡ strings ++ take (done + 1) has.taken
    strings_are =
        strings_more has.words string
        ∙ ap (λ (l : List ℕ). strings ++ (l ++ 0 ∷ [])) string_is
        ∙ ap (λ (byte : ℕ). strings ++ (take done has.taken ++ byte ∷ [])) (sym zero)
        ∙ ap (λ (l : List ℕ). strings ++ l) (sym now_taken)

    size_now : strings_size words_now ≡ strings_size has.words + (done + 1)
    size_now =
        let long : length (take (done + 1) has.taken) ≡ done + 1 = length-take-le (done + 1) has.taken (let low = there in omega (arith, low)) in
        let all = length-append strings (take (done + 1) has.taken) in
        ap (λ (l : List ℕ). length l) strings_are ∙ omega (arith, all, long)

    abbrev used_now : ℕ
    used_now = min (used + (done + 1)) (PGSIZE + 1)

    used_so : used_now ≡ min (strings_size words_now) (PGSIZE + 1)
    used_so =
        let before = has.used_is in
        let size = size_now in
        let joined : min (min (strings_size has.words) (PGSIZE + 1) + (done + 1)) (PGSIZE + 1) ≡ min (strings_size has.words + (done + 1)) (PGSIZE + 1) =
        least_sum (strings_size has.words) (done + 1) in
        (λ i. min (before i + (done + 1)) (PGSIZE + 1)) ∙ joined ∙ (λ i. min (sym size i) (PGSIZE + 1))
      where
        least_sum : (size more : ℕ) → min (min size (PGSIZE + 1) + more) (PGSIZE + 1) ≡ min (size + more) (PGSIZE + 1)
        least_sum size more = by_size (nat_le size (PGSIZE + 1)) refl
          where
            by_size : (c : Bool) → nat_le size (PGSIZE + 1) ≡ c → min (min size (PGSIZE + 1) + more) (PGSIZE + 1) ≡ min (size + more) (PGSIZE + 1)
            by_size true test =
                let few : size ≤ PGSIZE + 1 = grind (arith, nat_tests, test) in
                let least : min size (PGSIZE + 1) ≡ size = min-eq_left few in ap (λ (m : ℕ). min (m + more) (PGSIZE + 1)) least
            by_size false test =
                let many : PGSIZE + 1 ≤ size = grind (arith, nat_tests, test) in
                let least : min size (PGSIZE + 1) ≡ PGSIZE + 1 = min-eq_right many in
                let first : min (PGSIZE + 1 + more) (PGSIZE + 1) ≡ PGSIZE + 1 = min-eq_right (omega arith) in
                let second : min (size + more) (PGSIZE + 1) ≡ PGSIZE + 1 = min-eq_right (omega (arith, many)) in
                ap (λ (m : ℕ). min (m + more) (PGSIZE + 1)) least ∙ first ∙ sym second

    strings_kept : GivenHas w (kept_strings (used_now + 0) (strings_of words_now ++ []))
    strings_kept = by_room (nat_le (used_now + 0) PGSIZE) refl
      where
        by_room : (c : Bool) → nat_le (used_now + 0) PGSIZE ≡ c → GivenHas w (if c then strings_of words_now ++ [] else [])
        by_room true test =
            let low : used_now ≤ PGSIZE = grind (arith, nat_tests, test) in
            let room : used + (done + 1) ≤ PGSIZE = sum_within (used + (done + 1)) low in
            subst (λ (l : List ℕ). GivenHas w l) (sym strings_are ∙ sym (append-nil (strings_of words_now))) (put_strings (omega (arith, room)))
        by_room false test = page_there put has.strings 0

    abbrev next_string : SpawnStep
    next_string = spawn.Given (given.StringAddress (index + 1) used_now)

    nul_goes : GoesTo w k b path argv here (at_given (given.StringAddress (index + 1) used_now))
    nul_goes = record {
      at = next_string;
      is = refl;
      held = refl;
      unborne = refl;
      stands = record {
        name = has.name;
        left = has.addresses_left;
        words = words_now;
        taken = [];
        stage = taking has.taken;
        quotes = behind_word has.name address has.addresses_left has.words has.taken has.found.is has_end;
        is_in = in_told (spawn_words next_string) has.found.is_in;
        path_kept = path_still;
        addresses = has.addresses;
        kept = addresses_still;
        are = has.are;
        few = has.few;
        reached = index_low;
        left_is = rest_left;
        many = let long = length-append has.words (string ∷ []) in let many = has.many in omega (arith, long, many);
        used_is = used_so;
        done_is = refl;
        short = omega arith;
        small = bytes_none;
        small_words = all_more AreBytes has.words string has.small_words
            (subst AreBytes (sym string_is) (bytes_take done has.taken has.small));
        no_ends = all_more HasNoEnd has.words string has.no_ends (subst HasNoEnd (sym string_is) has.no_end);
        strings = strings_kept;
      };
    }

  -- ---- it is another byte

  module _ (some : word % 256 ≢ 0) where
    no_end_now : HasNoEnd (take (done + 1) has.taken)
    no_end_now = no_nul_more has.taken done there has.no_end (λ zero. some (byte_is ∙ zero))

    abbrev next_byte : SpawnStep
    next_byte = spawn.Given (given.StringKeeping index address used (done + 1) (word / 256) (left - 1))

    -- others are loaded
    more_goes : 1 < left → GoesTo w k b path argv here (at_given (given.StringKeeping index address used (done + 1) (word / 256) (left - 1)))
    more_goes more = record {
      at = next_byte;
      is = refl;
      held = refl;
      unborne = refl;
      stands = (
        record {
          name = has.name;
          addresses_left = has.addresses_left;
          words = has.words;
          taken = has.taken;
          found = found_told (spawn_words next_byte) has.found;
          path_kept = path_still;
          addresses = has.addresses;
          kept = addresses_still;
          are = has.are;
          few = has.few;
          left_is = has.left_is;
          many = has.many;
          used_is = has.used_is;
          many_taken = let many = has.many_taken in omega (arith, many, more);
          short = let short = has.short in omega (arith, short, more);
          some = omega (arith, more);
          last = let last = has.last in omega (arith, last);
          word_is = behind_it;
          small = has.small;
          small_words = has.small_words;
          no_ends = has.no_ends;
          no_end = no_end_now;
          strings = subst (λ (m : ℕ). GivenHas w (kept_strings m (strings ++ take (done + 1) has.taken))) place
              (strings_now (strings ++ take (done + 1) has.taken) refl);
        },
        may_load_still put (subst (λ (m : ℕ). MayLoad v (string_place address m)) last_place h.1),
      );
    }
      where
        place : used + done + 1 ≡ used + (done + 1)
        place = omega arith

        last_place : done + left - 1 ≡ done + 1 + (left - 1) - 1
        last_place = omega (arith, more)

        lower : left ≡ suc (left - 1)
        lower = omega (arith, more)

        behind_it : take (left - 1) (to_le_bytes w32 (word / 256)) ≡ drop (done + 1) has.taken
        behind_it =
            let last = has.last in
            word_behind has.taken done word (left - 1) (omega (arith, last))
            (ap (λ (m : ℕ). take m (to_le_bytes w32 word)) (sym lower) ∙ has.word_is)

    -- it is the last of them
    last_goes : left ≤ 1 → GoesTo w k b path argv here (at_string index address used (done + 1))
    last_goes few =
        string_goes w k b path argv here refl index address used (done + 1)
        (record {
          name = has.name;
          left = address ∷ has.addresses_left;
          words = has.words;
          taken = has.taken;
          stage = taking has.taken;
          quotes = amid_word has.name address has.addresses_left has.words has.taken has.found.is no_nul;
          is_in = has.found.is_in;
          path_kept = path_still;
          addresses = has.addresses;
          kept = addresses_still;
          are = has.are;
          few = has.few;
          reached = let low = index_low in omega (arith, low);
          left_is = has.left_is;
          many = has.many;
          used_is = has.used_is;
          done_is = many_now;
          short = let short = has.short in let one = has.some in omega (arith, short, one);
          small = has.small;
          small_words = has.small_words;
          no_ends = has.no_ends;
          strings = subst (λ (m : ℕ). GivenHas w (kept_strings m (strings ++ has.taken))) place
              (strings_now (strings ++ has.taken) (ap (λ (l : List ℕ). strings ++ l) (sym all_taken)));
        })
        has.addresses_left refl
        (λ later. (string_place address done, may_load_still put (subst (λ (m : ℕ). MayLoad v (string_place address m)) last_place h.1), next_place))
      where
        many_now : length has.taken ≡ done + 1
        many_now = let many = has.many_taken in let one = has.some in omega (arith, many, one, few)

        all_taken : take (done + 1) has.taken ≡ has.taken
        all_taken = ap (λ (m : ℕ). take m has.taken) (sym many_now) ∙ take_all (length has.taken) has.taken (omega arith)

        no_nul : has_nul has.taken ≡ false
        no_nul =
            let none : position_or_len is_nul has.taken ≡ length has.taken = subst HasNoEnd all_taken no_end_now in grind (arith, nat_tests, none)

        place : used + done + 1 ≡ used + (done + 1)
        place = omega arith

        last_place : done + left - 1 ≡ done
        last_place = let one = has.some in omega (arith, one, few)

        next_place : string_place address (done + 1) ≡ (string_place address done + 1) % 2 ^ 32
        next_place = omega arith

  -- ---- all of it

  pub string_kept_goes : GoesTo w k b path argv here (behind_byte index address used done word left)
  string_kept_goes =
      let short = has.short in
      let some = has.some in
      let low = index_low in
      let few = has.few in
      let next : done + 1 ≡ (done + 1) % 2 ^ 32 = omega (arith, short, some) in
      let next_index : index + 1 ≡ (index + 1) % 2 ^ 32 = omega (arith, low, few) in
      subst (λ (to : Step). GoesTo w k b path argv here to)
      (λ i. if word % 256 == 0 then at_given (given.StringAddress (next_index i) (min (used + next i) (PGSIZE + 1)))
      else if nat_le left 1 then at_string index address used (next i)
      else at_given (given.StringKeeping index address used (next i) (word / 256) (left - 1)))
      (by_tests (word % 256 == 0) refl (nat_le left 1) refl)
    where
      by_tests : (ends : Bool) → (word % 256 == 0) ≡ ends → (last : Bool) → nat_le left 1 ≡ last → GoesTo w k b path argv here
          (if ends then at_given (given.StringAddress (index + 1) (min (used + (done + 1)) (PGSIZE + 1)))
          else if last then at_string index address used (done + 1)
          else at_given (given.StringKeeping index address used (done + 1) (word / 256) (left - 1)))
      by_tests true test last is_last = nul_goes (grind (arith, nat_tests, test))
      by_tests false test true is_last = last_goes (grind (arith, nat_tests, test)) (grind (arith, nat_tests, is_last))
      by_tests false test false is_last = more_goes (grind (arith, nat_tests, test)) (grind (arith, nat_tests, is_last))
