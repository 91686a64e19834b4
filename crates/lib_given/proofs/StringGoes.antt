-- Where spawn goes on before the next byte of a string, and behind the addresses: with the next string, or, where the 0 stands, with the page of the stack; what does
-- not fit there is refused.
use Rattle.std.proofs.Common.{◌≡◌, ◌≢◌, ◌∙◌, ◌+◌, ◌*◌, ◌/◌, ◌%◌, ◌^◌, ◌<◌, ◌≤◌, ◌==◌, ◌&&◌, ◌||◌, ◌++◌, ℕ, Bool, true, false, not, List, [], ◌∷◌, length}
use Rattle.std.proofs.Common.{refl, sym, ap, subst, arith, if◌then◌else◌}
use Rattle.std.specs.Prelude.{drop, min, nat_le, nat_lt, slice_index}
use Rattle.std.proofs.Math.Nat.{min-eq_left, min-eq_right}
use Rattle.std.proofs.lemmas.Bool.{false≢true}
use Rattle.std.proofs.lemmas.Bool.Decides.{nat_tests}
use Rattle.std.proofs.lemmas.List.{append-nil, drop_more, get_or_append_left, get_or_at, length-drop, nil_from_length}
use Rattle.jos_base.specs.declared.numbers.TheConstants.{E_INVAL, PGSIZE}
use Rattle.jos_base.specs.Environments.{Slot}
use Rattle.jos_base.specs.Words.{negated}
use Rattle.jos_elf.specs.StackPage.{fits_stack, stack_size, strings_of, strings_size}
use Rattle.lib_os.specs.declared.place.Step.{Step}
use Rattle.lib_os.specs.declared.spawn_steps.GivenStep.TheVariants as given
use Rattle.lib_os.specs.declared.spawn_steps.SpawnStep.{SpawnStep}
use Rattle.lib_os.specs.declared.spawn_steps.SpawnStep.TheVariants as spawn
use Rattle.lib_os.specs.declared.spawn_steps.UndoingStep.TheVariants as undoing
use Rattle.lib_os.specs.AbstractState.{Born}
use Rattle.lib_os.specs.Fence.{is_inside}
use Rattle.lib_os.specs.LibraryPages.{View}
use Rattle.lib_os.specs.SpawnGiven.{Quotes, string_place}
use Rattle.lib_os.specs.StandsAtSpawn.{GivenHas, IsAtString, IsQuoting, MayLoad, by_given, no_fit, string_endless, string_outside}
use Rattle.lib_os.proofs.Serving.{holds_page}
use Rattle.lib_os.proofs.SpawnOwnPages.{spawn_words, spawns_at}
use Rattle.lib_request.proofs.SpawnGoes.{GoesTo}
use Rattle.lib_given.specs.Refusals.{at_given, refused}
use Rattle.lib_given.specs.StackWords.{fits_page}
use Rattle.lib_given.specs.Strings.{at_string, behind_strings}
use Rattle.lib_given.proofs.AddressGoes.{allowed_on, taking_pages}
use Rattle.lib_given.proofs.GivenStays.{in_told}

-- ---- what is told stays

module _ {v : View} {k : Slot} {b : Born} {path argv : ℕ} (words : List ℕ) where
  pub quoting_told : {index used done : ℕ} → IsQuoting v k b path argv index used done →
      IsQuoting v (record k { extra = words }) b path argv index used done
  quoting_told h = record {
    name = h.name;
    left = h.left;
    words = h.words;
    taken = h.taken;
    stage = h.stage;
    quotes = h.quotes;
    is_in = in_told words h.is_in;
    path_kept = h.path_kept;
    addresses = h.addresses;
    kept = h.kept;
    are = h.are;
    few = h.few;
    reached = h.reached;
    left_is = h.left_is;
    many = h.many;
    used_is = h.used_is;
    done_is = h.done_is;
    short = h.short;
    small = h.small;
    small_words = h.small_words;
    no_ends = h.no_ends;
    strings = h.strings;
  }

  pub at_string_told : {index address used done : ℕ} → IsAtString v k b path argv index address used done →
      IsAtString v (record k { extra = words }) b path argv index address used done
  unfolding quoting_told
  at_string_told h = record { so = quoting_told h.so; rest = h.rest; next = h.next; within = h.within }

-- ---- before the next byte

module _ (v : View) (k : Slot) (b : Born) (path argv : ℕ) (from : SpawnStep) (kept : holds_page (spawns_at path argv from) ≡ taking_pages)
    (index address used done : ℕ) (so : IsQuoting v k b path argv index used done) (rest : List ℕ) (next : so.left ≡ address ∷ rest)
    (known : (done == 0) ≡ false → (before : ℕ) × MayLoad v before × (string_place address done ≡ (before + 1) % 2 ^ 32)) where
  abbrev next_place : ℕ
  next_place = string_place address done

  place_so : string_place address (length so.taken) ≡ next_place
  place_so = ap (string_place address) so.done_is

  quotes_next : Quotes b so.name (address ∷ rest) so.words so.taken so.stage
  quotes_next = subst (λ (left : List ℕ). Quotes b so.name left so.words so.taken so.stage) next so.quotes

  at_it : done < PGSIZE → IsAtString v k b path argv index address used done
  at_it within = record { so = so; rest = rest; next = next; within = within }

  abbrev refusing : SpawnStep
  refusing = spawn.Undoing (undoing.UndoingGiven (negated E_INVAL))

  by_tests : (long : Bool) → nat_le PGSIZE done ≡ long → (inside : Bool) → is_inside next_place ≡ inside → (first : Bool) → (done == 0) ≡ first →
      (begins : Bool) → (next_place % PGSIZE == 0) ≡ begins → GoesTo v k b path argv from
      (if long || not inside then refused else if first || begins then at_given (given.StringRegion index address used done)
      else at_given (given.StringLoading index address used done))
  by_tests true is_long inside is first is_first begins is_begin = record {
    at = refusing;
    is = refl;
    held = kept;
    unborne = refl;
    stands =
        let all : PGSIZE ≤ done = grind (arith, nat_tests, is_long) in
        let short = so.short in
        let many = so.done_is in
        by_given so.stage (in_told (spawn_words refusing) so.is_in)
        (string_endless so.name rest so.taken so.words address so.stage quotes_next (omega (arith, all, short, many))) refl;
  }
  by_tests false few false outside first is_first begins is_begin = record {
    at = refusing;
    is = refl;
    held = kept;
    unborne = refl;
    stands = by_given so.stage (in_told (spawn_words refusing) so.is_in)
        (string_outside so.name rest so.taken so.words address so.stage quotes_next (ap is_inside place_so ∙ outside)) refl;
  }
  by_tests false few true inside true is_first begins is_begin = record {
    at = spawn.Given (given.StringRegion index address used done);
    is = refl;
    held = kept;
    unborne = refl;
    stands = (at_string_told (spawn_words (spawn.Given (given.StringRegion index address used done))) (at_it (grind (arith, nat_tests, few))), inside);
  }
  by_tests false few true inside false later true is_begin = record {
    at = spawn.Given (given.StringRegion index address used done);
    is = refl;
    held = kept;
    unborne = refl;
    stands = (at_string_told (spawn_words (spawn.Given (given.StringRegion index address used done))) (at_it (grind (arith, nat_tests, few))), inside);
  }
  by_tests false few true inside false later false amid_page = record {
    at = spawn.Given (given.StringLoading index address used done);
    is = refl;
    held = kept;
    unborne = refl;
    stands =
        let before = known later in (
          at_string_told (spawn_words (spawn.Given (given.StringLoading index address used done))) (at_it (grind (arith, nat_tests, few))),
          allowed_on v before.0 next_place before.1 before.2 amid_page inside,
        );
  }

  pub string_goes : GoesTo v k b path argv from (at_string index address used done)
  string_goes =
      by_tests (nat_le PGSIZE done) refl (is_inside next_place) refl (done == 0) refl (next_place % PGSIZE == 0) refl

-- ---- what fits a page

-- as the code reckons, which counts no more of the strings' bytes than one more than a page has
pub fits_same : (words : List (List ℕ)) → fits_page (length words) (min (strings_size words) (PGSIZE + 1)) ≡ fits_stack words
unfolding fits_stack stack_size
fits_same words = by_size (nat_le (strings_size words) (PGSIZE + 1)) refl
  where
    by_size : (c : Bool) → nat_le (strings_size words) (PGSIZE + 1) ≡ c →
        fits_page (length words) (min (strings_size words) (PGSIZE + 1)) ≡ fits_stack words
    by_size true test =
        let few : strings_size words ≤ PGSIZE + 1 = grind (arith, nat_tests, test) in
        let least : min (strings_size words) (PGSIZE + 1) ≡ strings_size words = min-eq_left few in
        ap (fits_page (length words)) least
    by_size false test =
        let many : PGSIZE + 1 ≤ strings_size words = grind (arith, nat_tests, test) in
        let least : min (strings_size words) (PGSIZE + 1) ≡ PGSIZE + 1 = min-eq_right many in
        let more : nat_le ((strings_size words + 3) / 4 * 4 + 4 * (length words + 1) + 8) PGSIZE ≡ false = grind (arith, nat_tests, many) in
        let past : nat_le ((PGSIZE + 1 + 3) / 4 * 4 + 4 * (length words + 1) + 8) PGSIZE ≡ false = grind (arith, nat_tests) in
        ap (fits_page (length words)) least
        ∙ (λ i. nat_le 1 (length words) && nat_le (length words) 16 && past i)
        ∙ sym (λ i. nat_le 1 (length words) && nat_le (length words) 16 && more i)

-- Where they fit, they are not more than are counted.
pub size_told : (words : List (List ℕ)) (used : ℕ) → used ≡ min (strings_size words) (PGSIZE + 1) → fits_page (length words) used ≡ true →
    used ≡ strings_size words
size_told words used is fits = by_size (nat_le (strings_size words) (PGSIZE + 1)) refl
  where
    by_size : (c : Bool) → nat_le (strings_size words) (PGSIZE + 1) ≡ c → used ≡ strings_size words
    by_size true test = let few : strings_size words ≤ PGSIZE + 1 = grind (arith, nat_tests, test) in is ∙ min-eq_left few
    by_size false test =
        let many : PGSIZE + 1 ≤ strings_size words = grind (arith, nat_tests, test) in
        let least : min (strings_size words) (PGSIZE + 1) ≡ PGSIZE + 1 = min-eq_right many in
        let past : nat_le ((PGSIZE + 1 + 3) / 4 * 4 + 4 * (length words + 1) + 8) PGSIZE ≡ false = grind (arith, nat_tests) in
        let none : fits_page (length words) used ≡ false =
        ap (fits_page (length words)) (is ∙ least) ∙ (λ i. nat_le 1 (length words) && nat_le (length words) 16 && past i)
        ∙ no_last (nat_le 1 (length words) && nat_le (length words) 16) in
        absurd (false≢true (sym none ∙ fits))
      where
        no_last : (t : Bool) → t && false ≡ false
        no_last true = refl
        no_last false = refl

-- ---- behind the addresses

module _ (v : View) (k : Slot) (b : Born) (path argv index used : ℕ) (h : IsQuoting v k b path argv index used 0) where
  abbrev here : SpawnStep
  here = spawn.Given (given.StringAddress index used)

  -- the word that stands there
  abbrev pub next_address : ℕ
  next_address = slice_index (h.addresses ++ 0 ∷ []) index

  none_taken : h.taken ≡ []
  none_taken = nil_from_length h.taken h.done_is

  -- one that is not 0 is the next
  next_left : next_address ≢ 0 → h.left ≡ next_address ∷ drop (index + 1) h.addresses
  next_left some = by_place (nat_lt index (length h.addresses)) refl
    where
      by_place : (c : Bool) → nat_lt index (length h.addresses) ≡ c → h.left ≡ next_address ∷ drop (index + 1) h.addresses
      by_place true test =
          let low : index < length h.addresses = grind (arith, nat_tests, test) in
          let first : slice_index h.addresses index ≡ next_address = sym (get_or_append_left h.addresses (0 ∷ []) 0 index low) in
          h.left_is ∙ drop_more h.addresses index 0 low ∙ ap (λ (x : ℕ). x ∷ drop (index + 1) h.addresses) first
      by_place false test =
          let reached = h.reached in
          let past : length h.addresses ≤ index = grind (arith, nat_tests, test) in
          absurd (some (get_or_at h.addresses 0 [] 0 index (omega (arith, reached, past))))

  -- behind the last there is none
  none_left : next_address ≡ 0 → h.left ≡ []
  none_left zero = by_place (nat_lt index (length h.addresses)) refl
    where
      by_place : (c : Bool) → nat_lt index (length h.addresses) ≡ c → h.left ≡ []
      by_place true test =
          let low : index < length h.addresses = grind (arith, nat_tests, test) in
          absurd ((h.are index 0 low).0 (sym (get_or_append_left h.addresses (0 ∷ []) 0 index low) ∙ zero))
      by_place false test =
          let past : length h.addresses ≤ index = grind (arith, nat_tests, test) in
          let few = length-drop index h.addresses in
          h.left_is ∙ nil_from_length (drop index h.addresses) (omega (arith, few, past))

  quotes_all : h.left ≡ [] → Quotes b h.name [] h.words [] h.stage
  quotes_all none =
      subst (λ (taken : List ℕ). Quotes b h.name [] h.words taken h.stage) none_taken
      (subst (λ (left : List ℕ). Quotes b h.name left h.words h.taken h.stage) none h.quotes)

  abbrev refusing_all : SpawnStep
  refusing_all = spawn.Undoing (undoing.UndoingGiven (negated E_INVAL))

  fits_so : fits_page index used ≡ fits_stack h.words
  fits_so = (λ i. fits_page (sym h.many i) (h.used_is i)) ∙ fits_same h.words

  strings_there : used ≡ strings_size h.words → used ≤ PGSIZE → GivenHas v (strings_of h.words)
  strings_there all fits =
      let room : nat_le (used + 0) PGSIZE ≡ true = grind (arith, nat_tests, fits) in
      subst (λ (bytes : List ℕ). GivenHas v bytes)
      (ap (λ (c : Bool). if c then strings_of h.words ++ h.taken else []) room ∙ ap (λ (l : List ℕ). strings_of h.words ++ l) none_taken
      ∙ append-nil (strings_of h.words)) h.strings

  words_given : h.left ≡ [] → (fits : Bool) → fits_page index used ≡ fits →
      GoesTo v k b path argv here (if not fits then refused else at_given (given.TakingStack index used))
  words_given none false none_fits = record {
    at = refusing_all;
    is = refl;
    held = refl;
    unborne = refl;
    stands = by_given h.stage (in_told (spawn_words refusing_all) h.is_in) (no_fit h.name h.words h.stage (quotes_all none) (sym fits_so ∙ none_fits)) refl;
  }
  words_given none true fits =
      let all : used ≡ strings_size h.words = size_told h.words used h.used_is (ap (λ (m : ℕ). fits_page m used) h.many ∙ fits) in
      record {
        at = spawn.Given (given.TakingStack index used);
        is = refl;
        held = refl;
        unborne = refl;
        stands = record {
          words = h.words;
          has = record {
            name = h.name;
            stage = h.stage;
            quotes = quotes_all none;
            is_in = in_told (spawn_words (spawn.Given (given.TakingStack index used))) h.is_in;
            path_kept = h.path_kept;
            fits = sym fits_so ∙ fits;
            small_words = h.small_words;
            no_ends = h.no_ends;
          };
          count_is = sym h.many;
          size_is = all;
          strings = strings_there all (few fits);
        };
      }
    where
      few : fits_page index used ≡ true → used ≤ PGSIZE
      few fits = grind (arith, nat_tests, fits)

  pub strings_go : GoesTo v k b path argv here (behind_strings index used next_address)
  strings_go = by_word (next_address == 0) refl
    where
      by_word : (c : Bool) → (next_address == 0) ≡ c → GoesTo v k b path argv here
          (if not c then at_string index next_address used 0 else if not (fits_page index used) then refused else at_given (given.TakingStack index used))
      by_word true test = words_given (none_left (grind (arith, nat_tests, test))) (fits_page index used) refl
      by_word false test =
          let some : next_address ≢ 0 = grind (arith, nat_tests, test) in
          string_goes v k b path argv here refl index next_address used 0 h (drop (index + 1) h.addresses) (next_left some)
          (λ later. absurd (false≢true (sym later)))
