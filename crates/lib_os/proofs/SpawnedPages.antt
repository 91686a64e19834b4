-- The pages of a child's that spawn makes, while it is not born: those that are shared are its parent's, those of its own are among those of its
-- image, and its tables are among those with which it is born.
use Rattle.std.proofs.Common.{◌≡◌, ◌∙◌, ◌+◌, ◌*◌, ◌<◌, ◌≤◌, ◌==◌, ◌&&◌, ◌||◌, ◌≢◌, ℕ, zero, suc, Bool, true, false, not, refl, sym, ap, arith}
use Rattle.std.proofs.Common.{List, [], ◌∷◌, ◌++◌, Option, Some, None, if◌then◌else◌}
use Rattle.std.specs.Prelude.{is_some, nat_le, nat_lt, slice_index}
use Rattle.std.proofs.lemmas.Bool.{false≢true}
use Rattle.std.proofs.lemmas.Bool.Decides.{nat_tests}
use Rattle.std.proofs.lemmas.List.Folds.{list_any-append}
use Rattle.jos_base.specs.declared.numbers.TheConstants.{NPTENTRIES}
use Rattle.jos_base.specs.Below.{some_below}
use Rattle.jos_base.specs.Environments.{bit_of}
use Rattle.jos_base.proofs.Below.{some_below-at}
use Rattle.jos_elf.specs.declared.header.ProgramHeader.{ProgramHeader}
use Rattle.jos_elf.specs.declared.image.Segment.{Segment}
use Rattle.jos_elf.specs.Headers.{entry_count_of}
use Rattle.jos_elf.specs.Pages.{any_touches, any_writes, page_bytes, stack_page, touches}
use Rattle.jos_elf.specs.Parsed.{segment_of, segments_of}
use Rattle.jos_elf.specs.Tests.{is_loaded}
use Rattle.lib_os.specs.AbstractMemory.{has_page_in}
use Rattle.lib_os.specs.AbstractSpawn.{all_of, headers_in, image_memory, packed, spawned_memory, under_shared}
use Rattle.lib_os.specs.AbstractState.{Born, ImageRead, Page, named, own}
use Rattle.lib_os.specs.LibraryPages.{is_library_region}
use Rattle.lib_os.specs.Need.{is_own}
use Rattle.lib_os.specs.ProgramMemory.{stack_of}
use Rattle.lib_os.specs.SpawnedChild.{Progress, child_page, header_touches, image_page, is_placed_page, is_settled_page, own_page, segments_filled}

-- ---- one that is shared is its parent's

abbrev is_named : Option Page → Bool
is_named (Some (named name writable)) = true
is_named _ = false

own_unnamed : (image : ImageRead) (progress : Progress) (file : List ℕ) (p : ℕ) → is_named (own_page image progress file p) ≡ false
own_unnamed image progress file p = by_tests (p == stack_page) progress.stack (is_placed_page image progress p)
  where
    by_tests : (c d e : Bool) →
        is_named (if c then (if d then Some (stack_of image.words) else None) else (if e
        then Some (own (page_bytes (segments_filled image progress) file p) (any_writes p (segments_filled image progress) || not (is_settled_page image progress p)))
        else None)) ≡ false
    by_tests true true e = refl
    by_tests true false e = refl
    by_tests false d true = refl
    by_tests false d false = refl

unnamed_none : (q : Option Page) (name : ℕ) (writable : Bool) → is_named q ≡ false → q ≡ Some (named name writable) → ⊥
unnamed_none q name writable none is = false≢true (sym none ∙ ap is_named is)

under_parents : (o q : Option Page) (name : ℕ) (writable : Bool) → is_named q ≡ false → under_shared o q ≡ Some (named name writable) →
    o ≡ Some (named name writable)
under_parents (Some (named other writes)) q name writable none is = is
under_parents (Some (own bytes writes)) q name writable none is = absurd (unnamed_none q name writable none is)
under_parents None q name writable none is = absurd (unnamed_none q name writable none is)

pub parents_page : (b : Born) (image : ImageRead) (progress : Progress) (file : List ℕ) (p name : ℕ) (writable : Bool) →
    child_page b image progress file p ≡ Some (named name writable) → b.memory p ≡ Some (named name writable)
parents_page b image progress file p name writable is = by_test (nat_le progress.passed p) is
  where
    by_test : (c : Bool) → (if c then under_shared (b.memory p) (own_page image progress file p) else own_page image progress file p)
        ≡ Some (named name writable) →
        b.memory p ≡ Some (named name writable)
    by_test true is = under_parents (b.memory p) (own_page image progress file p) name writable (own_unnamed image progress file p) is
    by_test false is = absurd (unnamed_none (own_page image progress file p) name writable (own_unnamed image progress file p) is)

-- ---- one that the child has is one of its image

first_or : (c d : Bool) → c ≡ true → c || d ≡ true
first_or true d is = refl
first_or false d is = absurd (false≢true is)

second_or : (c d : Bool) → d ≡ true → c || d ≡ true
second_or true d is = refl
second_or false d is = is

both_of : (c d : Bool) → c && d ≡ true → (c ≡ true) × (d ≡ true)
both_of true d is = (refl, is)
both_of false d is = absurd (false≢true is)

any_found : (headers : ℕ → ProgramHeader) (p n i : ℕ) → i < n → is_loaded (headers i) ≡ true → touches p (segment_of (headers i)) ≡ true →
    any_touches p (segments_of headers n) ≡ true
unfolding segments_of
any_found headers p zero i below loaded at = absurd (omega (arith, below))
any_found headers p (suc n) i below loaded at = list_any-append (touches p) (segments_of headers n) last ∙ by_last (i == n) refl (λ less. any_found headers p n i less loaded at)
  where
    last : List Segment
    last = if is_loaded (headers n) then segment_of (headers n) ∷ [] else []

    here : i ≡ n → any_touches p last ≡ true
    here same =
        let loaded_there : is_loaded (headers n) ≡ true = ap (λ (k : ℕ). is_loaded (headers k)) (sym same) ∙ loaded in
        let there : touches p (segment_of (headers n)) ≡ true = ap (λ (k : ℕ). touches p (segment_of (headers k))) (sym same) ∙ at in
        ap (λ (c : Bool). any_touches p (if c then segment_of (headers n) ∷ [] else [])) loaded_there ∙ ap (λ (c : Bool). c || false) there

    by_last : (c : Bool) → (i == n) ≡ c → (i < n → any_touches p (segments_of headers n) ≡ true) → any_touches p (segments_of headers n) || any_touches p last ≡ true
    by_last true test before = second_or (any_touches p (segments_of headers n)) (any_touches p last) (here (grind (arith, nat_tests)))
    by_last false test before =
        let other : i ≢ n = grind (arith, nat_tests) in
        first_or (any_touches p (segments_of headers n)) (any_touches p last) (before (omega (arith, below, other)))

some_found : (passes : ℕ → Bool) (n : ℕ) → some_below n passes ≡ true → (i : ℕ) × (i < n) × (passes i ≡ true)
unfolding some_below
some_found passes zero is = absurd (false≢true is)
some_found passes (suc n) is = by_test (some_below n passes) refl is (some_found passes n)
  where
    by_test : (c : Bool) → some_below n passes ≡ c → c || passes n ≡ true → (some_below n passes ≡ true → (i : ℕ) × (i < n) × (passes i ≡ true)) → (i : ℕ) × (i < suc n) × (passes i ≡ true)
    by_test true before some earlier = let found = earlier before in let lt = found.1 in (found.0, omega (arith, lt), found.2)
    by_test false before last earlier = (n, omega arith, last)

abbrev image_segments : ImageRead → List Segment
image_segments image = segments_of (packed (headers_in image.table)) (entry_count_of (slice_index image.header))

header_so : (image : ImageRead) (p n : ℕ) → header_touches image p n ≡ true → any_touches p (image_segments image) ≡ true
unfolding is_loaded
header_so image p n is =
    let parts = both_of (nat_lt n (entry_count_of (slice_index image.header)) && is_loaded (headers_in image.table n))
    (touches p (segment_of (headers_in image.table n))) is in
    let first = both_of (nat_lt n (entry_count_of (slice_index image.header))) (is_loaded (headers_in image.table n)) parts.0 in
    let test = first.0 in
    any_found (packed (headers_in image.table)) p (entry_count_of (slice_index image.header)) n (grind (arith, nat_tests, test))
    first.1 parts.1

placed_so : (image : ImageRead) (progress : Progress) (p : ℕ) → is_placed_page image progress p ≡ true → any_touches p (image_segments image) ≡ true
placed_so image progress p is = by_test (some_below progress.placed (header_touches image p)) refl is
  where
    by_test : (c : Bool) → some_below progress.placed (header_touches image p) ≡ c →
        c || (header_touches image p progress.placed && nat_lt p progress.pages) ≡ true → any_touches p (image_segments image) ≡ true
    by_test true before some = let found = some_found (header_touches image p) progress.placed before in header_so image p found.0 found.2
    by_test false before last = header_so image p progress.placed (both_of (header_touches image p progress.placed) (nat_lt p progress.pages) last).0

abbrev whole_page : ImageRead → List (List ℕ) → ℕ → Page
whole_page image pieces p = own (page_bytes (image_segments image) (all_of pieces) p) (any_writes p (image_segments image))

-- those of the image are its own
image_own : (image : ImageRead) (pieces : List (List ℕ)) (p : ℕ) (c : Bool) → (p == stack_page) ≡ c → c || any_touches p (image_segments image) ≡ true →
    (is_some (image_memory image pieces p) ≡ true) × (is_own (image_memory image pieces p) ≡ true)
image_own image pieces p true test some = (ap (λ (o : Option Page). is_some o) here, ap is_own here)
  where
    here : image_memory image pieces p ≡ Some (stack_of image.words)
    here =
        ap (λ (c : Bool). if c then Some (stack_of image.words) else (if any_touches p (image_segments image) then Some (whole_page image pieces p) else None)) test
image_own image pieces p false test some = (ap (λ (o : Option Page). is_some o) there, ap is_own there)
  where
    there : image_memory image pieces p ≡ Some (whole_page image pieces p)
    there =
        ap (λ (c : Bool). if c then Some (stack_of image.words) else (if any_touches p (image_segments image) then Some (whole_page image pieces p) else None)) test
        ∙ ap (λ (c : Bool). if c then Some (whole_page image pieces p) else None) some

own_some : (image : ImageRead) (progress : Progress) (file : List ℕ) (pieces : List (List ℕ)) (p : ℕ) → is_some (own_page image progress file p) ≡ true →
    (is_some (image_memory image pieces p) ≡ true) × (is_own (image_memory image pieces p) ≡ true)
own_some image progress file pieces p some = by_stack (p == stack_page) refl some
  where
    by_placed : (p == stack_page) ≡ false → (c : Bool) → is_placed_page image progress p ≡ c → is_some (if c
        then Some (own (page_bytes (segments_filled image progress) file p) (any_writes p (segments_filled image progress) || not (is_settled_page image progress p)))
        else None) ≡ true →
        (is_some (image_memory image pieces p) ≡ true) × (is_own (image_memory image pieces p) ≡ true)
    by_placed test true placed some = image_own image pieces p false test (placed_so image progress p placed)
    by_placed test false none some = absurd (false≢true some)

    by_stack : (c : Bool) → (p == stack_page) ≡ c →
        is_some (if c then (if progress.stack then Some (stack_of image.words) else None) else image_page image progress file p) ≡ true →
        (is_some (image_memory image pieces p) ≡ true) × (is_own (image_memory image pieces p) ≡ true)
    by_stack true test some = image_own image pieces p true test refl
    by_stack false test some = by_placed test (is_placed_page image progress p) refl some

own_is_some : (o : Option Page) → is_own o ≡ true → is_some o ≡ true
own_is_some (Some page) is = refl
own_is_some None is = absurd (false≢true is)

bit_less : (c d : Bool) → (c ≡ true → d ≡ true) → bit_of c ≤ bit_of d
bit_less false d so = omega arith
bit_less true d so = let one = ap bit_of (so refl) in omega (arith, one)

-- a page of its own is one of its image's
pub own_among : (b : Born) (image : ImageRead) (progress : Progress) (file : List ℕ) (pieces : List (List ℕ)) (p : ℕ) →
    bit_of (is_own (child_page b image progress file p)) ≤ bit_of (is_own (image_memory image pieces p))
own_among b image progress file pieces p =
    bit_less (is_own (child_page b image progress file p)) (is_own (image_memory image pieces p)) (λ is. by_test (nat_le progress.passed p) is)
  where
    under : (o q : Option Page) → is_own (under_shared o q) ≡ true → is_own q ≡ true
    under (Some (named name writes)) q is = absurd (false≢true is)
    under (Some (own bytes writes)) q is = is
    under None q is = is

    own_so : is_own (own_page image progress file p) ≡ true → is_own (image_memory image pieces p) ≡ true
    own_so is = (own_some image progress file pieces p (own_is_some (own_page image progress file p) is)).1

    by_test : (c : Bool) → is_own (if c then under_shared (b.memory p) (own_page image progress file p) else own_page image progress file p) ≡ true →
        is_own (image_memory image pieces p) ≡ true
    by_test true is = own_so (under (b.memory p) (own_page image progress file p) is)
    by_test false is = own_so is

-- ---- tables

pages_among : (b : Born) (image : ImageRead) (progress : Progress) (file : List ℕ) (pieces : List (List ℕ)) (p : ℕ) →
    is_some (child_page b image progress file p) ≡ true → is_some (spawned_memory b image pieces p) ≡ true
pages_among b image progress file pieces p is = by_test (nat_le progress.passed p) is
  where
    above : (o : Option Page) → is_some (own_page image progress file p) ≡ true → is_some (under_shared o (image_memory image pieces p)) ≡ true
    above (Some (named name writes)) is = refl
    above (Some (own bytes writes)) is = (own_some image progress file pieces p is).0
    above None is = (own_some image progress file pieces p is).0

    under : (o : Option Page) → is_some (under_shared o (own_page image progress file p)) ≡ true →
        is_some (under_shared o (image_memory image pieces p)) ≡ true
    under (Some (named name writes)) is = refl
    under (Some (own bytes writes)) is = (own_some image progress file pieces p is).0
    under None is = (own_some image progress file pieces p is).0

    by_test : (c : Bool) → is_some (if c then under_shared (b.memory p) (own_page image progress file p) else own_page image progress file p) ≡ true →
        is_some (under_shared (b.memory p) (image_memory image pieces p)) ≡ true
    by_test true is = under (b.memory p) is
    by_test false is = above (b.memory p) is

-- a region in which it may have a page is one in which it has one when it is born
pub regions_among : (b : Born) (image : ImageRead) (progress : Progress) (file : List ℕ) (pieces : List (List ℕ)) (r : ℕ) →
    has_page_in (child_page b image progress file) r || is_library_region r ≡ true →
    has_page_in (spawned_memory b image pieces) r || is_library_region r ≡ true
regions_among b image progress file pieces r is = by_test (has_page_in (child_page b image progress file) r) refl is
  where
    by_test : (c : Bool) → has_page_in (child_page b image progress file) r ≡ c → c || is_library_region r ≡ true →
        has_page_in (spawned_memory b image pieces) r || is_library_region r ≡ true
    by_test true has some =
        let found = some_found (λ i. is_some (child_page b image progress file (r * NPTENTRIES + i))) NPTENTRIES has in
        first_or (has_page_in (spawned_memory b image pieces) r) (is_library_region r)
        (some_below-at (λ i. is_some (spawned_memory b image pieces (r * NPTENTRIES + i))) NPTENTRIES found.0 found.1
        (pages_among b image progress file pieces (r * NPTENTRIES + found.0) found.2))
    by_test false none library = second_or (has_page_in (spawned_memory b image pieces) r) (is_library_region r) library
