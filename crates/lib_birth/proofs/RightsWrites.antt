-- In which pages a segment lies that may be written: by so many program headers, and whatever their segments' bytes are.
use Rattle.std.proofs.Common.{◌≡◌, ◌∙◌, ◌+◌, ◌<◌, ◌≤◌, ◌==◌, ◌&&◌, ◌||◌, ℕ, zero, suc, Bool, true, false, [], ◌∷◌, refl, sym, ap, arith, if◌then◌else◌}
use Rattle.std.specs.Prelude.{nat_lt, slice_index}
use Rattle.std.proofs.lemmas.Bool.Decides.{nat_tests}
use Rattle.std.proofs.lemmas.List.Folds.{list_any-append}
use Rattle.jos_elf.specs.declared.header.ProgramHeader.{ProgramHeader}
use Rattle.jos_elf.specs.declared.image.Segment.{Segment}
use Rattle.jos_elf.specs.Headers.{entry_count_of}
use Rattle.jos_elf.specs.Pages.{any_writes, touches}
use Rattle.jos_elf.specs.Parsed.{segment_of, segments_of}
use Rattle.jos_elf.specs.Tests.{is_loaded}
use Rattle.lib_os.specs.AbstractSpawn.{headers_in, image_segments, packed, packed_at}
use Rattle.lib_os.specs.AbstractState.{ImageRead}
use Rattle.lib_os.specs.SpawnedChild.{Progress, headers_filled, segments_filled}

abbrev pub writes_at : ℕ → Segment → Bool
writes_at p segment = touches p segment && segment.writable

-- a program header says of a segment that may be written there
abbrev pub header_writes : ℕ → ProgramHeader → Bool
header_writes p header = is_loaded header && writes_at p (segment_of header)

-- ---- so many program headers

or_none : (c : Bool) → (c || false) ≡ c
or_none true = refl
or_none false = refl

writes_next : (headers : ℕ → ProgramHeader) (p n : ℕ) →
    any_writes p (segments_of headers (suc n)) ≡ (any_writes p (segments_of headers n) || header_writes p (headers n))
unfolding segments_of
writes_next headers p n =
    list_any-append (writes_at p) (segments_of headers n) (if is_loaded (headers n) then segment_of (headers n) ∷ [] else [])
    ∙ ap (λ (c : Bool). any_writes p (segments_of headers n) || c) (by_loaded (is_loaded (headers n)))
  where
    by_loaded : (c : Bool) → any_writes p (if c then segment_of (headers n) ∷ [] else []) ≡ (c && writes_at p (segment_of (headers n)))
    by_loaded true = or_none (writes_at p (segment_of (headers n)))
    by_loaded false = refl

pub writes_more : (headers : ℕ → ProgramHeader) (p n : ℕ) →
    any_writes p (segments_of headers (n + 1)) ≡ (any_writes p (segments_of headers n) || header_writes p (headers n))
writes_more headers p n =
    let same : n + 1 ≡ suc n = omega arith in ap (λ (m : ℕ). any_writes p (segments_of headers m)) same ∙ writes_next headers p n

-- none says of one
pub writes_none : (headers : ℕ → ProgramHeader) (p : ℕ) → any_writes p (segments_of headers 0) ≡ false
unfolding segments_of
writes_none headers p = refl

-- where so many say of none, fewer do
pub writes_fewer : (headers : ℕ → ProgramHeader) (p fewer n : ℕ) → fewer ≤ n → any_writes p (segments_of headers n) ≡ false →
    any_writes p (segments_of headers fewer) ≡ false
writes_fewer headers p fewer zero most none = let same : fewer ≡ 0 = omega (arith, most) in ap (λ (m : ℕ). any_writes p (segments_of headers m)) same ∙ none
writes_fewer headers p fewer (suc n) most none = by_last (fewer == suc n) refl (λ less. writes_fewer headers p fewer n less before)
  where
    first_off : (c d : Bool) → (c || d) ≡ false → c ≡ false
    first_off true d off = off
    first_off false d off = refl

    before : any_writes p (segments_of headers n) ≡ false
    before = first_off (any_writes p (segments_of headers n)) (header_writes p (headers n)) (sym (writes_next headers p n) ∙ none)

    by_last : (c : Bool) → (fewer == suc n) ≡ c → (fewer ≤ n → any_writes p (segments_of headers fewer) ≡ false) →
        any_writes p (segments_of headers fewer) ≡ false
    by_last true test earlier =
        let same : fewer ≡ suc n = grind (arith, nat_tests, test) in ap (λ (m : ℕ). any_writes p (segments_of headers m)) same ∙ none
    by_last false test earlier = earlier (let other : (fewer ≡ suc n → ⊥) = grind (arith, nat_tests, test) in omega (arith, most, other))

-- one of them says of one there
pub writes_found : (headers : ℕ → ProgramHeader) (p n m : ℕ) → m < n → header_writes p (headers m) ≡ true → any_writes p (segments_of headers n) ≡ true
writes_found headers p zero m below is = absurd (omega (arith, below))
writes_found headers p (suc n) m below is =
    writes_next headers p n ∙ by_last (m == n) refl (λ less. writes_found headers p n m less is)
  where
    first_or : (c d : Bool) → c ≡ true → (c || d) ≡ true
    first_or true d on = refl
    first_or false d on = absurd (let contradiction : false ≡ true = on in cc)

    second_or : (c d : Bool) → d ≡ true → (c || d) ≡ true
    second_or true d on = refl
    second_or false d on = on

    by_last : (c : Bool) → (m == n) ≡ c → (m < n → any_writes p (segments_of headers n) ≡ true) →
        (any_writes p (segments_of headers n) || header_writes p (headers n)) ≡ true
    by_last true test before =
        let here : m ≡ n = grind (arith, nat_tests, test) in
        second_or (any_writes p (segments_of headers n)) (header_writes p (headers n)) (ap (λ (q : ℕ). header_writes p (headers q)) (sym here) ∙ is)
    by_last false test before =
        let other : (m ≡ n → ⊥) = grind (arith, nat_tests, test) in
        first_or (any_writes p (segments_of headers n)) (header_writes p (headers n)) (before (omega (arith, below, other)))

-- ---- whatever their bytes are

writes_alike : (f g : ℕ → ProgramHeader) (p n : ℕ) → ((m : ℕ) → header_writes p (f m) ≡ header_writes p (g m)) →
    any_writes p (segments_of f n) ≡ any_writes p (segments_of g n)
unfolding segments_of
writes_alike f g p zero same = refl
writes_alike f g p (suc n) same = writes_next f p n ∙ (λ i. writes_alike f g p n same i || same n i) ∙ sym (writes_next g p n)

writes_whatever : (header : ProgramHeader) (at len p : ℕ) → header_writes p (record header { file_at = at; file_len = len }) ≡ header_writes p header
unfolding is_loaded
writes_whatever header at len p = refl

filled_writes : (image : ImageRead) (progress : Progress) (p m : ℕ) →
    header_writes p (headers_filled image progress m) ≡ header_writes p (headers_in image.table m)
filled_writes image progress p m = by_front (nat_lt m progress.filled)
  where
    one : ProgramHeader
    one = headers_in image.table m

    by_front : (c : Bool) → header_writes p (if c then packed (headers_in image.table) m
        else record (packed (headers_in image.table) m) { file_len = if m == progress.filled then progress.bytes else 0 }) ≡ header_writes p one
    by_front true = writes_whatever one (packed_at (headers_in image.table) m) one.file_len p
    by_front false = writes_whatever one (packed_at (headers_in image.table) m) (if m == progress.filled then progress.bytes else 0) p

-- the child's page may be written where the image's may
pub image_writes : (image : ImageRead) (progress : Progress) (p : ℕ) →
    any_writes p (segments_filled image progress) ≡ any_writes p (image_segments image)
image_writes image progress p =
    writes_alike (headers_filled image progress) (headers_in image.table) p (entry_count_of (slice_index image.header)) (filled_writes image progress p)
