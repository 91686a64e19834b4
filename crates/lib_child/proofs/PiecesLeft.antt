-- Which pieces of an image are still to be asked for: those of the program headers from one on, and what of them comes first.
use Rattle.std.proofs.Common.{◌≡◌, ◌≢◌, ◌∙◌, ◌+◌, ◌-◌, ◌*◌, ◌/◌, ◌%◌, ◌<◌, ◌≤◌, ◌++◌, ℕ, zero, suc, Bool, true, false, List, [], ◌∷◌, length, refl, sym, ap}
use Rattle.std.proofs.Common.{arith}
use Rattle.std.proofs.Common.{if◌then◌else◌}
use Rattle.std.specs.Prelude.{drop, flat_map, slice_index}
use Rattle.std.proofs.lemmas.Grind.{flat_map-append}
use Rattle.std.proofs.lemmas.List.{drop_all, length-map}
use Rattle.jos_base.specs.SpacesState.{rising}
use Rattle.jos_elf.specs.declared.header.ProgramHeader.{ProgramHeader}
use Rattle.jos_elf.specs.declared.image.Segment.{Segment}
use Rattle.jos_elf.specs.Headers.{entry_count_of}
use Rattle.jos_elf.specs.Parsed.{segment_of, segments_of}
use Rattle.jos_elf.specs.Tests.{is_loaded}
use Rattle.lib_os.specs.declared.numbers.TheConstants.{TRANSFER_MAX}
use Rattle.lib_os.specs.AbstractSpawn.{Piece, headers_in, packed_at, piece_of, pieces_of, pieces_wanted}
use Rattle.lib_os.specs.AbstractState.{ImageRead}
use Rattle.lib_os.specs.StandsAtSpawn.{pieces_behind, rest_of}

-- ---- rising numbers

pub rising_none : (first : ℕ) → rising first 0 ≡ []
unfolding rising
rising_none first = refl

pub rising_some : (first n : ℕ) → rising first (suc n) ≡ first ∷ rising (first + 1) n
unfolding rising
rising_some first n = refl

pub rising_last : (first n : ℕ) → rising first (suc n) ≡ rising first n ++ (first + n) ∷ []
unfolding rising
rising_last first zero = let same : first ≡ first + 0 = omega arith in ap (λ (m : ℕ). m ∷ []) same
rising_last first (suc n) =
    let same : first + 1 + n ≡ first + suc n = omega arith in
    ap (λ (l : List ℕ). first ∷ l) (rising_last (first + 1) n ∙ ap (λ (m : ℕ). rising (first + 1) n ++ m ∷ []) same)

pub length-rising : (first n : ℕ) → length (rising first n) ≡ n
unfolding rising
length-rising first zero = refl
length-rising first (suc n) = ap suc (length-rising (first + 1) n)

-- ---- by program headers

abbrev pub count_of : ImageRead → ℕ
count_of image = entry_count_of (slice_index image.header)

-- those of the segments of the program headers from one on
abbrev pub pieces_after : ImageRead → ℕ → List Piece
pieces_after image header = flat_map (λ n. rest_of (headers_in image.table) n 0) (rising header (count_of image - header))

pub after_here : (image : ImageRead) (header : ℕ) → header < count_of image → pieces_after image header ≡ pieces_behind image header 0
after_here image header below =
    let many : count_of image - header ≡ suc (count_of image - (header + 1)) = omega (arith, below) in
    ap (λ (m : ℕ). flat_map (λ n. rest_of (headers_in image.table) n 0) (rising header m)) many
    ∙ ap (flat_map (λ n. rest_of (headers_in image.table) n 0)) (rising_some header (count_of image - (header + 1)))

pub after_last : (image : ImageRead) (header : ℕ) → header ≡ count_of image → pieces_after image header ≡ []
after_last image header last =
    let none : count_of image - header ≡ 0 = omega (arith, last) in
    ap (λ (m : ℕ). flat_map (λ n. rest_of (headers_in image.table) n 0) (rising header m)) none
    ∙ ap (flat_map (λ n. rest_of (headers_in image.table) n 0)) (rising_none header)

-- all of them are those of all segments
of_segments : (headers : ℕ → ProgramHeader) (n : ℕ) →
    flat_map pieces_of (segments_of headers n) ≡ flat_map (λ m. rest_of headers m 0) (rising 0 n)
unfolding segments_of
of_segments headers zero = sym (ap (flat_map (λ m. rest_of headers m 0)) (rising_none 0))
of_segments headers (suc n) =
    flat_map-append pieces_of (segments_of headers n) (if is_loaded (headers n) then segment_of (headers n) ∷ [] else [])
    ∙ ap (λ (l : List Piece). l ++ flat_map pieces_of (if is_loaded (headers n) then segment_of (headers n) ∷ [] else [])) (of_segments headers n)
    ∙ ap (λ (l : List Piece). flat_map (λ m. rest_of headers m 0) (rising 0 n) ++ l) (by_loaded (is_loaded (headers n)) refl)
    ∙ sym (flat_map-append (λ m. rest_of headers m 0) (rising 0 n) ((0 + n) ∷ []))
    ∙ sym (ap (flat_map (λ m. rest_of headers m 0)) (rising_last 0 n))
  where
    here : 0 + n ≡ n
    here = omega arith

    by_loaded : (c : Bool) → is_loaded (headers n) ≡ c → flat_map pieces_of (if c then segment_of (headers n) ∷ [] else [])
        ≡ flat_map (λ m. rest_of headers m 0) ((0 + n) ∷ [])
    by_loaded true is =
        sym (ap (λ (m : ℕ). rest_of headers m 0 ++ []) here
        ∙ ap (λ (c : Bool). (if c then pieces_of (segment_of (headers n)) else []) ++ []) is)
    by_loaded false is =
        sym (ap (λ (m : ℕ). rest_of headers m 0 ++ []) here
        ∙ ap (λ (c : Bool). (if c then pieces_of (segment_of (headers n)) else []) ++ []) is)

pub wanted_all : (image : ImageRead) → pieces_wanted image ≡ pieces_after image 0
wanted_all image =
    let all : count_of image ≡ count_of image - 0 = omega arith in
    of_segments (headers_in image.table) (count_of image)
    ∙ ap (λ (m : ℕ). flat_map (λ n. rest_of (headers_in image.table) n 0) (rising 0 m)) all

-- ---- behind those of one

-- where it says of no segment
pub behind_over : (image : ImageRead) (header done : ℕ) → is_loaded (headers_in image.table header) ≡ false →
    pieces_behind image header done ≡ pieces_after image (header + 1)
behind_over image header done none =
    ap (λ (c : Bool). (if c then drop ((done + (TRANSFER_MAX - 1)) / TRANSFER_MAX) (pieces_of (segment_of (headers_in image.table header))) else [])
    ++ pieces_after image (header + 1)) none

pub pieces_long : (segment : Segment) → length (pieces_of segment) ≡ (segment.file_len + (TRANSFER_MAX - 1)) / TRANSFER_MAX
pieces_long segment =
    length-map (rising 0 ((segment.file_len + (TRANSFER_MAX - 1)) / TRANSFER_MAX)) (piece_of segment)
    ∙ length-rising 0 ((segment.file_len + (TRANSFER_MAX - 1)) / TRANSFER_MAX)

-- or where all of it has come
pub behind_done : (image : ImageRead) (header done : ℕ) → is_loaded (headers_in image.table header) ≡ true →
    done ≡ (headers_in image.table header).file_len → pieces_behind image header done ≡ pieces_after image (header + 1)
behind_done image header done loaded all =
    ap (λ (c : Bool). (if c then drop ((done + (TRANSFER_MAX - 1)) / TRANSFER_MAX) (pieces_of (segment_of (headers_in image.table header))) else [])
    ++ pieces_after image (header + 1)) loaded
    ∙ ap (λ (l : List Piece). l ++ pieces_after image (header + 1))
    (drop_all ((done + (TRANSFER_MAX - 1)) / TRANSFER_MAX) (pieces_of (segment_of (headers_in image.table header)))
    (let long = pieces_long (segment_of (headers_in image.table header)) in
    let same = ap (λ (len : ℕ). (len + (TRANSFER_MAX - 1)) / TRANSFER_MAX) all in omega (arith, long, same)))

-- the bytes of the segments in front of it
pub packed_over : (headers : ℕ → ProgramHeader) (n : ℕ) → is_loaded (headers n) ≡ false → packed_at headers (n + 1) ≡ packed_at headers n + 0
unfolding packed_at
packed_over headers n none =
    let same : n + 1 ≡ suc n = omega arith in
    ap (packed_at headers) same ∙ ap (λ (c : Bool). packed_at headers n + (if c then (headers n).file_len else 0)) none

pub packed_more : (headers : ℕ → ProgramHeader) (n : ℕ) → is_loaded (headers n) ≡ true → packed_at headers (n + 1) ≡ packed_at headers n + (headers n).file_len
unfolding packed_at
packed_more headers n loaded =
    let same : n + 1 ≡ suc n = omega arith in
    ap (packed_at headers) same ∙ ap (λ (c : Bool). packed_at headers n + (if c then (headers n).file_len else 0)) loaded

pub packed_none : (headers : ℕ → ProgramHeader) → packed_at headers 0 ≡ 0
unfolding packed_at
packed_none headers = refl
