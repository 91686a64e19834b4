-- File parts are laid into a page one after another.
use Rattle.std.proofs.Common.{◌≡◌, ◌∙◌, ℕ, ◌+◌, ◌-◌, ◌*◌, ◌<◌, ◌≤◌, true, false, List, [], ◌∷◌, ◌++◌, take, drop}
use Rattle.std.proofs.Common.{length, get_or}
use Rattle.std.proofs.Common.{max, min, refl, sym, ap, arith}
use Rattle.std.specs.Prelude.{nat_lt}
use Rattle.std.proofs.lemmas.Bool.{lt-ltb}
use Rattle.std.proofs.lemmas.Bool.Decides.{nat_tests}
use Rattle.std.proofs.lemmas.List.{take_more, take_all}
use Rattle.jos_base.specs.SpacesState.{overlaid}
use Rattle.jos_base.specs.KernelState.{KernelState, with_spaces}
use Rattle.jos_elf.specs.declared.image.Segment.{Segment}
use Rattle.jos_elf.specs.Pages.{file_part, laid_between, laid, laid_all}
use Rattle.jos_kernel.specs.Loading.{with_bytes_in}
use Rattle.jos_base.proofs.Maps.{upd-at, upd-twice, upd-stays}

-- ---- one segment

between-in : (segment : Segment) (file bytes : List ℕ) (begin from to : ℕ) → from < to
    → laid_between segment file bytes begin from to ≡ overlaid bytes (from - begin) (file_part segment file from to)
between-in segment file bytes begin from to lt = let test : nat_lt from to ≡ true = lt-ltb from to lt in rw test refl

between-out : (segment : Segment) (file bytes : List ℕ) (begin from to : ℕ) → to ≤ from → laid_between segment file bytes begin from to ≡ bytes
between-out segment file bytes begin from to le = let test : nat_lt from to ≡ false = grind (arith, nat_tests) in rw test refl

next_page : (number : ℕ) → (number + 1) * 4096 ≡ number * 4096 + 4096
next_page number = omega arith

-- the segment's part in the page, from an address up to another, is `len` bytes of the file from `at` on
pub laid-part : (segment : Segment) (file bytes : List ℕ) (number from to at len : ℕ)
    → from ≡ max segment.va (number * 4096) → to ≡ min (segment.va + segment.file_len) (number * 4096 + 4096)
    → at ≡ segment.file_at + (from - segment.va) → len ≡ to - from → from < to
    → laid segment file number bytes ≡ overlaid bytes (from - number * 4096) (take (at + len - at) (drop at file))
laid-part segment file bytes number from to at len is_from is_to is_at is_len lt =
    let long : at + len - at ≡ to - from = omega arith in
    rw (next_page number, ← is_from, ← is_to, long, is_at) (between-in segment file bytes (number * 4096) from to lt)

pub laid-none : (segment : Segment) (file bytes : List ℕ) (number from to : ℕ)
    → from ≡ max segment.va (number * 4096) → to ≡ min (segment.va + segment.file_len) (number * 4096 + 4096) → to ≤ from
    → laid segment file number bytes ≡ bytes
laid-none segment file bytes number from to is_from is_to le =
    rw (next_page number, ← is_from, ← is_to) (between-out segment file bytes (number * 4096) from to le)

-- ---- in the kernel's state

pub with_bytes-same : (s : KernelState) (frame : ℕ) (bytes : List ℕ) → bytes ≡ s.spaces.pages frame → s ≡ with_bytes_in s frame bytes
with_bytes-same s frame bytes e =
    sym (λ i. with_spaces s (record s.spaces { pages = λ q. upd-stays s.spaces.pages frame bytes e q i }))

pub with_bytes-twice : (s : KernelState) (frame : ℕ) (a b : List ℕ) → with_bytes_in (with_bytes_in s frame a) frame b ≡ with_bytes_in s frame b
with_bytes-twice s frame a b = ap (λ (pages : ℕ → List ℕ). with_spaces s (record s.spaces { pages = pages })) (upd-twice s.spaces.pages frame a b)

pub with_bytes-at : (s : KernelState) (frame : ℕ) (bytes : List ℕ) → (with_bytes_in s frame bytes).spaces.pages frame ≡ bytes
with_bytes-at s frame bytes = upd-at s.spaces.pages frame bytes

-- ---- one segment after another

laid_all-push : (segments : List Segment) (segment : Segment) (file : List ℕ) (number : ℕ) (bytes : List ℕ)
    → laid_all (segments ++ segment ∷ []) file number bytes ≡ laid segment file number (laid_all segments file number bytes)
unfolding laid_all
laid_all-push [] segment file number bytes = refl
laid_all-push (first ∷ rest) segment file number bytes = laid_all-push rest segment file number (laid first file number bytes)

pub laid_all-none : (file : List ℕ) (number : ℕ) (bytes : List ℕ) → laid_all [] file number bytes ≡ bytes
unfolding laid_all
laid_all-none file number bytes = refl

-- the segments before a place are laid, and then the one at it
pub laid_all-more : (s t u : KernelState) (frame : ℕ) (segments : List Segment) (file : List ℕ) (number i : ℕ) (d : Segment) → i < length segments
    → t ≡ with_bytes_in s frame (laid_all (take i segments) file number (s.spaces.pages frame))
    → u ≡ with_bytes_in t frame (laid (get_or segments i d) file number (t.spaces.pages frame))
    → u ≡ with_bytes_in s frame (laid_all (take (i + 1) segments) file number (s.spaces.pages frame))
laid_all-more s t u frame segments file number i d lt before is =
    let old = s.spaces.pages frame in
    let front = laid_all (take i segments) file number old in
    is
    ∙ ap (λ (x : KernelState). with_bytes_in x frame (laid (get_or segments i d) file number (x.spaces.pages frame))) before
    ∙ ap (λ (bytes : List ℕ). with_bytes_in (with_bytes_in s frame front) frame (laid (get_or segments i d) file number bytes)) (with_bytes-at s frame front)
    ∙ with_bytes-twice s frame front (laid (get_or segments i d) file number front)
    ∙ ap (with_bytes_in s frame) (sym (laid_all-push (take i segments) (get_or segments i d) file number old))
    ∙ ap (λ (front : List Segment). with_bytes_in s frame (laid_all front file number old)) (sym (take_more segments i d lt))

pub laid_all-whole : (s t : KernelState) (frame : ℕ) (segments : List Segment) (file : List ℕ) (number i : ℕ) → length segments ≤ i
    → t ≡ with_bytes_in s frame (laid_all (take i segments) file number (s.spaces.pages frame))
    → t ≡ with_bytes_in s frame (laid_all segments file number (s.spaces.pages frame))
laid_all-whole s t frame segments file number i le is =
    is ∙ ap (λ (front : List Segment). with_bytes_in s frame (laid_all front file number (s.spaces.pages frame))) (take_all i segments le)
