-- Pages are loaded one after another.
use Rattle.std.proofs.Common.{◌≡◌, ◌∙◌, ℕ, ◌+◌, ◌-◌, ◌/◌, ◌<◌, ◌≤◌, zero, suc, Bool, true, false, List, Option}
use Rattle.std.proofs.Common.{Some, None}
use Rattle.std.proofs.Common.{refl, sym, ap, subst, arith}
use Rattle.std.specs.Prelude.{IfSome, IsNone, is_some, option_and_then}
use Rattle.jos_base.specs.declared.memory.Frame.{Frame}
use Rattle.jos_base.specs.declared.numbers.TheConstants.{PGSIZE, FDTABLE}
use Rattle.jos_base.specs.SpacesState.{SpacesState, allocated, zero_page, with_page_bytes}
use Rattle.jos_base.specs.KernelState.{KernelState, slot_at, with_spaces}
use Rattle.jos_elf.specs.declared.image.Segment.{Segment}
use Rattle.jos_kernel.specs.Boot.{perm_of, filled, page_loaded}
use Rattle.jos_elf.specs.Pages.{any_touches, any_writes, laid_all, page_bytes}
use Rattle.jos_kernel.specs.Boot.{pages_loaded, image_loaded, only_state}
use Rattle.jos_elf.specs.Pages.{stack_page}
use Rattle.jos_kernel.specs.Loading.{IsFirstAt, Loads, with_bytes_in}

-- ---- one page

-- a page that is touched is allocated with the bits that it has, and then filled
loaded-touched : (segments : List Segment) (file : List ℕ) (space number n perm : ℕ) (s : SpacesState)
    → any_touches number segments ≡ true → n ≡ number → perm ≡ perm_of (any_writes number segments)
    → page_loaded segments file space number s ≡ filled (page_bytes segments file number) (allocated s space n perm)
loaded-touched segments file space number n perm s touched is_n is_perm = rw (touched, ← is_perm, is_n) refl

module _ (segments : List Segment) (file : List ℕ) (space number n perm : ℕ) (s t : KernelState)
    (touched : any_touches number segments ≡ true) (is_n : n ≡ number) (is_perm : perm ≡ perm_of (any_writes number segments))
    (rest : t ≡ with_spaces s t.spaces) where
  pub loads-none : allocated s.spaces space n perm ≡ None → Loads (page_loaded segments file space number s.spaces) false s t
  loads-none is = (
    loaded-touched segments file space number n perm s.spaces touched is_n is_perm ∙ ap (filled (page_bytes segments file number)) is,
    rest,
  )

  pub loads-filled : (u : KernelState) (frame : ℕ) → allocated s.spaces space n perm ≡ Some (frame, t.spaces) → t.spaces.pages frame ≡ zero_page
      → u ≡ with_bytes_in t frame (laid_all segments file number (t.spaces.pages frame))
      → Loads (page_loaded segments file space number s.spaces) true s u
  loads-filled u frame is clear laid_is =
      let spaces : u.spaces ≡ with_page_bytes t.spaces frame (page_bytes segments file number) =
      ap (λ (k : KernelState). k.spaces) laid_is ∙ ap (λ (bytes : List ℕ). with_page_bytes t.spaces frame (laid_all segments file number bytes)) clear in (
        loaded-touched segments file space number n perm s.spaces touched is_n is_perm ∙ ap (filled (page_bytes segments file number)) is ∙ ap Some (sym spaces),
        laid_is ∙ ap (λ (k : KernelState). with_bytes_in k frame (laid_all segments file number (t.spaces.pages frame))) rest
            ∙ ap (with_spaces s) (sym (ap (λ (k : KernelState). k.spaces) laid_is)),
      )

-- ---- all pages

-- a page that no segment touches changes nothing
loaded-untouched : (segments : List Segment) (file : List ℕ) (space number : ℕ) (s : SpacesState) → any_touches number segments ≡ false
    → page_loaded segments file space number s ≡ Some s
loaded-untouched segments file space number s untouched = rw untouched refl

module _ (segments : List Segment) (file : List ℕ) (space : ℕ) (s : SpacesState) where
  pub pages-none : pages_loaded segments file space s 0 ≡ Some s
  unfolding pages_loaded
  pages-none = refl

  pages-more : (n : ℕ) (t : SpacesState) → pages_loaded segments file space s n ≡ Some t
      → pages_loaded segments file space s (n + 1) ≡ page_loaded segments file space n t
  unfolding pages_loaded
  pages-more n t is =
      let next : n + 1 ≡ suc n = omega arith in
      ap (pages_loaded segments file space s) next ∙ rw is refl

  -- pages that no segment touches are passed over
  over : (n m : ℕ) (t : SpacesState) → pages_loaded segments file space s n ≡ Some t
      → ((k : ℕ) → n ≤ k → k < n + m → any_touches k segments ≡ false) → pages_loaded segments file space s (n + m) ≡ Some t
  unfolding pages_loaded
  over n zero t is untouched = let same : n + 0 ≡ n = omega arith in rw same is
  over n (suc m) t is untouched =
      let next : n + suc m ≡ suc (n + m) = omega arith in
      let before = over n m t is (λ k le lt. untouched k le (omega arith)) in
      rw (next, before) (loaded-untouched segments file space (n + m) t (untouched (n + m) (omega arith) (omega arith)))

  pages-over : (n m : ℕ) (t : SpacesState) → n ≤ m → pages_loaded segments file space s n ≡ Some t
      → ((k : ℕ) → n ≤ k → k < m → any_touches k segments ≡ false) → pages_loaded segments file space s m ≡ Some t
  pages-over n m t le is untouched =
      let whole : m ≡ n + (m - n) = omega arith in
      ap (pages_loaded segments file space s) whole ∙ over n (m - n) t is (λ k h lt. untouched k h (omega arith))

  -- where a page is not loaded, no more are
  stuck : (n m : ℕ) → pages_loaded segments file space s n ≡ None → pages_loaded segments file space s (n + m) ≡ None
  unfolding pages_loaded
  stuck n zero is = let same : n + 0 ≡ n = omega arith in rw same is
  stuck n (suc m) is =
      let next : n + suc m ≡ suc (n + m) = omega arith in
      rw (next, stuck n m is) refl

  pages-stuck : (n m : ℕ) → n ≤ m → pages_loaded segments file space s n ≡ None → pages_loaded segments file space s m ≡ None
  pages-stuck n m le is =
      let whole : m ≡ n + (m - n) = omega arith in
      ap (pages_loaded segments file space s) whole ∙ stuck n (m - n) is

-- ---- in the kernel's state, where the pages below a number are loaded

module _ (segments : List Segment) (file : List ℕ) (slot : ℕ) (s t : KernelState) (from : ℕ)
    (loaded : pages_loaded segments file (slot_at s slot).directory s.spaces from ≡ Some t.spaces)
    (rest : t ≡ with_spaces s t.spaces) where
  page_by_page : (number : ℕ) → from ≤ number → ((k : ℕ) → from ≤ k → k < number → any_touches k segments ≡ false)
      → pages_loaded segments file (slot_at s slot).directory s.spaces (number + 1)
      ≡ page_loaded segments file (slot_at t slot).directory number t.spaces
  page_by_page number le untouched =
      pages-more segments file (slot_at s slot).directory s.spaces number t.spaces
      (pages-over segments file (slot_at s slot).directory s.spaces from number t.spaces le loaded untouched)
      ∙ ap (λ (k : KernelState). page_loaded segments file (slot_at k slot).directory number t.spaces) (sym rest)

  pub next-loaded : (u : KernelState) (number : ℕ) → IsFirstAt (λ n. any_touches n segments) from number
      → Loads (page_loaded segments file (slot_at t slot).directory number t.spaces) true t u
      → (pages_loaded segments file (slot_at s slot).directory s.spaces (number + 1) ≡ Some u.spaces) × (u ≡ with_spaces s u.spaces)
  next-loaded u number first now = (
    page_by_page number first.behind first.others ∙ now.0,
    now.1 ∙ ap (λ (k : KernelState). with_spaces k u.spaces) rest,
  )

  pub next-none : (u : KernelState) (number limit : ℕ) → IsFirstAt (λ n. any_touches n segments) from number → number < limit
      → Loads (page_loaded segments file (slot_at t slot).directory number t.spaces) false t u
      → Loads (pages_loaded segments file (slot_at s slot).directory s.spaces limit) false s u
  next-none u number limit first lt now = (
    pages-stuck segments file (slot_at s slot).directory s.spaces (number + 1) limit (omega arith)
        (page_by_page number first.behind first.others ∙ now.0),
    now.1 ∙ ap (λ (k : KernelState). with_spaces k u.spaces) rest,
  )

  pub all-loaded : (limit : ℕ) → from ≤ limit → ((k : ℕ) → from ≤ k → any_touches k segments ≡ false)
      → Loads (pages_loaded segments file (slot_at s slot).directory s.spaces limit) true s t
  all-loaded limit le untouched =
      (pages-over segments file (slot_at s slot).directory s.spaces from limit t.spaces le loaded (λ k h lt. untouched k h), rest)

-- ---- the stack's page comes last

module _ (segments : List Segment) (file : List ℕ) (slot : ℕ) (s t : KernelState) where
  pub image-none : Loads (pages_loaded segments file (slot_at s slot).directory s.spaces (FDTABLE / PGSIZE)) false s t
      → Loads (image_loaded segments file (slot_at s slot).directory s.spaces) false s t
  unfolding image_loaded
  image-none pages = (rw pages.0 refl, pages.1)

  module _ (u : KernelState) (perm : ℕ) (is_perm : perm ≡ perm_of true)
      (pages : Loads (pages_loaded segments file (slot_at s slot).directory s.spaces (FDTABLE / PGSIZE)) true s t)
      (rest : u ≡ with_spaces t u.spaces) where
    image-last : image_loaded segments file (slot_at s slot).directory s.spaces ≡ only_state (allocated t.spaces (slot_at t slot).directory stack_page perm)
    unfolding image_loaded
    image-last =
        ap (λ (loaded : Option SpacesState). option_and_then (λ k. only_state (allocated k (slot_at s slot).directory stack_page (perm_of true))) loaded) pages.0
        ∙ ap (λ (k : KernelState). only_state (allocated t.spaces (slot_at k slot).directory stack_page (perm_of true))) (sym pages.1)
        ∙ ap (λ (bits : ℕ). only_state (allocated t.spaces (slot_at t slot).directory stack_page bits)) (sym is_perm)

    whole : u ≡ with_spaces s u.spaces
    whole = rest ∙ ap (λ (k : KernelState). with_spaces k u.spaces) pages.1

    pub image-loads : (page : Option Frame) (some : Bool) → some ≡ is_some page
        → IfSome page (λ frame. allocated t.spaces (slot_at t slot).directory stack_page perm ≡ Some (frame.0, u.spaces))
        → (IsNone page → allocated t.spaces (slot_at t slot).directory stack_page perm ≡ None)
        → Loads (image_loaded segments file (slot_at s slot).directory s.spaces) some s u
    image-loads (Some frame) some is found absent = subst (λ (b : Bool). Loads (image_loaded segments file (slot_at s slot).directory s.spaces) b s u) (sym is)
        (image-last ∙ ap only_state found, whole)
    image-loads None some is found absent = subst (λ (b : Bool). Loads (image_loaded segments file (slot_at s slot).directory s.spaces) b s u) (sym is)
        (image-last ∙ ap only_state (absent refl), whole)
