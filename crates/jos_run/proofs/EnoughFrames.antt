-- In the frames that it wants, a program is booted: a page takes a frame, and one more where its region has no page yet.
use Rattle.std.proofs.Common.{◌≡◌, ◌∙◌, ◌+◌, ◌-◌, ◌*◌, ◌/◌, ◌<◌, ◌≤◌, ◌&&◌, ℕ, zero, suc, not, Bool, true, false, List, [], ◌∷◌}
use Rattle.std.proofs.Common.{Option, Some, None}
use Rattle.std.proofs.Common.{length, refl, ap, arith, if◌then◌else◌}
use Rattle.std.specs.Prelude.{is_some, option_and_then}
use Rattle.std.specs.List.{All}
use Rattle.jos_base.specs.Counting.{frame_limit}
use Rattle.jos_base.specs.Environments.{bit_of, is_live}
use Rattle.jos_base.specs.KernelState.{KernelState, slot_at, with_spaces}
use Rattle.jos_base.specs.SpacesState.{SpacesState, allocated, reserved_frames, rising, with_page_bytes}
use Rattle.jos_base.specs.Words.{upd}
use Rattle.jos_elf.specs.declared.image.Segment.{Segment}
use Rattle.jos_elf.specs.Parsed.{Layout, Lies}
use Rattle.jos_kernel.specs.Boot.{filled, only_state, page_loaded, pages_loaded, perm_of}
use Rattle.jos_elf.specs.Pages.{any_touches, any_writes, page_bytes}
use Rattle.jos_elf.specs.Pages.{stack_page}
use Rattle.jos_kernel.proofs.ImagesRead.{read_lie}
use Rattle.lib_os.specs.AbstractMemory.{has_page_in}
use Rattle.lib_os.specs.AbstractState.{Page, own}
use Rattle.lib_os.specs.Rows.{descriptor_page, descriptor_perm}
use Rattle.jos_elf.specs.StackPage.{stack_contents, stack_size}
use Rattle.lib_spawn.proofs.StackPages.{fits}
use Rattle.jos_run.specs.Begun.{ProgramsBoot}
use Rattle.jos_run.specs.Boot.{boot_frames, booted_within, handler_page, handler_stack_loaded, program_loaded, space_loaded}
use Rattle.jos_elf.specs.Started.{stack_segment}
use Rattle.jos_run.specs.Boot.{console_in, console_loaded, touches_region}
use Rattle.jos_run.proofs.Booted.{booted-enough}
use Rattle.jos_run.proofs.BootedPages.{no_row}
use Rattle.jos_run.proofs.ConsoleLoaded.{last, no_descriptor, no_descriptor_too, second_inserted}
use Rattle.jos_run.proofs.FirstState.{base, base_stage, booted_with, space_small}
use Rattle.jos_run.proofs.FirstSpaces.{HasFrames, has_frames, second_at, spaces_two}
use Rattle.jos_run.proofs.FramesTaken.{allocated_some, allocated_spends}
use Rattle.jos_run.proofs.PagesBegin.{Stage, no_entry, memory_below, below-at, below-none, touched_next, untouched_next}
use Rattle.jos_run.proofs.PagesBegin.{pages_stage, program_stage, handler_stage, space_memory, limit_small, no_stack, no_handler}
use Rattle.jos_run.proofs.PagesFilled.{has_page-put}
use Rattle.jos_run.proofs.StackLoaded.{fits-some, stack-touched}
use Rattle.jos_run.proofs.Touched.{counted, counted-next, counted-none, counted-grows, counted-same, counted-drop}
use Rattle.jos_base.proofs.Maps.{upd-at, upd-other}
use Rattle.jos_base.proofs.Below.{some_below-at, some_below-none}

module _ (frames : ℕ) (kernel : KernelState) (live : is_live (slot_at kernel 1) ≡ true) (small : (slot_at kernel 1).directory < frame_limit)
    (image : Layout) (words : List (List ℕ)) (file : List ℕ) where
  abbrev d : ℕ
  d = (slot_at kernel 1).directory

  abbrev At : (ℕ → Option Page) → SpacesState → Type 0
  At = Stage frames kernel live small

  abbrev segments : List Segment
  segments = image.segments

  abbrev below : ℕ → ℕ → Option Page
  below = memory_below frames kernel live small image words file

  abbrev touched : ℕ → Bool
  touched k = any_touches k segments

  -- the regions that still want a table, where the pages below a number are there
  abbrev wants_by : (ℕ → Option Page) → ℕ → Bool
  wants_by memory r = touches_region segments r && not (has_page_in memory r)

  abbrev wanted : ℕ → ℕ
  wanted n = counted (wants_by (below n)) 832

  -- as many frames are left as the pages from a number on and those regions want, and six
  record Suffices (n : ℕ) (t : SpacesState) : Type 0 where
    enough : counted touched 851968 + wanted n + 6 ≤ length t.free + counted touched n

  bits : (n : ℕ) → touches_region segments n ≡ true → (b : Bool) → bit_of (touches_region segments n && not b) ≡ bit_of (not b)
  bits n is b = ap (λ (c : Bool). bit_of (c && not b)) is

  -- the region of a page that is touched is touched
  region_is : (n : ℕ) → touched n ≡ true → touches_region segments (n / 1024) ≡ true
  region_is n is =
      let place : n / 1024 * 1024 + (n - n / 1024 * 1024) ≡ n = omega arith in
      some_below-at (λ k. any_touches (n / 1024 * 1024 + k) segments) 1024 (n - n / 1024 * 1024) (omega arith)
      (ap (λ (q : ℕ). any_touches q segments) place ∙ is)

  -- one page more
  wanted_next : (n : ℕ) → n < 851968 → touched n ≡ true →
      wanted (suc n) + bit_of (not (has_page_in (below n) (n / 1024))) ≡ wanted n
  wanted_next n lt is =
      let page : Page = own (page_bytes segments file n) (any_writes n segments) in
      let memory : ℕ → Option Page = upd (below n) n (Some page) in
      let after : wanted (suc n) ≡ counted (wants_by memory) 832 =
      ap (λ (m : ℕ → Option Page). counted (wants_by m) 832) (touched_next frames kernel live small image words file n is) in
      let here : has_page_in memory (n / 1024) ≡ true =
      has_page-put (below n) n page (n / 1024) ∙ upd-at (has_page_in (below n)) (n / 1024) true in
      let none : bit_of (wants_by memory (n / 1024)) ≡ 0 = bits (n / 1024) (region_is n is) (has_page_in memory (n / 1024))
      ∙ ap (λ (b : Bool). bit_of (not b)) here in
      let was = bits (n / 1024) (region_is n is) (has_page_in (below n) (n / 1024)) in
      let drop = counted-drop (wants_by memory) (wants_by (below n)) 832 (n / 1024) (omega arith)
      (λ q ne. ap (λ (b : Bool). touches_region segments q && not b)
      (has_page-put (below n) n page q ∙ upd-other (has_page_in (below n)) (n / 1024) true q ne)) in
      omega (arith, after, none, was, drop)

  abbrev Loaded : SpacesState → ℕ → Type 0
  Loaded first n = (t : SpacesState) × (pages_loaded segments file d first n ≡ Some t) × Suffices n t

  -- a page is loaded, and what is left suffices for the others
  page_suffices : (n : ℕ) (t : SpacesState) → n < 851968 → At (below n) t → Suffices n t →
      (u : SpacesState) × (page_loaded segments file d n t ≡ Some u) × Suffices (suc n) u
  page_suffices n t lt h s = by_touch (touched n) refl
    where
      by_touch : (b : Bool) → touched n ≡ b → (u : SpacesState) × (page_loaded segments file d n t ≡ Some u) × Suffices (suc n) u
      by_touch false is = (
        t,
        ap (λ (b : Bool). if b then filled (page_bytes segments file n) (allocated t d n (perm_of (any_writes n segments))) else
            Some t) is,
        record {
          enough =
              let next = counted-next touched n in
              let suc_is : counted touched (suc n) ≡ counted touched (n + 1) = ap (counted touched) (omega arith) in
              let same : wanted (suc n) ≡ wanted n =
              ap (λ (m : ℕ → Option Page). counted (wants_by m) 832) (untouched_next frames kernel live small image words
              file n is) in
              let none : bit_of (touched n) ≡ 0 = ap bit_of is in
              let before = s.enough in
              omega (arith, next, suc_is, same, none, before);
        },
      )
      by_touch true is =
          let next = counted-next touched n in
          let suc_is : counted touched (suc n) ≡ counted touched (n + 1) = ap (counted touched) (omega arith) in
          let one : bit_of (touched n) ≡ 1 = ap bit_of is in
          let grows = counted-grows touched (suc n) 851968 (omega arith) in
          let before = s.enough in
          let some = allocated_some t d n (perm_of (any_writes n segments)) (omega (arith, next, suc_is, one, grows, before)) in
          let none = no_entry t d n (no_row h.has n (below-at frames kernel live small image words file n)) in
          let spent = allocated_spends t some.0.1 d n (perm_of (any_writes n segments)) some.0.0 none some.1 in
          let same : bit_of (not (has_page_in (below n) (n / 1024))) ≡ bit_of (not (is_some (t.regions d (n / 1024)))) =
          ap (λ (b : Bool). bit_of (not b)) (h.has.tables (n / 1024)) in
          let less = wanted_next n lt is in (
            with_page_bytes some.0.1 some.0.0 (page_bytes segments file n),
            ap (λ (b : Bool). if b then filled (page_bytes segments file n) (allocated t d n (perm_of (any_writes n segments)))
                else Some t) is
                ∙ ap (filled (page_bytes segments file n)) some.1,
            record { enough = omega (arith, next, suc_is, one, before, spent, same, less) },
          )

  pages_suffice : (first : SpacesState) → At (λ p. None) first → Suffices 0 first → (n : ℕ) → n ≤ 851968 → Loaded first n
  unfolding pages_loaded
  pages_suffice first h s zero le = (first, refl, s)
  pages_suffice first h s (suc n) le =
      let before = pages_suffice first h s n (omega arith) in
      let stage = pages_stage frames kernel live small image words file first h n (let lim = limit_small in
      omega (arith, lim)) before.0 before.1 in
      let next = page_suffices n before.0 (omega arith) stage before.2 in
      (next.0, ap (λ (o : Option SpacesState). option_and_then (page_loaded segments file d n) o) before.1 ∙ next.1, next.2)

  bit_small : (b : Bool) → bit_of b ≤ 1
  bit_small true = omega arith
  bit_small false = omega arith

  -- the page of the stack, and four frames are left
  abbrev StackLoaded : SpacesState → Type 0
  StackLoaded t = (u : SpacesState)
      × (page_loaded (stack_segment words ∷ []) (stack_contents words) d stack_page t ≡ Some u) × (4 ≤ length u.free)

  stack_suffices : 0 < stack_size words → stack_size words ≤ 4096 → (t : SpacesState) → t.entries d stack_page ≡ None →
      6 ≤ length t.free → StackLoaded t
  stack_suffices some most t none enough =
      let bits = perm_of (any_writes stack_page (stack_segment words ∷ [])) in
      let one = allocated_some t d stack_page bits (omega (arith, enough)) in
      let spent = allocated_spends t one.0.1 d stack_page bits one.0.0 none one.1 in
      let table = bit_small (not (is_some (t.regions d (stack_page / 1024)))) in
      let bytes : List ℕ = page_bytes (stack_segment words ∷ []) (stack_contents words) stack_page in (
        with_page_bytes one.0.1 one.0.0 bytes,
        ap (λ (b : Bool). if b then filled bytes (allocated t d stack_page bits) else Some t) (stack-touched words some most)
            ∙ ap (filled bytes) one.1,
        omega (arith, enough, spent, table),
      )

  -- all pages of the image, and that of the stack
  program_suffices : All (Lies (length file)) image.segments → 0 < stack_size words → stack_size words ≤ 4096 → (first : SpacesState) →
      At (λ p. None) first → Suffices 0 first →
      (u : SpacesState) × (program_loaded segments file words d first ≡ Some u) × (4 ≤ length u.free)
  unfolding program_loaded
  program_suffices lie some most first h s =
      let loaded = pages_suffice first h s 851968 (omega arith) in
      let stage = pages_stage frames kernel live small image words file first h 851968 limit_small loaded.0 loaded.1 in
      let none = no_entry loaded.0 d stack_page
      (no_row stage.has stack_page (no_stack frames kernel live small image words file lie some most)) in
      let last = stack_suffices some most loaded.0 none (let enough = loaded.2.enough in omega (arith, enough)) in (
        last.0,
        ap (λ (o : Option SpacesState). option_and_then (page_loaded (stack_segment words ∷ []) (stack_contents words) d stack_page) o)
            loaded.1 ∙ last.1,
        last.2,
      )

  -- that of the handler's stack, and two frames are left
  handler_suffices : (t : SpacesState) → t.entries d handler_page ≡ None → 4 ≤ length t.free →
      (u : SpacesState) × (handler_stack_loaded d t ≡ Some u) × (2 ≤ length u.free)
  unfolding handler_stack_loaded
  handler_suffices t none enough =
      let one = allocated_some t d handler_page (perm_of true) (omega (arith, enough)) in
      let spent = allocated_spends t one.0.1 d handler_page (perm_of true) one.0.0 none one.1 in
      let table = bit_small (not (is_some (t.regions d (handler_page / 1024)))) in
      (one.0.1, ap only_state one.1, omega (arith, enough, spent, table))

  module _ (lie : All (Lies (length file)) image.segments) (some : 0 < stack_size words) (most : stack_size words ≤ 4096) where
    -- and that of the console
    console_suffices : (t : SpacesState) → At (space_memory image file words) t → 2 ≤ length t.free →
        (u : SpacesState) × (console_loaded d t ≡ Some u)
    unfolding console_loaded
    console_suffices t h enough =
        let memory = space_memory image file words in
        let none = no_descriptor frames kernel live small image words file lie some most in
        let none_too = no_descriptor_too frames kernel live small image words file lie some most in
        let one = allocated_some t d (descriptor_page 0) descriptor_perm enough in (
          last frames kernel live small memory t h none none_too one.0.0 one.0.1 one.1,
          ap (console_in d) one.1 ∙ second_inserted frames kernel live small memory t h none none_too one.0.0 one.0.1 one.1,
        )

    space_suffices : (first : SpacesState) → At (λ p. None) first → Suffices 0 first →
        (u : SpacesState) × (space_loaded segments file words d first ≡ Some u)
    unfolding space_loaded
    space_suffices first h s =
        let loaded = program_suffices lie some most first h s in
        let stage = program_stage frames kernel live small image words file lie some most first loaded.0 h loaded.1 in
        let none = no_entry loaded.0 d handler_page
        (no_row stage.has handler_page (no_handler frames kernel live small image words file lie some most)) in
        let handler = handler_suffices loaded.0 none loaded.2 in
        let both : option_and_then (handler_stack_loaded d) (program_loaded segments file words d first) ≡ Some handler.0 =
        ap (option_and_then (handler_stack_loaded d)) loaded.1 ∙ handler.1 in
        let whole = console_suffices handler.0
        (handler_stage frames kernel live small image words file lie some most first handler.0 h both) handler.2 in
        (whole.0, ap (option_and_then (console_loaded d)) both ∙ whole.1)

  -- at the beginning every region that is touched wants a table
  wanted_first : wanted 0 ≡ counted (touches_region segments) 832
  wanted_first = counted-same (wants_by (below 0)) (touches_region segments) 832
      (λ r lt. ap (λ (b : Bool). touches_region segments r && not b)
      (some_below-none (λ p. is_some (below 0 (r * 1024 + p))) 1024
      (λ p low. ap is_some (below-none frames kernel live small image words file (r * 1024 + p))))
      ∙ and_true (touches_region segments r))
    where
      and_true : (b : Bool) → (b && true) ≡ b
      and_true true = refl
      and_true false = refl

  suffices_first : (first : SpacesState) → counted touched 851968 + counted (touches_region segments) 832 + 6 ≤ length first.free →
      Suffices 0 first
  suffices_first first le = record {
    enough = let none = counted-none touched in let regions = wanted_first in omega (arith, le, none, regions);
  }

length-rising : (first n : ℕ) → length (rising first n) ≡ n
unfolding rising
length-rising first zero = refl
length-rising first (suc n) = ap suc (length-rising (first + 1) n)

-- where its space is loaded, the program is booted
booted_enough : (image : Layout) (file : List ℕ) (words : List (List ℕ)) (frames : ℕ) (input : List ℕ) (first n : ℕ)
    (has : HasFrames frames first n) → boot_frames image ≤ frames → (u : SpacesState) →
    space_loaded image.segments file words (second_at first) (spaces_two frames first n has) ≡ Some u →
    (s : KernelState) × (booted_within image file words frames input ≡ Some s)
booted_enough image file words frames input first n has least u is = (
  with_spaces (base image words input frames first n has) u,
  booted-enough image file words frames input least ∙ booted_with image words input frames first n has file u is,
)

pub programs_boot : ProgramsBoot
unfolding boot_frames
programs_boot image file words frames input read fit least most =
    let h = fits words fit in
    let has = has_frames frames (omega arith) most in
    let first = reserved_frames frames in
    let n = frames - reserved_frames frames - 4 in
    let left = length-rising (second_at first + 1) n in
    let kernel = base image words input frames first n has in
    let small = space_small image words input frames first n has in
    let loaded = space_suffices frames kernel refl small image words file (read_lie file image read) (fits-some words h) h.size
    (spaces_two frames first n has)
    (base_stage image words input frames first n has)
    (suffices_first frames kernel refl small image words file (spaces_two frames first n has) (omega (arith, left))) in
    booted_enough image file words frames input first n has least loaded.0 loaded.1
