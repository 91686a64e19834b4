-- The page of the file server's records is loaded, that of a program's stack, that of the stack of its handler of page faults, and that of the console, and then the
-- program begins.
use Rattle.std.proofs.Common.{◌≡◌, ◌∙◌, ℕ, ◌+◌, ◌-◌, ◌/◌, ◌<◌, ◌≤◌, ◌&&◌, ◌||◌, Bool, true, false, List, [], ◌∷◌, Option, Some}
use Rattle.std.proofs.Common.{None, Result, Ok, Err}
use Rattle.std.proofs.Common.{take, refl, sym, ap, subst, arith}
use Rattle.std.specs.Prelude.{IfSome, IsNone, OnErr, OnOk, is_ok, is_some, nat_lt, option_and_then}
use Rattle.std.specs.Option.{option_map}
use Rattle.std.proofs.lemmas.Bool.{lt-ltb}
use Rattle.std.proofs.lemmas.List.{take_all}
use Rattle.jos_base.specs.declared.environment.EnvType.TheVariants.{FileServer}
use Rattle.jos_base.specs.declared.environment.Status.TheVariants.{Runnable}
use Rattle.jos_base.specs.declared.errno.Errno.{Errno}
use Rattle.jos_base.specs.declared.memory.Frame.{Frame}
use Rattle.jos_base.specs.declared.numbers.TheConstants.{FDTABLE, PGSIZE}
use Rattle.jos_base.specs.declared.registers.Regs.{Regs}
use Rattle.jos_base.specs.KernelState.{KernelState, slot_at, with_env_type, with_registers, with_spaces, with_status, with_upcall}
use Rattle.jos_base.specs.Reach.{Entry}
use Rattle.jos_base.specs.SpacesState.{SpacesState, allocated, inserted, overlaid, with_page_bytes, zero_page}
use Rattle.jos_base.specs.SystemCalls.{environment_made}
use Rattle.jos_elf.specs.declared.image.Segment.{Segment}
use Rattle.jos_elf.specs.Parsed.{Layout}
use Rattle.jos_kernel.specs.Boot.{only_state, page_loaded, pages_loaded}
use Rattle.jos_elf.specs.Pages.{any_touches, any_writes, laid_all, stack_page, touches}
use Rattle.jos_kernel.specs.Loading.{Loads, with_bytes_in}
use Rattle.jos_kernel.proofs.Laying.{laid-part}
use Rattle.lib_os.specs.declared.numbers.TheConstants.{PGFAULT_UPCALL}
use Rattle.jos_elf.specs.StackPage.{stack_contents, stack_pointer, stack_size}
use Rattle.lib_spawn.proofs.StackPages.{Fits, stack-has_size}
use Rattle.jos_run.specs.Boot.{program_loaded, handler_stack_loaded, console_bytes, console_in, console_loaded, space_loaded}
use Rattle.jos_elf.specs.Started.{stack_segment}
use Rattle.jos_run.specs.Boot.{program_started, program_in, records_loaded, server_in, server_started}
use Rattle.jos_elf.specs.Started.{program_registers}

-- ---- the page of the stack

-- what stands there lies in the page
module _ (words : List (List ℕ)) (some : 0 < stack_size words) (most : stack_size words ≤ 4096) where
  abbrev segment : Segment
  segment = stack_segment words

  stack-touches : touches stack_page segment ≡ true
  stack-touches =
      let low : nat_lt (stack_pointer words) 4005552128 ≡ true = lt-ltb (stack_pointer words) 4005552128 (omega arith) in
      let high : nat_lt 4005548032 (stack_pointer words + stack_size words) ≡ true = lt-ltb 4005548032
      (stack_pointer words + stack_size words) (omega arith) in
      ap (λ (b : Bool). b && nat_lt 4005548032 (stack_pointer words + stack_size words)) low ∙ high

  pub stack-touched : any_touches stack_page (segment ∷ []) ≡ true
  stack-touched = ap (λ (b : Bool). b || false) stack-touches

  pub stack-writes : any_writes stack_page (segment ∷ []) ≡ true
  stack-writes = ap (λ (b : Bool). (b && true) || false) stack-touches

  pub stack-laid : (bytes : List ℕ) (offset : ℕ) → offset ≡ 4096 - stack_size words →
      laid_all (segment ∷ []) (stack_contents words) stack_page bytes ≡ overlaid bytes offset (stack_contents words)
  unfolding laid_all
  stack-laid bytes offset is =
      let from = stack_pointer words in
      let place : from - 4005548032 ≡ offset = omega arith in
      let long : 0 + stack_size words - 0 ≡ stack_size words = omega arith in
      let size = stack-has_size words in
      laid-part segment (stack_contents words) bytes stack_page from 4005552128 0 (stack_size words) (omega arith) (omega arith)
      (omega arith) (omega arith) (omega arith)
      ∙ (λ i. overlaid bytes (place i) (take (long i) (stack_contents words)))
      ∙ ap (overlaid bytes offset) (take_all (stack_size words) (stack_contents words) (omega (arith, size)))

-- words that fit have something to stand there
pub fits-some : (words : List (List ℕ)) → Fits words → 0 < stack_size words
unfolding stack_size
fits-some words fits = omega arith

-- ---- one thing is loaded after another

module _ (next : ℕ → SpacesState → Option SpacesState) (first : Option SpacesState) (slot : ℕ) (s t : KernelState) where
  abbrev both : Option SpacesState
  both = option_and_then (next (slot_at s slot).directory) first

  then-none : Loads first false s t → Loads both false s t
  then-none h = (ap (λ (loaded : Option SpacesState). option_and_then (next (slot_at s slot).directory) loaded) h.0, h.1)

  module _ (h : Loads first true s t) where
    then-last : both ≡ next (slot_at t slot).directory t.spaces
    then-last =
        ap (λ (loaded : Option SpacesState). option_and_then (next (slot_at s slot).directory) loaded) h.0
        ∙ ap (λ (k : KernelState). next (slot_at k slot).directory t.spaces) (sym h.1)

    then-loads : (some : Bool) (u : KernelState) → Loads (next (slot_at t slot).directory t.spaces) some t u → Loads both some s u
    then-loads true u more = (then-last ∙ more.0, more.1 ∙ ap (λ (k : KernelState). with_spaces k u.spaces) h.1)
    then-loads false u more = (then-last ∙ more.0, more.1 ∙ ap (λ (k : KernelState). with_spaces k u.spaces) h.1)

-- ---- the pages of the program

module _ (segments : List Segment) (file : List ℕ) (words : List (List ℕ)) (slot : ℕ) (s t : KernelState) where
  abbrev stack_next : ℕ → SpacesState → Option SpacesState
  stack_next d = page_loaded (stack_segment words ∷ []) (stack_contents words) d stack_page

  abbrev image_pages : Option SpacesState
  image_pages = pages_loaded segments file (slot_at s slot).directory s.spaces (FDTABLE / PGSIZE)

  pub program-none : Loads image_pages false s t → Loads (program_loaded segments file words (slot_at s slot).directory s.spaces) false s t
  unfolding program_loaded
  program-none = then-none stack_next image_pages slot s t

  pub program-loads : Loads image_pages true s t → (some : Bool) (u : KernelState) →
      Loads (stack_next (slot_at t slot).directory t.spaces) some t u →
      Loads (program_loaded segments file words (slot_at s slot).directory s.spaces) some s u
  unfolding program_loaded
  program-loads = then-loads stack_next image_pages slot s t

  -- then that of the handler's stack, and then that of the console

  abbrev program_pages : Option SpacesState
  program_pages = program_loaded segments file words (slot_at s slot).directory s.spaces

  abbrev handler_pages : Option SpacesState
  handler_pages = option_and_then (handler_stack_loaded (slot_at s slot).directory) program_pages

  pub space-none : Loads program_pages false s t → Loads (space_loaded segments file words (slot_at s slot).directory s.spaces) false s t
  unfolding space_loaded
  space-none h = then-none console_loaded handler_pages slot s t (then-none handler_stack_loaded program_pages slot s t h)

  pub handler-none : Loads program_pages true s t → (u : KernelState) →
      Loads (handler_stack_loaded (slot_at t slot).directory t.spaces) false t u →
      Loads (space_loaded segments file words (slot_at s slot).directory s.spaces) false s u
  unfolding space_loaded
  handler-none h u more =
      then-none console_loaded handler_pages slot s u (then-loads handler_stack_loaded program_pages slot s t h false u more)

  pub space-loads : Loads program_pages true s t → (u : KernelState) →
      Loads (handler_stack_loaded (slot_at t slot).directory t.spaces) true t u → (some : Bool) (v : KernelState) →
      Loads (console_loaded (slot_at u slot).directory u.spaces) some u v →
      Loads (space_loaded segments file words (slot_at s slot).directory s.spaces) some s v
  unfolding space_loaded
  space-loads h u more some v last =
      then-loads console_loaded handler_pages slot s u (then-loads handler_stack_loaded program_pages slot s t h true u more) some v last

module _ (s t : KernelState) (d : ℕ) (rest : t ≡ with_spaces s t.spaces) where
  -- a page of zeros
  zeros-load : (number : ℕ) (page : Option Frame) (some : Bool) → some ≡ is_some page →
      IfSome page (λ frame. allocated s.spaces d number 7 ≡ Some (frame.0, t.spaces)) →
      (IsNone page → allocated s.spaces d number 7 ≡ None) → Loads (only_state (allocated s.spaces d number 7)) some s t
  zeros-load number (Some frame) some is found absent =
      subst (λ (b : Bool). Loads (only_state (allocated s.spaces d number 7)) b s t) (sym is) (ap only_state found, rest)
  zeros-load number None some is found absent =
      subst (λ (b : Bool). Loads (only_state (allocated s.spaces d number 7)) b s t) (sym is) (ap only_state (absent refl), rest)

  pub handler-loads : (page : Option Frame) (some : Bool) → some ≡ is_some page →
      IfSome page (λ frame. allocated s.spaces d 977919 7 ≡ Some (frame.0, t.spaces)) →
      (IsNone page → allocated s.spaces d 977919 7 ≡ None) → Loads (handler_stack_loaded d s.spaces) some s t
  unfolding handler_stack_loaded
  handler-loads = zeros-load 977919

  pub records-load : (page : Option Frame) (some : Bool) → some ≡ is_some page →
      IfSome page (λ frame. allocated s.spaces d 65534 7 ≡ Some (frame.0, t.spaces)) →
      (IsNone page → allocated s.spaces d 65534 7 ≡ None) → Loads (records_loaded d s.spaces) some s t
  unfolding records_loaded
  records-load = zeros-load 65534

-- ---- the page of the console

module _ (slot : ℕ) (s t : KernelState) (rest : t ≡ with_spaces s t.spaces) where
  abbrev console : Option SpacesState
  console = console_loaded (slot_at s slot).directory s.spaces

  pub console-none : allocated s.spaces (slot_at s slot).directory 851968 1031 ≡ None → Loads console false s t
  unfolding console_loaded
  console-none none = (ap (console_in (slot_at s slot).directory) none, rest)

  module _ (u v : KernelState) (frame : ℕ) (bytes : List ℕ)
      (made : allocated s.spaces (slot_at s slot).directory 851968 1031 ≡ Some (frame, t.spaces)) (clear : t.spaces.pages frame ≡ zero_page)
      (bytes_are : bytes ≡ console_bytes) (laid : u ≡ with_bytes_in t frame (overlaid (t.spaces.pages frame) 0 bytes))
      (last : v ≡ with_spaces u v.spaces) where
    abbrev entry : Entry
    entry = record { frame = frame; perm = 1031 }

    -- its second entry
    abbrev second : Option SpacesState
    second = inserted u.spaces (slot_at u slot).directory 851969 entry

    space_is : (slot_at u slot).directory ≡ (slot_at s slot).directory
    space_is = ap (λ (k : KernelState). (slot_at k slot).directory) laid ∙ ap (λ (k : KernelState). (slot_at k slot).directory) rest

    spaces_are : u.spaces ≡ with_page_bytes t.spaces frame (overlaid zero_page 0 console_bytes)
    spaces_are = ap (λ (k : KernelState). k.spaces) laid
        ∙ (λ i. with_page_bytes t.spaces frame (overlaid (clear i) 0 (bytes_are i)))

    whole : console ≡ second
    unfolding console_loaded
    whole = ap (console_in (slot_at s slot).directory) made
        ∙ sym (λ i. inserted (spaces_are i) (space_is i) 851969 entry)

    rest_is : v ≡ with_spaces s v.spaces
    rest_is = last ∙ ap (λ (k : KernelState). with_spaces k v.spaces) laid ∙ ap (λ (k : KernelState). with_spaces k v.spaces) rest

    pub console-loads : {U E : Type 0} (some : Bool) (result : Result U E) → some ≡ is_ok result → OnOk result (second ≡ Some v.spaces) →
        OnErr result (second ≡ None) → Loads console some s v
    console-loads some (Ok unit) is done none =
        subst (λ (b : Bool). Loads console b s v) (sym is) (whole ∙ done, rest_is)
    console-loads some (Err error) is done none =
        subst (λ (b : Bool). Loads console b s v) (sym is) (whole ∙ none, rest_is)

-- ---- the environments

module _ (image : Layout) (file : List ℕ) (words : List (List ℕ)) (s : KernelState) where
  pub program-no_slot : (error : Errno) → environment_made s 0 ≡ Err error → program_in image file words (environment_made s 0) ≡ None
  program-no_slot error is = ap (program_in image file words) is

  module _ (t u : KernelState) (n : ℕ) (segments : List Segment) (made : environment_made s 0 ≡ Ok (n, t))
      (whole : segments ≡ image.segments) where
    loaded_at : {loaded : Option SpacesState} → space_loaded segments file words (slot_at t n).directory t.spaces ≡ loaded
        → space_loaded image.segments file words (slot_at t n).directory t.spaces ≡ loaded
    loaded_at is = ap (λ (list : List Segment). space_loaded list file words (slot_at t n).directory t.spaces) (sym whole) ∙ is

    pub started-none : Loads (space_loaded segments file words (slot_at t n).directory t.spaces) false t u →
        program_in image file words (environment_made s 0) ≡ None
    started-none loads = ap (program_in image file words) made ∙ ap (option_map (program_started t n image.entry words))
        (loaded_at loads.0)

    pub started-some : (v w x : KernelState) (registers : Regs) →
        Loads (space_loaded segments file words (slot_at t n).directory t.spaces) true t u
        → registers ≡ program_registers image.entry words → v ≡ with_registers u n registers → w ≡ with_upcall v n PGFAULT_UPCALL →
        x ≡ with_status w n Runnable → program_in image file words (environment_made s 0) ≡ Some x
    started-some v w x registers loads is_registers v_is w_is x_is =
        let state : x ≡ program_started t n image.entry words u.spaces =
        x_is ∙ ap (λ (k : KernelState). with_status k n Runnable)
        (w_is ∙ ap (λ (k : KernelState). with_upcall k n PGFAULT_UPCALL)
        (v_is ∙ ap (with_registers u n) is_registers
        ∙ ap (λ (k : KernelState). with_registers k n (program_registers image.entry words)) loads.1)) in
        ap (program_in image file words) made ∙ ap (option_map (program_started t n image.entry words)) (loaded_at loads.0)
        ∙ ap Some (sym state)

module _ (s t u : KernelState) (n : ℕ) (made : environment_made s 0 ≡ Ok (n, t)) where
  pub server-none : Loads (records_loaded (slot_at t n).directory t.spaces) false t u → server_in (environment_made s 0) ≡ None
  server-none loads = ap server_in made ∙ ap (option_map (server_started t n)) loads.0

  pub server-made : (v w : KernelState) → Loads (records_loaded (slot_at t n).directory t.spaces) true t u → v ≡ with_env_type u n FileServer →
      w ≡ with_status v n Runnable → server_in (environment_made s 0) ≡ Some w
  server-made v w loads typed runs =
      let state : w ≡ server_started t n u.spaces =
      runs ∙ ap (λ (k : KernelState). with_status k n Runnable) (typed ∙ ap (λ (k : KernelState). with_env_type k n FileServer) loads.1) in
      ap server_in made ∙ ap (option_map (server_started t n)) loads.0 ∙ ap Some (sym state)
