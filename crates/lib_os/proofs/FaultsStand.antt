-- A page fault of a program, or of a service that moves bytes to or from the program's memory, is handed to the library's handler: the
-- frame is written to the top of the handler's stack, and the handler stands at its first step. The state stands for the abstract one where
-- the page waits to be copied, or where a service stands before the access; else for that in which the program is marked with its fault.
use Rattle.std.proofs.Common.{◌≡◌, ◌≢◌, ◌∙◌, ◌==◌, ◌||◌, ◌<◌, ◌≤◌, ◌+◌, ◌-◌, ◌*◌, ◌^◌, ℕ, zero, suc, not, Bool, true, false}
use Rattle.std.proofs.Common.{List, [], ◌∷◌, length, refl, sym, ap, subst, arith, if◌then◌else◌}
use Rattle.std.specs.Prelude.{Option, Some, None, Ok, get_or, nat_lt, slice_index, bit_and}
use Rattle.std.proofs.lemmas.Bool.{false≢true}
use Rattle.std.proofs.lemmas.Bool.Decides.{nat_tests}
use Rattle.jos_base.specs.declared.memory.Access.{Access}
use Rattle.jos_base.specs.declared.memory.Access.TheVariants.{Read, Write}
use Rattle.jos_base.specs.declared.memory.PageFault.{PageFault}
use Rattle.jos_base.specs.declared.numbers.TheConstants.{FEC_PR, FEC_U, FEC_WR, PGSIZE, UTEMP}
use Rattle.jos_base.specs.declared.registers.Regs.{Regs}
use Rattle.jos_base.specs.Counting.{page_limit}
use Rattle.jos_base.specs.Environments.{Slot, bit_of}
use Rattle.jos_base.specs.KernelState.{KernelState, slot_at, with_slot_at, with_registers, with_spaces, with_upcall_counted}
use Rattle.jos_base.specs.Reach.{Entry, allows, reach_entry}
use Rattle.jos_base.specs.SpacesState.{SpacesState, overlaid, with_page_bytes}
use Rattle.jos_base.specs.SystemCalls.{handled, handled_at, handler_entered, has_write}
use Rattle.jos_base.specs.TrapFrames.{exception_stack, frame_bytes, frame_size, frame_words, upcall_place}
use Rattle.jos_base.specs.UserMemory.{reach_in, touched}
use Rattle.jos_base.specs.Windows.{walked}
use Rattle.jos_base.specs.Words.{page_number, page_offset, upd}
use Rattle.lib_os.specs.declared.numbers.TheConstants.{PGFAULT_UPCALL, UXSTACK}
use Rattle.lib_os.specs.declared.place.HandlerStep.TheVariants as handler
use Rattle.lib_os.specs.declared.place.Place.{Place}
use Rattle.lib_os.specs.declared.place.Place.TheVariants as place
use Rattle.lib_os.specs.declared.place.Step.TheVariants as step
use Rattle.lib_os.specs.declared.service.Service.{Service}
use Rattle.lib_os.specs.AbstractState.{AbstractState, Born, Phase, born, faulted, guest, with_born}
use Rattle.lib_os.specs.Fence.{in_fence, is_inside, is_resident}
use Rattle.lib_os.specs.InOrder.{IsInOrder}
use Rattle.lib_os.specs.LibraryPages.{IsOwnWritable, HasFrame, frame_place, has_copy}
use Rattle.lib_os.specs.LibrarySteps.{copies_left, copy_steps, hidden_left, is_to_copy, left_at}
use Rattle.lib_os.specs.Places.{handler_step_in, is_handlers, place_in_words, place_of}
use Rattle.lib_os.specs.Rows.{EntryRow, IsPage, IsUsers, Names, Rows, descriptor_seen, is_programs, lasting, logical, page_seen, rows_of}
use Rattle.lib_os.specs.Rows.{is_shared, pipe_page, seen_where, shown_at}
use Rattle.lib_os.specs.PipeEnds.{is_made}
use Rattle.lib_os.specs.StandsFor.{StandsFor, StandsForBorn, StandsAt, seen_unless, upcall_at, view_of, borne_in}
use Rattle.lib_os.specs.StandsInHandler.{AreSmall, CopiesOrEnds, IsAtGuest, IsToCopy, copies, ends}
use Rattle.lib_os.specs.StandsInHandler.{IsStoppedAt, marked, StandsBeneath, at_program, is_refused_by, is_write}
use Rattle.lib_os.proofs.Beneath.{beneath_moved}
use Rattle.lib_os.proofs.BytesRead.{IsRefusal, lasting_reads, lasting_writes, remapped}
use Rattle.lib_os.proofs.EntriesCount.{own_lacked}
use Rattle.lib_os.proofs.EntriesStand.{shown_same}
use Rattle.lib_os.proofs.EntryWords.{row_entry}
use Rattle.lib_os.proofs.Fences.{inside_below, inside_number}
use Rattle.lib_os.proofs.LaidStand.{Laid, bytes_laid, laid_beside, laid_devices, laid_locks, laid_others, laid_rows, overlaid_at}
use Rattle.lib_os.proofs.Logical.{is_plain, is_remapped, plain_unborne, logical_beside}
use Rattle.lib_os.proofs.PageBytes.{page_overlaid, words_bytes}
use Rattle.lib_os.proofs.Serving.{library_moved, plain_copy, plain_upcall}
use Rattle.lib_os.proofs.SlotsStand.{SameDevices, born_at, descriptors_off, library_alike, stopped_kept}
use Rattle.lib_os.proofs.PipesStand.{PlacesAlike, calm_places, descriptors_turned, ends_moved, is_calm}
use Rattle.lib_os.proofs.StatesStand.{clients_live, ends_at, others_counts, own_moves, plain_alike}
use Rattle.lib_os.proofs.Touching.{touched_quiet}
use Rattle.lib_os.proofs.Working.{words_work}
use Rattle.lib_os.proofs.WordsTell.{is_in_handler, outside_stack}
use Rattle.jos_base.proofs.Maps.{upd-at, upd-stays}
use Rattle.jos_base.proofs.Sums.{total-one}
use Rattle.jos_base.proofs.Walks.{walked_below}
use Rattle.jos_base.proofs.WordBytes.{length-bytes_of_words}

-- ---- small registers

abbrev AreWords : List ℕ → Type 0
AreWords [] = Unit {0}
AreWords (word ∷ rest) = (word < 2 ^ 32) × AreWords rest

all_small : (words : List ℕ) → AreWords words → (i : ℕ) → get_or words i 0 < 2 ^ 32
all_small [] all i = omega arith
all_small (word ∷ rest) all zero = all.0
all_small (word ∷ rest) all (suc i) = all_small rest all.1 i

-- and so has each word of a frame
pub frame_small : (fault : PageFault) (regs : Regs) → fault.va < 2 ^ 32 → fault.error < 2 ^ 32 → AreSmall regs → (i : ℕ) →
    get_or (frame_words fault regs) i 0 < 2 ^ 32
unfolding frame_words
frame_small fault regs va error small =
    all_small (frame_words fault regs)
    (va, (error, (small.edi, (small.esi, (small.ebp, (small.esp, (small.ebx, (small.edx, (small.ecx, rest)))))))))
  where
    rest : AreWords (regs.eax ∷ regs.eip ∷ regs.eflags ∷ regs.esp ∷ [])
    rest = (small.eax, (small.eip, (small.eflags, (small.esp, tt))))

pub frame_long : (fault : PageFault) (regs : Regs) → length (frame_bytes fault regs) ≡ frame_size
unfolding frame_words
frame_long fault regs = length-bytes_of_words (frame_words fault regs)

-- ---- the handler's stack

-- where ESP lies elsewhere, the frame stands at its top
pub place_outside : (esp : ℕ) → is_handlers esp ≡ false → upcall_place esp ≡ Some frame_place
unfolding upcall_place
place_outside esp outside =
    ap (λ (c : Bool). if c then within else Some frame_place) outside
  where
    within : Option ℕ
    within = if nat_lt esp (exception_stack + frame_size + 4) then None else Some (esp - (frame_size + 4))

module _ {names : Names} {s : KernelState} {a : AbstractState} (h : StandsFor names s a) (n : ℕ) (b : Born) (at : a.slots n ≡ born b) where
  abbrev space : ℕ
  space = (slot_at s n).directory

  abbrev pub stack_page : IsOwnWritable (rows_of s.spaces space) (page_number UXSTACK)
  stack_page = (born_at h n b at).library.stack

  stack_counts : logical s.spaces s.environments.slots n (page_number UXSTACK) ≡ Some stack_page.entry
  stack_counts =
      logical_beside s.spaces s.environments.slots n (clients_live h n b at) (page_number UXSTACK) (λ same. absurd (omega (arith, same)))
      (by_step (is_remapped (place_of (slot_at s n)) (page_number UXSTACK)) refl)
      ∙ stack_page.stands
    where
      by_step : (c : Bool) → is_remapped (place_of (slot_at s n)) (page_number UXSTACK) ≡ c →
          is_remapped (place_of (slot_at s n)) (page_number UXSTACK) ≡ false
      by_step true twice = let below = (remapped names s a n b h at (page_number UXSTACK) refl refl twice).below in absurd (omega (arith, below))
      by_step false other = other

  stack_user : IsUsers stack_page.entry.perm
  stack_user = h.users n (page_number UXSTACK) stack_page.entry stack_counts

  -- it may be read, and written
  stack_allows : (e : Entry) → lasting e ≡ stack_page.entry → (access : Access) → allows e.perm access ≡ true
  stack_allows e same access =
      by_access access (lasting_reads e.perm (subst (λ (x : Entry). IsUsers x.perm) (sym same) stack_user).page)
    where
      by_access : (access : Access) → bit_and e.perm 5 ≡ 5 → allows e.perm access ≡ true
      by_access Read reads = grind (arith, nat_tests)
      by_access Write reads = lasting_writes e.perm reads ∙ ap (λ (x : Entry). has_write x.perm) same ∙ stack_page.writes

  -- an access to it leads to its frame
  pub stack_reached : (va : ℕ) → page_number va ≡ page_number UXSTACK → (access : Access) →
      reach_in s.spaces space va access ≡ Ok (record { frame = stack_page.entry.frame; offset = page_offset va })
  unfolding page_limit
  stack_reached va there access =
      let found = row_entry s.spaces space (page_number UXSTACK) stack_page.entry stack_page.stands in
      let walk : walked s.spaces space (page_number va) ≡ Some found.0 =
      ap (walked s.spaces space) there ∙ walked_below s.spaces space (page_number UXSTACK) (omega arith) ∙ found.1 in
      let may : allows found.0.perm access ≡ true = stack_allows found.0 found.2 access in
      ap (λ (o : Option Entry). reach_entry o va access) walk
      ∙ rw may (ap (λ (x : Entry). Ok (record { frame = x.frame; offset = page_offset va })) found.2)

-- ---- the state after

-- with the frame on the stack, whose page stands in a frame of memory
abbrev pub frame_laid : SpacesState → ℕ → ℕ → List ℕ → SpacesState
frame_laid s d frame bytes =
    let reached = touched s d frame_place Write in
    with_page_bytes reached frame (overlaid (reached.pages frame) (PGSIZE - frame_size) bytes)

-- the slot of one that is at the first step of its handler
abbrev pub entered_slot : Slot → Slot
entered_slot k = record k { registers = record k.registers { esp = frame_place; eip = PGFAULT_UPCALL } }

pub entered_place : (k : Slot) → place_of (entered_slot k) ≡ place.InHandler handler.Entered
unfolding place_in_words handler_step_in
entered_place k = refl

abbrev pub handed : KernelState → ℕ → PageFault → ℕ → KernelState
handed s n fault frame =
    let k = slot_at s n in
    with_upcall_counted (with_slot_at (with_spaces s (frame_laid s.spaces k.directory frame (frame_bytes fault k.registers))) n (entered_slot k))

pub laid_frame : (s : SpacesState) (d frame : ℕ) (bytes : List ℕ) →
    Laid s (frame_laid s d frame bytes) frame (overlaid (s.pages frame) (PGSIZE - frame_size) bytes)
unfolding rows_of
laid_frame s d frame bytes =
    let quiet = touched_quiet s d frame_place Write in
    record {
      rows = quiet.rows;
      pages = ap (λ (pages : ℕ → List ℕ). upd pages frame (overlaid (pages frame) (PGSIZE - frame_size) bytes)) quiet.pages;
      regions = quiet.regions;
    }

-- where faults were counted, nothing that is seen changes
pub counted_stands : {names : Names} {s : KernelState} {a : AbstractState} → StandsFor names s a → IsInOrder (with_upcall_counted s) →
    StandsFor names (with_upcall_counted s) a
counted_stands h in_order = record {
  slots = h.slots;
  children = h.children;
  apart = h.apart;
  named = h.named;
  users = h.users;
  whole = h.whole;
  beside = h.beside;
  ends = h.ends;
  locks = h.locks;
  runs = h.runs;
  old = h.old;
  free_slots = h.free_slots;
  first = h.first;
  server = h.server;
  input = h.input;
  last = h.last;
  turns = h.turns;
  tabled = h.tabled;
  in_order = in_order;
}

-- ---- pages that wait

-- where one waits, there is one
pub waits_left : (row : EntryRow) (va : ℕ) → is_inside va ≡ true → IsToCopy row va → 0 < copies_left row
unfolding copies_left
waits_left row va inside waits =
    let one = total-one page_limit (page_number va) (λ p. bit_of (is_to_copy (row p))) (inside_number va inside) in
    let here : bit_of (is_to_copy (row (page_number va))) ≡ 1 =
    ap (λ (o : Option Entry). bit_of (is_to_copy o)) waits.stands ∙ ap bit_of waits.copied in
    omega (arith, one, here)

-- ---- an environment at its program

module _ {names : Names} {s : KernelState} {a : AbstractState} (h : StandsFor names s a) (n : ℕ) (b : Born) (at : a.slots n ≡ born b)
    (stands : place_of (slot_at s n) ≡ place.Guest) where
  pub guest_at : IsAtGuest (slot_at s n) b
  guest_at = subst (λ (p : Place). StandsAt p (view_of s.spaces (slot_at s n).directory) (slot_at s n) b) stands (born_at h n b at).at

  pub guest_beneath : StandsBeneath (view_of s.spaces (slot_at s n).directory) (slot_at s n) b
  guest_beneath = at_program guest_at

-- ---- one whose handler does not run, and whose entries count as they stand: it is at its program, or in a service

module _ {names : Names} {s : KernelState} {a : AbstractState} (h : StandsFor names s a) (n : ℕ) (b : Born) (at : a.slots n ≡ born b)
    (there : Place) (stands : place_of (slot_at s n) ≡ there) (apart : is_in_handler there ≡ false) (counts : is_plain there ≡ true)
    (calm : is_calm there ≡ true) where
  abbrev k : Slot
  k = slot_at s n

  abbrev d : ℕ
  d = k.directory

  own : StandsForBorn names s.spaces k b
  own = born_at h n b at

  outside : is_handlers k.registers.esp ≡ false
  outside = outside_stack k.registers k.extra there stands apart

  upcall_is : k.upcall ≡ PGFAULT_UPCALL
  upcall_is = own.upcall ∙ ap upcall_at stands ∙ plain_upcall there apart

  pub esp_free : is_resident k.registers.esp ≡ false
  esp_free = by_bits (is_handlers k.registers.esp) (is_resident k.registers.esp) outside own.stack
    where
      by_bits : (t u : Bool) → t ≡ false → (t || not u) ≡ true → u ≡ false
      by_bits t false off on = refl
      by_bits true true off on = off
      by_bits false true off on = absurd (false≢true on)

  -- the frame of memory in which the stack's page stands
  abbrev pub stack_frame : ℕ
  stack_frame = (stack_page h n b at).entry.frame

  -- its handler gets each of its faults
  pub fault_handled : (fault : PageFault) → handled s n fault ≡ Some (handed s n fault stack_frame)
  unfolding handled
  fault_handled fault =
      ap (λ (u : ℕ). if u == 0 then None else handled_at s n fault (upcall_place k.registers.esp)) upcall_is
      ∙ ap (handled_at s n fault) (place_outside k.registers.esp outside)
      ∙ ap (handler_entered s n fault frame_place) (stack_reached h n b at frame_place refl Write)
      ∙ ap (λ (u : ℕ). Some (with_upcall_counted (with_registers
      (with_spaces s (frame_laid s.spaces d stack_frame (frame_bytes fault k.registers))) n
      (record k.registers { esp = frame_place; eip = u })))) upcall_is

  module _ (fault : PageFault) where
    abbrev after : KernelState
    after = handed s n fault stack_frame

    abbrev sp : SpacesState
    sp = frame_laid s.spaces d stack_frame (frame_bytes fault k.registers)

    abbrev bytes : List ℕ
    bytes = overlaid (s.spaces.pages stack_frame) (PGSIZE - frame_size) (frame_bytes fault k.registers)

    laid : Laid s.spaces sp stack_frame bytes
    laid = laid_frame s.spaces d stack_frame (frame_bytes fault k.registers)

    slot_is : slot_at after n ≡ entered_slot k
    slot_is = upd-at s.environments.slots n (entered_slot k)

    plain : is_plain (place_of k) ≡ true
    plain = ap is_plain stands ∙ counts

    row_kept : rows_of sp d ≡ rows_of s.spaces d
    row_kept = ap (λ (rows : Rows). rows d) laid.rows

    -- the page is a page, and was one
    was_page : IsPage (s.spaces.pages stack_frame)
    was_page = h.whole n (page_number UXSTACK) (stack_page h n b at).entry (stack_counts h n b at)

    is_page : IsPage bytes
    is_page =
        let size = frame_long fault k.registers in
        page_overlaid (s.spaces.pages stack_frame) (PGSIZE - frame_size) (frame_bytes fault k.registers) (omega (arith, size))
        (words_bytes (frame_words fault k.registers)) was_page

    frame_there : HasFrame (view_of sp d) frame_place fault k.registers
    frame_there = record {
      at = refl;
      entry = (stack_page h n b at).entry;
      stands = ap (λ (row : EntryRow). row (page_number UXSTACK)) row_kept ∙ (stack_page h n b at).stands;
      own_page = (stack_page h n b at).own_page;
      bytes = λ i lt.
          let size = frame_long fault k.registers in
          let long = was_page.long in
          ap (λ (page : List ℕ). slice_index page (PGSIZE - frame_size + i))
          (bytes_laid h n b at plain (page_number UXSTACK) (stack_page h n b at).entry (stack_page h n b at).stands (stack_page h n b at).own_page
          (stack_page h n b at).writes bytes laid)
          ∙ overlaid_at (s.spaces.pages stack_frame) (frame_bytes fault k.registers) (PGSIZE - frame_size) (omega (arith, long)) i
          (omega (arith, size, lt));
    }

    devices_kept : SameDevices (view_of s.spaces d) (view_of sp d)
    devices_kept =
        laid_devices h n b at plain (page_number UXSTACK) (stack_page h n b at).entry (stack_page h n b at).stands (stack_page h n b at).own_page
        (stack_page h n b at).writes bytes laid refl

    -- all but the stack is shown as before
    shown_kept : (q : ℕ) → q ≢ page_number UXSTACK → shown_at names sp d q ≡ shown_at names s.spaces d q
    shown_kept q other =
        shown_same names names s.spaces sp d q (ap (λ (row : EntryRow). row q) row_kept)
        (λ x hx own_too. laid_beside h n b at plain (page_number UXSTACK) (stack_page h n b at).entry (stack_page h n b at).stands
        (stack_page h n b at).own_page (stack_page h n b at).writes bytes laid q x other hx own_too)
        (λ x hx shared_page. refl)

    -- and so are the bytes of the page in which a service keeps what it moves
    taken_kept : (x : Entry) → rows_of s.spaces d (page_number UTEMP) ≡ Some x → is_shared x.perm ≡ false → sp.pages x.frame ≡ s.spaces.pages x.frame
    taken_kept x hx own_too =
        laid_beside h n b at plain (page_number UXSTACK) (stack_page h n b at).entry (stack_page h n b at).stands (stack_page h n b at).own_page
        (stack_page h n b at).writes bytes laid (page_number UTEMP) x (λ same. absurd (omega (arith, same))) hx own_too

    -- memory is seen as before, and descriptors
    seen_kept : (q : ℕ) → page_seen names sp d q ≡ page_seen names s.spaces d q
    unfolding in_fence
    seen_kept q = by_page (q == page_number UXSTACK) refl
      where
        by_page : (c : Bool) → (q == page_number UXSTACK) ≡ c → page_seen names sp d q ≡ page_seen names s.spaces d q
        by_page true test =
            let here : page_number UXSTACK ≡ q = grind (arith, nat_tests) in
            subst (λ (r : ℕ). page_seen names sp d r ≡ page_seen names s.spaces d r) here refl
        by_page false test =
            ap (seen_where (is_programs q)) (shown_kept q (grind (arith, nat_tests)))

    descriptors_kept : (fd : ℕ) → descriptor_seen names sp d fd ≡ descriptor_seen names s.spaces d fd
    descriptors_kept = descriptors_off names names s.spaces sp d (page_number UXSTACK) refl shown_kept

    -- what the environment has of its own, marked with its fault or not
    module _ (small : AreSmall k.registers) (va_small : fault.va < 2 ^ 32) (error_small : fault.error < 2 ^ 32) (phase : Phase)
        (way : CopiesOrEnds handler.Entered (view_of sp d) (entered_slot k) (record b { phase = phase }) fault k.registers) where
      mine : StandsForBorn names sp (entered_slot k) (record b { phase = phase })
      mine =
          let entered : place_of (entered_slot k) ≡ place.InHandler handler.Entered = entered_place k in
          record {
            id = own.id;
            id_small = own.id_small;
            parent = own.parent;
            env_type = own.env_type;
            runs = own.runs;
            upcall = upcall_is ∙ sym (ap upcall_at entered);
            descriptors = descriptors_turned names sp d (place_of k) (place_of (entered_slot k)) b.descriptors (ap is_calm stands ∙ calm)
                (ap is_calm entered)
                (λ fd still. own.descriptors fd still ∙ ap (λ (o : Option ℕ). seen_unless (is_made (place_of k) fd) o) (sym (descriptors_kept fd)));
            memory = λ q. own.memory q ∙ sym (seen_kept q);
            library = library_alike (place_of (entered_slot k)) k.extra (rows_of s.spaces d) (rows_of sp d) row_kept
                (library_moved (place_of k) (place_of (entered_slot k)) k.extra k.extra (rows_of s.spaces d)
                (ap has_copy stands ∙ plain_copy there apart ∙ sym (ap has_copy entered)) (words_work k (entered_slot k).registers) own.library);
            regions_have = λ r is. laid.regions d r ∙ own.regions_have r is;
            regions_only = λ r is. own.regions_only r (sym (laid.regions d r) ∙ is);
            stack = refl;
            flags = own.flags;
            at = subst (λ (p : Place). StandsAt p (view_of sp d) (entered_slot k) (record b { phase = phase })) (sym entered) (record {
              fault = fault;
              regs = k.registers;
              frame = frame_there;
              small = λ i lt. frame_small fault k.registers va_small error_small small i;
              flags = own.flags;
              stack = esp_free;
              way = way;
            });
          }

      alike : PlacesAlike (place_of k) (place_of (entered_slot k))
      alike = calm_places (ap is_calm stands ∙ calm) (ap is_calm (entered_place k))

      handed_stands : IsInOrder after → s.last ≡ Some n → StandsFor names after (with_born a n (record b { phase = phase }))
      handed_stands in_order last =
          counted_stands
          (own_moves h n b at sp (entered_slot k) (record b { phase = phase }) a.shared a.next_name refl
          (record { id = refl; env_type = refl; turns = refl; calm = λ runs. runs }) (plain_unborne (place_of k) plain) (ap borne_in (entered_place k))
          (laid_others h n b at plain (page_number UXSTACK) (stack_page h n b at).entry (stack_page h n b at).stands (stack_page h n b at).own_page
          (stack_page h n b at).writes bytes laid
          (own_lacked h n (page_number UXSTACK) (stack_page h n b at).entry (stack_counts h n b at) (λ same. absurd (omega (arith, same)))
          (stack_page h n b at).own_page)) mine
          (laid_rows h n b at plain (page_number UXSTACK) (stack_page h n b at).entry (stack_page h n b at).stands (stack_page h n b at).own_page
          (stack_page h n b at).writes bytes laid is_page (entered_slot k) refl refl
          (plain_alike (place_of k) (place_of (entered_slot k)) plain (ap is_plain (entered_place k))))
          (record { frames = in_order.frames; spaces = in_order.spaces }) (others_counts h n last sp)
          (ends_moved alike (λ fd. refl) (λ fd name is. refl) (λ fd below. ap (λ (row : EntryRow). row (pipe_page fd)) row_kept) (λ fd x below is. refl)
          (ends_at h n b at))
          (laid_locks h n b at plain (page_number UXSTACK) (stack_page h n b at).entry (stack_page h n b at).stands (stack_page h n b at).own_page
          (stack_page h n b at).writes bytes laid (entered_slot k) refl refl
          (plain_alike (place_of k) (place_of (entered_slot k)) plain (ap is_plain (entered_place k))) alike.locked) (omega arith)
          (λ fd name names_it. h.old n fd name b at names_it)) in_order

    same : with_born a n b ≡ a
    same = λ i. record a { slots = λ q. upd-stays a.slots n (born b) (sym at) q i }

    -- the page waits to be copied
    pub fault_copies : AreSmall k.registers → is_inside fault.va ≡ true → fault.error ≡ FEC_U + FEC_PR + FEC_WR →
        IsToCopy (rows_of s.spaces d) fault.va → StandsBeneath (view_of s.spaces d) k b → IsInOrder after → s.last ≡ Some n → StandsFor names after a
    fault_copies small inside error waits beneath in_order last =
        let below = inside_below fault.va inside in
        subst (λ (x : AbstractState). StandsFor names after x) same
        (handed_stands small (omega (arith, below)) (omega (arith, error)) b.phase (copies (record {
          beneath = beneath_moved (view_of s.spaces d) (view_of sp d) k b
              (λ p programs writes. ap (λ (row : EntryRow). is_refused_by true (row p)) row_kept ∙ writes)
              (record { row = ap (λ (row : EntryRow). row (page_number UTEMP)) row_kept; bytes = taken_kept }) beneath;
          error = error;
          inside = inside;
          at = subst (λ (row : EntryRow). IsToCopy row fault.va) (sym row_kept) waits;
        })) in_order last)

    -- or it has refused the access, before which a service stands
    pub fault_stops : AreSmall k.registers → is_inside fault.va ≡ true → fault.error < 2 ^ 32 → IsRefusal (rows_of s.spaces d) fault →
        (eax : ℕ) → b.program ≡ guest (record k.registers { eax = eax }) → k.rendezvous.receiving ≡ false → b.blocked ≡ false →
        IsStoppedAt (is_write fault.error) (view_of s.spaces d) b fault.va k.registers.eip → IsInOrder after → s.last ≡ Some n →
        StandsFor names after a
    fault_stops small inside error refusal eax program silent awake stopped in_order last =
        let below = inside_below fault.va inside in
        let refused : IsRefusal (rows_of sp d) fault = subst (λ (row : EntryRow). IsRefusal row fault) (sym row_kept) refusal in
        subst (λ (x : AbstractState). StandsFor names after x) same
        (handed_stands small (omega (arith, below)) error b.phase (ends (record {
          eax = eax;
          program = program;
          stopped = stopped_kept (view_of s.spaces d) (view_of sp d) row_kept devices_kept b b refl refl (is_write fault.error) fault.va k.registers.eip
              stopped;
          silent = silent;
          awake = awake;
          inside = inside;
          refused = refused.refused;
          present = refused.present;
          at = tt;
        })) in_order last)

    -- or that of the program, which is marked
    pub fault_ends : IsAtGuest k b → AreSmall k.registers → is_inside fault.va ≡ true → fault.error < 2 ^ 32 → IsRefusal (rows_of s.spaces d) fault →
        IsInOrder after → s.last ≡ Some n → StandsFor names after (with_born a n (record b { phase = faulted fault.va k.registers.eip }))
    fault_ends guest_is small inside error refusal in_order last =
        let below = inside_below fault.va inside in
        let refused : IsRefusal (rows_of sp d) fault = subst (λ (row : EntryRow). IsRefusal row fault) (sym row_kept) refusal in
        handed_stands small (omega (arith, below)) error (faulted fault.va k.registers.eip) (ends (record {
          eax = k.registers.eax;
          program = guest_is.program;
          stopped = marked refl;
          silent = guest_is.silent;
          awake = guest_is.awake;
          inside = inside;
          refused = refused.refused;
          present = refused.present;
          at = tt;
        })) in_order last

    -- as many pages wait as before
    pub fault_copies_left : copies_left (rows_of after.spaces d) ≡ copies_left (rows_of s.spaces d)
    fault_copies_left = ap copies_left row_kept

    pub entered_at : place_of (slot_at after n) ≡ place.InHandler handler.Entered
    entered_at = ap (λ (x : Slot). place_of x) slot_is ∙ entered_place k

    -- ---- and the steps that are hidden are fewer

    abbrev waiting : ℕ
    waiting = copies_left (rows_of s.spaces d)

    was_left : hidden_left s n ≡ left_at there waiting
    was_left = ap (λ (p : Place). left_at p waiting) stands

    is_left : hidden_left after n ≡ 2065 + copy_steps * (waiting - 1)
    is_left =
        ap (λ (x : Slot). left_at (place_of x) (copies_left (rows_of sp x.directory))) slot_is
        ∙ ap (λ (p : Place). left_at p (copies_left (rows_of sp d))) (entered_place k)
        ∙ ap (left_at (place.InHandler handler.Entered)) fault_copies_left

    -- where this page waits no more then, at the program
    pub fault_lowers : there ≡ place.Guest → is_inside fault.va ≡ true → IsToCopy (rows_of s.spaces d) fault.va → hidden_left after n < hidden_left s n
    fault_lowers guest_is inside waits =
        let some = waits_left (rows_of s.spaces d) fault.va inside waits in
        let was : hidden_left s n ≡ copy_steps * waiting = was_left ∙ ap (λ (p : Place). left_at p waiting) guest_is in
        let is = is_left in
        omega (arith, some, was, is)

    -- and at a service that puts bytes
    pub delivery_lowers : (call : Service) (done word : ℕ) → there ≡ place.InService call (step.Delivering done word) → is_inside fault.va ≡ true →
        IsToCopy (rows_of s.spaces d) fault.va → hidden_left after n < hidden_left s n
    delivery_lowers call done word served inside waits =
        let some = waits_left (rows_of s.spaces d) fault.va inside waits in
        let was : hidden_left s n ≡ 5 + copy_steps * waiting = was_left ∙ ap (λ (p : Place). left_at p waiting) served in
        let is = is_left in
        omega (arith, some, was, is)

    -- which may have them of a file
    pub handing_lowers : (call : Service) (done count word : ℕ) → there ≡ place.InService call (step.PuttingBytes done count word) →
        is_inside fault.va ≡ true → IsToCopy (rows_of s.spaces d) fault.va → hidden_left after n < hidden_left s n
    handing_lowers call done count word served inside waits =
        let some = waits_left (rows_of s.spaces d) fault.va inside waits in
        let was : hidden_left s n ≡ 5 + copy_steps * waiting = was_left ∙ ap (λ (p : Place). left_at p waiting) served in
        let is = is_left in
        omega (arith, some, was, is)

    pub file_stop_lowers : (call : Service) (done count : ℕ) → there ≡ place.InService call (step.FileFaulting done count) →
        hidden_left after n < hidden_left s n
    file_stop_lowers call done count served =
        let was : hidden_left s n ≡ 2070 + copy_steps * waiting = was_left ∙ ap (λ (p : Place). left_at p waiting) served in
        let is = is_left in
        omega (arith, was, is)

    -- and where the fault ends the environment in a service
    pub stop_lowers : (call : Service) (done word : ℕ) → there ≡ place.InService call (step.Faulting done word) → hidden_left after n < hidden_left s n
    stop_lowers call done word served =
        let was : hidden_left s n ≡ 2070 + copy_steps * waiting = was_left ∙ ap (λ (p : Place). left_at p waiting) served in
        let is = is_left in
        omega (arith, was, is)

    -- or wherever as many steps are left as the handler takes, and those of each page that waits
    pub stops_lower : 2066 + copy_steps * waiting ≤ left_at there waiting → hidden_left after n < hidden_left s n
    stops_lower enough =
        let was = was_left in
        let is = is_left in
        omega (arith, was, is, enough)
