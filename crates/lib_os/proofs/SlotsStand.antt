-- A slot of the kernel's goes on standing for one of the abstract system while nothing that is seen of it changes: where it
-- stands in a service or in its handler, its pages, and whether it is live.
use Rattle.std.proofs.Common.{◌≡◌, ◌≢◌, ◌∙◌, ◌<◌, ◌≤◌, ◌||◌, ◌&&◌, ℕ, zero, suc, ◌+◌, ◌-◌, ◌/◌, ◌%◌, Bool, true, false, not, List, refl, sym, ap, subst, arith, if◌then◌else◌}
use Rattle.std.specs.Prelude.{Option, Some, None, is_none, is_some, length, nat_lt, slice_index}
use Rattle.std.proofs.lemmas.Bool.Decides.{nat_tests}
use Rattle.std.proofs.lemmas.Option.{same_Some}
use Rattle.std.specs.Option.{option_map}
use Rattle.jos_base.specs.declared.environment.Status.{Status}
use Rattle.jos_base.specs.declared.environment.Status.TheVariants.{Runnable, Running, NotRunnable}
use Rattle.jos_base.specs.declared.memory.PageFault.{PageFault}
use Rattle.jos_base.specs.declared.registers.Regs.{Regs}
use Rattle.jos_base.specs.Environments.{Slot, is_free, is_live as is_live_slot, is_running}
use Rattle.jos_base.specs.KernelState.{KernelState, slot_at}
use Rattle.jos_base.specs.Reach.{Entry}
use Rattle.jos_base.specs.SpacesState.{SpacesState}
use Rattle.jos_base.specs.SystemCalls.{has_write}
use Rattle.lib_os.specs.declared.place.HandlerStep.{HandlerStep}
use Rattle.lib_os.specs.declared.place.HandlerStep.TheVariants as handler
use Rattle.lib_os.specs.declared.place.PipeStep.{PipeStep}
use Rattle.lib_os.specs.declared.place.PipeStep.TheVariants as pipe
use Rattle.lib_os.specs.declared.place.Place.{Place}
use Rattle.lib_os.specs.declared.place.Place.TheVariants as place
use Rattle.lib_os.specs.declared.place.Step.{Step}
use Rattle.lib_os.specs.declared.place.Step.TheVariants as step
use Rattle.lib_os.specs.declared.service.Service.{Service}
use Rattle.lib_os.specs.declared.service.Service.TheVariants as service
use Rattle.jos_base.specs.declared.numbers.TheConstants.{FDTABLE, NPTENTRIES, PGSIZE, UTEMP}
use Rattle.jos_base.specs.Words.{page_number, upd, word_at}
use Rattle.lib_os.specs.declared.numbers.TheConstants.{DESCRIPTORS, DEVICE_PIPE, PFTEMP, REQUEST_BYTES, REQUEST_COUNT, REQUEST_FILE, REQUEST_MODE}
use Rattle.lib_os.specs.AbstractState.{AbstractState, Born, Page, own, named, AbstractSlot, free, unborn, born, serving, entered}
use Rattle.lib_os.specs.AbstractState.{Stage, slot_id, is_live}
use Rattle.lib_os.specs.DescriptorPages.{device_of, lasting_words, number_of}
use Rattle.lib_os.specs.LibraryPages.{View, HasFrame, IsOwnWritable, LibraryPages, is_library_region, region_index, HasTaken}
use Rattle.lib_os.specs.Places.{place_of}
use Rattle.lib_os.specs.Rows.{Names, EntryRow, rows_of, page_by, page_seen, seen_where, is_programs, is_shared, may_write}
use Rattle.lib_os.specs.Rows.{descriptor_page, descriptor_seen, is_of_descriptor, is_pipe_page, name_of, pipe_page, shown_at}
use Rattle.lib_os.specs.StandsInHandler.{IsAtGuest, IsToCopy, IsCopiedTo, HasWord, IsMappedTwice, CopiesAt}
use Rattle.lib_os.specs.StandsInHandler.{CopiesOrEnds, IsConsoleOpen, IsFileOpen, copies, ends, IsInHandler, is_refused_by, is_write}
use Rattle.lib_os.specs.StandsInHandler.{IsDelivering, StandsDelivering, StandsPutting, buffer_of, next_page, IsGiven, WantsMore}
use Rattle.lib_os.specs.StandsInHandler.{BeginsAt, IsEndOpen, IsGivenBytes, in_file, in_pipe, may_follow, on_console}
use Rattle.lib_os.specs.InService.{EachIsOpenBelow, IsDuplicating, IsDupping, IsExiting, IsIn, IsLowestFree, IsOpen, NoneIsOpenBelow}
use Rattle.lib_os.specs.PipeEnds.{holds_lock, is_made}
use Rattle.lib_os.specs.StandsAtPipe.{AreCounted, AreLowestFree, AtPipe, HasMoved, HasNone, HasPipePage, HasEntryWord, HasTried, IsAtEnd}
use Rattle.lib_os.specs.StandsAtPipe.{IsMakingPipe, IsMoving, IsReadingPipe, IsTesting, IsWritingPipe, MakesSoFar, OfPipe, StandsAtPipe}
use Rattle.lib_os.specs.StandsAtPipe.{StandsMoving, StandsOnPipe, TellsEnd, TellsPipe, Told, TriesAgain, end_given}
use Rattle.lib_os.specs.StandsFor.{AwaitsOrHas, HasAsked, HasReply, awaits, has_reply}
use Rattle.lib_os.specs.StandsInHandler.{StandsBeneath, at_program, in_delivery, in_handing, IsStoppedAt, handing, marked, reading, telling, writing}
use Rattle.lib_os.specs.StandsInHandler.{listed, quoted}
use Rattle.lib_os.specs.StandsInHandler.{HasBytes, IsLoadingBytes, IsLoadingRest, IsPuttingBytes, hands_back, following}
use Rattle.lib_os.specs.StandsFor.{AwaitsOrHasBytes, IsCounting, awaits_bytes, has_bytes}
use Rattle.lib_os.specs.StandsFor.{StandsFor, StandsForSlot, StandsForBorn, StandsAt, StandsAtStep, view_of, IsStatusFor, MaySend}
use Rattle.lib_os.specs.StandsFor.{seen_unless}
use Rattle.lib_os.specs.StandsFor.{IsLookingUp, StandsAtDevice, StandsBefore, IsTaking, IsKeeping, IsPrinting, AsksOfFile, HasAllBytes, HasFileNumber}
use Rattle.lib_os.specs.StandsFor.{HasForRequest, HasTakenFrom, HasWordAt, IsOfFileAt, MayAskOf, TellsNumber, TellsOfFile, count_given, HasWholePath}
use Rattle.lib_os.specs.StandsFor.{IsGatheringPath, IsKeepingPath, IsTakingPath, AwaitsFileOrHas, HasFoundFree, HasOpened}
use Rattle.lib_os.specs.StandsFor.{IsLookingForFree, TellsOpen, awaits_file, has_opened}
use Rattle.lib_os.specs.StandsFor.{descriptor_given, refuses_next}
use Rattle.lib_os.specs.StandsFor.{borne_in, IsMapping, IsRemapping}
use Rattle.lib_os.specs.StandsFor.{IsTrying, IsWaiting, IsLooking, IsAboutToWait, IsReceiving, HasReceived, WaitsOrHas, waits, has}
use Rattle.lib_os.proofs.DescriptorWords.{told_device, told_mode, told_number}
use Rattle.lib_os.proofs.KeptPages.{spawns_aside}
use Rattle.lib_os.proofs.Logical.{is_making_pipe, is_plain, programs_beside, programs_no_descriptor}
use Rattle.lib_os.proofs.SpawnStays.{SameKept, given_same, lists_kept, quotes_kept, spawn_kept, stack_same, working_same}
use Rattle.lib_os.proofs.WordsTell.{is_in_handler}
use Rattle.jos_base.proofs.Maps.{upd-all}

-- ---- what is kept in mind

-- A step at which send keeps in mind what page stands at an address, or that its region has a table; exit, close or dup which
-- descriptors are open; or a service on what a descriptor names that, and the pages of its buffer.
abbrev pub minds_page_at : Service → Step → Bool
minds_page_at (service.Send id value va) (step.Trying perm) = true
minds_page_at (service.Send id value va) (step.Pausing perm) = true
minds_page_at (service.Send id value va) step.ReadingEntry = true
minds_page_at service.Pipe (step.FreeEntry fd) = true
minds_page_at service.Pipe (step.Piped at) = true
minds_page_at service.Exit (step.Piped at) = true
minds_page_at (service.Close fd) (step.Piped at) = true
minds_page_at (service.Dup old new) (step.Piped at) = true
minds_page_at service.Exit (step.DescriptorEntry fd) = true
minds_page_at service.Exit (step.DroppingDescriptor fd) = true
minds_page_at service.Exit step.Ending = true
minds_page_at (service.Close fd) (step.DescriptorEntry at) = true
minds_page_at (service.Close fd) (step.DroppingDescriptor at) = true
minds_page_at (service.Dup old new) (step.DescriptorEntry at) = true
minds_page_at (service.Dup old new) step.TargetEntry = true
minds_page_at (service.Dup old new) (step.DroppingDescriptor at) = true
minds_page_at (service.Dup old new) step.MappingDescriptor = true
minds_page_at (service.Read fd va len) at = true
minds_page_at (service.Write fd va len) at = true
minds_page_at (service.Seek fd offset) at = true
minds_page_at (service.Stat fd va) at = true
minds_page_at (service.SetSize fd size) at = true
minds_page_at (service.Remove path) at = true
minds_page_at (service.OpenFile path mode) at = true
minds_page_at (service.Spawn path argv) at = true
minds_page_at _ _ = false

-- or a step of fork that bears a child, or one of the handler, which keeps its stack and its copy in mind
abbrev pub minds_page : Place → Bool
minds_page place.Guest = false
minds_page (place.InService s stands) = minds_page_at s stands || is_some (borne_in (place.InService s stands))
minds_page (place.InHandler stands) = true

-- the row is the one after, too, where that is kept in mind
abbrev pub KeepsRow : Bool → EntryRow → EntryRow → Type 0
KeepsRow minds row after = minds ≡ true → after ≡ row

-- the regions that have tables have them after, too, where that is kept in mind
abbrev pub KeepsTables : Bool → (ℕ → Bool) → (ℕ → Bool) → Type 0
KeepsTables minds tables after = minds ≡ true → (r : ℕ) → tables r ≡ true → after r ≡ true

-- and a descriptor's page tells the same of what it names, but for its offset
abbrev pub SameDevices : View → View → Type 0
SameDevices v w = (p : ℕ) (x : Entry) → is_of_descriptor p ≡ true → is_pipe_page p ≡ false → v.row p ≡ Some x →
    lasting_words (w.bytes x.frame) ≡ lasting_words (v.bytes x.frame)

-- the page of the pipe of a descriptor has the same bytes
abbrev pub SamePipe : ℕ → View → View → Type 0
SamePipe fd v w = fd < DESCRIPTORS → (x : Entry) → v.row (pipe_page fd) ≡ Some x → w.bytes x.frame ≡ v.bytes x.frame

-- so have all pages of pipes
abbrev pub SamePipes : View → View → Type 0
SamePipes v w = (p : ℕ) (x : Entry) → is_pipe_page p ≡ true → v.row p ≡ Some x → w.bytes x.frame ≡ v.bytes x.frame

-- and the page of an end's descriptor and that of its pipe are mapped as often
abbrev pub SameCounts : View → View → Type 0
SameCounts v w = (fd : ℕ) (x y : Entry) → fd < DESCRIPTORS → v.row (descriptor_page fd) ≡ Some x → v.row (pipe_page fd) ≡ Some y →
    device_of (v.bytes x.frame) ≡ DEVICE_PIPE → (w.counts x.frame ≡ v.counts x.frame) × (w.counts y.frame ≡ v.counts y.frame)

-- the page of a descriptor tells that it is an end's, if there is one
abbrev IsOfPipe : View → ℕ → Type 0
IsOfPipe v fd = (x : Entry) → v.row (descriptor_page fd) ≡ Some x → device_of (v.bytes x.frame) ≡ DEVICE_PIPE

-- so it is where each page is
pub all_counts : (v w : View) → ((p : ℕ) (x : Entry) → v.row p ≡ Some x → w.counts x.frame ≡ v.counts x.frame) → SameCounts v w
all_counts v w each fd x y below is lies device = (each (descriptor_page fd) x is, each (pipe_page fd) y lies)

-- Who holds the lock of a pipe keeps the bytes of its page in mind, and so does who makes it.
abbrev pub pipe_minded_at : Service → PipeStep → Option ℕ
pipe_minded_at service.Pipe (pipe.MappingPipe first second) = Some first
pipe_minded_at (service.Read fd va len) at = if holds_lock at then Some fd else None
pipe_minded_at (service.Write fd va len) at = if holds_lock at then Some fd else None
pipe_minded_at (service.Stat fd va) at = if holds_lock at then Some fd else None
pipe_minded_at _ _ = None

abbrev pub pipe_minded : Place → Option ℕ
pipe_minded (place.InService s (step.Piped at)) = pipe_minded_at s at
pipe_minded _ = None

abbrev pub KeepsPipe : Option ℕ → View → View → Type 0
KeepsPipe None v w = Unit {0}
KeepsPipe (Some fd) v w = SamePipe fd v w

-- it moves bytes from or to a pipe, where what it has found counts in one turn
abbrev pub moves_bytes : Service → Bool
moves_bytes (service.Read fd va len) = true
moves_bytes (service.Write fd va len) = true
moves_bytes _ = false

abbrev pub is_piped : Place → Bool
is_piped (place.InService s (step.Piped at)) = moves_bytes s
is_piped _ = false

-- What counts in one turn is so after: if it runs, and its count of turns is the same, then it ran before, and the pages of ends and pipes are mapped as often,
-- and the latter have the same bytes. The count does not fall.
pub record TurnKept (v w : View) (k : Slot) (status : Status) (runs : ℕ) : Type 0 where
  pub later : k.runs ≤ runs
  pub same : is_running status ≡ true → runs ≡ k.runs → (is_running k.status ≡ true) × SameCounts v w × SamePipes v w

abbrev pub SamePages : View → View → Type 0
SamePages v w = SameKept v w × SameDevices v w

abbrev pub KeepsPage : Bool → View → View → Type 0
KeepsPage minds v w = minds ≡ true → SamePages v w

-- the same entries, the same bytes of pages of one's own, and the same that descriptors' pages tell
pub record ViewAlike (v w : View) : Type 0 where
  pub row : w.row ≡ v.row
  pub bytes : (p : ℕ) (x : Entry) → v.row p ≡ Some x → is_shared x.perm ≡ false → w.bytes x.frame ≡ v.bytes x.frame
  pub devices : SameDevices v w

-- what is kept in mind at a place is so after, too
abbrev pub KeptAt : Place → View → View → Type 0
KeptAt place.Guest v w = Unit {0}
KeptAt (place.InService s stands) v w =
    KeepsRow (minds_page (place.InService s stands)) v.row w.row × KeepsTables (minds_page (place.InService s stands)) v.tables w.tables
    × KeepsPage (minds_page (place.InService s stands)) v w × KeepsPipe (pipe_minded (place.InService s stands)) v w
KeptAt (place.InHandler stands) v w = ViewAlike v w

-- there no pipe is made
unminded_unmade : (s : Service) (stands : Step) → minds_page_at s stands ≡ false → is_making_pipe (place.InService s stands) ≡ false
unminded_unmade service.Pipe (step.Piped at) none = absurd (let contradiction : true ≡ false = none in cc)
unminded_unmade _ _ none = refl

unminded_pipe : (s : Service) (stands : Step) → minds_page_at s stands ≡ false → pipe_minded (place.InService s stands) ≡ None
unminded_pipe s (step.Piped at) none = by_service s at none
  where
    by_service : (s : Service) (at : PipeStep) → minds_page_at s (step.Piped at) ≡ false → pipe_minded_at s at ≡ None
    by_service service.Pipe at none = absurd (let contradiction : true ≡ false = none in cc)
    by_service (service.Read fd va len) at none = absurd (let contradiction : true ≡ false = none in cc)
    by_service (service.Write fd va len) at none = absurd (let contradiction : true ≡ false = none in cc)
    by_service (service.Stat fd va) at none = absurd (let contradiction : true ≡ false = none in cc)
    by_service _ at none = refl
unminded_pipe s _ none = refl

-- there its entries count as they stand
pub unminded_plain : (stands : Place) → minds_page stands ≡ false → is_plain stands ≡ true
unminded_plain place.Guest none = refl
unminded_plain (place.InService s stands) none =
    by_parts (minds_page_at s stands) (borne_in (place.InService s stands)) (is_making_pipe (place.InService s stands)) none (unminded_unmade s stands)
  where
    by_parts : (c : Bool) (o : Option ℕ) (made : Bool) → c || is_some o ≡ false → (c ≡ false → made ≡ false) → is_none o && not made ≡ true
    by_parts false None made off unmade = ap not (unmade refl)
    by_parts false (Some id) made off unmade = absurd (let contradiction : true ≡ false = off in cc)
    by_parts true o made off unmade = absurd (let contradiction : true ≡ false = off in cc)
unminded_plain (place.InHandler stands) none = absurd (let contradiction : true ≡ false = none in cc)

pub unminded_unpiped : (at : Place) → minds_page at ≡ false → is_piped at ≡ false
unminded_unpiped (place.InService s (step.Piped at)) none = by_service s none
  where
    by_service : (s : Service) → minds_page (place.InService s (step.Piped at)) ≡ false → moves_bytes s ≡ false
    by_service (service.Read fd va len) none = absurd (let contradiction : true ≡ false = none in cc)
    by_service (service.Write fd va len) none = absurd (let contradiction : true ≡ false = none in cc)
    by_service _ none = refl
unminded_unpiped _ none = refl

unminded_at : (s : Service) (stands : Step) → minds_page (place.InService s stands) ≡ false → minds_page_at s stands ≡ false
unminded_at s stands none = by_parts (minds_page_at s stands) (is_some (borne_in (place.InService s stands))) none
  where
    by_parts : (c o : Bool) → c || o ≡ false → c ≡ false
    by_parts false o off = refl
    by_parts true o off = absurd (let contradiction : true ≡ false = off in cc)

keeps_none : (o : Option ℕ) (v w : View) → o ≡ None → KeepsPipe o v w
keeps_none o v w none = subst (λ (r : Option ℕ). KeepsPipe r v w) (sym none) tt

-- a pipe's page that is in mind is one of all
pub keeps_pipe : (o : Option ℕ) (v w : View) → ((fd : ℕ) → o ≡ Some fd → SamePipe fd v w) → KeepsPipe o v w
keeps_pipe None v w same = tt
keeps_pipe (Some fd) v w same = same fd refl

-- where nothing is kept in mind
pub kept_unminded : (stands : Place) (v w : View) → minds_page stands ≡ false → KeptAt stands v w
kept_unminded place.Guest v w none = tt
kept_unminded (place.InService s stands) v w none = (
  (λ is. absurd (let contradiction : true ≡ false = sym is ∙ none in cc)),
  (λ is r table. absurd (let contradiction : true ≡ false = sym is ∙ none in cc)),
  (λ is. absurd (let contradiction : true ≡ false = sym is ∙ none in cc)),
  keeps_none (pipe_minded (place.InService s stands)) v w (unminded_pipe s stands (unminded_at s stands none)),
)
kept_unminded (place.InHandler stands) v w none = absurd (let contradiction : true ≡ false = none in cc)

-- where the entries and the tables are the same, and the handler does not run
pub kept_rows : (stands : Place) (v w : View) → is_in_handler stands ≡ false → w.row ≡ v.row → ((r : ℕ) → w.tables r ≡ v.tables r) →
    SamePages v w → KeepsPipe (pipe_minded stands) v w → KeptAt stands v w
kept_rows place.Guest v w outside row tables taken held = tt
kept_rows (place.InService s stands) v w outside row tables taken held = ((λ is. row), (λ is r table. tables r ∙ table), (λ is. taken), held)
kept_rows (place.InHandler stands) v w outside row tables taken held = absurd (let contradiction : true ≡ false = outside in cc)

-- where all is alike
pub kept_alike : (stands : Place) (v w : View) → ViewAlike v w → ((r : ℕ) → w.tables r ≡ v.tables r) → KeepsPipe (pipe_minded stands) v w →
    KeptAt stands v w
kept_alike place.Guest v w same tables held = tt
kept_alike (place.InService s stands) v w same tables held =
    ((λ is. same.row), (λ is r table. tables r ∙ table), (λ is. ((λ p x outside. same.bytes p x), same.devices)), held)
kept_alike (place.InHandler stands) v w same tables held = same

-- ---- where it stands in its handler

module _ (v w : View) (same : ViewAlike v w) where
  row_at : (p : ℕ) (o : Option Entry) → v.row p ≡ o → w.row p ≡ o
  row_at p o is = ap (λ (r : EntryRow). r p) same.row ∙ is

  to_copy_kept : (va : ℕ) → IsToCopy v.row va → IsToCopy w.row va
  to_copy_kept va h = record { entry = h.entry; stands = row_at _ _ h.stands; own_page = h.own_page; copied = h.copied }

  copied_kept : (n va : ℕ) → IsCopiedTo n v va → IsCopiedTo n w va
  copied_kept n va h = record {
    source = h.source;
    copy = h.copy;
    source_is = row_at _ _ h.source_is;
    copy_is = row_at _ _ h.copy_is;
    source_own = h.source_own;
    copy_own = h.copy_own;
    same = λ i lt. rw (same.bytes _ h.copy h.copy_is h.copy_own, same.bytes _ h.source h.source_is h.source_own) (h.same i lt);
  }

  word_kept : (va index word : ℕ) → HasWord v va index word → HasWord w va index word
  word_kept va index word h = record {
    entry = h.entry;
    stands = row_at _ _ h.stands;
    own_page = h.own_page;
    word_is = rw (same.bytes _ h.entry h.stands h.own_page) h.word_is;
  }

  twice_kept : (va : ℕ) → IsMappedTwice v va → IsMappedTwice w va
  twice_kept va h = record {
    here = h.here;
    there = h.there;
    here_is = row_at _ _ h.here_is;
    there_is = row_at _ _ h.there_is;
    own_page = h.own_page;
    own_copy = h.own_copy;
    writes = h.writes;
    frames = h.frames;
  }

  copies_kept : (h : HandlerStep) (va : ℕ) → CopiesAt h v va → CopiesAt h w va
  copies_kept handler.Entered va at = to_copy_kept va at
  copies_kept (handler.ReadingError found) va at = (at.0, to_copy_kept va at.1)
  copies_kept (handler.Looking found) va at = (at.0, to_copy_kept va at.1)
  copies_kept (handler.Taking found) va at = (at.0, to_copy_kept va at.1)
  copies_kept (handler.Loading found index) va at = (at.0, to_copy_kept va at.1, copied_kept _ va at.2)
  copies_kept (handler.Storing found index word) va at = (at.0, to_copy_kept va at.1, copied_kept _ va at.2, word_kept va index word at.3)
  copies_kept (handler.MappingOver found) va at = (at.0, to_copy_kept va at.1, copied_kept _ va at.2)
  copies_kept (handler.Unmapping found) va at = (at.0, twice_kept va at.1)
  copies_kept handler.Restoring va at = tt
  copies_kept _ va at = absurd at

  frame_kept : (esp : ℕ) (fault : PageFault) (regs : Regs) → HasFrame v esp fault regs → HasFrame w esp fault regs
  frame_kept esp fault regs h = record {
    at = h.at;
    entry = h.entry;
    stands = row_at _ _ h.stands;
    own_page = h.own_page;
    bytes = λ i lt. rw (same.bytes _ h.entry h.stands h.own_page) (h.bytes i lt);
  }

-- ---- what it is given

-- by the same entries, where descriptors' pages tell the same
module _ (v w : View) (row : w.row ≡ v.row) (devices : SameDevices v w) where
  pub told_kept : (fd : ℕ) → fd < DESCRIPTORS → (x : Entry) → v.row (descriptor_page fd) ≡ Some x →
      lasting_words (w.bytes x.frame) ≡ lasting_words (v.bytes x.frame)
  told_kept fd below x is = devices (descriptor_page fd) x (grind (arith, nat_tests)) (grind (arith, nat_tests)) is

  pub given_kept : (fd va len : ℕ) → IsGiven v fd va len → IsGiven w fd va len
  given_kept fd va len h = record {
    below = h.below;
    console = record {
      entry = h.console.entry;
      stands = ap (λ (r : EntryRow). r (descriptor_page fd)) row ∙ h.console.stands;
      device = ap told_device (told_kept fd h.below h.console.entry h.console.stands) ∙ h.console.device;
    };
    buffer = h.buffer;
  }

  console_kept : (fd : ℕ) → fd < DESCRIPTORS → IsConsoleOpen v fd → IsConsoleOpen w fd
  console_kept fd below h = record {
    entry = h.entry;
    stands = ap (λ (r : EntryRow). r (descriptor_page fd)) row ∙ h.stands;
    device = ap told_device (told_kept fd below h.entry h.stands) ∙ h.device;
  }

  -- a file
  abbrev pub file_kept : (fd : ℕ) → fd < DESCRIPTORS → IsFileOpen v fd → IsFileOpen w fd
  file_kept fd below h = record {
    entry = h.entry;
    stands = ap (λ (r : EntryRow). r (descriptor_page fd)) row ∙ h.stands;
    device = ap told_device (told_kept fd below h.entry h.stands) ∙ h.device;
  }

  -- an end of a pipe
  end_kept : (fd mode : ℕ) → fd < DESCRIPTORS → IsEndOpen v fd mode → IsEndOpen w fd mode
  end_kept fd mode below h = record {
    entry = h.entry;
    stands = ap (λ (r : EntryRow). r (descriptor_page fd)) row ∙ h.stands;
    device = ap told_device (told_kept fd below h.entry h.stands) ∙ h.device;
    mode_is = ap told_mode (told_kept fd below h.entry h.stands) ∙ h.mode_is;
    page = h.page;
    lies = ap (λ (r : EntryRow). r (pipe_page fd)) row ∙ h.lies;
  }

  begins_kept : (fd start : ℕ) → fd < DESCRIPTORS → BeginsAt v fd start → BeginsAt w fd start
  begins_kept fd start below (on_console is console) = on_console is (console_kept fd below console)
  begins_kept fd start below (in_file is it) = in_file is (record {
    file = file_kept fd below it.file;
    writable = subst (λ (mode : ℕ). mode ≢ 0) (sym (ap told_mode (told_kept fd below it.file.entry it.file.stands))) it.writable;
  })
  begins_kept fd start below (in_pipe is it) = in_pipe is (end_kept fd 1 below it)

  pub given_bytes_kept : (fd va len start : ℕ) → IsGivenBytes v fd va len start → IsGivenBytes w fd va len start
  given_bytes_kept fd va len start h =
      record { below = h.below; begins = begins_kept fd start h.below h.begins; buffer = h.buffer }

  module _ (b after : Born) (phase_kept : after.phase ≡ b.phase) (found_kept : after.spawning ≡ b.spawning) where
    wants_kept : (fd va len start : ℕ) (bytes : List ℕ) → WantsMore v b fd va len start bytes → WantsMore w after fd va len start bytes
    wants_kept fd va len start bytes h =
        record { phase = phase_kept ∙ h.phase; given = given_bytes_kept fd va len start h.given; fewer = h.fewer }

    pub stopped_kept : (write : Bool) (va ip : ℕ) → IsStoppedAt write v b va ip → IsStoppedAt write w after va ip
    stopped_kept write va ip (marked phase) = marked (phase_kept ∙ phase)
    stopped_kept write va ip (reading fd buffer len bytes answer writes phase some) =
        reading fd buffer len bytes answer writes (phase_kept ∙ phase) some
    stopped_kept write va ip (telling fd buffer bytes answer writes phase some) =
        telling fd buffer bytes answer writes (phase_kept ∙ phase) some
    stopped_kept write va ip (handing s bytes answer writes hands phase some there) =
        handing s bytes answer writes hands (phase_kept ∙ phase) some there
    stopped_kept write va ip (writing fd buffer len start bytes reads wants there) =
        writing fd buffer len start bytes reads (wants_kept fd buffer len start bytes wants) there
    stopped_kept write va ip (following s bytes reads wants there) =
        following s bytes reads (record { takes = wants.takes; phase = phase_kept ∙ wants.phase; no_end = wants.no_end; follows = wants.follows }) there
    stopped_kept write va ip (listed path argv name addresses taken stage reads phase so are few fewer there) =
        listed path argv name addresses taken stage reads (phase_kept ∙ phase) (lists_kept b after found_kept so) are few fewer there
    stopped_kept write va ip (quoted path argv address name left taken words stage reads phase so fewer there) =
        quoted path argv address name left taken words stage reads (phase_kept ∙ phase) (quotes_kept b after found_kept so) fewer there

-- ---- where it stands

module _ (v w : View) (k : Slot) (b : Born) (status : Status) (runs : ℕ) (memory : ℕ → Option Page) (regions : ℕ → Bool)
    (descriptors : ℕ → Option ℕ) where
  abbrev kernel_slot : Slot
  kernel_slot = record k { status = status; runs = runs }

  abbrev environment : Born
  environment = record b { memory = memory; regions = regions; descriptors = descriptors }

  in_kept : (s : Service) (stage : Stage) → IsIn k b s stage → IsIn kernel_slot environment s stage
  in_kept s stage h = record { program = h.program; phase = h.phase; silent = h.silent; awake = h.awake }

  guest_kept : IsAtGuest k b → IsAtGuest kernel_slot environment
  guest_kept h = record { program = h.program; phase = h.phase; words = h.words; silent = h.silent; awake = h.awake }

  trying_kept : (id value va perm : ℕ) → w.row ≡ v.row → IsTrying v.row k b id value va perm →
      IsTrying w.row kernel_slot environment id value va perm
  trying_kept id value va perm row h = record {
    is_in = in_kept _ _ h.is_in;
    some = h.some;
    other = h.other;
    page = subst (λ (r : EntryRow). MaySend r va perm) (sym row) h.page;
  }

  waiting_kept : (id : ℕ) → IsWaiting k b id → IsWaiting kernel_slot environment id
  waiting_kept id h = record { is_in = in_kept _ _ h.is_in; some = h.some; other = h.other }

  looking_kept : (id value va : ℕ) → IsLooking k b id value va → IsLooking kernel_slot environment id value va
  looking_kept id value va h =
      record { is_in = in_kept _ _ h.is_in; some = h.some; other = h.other; somewhere = h.somewhere; inside = h.inside }

  about_kept : (va from id : ℕ) → IsAboutToWait k b va from id → IsAboutToWait kernel_slot environment va from id
  about_kept va from id h = record { is_in = in_kept _ _ h.is_in; self = h.self; page = h.page; other = h.other }

  receiving_kept : (va from : ℕ) → IsReceiving k b va from → IsReceiving kernel_slot environment va from
  receiving_kept va from h = record {
    program = h.program;
    phase = h.phase;
    blocked = h.blocked;
    page = h.page;
    rendezvous = h.rendezvous;
    wanted = h.wanted;
    destination = h.destination;
  }

  received_kept : (va from : ℕ) → HasReceived k b va from → HasReceived kernel_slot environment va from
  received_kept va from h = record {
    regs = h.regs;
    program = h.program;
    registers = h.registers;
    message = h.message;
    phase = h.phase;
    awake = h.awake;
    silent = h.silent;
    come = h.come;
  }

  waits_kept : (va from : ℕ) → WaitsOrHas k b va from → WaitsOrHas kernel_slot environment va from
  waits_kept va from (waits h) = waits (receiving_kept va from h)
  waits_kept va from (has h) = has (received_kept va from h)

  asked_kept : (s : Service) → HasAsked k b s → HasAsked kernel_slot environment s
  asked_kept s h = record { program = h.program; phase = h.phase; silent = h.silent; awake = h.awake }

  reply_kept : (s : Service) → HasReply k b s → HasReply kernel_slot environment s
  reply_kept s h = record {
    regs = h.regs;
    program = h.program;
    registers = h.registers;
    phase = h.phase;
    awake = h.awake;
    silent = h.silent;
    small = h.small;
  }

  awaits_kept : (s : Service) → AwaitsOrHas k b s → AwaitsOrHas kernel_slot environment s
  awaits_kept s (awaits h) = awaits (record {
    program = h.program;
    phase = h.phase;
    blocked = h.blocked;
    rendezvous = h.rendezvous;
    wanted = h.wanted;
    destination = h.destination;
  })
  awaits_kept s (has_reply h) = has_reply (reply_kept s h)

  mapping_kept : (page perm : ℕ) → w.row ≡ v.row → IsMapping v.row page perm → IsMapping w.row page perm
  mapping_kept page perm row h = subst (λ (r : EntryRow). IsMapping r page perm) (sym row) h

  remapping_kept : (page : ℕ) → w.row ≡ v.row → IsRemapping v.row page → IsRemapping w.row page
  remapping_kept page row h = subst (λ (r : EntryRow). IsRemapping r page) (sym row) h

  none_kept : (n : ℕ) → w.row ≡ v.row → NoneIsOpenBelow v.row n → NoneIsOpenBelow w.row n
  none_kept n row h = subst (λ (r : EntryRow). NoneIsOpenBelow r n) (sym row) h

  open_kept : (fd : ℕ) → w.row ≡ v.row → IsOpen v.row fd → IsOpen w.row fd
  open_kept fd row h = subst (λ (r : EntryRow). IsOpen r fd) (sym row) h

  duplicating_kept : (old new : ℕ) → w.row ≡ v.row → IsDuplicating v.row old new → IsDuplicating w.row old new
  duplicating_kept old new row h = subst (λ (r : EntryRow). IsDuplicating r old new) (sym row) h

  looking_up_kept : (s : Service) (at fd : ℕ) → ((r : ℕ) → v.tables r ≡ true → w.tables r ≡ true) → IsLookingUp v k b s at fd →
      IsLookingUp w kernel_slot environment s at fd
  looking_up_kept s at fd tables h =
      record { is_in = in_kept _ _ h.is_in; same = h.same; below = h.below; table = tables (region_index FDTABLE) h.table }

  device_kept : (s : Service) (o : Option ℕ) → w.row ≡ v.row → StandsAtDevice v k b s o → StandsAtDevice w kernel_slot environment s o
  device_kept s None row h = absurd h
  device_kept s (Some fd) row h = record { is_in = in_kept _ _ h.is_in; below = h.below; stands = open_kept fd row h.stands }

  taken_kept : (bytes : List ℕ) (n : ℕ) → w.row ≡ v.row → SameKept v w → HasTaken v bytes n → HasTaken w bytes n
  taken_kept bytes n row page h = record {
    entry = h.entry;
    stands = ap (λ (r : EntryRow). r (page_number UTEMP)) row ∙ h.stands;
    own_page = h.own_page;
    same = λ i lt. ap (λ (l : List ℕ). slice_index l i) (working_same v w page h.entry h.stands h.own_page) ∙ h.same i lt;
  }

  taken_from_kept : (start : ℕ) (bytes : List ℕ) (n : ℕ) → w.row ≡ v.row → SameKept v w → HasTakenFrom v start bytes n →
      HasTakenFrom w start bytes n
  taken_from_kept start bytes n row page h = record {
    entry = h.entry;
    stands = ap (λ (r : EntryRow). r (page_number UTEMP)) row ∙ h.stands;
    own_page = h.own_page;
    same = λ i lt. ap (λ (l : List ℕ). slice_index l (start % PGSIZE + i)) (working_same v w page h.entry h.stands h.own_page) ∙ h.same i lt;
  }

  taking_kept : (fd va len start done : ℕ) → w.row ≡ v.row → SamePages v w → IsTaking v k b fd va len start done →
      IsTaking w kernel_slot environment fd va len start done
  taking_kept fd va len start done row page h = record {
    bytes = h.bytes;
    program = h.program;
    wants = wants_kept v w row page.1 b environment refl refl fd va len start h.bytes h.wants;
    many = h.many;
    kept = taken_from_kept start h.bytes done row page.0 h.kept;
    silent = h.silent;
    awake = h.awake;
  }

  keeping_kept : (fd va len start done word left : ℕ) → w.row ≡ v.row → SamePages v w → IsKeeping v k b fd va len start done word left →
      IsKeeping w kernel_slot environment fd va len start done word left
  keeping_kept fd va len start done word left row page h = record {
    bytes = h.bytes;
    is_in = in_kept _ _ h.is_in;
    given = given_bytes_kept v w row page.1 fd va len start h.given;
    many = h.many;
    few = h.few;
    some = h.some;
    last = h.last;
    word_is = h.word_is;
    small = h.small;
    allowed = ap (λ (r : EntryRow). refuses_next r (service.Write fd va len) (done + left - 1)) row ∙ h.allowed;
    kept = taken_from_kept start h.bytes done row page.0 h.kept;
  }

  printing_kept : (fd va len : ℕ) → w.row ≡ v.row → SamePages v w → IsPrinting v k b fd va len → IsPrinting w kernel_slot environment fd va len
  printing_kept fd va len row page h = record {
    bytes = h.bytes;
    is_in = in_kept _ _ h.is_in;
    given = given_kept v w row page.1 fd va len h.given;
    many = h.many;
    kept = taken_kept h.bytes (length h.bytes) row page.0 h.kept;
  }

  taking_path_kept : (s : Service) (done : ℕ) → w.row ≡ v.row → SamePages v w → IsTakingPath v k b s done →
      IsTakingPath w kernel_slot environment s done
  taking_path_kept s done row page h = record {
    bytes = h.bytes;
    program = h.program;
    wants = record { takes = h.wants.takes; phase = h.wants.phase; no_end = h.wants.no_end; follows = h.wants.follows };
    many = h.many;
    kept = taken_kept h.bytes done row page.0 h.kept;
    silent = h.silent;
    awake = h.awake;
  }

  gathering_path_kept : (c : Bool) (s : Service) (done : ℕ) → w.row ≡ v.row → SamePages v w → IsGatheringPath c v k b s done →
      IsGatheringPath c w kernel_slot environment s done
  gathering_path_kept true s done row page h =
      (taking_path_kept s done row page h.0, ap (λ (r : EntryRow). refuses_next r s done) row ∙ h.1)
  gathering_path_kept false s done row page h =
      record { bytes = h.bytes; takes = h.takes; is_in = in_kept _ _ h.is_in; no_end = h.no_end; many = h.many; few = h.few; ends = h.ends }

  keeping_path_kept : (s : Service) (done word left : ℕ) → w.row ≡ v.row → SamePages v w → IsKeepingPath v k b s done word left →
      IsKeepingPath w kernel_slot environment s done word left
  keeping_path_kept s done word left row page h = record {
    bytes = h.bytes;
    takes = h.takes;
    is_in = in_kept _ _ h.is_in;
    many = h.many;
    few = h.few;
    some = h.some;
    last = h.last;
    word_is = h.word_is;
    small = h.small;
    no_end = h.no_end;
    allowed = ap (λ (r : EntryRow). refuses_next r s (done + left - 1)) row ∙ h.allowed;
    kept = taken_kept h.bytes done row page.0 h.kept;
  }

  whole_path_kept : (s : Service) → w.row ≡ v.row → SamePages v w → HasWholePath v k b s → HasWholePath w kernel_slot environment s
  whole_path_kept s row page h = record {
    bytes = h.bytes;
    is_in = in_kept _ _ h.is_in;
    few = h.few;
    small = h.small;
    ended = h.ended;
    kept = taken_kept h.bytes _ row page.0 h.kept;
  }

  -- a word of a request

  word_at_kept : (at word : ℕ) → w.row ≡ v.row → SamePages v w → HasWordAt v at word → HasWordAt w at word
  word_at_kept at word row page h = record {
    entry = h.entry;
    stands = ap (λ (r : EntryRow). r (page_number UTEMP)) row ∙ h.stands;
    own_page = h.own_page;
    word_is = ap (λ (l : List ℕ). word_at (slice_index l) at) (working_same v w page.0 h.entry h.stands h.own_page) ∙ h.word_is;
  }

  -- a file is opened

  lowest_kept : (fd : ℕ) → w.row ≡ v.row → IsLowestFree v.row fd → IsLowestFree w.row fd
  lowest_kept fd row h = subst (λ (r : EntryRow). IsLowestFree r fd) (sym row) h

  looking_for_kept : (s : Service) (fd : ℕ) → w.row ≡ v.row → ((r : ℕ) → v.tables r ≡ true → w.tables r ≡ true) → SamePages v w →
      IsLookingForFree v k b s fd → IsLookingForFree w kernel_slot environment s fd
  looking_for_kept s fd row tables page h = record {
    whole = whole_path_kept s row page h.whole;
    most = h.most;
    lower = subst (λ (r : EntryRow). EachIsOpenBelow r fd) (sym row) h.lower;
    table = tables (region_index FDTABLE) h.table;
  }

  found_free_kept : (s : Service) (fd : ℕ) → w.row ≡ v.row → SamePages v w → HasFoundFree v k b s fd → HasFoundFree w kernel_slot environment s fd
  found_free_kept s fd row page h = record { whole = whole_path_kept s row page h.whole; lowest = lowest_kept fd row h.lowest }

  tells_open_kept : (s : Service) (mode : ℕ) → w.row ≡ v.row → SamePages v w → TellsOpen v k b s mode → TellsOpen w kernel_slot environment s mode
  tells_open_kept s mode row page h =
      record { whole = whole_path_kept s row page h.whole; mode_told = word_at_kept REQUEST_MODE mode row page h.mode_told }

  opened_kept : (s : Service) (fd : ℕ) → HasOpened k b s fd → HasOpened kernel_slot environment s fd
  opened_kept s fd h = record {
    regs = h.regs;
    program = h.program;
    registers = h.registers;
    phase = h.phase;
    awake = h.awake;
    silent = h.silent;
    small = h.small;
  }

  awaits_file_kept : (s : Service) (fd : ℕ) → w.row ≡ v.row → AwaitsFileOrHas v k b s fd → AwaitsFileOrHas w kernel_slot environment s fd
  awaits_file_kept s fd row (awaits_file h) = awaits_file (record {
    program = h.program;
    phase = h.phase;
    blocked = h.blocked;
    rendezvous = h.rendezvous;
    wanted = h.wanted;
    destination = h.destination;
    lowest = lowest_kept fd row h.lowest;
  })
  awaits_file_kept s fd row (has_opened h) = has_opened (opened_kept s fd h)

  -- a request on a file that is open

  abbrev of_file_kept : (s : Service) (stage : Stage) (fd : ℕ) → w.row ≡ v.row → SamePages v w → IsOfFileAt v k b s stage fd →
      IsOfFileAt w kernel_slot environment s stage fd
  of_file_kept s stage fd row page h =
      record { is_in = in_kept _ _ h.is_in; below = h.below; file = file_kept v w row page.1 fd h.below h.file }

  told_of : {s : Service} {stage : Stage} (fd : ℕ) → w.row ≡ v.row → SamePages v w → (h : IsOfFileAt v k b s stage fd) →
      lasting_words (v.bytes h.file.entry.frame) ≡ lasting_words (w.bytes h.file.entry.frame)
  told_of fd row page h = sym (told_kept v w row page.1 fd h.below h.file.entry h.file.stands)

  all_bytes_kept : (va len : ℕ) (stage : Stage) → w.row ≡ v.row → SamePages v w → HasAllBytes v va len stage → HasAllBytes w va len stage
  all_bytes_kept va len stage row page h = record {
    bytes = h.bytes;
    stage_is = h.stage_is;
    buffer = h.buffer;
    many = h.many;
    kept = taken_from_kept REQUEST_BYTES h.bytes (length h.bytes) row page.0 h.kept;
  }

  for_request_kept : (s : Service) (stage : Stage) (mode : ℕ) → w.row ≡ v.row → SamePages v w → MayAskOf s mode → HasForRequest v s stage →
      HasForRequest w s stage
  for_request_kept (service.Seek fd offset) stage mode row page allowed h = h
  for_request_kept (service.SetSize fd size) stage mode row page allowed h = h
  for_request_kept (service.Read fd va len) stage mode row page allowed h = h
  for_request_kept (service.Stat fd va) stage mode row page allowed h = h
  for_request_kept (service.Write fd va len) stage mode row page allowed h = all_bytes_kept va len stage row page h
  for_request_kept _ stage mode row page allowed h = absurd allowed

  abbrev asks_of_file_kept : (s : Service) (fd : ℕ) → w.row ≡ v.row → SamePages v w → AsksOfFile v k b s fd → AsksOfFile w kernel_slot environment s fd
  asks_of_file_kept s fd row page h = record {
    stage = h.stage;
    of_file = of_file_kept s h.stage fd row page h.of_file;
    allowed = subst (λ (mode : ℕ). MayAskOf s mode) (ap told_mode (told_of fd row page h.of_file)) h.allowed;
    has = for_request_kept s h.stage _ row page h.allowed h.has;
  }

  has_number_kept : (s : Service) (fd number : ℕ) → w.row ≡ v.row → SamePages v w → HasFileNumber v k b s fd number →
      HasFileNumber w kernel_slot environment s fd number
  has_number_kept s fd number row page h = record {
    asks = asks_of_file_kept s fd row page h.asks;
    number_is = h.number_is ∙ ap told_number (told_of fd row page h.asks.of_file);
  }

  number_told_kept : {s : Service} {stage : Stage} (fd : ℕ) → w.row ≡ v.row → SamePages v w → (h : IsOfFileAt v k b s stage fd) →
      HasWordAt v REQUEST_FILE (number_of (v.bytes h.file.entry.frame)) → HasWordAt w REQUEST_FILE (number_of (w.bytes h.file.entry.frame))
  number_told_kept fd row page h told =
      subst (λ (number : ℕ). HasWordAt w REQUEST_FILE number) (ap told_number (told_of fd row page h)) (word_at_kept REQUEST_FILE _ row page told)

  tells_number_kept : (s : Service) (fd : ℕ) → w.row ≡ v.row → SamePages v w → TellsNumber v k b s fd → TellsNumber w kernel_slot environment s fd
  tells_number_kept s fd row page h = record {
    asks = asks_of_file_kept s fd row page h.asks;
    number_told = number_told_kept fd row page h.asks.of_file h.number_told;
  }

  tells_of_file_kept : (s : Service) (fd : ℕ) → w.row ≡ v.row → SamePages v w → TellsOfFile v k b s fd → TellsOfFile w kernel_slot environment s fd
  tells_of_file_kept s fd row page h = record {
    asks = asks_of_file_kept s fd row page h.asks;
    number_told = number_told_kept fd row page h.asks.of_file h.number_told;
    count_told = word_at_kept REQUEST_COUNT (count_given s) row page h.count_told;
  }

  -- the bytes of a file

  abbrev handing_kept : (s : Service) (done count : ℕ) → w.row ≡ v.row → SameKept v w → HasBytes v k b s done count →
      HasBytes w kernel_slot environment s done count
  handing_kept s done count row page h = record {
    hands = h.hands;
    regs = h.regs;
    program = h.program;
    eax = h.eax;
    registers = h.registers;
    bytes = h.bytes;
    hands_at = h.hands_at;
    many = h.many;
    fewer = h.fewer;
    most = h.most;
    inside = h.inside;
    small = h.small;
    kept = taken_kept h.bytes count row page h.kept;
    silent = h.silent;
    awake = h.awake;
  }

  loading_kept : (s : Service) (done count : ℕ) → w.row ≡ v.row → SameKept v w → IsLoadingBytes v k b s done count →
      IsLoadingBytes w kernel_slot environment s done count
  loading_kept s done count row page h = record {
    has = handing_kept s done count row page h.has;
    allowed = ap (λ (r : EntryRow). is_refused_by true (r (next_page s done))) row ∙ h.allowed;
  }

  rest_kept : (s : Service) (done count first : ℕ) → w.row ≡ v.row → SameKept v w → IsLoadingRest v k b s done count first →
      IsLoadingRest w kernel_slot environment s done count first
  rest_kept s done count first row page h = record {
    has = handing_kept s done count row page h.has;
    allowed = ap (λ (r : EntryRow). is_refused_by true (r (next_page s done))) row ∙ h.allowed;
    whole = h.whole;
    apart = h.apart;
    first_is = h.first_is;
  }

  putting_bytes_kept : (s : Service) (done count word : ℕ) → w.row ≡ v.row → SameKept v w → IsPuttingBytes v k b s done count word →
      IsPuttingBytes w kernel_slot environment s done count word
  putting_bytes_kept s done count word row page h = record {
    has = handing_kept s done count row page h.has;
    allowed = ap (λ (r : EntryRow). is_refused_by true (r (next_page s done))) row ∙ h.allowed;
    word_is = h.word_is;
  }

  counting_kept : (s : Service) (id : ℕ) → w.row ≡ v.row → SameKept v w → IsCounting v k b s id → IsCounting w kernel_slot environment s id
  counting_kept s id row page h = record { self = h.self; hands = h.hands; inside = h.inside; so = by_reply h.so }
    where
      by_reply : AwaitsOrHasBytes v k b s → AwaitsOrHasBytes w kernel_slot environment s
      by_reply (awaits_bytes so) = awaits_bytes (record {
        program = so.program;
        phase = so.phase;
        blocked = so.blocked;
        rendezvous = so.rendezvous;
        wanted = so.wanted;
        destination = so.destination;
      })
      by_reply (has_bytes so) = has_bytes (record {
        regs = so.regs;
        program = so.program;
        registers = so.registers;
        bytes = so.bytes;
        phase = so.phase;
        awake = so.awake;
        silent = so.silent;
        small = so.small;
        many = so.many;
        small_bytes = so.small_bytes;
        kept = taken_kept so.bytes _ row page so.kept;
      })

  -- who has them keeps pages in mind
  hands_minds : (s : Service) → hands_back s ≡ true → (at : Step) → minds_page (place.InService s at) ≡ true
  hands_minds (service.Read fd va len) hands at = refl
  hands_minds (service.Stat fd va) hands at = refl
  hands_minds _ hands at = absurd (let contradiction : false ≡ true = hands in cc)

  delivering_kept : (s : Service) (at : ℕ) (bytes : List ℕ) (answer : ℕ) → IsDelivering k b s at bytes answer →
      IsDelivering kernel_slot environment s at bytes answer
  delivering_kept s at bytes answer h = record {
    program = h.program;
    phase = h.phase;
    silent = h.silent;
    awake = h.awake;
    some = h.some;
    inside = h.inside;
    small = h.small;
  }

  delivery_kept : (s : Service) (done word : ℕ) → StandsDelivering s done word k b → StandsDelivering s done word kernel_slot environment
  delivery_kept (service.Read fd va len) done word h = delivering_kept _ _ _ _ h
  delivery_kept (service.Stat fd va) done word h = delivering_kept _ _ _ _ h
  delivery_kept _ done word h = absurd h

  putting_kept : (s : Service) (done word : ℕ) → w.row ≡ v.row → StandsPutting v.row s done word k b →
      StandsPutting w.row s done word kernel_slot environment
  putting_kept s done word row h =
      (delivery_kept s done word h.0, subst (λ (r : EntryRow). is_refused_by true (r (next_page s done)) ≡ false) (sym row) h.1)

  before_kept : {so so_after : Type 0} → (so → so_after) → (s : Service) (done word : ℕ) → w.row ≡ v.row → SamePages v w →
      StandsBefore so v k b s done word → StandsBefore so_after w kernel_slot environment s done word
  before_kept so_too (service.Read fd va len) done word row page h = (delivering_kept _ _ _ _ h.0, so_too h.1)
  before_kept so_too (service.Stat fd va) done word row page h = (delivering_kept _ _ _ _ h.0, so_too h.1)
  before_kept so_too (service.Write fd va len) done word row page h = (taking_kept fd va len word done row page h.0, so_too h.1)
  before_kept so_too (service.Remove path) done word row page h = (taking_path_kept (service.Remove path) done row page h.0, so_too h.1)
  before_kept so_too (service.OpenFile path mode) done word row page h = (taking_path_kept (service.OpenFile path mode) done row page h.0, so_too h.1)
  before_kept so_too (service.Spawn path argv) done word row page h = (taking_path_kept (service.Spawn path argv) done row page h.0, so_too h.1)
  before_kept so_too _ done word row page h = absurd h

  -- who stands before a byte of a buffer keeps it in mind
  before_minds : (so : Type 0) (s : Service) (at : Step) (done word : ℕ) → StandsBefore so v k b s done word →
      minds_page (place.InService s at) ≡ true
  before_minds so (service.Read fd va len) at done word h = refl
  before_minds so (service.Stat fd va) at done word h = refl
  before_minds so (service.Write fd va len) at done word h = refl
  before_minds so (service.Remove path) at done word h = refl
  before_minds so (service.OpenFile path mode) at done word h = refl
  before_minds so (service.Spawn path argv) at done word h = refl
  before_minds so _ at done word h = absurd h

  device_minds : (s : Service) (at : Step) → StandsAtDevice v k b s (descriptor_given s) → minds_page (place.InService s at) ≡ true
  device_minds (service.Read fd va len) at h = refl
  device_minds (service.Write fd va len) at h = refl
  device_minds (service.Seek fd offset) at h = refl
  device_minds (service.Stat fd va) at h = refl
  device_minds (service.SetSize fd size) at h = refl
  device_minds _ at h = absurd h

  -- what is in mind at the steps on pipes

  at_pipe_kept : {says after : List ℕ → Type 0} (fd : ℕ) → fd < DESCRIPTORS → w.row ≡ v.row → SamePipe fd v w → ((page : List ℕ) → says page → after page) →
      AtPipe v fd says → AtPipe w fd after
  at_pipe_kept {after = after} fd below row same still h = record {
    page = h.page;
    lies = ap (λ (r : EntryRow). r (pipe_page fd)) row ∙ h.lies;
    so = subst (λ (page : List ℕ). after page) (sym (same below h.page h.lies)) (still (v.bytes h.page.frame) h.so);
  }

  told_still : {says after : Type 0} (read : ℕ) → TurnKept v w k status runs → (SameCounts v w → SamePipes v w → says → after) →
      Told k read says → Told kernel_slot read after
  told_still read turn still h = (
    (let from = h.0 in let later = turn.later in omega (arith, from, later)),
    (λ is same.
        let from = h.0 in let later = turn.later in
        let again : runs ≡ k.runs = omega (arith, from, later, same) in
        let kept = turn.same is again in still kept.1 kept.2 (h.1 kept.0 (sym again ∙ same))),
  )

  pipe_still : (fd : ℕ) → SamePipes v w → SamePipe fd v w
  pipe_still fd same below x is = same (pipe_page fd) x (grind (arith, nat_tests)) is

  abbrev reading_pipe_kept : (fd va len done : ℕ) → w.row ≡ v.row → SamePages v w → IsReadingPipe v k b fd va len done →
      IsReadingPipe w kernel_slot environment fd va len done
  reading_pipe_kept fd va len done row page h = record {
    taken = h.taken;
    is_in = in_kept _ _ h.is_in;
    below = h.below;
    open_end = end_kept v w row page.1 fd 0 h.below h.open_end;
    many = h.many;
    inside = h.inside;
    small = h.small;
    kept = taken_kept h.taken done row page.0 h.kept;
  }

  abbrev writing_pipe_kept : (fd va len done : ℕ) → w.row ≡ v.row → SamePages v w → IsWritingPipe v k b fd va len done →
      IsWritingPipe w kernel_slot environment fd va len done
  writing_pipe_kept fd va len done row page h = record {
    bytes = h.bytes;
    is_in = in_kept _ _ h.is_in;
    below = h.below;
    open_end = end_kept v w row page.1 fd 1 h.below h.open_end;
    many = h.many;
    small = h.small;
    kept = taken_kept h.bytes (length h.bytes) row page.0 h.kept;
  }

  has_moved_kept : (s : Service) (done : ℕ) → w.row ≡ v.row → SamePages v w → HasMoved v k b s done → HasMoved w kernel_slot environment s done
  has_moved_kept (service.Read fd va len) done row page h = reading_pipe_kept fd va len done row page h
  has_moved_kept (service.Write fd va len) done row page h = writing_pipe_kept fd va len done row page h
  has_moved_kept _ done row page h = absurd h

  moved_below : (s : Service) (done : ℕ) → HasMoved v k b s done → end_given s < DESCRIPTORS
  moved_below (service.Read fd va len) done h = h.below
  moved_below (service.Write fd va len) done h = h.below
  moved_below _ done h = absurd h

  -- the descriptor of one that has moved bytes is that of an end
  end_of_pipe : (fd mode : ℕ) → IsEndOpen v fd mode → IsOfPipe v fd
  end_of_pipe fd mode h x is =
      ap (λ (e : Entry). device_of (v.bytes e.frame)) (same_Some x h.entry (sym is ∙ h.stands)) ∙ h.device

  moved_of_pipe : (s : Service) (done : ℕ) → HasMoved v k b s done → IsOfPipe v (end_given s)
  moved_of_pipe (service.Read fd va len) done h = end_of_pipe fd 0 h.open_end
  moved_of_pipe (service.Write fd va len) done h = end_of_pipe fd 1 h.open_end
  moved_of_pipe _ done h = absurd h

  moving_kept : (s : Service) (done : ℕ) → w.row ≡ v.row → SamePages v w → IsMoving v k b s done → IsMoving w kernel_slot environment s done
  moving_kept s done row page h = (has_moved_kept s done row page h.0, h.1)

  of_pipe_still : {says : List ℕ → Type 0} (s : Service) → end_given s < DESCRIPTORS → w.row ≡ v.row → SamePipes v w → OfPipe v s says → OfPipe w s says
  of_pipe_still s below row same h = at_pipe_kept (end_given s) below row (pipe_still (end_given s) same) (λ page so. so) h

  counted_kept : (fd : ℕ) {says : ℕ → ℕ → Type 0} → fd < DESCRIPTORS → IsOfPipe v fd → w.row ≡ v.row → SameCounts v w → AreCounted v fd says →
      AreCounted w fd says
  counted_kept fd {says = says} below of_end row counts h = record {
    entry = h.entry;
    page = h.page;
    stands = ap (λ (r : EntryRow). r (descriptor_page fd)) row ∙ h.stands;
    lies = ap (λ (r : EntryRow). r (pipe_page fd)) row ∙ h.lies;
    so = let both = counts fd h.entry h.page below h.stands h.lies (of_end h.entry h.stands) in
        subst (λ (n : ℕ). says n (w.counts h.page.frame)) (sym both.0)
        (subst (λ (n : ℕ). says (v.counts h.entry.frame) n) (sym both.1) h.so);
  }

  word_still : (p word : ℕ) → w.row ≡ v.row → HasEntryWord v p word → HasEntryWord w p word
  word_still p word row h = (h.0, ap (λ (r : EntryRow). r p) row ∙ h.1, h.2)

  tries_kept : (s : Service) (id read : ℕ) → end_given s < DESCRIPTORS → w.row ≡ v.row → TurnKept v w k status runs → TriesAgain v k s id read →
      TriesAgain w kernel_slot s id read
  tries_kept s zero read below row turn h = tt
  tries_kept s (suc id) read below row turn h = (h.0, told_still read turn (λ counts same so. of_pipe_still s below row same so) h.1)

  tried_kept : (id read : ℕ) → TurnKept v w k status runs → HasTried k id read → HasTried kernel_slot id read
  tried_kept zero read turn h = tt
  tried_kept (suc id) read turn h = (h.0, let later = turn.later in let before = h.1 in omega (arith, later, before))

  -- at a step of one of them
  held_loaded : (s : Service) (done from : ℕ) → w.row ≡ v.row → SamePages v w → SamePipe (end_given s) v w → StandsMoving v k b s (pipe.LoadingHeld done from) →
      StandsMoving w kernel_slot environment s (pipe.LoadingHeld done from)
  held_loaded (service.Read fd va len) done from row page same h =
      (moving_kept (service.Read fd va len) done row page h.0, at_pipe_kept fd h.0.0.below row same (λ page so. so) h.1)
  held_loaded _ done from row page same h = absurd h

  held_kept_there : (s : Service) (done from byte : ℕ) → w.row ≡ v.row → SamePages v w → SamePipe (end_given s) v w → StandsMoving v k b s (pipe.KeepingHeld done from byte) →
      StandsMoving w kernel_slot environment s (pipe.KeepingHeld done from byte)
  held_kept_there (service.Read fd va len) done from byte row page same h =
      (moving_kept (service.Read fd va len) done row page h.0, at_pipe_kept fd h.0.0.below row same (λ page so. so) h.1)
  held_kept_there _ done from byte row page same h = absurd h

  held_taken : (s : Service) (done from : ℕ) → w.row ≡ v.row → SamePages v w → SamePipe (end_given s) v w → StandsMoving v k b s (pipe.TakingHeld done from) →
      StandsMoving w kernel_slot environment s (pipe.TakingHeld done from)
  held_taken (service.Read fd va len) done from row page same h = (
    (reading_pipe_kept fd va len done row page h.0.0, h.0.1),
    at_pipe_kept fd h.0.0.below row same (λ bytes so. (so.0, so.1, taken_kept _ (suc done) row page.0 so.2)) h.1,
  )
  held_taken _ done from row page same h = absurd h

  end_unlocked : (s : Service) (done : ℕ) → w.row ≡ v.row → SamePages v w → SamePipe (end_given s) v w → StandsMoving v k b s (pipe.UnlockingEnd done) →
      StandsMoving w kernel_slot environment s (pipe.UnlockingEnd done)
  end_unlocked (service.Read fd va len) done row page same h =
      (handing_kept (service.Read fd va len) 0 done row page.0 h.0, h.1, end_kept v w row page.1 fd 0 h.1 h.2)
  end_unlocked _ done row page same h = absurd h

  own_loaded : (s : Service) (done to : ℕ) → w.row ≡ v.row → SamePages v w → SamePipe (end_given s) v w → StandsMoving v k b s (pipe.LoadingOwn done to) →
      StandsMoving w kernel_slot environment s (pipe.LoadingOwn done to)
  own_loaded (service.Write fd va len) done to row page same h =
      (moving_kept (service.Write fd va len) done row page h.0, at_pipe_kept fd h.0.0.below row same (λ page so. so) h.1)
  own_loaded _ done to row page same h = absurd h

  own_put : (s : Service) (done to byte : ℕ) → w.row ≡ v.row → SamePages v w → SamePipe (end_given s) v w → StandsMoving v k b s (pipe.PuttingOwn done to byte) →
      StandsMoving w kernel_slot environment s (pipe.PuttingOwn done to byte)
  own_put (service.Write fd va len) done to byte row page same h =
      ((writing_pipe_kept fd va len done row page h.0.0, h.0.1), h.1, at_pipe_kept fd h.0.0.below row same (λ page so. so) h.2)
  own_put _ done to byte row page same h = absurd h

  put_kept : (s : Service) (done to : ℕ) → w.row ≡ v.row → SamePages v w → SamePipe (end_given s) v w → StandsMoving v k b s (pipe.Putting done to) →
      StandsMoving w kernel_slot environment s (pipe.Putting done to)
  put_kept (service.Write fd va len) done to row page same h =
      ((writing_pipe_kept fd va len done row page h.0.0, h.0.1), at_pipe_kept fd h.0.0.below row same (λ page so. so) h.1)
  put_kept _ done to row page same h = absurd h

  -- read or write, which has taken its page, at a step of both
  module _ (s : Service) (row : w.row ≡ v.row) (page : SamePages v w) (turn : TurnKept v w k status runs) where
    both_kept : (done : ℕ) → IsMoving v k b s done → IsMoving w kernel_slot environment s done
    both_kept done h = moving_kept s done row page h

    tries_both : (done id read : ℕ) → IsMoving v k b s done × TriesAgain v k s id read →
        IsMoving w kernel_slot environment s done × TriesAgain w kernel_slot s id read
    tries_both done id read h = (both_kept done h.0, tries_kept s id read (moved_below s done h.0.0) row turn h.1)

    testing_kept : (done : ℕ) → IsTesting v k b s done → IsTesting w kernel_slot environment s done
    testing_kept done h = (has_moved_kept s done row page h.0, h.1, h.2)

    tested_both : (done id read : ℕ) {says after : Type 0} →
        (end_given s < DESCRIPTORS → IsOfPipe v (end_given s) → SameCounts v w → SamePipes v w → says → after) →
        IsTesting v k b s done × (id ≡ k.id) × Told k read says → IsTesting w kernel_slot environment s done × (id ≡ k.id) × Told kernel_slot read after
    tested_both done id read still h =
        (testing_kept done h.0, h.1, told_still read turn (still (moved_below s done h.0.0) (moved_of_pipe s done h.0.0)) h.2)

    is_still_both : {says : List ℕ → Type 0} → end_given s < DESCRIPTORS → IsOfPipe v (end_given s) → SameCounts v w → SamePipes v w → OfPipe v s says → OfPipe w s says
    is_still_both below of_end counts same so = of_pipe_still s below row same so

    counts_both : {says : List ℕ → Type 0} {counted : ℕ → ℕ → Type 0} → end_given s < DESCRIPTORS → IsOfPipe v (end_given s) →
        SameCounts v w → SamePipes v w →
        OfPipe v s says × AreCounted v (end_given s) counted → OfPipe w s says × AreCounted w (end_given s) counted
    counts_both below of_end counts same so = (of_pipe_still s below row same so.0, counted_kept (end_given s) below of_end row counts so.1)

    moves_kept : (at : PipeStep) → (holds_lock at ≡ true → SamePipe (end_given s) v w) → StandsMoving v k b s at →
        StandsMoving w kernel_slot environment s at
    moves_kept (pipe.Locking done id read) same h = tries_both done id read h
    moves_kept (pipe.LockPausing done) same h = both_kept done h
    moves_kept (pipe.ReadFrom done id read) same h = tries_both done id read h
    moves_kept (pipe.ReadTo done id read from) same h =
        let tries = tries_both done id read (h.0, h.1) in (tries.0, tries.1, at_pipe_kept (end_given s) (moved_below s done h.0.0) row (same refl) (λ page so. so) h.2)
    moves_kept (pipe.UnlockingMoved done) same h = (has_moved_kept s done row page h.0, h.1, h.2)
    moves_kept (pipe.UnlockingTest done id read) same h = (testing_kept done h.0, tried_kept id read turn h.1)
    moves_kept (pipe.TestIdentifying done) same h = testing_kept done h
    moves_kept (pipe.TestRuns done id) same h = (testing_kept done h.0, h.1)
    moves_kept (pipe.TestAgain done id read) same h =
        (testing_kept done h.0, h.1, let was = h.2 in let later = turn.later in omega (arith, was, later))
    moves_kept (pipe.TestOwn done id read) same h =
        (testing_kept done h.0, h.1, let was = h.2 in let later = turn.later in omega (arith, was, later))
    moves_kept (pipe.TestOther done id read word) same h = tested_both done id read is_still_both h
    moves_kept (pipe.TestDescriptor done id read) same h = tested_both done id read is_still_both h
    moves_kept (pipe.TestDescriptorCount done id read word) same h =
        let tested = tested_both done id read is_still_both (h.0, h.1, h.3) in (tested.0, tested.1, word_still _ word row h.2, tested.2)
    moves_kept (pipe.TestPipe done id read count) same h = tested_both done id read counts_both h
    moves_kept (pipe.TestPipeCount done id read count word) same h =
        let tested = tested_both done id read counts_both (h.0, h.1, h.3) in (tested.0, tested.1, word_still _ word row h.2, tested.2)
    moves_kept (pipe.TestRunsAgain done id read closed) same h = tested_both done id read counts_both h
    moves_kept (pipe.TestPausing done) same h = both_kept done h
    moves_kept (pipe.LoadingHeld done from) same h = held_loaded s done from row page (same refl) h
    moves_kept (pipe.KeepingHeld done from byte) same h = held_kept_there s done from byte row page (same refl) h
    moves_kept (pipe.TakingHeld done from) same h = held_taken s done from row page (same refl) h
    moves_kept (pipe.UnlockingEnd done) same h = end_unlocked s done row page (same refl) h
    moves_kept (pipe.LoadingOwn done to) same h = own_loaded s done to row page (same refl) h
    moves_kept (pipe.PuttingOwn done to byte) same h = own_put s done to byte row page (same refl) h
    moves_kept (pipe.Putting done to) same h = put_kept s done to row page (same refl) h
    moves_kept _ same h = absurd h

  -- the pages that service pipe makes

  no_page_kept : (p : ℕ) → w.row ≡ v.row → HasNone v p → HasNone w p
  no_page_kept p row h = ap (λ (r : EntryRow). r p) row ∙ h

  tells_end_kept : (fd device mode : ℕ) → fd < DESCRIPTORS → w.row ≡ v.row → SamePages v w → TellsEnd v fd device mode → TellsEnd w fd device mode
  tells_end_kept fd device mode below row page h = record {
    entry = h.entry;
    stands = ap (λ (r : EntryRow). r (descriptor_page fd)) row ∙ h.stands;
    device_is = ap told_device (told_kept v w row page.1 fd below h.entry h.stands) ∙ h.device_is;
    mode_is = ap told_mode (told_kept v w row page.1 fd below h.entry h.stands) ∙ h.mode_is;
  }

  abbrev maps_pipe : PipeStep → Bool
  maps_pipe (pipe.MappingPipe _ _) = true
  maps_pipe _ = false

  module _ (first second : ℕ) (below : first < DESCRIPTORS) (too : second < DESCRIPTORS) (row : w.row ≡ v.row) (page : SamePages v w) where
    first_kept : (device mode : ℕ) → TellsEnd v first device mode → TellsEnd w first device mode
    first_kept device mode h = tells_end_kept first device mode below row page h

    second_kept : (device mode : ℕ) → TellsEnd v second device mode → TellsEnd w second device mode
    second_kept device mode h = tells_end_kept second device mode too row page h

    makes_kept : (at : PipeStep) → (maps_pipe at ≡ true → SamePipe first v w) → MakesSoFar at v first second → MakesSoFar at w first second
    makes_kept (pipe.TakingReading _ _) held h = (no_page_kept _ row h.0, no_page_kept _ row h.1, no_page_kept _ row h.2)
    makes_kept (pipe.StoringReading _ _) held h = (first_kept _ _ h.0, no_page_kept _ row h.1, no_page_kept _ row h.2)
    makes_kept (pipe.TakingWriting _ _) held h = (first_kept _ _ h.0, no_page_kept _ row h.1, no_page_kept _ row h.2)
    makes_kept (pipe.StoringWriting _ _) held h = (first_kept _ _ h.0, second_kept _ _ h.1, no_page_kept _ row h.2)
    makes_kept (pipe.StoringEndMode _ _) held h = (first_kept _ _ h.0, second_kept _ _ h.1, no_page_kept _ row h.2)
    makes_kept (pipe.TakingPipe _ _) held h = (first_kept _ _ h.0, second_kept _ _ h.1, no_page_kept _ row h.2)
    makes_kept (pipe.MappingPipe _ _) held h = (first_kept _ _ h.0, second_kept _ _ h.1, at_pipe_kept first below row (held refl) (λ page so. so) h.2)
    makes_kept _ held h = absurd h

  lowest_both_kept : (first second : ℕ) → w.row ≡ v.row → AreLowestFree v.row first second → AreLowestFree w.row first second
  lowest_both_kept first second row h = subst (λ (r : EntryRow). AreLowestFree r first second) (sym row) h

  making_kept : (at : PipeStep) (first second : ℕ) → w.row ≡ v.row → SamePages v w →
      (MakesSoFar at v first second → MakesSoFar at w first second) → IsMakingPipe v k b at first second →
      IsMakingPipe w kernel_slot environment at first second
  making_kept at first second row page so_far h = record {
    is_in = in_kept _ _ h.is_in;
    lowest = lowest_both_kept first second row h.lowest;
    so_far = so_far h.so_far;
    none = no_page_kept _ row h.none;
  }

  module _ (at : PipeStep) (first second : ℕ) (row : w.row ≡ v.row) (page : SamePages v w) (h : IsMakingPipe v k b at first second) where
    made_kept : ((below : first < DESCRIPTORS) → (too : second < DESCRIPTORS) → MakesSoFar at v first second → MakesSoFar at w first second) →
        IsMakingPipe w kernel_slot environment at first second
    made_kept so_far =
        let order = h.lowest.order in let too = h.lowest.below in
        making_kept at first second row page (so_far (omega (arith, order, too)) too) h

  on_pipe_kept : (s : Service) (at : PipeStep) → w.row ≡ v.row → SamePages v w → (holds_lock at ≡ true → SamePipe (end_given s) v w) →
      TurnKept v w k status runs → StandsOnPipe v k b s at → StandsOnPipe w kernel_slot environment s at
  on_pipe_kept s pipe.EndMode row page same turn h = (h.0, at_end_kept s h.0 row page h.1)
    where
      at_end_kept : (s : Service) (mode : ℕ) → w.row ≡ v.row → SamePages v w → IsAtEnd v k b s mode → IsAtEnd w kernel_slot environment s mode
      at_end_kept s mode row page h =
          record { is_in = in_kept _ _ h.is_in; below = h.below; open_end = end_kept v w row page.1 (end_given s) mode h.below h.open_end }
  on_pipe_kept s pipe.TakingBytes row page same turn h = (
    record { is_in = in_kept _ _ h.0.is_in; below = h.0.below; open_end = end_kept v w row page.1 (end_given s) _ h.0.below h.0.open_end },
    h.1,
    h.2,
  )
  on_pipe_kept s at row page same turn h = moves_kept s row page turn at same h

  held_kept : (fd : ℕ) (at : PipeStep) → KeepsPipe (if holds_lock at then Some fd else None) v w → holds_lock at ≡ true → SamePipe fd v w
  held_kept fd at held is = subst (λ (c : Bool). KeepsPipe (if c then Some fd else None) v w) is held

  telling_pipe_kept : (fd va : ℕ) → w.row ≡ v.row → SamePages v w → TellsPipe v k b fd va → TellsPipe w kernel_slot environment fd va
  telling_pipe_kept fd va row page h = (
    h.0,
    record {
      is_in = in_kept _ _ h.1.is_in;
      below = h.1.below;
      open_end = end_kept v w row page.1 fd h.0 h.1.below h.1.open_end;
      inside = h.1.inside;
    },
  )

  exiting_kept : (fd : ℕ) → w.row ≡ v.row → ((r : ℕ) → v.tables r ≡ true → w.tables r ≡ true) → IsExiting v k b fd →
      IsExiting w kernel_slot environment fd
  exiting_kept fd row tables h =
      record { is_in = in_kept _ _ h.is_in; below = h.below; lower = none_kept fd row h.lower; table = tables (region_index FDTABLE) h.table }

  dupping_kept : (old new : ℕ) → w.row ≡ v.row → ((r : ℕ) → v.tables r ≡ true → w.tables r ≡ true) → IsDupping v k b old new →
      IsDupping w kernel_slot environment old new
  dupping_kept old new row tables h =
      record { is_in = in_kept _ _ h.is_in; duplicating = duplicating_kept old new row h.duplicating; table = tables (region_index FDTABLE) h.table }

  has_page_kept : (fd : ℕ) → w.row ≡ v.row → HasPipePage v.row fd → HasPipePage w.row fd
  has_page_kept fd row h = subst (λ (r : EntryRow). HasPipePage r fd) (sym row) h

  piped_kept : (s : Service) (at : PipeStep) → w.row ≡ v.row → ((r : ℕ) → v.tables r ≡ true → w.tables r ≡ true) → SamePages v w →
      KeepsPipe (pipe_minded_at s at) v w → (moves_bytes s ≡ true → TurnKept v w k status runs) → StandsAtPipe v k b s at →
      StandsAtPipe w kernel_slot environment s at
  piped_kept service.Pipe (pipe.SecondEntry first fd) row tables page held turn h = record {
    is_in = in_kept _ _ h.is_in;
    lowest = lowest_kept first row h.lowest;
    order = h.order;
    below = h.below;
    between = λ other below ne. open_kept other row (h.between other below ne);
    table = tables (region_index FDTABLE) h.table;
  }
  piped_kept service.Pipe (pipe.TakingReading first second) row tables page held turn h =
      made_kept _ first second row page h (λ below too. makes_kept first second below too row page (pipe.TakingReading first second) (λ is. absurd (let contradiction : false ≡ true = is in cc)))
  piped_kept service.Pipe (pipe.StoringReading first second) row tables page held turn h =
      made_kept _ first second row page h (λ below too. makes_kept first second below too row page (pipe.StoringReading first second) (λ is. absurd (let contradiction : false ≡ true = is in cc)))
  piped_kept service.Pipe (pipe.TakingWriting first second) row tables page held turn h =
      made_kept _ first second row page h (λ below too. makes_kept first second below too row page (pipe.TakingWriting first second) (λ is. absurd (let contradiction : false ≡ true = is in cc)))
  piped_kept service.Pipe (pipe.StoringWriting first second) row tables page held turn h =
      made_kept _ first second row page h (λ below too. makes_kept first second below too row page (pipe.StoringWriting first second) (λ is. absurd (let contradiction : false ≡ true = is in cc)))
  piped_kept service.Pipe (pipe.StoringEndMode first second) row tables page held turn h =
      made_kept _ first second row page h (λ below too. makes_kept first second below too row page (pipe.StoringEndMode first second) (λ is. absurd (let contradiction : false ≡ true = is in cc)))
  piped_kept service.Pipe (pipe.TakingPipe first second) row tables page held turn h =
      made_kept _ first second row page h (λ below too. makes_kept first second below too row page (pipe.TakingPipe first second) (λ is. absurd (let contradiction : false ≡ true = is in cc)))
  piped_kept service.Pipe (pipe.MappingPipe first second) row tables page held turn h =
      made_kept _ first second row page h
      (λ below too. makes_kept first second below too row page (pipe.MappingPipe first second) (λ is. held))
  piped_kept (service.Read fd va len) at row tables page held turn h =
      on_pipe_kept (service.Read fd va len) at row page (held_kept fd at held) (turn refl) h
  piped_kept (service.Write fd va len) at row tables page held turn h =
      on_pipe_kept (service.Write fd va len) at row page (held_kept fd at held) (turn refl) h
  piped_kept (service.Stat fd va) pipe.StatLocking row tables page held turn h = telling_pipe_kept fd va row page h
  piped_kept (service.Stat fd va) pipe.StatPausing row tables page held turn h = telling_pipe_kept fd va row page h
  piped_kept (service.Stat fd va) pipe.StatFrom row tables page held turn h = telling_pipe_kept fd va row page h
  piped_kept (service.Stat fd va) (pipe.StatTo from) row tables page held turn h =
      (telling_pipe_kept fd va row page h.0, at_pipe_kept fd h.0.1.below row held (λ page so. so) h.1)
  piped_kept (service.Stat fd va) (pipe.StatUnlocking held_bytes) row tables page held turn h =
      (delivery_kept (service.Stat fd va) 0 (suc held_bytes) h.0, h.1, (h.2.0, h.2.1, end_kept v w row page.1 fd h.2.0 h.2.1 h.2.2))
  piped_kept (service.Close fd) (pipe.PipeEntry at) row tables page held turn h = (in_kept _ _ h.0, h.1, h.2, open_kept fd row h.3)
  piped_kept (service.Close fd) (pipe.DroppingEnd at) row tables page held turn h =
      (in_kept _ _ h.0, h.1, h.2, open_kept fd row h.3, has_page_kept fd row h.4)
  piped_kept (service.Close fd) (pipe.DroppingPipe at) row tables page held turn h =
      (in_kept _ _ h.0, h.1, h.2, no_page_kept _ row h.3, has_page_kept fd row h.4)
  piped_kept service.Exit (pipe.PipeEntry fd) row tables page held turn h = (exiting_kept fd row tables h.0, open_kept fd row h.1)
  piped_kept service.Exit (pipe.DroppingEnd fd) row tables page held turn h =
      (exiting_kept fd row tables h.0, open_kept fd row h.1, has_page_kept fd row h.2)
  piped_kept service.Exit (pipe.DroppingPipe fd) row tables page held turn h =
      (exiting_kept fd row tables h.0, no_page_kept _ row h.1, has_page_kept fd row h.2)
  piped_kept (service.Dup old new) (pipe.PipeEntry at) row tables page held turn h = (dupping_kept old new row tables h.0, h.1, open_kept new row h.2)
  piped_kept (service.Dup old new) (pipe.DroppingEnd at) row tables page held turn h =
      (dupping_kept old new row tables h.0, h.1, open_kept new row h.2, has_page_kept new row h.3)
  piped_kept (service.Dup old new) (pipe.DroppingPipe at) row tables page held turn h =
      (dupping_kept old new row tables h.0, h.1, no_page_kept _ row h.2, has_page_kept new row h.3)
  piped_kept (service.Dup old new) pipe.SourcePipe row tables page held turn h =
      (dupping_kept old new row tables h.0, no_page_kept _ row h.1, no_page_kept _ row h.2)
  piped_kept (service.Dup old new) pipe.MappingEnd row tables page held turn h =
      (dupping_kept old new row tables h.0, no_page_kept _ row h.1, no_page_kept _ row h.2, has_page_kept old row h.3)
  piped_kept _ _ row tables page held turn h = absurd h

  step_kept : (s : Service) (stands : Step) → KeepsRow (minds_page (place.InService s stands)) v.row w.row →
      KeepsTables (minds_page (place.InService s stands)) v.tables w.tables → KeepsPage (minds_page (place.InService s stands)) v w →
      KeepsPipe (pipe_minded (place.InService s stands)) v w → (is_piped (place.InService s stands) ≡ true → TurnKept v w k status runs) →
      StandsAtStep v k b s stands → StandsAtStep w kernel_slot environment s stands
  step_kept s step.Entered row tables taken held turn h = in_kept _ _ h
  step_kept s step.ReadingDevice row tables taken held turn h = device_kept s (descriptor_given s) (row (device_minds s step.ReadingDevice h)) h
  step_kept s (step.BufferRegion done word) row tables taken held turn h =
      let minds = before_minds _ s (step.BufferRegion done word) done word h in
      before_kept (λ so. so) s done word (row minds) (taken minds) h
  step_kept s (step.BufferEntry done word) row tables taken held turn h =
      let minds = before_minds _ s (step.BufferEntry done word) done word h in
      before_kept (λ so. tables minds (region_index (buffer_of s + done)) so) s done word (row minds) (taken minds) h
  step_kept s (step.Faulting done word) row tables taken held turn h =
      let minds = before_minds _ s (step.Faulting done word) done word h in
      before_kept (λ so. ap (λ (r : EntryRow). refuses_next r s done) (row minds) ∙ so) s done word (row minds) (taken minds) h
  step_kept s (step.CountingReply id) row tables taken held turn h =
      let minds = hands_minds s h.hands (step.CountingReply id) in counting_kept s id (row minds) (taken minds).0 h
  step_kept s (step.FileRegion done count) row tables taken held turn h =
      let minds = hands_minds s h.hands (step.FileRegion done count) in handing_kept s done count (row minds) (taken minds).0 h
  step_kept s (step.FileEntry done count) row tables taken held turn h =
      let minds = hands_minds s h.0.hands (step.FileEntry done count) in
      (handing_kept s done count (row minds) (taken minds).0 h.0, tables minds (region_index (buffer_of s + done)) h.1)
  step_kept s (step.LoadingBytes done count) row tables taken held turn h =
      let minds = hands_minds s h.has.hands (step.LoadingBytes done count) in loading_kept s done count (row minds) (taken minds).0 h
  step_kept s (step.LoadingRest done count first) row tables taken held turn h =
      let minds = hands_minds s h.has.hands (step.LoadingRest done count first) in rest_kept s done count first (row minds) (taken minds).0 h
  step_kept s (step.PuttingBytes done count word) row tables taken held turn h =
      let minds = hands_minds s h.has.hands (step.PuttingBytes done count word) in putting_bytes_kept s done count word (row minds) (taken minds).0 h
  step_kept s (step.FileFaulting done count) row tables taken held turn h =
      let minds = hands_minds s h.0.hands (step.FileFaulting done count) in
      (handing_kept s done count (row minds) (taken minds).0 h.0, ap (λ (r : EntryRow). refuses_next r s done) (row minds) ∙ h.1)
  step_kept s (step.Returning answer) row tables taken held turn h =
      record { goes = h.goes; program = h.program; phase = h.phase; silent = h.silent; awake = h.awake }
  step_kept (service.Read fd va len) (step.Delivering done word) row tables taken held turn h = putting_kept (service.Read fd va len) done word (row refl) h
  step_kept (service.Stat fd va) (step.Delivering done word) row tables taken held turn h = putting_kept (service.Stat fd va) done word (row refl) h
  step_kept (service.Read fd va len) (step.DescriptorEntry at) row tables taken held turn h = looking_up_kept _ at fd (tables refl) h
  step_kept (service.Write fd va len) (step.DescriptorEntry at) row tables taken held turn h = looking_up_kept _ at fd (tables refl) h
  step_kept (service.Seek fd offset) (step.DescriptorEntry at) row tables taken held turn h = looking_up_kept _ at fd (tables refl) h
  step_kept (service.Stat fd va) (step.DescriptorEntry at) row tables taken held turn h = looking_up_kept _ at fd (tables refl) h
  step_kept (service.SetSize fd size) (step.DescriptorEntry at) row tables taken held turn h = looking_up_kept _ at fd (tables refl) h
  step_kept (service.Read fd va len) step.Getting row tables taken held turn h =
      record { is_in = in_kept _ _ h.is_in; given = given_kept v w (row refl) (taken refl).1 fd va len h.given; some = h.some }
  step_kept (service.Write fd va len) step.TakingPage row tables taken held turn h =
      (in_kept _ _ h.0, given_kept v w (row refl) (taken refl).1 fd va len h.1, h.2)
  step_kept (service.Write fd va len) (step.GatheringBytes done start) row tables taken held turn h = (
    taking_kept fd va len start done (row refl) (taken refl) h.0,
    ap (λ (r : EntryRow). refuses_next r (service.Write fd va len) done) (row refl) ∙ h.1,
  )
  step_kept (service.Write fd va len) (step.KeepingBytes done word left start) row tables taken held turn h =
      keeping_kept fd va len start done word left (row refl) (taken refl) h
  step_kept (service.Write fd va len) step.ReadingMode row tables taken held turn h =
      of_file_kept (service.Write fd va len) entered fd (row refl) (taken refl) h
  step_kept (service.Write fd va len) step.TakingRequest row tables taken held turn h =
      (in_kept _ _ h.0, given_bytes_kept v w (row refl) (taken refl).1 fd va len REQUEST_BYTES h.1)
  step_kept (service.Write fd va len) step.ReadingNumber row tables taken held turn h =
      asks_of_file_kept (service.Write fd va len) fd (row refl) (taken refl) h
  step_kept (service.Write fd va len) (step.StoringNumber number) row tables taken held turn h =
      has_number_kept (service.Write fd va len) fd number (row refl) (taken refl) h
  step_kept (service.Write fd va len) step.StoringCount row tables taken held turn h =
      tells_number_kept (service.Write fd va len) fd (row refl) (taken refl) h
  step_kept (service.Write fd va len) step.Identifying row tables taken held turn h =
      tells_of_file_kept (service.Write fd va len) fd (row refl) (taken refl) h
  step_kept (service.Write fd va len) (step.Asking id) row tables taken held turn h =
      (h.0, tells_of_file_kept (service.Write fd va len) fd (row refl) (taken refl) h.1)
  step_kept (service.Write fd va len) (step.Pausing id) row tables taken held turn h =
      (h.0, tells_of_file_kept (service.Write fd va len) fd (row refl) (taken refl) h.1)
  step_kept (service.Write fd va len) (step.Awaiting id) row tables taken held turn h = (h.0, asked_kept (service.Write fd va len) h.1)
  step_kept (service.Write fd va len) (step.Clearing id) row tables taken held turn h = (h.0, awaits_kept (service.Write fd va len) h.1)
  step_kept (service.Write fd va len) (step.ReadingReply id) row tables taken held turn h = (h.0, reply_kept (service.Write fd va len) h.1)
  step_kept (service.Write fd va len) step.Printing row tables taken held turn h = printing_kept fd va len (row refl) (taken refl) h
  step_kept (service.Write fd va len) step.Releasing row tables taken held turn h =
      record { program = h.program; phase = h.phase; silent = h.silent; awake = h.awake }
  step_kept (service.Remove path) step.TakingPage row tables taken held turn h = (in_kept _ _ h.0, h.1)
  step_kept (service.Remove path) (step.Gathering done) row tables taken held turn h =
      gathering_path_kept (may_follow path done) (service.Remove path) done (row refl) (taken refl) h
  step_kept (service.Remove path) (step.Keeping done word left) row tables taken held turn h =
      keeping_path_kept (service.Remove path) done word left (row refl) (taken refl) h
  step_kept (service.Remove path) step.Identifying row tables taken held turn h = whole_path_kept (service.Remove path) (row refl) (taken refl) h
  step_kept (service.Remove path) (step.Asking id) row tables taken held turn h = (h.0, whole_path_kept (service.Remove path) (row refl) (taken refl) h.1)
  step_kept (service.Remove path) (step.Pausing id) row tables taken held turn h = (h.0, whole_path_kept (service.Remove path) (row refl) (taken refl) h.1)
  step_kept (service.Remove path) (step.Awaiting id) row tables taken held turn h = (h.0, asked_kept (service.Remove path) h.1)
  step_kept (service.Remove path) (step.Clearing id) row tables taken held turn h = (h.0, awaits_kept (service.Remove path) h.1)
  step_kept (service.Remove path) (step.ReadingReply id) row tables taken held turn h = (h.0, reply_kept (service.Remove path) h.1)
  step_kept (service.OpenFile path mode) step.TakingPage row tables taken held turn h = (in_kept _ _ h.0, h.1, h.2)
  step_kept (service.OpenFile path mode) (step.Gathering done) row tables taken held turn h =
      gathering_path_kept (may_follow path done) (service.OpenFile path mode) done (row refl) (taken refl) h
  step_kept (service.OpenFile path mode) (step.Keeping done word left) row tables taken held turn h =
      keeping_path_kept (service.OpenFile path mode) done word left (row refl) (taken refl) h
  step_kept (service.OpenFile path mode) step.FreeRegion row tables taken held turn h = whole_path_kept (service.OpenFile path mode) (row refl) (taken refl) h
  step_kept (service.OpenFile path mode) (step.FreeEntry fd) row tables taken held turn h =
      looking_for_kept (service.OpenFile path mode) fd (row refl) (tables refl) (taken refl) h
  step_kept (service.OpenFile path mode) (step.StoringMode fd) row tables taken held turn h = found_free_kept (service.OpenFile path mode) fd (row refl) (taken refl) h
  step_kept (service.OpenFile path mode) (step.OpenIdentifying fd) row tables taken held turn h =
      (lowest_kept fd (row refl) h.0, tells_open_kept (service.OpenFile path mode) mode (row refl) (taken refl) h.1)
  step_kept (service.OpenFile path mode) (step.OpenAsking id fd) row tables taken held turn h =
      (h.0, lowest_kept fd (row refl) h.1, tells_open_kept (service.OpenFile path mode) mode (row refl) (taken refl) h.2)
  step_kept (service.OpenFile path mode) (step.OpenPausing id fd) row tables taken held turn h =
      (h.0, lowest_kept fd (row refl) h.1, tells_open_kept (service.OpenFile path mode) mode (row refl) (taken refl) h.2)
  step_kept (service.OpenFile path mode) (step.OpenAwaiting id fd) row tables taken held turn h =
      (h.0, lowest_kept fd (row refl) h.1, asked_kept (service.OpenFile path mode) h.2)
  step_kept (service.OpenFile path mode) (step.OpenClearing id fd) row tables taken held turn h = (h.0, awaits_file_kept (service.OpenFile path mode) fd (row refl) h.1)
  step_kept (service.OpenFile path mode) (step.ReadingOpened id fd) row tables taken held turn h = (h.0, opened_kept (service.OpenFile path mode) fd h.1)
  step_kept (service.Seek fd offset) step.TakingPage row tables taken held turn h = asks_of_file_kept (service.Seek fd offset) fd (row refl) (taken refl) h
  step_kept (service.Seek fd offset) step.ReadingNumber row tables taken held turn h = asks_of_file_kept (service.Seek fd offset) fd (row refl) (taken refl) h
  step_kept (service.Seek fd offset) (step.StoringNumber number) row tables taken held turn h = has_number_kept (service.Seek fd offset) fd number (row refl) (taken refl) h
  step_kept (service.Seek fd offset) step.StoringCount row tables taken held turn h = tells_number_kept (service.Seek fd offset) fd (row refl) (taken refl) h
  step_kept (service.Seek fd offset) step.Identifying row tables taken held turn h = tells_of_file_kept (service.Seek fd offset) fd (row refl) (taken refl) h
  step_kept (service.Seek fd offset) (step.Asking id) row tables taken held turn h = (h.0, tells_of_file_kept (service.Seek fd offset) fd (row refl) (taken refl) h.1)
  step_kept (service.Seek fd offset) (step.Pausing id) row tables taken held turn h = (h.0, tells_of_file_kept (service.Seek fd offset) fd (row refl) (taken refl) h.1)
  step_kept (service.Seek fd offset) (step.Awaiting id) row tables taken held turn h = (h.0, asked_kept (service.Seek fd offset) h.1)
  step_kept (service.Seek fd offset) (step.Clearing id) row tables taken held turn h = (h.0, awaits_kept (service.Seek fd offset) h.1)
  step_kept (service.Seek fd offset) (step.ReadingReply id) row tables taken held turn h = (h.0, reply_kept (service.Seek fd offset) h.1)
  step_kept (service.SetSize fd size) step.ReadingMode row tables taken held turn h = of_file_kept (service.SetSize fd size) entered fd (row refl) (taken refl) h
  step_kept (service.SetSize fd size) step.TakingPage row tables taken held turn h = asks_of_file_kept (service.SetSize fd size) fd (row refl) (taken refl) h
  step_kept (service.SetSize fd size) step.ReadingNumber row tables taken held turn h = asks_of_file_kept (service.SetSize fd size) fd (row refl) (taken refl) h
  step_kept (service.SetSize fd size) (step.StoringNumber number) row tables taken held turn h = has_number_kept (service.SetSize fd size) fd number (row refl) (taken refl) h
  step_kept (service.SetSize fd size) step.StoringCount row tables taken held turn h = tells_number_kept (service.SetSize fd size) fd (row refl) (taken refl) h
  step_kept (service.SetSize fd size) step.Identifying row tables taken held turn h = tells_of_file_kept (service.SetSize fd size) fd (row refl) (taken refl) h
  step_kept (service.SetSize fd size) (step.Asking id) row tables taken held turn h = (h.0, tells_of_file_kept (service.SetSize fd size) fd (row refl) (taken refl) h.1)
  step_kept (service.SetSize fd size) (step.Pausing id) row tables taken held turn h = (h.0, tells_of_file_kept (service.SetSize fd size) fd (row refl) (taken refl) h.1)
  step_kept (service.SetSize fd size) (step.Awaiting id) row tables taken held turn h = (h.0, asked_kept (service.SetSize fd size) h.1)
  step_kept (service.SetSize fd size) (step.Clearing id) row tables taken held turn h = (h.0, awaits_kept (service.SetSize fd size) h.1)
  step_kept (service.SetSize fd size) (step.ReadingReply id) row tables taken held turn h = (h.0, reply_kept (service.SetSize fd size) h.1)
  step_kept (service.Read fd va len) step.ReadingMode row tables taken held turn h = of_file_kept (service.Read fd va len) entered fd (row refl) (taken refl) h
  step_kept (service.Read fd va len) step.TakingPage row tables taken held turn h = asks_of_file_kept (service.Read fd va len) fd (row refl) (taken refl) h
  step_kept (service.Read fd va len) step.ReadingNumber row tables taken held turn h = asks_of_file_kept (service.Read fd va len) fd (row refl) (taken refl) h
  step_kept (service.Read fd va len) (step.StoringNumber number) row tables taken held turn h = has_number_kept (service.Read fd va len) fd number (row refl) (taken refl) h
  step_kept (service.Read fd va len) step.StoringCount row tables taken held turn h = tells_number_kept (service.Read fd va len) fd (row refl) (taken refl) h
  step_kept (service.Read fd va len) step.Identifying row tables taken held turn h = tells_of_file_kept (service.Read fd va len) fd (row refl) (taken refl) h
  step_kept (service.Read fd va len) (step.Asking id) row tables taken held turn h = (h.0, tells_of_file_kept (service.Read fd va len) fd (row refl) (taken refl) h.1)
  step_kept (service.Read fd va len) (step.Pausing id) row tables taken held turn h = (h.0, tells_of_file_kept (service.Read fd va len) fd (row refl) (taken refl) h.1)
  step_kept (service.Read fd va len) (step.Awaiting id) row tables taken held turn h = (h.0, asked_kept (service.Read fd va len) h.1, h.2)
  step_kept (service.Read fd va len) (step.Clearing id) row tables taken held turn h = (h.0, reply_kept (service.Read fd va len) h.1)
  step_kept (service.Read fd va len) (step.ReadingReply id) row tables taken held turn h = (h.0, reply_kept (service.Read fd va len) h.1)
  step_kept (service.Stat fd va) step.TakingPage row tables taken held turn h = asks_of_file_kept (service.Stat fd va) fd (row refl) (taken refl) h
  step_kept (service.Stat fd va) step.ReadingNumber row tables taken held turn h = asks_of_file_kept (service.Stat fd va) fd (row refl) (taken refl) h
  step_kept (service.Stat fd va) (step.StoringNumber number) row tables taken held turn h = has_number_kept (service.Stat fd va) fd number (row refl) (taken refl) h
  step_kept (service.Stat fd va) step.StoringCount row tables taken held turn h = tells_number_kept (service.Stat fd va) fd (row refl) (taken refl) h
  step_kept (service.Stat fd va) step.Identifying row tables taken held turn h = tells_of_file_kept (service.Stat fd va) fd (row refl) (taken refl) h
  step_kept (service.Stat fd va) (step.Asking id) row tables taken held turn h = (h.0, tells_of_file_kept (service.Stat fd va) fd (row refl) (taken refl) h.1)
  step_kept (service.Stat fd va) (step.Pausing id) row tables taken held turn h = (h.0, tells_of_file_kept (service.Stat fd va) fd (row refl) (taken refl) h.1)
  step_kept (service.Stat fd va) (step.Awaiting id) row tables taken held turn h = (h.0, asked_kept (service.Stat fd va) h.1, h.2)
  step_kept (service.Stat fd va) (step.Clearing id) row tables taken held turn h = (h.0, reply_kept (service.Stat fd va) h.1)
  step_kept (service.Stat fd va) (step.ReadingReply id) row tables taken held turn h = (h.0, reply_kept (service.Stat fd va) h.1)
  step_kept (service.Wait id) (step.Trying perm) row tables taken held turn h = waiting_kept id h
  step_kept (service.Wait id) (step.Pausing perm) row tables taken held turn h = waiting_kept id h
  step_kept (service.Send id value va) (step.Trying perm) row tables taken held turn h = trying_kept id value va perm (row refl) h
  step_kept (service.Send id value va) (step.Pausing perm) row tables taken held turn h = trying_kept id value va perm (row refl) h
  step_kept (service.Send id value va) step.ReadingRegion row tables taken held turn h = looking_kept id value va h
  step_kept (service.Send id value va) step.ReadingEntry row tables taken held turn h = (looking_kept id value va h.0, tables refl (page_number va / NPTENTRIES) h.1)
  step_kept (service.Receive va from) (step.Receiving id) row tables taken held turn h = about_kept va from id h
  step_kept (service.Receive va from) (step.ReadingValue id) row tables taken held turn h = (h.0, waits_kept va from h.1)
  step_kept (service.Receive va from) (step.ReadingSender id value) row tables taken held turn h = (h.0, h.1, received_kept va from h.2)
  step_kept (service.Receive va from) (step.ReadingPerm id value sender) row tables taken held turn h = (h.0, h.1, h.2, received_kept va from h.3)
  step_kept service.Sync (step.Asking id) row tables taken held turn h = (h.0, in_kept _ _ h.1)
  step_kept service.Sync (step.Pausing id) row tables taken held turn h = (h.0, in_kept _ _ h.1)
  step_kept service.Sync (step.Awaiting id) row tables taken held turn h = (h.0, asked_kept service.Sync h.1)
  step_kept service.Sync (step.ReadingReply id) row tables taken held turn h = (h.0, awaits_kept service.Sync h.1)
  step_kept service.Fork (step.ForkRegion id region) row tables taken held turn h = (in_kept _ _ h.0, h.1)
  step_kept service.Fork (step.ForkEntry id page) row tables taken held turn h = (in_kept _ _ h.0, h.1, tables refl (page / NPTENTRIES) h.2)
  step_kept service.Fork (step.MapChild id page perm) row tables taken held turn h = (in_kept _ _ h.0, mapping_kept page perm (row refl) h.1)
  step_kept service.Fork (step.Remap id page) row tables taken held turn h = (in_kept _ _ h.0, remapping_kept page (row refl) h.1)
  step_kept service.Fork (step.ChildStack id) row tables taken held turn h = in_kept _ _ h
  step_kept service.Fork (step.ChildUpcall id) row tables taken held turn h = in_kept _ _ h
  step_kept service.Fork (step.ChildRuns id) row tables taken held turn h = in_kept _ _ h
  step_kept service.Exit (step.DescriptorEntry fd) row tables taken held turn h =
      (in_kept _ _ h.0, h.1, none_kept fd (row refl) h.2, tables refl (region_index FDTABLE) h.3)
  step_kept service.Exit (step.DroppingDescriptor fd) row tables taken held turn h = (
    in_kept _ _ h.0,
    h.1,
    none_kept fd (row refl) h.2,
    tables refl (region_index FDTABLE) h.3,
    open_kept fd (row refl) h.4,
    ap (λ (r : EntryRow). r (pipe_page fd)) (row refl) ∙ h.5,
  )
  step_kept service.Exit step.Ending row tables taken held turn h = (in_kept _ _ h.0, none_kept DESCRIPTORS (row refl) h.1)
  step_kept (service.Close fd) (step.DescriptorEntry at) row tables taken held turn h =
      (in_kept _ _ h.0, h.1, h.2, tables refl (region_index FDTABLE) h.3)
  step_kept (service.Close fd) (step.DroppingDescriptor at) row tables taken held turn h =
      (in_kept _ _ h.0, h.1, h.2, open_kept fd (row refl) h.3, ap (λ (r : EntryRow). r (pipe_page fd)) (row refl) ∙ h.4)
  step_kept (service.Dup old new) (step.DescriptorEntry at) row tables taken held turn h =
      (in_kept _ _ h.0, h.1, h.2, tables refl (region_index FDTABLE) h.3)
  step_kept (service.Dup old new) step.TargetEntry row tables taken held turn h =
      (in_kept _ _ h.0, duplicating_kept old new (row refl) h.1, tables refl (region_index FDTABLE) h.2)
  step_kept (service.Dup old new) (step.DroppingDescriptor at) row tables taken held turn h = (
    in_kept _ _ h.0,
    h.1,
    duplicating_kept old new (row refl) h.2,
    tables refl (region_index FDTABLE) h.3,
    open_kept new (row refl) h.4,
    ap (λ (r : EntryRow). r (pipe_page new)) (row refl) ∙ h.5,
  )
  step_kept (service.Dup old new) step.MappingDescriptor row tables taken held turn h = (
    in_kept _ _ h.0,
    duplicating_kept old new (row refl) h.1,
    tables refl (region_index FDTABLE) h.2,
    ap (λ (r : EntryRow). r (descriptor_page new)) (row refl) ∙ h.3,
    subst (λ (r : EntryRow). r (pipe_page new) ≡ r (pipe_page old)) (sym (row refl)) h.4,
  )
  step_kept service.Pipe (step.FreeEntry fd) row tables taken held turn h =
      (in_kept _ _ h.0, h.1, subst (λ (r : EntryRow). EachIsOpenBelow r fd) (sym (row refl)) h.2, tables refl (region_index FDTABLE) h.3)
  step_kept service.Pipe (step.Piped at) row tables taken held turn h =
      piped_kept service.Pipe at (row refl) (tables refl) (taken refl) held turn h
  step_kept service.Exit (step.Piped at) row tables taken held turn h =
      piped_kept service.Exit at (row refl) (tables refl) (taken refl) held turn h
  step_kept (service.Close fd) (step.Piped at) row tables taken held turn h =
      piped_kept (service.Close fd) at (row refl) (tables refl) (taken refl) held turn h
  step_kept (service.Dup old new) (step.Piped at) row tables taken held turn h =
      piped_kept (service.Dup old new) at (row refl) (tables refl) (taken refl) held turn h
  step_kept (service.Read fd va len) (step.Piped at) row tables taken held turn h =
      piped_kept (service.Read fd va len) at (row refl) (tables refl) (taken refl) held turn h
  step_kept (service.Write fd va len) (step.Piped at) row tables taken held turn h =
      piped_kept (service.Write fd va len) at (row refl) (tables refl) (taken refl) held turn h
  step_kept (service.Stat fd va) (step.Piped at) row tables taken held turn h =
      piped_kept (service.Stat fd va) at (row refl) (tables refl) (taken refl) held turn h
  step_kept (service.Spawn path argv) step.TakingPage row tables taken held turn h = (in_kept _ _ h.0, h.1)
  step_kept (service.Spawn path argv) (step.Gathering done) row tables taken held turn h =
      gathering_path_kept (may_follow path done) (service.Spawn path argv) done (row refl) (taken refl) h
  step_kept (service.Spawn path argv) (step.Keeping done word left) row tables taken held turn h =
      keeping_path_kept (service.Spawn path argv) done word left (row refl) (taken refl) h
  step_kept (service.Spawn path argv) (step.Spawning at) row tables taken held turn h =
      spawn_kept v w (row refl) (told_kept v w (row refl) (taken refl).1) (given_same v w (taken refl).0) (stack_same v w (taken refl).0) k b status runs
      memory regions descriptors path argv (working_same v w (taken refl).0) (tables refl) at h
  step_kept _ _ row tables taken held turn h = absurd h

  beneath_kept : (regs : Regs) → w.row ≡ v.row → SameKept v w → StandsBeneath v (record k { registers = regs }) b →
      StandsBeneath w (record kernel_slot { registers = regs }) environment
  beneath_kept regs row page (at_program h) =
      at_program (record { program = h.program; phase = h.phase; words = h.words; silent = h.silent; awake = h.awake })
  beneath_kept regs row page (in_handing s done count word at h) = in_handing s done count word at (record {
    has = record {
      hands = h.has.hands;
      regs = h.has.regs;
      program = h.has.program;
      eax = h.has.eax;
      registers = h.has.registers;
      bytes = h.has.bytes;
      hands_at = h.has.hands_at;
      many = h.has.many;
      fewer = h.has.fewer;
      most = h.has.most;
      inside = h.has.inside;
      small = h.has.small;
      kept = taken_kept h.has.bytes count row page h.has.kept;
      silent = h.has.silent;
      awake = h.has.awake;
    };
    allowed = ap (λ (r : EntryRow). is_refused_by true (r (next_page s done))) row ∙ h.allowed;
    word_is = h.word_is;
  })
  beneath_kept regs row page (in_delivery s done word at h) = in_delivery s done word at (
    beneath_delivery s done word h.0,
    subst (λ (r : EntryRow). is_refused_by true (r (next_page s done)) ≡ false) (sym row) h.1,
  )
    where
      beneath_delivery : (s : Service) (done word : ℕ) → StandsDelivering s done word (record k { registers = regs }) b →
          StandsDelivering s done word (record kernel_slot { registers = regs }) environment
      beneath_delivery (service.Read fd va len) done word h =
          record { program = h.program; phase = h.phase; silent = h.silent; awake = h.awake; some = h.some; inside = h.inside; small = h.small }
      beneath_delivery (service.Stat fd va) done word h =
          record { program = h.program; phase = h.phase; silent = h.silent; awake = h.awake; some = h.some; inside = h.inside; small = h.small }
      beneath_delivery _ done word h = absurd h

  way_kept : ViewAlike v w → (h : HandlerStep) (fault : PageFault) (regs : Regs) → CopiesOrEnds h v k b fault regs →
      CopiesOrEnds h w kernel_slot environment fault regs
  way_kept same h fault regs (copies way) = copies (record {
    beneath = beneath_kept regs same.row (λ p x outside. same.bytes p x) way.beneath;
    error = way.error;
    inside = way.inside;
    at = copies_kept v w same h fault.va way.at;
  })
  way_kept same h fault regs (ends way) = ends (record {
    eax = way.eax;
    program = way.program;
    stopped = stopped_kept v w same.row same.devices b environment refl refl (is_write fault.error) fault.va regs.eip way.stopped;
    silent = way.silent;
    awake = way.awake;
    inside = way.inside;
    refused = ap (λ (r : EntryRow). is_refused_by (is_write fault.error) (r (page_number fault.va))) same.row ∙ way.refused;
    present = λ error. ap (λ (r : EntryRow). is_some (r (page_number fault.va))) same.row ∙ way.present error;
    at = way.at;
  })

  handler_kept : ViewAlike v w → (h : HandlerStep) → IsInHandler h v k b → IsInHandler h w kernel_slot environment
  handler_kept same h at = record {
    fault = at.fault;
    regs = at.regs;
    frame = frame_kept v w same k.registers.esp at.fault at.regs at.frame;
    small = at.small;
    flags = at.flags;
    stack = at.stack;
    way = way_kept same h at.fault at.regs at.way;
  }

  pub at_kept : (stands : Place) → KeptAt stands v w → (is_piped stands ≡ true → TurnKept v w k status runs) → StandsAt stands v k b →
      StandsAt stands w kernel_slot environment
  at_kept place.Guest kept turn h = guest_kept h
  at_kept (place.InService s stands) kept turn h = step_kept s stands kept.0 kept.1 kept.2 kept.3 turn h
  at_kept (place.InHandler stands) kept turn h = handler_kept kept stands h

-- ---- the library's pages

-- by the same row
pub library_alike : (at : Place) (words : List ℕ) (row after : EntryRow) → after ≡ row → LibraryPages at words row → LibraryPages at words after
library_alike at words row after same h = subst (λ (r : EntryRow). LibraryPages at words r) (sym same) h

own_alike : (row after : EntryRow) (p : ℕ) → after p ≡ row p → IsOwnWritable row p → IsOwnWritable after p
own_alike row after p same h = record { entry = h.entry; stands = same ∙ h.stands; own_page = h.own_page; writes = h.writes }

-- A page that a program may have can be another.
pub library_put : (at : Place) (words : List ℕ) (row after : EntryRow) (p : ℕ) → is_programs p ≡ true → ((q : ℕ) → q ≢ p → after q ≡ row q) →
    LibraryPages at words row → LibraryPages at words after
library_put at words row after p inside same h =
    let beside = programs_beside p inside in
    let copy_same : after (page_number PFTEMP) ≡ row (page_number PFTEMP) = same _ (λ e. beside.0 (sym e)) in
    let working_same : after (page_number UTEMP) ≡ row (page_number UTEMP) = same _ (λ e. beside.2 (sym e)) in
    record {
      stack = own_alike row after _ (same _ (λ e. beside.1 (sym e))) h.stack;
      copy = λ is. own_alike row after _ copy_same (h.copy is);
      no_copy = λ is. copy_same ∙ h.no_copy is;
      working = λ is. own_alike row after _ working_same (h.working is);
      no_working = λ is. working_same ∙ h.no_working is;
      descriptors = λ q entry is stands.
          h.descriptors q entry is
          (sym (same q (λ e. absurd (let contradiction : true ≡ false = sym is ∙ ap is_of_descriptor e ∙ programs_no_descriptor p inside in cc))) ∙ stands);
      spawns = λ q is.
          own_alike row after q
          (same q (λ e. absurd (let contradiction : false ≡ true = sym (spawns_aside at words q is).outside ∙ ap is_programs e ∙ inside in cc)))
          (h.spawns q is);
      none = λ q outside no_descriptor no_stack no_copy no_working no_spawns.
          same q (λ e. absurd (let contradiction : false ≡ true = sym outside ∙ ap is_programs e ∙ inside in cc))
          ∙ h.none q outside no_descriptor no_stack no_copy no_working no_spawns;
    }

-- ---- what is seen of a space

-- Nothing that is seen of it differs.
pub record SeenAlike (names after : Names) (s t : SpacesState) (d : ℕ) : Type 0 where
  pub rows : rows_of t d ≡ rows_of s d
  pub bytes : (p : ℕ) (x : Entry) → rows_of s d p ≡ Some x → is_shared x.perm ≡ false → t.pages x.frame ≡ s.pages x.frame
  pub named_so : (p : ℕ) (x : Entry) → rows_of s d p ≡ Some x → is_shared x.perm ≡ true → after.name x.frame ≡ names.name x.frame
  pub devices : (p : ℕ) (x : Entry) → is_of_descriptor p ≡ true → rows_of s d p ≡ Some x → is_shared x.perm ≡ true →
      lasting_words (t.pages x.frame) ≡ lasting_words (s.pages x.frame)
  pub pipes : (p : ℕ) (x : Entry) → is_pipe_page p ≡ true → rows_of s d p ≡ Some x → is_shared x.perm ≡ true → t.pages x.frame ≡ s.pages x.frame
  pub regions : (r : ℕ) → is_some (t.regions d r) ≡ is_some (s.regions d r)

-- Nothing but the bytes of pages of pipes does.
pub record SeenButPipes (names after : Names) (s t : SpacesState) (d : ℕ) : Type 0 where
  pub rows : rows_of t d ≡ rows_of s d
  pub bytes : (p : ℕ) (x : Entry) → rows_of s d p ≡ Some x → is_shared x.perm ≡ false → t.pages x.frame ≡ s.pages x.frame
  pub named_so : (p : ℕ) (x : Entry) → rows_of s d p ≡ Some x → is_shared x.perm ≡ true → after.name x.frame ≡ names.name x.frame
  pub devices : (p : ℕ) (x : Entry) → is_of_descriptor p ≡ true → is_pipe_page p ≡ false → rows_of s d p ≡ Some x → is_shared x.perm ≡ true →
      lasting_words (t.pages x.frame) ≡ lasting_words (s.pages x.frame)
  pub regions : (r : ℕ) → is_some (t.regions d r) ≡ is_some (s.regions d r)

pub but_pipes : {names after : Names} {s t : SpacesState} {d : ℕ} → SeenAlike names after s t d → SeenButPipes names after s t d
but_pipes h = record {
  rows = h.rows;
  bytes = h.bytes;
  named_so = h.named_so;
  devices = λ p x descriptor other is shared_page. h.devices p x descriptor is shared_page;
  regions = h.regions;
}

pub view_but_pipes : {names after : Names} {s t : SpacesState} {d : ℕ} → SeenButPipes names after s t d → ViewAlike (view_of s d) (view_of t d)
view_but_pipes {s = s} {t = t} {d = d} h =
    record { row = h.rows; bytes = h.bytes; devices = λ p x descriptor other is. by_sharing p x descriptor other is (is_shared x.perm) refl }
  where
    by_sharing : (p : ℕ) (x : Entry) → is_of_descriptor p ≡ true → is_pipe_page p ≡ false → rows_of s d p ≡ Some x → (c : Bool) →
        is_shared x.perm ≡ c → lasting_words (t.pages x.frame) ≡ lasting_words (s.pages x.frame)
    by_sharing p x descriptor other is true shared_page = h.devices p x descriptor other is shared_page
    by_sharing p x descriptor other is false own_page = ap lasting_words (h.bytes p x is own_page)

pub view_alike : {names after : Names} {s t : SpacesState} {d : ℕ} → SeenAlike names after s t d → ViewAlike (view_of s d) (view_of t d)
view_alike h = view_but_pipes (but_pipes h)

pub pipes_alike : {names after : Names} {s t : SpacesState} {d : ℕ} → SeenAlike names after s t d → SamePipes (view_of s d) (view_of t d)
pipes_alike {s = s} {t = t} {d = d} h p x pipes is = by_sharing (is_shared x.perm) refl
  where
    by_sharing : (c : Bool) → is_shared x.perm ≡ c → t.pages x.frame ≡ s.pages x.frame
    by_sharing true shared_page = h.pipes p x pipes is shared_page
    by_sharing false own_page = h.bytes p x is own_page

-- the page by an entry whose frame has the same bytes, or the same name
pub page_alike : (names after : Names) (bytes bytes_after : ℕ → List ℕ) (x : Entry) →
    (is_shared x.perm ≡ false → bytes_after x.frame ≡ bytes x.frame) →
    (is_shared x.perm ≡ true → after.name x.frame ≡ names.name x.frame) → page_by after bytes_after x ≡ page_by names bytes x
page_alike names after bytes bytes_after x bytes_same name_same = by_sharing (is_shared x.perm) bytes_same name_same
  where
    by_sharing : (c : Bool) → (c ≡ false → bytes_after x.frame ≡ bytes x.frame) → (c ≡ true → after.name x.frame ≡ names.name x.frame) →
        (if c then named (after.name x.frame) (has_write x.perm) else own (bytes_after x.frame) (may_write x.perm))
        ≡ (if c then named (names.name x.frame) (has_write x.perm) else own (bytes x.frame) (may_write x.perm))
    by_sharing true bytes_is name_is = ap (λ n. named n (has_write x.perm)) (name_is refl)
    by_sharing false bytes_is name_is = ap (λ (l : List ℕ). own l (may_write x.perm)) (bytes_is refl)

-- what two functions make of one value
pub option_map_alike : {X Y : Type 0} (f g : X → Y) (o after : Option X) → after ≡ o → ((x : X) → o ≡ Some x → g x ≡ f x) →
    option_map g after ≡ option_map f o
option_map_alike {X = X} f g o after same alike = ap (λ (r : Option X). option_map g r) same ∙ by_case o alike
  where
    by_case : (r : Option X) → ((x : X) → r ≡ Some x → g x ≡ f x) → option_map g r ≡ option_map f r
    by_case None alike_in = refl
    by_case (Some x) alike_in = ap Some (alike_in x refl)

pub shown_but_pipes : {names after : Names} {s t : SpacesState} {d : ℕ} → SeenButPipes names after s t d → (p : ℕ) →
    shown_at after t d p ≡ shown_at names s d p
shown_but_pipes {names = names} {after = after} {s = s} {t = t} {d = d} h p =
    option_map_alike (page_by names s.pages) (page_by after t.pages) (rows_of s d p) (rows_of t d p) (ap (λ (r : EntryRow). r p) h.rows)
    (λ x at. page_alike names after s.pages t.pages x (h.bytes p x at) (h.named_so p x at))

pub seen_but_pipes : {names after : Names} {s t : SpacesState} {d : ℕ} → SeenButPipes names after s t d → (p : ℕ) →
    page_seen after t d p ≡ page_seen names s d p
seen_but_pipes h p = ap (seen_where (is_programs p)) (shown_but_pipes h p)

pub seen_alike : {names after : Names} {s t : SpacesState} {d : ℕ} → SeenAlike names after s t d → (p : ℕ) →
    page_seen after t d p ≡ page_seen names s d p
seen_alike h p = seen_but_pipes (but_pipes h) p

-- a descriptor, where the same is shown at its page
pub descriptor_shown : (names after : Names) (s t : SpacesState) (d fd : ℕ) →
    shown_at after t d (descriptor_page fd) ≡ shown_at names s d (descriptor_page fd) → descriptor_seen after t d fd ≡ descriptor_seen names s d fd
descriptor_shown names after s t d fd same = ap (λ (o : Option Page). if nat_lt fd DESCRIPTORS then name_of o else None) same

pub descriptor_but_pipes : {names after : Names} {s t : SpacesState} {d : ℕ} → SeenButPipes names after s t d → (fd : ℕ) →
    descriptor_seen after t d fd ≡ descriptor_seen names s d fd
descriptor_but_pipes {names = names} {after = after} {s = s} {t = t} {d = d} h fd =
    descriptor_shown names after s t d fd (shown_but_pipes h (descriptor_page fd))

-- all of them, where what is shown differs at one page alone that is none of theirs
pub descriptors_off : (names after : Names) (s t : SpacesState) (d p : ℕ) → is_of_descriptor p ≡ false →
    ((q : ℕ) → q ≢ p → shown_at after t d q ≡ shown_at names s d q) → (fd : ℕ) → descriptor_seen after t d fd ≡ descriptor_seen names s d fd
descriptors_off names after s t d p none there fd = by_test (nat_lt fd DESCRIPTORS) refl
  where
    by_test : (c : Bool) → nat_lt fd DESCRIPTORS ≡ c →
        (if c then name_of (shown_at after t d (descriptor_page fd)) else None) ≡ (if c then name_of (shown_at names s d (descriptor_page fd)) else None)
    by_test true below =
        let one : is_of_descriptor (descriptor_page fd) ≡ true = grind (arith, nat_tests) in
        ap name_of (there (descriptor_page fd) (λ here. let contradiction : true ≡ false = sym one ∙ ap is_of_descriptor here ∙ none in cc))
    by_test false below = refl

-- as a page of a program's is
pub descriptors_beside : (names after : Names) (s t : SpacesState) (d p : ℕ) → is_programs p ≡ true →
    ((q : ℕ) → q ≢ p → shown_at after t d q ≡ shown_at names s d q) → (fd : ℕ) → descriptor_seen after t d fd ≡ descriptor_seen names s d fd
descriptors_beside names after s t d p inside there fd = descriptors_off names after s t d p (programs_no_descriptor p inside) there fd

-- ---- what counts in one turn

-- Where an environment on a pipe runs, its pages of ends and pipes are mapped as often.
abbrev pub CountsKept : SpacesState → SpacesState → Slot → Type 0
CountsKept s t k = is_piped (place_of k) ≡ true → is_running k.status ≡ true → SameCounts (view_of s k.directory) (view_of t k.directory)

-- it does not run
pub counts_stopped : (s t : SpacesState) (k : Slot) → is_running k.status ≡ false → CountsKept s t k
counts_stopped s t k stopped piped runs = absurd (let contradiction : true ≡ false = sym runs ∙ stopped in cc)

-- it is not on a pipe
pub counts_unpiped : (s t : SpacesState) (k : Slot) → is_piped (place_of k) ≡ false → CountsKept s t k
counts_unpiped s t k off piped runs = absurd (let contradiction : true ≡ false = sym piped ∙ off in cc)

-- what its slot keeps, where it runs, and the pages of pipes have the same bytes
pub turn_alike : (s t : SpacesState) (k : Slot) → CountsKept s t k → SamePipes (view_of s k.directory) (view_of t k.directory) →
    is_piped (place_of k) ≡ true → TurnKept (view_of s k.directory) (view_of t k.directory) k k.status k.runs
turn_alike s t k counts same piped = record { later = omega arith; same = λ runs again. (runs, counts piped runs, same) }

-- or where it is not on a pipe
pub turn_unpiped : (v w : View) (k : Slot) (at : Place) (status : Status) (runs : ℕ) → is_piped at ≡ false → is_piped at ≡ true → TurnKept v w k status runs
turn_unpiped v w k at status runs off piped = absurd (let contradiction : true ≡ false = sym piped ∙ off in cc)

-- or where it does not run
pub turn_stopped : (v w : View) (k : Slot) → is_running k.status ≡ false → TurnKept v w k k.status k.runs
turn_stopped v w k stopped =
    record { later = omega arith; same = λ runs again. absurd (let contradiction : true ≡ false = sym runs ∙ stopped in cc) }

-- An environment goes on standing, where nothing but the bytes of pages of pipes is seen to change, none of which it has in mind.
pub born_stays : {names after : Names} {s t : SpacesState} (k : Slot) (b : Born) → SeenButPipes names after s t k.directory →
    KeepsPipe (pipe_minded (place_of k)) (view_of s k.directory) (view_of t k.directory) →
    (is_piped (place_of k) ≡ true → TurnKept (view_of s k.directory) (view_of t k.directory) k k.status k.runs) →
    StandsForBorn names s k b → StandsForBorn after t k b
born_stays {names = names} {after = after} {s = s} {t = t} k b same held turn h = record {
  id = h.id;
  id_small = h.id_small;
  parent = h.parent;
  env_type = h.env_type;
  runs = h.runs;
  upcall = h.upcall;
  descriptors = λ fd kept. h.descriptors fd kept ∙ sym (ap (seen_unless (is_made (place_of k) fd)) (descriptor_but_pipes same fd));
  memory = λ p. h.memory p ∙ sym (seen_but_pipes same p);
  library = library_alike (place_of k) k.extra (rows_of s k.directory) (rows_of t k.directory) same.rows h.library;
  regions_have = λ r has_it. same.regions r ∙ h.regions_have r has_it;
  regions_only = λ r table. h.regions_only r (sym (same.regions r) ∙ table);
  stack = h.stack;
  flags = h.flags;
  at = at_kept (view_of s k.directory) (view_of t k.directory) k b k.status k.runs b.memory b.regions b.descriptors (place_of k)
      (kept_alike (place_of k) (view_of s k.directory) (view_of t k.directory) (view_but_pipes same) same.regions held) turn h.at;
}

-- the same where the pages of pipes have the same bytes
pub born_stands : {names after : Names} {s t : SpacesState} (k : Slot) (b : Born) → SeenAlike names after s t k.directory → CountsKept s t k →
    StandsForBorn names s k b → StandsForBorn after t k b
born_stands {s = s} {t = t} k b same counts h =
    born_stays k b (but_pipes same)
    (keeps_pipe (pipe_minded (place_of k)) (view_of s k.directory) (view_of t k.directory)
    (λ fd minds below x lies. pipes_alike same (pipe_page fd) x (grind (arith, nat_tests)) lies))
    (turn_alike s t k counts (pipes_alike same)) h

-- ---- who is live

runs_live : (status : Status) (blocked : Bool) → IsStatusFor status blocked → not (is_free status) ≡ true
runs_live Runnable false h = refl
runs_live Running false h = refl
runs_live NotRunnable true h = refl
runs_live _ _ h = absurd h

pub slot_live : (names : Names) (s : SpacesState) (k : Slot) (slot : AbstractSlot) → StandsForSlot names s k slot →
    is_live_slot k ≡ is_live slot
slot_live names s k (free id) h = ap (λ (x : Slot). is_live_slot x) h
slot_live names s k (unborn id parent) h = ap (λ (x : Status). not (is_free x)) h.status
slot_live names s k (born b) h = runs_live k.status b.blocked h.runs
slot_live names s k (serving id) h = h.lives

pub slot_named : (names : Names) (s : SpacesState) (k : Slot) (slot : AbstractSlot) → StandsForSlot names s k slot →
    k.id ≡ slot_id slot
slot_named names s k (free id) h = ap (λ (x : Slot). x.id) h
slot_named names s k (unborn id parent) h = h.id_is
slot_named names s k (born b) h = h.id
slot_named names s k (serving id) h = h.id_is

pub live_stands : {names : Names} {s : KernelState} {a : AbstractState} → StandsFor names s a → (n : ℕ) →
    is_live_slot (slot_at s n) ≡ is_live (a.slots n)
live_stands {names = names} {s = s} {a = a} h n = slot_live names s.spaces (slot_at s n) (a.slots n) (h.slots n)

pub ids_stand : {names : Names} {s : KernelState} {a : AbstractState} → StandsFor names s a → (n : ℕ) →
    (slot_at s n).id ≡ slot_id (a.slots n)
ids_stand {names = names} {s = s} {a = a} h n = slot_named names s.spaces (slot_at s n) (a.slots n) (h.slots n)

-- the environment in a slot
pub born_at : {names : Names} {s : KernelState} {a : AbstractState} → StandsFor names s a → (n : ℕ) (b : Born) →
    a.slots n ≡ born b → StandsForBorn names s.spaces (slot_at s n) b
born_at {names = names} {s = s} h n b at = subst (λ (slot : AbstractSlot). StandsForSlot names s.spaces (slot_at s n) slot) at (h.slots n)

-- ---- slots

-- A slot stands for what it stood for while nothing that is seen of its space differs. Of a slot that is not live no space is
-- seen.
pub slot_stands : (names after : Names) (s t : SpacesState) (k : Slot) (slot : AbstractSlot) → StandsForSlot names s k slot →
    (is_live slot ≡ true → SeenAlike names after s t k.directory) → CountsKept s t k → StandsForSlot after t k slot
slot_stands names after s t k (free id) h same counts = h
slot_stands names after s t k (unborn id parent) h same counts = h
slot_stands names after s t k (born b) h same counts = born_stands k b (same refl) counts h
slot_stands names after s t k (serving id) h same counts = h

-- the same where bytes of pages of pipes change, of one that does not run and has none of them in mind
pub slot_stays : (names after : Names) (s t : SpacesState) (k : Slot) (slot : AbstractSlot) → StandsForSlot names s k slot →
    (is_live slot ≡ true → SeenButPipes names after s t k.directory) →
    KeepsPipe (pipe_minded (place_of k)) (view_of s k.directory) (view_of t k.directory) → is_running k.status ≡ false → StandsForSlot after t k slot
slot_stays names after s t k (free id) h same held stopped = h
slot_stays names after s t k (unborn id parent) h same held stopped = h
slot_stays names after s t k (born b) h same held stopped =
    born_stays k b (same refl) held (λ piped. turn_stopped (view_of s k.directory) (view_of t k.directory) k stopped) h
slot_stays names after s t k (serving id) h same held stopped = h

pub other_stands : (names after : Names) (s t : SpacesState) (k : Slot) (slot : AbstractSlot) → StandsForSlot names s k slot →
    rows_of t k.directory ≡ rows_of s k.directory →
    ((p : ℕ) (x : Entry) → rows_of s k.directory p ≡ Some x → is_shared x.perm ≡ false → t.pages x.frame ≡ s.pages x.frame) →
    ((p : ℕ) (x : Entry) → rows_of s k.directory p ≡ Some x → is_shared x.perm ≡ true → after.name x.frame ≡ names.name x.frame) →
    ((p : ℕ) (x : Entry) → is_of_descriptor p ≡ true → rows_of s k.directory p ≡ Some x → is_shared x.perm ≡ true →
    lasting_words (t.pages x.frame) ≡ lasting_words (s.pages x.frame)) →
    ((p : ℕ) (x : Entry) → is_pipe_page p ≡ true → rows_of s k.directory p ≡ Some x → is_shared x.perm ≡ true → t.pages x.frame ≡ s.pages x.frame) →
    ((r : ℕ) → is_some (t.regions k.directory r) ≡ is_some (s.regions k.directory r)) → CountsKept s t k → StandsForSlot after t k slot
other_stands names after s t k slot h rows bytes named_so devices pipes regions counts =
    slot_stands names after s t k slot h
    (λ live. record { rows = rows; bytes = bytes; named_so = named_so; devices = devices; pipes = pipes; regions = regions }) counts

pub born_live : {names : Names} {s : SpacesState} {k : Slot} {b : Born} → StandsForBorn names s k b → is_live_slot k ≡ true
born_live {k = k} {b = b} h = runs_live k.status b.blocked h.runs

-- an environment may get another status, in which it runs or waits as before
pub status_born : {names : Names} {s : SpacesState} (k : Slot) (b : Born) (status : Status) (runs : ℕ) → IsStatusFor status b.blocked →
    k.runs ≤ runs → (is_running status ≡ true → runs ≢ k.runs) → StandsForBorn names s k b → StandsForBorn names s (record k { status = status; runs = runs }) b
status_born {s = s} k b status runs so later another h = record {
  id = h.id;
  id_small = h.id_small;
  parent = h.parent;
  env_type = h.env_type;
  runs = so;
  upcall = h.upcall;
  descriptors = h.descriptors;
  memory = h.memory;
  library = h.library;
  regions_have = h.regions_have;
  regions_only = h.regions_only;
  stack = h.stack;
  flags = h.flags;
  at = at_kept (view_of s k.directory) (view_of s k.directory) k b status runs b.memory b.regions b.descriptors (place_of k)
      (kept_alike (place_of k) (view_of s k.directory) (view_of s k.directory)
      (record { row = refl; bytes = λ p x is own_page. refl; devices = λ p x descriptor other is. refl }) (λ r. refl)
      (keeps_pipe (pipe_minded (place_of k)) (view_of s k.directory) (view_of s k.directory) (λ fd minds below x lies. refl)))
      (λ piped. record { later = later; same = λ is again. absurd (another is again) }) h.at;
}

-- One of its pages may be another, in a space that has tables for its regions.
pub record HasTables (s : SpacesState) (d : ℕ) (regions : ℕ → Bool) : Type 0 where
  pub have : (r : ℕ) → regions r ≡ true → is_some (s.regions d r) ≡ true
  pub only : (r : ℕ) → is_some (s.regions d r) ≡ true → (regions r || is_library_region r) ≡ true

pub page_put : (names after : Names) (s t : SpacesState) (k : Slot) (b : Born) (p : ℕ) (page : Option Page) (regions : ℕ → Bool) →
    StandsForBorn names s k b → is_programs p ≡ true → page ≡ page_seen after t k.directory p →
    ((q : ℕ) → q ≢ p → shown_at after t k.directory q ≡ shown_at names s k.directory q) →
    LibraryPages (place_of k) k.extra (rows_of t k.directory) → HasTables t k.directory regions →
    KeptAt (place_of k) (view_of s k.directory) (view_of t k.directory) →
    (is_piped (place_of k) ≡ true → TurnKept (view_of s k.directory) (view_of t k.directory) k k.status k.runs) →
    StandsForBorn after t k (record b { memory = upd b.memory p page; regions = regions })
page_put names after s t k b p page regions h inside here there library tables kept turn = record {
  id = h.id;
  id_small = h.id_small;
  parent = h.parent;
  env_type = h.env_type;
  runs = h.runs;
  upcall = h.upcall;
  descriptors = λ fd still. h.descriptors fd still ∙ sym (ap (seen_unless (is_made (place_of k) fd)) (descriptors_beside names after s t k.directory p inside there fd));
  memory = upd-all (λ q (v : Option Page). v ≡ page_seen after t k.directory q) b.memory p page here
      (λ q ne. h.memory q ∙ sym (ap (seen_where (is_programs q)) (there q ne)));
  library = library;
  regions_have = tables.have;
  regions_only = tables.only;
  stack = h.stack;
  flags = h.flags;
  at = at_kept (view_of s k.directory) (view_of t k.directory) k b k.status k.runs (upd b.memory p page) regions b.descriptors (place_of k) kept turn h.at;
}
