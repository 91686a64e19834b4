-- An environment in spawn goes on standing at its step while nothing changes that it has in mind: its entries and tables, the bytes of the
-- pages that it keeps, and what its descriptors' pages tell.
use Rattle.std.proofs.Common.{◌≡◌, ◌<◌, ◌∙◌, ℕ, ◌+◌, ◌-◌, ◌/◌, Bool, true, false, List, refl, sym, ap, subst}
use Rattle.std.specs.Prelude.{Option, Some, slice_index}
use Rattle.jos_base.specs.declared.environment.Status.{Status}
use Rattle.jos_base.specs.declared.numbers.TheConstants.{FDTABLE, NPTENTRIES, UTEMP}
use Rattle.jos_base.specs.Environments.{Slot}
use Rattle.jos_base.specs.Reach.{Entry}
use Rattle.jos_base.specs.Words.{page_number}
use Rattle.jos_elf.specs.declared.header.ProgramHeader.{ProgramHeader}
use Rattle.lib_os.specs.declared.numbers.TheConstants.{DESCRIPTORS, REQUEST_COUNT, REQUEST_FILE, REQUEST_MODE, REQUEST_PLACE}
use Rattle.lib_os.specs.declared.numbers.TheConstants.{SPAWN_ADDRESSES, SPAWN_GIVEN, SPAWN_STACK}
use Rattle.lib_os.specs.declared.spawn_steps.BearingStep.{BearingStep}
use Rattle.lib_os.specs.declared.spawn_steps.BearingStep.TheVariants as bearing
use Rattle.lib_os.specs.declared.spawn_steps.FilePart.{FilePart}
use Rattle.lib_os.specs.declared.spawn_steps.FinishingStep.{FinishingStep}
use Rattle.lib_os.specs.declared.spawn_steps.FinishingStep.TheVariants as finishing
use Rattle.lib_os.specs.declared.spawn_steps.GivenStep.{GivenStep}
use Rattle.lib_os.specs.declared.spawn_steps.GivenStep.TheVariants as given
use Rattle.lib_os.specs.declared.spawn_steps.OpeningStep.{OpeningStep}
use Rattle.lib_os.specs.declared.spawn_steps.OpeningStep.TheVariants as opening_step
use Rattle.lib_os.specs.declared.spawn_steps.ReadStep.{ReadStep}
use Rattle.lib_os.specs.declared.spawn_steps.ReadStep.TheVariants as read
use Rattle.lib_os.specs.declared.spawn_steps.SpawnStep.{SpawnStep}
use Rattle.lib_os.specs.declared.spawn_steps.SpawnStep.TheVariants as spawn
use Rattle.lib_os.specs.declared.spawn_steps.TestingStep.{TestingStep}
use Rattle.lib_os.specs.declared.spawn_steps.TestingStep.TheVariants as testing
use Rattle.lib_os.specs.declared.spawn_steps.UndoingStep.{UndoingStep}
use Rattle.lib_os.specs.declared.spawn_steps.UndoingStep.TheVariants as undoing
use Rattle.lib_os.specs.AbstractState.{Born, ImageRead, Page, Spawning, Stage}
use Rattle.lib_os.specs.DescriptorPages.{lasting_words, number_of}
use Rattle.lib_os.specs.Fence.{in_fence}
use Rattle.lib_os.specs.InService.{EachIsOpenBelow, IsLowestFree}
use Rattle.lib_os.specs.LibraryPages.{View, region_index}
use Rattle.lib_os.specs.Rows.{EntryRow, descriptor_page, is_programs, is_shared}
use Rattle.lib_os.specs.SpawnGiven.{Lists, Quotes, address_place, string_place, amid, amid_word, behind, behind_addresses, behind_path, behind_word}
use Rattle.lib_os.specs.StandsAtSpawn.{Asks, AwaitsBytes, AwaitsFile, BearingStands, FinishingStands, Found, GivenHas, GivenStands, HasAddress}
use Rattle.lib_os.specs.StandsAtSpawn.{HasAllBytes, HasAskedFile, HasAskedPart, HasChild, HasFile, HasHeader, HasHeaders, HasImage, HasOnlyPath}
use Rattle.lib_os.specs.StandsAtSpawn.{HasPath, HasRecord, HasStack, HasStacked, HasStackFor, HasStrings, HasTested, HasWords}
use Rattle.lib_os.specs.StandsAtSpawn.{IsAtString, IsAwaitingPart, IsAwaitingReply, IsBefore, IsClosed, IsComparing, IsComparingWith, IsCopyingHeaders}
use Rattle.lib_os.specs.StandsAtSpawn.{IsCutShort, IsFilled, IsFilling, IsFor, IsFreeOrNone, IsGivenWrongly, IsImage, IsIn, IsKeepingString, IsListing}
use Rattle.lib_os.specs.StandsAtSpawn.{IsOfFile, IsOfFileWith, IsOpeningFile, IsPassing, IsPlacing, IsPutting, IsPuttingAt, IsQuoting, IsReady}
use Rattle.lib_os.specs.StandsAtSpawn.{IsRecording, IsSettling, IsSharing, IsStacking, IsTesting, IsTestingSegment, IsToDrop, MayLoad, MayNotLoad}
use Rattle.lib_os.specs.StandsAtSpawn.{OpeningStands, PageHas, ReadingStands, Refuses, StandsAtSpawn, Tells, TellsAll, TellsCount, TellsFile}
use Rattle.lib_os.specs.StandsAtSpawn.{TellsNumber, TestingStands, UndoingStands}
use Rattle.lib_os.specs.StandsAtSpawn.{address_outside, awaits_bytes, awaits_file, before_header, before_piece, before_table, by_drop, by_file, by_given}
use Rattle.lib_os.specs.StandsAtSpawn.{for_header, for_piece, for_table, has_bytes, has_file, header_unread, is_free, no_child, no_fit, no_header}
use Rattle.lib_os.specs.StandsAtSpawn.{no_table, none_is, string_endless, string_outside, table_unread, too_many, too_short}
use Rattle.lib_os.specs.StandsInHandler.{IsFileOpen, is_refused_by}
use Rattle.lib_os.proofs.DescriptorWords.{told_device, told_number, told_size}

-- ---- what it has found out

-- how it is told what it has taken, where it has found out the same
module _ (b after : Born) (found_kept : after.spawning ≡ b.spawning) where
  pub lists_kept : {name addresses taken : List ℕ} {stage : Stage} → Lists b name addresses taken stage → Lists after name addresses taken stage
  lists_kept (behind_path bytes whole) = behind_path bytes whole
  lists_kept (amid name addresses taken found some few) = amid name addresses taken (found_kept ∙ found) some few
  lists_kept (behind name addresses taken found whole) = behind name addresses taken (found_kept ∙ found) whole

  pub quotes_kept : {name left taken : List ℕ} {words : List (List ℕ)} {stage : Stage} → Quotes b name left words taken stage →
      Quotes after name left words taken stage
  quotes_kept (behind_addresses name addresses taken found whole last) = behind_addresses name addresses taken (found_kept ∙ found) whole last
  quotes_kept (amid_word name address left words taken found no_end) = amid_word name address left words taken (found_kept ∙ found) no_end
  quotes_kept (behind_word name address left words taken found ended) = behind_word name address left words taken (found_kept ∙ found) ended

-- ---- its pages

-- a page of its own that is none of its program's has the same bytes
abbrev pub SameKept : View → View → Type 0
SameKept v w = (p : ℕ) (x : Entry) → is_programs p ≡ false → v.row p ≡ Some x → is_shared x.perm ≡ false → w.bytes x.frame ≡ v.bytes x.frame

-- and a descriptor's page tells the same
abbrev pub SameTold : View → View → Type 0
SameTold v w = (fd : ℕ) → fd < DESCRIPTORS → (x : Entry) → v.row (descriptor_page fd) ≡ Some x →
    lasting_words (w.bytes x.frame) ≡ lasting_words (v.bytes x.frame)

-- a page of its own with this number has
abbrev pub SameAt : View → View → ℕ → Type 0
SameAt v w p = (x : Entry) → v.row p ≡ Some x → is_shared x.perm ≡ false → w.bytes x.frame ≡ v.bytes x.frame

-- the one at UTEMP, and those that spawn keeps beside it
pub working_same : (v w : View) → SameKept v w → SameAt v w (page_number UTEMP)
unfolding in_fence
working_same v w own x stands own_page = own (page_number UTEMP) x refl stands own_page

pub given_same : (v w : View) → SameKept v w → SameAt v w (page_number SPAWN_GIVEN)
unfolding in_fence
given_same v w own x stands own_page = own (page_number SPAWN_GIVEN) x refl stands own_page

pub stack_same : (v w : View) → SameKept v w → SameAt v w (page_number SPAWN_STACK)
unfolding in_fence
stack_same v w own x stands own_page = own (page_number SPAWN_STACK) x refl stands own_page

module _ (v w : View) (row : w.row ≡ v.row) where
  page_has_kept : (p at : ℕ) (bytes : List ℕ) → SameAt v w p → PageHas v p at bytes → PageHas w p at bytes
  page_has_kept p at bytes own h = record {
    entry = h.entry;
    stands = ap (λ (r : EntryRow). r p) row ∙ h.stands;
    own_page = h.own_page;
    same = λ i lt. ap (λ (l : List ℕ). slice_index l (at + i)) (own h.entry h.stands h.own_page) ∙ h.same i lt;
  }

  path_page_kept : SameAt v w (page_number UTEMP) → (at : ℕ) (bytes : List ℕ) → PageHas v (page_number UTEMP) at bytes →
      PageHas w (page_number UTEMP) at bytes
  path_page_kept own at bytes h = page_has_kept (page_number UTEMP) at bytes own h

  given_page_kept : SameAt v w (page_number SPAWN_GIVEN) → (bytes : List ℕ) → GivenHas v bytes → GivenHas w bytes
  given_page_kept own bytes h = page_has_kept (page_number SPAWN_GIVEN) 0 bytes own h

  stack_page_kept : SameAt v w (page_number SPAWN_STACK) → (bytes : List ℕ) → PageHas v (page_number SPAWN_STACK) 0 bytes →
      PageHas w (page_number SPAWN_STACK) 0 bytes
  stack_page_kept own bytes h = page_has_kept (page_number SPAWN_STACK) 0 bytes own h

  path_kept : SameAt v w (page_number UTEMP) → (name : List ℕ) → HasPath v name → HasPath w name
  path_kept own name h = record { small = h.small; no_end = h.no_end; few = h.few; kept = path_page_kept own 0 _ h.kept }

  pub stack_kept : SameAt v w (page_number SPAWN_STACK) → (words : List (List ℕ)) (esp : ℕ) → HasStack v words esp → HasStack w words esp
  stack_kept own words esp h = record { fits = h.fits; esp_is = h.esp_is; kept = stack_page_kept own _ h.kept }

  -- the image

  abbrev image_kept : SameAt v w (page_number SPAWN_GIVEN) → SameAt v w (page_number SPAWN_STACK) → (image : ImageRead) (headers : ℕ) →
      HasImage v image headers → HasImage w image headers
  image_kept given_own own image headers h = record {
    table = given_page_kept given_own image.table h.table;
    many = h.many;
    few = h.few;
    whole = h.whole;
    small = h.small;
    size = h.size;
    passed = h.passed;
    esp = h.esp;
    stack = stack_kept own image.words h.esp h.stack;
  }

  -- a descriptor

  abbrev file_open_kept : SameTold v w → (fd : ℕ) → fd < DESCRIPTORS → IsFileOpen v fd → IsFileOpen w fd
  file_open_kept told fd below h = record {
    entry = h.entry;
    stands = ap (λ (r : EntryRow). r (descriptor_page fd)) row ∙ h.stands;
    device = ap told_device (told fd below h.entry h.stands) ∙ h.device;
  }

  abbrev of_file_kept : SameTold v w → (fd : ℕ) → IsOfFile v fd → IsOfFile w fd
  of_file_kept told fd h = record { below = h.below; file = file_open_kept told fd h.below h.file }

  number_kept : SameTold v w → (fd : ℕ) (h : IsOfFile v fd) → number_of (v.bytes h.file.entry.frame) ≡ number_of (w.bytes h.file.entry.frame)
  number_kept told fd h = sym (ap told_number (told fd h.below h.file.entry h.file.stands))

  sized_kept : SameTold v w → (fd size : ℕ) → IsOfFileWith v fd size → IsOfFileWith w fd size
  sized_kept told fd size h = record {
    of_file = of_file_kept told fd h.of_file;
    size_is = ap told_size (told fd h.of_file.below h.of_file.file.entry h.of_file.file.stands) ∙ h.size_is;
  }

  pub free_or_none_kept : (fd : ℕ) → IsFreeOrNone v fd → IsFreeOrNone w fd
  free_or_none_kept fd (is_free lowest) = is_free (subst (λ (r : EntryRow). IsLowestFree r fd) (sym row) lowest)
  free_or_none_kept fd (none_is all each) = none_is all (subst (λ (r : EntryRow). EachIsOpenBelow r DESCRIPTORS) (sym row) each)

  -- a byte that it is given

  may_load_kept : (va : ℕ) → MayLoad v va → MayLoad w va
  may_load_kept va h =
      record { inside = h.inside; allowed = ap (λ (r : EntryRow). is_refused_by false (r (page_number va))) row ∙ h.allowed }

  may_not_load_kept : (va : ℕ) → MayNotLoad v va → MayNotLoad w va
  may_not_load_kept va h =
      record { inside = h.inside; refused = ap (λ (r : EntryRow). is_refused_by false (r (page_number va))) row ∙ h.refused }

-- ---- where it stands

module _ (v w : View) (row : w.row ≡ v.row) (told : SameTold v w) (given_own : SameAt v w (page_number SPAWN_GIVEN))
    (stack_own : SameAt v w (page_number SPAWN_STACK)) (k : Slot) (b : Born) (status : Status) (runs : ℕ) (memory : ℕ → Option Page)
    (regions : ℕ → Bool) (descriptors : ℕ → Option ℕ) (path argv : ℕ) where
  abbrev slot_after : Slot
  slot_after = record k { status = status; runs = runs }

  abbrev born_after : Born
  born_after = record b { memory = memory; regions = regions; descriptors = descriptors }

  is_in_kept : (stage : Stage) → IsIn k b path argv stage → IsIn slot_after born_after path argv stage
  is_in_kept stage h = record {
    regs = h.regs;
    program = h.program;
    eax = h.eax;
    registers = h.registers;
    phase = h.phase;
    silent = h.silent;
    awake = h.awake;
  }

  found_kept : (stage : Stage) (found : Spawning) → Found k b path argv stage found → Found slot_after born_after path argv stage found
  found_kept stage found h = record { is_in = is_in_kept stage h.is_in; is = h.is }

  -- what it has asked, and what it waits for: nothing is known of the page at UTEMP then

  pub asked_file_kept : (esp fd : ℕ) → HasAskedFile v k b path argv esp fd → HasAskedFile w slot_after born_after path argv esp fd
  asked_file_kept esp fd h = record {
    words = h.words;
    found = found_kept _ _ h.found;
    stack = stack_kept v w row stack_own h.words esp h.stack;
    free = free_or_none_kept v w row fd h.free;
  }

  pub awaiting_kept : (destination : ℕ) → IsAwaitingReply k b path argv destination → IsAwaitingReply slot_after born_after path argv destination
  awaiting_kept destination h = record {
    regs = h.regs;
    program = h.program;
    eax = h.eax;
    registers = h.registers;
    phase = h.phase;
    blocked = h.blocked;
    receives = h.receives;
    wanted = h.wanted;
    destination_is = h.destination_is;
  }

  pub for_kept : (wanted : FilePart) (count : ℕ) → IsFor v b wanted count → IsFor w born_after wanted count
  for_kept _ _ (for_header esp fd size words found sized stack long) =
      for_header esp fd size words found (sized_kept v w row told fd size sized) (stack_kept v w row stack_own words esp stack) long
  for_kept _ _ (for_table esp fd size entry_point headers place words header found sized stack begins many few) =
      for_table esp fd size entry_point headers place words header found (sized_kept v w row told fd size sized)
      (stack_kept v w row stack_own words esp stack) begins many few
  for_kept _ _ (for_piece fd headers child header done end place image pieces found of_file whole below left come next sized) =
      for_piece fd headers child header done end place image pieces found (of_file_kept v w row told fd of_file)
      (image_kept v w row given_own stack_own image headers whole) below left come next (sized_kept v w row told fd whole.size sized)

  pub asked_part_kept : (wanted : FilePart) → HasAskedPart v k b path argv wanted → HasAskedPart w slot_after born_after path argv wanted
  asked_part_kept wanted h = record { count = h.count; so = for_kept wanted h.count h.so; is_in = is_in_kept _ h.is_in }

  module _ (path_own : SameAt v w (page_number UTEMP)) (tables : (r : ℕ) → v.tables r ≡ true → w.tables r ≡ true) where
    -- what the program gives

    listing_kept : (index done word : ℕ) → IsListing v k b path argv index done word → IsListing w slot_after born_after path argv index done word
    listing_kept index done word h = record {
      name = h.name;
      addresses = h.addresses;
      taken = h.taken;
      stage = h.stage;
      lists = lists_kept b born_after refl h.lists;
      is_in = is_in_kept h.stage h.is_in;
      path_kept = path_kept v w row path_own h.name h.path_kept;
      kept = path_page_kept v w row path_own SPAWN_ADDRESSES _ h.kept;
      are = h.are;
      many = h.many;
      most = h.most;
      bytes = h.bytes;
      few = h.few;
      word_is = h.word_is;
      small = h.small;
    }

    address_kept : (index word : ℕ) → HasAddress v k b path argv index word → HasAddress w slot_after born_after path argv index word
    address_kept index word h = record {
      name = h.name;
      addresses = h.addresses;
      stage = h.stage;
      lists = lists_kept b born_after refl h.lists;
      is_in = is_in_kept h.stage h.is_in;
      path_kept = path_kept v w row path_own h.name h.path_kept;
      kept = path_page_kept v w row path_own SPAWN_ADDRESSES _ h.kept;
      are = h.are;
      many = h.many;
      most = h.most;
      room = h.room;
      small = h.small;
    }

    abbrev quoting_kept : (index used done : ℕ) → IsQuoting v k b path argv index used done → IsQuoting w slot_after born_after path argv index used done
    quoting_kept index used done h = record {
      name = h.name;
      left = h.left;
      words = h.words;
      taken = h.taken;
      stage = h.stage;
      quotes = quotes_kept b born_after refl h.quotes;
      is_in = is_in_kept h.stage h.is_in;
      path_kept = path_kept v w row path_own h.name h.path_kept;
      addresses = h.addresses;
      kept = path_page_kept v w row path_own SPAWN_ADDRESSES _ h.kept;
      are = h.are;
      few = h.few;
      reached = h.reached;
      left_is = h.left_is;
      many = h.many;
      used_is = h.used_is;
      done_is = h.done_is;
      short = h.short;
      small = h.small;
      small_words = h.small_words;
      no_ends = h.no_ends;
      strings = given_page_kept v w row given_own _ h.strings;
    }

    at_string_kept : (index address used done : ℕ) → IsAtString v k b path argv index address used done →
        IsAtString w slot_after born_after path argv index address used done
    at_string_kept index address used done h =
        record { so = quoting_kept index used done h.so; rest = h.rest; next = h.next; within = h.within }

    keeping_string_kept : (index address used done word left : ℕ) → IsKeepingString v k b path argv index address used done word left →
        IsKeepingString w slot_after born_after path argv index address used done word left
    keeping_string_kept index address used done word left h = record {
      name = h.name;
      addresses_left = h.addresses_left;
      words = h.words;
      taken = h.taken;
      found = found_kept _ _ h.found;
      path_kept = path_kept v w row path_own h.name h.path_kept;
      addresses = h.addresses;
      kept = path_page_kept v w row path_own SPAWN_ADDRESSES _ h.kept;
      are = h.are;
      few = h.few;
      left_is = h.left_is;
      many = h.many;
      used_is = h.used_is;
      many_taken = h.many_taken;
      short = h.short;
      some = h.some;
      last = h.last;
      word_is = h.word_is;
      small = h.small;
      small_words = h.small_words;
      no_ends = h.no_ends;
      no_end = h.no_end;
      strings = given_page_kept v w row given_own _ h.strings;
    }

    wrongly_kept : (stage : Stage) → IsGivenWrongly b path argv stage → IsGivenWrongly born_after path argv stage
    wrongly_kept stage (address_outside name addresses taken _ lists are few outside) =
        address_outside name addresses taken stage (lists_kept b born_after refl lists) are few outside
    wrongly_kept stage (too_many name addresses word _ lists many some) =
        too_many name addresses word stage (lists_kept b born_after refl lists) many some
    wrongly_kept stage (string_outside name left taken words address _ quotes outside) =
        string_outside name left taken words address stage (quotes_kept b born_after refl quotes) outside
    wrongly_kept stage (string_endless name left taken words address _ quotes long) =
        string_endless name left taken words address stage (quotes_kept b born_after refl quotes) long
    wrongly_kept stage (no_fit name words _ quotes more) = no_fit name words stage (quotes_kept b born_after refl quotes) more

    words_kept : (words : List (List ℕ)) → HasWords v k b path argv words → HasWords w slot_after born_after path argv words
    words_kept words h = record {
      name = h.name;
      stage = h.stage;
      quotes = quotes_kept b born_after refl h.quotes;
      is_in = is_in_kept h.stage h.is_in;
      path_kept = path_kept v w row path_own h.name h.path_kept;
      fits = h.fits;
      small_words = h.small_words;
      no_ends = h.no_ends;
    }

    abbrev strings_kept : (count size : ℕ) → HasStrings v k b path argv count size → HasStrings w slot_after born_after path argv count size
    strings_kept count size h = record {
      words = h.words;
      has = words_kept h.words h.has;
      count_is = h.count_is;
      size_is = h.size_is;
      strings = given_page_kept v w row given_own _ h.strings;
    }

    abbrev stacking_kept : (count size index copied addressed : ℕ) → IsStacking v k b path argv count size index copied addressed →
        IsStacking w slot_after born_after path argv count size index copied addressed
    stacking_kept count size index copied addressed h = record {
      has = strings_kept count size h.has;
      lies = h.lies;
      most = h.most;
      kept = stack_page_kept v w row stack_own _ h.kept;
    }

    stacked_kept : (count size : ℕ) (page : List (List ℕ) → List ℕ) → HasStacked v k b path argv count size page →
        HasStacked w slot_after born_after path argv count size page
    stacked_kept count size page h = record { has = strings_kept count size h.has; kept = stack_page_kept v w row stack_own _ h.kept }

    only_path_kept : HasOnlyPath v k b path argv → HasOnlyPath w slot_after born_after path argv
    only_path_kept h = record {
      name = h.name;
      stage = h.stage;
      lists = lists_kept b born_after refl h.lists;
      is_in = is_in_kept h.stage h.is_in;
      path_kept = path_kept v w row path_own h.name h.path_kept;
    }

    given_stands_kept : (at : GivenStep) → GivenStands v k b path argv at → GivenStands w slot_after born_after path argv at
    given_stands_kept given.TakingGiven h = only_path_kept h
    given_stands_kept (given.AddressRegion index done word) h = (listing_kept index done word h.0, h.1)
    given_stands_kept (given.AddressEntry index done word) h =
        (listing_kept index done word h.0, h.1, tables (region_index (address_place argv index done)) h.2)
    given_stands_kept (given.AddressLoading index done word) h =
        (listing_kept index done word h.0, may_load_kept v w row (address_place argv index done) h.1)
    given_stands_kept (given.AddressFaulting index done) h =
        ((h.0.0, listing_kept index done h.0.0 h.0.1), may_not_load_kept v w row (address_place argv index done) h.1)
    given_stands_kept (given.AddressKeeping index word) h = (address_kept index word h.0, may_load_kept v w row (address_place argv index 3) h.1)
    given_stands_kept (given.StringAddress index used) h = quoting_kept index used 0 h
    given_stands_kept (given.StringRegion index address used done) h = (at_string_kept index address used done h.0, h.1)
    given_stands_kept (given.StringEntry index address used done) h =
        (at_string_kept index address used done h.0, h.1, tables (region_index (string_place address done)) h.2)
    given_stands_kept (given.StringLoading index address used done) h =
        (at_string_kept index address used done h.0, may_load_kept v w row (string_place address done) h.1)
    given_stands_kept (given.StringFaulting address done) h = (
      (h.0.0, h.0.1, at_string_kept h.0.0 address h.0.1 done h.0.2),
      may_not_load_kept v w row (string_place address done) h.1,
    )
    given_stands_kept (given.StringKeeping index address used done word left) h = (
      keeping_string_kept index address used done word left h.0,
      may_load_kept v w row (string_place address (done + left - 1)) h.1,
    )
    given_stands_kept (given.TakingStack count size) h = strings_kept count size h
    given_stands_kept (given.StringFirst count size index copied) h = (stacking_kept count size index copied index h.0, h.1)
    given_stands_kept (given.StringCopying count size index copied) h = stacking_kept count size index copied (index + 1) h
    given_stands_kept (given.StringPutting count size index copied byte) h = (stacking_kept count size index copied (index + 1) h.0, h.1)
    given_stands_kept (given.StoringArgv count size) h = stacked_kept count size _ h
    given_stands_kept (given.StoringArgc count size) h = stacked_kept count size _ h

    -- the file is opened

    ready_kept : (esp : ℕ) → IsReady v k b path argv esp → IsReady w slot_after born_after path argv esp
    ready_kept esp h = record { words = h.words; has = words_kept h.words h.has; stack = stack_kept v w row stack_own h.words esp h.stack }

    tells_file_kept : (esp fd : ℕ) → TellsFile v k b path argv esp fd → TellsFile w slot_after born_after path argv esp fd
    tells_file_kept esp fd h = record {
      ready = ready_kept esp h.ready;
      free = free_or_none_kept v w row fd h.free;
      mode = path_page_kept v w row path_own REQUEST_MODE _ h.mode;
    }

    awaits_file_kept : (fd : ℕ) (words : List (List ℕ)) → AwaitsFile v k b path argv fd words → AwaitsFile w slot_after born_after path argv fd words
    awaits_file_kept fd words (awaits_file awaiting found free) = awaits_file (awaiting_kept _ awaiting) found (free_or_none_kept v w row fd free)
    awaits_file_kept fd words (has_file found small most refused opened) =
        has_file (found_kept _ _ found) small most refused (λ zero below. file_open_kept v w row told fd below (opened zero below))

    opening_file_kept : (esp fd : ℕ) → IsOpeningFile v k b path argv esp fd → IsOpeningFile w slot_after born_after path argv esp fd
    opening_file_kept esp fd h =
        record { words = h.words; stack = stack_kept v w row stack_own h.words esp h.stack; so = awaits_file_kept fd h.words h.so }

    has_file_kept : (esp fd : ℕ) → HasFile v k b path argv esp fd → HasFile w slot_after born_after path argv esp fd
    has_file_kept esp fd h = record {
      words = h.words;
      found = found_kept _ _ h.found;
      stack = stack_kept v w row stack_own h.words esp h.stack;
      of_file = of_file_kept v w row told fd h.of_file;
    }

    opening_stands_kept : (at : OpeningStep) → OpeningStands v k b path argv at → OpeningStands w slot_after born_after path argv at
    opening_stands_kept (opening_step.FreeRegion esp) h = ready_kept esp h
    opening_stands_kept (opening_step.FreeEntry esp fd) h =
        (ready_kept esp h.0, h.1, subst (λ (r : EntryRow). EachIsOpenBelow r fd) (sym row) h.2, tables (region_index FDTABLE) h.3)
    opening_stands_kept (opening_step.StoringMode esp fd) h = (ready_kept esp h.0, free_or_none_kept v w row fd h.1)
    opening_stands_kept (opening_step.OpenIdentifying esp fd) h = tells_file_kept esp fd h
    opening_stands_kept (opening_step.OpenAsking esp fd id) h = (h.0, tells_file_kept esp fd h.1)
    opening_stands_kept (opening_step.OpenPausing esp fd id) h = (h.0, tells_file_kept esp fd h.1)
    opening_stands_kept (opening_step.OpenAwaiting esp fd id) h = (h.0, asked_file_kept esp fd h.1)
    opening_stands_kept (opening_step.ReadingOpened esp fd id) h = (h.0, opening_file_kept esp fd h.1)
    opening_stands_kept (opening_step.LoadingSize esp fd) h = has_file_kept esp fd h

    -- its parts are read

    abbrev filled_kept : (fd headers child header done : ℕ) → IsFilled v k b path argv fd headers child header done →
        IsFilled w slot_after born_after path argv fd headers child header done
    filled_kept fd headers child header done h = record {
      image = h.image;
      pieces = h.pieces;
      had = h.had;
      stage = h.stage;
      found = found_kept _ _ h.found;
      has = h.has;
      of_file = of_file_kept v w row told fd h.of_file;
      whole = image_kept v w row given_own stack_own h.image headers h.whole;
      below = h.below;
      left = h.left;
      come = h.come;
      sized = sized_kept v w row told fd h.whole.size h.sized;
    }

    before_kept : (wanted : FilePart) (fd count place : ℕ) → IsBefore v k b path argv wanted fd count place →
        IsBefore w slot_after born_after path argv wanted fd count place
    before_kept _ _ _ _ (before_header esp fd size so sized long) =
        before_header esp fd size (has_file_kept esp fd so) (sized_kept v w row told fd size sized) long
    before_kept _ _ _ _ (before_table esp fd size entry_point headers place words header answer found sized stack begins many at few inside long passed come) =
        before_table esp fd size entry_point headers place words header answer (found_kept _ _ found) (sized_kept v w row told fd size sized)
        (stack_kept v w row stack_own words esp stack) begins many at few inside long passed come
    before_kept _ _ _ _ (before_piece fd headers child header done end place so next at) =
        before_piece fd headers child header done end place (filled_kept fd headers child header done so) next at

    abbrev asks_kept : (wanted : FilePart) → Asks v k b path argv wanted → Asks w slot_after born_after path argv wanted
    asks_kept wanted h = record {
      fd = h.fd;
      count = h.count;
      place = h.place;
      before = before_kept wanted h.fd h.count h.place h.before;
      of_file = of_file_kept v w row told h.fd h.of_file;
    }

    abbrev tells_number_kept : (wanted : FilePart) → TellsNumber v k b path argv wanted → TellsNumber w slot_after born_after path argv wanted
    tells_number_kept wanted h = record {
      asks = asks_kept wanted h.asks;
      number = subst (λ (number : ℕ). Tells w REQUEST_FILE number) (number_kept v w row told h.asks.fd h.asks.of_file)
          (path_page_kept v w row path_own REQUEST_FILE _ h.number);
    }

    abbrev tells_count_kept : (wanted : FilePart) → TellsCount v k b path argv wanted → TellsCount w slot_after born_after path argv wanted
    tells_count_kept wanted h =
        record { so = tells_number_kept wanted h.so; count = path_page_kept v w row path_own REQUEST_COUNT _ h.count }

    tells_all_kept : (wanted : FilePart) → TellsAll v k b path argv wanted → TellsAll w slot_after born_after path argv wanted
    tells_all_kept wanted h = record { so = tells_count_kept wanted h.so; place = path_page_kept v w row path_own REQUEST_PLACE _ h.place }

    awaits_bytes_kept : (count : ℕ) → AwaitsBytes v k b path argv count → AwaitsBytes w slot_after born_after path argv count
    awaits_bytes_kept count (awaits_bytes awaiting) = awaits_bytes (awaiting_kept _ awaiting)
    awaits_bytes_kept count (has_bytes bytes is_in small many each kept) =
        has_bytes bytes (is_in_kept _ is_in) small many each (path_page_kept v w row path_own 0 bytes kept)

    awaiting_part_kept : (wanted : FilePart) → IsAwaitingPart v k b path argv wanted → IsAwaitingPart w slot_after born_after path argv wanted
    awaiting_part_kept wanted h = record { count = h.count; so = for_kept wanted h.count h.so; awaits = awaits_bytes_kept h.count h.awaits }

    reading_stands_kept : (wanted : FilePart) (at : ReadStep) → ReadingStands v k b path argv wanted at →
        ReadingStands w slot_after born_after path argv wanted at
    reading_stands_kept wanted read.LoadingNumber h = asks_kept wanted h
    reading_stands_kept wanted (read.StoringNumber number) h =
        (asks_kept wanted h.0, h.1 ∙ number_kept v w row told h.0.fd h.0.of_file)
    reading_stands_kept wanted read.StoringCount h = tells_number_kept wanted h
    reading_stands_kept wanted read.StoringPlace h = tells_count_kept wanted h
    reading_stands_kept wanted read.Identifying h = tells_all_kept wanted h
    reading_stands_kept wanted (read.Asking id) h = (h.0, tells_all_kept wanted h.1)
    reading_stands_kept wanted (read.Pausing id) h = (h.0, tells_all_kept wanted h.1)
    reading_stands_kept wanted (read.Awaiting id) h = (h.0, asked_part_kept wanted h.1)
    reading_stands_kept wanted (read.ReadingReply id) h = (h.0, awaiting_part_kept wanted h.1)

    -- they are tested

    abbrev header_kept : (esp fd size : ℕ) → HasHeader v k b path argv esp fd size → HasHeader w slot_after born_after path argv esp fd size
    header_kept esp fd size h = record {
      words = h.words;
      header = h.header;
      answer = h.answer;
      found = found_kept _ _ h.found;
      come = h.come;
      stack = stack_kept v w row stack_own h.words esp h.stack;
      of_file = sized_kept v w row told fd size h.of_file;
      sized = h.sized;
      long = h.long;
      small = h.small;
      kept = path_page_kept v w row path_own 0 h.header h.kept;
    }

    abbrev tested_kept : (esp fd size tests : ℕ) → HasTested v k b path argv esp fd size tests →
        HasTested w slot_after born_after path argv esp fd size tests
    tested_kept esp fd size tests h = record { has = header_kept esp fd size h.has; passed = h.passed }

    abbrev headers_kept : (esp fd size entry_point headers : ℕ) → HasHeaders v k b path argv esp fd size entry_point headers →
        HasHeaders w slot_after born_after path argv esp fd size entry_point headers
    headers_kept esp fd size entry_point headers h = record {
      words = h.words;
      header = h.header;
      table = h.table;
      answer = h.answer;
      found = found_kept _ _ h.found;
      come = h.come;
      stack = stack_kept v w row stack_own h.words esp h.stack;
      of_file = sized_kept v w row told fd size h.of_file;
      entry_point_is = h.entry_point_is;
      many = h.many;
      few = h.few;
      whole = h.whole;
      small = h.small;
    }

    abbrev copying_kept : (esp fd size entry_point headers copied : ℕ) → IsCopyingHeaders v k b path argv esp fd size entry_point headers copied →
        IsCopyingHeaders w slot_after born_after path argv esp fd size entry_point headers copied
    copying_kept esp fd size entry_point headers copied h = record {
      so = headers_kept esp fd size entry_point headers h.so;
      kept = path_page_kept v w row path_own 0 h.so.table h.kept;
      few = h.few;
      copied_are = given_page_kept v w row given_own _ h.copied_are;
    }

    abbrev testing_kept : (esp fd size entry_point headers header : ℕ) → IsTesting v k b path argv esp fd size entry_point headers header →
        IsTesting w slot_after born_after path argv esp fd size entry_point headers header
    testing_kept esp fd size entry_point headers header h = record {
      so = headers_kept esp fd size entry_point headers h.so;
      kept = given_page_kept v w row given_own h.so.table h.kept;
      below = h.below;
      passed = h.passed;
    }

    segment_kept : (esp fd size entry_point headers header : ℕ) (known : ProgramHeader → Type 0) →
        IsTestingSegment v k b path argv esp fd size entry_point headers header known →
        IsTestingSegment w slot_after born_after path argv esp fd size entry_point headers header known
    segment_kept esp fd size entry_point headers header known h =
        record { testing_it = testing_kept esp fd size entry_point headers header h.testing_it; so = h.so }

    abbrev comparing_kept : (esp fd size entry_point headers header va memory other : ℕ) →
        IsComparing v k b path argv esp fd size entry_point headers header va memory other →
        IsComparing w slot_after born_after path argv esp fd size entry_point headers header va memory other
    comparing_kept esp fd size entry_point headers header va memory other h = record {
      testing_it = testing_kept esp fd size entry_point headers header h.testing_it;
      lies = h.lies;
      alone = h.alone;
      other_below = h.other_below;
      apart = h.apart;
    }

    comparing_with_kept : (esp fd size entry_point headers header va memory other : ℕ) (known : ProgramHeader → Type 0) →
        IsComparingWith v k b path argv esp fd size entry_point headers header va memory other known →
        IsComparingWith w slot_after born_after path argv esp fd size entry_point headers header va memory other known
    comparing_with_kept esp fd size entry_point headers header va memory other known h =
        record { comparing = comparing_kept esp fd size entry_point headers header va memory other h.comparing; so = h.so }

    testing_stands_kept : (at : TestingStep) → TestingStands v k b path argv at → TestingStands w slot_after born_after path argv at
    testing_stands_kept (testing.HeaderMagic esp fd size) h = tested_kept esp fd size 1 h
    testing_stands_kept (testing.HeaderClass esp fd size) h = tested_kept esp fd size 2 h
    testing_stands_kept (testing.HeaderKind esp fd size) h = tested_kept esp fd size 3 h
    testing_stands_kept (testing.HeaderEntryPoint esp fd size) h = tested_kept esp fd size 5 h
    testing_stands_kept (testing.HeaderTable esp fd size entry_point) h = (tested_kept esp fd size 5 h.0, h.1)
    testing_stands_kept (testing.HeaderLength esp fd size entry_point place) h = (tested_kept esp fd size 5 h.0, h.1, h.2)
    testing_stands_kept (testing.HeaderCount esp fd size entry_point place) h = (tested_kept esp fd size 6 h.0, h.1, h.2)
    testing_stands_kept (testing.TableLoading esp fd size entry_point headers copied) h = copying_kept esp fd size entry_point headers copied h
    testing_stands_kept (testing.TableStoring esp fd size entry_point headers copied word) h =
        (copying_kept esp fd size entry_point headers copied h.0, h.1)
    testing_stands_kept (testing.SegmentKind esp fd size entry_point headers header) h = testing_kept esp fd size entry_point headers header h
    testing_stands_kept (testing.SegmentMemory esp fd size entry_point headers header) h = segment_kept esp fd size entry_point headers header _ h
    testing_stands_kept (testing.SegmentAddress esp fd size entry_point headers header memory_size) h =
        segment_kept esp fd size entry_point headers header _ h
    testing_stands_kept (testing.SegmentLength esp fd size entry_point headers header va memory_size) h =
        segment_kept esp fd size entry_point headers header _ h
    testing_stands_kept (testing.SegmentOffset esp fd size entry_point headers header va memory_size file_size) h =
        segment_kept esp fd size entry_point headers header _ h
    testing_stands_kept (testing.OtherKind esp fd size entry_point headers header va memory_size other) h =
        comparing_kept esp fd size entry_point headers header va memory_size other h
    testing_stands_kept (testing.OtherMemory esp fd size entry_point headers header va memory_size other) h =
        comparing_with_kept esp fd size entry_point headers header va memory_size other _ h
    testing_stands_kept (testing.OtherAddress esp fd size entry_point headers header va memory_size other other_memory) h =
        comparing_with_kept esp fd size entry_point headers header va memory_size other _ h

    -- the child is made

    is_image_kept : (esp fd entry_point headers : ℕ) → IsImage v k b path argv esp fd entry_point headers →
        IsImage w slot_after born_after path argv esp fd entry_point headers
    is_image_kept esp fd entry_point headers h = record {
      size = h.size;
      so = headers_kept esp fd h.size entry_point headers h.so;
      kept = given_page_kept v w row given_own h.so.table h.kept;
      passed = h.passed;
    }

    child_kept : (fd headers child : ℕ) (image : ImageRead) → HasChild v k b path argv fd headers child image →
        HasChild w slot_after born_after path argv fd headers child image
    child_kept fd headers child image h = record {
      found = found_kept _ _ h.found;
      of_file = of_file_kept v w row told fd h.of_file;
      whole = image_kept v w row given_own stack_own image headers h.whole;
      sized = sized_kept v w row told fd h.whole.size h.sized;
    }

    recording_kept : (esp fd entry_point headers child index : ℕ) → IsRecording v k b path argv esp fd entry_point headers child index →
        IsRecording w slot_after born_after path argv esp fd entry_point headers child index
    recording_kept esp fd entry_point headers child index h = record {
      image = h.image;
      has = child_kept fd headers child h.image h.has;
      esp_is = h.esp_is;
      entry_point_is = h.entry_point_is;
      below = h.below;
      kept = path_page_kept v w row path_own 0 _ h.kept;
    }

    record_kept : (fd headers child : ℕ) → HasRecord v k b path argv fd headers child → HasRecord w slot_after born_after path argv fd headers child
    record_kept fd headers child h =
        record { image = h.image; has = child_kept fd headers child h.image h.has; begins = h.begins; kept = path_page_kept v w row path_own 0 _ h.kept }

    placing_kept : (fd headers child header : ℕ) (known : ProgramHeader → Type 0) → IsPlacing v k b path argv fd headers child header known →
        IsPlacing w slot_after born_after path argv fd headers child header known
    placing_kept fd headers child header known h =
        record { image = h.image; has = child_kept fd headers child h.image h.has; below = h.below; so = h.so }

    filling_kept : (fd headers child header done : ℕ) (known : ProgramHeader → Type 0) →
        IsFilling v k b path argv fd headers child header done known → IsFilling w slot_after born_after path argv fd headers child header done known
    filling_kept fd headers child header done known h = record { filled = filled_kept fd headers child header done h.filled; so = h.so }

    abbrev putting_kept : (fd headers child header done end : ℕ) → IsPutting v k b path argv fd headers child header done end →
        IsPutting w slot_after born_after path argv fd headers child header done end
    putting_kept fd headers child header done end h = record {
      image = h.image;
      pieces = h.pieces;
      bytes = h.bytes;
      answer = h.answer;
      found = found_kept _ _ h.found;
      counts = h.counts;
      of_file = of_file_kept v w row told fd h.of_file;
      whole = image_kept v w row given_own stack_own h.image headers h.whole;
      below = h.below;
      loaded = h.loaded;
      within = h.within;
      end_is = h.end_is;
      left = h.left;
      come = h.come;
      long = h.long;
      small = h.small;
      kept = path_page_kept v w row path_own 0 h.bytes h.kept;
      sized = sized_kept v w row told fd h.whole.size h.sized;
    }

    abbrev putting_at_kept : (fd headers child header va done end : ℕ) → IsPuttingAt v k b path argv fd headers child header va done end →
        IsPuttingAt w slot_after born_after path argv fd headers child header va done end
    putting_at_kept fd headers child header va done end h =
        record { putting = putting_kept fd headers child header done end h.putting; va_is = h.va_is }

    bearing_kept : (at : BearingStep) → BearingStands v k b path argv at → BearingStands w slot_after born_after path argv at
    bearing_kept (bearing.MakingChild esp fd entry_point headers) h = is_image_kept esp fd entry_point headers h
    bearing_kept (bearing.StoringRegister esp fd entry_point headers child index) h = recording_kept esp fd entry_point headers child index h
    bearing_kept (bearing.SettingRegisters fd headers child) h = record_kept fd headers child h
    bearing_kept (bearing.PlacingKind fd headers child header) h = placing_kept fd headers child header _ h
    bearing_kept (bearing.PlacingMemory fd headers child header) h = placing_kept fd headers child header _ h
    bearing_kept (bearing.PlacingAddress fd headers child header memory_size) h = placing_kept fd headers child header _ h
    bearing_kept (bearing.PlacingPage fd headers child header page last) h = placing_kept fd headers child header _ h
    bearing_kept (bearing.PieceKind fd headers child header) h = filling_kept fd headers child header 0 _ h
    bearing_kept (bearing.PieceMemory fd headers child header) h = filling_kept fd headers child header 0 _ h
    bearing_kept (bearing.PieceLength fd headers child header done) h = filling_kept fd headers child header done _ h
    bearing_kept (bearing.PieceOffset fd headers child header done end) h = filling_kept fd headers child header done _ h
    bearing_kept (bearing.PieceAddress fd headers child header done end) h = (putting_kept fd headers child header done end h.0, h.1)
    bearing_kept (bearing.MappingHere fd headers child header va done end) h = putting_at_kept fd headers child header va done end h
    bearing_kept (bearing.PieceLoading fd headers child header va done end) h = putting_at_kept fd headers child header va done end h
    bearing_kept (bearing.PieceRest fd headers child header va done end first) h =
        (putting_at_kept fd headers child header va done end h.0, h.1, h.2, h.3)
    bearing_kept (bearing.PiecePutting fd headers child header va done end word) h = (putting_at_kept fd headers child header va done end h.0, h.1)
    bearing_kept (bearing.UnmappingHere fd headers child header end) h =
        record { filled = filled_kept fd headers child header end h.filled; some = h.some; loaded = h.loaded; ends = h.ends }

    -- it is finished

    abbrev all_bytes_kept : (fd child : ℕ) → HasAllBytes v k b path argv fd child → HasAllBytes w slot_after born_after path argv fd child
    all_bytes_kept fd child h = record {
      image = h.image;
      pieces = h.pieces;
      had = h.had;
      stage = h.stage;
      found = found_kept _ _ h.found;
      has = h.has;
      none_left = h.none_left;
      of_file = of_file_kept v w row told fd h.of_file;
      tested = h.tested;
    }

    abbrev settling_kept : (fd headers child header : ℕ) (known : ProgramHeader → Type 0) → IsSettling v k b path argv fd headers child header known →
        IsSettling w slot_after born_after path argv fd headers child header known
    settling_kept fd headers child header known h = record {
      has = all_bytes_kept fd child h.has;
      whole = image_kept v w row given_own stack_own h.has.image headers h.whole;
      below = h.below;
      so = h.so;
    }

    sharing_kept : (fd headers child header page end other : ℕ) (known : ProgramHeader → Type 0) →
        IsSharing v k b path argv fd headers child header page end other known →
        IsSharing w slot_after born_after path argv fd headers child header page end other known
    sharing_kept fd headers child header page end other known h =
        record { settling_it = settling_kept fd headers child header _ h.settling_it; most = h.most; pages = h.pages; so = h.so }

    stack_for_kept : (fd child : ℕ) → HasStackFor v k b path argv fd child → HasStackFor w slot_after born_after path argv fd child
    stack_for_kept fd child h =
        record { has = all_bytes_kept fd child h.has; esp = h.esp; stack = stack_kept v w row stack_own h.has.image.words h.esp h.stack }

    closed_kept : (child : ℕ) → IsClosed k b path argv child → IsClosed slot_after born_after path argv child
    closed_kept child h = record { image = h.image; pieces = h.pieces; found = found_kept _ _ h.found; none_left = h.none_left; tested = h.tested }

    passing_kept : (page perm : ℕ) → IsPassing v page perm → IsPassing w page perm
    passing_kept page perm h =
        record { entry = h.entry; stands = ap (λ (r : EntryRow). r page) row ∙ h.stands; shared = h.shared; perm_is = h.perm_is }

    finishing_kept : (at : FinishingStep) → FinishingStands v k b path argv at → FinishingStands w slot_after born_after path argv at
    finishing_kept (finishing.RightsKind fd headers child header) h = settling_kept fd headers child header _ h
    finishing_kept (finishing.RightsFlags fd headers child header) h = settling_kept fd headers child header _ h
    finishing_kept (finishing.RightsMemory fd headers child header) h = settling_kept fd headers child header _ h
    finishing_kept (finishing.RightsAddress fd headers child header memory_size) h = settling_kept fd headers child header _ h
    finishing_kept (finishing.SharedKind fd headers child header page end other) h =
        (sharing_kept fd headers child header page end other _ h.0, h.1)
    finishing_kept (finishing.SharedFlags fd headers child header page end other) h =
        (sharing_kept fd headers child header page end other _ h.0, h.1)
    finishing_kept (finishing.SharedMemory fd headers child header page end other) h =
        (sharing_kept fd headers child header page end other _ h.0, h.1)
    finishing_kept (finishing.SharedAddress fd headers child header page end other other_memory) h =
        (sharing_kept fd headers child header page end other _ h.0, h.1)
    finishing_kept (finishing.RightsPage fd headers child header page end) h = (settling_kept fd headers child header _ h.0, h.1, h.2)
    finishing_kept (finishing.ChildStack fd child) h = stack_for_kept fd child h
    finishing_kept (finishing.ChildUpcall fd child) h = stack_for_kept fd child h
    finishing_kept (finishing.GivingStack fd child) h = stack_for_kept fd child h
    finishing_kept (finishing.ReleasingStack fd child) h = all_bytes_kept fd child h
    finishing_kept (finishing.ReleasingGiven fd child) h = all_bytes_kept fd child h
    finishing_kept (finishing.ReleasingPath fd child) h = all_bytes_kept fd child h
    finishing_kept (finishing.DroppingFile fd child) h = all_bytes_kept fd child h
    finishing_kept (finishing.PassingRegion child region) h = (closed_kept child h.0, h.1)
    finishing_kept (finishing.PassingEntry child page) h = (closed_kept child h.0, h.1, tables (page / NPTENTRIES) h.2)
    finishing_kept (finishing.PassingPage child page perm) h = (closed_kept child h.0, h.1, passing_kept page perm h.2)
    finishing_kept (finishing.ChildRuns child) h = closed_kept child h

    -- it is undone

    cut_short_kept : (fd child error : ℕ) → IsCutShort v k b path argv fd child error → IsCutShort w slot_after born_after path argv fd child error
    cut_short_kept fd child error h = record {
      image = h.image;
      pieces = h.pieces;
      bytes = h.bytes;
      answer = h.answer;
      found = found_kept _ _ h.found;
      so = h.so;
      of_file = of_file_kept v w row told fd h.of_file;
    }

    to_drop_kept : (fd error : ℕ) → IsToDrop v k b path argv fd error → IsToDrop w slot_after born_after path argv fd error
    to_drop_kept fd error (too_short size words found sized less is) =
        too_short size words (found_kept _ _ found) (sized_kept v w row told fd size sized) less is
    to_drop_kept fd error (no_header size words header answer found sized come bad is) =
        no_header size words header answer (found_kept _ _ found) (sized_kept v w row told fd size sized) come bad is
    to_drop_kept fd error (no_table size words header table answer found sized come bad is) =
        no_table size words header table answer (found_kept _ _ found) (sized_kept v w row told fd size sized) come bad is
    to_drop_kept fd error (header_unread words header found of_file is) =
        header_unread words header (found_kept _ _ found) (of_file_kept v w row told fd of_file) is
    to_drop_kept fd error (table_unread words header table found of_file is) =
        table_unread words header table (found_kept _ _ found) (of_file_kept v w row told fd of_file) is
    to_drop_kept fd error (no_child found of_file) = no_child (found_kept _ _ found) (of_file_kept v w row told fd of_file)

    refuses_kept : (answer : ℕ) → Refuses k b path argv answer → Refuses slot_after born_after path argv answer
    refuses_kept answer (by_given stage is_in wrongly is) = by_given stage (is_in_kept stage is_in) (wrongly_kept stage wrongly) is
    refuses_kept answer (by_file words found none) = by_file words (found_kept _ _ found) none
    refuses_kept answer (by_drop found) = by_drop (found_kept _ _ found)

    undoing_kept : (at : UndoingStep) → UndoingStands v k b path argv at → UndoingStands w slot_after born_after path argv at
    undoing_kept (undoing.DestroyingChild fd child error) h = cut_short_kept fd child error h
    undoing_kept (undoing.ClosingFile fd error) h = to_drop_kept fd error h
    undoing_kept (undoing.UndoingStack error) h = refuses_kept error h
    undoing_kept (undoing.UndoingGiven error) h = refuses_kept error h
    undoing_kept (undoing.UndoingPath error) h = refuses_kept error h

    -- all of it

    pub spawn_kept : (at : SpawnStep) → StandsAtSpawn v k b path argv at → StandsAtSpawn w slot_after born_after path argv at
    spawn_kept (spawn.Given at) h = given_stands_kept at h
    spawn_kept (spawn.Opening at) h = opening_stands_kept at h
    spawn_kept (spawn.Reading wanted at) h = reading_stands_kept wanted at h
    spawn_kept (spawn.Testing at) h = testing_stands_kept at h
    spawn_kept (spawn.Bearing at) h = bearing_kept at h
    spawn_kept (spawn.Finishing at) h = finishing_kept at h
    spawn_kept (spawn.Undoing at) h = undoing_kept at h
