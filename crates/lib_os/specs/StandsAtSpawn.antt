-- An environment in spawn, behind its path: what its pages have at each step, beside what the abstract system has found out by then.
use Rattle.std.specs.Prelude.{◌≡◌, ◌≢◌, ◌<◌, ◌≤◌, ◌⊎◌, ℕ, ◌+◌, ◌-◌, ◌*◌, ◌/◌, ◌%◌, ◌^◌, ◌==◌, ◌&&◌, ◌||◌, nat_lt, nat_le, not, min, true, false}
use Rattle.std.specs.Prelude.{List, [], ◌∷◌, ◌++◌, length, take, drop, map, flat_map, slice_index, All, Some, None, if◌then◌else◌}
use Rattle.std.specs.Int.{w32, to_le_bytes}
use Rattle.jos_base.specs.declared.numbers.TheConstants.{E_INVAL, E_MAX_OPEN, FDTABLE, FIRST_ENV_ID, FL_1, FL_IF, NENV, NPTENTRIES, PGSIZE}
use Rattle.jos_base.specs.declared.numbers.TheConstants.{USTABDATA, USTACKTOP, UTEMP, UTEXT, UTOP}
use Rattle.jos_base.specs.declared.registers.Regs.{Regs}
use Rattle.jos_base.specs.Environments.{Slot}
use Rattle.jos_base.specs.Reach.{Entry}
use Rattle.jos_base.specs.SpacesState.{overlaid, rising, zero_page}
use Rattle.jos_base.specs.TrapFrames.{bytes_of_words}
use Rattle.jos_base.specs.Words.{negated, page_number, word_at}
use Rattle.jos_elf.specs.declared.header.ProgramHeader.{ProgramHeader}
use Rattle.jos_elf.specs.declared.numbers.TheConstants.{ARGS_MAX, EHDR_LEN, E_NOT_EXEC, PHDR_LEN, PT_LOAD}
use Rattle.jos_elf.specs.Headers.{entry_count_of, entry_point_of, table_of}
use Rattle.jos_elf.specs.Pages.{any_writes, page_bytes, stack_page, touches}
use Rattle.jos_elf.specs.Parsed.{segment_of, segments_of}
use Rattle.jos_elf.specs.StackPage.{addresses_from, fits_stack, stack_contents, stack_pointer, strings_of, strings_size}
use Rattle.jos_elf.specs.Started.{stack_segment}
use Rattle.jos_elf.specs.Tests.{first_failed, header_tests, is_loaded, lies_within, overlap_tests, segment_tests, table_tests}
use Rattle.fs_layout.specs.declared.numbers.TheConstants.{MAXPATHLEN}
use Rattle.lib_os.specs.declared.numbers.TheConstants.{DESCRIPTORS, REQUEST_COUNT, REQUEST_FILE, REQUEST_MODE, REQUEST_PLACE, SPAWN_ADDRESSES}
use Rattle.lib_os.specs.declared.numbers.TheConstants.{SPAWN_GIVEN, SPAWN_STACK, TRANSFER_MAX}
use Rattle.lib_os.specs.declared.service.Service.TheVariants as service
use Rattle.lib_os.specs.declared.spawn_steps.BearingStep.{BearingStep}
use Rattle.lib_os.specs.declared.spawn_steps.BearingStep.TheVariants as bearing
use Rattle.lib_os.specs.declared.spawn_steps.FilePart.{FilePart}
use Rattle.lib_os.specs.declared.spawn_steps.FilePart.TheVariants as part
use Rattle.lib_os.specs.declared.spawn_steps.FinishingStep.{FinishingStep}
use Rattle.lib_os.specs.declared.spawn_steps.FinishingStep.TheVariants as finishing
use Rattle.lib_os.specs.declared.spawn_steps.GivenStep.{GivenStep}
use Rattle.lib_os.specs.declared.spawn_steps.GivenStep.TheVariants as given
use Rattle.lib_os.specs.declared.spawn_steps.OpeningStep.{OpeningStep}
use Rattle.lib_os.specs.declared.spawn_steps.OpeningStep.TheVariants as opening_step
use Rattle.lib_os.specs.declared.spawn_steps.ReadStep.{ReadStep}
use Rattle.lib_os.specs.declared.spawn_steps.ReadStep.TheVariants as read
use Rattle.lib_os.specs.declared.spawn_steps.SpawnStep.{SpawnStep}
use Rattle.lib_os.specs.declared.spawn_steps.SpawnStep.TheVariants as spawn
use Rattle.lib_os.specs.declared.spawn_steps.TestingStep.{TestingStep}
use Rattle.lib_os.specs.declared.spawn_steps.TestingStep.TheVariants as testing
use Rattle.lib_os.specs.declared.spawn_steps.UndoingStep.{UndoingStep}
use Rattle.lib_os.specs.declared.spawn_steps.UndoingStep.TheVariants as undoing
use Rattle.lib_os.specs.AbstractState.{Born, in_service, Stage, asked, awaiting, taking, guest, replied, ImageRead, Spawning}
use Rattle.lib_os.specs.AbstractState.{closed, dropping, heading, loading, opening, quoting, refusing, tabling}
use Rattle.lib_os.specs.AbstractSpawn.{Piece, all_of, headers_in, packed_at, pieces_left, pieces_of, table_size}
use Rattle.lib_os.specs.DescriptorPages.{number_of, size_of}
use Rattle.lib_os.specs.FileServer.{is_count}
use Rattle.lib_os.specs.Fence.{is_inside}
use Rattle.lib_os.specs.InService.{EachIsOpenBelow, HasTable, IsLowestFree}
use Rattle.lib_os.specs.LibraryPages.{View, region_index}
use Rattle.lib_os.specs.Rows.{AreBytes, is_shared}
use Rattle.lib_os.specs.SpawnGiven.{Lists, Quotes, address_place, string_place}
use Rattle.lib_os.specs.StandsInHandler.{HasNoEnd, IsFileOpen, is_refused_by}

-- ---- its own pages

-- a page of its own, with this number, has these bytes from a place on
pub record PageHas (v : View) (p at : ℕ) (bytes : List ℕ) : Type 0 where
  pub entry : Entry
  pub stands : v.row p ≡ Some entry
  pub own_page : is_shared entry.perm ≡ false
  pub same : (i : ℕ) → i < length bytes → slice_index (v.bytes entry.frame) (at + i) ≡ slice_index bytes i

-- the words' strings, and then the program headers
abbrev pub GivenHas : View → List ℕ → Type 0
GivenHas v bytes = PageHas v (page_number SPAWN_GIVEN) 0 bytes

-- the path, with its end
pub record HasPath (v : View) (name : List ℕ) : Type 0 where
  pub small : AreBytes name
  pub no_end : HasNoEnd name
  pub few : length name < MAXPATHLEN
  pub kept : PageHas v (page_number UTEMP) 0 (name ++ 0 ∷ [])

-- the addresses of the words stand behind it
abbrev pub HasAddresses : View → List ℕ → Type 0
HasAddresses v addresses = PageHas v (page_number UTEMP) SPAWN_ADDRESSES (bytes_of_words addresses)

-- the page of the child's stack is ready
pub record HasStack (v : View) (words : List (List ℕ)) (esp : ℕ) : Type 0 where
  pub fits : fits_stack words ≡ true
  pub esp_is : esp ≡ stack_pointer words
  pub kept : PageHas v (page_number SPAWN_STACK) 0 (page_bytes (stack_segment words ∷ []) (stack_contents words) stack_page)

-- the page of its request tells a word at a place
abbrev pub Tells : View → ℕ → ℕ → Type 0
Tells v at word = PageHas v (page_number UTEMP) at (to_le_bytes w32 word)

-- ---- how far it is

-- It is in spawn, at a stage, and its registers are those of its program, but for EAX, which the kernel may have set with a reply.
pub record IsIn (k : Slot) (b : Born) (path argv : ℕ) (stage : Stage) : Type 0 where
  pub regs : Regs
  pub program : b.program ≡ guest regs
  pub eax : ℕ
  pub registers : k.registers ≡ record regs { eax = eax }
  pub phase : b.phase ≡ in_service (service.Spawn path argv) stage
  pub silent : k.rendezvous.receiving ≡ false
  pub awake : b.blocked ≡ false

-- and has found this out
pub record Found (k : Slot) (b : Born) (path argv : ℕ) (stage : Stage) (found : Spawning) : Type 0 where
  pub is_in : IsIn k b path argv stage
  pub is : b.spawning ≡ Some found

-- ---- what the program gives

-- it has so many addresses, none of which is 0, and of the next these bytes
pub record IsListing (v : View) (k : Slot) (b : Born) (path argv index done word : ℕ) : Type 0 where
  pub name : List ℕ
  pub addresses : List ℕ
  pub taken : List ℕ
  pub stage : Stage
  pub lists : Lists b name addresses taken stage
  pub is_in : IsIn k b path argv stage
  pub path_kept : HasPath v name
  pub kept : HasAddresses v addresses
  pub are : All (λ address. (address ≢ 0) × (address < 2 ^ 32)) addresses
  pub many : length addresses ≡ index
  pub most : index ≤ ARGS_MAX
  pub bytes : length taken ≡ done
  pub few : done < 4
  pub word_is : take done (to_le_bytes w32 word) ≡ taken
  pub small : AreBytes taken

-- one more address was taken, which is to be kept
pub record HasAddress (v : View) (k : Slot) (b : Born) (path argv index word : ℕ) : Type 0 where
  pub name : List ℕ
  pub addresses : List ℕ
  pub stage : Stage
  pub lists : Lists b name (addresses ++ word ∷ []) [] stage
  pub is_in : IsIn k b path argv stage
  pub path_kept : HasPath v name
  pub kept : HasAddresses v addresses
  pub are : All (λ address. (address ≢ 0) × (address < 2 ^ 32)) addresses
  pub many : length addresses ≡ index
  pub most : index ≤ ARGS_MAX
  pub room : word ≢ 0 → index < ARGS_MAX
  pub small : word < 2 ^ 32

-- so many bytes of the strings are in their page, at most: where they have no room there, none is looked for
abbrev pub kept_strings : ℕ → List ℕ → List ℕ
kept_strings used bytes = if nat_le used PGSIZE then bytes else []

-- It has so many words, whose strings have so many bytes, and of the next these bytes.
pub record IsQuoting (v : View) (k : Slot) (b : Born) (path argv index used done : ℕ) : Type 0 where
  pub name : List ℕ
  pub left : List ℕ
  pub words : List (List ℕ)
  pub taken : List ℕ
  pub stage : Stage
  pub quotes : Quotes b name left words taken stage
  pub is_in : IsIn k b path argv stage
  pub path_kept : HasPath v name
  pub addresses : List ℕ
  pub kept : HasAddresses v (addresses ++ 0 ∷ [])
  pub are : All (λ address. (address ≢ 0) × (address < 2 ^ 32)) addresses
  pub few : length addresses ≤ ARGS_MAX
  pub reached : index ≤ length addresses
  pub left_is : left ≡ drop index addresses
  pub many : length words ≡ index
  pub used_is : used ≡ min (strings_size words) (PGSIZE + 1)
  pub done_is : length taken ≡ done
  pub short : done ≤ PGSIZE
  pub small : AreBytes taken
  pub small_words : All AreBytes words
  pub no_ends : All HasNoEnd words
  pub strings : GivenHas v (kept_strings (used + done) (strings_of words ++ taken))

-- the next word's address is this one
pub record IsAtString (v : View) (k : Slot) (b : Born) (path argv index address used done : ℕ) : Type 0 where
  pub so : IsQuoting v k b path argv index used done
  pub rest : List ℕ
  pub next : so.left ≡ address ∷ rest
  pub within : done < PGSIZE

-- It has loaded the last so many of the bytes that it has taken of the next word, and its page has those before, none of which is the end.
pub record IsKeepingString (v : View) (k : Slot) (b : Born) (path argv index address used done word left : ℕ) : Type 0 where
  pub name : List ℕ
  pub addresses_left : List ℕ
  pub words : List (List ℕ)
  pub taken : List ℕ
  pub found : Found k b path argv (taking taken) (quoting name (address ∷ addresses_left) words)
  pub path_kept : HasPath v name
  pub addresses : List ℕ
  pub kept : HasAddresses v (addresses ++ 0 ∷ [])
  pub are : All (λ one. (one ≢ 0) × (one < 2 ^ 32)) addresses
  pub few : length addresses ≤ ARGS_MAX
  pub left_is : address ∷ addresses_left ≡ drop index addresses
  pub many : length words ≡ index
  pub used_is : used ≡ min (strings_size words) (PGSIZE + 1)
  pub many_taken : length taken ≡ done + left
  pub short : done + left ≤ PGSIZE
  pub some : 0 < left
  pub last : left ≤ 4
  pub word_is : take left (to_le_bytes w32 word) ≡ drop done taken
  pub small : AreBytes taken
  pub small_words : All AreBytes words
  pub no_ends : All HasNoEnd words
  pub no_end : HasNoEnd (take done taken)
  pub strings : GivenHas v (kept_strings (used + done) (strings_of words ++ take done taken))

-- What it is given is refused: the next byte of an address, or of a string, lies outside of the fence; there is one address more than may be, or
-- none; a string has no end; or the words need more than a page.
pub data IsGivenWrongly (b : Born) (path argv : ℕ) : Stage → Type 0 where
  address_outside : (name addresses taken : List ℕ) (stage : Stage) → Lists b name addresses taken stage →
      All (λ address. (address ≢ 0) × (address < 2 ^ 32)) addresses → length addresses ≤ ARGS_MAX →
      is_inside (address_place argv (length addresses) (length taken)) ≡ false → IsGivenWrongly b path argv stage
  too_many : (name addresses : List ℕ) (word : ℕ) (stage : Stage) → Lists b name (addresses ++ word ∷ []) [] stage → length addresses ≡ ARGS_MAX →
      word ≢ 0 → IsGivenWrongly b path argv stage
  string_outside : (name left taken : List ℕ) (words : List (List ℕ)) (address : ℕ) (stage : Stage) → Quotes b name (address ∷ left) words taken stage →
      is_inside (string_place address (length taken)) ≡ false → IsGivenWrongly b path argv stage
  string_endless : (name left taken : List ℕ) (words : List (List ℕ)) (address : ℕ) (stage : Stage) → Quotes b name (address ∷ left) words taken stage →
      length taken ≡ PGSIZE → IsGivenWrongly b path argv stage
  no_fit : (name : List ℕ) (words : List (List ℕ)) (stage : Stage) → Quotes b name [] words [] stage → fits_stack words ≡ false →
      IsGivenWrongly b path argv stage

-- All words are taken, so many with so many bytes, and may be given to a program.
pub record HasWords (v : View) (k : Slot) (b : Born) (path argv : ℕ) (words : List (List ℕ)) : Type 0 where
  pub name : List ℕ
  pub stage : Stage
  pub quotes : Quotes b name [] words [] stage
  pub is_in : IsIn k b path argv stage
  pub path_kept : HasPath v name
  pub fits : fits_stack words ≡ true
  pub small_words : All AreBytes words
  pub no_ends : All HasNoEnd words

pub record HasStrings (v : View) (k : Slot) (b : Born) (path argv count size : ℕ) : Type 0 where
  pub words : List (List ℕ)
  pub has : HasWords v k b path argv words
  pub count_is : count ≡ length words
  pub size_is : size ≡ strings_size words
  pub strings : GivenHas v (strings_of words)

-- what the page of the child's stack has, where so many of the strings' bytes are put, and the addresses of so many of them
abbrev pub stack_so_far : List (List ℕ) → ℕ → ℕ → List ℕ
stack_so_far words copied index =
    overlaid (overlaid zero_page (PGSIZE - strings_size words) (take copied (strings_of words)))
    (stack_pointer words + 8 - (USTACKTOP - PGSIZE)) (bytes_of_words (take index (addresses_from (USTACKTOP - strings_size words) words)))

-- the byte behind so many of the strings' bytes is one of the string of this number
pub record LiesIn (words : List (List ℕ)) (index copied : ℕ) : Type 0 where
  pub below : index < length words
  pub from : strings_size (take index words) ≤ copied
  pub to : copied < strings_size (take (index + 1) words)

pub record IsStacking (v : View) (k : Slot) (b : Born) (path argv count size index copied addressed : ℕ) : Type 0 where
  pub has : HasStrings v k b path argv count size
  pub lies : LiesIn has.words index copied
  pub most : copied < size
  pub kept : PageHas v (page_number SPAWN_STACK) 0 (stack_so_far has.words copied addressed)

-- all strings and their addresses are put there, and then perhaps the place of these
pub record HasStacked (v : View) (k : Slot) (b : Born) (path argv count size : ℕ) (page : List (List ℕ) → List ℕ) : Type 0 where
  pub has : HasStrings v k b path argv count size
  pub kept : PageHas v (page_number SPAWN_STACK) 0 (page has.words)

abbrev pub with_strings : List (List ℕ) → List ℕ
with_strings words = stack_so_far words (strings_size words) (length words + 1)

abbrev pub with_argv : List (List ℕ) → List ℕ
with_argv words = overlaid (with_strings words) (stack_pointer words + 4 - (USTACKTOP - PGSIZE)) (to_le_bytes w32 (stack_pointer words + 8))

-- it has the path, and nothing else
pub record HasOnlyPath (v : View) (k : Slot) (b : Born) (path argv : ℕ) : Type 0 where
  pub name : List ℕ
  pub stage : Stage
  pub lists : Lists b name [] [] stage
  pub is_in : IsIn k b path argv stage
  pub path_kept : HasPath v name

-- the byte at an address lies in the fence, and may be loaded, or not
pub record MayLoad (v : View) (va : ℕ) : Type 0 where
  pub inside : is_inside va ≡ true
  pub allowed : is_refused_by false (v.row (page_number va)) ≡ false

pub record MayNotLoad (v : View) (va : ℕ) : Type 0 where
  pub inside : is_inside va ≡ true
  pub refused : is_refused_by false (v.row (page_number va)) ≡ true

-- the region of an address has a table
abbrev pub HasTableAt : View → ℕ → Type 0
HasTableAt v va = v.tables (region_index va) ≡ true

abbrev pub GivenStands : View → Slot → Born → ℕ → ℕ → GivenStep → Type 0
GivenStands v k b path argv given.TakingGiven = HasOnlyPath v k b path argv
GivenStands v k b path argv (given.AddressRegion index done word) =
    IsListing v k b path argv index done word × (is_inside (address_place argv index done) ≡ true)
GivenStands v k b path argv (given.AddressEntry index done word) =
    IsListing v k b path argv index done word × (is_inside (address_place argv index done) ≡ true) × HasTableAt v (address_place argv index done)
GivenStands v k b path argv (given.AddressLoading index done word) =
    IsListing v k b path argv index done word × MayLoad v (address_place argv index done)
GivenStands v k b path argv (given.AddressFaulting index done) =
    ((word : ℕ) × IsListing v k b path argv index done word) × MayNotLoad v (address_place argv index done)
GivenStands v k b path argv (given.AddressKeeping index word) =
    HasAddress v k b path argv index word × MayLoad v (address_place argv index 3)
GivenStands v k b path argv (given.StringAddress index used) = IsQuoting v k b path argv index used 0
GivenStands v k b path argv (given.StringRegion index address used done) =
    IsAtString v k b path argv index address used done × (is_inside (string_place address done) ≡ true)
GivenStands v k b path argv (given.StringEntry index address used done) =
    IsAtString v k b path argv index address used done × (is_inside (string_place address done) ≡ true) × HasTableAt v (string_place address done)
GivenStands v k b path argv (given.StringLoading index address used done) =
    IsAtString v k b path argv index address used done × MayLoad v (string_place address done)
GivenStands v k b path argv (given.StringFaulting address done) =
    ((index : ℕ) × (used : ℕ) × IsAtString v k b path argv index address used done) × MayNotLoad v (string_place address done)
GivenStands v k b path argv (given.StringKeeping index address used done word left) =
    IsKeepingString v k b path argv index address used done word left × MayLoad v (string_place address (done + left - 1))
GivenStands v k b path argv (given.TakingStack count size) = HasStrings v k b path argv count size
GivenStands v k b path argv (given.StringFirst count size index copied) =
    (so : IsStacking v k b path argv count size index copied index) × (copied ≡ strings_size (take index so.has.words))
GivenStands v k b path argv (given.StringCopying count size index copied) = IsStacking v k b path argv count size index copied (index + 1)
GivenStands v k b path argv (given.StringPutting count size index copied byte) =
    (so : IsStacking v k b path argv count size index copied (index + 1)) × (byte ≡ slice_index (strings_of so.has.words) copied)
GivenStands v k b path argv (given.StoringArgv count size) = HasStacked v k b path argv count size with_strings
GivenStands v k b path argv (given.StoringArgc count size) = HasStacked v k b path argv count size with_argv

-- ---- the file is opened

-- the words are taken, and the child's stack is ready; nothing is asked
pub record IsReady (v : View) (k : Slot) (b : Born) (path argv esp : ℕ) : Type 0 where
  pub words : List (List ℕ)
  pub has : HasWords v k b path argv words
  pub stack : HasStack v words esp

-- this is the lowest descriptor that is free, or their number where none is
pub data IsFreeOrNone (v : View) (fd : ℕ) : Type 0 where
  is_free : IsLowestFree v.row fd → IsFreeOrNone v fd
  none_is : fd ≡ DESCRIPTORS → EachIsOpenBelow v.row DESCRIPTORS → IsFreeOrNone v fd

-- where the page of the reply is put: nowhere, where no descriptor is free
abbrev pub destination_at : ℕ → ℕ
destination_at fd = if nat_lt fd DESCRIPTORS then FDTABLE + PGSIZE * fd else UTOP

-- its page tells the request, too
pub record TellsFile (v : View) (k : Slot) (b : Born) (path argv esp fd : ℕ) : Type 0 where
  pub ready : IsReady v k b path argv esp
  pub free : IsFreeOrNone v fd
  pub mode : Tells v REQUEST_MODE 0

-- It has asked, for a program with these words.
pub record HasAskedFile (v : View) (k : Slot) (b : Born) (path argv esp fd : ℕ) : Type 0 where
  pub words : List (List ℕ)
  pub found : Found k b path argv asked (opening words)
  pub stack : HasStack v words esp
  pub free : IsFreeOrNone v fd

-- It waits for the reply; a page that comes with it is put there.
pub record IsAwaitingReply (k : Slot) (b : Born) (path argv destination : ℕ) : Type 0 where
  pub regs : Regs
  pub program : b.program ≡ guest regs
  pub eax : ℕ
  pub registers : k.registers ≡ record regs { eax = eax }
  pub phase : b.phase ≡ in_service (service.Spawn path argv) awaiting
  pub blocked : b.blocked ≡ true
  pub receives : k.rendezvous.receiving ≡ true
  pub wanted : k.rendezvous.wanted ≡ FIRST_ENV_ID
  pub destination_is : k.rendezvous.destination ≡ destination

-- what is answered by the word of the reply: that is 0 where the file is open
abbrev pub opened_word : ℕ → ℕ → ℕ
opened_word value fd = if value == 0 then (if nat_lt fd DESCRIPTORS then fd else negated E_MAX_OPEN) else value

-- where it waits, or where the reply has come and is not read
pub data AwaitsFile (v : View) (k : Slot) (b : Born) (path argv fd : ℕ) (words : List (List ℕ)) : Type 0 where
  awaits_file : IsAwaitingReply k b path argv (destination_at fd) → b.spawning ≡ Some (opening words) → IsFreeOrNone v fd →
      AwaitsFile v k b path argv fd words
  has_file : Found k b path argv (replied [] (opened_word k.rendezvous.value fd)) (opening words) → k.rendezvous.value < 2 ^ 32 → fd ≤ DESCRIPTORS →
      (k.rendezvous.value ≢ 0 → is_count k.rendezvous.value ≡ false) → (k.rendezvous.value ≡ 0 → fd < DESCRIPTORS → IsFileOpen v fd) →
      AwaitsFile v k b path argv fd words

pub record IsOpeningFile (v : View) (k : Slot) (b : Born) (path argv esp fd : ℕ) : Type 0 where
  pub words : List (List ℕ)
  pub stack : HasStack v words esp
  pub so : AwaitsFile v k b path argv fd words

-- a descriptor is its file's
pub record IsOfFile (v : View) (fd : ℕ) : Type 0 where
  pub below : fd < DESCRIPTORS
  pub file : IsFileOpen v fd

-- and tells this size
pub record IsOfFileWith (v : View) (fd size : ℕ) : Type 0 where
  pub of_file : IsOfFile v fd
  pub size_is : size_of (v.bytes of_file.file.entry.frame) ≡ size

pub record HasFile (v : View) (k : Slot) (b : Born) (path argv esp fd : ℕ) : Type 0 where
  pub words : List (List ℕ)
  pub found : Found k b path argv (replied [] fd) (opening words)
  pub stack : HasStack v words esp
  pub of_file : IsOfFile v fd

abbrev pub OpeningStands : View → Slot → Born → ℕ → ℕ → OpeningStep → Type 0
OpeningStands v k b path argv (opening_step.FreeRegion esp) = IsReady v k b path argv esp
OpeningStands v k b path argv (opening_step.FreeEntry esp fd) =
    IsReady v k b path argv esp × (fd < DESCRIPTORS) × EachIsOpenBelow v.row fd × HasTable v
OpeningStands v k b path argv (opening_step.StoringMode esp fd) = IsReady v k b path argv esp × IsFreeOrNone v fd
OpeningStands v k b path argv (opening_step.OpenIdentifying esp fd) = TellsFile v k b path argv esp fd
OpeningStands v k b path argv (opening_step.OpenAsking esp fd id) = (id ≡ k.id) × TellsFile v k b path argv esp fd
OpeningStands v k b path argv (opening_step.OpenPausing esp fd id) = (id ≡ k.id) × TellsFile v k b path argv esp fd
OpeningStands v k b path argv (opening_step.OpenAwaiting esp fd id) = (id ≡ k.id) × HasAskedFile v k b path argv esp fd
OpeningStands v k b path argv (opening_step.ReadingOpened esp fd id) = (id ≡ k.id) × IsOpeningFile v k b path argv esp fd
OpeningStands v k b path argv (opening_step.LoadingSize esp fd) = HasFile v k b path argv esp fd

-- ---- its parts are read

-- what is left of the bytes of a program header's segment behind so many, which are whole pieces, in pieces
abbrev pub rest_of : (ℕ → ProgramHeader) → ℕ → ℕ → List Piece
rest_of headers header done =
    if is_loaded (headers header) then drop ((done + (TRANSFER_MAX - 1)) / TRANSFER_MAX) (pieces_of (segment_of (headers header))) else []

-- and of those behind it, of so many in all
abbrev pub pieces_behind : ImageRead → ℕ → ℕ → List Piece
pieces_behind image header done =
    let headers = headers_in image.table in
    rest_of headers header done
    ++ flat_map (λ n. rest_of headers n 0) (rising (header + 1) (entry_count_of (slice_index image.header) - (header + 1)))

-- the pieces that have come are the bytes of all segments up to these of the segment of a program header
abbrev pub HaveComeTo : ImageRead → ℕ → ℕ → List (List ℕ) → Type 0
HaveComeTo image header done pieces = length (all_of pieces) ≡ packed_at (headers_in image.table) header + done

-- its page has the program headers of its image, which pass their tests with a file of this size, and the stack is ready
pub record HasImage (v : View) (image : ImageRead) (headers : ℕ) : Type 0 where
  pub table : GivenHas v image.table
  pub many : headers ≡ entry_count_of (slice_index image.header)
  pub few : headers ≤ ARGS_MAX
  pub whole : length image.table ≡ table_size image.header
  pub small : AreBytes image.table
  pub size : ℕ
  pub passed : first_failed (table_tests size (headers_in image.table) headers) ≡ None
  pub esp : ℕ
  pub stack : HasStack v image.words esp

-- Its segments passed their tests, with a file of some size, and the words have room on its stack.
pub record IsTested (image : ImageRead) : Type 0 where
  pub size : ℕ
  pub passed : first_failed (table_tests size (headers_in image.table) (entry_count_of (slice_index image.header))) ≡ None
  pub fits : fits_stack image.words ≡ true

-- Nothing is asked for; or the piece that was asked for has come whole, and the child has its bytes.
pub data HasPieces (image : ImageRead) (pieces : List (List ℕ)) : List (List ℕ) → Stage → Type 0 where
  none_yet : HasPieces image pieces pieces (taking [])
  and_last : (bytes : List ℕ) (answer : ℕ) (piece : Piece) (rest : List Piece) → pieces_left image pieces ≡ piece ∷ rest → length bytes ≡ piece.len →
      is_count answer ≡ true → HasPieces image pieces (pieces ++ bytes ∷ []) (replied bytes answer)

-- the child has all bytes in front of these of the segment of a program header
pub record IsFilled (v : View) (k : Slot) (b : Born) (path argv fd headers child header done : ℕ) : Type 0 where
  pub image : ImageRead
  pub pieces : List (List ℕ)
  pub had : List (List ℕ)
  pub stage : Stage
  pub found : Found k b path argv stage (loading fd image (child % NENV) pieces)
  pub has : HasPieces image pieces had stage
  pub of_file : IsOfFile v fd
  pub whole : HasImage v image headers
  pub below : header < headers
  pub left : pieces_left image had ≡ pieces_behind image header done
  pub come : HaveComeTo image header done had
  pub sized : IsOfFileWith v fd whole.size

-- The bytes of a segment from so many on up to these are the next piece.
pub record IsNextPiece (image : ImageRead) (header done end : ℕ) : Type 0 where
  pub loaded : is_loaded (headers_in image.table header) ≡ true
  pub some : done < end
  pub end_is : end ≡ min (done + TRANSFER_MAX) (headers_in image.table header).file_len
  pub begins : done % TRANSFER_MAX ≡ 0

-- the header says that a program's first instruction stands at this address
abbrev pub BeginsAt : List ℕ → ℕ → Type 0
BeginsAt header entry_point = (entry_point ≡ entry_point_of (slice_index header)) × (entry_point < 2 ^ 32)

-- What is known before a part is asked for: by which descriptor, how many bytes are wanted, and from which place on.
pub data IsBefore (v : View) (k : Slot) (b : Born) (path argv : ℕ) : FilePart → ℕ → ℕ → ℕ → Type 0 where
  before_header : (esp fd size : ℕ) → (so : HasFile v k b path argv esp fd) → IsOfFileWith v fd size → EHDR_LEN ≤ size →
      IsBefore v k b path argv (part.Header esp fd size) fd EHDR_LEN 0
  before_table : (esp fd size entry_point headers place : ℕ) (words : List (List ℕ)) (header : List ℕ) (answer : ℕ) →
      Found k b path argv (replied header answer) (heading fd words) → IsOfFileWith v fd size → HasStack v words esp →
      BeginsAt header entry_point → headers ≡ entry_count_of (slice_index header) → place ≡ table_of (slice_index header) →
      headers ≤ ARGS_MAX → place + PHDR_LEN * headers ≤ size → length header ≡ EHDR_LEN →
      first_failed (header_tests size (slice_index header)) ≡ None → is_count answer ≡ true →
      IsBefore v k b path argv (part.Table esp fd size entry_point headers place) fd (PHDR_LEN * headers) place
  before_piece : (fd headers child header done end place : ℕ) → (so : IsFilled v k b path argv fd headers child header done) →
      IsNextPiece so.image header done end → place ≡ (headers_in so.image.table header).file_at + done →
      IsBefore v k b path argv (part.Piece fd headers child header done end place) fd (end - done) place

-- it is about to ask for it
pub record Asks (v : View) (k : Slot) (b : Born) (path argv : ℕ) (wanted : FilePart) : Type 0 where
  pub fd : ℕ
  pub count : ℕ
  pub place : ℕ
  pub before : IsBefore v k b path argv wanted fd count place
  pub of_file : IsOfFile v fd

-- the number of the file, in the page of its descriptor
abbrev pub number_at : {v : View} {fd : ℕ} → IsOfFile v fd → ℕ
number_at {v} {fd} so = number_of (v.bytes so.file.entry.frame)

-- and its page tells the number, and how many bytes, and from where
pub record TellsNumber (v : View) (k : Slot) (b : Born) (path argv : ℕ) (wanted : FilePart) : Type 0 where
  pub asks : Asks v k b path argv wanted
  pub number : Tells v REQUEST_FILE (number_at asks.of_file)

pub record TellsCount (v : View) (k : Slot) (b : Born) (path argv : ℕ) (wanted : FilePart) : Type 0 where
  pub so : TellsNumber v k b path argv wanted
  pub count : Tells v REQUEST_COUNT so.asks.count

pub record TellsAll (v : View) (k : Slot) (b : Born) (path argv : ℕ) (wanted : FilePart) : Type 0 where
  pub so : TellsCount v k b path argv wanted
  pub place : Tells v REQUEST_PLACE so.so.asks.place

-- What it has asked for, and how many bytes those are.
pub data IsFor (v : View) (b : Born) : FilePart → ℕ → Type 0 where
  for_header : (esp fd size : ℕ) (words : List (List ℕ)) → b.spawning ≡ Some (heading fd words) → IsOfFileWith v fd size → HasStack v words esp →
      EHDR_LEN ≤ size → IsFor v b (part.Header esp fd size) EHDR_LEN
  for_table : (esp fd size entry_point headers place : ℕ) (words : List (List ℕ)) (header : List ℕ) → b.spawning ≡ Some (tabling fd words header) →
      IsOfFileWith v fd size → HasStack v words esp → BeginsAt header entry_point →
      headers ≡ entry_count_of (slice_index header) → headers ≤ ARGS_MAX →
      IsFor v b (part.Table esp fd size entry_point headers place) (PHDR_LEN * headers)
  for_piece : (fd headers child header done end place : ℕ) (image : ImageRead) (pieces : List (List ℕ)) →
      b.spawning ≡ Some (loading fd image (child % NENV) pieces) → IsOfFile v fd → (whole : HasImage v image headers) → header < headers →
      pieces_left image pieces ≡ pieces_behind image header done → HaveComeTo image header done pieces → IsNextPiece image header done end →
      IsOfFileWith v fd whole.size → IsFor v b (part.Piece fd headers child header done end place) (end - done)

-- where it waits, or where the reply has come and is not read: its page has the bytes, as many as the word tells
pub data AwaitsBytes (v : View) (k : Slot) (b : Born) (path argv count : ℕ) : Type 0 where
  awaits_bytes : IsAwaitingReply k b path argv UTOP → AwaitsBytes v k b path argv count
  has_bytes : (bytes : List ℕ) → IsIn k b path argv (replied bytes k.rendezvous.value) → k.rendezvous.value < 2 ^ 32 →
      length bytes ≡ (if nat_le k.rendezvous.value count then k.rendezvous.value else 0) → AreBytes bytes → PageHas v (page_number UTEMP) 0 bytes →
      AwaitsBytes v k b path argv count

pub record HasAskedPart (v : View) (k : Slot) (b : Born) (path argv : ℕ) (wanted : FilePart) : Type 0 where
  pub count : ℕ
  pub so : IsFor v b wanted count
  pub is_in : IsIn k b path argv asked

pub record IsAwaitingPart (v : View) (k : Slot) (b : Born) (path argv : ℕ) (wanted : FilePart) : Type 0 where
  pub count : ℕ
  pub so : IsFor v b wanted count
  pub awaits : AwaitsBytes v k b path argv count

abbrev pub ReadingStands : View → Slot → Born → ℕ → ℕ → FilePart → ReadStep → Type 0
ReadingStands v k b path argv wanted read.LoadingNumber = Asks v k b path argv wanted
ReadingStands v k b path argv wanted (read.StoringNumber number) = (so : Asks v k b path argv wanted) × (number ≡ number_at so.of_file)
ReadingStands v k b path argv wanted read.StoringCount = TellsNumber v k b path argv wanted
ReadingStands v k b path argv wanted read.StoringPlace = TellsCount v k b path argv wanted
ReadingStands v k b path argv wanted read.Identifying = TellsAll v k b path argv wanted
ReadingStands v k b path argv wanted (read.Asking id) = (id ≡ k.id) × TellsAll v k b path argv wanted
ReadingStands v k b path argv wanted (read.Pausing id) = (id ≡ k.id) × TellsAll v k b path argv wanted
ReadingStands v k b path argv wanted (read.Awaiting id) = (id ≡ k.id) × HasAskedPart v k b path argv wanted
ReadingStands v k b path argv wanted (read.ReadingReply id) = (id ≡ k.id) × IsAwaitingPart v k b path argv wanted

-- ---- they are tested

-- the header has come whole, and its page has it
pub record HasHeader (v : View) (k : Slot) (b : Born) (path argv esp fd size : ℕ) : Type 0 where
  pub words : List (List ℕ)
  pub header : List ℕ
  pub answer : ℕ
  pub found : Found k b path argv (replied header answer) (heading fd words)
  pub come : is_count answer ≡ true
  pub stack : HasStack v words esp
  pub of_file : IsOfFileWith v fd size
  pub sized : EHDR_LEN ≤ size
  pub long : length header ≡ EHDR_LEN
  pub small : AreBytes header
  pub kept : PageHas v (page_number UTEMP) 0 header

-- and the first so many of its tests pass
pub record HasTested (v : View) (k : Slot) (b : Born) (path argv esp fd size tests : ℕ) : Type 0 where
  pub has : HasHeader v k b path argv esp fd size
  pub passed : first_failed (take tests (header_tests size (slice_index has.header))) ≡ None

-- the address of the first instruction is this one
abbrev pub IsEntryPoint : {v : View} {k : Slot} {b : Born} {path argv esp fd size tests : ℕ} → HasTested v k b path argv esp fd size tests → ℕ → Type 0
IsEntryPoint so entry_point = entry_point ≡ entry_point_of (slice_index so.has.header)

-- and the program headers stand at this place
abbrev pub IsTablePlace : {v : View} {k : Slot} {b : Born} {path argv esp fd size tests : ℕ} → HasTested v k b path argv esp fd size tests → ℕ → Type 0
IsTablePlace so place = place ≡ table_of (slice_index so.has.header)

-- the program headers have come, as many as the header says
pub record HasHeaders (v : View) (k : Slot) (b : Born) (path argv esp fd size entry_point headers : ℕ) : Type 0 where
  pub words : List (List ℕ)
  pub header : List ℕ
  pub table : List ℕ
  pub answer : ℕ
  pub found : Found k b path argv (replied table answer) (tabling fd words header)
  pub come : is_count answer ≡ true
  pub stack : HasStack v words esp
  pub of_file : IsOfFileWith v fd size
  pub entry_point_is : BeginsAt header entry_point
  pub many : headers ≡ entry_count_of (slice_index header)
  pub few : headers ≤ ARGS_MAX
  pub whole : length table ≡ table_size header
  pub small : AreBytes table

-- so many of their words are copied
pub record IsCopyingHeaders (v : View) (k : Slot) (b : Born) (path argv esp fd size entry_point headers copied : ℕ) : Type 0 where
  pub so : HasHeaders v k b path argv esp fd size entry_point headers
  pub kept : PageHas v (page_number UTEMP) 0 so.table
  pub few : 4 * copied < PHDR_LEN * headers
  pub copied_are : GivenHas v (take (4 * copied) so.table)

-- all are, and the segments of those in front of this one pass their tests
pub record IsTesting (v : View) (k : Slot) (b : Born) (path argv esp fd size entry_point headers header : ℕ) : Type 0 where
  pub so : HasHeaders v k b path argv esp fd size entry_point headers
  pub kept : GivenHas v so.table
  pub below : header < headers
  pub passed : first_failed (table_tests size (headers_in so.table) header) ≡ None

-- of this one so much is known
pub record IsTestingSegment (v : View) (k : Slot) (b : Born) (path argv esp fd size entry_point headers header : ℕ) (known : ProgramHeader → Type 0) : Type 0 where
  pub testing_it : IsTesting v k b path argv esp fd size entry_point headers header
  pub so : known (headers_in testing_it.so.table header)

abbrev pub IsOfKind : ProgramHeader → Type 0
IsOfKind header = header.kind ≡ PT_LOAD

abbrev pub HasMemory : ℕ → ProgramHeader → Type 0
HasMemory memory header = (is_loaded header ≡ true) × (header.mem_len ≡ memory)

abbrev pub LiesAt : ℕ → ℕ → ProgramHeader → Type 0
LiesAt va memory header =
    HasMemory memory header × (header.va ≡ va) × (lies_within header USTABDATA UTEMP || lies_within header UTEXT FDTABLE ≡ true)

abbrev pub HasLength : ℕ → ℕ → ℕ → ProgramHeader → Type 0
HasLength va memory length header = LiesAt va memory header × (header.file_len ≡ length) × (length ≤ memory)

-- Its own tests pass, and those with the segments of the program headers in front of another one.
pub record IsComparing (v : View) (k : Slot) (b : Born) (path argv esp fd size entry_point headers header va memory other : ℕ) : Type 0 where
  pub testing_it : IsTesting v k b path argv esp fd size entry_point headers header
  pub lies : HasMemory memory (headers_in testing_it.so.table header) × ((headers_in testing_it.so.table header).va ≡ va)
  pub alone : first_failed (take 2 (segment_tests size (headers_in testing_it.so.table) header)) ≡ None
  pub other_below : other < header
  pub apart : first_failed (overlap_tests (headers_in testing_it.so.table) header other) ≡ None

-- and of the other one so much is known
pub record IsComparingWith (v : View) (k : Slot) (b : Born) (path argv esp fd size entry_point headers header va memory other : ℕ) (known : ProgramHeader → Type 0) : Type 0 where
  pub comparing : IsComparing v k b path argv esp fd size entry_point headers header va memory other
  pub so : known (headers_in comparing.testing_it.so.table other)

abbrev pub nothing_known : ProgramHeader → Type 0
nothing_known header = Unit {0}

abbrev pub TestingStands : View → Slot → Born → ℕ → ℕ → TestingStep → Type 0
TestingStands v k b path argv (testing.HeaderMagic esp fd size) = HasTested v k b path argv esp fd size 1
TestingStands v k b path argv (testing.HeaderClass esp fd size) = HasTested v k b path argv esp fd size 2
TestingStands v k b path argv (testing.HeaderKind esp fd size) = HasTested v k b path argv esp fd size 3
TestingStands v k b path argv (testing.HeaderEntryPoint esp fd size) = HasTested v k b path argv esp fd size 5
TestingStands v k b path argv (testing.HeaderTable esp fd size entry_point) =
    (so : HasTested v k b path argv esp fd size 5) × IsEntryPoint so entry_point
TestingStands v k b path argv (testing.HeaderLength esp fd size entry_point place) =
    (so : HasTested v k b path argv esp fd size 5) × IsEntryPoint so entry_point × IsTablePlace so place
TestingStands v k b path argv (testing.HeaderCount esp fd size entry_point place) =
    (so : HasTested v k b path argv esp fd size 6) × IsEntryPoint so entry_point × IsTablePlace so place
TestingStands v k b path argv (testing.TableLoading esp fd size entry_point headers copied) =
    IsCopyingHeaders v k b path argv esp fd size entry_point headers copied
TestingStands v k b path argv (testing.TableStoring esp fd size entry_point headers copied word) =
    (so : IsCopyingHeaders v k b path argv esp fd size entry_point headers copied) × (word ≡ word_at (slice_index so.so.table) (4 * copied))
TestingStands v k b path argv (testing.SegmentKind esp fd size entry_point headers header) = IsTesting v k b path argv esp fd size entry_point headers header
TestingStands v k b path argv (testing.SegmentMemory esp fd size entry_point headers header) =
    IsTestingSegment v k b path argv esp fd size entry_point headers header IsOfKind
TestingStands v k b path argv (testing.SegmentAddress esp fd size entry_point headers header memory) =
    IsTestingSegment v k b path argv esp fd size entry_point headers header (HasMemory memory)
TestingStands v k b path argv (testing.SegmentLength esp fd size entry_point headers header va memory) =
    IsTestingSegment v k b path argv esp fd size entry_point headers header (LiesAt va memory)
TestingStands v k b path argv (testing.SegmentOffset esp fd size entry_point headers header va memory length) =
    IsTestingSegment v k b path argv esp fd size entry_point headers header (HasLength va memory length)
TestingStands v k b path argv (testing.OtherKind esp fd size entry_point headers header va memory other) =
    IsComparing v k b path argv esp fd size entry_point headers header va memory other
TestingStands v k b path argv (testing.OtherMemory esp fd size entry_point headers header va memory other) =
    IsComparingWith v k b path argv esp fd size entry_point headers header va memory other IsOfKind
TestingStands v k b path argv (testing.OtherAddress esp fd size entry_point headers header va memory other other_memory) =
    IsComparingWith v k b path argv esp fd size entry_point headers header va memory other (HasMemory other_memory)

-- ---- the child is made

-- the file is an image, and the child may be made
pub record IsImage (v : View) (k : Slot) (b : Born) (path argv esp fd entry_point headers : ℕ) : Type 0 where
  pub size : ℕ
  pub so : HasHeaders v k b path argv esp fd size entry_point headers
  pub kept : GivenHas v so.table
  pub passed : first_failed (table_tests size (headers_in so.table) headers) ≡ None

-- the words of the record of the child's registers: those of its first instruction and of its stack
abbrev pub register_word : ℕ → ℕ → ℕ → ℕ
register_word entry_point esp index =
    if index == 12 then entry_point else if index == 14 then FL_IF + FL_1 else if index == 15 then esp else 0

abbrev pub register_words : ℕ → ℕ → ℕ → List ℕ
register_words entry_point esp count = map (register_word entry_point esp) (rising 0 count)

-- the child is made, and has nothing of its image
pub record HasChild (v : View) (k : Slot) (b : Born) (path argv fd headers child : ℕ) (image : ImageRead) : Type 0 where
  pub found : Found k b path argv (taking []) (loading fd image (child % NENV) [])
  pub of_file : IsOfFile v fd
  pub whole : HasImage v image headers
  pub sized : IsOfFileWith v fd whole.size

-- so many words of the record are in its page
pub record IsRecording (v : View) (k : Slot) (b : Born) (path argv esp fd entry_point headers child index : ℕ) : Type 0 where
  pub image : ImageRead
  pub has : HasChild v k b path argv fd headers child image
  pub esp_is : esp ≡ stack_pointer image.words
  pub entry_point_is : BeginsAt image.header entry_point
  pub below : index < 17
  pub kept : PageHas v (page_number UTEMP) 0 (bytes_of_words (register_words entry_point esp index))

-- all are
pub record HasRecord (v : View) (k : Slot) (b : Born) (path argv fd headers child : ℕ) : Type 0 where
  pub image : ImageRead
  pub has : HasChild v k b path argv fd headers child image
  pub begins : entry_point_of (slice_index image.header) < 2 ^ 32
  pub kept : PageHas v (page_number UTEMP) 0
      (bytes_of_words (register_words (entry_point_of (slice_index image.header)) (stack_pointer image.words) 17))

-- The child has the pages of the segments of the program headers in front of this one, of which so much is known.
pub record IsPlacing (v : View) (k : Slot) (b : Born) (path argv fd headers child header : ℕ) (known : ProgramHeader → Type 0) : Type 0 where
  pub image : ImageRead
  pub has : HasChild v k b path argv fd headers child image
  pub below : header < headers
  pub so : known (headers_in image.table header)

-- these are its pages
abbrev pub HasPages : ℕ → ℕ → ProgramHeader → Type 0
HasPages page last header =
    (is_loaded header ≡ true) × (header.va / PGSIZE ≤ page) × (page ≤ last) × (last ≡ (header.va + header.mem_len - 1) / PGSIZE)

-- The child has all bytes in front of these of the segment of a program header, of which so much is known.
pub record IsFilling (v : View) (k : Slot) (b : Born) (path argv fd headers child header done : ℕ) (known : ProgramHeader → Type 0) : Type 0 where
  pub filled : IsFilled v k b path argv fd headers child header done
  pub so : known (headers_in filled.image.table header)

-- these bytes are its next piece
abbrev pub HasNext : ℕ → ℕ → ProgramHeader → Type 0
HasNext done end header =
    (is_loaded header ≡ true) × (done < end) × (end ≡ min (done + TRANSFER_MAX) header.file_len) × (done % TRANSFER_MAX ≡ 0)

-- where a piece begins that ends with these bytes, of which so many are put
abbrev pub piece_start : ℕ → ℕ
piece_start done = done - done % TRANSFER_MAX

-- The piece from there on has come, of which the child has the bytes in front of these.
pub record IsPutting (v : View) (k : Slot) (b : Born) (path argv fd headers child header done end : ℕ) : Type 0 where
  pub image : ImageRead
  pub pieces : List (List ℕ)
  pub bytes : List ℕ
  pub answer : ℕ
  pub found : Found k b path argv (replied bytes answer) (loading fd image (child % NENV) pieces)
  pub counts : is_count answer ≡ true
  pub of_file : IsOfFile v fd
  pub whole : HasImage v image headers
  pub below : header < headers
  pub loaded : is_loaded (headers_in image.table header) ≡ true
  pub within : done < end
  pub end_is : end ≡ min (piece_start done + TRANSFER_MAX) (headers_in image.table header).file_len
  pub left : pieces_left image pieces ≡ pieces_behind image header (piece_start done)
  pub come : HaveComeTo image header (piece_start done) pieces
  pub long : length bytes ≡ end - piece_start done
  pub small : AreBytes bytes
  pub kept : PageHas v (page_number UTEMP) 0 bytes
  pub sized : IsOfFileWith v fd whole.size

-- the segment begins there
pub record IsPuttingAt (v : View) (k : Slot) (b : Born) (path argv fd headers child header va done end : ℕ) : Type 0 where
  pub putting : IsPutting v k b path argv fd headers child header done end
  pub va_is : (headers_in putting.image.table header).va ≡ va

-- how many bytes are put at once
abbrev pub put_at_once : ℕ → ℕ → ℕ
put_at_once at wanted = if (at % 4 == 0) && nat_le 4 wanted then 4 else 1

-- a piece of a segment ends behind so many of its bytes
abbrev pub IsPieceEnd : ℕ → ProgramHeader → Type 0
IsPieceEnd end header = (end ≤ header.file_len) × (end ≢ header.file_len → end % TRANSFER_MAX ≡ 0)

-- all bytes of the piece are put
pub record HasPut (v : View) (k : Slot) (b : Born) (path argv fd headers child header end : ℕ) : Type 0 where
  pub filled : IsFilled v k b path argv fd headers child header end
  pub some : 0 < end
  pub loaded : is_loaded (headers_in filled.image.table header) ≡ true
  pub ends : IsPieceEnd end (headers_in filled.image.table header)

abbrev pub BearingStands : View → Slot → Born → ℕ → ℕ → BearingStep → Type 0
BearingStands v k b path argv (bearing.MakingChild esp fd entry_point headers) = IsImage v k b path argv esp fd entry_point headers
BearingStands v k b path argv (bearing.StoringRegister esp fd entry_point headers child index) =
    IsRecording v k b path argv esp fd entry_point headers child index
BearingStands v k b path argv (bearing.SettingRegisters fd headers child) = HasRecord v k b path argv fd headers child
BearingStands v k b path argv (bearing.PlacingKind fd headers child header) = IsPlacing v k b path argv fd headers child header nothing_known
BearingStands v k b path argv (bearing.PlacingMemory fd headers child header) = IsPlacing v k b path argv fd headers child header IsOfKind
BearingStands v k b path argv (bearing.PlacingAddress fd headers child header memory) = IsPlacing v k b path argv fd headers child header (HasMemory memory)
BearingStands v k b path argv (bearing.PlacingPage fd headers child header page last) = IsPlacing v k b path argv fd headers child header (HasPages page last)
BearingStands v k b path argv (bearing.PieceKind fd headers child header) = IsFilling v k b path argv fd headers child header 0 nothing_known
BearingStands v k b path argv (bearing.PieceMemory fd headers child header) = IsFilling v k b path argv fd headers child header 0 IsOfKind
BearingStands v k b path argv (bearing.PieceLength fd headers child header done) =
    IsFilling v k b path argv fd headers child header done (λ one. (is_loaded one ≡ true) × IsPieceEnd done one)
BearingStands v k b path argv (bearing.PieceOffset fd headers child header done end) =
    IsFilling v k b path argv fd headers child header done (HasNext done end)
BearingStands v k b path argv (bearing.PieceAddress fd headers child header done end) =
    IsPutting v k b path argv fd headers child header done end × (done % TRANSFER_MAX ≡ 0)
BearingStands v k b path argv (bearing.MappingHere fd headers child header va done end) = IsPuttingAt v k b path argv fd headers child header va done end
BearingStands v k b path argv (bearing.PieceLoading fd headers child header va done end) = IsPuttingAt v k b path argv fd headers child header va done end
BearingStands v k b path argv (bearing.PieceRest fd headers child header va done end first) =
    (so : IsPuttingAt v k b path argv fd headers child header va done end) × (put_at_once (va + done) (end - done) ≡ 4) × (done % 4 ≢ 0)
    × (first ≡ word_at (slice_index so.putting.bytes) (done % TRANSFER_MAX - done % 4))
BearingStands v k b path argv (bearing.PiecePutting fd headers child header va done end word) =
    (so : IsPuttingAt v k b path argv fd headers child header va done end)
    × (take (put_at_once (va + done) (end - done)) (to_le_bytes w32 word) ≡ take (put_at_once (va + done) (end - done)) (drop (done % TRANSFER_MAX) so.putting.bytes))
BearingStands v k b path argv (bearing.UnmappingHere fd headers child header end) = HasPut v k b path argv fd headers child header end

-- ---- it is finished

-- the child has all bytes, and the descriptor is open still
pub record HasAllBytes (v : View) (k : Slot) (b : Born) (path argv fd child : ℕ) : Type 0 where
  pub image : ImageRead
  pub pieces : List (List ℕ)
  pub had : List (List ℕ)
  pub stage : Stage
  pub found : Found k b path argv stage (loading fd image (child % NENV) pieces)
  pub has : HasPieces image pieces had stage
  pub none_left : pieces_left image had ≡ []
  pub of_file : IsOfFile v fd
  pub tested : IsTested image

-- its page has the program headers, and the rights of the pages of those in front of this one are set, of which so much is known
pub record IsSettling (v : View) (k : Slot) (b : Born) (path argv fd headers child header : ℕ) (known : ProgramHeader → Type 0) : Type 0 where
  pub has : HasAllBytes v k b path argv fd child
  pub whole : HasImage v has.image headers
  pub below : header < headers
  pub so : known (headers_in has.image.table header)

-- it may not be written
abbrev pub IsReadOnly : ProgramHeader → Type 0
IsReadOnly header = (is_loaded header ≡ true) × ((segment_of header).writable ≡ false)

-- The pages from one to another are its pages but for those which a segment touches that may be written, of the program headers in front of
-- another one.
pub record IsSharing (v : View) (k : Slot) (b : Born) (path argv fd headers child header page end other : ℕ) (known : ProgramHeader → Type 0) : Type 0 where
  pub settling_it : IsSettling v k b path argv fd headers child header IsReadOnly
  pub most : other ≤ headers
  pub pages : (p : ℕ) → (nat_le page p && nat_lt p end) ≡ (touches p (segment_of (headers_in settling_it.has.image.table header))
      && not (any_writes p (segments_of (headers_in settling_it.has.image.table) other)))
  pub so : known (headers_in settling_it.has.image.table other)

-- it may be written
abbrev pub IsWritable : ProgramHeader → Type 0
IsWritable header = (is_loaded header ≡ true) × ((segment_of header).writable ≡ true)

abbrev pub IsWritableOf : ℕ → ProgramHeader → Type 0
IsWritableOf memory header = IsWritable header × (header.mem_len ≡ memory)

-- it has the stack page still, and the program headers
pub record HasStackFor (v : View) (k : Slot) (b : Born) (path argv fd child : ℕ) : Type 0 where
  pub has : HasAllBytes v k b path argv fd child
  pub esp : ℕ
  pub stack : HasStack v has.image.words esp

-- the descriptor is dropped, and the child may be born
pub record IsClosed (k : Slot) (b : Born) (path argv child : ℕ) : Type 0 where
  pub image : ImageRead
  pub pieces : List (List ℕ)
  pub found : Found k b path argv (taking []) (closed image (child % NENV) pieces)
  pub none_left : pieces_left image pieces ≡ []
  pub tested : IsTested image

-- a page of its own is shared, and has these bits
pub record IsPassing (v : View) (page perm : ℕ) : Type 0 where
  pub entry : Entry
  pub stands : v.row page ≡ Some entry
  pub shared : is_shared entry.perm ≡ true
  pub perm_is : perm ≡ entry.perm

abbrev pub FinishingStands : View → Slot → Born → ℕ → ℕ → FinishingStep → Type 0
FinishingStands v k b path argv (finishing.RightsKind fd headers child header) = IsSettling v k b path argv fd headers child header nothing_known
FinishingStands v k b path argv (finishing.RightsFlags fd headers child header) =
    IsSettling v k b path argv fd headers child header IsOfKind
FinishingStands v k b path argv (finishing.RightsMemory fd headers child header) =
    IsSettling v k b path argv fd headers child header (λ one. IsOfKind one × ((segment_of one).writable ≡ false))
FinishingStands v k b path argv (finishing.RightsAddress fd headers child header memory) =
    IsSettling v k b path argv fd headers child header (λ one. IsReadOnly one × (one.mem_len ≡ memory))
FinishingStands v k b path argv (finishing.SharedKind fd headers child header page end other) =
    IsSharing v k b path argv fd headers child header page end other nothing_known × (other < headers)
FinishingStands v k b path argv (finishing.SharedFlags fd headers child header page end other) =
    IsSharing v k b path argv fd headers child header page end other IsOfKind × (other < headers)
FinishingStands v k b path argv (finishing.SharedMemory fd headers child header page end other) =
    IsSharing v k b path argv fd headers child header page end other (λ one. IsOfKind one × ((segment_of one).writable ≡ true)) × (other < headers)
FinishingStands v k b path argv (finishing.SharedAddress fd headers child header page end other other_memory) =
    IsSharing v k b path argv fd headers child header page end other (IsWritableOf other_memory) × (other < headers)
FinishingStands v k b path argv (finishing.RightsPage fd headers child header page end) =
    (so : IsSettling v k b path argv fd headers child header IsReadOnly) × (page < end)
    × ((p : ℕ) → page ≤ p → nat_lt p end ≡ (touches p (segment_of (headers_in so.has.image.table header))
    && not (any_writes p (segments_of (headers_in so.has.image.table) headers))))
FinishingStands v k b path argv (finishing.ChildStack fd child) = HasStackFor v k b path argv fd child
FinishingStands v k b path argv (finishing.ChildUpcall fd child) = HasStackFor v k b path argv fd child
FinishingStands v k b path argv (finishing.GivingStack fd child) = HasStackFor v k b path argv fd child
FinishingStands v k b path argv (finishing.ReleasingStack fd child) = HasAllBytes v k b path argv fd child
FinishingStands v k b path argv (finishing.ReleasingGiven fd child) = HasAllBytes v k b path argv fd child
FinishingStands v k b path argv (finishing.ReleasingPath fd child) = HasAllBytes v k b path argv fd child
FinishingStands v k b path argv (finishing.DroppingFile fd child) = HasAllBytes v k b path argv fd child
FinishingStands v k b path argv (finishing.PassingRegion child region) = IsClosed k b path argv child × (region ≤ region_index USTACKTOP)
FinishingStands v k b path argv (finishing.PassingEntry child page) =
    IsClosed k b path argv child × (page < page_number USTACKTOP) × (v.tables (page / NPTENTRIES) ≡ true)
FinishingStands v k b path argv (finishing.PassingPage child page perm) =
    IsClosed k b path argv child × (page < page_number USTACKTOP) × IsPassing v page perm
FinishingStands v k b path argv (finishing.ChildRuns child) = IsClosed k b path argv child

-- ---- it is undone

-- what the reply to a request for a piece tells, where the child is not finished: an error, or fewer bytes than were asked for
pub data IsNoPiece (image : ImageRead) (pieces : List (List ℕ)) (bytes : List ℕ) (answer error : ℕ) : Type 0 where
  is_error : is_count answer ≡ false → error ≡ answer → IsNoPiece image pieces bytes answer error
  is_short : (piece : Piece) (rest : List Piece) → pieces_left image pieces ≡ piece ∷ rest → is_count answer ≡ true → length bytes ≢ piece.len →
      error ≡ negated E_NOT_EXEC → IsNoPiece image pieces bytes answer error

-- The child is to be given back: a piece did not come.
pub record IsCutShort (v : View) (k : Slot) (b : Born) (path argv fd child error : ℕ) : Type 0 where
  pub image : ImageRead
  pub pieces : List (List ℕ)
  pub bytes : List ℕ
  pub answer : ℕ
  pub found : Found k b path argv (replied bytes answer) (loading fd image (child % NENV) pieces)
  pub so : IsNoPiece image pieces bytes answer error
  pub of_file : IsOfFile v fd

-- The descriptor is to be dropped, for this error: the file is no image or can't be read, there is no slot for the child, or it was given back.
pub data IsToDrop (v : View) (k : Slot) (b : Born) (path argv fd error : ℕ) : Type 0 where
  too_short : (size : ℕ) (words : List (List ℕ)) → Found k b path argv (replied [] fd) (opening words) → IsOfFileWith v fd size → size < EHDR_LEN →
      error ≡ negated E_NOT_EXEC → IsToDrop v k b path argv fd error
  no_header : (size : ℕ) (words : List (List ℕ)) (header : List ℕ) (answer : ℕ) → Found k b path argv (replied header answer) (heading fd words) →
      IsOfFileWith v fd size → is_count answer ≡ true →
      (length header ≢ EHDR_LEN) ⊎ (first_failed (header_tests size (slice_index header)) ≢ None) → error ≡ negated E_NOT_EXEC → IsToDrop v k b path argv fd error
  no_table : (size : ℕ) (words : List (List ℕ)) (header table : List ℕ) (answer : ℕ) → Found k b path argv (replied table answer) (tabling fd words header) →
      IsOfFileWith v fd size → is_count answer ≡ true → (length table ≢ table_size header)
      ⊎ (first_failed (table_tests size (headers_in table) (entry_count_of (slice_index header))) ≢ None) →
      error ≡ negated E_NOT_EXEC → IsToDrop v k b path argv fd error
  header_unread : (words : List (List ℕ)) (header : List ℕ) → Found k b path argv (replied header error) (heading fd words) → IsOfFile v fd →
      is_count error ≡ false → IsToDrop v k b path argv fd error
  table_unread : (words : List (List ℕ)) (header table : List ℕ) → Found k b path argv (replied table error) (tabling fd words header) → IsOfFile v fd →
      is_count error ≡ false → IsToDrop v k b path argv fd error
  no_child : Found k b path argv (taking []) (dropping fd error) → IsOfFile v fd → IsToDrop v k b path argv fd error

-- its next step answers an error
pub data Refuses (k : Slot) (b : Born) (path argv answer : ℕ) : Type 0 where
  by_given : (stage : Stage) → IsIn k b path argv stage → IsGivenWrongly b path argv stage → answer ≡ negated E_INVAL → Refuses k b path argv answer
  by_file : (words : List (List ℕ)) → Found k b path argv (replied [] answer) (opening words) → is_count answer ≡ false → Refuses k b path argv answer
  by_drop : Found k b path argv (taking []) (refusing answer) → Refuses k b path argv answer

abbrev pub UndoingStands : View → Slot → Born → ℕ → ℕ → UndoingStep → Type 0
UndoingStands v k b path argv (undoing.DestroyingChild fd child error) = IsCutShort v k b path argv fd child error
UndoingStands v k b path argv (undoing.ClosingFile fd error) = IsToDrop v k b path argv fd error
UndoingStands v k b path argv (undoing.UndoingStack error) = Refuses k b path argv error
UndoingStands v k b path argv (undoing.UndoingGiven error) = Refuses k b path argv error
UndoingStands v k b path argv (undoing.UndoingPath error) = Refuses k b path argv error

-- ---- all of it

abbrev pub StandsAtSpawn : View → Slot → Born → ℕ → ℕ → SpawnStep → Type 0
StandsAtSpawn v k b path argv (spawn.Given at) = GivenStands v k b path argv at
StandsAtSpawn v k b path argv (spawn.Opening at) = OpeningStands v k b path argv at
StandsAtSpawn v k b path argv (spawn.Reading wanted at) = ReadingStands v k b path argv wanted at
StandsAtSpawn v k b path argv (spawn.Testing at) = TestingStands v k b path argv at
StandsAtSpawn v k b path argv (spawn.Bearing at) = BearingStands v k b path argv at
StandsAtSpawn v k b path argv (spawn.Finishing at) = FinishingStands v k b path argv at
StandsAtSpawn v k b path argv (spawn.Undoing at) = UndoingStands v k b path argv at
