-- A service that asks the file server by its page, where that is idle: what it asks for, and that the bytes of the page tell that.
use Rattle.std.proofs.Common.{◌≡◌, ◌≢◌, ◌∙◌, ◌==◌, ◌+◌, ◌-◌, ◌*◌, ◌^◌, ◌++◌, ◌<◌, ◌≤◌, ℕ, zero, suc, Bool, true, false, List, [], ◌∷◌, Option, Some, None, length}
use Rattle.std.proofs.Common.{refl, sym, ap, subst, arith}
use Rattle.std.specs.Prelude.{is_none, min, nat_le, nat_lt, not, slice_index, if◌then◌else◌}
use Rattle.std.specs.Int.{from_le_bytes, to_le_bytes, w32}
use Rattle.std.specs.List.{before_first, list_any, position_or_len}
use Rattle.std.specs.Option.{option_map}
use Rattle.std.proofs.lemmas.Bool.Decides.{nat_tests}
use Rattle.std.proofs.lemmas.Bool.{false≢true}
use Rattle.std.proofs.lemmas.List.{get_or_append_left, get_or_at, length-append, take_all}
use Rattle.std.proofs.lemmas.List.Folds.{length-prefix_len}
use Rattle.std.proofs.lemmas.Nat.{from_le_bytes-to_le_bytes_4}
use Rattle.std.proofs.lemmas.Option.{none-some, same_Some}
use Rattle.std.proofs.Math.Nat.{min-eq_left, min-le_left, min-le_right}
use Rattle.jos_base.specs.declared.numbers.TheConstants.{NENV, PGSIZE, UTEMP}
use Rattle.jos_base.specs.declared.registers.Regs.{Regs}
use Rattle.jos_base.specs.Environments.{Slot}
use Rattle.jos_base.specs.KernelState.{KernelState, slot_at}
use Rattle.jos_base.specs.Reach.{Entry}
use Rattle.jos_base.specs.Words.{page_number, word_at}
use Rattle.jos_base.proofs.Below.{some_below-at, is-values}
use Rattle.jos_base.proofs.Maps.{upd-at}
use Rattle.jos_elf.specs.declared.fault.ElfFault.{ElfFault}
use Rattle.jos_elf.specs.declared.fault.ElfFault.TheVariants.{SegmentRange, Truncated}
use Rattle.jos_elf.specs.declared.header.ProgramHeader.{ProgramHeader}
use Rattle.jos_elf.specs.declared.numbers.TheConstants.{PHDR_LEN}
use Rattle.jos_elf.specs.Tests.{FaultTest, first_failed, is_loaded, is_placed, overlap_tests, segment_tests, table_tests}
use Rattle.fs_layout.specs.FileTree.{open_path, read_file, remove_path, set_file_size, stat_file, write_file}
use Rattle.fs_runs.specs.TreeRuns.{HasPath, bytes_given}
use Rattle.fs_serving.specs.ServerRuns.{AsksFor, IsOpenAs, opens, reads, reads_at, removes, seeks, sizes, stats, writes}
use Rattle.fs_seen.specs.ServerMemory.{sends_page}
use Rattle.lib_os.specs.declared.numbers.TheConstants.{DESCRIPTORS, FSREQ_OPEN, FSREQ_READ_AT, MAXOPEN, OFFSET_MAX, REQUEST_BYTES, REQUEST_COUNT}
use Rattle.lib_os.specs.declared.numbers.TheConstants.{REQUEST_FILE, REQUEST_MODE, REQUEST_PLACE, TRANSFER_MAX}
use Rattle.lib_os.specs.declared.place.Place.TheVariants as place
use Rattle.lib_os.specs.declared.place.Step.TheVariants as step
use Rattle.lib_os.specs.declared.request.RequestKind.{RequestKind}
use Rattle.lib_os.specs.declared.request.RequestKind.TheVariants as kind
use Rattle.lib_os.specs.declared.service.Service.{Service}
use Rattle.lib_os.specs.declared.service.Service.TheVariants as service
use Rattle.lib_os.specs.declared.spawn_steps.FilePart.{FilePart}
use Rattle.lib_os.specs.declared.spawn_steps.OpeningStep.TheVariants as opening_step
use Rattle.lib_os.specs.declared.spawn_steps.ReadStep.{ReadStep}
use Rattle.lib_os.specs.declared.spawn_steps.ReadStep.TheVariants as read
use Rattle.lib_os.specs.declared.spawn_steps.SpawnStep.{SpawnStep}
use Rattle.lib_os.specs.declared.spawn_steps.SpawnStep.TheVariants as spawn
use Rattle.lib_os.specs.AbstractLaws.{client_served}
use Rattle.lib_os.specs.AbstractRun.{abs_step}
use Rattle.lib_os.specs.AbstractState.{AbstractSlot, AbstractState, Born, Object, OpenFile, Request, Server, Stage, act, asked, born, entered, file}
use Rattle.lib_os.specs.AbstractSpawn.{headers_in, with_spawning}
use Rattle.lib_os.specs.AbstractState.{Spawning, gathering, idle, in_service, opening, seek}
use Rattle.lib_os.specs.Answers.{at_stage}
use Rattle.lib_os.specs.AskedFor.{AsksBy, first_len, wanted_by}
use Rattle.lib_os.specs.DescriptorPages.{number_of, size_of}
use Rattle.lib_os.specs.Descriptors.{holds_in, is_held, is_name, lowest_free, object_name, object_of}
use Rattle.lib_os.specs.FileServer.{ask, request_begun, request_taken}
use Rattle.lib_os.specs.Fence.{is_buffer}
use Rattle.lib_os.specs.FileServices.{is_nul, open_asked, remove_asked}
use Rattle.lib_os.specs.GuestStep.{born_in}
use Rattle.lib_os.specs.LibraryCall.{library_step}
use Rattle.lib_os.specs.LibraryPages.{View}
use Rattle.lib_os.specs.LibrarySteps.{spawn_asks_by}
use Rattle.lib_os.specs.Places.{place_of}
use Rattle.lib_os.specs.Requests as requests_of
use Rattle.lib_os.specs.Rows.{Names, rows_of}
use Rattle.lib_os.specs.InService.{IsIn, IsLowestFree}
use Rattle.lib_os.specs.StandsAtSpawn.{Asks as StandsAsks, HasPath as SpawnHasPath, IsBefore, IsOfFile, StandsAtSpawn, Tells, TellsAll, TellsFile}
use Rattle.lib_os.specs.StandsAtSpawn.{before_header, before_piece, before_table}
use Rattle.lib_os.specs.StandsFor.{HasWholePath, HasWordAt, StandsFor, TellsOfFile, TellsRequest, borne_in, count_given}
use Rattle.lib_os.specs.StandsFor.{view_of}
use Rattle.lib_os.specs.StandsInHandler.{HasNoEnd, stage_with, wanted_from, wanted_of}
use Rattle.lib_os.proofs.DescriptorLooks.{seen_calm}
use Rattle.lib_os.proofs.DeviceLooks.{NamesFile}
use Rattle.lib_os.proofs.FilesLeft.{name-same}
use Rattle.lib_os.proofs.FreeSeen.{lowest_seen}
use Rattle.lib_os.proofs.Paths.{path_ends}
use Rattle.lib_os.proofs.PipesStand.{is_calm}
use Rattle.lib_os.proofs.RequestPages.{IsBeside, brings_page, word_asked}
use Rattle.lib_os.proofs.RequestsTold.{file_named_so, request_step}
use Rattle.lib_os.proofs.Serving.{step_in}
use Rattle.lib_os.proofs.SpawnOwnPages.{spawns_at}
use Rattle.lib_os.proofs.SpawnReplies.{next_piece}
use Rattle.lib_os.proofs.SpawnRequests.{file_asking, found_before, part_asking, part_file, size_same}
use Rattle.jos_run.proofs.PathTold.{none_before, told_path}

-- ---- kinds

abbrev pub kind_asked : Service → RequestKind
kind_asked (service.Remove path) = kind.Remove
kind_asked (service.OpenFile path mode) = kind.Open
kind_asked (service.Seek fd offset) = kind.Seek
kind_asked (service.SetSize fd size) = kind.SetSize
kind_asked (service.Write fd va len) = kind.Write
kind_asked (service.Read fd va len) = kind.Read
kind_asked (service.Stat fd va) = kind.Stat
kind_asked _ = kind.Sync

pub word_of_kind : (s : Service) → brings_page s ≡ true → word_asked s ≡ requests_of.request_word (kind_asked s)
word_of_kind (service.OpenFile path mode) is = refl
word_of_kind (service.Remove path) is = refl
word_of_kind (service.Seek fd offset) is = refl
word_of_kind (service.SetSize fd size) is = refl
word_of_kind (service.Write fd va len) is = refl
word_of_kind (service.Read fd va len) is = refl
word_of_kind (service.Stat fd va) is = refl
word_of_kind _ is = absurd (false≢true is)

-- ---- what is asked

-- the abstract state in which it has asked for this
abbrev pub asked_state : AbstractState → ℕ → Born → Service → Request → AbstractState
asked_state a n b call request = at_stage (record a { server = request_begun n request }) n b call asked

-- It asks this of the idle server, by a word of this kind; it is what its service asks for, and the page tells it.
pub record Asks (a : AbstractState) (n : ℕ) (b : Born) (call : Service) (of : RequestKind) (page : ℕ → ℕ) : Type 0 where
  pub request : Request
  pub asks : abs_step a n ≡ Some (asked_state a n b call request)
  pub by : AsksBy call b.spawning request
  pub sends : sends_page request ≡ true
  pub served : client_served (request_begun n request) ≡ Some n
  pub tells : AsksFor (asked_state a n b call request) page of request

-- ---- its descriptor

module _ (a : AbstractState) (n : ℕ) (b : Born) (small : n < NENV) (fd name : ℕ) (below : fd < DESCRIPTORS)
    (named : object_name b fd ≡ Some name) (call : Service) (request : Request) where
  abbrev then_state : AbstractState
  then_state = asked_state a n b call request

  own_name : b.descriptors fd ≡ Some name
  own_name = let inside : nat_lt fd DESCRIPTORS ≡ true = grind (arith, nat_tests, below) in
      sym (λ i. if inside i then b.descriptors fd else None) ∙ named

  -- what it names was held before
  held_before : a.slots n ≡ born b → is_held a name ≡ true
  held_before at =
      some_below-at (λ k. holds_in (born_in (a.slots k)) name) NENV n small
      (ap (λ (slot : AbstractSlot). holds_in (born_in slot) name) at
      ∙ some_below-at (λ k. is_name (b.descriptors k) name) DESCRIPTORS fd below
      (ap (λ (o : Option ℕ). is_name o name) own_name ∙ name-same name))

  client_holds : holds_in (born_in (then_state.slots n)) name ≡ true
  client_holds =
      ap (λ (slot : AbstractSlot). holds_in (born_in slot) name) (upd-at a.slots n (born (record b { phase = in_service call asked })))
      ∙ some_below-at (λ k. is_name (b.descriptors k) name) DESCRIPTORS fd below (ap (λ (o : Option ℕ). is_name o name) own_name ∙ name-same name)

  -- what it names is held
  held_there : is_held then_state name ≡ true
  held_there = some_below-at (λ k. holds_in (born_in (then_state.slots k)) name) NENV n small client_holds

  -- by whom the server serves
  served_holds : client_served (request_begun n request) ≡ Some n → (m : ℕ) → client_served then_state.server ≡ Some m →
      holds_in (born_in (then_state.slots m)) name ≡ true
  served_holds serves m is =
      subst (λ (k : ℕ). holds_in (born_in (then_state.slots k)) name ≡ true) (same_Some n m (sym serves ∙ is)) client_holds

-- ---- bytes that are written

-- where write has taken all bytes that it takes
writes_file : (a : AbstractState) (n : ℕ) (b : Born) (regs : Regs) (fd va len : ℕ) (f : OpenFile) (name : ℕ) (bytes : List ℕ) →
    object_of a b fd ≡ Some (file f) → object_name b fd ≡ Some name → f.mode ≢ 0 → is_buffer va (wanted_from REQUEST_BYTES len) ≡ true →
    length bytes ≡ wanted_from REQUEST_BYTES len →
    library_step a n b regs (service.Write fd va len) (stage_with bytes)
    ≡ ask a n b (service.Write fd va len) (act (write_file f.way f.offset bytes) (Some name))
unfolding library_step
writes_file a n b regs fd va len f name [] object named mode buffer many =
    let some : (f.mode == 0) ≡ false = grind (arith, nat_tests, mode) in
    let all : nat_lt 0 (wanted_from REQUEST_BYTES len) ≡ false = grind (arith, nat_tests, many) in
    rw (object, some, buffer, all, named) refl
writes_file a n b regs fd va len f name (byte ∷ rest) object named mode buffer many =
    let all : nat_lt (length (byte ∷ rest)) (wanted_from REQUEST_BYTES len) ≡ false = grind (arith, nat_tests, many) in
    rw (object, all, named) refl

-- the kind of the request by which spawn asks at a step
abbrev pub spawn_kind : SpawnStep → RequestKind
spawn_kind (spawn.Reading wanted at) = kind.ReadAt
spawn_kind _ = kind.Open

pub spawn_word : (from : SpawnStep) (word : ℕ) → spawn_asks_by from ≡ Some word → word ≡ requests_of.request_word (spawn_kind from)
spawn_word (spawn.Opening (opening_step.OpenAsking esp fd id)) word asks = sym (same_Some FSREQ_OPEN word asks)
spawn_word (spawn.Reading wanted (read.Asking id)) word asks = sym (same_Some FSREQ_READ_AT word asks)
spawn_word _ word asks = absurd (none-some word asks)

-- and what it has found out then
abbrev pub found_at : (v : View) (k : Slot) (b : Born) (path argv : ℕ) (from : SpawnStep) → StandsAtSpawn v k b path argv from → Spawning
found_at v k b path argv (spawn.Opening (opening_step.OpenAsking esp fd id)) there = opening there.1.ready.words
found_at v k b path argv (spawn.Reading wanted (read.Asking id)) there = found_before there.1.so.so.asks.before
found_at v k b path argv _ there = opening []

-- none of the bytes of a path is an end
no_end_within : (name : List ℕ) → HasNoEnd name → list_any is_nul name ≡ false
no_end_within name whole =
    let many : length (before_first is_nul name) ≡ length name = length-prefix_len (λ b. not (is_nul b)) name ∙ whole in
    let all : before_first is_nul name ≡ name = take_all (position_or_len is_nul name) name (omega (arith, whole)) in
    ap (λ (l : List ℕ). list_any is_nul l) (sym all) ∙ none_before name

-- the bytes of a segment lie in the file where the tests pass
one_passed : (c : Bool) (fault : ElfFault) (rest : List FaultTest) → first_failed ((c, fault) ∷ rest) ≡ None → c ≡ true
one_passed true fault rest is = refl
one_passed false fault rest is = absurd (none-some fault (sym is))

segment_lies : (total : ℕ) (headers : ℕ → ProgramHeader) (n : ℕ) → first_failed (segment_tests total headers n) ≡ None →
    (headers n).file_at + (headers n).file_len ≤ total
unfolding segment_tests
segment_lies total headers n passed =
    let test : nat_le ((headers n).file_at + (headers n).file_len) total ≡ true =
    one_passed (nat_le ((headers n).file_at + (headers n).file_len) total) (Truncated total)
    ((is_placed (headers n), SegmentRange n) ∷ overlap_tests headers n n) passed in
    grind (arith, nat_tests, test)

segment_within : (total : ℕ) (headers : ℕ → ProgramHeader) (n m : ℕ) → m < n → first_failed (table_tests total headers n) ≡ None →
    is_loaded (headers m) ≡ true → (headers m).file_at + (headers m).file_len ≤ total
unfolding table_tests
segment_within total headers zero m below passed loaded = absurd (omega (arith, below))
segment_within total headers (suc n) m below passed loaded =
    by_last (nat_lt m n) refl (λ lower. segment_within total headers n m lower both.0 loaded)
  where
    parts : (xs ys : List FaultTest) → first_failed (xs ++ ys) ≡ None → (first_failed xs ≡ None) × (first_failed ys ≡ None)
    parts [] ys is = (refl, is)
    parts ((true, fault) ∷ xs) ys is = parts xs ys is
    parts ((false, fault) ∷ xs) ys is = absurd (none-some fault (sym is))

    both : (first_failed (table_tests total headers n) ≡ None) × (first_failed (if is_loaded (headers n) then segment_tests total headers n else []) ≡ None)
    both = parts (table_tests total headers n) (if is_loaded (headers n) then segment_tests total headers n else []) passed

    its_own : is_loaded (headers n) ≡ true → (headers n).file_at + (headers n).file_len ≤ total
    its_own loads =
        segment_lies total headers n (sym (ap (λ (c : Bool). first_failed (if c then segment_tests total headers n else [])) loads) ∙ both.1)

    by_last : (c : Bool) → nat_lt m n ≡ c → (m < n → (headers m).file_at + (headers m).file_len ≤ total) →
        (headers m).file_at + (headers m).file_len ≤ total
    by_last true lower before = before (grind (arith, nat_tests, lower))
    by_last false last before =
        let past : n ≤ m = grind (arith, nat_tests, last) in
        let same : n ≡ m = omega (arith, past, below) in
        subst (λ (k : ℕ). (headers k).file_at + (headers k).file_len ≤ total) same (its_own (ap (λ (k : ℕ). is_loaded (headers k)) same ∙ loaded))

-- ---- its page

module _ {names : Names} {s : KernelState} {a : AbstractState} (h : StandsFor names s a) (n : ℕ) (small : n < NENV) (b : Born)
    (at : a.slots n ≡ born b) (waits : a.server ≡ idle) (own : Entry)
    (kept : rows_of s.spaces (slot_at s n).directory (page_number UTEMP) ≡ Some own) (page : ℕ → ℕ)
    (come : (i : ℕ) → i < PGSIZE → page i ≡ slice_index (s.spaces.pages own.frame) i) where
  abbrev v : View
  v = view_of s.spaces (slot_at s n).directory

  own_is : (e : Entry) → v.row (page_number UTEMP) ≡ Some e → own.frame ≡ e.frame
  own_is e is = ap (λ (x : Entry). x.frame) (same_Some own e (sym kept ∙ is))

  byte_told : (e : Entry) → v.row (page_number UTEMP) ≡ Some e → (i : ℕ) → i < PGSIZE → page i ≡ slice_index (v.bytes e.frame) i
  byte_told e is i below = come i below ∙ ap (λ (f : ℕ). slice_index (s.spaces.pages f) i) (own_is e is)

  -- a word of it
  word_told : (o word : ℕ) → o + 4 ≤ PGSIZE → HasWordAt v o word → word_at page o ≡ word
  word_told o word inside it =
      let one = byte_told it.entry it.stands o (omega (arith, inside)) in
      let two = byte_told it.entry it.stands (o + 1) (omega (arith, inside)) in
      let three = byte_told it.entry it.stands (o + 2) (omega (arith, inside)) in
      let four = byte_told it.entry it.stands (o + 3) (omega (arith, inside)) in
      (λ i. from_le_bytes w32 (one i ∷ two i ∷ three i ∷ four i ∷ [])) ∙ it.word_is

  -- a word of it, as spawn puts it there
  word_put : (o word : ℕ) → o + 4 ≤ PGSIZE → word < 2 ^ 32 → Tells v o word → word_at page o ≡ word
  word_put o word inside few it =
      let four : length (to_le_bytes w32 word) ≡ 4 = refl in
      let here : o + 0 ≡ o = omega arith in
      let one : page o ≡ slice_index (to_le_bytes w32 word) 0 =
      byte_told it.entry it.stands o (omega (arith, inside)) ∙ sym (ap (slice_index (v.bytes it.entry.frame)) here) ∙ it.same 0 (omega (arith, four)) in
      let two = byte_told it.entry it.stands (o + 1) (omega (arith, inside)) ∙ it.same 1 (omega (arith, four)) in
      let three = byte_told it.entry it.stands (o + 2) (omega (arith, inside)) ∙ it.same 2 (omega (arith, four)) in
      let last = byte_told it.entry it.stands (o + 3) (omega (arith, inside)) ∙ it.same 3 (omega (arith, four)) in
      (λ i. from_le_bytes w32 (one i ∷ two i ∷ three i ∷ last i ∷ [])) ∙ from_le_bytes-to_le_bytes_4 word few

  -- ---- what spawn asks for

  module _ (path argv : ℕ) (sized : (name : ℕ) (f : OpenFile) → is_held a name ≡ true → a.objects name ≡ file f → f.size < 2 ^ 31) where
    abbrev spawns : Service
    spawns = service.Spawn path argv

    -- its file, by the path in its page
    spawn_path : {name : List ℕ} → SpawnHasPath v name → HasPath page name
    spawn_path {name = name} it =
        let few = it.few in
        record {
          short = omega (arith, few);
          bytes = λ k below. told k (omega (arith, below)) ∙ get_or_append_left name (0 ∷ []) 0 k below;
          ends = told (length name) (omega arith) ∙ get_or_at name 0 [] 0 (length name) refl;
          no_nul = no_end_within name it.no_end;
        }
      where
        told : (k : ℕ) → k ≤ length name → page k ≡ slice_index (name ++ 0 ∷ []) k
        told k within =
            let few = it.few in
            let many = length-append name (0 ∷ []) in
            let first : 0 + k ≡ k = omega arith in
            byte_told it.kept.entry it.kept.stands k (omega (arith, within, few)) ∙ sym (ap (slice_index (v.bytes it.kept.entry.frame)) first)
            ∙ it.kept.same k (omega (arith, within, many))

    file_made : {esp fd : ℕ} → (it : TellsFile v (slot_at s n) b path argv esp fd) →
        Asks a n (with_spawning b (opening it.ready.words)) spawns kind.Open page
    file_made it = record {
      request = (file_asking h n b at path argv it).request;
      asks = request_step a n (with_spawning b (opening it.ready.words)) spawns (file_asking h n b at path argv it) waits;
      by = tt;
      sends = refl;
      served = refl;
      tells = opens it.ready.has.name 0 (spawn_path it.ready.has.path_kept) (word_put REQUEST_MODE 0 (omega arith) (omega arith) it.mode);
    }

    -- so many bytes of it
    by_count : {wanted : FilePart} {fd count place : ℕ} → (before : IsBefore v (slot_at s n) b path argv wanted fd count place) →
        count ≡ wanted_by (found_before before)
    by_count (before_header esp fd size so long_enough long) = refl
    by_count (before_table esp fd size entry_point headers place words header answer found told stack begins many at_place few inside long passed come) =
        sym (min-eq_left (omega (arith, many, few)) ∙ ap (λ (c : ℕ). PHDR_LEN * c) (sym many))
    by_count (before_piece fd headers child header done end place so next at_place) =
        sym (ap first_len so.left ∙ ap first_len (next_piece so.image header done end next).1)

    asks_by_before : {wanted : FilePart} {fd count place : ℕ} → (before : IsBefore v (slot_at s n) b path argv wanted fd count place) →
        (way : List ℕ) → AsksBy spawns (Some (found_before before)) (act (read_file way place count) None)
    asks_by_before (before_header esp fd size so told long) way = refl
    asks_by_before (before_table esp fd size entry_point headers place words header answer found told stack begins many at_place few inside long passed come) way =
        by_count (before_table esp fd size entry_point headers place words header answer found told stack begins many at_place few inside long passed come)
    asks_by_before (before_piece fd headers child header done end place so next at_place) way =
        by_count (before_piece fd headers child header done end place so next at_place)

    -- no more than a page has
    few_asked : {wanted : FilePart} {fd count place : ℕ} → IsBefore v (slot_at s n) b path argv wanted fd count place → count ≤ PGSIZE
    few_asked (before_header esp fd size so told long) = omega arith
    few_asked (before_table esp fd size entry_point headers place words header answer found told stack begins many at_place few inside long passed come) =
        omega (arith, few)
    few_asked (before_piece fd headers child header done end place so next at_place) =
        let most = min-le_left (done + TRANSFER_MAX) (headers_in so.image.table header).file_len in
        let is = next.end_is in omega (arith, most, is)

    -- and from a place within it
    place_within : {wanted : FilePart} {fd count place : ℕ} → IsBefore v (slot_at s n) b path argv wanted fd count place → (of_file : IsOfFile v fd) →
        (f : OpenFile) → size_of (v.bytes of_file.file.entry.frame) ≡ f.size → place ≤ f.size
    place_within (before_header esp fd size so told long) of_file f is = omega arith
    place_within (before_table esp fd size entry_point headers place words header answer found told stack begins many at_place few inside long passed come)
        of_file f is =
        let same = size_same told of_file in omega (arith, inside, same, is)
    place_within (before_piece fd headers child header done end place so next at_place) of_file f is =
        let same = size_same so.sized of_file in
        let within = segment_within so.whole.size (headers_in so.image.table) headers header so.below so.whole.passed next.loaded in
        let some = next.some in
        let most = min-le_right (done + TRANSFER_MAX) (headers_in so.image.table header).file_len in
        let end_is = next.end_is in omega (arith, same, is, within, some, most, end_is, at_place)

    module _ {wanted : FilePart} (at_step : ReadStep)
        (stands : place_of (slot_at s n) ≡ place.InService spawns (step.Spawning (spawn.Reading wanted at_step)))
        (it : TellsAll v (slot_at s n) b path argv wanted) where
      abbrev asks_it : StandsAsks v (slot_at s n) b path argv wanted
      asks_it = it.so.so.asks

      abbrev found_then : Born
      found_then = with_spawning b (found_before asks_it.before)

      abbrev names_it : NamesFile s a b asks_it.fd asks_it.of_file.file.entry
      names_it = part_file h n b at path argv at_step stands asks_it

      abbrev part_request : Request
      part_request = act (read_file names_it.f.way asks_it.place asks_it.count) None

      number_told : word_at page REQUEST_FILE ≡ number_of (s.spaces.pages asks_it.of_file.file.entry.frame)
      number_told =
          let below = names_it.told.below in
          word_put REQUEST_FILE (number_of (s.spaces.pages asks_it.of_file.file.entry.frame)) (omega arith) (omega (arith, below)) it.so.so.number

      count_told : word_at page REQUEST_COUNT ≡ asks_it.count
      count_told = let few = few_asked asks_it.before in word_put REQUEST_COUNT asks_it.count (omega arith) (omega (arith, few)) it.so.count

      near : asks_it.place < 2 ^ 31
      near =
          let within = place_within asks_it.before asks_it.of_file names_it.f names_it.told.size in
          let short =
          sized names_it.name names_it.f (held_before a n b small asks_it.fd names_it.name asks_it.of_file.below names_it.named spawns part_request at) names_it.is
          in omega (arith, within, short)

      place_told : word_at page REQUEST_PLACE ≡ asks_it.place
      place_told = let low = near in word_put REQUEST_PLACE asks_it.place (omega arith) (omega (arith, low)) it.place

      part_open : IsOpenAs (asked_state a n found_then spawns part_request) page names_it.name names_it.f
      part_open = record {
        below = subst (λ (k : ℕ). k < MAXOPEN) (sym number_told) names_it.told.below;
        place = ap (λ (k : ℕ). (a.opened k).held_by) number_told ∙ names_it.told.held;
        held = held_there a n found_then small asks_it.fd names_it.name asks_it.of_file.below names_it.named spawns part_request;
        is = names_it.is;
        client = served_holds a n found_then small asks_it.fd names_it.name asks_it.of_file.below names_it.named spawns part_request refl;
      }

      part_made : Asks a n found_then spawns kind.ReadAt page
      part_made = record {
        request = part_request;
        asks = request_step a n found_then spawns (part_asking h n b at path argv at_step stands asks_it) waits;
        by = asks_by_before asks_it.before names_it.f.way;
        sends = refl;
        served = refl;
        tells = subst
            (λ (from : ℕ). AsksFor (asked_state a n found_then spawns part_request) page kind.ReadAt (act (read_file names_it.f.way from asks_it.count) None))
            place_told
            (subst
            (λ (count : ℕ). AsksFor (asked_state a n found_then spawns part_request) page kind.ReadAt
            (act (read_file names_it.f.way (word_at page REQUEST_PLACE) count) None)) count_told
            (reads_at names_it.name names_it.f part_open (subst (λ (from : ℕ). from < 2 ^ 31) (sym place_told) near)));
      }

    -- So it is where spawn asks.
    pub spawn_made : (from : SpawnStep) (word : ℕ) → spawn_asks_by from ≡ Some word → place_of (slot_at s n) ≡ spawns_at path argv from →
        (there : StandsAtSpawn v (slot_at s n) b path argv from) → Asks a n (with_spawning b (found_at v (slot_at s n) b path argv from there)) spawns (spawn_kind from) page
    spawn_made (spawn.Opening (opening_step.OpenAsking esp fd id)) word asks is there = file_made there.1
    spawn_made (spawn.Reading wanted (read.Asking id)) word asks is there = part_made (read.Asking id) is there.1
    spawn_made _ word asks is there = absurd (none-some word asks)

  -- ---- what the other services ask for

  module _ (unborne : borne_in (place_of (slot_at s n)) ≡ None) (calm : is_calm (place_of (slot_at s n)) ≡ true) where
    -- and its path
    path_told : (call : Service) (it : HasWholePath v (slot_at s n) b call) → HasPath page (before_first is_nul it.bytes)
    path_told call it =
        told_path page it.bytes it.few it.ended (λ i below.
        let few = it.few in
        let ended = it.ended in
        let within : i < PGSIZE = omega (arith, below, few, ended) in
        byte_told it.kept.entry it.kept.stands i within ∙ it.kept.same i below)

    -- ---- a path

    remove_made : (path : ℕ) → HasWholePath v (slot_at s n) b (service.Remove path) → Asks a n b (service.Remove path) kind.Remove page
    unfolding library_step
    remove_made path it = record {
      request = act (remove_path (before_first is_nul it.bytes)) None;
      asks = step_in a n b (slot_at s n) (service.Remove path) (gathering it.bytes) at it.is_in
          ∙ path_ends a n b (slot_at s n).registers (service.Remove path) path it.bytes (remove_asked a n b (service.Remove path)) it.ended
          ∙ ap (λ (x : Server). request_taken a n b (service.Remove path) (act (remove_path (before_first is_nul it.bytes)) None) x) waits;
      by = tt;
      sends = refl;
      served = refl;
      tells = removes (before_first is_nul it.bytes) (path_told (service.Remove path) it);
    }

    open_made : (path mode fd : ℕ) → IsLowestFree v.row fd → HasWholePath v (slot_at s n) b (service.OpenFile path mode) →
        HasWordAt v REQUEST_MODE mode → Asks a n b (service.OpenFile path mode) kind.Open page
    unfolding library_step
    open_made path mode fd lowest it told =
        let call = service.OpenFile path mode in
        let regs = (slot_at s n).registers in
        let free : is_none (lowest_free b) ≡ false = ap is_none (lowest_seen h n b at (seen_calm h n b at calm) fd lowest) in
        record {
          request = act (open_path (before_first is_nul it.bytes) mode) None;
          asks = step_in a n b (slot_at s n) call (gathering it.bytes) at it.is_in
              ∙ path_ends a n b regs call path it.bytes (open_asked a n b regs call mode) it.ended
              ∙ rw free (ap (λ (x : Server). request_taken a n b call (act (open_path (before_first is_nul it.bytes) mode) None) x) waits);
          by = tt;
          sends = refl;
          served = refl;
          tells = opens (before_first is_nul it.bytes) mode (path_told call it) (word_told REQUEST_MODE mode (omega arith) told);
        }

    -- ---- a file

    module _ (call : Service) (fd : ℕ) (it : TellsOfFile v (slot_at s n) b call fd) where
      abbrev file_is : NamesFile s a b fd it.asks.of_file.file.entry
      file_is = file_named_so h n b at unborne calm fd it.asks

      abbrev f : OpenFile
      f = file_is.f

      -- what goes with it
      count_is : word_at page REQUEST_COUNT ≡ count_given call
      count_is = word_told REQUEST_COUNT (count_given call) (omega arith) it.count_told

      number_is : word_at page REQUEST_FILE ≡ number_of (s.spaces.pages it.asks.of_file.file.entry.frame)
      number_is = word_told REQUEST_FILE (number_of (s.spaces.pages it.asks.of_file.file.entry.frame)) (omega arith) it.number_told

      object : object_of a b fd ≡ Some (file f)
      object = ap (option_map a.objects) file_is.named ∙ ap (λ (o : Object). Some o) file_is.is

      -- It is open, as the request has it.
      open_as : (request : Request) → client_served (request_begun n request) ≡ Some n →
          IsOpenAs (asked_state a n b call request) page file_is.name f
      open_as request serves = record {
        below = subst (λ (k : ℕ). k < MAXOPEN) (sym number_is) file_is.told.below;
        place = ap (λ (k : ℕ). (a.opened k).held_by) number_is ∙ file_is.told.held;
        held = held_there a n b small fd file_is.name it.asks.of_file.below file_is.named call request;
        is = file_is.is;
        client = served_holds a n b small fd file_is.name it.asks.of_file.below file_is.named call request serves;
      }

    seek_made : (fd offset : ℕ) → TellsOfFile v (slot_at s n) b (service.Seek fd offset) fd → Asks a n b (service.Seek fd offset) kind.Seek page
    unfolding library_step
    seek_made fd offset it =
        let call = service.Seek fd offset in
        let file = file_is call fd it in
        let object = object call fd it in
        let allowed : offset ≤ OFFSET_MAX = it.asks.allowed in
        let few : nat_lt OFFSET_MAX offset ≡ false = grind (arith, nat_tests, allowed) in
        let named = file.named in
        let count : word_at page REQUEST_COUNT ≡ offset = count_is call fd it in
        record {
          request = seek file.name offset;
          asks = step_in a n b (slot_at s n) call entered at
              (subst (λ (stage : Stage). IsIn (slot_at s n) b call stage) it.asks.has it.asks.of_file.is_in)
              ∙ rw (object, few, named) (ap (λ (x : Server). request_taken a n b call (seek file.name offset) x) waits);
          by = tt;
          sends = refl;
          served = refl;
          tells = subst (λ (c : ℕ). AsksFor (asked_state a n b call (seek file.name offset)) page kind.Seek (seek file.name c)) count
              (seeks file.name file.f (open_as call fd it (seek file.name offset) refl) (omega (arith, count, allowed)));
        }

    set_size_made : (fd size : ℕ) → TellsOfFile v (slot_at s n) b (service.SetSize fd size) fd → Asks a n b (service.SetSize fd size) kind.SetSize page
    unfolding library_step
    set_size_made fd size it =
        let call = service.SetSize fd size in
        let file = file_is call fd it in
        let object = object call fd it in
        let mode : file.f.mode ≢ 0 = λ none. it.asks.allowed (file.told.mode ∙ none) in
        let some : (file.f.mode == 0) ≡ false = grind (arith, nat_tests, mode) in
        let request = act (set_file_size file.f.way size) None in
        record {
          request = request;
          asks = step_in a n b (slot_at s n) call entered at
              (subst (λ (stage : Stage). IsIn (slot_at s n) b call stage) it.asks.has it.asks.of_file.is_in)
              ∙ rw (object, some) (ap (λ (x : Server). request_taken a n b call request x) waits);
          by = tt;
          sends = refl;
          served = refl;
          tells = subst (λ (c : ℕ). AsksFor (asked_state a n b call request) page kind.SetSize (act (set_file_size file.f.way c) None))
              (count_is call fd it) (sizes file.name file.f (open_as call fd it request refl));
        }

    write_made : (fd va len : ℕ) → TellsOfFile v (slot_at s n) b (service.Write fd va len) fd → Asks a n b (service.Write fd va len) kind.Write page
    write_made fd va len it =
        let call = service.Write fd va len in
        let file = file_is call fd it in
        let mode : file.f.mode ≢ 0 = λ none. it.asks.allowed (file.told.mode ∙ none) in
        let has = it.asks.has in
        let bytes = has.bytes in
        let request = act (write_file file.f.way file.f.offset bytes) (Some file.name) in
        let many : length bytes ≡ wanted_from REQUEST_BYTES len = has.many in
        let count : word_at page REQUEST_COUNT ≡ length bytes = count_is call fd it ∙ sym many in
        let few : length bytes + 8 ≤ PGSIZE = omega (arith, many) in
        let given : bytes ≡ bytes_given page (length bytes) =
        is-values bytes (length bytes) (λ k. page (8 + k)) 0 refl (λ i below.
        let inside : 8 + i < PGSIZE = omega (arith, below, few) in
        sym (byte_told has.kept.entry has.kept.stands (8 + i) inside ∙ has.kept.same i below)) in
        let as_told : bytes_given page (word_at page REQUEST_COUNT) ≡ bytes = ap (bytes_given page) count ∙ sym given in
        record {
          request = request;
          asks = step_in a n b (slot_at s n) call (stage_with bytes) at
              (subst (λ (stage : Stage). IsIn (slot_at s n) b call stage) has.stage_is it.asks.of_file.is_in)
              ∙ writes_file a n b (slot_at s n).registers fd va len file.f file.name bytes (object call fd it) file.named mode has.buffer has.many
              ∙ ap (λ (x : Server). request_taken a n b call request x) waits;
          by = tt;
          sends = refl;
          served = refl;
          tells = subst
              (λ (l : List ℕ). AsksFor (asked_state a n b call request) page kind.Write (act (write_file file.f.way file.f.offset l) (Some file.name)))
              as_told (writes file.name file.f (open_as call fd it request refl) (omega (arith, count, few)));
        }

    read_made : (fd va len : ℕ) → TellsOfFile v (slot_at s n) b (service.Read fd va len) fd → Asks a n b (service.Read fd va len) kind.Read page
    unfolding library_step
    read_made fd va len it =
        let call = service.Read fd va len in
        let file = file_is call fd it in
        let named = file.named in
        let object = object call fd it in
        let mode : file.f.mode ≢ 1 = λ one. it.asks.allowed.0 (file.told.mode ∙ one) in
        let some : (file.f.mode == 1) ≡ false = grind (arith, nat_tests, mode) in
        let buffer = it.asks.allowed.1 in
        let request = act (read_file file.f.way file.f.offset (wanted_of len)) (Some file.name) in
        record {
          request = request;
          asks = step_in a n b (slot_at s n) call entered at
              (subst (λ (stage : Stage). IsIn (slot_at s n) b call stage) it.asks.has it.asks.of_file.is_in)
              ∙ rw (object, some, buffer) (ap (λ (o : Option ℕ). request_taken a n b call
              (act (read_file file.f.way file.f.offset (wanted_of len)) o) a.server) named)
              ∙ ap (λ (x : Server). request_taken a n b call request x) waits;
          by = refl;
          sends = refl;
          served = refl;
          tells = subst
              (λ (c : ℕ). AsksFor (asked_state a n b call request) page kind.Read (act (read_file file.f.way file.f.offset c) (Some file.name)))
              (count_is call fd it) (reads file.name file.f (open_as call fd it request refl));
        }

    stat_made : (fd va : ℕ) → TellsOfFile v (slot_at s n) b (service.Stat fd va) fd → Asks a n b (service.Stat fd va) kind.Stat page
    unfolding library_step
    stat_made fd va it =
        let call = service.Stat fd va in
        let file = file_is call fd it in
        let object = object call fd it in
        let buffer = it.asks.allowed in
        let request = act (stat_file file.f.way) None in
        record {
          request = request;
          asks = step_in a n b (slot_at s n) call entered at
              (subst (λ (stage : Stage). IsIn (slot_at s n) b call stage) it.asks.has it.asks.of_file.is_in)
              ∙ rw (object, buffer) (ap (λ (x : Server). request_taken a n b call request x) waits);
          by = tt;
          sends = refl;
          served = refl;
          tells = stats file.name file.f (open_as call fd it request refl);
        }

    -- So it is for each service that asks by a page.
    pub request_made : (call : Service) (fd : ℕ) → IsBeside v.row call fd → TellsRequest v (slot_at s n) b call → Asks a n b call (kind_asked call) page
    request_made (service.Remove path) fd beside it = remove_made path it
    request_made (service.OpenFile path mode) fd beside it = open_made path mode fd beside it.whole it.mode_told
    request_made (service.Seek given offset) fd beside it = seek_made given offset it
    request_made (service.SetSize given size) fd beside it = set_size_made given size it
    request_made (service.Write given va len) fd beside it = write_made given va len it
    request_made (service.Read given va len) fd beside it = read_made given va len it
    request_made (service.Stat given va) fd beside it = stat_made given va it
    request_made _ fd beside it = absurd it
