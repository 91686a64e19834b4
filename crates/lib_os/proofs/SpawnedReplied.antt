-- The child that spawn bears is as it was where a piece of its image comes to its parent: nothing of that is put yet.
use Rattle.std.proofs.Common.{◌≡◌, ◌≢◌, ◌∙◌, ◌⊎◌, inl, inr, ◌+◌, ◌-◌, ◌*◌, ◌<◌, ◌≤◌, ◌==◌, ◌||◌, ◌++◌, ◌%◌, ℕ, zero, suc, Bool, true, false, not}
use Rattle.std.proofs.Common.{List, [], ◌∷◌, length, Option, Some, None, refl, sym, ap, subst, arith, if◌then◌else◌}
use Rattle.std.specs.Prelude.{drop, is_some, max, min, nat_le, nat_lt, slice_index, take}
use Rattle.std.proofs.lemmas.Bool.Decides.{nat_tests}
use Rattle.std.proofs.lemmas.List.{take-append-le}
use Rattle.std.proofs.lemmas.Option.{none-some}
use Rattle.std.proofs.Math.Nat.{le-max_left, min-le_left}
use Rattle.jos_base.specs.declared.numbers.TheConstants.{NENV, NPTENTRIES, PGSIZE}
use Rattle.jos_base.specs.Below.{some_below}
use Rattle.jos_base.specs.Environments.{Slot}
use Rattle.jos_base.specs.KernelState.{KernelState, slot_at}
use Rattle.jos_base.specs.Words.{upd}
use Rattle.jos_base.specs.SpacesState.{SpacesState, overlaid, zero_page}
use Rattle.jos_elf.specs.declared.header.ProgramHeader.{ProgramHeader}
use Rattle.jos_elf.specs.declared.image.Segment.{Segment}
use Rattle.jos_elf.specs.Headers.{entry_count_of}
use Rattle.jos_elf.specs.Pages.{any_writes, file_part, laid, laid_all, page_bytes, stack_page}
use Rattle.jos_elf.specs.Parsed.{segment_of, segments_of}
use Rattle.jos_elf.specs.Tests.{is_loaded}
use Rattle.lib_os.specs.declared.place.Place.TheVariants as place
use Rattle.lib_os.specs.declared.place.Step.TheVariants as step
use Rattle.lib_os.specs.declared.service.Service.TheVariants as service
use Rattle.lib_os.specs.declared.spawn_steps.FilePart.{FilePart}
use Rattle.lib_os.specs.declared.spawn_steps.FilePart.TheVariants as part
use Rattle.lib_os.specs.declared.spawn_steps.ReadStep.TheVariants as read
use Rattle.lib_os.specs.declared.spawn_steps.SpawnStep.{SpawnStep}
use Rattle.lib_os.specs.declared.spawn_steps.SpawnStep.TheVariants as spawn
use Rattle.lib_os.specs.AbstractSpawn.{all_of, headers_in, packed, packed_at, under_shared}
use Rattle.lib_os.specs.AbstractState.{AbstractSlot, AbstractState, unborn, Born, ImageRead, Page, Spawning, awaiting, born, in_service, loading, named, own}
use Rattle.lib_os.specs.LibraryPages.{View, is_library_region}
use Rattle.lib_os.specs.Places.{place_of}
use Rattle.lib_os.specs.ProgramMemory.{stack_of}
use Rattle.lib_os.specs.Rows.{Names}
use Rattle.lib_os.specs.SpawnedChild.{Loads, Progress, child_page, filling, headers_filled, is_closed, is_loading, is_placed_page}
use Rattle.lib_os.specs.SpawnedChild.{IsProgress, IsSpawned, bytes_replied, is_settled_page, passing, segments_filled, spawning_child}
use Rattle.lib_os.specs.StandsAtSpawn.{HaveComeTo, IsFor, for_header, for_piece, for_table}
use Rattle.lib_os.specs.StandsFor.{HasChildren, IsBorneBy, StandsFor, borne_in, by_fork, by_spawn, view_of}
use Rattle.lib_os.proofs.Sends.{received_in}
use Rattle.lib_os.proofs.SpawnReplies.{spawn_replied_born}
use Rattle.lib_os.proofs.SpawnWaits.{SpawnAwaits, expects_file, expects_part}
use Rattle.jos_base.proofs.Maps.{upd-at, upd-other}

-- ---- bytes behind those that are read

drop_within : (m n : ℕ) (xs ys : List ℕ) → m + n ≤ length xs → take n (drop m (xs ++ ys)) ≡ take n (drop m xs)
drop_within zero n xs ys room = take-append-le n xs ys (omega (arith, room))
drop_within (suc m) n [] ys room = absurd (omega (arith, room))
drop_within (suc m) n (x ∷ xs) ys room = drop_within m n xs ys (omega (arith, room))

-- A segment has no bytes, or they end within the first so many of the file.
abbrev EndsWithin : ℕ → Segment → Type 0
EndsWithin total segment = (segment.file_len ≡ 0) ⊎ (segment.file_at + segment.file_len ≤ total)

laid_same : (segment : Segment) (xs ys : List ℕ) (number : ℕ) (bytes : List ℕ) → EndsWithin (length xs) segment →
    laid segment (xs ++ ys) number bytes ≡ laid segment xs number bytes
laid_same segment xs ys number bytes ends = by_some (nat_lt from to) refl
  where
    from : ℕ
    from = max segment.va (number * PGSIZE)

    to : ℕ
    to = min (segment.va + segment.file_len) ((number + 1) * PGSIZE)

    first : segment.va ≤ from
    first = le-max_left segment.va (number * PGSIZE)

    last : to ≤ segment.va + segment.file_len
    last = min-le_left (segment.va + segment.file_len) ((number + 1) * PGSIZE)

    by_end : EndsWithin (length xs) segment → from < to → file_part segment (xs ++ ys) from to ≡ file_part segment xs from to
    by_end (inl none) some = absurd (let low = first in let high = last in omega (arith, none, some, low, high))
    by_end (inr room) some =
        let low = first in
        let high = last in
        drop_within (segment.file_at + (from - segment.va)) (to - from) xs ys (omega (arith, room, some, low, high))

    by_some : (c : Bool) → nat_lt from to ≡ c →
        (if c then overlaid bytes (from - number * PGSIZE) (file_part segment (xs ++ ys) from to) else bytes)
        ≡ (if c then overlaid bytes (from - number * PGSIZE) (file_part segment xs from to) else bytes)
    by_some true test = ap (λ (l : List ℕ). overlaid bytes (from - number * PGSIZE) l) (by_end ends (grind (arith, nat_tests, test)))
    by_some false test = refl

abbrev AllEndWithin : ℕ → List Segment → Type 0
AllEndWithin total [] = Unit {0}
AllEndWithin total (segment ∷ rest) = EndsWithin total segment × AllEndWithin total rest

laid_all_same : (segments : List Segment) (xs ys : List ℕ) (number : ℕ) (bytes : List ℕ) → AllEndWithin (length xs) segments →
    laid_all segments (xs ++ ys) number bytes ≡ laid_all segments xs number bytes
unfolding laid_all
laid_all_same [] xs ys number bytes each = refl
laid_all_same (segment ∷ rest) xs ys number bytes each =
    ap (λ (page : List ℕ). laid_all rest (xs ++ ys) number page) (laid_same segment xs ys number bytes each.0)
    ∙ laid_all_same rest xs ys number (laid segment xs number bytes) each.1

within_append : (total : ℕ) (first second : List Segment) → AllEndWithin total first → AllEndWithin total second → AllEndWithin total (first ++ second)
within_append total [] second none each = each
within_append total (segment ∷ rest) second each more = (each.0, within_append total rest second each.1 more)

segments_within : (headers : ℕ → ProgramHeader) (n total : ℕ) → ((m : ℕ) → m < n → is_loaded (headers m) ≡ true → EndsWithin total (segment_of (headers m))) →
    AllEndWithin total (segments_of headers n)
unfolding segments_of
segments_within headers zero total each = tt
segments_within headers (suc n) total each =
    within_append total (segments_of headers n) (if is_loaded (headers n) then segment_of (headers n) ∷ [] else [])
    (segments_within headers n total (λ m lt loaded. each m (omega (arith, lt)) loaded)) (by_loaded (is_loaded (headers n)) refl)
  where
    by_loaded : (c : Bool) → is_loaded (headers n) ≡ c → AllEndWithin total (if c then segment_of (headers n) ∷ [] else [])
    by_loaded true loaded = (each n (omega arith) loaded, tt)
    by_loaded false none = tt

-- ---- the segments whose bytes have come

packed_behind : (headers : ℕ → ProgramHeader) (m : ℕ) → is_loaded (headers m) ≡ true → packed_at headers (suc m) ≡ packed_at headers m + (headers m).file_len
unfolding packed_at
packed_behind headers m loaded = rw loaded refl

packed_rises : (headers : ℕ → ProgramHeader) (m n : ℕ) → m ≤ n → packed_at headers m ≤ packed_at headers n
unfolding packed_at
packed_rises headers m zero le = let same : m ≡ zero = omega (arith, le) in subst (λ (x : ℕ). packed_at headers x ≤ 0) (sym same) (omega arith)
packed_rises headers m (suc n) le = by_last (nat_le m n) refl (λ lower. packed_rises headers m n lower)
  where
    by_loaded : (c : Bool) → packed_at headers m ≤ packed_at headers n → packed_at headers m ≤ packed_at headers n + (if c then (headers n).file_len else 0)
    by_loaded true low = omega (arith, low)
    by_loaded false low = omega (arith, low)

    by_last : (c : Bool) → nat_le m n ≡ c → (m ≤ n → packed_at headers m ≤ packed_at headers n) → packed_at headers m ≤ packed_at headers (suc n)
    by_last true test rises = by_loaded (is_loaded (headers n)) (rises (grind (arith, nat_tests, test)))
    by_last false test rises =
        let past : n < m = grind (arith, nat_tests, test) in
        let same : m ≡ suc n = omega (arith, le, past) in
        subst (λ (x : ℕ). packed_at headers x ≤ packed_at headers (suc n)) (sym same) (omega arith)

-- up to so many bytes of the segment of a program header
filled_within : (image : ImageRead) (child_headers header done m : ℕ) → is_loaded (headers_in image.table m) ≡ true →
    EndsWithin (packed_at (headers_in image.table) header + done) (segment_of (headers_filled image (filling child_headers header done) m))
filled_within image child_headers header done m loaded = by_front (nat_lt m header) refl
  where
    one : ProgramHeader
    one = packed (headers_in image.table) m

    by_front : (c : Bool) → nat_lt m header ≡ c →
        EndsWithin (packed_at (headers_in image.table) header + done)
        (segment_of (if c then one else record one { file_len = if m == header then done else 0 }))
    by_front true test =
        let lower : m < header = grind (arith, nat_tests, test) in
        let upto = packed_rises (headers_in image.table) (suc m) header (omega (arith, lower)) in
        let its = packed_behind (headers_in image.table) m loaded in
        inr (omega (arith, upto, its))
    by_front false test = by_here (m == header) refl
      where
        by_here : (c : Bool) → (m == header) ≡ c →
            EndsWithin (packed_at (headers_in image.table) header + done) (segment_of (record one { file_len = if c then done else 0 }))
        by_here true here =
            let same : m ≡ header = grind (arith, nat_tests, here) in
            let at = ap (packed_at (headers_in image.table)) same in inr (omega (arith, at))
        by_here false apart = inl refl

filled_loaded : (image : ImageRead) (progress : Progress) (m : ℕ) → is_loaded (headers_filled image progress m) ≡ is_loaded (headers_in image.table m)
unfolding is_loaded
filled_loaded image progress m = by_front (nat_lt m progress.filled)
  where
    by_front : (c : Bool) →
        is_loaded (if c then packed (headers_in image.table) m
        else record (packed (headers_in image.table) m) { file_len = if m == progress.filled then progress.bytes else 0 })
        ≡ is_loaded (headers_in image.table m)
    by_front true = refl
    by_front false = refl

-- ---- its pages

module _ (b : Born) (image : ImageRead) (child_headers header done : ℕ) (had more : List ℕ)
    (come : length had ≡ packed_at (headers_in image.table) header + done) where
  abbrev progress : Progress
  progress = filling child_headers header done

  bytes_same : (p : ℕ) → page_bytes (segments_filled image progress) (had ++ more) p ≡ page_bytes (segments_filled image progress) had p
  bytes_same p =
      laid_all_same (segments_filled image progress) had more p zero_page
      (subst (λ (total : ℕ). AllEndWithin total (segments_filled image progress)) (sym come)
      (segments_within (headers_filled image progress) (entry_count_of (slice_index image.header)) (packed_at (headers_in image.table) header + done)
      (λ m lt loaded. filled_within image child_headers header done m (sym (filled_loaded image progress m) ∙ loaded))))

  pub pages_same : (p : ℕ) → child_page b image progress (had ++ more) p ≡ child_page b image progress had p
  pages_same p =
      ap (λ (bytes : List ℕ).
      if nat_le progress.passed p
      then under_shared (b.memory p) (if p == stack_page then None
      else if is_placed_page image progress p
      then Some (own bytes (any_writes p (segments_filled image progress) || not (is_settled_page image progress p))) else None)
      else (if p == stack_page then None
      else if is_placed_page image progress p
      then Some (own bytes (any_writes p (segments_filled image progress) || not (is_settled_page image progress p))) else None)) (bytes_same p)

-- the same pages are there, whatever bytes they have
pages_there : (b : Born) (image : ImageRead) (progress : Progress) (file other : List ℕ) (p : ℕ) →
    is_some (child_page b image progress file p) ≡ is_some (child_page b image progress other p)
pages_there b image progress file other p =
    by_tests (nat_le progress.passed p) (p == stack_page) (is_placed_page image progress p) (b.memory p)
  where
    writes : Bool
    writes = any_writes p (segments_filled image progress) || not (is_settled_page image progress p)

    stack : Option Page
    stack = if progress.stack then Some (stack_of image.words) else None

    by_tests : (c d e : Bool) (shared : Option Page) →
        is_some (if c then under_shared shared (if d then stack else if e then Some (own (page_bytes (segments_filled image progress) file p) writes) else None)
        else (if d then stack else if e then Some (own (page_bytes (segments_filled image progress) file p) writes) else None))
        ≡ is_some (if c then under_shared shared (if d then stack else if e then Some (own (page_bytes (segments_filled image progress) other p) writes) else None)
        else (if d then stack else if e then Some (own (page_bytes (segments_filled image progress) other p) writes) else None))
    by_tests true true e shared = refl
    by_tests true false true None = refl
    by_tests true false true (Some (own bytes writable)) = refl
    by_tests true false true (Some (named name writable)) = refl
    by_tests true false false shared = refl
    by_tests false true e shared = refl
    by_tests false false true shared = refl
    by_tests false false false shared = refl

-- ---- what it loads

record LoadsMore (slot : ℕ) (image of_image : ImageRead) (o : Option Spawning) (file more : List ℕ) (pieces : List (List ℕ)) : Type 0 where
  image_is : image ≡ of_image
  file_is : file ≡ all_of pieces ++ more
  again : (bytes : List ℕ) → Loads slot image o bytes (all_of pieces ++ bytes)

loads_more : {slot fd child : ℕ} {image of_image : ImageRead} {o : Option Spawning} {more file : List ℕ} {pieces : List (List ℕ)} →
    Loads slot image o more file → o ≡ Some (loading fd of_image child pieces) → LoadsMore slot image of_image o file more pieces
loads_more {slot = slot} {image = image} {pieces = pieces} (is_loading fd had more) same =
    let pieces_are : had ≡ pieces = cc in
    record {
      image_is = cc;
      file_is = ap (λ (l : List (List ℕ)). all_of l ++ more) pieces_are;
      again = λ bytes.
          subst (λ (l : List (List ℕ)). Loads slot image (Some (loading fd image slot had)) bytes (all_of l ++ bytes)) pieces_are (is_loading fd had bytes);
    }
loads_more (is_closed had more) same = absurd cc

-- ---- the child, behind the reply

same_born : (b c : Born) → ◌≡◌ {A = AbstractSlot} (born b) (born c) → b ≡ c
same_born b c same = cc

same_step : (path argv other_path other_argv : ℕ) (at to : SpawnStep) →
    place.InService (service.Spawn path argv) (step.Spawning at) ≡ place.InService (service.Spawn other_path other_argv) (step.Spawning to) → at ≡ to
same_step path argv other_path other_argv at to same = cc

module _ {names : Names} {s : SpacesState} {parent : Slot} {b : Born} {k : Slot} {id parent_id : ℕ} (path argv sender answer : ℕ) (bytes : List ℕ)
    (fd headers child header done end place_in id_asked : ℕ) (at : place_of parent ≡ place.InService (service.Spawn path argv)
    (step.Spawning (spawn.Reading (part.Piece fd headers child header done end place_in) (read.ReadingReply id_asked))))
    (waits : b.phase ≡ in_service (service.Spawn path argv) awaiting) (image : ImageRead) (pieces : List (List ℕ))
    (found : b.spawning ≡ Some (loading fd image (child % NENV) pieces)) (come : HaveComeTo image header done pieces)
    (told : place_of (received_in parent sender answer 0) ≡ place_of parent) (h : IsSpawned names s parent (born b) k id parent_id) where
  abbrev after : Born
  after = spawn_replied_born b path argv bytes answer

  itself : h.b ≡ b
  itself = same_born h.b b (sym h.born_by)

  here : h.at_step ≡ spawn.Reading (part.Piece fd headers child header done end place_in) (read.ReadingReply id_asked)
  here = same_step h.path h.argv path argv h.at_step _ (sym h.at ∙ at)

  progress_is : h.progress ≡ filling headers header done
  progress_is = subst (λ (to : SpawnStep). IsProgress (entry_count_of (slice_index h.image.header)) to h.progress) here h.is_so

  loads : LoadsMore (id % NENV) h.image image h.b.spawning h.file (bytes_replied h.b.phase) pieces
  loads = loads_more h.loads (ap (λ (c : Born). c.spawning) itself ∙ found)

  none_before : bytes_replied h.b.phase ≡ []
  none_before = ap (λ (c : Born). bytes_replied c.phase) itself ∙ ap bytes_replied waits

  file_was : h.file ≡ all_of pieces ++ []
  file_was = loads.file_is ∙ ap (λ (l : List ℕ). all_of pieces ++ l) none_before

  come_so : length (all_of pieces) ≡ packed_at (headers_in h.image.table) header + done
  come_so = come ∙ ap (λ (one : ImageRead). packed_at (headers_in one.table) header + done) (sym loads.image_is)

  same_page : (p : ℕ) → child_page h.b h.image h.progress h.file p ≡ child_page after h.image h.progress (all_of pieces ++ bytes) p
  same_page p =
      (λ i. child_page (itself i) h.image (progress_is i) (file_was i) p)
      ∙ pages_same b h.image headers header done (all_of pieces) [] come_so p
      ∙ sym (pages_same after h.image headers header done (all_of pieces) bytes come_so p)
      ∙ sym (λ i. child_page after h.image (progress_is i) (all_of pieces ++ bytes) p)

  same_there : (p : ℕ) →
      is_some (child_page h.b h.image (passing (entry_count_of (slice_index h.image.header)) 0) h.file p)
      ≡ is_some (child_page after h.image (passing (entry_count_of (slice_index h.image.header)) 0) (all_of pieces ++ bytes) p)
  same_there p =
      (λ i. is_some (child_page (itself i) h.image (passing (entry_count_of (slice_index h.image.header)) 0) h.file p))
      ∙ pages_there b h.image (passing (entry_count_of (slice_index h.image.header)) 0) h.file (all_of pieces ++ bytes) p

  pub spawned_replied : IsSpawned names s (received_in parent sender answer 0) (born after) k id parent_id
  spawned_replied = record {
    b = after;
    born_by = refl;
    named = ap (λ (c : Born). c.id) (sym itself) ∙ h.named;
    path = h.path;
    argv = h.argv;
    at_step = h.at_step;
    at = told ∙ h.at;
    borne = h.borne;
    image = h.image;
    file = all_of pieces ++ bytes;
    loads = subst (λ (o : Option Spawning). Loads (id % NENV) h.image o bytes (all_of pieces ++ bytes)) (ap (λ (c : Born). c.spawning) itself) (loads.again bytes);
    progress = h.progress;
    is_so = h.is_so;
    registers = h.registers;
    upcall = h.upcall;
    memory = λ p inside. h.memory p inside ∙ same_page p;
    uncopied = h.uncopied;
    handed = h.handed;
    rest = h.rest;
    handler_stack = h.handler_stack;
    no_handler_stack = h.no_handler_stack;
    none = h.none;
    tables = λ r table.
        (λ i. some_below NPTENTRIES (λ p. sym (same_there (r * NPTENTRIES + p)) i) || is_library_region r) ∙ h.tables r table;
    here = h.here;
  }

-- ---- all children

module _ {names : Names} {s : KernelState} {a : AbstractState} (h : StandsFor names s a) (client : ℕ) (b : Born) (at : a.slots client ≡ born b)
    (path argv sender answer : ℕ) (bytes : List ℕ) (told : place_of (received_in (slot_at s client) sender answer 0) ≡ place_of (slot_at s client)) where
  abbrev slot_replied : Slot
  slot_replied = received_in (slot_at s client) sender answer 0

  abbrev born_replied : Born
  born_replied = spawn_replied_born b path argv bytes answer

  abbrev v : View
  v = view_of s.spaces (slot_at s client).directory

  abbrev pub InSpawn : SpawnStep → Type 0
  InSpawn to = place_of (slot_at s client) ≡ place.InService (service.Spawn path argv) (step.Spawning to)

  -- it bears none there
  unborne_there : {k : Slot} {id parent_id : ℕ} (to : SpawnStep) → InSpawn to → spawning_child to ≡ None →
      IsSpawned names s.spaces (slot_at s client) (born b) k id parent_id → ⊥
  unborne_there {id = id} to there none x =
      none-some id (sym none ∙ ap spawning_child (sym (same_step x.path x.argv path argv x.at_step to (sym x.at ∙ there))) ∙ x.borne)

  by_wanted : {k : Slot} {id parent_id : ℕ} {wanted : FilePart} {count : ℕ} (id_asked : ℕ) → IsFor v b wanted count → InSpawn (spawn.Reading wanted (read.ReadingReply id_asked)) →
      b.phase ≡ in_service (service.Spawn path argv) awaiting → IsSpawned names s.spaces (slot_at s client) (born b) k id parent_id →
      IsSpawned names s.spaces slot_replied (born born_replied) k id parent_id
  by_wanted id_asked (for_header esp fd size words found sized stack long) there waits x = absurd (unborne_there _ there refl x)
  by_wanted id_asked (for_table esp fd size entry_point headers place_in words header found sized stack begins many few) there waits x =
      absurd (unborne_there _ there refl x)
  by_wanted id_asked (for_piece fd headers child header done end place_in image pieces found of_file whole below left come next sized) there waits x =
      spawned_replied path argv sender answer bytes fd headers child header done end place_in id_asked there waits image pieces found come told x

  by_awaits : {k : Slot} {id parent_id : ℕ} {to : SpawnStep} → SpawnAwaits v (slot_at s client) b path argv to → InSpawn to →
      IsSpawned names s.spaces (slot_at s client) (born b) k id parent_id → IsSpawned names s.spaces slot_replied (born born_replied) k id parent_id
  by_awaits (expects_file esp fd id_asked self so) there x = absurd (unborne_there _ there refl x)
  by_awaits (expects_part wanted id_asked self so) there x = by_wanted id_asked so.so there so.awaiting_it.phase x

  module _ (to : SpawnStep) (there : InSpawn to) (awaits : SpawnAwaits v (slot_at s client) b path argv to) where
    by_borne : {k : Slot} {id parent_id : ℕ} → IsBorneBy names s.spaces (slot_at s client) (born b) k id parent_id →
        IsBorneBy names s.spaces slot_replied (born born_replied) k id parent_id
    by_borne (by_fork x) =
        let contradiction : place.InService (service.Spawn path argv) (step.Spawning to) ≡ place.InService service.Fork x.step = sym there ∙ x.at in absurd cc
    by_borne (by_spawn x) = by_spawn (by_awaits awaits there x)

    abbrev slots : ℕ → Slot
    slots = upd s.environments.slots client slot_replied

    abbrev abstract : ℕ → AbstractSlot
    abstract = upd a.slots client (born born_replied)

    -- who is not born is another
    apart : (m id parent : ℕ) → a.slots m ≡ unborn id parent → m ≢ client
    apart m id parent is here = let contradiction : unborn id parent ≡ born b = sym is ∙ ap a.slots here ∙ at in absurd cc

    borne_elsewhere : (m id parent : ℕ) → m ≢ client → a.slots m ≡ unborn id parent →
        IsBorneBy names s.spaces (slots (parent % NENV)) (abstract (parent % NENV)) (slots m) id parent
    borne_elsewhere m id parent ne was =
        subst (λ (k : Slot). IsBorneBy names s.spaces (slots (parent % NENV)) (abstract (parent % NENV)) k id parent)
        (sym (upd-other s.environments.slots client slot_replied m ne)) (by_parent (parent % NENV == client) refl)
      where
        it : IsBorneBy names s.spaces (slot_at s (parent % NENV)) (a.slots (parent % NENV)) (slot_at s m) id parent
        it = h.children.borne m id parent was

        by_parent : (c : Bool) → (parent % NENV == client) ≡ c →
            IsBorneBy names s.spaces (slots (parent % NENV)) (abstract (parent % NENV)) (slot_at s m) id parent
        by_parent true test =
            let here : parent % NENV ≡ client = grind (arith, nat_tests, test) in
            let its_slot : slots (parent % NENV) ≡ slot_replied = ap slots here ∙ upd-at s.environments.slots client slot_replied in
            let its_born : abstract (parent % NENV) ≡ born born_replied = ap abstract here ∙ upd-at a.slots client (born born_replied) in
            let was_here : IsBorneBy names s.spaces (slot_at s client) (born b) (slot_at s m) id parent =
            subst (λ (x : AbstractSlot). IsBorneBy names s.spaces (slot_at s client) x (slot_at s m) id parent) (ap a.slots here ∙ at)
            (subst (λ (q : ℕ). IsBorneBy names s.spaces (slot_at s q) (a.slots (parent % NENV)) (slot_at s m) id parent) here it) in
            subst (λ (k : Slot). IsBorneBy names s.spaces k (abstract (parent % NENV)) (slot_at s m) id parent) (sym its_slot)
            (subst (λ (x : AbstractSlot). IsBorneBy names s.spaces slot_replied x (slot_at s m) id parent) (sym its_born) (by_borne was_here))
        by_parent false test =
            let other : parent % NENV ≢ client = grind (arith, nat_tests, test) in
            subst (λ (k : Slot). IsBorneBy names s.spaces k (abstract (parent % NENV)) (slot_at s m) id parent)
            (sym (upd-other s.environments.slots client slot_replied (parent % NENV) other))
            (subst (λ (x : AbstractSlot). IsBorneBy names s.spaces (slot_at s (parent % NENV)) x (slot_at s m) id parent)
            (sym (upd-other a.slots client (born born_replied) (parent % NENV) other)) it)

    borne_so : (m id parent : ℕ) → abstract m ≡ unborn id parent →
        IsBorneBy names s.spaces (slots (parent % NENV)) (abstract (parent % NENV)) (slots m) id parent
    borne_so m id parent is = by_slot (m == client) refl
      where
        by_slot : (c : Bool) → (m == client) ≡ c → IsBorneBy names s.spaces (slots (parent % NENV)) (abstract (parent % NENV)) (slots m) id parent
        by_slot true test =
            let here : m ≡ client = grind (arith, nat_tests, test) in
            let contradiction : born born_replied ≡ unborn id parent = sym (upd-at a.slots client (born born_replied)) ∙ ap abstract (sym here) ∙ is in absurd cc
        by_slot false test =
            let ne : m ≢ client = grind (arith, nat_tests, test) in
            borne_elsewhere m id parent ne (sym (upd-other a.slots client (born born_replied) m ne) ∙ is)

    have_so : (n id : ℕ) (c : Born) → abstract n ≡ born c → borne_in (place_of (slots n)) ≡ Some id → abstract (id % NENV) ≡ unborn id c.id
    have_so n id c is bears = by_slot (n == client) refl
      where
        by_slot : (t : Bool) → (n == client) ≡ t → abstract (id % NENV) ≡ unborn id c.id
        by_slot true test =
            let here : n ≡ client = grind (arith, nat_tests, test) in
            let c_is : c ≡ born_replied = same_born c born_replied (sym is ∙ ap abstract here ∙ upd-at a.slots client (born born_replied)) in
            let its : borne_in (place_of (slot_at s client)) ≡ Some id =
            sym (ap borne_in told) ∙ sym (ap (λ (k : Slot). borne_in (place_of k)) (upd-at s.environments.slots client slot_replied))
            ∙ ap (λ (q : ℕ). borne_in (place_of (slots q))) (sym here) ∙ bears in
            let was : a.slots (id % NENV) ≡ unborn id b.id = h.children.have client id b at its in
            upd-other a.slots client (born born_replied) (id % NENV) (apart (id % NENV) id b.id was) ∙ was
            ∙ ap (λ (x : Born). unborn id x.id) (sym c_is)
        by_slot false test =
            let ne : n ≢ client = grind (arith, nat_tests, test) in
            let was : a.slots (id % NENV) ≡ unborn id c.id =
            h.children.have n id c (sym (upd-other a.slots client (born born_replied) n ne) ∙ is)
            (ap (λ (k : Slot). borne_in (place_of k)) (sym (upd-other s.environments.slots client slot_replied n ne)) ∙ bears) in
            upd-other a.slots client (born born_replied) (id % NENV) (apart (id % NENV) id c.id was) ∙ was

    pub children_replied : HasChildren names s.spaces slots abstract
    children_replied = record { borne = borne_so; have = have_so }
