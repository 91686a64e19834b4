-- The law of spawn as it puts the next bytes of a piece into the child's page at SPAWN_HERE: the child has them then, and spawn goes on to the next.
use Rattle.std.proofs.Common.{◌≡◌, ◌≢◌, ◌∙◌, ◌+◌, ◌-◌, ◌*◌, ◌/◌, ◌%◌, ◌^◌, ◌<◌, ◌≤◌, ◌==◌, ◌&&◌, ◌||◌, ◌++◌, ℕ, Bool, true, false, List, [], ◌∷◌, Some}
use Rattle.std.proofs.Common.{length, refl, sym, ap, subst, arith, if◌then◌else◌}
use Rattle.std.specs.Int.{to_le_bytes, w32}
use Rattle.std.specs.Prelude.{drop, nat_le, take}
use Rattle.std.proofs.lemmas.Bool.{eqb-false, eqb-true}
use Rattle.std.proofs.lemmas.Bool.Decides.{nat_tests}
use Rattle.std.proofs.lemmas.List.{drop-drop, drop_at, length-append}
use Rattle.std.proofs.lemmas.Option.{same_Some}
use Rattle.jos_base.specs.declared.numbers.TheConstants.{NENV, PGSIZE}
use Rattle.jos_base.specs.Counting.{page_limit}
use Rattle.jos_base.specs.Environments.{is_live}
use Rattle.jos_base.specs.KernelState.{KernelState, slot_at, with_extra, with_spaces}
use Rattle.jos_base.specs.Reach.{Entry}
use Rattle.jos_base.specs.SystemCalls.{has_write}
use Rattle.jos_base.specs.Words.{page_number}
use Rattle.jos_elf.specs.declared.header.ProgramHeader.{ProgramHeader}
use Rattle.jos_elf.specs.Pages.{page_bytes}
use Rattle.jos_elf.specs.Tests.{is_loaded}
use Rattle.lib_os.specs.declared.numbers.TheConstants.{SPAWN_HERE, SPAWN_STACK, TRANSFER_MAX}
use Rattle.lib_os.specs.declared.place.Place.{Place}
use Rattle.lib_os.specs.declared.place.Step.TheVariants as step
use Rattle.lib_os.specs.declared.service.Service.TheVariants as service
use Rattle.lib_os.specs.declared.spawn_steps.BearingStep.{BearingStep}
use Rattle.lib_os.specs.declared.spawn_steps.BearingStep.TheVariants as bearing
use Rattle.lib_os.specs.declared.spawn_steps.SpawnStep.{SpawnStep}
use Rattle.lib_os.specs.declared.spawn_steps.SpawnStep.TheVariants as spawn
use Rattle.lib_os.specs.AbstractSpawn.{all_of, headers_in, packed}
use Rattle.lib_os.specs.AbstractState.{AbstractState, Born, ImageRead, own}
use Rattle.lib_os.specs.InOrder.{IsInOrder}
use Rattle.lib_os.specs.LibraryPages.{IsOwnWritable, has_spawns}
use Rattle.lib_os.specs.Places.{place_of}
use Rattle.lib_os.specs.Rows.{AreBytes, IsPage, Names, is_of_descriptor, rows_of}
use Rattle.lib_os.specs.SpawnedChild.{IsHere, Progress, bytes_replied, filling, page_here, segments_filled}
use Rattle.lib_os.specs.StandsAtSpawn.{BearingStands, IsPuttingAt, put_at_once}
use Rattle.lib_os.specs.StandsFor.{StandsFor, view_of}
use Rattle.lib_os.specs.UserCalls.{CallStep, store, store_byte}
use Rattle.lib_os.proofs.BytesKept.{PutsBytes, store_byte_puts, store_puts}
use Rattle.lib_os.proofs.BytesPut.{bytes_put, put_whole}
use Rattle.lib_os.proofs.CopiesStored.{IsRewritten}
use Rattle.lib_os.proofs.EntryWords.{row_entry}
use Rattle.lib_os.proofs.HereStores.{PutsBehind, PutsPage, here_stored_stands}
use Rattle.lib_os.proofs.KeptPages.{number_aside}
use Rattle.lib_os.proofs.PageBytes.{bytes_more, bytes_none, word_bytes}
use Rattle.lib_os.proofs.SpawnedGoes.{IsSpawner, spawner}
use Rattle.lib_os.proofs.SpawnedMoves.{spawned_counted}
use Rattle.lib_os.proofs.SpawnedProgress.{loads_same}
use Rattle.lib_os.proofs.SpawnOwnPages.{spawn_there, spawn_words, spawns_at}
use Rattle.lib_stage.specs.declared.ask.Ask.TheVariants as ask
use Rattle.lib_stage.specs.declared.ask.Next.{Next}
use Rattle.lib_stage.specs.declared.ask.Next.TheVariants as next
use Rattle.lib_stage.specs.ServiceSteps.{ServiceHolds}
use Rattle.lib_stage.proofs.Laws.{is_word_beside}
use Rattle.lib_file.specs.Keeping.{next_va}
use Rattle.lib_file.proofs.Finds.{Follows, staged}
use Rattle.lib_request.proofs.OwnPageLaws.{IsStoredSo, own_store_byte_known, own_store_known, own_word_beside}
use Rattle.lib_bytes.specs.FileStages.{moved}
use Rattle.lib_child.specs.BearingStages.{bears, next_of, put_behind}
use Rattle.lib_child.proofs.BearingFalls.{bearing_known}
use Rattle.lib_child.proofs.LaidMore.{filled_beside, filled_more, page_alike}
use Rattle.lib_child.proofs.PagesPlaced.{IsPageOf, page_inside}
use Rattle.lib_child.proofs.PieceGoesOn.{Moves, PutGoes, moves_at, put_goes}
use Rattle.lib_child.proofs.PieceLoads.{end_small, moved_same, next_place, one_of}
use Rattle.lib_child.proofs.PiecesLeft.{count_of}
use Rattle.lib_child.proofs.PutsAt.{HasFilling, filled_page, page_there, put_page}

-- whether it says of a segment does not depend on where the bytes stand
loaded_packed : (headers : ℕ → ProgramHeader) (m : ℕ) → is_loaded (headers m) ≡ true → is_loaded (packed headers m) ≡ true
unfolding is_loaded
loaded_packed headers m is = is

-- no other page of the child's stands there
only_there : (q : ℕ) → q ≢ page_number SPAWN_HERE → (((q == page_number SPAWN_HERE) && true) || ((q == page_number SPAWN_STACK) && false)) ≡ false
only_there q ne =
    let off : (q == page_number SPAWN_HERE) ≡ false = off_of q (page_number SPAWN_HERE) ne in
    ap (λ (c : Bool). (c && true) || ((q == page_number SPAWN_STACK) && false)) off ∙ and_none (q == page_number SPAWN_STACK)
  where
    off_of : (q p : ℕ) → q ≢ p → (q == p) ≡ false
    off_of q p other = grind (arith, nat_tests, other)

    and_none : (c : Bool) → (c && false) ≡ false
    and_none true = refl
    and_none false = refl

-- words are put at multiples of four
four_aligned : (at wanted : ℕ) → put_at_once at wanted ≡ 4 → at % 4 ≡ 0
four_aligned at wanted four = by_tests (at % 4 == 0) refl (nat_le 4 wanted) four
  where
    by_tests : (aligned : Bool) → (at % 4 == 0) ≡ aligned → (many : Bool) → ◌≡◌ {A = ℕ} (if aligned && many then 4 else 1) 4 → at % 4 ≡ 0
    by_tests true test many is = eqb-true (at % 4) 0 test
    by_tests false test many is = absurd (omega (arith, is))

module _ (s : KernelState) (n path argv : ℕ) (live : is_live (slot_at s n) ≡ true) (fd headers child header va done end word : ℕ)
    (stands : place_of (slot_at s n) ≡ spawns_at path argv (spawn.Bearing (bearing.PiecePutting fd headers child header va done end word))) where
  abbrev at : BearingStep
  at = bearing.PiecePutting fd headers child header va done end word

  abbrev from : SpawnStep
  from = spawn.Bearing at

  abbrev home : ℕ
  home = (slot_at s n).directory

  abbrev number : ℕ
  number = page_number SPAWN_HERE

  abbrev offset : ℕ
  offset = next_va va done % PGSIZE

  abbrev place_va : ℕ
  place_va = SPAWN_HERE + offset

  abbrev m : ℕ
  m = moved va done end

  module _ (names : Names) (a : AbstractState) (h : StandsFor names s a) where
    abbrev b : Born
    b = (spawn_there h n path argv from stands).b

    abbrev stands_so : BearingStands (view_of s.spaces home) (slot_at s n) b path argv at
    stands_so = (spawn_there h n path argv from stands).at

    abbrev so : IsPuttingAt (view_of s.spaces home) (slot_at s n) b path argv fd headers child header va done end
    so = stands_so.0

    u : IsSpawner names s a n path argv from child b
    u = spawner h n path argv child from stands refl

    abbrev image : ImageRead
    image = so.putting.image

    abbrev bytes : List ℕ
    bytes = so.putting.bytes

    abbrev file : List ℕ
    file = all_of so.putting.pieces ++ bytes_replied b.phase

    abbrev page : ℕ
    page = page_number (va + done)

    -- ---- the page

    mine : IsPageOf image header page
    mine = subst (λ (first : ℕ). IsPageOf image header (page_number (first + done))) so.va_is (put_page so.putting)

    there : HasFilling names s (slot_at s (child % NENV)) image (filling headers header done) file page
    there = page_there u.child so.putting.found.is (λ progress is. is) mine so.putting.below

    abbrev frame : ℕ
    frame = there.it.entry.frame

    here : IsHere (rows_of s.spaces home) (rows_of s.spaces (slot_at s (child % NENV)).directory) number (page_here from)
    here = u.child.here number refl

    own_here : IsOwnWritable (rows_of s.spaces home) number
    own_here =
        (spawn_there h n path argv from stands).own.library.spawns number (ap (λ (q : Place). has_spawns q (slot_at s n).extra number) stands)

    here_writes : has_write here.here.perm ≡ true
    here_writes =
        ap (λ (e : Entry). has_write e.perm) (same_Some here.here own_here.entry (sym here.here_is ∙ own_here.stands)) ∙ own_here.writes

    frame_is : here.here.frame ≡ frame
    frame_is =
        here.same
        ∙ ap (λ (e : Entry). e.frame) (same_Some here.there there.it.entry
        (sym here.there_is ∙ ap (rows_of s.spaces (slot_at s (child % NENV)).directory) (here.is_told page refl) ∙ there.it.stands))

    below : number < page_limit
    below =
        let raw = row_entry s.spaces home number here.here here.here_is in
        (h.in_order.frames.within home number raw.0 raw.1).1

    offset_is : offset ≡ (va + done) % PGSIZE
    offset_is = ap (λ (q : ℕ). q % PGSIZE) (next_place so)

    moves : Moves (va + done) (end - done) m
    moves =
        let within = so.putting.within in
        subst (λ (q : ℕ). Moves (va + done) (end - done) q) (sym (moved_same so)) (moves_at (va + done) (end - done) (omega (arith, within)))

    -- ---- the file's bytes

    image_below : header < count_of image
    image_below = subst (λ (q : ℕ). header < q) so.putting.whole.many so.putting.below

    loaded : is_loaded (packed (headers_in image.table) header) ≡ true
    loaded = loaded_packed (headers_in image.table) header so.putting.loaded

    abbrev file_at : ℕ
    file_at = (packed (headers_in image.table) header).file_at

    replied_is : bytes_replied b.phase ≡ bytes
    replied_is = ap bytes_replied so.putting.found.is_in.phase

    file_has : file_at + (done + m) ≤ length file
    file_has =
        let all = length-append (all_of so.putting.pieces) (bytes_replied b.phase) in
        let last = ap length replied_is in
        let come = so.putting.come in
        let long = so.putting.long in
        let few = moves.few in
        let within = so.putting.within in
        omega (arith, all, last, come, long, few, within)

    file_rest : drop (file_at + done) file ≡ drop (done % TRANSFER_MAX) bytes
    file_rest =
        let come = so.putting.come in
        let skipped : file_at + done ≡ length (all_of so.putting.pieces) + done % TRANSFER_MAX = omega (arith, come) in
        ap (λ (q : ℕ). drop q file) skipped
        ∙ sym (drop-drop (done % TRANSFER_MAX) (length (all_of so.putting.pieces)) file)
        ∙ ap (drop (done % TRANSFER_MAX)) (drop_at (all_of so.putting.pieces) (bytes_replied b.phase) (length (all_of so.putting.pieces)) refl ∙ replied_is)

    -- ---- what comes of a store of these bytes

    module _ (put : List ℕ) (small : AreBytes put) (put_is : put ≡ take m (drop (done % TRANSFER_MAX) bytes)) (call : CallStep (Unit {0}))
        (puts : PutsBytes s n here.here offset put call) where
      abbrev bytes_now : List ℕ
      bytes_now = bytes_put (s.spaces.pages frame) offset put

      rewritten : IsRewritten s.spaces puts.spaces frame bytes_now
      rewritten = subst (λ (f : ℕ). IsRewritten s.spaces puts.spaces f (bytes_put (s.spaces.pages f) offset put)) frame_is puts.rewritten

      whole : IsPage (s.spaces.pages frame)
      whole = h.whole (child % NENV) page there.it.entry (spawned_counted h u page ∙ there.it.stands)

      filled_now : page_bytes (segments_filled image (filling headers header (done + m))) file page ≡ bytes_now
      filled_now =
          let first = so.va_is in
          let fits = moves.fits in
          filled_more image headers header image_below loaded file page done m moves.some (omega (arith, first)) (omega (arith, first, fits)) file_has
          ∙ (λ i. bytes_put (sym there.it.bytes_are i) (place_is i) ((ap (take m) file_rest ∙ sym put_is) i))
        where
          place_is : (headers_in image.table header).va + done - page * PGSIZE ≡ offset
          place_is = let first = so.va_is in let same = offset_is in omega (arith, first, same)

      abbrev on : PutGoes (view_of s.spaces home) (slot_at s n) b path argv child (count_of image) from (filling headers header (done + m))
          (put_behind fd headers child header va (done + m) end)
      on = put_goes word so m moves

      abbrev to : SpawnStep
      to = put_behind fd headers child header va (done + m) end

      puts_next : PutsPage b image file (filling headers header done) to page bytes_now
      puts_next = record {
        progress = filling headers header (done + m);
        is_so = on.is_so;
        registers = refl;
        handler = refl;
        handler_stack = refl;
        passed = refl;
        here = filled_page mine b file headers header (done + m) so.putting.below ∙ ap (λ (l : List ℕ). Some (own l true)) filled_now;
        others = λ q within ne.
            let first = so.va_is in
            let fits = moves.fits in
            page_alike b image file headers header done (done + m) q
            (filled_beside image headers header image_below loaded file page done m moves.some (omega (arith, first))
            (omega (arith, first, fits)) file_has q ne);
      }

      puts_behind : PutsBehind b child from to page bytes_now
      puts_behind one loaded_file progress loads is_so =
          let same = loads_same loads so.putting.found.is in
          subst (λ (x : ImageRead). PutsPage b x loaded_file progress to page bytes_now) (sym same.image_is)
          (subst (λ (l : List ℕ). PutsPage b image l progress to page bytes_now) (sym same.file_is)
          (subst (λ (p : Progress). PutsPage b image file p to page bytes_now) (sym is_so) puts_next))

      stored : IsInOrder (with_spaces s puts.spaces) → s.last ≡ Some n → StandsFor names (with_extra (with_spaces s puts.spaces) n (spawn_words to)) a
      stored order last =
          here_stored_stands h n path argv child from to stands refl on.bears on.held on.childs on.told number
          (number_aside number refl) only_there own_here page
          (page_inside mine) there.it.entry there.it.stands there.it.own_page there.writes bytes_now (put_whole (s.spaces.pages frame) offset put small whole)
          rewritten last order puts_behind (λ beside. on.stands (view_of puts.spaces home) beside)

      -- where it goes on
      next_is : next_of at 0 ≡ next.GoOn (step.Spawning to)
      next_is =
          let few = moves.few in
          let within = so.putting.within in
          let low = end_small so in
          let same : (done + m) % 2 ^ 32 ≡ done + m = omega (arith, few, within, low) in
          ap (λ (q : ℕ). next.GoOn (step.Spawning (put_behind fd headers child header va q end))) same

      stored_so : IsStoredSo s n (service.Spawn path argv) a (next_of at) call
      stored_so = record {
        spaces = puts.spaces;
        step_is = puts.step_is;
        follows = λ order last.
            subst (λ (x : Next). Follows (with_spaces s puts.spaces) n (service.Spawn path argv) a x) (sym next_is) (refl, (names, stored order last));
      }

    -- ---- a word, or a byte

    word_stored : (m == 4) ≡ true → IsStoredSo s n (service.Spawn path argv) a (next_of at) (store s n place_va word)
    word_stored test =
        let four : m ≡ 4 = eqb-true m 4 test in
        let fits = moves.fits in
        let same = offset_is in
        let room : offset + 4 ≤ PGSIZE = omega (arith, fits, same, four) in
        let where_is : number * PGSIZE + offset ≡ place_va = omega arith in
        let four_too : put_at_once (va + done) (end - done) ≡ 4 = sym (moved_same so) ∙ four in
        let taken : take 4 (to_le_bytes w32 word) ≡ take 4 (drop (done % TRANSFER_MAX) bytes) =
        subst (λ (q : ℕ). take q (to_le_bytes w32 word) ≡ take q (drop (done % TRANSFER_MAX) bytes)) four_too stands_so.1 in
        subst (λ (q : ℕ). IsStoredSo s n (service.Spawn path argv) a (next_of at) (store s n q word)) where_is
        (stored_so (to_le_bytes w32 word) (word_bytes word) (taken ∙ ap (λ (q : ℕ). take q (drop (done % TRANSFER_MAX) bytes)) (sym four))
        (store s n (number * PGSIZE + offset) word)
        (store_puts s n number below here.here here.here_is here.user here_writes offset (omega (arith, room)) word room))

    byte_stored : (m == 4) ≡ false → IsStoredSo s n (service.Spawn path argv) a (next_of at) (store_byte s n place_va (word % 256))
    byte_stored test =
        let other = eqb-false m 4 test in
        let one_too : put_at_once (va + done) (end - done) ≡ 1 = one_of (va + done) (end - done) (λ four. other (moved_same so ∙ four)) in
        let one : m ≡ 1 = moved_same so ∙ one_too in
        let inner : offset < PGSIZE = omega arith in
        let where_is : number * PGSIZE + offset ≡ place_va = omega arith in
        let taken : take 1 (to_le_bytes w32 word) ≡ take 1 (drop (done % TRANSFER_MAX) bytes) =
        subst (λ (q : ℕ). take q (to_le_bytes w32 word) ≡ take q (drop (done % TRANSFER_MAX) bytes)) one_too stands_so.1 in
        subst (λ (q : ℕ). IsStoredSo s n (service.Spawn path argv) a (next_of at) (store_byte s n q (word % 256))) where_is
        (stored_so (word % 256 ∷ []) (bytes_more (word % 256) [] (omega arith) bytes_none)
        (taken ∙ ap (λ (q : ℕ). take q (drop (done % TRANSFER_MAX) bytes)) (sym one)) (store_byte s n (number * PGSIZE + offset) (word % 256))
        (store_byte_puts s n number below here.here here.here_is here.user here_writes offset inner (word % 256)))

  pub piece_putting_holds : ServiceHolds s n (bears (record { at = bearing.PiecePutting fd headers child header va done end word }))
  piece_putting_holds = by_moved (m == 4) refl
    where
      where_it_is : number * PGSIZE + offset ≡ place_va
      where_it_is = omega arith

      word_beside : m ≡ 4 → is_word_beside place_va ≡ true
      word_beside four =
          let aligned : next_va va done % 4 ≡ 0 = four_aligned (next_va va done) (end - done) four in
          subst (λ (q : ℕ). is_word_beside q ≡ true) where_it_is (own_word_beside number offset (omega (arith, aligned)) refl)

      number_is : page_number place_va ≡ number
      number_is = omega arith

      by_moved : (c : Bool) → (m == 4) ≡ c →
          ServiceHolds s n (staged (service.Spawn path argv) (if c then ask.Store place_va word else ask.StoreByte place_va (word % 256)) (next_of at))
      by_moved true test =
          own_store_known s n (service.Spawn path argv) (step.Spawning from) live refl stands (next_of at) (bearing_known s n path argv at stands) place_va word
          (word_beside (eqb-true m 4 test)) (λ names a h. word_stored names a h test)
      by_moved false test =
          own_store_byte_known s n (service.Spawn path argv) (step.Spawning from) live refl stands (next_of at) (bearing_known s n path argv at stands) place_va
          (word % 256) (ap (λ (q : ℕ). is_of_descriptor q) number_is) (λ names a h. byte_stored names a h test)
