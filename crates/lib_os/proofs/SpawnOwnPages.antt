-- The pages that spawn keeps of its own: which they are at a step, what is loaded from them, and what is stored into them. Nobody sees them, so that the kernel's
-- state stands for the same abstract one behind a store, where spawn stands so at its next step with the page's bytes.
use Rattle.std.proofs.Common.{◌≡◌, ◌∙◌, ◌+◌, ◌*◌, ◌%◌, ◌<◌, ◌≤◌, ◌==◌, ◌&&◌, ◌||◌, ℕ, Bool, true, false, not, List, [], ◌∷◌, length, None, Some}
use Rattle.std.proofs.Common.{refl, sym, ap, subst, arith, if◌then◌else◌}
use Rattle.std.specs.Int.{w32, from_le_bytes, to_le_bytes}
use Rattle.std.specs.Prelude.{slice_index}
use Rattle.std.proofs.lemmas.Bool.{and_parts, false≢true}
use Rattle.std.proofs.lemmas.Bool.Decides.{nat_tests}
use Rattle.std.proofs.lemmas.Option.{same_Some}
use Rattle.jos_base.specs.declared.numbers.TheConstants.{PGSIZE, UTEMP}
use Rattle.jos_base.specs.Counting.{page_limit}
use Rattle.jos_base.specs.Environments.{Slot}
use Rattle.jos_base.specs.KernelState.{KernelState, slot_at, with_extra, with_spaces}
use Rattle.jos_base.specs.Reach.{Entry}
use Rattle.jos_base.specs.SpacesState.{SpacesState}
use Rattle.jos_base.specs.SystemCalls.{is_page_perm}
use Rattle.jos_base.specs.Words.{page_number, page_offset, word_at}
use Rattle.lib_os.specs.declared.numbers.TheConstants.{SERVICE_SPAWN}
use Rattle.lib_os.specs.declared.place.Place.{Place}
use Rattle.lib_os.specs.declared.place.Place.TheVariants as place
use Rattle.lib_os.specs.declared.place.Step.{Step}
use Rattle.lib_os.specs.declared.place.Step.TheVariants as step
use Rattle.lib_os.specs.declared.service.Service.{Service}
use Rattle.lib_os.specs.declared.service.Service.TheVariants as service
use Rattle.lib_os.specs.declared.spawn_steps.SpawnStep.{SpawnStep}
use Rattle.lib_os.specs.AbstractState.{AbstractState, Born}
use Rattle.lib_os.specs.InOrder.{IsInOrder}
use Rattle.lib_os.specs.LibraryPages.{IsOwnWritable, has_spawns, has_working}
use Rattle.lib_os.specs.PipeEnds.{is_made}
use Rattle.lib_os.specs.Places.{place_of, words_at}
use Rattle.lib_os.specs.Rows.{AreBytes, EntryRow, IsPage, Names, Rows, counted, is_of_descriptor, is_programs, logical, logical_by, rows_of}
use Rattle.lib_os.specs.SpawnedChild.{spawning_child}
use Rattle.lib_os.specs.SpawnPages.{is_childs, keeps_page_at, keeps_request_page}
use Rattle.lib_os.specs.StandsAtSpawn.{PageHas, StandsAtSpawn}
use Rattle.lib_os.specs.StandsFor.{StandsAt, StandsFor, StandsForBorn, borne_in, seen_unless, view_of}
use Rattle.lib_os.specs.UserCalls.{CallStep, giving, load, load_byte, store, store_byte}
use Rattle.lib_os.proofs.BytesKept.{PutsBytes, StandsBeside, own_beside, stands_beside, store_byte_puts, store_puts}
use Rattle.lib_os.proofs.BytesPut.{bytes_put, put_whole}
use Rattle.lib_os.proofs.DescriptorLooks.{read_goes_on}
use Rattle.lib_os.proofs.EntryWords.{row_entry}
use Rattle.lib_os.proofs.FileLoaded.{load_page_byte}
use Rattle.lib_os.proofs.KeptPages.{spawns_aside}
use Rattle.lib_os.proofs.Loading.{loaded}
use Rattle.lib_os.proofs.Logical.{is_making_pipe, unborne_plain}
use Rattle.lib_os.proofs.Numbered.{named_at}
use Rattle.lib_os.proofs.PageBytes.{bytes_more, bytes_none, word_bytes}
use Rattle.lib_os.proofs.PagesPut.{IsPutIn}
use Rattle.lib_os.proofs.PageTaken.{working_no_descriptor, working_outside}
use Rattle.lib_os.proofs.PageWords.{load_page_word}
use Rattle.lib_os.proofs.PipesStand.{calm_places, descriptors_turned, is_calm}
use Rattle.lib_os.proofs.Serving.{IsServed, holds_page, library_moved, plain_copy, plain_upcall, plain_working, served}
use Rattle.lib_os.proofs.SlotsStand.{library_alike}
use Rattle.lib_os.proofs.StatesStand.{clients_live, others_counts, plain_alike}
use Rattle.lib_os.proofs.UnseenMoved.{unseen_moved}
use Rattle.lib_os.proofs.WindowWords.{read_at}
use Rattle.lib_os.proofs.WordsTell.{is_in_handler, place_at}
use Rattle.jos_base.proofs.Maps.{upd-at}

-- the pages that it keeps, but for those that are its child's
abbrev pub keeps_own : SpawnStep → ℕ → Bool
keeps_own at p = ((p == page_number UTEMP) && keeps_request_page at) || (keeps_page_at at p && not (is_childs at p))

-- such a page, in a state
pub record IsSpawnsOwn (s : KernelState) (n p : ℕ) : Type 0 where
  pub page : IsOwnWritable (rows_of s.spaces (slot_at s n).directory) p
  pub outside : is_programs p ≡ false
  pub no_descriptor : is_of_descriptor p ≡ false
  pub counts : logical s.spaces s.environments.slots n p ≡ rows_of s.spaces (slot_at s n).directory p
  pub user : is_page_perm page.entry.perm ≡ true
  pub whole : IsPage (s.spaces.pages page.entry.frame)
  pub below : p < page_limit

-- spawn stands at one of these steps
abbrev pub spawns_at : ℕ → ℕ → SpawnStep → Place
spawns_at path argv at = place.InService (service.Spawn path argv) (step.Spawning at)

abbrev pub spawn_words : SpawnStep → List ℕ
spawn_words at = words_at SERVICE_SPAWN (step.Spawning at)

-- What a store into such a page comes to: it gives nothing, the page has the bytes, and spawn goes on to a step with the same pages, where it stands so.
pub record IsStoredInto (names : Names) (s : KernelState) (a : AbstractState) (n path argv : ℕ) (from : SpawnStep) (b : Born) (p at : ℕ) (bytes : List ℕ)
    (call : CallStep (Unit {0})) : Type 0 where
  pub spaces : SpacesState
  pub step_is : call ≡ giving (with_spaces s spaces) tt
  pub put : IsInOrder (with_spaces s spaces) →
      IsPutIn (view_of s.spaces (slot_at s n).directory) (view_of spaces (slot_at s n).directory) p at bytes
  pub stands_beside : IsInOrder (with_spaces s spaces) → StandsBeside names s a spaces n
  pub goes_on : IsInOrder (with_spaces s spaces) → s.last ≡ Some n → spawning_child from ≡ None → (to : SpawnStep) → spawning_child to ≡ None →
      holds_page (spawns_at path argv from) ≡ holds_page (spawns_at path argv to) →
      StandsAtSpawn (view_of spaces (slot_at s n).directory) (record (slot_at s n) { extra = spawn_words to }) b path argv to →
      StandsFor names (with_extra (with_spaces s spaces) n (spawn_words to)) a

-- ---- which are its own

module _ {names : Names} {s : KernelState} {a : AbstractState} (h : StandsFor names s a) (n path argv : ℕ) (from : SpawnStep)
    (stands : place_of (slot_at s n) ≡ spawns_at path argv from) where
  abbrev home : ℕ
  home = (slot_at s n).directory

  abbrev row : EntryRow
  row = rows_of s.spaces home

  abbrev pub spawn_there : IsServed names s a n (service.Spawn path argv) (step.Spawning from)
  spawn_there = served h n (service.Spawn path argv) (step.Spawning from) stands

  counted_own : (p : ℕ) → is_childs from p ≡ false → logical s.spaces s.environments.slots n p ≡ row p
  unfolding counted
  counted_own p none =
      (λ i. logical_by (clients_live h n spawn_there.b spawn_there.is i) (counted (stands i) row) p) ∙ ap (λ (c : Bool). if c then None else row p) none

  own_so : (p : ℕ) → IsOwnWritable row p → is_programs p ≡ false → is_of_descriptor p ≡ false → is_childs from p ≡ false → IsSpawnsOwn s n p
  own_so p page outside no_descriptor mine =
      let counts = counted_own p mine in
      let raw = row_entry s.spaces home p page.entry page.stands in
      record {
        page = page;
        outside = outside;
        no_descriptor = no_descriptor;
        counts = counts;
        user = (h.users n p page.entry (counts ∙ page.stands)).page;
        whole = h.whole n p page.entry (counts ∙ page.stands);
        below = (h.in_order.frames.within home p raw.0 raw.1).1;
      }

  own_request : keeps_request_page from ≡ true → IsSpawnsOwn s n (page_number UTEMP)
  own_request keeps =
      own_so (page_number UTEMP) (spawn_there.own.library.working (ap (λ (q : Place). has_working q (slot_at s n).extra) stands ∙ keeps)) working_outside
      working_no_descriptor refl

  own_beside_it : (p : ℕ) → keeps_page_at from p ≡ true → is_childs from p ≡ false → IsSpawnsOwn s n p
  own_beside_it p keeps mine =
      let there : has_spawns (place_of (slot_at s n)) (slot_at s n).extra p ≡ true =
      ap (λ (q : Place). has_spawns q (slot_at s n).extra p) stands ∙ keeps in
      let aside = spawns_aside (place_of (slot_at s n)) (slot_at s n).extra p there in
      own_so p (spawn_there.own.library.spawns p there) aside.outside aside.no_descriptor mine

  pub spawns_own : (p : ℕ) → keeps_own from p ≡ true → IsSpawnsOwn s n p
  spawns_own p keeps = by_page (p == page_number UTEMP) refl (keeps_request_page from) refl keeps
    where
      not_so : (c : Bool) → not c ≡ true → c ≡ false
      not_so false is = refl
      not_so true is = absurd (false≢true is)

      beside : keeps_page_at from p && not (is_childs from p) ≡ true → IsSpawnsOwn s n p
      beside both =
          let parts = and_parts (keeps_page_at from p) (not (is_childs from p)) both in
          own_beside_it p parts.0 (not_so (is_childs from p) parts.1)

      by_page : (c : Bool) → (p == page_number UTEMP) ≡ c → (d : Bool) → keeps_request_page from ≡ d →
          (c && d) || (keeps_page_at from p && not (is_childs from p)) ≡ true → IsSpawnsOwn s n p
      by_page true here true keeps_it all =
          let same : page_number UTEMP ≡ p = grind (arith, nat_tests, here) in subst (λ (q : ℕ). IsSpawnsOwn s n q) same (own_request keeps_it)
      by_page true here false none all = beside all
      by_page false there d keeps_it all = beside all

  -- ---- what is loaded

  module _ (p : ℕ) (keeps : keeps_own from p ≡ true) (at : ℕ) (bytes : List ℕ) (it : PageHas (view_of s.spaces home) p at bytes) (i : ℕ) where
    owned : IsSpawnsOwn s n p
    owned = spawns_own p keeps

    entry_same : it.entry ≡ owned.page.entry
    entry_same = same_Some it.entry owned.page.entry (sym it.stands ∙ owned.page.stands)

    user_it : is_page_perm it.entry.perm ≡ true
    user_it = ap (λ (e : Entry). is_page_perm e.perm) entry_same ∙ owned.user

    -- a byte of the page
    pub own_byte_loaded : i < length bytes → at + i < PGSIZE → load_byte s n (p * PGSIZE + (at + i)) ≡ read_at s n (p * PGSIZE + (at + i)) (slice_index bytes i)
    own_byte_loaded lt fits =
        let number : p ≡ page_number (p * PGSIZE + (at + i)) = omega (arith, fits) in
        let offset : page_offset (p * PGSIZE + (at + i)) ≡ at + i = omega (arith, fits) in
        load_page_byte s n (p * PGSIZE + (at + i)) it.entry (ap row (sym number) ∙ it.stands) user_it h.in_order.frames
        ∙ ap (read_at s n (p * PGSIZE + (at + i))) (ap (slice_index (s.spaces.pages it.entry.frame)) offset ∙ it.same i lt)

    -- or a word
    pub own_word_loaded : i + 4 ≤ length bytes → at + i + 4 ≤ PGSIZE → (at + i) % 4 ≡ 0 →
        load s n (p * PGSIZE + (at + i)) ≡ read_at s n (p * PGSIZE + (at + i)) (word_at (slice_index bytes) i)
    own_word_loaded within fits aligned =
        let number : p ≡ page_number (p * PGSIZE + (at + i)) = omega (arith, fits) in
        let offset : page_offset (p * PGSIZE + (at + i)) ≡ at + i = omega (arith, fits) in
        load_page_word s n (p * PGSIZE + (at + i)) it.entry (omega (arith, aligned)) (ap row (sym number) ∙ it.stands) user_it h.in_order.frames
        ∙ ap (read_at s n (p * PGSIZE + (at + i))) (ap (word_at (slice_index (s.spaces.pages it.entry.frame))) offset ∙ word_same)
      where
        word_same : word_at (slice_index (s.spaces.pages it.entry.frame)) (at + i) ≡ word_at (slice_index bytes) i
        word_same =
            let one : at + i + 1 ≡ at + (i + 1) = omega arith in
            let two : at + i + 2 ≡ at + (i + 2) = omega arith in
            let three : at + i + 3 ≡ at + (i + 3) = omega arith in
            let first = it.same i (omega (arith, within)) in
            let second = ap (slice_index (s.spaces.pages it.entry.frame)) one ∙ it.same (i + 1) (omega (arith, within)) in
            let third = ap (slice_index (s.spaces.pages it.entry.frame)) two ∙ it.same (i + 2) (omega (arith, within)) in
            let fourth = ap (slice_index (s.spaces.pages it.entry.frame)) three ∙ it.same (i + 3) (omega (arith, within)) in
            λ j. from_le_bytes w32 (first j ∷ second j ∷ third j ∷ fourth j ∷ [])

  -- Behind a load it goes on to another of its steps, with the same pages.
  pub own_goes_on : (va : ℕ) → IsInOrder (loaded s n va) → spawning_child from ≡ None → (to : SpawnStep) → spawning_child to ≡ None →
      holds_page (spawns_at path argv from) ≡ holds_page (spawns_at path argv to) →
      StandsAtSpawn (view_of s.spaces home) (record (slot_at s n) { extra = spawn_words to }) spawn_there.b path argv to →
      StandsFor names (with_extra (loaded s n va) n (spawn_words to)) a
  own_goes_on va order unborne to unborne_after held so =
      read_goes_on h n (service.Spawn path argv) (step.Spawning from) spawn_there unborne refl va order (step.Spawning to) unborne_after refl held so

  -- ---- what is stored

  module _ (sp : SpacesState) (beside : StandsBeside names s a sp n) (to : SpawnStep)
      (held : holds_page (spawns_at path argv from) ≡ holds_page (spawns_at path argv to))
      (so : StandsAtSpawn (view_of sp home) (record (slot_at s n) { extra = spawn_words to }) spawn_there.b path argv to) where
    abbrev moved : Slot
    moved = record (slot_at s n) { extra = spawn_words to }

    abbrev was_at : Place
    was_at = place_of (slot_at s n)

    now_at : place_of moved ≡ spawns_at path argv to
    now_at =
        place_at (slot_at s n).registers SERVICE_SPAWN (step.Spawning to) spawn_there.outside
        ∙ ap (λ (x : Service). place.InService x (step.Spawning to)) (named_at (slot_at s n) (service.Spawn path argv) (step.Spawning from) stands)

    plain : is_in_handler was_at ≡ false
    plain = ap is_in_handler stands

    plain_after : is_in_handler (place_of moved) ≡ false
    plain_after = ap is_in_handler now_at

    calm : is_calm was_at ≡ true
    calm = ap is_calm stands

    calm_after : is_calm (place_of moved) ≡ true
    calm_after = ap is_calm now_at

    pub spawn_part : StandsForBorn names sp moved spawn_there.b
    spawn_part =
        let own_part = spawn_there.own in
        record {
          id = own_part.id;
          id_small = own_part.id_small;
          parent = own_part.parent;
          env_type = own_part.env_type;
          runs = own_part.runs;
          upcall = own_part.upcall ∙ plain_upcall was_at plain ∙ sym (plain_upcall (place_of moved) plain_after);
          descriptors = λ fd still.
              descriptors_turned names s.spaces home was_at (place_of moved) spawn_there.b.descriptors calm calm_after own_part.descriptors fd still
              ∙ sym (ap (seen_unless (is_made (place_of moved) fd)) (beside.descriptors fd));
          memory = λ q. own_part.memory q ∙ sym (beside.memory q);
          library = library_alike (place_of moved) (spawn_words to) row (rows_of sp home) (ap (λ (rows : Rows). rows home) beside.rows)
              (library_moved was_at (place_of moved) (slot_at s n).extra (spawn_words to) row
              (plain_copy was_at plain ∙ sym (plain_copy (place_of moved) plain_after))
              (plain_working was_at (slot_at s n).extra plain ∙ ap holds_page stands ∙ held ∙ sym (ap holds_page now_at)
              ∙ sym (plain_working (place_of moved) (spawn_words to) plain_after)) own_part.library);
          regions_have = λ r is. beside.regions home r ∙ own_part.regions_have r is;
          regions_only = λ r is. own_part.regions_only r (sym (beside.regions home r) ∙ is);
          stack = own_part.stack;
          flags = own_part.flags;
          at = subst (λ (q : Place). StandsAt q (view_of sp home) moved spawn_there.b) (sym now_at) so;
        }

    pub stored_goes_on : s.last ≡ Some n → spawning_child from ≡ None → spawning_child to ≡ None →
        StandsFor names (with_extra (with_spaces s sp) n (spawn_words to)) a
    stored_goes_on last unborne unborne_after =
        let none : borne_in was_at ≡ None = ap borne_in stands ∙ unborne in
        let none_after : borne_in (place_of moved) ≡ None = ap borne_in now_at ∙ unborne_after in
        unseen_moved h n spawn_there.b spawn_there.is beside moved spawn_part refl (record { id = refl; env_type = refl; turns = refl; calm = λ runs. runs })
        (plain_alike was_at (place_of moved) (unborne_plain was_at plain none (ap is_making_pipe stands))
        (unborne_plain (place_of moved) plain_after none_after (ap is_making_pipe now_at)))
        (calm_places calm calm_after) (others_counts h n last sp) none none_after

  module _ (p : ℕ) (keeps : keeps_own from p ≡ true) (at : ℕ) where
    mine : IsSpawnsOwn s n p
    mine = spawns_own p keeps

    abbrev frame : ℕ
    frame = mine.page.entry.frame

    stored_by : (bytes : List ℕ) → AreBytes bytes → at + length bytes ≤ PGSIZE → (call : CallStep (Unit {0})) →
        PutsBytes s n mine.page.entry at bytes call → IsStoredInto names s a n path argv from spawn_there.b p at bytes call
    stored_by bytes small fits call puts =
        let whole_now : IsPage (bytes_put (s.spaces.pages frame) at bytes) = put_whole (s.spaces.pages frame) at bytes small mine.whole in
        record {
          spaces = puts.spaces;
          step_is = puts.step_is;
          put = λ order. record {
            row = ap (λ (rows : Rows). rows home) puts.rewritten.rows;
            tables = λ r. puts.rewritten.regions home r;
            beside = λ q x other is.
                own_beside h n spawn_there.b spawn_there.is p mine.counts mine.outside mine.no_descriptor mine.page.entry mine.page.stands
                mine.page.own_page mine.page.writes (bytes_put (s.spaces.pages frame) at bytes) whole_now puts.rewritten order q x other is;
            page = mine.page;
            here = ap (λ (pages : ℕ → List ℕ). pages frame) puts.rewritten.pages
                ∙ upd-at s.spaces.pages frame (bytes_put (s.spaces.pages frame) at bytes);
            whole = mine.whole;
            fits = fits;
          };
          stands_beside = λ order.
              stands_beside h n spawn_there.b spawn_there.is p mine.counts mine.outside mine.no_descriptor mine.page.entry mine.page.stands
              mine.page.own_page mine.page.writes (bytes_put (s.spaces.pages frame) at bytes) whole_now puts.rewritten order;
          goes_on = λ order last unborne to unborne_after held so.
              stored_goes_on puts.spaces
              (stands_beside h n spawn_there.b spawn_there.is p mine.counts mine.outside mine.no_descriptor mine.page.entry mine.page.stands
              mine.page.own_page mine.page.writes (bytes_put (s.spaces.pages frame) at bytes) whole_now puts.rewritten order)
              to held so last unborne unborne_after;
        }

    -- a word
    pub own_word_stored : (word : ℕ) → at + 4 ≤ PGSIZE →
        IsStoredInto names s a n path argv from spawn_there.b p at (to_le_bytes w32 word) (store s n (p * PGSIZE + at) word)
    own_word_stored word fits =
        stored_by (to_le_bytes w32 word) (word_bytes word) fits (store s n (p * PGSIZE + at) word)
        (store_puts s n p mine.below mine.page.entry mine.page.stands mine.user mine.page.writes at (omega (arith, fits)) word fits)

    -- or a byte
    pub own_byte_stored : (byte : ℕ) → byte < 256 → at < PGSIZE →
        IsStoredInto names s a n path argv from spawn_there.b p at (byte ∷ []) (store_byte s n (p * PGSIZE + at) byte)
    own_byte_stored byte small there =
        stored_by (byte ∷ []) (bytes_more byte [] small bytes_none) (omega (arith, there)) (store_byte s n (p * PGSIZE + at) byte)
        (store_byte_puts s n p mine.below mine.page.entry mine.page.stands mine.user mine.page.writes at there byte)
