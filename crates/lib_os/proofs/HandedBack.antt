-- Bytes that the file server puts into the page of a request while its client waits for the reply are seen by nobody: nothing is known of that page,
-- which the client has at UTEMP, whatever it has asked for; and no other client has its frame.
use Rattle.std.proofs.Common.{◌≡◌, ◌∙◌, ◌⊎◌, inl, inr, ◌+◌, ◌*◌, ◌<◌, ◌≤◌, ◌==◌, ℕ, Bool, true, false, List, [], ◌∷◌, length}
use Rattle.std.proofs.Common.{Option, Some, None, Result, Ok, Err, refl, sym, ap, subst, arith}
use Rattle.std.specs.Prelude.{bit_and}
use Rattle.std.specs.Int.{w32, to_le_bytes}
use Rattle.std.proofs.lemmas.Bool.{false≢true}
use Rattle.std.proofs.lemmas.Nat.{and_assoc}
use Rattle.std.proofs.lemmas.Option.{none-some, same_Some}
use Rattle.jos_base.specs.declared.memory.Access.TheVariants.{Write}
use Rattle.jos_base.specs.declared.memory.PageFault.{PageFault}
use Rattle.jos_base.specs.declared.numbers.TheConstants.{FEC_PR, FEC_U, PGSIZE, PTE_SYSCALL, UTEMP}
use Rattle.jos_base.specs.Counting.{page_limit}
use Rattle.jos_base.specs.Environments.{Slot}
use Rattle.jos_base.specs.KernelState.{KernelState, slot_at, with_spaces}
use Rattle.jos_base.specs.Reach.{Entry, FrameOffset, allows, reach_entry, write_bit}
use Rattle.jos_base.specs.SpacesState.{SpacesState}
use Rattle.jos_base.specs.SystemCalls.{handled}
use Rattle.jos_base.specs.UserMemory.{reach_in, touched}
use Rattle.jos_base.specs.Words.{page_number, page_offset, upd}
use Rattle.jos_base.proofs.Walks.{walked_below}
use Rattle.lib_os.specs.declared.numbers.TheConstants.{REQUEST, SPAWN_GIVEN, SPAWN_STACK}
use Rattle.lib_os.specs.declared.place.Place.{Place}
use Rattle.lib_os.specs.declared.place.Place.TheVariants as place
use Rattle.lib_os.specs.declared.place.Step.{Step}
use Rattle.lib_os.specs.declared.place.Step.TheVariants as step
use Rattle.lib_os.specs.declared.service.Service.{Service}
use Rattle.lib_os.specs.declared.service.Service.TheVariants as service
use Rattle.lib_os.specs.declared.spawn_steps.SpawnStep.{SpawnStep}
use Rattle.lib_os.specs.AbstractState.{AbstractState, Born, born}
use Rattle.lib_os.specs.AskedFor.{IsThere}
use Rattle.lib_os.specs.InOrder.{IsInOrder}
use Rattle.lib_os.specs.LibraryPages.{IsOwnWritable, View, has_working}
use Rattle.lib_os.specs.Places.{place_of}
use Rattle.lib_os.specs.Rows.{EntryRow, IsPage, Names, Rows, logical, rows_of}
use Rattle.lib_os.specs.InService.{IsLowestFree}
use Rattle.lib_os.specs.StandsAtSpawn.{StandsAtSpawn, awaits_bytes as spawn_awaits_bytes, awaits_file as spawn_awaits_file}
use Rattle.lib_os.specs.StandsFor.{IsAwaitingFile, IsCounting, StandsAt, StandsFor, StandsForBorn}
use Rattle.lib_os.specs.StandsFor.{awaits, awaits_bytes, awaits_file, view_of}
use Rattle.lib_os.specs.UserCalls.{CallStep, IsStep, Output, accessing, by_access, faulting, giving, gone, got, store, store_byte, to_handler}
use Rattle.lib_os.specs.UserCalls.{with_bytes_put}
use Rattle.lib_os.proofs.AskedPlaces.{AskedPlace, AwaitingPlace, SpawnPlace, asked_place, asked_step, awaiting_place, awaiting_step, is_requests}
use Rattle.lib_os.proofs.BytesKept.{PutsBytes, own_beside, rewritten_devices, unseen_rewritten}
use Rattle.lib_os.proofs.BytesPut.{bytes_put, page_put, put_is, put_whole, spaces_put}
use Rattle.lib_os.proofs.CopiesStored.{IsRewritten}
use Rattle.lib_os.proofs.Effects.{Quiet}
use Rattle.lib_os.proofs.EntryWords.{row_entry}
use Rattle.lib_os.proofs.Logical.{is_plain, is_remapped, logical_beside, logical_plain}
use Rattle.lib_os.proofs.PageBytes.{bytes_more, bytes_none}
use Rattle.lib_os.proofs.PageTaken.{working_no_descriptor, working_outside, working_page}
use Rattle.lib_os.proofs.SlotsStand.{born_at, told_kept}
use Rattle.lib_os.proofs.SpawnStays.{SameAt, SameTold, asked_file_kept, asked_part_kept, for_kept, free_or_none_kept, stack_kept}
use Rattle.lib_os.proofs.SpawnWaits.{SpawnAwaits, SpawnHasAsked, asks_file, asks_part, expects_file, expects_part}
use Rattle.lib_os.proofs.StatesStand.{clients_live, rows_counts}
use Rattle.lib_os.proofs.Touching.{touched_quiet}

-- ---- what is put where a store has not faulted

-- The bits that accesses set give no right.
lasting_allows : (perm : ℕ) → allows (bit_and perm PTE_SYSCALL) Write ≡ allows perm Write
lasting_allows perm = ap (λ (bits : ℕ). bits == 7) (and_assoc 7 perm PTE_SYSCALL)

-- the entry of a page, and the right by it
raw_of : (s : SpacesState) (d p : ℕ) (row : Entry) → rows_of s d p ≡ Some row →
    (e : Entry) × (s.entries d p ≡ Some e) × (e.frame ≡ row.frame) × (allows e.perm Write ≡ allows row.perm Write)
raw_of s d p row is =
    let raw = row_entry s d p row is in (
      raw.0,
      raw.1,
      ap (λ (e : Entry). e.frame) raw.2,
      sym (lasting_allows raw.0.perm) ∙ ap (λ (e : Entry). allows e.perm Write) raw.2,
    )

module _ (s : KernelState) (n p : ℕ) (below : p < page_limit) (row : Entry) (row_is : rows_of s.spaces (slot_at s n).directory p ≡ Some row)
    (at : ℕ) (there : at < PGSIZE) (bytes : List ℕ) (fits : at + length bytes ≤ PGSIZE) where
  abbrev dir : ℕ
  dir = (slot_at s n).directory

  abbrev target : ℕ
  target = p * PGSIZE + at

  -- the spaces in which the access has set its bits
  abbrev reached : SpacesState
  reached = touched s.spaces dir target Write

  abbrev put : SpacesState
  put = spaces_put reached dir target bytes

  abbrev asks : CallStep (Unit {0})
  asks = by_access {X = Unit {0}} s n target Write (λ after. giving (with_bytes_put after n target bytes) tt)

  abbrev comes_by : Result FrameOffset PageFault → CallStep (Unit {0})
  comes_by = accessing s n target Write (λ (k : KernelState). giving (with_bytes_put k n target bytes) tt)

  number : page_number target ≡ p
  number = omega (arith, there)

  reach_is : (o : Option Entry) → s.spaces.entries dir p ≡ o → reach_in s.spaces dir target Write ≡ reach_entry o target Write
  reach_is o is =
      ap (λ (e : Option Entry). reach_entry e target Write)
      (walked_below s.spaces dir (page_number target) (subst (λ (q : ℕ). q < page_limit) (sym number) below) ∙ ap (s.spaces.entries dir) number ∙ is)

  -- one that may not be made faults
  faults : (e : Entry) → s.spaces.entries dir p ≡ Some e → allows e.perm Write ≡ false → asks.gives ≡ got tt → ⊥
  faults e is off gives = by_handled (handled s n fault) (subst (λ (r : Result FrameOffset PageFault). (comes_by r).gives ≡ got tt) refused gives)
    where
      fault : PageFault
      fault = record { va = target; error = FEC_U + FEC_PR + write_bit Write }

      refused : reach_in s.spaces dir target Write ≡ Err fault
      refused = reach_is (Some e) is ∙ rw off refl

      by_handled : (o : Option KernelState) → (faulting {X = Unit {0}} s n fault o).gives ≡ got tt → ⊥
      by_handled (Some handler) came = let contradiction : to_handler ≡ got tt = came in cc
      by_handled None came = let contradiction : gone ≡ got tt = came in cc

  -- and else the page has the bytes
  puts : asks.gives ≡ got tt → PutsBytes s n row at bytes asks
  unfolding rows_of
  puts gives = by_right (allows raw.0.perm Write) refl
    where
      raw : (e : Entry) × (s.spaces.entries dir p ≡ Some e) × (e.frame ≡ row.frame) × (allows e.perm Write ≡ allows row.perm Write)
      raw = raw_of s.spaces dir p row row_is

      quiet : Quiet s.spaces reached
      quiet = touched_quiet s.spaces dir target Write

      later : (e : Entry) × (reached.entries dir p ≡ Some e) × (e.frame ≡ row.frame) × (allows e.perm Write ≡ allows row.perm Write)
      later = raw_of reached dir p row (ap (λ (rows : Rows). rows dir p) quiet.rows ∙ row_is)

      rewritten : allows raw.0.perm Write ≡ true → IsRewritten s.spaces put row.frame (bytes_put (s.spaces.pages row.frame) at bytes)
      rewritten may =
          subst (λ (z : SpacesState). IsRewritten s.spaces z row.frame (bytes_put (s.spaces.pages row.frame) at bytes))
          (sym (page_put dir p later.0 below (later.3 ∙ sym raw.3 ∙ may) reached at bytes later.1 fits))
          (record {
            rows = quiet.rows;
            pages = λ i. upd (quiet.pages i) (later.2 i) (bytes_put (quiet.pages i (later.2 i)) at bytes);
            regions = quiet.regions;
          })

      reaches : allows raw.0.perm Write ≡ true → reach_in s.spaces dir target Write ≡ Ok (record { frame = raw.0.frame; offset = page_offset target })
      reaches may = reach_is (Some raw.0) raw.1 ∙ rw may refl

      by_right : (t : Bool) → allows raw.0.perm Write ≡ t → PutsBytes s n row at bytes asks
      by_right false off = absurd (faults raw.0 raw.1 off gives)
      by_right true may = record {
        spaces = put;
        rewritten = rewritten may;
        step_is = ap comes_by (reaches may) ∙ ap (λ (k : KernelState). giving k tt) (put_is (with_spaces s reached) n target bytes);
      }

module _ (s : KernelState) (n p : ℕ) (below : p < page_limit) (row : Entry) (row_is : rows_of s.spaces (slot_at s n).directory p ≡ Some row)
    (at : ℕ) (there : at < PGSIZE) where
  -- of a word
  pub word_comes : (word : ℕ) → at + 4 ≤ PGSIZE → (store s n (p * PGSIZE + at) word).gives ≡ got tt →
      PutsBytes s n row at (to_le_bytes w32 word) (store s n (p * PGSIZE + at) word)
  unfolding store
  word_comes word fits gives = puts s n p below row row_is at there (to_le_bytes w32 word) fits gives

  -- and of a byte
  pub byte_comes : (byte : ℕ) → (store_byte s n (p * PGSIZE + at) byte).gives ≡ got tt →
      PutsBytes s n row at (byte ∷ []) (store_byte s n (p * PGSIZE + at) byte)
  unfolding store_byte
  byte_comes byte gives = puts s n p below row row_is at there (byte ∷ []) (omega (arith, there)) gives

-- ---- nothing is known of the page

-- no child is made while it asks
requests_plain : (call : Service) → is_requests call ≡ true → (at : Step) → is_plain (place.InService call at) ≡ true
requests_plain service.Sync is at = refl
requests_plain (service.Remove path) is at = refl
requests_plain (service.OpenFile path mode) is at = refl
requests_plain (service.Seek fd offset) is at = refl
requests_plain (service.SetSize fd size) is at = refl
requests_plain (service.Write fd from len) is at = refl
requests_plain (service.Read fd to len) is at = refl
requests_plain (service.Stat fd to) is at = refl
requests_plain _ is at = absurd (false≢true is)

request_below : page_number REQUEST < page_limit
unfolding page_limit
request_below = omega arith

module _ {names : Names} {s : KernelState} {a : AbstractState} (h : StandsFor names s a) (client : ℕ) (b : Born) (at : a.slots client ≡ born b)
    (call : Service) (has_asked : IsThere b call) where
  abbrev k : Slot
  k = slot_at s client

  abbrev v : View
  v = view_of s.spaces k.directory

  mine : StandsForBorn names s.spaces k b
  mine = born_at h client b at

  -- its page counts as it stands
  counted : logical s.spaces s.environments.slots client working_page ≡ rows_of s.spaces k.directory working_page
  counted = by_phase has_asked
    where
      plainly : is_plain (place_of k) ≡ true → logical s.spaces s.environments.slots client working_page ≡ rows_of s.spaces k.directory working_page
      plainly plain = logical_plain s.spaces s.environments.slots client (clients_live h client b at) plain working_page

      in_spawn : (path argv : ℕ) (at_step : SpawnStep) → place_of k ≡ place.InService (service.Spawn path argv) (step.Spawning at_step) →
          logical s.spaces s.environments.slots client working_page ≡ rows_of s.spaces k.directory working_page
      in_spawn path argv at_step is =
          logical_beside s.spaces s.environments.slots client (clients_live h client b at) working_page (λ same. omega (arith, same))
          (ap (λ (q : Place). is_remapped q working_page) is)

      by_asked : AskedPlace (place_of k) k b call ⊎ SpawnPlace (place_of k) call (SpawnHasAsked v k b) →
          logical s.spaces s.environments.slots client working_page ≡ rows_of s.spaces k.directory working_page
      by_asked (inl it) = plainly (ap is_plain it.at ∙ requests_plain call it.asks_it (asked_step call it.id it.fd))
      by_asked (inr it) = in_spawn it.path it.argv it.step_is it.at

      by_awaited : AwaitingPlace (place_of k) v k b call ⊎ SpawnPlace (place_of k) call (SpawnAwaits v k b) →
          logical s.spaces s.environments.slots client working_page ≡ rows_of s.spaces k.directory working_page
      by_awaited (inl it) = plainly (ap is_plain it.at ∙ requests_plain call it.asks_it (awaiting_step call it.id it.fd))
      by_awaited (inr it) = in_spawn it.path it.argv it.step_is it.at

      by_phase : IsThere b call → logical s.spaces s.environments.slots client working_page ≡ rows_of s.spaces k.directory working_page
      by_phase (inl phase) = by_asked (asked_place (place_of k) v k b call mine.at phase)
      by_phase (inr phase) = by_awaited (awaiting_place (place_of k) v k b call mine.at phase)

  -- so that it stands as well where the page has other bytes
  still_at : (w : View) → w.row ≡ v.row → SameTold v w → SameAt v w (page_number SPAWN_GIVEN) → SameAt v w (page_number SPAWN_STACK) →
      StandsAt (place_of k) w k b
  still_at w rows told given_own stack_own = by_phase has_asked
    where
      spawn_asks_still : {path argv : ℕ} {at_step : SpawnStep} → SpawnHasAsked v k b path argv at_step → StandsAtSpawn w k b path argv at_step
      spawn_asks_still {path = path} {argv = argv} (asks_file esp fd id self so) =
          (self, asked_file_kept v w rows told given_own stack_own k b k.status k.runs b.memory b.regions b.descriptors path argv esp fd so)
      spawn_asks_still {path = path} {argv = argv} (asks_part wanted id self so) =
          (self, asked_part_kept v w rows told given_own stack_own k b k.status k.runs b.memory b.regions b.descriptors path argv wanted so)

      spawn_waits_still : {path argv : ℕ} {at_step : SpawnStep} → SpawnAwaits v k b path argv at_step → StandsAtSpawn w k b path argv at_step
      spawn_waits_still (expects_file esp fd id self so) = (
        self,
        record {
          words = so.words;
          stack = stack_kept v w rows stack_own so.words esp so.stack;
          so = spawn_awaits_file so.awaiting_it so.is (free_or_none_kept v w rows fd so.free);
        },
      )
      spawn_waits_still {path = path} {argv = argv} (expects_part wanted id self so) = (
        self,
        record {
          count = so.count;
          so = for_kept v w rows told given_own stack_own k b k.status k.runs b.memory b.regions b.descriptors path argv wanted so.count so.so;
          awaits = spawn_awaits_bytes so.awaiting_it;
        },
      )

      asks_still : (call : Service) → is_requests call ≡ true → AskedPlace (place_of k) k b call → StandsAt (place_of k) w k b
      asks_still (service.OpenFile path mode) is it =
          let has = subst (λ (p : Place). StandsAt p v k b) it.at mine.at in
          subst (λ (p : Place). StandsAt p w k b) (sym it.at) (has.0, subst (λ (row : EntryRow). IsLowestFree row it.fd) (sym rows) has.1, has.2)
      asks_still service.Sync is it =
          subst (λ (p : Place). StandsAt p w k b) (sym it.at) (subst (λ (p : Place). StandsAt p v k b) it.at mine.at)
      asks_still (service.Remove path) is it =
          subst (λ (p : Place). StandsAt p w k b) (sym it.at) (subst (λ (p : Place). StandsAt p v k b) it.at mine.at)
      asks_still (service.Seek fd offset) is it =
          subst (λ (p : Place). StandsAt p w k b) (sym it.at) (subst (λ (p : Place). StandsAt p v k b) it.at mine.at)
      asks_still (service.SetSize fd size) is it =
          subst (λ (p : Place). StandsAt p w k b) (sym it.at) (subst (λ (p : Place). StandsAt p v k b) it.at mine.at)
      asks_still (service.Write fd from len) is it =
          subst (λ (p : Place). StandsAt p w k b) (sym it.at) (subst (λ (p : Place). StandsAt p v k b) it.at mine.at)
      asks_still (service.Read fd to len) is it =
          subst (λ (p : Place). StandsAt p w k b) (sym it.at) (subst (λ (p : Place). StandsAt p v k b) it.at mine.at)
      asks_still (service.Stat fd to) is it =
          subst (λ (p : Place). StandsAt p w k b) (sym it.at) (subst (λ (p : Place). StandsAt p v k b) it.at mine.at)
      asks_still _ is it = absurd (false≢true is)

      waits_still : (call : Service) → is_requests call ≡ true → AwaitingPlace (place_of k) v k b call → StandsAt (place_of k) w k b
      waits_still (service.OpenFile path mode) is it =
          let waits : IsAwaitingFile v k b (service.OpenFile path mode) it.fd = it.expects_it in
          subst (λ (p : Place). StandsAt p w k b) (sym it.at) (
            it.self,
            awaits_file (record {
              program = waits.program;
              phase = waits.phase;
              blocked = waits.blocked;
              rendezvous = waits.rendezvous;
              wanted = waits.wanted;
              destination = waits.destination;
              lowest = subst (λ (row : EntryRow). IsLowestFree row it.fd) (sym rows) waits.lowest;
            }),
          )
      waits_still (service.Read fd to len) is it =
          let counts : IsCounting v k b (service.Read fd to len) it.id = subst (λ (p : Place). StandsAt p v k b) it.at mine.at in
          subst (λ (p : Place). StandsAt p w k b) (sym it.at)
          (record { self = it.self; hands = refl; inside = counts.inside; so = awaits_bytes it.expects_it })
      waits_still (service.Stat fd to) is it =
          let counts : IsCounting v k b (service.Stat fd to) it.id = subst (λ (p : Place). StandsAt p v k b) it.at mine.at in
          subst (λ (p : Place). StandsAt p w k b) (sym it.at)
          (record { self = it.self; hands = refl; inside = counts.inside; so = awaits_bytes it.expects_it })
      waits_still service.Sync is it = subst (λ (p : Place). StandsAt p w k b) (sym it.at) (it.self, awaits it.expects_it)
      waits_still (service.Remove path) is it = subst (λ (p : Place). StandsAt p w k b) (sym it.at) (it.self, awaits it.expects_it)
      waits_still (service.Seek fd offset) is it = subst (λ (p : Place). StandsAt p w k b) (sym it.at) (it.self, awaits it.expects_it)
      waits_still (service.SetSize fd size) is it = subst (λ (p : Place). StandsAt p w k b) (sym it.at) (it.self, awaits it.expects_it)
      waits_still (service.Write fd from len) is it = subst (λ (p : Place). StandsAt p w k b) (sym it.at) (it.self, awaits it.expects_it)
      waits_still _ is it = absurd (false≢true is)

      by_phase : IsThere b call → StandsAt (place_of k) w k b
      by_phase (inl phase) = by_asked (asked_place (place_of k) v k b call mine.at phase)
        where
          by_asked : AskedPlace (place_of k) k b call ⊎ SpawnPlace (place_of k) call (SpawnHasAsked v k b) → StandsAt (place_of k) w k b
          by_asked (inl it) = asks_still call it.asks_it it
          by_asked (inr it) = subst (λ (p : Place). StandsAt p w k b) (sym it.at) (spawn_asks_still it.does)
      by_phase (inr phase) = by_awaited (awaiting_place (place_of k) v k b call mine.at phase)
        where
          by_awaited : AwaitingPlace (place_of k) v k b call ⊎ SpawnPlace (place_of k) call (SpawnAwaits v k b) → StandsAt (place_of k) w k b
          by_awaited (inl it) = waits_still call it.asks_it it
          by_awaited (inr it) = subst (λ (p : Place). StandsAt p w k b) (sym it.at) (spawn_waits_still it.does)

  module _ (own entry : Entry) (kept : rows_of s.spaces k.directory (page_number UTEMP) ≡ Some own)
      (lent : rows_of s.spaces (slot_at s 0).directory (page_number REQUEST) ≡ Some entry) (same : own.frame ≡ entry.frame) where
    -- the page may be written by its own
    page : IsOwnWritable (rows_of s.spaces k.directory) working_page
    page = by_test (has_working (place_of k) k.extra) refl
      where
        by_test : (t : Bool) → has_working (place_of k) k.extra ≡ t → IsOwnWritable (rows_of s.spaces k.directory) working_page
        by_test true is = mine.library.working is
        by_test false is = absurd (none-some own (sym (mine.library.no_working is) ∙ kept))

    its_frame : entry.frame ≡ page.entry.frame
    its_frame = sym same ∙ ap (λ (x : Entry). x.frame) (same_Some own page.entry (sym kept ∙ page.stands))

    page_whole : IsPage (s.spaces.pages entry.frame)
    page_whole =
        subst (λ (f : ℕ). IsPage (s.spaces.pages f)) (sym its_frame)
        (h.whole client working_page page.entry
        (counted ∙ page.stands))

    -- It has other bytes.
    rewritten_stands : (sp : SpacesState) (bytes : List ℕ) → IsPage bytes → IsRewritten s.spaces sp entry.frame bytes → IsInOrder (with_spaces s sp) →
        StandsFor names (with_spaces s sp) a
    rewritten_stands sp bytes whole rewritten in_order =
        let of_page = subst (λ (f : ℕ). IsRewritten s.spaces sp f bytes) its_frame rewritten in
        let rows : rows_of sp k.directory ≡ rows_of s.spaces k.directory = ap (λ (all : Rows). all k.directory) rewritten.rows in
        unseen_rewritten h client b at working_page counted working_outside working_no_descriptor page.entry page.stands page.own_page page.writes bytes
        whole of_page in_order (λ m ne. rows_counts h.in_order.frames in_order.frames rewritten.rows (slot_at s m))
        (still_at (view_of sp k.directory) rows
        (told_kept v (view_of sp k.directory) rows
        (rewritten_devices h client b at working_page counted working_outside working_no_descriptor page.entry page.stands page.own_page page.writes bytes
        whole of_page in_order))
        (λ x stands own_too. own_beside h client b at working_page counted working_outside working_no_descriptor page.entry page.stands page.own_page
        page.writes bytes whole of_page in_order (page_number SPAWN_GIVEN) x (λ same. omega (arith, same)) stands)
        (λ x stands own_too. own_beside h client b at working_page counted working_outside working_no_descriptor page.entry page.stands page.own_page
        page.writes bytes whole of_page in_order (page_number SPAWN_STACK) x (λ same. omega (arith, same)) stands))

    put_stands : (o byte : ℕ) → o < PGSIZE → byte < 256 → (mid : KernelState) (output : Output) →
        IsStep (store_byte s 0 (page_number REQUEST * PGSIZE + o) byte) (Ok tt) mid output → IsInOrder mid → StandsFor names mid a
    put_stands o byte there small mid output came in_order =
        let put = byte_comes s 0 (page_number REQUEST) request_below entry lent o there byte came.0 in
        let mid_is : mid ≡ with_spaces s put.spaces = came.1 ∙ ap (λ (done : CallStep (Unit {0})). done.state) put.step_is in
        subst (λ (z : KernelState). StandsFor names z a) (sym mid_is)
        (rewritten_stands put.spaces (bytes_put (s.spaces.pages entry.frame) o (byte ∷ []))
        (put_whole (s.spaces.pages entry.frame) o (byte ∷ []) (bytes_more byte [] small bytes_none) page_whole) put.rewritten
        (subst IsInOrder mid_is in_order))

    pub handed_back_stands : (va byte : ℕ) → byte < 256 → page_number va ≡ page_number REQUEST → (mid : KernelState) (output : Output) →
        IsStep (store_byte s 0 va byte) (Ok tt) mid output → IsInOrder mid → StandsFor names mid a
    handed_back_stands va byte small in_page mid output came in_order =
        let o : ℕ = page_offset va in
        let there : o < PGSIZE = omega arith in
        let address : va ≡ page_number REQUEST * PGSIZE + o = omega (arith, in_page) in
        put_stands o byte there small mid output
        (subst (λ (x : ℕ). IsStep (store_byte s 0 x byte) (Ok tt) mid output) address came) in_order
