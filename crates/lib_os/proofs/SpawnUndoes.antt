-- Spawn undoes what it has done: it destroys the child that is not finished, and drops the descriptor of its file. Each is its step in the abstract system, and
-- the state behind the call stands for the one behind that.
use Rattle.std.proofs.Common.{◌≡◌, ◌≢◌, ◌∙◌, ◌⊎◌, inl, inr, ◌<◌, ◌==◌, ◌&&◌, ◌||◌, ◌%◌, ℕ, Bool, true, false, List, [], ◌∷◌, length, refl, sym, ap, subst, arith}
use Rattle.std.specs.Prelude.{nat_lt, is_none, slice_index, Option, Some, None}
use Rattle.std.proofs.lemmas.Bool.Decides.{nat_tests}
use Rattle.jos_base.specs.declared.called.Called.TheVariants.{Answered}
use Rattle.jos_base.specs.declared.numbers.TheConstants.{NENV, SYS_ENV_DESTROY}
use Rattle.jos_base.specs.Environments.{Slot, is_live}
use Rattle.jos_base.specs.KernelState.{KernelState, slot_at, with_extra, with_slot_at, with_spaces}
use Rattle.jos_base.specs.SpacesState.{destroyed}
use Rattle.jos_base.specs.SystemCalls.{without_environment}
use Rattle.jos_base.specs.Words.{page_number}
use Rattle.jos_base.proofs.Maps.{upd-other}
use Rattle.jos_base.proofs.Uses.{directory_is}
use Rattle.jos_elf.specs.declared.numbers.TheConstants.{EHDR_LEN}
use Rattle.jos_elf.specs.Headers.{entry_count_of}
use Rattle.jos_elf.specs.Tests.{first_failed, header_tests, table_tests}
use Rattle.lib_os.specs.declared.numbers.TheConstants.{DESCRIPTORS, SERVICE_SPAWN, SPAWN_HERE, SPAWN_STACK}
use Rattle.lib_os.specs.declared.place.Place.{Place}
use Rattle.lib_os.specs.declared.place.Place.TheVariants as place
use Rattle.lib_os.specs.declared.place.Step.TheVariants as step
use Rattle.lib_os.specs.declared.progress.Progress.TheVariants as progress
use Rattle.lib_os.specs.declared.service.Service.{Service}
use Rattle.lib_os.specs.declared.service.Service.TheVariants as service
use Rattle.lib_os.specs.declared.spawn_steps.SpawnStep.{SpawnStep}
use Rattle.lib_os.specs.declared.spawn_steps.SpawnStep.TheVariants as spawn
use Rattle.lib_os.specs.declared.spawn_steps.UndoingStep.TheVariants as undoing
use Rattle.lib_os.specs.AbstractRun.{abs_step}
use Rattle.lib_os.specs.AbstractSpawn.{headers_in, spawn_step, table_size}
use Rattle.lib_os.specs.AbstractState.{AbstractState, Born, OpenFile, Spawning, Stage, dropping, free, in_service, refusing, replied, slot_id}
use Rattle.lib_os.specs.AbstractState.{taking, with_born, with_slot}
use Rattle.lib_os.specs.FileServer.{is_count}
use Rattle.lib_os.specs.InOrder.{IsInOrder}
use Rattle.lib_os.specs.LibraryPages.{View}
use Rattle.lib_os.specs.LibraryCall.{library_step}
use Rattle.lib_os.specs.LibrarySteps.{GoesOn, KeepsStanding}
use Rattle.lib_os.specs.Places.{place_of}
use Rattle.lib_os.specs.Rows.{Names, rows_of}
use Rattle.lib_os.specs.StandsAtSpawn.{Found, IsCutShort, IsIn, IsNoPiece, IsOfFile, IsOfFileWith, IsToDrop, Refuses, StandsAtSpawn, by_drop, header_unread}
use Rattle.lib_os.specs.StandsAtSpawn.{is_error, is_short, no_child, no_header, no_table, table_unread, too_short}
use Rattle.lib_os.specs.StandsFor.{StandsAt, StandsFor, StandsForBorn, borne_in, view_of}
use Rattle.lib_os.specs.UserCalls.{giving, system}
use Rattle.lib_os.proofs.BearsOn.{borne_apart, borne_is, borne_lives}
use Rattle.lib_os.proofs.BorneCalls.{borne_destroyed_is}
use Rattle.lib_os.proofs.DescriptorsStand.{drop_removes, dropped}
use Rattle.lib_os.proofs.Effects.{Gone}
use Rattle.lib_os.proofs.Numbered.{named_at}
use Rattle.lib_os.proofs.PipesStand.{descriptors_turned, is_calm}
use Rattle.lib_os.proofs.Removing.{destroyed_gone}
use Rattle.lib_os.proofs.Serving.{IsServed, holds_page, library_moved, plain_copy, plain_upcall, plain_working, printed_nothing, service_step}
use Rattle.lib_os.proofs.SlotsStand.{born_at, born_stands, counts_unpiped, is_piped}
use Rattle.lib_os.proofs.SpawnDestroys.{bearer_seen, destroyed_stands}
use Rattle.lib_os.proofs.SpawnDrops.{drops_file, file_gone, no_pipe_there, spawns_file, spawns_object}
use Rattle.lib_os.proofs.SpawnGathers.{spawn_found}
use Rattle.lib_os.proofs.SpawnOwnPages.{spawn_there, spawn_words, spawns_at}
use Rattle.lib_os.proofs.SpawnedGoes.{childs_alike}
use Rattle.lib_os.proofs.StatesStand.{CountsAlike, slot_in_order}
use Rattle.lib_os.proofs.WordsTell.{is_in_handler, place_at}

-- ---- what it is in, behind the step

module _ {k : Slot} {b : Born} {path argv : ℕ} {stage : Stage} (words : List ℕ) (found : Spawning) where
  -- it has found out something else, and its descriptors may be others
  pub found_after : (c : Born) → c.program ≡ b.program → c.phase ≡ in_service (service.Spawn path argv) (taking []) → c.blocked ≡ b.blocked →
      c.spawning ≡ Some found → IsIn k b path argv stage → Found (record k { extra = words }) c path argv (taking []) found
  found_after c program phase blocked is h = record {
    is_in = record {
      regs = h.regs;
      program = program ∙ h.program;
      eax = h.eax;
      registers = h.registers;
      phase = phase;
      silent = h.silent;
      awake = blocked ∙ h.awake;
    };
    is = is;
  }

-- ---- the child is destroyed

module _ (s : KernelState) (n path argv fd child error : ℕ)
    (stands : place_of (slot_at s n) ≡ spawns_at path argv (spawn.Undoing (undoing.DestroyingChild fd child error))) where
  abbrev from : SpawnStep
  from = spawn.Undoing (undoing.DestroyingChild fd child error)

  abbrev to : SpawnStep
  to = spawn.Undoing (undoing.ClosingFile fd error)

  abbrev m : ℕ
  m = child % NENV

  abbrev home : ℕ
  home = (slot_at s n).directory

  abbrev moved : Slot
  moved = record (slot_at s n) { extra = spawn_words to }

  module _ {names : Names} {a : AbstractState} (h : StandsFor names s a) where
    abbrev it : IsServed names s a n (service.Spawn path argv) (step.Spawning from)
    it = spawn_there h n path argv from stands

    abbrev b : Born
    b = it.b

    has : IsCutShort (view_of s.spaces home) (slot_at s n) b path argv fd child error
    has = it.at

    borne : borne_in (place_of (slot_at s n)) ≡ Some child
    borne = ap borne_in stands

    pub destroying_is : system s n SYS_ENV_DESTROY (child ∷ 0 ∷ 0 ∷ 0 ∷ 0 ∷ []) ≡ giving (without_environment s (child % NENV)) (Answered 0)
    destroying_is = borne_destroyed_is h n child b it.is borne (0 ∷ 0 ∷ 0 ∷ 0 ∷ [])

    -- the descriptor is one
    pub destroying_below : fd < DESCRIPTORS
    destroying_below = has.of_file.below

    -- ---- the step of the abstract system

    abbrev later : Born
    later = spawn_found b path argv (dropping fd error) (taking [])

    abbrev without : ℕ → ℕ → AbstractState
    without own_id answer =
        with_born (record (with_slot a m (free own_id)) { free_slots = m ∷ a.free_slots }) n (spawn_found b path argv (dropping fd answer) (taking []))

    its_id : slot_id (a.slots m) ≡ child
    its_id = ap slot_id (borne_is h n child b it.is borne)

    asked_is : abs_step a n ≡ library_step a n b has.found.is_in.regs (service.Spawn path argv) (replied has.bytes has.answer)
    asked_is = service_step a n b has.found.is_in.regs (service.Spawn path argv) (replied has.bytes has.answer) it.is has.found.is_in.program
        has.found.is_in.phase has.found.is_in.awake

    by_reply : IsNoPiece has.image has.pieces has.bytes has.answer error → abs_step a n ≡ Some (without (slot_id (a.slots m)) error)
    unfolding library_step spawn_step
    by_reply (is_error none same) =
        asked_is ∙ rw (has.found.is, none) refl ∙ ap (λ (w : ℕ). Some (without (slot_id (a.slots m)) w)) (sym same)
    by_reply (is_short piece rest next counts short same) =
        let object = spawns_object h n path argv from stands fd has.of_file in
        let fewer : (length has.bytes == piece.len) ≡ false = grind (arith, nat_tests, short) in
        asked_is ∙ rw (has.found.is, counts, object, next, fewer) refl ∙ ap (λ (w : ℕ). Some (without (slot_id (a.slots m)) w)) (sym same)

    destroying_step : abs_step a n ≡ Some (without child error)
    destroying_step = by_reply has.so ∙ ap (λ (w : ℕ). Some (without w error)) its_id

    -- ---- the state behind it

    gone : Gone s.spaces (destroyed s.spaces (slot_at s m).directory) (slot_at s m).directory
    gone =
        destroyed_gone s.spaces (slot_at s m).directory h.in_order.frames
        (directory_is (s.spaces.uses (slot_at s m).directory) (h.in_order.spaces.in_use m (borne_lives h n child b it.is borne)))

    -- nothing is seen of its own space
    own_still : StandsForBorn names (destroyed s.spaces (slot_at s m).directory) (slot_at s n) b
    own_still =
        born_stands (slot_at s n) b (bearer_seen h n child b it.is borne gone)
        (counts_unpiped s.spaces (destroyed s.spaces (slot_at s m).directory) (slot_at s n) (ap is_piped stands)) (born_at h n b it.is)

    now_at : place_of moved ≡ spawns_at path argv to
    now_at =
        place_at (slot_at s n).registers SERVICE_SPAWN (step.Spawning to) it.outside
        ∙ ap (λ (x : Service). place.InService x (step.Spawning to)) (named_at (slot_at s n) (service.Spawn path argv) (step.Spawning from) stands)

    stands_then : StandsAtSpawn (view_of (destroyed s.spaces (slot_at s m).directory) home) moved later path argv to
    stands_then =
        let still : IsCutShort (view_of (destroyed s.spaces (slot_at s m).directory) home) (slot_at s n) b path argv fd child error =
        subst (λ (p : Place). StandsAt p (view_of (destroyed s.spaces (slot_at s m).directory) home) (slot_at s n) b) stands own_still.at in
        no_child (found_after (spawn_words to) (dropping fd error) later refl refl refl refl has.found.is_in) still.of_file

    part : StandsForBorn names (destroyed s.spaces (slot_at s m).directory) moved later
    part =
        let plain : is_in_handler (place_of (slot_at s n)) ≡ false = ap is_in_handler stands in
        let plain_after : is_in_handler (place_of moved) ≡ false = ap is_in_handler now_at in
        record {
          id = own_still.id;
          id_small = own_still.id_small;
          parent = own_still.parent;
          env_type = own_still.env_type;
          runs = own_still.runs;
          upcall = own_still.upcall ∙ plain_upcall (place_of (slot_at s n)) plain ∙ sym (plain_upcall (place_of moved) plain_after);
          descriptors = descriptors_turned names (destroyed s.spaces (slot_at s m).directory) home (place_of (slot_at s n)) (place_of moved) b.descriptors
              (ap is_calm stands) (ap is_calm now_at) own_still.descriptors;
          memory = own_still.memory;
          library = library_moved (place_of (slot_at s n)) (place_of moved) (slot_at s n).extra (spawn_words to)
              (rows_of (destroyed s.spaces (slot_at s m).directory) home)
              (plain_copy (place_of (slot_at s n)) plain ∙ sym (plain_copy (place_of moved) plain_after))
              (plain_working (place_of (slot_at s n)) (slot_at s n).extra plain ∙ ap holds_page stands ∙ sym (ap holds_page now_at)
              ∙ sym (plain_working (place_of moved) (spawn_words to) plain_after)) own_still.library;
          regions_have = own_still.regions_have;
          regions_only = own_still.regions_only;
          stack = own_still.stack;
          flags = own_still.flags;
          at = subst (λ (q : Place). StandsAt q (view_of (destroyed s.spaces (slot_at s m).directory) home) moved later) (sym now_at) stands_then;
        }

    alike : CountsAlike (place_of (slot_at s n)) (place_of moved)
    alike =
        subst (λ (q : Place). CountsAlike q (place_of moved)) (sym stands)
        (subst (λ (q : Place). CountsAlike (spawns_at path argv from) q) (sym now_at) (childs_alike path argv path argv from to (λ p. refl)))

    kept : slot_at (without_environment s m) n ≡ slot_at s n
    kept = upd-other s.environments.slots m _ n (λ same. borne_apart h n child b it.is borne (sym same))

    destroying_stands : IsInOrder (without_environment s m) → s.last ≡ Some n →
        StandsFor names (with_extra (without_environment s m) n (spawn_words to)) (without child error)
    destroying_stands order last =
        subst (λ (x : Slot). StandsFor names (with_slot_at (without_environment s m) n (record x { extra = spawn_words to })) (without child error)) (sym kept)
        (destroyed_stands h n child b it.is borne gone moved later refl refl (record { id = refl; env_type = refl; turns = refl; calm = λ runs. runs })
        (ap borne_in now_at) (ap is_calm stands) (ap is_calm now_at) alike last part (λ fd. refl)
        (slot_in_order (without_environment s m) n moved (ap (λ (x : Slot). is_live x) (sym kept)) (ap (λ (x : Slot). x.directory) (sym kept)) order))

    -- what the step comes to
    pub destroying_goes : IsInOrder (without_environment s (child % NENV)) → s.last ≡ Some n →
        GoesOn n (with_extra (without_environment s (child % NENV)) n (spawn_words (spawn.Undoing (undoing.ClosingFile fd error)))) a []
    destroying_goes order last = (without child error, destroying_step, printed_nothing a, (names, destroying_stands order last))

-- ---- the descriptor is dropped

not_none : {T : Type 0} (o : Option T) → o ≢ None → is_none o ≡ false
not_none None some = absurd (some refl)
not_none (Some x) some = refl

neither : (c d : Bool) → (c ≡ false) ⊎ (d ≡ false) → (c && d) ≡ false
neither false d off = refl
neither true false off = refl
neither true true (inl off) = off
neither true true (inr off) = off

module _ {v : View} {k : Slot} {b : Born} {path argv fd error : ℕ} where
  pub to_drop_of_file : IsToDrop v k b path argv fd error → IsOfFile v fd
  to_drop_of_file (too_short size words found sized short same) = sized.of_file
  to_drop_of_file (no_header size words header answer found sized counts failed same) = sized.of_file
  to_drop_of_file (no_table size words header table answer found sized counts failed same) = sized.of_file
  to_drop_of_file (header_unread words header found of_file none) = of_file
  to_drop_of_file (table_unread words header table found of_file none) = of_file
  to_drop_of_file (no_child found of_file) = of_file

  to_drop_in : IsToDrop v k b path argv fd error → (stage : Stage) × IsIn k b path argv stage
  to_drop_in (too_short size words found sized short same) = (_, found.is_in)
  to_drop_in (no_header size words header answer found sized counts failed same) = (_, found.is_in)
  to_drop_in (no_table size words header table answer found sized counts failed same) = (_, found.is_in)
  to_drop_in (header_unread words header found of_file none) = (_, found.is_in)
  to_drop_in (table_unread words header table found of_file none) = (_, found.is_in)
  to_drop_in (no_child found of_file) = (_, found.is_in)

module _ (s : KernelState) (n path argv fd error : ℕ)
    (stands : place_of (slot_at s n) ≡ spawns_at path argv (spawn.Undoing (undoing.ClosingFile fd error))) where
  abbrev closing : SpawnStep
  closing = spawn.Undoing (undoing.ClosingFile fd error)

  abbrev behind : SpawnStep
  behind = spawn.Undoing (undoing.UndoingStack error)

  module _ {names : Names} {a : AbstractState} (h : StandsFor names s a) where
    abbrev at_file : IsServed names s a n (service.Spawn path argv) (step.Spawning closing)
    at_file = spawn_there h n path argv closing stands

    abbrev owner : Born
    owner = at_file.b

    to_drop : IsToDrop (view_of s.spaces (slot_at s n).directory) (slot_at s n) owner path argv fd error
    to_drop = at_file.at

    of_file : IsOfFile (view_of s.spaces (slot_at s n).directory) fd
    of_file = to_drop_of_file to_drop

    abbrev dropped_with : ℕ → AbstractState
    dropped_with answer = with_born a n (file_gone owner path argv fd (refusing answer) (taking []))

    drop_is : {stage : Stage} (is_in : IsIn (slot_at s n) owner path argv stage) →
        abs_step a n ≡ library_step a n owner is_in.regs (service.Spawn path argv) stage
    drop_is {stage = stage} is_in = service_step a n owner is_in.regs (service.Spawn path argv) stage at_file.is is_in.program is_in.phase is_in.awake

    same_size : {size : ℕ} (sized : IsOfFileWith (view_of s.spaces (slot_at s n).directory) fd size) →
        (spawns_file h n path argv closing stands fd sized.of_file).f.size ≡ size
    same_size sized = sym (spawns_file h n path argv closing stands fd sized.of_file).told.size ∙ sized.size_is

    drop_step : IsToDrop (view_of s.spaces (slot_at s n).directory) (slot_at s n) owner path argv fd error → abs_step a n ≡ Some (dropped_with error)
    unfolding library_step spawn_step
    drop_step (too_short size words found sized short same) =
        let object = spawns_object h n path argv closing stands fd sized.of_file in
        let below = sized.of_file.below in
        let counts : is_count fd ≡ true = grind (arith, nat_tests, below) in
        let size_is = same_size sized in
        let small : nat_lt (spawns_file h n path argv closing stands fd sized.of_file).f.size EHDR_LEN ≡ true = grind (arith, nat_tests, size_is, short) in
        drop_is found.is_in ∙ rw (found.is, counts, object, small) refl ∙ ap (λ (w : ℕ). Some (dropped_with w)) (sym same)
    drop_step (no_header size words header answer found sized counts failed same) =
        let object = spawns_object h n path argv closing stands fd sized.of_file in
        let f : OpenFile = (spawns_file h n path argv closing stands fd sized.of_file).f in
        let off : ((length header == EHDR_LEN) && is_none (first_failed (header_tests f.size (slice_index header)))) ≡ false =
        neither (length header == EHDR_LEN) (is_none (first_failed (header_tests f.size (slice_index header)))) (by_test f (same_size sized) failed) in
        drop_is found.is_in ∙ rw (found.is, counts, object, off) refl ∙ ap (λ (w : ℕ). Some (dropped_with w)) (sym same)
      where
        by_test : (f : OpenFile) → f.size ≡ size → (length header ≢ EHDR_LEN) ⊎ (first_failed (header_tests size (slice_index header)) ≢ None) →
            ((length header == EHDR_LEN) ≡ false) ⊎ (is_none (first_failed (header_tests f.size (slice_index header))) ≡ false)
        by_test f size_is (inl long) = inl (grind (arith, nat_tests, long))
        by_test f size_is (inr some) =
            inr (ap (λ (z : ℕ). is_none (first_failed (header_tests z (slice_index header)))) size_is
            ∙ not_none (first_failed (header_tests size (slice_index header))) some)
    drop_step (no_table size words header table answer found sized counts failed same) =
        let object = spawns_object h n path argv closing stands fd sized.of_file in
        let f : OpenFile = (spawns_file h n path argv closing stands fd sized.of_file).f in
        let off : ((length table == table_size header)
        && is_none (first_failed (table_tests f.size (headers_in table) (entry_count_of (slice_index header))))) ≡ false =
        neither (length table == table_size header)
        (is_none (first_failed (table_tests f.size (headers_in table) (entry_count_of (slice_index header))))) (by_test f (same_size sized) failed) in
        drop_is found.is_in ∙ rw (found.is, counts, object, off) refl ∙ ap (λ (w : ℕ). Some (dropped_with w)) (sym same)
      where
        by_test : (f : OpenFile) → f.size ≡ size →
            (length table ≢ table_size header) ⊎ (first_failed (table_tests size (headers_in table) (entry_count_of (slice_index header))) ≢ None) →
            ((length table == table_size header) ≡ false)
            ⊎ (is_none (first_failed (table_tests f.size (headers_in table) (entry_count_of (slice_index header)))) ≡ false)
        by_test f size_is (inl long) = inl (grind (arith, nat_tests, long))
        by_test f size_is (inr some) =
            inr (ap (λ (z : ℕ). is_none (first_failed (table_tests z (headers_in table) (entry_count_of (slice_index header))))) size_is
            ∙ not_none (first_failed (table_tests size (headers_in table) (entry_count_of (slice_index header)))) some)
    drop_step (header_unread words header found file none) = drop_is found.is_in ∙ rw (found.is, none) refl
    drop_step (table_unread words header table found file none) = drop_is found.is_in ∙ rw (found.is, none) refl
    drop_step (no_child found file) = drop_is found.is_in ∙ rw found.is refl

    refuses_then : Refuses (record (slot_at s n) { extra = spawn_words behind })
        (file_gone owner path argv fd (refusing error) (taking [])) path argv error
    refuses_then =
        by_drop (found_after (spawn_words behind) (refusing error) (file_gone owner path argv fd (refusing error) (taking []))
        refl refl refl refl (to_drop_in to_drop).1)

    pub closing_goes : IsInOrder (with_spaces s (dropped s n fd)) → s.last ≡ Some n →
        GoesOn n (with_extra (with_spaces s (dropped s n fd)) n (spawn_words (spawn.Undoing (undoing.UndoingStack error)))) a []
    closing_goes order last = (
      dropped_with error,
      drop_step to_drop,
      printed_nothing a,
      (
        names,
        drops_file h n path argv closing behind stands fd of_file.below (drop_removes s n fd h of_file.below)
            (no_pipe_there h n path argv closing stands fd of_file) (refusing error) (taking []) refl (λ p. none_childs p) (λ p. none_childs p) last order
            refuses_then refl refl,
      ),
    )
      where
        none_childs : (p : ℕ) → ((p == page_number SPAWN_HERE) && false) || ((p == page_number SPAWN_STACK) && false) ≡ false
        none_childs p = by_tests (p == page_number SPAWN_HERE) (p == page_number SPAWN_STACK)
          where
            by_tests : (c d : Bool) → ((c && false) || (d && false)) ≡ false
            by_tests true true = refl
            by_tests true false = refl
            by_tests false true = refl
            by_tests false false = refl

  -- what the step comes to
  pub closing_keeps : IsInOrder (with_spaces s (dropped s n fd)) →
      KeepsStanding progress.Visible n s (with_extra (with_spaces s (dropped s n fd)) n (spawn_words (spawn.Undoing (undoing.UndoingStack error)))) []
  closing_keeps order a h turn quiet = closing_goes h.1 order turn.last
