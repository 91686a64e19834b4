-- Spawn whose child has all bytes drops the descriptor of its file, which is its next step in the abstract system; behind that it passes on what it shares.
use Rattle.std.proofs.Common.{◌≡◌, ◌≢◌, ◌∙◌, ◌+◌, ◌*◌, ◌%◌, ◌<◌, ◌==◌, ◌++◌, ℕ, Bool, true, false, List, [], ◌∷◌, length, refl, sym, ap, subst, arith, if◌then◌else◌}
use Rattle.std.specs.Prelude.{drop, nat_le, slice_index, Some}
use Rattle.std.proofs.lemmas.Bool.{false≢true}
use Rattle.std.proofs.lemmas.Bool.Decides.{nat_tests}
use Rattle.std.proofs.lemmas.List.{append_assoc, append-nil, drop-drop, length-append}
use Rattle.jos_base.specs.declared.numbers.TheConstants.{NENV, NPTENTRIES, USTACKTOP}
use Rattle.jos_base.specs.Environments.{Slot}
use Rattle.jos_base.specs.KernelState.{KernelState, slot_at, with_extra, with_spaces}
use Rattle.jos_base.specs.SpacesState.{SpacesState}
use Rattle.jos_base.specs.Words.{page_number}
use Rattle.jos_elf.specs.Headers.{entry_count_of}
use Rattle.lib_os.specs.declared.numbers.TheConstants.{SPAWN_HERE, SPAWN_STACK, UXSTACK}
use Rattle.lib_os.specs.declared.place.Step.TheVariants as step
use Rattle.lib_os.specs.declared.progress.Progress.TheVariants as progress
use Rattle.lib_os.specs.declared.service.Service.TheVariants as service
use Rattle.lib_os.specs.declared.spawn_steps.FinishingStep.TheVariants as finishing
use Rattle.lib_os.specs.declared.spawn_steps.SpawnStep.{SpawnStep}
use Rattle.lib_os.specs.declared.spawn_steps.SpawnStep.TheVariants as spawn
use Rattle.lib_os.specs.AbstractRun.{abs_step}
use Rattle.lib_os.specs.AbstractSpawn.{Piece, all_of, pieces_left, pieces_wanted, spawn_step, under_shared}
use Rattle.lib_os.specs.AbstractState.{AbstractState, Born, ImageRead, Phase, Spawning, Stage, closed, in_service, loading, taking, with_born}
use Rattle.lib_os.specs.Fence.{in_fence}
use Rattle.lib_os.specs.InOrder.{IsInOrder}
use Rattle.lib_os.specs.LibraryCall.{library_step}
use Rattle.lib_os.specs.LibraryPages.{IsOwnWritable, View, region_index}
use Rattle.lib_os.specs.LibrarySteps.{GoesOn, KeepsStanding}
use Rattle.lib_os.specs.Places.{place_of}
use Rattle.lib_os.specs.Rows.{EntryRow, Names, descriptor_page, is_of_descriptor, is_programs, rows_of}
use Rattle.lib_os.specs.SpawnedChild.{Loads, Progress, bytes_replied, child_page, handler_of, is_closed, no_page_passed, own_page, passing, registers_of}
use Rattle.lib_os.specs.StandsAtSpawn.{HasAllBytes, HasPieces, StandsAtSpawn, and_last, none_yet}
use Rattle.lib_os.specs.StandsFor.{StandsFor, view_of}
use Rattle.lib_os.proofs.DescriptorsStand.{drop_removes, dropped, removed_puts}
use Rattle.lib_os.proofs.PagesStand.{others_seen}
use Rattle.lib_os.proofs.Serving.{IsServed, printed_nothing, service_step}
use Rattle.lib_os.proofs.SlotsStand.{SeenAlike, born_live, but_pipes, seen_but_pipes}
use Rattle.lib_os.proofs.SpawnDrops.{drops_file_bearing, file_gone, no_pipe_there, spawns_object}
use Rattle.lib_os.proofs.SpawnedGoes.{HasOfImage, IsSpawner, spawner}
use Rattle.lib_os.proofs.SpawnedMoves.{spawned_lives}
use Rattle.lib_os.proofs.SpawnedProgress.{loads_same}
use Rattle.lib_os.proofs.SpawnKeeps.{none_childs}
use Rattle.lib_os.proofs.SpawnOwnPages.{spawn_there, spawn_words, spawns_at}
use Rattle.lib_os.proofs.SpawnUndoes.{found_after}

-- ---- pieces

-- all bytes, with those of one more piece
all_more : (pieces : List (List ℕ)) (bytes : List ℕ) → all_of (pieces ++ bytes ∷ []) ≡ all_of pieces ++ bytes
unfolding all_of
all_more [] bytes = append-nil bytes
all_more (piece ∷ rest) bytes = ap (λ (l : List ℕ). piece ++ l) (all_more rest bytes) ∙ sym (append_assoc piece (all_of rest) bytes)

-- the pieces behind the first that is left
behind_first : (image : ImageRead) (pieces : List (List ℕ)) (bytes : List ℕ) (piece : Piece) (rest : List Piece) →
    pieces_left image pieces ≡ piece ∷ rest → pieces_left image (pieces ++ bytes ∷ []) ≡ rest
behind_first image pieces bytes piece rest left =
    ap (λ (m : ℕ). drop m (pieces_wanted image)) (length-append pieces (bytes ∷ []))
    ∙ sym (drop-drop 1 (length pieces) (pieces_wanted image))
    ∙ ap (λ (l : List Piece). drop 1 l) left

-- what has come for its segments is all of its pieces
come_so : {image : ImageRead} {pieces had : List (List ℕ)} {stage : Stage} → HasPieces image pieces had stage → {phase : Phase} {path argv : ℕ} →
    phase ≡ in_service (service.Spawn path argv) stage → all_of pieces ++ bytes_replied phase ≡ all_of had
come_so {pieces = pieces} none_yet is =
    ap (λ (p : Phase). all_of pieces ++ bytes_replied p) is ∙ append-nil (all_of pieces)
come_so {pieces = pieces} (and_last bytes answer piece rest left long counts) is =
    ap (λ (p : Phase). all_of pieces ++ bytes_replied p) is ∙ sym (all_more pieces bytes)

-- ---- the step

module _ (s : KernelState) (n path argv fd child : ℕ)
    (stands : place_of (slot_at s n) ≡ spawns_at path argv (spawn.Finishing (finishing.DroppingFile fd child))) where
  abbrev from : SpawnStep
  from = spawn.Finishing (finishing.DroppingFile fd child)

  abbrev to : SpawnStep
  to = spawn.Finishing (finishing.PassingRegion child (region_index USTACKTOP))

  abbrev m : ℕ
  m = child % NENV

  abbrev home : ℕ
  home = (slot_at s n).directory

  abbrev moved : Slot
  moved = record (slot_at s n) { extra = spawn_words to }

  module _ {names : Names} {a : AbstractState} (h : StandsFor names s a) where
    abbrev it : IsServed names s a n (service.Spawn path argv) (step.Spawning from)
    it = spawn_there h n path argv from stands

    abbrev b : Born
    b = it.b

    has : HasAllBytes (view_of s.spaces home) (slot_at s n) b path argv fd child
    has = it.at

    v : IsSpawner names s a n path argv from child b
    v = spawner h n path argv child from stands refl

    abbrev found : Spawning
    found = closed has.image m has.had

    abbrev later : Born
    later = file_gone b path argv fd found (taking [])

    -- ---- the abstract system's

    closing_step : abs_step a n ≡ Some (with_born a n later)
    unfolding library_step spawn_step
    closing_step =
        service_step a n b has.found.is_in.regs (service.Spawn path argv) has.stage it.is has.found.is_in.program has.found.is_in.phase has.found.is_in.awake
        ∙ by_pieces has.has has.none_left has.found.is
      where
        by_pieces : {pieces had : List (List ℕ)} {stage : Stage} → HasPieces has.image pieces had stage → pieces_left has.image had ≡ [] →
            b.spawning ≡ Some (loading fd has.image m pieces) →
            library_step a n b has.found.is_in.regs (service.Spawn path argv) stage
            ≡ Some (with_born a n (file_gone b path argv fd (closed has.image m had) (taking [])))
        by_pieces none_yet none_left is =
            let object = spawns_object h n path argv from stands fd has.of_file in rw (is, object, none_left) refl
        by_pieces (and_last bytes answer piece rest left long counts) none_left is =
            let object = spawns_object h n path argv from stands fd has.of_file in
            let whole : (length bytes == piece.len) ≡ true = grind (arith, nat_tests, long) in
            let last : rest ≡ [] = sym (behind_first has.image _ bytes piece rest left) ∙ none_left in
            rw (is, counts, object, left, whole, last) refl

    -- ---- the child

    module _ {sp : SpacesState} (child_seen : SeenAlike names names s.spaces sp (slot_at s m).directory) where
      child_row : (q : ℕ) → rows_of sp (slot_at s m).directory q ≡ rows_of s.spaces (slot_at s m).directory q
      child_row q = ap (λ (r : EntryRow). r q) child_seen.rows

      abbrev headers : ℕ
      headers = entry_count_of (slice_index v.child.image.header)

      abbrev after : Progress
      after = passing headers ((region_index USTACKTOP + 1) * NPTENTRIES)

      same_image : v.child.image ≡ has.image
      same_image = (loads_same v.child.loads has.found.is).image_is

      same_file : v.child.file ≡ all_of has.had
      same_file = (loads_same v.child.loads has.found.is).file_is ∙ come_so has.has has.found.is_in.phase

      loads_then : Loads m v.child.image (Some (closed has.image m has.had)) [] v.child.file
      loads_then =
          subst (λ (image : ImageRead). Loads m image (Some (closed has.image m has.had)) [] v.child.file) (sym same_image)
          (subst (λ (file : List ℕ). Loads m has.image (Some (closed has.image m has.had)) [] file) (sym same_file) (is_closed has.had []))

      -- a program's page, and a descriptor's, lies below all that is passed on then
      program_below : (p : ℕ) → is_programs p ≡ true → p < no_page_passed
      unfolding in_fence
      program_below p inside = grind (arith, nat_tests, inside)

      descriptor_below : (p : ℕ) → is_of_descriptor p ≡ true → p < no_page_passed
      descriptor_below p is = grind (arith, nat_tests, is)

      not_passed : (p : ℕ) → p < no_page_passed → (nat_le no_page_passed p ≡ false) × (nat_le ((region_index USTACKTOP + 1) * NPTENTRIES) p ≡ false)
      not_passed p lower = (grind (arith, nat_tests, lower), grind (arith, nat_tests, lower))

      memory_then : (p : ℕ) → is_programs p ≡ true →
          child_page b v.child.image v.child.progress v.child.file p ≡ child_page b v.child.image after v.child.file p
      memory_then p inside =
          let off = not_passed p (program_below p inside) in
          ap (λ (before : Progress). child_page b v.child.image before v.child.file p) v.child.is_so
          ∙ by_tests (nat_le no_page_passed p) (nat_le ((region_index USTACKTOP + 1) * NPTENTRIES) p) off.0 off.1
        where
          by_tests : (c d : Bool) → c ≡ false → d ≡ false →
              (if c then under_shared (b.memory p) (own_page v.child.image (passing headers no_page_passed) v.child.file p)
              else own_page v.child.image (passing headers no_page_passed) v.child.file p)
              ≡ (if d then under_shared (b.memory p) (own_page v.child.image after v.child.file p) else own_page v.child.image after v.child.file p)
          by_tests false false first second = refl
          by_tests true d first second = absurd (false≢true (sym first))
          by_tests false true first second = absurd (false≢true (sym second))

      has_then : HasOfImage names sp moved later to (slot_at s m) child
      has_then =
          let x = v.child in
          record {
            image = x.image;
            file = x.file;
            loads = loads_then;
            progress = after;
            is_so = refl;
            registers = x.registers ∙ ap (λ (before : Progress). registers_of before.registers (slot_at s n).registers x.image) x.is_so;
            upcall = x.upcall ∙ ap (λ (before : Progress). handler_of before.handler) x.is_so;
            memory = λ p inside. seen_but_pipes (but_pipes child_seen) p ∙ x.memory p inside ∙ memory_then p inside;
            uncopied = λ p e inside is own_one. x.uncopied p e inside (sym (child_row p) ∙ is) own_one;
            handed = λ p is on. absurd (false≢true (sym (not_passed p (descriptor_below p is)).1 ∙ on));
            rest = λ p is off.
                child_row p
                ∙ x.rest p is (ap (λ (before : Progress). nat_le before.passed p) x.is_so ∙ (not_passed p (descriptor_below p is)).0);
            handler_stack = λ on. subst (λ (r : EntryRow). IsOwnWritable r (page_number UXSTACK)) (sym child_seen.rows)
                (x.handler_stack (ap (λ (before : Progress). before.handler_stack) x.is_so));
            no_handler_stack = λ off. absurd (false≢true (sym off));
            none = λ p off no_desc other. child_row p ∙ x.none p off no_desc other;
            tables = λ r table. x.tables r (sym (child_seen.regions r) ∙ table);
            here = λ p is. absurd (false≢true (sym (none_childs (p == page_number SPAWN_HERE) (p == page_number SPAWN_STACK)) ∙ is));
          }

    -- ---- the state behind it

    closed_then : (w : View) → StandsAtSpawn w moved later path argv to
    closed_then w = (
      record {
        image = has.image;
        pieces = has.had;
        found = found_after (spawn_words to) found later refl refl refl refl has.found.is_in;
        none_left = has.none_left;
        tested = has.tested;
      },
      omega arith,
    )

    pub dropping_goes : IsInOrder (with_spaces s (dropped s n fd)) → s.last ≡ Some n →
        GoesOn n (with_extra (with_spaces s (dropped s n fd)) n (spawn_words (spawn.Finishing (finishing.PassingRegion child (region_index USTACKTOP))))) a []
    dropping_goes order last =
        let removed = drop_removes s n fd h has.of_file.below in
        let others = others_seen h n b it.is (removed_puts h n b it.is (descriptor_page fd) removed) in
        let apart : (slot_at s m).directory ≢ home =
        λ same. v.apart (h.in_order.spaces.apart m n (spawned_lives h v) (born_live it.own) same) in (
          with_born a n later,
          closing_step,
          printed_nothing a,
          (
            names,
            drops_file_bearing h n path argv from to stands fd has.of_file.below removed (no_pipe_there h n path argv from stands fd has.of_file) found
                (taking []) refl (λ p. none_childs (p == page_number SPAWN_HERE) (p == page_number SPAWN_STACK))
                (λ p. none_childs (p == page_number SPAWN_HERE) (p == page_number SPAWN_STACK)) last order (closed_then (view_of (dropped s n fd) home)) child refl refl
                (has_then (others (slot_at s m).directory apart)),
          ),
        )

  -- what the step comes to
  pub dropping_keeps : IsInOrder (with_spaces s (dropped s n fd)) → KeepsStanding progress.Visible n s
      (with_extra (with_spaces s (dropped s n fd)) n (spawn_words (spawn.Finishing (finishing.PassingRegion child (region_index USTACKTOP))))) []
  dropping_keeps order a h turn quiet = dropping_goes h.1 order turn.last
