-- Spawn drops the descriptor of its file, and has found out something else by then: its page is unmapped, and nothing else of anybody is seen to change.
use Rattle.std.proofs.Common.{◌≡◌, ◌≢◌, ◌∙◌, ◌<◌, ◌==◌, ◌%◌, ℕ, Bool, true, false, Option, Some, None, refl, sym, ap, subst, arith, if◌then◌else◌}
use Rattle.std.specs.Prelude.{nat_lt}
use Rattle.std.specs.Option.{option_map}
use Rattle.std.proofs.lemmas.Bool.Decides.{nat_tests}
use Rattle.std.proofs.lemmas.Option.{none-some, same_Some}
use Rattle.jos_base.specs.declared.numbers.TheConstants.{NENV}
use Rattle.jos_base.specs.Environments.{Slot}
use Rattle.jos_base.specs.KernelState.{KernelState, slot_at, with_extra, with_slot_at, with_spaces}
use Rattle.jos_base.specs.Reach.{Entry}
use Rattle.jos_base.specs.SpacesState.{SpacesState, put}
use Rattle.jos_base.specs.Words.{upd}
use Rattle.jos_base.proofs.Maps.{upd-all, upd-alike, upd-at, upd-other}
use Rattle.jos_base.proofs.Puts.{Elsewhere, put-at, put-other}
use Rattle.lib_os.specs.declared.numbers.TheConstants.{DESCRIPTORS, SERVICE_SPAWN}
use Rattle.lib_os.specs.declared.place.Place.{Place}
use Rattle.lib_os.specs.declared.place.Place.TheVariants as place
use Rattle.lib_os.specs.declared.place.Step.TheVariants as step
use Rattle.lib_os.specs.declared.service.Service.{Service}
use Rattle.lib_os.specs.declared.service.Service.TheVariants as service
use Rattle.lib_os.specs.declared.spawn_steps.SpawnStep.{SpawnStep}
use Rattle.lib_os.specs.AbstractRun.{pipe_of}
use Rattle.lib_os.specs.AbstractState.{AbstractState, Born, Object, Stage, Spawning, born, file, in_service, with_born}
use Rattle.lib_os.specs.Descriptors.{object_of, with_descriptor}
use Rattle.lib_os.specs.InOrder.{IsInOrder}
use Rattle.lib_os.specs.PipeEnds.{EndsStand, locked_at}
use Rattle.lib_os.specs.Places.{place_of}
use Rattle.lib_os.specs.Rows.{Names, Rows, counted, descriptor_page, descriptor_seen, is_clients, is_of_descriptor, is_pipe_page, is_programs}
use Rattle.lib_os.specs.Rows.{logical, name_of, page_by, page_seen, pipe_page, rows_of, seen_where, shown_at}
use Rattle.lib_os.specs.SpawnedChild.{spawning_child}
use Rattle.lib_os.specs.SpawnPages.{is_childs}
use Rattle.lib_os.specs.StandsAtSpawn.{IsOfFile, StandsAtSpawn}
use Rattle.lib_os.specs.StandsFor.{StandsAt, StandsFor, StandsForBorn, borne_in, by_spawn, seen_unless, things_in, view_of}
use Rattle.lib_os.proofs.BearsOn.{bears_on, borne_own}
use Rattle.lib_os.proofs.DescriptorLooks.{SeesDescriptors, is_descriptors, object_below, seen_calm}
use Rattle.lib_os.proofs.DescriptorsStand.{library_put_there, removed_puts, removed_row}
use Rattle.lib_os.proofs.DeviceLooks.{NamesFile, names_file_beside}
use Rattle.lib_os.proofs.Effects.{Removed}
use Rattle.lib_os.proofs.EntriesStand.{RowsStand, put_is, rows_put, rows_same, rows_stand, shown_same}
use Rattle.lib_os.proofs.Logical.{is_remapped, logical_live, programs_no_descriptor}
use Rattle.lib_os.proofs.Numbered.{named_at}
use Rattle.lib_os.proofs.PagesStand.{Puts, bytes_elsewhere, others_seen}
use Rattle.lib_os.proofs.PipesStand.{calm_made, calm_on_way, calm_places, ends_at_one, is_calm, locks_beside}
use Rattle.lib_os.proofs.Serving.{IsServed, holds_page, library_moved, plain_copy, plain_upcall, plain_working}
use Rattle.lib_os.proofs.Slots.{slot_back, upd-back}
use Rattle.lib_os.proofs.SlotsStand.{SeenAlike, born_at, descriptor_shown}
use Rattle.lib_os.proofs.SpawnedGoes.{HasOfImage, spawned_child}
use Rattle.lib_os.proofs.SpawnedMoves.{descriptor_mine}
use Rattle.lib_os.proofs.SpawnOwnPages.{spawn_there, spawn_words, spawns_at}
use Rattle.lib_os.proofs.StatesStand.{clients_live, ends_at, old_with, others_count, others_counts, own_moves, slot_in_order}
use Rattle.lib_os.proofs.WordsTell.{is_in_handler, place_at}

-- ---- the file

module _ {names : Names} {s : KernelState} {a : AbstractState} (h : StandsFor names s a) (n path argv : ℕ) (from : SpawnStep)
    (stands : place_of (slot_at s n) ≡ spawns_at path argv from) (fd : ℕ) (of_file : IsOfFile (view_of s.spaces (slot_at s n).directory) fd) where
  abbrev it : IsServed names s a n (service.Spawn path argv) (step.Spawning from)
  it = spawn_there h n path argv from stands

  -- its descriptor names a file
  pub spawns_file : NamesFile s a (spawn_there h n path argv from stands).b fd of_file.file.entry
  spawns_file =
      names_file_beside h n it.b it.is fd of_file.below (seen_calm h n it.b it.is (ap is_calm stands))
      (ap (λ (q : Place). is_remapped q (descriptor_page fd)) stands ∙ descriptor_mine from (descriptor_page fd) (is_descriptors fd of_file.below))
      of_file.file

  pub spawns_object : object_of a (spawn_there h n path argv from stands).b fd ≡ Some (file spawns_file.f)
  spawns_object = ap (option_map a.objects) spawns_file.named ∙ ap (λ (o : Object). Some o) spawns_file.is

  -- so that no page of a pipe stands beside it
  pub no_pipe_there : rows_of s.spaces (slot_at s n).directory (pipe_page fd) ≡ None
  no_pipe_there = by_row (rows_of s.spaces (slot_at s n).directory (pipe_page fd)) refl
    where
      by_row : (o : Option Entry) → rows_of s.spaces (slot_at s n).directory (pipe_page fd) ≡ o → o ≡ None
      by_row None is = refl
      by_row (Some x) is =
          let found = (ends_at h n it.b it.is).only fd x of_file.below (calm_on_way (place_of (slot_at s n)) (ap is_calm stands) fd) is in
          let names_it : it.b.descriptors fd ≡ Some spawns_file.name = sym (object_below h n it.b it.is fd of_file.below) ∙ spawns_file.named in
          let same : spawns_file.name ≡ found.0 = same_Some spawns_file.name found.0 (sym names_it ∙ found.1) in
          let piped : pipe_of (Some (a.objects spawns_file.name)) ≡ Some (names.name x.frame) =
          ap (λ (name : ℕ). pipe_of (Some (a.objects name))) same ∙ found.2 in
          absurd (none-some (names.name x.frame) (sym (ap (λ (o : Object). pipe_of (Some o)) spawns_file.is) ∙ piped))

-- ---- its page is gone

-- spawn without its descriptor, as it has found out something else, and is at another stage
abbrev pub file_gone : Born → ℕ → ℕ → ℕ → Spawning → Stage → Born
file_gone b path argv fd found stage = record (with_descriptor b fd None) { phase = in_service (service.Spawn path argv) stage; spawning = Some found }

module _ {names : Names} {s : KernelState} {a : AbstractState} {sp : SpacesState} (h : StandsFor names s a) (n path argv : ℕ) (from to : SpawnStep)
    (stands : place_of (slot_at s n) ≡ spawns_at path argv from) (fd : ℕ) (below : fd < DESCRIPTORS)
    (removed : Removed s.spaces sp (slot_at s n).directory (descriptor_page fd)) (alone : rows_of s.spaces (slot_at s n).directory (pipe_page fd) ≡ None)
    (found : Spawning) (stage : Stage) (held : holds_page (spawns_at path argv from) ≡ holds_page (spawns_at path argv to))
    (none_before : (p : ℕ) → is_childs from p ≡ false) (none_after : (p : ℕ) → is_childs to p ≡ false) (last : s.last ≡ Some n)
    (order : IsInOrder (with_spaces s sp)) where
  abbrev at_file : IsServed names s a n (service.Spawn path argv) (step.Spawning from)
  at_file = spawn_there h n path argv from stands

  abbrev b : Born
  b = at_file.b

  abbrev is : a.slots n ≡ born b
  is = at_file.is

  abbrev without_file : Born
  without_file = file_gone b path argv fd found stage

  abbrev home : ℕ
  home = (slot_at s n).directory

  abbrev moved : Slot
  moved = record (slot_at s n) { extra = spawn_words to }

  now_at : place_of moved ≡ spawns_at path argv to
  now_at =
      place_at (slot_at s n).registers SERVICE_SPAWN (step.Spawning to) at_file.outside
      ∙ ap (λ (x : Service). place.InService x (step.Spawning to)) (named_at (slot_at s n) (service.Spawn path argv) (step.Spawning from) stands)

  calm : is_calm (place_of (slot_at s n)) ≡ true
  calm = ap is_calm stands

  calm_after : is_calm (place_of moved) ≡ true
  calm_after = ap is_calm now_at

  fd_is : is_of_descriptor (descriptor_page fd) ≡ true
  fd_is = is_descriptors fd below

  fd_no_pipe : is_pipe_page (descriptor_page fd) ≡ false
  fd_no_pipe = grind (arith, nat_tests)

  puts : Puts names names s.spaces sp home (descriptor_page fd) None
  puts = removed_puts h n b is (descriptor_page fd) removed

  others : (q : ℕ) → q ≢ home → SeenAlike names names s.spaces sp q
  others = others_seen h n b is puts

  row_beside : (q : ℕ) → q ≢ descriptor_page fd → rows_of sp home q ≡ rows_of s.spaces home q
  row_beside q ne = ap (λ (rows : Rows). rows home q) puts.rows ∙ put-other (rows_of s.spaces) home (descriptor_page fd) None home q (λ same too. ne too)

  row_there : rows_of sp home (descriptor_page fd) ≡ None
  row_there = ap (λ (rows : Rows). rows home (descriptor_page fd)) puts.rows ∙ put-at (rows_of s.spaces) home (descriptor_page fd) None

  shown_beside : (q : ℕ) → q ≢ descriptor_page fd → shown_at names sp home q ≡ shown_at names s.spaces home q
  shown_beside q ne =
      shown_same names names s.spaces sp home q (row_beside q ne) (λ x hx own_page. puts.bytes home q x (λ same too. ne too) hx)
      (λ x hx shared_page. refl)

  memory_same : (q : ℕ) (c : Bool) → is_programs q ≡ c → page_seen names sp home q ≡ page_seen names s.spaces home q
  memory_same q true inside =
      ap (seen_where (is_programs q))
      (shown_beside q (λ it.
      let contradiction : true ≡ false = sym fd_is ∙ ap is_of_descriptor (sym it) ∙ programs_no_descriptor q inside in cc))
  memory_same q false off =
      ap (λ (c : Bool). seen_where c (shown_at names sp home q)) off ∙ sym (ap (λ (c : Bool). seen_where c (shown_at names s.spaces home q)) off)

  -- the descriptors
  seen_all : SeesDescriptors names s n b
  seen_all = seen_calm h n b is calm

  seen_then : (q : ℕ) → upd b.descriptors fd None q ≡ descriptor_seen names sp home q
  seen_then =
      upd-all (λ q (w : Option ℕ). w ≡ descriptor_seen names sp home q) b.descriptors fd None (sym here) (λ q ne. seen_all q ∙ sym (beside q ne (nat_lt q DESCRIPTORS) refl))
    where
      here : descriptor_seen names sp home fd ≡ None
      here =
          let test : nat_lt fd DESCRIPTORS ≡ true = grind (arith, nat_tests) in
          ap (λ (c : Bool). if c then name_of (shown_at names sp home (descriptor_page fd)) else None) test
          ∙ ap (λ (e : Option Entry). name_of (option_map (page_by names sp.pages) e)) row_there

      beside : (q : ℕ) → q ≢ fd → (c : Bool) → nat_lt q DESCRIPTORS ≡ c → descriptor_seen names sp home q ≡ descriptor_seen names s.spaces home q
      beside q ne true test =
          let q_below : q < DESCRIPTORS = grind (arith, nat_tests, test) in
          descriptor_shown names names s.spaces sp home q (shown_beside (descriptor_page q) (λ same. ne (omega (arith, same))))
      beside q ne false test =
          ap (λ (c : Bool). if c then name_of (shown_at names sp home (descriptor_page q)) else None) test
          ∙ sym (ap (λ (c : Bool). if c then name_of (shown_at names s.spaces home (descriptor_page q)) else None) test)

  pipes_same : (q : ℕ) → q < DESCRIPTORS → rows_of sp home (pipe_page q) ≡ rows_of s.spaces home (pipe_page q)
  pipes_same q q_below = row_beside (pipe_page q) (λ same. absurd (omega (arith, same, q_below, below)))

  pub dropped_ends : EndsStand names a.objects (place_of (record (slot_at s n) { extra = spawn_words to })) (rows_of sp (slot_at s n).directory) without_file
  dropped_ends =
      ends_at_one fd (λ q ne. calm_on_way (place_of moved) calm_after q ∙ sym (calm_on_way (place_of (slot_at s n)) calm q))
      (λ q ne. upd-other b.descriptors fd None q ne) (λ q name names_it. refl) (λ q q_below ne. pipes_same q q_below) (λ q x q_below lies. refl)
      (λ name pipe fd_below names_it piped. absurd (none-some name (sym (upd-at b.descriptors fd None) ∙ names_it)))
      (λ entry fd_below off lies. absurd (none-some entry (sym (pipes_same fd below ∙ alone) ∙ lies))) (ends_at h n b is)

  olds : (q name : ℕ) → upd b.descriptors fd None q ≡ Some name → name < a.next_name
  olds = old_with (λ q name names_it. h.old n q name b is names_it) fd None (λ name none. absurd (none-some name none))

  -- how entries count
  counts_before : (q : ℕ) → logical s.spaces s.environments.slots n q ≡ rows_of s.spaces home q
  unfolding counted
  counts_before q =
      logical_live s.spaces s.environments.slots n (clients_live h n b is) q
      ∙ ap (λ (p : Place). counted p (rows_of s.spaces home) q) stands
      ∙ ap (λ (c : Bool). if c then None else rows_of s.spaces home q) (none_before q)

  counts_after : (slots : ℕ → Slot) → slots n ≡ moved → (q : ℕ) → logical sp slots n q ≡ rows_of sp home q
  unfolding counted
  counts_after slots same q =
      logical_live sp slots n (ap (λ (k : Slot). is_clients n k) same ∙ clients_live h n b is) q
      ∙ ap (λ (k : Slot). counted (place_of k) (rows_of sp k.directory) q) same
      ∙ ap (λ (p : Place). counted p (rows_of sp home) q) now_at
      ∙ ap (λ (c : Bool). if c then None else rows_of sp home q) (none_after q)

  counts_put : (m q : ℕ) → logical sp (upd s.environments.slots n moved) m q ≡ put (logical s.spaces s.environments.slots) n (descriptor_page fd) None m q
  counts_put =
      put_is (logical s.spaces s.environments.slots) (logical sp (upd s.environments.slots n moved)) n (descriptor_page fd) None
      (here (descriptor_page fd) ∙ row_there) beside
    where
      here : (q : ℕ) → logical sp (upd s.environments.slots n moved) n q ≡ rows_of sp home q
      here = counts_after (upd s.environments.slots n moved) (upd-at s.environments.slots n moved)

      beside : (m q : ℕ) → Elsewhere m q n (descriptor_page fd) →
          logical sp (upd s.environments.slots n moved) m q ≡ logical s.spaces s.environments.slots m q
      beside m q ne = by_slot (m == n) refl
        where
          by_slot : (c : Bool) → (m == n) ≡ c → logical sp (upd s.environments.slots n moved) m q ≡ logical s.spaces s.environments.slots m q
          by_slot true test =
              let same : m ≡ n = grind (arith, nat_tests, test) in
              subst (λ (r : ℕ). logical sp (upd s.environments.slots n moved) r q ≡ logical s.spaces s.environments.slots r q) (sym same)
              (here q ∙ row_beside q (ne same) ∙ sym (counts_before q))
          by_slot false test = others_count h n b is moved others m (grind (arith, nat_tests, test)) q

  pub dropped_rows : RowsStand names sp.pages a.shared (things_in s a) a.next_name
      (logical sp (upd s.environments.slots n (record (slot_at s n) { extra = spawn_words to })))
  dropped_rows =
      rows_same (put (logical s.spaces s.environments.slots) n (descriptor_page fd) None) (logical sp (upd s.environments.slots n moved)) counts_put
      (rows_put (rows_stand h) (removed_row h n b is (descriptor_page fd) removed))

  module _ (so : StandsAtSpawn (view_of sp (slot_at s n).directory) (record (slot_at s n) { extra = spawn_words to }) without_file path argv to) where
    pub dropped_part : StandsForBorn names sp (record (slot_at s n) { extra = spawn_words to }) without_file
    dropped_part =
        let had = born_at h n b is in
        let plain : is_in_handler (place_of (slot_at s n)) ≡ false = ap is_in_handler stands in
        let plain_after : is_in_handler (place_of moved) ≡ false = ap is_in_handler now_at in
        record {
          id = had.id;
          id_small = had.id_small;
          parent = had.parent;
          env_type = had.env_type;
          runs = had.runs;
          upcall = had.upcall ∙ plain_upcall (place_of (slot_at s n)) plain ∙ sym (plain_upcall (place_of moved) plain_after);
          descriptors = λ q still.
              seen_then q
              ∙ sym (ap (λ (t : Bool). seen_unless t (descriptor_seen names sp home q)) (calm_made (place_of moved) calm_after q));
          memory = λ q. had.memory q ∙ sym (memory_same q (is_programs q) refl);
          library = library_moved (place_of (slot_at s n)) (place_of moved) (slot_at s n).extra (spawn_words to) (rows_of sp home)
              (plain_copy (place_of (slot_at s n)) plain ∙ sym (plain_copy (place_of moved) plain_after))
              (plain_working (place_of (slot_at s n)) (slot_at s n).extra plain ∙ ap holds_page stands ∙ held ∙ sym (ap holds_page now_at)
              ∙ sym (plain_working (place_of moved) (spawn_words to) plain_after))
              (library_put_there (place_of (slot_at s n)) (slot_at s n).extra (rows_of s.spaces home) (rows_of sp home) (descriptor_page fd) fd_is
              row_beside (λ x lies. absurd (none-some x (sym row_there ∙ lies))) had.library);
          regions_have = λ r has. removed.regions home r ∙ had.regions_have r has;
          regions_only = λ r has. had.regions_only r (sym (removed.regions home r) ∙ has);
          stack = had.stack;
          flags = had.flags;
          at = subst (λ (q : Place). StandsAt q (view_of sp home) moved without_file) (sym now_at) so;
        }

    -- ---- it bears no child

    pub drops_file : spawning_child from ≡ None → spawning_child to ≡ None →
        StandsFor names (with_extra (with_spaces s sp) n (spawn_words to)) (with_born a n without_file)
    drops_file unborne unborne_after =
        own_moves h n b is sp moved without_file a.shared a.next_name refl (record { id = refl; env_type = refl; turns = refl; calm = λ runs. runs })
        (ap borne_in stands ∙ unborne) (ap borne_in now_at ∙ unborne_after) others dropped_part dropped_rows
        (slot_in_order (with_spaces s sp) n moved refl refl order) (others_counts h n last sp) dropped_ends
        (locks_beside n (descriptor_page fd) None fd_no_pipe
        (upd-alike (λ (x : Slot). locked_at (place_of x)) s.environments.slots n moved (calm_places calm calm_after).locked) counts_put
        (bytes_elsewhere h n b is puts) h.locks)
        (omega arith) olds

    -- ---- or one that has, where it stands then, what it is to have

    pub drops_file_bearing : (id : ℕ) → (bears : spawning_child from ≡ Some id) → spawning_child to ≡ Some id →
        HasOfImage names sp (record (slot_at s n) { extra = spawn_words to }) without_file to (slot_at s (id % NENV)) id →
        StandsFor names (with_extra (with_spaces s sp) n (spawn_words to)) (with_born a n without_file)
    drops_file_bearing id bears bears_after has =
        subst (λ (t : KernelState). StandsFor names (with_slot_at t n moved) (with_born a n without_file)) back
        (bears_on h n id b is borne moved child refl refl (λ d not_mine not_childs. others d not_mine) without_file refl
        (record { id = refl; env_type = refl; turns = refl; calm = λ runs. runs }) (record { id = refl; env_type = refl; turns = refl; calm = λ runs. runs })
        (ap borne_in now_at ∙ bears_after) calm calm_after dropped_part (borne_own h n id b is borne)
        (by_spawn (spawned_child id path argv refl now_at bears_after has))
        (subst (λ (slots : ℕ → Slot). RowsStand names sp.pages a.shared (things_in s a) a.next_name (logical sp (upd slots n moved)))
        (sym (upd-back s.environments.slots (id % NENV) child refl)) dropped_rows)
        (subst (λ (t : KernelState). IsInOrder (with_slot_at t n moved)) (sym back) (slot_in_order (with_spaces s sp) n moved refl refl order))
        (others_counts h n last sp) dropped_ends
        (λ q x q_below lies shared_page. counts_before (pipe_page q) ∙ sym (pipes_same q q_below) ∙ lies)
        (λ d q x q_below lies. puts.bytes d (pipe_page q) x (λ same too. absurd (omega (arith, too, q_below, below))) lies) olds)
      where
        borne : borne_in (place_of (slot_at s n)) ≡ Some id
        borne = ap borne_in stands ∙ bears

        child : Slot
        child = slot_at s (id % NENV)

        back : with_slot_at (with_spaces s sp) (id % NENV) child ≡ with_spaces s sp
        back = slot_back (with_spaces s sp) (id % NENV) child refl
