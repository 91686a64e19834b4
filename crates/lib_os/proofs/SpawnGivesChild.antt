-- Spawn that bears a child gives it a page: one entry of the child's space is another, and no other entry, nor the bytes of any page. The kernel's state goes on
-- standing for the same abstract one, where the child has what it is to have.
use Rattle.std.proofs.Common.{◌≡◌, ◌≢◌, ◌∙◌, ◌%◌, ℕ, true, false, Some, None, is_some, refl, sym, ap, subst, if◌then◌else◌}
use Rattle.std.proofs.lemmas.Bool.{false≢true}
use Rattle.jos_base.specs.declared.numbers.TheConstants.{NENV}
use Rattle.jos_base.specs.Environments.{Slot}
use Rattle.jos_base.specs.KernelState.{KernelState, slot_at, with_extra, with_spaces}
use Rattle.jos_base.specs.Reach.{Entry}
use Rattle.jos_base.specs.SpacesState.{SpacesState, put}
use Rattle.jos_base.specs.Words.{upd}
use Rattle.jos_base.proofs.Puts.{Elsewhere}
use Rattle.lib_os.specs.declared.place.Place.{Place}
use Rattle.lib_os.specs.declared.place.Step.TheVariants as step
use Rattle.lib_os.specs.declared.service.Service.TheVariants as service
use Rattle.lib_os.specs.declared.spawn_steps.SpawnStep.{SpawnStep}
use Rattle.lib_os.specs.AbstractState.{AbstractState, Born}
use Rattle.lib_os.specs.DescriptorPages.{lasting_words}
use Rattle.lib_os.specs.InOrder.{IsInOrder}
use Rattle.lib_os.specs.Places.{place_of}
use Rattle.lib_os.specs.Rows.{EntryRow, Names, Rows, counted, is_shared, logical, rows_of}
use Rattle.lib_os.specs.SpawnedChild.{spawning_child}
use Rattle.lib_os.specs.SpawnPages.{is_childs}
use Rattle.lib_os.specs.StandsAtSpawn.{StandsAtSpawn}
use Rattle.lib_os.specs.StandsFor.{StandsAt, StandsFor, StandsForBorn, things_in, view_of}
use Rattle.lib_os.proofs.Bearing.{of_slots}
use Rattle.lib_os.proofs.EntriesStand.{PutsRow, RowsStand, put_is, rows_put, rows_same, rows_stand}
use Rattle.lib_os.proofs.Logical.{logical_some}
use Rattle.lib_os.proofs.Serving.{IsServed, holds_page}
use Rattle.lib_os.proofs.SlotsStand.{SeenAlike, born_stands, counts_unpiped, is_piped}
use Rattle.lib_os.proofs.SpawnedGoes.{HasOfImage, IsSpawner, spawner, went_own}
use Rattle.lib_os.proofs.SpawnedMoves.{others_spawning, spawned_counted, spawned_counts, spawned_lives, spawner_apart, spawner_counted, spawner_counts, spawning_moves}
use Rattle.lib_os.proofs.SpawnOwnPages.{spawn_there, spawn_words, spawns_at}
use Rattle.lib_os.proofs.StatesStand.{others_counts}

-- What the space of a child is behind a call that puts an entry there.
pub record PutsInChild (s sp : SpacesState) (d p : ℕ) (e : Entry) : Type 0 where
  pub beside : (q r : ℕ) → Elsewhere q r d p → rows_of sp q r ≡ rows_of s q r
  pub there : rows_of sp d p ≡ Some e
  pub bytes : (q r : ℕ) (x : Entry) → Elsewhere q r d p → rows_of s q r ≡ Some x → sp.pages x.frame ≡ s.pages x.frame
  pub regions : (q r : ℕ) → q ≢ d → is_some (sp.regions q r) ≡ is_some (s.regions q r)

module _ {names : Names} {s : KernelState} {a : AbstractState} {sp : SpacesState} (h : StandsFor names s a) (n path argv id : ℕ) (from to : SpawnStep)
    (stands : place_of (slot_at s n) ≡ spawns_at path argv from) (bears : spawning_child from ≡ Some id) (p : ℕ) (e : Entry)
    (puts : PutsInChild s.spaces sp (slot_at s (id % NENV)).directory p e)
    (own_there : (x : Entry) → rows_of s.spaces (slot_at s (id % NENV)).directory p ≡ Some x → is_shared x.perm ≡ false) (last : s.last ≡ Some n) where
  abbrev it : IsServed names s a n (service.Spawn path argv) (step.Spawning from)
  it = spawn_there h n path argv from stands

  abbrev b : Born
  b = it.b

  abbrev m : ℕ
  m = id % NENV

  abbrev home : ℕ
  home = (slot_at s n).directory

  abbrev d : ℕ
  d = (slot_at s m).directory

  abbrev moved : Slot
  moved = record (slot_at s n) { extra = spawn_words to }

  abbrev pub giver : IsSpawner names s a n path argv from id (spawn_there h n path argv from stands).b
  giver = spawner h n path argv id from stands bears

  others_alike : (q : ℕ) → q ≢ d → SeenAlike names names s.spaces sp q
  others_alike q ne = record {
    rows = λ i r. puts.beside q r (λ same too. ne same) i;
    bytes = λ r x hx own_page. puts.bytes q r x (λ same too. ne same) hx;
    named_so = λ r x hx shared_page. refl;
    devices = λ r x descriptor hx shared_page. ap lasting_words (puts.bytes q r x (λ same too. ne same) hx);
    pipes = λ r x pipes hx shared_page. puts.bytes q r x (λ same too. ne same) hx;
    regions = λ r. puts.regions q r ne;
  }

  -- its own part, and where it stands
  own_still : StandsForBorn names sp (slot_at s n) b
  own_still = born_stands (slot_at s n) b (others_alike home (spawner_apart h giver)) (counts_unpiped s.spaces sp (slot_at s n) (ap is_piped stands)) it.own

  pub giver_stands : StandsAtSpawn (view_of sp (slot_at s n).directory) (slot_at s n) (spawn_there h n path argv from stands).b path argv from
  giver_stands = subst (λ (q : Place). StandsAt q (view_of sp home) (slot_at s n) b) stands own_still.at

  pub giver_row : (r : ℕ) → rows_of sp (slot_at s n).directory r ≡ rows_of s.spaces (slot_at s n).directory r
  giver_row r = ap (λ (row : EntryRow). row r) (others_alike home (spawner_apart h giver)).rows

  pub given_row : (r : ℕ) → r ≢ p → rows_of sp (slot_at s (id % NENV)).directory r ≡ rows_of s.spaces (slot_at s (id % NENV)).directory r
  given_row r ne = puts.beside d r (λ same. ne)

  -- what counted keeps its bytes
  pub given_bytes : (j r : ℕ) (x : Entry) → Elsewhere j r (id % NENV) p → logical s.spaces s.environments.slots j r ≡ Some x →
      sp.pages x.frame ≡ s.spaces.pages x.frame
  given_bytes j r x ne hx =
      let both = logical_some s.spaces s.environments.slots j r x hx in
      let found = both.1 in
      let apart = h.in_order.spaces.apart j m both.0 (spawned_lives h giver) in
      subst (λ (f : ℕ). sp.pages f ≡ s.spaces.pages f) found.frame (puts.bytes _ r found.entry (λ same. ne (apart same)) found.stands)

  -- and what is shared
  shared_bytes : (q r : ℕ) (x : Entry) → rows_of s.spaces q r ≡ Some x → is_shared x.perm ≡ true → sp.pages x.frame ≡ s.spaces.pages x.frame
  shared_bytes q r x is shared_page =
      puts.bytes q r x
      (λ same too. false≢true (sym (own_there x ((λ i. rows_of s.spaces (sym same i) (sym too i)) ∙ is)) ∙ shared_page)) is

  module _ (bears_after : spawning_child to ≡ Some id) (held : holds_page (spawns_at path argv from) ≡ holds_page (spawns_at path argv to))
      (so : StandsAtSpawn (view_of sp (slot_at s n).directory) (record (slot_at s n) { extra = spawn_words to }) (spawn_there h n path argv from stands).b
      path argv to)
      (has : HasOfImage names sp (record (slot_at s n) { extra = spawn_words to }) (spawn_there h n path argv from stands).b to (slot_at s (id % NENV)) id)
      (order : IsInOrder (with_spaces s sp)) where
    -- by how entries count then
    pub gives_by_rows : RowsStand names sp.pages a.shared (things_in s a) a.next_name
        (logical sp (upd s.environments.slots n (record (slot_at s n) { extra = spawn_words to }))) →
        StandsFor names (with_extra (with_spaces s sp) n (spawn_words to)) a
    gives_by_rows rows =
        spawning_moves h n path argv id from to b giver bears_after sp (λ q ne beside. others_alike q beside)
        (went_own (slot_at s n) path argv from to stands held own_still so) has rows order (others_counts h n last sp)
        (λ r pipes. giver_row r) shared_bytes

    -- where the same of its own pages are the child's at both steps
    module _ (childs : (q : ℕ) → is_childs from q ≡ is_childs to q) where
      abbrev before : Rows
      before = logical s.spaces s.environments.slots

      abbrev behind : Rows
      behind = logical sp (upd s.environments.slots n moved)

      own_counts : (r : ℕ) → behind n r ≡ before n r
      unfolding counted
      own_counts r =
          spawner_counts h giver sp to r
          ∙ (λ i. if sym (childs r) i then None else giver_row r i)
          ∙ sym (spawner_counted h giver r)

      counts_put : (j r : ℕ) → behind j r ≡ put before m p (Some e) j r
      counts_put = put_is before behind m p (Some e) (spawned_counts h giver sp to p ∙ puts.there) there
        where
          there : (j r : ℕ) → Elsewhere j r m p → behind j r ≡ before j r
          there =
              of_slots n m (λ j. (r : ℕ) → Elsewhere j r m p → behind j r ≡ before j r)
              (λ r ne. own_counts r)
              (λ r ne. spawned_counts h giver sp to r ∙ given_row r (ne refl) ∙ sym (spawned_counted h giver r))
              (λ j other apart r ne. others_spawning h giver sp to j other
              (λ live. (others_alike (slot_at s j).directory
              (λ same. apart (h.in_order.spaces.apart j m live (spawned_lives h giver) same))).rows) r)

      pub gives_child : PutsRow names names s.spaces.pages a.shared sp.pages a.shared (things_in s a) a.next_name a.next_name
          (logical s.spaces s.environments.slots) (id % NENV) p (Some e) → StandsFor names (with_extra (with_spaces s sp) n (spawn_words to)) a
      gives_child row = gives_by_rows (rows_same (put before m p (Some e)) behind counts_put (rows_put (rows_stand h) row))
