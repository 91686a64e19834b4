-- Behind the step of spawn that makes its child the kernel's state stands for the abstract one behind its own: the child's slot is taken, and its parent stands
-- where
-- it is about to give it its image, of which the child has nothing yet.
use Rattle.std.proofs.Common.{◌≡◌, ◌≢◌, ◌∙◌, ◌==◌, ◌&&◌, ◌+◌, ◌*◌, ◌%◌, ◌<◌, ◌≤◌, ℕ, Bool, true, false, not, List, [], ◌∷◌}
use Rattle.std.proofs.Common.{Option, Some, None, is_some, refl, sym, ap, subst, arith}
use Rattle.std.proofs.lemmas.Bool.{false≢true}
use Rattle.std.proofs.lemmas.Bool.Decides.{nat_tests}
use Rattle.std.proofs.lemmas.Option.{none-some, same_Some}
use Rattle.jos_base.specs.Counting.{page_count}
use Rattle.jos_base.specs.declared.numbers.TheConstants.{FDTABLE, NENV}
use Rattle.jos_base.specs.declared.registers.Regs.{Regs}
use Rattle.jos_base.specs.Environments.{Slot, is_live as is_live_slot, is_running, next_id}
use Rattle.jos_base.specs.KernelState.{KernelState, slot_at, with_extra, with_slot_at}
use Rattle.jos_base.specs.Reach.{Entry}
use Rattle.jos_base.specs.SpacesState.{SpacesState, Region, Use, directory, free as unused, own_count, page as as_page}
use Rattle.jos_base.specs.Words.{page_number, upd}
use Rattle.lib_os.specs.declared.numbers.TheConstants.{DESCRIPTORS}
use Rattle.lib_os.specs.declared.place.Place.{Place}
use Rattle.lib_os.specs.declared.place.Place.TheVariants as place
use Rattle.lib_os.specs.declared.place.Step.TheVariants as step
use Rattle.lib_os.specs.declared.service.Service.TheVariants as service
use Rattle.lib_os.specs.AbstractState.{AbstractState, AbstractSlot, Born, unborn, born, is_live, with_slot}
use Rattle.lib_os.specs.Answers.{at_stage}
use Rattle.lib_os.specs.DescriptorPages.{lasting_words, lock_of}
use Rattle.lib_os.specs.InOrder.{IsInOrder, AreFree}
use Rattle.lib_os.specs.PipeEnds.{EndsStandAt, LocksStand, locked_at}
use Rattle.lib_os.specs.Places.{place_of}
use Rattle.lib_os.specs.Rows.{Names, EntryRow, rows_of, counted, logical, logical_by, is_clients, is_of_descriptor, pipe_page}
use Rattle.lib_os.specs.StandsFor.{StandsFor, StandsForSlot, StandsForBorn, StandsForUnborn, StandsAt, AreSlots, IsBorneBy}
use Rattle.lib_os.specs.StandsFor.{view_of, borne_in, things_in}
use Rattle.lib_os.proofs.Children.{borne_moved, same_child, of_parent}
use Rattle.lib_os.proofs.EntriesStand.{seen_none, RowsStand, rows_stand, rows_same, rows_bytes, rows_turned}
use Rattle.lib_os.proofs.Forked.{child_slot, space_begun, next_id_names, next_id_small}
use Rattle.lib_os.proofs.Logical.{clients_so, logical_live, logical_some, logical_alike}
use Rattle.lib_os.proofs.PipesStand.{calm_locked, calm_places, descriptors_turned, ends_moved, ends_stay, is_calm, locks_kept}
use Rattle.lib_os.proofs.Releasing.{row_entry}
use Rattle.lib_os.proofs.Serving.{IsServed, library_moved, plain_copy, plain_upcall, words_of_none}
use Rattle.lib_os.proofs.SlotsStand.{CountsKept, SeenAlike, all_counts, but_pipes, slot_stands, born_stands, live_stands, ids_stand, born_live}
use Rattle.lib_os.proofs.StatesStand.{Settles, slot_in_order, tabled_set, born_not_first, clients_live, ends_at, server_alike, server_same}
use Rattle.lib_os.proofs.StatesStand.{old_gone, old_set, turns_set, turns_settle}
use Rattle.lib_os.proofs.WordsTell.{is_in_handler}
use Rattle.jos_base.proofs.Maps.{upd-at, upd-other, upd-both}
use Rattle.std.proofs.Common.{◌++◌, ◌||◌, if◌then◌else◌}
use Rattle.std.specs.Prelude.{nat_le, nat_lt, slice_index}
use Rattle.jos_base.specs.Below.{some_below}
use Rattle.jos_elf.specs.Headers.{entry_count_of}
use Rattle.jos_elf.specs.Pages.{any_writes, page_bytes, stack_page}
use Rattle.lib_os.specs.declared.spawn_steps.SpawnStep.{SpawnStep}
use Rattle.lib_os.specs.AbstractSpawn.{all_of, child_begun, under_shared, with_spawning}
use Rattle.lib_os.specs.AbstractState.{ImageRead, loading, own, taking}
use Rattle.lib_os.specs.LibraryPages.{View}
use Rattle.lib_os.specs.SpawnedChild.{IsProgress, Loads, child_page, fresh, header_touches, image_page, is_loading, is_settled_page, no_page_passed, own_page}
use Rattle.lib_os.specs.SpawnedChild.{segments_filled}
use Rattle.lib_os.specs.SpawnedChild.{spawning_child}
use Rattle.lib_os.specs.SpawnPages.{is_childs}
use Rattle.lib_os.specs.StandsAtSpawn.{StandsAtSpawn}
use Rattle.lib_os.specs.StandsFor.{by_spawn}
use Rattle.lib_os.proofs.ForkBegun.{tabled_taken}
use Rattle.lib_os.proofs.GoesDown.{programs_below}
use Rattle.lib_os.proofs.KeptPages.{unborne_childs}
use Rattle.lib_os.proofs.Serving.{holds_page, plain_working}
use Rattle.lib_os.proofs.SpawnedGoes.{HasOfImage, spawned_child, went_place}
use Rattle.lib_os.proofs.SpawnGathers.{spawn_found}
use Rattle.lib_os.proofs.SpawnOwnPages.{spawn_there, spawn_words, spawns_at}

-- ---- a child that has nothing yet

-- entries count as they stand
uncounted : (path argv : ℕ) (at : SpawnStep) → ((p : ℕ) → is_childs at p ≡ false) → (row : EntryRow) (p : ℕ) → counted (spawns_at path argv at) row p ≡ row p
unfolding counted
uncounted path argv at off row p = ap (λ (c : Bool). if c then None else row p) (off p)

guest_counts : (row : EntryRow) (p : ℕ) → counted place.Guest row p ≡ row p
unfolding counted
guest_counts row p = refl

-- no page of a descriptor is passed on
none_handed : (p : ℕ) → is_of_descriptor p ≡ true → nat_le no_page_passed p ≡ true → ⊥
none_handed p is passed =
    let below : p < page_number FDTABLE + 2 * DESCRIPTORS = grind (arith, nat_tests, is) in
    let above : no_page_passed ≤ p = grind (arith, nat_tests, passed) in
    omega (arith, below, above)

-- and it has no page
nothing_yet : (b : Born) (image : ImageRead) (file : List ℕ) (p : ℕ) → p < no_page_passed → child_page b image fresh file p ≡ None
unfolding some_below
nothing_yet b image file p lower =
    let off : nat_le no_page_passed p ≡ false = grind (arith, nat_tests, lower) in
    ap (λ (c : Bool). if c then under_shared (b.memory p) (own_page image fresh file p) else own_page image fresh file p) off
    ∙ by_stack (p == stack_page)
  where
    none_below : nat_lt p 0 ≡ false
    none_below = grind (arith, nat_tests)

    and_none : (c : Bool) → (c && false) ≡ false
    and_none true = refl
    and_none false = refl

    none_placed : image_page image fresh file p ≡ None
    none_placed =
        ap (λ (c : Bool). if header_touches image p 0 && c
        then Some (own (page_bytes (segments_filled image fresh) file p) (any_writes p (segments_filled image fresh) || not (is_settled_page image fresh p)))
        else None) none_below
        ∙ ap (λ (c : Bool). if c
        then Some (own (page_bytes (segments_filled image fresh) file p) (any_writes p (segments_filled image fresh) || not (is_settled_page image fresh p)))
        else None) (and_none (header_touches image p 0))

    by_stack : (c : Bool) → (if c then None else image_page image fresh file p) ≡ None
    by_stack true = refl
    by_stack false = none_placed

module _ {names : Names} {s : KernelState} {a : AbstractState} (h : StandsFor names s a) (n path argv : ℕ) (from : SpawnStep)
    (stands : place_of (slot_at s n) ≡ spawns_at path argv from) (unborne : spawning_child from ≡ None) (m : ℕ) (slots : List ℕ)
    (slots_are : s.environments.free_slots ≡ m ∷ slots) (f : ℕ) (frames : List ℕ) (frames_are : s.spaces.free ≡ f ∷ frames)
    (nobody : is_live_slot (slot_at s m) ≡ false) (to : SpawnStep) (bears_it : spawning_child to ≡ Some (next_id (slot_at s m).id m))
    (held : holds_page (spawns_at path argv from) ≡ holds_page (spawns_at path argv to)) (none : (p : ℕ) → is_childs to p ≡ false)
    (fd : ℕ) (image : ImageRead) where
  abbrev v : IsServed names s a n (service.Spawn path argv) (step.Spawning from)
  v = spawn_there h n path argv from stands

  abbrev b : Born
  b = v.b

  abbrev regs : Regs
  regs = (slot_at s n).registers

  abbrev id : ℕ
  id = next_id (slot_at s m).id m

  abbrev child : Slot
  child = child_slot id (slot_at s n).id regs f

  abbrev parent : Slot
  parent = record (slot_at s n) { extra = spawn_words to }

  abbrev sp : SpacesState
  sp = space_begun s.spaces f frames

  -- behind the call, and behind the step
  abbrev mid : KernelState
  mid = record s { spaces = sp; environments = record { slots = upd s.environments.slots m child; free_slots = slots } }

  abbrev slots_after : ℕ → Slot
  slots_after = upd (upd s.environments.slots m child) n parent

  abbrev bearer : Born
  bearer = spawn_found b path argv (loading fd image m []) (taking [])

  abbrev abstract_after : ℕ → AbstractSlot
  abstract_after = upd (upd a.slots m (unborn id b.id)) n (born bearer)

  abbrev forked : AbstractState
  forked = record a { slots = abstract_after; free_slots = slots }

  live : is_live_slot (slot_at s n) ≡ true
  live = born_live v.own

  pub maker_apart : m ≢ n
  maker_apart same = false≢true (sym nobody ∙ ap (λ (j : ℕ). is_live_slot (slot_at s j)) same ∙ live)

  listed : AreSlots (m ∷ slots)
  listed = subst (λ (l : List ℕ). AreSlots l) slots_are h.free_slots.within

  below : m < NENV
  below = let all = listed in all.0

  names_it : id % NENV ≡ m
  names_it = next_id_names (slot_at s m).id m below

  -- the abstract system's step
  pub child_begun_is : child_begun a n b (service.Spawn path argv) fd image a.free_slots ≡ forked
  child_begun_is =
      ap (λ (l : List ℕ). child_begun a n b (service.Spawn path argv) fd image l) (sym h.free_slots.same ∙ slots_are)
      ∙ ap (λ (i : ℕ). at_stage (record (with_slot a m (unborn (next_id i m) b.id)) { free_slots = slots }) n
      (with_spawning b (loading fd image m [])) (service.Spawn path argv) (taking [])) (sym (ids_stand h m))

  -- ---- spaces

  frame_free : s.spaces.uses f ≡ unused
  frame_free = let all = subst (AreFree s.spaces.uses) frames_are h.in_order.frames.free_list in all.0

  no_directory : s.spaces.uses f ≢ directory
  no_directory is = let contradiction : ◌≡◌ {A = Use} unused directory = sym frame_free ∙ is in absurd cc

  rows_kept : (d : ℕ) → rows_of sp d ≡ rows_of s.spaces d
  unfolding rows_of
  rows_kept d = refl

  -- the child's is no page's
  frame_apart : (d p : ℕ) (x : Entry) → rows_of s.spaces d p ≡ Some x → x.frame ≢ f
  frame_apart d p x is same =
      let e = row_entry s.spaces d p x is in
      let contradiction : ◌≡◌ {A = Use} as_page unused =
      sym (h.in_order.frames.pages d p e.0 e.1) ∙ ap s.spaces.uses (e.2 ∙ same) ∙ frame_free in absurd cc

  page_kept : (d p : ℕ) (x : Entry) → rows_of s.spaces d p ≡ Some x → sp.pages x.frame ≡ s.spaces.pages x.frame
  page_kept d p x is = upd-other s.spaces.pages f [] x.frame (frame_apart d p x is)

  -- each page is mapped as often
  mapped_as_often : (k : Slot) → CountsKept s.spaces sp k
  mapped_as_often k piped runs =
      all_counts (view_of s.spaces k.directory) (view_of sp k.directory) (λ p x is. ap (λ (u : Use). page_count s.spaces.entries x.frame + own_count u)
      (upd-other s.spaces.uses f directory x.frame (frame_apart k.directory p x is)))

  seen : (d : ℕ) → SeenAlike names names s.spaces sp d
  seen d = record {
    rows = rows_kept d;
    bytes = λ p x is own_page. page_kept d p x is;
    named_so = λ p x is shared_page. refl;
    devices = λ p x descriptor is shared_page. ap lasting_words (page_kept d p x is);
    pipes = λ p x pipes is shared_page. page_kept d p x is;
    regions = λ r. refl;
  }

  -- the child has no page and no table
  no_row : (p : ℕ) → rows_of sp f p ≡ None
  no_row p = ap (λ (row : EntryRow). row p) (rows_kept f) ∙ by_row (rows_of s.spaces f p) refl
    where
      by_row : (o : Option Entry) → rows_of s.spaces f p ≡ o → o ≡ None
      by_row None is = refl
      by_row (Some x) is = let e = row_entry s.spaces f p x is in absurd (no_directory (h.in_order.frames.owners f p e.0 e.1))

  no_table : (r : ℕ) → is_some (sp.regions f r) ≡ false
  no_table r = by_region (s.spaces.regions f r) refl
    where
      by_region : (o : Option Region) → s.spaces.regions f r ≡ o → is_some o ≡ false
      by_region None is = refl
      by_region (Some region) is = absurd (no_directory (h.in_order.frames.region_owners f r region is))

  -- ---- slots

  parent_here : slots_after n ≡ parent
  parent_here = upd-at (upd s.environments.slots m child) n parent

  child_here : slots_after m ≡ child
  child_here = upd-other (upd s.environments.slots m child) n parent m maker_apart ∙ upd-at s.environments.slots m child

  slots_else : (j : ℕ) → j ≢ n → j ≢ m → slots_after j ≡ slot_at s j
  slots_else j ne other = upd-other (upd s.environments.slots m child) n parent j ne ∙ upd-other s.environments.slots m child j other

  bearer_here : abstract_after n ≡ born bearer
  bearer_here = upd-at (upd a.slots m (unborn id b.id)) n (born bearer)

  unborn_here : abstract_after m ≡ unborn id b.id
  unborn_here = upd-other (upd a.slots m (unborn id b.id)) n (born bearer) m maker_apart ∙ upd-at a.slots m (unborn id b.id)

  abstract_else : (j : ℕ) → j ≢ n → j ≢ m → abstract_after j ≡ a.slots j
  abstract_else j ne other = upd-other (upd a.slots m (unborn id b.id)) n (born bearer) j ne ∙ upd-other a.slots m (unborn id b.id) j other

  nobody_there : is_live (a.slots m) ≡ false
  nobody_there = sym (live_stands h m) ∙ nobody

  -- slot 0 is the server's
  not_first : 0 ≢ m
  not_first same =
      false≢true (sym nobody_there ∙ ap (λ (j : ℕ). is_live (a.slots j)) (sym same) ∙ ap (λ (x : AbstractSlot). is_live x) h.first)

  server_here : slots_after 0 ≡ slot_at s 0
  server_here = slots_else 0 (born_not_first h n b v.is) not_first

  nobody_counts : is_clients m (slot_at s m) ≡ false
  nobody_counts = ap (λ (c : Bool). not (m == 0) && c) nobody ∙ never (not (m == 0))
    where
      never : (c : Bool) → c && false ≡ false
      never true = refl
      never false = refl

  there : place_of parent ≡ spawns_at path argv to
  there = went_place (slot_at s n) path argv from to stands

  child_place : place_of child ≡ place.Guest
  child_place = words_of_none child.registers child.extra v.outside refl

  its_own : StandsForUnborn child id b.id
  its_own = record {
    id_is = refl;
    id_small = let small = next_id_small (slot_at s m).id m below in omega (arith, small);
    parent_is = v.own.id;
    env_type = refl;
    status = refl;
    silent = refl;
    words = refl;
    stack = v.outside;
  }

  abbrev SoAfter : Type 0
  SoAfter =
      (w : View) → w.row ≡ rows_of s.spaces (slot_at s n).directory → StandsAtSpawn w (slot_at s n) b path argv from →
      StandsAtSpawn w parent bearer path argv to

  module _ (fresh_so : IsProgress (entry_count_of (slice_index image.header)) to fresh) (so : SoAfter) where
    mine : StandsForBorn names sp parent bearer
    mine =
        let own : StandsForBorn names sp (slot_at s n) b = born_stands (slot_at s n) b (seen (slot_at s n).directory) (mapped_as_often (slot_at s n)) v.own in
        let plain : is_in_handler (place_of (slot_at s n)) ≡ false = ap is_in_handler stands in
        let plain_after : is_in_handler (place_of parent) ≡ false = ap is_in_handler there in
        record {
          id = own.id;
          id_small = own.id_small;
          parent = own.parent;
          env_type = own.env_type;
          runs = own.runs;
          upcall = own.upcall ∙ plain_upcall (place_of (slot_at s n)) plain ∙ sym (plain_upcall (place_of parent) plain_after);
          descriptors = descriptors_turned names sp (slot_at s n).directory (place_of (slot_at s n)) (place_of parent) b.descriptors (ap is_calm stands)
              (ap is_calm there) own.descriptors;
          memory = own.memory;
          library = library_moved (place_of (slot_at s n)) (place_of parent) (slot_at s n).extra parent.extra (rows_of sp (slot_at s n).directory)
              (plain_copy (place_of (slot_at s n)) plain ∙ sym (plain_copy (place_of parent) plain_after))
              (plain_working (place_of (slot_at s n)) (slot_at s n).extra plain ∙ ap holds_page stands ∙ held ∙ sym (ap holds_page there)
              ∙ sym (plain_working (place_of parent) parent.extra plain_after)) own.library;
          regions_have = own.regions_have;
          regions_only = own.regions_only;
          stack = own.stack;
          flags = own.flags;
          at = subst (λ (p : Place). StandsAt p (view_of sp (slot_at s n).directory) parent bearer) (sym there)
              (so (view_of sp (slot_at s n).directory) (rows_kept (slot_at s n).directory)
              (subst (λ (p : Place). StandsAt p (view_of sp (slot_at s n).directory) (slot_at s n) b) stands own.at));
        }

    slots_stand : (j : ℕ) → StandsForSlot names sp (slots_after j) (abstract_after j)
    slots_stand =
        upd-both (λ j (x : Slot) (y : AbstractSlot). StandsForSlot names sp x y) (upd s.environments.slots m child) (upd a.slots m (unborn id b.id))
        n parent (born bearer) mine
        (λ j ne. upd-both (λ j (x : Slot) (y : AbstractSlot). StandsForSlot names sp x y) s.environments.slots a.slots m child (unborn id b.id) its_own
        (λ q other. slot_stands names names s.spaces sp (slot_at s q) (a.slots q) (h.slots q) (λ lives. seen (slot_at s q).directory)
        (mapped_as_often (slot_at s q))) j)

    -- ---- entries

    child_counts : (p : ℕ) → logical sp slots_after m p ≡ None
    child_counts p =
        logical_live sp slots_after m (ap (λ (x : Slot). is_clients m x) child_here ∙ clients_so m child not_first refl) p
        ∙ (λ i. counted (place_of (child_here i)) (rows_of sp (child_here i).directory) p)
        ∙ ap (λ (at : Place). counted at (rows_of sp f) p) child_place
        ∙ guest_counts (rows_of sp f) p
        ∙ no_row p

    rows_count : (j p : ℕ) → logical sp slots_after j p ≡ logical s.spaces s.environments.slots j p
    rows_count j p = by_parent (j == n) refl
      where
        here : logical sp slots_after n p ≡ logical s.spaces s.environments.slots n p
        here =
            let d = (slot_at s n).directory in
            logical_live sp slots_after n (ap (λ (x : Slot). is_clients n x) parent_here ∙ clients_live h n b v.is) p
            ∙ (λ i. counted (place_of (parent_here i)) (rows_of sp (parent_here i).directory) p)
            ∙ ap (λ (at : Place). counted at (rows_of sp d) p) there
            ∙ uncounted path argv to none (rows_of sp d) p
            ∙ ap (λ (row : EntryRow). row p) (rows_kept d)
            ∙ sym (uncounted path argv from (λ q. unborne_childs from unborne q) (rows_of s.spaces d) p)
            ∙ sym (ap (λ (at : Place). counted at (rows_of s.spaces d) p) stands)
            ∙ sym (logical_live s.spaces s.environments.slots n (clients_live h n b v.is) p)

        its : logical sp slots_after m p ≡ logical s.spaces s.environments.slots m p
        its =
            child_counts p
            ∙ sym (ap (λ (c : Bool). logical_by c (counted (place_of (slot_at s m)) (rows_of s.spaces (slot_at s m).directory)) p) nobody_counts)

        by_child : j ≢ n → (c : Bool) → (j == m) ≡ c → logical sp slots_after j p ≡ logical s.spaces s.environments.slots j p
        by_child ne true test =
            let same : m ≡ j = grind (arith, nat_tests) in
            subst (λ (q : ℕ). logical sp slots_after q p ≡ logical s.spaces s.environments.slots q p) same its
        by_child ne false test =
            let other : j ≢ m = grind (arith, nat_tests) in
            let slot = slots_else j ne other in
            logical_alike s.spaces sp s.environments.slots slots_after j (ap (λ (x : Slot). is_live_slot x) slot) (ap (λ (x : Slot). place_of x) slot)
            (λ lives. ap (λ (x : Slot). rows_of sp x.directory) slot ∙ rows_kept (slot_at s j).directory) p

        by_parent : (c : Bool) → (j == n) ≡ c → logical sp slots_after j p ≡ logical s.spaces s.environments.slots j p
        by_parent true test =
            let same : n ≡ j = grind (arith, nat_tests) in
            subst (λ (q : ℕ). logical sp slots_after q p ≡ logical s.spaces s.environments.slots q p) same here
        by_parent false test = by_child (grind (arith, nat_tests)) (j == m) refl

    rows : RowsStand names sp.pages a.shared (things_in s a) a.next_name (logical sp slots_after)
    rows =
        rows_same (logical s.spaces s.environments.slots) (logical sp slots_after) rows_count
        (rows_bytes sp.pages (λ j p x is.
        let found = (logical_some s.spaces s.environments.slots j p x is).1 in
        subst (λ (g : ℕ). sp.pages g ≡ s.spaces.pages g) found.frame (page_kept (slot_at s j).directory p found.entry found.stands)) (rows_stand h))

    -- ---- children

    its_child : HasOfImage names sp parent bearer to child id
    its_child = record {
      image = image;
      file = all_of [] ++ [];
      loads = subst (λ (q : ℕ). Loads (id % NENV) image (Some (loading fd image q [])) [] (all_of [] ++ [])) names_it (is_loading fd [] []);
      progress = fresh;
      is_so = fresh_so;
      registers = refl;
      upcall = refl;
      memory = λ p inside. seen_none names sp f p (no_row p) ∙ sym (nothing_yet bearer image (all_of [] ++ []) p (programs_below p inside));
      uncopied = λ p x inside is own_page. absurd (none-some x (sym (no_row p) ∙ is));
      handed = λ p is passed. absurd (none_handed p is passed);
      rest = λ p is off. no_row p;
      handler_stack = λ has. absurd (false≢true has);
      no_handler_stack = λ none. no_row _;
      none = λ p outside no_descriptor other. no_row p;
      tables = λ r table. absurd (false≢true (sym (no_table r) ∙ table));
      here = λ p is. absurd (false≢true (sym (none p) ∙ is));
    }

    named : b.id % NENV ≡ n
    named = ap (λ (q : ℕ). q % NENV) (sym v.own.id) ∙ h.tabled.ids n live

    abbrev Bears : ℕ → ℕ → ℕ → Type 0
    Bears j own_id parent_id = IsBorneBy names sp (slots_after (parent_id % NENV)) (abstract_after (parent_id % NENV)) (slots_after j) own_id parent_id

    its_borne : Bears m id b.id
    its_borne =
        subst (λ (q : ℕ). IsBorneBy names sp (slots_after q) (abstract_after q) (slots_after m) id b.id) (sym named)
        (subst (λ (x : Slot). IsBorneBy names sp (slots_after n) (abstract_after n) x id b.id) (sym child_here)
        (subst (λ (x : Slot). IsBorneBy names sp x (abstract_after n) child id b.id) (sym parent_here)
        (by_spawn (spawned_child id path argv bearer_here there bears_it its_child))))

    others_borne : (j own_id parent_id : ℕ) → j ≢ n → j ≢ m → a.slots j ≡ unborn own_id parent_id → Bears j own_id parent_id
    others_borne j own_id parent_id ne other is =
        let was = h.children.borne j own_id parent_id is in
        let parents = of_parent was in
        let p = parent_id % NENV in
        let not_parent : p ≢ n = λ same. none-some own_id
        (sym (ap borne_in stands ∙ unborne) ∙ ap (λ (q : ℕ). borne_in (place_of (slot_at s q))) (sym same) ∙ parents.bears) in
        let not_child : p ≢ m = λ same.
        false≢true (sym nobody_there ∙ ap (λ (q : ℕ). is_live (a.slots q)) (sym same) ∙ ap (λ (x : AbstractSlot). is_live x) parents.born_by) in
        let its_parent = slots_else p not_parent not_child in
        borne_moved (slots_after p) (abstract_after p) (slots_after j) (ap (λ (x : Slot). place_of x) its_parent)
        (ap (λ (x : Slot). x.registers) its_parent) (abstract_else p not_parent not_child)
        (λ q. ap (λ (x : Slot). rows_of sp x.directory q) its_parent ∙ ap (λ (row : EntryRow). row q) (rows_kept (slot_at s p).directory))
        (same_child (slot_at s j) (slots_after j) (slots_else j ne other)) (seen (slot_at s j).directory) was

    same_unborn : (x y z w : ℕ) → unborn x y ≡ unborn z w → (x ≡ z) × (y ≡ w)
    same_unborn x y z w same = (cc, cc)

    borne_still : (j own_id parent_id : ℕ) → abstract_after j ≡ unborn own_id parent_id → Bears j own_id parent_id
    borne_still j own_id parent_id is = by_parent (j == n) refl
      where
        by_child : j ≢ n → (c : Bool) → (j == m) ≡ c → Bears j own_id parent_id
        by_child ne true test =
            let here : m ≡ j = grind (arith, nat_tests) in
            let same = same_unborn id b.id own_id parent_id (sym unborn_here ∙ ap abstract_after here ∙ is) in
            subst (λ (q : ℕ). Bears q own_id parent_id) here
            (subst (λ (q : ℕ). Bears m q parent_id) same.0 (subst (λ (q : ℕ). Bears m id q) same.1 its_borne))
        by_child ne false test =
            let other : j ≢ m = grind (arith, nat_tests) in
            others_borne j own_id parent_id ne other (sym (abstract_else j ne other) ∙ is)

        by_parent : (c : Bool) → (j == n) ≡ c → Bears j own_id parent_id
        by_parent true test =
            let here : n ≡ j = grind (arith, nat_tests) in
            let contradiction : born bearer ≡ unborn own_id parent_id = sym bearer_here ∙ ap abstract_after here ∙ is in absurd cc
        by_parent false test = by_child (grind (arith, nat_tests)) (j == m) refl

    same_born : (x y : Born) → born x ≡ born y → x ≡ y
    same_born x y same = cc

    have_still : (q own_id : ℕ) (c : Born) → abstract_after q ≡ born c → borne_in (place_of (slots_after q)) ≡ Some own_id →
        abstract_after (own_id % NENV) ≡ unborn own_id c.id
    have_still q own_id c is bears = by_parent (q == n) refl
      where
        elsewhere : q ≢ n → q ≢ m → abstract_after (own_id % NENV) ≡ unborn own_id c.id
        elsewhere ne other =
            let was : a.slots (own_id % NENV) ≡ unborn own_id c.id =
            h.children.have q own_id c (sym (abstract_else q ne other) ∙ is)
            (ap (λ (x : Slot). borne_in (place_of x)) (sym (slots_else q ne other)) ∙ bears) in
            let not_parent : own_id % NENV ≢ n = λ same.
            let contradiction : born b ≡ unborn own_id c.id = sym v.is ∙ ap a.slots (sym same) ∙ was in absurd cc in
            let not_child : own_id % NENV ≢ m = λ same.
            false≢true (sym nobody_there ∙ ap (λ (j : ℕ). is_live (a.slots j)) (sym same) ∙ ap (λ (x : AbstractSlot). is_live x) was) in
            abstract_else (own_id % NENV) not_parent not_child ∙ was

        by_child : q ≢ n → (t : Bool) → (q == m) ≡ t → abstract_after (own_id % NENV) ≡ unborn own_id c.id
        by_child ne true test =
            let here : m ≡ q = grind (arith, nat_tests) in
            let contradiction : unborn id b.id ≡ born c = sym unborn_here ∙ ap abstract_after here ∙ is in absurd cc
        by_child ne false test = elsewhere ne (grind (arith, nat_tests))

        by_parent : (t : Bool) → (q == n) ≡ t → abstract_after (own_id % NENV) ≡ unborn own_id c.id
        by_parent true test =
            let here : n ≡ q = grind (arith, nat_tests) in
            let same : bearer ≡ c = same_born bearer c (sym bearer_here ∙ ap abstract_after here ∙ is) in
            let it_bears : borne_in (place_of (slots_after n)) ≡ Some id = ap (λ (x : Slot). borne_in (place_of x)) parent_here ∙ ap borne_in there
            ∙ bears_it in
            let one : id ≡ own_id = same_Some id own_id (sym it_bears ∙ ap (λ (j : ℕ). borne_in (place_of (slots_after j))) here ∙ bears) in
            subst (λ (j : ℕ). abstract_after (j % NENV) ≡ unborn j c.id) one
            (ap abstract_after names_it ∙ unborn_here ∙ ap (λ (x : Born). unborn id x.id) same)
        by_parent false test = by_child (grind (arith, nat_tests)) (q == m) refl

    -- ---- ends of pipes, and locks

    calm : is_calm (place_of (slot_at s n)) ≡ true
    calm = ap is_calm stands

    calm_after : is_calm (place_of parent) ≡ true
    calm_after = ap is_calm there

    ends : (j : ℕ) → EndsStandAt names a.objects (place_of (slots_after j)) (rows_of sp (slots_after j).directory) (abstract_after j)
    ends =
        upd-both (λ j (x : Slot) (y : AbstractSlot). EndsStandAt names a.objects (place_of x) (rows_of sp x.directory) y)
        (upd s.environments.slots m child) (upd a.slots m (unborn id b.id)) n parent (born bearer)
        (ends_moved (calm_places calm calm_after) (λ fd. refl) (λ fd name is. refl)
        (λ fd below. ap (λ (row : EntryRow). row (pipe_page fd)) (rows_kept (slot_at s n).directory)) (λ fd x below is. refl) (ends_at h n b v.is))
        (λ j ne. upd-both (λ j (x : Slot) (y : AbstractSlot). EndsStandAt names a.objects (place_of x) (rows_of sp x.directory) y)
        s.environments.slots a.slots m child (unborn id b.id) tt
        (λ q other. ends_stay names names s.spaces sp a.objects (slot_at s q) (a.slots q) (h.slots q)
        (λ lives. but_pipes (seen (slot_at s q).directory)) (h.ends q)) j)

    -- whoever has a page that counts is another than the child, and stands where the same lock is held
    same_locked : (j p : ℕ) (x : Entry) → logical sp slots_after j p ≡ Some x → locked_at (place_of (slots_after j)) ≡ locked_at (place_of (slot_at s j))
    same_locked j p x is = by_parent (j == n) refl
      where
        by_child : j ≢ n → (c : Bool) → (j == m) ≡ c → locked_at (place_of (slots_after j)) ≡ locked_at (place_of (slot_at s j))
        by_child ne true test =
            let same : m ≡ j = grind (arith, nat_tests) in
            absurd (none-some x (sym (child_counts p) ∙ ap (λ (q : ℕ). logical sp slots_after q p) same ∙ is))
        by_child ne false test = ap (λ (y : Slot). locked_at (place_of y)) (slots_else j ne (grind (arith, nat_tests)))

        by_parent : (c : Bool) → (j == n) ≡ c → locked_at (place_of (slots_after j)) ≡ locked_at (place_of (slot_at s j))
        by_parent true test =
            let same : n ≡ j = grind (arith, nat_tests) in
            subst (λ (q : ℕ). locked_at (place_of (slots_after q)) ≡ locked_at (place_of (slot_at s q))) same
            (ap (λ (y : Slot). locked_at (place_of y)) parent_here ∙ calm_locked (place_of parent) calm_after
            ∙ sym (calm_locked (place_of (slot_at s n)) calm))
        by_parent false test = by_child (grind (arith, nat_tests)) (j == m) refl

    locks : LocksStand sp.pages slots_after (logical sp slots_after)
    locks = locks_kept (record {
      back = λ j fd x below locked is. (sym (same_locked j (pipe_page fd) x is) ∙ locked, sym (rows_count j (pipe_page fd)) ∙ is);
      forth = λ j fd x below locked is.
          let there = rows_count j (pipe_page fd) ∙ is in (same_locked j (pipe_page fd) x there ∙ locked, there);
      were = λ j fd x below is shared_page. record {
        slot = j;
        fd = fd;
        below = below;
        entry = x;
        stands = sym (rows_count j (pipe_page fd)) ∙ is;
        shared = shared_page;
        same = refl;
      };
      bytes = λ j fd x below is shared_page.
          let found = (logical_some s.spaces s.environments.slots j (pipe_page fd) x is).1 in
          subst (λ (g : ℕ). lock_of (sp.pages g) ≡ lock_of (s.spaces.pages g)) found.frame
          (ap (λ (page : List ℕ). lock_of page) (page_kept (slot_at s j).directory (pipe_page fd) found.entry found.stands));
    }) h.locks

    -- ---- the whole

    module _ (order : IsInOrder mid) where
      caller_is : slot_at mid n ≡ slot_at s n
      caller_is = upd-other s.environments.slots m child n (λ same. maker_apart (sym same))

      turned : RowsStand names sp.pages a.shared (things_in (with_slot_at mid n parent) a) a.next_name (logical sp slots_after)
      turned = rows_turned (ap (λ (x : Slot). rows_of sp x.directory) server_here ∙ rows_kept (slot_at s 0).directory) rows

      settles : Settles (slot_at mid n) parent
      settles = record {
        id = ap (λ (x : Slot). x.id) (sym caller_is);
        env_type = ap (λ (x : Slot). x.env_type) (sym caller_is);
        turns = ap (λ (x : Slot). x.runs) (sym caller_is);
        calm = λ runs. ap (λ (x : Slot). is_running x.status) caller_is ∙ runs;
      }

      stands_with : StandsFor names (with_slot_at mid n parent) forked
      stands_with = record {
        slots = slots_stand;
        children = record { borne = borne_still; have = have_still };
        apart = rows.apart;
        named = turned.named;
        users = rows.users;
        whole = rows.whole;
        beside = turned.beside;
        ends = ends;
        locks = locks;
        runs = turns_settle (upd s.environments.slots m child) n parent (turns_set s.environments.slots m child h.runs (omega arith)) settles;
        old = old_set (old_gone h.old m (unborn id b.id) (λ c is. let contradiction : unborn id b.id ≡ born c = is in absurd cc)) n bearer
            (λ fd name names_it. h.old n fd name b v.is names_it);
        free_slots = record { same = refl; within = listed.1 };
        first =
            upd-other (upd a.slots m (unborn id b.id)) n (born bearer) 0 (born_not_first h n b v.is)
            ∙ upd-other a.slots m (unborn id b.id) 0 not_first
            ∙ h.first;
        server = server_same server_here (server_alike (seen (slot_at s 0).directory) h.server);
        input = h.input;
        last = h.last;
        turns = h.turns;
        tabled = tabled_set (tabled_taken h.tabled m child names_it refl refl) n parent (ap (λ (x : Slot). is_live_slot x) caller_is ∙ live)
            settles;
        in_order = slot_in_order mid n parent (ap (λ (x : Slot). is_live_slot x) (sym caller_is)) (ap (λ (x : Slot). x.directory) (sym caller_is)) order;
      }

      pub child_begun_stands : StandsFor names (with_extra mid n (spawn_words to)) (child_begun a n b (service.Spawn path argv) fd image a.free_slots)
      child_begun_stands =
          subst (λ (z : AbstractState). StandsFor names (with_extra mid n (spawn_words to)) z) (sym child_begun_is)
          (subst (λ (x : Slot). StandsFor names (with_slot_at mid n (record x { extra = spawn_words to })) forked) (sym caller_is) stands_with)
