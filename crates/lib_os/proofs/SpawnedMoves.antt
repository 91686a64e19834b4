-- While spawn bears a child: the kernel's state goes on standing for the same abstract one where the slots and the spaces of the two change, and nothing is
-- seen of
-- anybody else.
use Rattle.std.proofs.Common.{◌≡◌, ◌≢◌, ◌∙◌, ◌<◌, ◌==◌, ◌%◌, ◌&&◌, ◌||◌, ℕ, Bool, true, false, not, List, Some, None, refl, sym, ap, subst, arith}
use Rattle.std.proofs.Common.{if◌then◌else◌}
use Rattle.std.specs.Prelude.{nat_le}
use Rattle.std.proofs.lemmas.Bool.Decides.{nat_tests}
use Rattle.std.proofs.lemmas.Option.{none-some, same_Some}
use Rattle.jos_base.specs.declared.environment.Status.{Status}
use Rattle.jos_base.specs.declared.numbers.TheConstants.{FIRST_ENV_ID, NENV}
use Rattle.jos_base.specs.Environments.{Slot, is_free, is_live as is_live_slot}
use Rattle.jos_base.specs.KernelState.{KernelState, slot_at, with_extra, with_slot_at, with_spaces}
use Rattle.jos_base.specs.Reach.{Entry}
use Rattle.jos_base.specs.SpacesState.{SpacesState}
use Rattle.jos_base.specs.Words.{page_number, upd}
use Rattle.lib_os.specs.declared.numbers.TheConstants.{DESCRIPTORS, PFTEMP, SPAWN_HERE, SPAWN_STACK}
use Rattle.lib_os.specs.declared.place.Place.{Place}
use Rattle.lib_os.specs.declared.place.Place.TheVariants as place
use Rattle.lib_os.specs.declared.spawn_steps.SpawnStep.{SpawnStep}
use Rattle.lib_os.specs.AbstractState.{AbstractState, AbstractSlot, Born, unborn, born, serving, is_live}
use Rattle.lib_os.specs.DescriptorPages.{lock_of}
use Rattle.lib_os.specs.InOrder.{IsInOrder}
use Rattle.lib_os.specs.PipeEnds.{EndsStandAt, LocksStand, locked_at}
use Rattle.lib_os.specs.Places.{place_of}
use Rattle.lib_os.specs.Rows.{EntryRow, Names, counted, descriptor_page, is_of_descriptor, is_pipe_page, is_shared, logical, pipe_page, rows_of}
use Rattle.lib_os.specs.SpawnedChild.{spawning_child}
use Rattle.lib_os.specs.SpawnPages.{has_given_stack, is_childs, keeps_here}
use Rattle.lib_os.specs.StandsFor.{StandsFor, StandsForSlot, StandsForBorn, StandsForUnborn, IsBorneBy, by_spawn, borne_in, things_in}
use Rattle.lib_os.proofs.Bearing.{of_slots, same_unborn}
use Rattle.lib_os.proofs.BearingCounts.{live_counts}
use Rattle.lib_os.proofs.Children.{same_child, borne_moved, of_parent}
use Rattle.lib_os.proofs.EntriesStand.{RowsStand, rows_turned}
use Rattle.lib_os.proofs.Logical.{counted_elsewhere, counted_plain, logical_alike, logical_live, logical_some}
use Rattle.lib_os.proofs.PipesStand.{IsPipeFrame, calm_locked, calm_places, ends_moved, ends_stay, is_calm, locks_kept}
use Rattle.lib_os.proofs.Serving.{words_of_none}
use Rattle.lib_os.proofs.Slots.{slot_back, upd-back}
use Rattle.lib_os.proofs.SlotsStand.{CountsKept, SeenAlike, but_pipes, slot_stands, live_stands, born_live}
use Rattle.lib_os.proofs.SpawnedGoes.{HasOfImage, IsSpawner, same_born, spawned_child, went_place}
use Rattle.lib_os.proofs.SpawnOwnPages.{spawn_there, spawn_words, spawns_at}
use Rattle.lib_os.proofs.StatesStand.{Settles, tabled_set, born_not_first, clients_live, ends_at, server_alike, server_same, slot_in_order, turns_settle}
use Rattle.jos_base.proofs.Maps.{upd-at, upd-other}

-- ---- pages of pipes

pipe_is : (fd : ℕ) → fd < DESCRIPTORS →
    (is_pipe_page (pipe_page fd) ≡ true) × (is_of_descriptor (pipe_page fd) ≡ true) × (pipe_page fd ≢ page_number PFTEMP)
pipe_is fd below = (grind (arith, nat_tests), grind (arith, nat_tests), (λ same. omega (arith, same)))

pub descriptor_page_is : (fd : ℕ) → fd < DESCRIPTORS → is_of_descriptor (descriptor_page fd) ≡ true
descriptor_page_is fd below = grind (arith, nat_tests)

-- a descriptor's page is none of the child's that stand here
pub descriptor_mine : (at : SpawnStep) (p : ℕ) → is_of_descriptor p ≡ true → is_childs at p ≡ false
descriptor_mine at p is =
    let here : (p == page_number SPAWN_HERE) ≡ false = grind (arith, nat_tests, is) in
    let stack : (p == page_number SPAWN_STACK) ≡ false = grind (arith, nat_tests, is) in
    (λ i. (here i && keeps_here at) || (stack i && has_given_stack at))

-- so that it counts as it stands
pub descriptor_counts : {names : Names} {s : KernelState} {a : AbstractState} (h : StandsFor names s a) (n path argv : ℕ) (at : SpawnStep)
    (stands : place_of (slot_at s n) ≡ spawns_at path argv at) (fd : ℕ) → fd < DESCRIPTORS →
    logical s.spaces s.environments.slots n (descriptor_page fd) ≡ rows_of s.spaces (slot_at s n).directory (descriptor_page fd)
descriptor_counts {s = s} h n path argv at stands fd below =
    let it = spawn_there h n path argv at stands in
    logical_live s.spaces s.environments.slots n (clients_live h n it.b it.is) (descriptor_page fd)
    ∙ ap (λ (q : Place). counted q (rows_of s.spaces (slot_at s n).directory) (descriptor_page fd)) stands
    ∙ counted_elsewhere (spawns_at path argv at) (rows_of s.spaces (slot_at s n).directory) (descriptor_page fd) (λ same. omega (arith, same))
    (descriptor_mine at (descriptor_page fd) (descriptor_page_is fd below))

-- ---- the two

module _ {names : Names} {s : KernelState} {a : AbstractState} {n path argv id : ℕ} {at : SpawnStep} {b : Born} (h : StandsFor names s a)
    (v : IsSpawner names s a n path argv at id b) where
  -- neither of them stands in slot 0
  pub spawner_not_first : 0 ≢ n
  spawner_not_first = born_not_first h n b v.is

  pub spawned_not_first : 0 ≢ id % NENV
  spawned_not_first first = let contradiction : serving FIRST_ENV_ID ≡ unborn id b.id = sym h.first ∙ ap a.slots first ∙ v.child_is in cc

  pub spawner_lives : is_live_slot (slot_at s n) ≡ true
  spawner_lives = born_live v.own

  pub spawned_lives : is_live_slot (slot_at s (id % NENV)) ≡ true
  spawned_lives = ap (λ (x : Status). not (is_free x)) v.child_own.status

  pub spawned_place : place_of (slot_at s (id % NENV)) ≡ place.Guest
  spawned_place = words_of_none (slot_at s (id % NENV)).registers (slot_at s (id % NENV)).extra v.child_own.stack v.child_own.words

  -- they have two spaces
  pub spawner_apart : (slot_at s n).directory ≢ (slot_at s (id % NENV)).directory
  spawner_apart same = v.apart (sym (h.in_order.spaces.apart n (id % NENV) spawner_lives spawned_lives same))

  -- how their entries count
  pub spawner_counted : (p : ℕ) → logical s.spaces s.environments.slots n p ≡ counted (spawns_at path argv at) (rows_of s.spaces (slot_at s n).directory) p
  spawner_counted = live_counts s.spaces s.environments.slots n (slot_at s n) (spawns_at path argv at) refl spawner_not_first spawner_lives v.place

  pub spawned_counted : (p : ℕ) → logical s.spaces s.environments.slots (id % NENV) p ≡ rows_of s.spaces (slot_at s (id % NENV)).directory p
  spawned_counted p =
      live_counts s.spaces s.environments.slots (id % NENV) (slot_at s (id % NENV)) place.Guest refl spawned_not_first spawned_lives spawned_place p
      ∙ counted_plain place.Guest (rows_of s.spaces (slot_at s (id % NENV)).directory) refl p

  -- and behind a step after which the parent stands at another, and spaces may be others
  module _ (sp : SpacesState) (next : SpawnStep) where
    abbrev slots_moved : ℕ → Slot
    slots_moved = upd s.environments.slots n (record (slot_at s n) { extra = spawn_words next })

    pub spawner_counts : (p : ℕ) → logical sp slots_moved n p ≡ counted (spawns_at path argv next) (rows_of sp (slot_at s n).directory) p
    spawner_counts =
        live_counts sp slots_moved n (record (slot_at s n) { extra = spawn_words next }) (spawns_at path argv next)
        (upd-at s.environments.slots n (record (slot_at s n) { extra = spawn_words next })) spawner_not_first spawner_lives
        (went_place (slot_at s n) path argv at next v.place)

    pub spawned_counts : (p : ℕ) → logical sp slots_moved (id % NENV) p ≡ rows_of sp (slot_at s (id % NENV)).directory p
    spawned_counts p =
        live_counts sp slots_moved (id % NENV) (slot_at s (id % NENV)) place.Guest
        (upd-other s.environments.slots n (record (slot_at s n) { extra = spawn_words next }) (id % NENV) v.apart)
        spawned_not_first spawned_lives spawned_place p
        ∙ counted_plain place.Guest (rows_of sp (slot_at s (id % NENV)).directory) refl p

    -- of another slot, whose row is what it was
    pub others_spawning : (j : ℕ) → j ≢ n →
        (is_live_slot (slot_at s j) ≡ true → rows_of sp (slot_at s j).directory ≡ rows_of s.spaces (slot_at s j).directory) → (p : ℕ) →
        logical sp slots_moved j p ≡ logical s.spaces s.environments.slots j p
    others_spawning j ne row p =
        let slot : slots_moved j ≡ slot_at s j = upd-other s.environments.slots n (record (slot_at s n) { extra = spawn_words next }) j ne in
        logical_alike s.spaces sp s.environments.slots slots_moved j (ap (λ (x : Slot). is_live_slot x) slot) (ap (λ (x : Slot). place_of x) slot)
        (λ live. ap (λ (x : Slot). rows_of sp x.directory) slot ∙ row live) p

-- ---- the state

module _ {names : Names} {s : KernelState} {a : AbstractState} {sp : SpacesState} (h : StandsFor names s a) (n path argv id : ℕ)
    (at next : SpawnStep) (b : Born) (v : IsSpawner names s a n path argv at id b) (k child : Slot) (same_space : k.directory ≡ (slot_at s n).directory)
    (child_space : child.directory ≡ (slot_at s (id % NENV)).directory)
    (others : (d : ℕ) → d ≢ (slot_at s n).directory → d ≢ (slot_at s (id % NENV)).directory → SeenAlike names names s.spaces sp d) where
  abbrev m : ℕ
  m = id % NENV

  abbrev slots_after : ℕ → Slot
  slots_after = upd (upd s.environments.slots m child) n k

  parent_after : slots_after n ≡ k
  parent_after = upd-at (upd s.environments.slots m child) n k

  child_after : slots_after m ≡ child
  child_after = upd-other (upd s.environments.slots m child) n k m v.apart ∙ upd-at s.environments.slots m child

  others_after : (j : ℕ) → j ≢ n → j ≢ m → slots_after j ≡ slot_at s j
  others_after j ne apart = upd-other (upd s.environments.slots m child) n k j ne ∙ upd-other s.environments.slots m child j apart

  -- the spaces of all others
  others_seen : (j : ℕ) → j ≢ n → j ≢ m → is_live (a.slots j) ≡ true → SeenAlike names names s.spaces sp (slot_at s j).directory
  others_seen j ne apart live =
      let lives : is_live_slot (slot_at s j) ≡ true = live_stands h j ∙ live in
      others (slot_at s j).directory
      (λ same. ne (h.in_order.spaces.apart j n lives (born_live v.own) same))
      (λ same. apart (h.in_order.spaces.apart j m lives (live_stands h m ∙ ap (λ (x : AbstractSlot). is_live x) v.child_is) same))

  -- the server's among them
  server_after : slots_after 0 ≡ slot_at s 0
  server_after = others_after 0 (spawner_not_first h v) (spawned_not_first h v)

  server_seen : SeenAlike names names s.spaces sp (slot_at s 0).directory
  server_seen = others_seen 0 (spawner_not_first h v) (spawned_not_first h v) (ap (λ (x : AbstractSlot). is_live x) h.first)

  -- all others' entries count as they did
  others_count_too : (j : ℕ) → j ≢ n → j ≢ m → (p : ℕ) → logical sp slots_after j p ≡ logical s.spaces s.environments.slots j p
  others_count_too j ne apart p =
      let slot = others_after j ne apart in
      logical_alike s.spaces sp s.environments.slots slots_after j (ap (λ (x : Slot). is_live_slot x) slot) (ap (λ (x : Slot). place_of x) slot)
      (λ live. ap (λ (x : Slot). rows_of sp x.directory) slot ∙ (others_seen j ne apart (sym (live_stands h j) ∙ live)).rows) p

  module _ (settles : Settles (slot_at s n) k) (child_settles : Settles (slot_at s m) child)
      (stands : place_of k ≡ spawns_at path argv next) (bears : spawning_child next ≡ Some id)
      (mine : StandsForBorn names sp k b) (child_own : StandsForUnborn child id b.id) (its_child : HasOfImage names sp k b next child id)
      (rows : RowsStand names sp.pages a.shared (things_in s a) a.next_name (logical sp slots_after))
      (in_order : IsInOrder (with_slot_at (with_slot_at (with_spaces s sp) m child) n k))
      (counts : (j : ℕ) → j ≢ n → CountsKept s.spaces sp (slot_at s j))
      (own_pipes : (p : ℕ) → is_pipe_page p ≡ true → rows_of sp k.directory p ≡ rows_of s.spaces (slot_at s n).directory p)
      (bytes : (d p : ℕ) (x : Entry) → rows_of s.spaces d p ≡ Some x → is_shared x.perm ≡ true → sp.pages x.frame ≡ s.spaces.pages x.frame) where
    slots_stand : (j : ℕ) → StandsForSlot names sp (slots_after j) (a.slots j)
    slots_stand j = by_parent (j == n) refl
      where
        by_child : j ≢ n → (c : Bool) → (j == m) ≡ c → StandsForSlot names sp (slots_after j) (a.slots j)
        by_child ne true test =
            let here : m ≡ j = grind (arith, nat_tests) in
            subst (λ (q : ℕ). StandsForSlot names sp (slots_after q) (a.slots q)) here
            (subst (λ (x : Slot). StandsForSlot names sp x (a.slots m)) (sym child_after)
            (subst (λ (y : AbstractSlot). StandsForSlot names sp child y) (sym v.child_is) child_own))
        by_child ne false test =
            let apart : j ≢ m = grind (arith, nat_tests) in
            subst (λ (x : Slot). StandsForSlot names sp x (a.slots j)) (sym (others_after j ne apart))
            (slot_stands names names s.spaces sp (slot_at s j) (a.slots j) (h.slots j) (others_seen j ne apart) (counts j ne))

        by_parent : (c : Bool) → (j == n) ≡ c → StandsForSlot names sp (slots_after j) (a.slots j)
        by_parent true test =
            let here : n ≡ j = grind (arith, nat_tests) in
            subst (λ (q : ℕ). StandsForSlot names sp (slots_after q) (a.slots q)) here
            (subst (λ (x : Slot). StandsForSlot names sp x (a.slots n)) (sym parent_after)
            (subst (λ (y : AbstractSlot). StandsForSlot names sp k y) (sym v.is) mine))
        by_parent false test = by_child (grind (arith, nat_tests)) (j == m) refl

    -- this child is borne as before
    its_borne : IsBorneBy names sp (slots_after (b.id % NENV)) (a.slots (b.id % NENV)) (slots_after m) id b.id
    its_borne =
        subst (λ (q : ℕ). IsBorneBy names sp (slots_after q) (a.slots q) (slots_after m) id b.id) (sym v.named)
        (subst (λ (x : Slot). IsBorneBy names sp (slots_after n) (a.slots n) x id b.id) (sym child_after)
        (subst (λ (x : Slot). IsBorneBy names sp x (a.slots n) child id b.id) (sym parent_after)
        (by_spawn (spawned_child id path argv v.is stands bears its_child))))

    abbrev Bears : ℕ → ℕ → ℕ → Type 0
    Bears j own_id parent = IsBorneBy names sp (slots_after (parent % NENV)) (a.slots (parent % NENV)) (slots_after j) own_id parent

    -- and so is every other
    others_borne : (j own_id parent : ℕ) → j ≢ m → a.slots j ≡ unborn own_id parent → Bears j own_id parent
    others_borne j own_id parent apart is =
        let was = h.children.borne j own_id parent is in
        let parents = of_parent was in
        let p = parent % NENV in
        let own : StandsForUnborn (slot_at s j) own_id parent =
        subst (λ (y : AbstractSlot). StandsForSlot names s.spaces (slot_at s j) y) is (h.slots j) in
        let lives : is_live_slot (slot_at s j) ≡ true = live_stands h j ∙ ap (λ (x : AbstractSlot). is_live x) is in
        let here : own_id % NENV ≡ j = ap (λ (q : ℕ). q % NENV) (sym own.id_is) ∙ h.tabled.ids j lives in
        let not_parent : j ≢ n = λ same. let contradiction : born b ≡ unborn own_id parent = sym v.is ∙ ap a.slots (sym same) ∙ is in absurd cc in
        let other_parent : p ≢ n = λ same.
        let one : own_id ≡ id =
        same_Some own_id id (sym parents.bears ∙ ap (λ (q : ℕ). borne_in (place_of (slot_at s q))) same ∙ ap borne_in v.place ∙ v.bears) in
        apart (sym here ∙ ap (λ (q : ℕ). q % NENV) one) in
        let not_child : p ≢ m = λ same.
        let contradiction : born parents.b ≡ unborn id b.id = sym parents.born_by ∙ ap a.slots same ∙ v.child_is in absurd cc in
        let its_parent = others_after p other_parent not_child in
        borne_moved (slots_after p) (a.slots p) (slots_after j) (ap (λ (x : Slot). place_of x) its_parent)
        (ap (λ (x : Slot). x.registers) its_parent) refl
        (λ q. ap (λ (x : Slot). rows_of sp x.directory q) its_parent ∙ ap (λ (r : EntryRow). r q)
        (others_seen p other_parent not_child (ap (λ (x : AbstractSlot). is_live x) parents.born_by)).rows)
        (same_child (slot_at s j) (slots_after j) (others_after j not_parent apart))
        (others_seen j not_parent apart (ap (λ (x : AbstractSlot). is_live x) is)) was

    borne_still : (j own_id parent : ℕ) → a.slots j ≡ unborn own_id parent → Bears j own_id parent
    borne_still j own_id parent is = by_child (j == m) refl
      where
        by_child : (c : Bool) → (j == m) ≡ c → Bears j own_id parent
        by_child true test =
            let here : m ≡ j = grind (arith, nat_tests) in
            let same = same_unborn id b.id own_id parent (sym v.child_is ∙ ap a.slots here ∙ is) in
            subst (λ (q : ℕ). Bears q own_id parent) here
            (subst (λ (q : ℕ). Bears m q parent) same.0 (subst (λ (q : ℕ). Bears m id q) same.1 its_borne))
        by_child false test = others_borne j own_id parent (grind (arith, nat_tests)) is

    have_still : (q own_id : ℕ) (c : Born) → a.slots q ≡ born c → borne_in (place_of (slots_after q)) ≡ Some own_id →
        a.slots (own_id % NENV) ≡ unborn own_id c.id
    have_still q own_id c is bears_it = by_parent (q == n) refl
      where
        by_parent : (t : Bool) → (q == n) ≡ t → a.slots (own_id % NENV) ≡ unborn own_id c.id
        by_parent true test =
            let here : q ≡ n = grind (arith, nat_tests) in
            let same : b ≡ c = same_born b c (sym v.is ∙ ap a.slots (sym here) ∙ is) in
            let there : borne_in (place_of (slots_after n)) ≡ Some id =
            ap (λ (x : Slot). borne_in (place_of x)) parent_after ∙ ap borne_in stands ∙ bears in
            let one : id ≡ own_id = same_Some id own_id (sym there ∙ ap (λ (j : ℕ). borne_in (place_of (slots_after j))) (sym here) ∙ bears_it) in
            subst (λ (j : ℕ). a.slots (j % NENV) ≡ unborn j c.id) one
            (v.child_is ∙ ap (λ (x : Born). unborn id x.id) same)
        by_parent false test =
            let ne : q ≢ n = grind (arith, nat_tests) in
            let not_child : q ≢ m = λ same. let contradiction : born c ≡ unborn id b.id = sym is ∙ ap a.slots same ∙ v.child_is in absurd cc in
            h.children.have q own_id c is (ap (λ (x : Slot). borne_in (place_of x)) (sym (others_after q ne not_child)) ∙ bears_it)

    -- ---- ends of pipes, and locks

    calm : is_calm (place_of (slot_at s n)) ≡ true
    calm = ap is_calm v.place

    calm_after : is_calm (place_of k) ≡ true
    calm_after = ap is_calm stands

    ends : (j : ℕ) → EndsStandAt names a.objects (place_of (slots_after j)) (rows_of sp (slots_after j).directory) (a.slots j)
    ends =
        of_slots n m (λ j. EndsStandAt names a.objects (place_of (slots_after j)) (rows_of sp (slots_after j).directory) (a.slots j))
        (subst (λ (x : Slot). EndsStandAt names a.objects (place_of x) (rows_of sp x.directory) (a.slots n)) (sym parent_after)
        (subst (λ (y : AbstractSlot). EndsStandAt names a.objects (place_of k) (rows_of sp k.directory) y) (sym v.is)
        (ends_moved (calm_places calm calm_after) (λ fd. refl) (λ fd name is. refl) (λ fd below. own_pipes (pipe_page fd) (pipe_is fd below).0)
        (λ fd x below is. refl) (ends_at h n b v.is))))
        (subst (λ (y : AbstractSlot). EndsStandAt names a.objects (place_of (slots_after m)) (rows_of sp (slots_after m).directory) y) (sym v.child_is) tt)
        (λ j ne apart. subst (λ (x : Slot). EndsStandAt names a.objects (place_of x) (rows_of sp x.directory) (a.slots j)) (sym (others_after j ne apart))
        (ends_stay names names s.spaces sp a.objects (slot_at s j) (a.slots j) (h.slots j) (λ live. but_pipes (others_seen j ne apart live)) (h.ends j)))

    -- neither of the two holds a lock
    holds_none : locked_at (place_of (slot_at s n)) ≡ None
    holds_none = calm_locked (place_of (slot_at s n)) calm

    holds_none_after : locked_at (place_of (slots_after n)) ≡ None
    holds_none_after = ap (λ (x : Slot). locked_at (place_of x)) parent_after ∙ calm_locked (place_of k) calm_after

    child_none : locked_at (place_of (slot_at s m)) ≡ None
    child_none = ap locked_at (words_of_none (slot_at s m).registers (slot_at s m).extra v.child_own.stack v.child_own.words)

    child_none_after : locked_at (place_of (slots_after m)) ≡ None
    child_none_after =
        ap (λ (x : Slot). locked_at (place_of x)) child_after
        ∙ ap locked_at (words_of_none child.registers child.extra child_own.stack child_own.words)

    -- who holds one is another
    holder_apart : (slots : ℕ → Slot) (q j fd : ℕ) → locked_at (place_of (slots q)) ≡ None → locked_at (place_of (slots j)) ≡ Some fd → j ≢ q
    holder_apart slots q j fd none locked here =
        none-some fd (sym none ∙ ap (λ (i : ℕ). locked_at (place_of (slots i))) (sym here) ∙ locked)

    -- a page of a pipe that the parent has was one before
    own_frame : (fd : ℕ) (x : Entry) → fd < DESCRIPTORS → rows_of sp k.directory (pipe_page fd) ≡ Some x → is_shared x.perm ≡ true →
        IsPipeFrame (logical s.spaces s.environments.slots) x.frame
    own_frame fd x below is shared_page =
        let page = pipe_is fd below in record {
          slot = n;
          fd = fd;
          below = below;
          entry = x;
          stands = logical_live s.spaces s.environments.slots n (clients_live h n b v.is) (pipe_page fd)
              ∙ ap (λ (q : Place). counted q (rows_of s.spaces (slot_at s n).directory) (pipe_page fd)) v.place
              ∙ counted_elsewhere (spawns_at path argv at) (rows_of s.spaces (slot_at s n).directory) (pipe_page fd) page.2
              (descriptor_mine at (pipe_page fd) page.1)
              ∙ sym (own_pipes (pipe_page fd) page.0) ∙ is;
          shared = shared_page;
          same = refl;
        }

    -- and the child has none but the parent's
    child_pipes : (fd : ℕ) (x : Entry) → fd < DESCRIPTORS → rows_of sp child.directory (pipe_page fd) ≡ Some x →
        rows_of sp k.directory (pipe_page fd) ≡ Some x
    child_pipes fd x below is = by_test (nat_le its_child.progress.passed (pipe_page fd)) refl
      where
        by_test : (c : Bool) → nat_le its_child.progress.passed (pipe_page fd) ≡ c → rows_of sp k.directory (pipe_page fd) ≡ Some x
        by_test true on = sym (its_child.handed (pipe_page fd) (pipe_is fd below).1 on) ∙ is
        by_test false off = absurd (none-some x (sym (its_child.rest (pipe_page fd) (pipe_is fd below).1 off) ∙ is))

    abbrev PipeWas : ℕ → Type 0
    PipeWas j = (fd : ℕ) (x : Entry) → fd < DESCRIPTORS → logical sp slots_after j (pipe_page fd) ≡ Some x → is_shared x.perm ≡ true →
        IsPipeFrame (logical s.spaces s.environments.slots) x.frame

    pipe_was : (j : ℕ) → PipeWas j
    pipe_was =
        of_slots n m (λ j. PipeWas j)
        (λ fd x below is shared_page.
        let found = (logical_some sp slots_after n (pipe_page fd) x is).1 in
        subst (λ (f : ℕ). IsPipeFrame (logical s.spaces s.environments.slots) f) found.frame
        (own_frame fd found.entry below (ap (λ (y : Slot). rows_of sp y.directory (pipe_page fd)) (sym parent_after) ∙ found.stands)
        (found.sharing shared_page)))
        (λ fd x below is shared_page.
        let found = (logical_some sp slots_after m (pipe_page fd) x is).1 in
        subst (λ (f : ℕ). IsPipeFrame (logical s.spaces s.environments.slots) f) found.frame
        (own_frame fd found.entry below
        (child_pipes fd found.entry below (ap (λ (y : Slot). rows_of sp y.directory (pipe_page fd)) (sym child_after) ∙ found.stands))
        (found.sharing shared_page)))
        (λ j ne apart fd x below is shared_page. record {
          slot = j;
          fd = fd;
          below = below;
          entry = x;
          stands = sym (others_count_too j ne apart (pipe_page fd)) ∙ is;
          shared = shared_page;
          same = refl;
        })

    locks : LocksStand sp.pages slots_after (logical sp slots_after)
    locks = locks_kept (record {
      back = λ j fd x below locked is.
          let ne = holder_apart slots_after n j fd holds_none_after locked in
          let apart = holder_apart slots_after m j fd child_none_after locked in (
            ap (λ (y : Slot). locked_at (place_of y)) (sym (others_after j ne apart)) ∙ locked,
            sym (others_count_too j ne apart (pipe_page fd)) ∙ is,
          );
      forth = λ j fd x below locked is.
          let ne = holder_apart s.environments.slots n j fd holds_none locked in
          let apart = holder_apart s.environments.slots m j fd child_none locked in (
            ap (λ (y : Slot). locked_at (place_of y)) (others_after j ne apart) ∙ locked,
            others_count_too j ne apart (pipe_page fd) ∙ is,
          );
      were = pipe_was;
      bytes = λ j fd x below is shared_page.
          let found = (logical_some s.spaces s.environments.slots j (pipe_page fd) x is).1 in
          ap (λ (page : List ℕ). lock_of page)
          (subst (λ (f : ℕ). sp.pages f ≡ s.spaces.pages f) found.frame
          (bytes (slot_at s j).directory (pipe_page fd) found.entry found.stands (found.sharing shared_page)));
    }) h.locks

    -- ---- the whole

    abbrev state_after : KernelState
    state_after = with_slot_at (with_slot_at (with_spaces s sp) m child) n k

    turned : RowsStand names sp.pages a.shared (things_in state_after a) a.next_name (logical sp slots_after)
    turned = rows_turned (ap (λ (x : Slot). rows_of sp x.directory) server_after ∙ server_seen.rows) rows

    pub spawning_stands : StandsFor names state_after a
    spawning_stands =
        let child_lives : is_live_slot (slot_at s m) ≡ true = live_stands h m ∙ ap (λ (x : AbstractSlot). is_live x) v.child_is in
        let parent_is : upd s.environments.slots m child n ≡ slot_at s n = upd-other s.environments.slots m child n (λ same. v.apart (sym same)) in
        record {
          slots = slots_stand;
          children = record { borne = borne_still; have = have_still };
          apart = rows.apart;
          named = turned.named;
          users = rows.users;
          whole = rows.whole;
          beside = turned.beside;
          ends = ends;
          locks = locks;
          old = h.old;
          runs = turns_settle (upd s.environments.slots m child) n k (turns_settle s.environments.slots m child h.runs child_settles)
              (subst (λ (x : Slot). Settles x k) (sym parent_is) settles);
          free_slots = h.free_slots;
          first = h.first;
          server = server_same server_after (server_alike server_seen h.server);
          input = h.input;
          last = h.last;
          turns = h.turns;
          tabled = tabled_set (tabled_set h.tabled m child child_lives child_settles) n k
              (ap (λ (x : Slot). is_live_slot x) parent_is ∙ born_live v.own)
              (subst (λ (x : Slot). Settles x k) (sym parent_is) settles);
          in_order = in_order;
        }

-- ---- the child's slot is what it was, and the parent's words alone are others

module _ {names : Names} {s : KernelState} {a : AbstractState} (h : StandsFor names s a) (n path argv id : ℕ) (at next : SpawnStep) (b : Born)
    (v : IsSpawner names s a n path argv at id b) (bears : spawning_child next ≡ Some id) (sp : SpacesState) where
  abbrev parent : Slot
  parent = slot_at s n

  abbrev child : Slot
  child = slot_at s (id % NENV)

  abbrev after : Slot
  after = record parent { extra = spawn_words next }

  back : with_slot_at (with_spaces s sp) (id % NENV) child ≡ with_spaces s sp
  back = slot_back (with_spaces s sp) (id % NENV) child refl

  pub spawning_moves : ((d : ℕ) → d ≢ parent.directory → d ≢ child.directory → SeenAlike names names s.spaces sp d) →
      StandsForBorn names sp after b → HasOfImage names sp after b next child id →
      RowsStand names sp.pages a.shared (things_in s a) a.next_name (logical sp (upd s.environments.slots n after)) →
      IsInOrder (with_spaces s sp) → ((j : ℕ) → j ≢ n → CountsKept s.spaces sp (slot_at s j)) →
      ((p : ℕ) → is_pipe_page p ≡ true → rows_of sp parent.directory p ≡ rows_of s.spaces parent.directory p) →
      ((d p : ℕ) (x : Entry) → rows_of s.spaces d p ≡ Some x → is_shared x.perm ≡ true → sp.pages x.frame ≡ s.spaces.pages x.frame) →
      StandsFor names (with_extra (with_spaces s sp) n (spawn_words next)) a
  spawning_moves others mine has rows in_order counted_so own_pipes bytes =
      subst (λ (t : KernelState). StandsFor names (with_slot_at t n after) a) back
      (spawning_stands h n path argv id at next b v after child refl refl others
      (record { id = refl; env_type = refl; turns = refl; calm = λ runs. runs }) (record { id = refl; env_type = refl; turns = refl; calm = λ runs. runs })
      (went_place parent path argv at next v.place) bears mine v.child_own has
      (subst (λ (slots : ℕ → Slot). RowsStand names sp.pages a.shared (things_in s a) a.next_name (logical sp (upd slots n after)))
      (sym (upd-back s.environments.slots (id % NENV) child refl)) rows)
      (subst (λ (t : KernelState). IsInOrder (with_slot_at t n after)) (sym back)
      (slot_in_order (with_spaces s sp) n after refl refl in_order)) counted_so own_pipes bytes)
