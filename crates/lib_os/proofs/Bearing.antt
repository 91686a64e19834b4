-- While fork bears a child: what is known of the two, and that the kernel's state goes on standing for the same abstract one where
-- their slots and their spaces change, and nothing is seen of anybody else.
use Rattle.std.proofs.Common.{◌≡◌, ◌≢◌, ◌∙◌, ◌<◌, ◌==◌, ◌%◌, ◌||◌, ℕ, Bool, true, false, List, Some, None, is_some, if◌then◌else◌}
use Rattle.std.proofs.Common.{refl, sym, ap, subst, arith}
use Rattle.std.specs.Option.{option_map}
use Rattle.std.proofs.lemmas.Bool.Decides.{nat_tests}
use Rattle.std.proofs.lemmas.Option.{none-some, same_Some}
use Rattle.jos_base.specs.declared.numbers.TheConstants.{FIRST_ENV_ID, NENV}
use Rattle.jos_base.specs.Environments.{Slot, is_live as is_live_slot}
use Rattle.jos_base.specs.KernelState.{KernelState, slot_at, with_slot_at, with_spaces}
use Rattle.jos_base.specs.Reach.{Entry}
use Rattle.jos_base.specs.SpacesState.{SpacesState}
use Rattle.jos_base.specs.Words.{page_number, upd}
use Rattle.lib_os.specs.declared.numbers.TheConstants.{DESCRIPTORS, PFTEMP}
use Rattle.lib_os.specs.declared.place.Place.{Place}
use Rattle.lib_os.specs.declared.place.Place.TheVariants as place
use Rattle.lib_os.specs.declared.place.Step.{Step}
use Rattle.lib_os.specs.declared.place.Step.TheVariants as step
use Rattle.lib_os.specs.declared.service.Service.TheVariants as service
use Rattle.lib_os.specs.AbstractState.{AbstractState, AbstractSlot, Born, unborn, born, serving, is_live}
use Rattle.lib_os.specs.AbstractMemory.{has_page_in}
use Rattle.lib_os.specs.InOrder.{IsInOrder}
use Rattle.lib_os.specs.DescriptorPages.{lock_of}
use Rattle.lib_os.specs.LibraryPages.{is_library_region}
use Rattle.lib_os.specs.PipeEnds.{EndsStandAt, LocksStand, locked_at}
use Rattle.lib_os.specs.Places.{place_of, is_handlers}
use Rattle.lib_os.specs.Rows.{EntryRow, Names, rows_of, logical, page_seen, is_of_descriptor, is_programs}
use Rattle.lib_os.specs.Rows.{as_cow, counted, cow_perm, is_pipe_page, is_shared, pipe_page}
use Rattle.lib_os.specs.StandsFor.{StandsFor, StandsForSlot, StandsForBorn, StandsForUnborn, StandsAtStep, view_of, IsBorne, IsBorneBy, by_fork, by_spawn, ChildPages}
use Rattle.lib_os.specs.StandsFor.{borne_at, borne_in, is_passed, child_upcall, things_in}
use Rattle.lib_os.proofs.Children.{same_child, borne_moved, of_parent}
use Rattle.lib_os.proofs.EntriesStand.{RowsStand, rows_turned}
use Rattle.lib_os.proofs.Logical.{counted_elsewhere, counted_remapped, is_remapped, logical_alike, logical_live, logical_some}
use Rattle.lib_os.proofs.PipesStand.{IsPipeFrame, calm_locked, calm_places, ends_moved, ends_stay, is_calm, is_calm_step, locks_kept}
use Rattle.lib_os.proofs.Serving.{served, words_of_none}
use Rattle.lib_os.proofs.SlotsStand.{CountsKept, SeenAlike, but_pipes, slot_stands, live_stands, born_live}
use Rattle.lib_os.proofs.StatesStand.{Settles, tabled_set, born_not_first, clients_live, ends_at, server_alike, server_same, turns_settle}
use Rattle.jos_base.proofs.Maps.{upd-at, upd-other}

-- ---- slots

-- what holds of two slots, and of all others
pub of_slots : (n m : ℕ) (Q : ℕ → Type 0) → Q n → Q m → ((j : ℕ) → j ≢ n → j ≢ m → Q j) → (j : ℕ) → Q j
of_slots n m Q first second others j = by_first (j == n) refl
  where
    by_second : j ≢ n → (c : Bool) → (j == m) ≡ c → Q j
    by_second ne true test = let here : m ≡ j = grind (arith, nat_tests) in subst Q here second
    by_second ne false test = others j ne (grind (arith, nat_tests))

    by_first : (c : Bool) → (j == n) ≡ c → Q j
    by_first true test = let here : n ≡ j = grind (arith, nat_tests) in subst Q here first
    by_first false test = by_second (grind (arith, nat_tests)) (j == m) refl

-- ---- pipes, at the steps of fork that bear a child

-- there nothing is done to pipes
pub borne_calm : (at : Step) (id : ℕ) → borne_at at ≡ Some id → is_calm_step at ≡ true
borne_calm (step.Piped at) id bears = absurd (none-some id bears)
borne_calm step.MappingDescriptor id bears = absurd (none-some id bears)
borne_calm _ id bears = refl

-- a shared page counts as it stands
shared_counts : (at : Step) (row : EntryRow) (p : ℕ) (x : Entry) → p ≢ page_number PFTEMP → row p ≡ Some x → is_shared x.perm ≡ true →
    counted (place.InService service.Fork at) row p ≡ Some x
shared_counts at row p x ne is shared_page = by_test (is_remapped (place.InService service.Fork at) p) refl
  where
    by_test : (c : Bool) → is_remapped (place.InService service.Fork at) p ≡ c → counted (place.InService service.Fork at) row p ≡ Some x
    by_test true remapped =
        counted_remapped (place.InService service.Fork at) row p remapped refl refl
        ∙ ap (option_map as_cow) is
        ∙ ap (λ (c : Bool). Some (if c then x else record x { perm = cow_perm })) shared_page
    by_test false off = counted_elsewhere (place.InService service.Fork at) row p ne off ∙ is

or_true : (c : Bool) → c || true ≡ true
or_true true = refl
or_true false = refl

pipe_is : (fd : ℕ) → fd < DESCRIPTORS →
    (is_pipe_page (pipe_page fd) ≡ true) × (is_of_descriptor (pipe_page fd) ≡ true) × (pipe_page fd ≢ page_number PFTEMP)
pipe_is fd below = (grind (arith, nat_tests), grind (arith, nat_tests), (λ same. omega (arith, same)))

-- ---- the child

-- what a child has at a step of fork, by its parent
pub record IsChild (names : Names) (s : SpacesState) (parent : Slot) (b : Born) (at : Step) (k : Slot) : Type 0 where
  pub registers : k.registers ≡ record parent.registers { eax = 0 }
  pub upcall : k.upcall ≡ child_upcall at
  pub passed : (p : ℕ) → is_programs p ≡ true → is_passed at p ≡ true → page_seen names s k.directory p ≡ b.memory p
  pub handed : (p : ℕ) → is_of_descriptor p ≡ true → is_passed at p ≡ true → rows_of s k.directory p ≡ rows_of s parent.directory p
  pub rest : (p : ℕ) → is_programs p || is_of_descriptor p ≡ true → is_passed at p ≡ false → rows_of s k.directory p ≡ None
  pub library : ChildPages at (rows_of s k.directory)
  pub tables : (r : ℕ) → is_some (s.regions k.directory r) ≡ true → has_page_in b.memory r || is_library_region r ≡ true

pub child_borne : {names : Names} {s : SpacesState} {parent : Slot} {parent_is : AbstractSlot} {b : Born} {at : Step} {k : Slot} (id : ℕ) →
    parent_is ≡ born b → place_of parent ≡ place.InService service.Fork at → borne_at at ≡ Some id → IsChild names s parent b at k →
    IsBorne names s parent parent_is k id b.id
child_borne {b = b} {at = at} id is stands bears h = record {
  b = b;
  born_by = is;
  named = refl;
  step = at;
  at = stands;
  borne = bears;
  registers = h.registers;
  upcall = h.upcall;
  passed = h.passed;
  handed = h.handed;
  rest = h.rest;
  library = h.library;
  tables = h.tables;
}

pub same_born : (b c : Born) → born b ≡ born c → b ≡ c
same_born b c same = cc

same_step : (at to : Step) → place.InService service.Fork at ≡ place.InService service.Fork to → at ≡ to
same_step at to same = cc

pub same_unborn : (id parent other others_parent : ℕ) → unborn id parent ≡ unborn other others_parent → (id ≡ other) × (parent ≡ others_parent)
same_unborn id parent other others_parent same = (cc, cc)

borne_child : {names : Names} {s : SpacesState} {parent : Slot} {parent_is : AbstractSlot} {k : Slot} {id parent_id : ℕ} (b : Born) (at : Step) →
    parent_is ≡ born b → place_of parent ≡ place.InService service.Fork at → IsBorne names s parent parent_is k id parent_id →
    IsChild names s parent b at k
borne_child {names = names} {s = s} {parent = parent} {k = k} b at is stands h =
    subst (λ (c : Born). IsChild names s parent c at k) (same_born h.b b (sym h.born_by ∙ is))
    (subst (λ (t : Step). IsChild names s parent h.b t k) (same_step h.step at (sym h.at ∙ stands)) (record {
      registers = h.registers;
      upcall = h.upcall;
      passed = h.passed;
      handed = h.handed;
      rest = h.rest;
      library = h.library;
      tables = h.tables;
    }))

-- one whose parent stands in fork is borne by that
pub borne_in_fork : {names : Names} {s : SpacesState} {parent : Slot} {parent_is : AbstractSlot} {k : Slot} {id parent_id : ℕ} (at : Step) →
    IsBorneBy names s parent parent_is k id parent_id → place_of parent ≡ place.InService service.Fork at →
    IsBorne names s parent parent_is k id parent_id
borne_in_fork at (by_fork h) stands = h
borne_in_fork at (by_spawn h) stands =
    let contradiction : place.InService (service.Spawn h.path h.argv) (step.Spawning h.at_step) ≡ place.InService service.Fork at = sym h.at ∙ stands in
    absurd cc

-- ---- the two

-- An environment that bears a child in fork, at a step, and the child.
pub record IsBearer (names : Names) (s : KernelState) (a : AbstractState) (n : ℕ) (at : Step) (id : ℕ) : Type 0 where
  pub b : Born
  pub is : a.slots n ≡ born b
  pub own : StandsForBorn names s.spaces (slot_at s n) b
  pub outside : is_handlers (slot_at s n).registers.esp ≡ false
  pub place : place_of (slot_at s n) ≡ place.InService service.Fork at
  pub borne : borne_at at ≡ Some id
  pub stands : StandsAtStep (view_of s.spaces (slot_at s n).directory) (slot_at s n) b service.Fork at
  pub child_is : a.slots (id % NENV) ≡ unborn id b.id
  pub child_own : StandsForUnborn (slot_at s (id % NENV)) id b.id
  pub child : IsChild names s.spaces (slot_at s n) b at (slot_at s (id % NENV))
  pub apart : id % NENV ≢ n
  pub named : b.id % NENV ≡ n

pub bearer : {names : Names} {s : KernelState} {a : AbstractState} → StandsFor names s a → (n : ℕ) (at : Step) (id : ℕ) →
    place_of (slot_at s n) ≡ place.InService service.Fork at → borne_at at ≡ Some id → IsBearer names s a n at id
bearer {names = names} {s = s} {a = a} h n at id stands bears =
    let v = served h n service.Fork at stands in
    let child_is : a.slots (id % NENV) ≡ unborn id v.b.id = h.children.have n id v.b v.is (ap borne_in stands ∙ bears) in
    let named : v.b.id % NENV ≡ n = ap (λ (q : ℕ). q % NENV) (sym v.own.id) ∙ h.tabled.ids n (born_live v.own) in
    record {
      b = v.b;
      is = v.is;
      own = v.own;
      outside = v.outside;
      place = stands;
      borne = bears;
      stands = v.at;
      child_is = child_is;
      child_own = subst (λ (slot : AbstractSlot). StandsForSlot names s.spaces (slot_at s (id % NENV)) slot) child_is (h.slots (id % NENV));
      child = borne_child v.b at v.is stands
          (borne_in_fork at
          (subst (λ (q : ℕ). IsBorneBy names s.spaces (slot_at s q) (a.slots q) (slot_at s (id % NENV)) id v.b.id) named
          (h.children.borne (id % NENV) id v.b.id child_is)) stands);
      apart = λ same. let contradiction : born v.b ≡ unborn id v.b.id = sym v.is ∙ ap a.slots (sym same) ∙ child_is in absurd cc;
      named = named;
    }

-- neither of them stands in slot 0
pub parent_not_first : {names : Names} {s : KernelState} {a : AbstractState} {n id : ℕ} {at : Step} → StandsFor names s a →
    IsBearer names s a n at id → 0 ≢ n
parent_not_first {n = n} h v = born_not_first h n v.b v.is

pub child_not_first : {names : Names} {s : KernelState} {a : AbstractState} {n id : ℕ} {at : Step} → StandsFor names s a →
    IsBearer names s a n at id → 0 ≢ id % NENV
child_not_first {a = a} {id = id} h v first =
    let contradiction : serving FIRST_ENV_ID ≡ unborn id v.b.id = sym h.first ∙ ap a.slots first ∙ v.child_is in cc

-- ---- the state

module _ {names : Names} {s : KernelState} {a : AbstractState} {sp : SpacesState} (h : StandsFor names s a) (n id : ℕ) (at next : Step)
    (v : IsBearer names s a n at id) (k child : Slot) (same_space : k.directory ≡ (slot_at s n).directory)
    (child_space : child.directory ≡ (slot_at s (id % NENV)).directory)
    (others : (d : ℕ) → d ≢ (slot_at s n).directory → d ≢ (slot_at s (id % NENV)).directory → SeenAlike names names s.spaces sp d) where
  abbrev m : ℕ
  m = id % NENV

  abbrev slots_after : ℕ → Slot
  slots_after = upd (upd s.environments.slots m child) n k

  pub parent_after : slots_after n ≡ k
  parent_after = upd-at (upd s.environments.slots m child) n k

  pub child_after : slots_after m ≡ child
  child_after = upd-other (upd s.environments.slots m child) n k m v.apart ∙ upd-at s.environments.slots m child

  others_after : (j : ℕ) → j ≢ n → j ≢ m → slots_after j ≡ slot_at s j
  others_after j ne apart = upd-other (upd s.environments.slots m child) n k j ne ∙ upd-other s.environments.slots m child j apart

  -- the spaces of all others
  others_seen : (j : ℕ) → j ≢ n → j ≢ m → is_live (a.slots j) ≡ true → SeenAlike names names s.spaces sp (slot_at s j).directory
  others_seen j ne apart live =
      let lives : is_live_slot (slot_at s j) ≡ true = live_stands h j ∙ live in
      others (slot_at s j).directory
      (λ same. ne (h.in_order.spaces.apart j n lives (born_live v.own) same))
      (λ same. apart (h.in_order.spaces.apart j m lives (live_stands h m ∙ ap (λ (x : AbstractSlot). is_live x) v.child_is) same))

  -- the server's among them
  server_after : slots_after 0 ≡ slot_at s 0
  server_after = others_after 0 (parent_not_first h v) (child_not_first h v)

  server_seen : SeenAlike names names s.spaces sp (slot_at s 0).directory
  server_seen = others_seen 0 (parent_not_first h v) (child_not_first h v) (ap (λ (x : AbstractSlot). is_live x) h.first)

  -- all others' entries count as they did
  pub others_count_too : (j : ℕ) → j ≢ n → j ≢ m → (p : ℕ) → logical sp slots_after j p ≡ logical s.spaces s.environments.slots j p
  others_count_too j ne apart p =
      let slot = others_after j ne apart in
      logical_alike s.spaces sp s.environments.slots slots_after j (ap (λ (x : Slot). is_live_slot x) slot) (ap (λ (x : Slot). place_of x) slot)
      (λ live. ap (λ (x : Slot). rows_of sp x.directory) slot ∙ (others_seen j ne apart (sym (live_stands h j) ∙ live)).rows) p

  module _ (settles : Settles (slot_at s n) k) (child_settles : Settles (slot_at s m) child)
      (stands : place_of k ≡ place.InService service.Fork next) (bears : borne_at next ≡ Some id)
      (mine : StandsForBorn names sp k v.b) (child_own : StandsForUnborn child id v.b.id) (its_child : IsChild names sp k v.b next child)
      (rows : RowsStand names sp.pages a.shared (things_in s a) a.next_name (logical sp slots_after))
      (in_order : IsInOrder (with_slot_at (with_slot_at (with_spaces s sp) m child) n k))
      (counts : (j : ℕ) → j ≢ n → CountsKept s.spaces sp (slot_at s j))
      (own_pipes : (p : ℕ) → is_pipe_page p ≡ true → rows_of sp k.directory p ≡ rows_of s.spaces (slot_at s n).directory p)
      (bytes : (d p : ℕ) (x : Entry) → rows_of s.spaces d p ≡ Some x → sp.pages x.frame ≡ s.spaces.pages x.frame) where
    slots_stand : (j : ℕ) → StandsForSlot names sp (slots_after j) (a.slots j)
    slots_stand j = by_parent (j == n) refl
      where
        by_child : j ≢ n → (c : Bool) → (j == m) ≡ c → StandsForSlot names sp (slots_after j) (a.slots j)
        by_child ne true test =
            let here : m ≡ j = grind (arith, nat_tests) in
            subst (λ (q : ℕ). StandsForSlot names sp (slots_after q) (a.slots q)) here
            (subst (λ (x : Slot). StandsForSlot names sp x (a.slots m)) (sym child_after)
            (subst (λ (y : AbstractSlot). StandsForSlot names sp child y) (sym v.child_is) child_own))
        by_child ne false test =
            let apart : j ≢ m = grind (arith, nat_tests) in
            subst (λ (x : Slot). StandsForSlot names sp x (a.slots j)) (sym (others_after j ne apart))
            (slot_stands names names s.spaces sp (slot_at s j) (a.slots j) (h.slots j) (others_seen j ne apart) (counts j ne))

        by_parent : (c : Bool) → (j == n) ≡ c → StandsForSlot names sp (slots_after j) (a.slots j)
        by_parent true test =
            let here : n ≡ j = grind (arith, nat_tests) in
            subst (λ (q : ℕ). StandsForSlot names sp (slots_after q) (a.slots q)) here
            (subst (λ (x : Slot). StandsForSlot names sp x (a.slots n)) (sym parent_after)
            (subst (λ (y : AbstractSlot). StandsForSlot names sp k y) (sym v.is) mine))
        by_parent false test = by_child (grind (arith, nat_tests)) (j == m) refl

    -- this child is borne as before
    its_borne : IsBorneBy names sp (slots_after (v.b.id % NENV)) (a.slots (v.b.id % NENV)) (slots_after m) id v.b.id
    its_borne =
        subst (λ (q : ℕ). IsBorneBy names sp (slots_after q) (a.slots q) (slots_after m) id v.b.id) (sym v.named)
        (subst (λ (x : Slot). IsBorneBy names sp (slots_after n) (a.slots n) x id v.b.id) (sym child_after)
        (subst (λ (x : Slot). IsBorneBy names sp x (a.slots n) child id v.b.id) (sym parent_after)
        (by_fork (child_borne id v.is stands bears its_child))))

    abbrev Bears : ℕ → ℕ → ℕ → Type 0
    Bears j own_id parent = IsBorneBy names sp (slots_after (parent % NENV)) (a.slots (parent % NENV)) (slots_after j) own_id parent

    -- and so is every other
    others_borne : (j own_id parent : ℕ) → j ≢ m → a.slots j ≡ unborn own_id parent → Bears j own_id parent
    others_borne j own_id parent apart is =
        let was = h.children.borne j own_id parent is in
        let parents = of_parent was in
        let p = parent % NENV in
        let own : StandsForUnborn (slot_at s j) own_id parent =
        subst (λ (y : AbstractSlot). StandsForSlot names s.spaces (slot_at s j) y) is (h.slots j) in
        let lives : is_live_slot (slot_at s j) ≡ true = live_stands h j ∙ ap (λ (x : AbstractSlot). is_live x) is in
        let here : own_id % NENV ≡ j = ap (λ (q : ℕ). q % NENV) (sym own.id_is) ∙ h.tabled.ids j lives in
        let not_parent : j ≢ n = λ same. let contradiction : born v.b ≡ unborn own_id parent = sym v.is ∙ ap a.slots (sym same) ∙ is in absurd cc in
        let other_parent : p ≢ n = λ same.
        let one : own_id ≡ id =
        same_Some own_id id (sym parents.bears ∙ ap (λ (q : ℕ). borne_in (place_of (slot_at s q))) same ∙ ap borne_in v.place ∙ v.borne) in
        apart (sym here ∙ ap (λ (q : ℕ). q % NENV) one) in
        let not_child : p ≢ m = λ same.
        let contradiction : born parents.b ≡ unborn id v.b.id = sym parents.born_by ∙ ap a.slots same ∙ v.child_is in absurd cc in
        let its_parent = others_after p other_parent not_child in
        borne_moved (slots_after p) (a.slots p) (slots_after j) (ap (λ (x : Slot). place_of x) its_parent)
        (ap (λ (x : Slot). x.registers) its_parent) refl
        (λ q. ap (λ (x : Slot). rows_of sp x.directory q) its_parent ∙ ap (λ (r : EntryRow). r q)
        (others_seen p other_parent not_child (ap (λ (x : AbstractSlot). is_live x) parents.born_by)).rows)
        (same_child (slot_at s j) (slots_after j) (others_after j not_parent apart))
        (others_seen j not_parent apart (ap (λ (x : AbstractSlot). is_live x) is)) was

    borne_still : (j own_id parent : ℕ) → a.slots j ≡ unborn own_id parent → Bears j own_id parent
    borne_still j own_id parent is = by_child (j == m) refl
      where
        by_child : (c : Bool) → (j == m) ≡ c → Bears j own_id parent
        by_child true test =
            let here : m ≡ j = grind (arith, nat_tests) in
            let same = same_unborn id v.b.id own_id parent (sym v.child_is ∙ ap a.slots here ∙ is) in
            subst (λ (q : ℕ). Bears q own_id parent) here
            (subst (λ (q : ℕ). Bears m q parent) same.0 (subst (λ (q : ℕ). Bears m id q) same.1 its_borne))
        by_child false test = others_borne j own_id parent (grind (arith, nat_tests)) is

    have_still : (q own_id : ℕ) (c : Born) → a.slots q ≡ born c → borne_in (place_of (slots_after q)) ≡ Some own_id →
        a.slots (own_id % NENV) ≡ unborn own_id c.id
    have_still q own_id c is bears_it = by_parent (q == n) refl
      where
        by_parent : (t : Bool) → (q == n) ≡ t → a.slots (own_id % NENV) ≡ unborn own_id c.id
        by_parent true test =
            let here : q ≡ n = grind (arith, nat_tests) in
            let same : v.b ≡ c = same_born v.b c (sym v.is ∙ ap a.slots (sym here) ∙ is) in
            let there : borne_in (place_of (slots_after n)) ≡ Some id =
            ap (λ (x : Slot). borne_in (place_of x)) parent_after ∙ ap borne_in stands ∙ bears in
            let one : id ≡ own_id = same_Some id own_id (sym there ∙ ap (λ (j : ℕ). borne_in (place_of (slots_after j))) (sym here) ∙ bears_it) in
            subst (λ (j : ℕ). a.slots (j % NENV) ≡ unborn j c.id) one
            (v.child_is ∙ ap (λ (x : Born). unborn id x.id) same)
        by_parent false test =
            let ne : q ≢ n = grind (arith, nat_tests) in
            let not_child : q ≢ m = λ same. let contradiction : born c ≡ unborn id v.b.id = sym is ∙ ap a.slots same ∙ v.child_is in absurd cc in
            h.children.have q own_id c is (ap (λ (x : Slot). borne_in (place_of x)) (sym (others_after q ne not_child)) ∙ bears_it)

    -- ---- ends of pipes, and locks

    calm : is_calm (place_of (slot_at s n)) ≡ true
    calm = ap is_calm v.place ∙ borne_calm at id v.borne

    calm_after : is_calm (place_of k) ≡ true
    calm_after = ap is_calm stands ∙ borne_calm next id bears

    ends : (j : ℕ) → EndsStandAt names a.objects (place_of (slots_after j)) (rows_of sp (slots_after j).directory) (a.slots j)
    ends =
        of_slots n m (λ j. EndsStandAt names a.objects (place_of (slots_after j)) (rows_of sp (slots_after j).directory) (a.slots j))
        (subst (λ (x : Slot). EndsStandAt names a.objects (place_of x) (rows_of sp x.directory) (a.slots n)) (sym parent_after)
        (subst (λ (y : AbstractSlot). EndsStandAt names a.objects (place_of k) (rows_of sp k.directory) y) (sym v.is)
        (ends_moved (calm_places calm calm_after) (λ fd. refl) (λ fd name is. refl) (λ fd below. own_pipes (pipe_page fd) (pipe_is fd below).0)
        (λ fd x below is. refl) (ends_at h n v.b v.is))))
        (subst (λ (y : AbstractSlot). EndsStandAt names a.objects (place_of (slots_after m)) (rows_of sp (slots_after m).directory) y) (sym v.child_is) tt)
        (λ j ne apart. subst (λ (x : Slot). EndsStandAt names a.objects (place_of x) (rows_of sp x.directory) (a.slots j)) (sym (others_after j ne apart))
        (ends_stay names names s.spaces sp a.objects (slot_at s j) (a.slots j) (h.slots j) (λ live. but_pipes (others_seen j ne apart live)) (h.ends j)))

    -- neither of the two holds a lock
    holds_none : locked_at (place_of (slot_at s n)) ≡ None
    holds_none = calm_locked (place_of (slot_at s n)) calm

    holds_none_after : locked_at (place_of (slots_after n)) ≡ None
    holds_none_after = ap (λ (x : Slot). locked_at (place_of x)) parent_after ∙ calm_locked (place_of k) calm_after

    child_none : locked_at (place_of (slot_at s m)) ≡ None
    child_none = ap locked_at (words_of_none (slot_at s m).registers (slot_at s m).extra v.child_own.stack v.child_own.words)

    child_none_after : locked_at (place_of (slots_after m)) ≡ None
    child_none_after =
        ap (λ (x : Slot). locked_at (place_of x)) child_after
        ∙ ap locked_at (words_of_none child.registers child.extra child_own.stack child_own.words)

    -- who holds one is another
    holder_apart : (slots : ℕ → Slot) (q j fd : ℕ) → locked_at (place_of (slots q)) ≡ None → locked_at (place_of (slots j)) ≡ Some fd → j ≢ q
    holder_apart slots q j fd none locked here =
        none-some fd (sym none ∙ ap (λ (i : ℕ). locked_at (place_of (slots i))) (sym here) ∙ locked)

    -- a page of a pipe that the parent has was one before
    own_frame : (fd : ℕ) (x : Entry) → fd < DESCRIPTORS → rows_of sp k.directory (pipe_page fd) ≡ Some x → is_shared x.perm ≡ true →
        IsPipeFrame (logical s.spaces s.environments.slots) x.frame
    own_frame fd x below is shared_page =
        let page = pipe_is fd below in record {
          slot = n;
          fd = fd;
          below = below;
          entry = x;
          stands = logical_live s.spaces s.environments.slots n (clients_live h n v.b v.is) (pipe_page fd)
              ∙ ap (λ (q : Place). counted q (rows_of s.spaces (slot_at s n).directory) (pipe_page fd)) v.place
              ∙ shared_counts at (rows_of s.spaces (slot_at s n).directory) (pipe_page fd) x page.2 (sym (own_pipes (pipe_page fd) page.0) ∙ is) shared_page;
          shared = shared_page;
          same = refl;
        }

    -- and the child has none but the parent's
    child_pipes : (fd : ℕ) (x : Entry) → fd < DESCRIPTORS → rows_of sp child.directory (pipe_page fd) ≡ Some x →
        rows_of sp k.directory (pipe_page fd) ≡ Some x
    child_pipes fd x below is = by_test (is_passed next (pipe_page fd)) refl
      where
        handed : is_programs (pipe_page fd) || is_of_descriptor (pipe_page fd) ≡ true
        handed = ap (λ (c : Bool). is_programs (pipe_page fd) || c) (pipe_is fd below).1 ∙ or_true (is_programs (pipe_page fd))

        by_test : (c : Bool) → is_passed next (pipe_page fd) ≡ c → rows_of sp k.directory (pipe_page fd) ≡ Some x
        by_test true on = sym (its_child.handed (pipe_page fd) (pipe_is fd below).1 on) ∙ is
        by_test false off = absurd (none-some x (sym (its_child.rest (pipe_page fd) handed off) ∙ is))

    abbrev PipeWas : ℕ → Type 0
    PipeWas j = (fd : ℕ) (x : Entry) → fd < DESCRIPTORS → logical sp slots_after j (pipe_page fd) ≡ Some x → is_shared x.perm ≡ true →
        IsPipeFrame (logical s.spaces s.environments.slots) x.frame

    pipe_was : (j : ℕ) → PipeWas j
    pipe_was =
        of_slots n m (λ j. PipeWas j)
        (λ fd x below is shared_page.
        let found = (logical_some sp slots_after n (pipe_page fd) x is).1 in
        subst (λ (f : ℕ). IsPipeFrame (logical s.spaces s.environments.slots) f) found.frame
        (own_frame fd found.entry below (ap (λ (y : Slot). rows_of sp y.directory (pipe_page fd)) (sym parent_after) ∙ found.stands)
        (found.sharing shared_page)))
        (λ fd x below is shared_page.
        let found = (logical_some sp slots_after m (pipe_page fd) x is).1 in
        subst (λ (f : ℕ). IsPipeFrame (logical s.spaces s.environments.slots) f) found.frame
        (own_frame fd found.entry below
        (child_pipes fd found.entry below (ap (λ (y : Slot). rows_of sp y.directory (pipe_page fd)) (sym child_after) ∙ found.stands))
        (found.sharing shared_page)))
        (λ j ne apart fd x below is shared_page. record {
          slot = j;
          fd = fd;
          below = below;
          entry = x;
          stands = sym (others_count_too j ne apart (pipe_page fd)) ∙ is;
          shared = shared_page;
          same = refl;
        })

    locks : LocksStand sp.pages slots_after (logical sp slots_after)
    locks = locks_kept (record {
      back = λ j fd x below locked is.
          let ne = holder_apart slots_after n j fd holds_none_after locked in
          let apart = holder_apart slots_after m j fd child_none_after locked in (
            ap (λ (y : Slot). locked_at (place_of y)) (sym (others_after j ne apart)) ∙ locked,
            sym (others_count_too j ne apart (pipe_page fd)) ∙ is,
          );
      forth = λ j fd x below locked is.
          let ne = holder_apart s.environments.slots n j fd holds_none locked in
          let apart = holder_apart s.environments.slots m j fd child_none locked in (
            ap (λ (y : Slot). locked_at (place_of y)) (others_after j ne apart) ∙ locked,
            others_count_too j ne apart (pipe_page fd) ∙ is,
          );
      were = pipe_was;
      bytes = λ j fd x below is shared_page.
          let found = (logical_some s.spaces s.environments.slots j (pipe_page fd) x is).1 in
          ap (λ (page : List ℕ). lock_of page)
          (subst (λ (f : ℕ). sp.pages f ≡ s.spaces.pages f) found.frame
          (bytes (slot_at s j).directory (pipe_page fd) found.entry found.stands));
    }) h.locks

    -- ---- the whole

    abbrev state_after : KernelState
    state_after = with_slot_at (with_slot_at (with_spaces s sp) m child) n k

    turned : RowsStand names sp.pages a.shared (things_in state_after a) a.next_name (logical sp slots_after)
    turned = rows_turned (ap (λ (x : Slot). rows_of sp x.directory) server_after ∙ server_seen.rows) rows

    pub bearing_stands : StandsFor names state_after a
    bearing_stands =
        let child_lives : is_live_slot (slot_at s m) ≡ true = live_stands h m ∙ ap (λ (x : AbstractSlot). is_live x) v.child_is in
        let parent_is : upd s.environments.slots m child n ≡ slot_at s n = upd-other s.environments.slots m child n (λ same. v.apart (sym same)) in
        record {
          slots = slots_stand;
          children = record { borne = borne_still; have = have_still };
          apart = rows.apart;
          named = turned.named;
          users = rows.users;
          whole = rows.whole;
          beside = turned.beside;
          ends = ends;
          locks = locks;
          old = h.old;
          runs = turns_settle (upd s.environments.slots m child) n k (turns_settle s.environments.slots m child h.runs child_settles)
              (subst (λ (x : Slot). Settles x k) (sym parent_is) settles);
          free_slots = h.free_slots;
          first = h.first;
          server = server_same server_after (server_alike server_seen h.server);
          input = h.input;
          last = h.last;
          turns = h.turns;
          tabled = tabled_set (tabled_set h.tabled m child child_lives child_settles) n k
              (ap (λ (x : Slot). is_live_slot x) parent_is ∙ born_live v.own)
              (subst (λ (x : Slot). Settles x k) (sym parent_is) settles);
          in_order = in_order;
        }
