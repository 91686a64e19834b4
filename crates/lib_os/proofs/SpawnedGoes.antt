-- Spawn that bears a child goes on to another of its steps, and nothing of it is seen: it has loaded a word, or stored one into a page of its own. The child
-- has at that step what it had, where its pages are to be the same at both.
use Rattle.std.proofs.Common.{◌≡◌, ◌≢◌, ◌∙◌, ◌==◌, ◌%◌, ◌||◌, ℕ, Bool, true, false, List, None, Some, is_some, refl, sym, ap, subst, arith, if◌then◌else◌}
use Rattle.std.specs.Prelude.{Option, nat_le, slice_index}
use Rattle.std.proofs.lemmas.Bool.Decides.{nat_tests}
use Rattle.std.proofs.lemmas.Option.{none-some, same_Some}
use Rattle.jos_base.specs.declared.numbers.TheConstants.{NENV}
use Rattle.jos_base.specs.declared.registers.Regs.{Regs}
use Rattle.jos_base.specs.Environments.{Slot}
use Rattle.jos_base.specs.KernelState.{KernelState, slot_at, with_extra, with_spaces}
use Rattle.jos_base.specs.Reach.{Entry}
use Rattle.jos_base.specs.SpacesState.{SpacesState}
use Rattle.jos_base.specs.UserMemory.{touched}
use Rattle.jos_base.specs.declared.memory.Access.TheVariants.{Read}
use Rattle.jos_base.specs.Words.{page_number, upd}
use Rattle.jos_elf.specs.Headers.{entry_count_of}
use Rattle.lib_os.specs.declared.numbers.TheConstants.{SERVICE_SPAWN, UXSTACK}
use Rattle.lib_os.specs.declared.place.Place.{Place}
use Rattle.lib_os.specs.declared.place.Place.TheVariants as place
use Rattle.lib_os.specs.declared.place.Step.TheVariants as step
use Rattle.lib_os.specs.declared.service.Service.{Service}
use Rattle.lib_os.specs.declared.service.Service.TheVariants as service
use Rattle.lib_os.specs.declared.spawn_steps.SpawnStep.{SpawnStep}
use Rattle.lib_os.specs.AbstractMemory.{has_page_in}
use Rattle.lib_os.specs.AbstractState.{AbstractSlot, AbstractState, Born, ImageRead, born, is_live, unborn}
use Rattle.lib_os.specs.InOrder.{IsInOrder}
use Rattle.lib_os.specs.LibraryPages.{IsOwnWritable, View, is_library_region}
use Rattle.lib_os.specs.Places.{place_of}
use Rattle.lib_os.specs.Rows.{EntryRow, Names, counted, is_cow, is_of_descriptor, is_programs, is_shared, page_seen, rows_of}
use Rattle.lib_os.specs.SpawnedChild.{IsHere, IsProgress, IsSpawned, Loads, Progress, bytes_replied, child_page, handler_of, page_here, passing}
use Rattle.lib_os.specs.SpawnedChild.{registers_of, spawning_child}
use Rattle.lib_os.specs.SpawnPages.{is_childs}
use Rattle.lib_os.specs.StandsAtSpawn.{StandsAtSpawn}
use Rattle.lib_os.specs.StandsFor.{HasChildren, IsBorneBy, StandsAt, StandsFor, StandsForBorn, StandsForSlot, StandsForUnborn, borne_in, by_fork, by_spawn}
use Rattle.lib_os.specs.StandsFor.{view_of}
use Rattle.lib_os.proofs.BytesKept.{StandsBeside}
use Rattle.lib_os.proofs.Children.{of_parent}
use Rattle.lib_os.proofs.CopiesStand.{born_back}
use Rattle.lib_os.proofs.DescriptorLooks.{loaded_view}
use Rattle.lib_os.proofs.Loading.{loaded}
use Rattle.lib_os.proofs.Numbered.{named_at}
use Rattle.lib_os.proofs.PipesStand.{PlacesAlike, calm_places, descriptors_turned, is_calm}
use Rattle.lib_os.proofs.Serving.{holds_page, library_moved, plain_copy, plain_upcall, plain_working}
use Rattle.lib_os.proofs.SlotsStand.{born_at, born_live, live_stands}
use Rattle.lib_os.proofs.SpawnOwnPages.{spawn_part, spawn_there, spawn_words, spawns_at}
use Rattle.lib_os.proofs.StatesStand.{CountsAlike, others_counts, quiet_stands, slot_becomes}
use Rattle.lib_os.proofs.Touching.{touched_quiet}
use Rattle.lib_os.proofs.UnseenMoved.{unseen_moved_with}
use Rattle.lib_os.proofs.WordsTell.{is_in_handler, outside_stack, place_at}
use Rattle.jos_base.proofs.Maps.{upd-at, upd-other}

-- ---- the child

-- what spawn's child has, where its parent stands at a step
pub record HasOfImage (names : Names) (s : SpacesState) (parent : Slot) (b : Born) (at : SpawnStep) (k : Slot) (id : ℕ) : Type 0 where
  pub image : ImageRead
  pub file : List ℕ
  pub loads : Loads (id % NENV) image b.spawning (bytes_replied b.phase) file
  pub progress : Progress
  pub is_so : IsProgress (entry_count_of (slice_index image.header)) at progress
  pub registers : k.registers ≡ registers_of progress.registers parent.registers image
  pub upcall : k.upcall ≡ handler_of progress.handler
  pub memory : (p : ℕ) → is_programs p ≡ true → page_seen names s k.directory p ≡ child_page b image progress file p
  pub uncopied : (p : ℕ) (x : Entry) → is_programs p ≡ true → rows_of s k.directory p ≡ Some x → is_shared x.perm ≡ false → is_cow x.perm ≡ false
  pub handed : (p : ℕ) → is_of_descriptor p ≡ true → nat_le progress.passed p ≡ true → rows_of s k.directory p ≡ rows_of s parent.directory p
  pub rest : (p : ℕ) → is_of_descriptor p ≡ true → nat_le progress.passed p ≡ false → rows_of s k.directory p ≡ None
  pub handler_stack : progress.handler_stack ≡ true → IsOwnWritable (rows_of s k.directory) (page_number UXSTACK)
  pub no_handler_stack : progress.handler_stack ≡ false → rows_of s k.directory (page_number UXSTACK) ≡ None
  pub none : (p : ℕ) → is_programs p ≡ false → is_of_descriptor p ≡ false → (p == page_number UXSTACK) ≡ false → rows_of s k.directory p ≡ None
  pub tables : (r : ℕ) → is_some (s.regions k.directory r) ≡ true →
      has_page_in (child_page b image (passing (entry_count_of (slice_index image.header)) 0) file) r || is_library_region r ≡ true
  pub here : (p : ℕ) → is_childs at p ≡ true → IsHere (rows_of s parent.directory) (rows_of s k.directory) p (page_here at)

pub spawned_child : {names : Names} {s : SpacesState} {parent : Slot} {parent_is : AbstractSlot} {b : Born} {at : SpawnStep} {k : Slot} (id path argv : ℕ) →
    parent_is ≡ born b → place_of parent ≡ spawns_at path argv at → spawning_child at ≡ Some id → HasOfImage names s parent b at k id →
    IsSpawned names s parent parent_is k id b.id
spawned_child {b = b} {at = at} id path argv is stands bears h = record {
  b = b;
  born_by = is;
  named = refl;
  path = path;
  argv = argv;
  at_step = at;
  at = stands;
  borne = bears;
  image = h.image;
  file = h.file;
  loads = h.loads;
  progress = h.progress;
  is_so = h.is_so;
  registers = h.registers;
  upcall = h.upcall;
  memory = h.memory;
  uncopied = h.uncopied;
  handed = h.handed;
  rest = h.rest;
  handler_stack = h.handler_stack;
  no_handler_stack = h.no_handler_stack;
  none = h.none;
  tables = h.tables;
  here = h.here;
}

pub same_born : (b c : Born) → ◌≡◌ {A = AbstractSlot} (born b) (born c) → b ≡ c
same_born b c same = cc

same_step : (path argv other_path other_argv : ℕ) (at to : SpawnStep) → spawns_at path argv at ≡ spawns_at other_path other_argv to → at ≡ to
same_step path argv other_path other_argv at to same = cc

pub spawned_has : {names : Names} {s : SpacesState} {parent : Slot} {parent_is : AbstractSlot} {k : Slot} {id parent_id : ℕ} (b : Born) (path argv : ℕ)
    (at : SpawnStep) → parent_is ≡ born b → place_of parent ≡ spawns_at path argv at → IsBorneBy names s parent parent_is k id parent_id →
    HasOfImage names s parent b at k id
spawned_has b path argv at is stands (by_fork h) =
    let contradiction : place.InService service.Fork h.step ≡ spawns_at path argv at = sym h.at ∙ stands in absurd cc
spawned_has {names = names} {s = s} {parent = parent} {k = k} {id = id} b path argv at is stands (by_spawn h) =
    subst (λ (c : Born). HasOfImage names s parent c at k id) (same_born h.b b (sym h.born_by ∙ is))
    (subst (λ (t : SpawnStep). HasOfImage names s parent h.b t k id) (same_step h.path h.argv path argv h.at_step at (sym h.at ∙ stands)) (record {
      image = h.image;
      file = h.file;
      loads = h.loads;
      progress = h.progress;
      is_so = h.is_so;
      registers = h.registers;
      upcall = h.upcall;
      memory = h.memory;
      uncopied = h.uncopied;
      handed = h.handed;
      rest = h.rest;
      handler_stack = h.handler_stack;
      no_handler_stack = h.no_handler_stack;
      none = h.none;
      tables = h.tables;
      here = h.here;
    }))

-- ---- the same child at another step

-- There is a progress that is so at a step, by which the child has the same as by another.
pub record GoesWith (b : Born) (image : ImageRead) (file : List ℕ) (before : Progress) (to : SpawnStep) : Type 0 where
  pub progress : Progress
  pub is_so : IsProgress (entry_count_of (slice_index image.header)) to progress
  pub registers : progress.registers ≡ before.registers
  pub handler : progress.handler ≡ before.handler
  pub handler_stack : progress.handler_stack ≡ before.handler_stack
  pub passed : progress.passed ≡ before.passed
  pub pages : (p : ℕ) → is_programs p ≡ true → child_page b image before file p ≡ child_page b image progress file p

-- So it is of whatever image spawn loads from one step to another.
abbrev pub Goes : Born → ℕ → SpawnStep → SpawnStep → Type 0
Goes b id from to =
    (image : ImageRead) (file : List ℕ) (progress : Progress) → Loads (id % NENV) image b.spawning (bytes_replied b.phase) file →
    IsProgress (entry_count_of (slice_index image.header)) from progress → GoesWith b image file progress to

-- what is so of the progress at the one is so at the other
pub goes_still : {b : Born} (id : ℕ) (from to : SpawnStep) → ((n : ℕ) (progress : Progress) → IsProgress n from progress → IsProgress n to progress) →
    Goes b id from to
goes_still id from to still image file progress loads is_so = record {
  progress = progress;
  is_so = still (entry_count_of (slice_index image.header)) progress is_so;
  registers = refl;
  handler = refl;
  handler_stack = refl;
  passed = refl;
  pages = λ p inside. refl;
}

-- what stands in both spaces is told of no other page there
abbrev pub HereStill : SpawnStep → SpawnStep → Type 0
HereStill from to = (q : ℕ) → page_here to ≡ Some q → page_here from ≡ Some q

module _ {names : Names} {s : SpacesState} {parent : Slot} {b : Born} {k : Slot} {id : ℕ} (from to : SpawnStep)
    (childs : (p : ℕ) → is_childs to p ≡ true → is_childs from p ≡ true) (told : HereStill from to) (words : List ℕ) where
  -- whatever its parent's words are
  pub goes_with : (x : HasOfImage names s parent b from k id) → GoesWith b x.image x.file x.progress to →
      HasOfImage names s (record parent { extra = words }) b to k id
  goes_with x g = record {
    image = x.image;
    file = x.file;
    loads = x.loads;
    progress = g.progress;
    is_so = g.is_so;
    registers = x.registers ∙ ap (λ (c : Bool). registers_of c parent.registers x.image) (sym g.registers);
    upcall = x.upcall ∙ ap handler_of (sym g.handler);
    memory = λ p inside. x.memory p inside ∙ g.pages p inside;
    uncopied = x.uncopied;
    handed = λ p is on. x.handed p is (ap (λ (q : ℕ). nat_le q p) (sym g.passed) ∙ on);
    rest = λ p is off. x.rest p is (ap (λ (q : ℕ). nat_le q p) (sym g.passed) ∙ off);
    handler_stack = λ on. x.handler_stack (sym g.handler_stack ∙ on);
    no_handler_stack = λ off. x.no_handler_stack (sym g.handler_stack ∙ off);
    none = x.none;
    tables = x.tables;
    here = λ p is.
        let it = x.here p (childs p is) in
        record {
          place = it.place;
          is_told = λ q at. it.is_told q (told q at);
          programs = it.programs;
          here = it.here;
          there = it.there;
          here_is = it.here_is;
          there_is = it.there_is;
          own_page = it.own_page;
          user = it.user;
          same = it.same;
        };
  }

-- ---- all children

same_unborn : (id parent other others_parent : ℕ) → unborn id parent ≡ unborn other others_parent → (id ≡ other) × (parent ≡ others_parent)
same_unborn id parent other others_parent same = (cc, cc)

-- who is not born stands in the slot that its id names
pub unborn_named : {names : Names} {s : KernelState} {a : AbstractState} → StandsFor names s a → (m id parent : ℕ) → a.slots m ≡ unborn id parent →
    id % NENV ≡ m
unborn_named {names = names} {s = s} h m id parent is =
    let own : StandsForUnborn (slot_at s m) id parent = subst (λ (y : AbstractSlot). StandsForSlot names s.spaces (slot_at s m) y) is (h.slots m) in
    ap (λ (q : ℕ). q % NENV) (sym own.id_is) ∙ h.tabled.ids m (live_stands h m ∙ ap (λ (x : AbstractSlot). is_live x) is)

-- Only the parent has gone on, to another step at which it bears the same child.
module _ {names : Names} {sp : SpacesState} {slots : ℕ → Slot} {abstract : ℕ → AbstractSlot} (children : HasChildren names sp slots abstract)
    (ids : (m id parent : ℕ) → abstract m ≡ unborn id parent → id % NENV ≡ m) (n path argv id : ℕ) (b : Born) (is : abstract n ≡ born b)
    (named : b.id % NENV ≡ n) (from to : SpawnStep) (stands : place_of (slots n) ≡ spawns_at path argv from) (bears : spawning_child from ≡ Some id) where
  abbrev m : ℕ
  m = id % NENV

  borne_id : borne_in (place_of (slots n)) ≡ Some id
  borne_id = ap borne_in stands ∙ bears

  pub child_unborn : abstract m ≡ unborn id b.id
  child_unborn = children.have n id b is borne_id

  pub child_has : HasOfImage names sp (slots n) b from (slots m) id
  child_has =
      spawned_has b path argv from is stands
      (subst (λ (q : ℕ). IsBorneBy names sp (slots q) (abstract q) (slots m) id b.id) named (children.borne m id b.id child_unborn))

  pub child_apart : m ≢ n
  child_apart same = let contradiction : born b ≡ unborn id b.id = sym is ∙ ap abstract (sym same) ∙ child_unborn in absurd cc

  module _ (k : Slot) (there : place_of k ≡ spawns_at path argv to) (bears_after : spawning_child to ≡ Some id)
      (has : HasOfImage names sp k b to (slots m) id) where
    abbrev slots_after : ℕ → Slot
    slots_after = upd slots n k

    abbrev Bears : ℕ → ℕ → ℕ → Type 0
    Bears j own_id parent = IsBorneBy names sp (slots_after (parent % NENV)) (abstract (parent % NENV)) (slots_after j) own_id parent

    its_borne : Bears m id b.id
    its_borne =
        subst (λ (q : ℕ). IsBorneBy names sp (slots_after q) (abstract q) (slots_after m) id b.id) (sym named)
        (subst (λ (x : Slot). IsBorneBy names sp (slots_after n) (abstract n) x id b.id) (sym (upd-other slots n k m child_apart))
        (subst (λ (x : Slot). IsBorneBy names sp x (abstract n) (slots m) id b.id) (sym (upd-at slots n k))
        (by_spawn (spawned_child id path argv is there bears_after has))))

    others_borne : (j own_id parent : ℕ) → j ≢ m → abstract j ≡ unborn own_id parent → Bears j own_id parent
    others_borne j own_id parent apart at =
        let was = children.borne j own_id parent at in
        let parents = of_parent was in
        let not_parent : j ≢ n = λ same. let contradiction : born b ≡ unborn own_id parent = sym is ∙ ap abstract (sym same) ∙ at in absurd cc in
        let other_parent : parent % NENV ≢ n = λ same.
        let one : own_id ≡ id = same_Some own_id id (sym parents.bears ∙ ap (λ (q : ℕ). borne_in (place_of (slots q))) same ∙ borne_id) in
        apart (sym (ids j own_id parent at) ∙ ap (λ (q : ℕ). q % NENV) one) in
        subst (λ (x : Slot). IsBorneBy names sp x (abstract (parent % NENV)) (slots_after j) own_id parent)
        (sym (upd-other slots n k (parent % NENV) other_parent))
        (subst (λ (x : Slot). IsBorneBy names sp (slots (parent % NENV)) (abstract (parent % NENV)) x own_id parent)
        (sym (upd-other slots n k j not_parent)) was)

    borne_still : (j own_id parent : ℕ) → abstract j ≡ unborn own_id parent → Bears j own_id parent
    borne_still j own_id parent at = by_child (j == m) refl
      where
        by_child : (c : Bool) → (j == m) ≡ c → Bears j own_id parent
        by_child true test =
            let here : m ≡ j = grind (arith, nat_tests, test) in
            let same = same_unborn id b.id own_id parent (sym child_unborn ∙ ap abstract here ∙ at) in
            subst (λ (q : ℕ). Bears q own_id parent) here
            (subst (λ (q : ℕ). Bears m q parent) same.0 (subst (λ (q : ℕ). Bears m id q) same.1 its_borne))
        by_child false test = others_borne j own_id parent (grind (arith, nat_tests, test)) at

    have_still : (q own_id : ℕ) (c : Born) → abstract q ≡ born c → borne_in (place_of (slots_after q)) ≡ Some own_id →
        abstract (own_id % NENV) ≡ unborn own_id c.id
    have_still q own_id c at bears_it = by_parent (q == n) refl
      where
        by_parent : (t : Bool) → (q == n) ≡ t → abstract (own_id % NENV) ≡ unborn own_id c.id
        by_parent true test =
            let here : q ≡ n = grind (arith, nat_tests, test) in
            let same : b ≡ c = same_born b c (sym is ∙ ap abstract (sym here) ∙ at) in
            let it_bears : borne_in (place_of (slots_after n)) ≡ Some id =
            ap (λ (x : Slot). borne_in (place_of x)) (upd-at slots n k) ∙ ap borne_in there ∙ bears_after in
            let one : id ≡ own_id = same_Some id own_id (sym it_bears ∙ ap (λ (j : ℕ). borne_in (place_of (slots_after j))) (sym here) ∙ bears_it) in
            subst (λ (j : ℕ). abstract (j % NENV) ≡ unborn j c.id) one (child_unborn ∙ ap (λ (x : Born). unborn id x.id) same)
        by_parent false test =
            let ne : q ≢ n = grind (arith, nat_tests, test) in
            children.have q own_id c at (ap (λ (x : Slot). borne_in (place_of x)) (sym (upd-other slots n k q ne)) ∙ bears_it)

    pub children_go_on : HasChildren names sp slots_after abstract
    children_go_on = record { borne = borne_still; have = have_still }

-- ---- spawn that bears a child

-- an environment that bears one in spawn, and its child
pub record IsSpawner (names : Names) (s : KernelState) (a : AbstractState) (n path argv : ℕ) (at : SpawnStep) (id : ℕ) (b : Born) : Type 0 where
  pub is : a.slots n ≡ born b
  pub own : StandsForBorn names s.spaces (slot_at s n) b
  pub place : place_of (slot_at s n) ≡ spawns_at path argv at
  pub bears : spawning_child at ≡ Some id
  pub child_is : a.slots (id % NENV) ≡ unborn id b.id
  pub child_own : StandsForUnborn (slot_at s (id % NENV)) id b.id
  pub child : HasOfImage names s.spaces (slot_at s n) b at (slot_at s (id % NENV)) id
  pub apart : id % NENV ≢ n
  pub named : b.id % NENV ≡ n

-- its slot is that which its id names
pub born_named : {names : Names} {s : KernelState} {a : AbstractState} → StandsFor names s a → (n : ℕ) (b : Born) → a.slots n ≡ born b → b.id % NENV ≡ n
born_named h n b is = ap (λ (q : ℕ). q % NENV) (sym (born_at h n b is).id) ∙ h.tabled.ids n (born_live (born_at h n b is))

pub spawner : {names : Names} {s : KernelState} {a : AbstractState} (h : StandsFor names s a) (n path argv id : ℕ) (at : SpawnStep)
    (stands : place_of (slot_at s n) ≡ spawns_at path argv at) → spawning_child at ≡ Some id →
    IsSpawner names s a n path argv at id (spawn_there h n path argv at stands).b
spawner {names = names} {s = s} {a = a} h n path argv id at stands bears =
    let it = spawn_there h n path argv at stands in
    let named = born_named h n it.b it.is in
    let child_is = child_unborn h.children (unborn_named h) n path argv id it.b it.is named at at stands bears in
    record {
      is = it.is;
      own = it.own;
      place = stands;
      bears = bears;
      child_is = child_is;
      child_own = subst (λ (slot : AbstractSlot). StandsForSlot names s.spaces (slot_at s (id % NENV)) slot) child_is (h.slots (id % NENV));
      child = child_has h.children (unborn_named h) n path argv id it.b it.is named at at stands bears;
      apart = child_apart h.children (unborn_named h) n path argv id it.b it.is named at at stands bears;
      named = named;
    }

-- ---- it has gone on

-- its words alone are others
module _ (k : Slot) (path argv : ℕ) (from to : SpawnStep) (stands : place_of k ≡ spawns_at path argv from) where
  abbrev went : Slot
  went = record k { extra = spawn_words to }

  pub went_place : place_of went ≡ spawns_at path argv to
  went_place =
      place_at k.registers SERVICE_SPAWN (step.Spawning to) (outside_stack k.registers k.extra (spawns_at path argv from) stands refl)
      ∙ ap (λ (x : Service). place.InService x (step.Spawning to)) (named_at k (service.Spawn path argv) (step.Spawning from) stands)

  -- its own part, with the same pages
  pub went_own : holds_page (spawns_at path argv from) ≡ holds_page (spawns_at path argv to) → {names : Names} {s : SpacesState} {b : Born} →
      StandsForBorn names s k b → StandsAtSpawn (view_of s k.directory) went b path argv to → StandsForBorn names s went b
  went_own held {names = names} {s = s} {b = b} own so =
      let plain : is_in_handler (place_of k) ≡ false = ap is_in_handler stands in
      let plain_after : is_in_handler (place_of went) ≡ false = ap is_in_handler went_place in
      record {
        id = own.id;
        id_small = own.id_small;
        parent = own.parent;
        env_type = own.env_type;
        runs = own.runs;
        upcall = own.upcall ∙ plain_upcall (place_of k) plain ∙ sym (plain_upcall (place_of went) plain_after);
        descriptors = descriptors_turned names s k.directory (place_of k) (place_of went) b.descriptors (ap is_calm stands) (ap is_calm went_place)
            own.descriptors;
        memory = own.memory;
        library = library_moved (place_of k) (place_of went) k.extra (spawn_words to) (rows_of s k.directory)
            (plain_copy (place_of k) plain ∙ sym (plain_copy (place_of went) plain_after))
            (plain_working (place_of k) k.extra plain ∙ ap holds_page stands ∙ held ∙ sym (ap holds_page went_place)
            ∙ sym (plain_working (place_of went) (spawn_words to) plain_after)) own.library;
        regions_have = own.regions_have;
        regions_only = own.regions_only;
        stack = own.stack;
        flags = own.flags;
        at = subst (λ (q : Place). StandsAt q (view_of s k.directory) went b) (sym went_place) so;
      }

-- entries count alike where the same are the child's
pub childs_alike : (path argv other_path other_argv : ℕ) (from to : SpawnStep) → ((p : ℕ) → is_childs from p ≡ is_childs to p) →
    CountsAlike (spawns_at path argv from) (spawns_at other_path other_argv to)
unfolding counted
childs_alike path argv other_path other_argv from to same row p = ap (λ (c : Bool). if c then None else row p) (sym (same p))

module _ {names : Names} {s : KernelState} {a : AbstractState} (h : StandsFor names s a) (n path argv id : ℕ) (from to : SpawnStep)
    (stands : place_of (slot_at s n) ≡ spawns_at path argv from) (bears : spawning_child from ≡ Some id) (bears_after : spawning_child to ≡ Some id)
    (held : holds_page (spawns_at path argv from) ≡ holds_page (spawns_at path argv to)) (childs : (p : ℕ) → is_childs from p ≡ is_childs to p)
    (told : HereStill from to) where
  abbrev home : ℕ
  home = (slot_at s n).directory

  abbrev moved : Slot
  moved = record (slot_at s n) { extra = spawn_words to }

  spawned_at : place_of moved ≡ spawns_at path argv to
  spawned_at = went_place (slot_at s n) path argv from to stands

  alike : CountsAlike (place_of (slot_at s n)) (place_of moved)
  alike =
      subst (λ (q : Place). CountsAlike q (place_of moved)) (sym stands)
      (subst (λ (q : Place). CountsAlike (spawns_at path argv from) q) (sym spawned_at) (childs_alike path argv path argv from to childs))

  places : PlacesAlike (place_of (slot_at s n)) (place_of moved)
  places = calm_places (ap is_calm stands) (ap is_calm spawned_at)

  its_children : {sp : SpacesState} (b : Born) (is : a.slots n ≡ born b) → HasChildren names sp s.environments.slots a.slots → Goes b id from to →
      HasChildren names sp (upd s.environments.slots n moved) a.slots
  its_children b is children goes =
      let named = born_named h n b is in
      let x = child_has children (unborn_named h) n path argv id b is named from to stands bears in
      children_go_on children (unborn_named h) n path argv id b is named from to stands bears moved spawned_at bears_after
      (goes_with from to (λ p on. childs p ∙ on) told (spawn_words to) x (goes x.image x.file x.progress x.loads x.is_so))

  -- behind a store into a page of its own
  pub borne_stored : (sp : SpacesState) → StandsBeside names s a sp n → s.last ≡ Some n → Goes (spawn_there h n path argv from stands).b id from to →
      StandsAtSpawn (view_of sp home) moved (spawn_there h n path argv from stands).b path argv to →
      StandsFor names (with_extra (with_spaces s sp) n (spawn_words to)) a
  borne_stored sp beside last goes so =
      let it = spawn_there h n path argv from stands in
      unseen_moved_with h n it.b it.is beside moved (spawn_part h n path argv from stands sp beside to held so) refl
      (record { id = refl; env_type = refl; turns = refl; calm = λ runs. runs }) alike places (others_counts h n last sp)
      (its_children it.b it.is beside.children goes)

  -- where spaces are what they were
  pub borne_went : (b : Born) (is : a.slots n ≡ born b) → Goes b id from to → StandsAtSpawn (view_of s.spaces home) moved b path argv to →
      StandsFor names (with_extra s n (spawn_words to)) a
  borne_went b is goes so =
      subst (λ (x : AbstractState). StandsFor names (with_extra s n (spawn_words to)) x) (born_back a n b is)
      (slot_becomes h n b is moved b refl (record { id = refl; env_type = refl; turns = refl; calm = λ runs. runs }) alike
      (subst (λ (f : ℕ → AbstractSlot). HasChildren names s.spaces (upd s.environments.slots n moved) f)
      (ap (λ (x : AbstractState). x.slots) (sym (born_back a n b is))) (its_children b is h.children goes))
      (went_own (slot_at s n) path argv from to stands held (born_at h n b is) so) places (λ fd. refl))

-- behind a load
pub borne_loaded : {names : Names} {s : KernelState} {a : AbstractState} (h : StandsFor names s a) (n path argv id : ℕ) (from to : SpawnStep)
    (stands : place_of (slot_at s n) ≡ spawns_at path argv from) → spawning_child from ≡ Some id → spawning_child to ≡ Some id →
    holds_page (spawns_at path argv from) ≡ holds_page (spawns_at path argv to) → ((p : ℕ) → is_childs from p ≡ is_childs to p) → HereStill from to →
    (va : ℕ) → IsInOrder (loaded s n va) → Goes (spawn_there h n path argv from stands).b id from to →
    StandsAtSpawn (view_of s.spaces (slot_at s n).directory) (record (slot_at s n) { extra = spawn_words to }) (spawn_there h n path argv from stands).b path
    argv to → StandsFor names (with_extra (loaded s n va) n (spawn_words to)) a
borne_loaded {names = names} {s = s} h n path argv id from to stands bears bears_after held childs told va order goes so =
    let it = spawn_there h n path argv from stands in
    let after = quiet_stands h (touched_quiet s.spaces (slot_at s n).directory va Read) order in
    borne_went after n path argv id from to stands bears bears_after held childs told it.b it.is goes
    (subst (λ (w : View). StandsAtSpawn w (record (slot_at s n) { extra = spawn_words to }) it.b path argv to)
    (sym (loaded_view s n va (slot_at s n).directory)) so)
