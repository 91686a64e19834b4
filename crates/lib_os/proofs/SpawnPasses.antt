-- Spawn passes on to its child what it shares, from the greatest page downwards: where nothing is shared on the way, the child has at a lower page what it had at a
-- higher one.
use Rattle.std.proofs.Common.{◌≡◌, ◌+◌, ◌≢◌, ◌∙◌, ◌%◌, ◌<◌, ◌≤◌, ℕ, Bool, true, false, List, Some, None, refl, sym, ap, subst, arith, if◌then◌else◌}
use Rattle.std.specs.Prelude.{Option, nat_le, slice_index}
use Rattle.std.proofs.lemmas.Bool.{false≢true}
use Rattle.std.proofs.lemmas.Bool.Decides.{nat_tests}
use Rattle.jos_base.specs.declared.numbers.TheConstants.{NENV}
use Rattle.jos_base.specs.Environments.{Slot}
use Rattle.jos_base.specs.KernelState.{KernelState, slot_at, with_extra}
use Rattle.jos_base.specs.SpacesState.{SpacesState}
use Rattle.jos_base.specs.Words.{upd}
use Rattle.jos_elf.specs.Headers.{entry_count_of}
use Rattle.lib_os.specs.declared.place.Place.{Place}
use Rattle.lib_os.specs.declared.place.Step.TheVariants as step
use Rattle.lib_os.specs.declared.service.Service.TheVariants as service
use Rattle.lib_os.specs.declared.spawn_steps.SpawnStep.{SpawnStep}
use Rattle.lib_os.specs.AbstractSpawn.{under_shared}
use Rattle.lib_os.specs.AbstractState.{AbstractState, Born, Page}
use Rattle.lib_os.specs.Places.{place_of}
use Rattle.lib_os.specs.Rows.{EntryRow, Names, is_of_descriptor, is_programs, logical, rows_of}
use Rattle.lib_os.specs.SpawnedChild.{IsProgress, Progress, child_page, handler_of, own_page, passing, registers_of, spawning_child}
use Rattle.lib_os.specs.SpawnPages.{is_childs}
use Rattle.lib_os.specs.StandsAtSpawn.{IsClosed, StandsAtSpawn}
use Rattle.lib_os.specs.StandsFor.{StandsFor, view_of}
use Rattle.lib_os.proofs.EntriesStand.{rows_same, rows_stand}
use Rattle.lib_os.proofs.Serving.{IsServed, holds_page}
use Rattle.lib_os.proofs.SpawnedGoes.{HasOfImage, IsSpawner, childs_alike, spawner, went_own, went_place}
use Rattle.lib_os.proofs.SpawnedMoves.{spawning_moves}
use Rattle.lib_os.proofs.SpawnOwnPages.{spawn_there, spawn_words, spawns_at}
use Rattle.lib_os.proofs.StatesStand.{CountsAlike, same_space, set_counts}

-- ---- what is not shared

-- of the pages from one to another nothing is shared
pub record NoneShared (b : Born) (row : EntryRow) (low high : ℕ) : Type 0 where
  pub memory : (p : ℕ) → is_programs p ≡ true → low ≤ p → p < high → (q : Option Page) → under_shared (b.memory p) q ≡ q
  pub descriptors : (p : ℕ) → is_of_descriptor p ≡ true → low ≤ p → p < high → row p ≡ None

-- of one page it is so, where that is not shared
pub none_shared_one : (b : Born) (row : EntryRow) (page : ℕ) → (is_programs page ≡ true → (q : Option Page) → under_shared (b.memory page) q ≡ q) →
    (is_of_descriptor page ≡ true → row page ≡ None) → NoneShared b row page (page + 1)
none_shared_one b row page memory descriptor = record {
  memory = λ p inside at_least lower.
      let here : page ≡ p = omega (arith, at_least, lower) in
      subst (λ (r : ℕ). is_programs r ≡ true → (q : Option Page) → under_shared (b.memory r) q ≡ q) here memory inside;
  descriptors = λ p is at_least lower.
      let here : page ≡ p = omega (arith, at_least, lower) in
      subst (λ (r : ℕ). is_of_descriptor r ≡ true → row r ≡ None) here descriptor is;
}

-- what is closed is so whatever its words are
pub closed_with : {k : Slot} {b : Born} {path argv child : ℕ} (words : List ℕ) → IsClosed k b path argv child →
    IsClosed (record k { extra = words }) b path argv child
closed_with words h = record {
  image = h.image;
  pieces = h.pieces;
  found = record {
    is_in = record {
      regs = h.found.is_in.regs;
      program = h.found.is_in.program;
      eax = h.found.is_in.eax;
      registers = h.found.is_in.registers;
      phase = h.found.is_in.phase;
      silent = h.found.is_in.silent;
      awake = h.found.is_in.awake;
    };
    is = h.found.is;
  };
  none_left = h.none_left;
  tested = h.tested;
}

-- ---- the child at a lower page

module _ {names : Names} {s : SpacesState} {parent : Slot} {b : Born} {k : Slot} {id : ℕ} (from to : SpawnStep) (low high : ℕ) (lower : low ≤ high)
    (was : (n : ℕ) (progress : Progress) → IsProgress n from progress → progress ≡ passing n high) (is : (n : ℕ) → IsProgress n to (passing n low))
    (none_childs : (p : ℕ) → is_childs to p ≡ false) (none : NoneShared b (rows_of s parent.directory) low high) where
  pub passed_to : HasOfImage names s parent b from k id → HasOfImage names s parent b to k id
  passed_to x = record {
    image = x.image;
    file = x.file;
    loads = x.loads;
    progress = passing (entry_count_of (slice_index x.image.header)) low;
    is_so = is (entry_count_of (slice_index x.image.header));
    registers = x.registers ∙ ap (λ (before : Progress). registers_of before.registers parent.registers x.image) was_so;
    upcall = x.upcall ∙ ap (λ (before : Progress). handler_of before.handler) was_so;
    memory = λ p inside.
        x.memory p inside ∙ ap (λ (before : Progress). child_page b x.image before x.file p) was_so
        ∙ by_place p inside (nat_le high p) refl (nat_le low p) refl;
    uncopied = x.uncopied;
    handed = λ p desc on. handed_so p desc on (nat_le high p) refl;
    rest = λ p desc off.
        let before : nat_le high p ≡ false = grind (arith, nat_tests, off, lower) in
        x.rest p desc (ap (λ (one : Progress). nat_le one.passed p) was_so ∙ before);
    handler_stack = λ on. x.handler_stack (ap (λ (before : Progress). before.handler_stack) was_so);
    no_handler_stack = λ off. absurd (false≢true (sym off));
    none = x.none;
    tables = x.tables;
    here = λ p childs. absurd (false≢true (sym (none_childs p) ∙ childs));
  }
    where
      was_so : x.progress ≡ passing (entry_count_of (slice_index x.image.header)) high
      was_so = was (entry_count_of (slice_index x.image.header)) x.progress x.is_so

      by_place : (p : ℕ) → is_programs p ≡ true → (c : Bool) → nat_le high p ≡ c → (d : Bool) → nat_le low p ≡ d →
          (if c then under_shared (b.memory p) (own_page x.image (passing (entry_count_of (slice_index x.image.header)) high) x.file p) else own_page x.image (passing (entry_count_of (slice_index x.image.header)) high) x.file p)
          ≡ (if d then under_shared (b.memory p) (own_page x.image (passing (entry_count_of (slice_index x.image.header)) low) x.file p) else own_page x.image (passing (entry_count_of (slice_index x.image.header)) low) x.file p)
      by_place p inside true above true over = refl
      by_place p inside false above false over = refl
      by_place p inside false above true over =
          let at_least : low ≤ p = grind (arith, nat_tests, over) in
          let below : p < high = grind (arith, nat_tests, above) in
          sym (none.memory p inside at_least below (own_page x.image (passing (entry_count_of (slice_index x.image.header)) low) x.file p))
      by_place p inside true above false over =
          absurd (let contradiction : false ≡ true = grind (arith, nat_tests, above, over, lower) in cc)

      handed_so : (p : ℕ) → is_of_descriptor p ≡ true → nat_le low p ≡ true → (c : Bool) → nat_le high p ≡ c →
          rows_of s k.directory p ≡ rows_of s parent.directory p
      handed_so p desc on true above = x.handed p desc (ap (λ (one : Progress). nat_le one.passed p) was_so ∙ above)
      handed_so p desc on false above =
          let at_least : low ≤ p = grind (arith, nat_tests, on) in
          let below : p < high = grind (arith, nat_tests, above) in
          x.rest p desc (ap (λ (one : Progress). nat_le one.passed p) was_so ∙ above) ∙ sym (none.descriptors p desc at_least below)

-- The parent's words are not told of a child.
pub has_moved : {names : Names} {s : SpacesState} {parent : Slot} {b : Born} {at : SpawnStep} {k : Slot} {id : ℕ} (words : List ℕ) →
    HasOfImage names s parent b at k id → HasOfImage names s (record parent { extra = words }) b at k id
has_moved words x = record {
  image = x.image;
  file = x.file;
  loads = x.loads;
  progress = x.progress;
  is_so = x.is_so;
  registers = x.registers;
  upcall = x.upcall;
  memory = x.memory;
  uncopied = x.uncopied;
  handed = x.handed;
  rest = x.rest;
  handler_stack = x.handler_stack;
  no_handler_stack = x.no_handler_stack;
  none = x.none;
  tables = x.tables;
  here = x.here;
}

-- ---- spawn has gone on, and nothing else is another

module _ {names : Names} {s : KernelState} {a : AbstractState} (h : StandsFor names s a) (n path argv id : ℕ) (from to : SpawnStep)
    (stands : place_of (slot_at s n) ≡ spawns_at path argv from) (bears : spawning_child from ≡ Some id) (bears_after : spawning_child to ≡ Some id)
    (held : holds_page (spawns_at path argv from) ≡ holds_page (spawns_at path argv to)) (childs : (p : ℕ) → is_childs from p ≡ is_childs to p) where
  abbrev it : IsServed names s a n (service.Spawn path argv) (step.Spawning from)
  it = spawn_there h n path argv from stands

  abbrev b : Born
  b = it.b

  abbrev moved : Slot
  moved = record (slot_at s n) { extra = spawn_words to }

  v : IsSpawner names s a n path argv from id b
  v = spawner h n path argv id from stands bears

  alike : CountsAlike (place_of (slot_at s n)) (place_of moved)
  alike =
      subst (λ (q : Place). CountsAlike q (place_of moved)) (sym stands)
      (subst (λ (q : Place). CountsAlike (spawns_at path argv from) q) (sym (went_place (slot_at s n) path argv from to stands))
      (childs_alike path argv path argv from to childs))

  pub spawner_goes : HasOfImage names s.spaces (slot_at s n) (spawn_there h n path argv from stands).b to (slot_at s (id % NENV)) id →
      StandsAtSpawn (view_of s.spaces (slot_at s n).directory) (record (slot_at s n) { extra = spawn_words to }) (spawn_there h n path argv from stands).b
      path argv to → StandsFor names (with_extra s n (spawn_words to)) a
  spawner_goes has so =
      spawning_moves h n path argv id from to b v bears_after s.spaces (λ d mine theirs. same_space names s.spaces d)
      (went_own (slot_at s n) path argv from to stands held it.own so) (has_moved (spawn_words to) has)
      (rows_same (logical s.spaces s.environments.slots) (logical s.spaces (upd s.environments.slots n moved)) (set_counts s n moved refl refl alike)
      (rows_stand h)) h.in_order (λ j ne piped runs fd x y below is lies device. (refl, refl)) (λ p pipes. refl) (λ d p x is shared_page. refl)
