-- Spawn gives its child the stack of its handler of page faults, and then the handler. Nothing of it is seen.
use Rattle.std.proofs.Common.{◌≡◌, ◌≢◌, ◌∙◌, ◌==◌, ◌%◌, ◌/◌, ◌&&◌, ◌||◌, ℕ, Bool, true, false, List, Some, None, refl, sym, ap, subst, arith}
use Rattle.std.specs.Prelude.{is_some, nat_le, slice_index}
use Rattle.std.proofs.lemmas.Bool.{false≢true}
use Rattle.std.proofs.lemmas.Bool.Decides.{nat_tests}
use Rattle.std.proofs.lemmas.Option.{none-some, same_Some}
use Rattle.jos_base.specs.declared.numbers.TheConstants.{FDTABLE, NENV, NPTENTRIES, USTACKTOP, UTEMP}
use Rattle.jos_base.specs.Environments.{Slot, is_live as is_live_slot}
use Rattle.jos_base.specs.KernelState.{KernelState, slot_at, with_extra, with_slot_at, with_spaces, with_upcall}
use Rattle.jos_base.specs.Reach.{Entry}
use Rattle.jos_base.specs.SpacesState.{SpacesState}
use Rattle.jos_base.specs.Words.{page_number, upd}
use Rattle.jos_base.proofs.Puts.{Elsewhere}
use Rattle.jos_elf.specs.Headers.{entry_count_of}
use Rattle.lib_os.specs.declared.numbers.TheConstants.{PGFAULT_UPCALL, SPAWN_HERE, SPAWN_STACK, UXSTACK}
use Rattle.lib_os.specs.declared.place.Place.{Place}
use Rattle.lib_os.specs.declared.place.Step.TheVariants as step
use Rattle.lib_os.specs.declared.service.Service.TheVariants as service
use Rattle.lib_os.specs.declared.spawn_steps.FinishingStep.TheVariants as finishing
use Rattle.lib_os.specs.declared.spawn_steps.SpawnStep.{SpawnStep}
use Rattle.lib_os.specs.declared.spawn_steps.SpawnStep.TheVariants as spawn
use Rattle.lib_os.specs.AbstractMemory.{has_page_in}
use Rattle.lib_os.specs.AbstractState.{AbstractState, Born}
use Rattle.lib_os.specs.InOrder.{IsInOrder}
use Rattle.lib_os.specs.LibraryPages.{View, is_library_region, region_index}
use Rattle.lib_os.specs.Places.{place_of}
use Rattle.lib_os.specs.Rows.{IsPage, IsUsers, Names, is_of_descriptor, is_shared, logical, rows_of}
use Rattle.lib_os.specs.SpawnedChild.{Progress, child_page, handler_of, passing, registers_of, whole, with_handler, with_handler_stack}
use Rattle.lib_os.specs.SpawnPages.{is_childs}
use Rattle.lib_os.specs.StandsAtSpawn.{HasAllBytes, HasStackFor}
use Rattle.lib_os.specs.StandsFor.{StandsFor, StandsForUnborn, things_in}
use Rattle.lib_os.proofs.Effects.{Made}
use Rattle.lib_os.proofs.EntriesStand.{PutsRow, named_bytes, rows_same, rows_stand, seen_at}
use Rattle.lib_os.proofs.Logical.{logical_some, programs_beside}
use Rattle.lib_os.proofs.PageBytes.{zero_page_whole}
use Rattle.lib_os.proofs.PagesStand.{other_regions, row_elsewhere, row_placed}
use Rattle.lib_os.proofs.PageTaken.{working_perm}
use Rattle.lib_os.proofs.Serving.{IsServed}
use Rattle.lib_os.proofs.Slots.{slot_kept}
use Rattle.lib_os.proofs.SpawnedGoes.{HasOfImage, IsSpawner, childs_alike, spawner, went_own, went_place}
use Rattle.lib_os.proofs.SpawnedMoves.{spawning_stands}
use Rattle.lib_os.proofs.SpawnGivesChild.{PutsInChild, given_bytes, giver_row, giver_stands, gives_child}
use Rattle.lib_os.proofs.SpawnKeeps.{none_childs}
use Rattle.lib_os.proofs.SpawnPagesTaken.{working_user}
use Rattle.lib_os.proofs.PassedOn.{or_true}
use Rattle.lib_os.proofs.SpawnOwnPages.{spawn_there, spawn_words, spawns_at}
use Rattle.lib_os.proofs.StatesStand.{CountsAlike, same_space, set_counts, slot_in_order}

-- ---- what is told whatever its words are

pub all_bytes_with : {v : View} {k : Slot} {b : Born} {path argv fd child : ℕ} (words : List ℕ) → HasAllBytes v k b path argv fd child →
    HasAllBytes v (record k { extra = words }) b path argv fd child
all_bytes_with words h = record {
  image = h.image;
  pieces = h.pieces;
  had = h.had;
  stage = h.stage;
  found = record {
    is_in = record {
      regs = h.found.is_in.regs;
      program = h.found.is_in.program;
      eax = h.found.is_in.eax;
      registers = h.found.is_in.registers;
      phase = h.found.is_in.phase;
      silent = h.found.is_in.silent;
      awake = h.found.is_in.awake;
    };
    is = h.found.is;
  };
  has = h.has;
  none_left = h.none_left;
  tested = h.tested;
  of_file = h.of_file;
}

pub stack_for_with : {v : View} {k : Slot} {b : Born} {path argv fd child : ℕ} (words : List ℕ) → HasStackFor v k b path argv fd child →
    HasStackFor v (record k { extra = words }) b path argv fd child
unfolding all_bytes_with
stack_for_with words h = record { has = all_bytes_with words h.has; esp = h.esp; stack = h.stack }

-- ---- the handler

module _ {names : Names} {s : KernelState} {a : AbstractState} (h : StandsFor names s a) (n path argv fd child : ℕ)
    (stands : place_of (slot_at s n) ≡ spawns_at path argv (spawn.Finishing (finishing.ChildUpcall fd child))) where
  abbrev from : SpawnStep
  from = spawn.Finishing (finishing.ChildUpcall fd child)

  abbrev to : SpawnStep
  to = spawn.Finishing (finishing.GivingStack fd child)

  abbrev it : IsServed names s a n (service.Spawn path argv) (step.Spawning from)
  it = spawn_there h n path argv from stands

  abbrev b : Born
  b = it.b

  abbrev m : ℕ
  m = child % NENV

  abbrev moved : Slot
  moved = record (slot_at s n) { extra = spawn_words to }

  abbrev handled : Slot
  handled = record (slot_at s m) { upcall = PGFAULT_UPCALL }

  v : IsSpawner names s a n path argv from child b
  v = spawner h n path argv child from stands refl

  still_unborn : StandsForUnborn handled child b.id
  still_unborn = record {
    id_is = v.child_own.id_is;
    id_small = v.child_own.id_small;
    parent_is = v.child_own.parent_is;
    env_type = v.child_own.env_type;
    status = v.child_own.status;
    silent = v.child_own.silent;
    words = v.child_own.words;
    stack = v.child_own.stack;
  }

  abbrev headers : ℕ
  headers = entry_count_of (slice_index v.child.image.header)

  has_handler : HasOfImage names s.spaces moved b to handled child
  has_handler =
      let x = v.child in
      record {
        image = x.image;
        file = x.file;
        loads = x.loads;
        progress = with_handler headers;
        is_so = refl;
        registers = x.registers ∙ ap (λ (before : Progress). registers_of before.registers (slot_at s n).registers x.image) x.is_so;
        upcall = refl;
        memory = λ p inside. x.memory p inside ∙ ap (λ (before : Progress). child_page b x.image before x.file p) x.is_so;
        uncopied = x.uncopied;
        handed = λ p is on. x.handed p is (ap (λ (before : Progress). nat_le before.passed p) x.is_so ∙ on);
        rest = λ p is off. x.rest p is (ap (λ (before : Progress). nat_le before.passed p) x.is_so ∙ off);
        handler_stack = λ on. x.handler_stack (ap (λ (before : Progress). before.handler_stack) x.is_so);
        no_handler_stack = λ off. absurd (false≢true (sym off));
        none = x.none;
        tables = x.tables;
        here = λ p is. absurd (false≢true (sym (none_its p) ∙ is));
      }
    where
      none_its : (p : ℕ) → is_childs to p ≡ false
      none_its p = none_childs (p == page_number SPAWN_HERE) (p == page_number SPAWN_STACK)

  abbrev running : KernelState
  running = with_slot_at s m handled

  bearer_was : slot_at running n ≡ slot_at s n
  bearer_was = slot_kept s m handled n (λ same. v.apart (sym same))

  alike : CountsAlike (place_of (slot_at running n)) (place_of moved)
  alike =
      subst (λ (x : Slot). CountsAlike (place_of x) (place_of moved)) (sym bearer_was)
      (subst (λ (q : Place). CountsAlike q (place_of moved)) (sym stands)
      (subst (λ (q : Place). CountsAlike (spawns_at path argv from) q) (sym (went_place (slot_at s n) path argv from to stands))
      (childs_alike path argv path argv from to (λ p. refl))))

  all_count : (j p : ℕ) → logical s.spaces (upd (upd s.environments.slots m handled) n moved) j p ≡ logical s.spaces s.environments.slots j p
  all_count j p =
      set_counts running n moved (ap (λ (x : Slot). is_live_slot x) (sym bearer_was)) (ap (λ (x : Slot). x.directory) (sym bearer_was)) alike j p
      ∙ set_counts s m handled refl refl (λ row q. refl) j p

  pub handler_given_stands : StandsFor names (with_extra (with_upcall s (child % NENV) PGFAULT_UPCALL) n
      (spawn_words (spawn.Finishing (finishing.GivingStack fd child)))) a
  handler_given_stands =
      subst (λ (x : Slot). StandsFor names (with_slot_at running n (record x { extra = spawn_words to })) a) (sym bearer_was)
      (spawning_stands h n path argv child from to b v moved handled refl refl (λ d mine theirs. same_space names s.spaces d)
      (record { id = refl; env_type = refl; turns = refl; calm = λ runs. runs }) (record { id = refl; env_type = refl; turns = refl; calm = λ runs. runs })
      (went_place (slot_at s n) path argv from to stands) refl
      (went_own (slot_at s n) path argv from to stands refl it.own (stack_for_with (spawn_words to) it.at)) still_unborn has_handler
      (rows_same (logical s.spaces s.environments.slots) (logical s.spaces (upd (upd s.environments.slots m handled) n moved)) all_count (rows_stand h))
      (slot_in_order running n moved (ap (λ (x : Slot). is_live_slot x) (sym bearer_was)) (ap (λ (x : Slot). x.directory) (sym bearer_was))
      (slot_in_order s m handled refl refl h.in_order)) (λ j ne piped runs fd x y below is lies device. (refl, refl)) (λ p pipes. refl) (λ d p x is shared_page. refl))

-- ---- the stack

abbrev pub handlers_page : ℕ
handlers_page = page_number UXSTACK

-- its region is one of the library's
handlers_region : (r : ℕ) → (r == handlers_page / NPTENTRIES) ≡ true → is_library_region r ≡ true
handlers_region r is = last ((r == region_index UTEMP) || (r == region_index FDTABLE)) (r == region_index USTACKTOP) is
  where
    last : (c t : Bool) → t ≡ true → (c || t) ≡ true
    last true t on = refl
    last false t on = on

module _ {names : Names} {s : KernelState} {a : AbstractState} {sp : SpacesState} (h : StandsFor names s a) (n path argv fd child : ℕ)
    (stands : place_of (slot_at s n) ≡ spawns_at path argv (spawn.Finishing (finishing.ChildStack fd child)))
    (made : Made s.spaces sp (slot_at s (child % NENV)).directory handlers_page working_perm) (order : IsInOrder (with_spaces s sp))
    (last : s.last ≡ Some n) where
  abbrev begin : SpawnStep
  begin = spawn.Finishing (finishing.ChildStack fd child)

  abbrev then_at : SpawnStep
  then_at = spawn.Finishing (finishing.ChildUpcall fd child)

  abbrev owner : Born
  owner = (spawn_there h n path argv begin stands).b

  abbrev d : ℕ
  d = (slot_at s (child % NENV)).directory

  abbrev new_entry : Entry
  new_entry = record { frame = made.frame; perm = working_perm }

  u : IsSpawner names s a n path argv begin child owner
  u = spawner h n path argv child begin stands refl

  stood_none : rows_of s.spaces d handlers_page ≡ None
  stood_none = u.child.no_handler_stack (ap (λ (before : Progress). before.handler_stack) u.child.is_so)

  rows_beside : (q r : ℕ) → Elsewhere q r d handlers_page → rows_of sp q r ≡ rows_of s.spaces q r
  rows_beside q r ne = row_elsewhere made.placed q r ne

  rows_kept : (q r : ℕ) (x : Entry) → rows_of s.spaces q r ≡ Some x → rows_of sp q r ≡ Some x
  rows_kept q r x hx =
      rows_beside q r (λ same too. none-some x (sym stood_none ∙ (λ i. rows_of s.spaces (sym same i) (sym too i)) ∙ hx)) ∙ hx

  puts : PutsInChild s.spaces sp d handlers_page new_entry
  puts = record {
    beside = rows_beside;
    there = row_placed made.placed;
    bytes = λ q r x ne hx. made.placed.bytes q r x (rows_kept q r x hx) (made.new q r x hx);
    regions = λ q r ne. other_regions made.placed q r ne;
  }

  none_there : (x : Entry) → rows_of s.spaces d handlers_page ≡ Some x → is_shared x.perm ≡ false
  none_there x is = absurd (none-some x (sym stood_none ∙ is))

  child_row : (r : ℕ) → r ≢ handlers_page → rows_of sp d r ≡ rows_of s.spaces d r
  child_row r ne = rows_beside d r (λ same. ne)

  abbrev headers_then : ℕ
  headers_then = entry_count_of (slice_index u.child.image.header)

  has_stack : HasOfImage names sp (record (slot_at s n) { extra = spawn_words then_at }) owner then_at (slot_at s (child % NENV)) child
  has_stack =
      let x = u.child in
      record {
        image = x.image;
        file = x.file;
        loads = x.loads;
        progress = with_handler_stack headers_then;
        is_so = refl;
        registers = x.registers ∙ ap (λ (before : Progress). registers_of before.registers (slot_at s n).registers x.image) x.is_so;
        upcall = x.upcall ∙ ap (λ (before : Progress). handler_of before.handler) x.is_so;
        memory = λ p inside.
            seen_at names names s.spaces sp d p (child_row p (programs_beside p inside).1) (λ e hx own_page. puts.bytes d p e (λ same too. (programs_beside p inside).1 too) hx) (λ e hx shared_page. refl)
            ∙ x.memory p inside ∙ ap (λ (before : Progress). child_page owner x.image before x.file p) x.is_so;
        uncopied = λ p e inside is own_page. x.uncopied p e inside (sym (child_row p (programs_beside p inside).1) ∙ is) own_page;
        handed = λ p is on.
            child_row p (no_descriptor p is) ∙ x.handed p is (ap (λ (before : Progress). nat_le before.passed p) x.is_so ∙ on)
            ∙ sym (giver_row h n path argv child begin then_at stands refl handlers_page new_entry puts none_there last p);
        rest = λ p is off. child_row p (no_descriptor p is) ∙ x.rest p is (ap (λ (before : Progress). nat_le before.passed p) x.is_so ∙ off);
        handler_stack = λ on. record { entry = new_entry; stands = row_placed made.placed; own_page = refl; writes = refl };
        no_handler_stack = λ off. absurd (false≢true (sym off));
        none = λ p outside no_desc other. child_row p (grind (arith, nat_tests, other)) ∙ x.none p outside no_desc other;
        tables = λ r is. by_region r (r == handlers_page / NPTENTRIES) refl (sym (table_is r) ∙ is);
        here = λ p is. absurd (false≢true (sym (none_here p) ∙ is));
      }
    where
      no_descriptor : (p : ℕ) → is_of_descriptor p ≡ true → p ≢ handlers_page
      no_descriptor p is same = let contradiction : true ≡ false = sym is ∙ ap is_of_descriptor same in cc

      here_is : (d == d) ≡ true
      here_is = grind (arith, nat_tests)

      table_is : (r : ℕ) → is_some (sp.regions d r) ≡ ((r == handlers_page / NPTENTRIES) || is_some (s.spaces.regions d r))
      table_is r = made.placed.regions d r ∙ ap (λ (c : Bool). (c && (r == handlers_page / NPTENTRIES)) || is_some (s.spaces.regions d r)) here_is

      by_region : (r : ℕ) (c : Bool) → (r == handlers_page / NPTENTRIES) ≡ c → (c || is_some (s.spaces.regions d r)) ≡ true →
          (has_page_in (child_page owner u.child.image (passing headers_then 0) u.child.file) r || is_library_region r) ≡ true
      by_region r true test is =
          or_true (has_page_in (child_page owner u.child.image (passing headers_then 0) u.child.file) r) (is_library_region r) (handlers_region r test)
      by_region r false test is = u.child.tables r is

      none_here : (p : ℕ) → is_childs then_at p ≡ false
      none_here p = none_childs (p == page_number SPAWN_HERE) (p == page_number SPAWN_STACK)

  stack_row : PutsRow names names s.spaces.pages a.shared sp.pages a.shared (things_in s a) a.next_name a.next_name
      (logical s.spaces s.environments.slots) (child % NENV) handlers_page (Some new_entry)
  stack_row = record {
    bytes = λ j q x ne hx. kept j q x ne hx;
    agree = λ j q x e ne hx is same.
        let found = (logical_some s.spaces s.environments.slots j q x hx).1 in
        absurd (made.new _ q found.entry found.stands (found.frame ∙ same ∙ ap (λ (y : Entry). y.frame) (sym (same_Some new_entry e is))));
    user = λ e is. subst (λ (y : Entry). IsUsers y.perm) (same_Some new_entry e is) working_user;
    whole = λ e is. subst (λ (y : Entry). IsPage (sp.pages y.frame)) (same_Some new_entry e is)
        (subst (λ (page : List ℕ). IsPage page) (sym made.zero) zero_page_whole);
    beside = λ q e y is at same.
        absurd (made.new (slot_at s 0).directory q y at (sym same ∙ ap (λ (x : Entry). x.frame) (sym (same_Some new_entry e is))));
    named_new = λ e is shared_page.
        let contradiction : false ≡ true = ap (λ (y : Entry). is_shared y.perm) (same_Some new_entry e is) ∙ shared_page in cc;
    named_old = λ j q x ne hx shared_page was. named_bytes (sym (kept j q x ne hx)) was;
  }
    where
      kept : (j q : ℕ) (x : Entry) → Elsewhere j q (child % NENV) handlers_page → logical s.spaces s.environments.slots j q ≡ Some x → sp.pages x.frame ≡ s.spaces.pages x.frame
      kept = given_bytes h n path argv child begin then_at stands refl handlers_page new_entry puts none_there last

  pub handlers_stack_stands : StandsFor names (with_extra (with_spaces s sp) n (spawn_words (spawn.Finishing (finishing.ChildUpcall fd child)))) a
  handlers_stack_stands =
      gives_child h n path argv child begin then_at stands refl handlers_page new_entry puts none_there last refl refl
      (stack_for_with (spawn_words then_at) (giver_stands h n path argv child begin then_at stands refl handlers_page new_entry puts none_there last)) has_stack order
      (λ q. refl) stack_row
