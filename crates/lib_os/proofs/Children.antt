-- Children that are not born: each goes on being borne by its parent, while nothing of the two is seen to change.
use Rattle.std.proofs.Common.{◌≡◌, ◌≢◌, ◌∙◌, ◌≤◌, ◌==◌, ◌%◌, ◌||◌, ℕ, Bool, true, false, Some, None, is_some, refl, sym, ap, subst, arith}
use Rattle.std.specs.Prelude.{nat_le}
use Rattle.std.proofs.lemmas.Bool.Decides.{nat_tests}
use Rattle.std.proofs.lemmas.Option.{none-some}
use Rattle.jos_base.specs.declared.numbers.TheConstants.{NENV}
use Rattle.jos_base.specs.declared.registers.Regs.{Regs}
use Rattle.jos_base.specs.Environments.{Slot}
use Rattle.jos_base.specs.SpacesState.{SpacesState}
use Rattle.jos_base.specs.Words.{page_number}
use Rattle.lib_os.specs.declared.numbers.TheConstants.{UXSTACK}
use Rattle.lib_os.specs.declared.place.Place.{Place}
use Rattle.lib_os.specs.declared.place.Place.TheVariants as place
use Rattle.lib_os.specs.declared.place.Step.{Step}
use Rattle.lib_os.specs.declared.place.Step.TheVariants as step
use Rattle.lib_os.specs.declared.service.Service.TheVariants as service
use Rattle.lib_os.specs.declared.spawn_steps.SpawnStep.{SpawnStep}
use Rattle.lib_os.specs.AbstractState.{AbstractSlot, Born, Stage, born, in_service, is_live, unborn}
use Rattle.lib_os.specs.LibraryPages.{IsOwnWritable, View}
use Rattle.lib_os.specs.PipeEnds.{is_made, is_on_its_way}
use Rattle.lib_os.specs.Places.{place_of}
use Rattle.lib_os.specs.Rows.{Names, EntryRow, rows_of, page_seen, is_of_descriptor, is_programs}
use Rattle.lib_os.specs.SpawnedChild.{IsSpawned, registers_of}
use Rattle.lib_os.specs.StandsFor.{ChildPages, HasChildren, IsBorne, IsBorneBy, StandsAt, borne_in, by_fork, by_spawn, is_passed}
use Rattle.lib_os.proofs.SlotsStand.{SeenAlike, SeenButPipes, but_pipes, seen_but_pipes}
use Rattle.lib_os.proofs.SpawnWaits.{spawn_calls, spawn_stage}

-- ---- one child

-- its slot and that of its parent are what they were, as far as is told of a child
pub record SameChild (k after : Slot) : Type 0 where
  pub registers : after.registers ≡ k.registers
  pub upcall : after.upcall ≡ k.upcall
  pub directory : after.directory ≡ k.directory

pub same_child : (k after : Slot) → after ≡ k → SameChild k after
same_child k after same = record {
  registers = ap (λ (x : Slot). x.registers) same;
  upcall = ap (λ (x : Slot). x.upcall) same;
  directory = ap (λ (x : Slot). x.directory) same;
}

fork_stays : {names after : Names} {s t : SpacesState} {parent : Slot} {parent_is : AbstractSlot} {k : Slot} {id parent_id : ℕ}
    (parent_after : Slot) (parent_after_is : AbstractSlot) (k_after : Slot) → place_of parent_after ≡ place_of parent →
    parent_after.registers ≡ parent.registers → parent_after_is ≡ parent_is →
    ((p : ℕ) → rows_of t parent_after.directory p ≡ rows_of s parent.directory p) →
    SameChild k k_after → SeenButPipes names after s t k.directory →
    IsBorne names s parent parent_is k id parent_id → IsBorne after t parent_after parent_after_is k_after id parent_id
fork_stays {names = names} {after = after} {s = s} {t = t} {k = k} parent_after parent_after_is k_after place registers same kept child seen h = record {
  b = h.b;
  born_by = same ∙ h.born_by;
  named = h.named;
  step = h.step;
  at = place ∙ h.at;
  borne = h.borne;
  registers = child.registers ∙ h.registers ∙ ap (λ (r : Regs). record r { eax = 0 }) (sym registers);
  upcall = child.upcall ∙ h.upcall;
  passed = λ p inside passed.
      ap (λ (d : ℕ). page_seen after t d p) child.directory ∙ seen_but_pipes seen p ∙ h.passed p inside passed;
  handed = λ p is passed.
      ap (λ (d : ℕ). rows_of t d p) child.directory ∙ ap (λ (r : EntryRow). r p) seen.rows ∙ h.handed p is passed ∙ sym (kept p);
  rest = λ p inside off.
      ap (λ (d : ℕ). rows_of t d p) child.directory ∙ ap (λ (r : EntryRow). r p) seen.rows ∙ h.rest p inside off;
  library = subst (λ (r : EntryRow). ChildPages h.step r) (sym (ap (λ (d : ℕ). rows_of t d) child.directory ∙ seen.rows)) h.library;
  tables = λ r table. h.tables r (sym (seen.regions r) ∙ sym (ap (λ (d : ℕ). is_some (t.regions d r)) child.directory) ∙ table);
}

spawn_stays : {names after : Names} {s t : SpacesState} {parent : Slot} {parent_is : AbstractSlot} {k : Slot} {id parent_id : ℕ}
    (parent_after : Slot) (parent_after_is : AbstractSlot) (k_after : Slot) → place_of parent_after ≡ place_of parent →
    parent_after.registers ≡ parent.registers → parent_after_is ≡ parent_is →
    ((p : ℕ) → rows_of t parent_after.directory p ≡ rows_of s parent.directory p) →
    SameChild k k_after → SeenButPipes names after s t k.directory →
    IsSpawned names s parent parent_is k id parent_id → IsSpawned after t parent_after parent_after_is k_after id parent_id
spawn_stays {names = names} {after = after} {s = s} {t = t} {k = k} parent_after parent_after_is k_after place registers same kept child seen h = record {
  b = h.b;
  born_by = same ∙ h.born_by;
  named = h.named;
  path = h.path;
  argv = h.argv;
  at_step = h.at_step;
  at = place ∙ h.at;
  borne = h.borne;
  image = h.image;
  file = h.file;
  loads = h.loads;
  progress = h.progress;
  is_so = h.is_so;
  registers = child.registers ∙ h.registers ∙ ap (λ (r : Regs). registers_of h.progress.registers r h.image) (sym registers);
  upcall = child.upcall ∙ h.upcall;
  memory = λ p inside.
      ap (λ (d : ℕ). page_seen after t d p) child.directory ∙ seen_but_pipes seen p ∙ h.memory p inside;
  uncopied = λ p x inside is own_page. h.uncopied p x inside (sym (row p) ∙ is) own_page;
  handed = λ p is passed. row p ∙ h.handed p is passed ∙ sym (kept p);
  rest = λ p is off. row p ∙ h.rest p is off;
  handler_stack = λ has. subst (λ (r : EntryRow). IsOwnWritable r (page_number UXSTACK)) (sym rows) (h.handler_stack has);
  no_handler_stack = λ none. row (page_number UXSTACK) ∙ h.no_handler_stack none;
  none = λ p outside no_descriptor other. row p ∙ h.none p outside no_descriptor other;
  tables = λ r table. h.tables r (sym (seen.regions r) ∙ sym (ap (λ (d : ℕ). is_some (t.regions d r)) child.directory) ∙ table);
  here = λ p is.
      let it = h.here p is in
      record {
        place = it.place;
        is_told = it.is_told;
        programs = it.programs;
        here = it.here;
        there = it.there;
        here_is = kept p ∙ it.here_is;
        there_is = row it.place ∙ it.there_is;
        own_page = it.own_page;
        user = it.user;
        same = it.same;
      };
}
  where
    rows : rows_of t k_after.directory ≡ rows_of s k.directory
    rows = ap (λ (d : ℕ). rows_of t d) child.directory ∙ seen.rows

    row : (p : ℕ) → rows_of t k_after.directory p ≡ rows_of s k.directory p
    row p = ap (λ (r : EntryRow). r p) rows

pub borne_stays : {names after : Names} {s t : SpacesState} {parent : Slot} {parent_is : AbstractSlot} {k : Slot} {id parent_id : ℕ}
    (parent_after : Slot) (parent_after_is : AbstractSlot) (k_after : Slot) → place_of parent_after ≡ place_of parent →
    parent_after.registers ≡ parent.registers → parent_after_is ≡ parent_is →
    ((p : ℕ) → rows_of t parent_after.directory p ≡ rows_of s parent.directory p) →
    SameChild k k_after → SeenButPipes names after s t k.directory →
    IsBorneBy names s parent parent_is k id parent_id → IsBorneBy after t parent_after parent_after_is k_after id parent_id
borne_stays parent_after parent_after_is k_after place registers same kept child seen (by_fork h) =
    by_fork (fork_stays parent_after parent_after_is k_after place registers same kept child seen h)
borne_stays parent_after parent_after_is k_after place registers same kept child seen (by_spawn h) =
    by_spawn (spawn_stays parent_after parent_after_is k_after place registers same kept child seen h)

-- the same where the pages of pipes have the same bytes
pub borne_moved : {names after : Names} {s t : SpacesState} {parent : Slot} {parent_is : AbstractSlot} {k : Slot} {id parent_id : ℕ}
    (parent_after : Slot) (parent_after_is : AbstractSlot) (k_after : Slot) → place_of parent_after ≡ place_of parent →
    parent_after.registers ≡ parent.registers → parent_after_is ≡ parent_is →
    ((p : ℕ) → rows_of t parent_after.directory p ≡ rows_of s parent.directory p) →
    SameChild k k_after → SeenAlike names after s t k.directory →
    IsBorneBy names s parent parent_is k id parent_id → IsBorneBy after t parent_after parent_after_is k_after id parent_id
borne_moved parent_after parent_after_is k_after place registers same kept child seen h =
    borne_stays parent_after parent_after_is k_after place registers same kept child (but_pipes seen) h

-- ---- its parent

-- what is passed on by fork goes on so upwards
passed_up : (at : Step) (p q : ℕ) → p ≤ q → is_passed at p ≡ true → is_passed at q ≡ true
passed_up (step.ForkRegion id region) p q up is = grind (arith, nat_tests)
passed_up (step.ForkEntry id page) p q up is = grind (arith, nat_tests)
passed_up (step.MapChild id page perm) p q up is = grind (arith, nat_tests)
passed_up (step.Remap id page) p q up is = grind (arith, nat_tests)
passed_up _ p q up is = refl

-- Its parent bears it, and makes no descriptor; of the parent's descriptors, and of the pages of their pipes, it has those from a page on.
pub record IsOfParent (s : SpacesState) (parent : Slot) (parent_is : AbstractSlot) (k : Slot) (id parent_id : ℕ) : Type 0 where
  pub b : Born
  pub born_by : parent_is ≡ born b
  pub named : b.id ≡ parent_id
  pub bears : borne_in (place_of parent) ≡ Some id
  pub unmade : (fd : ℕ) → is_made (place_of parent) fd ≡ false
  pub off_way : (fd : ℕ) → is_on_its_way (place_of parent) fd ≡ false
  pub passed : ℕ → Bool
  pub up : (p q : ℕ) → p ≤ q → passed p ≡ true → passed q ≡ true
  pub handed : (p : ℕ) → is_of_descriptor p ≡ true → passed p ≡ true → rows_of s k.directory p ≡ rows_of s parent.directory p
  pub rest : (p : ℕ) → is_of_descriptor p ≡ true → passed p ≡ false → rows_of s k.directory p ≡ None

pub of_parent : {names : Names} {s : SpacesState} {parent : Slot} {parent_is : AbstractSlot} {k : Slot} {id parent_id : ℕ} →
    IsBorneBy names s parent parent_is k id parent_id → IsOfParent s parent parent_is k id parent_id
of_parent (by_fork h) = record {
  b = h.b;
  born_by = h.born_by;
  named = h.named;
  bears = ap borne_in h.at ∙ h.borne;
  unmade = λ fd. ap (λ (q : Place). is_made q fd) h.at;
  off_way = λ fd. ap (λ (q : Place). is_on_its_way q fd) h.at;
  passed = is_passed h.step;
  up = passed_up h.step;
  handed = h.handed;
  rest = λ p is off. h.rest p (second_so (is_programs p) is) off;
}
  where
    second_so : (c : Bool) {d : Bool} → d ≡ true → c || d ≡ true
    second_so true is = refl
    second_so false is = is
of_parent (by_spawn h) = record {
  b = h.b;
  born_by = h.born_by;
  named = h.named;
  bears = ap borne_in h.at ∙ h.borne;
  unmade = λ fd. ap (λ (q : Place). is_made q fd) h.at;
  off_way = λ fd. ap (λ (q : Place). is_on_its_way q fd) h.at;
  passed = λ p. nat_le h.progress.passed p;
  up = λ p q le passed. grind (arith, nat_tests);
  handed = h.handed;
  rest = h.rest;
}

-- whoever stands in spawn is in it
pub spawns_so : (v : View) (k : Slot) (b : Born) (path argv : ℕ) (at : SpawnStep) →
    StandsAt (place.InService (service.Spawn path argv) (step.Spawning at)) v k b →
    (stage : Stage) × (b.phase ≡ in_service (service.Spawn path argv) stage)
spawns_so v k b path argv at stands = spawn_stage (spawn_calls v k b path argv at stands)

-- ---- all of them

-- no child is made here, and none is borne
pub record BearsNone (k : Slot) (slot : AbstractSlot) : Type 0 where
  pub bears : (b : Born) → slot ≡ born b → borne_in (place_of k) ≡ None
  pub no_child : (id parent : ℕ) → slot ≢ unborn id parent

pub born_bears_none : (k : Slot) (slot : AbstractSlot) (b : Born) → slot ≡ born b → borne_in (place_of k) ≡ None → BearsNone k slot
born_bears_none k slot b is none = record {
  bears = λ c at. none;
  no_child = λ id parent at. let contradiction : born b ≡ unborn id parent = sym is ∙ at in absurd cc;
}

-- who bears a child is another slot than one that bears none
pub parent_elsewhere : {names : Names} {s : SpacesState} {slots : ℕ → Slot} {abstract : ℕ → AbstractSlot} → HasChildren names s slots abstract →
    (n : ℕ) → BearsNone (slots n) (abstract n) → (m id parent : ℕ) → abstract m ≡ unborn id parent → parent % NENV ≢ n
parent_elsewhere {slots = slots} {abstract = abstract} h n none m id parent is same =
    let child = of_parent (h.borne m id parent is) in
    let bears : borne_in (place_of (slots n)) ≡ Some id =
    ap (λ (q : ℕ). borne_in (place_of (slots q))) (sym same) ∙ child.bears in
    none-some id (sym (none.bears child.b (ap abstract (sym same) ∙ child.born_by)) ∙ bears)

module _ {names after : Names} {s t : SpacesState} {slots slots_after : ℕ → Slot} {abstract abstract_after : ℕ → AbstractSlot}
    (h : HasChildren names s slots abstract) where
  -- One slot is another, which bore no child and bears none.
  pub children_stay : (n : ℕ) → ((m : ℕ) → m ≢ n → slots_after m ≡ slots m) → ((m : ℕ) → m ≢ n → abstract_after m ≡ abstract m) →
      ((m : ℕ) → m ≢ n → is_live (abstract m) ≡ true → SeenButPipes names after s t (slots m).directory) →
      BearsNone (slots n) (abstract n) → BearsNone (slots_after n) (abstract_after n) → HasChildren after t slots_after abstract_after
  children_stay n same same_abstract seen none none_after = record { borne = borne; have = have }
    where
      borne_elsewhere : (m id parent : ℕ) → m ≢ n → abstract_after m ≡ unborn id parent →
          IsBorneBy after t (slots_after (parent % NENV)) (abstract_after (parent % NENV)) (slots_after m) id parent
      borne_elsewhere m id parent ne is =
          let was : abstract m ≡ unborn id parent = sym (same_abstract m ne) ∙ is in
          let apart : parent % NENV ≢ n = parent_elsewhere h n none m id parent was in
          let its_parent : slots_after (parent % NENV) ≡ slots (parent % NENV) = same (parent % NENV) apart in
          borne_stays (slots_after (parent % NENV)) (abstract_after (parent % NENV)) (slots_after m)
          (ap (λ (k : Slot). place_of k) its_parent) (ap (λ (k : Slot). k.registers) its_parent) (same_abstract (parent % NENV) apart)
          (λ p. ap (λ (k : Slot). rows_of t k.directory p) its_parent ∙ ap (λ (r : EntryRow). r p)
          (seen (parent % NENV) apart (ap (λ (x : AbstractSlot). is_live x) (of_parent (h.borne m id parent was)).born_by)).rows)
          (same_child (slots m) (slots_after m) (same m ne)) (seen m ne (ap (λ (x : AbstractSlot). is_live x) was)) (h.borne m id parent was)

      borne : (m id parent : ℕ) → abstract_after m ≡ unborn id parent →
          IsBorneBy after t (slots_after (parent % NENV)) (abstract_after (parent % NENV)) (slots_after m) id parent
      borne m id parent is = by_slot (m == n) refl
        where
          by_slot : (c : Bool) → (m == n) ≡ c →
              IsBorneBy after t (slots_after (parent % NENV)) (abstract_after (parent % NENV)) (slots_after m) id parent
          by_slot true test =
              let here : m ≡ n = grind (arith, nat_tests) in absurd (none_after.no_child id parent (ap abstract_after (sym here) ∙ is))
          by_slot false test = borne_elsewhere m id parent (grind (arith, nat_tests)) is

      have_elsewhere : (q id : ℕ) (b : Born) → q ≢ n → abstract_after q ≡ born b → borne_in (place_of (slots_after q)) ≡ Some id →
          abstract_after (id % NENV) ≡ unborn id b.id
      have_elsewhere q id b ne is bears =
          let was : abstract (id % NENV) ≡ unborn id b.id =
          h.have q id b (sym (same_abstract q ne) ∙ is) (ap (λ (k : Slot). borne_in (place_of k)) (sym (same q ne)) ∙ bears) in
          let apart : id % NENV ≢ n = λ here. none.no_child id b.id (ap abstract (sym here) ∙ was) in
          same_abstract (id % NENV) apart ∙ was

      have : (q id : ℕ) (b : Born) → abstract_after q ≡ born b → borne_in (place_of (slots_after q)) ≡ Some id →
          abstract_after (id % NENV) ≡ unborn id b.id
      have q id b is bears = by_slot (q == n) refl
        where
          by_slot : (c : Bool) → (q == n) ≡ c → abstract_after (id % NENV) ≡ unborn id b.id
          by_slot true test =
              let here : q ≡ n = grind (arith, nat_tests) in
              absurd (none-some id (sym (none_after.bears b (ap abstract_after (sym here) ∙ is))
              ∙ ap (λ (p : ℕ). borne_in (place_of (slots_after p))) (sym here) ∙ bears))
          by_slot false test = have_elsewhere q id b (grind (arith, nat_tests)) is bears

  -- Each slot stands where it stood, with its registers.
  pub children_stay_still : ((m : ℕ) → place_of (slots_after m) ≡ place_of (slots m)) → ((m : ℕ) → SameChild (slots m) (slots_after m)) →
      ((m : ℕ) → abstract_after m ≡ abstract m) →
      ((m : ℕ) → is_live (abstract m) ≡ true → SeenButPipes names after s t (slots m).directory) → HasChildren after t slots_after abstract_after
  children_stay_still places same same_abstract seen = record {
    borne = λ m id parent is.
        let was : abstract m ≡ unborn id parent = sym (same_abstract m) ∙ is in
        let p = parent % NENV in
        borne_stays (slots_after p) (abstract_after p) (slots_after m) (places p) (same p).registers (same_abstract p)
        (λ q. ap (λ (d : ℕ). rows_of t d q) (same p).directory
        ∙ ap (λ (r : EntryRow). r q) (seen p (ap (λ (x : AbstractSlot). is_live x) (of_parent (h.borne m id parent was)).born_by)).rows) (same m)
        (seen m (ap (λ (x : AbstractSlot). is_live x) was)) (h.borne m id parent was);
    have = λ q id b is bears.
        same_abstract (id % NENV) ∙ h.have q id b (sym (same_abstract q) ∙ is) (ap borne_in (sym (places q)) ∙ bears);
  }

  -- the same where the pages of pipes have the same bytes
  pub children_kept : (n : ℕ) → ((m : ℕ) → m ≢ n → slots_after m ≡ slots m) → ((m : ℕ) → m ≢ n → abstract_after m ≡ abstract m) →
      ((m : ℕ) → m ≢ n → is_live (abstract m) ≡ true → SeenAlike names after s t (slots m).directory) →
      BearsNone (slots n) (abstract n) → BearsNone (slots_after n) (abstract_after n) → HasChildren after t slots_after abstract_after
  children_kept n same same_abstract seen none none_after =
      children_stay n same same_abstract (λ m ne live. but_pipes (seen m ne live)) none none_after

  pub children_still : ((m : ℕ) → place_of (slots_after m) ≡ place_of (slots m)) → ((m : ℕ) → SameChild (slots m) (slots_after m)) →
      ((m : ℕ) → abstract_after m ≡ abstract m) →
      ((m : ℕ) → is_live (abstract m) ≡ true → SeenAlike names after s t (slots m).directory) → HasChildren after t slots_after abstract_after
  children_still places same same_abstract seen = children_stay_still places same same_abstract (λ m live. but_pipes (seen m live))

-- ---- one slot is another

-- it bears no child before and after, or stands where it stood
pub data KeepsChild (before after : Slot) : Type 0 where
  bears_none : borne_in (place_of before) ≡ None → borne_in (place_of after) ≡ None → KeepsChild before after
  stands_still : place_of after ≡ place_of before → SameChild before after → KeepsChild before after
