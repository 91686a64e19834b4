-- Spawn goes on to another of its steps, and is seen to: it bears no child at either, or bears the same, which has what it had, whatever spawn has found out then.
use Rattle.std.proofs.Common.{◌≡◌, ◌≢◌, ◌∙◌, ◌==◌, ◌%◌, ℕ, Bool, true, false, List, None, Some, refl, sym, ap, subst, arith}
use Rattle.std.specs.Prelude.{Option, slice_index}
use Rattle.std.proofs.lemmas.Bool.Decides.{nat_tests}
use Rattle.std.proofs.lemmas.Option.{same_Some}
use Rattle.jos_base.specs.declared.numbers.TheConstants.{NENV}
use Rattle.jos_base.specs.declared.registers.Regs.{Regs}
use Rattle.jos_base.specs.Environments.{Slot}
use Rattle.jos_base.specs.KernelState.{KernelState, slot_at, with_extra}
use Rattle.jos_base.specs.SpacesState.{SpacesState}
use Rattle.jos_base.specs.Words.{upd}
use Rattle.jos_elf.specs.Headers.{entry_count_of}
use Rattle.lib_os.specs.declared.spawn_steps.SpawnStep.{SpawnStep}
use Rattle.lib_os.specs.AbstractState.{AbstractSlot, AbstractState, Born, ImageRead, Phase, Spawning, Stage, born, in_service, unborn, with_born}
use Rattle.lib_os.specs.declared.place.Place.{Place}
use Rattle.lib_os.specs.declared.service.Service.TheVariants as service
use Rattle.lib_os.specs.Places.{place_of}
use Rattle.lib_os.specs.Rows.{Names, rows_of}
use Rattle.lib_os.specs.SpawnedChild.{IsProgress, Loads, Progress, bytes_replied, registers_of, spawning_child}
use Rattle.lib_os.specs.SpawnPages.{is_childs}
use Rattle.lib_os.specs.StandsAtSpawn.{StandsAtSpawn}
use Rattle.lib_os.specs.StandsFor.{HasChildren, IsBorneBy, StandsFor, StandsForBorn, borne_in, by_spawn, view_of}
use Rattle.lib_os.proofs.Bearing.{same_unborn}
use Rattle.lib_os.proofs.Children.{born_bears_none, children_kept, of_parent}
use Rattle.lib_os.proofs.Logical.{is_making_pipe, unborne_plain}
use Rattle.lib_os.proofs.PipesStand.{calm_places, is_calm}
use Rattle.lib_os.proofs.Serving.{holds_page}
use Rattle.lib_os.proofs.SpawnGathers.{shown_own, spawn_found}
use Rattle.lib_os.proofs.SpawnedGoes.{HasOfImage, HereStill, born_named, child_apart, child_has, child_unborn, childs_alike, same_born, spawned_child}
use Rattle.lib_os.proofs.SpawnedGoes.{unborn_named, went_place}
use Rattle.lib_os.proofs.SpawnOwnPages.{spawn_there, spawn_words, spawns_at}
use Rattle.lib_os.proofs.StatesStand.{CountsAlike, plain_alike, same_space, slot_becomes}
use Rattle.lib_os.proofs.WordsTell.{is_in_handler}
use Rattle.jos_base.proofs.Maps.{upd-at, upd-other}

-- ---- the child

-- It has the same of its image, where its parent stands at another step, with what it has found out then.
pub has_turned : {names : Names} {s : SpacesState} {parent : Slot} {b : Born} {k : Slot} {id : ℕ} (from to : SpawnStep) →
    ((p : ℕ) → is_childs from p ≡ is_childs to p) → HereStill from to →
    ((n : ℕ) (progress : Progress) → IsProgress n from progress → IsProgress n to progress) → (after : Slot) → after.registers ≡ parent.registers →
    after.directory ≡ parent.directory → (phase : Phase) (found : Option Spawning) (blocked : Bool) →
    (x : HasOfImage names s parent b from k id) → Loads (id % NENV) x.image found (bytes_replied phase) x.file →
    HasOfImage names s after (record b { phase = phase; spawning = found; blocked = blocked }) to k id
has_turned {s = s} from to childs told still after registers directory phase found blocked x loads = record {
  image = x.image;
  file = x.file;
  loads = loads;
  progress = x.progress;
  is_so = still (entry_count_of (slice_index x.image.header)) x.progress x.is_so;
  registers = x.registers ∙ ap (λ (r : Regs). registers_of x.progress.registers r x.image) (sym registers);
  upcall = x.upcall;
  memory = x.memory;
  uncopied = x.uncopied;
  handed = λ p is on. x.handed p is on ∙ ap (λ (d : ℕ). rows_of s d p) (sym directory);
  rest = x.rest;
  handler_stack = x.handler_stack;
  no_handler_stack = x.no_handler_stack;
  none = x.none;
  tables = x.tables;
  here = λ p is.
      let it = x.here p (childs p ∙ is) in
      record {
        place = it.place;
        is_told = λ q at. it.is_told q (told q at);
        programs = it.programs;
        here = it.here;
        there = it.there;
        here_is = ap (λ (d : ℕ). rows_of s d p) directory ∙ it.here_is;
        there_is = it.there_is;
        own_page = it.own_page;
        user = it.user;
        same = it.same;
      };
}

-- ---- all children

-- Only the parent is another, and bears the same child.
module _ {names : Names} {sp : SpacesState} {slots : ℕ → Slot} {abstract : ℕ → AbstractSlot} (children : HasChildren names sp slots abstract)
    (ids : (m id parent : ℕ) → abstract m ≡ unborn id parent → id % NENV ≡ m) (n path argv id : ℕ) (b : Born) (is : abstract n ≡ born b)
    (named : b.id % NENV ≡ n) (from to : SpawnStep) (stands : place_of (slots n) ≡ spawns_at path argv from) (bears : spawning_child from ≡ Some id)
    (k : Slot) (there : place_of k ≡ spawns_at path argv to) (bears_after : spawning_child to ≡ Some id) (c : Born) (same_id : c.id ≡ b.id)
    (has : HasOfImage names sp k c to (slots (id % NENV)) id) where
  abbrev m : ℕ
  m = id % NENV

  abbrev slots_after : ℕ → Slot
  slots_after = upd slots n k

  abbrev abstract_after : ℕ → AbstractSlot
  abstract_after = upd abstract n (born c)

  abbrev Bears : ℕ → ℕ → ℕ → Type 0
  Bears j own_id parent = IsBorneBy names sp (slots_after (parent % NENV)) (abstract_after (parent % NENV)) (slots_after j) own_id parent

  borne_id : borne_in (place_of (slots n)) ≡ Some id
  borne_id = ap borne_in stands ∙ bears

  unborn_is : abstract m ≡ unborn id b.id
  unborn_is = child_unborn children ids n path argv id b is named from to stands bears

  apart : m ≢ n
  apart = child_apart children ids n path argv id b is named from to stands bears

  mine_is : abstract_after n ≡ born c
  mine_is = upd-at abstract n (born c)

  other_is : (j : ℕ) → j ≢ n → abstract_after j ≡ abstract j
  other_is j ne = upd-other abstract n (born c) j ne

  its_borne : Bears m id c.id
  its_borne =
      subst (λ (q : ℕ). IsBorneBy names sp (slots_after q) (abstract_after q) (slots_after m) id c.id) (sym (ap (λ (q : ℕ). q % NENV) same_id ∙ named))
      (subst (λ (x : Slot). IsBorneBy names sp (slots_after n) (abstract_after n) x id c.id) (sym (upd-other slots n k m apart))
      (subst (λ (x : Slot). IsBorneBy names sp x (abstract_after n) (slots m) id c.id) (sym (upd-at slots n k))
      (subst (λ (y : AbstractSlot). IsBorneBy names sp k y (slots m) id c.id) (sym mine_is)
      (by_spawn (spawned_child id path argv refl there bears_after has)))))

  others_borne : (j own_id parent : ℕ) → j ≢ n → j ≢ m → abstract j ≡ unborn own_id parent → Bears j own_id parent
  others_borne j own_id parent not_parent not_child at =
      let was = children.borne j own_id parent at in
      let parents = of_parent was in
      let other_parent : parent % NENV ≢ n = λ same.
      let one : own_id ≡ id = same_Some own_id id (sym parents.bears ∙ ap (λ (q : ℕ). borne_in (place_of (slots q))) same ∙ borne_id) in
      not_child (sym (ids j own_id parent at) ∙ ap (λ (q : ℕ). q % NENV) one) in
      subst (λ (x : Slot). IsBorneBy names sp x (abstract_after (parent % NENV)) (slots_after j) own_id parent) (sym (upd-other slots n k (parent % NENV) other_parent))
      (subst (λ (y : AbstractSlot). IsBorneBy names sp (slots (parent % NENV)) y (slots_after j) own_id parent) (sym (other_is (parent % NENV) other_parent))
      (subst (λ (x : Slot). IsBorneBy names sp (slots (parent % NENV)) (abstract (parent % NENV)) x own_id parent) (sym (upd-other slots n k j not_parent)) was))

  borne_still : (j own_id parent : ℕ) → abstract_after j ≡ unborn own_id parent → Bears j own_id parent
  borne_still j own_id parent at = by_parent (j == n) refl
    where
      by_child : j ≢ n → (d : Bool) → (j == m) ≡ d → Bears j own_id parent
      by_child ne true test =
          let here : m ≡ j = grind (arith, nat_tests, test) in
          let same = same_unborn id b.id own_id parent (sym unborn_is ∙ ap abstract here ∙ sym (other_is j ne) ∙ at) in
          subst (λ (q : ℕ). Bears q own_id parent) here
          (subst (λ (q : ℕ). Bears m q parent) same.0 (subst (λ (q : ℕ). Bears m id q) (same_id ∙ same.1) its_borne))
      by_child ne false test = others_borne j own_id parent ne (grind (arith, nat_tests, test)) (sym (other_is j ne) ∙ at)

      by_parent : (t : Bool) → (j == n) ≡ t → Bears j own_id parent
      by_parent true test =
          let here : j ≡ n = grind (arith, nat_tests, test) in
          let contradiction : born c ≡ unborn own_id parent = sym mine_is ∙ ap abstract_after (sym here) ∙ at in absurd cc
      by_parent false test = by_child (grind (arith, nat_tests, test)) (j == m) refl

  have_still : (q own_id : ℕ) (e : Born) → abstract_after q ≡ born e → borne_in (place_of (slots_after q)) ≡ Some own_id →
      abstract_after (own_id % NENV) ≡ unborn own_id e.id
  have_still q own_id e at bears_it = by_parent (q == n) refl
    where
      by_parent : (t : Bool) → (q == n) ≡ t → abstract_after (own_id % NENV) ≡ unborn own_id e.id
      by_parent true test =
          let here : q ≡ n = grind (arith, nat_tests, test) in
          let same : c ≡ e = same_born c e (sym mine_is ∙ ap abstract_after (sym here) ∙ at) in
          let it_bears : borne_in (place_of (slots_after n)) ≡ Some id =
          ap (λ (x : Slot). borne_in (place_of x)) (upd-at slots n k) ∙ ap borne_in there ∙ bears_after in
          let one : id ≡ own_id = same_Some id own_id (sym it_bears ∙ ap (λ (j : ℕ). borne_in (place_of (slots_after j))) (sym here) ∙ bears_it) in
          subst (λ (j : ℕ). abstract_after (j % NENV) ≡ unborn j e.id) one
          (other_is m apart ∙ unborn_is ∙ ap (λ (x : ℕ). unborn id x) (sym same_id ∙ ap (λ (x : Born). x.id) same))
      by_parent false test =
          let ne : q ≢ n = grind (arith, nat_tests, test) in
          let was : abstract q ≡ born e = sym (other_is q ne) ∙ at in
          let then_unborn = children.have q own_id e was (ap (λ (x : Slot). borne_in (place_of x)) (sym (upd-other slots n k q ne)) ∙ bears_it) in
          let not_parent : own_id % NENV ≢ n = λ same.
          let contradiction : born b ≡ unborn own_id e.id = sym is ∙ ap abstract (sym same) ∙ then_unborn in absurd cc in
          other_is (own_id % NENV) not_parent ∙ then_unborn

  pub children_turned : HasChildren names sp (upd slots n k) (upd abstract n (born c))
  children_turned = record { borne = borne_still; have = have_still }

-- ---- from one step to another

-- It bears no child at both, or the same, of which the same is known.
pub data KeepsBearing (from to : SpawnStep) : Type 0 where
  bears_none : spawning_child from ≡ None → spawning_child to ≡ None → KeepsBearing from to
  bears_same : (id : ℕ) → spawning_child from ≡ Some id → spawning_child to ≡ Some id → ((p : ℕ) → is_childs from p ≡ is_childs to p) →
      HereStill from to → ((n : ℕ) (progress : Progress) → IsProgress n from progress → IsProgress n to progress) → KeepsBearing from to

-- by what it has found out, and its phase, it loads the same image, with the same bytes
abbrev pub LoadsOn : Born → Option Spawning → Phase → Type 0
LoadsOn b found phase =
    (slot : ℕ) (image : ImageRead) (file : List ℕ) → Loads slot image b.spawning (bytes_replied b.phase) file →
    Loads slot image found (bytes_replied phase) file

module _ {names : Names} {s : KernelState} {a : AbstractState} (h : StandsFor names s a) (n path argv : ℕ) (b : Born) (is : a.slots n ≡ born b)
    (from to : SpawnStep) (stands : place_of (slot_at s n) ≡ spawns_at path argv from) (k : Slot) (there : place_of k ≡ spawns_at path argv to)
    (registers : k.registers ≡ (slot_at s n).registers) (directory : k.directory ≡ (slot_at s n).directory) (phase : Phase) (found : Option Spawning)
    (blocked : Bool) (loads : (id : ℕ) → spawning_child from ≡ Some id → LoadsOn b found phase) where
  abbrev after : Born
  after = record b { phase = phase; spawning = found; blocked = blocked }

  -- entries count alike
  pub turned_counts : KeepsBearing from to → CountsAlike (place_of (slot_at s n)) (place_of k)
  turned_counts (bears_none none none_after) =
      plain_alike (place_of (slot_at s n)) (place_of k)
      (unborne_plain (place_of (slot_at s n)) (ap is_in_handler stands) (ap borne_in stands ∙ none) (ap is_making_pipe stands))
      (unborne_plain (place_of k) (ap is_in_handler there) (ap borne_in there ∙ none_after) (ap is_making_pipe there))
  turned_counts (bears_same id bears bears_after childs told still) =
      subst (λ (q : Place). CountsAlike q (place_of k)) (sym stands)
      (subst (λ (q : Place). CountsAlike (spawns_at path argv from) q) (sym there) (childs_alike path argv path argv from to childs))

  -- and the children are borne
  pub turned_children : KeepsBearing from to → HasChildren names s.spaces (upd s.environments.slots n k) (upd a.slots n (born after))
  turned_children (bears_none none none_after) =
      children_kept h.children n (λ m ne. upd-other s.environments.slots n k m ne) (λ m ne. upd-other a.slots n (born after) m ne)
      (λ m ne live. same_space names s.spaces (slot_at s m).directory)
      (born_bears_none (slot_at s n) (a.slots n) b is (ap borne_in stands ∙ none))
      (born_bears_none (upd s.environments.slots n k n) (upd a.slots n (born after) n) after (upd-at a.slots n (born after))
      (ap (λ (x : Slot). borne_in (place_of x)) (upd-at s.environments.slots n k) ∙ ap borne_in there ∙ none_after))
  turned_children (bears_same id bears bears_after childs told still) =
      let named = born_named h n b is in
      let x = child_has h.children (unborn_named h) n path argv id b is named from to stands bears in
      children_turned h.children (unborn_named h) n path argv id b is named from to stands bears k there bears_after after refl
      (has_turned from to childs told still k registers directory phase found blocked x (loads id bears (id % NENV) x.image x.file x.loads))

-- ---- it is shown

pub shown_on : {names : Names} {t : KernelState} {c : AbstractState} (h : StandsFor names t c) (n path argv : ℕ) (from to : SpawnStep)
    (stands : place_of (slot_at t n) ≡ spawns_at path argv from) → KeepsBearing from to →
    holds_page (spawns_at path argv from) ≡ holds_page (spawns_at path argv to) → (b : Born) → c.slots n ≡ born b → (found : Spawning) (stage : Stage) →
    ((id : ℕ) → spawning_child from ≡ Some id → LoadsOn b (Some found) (in_service (service.Spawn path argv) stage)) →
    StandsAtSpawn (view_of t.spaces (slot_at t n).directory) (record (slot_at t n) { extra = spawn_words to }) (spawn_found b path argv found stage) path argv to →
    StandsFor names (with_extra t n (spawn_words to)) (with_born c n (spawn_found b path argv found stage))
shown_on {names = names} {t = t} {c = c} h n path argv from to stands keeps held b is found stage loads so =
    let v = spawn_there h n path argv from stands in
    let same : v.b ≡ b = same_born v.b b (sym v.is ∙ is) in
    let gone : Slot = record (slot_at t n) { extra = spawn_words to } in
    let there : place_of gone ≡ spawns_at path argv to = went_place (slot_at t n) path argv from to stands in
    let phase : Phase = in_service (service.Spawn path argv) stage in
    slot_becomes h n b is gone (spawn_found b path argv found stage) refl (record { id = refl; env_type = refl; turns = refl; calm = λ runs. runs })
    (turned_counts h n path argv b is from to stands gone there refl refl phase (Some found) b.blocked loads keeps)
    (turned_children h n path argv b is from to stands gone there refl refl phase (Some found) b.blocked loads keeps)
    (subst (λ (x : Born). StandsAtSpawn (view_of t.spaces (slot_at t n).directory) gone (spawn_found x path argv found stage) path argv to →
    StandsForBorn names t.spaces gone (spawn_found x path argv found stage)) same (shown_own h n path argv from to stands held found stage) so)
    (calm_places (ap is_calm stands) (ap is_calm there)) (λ fd. refl)
