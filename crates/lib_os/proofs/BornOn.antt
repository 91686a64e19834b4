-- A child that an environment bears is born: it may run then, and its parent is back at its program. The two stand for what the abstract system has then, and nothing
-- is seen of anybody else.
use Rattle.std.proofs.Common.{◌≡◌, ◌≢◌, ◌∙◌, ◌%◌, ℕ, true, Some, refl, sym, ap, subst}
use Rattle.std.proofs.lemmas.Option.{none-some, same_Some}
use Rattle.jos_base.specs.declared.numbers.TheConstants.{NENV}
use Rattle.jos_base.specs.Environments.{Slot, is_live as is_live_slot}
use Rattle.jos_base.specs.KernelState.{KernelState, slot_at, with_slot_at}
use Rattle.jos_base.specs.Words.{upd}
use Rattle.jos_base.proofs.Maps.{upd-alike, upd-at, upd-other, upd-both}
use Rattle.lib_os.specs.declared.place.Place.TheVariants as place
use Rattle.lib_os.specs.AbstractState.{AbstractSlot, AbstractState, Born, born, is_live, slot_id, unborn, with_born}
use Rattle.lib_os.specs.PipeEnds.{EndsStand, EndsStandAt, LocksStand, locked_at}
use Rattle.lib_os.specs.Places.{place_of}
use Rattle.lib_os.specs.Rows.{Names, counted, logical, rows_of}
use Rattle.lib_os.specs.StandsFor.{IsBorneBy, StandsFor, StandsForBorn, StandsForSlot, StandsForUnborn, borne_in, things_in}
use Rattle.lib_os.proofs.Bearing.{same_unborn}
use Rattle.lib_os.proofs.BearsOn.{bearer_named, borne_apart, borne_is, borne_lives, borne_not_first}
use Rattle.lib_os.proofs.Children.{borne_moved, of_parent, same_child}
use Rattle.lib_os.proofs.EntriesStand.{RowsStand, rows_same, rows_stand, rows_turned}
use Rattle.lib_os.proofs.PipesStand.{locks_same}
use Rattle.lib_os.proofs.Slots.{slot_kept}
use Rattle.lib_os.proofs.SlotsStand.{born_at, born_live, ids_stand, live_stands}
use Rattle.lib_os.proofs.StatesStand.{CountsAlike, Settles, born_not_first, old_set, old_stays, same_space, server_same, set_counts, slot_in_order, tabled_set, turns_settle}

-- What is so of a slot that becomes another, beside what it stands for.
pub record Becomes (k after : Slot) : Type 0 where
  pub live : is_live_slot after ≡ is_live_slot k
  pub directory : after.directory ≡ k.directory
  pub counts : CountsAlike (place_of k) (place_of after)
  pub locked : locked_at (place_of after) ≡ locked_at (place_of k)
  pub settles : Settles k after

module _ {names : Names} {s : KernelState} {a : AbstractState} (h : StandsFor names s a) (n id : ℕ) (b : Born) (is : a.slots n ≡ born b)
    (bears : borne_in (place_of (slot_at s n)) ≡ Some id) (newborn back : Born) (child parent : Slot) (child_at : place_of child ≡ place.Guest)
    (parent_at : place_of parent ≡ place.Guest) (child_becomes : Becomes (slot_at s (id % NENV)) child) (parent_becomes : Becomes (slot_at s n) parent)
    (child_stands : StandsForBorn names s.spaces child newborn) (parent_stands : StandsForBorn names s.spaces parent back)
    (child_ends : EndsStand names a.objects (place_of child) (rows_of s.spaces child.directory) newborn)
    (parent_ends : EndsStand names a.objects (place_of parent) (rows_of s.spaces parent.directory) back)
    (child_names : (fd : ℕ) → newborn.descriptors fd ≡ b.descriptors fd) (parent_names : (fd : ℕ) → back.descriptors fd ≡ b.descriptors fd) where
  abbrev m : ℕ
  m = id % NENV

  abbrev slots_after : ℕ → Slot
  slots_after = upd (upd s.environments.slots m child) n parent

  abbrev abstract_after : ℕ → AbstractSlot
  abstract_after = upd (upd a.slots m (born newborn)) n (born back)

  apart : m ≢ n
  apart = borne_apart h n id b is bears

  unborn_there : a.slots m ≡ unborn id b.id
  unborn_there = borne_is h n id b is bears

  slots_stand : (j : ℕ) → StandsForSlot names s.spaces (slots_after j) (abstract_after j)
  slots_stand =
      upd-both (λ j (x : Slot) (y : AbstractSlot). StandsForSlot names s.spaces x y) (upd s.environments.slots m child) (upd a.slots m (born newborn))
      n parent (born back) parent_stands
      (λ j ne. upd-both (λ j (x : Slot) (y : AbstractSlot). StandsForSlot names s.spaces x y) s.environments.slots a.slots m child (born newborn)
      child_stands (λ q other. h.slots q) j)

  -- ---- who bears whom

  slot_parent : slots_after n ≡ parent
  slot_parent = upd-at (upd s.environments.slots m child) n parent

  slot_child : slots_after m ≡ child
  slot_child = upd-other (upd s.environments.slots m child) n parent m apart ∙ upd-at s.environments.slots m child

  slot_same : (j : ℕ) → j ≢ n → j ≢ m → slots_after j ≡ slot_at s j
  slot_same j ne other = upd-other (upd s.environments.slots m child) n parent j ne ∙ upd-other s.environments.slots m child j other

  abstract_parent : abstract_after n ≡ born back
  abstract_parent = upd-at (upd a.slots m (born newborn)) n (born back)

  abstract_child : abstract_after m ≡ born newborn
  abstract_child = upd-other (upd a.slots m (born newborn)) n (born back) m apart ∙ upd-at a.slots m (born newborn)

  abstract_same : (j : ℕ) → j ≢ n → j ≢ m → abstract_after j ≡ a.slots j
  abstract_same j ne other = upd-other (upd a.slots m (born newborn)) n (born back) j ne ∙ upd-other a.slots m (born newborn) j other

  others_borne : (j own_id parent_id : ℕ) → j ≢ n → j ≢ m → a.slots j ≡ unborn own_id parent_id →
      IsBorneBy names s.spaces (slots_after (parent_id % NENV)) (abstract_after (parent_id % NENV)) (slots_after j) own_id parent_id
  others_borne j own_id parent_id ne other at =
      let was = h.children.borne j own_id parent_id at in
      let parents = of_parent was in
      let p = parent_id % NENV in
      let own : StandsForUnborn (slot_at s j) own_id parent_id =
      subst (λ (y : AbstractSlot). StandsForSlot names s.spaces (slot_at s j) y) at (h.slots j) in
      let lives : is_live_slot (slot_at s j) ≡ true = live_stands h j ∙ ap (λ (x : AbstractSlot). is_live x) at in
      let here : own_id % NENV ≡ j = ap (λ (q : ℕ). q % NENV) (sym own.id_is) ∙ h.tabled.ids j lives in
      let other_parent : p ≢ n = λ same.
      let one : own_id ≡ id = same_Some own_id id (sym parents.bears ∙ ap (λ (q : ℕ). borne_in (place_of (slot_at s q))) same ∙ bears) in
      other (sym here ∙ ap (λ (q : ℕ). q % NENV) one) in
      let not_child : p ≢ m = λ same.
      let contradiction : born parents.b ≡ unborn id b.id = sym parents.born_by ∙ ap a.slots same ∙ unborn_there in absurd cc in
      let its_parent = slot_same p other_parent not_child in
      borne_moved (slots_after p) (abstract_after p) (slots_after j) (ap (λ (x : Slot). place_of x) its_parent)
      (ap (λ (x : Slot). x.registers) its_parent) (abstract_same p other_parent not_child)
      (λ q. ap (λ (x : Slot). rows_of s.spaces x.directory q) its_parent)
      (same_child (slot_at s j) (slots_after j) (slot_same j ne other)) (same_space names s.spaces (slot_at s j).directory) was

  borne_still : (j own_id parent_id : ℕ) → abstract_after j ≡ unborn own_id parent_id →
      IsBorneBy names s.spaces (slots_after (parent_id % NENV)) (abstract_after (parent_id % NENV)) (slots_after j) own_id parent_id
  borne_still j own_id parent_id at =
      let ne : j ≢ n = λ same.
      let contradiction : born back ≡ unborn own_id parent_id = sym abstract_parent ∙ ap abstract_after (sym same) ∙ at in absurd cc in
      let other : j ≢ m = λ same.
      let contradiction : born newborn ≡ unborn own_id parent_id = sym abstract_child ∙ ap abstract_after (sym same) ∙ at in absurd cc in
      others_borne j own_id parent_id ne other (sym (abstract_same j ne other) ∙ at)

  -- at their programs the two bear none
  bears_none : (q own_id : ℕ) (x : Slot) → slots_after q ≡ x → place_of x ≡ place.Guest → borne_in (place_of (slots_after q)) ≡ Some own_id → ⊥
  bears_none q own_id x same at one =
      none-some own_id (sym (ap (λ (y : Slot). borne_in (place_of y)) same ∙ ap borne_in at) ∙ one)

  have_still : (q own_id : ℕ) (c : Born) → abstract_after q ≡ born c → borne_in (place_of (slots_after q)) ≡ Some own_id →
      abstract_after (own_id % NENV) ≡ unborn own_id c.id
  have_still q own_id c at one =
      let ne : q ≢ n = λ same. bears_none q own_id parent (ap slots_after same ∙ slot_parent) parent_at one in
      let other : q ≢ m = λ same. bears_none q own_id child (ap slots_after same ∙ slot_child) child_at one in
      let was : a.slots q ≡ born c = sym (abstract_same q ne other) ∙ at in
      let has = h.children.have q own_id c was (ap (λ (x : Slot). borne_in (place_of x)) (sym (slot_same q ne other)) ∙ one) in
      let r = own_id % NENV in
      let not_parent : r ≢ n = λ same.
      let contradiction : born b ≡ unborn own_id c.id = sym is ∙ ap a.slots (sym same) ∙ has in absurd cc in
      let not_child : r ≢ m = λ same.
      let ids = same_unborn id b.id own_id c.id (sym unborn_there ∙ ap a.slots (sym same) ∙ has) in
      let lives : is_live_slot (slot_at s q) ≡ true = live_stands h q ∙ ap (λ (x : AbstractSlot). is_live x) was in
      let named : c.id % NENV ≡ q = ap (λ (i : ℕ). i % NENV) (sym (ids_stand h q ∙ ap slot_id was)) ∙ h.tabled.ids q lives in
      ne (sym named ∙ ap (λ (i : ℕ). i % NENV) (sym ids.1) ∙ bearer_named h n id b is bears) in
      abstract_same r not_parent not_child ∙ has

  -- ---- the state

  abbrev running : KernelState
  running = with_slot_at s m child

  pub parent_was : slot_at (with_slot_at s (id % NENV) child) n ≡ slot_at s n
  parent_was = slot_kept s m child n (λ same. apart (sym same))

  live_so : is_live_slot parent ≡ is_live_slot (slot_at running n)
  live_so = parent_becomes.live ∙ ap (λ (x : Slot). is_live_slot x) (sym parent_was)

  space_so : parent.directory ≡ (slot_at running n).directory
  space_so = parent_becomes.directory ∙ ap (λ (x : Slot). x.directory) (sym parent_was)

  counts_so : CountsAlike (place_of (slot_at running n)) (place_of parent)
  counts_so row p = parent_becomes.counts row p ∙ ap (λ (x : Slot). counted (place_of x) row p) (sym parent_was)

  settles_so : Settles (slot_at running n) parent
  settles_so = subst (λ (x : Slot). Settles x parent) (sym parent_was) parent_becomes.settles

  all_count : (j p : ℕ) → logical s.spaces slots_after j p ≡ logical s.spaces s.environments.slots j p
  all_count j p =
      set_counts running n parent live_so space_so counts_so j p
      ∙ set_counts s m child child_becomes.live child_becomes.directory child_becomes.counts j p

  rows : RowsStand names s.spaces.pages a.shared (things_in s a) a.next_name (logical s.spaces slots_after)
  rows = rows_same (logical s.spaces s.environments.slots) (logical s.spaces slots_after) all_count (rows_stand h)

  ends : (j : ℕ) → EndsStandAt names a.objects (place_of (slots_after j)) (rows_of s.spaces (slots_after j).directory) (abstract_after j)
  ends =
      upd-both (λ j (x : Slot) (y : AbstractSlot). EndsStandAt names a.objects (place_of x) (rows_of s.spaces x.directory) y)
      (upd s.environments.slots m child) (upd a.slots m (born newborn)) n parent (born back) parent_ends
      (λ j ne. upd-both (λ j (x : Slot) (y : AbstractSlot). EndsStandAt names a.objects (place_of x) (rows_of s.spaces x.directory) y)
      s.environments.slots a.slots m child (born newborn) child_ends (λ q other. h.ends q) j)

  same_locked : (j : ℕ) → locked_at (place_of (slots_after j)) ≡ locked_at (place_of (slot_at s j))
  same_locked j =
      upd-alike (λ (x : Slot). locked_at (place_of x)) (upd s.environments.slots m child) n parent
      (parent_becomes.locked ∙ sym (ap (λ (x : Slot). locked_at (place_of x)) parent_was)) j
      ∙ upd-alike (λ (x : Slot). locked_at (place_of x)) s.environments.slots m child child_becomes.locked j

  locks : LocksStand s.spaces.pages slots_after (logical s.spaces slots_after)
  locks = locks_same same_locked (λ j p pipes. all_count j p) (λ j p x pipes stands shared_page. refl) h.locks

  first_same : slots_after 0 ≡ slot_at s 0
  first_same = slot_same 0 (born_not_first h n b is) (borne_not_first h n id b is bears)

  turned : RowsStand names s.spaces.pages a.shared (things_in (with_slot_at running n parent) a) a.next_name (logical s.spaces slots_after)
  turned = rows_turned (ap (λ (x : Slot). rows_of s.spaces x.directory) first_same) rows

  pub both_stand : StandsFor names (with_slot_at (with_slot_at s (id % NENV) child) n parent) (with_born (with_born a (id % NENV) newborn) n back)
  both_stand = record {
    slots = slots_stand;
    children = record { borne = borne_still; have = have_still };
    apart = rows.apart;
    named = turned.named;
    users = rows.users;
    whole = rows.whole;
    beside = turned.beside;
    ends = ends;
    locks = locks;
    runs = turns_settle (upd s.environments.slots m child) n parent (turns_settle s.environments.slots m child h.runs child_becomes.settles) settles_so;
    old = old_set (old_stays h.old n b is m newborn child_names) n back
        (λ fd name names_it. h.old n fd name b is (sym (parent_names fd) ∙ names_it));
    free_slots = h.free_slots;
    first = abstract_same 0 (born_not_first h n b is) (borne_not_first h n id b is bears) ∙ h.first;
    server = server_same first_same h.server;
    input = h.input;
    last = h.last;
    turns = h.turns;
    tabled = tabled_set (tabled_set h.tabled m child (borne_lives h n id b is bears) child_becomes.settles) n parent
        (ap (λ (x : Slot). is_live_slot x) parent_was ∙ born_live (born_at h n b is)) settles_so;
    in_order = slot_in_order running n parent live_so space_so (slot_in_order s m child child_becomes.live child_becomes.directory h.in_order);
  }
