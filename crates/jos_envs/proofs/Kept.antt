-- What each change leaves of the lists that a table keeps.
use Rattle.std.proofs.Common.{◌≡◌, ◌∙◌, ◌+◌, ◌-◌, ◌<◌, ◌≤◌, ◌⊎◌, inl, inr, ℕ, zero, suc, Bool, true, false, cond, not}
use Rattle.std.proofs.Common.{List, [], ◌∷◌, length, get_or, Option, Some, None, refl, sym, ap, subst, arith}
use Rattle.std.proofs.Common.{length-set}
use Rattle.std.specs.Prelude.{slice_set, nat_lt, nat_eq, replicate, ◌||◌}
use Rattle.std.proofs.lemmas.List.{get_or-set_same, get_or-set_other, get_or-replicate, length-replicate}
use Rattle.std.proofs.lemmas.List.{get_or_default}
use Rattle.std.proofs.lemmas.Bool.Decides.{nat_tests}
use Rattle.jos_base.specs.declared.numbers.TheConstants.{NENV}
use Rattle.jos_base.specs.Words.{upd}
use Rattle.jos_base.specs.Counting.{total}
use Rattle.jos_base.specs.SpacesState.{rising}
use Rattle.jos_base.specs.declared.environment.EnvId.{EnvId}
use Rattle.jos_base.specs.Environments.{Environments, Slot, is_free, is_live, is_runnable, free_slot, with_slot}
use Rattle.jos_base.specs.Environments.{slot_freed, allotted, new_slot, next_id, allotted_from, first_environments}
use Rattle.jos_envs.specs.declared.environment.Environment.{Environment}
use Rattle.jos_envs.specs.declared.recent.Recent.{Recent}
use Rattle.jos_envs.specs.Slots.{slot_of}
use Rattle.jos_envs.specs.SlotSets.{contains, empty, IsFirstSlot}
use Rattle.jos_envs.specs.Table.{Kept, unused, slots_of, from_last, environments, undone, undone_by, KeepsLive}
use Rattle.jos_envs.specs.Table.{KeepsOthersLive, recent_slot}
use Rattle.jos_envs.specs.Table.{slot_in, any_live, any_live_below, may_run}
use Rattle.jos_envs.specs.Lawful.{Good, Lawful, slot_at_place, IsLiveIn, free_count}
use Rattle.jos_envs.proofs.Laws.{live_is, kept_good, freed_good, taken_good, room, len_most}
use Rattle.std.proofs.lemmas.Bool.{cases_eq}
use Rattle.jos_base.proofs.Maps.{upd-at, upd-other}
use Rattle.jos_base.proofs.Lists.{get_or-set}

-- ---- slots of the table

inside : (slots : List Environment) (n : ℕ) → n < NENV → slots_of slots n ≡ slot_of (get_or slots n unused)
inside slots n lt = let test : nat_lt n NENV ≡ true = grind (arith, nat_tests) in ap (λ b. cond b (slot_of (get_or slots n unused)) (free_slot 0)) test

slots_live : (slots : List Environment) (n : ℕ) → is_live (slots_of slots n) ≡ true → n < NENV
slots_live slots n live = by_test (nat_lt n NENV) refl
  where
    by_test : (t : Bool) → nat_lt n NENV ≡ t → n < NENV
    by_test true e = grind (arith, nat_tests)
    by_test false e = absurd (cc (ap (λ b. is_live (cond b (slot_of (get_or slots n unused)) (free_slot 0))) e, live))

-- a live slot is one of the table
pub live_within : (kept : Kept) (n : ℕ) → is_live ((environments kept).slots n) ≡ true → n < NENV
unfolding environments
live_within kept n live = slots_live kept.slots n live

-- what is read from the list is the slot
pub read_is : (k : Kept) (n : ℕ) (e : Environment) → Lawful k → n < NENV → e ≡ get_or k.slots n e → slot_of e ≡ (environments k).slots n
unfolding environments
read_is k n e ok lt is =
    let len = ok.slots in
    ap slot_of (is ∙ get_or_default k.slots n e unused (omega (arith, len, lt))) ∙ sym (inside k.slots n lt)

slots-set : (slots : List Environment) (n : ℕ) (e : Environment) → n < NENV → n < length slots → (q : ℕ) → slots_of (slice_set slots n e) q ≡ upd (slots_of slots) n (slot_of e) q
slots-set slots n e below within q = elim (cases_eq q n) [
  | inl same ↦
      ap (slots_of (slice_set slots n e)) same ∙ inside (slice_set slots n e) n below ∙ ap slot_of (get_or-set_same slots n e unused within)
      ∙ sym (upd-at (slots_of slots) n (slot_of e)) ∙ ap (upd (slots_of slots) n (slot_of e)) (sym same)
  | inr ne ↦
      ap (λ (x : Environment). cond (nat_lt q NENV) (slot_of x) (free_slot 0)) (get_or-set_other slots n q e unused ne)
      ∙ sym (upd-other (slots_of slots) n (slot_of e) q ne)
]

-- the stack below the place that changes
from_last-set : (order : List ℕ) (k v n : ℕ) → n ≤ k → from_last (slice_set order k v) n ≡ from_last order n
unfolding from_last
from_last-set order k v zero le = refl
from_last-set order k v (suc n) le =
    λ i. get_or-set_other order k n v 0 (λ e. (let f = e in omega arith)) i ∷ from_last-set order k v n (omega arith) i

-- ---- who is live after a change

pub with_slot-live : (e : Environments) (n : ℕ) (slot : Slot) → is_free slot.status ≡ false → KeepsLive e (with_slot e n slot)
with_slot-live e n slot lives q live = elim (cases_eq q n) [
  | inl same ↦ ap (λ z. is_live (upd e.slots n slot z)) same ∙ ap is_live (upd-at e.slots n slot) ∙ ap not lives
  | inr ne ↦ ap is_live (upd-other e.slots n slot q ne) ∙ live
]

pub slot_freed-live : (e : Environments) (n id : ℕ) → KeepsOthersLive n e (slot_freed e n id)
slot_freed-live e n id q ne live = ap is_live (upd-other e.slots n (free_slot id) q ne) ∙ live

-- ---- an environment in the place of another

module _ (k : Kept) (n : ℕ) (e : Environment) (marks : List ℕ) (ok : Lawful k) (live : is_live ((environments k).slots n) ≡ true)
    (lives : is_free e.status ≡ false) (marked : contains marks ≡ upd (contains k.runnable) n (is_runnable e.status)) where
  abbrev put : Kept
  put = record k { slots = slice_set k.slots n e; runnable = marks }

  below : n < NENV
  below = live_within k n live

  within : n < length k.slots
  within = let len = ok.slots in omega (arith, len, below)

  put_slots : slots_of put.slots ≡ upd (slots_of k.slots) n (slot_of e)
  put_slots = λ i. λ q. slots-set k.slots n e below within q i

  was_live : is_free (slots_of k.slots n).status ≡ false
  unfolding environments
  was_live = live_is ((environments k).slots n) live

  recent_live : (recent : Option Recent) → IsLiveIn (slots_of k.slots) recent → IsLiveIn (upd (slots_of k.slots) n (slot_of e)) recent
  recent_live None h = tt
  recent_live (Some recent) h = with_slot-live (record { slots = slots_of k.slots; free_slots = [] }) n (slot_of e) lives recent.slot h

  pub put_lawful : Lawful put
  put_lawful = record {
    slots = length-set k.slots n e ∙ ok.slots;
    order = ok.order;
    good = subst (λ (s : ℕ → Slot). Good s (slot_at_place k.order) k.free_len (contains marks)) (sym put_slots)
        (kept_good (slots_of k.slots) (slot_at_place k.order) k.free_len (contains k.runnable) ok.good n (slot_of e) below was_live lives (contains marks)
        (ap (λ (f : ℕ → Bool). f n) marked ∙ upd-at (contains k.runnable) n (is_runnable e.status))
        (λ q ne. ap (λ (f : ℕ → Bool). f q) marked ∙ upd-other (contains k.runnable) n (is_runnable e.status) q ne));
    recent = subst (λ (s : ℕ → Slot). IsLiveIn s k.recent) (sym put_slots) (recent_live k.recent ok.recent);
  }

  pub put_is : environments put ≡ with_slot (environments k) n (slot_of e)
  unfolding environments
  put_is = λ i. record { slots = put_slots i; free_slots = from_last k.order k.free_len }

-- ---- a slot is freed

module _ (k : Kept) (n : ℕ) (ok : Lawful k) (live : is_live ((environments k).slots n) ≡ true) where
  released_below : n < NENV
  released_below = live_within k n live

  released_was : is_free (slots_of k.slots n).status ≡ false
  unfolding environments
  released_was = live_is ((environments k).slots n) live

  pub has_room : k.free_len < NENV
  has_room = room (slots_of k.slots) (slot_at_place k.order) k.free_len (contains k.runnable) ok.good n released_below released_was

  module _ (e : Environment) (len : ℕ) (marks : List ℕ) (id : ℕ) (cleared : slot_of e ≡ free_slot id) (more : len ≡ suc k.free_len)
      (marked : contains marks ≡ upd (contains k.runnable) n false) where
    abbrev released : Kept
    released = record { slots = slice_set k.slots n e; order = slice_set k.order k.free_len n; free_len = len; runnable = marks; recent = None }

    released_slots : slots_of released.slots ≡ upd (slots_of k.slots) n (slot_of e)
    released_slots = λ i. λ q. slots-set k.slots n e released_below (let l = ok.slots in let b = released_below in omega (arith, l, b)) q i

    order_within : k.free_len < length k.order
    order_within = let l = ok.order in let b = has_room in omega (arith, l, b)

    released_place : slot_at_place released.order ≡ upd (slot_at_place k.order) k.free_len n
    released_place = λ i. λ p. get_or-set k.order k.free_len n 0 order_within p i

    pub released_lawful : Lawful released
    released_lawful = record {
      slots = length-set k.slots n e ∙ ok.slots;
      order = length-set k.order k.free_len n ∙ ok.order;
      good = subst (λ (s : ℕ → Slot). Good s (slot_at_place released.order) len (contains marks)) (sym released_slots)
          (subst (λ (p : ℕ → ℕ). Good (upd (slots_of k.slots) n (slot_of e)) p len (contains marks)) (sym released_place)
          (subst (λ (m : ℕ → Bool). Good (upd (slots_of k.slots) n (slot_of e)) (upd (slot_at_place k.order) k.free_len n) len m) (sym marked)
          (subst (λ l. Good (upd (slots_of k.slots) n (slot_of e)) (upd (slot_at_place k.order) k.free_len n) l (upd (contains k.runnable) n false)) (sym more)
          (freed_good (slots_of k.slots) (slot_at_place k.order) k.free_len (contains k.runnable) ok.good n (slot_of e) released_below released_was
          (ap (λ (z : Slot). is_free z.status) cleared) (subst (λ (z : Slot). z ≡ free_slot z.id) (sym cleared) refl)))));
      recent = tt;
    }

    stack_is : from_last released.order len ≡ n ∷ from_last k.order k.free_len
    unfolding from_last
    stack_is =
        ap (from_last released.order) more
        ∙ (λ i. get_or-set_same k.order k.free_len n 0 order_within i ∷ from_last-set k.order k.free_len n k.free_len (omega arith) i)

    pub released_is : environments released ≡ slot_freed (environments k) n id
    unfolding environments
    released_is = λ i. record { slots = (released_slots ∙ ap (upd (slots_of k.slots) n) cleared) i; free_slots = stack_is i }

-- what is taken back is the live slot that was given last
module _ (k : Kept) (recent : Recent) (slot : ℕ) (is : k.recent ≡ Some recent) (asked : recent_slot k ≡ Some slot) where
  recent_is : recent.slot ≡ slot
  recent_is = let e : ◌≡◌ {A = Option ℕ} (Some recent.slot) (Some slot) = ap slot_in (sym is) ∙ asked in cc

  pub undo_live : Lawful k → is_live ((environments k).slots slot) ≡ true
  unfolding environments
  undo_live ok = subst (λ z. is_live (slots_of k.slots z) ≡ true) recent_is (subst (IsLiveIn (slots_of k.slots)) is ok.recent)

  pub undo_is : slot_freed (environments k) slot recent.id.0 ≡ undone k
  unfolding undone
  undo_is = ap (λ z. slot_freed (environments k) z recent.id.0) (sym recent_is) ∙ ap (undone_by (environments k)) (sym is)

-- ---- the last of the stack is given

module _ (k : Kept) (ok : Lawful k) (some : k.free_len ≡ 0 → ⊥) where
  abbrev m : ℕ
  m = k.free_len - 1

  more : k.free_len ≡ suc m
  more = omega (arith, some)

  good : Good (slots_of k.slots) (slot_at_place k.order) (suc m) (contains k.runnable)
  good = subst (λ l. Good (slots_of k.slots) (slot_at_place k.order) l (contains k.runnable)) more ok.good

  pub taken_place : m < length k.order
  taken_place =
      let most = len_most (slots_of k.slots) (slot_at_place k.order) k.free_len (contains k.runnable) ok.good in
      let len = ok.order in
      let e = more in
      omega (arith, most, len, e)

  -- a slot that was read from the stack
  module _ (n : ℕ) (read : n ≡ get_or k.order m n) where
    place : n ≡ get_or k.order m 0
    place = read ∙ get_or_default k.order m n 0 taken_place

    pub taken_below : n < NENV
    taken_below = subst (λ z. z < NENV) (sym place) (good.within m (omega arith))

    pub taken_within : n < length k.slots
    taken_within = let below = taken_below in let len = ok.slots in omega (arith, below, len)

    taken_free : is_free (slots_of k.slots n).status ≡ true
    taken_free = ap (λ z. is_free (slots_of k.slots z).status) place ∙ good.listed m (omega arith)

    pub taken_was_free : is_live ((environments k).slots n) ≡ false
    unfolding environments
    taken_was_free = ap not taken_free

    module _ (old e : Environment) (parent id : ℕ) (old_is : slot_of old ≡ (environments k).slots n) (id_is : id ≡ next_id old.id.0 n) (made : slot_of e ≡ new_slot id parent) where
      abbrev last : EnvId
      last = old.id

      last_is : last.0 ≡ ((environments k).slots n).id
      last_is = ap (λ (z : Slot). z.id) old_is

      new : slot_of e ≡ new_slot (next_id last.0 n) parent
      new = made ∙ ap (λ z. new_slot z parent) id_is

      abbrev taken : Kept
      taken = record k { slots = slice_set k.slots n e; free_len = m; recent = Some (record { slot = n; id = last }) }

      taken_slots : slots_of taken.slots ≡ upd (slots_of k.slots) n (slot_of e)
      taken_slots = λ i. λ q. slots-set k.slots n e taken_below taken_within q i

      pub taken_lawful : Lawful taken
      taken_lawful = record {
        slots = length-set k.slots n e ∙ ok.slots;
        order = ok.order;
        good = subst (λ (s : ℕ → Slot). Good s (slot_at_place k.order) m (contains k.runnable)) (sym taken_slots)
            (subst (λ z. Good (upd (slots_of k.slots) z (slot_of e)) (slot_at_place k.order) m (contains k.runnable)) (sym place)
            (taken_good (slots_of k.slots) (slot_at_place k.order) m (contains k.runnable) good (slot_of e)
            (ap (λ (z : Slot). is_free z.status) new) (ap (λ (z : Slot). is_runnable z.status) new)));
        recent = ap (λ (s : ℕ → Slot). is_live (s n)) taken_slots ∙ ap is_live (upd-at (slots_of k.slots) n (slot_of e)) ∙ ap is_live new;
      }

      head_is : (environments k).free_slots ≡ n ∷ from_last k.order m
      unfolding environments from_last
      head_is = ap (from_last k.order) more ∙ (λ i. sym place i ∷ from_last k.order m)

      new_is : new_slot (next_id ((environments k).slots n).id n) parent ≡ slot_of e
      new_is = ap (λ z. new_slot (next_id z n) parent) (sym last_is) ∙ sym new

      after_is : record { slots = upd (environments k).slots n (slot_of e); free_slots = from_last k.order m } ≡ environments taken
      unfolding environments
      after_is = λ i. record { slots = sym taken_slots i; free_slots = from_last k.order m }

      -- the slot is live, and whoever was live still is
      pub taken_live : is_live ((environments taken).slots n) ≡ true
      unfolding environments
      taken_live = ap (λ (s : ℕ → Slot). is_live (s n)) taken_slots ∙ ap is_live (upd-at (slots_of k.slots) n (slot_of e)) ∙ ap is_live new

      pub taken_keeps : KeepsLive (environments k) (environments taken)
      unfolding environments
      taken_keeps =
          subst (λ (s : ℕ → Slot). (q : ℕ) → is_live (slots_of k.slots q) ≡ true → is_live (s q) ≡ true) (sym taken_slots)
          (with_slot-live (environments k) n (slot_of e) (ap (λ (z : Slot). is_free z.status) new))

      pub taken_is : allotted (environments k) parent ≡ Some (n, environments taken)
      unfolding allotted
      taken_is =
          ap (allotted_from (environments k) parent) head_is
          ∙ ap (λ (z : Slot). Some (n, record { slots = upd (environments k).slots n z; free_slots = from_last k.order m })) new_is
          ∙ ap (λ (z : Environments). Some (n, z)) after_is

      undone_slots : (q : ℕ) → upd (slots_of taken.slots) n (free_slot last.0) q ≡ slots_of k.slots q
      unfolding environments
      undone_slots q = elim (cases_eq q n) [
        | inl same ↦
            ap (upd (slots_of taken.slots) n (free_slot last.0)) same ∙ upd-at (slots_of taken.slots) n (free_slot last.0)
            ∙ ap free_slot last_is ∙ sym (good.cleared n taken_free) ∙ ap (slots_of k.slots) (sym same)
        | inr ne ↦
            upd-other (slots_of taken.slots) n (free_slot last.0) q ne ∙ slots-set k.slots n e taken_below taken_within q
            ∙ upd-other (slots_of k.slots) n (slot_of e) q ne
      ]

      pub taken_undone : undone taken ≡ environments k
      unfolding undone environments
      taken_undone = λ i. record { slots = λ q. undone_slots q i; free_slots = sym head_is i }

-- no slot is free
pub none_allotted : (k : Kept) (parent : ℕ) → k.free_len ≡ 0 → allotted (environments k) parent ≡ None
unfolding allotted environments from_last
none_allotted k parent none = ap (λ l. allotted_from (environments k) parent (from_last k.order l)) none

-- ---- live and runnable slots

live_step : (sum n : ℕ) (any free : Bool) → ((sum ≡ n) × (any ≡ false)) ⊎ ((sum < n) × (any ≡ true))
    → ((sum + cond free 1 0 ≡ suc n) × ((any || not free) ≡ false)) ⊎ ((sum + cond free 1 0 < suc n) × ((any || not free) ≡ true))
live_step sum n any true (inl h) = inl ((let e = h.0 in omega arith), ap (λ b. b || false) h.1)
live_step sum n any false (inl h) = inr ((let e = h.0 in omega arith), ap (λ b. b || true) h.1)
live_step sum n any true (inr h) = inr ((let e = h.0 in omega arith), ap (λ b. b || false) h.1)
live_step sum n any false (inr h) = inr ((let e = h.0 in omega arith), ap (λ b. b || true) h.1)

-- either all of the first slots are free, or one of them is live
live_or_none : (s : ℕ → Slot) (n : ℕ)
    → ((total n (λ q. free_count (s q)) ≡ n) × (any_live_below s n ≡ false)) ⊎ ((total n (λ q. free_count (s q)) < n) × (any_live_below s n ≡ true))
unfolding total any_live_below
live_or_none s zero = inl (refl, refl)
live_or_none s (suc n) = live_step (total n (λ q. free_count (s q))) n (any_live_below s n) (is_free (s n).status) (live_or_none s n)

pub unused_is : (k : Kept) → Lawful k → nat_eq k.free_len NENV ≡ not (any_live (environments k))
unfolding any_live environments
unused_is k ok = elim (live_or_none (slots_of k.slots) NENV) [
  | inl h ↦ (let count = ok.good.count in let e = h.0 in let all : nat_eq k.free_len NENV ≡ true = grind (arith, nat_tests) in all ∙ ap not (sym h.1))
  | inr h ↦ (let count = ok.good.count in let e = h.0 in let fewer : nat_eq k.free_len NENV ≡ false = grind (arith, nat_tests) in fewer ∙ ap not (sym h.1))
]

pub runnable_is : (k : Kept) (from : ℕ) (first : Option ℕ) → Lawful k → IsFirstSlot (contains k.runnable) from first → IsFirstSlot (may_run (environments k)) from first
unfolding environments
runnable_is k from None ok is = λ slot le lt. sym (ok.good.marked slot lt) ∙ is slot le lt
runnable_is k from (Some slot) ok is = record {
  behind = is.behind;
  within = is.within;
  passes = sym (ok.good.marked slot is.within) ∙ is.passes;
  others = λ other le lt. (let within = is.within in sym (ok.good.marked other (omega arith)) ∙ is.others other le lt);
}

-- ---- the first table

total-ones : (n : ℕ) (g : ℕ → ℕ) → ((q : ℕ) → g q ≡ 1) → total n g ≡ n
unfolding total
total-ones zero g all = refl
total-ones (suc n) g all = let rest = total-ones n g all in let here = all n in omega arith

first_from_last : (order : List ℕ) (most : ℕ) → ((p : ℕ) → p < most → get_or order p 0 ≡ most - 1 - p) → (n : ℕ) → n ≤ most → from_last order n ≡ rising (most - n) n
unfolding from_last rising
first_from_last order most each zero le = refl
first_from_last order most each (suc n) le =
    let at : get_or order n 0 ≡ most - suc n = (let h = each n (omega arith) in omega arith) in
    let rest = first_from_last order most each n (omega arith) in
    let next : most - n ≡ most - suc n + 1 = omega arith in
    λ i. at i ∷ (rest ∙ ap (λ z. rising z n) next) i

module _ (k : Kept) (e : Environment) (slots : k.slots ≡ replicate NENV e) (free : slot_of e ≡ free_slot 0) (order : length k.order ≡ NENV)
    (each : (p : ℕ) → p < NENV → get_or k.order p 0 ≡ NENV - 1 - p) (len : k.free_len ≡ NENV) (none : contains k.runnable ≡ empty) (recent : k.recent ≡ None) where
  first_slot : (q : ℕ) → slots_of k.slots q ≡ free_slot 0
  first_slot q = by_test (nat_lt q NENV) refl
    where
      by_test : (t : Bool) → nat_lt q NENV ≡ t → slots_of k.slots q ≡ free_slot 0
      by_test true lt =
          let below : q < NENV = grind (arith, nat_tests) in
          inside k.slots q below ∙ ap (λ (l : List Environment). slot_of (get_or l q unused)) slots
          ∙ ap slot_of (get_or-replicate NENV q e unused below) ∙ free
      by_test false ge = ap (λ b. cond b (slot_of (get_or k.slots q unused)) (free_slot 0)) ge

  first_free : (q : ℕ) → is_free (slots_of k.slots q).status ≡ true
  first_free q = ap (λ (z : Slot). is_free z.status) (first_slot q)

  pub first_lawful : Lawful k
  unfolding empty
  first_lawful = record {
    slots = ap (λ (l : List Environment). length l) slots ∙ length-replicate NENV e;
    order = order;
    good = record {
      cleared = λ q is. first_slot q ∙ ap (λ (z : Slot). free_slot z.id) (sym (first_slot q));
      within = λ p lt. (let at = each p (omega arith) in omega (arith, at));
      listed = λ p lt. first_free (get_or k.order p 0);
      once = λ p q lt_p lt_q same. (let a = each p (omega arith) in let b = each q (omega arith) in omega (arith, a, b));
      count = total-ones NENV (λ q. free_count (slots_of k.slots q)) (λ q. ap free_count (first_slot q)) ∙ sym len;
      marked = λ q lt. ap (λ (f : ℕ → Bool). f q) none ∙ ap (λ (z : Slot). is_runnable z.status) (sym (first_slot q));
    };
    recent = subst (IsLiveIn (slots_of k.slots)) (sym recent) tt;
  }

  pub first_is : environments k ≡ first_environments
  unfolding environments first_environments
  first_is = λ i. record {
    slots = λ q. first_slot q i;
    free_slots = (ap (from_last k.order) len ∙ first_from_last k.order NENV each NENV (omega arith)) i;
  }
