-- How entries count while fork bears a child: those of the parent as they count at its step, and those of the child and of all others as
-- they stand.
use Rattle.std.proofs.Common.{◌≡◌, ◌≢◌, ◌∙◌, ◌%◌, ℕ, Bool, true, not, refl, sym, ap, subst}
use Rattle.jos_base.specs.declared.environment.Status.{Status}
use Rattle.jos_base.specs.declared.numbers.TheConstants.{NENV}
use Rattle.jos_base.specs.Environments.{Slot, is_free, is_live as is_live_slot}
use Rattle.jos_base.specs.KernelState.{KernelState, slot_at}
use Rattle.jos_base.specs.SpacesState.{SpacesState}
use Rattle.jos_base.specs.Words.{upd}
use Rattle.lib_os.specs.declared.place.Place.{Place}
use Rattle.lib_os.specs.declared.place.Place.TheVariants as place
use Rattle.lib_os.specs.declared.place.Step.{Step}
use Rattle.lib_os.specs.declared.service.Service.TheVariants as service
use Rattle.lib_os.specs.AbstractState.{AbstractState, Born}
use Rattle.lib_os.specs.Places.{place_of}
use Rattle.lib_os.specs.Rows.{EntryRow, Names, counted, is_clients, is_of_descriptor, logical, logical_by, rows_of}
use Rattle.lib_os.specs.StandsFor.{ChildPages, StandsFor}
use Rattle.lib_os.proofs.Bearing.{IsBearer, IsChild, parent_not_first, child_not_first}
use Rattle.lib_os.proofs.GoesDown.{moved, moved_place}
use Rattle.lib_os.proofs.Logical.{clients_so, counted_plain, logical_alike}
use Rattle.lib_os.proofs.Serving.{words_of_none}
use Rattle.lib_os.proofs.SlotsStand.{SeenAlike, born_live, seen_alike}
use Rattle.jos_base.proofs.Maps.{upd-at, upd-other}

-- the entries of a live slot but the first, by the place where it stands
pub live_counts : (sp : SpacesState) (slots : ℕ → Slot) (j : ℕ) (k : Slot) (at : Place) → slots j ≡ k → 0 ≢ j → is_live_slot k ≡ true →
    place_of k ≡ at → (p : ℕ) → logical sp slots j p ≡ counted at (rows_of sp k.directory) p
live_counts sp slots j k at is not_first live stands p =
    (λ i. logical_by (is_clients j (is i)) (counted (place_of (is i)) (rows_of sp (is i).directory)) p)
    ∙ ap (λ (c : Bool). logical_by c (counted (place_of k) (rows_of sp k.directory)) p) (clients_so j k not_first live)
    ∙ ap (λ (x : Place). counted x (rows_of sp k.directory) p) stands

-- ---- the two

module _ {names : Names} {s : KernelState} {a : AbstractState} (h : StandsFor names s a) (n id : ℕ) (at : Step) (v : IsBearer names s a n at id) where
  abbrev parent : Slot
  parent = slot_at s n

  abbrev child : Slot
  child = slot_at s (id % NENV)

  pub parent_lives : is_live_slot parent ≡ true
  parent_lives = born_live v.own

  pub child_lives : is_live_slot child ≡ true
  child_lives = ap (λ (x : Status). not (is_free x)) v.child_own.status

  pub child_place : place_of child ≡ place.Guest
  child_place = words_of_none child.registers child.extra v.child_own.stack v.child_own.words

  -- they have two spaces
  pub spaces_apart : parent.directory ≢ child.directory
  spaces_apart same = v.apart (sym (h.in_order.spaces.apart n (id % NENV) parent_lives child_lives same))

  pub parent_counted : (p : ℕ) →
      logical s.spaces s.environments.slots n p ≡ counted (place.InService service.Fork at) (rows_of s.spaces parent.directory) p
  parent_counted = live_counts s.spaces s.environments.slots n parent (place.InService service.Fork at) refl
      (parent_not_first h v) parent_lives v.place

  pub child_counted : (p : ℕ) → logical s.spaces s.environments.slots (id % NENV) p ≡ rows_of s.spaces child.directory p
  child_counted p =
      live_counts s.spaces s.environments.slots (id % NENV) child place.Guest refl (child_not_first h v) child_lives child_place p
      ∙ counted_plain place.Guest (rows_of s.spaces child.directory) refl p

  -- behind a step after which the parent stands at the next, and spaces may be others
  module _ (sp : SpacesState) (next : Step) where
    abbrev slots_after : ℕ → Slot
    slots_after = upd s.environments.slots n (moved parent next)

    pub parent_counts : (p : ℕ) → logical sp slots_after n p ≡ counted (place.InService service.Fork next) (rows_of sp parent.directory) p
    parent_counts =
        live_counts sp slots_after n (moved parent next) (place.InService service.Fork next) (upd-at s.environments.slots n (moved parent next))
        (parent_not_first h v) parent_lives (moved_place parent at next v.place)

    pub child_counts : (p : ℕ) → logical sp slots_after (id % NENV) p ≡ rows_of sp child.directory p
    child_counts p =
        live_counts sp slots_after (id % NENV) child place.Guest (upd-other s.environments.slots n (moved parent next) (id % NENV) v.apart)
        (child_not_first h v) child_lives child_place p
        ∙ counted_plain place.Guest (rows_of sp child.directory) refl p

    -- of another slot, whose row is what it was
    pub other_counts : (j : ℕ) → j ≢ n →
        (is_live_slot (slot_at s j) ≡ true → rows_of sp (slot_at s j).directory ≡ rows_of s.spaces (slot_at s j).directory) → (p : ℕ) →
        logical sp slots_after j p ≡ logical s.spaces s.environments.slots j p
    other_counts j ne row p =
        let slot : slots_after j ≡ slot_at s j = upd-other s.environments.slots n (moved parent next) j ne in
        logical_alike s.spaces sp s.environments.slots slots_after j (ap (λ (x : Slot). is_live_slot x) slot) (ap (λ (x : Slot). place_of x) slot)
        (λ live. ap (λ (x : Slot). rows_of sp x.directory) slot ∙ row live) p

-- ---- the child

-- in spaces of which nothing that is seen differs to it, and in which its parent has the same entries of descriptors
pub child_seen : {names : Names} {s t : SpacesState} {parent : Slot} {b : Born} {at : Step} {k : Slot} → SeenAlike names names s t k.directory →
    ((p : ℕ) → is_of_descriptor p ≡ true → rows_of t parent.directory p ≡ rows_of s parent.directory p) →
    IsChild names s parent b at k → IsChild names t parent b at k
child_seen {at = at} seen kept h = record {
  registers = h.registers;
  upcall = h.upcall;
  passed = λ p inside on. seen_alike seen p ∙ h.passed p inside on;
  handed = λ p descriptor on. ap (λ (r : EntryRow). r p) seen.rows ∙ h.handed p descriptor on ∙ sym (kept p descriptor);
  rest = λ p inside off. ap (λ (r : EntryRow). r p) seen.rows ∙ h.rest p inside off;
  library = subst (λ (r : EntryRow). ChildPages at r) (sym seen.rows) h.library;
  tables = λ r table. h.tables r (sym (seen.regions r) ∙ table);
}
