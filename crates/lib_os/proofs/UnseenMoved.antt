-- A page of an environment's own has other bytes, of which nobody sees anything, and the environment has gone on: the kernel's state stands for the
-- same abstract one, where it stands so at the place to which it has come.
use Rattle.std.proofs.Common.{◌≡◌, ◌≢◌, ◌∙◌, ℕ, None, refl, sym, ap, subst}
use Rattle.jos_base.specs.Environments.{Slot, is_live}
use Rattle.jos_base.specs.KernelState.{KernelState, slot_at, with_slot_at, with_spaces}
use Rattle.jos_base.specs.SpacesState.{SpacesState}
use Rattle.jos_base.specs.Words.{upd}
use Rattle.lib_os.specs.AbstractState.{AbstractSlot, AbstractState, Born, born}
use Rattle.lib_os.specs.PipeEnds.{EndsStandAt, LocksStand, locked_at}
use Rattle.lib_os.specs.Places.{place_of}
use Rattle.lib_os.specs.Rows.{EntryRow, Names, Rows, logical, pipe_page, rows_of, server_row}
use Rattle.lib_os.specs.StandsFor.{HasChildren, StandsFor, StandsForBorn, StandsForSlot, borne_in, things_in}
use Rattle.lib_os.proofs.BytesKept.{StandsBeside}
use Rattle.lib_os.proofs.Children.{born_bears_none, children_kept}
use Rattle.lib_os.proofs.EntriesStand.{RowsStand, rows_same, rows_turned}
use Rattle.lib_os.proofs.PipesStand.{PlacesAlike, ends_moved, locks_same}
use Rattle.lib_os.proofs.SlotsStand.{CountsKept, born_at, born_live}
use Rattle.lib_os.proofs.StatesStand.{CountsAlike, Settles, born_not_first, ends_at, row_other, same_space, server_same, set_counts, slot_in_order}
use Rattle.lib_os.proofs.StatesStand.{tabled_set, turns_settle}
use Rattle.jos_base.proofs.Maps.{upd-alike, upd-all, upd-at, upd-other}

module _ {names : Names} {s : KernelState} {a : AbstractState} {sp : SpacesState} (h : StandsFor names s a) (n : ℕ) (b : Born) (at : a.slots n ≡ born b)
    (it : StandsBeside names s a sp n) (k : Slot) (so : StandsForBorn names sp k b) (directory : k.directory ≡ (slot_at s n).directory)
    (settles : Settles (slot_at s n) k) (alike : CountsAlike (place_of (slot_at s n)) (place_of k))
    (places : PlacesAlike (place_of (slot_at s n)) (place_of k)) where
  abbrev t : KernelState
  t = with_spaces s sp

  abbrev slots_after : ℕ → Slot
  slots_after = upd s.environments.slots n k

  live_as : is_live k ≡ is_live (slot_at s n)
  live_as = born_live so ∙ sym (born_live (born_at h n b at))

  -- all entries count as they did
  counts : (m p : ℕ) → logical sp slots_after m p ≡ logical sp s.environments.slots m p
  counts = set_counts t n k live_as directory alike

  entries : RowsStand names sp.pages a.shared (record (things_in t a) { row = server_row sp slots_after }) a.next_name (logical sp slots_after)
  entries =
      rows_turned {things = things_in t a} (row_other sp s.environments.slots n k (born_not_first h n b at))
      (rows_same (logical sp s.environments.slots) (logical sp slots_after) counts it.entries)

  locks : LocksStand sp.pages slots_after (logical sp slots_after)
  locks =
      locks_same (upd-alike (λ (x : Slot). locked_at (place_of x)) s.environments.slots n k places.locked) (λ m p pipes. counts m p)
      (λ m p x pipes stands shared_page. refl) it.locks

  ends_mine : EndsStandAt names a.objects (place_of k) (rows_of sp k.directory) (a.slots n)
  ends_mine =
      subst (λ (y : AbstractSlot). EndsStandAt names a.objects (place_of k) (rows_of sp k.directory) y) (sym at)
      (ends_moved places (λ fd. refl) (λ fd name is. refl)
      (λ fd below. ap (λ (d : ℕ). rows_of sp d (pipe_page fd)) directory ∙ ap (λ (rows : Rows). rows (slot_at s n).directory (pipe_page fd)) it.rows)
      (λ fd x below is. refl) (ends_at h n b at))

  ends_other : (m : ℕ) → EndsStandAt names a.objects (place_of (slot_at s m)) (rows_of sp (slot_at s m).directory) (a.slots m)
  ends_other m =
      subst (λ (row : EntryRow). EndsStandAt names a.objects (place_of (slot_at s m)) row (a.slots m))
      (sym (ap (λ (rows : Rows). rows (slot_at s m).directory) it.rows)) (h.ends m)

  -- whoever is borne is borne by the environment where it stands now
  pub unseen_moved_with : ((m : ℕ) → m ≢ n → CountsKept s.spaces sp (slot_at s m)) → HasChildren names sp slots_after a.slots →
      StandsFor names (with_slot_at t n k) a
  unseen_moved_with kept children = record {
    slots = upd-all (λ m (x : Slot). StandsForSlot names sp x (a.slots m)) s.environments.slots n k
        (subst (λ (y : AbstractSlot). StandsForSlot names sp k y) (sym at) so) (λ m ne. it.others kept m ne);
    children = children;
    apart = entries.apart;
    named = entries.named;
    users = entries.users;
    whole = entries.whole;
    beside = entries.beside;
    ends = upd-all (λ m (x : Slot). EndsStandAt names a.objects (place_of x) (rows_of sp x.directory) (a.slots m)) s.environments.slots n k ends_mine
        (λ m ne. ends_other m);
    locks = locks;
    runs = turns_settle s.environments.slots n k h.runs settles;
    old = h.old;
    free_slots = h.free_slots;
    first = h.first;
    server = server_same (upd-other s.environments.slots n k 0 (born_not_first h n b at)) it.server;
    input = h.input;
    last = h.last;
    turns = h.turns;
    tabled = tabled_set h.tabled n k (born_live (born_at h n b at)) settles;
    in_order = slot_in_order t n k live_as directory it.in_order;
  }

  -- where it bears no child, before and after
  pub unseen_moved : ((m : ℕ) → m ≢ n → CountsKept s.spaces sp (slot_at s m)) → borne_in (place_of (slot_at s n)) ≡ None → borne_in (place_of k) ≡ None →
      StandsFor names (with_slot_at t n k) a
  unseen_moved kept unborne unborne_after =
      unseen_moved_with kept
      (children_kept it.children n (λ m ne. upd-other s.environments.slots n k m ne) (λ m ne. refl)
      (λ m ne live. same_space names sp (slot_at s m).directory) (born_bears_none (slot_at s n) (a.slots n) b at unborne)
      (born_bears_none (slots_after n) (a.slots n) b at (ap (λ (x : Slot). borne_in (place_of x)) (upd-at s.environments.slots n k) ∙ unborne_after)))
