-- An environment inside read, write or stat on an end of a pipe writes into the page of the pipe, which is shared: the kernel's state stands for the
-- abstract one behind it, in which that pipe alone may be another. Nobody else has the frame but as the page of this pipe, and who holds its lock finds
-- its bytes as they were.
use Rattle.std.proofs.Common.{◌≡◌, ◌≢◌, ◌∙◌, ◌⊎◌, inl, inr, ◌==◌, ◌<◌, ◌≤◌, ◌+◌, ◌*◌, ℕ, Bool, true, false, List, [], ◌∷◌, Option, Some, None}
use Rattle.std.proofs.Common.{refl, sym, ap, subst, arith, if◌then◌else◌}
use Rattle.std.specs.Prelude.{is_some}
use Rattle.std.specs.Int.{to_le_bytes, w32}
use Rattle.std.specs.Option.{option_map}
use Rattle.std.proofs.lemmas.Bool.{cases_eq}
use Rattle.std.proofs.lemmas.Bool.Decides.{nat_tests}
use Rattle.std.proofs.lemmas.Option.{none-some, same_Some}
use Rattle.jos_base.specs.declared.numbers.TheConstants.{FDTABLE, PGSIZE}
use Rattle.jos_base.specs.Counting.{page_limit}
use Rattle.jos_base.specs.Environments.{Slot}
use Rattle.jos_base.specs.KernelState.{KernelState, slot_at, with_extra, with_spaces}
use Rattle.jos_base.specs.Reach.{Entry}
use Rattle.jos_base.specs.SpacesState.{SpacesState}
use Rattle.jos_base.specs.SystemCalls.{has_write, is_page_perm}
use Rattle.jos_base.specs.Words.{upd}
use Rattle.lib_os.specs.declared.numbers.TheConstants.{DESCRIPTORS}
use Rattle.lib_os.specs.declared.place.PipeStep.{PipeStep}
use Rattle.lib_os.specs.declared.place.PipeStep.TheVariants as pipe
use Rattle.lib_os.specs.declared.place.Place.{Place}
use Rattle.lib_os.specs.declared.place.Place.TheVariants as place
use Rattle.lib_os.specs.declared.place.Step.{Step}
use Rattle.lib_os.specs.declared.place.Step.TheVariants as step
use Rattle.lib_os.specs.declared.progress.Progress.TheVariants as progress
use Rattle.lib_os.specs.declared.service.Service.{Service}
use Rattle.lib_os.specs.declared.service.Service.TheVariants as service
use Rattle.lib_os.specs.AbstractState.{AbstractSlot, AbstractState, Born, Object, Phase, ProgramState, born, file, free, read_end, serving, terminal}
use Rattle.lib_os.specs.AbstractState.{unborn, with_born, write_end}
use Rattle.lib_os.specs.DescriptorPages.{HasObject, HasPipe, Things, lasting_words, lock_of}
use Rattle.lib_os.specs.InOrder.{IsInOrder}
use Rattle.lib_os.specs.LibrarySteps.{KeepsStanding}
use Rattle.lib_os.specs.PipeEnds.{EndsStand, EndsStandAt, HoldsLock, LocksStand, is_dropped, is_made, is_on_its_way, locked_at}
use Rattle.lib_os.specs.Places.{place_of, words_at}
use Rattle.lib_os.specs.Rows.{HasThing, IsNamed, IsPage, Names, Rows, ShowsBy, as_own, counted, descriptor_perm, descriptor_seen, is_clients}
use Rattle.lib_os.specs.Rows.{is_pipe_page, is_shared, logical, logical_by, pipe_page, rows_of}
use Rattle.lib_os.specs.StandsAtPipe.{end_given}
use Rattle.lib_os.specs.StandsFor.{HasServer, IsStatusFor, StandsAt, StandsAtStep, StandsFor, StandsForBorn, StandsForSlot, borne_in}
use Rattle.lib_os.specs.StandsFor.{seen_unless, things_in, view_of}
use Rattle.lib_os.specs.UserCalls.{CallStep, giving, store, store_byte}
use Rattle.lib_os.proofs.BytesKept.{PutsBytes, store_byte_puts, store_puts}
use Rattle.lib_os.proofs.Children.{born_bears_none, children_stay}
use Rattle.lib_os.proofs.CopiesStored.{IsRewritten}
use Rattle.lib_os.proofs.DescriptorWords.{file_beside}
use Rattle.lib_os.proofs.EntriesCount.{Counts, entry_counts}
use Rattle.lib_os.proofs.EntriesStand.{RowsStand, rows_turned, same_sharing}
use Rattle.lib_os.proofs.Logical.{counted_made, counted_plain, is_making_pipe, is_plain, is_remapped, logical_live, logical_plain, plain_unborne}
use Rattle.lib_os.proofs.Numbered.{named_at, number_of}
use Rattle.lib_os.proofs.PipesStand.{ends_stay, locks_kept}
use Rattle.lib_os.proofs.Serving.{IsServed, holds_page, library_moved, plain_copy, plain_upcall, plain_working, served}
use Rattle.lib_os.proofs.SlotsStand.{KeepsPipe, SeenButPipes, ViewAlike, born_at, born_live, born_stays, descriptor_but_pipes, keeps_pipe, library_alike}
use Rattle.lib_os.proofs.SlotsStand.{pipe_minded, pipe_minded_at, seen_but_pipes, turn_stopped, view_but_pipes}
use Rattle.lib_os.proofs.StatesStand.{born_not_first, clients_live, ends_at, others_rest, row_other, server_same, slot_in_order, tabled_set}
use Rattle.lib_os.proofs.StatesStand.{old_but, turns_settle}
use Rattle.lib_os.proofs.WordsTell.{is_in_handler, place_at}
use Rattle.jos_base.proofs.Maps.{upd-all, upd-at, upd-other}

-- ---- services on pipes

-- the services that go on at a pipe's page
abbrev pub is_on_pipes : Service → Bool
is_on_pipes (service.Read fd va len) = true
is_on_pipes (service.Write fd va len) = true
is_on_pipes (service.Stat fd va) = true
is_on_pipes _ = false

-- there entries count as they stand, and no end is made or given
pub on_pipes_plain : (s : Service) (at : Step) → is_on_pipes s ≡ true → is_plain (place.InService s at) ≡ true
on_pipes_plain (service.Read fd va len) at is = refl
on_pipes_plain (service.Write fd va len) at is = refl
on_pipes_plain (service.Stat fd va) at is = refl
on_pipes_plain _ at is = absurd (let contradiction : false ≡ true = is in cc)

on_pipes_made : (s : Service) (at : Step) → is_on_pipes s ≡ true → (fd : ℕ) → is_made (place.InService s at) fd ≡ false
on_pipes_made (service.Read fd va len) at is other = refl
on_pipes_made (service.Write fd va len) at is other = refl
on_pipes_made (service.Stat fd va) at is other = refl
on_pipes_made _ at is other = absurd (let contradiction : false ≡ true = is in cc)

pub on_pipes_way : (s : Service) (at : Step) → is_on_pipes s ≡ true → (fd : ℕ) → is_on_its_way (place.InService s at) fd ≡ false
on_pipes_way (service.Read fd va len) at is other = refl
on_pipes_way (service.Write fd va len) at is other = refl
on_pipes_way (service.Stat fd va) at is other = refl
on_pipes_way _ at is other = absurd (let contradiction : false ≡ true = is in cc)

-- Who has the page of a pipe in mind makes it, or holds its lock.
minded_so : (at : Place) (fd : ℕ) → pipe_minded at ≡ Some fd →
    ((is_making_pipe at ≡ true) × (fd < DESCRIPTORS → is_remapped at (pipe_page fd) ≡ true)) ⊎ ((is_plain at ≡ true) × (locked_at at ≡ Some fd))
minded_so (place.InService s (step.Piped at)) fd is = by_service s at is
  where
    by_service : (s : Service) (at : PipeStep) → pipe_minded_at s at ≡ Some fd →
        ((is_making_pipe (place.InService s (step.Piped at)) ≡ true)
        × (fd < DESCRIPTORS → is_remapped (place.InService s (step.Piped at)) (pipe_page fd) ≡ true))
        ⊎ ((is_plain (place.InService s (step.Piped at)) ≡ true) × (locked_at (place.InService s (step.Piped at)) ≡ Some fd))
    by_service service.Pipe (pipe.MappingPipe first second) is =
        let same : first ≡ fd = same_Some first fd is in inl (refl, (λ below. grind (arith, nat_tests)))
    by_service service.Pipe _ is = absurd (none-some fd is)
    by_service (service.Read of va len) at is = inr (refl, is)
    by_service (service.Write of va len) at is = inr (refl, is)
    by_service (service.Stat of va) at is = inr (refl, is)
    by_service _ at is = absurd (none-some fd is)
minded_so _ fd is = absurd (none-some fd is)

-- ---- what becomes of the lock

-- It is held before and behind, or nobody's and nothing is written, or it is taken that was nobody's, or given back.
pub data LockBehind (at to : Place) (fd : ℕ) (page now : List ℕ) : Type 0 where
  held_on : locked_at at ≡ Some fd → locked_at to ≡ Some fd → lock_of now ≡ lock_of page → LockBehind at to fd page now
  left_so : locked_at at ≡ None → locked_at to ≡ None → now ≡ page → LockBehind at to fd page now
  is_taken : locked_at at ≡ None → locked_at to ≡ Some fd → lock_of page ≡ 0 → lock_of now ≡ 1 → LockBehind at to fd page now
  is_back : locked_at at ≡ Some fd → locked_at to ≡ None → lock_of now ≡ 0 → LockBehind at to fd page now

module _ (pages after : ℕ → List ℕ) (slots behind : ℕ → Slot) (rows rows_behind : Rows) (h : LocksStand pages slots rows) (n fd : ℕ)
    (below : fd < DESCRIPTORS) (e : Entry) (lies : rows n (pipe_page fd) ≡ Some e) (sharing : is_shared e.perm ≡ true) (now : List ℕ)
    (same : (m p : ℕ) → rows_behind m p ≡ rows m p) (kept : (g : ℕ) → g ≢ e.frame → after g ≡ pages g) (there : after e.frame ≡ now)
    (others : (m : ℕ) → m ≢ n → place_of (behind m) ≡ place_of (slots m)) where
  -- another holds what it held
  other_held : (m frame : ℕ) → m ≢ n → HoldsLock (place_of (behind m)) (rows_behind m) frame → HoldsLock (place_of (slots m)) (rows m) frame
  other_held m frame ne holds = record {
    fd = holds.fd;
    locked = ap locked_at (sym (others m ne)) ∙ holds.locked;
    below = holds.below;
    entry = holds.entry;
    stands = sym (same m _) ∙ holds.stands;
    shared = holds.shared;
    same = holds.same;
  }

  other_holds : (m frame : ℕ) → m ≢ n → HoldsLock (place_of (slots m)) (rows m) frame → HoldsLock (place_of (behind m)) (rows_behind m) frame
  other_holds m frame ne holds = record {
    fd = holds.fd;
    locked = ap locked_at (others m ne) ∙ holds.locked;
    below = holds.below;
    entry = holds.entry;
    stands = same m _ ∙ holds.stands;
    shared = holds.shared;
    same = holds.same;
  }

  own_holds : (slots : ℕ → Slot) (rows : Rows) → rows n (pipe_page fd) ≡ Some e → locked_at (place_of (slots n)) ≡ Some fd →
      HoldsLock (place_of (slots n)) (rows n) e.frame
  own_holds slots rows lies locked = record { fd = fd; locked = locked; below = below; entry = e; stands = lies; shared = sharing; same = refl }

  own_frame : (slots : ℕ → Slot) (rows : Rows) → rows n (pipe_page fd) ≡ Some e → locked_at (place_of (slots n)) ≡ Some fd → (frame : ℕ) →
      HoldsLock (place_of (slots n)) (rows n) frame → frame ≡ e.frame
  own_frame slots rows lies locked frame holds =
      let one : holds.fd ≡ fd = same_Some holds.fd fd (sym holds.locked ∙ locked) in
      let it : holds.entry ≡ e = same_Some holds.entry e (sym holds.stands ∙ ap (λ (q : ℕ). rows n (pipe_page q)) one ∙ lies) in
      sym holds.same ∙ ap (λ (x : Entry). x.frame) it

  own_none : (slots : ℕ → Slot) (rows : Rows) → locked_at (place_of (slots n)) ≡ None → (frame : ℕ) → HoldsLock (place_of (slots n)) (rows n) frame → ⊥
  own_none slots rows none frame holds = none-some holds.fd (sym none ∙ holds.locked)

  -- nobody else holds this one, or its page is as it was
  pub alone_there : LockBehind (place_of (slots n)) (place_of (behind n)) fd (pages e.frame) now → (m : ℕ) → m ≢ n →
      HoldsLock (place_of (slots m)) (rows m) e.frame → now ≡ pages e.frame
  alone_there (held_on locked still word) m ne holds = absurd (ne (h.alone m n e.frame holds (own_holds slots rows lies locked)))
  alone_there (left_so none still so) m ne holds = so
  alone_there (is_taken none locked zero one) m ne holds =
      let word = h.held m e.frame holds in absurd (omega (arith, word, zero))
  alone_there (is_back locked none zero) m ne holds = absurd (ne (h.alone m n e.frame holds (own_holds slots rows lies locked)))

  word_kept : (frame : ℕ) → frame ≢ e.frame → lock_of (after frame) ≡ lock_of (pages frame)
  word_kept frame ne = ap lock_of (kept frame ne)

  lies_behind : rows_behind n (pipe_page fd) ≡ Some e
  lies_behind = same n (pipe_page fd) ∙ lies

  -- where it holds what it held, and the word is the same
  still_locked : locked_at (place_of (behind n)) ≡ locked_at (place_of (slots n)) → lock_of now ≡ lock_of (pages e.frame) →
      LocksStand after behind rows_behind
  still_locked locked word = locks_kept (record {
    back = λ m q x under holds at. (sym (place_same m) ∙ holds, sym (same m (pipe_page q)) ∙ at);
    forth = λ m q x under holds at. (place_same m ∙ holds, same m (pipe_page q) ∙ at);
    were = λ m q x under at shared_page. record {
      slot = m;
      fd = q;
      below = under;
      entry = x;
      stands = sym (same m (pipe_page q)) ∙ at;
      shared = shared_page;
      same = refl;
    };
    bytes = λ m q x under at shared_page. word_same x.frame;
  }) h
    where
      place_same : (m : ℕ) → locked_at (place_of (behind m)) ≡ locked_at (place_of (slots m))
      place_same m = elim (cases_eq m n) [
        | inl here ↦
            ap (λ (q : ℕ). locked_at (place_of (behind q))) here ∙ locked ∙ sym (ap (λ (q : ℕ). locked_at (place_of (slots q))) here)
        | inr ne ↦ ap locked_at (others m ne)
      ]

      word_same : (frame : ℕ) → lock_of (after frame) ≡ lock_of (pages frame)
      word_same frame = elim (cases_eq frame e.frame) [
        | inl here ↦ ap (λ (f : ℕ). lock_of (after f)) here ∙ ap lock_of there ∙ word ∙ sym (ap (λ (f : ℕ). lock_of (pages f)) here)
        | inr ne ↦ word_kept frame ne
      ]

  -- where it is taken
  module _ (none : locked_at (place_of (slots n)) ≡ None) (locked : locked_at (place_of (behind n)) ≡ Some fd)
      (zero : lock_of (pages e.frame) ≡ 0) (one : lock_of now ≡ 1) where
    not_this : (m : ℕ) → HoldsLock (place_of (slots m)) (rows m) e.frame → ⊥
    not_this m holds = let word = h.held m e.frame holds in absurd (omega (arith, word, zero))

    taken_frame : (frame : ℕ) → HoldsLock (place_of (behind n)) (rows_behind n) frame → frame ≡ e.frame
    taken_frame = own_frame behind rows_behind lies_behind locked

    taken_held : (m frame : ℕ) → HoldsLock (place_of (behind m)) (rows_behind m) frame → lock_of (after frame) ≡ 1
    taken_held m frame holds = elim (cases_eq m n) [
      | inl here ↦
          let own = subst (λ (q : ℕ). HoldsLock (place_of (behind q)) (rows_behind q) frame) here holds in
          ap (λ (f : ℕ). lock_of (after f)) (taken_frame frame own) ∙ ap lock_of there ∙ one
      | inr ne ↦
          let was = other_held m frame ne holds in
          word_kept frame (λ it. not_this m (subst (λ (f : ℕ). HoldsLock (place_of (slots m)) (rows m) f) it was)) ∙ h.held m frame was
    ]

    taken_holder : (m q : ℕ) (x : Entry) → q < DESCRIPTORS → rows_behind m (pipe_page q) ≡ Some x → is_shared x.perm ≡ true →
        lock_of (after x.frame) ≢ 0 → (o : ℕ) × HoldsLock (place_of (behind o)) (rows_behind o) x.frame
    taken_holder m q x under at shared_page some = elim (cases_eq x.frame e.frame) [
      | inl here ↦
          (n, subst (λ (f : ℕ). HoldsLock (place_of (behind n)) (rows_behind n) f) (sym here) (own_holds behind rows_behind lies_behind locked))
      | inr ne ↦
          let found = h.holder m q x under (sym (same m (pipe_page q)) ∙ at) shared_page (λ is. some (word_kept x.frame ne ∙ is)) in (
            found.0,
            other_holds found.0 x.frame
                (λ it. own_none slots rows none x.frame (subst (λ (o : ℕ). HoldsLock (place_of (slots o)) (rows o) x.frame) it found.1)) found.1,
          )
    ]

    taken_alone : (m o frame : ℕ) → HoldsLock (place_of (behind m)) (rows_behind m) frame → HoldsLock (place_of (behind o)) (rows_behind o) frame → m ≡ o
    taken_alone m o frame holds too = elim (cases_eq m n) [
      | inl here ↦ elim (cases_eq o n) [
        | inl there ↦ here ∙ sym there
        | inr ne ↦
            let own = subst (λ (q : ℕ). HoldsLock (place_of (behind q)) (rows_behind q) frame) here holds in
            absurd (not_this o (subst (λ (f : ℕ). HoldsLock (place_of (slots o)) (rows o) f) (taken_frame frame own) (other_held o frame ne too)))
      ]
      | inr off ↦ elim (cases_eq o n) [
        | inl there ↦
            let own = subst (λ (q : ℕ). HoldsLock (place_of (behind q)) (rows_behind q) frame) there too in
            absurd (not_this m (subst (λ (f : ℕ). HoldsLock (place_of (slots m)) (rows m) f) (taken_frame frame own) (other_held m frame off holds)))
        | inr ne ↦ h.alone m o frame (other_held m frame off holds) (other_held o frame ne too)
      ]
    ]

  -- where it is given back
  module _ (locked : locked_at (place_of (slots n)) ≡ Some fd) (none : locked_at (place_of (behind n)) ≡ None) (zero : lock_of now ≡ 0) where
    had_it : HoldsLock (place_of (slots n)) (rows n) e.frame
    had_it = own_holds slots rows lies locked

    not_here : (m frame : ℕ) → HoldsLock (place_of (behind m)) (rows_behind m) frame → m ≢ n
    not_here m frame holds it =
        own_none behind rows_behind none frame (subst (λ (q : ℕ). HoldsLock (place_of (behind q)) (rows_behind q) frame) it holds)

    back_held : (m frame : ℕ) → HoldsLock (place_of (behind m)) (rows_behind m) frame → lock_of (after frame) ≡ 1
    back_held m frame holds =
        let ne = not_here m frame holds in let was = other_held m frame ne holds in
        word_kept frame (λ it. ne (h.alone m n e.frame (subst (λ (f : ℕ). HoldsLock (place_of (slots m)) (rows m) f) it was) had_it))
        ∙ h.held m frame was

    back_holder : (m q : ℕ) (x : Entry) → q < DESCRIPTORS → rows_behind m (pipe_page q) ≡ Some x → is_shared x.perm ≡ true →
        lock_of (after x.frame) ≢ 0 → (o : ℕ) × HoldsLock (place_of (behind o)) (rows_behind o) x.frame
    back_holder m q x under at shared_page some = elim (cases_eq x.frame e.frame) [
      | inl here ↦ absurd (some (ap (λ (f : ℕ). lock_of (after f)) here ∙ ap lock_of there ∙ zero))
      | inr ne ↦
          let found = h.holder m q x under (sym (same m (pipe_page q)) ∙ at) shared_page (λ is. some (word_kept x.frame ne ∙ is)) in (
            found.0,
            other_holds found.0 x.frame
                (λ it. ne (own_frame slots rows lies locked x.frame (subst (λ (o : ℕ). HoldsLock (place_of (slots o)) (rows o) x.frame) it found.1))) found.1,
          )
    ]

    back_alone : (m o frame : ℕ) → HoldsLock (place_of (behind m)) (rows_behind m) frame → HoldsLock (place_of (behind o)) (rows_behind o) frame → m ≡ o
    back_alone m o frame holds too =
        h.alone m o frame (other_held m frame (not_here m frame holds) holds) (other_held o frame (not_here o frame too) too)

  pub locks_behind : LockBehind (place_of (slots n)) (place_of (behind n)) fd (pages e.frame) now → LocksStand after behind rows_behind
  locks_behind (held_on locked still word) = still_locked (still ∙ sym locked) word
  locks_behind (left_so none still so) = still_locked (still ∙ sym none) (ap lock_of so)
  locks_behind (is_taken none locked zero one) = record {
    held = taken_held none locked zero one;
    holder = taken_holder none locked zero one;
    alone = taken_alone none locked zero one;
  }
  locks_behind (is_back locked none zero) = record {
    held = back_held locked none zero;
    holder = back_holder locked none zero;
    alone = back_alone locked none zero;
  }

-- ---- what names show

-- what a name shows that is no other pipe's
shows_still : (things : Things) (pipes : ℕ → List ℕ) (name frame : ℕ) (object is_pipe : Bool) (page bytes : List ℕ) →
    (object ≡ true → is_pipe ≡ true → pipes name ≡ things.pipes name) → ShowsBy things name frame object is_pipe page bytes →
    ShowsBy (record things { pipes = pipes }) name frame object is_pipe page bytes
shows_still things pipes name frame false is_pipe page bytes same shows = shows
shows_still things pipes name frame true true page bytes same shows =
    record { holds = shows.holds ∙ sym (same refl refl); few = shows.few; apart = shows.apart }
shows_still things pipes name frame true false page bytes same shows = by_object (things.objects name) shows
  where
    by_object : (o : Object) → HasObject things name frame o bytes → HasObject (record things { pipes = pipes }) name frame o bytes
    by_object terminal is = record { device = is.device; apart = is.apart }
    by_object (file f) is = file_beside is is.held is.entry is.stands is.same
    by_object (read_end pipe) is = record { numbered = is.numbered; device = is.device; mode_is = is.mode_is; apart = is.apart }
    by_object (write_end pipe) is = record { numbered = is.numbered; device = is.device; mode_is = is.mode_is; apart = is.apart }

-- ---- the page of a pipe

module _ {names : Names} {s : KernelState} {a : AbstractState} (h : StandsFor names s a) (n : ℕ) (call : Service) (is : is_on_pipes call ≡ true)
    (at : PipeStep) (stands : place_of (slot_at s n) ≡ place.InService call (step.Piped at)) (below : end_given call < DESCRIPTORS) (e : Entry)
    (lies : rows_of s.spaces (slot_at s n).directory (pipe_page (end_given call)) ≡ Some e) where
  abbrev fd : ℕ
  fd = end_given call

  abbrev home : ℕ
  home = (slot_at s n).directory

  abbrev before : Rows
  before = logical s.spaces s.environments.slots

  abbrev pub piped : IsServed names s a n call (step.Piped at)
  piped = served h n call (step.Piped at) stands

  plain : is_plain (place_of (slot_at s n)) ≡ true
  plain = ap is_plain stands ∙ on_pipes_plain call (step.Piped at) is

  client : is_clients n (slot_at s n) ≡ true
  client = clients_live h n piped.b piped.is

  own_counts : (q : ℕ) (x : Entry) → rows_of s.spaces home q ≡ Some x → before n q ≡ Some x
  own_counts q x hx = logical_plain s.spaces s.environments.slots n client plain q ∙ hx

  pub pipe_counts : before n (pipe_page fd) ≡ Some e
  pipe_counts = own_counts (pipe_page fd) e lies

  its_perm : e.perm ≡ descriptor_perm
  its_perm = piped.own.library.descriptors (pipe_page fd) e (grind (arith, nat_tests)) lies

  pub pipe_shared_page : is_shared e.perm ≡ true
  pipe_shared_page = ap is_shared its_perm

  pub pipe_writes : has_write e.perm ≡ true
  pipe_writes = ap has_write its_perm

  pub pipe_user : is_page_perm e.perm ≡ true
  pipe_user = ap is_page_perm its_perm

  pub pipe_whole : IsPage (s.spaces.pages e.frame)
  pipe_whole = h.whole n (pipe_page fd) e pipe_counts

  abbrev pub pipe_name : ℕ
  pipe_name = names.name e.frame

  was_named : IsNamed names s.spaces.pages a.shared (things_in s a) a.next_name (pipe_page fd) e.frame
  was_named = h.named n (pipe_page fd) e pipe_counts pipe_shared_page

  is_object_so : names.is_object pipe_name ≡ true
  is_object_so = was_named.kind ∙ grind (arith, nat_tests)

  is_pipe_so : names.is_pipe pipe_name ≡ true
  is_pipe_so = was_named.of_pipe ∙ grind (arith, nat_tests)

  pub pipe_has : HasPipe (things_in s a) pipe_name e.frame (s.spaces.pages e.frame)
  pipe_has =
      subst (λ (c : Bool). HasThing (things_in s a) pipe_name e.frame c (s.spaces.pages e.frame)) is_pipe_so
      (subst (λ (c : Bool). ShowsBy (things_in s a) pipe_name e.frame c (names.is_pipe pipe_name) (a.shared pipe_name) (s.spaces.pages e.frame))
      is_object_so was_named.shows)

  -- nothing that is one's own, and no page but that of a pipe, has the frame
  module _ (d p : ℕ) (x : Entry) (hx : rows_of s.spaces d p ≡ Some x) where
    servers_not : d ≡ (slot_at s 0).directory → x.frame ≢ e.frame
    servers_not first = pipe_has.apart p x (ap (λ (r : ℕ). rows_of s.spaces r p) (sym first) ∙ hx)

    its_sharing : (found : Counts s a d p x) → x.frame ≡ e.frame → is_shared found.entry.perm ≡ true
    its_sharing found same =
        same_sharing before h.apart found.slot found.page n (pipe_page fd) found.entry e found.counts pipe_counts (found.frame ∙ same) ∙ pipe_shared_page

    not_own : is_shared x.perm ≡ false → x.frame ≢ e.frame
    not_own own_page same = by_space (d == (slot_at s 0).directory) refl
      where
        by_space : (c : Bool) → (d == (slot_at s 0).directory) ≡ c → ⊥
        by_space true test = servers_not (grind (arith, nat_tests)) same
        by_space false test =
            let found = entry_counts h d p x (grind (arith, nat_tests)) hx in
            let contradiction : true ≡ false = sym (its_sharing found same) ∙ found.own own_page in cc

    not_another : is_pipe_page p ≡ false → is_shared x.perm ≡ true → x.frame ≢ e.frame
    not_another other shared_page same = by_space (d == (slot_at s 0).directory) refl
      where
        by_space : (c : Bool) → (d == (slot_at s 0).directory) ≡ c → ⊥
        by_space true test = servers_not (grind (arith, nat_tests)) same
        by_space false test =
            let found = entry_counts h d p x (grind (arith, nat_tests)) hx in
            let named_so = h.named found.slot found.page found.entry found.counts (its_sharing found same) in
            let kind : true ≡ false =
            sym is_pipe_so ∙ ap (λ (f : ℕ). names.is_pipe (names.name f)) (sym (found.frame ∙ same)) ∙ named_so.of_pipe
            ∙ ap is_pipe_page (found.itself shared_page) ∙ other in
            let contradiction : true ≡ false = kind in cc

  -- ---- its bytes are others

  module _ (sp : SpacesState) (now : List ℕ) (now_whole : IsPage now) (rewritten : IsRewritten s.spaces sp e.frame now)
      (in_order : IsInOrder (with_spaces s sp)) (last : s.last ≡ Some n) (to : Step)
      (lock : LockBehind (place.InService call (step.Piped at)) (place.InService call to) (end_given call) (s.spaces.pages e.frame) now) where
    abbrev words : List ℕ
    words = words_at (number_of call) to

    abbrev k : Slot
    k = record (slot_at s n) { extra = words }

    there : place_of k ≡ place.InService call to
    there =
        place_at (slot_at s n).registers (number_of call) to piped.outside
        ∙ ap (λ (x : Service). place.InService x to) (named_at (slot_at s n) call (step.Piped at) stands)

    abbrev pub slots_behind : ℕ → Slot
    slots_behind = upd s.environments.slots n k

    place_behind : place_of (slots_behind n) ≡ place.InService call to
    place_behind = ap (λ (x : Slot). place_of x) (upd-at s.environments.slots n k) ∙ there

    bytes_kept : (g : ℕ) → g ≢ e.frame → sp.pages g ≡ s.spaces.pages g
    bytes_kept g ne = ap (λ (pages : ℕ → List ℕ). pages g) rewritten.pages ∙ upd-other s.spaces.pages e.frame now g ne

    pub pipe_now : sp.pages e.frame ≡ now
    pipe_now = ap (λ (pages : ℕ → List ℕ). pages e.frame) rewritten.pages ∙ upd-at s.spaces.pages e.frame now

    row_kept : (d q : ℕ) → rows_of sp d q ≡ rows_of s.spaces d q
    row_kept d q = ap (λ (rows : Rows). rows d q) rewritten.rows

    seen : (d : ℕ) → SeenButPipes names names s.spaces sp d
    seen d = record {
      rows = ap (λ (rows : Rows). rows d) rewritten.rows;
      bytes = λ p x hx own_page. bytes_kept x.frame (not_own d p x hx own_page);
      named_so = λ p x hx shared_page. refl;
      devices = λ p x descriptor other hx shared_page. ap lasting_words (bytes_kept x.frame (not_another d p x hx other shared_page));
      regions = rewritten.regions d;
    }

    plain_after : is_plain (place_of k) ≡ true
    plain_after = ap is_plain there ∙ on_pipes_plain call to is

    counts_kept : (m q : ℕ) → logical sp slots_behind m q ≡ before m q
    counts_kept =
        upd-all (λ m (x : Slot). (q : ℕ) → logical_by (is_clients m x) (counted (place_of x) (rows_of sp x.directory)) q ≡ before m q)
        s.environments.slots n k
        (λ q. ap (λ (o : Option Entry). if is_clients n (slot_at s n) then o else None)
        (counted_plain (place_of k) (rows_of sp home) plain_after q ∙ row_kept home q
        ∙ sym (counted_plain (place_of (slot_at s n)) (rows_of s.spaces home) plain q)))
        (λ m ne q. ap (λ (rows : Rows). logical_by (is_clients m (slot_at s m)) (counted (place_of (slot_at s m)) (rows (slot_at s m).directory)) q)
        rewritten.rows)

    lock_there : LockBehind (place_of (slot_at s n)) (place_of (slots_behind n)) fd (s.spaces.pages e.frame) now
    lock_there =
        subst (λ (p : Place). LockBehind p (place_of (slots_behind n)) fd (s.spaces.pages e.frame) now) (sym stands)
        (subst (λ (p : Place). LockBehind (place.InService call (step.Piped at)) p fd (s.spaces.pages e.frame) now) (sym place_behind) lock)

    places_kept : (m : ℕ) → m ≢ n → place_of (slots_behind m) ≡ place_of (slot_at s m)
    places_kept m ne = ap (λ (x : Slot). place_of x) (upd-other s.environments.slots n k m ne)

    alone : (m : ℕ) → m ≢ n → HoldsLock (place_of (slot_at s m)) (before m) e.frame → now ≡ s.spaces.pages e.frame
    alone =
        alone_there s.spaces.pages sp.pages s.environments.slots slots_behind before (logical sp slots_behind) h.locks n fd below e pipe_counts pipe_shared_page now counts_kept bytes_kept pipe_now places_kept lock_there

    locks_so : LocksStand sp.pages slots_behind (logical sp slots_behind)
    locks_so =
        locks_behind s.spaces.pages sp.pages s.environments.slots slots_behind before (logical sp slots_behind) h.locks n fd below e pipe_counts pipe_shared_page now counts_kept bytes_kept pipe_now places_kept lock_there

    -- its own space is alike, but for the bytes of the pipe
    pub pipe_view : ViewAlike (view_of s.spaces (slot_at s n).directory) (view_of sp (slot_at s n).directory)
    pipe_view = view_but_pipes (seen home)

    -- ---- the others

    module _ (m : ℕ) (ne : m ≢ n) (c : Born) (lives_so : a.slots m ≡ born c) where
      other : StandsForBorn names s.spaces (slot_at s m) c
      other = born_at h m c lives_so

      other_client : is_clients m (slot_at s m) ≡ true
      other_client = clients_live h m c lives_so

      kept_there : (q : ℕ) → pipe_minded (place_of (slot_at s m)) ≡ Some q → q < DESCRIPTORS → (x : Entry) →
          rows_of s.spaces (slot_at s m).directory (pipe_page q) ≡ Some x → x.frame ≡ e.frame → now ≡ s.spaces.pages e.frame
      kept_there q minded under x hx same = elim (minded_so (place_of (slot_at s m)) q minded) [
        | inl making ↦
            let its : before m (pipe_page q) ≡ Some (as_own x) =
            logical_live s.spaces s.environments.slots m other_client (pipe_page q)
            ∙ counted_made (place_of (slot_at s m)) (rows_of s.spaces (slot_at s m).directory) (pipe_page q) (making.1 under) making.0
            ∙ ap (λ (o : Option Entry). option_map as_own o) hx in
            let contradiction : false ≡ true =
            same_sharing before h.apart m (pipe_page q) n (pipe_page fd) (as_own x) e its pipe_counts same ∙ pipe_shared_page in absurd cc
        | inr holding ↦
            alone m ne (record {
              fd = q;
              locked = holding.1;
              below = under;
              entry = x;
              stands = logical_plain s.spaces s.environments.slots m other_client holding.0 (pipe_page q) ∙ hx;
              shared = ap is_shared (other.library.descriptors (pipe_page q) x (grind (arith, nat_tests)) hx);
              same = same;
            })
      ]

      other_keeps : KeepsPipe (pipe_minded (place_of (slot_at s m))) (view_of s.spaces (slot_at s m).directory) (view_of sp (slot_at s m).directory)
      other_keeps =
          keeps_pipe (pipe_minded (place_of (slot_at s m))) (view_of s.spaces (slot_at s m).directory) (view_of sp (slot_at s m).directory)
          (λ q minded under x hx. elim (cases_eq x.frame e.frame) [
            | inl same ↦ ap sp.pages same ∙ pipe_now ∙ kept_there q minded under x hx same ∙ sym (ap s.spaces.pages same)
            | inr apart ↦ bytes_kept x.frame apart
          ])

      born_there : StandsForBorn names sp (slot_at s m) c
      born_there =
          born_stays (slot_at s m) c (seen (slot_at s m).directory) other_keeps
          (λ on_pipe. turn_stopped (view_of s.spaces (slot_at s m).directory) (view_of sp (slot_at s m).directory) (slot_at s m) (others_rest h n last m ne))
          other

    other_slots : (m : ℕ) → m ≢ n → (slot : AbstractSlot) → a.slots m ≡ slot → StandsForSlot names s.spaces (slot_at s m) slot →
        StandsForSlot names sp (slot_at s m) slot
    other_slots m ne (free id) is_so so = so
    other_slots m ne (unborn id parent) is_so so = so
    other_slots m ne (born c) is_so so = born_there m ne c is_so
    other_slots m ne (serving id) is_so so = so

    server_so : HasServer sp (slot_at s 0) a.opened a.files.blocks a.server
    server_so = record {
      status = h.server.status;
      pages = λ q there. h.server.pages q (ap is_some (sym (row_kept (slot_at s 0).directory q)) ∙ there);
      tables = λ r there. h.server.tables r (sym (rewritten.regions (slot_at s 0).directory r) ∙ there);
      alone = λ j q x y under there here.
          h.server.alone j q x y under (sym (row_kept (slot_at s 0).directory _) ∙ there) (sym (row_kept (slot_at s 0).directory q) ∙ here);
    }

    -- ---- the environment itself, at its next step

    module _ (kept : (other : ℕ) → is_dropped (place.InService call (step.Piped at)) other ≡ false)
        (held : holds_page (place.InService call (step.Piped at)) ≡ holds_page (place.InService call to))
        (pipes : ℕ → List ℕ) (others_same : (other : ℕ) → other ≢ pipe_name → pipes other ≡ a.pipes other)
        (shows : HasPipe (record (things_in s a) { pipes = pipes }) pipe_name e.frame now) where
      abbrev things : Things
      things = record (things_in s a) { pipes = pipes }

      named_so : (m p : ℕ) (x : Entry) → before m p ≡ Some x → is_shared x.perm ≡ true →
          IsNamed names sp.pages a.shared things a.next_name p x.frame
      named_so m p x hx shared_page =
          let was = h.named m p x hx shared_page in
          let name = names.name x.frame in
          record {
            home = was.home;
            kind = was.kind;
            of_pipe = was.of_pipe;
            old = was.old;
            shows = elim (cases_eq x.frame e.frame) [
              | inl same ↦
                  subst (λ (f : ℕ). ShowsBy things (names.name f) f (names.is_object (names.name f)) (names.is_pipe (names.name f))
                  (a.shared (names.name f)) (sp.pages f)) (sym same)
                  (subst (λ (c : Bool). ShowsBy things pipe_name e.frame c (names.is_pipe pipe_name) (a.shared pipe_name) (sp.pages e.frame))
                  (sym is_object_so)
                  (subst (λ (c : Bool). HasThing things pipe_name e.frame c (sp.pages e.frame)) (sym is_pipe_so)
                  (subst (λ (l : List ℕ). HasPipe things pipe_name e.frame l) (sym pipe_now) shows)))
              | inr ne ↦
                  subst (λ (l : List ℕ). ShowsBy things name x.frame (names.is_object name) (names.is_pipe name) (a.shared name) l)
                  (sym (bytes_kept x.frame ne))
                  (shows_still (things_in s a) pipes name x.frame (names.is_object name) (names.is_pipe name) (a.shared name) (s.spaces.pages x.frame)
                  (λ object is_pipe. others_same name (λ same. ne (sym was.home ∙ ap names.frame same ∙ was_named.home))) was.shows)
            ];
          }

      rows_so : RowsStand names sp.pages a.shared things a.next_name (logical sp slots_behind)
      rows_so = record {
        apart = λ m p o q x y ne hx hy same. h.apart m p o q x y ne (sym (counts_kept m p) ∙ hx) (sym (counts_kept o q) ∙ hy) same;
        named = λ m p x hx shared_page. named_so m p x (sym (counts_kept m p) ∙ hx) shared_page;
        users = λ m p x hx. h.users m p x (sym (counts_kept m p) ∙ hx);
        whole = λ m p x hx. elim (cases_eq x.frame e.frame) [
          | inl same ↦ subst (λ (l : List ℕ). IsPage l) (sym (ap sp.pages same ∙ pipe_now)) now_whole
          | inr ne ↦ subst (λ (l : List ℕ). IsPage l) (sym (bytes_kept x.frame ne)) (h.whole m p x (sym (counts_kept m p) ∙ hx))
        ];
        beside = λ m p q x y hx hy. h.beside m p q x y (sym (counts_kept m p) ∙ hx) hy;
      }

      rows_behind : RowsStand names sp.pages a.shared (record things { row = rows_of sp (slots_behind 0).directory }) a.next_name (logical sp slots_behind)
      rows_behind =
          rows_turned {things = things}
          (row_other sp s.environments.slots n k (born_not_first h n piped.b piped.is)
          ∙ ap (λ (rows : Rows). rows (slot_at s 0).directory) rewritten.rows) rows_so

      module _ (program : ProgramState) (phase : Phase) (blocked : Bool) (runs : IsStatusFor (slot_at s n).status blocked)
          (slots : ℕ → AbstractSlot) (here : slots n ≡ born (record piped.b { program = program; phase = phase; blocked = blocked }))
          (elsewhere : (m : ℕ) → m ≢ n → slots m ≡ a.slots m)
          (so : StandsAtStep (view_of sp (slot_at s n).directory) (record (slot_at s n) { extra = words_at (number_of call) to })
          (record piped.b { program = program; phase = phase; blocked = blocked }) call to) where
        abbrev c : Born
        c = record piped.b { program = program; phase = phase; blocked = blocked }

        mine : StandsForBorn names sp k c
        mine = record {
          id = piped.own.id;
          id_small = piped.own.id_small;
          parent = piped.own.parent;
          env_type = piped.own.env_type;
          runs = runs;
          upcall = piped.own.upcall ∙ plain_upcall (place_of (slot_at s n)) (ap is_in_handler stands)
              ∙ sym (plain_upcall (place_of k) (ap is_in_handler there));
          descriptors = λ other still.
              piped.own.descriptors other (ap (λ (p : Place). is_dropped p other) stands ∙ kept other)
              ∙ ap (λ (t : Bool). seen_unless t (descriptor_seen names s.spaces home other))
              (ap (λ (p : Place). is_made p other) stands ∙ on_pipes_made call (step.Piped at) is other
              ∙ sym (ap (λ (p : Place). is_made p other) there ∙ on_pipes_made call to is other))
              ∙ sym (ap (seen_unless (is_made (place_of k) other)) (descriptor_but_pipes (seen home) other));
          memory = λ p. piped.own.memory p ∙ sym (seen_but_pipes (seen home) p);
          library = library_alike (place_of k) words (rows_of s.spaces home) (rows_of sp home) (ap (λ (rows : Rows). rows home) rewritten.rows)
              (library_moved (place_of (slot_at s n)) (place_of k) (slot_at s n).extra words (rows_of s.spaces home)
              (plain_copy (place_of (slot_at s n)) (ap is_in_handler stands) ∙ sym (plain_copy (place_of k) (ap is_in_handler there)))
              (plain_working (place_of (slot_at s n)) (slot_at s n).extra (ap is_in_handler stands) ∙ ap holds_page stands ∙ held
              ∙ sym (ap holds_page there) ∙ sym (plain_working (place_of k) words (ap is_in_handler there))) piped.own.library);
          regions_have = λ r has_it. rewritten.regions home r ∙ piped.own.regions_have r has_it;
          regions_only = λ r table. piped.own.regions_only r (sym (rewritten.regions home r) ∙ table);
          stack = piped.own.stack;
          flags = piped.own.flags;
          at = subst (λ (p : Place). StandsAt p (view_of sp home) k c) (sym there) so;
        }

        ends_mine : EndsStand names a.objects (place_of k) (rows_of sp home) c
        ends_mine = let had = ends_at h n piped.b piped.is in record {
          have = λ other name of under names_it is_so.
              let found = had.have other name of under names_it is_so in
              (found.0, row_kept home (pipe_page other) ∙ found.1, found.2);
          only = λ other entry under off at_page.
              had.only other entry under
              (ap (λ (p : Place). is_on_its_way p other) stands ∙ on_pipes_way call (step.Piped at) is other)
              (sym (row_kept home (pipe_page other)) ∙ at_page);
        }

        pub pipe_written_stands : StandsFor names (with_extra (with_spaces s sp) n (words_at (number_of call) to)) (record a { slots = slots; pipes = pipes })
        pipe_written_stands = record {
          slots = upd-all (λ m (x : Slot). StandsForSlot names sp x (slots m)) s.environments.slots n k
              (subst (λ (y : AbstractSlot). StandsForSlot names sp k y) (sym here) mine)
              (λ m ne. subst (λ (y : AbstractSlot). StandsForSlot names sp (slot_at s m) y) (sym (elsewhere m ne))
              (other_slots m ne (a.slots m) refl (h.slots m)));
          children = children_stay h.children n (λ m ne. upd-other s.environments.slots n k m ne) elsewhere (λ m ne live. seen (slot_at s m).directory)
              (born_bears_none (slot_at s n) (a.slots n) piped.b piped.is (plain_unborne (place_of (slot_at s n)) plain))
              (born_bears_none (slots_behind n) (slots n) c here
              (ap (λ (x : Slot). borne_in (place_of x)) (upd-at s.environments.slots n k) ∙ plain_unborne (place_of k) plain_after));
          apart = rows_behind.apart;
          named = rows_behind.named;
          users = rows_behind.users;
          whole = rows_behind.whole;
          beside = rows_behind.beside;
          ends = upd-all (λ m (x : Slot). EndsStandAt names a.objects (place_of x) (rows_of sp x.directory) (slots m)) s.environments.slots n k
              (subst (λ (y : AbstractSlot). EndsStandAt names a.objects (place_of k) (rows_of sp home) y) (sym here) ends_mine)
              (λ m ne. subst (λ (y : AbstractSlot). EndsStandAt names a.objects (place_of (slot_at s m)) (rows_of sp (slot_at s m).directory) y)
              (sym (elsewhere m ne))
              (ends_stay names names s.spaces sp a.objects (slot_at s m) (a.slots m) (h.slots m) (λ live. seen (slot_at s m).directory) (h.ends m)));
          locks = locks_so;
          runs = turns_settle s.environments.slots n k h.runs (record { id = refl; env_type = refl; turns = refl; calm = λ runs. runs });
          old = old_but h.old n piped.b piped.is slots c here (λ fd. refl) elsewhere;
          free_slots = h.free_slots;
          first = elsewhere 0 (born_not_first h n piped.b piped.is) ∙ h.first;
          server = server_same (upd-other s.environments.slots n k 0 (born_not_first h n piped.b piped.is)) server_so;
          input = h.input;
          last = h.last;
          turns = h.turns;
          tabled = tabled_set h.tabled n k (born_live piped.own) (record { id = refl; env_type = refl; turns = refl; calm = λ runs. runs });
          in_order = slot_in_order (with_spaces s sp) n k refl refl in_order;
        }

-- ---- a store into the page

-- where the page of the pipe of a descriptor stands
abbrev pub pipe_address : ℕ → ℕ
pipe_address fd = FDTABLE + PGSIZE * (DESCRIPTORS + fd)

-- What a store comes to: it gives nothing, and the state behind it stands for an abstract one at the next step of the service.
pub record IsWritten (names : Names) (s : KernelState) (n : ℕ) (call : Service) (step : CallStep (Unit {0})) (to : Step) (behind : AbstractState) : Type 0 where
  pub spaces : SpacesState
  pub step_is : step ≡ giving (with_spaces s spaces) tt
  pub stands : IsInOrder (with_spaces s spaces) → StandsFor names (with_extra (with_spaces s spaces) n (words_at (number_of call) to)) behind

module _ {names : Names} {s : KernelState} {a : AbstractState} (h : StandsFor names s a) (n : ℕ) (call : Service) (is : is_on_pipes call ≡ true)
    (at : PipeStep) (stands : place_of (slot_at s n) ≡ place.InService call (step.Piped at)) (below : end_given call < DESCRIPTORS) (e : Entry)
    (lies : rows_of s.spaces (slot_at s n).directory (pipe_page (end_given call)) ≡ Some e) (last : s.last ≡ Some n) where
  under_limit : pipe_page (end_given call) < page_limit
  unfolding page_limit
  under_limit = omega (arith, below)

  pub word_puts : (o word : ℕ) → o + 4 ≤ PGSIZE →
      PutsBytes s n e o (to_le_bytes w32 word) (store s n (pipe_address (end_given call) + o) word)
  word_puts o word fits =
      let place_is : pipe_page (end_given call) * PGSIZE + o ≡ pipe_address (end_given call) + o = omega arith in
      subst (λ (va : ℕ). PutsBytes s n e o (to_le_bytes w32 word) (store s n va word)) place_is
      (store_puts s n (pipe_page (end_given call)) under_limit e lies (pipe_user h n call is at stands below e lies)
      (pipe_writes h n call is at stands below e lies) o (omega (arith, fits)) word fits)

  pub byte_puts : (o byte : ℕ) → o < PGSIZE →
      PutsBytes s n e o (byte ∷ []) (store_byte s n (pipe_address (end_given call) + o) byte)
  byte_puts o byte fits =
      let place_is : pipe_page (end_given call) * PGSIZE + o ≡ pipe_address (end_given call) + o = omega arith in
      subst (λ (va : ℕ). PutsBytes s n e o (byte ∷ []) (store_byte s n va byte)) place_is
      (store_byte_puts s n (pipe_page (end_given call)) under_limit e lies (pipe_user h n call is at stands below e lies)
      (pipe_writes h n call is at stands below e lies) o fits byte)

  -- nothing is seen of it
  pub hidden_behind : (sp : SpacesState) (now : List ℕ) → IsPage now → IsRewritten s.spaces sp e.frame now → (to : Step) →
      LockBehind (place.InService call (step.Piped at)) (place.InService call to) (end_given call) (s.spaces.pages e.frame) now →
      ((other : ℕ) → is_dropped (place.InService call (step.Piped at)) other ≡ false) →
      holds_page (place.InService call (step.Piped at)) ≡ holds_page (place.InService call to) →
      HasPipe (things_in s a) (names.name e.frame) e.frame now →
      (ViewAlike (view_of s.spaces (slot_at s n).directory) (view_of sp (slot_at s n).directory) → sp.pages e.frame ≡ now →
      StandsAtStep (view_of sp (slot_at s n).directory) (record (slot_at s n) { extra = words_at (number_of call) to })
      (piped h n call is at stands below e lies).b call to) →
      IsInOrder (with_spaces s sp) → StandsFor names (with_extra (with_spaces s sp) n (words_at (number_of call) to)) a
  hidden_behind sp now whole rewritten to lock kept held shows so in_order =
      let it = piped h n call is at stands below e lies in
      pipe_written_stands h n call is at stands below e lies sp now whole rewritten in_order last to lock kept held a.pipes (λ other ne. refl) shows
      it.b.program it.b.phase it.b.blocked it.own.runs a.slots it.is (λ m ne. refl)
      (so (pipe_view h n call is at stands below e lies sp now whole rewritten in_order last to lock)
      (pipe_now h n call is at stands below e lies sp now whole rewritten in_order last to lock))

  -- the pipe is another, and the service is at another stage, or over
  pub shown_behind : (sp : SpacesState) (now : List ℕ) → IsPage now → IsRewritten s.spaces sp e.frame now → (to : Step) →
      LockBehind (place.InService call (step.Piped at)) (place.InService call to) (end_given call) (s.spaces.pages e.frame) now →
      ((other : ℕ) → is_dropped (place.InService call (step.Piped at)) other ≡ false) →
      holds_page (place.InService call (step.Piped at)) ≡ holds_page (place.InService call to) →
      (pipes : ℕ → List ℕ) → ((other : ℕ) → other ≢ names.name e.frame → pipes other ≡ a.pipes other) →
      HasPipe (record (things_in s a) { pipes = pipes }) (names.name e.frame) e.frame now →
      (program : ProgramState) (phase : Phase) (blocked : Bool) → blocked ≡ (piped h n call is at stands below e lies).b.blocked →
      (ViewAlike (view_of s.spaces (slot_at s n).directory) (view_of sp (slot_at s n).directory) → sp.pages e.frame ≡ now →
      StandsAtStep (view_of sp (slot_at s n).directory) (record (slot_at s n) { extra = words_at (number_of call) to })
      (record (piped h n call is at stands below e lies).b { program = program; phase = phase; blocked = blocked }) call to) →
      IsInOrder (with_spaces s sp) →
      StandsFor names (with_extra (with_spaces s sp) n (words_at (number_of call) to))
      (with_born (record a { pipes = pipes }) n
      (record (piped h n call is at stands below e lies).b { program = program; phase = phase; blocked = blocked }))
  shown_behind sp now whole rewritten to lock kept held pipes others_same shows program phase blocked awake so in_order =
      let it = piped h n call is at stands below e lies in
      let c = record it.b { program = program; phase = phase; blocked = blocked } in
      pipe_written_stands h n call is at stands below e lies sp now whole rewritten in_order last to lock kept held pipes others_same shows
      program phase blocked (subst (λ (t : Bool). IsStatusFor (slot_at s n).status t) (sym awake) it.own.runs)
      (upd a.slots n (born c)) (upd-at a.slots n (born c)) (λ m ne. upd-other a.slots n (born c) m ne)
      (so (pipe_view h n call is at stands below e lies sp now whole rewritten in_order last to lock)
      (pipe_now h n call is at stands below e lies sp now whole rewritten in_order last to lock))

-- ---- what the step comes to

-- nothing is seen
pub written_keeps : (s : KernelState) (n : ℕ) (call : Service) (step : CallStep (Unit {0})) (to : Step) →
    ((names : Names) (a : AbstractState) → StandsFor names s a → s.last ≡ Some n → IsWritten names s n call step to a) → IsInOrder step.state →
    KeepsStanding progress.Hidden n s (with_extra step.state n (words_at (number_of call) to)) []
written_keeps s n call step to writes in_order a h turn quiet =
    let it = writes h.0 a h.1 turn.last in
    let state : step.state ≡ with_spaces s it.spaces = ap (λ (c : CallStep (Unit {0})). c.state) it.step_is in (
      refl,
      (
        h.0,
        subst (λ (t : KernelState). StandsFor h.0 (with_extra t n (words_at (number_of call) to)) a) (sym state)
            (it.stands (subst (λ (t : KernelState). IsInOrder t) state in_order)),
      ),
    )
