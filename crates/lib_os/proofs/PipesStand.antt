-- Ends of pipes stand beside the pages of their pipes, and locks are held by whom they were held, where nothing of them changes.
use Rattle.std.proofs.Common.{◌≡◌, ◌≢◌, ◌∙◌, ◌<◌, ◌==◌, ◌&&◌, ℕ, Bool, true, false, not, List, refl, sym, ap, subst, arith, if◌then◌else◌}
use Rattle.std.specs.Prelude.{Option, Some, None}
use Rattle.std.proofs.lemmas.Bool.Decides.{nat_tests}
use Rattle.std.proofs.lemmas.Option.{none-some}
use Rattle.jos_base.specs.Environments.{Slot}
use Rattle.jos_base.specs.Reach.{Entry}
use Rattle.jos_base.specs.SpacesState.{SpacesState, put}
use Rattle.jos_base.proofs.Puts.{Elsewhere, put-other}
use Rattle.lib_os.specs.declared.numbers.TheConstants.{DESCRIPTORS}
use Rattle.lib_os.specs.declared.place.PipeStep.{PipeStep}
use Rattle.lib_os.specs.declared.place.PipeStep.TheVariants as pipe
use Rattle.lib_os.specs.declared.place.Place.{Place}
use Rattle.lib_os.specs.declared.place.Place.TheVariants as place
use Rattle.lib_os.specs.declared.place.Step.{Step}
use Rattle.lib_os.specs.declared.place.Step.TheVariants as step
use Rattle.lib_os.specs.declared.service.Service.{Service}
use Rattle.lib_os.specs.declared.service.Service.TheVariants as service
use Rattle.lib_os.specs.AbstractState.{AbstractSlot, Born, Object, born, free, is_live, serving, unborn}
use Rattle.lib_os.specs.DescriptorPages.{lock_of}
use Rattle.lib_os.specs.LibraryPages.{LibraryPages}
use Rattle.lib_os.specs.PipeEnds.{EndsStand, EndsStandAt, HoldsLock, LocksStand, holds_lock, is_dropped, is_given, is_made, is_on_its_way, locked_at, pipe_named}
use Rattle.lib_os.specs.Places.{place_of}
use Rattle.lib_os.specs.Rows.{EntryRow, Names, Rows, descriptor_seen, is_pipe_page, is_shared, pipe_page, rows_of}
use Rattle.lib_os.specs.StandsAtPipe.{end_given}
use Rattle.lib_os.specs.StandsFor.{StandsForSlot, descriptor_seen_at, seen_unless}
use Rattle.lib_os.proofs.Logical.{both, is_making_pipe, makes_pages, unmade_makes}
use Rattle.lib_os.proofs.SlotsStand.{SeenButPipes}

-- ---- places at which nothing is done to pipes

abbrev pub is_dropping : PipeStep → Bool
is_dropping (pipe.DroppingPipe fd) = true
is_dropping _ = false

-- at such a step no lock is held, no end is on its way, and none is dropped
abbrev pub is_calm_step : Step → Bool
is_calm_step (step.Piped at) = not (holds_lock at) && (not (makes_pages at) && not (is_dropping at))
is_calm_step step.MappingDescriptor = false
is_calm_step _ = true

abbrev pub is_calm : Place → Bool
is_calm (place.InService s at) = is_calm_step at
is_calm _ = true

not_so : (c : Bool) → not c ≡ true → c ≡ false
not_so false is = refl
not_so true is = absurd (let contradiction : false ≡ true = is in cc)

-- what is so at a calm step on a pipe
calm_at : (at : PipeStep) → is_calm_step (step.Piped at) ≡ true → (holds_lock at ≡ false) × (makes_pages at ≡ false) × (is_dropping at ≡ false)
calm_at at calm =
    let first = both _ _ calm in let second = both _ _ first.1 in
    (not_so (holds_lock at) first.0, not_so (makes_pages at) second.0, not_so (is_dropping at) second.1)

pub calm_locked : (at : Place) → is_calm at ≡ true → locked_at at ≡ None
calm_locked (place.InService s (step.Piped at)) calm = pipe_locked s at (calm_at at calm).0
  where
    pipe_locked : (s : Service) (at : PipeStep) → holds_lock at ≡ false → locked_at (place.InService s (step.Piped at)) ≡ None
    pipe_locked s at none = by_test (holds_lock at) none
      where
        by_test : (c : Bool) → c ≡ false → (if c then Some (end_given s) else None) ≡ None
        by_test c is = ap (λ (t : Bool). if t then Some (end_given s) else None) is
calm_locked _ calm = refl

pub calm_made : (at : Place) → is_calm at ≡ true → (fd : ℕ) → is_made at fd ≡ false
calm_made (place.InService service.Pipe (step.Piped at)) calm fd = unmade_makes at (calm_at at calm).1 fd
calm_made _ calm fd = refl

pub calm_unmade : (at : Place) → is_calm at ≡ true → is_making_pipe at ≡ false
calm_unmade (place.InService service.Pipe (step.Piped at)) calm = (calm_at at calm).1
calm_unmade _ calm = refl

calm_given : (at : Place) → is_calm at ≡ true → (fd : ℕ) → is_given at fd ≡ false
calm_given (place.InService (service.Dup old new) step.MappingDescriptor) calm fd = absurd (let contradiction : false ≡ true = calm in cc)
calm_given _ calm fd = refl

pub calm_dropped : (at : Place) → is_calm at ≡ true → (fd : ℕ) → is_dropped at fd ≡ false
calm_dropped (place.InService s (step.Piped (pipe.DroppingPipe dropped))) calm fd = absurd (let contradiction : false ≡ true = calm in cc)
calm_dropped _ calm fd = refl

pub calm_on_way : (at : Place) → is_calm at ≡ true → (fd : ℕ) → is_on_its_way at fd ≡ false
calm_on_way at calm fd =
    ap (λ (c : Bool). if c then true else is_given at fd) (calm_made at calm fd) ∙ calm_given at calm fd

-- At two places the same lock is held, and the same ends are on their way.
pub record PlacesAlike (before after : Place) : Type 0 where
  pub locked : locked_at after ≡ locked_at before
  pub on_way : (fd : ℕ) → is_on_its_way after fd ≡ is_on_its_way before fd

pub same_places : {before after : Place} → after ≡ before → PlacesAlike before after
same_places same = record { locked = ap locked_at same; on_way = λ fd. ap (λ (at : Place). is_on_its_way at fd) same }

pub calm_places : {before after : Place} → is_calm before ≡ true → is_calm after ≡ true → PlacesAlike before after
calm_places {before = before} {after = after} calm calm_after = record {
  locked = calm_locked after calm_after ∙ sym (calm_locked before calm);
  on_way = λ fd. calm_on_way after calm_after fd ∙ sym (calm_on_way before calm fd);
}

-- The same, and the same descriptors are made and dropped.
pub record PipesAlike (before after : Place) : Type 0 where
  pub places : PlacesAlike before after
  pub made : (fd : ℕ) → is_made after fd ≡ is_made before fd
  pub dropped : (fd : ℕ) → is_dropped after fd ≡ is_dropped before fd

pub calm_alike : {before after : Place} → is_calm before ≡ true → is_calm after ≡ true → PipesAlike before after
calm_alike {before = before} {after = after} calm calm_after = record {
  places = calm_places calm calm_after;
  made = λ fd. calm_made after calm_after fd ∙ sym (calm_made before calm fd);
  dropped = λ fd. calm_dropped after calm_after fd ∙ sym (calm_dropped before calm fd);
}

-- there the same descriptors are seen
pub descriptors_alike : (names : Names) (s : SpacesState) (d : ℕ) (before after : Place) (descriptors : ℕ → Option ℕ) → PipesAlike before after →
    ((fd : ℕ) → is_dropped before fd ≡ false → descriptors fd ≡ descriptor_seen_at before names s d fd) →
    (fd : ℕ) → is_dropped after fd ≡ false → descriptors fd ≡ descriptor_seen_at after names s d fd
descriptors_alike names s d before after descriptors alike seen fd still =
    seen fd (sym (alike.dropped fd) ∙ still) ∙ ap (λ (c : Bool). seen_unless c (descriptor_seen names s d fd)) (sym (alike.made fd))

-- as at calm places
pub descriptors_turned : (names : Names) (s : SpacesState) (d : ℕ) (before after : Place) (descriptors : ℕ → Option ℕ) →
    is_calm before ≡ true → is_calm after ≡ true →
    ((fd : ℕ) → is_dropped before fd ≡ false → descriptors fd ≡ descriptor_seen_at before names s d fd) →
    (fd : ℕ) → is_dropped after fd ≡ false → descriptors fd ≡ descriptor_seen_at after names s d fd
descriptors_turned names s d before after descriptors calm calm_after seen fd still =
    seen fd (calm_dropped before calm fd)
    ∙ ap (λ (c : Bool). seen_unless c (descriptor_seen names s d fd)) (calm_made before calm fd ∙ sym (calm_made after calm_after fd))

-- ---- ends

-- Its descriptors name what they named, the same pages of pipes stand there, by the same names, and the same ends are on their way.
pub ends_moved : {names after : Names} {objects objects_after : ℕ → Object} {at to : Place} {row row_after : EntryRow} {b c : Born} →
    PlacesAlike at to → ((fd : ℕ) → c.descriptors fd ≡ b.descriptors fd) →
    ((fd name : ℕ) → b.descriptors fd ≡ Some name → pipe_named objects_after name ≡ pipe_named objects name) →
    ((fd : ℕ) → fd < DESCRIPTORS → row_after (pipe_page fd) ≡ row (pipe_page fd)) →
    ((fd : ℕ) (x : Entry) → fd < DESCRIPTORS → row (pipe_page fd) ≡ Some x → after.name x.frame ≡ names.name x.frame) →
    EndsStand names objects at row b → EndsStand after objects_after to row_after c
ends_moved alike descriptors objects_same rows named_so h = record {
  have = λ fd name pipe below names_it is.
      let was = sym (descriptors fd) ∙ names_it in
      let found = h.have fd name pipe below was (sym (objects_same fd name was) ∙ is) in
      (found.0, rows fd below ∙ found.1, named_so fd found.0 below found.1 ∙ found.2);
  only = λ fd entry below off lies.
      let was = sym (rows fd below) ∙ lies in
      let found = h.only fd entry below (sym (alike.on_way fd) ∙ off) was in
      (found.0, descriptors fd ∙ found.1, objects_same fd found.0 found.1 ∙ found.2 ∙ ap Some (sym (named_so fd entry below was)));
}

-- the pages of pipes are shared
pub pipe_shared : {at : Place} {words : List ℕ} {row : EntryRow} → LibraryPages at words row → (fd : ℕ) (x : Entry) → fd < DESCRIPTORS →
    row (pipe_page fd) ≡ Some x → is_shared x.perm ≡ true
pipe_shared h fd x below is = ap is_shared (h.descriptors (pipe_page fd) x (grind (arith, nat_tests)) is)

-- where nothing that is seen of its space differs, but the bytes of pages of pipes
pub ends_seen : {names after : Names} {s t : SpacesState} {d : ℕ} {objects : ℕ → Object} {at : Place} {words : List ℕ} {b : Born} →
    SeenButPipes names after s t d → LibraryPages at words (rows_of s d) → EndsStand names objects at (rows_of s d) b →
    EndsStand after objects at (rows_of t d) b
ends_seen seen library h =
    ends_moved (same_places refl) (λ fd. refl) (λ fd name is. refl) (λ fd below. ap (λ (r : EntryRow). r (pipe_page fd)) seen.rows)
    (λ fd x below is. seen.named_so (pipe_page fd) x is (pipe_shared library fd x below is)) h

-- as it is with each slot
pub ends_stay : (names after : Names) (s t : SpacesState) (objects : ℕ → Object) (k : Slot) (slot : AbstractSlot) → StandsForSlot names s k slot →
    (is_live slot ≡ true → SeenButPipes names after s t k.directory) →
    EndsStandAt names objects (place_of k) (rows_of s k.directory) slot → EndsStandAt after objects (place_of k) (rows_of t k.directory) slot
ends_stay names after s t objects k (free id) so seen h = tt
ends_stay names after s t objects k (unborn id parent) so seen h = tt
ends_stay names after s t objects k (born b) so seen h = ends_seen (seen refl) so.library h
ends_stay names after s t objects k (serving id) so seen h = tt

-- ---- locks

-- a page of a pipe that counts as shared has this frame
pub record IsPipeFrame (rows : Rows) (frame : ℕ) : Type 0 where
  pub slot : ℕ
  pub fd : ℕ
  pub below : fd < DESCRIPTORS
  pub entry : Entry
  pub stands : rows slot (pipe_page fd) ≡ Some entry
  pub shared : is_shared entry.perm ≡ true
  pub same : entry.frame ≡ frame

-- Who holds a lock held it, and who held one holds it, by the same entry; each page of a pipe was one; and the words of locks are the same.
pub record KeepsLocks (pages after : ℕ → List ℕ) (slots slots_after : ℕ → Slot) (rows rows_after : Rows) : Type 0 where
  pub back : (m fd : ℕ) (x : Entry) → fd < DESCRIPTORS → locked_at (place_of (slots_after m)) ≡ Some fd → rows_after m (pipe_page fd) ≡ Some x →
      (locked_at (place_of (slots m)) ≡ Some fd) × (rows m (pipe_page fd) ≡ Some x)
  pub forth : (m fd : ℕ) (x : Entry) → fd < DESCRIPTORS → locked_at (place_of (slots m)) ≡ Some fd → rows m (pipe_page fd) ≡ Some x →
      (locked_at (place_of (slots_after m)) ≡ Some fd) × (rows_after m (pipe_page fd) ≡ Some x)
  pub were : (m fd : ℕ) (x : Entry) → fd < DESCRIPTORS → rows_after m (pipe_page fd) ≡ Some x → is_shared x.perm ≡ true → IsPipeFrame rows x.frame
  pub bytes : (m fd : ℕ) (x : Entry) → fd < DESCRIPTORS → rows m (pipe_page fd) ≡ Some x → is_shared x.perm ≡ true →
      lock_of (after x.frame) ≡ lock_of (pages x.frame)

pub locks_kept : {pages after : ℕ → List ℕ} {slots slots_after : ℕ → Slot} {rows rows_after : Rows} →
    KeepsLocks pages after slots slots_after rows rows_after → LocksStand pages slots rows → LocksStand after slots_after rows_after
locks_kept {pages = pages} {after = after} {slots = slots} {slots_after = slots_after} {rows = rows} {rows_after = rows_after} keeps h = record {
  held = λ n frame holds. let was = before n frame holds in word n frame was ∙ h.held n frame was;
  holder = λ n fd entry below stands shared_page some.
      let it = keeps.were n fd entry below stands shared_page in
      let same = keeps.bytes it.slot it.fd it.entry it.below it.stands it.shared in
      let found = h.holder it.slot it.fd it.entry it.below it.stands it.shared
      (λ zero. some (ap (λ (f : ℕ). lock_of (after f)) (sym it.same) ∙ same ∙ zero)) in (
        found.0,
        behind found.0 entry.frame
            (subst (λ (f : ℕ). HoldsLock (place_of (slots found.0)) (rows found.0) f) it.same found.1),
      );
  alone = λ n m frame holds too. h.alone n m frame (before n frame holds) (before m frame too);
}
  where
    before : (n frame : ℕ) → HoldsLock (place_of (slots_after n)) (rows_after n) frame → HoldsLock (place_of (slots n)) (rows n) frame
    before n frame holds =
        let was = keeps.back n holds.fd holds.entry holds.below holds.locked holds.stands in
        record { fd = holds.fd; locked = was.0; below = holds.below; entry = holds.entry; stands = was.1; shared = holds.shared; same = holds.same }

    behind : (n frame : ℕ) → HoldsLock (place_of (slots n)) (rows n) frame → HoldsLock (place_of (slots_after n)) (rows_after n) frame
    behind n frame holds =
        let is = keeps.forth n holds.fd holds.entry holds.below holds.locked holds.stands in
        record { fd = holds.fd; locked = is.0; below = holds.below; entry = holds.entry; stands = is.1; shared = holds.shared; same = holds.same }

    word : (n frame : ℕ) → HoldsLock (place_of (slots n)) (rows n) frame → lock_of (after frame) ≡ lock_of (pages frame)
    word n frame holds =
        subst (λ (f : ℕ). lock_of (after f) ≡ lock_of (pages f)) holds.same
        (keeps.bytes n holds.fd holds.entry holds.below holds.stands holds.shared)

-- Who is on a pipe stands where the same lock is held, the same pages of pipes count, and shared ones have the same bytes.
pub locks_same : {pages after : ℕ → List ℕ} {slots slots_after : ℕ → Slot} {rows rows_after : Rows} →
    ((m : ℕ) → locked_at (place_of (slots_after m)) ≡ locked_at (place_of (slots m))) →
    ((m p : ℕ) → is_pipe_page p ≡ true → rows_after m p ≡ rows m p) →
    ((m p : ℕ) (x : Entry) → is_pipe_page p ≡ true → rows m p ≡ Some x → is_shared x.perm ≡ true → after x.frame ≡ pages x.frame) →
    LocksStand pages slots rows → LocksStand after slots_after rows_after
locks_same {pages = pages} {after = after} {rows = rows} {rows_after = rows_after} places same bytes h = locks_kept (record {
  back = λ m fd x below locked stands. (sym (places m) ∙ locked, sym (row m fd below) ∙ stands);
  forth = λ m fd x below locked stands. (places m ∙ locked, row m fd below ∙ stands);
  were = λ m fd x below stands shared_page. record {
    slot = m;
    fd = fd;
    below = below;
    entry = x;
    stands = sym (row m fd below) ∙ stands;
    shared = shared_page;
    same = refl;
  };
  bytes = λ m fd x below stands shared_page. ap lock_of (bytes m (pipe_page fd) x (page_is fd below) stands shared_page);
}) h
  where
    page_is : (fd : ℕ) → fd < DESCRIPTORS → is_pipe_page (pipe_page fd) ≡ true
    page_is fd below = grind (arith, nat_tests)

    row : (m fd : ℕ) → fd < DESCRIPTORS → rows_after m (pipe_page fd) ≡ rows m (pipe_page fd)
    row m fd below = same m (pipe_page fd) (page_is fd below)

-- One page is put in the place of another, or removed, which is not that of a pipe; all others keep their bytes.
pub locks_beside : {pages after : ℕ → List ℕ} {slots slots_after : ℕ → Slot} {rows rows_after : Rows} (n p : ℕ) (v : Option Entry) →
    is_pipe_page p ≡ false → ((m : ℕ) → locked_at (place_of (slots_after m)) ≡ locked_at (place_of (slots m))) →
    ((m q : ℕ) → rows_after m q ≡ put rows n p v m q) →
    ((m q : ℕ) (x : Entry) → Elsewhere m q n p → rows m q ≡ Some x → after x.frame ≡ pages x.frame) →
    LocksStand pages slots rows → LocksStand after slots_after rows_after
locks_beside {rows = rows} n p v none places same bytes h =
    locks_same places (λ m q is. same m q ∙ put-other rows n p v m q (apart m q is)) (λ m q x is stands shared_page. bytes m q x (apart m q is) stands) h
  where
    apart : (m q : ℕ) → is_pipe_page q ≡ true → Elsewhere m q n p
    apart m q is same here = let contradiction : true ≡ false = sym is ∙ ap is_pipe_page here ∙ none in cc

-- Only the pages of one slot change, which holds no lock before and after: each shared page of a pipe that it has then was one before.
pub locks_calm : {pages after : ℕ → List ℕ} {slots slots_after : ℕ → Slot} {rows rows_after : Rows} (n : ℕ) →
    locked_at (place_of (slots n)) ≡ None → locked_at (place_of (slots_after n)) ≡ None →
    ((m : ℕ) → m ≢ n → locked_at (place_of (slots_after m)) ≡ locked_at (place_of (slots m))) →
    ((m p : ℕ) → m ≢ n → is_pipe_page p ≡ true → rows_after m p ≡ rows m p) →
    ((fd : ℕ) (x : Entry) → fd < DESCRIPTORS → rows_after n (pipe_page fd) ≡ Some x → is_shared x.perm ≡ true → IsPipeFrame rows x.frame) →
    ((m fd : ℕ) (x : Entry) → fd < DESCRIPTORS → rows m (pipe_page fd) ≡ Some x → is_shared x.perm ≡ true →
    lock_of (after x.frame) ≡ lock_of (pages x.frame)) →
    LocksStand pages slots rows → LocksStand after slots_after rows_after
locks_calm {slots = slots} {slots_after = slots_after} {rows = rows} {rows_after = rows_after} n none none_after places same mine bytes h =
    locks_kept (record { back = back; forth = forth; were = were; bytes = bytes }) h
  where
    page_is : (fd : ℕ) → fd < DESCRIPTORS → is_pipe_page (pipe_page fd) ≡ true
    page_is fd below = grind (arith, nat_tests)

    other : (slots : ℕ → Slot) → locked_at (place_of (slots n)) ≡ None → (m fd : ℕ) → locked_at (place_of (slots m)) ≡ Some fd → m ≢ n
    other slots none m fd locked here = none-some fd (sym none ∙ ap (λ (q : ℕ). locked_at (place_of (slots q))) (sym here) ∙ locked)

    back : (m fd : ℕ) (x : Entry) → fd < DESCRIPTORS → locked_at (place_of (slots_after m)) ≡ Some fd → rows_after m (pipe_page fd) ≡ Some x →
        (locked_at (place_of (slots m)) ≡ Some fd) × (rows m (pipe_page fd) ≡ Some x)
    back m fd x below locked stands =
        let ne = other slots_after none_after m fd locked in
        (sym (places m ne) ∙ locked, sym (same m (pipe_page fd) ne (page_is fd below)) ∙ stands)

    forth : (m fd : ℕ) (x : Entry) → fd < DESCRIPTORS → locked_at (place_of (slots m)) ≡ Some fd → rows m (pipe_page fd) ≡ Some x →
        (locked_at (place_of (slots_after m)) ≡ Some fd) × (rows_after m (pipe_page fd) ≡ Some x)
    forth m fd x below locked stands =
        let ne = other slots none m fd locked in (places m ne ∙ locked, same m (pipe_page fd) ne (page_is fd below) ∙ stands)

    were : (m fd : ℕ) (x : Entry) → fd < DESCRIPTORS → rows_after m (pipe_page fd) ≡ Some x → is_shared x.perm ≡ true → IsPipeFrame rows x.frame
    were m fd x below stands shared_page = by_slot (m == n) refl
      where
        by_slot : (c : Bool) → (m == n) ≡ c → IsPipeFrame rows x.frame
        by_slot true test =
            let here : m ≡ n = grind (arith, nat_tests) in
            mine fd x below (ap (λ (q : ℕ). rows_after q (pipe_page fd)) (sym here) ∙ stands) shared_page
        by_slot false test = record {
          slot = m;
          fd = fd;
          below = below;
          entry = x;
          stands = sym (same m (pipe_page fd) (grind (arith, nat_tests)) (page_is fd below)) ∙ stands;
          shared = shared_page;
          same = refl;
        }

-- ---- one descriptor changes

-- What is so at one descriptor is given; at all others nothing changes.
pub ends_at_one : {names after : Names} {objects objects_after : ℕ → Object} {at to : Place} {row row_after : EntryRow} {b c : Born} (one : ℕ) →
    ((fd : ℕ) → fd ≢ one → is_on_its_way to fd ≡ is_on_its_way at fd) → ((fd : ℕ) → fd ≢ one → c.descriptors fd ≡ b.descriptors fd) →
    ((fd name : ℕ) → b.descriptors fd ≡ Some name → pipe_named objects_after name ≡ pipe_named objects name) →
    ((fd : ℕ) → fd < DESCRIPTORS → fd ≢ one → row_after (pipe_page fd) ≡ row (pipe_page fd)) →
    ((fd : ℕ) (x : Entry) → fd < DESCRIPTORS → row (pipe_page fd) ≡ Some x → after.name x.frame ≡ names.name x.frame) →
    ((name pipe : ℕ) → one < DESCRIPTORS → c.descriptors one ≡ Some name → pipe_named objects_after name ≡ Some pipe →
    (entry : Entry) × (row_after (pipe_page one) ≡ Some entry) × (after.name entry.frame ≡ pipe)) →
    ((entry : Entry) → one < DESCRIPTORS → is_on_its_way to one ≡ false → row_after (pipe_page one) ≡ Some entry →
    (name : ℕ) × (c.descriptors one ≡ Some name) × (pipe_named objects_after name ≡ Some (after.name entry.frame))) →
    EndsStand names objects at row b → EndsStand after objects_after to row_after c
ends_at_one {names = names} {after = after} {objects = objects} {objects_after = objects_after} {to = to} {row_after = row_after} {c = c}
    one on_way descriptors objects_same rows named_so have_it only_it h = record { have = have; only = only }
  where
    have : (fd name pipe : ℕ) → fd < DESCRIPTORS → c.descriptors fd ≡ Some name → pipe_named objects_after name ≡ Some pipe →
        (entry : Entry) × (row_after (pipe_page fd) ≡ Some entry) × (after.name entry.frame ≡ pipe)
    have fd name pipe below names_it is = by_test (fd == one) refl
      where
        by_test : (t : Bool) → (fd == one) ≡ t → (entry : Entry) × (row_after (pipe_page fd) ≡ Some entry) × (after.name entry.frame ≡ pipe)
        by_test true test =
            let here : one ≡ fd = grind (arith, nat_tests) in
            subst (λ (f : ℕ). f < DESCRIPTORS → c.descriptors f ≡ Some name →
            (entry : Entry) × (row_after (pipe_page f) ≡ Some entry) × (after.name entry.frame ≡ pipe)) here
            (λ one_below it. have_it name pipe one_below it is) below names_it
        by_test false test =
            let ne : fd ≢ one = grind (arith, nat_tests) in
            let was = sym (descriptors fd ne) ∙ names_it in
            let found = h.have fd name pipe below was (sym (objects_same fd name was) ∙ is) in
            (found.0, rows fd below ne ∙ found.1, named_so fd found.0 below found.1 ∙ found.2)

    only : (fd : ℕ) (entry : Entry) → fd < DESCRIPTORS → is_on_its_way to fd ≡ false → row_after (pipe_page fd) ≡ Some entry →
        (name : ℕ) × (c.descriptors fd ≡ Some name) × (pipe_named objects_after name ≡ Some (after.name entry.frame))
    only fd entry below off lies = by_test (fd == one) refl
      where
        by_test : (t : Bool) → (fd == one) ≡ t →
            (name : ℕ) × (c.descriptors fd ≡ Some name) × (pipe_named objects_after name ≡ Some (after.name entry.frame))
        by_test true test =
            let here : one ≡ fd = grind (arith, nat_tests) in
            subst (λ (f : ℕ). f < DESCRIPTORS → is_on_its_way to f ≡ false → row_after (pipe_page f) ≡ Some entry →
            (name : ℕ) × (c.descriptors f ≡ Some name) × (pipe_named objects_after name ≡ Some (after.name entry.frame))) here
            (λ one_below on it. only_it entry one_below on it) below off lies
        by_test false test =
            let ne : fd ≢ one = grind (arith, nat_tests) in
            let was = sym (rows fd below ne) ∙ lies in
            let found = h.only fd entry below (sym (on_way fd ne) ∙ off) was in
            (found.0, descriptors fd ne ∙ found.1, objects_same fd found.0 found.1 ∙ found.2 ∙ ap Some (sym (named_so fd entry below was)))

-- where neither a descriptor nor the page of its pipe is on its way, no page of a pipe stands beside one that names none
pub no_pipe_beside : {names : Names} {objects : ℕ → Object} {at : Place} {row : EntryRow} {b : Born} → EndsStand names objects at row b → (fd : ℕ) →
    fd < DESCRIPTORS → is_on_its_way at fd ≡ false → b.descriptors fd ≡ None → row (pipe_page fd) ≡ None
no_pipe_beside {row = row} h fd below off none = by_row (row (pipe_page fd)) refl
  where
    by_row : (o : Option Entry) → row (pipe_page fd) ≡ o → o ≡ None
    by_row None is = refl
    by_row (Some x) is = let found = h.only fd x below off is in absurd (none-some found.0 (sym none ∙ found.1))
