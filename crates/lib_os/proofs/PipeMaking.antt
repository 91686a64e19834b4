-- Service pipe makes the pages of two descriptors and of a pipe. Up to its last mapping they count as its own and nothing is seen of them: the
-- kernel's state goes on standing for the same abstract one where one of them is put, or has other bytes, and the service goes on at its next step.
use Rattle.std.proofs.Common.{◌≡◌, ◌≢◌, ◌∙◌, ◌<◌, ◌&&◌, ℕ, Bool, true, false, List, Option, Some, None}
use Rattle.std.proofs.Common.{refl, sym, ap, subst, arith, if◌then◌else◌}
use Rattle.std.specs.Prelude.{nat_lt}
use Rattle.std.specs.Option.{option_map}
use Rattle.std.proofs.lemmas.Bool.Decides.{nat_tests}
use Rattle.std.proofs.lemmas.Option.{none-some, same_Some}
use Rattle.jos_base.specs.declared.numbers.TheConstants.{UTEMP}
use Rattle.jos_base.specs.Environments.{Slot}
use Rattle.jos_base.specs.KernelState.{KernelState, slot_at, with_extra, with_slot_at, with_spaces}
use Rattle.jos_base.specs.Reach.{Entry}
use Rattle.jos_base.specs.SpacesState.{SpacesState}
use Rattle.jos_base.specs.Words.{page_number, upd}
use Rattle.jos_base.proofs.Maps.{upd-alike, upd-at}
use Rattle.lib_os.specs.declared.numbers.TheConstants.{DESCRIPTORS, PFTEMP}
use Rattle.lib_os.specs.declared.place.PipeStep.{PipeStep}
use Rattle.lib_os.specs.declared.place.PipeStep.TheVariants as pipe
use Rattle.lib_os.specs.declared.place.Place.{Place}
use Rattle.lib_os.specs.declared.place.Place.TheVariants as place
use Rattle.lib_os.specs.declared.place.Step.TheVariants as step
use Rattle.lib_os.specs.declared.service.Service.{Service}
use Rattle.lib_os.specs.declared.service.Service.TheVariants as service
use Rattle.lib_os.specs.AbstractState.{AbstractState, Born, born}
use Rattle.lib_os.specs.DescriptorPages.{lock_of}
use Rattle.lib_os.specs.InOrder.{IsInOrder}
use Rattle.lib_os.specs.LibraryPages.{IsOwnWritable, LibraryPages}
use Rattle.lib_os.specs.PipeEnds.{EndsStand, LocksStand, is_dropped, is_made, is_on_its_way, locked_at, pipe_named}
use Rattle.lib_os.specs.Places.{is_handlers, place_of, words_at}
use Rattle.lib_os.specs.Rows.{EntryRow, Names, Rows, as_own, counted, descriptor_at, descriptor_page, descriptor_perm, descriptor_seen, is_clients}
use Rattle.lib_os.specs.Rows.{is_making, is_of_descriptor, is_programs, is_shared, logical, makes, name_of, page_seen, pipe_page}
use Rattle.lib_os.specs.Rows.{rows_of, seen_where, shown_at}
use Rattle.lib_os.specs.StandsFor.{StandsAt, StandsFor, StandsForBorn, borne_in, seen_unless, things_in, view_of}
use Rattle.lib_os.proofs.CopiesStand.{born_back}
use Rattle.lib_os.proofs.DescriptorLooks.{is_descriptors}
use Rattle.lib_os.proofs.EntriesStand.{RowsStand, shown_same}
use Rattle.lib_os.proofs.Logical.{logical_live, programs_no_descriptor}
use Rattle.lib_os.proofs.Numbered.{named_at, number_of}
use Rattle.lib_os.proofs.PipesStand.{IsPipeFrame, locks_calm}
use Rattle.lib_os.proofs.Serving.{library_moved, plain_upcall}
use Rattle.lib_os.proofs.SlotsStand.{HasTables, SeenAlike, born_at, descriptor_shown}
use Rattle.lib_os.proofs.StatesStand.{clients_live, ends_at, others_count, others_counts, own_moves, slot_in_order}
use Rattle.lib_os.proofs.WordsTell.{is_in_handler, outside_stack, place_at}
use Rattle.lib_os.proofs.KeptPages.{spawns_aside}

-- ---- pages that are made

-- what counts at a step of service pipe
abbrev pub counted_at : PipeStep → EntryRow → EntryRow
counted_at at row p = if is_making at p then option_map as_own (row p) else row p

counted_pipe : (at : PipeStep) (row : EntryRow) (p : ℕ) → counted (place.InService service.Pipe (step.Piped at)) row p ≡ counted_at at row p
unfolding counted
counted_pipe at row p = refl

pub counted_own : (at : PipeStep) (row : EntryRow) (p : ℕ) → is_making at p ≡ true → counted_at at row p ≡ option_map as_own (row p)
counted_own at row p making = ap (λ (c : Bool). if c then option_map as_own (row p) else row p) making

pub counted_still : (at : PipeStep) (row : EntryRow) (p : ℕ) → is_making at p ≡ false → counted_at at row p ≡ row p
counted_still at row p making = ap (λ (c : Bool). if c then option_map as_own (row p) else row p) making

-- the page of a descriptor is made where the descriptor is, and so is that of its pipe
pub making_descriptor : (at : PipeStep) (fd : ℕ) → fd < DESCRIPTORS → is_making at (descriptor_page fd) ≡ makes at fd
making_descriptor at fd below =
    let one : is_of_descriptor (descriptor_page fd) ≡ true = is_descriptors fd below in
    let number : descriptor_at (descriptor_page fd) ≡ fd = omega (arith, below) in
    λ i. one i && makes at (number i)

pub making_pipe : (at : PipeStep) (fd : ℕ) → fd < DESCRIPTORS → is_making at (pipe_page fd) ≡ makes at fd
making_pipe at fd below =
    let one : is_of_descriptor (pipe_page fd) ≡ true = grind (arith, nat_tests) in
    let number : descriptor_at (pipe_page fd) ≡ fd = omega (arith, below) in
    λ i. one i && makes at (number i)

-- no other page is
pub making_none : (at : PipeStep) (p : ℕ) → is_of_descriptor p ≡ false → is_making at p ≡ false
making_none at p none = ap (λ (c : Bool). c && makes at (descriptor_at p)) none

-- ---- from one step to the next

-- No lock is held at either step, none is dropped, and what was made is made.
pub record IsNextMade (from to : PipeStep) : Type 0 where
  pub unlocked : locked_at (place.InService service.Pipe (step.Piped from)) ≡ None
  pub unlocked_after : locked_at (place.InService service.Pipe (step.Piped to)) ≡ None
  pub undropped : (fd : ℕ) → is_dropped (place.InService service.Pipe (step.Piped from)) fd ≡ false
  pub fewer : (fd : ℕ) → makes to fd ≡ false → makes from fd ≡ false

-- the slot at its next step, and what counts then
abbrev pub making_moved : KernelState → ℕ → PipeStep → Slot
making_moved s n to = record (slot_at s n) { extra = words_at (number_of service.Pipe) (step.Piped to) }

abbrev pub making_counts : KernelState → ℕ → PipeStep → SpacesState → Rows
making_counts s n to t = logical t (upd s.environments.slots n (making_moved s n to))

module _ {names : Names} {s : KernelState} {a : AbstractState} (h : StandsFor names s a) (n : ℕ) (b : Born)
    (is : a.slots n ≡ born b) (from to : PipeStep) (stands : place_of (slot_at s n) ≡ place.InService service.Pipe (step.Piped from)) where
  abbrev home : ℕ
  home = (slot_at s n).directory

  abbrev before : Rows
  before = logical s.spaces s.environments.slots

  outside : is_handlers (slot_at s n).registers.esp ≡ false
  outside = outside_stack (slot_at s n).registers (slot_at s n).extra (place.InService service.Pipe (step.Piped from)) stands refl

  there : place_of (making_moved s n to) ≡ place.InService service.Pipe (step.Piped to)
  there =
      place_at (slot_at s n).registers (number_of service.Pipe) (step.Piped to) outside
      ∙ ap (λ (x : Service). place.InService x (step.Piped to)) (named_at (slot_at s n) service.Pipe (step.Piped from) stands)

  client : is_clients n (slot_at s n) ≡ true
  client = clients_live h n b is

  -- its entries as they counted, and as they count then
  pub counted_before : (q : ℕ) → logical s.spaces s.environments.slots n q ≡ counted_at from (rows_of s.spaces (slot_at s n).directory) q
  counted_before q =
      logical_live s.spaces s.environments.slots n client q ∙ ap (λ (p : Place). counted p (rows_of s.spaces home) q) stands
      ∙ counted_pipe from (rows_of s.spaces home) q

  pub counted_then : (t : SpacesState) (q : ℕ) → making_counts s n to t n q ≡ counted_at to (rows_of t (slot_at s n).directory) q
  counted_then t q =
      logical_live t (upd s.environments.slots n (making_moved s n to)) n (ap (λ (k : Slot). is_clients n k) slot_is ∙ client) q
      ∙ ap (λ (k : Slot). counted (place_of k) (rows_of t k.directory) q) slot_is
      ∙ ap (λ (p : Place). counted p (rows_of t home) q) there
      ∙ counted_pipe to (rows_of t home) q
    where
      slot_is : upd s.environments.slots n (making_moved s n to) n ≡ (making_moved s n to)
      slot_is = upd-at s.environments.slots n (making_moved s n to)

  module _ {sp : SpacesState} (next : IsNextMade from to) (others : (q : ℕ) → q ≢ (slot_at s n).directory → SeenAlike names names s.spaces sp q)
      (rows : (q : ℕ) → is_making to q ≡ false → rows_of sp (slot_at s n).directory q ≡ rows_of s.spaces (slot_at s n).directory q)
      (bytes : (q : ℕ) (x : Entry) → is_making to q ≡ false → rows_of s.spaces (slot_at s n).directory q ≡ Some x →
      sp.pages x.frame ≡ s.spaces.pages x.frame)
      (undescribed : (fd : ℕ) → makes to fd ≡ true → b.descriptors fd ≡ None)
      (bits : (q : ℕ) (x : Entry) → is_making to q ≡ true → rows_of sp (slot_at s n).directory q ≡ Some x → x.perm ≡ descriptor_perm)
      (shared_bytes : (m q : ℕ) (x : Entry) → logical s.spaces s.environments.slots m q ≡ Some x → is_shared x.perm ≡ true →
      sp.pages x.frame ≡ s.spaces.pages x.frame) (last : s.last ≡ Some n) where
    own : StandsForBorn names s.spaces (slot_at s n) b
    own = born_at h n b is

    unhandled : is_in_handler (place_of (slot_at s n)) ≡ false
    unhandled = ap is_in_handler stands

    unhandled_after : is_in_handler (place_of (making_moved s n to)) ≡ false
    unhandled_after = ap is_in_handler there

    shown_kept : (q : ℕ) → is_making to q ≡ false → shown_at names sp home q ≡ shown_at names s.spaces home q
    shown_kept q none = shown_same names names s.spaces sp home q (rows q none) (λ x hx own_page. bytes q x none hx) (λ x hx shared_page. refl)

    descriptor_kept : (fd : ℕ) → makes to fd ≡ false → (c : Bool) → nat_lt fd DESCRIPTORS ≡ c →
        descriptor_seen names sp home fd ≡ descriptor_seen names s.spaces home fd
    descriptor_kept fd none true test =
        let below : fd < DESCRIPTORS = grind (arith, nat_tests) in
        descriptor_shown names names s.spaces sp home fd (shown_kept (descriptor_page fd) (making_descriptor to fd below ∙ none))
    descriptor_kept fd none false test =
        ap (λ (c : Bool). if c then name_of (shown_at names sp home (descriptor_page fd)) else None) test
        ∙ sym (ap (λ (c : Bool). if c then name_of (shown_at names s.spaces home (descriptor_page fd)) else None) test)

    seen_then : (fd : ℕ) → b.descriptors fd ≡ seen_unless (is_made (place_of (making_moved s n to)) fd) (descriptor_seen names sp home fd)
    seen_then fd = by_made (makes to fd) refl
      where
        made_is : is_made (place_of (making_moved s n to)) fd ≡ makes to fd
        made_is = ap (λ (p : Place). is_made p fd) there

        by_made : (c : Bool) → makes to fd ≡ c → b.descriptors fd ≡ seen_unless (is_made (place_of (making_moved s n to)) fd) (descriptor_seen names sp home fd)
        by_made true making =
            undescribed fd making ∙ sym (ap (λ (c : Bool). seen_unless c (descriptor_seen names sp home fd)) (made_is ∙ making))
        by_made false none =
            own.descriptors fd (ap (λ (p : Place). is_dropped p fd) stands ∙ next.undropped fd)
            ∙ ap (λ (c : Bool). seen_unless c (descriptor_seen names s.spaces home fd)) (ap (λ (p : Place). is_made p fd) stands ∙ next.fewer fd none)
            ∙ sym (descriptor_kept fd none (nat_lt fd DESCRIPTORS) refl)
            ∙ sym (ap (λ (c : Bool). seen_unless c (descriptor_seen names sp home fd)) (made_is ∙ none))

    memory_kept : (q : ℕ) (c : Bool) → is_programs q ≡ c → page_seen names sp home q ≡ page_seen names s.spaces home q
    memory_kept q true inside = ap (seen_where (is_programs q)) (shown_kept q (making_none to q (programs_no_descriptor q inside)))
    memory_kept q false off =
        ap (λ (c : Bool). seen_where c (shown_at names sp home q)) off ∙ sym (ap (λ (c : Bool). seen_where c (shown_at names s.spaces home q)) off)

    own_alike : (p : ℕ) → is_of_descriptor p ≡ false → IsOwnWritable (rows_of s.spaces home) p → IsOwnWritable (rows_of sp home) p
    own_alike p none it = record { entry = it.entry; stands = rows p (making_none to p none) ∙ it.stands; own_page = it.own_page; writes = it.writes }

    library_kept : (at : Place) (words : List ℕ) → LibraryPages at words (rows_of s.spaces home) → LibraryPages at words (rows_of sp home)
    library_kept at words it = record {
      stack = own_alike _ refl it.stack;
      copy = λ has. own_alike _ refl (it.copy has);
      no_copy = λ has. rows (page_number PFTEMP) (making_none to (page_number PFTEMP) refl) ∙ it.no_copy has;
      working = λ has. own_alike _ refl (it.working has);
      no_working = λ has. rows (page_number UTEMP) (making_none to (page_number UTEMP) refl) ∙ it.no_working has;
      descriptors = λ q x descriptor hx. by_page q x descriptor hx (is_making to q) refl;
      spawns = λ q is. own_alike q (spawns_aside at words q is).no_descriptor (it.spawns q is);
      none = λ q off no_descriptor no_stack no_copy no_working no_spawns.
          rows q (making_none to q no_descriptor) ∙ it.none q off no_descriptor no_stack no_copy no_working no_spawns;
    }
      where
        by_page : (q : ℕ) (x : Entry) → is_of_descriptor q ≡ true → rows_of sp home q ≡ Some x → (c : Bool) → is_making to q ≡ c → x.perm ≡ descriptor_perm
        by_page q x descriptor hx true making = bits q x making hx
        by_page q x descriptor hx false none = it.descriptors q x descriptor (sym (rows q none) ∙ hx)

    pipe_row : (fd : ℕ) → fd < DESCRIPTORS → makes to fd ≡ false → rows_of sp home (pipe_page fd) ≡ rows_of s.spaces home (pipe_page fd)
    pipe_row fd below none = rows (pipe_page fd) (making_pipe to fd below ∙ none)

    ends : EndsStand names a.objects (place_of (making_moved s n to)) (rows_of sp home) b
    ends = record { have = have; only = only }
      where
        was : EndsStand names a.objects (place_of (slot_at s n)) (rows_of s.spaces home) b
        was = ends_at h n b is

        have : (fd name pipe : ℕ) → fd < DESCRIPTORS → b.descriptors fd ≡ Some name → pipe_named a.objects name ≡ Some pipe →
            (entry : Entry) × (rows_of sp home (pipe_page fd) ≡ Some entry) × (names.name entry.frame ≡ pipe)
        have fd name pipe below it piped = by_made (makes to fd) refl
          where
            by_made : (c : Bool) → makes to fd ≡ c →
                (entry : Entry) × (rows_of sp home (pipe_page fd) ≡ Some entry) × (names.name entry.frame ≡ pipe)
            by_made true making = absurd (none-some name (sym (undescribed fd making) ∙ it))
            by_made false none = let found = was.have fd name pipe below it piped in (found.0, pipe_row fd below none ∙ found.1, found.2)

        only : (fd : ℕ) (entry : Entry) → fd < DESCRIPTORS → is_on_its_way (place_of (making_moved s n to)) fd ≡ false →
            rows_of sp home (pipe_page fd) ≡ Some entry →
            (name : ℕ) × (b.descriptors fd ≡ Some name) × (pipe_named a.objects name ≡ Some (names.name entry.frame))
        only fd entry below off lies = by_made (makes to fd) refl
          where
            by_made : (c : Bool) → makes to fd ≡ c →
                (name : ℕ) × (b.descriptors fd ≡ Some name) × (pipe_named a.objects name ≡ Some (names.name entry.frame))
            by_made true making =
                let on : is_on_its_way (place_of (making_moved s n to)) fd ≡ true =
                ap (λ (p : Place). is_on_its_way p fd) there ∙ ap (λ (c : Bool). if c then true else false) making in
                absurd (let contradiction : true ≡ false = sym on ∙ off in cc)
            by_made false none =
                was.only fd entry below
                (ap (λ (p : Place). is_on_its_way p fd) stands ∙ ap (λ (c : Bool). if c then true else false) (next.fewer fd none))
                (sym (pipe_row fd below none) ∙ lies)

    own_shared : (e : Option Entry) (x : Entry) → option_map as_own e ≡ Some x → is_shared x.perm ≡ false
    own_shared None x it = absurd (none-some x it)
    own_shared (Some e) x it = ap (λ (y : Entry). is_shared y.perm) (sym (same_Some (as_own e) x it))

    locks : LocksStand sp.pages (upd s.environments.slots n (making_moved s n to)) (logical sp (upd s.environments.slots n (making_moved s n to)))
    locks =
        locks_calm n unlocked (ap (λ (k : Slot). locked_at (place_of k)) (upd-at s.environments.slots n (making_moved s n to)) ∙ unlocked_then)
        (λ m ne. places m) (λ m q ne pipes. others_count h n b is (making_moved s n to) others m ne q) mine
        (λ m fd x below hx shared_page. ap lock_of (shared_bytes m (pipe_page fd) x hx shared_page)) h.locks
      where
        unlocked : locked_at (place_of (slot_at s n)) ≡ None
        unlocked = ap locked_at stands ∙ next.unlocked

        unlocked_then : locked_at (place_of (making_moved s n to)) ≡ None
        unlocked_then = ap locked_at there ∙ next.unlocked_after

        places : (m : ℕ) → locked_at (place_of (upd s.environments.slots n (making_moved s n to) m)) ≡ locked_at (place_of (slot_at s m))
        places = upd-alike (λ (x : Slot). locked_at (place_of x)) s.environments.slots n (making_moved s n to) (unlocked_then ∙ sym unlocked)

        mine : (fd : ℕ) (x : Entry) → fd < DESCRIPTORS → logical sp (upd s.environments.slots n (making_moved s n to)) n (pipe_page fd) ≡ Some x →
            is_shared x.perm ≡ true → IsPipeFrame before x.frame
        mine fd x below hx shared_page = by_made (makes to fd) refl
          where
            counts : counted_at to (rows_of sp home) (pipe_page fd) ≡ Some x
            counts = sym (counted_then sp (pipe_page fd)) ∙ hx

            by_made : (c : Bool) → makes to fd ≡ c → IsPipeFrame before x.frame
            by_made true making =
                absurd (let contradiction : true ≡ false = sym shared_page ∙ own_shared (rows_of sp home (pipe_page fd)) x
                (sym (counted_own to (rows_of sp home) (pipe_page fd) (making_pipe to fd below ∙ making)) ∙ counts) in cc)
            by_made false none = record {
              slot = n;
              fd = fd;
              below = below;
              entry = x;
              stands = counted_before (pipe_page fd)
                  ∙ counted_still from (rows_of s.spaces home) (pipe_page fd) (making_pipe from fd below ∙ next.fewer fd none)
                  ∙ sym (pipe_row fd below none)
                  ∙ sym (counted_still to (rows_of sp home) (pipe_page fd) (making_pipe to fd below ∙ none)) ∙ counts;
              shared = shared_page;
              same = refl;
            }

    pub making_goes_on : HasTables sp (slot_at s n).directory b.regions →
        RowsStand names sp.pages a.shared (things_in s a) a.next_name (making_counts s n to sp) →
        StandsAt (place.InService service.Pipe (step.Piped to)) (view_of sp (slot_at s n).directory) (making_moved s n to) b → IsInOrder (with_spaces s sp) →
        StandsFor names (with_extra (with_spaces s sp) n (words_at (number_of service.Pipe) (step.Piped to))) a
    making_goes_on tables row so in_order =
        subst (λ (x : AbstractState). StandsFor names (with_slot_at (with_spaces s sp) n (making_moved s n to)) x) (born_back a n b is)
        (own_moves h n b is sp (making_moved s n to) b a.shared a.next_name refl (record { id = refl; env_type = refl; turns = refl; calm = λ runs. runs })
        (ap borne_in stands) (ap borne_in there) others mine row (slot_in_order (with_spaces s sp) n (making_moved s n to) refl refl in_order)
        (others_counts h n last sp) ends locks (omega arith) (λ fd name names_it. h.old n fd name b is names_it))
      where
        mine : StandsForBorn names sp (making_moved s n to) b
        mine = record {
          id = own.id;
          id_small = own.id_small;
          parent = own.parent;
          env_type = own.env_type;
          runs = own.runs;
          upcall = own.upcall ∙ plain_upcall (place_of (slot_at s n)) unhandled ∙ sym (plain_upcall (place_of (making_moved s n to)) unhandled_after);
          descriptors = λ fd still. seen_then fd;
          memory = λ q. own.memory q ∙ sym (memory_kept q (is_programs q) refl);
          library = subst (λ (p : Place). LibraryPages p (making_moved s n to).extra (rows_of sp home)) (sym there)
              (library_moved (place.InService service.Pipe (step.Piped from)) (place.InService service.Pipe (step.Piped to)) (slot_at s n).extra
              (making_moved s n to).extra (rows_of sp home) refl refl
              (library_kept (place.InService service.Pipe (step.Piped from)) (slot_at s n).extra
              (subst (λ (p : Place). LibraryPages p (slot_at s n).extra (rows_of s.spaces home)) stands own.library)));
          regions_have = tables.have;
          regions_only = tables.only;
          stack = own.stack;
          flags = own.flags;
          at = subst (λ (p : Place). StandsAt p (view_of sp home) (making_moved s n to) b) (sym there) so;
        }
