-- The kernel's state goes on standing for the same abstract one while the handler of page faults copies a page: a page is taken
-- for the copy, and words are stored there; it is put in the place of the page, and taken away from where it was made. Only
-- at the page itself is anything seen of it, and there the bytes are those that stood there.
use Rattle.std.proofs.Common.{◌≡◌, ◌≢◌, ◌∙◌, ◌<◌, ◌==◌, ◌&&◌, ◌||◌, inl, inr, ◌/◌, ℕ, suc, Bool, true, false, not}
use Rattle.std.proofs.Common.{List, [], ◌∷◌, length, refl, sym, ap, subst, arith}
use Rattle.std.proofs.lemmas.Bool.Decides.{nat_tests}
use Rattle.std.proofs.lemmas.Option.{same_Some, none-some}
use Rattle.std.specs.Prelude.{Option, Some, None, is_some, slice_index}
use Rattle.std.specs.Option.{option_map}
use Rattle.jos_base.specs.declared.numbers.TheConstants.{FDTABLE, NPTENTRIES, PGSIZE, USTACKTOP, UTEMP}
use Rattle.jos_base.specs.Environments.{Slot}
use Rattle.jos_base.specs.KernelState.{KernelState, slot_at, with_slot_at, with_spaces, with_registers}
use Rattle.jos_base.specs.Reach.{Entry}
use Rattle.jos_base.specs.SpacesState.{SpacesState, put}
use Rattle.jos_base.specs.SystemCalls.{has_write}
use Rattle.jos_base.specs.TrapFrames.{user_flags}
use Rattle.jos_base.specs.Words.{page_number, upd}
use Rattle.lib_os.specs.declared.numbers.TheConstants.{DESCRIPTORS, PFTEMP, UXSTACK}
use Rattle.lib_os.specs.declared.place.HandlerStep.{HandlerStep}
use Rattle.lib_os.specs.declared.place.HandlerStep.TheVariants as handler
use Rattle.lib_os.specs.declared.place.Place.{Place}
use Rattle.lib_os.specs.declared.place.Place.TheVariants as place
use Rattle.lib_os.specs.AbstractState.{AbstractState, Born, own, born, with_born}
use Rattle.lib_os.specs.Fence.{in_fence, is_resident}
use Rattle.lib_os.specs.InOrder.{IsInOrder}
use Rattle.lib_os.specs.LibraryPages.{View, LibraryPages, IsOwnWritable, is_library_region, region_index}
use Rattle.lib_os.specs.PipeEnds.{is_made, locked_at}
use Rattle.lib_os.specs.Places.{place_of, is_handlers, handler_registers}
use Rattle.lib_os.specs.Rows.{IsPage, Names, EntryRow, Rows, rows_of, logical, logical_by, counted, page_by, page_seen, seen_where, is_programs}
use Rattle.lib_os.specs.Rows.{descriptor_perm, descriptor_seen, is_cow, is_of_descriptor, is_pipe_page, is_shared, pipe_page, shown_at}
use Rattle.lib_os.specs.Rows.{is_clients, may_write, IsUsers}
use Rattle.lib_os.specs.StandingLaws.{IsHandlerStep}
use Rattle.lib_os.specs.StandsFor.{StandsFor, StandsForBorn, StandsAt, seen_unless, things_in, view_of, upcall_at, borne_in}
use Rattle.lib_os.specs.StandsInHandler.{IsInHandler, Copies, CopiesAt, CopiesOrEnds, copies, ends, IsToCopy, IsCopiedTo, IsMappedTwice}
use Rattle.lib_os.specs.StandsInHandler.{is_refused_by}
use Rattle.lib_os.proofs.Beneath.{KeepsTaken, KeepsWritable, beneath_moved, same_writable}
use Rattle.lib_os.proofs.Effects.{Made, Given, Removed}
use Rattle.lib_os.proofs.EntriesCount.{own_lacked}
use Rattle.lib_os.proofs.EntriesStand.{RowsStand, PutsRow, rows_put, rows_same, rows_bytes, rows_stand, put_is, seen_own}
use Rattle.lib_os.proofs.EntriesStand.{named_bytes, programs_no_pipe, shown_same}
use Rattle.lib_os.proofs.Handled.{IsHandled, handled_part, handler_calm, handler_slot, handler_place, esp_kept, eflags_kept}
use Rattle.lib_os.proofs.Logical.{is_plain, is_remapped, counted_plain, counted_elsewhere, logical_live, logical_plain, logical_beside, inside_programs}
use Rattle.lib_os.proofs.Logical.{programs_beside}
use Rattle.lib_os.proofs.WordsTell.{handler_runs}
use Rattle.lib_os.proofs.PageBytes.{zero_page_whole}
use Rattle.lib_os.proofs.PagesStand.{Puts, others_seen, elsewhere, bytes_elsewhere, other_regions, row_placed, row_elsewhere}
use Rattle.lib_os.proofs.PipesStand.{PlacesAlike, calm_places, descriptors_turned, ends_moved, is_calm, locks_same}
use Rattle.lib_os.proofs.Puts.{put-found}
use Rattle.lib_os.proofs.Releasing.{row_entry}
use Rattle.lib_os.proofs.Serving.{library_moved}
use Rattle.lib_os.proofs.Slots.{upd-back}
use Rattle.lib_os.proofs.SlotsStand.{SeenAlike, HasTables, descriptors_beside, descriptors_off, library_put}
use Rattle.lib_os.proofs.StatesStand.{clients_live, ends_at, own_moves, others_count, others_counts, slot_in_order}
use Rattle.jos_base.proofs.Maps.{upd-alike, upd-at}
use Rattle.jos_base.proofs.Puts.{Elsewhere, put-at, put-other}
use Rattle.lib_os.proofs.KeptPages.{spawns_aside}

-- ---- in general

-- where the copy is made
abbrev pub copy_page : ℕ
copy_page = page_number PFTEMP

-- the bits of a copy: P, W and U
abbrev pub copy_bits : ℕ
copy_bits = 7

copy_user : IsUsers copy_bits
copy_user = record { page = refl; copied = λ is. absurd (let contradiction : false ≡ true = is in cc) }

-- an abstract state whose slot is given what it has
pub born_back : (a : AbstractState) (n : ℕ) (b : Born) → a.slots n ≡ born b → with_born a n b ≡ a
born_back a n b at = λ i. record a { slots = upd-back a.slots n (born b) (sym at) i }

-- What it has of its own at another step, in other spaces in which its memory and its descriptors are seen as they were.
pub handler_moved : {names : Names} {s t : SpacesState} {k : Slot} {b : Born} (to : HandlerStep) → StandsForBorn names s k b →
    is_handlers k.registers.esp ≡ true → IsHandlerStep to → k.upcall ≡ upcall_at (place.InHandler to) →
    ((p : ℕ) → page_seen names t k.directory p ≡ page_seen names s k.directory p) →
    ((fd : ℕ) → descriptor_seen names t k.directory fd ≡ descriptor_seen names s k.directory fd) →
    LibraryPages (place.InHandler to) k.extra (rows_of t k.directory) → HasTables t k.directory b.regions →
    IsInHandler to (view_of t k.directory) (handler_slot k to) b → StandsForBorn names t (handler_slot k to) b
handler_moved {names = names} {t = t} {k = k} {b = b} to had inside there upcall memory descriptors library tables at =
    let where_it_is : place_of (handler_slot k to) ≡ place.InHandler to = handler_place k to inside there in
    record {
      id = had.id;
      id_small = had.id_small;
      parent = had.parent;
      env_type = had.env_type;
      runs = had.runs;
      upcall = upcall ∙ sym (ap upcall_at where_it_is);
      descriptors = descriptors_turned names t k.directory (place_of k) (place_of (handler_slot k to)) b.descriptors
          (handler_calm (place_of k) (handler_runs k.registers k.extra ∙ inside)) (ap is_calm where_it_is)
          (λ fd still. had.descriptors fd still ∙ ap (λ (o : Option ℕ). seen_unless (is_made (place_of k) fd) o) (sym (descriptors fd)));
      memory = λ p. had.memory p ∙ sym (memory p);
      library = subst (λ (p : Place). LibraryPages p k.extra (rows_of t k.directory)) (sym where_it_is) library;
      regions_have = tables.have;
      regions_only = tables.only;
      stack = ap (λ (c : Bool). c || not (is_resident (handler_registers k.registers to).esp)) (ap is_handlers (esp_kept k.registers to) ∙ inside);
      flags = subst (λ (f : ℕ). f ≡ user_flags f) (sym (eflags_kept k.registers to)) had.flags;
      at = subst (λ (p : Place). StandsAt p (view_of t k.directory) (handler_slot k to) b) (sym where_it_is) at;
    }

-- The handler copies, and goes on at another step, of which what stands is given. The frame of the fault stands as it stood, and who stands
-- beneath may write what it might write.
pub copying_goes : (from to : HandlerStep) (v w : View) (k : Slot) (b : Born) (at : IsInHandler from v k b) →
    Copies from v k b at.fault at.regs → w.row (page_number UXSTACK) ≡ v.row (page_number UXSTACK) →
    ((x : Entry) → v.row (page_number UXSTACK) ≡ Some x → is_shared x.perm ≡ false → w.bytes x.frame ≡ v.bytes x.frame) →
    KeepsWritable v.row w.row → KeepsTaken v w → CopiesAt to w at.fault.va → IsInHandler to w (handler_slot k to) b
copying_goes from to v w k b at way row bytes writes taken goes = record {
  fault = at.fault;
  regs = at.regs;
  frame = let f = at.frame in record {
    at = esp_kept k.registers to ∙ f.at;
    entry = f.entry;
    stands = row ∙ f.stands;
    own_page = f.own_page;
    bytes = λ i lt. rw (bytes f.entry f.stands f.own_page) (f.bytes i lt);
  };
  small = at.small;
  flags = at.flags;
  stack = at.stack;
  way = copies (record {
    beneath = beneath_moved v w (record k { registers = at.regs }) b writes taken way.beneath;
    error = way.error;
    inside = way.inside;
    at = goes;
  });
}

-- The spaces are others, in which nothing else is seen, and the environment in its handler goes on at another step.
pub copying_stands : {names : Names} {s : KernelState} {a : AbstractState} {sp : SpacesState} → StandsFor names s a → (n : ℕ) (b : Born) →
    a.slots n ≡ born b → (to : HandlerStep) → borne_in (place_of (slot_at s n)) ≡ None → borne_in (place_of (handler_slot (slot_at s n) to)) ≡ None →
    ((d : ℕ) → d ≢ (slot_at s n).directory → SeenAlike names names s.spaces sp d) →
    StandsForBorn names sp (handler_slot (slot_at s n) to) b →
    RowsStand names sp.pages a.shared (things_in s a) a.next_name (logical sp (upd s.environments.slots n (handler_slot (slot_at s n) to))) →
    IsInOrder (with_spaces s sp) → s.last ≡ Some n → is_handlers (slot_at s n).registers.esp ≡ true → IsHandlerStep to →
    ((fd : ℕ) → fd < DESCRIPTORS → rows_of sp (slot_at s n).directory (pipe_page fd) ≡ rows_of s.spaces (slot_at s n).directory (pipe_page fd)) →
    ((m q : ℕ) → is_pipe_page q ≡ true → logical sp (upd s.environments.slots n (handler_slot (slot_at s n) to)) m q
    ≡ logical s.spaces s.environments.slots m q) →
    ((m q : ℕ) (x : Entry) → is_pipe_page q ≡ true → logical s.spaces s.environments.slots m q ≡ Some x → is_shared x.perm ≡ true →
    sp.pages x.frame ≡ s.spaces.pages x.frame) →
    StandsFor names (with_registers (with_spaces s sp) n (handler_registers (slot_at s n).registers to)) a
copying_stands {names = names} {s = s} {a = a} {sp = sp} h n b at to unborne unborne_after others mine rows in_order last inside there pipes count bytes =
    let k : Slot = slot_at s n in
    let alike : PlacesAlike (place_of k) (place_of (handler_slot k to)) =
    calm_places (handler_calm (place_of k) (handler_runs k.registers k.extra ∙ inside)) (ap is_calm (handler_place k to inside there)) in
    subst (λ (x : AbstractState). StandsFor names (with_slot_at (with_spaces s sp) n (handler_slot (slot_at s n) to)) x) (born_back a n b at)
    (own_moves h n b at sp (handler_slot (slot_at s n) to) b a.shared a.next_name refl
    (record { id = refl; env_type = refl; turns = refl; calm = λ runs. runs }) unborne unborne_after others mine rows
    (slot_in_order (with_spaces s sp) n (handler_slot (slot_at s n) to) refl refl in_order) (others_counts h n last sp)
    (ends_moved alike (λ fd. refl) (λ fd name is. refl) pipes (λ fd x below is. refl) (ends_at h n b at))
    (locks_same (upd-alike (λ (x : Slot). locked_at (place_of x)) s.environments.slots n (handler_slot k to) alike.locked) count bytes h.locks)
    (omega arith) (λ fd name names_it. h.old n fd name b at names_it))

-- how the entries of the slot count at another step
module _ (sp : SpacesState) (slots : ℕ → Slot) (n : ℕ) (to : HandlerStep) (client : is_clients n (slots n) ≡ true)
    (inside : is_handlers (slots n).registers.esp ≡ true) (there : IsHandlerStep to) where
  abbrev slot : Slot
  slot = handler_slot (slots n) to

  pub counts_at : (p : ℕ) → logical sp (upd slots n slot) n p ≡ counted (place.InHandler to) (rows_of sp (slots n).directory) p
  counts_at p =
      (λ i. let k = upd-at slots n slot i in logical_by (is_clients n k) (counted (place_of k) (rows_of sp k.directory)) p)
      ∙ ap (λ (c : Bool). logical_by c (counted (place_of slot) (rows_of sp (slots n).directory)) p) client
      ∙ ap (λ (at : Place). counted at (rows_of sp (slots n).directory) p) (handler_place (slots n) to inside there)

-- ---- the page where the copy is made

or_true : (a b : Bool) → b ≡ true → (a || b) ≡ true
or_true true b is = refl
or_true false b is = is

-- its region is one of the library's
copy_region : (r : ℕ) → (r == copy_page / NPTENTRIES) ≡ true → is_library_region r ≡ true
copy_region r is = ap (λ (c : Bool). (c || (r == region_index FDTABLE)) || (r == region_index USTACKTOP)) is

-- it is none of those that a program may have
pub copy_outside : is_programs copy_page ≡ false
unfolding in_fence
copy_outside = refl

-- nor is it that of a descriptor
pub copy_no_descriptor : is_of_descriptor copy_page ≡ false
copy_no_descriptor = refl

descriptor_off : (p : ℕ) → is_of_descriptor p ≡ true → p ≢ copy_page
descriptor_off p is same = let contradiction : true ≡ false = sym is ∙ ap is_of_descriptor same ∙ copy_no_descriptor in cc

-- or of a pipe
pub pipe_off : (p : ℕ) → is_pipe_page p ≡ true → p ≢ copy_page
pipe_off p is same =
    let none : is_pipe_page copy_page ≡ false = refl in let contradiction : true ≡ false = sym is ∙ ap is_pipe_page same ∙ none in cc

pub pipe_page_is : (fd : ℕ) → fd < DESCRIPTORS → is_pipe_page (pipe_page fd) ≡ true
pipe_page_is fd below = grind (arith, nat_tests)

-- so that nothing is seen of it
pub copy_unseen : (names : Names) (s : SpacesState) (d : ℕ) → page_seen names s d copy_page ≡ None
copy_unseen names s d =
    ap (λ (c : Bool). seen_where c (option_map (page_by names s.pages) (rows_of s d copy_page))) copy_outside

-- the stack of the handler is another page, and so is that in which a service keeps what it moves
pub stack_beside : page_number UXSTACK ≢ copy_page
stack_beside same = absurd (omega (arith, same))

pub working_beside : page_number UTEMP ≢ copy_page
working_beside same = absurd (omega (arith, same))

module _ {names : Names} {s t : SpacesState} {d : ℕ} {v : Option Entry} (puts : Puts names names s t d copy_page v) where
  kept_beside : (p : ℕ) → p ≢ copy_page → rows_of t d p ≡ rows_of s d p
  kept_beside p ne = ap (λ (rows : Rows). rows d p) puts.rows ∙ put-other (rows_of s) d copy_page v d p (λ same. ne)

  row_here : rows_of t d copy_page ≡ v
  row_here = ap (λ (rows : Rows). rows d copy_page) puts.rows ∙ put-at (rows_of s) d copy_page v

  shown_kept : (p : ℕ) → p ≢ copy_page → shown_at names t d p ≡ shown_at names s d p
  shown_kept p other =
      shown_same names names s t d p (kept_beside p other) (λ x hx own_page. puts.bytes d p x (λ same. other) hx) (λ x hx shared_page. refl)

  memory_kept : (p : ℕ) → page_seen names t d p ≡ page_seen names s d p
  memory_kept p = by_page (p == copy_page) refl
    where
      by_page : (c : Bool) → (p == copy_page) ≡ c → page_seen names t d p ≡ page_seen names s d p
      by_page true test =
          let same : p ≡ copy_page = grind (arith, nat_tests) in
          subst (λ (q : ℕ). page_seen names t d q ≡ page_seen names s d q) (sym same) (copy_unseen names t d ∙ sym (copy_unseen names s d))
      by_page false test =
          let other : p ≢ copy_page = grind (arith, nat_tests) in ap (seen_where (is_programs p)) (shown_kept p other)

  descriptors_kept : (fd : ℕ) → descriptor_seen names t d fd ≡ descriptor_seen names s d fd
  descriptors_kept = descriptors_off names names s t d copy_page copy_no_descriptor shown_kept

  -- those that a space has there have the bits that they had
  bits_kept : {at : Place} {words : List ℕ} → LibraryPages at words (rows_of s d) → (p : ℕ) (entry : Entry) → is_of_descriptor p ≡ true → rows_of t d p ≡ Some entry →
      entry.perm ≡ descriptor_perm
  bits_kept before p entry is stands = before.descriptors p entry is (sym (kept_beside p (descriptor_off p is)) ∙ stands)

  own_kept : (p : ℕ) → p ≢ copy_page → IsOwnWritable (rows_of s d) p → IsOwnWritable (rows_of t d) p
  own_kept p ne h = record {
    entry = h.entry;
    stands = kept_beside p ne ∙ h.stands;
    own_page = h.own_page;
    writes = h.writes;
  }

  -- and what the program may write is as it was
  writable_kept : KeepsWritable (rows_of s d) (rows_of t d)
  writable_kept = same_writable (rows_of s d) (rows_of t d) (λ p inside. kept_beside p (programs_beside p inside).0)

-- ---- a page is taken for the copy

module _ {names : Names} {s : KernelState} {a : AbstractState} {sp : SpacesState} (h : StandsFor names s a) (n va : ℕ)
    (stands : place_of (slot_at s n) ≡ place.InHandler (handler.Taking va))
    (made : Made s.spaces sp (slot_at s n).directory copy_page copy_bits) (in_order : IsInOrder (with_spaces s sp)) (last : s.last ≡ Some n) where
  abbrev to : HandlerStep
  to = handler.Loading va 0

  abbrev d : ℕ
  d = (slot_at s n).directory

  abbrev new_entry : Entry
  new_entry = record { frame = made.frame; perm = copy_bits }

  v : IsHandled names s a n (handler.Taking va)
  v = handled_part h n (handler.Taking va) stands

  client : is_clients n (slot_at s n) ≡ true
  client = clients_live h n v.b v.is

  taken_puts : Puts names names s.spaces sp d copy_page (Some new_entry)
  taken_puts = record {
    rows = made.placed.rows;
    bytes = λ q r x ne hx. made.placed.bytes q r x (row_elsewhere made.placed q r ne ∙ hx) (made.new q r x hx);
    named_so = λ q r x hx shared_page. refl;
    regions = other_regions made.placed;
  }

  others : (q : ℕ) → q ≢ d → SeenAlike names names s.spaces sp q
  others = others_seen h n v.b v.is taken_puts

  -- all entries count as they did, and the new one beside them
  counts : (m p : ℕ) → logical sp (upd s.environments.slots n (handler_slot (slot_at s n) to)) m p
      ≡ put (logical s.spaces s.environments.slots) n copy_page (Some new_entry) m p
  counts = put_is (logical s.spaces s.environments.slots) (logical sp (upd s.environments.slots n (handler_slot (slot_at s n) to))) n copy_page
      (Some new_entry) (here copy_page ∙ row_here taken_puts) there
    where
      here : (p : ℕ) → logical sp (upd s.environments.slots n (handler_slot (slot_at s n) to)) n p ≡ rows_of sp d p
      here p =
          counts_at sp s.environments.slots n to client v.inside (omega arith) p
          ∙ counted_plain (place.InHandler to) (rows_of sp d) refl p

      there : (m q : ℕ) → Elsewhere m q n copy_page →
          logical sp (upd s.environments.slots n (handler_slot (slot_at s n) to)) m q ≡ logical s.spaces s.environments.slots m q
      there m q ne = by_slot (m == n) refl
        where
          by_slot : (c : Bool) → (m == n) ≡ c →
              logical sp (upd s.environments.slots n (handler_slot (slot_at s n) to)) m q ≡ logical s.spaces s.environments.slots m q
          by_slot true test =
              let same : m ≡ n = grind (arith, nat_tests) in
              subst (λ (o : ℕ). logical sp (upd s.environments.slots n (handler_slot (slot_at s n) to)) o q ≡ logical s.spaces s.environments.slots o q)
              (sym same)
              (here q ∙ kept_beside taken_puts q (ne same)
              ∙ sym (logical_plain s.spaces s.environments.slots n client (ap is_plain stands) q))
          by_slot false test =
              others_count h n v.b v.is (handler_slot (slot_at s n) to) others m (grind (arith, nat_tests)) q

  taken_row : PutsRow names names s.spaces.pages a.shared sp.pages a.shared (things_in s a) a.next_name a.next_name
      (logical s.spaces s.environments.slots) n copy_page (Some new_entry)
  taken_row = record {
    bytes = bytes_elsewhere h n v.b v.is taken_puts;
    agree = λ m q x e ne hx is same.
        let found = elsewhere h n v.b v.is taken_puts m q x ne hx in
        absurd (made.new _ q found.1.entry found.1.stands (found.1.frame ∙ same ∙ ap (λ (y : Entry). y.frame) (sym (same_Some new_entry e is))));
    user = λ e is. subst (λ (y : Entry). IsUsers y.perm) (same_Some new_entry e is) copy_user;
    whole = λ e is. subst (λ (y : Entry). IsPage (sp.pages y.frame)) (same_Some new_entry e is)
        (subst (λ (page : List ℕ). IsPage page) (sym made.zero) zero_page_whole);
    beside = λ q e y is there same.
        absurd (made.new (slot_at s 0).directory q y there (sym same ∙ ap (λ (x : Entry). x.frame) (sym (same_Some new_entry e is))));
    named_new = λ e is shared_page.
        let contradiction : false ≡ true = ap (λ (y : Entry). is_shared y.perm) (same_Some new_entry e is) ∙ shared_page in cc;
    named_old = λ m q x ne hx shared_page was.
        named_bytes (sym (bytes_elsewhere h n v.b v.is taken_puts m q x ne hx)) was;
  }

  -- the library's pages, with the copy
  taken_library : LibraryPages (place.InHandler to) (slot_at s n).extra (rows_of sp d)
  taken_library =
      let before : LibraryPages (place.InHandler (handler.Taking va)) (slot_at s n).extra (rows_of s.spaces d) =
      subst (λ (p : Place). LibraryPages p (slot_at s n).extra (rows_of s.spaces d)) stands v.own.library in
      record {
        stack = own_kept taken_puts (page_number UXSTACK) stack_beside before.stack;
        copy = λ is. record { entry = new_entry; stands = row_here taken_puts; own_page = refl; writes = refl };
        no_copy = λ is. absurd (let contradiction : true ≡ false = is in cc);
        descriptors = bits_kept taken_puts before;
        working = λ is. own_kept taken_puts (page_number UTEMP) working_beside (before.working is);
        no_working = λ is. kept_beside taken_puts (page_number UTEMP) working_beside ∙ before.no_working is;
        spawns = λ p is.
            own_kept taken_puts p (spawns_aside (place.InHandler (handler.Taking va)) (slot_at s n).extra p is).no_copy (before.spawns p is);
        none = λ p outside no_descriptor no_stack no_copy no_working no_spawns.
            kept_beside taken_puts p no_copy ∙ before.none p outside no_descriptor no_stack no_copy no_working no_spawns;
      }

  -- the region of the copy is one of the library's
  taken_tables : HasTables sp d v.b.regions
  taken_tables = record {
    have = λ r is. table_is r ∙ stood r (v.own.regions_have r is);
    only = λ r is. by_region r (r == copy_page / NPTENTRIES) refl (sym (table_is r) ∙ is);
  }
    where
      here : (d == d) ≡ true
      here = grind (arith, nat_tests)

      table_is : (r : ℕ) → is_some (sp.regions d r) ≡ ((r == copy_page / NPTENTRIES) || is_some (s.spaces.regions d r))
      table_is r = made.placed.regions d r ∙ ap (λ (c : Bool). (c && (r == copy_page / NPTENTRIES)) || is_some (s.spaces.regions d r)) here

      stood : (r : ℕ) → is_some (s.spaces.regions d r) ≡ true → ((r == copy_page / NPTENTRIES) || is_some (s.spaces.regions d r)) ≡ true
      stood r is = by_test (r == copy_page / NPTENTRIES)
        where
          by_test : (c : Bool) → (c || is_some (s.spaces.regions d r)) ≡ true
          by_test true = refl
          by_test false = is

      by_region : (r : ℕ) (c : Bool) → (r == copy_page / NPTENTRIES) ≡ c → (c || is_some (s.spaces.regions d r)) ≡ true →
          (v.b.regions r || is_library_region r) ≡ true
      by_region r true test is = or_true (v.b.regions r) (is_library_region r) (copy_region r test)
      by_region r false test is = v.own.regions_only r is

  pub taken_stands : StandsFor names (with_registers (with_spaces s sp) n (handler_registers (slot_at s n).registers to)) a
  taken_stands = by_way v.at.way
    where
      by_way : CopiesOrEnds (handler.Taking va) (view_of s.spaces d) (slot_at s n) v.b v.at.fault v.at.regs →
          StandsFor names (with_registers (with_spaces s sp) n (handler_registers (slot_at s n).registers to)) a
      by_way (ends way) = absurd way.at
      by_way (copies way) =
          copying_stands h n v.b v.is to (ap borne_in stands) (ap borne_in (handler_place (slot_at s n) to v.inside (omega arith))) others
          (handler_moved to v.own v.inside (omega arith) (v.own.upcall ∙ ap upcall_at stands) (memory_kept taken_puts)
          (descriptors_kept taken_puts) taken_library taken_tables
          (copying_goes (handler.Taking va) to (view_of s.spaces d) (view_of sp d) (slot_at s n) v.b v.at way
          (kept_beside taken_puts (page_number UXSTACK) stack_beside)
          (λ x hx own_page. taken_puts.bytes d (page_number UXSTACK) x (λ same. stack_beside) hx) (writable_kept taken_puts)
          (record {
            row = kept_beside taken_puts (page_number UTEMP) working_beside;
            bytes = λ x hx own_page. taken_puts.bytes d (page_number UTEMP) x (λ same. working_beside) hx;
          })
          (goes way)))
          (rows_same (put (logical s.spaces s.environments.slots) n copy_page (Some new_entry))
          (logical sp (upd s.environments.slots n (handler_slot (slot_at s n) to))) counts (rows_put (rows_stand h) taken_row)) in_order
          last v.inside (omega arith) (λ fd below. kept_beside taken_puts (pipe_page fd) (pipe_off (pipe_page fd) (pipe_page_is fd below)))
          (λ m q is. counts m q
          ∙ put-other (logical s.spaces s.environments.slots) n copy_page (Some new_entry) m q (λ same too. pipe_off q is too))
          (λ m q x is hx shared_page. bytes_elsewhere h n v.b v.is taken_puts m q x (λ same too. pipe_off q is too) hx)
        where
          goes : Copies (handler.Taking va) (view_of s.spaces d) (slot_at s n) v.b v.at.fault v.at.regs → CopiesAt to (view_of sp d) v.at.fault.va
          goes way =
              let page = way.at.1 in
              let beside = (programs_beside _ (inside_programs v.at.fault.va way.inside)).0 in
              let stays : rows_of sp d (page_number v.at.fault.va) ≡ Some page.entry = kept_beside taken_puts _ beside ∙ page.stands in (
                way.at.0,
                record { entry = page.entry; stands = stays; own_page = page.own_page; copied = page.copied },
                record {
                  source = page.entry;
                  copy = new_entry;
                  source_is = stays;
                  copy_is = row_here taken_puts;
                  source_own = page.own_page;
                  copy_own = refl;
                  same = λ i lt. absurd (omega (arith, lt));
                },
              )

-- ---- the copy is taken away from where it was made

-- where it is mapped over its page it does not count there
over_none : (va : ℕ) (row : EntryRow) → counted (place.InHandler (handler.Unmapping va)) row copy_page ≡ None
unfolding counted
over_none va row = refl

module _ {names : Names} {s : KernelState} {a : AbstractState} {sp : SpacesState} (h : StandsFor names s a) (n va : ℕ)
    (stands : place_of (slot_at s n) ≡ place.InHandler (handler.Unmapping va))
    (removed : Removed s.spaces sp (slot_at s n).directory copy_page) (in_order : IsInOrder (with_spaces s sp)) (last : s.last ≡ Some n) where
  abbrev back : HandlerStep
  back = handler.Restoring

  abbrev space : ℕ
  space = (slot_at s n).directory

  w : IsHandled names s a n (handler.Unmapping va)
  w = handled_part h n (handler.Unmapping va) stands

  client_then : is_clients n (slot_at s n) ≡ true
  client_then = clients_live h n w.b w.is

  unmapped_puts : Puts names names s.spaces sp space copy_page None
  unmapped_puts = record {
    rows = removed.rows;
    bytes = λ q r x ne hx. removed.bytes q r x
        (ap (λ (rows : Rows). rows q r) removed.rows ∙ put-other (rows_of s.spaces) space copy_page None q r ne ∙ hx);
    named_so = λ q r x hx shared_page. refl;
    regions = λ q r ne. removed.regions q r;
  }

  unmapped_others : (q : ℕ) → q ≢ space → SeenAlike names names s.spaces sp q
  unmapped_others = others_seen h n w.b w.is unmapped_puts

  counted_none : logical s.spaces s.environments.slots n copy_page ≡ None
  counted_none =
      logical_live s.spaces s.environments.slots n client_then copy_page
      ∙ ap (λ (at : Place). counted at (rows_of s.spaces space) copy_page) stands
      ∙ over_none va (rows_of s.spaces space)

  -- all entries count as they did
  unmapped_counts : (m p : ℕ) → logical sp (upd s.environments.slots n (handler_slot (slot_at s n) back)) m p
      ≡ logical s.spaces s.environments.slots m p
  unmapped_counts m p = by_slot (m == n) refl
    where
      here : (q : ℕ) → logical sp (upd s.environments.slots n (handler_slot (slot_at s n) back)) n q ≡ rows_of sp space q
      here q =
          counts_at sp s.environments.slots n back client_then w.inside tt q
          ∙ counted_plain (place.InHandler back) (rows_of sp space) refl q

      by_page : (c : Bool) → (p == copy_page) ≡ c → logical sp (upd s.environments.slots n (handler_slot (slot_at s n) back)) n p
          ≡ logical s.spaces s.environments.slots n p
      by_page true test =
          let same : p ≡ copy_page = grind (arith, nat_tests) in
          subst (λ (q : ℕ). logical sp (upd s.environments.slots n (handler_slot (slot_at s n) back)) n q ≡ logical s.spaces s.environments.slots n q)
          (sym same) (here copy_page ∙ row_here unmapped_puts ∙ sym counted_none)
      by_page false test =
          let other : p ≢ copy_page = grind (arith, nat_tests) in
          here p ∙ kept_beside unmapped_puts p other ∙ sym (logical_beside s.spaces s.environments.slots n client_then p other (ap (λ (q : Place). is_remapped q p) stands))

      by_slot : (c : Bool) → (m == n) ≡ c → logical sp (upd s.environments.slots n (handler_slot (slot_at s n) back)) m p
          ≡ logical s.spaces s.environments.slots m p
      by_slot true test =
          let same : m ≡ n = grind (arith, nat_tests) in
          subst (λ (o : ℕ). logical sp (upd s.environments.slots n (handler_slot (slot_at s n) back)) o p ≡ logical s.spaces s.environments.slots o p)
          (sym same) (by_page (p == copy_page) refl)
      by_slot false test = others_count h n w.b w.is (handler_slot (slot_at s n) back) unmapped_others m (grind (arith, nat_tests)) p

  -- what counts keeps its bytes
  unmapped_bytes : (m p : ℕ) (x : Entry) → logical s.spaces s.environments.slots m p ≡ Some x → sp.pages x.frame ≡ s.spaces.pages x.frame
  unmapped_bytes m p x hx =
      bytes_elsewhere h n w.b w.is unmapped_puts m p x not_here hx
    where
      not_here : Elsewhere m p n copy_page
      not_here same too =
          none-some x (sym counted_none ∙ (λ i. logical s.spaces s.environments.slots (sym same i) (sym too i)) ∙ hx)

  unmapped_library : LibraryPages (place.InHandler back) (slot_at s n).extra (rows_of sp space)
  unmapped_library =
      let before : LibraryPages (place.InHandler (handler.Unmapping va)) (slot_at s n).extra (rows_of s.spaces space) =
      subst (λ (p : Place). LibraryPages p (slot_at s n).extra (rows_of s.spaces space)) stands w.own.library in
      record {
        stack = own_kept unmapped_puts (page_number UXSTACK) stack_beside before.stack;
        copy = λ is. absurd (let contradiction : false ≡ true = is in cc);
        no_copy = λ is. row_here unmapped_puts;
        descriptors = bits_kept unmapped_puts before;
        working = λ is. own_kept unmapped_puts (page_number UTEMP) working_beside (before.working is);
        no_working = λ is. kept_beside unmapped_puts (page_number UTEMP) working_beside ∙ before.no_working is;
        spawns = λ p is.
            own_kept unmapped_puts p (spawns_aside (place.InHandler (handler.Unmapping va)) (slot_at s n).extra p is).no_copy (before.spawns p is);
        none = λ p outside no_descriptor no_stack no_copy no_working no_spawns.
            kept_beside unmapped_puts p no_copy ∙ before.none p outside no_descriptor no_stack no_copy no_working no_spawns;
      }

  unmapped_tables : HasTables sp space w.b.regions
  unmapped_tables = record {
    have = λ r is. removed.regions space r ∙ w.own.regions_have r is;
    only = λ r is. w.own.regions_only r (sym (removed.regions space r) ∙ is);
  }

  pub unmapped_stands : StandsFor names (with_registers (with_spaces s sp) n (handler_registers (slot_at s n).registers back)) a
  unmapped_stands = by_way w.at.way
    where
      by_way : CopiesOrEnds (handler.Unmapping va) (view_of s.spaces space) (slot_at s n) w.b w.at.fault w.at.regs →
          StandsFor names (with_registers (with_spaces s sp) n (handler_registers (slot_at s n).registers back)) a
      by_way (ends way) = absurd way.at
      by_way (copies way) =
          copying_stands h n w.b w.is back (ap borne_in stands) (ap borne_in (handler_place (slot_at s n) back w.inside tt)) unmapped_others
          (handler_moved back w.own w.inside tt (w.own.upcall ∙ ap upcall_at stands) (memory_kept unmapped_puts)
          (descriptors_kept unmapped_puts) unmapped_library unmapped_tables
          (copying_goes (handler.Unmapping va) back (view_of s.spaces space) (view_of sp space) (slot_at s n) w.b w.at way
          (kept_beside unmapped_puts (page_number UXSTACK) stack_beside)
          (λ x hx own_page. unmapped_puts.bytes space (page_number UXSTACK) x (λ same. stack_beside) hx) (writable_kept unmapped_puts)
          (record {
            row = kept_beside unmapped_puts (page_number UTEMP) working_beside;
            bytes = λ x hx own_page. unmapped_puts.bytes space (page_number UTEMP) x (λ same. working_beside) hx;
          })
          tt))
          (rows_bytes sp.pages (λ m p x hx. unmapped_bytes m p x (sym (unmapped_counts m p) ∙ hx))
          (rows_same (logical s.spaces s.environments.slots)
          (logical sp (upd s.environments.slots n (handler_slot (slot_at s n) back))) unmapped_counts (rows_stand h))) in_order
          last w.inside tt (λ fd below. kept_beside unmapped_puts (pipe_page fd) (pipe_off (pipe_page fd) (pipe_page_is fd below)))
          (λ m q is. unmapped_counts m q) (λ m q x is hx shared_page. unmapped_bytes m q x hx)

-- ---- whose frame the copy has

-- Nobody else has the frame of a copy: it is a page of the environment's own, which may be written.
pub copy_alone : {names : Names} {s : KernelState} {a : AbstractState} → StandsFor names s a → (n : ℕ) (copy : Entry) →
    logical s.spaces s.environments.slots n copy_page ≡ Some copy → is_shared copy.perm ≡ false → has_write copy.perm ≡ true →
    (m q : ℕ) (x : Entry) → Elsewhere m q n copy_page → logical s.spaces s.environments.slots m q ≡ Some x → x.frame ≢ copy.frame
copy_alone h n copy counts own_page writes m q x ne hx same =
    let agrees = h.apart m q n copy_page x copy ne hx counts same in
    let contradiction : true ≡ false = sym writes ∙ (agrees.read_only (agrees.shared ∙ own_page)).1 in cc

-- ---- the copy is put in the place of the page

-- lists of the same numbers
same_numbers : (xs ys : List ℕ) → length xs ≡ length ys → ((i : ℕ) → i < length xs → slice_index xs i ≡ slice_index ys i) → xs ≡ ys
same_numbers [] [] long same = refl
same_numbers [] (y ∷ ys) long same = absurd (omega (arith, long))
same_numbers (x ∷ xs) [] long same = absurd (omega (arith, long))
same_numbers (x ∷ xs) (y ∷ ys) long same =
    let rest = same_numbers xs ys (omega (arith, long)) (λ i lt. same (suc i) (omega (arith, lt))) in
    let first : x ≡ y = same 0 (omega arith) in
    λ i. first i ∷ rest i

-- all but the page where it was made count as they stand, where the copy is mapped over its page
over_beside : (va : ℕ) (row : EntryRow) (p : ℕ) → p ≢ copy_page → counted (place.InHandler (handler.Unmapping va)) row p ≡ row p
over_beside va row p ne = counted_elsewhere (place.InHandler (handler.Unmapping va)) row p ne refl

-- it copies, where it puts the copy in the place of the page
pub over_way : {names : Names} {s : KernelState} {a : AbstractState} {n va : ℕ} (v : IsHandled names s a n (handler.MappingOver va)) →
    Copies (handler.MappingOver va) (view_of s.spaces (slot_at s n).directory) (slot_at s n) v.b v.at.fault v.at.regs
over_way {s = s} {n = n} {va = va} v = by_way v.at.way
  where
    by_way : CopiesOrEnds (handler.MappingOver va) (view_of s.spaces (slot_at s n).directory) (slot_at s n) v.b v.at.fault v.at.regs →
        Copies (handler.MappingOver va) (view_of s.spaces (slot_at s n).directory) (slot_at s n) v.b v.at.fault v.at.regs
    by_way (copies way) = way
    by_way (ends way) = absurd way.at

module _ {names : Names} {s : KernelState} {a : AbstractState} {sp : SpacesState} (h : StandsFor names s a) (n va : ℕ)
    (stands : place_of (slot_at s n) ≡ place.InHandler (handler.MappingOver va)) (copy : Entry)
    (copy_is : rows_of s.spaces (slot_at s n).directory copy_page ≡ Some copy)
    (given : Given s.spaces sp (slot_at s n).directory (page_number va) (record { frame = copy.frame; perm = copy_bits }))
    (in_order : IsInOrder (with_spaces s sp)) (last : s.last ≡ Some n) where
  abbrev next : HandlerStep
  next = handler.Unmapping va

  abbrev home : ℕ
  home = (slot_at s n).directory

  abbrev p : ℕ
  p = page_number va

  -- what is put in the place of the page
  abbrev over : Entry
  over = record { frame = copy.frame; perm = copy_bits }

  abbrev before : Rows
  before = logical s.spaces s.environments.slots

  abbrev after : Rows
  after = logical sp (upd s.environments.slots n (handler_slot (slot_at s n) next))

  u : IsHandled names s a n (handler.MappingOver va)
  u = handled_part h n (handler.MappingOver va) stands

  client_there : is_clients n (slot_at s n) ≡ true
  client_there = clients_live h n u.b u.is

  way : Copies (handler.MappingOver va) (view_of s.spaces home) (slot_at s n) u.b u.at.fault u.at.regs
  way = over_way u

  library : LibraryPages (place.InHandler (handler.MappingOver va)) (slot_at s n).extra (rows_of s.spaces home)
  library = subst (λ (q : Place). LibraryPages q (slot_at s n).extra (rows_of s.spaces home)) stands u.own.library

  -- ---- the page and its copy

  old : IsToCopy (rows_of s.spaces home) va
  old = subst (λ (q : ℕ). IsToCopy (rows_of s.spaces home) q) (sym way.at.0) way.at.1

  copied : IsCopiedTo PGSIZE (view_of s.spaces home) va
  copied = subst (λ (q : ℕ). IsCopiedTo PGSIZE (view_of s.spaces home) q) (sym way.at.0) way.at.2

  page_inside : is_programs p ≡ true
  page_inside = ap (λ (q : ℕ). is_programs (page_number q)) way.at.0 ∙ inside_programs u.at.fault.va way.inside

  beside : (p ≢ copy_page) × (p ≢ page_number UXSTACK) × (p ≢ page_number UTEMP)
  beside = programs_beside p page_inside

  old_counts : before n p ≡ Some old.entry
  old_counts = logical_beside s.spaces s.environments.slots n client_there p beside.0 (ap (λ (q : Place). is_remapped q p) stands) ∙ old.stands

  copy_counts : before n copy_page ≡ Some copy
  copy_counts = logical_plain s.spaces s.environments.slots n client_there (ap is_plain stands) copy_page ∙ copy_is

  copy_writes : has_write copy.perm ≡ true
  copy_writes = let it = library.copy refl in ap (λ (e : Entry). has_write e.perm) (same_Some copy it.entry (sym copy_is ∙ it.stands)) ∙ it.writes

  copy_own : is_shared copy.perm ≡ false
  copy_own = let it = library.copy refl in ap (λ (e : Entry). is_shared e.perm) (same_Some copy it.entry (sym copy_is ∙ it.stands)) ∙ it.own_page

  -- the copy has the bytes of the page
  same_bytes : s.spaces.pages copy.frame ≡ s.spaces.pages old.entry.frame
  same_bytes =
      let first : copied.copy ≡ copy = same_Some copied.copy copy (sym copied.copy_is ∙ copy_is) in
      let second : copied.source ≡ old.entry = same_Some copied.source old.entry (sym copied.source_is ∙ old.stands) in
      let copy_long = (h.whole n copy_page copy copy_counts).long in
      let old_long = (h.whole n p old.entry old_counts).long in
      same_numbers (s.spaces.pages copy.frame) (s.spaces.pages old.entry.frame) (copy_long ∙ sym old_long)
      (λ i lt. (λ j. slice_index (s.spaces.pages (sym first j).frame) i) ∙ copied.same i (omega (arith, lt, copy_long))
      ∙ (λ j. slice_index (s.spaces.pages (second j).frame) i))

  alone : (m q : ℕ) (x : Entry) → Elsewhere m q n copy_page → before m q ≡ Some x → x.frame ≢ copy.frame
  alone = copy_alone h n copy copy_counts copy_own copy_writes

  -- ---- the spaces after it

  over_puts : Puts names names s.spaces sp home p (Some over)
  over_puts = record {
    rows = given.placed.rows;
    bytes = λ q r x ne hx. by_frame q r x ne hx (x.frame == copy.frame) refl;
    named_so = λ q r x hx shared_page. refl;
    regions = other_regions given.placed;
  }
    where
      by_frame : (q r : ℕ) (x : Entry) → Elsewhere q r home p → rows_of s.spaces q r ≡ Some x → (c : Bool) → (x.frame == copy.frame) ≡ c →
          sp.pages x.frame ≡ s.spaces.pages x.frame
      by_frame q r x ne hx true test =
          let same : copy.frame ≡ x.frame = grind (arith, nat_tests) in
          subst (λ (f : ℕ). sp.pages f ≡ s.spaces.pages f) same given.same
      by_frame q r x ne hx false test =
          given.placed.bytes q r x (row_elsewhere given.placed q r ne ∙ hx) (grind (arith, nat_tests))

  over_others : (q : ℕ) → q ≢ home → SeenAlike names names s.spaces sp q
  over_others = others_seen h n u.b u.is over_puts

  -- other pages of the space stand as they stood
  over_kept : (q : ℕ) → q ≢ p → rows_of sp home q ≡ rows_of s.spaces home q
  over_kept q ne = row_elsewhere given.placed home q (λ same. ne)

  kept_bytes : (q : ℕ) (x : Entry) → q ≢ p → rows_of s.spaces home q ≡ Some x → sp.pages x.frame ≡ s.spaces.pages x.frame
  kept_bytes q x ne hx = over_puts.bytes home q x (λ same. ne) hx

  -- all but the page is shown as it was
  over_shown : (q : ℕ) → q ≢ p → shown_at names sp home q ≡ shown_at names s.spaces home q
  over_shown q ne =
      shown_same names names s.spaces sp home q (over_kept q ne) (λ x hx own_page. kept_bytes q x ne hx) (λ x hx shared_page. refl)

  -- and the page is seen as it was
  over_memory : (q : ℕ) → page_seen names sp home q ≡ page_seen names s.spaces home q
  over_memory q = by_page (q == p) refl
    where
      writes : may_write old.entry.perm ≡ true
      writes = or_true (has_write old.entry.perm) (is_cow old.entry.perm) old.copied

      here : page_seen names sp home p ≡ page_seen names s.spaces home p
      here =
          seen_own names sp home p over page_inside (row_placed given.placed) refl
          ∙ (λ i. Some (own ((given.same ∙ same_bytes) i) (sym writes i)))
          ∙ sym (seen_own names s.spaces home p old.entry page_inside old.stands old.own_page)

      by_page : (c : Bool) → (q == p) ≡ c → page_seen names sp home q ≡ page_seen names s.spaces home q
      by_page true test =
          let same : q ≡ p = grind (arith, nat_tests) in
          subst (λ (r : ℕ). page_seen names sp home r ≡ page_seen names s.spaces home r) (sym same) here
      by_page false test =
          let other : q ≢ p = grind (arith, nat_tests) in ap (seen_where (is_programs q)) (over_shown q other)

  -- no descriptor is the page
  over_descriptors : (fd : ℕ) → descriptor_seen names sp home fd ≡ descriptor_seen names s.spaces home fd
  over_descriptors = descriptors_beside names names s.spaces sp home p page_inside over_shown

  over_library : LibraryPages (place.InHandler next) (slot_at s n).extra (rows_of sp home)
  over_library =
      library_moved (place.InHandler (handler.MappingOver va)) (place.InHandler next) (slot_at s n).extra (slot_at s n).extra (rows_of sp home) refl refl
      (library_put (place.InHandler (handler.MappingOver va)) (slot_at s n).extra (rows_of s.spaces home) (rows_of sp home) p page_inside over_kept library)

  -- what the program might write it may write, and the page too
  over_writable : KeepsWritable (rows_of s.spaces home) (rows_of sp home)
  over_writable q inside writes = by_page (q == p) refl
    where
      by_page : (c : Bool) → (q == p) ≡ c → is_refused_by true (rows_of sp home q) ≡ false
      by_page true test =
          let same : q ≡ p = grind (arith, nat_tests) in ap (is_refused_by true) (ap (rows_of sp home) same ∙ row_placed given.placed)
      by_page false test = ap (is_refused_by true) (over_kept q (grind (arith, nat_tests))) ∙ writes

  -- the region has its table already
  over_tables : HasTables sp home u.b.regions
  over_tables = record { have = λ r is. table_is r ∙ u.own.regions_have r is; only = λ r is. u.own.regions_only r (sym (table_is r) ∙ is) }
    where
      there : (home == home) ≡ true
      there = grind (arith, nat_tests)

      stood : is_some (s.spaces.regions home (p / NPTENTRIES)) ≡ true
      stood = let e = row_entry s.spaces home p old.entry old.stands in h.in_order.frames.regions home p e.0 e.1

      by_region : (r : ℕ) (c : Bool) → (r == p / NPTENTRIES) ≡ c → (c || is_some (s.spaces.regions home r)) ≡ is_some (s.spaces.regions home r)
      by_region r true test =
          let same : p / NPTENTRIES ≡ r = grind (arith, nat_tests) in
          subst (λ (q : ℕ). true ≡ is_some (s.spaces.regions home q)) same (sym stood)
      by_region r false test = refl

      table_is : (r : ℕ) → is_some (sp.regions home r) ≡ is_some (s.spaces.regions home r)
      table_is r =
          given.placed.regions home r
          ∙ ap (λ (c : Bool). (c && (r == p / NPTENTRIES)) || is_some (s.spaces.regions home r)) there
          ∙ by_region r (r == p / NPTENTRIES) refl

  -- ---- entries as they count

  -- where the copy was made none counts any more
  abbrev left : Rows
  left = put before n copy_page None

  over_counts : (m q : ℕ) → after m q ≡ put left n p (Some over) m q
  over_counts = put_is left after n p (Some over) (at_home p ∙ over_beside va (rows_of sp home) p beside.0 ∙ row_placed given.placed) there
    where
      at_home : (q : ℕ) → after n q ≡ counted (place.InHandler next) (rows_of sp home) q
      at_home q = counts_at sp s.environments.slots n next client_there u.inside tt q

      of_slot : (q : ℕ) → q ≢ p → (c : Bool) → (q == copy_page) ≡ c → after n q ≡ left n q
      of_slot q ne true test =
          let same : q ≡ copy_page = grind (arith, nat_tests) in
          subst (λ (r : ℕ). after n r ≡ left n r) (sym same)
          (at_home copy_page ∙ over_none va (rows_of sp home) ∙ sym (put-at before n copy_page None))
      of_slot q ne false test =
          let other : q ≢ copy_page = grind (arith, nat_tests) in
          at_home q ∙ over_beside va (rows_of sp home) q other ∙ over_kept q ne
          ∙ sym (logical_beside s.spaces s.environments.slots n client_there q other (ap (λ (at : Place). is_remapped at q) stands))
          ∙ sym (put-other before n copy_page None n q (λ same. other))

      there : (m q : ℕ) → Elsewhere m q n p → after m q ≡ left m q
      there m q ne = by_slot (m == n) refl
        where
          by_slot : (c : Bool) → (m == n) ≡ c → after m q ≡ left m q
          by_slot true test =
              let same : m ≡ n = grind (arith, nat_tests) in
              subst (λ (o : ℕ). after o q ≡ left o q) (sym same) (of_slot q (ne same) (q == copy_page) refl)
          by_slot false test =
              let other : m ≢ n = grind (arith, nat_tests) in
              others_count h n u.b u.is (handler_slot (slot_at s n) next) over_others m other q
              ∙ sym (put-other before n copy_page None m q (λ same. absurd (other same)))

  left_row : PutsRow names names s.spaces.pages a.shared s.spaces.pages a.shared (things_in s a) a.next_name a.next_name before n copy_page None
  left_row = record {
    bytes = λ m q x ne hx. refl;
    agree = λ m q x e ne hx is same. absurd (none-some e is);
    user = λ e is. absurd (none-some e is);
    whole = λ e is. absurd (none-some e is);
    beside = λ q e y is. absurd (none-some e is);
    named_new = λ e is. absurd (none-some e is);
    named_old = λ m q x ne hx shared_page was. was;
  }

  -- of what counts then none has the frame of the copy
  left_found : (m q : ℕ) (x : Entry) → left m q ≡ Some x → (before m q ≡ Some x) × (x.frame ≢ copy.frame)
  left_found m q x hx = elim (put-found before n copy_page None m q x hx) [
    | inl here ↦ absurd (none-some x here.2)
    | inr there ↦ (there.1, alone m q x there.0 there.1)
  ]

  left_bytes : (m q : ℕ) (x : Entry) → Elsewhere m q n p → left m q ≡ Some x → sp.pages x.frame ≡ s.spaces.pages x.frame
  left_bytes m q x ne hx =
      bytes_elsewhere h n u.b u.is over_puts m q x ne (left_found m q x hx).0

  over_row : PutsRow names names s.spaces.pages a.shared sp.pages a.shared (things_in s a) a.next_name a.next_name left n p (Some over)
  over_row = record {
    bytes = left_bytes;
    agree = λ m q x e ne hx is same.
        absurd ((left_found m q x hx).1 (same ∙ ap (λ (y : Entry). y.frame) (sym (same_Some over e is))));
    user = λ e is. subst (λ (y : Entry). IsUsers y.perm) (same_Some over e is) copy_user;
    whole = λ e is. subst (λ (y : Entry). IsPage (sp.pages y.frame)) (same_Some over e is)
        (subst (λ (page : List ℕ). IsPage page) (sym given.same) (h.whole n copy_page copy copy_counts));
    beside = λ q e y is there same.
        absurd (own_lacked h n copy_page copy copy_counts (λ it. working_beside (sym it)) copy_own q y there
        (sym same ∙ ap (λ (x : Entry). x.frame) (sym (same_Some over e is))));
    named_new = λ e is shared_page.
        let contradiction : false ≡ true = ap (λ (y : Entry). is_shared y.perm) (same_Some over e is) ∙ shared_page in cc;
    named_old = λ m q x ne hx shared_page was. named_bytes (sym (left_bytes m q x ne hx)) was;
  }

  -- ---- it stands

  mapped_twice : IsMappedTwice (view_of sp home) va
  mapped_twice = record {
    here = over;
    there = copy;
    here_is = row_placed given.placed;
    there_is = over_kept copy_page (λ e. beside.0 (sym e)) ∙ copy_is;
    own_page = refl;
    own_copy = copy_own;
    writes = refl;
    frames = refl;
  }

  pub over_stands : StandsFor names (with_registers (with_spaces s sp) n (handler_registers (slot_at s n).registers next)) a
  over_stands =
      copying_stands h n u.b u.is next (ap borne_in stands) (ap borne_in (handler_place (slot_at s n) next u.inside tt)) over_others
      (handler_moved next u.own u.inside tt (u.own.upcall ∙ ap upcall_at stands) over_memory over_descriptors over_library over_tables
      (copying_goes (handler.MappingOver va) next (view_of s.spaces home) (view_of sp home) (slot_at s n) u.b u.at way
      (over_kept (page_number UXSTACK) (λ e. beside.1 (sym e)))
      (λ x hx own_page. kept_bytes (page_number UXSTACK) x (λ e. beside.1 (sym e)) hx) over_writable
      (record {
        row = over_kept (page_number UTEMP) (λ e. beside.2 (sym e));
        bytes = λ x hx own_page. kept_bytes (page_number UTEMP) x (λ e. beside.2 (sym e)) hx;
      })
      (way.at.0, subst (λ (q : ℕ). IsMappedTwice (view_of sp home) q) way.at.0 mapped_twice)))
      (rows_same (put left n p (Some over)) after over_counts (rows_put (rows_put (rows_stand h) left_row) over_row)) in_order
      last u.inside tt (λ fd below. over_kept (pipe_page fd) (off_pipe (pipe_page fd) (pipe_page_is fd below)))
      (λ m q is. over_counts m q ∙ put-other left n p (Some over) m q (λ same too. off_pipe q is too)
      ∙ put-other before n copy_page None m q (λ same too. pipe_off q is too))
      (λ m q x is hx shared_page. bytes_elsewhere h n u.b u.is over_puts m q x (λ same too. off_pipe q is too) hx)
    where
      off_pipe : (q : ℕ) → is_pipe_page q ≡ true → q ≢ p
      off_pipe q is same = let contradiction : true ≡ false = sym is ∙ ap is_pipe_page same ∙ programs_no_pipe p page_inside in cc
