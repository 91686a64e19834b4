-- The kernel's state goes on standing for the abstract one where a page is put in the place of another, be it a new one or one
-- that stands somewhere, and where a page is removed.
use Rattle.std.proofs.Common.{◌≤◌, ◌≡◌, ◌≢◌, ◌∙◌, ◌+◌, ◌<◌, ◌==◌, ◌&&◌, ◌||◌, ◌⊎◌, inl, inr, ℕ, ◌/◌, not, Bool, true, false, List}
use Rattle.std.proofs.Common.{refl, sym, ap, subst, arith}
use Rattle.std.proofs.lemmas.Bool.Decides.{nat_tests}
use Rattle.std.specs.Prelude.{Option, Some, None, is_some}
use Rattle.std.proofs.lemmas.Option.{same_Some, none-some}
use Rattle.jos_base.specs.declared.numbers.TheConstants.{NPTENTRIES}
use Rattle.jos_base.specs.Environments.{Slot, is_live as is_live_slot}
use Rattle.jos_base.specs.KernelState.{KernelState, slot_at, with_spaces}
use Rattle.jos_base.specs.Reach.{Entry}
use Rattle.jos_base.specs.SpacesState.{SpacesState, put, zero_page}
use Rattle.jos_base.specs.SystemCalls.{has_write}
use Rattle.jos_base.specs.Words.{page_number, upd}
use Rattle.lib_os.specs.declared.numbers.TheConstants.{DESCRIPTORS, REQUEST}
use Rattle.lib_os.specs.AbstractState.{AbstractState, Born, Page, own, named, born, with_born}
use Rattle.lib_os.specs.AbstractMemory.{page_at, with_page, without_page}
use Rattle.lib_os.specs.DescriptorPages.{lasting_words}
use Rattle.lib_os.specs.InOrder.{IsInOrder}
use Rattle.lib_os.specs.LibraryPages.{is_library_region}
use Rattle.lib_os.specs.PipeEnds.{EndsStand}
use Rattle.lib_os.specs.Places.{place_of}
use Rattle.lib_os.specs.Rows.{is_clients, server_row, Names, Rows, rows_of, logical, page_by, page_seen, is_programs, is_shared, is_cow, may_write}
use Rattle.lib_os.specs.Rows.{Agree, IsUsers, IsNamed, IsPage, MayBeHad, ShowsBy, is_of_descriptor, is_pipe_page, pipe_page}
use Rattle.lib_os.specs.StandsFor.{StandsFor, StandsForBorn, view_of, borne_in, things_in}
use Rattle.lib_os.proofs.Effects.{Placed, Made, Given, Removed}
use Rattle.lib_os.proofs.EntriesStand.{PutsRow, rows_put, rows_same, rows_stand, put_is, same_entry, shown_same, seen_own, seen_named, seen_by}
use Rattle.lib_os.proofs.EntriesStand.{named_at, named_bytes, programs_no_pipe, seen_none}
use Rattle.lib_os.proofs.Logical.{is_plain, logical_some, logical_plain, logical_beside, logical_alike, programs_beside, StandsAs}
use Rattle.lib_os.proofs.Logical.{plain_unborne, programs_no_descriptor, unborne_beside}
use Rattle.lib_os.proofs.PageBytes.{zero_page_whole}
use Rattle.lib_os.proofs.SlotsStand.{SeenAlike, HasTables, minds_page, unminded_plain, kept_unminded, library_put, page_alike, page_put}
use Rattle.lib_os.proofs.PipesStand.{ends_moved, locks_beside, pipe_shared, same_places}
use Rattle.lib_os.proofs.SlotsStand.{CountsKept, born_at, live_stands, turn_unpiped, unminded_unpiped}
use Rattle.lib_os.proofs.StatesStand.{clients_live, directories_apart, ends_at, others_counts, space_moves}
use Rattle.jos_base.proofs.Maps.{upd-at, upd-other, upd-true}
use Rattle.jos_base.proofs.Puts.{Elsewhere, place_cases, put-at, put-other}

-- ---- the file server's pages

-- The file server has no page in the frame of one that a program has.
pub programs_frame : {names : Names} {s : KernelState} {a : AbstractState} → StandsFor names s a → (n p q : ℕ) (x e : Entry) →
    is_programs p ≡ true → logical s.spaces s.environments.slots n p ≡ Some x → server_row s.spaces s.environments.slots q ≡ Some e →
    x.frame ≢ e.frame
programs_frame h n p q x e inside counts there same = by_page (q == page_number REQUEST) (h.beside n p q x e counts there same)
  where
    by_page : (c : Bool) → MayBeHad c p x → ⊥
    by_page true had = (programs_beside p inside).2 had.0
    by_page false had = let contradiction : true ≡ false = sym had.descriptor ∙ programs_no_descriptor p inside in cc

-- ---- in general

-- An entry, or none, is put in the place of what stood there, and nothing that is seen of the others differs.
pub record Puts (names after : Names) (s t : SpacesState) (d p : ℕ) (v : Option Entry) : Type 0 where
  pub rows : rows_of t ≡ put (rows_of s) d p v
  pub bytes : (q r : ℕ) (x : Entry) → Elsewhere q r d p → rows_of s q r ≡ Some x → t.pages x.frame ≡ s.pages x.frame
  pub named_so : (q r : ℕ) (x : Entry) → rows_of s q r ≡ Some x → is_shared x.perm ≡ true → after.name x.frame ≡ names.name x.frame
  pub regions : (q r : ℕ) → q ≢ d → is_some (t.regions q r) ≡ is_some (s.regions q r)

module _ {names after : Names} {s : KernelState} {a : AbstractState} {sp : SpacesState} {p : ℕ} {v : Option Entry}
    (h : StandsFor names s a) (n : ℕ) (b : Born) (at : a.slots n ≡ born b)
    (puts : Puts names after s.spaces sp (slot_at s n).directory p v) where
  abbrev dir : ℕ
  dir = (slot_at s n).directory

  row_kept : (q r : ℕ) → Elsewhere q r dir p → rows_of sp q r ≡ rows_of s.spaces q r
  row_kept q r ne = ap (λ (rows : Rows). rows q r) puts.rows ∙ put-other (rows_of s.spaces) dir p v q r ne

  -- nothing that is seen of other spaces differs
  pub others_seen : (q : ℕ) → q ≢ dir → SeenAlike names after s.spaces sp q
  others_seen q ne = record {
    rows = λ i. λ r. row_kept q r (λ same too. ne same) i;
    bytes = λ r x hx own_page. puts.bytes q r x (λ same too. ne same) hx;
    named_so = λ r x hx shared_page. puts.named_so q r x hx shared_page;
    devices = λ r x descriptor hx shared_page. ap lasting_words (puts.bytes q r x (λ same too. ne same) hx);
    pipes = λ r x pipes hx shared_page. puts.bytes q r x (λ same too. ne same) hx;
    regions = λ r. puts.regions q r ne;
  }

  -- an entry that counts elsewhere stands elsewhere
  pub elsewhere : (m q : ℕ) (x : Entry) → Elsewhere m q n p → logical s.spaces s.environments.slots m q ≡ Some x →
      Elsewhere (slot_at s m).directory q dir p × StandsAs (rows_of s.spaces (slot_at s m).directory q) x
  elsewhere m q x ne hx =
      let found = logical_some s.spaces s.environments.slots m q x hx in
      (by_slot (m == n) refl found.0, found.1)
    where
      by_slot : (c : Bool) → (m == n) ≡ c → is_live_slot (slot_at s m) ≡ true → Elsewhere (slot_at s m).directory q dir p
      by_slot true test live same = ne (grind (arith, nat_tests))
      by_slot false test live same =
          absurd (directories_apart h n b at m (grind (arith, nat_tests)) (sym (live_stands h m) ∙ live) same)

  -- and keeps its bytes
  pub bytes_elsewhere : (m q : ℕ) (x : Entry) → Elsewhere m q n p → logical s.spaces s.environments.slots m q ≡ Some x →
      sp.pages x.frame ≡ s.spaces.pages x.frame
  bytes_elsewhere m q x ne hx =
      let found = elsewhere m q x ne hx in
      subst (λ (f : ℕ). sp.pages f ≡ s.spaces.pages f) found.1.frame
      (puts.bytes (slot_at s m).directory q found.1.entry found.0 found.1.stands)

  -- Entries count as they did, but for this one, where the environment's count as they stand.
  pub counts_put : is_plain (place_of (slot_at s n)) ≡ true → (m q : ℕ) →
      logical sp s.environments.slots m q ≡ put (logical s.spaces s.environments.slots) n p v m q
  counts_put plain = put_is (logical s.spaces s.environments.slots) (logical sp s.environments.slots) n p v here there
    where
      live : is_clients n (slot_at s n) ≡ true
      live = clients_live h n b at

      here : logical sp s.environments.slots n p ≡ v
      here = logical_plain sp s.environments.slots n live plain p ∙ ap (λ (rows : Rows). rows dir p) puts.rows ∙ put-at (rows_of s.spaces) dir p v

      there : (m q : ℕ) → Elsewhere m q n p → logical sp s.environments.slots m q ≡ logical s.spaces s.environments.slots m q
      there m q ne = by_slot (m == n) refl
        where
          by_slot : (c : Bool) → (m == n) ≡ c → logical sp s.environments.slots m q ≡ logical s.spaces s.environments.slots m q
          by_slot true test =
              let same : m ≡ n = grind (arith, nat_tests) in
              let other : q ≢ p = ne same in
              subst (λ (o : ℕ). logical sp s.environments.slots o q ≡ logical s.spaces s.environments.slots o q) (sym same)
              (logical_plain sp s.environments.slots n live plain q ∙ row_kept dir q (λ is too. other too)
              ∙ sym (logical_plain s.spaces s.environments.slots n live plain q))
          by_slot false test =
              let other : m ≢ n = grind (arith, nat_tests) in
              logical_alike s.spaces sp s.environments.slots s.environments.slots m refl refl
              (λ is. (others_seen (slot_at s m).directory (directories_apart h n b at m other (sym (live_stands h m) ∙ is))).rows) q

  pub puts_stand : is_programs p ≡ true → (page : Option Page) → page ≡ page_seen after sp dir p →
      (regions : ℕ → Bool) → HasTables sp dir regions → (shared : ℕ → List ℕ) (next : ℕ) →
      PutsRow names after s.spaces.pages a.shared sp.pages shared (things_in s a) a.next_name next (logical s.spaces s.environments.slots) n p v →
      minds_page (place_of (slot_at s n)) ≡ false → IsInOrder (with_spaces s sp) →
      ((m : ℕ) → m ≢ n → CountsKept s.spaces sp (slot_at s m)) → a.next_name ≤ next → StandsFor after (with_spaces s sp)
      (with_born (record a { shared = shared; next_name = next }) n (record b { memory = upd b.memory p page; regions = regions }))
  puts_stand inside page here regions tables shared next row unminded in_order counts more =
      space_moves h n b at sp (record b { memory = upd b.memory p page; regions = regions }) shared next
      (plain_unborne (place_of (slot_at s n)) (unminded_plain (place_of (slot_at s n)) unminded)) others_seen mine
      (rows_same (put (logical s.spaces s.environments.slots) n p v) (logical sp s.environments.slots)
      (counts_put (unminded_plain (place_of (slot_at s n)) unminded)) (rows_put (rows_stand h) row)) in_order counts ends
      (locks_beside n p v (programs_no_pipe p inside) (λ m. refl) (counts_put (unminded_plain (place_of (slot_at s n)) unminded)) bytes_elsewhere h.locks)
      more (λ fd name names_it. let was = h.old n fd name b at names_it in omega (arith, was, more))
    where
      -- it is not the page of a pipe
      beside_pipe : (fd : ℕ) → fd < DESCRIPTORS → pipe_page fd ≢ p
      beside_pipe fd below same =
          let one : is_pipe_page (pipe_page fd) ≡ true = grind (arith, nat_tests) in
          let contradiction : true ≡ false = sym one ∙ ap is_pipe_page same ∙ programs_no_pipe p inside in cc

      ends : EndsStand after a.objects (place_of (slot_at s n)) (rows_of sp dir) (record b { memory = upd b.memory p page; regions = regions })
      ends =
          ends_moved (same_places refl) (λ fd. refl) (λ fd name is. refl)
          (λ fd below. row_kept dir (pipe_page fd) (λ same too. beside_pipe fd below too))
          (λ fd x below is. puts.named_so dir (pipe_page fd) x is (pipe_shared (born_at h n b at).library fd x below is)) (ends_at h n b at)

      mine : StandsForBorn after sp (slot_at s n) (record b { memory = upd b.memory p page; regions = regions })
      mine = page_put names after s.spaces sp (slot_at s n) b p page regions (born_at h n b at) inside here
          (λ q ne. shown_same names after s.spaces sp dir q (row_kept dir q (λ same too. ne too))
          (λ x hx own_page. puts.bytes dir q x (λ same too. ne too) hx) (λ x hx shared_page. puts.named_so dir q x hx shared_page))
          (library_put (place_of (slot_at s n)) (slot_at s n).extra (rows_of s.spaces dir) (rows_of sp dir) p inside
          (λ q ne. row_kept dir q (λ same too. ne too)) (born_at h n b at).library)
          tables (kept_unminded (place_of (slot_at s n)) (view_of s.spaces dir) (view_of sp dir) unminded)
          (turn_unpiped (view_of s.spaces dir) (view_of sp dir) (slot_at s n) (place_of (slot_at s n)) (slot_at s n).status (slot_at s n).runs
          (unminded_unpiped (place_of (slot_at s n)) unminded))

-- ---- a page is put

-- Tables that there were, with that of one more page.
pub tables_placed : {s t : SpacesState} {d p : ℕ} {e : Entry} → Placed s t d p e → (regions : ℕ → Bool) → HasTables s d regions →
    HasTables t d (upd regions (p / NPTENTRIES) true)
tables_placed {s = s} {t = t} {d = d} {p = p} placed regions had = record {
  have = λ r is. table_is r ∙ by_region r (r == p / NPTENTRIES) refl (sym (upd-true regions (p / NPTENTRIES) r) ∙ is);
  only = λ r is. ap (λ (c : Bool). c || is_library_region r) (upd-true regions (p / NPTENTRIES) r)
      ∙ from_table r (r == p / NPTENTRIES) (sym (table_is r) ∙ is);
}
  where
    here : (d == d) ≡ true
    here = grind (arith, nat_tests)

    table_is : (r : ℕ) → is_some (t.regions d r) ≡ ((r == p / NPTENTRIES) || is_some (s.regions d r))
    table_is r = placed.regions d r ∙ ap (λ (c : Bool). (c && (r == p / NPTENTRIES)) || is_some (s.regions d r)) here

    by_region : (r : ℕ) (c : Bool) → (r == p / NPTENTRIES) ≡ c → (c || regions r) ≡ true → ((r == p / NPTENTRIES) || is_some (s.regions d r)) ≡ true
    by_region r true test is = ap (λ (c : Bool). c || is_some (s.regions d r)) test
    by_region r false test is = ap (λ (c : Bool). c || is_some (s.regions d r)) test ∙ had.have r is

    from_table : (r : ℕ) (c : Bool) → (c || is_some (s.regions d r)) ≡ true → ((c || regions r) || is_library_region r) ≡ true
    from_table r true is = refl
    from_table r false is = had.only r is

-- tables as the environment has them
pub tables_of : {names : Names} {s : SpacesState} {k : Slot} {b : Born} → StandsForBorn names s k b → HasTables s k.directory b.regions
tables_of h = record { have = h.regions_have; only = h.regions_only }

pub other_regions : {s t : SpacesState} {d p : ℕ} {e : Entry} → Placed s t d p e → (q r : ℕ) → q ≢ d →
    is_some (t.regions q r) ≡ is_some (s.regions q r)
other_regions {s = s} {t = t} {d = d} {p = p} placed q r ne =
    let there : (q == d) ≡ false = grind (arith, nat_tests) in
    placed.regions q r ∙ ap (λ (c : Bool). (c && (r == p / NPTENTRIES)) || is_some (s.regions q r)) there

-- the entry that was put
pub row_placed : {s t : SpacesState} {d p : ℕ} {e : Entry} → Placed s t d p e → rows_of t d p ≡ Some e
row_placed {s = s} {d = d} {p = p} {e = e} placed = ap (λ (rows : Rows). rows d p) placed.rows ∙ put-at (rows_of s) d p (Some e)

-- what stands elsewhere stood there before
pub row_elsewhere : {s t : SpacesState} {d p : ℕ} {e : Entry} → Placed s t d p e → (q r : ℕ) → Elsewhere q r d p →
    rows_of t q r ≡ rows_of s q r
row_elsewhere {s = s} {d = d} {p = p} {e = e} placed q r ne =
    ap (λ (rows : Rows). rows q r) placed.rows ∙ put-other (rows_of s) d p (Some e) q r ne

-- ---- a new page

module _ {names : Names} {s : KernelState} {a : AbstractState} {sp : SpacesState} (h : StandsFor names s a) (n : ℕ) (b : Born)
    (at : a.slots n ≡ born b) (va perm : ℕ) (inside : is_programs (page_number va) ≡ true)
    (made : Made s.spaces sp (slot_at s n).directory (page_number va) perm)
    (is_user : IsUsers perm) (unminded : minds_page (place_of (slot_at s n)) ≡ false)
    (in_order : IsInOrder (with_spaces s sp)) (last : s.last ≡ Some n) where
  abbrev d : ℕ
  d = (slot_at s n).directory

  abbrev p : ℕ
  p = page_number va

  abbrev new_entry : Entry
  new_entry = record { frame = made.frame; perm = perm }

  -- what stood elsewhere keeps its bytes
  old_bytes : (q r : ℕ) (x : Entry) → Elsewhere q r d p → rows_of s.spaces q r ≡ Some x → sp.pages x.frame ≡ s.spaces.pages x.frame
  old_bytes q r x ne hx = made.placed.bytes q r x (row_elsewhere made.placed q r ne ∙ hx) (made.new q r x hx)

  made_puts : (after : Names) → ((q r : ℕ) (x : Entry) → rows_of s.spaces q r ≡ Some x → is_shared x.perm ≡ true →
      after.name x.frame ≡ names.name x.frame) → Puts names after s.spaces sp d p (Some new_entry)
  made_puts after named_so =
      record { rows = made.placed.rows; bytes = old_bytes; named_so = named_so; regions = other_regions made.placed }

  made_row : (after : Names) (named_so : (q r : ℕ) (x : Entry) → rows_of s.spaces q r ≡ Some x → is_shared x.perm ≡ true →
      after.name x.frame ≡ names.name x.frame) (shared : ℕ → List ℕ) (next : ℕ) →
      (is_shared perm ≡ true → IsNamed after sp.pages shared (things_in s a) next p made.frame) →
      ((q r : ℕ) (x : Entry) → rows_of s.spaces q r ≡ Some x → sp.pages x.frame ≡ s.spaces.pages x.frame →
      IsNamed names s.spaces.pages a.shared (things_in s a) a.next_name r x.frame → IsNamed after sp.pages shared (things_in s a) next r x.frame) →
      PutsRow names after s.spaces.pages a.shared sp.pages shared (things_in s a) a.next_name next (logical s.spaces s.environments.slots) n p
      (Some new_entry)
  made_row after named_so shared next new_named old_named = record {
    bytes = bytes_elsewhere h n b at (made_puts after named_so);
    agree = λ m q x e ne hx is same.
        let found = elsewhere h n b at (made_puts after named_so) m q x ne hx in
        absurd (made.new _ q found.1.entry found.1.stands (found.1.frame ∙ same ∙ ap (λ (y : Entry). y.frame) (sym (same_Some new_entry e is))));
    user = λ e is. subst (λ (y : Entry). IsUsers y.perm) (same_Some new_entry e is) is_user;
    whole = λ e is. subst (λ (y : Entry). IsPage (sp.pages y.frame)) (same_Some new_entry e is)
        (subst (λ (l : List ℕ). IsPage l) (sym made.zero) zero_page_whole);
    beside = λ q e y is there same. absurd (made.new _ q y there (sym same ∙ ap (λ (z : Entry). z.frame) (sym (same_Some new_entry e is))));
    named_new = λ e is. subst (λ (y : Entry). is_shared y.perm ≡ true → IsNamed after sp.pages shared (things_in s a) next p y.frame)
        (same_Some new_entry e is) new_named;
    named_old = λ m q x ne hx shared_page was.
        let found = elsewhere h n b at (made_puts after named_so) m q x ne hx in
        let y = found.1.entry in
        subst (λ (f : ℕ). IsNamed after sp.pages shared (things_in s a) next q f) found.1.frame
        (old_named _ q y found.1.stands (old_bytes _ q y found.0 found.1.stands)
        (subst (λ (f : ℕ). IsNamed names s.spaces.pages a.shared (things_in s a) a.next_name q f) (sym found.1.frame) was));
  }

  tables_made : HasTables sp d (upd b.regions (p / NPTENTRIES) true)
  tables_made = tables_placed made.placed b.regions (tables_of (born_at h n b at))

  pub made_own_stands : is_shared perm ≡ false → is_cow perm ≡ false →
      StandsFor names (with_spaces s sp) (with_born a n (with_page b va (own zero_page (has_write perm))))
  made_own_stands own_page no_copy =
      puts_stand h n b at (made_puts names (λ q r x hx shared_page. refl)) inside (Some (own zero_page (has_write perm)))
      (sym (seen_own names sp d p new_entry inside (row_placed made.placed) own_page
      ∙ ap (λ (bytes : List ℕ). Some (own bytes (may_write perm))) made.zero
      ∙ ap (λ (w : Bool). Some (own zero_page w)) writes))
      (upd b.regions (p / NPTENTRIES) true) tables_made a.shared a.next_name
      (made_row names (λ q r x hx shared_page. refl) a.shared a.next_name
      (λ shared_page. absurd (let contradiction : true ≡ false = sym shared_page ∙ own_page in cc))
      (λ q r x hx bytes was. named_bytes (sym bytes) was)) unminded in_order (others_counts h n last sp) (omega arith)
    where
      or_false : (w : Bool) → (w || false) ≡ w
      or_false true = refl
      or_false false = refl

      writes : may_write perm ≡ has_write perm
      writes = ap (λ (c : Bool). has_write perm || c) no_copy ∙ or_false (has_write perm)

  -- the new page's frame has the next name, which is a page's
  abbrev pub names_after : Names
  names_after = record {
    name = upd names.name made.frame a.next_name;
    frame = upd names.frame a.next_name made.frame;
    is_object = upd names.is_object a.next_name false;
    is_pipe = upd names.is_pipe a.next_name false;
  }

  made_shared : is_shared perm ≡ true →
      StandsFor names_after (with_spaces s sp)
      (with_born (record a { shared = upd a.shared a.next_name zero_page; next_name = a.next_name + 1 }) n
      (with_page b va (named a.next_name (has_write perm))))
  made_shared shared_page =
      puts_stand h n b at (made_puts names_after names_kept) inside
      (Some (named a.next_name (has_write perm)))
      (sym (seen_named names_after sp d p new_entry inside (row_placed made.placed) shared_page
      ∙ ap (λ (m : ℕ). Some (named m (has_write perm))) (upd-at names.name made.frame a.next_name)))
      (upd b.regions (p / NPTENTRIES) true) tables_made (upd a.shared a.next_name zero_page) (a.next_name + 1)
      (made_row names_after names_kept (upd a.shared a.next_name zero_page) (a.next_name + 1) (λ is. new_named)
      (λ q r x hx bytes was. old_named r x.frame (made.new q r x hx) bytes was)) unminded in_order (others_counts h n last sp)
      (omega arith)
    where
      names_kept : (q r : ℕ) (x : Entry) → rows_of s.spaces q r ≡ Some x → is_shared x.perm ≡ true →
          names_after.name x.frame ≡ names.name x.frame
      names_kept q r x hx shared_too = upd-other names.name made.frame a.next_name x.frame (made.new q r x hx)

      old_named : (r f : ℕ) → f ≢ made.frame → sp.pages f ≡ s.spaces.pages f →
          IsNamed names s.spaces.pages a.shared (things_in s a) a.next_name r f →
          IsNamed names_after sp.pages (upd a.shared a.next_name zero_page) (things_in s a) (a.next_name + 1) r f
      old_named r f ne bytes was =
          let name = names.name f in
          let other : name ≢ a.next_name = (let lower = was.old in omega arith) in
          let object : upd names.is_object a.next_name false name ≡ names.is_object name = upd-other names.is_object a.next_name false name other in
          let page : upd a.shared a.next_name zero_page name ≡ a.shared name = upd-other a.shared a.next_name zero_page name other in
          let piped : upd names.is_pipe a.next_name false name ≡ names.is_pipe name = upd-other names.is_pipe a.next_name false name other in
          let here : ShowsBy (things_in s a) name f (names.is_object name) (names.is_pipe name) (a.shared name) (sp.pages f) =
          (named_bytes {after = sp.pages} (sym bytes) was).shows in
          let facts = subst (λ (m : ℕ). (names_after.frame m ≡ f) × (names_after.is_object m ≡ is_of_descriptor r)
          × (names_after.is_pipe m ≡ is_pipe_page r)
          × ShowsBy (things_in s a) m f (names_after.is_object m) (names_after.is_pipe m) (upd a.shared a.next_name zero_page m) (sp.pages f)
          × (m < a.next_name + 1))
          (sym (upd-other names.name made.frame a.next_name f ne)) (
            upd-other names.frame a.next_name made.frame name other ∙ was.home,
            object ∙ was.kind,
            piped ∙ was.of_pipe,
            subst (λ (c : Bool). ShowsBy (things_in s a) name f c (upd names.is_pipe a.next_name false name) (upd a.shared a.next_name zero_page name)
                (sp.pages f)) (sym object)
                (subst (λ (c : Bool). ShowsBy (things_in s a) name f (names.is_object name) c (upd a.shared a.next_name zero_page name) (sp.pages f))
                (sym piped)
                (subst (λ (l : List ℕ). ShowsBy (things_in s a) name f (names.is_object name) (names.is_pipe name) l (sp.pages f)) (sym page) here)),
            (let lower = was.old in omega arith),
          ) in
          record { home = facts.0; kind = facts.1; of_pipe = facts.2; shows = facts.3; old = facts.4 }

      new_named : IsNamed names_after sp.pages (upd a.shared a.next_name zero_page) (things_in s a) (a.next_name + 1) p made.frame
      new_named =
          let name_is : upd names.name made.frame a.next_name made.frame ≡ a.next_name = upd-at names.name made.frame a.next_name in
          let object : upd names.is_object a.next_name false a.next_name ≡ false = upd-at names.is_object a.next_name false in
          let piped : upd names.is_pipe a.next_name false a.next_name ≡ false = upd-at names.is_pipe a.next_name false in
          record {
            home = ap (λ (m : ℕ). upd names.frame a.next_name made.frame m) name_is ∙ upd-at names.frame a.next_name made.frame;
            kind = ap (λ (m : ℕ). upd names.is_object a.next_name false m) name_is ∙ object ∙ sym (programs_no_descriptor p inside);
            of_pipe = ap (λ (m : ℕ). upd names.is_pipe a.next_name false m) name_is ∙ piped ∙ sym (programs_no_pipe p inside);
            shows = subst (λ (m : ℕ). ShowsBy (things_in s a) m made.frame (upd names.is_object a.next_name false m) (upd names.is_pipe a.next_name false m)
                (upd a.shared a.next_name zero_page m) (sp.pages made.frame)) (sym name_is)
                (subst (λ (c : Bool). ShowsBy (things_in s a) a.next_name made.frame c (upd names.is_pipe a.next_name false a.next_name)
                (upd a.shared a.next_name zero_page a.next_name)
                (sp.pages made.frame)) (sym object) (upd-at a.shared a.next_name zero_page ∙ sym made.zero));
            old = subst (λ (m : ℕ). m < a.next_name + 1) (sym name_is) (omega arith);
          }

  pub made_shared_stands : is_shared perm ≡ true → (after : Names) ×
      StandsFor after (with_spaces s sp)
      (with_born (record a { shared = upd a.shared a.next_name zero_page; next_name = a.next_name + 1 }) n
      (with_page b va (named a.next_name (has_write perm))))
  made_shared_stands shared_page = (names_after, made_shared shared_page)

-- ---- a page that stands somewhere

-- what may pass and is no shared page may not be written, and is not copied
passing : (is_shared_page writes copied : Bool) → (is_shared_page || not (writes || copied)) ≡ true → is_shared_page ≡ false → writes ≡ false
passing true writes copied passes own_page = absurd (let contradiction : true ≡ false = own_page in cc)
passing false true copied passes own_page = absurd (let contradiction : false ≡ true = passes in cc)
passing false false copied passes own_page = refl

module _ {names : Names} {s : KernelState} {a : AbstractState} {sp : SpacesState} (h : StandsFor names s a) (n : ℕ) (b : Born)
    (at : a.slots n ≡ born b) (from : ℕ) (from_inside : is_programs (page_number from) ≡ true) (x : Entry) (page : Page)
    (hx : rows_of s.spaces (slot_at s n).directory (page_number from) ≡ Some x)
    (passes : (is_shared x.perm || not (may_write x.perm)) ≡ true) (stands : page_at b from ≡ Some page)
    (unborne : borne_in (place_of (slot_at s n)) ≡ None)
    (m : ℕ) (c : Born) (target_at : a.slots m ≡ born c) (va : ℕ) (inside : is_programs (page_number va) ≡ true)
    (given : Given s.spaces sp (slot_at s m).directory (page_number va) x)
    (unminded : minds_page (place_of (slot_at s m)) ≡ false) (in_order : IsInOrder (with_spaces s sp))
    (counts : (q : ℕ) → q ≢ m → CountsKept s.spaces sp (slot_at s q)) where
  abbrev from_space : ℕ
  from_space = (slot_at s n).directory

  abbrev to_space : ℕ
  to_space = (slot_at s m).directory

  -- the sender's entry counts
  counts_here : logical s.spaces s.environments.slots n (page_number from) ≡ Some x
  counts_here =
      logical_beside s.spaces s.environments.slots n (clients_live h n b at) (page_number from) (programs_beside (page_number from) from_inside).0
      (unborne_beside (place_of (slot_at s n)) (page_number from) unborne (programs_no_descriptor (page_number from) from_inside))
      ∙ hx

  given_bytes : (q r : ℕ) (y : Entry) → Elsewhere q r to_space (page_number va) → rows_of s.spaces q r ≡ Some y →
      sp.pages y.frame ≡ s.spaces.pages y.frame
  given_bytes q r y ne hy = by_frame (y.frame == x.frame) refl
    where
      by_frame : (t : Bool) → (y.frame == x.frame) ≡ t → sp.pages y.frame ≡ s.spaces.pages y.frame
      by_frame true test =
          let same : x.frame ≡ y.frame = grind (arith, nat_tests) in
          subst (λ (f : ℕ). sp.pages f ≡ s.spaces.pages f) same given.same
      by_frame false test =
          let other : y.frame ≢ x.frame = grind (arith, nat_tests) in
          given.placed.bytes q r y (row_elsewhere given.placed q r ne ∙ hy) other

  -- it agrees with every entry of its frame, itself among them
  given_agrees : (q r : ℕ) (y : Entry) → logical s.spaces s.environments.slots q r ≡ Some y → y.frame ≡ x.frame → Agree y.perm x.perm
  given_agrees q r y hy same = by_place (place_cases q r n (page_number from))
    where
      by_place : ((q ≡ n) × (r ≡ page_number from)) ⊎ Elsewhere q r n (page_number from) → Agree y.perm x.perm
      by_place (inl here) =
          subst (λ (z : Entry). Agree z.perm x.perm)
          (sym (same_entry (logical s.spaces s.environments.slots) q r n (page_number from) y x here.0 here.1 hy counts_here))
          (record {
            shared = refl;
            read_only = λ own_page. let kept = passing (is_shared x.perm) (has_write x.perm) (is_cow x.perm) passes own_page in (kept, kept);
          })
      by_place (inr there) = h.apart q r n (page_number from) y x there hy counts_here same

  given_puts : Puts names names s.spaces sp to_space (page_number va) (Some x)
  given_puts = record {
    rows = given.placed.rows;
    bytes = given_bytes;
    named_so = λ q r y hy shared_page. refl;
    regions = other_regions given.placed;
  }

  given_row : PutsRow names names s.spaces.pages a.shared sp.pages a.shared (things_in s a) a.next_name a.next_name
      (logical s.spaces s.environments.slots) m (page_number va) (Some x)
  given_row = record {
    bytes = bytes_elsewhere h m c target_at given_puts;
    agree = λ q r y e ne hy is same.
        let same_one : x ≡ e = same_Some x e is in
        subst (λ (z : Entry). Agree y.perm z.perm) same_one
        (given_agrees q r y hy (same ∙ ap (λ (z : Entry). z.frame) (sym same_one)));
    user = λ e is. subst (λ (z : Entry). IsUsers z.perm) (same_Some x e is) (h.users n (page_number from) x counts_here);
    whole = λ e is. subst (λ (z : Entry). IsPage (sp.pages z.frame)) (same_Some x e is)
        (subst (λ (l : List ℕ). IsPage l) (sym given.same) (h.whole n (page_number from) x counts_here));
    beside = λ q e y is there same.
        absurd (programs_frame h n (page_number from) q x y from_inside counts_here there (ap (λ (z : Entry). z.frame) (same_Some x e is) ∙ same));
    named_new = λ e is.
        subst (λ (y : Entry). is_shared y.perm ≡ true → IsNamed names sp.pages a.shared (things_in s a) a.next_name (page_number va) y.frame)
        (same_Some x e is)
        (λ shared_page. named_bytes (sym given.same)
        (named_at (programs_no_descriptor (page_number va) inside ∙ sym (programs_no_descriptor (page_number from) from_inside))
        (programs_no_pipe (page_number va) inside ∙ sym (programs_no_pipe (page_number from) from_inside))
        (h.named n (page_number from) x counts_here shared_page)));
    named_old = λ q r y ne hy shared_page was. named_bytes (sym (bytes_elsewhere h m c target_at given_puts q r y ne hy)) was;
  }

  given_seen : Some page ≡ page_seen names sp to_space (page_number va)
  given_seen =
      let after : page_seen names sp to_space (page_number va) ≡ Some (page_by names sp.pages x) =
      seen_by names sp to_space (page_number va) x inside (row_placed given.placed) in
      let before : b.memory (page_number from) ≡ Some (page_by names s.spaces.pages x) =
      (born_at h n b at).memory (page_number from) ∙ seen_by names s.spaces from_space (page_number from) x from_inside hx in
      let alike : page_by names sp.pages x ≡ page_by names s.spaces.pages x =
      page_alike names names s.spaces.pages sp.pages x (λ own_page. given.same) (λ shared_page. refl) in
      sym stands ∙ before ∙ ap (λ (z : Page). Some z) (sym alike) ∙ sym after

  pub given_stands : StandsFor names (with_spaces s sp) (with_born a m (with_page c va page))
  given_stands =
      puts_stand h m c target_at given_puts inside (Some page) given_seen (upd c.regions (page_number va / NPTENTRIES) true)
      (tables_placed given.placed c.regions (tables_of (born_at h m c target_at))) a.shared a.next_name given_row unminded in_order counts
      (omega arith)

-- ---- a page is removed

module _ {names : Names} {s : KernelState} {a : AbstractState} {sp : SpacesState} (h : StandsFor names s a) (n : ℕ) (b : Born)
    (at : a.slots n ≡ born b) (va : ℕ) (inside : is_programs (page_number va) ≡ true)
    (removed : Removed s.spaces sp (slot_at s n).directory (page_number va))
    (unminded : minds_page (place_of (slot_at s n)) ≡ false) (in_order : IsInOrder (with_spaces s sp)) (last : s.last ≡ Some n) where
  abbrev space : ℕ
  space = (slot_at s n).directory

  abbrev number : ℕ
  number = page_number va

  kept_bytes : (q r : ℕ) (x : Entry) → Elsewhere q r space number → rows_of s.spaces q r ≡ Some x → sp.pages x.frame ≡ s.spaces.pages x.frame
  kept_bytes q r x ne hx =
      removed.bytes q r x (ap (λ (rows : Rows). rows q r) removed.rows ∙ put-other (rows_of s.spaces) space number None q r ne ∙ hx)

  removed_puts : Puts names names s.spaces sp space number None
  removed_puts = record {
    rows = removed.rows;
    bytes = kept_bytes;
    named_so = λ q r x hx shared_page. refl;
    regions = λ q r ne. removed.regions q r;
  }

  removed_row : PutsRow names names s.spaces.pages a.shared sp.pages a.shared (things_in s a) a.next_name a.next_name
      (logical s.spaces s.environments.slots) n number None
  removed_row = record {
    bytes = bytes_elsewhere h n b at removed_puts;
    agree = λ m q x e ne hx is same. absurd (none-some e is);
    user = λ e is. absurd (none-some e is);
    whole = λ e is. absurd (none-some e is);
    beside = λ q e y is there. absurd (none-some e is);
    named_new = λ e is. absurd (none-some e is);
    named_old = λ m q x ne hx shared_page was. named_bytes (sym (bytes_elsewhere h n b at removed_puts m q x ne hx)) was;
  }

  pub removed_stands : StandsFor names (with_spaces s sp) (with_born a n (without_page b va))
  removed_stands =
      puts_stand h n b at removed_puts inside None
      (sym (seen_none names sp space number (ap (λ (rows : Rows). rows space number) removed.rows ∙ put-at (rows_of s.spaces) space number None)))
      b.regions (record {
        have = λ r is. removed.regions space r ∙ (born_at h n b at).regions_have r is;
        only = λ r is. (born_at h n b at).regions_only r (sym (removed.regions space r) ∙ is);
      }) a.shared a.next_name removed_row unminded in_order (others_counts h n last sp) (omega arith)
