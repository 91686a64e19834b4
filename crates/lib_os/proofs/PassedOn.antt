-- Fork maps a page of the parent into the child: what the call comes to, and that the kernel's state goes on standing for the same abstract
-- one. A shared page, and one that may not be written, is mapped as it is; one of the parent's own that may be written is copied when the
-- child writes it, and counts so for the parent too.
use Rattle.std.proofs.Common.{◌≡◌, ◌≢◌, ◌∙◌, ◌⊎◌, inl, inr, ◌==◌, ◌%◌, ◌/◌, ◌*◌, ◌+◌, ◌≤◌, ◌&&◌, ◌||◌, ℕ, Bool, true, false, not, List, [], ◌∷◌}
use Rattle.std.proofs.Common.{Option, Some, None, refl, sym, ap, subst, arith, if◌then◌else◌}
use Rattle.std.specs.Prelude.{is_some}
use Rattle.std.specs.Option.{option_map}
use Rattle.std.proofs.lemmas.Bool.Decides.{nat_tests}
use Rattle.std.proofs.lemmas.Option.{none-some, same_Some}
use Rattle.jos_base.proofs.Below.{some_below-at}
use Rattle.jos_base.specs.declared.numbers.TheConstants.{FDTABLE, FIRST_ENV_ID, NENV, NPTENTRIES, SYS_PAGE_MAP, USTACKTOP, UTEMP}
use Rattle.jos_base.specs.declared.registers.Regs.{Regs}
use Rattle.jos_base.specs.Environments.{Environments, Slot, found, is_live as is_live_slot}
use Rattle.jos_base.specs.KernelState.{KernelState, slot_at, with_extra, with_registers, with_spaces}
use Rattle.jos_base.specs.Reach.{Entry}
use Rattle.jos_base.specs.SpacesState.{SpacesState, inserted, put}
use Rattle.jos_base.specs.SystemCalls.{call_of, answered_with, entry_at, inserted_at, page_map_of, shared_entry}
use Rattle.jos_base.specs.SystemCalls.{is_page_address, is_page_perm, has_write}
use Rattle.jos_base.specs.Words.{page_number, upd}
use Rattle.lib_os.specs.declared.numbers.TheConstants.{REQUEST, SERVICE_FORK}
use Rattle.lib_os.specs.declared.place.Place.{Place}
use Rattle.lib_os.specs.declared.place.Place.TheVariants as place
use Rattle.lib_os.specs.declared.place.Step.{Step}
use Rattle.lib_os.specs.declared.place.Step.TheVariants as step
use Rattle.lib_os.specs.declared.service.Service.TheVariants as service
use Rattle.lib_os.specs.AbstractState.{AbstractState, AbstractSlot, Page, own, unborn, serving, is_live}
use Rattle.lib_os.specs.AbstractMemory.{has_page_in}
use Rattle.lib_os.specs.DescriptorPages.{Things, lasting_words}
use Rattle.lib_os.specs.InOrder.{IsInOrder}
use Rattle.lib_os.specs.LibraryPages.{is_library_region, region_index}
use Rattle.lib_os.specs.Places.{place_in_words, place_of, words_at}
use Rattle.lib_os.specs.Rows.{Agree, EntryRow, IsNamed, IsPage, IsUsers, MayBeHad, Names, Rows, as_cow, counted, cow_perm, is_clients}
use Rattle.lib_os.specs.Rows.{is_cow, is_of_descriptor, is_programs, is_shared, lasting, logical, logical_by, may_write, page_by, page_seen, rows_of}
use Rattle.lib_os.specs.StandsFor.{StandsFor, StandsAtStep, IsBearing, IsMapping, borne_at, things_in, view_of}
use Rattle.lib_os.specs.UserCalls.{asking, called_by, system}
use Rattle.lib_os.proofs.Bearing.{IsBearer, IsChild, borne_calm, parent_not_first, child_not_first}
use Rattle.lib_os.proofs.Calls.{caller_is, made_is, made_step, system_is}
use Rattle.lib_os.proofs.Effects.{Given}
use Rattle.lib_os.proofs.EntriesStand.{PutsRow, RowsStand, put_is, rows_bytes, rows_put, rows_same, rows_stand}
use Rattle.lib_os.proofs.EntriesStand.{same_entry, seen_at, seen_by, seen_own}
use Rattle.lib_os.proofs.EntryWords.{row_entry}
use Rattle.lib_os.proofs.GoesDown.{HasFrom, bearing_moves, goes_below, has_from, is_child, moved, moved_place, own_moved, step_below, there_handed}
use Rattle.lib_os.proofs.GoingOn.{in_with_words}
use Rattle.lib_os.proofs.Logical.{clients_so, logical_alike, logical_some}
use Rattle.lib_os.proofs.PagesStand.{other_regions, row_elsewhere, row_placed}
use Rattle.lib_os.proofs.Placing.{inserted_given}
use Rattle.lib_os.proofs.Puts.{put-found}
use Rattle.lib_os.proofs.Remapping.{lasting_write}
use Rattle.lib_os.proofs.Slots.{slot_kept}
use Rattle.lib_os.proofs.SlotsStand.{SeenAlike, born_live, born_stands, counts_unpiped, is_piped, live_stands, page_alike}
use Rattle.lib_os.proofs.StatesStand.{others_counts}
use Rattle.jos_base.proofs.Maps.{upd-at, upd-other}
use Rattle.jos_base.proofs.Puts.{Elsewhere, place_cases, put-at, put-other}

-- ---- the call

-- the caller itself, and a child of its own
own_found : (e : Environments) (caller : ℕ) → found e 0 caller true ≡ Some caller
unfolding found
own_found e caller = refl

pub child_found : (e : Environments) (id caller : ℕ) → id ≢ 0 → is_live_slot (e.slots (id % NENV)) ≡ true → (e.slots (id % NENV)).id ≡ id →
    (e.slots (id % NENV)).parent ≡ (e.slots caller).id → found e id caller true ≡ Some (id % NENV)
unfolding found
child_found e id caller other lives same parent =
    let first : (id == 0) ≡ false = grind (arith, nat_tests) in
    let named : ((e.slots (id % NENV)).id == id) ≡ true = grind (arith, nat_tests) in
    let owns : ((e.slots (id % NENV)).parent == (e.slots caller).id) ≡ true = grind (arith, nat_tests) in
    rw (first, lives, named, owns) (by_test (id % NENV == caller))
  where
    by_test : (t : Bool) → (if not (t || true) then None else Some (id % NENV)) ≡ Some (id % NENV)
    by_test true = refl
    by_test false = refl

-- page_map(0, from, id, to, perm), by the entry that is given on, where the id is that of a child of the caller's own
module _ (s : KernelState) (n id : ℕ) (live : is_live_slot (slot_at s n) ≡ true) (apart : id % NENV ≢ n) (some : id ≢ 0)
    (lives : is_live_slot (slot_at s (id % NENV)) ≡ true) (named : (slot_at s (id % NENV)).id ≡ id)
    (parent : (slot_at s (id % NENV)).parent ≡ (slot_at s n).id) where
  child_kept : (q : Regs) → slot_at (with_registers s n q) (id % NENV) ≡ slot_at s (id % NENV)
  child_kept q = slot_kept s n (record (slot_at s n) { registers = q }) (id % NENV) apart

  pub child_found_asked : (q : Regs) → found (with_registers s n q).environments id n true ≡ Some (id % NENV)
  child_found_asked q =
      let there = child_kept q in
      child_found (with_registers s n q).environments id n some (ap (λ (x : Slot). is_live_slot x) there ∙ lives)
      (ap (λ (x : Slot). x.id) there ∙ named)
      (ap (λ (x : Slot). x.parent) there ∙ parent ∙ sym (ap (λ (x : Slot). x.id) (caller_is s n q)))

  pub page_map_to_child : (from to perm : ℕ) (e : Entry) → is_page_address from ≡ true → is_page_address to ≡ true →
      shared_entry (entry_at s n from) perm ≡ Some e →
      system s n SYS_PAGE_MAP (0 ∷ from ∷ id ∷ to ∷ perm ∷ []) ≡ made_step s (inserted_at s (id % NENV) to e)
  unfolding call_of
  page_map_to_child from to perm e from_address to_address is =
      let args : List ℕ = 0 ∷ from ∷ id ∷ to ∷ perm ∷ [] in
      let q : Regs = asking (slot_at s n).registers SYS_PAGE_MAP args in
      let k : KernelState = with_registers s n q in
      let gives : shared_entry (entry_at k n from) perm ≡ Some e =
      (λ i. shared_entry (s.spaces.entries (caller_is s n q i).directory (page_number from)) perm) ∙ is in
      system_is s n SYS_PAGE_MAP args (page_map_of k n (found k.environments 0 n true) from (found k.environments id n true) to perm) refl refl
      ∙ ap (λ (o : Option ℕ). called_by n false (slot_at s n).registers (page_map_of k n o from (found k.environments id n true) to perm))
      (own_found k.environments n)
      ∙ ap (λ (o : Option ℕ). called_by n false (slot_at s n).registers (page_map_of k n (Some n) from o to perm)) (child_found_asked q)
      ∙ ap (called_by n false (slot_at s n).registers) (done k from_address to_address gives)
      ∙ made_is s n live q (inserted_at k (id % NENV) to e)
      ∙ (λ i. made_step s (inserted s.spaces (child_kept q i).directory (page_number to) e))
    where
      done : (k : KernelState) → is_page_address from ≡ true → is_page_address to ≡ true → shared_entry (entry_at k n from) perm ≡ Some e →
          page_map_of k n (Some n) from (Some (id % NENV)) to perm ≡ answered_with k n (inserted_at k (id % NENV) to e)
      done k first second third = rw (first, second, third) refl

-- an entry gives its page on with bits that write only where it is written
pub given_with : (e : Entry) (perm : ℕ) → is_page_perm perm ≡ true → (has_write perm ≡ true → has_write e.perm ≡ true) →
    shared_entry (Some e) perm ≡ Some (record { frame = e.frame; perm = perm })
given_with e perm permitted writes = rw permitted (by_test (has_write perm) writes)
  where
    given : Entry
    given = record { frame = e.frame; perm = perm }

    by_test : (c : Bool) → (c ≡ true → has_write e.perm ≡ true) → (if c && not (has_write e.perm) then None else Some given) ≡ Some given
    by_test true may = let it = may refl in rw it refl
    by_test false may = refl

-- ---- entries as they count

-- where its entries count by its place, in a slot but the first
counts_at : (sp : SpacesState) (slots : ℕ → Slot) (j : ℕ) (k : Slot) (at : Place) → slots j ≡ k → 0 ≢ j → is_live_slot k ≡ true →
    place_of k ≡ at → (p : ℕ) →
    logical sp slots j p ≡ counted at (rows_of sp k.directory) p
counts_at sp slots j k at is not_first live stands p =
    ap (λ (x : Slot). logical_by (is_clients j x) (counted (place_of x) (rows_of sp x.directory)) p) is
    ∙ ap (λ (c : Bool). logical_by c (counted (place_of k) (rows_of sp k.directory)) p) (clients_so j k not_first live)
    ∙ ap (λ (q : Place). counted q (rows_of sp k.directory) p) stands

guest_counts : (row : EntryRow) (p : ℕ) → counted place.Guest row p ≡ row p
unfolding counted
guest_counts row p = refl

mapping_counts : (id page perm : ℕ) (row : EntryRow) (p : ℕ) → counted (place.InService service.Fork (step.MapChild id page perm)) row p ≡ row p
unfolding counted
mapping_counts id page perm row p = refl

remapped_counts : (id page : ℕ) (row : EntryRow) (p : ℕ) →
    counted (place.InService service.Fork (step.Remap id page)) row p ≡ (if p == page then option_map as_cow (row p) else row p)
unfolding counted
remapped_counts id page row p = refl

-- ---- the bits of the page

no_other : (t u : Bool) → (t || u) ≡ true → (u ≡ true → ⊥) → t ≡ true
no_other true u is other = refl
no_other false u is other = absurd (other is)

both_off : (t u : Bool) → (t || not u) ≡ false → (t ≡ false) × (u ≡ true)
both_off true u is = absurd (let contradiction : true ≡ false = is in cc)
both_off false true is = (refl, refl)
both_off false false is = absurd (let contradiction : true ≡ false = is in cc)

-- what is no shared page and may not be written can't be written at all
never_written : (t writes copied : Bool) → (t || not (writes || copied)) ≡ true → t ≡ false → writes ≡ false
never_written true writes copied is own_page = absurd (let contradiction : true ≡ false = own_page in cc)
never_written false true copied is own_page = absurd (let contradiction : false ≡ true = is in cc)
never_written false false copied is own_page = refl

-- a page that is mapped as it is is none that is copied when it is written
never_copied : (t writes copied : Bool) → (t || not (writes || copied)) ≡ true → (copied ≡ true → t ≡ false) → copied ≡ false
never_copied t writes false is own_page = refl
never_copied true writes true is own_page = absurd (let contradiction : true ≡ false = own_page refl in cc)
never_copied false true true is own_page = absurd (let contradiction : false ≡ true = is in cc)
never_copied false false true is own_page = absurd (let contradiction : false ≡ true = is in cc)

cow_user : IsUsers cow_perm
cow_user = record { page = refl; copied = λ is. (refl, refl) }

-- two entries by which a page is copied when it is written, and one that agreed with an entry of one's own before
cow_agrees : Agree cow_perm cow_perm
cow_agrees = record { shared = refl; read_only = λ own_page. (refl, refl) }

cow_agreed : {x y : ℕ} → Agree x y → is_shared y ≡ false → Agree x cow_perm
cow_agreed had own_page = record {
  shared = had.shared ∙ own_page;
  read_only = λ is. ((had.read_only is).0, refl);
}

-- whether a page of the server's may be had by an entry is told by where it stands and whether it is shared
had_so : (c : Bool) (p : ℕ) (x e : Entry) → is_shared e.perm ≡ is_shared x.perm → MayBeHad c p x → MayBeHad c p e
had_so true p x e same had = (had.0, same ∙ had.1)
had_so false p x e same had = record { descriptor = had.descriptor; shared = same ∙ had.shared }

-- A page that stands somewhere gets an entry at the same number in some space, which agrees with all others of its frame.
rows_given : {names : Names} {pages shared : ℕ → List ℕ} {things : Things} {next : ℕ} {rows : Rows} →
    RowsStand names pages shared things next rows → (n p m : ℕ) (x e : Entry) → rows n p ≡ Some x → x.frame ≡ e.frame → IsUsers e.perm →
    is_shared e.perm ≡ is_shared x.perm →
    ((j r : ℕ) (y : Entry) → Elsewhere j r m p → rows j r ≡ Some y → y.frame ≡ e.frame → Agree y.perm e.perm) →
    RowsStand names pages shared things next (put rows m p (Some e))
rows_given {names = names} {pages = pages} {shared = shared} {things = things} {next = next} {rows = rows} h n p m x e stands frame is_user sharing
    agrees =
    rows_put h puts
  where
    puts : PutsRow names names pages shared pages shared things next next rows m p (Some e)
    puts = record {
      beside = λ q z y is at same.
          let one : e ≡ z = same_Some e z is in
          subst (λ (w : Entry). MayBeHad (q == page_number REQUEST) p w) one (had_so (q == page_number REQUEST) p x e sharing
          (h.beside n p q x y stands at (frame ∙ ap (λ (w : Entry). w.frame) one ∙ same)));
      bytes = λ j r y ne hy. refl;
      agree = λ j r y z ne hy is same.
          let one : e ≡ z = same_Some e z is in
          subst (λ (w : Entry). Agree y.perm w.perm) one (agrees j r y ne hy (same ∙ ap (λ (w : Entry). w.frame) (sym one)));
      user = λ z is. subst (λ (w : Entry). IsUsers w.perm) (same_Some e z is) is_user;
      whole = λ z is. subst (λ (w : Entry). IsPage (pages w.frame)) (same_Some e z is)
          (subst (λ (f : ℕ). IsPage (pages f)) frame (h.whole n p x stands));
      named_new = λ z is. subst (λ (w : Entry). is_shared w.perm ≡ true → IsNamed names pages shared things next p w.frame) (same_Some e z is)
          (λ shared_page. subst (λ (f : ℕ). IsNamed names pages shared things next p f) frame (h.named n p x stands (sym sharing ∙ shared_page)));
      named_old = λ j r y ne hy shared_page was. was;
    }

pub or_true : (c t : Bool) → t ≡ true → (c || t) ≡ true
or_true true t on = refl
or_true false t on = on

-- the pages of descriptors lie in a region of the library's
pub descriptors_region : (p : ℕ) → is_of_descriptor p ≡ true → is_library_region (p / NPTENTRIES) ≡ true
descriptors_region p is =
    let there : (p / NPTENTRIES == region_index FDTABLE) ≡ true = grind (arith, nat_tests) in
    ap (λ (c : Bool). c || (p / NPTENTRIES == region_index USTACKTOP)) (or_true (p / NPTENTRIES == region_index UTEMP) _ there)

-- ---- the page is mapped

module _ {names : Names} {s : KernelState} {a : AbstractState} (h : StandsFor names s a) (n id page perm : ℕ)
    (v : IsBearer names s a n (step.MapChild id page perm) id) where
  abbrev m : ℕ
  m = id % NENV

  abbrev d : ℕ
  d = (slot_at s n).directory

  abbrev child_space : ℕ
  child_space = (slot_at s m).directory

  pub mapping : IsMapping (rows_of s.spaces d) page perm
  mapping = let at : IsBearing (slot_at s n) v.b id × IsMapping (rows_of s.spaces d) page perm = v.stands in at.1

  -- the page as the parent has it, and as the child will have it
  abbrev entry : Entry
  entry = mapping.entry

  abbrev pub passed_on : Entry
  passed_on = record { frame = mapping.entry.frame; perm = perm }

  -- it is mapped as it is
  abbrev pub is_kept : Bool
  is_kept = is_shared mapping.entry.perm || not (may_write mapping.entry.perm)

  live : is_live_slot (slot_at s n) ≡ true
  live = born_live v.own

  child_live : is_live_slot (slot_at s m) ≡ true
  child_live = live_stands h m ∙ ap (λ (x : AbstractSlot). is_live x) v.child_is

  child_guest : place_of (slot_at s m) ≡ place.Guest
  unfolding place_in_words
  child_guest = let outside = v.child_own.stack in let none = v.child_own.words in rw (outside, none) refl

  -- what fork passes on is a program's, or a descriptor's
  page_handed : is_programs page || is_of_descriptor page ≡ true
  page_handed =
      let at : Step = step.MapChild id page perm in
      there_handed (slot_at s n) at at v.place v.own page mapping.entry mapping.below mapping.stands

  -- a descriptor's is mapped as it is
  descriptor_kept : is_of_descriptor page ≡ true → is_kept ≡ true
  descriptor_kept is =
      ap (λ (bits : ℕ). is_shared bits || not (may_write bits)) (v.own.library.descriptors page mapping.entry is mapping.stands)

  -- any other is a program's
  copied_inside : is_kept ≡ false → is_programs page ≡ true
  copied_inside is =
      no_other (is_programs page) (is_of_descriptor page) page_handed
      (λ descriptor. let contradiction : false ≡ true = sym is ∙ descriptor_kept descriptor in cc)

  -- the parent's entries count as they stand
  abbrev before : Rows
  before = logical s.spaces s.environments.slots

  counts_before : (p : ℕ) → before n p ≡ rows_of s.spaces d p
  counts_before p =
      counts_at s.spaces s.environments.slots n (slot_at s n) (place.InService service.Fork (step.MapChild id page perm)) refl
      (parent_not_first h v) live v.place p
      ∙ mapping_counts id page perm (rows_of s.spaces d) p

  entry_counts : before n page ≡ Some mapping.entry
  entry_counts = counts_before page ∙ mapping.stands

  user : IsUsers mapping.entry.perm
  user = h.users n page mapping.entry entry_counts

  bits_are : (c : Bool) → is_kept ≡ c → perm ≡ (if c then mapping.entry.perm else cow_perm)
  bits_are c is = mapping.bits ∙ ap (λ (t : Bool). if t then mapping.entry.perm else cow_perm) is

  kept_entry : is_kept ≡ true → passed_on ≡ mapping.entry
  kept_entry is = ap (λ (bits : ℕ). let e : Entry = record { frame = mapping.entry.frame; perm = bits } in e) (bits_are true is)

  -- whether the parent's page is to be mapped onto itself is told by the bits
  pub kept_not_copied : is_kept ≡ true → is_cow perm ≡ false
  kept_not_copied is =
      ap (λ (bits : ℕ). is_cow bits) (bits_are true is)
      ∙ never_copied (is_shared mapping.entry.perm) (has_write mapping.entry.perm) (is_cow mapping.entry.perm) is (λ copied. (user.copied copied).0)

  pub others_copied : is_kept ≡ false → is_cow perm ≡ true
  others_copied is = ap (λ (bits : ℕ). is_cow bits) (bits_are false is)

  permitted : is_page_perm perm ≡ true
  permitted = by_test is_kept refl
    where
      by_test : (c : Bool) → is_kept ≡ c → is_page_perm perm ≡ true
      by_test true is = ap (λ (bits : ℕ). is_page_perm bits) (bits_are true is) ∙ user.page
      by_test false is = ap (λ (bits : ℕ). is_page_perm bits) (bits_are false is)

  some_child : id ≢ 0
  some_child zero =
      let first : a.slots 0 ≡ unborn id v.b.id = ap (λ (q : ℕ). a.slots (q % NENV)) (sym zero) ∙ v.child_is in
      let contradiction : serving FIRST_ENV_ID ≡ unborn id v.b.id = sym h.first ∙ first in absurd cc

  -- the page as the kernel has it
  pub source : (e : Entry) × (s.spaces.entries d page ≡ Some e) × (lasting e ≡ mapping.entry)
  source = row_entry s.spaces d page entry mapping.stands

  given_on : shared_entry (s.spaces.entries d page) perm ≡ Some passed_on
  given_on =
      let e = source in
      ap (λ (o : Option Entry). shared_entry o perm) e.1
      ∙ given_with e.0 perm permitted (by_test is_kept refl)
      ∙ ap (λ (x : Entry). Some (record { frame = x.frame; perm = perm })) e.2
    where
      by_test : (c : Bool) → is_kept ≡ c → has_write perm ≡ true → has_write source.0.perm ≡ true
      by_test true is writes =
          lasting_write source.0.perm ∙ ap (λ (x : Entry). has_write x.perm) source.2
          ∙ ap (λ (bits : ℕ). has_write bits) (sym (bits_are true is)) ∙ writes
      by_test false is writes =
          absurd (let contradiction : false ≡ true = sym (ap (λ (bits : ℕ). has_write bits) (bits_are false is)) ∙ writes in cc)

  -- what the call comes to
  pub maps_child : (va : ℕ) → is_page_address va ≡ true → page_number va ≡ page →
      system s n SYS_PAGE_MAP (0 ∷ va ∷ id ∷ va ∷ perm ∷ []) ≡ made_step s (inserted s.spaces child_space page passed_on)
  maps_child va address number =
      page_map_to_child s n id live v.apart some_child child_live v.child_own.id_is (v.child_own.parent_is ∙ sym v.own.id) va va perm passed_on
      address address (ap (λ (p : ℕ). shared_entry (s.spaces.entries d p) perm) number ∙ given_on)
      ∙ ap (λ (p : ℕ). made_step s (inserted s.spaces child_space p passed_on)) number

  pub child_given : (sp : SpacesState) → IsInOrder (with_spaces s sp) → inserted s.spaces child_space page passed_on ≡ Some sp →
      Given s.spaces sp child_space page passed_on
  child_given sp in_order is =
      inserted_given s.spaces sp child_space page passed_on d page source.0 h.in_order.frames in_order.frames permitted source.1
      (ap (λ (e : Entry). e.frame) source.2) is

  -- the child has the pages behind it
  child_had : HasFrom names s.spaces (slot_at s n) v.b (page + 1) (slot_at s m)
  child_had = has_from (step.MapChild id page perm) refl refl v.child

  none_there : rows_of s.spaces child_space page ≡ None
  none_there = child_had.rest page page_handed (omega arith)

  -- ---- what is seen of spaces

  module _ {sp : SpacesState} (given : Given s.spaces sp child_space page passed_on) where
    kept : (q r : ℕ) → Elsewhere q r child_space page → rows_of sp q r ≡ rows_of s.spaces q r
    kept q r ne = row_elsewhere given.placed q r ne

    -- all frames that are named keep their bytes
    bytes_kept : (q r : ℕ) (x : Entry) → rows_of s.spaces q r ≡ Some x → sp.pages x.frame ≡ s.spaces.pages x.frame
    bytes_kept q r x hx = by_frame (x.frame == mapping.entry.frame) refl
      where
        elsewhere : Elsewhere q r child_space page
        elsewhere same too = none-some x (sym none_there ∙ (λ i. rows_of s.spaces (sym same i) (sym too i)) ∙ hx)

        by_frame : (c : Bool) → (x.frame == mapping.entry.frame) ≡ c → sp.pages x.frame ≡ s.spaces.pages x.frame
        by_frame true test =
            let same : mapping.entry.frame ≡ x.frame = grind (arith, nat_tests) in
            subst (λ (f : ℕ). sp.pages f ≡ s.spaces.pages f) same given.same
        by_frame false test = given.placed.bytes q r x (kept q r elsewhere ∙ hx) (grind (arith, nat_tests))

    pub seen_beside : (q : ℕ) → q ≢ child_space → SeenAlike names names s.spaces sp q
    seen_beside q ne = record {
      rows = λ i. λ r. kept q r (λ same too. ne same) i;
      bytes = λ r x hx own_page. bytes_kept q r x hx;
      named_so = λ r x hx shared_page. refl;
      devices = λ r x descriptor hx shared_page. ap lasting_words (bytes_kept q r x hx);
      pipes = λ r x pipes hx shared_page. bytes_kept q r x hx;
      regions = λ r. other_regions given.placed q r ne;
    }

    parent_beside : d ≢ child_space
    parent_beside same = v.apart (sym (h.in_order.spaces.apart n m live child_live same))

    -- a program's page is seen as the parent sees it
    seen_here : is_programs page ≡ true → page_seen names sp child_space page ≡ v.b.memory page
    seen_here page_inside = by_test is_kept refl ∙ sym (v.own.memory page)
      where
        by_test : (c : Bool) → is_kept ≡ c → page_seen names sp child_space page ≡ page_seen names s.spaces d page
        by_test true is =
            seen_by names sp child_space page passed_on page_inside (row_placed given.placed)
            ∙ ap (λ (e : Entry). Some (page_by names sp.pages e)) (kept_entry is)
            ∙ ap (λ (x : Page). Some x)
            (page_alike names names s.spaces.pages sp.pages mapping.entry (λ own_page. given.same) (λ shared_page. refl))
            ∙ sym (seen_by names s.spaces d page mapping.entry page_inside mapping.stands)
        by_test false is =
            let bits = both_off (is_shared mapping.entry.perm) (may_write mapping.entry.perm) is in
            let cow = bits_are false is in
            seen_own names sp child_space page passed_on page_inside (row_placed given.placed) (ap (λ (w : ℕ). is_shared w) cow)
            ∙ (λ i. Some (own (given.same i) (may_write (cow i))))
            ∙ ap (λ (w : Bool). Some (own (s.spaces.pages mapping.entry.frame) w)) (sym bits.1)
            ∙ sym (seen_own names s.spaces d page mapping.entry page_inside mapping.stands bits.0)

    child_memory : (p : ℕ) → is_programs p ≡ true → page ≤ p → page_seen names sp child_space p ≡ v.b.memory p
    child_memory p inside from = by_page (p == page) refl
      where
        by_page : (c : Bool) → (p == page) ≡ c → page_seen names sp child_space p ≡ v.b.memory p
        by_page true test =
            let same : page ≡ p = grind (arith, nat_tests) in
            subst (λ (q : ℕ). page_seen names sp child_space q ≡ v.b.memory q) same (seen_here (ap is_programs same ∙ inside))
        by_page false test =
            let other : p ≢ page = grind (arith, nat_tests) in
            seen_at names names s.spaces sp child_space p (kept child_space p (λ same. other)) (λ x hx own_page. bytes_kept child_space p x hx)
            (λ x hx shared_page. refl)
            ∙ child_had.passed p inside (omega (arith, from, other))

    -- a descriptor's page has the parent's entry
    child_handed : (p : ℕ) → is_of_descriptor p ≡ true → page ≤ p → rows_of sp child_space p ≡ rows_of sp d p
    child_handed p is from = by_page (p == page) refl ∙ sym (ap (λ (row : EntryRow). row p) (seen_beside d parent_beside).rows)
      where
        by_page : (c : Bool) → (p == page) ≡ c → rows_of sp child_space p ≡ rows_of s.spaces d p
        by_page true test =
            let same : page ≡ p = grind (arith, nat_tests) in
            subst (λ (q : ℕ). rows_of sp child_space q ≡ rows_of s.spaces d q) same
            (row_placed given.placed ∙ ap (λ (e : Entry). Some e) (kept_entry (descriptor_kept (ap is_of_descriptor same ∙ is))) ∙ sym mapping.stands)
        by_page false test =
            let other : p ≢ page = grind (arith, nat_tests) in
            kept child_space p (λ same. other) ∙ child_had.handed p is (omega (arith, from, other))

    -- the parent has a page in the region for which the child may have got a table, or that is the region of descriptors
    has_page : has_page_in v.b.memory (page / NPTENTRIES) || is_library_region (page / NPTENTRIES) ≡ true
    has_page = by_test (is_programs page) refl
      where
        programs : is_programs page ≡ true → has_page_in v.b.memory (page / NPTENTRIES) ≡ true
        programs inside =
            some_below-at (λ p. is_some (v.b.memory (page / NPTENTRIES * NPTENTRIES + p))) NPTENTRIES (page % NPTENTRIES) (omega arith)
            (ap (λ (p : ℕ). is_some (v.b.memory p)) (let same : page / NPTENTRIES * NPTENTRIES + page % NPTENTRIES ≡ page = omega arith in same)
            ∙ ap (λ (o : Option Page). is_some o) (v.own.memory page ∙ seen_by names s.spaces d page mapping.entry inside mapping.stands))

        by_test : (c : Bool) → is_programs page ≡ c → has_page_in v.b.memory (page / NPTENTRIES) || is_library_region (page / NPTENTRIES) ≡ true
        by_test true inside = ap (λ (c : Bool). c || is_library_region (page / NPTENTRIES)) (programs inside)
        by_test false outside =
            or_true (has_page_in v.b.memory (page / NPTENTRIES)) (is_library_region (page / NPTENTRIES))
            (descriptors_region page (sym (ap (λ (c : Bool). c || is_of_descriptor page) outside) ∙ page_handed))

    child_tables : (r : ℕ) → is_some (sp.regions child_space r) ≡ true → has_page_in v.b.memory r || is_library_region r ≡ true
    child_tables r table = by_region (r == page / NPTENTRIES) refl (sym (given.placed.regions child_space r) ∙ table)
      where
        there : (child_space == child_space) ≡ true
        there = grind (arith, nat_tests)

        by_region : (c : Bool) → (r == page / NPTENTRIES) ≡ c →
            (((child_space == child_space) && (r == page / NPTENTRIES)) || is_some (s.spaces.regions child_space r)) ≡ true →
            has_page_in v.b.memory r || is_library_region r ≡ true
        by_region true test is =
            let same : page / NPTENTRIES ≡ r = grind (arith, nat_tests) in
            subst (λ (q : ℕ). has_page_in v.b.memory q || is_library_region q ≡ true) same
            has_page
        by_region false test is =
            v.child.tables r
            (sym ((λ i. ((there i) && (test i)) || is_some (s.spaces.regions child_space r))) ∙ is)

    -- so the child has it too
    pub child_has : HasFrom names sp (slot_at s n) v.b page (slot_at s m)
    child_has = record {
      registers = child_had.registers;
      upcall = child_had.upcall;
      passed = child_memory;
      handed = child_handed;
      rest = λ p inside lower. kept child_space p (λ same at. omega (arith, lower, at)) ∙ child_had.rest p inside (omega (arith, lower));
      none = λ p outside no_descriptor.
          kept child_space p
          (λ same at. absurd (let contradiction : false ≡ true = (λ i. sym outside i || sym no_descriptor i)
          ∙ ap (λ (q : ℕ). is_programs q || is_of_descriptor q) at ∙ page_handed in cc))
          ∙ child_had.none p outside no_descriptor;
      tables = child_tables;
    }

    -- ---- entries as they count

    abbrev after : Step → Rows
    after next = logical sp (upd s.environments.slots n (moved (slot_at s n) next))

    child_counts_before : (p : ℕ) → before m p ≡ rows_of s.spaces child_space p
    child_counts_before p =
        counts_at s.spaces s.environments.slots m (slot_at s m) place.Guest refl (child_not_first h v) child_live child_guest p
        ∙ guest_counts (rows_of s.spaces child_space) p

    counts_after : (next : Step) (p : ℕ) → after next n p ≡ counted (place.InService service.Fork next) (rows_of s.spaces d) p
    counts_after next p =
        counts_at sp (upd s.environments.slots n (moved (slot_at s n) next)) n (moved (slot_at s n) next) (place.InService service.Fork next)
        (upd-at s.environments.slots n (moved (slot_at s n) next)) (parent_not_first h v) live
        (moved_place (slot_at s n) (step.MapChild id page perm) next v.place) p
        ∙ ap (λ (row : EntryRow). counted (place.InService service.Fork next) row p) (seen_beside d parent_beside).rows

    child_counts_after : (next : Step) (p : ℕ) → after next m p ≡ rows_of sp child_space p
    child_counts_after next p =
        counts_at sp (upd s.environments.slots n (moved (slot_at s n) next)) m (slot_at s m) place.Guest
        (upd-other s.environments.slots n (moved (slot_at s n) next) m v.apart) (child_not_first h v) child_live child_guest p
        ∙ guest_counts (rows_of sp child_space) p

    others_count_after : (next : Step) (q : ℕ) → q ≢ n → q ≢ m → (p : ℕ) → after next q p ≡ before q p
    others_count_after next q ne apart p =
        let slot : upd s.environments.slots n (moved (slot_at s n) next) q ≡ slot_at s q =
        upd-other s.environments.slots n (moved (slot_at s n) next) q ne in
        logical_alike s.spaces sp s.environments.slots (upd s.environments.slots n (moved (slot_at s n) next)) q
        (ap (λ (x : Slot). is_live_slot x) slot) (ap (λ (x : Slot). place_of x) slot)
        (λ lives. ap (λ (x : Slot). rows_of sp x.directory) slot
        ∙ (seen_beside (slot_at s q).directory (λ same. apart (h.in_order.spaces.apart q m lives child_live same))).rows) p

    -- what counts in a slot, but for the page of the child, where it counts so of the parent
    counts_elsewhere : (next : Step) (rows : Rows) → ((p : ℕ) → after next n p ≡ rows n p) → ((q p : ℕ) → q ≢ n → rows q p ≡ before q p) →
        (q p : ℕ) → Elsewhere q p m page → after next q p ≡ rows q p
    counts_elsewhere next rows here same q p ne = by_parent (q == n) refl
      where
        by_child : q ≢ n → (c : Bool) → (q == m) ≡ c → after next q p ≡ rows q p
        by_child other true test =
            let at : q ≡ m = grind (arith, nat_tests) in
            let apart : p ≢ page = ne at in
            ap (λ (j : ℕ). after next j p) at ∙ child_counts_after next p ∙ kept child_space p (λ is. apart)
            ∙ sym (child_counts_before p) ∙ sym (ap (λ (j : ℕ). before j p) at) ∙ sym (same q p other)
        by_child other false test = others_count_after next q other (grind (arith, nat_tests)) p ∙ sym (same q p other)

        by_parent : (c : Bool) → (q == n) ≡ c → after next q p ≡ rows q p
        by_parent true test =
            let at : n ≡ q = grind (arith, nat_tests) in subst (λ (j : ℕ). after next j p ≡ rows j p) at (here p)
        by_parent false test = by_child (grind (arith, nat_tests)) (q == m) refl

    bytes_counted : (q r : ℕ) (x : Entry) → before q r ≡ Some x → sp.pages x.frame ≡ s.spaces.pages x.frame
    bytes_counted q r x hx =
        let found = (logical_some s.spaces s.environments.slots q r x hx).1 in
        subst (λ (f : ℕ). sp.pages f ≡ s.spaces.pages f) found.frame (bytes_kept (slot_at s q).directory r found.entry found.stands)

    rows_before : RowsStand names sp.pages a.shared (things_in s a) a.next_name before
    rows_before = rows_bytes sp.pages bytes_counted (rows_stand h)

    child_counts : (next : Step) → after next m page ≡ Some passed_on
    child_counts next = child_counts_after next page ∙ row_placed given.placed

    -- what agrees with the parent's entry, itself among them where it is mapped as it is
    agreed : (q r : ℕ) (x : Entry) → Elsewhere q r n page → before q r ≡ Some x → x.frame ≡ mapping.entry.frame → Agree x.perm mapping.entry.perm
    agreed q r x ne hx same = h.apart q r n page x mapping.entry ne hx entry_counts same

    -- ---- mapped as it is

    module _ (is : is_kept ≡ true) where
      all_agree : (q r : ℕ) (x : Entry) → before q r ≡ Some x → x.frame ≡ mapping.entry.frame → Agree x.perm mapping.entry.perm
      all_agree q r x hx same = by_place (place_cases q r n page)
        where
          by_place : ((q ≡ n) × (r ≡ page)) ⊎ Elsewhere q r n page → Agree x.perm mapping.entry.perm
          by_place (inl here) =
              subst (λ (y : Entry). Agree y.perm mapping.entry.perm)
              (sym (same_entry before q r n page x mapping.entry here.0 here.1 hx entry_counts))
              (record {
                shared = refl;
                read_only = λ own_page.
                    let never = never_written (is_shared mapping.entry.perm) (has_write mapping.entry.perm) (is_cow mapping.entry.perm) is own_page in
                    (never, never);
              })
          by_place (inr ne) = agreed q r x ne hx same

      rows_kept : RowsStand names sp.pages a.shared (things_in s a) a.next_name (put before m page (Some passed_on))
      rows_kept =
          subst (λ (e : Entry). RowsStand names sp.pages a.shared (things_in s a) a.next_name (put before m page (Some e))) (sym (kept_entry is))
          (rows_given rows_before n page m mapping.entry mapping.entry entry_counts refl user refl
          (λ q r x ne hx same. all_agree q r x hx same))

      rows_below : (next : Step) → ((row : EntryRow) (p : ℕ) → counted (place.InService service.Fork next) row p ≡ row p) →
          RowsStand names sp.pages a.shared (things_in s a) a.next_name (after next)
      rows_below next plain =
          rows_same (put before m page (Some passed_on)) (after next)
          (put_is before (after next) m page (Some passed_on) (child_counts next)
          (counts_elsewhere next before (λ p. counts_after next p ∙ plain (rows_of s.spaces d) p ∙ sym (counts_before p)) (λ q p ne. refl)))
          rows_kept

    -- ---- copied when it is written

    module _ (is : is_kept ≡ false) where
      abbrev copied_entry : Entry
      copied_entry = record { frame = mapping.entry.frame; perm = cow_perm }

      cow_entry : passed_on ≡ copied_entry
      cow_entry = ap (λ (bits : ℕ). let e : Entry = record { frame = mapping.entry.frame; perm = bits } in e) (bits_are false is)

      own_writable : (is_shared mapping.entry.perm ≡ false) × (may_write mapping.entry.perm ≡ true)
      own_writable = both_off (is_shared mapping.entry.perm) (may_write mapping.entry.perm) is

      -- the parent's entry counts so already
      abbrev parent_copied : Rows
      parent_copied = put before n page (Some copied_entry)

      rows_parent : RowsStand names sp.pages a.shared (things_in s a) a.next_name parent_copied
      rows_parent =
          rows_given rows_before n page n mapping.entry copied_entry entry_counts refl cow_user (sym own_writable.0)
          (λ q r x ne hx same. cow_agreed (agreed q r x ne hx same) own_writable.0)

      parent_agrees : (q r : ℕ) (x : Entry) → parent_copied q r ≡ Some x → x.frame ≡ mapping.entry.frame → Agree x.perm cow_perm
      parent_agrees q r x hx same = elim (put-found before n page (Some copied_entry) q r x hx) [
        | inl here ↦ subst (λ (e : Entry). Agree e.perm cow_perm) (same_Some copied_entry x here.2) cow_agrees
        | inr there ↦ cow_agreed (agreed q r x there.0 there.1 same) own_writable.0
      ]

      rows_both : RowsStand names sp.pages a.shared (things_in s a) a.next_name (put parent_copied m page (Some passed_on))
      rows_both =
          subst (λ (e : Entry). RowsStand names sp.pages a.shared (things_in s a) a.next_name (put parent_copied m page (Some e))) (sym cow_entry)
          (rows_given rows_parent n page m copied_entry copied_entry (put-at before n page (Some copied_entry)) refl cow_user
          refl (λ q r x ne hx same. parent_agrees q r x hx same))

      parent_counts : (p : ℕ) → after (step.Remap id page) n p ≡ parent_copied n p
      parent_counts p = counts_after (step.Remap id page) p ∙ remapped_counts id page (rows_of s.spaces d) p ∙ by_page (p == page) refl
        where
          as_copied : as_cow mapping.entry ≡ copied_entry
          as_copied = ap (λ (c : Bool). if c then mapping.entry else copied_entry) own_writable.0

          by_page : (c : Bool) → (p == page) ≡ c →
              (if c then option_map as_cow (rows_of s.spaces d p) else rows_of s.spaces d p) ≡ parent_copied n p
          by_page true test =
              let same : page ≡ p = grind (arith, nat_tests) in
              subst (λ (q : ℕ). option_map as_cow (rows_of s.spaces d q) ≡ parent_copied n q) same
              (ap (option_map as_cow) mapping.stands ∙ ap (λ (e : Entry). Some e) as_copied ∙ sym (put-at before n page (Some copied_entry)))
          by_page false test =
              let other : p ≢ page = grind (arith, nat_tests) in
              sym (counts_before p) ∙ sym (put-other before n page (Some copied_entry) n p (λ same. other))

      rows_remap : RowsStand names sp.pages a.shared (things_in s a) a.next_name (after (step.Remap id page))
      rows_remap =
          rows_same (put parent_copied m page (Some passed_on)) (after (step.Remap id page))
          (put_is parent_copied (after (step.Remap id page)) m page (Some passed_on) (child_counts (step.Remap id page))
          (counts_elsewhere (step.Remap id page) parent_copied parent_counts
          (λ q p ne. put-other before n page (Some copied_entry) q p (λ same. absurd (ne same))))) rows_both

    -- ---- it stands

    module _ (in_order : IsInOrder (with_spaces s sp)) (last : s.last ≡ Some n) where
      still_bearing : (next : Step) → IsBearing (moved (slot_at s n) next) v.b id
      still_bearing next =
          let at : IsBearing (slot_at s n) v.b id × IsMapping (rows_of s.spaces d) page perm = v.stands in
          in_with_words (words_at SERVICE_FORK next) at.0

      stands_at : (next : Step) → borne_at next ≡ Some id → StandsAtStep (view_of sp d) (moved (slot_at s n) next) v.b service.Fork next →
          IsChild names sp (slot_at s n) v.b next (slot_at s m) →
          RowsStand names sp.pages a.shared (things_in s a) a.next_name (after next) →
          StandsFor names (with_extra (with_spaces s sp) n (words_at SERVICE_FORK next)) a
      stands_at next bears so has rows =
          bearing_moves h n id (step.MapChild id page perm) next v bears sp (λ q ne apart. seen_beside q apart)
          (own_moved (slot_at s n) (step.MapChild id page perm) next v.place refl (borne_calm next id bears)
          (born_stands (slot_at s n) v.b (seen_beside d parent_beside) (counts_unpiped s.spaces sp (slot_at s n) (ap is_piped v.place)) v.own) so)
          has rows in_order (others_counts h n last sp) (λ p is. ap (λ (row : EntryRow). row p) (seen_beside d parent_beside).rows) bytes_kept

      -- behind a page that is mapped as it is fork goes on below it
      pub below_stands : is_kept ≡ true →
          StandsFor names (with_extra (with_spaces s sp) n (words_at SERVICE_FORK (step_below id page))) a
      below_stands is =
          let next : Step = step_below id page in
          let way = goes_below id page (moved (slot_at s n) next) (still_bearing next) mapping.below
          (λ inside. (seen_beside d parent_beside).regions (page / NPTENTRIES) ∙ h.in_order.frames.regions d page source.0 source.1) child_has in
          stands_at next way.bears way.stands way.has (rows_below is next way.plain)

      -- any other is to be mapped onto itself
      pub remap_stands : is_kept ≡ false →
          StandsFor names (with_extra (with_spaces s sp) n (words_at SERVICE_FORK (step.Remap id page))) a
      remap_stands is =
          let next : Step = step.Remap id page in
          stands_at next refl (
            still_bearing next,
            record {
              below = mapping.below;
              entry = mapping.entry;
              stands = ap (λ (row : EntryRow). row page) (seen_beside d parent_beside).rows ∙ mapping.stands;
              user = user;
              own_page = (own_writable is).0;
              writes = (own_writable is).1;
            },
          ) (is_child next refl refl child_has) (rows_remap is)
