-- Shared pages of descriptors and of pipes count as they stand, but those that service pipe makes; and whatever has the frame of a page that counts as
-- shared counts as shared, where it stands.
use Rattle.std.proofs.Common.{◌≡◌, ◌≢◌, ◌∙◌, ◌-◌, ◌%◌, ◌==◌, ◌&&◌, inl, inr, ℕ, Bool, true, false, not, Option, Some, None}
use Rattle.std.proofs.Common.{refl, sym, ap, subst, arith, if◌then◌else◌}
use Rattle.std.specs.Option.{option_map}
use Rattle.std.proofs.lemmas.Bool.{cases_eq}
use Rattle.std.proofs.lemmas.Bool.Decides.{nat_tests}
use Rattle.std.proofs.lemmas.Option.{none-some, same_Some}
use Rattle.jos_base.specs.declared.environment.Status.{Status}
use Rattle.jos_base.specs.declared.environment.Status.TheVariants.{Runnable, Running, NotRunnable}
use Rattle.jos_base.specs.declared.numbers.TheConstants.{NENV}
use Rattle.jos_base.specs.Environments.{Slot, is_free, is_live, no_extra}
use Rattle.jos_base.specs.KernelState.{KernelState, slot_at}
use Rattle.jos_base.specs.Reach.{Entry}
use Rattle.jos_base.specs.SpacesState.{SpacesState, is_directory}
use Rattle.jos_base.specs.Words.{page_number}
use Rattle.lib_os.specs.declared.numbers.TheConstants.{PFTEMP}
use Rattle.lib_os.specs.declared.place.HandlerStep.TheVariants as handler
use Rattle.lib_os.specs.declared.place.PipeStep.TheVariants as pipe
use Rattle.lib_os.specs.declared.place.Place.{Place}
use Rattle.lib_os.specs.declared.place.Place.TheVariants as place
use Rattle.lib_os.specs.declared.place.Step.TheVariants as step
use Rattle.lib_os.specs.declared.service.Service.TheVariants as service
use Rattle.lib_os.specs.AbstractState.{AbstractSlot, AbstractState, Born, born, free, serving, unborn}
use Rattle.lib_os.specs.Fence.{in_fence, is_inside}
use Rattle.lib_os.specs.LibraryPages.{View}
use Rattle.lib_os.specs.PipeEnds.{is_made}
use Rattle.lib_os.specs.Places.{is_handlers, place_in_words, place_of}
use Rattle.lib_os.specs.Rows.{EntryRow, Names, as_cow, as_own, counted, cow_perm, descriptor_at, is_clients, is_making, is_of_descriptor}
use Rattle.lib_os.specs.Rows.{is_shared, lasting, logical, logical_by, makes, own_perm, rows_of}
use Rattle.lib_os.specs.SpawnPages.{is_childs}
use Rattle.lib_os.specs.StandsFor.{IsStatusFor, StandsAt, StandsFor, StandsForBorn, StandsForSlot, view_of}
use Rattle.lib_os.specs.StandsInHandler.{CopiesOrEnds, IsMappedTwice, copies, ends}
use Rattle.lib_os.proofs.KeptPages.{beside_childs, descriptor_no_spawns}
use Rattle.lib_os.proofs.Logical.{is_childs_page}
use Rattle.lib_os.proofs.ChildsPages.{childs_page}

-- ---- the bits of an entry that counts as another

own_not_shared : (o : Option Entry) (y : Entry) → option_map as_own o ≡ Some y → is_shared y.perm ≡ true → ⊥
own_not_shared None y is sharing = none-some y is
own_not_shared (Some z) y is sharing =
    let perm : own_perm ≡ y.perm = ap (λ (e : Entry). e.perm) (same_Some (as_own z) y is) in
    let contradiction : false ≡ true = ap is_shared perm ∙ sharing in cc

cow_frame : (y : Entry) → (as_cow y).frame ≡ y.frame
cow_frame y = by_test (is_shared y.perm)
  where
    by_test : (c : Bool) → (if c then y else record y { perm = cow_perm }).frame ≡ y.frame
    by_test true = refl
    by_test false = refl

cow_same : (y : Entry) → is_shared (as_cow y).perm ≡ true → as_cow y ≡ y
cow_same y = by_test (is_shared y.perm)
  where
    by_test : (c : Bool) → is_shared (if c then y else record y { perm = cow_perm }).perm ≡ true → (if c then y else record y { perm = cow_perm }) ≡ y
    by_test true sharing = refl
    by_test false sharing = absurd (let contradiction : false ≡ true = sharing in cc)

cow_kept : (y : Entry) → is_shared y.perm ≡ true → as_cow y ≡ y
cow_kept y sharing = ap (λ (c : Bool). if c then y else record y { perm = cow_perm }) sharing

cow_stands : (o : Option Entry) (y : Entry) → option_map as_cow o ≡ Some y → is_shared y.perm ≡ true → o ≡ Some y
cow_stands None y is sharing = absurd (none-some y is)
cow_stands (Some z) y is sharing =
    let same : as_cow z ≡ y = same_Some (as_cow z) y is in
    ap (λ (e : Entry). Some e) (sym (cow_same z (ap (λ (e : Entry). is_shared e.perm) same ∙ sharing)) ∙ same)

-- ---- at a place

-- a shared page of a descriptor, or of its pipe, that is not made
pub shared_counts : (at : Place) (row : EntryRow) (p fd : ℕ) (y : Entry) → is_of_descriptor p ≡ true → descriptor_at p ≡ fd → is_made at fd ≡ false →
    row p ≡ Some y → is_shared y.perm ≡ true → counted at row p ≡ Some y
unfolding counted
shared_counts (place.InHandler (handler.Unmapping va)) row p fd y of same unmade is sharing =
    let off : (p == page_number PFTEMP) ≡ false = grind (arith, nat_tests) in
    ap (λ (c : Bool). if c then None else row p) off ∙ is
shared_counts (place.InService service.Fork (step.Remap id page)) row p fd y of same unmade is sharing = by_test (p == page)
  where
    by_test : (c : Bool) → (if c then option_map as_cow (row p) else row p) ≡ Some y
    by_test true = ap (λ (o : Option Entry). option_map as_cow o) is ∙ ap (λ (e : Entry). Some e) (cow_kept y sharing)
    by_test false = is
shared_counts (place.InService service.Pipe (step.Piped at)) row p fd y of same unmade is sharing =
    let off : is_making at p ≡ false =
    ap (λ (c : Bool). c && makes at (descriptor_at p)) of ∙ ap (λ (k : ℕ). makes at k) same ∙ unmade in
    ap (λ (c : Bool). if c then option_map as_own (row p) else row p) off ∙ is
shared_counts (place.InService (service.Spawn path argv) (step.Spawning at)) row p fd y of same unmade is sharing =
    ap (λ (c : Bool). if c then None else row p) (beside_childs at p (descriptor_no_spawns p of)) ∙ is
shared_counts _ row p fd y of same unmade is sharing = is

-- what counts as shared stands so
pub counted_stands : (at : Place) (row : EntryRow) (p : ℕ) (y : Entry) → counted at row p ≡ Some y → is_shared y.perm ≡ true → row p ≡ Some y
unfolding counted
counted_stands (place.InHandler (handler.Unmapping va)) row p y counts sharing = by_test (p == page_number PFTEMP) counts
  where
    by_test : (c : Bool) → (if c then None else row p) ≡ Some y → row p ≡ Some y
    by_test true is = absurd (none-some y is)
    by_test false is = is
counted_stands (place.InService service.Fork (step.Remap id page)) row p y counts sharing = by_test (p == page) counts
  where
    by_test : (c : Bool) → (if c then option_map as_cow (row p) else row p) ≡ Some y → row p ≡ Some y
    by_test true is = cow_stands (row p) y is sharing
    by_test false is = is
counted_stands (place.InService service.Pipe (step.Piped at)) row p y counts sharing = by_test (is_making at p) counts
  where
    by_test : (c : Bool) → (if c then option_map as_own (row p) else row p) ≡ Some y → row p ≡ Some y
    by_test true is = absurd (own_not_shared (row p) y is sharing)
    by_test false is = is
counted_stands (place.InService (service.Spawn path argv) (step.Spawning at)) row p y counts sharing = by_test (is_childs at p) counts
  where
    by_test : (c : Bool) → (if c then None else row p) ≡ Some y → row p ≡ Some y
    by_test true is = absurd (none-some y is)
    by_test false is = is
counted_stands _ row p y counts sharing = counts

-- and it is not made
pub shared_unmade : (at : Place) (row : EntryRow) (p fd : ℕ) (y : Entry) → is_of_descriptor p ≡ true → descriptor_at p ≡ fd →
    counted at row p ≡ Some y → is_shared y.perm ≡ true → is_made at fd ≡ false
unfolding counted
shared_unmade (place.InService service.Pipe (step.Piped at)) row p fd y of same counts sharing = by_test (makes at fd) refl
  where
    by_test : (c : Bool) → makes at fd ≡ c → makes at fd ≡ false
    by_test false off = off
    by_test true on =
        let making : is_making at p ≡ true = ap (λ (c : Bool). c && makes at (descriptor_at p)) of ∙ ap (λ (k : ℕ). makes at k) same ∙ on in
        absurd (own_not_shared (row p) y (sym (ap (λ (c : Bool). if c then option_map as_own (row p) else row p) making) ∙ counts) sharing)
shared_unmade _ row p fd y of same counts sharing = refl

-- ---- whatever stands counts: where it stands, or, where a copy is mapped over its page, at that page; or where it stands in a child's space, too

record CountsHere (at : Place) (row : EntryRow) (q : ℕ) (y : Entry) : Type 0 where
  page : ℕ
  entry : Entry
  counts : counted at row page ≡ Some entry
  frame : entry.frame ≡ y.frame
  itself : is_shared entry.perm ≡ true → (page ≡ q) × (entry ≡ y)

counts_plain : (at : Place) (row : EntryRow) (q : ℕ) (y : Entry) → counted at row q ≡ Some y → CountsHere at row q y
counts_plain at row q y is = record { page = q; entry = y; counts = is; frame = refl; itself = λ sharing. (refl, refl) }

-- the handler's copy stands beside the pages that a program may have
copy_beside : (va : ℕ) → is_inside va ≡ true → (page_number va == page_number PFTEMP) ≡ false
unfolding in_fence
copy_beside va inside = grind (arith, nat_tests)

counts_so : (at : Place) (v : View) (k : Slot) (b : Born) → StandsAt at v k b → (q : ℕ) (y : Entry) → v.row q ≡ Some y →
    is_childs_page at q ≡ false → CountsHere at v.row q y
unfolding counted
counts_so (place.InHandler (handler.Unmapping found)) v k b stands q y is mine = by_page (q == page_number PFTEMP) refl
  where
    twice : (va : ℕ) → is_inside va ≡ true → IsMappedTwice v va → q ≡ page_number PFTEMP →
        CountsHere (place.InHandler (handler.Unmapping found)) v.row q y
    twice va inside at here = record {
      page = page_number va;
      entry = at.here;
      counts = ap (λ (c : Bool). if c then None else v.row (page_number va)) (copy_beside va inside) ∙ at.here_is;
      frame =
          let same : at.there ≡ y = same_Some at.there y (sym at.there_is ∙ ap v.row (sym here) ∙ is) in
          sym at.frames ∙ ap (λ (e : Entry). e.frame) same;
      itself = λ sharing. absurd (let contradiction : false ≡ true = sym at.own_page ∙ sharing in cc);
    }

    by_way : CopiesOrEnds (handler.Unmapping found) v k b stands.fault stands.regs → q ≡ page_number PFTEMP →
        CountsHere (place.InHandler (handler.Unmapping found)) v.row q y
    by_way (copies way) here = twice stands.fault.va way.inside way.at.1 here
    by_way (ends way) here = absurd way.at

    by_page : (c : Bool) → (q == page_number PFTEMP) ≡ c → CountsHere (place.InHandler (handler.Unmapping found)) v.row q y
    by_page false off =
        counts_plain (place.InHandler (handler.Unmapping found)) v.row q y (ap (λ (c : Bool). if c then None else v.row q) off ∙ is)
    by_page true on = by_way stands.way (grind (arith, nat_tests))
counts_so (place.InService service.Fork (step.Remap id page)) v k b stands q y is mine = by_page (q == page) refl
  where
    by_page : (c : Bool) → (q == page) ≡ c → CountsHere (place.InService service.Fork (step.Remap id page)) v.row q y
    by_page false off =
        counts_plain (place.InService service.Fork (step.Remap id page)) v.row q y
        (ap (λ (c : Bool). if c then option_map as_cow (v.row q) else v.row q) off ∙ is)
    by_page true on = record {
      page = q;
      entry = as_cow y;
      counts =
          ap (λ (c : Bool). if c then option_map as_cow (v.row q) else v.row q) on ∙ ap (λ (o : Option Entry). option_map as_cow o) is;
      frame = cow_frame y;
      itself = λ sharing. (refl, cow_same y sharing);
    }
counts_so (place.InService service.Pipe (step.Piped at)) v k b stands q y is mine = by_page (is_making at q) refl
  where
    by_page : (c : Bool) → is_making at q ≡ c → CountsHere (place.InService service.Pipe (step.Piped at)) v.row q y
    by_page false off =
        counts_plain (place.InService service.Pipe (step.Piped at)) v.row q y
        (ap (λ (c : Bool). if c then option_map as_own (v.row q) else v.row q) off ∙ is)
    by_page true on = record {
      page = q;
      entry = as_own y;
      counts =
          ap (λ (c : Bool). if c then option_map as_own (v.row q) else v.row q) on ∙ ap (λ (o : Option Entry). option_map as_own o) is;
      frame = refl;
      itself = λ sharing. absurd (let contradiction : false ≡ true = sharing in cc);
    }
counts_so (place.InService (service.Spawn path argv) (step.Spawning at)) v k b stands q y is mine =
    counts_plain (place.InService (service.Spawn path argv) (step.Spawning at)) v.row q y (ap (λ (c : Bool). if c then None else v.row q) mine ∙ is)
counts_so at v k b stands q y is mine = counts_plain at v.row q y is

-- ---- clients

status_lives : (status : Status) (blocked : Bool) → IsStatusFor status blocked → not (is_free status) ≡ true
status_lives Runnable false so = refl
status_lives Running false so = refl
status_lives NotRunnable true so = refl
status_lives _ _ so = absurd so

pub born_lives : {names : Names} {s : SpacesState} {k : Slot} {b : Born} → StandsForBorn names s k b → is_live k ≡ true
born_lives {k = k} {b = b} own = status_lives k.status b.blocked own.runs

module _ (s : KernelState) (m : ℕ) (not_first : 0 ≢ m) (live : is_live (slot_at s m) ≡ true) where
  abbrev row_of : EntryRow
  row_of = rows_of s.spaces (slot_at s m).directory

  client : is_clients m (slot_at s m) ≡ true
  client = by_tests (m == 0) (is_live (slot_at s m)) (grind (arith, nat_tests)) live
    where
      by_tests : (first lives : Bool) → first ≡ false → lives ≡ true → not first && lives ≡ true
      by_tests false true none is = refl
      by_tests true lives none is = absurd (let contradiction : true ≡ false = none in cc)
      by_tests false false none is = absurd (let contradiction : false ≡ true = is in cc)

  pub client_row : (p : ℕ) → logical s.spaces s.environments.slots m p ≡ counted (place_of (slot_at s m)) row_of p
  client_row p = ap (λ (c : Bool). logical_by c (counted (place_of (slot_at s m)) row_of) p) client

-- it has the page as a shared one
pub record Shares (s : KernelState) (m p : ℕ) (y : Entry) : Type 0 where
  pub counts : logical s.spaces s.environments.slots m p ≡ Some y
  pub sharing : is_shared y.perm ≡ true

-- somebody has a page with this frame as a shared one
pub record IsShared (s : KernelState) (f : ℕ) : Type 0 where
  pub slot : ℕ
  pub page : ℕ
  pub entry : Entry
  pub there : Shares s slot page entry
  pub same : entry.frame ≡ f

module _ {names : Names} {s : KernelState} {a : AbstractState} (h : StandsFor names s a) where
  abbrev its_row : ℕ → EntryRow
  its_row m = rows_of s.spaces (slot_at s m).directory

  -- a slot that is live, and not the file server's
  module _ (m : ℕ) (not_first : 0 ≢ m) (live : is_live (slot_at s m) ≡ true) where
    pub shares_stands : (p : ℕ) (y : Entry) → Shares s m p y → its_row m p ≡ Some y
    shares_stands p y has =
        counted_stands (place_of (slot_at s m)) (its_row m) p y (sym (client_row s m not_first live p) ∙ has.counts) has.sharing

    pub stands_shared : (p fd : ℕ) (y : Entry) → is_of_descriptor p ≡ true → descriptor_at p ≡ fd → is_made (place_of (slot_at s m)) fd ≡ false →
        its_row m p ≡ Some y → is_shared y.perm ≡ true → Shares s m p y
    stands_shared p fd y of same unmade is sharing = record {
      counts = client_row s m not_first live p ∙ shared_counts (place_of (slot_at s m)) (its_row m) p fd y of same unmade is sharing;
      sharing = sharing;
    }

    pub shares_unmade : (p fd : ℕ) (y : Entry) → is_of_descriptor p ≡ true → descriptor_at p ≡ fd → Shares s m p y →
        is_made (place_of (slot_at s m)) fd ≡ false
    shares_unmade p fd y of same has =
        shared_unmade (place_of (slot_at s m)) (its_row m) p fd y of same (sym (client_row s m not_first live p) ∙ has.counts) has.sharing

    record CountsSo (q : ℕ) (y : Entry) : Type 0 where
      slot : ℕ
      page : ℕ
      entry : Entry
      counts : logical s.spaces s.environments.slots slot page ≡ Some entry
      frame : entry.frame ≡ y.frame
      itself : is_shared entry.perm ≡ true → (slot ≡ m) × (page ≡ q) × (entry ≡ y)

    counts_here : (q : ℕ) (y : Entry) → CountsHere (place_of (slot_at s m)) (its_row m) q y → CountsSo q y
    counts_here q y c = record {
      slot = m;
      page = c.page;
      entry = c.entry;
      counts = client_row s m not_first live c.page ∙ c.counts;
      frame = c.frame;
      itself = λ sharing. let it = c.itself sharing in (refl, it.0, it.1);
    }

    its_count : (slot : AbstractSlot) → a.slots m ≡ slot → StandsForSlot names s.spaces (slot_at s m) slot → (q : ℕ) (y : Entry) → its_row m q ≡ Some y →
        CountsSo q y
    unfolding place_in_words counted
    its_count (free id) at k q y is = absurd (let contradiction : false ≡ true = sym (ap (λ (j : Slot). is_live j) k) ∙ live in cc)
    its_count (serving id) at k q y is =
        absurd (not_first (sym (sym (h.tabled.ids m live) ∙ ap (λ (i : ℕ). i % NENV) (k.id_is ∙ k.first))))
    its_count (born b) at k q y is = by_child (is_childs_page (place_of (slot_at s m)) q) refl
      where
        by_child : (c : Bool) → is_childs_page (place_of (slot_at s m)) q ≡ c → CountsSo q y
        by_child false mine =
            counts_here q y
            (counts_so (place_of (slot_at s m)) (view_of s.spaces (slot_at s m).directory) (slot_at s m) b k.at q y is mine)
        by_child true childs =
            let c = childs_page h m b at q y is childs in
            record {
              slot = c.child;
              page = c.page;
              entry = c.entry;
              counts = c.counts;
              frame = c.frame;
              itself = λ sharing. absurd (let contradiction : false ≡ true = sym c.own_page ∙ sharing in cc);
            }
    its_count (unborn id parent) at k q y is =
        let guest : place_of (slot_at s m) ≡ place.Guest = unborn_guest (slot_at s m) id parent k.stack k.words in
        counts_here q y (counts_plain (place_of (slot_at s m)) (its_row m) q y (ap (λ (at : Place). counted at (its_row m) q) guest ∙ is))
      where
        unborn_guest : (k : Slot) (id parent : ℕ) → is_handlers k.registers.esp ≡ false → k.extra ≡ no_extra → place_of k ≡ place.Guest
        unborn_guest k id parent outside none = rw (outside, none) refl

    -- what has the frame of a page that is shared
    pub shares_so : (q : ℕ) (y : Entry) → its_row m q ≡ Some y → IsShared s y.frame → Shares s m q y
    shares_so q y is some = by_itself (itself_so (its_count (a.slots m) refl (h.slots m) q y is))
      where
        by_itself : (c : CountsSo q y) × (is_shared c.entry.perm ≡ true) → Shares s m q y
        by_itself found =
            let c = found.0 in
            let it = c.itself found.1 in
            let there : logical s.spaces s.environments.slots m q ≡ Some y =
            sym (λ i. logical s.spaces s.environments.slots (it.0 i) (it.1 i)) ∙ c.counts ∙ ap (λ (e : Entry). Some e) it.2 in
            record { counts = there; sharing = ap (λ (e : Entry). is_shared e.perm) (sym it.2) ∙ found.1 }

        itself_so : (c : CountsSo q y) → (d : CountsSo q y) × (is_shared d.entry.perm ≡ true)
        itself_so c =
            elim (cases_eq c.slot some.slot) [
              | inl one ↦ elim (cases_eq c.page some.page) [
                | inl two ↦
                    let same : c.entry ≡ some.entry =
                    same_Some c.entry some.entry
                    (sym c.counts ∙ (λ i. logical s.spaces s.environments.slots (one i) (two i)) ∙ some.there.counts) in
                    (c, ap (λ (e : Entry). is_shared e.perm) same ∙ some.there.sharing)
                | inr ne ↦ (c, other c (λ here too. ne too))
              ]
              | inr ne ↦ (c, other c (λ here too. ne here))
            ]
          where
            other : (c : CountsSo q y) → (c.slot ≡ some.slot → c.page ≡ some.page → ⊥) → is_shared c.entry.perm ≡ true
            other c apart =
                (h.apart c.slot c.page some.slot some.page c.entry some.entry apart c.counts some.there.counts (c.frame ∙ sym some.same)).shared
                ∙ some.there.sharing

  -- ---- an entry of a frame that is shared, and that the file server has not

  pub record Mapped (d q f : ℕ) : Type 0 where
    pub slot : ℕ
    pub not_first : 0 ≢ slot
    pub live : is_live (slot_at s slot) ≡ true
    pub home : (slot_at s slot).directory ≡ d
    pub entry : Entry
    pub there : Shares s slot q entry
    pub same : entry.frame ≡ f

  pub mapped_so : (f : ℕ) → IsShared s f → ((q : ℕ) (e : Entry) → its_row 0 q ≡ Some e → e.frame ≢ f) →
      (d q : ℕ) (e : Entry) → s.spaces.entries d q ≡ Some e → e.frame ≡ f → Mapped d q f
  unfolding rows_of
  mapped_so f some lacked d q e there same = record {
    slot = owner.0;
    not_first = not_first;
    live = owner.1;
    home = owner.2;
    entry = lasting e;
    there = shares_so owner.0 not_first owner.1 q (lasting e) row_is (subst (λ (g : ℕ). IsShared s g) (sym same) some);
    same = same;
  }
    where
      owner : (m : ℕ) × (is_live (slot_at s m) ≡ true) × ((slot_at s m).directory ≡ d)
      owner = h.in_order.spaces.owned d (ap is_directory (h.in_order.frames.owners d q e there))

      row_is : its_row owner.0 q ≡ Some (lasting e)
      row_is = ap (λ (k : ℕ). rows_of s.spaces k q) owner.2 ∙ ap (λ (o : Option Entry). option_map lasting o) there

      not_first : 0 ≢ owner.0
      not_first first = lacked q (lasting e) (ap (λ (m : ℕ). its_row m q) first ∙ row_is) same
