-- Entries are placed: a fresh page, or one that stands somewhere. The table of the region, if it had none, and the fresh
-- page are of free frames, and what stood in the place is freed where no entry names it any more; so no page that is named
-- loses its bytes.
use Rattle.std.proofs.Common.{◌≡◌, ◌≢◌, ◌∙◌, inl, inr, ◌/◌, ◌==◌, ℕ, Bool, true, false, refl, sym, ap, subst, arith}
use Rattle.std.specs.Prelude.{Option, Some, None, is_some, List, [], ◌∷◌, All, ◌&&◌, ◌||◌, bit_and}
use Rattle.std.specs.Option.{option_map}
use Rattle.std.proofs.lemmas.Option.{same_Some}
use Rattle.std.proofs.lemmas.Bool.Decides.{nat_tests}
use Rattle.jos_base.specs.declared.numbers.TheConstants.{NPTENTRIES}
use Rattle.jos_base.specs.Reach.{Entry}
use Rattle.jos_base.specs.SpacesState.{SpacesState, Region, Use, free, fresh, page, put, frame_of, with_entry, mapped, with_table}
use Rattle.jos_base.specs.SpacesState.{tabled_new, tabled_by, tabled, inserted, allocated_in, allocated, fresh_from, fresh_of, taken, zero_page}
use Rattle.jos_base.specs.SystemCalls.{is_page_perm}
use Rattle.lib_os.specs.InOrder.{HasOneUse, AreFree}
use Rattle.lib_os.specs.Rows.{rows_of, lasting}
use Rattle.lib_os.proofs.Effects.{Placed, Made, Given, is_in_region}
use Rattle.lib_os.proofs.Puts.{put-some, put-stands, put-stood}
use Rattle.lib_os.proofs.Releasing.{AreWithin, released_named, row_entry}
use Rattle.jos_base.proofs.Maps.{upd-at, upd-other}
use Rattle.jos_base.proofs.Puts.{put-at, put-seen}
use Rattle.jos_base.proofs.Released.{released_entries, released_regions}

free_or_page : (u : Use) → u ≡ page → u ≢ free
free_or_page u is not = absurd cc

free_or_fresh : (u : Use) → u ≡ fresh → u ≢ free
free_or_fresh u is not = absurd cc

-- the next frame to be handed out is free
abbrev HeadIsFree : (ℕ → Use) → List ℕ → Type 0
HeadIsFree uses list = (f : ℕ) (rest : List ℕ) → list ≡ f ∷ rest → uses f ≡ free

head_is_free : (s : SpacesState) → HasOneUse s → HeadIsFree s.uses s.free
head_is_free s h f rest is = let listed = subst (AreFree s.uses) is h.free_list in listed.0

-- ---- the region has a table

record Tabled (s t : SpacesState) (d index : ℕ) : Type 0 where
  entries : t.entries ≡ s.entries
  bytes : (f : ℕ) → s.uses f ≢ free → t.pages f ≡ s.pages f
  regions : (q r : ℕ) → is_some (t.regions q r) ≡ (((q == d) && (r == index)) || is_some (s.regions q r))

tabled_is : (s t : SpacesState) (d index : ℕ) → HeadIsFree s.uses s.free → tabled s d index ≡ Some t → Tabled s t d index
unfolding tabled
tabled_is s t d index head is = by_region (s.regions d index) refl is
  where
    by_list : (list : List ℕ) → s.free ≡ list → tabled_new s list d index ≡ Some t → Tabled s t d index
    by_list [] at none = absurd cc
    by_list (f ∷ rest) at some =
        subst (λ (z : SpacesState). Tabled s z d index) (same_Some (with_table (record s { free = rest }) d index f) t some)
        (record {
          entries = refl;
          bytes = λ g used. upd-other s.pages f [] g (λ same. used (ap s.uses same ∙ head f rest at));
          regions = put-stands s.regions d index (record { table = f; accessed = false });
        })

    by_region : (o : Option Region) → s.regions d index ≡ o → tabled_by s o d index ≡ Some t → Tabled s t d index
    by_region None at some = by_list s.free refl some
    by_region (Some region) at some =
        subst (λ (z : SpacesState). Tabled s z d index) (same_Some s t some)
        (record {
          entries = refl;
          bytes = λ f used. refl;
          regions = put-stood s.regions d index (ap is_some at);
        })

-- ---- the entry is put

record Puts (s t : SpacesState) (d p : ℕ) (e : Entry) : Type 0 where
  entries : t.entries ≡ put s.entries d p (Some e)
  bytes : (q r : ℕ) (x : Entry) → t.entries q r ≡ Some x → s.uses x.frame ≢ free → t.pages x.frame ≡ s.pages x.frame
  regions : (q r : ℕ) → is_some (t.regions q r) ≡ (is_in_region d p q r || is_some (s.regions q r))

mapped_puts : (s t : SpacesState) (d p : ℕ) (e : Entry) → Tabled s t d (p / NPTENTRIES) → AreWithin (mapped t d p e).entries →
    Puts s (mapped t d p e) d p e
unfolding mapped
mapped_puts s t d p e tab within = record {
  entries = entries_are ∙ ap (λ (f : ℕ → ℕ → Option Entry). put f d p (Some e)) tab.entries;
  bytes = λ q r x is used.
      released_named (with_entry t d p e) old put_within q r x (sym (λ i. entries_are i q r) ∙ is) ∙ tab.bytes x.frame used;
  regions = λ q r. (λ i. is_some (released_regions (with_entry t d p e) old i q r)) ∙ tab.regions q r;
}
  where
    old : Option ℕ
    old = frame_of (t.entries d p)

    entries_are : (mapped t d p e).entries ≡ put t.entries d p (Some e)
    entries_are = released_entries (with_entry t d p e) old

    put_within : AreWithin (put t.entries d p (Some e))
    put_within = subst AreWithin entries_are within

inserted_puts : (s t : SpacesState) (d p : ℕ) (e : Entry) → HeadIsFree s.uses s.free → AreWithin t.entries → inserted s d p e ≡ Some t →
    Puts s t d p e
unfolding inserted
inserted_puts s t d p e head within is = by_table (tabled s d (p / NPTENTRIES)) refl is
  where
    by_table : (o : Option SpacesState) → tabled s d (p / NPTENTRIES) ≡ o → option_map (λ u. mapped u d p e) o ≡ Some t → Puts s t d p e
    by_table None at none = absurd cc
    by_table (Some u) at some =
        let same = same_Some (mapped u d p e) t some in
        subst (λ (z : SpacesState). Puts s z d p e) same
        (mapped_puts s u d p e (tabled_is s u d (p / NPTENTRIES) head at)
        (subst (λ (z : SpacesState). AreWithin z.entries) (sym same) within))

-- ---- as it is seen

lasting_same : (e : Entry) → is_page_perm e.perm ≡ true → lasting e ≡ e
lasting_same e is = λ i. record { frame = e.frame; perm = bits i }
  where
    by_tests : (a : Bool) → (a && (bit_and e.perm 0xe07 == e.perm)) ≡ true → bit_and e.perm 0xe07 ≡ e.perm
    by_tests false test = absurd cc
    by_tests true test = grind (arith, nat_tests)

    bits : bit_and e.perm 0xe07 ≡ e.perm
    bits = by_tests (bit_and e.perm 0x005 == 0x005) is

put_seen : (s t : SpacesState) (d p : ℕ) (e : Entry) → Puts s t d p e → is_page_perm e.perm ≡ true → rows_of t ≡ put (rows_of s) d p (Some e)
unfolding rows_of
put_seen s t d p e puts bits =
    (λ i q r. option_map lasting (puts.entries i q r))
    ∙ (λ i q r. put-seen s.entries d p (Some e) (option_map lasting) q r i)
    ∙ ap (λ (x : Entry). put (λ q r. option_map lasting (s.entries q r)) d p (Some x)) (lasting_same e bits)

puts_placed : (s t : SpacesState) (d p : ℕ) (e : Entry) → Puts s t d p e → is_page_perm e.perm ≡ true →
    ((q r : ℕ) (x : Entry) → s.entries q r ≡ Some x → x.frame ≢ e.frame → s.uses x.frame ≢ free) → Placed s t d p e
puts_placed s t d p e puts bits used = record {
  rows = put_seen s t d p e puts bits;
  bytes = named;
  regions = puts.regions;
}
  where
    named : (q r : ℕ) (x : Entry) → rows_of t q r ≡ Some x → x.frame ≢ e.frame → t.pages x.frame ≡ s.pages x.frame
    named q r x seen other =
        let y = row_entry t q r x seen in
        subst (λ f. t.pages f ≡ s.pages f) y.2
        (elim (put-some s.entries d p e y.0 q r (sym (λ i. puts.entries i q r) ∙ y.1)) [
          | inl new ↦ absurd (other (sym y.2 ∙ ap (λ (z : Entry). z.frame) new.2))
          | inr old ↦ puts.bytes q r y.0 y.1 (used q r y.0 old (λ same. other (sym y.2 ∙ same)))
        ])

put_stands : (s t : SpacesState) (d p : ℕ) (e : Entry) → Puts s t d p e → t.entries d p ≡ Some e
put_stands s t d p e puts = (λ i. puts.entries i d p) ∙ put-at s.entries d p (Some e)

-- a page that stands somewhere is given to a space
pub inserted_given : (s t : SpacesState) (d p : ℕ) (e : Entry) (q r : ℕ) (x : Entry) → HasOneUse s → HasOneUse t → is_page_perm e.perm ≡ true →
    s.entries q r ≡ Some x → x.frame ≡ e.frame → inserted s d p e ≡ Some t → Given s t d p e
inserted_given s t d p e q r x h after bits stands same is =
    let puts = inserted_puts s t d p e (head_is_free s h) after.within is in
    record {
      placed = puts_placed s t d p e puts bits (λ a b y there ne. free_or_page (s.uses y.frame) (h.pages a b y there));
      same = puts.bytes d p e (put_stands s t d p e puts)
          (free_or_page (s.uses e.frame) (sym (ap s.uses same) ∙ h.pages q r x stands));
    }

-- a fresh page is given to a space
module _ (s : SpacesState) (h : HasOneUse s) (g : ℕ) (rest : List ℕ) (at : s.free ≡ g ∷ rest) where
  abbrev first : SpacesState
  first = taken s g rest zero_page

  listed : AreFree s.uses (g ∷ rest)
  listed = subst (AreFree s.uses) at h.free_list

  was_free : s.uses g ≡ free
  was_free = let l = listed in l.0

  first_head : HeadIsFree first.uses rest
  first_head f more is =
      let l = listed in
      let others = subst (λ list. All (λ x. x ≢ g) list) is l.1 in
      let tail = subst (AreFree s.uses) is l.2 in
      upd-other s.uses g fresh f (others 0 f (omega arith)) ∙ tail.0

  unnamed : (q r : ℕ) (x : Entry) → s.entries q r ≡ Some x → x.frame ≢ g
  unnamed q r x is same = free_or_page (s.uses x.frame) (h.pages q r x is) (ap s.uses same ∙ was_free)

  module _ (t : SpacesState) (d p perm : ℕ) (after : HasOneUse t) (bits : is_page_perm perm ≡ true) where
    abbrev entry : Entry
    entry = record { frame = g; perm = perm }

    first_used : (q r : ℕ) (x : Entry) → s.entries q r ≡ Some x → x.frame ≢ g → first.uses x.frame ≢ free
    first_used q r x is ne =
        free_or_page (first.uses x.frame) (upd-other s.uses g fresh x.frame ne ∙ h.pages q r x is)

    fresh_made : inserted first d p entry ≡ Some t → Made s t d p perm
    unfolding rows_of
    fresh_made is =
        let puts = inserted_puts first t d p entry first_head after.within is in
        let placed = puts_placed first t d p entry puts bits first_used in
        record {
          frame = g;
          placed = record {
            rows = placed.rows;
            bytes = λ q r x seen ne. placed.bytes q r x seen ne ∙ upd-other s.pages g zero_page x.frame ne;
            regions = placed.regions;
          };
          zero = puts.bytes d p entry (put_stands first t d p entry puts) (free_or_fresh (first.uses g) (upd-at s.uses g fresh))
              ∙ upd-at s.pages g zero_page;
          new = λ q r x seen same. let y = row_entry s q r x seen in unnamed q r y.0 y.1 (y.2 ∙ same);
        }

pub allocated_made : (s t : SpacesState) (d p perm f : ℕ) → HasOneUse s → HasOneUse t → is_page_perm perm ≡ true →
    allocated s d p perm ≡ Some (f, t) → Made s t d p perm
unfolding allocated fresh_of
allocated_made s t d p perm f h after bits is = by_list s.free refl is
  where
    by_list : (list : List ℕ) → s.free ≡ list → allocated_in (fresh_from s list) d p perm ≡ Some (f, t) → Made s t d p perm
    by_list [] at none = absurd cc
    by_list (g ∷ rest) at some =
        by_insertion (inserted (first s h g rest at) d p (record { frame = g; perm = perm })) refl some
      where
        by_insertion : (o : Option SpacesState) → inserted (first s h g rest at) d p (record { frame = g; perm = perm }) ≡ o →
            option_map (λ (u : SpacesState). let pair : ℕ × SpacesState = (g, u) in pair) o ≡ Some (f, t) → Made s t d p perm
        by_insertion None ins none = absurd cc
        by_insertion (Some u) ins found =
            let same : u ≡ t = ap (λ (z : ℕ × SpacesState). z.1) (same_Some (g, u) (f, t) found) in
            fresh_made s h g rest at t d p perm after bits (ins ∙ ap (λ (z : SpacesState). Some z) same)
