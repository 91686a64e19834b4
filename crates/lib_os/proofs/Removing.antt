-- Entries are removed: one page, or a whole space with its tables and its directory. What is freed are pages that no entry
-- names any more, tables and a directory; so no page that is named loses its bytes.
use Rattle.std.proofs.Common.{◌≡◌, ◌≢◌, ◌∙◌, ◌<◌, inl, inr, ℕ, zero, suc, refl, sym, ap, subst, arith}
use Rattle.std.specs.Prelude.{Option, Some, None, [], is_some}
use Rattle.std.specs.Option.{option_map}
use Rattle.jos_base.specs.Reach.{Entry}
use Rattle.jos_base.specs.Counting.{page_limit}
use Rattle.jos_base.specs.SpacesState.{SpacesState, Region, directory, put, frame_of}
use Rattle.jos_base.specs.SpacesState.{without_entry, unmapped, pages_removed, without_region, tables_freed, region_limit, destroyed}
use Rattle.lib_os.specs.InOrder.{HasOneUse}
use Rattle.lib_os.specs.Rows.{rows_of, lasting}
use Rattle.lib_os.proofs.Effects.{Removed, Gone}
use Rattle.lib_os.proofs.Puts.{put-none}
use Rattle.lib_os.proofs.Releasing.{AreWithin, released_named, row_entry}
use Rattle.std.proofs.lemmas.Bool.{cases_eq}
use Rattle.jos_base.proofs.Maps.{upd-other}
use Rattle.jos_base.proofs.Puts.{put-at, put-other, put-seen}
use Rattle.jos_base.proofs.Uses.{page_or_table, page_or_directory}
use Rattle.jos_base.proofs.Released.{released_entries, released_regions}

-- ---- one page

module _ (s : SpacesState) (d p : ℕ) where
  unmapped_entries : (unmapped s d p).entries ≡ put s.entries d p None
  unfolding unmapped
  unmapped_entries = released_entries (without_entry s d p) (frame_of (s.entries d p))

  unmapped_regions : (unmapped s d p).regions ≡ s.regions
  unfolding unmapped
  unmapped_regions = released_regions (without_entry s d p) (frame_of (s.entries d p))

  -- what stands afterwards stood before
  unmapped_stood : (q r : ℕ) (x : Entry) → (unmapped s d p).entries q r ≡ Some x → s.entries q r ≡ Some x
  unmapped_stood q r x is = put-none s.entries d p x q r (sym (λ i. unmapped_entries i q r) ∙ is)

  unmapped_bytes : AreWithin s.entries → (q r : ℕ) (x : Entry) → (unmapped s d p).entries q r ≡ Some x → (unmapped s d p).pages x.frame ≡ s.pages x.frame
  unfolding unmapped
  unmapped_bytes within q r x is =
      released_named (without_entry s d p) (frame_of (s.entries d p)) (λ a b y there. within a b y (put-none s.entries d p y a b there))
      q r x (sym (λ i. unmapped_entries i q r) ∙ is)

  pub unmapped_removed : HasOneUse s → Removed s (unmapped s d p) d p
  unfolding rows_of
  unmapped_removed h = record {
    rows = (λ i q r. option_map lasting (unmapped_entries i q r)) ∙ (λ i q r. put-seen s.entries d p None (option_map lasting) q r i);
    bytes = λ q r x seen.
        let y = row_entry (unmapped s d p) q r x seen in
        subst (λ f. (unmapped s d p).pages f ≡ s.pages f) y.2 (unmapped_bytes h.within q r y.0 y.1);
    regions = λ q r. λ i. is_some (unmapped_regions i q r);
  }

-- ---- all pages of a space

-- What stands stood before, and the pages that are named have the bytes that they had.
record Fewer (s t : SpacesState) : Type 0 where
  stood : (q r : ℕ) (x : Entry) → t.entries q r ≡ Some x → s.entries q r ≡ Some x
  bytes : (q r : ℕ) (x : Entry) → t.entries q r ≡ Some x → t.pages x.frame ≡ s.pages x.frame
  regions : t.regions ≡ s.regions

module _ (s : SpacesState) (d : ℕ) (within : AreWithin s.entries) where
  pages_fewer : (n : ℕ) → Fewer s (pages_removed s d n)
  unfolding pages_removed
  pages_fewer zero = record { stood = λ q r x is. is; bytes = λ q r x is. refl; regions = refl }
  pages_fewer (suc n) =
      let before = pages_fewer n in
      let t = pages_removed s d n in
      record {
        stood = λ q r x is. before.stood q r x (unmapped_stood t d n q r x is);
        bytes = λ q r x is.
            unmapped_bytes t d n (λ a b y there. within a b y (before.stood a b y there)) q r x is
            ∙ before.bytes q r x (unmapped_stood t d n q r x is);
        regions = unmapped_regions t d n ∙ before.regions;
      }

  -- other spaces keep their pages
  pages_others : (n q r : ℕ) → q ≢ d → (pages_removed s d n).entries q r ≡ s.entries q r
  unfolding pages_removed
  pages_others zero q r ne = refl
  pages_others (suc n) q r ne =
      (λ i. unmapped_entries (pages_removed s d n) d n i q r)
      ∙ put-other (pages_removed s d n).entries d n None q r (λ same. absurd (ne same)) ∙ pages_others n q r ne

  pages_gone : (n r : ℕ) → r < n → (pages_removed s d n).entries d r ≡ None
  unfolding pages_removed
  pages_gone zero r below = absurd (omega arith)
  pages_gone (suc n) r below =
      (λ i. unmapped_entries (pages_removed s d n) d n i d r)
      ∙ elim (cases_eq r n) [
        | inl same ↦ ap (put (pages_removed s d n).entries d n None d) same ∙ put-at (pages_removed s d n).entries d n None
        | inr ne ↦ put-other (pages_removed s d n).entries d n None d r (λ _. ne) ∙ pages_gone n r (omega arith)
      ]

  -- none is left
  no_pages : (r : ℕ) → (pages_removed s d page_limit).entries d r ≡ None
  no_pages r = by_entry ((pages_removed s d page_limit).entries d r) refl
    where
      by_entry : (o : Option Entry) → (pages_removed s d page_limit).entries d r ≡ o → o ≡ None
      by_entry None is = refl
      by_entry (Some x) is =
          let fewer = pages_fewer page_limit in
          let limits = within d r x (fewer.stood d r x is) in
          let gone = pages_gone page_limit r limits.1 in
          absurd (let both : ◌≡◌ {A = Option Entry} None (Some x) = sym gone ∙ is in cc)

-- ---- its tables

-- The entries are as before, the tables that are there were there, and frames that are no tables have the bytes that they had.
record FewerTables (s t : SpacesState) (d : ℕ) : Type 0 where
  entries : t.entries ≡ s.entries
  stood : (q r : ℕ) (x : Region) → t.regions q r ≡ Some x → s.regions q r ≡ Some x
  others : (q r : ℕ) → q ≢ d → t.regions q r ≡ s.regions q r
  bytes : (f : ℕ) → ((q r : ℕ) (x : Region) → s.regions q r ≡ Some x → x.table ≢ f) → t.pages f ≡ s.pages f

region_fewer : (s : SpacesState) (d r : ℕ) (o : Option Region) → s.regions d r ≡ o → FewerTables s (without_region s d r o) d
region_fewer s d r None is = record {
  entries = refl;
  stood = λ q r x there. there;
  others = λ q r ne. refl;
  bytes = λ f unnamed. refl;
}
region_fewer s d r (Some region) is = record {
  entries = refl;
  stood = λ q k x there. put-none s.regions d r x q k there;
  others = λ q k ne. put-other s.regions d r None q k (λ same. absurd (ne same));
  bytes = λ f unnamed. upd-other s.pages region.table [] f (λ same. unnamed d r region is (sym same));
}

tables_fewer : (s : SpacesState) (d n : ℕ) → FewerTables s (tables_freed s d n) d
unfolding tables_freed
tables_fewer s d zero = record {
  entries = refl;
  stood = λ q r x there. there;
  others = λ q r ne. refl;
  bytes = λ f unnamed. refl;
}
tables_fewer s d (suc n) =
    let before = tables_fewer s d n in
    let t = tables_freed s d n in
    let one = region_fewer t d n (t.regions d n) refl in
    record {
      entries = one.entries ∙ before.entries;
      stood = λ q r x there. before.stood q r x (one.stood q r x there);
      others = λ q r ne. one.others q r ne ∙ before.others q r ne;
      bytes = λ f unnamed. one.bytes f (λ q r x there. unnamed q r x (before.stood q r x there)) ∙ before.bytes f unnamed;
    }

-- ---- the space

pub destroyed_gone : (s : SpacesState) (d : ℕ) → HasOneUse s → s.uses d ≡ directory → Gone s (destroyed s d) d
unfolding destroyed rows_of
destroyed_gone s d h owner = record {
  empty = λ r. ap (option_map lasting) (entries_are d r ∙ no_pages s d h.within r);
  rows = λ q r ne. ap (option_map lasting) (entries_are q r ∙ pages_others s d h.within page_limit q r ne);
  bytes = λ q r x seen.
      let y = row_entry (destroyed s d) q r x seen in
      subst (λ f. (destroyed s d).pages f ≡ s.pages f) y.2 (named q r y.0 (sym (entries_are q r) ∙ y.1));
  regions = λ q r ne. ap is_some (tables.others q r ne ∙ (λ i. fewer.regions i q r));
}
  where
    emptied : SpacesState
    emptied = pages_removed s d page_limit

    bare : SpacesState
    bare = tables_freed emptied d region_limit

    fewer : Fewer s emptied
    fewer = pages_fewer s d h.within page_limit

    tables : FewerTables emptied bare d
    tables = tables_fewer emptied d region_limit

    entries_are : (q r : ℕ) → (destroyed s d).entries q r ≡ emptied.entries q r
    entries_are q r = λ i. tables.entries i q r

    named : (q r : ℕ) (x : Entry) → emptied.entries q r ≡ Some x → (destroyed s d).pages x.frame ≡ s.pages x.frame
    named q r x is =
        let is_page = h.pages q r x (fewer.stood q r x is) in
        upd-other bare.pages d [] x.frame (λ same. page_or_directory (s.uses x.frame) is_page (ap s.uses same ∙ owner))
        ∙ tables.bytes x.frame (λ a b region there same.
        let known = h.tables a b region (sym (λ i. fewer.regions i a b) ∙ there) in
        page_or_table (s.uses x.frame) is_page (sym (ap s.uses same) ∙ known.0))
        ∙ fewer.bytes q r x is
