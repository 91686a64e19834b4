-- Each frame that is handed out goes on having a use where a page is removed, and where a whole space is destroyed: its pages, its
-- tables and its directory are free then, but for the pages that others have.
use Rattle.std.proofs.Common.{◌≡◌, ◌≢◌, ◌∙◌, ◌==◌, ◌<◌, ◌≤◌, ◌⊎◌, inl, inr, ℕ, zero, suc, Bool, true, false, refl, sym, ap}
use Rattle.std.proofs.Common.{subst, arith}
use Rattle.std.specs.Prelude.{Option, Some, None, if◌then◌else◌}
use Rattle.std.proofs.lemmas.Bool.Decides.{nat_tests}
use Rattle.std.proofs.lemmas.Option.{same_Some}
use Rattle.jos_base.specs.Reach.{Entry}
use Rattle.jos_base.specs.Counting.{page_count, page_limit}
use Rattle.jos_base.specs.SpacesState.{SpacesState, Region, page, table, put, freed, released, frame_of}
use Rattle.jos_base.specs.SpacesState.{reserved_frames}
use Rattle.jos_base.specs.SpacesState.{without_entry, unmapped, pages_removed, without_region, tables_freed, region_limit}
use Rattle.jos_base.specs.SpacesState.{destroyed}
use Rattle.lib_os.specs.InOrder.{HasOneUse}
use Rattle.lib_os.specs.Need.{HasUse, in_list, in_entry, as_directory, as_table, EachHasUse}
use Rattle.lib_os.proofs.Puts.{put-none, put-found}
use Rattle.lib_os.proofs.Releasing.{AreWithin}
use Rattle.lib_os.proofs.UsesFound.{freed_use, framed, released_use}
use Rattle.std.proofs.lemmas.Bool.{cases_eq}
use Rattle.jos_base.proofs.Maps.{upd-other}
use Rattle.jos_base.proofs.Puts.{place_cases, put-at, put-other}
use Rattle.jos_base.proofs.Counts.{page_count-some}
use Rattle.jos_base.proofs.Uses.{page_or_directory, page_or_table, table_or_directory}
use Rattle.jos_base.proofs.Released.{released_frames}

-- What is named is used as what names it says: of the one use of each frame what is so while a space is being destroyed.
pub record AreSorted (s : SpacesState) : Type 0 where
  pub within : AreWithin s.entries
  pub pages : (d p : ℕ) (e : Entry) → s.entries d p ≡ Some e → s.uses e.frame ≡ page
  pub tables : (d r : ℕ) (x : Region) → s.regions d r ≡ Some x → s.uses x.table ≡ table
  pub apart : (d r q k : ℕ) (x y : Region) → s.regions d r ≡ Some x → s.regions q k ≡ Some y → x.table ≡ y.table → (d ≡ q) × (r ≡ k)

pub are_sorted : (s : SpacesState) → HasOneUse s → AreSorted s
are_sorted s h = record {
  within = h.within;
  pages = h.pages;
  tables = λ d r x is. (h.tables d r x is).0;
  apart = h.tables_apart;
}

-- ---- of uses

-- ---- a page that no entry names is freed

released_sorted : (s : SpacesState) (o : Option ℕ) → AreSorted s → ((x : ℕ) → o ≡ Some x → s.uses x ≢ table) →
    AreSorted (released s o)
released_sorted s None h no_table = h
released_sorted s (Some x) h no_table = by_test (page_count s.entries x == 0) refl
  where
    by_test : (t : Bool) → (page_count s.entries x == 0) ≡ t → AreSorted (if t then freed s x else s)
    by_test false test = h
    by_test true test =
        let none : page_count s.entries x ≡ 0 = grind (arith, nat_tests) in
        record {
          within = h.within;
          pages = λ d p e is.
              let limits = h.within d p e is in
              let counted = page_count-some s.entries d p e limits.0 limits.1 is in
              upd-other s.uses x _ e.frame (λ same. let count = ap (page_count s.entries) same in
              absurd (omega (arith, counted, count, none)))
              ∙ h.pages d p e is;
          tables = λ d r y is.
              upd-other s.uses x _ y.table (λ same. absurd (no_table x refl (ap s.uses (sym same) ∙ h.tables d r y is)))
              ∙ h.tables d r y is;
          apart = h.apart;
        }

-- ---- one page

module _ (s : SpacesState) (d p : ℕ) (h : AreSorted s) where
  abbrev old : Option ℕ
  old = frame_of (s.entries d p)

  -- what stood there was a page
  old_page : (x : ℕ) → old ≡ Some x → s.uses x ≡ page
  old_page x is = let e = framed (s.entries d p) x is in ap s.uses (sym e.2) ∙ h.pages d p e.0 e.1

  without_sorted : AreSorted (without_entry s d p)
  without_sorted = record {
    within = λ q r x is. h.within q r x (put-none s.entries d p x q r is);
    pages = λ q r x is. h.pages q r x (put-none s.entries d p x q r is);
    tables = h.tables;
    apart = h.apart;
  }

  unmapped_sorted : AreSorted (unmapped s d p)
  unfolding unmapped
  unmapped_sorted = released_sorted (without_entry s d p) old without_sorted (λ x is. page_or_table (s.uses x) (old_page x is))

  without_use : (f : ℕ) → HasUse s f → HasUse (without_entry s d p) f ⊎ (old ≡ Some f)
  without_use f (in_list listed) = inl (in_list listed)
  without_use f (in_entry q r e stands same) = elim (place_cases q r d p) [
    | inl at ↦ inr (ap frame_of ((λ i. s.entries (sym at.0 i) (sym at.1 i)) ∙ stands) ∙ ap (λ (z : ℕ). Some z) same)
    | inr off ↦ inl (in_entry q r e (put-other s.entries d p None q r off ∙ stands) same)
  ]
  without_use f (as_directory is) = inl (as_directory is)
  without_use f (as_table q r region is lt stands same) = inl (as_table q r region is lt stands same)

  unmapped_use : (f : ℕ) → HasUse s f → HasUse (unmapped s d p) f
  unfolding unmapped
  unmapped_use f has =
      released_use (without_entry s d p) old (λ x is. page_or_directory (s.uses x) (old_page x is)) f (without_use f has)

  unmapped_frames : (unmapped s d p).frames ≡ s.frames
  unfolding unmapped
  unmapped_frames = released_frames (without_entry s d p) old

-- what is used goes on being used, and there are as many frames
pub use_found : (s t : SpacesState) → t.frames ≡ s.frames → ((f : ℕ) → HasUse s f → HasUse t f) → EachHasUse s → EachHasUse t
use_found s t frames keeps all f low high =
    keeps f (all f (subst (λ (n : ℕ). reserved_frames n ≤ f) frames low) (subst (λ (n : ℕ). f < n) frames high))

pub unmapped_found : (s : SpacesState) (d p : ℕ) → HasOneUse s → EachHasUse s → EachHasUse (unmapped s d p)
unmapped_found s d p h =
    use_found s (unmapped s d p) (unmapped_frames s d p (are_sorted s h)) (unmapped_use s d p (are_sorted s h))

-- ---- all pages of a space

-- the state after a part of a space is gone
record Keeps (s t : SpacesState) : Type 0 where
  sorted : AreSorted t
  frames : t.frames ≡ s.frames
  uses : (f : ℕ) → HasUse s f → HasUse t f

pages_kept : (s : SpacesState) (d n : ℕ) → AreSorted s → Keeps s (pages_removed s d n)
unfolding pages_removed
pages_kept s d zero h = record { sorted = h; frames = refl; uses = λ f has. has }
pages_kept s d (suc n) h =
    let before = pages_kept s d n h in
    let t = pages_removed s d n in
    record {
      sorted = unmapped_sorted t d n before.sorted;
      frames = unmapped_frames t d n before.sorted ∙ before.frames;
      uses = λ f has. unmapped_use t d n before.sorted f (before.uses f has);
    }

-- ---- its tables

module _ (s : SpacesState) (d n : ℕ) (h : AreSorted s) where
  region_kept : (o : Option Region) → s.regions d n ≡ o → Keeps s (without_region s d n o)
  region_kept None at = record { sorted = h; frames = refl; uses = λ f has. has }
  region_kept (Some region) at = record {
    sorted = record {
      within = h.within;
      pages = λ q r e is.
          upd-other s.uses region.table _ e.frame
          (λ same. absurd (page_or_table (s.uses e.frame) (h.pages q r e is) (ap s.uses same ∙ h.tables d n region at)))
          ∙ h.pages q r e is;
      tables = λ q r x is.
          upd-other s.uses region.table _ x.table (other_table q r x is) ∙ h.tables q r x (put-none s.regions d n x q r is);
      apart = λ q r a b x y is js. h.apart q r a b x y (put-none s.regions d n x q r is) (put-none s.regions d n y a b js);
    };
    frames = refl;
    uses = λ f has. freed_use without region.table (λ is. absurd
        (table_or_directory (s.uses region.table) (h.tables d n region at) is)) f (without_use_of f has);
  }
    where
      without : SpacesState
      without = record s { regions = put s.regions d n None }

      -- another region has another table
      other_table : (q r : ℕ) (x : Region) → put s.regions d n None q r ≡ Some x → x.table ≢ region.table
      other_table q r x is same =
          let was = put-none s.regions d n x q r is in
          let places = h.apart q r d n x region was at same in
          absurd (elim (put-found s.regions d n None q r x is) [
            | inl new ↦ (let e : ◌≡◌ {A = Option Region} None (Some x) = new.2 in absurd cc)
            | inr off ↦ off.0 places.0 places.1
          ])

      without_use_of : (f : ℕ) → HasUse s f → HasUse without f ⊎ (region.table ≡ f)
      without_use_of f (in_list listed) = inl (in_list listed)
      without_use_of f (in_entry q r e stands same) = inl (in_entry q r e stands same)
      without_use_of f (as_directory is) = inl (as_directory is)
      without_use_of f (as_table q r x is lt stands same) = elim (place_cases q r d n) [
        | inl here ↦
            inr (ap (λ (z : Region). z.table) (same_Some region x
            (sym at ∙ (λ i. s.regions (sym here.0 i) (sym here.1 i)) ∙ stands)) ∙ same)
        | inr off ↦ inl (as_table q r x is lt (put-other s.regions d n None q r off ∙ stands) same)
      ]

  -- the region has no table then
  region_gone : (o : Option Region) → s.regions d n ≡ o → (without_region s d n o).regions d n ≡ None
  region_gone None at = at
  region_gone (Some region) at = put-at s.regions d n None

  region_gone_still : (o : Option Region) (r : ℕ) → s.regions d r ≡ None → (without_region s d n o).regions d r ≡ None
  region_gone_still None r gone = gone
  region_gone_still (Some region) r gone = by_region (put s.regions d n None d r) refl
    where
      by_region : (o : Option Region) → put s.regions d n None d r ≡ o → o ≡ None
      by_region None is = refl
      by_region (Some x) is = absurd (let e : ◌≡◌ {A = Option Region} None (Some x) = sym gone
          ∙ put-none s.regions d n x d r is in cc)

tables_kept : (s : SpacesState) (d n : ℕ) → AreSorted s → Keeps s (tables_freed s d n)
unfolding tables_freed
tables_kept s d zero h = record { sorted = h; frames = refl; uses = λ f has. has }
tables_kept s d (suc n) h =
    let before = tables_kept s d n h in
    let t = tables_freed s d n in
    let one = region_kept t d n before.sorted (t.regions d n) refl in
    record {
      sorted = one.sorted;
      frames = one.frames ∙ before.frames;
      uses = λ f has. one.uses f (before.uses f has);
    }

tables_gone : (s : SpacesState) (d n r : ℕ) → AreSorted s → r < n → (tables_freed s d n).regions d r ≡ None
unfolding tables_freed
tables_gone s d zero r h lt = absurd (omega (arith, lt))
tables_gone s d (suc n) r h lt =
    let t = tables_freed s d n in
    let before = tables_kept s d n h in
    elim (cases_eq r n) [
      | inl same ↦
          ap (λ (k : ℕ). (without_region t d n (t.regions d n)).regions d k) same
          ∙ region_gone t d n before.sorted (t.regions d n) refl
      | inr ne ↦ region_gone_still t d n before.sorted (t.regions d n) r (tables_gone s d n r h (omega (arith, lt)))
    ]

-- ---- the space

pub destroyed_found : (s : SpacesState) (d : ℕ) → HasOneUse s → EachHasUse s → EachHasUse (destroyed s d)
unfolding destroyed
destroyed_found s d h =
    let pages = pages_kept s d page_limit (are_sorted s h) in
    let t = pages_removed s d page_limit in
    let tables = tables_kept t d region_limit pages.sorted in
    let u = tables_freed t d region_limit in
    use_found s (destroyed s d) (tables.frames ∙ pages.frames)
    (λ f has. freed_use u d
    (λ is r region lt stands. let gone = tables_gone t d region_limit r pages.sorted lt in
    absurd (let e : ◌≡◌ {A = Option Region} None (Some region) = sym gone ∙ stands in cc))
    f (inl (tables.uses f (pages.uses f has))))
