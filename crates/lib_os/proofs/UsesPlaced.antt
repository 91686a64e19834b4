-- Each frame that is handed out goes on having a use where the next free frame is handed out: as a directory, as a table, or as a
-- page that is inserted at once.
use Rattle.std.proofs.Common.{◌≡◌, ◌≢◌, ◌∙◌, ◌/◌, ◌<◌, ◌≤◌, ◌⊎◌, inl, inr, ℕ, false, List, [], ◌∷◌, refl, sym, ap, subst, arith}
use Rattle.std.specs.Prelude.{Option, Some, None, All}
use Rattle.std.specs.List.{Contains}
use Rattle.std.specs.Option.{option_map}
use Rattle.std.proofs.lemmas.Option.{same_Some}
use Rattle.jos_base.specs.declared.numbers.TheConstants.{NPTENTRIES}
use Rattle.jos_base.specs.Words.{upd}
use Rattle.jos_base.specs.Reach.{Entry}
use Rattle.jos_base.specs.Counting.{page_limit}
use Rattle.jos_base.specs.SpacesState.{SpacesState, Region, Use, free, fresh, page, directory, table, frame_of, region_limit}
use Rattle.jos_base.specs.SpacesState.{reserved_frames}
use Rattle.jos_base.specs.SpacesState.{created, created_from, taken, zero_page, fresh_from, fresh_of, with_table, tabled_new}
use Rattle.jos_base.specs.SpacesState.{tabled_by, tabled}
use Rattle.jos_base.specs.SpacesState.{with_entry, mapped, inserted, allocated_in, allocated}
use Rattle.lib_os.specs.InOrder.{HasOneUse, AreFree}
use Rattle.lib_os.specs.Need.{HasUse, in_list, in_entry, as_directory, as_table, EachHasUse}
use Rattle.lib_os.proofs.UsesFound.{contains_cases, framed, released_use}
use Rattle.std.proofs.lemmas.Bool.{cases_eq}
use Rattle.jos_base.proofs.Maps.{upd-at, upd-other}
use Rattle.jos_base.proofs.Puts.{place_cases, put-at, put-other}
use Rattle.jos_base.proofs.Uses.{page_or_directory, free_or_directory, fresh_or_directory, table_or_directory}
use Rattle.jos_base.proofs.Released.{released_frames}

-- ---- of uses

-- the next frame to be handed out is free
abbrev pub IsHeadFree : (ℕ → Use) → List ℕ → Type 0
IsHeadFree uses list = (g : ℕ) (rest : List ℕ) → list ≡ g ∷ rest → uses g ≡ free

pub head_free : (s : SpacesState) → HasOneUse s → IsHeadFree s.uses s.free
head_free s h g rest is = let listed = subst (AreFree s.uses) is h.free_list in listed.0

-- ---- a directory

pub created_found : (s : SpacesState) (made : ℕ × SpacesState) → EachHasUse s → created s ≡ Some made → EachHasUse made.1
unfolding created
created_found s made all is = by_list s.free refl is
  where
    by_list : (list : List ℕ) → s.free ≡ list → created_from s list ≡ Some made → EachHasUse made.1
    by_list [] at none = absurd cc
    by_list (g ∷ rest) at some =
        subst (λ (m : ℕ × SpacesState). EachHasUse m.1) (same_Some (g, after) made some) (λ f low high. used f (all f low high))
      where
        after : SpacesState
        after = (record s { uses = upd s.uses g directory; free = rest; pages = upd s.pages g [] })

        still : (d : ℕ) → s.uses d ≡ directory → after.uses d ≡ directory
        still d was = elim (cases_eq d g) [
          | inl same ↦ ap after.uses same ∙ upd-at s.uses g directory
          | inr ne ↦ upd-other s.uses g directory d ne ∙ was
        ]

        used : (f : ℕ) → HasUse s f → HasUse after f
        used f (in_list listed) = elim (contains_cases f g rest (subst (λ (l : List ℕ). Contains l f) at listed)) [
          | inl same ↦ as_directory (ap after.uses (sym same) ∙ upd-at s.uses g directory)
          | inr later ↦ in_list later
        ]
        used f (in_entry d p e stands same) = in_entry d p e stands same
        used f (as_directory was) = as_directory (still f was)
        used f (as_table d r region was lt stands same) = as_table d r region (still d was) lt stands same

-- ---- a table

-- what is so of a space that gets a page, and of the page's frame
pub record MayInsert (s : SpacesState) (d frame : ℕ) : Type 0 where
  pub owner : s.uses d ≡ directory
  pub head : IsHeadFree s.uses s.free
  pub other : s.uses frame ≢ directory
  pub pages : (q r : ℕ) (x : Entry) → s.entries q r ≡ Some x → s.uses x.frame ≢ directory

-- the frames that are handed out have uses, but for this one that may have none
abbrev pub EachOr : SpacesState → ℕ → Type 0
EachOr s frame = (f : ℕ) → reserved_frames s.frames ≤ f → f < s.frames → HasUse s f ⊎ (f ≡ frame)

-- the region has a table, and the entries are as before
record HasTable (s t : SpacesState) (frame : ℕ) : Type 0 where
  each : EachOr t frame
  other : t.uses frame ≢ directory
  pages : (q r : ℕ) (x : Entry) → t.entries q r ≡ Some x → t.uses x.frame ≢ directory

module _ (s : SpacesState) (d frame index : ℕ) (h : MayInsert s d frame) (lt : index < region_limit) where
  module _ (g : ℕ) (rest : List ℕ) (at : s.free ≡ g ∷ rest) (none : s.regions d index ≡ None) where
    abbrev after : SpacesState
    after = with_table (record s { free = rest }) d index g

    -- directories stay directories, and no other frame becomes one
    still : (q : ℕ) → s.uses q ≡ directory → after.uses q ≡ directory
    still q was = upd-other s.uses g table q (λ same. free_or_directory (s.uses g) (h.head g rest at)
        (ap s.uses (sym same) ∙ was)) ∙ was

    no_new : (q : ℕ) → s.uses q ≢ directory → after.uses q ≢ directory
    no_new q was_not is = elim (cases_eq q g) [
      | inl same ↦ table_or_directory (after.uses q) (ap after.uses same ∙ upd-at s.uses g table) is
      | inr ne ↦ was_not (sym (upd-other s.uses g table q ne) ∙ is)
    ]

    tabled_use : (f : ℕ) → HasUse s f → HasUse after f
    tabled_use f (in_list listed) = elim (contains_cases f g rest (subst (λ (l : List ℕ). Contains l f) at listed)) [
      | inl same ↦ as_table d index (record { table = g; accessed = false }) (still d h.owner) lt (put-at s.regions d index _) same
      | inr later ↦ in_list later
    ]
    tabled_use f (in_entry q r e stands same) = in_entry q r e stands same
    tabled_use f (as_directory was) = as_directory (still f was)
    tabled_use f (as_table q r region was below stands same) = elim (place_cases q r d index) [
      | inl here ↦
          absurd (let e : ◌≡◌ {A = Option Region} None (Some region) = sym none
          ∙ (λ i. s.regions (sym here.0 i) (sym here.1 i)) ∙ stands in cc)
      | inr off ↦ as_table q r region (still q was) below (put-other s.regions d index _ q r off ∙ stands) same
    ]

  tabled_has : (t : SpacesState) → EachOr s frame → tabled s d index ≡ Some t → HasTable s t frame
  unfolding tabled
  tabled_has t all is = by_region (s.regions d index) refl is
    where
      as_or : (u : SpacesState) → ((f : ℕ) → HasUse s f → HasUse u f) → (f : ℕ) → HasUse s f ⊎ (f ≡ frame) →
          HasUse u f ⊎ (f ≡ frame)
      as_or u keeps f (inl has) = inl (keeps f has)
      as_or u keeps f (inr same) = inr same

      by_list : (list : List ℕ) → s.free ≡ list → s.regions d index ≡ None → tabled_new s list d index ≡ Some t → HasTable s t frame
      by_list [] at none no_frame = absurd cc
      by_list (g ∷ rest) at none some =
          subst (λ (z : SpacesState). HasTable s z frame) (same_Some (after g rest at none) t some)
          (record {
            each = λ f low high. as_or (after g rest at none) (tabled_use g rest at none) f (all f low high);
            other = no_new g rest at none frame h.other;
            pages = λ q r x stands. no_new g rest at none x.frame (h.pages q r x stands);
          })

      by_region : (o : Option Region) → s.regions d index ≡ o → tabled_by s o d index ≡ Some t → HasTable s t frame
      by_region None none some = by_list s.free refl none some
      by_region (Some region) there some =
          subst (λ (z : SpacesState). HasTable s z frame) (same_Some s t some)
          (record { each = all; other = h.other; pages = h.pages })

-- ---- the entry is put

mapped_found : (s t : SpacesState) (d p : ℕ) (e : Entry) → HasTable s t e.frame → EachHasUse (mapped t d p e)
unfolding mapped
mapped_found s t d p e h f low high =
    released_use put_in old old_use f
    (put_use f (h.each f (subst (λ (n : ℕ). reserved_frames n ≤ f) (released_frames put_in old) low)
    (subst (λ (n : ℕ). f < n) (released_frames put_in old) high)))
  where
    put_in : SpacesState
    put_in = with_entry t d p e

    old : Option ℕ
    old = frame_of (t.entries d p)

    -- what stood there is no directory
    old_use : (x : ℕ) → old ≡ Some x → put_in.uses x ≢ directory
    old_use x is = elim (cases_eq x e.frame) [
      | inl same ↦ page_or_directory (put_in.uses x) (ap put_in.uses same ∙ upd-at t.uses e.frame page)
      | inr ne ↦ λ now.
          let y = framed (t.entries d p) x is in
          h.pages d p y.0 y.1 (ap t.uses y.2 ∙ sym (upd-other t.uses e.frame page x ne) ∙ now)
    ]

    still : (q : ℕ) → t.uses q ≡ directory → put_in.uses q ≡ directory
    still q was = upd-other t.uses e.frame page q (λ same. h.other (ap t.uses (sym same) ∙ was)) ∙ was

    put_use : (f : ℕ) → HasUse t f ⊎ (f ≡ e.frame) → HasUse put_in f ⊎ (old ≡ Some f)
    put_use f (inr same) = inl (in_entry d p e (put-at t.entries d p (Some e)) (sym same))
    put_use f (inl (in_list listed)) = inl (in_list listed)
    put_use f (inl (in_entry q r x stands same)) = elim (place_cases q r d p) [
      | inl here ↦ inr (ap frame_of ((λ i. t.entries (sym here.0 i) (sym here.1 i)) ∙ stands) ∙ ap (λ (z : ℕ). Some z) same)
      | inr off ↦ inl (in_entry q r x (put-other t.entries d p (Some e) q r off ∙ stands) same)
    ]
    put_use f (inl (as_directory was)) = inl (as_directory (still f was))
    put_use f (inl (as_table q r region was lt stands same)) = inl (as_table q r region (still q was) lt stands same)

region_below : (p : ℕ) → p < page_limit → p / NPTENTRIES < region_limit
unfolding page_limit
region_below p lt = omega (arith, lt)

pub inserted_found_or : (s t : SpacesState) (d p : ℕ) (e : Entry) → MayInsert s d e.frame → p < page_limit → EachOr s e.frame →
    inserted s d p e ≡ Some t → EachHasUse t
unfolding inserted
inserted_found_or s t d p e h lt all is = by_table (tabled s d (p / NPTENTRIES)) refl is
  where
    by_table : (o : Option SpacesState) → tabled s d (p / NPTENTRIES) ≡ o → option_map (λ u. mapped u d p e) o ≡ Some t →
        EachHasUse t
    by_table None at none = absurd cc
    by_table (Some u) at some =
        subst (λ (z : SpacesState). EachHasUse z) (same_Some (mapped u d p e) t some)
        (mapped_found s u d p e (tabled_has s d e.frame (p / NPTENTRIES) h (region_below p lt) u all at))

-- a page that stands somewhere
pub inserted_found : (s t : SpacesState) (d p : ℕ) (e : Entry) (q r : ℕ) (x : Entry) → HasOneUse s → s.uses d ≡ directory →
    p < page_limit →
    s.entries q r ≡ Some x → x.frame ≡ e.frame → EachHasUse s → inserted s d p e ≡ Some t → EachHasUse t
inserted_found s t d p e q r x h owner lt stands same all =
    inserted_found_or s t d p e (record {
      owner = owner;
      head = head_free s h;
      other = page_or_directory (s.uses e.frame) (ap s.uses (sym same) ∙ h.pages q r x stands);
      pages = λ a b y there. page_or_directory (s.uses y.frame) (h.pages a b y there);
    }) lt (λ f low high. inl (all f low high))

-- ---- a fresh page

module _ (s : SpacesState) (h : HasOneUse s) (d : ℕ) (owner : s.uses d ≡ directory) (g : ℕ) (rest : List ℕ)
    (at : s.free ≡ g ∷ rest) where
  abbrev first : SpacesState
  first = taken s g rest zero_page

  free_list : AreFree s.uses (g ∷ rest)
  free_list = subst (AreFree s.uses) at h.free_list

  was_free : s.uses g ≡ free
  was_free = let l = free_list in l.0

  kept : (q : ℕ) → s.uses q ≡ directory → first.uses q ≡ directory
  kept q was = upd-other s.uses g fresh q (λ same. free_or_directory (s.uses g) was_free (ap s.uses (sym same) ∙ was)) ∙ was

  first_inserts : MayInsert first d g
  first_inserts = record {
    owner = kept d owner;
    head = λ f more is.
        let l = free_list in
        let others = subst (λ (list : List ℕ). All (λ x. x ≢ g) list) is l.1 in
        let tail = subst (AreFree s.uses) is l.2 in
        upd-other s.uses g fresh f (others 0 f (omega arith)) ∙ tail.0;
    other = fresh_or_directory (first.uses g) (upd-at s.uses g fresh);
    pages = λ q r x stands now.
        let was = h.pages q r x stands in
        elim (cases_eq x.frame g) [
          | inl same ↦ fresh_or_directory (first.uses x.frame) (ap first.uses same ∙ upd-at s.uses g fresh) now
          | inr ne ↦ page_or_directory (s.uses x.frame) was (sym (upd-other s.uses g fresh x.frame ne) ∙ now)
        ];
  }

  first_use : (f : ℕ) → HasUse s f → HasUse first f ⊎ (f ≡ g)
  first_use f (in_list listed) = elim (contains_cases f g rest (subst (λ (l : List ℕ). Contains l f) at listed)) [
    | inl same ↦ inr (sym same)
    | inr later ↦ inl (in_list later)
  ]
  first_use f (in_entry q r e stands same) = inl (in_entry q r e stands same)
  first_use f (as_directory was) = inl (as_directory (kept f was))
  first_use f (as_table q r region was lt stands same) = inl (as_table q r region (kept q was) lt stands same)

pub allocated_found : (s : SpacesState) (d p perm : ℕ) (made : ℕ × SpacesState) → HasOneUse s → s.uses d ≡ directory →
    p < page_limit →
    EachHasUse s → allocated s d p perm ≡ Some made → EachHasUse made.1
unfolding allocated fresh_of
allocated_found s d p perm made h owner lt all is = by_list s.free refl is
  where
    by_list : (list : List ℕ) → s.free ≡ list → allocated_in (fresh_from s list) d p perm ≡ Some made → EachHasUse made.1
    by_list [] at none = absurd cc
    by_list (g ∷ rest) at some =
        by_insertion (inserted (first s h d owner g rest at) d p (record { frame = g; perm = perm })) refl some
      where
        by_insertion : (o : Option SpacesState) → inserted (first s h d owner g rest at) d p
            (record { frame = g; perm = perm }) ≡ o →
            option_map (λ (u : SpacesState). let pair : ℕ × SpacesState = (g, u) in pair) o ≡ Some made → EachHasUse made.1
        by_insertion None ins none = absurd cc
        by_insertion (Some u) ins found =
            subst (λ (z : SpacesState). EachHasUse z) (ap (λ (z : ℕ × SpacesState). z.1) (same_Some (g, u) made found))
            (inserted_found_or (first s h d owner g rest at) u d p (record { frame = g; perm = perm })
            (first_inserts s h d owner g rest at) lt (λ f low high. first_use s h d owner g rest at f (all f low high)) ins)
