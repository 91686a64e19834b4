-- A page of zeros is taken for a page of a space, in the place of what stood there: its frame was free, and it is counted once. Frames that were
-- not free keep their bytes and their counts, but for that of the page that stood there.
use Rattle.std.proofs.Common.{◌≡◌, ◌≢◌, ◌∙◌, ◌+◌, ◌/◌, ◌<◌, ◌==◌, inl, inr, ℕ, Bool, true, false, List, [], ◌∷◌, Option, Some, None}
use Rattle.std.proofs.Common.{refl, sym, ap, subst, arith, if◌then◌else◌}
use Rattle.std.specs.Prelude.{All, is_some}
use Rattle.std.specs.Option.{option_map}
use Rattle.std.proofs.lemmas.Option.{none-some, same_Some}
use Rattle.jos_base.specs.declared.numbers.TheConstants.{NPTENTRIES}
use Rattle.jos_base.specs.Counting.{frame_limit, named, page_count, page_limit}
use Rattle.jos_base.specs.Reach.{Entry}
use Rattle.jos_base.specs.SpacesState.{SpacesState, Region, Use, free, fresh, page, table, allocated, allocated_in, frame_of, freed, fresh_from}
use Rattle.jos_base.specs.SpacesState.{fresh_of}
use Rattle.jos_base.specs.SpacesState.{inserted, mapped, own_count, put, reference_count, released, tabled, tabled_by, tabled_new, taken}
use Rattle.jos_base.specs.SpacesState.{with_entry, with_table}
use Rattle.jos_base.specs.SpacesState.{zero_page}
use Rattle.jos_base.proofs.Counts.{named_is, page_count-none, page_count-put}
use Rattle.jos_base.proofs.Maps.{upd-at, upd-other}
use Rattle.jos_base.proofs.Puts.{put-holds}
use Rattle.jos_base.proofs.Released.{released_entries, released_regions}
use Rattle.lib_os.specs.InOrder.{AreFree, HasOneUse}

-- what is so of a space behind it
pub record Taken (s t : SpacesState) (d p perm frame : ℕ) : Type 0 where
  pub entries : t.entries ≡ put s.entries d p (Some (record { frame = frame; perm = perm }))
  pub tables : (q r : ℕ) → is_some (s.regions q r) ≡ true → is_some (t.regions q r) ≡ true
  pub was_free : s.uses frame ≡ free
  pub zero : t.pages frame ≡ zero_page
  pub once : reference_count t frame ≡ 1
  pub kept : (f : ℕ) → s.uses f ≢ free → frame_of (s.entries d p) ≢ Some f → (t.pages f ≡ s.pages f) × (reference_count t f ≡ reference_count s f)

-- ---- a table for it

-- the next frame to be handed out is free
abbrev pub HeadFree : SpacesState → Type 0
HeadFree s = (f : ℕ) (rest : List ℕ) → s.free ≡ f ∷ rest → s.uses f ≡ free

pub record Tabled (s t : SpacesState) : Type 0 where
  pub entries : t.entries ≡ s.entries
  pub pages : (f : ℕ) → s.uses f ≢ free → t.pages f ≡ s.pages f
  pub uses : (f : ℕ) → s.uses f ≢ free → t.uses f ≡ s.uses f
  pub tables : (q r : ℕ) → is_some (s.regions q r) ≡ true → is_some (t.regions q r) ≡ true

pub tabled_so : (s t : SpacesState) (d index : ℕ) → HeadFree s → tabled s d index ≡ Some t → Tabled s t
unfolding tabled
tabled_so s t d index head is = by_region (s.regions d index) is
  where
    by_list : (list : List ℕ) → s.free ≡ list → tabled_new s list d index ≡ Some t → Tabled s t
    by_list [] at none = absurd (none-some t none)
    by_list (f ∷ rest) at some =
        let region : Region = record { table = f; accessed = false } in
        subst (λ (z : SpacesState). Tabled s z) (same_Some (with_table (record s { free = rest }) d index f) t some)
        (record {
          entries = refl;
          pages = λ g used. upd-other s.pages f [] g (λ same. used (ap s.uses same ∙ head f rest at));
          uses = λ g used. upd-other s.uses f table g (λ same. used (ap s.uses same ∙ head f rest at));
          tables = put-holds s.regions d index (Some region) (λ q r (x : Option Region). is_some (s.regions q r) ≡ true → is_some x ≡ true)
              (λ there. refl) (λ q r ne there. there);
        })

    by_region : (o : Option Region) → tabled_by s o d index ≡ Some t → Tabled s t
    by_region None some = by_list s.free refl some
    by_region (Some region) some =
        subst (λ (z : SpacesState). Tabled s z) (same_Some s t some)
        (record { entries = refl; pages = λ f used. refl; uses = λ f used. refl; tables = λ q r there. there })

-- ---- what stood there is given back

-- a frame that is another keeps its bytes and its use
module _ (s : SpacesState) (f : ℕ) where
  pub released_pages : (o : Option ℕ) → o ≢ Some f → (released s o).pages f ≡ s.pages f
  released_pages None ne = refl
  released_pages (Some g) ne = by_test (page_count s.entries g == 0)
    where
      by_test : (b : Bool) → (if b then freed s g else s).pages f ≡ s.pages f
      by_test true = upd-other s.pages g [] f (λ same. ne (ap (λ (x : ℕ). Some x) (sym same)))
      by_test false = refl

  pub released_uses : (o : Option ℕ) → o ≢ Some f → (released s o).uses f ≡ s.uses f
  released_uses None ne = refl
  released_uses (Some g) ne = by_test (page_count s.entries g == 0)
    where
      by_test : (b : Bool) → (if b then freed s g else s).uses f ≡ s.uses f
      by_test true = upd-other s.uses g free f (λ same. ne (ap (λ (x : ℕ). Some x) (sym same)))
      by_test false = refl

-- ---- uses

fresh_not_free : (u : Use) → u ≡ fresh → u ≢ free
fresh_not_free u one two = let contradiction : fresh ≡ free = sym one ∙ two in cc

pub page_not_free : (u : Use) → u ≡ page → u ≢ free
page_not_free u one two = let contradiction : page ≡ free = sym one ∙ two in cc

-- a frame that is not an entry's is not named by it
pub not_named : (o : Option Entry) (f : ℕ) → frame_of o ≢ Some f → named f o ≡ 0
not_named None f ne = refl
not_named (Some e) f ne = elim (named_is f e) [
  | inl is ↦ absurd (ne (ap (λ (x : ℕ). Some x) (sym is.0)))
  | inr is ↦ is.1
]

-- ---- the page

module _ (s : SpacesState) (h : HasOneUse s) (d p perm g : ℕ) (below_d : d < frame_limit) (below_p : p < page_limit) (rest : List ℕ)
    (at : s.free ≡ g ∷ rest) where
  abbrev first : SpacesState
  first = taken s g rest zero_page

  abbrev entry : Entry
  entry = record { frame = g; perm = perm }

  listed : AreFree s.uses (g ∷ rest)
  listed = subst (AreFree s.uses) at h.free_list

  g_free : s.uses g ≡ free
  g_free = let l = listed in l.0

  first_head : HeadFree first
  first_head f more is =
      let l = listed in
      let others = subst (λ list. All (λ x. x ≢ g) list) is l.1 in
      let tail = subst (AreFree s.uses) is l.2 in
      upd-other s.uses g fresh f (others 0 f (omega arith)) ∙ tail.0

  first_fresh : first.uses g ≡ fresh
  first_fresh = upd-at s.uses g fresh

  -- no entry names it
  unnamed : (q r : ℕ) → named g (s.entries q r) ≡ 0
  unnamed q r = by_entry (s.entries q r) refl
    where
      by_entry : (o : Option Entry) → s.entries q r ≡ o → named g o ≡ 0
      by_entry None is = refl
      by_entry (Some e) is = elim (named_is g e) [
        | inl same ↦ absurd (page_not_free (s.uses e.frame) (h.pages q r e is) (ap s.uses (sym same.0) ∙ g_free))
        | inr other ↦ other.1
      ]

  old_apart : frame_of (s.entries d p) ≢ Some g
  old_apart = by_entry (s.entries d p) refl
    where
      by_entry : (o : Option Entry) → s.entries d p ≡ o → frame_of o ≢ Some g
      by_entry None is same = absurd (none-some g same)
      by_entry (Some e) is same =
          let it : e.frame ≡ g = same_Some e.frame g same in
          page_not_free (s.uses e.frame) (h.pages d p e is) (ap s.uses it ∙ g_free)

  module _ (u : SpacesState) (has : Tabled first u) where
    abbrev w : SpacesState
    w = with_entry u d p entry

    abbrev t : SpacesState
    t = released w (frame_of (u.entries d p))

    old_is : frame_of (u.entries d p) ≡ frame_of (s.entries d p)
    old_is = λ i. frame_of (has.entries i d p)

    entries_now : t.entries ≡ put s.entries d p (Some entry)
    entries_now =
        released_entries w (frame_of (u.entries d p)) ∙ ap (λ (f : ℕ → ℕ → Option Entry). put f d p (Some entry)) has.entries

    count_now : (f : ℕ) → page_count t.entries f + named f (s.entries d p) ≡ page_count s.entries f + named f (Some entry)
    count_now f =
        ap (λ (e : ℕ → ℕ → Option Entry). page_count e f + named f (s.entries d p)) entries_now
        ∙ page_count-put s.entries d p (Some entry) f below_d below_p

    g_used : t.uses g ≡ page
    g_used = released_uses w g (frame_of (u.entries d p)) (λ same. old_apart (sym old_is ∙ same)) ∙ upd-at u.uses g page

    g_pages : t.pages g ≡ zero_page
    g_pages =
        released_pages w g (frame_of (u.entries d p)) (λ same. old_apart (sym old_is ∙ same))
        ∙ has.pages g (fresh_not_free (first.uses g) first_fresh) ∙ upd-at s.pages g zero_page

    counted_once : reference_count t g ≡ 1
    counted_once =
        let now = count_now g in
        let none : page_count s.entries g ≡ 0 = page_count-none s.entries g unnamed in
        let was : named g (s.entries d p) ≡ 0 = unnamed d p in
        let one : named g (Some entry) ≡ 1 = g_named in
        let own : own_count (t.uses g) ≡ 0 = ap own_count g_used in
        omega (arith, now, none, was, one, own)
      where
        g_named : named g (Some entry) ≡ 1
        g_named = elim (named_is g entry) [ inl is ↦ is.1 | inr is ↦ absurd (is.0 refl) ]

    kept_so : (f : ℕ) → s.uses f ≢ free → frame_of (s.entries d p) ≢ Some f → (t.pages f ≡ s.pages f) × (reference_count t f ≡ reference_count s f)
    kept_so f used apart = (pages_kept, counts_kept)
      where
        ne : f ≢ g
        ne same = used (ap s.uses same ∙ g_free)

        first_uses : first.uses f ≡ s.uses f
        first_uses = upd-other s.uses g fresh f ne

        first_used : first.uses f ≢ free
        first_used is = used (sym first_uses ∙ is)

        old : frame_of (u.entries d p) ≢ Some f
        old same = apart (sym old_is ∙ same)

        pages_kept : t.pages f ≡ s.pages f
        pages_kept = released_pages w f (frame_of (u.entries d p)) old ∙ has.pages f first_used ∙ upd-other s.pages g zero_page f ne

        uses_kept : t.uses f ≡ s.uses f
        uses_kept =
            released_uses w f (frame_of (u.entries d p)) old ∙ upd-other u.uses g page f ne ∙ has.uses f first_used ∙ first_uses

        not_new : named f (Some entry) ≡ 0
        not_new = not_named (Some entry) f (λ same. ne (sym (same_Some g f same)))

        counts_kept : reference_count t f ≡ reference_count s f
        counts_kept =
            let now = count_now f in
            let was : named f (s.entries d p) ≡ 0 = not_named (s.entries d p) f apart in
            let new = not_new in
            let own : own_count (t.uses f) ≡ own_count (s.uses f) = ap own_count uses_kept in
            omega (arith, now, was, new, own)

    taken_so : Taken s t d p perm g
    taken_so = record {
      entries = entries_now;
      tables = λ q r there. (λ i. is_some (released_regions w (frame_of (u.entries d p)) i q r)) ∙ has.tables q r there;
      was_free = g_free;
      zero = g_pages;
      once = counted_once;
      kept = kept_so;
    }

  inserted_so : (t : SpacesState) → inserted first d p entry ≡ Some t → Taken s t d p perm g
  unfolding inserted mapped
  inserted_so t is = by_table (tabled first d (p / NPTENTRIES)) refl is
    where
      by_table : (o : Option SpacesState) → tabled first d (p / NPTENTRIES) ≡ o → option_map (λ u. mapped u d p entry) o ≡ Some t →
          Taken s t d p perm g
      by_table None at_table found = absurd (none-some t found)
      by_table (Some u) at_table found =
          subst (λ (z : SpacesState). Taken s z d p perm g) (same_Some (mapped u d p entry) t found)
          (taken_so u (tabled_so first u d (p / NPTENTRIES) first_head at_table))

pub page_taken : (s t : SpacesState) (d p perm f : ℕ) → HasOneUse s → d < frame_limit → p < page_limit → allocated s d p perm ≡ Some (f, t) →
    Taken s t d p perm f
unfolding allocated fresh_of
page_taken s t d p perm f h below_d below_p is = by_list s.free refl is
  where
    by_list : (list : List ℕ) → s.free ≡ list → allocated_in (fresh_from s list) d p perm ≡ Some (f, t) → Taken s t d p perm f
    by_list [] at found = absurd (none-some (f, t) found)
    by_list (g ∷ rest) at found = by_insertion (inserted (taken s g rest zero_page) d p (record { frame = g; perm = perm })) refl found
      where
        by_insertion : (o : Option SpacesState) → inserted (taken s g rest zero_page) d p (record { frame = g; perm = perm }) ≡ o →
            option_map (λ (u : SpacesState). let pair : ℕ × SpacesState = (g, u) in pair) o ≡ Some (f, t) → Taken s t d p perm f
        by_insertion None ins found = absurd (none-some (f, t) found)
        by_insertion (Some u) ins found =
            let both = same_Some (g, u) (f, t) found in
            let frame : g ≡ f = ap (λ (z : ℕ × SpacesState). z.0) both in
            let state : u ≡ t = ap (λ (z : ℕ × SpacesState). z.1) both in
            subst (λ (x : ℕ). Taken s t d p perm x) frame
            (inserted_so s h d p perm g below_d below_p rest at t (ins ∙ ap (λ (z : SpacesState). Some z) state))
