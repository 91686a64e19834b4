-- What takes frames from the free list leaves each frame its one use: a new directory, and a new page with the table of its
-- region.
use Rattle.std.proofs.Common.{◌≡◌, ◌≢◌, ◌∙◌, ◌⊎◌, inl, inr, ◌<◌, ◌/◌, ℕ, Bool, true, false, List, [], ◌∷◌, Option, Some, None}
use Rattle.std.proofs.Common.{◌+◌, ◌≤◌, length, not, refl, sym, ap, subst, arith}
use Rattle.std.specs.Prelude.{is_some}
use Rattle.std.specs.List.{All}
use Rattle.std.specs.Option.{option_map}
use Rattle.std.proofs.lemmas.Bool.{false≢true, cases_eq, or_right}
use Rattle.std.proofs.lemmas.List.Elements.{All-tail}
use Rattle.std.proofs.lemmas.Option.{same_Some}
use Rattle.jos_base.specs.declared.numbers.TheConstants.{NPTENTRIES}
use Rattle.jos_base.specs.Counting.{Entries, frame_limit, page_limit}
use Rattle.jos_base.specs.Environments.{bit_of}
use Rattle.jos_base.specs.Reach.{Entry}
use Rattle.jos_base.specs.SpacesState.{SpacesState, Region, Use, reserved, free, fresh, page, directory, table, is_directory, put}
use Rattle.jos_base.specs.SpacesState.{frame_of, released}
use Rattle.jos_base.specs.SpacesState.{taken, fresh_from, fresh_of, with_entry, with_table, mapped, zero_page}
use Rattle.jos_base.specs.SpacesState.{tabled_new, tabled_by, tabled, inserted, allocated_in, allocated}
use Rattle.jos_base.specs.Words.{upd}
use Rattle.lib_os.specs.InOrder.{HasOneUse, AreFree}
use Rattle.lib_os.proofs.Puts.{put-some, put-stands}
use Rattle.jos_base.proofs.Maps.{upd-at, upd-other, upd-stays}
use Rattle.jos_base.proofs.Puts.{put-at}
use Rattle.jos_base.proofs.Released.{released_entries}

-- the frames of the list have numbers below the limit
abbrev pub AreBelow : List ℕ → Type 0
AreBelow [] = Unit {0}
AreBelow (f ∷ rest) = (f < frame_limit) × AreBelow rest

-- no entry or region names a frame of this use, nor is it a space
abbrev is_unnamed : Use → Bool
is_unnamed free = true
is_unnamed fresh = true
is_unnamed _ = false

-- ---- one frame gets another use

upd-cases : {V : Type 0} (f : ℕ → V) (k : ℕ) (v : V) (q : ℕ) → ((q ≡ k) × (upd f k v q ≡ v)) ⊎ (upd f k v q ≡ f q)
upd-cases f k v q = elim (cases_eq q k) [
  | inl e ↦ inl (e, ap (upd f k v) e ∙ upd-at f k v)
  | inr ne ↦ inr (upd-other f k v q ne)
]

rest_free : (uses : ℕ → Use) (f : ℕ) (v : Use) (rest : List ℕ) → All (λ g. g ≢ f) rest → AreFree uses rest → AreFree (upd uses f v) rest
rest_free uses f v [] others h = tt
rest_free uses f v (g ∷ rest) others h =
    (upd-other uses f v g (others 0 g (omega arith)) ∙ h.0, h.1, rest_free uses f v rest (All-tail (λ x. x ≢ f) g rest others) h.2)

module _ (s : SpacesState) (h : HasOneUse s) (f : ℕ) (was : is_unnamed (s.uses f) ≡ true) (v : Use) where
  kept : (g : ℕ) (u : Use) → is_unnamed u ≡ false → s.uses g ≡ u → upd s.uses f v g ≡ u
  kept g u named at =
      upd-other s.uses f v g (λ same. false≢true (sym named ∙ ap is_unnamed (sym at ∙ ap s.uses same) ∙ was)) ∙ at

  retyped : (list : List ℕ) (bytes : ℕ → List ℕ) → AreFree (upd s.uses f v) list →
      HasOneUse (record s { uses = upd s.uses f v; free = list; pages = bytes })
  retyped list bytes listed = record {
    pages = λ d p e is. kept e.frame page refl (h.pages d p e is);
    owners = λ d p e is. kept d directory refl (h.owners d p e is);
    within = h.within;
    small = h.small;
    regions = h.regions;
    tables = λ d r region is. let t = h.tables d r region is in (kept region.table table refl t.0, t.1);
    tables_apart = h.tables_apart;
    region_owners = λ d r region is. kept d directory refl (h.region_owners d r region is);
    free_list = listed;
  }

  -- directories are where they were
  same_directories : is_directory v ≡ false → (g : ℕ) → is_directory (upd s.uses f v g) ≡ is_directory (s.uses g)
  same_directories no_directory g = by_use (upd-cases s.uses f v g)
    where
      plain : (u : Use) → is_unnamed u ≡ true → is_directory u ≡ false
      plain free is = refl
      plain fresh is = refl
      plain page is = absurd (false≢true is)
      plain directory is = absurd (false≢true is)
      plain table is = absurd (false≢true is)
      plain reserved is = absurd (false≢true is)

      by_use : ((g ≡ f) × (upd s.uses f v g ≡ v)) ⊎ ((upd s.uses f v g ≡ s.uses g)) →
          is_directory (upd s.uses f v g) ≡ is_directory (s.uses g)
      by_use (inl here) = ap is_directory here.1 ∙ no_directory ∙ sym (plain (s.uses g) (ap is_unnamed (ap s.uses here.0) ∙ was))
      by_use (inr there) = ap is_directory there

-- ---- what is put

-- a region gets its table, which no other has
region_put : (s : SpacesState) → HasOneUse s → (d r : ℕ) → s.uses d ≡ directory → (region : Region) → s.uses region.table ≡ table → region.table < frame_limit →
    ((q i : ℕ) (x : Region) → s.regions q i ≡ Some x → x.table ≢ region.table) →
    HasOneUse (record s { regions = put s.regions d r (Some region) })
region_put s h d r space region is_table small new = record {
  pages = h.pages;
  owners = h.owners;
  within = h.within;
  small = h.small;
  regions = λ q p e is. put-stands s.regions d r region q (p / NPTENTRIES) ∙ or_right _ _ (h.regions q p e is);
  tables = λ q i x is. elim (put-some s.regions d r region x q i is) [
    | inl here ↦ (ap (λ (y : Region). s.uses y.table) here.2 ∙ is_table, subst (λ (y : Region). y.table < frame_limit) (sym here.2) small)
    | inr there ↦ h.tables q i x there
  ];
  tables_apart = λ q i m j x y is js same. elim (put-some s.regions d r region x q i is) [
    | inl here ↦ elim (put-some s.regions d r region y m j js) [
      | inl too ↦ (here.0 ∙ sym too.0, here.1 ∙ sym too.1)
      | inr there ↦ absurd (new m j y there (sym same ∙ ap (λ (z : Region). z.table) here.2))
    ]
    | inr there ↦ elim (put-some s.regions d r region y m j js) [
      | inl too ↦ absurd (new q i x there (same ∙ ap (λ (z : Region). z.table) too.2))
      | inr other ↦ h.tables_apart q i m j x y there other same
    ]
  ];
  region_owners = λ q i x is. elim (put-some s.regions d r region x q i is) [
    | inl here ↦ ap s.uses here.0 ∙ space
    | inr there ↦ h.region_owners q i x there
  ];
  free_list = h.free_list;
}

-- a page gets an entry
pub entry_put : (s : SpacesState) → HasOneUse s → (d p : ℕ) (e : Entry) → s.uses e.frame ≡ page → s.uses d ≡ directory →
    d < frame_limit → p < page_limit → e.frame < frame_limit → e.perm < 4096 → is_some (s.regions d (p / NPTENTRIES)) ≡ true →
    HasOneUse (record s { entries = put s.entries d p (Some e) })
entry_put s h d p e is_page space d_small p_small frame_small perm_small region = record {
  pages = λ q r x is. elim (put-some s.entries d p e x q r is) [
    | inl here ↦ ap (λ (y : Entry). s.uses y.frame) here.2 ∙ is_page
    | inr there ↦ h.pages q r x there
  ];
  owners = λ q r x is. elim (put-some s.entries d p e x q r is) [
    | inl here ↦ ap s.uses here.0 ∙ space
    | inr there ↦ h.owners q r x there
  ];
  within = λ q r x is. elim (put-some s.entries d p e x q r is) [
    | inl here ↦ (subst (λ n. n < frame_limit) (sym here.0) d_small, subst (λ n. n < page_limit) (sym here.1) p_small)
    | inr there ↦ h.within q r x there
  ];
  small = λ q r x is. elim (put-some s.entries d p e x q r is) [
    | inl here ↦ (
      subst (λ (y : Entry). y.frame < frame_limit) (sym here.2) frame_small,
      subst (λ (y : Entry). y.perm < 4096)
          (sym here.2) perm_small,
    )
    | inr there ↦ h.small q r x there
  ];
  regions = λ q r x is. elim (put-some s.entries d p e x q r is) [
    | inl here ↦ (λ i. is_some (s.regions (here.0 i) (here.1 i / NPTENTRIES))) ∙ region
    | inr there ↦ h.regions q r x there
  ];
  tables = h.tables;
  tables_apart = h.tables_apart;
  region_owners = h.region_owners;
  free_list = h.free_list;
}

-- a frame that is not free may get another use, whatever the list
still_free : (s : SpacesState) (g : ℕ) → s.uses g ≡ fresh → AreFree s.uses s.free → AreFree (upd s.uses g page) s.free
still_free s g is listed = by_list s.free listed
  where
    by_list : (list : List ℕ) → AreFree s.uses list → AreFree (upd s.uses g page) list
    by_list [] h = tt
    by_list (f ∷ rest) h = (
      upd-other s.uses g page f (λ same. let clash : fresh ≡ free = sym is ∙ ap s.uses (sym same) ∙ h.0 in absurd cc)
          ∙ h.0,
      h.1,
      by_list rest h.2,
    )

-- ---- frames are taken

-- The frames that are left are in order, and the directories are those that were.
pub record Takes (s t : SpacesState) : Type 0 where
  pub one_use : HasOneUse t
  pub below : AreBelow t.free
  pub directories : (f : ℕ) → is_directory (t.uses f) ≡ is_directory (s.uses f)
  pub frames : t.frames ≡ s.frames

-- the head of the list
module _ (s : SpacesState) (h : HasOneUse s) (below : AreBelow s.free) (g : ℕ) (rest : List ℕ) (at : s.free ≡ g ∷ rest) where
  head_listed : AreFree s.uses (g ∷ rest)
  head_listed = subst (AreFree s.uses) at h.free_list

  pub head_below : AreBelow (g ∷ rest)
  head_below = subst AreBelow at below

  head_unnamed : is_unnamed (s.uses g) ≡ true
  head_unnamed = let l = head_listed in ap is_unnamed l.0

  pub head_taken : (v : Use) (bytes : ℕ → List ℕ) → HasOneUse (record s { uses = upd s.uses g v; free = rest; pages = bytes })
  head_taken v bytes = let l = head_listed in retyped s h g head_unnamed v rest bytes (rest_free s.uses g v rest l.1 l.2)

-- the region of a page has a table then
record Tabled (s t : SpacesState) (d i : ℕ) : Type 0 where
  takes : Takes s t
  stands : is_some (t.regions d i) ≡ true
  entries : t.entries ≡ s.entries
  uses : (f : ℕ) → s.uses f ≢ free → t.uses f ≡ s.uses f

tabled_takes : (s t : SpacesState) (d i : ℕ) → HasOneUse s → AreBelow s.free → s.uses d ≡ directory → tabled s d i ≡ Some t → Tabled s t d i
unfolding tabled
tabled_takes s t d i h below space is = by_region (s.regions d i) refl is
  where
    by_list : (list : List ℕ) → s.free ≡ list → tabled_new s list d i ≡ Some t → Tabled s t d i
    by_list [] at none = absurd cc
    by_list (g ∷ rest) at some =
        let l = head_listed s h below g rest at in
        let low = head_below s h below g rest at in
        let region : Region = record { table = g; accessed = false } in
        let new = λ (q j : ℕ) (x : Region) (stands : s.regions q j ≡ Some x).
        λ (same : x.table ≡ g). false≢true (ap is_unnamed (sym (h.tables q j x stands).0 ∙ ap s.uses same)
        ∙ head_unnamed s h below g rest at) in
        subst (λ (z : SpacesState). Tabled s z d i) (same_Some (with_table (record s { free = rest }) d i g) t some)
        (record {
          takes = record {
            one_use = region_put (record s { uses = upd s.uses g table; free = rest; pages = upd s.pages g [] })
                (head_taken s h below g rest at table (upd s.pages g [])) d i
                (kept s h g (head_unnamed s h below g rest at) table d directory refl space) region (upd-at s.uses g table) low.0 new;
            below = low.1;
            directories = same_directories s h g (head_unnamed s h below g rest at) table refl;
            frames = refl;
          };
          stands = ap is_some (put-at s.regions d i (Some region));
          entries = refl;
          uses = λ f used. upd-other s.uses g table f (λ same. used (ap s.uses same ∙ l.0));
        })

    by_region : (o : Option Region) → s.regions d i ≡ o → tabled_by s o d i ≡ Some t → Tabled s t d i
    by_region None at some = by_list s.free refl some
    by_region (Some region) at some =
        subst (λ (z : SpacesState). Tabled s z d i) (same_Some s t some)
        (record {
          takes = record { one_use = h; below = below; directories = λ f. refl; frames = refl };
          stands = ap is_some at;
          entries = refl;
          uses = λ f used. refl;
        })

-- a page where none stood
pub mapped_new : (s : SpacesState) (d p : ℕ) (e : Entry) → s.entries d p ≡ None → mapped s d p e ≡ with_entry s d p e
unfolding mapped
mapped_new s d p e none = ap (λ (o : Option Entry). released (with_entry s d p e) (frame_of o)) none

module _ (s : SpacesState) (h : HasOneUse s) (below : AreBelow s.free) (d p perm : ℕ) (space : s.uses d ≡ directory)
    (d_small : d < frame_limit) (p_small : p < page_limit) (perm_small : perm < 4096) (none : s.entries d p ≡ None) where
  module _ (g : ℕ) (rest : List ℕ) (at : s.free ≡ g ∷ rest) where
    abbrev first : SpacesState
    first = taken s g rest zero_page

    abbrev entry : Entry
    entry = record { frame = g; perm = perm }

    first_one : HasOneUse first
    first_one = head_taken s h below g rest at fresh (upd s.pages g zero_page)

    space_kept : first.uses d ≡ directory
    space_kept = kept s h g (head_unnamed s h below g rest at) fresh d directory refl space

    inserted_takes : (t : SpacesState) → inserted first d p entry ≡ Some t → Takes s t
    unfolding inserted
    inserted_takes t is = by_table (tabled first d (p / NPTENTRIES)) refl is
      where
        by_table : (o : Option SpacesState) → tabled first d (p / NPTENTRIES) ≡ o →
            option_map (λ u. mapped u d p entry) o ≡ Some t → Takes s t
        by_table None tab found = absurd cc
        by_table (Some u) tab found =
            let low = head_below s h below g rest at in
            let put_in = tabled_takes first u d (p / NPTENTRIES) first_one low.1 space_kept tab in
            let is_fresh : u.uses g ≡ fresh =
            put_in.uses g (λ same. let clash : fresh ≡ free = sym (upd-at s.uses g fresh) ∙ same in absurd cc) ∙ upd-at s.uses g fresh in
            let unnamed : is_unnamed (u.uses g) ≡ true = ap is_unnamed is_fresh in
            let space_too : u.uses d ≡ directory =
            put_in.uses d (λ same. let clash : directory ≡ free = sym space_kept ∙ same in absurd cc) ∙ space_kept in
            let listed : AreFree (upd u.uses g page) u.free = still_free u g is_fresh put_in.takes.one_use.free_list in
            let result : mapped u d p entry ≡ t = same_Some (mapped u d p entry) t found in
            let nothing : u.entries d p ≡ None = (λ i. put_in.entries i d p) ∙ none in
            subst (λ (z : SpacesState). Takes s z) (sym (mapped_new u d p entry nothing) ∙ result)
            (record {
              one_use = entry_put (record u { uses = upd u.uses g page })
                  (retyped u put_in.takes.one_use g unnamed page u.free u.pages listed) d p entry
                  (upd-at u.uses g page) (kept u put_in.takes.one_use g unnamed page d directory refl space_too) d_small p_small
                  low.0 perm_small put_in.stands;
              below = put_in.takes.below;
              directories = λ f. same_directories u put_in.takes.one_use g unnamed page refl f ∙ put_in.takes.directories f
                  ∙ same_directories s h g (head_unnamed s h below g rest at) fresh refl f;
              frames = put_in.takes.frames;
            })

  pub allocated_takes : (f : ℕ) (t : SpacesState) → allocated s d p perm ≡ Some (f, t) → Takes s t
  unfolding allocated fresh_of
  allocated_takes f t is = by_list s.free refl is
    where
      by_list : (list : List ℕ) → s.free ≡ list → allocated_in (fresh_from s list) d p perm ≡ Some (f, t) → Takes s t
      by_list [] at none_free = absurd cc
      by_list (g ∷ rest) at some = by_insertion (inserted (first g rest at) d p (entry g rest at)) refl some
        where
          by_insertion : (o : Option SpacesState) → inserted (first g rest at) d p (entry g rest at) ≡ o →
              option_map (λ (u : SpacesState). let pair : ℕ × SpacesState = (g, u) in pair) o ≡ Some (f, t) → Takes s t
          by_insertion None ins found = absurd cc
          by_insertion (Some u) ins found =
              let same : u ≡ t = ap (λ (z : ℕ × SpacesState). z.1) (same_Some (g, u) (f, t) found) in
              subst (λ (z : SpacesState). Takes s z) same (inserted_takes g rest at u ins)

-- ---- a table takes a frame

-- so many frames are left
record Spends (s t : SpacesState) (d i : ℕ) : Type 0 where
  entries : t.entries ≡ s.entries
  left : length t.free + bit_of (not (is_some (s.regions d i))) ≡ length s.free

tabled_spends : (s t : SpacesState) (d i : ℕ) → tabled s d i ≡ Some t → Spends s t d i
unfolding tabled
tabled_spends s t d i is = by_region (s.regions d i) refl is
  where
    by_list : (list : List ℕ) → s.free ≡ list → s.regions d i ≡ None → tabled_new s list d i ≡ Some t → Spends s t d i
    by_list [] at no_table none = absurd cc
    by_list (g ∷ rest) at no_table some =
        subst (λ (z : SpacesState). Spends s z d i) (same_Some (with_table (record s { free = rest }) d i g) t some)
        (record {
          entries = refl;
          left = let one : bit_of (not (is_some (s.regions d i))) ≡ 1 = ap (λ (o : Option Region). bit_of (not (is_some o))) no_table in
              let all = ap length at in omega (arith, one, all);
        })

    by_region : (o : Option Region) → s.regions d i ≡ o → tabled_by s o d i ≡ Some t → Spends s t d i
    by_region None at some = by_list s.free refl at some
    by_region (Some region) at some =
        subst (λ (z : SpacesState). Spends s z d i) (same_Some s t some)
        (record {
          entries = refl;
          left = let none : bit_of (not (is_some (s.regions d i))) ≡ 0 = ap (λ (o : Option Region). bit_of (not (is_some o))) at in
              omega (arith, none);
        })

-- ---- the entry that is put

mapped_entries : (s : SpacesState) (d p : ℕ) (e : Entry) → (mapped s d p e).entries ≡ put s.entries d p (Some e)
unfolding mapped
mapped_entries s d p e = released_entries (with_entry s d p e) (frame_of (s.entries d p))

tabled_entries : (s t : SpacesState) (d i : ℕ) → tabled s d i ≡ Some t → t.entries ≡ s.entries
tabled_entries s t d i is = let spends = tabled_spends s t d i is in spends.entries

inserted_entries : (s t : SpacesState) (d p : ℕ) (e : Entry) → inserted s d p e ≡ Some t → t.entries ≡ put s.entries d p (Some e)
unfolding inserted
inserted_entries s t d p e is = by_table (tabled s d (p / NPTENTRIES)) refl is
  where
    by_table : (o : Option SpacesState) → tabled s d (p / NPTENTRIES) ≡ o → option_map (λ u. mapped u d p e) o ≡ Some t →
        t.entries ≡ put s.entries d p (Some e)
    by_table None at none = absurd cc
    by_table (Some u) at found =
        subst (λ (z : SpacesState). z.entries ≡ put s.entries d p (Some e)) (same_Some (mapped u d p e) t found)
        (mapped_entries u d p e ∙ ap (λ (entries : Entries). put entries d p (Some e)) (tabled_entries s u d (p / NPTENTRIES) at))

-- no others differ
pub allocated_entries : (s t : SpacesState) (d p perm f : ℕ) → allocated s d p perm ≡ Some (f, t) →
    t.entries ≡ put s.entries d p (Some (record { frame = f; perm = perm }))
unfolding allocated fresh_of
allocated_entries s t d p perm f is = by_list s.free is
  where
    by_list : (list : List ℕ) → allocated_in (fresh_from s list) d p perm ≡ Some (f, t) →
        t.entries ≡ put s.entries d p (Some (record { frame = f; perm = perm }))
    by_list [] none = absurd cc
    by_list (g ∷ rest) some = by_insertion (inserted (taken s g rest zero_page) d p (record { frame = g; perm = perm })) refl some
      where
        by_insertion : (o : Option SpacesState) → inserted (taken s g rest zero_page) d p (record { frame = g; perm = perm }) ≡ o →
            option_map (λ (u : SpacesState). let pair : ℕ × SpacesState = (g, u) in pair) o ≡ Some (f, t) →
            t.entries ≡ put s.entries d p (Some (record { frame = f; perm = perm }))
        by_insertion None ins found = absurd cc
        by_insertion (Some u) ins found =
            let both = same_Some (g, u) (f, t) found in
            let at : u.entries ≡ put s.entries d p (Some (record { frame = g; perm = perm })) =
            inserted_entries (taken s g rest zero_page) u d p (record { frame = g; perm = perm }) ins in
            subst (λ (z : ℕ × SpacesState). z.1.entries ≡ put s.entries d p (Some (record { frame = z.0; perm = perm }))) both at

pub allocated_entry : (s t : SpacesState) (d p perm f : ℕ) → allocated s d p perm ≡ Some (f, t) →
    t.entries d p ≡ Some (record { frame = f; perm = perm })
allocated_entry s t d p perm f is =
    (λ i. allocated_entries s t d p perm f is i d p) ∙ put-at s.entries d p (Some (record { frame = f; perm = perm }))

-- ---- a page that stands somewhere gets one more entry

-- where none stood, in a region that has a table
pub inserted_beside : (s : SpacesState) (d p : ℕ) (e : Entry) → is_some (s.regions d (p / NPTENTRIES)) ≡ true → s.entries d p ≡ None →
    s.uses e.frame ≡ page → inserted s d p e ≡ Some (record s { entries = put s.entries d p (Some e) })
unfolding inserted tabled
inserted_beside s d p e region none is_page = by_region (s.regions d (p / NPTENTRIES)) region
  where
    after : SpacesState
    after = record s { entries = put s.entries d p (Some e) }

    put_is : mapped s d p e ≡ after
    put_is = mapped_new s d p e none ∙ (λ i. record after { uses = λ q. upd-stays s.uses e.frame page (sym is_page) q i })

    by_region : (o : Option Region) → is_some o ≡ true → option_map (λ u. mapped u d p e) (tabled_by s o d (p / NPTENTRIES)) ≡ Some after
    by_region None is = absurd cc
    by_region (Some there) is = ap (λ (z : SpacesState). Some z) put_is

-- ---- how many frames

-- two frames are enough for a page
pub allocated_some : (s : SpacesState) (d p perm : ℕ) → 2 ≤ length s.free → (r : ℕ × SpacesState) × (allocated s d p perm ≡ Some r)
unfolding allocated fresh_of inserted tabled
allocated_some s d p perm enough = by_list s.free enough
  where
    by_list : (list : List ℕ) → 2 ≤ length list → (r : ℕ × SpacesState) × (allocated_in (fresh_from s list) d p perm ≡ Some r)
    by_list [] more = absurd (omega arith)
    by_list (g ∷ []) more = absurd (omega arith)
    by_list (g ∷ h ∷ rest) more = by_region (s.regions d (p / NPTENTRIES))
      where
        entry : Entry
        entry = record { frame = g; perm = perm }

        first : SpacesState
        first = taken s g (h ∷ rest) zero_page

        whole : Option Region → Option (ℕ × SpacesState)
        whole o = option_map (λ (u : SpacesState). let pair : ℕ × SpacesState = (g, u) in pair)
            (option_map (λ t. mapped t d p entry) (tabled_by first o d (p / NPTENTRIES)))

        by_region : (o : Option Region) → (r : ℕ × SpacesState) × (whole o ≡ Some r)
        by_region None = ((g, mapped (with_table (record first { free = rest }) d (p / NPTENTRIES) h) d p entry), refl)
        by_region (Some region) = ((g, mapped first d p entry), refl)

-- a page where none stood takes a frame, and one more where its region has no table
pub allocated_spends : (s t : SpacesState) (d p perm f : ℕ) → s.entries d p ≡ None → allocated s d p perm ≡ Some (f, t) →
    length t.free + 1 + bit_of (not (is_some (s.regions d (p / NPTENTRIES)))) ≡ length s.free
unfolding allocated fresh_of inserted
allocated_spends s t d p perm f none is = by_list s.free refl is
  where
    by_list : (list : List ℕ) → s.free ≡ list → allocated_in (fresh_from s list) d p perm ≡ Some (f, t) →
        length t.free + 1 + bit_of (not (is_some (s.regions d (p / NPTENTRIES)))) ≡ length s.free
    by_list [] at none_free = absurd cc
    by_list (g ∷ rest) at some = by_table (tabled (taken s g rest zero_page) d (p / NPTENTRIES)) refl some
      where
        entry : Entry
        entry = record { frame = g; perm = perm }

        by_table : (o : Option SpacesState) → tabled (taken s g rest zero_page) d (p / NPTENTRIES) ≡ o →
            option_map (λ (u : SpacesState). let pair : ℕ × SpacesState = (g, u) in
            pair) (option_map (λ u. mapped u d p entry) o) ≡ Some (f, t) →
            length t.free + 1 + bit_of (not (is_some (s.regions d (p / NPTENTRIES)))) ≡ length s.free
        by_table None tab found = absurd cc
        by_table (Some u) tab found =
            let spends = tabled_spends (taken s g rest zero_page) u d (p / NPTENTRIES) tab in
            let same : mapped u d p entry ≡ t = ap (λ (z : ℕ × SpacesState). z.1) (same_Some (g, mapped u d p entry) (f, t) found) in
            let free_same : length u.free ≡ length t.free =
            ap (λ (z : SpacesState). length z.free) (sym (mapped_new u d p entry ((λ i. spends.entries i d p) ∙ none)) ∙ same) in
            let left = spends.left in
            let all = ap length at in
            omega (arith, free_same, left, all)
