-- What is left of one space where pages of other spaces are mapped, removed and touched, where those of one other space, the home, are written,
-- and where other spaces are made and destroyed: its entries with all their bits, its regions, and the bytes of its pages which home has not,
-- or has as pages of descriptors alone, to which it does not write.
use Rattle.std.proofs.Common.{◌≡◌, ◌≢◌, ◌∙◌, ◌==◌, ◌/◌, ◌%◌, ◌^◌, ◌+◌, ℕ, zero, suc, Bool, true, false, List, [], ◌∷◌, refl, sym, ap, subst, arith}
use Rattle.std.specs.Prelude.{nat_lt, Option, Some, None, Result, Ok, Err, if◌then◌else◌}
use Rattle.std.specs.Option.{option_map}
use Rattle.std.proofs.lemmas.Bool.Decides.{nat_tests}
use Rattle.std.proofs.lemmas.Option.{same_Some}
use Rattle.jos_base.specs.declared.memory.Access.{Access}
use Rattle.jos_base.specs.declared.memory.Access.TheVariants.{Read, Write}
use Rattle.jos_base.specs.declared.memory.PageFault.{PageFault}
use Rattle.jos_base.specs.declared.numbers.TheConstants.{FEC_PR, FEC_U, NPTENTRIES}
use Rattle.jos_base.specs.Counting.{page_count, page_limit}
use Rattle.jos_base.specs.Reach.{Entry, FrameOffset, reach_entry, allows, write_bit}
use Rattle.jos_base.specs.SpacesState.{SpacesState, Use, Region, page, free, table, directory, put, freed, released, taken, fresh_of, fresh_from}
use Rattle.jos_base.specs.SpacesState.{frame_of, with_entry, mapped, with_table, tabled, tabled_new, tabled_by, inserted, allocated_in, allocated}
use Rattle.jos_base.specs.SpacesState.{without_entry, unmapped, pages_removed, without_region, tables_freed, region_limit, destroyed}
use Rattle.jos_base.specs.SpacesState.{with_page_bytes, zero_page}
use Rattle.jos_base.specs.UserMemory.{reach_in, access_bits, region_accessed, entry_marked, with_page_bits, with_region_bit}
use Rattle.jos_base.specs.UserMemory.{with_entry_bits, with_bits, touched, touched_by, all_touched, stored_byte, with_byte_at}
use Rattle.jos_base.specs.Windows.{walked, entry_above, read_only, table_index}
use Rattle.jos_base.specs.Words.{page_number, page_offset}
use Rattle.lib_os.specs.InOrder.{HasOneUse, AreFree}
use Rattle.lib_os.specs.Rows.{is_of_descriptor}
use Rattle.lib_os.proofs.UsesFound.{framed}
use Rattle.jos_base.proofs.Counts.{page_count-some}
use Rattle.jos_base.proofs.Maps.{upd-other}
use Rattle.jos_base.proofs.Puts.{put-other, put-alike, put-holds}
use Rattle.jos_base.proofs.Uses.{page_or_directory, page_or_table}

-- none of the pages of a space has this frame, but those of descriptors
abbrev pub IsNoPage : ℕ → SpacesState → ℕ → Type 0
IsNoPage d s f = (p : ℕ) (e : Entry) → is_of_descriptor p ≡ false → s.entries d p ≡ Some e → e.frame ≢ f

-- a space has its entries, its regions and the bytes of its pages which home has not
pub record SpaceLeft (home d : ℕ) (s t : SpacesState) : Type 0 where
  pub entries : (p : ℕ) → t.entries d p ≡ s.entries d p
  pub regions : (r : ℕ) → t.regions d r ≡ s.regions d r
  pub pages : (p : ℕ) (e : Entry) → s.entries d p ≡ Some e → IsNoPage home s e.frame → t.pages e.frame ≡ s.pages e.frame

-- none of those pages has this frame
abbrev pub IsNoneLeft : ℕ → ℕ → SpacesState → ℕ → Type 0
IsNoneLeft home d s f = (p : ℕ) (e : Entry) → s.entries d p ≡ Some e → IsNoPage home s e.frame → e.frame ≢ f

page_or_free : (u : Use) → u ≡ page → u ≢ free
page_or_free u is not = absurd cc

module _ (home d : ℕ) (s : SpacesState) (h : HasOneUse s) where
  -- what is used as something else is none of them
  pub free_is_none : (f : ℕ) → s.uses f ≡ free → IsNoneLeft home d s f
  free_is_none f is p e stands lacks same = page_or_free (s.uses e.frame) (h.pages d p e stands) (ap s.uses same ∙ is)

  pub directory_is_none : (f : ℕ) → s.uses f ≡ directory → IsNoneLeft home d s f
  directory_is_none f is p e stands lacks same = page_or_directory (s.uses e.frame) (h.pages d p e stands) (ap s.uses same ∙ is)

  pub table_is_none : (f : ℕ) → s.uses f ≡ table → IsNoneLeft home d s f
  table_is_none f is p e stands lacks same = page_or_table (s.uses e.frame) (h.pages d p e stands) (ap s.uses same ∙ is)

  pub same_left : SpaceLeft home d s s
  same_left = record { entries = λ p. refl; regions = λ r. refl; pages = λ p e is lacks. refl }

  -- ---- frames

  pub bytes_left : (t : SpacesState) (f : ℕ) (bytes : List ℕ) → IsNoneLeft home d s f → SpaceLeft home d s t →
      SpaceLeft home d s (with_page_bytes t f bytes)
  bytes_left t f bytes none k = record {
    entries = k.entries;
    regions = k.regions;
    pages = λ p e is lacks. upd-other t.pages f bytes e.frame (none p e is lacks) ∙ k.pages p e is lacks;
  }

  freed_left : (t : SpacesState) (f : ℕ) → IsNoneLeft home d s f → SpaceLeft home d s t → SpaceLeft home d s (freed t f)
  freed_left t f none k = let it = bytes_left t f [] none k in record { entries = it.entries; regions = it.regions; pages = it.pages }

  released_left : (t : SpacesState) (o : Option ℕ) → SpaceLeft home d s t → SpaceLeft home d s (released t o)
  released_left t None k = k
  released_left t (Some f) k = by_test (page_count t.entries f == 0) refl
    where
      by_test : (b : Bool) → (page_count t.entries f == 0) ≡ b → SpaceLeft home d s (if b then freed t f else t)
      by_test false test = k
      by_test true test =
          let none : page_count t.entries f ≡ 0 = grind (arith, nat_tests) in
          freed_left t f (λ p e is lacks same.
          let limits = h.within d p e is in
          let counted = page_count-some t.entries d p e limits.0 limits.1 (k.entries p ∙ is) in
          let count = ap (page_count t.entries) same in absurd (omega (arith, counted, count, none))) k

  -- ---- another space

  module _ (q : ℕ) (other : q ≢ d) where
    off : {V : Type 0} (f : ℕ → ℕ → V) (p : ℕ) (v : V) (r : ℕ) → put f q p v d r ≡ f d r
    off f p v r = put-other f q p v d r (λ same. absurd (other (sym same)))

    mapped_left : (t : SpacesState) (p : ℕ) (e : Entry) → SpaceLeft home d s t → SpaceLeft home d s (mapped t q p e)
    unfolding mapped
    mapped_left t p e k =
        released_left (with_entry t q p e) (frame_of (t.entries q p))
        (record { entries = λ r. off t.entries p (Some e) r ∙ k.entries r; regions = k.regions; pages = k.pages })

    pub unmapped_left : (t : SpacesState) (p : ℕ) → SpaceLeft home d s t → SpaceLeft home d s (unmapped t q p)
    unfolding unmapped
    unmapped_left t p k =
        released_left (without_entry t q p) (frame_of (t.entries q p))
        (record { entries = λ r. off t.entries p None r ∙ k.entries r; regions = k.regions; pages = k.pages })

    table_left : (t : SpacesState) (index f : ℕ) → IsNoneLeft home d s f → SpaceLeft home d s t → SpaceLeft home d s (with_table t q index f)
    table_left t index f none k = record {
      entries = k.entries;
      regions = λ r. off t.regions index (Some (record { table = f; accessed = false })) r ∙ k.regions r;
      pages = λ p e is lacks. upd-other t.pages f [] e.frame (none p e is lacks) ∙ k.pages p e is lacks;
    }

    -- a page is inserted, and perhaps a table with it, of a frame that was free
    inserted_from : (t u : SpacesState) (p : ℕ) (e : Entry) → AreFree s.uses t.free → SpaceLeft home d s t → inserted t q p e ≡ Some u →
        SpaceLeft home d s u
    unfolding inserted tabled
    inserted_from t u p e listed k is = by_region (t.regions q (p / NPTENTRIES)) is
      where
        found : (x : SpacesState) → SpaceLeft home d s x → Some (mapped x q p e) ≡ Some u → SpaceLeft home d s u
        found x at some = subst (λ (z : SpacesState). SpaceLeft home d s z) (same_Some (mapped x q p e) u some) (mapped_left x p e at)

        by_list : (l : List ℕ) → AreFree s.uses l → option_map (λ (x : SpacesState). mapped x q p e) (tabled_new t l q (p / NPTENTRIES)) ≡ Some u →
            SpaceLeft home d s u
        by_list [] all none = absurd cc
        by_list (f ∷ rest) all some =
            found (with_table (record t { free = rest }) q (p / NPTENTRIES) f)
            (table_left (record t { free = rest }) (p / NPTENTRIES) f (free_is_none f all.0)
            (record { entries = k.entries; regions = k.regions; pages = k.pages })) some

        by_region : (o : Option Region) → option_map (λ (x : SpacesState). mapped x q p e) (tabled_by t o q (p / NPTENTRIES)) ≡ Some u →
            SpaceLeft home d s u
        by_region (Some region) some = found t k some
        by_region None some = by_list t.free listed some

    pub inserted_left : (u : SpacesState) (p : ℕ) (e : Entry) → inserted s q p e ≡ Some u → SpaceLeft home d s u
    inserted_left u p e is = inserted_from s u p e h.free_list same_left is

    pub allocated_left : (p perm : ℕ) (made : ℕ × SpacesState) → allocated s q p perm ≡ Some made → SpaceLeft home d s made.1
    unfolding allocated fresh_of
    allocated_left p perm made is = by_list s.free h.free_list is
      where
        by_list : (l : List ℕ) → AreFree s.uses l → allocated_in (fresh_from s l) q p perm ≡ Some made → SpaceLeft home d s made.1
        by_list [] all none = absurd cc
        by_list (f ∷ rest) all some = by_insertion (inserted first q p entry) refl some
          where
            first : SpacesState
            first = taken s f rest zero_page

            entry : Entry
            entry = record { frame = f; perm = perm }

            begun : SpaceLeft home d s first
            begun =
                let it = bytes_left s f zero_page (free_is_none f all.0) same_left in
                record { entries = it.entries; regions = it.regions; pages = it.pages }

            by_insertion : (o : Option SpacesState) → inserted first q p entry ≡ o →
                option_map (λ (u : SpacesState). let pair : ℕ × SpacesState = (f, u) in pair) o ≡ Some made → SpaceLeft home d s made.1
            by_insertion None ins none = absurd cc
            by_insertion (Some u) ins found =
                subst (λ (z : ℕ × SpacesState). SpaceLeft home d s z.1)
                (let same : ◌≡◌ {A = ℕ × SpacesState} (f, u) made = same_Some _ made found in same)
                (inserted_from first u p entry all.2 begun ins)

    -- ---- it is touched

    region_left : (t : SpacesState) (index : ℕ) → SpaceLeft home d s t → SpaceLeft home d s (with_region_bit t q index)
    region_left t index k = record {
      entries = k.entries;
      regions = λ r. off t.regions index (region_accessed (t.regions q index)) r ∙ k.regions r;
      pages = k.pages;
    }

    entry_left : (t : SpacesState) (p bits : ℕ) → SpaceLeft home d s t → SpaceLeft home d s (with_entry_bits t q p bits)
    entry_left t p bits k = record {
      entries = λ r. off t.entries p (entry_marked bits (t.entries q p)) r ∙ k.entries r;
      regions = k.regions;
      pages = k.pages;
    }

    bits_left : (t : SpacesState) (p : ℕ) (a : Access) → SpaceLeft home d s t → SpaceLeft home d s (with_bits t q p a)
    bits_left t p a k = by_place (nat_lt p page_limit) (p / NPTENTRIES == table_index)
      where
        by_place : (below window : Bool) →
            SpaceLeft home d s (if below then with_page_bits t q p a else if window then with_region_bit t q (p % NPTENTRIES) else t)
        by_place true window =
            entry_left (with_region_bit t q (p / NPTENTRIES)) p (access_bits a) (region_left t (p / NPTENTRIES) k)
        by_place false true = region_left t (p % NPTENTRIES) k
        by_place false false = k

    pub touched_left : (t : SpacesState) (va : ℕ) (a : Access) → SpaceLeft home d s t → SpaceLeft home d s (touched t q va a)
    unfolding touched
    touched_left t va a k = by_outcome (reach_in t q va a)
      where
        by_outcome : (r : Result FrameOffset PageFault) → SpaceLeft home d s (touched_by t q va a r)
        by_outcome (Ok location) = bits_left t (page_number va) a k
        by_outcome (Err fault) = k

    pub all_touched_left : (t : SpacesState) (va n : ℕ) → SpaceLeft home d s t → SpaceLeft home d s (all_touched t q va n)
    unfolding all_touched
    all_touched_left t va zero k = k
    all_touched_left t va (suc n) k = all_touched_left (touched t q va Read) ((va + 1) % 2 ^ 32) n (touched_left t va Read k)

    -- ---- it is destroyed

    released_regions : (t : SpacesState) (o : Option ℕ) → (released t o).regions ≡ t.regions
    released_regions t None = refl
    released_regions t (Some f) = by_test (page_count t.entries f == 0)
      where
        by_test : (b : Bool) → (if b then freed t f else t).regions ≡ t.regions
        by_test true = refl
        by_test false = refl

    unmapped_regions : (t : SpacesState) (p : ℕ) → (unmapped t q p).regions ≡ t.regions
    unfolding unmapped
    unmapped_regions t p = released_regions (without_entry t q p) (frame_of (t.entries q p))

    -- regions lose tables alone
    record Shrinks (t : SpacesState) : Type 0 where
      left : SpaceLeft home d s t
      tables : (a r : ℕ) (x : Region) → t.regions a r ≡ Some x → s.regions a r ≡ Some x

    pages_shrink : (n : ℕ) → Shrinks (pages_removed s q n)
    unfolding pages_removed
    pages_shrink zero = record { left = same_left; tables = λ a r x is. is }
    pages_shrink (suc n) =
        let before = pages_shrink n in
        let t = pages_removed s q n in
        record {
          left = unmapped_left t n before.left;
          tables = λ a r x is. before.tables a r x ((λ i. sym (unmapped_regions t n) i a r) ∙ is);
        }

    region_shrinks : (t : SpacesState) (index : ℕ) (o : Option Region) → t.regions q index ≡ o → Shrinks t → Shrinks (without_region t q index o)
    region_shrinks t index None at k = k
    region_shrinks t index (Some region) at k = record {
      left = freed_left without region.table
          (table_is_none region.table (let it = h.tables q index region (k.tables q index region at) in it.0))
          (record { entries = k.left.entries; regions = λ r. off t.regions index None r ∙ k.left.regions r; pages = k.left.pages });
      tables =
          put-holds t.regions q index None (λ a r (o : Option Region). (x : Region) → o ≡ Some x → s.regions a r ≡ Some x)
          (λ x none. absurd (let contradiction : ◌≡◌ {A = Option Region} None (Some x) = none in cc)) (λ a r elsewhere. k.tables a r);
    }
      where
        without : SpacesState
        without = record t { regions = put t.regions q index None }

    tables_shrink : (t : SpacesState) (n : ℕ) → Shrinks t → Shrinks (tables_freed t q n)
    unfolding tables_freed
    tables_shrink t zero k = k
    tables_shrink t (suc n) k =
        region_shrinks (tables_freed t q n) n ((tables_freed t q n).regions q n) refl (tables_shrink t n k)

    pub destroyed_left : s.uses q ≡ directory → SpaceLeft home d s (destroyed s q)
    unfolding destroyed
    destroyed_left is =
        let gone = tables_shrink (pages_removed s q page_limit) region_limit (pages_shrink page_limit) in
        freed_left (tables_freed (pages_removed s q page_limit) q region_limit) q (directory_is_none q is) gone.left

  -- ---- home is written

  -- none of its pages but those of descriptors is one of those that are left
  pub record IsBesidePages (t : SpacesState) : Type 0 where
    pub none : (p : ℕ) (e : Entry) → is_of_descriptor p ≡ false → t.entries home p ≡ Some e → IsNoneLeft home d s e.frame

  pub begins_beside : IsBesidePages s
  begins_beside = record { none = λ p e other there q x stands lacks same. lacks p e other there (sym same) }

  marked_frame : (bits : ℕ) (o : Option Entry) → frame_of (entry_marked bits o) ≡ frame_of o
  marked_frame bits None = refl
  marked_frame bits (Some e) = refl

  -- the same frames stand in it
  alike_beside : (t u : SpacesState) → ((p : ℕ) → frame_of (u.entries home p) ≡ frame_of (t.entries home p)) → IsBesidePages t → IsBesidePages u
  alike_beside t u same k = record {
    none = λ p e other is.
        let x = framed (t.entries home p) e.frame (sym (same p) ∙ ap frame_of is) in
        subst (λ (f : ℕ). IsNoneLeft home d s f) x.2 (k.none p x.0 other x.1);
  }

  bits_frames : (t : SpacesState) (n : ℕ) (a : Access) (p : ℕ) → frame_of ((with_bits t home n a).entries home p) ≡ frame_of (t.entries home p)
  bits_frames t n a p = by_place (nat_lt n page_limit) (n / NPTENTRIES == table_index)
    where
      by_place : (below window : Bool) →
          frame_of ((if below then with_page_bits t home n a else if window then with_region_bit t home (n % NPTENTRIES) else t).entries home p)
          ≡ frame_of (t.entries home p)
      by_place true window =
          put-alike t.entries home n (entry_marked (access_bits a) (t.entries home n)) frame_of
          (marked_frame (access_bits a) (t.entries home n)) home p
      by_place false true = refl
      by_place false false = refl

  touched_frames : (t : SpacesState) (va : ℕ) (a : Access) (p : ℕ) → frame_of ((touched t home va a).entries home p) ≡ frame_of (t.entries home p)
  unfolding touched
  touched_frames t va a p = by_outcome (reach_in t home va a)
    where
      by_outcome : (r : Result FrameOffset PageFault) → frame_of ((touched_by t home va a r).entries home p) ≡ frame_of (t.entries home p)
      by_outcome (Ok location) = bits_frames t (page_number va) a p
      by_outcome (Err fault) = refl

  pub touched_beside : (t : SpacesState) (va : ℕ) (a : Access) → IsBesidePages t → IsBesidePages (touched t home va a)
  touched_beside t va a k = alike_beside t (touched t home va a) (touched_frames t va a) k

  -- a write leads to a page that stands there
  reach_leads : (o : Option Entry) (va : ℕ) (a : Access) (at : FrameOffset) → reach_entry o va a ≡ Ok at →
      (e : Entry) × (o ≡ Some e) × (e.frame ≡ at.frame) × (allows e.perm a ≡ true)
  reach_leads None va a at refused = absurd cc
  reach_leads (Some e) va a at is = by_test (allows e.perm a) refl is
    where
      by_test : (t : Bool) → allows e.perm a ≡ t →
          ◌≡◌ {A = Result FrameOffset PageFault}
          (if t then Ok (record { frame = e.frame; offset = page_offset va })
          else Err (record { va = va; error = FEC_U + FEC_PR + write_bit a })) (Ok at) →
          (x : Entry) × (Some e ≡ Some x) × (x.frame ≡ at.frame) × (allows x.perm a ≡ true)
      by_test true test some = (e, refl, let same : e.frame ≡ at.frame = cc in same, test)
      by_test false test refused = absurd cc

  pub written_none : (t : SpacesState) (va : ℕ) (at : FrameOffset) → is_of_descriptor (page_number va) ≡ false → IsBesidePages t →
      reach_in t home va Write ≡ Ok at → IsNoneLeft home d s at.frame
  unfolding walked
  written_none t va at other k is =
      let leads = reach_leads (walked t home (page_number va)) va Write at is in
      subst (λ (f : ℕ). IsNoneLeft home d s f) leads.2 (by_place leads.0 leads.3 (nat_lt n page_limit) leads.1)
    where
      n : ℕ
      n = page_number va

      -- the windows are never written
      by_window : (e : Entry) → allows e.perm Write ≡ true → (o : Option Entry) → option_map read_only o ≡ Some e → IsNoneLeft home d s e.frame
      by_window e allowed None none = absurd cc
      by_window e allowed (Some x) some =
          absurd (let contradiction : false ≡ true = ap (λ (y : Entry). allows y.perm Write) (same_Some (read_only x) e some) ∙ allowed in cc)

      by_place : (e : Entry) → allows e.perm Write ≡ true → (below : Bool) →
          (if below then t.entries home n else option_map read_only (entry_above t home (n / NPTENTRIES) (n % NPTENTRIES))) ≡ Some e →
          IsNoneLeft home d s e.frame
      by_place e allowed true stands = k.none n e other stands
      by_place e allowed false stands = by_window e allowed (entry_above t home (n / NPTENTRIES) (n % NPTENTRIES)) stands

  pub stored_left : (t : SpacesState) (va byte : ℕ) → is_of_descriptor (page_number va) ≡ false → IsBesidePages t → SpaceLeft home d s t →
      SpaceLeft home d s (stored_byte t home va byte)
  unfolding stored_byte
  stored_left t va byte other beside k = by_outcome (reach_in t home va Write) refl
    where
      by_outcome : (r : Result FrameOffset PageFault) → reach_in t home va Write ≡ r → SpaceLeft home d s (with_byte_at t byte r)
      by_outcome (Ok location) at = bytes_left t location.frame _ (written_none t va location other beside at) k
      by_outcome (Err fault) at = k

  pub stored_beside : (t : SpacesState) (va byte : ℕ) → IsBesidePages t → IsBesidePages (stored_byte t home va byte)
  unfolding stored_byte
  stored_beside t va byte k = by_outcome (reach_in t home va Write)
    where
      by_outcome : (r : Result FrameOffset PageFault) → IsBesidePages (with_byte_at t byte r)
      by_outcome (Ok location) = record { none = k.none }
      by_outcome (Err fault) = k
