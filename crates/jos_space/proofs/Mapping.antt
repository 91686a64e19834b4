-- A page's entry is put into its table.
use Rattle.std.proofs.Common.{◌≡◌, ◌≢◌, ◌∙◌, ◌+◌, ◌/◌, ◌%◌, ◌<◌, inl, inr, ℕ, true, false, List, Option, Some, None}
use Rattle.std.proofs.Common.{refl, sym, ap, arith}
use Rattle.jos_base.specs.Words.{upd}
use Rattle.jos_base.specs.Reach.{Entry}
use Rattle.jos_space.specs.declared.role.Role.{Role}
use Rattle.jos_space.specs.declared.role.Role.TheVariants.{Reserved, Free, Fresh, Page, Directory, Table}
use Rattle.jos_base.specs.Counting.{frame_limit, page_limit, named, page_count}
use Rattle.jos_base.specs.SpacesState.{Region, put, page, with_entry}
use Rattle.jos_space.specs.Frames.{Held, IsSound, regions_of, entries_of, entry_in, entry_of, is_directory}
use Rattle.jos_space.specs.Frames.{free_count, bytes_by, use_of, state_of, stacked, may_map}
use Rattle.jos_space.proofs.Lookups.{regions-same, region_limits, entries-by}
use Rattle.std.proofs.lemmas.Bool.{cases_eq}
use Rattle.jos_base.proofs.Maps.{upd-at, upd-other, upd-seen}
use Rattle.jos_base.proofs.Sums.{total-same}
use Rattle.jos_base.proofs.Counts.{page_count-put, page_count-same}
use Rattle.jos_base.proofs.Puts.{put-at, put-other}

-- ---- a word of a region's table

module _ (n : ℕ) (c : Held) (sound : IsSound n c) (d p : ℕ) (region : Region) (is : regions_of c d (p / 1024) ≡ Some region) (w : ℕ) where
  abbrev pub with_word : Held
  with_word = record c { word = put c.word region.table (p % 1024) w }

  not_table : (q : ℕ) → c.role q ≡ Directory → q ≢ region.table
  not_table q dir e = let t = sound.tables d (p / 1024) region is in let same = ap c.role e in absurd cc

  pub word_regions : (x r : ℕ) → regions_of with_word x r ≡ regions_of c x r
  word_regions = regions-same c with_word (λ x. refl) (λ x r dir. put-other c.word region.table (p % 1024) w x r (λ e. absurd (not_table x dir e)))

  -- two pages whose entries are one word are one page
  one_page : (x y : ℕ) (other : Region) → regions_of c x (y / 1024) ≡ Some other → other.table ≡ region.table → y % 1024 ≡ p % 1024 → (x ≡ d) × (y ≡ p)
  one_page x y other here e at =
      let t = sound.tables d (p / 1024) region is in
      let u = sound.tables x (y / 1024) other here in
      let tables : ◌≡◌ {A = Role} (Table x (y / 1024)) (Table d (p / 1024)) = sym u ∙ ap c.role e ∙ t in
      let same_d : x ≡ d = cc in
      let same_r : y / 1024 ≡ p / 1024 = cc in
      (same_d, omega arith)

  pub word_entries : (x y : ℕ) → entries_of with_word x y ≡ put (entries_of c) d p (entry_of w) x y
  unfolding entries_of
  word_entries x y = ap (λ o. entry_in with_word o (y % 1024)) (word_regions x (y / 1024)) ∙ by_region (regions_of c x (y / 1024)) refl
    where
      here : (x ≡ d) × (y ≡ p) → entry_of (put c.word region.table (p % 1024) w region.table (p % 1024)) ≡ put (entries_of c) d p (entry_of w) x y
      here e = ap entry_of (put-at c.word region.table (p % 1024) w) ∙ sym (put-at (entries_of c) d p (entry_of w)) ∙ (λ i. put (entries_of c) d p (entry_of w) (sym e.0 i) (sym e.1 i))

      by_region : (o : Option Region) → regions_of c x (y / 1024) ≡ o → entry_in with_word o (y % 1024) ≡ put (entries_of c) d p (entry_of w) x y
      by_region None e =
          sym (put-other (entries_of c) d p (entry_of w) x y (λ same_x same_y. absurd (let at : regions_of c x (y / 1024) ≡ regions_of c d (p / 1024) = (λ i. regions_of c (same_x i) (same_y i / 1024)) in cc))
          ∙ ap (λ o. entry_in c o (y % 1024)) e)
      by_region (Some other) e = elim (cases_eq other.table region.table) [
        | inr ne ↦
            ap entry_of (put-other c.word region.table (p % 1024) w other.table (y % 1024) (λ t. absurd (ne t)))
            ∙ sym (put-other (entries_of c) d p (entry_of w) x y (λ same_x same_y. absurd (let at : regions_of c x (y / 1024) ≡ regions_of c d (p / 1024) = (λ i. regions_of c (same_x i) (same_y i / 1024)) in let regions : ◌≡◌ {A = Option Region} (Some other) (Some region) = sym e ∙ at ∙ is in let tables : other ≡ region = cc in ne (ap (λ (r : Region). r.table) tables)))
            ∙ ap (λ o. entry_in c o (y % 1024)) e)
        | inl t ↦ elim (cases_eq (y % 1024) (p % 1024)) [
          | inl at ↦ (λ i. entry_of (put c.word region.table (p % 1024) w (t i) (at i))) ∙ here (one_page x y other e t at)
          | inr ne ↦
              ap entry_of (put-other c.word region.table (p % 1024) w other.table (y % 1024) (λ _. ne))
              ∙ sym (put-other (entries_of c) d p (entry_of w) x y (λ same_x same_y. absurd (ne (ap (λ z. z % 1024) same_y)))
              ∙ ap (λ o. entry_in c o (y % 1024)) e)
        ]
      ]

-- ---- a page is mapped in the table of its region

map_directory : (role : Role) → may_map role ≡ true → is_directory role ≡ false
map_directory Fresh e = refl
map_directory Page e = refl
map_directory Reserved e = absurd cc
map_directory (Free k) e = absurd cc
map_directory Directory e = absurd cc
map_directory (Table x y) e = absurd cc

map_free : (role : Role) → may_map role ≡ true → free_count role ≡ 0
map_free Fresh e = refl
map_free Page e = refl
map_free Reserved e = absurd cc
map_free (Free k) e = absurd cc
map_free Directory e = absurd cc
map_free (Table x y) e = absurd cc

pub map_bytes : (role : Role) (bytes : List ℕ) → may_map role ≡ true → bytes_by role bytes ≡ bytes
map_bytes Fresh bytes e = refl
map_bytes Page bytes e = refl
map_bytes Reserved bytes e = absurd cc
map_bytes (Free k) bytes e = absurd cc
map_bytes Directory bytes e = absurd cc
map_bytes (Table x y) bytes e = absurd cc

module _ (n : ℕ) (c : Held) (sound : IsSound n c) (d p : ℕ) (region : Region) (is : regions_of c d (p / 1024) ≡ Some region) (w : ℕ)
    (entry : Entry) (word_is : entry_of w ≡ Some entry) (may : may_map (c.role entry.frame) ≡ true) (counted : ℕ → ℕ)
    (law : (f : ℕ) → counted f + named f (entries_of c d p) ≡ c.count f + named f (Some entry)) where
  abbrev pub with_page : Held
  with_page = record c { word = put c.word region.table (p % 1024) w; role = upd c.role entry.frame Page; count = counted }

  abbrev word_only : Held
  word_only = record c { word = put c.word region.table (p % 1024) w }

  -- what is neither Fresh nor a page keeps its role
  keeps : (f : ℕ) (role : Role) → c.role f ≡ role → may_map role ≡ false → upd c.role entry.frame Page f ≡ role
  keeps f role e no_map = elim (cases_eq f entry.frame) [
    | inl same ↦ absurd (let at : c.role entry.frame ≡ role = ap c.role (sym same) ∙ e in let both = ap may_map at in cc)
    | inr ne ↦ upd-other c.role entry.frame Page f ne ∙ e
  ]

  same_directory : (f : ℕ) → is_directory (upd c.role entry.frame Page f) ≡ is_directory (c.role f)
  same_directory f = elim (cases_eq f entry.frame) [
    | inl same ↦ ap is_directory (ap (upd c.role entry.frame Page) same ∙ upd-at c.role entry.frame Page) ∙ sym (map_directory (c.role entry.frame) may) ∙ ap (λ q. is_directory (c.role q)) (sym same)
    | inr ne ↦ ap is_directory (upd-other c.role entry.frame Page f ne)
  ]

  page_regions : (x r : ℕ) → regions_of with_page x r ≡ regions_of c x r
  page_regions x r =
      regions-same word_only with_page same_directory (λ a b dir. refl) x r ∙ word_regions n c sound d p region is w x r

  page_entries : (x y : ℕ) → entries_of with_page x y ≡ put (entries_of c) d p (Some entry) x y
  page_entries x y = entries-again x y ∙ word_entries n c sound d p region is w x y ∙ ap (λ e. put (entries_of c) d p e x y) word_is
    where
      entries-again : (x y : ℕ) → entries_of with_page x y ≡ entries_of word_only x y
      entries-again x y = entries-by word_only with_page (λ a r. regions-same word_only with_page same_directory (λ a b dir. refl) a r) refl x y

  pub page_sound : IsSound n with_page
  page_sound = record {
    tables = λ x r other here. keeps other.table (Table x r) (sound.tables x r other (sym (page_regions x r) ∙ here)) refl;
    pages = λ x y other here. by_place x y other (sym (page_entries x y) ∙ here);
    counts = λ f.
        let both = page_count-put (entries_of c) d p (Some entry) f limits.0 limits.1 in
        let old = sound.counts f in
        let new = law f in
        let same : page_count (entries_of with_page) f ≡ page_count (put (entries_of c) d p (Some entry)) f = page_count-same (entries_of with_page) (put (entries_of c) d p (Some entry)) f (λ x y. ap (named f) (page_entries x y)) in
        omega (arith, both, old, new, same);
    listed = λ k lt. keeps (c.place k) (Free k) (sound.listed k lt) refl;
    free_len = total-same n _ _ (λ f lt. same_free f) ∙ sound.free_len;
    outside = λ f past. keeps f Reserved (sound.outside f past) refl;
    limit = sound.limit;
  }
    where
      limits : (d < frame_limit) × (p < page_limit)
      limits = region_limits n c d p region sound is

      same_free : (f : ℕ) → free_count (upd c.role entry.frame Page f) ≡ free_count (c.role f)
      same_free f = elim (cases_eq f entry.frame) [
        | inl same ↦ ap free_count (ap (upd c.role entry.frame Page) same ∙ upd-at c.role entry.frame Page) ∙ sym (map_free (c.role entry.frame) may) ∙ ap (λ q. free_count (c.role q)) (sym same)
        | inr ne ↦ ap free_count (upd-other c.role entry.frame Page f ne)
      ]

      page_stays : (f : ℕ) → c.role f ≡ Page → upd c.role entry.frame Page f ≡ Page
      page_stays f e = elim (cases_eq f entry.frame) [
        | inl same ↦ ap (upd c.role entry.frame Page) same ∙ upd-at c.role entry.frame Page
        | inr ne ↦ upd-other c.role entry.frame Page f ne ∙ e
      ]

      by_place : (x y : ℕ) (other : Entry) → put (entries_of c) d p (Some entry) x y ≡ Some other → upd c.role entry.frame Page other.frame ≡ Page
      by_place x y other here = elim (cases_eq x d) [
        | inr ne ↦ page_stays other.frame (sound.pages x y other (sym (put-other (entries_of c) d p (Some entry) x y (λ e. absurd (ne e))) ∙ here))
        | inl same_x ↦ elim (cases_eq y p) [
          | inr ne ↦ page_stays other.frame (sound.pages x y other (sym (put-other (entries_of c) d p (Some entry) x y (λ _. ne)) ∙ here))
          | inl same_y ↦
              let at : ◌≡◌ {A = Option Entry} (Some entry) (Some other) = sym (put-at (entries_of c) d p (Some entry)) ∙ (λ i. put (entries_of c) d p (Some entry) (sym same_x i) (sym same_y i)) ∙ here in
              let one : entry ≡ other = cc in
              ap (λ (e : Entry). upd c.role entry.frame Page e.frame) (sym one) ∙ upd-at c.role entry.frame Page
        ]
      ]

  pub page_state : state_of with_page ≡ with_entry (state_of c) d p entry
  unfolding state_of
  page_state = λ i. record {
    frames = c.frames;
    uses = λ f. same_use f i;
    free = stacked c.place c.free_len;
    pages = λ f. same_bytes f i;
    regions = λ x r. page_regions x r i;
    entries = λ x y. page_entries x y i;
  }
    where
      same_use : (f : ℕ) → use_of (upd c.role entry.frame Page f) ≡ upd (λ q. use_of (c.role q)) entry.frame page f
      same_use f = upd-seen use_of c.role entry.frame Page f

      same_bytes : (f : ℕ) → bytes_by (upd c.role entry.frame Page f) (c.bytes f) ≡ bytes_by (c.role f) (c.bytes f)
      same_bytes f = elim (cases_eq f entry.frame) [
        | inl same ↦ ap (λ r. bytes_by r (c.bytes f)) (ap (upd c.role entry.frame Page) same ∙ upd-at c.role entry.frame Page) ∙ sym (map_bytes (c.role entry.frame) (c.bytes f) may) ∙ ap (λ q. bytes_by (c.role q) (c.bytes f)) (sym same)
        | inr ne ↦ ap (λ r. bytes_by r (c.bytes f)) (upd-other c.role entry.frame Page f ne)
      ]
