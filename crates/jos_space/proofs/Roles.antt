-- A frame gets another use, while regions and entries stay.
use Rattle.std.proofs.Common.{◌≡◌, ◌≢◌, ◌∙◌, ◌+◌, ◌<◌, inl, inr, ℕ, suc, Bool, true, false, cond, List, [], ◌∷◌}
use Rattle.std.proofs.Common.{Option, Some, None, refl, sym, ap, arith}
use Rattle.std.specs.Prelude.{nat_lt}
use Rattle.jos_base.specs.Words.{upd}
use Rattle.jos_space.specs.declared.role.Role.{Role}
use Rattle.jos_space.specs.declared.role.Role.TheVariants.{Reserved, Free, Fresh, Page, Directory, Table}
use Rattle.jos_base.specs.Counting.{named, page_count}
use Rattle.jos_base.specs.SpacesState.{Use, Region, SpacesState, directory, table, freed, taken, region_limit}
use Rattle.jos_space.specs.Frames.{Held, IsSound, regions_of, entries_of, region_of, is_directory, free_count}
use Rattle.jos_space.specs.Frames.{bytes_by, use_of, state_of, stacked, may_map}
use Rattle.jos_space.proofs.Lookups.{regions-same, entry_limits, entries-by, listed-same}
use Rattle.std.proofs.lemmas.Bool.{cases_eq, cases_lt}
use Rattle.jos_base.proofs.Maps.{upd-at, upd-other, upd-seen}
use Rattle.jos_base.proofs.Sums.{total-change}
use Rattle.jos_base.proofs.Counts.{page_count-same, page_count-some}

abbrev pub is_table : Role → Bool
is_table (Table d r) = true
is_table _ = false

abbrev pub is_reserved : Role → Bool
is_reserved Reserved = true
is_reserved _ = false

module _ (n : ℕ) (c : Held) (sound : IsSound n c) (f : ℕ) (role : Role) (bytes : ℕ → List ℕ) (place : ℕ → ℕ) (free_len : ℕ) where
  abbrev pub with_role : Held
  with_role = record c { role = upd c.role f role; bytes = bytes; place = place; free_len = free_len }

  module _ (was_directory : is_directory (c.role f) ≡ false) (now_directory : is_directory role ≡ false) where
    same_directory : (q : ℕ) → is_directory (upd c.role f role q) ≡ is_directory (c.role q)
    same_directory q = elim (cases_eq q f) [
      | inl same ↦ ap is_directory (ap (upd c.role f role) same ∙ upd-at c.role f role) ∙ now_directory ∙ sym was_directory ∙ ap (λ z. is_directory (c.role z)) (sym same)
      | inr ne ↦ ap is_directory (upd-other c.role f role q ne)
    ]

    pub role_regions : (x r : ℕ) → regions_of with_role x r ≡ regions_of c x r
    role_regions = regions-same c with_role same_directory (λ a b dir. refl)

    pub role_entries : (x y : ℕ) → entries_of with_role x y ≡ entries_of c x y
    role_entries = entries-by c with_role role_regions refl

  module _ (regions_stay : (x r : ℕ) → regions_of with_role x r ≡ regions_of c x r) where
    entries_stay : (x y : ℕ) → entries_of with_role x y ≡ entries_of c x y
    entries_stay = entries-by c with_role regions_stay refl

    module _ (unnamed : (x r : ℕ) (other : Region) → regions_of c x r ≡ Some other → other.table ≢ f)
        (was_named : c.role f ≡ Page → page_count (entries_of c) f ≡ 0) (below : f < n)
        (free_listed : (k : ℕ) → k < free_len → upd c.role f role (place k) ≡ Free k) (free_total : free_len + free_count (c.role f) ≡ c.free_len + free_count role) where
      pub role_sound : IsSound n with_role
      role_sound = record {
        tables = λ x r other here.
            let was = sym (regions_stay x r) ∙ here in
            upd-other c.role f role other.table (unnamed x r other was) ∙ sound.tables x r other was;
        pages = λ x y other here.
            let was : entries_of c x y ≡ Some other = sym (entries_stay x y) ∙ here in
            let is = sound.pages x y other was in
            let limits = entry_limits n c x y other sound was in
            let some = page_count-some (entries_of c) x y other limits.0 limits.1 was in
            upd-other c.role f role other.frame (λ e. let zero_at = was_named (ap c.role (sym e) ∙ is) in let same = ap (page_count (entries_of c)) e in absurd (omega (arith, some, zero_at, same))) ∙ is;
        counts = λ q. sound.counts q ∙ page_count-same (entries_of c) (entries_of with_role) q (λ x y. ap (named q) (sym (entries_stay x y)));
        listed = free_listed;
        free_len =
            let change = total-change n f (λ q. free_count (upd c.role f role q)) (λ q. free_count (c.role q)) below (λ q ne. ap free_count (upd-other c.role f role q ne)) in
            let here = ap free_count (upd-at c.role f role) in
            let was = sound.free_len in
            omega (arith, change, here, was, free_total);
        outside = λ q past. upd-other c.role f role q (λ e. absurd (omega (arith, e, past, below))) ∙ sound.outside q past;
        limit = sound.limit;
      }

-- no region names a frame that is no table
pub no_table : (n : ℕ) (c : Held) (f : ℕ) → IsSound n c → is_table (c.role f) ≡ false → (x r : ℕ) (other : Region) → regions_of c x r ≡ Some other → other.table ≢ f
no_table n c f sound none x r other here e = let at : c.role f ≡ Table x r = ap c.role (sym e) ∙ sound.tables x r other here in let both = ap is_table at in absurd cc

-- a frame that may be mapped is not reserved
pub not_reserved : (role : Role) → may_map role ≡ true → is_reserved role ≡ false
not_reserved Reserved is = absurd cc
not_reserved (Free k) is = refl
not_reserved Fresh is = refl
not_reserved Page is = refl
not_reserved Directory is = refl
not_reserved (Table x y) is = refl

-- a frame that is not reserved is one of those that there are
pub below_frames : (n : ℕ) (c : Held) (f : ℕ) → IsSound n c → is_reserved (c.role f) ≡ false → f < n
below_frames n c f sound e = elim (cases_lt f n) [
  | inl lt ↦ lt
  | inr past ↦ let out = ap is_reserved (sound.outside f past) in absurd cc
]

-- ---- the head of the list is handed out

module _ (n : ℕ) (c : Held) (sound : IsSound n c) (m : ℕ) (some : c.free_len ≡ suc m) (zeros : List ℕ) where
  abbrev pub head : ℕ
  head = c.place m

  abbrev pub taken_held : Held
  taken_held = with_role n c sound head Fresh (upd c.bytes head zeros) c.place m

  pub head_is : c.role head ≡ Free m
  head_is = sound.listed m (omega arith)

  pub taken_sound : IsSound n taken_held
  taken_sound = role_sound n c sound head Fresh (upd c.bytes head zeros) c.place m (role_regions n c sound head Fresh (upd c.bytes head zeros) c.place m (ap is_directory head_is) refl) (no_table n c head sound (ap is_table head_is)) (λ e. let h = head_is in absurd cc)
      (below_frames n c head sound (ap is_reserved head_is)) list_holds (let was = ap free_count head_is in omega (arith, was))
    where
      list_holds : (k : ℕ) → k < m → upd c.role head Fresh (c.place k) ≡ Free k
      list_holds k lt =
          let is = sound.listed k (omega arith) in
          upd-other c.role head Fresh (c.place k) (λ e. let h = head_is in let same : ◌≡◌ {A = Role} (Free k) (Free m) = sym is ∙ ap c.role e ∙ h in let both : k ≡ m = cc in absurd (omega (arith, both, lt))) ∙ is

  pub taken_state : state_of taken_held ≡ taken (state_of c) head (stacked c.place m) zeros
  unfolding state_of
  taken_state = λ i. record {
    frames = c.frames;
    uses = λ f. upd-seen use_of c.role head Fresh f i;
    free = stacked c.place m;
    pages = λ f. same_bytes f i;
    regions = λ x r. role_regions n c sound head Fresh (upd c.bytes head zeros) c.place m (ap is_directory head_is) refl x r i;
    entries = λ x y. role_entries n c sound head Fresh (upd c.bytes head zeros) c.place m (ap is_directory head_is) refl x y i;
  }
    where
      same_bytes : (f : ℕ) → bytes_by (upd c.role head Fresh f) (upd c.bytes head zeros f) ≡ upd (λ q. bytes_by (c.role q) (c.bytes q)) head zeros f
      same_bytes f = elim (cases_eq f head) [
        | inl e ↦ (λ i. bytes_by ((ap (upd c.role head Fresh) e ∙ upd-at c.role head Fresh) i) ((ap (upd c.bytes head zeros) e ∙ upd-at c.bytes head zeros) i)) ∙ sym (ap (upd (λ q. bytes_by (c.role q) (c.bytes q)) head zeros) e ∙ upd-at (λ q. bytes_by (c.role q) (c.bytes q)) head zeros)
        | inr ne ↦ (λ i. bytes_by (upd-other c.role head Fresh f ne i) (upd-other c.bytes head zeros f ne i)) ∙ sym (upd-other (λ q. bytes_by (c.role q) (c.bytes q)) head zeros f ne)
      ]

  pub taken_free : (state_of c).free ≡ head ∷ stacked c.place m
  unfolding state_of stacked
  taken_free = ap (stacked c.place) some

-- ---- a frame is freed

module _ (n : ℕ) (c : Held) (sound : IsSound n c) (g : ℕ) (used : free_count (c.role g) ≡ 0) (there : is_reserved (c.role g) ≡ false)
    (unnamed : (x r : ℕ) (other : Region) → regions_of c x r ≡ Some other → other.table ≢ g)
    (alone : (r : ℕ) → regions_of c g r ≡ None) (uncounted : c.role g ≡ Page → page_count (entries_of c) g ≡ 0) where
  abbrev pub freed_held : Held
  freed_held = with_role n c sound g (Free c.free_len) c.bytes (upd c.place c.free_len g) (suc c.free_len)

  freed_regions : (x r : ℕ) → regions_of freed_held x r ≡ regions_of c x r
  unfolding regions_of
  freed_regions x r = elim (cases_eq x g) [
    | inr ne ↦ ap (λ (z : Role). cond (is_directory z) (cond (nat_lt r region_limit) (region_of (c.word x r)) None) None) (upd-other c.role g (Free c.free_len) x ne)
    | inl same ↦
        ap (λ (z : Role). cond (is_directory z) (cond (nat_lt r region_limit) (region_of (c.word x r)) None) None) (ap (upd c.role g (Free c.free_len)) same ∙ upd-at c.role g (Free c.free_len))
        ∙ sym (ap (λ (z : ℕ). regions_of c z r) same ∙ alone r)
  ]

  place_stays : (k : ℕ) → k < c.free_len → c.place k ≢ g
  place_stays k lt e = let at = ap free_count (ap c.role (sym e) ∙ sound.listed k lt) in absurd (omega (arith, at, used))

  pub freed_sound : IsSound n freed_held
  freed_sound = role_sound n c sound g (Free c.free_len) c.bytes (upd c.place c.free_len g) (suc c.free_len) freed_regions unnamed uncounted
      (below_frames n c g sound there) list_holds (omega (arith, used))
    where
      list_holds : (k : ℕ) → k < suc c.free_len → upd c.role g (Free c.free_len) (upd c.place c.free_len g k) ≡ Free k
      list_holds k lt = elim (cases_eq k c.free_len) [
        | inl e ↦ ap (upd c.role g (Free c.free_len)) (ap (upd c.place c.free_len g) e ∙ upd-at c.place c.free_len g) ∙ upd-at c.role g (Free c.free_len) ∙ ap (λ (z : ℕ). Free z) (sym e)
        | inr ne ↦ ap (upd c.role g (Free c.free_len)) (upd-other c.place c.free_len g k ne) ∙ upd-other c.role g (Free c.free_len) (c.place k) (place_stays k (omega arith)) ∙ sound.listed k (omega arith)
      ]

  pub freed_state : state_of freed_held ≡ freed (state_of c) g
  unfolding state_of stacked
  freed_state = λ i. record {
    frames = c.frames;
    uses = λ f. upd-seen use_of c.role g (Free c.free_len) f i;
    free = upd-at c.place c.free_len g i ∷ listed-same (upd c.place c.free_len g) c.place c.free_len (λ k lt. upd-other c.place c.free_len g k (λ e. absurd (omega (arith, e, lt)))) i;
    pages = λ f. same_bytes f i;
    regions = λ x r. freed_regions x r i;
    entries = λ x y. entries-by c freed_held freed_regions refl x y i;
  }
    where
      same_bytes : (f : ℕ) → bytes_by (upd c.role g (Free c.free_len) f) (c.bytes f) ≡ upd (λ q. bytes_by (c.role q) (c.bytes q)) g [] f
      same_bytes f = elim (cases_eq f g) [
        | inl e ↦ ap (λ r. bytes_by r (c.bytes f)) (ap (upd c.role g (Free c.free_len)) e ∙ upd-at c.role g (Free c.free_len)) ∙ sym (ap (upd (λ q. bytes_by (c.role q) (c.bytes q)) g []) e ∙ upd-at (λ q. bytes_by (c.role q) (c.bytes q)) g [])
        | inr ne ↦ ap (λ r. bytes_by r (c.bytes f)) (upd-other c.role g (Free c.free_len) f ne) ∙ sym (upd-other (λ q. bytes_by (c.role q) (c.bytes q)) g [] f ne)
      ]

-- ---- a fresh frame becomes a directory, or a table that no region has yet

module _ (n : ℕ) (c : Held) (sound : IsSound n c) (h : ℕ) (is : c.role h ≡ Fresh) (zero_words : (i : ℕ) → region_of (c.word h i) ≡ None) where
  abbrev pub created_held : Held
  created_held = with_role n c sound h Directory c.bytes c.place c.free_len

  created_regions : (x r : ℕ) → regions_of created_held x r ≡ regions_of c x r
  unfolding regions_of
  created_regions x r = elim (cases_eq x h) [
    | inr ne ↦ ap (λ (z : Role). cond (is_directory z) (cond (nat_lt r region_limit) (region_of (c.word x r)) None) None) (upd-other c.role h Directory x ne)
    | inl same ↦
        ap (λ (z : Role). cond (is_directory z) (cond (nat_lt r region_limit) (region_of (c.word x r)) None) None) (ap (upd c.role h Directory) same ∙ upd-at c.role h Directory)
        ∙ ap (λ z. cond (nat_lt r region_limit) (region_of (c.word z r)) None) same ∙ ap (λ z. cond (nat_lt r region_limit) z None) (zero_words r) ∙ none_both (nat_lt r region_limit)
        ∙ sym (ap (λ (z : Role). cond (is_directory z) (cond (nat_lt r region_limit) (region_of (c.word x r)) None) None) (ap c.role same ∙ is))
  ]
    where
      none_both : (b : Bool) → ◌≡◌ {A = Option Region} (cond b None None) None
      none_both true = refl
      none_both false = refl

  kept_listed : (role : Role) (k : ℕ) → k < c.free_len → upd c.role h role (c.place k) ≡ Free k
  kept_listed role k lt = let at = sound.listed k lt in upd-other c.role h role (c.place k) (λ e. let same = ap c.role e in absurd cc) ∙ at

  pub created_sound : IsSound n created_held
  created_sound = role_sound n c sound h Directory c.bytes c.place c.free_len created_regions (no_table n c h sound (ap is_table is)) (λ e. absurd cc) (below_frames n c h sound (ap is_reserved is)) (kept_listed Directory) (let was = ap free_count is in omega (arith, was))

  abbrev pub table_held : ℕ → ℕ → Held
  table_held d r = with_role n c sound h (Table d r) c.bytes c.place c.free_len

  pub table_sound : (d r : ℕ) → IsSound n (table_held d r)
  table_sound d r = role_sound n c sound h (Table d r) c.bytes c.place c.free_len (role_regions n c sound h (Table d r) c.bytes c.place c.free_len (ap is_directory is) refl) (no_table n c h sound (ap is_table is)) (λ e. absurd cc)
      (below_frames n c h sound (ap is_reserved is)) (kept_listed (Table d r)) (let was = ap free_count is in omega (arith, was))

  abbrev pub unseen : SpacesState → Use → SpacesState
  unseen s now = record s { uses = upd s.uses h now; pages = upd s.pages h [] }

  unseen_bytes : (role : Role) → bytes_by role (c.bytes h) ≡ [] → (f : ℕ) → bytes_by (upd c.role h role f) (c.bytes f) ≡ upd (λ q. bytes_by (c.role q) (c.bytes q)) h [] f
  unseen_bytes role none f = elim (cases_eq f h) [
    | inl e ↦ (λ i. bytes_by ((ap (upd c.role h role) e ∙ upd-at c.role h role) i) (c.bytes (e i))) ∙ none ∙ sym (ap (upd (λ q. bytes_by (c.role q) (c.bytes q)) h []) e ∙ upd-at (λ q. bytes_by (c.role q) (c.bytes q)) h [])
    | inr ne ↦ ap (λ r. bytes_by r (c.bytes f)) (upd-other c.role h role f ne) ∙ sym (upd-other (λ q. bytes_by (c.role q) (c.bytes q)) h [] f ne)
  ]

  pub created_state : state_of created_held ≡ unseen (state_of c) directory
  unfolding state_of
  created_state = λ i. record {
    frames = c.frames;
    uses = λ f. upd-seen use_of c.role h Directory f i;
    free = stacked c.place c.free_len;
    pages = λ f. unseen_bytes Directory refl f i;
    regions = λ x r. created_regions x r i;
    entries = λ x y. entries-by c created_held created_regions refl x y i;
  }

  pub table_state : (d r : ℕ) → state_of (table_held d r) ≡ unseen (state_of c) table
  unfolding state_of
  table_state d r = λ i. record {
    frames = c.frames;
    uses = λ f. upd-seen use_of c.role h (Table d r) f i;
    free = stacked c.place c.free_len;
    pages = λ f. unseen_bytes (Table d r) refl f i;
    regions = λ x q. role_regions n c sound h (Table d r) c.bytes c.place c.free_len (ap is_directory is) refl x q i;
    entries = λ x y. role_entries n c sound h (Table d r) c.bytes c.place c.free_len (ap is_directory is) refl x y i;
  }
