-- A space is destroyed.
use Rattle.std.proofs.Common.{◌≡◌, ◌≢◌, ◌∙◌, ◌+◌, ◌*◌, ◌/◌, ◌%◌, ◌<◌, inl, inr, ℕ, zero, suc}
use Rattle.std.proofs.Common.{[], length, get_or, Option, Some, None, refl, sym, ap, subst, arith, length-set}
use Rattle.std.specs.Prelude.{slice_set}
use Rattle.std.specs.Option.{option_map}
use Rattle.jos_base.specs.Counting.{page_limit}
use Rattle.jos_base.specs.SpacesState.{Region, SpacesState, put, freed, without_entry, frame_of, unmapped}
use Rattle.jos_base.specs.SpacesState.{pages_removed, without_region, tables_freed, region_limit}
use Rattle.jos_space.specs.declared.role.Role.{Role}
use Rattle.jos_space.specs.declared.role.Role.TheVariants.{Reserved, Directory, Table}
use Rattle.jos_space.specs.Frames.{Held, IsSound, Lists, AreSound, IsIdle, held_in, state, state_of, use_of}
use Rattle.jos_space.specs.Frames.{regions_of, entries_of, entry_in}
use Rattle.jos_space.proofs.Freeing.{idle_table}
use Rattle.jos_space.proofs.Marking.{entries_none, regions_past}
use Rattle.jos_space.proofs.MapsPage.{region_is}
use Rattle.jos_space.proofs.OverLists.{word-set}
use Rattle.jos_space.proofs.TableLists.{below_directory}
use Rattle.jos_space.proofs.Tables.{with_region, region_sound, region_state}
use Rattle.std.proofs.lemmas.Bool.{cases_eq, cases_lt}
use Rattle.jos_base.proofs.Puts.{put-at, put-other, put-stays}
use Rattle.jos_base.proofs.Released.{released_entries}

-- ---- pages

unmapped_entries : (s : SpacesState) (d p : ℕ) → (unmapped s d p).entries ≡ put s.entries d p None
unfolding unmapped
unmapped_entries s d p = released_entries (without_entry s d p) (frame_of (s.entries d p))

pages_gone : (s : SpacesState) (d n p : ℕ) → p < n → (pages_removed s d n).entries d p ≡ None
unfolding pages_removed
pages_gone s d zero p below = absurd (omega arith)
pages_gone s d (suc n) p below =
    (λ i. unmapped_entries (pages_removed s d n) d n i d p)
    ∙ elim (cases_eq p n) [
      | inl same ↦ ap (put (pages_removed s d n).entries d n None d) same ∙ put-at (pages_removed s d n).entries d n None
      | inr ne ↦ put-other (pages_removed s d n).entries d n None d p (λ _. ne) ∙ pages_gone s d n p (omega arith)
    ]

page_limit_is : page_limit ≡ 977920
unfolding page_limit
page_limit_is = refl

-- a space whose pages below UTOP are removed has none
pub no_pages : (l : Lists) (s : SpacesState) (d : ℕ) → state l ≡ pages_removed s d page_limit → (p : ℕ) → (state l).entries d p ≡ None
no_pages l s d is p = elim (cases_lt p page_limit) [
  | inl below ↦ ap (λ (t : SpacesState). t.entries d p) is ∙ pages_gone s d page_limit p below
  | inr past ↦ entries_none l d p (regions_past l d (p / 1024) (let limit = page_limit_is in omega (arith, past, limit)))
]

-- ---- tables

pub without_entries : (s : SpacesState) (d r : ℕ) (o : Option Region) → (without_region s d r o).entries ≡ s.entries
without_entries s d r None = refl
without_entries s d r (Some region) = refl

without_regions : (s : SpacesState) (d r : ℕ) (o : Option Region) → s.regions d r ≡ o → (q : ℕ) → (without_region s d r o).regions d q ≡ put s.regions d r None d q
without_regions s d r None is q = sym (put-stays s.regions d r None (sym is) d q)
without_regions s d r (Some region) is q = refl

tables_gone : (s : SpacesState) (d n r : ℕ) → r < n → (tables_freed s d n).regions d r ≡ None
unfolding tables_freed
tables_gone s d zero r below = absurd (omega arith)
tables_gone s d (suc n) r below =
    without_regions (tables_freed s d n) d n ((tables_freed s d n).regions d n) refl r
    ∙ elim (cases_eq r n) [
      | inl same ↦ ap (put (tables_freed s d n).regions d n None d) same ∙ put-at (tables_freed s d n).regions d n None
      | inr ne ↦ put-other (tables_freed s d n).regions d n None d r (λ _. ne) ∙ tables_gone s d n r (omega arith)
    ]

-- a space whose tables below UTOP are freed has none
pub no_tables : (l : Lists) (s : SpacesState) (d : ℕ) → state l ≡ tables_freed s d region_limit → (r : ℕ) → (state l).regions d r ≡ None
no_tables l s d is r = elim (cases_lt r region_limit) [
  | inl below ↦ ap (λ (t : SpacesState). t.regions d r) is ∙ tables_gone s d region_limit r below
  | inr past ↦ regions_past l d r past
]

pub tables_zero : (s : SpacesState) (d : ℕ) → s ≡ tables_freed s d 0
unfolding tables_freed
tables_zero s d = refl

pub tables_one : (s t : SpacesState) (d n : ℕ) → t ≡ tables_freed s d n → without_region t d n (t.regions d n) ≡ tables_freed s d (suc n)
unfolding tables_freed
tables_one s t d n is = ap (λ (z : SpacesState). without_region z d n (z.regions d n)) is

-- where there is no table nothing is freed
pub without_none : (s : SpacesState) (d r : ℕ) → s.regions d r ≡ None → s ≡ without_region s d r (s.regions d r)
without_none s d r none = sym (ap (without_region s d r) none)

pub without_some : (s : SpacesState) (d r t : ℕ) → option_map (λ (r : Region). r.table) (s.regions d r) ≡ Some t
    → freed (record s { regions = put s.regions d r None }) t ≡ without_region s d r (s.regions d r)
without_some s d r t here =
    let found = region_is (s.regions d r) t here in
    ap (freed (record s { regions = put s.regions d r None })) (sym found.2) ∙ sym (ap (without_region s d r) found.1)

-- ---- a region loses its table, over the lists

module _ (l : Lists) (ok : AreSound l) (d r : ℕ) (dir : get_or l.roles d Reserved ≡ Directory) (below : r < region_limit)
    (empty : (p : ℕ) → (state l).entries d p ≡ None) (row : length (get_or l.words d []) ≡ 1024) where
  no_entries : (i : ℕ) → i < 1024 → entry_in (held_in l) None i ≡ entry_in (held_in l) (regions_of (held_in l) d r) i
  unfolding state_of entries_of
  no_entries i small =
      let place : (r * 1024 + i) / 1024 ≡ r = omega arith in
      let low : (r * 1024 + i) % 1024 ≡ i = omega arith in
      sym ((λ j. entry_in (held_in l) (regions_of (held_in l) d (sym place j)) (sym low j)) ∙ empty (r * 1024 + i))

  no_knowledge : (region : Region) → ◌≡◌ {A = Option Region} None (Some region) → get_or l.roles region.table Reserved ≡ Table d r
  no_knowledge region e = absurd cc

  abbrev pub cleared_lists : Lists
  cleared_lists = record l { words = slice_set l.words d (slice_set (get_or l.words d []) r 0) }

  cleared_is : held_in cleared_lists ≡ with_region (length l.roles) (held_in l) ok.sound d r dir below 0 None refl
  cleared_is = λ i. record (held_in l) { word = λ f j. word-set l.words d r 0 (below_directory l ok d dir) (omega (arith, row, below)) f j i }

  pub cleared_lists_sound : AreSound cleared_lists
  cleared_lists_sound = record {
    words = length-set l.words d (slice_set (get_or l.words d []) r 0) ∙ ok.words;
    bytes = ok.bytes;
    counts = ok.counts;
    order = ok.order;
    records = ok.records;
    sound = subst (λ (c : Held). IsSound (length l.roles) c) (sym cleared_is)
        (region_sound (length l.roles) (held_in l) ok.sound d r dir below 0 None refl no_knowledge no_entries);
  }

  pub cleared_state : state cleared_lists ≡ record (state l) { regions = put (state l).regions d r None }
  unfolding state_of
  cleared_state = ap state_of cleared_is ∙ region_state (length l.roles) (held_in l) ok.sound d r dir below 0 None refl no_knowledge no_entries

  pub knows_table : (t : ℕ) → option_map (λ (r : Region). r.table) ((state l).regions d r) ≡ Some t → get_or l.roles t Reserved ≡ Table d r
  unfolding state_of
  knows_table t here =
      let found = region_is ((state l).regions d r) t here in
      ap (λ (f : ℕ). get_or l.roles f Reserved) (sym found.2) ∙ ok.sound.tables d r found.0 found.1

  pub cleared_idle : (t : ℕ) → option_map (λ (r : Region). r.table) ((state l).regions d r) ≡ Some t → IsIdle (record (state l) { regions = put (state l).regions d r None }) t
  unfolding state_of
  cleared_idle t here =
      idle_table (record (state l) { regions = put (state l).regions d r None }) t (ap use_of knows) unnamed
    where
      knows : get_or l.roles t Reserved ≡ Table d r
      knows = knows_table t here

      elsewhere : (x q : ℕ) (other : Region) → (x ≡ d → q ≢ r) → (state l).regions x q ≡ Some other → other.table ≢ t
      elsewhere x q other apart there same =
          let is = ok.sound.tables x q other there in
          let both : ◌≡◌ {A = Role} (Table x q) (Table d r) = sym is ∙ ap (λ (f : ℕ). get_or l.roles f Reserved) same ∙ knows in
          let first : x ≡ d = cc in
          let second : q ≡ r = cc in
          absurd (apart first second)

      unnamed : (x q : ℕ) (other : Region) → put (state l).regions d r None x q ≡ Some other → other.table ≢ t
      unnamed x q other there = elim (cases_eq x d) [
        | inr ne ↦ elsewhere x q other (λ e. absurd (ne e)) (sym (put-other (state l).regions d r None x q (λ e. absurd (ne e))) ∙ there)
        | inl same_x ↦ elim (cases_eq q r) [
          | inr ne ↦ elsewhere x q other (λ _. ne) (sym (put-other (state l).regions d r None x q (λ _. ne)) ∙ there)
          | inl same_q ↦
              absurd (let none : ◌≡◌ {A = Option Region} None (Some other) = sym (put-at (state l).regions d r None) ∙ (λ i. put (state l).regions d r None (sym same_x i) (sym same_q i)) ∙ there in cc)
        ]
      ]
