-- A page's entry is cleared.
use Rattle.std.proofs.Common.{◌≡◌, ◌∙◌, ◌+◌, ◌-◌, ◌/◌, ◌%◌, ◌<◌, ◌≤◌, inl, inr, ℕ, List, [], length, get_or, Option}
use Rattle.std.proofs.Common.{Some, None, refl, sym, ap, subst, arith, length-set}
use Rattle.std.specs.Prelude.{slice_set}
use Rattle.std.specs.Option.{option_map}
use Rattle.jos_base.specs.Words.{upd}
use Rattle.jos_base.specs.Reach.{Entry}
use Rattle.jos_space.specs.declared.role.Role.TheVariants.{Reserved, Page}
use Rattle.jos_base.specs.Counting.{frame_limit, page_limit, named, page_count}
use Rattle.jos_base.specs.SpacesState.{Region, SpacesState, put, without_entry, frame_of, released, unmapped}
use Rattle.jos_space.specs.Frames.{Held, IsSound, Lists, AreSound, held_in, state, regions_of, entries_of, entry_in}
use Rattle.jos_space.specs.Frames.{entry_of, state_of}
use Rattle.jos_space.proofs.Lookups.{regions-same, region_limits, entries-by}
use Rattle.jos_space.proofs.Mapping.{word_regions, word_entries}
use Rattle.jos_space.proofs.Roles.{below_frames, is_reserved}
use Rattle.jos_space.proofs.TableLists.{regions_state}
use Rattle.jos_space.proofs.MapsPage.{region_is, entry_present, entry_absent}
use Rattle.jos_space.proofs.OverLists.{word-set}
use Rattle.std.proofs.lemmas.Bool.{cases_eq}
use Rattle.jos_base.proofs.Maps.{upd-at, upd-other}
use Rattle.jos_base.proofs.Counts.{page_count-put, page_count-same, page_count-some, named_is}
use Rattle.jos_base.proofs.Puts.{put-at, put-other, put-stays}
use Rattle.jos_base.proofs.Lists.{get_or-set}

module _ (n : ℕ) (c : Held) (sound : IsSound n c) (d p : ℕ) (region : Region) (is : regions_of c d (p / 1024) ≡ Some region) (counted : ℕ → ℕ)
    (law : (f : ℕ) → counted f + named f (entries_of c d p) ≡ c.count f) where
  abbrev pub without_page : Held
  without_page = record c { word = put c.word region.table (p % 1024) 0; count = counted }

  abbrev word_only : Held
  word_only = record c { word = put c.word region.table (p % 1024) 0 }

  gone_regions : (x r : ℕ) → regions_of without_page x r ≡ regions_of c x r
  gone_regions x r = regions-same word_only without_page (λ x. refl) (λ a b dir. refl) x r ∙ word_regions n c sound d p region is 0 x r

  gone_entries : (x y : ℕ) → entries_of without_page x y ≡ put (entries_of c) d p None x y
  gone_entries x y = entries-by word_only without_page (λ a r. regions-same word_only without_page (λ x. refl) (λ a b dir. refl) a r) refl x y ∙ word_entries n c sound d p region is 0 x y

  pub gone_sound : IsSound n without_page
  gone_sound = record {
    tables = λ x r other here. sound.tables x r other (sym (gone_regions x r) ∙ here);
    pages = λ x y other here. by_place x y other (sym (gone_entries x y) ∙ here);
    counts = λ f.
        let both = page_count-put (entries_of c) d p None f limits.0 limits.1 in
        let old = sound.counts f in
        let new = law f in
        let same : page_count (entries_of without_page) f ≡ page_count (put (entries_of c) d p None) f = page_count-same (entries_of without_page) (put (entries_of c) d p None) f (λ x y. ap (named f) (gone_entries x y)) in
        omega (arith, both, old, new, same);
    listed = sound.listed;
    free_len = sound.free_len;
    outside = sound.outside;
    limit = sound.limit;
  }
    where
      limits : (d < frame_limit) × (p < page_limit)
      limits = region_limits n c d p region sound is

      by_place : (x y : ℕ) (other : Entry) → put (entries_of c) d p None x y ≡ Some other → c.role other.frame ≡ Page
      by_place x y other here = elim (cases_eq x d) [
        | inr ne ↦ sound.pages x y other (sym (put-other (entries_of c) d p None x y (λ e. absurd (ne e))) ∙ here)
        | inl same_x ↦ elim (cases_eq y p) [
          | inr ne ↦ sound.pages x y other (sym (put-other (entries_of c) d p None x y (λ _. ne)) ∙ here)
          | inl same_y ↦ absurd (let at : ◌≡◌ {A = Option Entry} None (Some other) = sym (put-at (entries_of c) d p None) ∙ (λ i. put (entries_of c) d p None (sym same_x i) (sym same_y i)) ∙ here in cc)
        ]
      ]

  pub gone_state : state_of without_page ≡ without_entry (state_of c) d p
  unfolding state_of
  gone_state = λ i. record (state_of c) { regions = λ x r. gone_regions x r i; entries = λ x y. gone_entries x y i }

-- ---- over the lists

module _ (l : Lists) (ok : AreSound l) (d p t : ℕ) (here : option_map (λ (r : Region). r.table) ((state l).regions d (p / 1024)) ≡ Some t)
    (o : ℕ) (o_is : o ≡ get_or (get_or l.words t []) (p % 1024) 0) where
  found : (region : Region) × ((state l).regions d (p / 1024) ≡ Some region) × (region.table ≡ t)
  found = region_is ((state l).regions d (p / 1024)) t here

  is : regions_of (held_in l) d (p / 1024) ≡ Some (record found.0 { table = t })
  is = sym (regions_state (held_in l) d (p / 1024)) ∙ found.1 ∙ (λ i. Some (record found.0 { table = found.2 i }))

  old_is : entries_of (held_in l) d p ≡ entry_of o
  unfolding entries_of
  old_is = ap (λ z. entry_in (held_in l) z (p % 1024)) is ∙ ap entry_of (sym o_is)

  pub gone_table : t < length l.words
  gone_table =
      let is_table = ok.sound.tables d (p / 1024) (record found.0 { table = t }) is in
      let below = below_frames (length l.roles) (held_in l) t ok.sound (ap is_reserved is_table) in
      let len = ok.words in
      omega (arith, below, len)

  module _ (row : length (get_or l.words t []) ≡ 1024) (counts : List ℕ) (counts_len : length counts ≡ length l.counts)
      (law : (f : ℕ) → get_or counts f 0 + named f (entries_of (held_in l) d p) ≡ get_or l.counts f 0) where
    abbrev pub gone_lists : Lists
    gone_lists = record l { words = slice_set l.words t (slice_set (get_or l.words t []) (p % 1024) 0); counts = counts }

    gone_is : held_in gone_lists ≡ without_page (length l.roles) (held_in l) ok.sound d p (record found.0 { table = t }) is (λ f. get_or counts f 0) law
    gone_is = λ i. record (held_in l) { word = λ f j. word-set l.words t (p % 1024) 0 gone_table (omega (arith, row)) f j i; count = λ f. get_or counts f 0 }

    gone_lists_sound : AreSound gone_lists
    gone_lists_sound = record {
      words = length-set l.words t (slice_set (get_or l.words t []) (p % 1024) 0) ∙ ok.words;
      bytes = ok.bytes;
      counts = counts_len ∙ ok.counts;
      order = ok.order;
      records = ok.records;
      sound = subst (λ (c : Held). IsSound (length l.roles) c) (sym gone_is) (gone_sound (length l.roles) (held_in l) ok.sound d p (record found.0 { table = t }) is (λ f. get_or counts f 0) law);
    }

    gone_lists_state : state gone_lists ≡ without_entry (state l) d p
    gone_lists_state = ap state_of gone_is ∙ gone_state (length l.roles) (held_in l) ok.sound d p (record found.0 { table = t }) is (λ f. get_or counts f 0) law

  module _ (row : length (get_or l.words t []) ≡ 1024) (absent : o % 2 ≡ 1 → ⊥) where
    pub law_absent : (f : ℕ) → get_or l.counts f 0 + named f (entries_of (held_in l) d p) ≡ get_or l.counts f 0
    law_absent f = let none = ap (named f) (old_is ∙ entry_absent o absent) in omega (arith, none)

    pub absent_lists_sound : AreSound (gone_lists row l.counts refl law_absent)
    absent_lists_sound = gone_lists_sound row l.counts refl law_absent

    pub absent_state : state (gone_lists row l.counts refl law_absent) ≡ without_entry (state l) d p
    absent_state = gone_lists_state row l.counts refl law_absent

    pub absent_frame : None ≡ frame_of ((state l).entries d p)
    unfolding state_of
    absent_frame = sym (ap frame_of (old_is ∙ entry_absent o absent))

  module _ (row : length (get_or l.words t []) ≡ 1024) (stood : o % 2 ≡ 1) where
    abbrev gone : Entry
    gone = record { frame = o / 4096; perm = o % 4096 }

    held_entry : entries_of (held_in l) d p ≡ Some gone
    held_entry = old_is ∙ entry_present o stood

    pub stood_page : get_or l.roles (o / 4096) Reserved ≡ Page
    stood_page = ok.sound.pages d p gone held_entry

    pub stood_frame : Some (o / 4096) ≡ frame_of ((state l).entries d p)
    unfolding state_of
    stood_frame = sym (ap frame_of held_entry)

    pub stood_counts : o / 4096 < length l.counts
    stood_counts = let below = below_frames (length l.roles) (held_in l) (o / 4096) ok.sound (ap is_reserved stood_page) in let len = ok.counts in omega (arith, below, len)

    pub stood_some : 1 ≤ get_or l.counts (o / 4096) 0
    stood_some =
        let limits = region_limits (length l.roles) (held_in l) d p (record found.0 { table = t }) ok.sound is in
        let some = page_count-some (entries_of (held_in l)) d p gone limits.0 limits.1 held_entry in
        let count = ok.sound.counts (o / 4096) in
        omega (arith, some, count)

    abbrev pub counts_less : List ℕ
    counts_less = slice_set l.counts (o / 4096) (get_or l.counts (o / 4096) 0 - 1)

    pub law_stood : (f : ℕ) → get_or counts_less f 0 + named f (entries_of (held_in l) d p) ≡ get_or l.counts f 0
    law_stood f =
        let set = get_or-set l.counts (o / 4096) (get_or l.counts (o / 4096) 0 - 1) 0 stood_counts f in
        let some = stood_some in
        let was = ap (named f) held_entry in
        elim (named_is f gone) [
          | inl h ↦ let one = h.1 in let at = ap (upd (λ z. get_or l.counts z 0) (o / 4096) (get_or l.counts (o / 4096) 0 - 1)) h.0 ∙ upd-at (λ z. get_or l.counts z 0) (o / 4096) (get_or l.counts (o / 4096) 0 - 1) in let same = ap (λ z. get_or l.counts z 0) h.0 in omega (arith, set, some, was, one, at, same)
          | inr h ↦ let none = h.1 in let at = upd-other (λ z. get_or l.counts z 0) (o / 4096) (get_or l.counts (o / 4096) 0 - 1) f h.0 in omega (arith, set, was, none, at)
        ]

    pub stood_lists_sound : AreSound (gone_lists row counts_less (length-set l.counts (o / 4096) (get_or l.counts (o / 4096) 0 - 1)) law_stood)
    stood_lists_sound = gone_lists_sound row counts_less (length-set l.counts (o / 4096) (get_or l.counts (o / 4096) 0 - 1)) law_stood

    pub stood_state : state (gone_lists row counts_less (length-set l.counts (o / 4096) (get_or l.counts (o / 4096) 0 - 1)) law_stood) ≡ without_entry (state l) d p
    stood_state = gone_lists_state row counts_less (length-set l.counts (o / 4096) (get_or l.counts (o / 4096) 0 - 1)) law_stood

-- where nothing stands nothing changes
pub unmapped_nothing : (s : SpacesState) (d p : ℕ) → s.entries d p ≡ None → unmapped s d p ≡ s
unfolding unmapped
unmapped_nothing s d p none =
    ap (λ o. released (without_entry s d p) (frame_of o)) none
    ∙ (λ i. record s { entries = λ x y. put-stays s.entries d p None (sym none) x y i })

pub unmapped_is : (s t u : SpacesState) (d p : ℕ) (stood : Option ℕ) → t ≡ without_entry s d p → stood ≡ frame_of (s.entries d p) → u ≡ released t stood → u ≡ unmapped s d p
unfolding unmapped
unmapped_is s t u d p stood e g r = r ∙ (λ i. released (e i) (g i))
