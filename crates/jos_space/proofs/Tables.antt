-- A directory's word: a region gets a table, or its A bit.
use Rattle.std.proofs.Common.{◌≡◌, ◌≢◌, ◌∙◌, ◌/◌, ◌%◌, ◌<◌, inl, inr, ℕ, true, false, cond, Option, Some, None, refl}
use Rattle.std.proofs.Common.{sym, ap, arith}
use Rattle.std.specs.Prelude.{nat_lt}
use Rattle.std.proofs.lemmas.Bool.Decides.{nat_tests}
use Rattle.jos_base.specs.Words.{upd}
use Rattle.jos_space.specs.declared.role.Role.TheVariants.{Directory, Table}
use Rattle.jos_base.specs.Counting.{named}
use Rattle.jos_base.specs.SpacesState.{Region, put, region_limit}
use Rattle.jos_space.specs.Frames.{Held, IsSound, regions_of, entries_of, entry_in, entry_of, region_of, is_directory}
use Rattle.jos_space.specs.Frames.{state_of}
use Rattle.jos_space.proofs.Lookups.{regions-same}
use Rattle.jos_space.proofs.Roles.{is_table}
use Rattle.std.proofs.lemmas.Bool.{cases_eq}
use Rattle.jos_base.proofs.Maps.{upd-other}
use Rattle.jos_base.proofs.Counts.{page_count-same}
use Rattle.jos_base.proofs.Puts.{put-at, put-other}

pub region_at : (c : Held) (d r : ℕ) → c.role d ≡ Directory → r < region_limit → regions_of c d r ≡ region_of (c.word d r)
unfolding regions_of
region_at c d r dir below = let lt : nat_lt r region_limit ≡ true = grind (arith, nat_tests) in rw (dir, lt) refl

-- ---- another word for a region

module _ (n : ℕ) (c : Held) (sound : IsSound n c) (d r : ℕ) (dir : c.role d ≡ Directory) (below : r < region_limit) (w : ℕ) (now : Option Region) (word_is : region_of w ≡ now) where
  abbrev pub with_region : Held
  with_region = record c { word = put c.word d r w }

  only_other : (x q : ℕ) → (x ≡ d → q ≢ r) → regions_of with_region x q ≡ regions_of c x q
  unfolding regions_of
  only_other x q ne = ap (λ z. cond (is_directory (c.role x)) (cond (nat_lt q region_limit) (region_of z) None) None) (put-other c.word d r w x q ne)

  pub region_regions : (x q : ℕ) → regions_of with_region x q ≡ put (regions_of c) d r now x q
  region_regions x q = elim (cases_eq x d) [
    | inr ne ↦ only_other x q (λ e. absurd (ne e)) ∙ sym (put-other (regions_of c) d r now x q (λ e. absurd (ne e)))
    | inl same ↦ elim (cases_eq q r) [
      | inr ne ↦ only_other x q (λ _. ne) ∙ sym (put-other (regions_of c) d r now x q (λ _. ne))
      | inl at ↦ (λ i. regions_of with_region (same i) (at i)) ∙ region_at with_region d r dir below ∙ ap region_of (put-at c.word d r w) ∙ word_is ∙ sym (put-at (regions_of c) d r now) ∙ (λ i. put (regions_of c) d r now (sym same i) (sym at i))
    ]
  ]

  module _ (knows : (region : Region) → now ≡ Some region → c.role region.table ≡ Table d r)
      (same_entries : (i : ℕ) → i < 1024 → entry_in c now i ≡ entry_in c (regions_of c d r) i) where
    not_directory : (t x q : ℕ) → c.role t ≡ Table x q → t ≢ d
    not_directory t x q is e = let same = ap c.role e in absurd cc

    table_word : (t x q i : ℕ) → c.role t ≡ Table x q → with_region.word t i ≡ c.word t i
    table_word t x q i is = put-other c.word d r w t i (λ e. absurd (not_directory t x q is e))

    other_entries : (x y : ℕ) (o : Option Region) → regions_of c x (y / 1024) ≡ o → entry_in with_region o (y % 1024) ≡ entry_in c o (y % 1024)
    other_entries x y None e = refl
    other_entries x y (Some other) e = ap entry_of (table_word other.table x (y / 1024) (y % 1024) (sound.tables x (y / 1024) other e))

    new_entries : (i : ℕ) (o : Option Region) → now ≡ o → entry_in with_region o i ≡ entry_in c o i
    new_entries i None e = refl
    new_entries i (Some region) e = ap entry_of (table_word region.table d r i (knows region e))

    pub region_entries : (x y : ℕ) → entries_of with_region x y ≡ entries_of c x y
    unfolding entries_of
    region_entries x y = ap (λ o. entry_in with_region o (y % 1024)) (region_regions x (y / 1024)) ∙ elim (cases_eq x d) [
      | inr ne ↦ elsewhere (λ e. absurd (ne e))
      | inl same ↦ elim (cases_eq (y / 1024) r) [
        | inr ne ↦ elsewhere (λ _. ne)
        | inl at ↦
            ap (λ o. entry_in with_region o (y % 1024)) ((λ i. put (regions_of c) d r now (same i) (at i)) ∙ put-at (regions_of c) d r now)
            ∙ new_entries (y % 1024) now refl ∙ same_entries (y % 1024) (omega arith) ∙ (λ i. entry_in c (regions_of c (sym same i) (sym at i)) (y % 1024))
      ]
    ]
      where
        elsewhere : (x ≡ d → y / 1024 ≢ r) → entry_in with_region (put (regions_of c) d r now x (y / 1024)) (y % 1024) ≡ entry_in c (regions_of c x (y / 1024)) (y % 1024)
        elsewhere ne = ap (λ o. entry_in with_region o (y % 1024)) (put-other (regions_of c) d r now x (y / 1024) ne) ∙ other_entries x y (regions_of c x (y / 1024)) refl

    pub region_sound : IsSound n with_region
    region_sound = record {
      tables = λ x q other here. by_place x q other (sym (region_regions x q) ∙ here);
      pages = λ x y other here. sound.pages x y other (sym (region_entries x y) ∙ here);
      counts = λ f. sound.counts f ∙ page_count-same (entries_of c) (entries_of with_region) f (λ x y. ap (named f) (sym (region_entries x y)));
      listed = sound.listed;
      free_len = sound.free_len;
      outside = sound.outside;
      limit = sound.limit;
    }
      where
        by_place : (x q : ℕ) (other : Region) → put (regions_of c) d r now x q ≡ Some other → c.role other.table ≡ Table x q
        by_place x q other here = elim (cases_eq x d) [
          | inr ne ↦ sound.tables x q other (sym (put-other (regions_of c) d r now x q (λ e. absurd (ne e))) ∙ here)
          | inl same ↦ elim (cases_eq q r) [
            | inr ne ↦ sound.tables x q other (sym (put-other (regions_of c) d r now x q (λ _. ne)) ∙ here)
            | inl at ↦
                knows other (sym (put-at (regions_of c) d r now) ∙ (λ i. put (regions_of c) d r now (sym same i) (sym at i)) ∙ here)
                ∙ (λ i. Table (sym same i) (sym at i))
          ]
        ]

    pub region_state : state_of with_region ≡ record (state_of c) { regions = put (regions_of c) d r now }
    unfolding state_of
    region_state = λ i. record (state_of c) { regions = λ x q. region_regions x q i; entries = λ x y. region_entries x y i }

-- what is known of one region, for what may be none
pub knows_one : (c : Held) (d r : ℕ) (region : Region) → c.role region.table ≡ Table d r → (other : Region) → ◌≡◌ {A = Option Region} (Some region) (Some other) → c.role other.table ≡ Table d r
knows_one c d r region is other e = let one : region ≡ other = cc in ap (λ (z : Region). c.role z.table) (sym one) ∙ is

-- ---- the words of a frame that is neither a directory nor a table

module _ (n : ℕ) (c : Held) (sound : IsSound n c) (h : ℕ) (words : ℕ → ℕ) (was_directory : is_directory (c.role h) ≡ false) (was_table : is_table (c.role h) ≡ false) where
  abbrev pub with_words : Held
  with_words = record c { word = upd c.word h words }

  words_regions : (x q : ℕ) → regions_of with_words x q ≡ regions_of c x q
  words_regions = regions-same c with_words (λ x. refl)
      (λ x q dir. ap (λ (g : ℕ → ℕ). g q) (upd-other c.word h words x (λ e. let same = ap (λ z. is_directory (c.role z)) e in let yes = ap is_directory dir in absurd cc)))

  words_entries : (x y : ℕ) → entries_of with_words x y ≡ entries_of c x y
  unfolding entries_of
  words_entries x y = ap (λ o. entry_in with_words o (y % 1024)) (words_regions x (y / 1024)) ∙ by_region (regions_of c x (y / 1024)) refl
    where
      by_region : (o : Option Region) → regions_of c x (y / 1024) ≡ o → entry_in with_words o (y % 1024) ≡ entry_in c o (y % 1024)
      by_region None e = refl
      by_region (Some other) e =
          let is = sound.tables x (y / 1024) other e in
          ap entry_of (ap (λ (g : ℕ → ℕ). g (y % 1024)) (upd-other c.word h words other.table (λ t. let same = ap (λ z. is_table (c.role z)) t in let yes = ap is_table is in absurd cc)))

  pub words_sound : IsSound n with_words
  words_sound = record {
    tables = λ x q other here. sound.tables x q other (sym (words_regions x q) ∙ here);
    pages = λ x y other here. sound.pages x y other (sym (words_entries x y) ∙ here);
    counts = λ f. sound.counts f ∙ page_count-same (entries_of c) (entries_of with_words) f (λ x y. ap (named f) (sym (words_entries x y)));
    listed = sound.listed;
    free_len = sound.free_len;
    outside = sound.outside;
    limit = sound.limit;
  }

  pub words_state : state_of with_words ≡ state_of c
  unfolding state_of
  words_state = λ i. record (state_of c) { regions = λ x q. words_regions x q i; entries = λ x y. words_entries x y i }
