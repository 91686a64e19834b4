-- The steps over the lists.
use Rattle.std.proofs.Common.{◌≡◌, ◌∙◌, ◌+◌, ◌/◌, ◌%◌, ◌<◌, ◌≤◌, ◌==◌, inl, inr, ℕ, suc, true, false, cond, List, []}
use Rattle.std.proofs.Common.{length, get_or, Some, None, refl, sym, ap, subst, arith, length-set}
use Rattle.std.specs.Prelude.{slice_set, nat_lt}
use Rattle.std.specs.Option.{option_map}
use Rattle.std.proofs.lemmas.List.{get_or-set_same, get_or-set_other}
use Rattle.jos_base.specs.Words.{upd}
use Rattle.jos_base.specs.Reach.{Entry}
use Rattle.jos_space.specs.declared.role.Role.{Role}
use Rattle.jos_space.specs.declared.role.Role.TheVariants.{Reserved, Free, Fresh, Page, Directory, Table}
use Rattle.jos_base.specs.Counting.{frame_limit, named}
use Rattle.jos_base.specs.SpacesState.{Region, SpacesState, put, taken, with_entry, region_limit}
use Rattle.jos_space.specs.Frames.{Held, IsSound, Lists, AreSound, held_in, state, regions_of, entries_of, entry_of}
use Rattle.jos_space.specs.Frames.{is_accessed, region_of, free_count, state_of, stacked, may_map, handed_out}
use Rattle.jos_space.specs.Frames.{handed_by}
use Rattle.std.proofs.lemmas.Bool.Decides.{nat_tests}
use Rattle.jos_space.proofs.Mapping.{with_page, page_sound, page_state}
use Rattle.jos_space.proofs.Roles.{below_frames, is_reserved, taken_held, taken_sound, taken_state, taken_free}
use Rattle.std.proofs.lemmas.Bool.{cases_eq}
use Rattle.jos_base.proofs.Maps.{upd-at, upd-other, upd-stays}
use Rattle.jos_base.proofs.Sums.{total-change, total-le}
use Rattle.jos_base.proofs.Puts.{put-other}
use Rattle.jos_base.proofs.Lists.{get_or-set}
use Rattle.jos_space.proofs.Roles.{not_reserved}

-- a word set in the list of a frame
pub word-set : (words : List (List ℕ)) (t i w : ℕ) → t < length words → i < length (get_or words t []) → (f j : ℕ)
    → get_or (get_or (slice_set words t (slice_set (get_or words t []) i w)) f []) j 0 ≡ put (λ f j. get_or (get_or words f []) j 0) t i w f j
word-set words t i w below_t below_i f j = elim (cases_eq f t) [
  | inr ne ↦ ap (λ (xs : List ℕ). get_or xs j 0) (get_or-set_other words t f (slice_set (get_or words t []) i w) [] ne) ∙ sym (put-other (λ f j. get_or (get_or words f []) j 0) t i w f j (λ e. absurd (ne e)))
  | inl same ↦
      ap (λ z. get_or (get_or (slice_set words t (slice_set (get_or words t []) i w)) z []) j 0) same
      ∙ ap (λ (xs : List ℕ). get_or xs j 0) (get_or-set_same words t (slice_set (get_or words t []) i w) [] below_t) ∙ get_or-set (get_or words t []) i w 0 below_i j
      ∙ sym (ap (λ (g : ℕ → ℕ). g j) (upd-at (λ f j. get_or (get_or words f []) j 0) t (upd (λ j. get_or (get_or words t []) j 0) i w)))
      ∙ ap (λ z. put (λ f j. get_or (get_or words f []) j 0) t i w z j) (sym same)
]

free_one : (role : Role) → free_count role ≤ 1
free_one Reserved = omega arith
free_one (Free k) = omega arith
free_one Fresh = omega arith
free_one Page = omega arith
free_one Directory = omega arith
free_one (Table d r) = omega arith

-- no more frames are free than there are, and fewer where one is not
pub free_below : (n : ℕ) (c : Held) → IsSound n c → c.free_len ≤ n
free_below n c sound = let all = total-le n 1 (λ f. free_count (c.role f)) (λ f. free_one (c.role f)) in let is = sound.free_len in omega (arith, all, is)

pub free_fewer : (n : ℕ) (c : Held) (f : ℕ) → IsSound n c → f < n → free_count (c.role f) ≡ 0 → c.free_len < n
free_fewer n c f sound below none =
    let one = total-change n f (upd (λ q. free_count (c.role q)) f 1) (λ q. free_count (c.role q)) below (λ q ne. upd-other (λ q. free_count (c.role q)) f 1 q ne) in
    let at = upd-at (λ q. free_count (c.role q)) f 1 in
    let all = total-le n 1 (upd (λ q. free_count (c.role q)) f 1) at_most in
    let is = sound.free_len in
    omega (arith, one, at, all, is)
  where
    at_most : (q : ℕ) → upd (λ q. free_count (c.role q)) f 1 q ≤ 1
    at_most q = elim (cases_eq q f) [
      | inl e ↦ let at = ap (upd (λ q. free_count (c.role q)) f 1) e ∙ upd-at (λ q. free_count (c.role q)) f 1 in omega (arith, at)
      | inr ne ↦ let at = upd-other (λ q. free_count (c.role q)) f 1 q ne in let one = free_one (c.role q) in omega (arith, at, one)
    ]

-- ---- the head of the list is handed out

module _ (l : Lists) (ok : AreSound l) (m : ℕ) (some : l.free_len ≡ suc m) where
  abbrev pub head_of : ℕ
  head_of = get_or l.order m 0

  abbrev pub taken_lists : Lists
  taken_lists = record l { roles = slice_set l.roles head_of Fresh; free_len = m }

  pub head_below : head_of < length l.roles
  head_below = below_frames (length l.roles) (held_in l) head_of ok.sound (let is = ok.sound.listed m (omega arith) in ap is_reserved is)

  pub head_place : m < length l.order
  head_place = let all = free_below (length l.roles) (held_in l) ok.sound in let len = ok.order in omega (arith, all, len, some)

  taken_is : held_in taken_lists ≡ taken_held (length l.roles) (held_in l) ok.sound m some (get_or l.bytes head_of [])
  taken_is = λ i. record (held_in l) {
    frames = length-set l.roles head_of Fresh i;
    role = λ f. get_or-set l.roles head_of Fresh Reserved head_below f i;
    bytes = λ f. sym (upd-stays (λ f. get_or l.bytes f []) head_of (get_or l.bytes head_of []) refl f) i;
    free_len = m;
  }

  pub taken_lists_sound : AreSound taken_lists
  taken_lists_sound =
      let len : length (slice_set l.roles head_of Fresh) ≡ length l.roles = length-set l.roles head_of Fresh in
      record {
        words = ok.words ∙ sym len;
        bytes = ok.bytes ∙ sym len;
        counts = ok.counts ∙ sym len;
        order = ok.order ∙ sym len;
        records = ok.records;
        sound = subst (λ n. IsSound n (held_in taken_lists)) (sym len) (subst (λ (c : Held). IsSound (length l.roles) c) (sym taken_is) (taken_sound (length l.roles) (held_in l) ok.sound m some (get_or l.bytes head_of [])));
      }

  pub taken_lists_state : state taken_lists ≡ taken (state l) head_of (stacked (held_in l).place m) (get_or l.bytes head_of [])
  taken_lists_state = ap state_of taken_is ∙ taken_state (length l.roles) (held_in l) ok.sound m some (get_or l.bytes head_of [])

-- ---- a page is mapped

module _ (l : Lists) (ok : AreSound l) (d p : ℕ) (region : Region) (is : regions_of (held_in l) d (p / 1024) ≡ Some region) (w : ℕ)
    (entry : Entry) (word_is : entry_of w ≡ Some entry) (may : may_map (get_or l.roles entry.frame Reserved) ≡ true) (counts : List ℕ) (counts_len : length counts ≡ length l.counts)
    (law : (f : ℕ) → get_or counts f 0 + named f (entries_of (held_in l) d p) ≡ get_or l.counts f 0 + named f (Some entry))
    (row : length (get_or l.words region.table []) ≡ 1024) where
  abbrev pub mapped_lists : Lists
  mapped_lists = record l { words = slice_set l.words region.table (slice_set (get_or l.words region.table []) (p % 1024) w); roles = slice_set l.roles entry.frame Page; counts = counts }

  pub frame_below : entry.frame < length l.roles
  frame_below = below_frames (length l.roles) (held_in l) entry.frame ok.sound (not_reserved (get_or l.roles entry.frame Reserved) may)

  pub table_below : region.table < length l.words
  table_below = let t = ok.sound.tables d (p / 1024) region is in let below = below_frames (length l.roles) (held_in l) region.table ok.sound (ap is_reserved t) in let len = ok.words in omega (arith, below, len)

  mapped_is : held_in mapped_lists ≡ with_page (length l.roles) (held_in l) ok.sound d p region is w entry word_is may (λ f. get_or counts f 0) law
  mapped_is = λ i. record (held_in l) {
    frames = length-set l.roles entry.frame Page i;
    word = λ f j. word-set l.words region.table (p % 1024) w table_below (omega (arith, row)) f j i;
    role = λ f. get_or-set l.roles entry.frame Page Reserved frame_below f i;
    count = λ f. get_or counts f 0;
  }

  pub mapped_lists_sound : AreSound mapped_lists
  mapped_lists_sound =
      let len : length (slice_set l.roles entry.frame Page) ≡ length l.roles = length-set l.roles entry.frame Page in
      record {
        words = length-set l.words region.table (slice_set (get_or l.words region.table []) (p % 1024) w) ∙ ok.words ∙ sym len;
        bytes = ok.bytes ∙ sym len;
        counts = counts_len ∙ ok.counts ∙ sym len;
        order = ok.order ∙ sym len;
        records = ok.records;
        sound = subst (λ n. IsSound n (held_in mapped_lists)) (sym len) (subst (λ (c : Held). IsSound (length l.roles) c) (sym mapped_is)
            (page_sound (length l.roles) (held_in l) ok.sound d p region is w entry word_is may (λ f. get_or counts f 0) law));
      }

  pub mapped_lists_state : state mapped_lists ≡ with_entry (state l) d p entry
  mapped_lists_state = ap state_of mapped_is ∙ page_state (length l.roles) (held_in l) ok.sound d p region is w entry word_is may (λ f. get_or counts f 0) law

pub handed_is : (l : Lists) (ok : AreSound l) (m : ℕ) (some : l.free_len ≡ suc m) → handed_out (state l) (held_in l) (head_of l ok m some) ≡ Some (state (taken_lists l ok m some))
handed_is l ok m some =
    let h = head_of l ok m some in
    let same : (h == h) ≡ true = grind (arith, nat_tests) in
    ap (λ (fs : List ℕ). handed_by (state l) fs h (get_or l.bytes h [])) (taken_free (length l.roles) (held_in l) ok.sound m some (get_or l.bytes h []))
    ∙ ap (λ b. cond b (Some (taken (state l) h (stacked (held_in l).place m) (get_or l.bytes h []))) None) same ∙ ap (λ (s : SpacesState). Some s) (sym (taken_lists_state l ok m some))

pub nothing_free : (l : Lists) → l.free_len ≡ 0 → (state l).free ≡ []
unfolding state_of stacked
nothing_free l e = ap (stacked (held_in l).place) e

-- what `take` does, at the frame that it found
pub record Took (l : Lists) (h m : ℕ) : Type 0 where
  pub below : h < length l.roles
  pub sound : AreSound (record l { roles = slice_set l.roles h Fresh; free_len = m })
  pub handed : handed_out (state l) (held_in l) h ≡ Some (state (record l { roles = slice_set l.roles h Fresh; free_len = m }))
  pub fresh : get_or (slice_set l.roles h Fresh) h Reserved ≡ Fresh
  pub was : free_count (get_or l.roles h Reserved) ≡ 1
  pub keeps : (f : ℕ) → free_count (get_or l.roles f Reserved) ≡ 0 → get_or (slice_set l.roles h Fresh) f Reserved ≡ get_or l.roles f Reserved

pub took : (l : Lists) → AreSound l → (h m : ℕ) → l.free_len ≡ suc m → h ≡ get_or l.order m 0 → Took l h m
took l ok h m some is =
    subst (λ (g : ℕ). Took l g m) (sym is) (record {
      below = head_below l ok m some;
      sound = taken_lists_sound l ok m some;
      handed = handed_is l ok m some;
      fresh = get_or-set_same l.roles (head_of l ok m some) Fresh Reserved (head_below l ok m some);
      was = free_now;
      keeps = λ f e. get_or-set_other l.roles (head_of l ok m some) f Fresh Reserved (λ same. let both = ap (λ z. free_count (get_or l.roles z Reserved)) same in absurd (omega (arith, both, e, free_now)));
    })
  where
    free_now : free_count (get_or l.roles (head_of l ok m some) Reserved) ≡ 1
    free_now = ap free_count (ok.sound.listed m (omega arith))

pub limit_is : frame_limit ≡ 65536
unfolding frame_limit
limit_is = refl

-- ---- look-ups

pub table_is : (l : Lists) (d r : ℕ) → get_or l.roles d Reserved ≡ Directory → r < region_limit → (state l).regions d r ≡ region_of (get_or (get_or l.words d []) r 0)
unfolding state_of regions_of
table_is l d r dir below = let lt : nat_lt r region_limit ≡ true = grind (arith, nat_tests) in rw (dir, lt) refl

module _ (l : Lists) (d r w : ℕ) (dir : get_or l.roles d Reserved ≡ Directory) (below : r < region_limit) (is : w ≡ get_or (get_or l.words d []) r 0) where
  pub table_some : w % 2 ≡ 1 → Some (w / 4096) ≡ option_map (λ (r : Region). r.table) ((state l).regions d r)
  table_some present =
      let here : (w % 2 == 1) ≡ true = grind (arith, nat_tests) in
      sym (ap (option_map (λ (r : Region). r.table)) (table_is l d r dir below ∙ ap region_of (sym is)) ∙ ap (λ b. option_map (λ (r : Region). r.table) (cond b (Some (record { table = w / 4096; accessed = is_accessed w })) None)) here)

  pub table_none : (w % 2 ≡ 1 → ⊥) → None ≡ option_map (λ (r : Region). r.table) ((state l).regions d r)
  table_none absent =
      let here : (w % 2 == 1) ≡ false = grind (arith, nat_tests) in
      sym (ap (option_map (λ (r : Region). r.table)) (table_is l d r dir below ∙ ap region_of (sym is)) ∙ ap (λ b. option_map (λ (r : Region). r.table) (cond b (Some (record { table = w / 4096; accessed = is_accessed w })) None)) here)
