-- A region gets a table, over the lists.
use Rattle.std.proofs.Common.{◌≡◌, ◌≢◌, ◌∙◌, ◌+◌, ◌*◌, ◌/◌, ◌%◌, ◌<◌, ◌==◌, inl, inr, ℕ, Bool, true, false, cond}
use Rattle.std.proofs.Common.{List, [], ◌∷◌, length, get_or, Option, Some, None, refl, sym, ap, subst, arith}
use Rattle.std.proofs.Common.{length-set}
use Rattle.std.specs.Prelude.{slice_set, ◌^◌, replicate}
use Rattle.std.specs.Option.{option_map}
use Rattle.std.proofs.lemmas.Bool.Decides.{nat_tests}
use Rattle.std.proofs.lemmas.List.{get_or-set_same, get_or-set_other, get_or-replicate, get_or_past, length-replicate}
use Rattle.jos_base.specs.Words.{upd}
use Rattle.jos_space.specs.declared.role.Role.TheVariants.{Reserved, Fresh, Directory, Table}
use Rattle.jos_base.specs.SpacesState.{Region, SpacesState, put, taken, fresh, table, with_table, tabled, tabled_by}
use Rattle.jos_base.specs.SpacesState.{tabled_new, region_limit}
use Rattle.jos_space.specs.Frames.{Held, IsSound, Lists, AreSound, held_in, state, regions_of, entry_in, entry_of}
use Rattle.jos_space.specs.Frames.{is_accessed, region_of, is_directory, state_of, zero_words, handed_by, handed_out}
use Rattle.jos_space.proofs.Roles.{below_frames, is_reserved, is_table, table_held, table_sound, table_state, unseen}
use Rattle.jos_space.proofs.Tables.{words_sound, words_state, region_sound, region_state, knows_one}
use Rattle.jos_space.proofs.OverLists.{word-set, limit_is}
use Rattle.std.proofs.lemmas.Bool.{cases_eq, cases_lt}
use Rattle.jos_base.proofs.Maps.{upd-at, upd-other, upd-twice}
use Rattle.jos_base.proofs.Puts.{put-at}
use Rattle.jos_base.proofs.Lists.{get_or-set}

zeros-at : (n i : ℕ) → get_or {A = ℕ} (replicate n 0) i 0 ≡ 0
zeros-at n i = elim (cases_lt i n) [
  | inl lt ↦ get_or-replicate n i 0 0 lt
  | inr past ↦ get_or_past (replicate n 0) i 0 (let len = length-replicate {A = ℕ} n 0 in omega (arith, len, past))
]

pub zero_words-at : (i : ℕ) → get_or zero_words i 0 ≡ 0
unfolding zero_words
zero_words-at i = zeros-at 1024 i

pub regions_state : (c : Held) (d r : ℕ) → (state_of c).regions d r ≡ regions_of c d r
unfolding state_of
regions_state c d r = refl

-- the word of a table that was made: P, W and U
table_word : (h : ℕ) → region_of (h * 4096 + 7) ≡ Some (record { table = h; accessed = false })
table_word h =
    let p : ((h * 4096 + 7) % 2 == 1) ≡ true = (let odd : (h * 4096 + 7) % 2 ≡ 1 = omega arith in grind (arith, nat_tests)) in
    let a : ((h * 4096 + 7) / 32 % 2 == 1) ≡ false = (let even : (h * 4096 + 7) / 32 % 2 ≢ 1 = (λ e. omega arith) in grind (arith, nat_tests)) in
    let frame_is : (h * 4096 + 7) / 4096 ≡ h = omega arith in
    ap (λ b. cond b (Some (record { table = (h * 4096 + 7) / 4096; accessed = is_accessed (h * 4096 + 7) })) None) p ∙ (λ i. Some (record { table = frame_is i; accessed = a i }))

module _ (l : Lists) (ok : AreSound l) (d r h : ℕ) (dir : get_or l.roles d Reserved ≡ Directory) (below : r < region_limit) (is : get_or l.roles h Reserved ≡ Fresh) (none : (state l).regions d r ≡ None) where
  abbrev cleared : Held
  cleared = record (held_in l) { word = upd (held_in l).word h (λ i. get_or zero_words i 0) }

  cleared_sound : IsSound (length l.roles) cleared
  cleared_sound = words_sound (length l.roles) (held_in l) ok.sound h (λ i. get_or zero_words i 0) (ap is_directory is) (ap is_table is)

  cleared_state : state_of cleared ≡ state l
  cleared_state = words_state (length l.roles) (held_in l) ok.sound h (λ i. get_or zero_words i 0) (ap is_directory is) (ap is_table is)

  cleared_word : (i : ℕ) → cleared.word h i ≡ 0
  cleared_word i = ap (λ (g : ℕ → ℕ). g i) (upd-at (held_in l).word h (λ i. get_or zero_words i 0)) ∙ zero_words-at i

  no_region : (i : ℕ) → region_of (cleared.word h i) ≡ None
  no_region i = ap region_of (cleared_word i)

  abbrev role_set : Held
  role_set = table_held (length l.roles) cleared cleared_sound h is no_region d r

  role_set_sound : IsSound (length l.roles) role_set
  role_set_sound = table_sound (length l.roles) cleared cleared_sound h is no_region d r

  role_set_state : state_of role_set ≡ unseen (length l.roles) cleared cleared_sound h is no_region (state l) table
  role_set_state = table_state (length l.roles) cleared cleared_sound h is no_region d r ∙ ap (λ s. unseen (length l.roles) cleared cleared_sound h is no_region s table) cleared_state

  still_directory : role_set.role d ≡ Directory
  still_directory = upd-other (held_in l).role h (Table d r) d (λ e. let same = ap (λ z. get_or l.roles z Reserved) e in absurd cc) ∙ dir

  regions_kept : regions_of role_set d r ≡ None
  regions_kept = sym (regions_state role_set d r) ∙ ap (λ (s : SpacesState). s.regions d r) role_set_state ∙ none

  same_entries : (i : ℕ) → entry_of (role_set.word h i) ≡ entry_in role_set (regions_of role_set d r) i
  same_entries i = ap entry_of (cleared_word i) ∙ sym (ap (λ o. entry_in role_set o i) regions_kept)

  abbrev made : Held
  made = record role_set { word = put role_set.word d r (h * 4096 + 7) }

  made_sound : IsSound (length l.roles) made
  made_sound = region_sound (length l.roles) role_set role_set_sound d r still_directory below (h * 4096 + 7) (Some (record { table = h; accessed = false })) (table_word h)
      (knows_one role_set d r (record { table = h; accessed = false }) (upd-at (held_in l).role h (Table d r))) (λ i below. same_entries i)

  abbrev set_region : SpacesState → SpacesState
  set_region s = record s { regions = put s.regions d r (Some (record { table = h; accessed = false })) }

  made_state : state_of made ≡ with_table (state l) d r h
  unfolding state_of
  made_state =
      region_state (length l.roles) role_set role_set_sound d r still_directory below (h * 4096 + 7) (Some (record { table = h; accessed = false })) (table_word h)
      (knows_one role_set d r (record { table = h; accessed = false }) (upd-at (held_in l).role h (Table d r))) (λ i below. same_entries i)
      ∙ ap set_region role_set_state

  below_h : h < length l.roles
  below_h = below_frames (length l.roles) (held_in l) h ok.sound (ap is_reserved is)

  pub below_d : d < length l.roles
  below_d = below_frames (length l.roles) (held_in l) d ok.sound (ap is_reserved dir)

  pub below_words : (h < length l.words) × (d < length l.words)
  below_words = let a = below_h in let b = below_d in let len = ok.words in (omega (arith, a, len), omega (arith, b, len))

  pub table_fits : h * 4096 + 7 < 2 ^ 32
  table_fits = let a = below_h in let limit = ok.sound.limit in let number = limit_is in omega (arith, a, limit, number)

  abbrev pub words_cleared : List (List ℕ)
  words_cleared = slice_set l.words h zero_words

  module _ (row : length (get_or words_cleared d []) ≡ 1024) where
    abbrev pub made_lists : Lists
    made_lists = record l { words = slice_set words_cleared d (slice_set (get_or words_cleared d []) r (h * 4096 + 7)); roles = slice_set l.roles h (Table d r) }

    cleared_look : (f i : ℕ) → get_or (get_or words_cleared f []) i 0 ≡ upd (held_in l).word h (λ i. get_or zero_words i 0) f i
    cleared_look f i = elim (cases_eq f h) [
      | inl e ↦ ap (λ z. get_or (get_or words_cleared z []) i 0) e ∙ ap (λ (xs : List ℕ). get_or xs i 0) (get_or-set_same l.words h zero_words [] below_words.0) ∙ sym (ap (λ z. upd (held_in l).word h (λ i. get_or zero_words i 0) z i) e ∙ ap (λ (g : ℕ → ℕ). g i) (upd-at (held_in l).word h (λ i. get_or zero_words i 0)))
      | inr ne ↦ ap (λ (xs : List ℕ). get_or xs i 0) (get_or-set_other l.words h f zero_words [] ne) ∙ sym (ap (λ (g : ℕ → ℕ). g i) (upd-other (held_in l).word h (λ i. get_or zero_words i 0) f ne))
    ]

    made_is : held_in made_lists ≡ made
    made_is =
        (λ i. record (held_in l) {
          frames = length-set l.roles h (Table d r) i;
          word = λ f j. word-set words_cleared d r (h * 4096 + 7) (let b = below_words.1 in let len = length-set l.words h zero_words in omega (arith, b, len)) (omega (arith, row, below)) f j i;
          role = λ f. get_or-set l.roles h (Table d r) Reserved below_h f i;
        })
        ∙ (λ i. record role_set { word = put (λ f j. cleared_look f j i) d r (h * 4096 + 7) })

    pub made_lists_sound : AreSound made_lists
    made_lists_sound =
        let len : length (slice_set l.roles h (Table d r)) ≡ length l.roles = length-set l.roles h (Table d r) in
        record {
          words = length-set words_cleared d (slice_set (get_or words_cleared d []) r (h * 4096 + 7)) ∙ length-set l.words h zero_words ∙ ok.words ∙ sym len;
          bytes = ok.bytes ∙ sym len;
          counts = ok.counts ∙ sym len;
          order = ok.order ∙ sym len;
          records = ok.records;
          sound = subst (λ n. IsSound n (held_in made_lists)) (sym len) (subst (λ (c : Held). IsSound (length l.roles) c) (sym made_is) made_sound);
        }

    pub made_lists_state : state made_lists ≡ with_table (state l) d r h
    made_lists_state = ap state_of made_is ∙ made_state

-- the frame was handed out just before
pub table_of_taken : (s : SpacesState) (h : ℕ) (rest bytes : List ℕ) (d r : ℕ) → with_table (taken s h rest bytes) d r h ≡ with_table (record s { free = rest }) d r h
table_of_taken s h rest bytes d r = λ i. record s {
  free = rest;
  uses = upd-twice s.uses h fresh table i;
  pages = upd-twice s.pages h bytes [] i;
  regions = put s.regions d r (Some (record { table = h; accessed = false }));
}

-- what is tabled, by what was found
pub tabled_there : (s : SpacesState) (d r t : ℕ) → Some t ≡ option_map (λ (r : Region). r.table) (s.regions d r) → tabled s d r ≡ Some s
unfolding tabled
tabled_there s d r t e = by_region (s.regions d r) e
  where
    by_region : (o : Option Region) → Some t ≡ option_map (λ (r : Region). r.table) o → tabled_by s o d r ≡ Some s
    by_region None e = absurd cc
    by_region (Some region) e = refl

region_none : (o : Option Region) → None ≡ option_map (λ (r : Region). r.table) o → o ≡ None
region_none None e = refl
region_none (Some region) e = absurd cc

pub not_there : (s : SpacesState) (d r : ℕ) → None ≡ option_map (λ (r : Region). r.table) (s.regions d r) → s.regions d r ≡ None
not_there s d r e = region_none (s.regions d r) e

pub tabled_empty : (s : SpacesState) (d r : ℕ) → s.regions d r ≡ None → s.free ≡ [] → tabled s d r ≡ None
unfolding tabled
tabled_empty s d r none empty = rw (none, empty) refl

pub tabled_made : (s t : SpacesState) (c : Held) (d r h : ℕ) → s.regions d r ≡ None → handed_out s c h ≡ Some t → tabled s d r ≡ Some (with_table t d r h)
unfolding tabled
tabled_made s t c d r h none handed = ap (λ o. tabled_by s o d r) none ∙ by_free s.free refl handed
  where
    by_free : (fs : List ℕ) → s.free ≡ fs → handed_by s fs h (c.bytes h) ≡ Some t → tabled_new s fs d r ≡ Some (with_table t d r h)
    by_free [] e handed = absurd cc
    by_free (f ∷ rest) e handed = by_test (f == h) refl handed
      where
        by_test : (b : Bool) → (f == h) ≡ b → cond b (Some (taken s f rest (c.bytes h))) None ≡ Some t → Some (with_table (record s { free = rest }) d r f) ≡ Some (with_table t d r h)
        by_test false e handed = absurd cc
        by_test true e handed =
            let same : f ≡ h = grind (arith, nat_tests) in
            let is : ◌≡◌ {A = SpacesState} (taken s f rest (c.bytes h)) t = cc in
            (λ i. Some (sym (table_of_taken s f rest (c.bytes h) d r) i)) ∙ (λ i. Some (with_table (is i) d r (same i)))

pub regions_of_taken : (s t : SpacesState) (c : Held) (d r h : ℕ) → handed_out s c h ≡ Some t → t.regions d r ≡ s.regions d r
regions_of_taken s t c d r h handed = by_free s.free handed
  where
    by_free : (fs : List ℕ) → handed_by s fs h (c.bytes h) ≡ Some t → t.regions d r ≡ s.regions d r
    by_free [] handed = absurd cc
    by_free (f ∷ rest) handed = by_test (f == h) handed
      where
        by_test : (b : Bool) → cond b (Some (taken s f rest (c.bytes h))) None ≡ Some t → t.regions d r ≡ s.regions d r
        by_test false handed = absurd cc
        by_test true handed = let is : ◌≡◌ {A = SpacesState} (taken s f rest (c.bytes h)) t = cc in ap (λ (z : SpacesState). z.regions d r) (sym is)

pub table_found : (s : SpacesState) (d r h : ℕ) → option_map (λ (r : Region). r.table) ((with_table s d r h).regions d r) ≡ Some h
table_found s d r h = ap (option_map (λ (r : Region). r.table)) (put-at s.regions d r (Some (record { table = h; accessed = false })))

pub below_directory : (l : Lists) → AreSound l → (d : ℕ) → get_or l.roles d Reserved ≡ Directory → d < length l.words
below_directory l ok d dir =
    let below = below_frames (length l.roles) (held_in l) d ok.sound (ap is_reserved dir) in
    let len = ok.words in
    omega (arith, below, len)
