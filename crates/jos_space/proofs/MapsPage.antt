-- What `map_page` does with the lists.
use Rattle.std.proofs.Common.{◌≡◌, ◌∙◌, ◌+◌, ◌-◌, ◌*◌, ◌/◌, ◌%◌, ◌<◌, ◌≤◌, ◌==◌, inl, inr, ℕ, true, false, cond, List}
use Rattle.std.proofs.Common.{[], length, get_or, Option, Some, None, refl, sym, ap, subst, arith, length-set}
use Rattle.std.specs.Prelude.{slice_set, ◌^◌}
use Rattle.std.specs.Option.{option_map}
use Rattle.std.proofs.lemmas.Bool.Decides.{nat_tests}
use Rattle.jos_base.specs.Words.{upd}
use Rattle.jos_base.specs.Reach.{Entry}
use Rattle.jos_space.specs.declared.role.Role.TheVariants.{Reserved, Page}
use Rattle.jos_base.specs.Counting.{named}
use Rattle.jos_base.specs.SpacesState.{Region, with_entry, frame_of}
use Rattle.jos_space.specs.Frames.{Lists, AreSound, held_in, state, regions_of, entries_of, entry_in, entry_of}
use Rattle.jos_space.specs.Frames.{state_of, may_map}
use Rattle.jos_space.proofs.Lookups.{region_limits}
use Rattle.jos_space.proofs.Roles.{below_frames, is_reserved, not_reserved}
use Rattle.jos_space.proofs.OverLists.{mapped_lists_sound, mapped_lists_state, limit_is}
use Rattle.std.proofs.lemmas.Bool.{cases_eq}
use Rattle.jos_base.proofs.Maps.{upd-at, upd-other}
use Rattle.jos_base.proofs.Counts.{page_count-some, page_count-le, named_is}
use Rattle.jos_base.proofs.Lists.{get_or-set}

-- a region whose table is known
pub region_is : (o : Option Region) (t : ℕ) → option_map (λ (r : Region). r.table) o ≡ Some t → (region : Region) × (o ≡ Some region) × (region.table ≡ t)
region_is None t e = absurd cc
region_is (Some region) t e = (region, refl, cc)

word_entry : (f perm : ℕ) → perm < 4096 → perm % 2 ≡ 1 → entry_of (f * 4096 + perm) ≡ Some (record { frame = f; perm = perm })
word_entry f perm small present =
    let p : ((f * 4096 + perm) % 2 == 1) ≡ true = (let odd : (f * 4096 + perm) % 2 ≡ 1 = omega arith in grind (arith, nat_tests)) in
    let frame_is : (f * 4096 + perm) / 4096 ≡ f = omega arith in
    let perm_is : (f * 4096 + perm) % 4096 ≡ perm = omega arith in
    ap (λ b. cond b (Some (record { frame = (f * 4096 + perm) / 4096; perm = (f * 4096 + perm) % 4096 })) None) p ∙ (λ i. Some (record { frame = frame_is i; perm = perm_is i }))

pub entry_present : (w : ℕ) → w % 2 ≡ 1 → entry_of w ≡ Some (record { frame = w / 4096; perm = w % 4096 })
entry_present w e = let p : (w % 2 == 1) ≡ true = grind (arith, nat_tests) in ap (λ b. cond b (Some (record { frame = w / 4096; perm = w % 4096 })) None) p

pub entry_absent : (w : ℕ) → (w % 2 ≡ 1 → ⊥) → entry_of w ≡ None
entry_absent w e = let p : (w % 2 == 1) ≡ false = grind (arith, nat_tests) in ap (λ b. cond b (Some (record { frame = w / 4096; perm = w % 4096 })) None) p

module _ (l : Lists) (ok : AreSound l) (d p t f perm : ℕ) (here : option_map (λ (r : Region). r.table) ((state l).regions d (p / 1024)) ≡ Some t)
    (may : may_map (get_or l.roles f Reserved) ≡ true) (small : perm < 4096) (present : perm % 2 ≡ 1) where
  abbrev entry : Entry
  entry = record { frame = f; perm = perm }

  abbrev old : ℕ
  old = get_or (get_or l.words t []) (p % 1024) 0

  abbrev pub counts_up : List ℕ
  counts_up = slice_set l.counts f (get_or l.counts f 0 + 1)

  abbrev pub counts_down : ℕ → List ℕ
  counts_down g = slice_set counts_up g (get_or counts_up g 0 - 1)

  abbrev pub lists_with : List ℕ → Lists
  lists_with counts = record l { words = slice_set l.words t (slice_set (get_or l.words t []) (p % 1024) (f * 4096 + perm)); roles = slice_set l.roles f Page; counts = counts }

  region_of_held : regions_of (held_in l) d (p / 1024) ≡ (state l).regions d (p / 1024)
  unfolding state_of
  region_of_held = refl

  found : (region : Region) × ((state l).regions d (p / 1024) ≡ Some region) × (region.table ≡ t)
  found = region_is ((state l).regions d (p / 1024)) t here

  is : regions_of (held_in l) d (p / 1024) ≡ Some (record found.0 { table = t })
  is = region_of_held ∙ found.1 ∙ (λ i. Some (record found.0 { table = found.2 i }))

  old_is : entries_of (held_in l) d p ≡ entry_of old
  unfolding entries_of
  old_is = ap (λ o. entry_in (held_in l) o (p % 1024)) is

  pub below_frame : f < length l.roles
  below_frame = below_frames (length l.roles) (held_in l) f ok.sound (not_reserved (get_or l.roles f Reserved) may)

  pub below_counts : f < length l.counts
  below_counts = let below = below_frame in let len = ok.counts in omega (arith, below, len)

  pub below_table : t < length l.words
  below_table =
      let is_table = ok.sound.tables d (p / 1024) (record found.0 { table = t }) is in
      let below = below_frames (length l.roles) (held_in l) t ok.sound (ap is_reserved is_table) in
      let len = ok.words in
      omega (arith, below, len)

  pub word_fits : f * 4096 + perm < 2 ^ 32
  word_fits = let below = below_frame in let limit = ok.sound.limit in let number = limit_is in omega (arith, below, limit, number, small)

  pub count_room : get_or l.counts f 0 + 1 < 2 ^ 64
  count_room = let most = page_count-le (entries_of (held_in l)) f in let is = ok.sound.counts f in omega (arith, most, is)

  up_is : (x : ℕ) → get_or counts_up x 0 ≡ get_or l.counts x 0 + named x (Some entry)
  up_is x =
      let set = get_or-set l.counts f (get_or l.counts f 0 + 1) 0 below_counts x in
      elim (named_is x entry) [
        | inl h ↦ let one = h.1 in let at = ap (upd (λ z. get_or l.counts z 0) f (get_or l.counts f 0 + 1)) h.0 ∙ upd-at (λ z. get_or l.counts z 0) f (get_or l.counts f 0 + 1) in let same = ap (λ z. get_or l.counts z 0) h.0 in omega (arith, set, one, at, same)
        | inr h ↦ let none = h.1 in let at = upd-other (λ z. get_or l.counts z 0) f (get_or l.counts f 0 + 1) x h.0 in omega (arith, set, none, at)
      ]

  module _ (row : length (get_or l.words t []) ≡ 1024) where
    -- nothing stood there
    module _ (absent : old % 2 ≡ 1 → ⊥) where
      pub nothing_stood : (state l).entries d p ≡ None
      unfolding state_of
      nothing_stood = old_is ∙ entry_absent old absent

      law_absent : (x : ℕ) → get_or counts_up x 0 + named x (entries_of (held_in l) d p) ≡ get_or l.counts x 0 + named x (Some entry)
      law_absent x = let none = ap (named x) (old_is ∙ entry_absent old absent) in let up = up_is x in omega (arith, none, up)

      pub absent_lists_sound : AreSound (lists_with counts_up)
      absent_lists_sound = mapped_lists_sound l ok d p (record found.0 { table = t }) is (f * 4096 + perm) entry (word_entry f perm small present) may counts_up (length-set l.counts f (get_or l.counts f 0 + 1)) law_absent row

      pub absent_state : state (lists_with counts_up) ≡ with_entry (state l) d p entry
      absent_state = mapped_lists_state l ok d p (record found.0 { table = t }) is (f * 4096 + perm) entry (word_entry f perm small present) may counts_up (length-set l.counts f (get_or l.counts f 0 + 1)) law_absent row

    -- another page stood there
    module _ (stood : old % 2 ≡ 1) where
      abbrev g : ℕ
      g = old / 4096

      abbrev gone : Entry
      gone = record { frame = g; perm = old % 4096 }

      gone_is : entries_of (held_in l) d p ≡ Some gone
      gone_is = old_is ∙ entry_present old stood

      pub gone_frame : frame_of ((state l).entries d p) ≡ Some g
      unfolding state_of
      gone_frame = ap frame_of gone_is

      pub gone_page : get_or l.roles g Reserved ≡ Page
      gone_page = ok.sound.pages d p gone gone_is

      pub gone_counts : g < length counts_up
      gone_counts =
          let below = below_frames (length l.roles) (held_in l) g ok.sound (ap is_reserved gone_page) in
          let len = ok.counts in
          let set = length-set l.counts f (get_or l.counts f 0 + 1) in
          omega (arith, below, len, set)

      pub gone_counted : 1 ≤ get_or counts_up g 0
      gone_counted =
          let limits = region_limits (length l.roles) (held_in l) d p (record found.0 { table = t }) ok.sound is in
          let some = page_count-some (entries_of (held_in l)) d p gone limits.0 limits.1 gone_is in
          let count = ok.sound.counts g in
          let up = up_is g in
          omega (arith, some, count, up)

      pub still_page : get_or (slice_set l.roles f Page) g Reserved ≡ Page
      still_page = get_or-set l.roles f Page Reserved below_frame g ∙ elim (cases_eq g f) [
        | inl e ↦ ap (upd (λ z. get_or l.roles z Reserved) f Page) e ∙ upd-at (λ z. get_or l.roles z Reserved) f Page
        | inr ne ↦ upd-other (λ z. get_or l.roles z Reserved) f Page g ne ∙ gone_page
      ]

      law_stood : (x : ℕ) → get_or (counts_down g) x 0 + named x (entries_of (held_in l) d p) ≡ get_or l.counts x 0 + named x (Some entry)
      law_stood x =
          let set = get_or-set counts_up g (get_or counts_up g 0 - 1) 0 gone_counts x in
          let up = up_is x in
          let some = gone_counted in
          let was = ap (named x) gone_is in
          elim (named_is x gone) [
            | inl h ↦ let one = h.1 in let at = ap (upd (λ z. get_or counts_up z 0) g (get_or counts_up g 0 - 1)) h.0 ∙ upd-at (λ z. get_or counts_up z 0) g (get_or counts_up g 0 - 1) in let same = ap (λ z. get_or counts_up z 0) h.0 in omega (arith, set, up, some, was, one, at, same)
            | inr h ↦ let none = h.1 in let at = upd-other (λ z. get_or counts_up z 0) g (get_or counts_up g 0 - 1) x h.0 in omega (arith, set, up, was, none, at)
          ]

      down_len : length (counts_down g) ≡ length l.counts
      down_len = length-set counts_up g (get_or counts_up g 0 - 1) ∙ length-set l.counts f (get_or l.counts f 0 + 1)

      pub stood_lists_sound : AreSound (lists_with (counts_down g))
      stood_lists_sound = mapped_lists_sound l ok d p (record found.0 { table = t }) is (f * 4096 + perm) entry (word_entry f perm small present) may (counts_down g) down_len law_stood row

      pub stood_state : state (lists_with (counts_down g)) ≡ with_entry (state l) d p entry
      stood_state = mapped_lists_state l ok d p (record found.0 { table = t }) is (f * 4096 + perm) entry (word_entry f perm small present) may (counts_down g) down_len law_stood row

-- the same, of the values that the code reads on its way
pub record MapsAbsent (l : Lists) (d p f perm count : ℕ) (words : List (List ℕ)) : Type 0 where
  pub sound : AreSound (record l { words = words; roles = slice_set l.roles f Page; counts = slice_set l.counts f (count + 1) })
  pub state_is : state (record l { words = words; roles = slice_set l.roles f Page; counts = slice_set l.counts f (count + 1) }) ≡ with_entry (state l) d p (record { frame = f; perm = perm })
  pub nothing : None ≡ frame_of ((state l).entries d p)

pub record MapsStood (l : Lists) (d p f perm count old named : ℕ) (words : List (List ℕ)) : Type 0 where
  pub counts : old / 4096 < length (slice_set l.counts f (count + 1))
  pub some : named ≡ get_or (slice_set l.counts f (count + 1)) (old / 4096) 0 → 1 ≤ named
  pub sound : named ≡ get_or (slice_set l.counts f (count + 1)) (old / 4096) 0 →
      AreSound (record l { words = words; roles = slice_set l.roles f Page; counts = slice_set (slice_set l.counts f (count + 1)) (old / 4096) (named - 1) })
  pub state_is : named ≡ get_or (slice_set l.counts f (count + 1)) (old / 4096) 0 →
      state (record l { words = words; roles = slice_set l.roles f Page; counts = slice_set (slice_set l.counts f (count + 1)) (old / 4096) (named - 1) }) ≡ with_entry (state l) d p (record { frame = f; perm = perm })
  pub gone : Some (old / 4096) ≡ frame_of ((state l).entries d p)
  pub still : get_or (slice_set l.roles f Page) (old / 4096) Reserved ≡ Page

module _ (l : Lists) (ok : AreSound l) (d p t f perm : ℕ) (here : option_map (λ (r : Region). r.table) ((state l).regions d (p / 1024)) ≡ Some t)
    (may : may_map (get_or l.roles f Reserved) ≡ true) (small : perm < 4096) (present : perm % 2 ≡ 1) (row : length (get_or l.words t []) ≡ 1024)
    (count o : ℕ) (words : List (List ℕ)) (count_is : count ≡ get_or l.counts f 0) (o_is : o ≡ get_or (get_or l.words t []) (p % 1024) 0)
    (words_is : words ≡ slice_set l.words t (slice_set (get_or l.words t []) (p % 1024) (f * 4096 + perm))) where
  pub maps_absent : (o % 2 ≡ 1 → ⊥) → MapsAbsent l d p f perm count words
  maps_absent absent =
      let no : old l ok d p t f perm here may small present % 2 ≡ 1 → ⊥ = λ e. absent (ap (λ z. z % 2) o_is ∙ e) in
      subst (λ (ws : List (List ℕ)). MapsAbsent l d p f perm count ws) (sym words_is) (subst (λ (n : ℕ). MapsAbsent l d p f perm n (slice_set l.words t (slice_set (get_or l.words t []) (p % 1024) (f * 4096 + perm)))) (sym count_is) (record {
        sound = absent_lists_sound l ok d p t f perm here may small present row no;
        state_is = absent_state l ok d p t f perm here may small present row no;
        nothing = sym (ap frame_of (nothing_stood l ok d p t f perm here may small present row no));
      }))

  pub maps_stood : (named : ℕ) → o % 2 ≡ 1 → MapsStood l d p f perm count o named words
  maps_stood n stood =
      let yes : old l ok d p t f perm here may small present % 2 ≡ 1 = ap (λ z. z % 2) (sym o_is) ∙ stood in
      subst (λ (ws : List (List ℕ)). MapsStood l d p f perm count o n ws) (sym words_is) (subst (λ (k : ℕ). MapsStood l d p f perm k o n (slice_set l.words t (slice_set (get_or l.words t []) (p % 1024) (f * 4096 + perm)))) (sym count_is)
      (subst (λ (k : ℕ). MapsStood l d p f perm (get_or l.counts f 0) k n (slice_set l.words t (slice_set (get_or l.words t []) (p % 1024) (f * 4096 + perm)))) (sym o_is) (record {
        counts = gone_counts l ok d p t f perm here may small present row yes;
        some = λ e. let c = gone_counted l ok d p t f perm here may small present row yes in omega (arith, c, e);
        sound = λ e. subst (λ (k : ℕ). AreSound (record l { words = slice_set l.words t (slice_set (get_or l.words t []) (p % 1024) (f * 4096 + perm)); roles = slice_set l.roles f Page; counts = slice_set (counts_up l ok d p t f perm here may small present) (old l ok d p t f perm here may small present / 4096) (k - 1) })) (sym e)
            (stood_lists_sound l ok d p t f perm here may small present row yes);
        state_is = λ e. ap (λ (k : ℕ). state (record l { words = slice_set l.words t (slice_set (get_or l.words t []) (p % 1024) (f * 4096 + perm)); roles = slice_set l.roles f Page; counts = slice_set (counts_up l ok d p t f perm here may small present) (old l ok d p t f perm here may small present / 4096) (k - 1) })) e
            ∙ stood_state l ok d p t f perm here may small present row yes;
        gone = sym (gone_frame l ok d p t f perm here may small present row yes);
        still = still_page l ok d p t f perm here may small present row yes;
      })))
