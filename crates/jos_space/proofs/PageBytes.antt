-- The bytes of a page, and frames handed out, over the lists.
use Rattle.std.proofs.Common.{◌≡◌, ◌∙◌, ◌+◌, ◌<◌, ◌≤◌, ◌==◌, inl, inr, ℕ, Bool, true, false, cond, List, [], ◌∷◌}
use Rattle.std.proofs.Common.{length, get_or, Some, None, refl, sym, ap, subst, arith, length-set}
use Rattle.std.specs.Prelude.{slice_set}
use Rattle.std.proofs.lemmas.Bool.Decides.{nat_tests}
use Rattle.std.proofs.lemmas.List.{get_or-set_same, get_or-set_other, get_or_past}
use Rattle.jos_base.specs.Words.{upd}
use Rattle.jos_space.specs.declared.role.Role.{Role}
use Rattle.jos_space.specs.declared.role.Role.TheVariants.{Reserved, Free, Fresh, Page, Directory, Table}
use Rattle.jos_base.specs.SpacesState.{SpacesState, taken, fresh, directory, zero_page, fresh_of, fresh_from, created}
use Rattle.jos_base.specs.SpacesState.{created_from, with_page_bytes, own_count, reference_count}
use Rattle.jos_space.specs.Frames.{Held, IsSound, Lists, AreSound, held_in, state, regions_of, entries_of, region_of}
use Rattle.jos_space.specs.Frames.{bytes_by, use_of, state_of, may_map, is_directory, zero_words, handed_out}
use Rattle.jos_space.specs.Frames.{handed_by}
use Rattle.jos_space.proofs.Roles.{below_frames, is_reserved, is_table, created_held, created_sound, created_state}
use Rattle.jos_space.proofs.Roles.{unseen, not_reserved}
use Rattle.jos_space.proofs.Tables.{with_words, words_sound, words_state}
use Rattle.jos_space.proofs.TableLists.{zero_words-at}
use Rattle.jos_space.proofs.OverLists.{limit_is}
use Rattle.std.proofs.lemmas.Bool.{cases_eq}
use Rattle.jos_base.proofs.Maps.{upd-at, upd-other, upd-twice}
use Rattle.jos_base.proofs.Lists.{get_or-set}
use Rattle.jos_space.proofs.Mapping.{map_bytes}

-- bytes are no part of what holds of the frames
bytes_sound : (n : ℕ) (c : Held) (bytes : ℕ → List ℕ) → IsSound n c → IsSound n (record c { bytes = bytes })
unfolding regions_of entries_of
bytes_sound n c bytes sound = record { tables = sound.tables; pages = sound.pages; counts = sound.counts; listed = sound.listed; free_len = sound.free_len; outside = sound.outside; limit = sound.limit }

module _ (l : Lists) (ok : AreSound l) (f : ℕ) (may : may_map (get_or l.roles f Reserved) ≡ true) where
  pub bytes_below : f < length l.bytes
  bytes_below = let below = below_frames (length l.roles) (held_in l) f ok.sound (not_reserved (get_or l.roles f Reserved) may) in let len = ok.bytes in omega (arith, below, len)

  pub page_is : (state l).pages f ≡ get_or l.bytes f []
  unfolding state_of
  page_is = map_bytes (get_or l.roles f Reserved) (get_or l.bytes f []) may

  module _ (bytes : List ℕ) where
    abbrev pub bytes_lists : Lists
    bytes_lists = record l { bytes = slice_set l.bytes f bytes }

    pub bytes_lists_sound : AreSound bytes_lists
    bytes_lists_sound = record {
      words = ok.words;
      bytes = length-set l.bytes f bytes ∙ ok.bytes;
      counts = ok.counts;
      order = ok.order;
      records = ok.records;
      sound = bytes_sound (length l.roles) (held_in l) (held_in bytes_lists).bytes ok.sound;
    }

    pub bytes_state : state bytes_lists ≡ with_page_bytes (state l) f bytes
    unfolding state_of regions_of entries_of
    bytes_state = λ i. record (state l) { pages = λ q. same q i }
      where
        same : (q : ℕ) → bytes_by (get_or l.roles q Reserved) (get_or (slice_set l.bytes f bytes) q []) ≡ upd (λ z. bytes_by (get_or l.roles z Reserved) (get_or l.bytes z [])) f bytes q
        same q = elim (cases_eq q f) [
          | inl e ↦
              (λ i. bytes_by (get_or l.roles (e i) Reserved) ((ap (λ z. get_or (slice_set l.bytes f bytes) z []) e ∙ get_or-set_same l.bytes f bytes [] bytes_below) i)) ∙ map_bytes (get_or l.roles f Reserved) bytes may
              ∙ sym (ap (upd (λ z. bytes_by (get_or l.roles z Reserved) (get_or l.bytes z [])) f bytes) e ∙ upd-at (λ z. bytes_by (get_or l.roles z Reserved) (get_or l.bytes z [])) f bytes)
          | inr ne ↦ ap (bytes_by (get_or l.roles q Reserved)) (get_or-set_other l.bytes f q bytes [] ne) ∙ sym (upd-other (λ z. bytes_by (get_or l.roles z Reserved) (get_or l.bytes z [])) f bytes q ne)
        ]

-- what becomes of a frame whose bytes are changed
pub record Writes (l : Lists) (f : ℕ) (change : List ℕ → List ℕ) (bytes : List (List ℕ)) : Type 0 where
  pub sound : AreSound (record l { bytes = bytes })
  pub state_is : state (record l { bytes = bytes }) ≡ with_page_bytes (state l) f (change ((state l).pages f))

pub writes : (l : Lists) → AreSound l → (f : ℕ) → may_map (get_or l.roles f Reserved) ≡ true → (change : List ℕ → List ℕ)
    → (bytes : List (List ℕ)) → bytes ≡ slice_set l.bytes f (change (get_or l.bytes f [])) → Writes l f change bytes
writes l ok f may change bytes is = subst (λ (bs : List (List ℕ)). Writes l f change bs) (sym is) (record {
  sound = bytes_lists_sound l ok f may (change (get_or l.bytes f []));
  state_is =
      bytes_state l ok f may (change (get_or l.bytes f []))
      ∙ ap (λ (page : List ℕ). with_page_bytes (state l) f (change page)) (sym (page_is l ok f may));
})

-- ---- a fresh frame becomes a directory

pub record MakesDirectory (l : Lists) (h : ℕ) (words : List (List ℕ)) : Type 0 where
  pub sound : AreSound (record l { words = words; roles = slice_set l.roles h Directory })
  pub state_is : state (record l { words = words; roles = slice_set l.roles h Directory }) ≡ record (state l) { uses = upd (state l).uses h directory; pages = upd (state l).pages h [] }

pub frame_words_below : (l : Lists) → AreSound l → (h : ℕ) → get_or l.roles h Reserved ≡ Fresh → (h < length l.words) × (h < length l.roles)
frame_words_below l ok h is = let below = below_frames (length l.roles) (held_in l) h ok.sound (ap is_reserved is) in let len = ok.words in (omega (arith, below, len), below)

pub makes_directory : (l : Lists) → AreSound l → (h : ℕ) → get_or l.roles h Reserved ≡ Fresh → (words : List (List ℕ)) → words ≡ slice_set l.words h zero_words → MakesDirectory l h words
makes_directory l ok h is words words_is = subst (λ (ws : List (List ℕ)). MakesDirectory l h ws) (sym words_is) (record {
  sound =
      let len = length-set l.roles h Directory in
      record {
        words = length-set l.words h zero_words ∙ ok.words ∙ sym len;
        bytes = ok.bytes ∙ sym len;
        counts = ok.counts ∙ sym len;
        order = ok.order ∙ sym len;
        records = ok.records;
        sound = subst (λ n. IsSound n (held_in (record l { words = slice_set l.words h zero_words; roles = slice_set l.roles h Directory }))) (sym len) (subst (λ (c : Held). IsSound (length l.roles) c) (sym held_is) (created_sound (length l.roles) cleared cleared_sound h is no_region));
      };
  state_is = ap state_of held_is ∙ created_state (length l.roles) cleared cleared_sound h is no_region ∙ ap (λ s. unseen (length l.roles) cleared cleared_sound h is no_region s directory) cleared_state;
})
  where
    below : (h < length l.words) × (h < length l.roles)
    below = frame_words_below l ok h is

    cleared : Held
    cleared = record (held_in l) { word = λ f i. get_or (get_or (slice_set l.words h zero_words) f []) i 0 }

    cleared_is : with_words (length l.roles) (held_in l) ok.sound h (λ i. get_or zero_words i 0) (ap is_directory is) (ap is_table is) ≡ cleared
    cleared_is = λ i. record (held_in l) { word = λ f j. word_is f j i }
      where
        word_is : (f j : ℕ) → upd (held_in l).word h (λ i. get_or zero_words i 0) f j ≡ get_or (get_or (slice_set l.words h zero_words) f []) j 0
        word_is f j = elim (cases_eq f h) [
          | inl e ↦
              ap (λ z. upd (held_in l).word h (λ i. get_or zero_words i 0) z j) e ∙ ap (λ (g : ℕ → ℕ). g j) (upd-at (held_in l).word h (λ i. get_or zero_words i 0))
              ∙ sym (ap (λ z. get_or (get_or (slice_set l.words h zero_words) z []) j 0) e ∙ ap (λ (xs : List ℕ). get_or xs j 0) (get_or-set_same l.words h zero_words [] below.0))
          | inr ne ↦ ap (λ (g : ℕ → ℕ). g j) (upd-other (held_in l).word h (λ i. get_or zero_words i 0) f ne) ∙ sym (ap (λ (xs : List ℕ). get_or xs j 0) (get_or-set_other l.words h f zero_words [] ne))
        ]

    cleared_sound : IsSound (length l.roles) cleared
    cleared_sound = subst (λ (c : Held). IsSound (length l.roles) c) cleared_is (words_sound (length l.roles) (held_in l) ok.sound h (λ i. get_or zero_words i 0) (ap is_directory is) (ap is_table is))

    cleared_state : state_of cleared ≡ state l
    cleared_state = ap state_of (sym cleared_is) ∙ words_state (length l.roles) (held_in l) ok.sound h (λ i. get_or zero_words i 0) (ap is_directory is) (ap is_table is)

    no_region : (i : ℕ) → region_of (cleared.word h i) ≡ None
    no_region i = ap region_of (ap (λ (xs : List ℕ). get_or xs i 0) (get_or-set_same l.words h zero_words [] below.0) ∙ zero_words-at i)

    held_is : held_in (record l { words = slice_set l.words h zero_words; roles = slice_set l.roles h Directory }) ≡ created_held (length l.roles) cleared cleared_sound h is no_region
    held_is = λ i. record cleared { frames = length-set l.roles h Directory i; role = λ f. get_or-set l.roles h Directory Reserved below.1 f i }

-- ---- what was handed out

pub fresh_is : (s t : SpacesState) (c : Held) (h : ℕ) → handed_out s c h ≡ Some t → fresh_of s ≡ Some (h, with_page_bytes t h zero_page)
unfolding fresh_of
fresh_is s t c h handed = by_free s.free refl handed
  where
    by_free : (fs : List ℕ) → s.free ≡ fs → handed_by s fs h (c.bytes h) ≡ Some t → fresh_from s fs ≡ Some (h, with_page_bytes t h zero_page)
    by_free [] e handed = absurd cc
    by_free (f ∷ rest) e handed = by_test (f == h) refl handed
      where
        by_test : (b : Bool) → (f == h) ≡ b → cond b (Some (taken s f rest (c.bytes h))) None ≡ Some t → fresh_from s (f ∷ rest) ≡ Some (h, with_page_bytes t h zero_page)
        by_test false e handed = absurd cc
        by_test true e handed =
            let same : f ≡ h = grind (arith, nat_tests) in
            let is : ◌≡◌ {A = SpacesState} (taken s f rest (c.bytes h)) t = cc in
            (λ i. Some (f, record (taken s f rest zero_page) { pages = sym (upd-twice s.pages f (c.bytes h) zero_page) i })) ∙ (λ i. Some (same i, with_page_bytes (is i) (same i) zero_page))

pub created_is : (s t : SpacesState) (c : Held) (h : ℕ) → handed_out s c h ≡ Some t → created s ≡ Some (h, record t { uses = upd t.uses h directory; pages = upd t.pages h [] })
unfolding created
created_is s t c h handed = by_free s.free refl handed
  where
    by_free : (fs : List ℕ) → s.free ≡ fs → handed_by s fs h (c.bytes h) ≡ Some t → created_from s fs ≡ Some (h, record t { uses = upd t.uses h directory; pages = upd t.pages h [] })
    by_free [] e handed = absurd cc
    by_free (f ∷ rest) e handed = by_test (f == h) refl handed
      where
        by_test : (b : Bool) → (f == h) ≡ b → cond b (Some (taken s f rest (c.bytes h))) None ≡ Some t → created_from s (f ∷ rest) ≡ Some (h, record t { uses = upd t.uses h directory; pages = upd t.pages h [] })
        by_test false e handed = absurd cc
        by_test true e handed =
            let same : f ≡ h = grind (arith, nat_tests) in
            let is : ◌≡◌ {A = SpacesState} (taken s f rest (c.bytes h)) t = cc in
            (λ i. Some (f, record s { uses = sym (upd-twice s.uses f fresh directory) i; free = rest; pages = sym (upd-twice s.pages f (c.bytes h) []) i }))
            ∙ (λ i. Some (same i, record (is i) { uses = upd (is i).uses (same i) directory; pages = upd (is i).pages (same i) [] }))

pub empty_fresh : (s : SpacesState) → s.free ≡ [] → fresh_of s ≡ None
unfolding fresh_of
empty_fresh s e = ap (fresh_from s) e

pub empty_created : (s : SpacesState) → s.free ≡ [] → created s ≡ None
unfolding created
empty_created s e = ap (created_from s) e

-- ---- counts

pub count_is : (l : Lists) → AreSound l → (f own : ℕ) → own ≡ own_count (use_of (get_or l.roles f Reserved)) → get_or l.counts f 0 + own ≡ reference_count (state l) f
unfolding state_of
count_is l ok f own e = (λ i. ok.sound.counts f i + e i)

-- a frame that there is not is reserved
pub count_past : (l : Lists) → AreSound l → (f : ℕ) → length l.roles ≤ f → 1 ≡ reference_count (state l) f
count_past l ok f past =
    let none = get_or_past l.counts f 0 (let len = ok.counts in omega (arith, len, past)) in
    let role = get_or_past l.roles f Reserved past in
    sym (ap (λ (n : ℕ). n + 1) none) ∙ count_is l ok f 1 (sym (ap (λ (r : Role). own_count (use_of r)) role))

pub own_le : (role : Role) → own_count (use_of role) ≤ 1
own_le Reserved = omega arith
own_le (Free k) = omega arith
own_le Fresh = omega arith
own_le Page = omega arith
own_le Directory = omega arith
own_le (Table d r) = omega arith

-- ---- how many frames there are

pub frames_is : (l : Lists) → length l.roles ≡ (state l).frames
unfolding state_of
frames_is l = refl

pub frames_most : (l : Lists) → AreSound l → length l.roles ≤ 65536
frames_most l ok = let limit = ok.sound.limit in let number = limit_is in omega (arith, limit, number)
