-- The words with which the cache stands somewhere tell where it stands, and the first eight stay.
use Rattle.std.proofs.Common.{◌≡◌, ◌∙◌, ◌<◌, ◌+◌, ◌-◌, ◌%◌, ◌++◌, ℕ, List, [], ◌∷◌, length, get_or, set, take, drop, refl, sym, ap, arith}
use Rattle.std.proofs.lemmas.List.{get_or-append_right, set-append_right, length-take-le, length-append, take-append-drop, take_at}
use Rattle.std.proofs.Common.{length-drop, mod-eq_of_lt}
use Rattle.lib_os.specs.declared.numbers.TheConstants.{CACHE_BLOCKS}
use Rattle.fs_blocks.specs.declared.place.CachePlace.{CachePlace}
use Rattle.fs_blocks.specs.declared.place.CachePlace.TheVariants as at
use Rattle.fs_blocks.specs.declared.place.CacheState.{CacheState}
use Rattle.fs_blocks.specs.CachePlaces.{block_at, four_words, place_in, place_words, state_in, with_state}

-- ---- four words

four_put : (d : List ℕ) (a b c l : ℕ) → length d ≡ 4 → set (set (set (set d 0 a) 1 b) 2 c) 3 l ≡ four_words a b c l
four_put [] a b c l four = absurd (omega arith)
four_put (_ ∷ []) a b c l four = absurd (omega arith)
four_put (_ ∷ _ ∷ []) a b c l four = absurd (omega arith)
four_put (_ ∷ _ ∷ _ ∷ []) a b c l four = absurd (omega arith)
four_put (_ ∷ _ ∷ _ ∷ _ ∷ []) a b c l four = refl
four_put (_ ∷ _ ∷ _ ∷ _ ∷ _ ∷ _) a b c l four = absurd (omega arith)

pub four_are : (d : List ℕ) → length d ≡ 4 → four_words (get_or d 0 0) (get_or d 1 0) (get_or d 2 0) (get_or d 3 0) ≡ d
four_are [] four = absurd (omega arith)
four_are (_ ∷ []) four = absurd (omega arith)
four_are (_ ∷ _ ∷ []) four = absurd (omega arith)
four_are (_ ∷ _ ∷ _ ∷ []) four = absurd (omega arith)
four_are (_ ∷ _ ∷ _ ∷ _ ∷ []) four = refl
four_are (_ ∷ _ ∷ _ ∷ _ ∷ _ ∷ _) four = absurd (omega arith)

-- ---- the words of a place

pub four_long : (p : CachePlace) (hand : ℕ) → length (place_words p hand) ≡ 4
unfolding place_words
four_long at.Resting hand = refl
four_long (at.Found block) hand = refl
four_long (at.LookingRegion block) hand = refl
four_long (at.LookingPage block) hand = refl
four_long (at.Taking block) hand = refl
four_long (at.Filling block) hand = refl
four_long (at.Settling block) hand = refl
four_long (at.HandRegion block left) hand = refl
four_long (at.HandPage block left) hand = refl
four_long (at.WritingBack block) hand = refl
four_long (at.Passing block) hand = refl
four_long (at.Moving block) hand = refl
four_long (at.Leaving block) hand = refl
four_long (at.Freeing block) hand = refl
four_long (at.TakingLast block) hand = refl
four_long (at.FlushRegion block) hand = refl
four_long (at.FlushPage block) hand = refl
four_long (at.FlushWriting block) hand = refl
four_long (at.FlushSettling block) hand = refl

-- the place that is told by the words of a place
abbrev place_told : List ℕ → CachePlace
place_told d = place_in (get_or d 0 0) (get_or d 1 0 % CACHE_BLOCKS) (get_or d 3 0)

place_back : (p : CachePlace) (hand : ℕ) → block_at p < CACHE_BLOCKS → place_told (place_words p hand) ≡ p
unfolding place_words place_in
place_back at.Resting hand below = refl
place_back (at.Found block) hand below = ap at.Found (mod-eq_of_lt below)
place_back (at.LookingRegion block) hand below = ap at.LookingRegion (mod-eq_of_lt below)
place_back (at.LookingPage block) hand below = ap at.LookingPage (mod-eq_of_lt below)
place_back (at.Taking block) hand below = ap at.Taking (mod-eq_of_lt below)
place_back (at.Filling block) hand below = ap at.Filling (mod-eq_of_lt below)
place_back (at.Settling block) hand below = ap at.Settling (mod-eq_of_lt below)
place_back (at.HandRegion block left) hand below = ap (λ (b : ℕ). at.HandRegion b left) (mod-eq_of_lt below)
place_back (at.HandPage block left) hand below = ap (λ (b : ℕ). at.HandPage b left) (mod-eq_of_lt below)
place_back (at.WritingBack block) hand below = ap at.WritingBack (mod-eq_of_lt below)
place_back (at.Passing block) hand below = ap at.Passing (mod-eq_of_lt below)
place_back (at.Moving block) hand below = ap at.Moving (mod-eq_of_lt below)
place_back (at.Leaving block) hand below = ap at.Leaving (mod-eq_of_lt below)
place_back (at.Freeing block) hand below = ap at.Freeing (mod-eq_of_lt below)
place_back (at.TakingLast block) hand below = ap at.TakingLast (mod-eq_of_lt below)
place_back (at.FlushRegion block) hand below = ap at.FlushRegion (mod-eq_of_lt below)
place_back (at.FlushPage block) hand below = ap at.FlushPage (mod-eq_of_lt below)
place_back (at.FlushWriting block) hand below = ap at.FlushWriting (mod-eq_of_lt below)
place_back (at.FlushSettling block) hand below = ap at.FlushSettling (mod-eq_of_lt below)

hand_back : (p : CachePlace) (hand : ℕ) → hand < CACHE_BLOCKS → get_or (place_words p hand) 2 0 % CACHE_BLOCKS ≡ hand
unfolding place_words
hand_back at.Resting hand below = mod-eq_of_lt below
hand_back (at.Found block) hand below = mod-eq_of_lt below
hand_back (at.LookingRegion block) hand below = mod-eq_of_lt below
hand_back (at.LookingPage block) hand below = mod-eq_of_lt below
hand_back (at.Taking block) hand below = mod-eq_of_lt below
hand_back (at.Filling block) hand below = mod-eq_of_lt below
hand_back (at.Settling block) hand below = mod-eq_of_lt below
hand_back (at.HandRegion block left) hand below = mod-eq_of_lt below
hand_back (at.HandPage block left) hand below = mod-eq_of_lt below
hand_back (at.WritingBack block) hand below = mod-eq_of_lt below
hand_back (at.Passing block) hand below = mod-eq_of_lt below
hand_back (at.Moving block) hand below = mod-eq_of_lt below
hand_back (at.Leaving block) hand below = mod-eq_of_lt below
hand_back (at.Freeing block) hand below = mod-eq_of_lt below
hand_back (at.TakingLast block) hand below = mod-eq_of_lt below
hand_back (at.FlushRegion block) hand below = mod-eq_of_lt below
hand_back (at.FlushPage block) hand below = mod-eq_of_lt below
hand_back (at.FlushWriting block) hand below = mod-eq_of_lt below
hand_back (at.FlushSettling block) hand below = mod-eq_of_lt below

-- ---- the last four of twelve

module _ (words : List ℕ) (twelve : length words ≡ 12) where
  front : length (take 8 words) ≡ 8
  front = length-take-le 8 words (omega (arith, twelve))

  back : length (drop 8 words) ≡ 4
  back = length-drop 8 words ∙ omega (arith, twelve)

  put_at : (d : List ℕ) (k x : ℕ) → set (take 8 words ++ d) (8 + k) x ≡ take 8 words ++ set d k x
  put_at d k x =
      let place : 8 + k - 8 ≡ k = omega arith in
      set-append_right (take 8 words) d 8 (8 + k) x front (omega arith) ∙ ap (λ (i : ℕ). take 8 words ++ set d i x) place

  pub four_set : (a b c l : ℕ) → set (set (set (set words 8 a) 9 b) 10 c) 11 l ≡ take 8 words ++ four_words a b c l
  four_set a b c l =
      let d = drop 8 words in
      ap (λ (w : List ℕ). set (set (set (set w 8 a) 9 b) 10 c) 11 l) (sym (take-append-drop 8 words))
      ∙ ap (λ (w : List ℕ). set (set (set w 9 b) 10 c) 11 l) (put_at d 0 a)
      ∙ ap (λ (w : List ℕ). set (set w 10 c) 11 l) (put_at (set d 0 a) 1 b)
      ∙ ap (λ (w : List ℕ). set w 11 l) (put_at (set (set d 0 a) 1 b) 2 c)
      ∙ put_at (set (set (set d 0 a) 1 b) 2 c) 3 l
      ∙ ap (λ (w : List ℕ). take 8 words ++ w) (four_put d a b c l back)

  pub four_put_in : (d : List ℕ) → length d ≡ 4 →
      set (set (set (set words 8 (get_or d 0 0)) 9 (get_or d 1 0)) 10 (get_or d 2 0)) 11 (get_or d 3 0) ≡ take 8 words ++ d
  four_put_in d four =
      four_set (get_or d 0 0) (get_or d 1 0) (get_or d 2 0) (get_or d 3 0) ∙ ap (λ (w : List ℕ). take 8 words ++ w) (four_are d four)

  four_read : (d : List ℕ) (k : ℕ) → get_or (take 8 words ++ d) (8 + k) 0 ≡ get_or d k 0
  four_read d k =
      let place : 8 + k - 8 ≡ k = omega arith in
      get_or-append_right (take 8 words) d 8 (8 + k) 0 front (omega arith) ∙ ap (λ (i : ℕ). get_or d i 0) place

  state_of_four : (d : List ℕ) →
      state_in (take 8 words ++ d)
      ≡ record { place = place_in (get_or d 0 0) (get_or d 1 0 % CACHE_BLOCKS) (get_or d 3 0); hand = get_or d 2 0 % CACHE_BLOCKS }
  state_of_four d = λ i. record {
    place = place_in (four_read d 0 i) (four_read d 1 i % CACHE_BLOCKS) (four_read d 3 i);
    hand = four_read d 2 i % CACHE_BLOCKS;
  }

  pub length_with : (state : CacheState) → length (with_state words state) ≡ 12
  length_with state =
      length-append (take 8 words) (place_words state.place state.hand) ∙ omega (arith, front, four_long state.place state.hand)

  pub first_eight : (state : CacheState) → take 8 (with_state words state) ≡ take 8 words
  first_eight state = take_at (take 8 words) (place_words state.place state.hand) 8 front

  pub state_back : (state : CacheState) → block_at state.place < CACHE_BLOCKS → state.hand < CACHE_BLOCKS → state_in (with_state words state) ≡ state
  state_back state block hand =
      let d = place_words state.place state.hand in
      state_of_four d ∙ (λ i. record { place = place_back state.place state.hand block i; hand = hand_back state.place state.hand hand i })

  -- the words as the code puts them
  pub words_put : (d : List ℕ) (state : CacheState) → d ≡ place_words state.place state.hand →
      set (set (set (set words 8 (get_or d 0 0)) 9 (get_or d 1 0)) 10 (get_or d 2 0)) 11 (get_or d 3 0) ≡ with_state words state
  words_put d state is =
      four_put_in d (ap (λ (w : List ℕ). length w) is ∙ four_long state.place state.hand) ∙ ap (λ (w : List ℕ). take 8 words ++ w) is
