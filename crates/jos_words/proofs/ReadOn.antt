-- One word more, and the end of the words.
use Rattle.std.proofs.Common.{◌≡◌, ◌∙◌, ℕ, ◌+◌, ◌<◌, ◌≤◌, List, ◌∷◌, length, get_or, take, drop, ◌-◌, arith, map, Some, None, sym, ap, add-one, drop-cons}
use Rattle.std.proofs.lemmas.List.{drop_all, take_all, length-drop, drop-map}
use Rattle.std.specs.Borrow.{Bor}
use Rattle.jos_words.specs.Arguments.{◌>>=◌, texts, Word, Reading, word_read, words_read}

module _ (names : List (List ℕ)) (words : List (Bor (List ℕ))) (r : Reading) (place k : ℕ) (d : Bor (List ℕ)) (below : k < length words) where
  abbrev word : Word
  word = record { place = place; text = (get_or words k d).now }

  rest_is : map (λ w. w.now) (drop k words) ≡ (get_or words k d).now ∷ map (λ w. w.now) (drop (k + 1) words)
  rest_is = ap (map (λ w. w.now)) (drop-cons words k d below) ∙ ap (λ n. (get_or words k d).now ∷ map (λ (w : Bor (List ℕ)). w.now) (drop n words)) (sym (add-one k))

  pub read_on : (s : Reading) → word_read names r word ≡ Some s → words_read names r place (map (λ w. w.now) (drop k words)) ≡ words_read names s (place + 1) (map (λ w. w.now) (drop (k + 1) words))
  unfolding words_read
  read_on s e = ap (words_read names r place) rest_is ∙ ap (λ o. o >>= (λ s. words_read names s (place + 1) (map (λ w. w.now) (drop (k + 1) words)))) e

  pub read_stops : word_read names r word ≡ None → words_read names r place (map (λ w. w.now) (drop k words)) ≡ None
  unfolding words_read
  read_stops e = ap (words_read names r place) rest_is ∙ ap (λ o. o >>= (λ s. words_read names s (place + 1) (map (λ w. w.now) (drop (k + 1) words)))) e

pub read_ends : (names : List (List ℕ)) (words : List (Bor (List ℕ))) (r : Reading) (place k : ℕ) → length words ≤ k → words_read names r place (map (λ w. w.now) (drop k words)) ≡ Some r
unfolding words_read
read_ends names words r place k past = ap (λ ws. words_read names r place (map (λ w. w.now) ws)) (drop_all k words past)

pub behind_first : (words : List (Bor (List ℕ))) → map (λ w. w.now) (take (length words - 1) (drop 1 words)) ≡ drop 1 (texts words)
behind_first words = ap (map (λ w. w.now)) (take_all (length words - 1) (drop 1 words) (omega (arith, length-drop 1 words))) ∙ sym (drop-map (λ w. w.now) 1 words)
