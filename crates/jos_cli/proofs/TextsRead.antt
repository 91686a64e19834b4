-- Texts that are collected from what std hands out.
use Rattle.std.proofs.Common.{◌≡◌, suc, List, [], ◌∷◌, length, take, drop, map, refl, ap, ◌∙◌, arith}
use Rattle.std.specs.declared.vec.IntoIter.{IntoIter}
use Rattle.std.specs.Vec.Iter.{into_iter_items, into_iter_len, into_iter_steps}
use Rattle.std.proofs.lemmas.Iterator.{YieldsList}
use Rattle.std.proofs.lemmas.Iterator.Consumers.{YieldsList-from_shown}
use Rattle.jos_words.specs.declared.words.WordAt.{WordAt}
use Rattle.jos_words.specs.Arguments.{word_in_bytes}

-- the elements that are left
pub left_yields : {X Z : Type 0} (s : IntoIter X Z) → YieldsList (into_iter_steps {X = X} {Z = Z}) (λ y. y) s (take (into_iter_len s) (into_iter_items s))
left_yields {X} {Z} s =
    YieldsList-from_shown (into_iter_steps {X = X} {Z = Z}) (λ y. y) (λ u. take (into_iter_len u) (into_iter_items u))
    (λ u t p. ap (λ n. length (take n (into_iter_items u))) p.0)
    (λ u x t p.
    let more : into_iter_len u ≡ suc (into_iter_len t) = omega (arith, p.1) in
    ap (λ n. take n (into_iter_items u)) more ∙ ap (λ l. take (suc (into_iter_len t)) l) p.0)
    s

pub map_behind : {X Y : Type 0} (f : X → Y) (xs : List X) → map f (drop 1 xs) ≡ drop 1 (map f xs)
map_behind f [] = refl
map_behind f (x ∷ xs) = refl

-- the texts of words
pub texts_in_words : (words : List WordAt) → map (λ word. word.text.now) words ≡ map (λ word. word.text) (map word_in_bytes words)
texts_in_words [] = refl
texts_in_words (word ∷ words) = ap (λ texts. word.text.now ∷ texts) (texts_in_words words)
