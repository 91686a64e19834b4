-- The names of the rest of a path: the first one, and those behind it.
use Rattle.std.proofs.Common.{◌≡◌, ◌∙◌, ◌+◌, ◌<◌, ◌⊎◌, inl, inr, ℕ, zero, suc, Bool, true, false, not, refl, sym, ap, subst, arith}
use Rattle.std.proofs.Common.{List, [], ◌∷◌, length}
use Rattle.std.specs.Prelude.{cond, filter, nat_lt, slice_index, if◌then◌else◌, ⊤}
use Rattle.std.specs.List.{list_all, list_any, onto_first, slice_split}
use Rattle.std.proofs.lemmas.Bool.{ltb-true, ne_eqb, and_parts}
use Rattle.std.proofs.lemmas.List.Splits.{slice_split-cons_no, slice_split-cons_yes}
use Rattle.fs_layout.specs.declared.numbers.TheConstants.{MAXNAMELEN, MAXPATHLEN}
use Rattle.fs_layout.specs.FileActs.{is_empty, is_good_path, is_slash, names_in}
use Rattle.fs_runs.specs.TreeRuns.{HasPath}
use Rattle.fs_runs.proofs.Pieces.{IsNameAt}
use Rattle.fs_runs.proofs.Paths.{Stands, stands-behind, stands-path}

-- ---- the first name

-- the bytes before the first slash, and the bytes from there on
abbrev pub word_of : List ℕ → List ℕ
word_of [] = []
word_of (byte ∷ rest) = if is_slash byte then [] else byte ∷ word_of rest

abbrev pub behind_word : List ℕ → List ℕ
behind_word [] = []
behind_word (byte ∷ rest) = if is_slash byte then byte ∷ rest else behind_word rest

pub behind-slash : (byte : ℕ) (rest : List ℕ) → is_slash byte ≡ true → behind_word (byte ∷ rest) ≡ byte ∷ rest
behind-slash byte rest is = rw is refl

pub behind-other : (byte : ℕ) (rest : List ℕ) → is_slash byte ≡ false → behind_word (byte ∷ rest) ≡ behind_word rest
behind-other byte rest is = rw is refl

pub word-slash : (byte : ℕ) (rest : List ℕ) → is_slash byte ≡ true → word_of (byte ∷ rest) ≡ []
word-slash byte rest is = rw is refl

pub word-other : (byte : ℕ) (rest : List ℕ) → is_slash byte ≡ false → word_of (byte ∷ rest) ≡ byte ∷ word_of rest
word-other byte rest is = rw is refl

-- the parts between slashes behind the first
abbrev tails : List ℕ → List (List ℕ)
tails [] = []
tails (slash ∷ rest) = slice_split is_slash rest

split-first : (rest : List ℕ) → slice_split is_slash rest ≡ word_of rest ∷ tails (behind_word rest)
split-first [] = refl
split-first (byte ∷ rest) = by (is_slash byte) refl (split-first rest)
  where
    by : (b : Bool) → is_slash byte ≡ b → slice_split is_slash rest ≡ word_of rest ∷ tails (behind_word rest) →
        cond b ([] ∷ slice_split is_slash rest) (onto_first byte (slice_split is_slash rest))
        ≡ (if b then [] else byte ∷ word_of rest) ∷ tails (if b then byte ∷ rest else behind_word rest)
    by true is e = refl
    by false is e = ap (onto_first byte) e

-- ---- names

abbrev some_bytes : List (List ℕ) → List (List ℕ)
some_bytes parts = filter (λ name. not (is_empty name)) parts

-- a slash before the names is no name
pub names-slash : (byte : ℕ) (rest : List ℕ) → is_slash byte ≡ true → names_in (byte ∷ rest) ≡ names_in rest
unfolding names_in
names-slash byte rest is = ap (λ (l : List (List ℕ)). some_bytes l) (slice_split-cons_yes is_slash byte rest is)

pub names-nothing : names_in [] ≡ []
unfolding names_in
names-nothing = refl

names-split : (rest : List ℕ) → some_bytes (slice_split is_slash rest) ≡ names_in rest
unfolding names_in
names-split rest = refl

names-tails : (rest : List ℕ) → some_bytes (tails (behind_word rest)) ≡ names_in (behind_word rest)
names-tails [] = sym names-nothing
names-tails (byte ∷ rest) = by (is_slash byte) refl (names-tails rest)
  where
    by : (b : Bool) → is_slash byte ≡ b → some_bytes (tails (behind_word rest)) ≡ names_in (behind_word rest) →
        some_bytes (tails (if b then byte ∷ rest else behind_word rest)) ≡ names_in (if b then byte ∷ rest else behind_word rest)
    by true is e = names-split rest ∙ sym (names-slash byte rest is)
    by false is e = e

some-full : (byte : ℕ) (bytes : List ℕ) (parts : List (List ℕ)) → some_bytes ((byte ∷ bytes) ∷ parts) ≡ (byte ∷ bytes) ∷ some_bytes parts
some-full byte bytes parts =
    let full : is_empty (byte ∷ bytes) ≡ false = ne_eqb (length (byte ∷ bytes)) 0 (omega arith) in
    ap (λ b. cond (not b) ((byte ∷ bytes) ∷ some_bytes parts) (some_bytes parts)) full

-- another byte begins a name
pub names-other : (byte : ℕ) (rest : List ℕ) → is_slash byte ≡ false →
    names_in (byte ∷ rest) ≡ (byte ∷ word_of rest) ∷ names_in (behind_word rest)
unfolding names_in
names-other byte rest is =
    ap (λ (l : List (List ℕ)). some_bytes l) (slice_split-cons_no is_slash byte rest is ∙ ap (onto_first byte) (split-first rest))
    ∙ some-full byte (word_of rest) (tails (behind_word rest))
    ∙ ap (λ (l : List (List ℕ)). (byte ∷ word_of rest) ∷ l) (names-tails rest)

-- where there is no name, there are only slashes
pub slashes-only : (rest : List ℕ) → names_in rest ≡ [] → (k : ℕ) → k < length rest → is_slash (slice_index rest k) ≡ true
slashes-only [] e k within = absurd (omega arith)
slashes-only (byte ∷ rest) e k within = by (is_slash byte) refl (slashes-only rest) k within
  where
    none-some : {X : Type 0} (first : List ℕ) (l : List (List ℕ)) → first ∷ l ≡ [] → X
    none-some first l e = absurd (cc)

    by : (b : Bool) → is_slash byte ≡ b → (names_in rest ≡ [] → (k : ℕ) → k < length rest → is_slash (slice_index rest k) ≡ true) →
        (k : ℕ) → k < length (byte ∷ rest) → is_slash (slice_index (byte ∷ rest) k) ≡ true
    by true is onward zero within = is
    by true is onward (suc k) within = onward (sym (names-slash byte rest is) ∙ e) k (omega arith)
    by false is onward k within = none-some (byte ∷ word_of rest) (names_in (behind_word rest)) (sym (names-other byte rest is) ∙ e)

-- ---- how long they are, and where they stand

pub word-no_slash : (rest : List ℕ) → list_any is_slash (word_of rest) ≡ false
word-no_slash [] = refl
word-no_slash (byte ∷ rest) = by (is_slash byte) refl (word-no_slash rest)
  where
    by : (b : Bool) → is_slash byte ≡ b → list_any is_slash (word_of rest) ≡ false → list_any is_slash (if b then [] else byte ∷ word_of rest) ≡ false
    by true is e = refl
    by false is e = rw is e

-- the rest of a path stands in it and in the page
pub record IsRest (page : ℕ → ℕ) (path : List ℕ) (from : ℕ) (rest : List ℕ) : Type 0 where
  pub long : from + length rest ≡ length path
  pub bytes : (k : ℕ) → k < length rest → slice_index path (from + k) ≡ slice_index rest k
  pub stands : Stands page from rest

pub rest-path : (page : ℕ → ℕ) (path : List ℕ) → HasPath page path → IsRest page path 0 path
rest-path page path has = record { long = omega arith; bytes = λ k within. ap (slice_index path) (omega arith); stands = stands-path page path has }

pub rest-behind : (page : ℕ → ℕ) (path : List ℕ) (from byte : ℕ) (rest : List ℕ) → IsRest page path from (byte ∷ rest) → IsRest page path (from + 1) rest
rest-behind page path from byte rest is =
    let long : from + suc (length rest) ≡ length path = is.long in
    record {
      long = omega (arith, long);
      bytes = λ k within. ap (slice_index path) (omega arith) ∙ is.bytes (suc k) (omega arith);
      stands = stands-behind page from byte rest is.stands;
    }

pub rest-word : (page : ℕ → ℕ) (path rest : List ℕ) (from : ℕ) → IsRest page path from rest → IsRest page path (from + length (word_of rest)) (behind_word rest)
rest-word page path [] from is = subst (λ n. IsRest page path n []) (omega arith) is
rest-word page path (byte ∷ rest) from is = by (is_slash byte) (rest-word page path rest (from + 1) (rest-behind page path from byte rest is))
  where
    by : (b : Bool) → IsRest page path ((from + 1) + length (word_of rest)) (behind_word rest) →
        IsRest page path (from + length (if b then [] else byte ∷ word_of rest)) (if b then byte ∷ rest else behind_word rest)
    by true onward = subst (λ n. IsRest page path n (byte ∷ rest)) (omega arith) is
    by false onward = subst (λ n. IsRest page path n (behind_word rest)) (omega arith) onward

-- the bytes of the first name
pub word-bytes : (rest : List ℕ) (k : ℕ) → k < length (word_of rest) → slice_index rest k ≡ slice_index (word_of rest) k
word-bytes [] k within = absurd (omega arith)
word-bytes (byte ∷ rest) k within = by (is_slash byte) (word-bytes rest) k within
  where
    by : (b : Bool) → ((k : ℕ) → k < length (word_of rest) → slice_index rest k ≡ slice_index (word_of rest) k) → (k : ℕ) →
        k < length (if b then [] else byte ∷ word_of rest) → slice_index (byte ∷ rest) k ≡ slice_index (if b then [] else byte ∷ word_of rest) k
    by true onward k within = absurd (omega arith)
    by false onward zero within = refl
    by false onward (suc k) within = onward k (omega arith)

-- behind it comes a slash, or nothing
abbrev Ended : List ℕ → Type 0
Ended [] = ⊤
Ended (byte ∷ rest) = is_slash byte ≡ true

behind-ended : (rest : List ℕ) → Ended (behind_word rest)
behind-ended [] = tt
behind-ended (byte ∷ rest) = by (is_slash byte) refl (behind-ended rest)
  where
    by : (b : Bool) → is_slash byte ≡ b → Ended (behind_word rest) → Ended (if b then byte ∷ rest else behind_word rest)
    by true is e = is
    by false is e = e

ends-at : (page : ℕ → ℕ) (path : List ℕ) (at : ℕ) (rest : List ℕ) → IsRest page path at rest → Ended rest →
    (at ≡ length path) ⊎ (is_slash (slice_index path at) ≡ true)
ends-at page path at [] is e = inl (omega (arith, is.long))
ends-at page path at (byte ∷ rest) is e = inr (ap is_slash (ap (slice_index path) (omega arith) ∙ is.bytes 0 (omega arith)) ∙ e)

-- which lengths they have
abbrev pub short : List ℕ → Bool
short name = nat_lt (length name) MAXNAMELEN

pub name-at : (page : ℕ → ℕ) (path : List ℕ) (from byte : ℕ) (rest : List ℕ) → IsRest page path from (byte ∷ rest) → is_slash byte ≡ false →
    short (byte ∷ word_of rest) ≡ true → IsNameAt path from (byte ∷ word_of rest)
name-at page path from byte rest is other small =
    let word : word_of (byte ∷ rest) ≡ byte ∷ word_of rest = word-other byte rest other in
    let behind = rest-word page path (byte ∷ rest) from is in
    let wide : length (word_of (byte ∷ rest)) ≡ length (byte ∷ word_of rest) = ap length word in
    record {
      some = omega arith;
      short = ltb-true (length (byte ∷ word_of rest)) MAXNAMELEN small;
      within = omega (arith, behind.long, wide);
      bytes = λ k within.
          let inside : k < length (word_of (byte ∷ rest)) = omega (arith, within, wide) in
          is.bytes k (omega (arith, inside, behind.long, is.long))
          ∙ word-bytes (byte ∷ rest) k inside ∙ ap (λ (l : List ℕ). slice_index l k) word;
      no_slash = ap (list_any is_slash) (sym word) ∙ word-no_slash (byte ∷ rest);
      ends = subst (λ n. (n ≡ length path) ⊎ (is_slash (slice_index path n) ≡ true)) (ap (λ n. from + n) wide)
          (ends-at page path (from + length (word_of (byte ∷ rest))) (behind_word (byte ∷ rest)) behind (behind-ended (byte ∷ rest)));
    }

-- of names that are short enough the first is, and the others are
pub short-parts : (name : List ℕ) (names : List (List ℕ)) → list_all short (name ∷ names) ≡ true → (short name ≡ true) × (list_all short names ≡ true)
short-parts name names e = and_parts (short name) (list_all short names) e

pub short-names : (path : List ℕ) → is_good_path path ≡ true → list_all short (names_in path) ≡ true
unfolding is_good_path
short-names path e = (and_parts (nat_lt (length path) MAXPATHLEN) (list_all short (names_in path)) e).1
