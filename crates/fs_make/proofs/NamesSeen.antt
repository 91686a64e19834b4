-- The names so far, as a set and as a list.
use Rattle.std.proofs.Common.{◌≡◌, ℕ, ◌+◌, ◌<◌, ◌≤◌, Bool, true, false, List, [], ◌∷◌, length, get_or, drop, refl, ap, sym, ◌∙◌, arith}
use Rattle.std.proofs.Common.{Option, Some, None, Bor, Ordering}
use Rattle.std.specs.Prelude.{◌||◌, bytes_eq, option_map}
use Rattle.std.specs.List.{list_any}
use Rattle.std.specs.declared.cmp.Ordering.TheVariants.{Less, Equal, Greater}
use Rattle.std.specs.Ordering.{is_eq, nat_cmp, match_ordering}
use Rattle.std.specs.Cmp.Lexicographic.{slice_cmp}
use Rattle.std.specs.BTreeSet.{insert_key}
use Rattle.std.proofs.lemmas.List.{drop_all}
use Rattle.std.proofs.lemmas.Map.Text.{is_eq-slice_cmp}
use Rattle.std.proofs.lemmas.Slice.Eq.{bytes_eq-Decides}
use Rattle.jos_host.specs.MemHost.{Named}
use Rattle.fs_make.specs.MakeFaults.{first_taken}
use Rattle.fs_make.proofs.Spans.{drop-next}

-- the order of the set's texts
abbrev pub text_cmp : Bor (List ℕ) → Bor (List ℕ) → Ordering
text_cmp a b = slice_cmp nat_cmp a.now b.now

-- whether a text of the set has these bytes
abbrev pub has : List (Bor (List ℕ)) → List ℕ → Bool
has keys bytes = list_any (λ key. is_eq (slice_cmp nat_cmp bytes key.now)) keys

twice : (x y rest : Bool) → y ≡ x → (x || rest) ≡ (y || (x || rest))
twice true y rest e = rw e refl
twice false y rest e = rw e refl

swapped : (x y rest : Bool) → (x || (y || rest)) ≡ (y || (x || rest))
swapped true true rest = refl
swapped true false rest = refl
swapped false y rest = refl

first_is : (bytes other : List ℕ) (rest : Bool) → (is_eq (slice_cmp nat_cmp bytes other) || rest) ≡ (bytes_eq bytes other || rest)
first_is bytes other rest = ap (λ b. b || rest) (is_eq-slice_cmp bytes other)

same_text : (a b : List ℕ) → slice_cmp nat_cmp a b ≡ Equal → a ≡ b
same_text a b e =
    let is : is_eq (slice_cmp nat_cmp a b) ≡ true = ap is_eq e in
    (bytes_eq-Decides a b).0 (sym (is_eq-slice_cmp a b) ∙ is)

with_key : (keys more : List (Bor (List ℕ))) (key k : Bor (List ℕ)) (bytes : List ℕ) (order : Ordering) → text_cmp key k ≡ order →
    has more bytes ≡ (bytes_eq bytes key.now || has keys bytes) →
    has (match_ordering order (key ∷ k ∷ keys) (k ∷ keys) (k ∷ more)) bytes ≡ (bytes_eq bytes key.now || has (k ∷ keys) bytes)
with_key keys more key k bytes Less e h = first_is bytes key.now (has (k ∷ keys) bytes)
with_key keys more key k bytes Equal e h =
    twice (is_eq (slice_cmp nat_cmp bytes k.now)) (bytes_eq bytes key.now) (has keys bytes) (ap (bytes_eq bytes) (same_text key.now k.now e) ∙ sym (is_eq-slice_cmp bytes k.now))
with_key keys more key k bytes Greater e h =
    ap (λ b. is_eq (slice_cmp nat_cmp bytes k.now) || b) h ∙ swapped (is_eq (slice_cmp nat_cmp bytes k.now)) (bytes_eq bytes key.now) (has keys bytes)

-- a text more
added : (keys : List (Bor (List ℕ))) (key : Bor (List ℕ)) (bytes : List ℕ) → has (insert_key text_cmp keys key) bytes ≡ (bytes_eq bytes key.now || has keys bytes)
added [] key bytes = first_is bytes key.now false
added (k ∷ keys) key bytes = with_key keys (insert_key text_cmp keys key) key k bytes (text_cmp key k) refl (added keys key bytes)

-- ---- the first name that was taken

taken-none : (before : List (List ℕ)) → first_taken before [] ≡ None
unfolding first_taken
taken-none before = refl

taken-here : (before : List (List ℕ)) (file : Named) (files : List Named) → list_any (bytes_eq file.name) before ≡ true → first_taken before (file ∷ files) ≡ Some 0
unfolding first_taken
taken-here before file files e = rw e refl

taken-later : (before : List (List ℕ)) (file : Named) (files : List Named) → list_any (bytes_eq file.name) before ≡ false →
    first_taken before (file ∷ files) ≡ option_map (λ place. place + 1) (first_taken (file.name ∷ before) files)
unfolding first_taken
taken-later before file files e = rw e refl

shifted : (i : ℕ) (o : Option ℕ) → option_map (λ place. place + i) (option_map (λ place. place + 1) o) ≡ option_map (λ place. place + (i + 1)) o
shifted i None = refl
shifted i (Some place) = let e : place + 1 + i ≡ place + (i + 1) = omega arith in ap Some e

-- After so many files there are these names, and these bytes are those of a name where the set has them.
pub record Seen (files : List Named) (i : ℕ) (keys : List (Bor (List ℕ))) : Type 0 where
  pub names : List (List ℕ)
  pub same : (bytes : List ℕ) → has keys bytes ≡ list_any (bytes_eq bytes) names
  pub rest : first_taken [] files ≡ option_map (λ place. place + i) (first_taken names (drop i files))

unshifted : (o : Option ℕ) → o ≡ option_map (λ place. place + 0) o
unshifted None = refl
unshifted (Some place) = let e : place ≡ place + 0 = omega arith in ap Some e

pub seen-none : (files : List Named) → Seen files 0 []
seen-none files = record { names = []; same = λ bytes. refl; rest = unshifted (first_taken [] files) }

pub seen-next : (files : List Named) (i : ℕ) (keys next : List (Bor (List ℕ))) (key : Bor (List ℕ)) (file : Named) →
    i < length files → file ≡ get_or files i file → key.now ≡ file.name → has keys key.now ≡ false → next ≡ insert_key text_cmp keys key → Seen files i keys → Seen files (i + 1) next
seen-next files i keys next key file within at named new e h =
    let absent : list_any (bytes_eq file.name) h.names ≡ false = sym (h.same file.name) ∙ ap (has keys) (sym named) ∙ new in
    record {
      names = file.name ∷ h.names;
      same = λ bytes. ap (λ (k : List (Bor (List ℕ))). has k bytes) e ∙ added keys key bytes ∙ (λ j. bytes_eq bytes (named j) || h.same bytes j);
      rest = h.rest ∙ ap (λ l. option_map (λ place. place + i) (first_taken h.names l)) (drop-next files i file within at)
          ∙ ap (option_map (λ place. place + i)) (taken-later h.names file (drop (i + 1) files) absent)
          ∙ shifted i (first_taken (file.name ∷ h.names) (drop (i + 1) files));
    }

pub seen-taken : (files : List Named) (i : ℕ) (keys : List (Bor (List ℕ))) (key : Bor (List ℕ)) (file : Named) →
    i < length files → file ≡ get_or files i file → key.now ≡ file.name → has keys key.now ≡ true → Seen files i keys → Some i ≡ first_taken [] files
seen-taken files i keys key file within at named taken h =
    let there : list_any (bytes_eq file.name) h.names ≡ true = sym (h.same file.name) ∙ ap (has keys) (sym named) ∙ taken in
    let none : i ≡ 0 + i = omega arith in
    ap Some none
    ∙ sym (h.rest ∙ ap (λ l. option_map (λ place. place + i) (first_taken h.names l)) (drop-next files i file within at)
    ∙ ap (option_map (λ place. place + i)) (taken-here h.names file (drop (i + 1) files) there))

pub seen-all : (files : List Named) (i : ℕ) (keys : List (Bor (List ℕ))) → length files ≤ i → Seen files i keys → None ≡ first_taken [] files
seen-all files i keys past h =
    sym (h.rest ∙ ap (λ l. option_map (λ place. place + i) (first_taken h.names l)) (drop_all i files past)
    ∙ ap (option_map (λ place. place + i)) (taken-none h.names))
