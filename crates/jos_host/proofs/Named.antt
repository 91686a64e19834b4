-- What a look-up by name gives in a list of files, and after one of them is set or added.
use Rattle.std.proofs.Common.{◌≡◌, ℕ, suc, zero, ◌+◌, ◌<◌, ◌≤◌, Bool, true, false, cond, List, [], ◌∷◌, ◌++◌, length}
use Rattle.std.proofs.Common.{get_or, refl, sym, ap, ◌∙◌, arith, Option, None, Some, subst, IsSome}
use Rattle.std.proofs.Math.ListN.{set}
use Rattle.std.specs.List.{position, position_from}
use Rattle.std.specs.Str.{bytes_eq}
use Rattle.std.proofs.lemmas.Grind.{common_steps}
use Rattle.std.proofs.lemmas.Bool.{false_from_ne_true}
use Rattle.std.proofs.lemmas.Slice.Eq.{bytes_eq-Decides}
use Rattle.std.proofs.lemmas.List.Quantifiers.{position-Some}
use Rattle.std.proofs.lemmas.Iterator.Adapters.{position_from-zero}
use Rattle.jos_host.specs.Files.{with_bytes, bytes_of, overwritten}
use Rattle.jos_host.specs.MemHost.{Named, files_of}

-- the file has the name
abbrev pub has_name : List ℕ → Named → Bool
has_name name f = bytes_eq name f.name

-- the first file of the name is at i
pub record IsFirst (files : List Named) (name : List ℕ) (i : ℕ) (d : Named) : Type 0 where
  within : i < length files
  here : has_name name (get_or files i d) ≡ true
  before : (k : ℕ) → k < i → has_name name (get_or files k d) ≡ false

pub first : (files : List Named) (name : List ℕ) (i : ℕ) (d : Named) → position (has_name name) files ≡ Some i → IsFirst files name i d
first files name i d e =
    let facts = position-Some (has_name name) files i d e in
    record { within = facts.0; here = facts.1; before = facts.2 }

rest_first : (f : Named) (files : List Named) (name : List ℕ) (i : ℕ) (d : Named) → IsFirst (f ∷ files) name (suc i) d → IsFirst files name i d
rest_first f files name i d h = record { within = omega (arith, h.within); here = h.here; before = λ k l. h.before (suc k) (omega arith) }

-- a name that differs from what q is, is not q
apart : (q name other : List ℕ) → bytes_eq name other ≡ false → bytes_eq q other ≡ true → bytes_eq q name ≡ false
apart q name other differs same =
    false_from_ne_true (bytes_eq q name) (λ t.
    let e : q ≡ name = (bytes_eq-Decides q name).0 t in
    let h : bytes_eq q other ≡ false = subst (λ (n : List ℕ). bytes_eq n other ≡ false) (sym e) differs in
    cc)

pub found : (files : List Named) (name : List ℕ) (i : ℕ) (d : Named) → IsFirst files name i d → files_of files name ≡ Some (get_or files i d).bytes
found [] name i d h = absurd (omega (arith, h.within))
found (f ∷ files) name zero d h = rw h.here refl
found (f ∷ files) name (suc i) d h =
    let no_head : has_name name f ≡ false = h.before 0 (omega arith) in
    rw no_head (found files name i d (rest_first f files name i d h))

absent_step : (b : Bool) (i : ℕ) (places : Option ℕ) (bytes : List ℕ) (more : Option (List ℕ)) → cond b (Some i) places ≡ None → (places ≡ None → more ≡ None) → cond b (Some bytes) more ≡ None
absent_step true i places bytes more e k = cc
absent_step false i places bytes more e k = k e

absent_from : (files : List Named) (name : List ℕ) (i : ℕ) → position_from (has_name name) i files ≡ None → files_of files name ≡ None
absent_from [] name i e = refl
absent_from (f ∷ files) name i e =
    absent_step (has_name name f) i (position_from (has_name name) (i + 1) files) f.bytes (files_of files name) e (absent_from files name (i + 1))

pub absent : (files : List Named) (name : List ℕ) → position (has_name name) files ≡ None → files_of files name ≡ None
absent files name e = absent_from files name 0 (sym (position_from-zero (has_name name) files) ∙ e)

-- what is chosen by a does not count where it is chosen again
over : (a : Bool) (x y z : Option (List ℕ)) → cond a y z ≡ cond a y (cond a x z)
over true x y z = refl
over false x y z = refl

-- two choices of which one at most is made, in either order
skip : (a b : Bool) (x y z w : Option (List ℕ)) → (a ≡ true → b ≡ false) → w ≡ cond b y z → cond a x w ≡ cond b y (cond a x z)
skip true b x y z w one e = rw (one refl) refl
skip false b x y z w one e = e

set_at : (files : List Named) (name : List ℕ) (i : ℕ) (d g : Named) → IsFirst files name i d → g.name ≡ name → (q : List ℕ) → files_of (set files i g) q ≡ with_bytes (files_of files) name g.bytes q
set_at [] name i d g h e q = absurd (omega (arith, h.within))
set_at (f ∷ files) name zero d g h e q =
    let same : name ≡ f.name = (bytes_eq-Decides name f.name).0 h.here in
    let choice : cond (bytes_eq q name) (Some g.bytes) (files_of files q)
    ≡ cond (bytes_eq q name) (Some g.bytes) (cond (bytes_eq q name) (Some f.bytes) (files_of files q)) =
    over (bytes_eq q name) (Some f.bytes) (Some g.bytes) (files_of files q) in
    subst (λ (n : List ℕ). cond (bytes_eq q n) (Some g.bytes) (files_of files q)
    ≡ cond (bytes_eq q name) (Some g.bytes) (cond (bytes_eq q f.name) (Some f.bytes) (files_of files q))) (sym e)
    (subst (λ (n : List ℕ). cond (bytes_eq q name) (Some g.bytes) (files_of files q)
    ≡ cond (bytes_eq q name) (Some g.bytes) (cond (bytes_eq q n) (Some f.bytes) (files_of files q))) same choice)
set_at (f ∷ files) name (suc i) d g h e q =
    skip (bytes_eq q f.name) (bytes_eq q name) (Some f.bytes) (Some g.bytes) (files_of files q) (files_of (set files i g) q)
    (apart q name f.name (h.before 0 (omega arith)))
    (set_at files name i d g (rest_first f files name i d h) e q)

none_parts : (b : Bool) (x : List ℕ) (more : Option (List ℕ)) → cond b (Some x) more ≡ None → (b ≡ false) × (more ≡ None)
none_parts true x more e = absurd (cc)
none_parts false x more e = (refl, e)

added_at : (named : List Named) (name bytes : List ℕ) → files_of named name ≡ None → (q : List ℕ) → files_of (named ++ record { name = name; bytes = bytes } ∷ []) q ≡ with_bytes (files_of named) name bytes q
added_at [] name bytes none q = refl
added_at (f ∷ named) name bytes none q =
    let parts = none_parts (bytes_eq name f.name) f.bytes (files_of named name) none in
    skip (bytes_eq q f.name) (bytes_eq q name) (Some f.bytes) (Some bytes) (files_of named q) (files_of (named ++ record { name = name; bytes = bytes } ∷ []) q)
    (apart q name f.name parts.0)
    (added_at named name bytes parts.1 q)

-- the first file of a name is replaced by one of that name
pub files_of-set : (files : List Named) (name : List ℕ) (i : ℕ) (d g : Named) (bytes : List ℕ) → position (has_name name) files ≡ Some i → d ≡ get_or files i d → g.name ≡ d.name → g.bytes ≡ bytes → files_of (set files i g) ≡ with_bytes (files_of files) name bytes
files_of-set files name i d g bytes p at n b =
    let h = first files name i d p in
    let known : (get_or files i d).name ≡ name = sym ((bytes_eq-Decides name (get_or files i d).name).0 h.here) in
    let named : g.name ≡ name = n ∙ ap (λ (f : Named). f.name) at ∙ known in
    subst (λ (l : List ℕ). files_of (set files i g) ≡ with_bytes (files_of files) name l) b
    (λ k q. set_at files name i d g h named q k)

-- a file of a name that was absent comes at the end
pub files_of-push : (files new : List Named) (name bytes : List ℕ) → position (has_name name) files ≡ None → new ≡ files ++ record { name = name; bytes = bytes } ∷ [] → files_of new ≡ with_bytes (files_of files) name bytes
files_of-push files new name bytes p e =
    ap files_of e ∙ (λ k q. added_at files name bytes (absent files name p) q k)

-- the bytes of the first file of the name
pub bytes_of-first : (files : List Named) (name : List ℕ) (i : ℕ) (d : Named) → position (has_name name) files ≡ Some i → d ≡ get_or files i d → bytes_of (files_of files) name ≡ d.bytes
bytes_of-first files name i d p at =
    rw (found files name i d (first files name i d p)) (ap (λ (f : Named). f.bytes) (sym at))

pub bytes_of-absent : (files : List Named) (name : List ℕ) → position (has_name name) files ≡ None → bytes_of (files_of files) name ≡ []
bytes_of-absent files name p = rw (absent files name p) refl

pub not_there : (files : List Named) (name : List ℕ) → position (has_name name) files ≡ None → IsSome (files_of files name) → ⊥
not_there files name p some =
    let none : IsSome {T = List ℕ} None = subst (λ (o : Option (List ℕ)). IsSome o) (absent files name p) some in
    cc

-- what is written into no bytes is what stands there then
pub overwritten-nil : (at : ℕ) (bytes : List ℕ) → at ≤ 0 → overwritten [] at bytes ≡ bytes
overwritten-nil zero bytes h = grind (arith, common_steps)
overwritten-nil (suc at) bytes h = absurd (omega arith)
