-- A map at the key that changed, and at the others.
use Rattle.std.proofs.Common.{◌≡◌, ◌≢◌, ◌==◌, ◌||◌, ℕ, Bool, true, false, refl, subst, arith, if◌then◌else◌}
use Rattle.std.proofs.lemmas.Bool.Decides.{nat_tests}
use Rattle.jos_base.specs.Words.{upd}

pub upd-at : {V : Type 0} (f : ℕ → V) (k : ℕ) (v : V) → upd f k v k ≡ v
unfolding upd
upd-at f k v = let same : (k == k) ≡ true = grind (arith, nat_tests) in rw same refl

pub upd-other : {V : Type 0} (f : ℕ → V) (k : ℕ) (v : V) (q : ℕ) → q ≢ k → upd f k v q ≡ f q
unfolding upd
upd-other f k v q ne = let other : (q == k) ≡ false = grind (arith, nat_tests) in rw other refl

-- what the old value and the new one have alike, the map has as before at every key
pub upd-alike : {V W : Type 0} (seen : V → W) (f : ℕ → V) (k : ℕ) (v : V) → seen v ≡ seen (f k) → (q : ℕ) → seen (upd f k v q) ≡ seen (f q)
unfolding upd
upd-alike {V = V} seen f k v e q = by_test (q == k) refl
  where
    by_test : (t : Bool) → (q == k) ≡ t → seen (if t then v else f q) ≡ seen (f q)
    by_test false test = refl
    by_test true test = let at : q ≡ k = grind (arith, nat_tests) in rw at e

-- a map that has the value already
pub upd-stays : {V : Type 0} (f : ℕ → V) (k : ℕ) (v : V) → v ≡ f k → (q : ℕ) → upd f k v q ≡ f q
upd-stays {V = V} f k v e q = upd-alike {V = V} {W = V} (λ x. x) f k v e q

-- what is seen of a changed map
pub upd-seen : {V W : Type 0} (seen : V → W) (f : ℕ → V) (k : ℕ) (v : V) (q : ℕ) → seen (upd f k v q) ≡ upd (λ x. seen (f x)) k (seen v) q
unfolding upd
upd-seen seen f k v q = by_test (q == k)
  where
    by_test : (t : Bool) → seen (if t then v else f q) ≡ (if t then seen v else seen (f q))
    by_test true = refl
    by_test false = refl

-- a map that is changed twice at one key has the later value there
pub upd-twice : {V : Type 0} (f : ℕ → V) (k : ℕ) (v w : V) → upd (upd f k v) k w ≡ upd f k w
unfolding upd
upd-twice {V = V} f k v w = λ i. λ q. by_test q (q == k) i
  where
    by_test : (q : ℕ) (t : Bool) → (if t then w else (if t then v else f q)) ≡ (if t then w else f q)
    by_test q false = refl
    by_test q true = refl

-- what holds of the new value, and of the others where they are, holds at every key
pub upd-all : {V : Type 0} (P : ℕ → V → Type 0) (f : ℕ → V) (k : ℕ) (v : V) → P k v → ((q : ℕ) → q ≢ k → P q (f q)) → (q : ℕ) →
    P q (upd f k v q)
unfolding upd
upd-all {V = V} P f k v here others q = by_test (q == k) refl
  where
    by_test : (t : Bool) → (q == k) ≡ t → P q (if t then v else f q)
    by_test false test = others q (grind (arith, nat_tests))
    by_test true test = let at : k ≡ q = grind (arith, nat_tests) in subst (λ n. P n v) at here

-- the same of two maps that change at one key
pub upd-both : {V W : Type 0} (P : ℕ → V → W → Type 0) (f : ℕ → V) (g : ℕ → W) (k : ℕ) (v : V) (w : W) → P k v w →
    ((q : ℕ) → q ≢ k → P q (f q) (g q)) → (q : ℕ) → P q (upd f k v q) (upd g k w q)
unfolding upd
upd-both {V = V} {W = W} P f g k v w here others q = by_test (q == k) refl
  where
    by_test : (t : Bool) → (q == k) ≡ t → P q (if t then v else f q) (if t then w else g q)
    by_test false test = others q (grind (arith, nat_tests))
    by_test true test = let at : k ≡ q = grind (arith, nat_tests) in subst (λ n. P n v w) at here

-- a map of tests that is true at one more key
pub upd-true : (f : ℕ → Bool) (k q : ℕ) → upd f k true q ≡ ((q == k) || f q)
unfolding upd
upd-true f k q = by_test (q == k)
  where
    by_test : (t : Bool) → (if t then true else f q) ≡ (t || f q)
    by_test true = refl
    by_test false = refl
