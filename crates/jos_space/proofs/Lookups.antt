-- What looks up what: regions by directories' words, entries by tables' words.
use Rattle.std.proofs.Common.{◌≡◌, ◌∙◌, ◌/◌, ◌%◌, ◌<◌, inl, inr, ℕ, zero, suc, Bool, true, false}
use Rattle.std.proofs.Common.{cond, ◌∷◌, Option, Some, None, refl, ap, arith}
use Rattle.std.specs.Prelude.{nat_lt}
use Rattle.std.proofs.lemmas.Bool.Decides.{nat_tests}
use Rattle.jos_base.specs.Reach.{Entry}
use Rattle.jos_space.specs.declared.role.Role.{Role}
use Rattle.jos_space.specs.declared.role.Role.TheVariants.{Reserved, Free, Fresh, Page, Directory, Table}
use Rattle.jos_base.specs.Counting.{frame_limit, page_limit}
use Rattle.jos_base.specs.SpacesState.{Region, region_limit}
use Rattle.jos_space.specs.Frames.{Held, IsSound, regions_of, entries_of, entry_in, entry_of, region_of, is_directory}
use Rattle.jos_space.specs.Frames.{stacked}
use Rattle.std.proofs.lemmas.Bool.{cases_lt}

pub listed-same : (g h : ℕ → ℕ) (n : ℕ) → ((k : ℕ) → k < n → g k ≡ h k) → stacked g n ≡ stacked h n
unfolding stacked
listed-same g h zero same = refl
listed-same g h (suc n) same = λ i. same n (omega arith) i ∷ listed-same g h n (λ k lt. same k (omega arith)) i

-- regions are looked up in directories alone
pub regions-same : (c e : Held) → ((d : ℕ) → is_directory (e.role d) ≡ is_directory (c.role d)) → ((d r : ℕ) → c.role d ≡ Directory → e.word d r ≡ c.word d r)
    → (d r : ℕ) → regions_of e d r ≡ regions_of c d r
unfolding regions_of
regions-same c e roles words d r =
    ap (λ b. cond b (cond (nat_lt r region_limit) (region_of (e.word d r)) None) None) (roles d) ∙ by_role (c.role d) refl
  where
    by_role : (role : Role) → c.role d ≡ role
        → cond (is_directory role) (cond (nat_lt r region_limit) (region_of (e.word d r)) None) None ≡ cond (is_directory role) (cond (nat_lt r region_limit) (region_of (c.word d r)) None) None
    by_role Directory is = ap (λ w. cond (nat_lt r region_limit) (region_of w) None) (words d r is)
    by_role Reserved is = refl
    by_role (Free k) is = refl
    by_role Fresh is = refl
    by_role Page is = refl
    by_role (Table a b) is = refl

-- where there is a region there is a directory
pub region_facts : (c : Held) (d r : ℕ) (region : Region) → regions_of c d r ≡ Some region → (c.role d ≡ Directory) × (r < region_limit)
unfolding regions_of
region_facts c d r region is = by_role (c.role d) (nat_lt r region_limit) refl refl is
  where
    by_role : (role : Role) (b : Bool) → c.role d ≡ role → nat_lt r region_limit ≡ b → cond (is_directory role) (cond b (region_of (c.word d r)) None) None ≡ Some region → (c.role d ≡ Directory) × (r < region_limit)
    by_role Directory true e below is = (e, grind (arith, nat_tests))
    by_role Directory false e below is = absurd cc
    by_role Reserved b e below is = absurd cc
    by_role (Free k) b e below is = absurd cc
    by_role Fresh b e below is = absurd cc
    by_role Page b e below is = absurd cc
    by_role (Table x y) b e below is = absurd cc

pub entry_region : (c : Held) (d p : ℕ) (entry : Entry) → entries_of c d p ≡ Some entry → (region : Region) × (regions_of c d (p / 1024) ≡ Some region) × (entry_of (c.word region.table (p % 1024)) ≡ Some entry)
unfolding entries_of
entry_region c d p entry is = by_region (regions_of c d (p / 1024)) refl is
  where
    by_region : (o : Option Region) → regions_of c d (p / 1024) ≡ o → entry_in c o (p % 1024) ≡ Some entry → (region : Region) × (regions_of c d (p / 1024) ≡ Some region) × (entry_of (c.word region.table (p % 1024)) ≡ Some entry)
    by_region None e is = absurd cc
    by_region (Some region) e is = (region, e, is)

-- the numbers of a space and of a page whose region has a table
pub region_limits : (n : ℕ) (c : Held) (d p : ℕ) (region : Region) → IsSound n c → regions_of c d (p / 1024) ≡ Some region → (d < frame_limit) × (p < page_limit)
unfolding page_limit
region_limits n c d p region sound is =
    let facts = region_facts c d (p / 1024) region is in
    elim (cases_lt d n) [
      | inl lt ↦ let limit = sound.limit in (omega arith, (let below : p / 1024 < region_limit = facts.1 in omega arith))
      | inr ge ↦ absurd (let out = sound.outside d ge in let dir = facts.0 in cc)
    ]

pub entry_limits : (n : ℕ) (c : Held) (d p : ℕ) (entry : Entry) → IsSound n c → entries_of c d p ≡ Some entry → (d < frame_limit) × (p < page_limit)
entry_limits n c d p entry sound is = let r = entry_region c d p entry is in region_limits n c d p r.0 sound r.1

-- entries are the same where regions are, and the words are
pub entries-by : (c e : Held) → ((d r : ℕ) → regions_of e d r ≡ regions_of c d r) → e.word ≡ c.word → (d p : ℕ) → entries_of e d p ≡ entries_of c d p
unfolding entries_of
entries-by c e regions words d p = ap (λ o. entry_in e o (p % 1024)) (regions d (p / 1024)) ∙ by_region (regions_of c d (p / 1024))
  where
    by_region : (o : Option Region) → entry_in e o (p % 1024) ≡ entry_in c o (p % 1024)
    by_region None = refl
    by_region (Some region) = λ i. entry_of (words i region.table (p % 1024))
