-- Which test of a list is the first that fails, as a list of tests grows.
use Rattle.std.proofs.Common.{◌≡◌, ℕ, zero, suc, ◌+◌, ◌-◌, ◌<◌, Bool, true, false, List, [], ◌∷◌, ◌++◌, Option, Some}
use Rattle.std.proofs.Common.{None, refl, ◌∙◌, arith}
use Rattle.jos_elf.specs.declared.fault.ElfFault.{ElfFault}
use Rattle.jos_elf.specs.declared.fault.ElfFault.TheVariants.{Overlap}
use Rattle.jos_elf.specs.declared.header.ProgramHeader.{ProgramHeader}
use Rattle.jos_elf.specs.Tests.{FaultTest, first_failed, is_loaded, leaves_free, overlap_tests, segment_tests, table_tests}

abbrev none : Option ElfFault
none = None

pub passed-append : (a b : List FaultTest) → first_failed a ≡ none → first_failed (a ++ b) ≡ first_failed b
passed-append [] b e = refl
passed-append ((true, f) ∷ ts) b e = passed-append ts b e
passed-append ((false, f) ∷ ts) b e = absurd cc

pub failed-append : (a b : List FaultTest) (f : ElfFault) → first_failed a ≡ Some f → first_failed (a ++ b) ≡ Some f
failed-append [] b f e = absurd cc
failed-append ((true, g) ∷ ts) b f e = failed-append ts b f e
failed-append ((false, g) ∷ ts) b f e = e

one-passed : (b : Bool) (f : ElfFault) → b ≡ true → first_failed ((b, f) ∷ []) ≡ none
one-passed true f e = refl
one-passed false f e = absurd cc

one-failed : (b : Bool) (f : ElfFault) → b ≡ false → first_failed ((b, f) ∷ []) ≡ Some f
one-failed true f e = absurd cc
one-failed false f e = refl

-- ---- those of overlap

pub overlap-none : (headers : ℕ → ProgramHeader) (place : ℕ) → first_failed (overlap_tests headers place 0) ≡ none
unfolding overlap_tests
overlap-none headers place = refl

pub overlap-passed : (headers : ℕ → ProgramHeader) (place n : ℕ) → first_failed (overlap_tests headers place n) ≡ none
    → leaves_free (headers n) (headers place) ≡ true
    → first_failed (overlap_tests headers place (n + 1)) ≡ none
unfolding overlap_tests
overlap-passed headers place n e h =
    let q : n + 1 ≡ suc n = omega arith in
    rw q (passed-append (overlap_tests headers place n) _ e ∙ one-passed _ (Overlap place n) h)

overlap-keeps : (headers : ℕ → ProgramHeader) (place n k : ℕ) (f : ElfFault) → first_failed (overlap_tests headers place n) ≡ Some f → first_failed (overlap_tests headers place (k + n)) ≡ Some f
unfolding overlap_tests
overlap-keeps headers place n zero f e = let q : 0 + n ≡ n = omega arith in rw q e
overlap-keeps headers place n (suc k) f e =
    let q : suc k + n ≡ suc (k + n) = omega arith in
    rw q (failed-append (overlap_tests headers place (k + n)) _ f (overlap-keeps headers place n k f e))

pub overlap-failed : (headers : ℕ → ProgramHeader) (place n m : ℕ) → n < m → first_failed (overlap_tests headers place n) ≡ none
    → leaves_free (headers n) (headers place) ≡ false
    → first_failed (overlap_tests headers place m) ≡ Some (Overlap place n)
unfolding overlap_tests
overlap-failed headers place n m lt e h =
    let q : m ≡ (m - suc n) + suc n = omega arith in
    let here : first_failed (overlap_tests headers place (suc n)) ≡ Some (Overlap place n) = passed-append (overlap_tests headers place n) _ e ∙ one-failed _ (Overlap place n) h in
    let more = overlap-keeps headers place (suc n) (m - suc n) (Overlap place n) here in
    rw (← q) at more

-- ---- those of the table

pub table-none : (total : ℕ) (headers : ℕ → ProgramHeader) → first_failed (table_tests total headers 0) ≡ none
unfolding table_tests
table-none total headers = refl

pub table-passed_over : (total : ℕ) (headers : ℕ → ProgramHeader) (n : ℕ) → first_failed (table_tests total headers n) ≡ none → is_loaded (headers n) ≡ false → first_failed (table_tests total headers (n + 1)) ≡ none
unfolding table_tests
table-passed_over total headers n e h =
    let q : n + 1 ≡ suc n = omega arith in
    rw (q, h) (passed-append (table_tests total headers n) [] e)

pub table-passed : (total : ℕ) (headers : ℕ → ProgramHeader) (n : ℕ) → first_failed (table_tests total headers n) ≡ none → is_loaded (headers n) ≡ true → first_failed (segment_tests total headers n) ≡ none
    → first_failed (table_tests total headers (n + 1)) ≡ none
unfolding table_tests
table-passed total headers n e h s =
    let q : n + 1 ≡ suc n = omega arith in
    rw (q, h) (passed-append (table_tests total headers n) (segment_tests total headers n) e ∙ s)

table-keeps : (total : ℕ) (headers : ℕ → ProgramHeader) (n k : ℕ) (f : ElfFault) → first_failed (table_tests total headers n) ≡ Some f → first_failed (table_tests total headers (k + n)) ≡ Some f
unfolding table_tests
table-keeps total headers n zero f e = let q : 0 + n ≡ n = omega arith in rw q e
table-keeps total headers n (suc k) f e =
    let q : suc k + n ≡ suc (k + n) = omega arith in
    rw q (failed-append (table_tests total headers (k + n)) _ f (table-keeps total headers n k f e))

pub table-failed : (total : ℕ) (headers : ℕ → ProgramHeader) (n m : ℕ) (f : ElfFault) → n < m → first_failed (table_tests total headers n) ≡ none → is_loaded (headers n) ≡ true
    → first_failed (segment_tests total headers n) ≡ Some f → first_failed (table_tests total headers m) ≡ Some f
unfolding table_tests
table-failed total headers n m f lt e h s =
    let q : m ≡ (m - suc n) + suc n = omega arith in
    let here : first_failed (table_tests total headers (suc n)) ≡ Some f = rw h (passed-append (table_tests total headers n) (segment_tests total headers n) e ∙ s) in
    let more = table-keeps total headers (suc n) (m - suc n) f here in
    rw (← q) at more

-- ---- all of them

pub append-passed : (a b : List FaultTest) → first_failed (a ++ b) ≡ none → (first_failed a ≡ none) × (first_failed b ≡ none)
append-passed [] b e = (refl, e)
append-passed ((true, f) ∷ ts) b e = append-passed ts b e
append-passed ((false, f) ∷ ts) b e = absurd cc

pub cons-passed : (b : Bool) (f : ElfFault) (ts : List FaultTest) → first_failed ((b, f) ∷ ts) ≡ none → (b ≡ true) × (first_failed ts ≡ none)
cons-passed true f ts e = (refl, e)
cons-passed false f ts e = absurd cc

pub passed-cons : (b : Bool) (f : ElfFault) (ts : List FaultTest) → b ≡ true → first_failed ts ≡ none → first_failed ((b, f) ∷ ts) ≡ none
passed-cons true f ts h e = e
passed-cons false f ts h e = absurd cc
