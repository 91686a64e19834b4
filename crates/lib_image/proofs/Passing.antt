-- When all tests of a list pass, and how spawn comes through tests.
use Rattle.std.proofs.Common.{◌≡◌, ℕ, ◌&&◌, Bool, true, false, List, [], ◌∷◌, ◌++◌, if◌then◌else◌, refl, sym, subst, true≢false}
use Rattle.jos_elf.specs.declared.fault.ElfFault.{ElfFault}
use Rattle.jos_elf.specs.Tests.{FaultTest}
use Rattle.lib_os.specs.declared.spawn_steps.SpawnStep.{SpawnStep}
use Rattle.lib_os.specs.declared.spawn_steps.SpawnStep.TheVariants as spawn
use Rattle.lib_os.specs.declared.spawn_steps.TestingStep.{TestingStep}
use Rattle.lib_image.specs.SpawnNexts.{no_image}
use Rattle.lib_image.specs.TestingStages.{tested, testing_asks, where_holds}
use Rattle.lib_image.specs.WordLaws.{all_pass, behind, Comes, loaded, there}

-- ---- lists of tests

pub passes-cons : (test : Bool) (fault : ElfFault) (rest : List FaultTest) → test ≡ true → all_pass rest ≡ true → all_pass ((test, fault) ∷ rest) ≡ true
passes-cons true fault rest p q = q
passes-cons false fault rest p q = absurd (true≢false (sym p))

pub fails-cons : (test : Bool) (fault : ElfFault) (rest : List FaultTest) → test ≡ false → all_pass ((test, fault) ∷ rest) ≡ false
fails-cons true fault rest p = absurd (true≢false p)
fails-cons false fault rest p = refl

pub fails-rest : (test : Bool) (fault : ElfFault) (rest : List FaultTest) → all_pass rest ≡ false → all_pass ((test, fault) ∷ rest) ≡ false
fails-rest true fault rest q = q
fails-rest false fault rest q = refl

pub passes-one : (test : Bool) (fault : ElfFault) → all_pass ((test, fault) ∷ []) ≡ test
passes-one true fault = refl
passes-one false fault = refl

pub passes-append : (a b : List FaultTest) → all_pass (a ++ b) ≡ (all_pass a && all_pass b)
passes-append [] b = refl
passes-append ((true, fault) ∷ rest) b = passes-append rest b
passes-append ((false, fault) ∷ rest) b = refl

-- ---- steps

-- where the word that is loaded is known
pub onto : (words : ℕ → ℕ) (end : SpawnStep) (at : TestingStep) (word : ℕ) → loaded words (testing_asks at) ≡ word → Comes words end (tested at word)
    → Comes words end (spawn.Testing at)
onto words end at word is comes = behind at (subst (λ (w : ℕ). Comes words end (tested at w)) (sym is) comes)

-- where the end is known to be another one
pub at-end : (words : ℕ → ℕ) (end at : SpawnStep) → end ≡ at → Comes words end at
at-end words end at same = subst (λ (e : SpawnStep). Comes words e at) (sym same) there

-- by a test
pub gate : (words : ℕ → ℕ) (end : SpawnStep) (holds : Bool) (fd : ℕ) (at : SpawnStep) → (holds ≡ false → end ≡ no_image fd)
    → (holds ≡ true → Comes words end at) → Comes words end (where_holds holds fd at)
gate words end true fd at fails goes = goes refl
gate words end false fd at fails goes = at-end words end (no_image fd) (fails refl)

-- by a choice
pub branch : (words : ℕ → ℕ) (end : SpawnStep) (test : Bool) (a b : SpawnStep) → (test ≡ true → Comes words end a) → (test ≡ false → Comes words end b)
    → Comes words end (if test then a else b)
branch words end true a b when_so when_not = when_so refl
branch words end false a b when_so when_not = when_not refl

-- by the first of several tests, of which the end tells whether all pass
pub first-of : (words : ℕ → ℕ) (test rest : Bool) (fd : ℕ) (last at : SpawnStep) → Comes words (where_holds rest fd last) at
    → Comes words (where_holds (test && rest) fd last) (where_holds test fd at)
first-of words true rest fd last at comes = comes
first-of words false rest fd last at comes = there
