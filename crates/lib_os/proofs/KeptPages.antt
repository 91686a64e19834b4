-- The pages that spawn keeps beside that at UTEMP: they lie beside all others, and which of them are its child's already is told by a step
-- at which it has a child.
use Rattle.std.proofs.Common.{◌≡◌, ◌≢◌, ◌∙◌, ◌==◌, ◌&&◌, ◌||◌, ℕ, Bool, true, false, List, refl, sym, ap, subst, arith, None}
use Rattle.std.proofs.lemmas.Bool.{false≢true}
use Rattle.std.proofs.lemmas.Bool.Decides.{nat_tests}
use Rattle.std.proofs.lemmas.Option.{none-some}
use Rattle.jos_base.specs.declared.numbers.TheConstants.{UTEMP}
use Rattle.jos_base.specs.Words.{page_number}
use Rattle.lib_os.specs.declared.numbers.TheConstants.{PFTEMP, SPAWN_GIVEN, SPAWN_HERE, SPAWN_STACK, UXSTACK}
use Rattle.lib_os.specs.declared.place.Place.{Place}
use Rattle.lib_os.specs.declared.place.Place.TheVariants as place
use Rattle.lib_os.specs.declared.place.Step.{Step}
use Rattle.lib_os.specs.declared.place.Step.TheVariants as step
use Rattle.lib_os.specs.declared.service.Service.TheVariants as service
use Rattle.lib_os.specs.declared.spawn_steps.BearingStep.{BearingStep}
use Rattle.lib_os.specs.declared.spawn_steps.BearingStep.TheVariants as bearing
use Rattle.lib_os.specs.declared.spawn_steps.FinishingStep.TheVariants as finishing
use Rattle.lib_os.specs.declared.spawn_steps.SpawnStep.{SpawnStep}
use Rattle.lib_os.specs.declared.spawn_steps.SpawnStep.TheVariants as spawn
use Rattle.lib_os.specs.Fence.{in_fence}
use Rattle.lib_os.specs.LibraryPages.{are_spawns, has_spawns, spawn_keeps}
use Rattle.lib_os.specs.Places.{step_in}
use Rattle.lib_os.specs.Rows.{is_of_descriptor, is_programs}
use Rattle.lib_os.specs.SpawnedChild.{bearing_child, spawning_child}
use Rattle.lib_os.specs.SpawnPages.{fills_page, has_given_stack, is_childs, keeps_given, keeps_here, keeps_page_at, keeps_stack}

-- ---- their numbers

abbrev pub is_spawns : ℕ → Bool
is_spawns p = (p == page_number SPAWN_GIVEN) || (p == page_number SPAWN_STACK) || (p == page_number SPAWN_HERE)

pub record LiesAside (p : ℕ) : Type 0 where
  pub outside : is_programs p ≡ false
  pub no_descriptor : is_of_descriptor p ≡ false
  pub no_stack : p ≢ page_number UXSTACK
  pub no_copy : p ≢ page_number PFTEMP
  pub no_working : p ≢ page_number UTEMP

pub number_aside : (p : ℕ) → is_spawns p ≡ true → LiesAside p
unfolding in_fence
number_aside p is = by_tests (p == page_number SPAWN_GIVEN) refl (p == page_number SPAWN_STACK) refl (p == page_number SPAWN_HERE) refl is
  where
    given_beside : LiesAside (page_number SPAWN_GIVEN)
    given_beside = record {
      outside = refl;
      no_descriptor = refl;
      no_stack = λ same. omega (arith, same);
      no_copy = λ same. omega (arith, same);
      no_working = λ same. omega (arith, same);
    }

    stack_beside : LiesAside (page_number SPAWN_STACK)
    stack_beside = record {
      outside = refl;
      no_descriptor = refl;
      no_stack = λ same. omega (arith, same);
      no_copy = λ same. omega (arith, same);
      no_working = λ same. omega (arith, same);
    }

    here_beside : LiesAside (page_number SPAWN_HERE)
    here_beside = record {
      outside = refl;
      no_descriptor = refl;
      no_stack = λ same. omega (arith, same);
      no_copy = λ same. omega (arith, same);
      no_working = λ same. omega (arith, same);
    }

    by_tests : (c : Bool) → (p == page_number SPAWN_GIVEN) ≡ c → (d : Bool) → (p == page_number SPAWN_STACK) ≡ d → (e : Bool) →
        (p == page_number SPAWN_HERE) ≡ e → c || d || e ≡ true → LiesAside p
    by_tests true on d stack e here some =
        let same : page_number SPAWN_GIVEN ≡ p = grind (arith, nat_tests, on) in subst (λ (q : ℕ). LiesAside q) same given_beside
    by_tests false off true on e here some =
        let same : page_number SPAWN_STACK ≡ p = grind (arith, nat_tests, on) in subst (λ (q : ℕ). LiesAside q) same stack_beside
    by_tests false off false none true on some =
        let same : page_number SPAWN_HERE ≡ p = grind (arith, nat_tests, on) in subst (λ (q : ℕ). LiesAside q) same here_beside
    by_tests false off false none false not_here some = absurd (false≢true some)

-- none of them is a program's, or a descriptor's
pub programs_no_spawns : (p : ℕ) → is_programs p ≡ true → is_spawns p ≡ false
programs_no_spawns p inside = by_test (is_spawns p) refl
  where
    by_test : (c : Bool) → is_spawns p ≡ c → c ≡ false
    by_test false is = refl
    by_test true is = absurd (let contradiction : true ≡ false = sym inside ∙ (number_aside p is).outside in cc)

pub descriptor_no_spawns : (p : ℕ) → is_of_descriptor p ≡ true → is_spawns p ≡ false
descriptor_no_spawns p descriptor = by_test (is_spawns p) refl
  where
    by_test : (c : Bool) → is_spawns p ≡ c → c ≡ false
    by_test false is = refl
    by_test true is = absurd (let contradiction : true ≡ false = sym descriptor ∙ (number_aside p is).no_descriptor in cc)

-- ---- those that it keeps

second_of : (c d : Bool) → (c && d) ≡ true → d ≡ true
second_of true d is = is
second_of false d is = absurd (false≢true is)

one_of : (a b c d e f : Bool) → ((a && d) || (b && e) || (c && f)) ≡ true → (a || b || c) ≡ true
one_of true b c d e f is = refl
one_of false true c d e f is = refl
one_of false false true d e f is = refl
one_of false false false d e f is = is

last_of : (a b c d e : Bool) → ((c && d) || (b && e)) ≡ true → (a || b || c) ≡ true
last_of true b c d e is = refl
last_of false true c d e is = refl
last_of false false true d e is = refl
last_of false false false d e is = is

kept_so : (at : Step) (p : ℕ) → spawn_keeps at p ≡ true → is_spawns p ≡ true
kept_so (step.Spawning at) p is =
    one_of (p == page_number SPAWN_GIVEN) (p == page_number SPAWN_STACK) (p == page_number SPAWN_HERE) (keeps_given at) (keeps_stack at) (keeps_here at) is
kept_so _ p is = absurd (false≢true is)

pub has_spawns_so : (at : Place) (words : List ℕ) (p : ℕ) → has_spawns at words p ≡ true → is_spawns p ≡ true
has_spawns_so (place.InService (service.Spawn path argv) at) words p is = kept_so at p is
has_spawns_so (place.InHandler at) words p is = kept_so (step_in words) p (second_of (are_spawns words) (spawn_keeps (step_in words) p) is)
has_spawns_so _ words p is = absurd (false≢true is)

pub spawns_aside : (at : Place) (words : List ℕ) (p : ℕ) → has_spawns at words p ≡ true → LiesAside p
spawns_aside at words p is = number_aside p (has_spawns_so at words p is)

-- ---- those that are its child's

pub childs_spawns : (at : SpawnStep) (p : ℕ) → is_childs at p ≡ true → is_spawns p ≡ true
childs_spawns at p is =
    last_of (p == page_number SPAWN_GIVEN) (p == page_number SPAWN_STACK) (p == page_number SPAWN_HERE) (keeps_here at) (has_given_stack at) is

pub beside_childs : (at : SpawnStep) (p : ℕ) → is_spawns p ≡ false → is_childs at p ≡ false
beside_childs at p none = by_test (is_childs at p) refl
  where
    by_test : (c : Bool) → is_childs at p ≡ c → c ≡ false
    by_test false is = refl
    by_test true is = absurd (false≢true (sym none ∙ childs_spawns at p is))

-- it keeps them
stack_kept : (at : SpawnStep) → has_given_stack at ≡ true → keeps_stack at ≡ true
stack_kept (spawn.Finishing (finishing.ReleasingStack fd child)) has = refl
stack_kept _ has = absurd (false≢true has)

pub childs_kept : (at : SpawnStep) (p : ℕ) → is_childs at p ≡ true → keeps_page_at at p ≡ true
childs_kept at p is =
    by_tests (p == page_number SPAWN_GIVEN) (p == page_number SPAWN_STACK) (p == page_number SPAWN_HERE) (keeps_given at) (keeps_here at) (keeps_stack at)
    (has_given_stack at) (stack_kept at) is
  where
    or_last : (t u : Bool) → u ≡ true → t || u ≡ true
    or_last true u is = refl
    or_last false u is = is

    by_tests : (a b c d e f g : Bool) → (g ≡ true → f ≡ true) → (c && e) || (b && g) ≡ true → (a && d) || (b && f) || (c && e) ≡ true
    by_tests a b true d true f g so is = or_last ((a && d) || (b && f)) true refl
    by_tests a true true d false f true so is =
        ap (λ (t : Bool). ((a && d) || t) || false) (so refl) ∙ ap (λ (t : Bool). t || false) (or_last (a && d) true refl)
    by_tests a true false d e f true so is =
        ap (λ (t : Bool). ((a && d) || t) || false) (so refl) ∙ ap (λ (t : Bool). t || false) (or_last (a && d) true refl)
    by_tests a true true d false f false so is = absurd (false≢true is)
    by_tests a true false d e f false so is = absurd (false≢true is)
    by_tests a false true d false f g so is = absurd (false≢true is)
    by_tests a false false d e f g so is = absurd (false≢true is)

bearing_unborne : (at : BearingStep) → bearing_child at ≡ None → fills_page at ≡ false
bearing_unborne (bearing.MakingChild esp fd entry_point headers) none = refl
bearing_unborne (bearing.StoringRegister esp fd entry_point headers child index) none = absurd (none-some child (sym none))
bearing_unborne (bearing.SettingRegisters fd headers child) none = absurd (none-some child (sym none))
bearing_unborne (bearing.PlacingKind fd headers child header) none = absurd (none-some child (sym none))
bearing_unborne (bearing.PlacingMemory fd headers child header) none = absurd (none-some child (sym none))
bearing_unborne (bearing.PlacingAddress fd headers child header memory) none = absurd (none-some child (sym none))
bearing_unborne (bearing.PlacingPage fd headers child header page last) none = absurd (none-some child (sym none))
bearing_unborne (bearing.PieceKind fd headers child header) none = absurd (none-some child (sym none))
bearing_unborne (bearing.PieceMemory fd headers child header) none = absurd (none-some child (sym none))
bearing_unborne (bearing.PieceLength fd headers child header done) none = absurd (none-some child (sym none))
bearing_unborne (bearing.PieceOffset fd headers child header done end) none = absurd (none-some child (sym none))
bearing_unborne (bearing.PieceAddress fd headers child header done end) none = absurd (none-some child (sym none))
bearing_unborne (bearing.MappingHere fd headers child header va done end) none = absurd (none-some child (sym none))
bearing_unborne (bearing.PieceLoading fd headers child header va done end) none = absurd (none-some child (sym none))
bearing_unborne (bearing.PieceRest fd headers child header va done end first) none = absurd (none-some child (sym none))
bearing_unborne (bearing.PiecePutting fd headers child header va done end word) none = absurd (none-some child (sym none))
bearing_unborne (bearing.UnmappingHere fd headers child header end) none = absurd (none-some child (sym none))

-- without a child it has none of its pages
none_here : (at : SpawnStep) → spawning_child at ≡ None → (keeps_here at ≡ false) × (has_given_stack at ≡ false)
none_here (spawn.Bearing at) none = (bearing_unborne at none, refl)
none_here (spawn.Finishing at) none = absurd (none-some _ (sym none))
none_here _ none = (refl, refl)

none_of : (a b c d : Bool) → b ≡ false → d ≡ false → ((a && b) || (c && d)) ≡ false
none_of true false true false none off = refl
none_of true false false false none off = refl
none_of false false true false none off = refl
none_of false false false false none off = refl
none_of a true c d none off = absurd (false≢true (sym none))
none_of a b c true none off = absurd (false≢true (sym off))

pub unborne_childs : (at : SpawnStep) → spawning_child at ≡ None → (p : ℕ) → is_childs at p ≡ false
unborne_childs at none p =
    let off = none_here at none in
    none_of (p == page_number SPAWN_HERE) (keeps_here at) (p == page_number SPAWN_STACK) (has_given_stack at) off.0 off.1
