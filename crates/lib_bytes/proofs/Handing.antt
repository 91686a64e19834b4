-- The services to which the file server hands bytes back: none of their steps but one gives up a turn, how many bytes they put at once, and
-- where these lie.
use Rattle.std.proofs.Common.{◌≡◌, ◌∙◌, ◌%◌, ◌^◌, ◌==◌, ◌&&◌, ◌≤◌, ℕ, Bool, true, false, refl, ap, arith, if◌then◌else◌}
use Rattle.std.specs.Prelude.{nat_le}
use Rattle.std.proofs.lemmas.Bool.{false≢true}
use Rattle.std.proofs.lemmas.Bool.Decides.{nat_tests}
use Rattle.jos_base.specs.KernelState.{KernelState}
use Rattle.jos_base.specs.Words.{page_number}
use Rattle.lib_os.specs.declared.place.Place.TheVariants as place
use Rattle.lib_os.specs.declared.place.Step.{Step}
use Rattle.lib_os.specs.declared.service.Service.{Service}
use Rattle.lib_os.specs.declared.service.Service.TheVariants as service
use Rattle.lib_os.specs.AbstractState.{AbstractState}
use Rattle.lib_os.specs.Answers.{moved_at_once}
use Rattle.lib_os.specs.Fence.{is_inside}
use Rattle.lib_os.specs.LibrarySteps.{Stands, is_pausing}
use Rattle.lib_os.specs.Rows.{is_of_descriptor}
use Rattle.lib_os.specs.StandsInHandler.{hands_back}
use Rattle.lib_os.proofs.Fences.{inside_below}
use Rattle.lib_os.proofs.Logical.{inside_programs, programs_no_descriptor}
use Rattle.lib_os.proofs.RequestPages.{asks_with_page}
use Rattle.lib_os.proofs.ServerLeft.{aligned_beside}
use Rattle.lib_stage.specs.declared.ask.Ask.TheVariants as ask
use Rattle.lib_stage.proofs.Laws.{IsPlain, store_aside}
use Rattle.lib_file.proofs.Finds.{pauses}
use Rattle.lib_request.proofs.PageAsks.{steady}

-- they ask with a page
handing_asks : (call : Service) → hands_back call ≡ true → asks_with_page call ≡ true
handing_asks (service.Read fd va len) hands = refl
handing_asks (service.Stat fd va) hands = refl
handing_asks _ hands = absurd (false≢true hands)

pub handing_steady : (call : Service) → hands_back call ≡ true → (at : Step) → pauses at ≡ false → is_pausing (place.InService call at) ≡ false
handing_steady call hands at none = steady call (handing_asks call hands) at none

-- how many are put at once depends on the last bits of the address alone
pub moved_same : (va wanted : ℕ) → moved_at_once (va % 2 ^ 32) wanted ≡ moved_at_once va wanted
moved_same va wanted =
    let last : va % 2 ^ 32 % 4 ≡ va % 4 = omega arith in
    ap (λ (r : ℕ). if (r == 0) && nat_le 4 wanted then 4 else 1) last

-- so many
abbrev moves : Bool → ℕ
moves whole = if whole then 4 else 1

-- four, where there are four, or one
pub moved_few : (va wanted : ℕ) → moved_at_once va wanted ≡ 4 → 4 ≤ wanted
moved_few va wanted four = by_tests (va % 4 == 0) (nat_le 4 wanted) refl four
  where
    by_tests : (aligned many : Bool) → nat_le 4 wanted ≡ many → moves (aligned && many) ≡ 4 → 4 ≤ wanted
    by_tests true true is so = grind (arith, nat_tests, is)
    by_tests true false is so = absurd (omega (arith, so))
    by_tests false many is so = absurd (omega (arith, so))

pub moved_one : (va wanted : ℕ) → (moved_at_once va wanted == 4) ≡ false → moved_at_once va wanted ≡ 1
moved_one va wanted = by_test ((va % 4 == 0) && nat_le 4 wanted)
  where
    by_test : (t : Bool) → (moves t == 4) ≡ false → moves t ≡ 1
    by_test true off = absurd (let contradiction : true ≡ false = off in cc)
    by_test false off = refl

pub moved_aligned : (va wanted : ℕ) → (moved_at_once va wanted == 4) ≡ true → va % 4 ≡ 0
moved_aligned va wanted = by_tests (va % 4 == 0) refl (nat_le 4 wanted)
  where
    by_tests : (aligned : Bool) → (va % 4 == 0) ≡ aligned → (many : Bool) → (moves (aligned && many) == 4) ≡ true → va % 4 ≡ 0
    by_tests true is many four = grind (arith, nat_tests, is)
    by_tests false is many four = absurd (let contradiction : false ≡ true = four in cc)

-- ---- what they put lies on no page of a descriptor's

-- a byte that a program may touch does not
pub inside_aside : (va : ℕ) → is_inside va ≡ true → is_of_descriptor (page_number (va % 2 ^ 32)) ≡ false
inside_aside va inside =
    let below = inside_below va inside in
    let same : va % 2 ^ 32 ≡ va = omega (arith, below) in
    ap (λ (x : ℕ). is_of_descriptor (page_number x)) same ∙ programs_no_descriptor (page_number va) (inside_programs va inside)

-- nor does a word, where four bytes are put at once
pub word_aside : (s : KernelState) (n va wanted word : ℕ) → (moved_at_once va wanted == 4) ≡ true →
    ((a : AbstractState) → Stands s a → is_of_descriptor (page_number va) ≡ false) → IsPlain s n (ask.Store va word)
word_aside s n va wanted word four aside = store_aside s n va word (λ a h. aligned_beside va (moved_aligned va wanted four) (aside a h))
