-- The words that INT 0x40 leaves tell which service was asked for, and that nothing of it is done, where ESP lies on no stack of the
-- handler of page faults.
use Rattle.std.proofs.Common.{◌≡◌, ◌∙◌, ◌<◌, ◌≤◌, Bool, true, false, List, ℕ, refl, ap, arith}
use Rattle.std.specs.Prelude.{min, nat_lt}
use Rattle.std.proofs.lemmas.Bool.Decides.{nat_tests}
use Rattle.jos_base.specs.declared.registers.Regs.{Regs}
use Rattle.lib_os.specs.declared.numbers.TheConstants.{SERVICES}
use Rattle.lib_os.specs.declared.place.Place.TheVariants as place
use Rattle.lib_os.specs.declared.place.Step.TheVariants as step
use Rattle.lib_os.specs.declared.service.Service.{Service}
use Rattle.lib_os.specs.declared.service.Service.TheVariants as service
use Rattle.lib_os.specs.Places.{place_in_words, is_handlers, words_entered}
use Rattle.lib_os.specs.Services.{is_built, service_of}
use Rattle.lib_os.proofs.Logical.{is_plain}
use Rattle.lib_os.proofs.WordsTell.{place_at}
use Rattle.lib_os.proofs.Serving.{kept_where, pages_kept}

-- numbers that name no service are kept as one
number_kept : (regs : Regs) → service_of (record regs { eax = min regs.eax SERVICES }) ≡ service_of regs
unfolding service_of
number_kept regs = by_number (nat_lt regs.eax SERVICES) refl
  where
    by_number : (c : Bool) → nat_lt regs.eax SERVICES ≡ c → service_of (record regs { eax = min regs.eax SERVICES }) ≡ service_of regs
    by_number true small =
        let below : regs.eax < SERVICES = grind (arith, nat_tests) in
        let same : min regs.eax SERVICES ≡ regs.eax = omega arith in
        ap (λ (n : ℕ). service_of (record regs { eax = n })) same
    by_number false large =
        let above : SERVICES ≤ regs.eax = grind (arith, nat_tests) in
        let same : min regs.eax SERVICES ≡ SERVICES = omega arith in
        let unbuilt : is_built regs.eax ≡ false = grind (arith, nat_tests) in
        rw (same, unbuilt) refl

pub place_entered : (regs : Regs) → is_handlers regs.esp ≡ false →
    place_in_words regs (words_entered regs) ≡ place.InService (service_of regs) step.Entered
place_entered regs outside =
    place_at regs (min regs.eax SERVICES) step.Entered outside ∙ ap (λ (s : Service). place.InService s step.Entered) (number_kept regs)

-- nobody is borne where a service is entered
pub entered_plain : (s : Service) → is_plain (place.InService s step.Entered) ≡ true
entered_plain service.Fork = refl
entered_plain service.Pipe = refl
entered_plain _ = refl

-- nor are there pages in which a service keeps bytes
pub entered_holds : (s : Service) (words : List ℕ) → pages_kept (place.InService s step.Entered) words ≡ kept_where false
entered_holds (service.Write fd va len) words = refl
entered_holds (service.Remove path) words = refl
entered_holds _ words = refl
