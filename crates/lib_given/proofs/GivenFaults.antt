-- The law of spawn as it raises the fault of a byte of what the program gives that its page refuses.
use Rattle.std.proofs.Common.{◌≡◌, ◌+◌, ◌*◌, ◌%◌, ◌^◌, ℕ, true, false, refl, sym, ap, subst, arith}
use Rattle.jos_base.specs.Environments.{Slot}
use Rattle.jos_base.specs.KernelState.{KernelState, slot_at}
use Rattle.jos_base.specs.Words.{page_number}
use Rattle.lib_os.specs.declared.service.Service.TheVariants as service
use Rattle.lib_os.specs.declared.spawn_steps.GivenStep.{GivenStep}
use Rattle.lib_os.specs.declared.spawn_steps.GivenStep.TheVariants as given
use Rattle.lib_os.specs.declared.spawn_steps.SpawnStep.TheVariants as spawn
use Rattle.lib_os.specs.AbstractState.{AbstractState, Born}
use Rattle.lib_os.specs.LibraryPages.{View}
use Rattle.lib_os.specs.LibrarySteps.{spawn_counts_copies}
use Rattle.lib_os.specs.Places.{place_of}
use Rattle.lib_os.specs.Rows.{Names}
use Rattle.lib_os.specs.SpawnGiven.{address_place}
use Rattle.lib_os.specs.StandsAtSpawn.{GivenStands}
use Rattle.lib_os.specs.StandsFor.{StandsFor, view_of}
use Rattle.lib_os.specs.StandsInHandler.{AreSmall, is_refused_by}
use Rattle.lib_os.specs.UserCalls.{CallStep}
use Rattle.lib_os.proofs.Beneath.{IsStopping}
use Rattle.lib_os.proofs.GivenStopped.{given_stopped, given_stopped_after, given_stopped_lowers, given_stopped_stands}
use Rattle.lib_os.proofs.SpawnOwnPages.{spawn_there, spawns_at}
use Rattle.lib_os.proofs.SpawnStops.{stops_listing, stops_quoting}
use Rattle.lib_stage.specs.declared.ask.Ask.TheVariants as ask
use Rattle.lib_stage.specs.declared.ask.Next.TheVariants as next
use Rattle.lib_stage.specs.Asks.{performed, told_as}
use Rattle.lib_stage.specs.ServiceSteps.{ServiceHolds}
use Rattle.lib_stage.proofs.Laws.{plainly}
use Rattle.lib_file.proofs.FaultingLaw.{IsHandedOver, handed_holds}
use Rattle.lib_file.proofs.Finds.{staged}
use Rattle.lib_given.specs.Addresses.{address_va}
use Rattle.lib_given.specs.GivenPlan.{giving}
use Rattle.lib_given.specs.Refusals.{at_given}
use Rattle.lib_given.proofs.AddressGoes.{va_is}

-- it stands before such a byte
record StopsAt (v : View) (k : Slot) (b : Born) (va : ℕ) : Type 0 where
  pub stopping : IsStopping false v k b va
  pub refuses : is_refused_by false (v.row (page_number va)) ≡ true

module _ (s : KernelState) (n path argv : ℕ) (small : AreSmall (slot_at s n).registers) where
  module _ (at : GivenStep) (faults : spawn_counts_copies (spawn.Given at) ≡ true) (stands : place_of (slot_at s n) ≡ spawns_at path argv (spawn.Given at))
      (va : ℕ) (stops : (v : View) (k : Slot) (b : Born) → GivenStands v k b path argv at → StopsAt v k b va) where
    given_handed : (names : Names) (a : AbstractState) → StandsFor names s a → IsHandedOver s n names a (performed s n (ask.LoadByte va))
    unfolding performed
    given_handed names a h =
        let there = spawn_there h n path argv (spawn.Given at) stands in
        let it = stops (view_of s.spaces (slot_at s n).directory) (slot_at s n) there.b there.at in
        record {
          after = given_stopped_after h n path argv at faults stands va it.stopping it.refuses;
          is = ap (λ (z : CallStep ℕ). told_as (λ byte. byte) z) (given_stopped h n path argv at faults stands va it.stopping it.refuses);
          stands = given_stopped_stands h n path argv at faults stands va it.stopping it.refuses small;
          lower = given_stopped_lowers h n path argv at faults stands va it.stopping it.refuses;
        }

    given_faulting_holds : ServiceHolds s n (staged (service.Spawn path argv) (ask.LoadByte va) (λ w. next.Gone))
    given_faulting_holds =
        handed_holds s n (service.Spawn path argv) (at_given at) stands refl (ask.LoadByte va) (plainly refl) (omega arith) (λ may. may) given_handed

  -- of an address
  pub address_faulting_holds : (index done : ℕ) → place_of (slot_at s n) ≡ spawns_at path argv (spawn.Given (given.AddressFaulting index done)) →
      ServiceHolds s n (giving (record { argv = argv; at = given.AddressFaulting index done }))
  address_faulting_holds index done stands =
      given_faulting_holds (given.AddressFaulting index done) refl stands (address_va argv index done)
      (λ v k b h.
      let most = h.0.1.most in
      let place : address_va argv index done ≡ address_place argv index done = va_is argv index done (omega (arith, most)) in
      subst (λ (va : ℕ). StopsAt v k b va) (sym place) (record { stopping = stops_listing v k b path argv index done h; refuses = h.1.refused }))

  -- or of a string
  pub string_faulting_holds : (address done : ℕ) → place_of (slot_at s n) ≡ spawns_at path argv (spawn.Given (given.StringFaulting address done)) →
      ServiceHolds s n (giving (record { argv = argv; at = given.StringFaulting address done }))
  string_faulting_holds address done stands =
      given_faulting_holds (given.StringFaulting address done) refl stands ((address + done) % 2 ^ 32)
      (λ v k b h. record { stopping = stops_quoting v k b path argv address done h; refuses = h.1.refused })
