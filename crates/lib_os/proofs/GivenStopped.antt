-- Spawn raises the fault of a byte of what the program gives that its page refuses, and the handler of page faults gets that: the kernel's state goes on standing
-- for the same abstract one, and fewer hidden steps are left.
use Rattle.std.proofs.Common.{◌≡◌, ◌+◌, ◌*◌, ◌<◌, ◌≤◌, ℕ, Bool, true, false, refl, sym, ap, subst, arith, if◌then◌else◌}
use Rattle.std.specs.Prelude.{Some}
use Rattle.std.proofs.lemmas.Bool.{false≢true}
use Rattle.jos_base.specs.declared.memory.Access.TheVariants.{Read}
use Rattle.jos_base.specs.declared.memory.PageFault.{PageFault}
use Rattle.jos_base.specs.KernelState.{KernelState, slot_at}
use Rattle.jos_base.specs.Words.{page_number}
use Rattle.lib_os.specs.declared.place.Place.{Place}
use Rattle.lib_os.specs.declared.place.Step.TheVariants as step
use Rattle.lib_os.specs.declared.service.Service.TheVariants as service
use Rattle.lib_os.specs.declared.spawn_steps.GivenStep.{GivenStep}
use Rattle.lib_os.specs.declared.spawn_steps.GivenStep.TheVariants as given
use Rattle.lib_os.specs.declared.spawn_steps.SpawnStep.TheVariants as spawn
use Rattle.lib_os.specs.AbstractMemory.{page_allows, page_at, page_fault}
use Rattle.lib_os.specs.AbstractState.{AbstractState, Born}
use Rattle.lib_os.specs.InOrder.{IsInOrder}
use Rattle.lib_os.specs.LibrarySteps.{copies_left, copy_steps, given_steps_left, hidden_left, left_at, spawn_counts_copies}
use Rattle.lib_os.specs.Places.{place_of}
use Rattle.lib_os.specs.Rows.{Names, rows_of}
use Rattle.lib_os.specs.StandsFor.{StandsFor, view_of}
use Rattle.lib_os.specs.StandsInHandler.{AreSmall, IsStoppedAt, is_refused_by}
use Rattle.lib_os.specs.UserCalls.{load_byte}
use Rattle.lib_os.proofs.Beneath.{IsStopping}
use Rattle.lib_os.proofs.BufferAccesses.{entry_forbids}
use Rattle.lib_os.proofs.BytesRead.{user_refusal, user_refuses}
use Rattle.lib_os.proofs.BytesRefused.{error_small, handed_over, handing, load_byte_faults, refused_error}
use Rattle.lib_os.proofs.FaultsStand.{fault_stops, stops_lower}
use Rattle.lib_os.proofs.Logical.{is_plain, unborne_plain}
use Rattle.lib_os.proofs.Serving.{IsServed}
use Rattle.lib_os.proofs.SpawnOwnPages.{spawn_there, spawns_at}

-- where it does, pages may be copied behind it
pub copies_behind : (at : GivenStep) → spawn_counts_copies (spawn.Given at) ≡ true → given_steps_left at ≡ 2066
copies_behind (given.AddressFaulting index done) is = refl
copies_behind (given.StringFaulting address done) is = refl
copies_behind _ is = absurd (false≢true is)

module _ {names : Names} {s : KernelState} {a : AbstractState} (h : StandsFor names s a) (n path argv : ℕ) (at : GivenStep)
    (faults : spawn_counts_copies (spawn.Given at) ≡ true) (stands : place_of (slot_at s n) ≡ spawns_at path argv (spawn.Given at)) (va : ℕ)
    (stopping : IsStopping false (view_of s.spaces (slot_at s n).directory) (slot_at s n) (spawn_there h n path argv (spawn.Given at) stands).b va)
    (refuses : is_refused_by false (rows_of s.spaces (slot_at s n).directory (page_number va)) ≡ true) where
  abbrev b : Born
  b = (spawn_there h n path argv (spawn.Given at) stands).b

  abbrev there : Place
  there = spawns_at path argv (spawn.Given at)

  abbrev served_there : IsServed names s a n (service.Spawn path argv) (step.Spawning (spawn.Given at))
  served_there = spawn_there h n path argv (spawn.Given at) stands

  pub plain : is_plain (spawns_at path argv (spawn.Given at)) ≡ true
  plain = unborne_plain there refl refl refl

  abbrev fault : PageFault
  fault = page_fault (page_at b va) va Read

  forbids : page_allows (page_at b va) Read ≡ false
  forbids = entry_forbids h n b served_there.is va stopping.inside false refuses

  abbrev pub given_stopped_after : KernelState
  given_stopped_after =
      handed_over h n (spawn_there h n path argv (spawn.Given at) stands).b (spawn_there h n path argv (spawn.Given at) stands).is
      (spawns_at path argv (spawn.Given at)) stands refl plain refl
      (page_fault (page_at (spawn_there h n path argv (spawn.Given at) stands).b va) va Read)

  pub given_stopped : load_byte s n va ≡ handing given_stopped_after
  given_stopped = load_byte_faults h n b served_there.is there stands refl plain refl fault va (user_refuses names s a n b h served_there.is va stopping.inside Read forbids)

  pub given_stopped_stands : AreSmall (slot_at s n).registers → IsInOrder given_stopped_after → s.last ≡ Some n → StandsFor names given_stopped_after a
  given_stopped_stands small in_order last =
      fault_stops h n b served_there.is there stands refl plain refl fault small stopping.inside (error_small false (page_at b va))
      (user_refusal names s a n b h served_there.is va stopping.inside Read forbids) stopping.eax stopping.program stopping.silent stopping.awake
      (subst (λ (t : Bool). IsStoppedAt t (view_of s.spaces (slot_at s n).directory) b va (slot_at s n).registers.eip)
      (sym (refused_error false (page_at b va))) (stopping.stopped (slot_at s n).registers.eip))
      in_order last

  abbrev waiting : ℕ
  waiting = copies_left (rows_of s.spaces (slot_at s n).directory)

  enough : 2066 + copy_steps * waiting ≤ left_at there waiting
  enough =
      let few = copies_behind at faults in
      let counted = ap (λ (c : Bool). given_steps_left at + (if c then copy_steps * waiting else 0)) faults in
      omega (arith, few, counted)

  pub given_stopped_lowers : hidden_left given_stopped_after n < hidden_left s n
  given_stopped_lowers = stops_lower h n b served_there.is there stands refl plain refl fault enough
