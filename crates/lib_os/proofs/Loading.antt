-- What a load leaves: nothing that is seen of the environment changes. And what a step comes to that loaded in vain.
use Rattle.std.proofs.Common.{◌≡◌, ◌∙◌, ℕ, true, List, [], Option, Some, None, Result, Ok, Err, arith, refl, sym, ap, subst}
use Rattle.jos_base.specs.declared.memory.Access.TheVariants.{Read}
use Rattle.jos_base.specs.declared.memory.PageFault.{PageFault}
use Rattle.jos_base.specs.Environments.{is_live}
use Rattle.jos_base.specs.KernelState.{KernelState, slot_at, with_spaces}
use Rattle.jos_base.specs.Reach.{FrameOffset}
use Rattle.jos_base.specs.SystemCalls.{handled}
use Rattle.jos_base.specs.UserMemory.{reach_in, touched}
use Rattle.jos_host.specs.declared.host.Failed.{Failed}
use Rattle.jos_host.specs.Frames.{Around}
use Rattle.jos_host.specs.Told.{HasCause}
use Rattle.lib_os.specs.declared.progress.Progress.{Progress}
use Rattle.lib_os.specs.declared.user_os.Stop.{Stop}
use Rattle.lib_os.specs.declared.user_os.Stop.TheVariants as stop
use Rattle.lib_os.specs.AbstractState.{AbstractState}
use Rattle.lib_os.specs.InOrder.{IsInOrder}
use Rattle.lib_os.specs.LibrarySteps.{IsStopped}
use Rattle.lib_os.specs.Rows.{Names}
use Rattle.lib_os.specs.StandsFor.{StandsFor}
use Rattle.lib_os.specs.UserCalls.{CallStep, Got, got, to_handler, gone, giving, accessing, faulting, user_word, load, IsStep, HasStopCause, Output, Prints}
use Rattle.lib_os.proofs.StatesStand.{quiet_stands}
use Rattle.lib_os.proofs.Touching.{touched_quiet}
use Rattle.lib_os.proofs.WindowWords.{read_at}

-- the state after a load at an address
abbrev pub loaded : KernelState → ℕ → ℕ → KernelState
loaded s n va = with_spaces s (touched s.spaces (slot_at s n).directory va Read)

load_got : (s : KernelState) (n va word : ℕ) → (load s n va).gives ≡ got word → ((load s n va).state ≡ loaded s n va) × ((load s n va).written ≡ [])
unfolding load
load_got s n va word is = by_reach (reach_in s.spaces (slot_at s n).directory va Read) is
  where
    by_handler : (fault : PageFault) (o : Option KernelState) → (faulting {X = ℕ} s n fault o).gives ≡ got word →
        ((faulting {X = ℕ} s n fault o).state ≡ loaded s n va) × ((faulting {X = ℕ} s n fault o).written ≡ [])
    by_handler fault (Some after) e = absurd (let contradiction : to_handler ≡ got word = e in cc)
    by_handler fault None e = absurd (let contradiction : gone ≡ got word = e in cc)

    by_reach : (r : Result FrameOffset PageFault) →
        (accessing s n va Read (λ after. giving after (user_word after n va)) r).gives ≡ got word →
        ((accessing s n va Read (λ after. giving after (user_word after n va)) r).state ≡ loaded s n va)
        × ((accessing s n va Read (λ after. giving after (user_word after n va)) r).written ≡ [])
    by_reach (Ok location) e = (refl, refl)
    by_reach (Err fault) e = by_handler fault (handled s n fault) e

module _ (s mid : KernelState) (n va word : ℕ) (output : Output) (call : IsStep (load s n va) (Ok word) mid output) where
  pub loaded_state : mid ≡ loaded s n va
  loaded_state = call.1 ∙ (load_got s n va word call.0).0

  pub loaded_quiet : Prints output []
  loaded_quiet = subst (λ (written : List ℕ). Prints output written) (load_got s n va word call.0).1 call.2

  pub loader_lives : is_live (slot_at s n) ≡ true → (m : ℕ) → m ≡ n → is_live (slot_at mid m) ≡ true
  loader_lives live m same = (λ i. is_live (slot_at (loaded_state i) (same i))) ∙ live

  pub loader_keeps : (slot_at mid n).registers ≡ (slot_at s n).registers
  loader_keeps = λ i. (slot_at (loaded_state i) n).registers

  pub loaded_stands : {names : Names} {a : AbstractState} → StandsFor names s a → IsInOrder mid → StandsFor names (loaded s n va) a
  loaded_stands h in_order =
      quiet_stands h (touched_quiet s.spaces (slot_at s n).directory va Read) (subst (λ (t : KernelState). IsInOrder t) loaded_state in_order)

  pub loaded_word : (w : ℕ) → load s n va ≡ read_at s n va w → word ≡ w
  loaded_word w is =
      let same : got w ≡ got word = sym (ap (λ (z : CallStep ℕ). z.gives) is) ∙ call.0 in
      let it : ◌≡◌ {A = ℕ} word w = cc in it

-- ---- a load in vain

-- the word that a load gives wherever the state stands for an abstract one
pub record GivesWord (s : KernelState) (n va : ℕ) : Type 0 where
  pub word : ℕ
  pub is : load s n va ≡ read_at s n va word

not_got : (w : ℕ) (g : Got ℕ) → g ≡ got w → (g ≡ to_handler → ⊥) × (g ≡ gone → ⊥)
not_got w g is = (
  λ other. absurd (let contradiction : to_handler ≡ got w = sym other ∙ is in cc),
  λ other. absurd (let contradiction : gone ≡ got w = sym other ∙ is in cc),
)

pub stopped_cause : (e : Stop) (result : Result Progress Failed) (faults : Around ℕ) → IsStopped e result →
    HasStopCause {X = ℕ} faults (Err e) → HasCause faults.before faults.after result
stopped_cause stop.Failed (Err failed) faults is cause = record { later = cause.0; rose = cause.1; stayed = tt }
stopped_cause stop.Failed (Ok p) faults is cause = absurd is
stopped_cause stop.Upcall (Err failed) faults is cause = absurd is
stopped_cause stop.Upcall (Ok p) faults is cause = record { later = omega arith; rose = tt; stayed = cause }
stopped_cause stop.Ended (Err failed) faults is cause = absurd is
stopped_cause stop.Ended (Ok p) faults is cause = record { later = omega arith; rose = tt; stayed = cause }
