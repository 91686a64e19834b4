-- What a step leaves, by the call that it makes and what follows it: an answer, words that tell how far it is, or nothing.
use Rattle.std.proofs.Common.{◌≡◌, ◌∙◌, ℕ, true, false, List, Ok, refl, sym, subst}
use Rattle.jos_base.specs.declared.registers.Regs.{Regs}
use Rattle.jos_base.specs.Environments.{Slot, is_live, no_extra}
use Rattle.jos_base.specs.KernelState.{KernelState, slot_at, with_slot_at, with_extra}
use Rattle.lib_os.specs.declared.progress.Progress.{Progress}
use Rattle.lib_os.specs.AbstractState.{AbstractState}
use Rattle.lib_os.specs.LibrarySteps.{KeepsServer, KeepsUses, Leaves, Stands, gone_back, service_answered}
use Rattle.lib_os.specs.UserCalls.{system}
use Rattle.lib_os.proofs.UsesCalled.{system_found}
use Rattle.lib_os.proofs.Leaving.{Left, put_left, system_left, wakes, running_calm}
use Rattle.lib_os.proofs.NumbersKept.{KeepsCopies, KeepsOthers, copies_kept, numbers_kept, places_kept, working_kept}
use Rattle.lib_os.proofs.OthersCopies.{maps_no_copy, plain_wait}
use Rattle.lib_os.proofs.OthersKept.{own_stay, system_stay, sets_others}
use Rattle.lib_os.proofs.ServerLeft.{own_server, sends_aside, system_server}
use Rattle.lib_os.proofs.StatesStand.{slot_was_in_order}

-- Behind a call in which the environment did not wake itself: one that is in its turn, and waits for nothing, is not RUNNABLE. Each
-- other one stands where it stood, no more of its pages wait to be copied, and the one is the same in which its services keep what they move.
pub record Behind (s : KernelState) (n : ℕ) (mid : KernelState) : Type 0 where
  pub left : Left ((slot_at s n).rendezvous.receiving ≡ false) s n mid
  pub used : KeepsUses n s mid
  pub others : KeepsOthers n s mid
  pub copies : KeepsCopies n s mid
  pub server : KeepsServer n s mid

pub behind : (s : KernelState) (n number : ℕ) (args : List ℕ) → wakes number ≡ false →
    KeepsOthers n s (system s n number args).state → KeepsCopies n s (system s n number args).state →
    KeepsServer n s (system s n number args).state → Behind s n (system s n number args).state
behind s n number args asleep others copies server =
    let h = system_left s n number args in record {
      left = record { rest = h.rest; calm = λ silent calm. h.calm (silent, asleep) calm };
      used = λ in_order live each. system_found s n number args in_order live each;
      others = others;
      copies = copies;
      server = server;
    }

-- Wherever the state stands for an abstract one, it sends nothing to the file server.
abbrev pub SendsAside : KernelState → ℕ → List ℕ → Type 0
SendsAside s number args = (a : AbstractState) → Stands s a → sends_aside number args ≡ true

pub behind_calm : (s : KernelState) (n number : ℕ) (args : List ℕ) → wakes number ≡ false → sets_others number ≡ false →
    KeepsCopies n s (system s n number args).state → SendsAside s number args → Behind s n (system s n number args).state
behind_calm s n number args asleep calm copies aside =
    behind s n number args asleep (λ before after live a h. system_stay s n number args calm) copies (system_server s n number args calm aside)

pub behind_plain : (s : KernelState) (n number : ℕ) (args : List ℕ) → wakes number ≡ false → sets_others number ≡ false →
    maps_no_copy number args ≡ true → SendsAside s number args → Behind s n (system s n number args).state
behind_plain s n number args asleep calm plain aside =
    behind_calm s n number args asleep calm (copies_kept s (system s n number args).state n (plain_wait s n number args plain)) aside

-- its own slot is changed in what tells neither whether it is there, nor whether it may run, nor its space
pub behind_own : (s : KernelState) (n : ℕ) (mid : KernelState) (slot : Slot) → slot.status ≡ (slot_at mid n).status →
    slot.directory ≡ (slot_at mid n).directory → Behind s n mid → Behind s n (with_slot_at mid n slot)
behind_own s n mid slot status directory h = record {
  left = put_left _ s n mid h.left n slot status;
  used = h.used;
  others = λ before after live a stands.
      own_stay s n mid (h.others before (slot_was_in_order mid n slot (λ i. is_live (record slot { status = status i })) directory after) live a stands) slot;
  copies = h.copies;
  server = own_server s n mid slot status directory h.server;
}

-- ---- what follows it

-- nothing
pub stays : (s after : KernelState) (n : ℕ) (done : Progress) → Behind s n after → Leaves (Ok done) n s after
stays s after n done h = record {
  rest = h.left.rest;
  turn = λ a stands running silent runs. absurd (
      let contradiction : true ≡ false = sym runs ∙ h.left.calm silent (running_calm (slot_at s n).status running) in cc
      );
  uses = h.used;
  places = places_kept s after n h.others;
  numbers = numbers_kept s after n h.others h.copies;
  working = working_kept s after n h.others h.copies;
  server = h.server;
}

-- registers and no words, or an answer
pub goes_back : (s mid after : KernelState) (n : ℕ) (regs : Regs) (done : Progress) → Behind s n mid → after ≡ gone_back mid n regs →
    Leaves (Ok done) n s after
goes_back s mid after n regs done h is =
    subst (λ (t : KernelState). Leaves (Ok done) n s t) (sym is)
    (stays s (gone_back mid n regs) n done (behind_own s n mid (record (slot_at mid n) { registers = regs; extra = no_extra }) refl refl h))

pub answers : (s mid after : KernelState) (n word : ℕ) (done : Progress) → Behind s n mid → after ≡ service_answered mid n word →
    Leaves (Ok done) n s after
answers s mid after n word done h is = goes_back s mid after n (record (slot_at mid n).registers { eax = word }) done h is

-- words
pub goes_on : (s mid after : KernelState) (n : ℕ) (words : List ℕ) (done : Progress) → Behind s n mid → after ≡ with_extra mid n words →
    Leaves (Ok done) n s after
goes_on s mid after n words done h is =
    subst (λ (t : KernelState). Leaves (Ok done) n s t) (sym is)
    (stays s (with_extra mid n words) n done (behind_own s n mid (record (slot_at mid n) { extra = words }) refl refl h))
