-- A step of a program is one that the library promises.
use Rattle.std.proofs.Common.{◌≡◌, ◌≢◌, ◌∙◌, ◌<◌, ◌==◌, ◌++◌, inl, inr, ℕ, Bool, true, false, List, Option, Some, Result, Ok, Err, refl, sym, ap, subst, arith}
use Rattle.std.proofs.lemmas.Bool.Decides.{nat_tests}
use Rattle.std.proofs.lemmas.Bool.{false≢true}
use Rattle.std.specs.Prelude.{IfOk}
use Rattle.jos_host.specs.declared.host.Failed.{Failed}
use Rattle.jos_base.specs.declared.environment.EnvType.{EnvType}
use Rattle.jos_base.specs.declared.environment.EnvType.TheVariants.{FileServer, User}
use Rattle.jos_base.specs.declared.environment.Status.{Status}
use Rattle.jos_base.specs.declared.environment.Status.TheVariants.{Free, Dying, NotRunnable, Runnable, Running}
use Rattle.jos_base.specs.Environments.{Slot, is_runnable, is_running}
use Rattle.jos_base.specs.KernelState.{KernelState, slot_at}
use Rattle.jos_kernel.specs.declared.trace.TrapLine.{TrapLine}
use Rattle.lib_os.specs.declared.place.Place.{Place}
use Rattle.lib_os.specs.declared.place.Place.TheVariants as place
use Rattle.lib_os.specs.declared.progress.Progress.{Progress}
use Rattle.lib_os.specs.declared.progress.Progress.TheVariants as progress
use Rattle.lib_os.specs.AbstractState.{AbstractState, Born, AbstractSlot, free, unborn, born, serving}
use Rattle.lib_os.specs.Disk.{Disk}
use Rattle.lib_os.specs.InOrder.{IsInOrder}
use Rattle.lib_os.specs.AbstractRun.{abs_step}
use Rattle.lib_os.specs.LibrarySteps.{Stands, GoesOn, HasCounts, HasTurn, IsLibraryStep, Leaves, Lowers, hidden_left}
use Rattle.lib_os.specs.Places.{place_of}
use Rattle.lib_os.specs.Rows.{Names}
use Rattle.lib_os.specs.StandsFor.{StandsFor, StandsForSlot}
use Rattle.lib_os.specs.UserCalls.{Output, Prints, PrintsPart, is_file_server}
use Rattle.jos_run.specs.Guest.{Follows}
use Rattle.jos_run.specs.GuestSteps.{guest_instruction, is_handed_over}
use Rattle.jos_run.specs.ServerStands.{IsWholeStep, WouldFollow}
use Rattle.jos_run.specs.Worlds.{beside}
use Rattle.jos_run.specs.Steps.{is_awake, is_servers, LeavesAs, LeavesByPlace, Raises, RaisesAs}
use Rattle.jos_run.proofs.Choices.{serving_first}
use Rattle.jos_run.proofs.RequestsCalm.{RequestsCalmly}
use Rattle.jos_run.proofs.WholeStands.{KeepsRunning, others_slot, whole_kept}
use Rattle.jos_run.proofs.GuestStands.{IsCopied, SmallAtFault, copying_at, instruction_end, instruction_step}
use Rattle.jos_run.proofs.GuestStands.{guest_copied, guest_goes_on, guest_stands}

-- a status that is another than RUNNABLE
pub not_runnable : (status : Status) → status ≢ Runnable → false ≡ is_runnable status
not_runnable Free other = refl
not_runnable Dying other = refl
not_runnable NotRunnable other = refl
not_runnable Runnable other = absurd (other refl)
not_runnable Running other = refl

-- a type that is another than the file server's
pub not_server : (kind : EnvType) → kind ≢ FileServer → false ≡ is_file_server kind
not_server User other = refl
not_server FileServer other = absurd (other refl)

-- who may have steps, but the file server, is an environment that is born
pub awake_born : (names : Names) (s : KernelState) (a : AbstractState) → StandsFor names s a → (n : ℕ) → n ≢ 0 →
    is_awake (slot_at s n).status ≡ true → (b : Born) × (a.slots n ≡ born b)
awake_born names s a h n other awake = by_slot (a.slots n) refl (h.slots n)
  where
    by_slot : (slot : AbstractSlot) → a.slots n ≡ slot → StandsForSlot names s.spaces (slot_at s n) slot → (b : Born) × (a.slots n ≡ born b)
    by_slot (free id) is k = absurd (false≢true (sym (ap (λ (x : Slot). is_awake x.status) k) ∙ awake))
    by_slot (unborn id parent) is k = absurd (false≢true (sym (ap is_awake k.status) ∙ awake))
    by_slot (born b) is k = (b, is)
    by_slot (serving id) is k = absurd (other (sym (serving_first h n id k)))

-- what a failed call of another leaves
not_first : (n : ℕ) (a : AbstractState) (written : List ℕ) → n ≢ 0 →
    (b : AbstractState) × (abs_step a n ≡ Some b) × (b.console ≡ a.console ++ written) → WouldFollow (n == 0) n a written
not_first n a written other would =
    let test : false ≡ (n == 0) = grind (arith, nat_tests) in subst (λ (t : Bool). WouldFollow t n a written) test would

-- A step of the environment in slot n, which is RUNNING, keeps what the library's steps promise, with what was printed. Where the host failed, what
-- came is a part of what the slot's step prints.
abbrev pub IsRunningStep : Result Progress Failed → ℕ → KernelState → KernelState → Output → Type 0
IsRunningStep (Ok done) n before after output = (written : List ℕ) × Prints output written × KeepsRunning done n before after written
IsRunningStep (Err _) n before after output =
    (written : List ℕ) × PrintsPart output written
    × ((a : AbstractState) → Stands before a → is_running (slot_at before n).status ≡ true →
    (b : AbstractState) × (abs_step a n ≡ Some b) × (b.console ≡ a.console ++ written))

-- Who is RUNNING has the turn.
has_turn : {names : Names} {s : KernelState} {a : AbstractState} → StandsFor names s a → (n : ℕ) → HasCounts s n →
    is_running (slot_at s n).status ≡ true → HasTurn s n
has_turn h n words runs = record { last = h.tabled.running n runs; running = runs; words = words }

-- So a step of the library is one.
pub running_step : (s after : KernelState) (n : ℕ) (output : Output) → HasCounts s n → (did : Result Progress Failed) →
    IsLibraryStep did n s after output → IsRunningStep did n s after output
running_step s after n output words (Ok done) h = (h.0, h.1, λ a stands runs quiet. h.2 a stands (has_turn stands.1 n words runs) quiet)
running_step s after n output words (Err failed) h = (h.0, h.1, λ a stands runs. h.2 a stands (has_turn stands.1 n words runs))

-- A step of another than the file server that keeps what the library's steps promise keeps the whole, where it leaves the others what they have, and
-- spaces as a request leaves them.
pub whole_step : (disk : Option Disk) (s after : KernelState) (n : ℕ) (output : Output) → is_servers s n ≡ false →
    is_awake (slot_at s n).status ≡ true → (did : Result Progress Failed) → Leaves did n s after → IfOk did (λ done. RequestsCalmly n s after) →
    IsRunningStep did n s after output → IsWholeStep did n (beside s disk) (beside after disk) output
whole_step disk s after n output user awake (Ok done) left calm h = (
  h.0,
  h.1,
  whole_kept disk n s after done h.0 user awake (λ names a stands other. awake_born names s a stands n other awake) left calm h.2,
)
whole_step disk s after n output user awake (Err failed) left calm h = (
  h.0,
  h.1,
  λ a stands may. let other = others_slot stands.0.1 n user in not_first n a h.0 other (h.2 a stands.0 (may other)),
)

module _ (s after : KernelState) (n : ℕ) (output : Output) (user : is_servers s n ≡ false) (awake : is_awake (slot_at s n).status ≡ true)
    (is_guest : place_of (slot_at s n) ≡ place.Guest) (small : SmallAtFault (slot_at s n).registers (instruction_step s n).event)
    (order : IsInOrder after) where
  -- ---- one that is seen

  goes_on : copying_at s n ≡ false → (trap : Option TrapLine) → Follows (Ok trap) (guest_instruction s n) after output → (a : AbstractState) →
      Stands s a → is_running (slot_at s n).status ≡ true → GoesOn n after a (guest_instruction s n).written
  goes_on seen trap told a h runs =
      let b = awake_born h.0 s a h.1 n (others_slot h.1 n user) awake in
      subst (λ (t : KernelState). GoesOn n t a (guest_instruction s n).written) (sym told.0)
      (guest_goes_on h.0 s a n b.0 h.1 b.1 is_guest small (h.1.tabled.running n runs) seen (subst IsInOrder told.0 order))

  pub program_goes_on : copying_at s n ≡ false → (trap : Option TrapLine) → Follows (Ok trap) (guest_instruction s n) after output →
      IsRunningStep (Ok progress.Visible) n s after output
  program_goes_on seen trap told = ((guest_instruction s n).written, told.2, λ a h runs quiet. goes_on seen trap told a h runs)

  pub program_ends : copying_at s n ≡ false → (trap : Option TrapLine) → Follows (Ok trap) (guest_instruction s n) after output →
      IsRunningStep (Ok progress.Ended) n s after output
  program_ends seen trap told = ((guest_instruction s n).written, told.2, λ a h runs quiet. goes_on seen trap told a h runs)

  -- ---- one that a page to be copied has stopped

  copied : copying_at s n ≡ true → (a : AbstractState) (h : Stands s a) → s.last ≡ Some n → IsCopied h.0 s a n
  copied is a h last =
      let b = awake_born h.0 s a h.1 n (others_slot h.1 n user) awake in guest_copied h.0 s a n b.0 h.1 b.1 is_guest small last is

  pub program_copies : copying_at s n ≡ true → (trap : Option TrapLine) → Follows (Ok trap) (guest_instruction s n) after output →
      IsRunningStep (Ok progress.Hidden) n s after output
  program_copies is trap told = (
    (guest_instruction s n).written,
    told.2,
    λ a h runs quiet.
        let c = copied is a h (h.1.tabled.running n runs) in
        (c.written, (h.0, subst (λ (t : KernelState). StandsFor h.0 t a) (sym told.0) (c.stands (subst IsInOrder told.0 order)))),
  )

  pub program_lowers : copying_at s n ≡ true → (trap : Option TrapLine) → Follows (Ok trap) (guest_instruction s n) after output →
      Lowers (Ok progress.Hidden) n s after
  program_lowers is trap told =
      λ a h turn quiet. inl (subst (λ (t : KernelState). hidden_left t n < hidden_left s n) (sym told.0) (copied is a h turn.last).lowers)

  -- ---- one in which the host failed

  pub program_fails : (failed : Failed) → Follows (Err failed) (guest_instruction s n) after output →
      is_handed_over (instruction_end s n) n (instruction_step s n).event ≡ false → IsRunningStep (Err failed) n s after output
  program_fails failed told ended = ((guest_instruction s n).written, told, λ a h runs. by_step a h (h.1.tabled.running n runs))
    where
      by_step : (a : AbstractState) → Stands s a → s.last ≡ Some n →
          (b : AbstractState) × (abs_step a n ≡ Some b) × (b.console ≡ a.console ++ (guest_instruction s n).written)
      by_step a h last =
          let b = awake_born h.0 s a h.1 n (others_slot h.1 n user) awake in
          elim (guest_stands h.0 s a n b.0 h.1 b.1 is_guest small last) [
            | inl seen ↦ (seen.next, seen.step_is, seen.console)
            | inr copied ↦ absurd (false≢true (sym ended ∙ copied.handed_over))
          ]

-- ---- traps

-- Another than the file server raises a trap by where it stands.
pub raises_as : (is : Bool) (s after : KernelState) (n : ℕ) (trap : Option TrapLine) → is ≡ false → Raises (place_of (slot_at s n)) n s trap after →
    RaisesAs is n s trap after
raises_as true s after n trap is h = absurd (let contradiction : true ≡ false = is in cc)
raises_as false s after n trap is h = h

-- and leaves what it leaves by its place
pub leaves_as : (is : Bool) (over : Option Disk) (did : Result Progress Failed) (s after : KernelState) (n : ℕ) → is ≡ false →
    LeavesByPlace did n s after → LeavesAs is over did n s after
leaves_as true over did s after n is h = absurd (let contradiction : true ≡ false = is in cc)
leaves_as false over did s after n is h = h

-- A program raises the trap of its instruction.
pub guest_raises : (s after : KernelState) (n : ℕ) (trap : Option TrapLine) → place_of (slot_at s n) ≡ place.Guest →
    after ≡ (guest_instruction s n).state → trap ≡ (guest_instruction s n).trap → Raises (place_of (slot_at s n)) n s trap after
guest_raises s after n trap is_guest state_is trap_is =
    subst (λ (p : Place). Raises p n s trap after) (sym is_guest) (state_is, trap_is)
