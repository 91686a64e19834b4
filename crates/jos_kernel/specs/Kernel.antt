-- Where a kernel stands in a run, what it keeps, and what its calls have done.
use Rattle.std.specs.Prelude.{◌≡◌, ℕ, ◌+◌, ◌-◌, ◌^◌, ◌<◌, ◌≤◌, Bool, true, List, [], ◌++◌, min, Option}
use Rattle.std.specs.Prelude.{Result, Ok, Err, vec_len, if◌then◌else◌}
use Rattle.std.specs.Option.{ForSome}
use Rattle.jos_host.specs.declared.host.Failed.{Failed}
use Rattle.jos_host.specs.Frames.{Around}
use Rattle.jos_host.specs.Gains.{Gains, GainsPart}
use Rattle.jos_base.specs.declared.numbers.TheConstants.{NENV}
use Rattle.jos_base.specs.KernelState.{KernelState, turn_ended}
use Rattle.circular_buffer.specs.Buffer.{buffer, keep_last}
use Rattle.jos_kernel.specs.declared.book.Book.{Book}
use Rattle.jos_kernel.specs.declared.kernel.Kernel.{Kernel}
use Rattle.jos_kernel.specs.declared.trace.TrapLine.{TrapLine}
use Rattle.jos_kernel.specs.declared.report.End.{End}
use Rattle.jos_kernel.specs.Machine.{kernel_state}
use Rattle.jos_kernel.specs.Books.{noted, made, HasRoom, HasStepsLeft}
use Rattle.jos_kernel.specs.Books as books
use Rattle.jos_kernel.specs.ExoRun.{RunProgress, current_runs, bytes_counted, one_step, run_from}

-- what was told of a run so far: the bytes that it wrote, and the traps that it raised, of which the last so many are kept
pub record ToldSoFar : Type 0 where
  pub console : List ℕ
  pub traps : List TrapLine
  pub kept : ℕ

abbrev pub nothing : ToldSoFar
nothing = record { console = []; traps = []; kept = 0 }

abbrev pub state_of : Kernel → KernelState
state_of kernel = kernel_state kernel.machine

-- where the kernel stands in a run of which this was told
abbrev pub progress_of : Kernel → ToldSoFar → RunProgress
progress_of kernel told = record {
  state = state_of kernel;
  console = told.console;
  steps = kernel.book.steps;
  turns = kernel.book.turns.items;
  made = made kernel.book;
  first_refused = kernel.book.first_refused;
  traps = told.traps;
}

-- the kernel has counted the bytes that were told, and has kept the last of the traps
pub record Counts (kernel : Kernel) (told : ToldSoFar) : Type 0 where
  pub written : kernel.written ≡ bytes_counted told.console
  pub trace : kernel.book.trace ≡ buffer (keep_last told.kept told.traps) told.kept

-- What a kernel keeps between two steps: room for each turn of a run, and one that is under way is that of an
-- environment that is RUNNING, with steps left. All steps are visible.
pub record Holds (kernel : Kernel) : Type 0 where
  pub has_room : HasRoom kernel.book
  pub left : HasStepsLeft kernel.book
  pub visible : kernel.book.hidden ≡ 0
  pub turns : (state_of kernel).turns ≤ vec_len kernel.book.turns + 1
  pub begun : made kernel.book ≡ 0 → (state_of kernel).turns ≤ vec_len kernel.book.turns
  pub running : 0 < made kernel.book → current_runs (state_of kernel) ≡ true
  pub last : ForSome (state_of kernel).last (λ n. n < NENV)

-- ---- steps that were made

-- more was told
abbrev pub and_told : ToldSoFar → List ℕ → List TrapLine → ToldSoFar
and_told told written traps = record told { console = told.console ++ written; traps = traps }

-- The kernel has made so many steps of a run, before none of which an end test held, and has written what they write.
pub record Went (n : ℕ) (kernel : Around Kernel) (console : Around (Option (List ℕ))) : Type 0 where
  pub written : List ℕ
  pub gains : Gains console written
  pub steps : kernel.after.book.steps ≡ kernel.before.book.steps + n
  pub schedule : kernel.after.book.schedule ≡ kernel.before.book.schedule
  pub traps : (told : ToldSoFar) → Counts kernel.before told → List TrapLine
  pub counts : (told : ToldSoFar) (c : Counts kernel.before told) → Counts kernel.after (and_told told written (traps told c))
  pub run : (told : ToldSoFar) (c : Counts kernel.before told) (later : ℕ) →
      run_from kernel.before.book.schedule (n + later) (progress_of kernel.before told)
      ≡ run_from kernel.before.book.schedule later (progress_of kernel.after (and_told told written (traps told c)))

-- The host failed in the middle of what the run writes, with so many steps left.
abbrev pub FailsIn : ℕ → Kernel → Around (Option (List ℕ)) → Type 0
FailsIn left before console =
    (written : List ℕ) × GainsPart console written
    × ((told : ToldSoFar) → Counts before told → (more : List ℕ)
    × ((run_from before.book.schedule left (progress_of before told)).progress.console ≡ (told.console ++ written) ++ more))

-- the next steps, one at least and as many as are left at most
abbrev pub Advances : Result ℕ Failed → ℕ → Around Kernel → Around (Option (List ℕ)) → Type 0
Advances (Ok n) left kernel console = (0 < n) × (n ≤ left) × Went n kernel console
Advances (Err _) left kernel console = FailsIn left kernel.before console

-- one step
abbrev pub StepsOnce : Result (Unit {0}) Failed → Around Kernel → Around (Option (List ℕ)) → Type 0
StepsOnce (Ok _) kernel console =
    (written : List ℕ) × Gains console written
    × ((told : ToldSoFar) → Counts kernel.before told → (traps : List TrapLine)
    × (progress_of kernel.after (and_told told written traps) ≡ one_step kernel.before.book.schedule (progress_of kernel.before told))
    × Counts kernel.after (and_told told written traps))
StepsOnce (Err _) kernel console = FailsIn 1 kernel.before console

-- The run has gone on to its end, and the kernel stands where it ends; or the host failed in the middle of what it
-- writes.
abbrev pub IsRun : Result End Failed → ℕ → Around Kernel → Around (Option (List ℕ)) → Type 0
IsRun (Ok end) left kernel console =
    (written : List ℕ) × Gains console written
    × ((told : ToldSoFar) → Counts kernel.before told → (traps : List TrapLine)
    × (run_from kernel.before.book.schedule left (progress_of kernel.before told)
    ≡ record { end = end; progress = progress_of kernel.after (and_told told written traps) })
    × Counts kernel.after (and_told told written traps))
IsRun (Err _) left kernel console = FailsIn left kernel.before console

-- ---- counting

-- the book, with its first refusal where a step was refused something
abbrev pub noted_in : Kernel → Bool → Book
noted_in kernel refused =
    record kernel.book { first_refused = noted kernel.book.first_refused refused (vec_len kernel.book.turns) kernel.written }

-- whether the turn under way goes on after so many more steps
abbrev pub goes_on_after : Kernel → ℕ → Bool
goes_on_after kernel steps = books.goes_on_in kernel.book steps (current_runs (state_of kernel))

-- Steps of the environment in a slot are counted, and its turn ends where it is over.
pub record Counted (old new : Kernel) (slot steps written : ℕ) (refused : Bool) : Type 0 where
  pub state : state_of new ≡ (if goes_on_after old steps then state_of old else turn_ended (state_of old) slot)
  pub book : books.IsCounted (goes_on_after old steps) (noted_in old refused) new.book slot steps 0
  pub written_is : new.written ≡ min (old.written + written) (2 ^ 64 - 1)
