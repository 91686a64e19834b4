-- What is left of the input.
use Rattle.std.proofs.Common.{◌≡◌, ◌≢◌, ℕ, ◌+◌, List, [], length, drop, Option, Some, None, Result, Ok, Err, subst, refl, sym, ap, ◌∙◌, arith}
use Rattle.std.proofs.lemmas.List.{drop_all}
use Rattle.std.specs.Option.{option_map}
use Rattle.jos_host.specs.Frames.{from_to}
use Rattle.jos_base.specs.declared.numbers.TheConstants.{INPUT_MAX}
use Rattle.jos_words.specs.Commands.{Command, exo, run, demo, mkfs, ls, cat, gen}
use Rattle.jos_kernel.specs.declared.kernel.BootFault.{BootFault}
use Rattle.jos_kernel.specs.declared.kernel.BootFault.TheVariants as boot_fault
use Rattle.jos_kernel.specs.declared.report.Stopped.{Stopped}
use Rattle.fs_image.specs.Answers.{fault_of}
use Rattle.jos_run.specs.declared.programs.RunEnd.{RunEnd}
use Rattle.jos_run.specs.declared.programs.RunEnd.TheVariants as end
use Rattle.jos_cli.specs.declared.outcome.Which.{Which}
use Rattle.jos_cli.specs.declared.outcome.Which.TheVariants as which
use Rattle.jos_cli.specs.declared.outcome.Outcome.{Outcome}
use Rattle.jos_cli.specs.declared.outcome.Outcome.TheVariants as outcome
use Rattle.jos_cli.specs.Answer.{Answer, usage, absent, limit, bad_schedule, bad_image, ran, made, bad_disk, not_there, bad_make}
use Rattle.jos_cli.specs.Kinds.{Kind, answered, cut_off, no_memory, kind_of}
use Rattle.jos_cli.specs.Outcomes.{left_by, LeavesInputBy, LeavesInput, IsMemoryCase}
use Rattle.jos_cli.specs.InputTaken.{HasLost}
use Rattle.jos_cli.specs.Stages.{outcome_of_run, IsOfWords, IsUnread, IsUnreadOnDisk}

-- all was taken
pub some_left : (old new : Option (List ℕ)) → new ≡ option_map (λ bytes. []) old → HasLost old new
some_left None new e = (0, e)
some_left (Some bytes) new e = (length bytes, e ∙ ap (λ l. Some l) (sym (drop_all (length bytes) bytes (omega arith))))

-- nothing was taken
pub none_left : (old new : Option (List ℕ)) → new ≡ old → HasLost old new
none_left None new e = (0, e)
none_left (Some bytes) new e = (0, e)

-- the answer keeps the input
kept : (answer : Answer) (old new : Option (List ℕ)) → new ≡ old → ((input : List ℕ) → left_by answer input ≡ input) → LeavesInputBy (answered answer) (from_to old new)
kept answer None new e keeps = e
kept answer (Some input) new e keeps = e ∙ ap (λ l. Some l) (sym (keeps input))

-- a run was booted, or not
pub left_ran : (run : Result RunEnd BootFault) (old new : Option (List ℕ)) → new ≡ option_map (λ bytes. []) old → LeavesInputBy (kind_of (outcome_of_run run)) (from_to old new)
left_ran (Ok (end.Ended report trace)) old new e = e
left_ran (Ok (end.HostFault stopped)) old new e = some_left old new e
left_ran (Err boot_fault.Pool) old new e = e
left_ran (Err boot_fault.NoMemory) old new e = some_left old new e

pub ran_no_usage : (run : Result RunEnd BootFault) → outcome_of_run run ≢ outcome.Usage
ran_no_usage (Ok (end.Ended report trace)) e = cc
ran_no_usage (Ok (end.HostFault stopped)) e = cc
ran_no_usage (Err boot_fault.Pool) e = cc
ran_no_usage (Err boot_fault.NoMemory) e = cc

-- where a file was not read
pub left_unread : (o : Outcome) (old new : Option (List ℕ)) → IsUnread o → new ≡ old → LeavesInputBy (kind_of o) (from_to old new)
left_unread (outcome.Ran report trace) old new h e = absurd h
left_unread outcome.Usage old new h e = absurd h
left_unread (outcome.Absent word) old new h e = kept (absent word) old new e (λ input. refl)
left_unread (outcome.Limit which.Frames) old new h e = absurd h
left_unread (outcome.Limit which.Steps) old new h e = absurd h
left_unread (outcome.Limit which.Trace) old new h e = absurd h
left_unread (outcome.Limit which.Images) old new h e = absurd h
left_unread (outcome.Limit which.Schedule) old new h e = kept (limit which.Schedule) old new e (λ input. refl)
left_unread (outcome.Limit which.Image) old new h e = kept (limit which.Image) old new e (λ input. refl)
left_unread (outcome.Limit which.Input) old new h e = absurd h
left_unread (outcome.Limit which.Boot) old new h e = absurd h
left_unread (outcome.Limit which.Blocks) old new h e = absurd h
left_unread (outcome.Limit which.Args) old new h e = absurd h
left_unread (outcome.Limit which.Seed) old new h e = absurd h
left_unread (outcome.Limit which.File) old new h e = kept (limit which.File) old new e (λ input. refl)
left_unread (outcome.BadSchedule fault) old new h e = kept (bad_schedule fault) old new e (λ input. refl)
left_unread (outcome.BadImage word fault) old new h e = kept (bad_image word fault) old new e (λ input. refl)
left_unread (outcome.HostFault stopped) old new h e = none_left old new e
left_unread outcome.NoMemory old new h e = none_left old new e
left_unread (outcome.Made bytes) old new h e = absurd h
left_unread (outcome.BadDisk fault) old new h e = absurd h
left_unread (outcome.NotThere errno) old new h e = absurd h
left_unread (outcome.BadMake fault) old new h e = absurd h

-- where a disk was not read
pub left_unread_on_disk : (o : Outcome) (old new : Option (List ℕ)) → IsUnreadOnDisk o → new ≡ old → LeavesInputBy (kind_of o) (from_to old new)
left_unread_on_disk (outcome.Absent word) old new h e = kept (absent word) old new e (λ input. refl)
left_unread_on_disk (outcome.BadDisk fault) old new h e = kept (bad_disk (fault_of fault)) old new e (λ input. refl)
left_unread_on_disk (outcome.NotThere errno) old new h e = kept (not_there errno) old new e (λ input. refl)
left_unread_on_disk (outcome.BadImage word fault) old new h e = kept (bad_image word fault) old new e (λ input. refl)
left_unread_on_disk (outcome.HostFault stopped) old new h e = none_left old new e
left_unread_on_disk outcome.NoMemory old new h e = none_left old new e
left_unread_on_disk (outcome.Ran report trace) old new h e = absurd h
left_unread_on_disk outcome.Usage old new h e = absurd h
left_unread_on_disk (outcome.Limit which) old new h e = absurd h
left_unread_on_disk (outcome.BadSchedule fault) old new h e = absurd h
left_unread_on_disk (outcome.Made bytes) old new h e = absurd h
left_unread_on_disk (outcome.BadMake fault) old new h e = absurd h

pub unread_on_disk_no_usage : (o : Outcome) → IsUnreadOnDisk o → o ≢ outcome.Usage
unread_on_disk_no_usage o h e = subst IsUnreadOnDisk e h

pub unread_no_usage : (o : Outcome) → IsUnread o → o ≢ outcome.Usage
unread_no_usage o h e = subst IsUnread e h

-- where the words pass a limit
pub left_words : (which : Which) (old new : Option (List ℕ)) → IsOfWords which → new ≡ old → LeavesInputBy (answered (limit which)) (from_to old new)
left_words which.Frames old new h e = kept (limit which.Frames) old new e (λ input. refl)
left_words which.Steps old new h e = kept (limit which.Steps) old new e (λ input. refl)
left_words which.Trace old new h e = kept (limit which.Trace) old new e (λ input. refl)
left_words which.Images old new h e = kept (limit which.Images) old new e (λ input. refl)
left_words which.Args old new h e = kept (limit which.Args) old new e (λ input. refl)
left_words which.Schedule old new h e = absurd h
left_words which.Image old new h e = absurd h
left_words which.Input old new h e = absurd h
left_words which.Boot old new h e = absurd h
left_words which.Blocks old new h e = absurd h
left_words which.File old new h e = absurd h
left_words which.Seed old new h e = absurd h

pub left_seed : (old new : Option (List ℕ)) → new ≡ old → LeavesInputBy (answered (limit which.Seed)) (from_to old new)
left_seed old new e = kept (limit which.Seed) old new e (λ input. refl)

-- ---- what is left where the note could not be written

left_is : (answer : Answer) (input : List ℕ) → (n : ℕ) × (left_by answer input ≡ drop n input)
left_is (ran report trace) input = (length input, sym (drop_all (length input) input (omega arith)))
left_is usage input = (0, refl)
left_is (absent word) input = (0, refl)
left_is (limit which.Frames) input = (0, refl)
left_is (limit which.Steps) input = (0, refl)
left_is (limit which.Trace) input = (0, refl)
left_is (limit which.Images) input = (0, refl)
left_is (limit which.Schedule) input = (0, refl)
left_is (limit which.Image) input = (0, refl)
left_is (limit which.Input) input = (INPUT_MAX + 1, refl)
left_is (limit which.Boot) input = (length input, sym (drop_all (length input) input (omega arith)))
left_is (limit which.Blocks) input = (0, refl)
left_is (limit which.File) input = (0, refl)
left_is (limit which.Args) input = (0, refl)
left_is (limit which.Seed) input = (0, refl)
left_is (bad_schedule fault) input = (0, refl)
left_is (bad_image word fault) input = (0, refl)
left_is (made bytes) input = (0, refl)
left_is (bad_disk fault) input = (0, refl)
left_is (not_there errno) input = (0, refl)
left_is (bad_make fault) input = (0, refl)

left_part : (kind : Kind) (old new : Option (List ℕ)) → LeavesInputBy kind (from_to old new) → HasLost old new
left_part (answered answer) None new h = (0, h)
left_part (answered answer) (Some input) new h = let is = left_is answer input in (is.0, h ∙ ap (λ l. Some l) is.1)
left_part (cut_off stopped) old new h = h
left_part no_memory old new h = h

pub left_fault : (command : Option Command) (own : Outcome) (stopped : Stopped) (old new later : Option (List ℕ)) → LeavesInput command own (from_to old new) → later ≡ new →
    LeavesInput command (outcome.HostFault stopped) (from_to old later)
left_fault None own stopped old new later h same = same ∙ h
left_fault (Some (demo d)) own stopped old new later h same = same ∙ h
left_fault (Some (mkfs m)) own stopped old new later h same = same ∙ h
left_fault (Some (ls l)) own stopped old new later h same = same ∙ h
left_fault (Some (cat c)) own stopped old new later h same = same ∙ h
left_fault (Some (exo e)) own stopped old new later h same = let part = left_part (kind_of own) old new h in (part.0, same ∙ part.1)
left_fault (Some (run r)) own stopped old new later h same = let part = left_part (kind_of own) old new h in (part.0, same ∙ part.1)
left_fault (Some (gen g)) own stopped old new later h same = let part = left_part (kind_of own) old new h in (part.0, same ∙ part.1)

-- where there was no memory for the words
left_memory : (own : Outcome) (old new : Option (List ℕ)) → IsMemoryCase own → new ≡ old → LeavesInputBy (kind_of own) (from_to old new)
left_memory outcome.NoMemory old new h same = none_left old new same
left_memory (outcome.HostFault stopped) old new h same = none_left old new same
left_memory (outcome.Made bytes) old new h same = absurd h
left_memory (outcome.Ran report trace) old new h same = absurd h
left_memory outcome.Usage old new h same = absurd h
left_memory (outcome.Absent word) old new h same = absurd h
left_memory (outcome.Limit which) old new h same = absurd h
left_memory (outcome.BadImage word fault) old new h same = absurd h
left_memory (outcome.BadSchedule fault) old new h same = absurd h
left_memory (outcome.BadDisk fault) old new h same = absurd h
left_memory (outcome.NotThere errno) old new h same = absurd h
left_memory (outcome.BadMake fault) old new h same = absurd h

pub left_no_memory : (command : Option Command) (own : Outcome) (old new : Option (List ℕ)) → IsMemoryCase own → new ≡ old → LeavesInput command own (from_to old new)
left_no_memory None own old new h same = same
left_no_memory (Some (demo d)) own old new h same = same
left_no_memory (Some (mkfs m)) own old new h same = same
left_no_memory (Some (ls l)) own old new h same = same
left_no_memory (Some (cat c)) own old new h same = same
left_no_memory (Some (exo e)) own old new h same = left_memory own old new h same
left_no_memory (Some (run r)) own old new h same = left_memory own old new h same
left_no_memory (Some (gen g)) own old new h same = left_memory own old new h same
