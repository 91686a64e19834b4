-- A file that is made and then written from its beginning.
use mathlib.Core.Logic.{inl, inr}
use Rattle.std.proofs.Common.{◌≡◌, ℕ, ◌+◌, Bool, true, false, List, [], ◌++◌, length, Option, Some, None, Result, Ok}
use Rattle.std.proofs.Common.{Err, refl, sym, ap, ◌∙◌, subst, cond, append-nil, arith}
use Rattle.std.specs.Prelude.{unwrap_or, OnOk}
use Rattle.std.specs.Str.{bytes_eq}
use Rattle.std.proofs.lemmas.Slice.Eq.{bytes_eq-Decides}
use Rattle.std.proofs.lemmas.List.{drop_all}
use Rattle.jos_host.specs.Files.{Files, with_bytes, bytes_of, overwritten}
use Rattle.jos_host.specs.Told.{Creates, WritesAt}
use Rattle.jos_cli.specs.declared.outcome.Outcome.{Outcome}
use Rattle.jos_cli.specs.declared.outcome.Outcome.TheVariants as outcome
use Rattle.jos_kernel.specs.declared.report.Stopped.{Stopped}
use Rattle.jos_host.specs.Frames.{Around, from_to}
use Rattle.jos_words.specs.Commands.{Command, Mkfs, Gen, exo, run, demo, mkfs, ls, cat, gen}
use Rattle.jos_cli.specs.Commands.{program_file}
use Rattle.jos_cli.specs.declared.outcome.Which.{Which}
use Rattle.jos_cli.specs.Limits.{limit_of_seed}
use Rattle.jos_cli.specs.Making.{disk_in, work_disk}
use Rattle.jos_run.specs.DiskTouches.{KeepsFiles}
use Rattle.jos_cli.specs.FilesLeft.{KeepsOthers, told_with, told_with_disk, LeavesBy, LeavesBlocks, LeavesMadeAndRun, LeavesWorkBy}
use Rattle.jos_cli.specs.FilesLeft.{LeavesFiles, LeavesAtNoMemory, LeavesGoodDisk}

pub itself : (name : List ℕ) → bytes_eq name name ≡ true
itself name = (bytes_eq-Decides name name).1 refl

from_nothing : (old bytes : List ℕ) → old ≡ [] → overwritten old 0 bytes ≡ bytes
from_nothing old bytes e = ap (λ l. overwritten l 0 bytes) e ∙ ap (λ l. bytes ++ l) (drop_all (0 + length bytes) [] (omega arith)) ∙ append-nil bytes

with_twice : (files : Files) (name bytes : List ℕ) → with_bytes (with_bytes files name []) name (overwritten (bytes_of (with_bytes files name []) name) 0 bytes) ≡ with_bytes files name bytes
with_twice files name bytes =
    let empty : bytes_of (with_bytes files name []) name ≡ [] = ap (λ b. unwrap_or (cond b (Some []) (files name)) []) (itself name) in
    let is : overwritten (bytes_of (with_bytes files name []) name) 0 bytes ≡ bytes = from_nothing _ bytes empty in
    λ i q. go (bytes_eq q name) q is i
  where
    go : (b : Bool) (q : List ℕ) {new : List ℕ} → new ≡ bytes → cond b (Some new) (cond b (Some []) (files q)) ≡ cond b (Some bytes) (files q)
    go true q e = ap (λ l. Some l) e
    go false q e = refl

pub file_written : {E : Type 0} (old mid new : Option Files) (name bytes : List ℕ) (result : Result (Unit {0}) E) (u : Unit {0}) → Creates {E = E} old name (Ok u) mid → WritesAt mid name 0 bytes result new
    → OnOk result (new ≡ told_with old name bytes)
file_written {E = E} None mid new name bytes (Ok v) u c w = subst (λ (m : Option Files). WritesAt {E = E} m name 0 bytes (Ok v) new) c w
file_written {E = E} (Some files) mid new name bytes (Ok v) u c w =
    subst (λ (m : Option Files). WritesAt {E = E} m name 0 bytes (Ok v) new) c w ∙ ap (λ f. Some f) (with_twice files name bytes)
file_written old mid new name bytes (Err e) u c w = tt

-- ---- what is left where the note could not be written

pub keeps_all : (old new : Option Files) (name : List ℕ) → new ≡ old → KeepsOthers name (from_to old new)
keeps_all None new name e = e
keeps_all (Some files) new name e = (files, e, λ q apart. refl)

-- under every other name the same stands
elsewhere : (files : Files) (name bytes q : List ℕ) → (q ≡ name → ⊥) → with_bytes files name bytes q ≡ files q
elsewhere files name bytes q apart = go (bytes_eq q name) refl
  where
    go : (b : Bool) → bytes_eq q name ≡ b → cond b (Some bytes) (files q) ≡ files q
    go true e = absurd (apart ((bytes_eq-Decides q name).0 e))
    go false e = refl

keeps_others : (old new : Option Files) (name bytes : List ℕ) → new ≡ told_with old name bytes → KeepsOthers name (from_to old new)
keeps_others None new name bytes e = e
keeps_others (Some files) new name bytes e = (with_bytes files name bytes, e, λ q apart. elsewhere files name bytes q apart)

disk_others : (old new : Option Files) (m : Mkfs) → new ≡ told_with_disk old m → KeepsOthers m.disk.text (from_to old new)
disk_others None new m e = e
disk_others (Some files) new m e = keeps_others (Some files) new m.disk.text (disk_in files m) e

-- what is left where one was made, and where a call of the host failed then
module _ (old new : Option Files) (name : List ℕ) (made : Option Files) (others : new ≡ made → KeepsOthers name (from_to old new)) where
  by_fault : (result : Outcome) → LeavesBy name made result (from_to old new) → KeepsOthers name (from_to old new)
  by_fault (outcome.Made bytes) h = others h
  by_fault (outcome.HostFault stopped) h = h
  by_fault (outcome.Ran report trace) h = keeps_all old new name h
  by_fault outcome.Usage h = keeps_all old new name h
  by_fault (outcome.Absent word) h = keeps_all old new name h
  by_fault (outcome.Limit which) h = keeps_all old new name h
  by_fault (outcome.BadImage word fault) h = keeps_all old new name h
  by_fault outcome.NoMemory h = keeps_all old new name h
  by_fault (outcome.BadSchedule fault) h = keeps_all old new name h
  by_fault (outcome.BadDisk fault) h = keeps_all old new name h
  by_fault (outcome.NotThere errno) h = keeps_all old new name h
  by_fault (outcome.BadMake fault) h = keeps_all old new name h

-- ---- the disk of a run

pub keeps_disk : (name : List ℕ) (old new : Option Files) → new ≡ old → KeepsFiles name old new
keeps_disk name None new e = e
keeps_disk name (Some files) new e = (files, e, (λ q apart. refl), refl)

-- no block was moved
pub no_blocks : (name : List ℕ) (old new : Option Files) (result : Outcome) → new ≡ old → LeavesBlocks name result (from_to old new)
no_blocks name old new (outcome.Ran report trace) e = keeps_disk name old new e
no_blocks name old new (outcome.HostFault stopped) e = keeps_disk name old new e
no_blocks name old new outcome.Usage e = e
no_blocks name old new (outcome.Absent word) e = e
no_blocks name old new (outcome.Limit which) e = e
no_blocks name old new (outcome.BadImage word fault) e = e
no_blocks name old new outcome.NoMemory e = e
no_blocks name old new (outcome.BadSchedule fault) e = e
no_blocks name old new (outcome.Made bytes) e = e
no_blocks name old new (outcome.BadDisk fault) e = e
no_blocks name old new (outcome.NotThere errno) e = e
no_blocks name old new (outcome.BadMake fault) e = e

blocks_kept : (name : List ℕ) (old new : Option Files) (result : Outcome) → LeavesBlocks name result (from_to old new) → KeepsFiles name old new
blocks_kept name old new (outcome.Ran report trace) h = h
blocks_kept name old new (outcome.HostFault stopped) h = h
blocks_kept name old new outcome.Usage h = keeps_disk name old new h
blocks_kept name old new (outcome.Absent word) h = keeps_disk name old new h
blocks_kept name old new (outcome.Limit which) h = keeps_disk name old new h
blocks_kept name old new (outcome.BadImage word fault) h = keeps_disk name old new h
blocks_kept name old new outcome.NoMemory h = keeps_disk name old new h
blocks_kept name old new (outcome.BadSchedule fault) h = keeps_disk name old new h
blocks_kept name old new (outcome.Made bytes) h = keeps_disk name old new h
blocks_kept name old new (outcome.BadDisk fault) h = keeps_disk name old new h
blocks_kept name old new (outcome.NotThere errno) h = keeps_disk name old new h
blocks_kept name old new (outcome.BadMake fault) h = keeps_disk name old new h

-- ---- the disk that is made and then run

-- the run moved blocks of it
moved_others : (name bytes : List ℕ) (old new : Option Files) → KeepsFiles name (told_with old name bytes) new → KeepsOthers name (from_to old new)
moved_others name bytes None new h = h
moved_others name bytes (Some files) new h = (h.0, h.1, λ q apart. h.2 q apart ∙ elsewhere files name bytes q apart)

module _ (name bytes : List ℕ) (old new : Option Files) where
  -- what a run of it leaves
  pub made_and_run : (result : Outcome) → LeavesBlocks name result (from_to (told_with old name bytes) new) →
      LeavesMadeAndRun name (told_with old name bytes) result (from_to old new)
  made_and_run (outcome.HostFault stopped) h = moved_others name bytes old new h
  made_and_run outcome.NoMemory h = inr h
  made_and_run (outcome.Ran report trace) h = h
  made_and_run outcome.Usage h = h
  made_and_run (outcome.Absent word) h = h
  made_and_run (outcome.Limit which) h = h
  made_and_run (outcome.BadImage word fault) h = h
  made_and_run (outcome.BadSchedule fault) h = h
  made_and_run (outcome.Made count) h = h
  made_and_run (outcome.BadDisk fault) h = h
  made_and_run (outcome.NotThere errno) h = h
  made_and_run (outcome.BadMake fault) h = h

  run_others : (result : Outcome) → LeavesMadeAndRun name (told_with old name bytes) result (from_to old new) → KeepsOthers name (from_to old new)
  run_others (outcome.HostFault stopped) h = h
  run_others outcome.NoMemory (inl h) = keeps_all old new name h
  run_others outcome.NoMemory (inr h) = keeps_others old new name bytes h
  run_others (outcome.Ran report trace) h = moved_others name bytes old new h
  run_others outcome.Usage h = keeps_others old new name bytes h
  run_others (outcome.Absent word) h = keeps_others old new name bytes h
  run_others (outcome.Limit which) h = keeps_others old new name bytes h
  run_others (outcome.BadImage word fault) h = keeps_others old new name bytes h
  run_others (outcome.BadSchedule fault) h = keeps_others old new name bytes h
  run_others (outcome.Made count) h = keeps_others old new name bytes h
  run_others (outcome.BadDisk fault) h = keeps_others old new name bytes h
  run_others (outcome.NotThere errno) h = keeps_others old new name bytes h
  run_others (outcome.BadMake fault) h = keeps_others old new name bytes h

work_fault : (passed : Option Which) (g : Gen) (old new later : Option Files) (result : Outcome) (stopped : Stopped) → LeavesWorkBy passed g result (from_to old new) →
    later ≡ new → LeavesWorkBy passed g (outcome.HostFault stopped) (from_to old later)
work_fault (Some which) g old new later result stopped h same = same ∙ h
work_fault None g old new later result stopped h same =
    subst (λ (f : Option Files). KeepsOthers g.disk.text (from_to old f)) (sym same) (run_others g.disk.text (work_disk g.seed.value) old new result h)

-- none was made
work_kept : (passed : Option Which) (g : Gen) (told : Option Files) → LeavesWorkBy passed g outcome.NoMemory (from_to told told)
work_kept (Some which) g told = refl
work_kept None g told = inl refl

-- ---- all commands

pub leaves_fault : (old new later : Option Files) (command : Option Command) (result : Outcome) (stopped : Stopped) → LeavesFiles command result (from_to old new) → later ≡ new →
    LeavesFiles command (outcome.HostFault stopped) (from_to old later)
leaves_fault old new later None result stopped h same = same ∙ h
leaves_fault old new later (Some (exo e)) result stopped h same = same ∙ h
leaves_fault old new later (Some (run r)) result stopped h same =
    subst (λ (f : Option Files). KeepsFiles r.disk.text old f) (sym same) (blocks_kept r.disk.text old new result h)
leaves_fault old new later (Some (demo d)) result stopped h same =
    let file = d.file.text in let bytes = program_file d.name.text in
    subst (λ (f : Option Files). KeepsOthers file (from_to old f)) (sym same)
    (by_fault old new file (told_with old file bytes) (keeps_others old new file bytes) result h)
leaves_fault old new later (Some (mkfs m)) result stopped h same =
    subst (λ (f : Option Files). KeepsOthers m.disk.text (from_to old f)) (sym same)
    (by_fault old new m.disk.text (told_with_disk old m) (disk_others old new m) result h)
leaves_fault old new later (Some (ls l)) result stopped h same = same ∙ h
leaves_fault old new later (Some (cat c)) result stopped h same = same ∙ h
leaves_fault old new later (Some (gen g)) result stopped h same = work_fault (limit_of_seed g.seed) g old new later result stopped h same

-- where there was no memory
leaves_no_memory : (command : Option Command) (told : Around (Option Files)) → LeavesFiles command outcome.NoMemory told → LeavesAtNoMemory command told
leaves_no_memory None told h = h
leaves_no_memory (Some (exo e)) told h = h
leaves_no_memory (Some (run r)) told h = h
leaves_no_memory (Some (demo d)) told h = h
leaves_no_memory (Some (mkfs m)) told h = h
leaves_no_memory (Some (ls l)) told h = h
leaves_no_memory (Some (cat c)) told h = h
leaves_no_memory (Some (gen g)) told h = h

pub leaves_at_no_memory : (command : Option Command) (old new later : Option Files) → LeavesFiles command outcome.NoMemory (from_to old new) → later ≡ new →
    LeavesAtNoMemory command (from_to old later)
leaves_at_no_memory command old new later h same =
    subst (λ (f : Option Files). LeavesAtNoMemory command (from_to old f)) (sym same) (leaves_no_memory command (from_to old new) h)

pub keeps_files : (command : Option Command) (told : Option Files) → LeavesFiles command outcome.NoMemory (from_to told told)
keeps_files None told = refl
keeps_files (Some (exo e)) told = refl
keeps_files (Some (run r)) told = refl
keeps_files (Some (demo d)) told = refl
keeps_files (Some (mkfs m)) told = refl
keeps_files (Some (ls l)) told = refl
keeps_files (Some (cat c)) told = refl
keeps_files (Some (gen g)) told = work_kept (limit_of_seed g.seed) g told

pub no_disk : (command : Option Command) (told : Around (Option Files)) → LeavesGoodDisk command outcome.NoMemory told
no_disk None told = tt
no_disk (Some (exo e)) told = tt
no_disk (Some (run r)) told = tt
no_disk (Some (demo d)) told = tt
no_disk (Some (mkfs m)) told = tt
no_disk (Some (ls l)) told = tt
no_disk (Some (cat c)) told = tt
no_disk (Some (gen g)) told = tt

-- a failed call of the host tells of no disk
pub no_good_disk : (command : Option Command) (stopped : Stopped) (told : Around (Option Files)) → LeavesGoodDisk command (outcome.HostFault stopped) told
no_good_disk None stopped told = tt
no_good_disk (Some (exo e)) stopped told = tt
no_good_disk (Some (run r)) stopped told = tt
no_good_disk (Some (demo d)) stopped told = tt
no_good_disk (Some (mkfs m)) stopped told = tt
no_good_disk (Some (ls l)) stopped told = tt
no_good_disk (Some (cat c)) stopped told = tt
no_good_disk (Some (gen g)) stopped told = tt
