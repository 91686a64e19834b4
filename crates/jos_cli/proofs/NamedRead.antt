-- Files that are read one after another, of which a disk is made.
use Rattle.std.proofs.Common.{◌≡◌, ◌≢◌, ℕ, nat_lt, Bool, true, false, cond, List, [], ◌∷◌, length, map, Option, Some, None, Ok, Err}
use Rattle.std.proofs.Common.{refl, sym, ap, subst, ◌∙◌}
use Rattle.std.specs.Prelude.{unwrap_or}
use Rattle.jos_host.specs.Files.{Files, with_bytes}
use Rattle.jos_host.specs.MemHost.{Named}
use Rattle.jos_host.specs.Frames.{Around, from_to}
use Rattle.jos_host.specs.declared.host.Host.{Ghosts}
use Rattle.jos_base.specs.declared.numbers.TheConstants.{FILE_MAX}
use Rattle.jos_base.specs.Words.{◌>>=◌}
use Rattle.jos_words.specs.Arguments.{Word}
use Rattle.jos_words.specs.Commands.{Mkfs, mkfs}
use Rattle.fs_make.specs.MadeImage.{made_image}
use Rattle.jos_cli.specs.declared.outcome.Which.{Which}
use Rattle.jos_cli.specs.declared.outcome.Which.TheVariants.{File}
use Rattle.jos_cli.specs.declared.outcome.Outcome.{Outcome}
use Rattle.jos_cli.specs.declared.outcome.Outcome.TheVariants as outcome
use Rattle.jos_cli.specs.Limits.{limit_of_blocks}
use Rattle.jos_cli.specs.Found.{FileAt, file_at, AreFound}
use Rattle.jos_cli.specs.Answer.{limit, within, bytes_within, Judged, all_judged, expected_if, expected_of_writing}
use Rattle.jos_cli.specs.Making.{named_with, named_file, named_files, named_in, disk_made, disk_asked, disk_in, expected_of_mkfs}
use Rattle.jos_cli.specs.Kinds.{Kind, answered, kind_of, Answers}
use Rattle.jos_cli.specs.Outcomes.{HasOutcomeCause}
use Rattle.jos_cli.specs.Stages.{AreFilesAt, RefusesBy, IsUnread, IsUnmade, IfMade}
use Rattle.jos_cli.specs.FilesAsked.{AsksFor, files_calls, write_calls, mkfs_calls}
use Rattle.jos_cli.specs.FilesLeft.{told_with, told_with_disk, LeavesBy, LeavesDisk, IsDiskWith, HoldsDisk}
use Rattle.jos_cli.specs.Outside.{Outside, outside, IsKept}
use Rattle.jos_cli.specs.Effects.{DoesCommand, ReadsFiles, WritesFile}
use Rattle.jos_cli.proofs.Asking.{asks_then}
use Rattle.jos_cli.proofs.Finding.{are_found}
use Rattle.jos_cli.proofs.FilesWritten.{keeps_all, itself}
use Rattle.jos_cli.proofs.Judging.{refuses}
use Rattle.jos_cli.proofs.Reading.{refused_then, refused_behind}

-- ---- one file

pub named_read : (file : FileAt) (bytes : List ℕ) → bytes_within FILE_MAX File file.word.place file.bytes ≡ Ok bytes → named_file file ≡ Ok (named_with file.word bytes)
unfolding named_file
named_read file bytes h = ap (λ (j : Judged (List ℕ)). j >>= (λ b. Ok (named_with file.word b))) h

pub named_refused : (file : FileAt) (kind : Kind) → RefusesBy (bytes_within FILE_MAX File file.word.place file.bytes) kind → RefusesBy (named_file file) kind
unfolding named_file
named_refused file kind h = refused_then (bytes_within FILE_MAX File file.word.place file.bytes) (λ b. Ok (named_with file.word b)) kind h

-- ---- a host that tells its files

named_is : (files : Files) (word : Word) (named : Named) → named_file (file_at files word) ≡ Ok named → named ≡ named_in files word
unfolding named_file
named_is files word named h = go (files word.text) h
  where
    kept : (bytes : List ℕ) (b : Bool) → cond b (Err (limit File)) (Ok bytes) >>= (λ l. Ok (named_with word l)) ≡ Ok named → named ≡ named_with word bytes
    kept bytes true e = absurd (let e = e in cc)
    kept bytes false e = let e = e in cc

    go : (stands : Option (List ℕ)) → bytes_within FILE_MAX File word.place stands >>= (λ l. Ok (named_with word l)) ≡ Ok named →
        named ≡ named_with word (unwrap_or stands [])
    go None e = absurd (let e = e in cc)
    go (Some bytes) e = kept bytes (nat_lt FILE_MAX (length bytes)) e

split_files : (first : Judged Named) (others : Judged (List Named)) (l : List Named) → first >>= (λ f. others >>= (λ o. Ok (f ∷ o))) ≡ Ok l →
    (f : Named) × (o : List Named) × (first ≡ Ok f) × (others ≡ Ok o) × (l ≡ f ∷ o)
split_files (Ok f) (Ok o) l h = (f, o, refl, refl, let e = h in cc)
split_files (Ok f) (Err answer) l h = absurd (let e = h in cc)
split_files (Err answer) others l h = absurd (let e = h in cc)

pub named_are : (files : Files) (words : List Word) (found : List FileAt) (l : List Named) → AreFilesAt (Some files) words found → named_files found ≡ Ok l →
    l ≡ map (named_in files) words
unfolding AreFilesAt all_judged
named_are files [] [] l h e = let e = e in cc
named_are files [] (file ∷ found) l h e = absurd h
named_are files (word ∷ words) [] l h e = absurd h
named_are files (word ∷ words) (file ∷ found) l h e =
    let parts = split_files (named_file file) (named_files found) l e in
    parts.4 ∙ (λ i. named_is files word parts.0 (ap (λ f. named_file f) (sym h.0) ∙ parts.2) i ∷ named_are files words found parts.1 h.1 parts.3 i)

-- ---- what is left

module _ (m : Mkfs) (found : List FileAt) (l : List Named) (result : Outcome) where
  with_disk : (told : Option Files) → AreFilesAt told m.files found → named_files found ≡ Ok l →
      told_with told m.disk.text (made_image m.blocks.value l) ≡ told_with_disk told m
  with_disk None are judged = refl
  with_disk (Some files) are judged =
      ap (λ named. Some (with_bytes files m.disk.text (made_image m.blocks.value named))) (named_are files m.files found l are judged)

  pub leaves_disk : (old new : Option Files) → AreFilesAt old m.files found → named_files found ≡ Ok l →
      LeavesBy m.disk.text (told_with old m.disk.text (made_image m.blocks.value l)) result (from_to old new) → LeavesDisk m result (from_to old new)
  leaves_disk old new are judged h =
      subst (λ (made : Option Files). LeavesBy m.disk.text made result (from_to old new)) (with_disk old are judged) h

-- the disk that was made stands there
pub holds_disk : (m : Mkfs) (found : List FileAt) (l : List Named) (result : Outcome) (old new : Option Files) → AreFilesAt old m.files found → named_files found ≡ Ok l →
    LeavesDisk m result (from_to old new) → IfMade result (IsDiskWith m.blocks.value l (made_image m.blocks.value l)) → HoldsDisk m result (from_to old new)
holds_disk m found l (outcome.Made bytes) None new are judged h good = tt
holds_disk m found l (outcome.Made bytes) (Some files) new are judged h good = (
  with_bytes files m.disk.text (disk_in files m),
  h,
  record {
    disk = disk_in files m;
    stands = ap (λ b. cond b (Some (disk_in files m)) (files m.disk.text)) (itself m.disk.text);
    good = subst (λ (named : List Named). IsDiskWith m.blocks.value named (made_image m.blocks.value named)) (named_are files m.files found l are judged) good;
  },
)
holds_disk m found l (outcome.HostFault stopped) old new are judged h good = tt
holds_disk m found l (outcome.Ran report trace) old new are judged h good = tt
holds_disk m found l outcome.Usage old new are judged h good = tt
holds_disk m found l (outcome.Absent word) old new are judged h good = tt
holds_disk m found l (outcome.Limit which) old new are judged h good = tt
holds_disk m found l (outcome.BadImage word fault) old new are judged h good = tt
holds_disk m found l outcome.NoMemory old new are judged h good = tt
holds_disk m found l (outcome.BadSchedule fault) old new are judged h good = tt
holds_disk m found l (outcome.BadDisk fault) old new are judged h good = tt
holds_disk m found l (outcome.NotThere errno) old new are judged h good = tt
holds_disk m found l (outcome.BadMake fault) old new are judged h good = tt

-- nothing was made
pub unread_unmade : (result : Outcome) → IsUnread result → IsUnmade result
unread_unmade (outcome.Made bytes) h = absurd h
unread_unmade (outcome.HostFault stopped) h = tt
unread_unmade (outcome.Ran report trace) h = absurd h
unread_unmade outcome.Usage h = absurd h
unread_unmade (outcome.Absent word) h = tt
unread_unmade (outcome.Limit which) h = tt
unread_unmade (outcome.BadImage word fault) h = tt
unread_unmade outcome.NoMemory h = tt
unread_unmade (outcome.BadSchedule fault) h = tt
unread_unmade (outcome.BadDisk fault) h = tt
unread_unmade (outcome.NotThere errno) h = tt
unread_unmade (outcome.BadMake fault) h = tt

module _ (name : List ℕ) (made old new : Option Files) (same : new ≡ old) where
  pub unmade_leaves : (result : Outcome) → IsUnmade result → LeavesBy name made result (from_to old new)
  unmade_leaves (outcome.Made bytes) h = absurd h
  unmade_leaves (outcome.HostFault stopped) h = keeps_all old new name same
  unmade_leaves (outcome.Ran report trace) h = same
  unmade_leaves outcome.Usage h = absurd h
  unmade_leaves (outcome.Absent word) h = same
  unmade_leaves (outcome.Limit which) h = same
  unmade_leaves (outcome.BadImage word fault) h = same
  unmade_leaves outcome.NoMemory h = same
  unmade_leaves (outcome.BadSchedule fault) h = same
  unmade_leaves (outcome.BadDisk fault) h = same
  unmade_leaves (outcome.NotThere errno) h = same
  unmade_leaves (outcome.BadMake fault) h = same

-- and no disk is told of
pub unmade_holds : (m : Mkfs) (told : Around (Option Files)) (result : Outcome) → IsUnmade result → HoldsDisk m result told
unmade_holds m told (outcome.Made bytes) h = absurd h
unmade_holds m told (outcome.HostFault stopped) h = tt
unmade_holds m told (outcome.Ran report trace) h = tt
unmade_holds m told outcome.Usage h = absurd h
unmade_holds m told (outcome.Absent word) h = tt
unmade_holds m told (outcome.Limit which) h = tt
unmade_holds m told (outcome.BadImage word fault) h = tt
unmade_holds m told outcome.NoMemory h = tt
unmade_holds m told (outcome.BadSchedule fault) h = tt
unmade_holds m told (outcome.BadDisk fault) h = tt
unmade_holds m told (outcome.NotThere errno) h = tt
unmade_holds m told (outcome.BadMake fault) h = tt

pub unmade_no_usage : (result : Outcome) → IsUnmade result → result ≢ outcome.Usage
unmade_no_usage result h e = subst IsUnmade e h

-- ---- the disk that the words ask for

module _ (m : Mkfs) (found : List FileAt) where
  pub blocks_refused : (which : Which) → limit_of_blocks m.blocks ≡ Some which → RefusesBy (disk_asked m found) (answered (limit which))
  unfolding disk_asked
  blocks_refused which h = ap (λ (l : Option Which). within l >>= (λ _. named_files found >>= disk_made m.blocks.value)) h

  module _ (h : limit_of_blocks m.blocks ≡ None) where
    pub files_refused : (kind : Kind) → RefusesBy (named_files found) kind → RefusesBy (disk_asked m found) kind
    unfolding disk_asked
    files_refused kind refusal =
        refused_behind (within (limit_of_blocks m.blocks)) (λ _. named_files found >>= disk_made m.blocks.value) tt kind (ap within h)
        (refused_then (named_files found) (disk_made m.blocks.value) kind refusal)

    pub files_named : (files : List Named) → named_files found ≡ Ok files → disk_asked m found ≡ disk_made m.blocks.value files
    unfolding disk_asked
    files_named files judged =
        ap (λ (l : Option Which). within l >>= (λ _. named_files found >>= disk_made m.blocks.value)) h
        ∙ ap (λ (j : Judged (List Named)). j >>= disk_made m.blocks.value) judged

-- ---- what is seen from outside

-- no disk was made
pub unmade : (m : Mkfs) (o : Outcome) (seen : Outside) (found : List FileAt) → AreFound seen.files.before m.files found → RefusesBy (disk_asked m found) (kind_of o) →
    IsUnmade o → IsKept seen.files → IsKept seen.input → IsKept seen.console → IsKept seen.notes → AsksFor (mkfs_calls m) seen.asked → HasOutcomeCause seen.faults o →
    DoesCommand (Some (mkfs m)) o seen
unmade m o seen found are refusal none files input console notes asked cause = record {
  answer = (found, are, refuses (disk_asked m found) expected_of_writing (kind_of o) seen.console refusal console);
  usage = unmade_no_usage o none;
  files = unmade_leaves m.disk.text (told_with_disk seen.files.before m) seen.files.before seen.files.after files o none;
  disk = unmade_holds m seen.files o none;
  input = input;
  notes = notes;
  asked = asked;
  cause = cause;
}

-- the files were read, and a disk was to be made
module _ {H : Type 0} (host : Ghosts H) (a b c : H) (m : Mkfs) (o : Outcome) (found : List FileAt) (files : List Named) (are : AreFilesAt (host.files a) m.files found)
    (within_limit : limit_of_blocks m.blocks ≡ None) (judged : named_files found ≡ Ok files) (read : ReadsFiles (files_calls m.files) None (outside host a b))
    (h : WritesFile (expected_if (disk_made m.blocks.value files) expected_of_writing) m.disk.text (made_image m.blocks.value files) o (outside host b c)) where
  left : LeavesDisk m o (from_to (host.files a) (host.files c))
  left =
      leaves_disk m found files o (host.files a) (host.files c) are judged
      (subst (λ (told : Option Files). LeavesBy m.disk.text (told_with told m.disk.text (made_image m.blocks.value files)) o (from_to told (host.files c))) read.files h.files)

  pub made_disk : IfMade o (IsDiskWith m.blocks.value files (made_image m.blocks.value files)) → DoesCommand (Some (mkfs m)) o (outside host a c)
  made_disk good = record {
    answer = (
      found,
      are_found (host.files a) m.files found are,
      subst (λ (console : Option (List ℕ)). Answers (expected_of_mkfs m found) o (from_to console (host.console c))) read.console
          (subst (λ (j : Judged (List ℕ)). Answers (expected_if j expected_of_writing) o (from_to (host.console b) (host.console c))) (sym (files_named m found within_limit files judged)) h.answer),
    );
    usage = h.usage;
    files = left;
    disk = holds_disk m found files o (host.files a) (host.files c) are judged left good;
    input = h.input ∙ read.input;
    notes = h.notes ∙ read.notes;
    asked = asks_then (files_calls m.files) (write_calls m.disk.text) (host.asked a) (host.asked b) (host.asked c) read.asked h.asked;
    cause = subst (λ (n : ℕ). HasOutcomeCause (from_to n (host.faults c)) o) read.cause h.cause;
  }
