-- What moves blocks of the disk does to the host's files, one step behind the other: the disk's file has all of its blocks still.
use Rattle.std.proofs.Common.{◌≡◌, ◌∙◌, ◌<◌, ◌≤◌, ◌+◌, ◌*◌, ℕ, Bool, true, false, List, [], ◌∷◌, ◌++◌, length, max, Option, Some, None, Result, Ok, Err}
use Rattle.std.proofs.Common.{refl, sym, ap, subst, arith, append_assoc, unwrap_or, if◌then◌else◌}
use Rattle.std.specs.Option.{option_map}
use Rattle.std.specs.Str.{bytes_eq}
use Rattle.std.proofs.lemmas.Slice.Eq.{bytes_eq-Decides}
use Rattle.std.proofs.lemmas.List.{append-nil}
use Rattle.jos_host.specs.declared.host.Failed.{Failed}
use Rattle.jos_host.specs.declared.host.HostCall.TheVariants.{Read, Write}
use Rattle.jos_host.specs.Asked.{Asked}
use Rattle.jos_host.specs.Files.{Files, SameElsewhere, bytes_of, overwritten, with_bytes}
use Rattle.jos_host.specs.Frames.{Around, from_to}
use Rattle.jos_host.specs.Told.{WritesAt}
use Rattle.fs_layout.specs.declared.numbers.TheConstants.{BLKSIZE}
use Rattle.lib_os.specs.Disk.{DiskFile, HasBlocks}
use Rattle.lib_os.specs.MadeCalls.{TouchesDisk, asks_nothing, asks_read, asks_write}
use Rattle.lib_os.proofs.DiskBytes.{written_length}
use Rattle.jos_run.specs.DiskTouches.{AreDiskCalls, IsDiskCall, KeepsFiles, TouchesDiskOnly, reads, writes}

-- ---- the files

-- what is left as it was
pub files_kept : (name : List ℕ) (before after : Option Files) → after ≡ before → KeepsFiles name before after
files_kept name None after same = same
files_kept name (Some old) after same = (old, same, (λ q other. refl), refl)

pub kept_further : (name : List ℕ) (before mid after : Option Files) → KeepsFiles name before mid → KeepsFiles name mid after →
    KeepsFiles name before after
kept_further name None mid after h k = subst (λ (o : Option Files). KeepsFiles name o after) h k
kept_further name (Some old) mid after h k =
    let further = subst (λ (o : Option Files). KeepsFiles name o after) h.1 k in
    (further.0, further.1, (λ q other. further.2 q other ∙ h.2 q other), further.3 ∙ h.3)

-- the disk's file has its blocks still
pub whole_still : (disk : DiskFile) (before after : Option Files) → KeepsFiles disk.name before after → HasBlocks before disk → HasBlocks after disk
whole_still disk None after kept whole = subst (λ (o : Option Files). HasBlocks o disk) (sym kept) tt
whole_still disk (Some old) after kept whole =
    subst (λ (o : Option Files). HasBlocks o disk) (sym kept.1) (subst (λ (n : ℕ). BLKSIZE * disk.blocks ≤ n) (sym kept.3) whole)

bytes_with : (files : Files) (name bytes : List ℕ) → bytes_of (with_bytes files name bytes) name ≡ bytes
bytes_with files name bytes =
    let same : bytes_eq name name ≡ true = (bytes_eq-Decides name name).1 refl in
    ap (λ (t : Bool). unwrap_or (if t then Some bytes else files name) []) same

others_with : (files : Files) (name bytes : List ℕ) → SameElsewhere files name (with_bytes files name bytes)
others_with files name bytes q other = ap (λ (t : Bool). if t then Some bytes else files q) (differ (bytes_eq q name) refl)
  where
    differ : (t : Bool) → bytes_eq q name ≡ t → t ≡ false
    differ true same = absurd (other ((bytes_eq-Decides q name).0 same))
    differ false same = refl

-- a block that is written over, where the file has it
written_kept : (disk : DiskFile) (before after : Option Files) (block : ℕ) (bytes : List ℕ) (done : Result (Unit {0}) Failed) → block < disk.blocks →
    length bytes ≡ BLKSIZE → HasBlocks before disk → WritesAt before disk.name (BLKSIZE * block) bytes done after → KeepsFiles disk.name before after
written_kept disk None after block bytes done there long whole now = now
written_kept disk (Some old) after block bytes (Ok _) there long whole now =
    let file = bytes_of old disk.name in
    let put = overwritten file (BLKSIZE * block) bytes in
    let fits : BLKSIZE * (block + 1) ≤ length file = omega (arith, there, whole) in (
      with_bytes old disk.name put,
      now,
      others_with old disk.name put,
      ap (λ (l : List ℕ). length l) (bytes_with old disk.name put) ∙ written_length file block bytes long fits,
    )
written_kept disk (Some old) after block bytes (Err _) there long whole now =
    let torn = now.3 in
    let fits : BLKSIZE * block + length bytes ≤ length (bytes_of old disk.name) = omega (arith, there, whole, long) in (
      now.0,
      now.1,
      now.2,
      no_other (length (bytes_of old disk.name)) (length (bytes_of now.0 disk.name)) (BLKSIZE * block + length bytes)
          torn.no_shorter torn.no_longer fits,
    )
  where
    no_other : (n m end : ℕ) → n ≤ m → m ≤ max n end → end ≤ n → m ≡ n
    no_other n m end least most fits = omega (arith, least, most, fits)

-- ---- the calls

calls_further : (name : List ℕ) (calls more : List Asked) → AreDiskCalls name calls → AreDiskCalls name more → AreDiskCalls name (calls ++ more)
unfolding AreDiskCalls
calls_further name [] more h k = k
calls_further name (asked ∷ rest) more h k = (h.0, calls_further name rest more h.1 k)

no_call : (name : List ℕ) → AreDiskCalls name []
unfolding AreDiskCalls
no_call name = tt

one_call : (name : List ℕ) (asked : Asked) → IsDiskCall name asked → AreDiskCalls name (asked ∷ [])
unfolding AreDiskCalls
one_call name asked h = (h, tt)

-- the calls that are told, with none behind them, and with some and others
none_told : (told : Option (List Asked)) → told ≡ option_map (λ calls. calls ++ []) told
none_told None = refl
none_told (Some calls) = ap (λ (l : List Asked). Some l) (sym (append-nil calls))

told_further : (told : Option (List Asked)) (calls more : List Asked) →
    option_map (λ all. all ++ more) (option_map (λ all. all ++ calls) told) ≡ option_map (λ all. all ++ (calls ++ more)) told
told_further None calls more = refl
told_further (Some all) calls more = ap (λ (l : List Asked). Some l) (append_assoc all calls more)

-- ---- both

-- Nothing was touched.
pub only_nothing : (disk : DiskFile) (files : Option Files) (asked : Option (List Asked)) →
    TouchesDiskOnly disk (from_to files files) (from_to asked asked)
only_nothing disk files asked = record {
  keeps = files_kept disk.name files files refl;
  calls = [];
  of_disk = no_call disk.name;
  asked_are = none_told asked;
}

-- A step touches a block at most,
pub only_step : (disk : DiskFile) (files : Around (Option Files)) (asked : Around (Option (List Asked))) → HasBlocks files.before disk →
    TouchesDisk disk files asked → TouchesDiskOnly disk files asked
only_step disk files asked whole (asks_nothing same none) = record {
  keeps = files_kept disk.name files.before files.after same;
  calls = [];
  of_disk = no_call disk.name;
  asked_are = none ∙ none_told asked.before;
}
only_step disk files asked whole (asks_read block there same told) = record {
  keeps = files_kept disk.name files.before files.after same;
  calls = record { call = Read; name = disk.name } ∷ [];
  of_disk = one_call disk.name (record { call = Read; name = disk.name }) (reads refl);
  asked_are = told;
}
only_step disk files asked whole (asks_write block bytes done there long now told) = record {
  keeps = written_kept disk files.before files.after block bytes done there long whole now;
  calls = record { call = Write; name = disk.name } ∷ [];
  of_disk = one_call disk.name (record { call = Write; name = disk.name }) (writes refl);
  asked_are = told;
}

-- and so do steps one behind the other.
pub only_further : (disk : DiskFile) (before mid after : Option Files) (first second last : Option (List Asked)) →
    TouchesDiskOnly disk (from_to before mid) (from_to first second) → TouchesDiskOnly disk (from_to mid after) (from_to second last) →
    TouchesDiskOnly disk (from_to before after) (from_to first last)
only_further disk before mid after first second last h k = record {
  keeps = kept_further disk.name before mid after h.keeps k.keeps;
  calls = h.calls ++ k.calls;
  of_disk = calls_further disk.name h.calls k.calls h.of_disk k.of_disk;
  asked_are = k.asked_are ∙ ap (λ (told : Option (List Asked)). option_map (λ all. all ++ k.calls) told) h.asked_are
      ∙ told_further first h.calls k.calls;
}

pub touched_further : {disk other : DiskFile} {before mid after : Option Files} {first second last : Option (List Asked)} → other ≡ disk →
    TouchesDiskOnly disk (from_to before mid) (from_to first second) → TouchesDiskOnly other (from_to mid after) (from_to second last) →
    TouchesDiskOnly disk (from_to before after) (from_to first last)
touched_further {disk = disk} {before = before} {mid = mid} {after = after} {first = first} {second = second} {last = last} same h k =
    only_further disk before mid after first second last h
    (subst (λ (d : DiskFile). TouchesDiskOnly d (from_to mid after) (from_to second last)) same k)

-- The disk's file has its blocks behind them.
pub only_whole : (disk : DiskFile) (files : Around (Option Files)) (asked : Around (Option (List Asked))) → TouchesDiskOnly disk files asked →
    HasBlocks files.before disk → HasBlocks files.after disk
only_whole disk files asked h whole = whole_still disk files.before files.after h.keeps whole
