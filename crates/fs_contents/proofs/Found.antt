-- What is told of the record that a path names.
use Rattle.std.proofs.Common.{◌≡◌, ◌≢◌, ◌∙◌, ◌==◌, ◌≤◌, ℕ, true, false, List, [], length, map, Result, Ok, Err, sym, ap, subst, arith}
use Rattle.std.specs.Prelude.{slice_index}
use Rattle.std.proofs.lemmas.Bool.Decides.{nat_tests}
use Rattle.jos_base.specs.declared.errno.Errno.{Errno}
use Rattle.jos_base.specs.declared.errno.Errno.TheVariants.{Invalid}
use Rattle.fs_layout.specs.declared.numbers.TheConstants.{MAXFILESIZE}
use Rattle.fs_layout.specs.declared.records.FileEntry.{FileEntry}
use Rattle.fs_layout.specs.FileTree.{Node, a_file, a_directory}
use Rattle.fs_layout.specs.DiskImage.{kind_at, is_directory_at, has_indirect, slot_count}
use Rattle.fs_layout.specs.DiskFiles.{file_bytes, records_at}
use Rattle.fs_layout.specs.DiskLaws.{IsReadable}
use Rattle.fs_contents.specs.Contents.{Told, told_of_entry, directory_found, file_found}
use Rattle.fs_contents.specs.Walks.{LeadsOn, entries_below}
use Rattle.fs_contents.proofs.Records.{own-readable, directory-told, file-size}
use Rattle.fs_contents.proofs.Ways.{leads-here, directory-node, file-node}

-- what is found can be read
pub found-readable : (byte : ℕ → ℕ) (found : Result Node Errno) (place : ℕ) → LeadsOn byte found [] place → IsReadable byte place
found-readable byte found place leads = own-readable byte leads.depth place leads.readable

-- it is a directory, or a file
found-directory : (byte : ℕ → ℕ) (found : Result Node Errno) (place : ℕ) → (leads : LeadsOn byte found [] place) →
    is_directory_at byte place ≡ true →
    found ≡ Ok (a_directory (records_at leads.depth byte place) (has_indirect byte place))
found-directory byte found place leads is =
    leads-here byte found place leads
    ∙ ap (λ (n : Node). Ok n) (directory-node (records_at leads.depth byte) byte place is)

found-file : (byte : ℕ → ℕ) (found : Result Node Errno) (place : ℕ) → (leads : LeadsOn byte found [] place) →
    is_directory_at byte place ≡ false → found ≡ Ok (a_file (file_bytes byte place) (has_indirect byte place))
found-file byte found place leads is =
    leads-here byte found place leads ∙ ap (λ (n : Node). Ok n) (file-node (records_at leads.depth byte) byte place is)

-- ---- where a directory is wanted

-- a file is no directory
pub directory-invalid : (byte : ℕ → ℕ) (found : Result Node Errno) (place : ℕ) → LeadsOn byte found [] place →
    is_directory_at byte place ≡ false → directory_found found ≡ Err Invalid
directory-invalid byte found place leads is = ap directory_found (found-file byte found place leads is)

-- a directory is listed
pub directory-listed : (byte : ℕ → ℕ) (found : Result Node Errno) (place : ℕ) (entries : List FileEntry) →
    LeadsOn byte found [] place → is_directory_at byte place ≡ true → entries ≡ entries_below byte place (slot_count byte place) →
    directory_found found ≡ Ok (map told_of_entry entries)
directory-listed byte found place entries leads is read =
    ap directory_found (found-directory byte found place leads is)
    ∙ ap (λ (told : List Told). Ok told)
    (directory-told byte leads.depth place leads.readable is ∙ ap (map told_of_entry) (sym read))

-- ---- where a file is

-- a directory is no file
pub file-invalid : (byte : ℕ → ℕ) (found : Result Node Errno) (place : ℕ) → LeadsOn byte found [] place →
    is_directory_at byte place ≡ true → file_found found ≡ Err Invalid
file-invalid byte found place leads is = ap file_found (found-directory byte found place leads is)

-- a file is read
pub file-read : (byte : ℕ → ℕ) (found : Result Node Errno) (place : ℕ) (bytes : List ℕ) → LeadsOn byte found [] place →
    is_directory_at byte place ≡ false → bytes ≡ file_bytes byte place → file_found found ≡ Ok bytes
file-read byte found place bytes leads is read =
    ap file_found (found-file byte found place leads is) ∙ ap (λ (b : List ℕ). Ok b) (sym read)

-- and has no more bytes than a file may have
pub file-short : (byte : ℕ → ℕ) (found : Result Node Errno) (place : ℕ) (bytes : List ℕ) → LeadsOn byte found [] place → bytes ≡ file_bytes byte place →
    length bytes ≤ MAXFILESIZE
file-short byte found place bytes leads read =
    subst (λ (n : ℕ). n ≤ MAXFILESIZE) (sym (ap length read ∙ file-size byte place)) (found-readable byte found place leads).short

-- ---- its kind, which is read of the disk and told of the image

kind-in : (xs ys : List ℕ) (place kind : ℕ) → xs ≡ ys → kind ≡ kind_at (slice_index xs) place →
    is_directory_at (slice_index ys) place ≡ (kind == 1)
kind-in xs ys place kind e is =
    ap (λ (l : List ℕ). is_directory_at (slice_index l) place) (sym e) ∙ ap (λ k. k == 1) (sym is)

-- a directory, and what is none
pub kind-is : (xs ys : List ℕ) (place kind : ℕ) → xs ≡ ys → kind ≡ kind_at (slice_index xs) place → kind ≡ 1 →
    is_directory_at (slice_index ys) place ≡ true
kind-is xs ys place kind e is directory = kind-in xs ys place kind e is ∙ ap (λ k. k == 1) directory

pub kind-is_not : (xs ys : List ℕ) (place kind : ℕ) → xs ≡ ys → kind ≡ kind_at (slice_index xs) place → kind ≢ 1 →
    is_directory_at (slice_index ys) place ≡ false
kind-is_not xs ys place kind e is other = kind-in xs ys place kind e is ∙ not-one kind other
  where
    not-one : (kind : ℕ) → kind ≢ 1 → (kind == 1) ≡ false
    not-one kind other = grind (arith, nat_tests)
