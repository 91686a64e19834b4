-- What is to be shown of the run of a job, part by part.
use Rattle.std.proofs.Common.{◌≡◌, ◌<◌, ◌≤◌, ◌+◌, ◌*◌, ◌/◌, ◌%◌, ◌-◌, ◌⊎◌, ℕ, true, false, List, length, Some, None}
use Rattle.std.specs.Prelude.{slice_index, unwrap_or}
use Rattle.std.specs.List.{list_any}
use Rattle.jos_base.specs.declared.numbers.TheConstants.{E_BAD_PATH, E_FILE_EXISTS, E_NOT_FOUND, E_NO_DISK}
use Rattle.jos_base.specs.Words.{negated}
use Rattle.fs_layout.specs.declared.numbers.TheConstants.{BLKFILES, BLKSIZE, MAXFILESIZE, MAXNAMELEN, NDIRECT, RECORDSIZE}
use Rattle.fs_layout.specs.DiskFiles.{free_blocks}
use Rattle.fs_layout.specs.DiskImage.{block_count, block_number_at, first_data_block, indirect_of, is_data_block, is_directory_at, is_empty_record, kind_at, root_place, size_of, slot_count, slot_place}
use Rattle.fs_layout.specs.FileActs.{is_good_path, is_slash}
use Rattle.fs_layout.specs.FileTree.{blocks_of}
use Rattle.fs_acts.specs.BlockActs.{a_record, astray, cut, empty_it, fill, first_slot, give_block, give_indirect, led_to, lowest_free, make_record, no_record, overwrite, place_at, read_plan, slot_named, stat_plan, take_block, take_indirect, written}
use Rattle.fs_layout.specs.declared.numbers.TheConstants.{FTYPE_REG}
use Rattle.fs_jobs.specs.declared.place.Change.{Change}
use Rattle.fs_jobs.specs.declared.place.Change.TheVariants as change
use Rattle.fs_jobs.specs.declared.place.Changed.{Changed}
use Rattle.fs_jobs.specs.declared.place.FilePlace.{FilePlace}
use Rattle.fs_jobs.specs.declared.place.FilePlace.TheVariants as file
use Rattle.fs_jobs.specs.declared.place.Job.{Job}
use Rattle.fs_jobs.specs.declared.place.Job.TheVariants as job
use Rattle.fs_jobs.specs.declared.place.Seek.{Seek}
use Rattle.fs_jobs.specs.declared.place.TheConstants.{NONE}
use Rattle.fs_jobs.specs.declared.place.TreePlace.TheVariants.{Changing, Walking}
use Rattle.fs_jobs.specs.declared.place.TreeState.{TreeState}
use Rattle.fs_jobs.specs.declared.place.WalkPlace.{WalkPlace}
use Rattle.fs_jobs.specs.declared.place.WalkPlace.TheVariants as walk
use Rattle.fs_jobs.specs.declared.place.Wanted.{Wanted}
use Rattle.fs_jobs.specs.declared.place.Wanted.TheVariants as wanted
use Rattle.fs_jobs.specs.declared.asks.TreeNext.TheVariants.{GoOn}
use Rattle.fs_changes.specs.ChangePlans.{fill_end, more_blocks, place_for}
use Rattle.fs_jobs.specs.TreeBounds.{is_bounded, is_bounded_changed, is_bounded_job, is_bounded_wanted}
use Rattle.fs_runs.specs.JobCalls.{change_weight, take_calls}
use Rattle.fs_runs.specs.TreeRuns.{AreSmall, HasPath, IsSound, Memory, bytes_given}
use Rattle.fs_walks.specs.WalkPlans.{begun, changed_to, creates, size_wanted, slot_taken, wants_new}
use Rattle.fs_runs.proofs.Leads.{EndsIn, Leads, LeadsIn}

-- ---- words

abbrev pub at_walk : Job → ℕ → WalkPlace → TreeState
at_walk j count place = record { job = j; count = count; place = Walking place }

abbrev pub at_file : Job → ℕ → Changed → FilePlace → TreeState
at_file j count changed place = record { job = j; count = count; place = Changing changed place }

abbrev pub with_disk : Memory → (ℕ → ℕ) → Memory
with_disk m disk = record m { disk = disk }

-- it ends with an answer, and so much the changes weigh that begin on the way
abbrev pub EndsAfter : ℕ → ℕ → Memory → ℕ → TreeState → Memory → Type 0
EndsAfter count answer after weighs state m = (n : ℕ) × EndsIn count answer after weighs n state m

-- or none begins
abbrev pub EndsWith : ℕ → ℕ → Memory → TreeState → Memory → Type 0
EndsWith count answer after state m = EndsAfter count answer after 0 state m

-- a job that walks along a path
pub data IsWalking : Job → Type 0 where
  opening : (mode : ℕ) → IsWalking (job.Open mode)
  finding : IsWalking job.Find

-- a record lies within the disk, at a multiple of four
pub record LiesOn (count home : ℕ) : Type 0 where
  pub even : home % 4 ≡ 0
  pub inside : home + RECORDSIZE ≤ BLKSIZE * count

-- a disk may have so many blocks
abbrev pub IsCounted : ℕ → (ℕ → ℕ) → Type 0
IsCounted count byte = (block_count byte ≡ count) × (4 ≤ count) × (count ≤ 16384)

-- what was read of the record last is what stands there
pub record IsRead (byte : ℕ → ℕ) (c : Changed) : Type 0 where
  pub size : size_of byte c.home ≡ c.size
  pub indirect : indirect_of byte c.home ≡ c.indirect

-- ---- the path, and the super block

abbrev pub PathsAreRead : Type 0
PathsAreRead = (count : ℕ) (j : Job) (path : List ℕ) (m : Memory) → AreSmall m → HasPath m.page path → IsWalking j →
    (is_good_path path ≡ true → Leads count (at_walk j 0 walk.Magic) m (at_walk j 0 (walk.Path 0 0)) m)
    × (is_good_path path ≡ false → EndsWith count (negated E_BAD_PATH) m (at_walk j 0 (walk.Path 0 0)) m)

abbrev pub SupersAreRead : Type 0
SupersAreRead = (count : ℕ) (j : Job) (m : Memory) → IsSound count m → is_bounded_job j ≡ true → (next : TreeState) →
    begun (at_walk j count walk.RootKind) j ≡ GoOn next → Leads count next m (at_walk j 0 walk.Magic) m

-- places of records lie on the disk
abbrev pub PlacesLie : Type 0
PlacesLie = (count : ℕ) (m : Memory) (way : List ℕ) (home : ℕ) → IsSound count m → place_at m.disk way ≡ Some home → LiesOn count home

-- ---- names

-- a name of the path begins at a place of it
pub record IsNameAt (path : List ℕ) (from : ℕ) (name : List ℕ) : Type 0 where
  pub some : 0 < length name
  pub short : length name < MAXNAMELEN
  pub within : from + length name ≤ length path
  pub bytes : (k : ℕ) → k < length name → slice_index path (from + k) ≡ slice_index name k
  pub no_slash : list_any is_slash name ≡ false
  pub ends : (from + length name ≡ length path) ⊎ (is_slash (slice_index path (from + length name)) ≡ true)

-- a directory of the disk in which a name is looked up
pub record IsDirectoryOf (m : Memory) (directory : ℕ) : Type 0 where
  pub way : List ℕ
  pub stands : place_at m.disk way ≡ Some directory
  pub kind : is_directory_at m.disk directory ≡ true

-- all its records were looked at, and the first that is empty is known
abbrev pub sought : (ℕ → ℕ) → ℕ → ℕ → Seek
sought byte directory from = record {
  from = from;
  directory = directory;
  slots = slot_count byte directory;
  slot = slot_count byte directory;
  empty = unwrap_or (first_slot byte directory (is_empty_record byte)) NONE;
}

abbrev pub NamesAreSought : Type 0
NamesAreSought = (count : ℕ) (j : Job) (m : Memory) (path name : List ℕ) (from directory : ℕ) → IsSound count m → HasPath m.page path →
    IsWalking j → IsNameAt path from name → IsDirectoryOf m directory →
    ((i : ℕ) → slot_named m.disk directory name ≡ Some i →
    Leads count (at_walk j count (walk.Component (from + length name) (slot_place m.disk directory i))) m (at_walk j count (walk.DirectoryKind from directory)) m)
    × (slot_named m.disk directory name ≡ None →
    Leads count (at_walk j count (walk.Missing (sought m.disk directory from) from true)) m (at_walk j count (walk.DirectoryKind from directory)) m)

-- ---- the way

-- the last name of the path, with nothing but slashes behind it
pub record IsLastName (path : List ℕ) (from : ℕ) (name : List ℕ) : Type 0 where
  pub at : IsNameAt path from name
  pub rest : (k : ℕ) → from + length name ≤ k → k < length path → is_slash (slice_index path k) ≡ true

abbrev pub WalksFind : Type 0
WalksFind = (count : ℕ) (j : Job) (m : Memory) (path way : List ℕ) (place : ℕ) → IsSound count m → HasPath m.page path → IsWalking j →
    led_to m.disk path ≡ a_record place way →
    (wants_new j ≡ true → EndsWith count (negated E_FILE_EXISTS) m (at_walk j count (walk.Component 0 root_place)) m)
    × (wants_new j ≡ false → Leads count (at_walk j count (walk.FoundKind place)) m (at_walk j count (walk.Component 0 root_place)) m)

abbrev pub WalksStray : Type 0
WalksStray = (count : ℕ) (j : Job) (m : Memory) (path : List ℕ) → IsSound count m → HasPath m.page path → IsWalking j → led_to m.disk path ≡ astray →
    EndsWith count (negated E_NOT_FOUND) m (at_walk j count (walk.Component 0 root_place)) m

abbrev pub WalksMiss : Type 0
WalksMiss = (count : ℕ) (j : Job) (m : Memory) (path name : List ℕ) (directory : ℕ) → IsSound count m → HasPath m.page path → IsWalking j →
    led_to m.disk path ≡ no_record directory name → (from : ℕ) × IsLastName path from name × IsDirectoryOf m directory
    × (let seek = sought m.disk directory from in
    (creates j ≡ false → EndsWith count (negated E_NOT_FOUND) m (at_walk j count (walk.Component 0 root_place)) m)
    × (creates j ≡ true → MAXFILESIZE < size_wanted seek → EndsWith count (negated E_NO_DISK) m (at_walk j count (walk.Component 0 root_place)) m)
    × (creates j ≡ true → size_wanted seek ≤ MAXFILESIZE →
    Leads count (at_file (job.Create directory (slot_taken seek) from) count (changed_to directory (slot_count m.disk directory * RECORDSIZE) (size_wanted seek)) file.Indirect) m
    (at_walk j count (walk.Component 0 root_place)) m))

-- ---- numbers of blocks, and the bitmap

-- The number of a block is read where the record says so, and so is that of the indirect block. A change may begin with it.
abbrev pub NumbersAreRead : Type 0
NumbersAreRead = (count : ℕ) (j : Job) (c : Changed) (i : ℕ) (w : Wanted) (m : Memory) → IsCounted count m.disk → AreSmall m → LiesOn count c.home →
    is_bounded_job j ≡ true → is_bounded_changed c ≡ true → is_bounded_wanted w ≡ true → i < 1034 →
    is_data_block count (block_number_at m.disk c.home i) ≡ true → (NDIRECT ≤ i → is_data_block count (indirect_of m.disk c.home) ≡ true) →
    (c.indirect ≡ indirect_of m.disk c.home) ⊎ (i < NDIRECT) →
    LeadsIn count (at_file j count c (place_for (block_number_at m.disk c.home i) w)) m (change_weight count c (file.Number i w))
    (at_file j count c (file.Number i w)) m

-- the same where the number of the indirect block was not read before
abbrev pub NumbersAreFound : Type 0
NumbersAreFound = (count : ℕ) (j : Job) (c : Changed) (i : ℕ) (w : Wanted) (m : Memory) → IsCounted count m.disk → AreSmall m → LiesOn count c.home →
    is_bounded_job j ≡ true → is_bounded_changed c ≡ true → is_bounded_wanted w ≡ true → i < 1034 → NDIRECT ≤ i →
    is_data_block count (block_number_at m.disk c.home i) ≡ true → is_data_block count (indirect_of m.disk c.home) ≡ true →
    LeadsIn count (at_file j count (record c { indirect = indirect_of m.disk c.home }) (place_for (block_number_at m.disk c.home i) w)) m
    (change_weight count c (file.Number i w)) (at_file j count c (file.Number i w)) m

abbrev pub FreeIsCounted : Type 0
FreeIsCounted = (count : ℕ) (j : Job) (c : Changed) (m : Memory) → IsCounted count m.disk → AreSmall m → is_bounded_job j ≡ true →
    is_bounded_changed c ≡ true →
    (more_blocks j c ≤ free_blocks m.disk → Leads count (at_file j count c file.SizeNow) m (at_file j count c (file.Free 0 0)) m)
    × (free_blocks m.disk < more_blocks j c → EndsWith count (negated E_NO_DISK) m (at_file j count c (file.Free 0 0)) m)

abbrev pub LowestIsFound : Type 0
LowestIsFound = (count : ℕ) (j : Job) (c : Changed) (x : Change) (m : Memory) (block : ℕ) → IsCounted count m.disk →
    AreSmall m → is_bounded_job j ≡ true → is_bounded_changed c ≡ true → lowest_free m.disk ≡ Some block →
    LeadsIn count (at_file j count c (file.Mark x block)) m (take_calls count) (at_file j count c (file.Lowest x 0)) m

-- ---- changes, each from where its first put or its block is wanted to where the size is read again, and what it weighs

-- what all of them have
pub record Changes (count : ℕ) (j : Job) (c : Changed) (m : Memory) : Type 0 where
  pub counted : IsCounted count m.disk
  pub small : AreSmall m
  pub lies : LiesOn count c.home
  -- it lies within one block, which is none of the bitmap's
  pub one_block : c.home % BLKSIZE + RECORDSIZE ≤ BLKSIZE
  pub off_map : (c.home / BLKSIZE < 2) ⊎ (first_data_block count ≤ c.home / BLKSIZE)
  pub job : is_bounded_job j ≡ true
  pub bounded : is_bounded_changed c ≡ true
  pub is_read : IsRead m.disk c
  pub indirect : (c.indirect ≡ 0) ⊎ (is_data_block count c.indirect ≡ true)
  pub size_most : c.size ≤ MAXFILESIZE
  pub end_most : c.end ≤ MAXFILESIZE

abbrev pub BlocksAreTaken : Type 0
BlocksAreTaken = (count : ℕ) (j : Job) (c : Changed) (m : Memory) (block : ℕ) → Changes count j c m → lowest_free m.disk ≡ Some block →
    (blocks_of c.size < NDIRECT) ⊎ (is_data_block count c.indirect ≡ true) → c.size % BLKSIZE ≡ 0 → blocks_of c.size < 1034 →
    LeadsIn count (at_file j count c file.SizeNow) (with_disk m (written (take_block c.home c.end m.disk) m.disk)) (take_calls count)
    (at_file j count c (file.Lowest change.TakeBlock 0)) m

abbrev pub IndirectsAreTaken : Type 0
IndirectsAreTaken = (count : ℕ) (j : Job) (c : Changed) (m : Memory) (block : ℕ) → Changes count j c m → lowest_free m.disk ≡ Some block →
    NDIRECT ≤ blocks_of c.size → c.indirect ≡ 0 →
    LeadsIn count (at_file j count c file.SizeNow) (with_disk m (written (take_indirect c.home m.disk) m.disk)) (take_calls count)
    (at_file j count c (file.Lowest change.TakeIndirect 0)) m

-- the numbers within the size are those of data blocks
abbrev pub HasBlocks : ℕ → Changed → (ℕ → ℕ) → Type 0
HasBlocks count c byte =
    ((i : ℕ) → i < blocks_of c.size → is_data_block count (block_number_at byte c.home i) ≡ true)
    × (NDIRECT < blocks_of c.size → is_data_block count c.indirect ≡ true)

-- a record's own bytes lie in no block that it names but a directory's in none of its own: where the record lies, none of its blocks is
abbrev pub LiesApart : Changed → (ℕ → ℕ) → Type 0
LiesApart c byte =
    ((i : ℕ) → i < blocks_of c.size → c.home / BLKSIZE ≡ block_number_at byte c.home i → ⊥)
    × (c.indirect ≡ c.home / BLKSIZE → c.indirect ≡ 0)

abbrev pub BlocksAreGiven : Type 0
BlocksAreGiven = (count : ℕ) (j : Job) (c : Changed) (m : Memory) → Changes count j c m → HasBlocks count c m.disk → LiesApart c m.disk → 0 < c.size →
    LeadsIn count (at_file j count c file.SizeNow) (with_disk m (written (give_block c.home m.disk) m.disk)) 48
    (at_file j count c (file.Number (blocks_of c.size - 1) wanted.Giving)) m

abbrev pub IndirectsAreGiven : Type 0
IndirectsAreGiven = (count : ℕ) (j : Job) (c : Changed) (m : Memory) → Changes count j c m → is_data_block count c.indirect ≡ true →
    LeadsIn count (at_file j count c file.SizeNow) (with_disk m (written (give_indirect c.home m.disk) m.disk)) 30
    (at_file j count c (file.PutIndirect change.GiveIndirect c.indirect)) m

abbrev pub SizesAreCut : Type 0
SizesAreCut = (count : ℕ) (j : Job) (c : Changed) (m : Memory) → Changes count j c m → c.end < c.size →
    LeadsIn count (at_file j count c file.SizeNow) (with_disk m (written (cut c.home c.end m.disk) m.disk)) 18 (at_file j count c (file.PutSize c.end)) m

-- zeros up to the end, or to the end of the last block
abbrev pub EndsAreFilled : Type 0
EndsAreFilled = (count : ℕ) (j : Job) (c : Changed) (m : Memory) → Changes count j c m → HasBlocks count c m.disk → LiesApart c m.disk →
    let end = fill_end c in
    c.size < end →
    LeadsIn count (at_file j count c file.SizeNow) (with_disk m (written (fill c.home end m.disk) m.disk)) (6 * (end - c.size) + 36)
    (at_file j count c (file.Number (c.size / BLKSIZE) (wanted.Filling c.size))) m

-- ---- the bytes of a file, and a new record

-- a file whose bytes are read or written; its size was read, the number of its indirect block may not have been
pub record HasBytes (count : ℕ) (j : Job) (c : Changed) (m : Memory) : Type 0 where
  pub counted : IsCounted count m.disk
  pub small : AreSmall m
  pub lies : LiesOn count c.home
  pub job : is_bounded_job j ≡ true
  pub bounded : is_bounded_changed c ≡ true
  pub size : size_of m.disk c.home ≡ c.size
  pub size_most : c.size ≤ MAXFILESIZE
  pub numbers : (i : ℕ) → i < blocks_of c.size → is_data_block count (block_number_at m.disk c.home i) ≡ true
  pub indirect : NDIRECT < blocks_of c.size → is_data_block count (indirect_of m.disk c.home) ≡ true

-- the record lies in one block; neither this nor its indirect block is one of its data blocks
pub record BytesLieApart (c : Changed) (byte : ℕ → ℕ) : Type 0 where
  pub one_block : c.home % BLKSIZE + RECORDSIZE ≤ BLKSIZE
  pub own : (i : ℕ) → i < blocks_of c.size → c.home / BLKSIZE ≡ block_number_at byte c.home i → ⊥
  pub indirect : (i : ℕ) → i < blocks_of c.size → NDIRECT < blocks_of c.size → indirect_of byte c.home ≡ block_number_at byte c.home i → ⊥

abbrev pub BytesAreWritten : Type 0
BytesAreWritten = (count : ℕ) (home at n : ℕ) (c : Changed) (m : Memory) → let j = job.Write home at n in
    HasBytes count j c m → c.home ≡ home → BytesLieApart c m.disk → 0 < n → at + n ≤ c.size → n + 8 ≤ 4096 →
    EndsWith count n (with_disk m (written (overwrite home at (bytes_given m.page n) m.disk) m.disk)) (at_file j count c (file.Number (at / BLKSIZE) (wanted.Writing 0))) m

-- what is read is handed back, and the rest of the page stays
abbrev pub BytesAreRead : Type 0
BytesAreRead = (count : ℕ) (home at n : ℕ) (c : Changed) (m : Memory) → let j = job.Read home at n in let plan = read_plan m.disk home at n in
    HasBytes count j c m → c.home ≡ home → 0 < length plan.bytes →
    (page : ℕ → ℕ) × ((k : ℕ) → k < length plan.bytes → page k ≡ slice_index plan.bytes k) × ((k : ℕ) → length plan.bytes ≤ k → page k ≡ m.page k)
    × EndsWith count plan.answer (record m { page = page }) (at_file j count c (file.Number (at / BLKSIZE) (wanted.Reading 0))) m

abbrev pub StatsAreTold : Type 0
StatsAreTold = (count : ℕ) (home : ℕ) (c : Changed) (m : Memory) → let j = job.Stat home in let plan = stat_plan m.disk home in
    LiesOn count home → AreSmall m → is_bounded_job j ≡ true → is_bounded_changed c ≡ true → c.home ≡ home → is_directory_at m.disk home ≡ false →
    kind_at m.disk home ≡ FTYPE_REG → count ≤ 16384 →
    (page : ℕ → ℕ) × ((k : ℕ) → k < length plan.bytes → page k ≡ slice_index plan.bytes k) × ((k : ℕ) → length plan.bytes ≤ k → page k ≡ m.page k)
    × EndsWith count 0 (record m { page = page }) (at_file j count c (file.StatByte 0 false)) m

-- the name of a path becomes that of a record
abbrev pub RecordsAreMade : Type 0
RecordsAreMade = (count : ℕ) (directory slot from : ℕ) (c : Changed) (m : Memory) (path name : List ℕ) → let j = job.Create directory slot from in
    Changes count j c m → c.home ≡ directory → HasBlocks count c m.disk → HasPath m.page path → IsNameAt path from name → slot < 16544 → RECORDSIZE * slot < c.size →
    EndsWith count 0 (with_disk m (written (make_record directory slot name m.disk) m.disk)) (at_file j count c (file.Number (slot / BLKFILES) (wanted.Making slot from))) m

abbrev pub RecordsAreEmptied : Type 0
RecordsAreEmptied = (count : ℕ) (j : Job) (c : Changed) (m : Memory) → LiesOn count c.home → is_bounded (at_file j count c file.Empty) ≡ true →
    EndsWith count 0 (with_disk m (written (empty_it c.home m.disk) m.disk)) (at_file j count c file.Empty) m
