-- What a job asks on the way of its path, and where it goes by the reply.
-- (MIT 6.828, lab 5: fs/fs.c, walk_path and dir_lookup.)
use Rattle.std.specs.Prelude.{ℕ, ◌+◌, ◌-◌, ◌*◌, ◌/◌, ◌%◌, ◌==◌, ◌&&◌, ◌||◌, nat_le, nat_lt, not, Bool, true, false, if◌then◌else◌}
use Rattle.jos_base.specs.declared.numbers.TheConstants.{E_BAD_PATH, E_FILE_EXISTS, E_INVAL, E_NOT_FOUND, E_NO_DISK}
use Rattle.jos_base.specs.Words.{has_bit}
use Rattle.fs_layout.specs.declared.numbers.TheConstants.{BLKFILES, BLKSIZE, FS_MAGIC, FTYPE_DIR, FTYPE_REG, MAXFILESIZE, MAXNAMELEN, MAXPATHLEN}
use Rattle.fs_layout.specs.declared.numbers.TheConstants.{NDIRECT, O_CREAT, O_EXCL, O_TRUNC, RECORDSIZE}
use Rattle.fs_layout.specs.DiskImage.{is_data_block, is_good_count, root_place}
use Rattle.fs_layout.specs.FileActs.{is_slash}
use Rattle.fs_jobs.specs.declared.place.Changed.{Changed}
use Rattle.fs_jobs.specs.declared.place.FilePlace.TheVariants as file
use Rattle.fs_jobs.specs.declared.place.Job.{Job}
use Rattle.fs_jobs.specs.declared.place.Job.TheVariants as job
use Rattle.fs_jobs.specs.declared.place.Seek.{Seek}
use Rattle.fs_jobs.specs.declared.place.TheConstants.{NONE}
use Rattle.fs_jobs.specs.declared.place.TreeState.{TreeState}
use Rattle.fs_jobs.specs.declared.place.WalkPlace.{WalkPlace}
use Rattle.fs_jobs.specs.declared.place.WalkPlace.TheVariants as walk
use Rattle.fs_jobs.specs.declared.asks.TreeAsk.{TreeAsk}
use Rattle.fs_jobs.specs.declared.asks.TreeAsk.TheVariants as ask
use Rattle.fs_jobs.specs.declared.asks.TreeNext.{TreeNext}
use Rattle.fs_jobs.specs.declared.asks.TreeNext.TheVariants.{Answer}
use Rattle.fs_jobs.specs.declared.tests.TheConstants.{DAMAGED}
use Rattle.fs_jobs.specs.RecordFields.{direct_at, indirect_at, kind_place, size_at}
use Rattle.fs_jobs.specs.TreeTests.{change_on, low_byte, refused, walk_on}

-- the record at hand
abbrev pub record_at : Seek → ℕ → ℕ
record_at seek block = BLKSIZE * block + RECORDSIZE * (seek.slot % BLKFILES)

-- ---- what is asked

abbrev pub slot_number_at : Seek → ℕ
slot_number_at seek =
    if nat_lt (seek.slot / BLKFILES) NDIRECT then direct_at seek.directory (seek.slot / BLKFILES) else indirect_at seek.directory

abbrev pub walk_ask : WalkPlace → TreeAsk
walk_ask (walk.Path at run) = ask.Request at
walk_ask walk.Magic = ask.Load BLKSIZE
walk_ask walk.Count = ask.Load (BLKSIZE + 4)
walk_ask walk.RootKind = ask.Load (kind_place root_place)
walk_ask (walk.Component from home) = ask.Request from
walk_ask (walk.DirectoryKind from directory) = ask.Load (kind_place directory)
walk_ask (walk.DirectorySize from directory) = ask.Load (size_at directory)
walk_ask (walk.Slot seek) = ask.Load (slot_number_at seek)
walk_ask (walk.SlotIndirect seek indirect) = ask.Load (BLKSIZE * indirect + 4 * (seek.slot / BLKFILES - NDIRECT))
walk_ask (walk.NameByte seek block k) = ask.LoadByte (record_at seek block + k)
walk_ask (walk.PathByte seek block k byte) = ask.Request (seek.from + k)
walk_ask (walk.Missing seek at within) = ask.Request at
walk_ask (walk.FoundKind home) = ask.Load (kind_place home)

-- ---- where it goes

-- the record whose block is not known is looked at; behind the last there is no such name
abbrev pub at_slot : TreeState → Seek → TreeNext
at_slot state seek =
    if nat_le seek.slots seek.slot then walk_on state (walk.Missing seek seek.from true) else walk_on state (walk.Slot seek)

abbrev pub behind : Seek → Seek
behind seek = record seek { slot = seek.slot + 1 }

-- the record at hand is not the one
abbrev pub next_slot : TreeState → Seek → ℕ → TreeNext
next_slot state seek block =
    if ((behind seek).slot % BLKFILES == 0) || nat_le seek.slots (behind seek).slot then at_slot state (behind seek)
    else walk_on state (walk.NameByte (behind seek) block 0)

abbrev pub at_block : TreeState → Seek → ℕ → TreeNext
at_block state seek block =
    if is_data_block state.count block then walk_on state (walk.NameByte seek block 0) else refused DAMAGED

abbrev pub wants_new : Job → Bool
wants_new (job.Open mode) = has_bit mode O_CREAT && has_bit mode O_EXCL
wants_new _ = false

-- the path leads to this record
abbrev pub found : TreeState → ℕ → TreeNext
found state home = if wants_new state.job then refused E_FILE_EXISTS else walk_on state (walk.FoundKind home)

abbrev pub creates : Job → Bool
creates (job.Open mode) = has_bit mode O_CREAT
creates _ = false

-- a new file's record is the first that is empty, or the first of a new block
abbrev pub slot_taken : Seek → ℕ
slot_taken seek = if seek.empty == NONE then seek.slots else seek.empty

abbrev pub size_wanted : Seek → ℕ
size_wanted seek = if seek.empty == NONE then seek.slots * RECORDSIZE + BLKSIZE else seek.slots * RECORDSIZE

abbrev pub changed_to : ℕ → ℕ → ℕ → Changed
changed_to home size end = record { home = home; size = size; indirect = 0; end = end }

-- the last name of the path is missing in the directory
abbrev pub missing : TreeState → Seek → TreeNext
missing state seek =
    if not (creates state.job) then refused E_NOT_FOUND
    else if nat_lt MAXFILESIZE (size_wanted seek) then refused E_NO_DISK
    else change_on state (job.Create seek.directory (slot_taken seek) seek.from)
    (changed_to seek.directory (seek.slots * RECORDSIZE) (size_wanted seek)) file.Indirect

-- the record of a job that has one
abbrev pub begun_at : TreeState → ℕ → TreeNext
begun_at state home = change_on state state.job (changed_to home 0 0) file.Kind

abbrev pub begun : TreeState → Job → TreeNext
begun state (job.Open mode) = walk_on state (walk.Component 0 root_place)
begun state job.Find = walk_on state (walk.Component 0 root_place)
begun state (job.Remove home) = begun_at state home
begun state (job.Read home at count) = begun_at state home
begun state (job.Write home at count) = begun_at state home
begun state (job.Create directory slot from) = begun_at state directory
begun state (job.SetSize home size) = begun_at state home
begun state (job.Stat home) = begun_at state home
begun state (job.Size home) = begun_at state home

-- a file is opened, or found: then its record's place is told
abbrev pub opened : TreeState → Job → ℕ → TreeNext
opened state (job.Open mode) home =
    if has_bit mode O_TRUNC then change_on state (job.SetSize home 0) (changed_to home 0 0) file.SizeNow else Answer 0
opened state _ home = Answer home

abbrev pub first_empty : Seek → Seek
first_empty seek = if seek.empty == NONE then record seek { empty = seek.slot } else seek

abbrev pub run_behind : ℕ → ℕ → ℕ
run_behind run byte = if is_slash byte then 0 else run + 1

abbrev pub walk_next : TreeState → WalkPlace → ℕ → TreeNext
walk_next state (walk.Path at run) word =
    if low_byte word == 0 then walk_on state walk.Magic
    else if nat_le MAXNAMELEN (run_behind run (low_byte word)) || nat_le MAXPATHLEN (at + 1) then refused E_BAD_PATH
    else walk_on state (walk.Path (at + 1) (run_behind run (low_byte word)))
walk_next state walk.Magic word = if word == FS_MAGIC then walk_on state walk.Count else refused DAMAGED
walk_next state walk.Count word =
    if is_good_count word then walk_on (record state { count = word }) walk.RootKind else refused DAMAGED
walk_next state walk.RootKind word = if word == FTYPE_DIR then begun state state.job else refused DAMAGED
walk_next state (walk.Component from home) word =
    if low_byte word == 0 then found state home
    else if is_slash (low_byte word) then walk_on state (walk.Component (from + 1) home)
    else walk_on state (walk.DirectoryKind from home)
walk_next state (walk.DirectoryKind from directory) word =
    if word == FTYPE_DIR then walk_on state (walk.DirectorySize from directory)
    else if word == FTYPE_REG then refused E_NOT_FOUND
    else refused DAMAGED
walk_next state (walk.DirectorySize from directory) word =
    if (word % BLKSIZE == 0) && nat_le word MAXFILESIZE then
    at_slot state (record { from = from; directory = directory; slots = word / RECORDSIZE; slot = 0; empty = NONE })
    else refused DAMAGED
walk_next state (walk.Slot seek) word =
    if nat_lt (seek.slot / BLKFILES) NDIRECT then at_block state seek word
    else if is_data_block state.count word then walk_on state (walk.SlotIndirect seek word)
    else refused DAMAGED
walk_next state (walk.SlotIndirect seek indirect) word = at_block state seek word
walk_next state (walk.NameByte seek block k) word =
    if (k == 0) && (low_byte word == 0) then next_slot state (first_empty seek) block
    else walk_on state (walk.PathByte seek block k (low_byte word))
walk_next state (walk.PathByte seek block k byte) word =
    if (low_byte word == 0) || is_slash (low_byte word) then
    if byte == 0 then walk_on state (walk.Component (seek.from + k) (record_at seek block)) else next_slot state seek block
    else if low_byte word == byte then
    if nat_le MAXNAMELEN (k + 1) then refused DAMAGED else walk_on state (walk.NameByte seek block (k + 1))
    else next_slot state seek block
walk_next state (walk.Missing seek at within) word =
    if low_byte word == 0 then missing state seek
    else if is_slash (low_byte word) then walk_on state (walk.Missing seek (at + 1) false)
    else if within then walk_on state (walk.Missing seek (at + 1) true)
    else refused E_NOT_FOUND
walk_next state (walk.FoundKind home) word =
    if word == FTYPE_DIR then refused E_INVAL
    else if word == FTYPE_REG then opened state state.job home
    else refused DAMAGED
