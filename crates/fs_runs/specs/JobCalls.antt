-- How many calls of the kernel the run of a job is, over a cache that is refused no page. Each step is one; and before one that asks for a byte or a
-- word of another block of the disk than the last that asked for one, the cache makes five at most.
use Rattle.std.specs.Prelude.{◌≡◌, ◌<◌, ◌≤◌, ℕ, ◌+◌, ◌-◌, ◌*◌, ◌/◌, ◌%◌, ◌^◌, ◌==◌, ◌&&◌, Bool, true, false, max, Option, Some, None, if◌then◌else◌}
use Rattle.jos_base.specs.declared.numbers.TheConstants.{PGSIZE}
use Rattle.fs_layout.specs.declared.numbers.TheConstants.{BLKFILES, BLKSIZE, MAXNAMELEN, NINDIRECT, RECORDSIZE}
use Rattle.fs_layout.specs.FileTree.{FileAct, open_path, read_file, remove_path, stat_file}
use Rattle.fs_jobs.specs.declared.place.Changed.{Changed}
use Rattle.fs_jobs.specs.declared.place.FilePlace.{FilePlace}
use Rattle.fs_jobs.specs.declared.place.FilePlace.TheVariants as file
use Rattle.fs_jobs.specs.declared.place.Job.{Job}
use Rattle.fs_jobs.specs.declared.place.Job.TheVariants as job
use Rattle.fs_jobs.specs.declared.place.TreePlace.{TreePlace}
use Rattle.fs_jobs.specs.declared.place.TreePlace.TheVariants.{Changing, Walking}
use Rattle.fs_jobs.specs.declared.place.TreeState.{TreeState}
use Rattle.fs_jobs.specs.declared.place.WalkPlace.{WalkPlace}
use Rattle.fs_jobs.specs.declared.place.WalkPlace.TheVariants as walk
use Rattle.fs_jobs.specs.declared.place.Wanted.{Wanted}
use Rattle.fs_jobs.specs.declared.place.Wanted.TheVariants as wanted
use Rattle.fs_jobs.specs.declared.asks.TreeAsk.{TreeAsk}
use Rattle.fs_jobs.specs.declared.asks.TreeAsk.TheVariants as ask
use Rattle.fs_changes.specs.ChangePlans.{fill_end, first_byte, record_words, stat_bytes, takes}
use Rattle.fs_runs.specs.TreePlans.{ask_by}

-- a block that is not in the cache is looked up by two calls, and gets its page, its bytes and a clean entry by three
abbrev pub BLOCK_CALLS_MAX : ℕ
BLOCK_CALLS_MAX = 5

-- ---- the calls of a step

-- the block that was found last, if one was
abbrev pub is_same : Option ℕ → ℕ → Bool
is_same None block = false
is_same (Some other) block = other == block

abbrev pub calls_at : Option ℕ → ℕ → ℕ
calls_at found block = if is_same found block then 1 else BLOCK_CALLS_MAX + 1

abbrev pub calls_for : Option ℕ → TreeAsk → ℕ
calls_for found (ask.Load at) = calls_at found (at / BLKSIZE)
calls_for found (ask.LoadByte at) = calls_at found (at / BLKSIZE)
calls_for found (ask.Store at word) = calls_at found (at / BLKSIZE)
calls_for found (ask.StoreByte at byte) = calls_at found (at / BLKSIZE)
calls_for found (ask.Request at) = 1
calls_for found (ask.HandBack at byte) = 1

abbrev pub found_behind : Option ℕ → TreeAsk → Option ℕ
found_behind found (ask.Load at) = Some (at / BLKSIZE)
found_behind found (ask.LoadByte at) = Some (at / BLKSIZE)
found_behind found (ask.Store at word) = Some (at / BLKSIZE)
found_behind found (ask.StoreByte at byte) = Some (at / BLKSIZE)
found_behind found (ask.Request at) = found
found_behind found (ask.HandBack at byte) = found

-- the most of them
abbrev pub ask_calls : TreeAsk → ℕ
ask_calls (ask.Request at) = 1
ask_calls (ask.HandBack at byte) = 1
ask_calls _ = BLOCK_CALLS_MAX + 1

-- ---- the most of a whole job, over a disk of so many blocks

-- where a path is looked up
abbrev pub find_calls_max : ℕ → ℕ
find_calls_max count = 2 ^ 12 * count + 6200

-- a size is asked for by five loads of a block
abbrev pub size_calls_max : ℕ
size_calls_max = 30

-- where an act's changes are made
abbrev pub changes_calls_max : FileAct → ℕ → ℕ
changes_calls_max (open_path path mode) count = count + 50000
changes_calls_max (remove_path path) count = count + 50000
changes_calls_max (read_file way at many) count = 0
changes_calls_max (stat_file way) count = 0
changes_calls_max other count = 6410 * count + 26000

-- The job of an act. One that opens or removes leaves room for a path that is looked up beside it.
abbrev pub act_calls_max : FileAct → ℕ → ℕ
act_calls_max (open_path path mode) count = 2 ^ 12 * count + 59000
act_calls_max (remove_path path) count = 2 ^ 12 * count + 55000
act_calls_max other count = 2 ^ 13 * count + 65000

-- no job makes more steps
abbrev pub job_steps_max : ℕ → ℕ
job_steps_max count = 2 ^ 17 + 2 ^ 14 * count

-- ---- on the way of a path

-- the first byte of the first record of a block
abbrev pub is_first : ℕ → ℕ → Bool
is_first slot k = (k == 0) && (slot % BLKFILES == 0)

abbrev pub walk_calls : WalkPlace → ℕ
walk_calls (walk.DirectoryKind from directory) = 1
walk_calls (walk.DirectorySize from directory) = 1
walk_calls (walk.FoundKind home) = 1
walk_calls (walk.NameByte seek block k) = if is_first seek.slot k then BLOCK_CALLS_MAX + 1 else 1
walk_calls walk.Magic = BLOCK_CALLS_MAX + 1
walk_calls walk.Count = BLOCK_CALLS_MAX + 1
walk_calls walk.RootKind = BLOCK_CALLS_MAX + 1
walk_calls (walk.Slot seek) = BLOCK_CALLS_MAX + 1
walk_calls (walk.SlotIndirect seek indirect) = BLOCK_CALLS_MAX + 1
walk_calls _ = 1

-- The block of the record or of the name at hand is the one that was found last; the number of a block is looked up for its first record.
abbrev pub IsNear : Option ℕ → ℕ → Type 0
IsNear found home = (found ≡ Some (home / BLKSIZE)) × (home % BLKSIZE + RECORDSIZE ≤ BLKSIZE)

abbrev pub IsWarm : Option ℕ → WalkPlace → Type 0
IsWarm found (walk.Component from home) = IsNear found home
IsWarm found (walk.DirectoryKind from directory) = IsNear found directory
IsWarm found (walk.DirectorySize from directory) = IsNear found directory
IsWarm found (walk.FoundKind home) = IsNear found home
IsWarm found (walk.Slot seek) = (seek.slot % BLKFILES == 0) ≡ true
IsWarm found (walk.SlotIndirect seek indirect) = (seek.slot % BLKFILES == 0) ≡ true
IsWarm found (walk.NameByte seek block k) = (k < MAXNAMELEN) × (is_first seek.slot k ≡ false → found ≡ Some block)
IsWarm found (walk.PathByte seek block k byte) = (k < MAXNAMELEN) × (found ≡ Some block)
IsWarm found _ = Unit {0}

abbrev pub IsWarmAt : Option ℕ → TreePlace → Type 0
IsWarmAt found (Walking place) = IsWarm found place
IsWarmAt found (Changing changed place) = Unit {0}

abbrev pub place_calls : TreeState → TreePlace → ℕ
place_calls state (Walking place) = walk_calls place
place_calls state (Changing changed place) = ask_calls (ask_by state (Changing changed place))

abbrev pub calls_most : TreeState → ℕ
calls_most state = place_calls state state.place

-- ---- at a record whose blocks are read or change

-- the words of the bitmap
abbrev pub bitmap_words : ℕ → ℕ
bitmap_words count = (count + 31) / 32

-- the bytes that are moved, from one on: seven calls for each, and twelve where they come to the next block
abbrev pub bytes_calls : Job → ℕ → ℕ
bytes_calls j k = 7 * (PGSIZE - k) + 12 * ((first_byte j + PGSIZE) / BLKSIZE - (first_byte j + k) / BLKSIZE)

-- the name of a record that is made, from a byte on, and its words behind that
abbrev pub words_calls : ℕ → ℕ
words_calls word = 6 * (record_words - word) + 13

abbrev pub name_calls : ℕ → ℕ
name_calls k = 7 * (MAXNAMELEN - k) + 6 * record_words + 20

-- what comes behind the last change of a record's blocks
abbrev pub last_calls : Job → ℕ
last_calls (job.Read home at count) = bytes_calls (job.Read home at count) 0 + 12
last_calls (job.Write home at count) = bytes_calls (job.Write home at count) 0 + 12
last_calls (job.Create directory slot from) = name_calls 1 + 12
last_calls (job.Remove home) = 6
last_calls (job.Stat home) = 7 * stat_bytes + 7
last_calls _ = 0

-- before its first: the record is looked at, and the free blocks are counted
abbrev pub head_calls : ℕ → Job → ℕ
head_calls count j = 6 * bitmap_words count + last_calls j + 36

-- from where a number was read
abbrev pub wanted_calls : Job → Changed → Wanted → ℕ
wanted_calls j c (wanted.Reading k) = bytes_calls j k + 6
wanted_calls j c (wanted.Writing k) = bytes_calls j k
wanted_calls j c (wanted.Filling at) = last_calls j + 6 * (fill_end c - at) + 6
wanted_calls j c wanted.Giving = last_calls j + 36
wanted_calls j c (wanted.Making slot from) = name_calls 1

-- At a number of a block that is given back, or filled, a change begins; what is left of it is told by its weight.
abbrev pub number_calls : Job → Changed → Wanted → ℕ
number_calls j c (wanted.Filling at) = last_calls j
number_calls j c wanted.Giving = last_calls j
number_calls j c it = wanted_calls j c it + 12

-- how many calls may come, up to the first step of the next change, or to the end
abbrev pub change_calls : ℕ → Job → Changed → FilePlace → ℕ
change_calls count j c file.Kind = head_calls count j + 12
change_calls count j c file.Size = head_calls count j + 6
change_calls count j c file.Indirect = head_calls count j
change_calls count j c (file.Free word free) = last_calls j + 6 * (bitmap_words count - word) + 18
change_calls count j c file.SizeNow = last_calls j + 12
change_calls count j c file.IndirectNow = last_calls j + 6
change_calls count j c (file.Number i it) = number_calls j c it
change_calls count j c (file.NumberIndirect i it) = wanted_calls j c it + 6
change_calls count j c (file.Reading block k) = bytes_calls j k + 6
change_calls count j c (file.Handing block k byte) = bytes_calls j k
change_calls count j c (file.Gathering block k) = bytes_calls j k
change_calls count j c (file.Writing block k byte) = max 18 (bytes_calls j k - 1)
change_calls count j c (file.Filling block at) = last_calls j + 6 * (fill_end c - at) + 6
change_calls count j c (file.PutSize size) = last_calls j
change_calls count j c (file.Lowest change word) =
    if word == 0 then last_calls j else last_calls j + 6 * (bitmap_words count - word) + 6 * NINDIRECT + 54
change_calls count j c (file.Mark change block) = last_calls j + (if takes change then 6 * NINDIRECT + 48 else 24)
change_calls count j c (file.PutMark change block byte) = last_calls j + (if takes change then 6 * NINDIRECT + 42 else 18)
change_calls count j c (file.Zero change block word) = last_calls j + 6 * (NINDIRECT - word) + 36
change_calls count j c (file.PutLess block) = last_calls j + 36
change_calls count j c (file.PutNumber change block) = last_calls j + (if takes change then 24 else 30)
change_calls count j c (file.PutIndirect change block) = last_calls j + (if takes change then 18 else 0)
change_calls count j c file.PutMore = last_calls j + 18
change_calls count j c (file.MakeName new from k) = name_calls k
change_calls count j c (file.PutName new from k byte ended) = name_calls k - 1
change_calls count j c (file.MakeWord new from word) = words_calls word
change_calls count j c (file.MakeFirst new from) = 7
change_calls count j c (file.PutFirst new byte) = 6
change_calls count j c file.Empty = 6
change_calls count j c (file.StatByte k ended) = 7 * (stat_bytes - k) + 7
change_calls count j c (file.HandStat k byte ended) = 7 * (stat_bytes - k) + 1

-- a block is found in the bitmap, taken, and filled with zeros
abbrev pub take_calls : ℕ → ℕ
take_calls count = 6 * bitmap_words count + 6 * NINDIRECT + 60

-- What a change of the record's blocks weighs, at its first step: its calls, up to where the size is read for the next.
abbrev pub change_weight : ℕ → Changed → FilePlace → ℕ
change_weight count c (file.Number i (wanted.Filling at)) = 6 * (fill_end c - at) + 18
change_weight count c (file.Number i wanted.Giving) = 48
change_weight count c (file.PutSize size) = 18
change_weight count c (file.PutIndirect change block) = if takes change then 0 else 30
change_weight count c (file.Lowest change word) = if word == 0 then take_calls count else 0
change_weight count c _ = 0

-- ---- of a state at a record

abbrev pub left_by : TreeState → TreePlace → ℕ
left_by state (Walking place) = 0
left_by state (Changing changed place) = change_calls state.count state.job changed place

abbrev pub calls_left : TreeState → ℕ
calls_left state = left_by state state.place

abbrev pub weight_by : TreeState → TreePlace → ℕ
weight_by state (Walking place) = 0
weight_by state (Changing changed place) = change_weight state.count changed place

abbrev pub weight : TreeState → ℕ
weight state = weight_by state state.place

abbrev pub is_changing : TreePlace → Bool
is_changing (Walking place) = false
is_changing (Changing changed place) = true
