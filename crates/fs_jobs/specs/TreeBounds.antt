-- The numbers with which a job stands are small enough that no place that is computed from them runs over. All that a job comes to by
-- itself are.
use Rattle.std.specs.Prelude.{ℕ, ◌^◌, ◌&&◌, nat_lt, Bool, true}
use Rattle.fs_jobs.specs.declared.place.Changed.{Changed}
use Rattle.fs_jobs.specs.declared.place.FilePlace.{FilePlace}
use Rattle.fs_jobs.specs.declared.place.FilePlace.TheVariants as file
use Rattle.fs_jobs.specs.declared.place.Job.{Job}
use Rattle.fs_jobs.specs.declared.place.Job.TheVariants as job
use Rattle.fs_jobs.specs.declared.place.Seek.{Seek}
use Rattle.fs_jobs.specs.declared.place.TreePlace.{TreePlace}
use Rattle.fs_jobs.specs.declared.place.TreePlace.TheVariants.{Changing, Walking}
use Rattle.fs_jobs.specs.declared.place.TreeState.{TreeState}
use Rattle.fs_jobs.specs.declared.place.WalkPlace.{WalkPlace}
use Rattle.fs_jobs.specs.declared.place.WalkPlace.TheVariants as walk
use Rattle.fs_jobs.specs.declared.place.Wanted.{Wanted}
use Rattle.fs_jobs.specs.declared.place.Wanted.TheVariants as wanted

-- the number of a block
abbrev pub is_block : ℕ → Bool
is_block n = nat_lt n (2 ^ 16)

-- of records of a directory, or blocks of a file, or words of a bitmap
abbrev pub is_count : ℕ → Bool
is_count n = nat_lt n (2 ^ 20)

-- a place on a disk, or in a file
abbrev pub is_place : ℕ → Bool
is_place n = nat_lt n (2 ^ 28)

abbrev pub is_bounded_job : Job → Bool
is_bounded_job (job.Open mode) = true
is_bounded_job job.Find = true
is_bounded_job (job.Remove home) = is_place home
is_bounded_job (job.Read home at count) = is_place home && nat_lt at (2 ^ 31)
is_bounded_job (job.Write home at count) = is_place home && nat_lt at (2 ^ 31)
is_bounded_job (job.Create directory slot from) = is_place directory && is_count slot && is_place from
is_bounded_job (job.SetSize home size) = is_place home
is_bounded_job (job.Stat home) = is_place home
is_bounded_job (job.Size home) = is_place home

abbrev pub is_bounded_seek : Seek → Bool
is_bounded_seek seek = is_place seek.from && is_place seek.directory && is_count seek.slots && is_count seek.slot

abbrev pub is_bounded_walk : WalkPlace → Bool
is_bounded_walk (walk.Path at run) = is_place at && is_place run
is_bounded_walk walk.Magic = true
is_bounded_walk walk.Count = true
is_bounded_walk walk.RootKind = true
is_bounded_walk (walk.Component from home) = is_place from && is_place home
is_bounded_walk (walk.DirectoryKind from directory) = is_place from && is_place directory
is_bounded_walk (walk.DirectorySize from directory) = is_place from && is_place directory
is_bounded_walk (walk.Slot seek) = is_bounded_seek seek
is_bounded_walk (walk.SlotIndirect seek indirect) = is_bounded_seek seek && is_block indirect
is_bounded_walk (walk.NameByte seek block k) = is_bounded_seek seek && is_block block && is_place k
is_bounded_walk (walk.PathByte seek block k byte) = is_bounded_seek seek && is_block block && is_place k
is_bounded_walk (walk.Missing seek at within) = is_bounded_seek seek && is_place at
is_bounded_walk (walk.FoundKind home) = is_place home

abbrev pub is_bounded_wanted : Wanted → Bool
is_bounded_wanted (wanted.Reading k) = is_place k
is_bounded_wanted (wanted.Writing k) = is_place k
is_bounded_wanted (wanted.Filling at) = is_place at
is_bounded_wanted wanted.Giving = true
is_bounded_wanted (wanted.Making slot from) = is_count slot && is_place from

abbrev pub is_bounded_changed : Changed → Bool
is_bounded_changed c = is_place c.home && is_place c.size && is_block c.indirect && is_place c.end

abbrev pub is_bounded_file : FilePlace → Bool
is_bounded_file (file.Free word free) = is_count word && is_place free
is_bounded_file (file.Number i wanted) = is_count i && is_bounded_wanted wanted
is_bounded_file (file.NumberIndirect i wanted) = is_count i && is_bounded_wanted wanted
is_bounded_file (file.Reading block k) = is_block block && is_place k
is_bounded_file (file.Handing block k byte) = is_block block && is_place k
is_bounded_file (file.Gathering block k) = is_block block && is_place k
is_bounded_file (file.Writing block k byte) = is_block block && is_place k
is_bounded_file (file.Filling block at) = is_block block && is_place at
is_bounded_file (file.PutSize size) = is_place size
is_bounded_file (file.Lowest change word) = is_count word
is_bounded_file (file.Mark change block) = is_block block
is_bounded_file (file.PutMark change block byte) = is_block block
is_bounded_file (file.Zero change block word) = is_block block && is_count word
is_bounded_file (file.PutLess block) = is_block block
is_bounded_file (file.PutNumber change block) = is_block block
is_bounded_file (file.PutIndirect change block) = is_block block
is_bounded_file (file.MakeName new from k) = is_place new && is_place from && is_place k
is_bounded_file (file.PutName new from k byte ended) = is_place new && is_place from && is_place k
is_bounded_file (file.MakeWord new from word) = is_place new && is_place from && is_count word
is_bounded_file (file.MakeFirst new from) = is_place new && is_place from
is_bounded_file (file.PutFirst new byte) = is_place new
is_bounded_file (file.StatByte k ended) = is_place k
is_bounded_file (file.HandStat k byte ended) = is_place k
is_bounded_file _ = true

abbrev pub is_bounded_place : TreePlace → Bool
is_bounded_place (Walking place) = is_bounded_walk place
is_bounded_place (Changing changed place) = is_bounded_changed changed && is_bounded_file place

abbrev pub is_bounded : TreeState → Bool
is_bounded state = is_block state.count && is_bounded_job state.job && is_bounded_place state.place
