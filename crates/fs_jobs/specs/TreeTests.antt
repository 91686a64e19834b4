-- What a job tests of all that it reads from a disk, so that nothing is read or stored past it, whatever the bytes are.
use Rattle.std.specs.Prelude.{ℕ, ◌%◌}
use Rattle.jos_base.specs.Words.{negated}
use Rattle.fs_jobs.specs.declared.place.Changed.{Changed}
use Rattle.fs_jobs.specs.declared.place.FilePlace.{FilePlace}
use Rattle.fs_jobs.specs.declared.place.Job.{Job}
use Rattle.fs_jobs.specs.declared.place.TreePlace.TheVariants.{Changing, Walking}
use Rattle.fs_jobs.specs.declared.place.TreeState.{TreeState}
use Rattle.fs_jobs.specs.declared.place.WalkPlace.{WalkPlace}
use Rattle.fs_jobs.specs.declared.asks.TreeNext.{TreeNext}
use Rattle.fs_jobs.specs.declared.asks.TreeNext.TheVariants.{Answer, GoOn}

-- a job is refused with an error
abbrev pub refused : ℕ → TreeNext
refused error = Answer (negated error)

-- it goes on on its way, and with a record whose blocks are read or change
abbrev pub walk_on : TreeState → WalkPlace → TreeNext
walk_on state place = GoOn (record state { place = Walking place })

abbrev pub change_on : TreeState → Job → Changed → FilePlace → TreeNext
change_on state job changed place = GoOn (record state { job = job; place = Changing changed place })

-- the byte of a word's lowest eight bits
abbrev pub low_byte : ℕ → ℕ
low_byte word = word % 256
