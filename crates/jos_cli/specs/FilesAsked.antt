-- Which calls a command makes: those on files, and then those that write its notes. (This system's own.)
use Rattle.std.specs.Prelude.{◌≡◌, ℕ, ◌+◌, ◌⊎◌, List, [], ◌∷◌, ◌++◌, replicate, Option, Some, None, option_map}
use Rattle.jos_host.specs.declared.host.HostCall.TheVariants.{Size, Read, Create, Write, NoteWrite}
use Rattle.jos_host.specs.Asked.{Asked, and_asked}
use Rattle.jos_host.specs.Frames.{Around, from_to}
use Rattle.fs_image.specs.DiskHeld.{IsReadInPieces}
use Rattle.jos_words.specs.Arguments.{Word}
use Rattle.jos_words.specs.Commands.{Command, Mkfs, Gen, exo, run, demo, mkfs, ls, cat, gen}
use Rattle.jos_run.specs.DiskTouches.{AreDiskCalls}
use Rattle.jos_cli.specs.declared.outcome.Which.{Which}
use Rattle.jos_cli.specs.Limits.{limit_of_seed}
use Rattle.jos_cli.specs.Found.{Sources, sources_of_exo}

-- a file is asked for its size, and read whole by one call
abbrev pub read_calls : List ℕ → List Asked
read_calls file = record { call = Size; name = file } ∷ record { call = Read; name = file } ∷ []

abbrev pub schedule_calls : Option Word → List Asked
schedule_calls None = []
schedule_calls (Some word) = read_calls word.text

unfoldable pub files_calls : List Word → List Asked
files_calls [] = []
files_calls (word ∷ words) = read_calls word.text ++ files_calls words

-- a file is made empty, and written whole by one call
abbrev pub write_calls : List ℕ → List Asked
write_calls file = record { call = Create; name = file } ∷ record { call = Write; name = file } ∷ []

-- the files of `exo`
abbrev pub source_calls : Sources → List Asked
source_calls sources = schedule_calls sources.schedule ++ files_calls sources.images

abbrev pub mkfs_calls : Mkfs → List Asked
mkfs_calls m = files_calls m.files ++ write_calls m.disk.text

-- The calls are made in their order, each once; it may end before any of them, and no other call is made.
abbrev pub AsksFor : List Asked → Around (Option (List Asked)) → Type 0
AsksFor [] log = log.after ≡ log.before
AsksFor (c ∷ rest) log = (log.after ≡ log.before) ⊎ AsksFor rest (from_to (and_asked log.before c.call c.name) log.after)

-- all of them are made
abbrev pub AsksAll : List Asked → Around (Option (List Asked)) → Type 0
AsksAll [] log = log.after ≡ log.before
AsksAll (c ∷ rest) log = AsksAll rest (from_to (and_asked log.before c.call c.name) log.after)

-- A schedule is read; where all calls of that are made, a disk may be read in pieces behind them.
abbrev pub AsksScheduleAndDisk : Option Word → List ℕ → Around (Option (List Asked)) → Type 0
AsksScheduleAndDisk schedule disk log =
    AsksFor (schedule_calls schedule) log
    ⊎ ((between : Option (List Asked)) × AsksAll (schedule_calls schedule) (from_to log.before between)
    × IsReadInPieces disk (from_to between log.after))

-- Blocks of a disk are read and written.
abbrev pub MovesBlocks : List ℕ → Around (Option (List Asked)) → Type 0
MovesBlocks disk log = (calls : List Asked) × AreDiskCalls disk calls × (log.after ≡ option_map (λ told. told ++ calls) log.before)

-- the same behind all that is read for a run
abbrev pub AsksProgramAndBlocks : Option Word → List ℕ → Around (Option (List Asked)) → Type 0
AsksProgramAndBlocks schedule disk log =
    (between : Option (List Asked)) × AsksScheduleAndDisk schedule disk (from_to log.before between) × MovesBlocks disk (from_to between log.after)

-- A disk is made; where all calls of that are made, a run of it asks behind them, without a schedule.
abbrev pub AsksMadeAndRun : List ℕ → Around (Option (List Asked)) → Type 0
AsksMadeAndRun disk log =
    AsksFor (write_calls disk) log
    ⊎ ((between : Option (List Asked)) × AsksAll (write_calls disk) (from_to log.before between)
    × AsksProgramAndBlocks None disk (from_to between log.after))

-- where the seed passes a limit, nothing is asked for
abbrev pub AsksWorkBy : Option Which → List ℕ → Around (Option (List Asked)) → Type 0
AsksWorkBy (Some which) disk log = AsksFor [] log
AsksWorkBy None disk log = AsksMadeAndRun disk log

abbrev pub AsksWork : Gen → Around (Option (List Asked)) → Type 0
AsksWork g log = AsksWorkBy (limit_of_seed g.seed) g.disk.text log

-- The calls on files of a command. `run`, `ls` and `cat` read the disk in pieces, and the run itself moves blocks of it; `gen` makes
-- the disk first.
abbrev pub AsksFiles : Option Command → Around (Option (List Asked)) → Type 0
AsksFiles None log = AsksFor [] log
AsksFiles (Some (exo e)) log = AsksFor (source_calls (sources_of_exo e)) log
AsksFiles (Some (run r)) log = AsksProgramAndBlocks r.schedule r.disk.text log
AsksFiles (Some (demo d)) log = AsksFor (write_calls d.file.text) log
AsksFiles (Some (mkfs m)) log = AsksFor (mkfs_calls m) log
AsksFiles (Some (ls l)) log = IsReadInPieces l.disk.text log
AsksFiles (Some (cat c)) log = IsReadInPieces c.disk.text log
AsksFiles (Some (gen g)) log = AsksWork g log

-- ---- the notes

-- calls that write notes
unfoldable pub note_calls : ℕ → List Asked
note_calls count = replicate count (record { call = NoteWrite; name = [] })

-- Notes are written, by so many calls, and nothing else is asked for.
abbrev pub AsksNotes : ℕ → Around (Option (List Asked)) → Type 0
AsksNotes count log = log.after ≡ option_map (λ calls. calls ++ note_calls count) log.before

-- by some calls, or by none
abbrev pub AsksSomeNotes : Around (Option (List Asked)) → Type 0
AsksSomeNotes log = (count : ℕ) × AsksNotes count log

-- by one call at least
abbrev pub AsksNote : Around (Option (List Asked)) → Type 0
AsksNote log = (more : ℕ) × AsksNotes (more + 1) log

-- ---- all of it

-- The calls on files come first. Behind them notes are written, whatever is answered, and no other call is made.
abbrev pub AsksOnly : Option Command → Around (Option (List Asked)) → Type 0
AsksOnly command log =
    (between : Option (List Asked)) × AsksFiles command (from_to log.before between) × AsksNote (from_to between log.after)
