-- A program that is read from a disk, and all that its run is given, as it is judged.
use Rattle.std.proofs.Common.{◌≡◌, ℕ, List, Option, Some, None, Result, Ok, Err, sym, ap, subst, ◌∙◌}
use Rattle.jos_base.specs.declared.errno.Errno.{Errno}
use Rattle.jos_base.specs.Words.{◌>>=◌}
use Rattle.jos_words.specs.Arguments.{Word}
use Rattle.jos_words.specs.Commands.{Run}
use Rattle.jos_elf.specs.declared.fault.ElfFault.{ElfFault}
use Rattle.jos_elf.specs.Parsed.{Layout, parsed}
use Rattle.fs_image.specs.DiskHeld.{HeldDisk}
use Rattle.fs_contents.specs.Contents.{read_at}
use Rattle.jos_kernel.specs.Boot.{Loadable}
use Rattle.jos_cli.specs.declared.outcome.Which.{Which}
use Rattle.jos_cli.specs.Commands.{path_word}
use Rattle.jos_cli.specs.Limits.{limit_of_run}
use Rattle.jos_cli.specs.Found.{FileAt, RunFound}
use Rattle.jos_cli.specs.Answer.{Judged, limit, not_there, within, schedule_of, loadable_of, input_within}
use Rattle.jos_cli.specs.Disks.{disk_of, tree_of, blocks_on, if_there}
use Rattle.jos_cli.specs.Kinds.{Kind, answered}
use Rattle.jos_cli.specs.RunAnswers.{image_on, program_on, GatheredProgram, gathered_program}
use Rattle.jos_cli.specs.Stages.{RefusesBy}
use Rattle.jos_cli.proofs.Reading.{refused_then, refused_behind}

-- ---- the program

module _ (path : Word) (held : HeldDisk) where
  from_file : Result (List ℕ) Errno → Judged Loadable
  from_file file = if_there file >>= (λ bytes. loadable_of path.place bytes (parsed bytes))

  -- a file stands at the path
  pub image_parsed : (bytes : List ℕ) (read : Result Layout ElfFault) → read_at (tree_of held) path.text ≡ Ok bytes → read ≡ parsed bytes →
      image_on path held ≡ loadable_of path.place bytes read
  unfolding image_on from_file
  image_parsed bytes read h e = ap from_file h ∙ ap (loadable_of path.place bytes) (sym e)

  -- none does
  pub path_refused : (errno : Errno) → read_at (tree_of held) path.text ≡ Err errno → image_on path held ≡ Err (not_there errno)
  unfolding image_on from_file
  path_refused errno h = ap from_file h

module _ (path : Word) (disk : FileAt) where
  pub disk_refused : (kind : Kind) → RefusesBy (disk_of disk) kind → RefusesBy (program_on path disk) kind
  unfolding program_on
  disk_refused kind h = refused_then (disk_of disk) (image_on path) kind h

  pub on_disk : (held : HeldDisk) → disk_of disk ≡ Ok held → program_on path disk ≡ image_on path held
  unfolding program_on
  on_disk held h = ap (λ (j : Judged HeldDisk). j >>= image_on path) h

-- ---- all that the run is given

module _ (r : Run) (found : RunFound) (input : List ℕ) where
  abbrev pub read_all : List ℕ → Loadable → List ℕ → Judged GatheredProgram
  read_all schedule program bytes = Ok (record { schedule = schedule; program = program; blocks = blocks_on found.disk; input = bytes })

  abbrev pub from_input : List ℕ → Loadable → Judged GatheredProgram
  from_input schedule program = input_within input >>= read_all schedule program

  abbrev pub from_program : List ℕ → Judged GatheredProgram
  from_program schedule = program_on (path_word r.words) found.disk >>= from_input schedule

  abbrev pub from_schedule : Judged GatheredProgram
  from_schedule = schedule_of found.schedule >>= from_program

  -- the words pass a limit
  pub words_refused : (which : Which) → limit_of_run r ≡ Some which → RefusesBy (gathered_program r found input) (answered (limit which))
  unfolding gathered_program
  words_refused which h = ap (λ (p : Option Which). within p >>= (λ _. from_schedule)) h

  module _ (fits : limit_of_run r ≡ None) where
    from_words : gathered_program r found input ≡ from_schedule
    unfolding gathered_program
    from_words = ap (λ (p : Option Which). within p >>= (λ _. from_schedule)) fits

    from_words_refused : (kind : Kind) → RefusesBy from_schedule kind → RefusesBy (gathered_program r found input) kind
    from_words_refused kind h = subst (λ (j : Judged GatheredProgram). RefusesBy j kind) (sym from_words) h

    pub schedule_refused : (kind : Kind) → RefusesBy (schedule_of found.schedule) kind → RefusesBy (gathered_program r found input) kind
    schedule_refused kind h = from_words_refused kind (refused_then (schedule_of found.schedule) from_program kind h)

    module _ (schedule : List ℕ) (s : schedule_of found.schedule ≡ Ok schedule) where
      pub program_refused : (kind : Kind) → RefusesBy (program_on (path_word r.words) found.disk) kind → RefusesBy (gathered_program r found input) kind
      program_refused kind h =
          from_words_refused kind
          (refused_behind (schedule_of found.schedule) from_program schedule kind s (refused_then (program_on (path_word r.words) found.disk) (from_input schedule) kind h))

      module _ (program : Loadable) (p : program_on (path_word r.words) found.disk ≡ Ok program) where
        pub input_refused : (kind : Kind) → RefusesBy (input_within input) kind → RefusesBy (gathered_program r found input) kind
        input_refused kind h =
            from_words_refused kind
            (refused_behind (schedule_of found.schedule) from_program schedule kind s
            (refused_behind (program_on (path_word r.words) found.disk) (from_input schedule) program kind p
            (refused_then (input_within input) (read_all schedule program) kind h)))

        -- all is read
        pub all_read : (blocks : ℕ) → blocks ≡ blocks_on found.disk → (bytes : List ℕ) → input_within input ≡ Ok bytes →
            gathered_program r found input ≡ Ok (record { schedule = schedule; program = program; blocks = blocks; input = bytes })
        all_read blocks count bytes b =
            from_words ∙ ap (λ (j : Judged (List ℕ)). j >>= from_program) s ∙ ap (λ (j : Judged Loadable). j >>= from_input schedule) p
            ∙ ap (λ (j : Judged (List ℕ)). j >>= read_all schedule program) b
            ∙ ap (λ (n : ℕ). Ok (record { schedule = schedule; program = program; blocks = n; input = bytes })) (sym count)
