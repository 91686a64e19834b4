use Rattle.std.proofs.Common.{sym, ◌∙◌}
use Rattle.jos_words.specs.Commands.{run_in_bytes}
use Rattle.jos_cli.specs.Found.{RunFound}
use Rattle.jos_cli.specs.Kinds.{kind_of}
use Rattle.jos_cli.proofs.Finding.{some_run_found, some_file, some_input}
use Rattle.jos_cli.proofs.ProgramsRead as read
use Rattle.jos_cli.proofs.Doing as doing
use Rattle.jos_cli.proofs.programs.gather_program.Goals as goal

pub returns-in-Some-clause-told : goal.returns-in-Some-clause-told
returns-in-Some-clause-told g c =
    let r = run_in_bytes c.args.words.now in
    let found = some_run_found (g.H.Host.files c.args.host.now) r in
    let input = some_input (g.H.Host.input c.args.host.now) in
    (found.0, input.0, found.1, input.1, read.words_refused r found.0 input.0 c.in-Some.which (sym c.limit_of_run.ensures.limit ∙ c.in-Some.is))

pub returns-in-Some-clause-did : goal.returns-in-Some-clause-did
returns-in-Some-clause-did g c =
    let r = run_in_bytes c.args.words.now in
    doing.program_limit_passed r.schedule r.disk.text g.H.Host c.args.host.now c.in-Some.which (rw c.in-Some.is at c.limit_of_run.ensures.of_words)

pub returns-in-Err-clause-told : goal.returns-in-Err-clause-told
returns-in-Err-clause-told g c =
    let r = run_in_bytes c.args.words.now in
    let told = c.in-Err.ensures.told in
    let disk = some_file (g.H.Host.files c.args.host.now) r.disk in
    let input = some_input (g.H.Host.input c.args.host.now) in
    let found : RunFound = record { schedule = told.0; disk = disk.0 } in (
      found,
      input.0,
      record { schedule = told.1; disk = disk.1 },
      input.1,
      read.schedule_refused r found input.0 (sym c.limit_of_run.ensures.limit ∙ c.in_default.is) (kind_of c.in-Err.outcome) told.2,
    )

pub returns-in-Err-clause-did : goal.returns-in-Err-clause-did
returns-in-Err-clause-did g c = let r = run_in_bytes c.args.words.now in doing.no_disk_read r.schedule r.disk.text c.in-Err.ensures.did

pub returns-in-Err-read_program-clause-told : goal.returns-in-Err-read_program-clause-told
returns-in-Err-read_program-clause-told g c =
    let r = run_in_bytes c.args.words.now in
    let told = c.in-Ok.ensures.told in
    let program = rw (c.path_word.ensures, c.in-Ok.ensures.did.files) at c.in-Err-read_program.ensures.told in
    let input = some_input (g.H.Host.input c.args.host.now) in
    let found : RunFound = record { schedule = told.0; disk = program.0 } in (
      found,
      input.0,
      record { schedule = told.1; disk = program.1 },
      input.1,
      read.program_refused r found input.0 (sym c.limit_of_run.ensures.limit ∙ c.in_default.is) c.in-Ok.schedule told.2 (kind_of c.in-Err-read_program.outcome) program.2,
    )

pub returns-in-Err-read_program-clause-did : goal.returns-in-Err-read_program-clause-did
returns-in-Err-read_program-clause-did g c =
    let r = run_in_bytes c.args.words.now in
    doing.disk_refused r.schedule r.disk.text g.H.Host c.in-Ok.ensures.did c.in-Err-read_program.outcome c.in-Err-read_program.ensures.did

pub returns-in-Ok-read_input-clause-told : goal.returns-in-Ok-read_input-clause-told
returns-in-Ok-read_input-clause-told g c =
    let r = run_in_bytes c.args.words.now in
    let told = c.in-Ok.ensures.told in
    let program = rw (c.path_word.ensures, c.in-Ok.ensures.did.files) at c.in-Ok-read_program.ensures.told in
    let input = rw (c.in-Ok-read_program.ensures.did.input, c.in-Ok.ensures.did.input) at c.in-Ok-read_input.ensures.told in
    let found : RunFound = record { schedule = told.0; disk = program.0 } in (
      found,
      input.0,
      record { schedule = told.1; disk = program.1 },
      input.1,
      read.all_read r found input.0 (sym c.limit_of_run.ensures.limit ∙ c.in_default.is) c.in-Ok.schedule told.2 _ program.2 c.in-Ok-read_program.program.blocks program.3
          c.in-Ok-read_input.input.items input.2,
    )

pub returns-in-Ok-read_input-clause-did : goal.returns-in-Ok-read_input-clause-did
returns-in-Ok-read_input-clause-did g c =
    let r = run_in_bytes c.args.words.now in
    doing.program_and_input r.schedule r.disk.text g.H.Host c.in-Ok.ensures.did c.in-Ok-read_program.ensures.did c.in-Ok-read_input.ensures.did

pub returns-in-Err-read_input-clause-told : goal.returns-in-Err-read_input-clause-told
returns-in-Err-read_input-clause-told g c =
    let r = run_in_bytes c.args.words.now in
    let told = c.in-Ok.ensures.told in
    let program = rw (c.path_word.ensures, c.in-Ok.ensures.did.files) at c.in-Ok-read_program.ensures.told in
    let input = rw (c.in-Ok-read_program.ensures.did.input, c.in-Ok.ensures.did.input) at c.in-Err-read_input.ensures.told in
    let found : RunFound = record { schedule = told.0; disk = program.0 } in (
      found,
      input.0,
      record { schedule = told.1; disk = program.1 },
      input.1,
      read.input_refused r found input.0 (sym c.limit_of_run.ensures.limit ∙ c.in_default.is) c.in-Ok.schedule told.2 _ program.2 (kind_of c.in-Err-read_input.outcome) input.2,
    )

pub returns-in-Err-read_input-clause-did : goal.returns-in-Err-read_input-clause-did
returns-in-Err-read_input-clause-did g c =
    let r = run_in_bytes c.args.words.now in
    doing.program_input_refused r.schedule r.disk.text g.H.Host c.in-Ok.ensures.did c.in-Ok-read_program.ensures.did c.in-Err-read_input.outcome
    c.in-Err-read_input.ensures.did
