use Rattle.std.proofs.Common.{subst}
use Rattle.std.specs.Prelude.{List, ℕ, map}
use Rattle.jos_sys.specs.System.{state_of}
use Rattle.lib_os.specs.Rows.{AreBytes}
use Rattle.jos_run.specs.RunEnds.{given_job}
use Rattle.jos_run.proofs.DiskKept.{only_nothing}
use Rattle.jos_run.proofs.ProgramsRun.{booted_answers, unbooted_answers}
use Rattle.jos_run.proofs.programs.run.Goals as goal

pub run_booted-requires-clause-new : goal.run_booted-requires-clause-new
run_booted-requires-clause-new g c = c.in-Ok-boot_program.ensures.new c.args.setup.input.items

pub returns-in-Ok-boot_program-clause-told : goal.returns-in-Ok-boot_program-clause-told
returns-in-Ok-boot_program-clause-told g c =
    let input = c.args.setup.input.items in
    booted_answers c.args.setup c.args.image.now c.args.file.now (map (λ w. w.now) c.args.words.now) _ _
    (state_of c.in-Ok-boot_program.system input) (c.in-Ok-boot_program.ensures.booted input)
    (c.in-Ok-boot_program.ensures.stands input (subst (λ (list : List ℕ). AreBytes list) c.as_slice.ensures.value c.keep_bytes.ensures))
    c.run_booted.result c.run_booted.ensures.runs

pub returns-in-Err-boot_program-clause-told : goal.returns-in-Err-boot_program-clause-told
returns-in-Err-boot_program-clause-told g c =
    unbooted_answers (given_job c.args.image.now c.args.file.now (map (λ w. w.now) c.args.words.now) c.args.setup) c.in-Err-boot_program.fault _ _
    (λ pool. c.in-Err-boot_program.ensures.pool pool c.args.setup.input.items)

-- ---- before the run nothing is touched

pub returns-in-Err-clause-disk_only : goal.returns-in-Err-clause-disk_only
returns-in-Err-clause-disk_only g c =
    only_nothing c.args.disk (g.H.Host.files c.args.host.now) (g.H.Host.asked c.args.host.now)

pub returns-in-Err-new-clause-disk_only : goal.returns-in-Err-new-clause-disk_only
returns-in-Err-new-clause-disk_only g c =
    only_nothing c.args.disk (g.H.Host.files c.args.host.now) (g.H.Host.asked c.args.host.now)

pub returns-in-Err-boot_program-clause-disk_only : goal.returns-in-Err-boot_program-clause-disk_only
returns-in-Err-boot_program-clause-disk_only g c =
    only_nothing c.args.disk (g.H.Host.files c.args.host.now) (g.H.Host.asked c.args.host.now)
