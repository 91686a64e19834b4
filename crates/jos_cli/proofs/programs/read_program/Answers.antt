use Rattle.std.proofs.Common.{Err, sym, ap, subst, ◌∙◌}
use Rattle.std.specs.Prelude.{slice_index}
use Rattle.fs_layout.specs.DiskImage.{block_count}
use Rattle.fs_image.specs.DiskHeld.{HeldDisk}
use Rattle.jos_words.specs.Arguments.{word_in_bytes}
use Rattle.jos_kernel.specs.Boot.{Loadable}
use Rattle.jos_cli.specs.Answer.{Judged}
use Rattle.jos_cli.specs.Kinds.{kind_of}
use Rattle.jos_cli.specs.Stages.{RefusesBy}
use Rattle.jos_cli.proofs.DisksRead.{read_and_looked}
use Rattle.jos_cli.proofs.ProgramsRead.{disk_refused, on_disk}
use Rattle.jos_cli.proofs.RunDisks.{held_is}
use Rattle.jos_cli.proofs.programs.read_program.Goals as goal

pub returns-in-Ok-image_on-clause-told : goal.returns-in-Ok-image_on-clause-told
returns-in-Ok-image_on-clause-told g c =
    let told = c.in-Ok.ensures.told in (
      told.0,
      told.1,
      on_disk (word_in_bytes c.args.path) told.0 c.in-Ok.disk told.2 ∙ c.in-Ok-image_on.ensures.told,
      c.block_count.ensures ∙ ap (λ (held : HeldDisk). block_count (slice_index held.bytes)) (sym (held_is told.0 c.in-Ok.disk told.2)),
    )

pub returns-clause-told : goal.returns-clause-told
returns-clause-told g c =
    let told = c.in-Ok.ensures.told in (
      told.0,
      told.1,
      subst (λ (j : Judged Loadable). RefusesBy j (kind_of c.in-Err-image_on.outcome)) (sym (on_disk (word_in_bytes c.args.path) told.0 c.in-Ok.disk told.2))
          c.in-Err-image_on.ensures.told,
      tt,
    )

pub returns-clause-did : goal.returns-clause-did
returns-clause-did g c =
    read_and_looked {X = Unit {0}} g.H.Host c.args.disk.text.now c.args.host.now c.read_checked.new.host (Err c.in-Err-image_on.outcome) c.in-Ok.ensures.did
    c.in-Err-image_on.ensures.cause c.in-Err-image_on.ensures.unread

pub returns-in-Err-clause-told : goal.returns-in-Err-clause-told
returns-in-Err-clause-told g c =
    let told = c.in-Err.ensures.told in (told.0, told.1, disk_refused (word_in_bytes c.args.path) told.0 (kind_of c.in-Err.outcome) told.2, tt)
