use Rattle.std.proofs.Common.{◌∙◌, ℕ, ap}
use Rattle.std.proofs.lemmas.List.{length-replicate}
use Rattle.fs_layout.specs.declared.numbers.TheConstants.{BLKSIZE}
use Rattle.lib_os.specs.Disk.{DiskFile}
use Rattle.jos_run.proofs.BlockMoves.{block_told}
use Rattle.jos_run.proofs.disk.HostDisk.read_block.Goals as goal

pub returns-in-Ok-clause-came : goal.returns-in-Ok-clause-came
returns-in-Ok-clause-came g c = record {
  page = record { long = c.read_at.auto.buf ∙ length-replicate {A = ℕ} BLKSIZE 0; small = c.keep_bytes.ensures };
  told = block_told (g.H.Host.files c.args.host.now) c.args.self.now c.args.block c.in-Ok.field-0 c.read_at.new.buf c.as_str.result.now c.place_of.result
      (c.as_str.ensures.value ∙ ap (λ (disk : DiskFile). disk.name) c.self.view_is) c.place_of.ensures c.in-Ok.ensures.told;
}
