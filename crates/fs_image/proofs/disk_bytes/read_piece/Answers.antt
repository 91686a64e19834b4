use Rattle.fs_image.proofs.Reading.{reading_none, reading_one}
use Rattle.fs_image.proofs.disk_bytes.read_piece.Goals as goal

pub returns-in-Err-clause-asked : goal.returns-in-Err-clause-asked
returns-in-Err-clause-asked g c = reading_none c.args.name.now (g.H.Host.asked c.args.host.now)

pub returns-in-Err-read_at-clause-asked : goal.returns-in-Err-read_at-clause-asked
returns-in-Err-read_at-clause-asked g c = reading_one c.args.name.now (g.H.Host.asked c.args.host.now) _ c.read_at.ensures.asked

pub returns-in-Ok-extend_from_slice-clause-asked : goal.returns-in-Ok-extend_from_slice-clause-asked
returns-in-Ok-extend_from_slice-clause-asked g c = reading_one c.args.name.now (g.H.Host.asked c.args.host.now) _ c.read_at.ensures.asked

pub returns-clause-asked : goal.returns-clause-asked
returns-clause-asked g c = reading_one c.args.name.now (g.H.Host.asked c.args.host.now) _ c.read_at.ensures.asked
