use Rattle.fs_image.proofs.Reading.{some_file, sized_reading, sized_alone}
use Rattle.fs_image.proofs.disk_bytes.read_disk.Goals as goal

pub returns-in-Ok-Some-clause-asked : goal.returns-in-Ok-Some-clause-asked
returns-in-Ok-Some-clause-asked g c =
    sized_reading c.args.name.now (g.H.Host.asked c.args.host.now) (g.H.Host.asked c.size.new.self) (g.H.Host.asked c.read_held.new.host) c.size.ensures.asked c.read_held.ensures.asked

pub returns-in-Ok-None-clause-asked : goal.returns-in-Ok-None-clause-asked
returns-in-Ok-None-clause-asked g c = sized_alone c.args.name.now (g.H.Host.asked c.args.host.now) (g.H.Host.asked c.size.new.self) c.size.ensures.asked

pub returns-in-Err-clause-told : goal.returns-in-Err-clause-told
returns-in-Err-clause-told g c = let some = some_file (g.H.Host.files c.args.host.now) c.args.name.now in (some.0, some.1, tt)

pub returns-in-Err-clause-asked : goal.returns-in-Err-clause-asked
returns-in-Err-clause-asked g c = sized_alone c.args.name.now (g.H.Host.asked c.args.host.now) (g.H.Host.asked c.size.new.self) c.size.ensures.asked
