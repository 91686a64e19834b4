use Rattle.std.proofs.Common.{◌≡◌, ◌∙◌, ◌+◌, ◌-◌, arith}
use Rattle.fs_contents.proofs.Records.{copied-entry}
use Rattle.fs_contents.proofs.reading.file_entry_at.Goals as goal

pub returns : goal.returns
returns c =
    let count : c.args.place + 256 - c.args.place ≡ 256 = omega arith in
    c.decode_entry.ensures
    ∙ copied-entry c.args.image.now c.copy_from_slice.new.self c.args.place (c.args.place + 256 - c.args.place)
    c.copy_from_slice.ensures.after count
