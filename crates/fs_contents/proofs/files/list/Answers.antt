use Rattle.std.specs.Prelude.{slice_index, length}
use Rattle.fs_layout.specs.DiskFiles.{file_system_of}
use Rattle.fs_layout.specs.FileActs.{look_up}
use Rattle.fs_layout.proofs.DiskSound.{disks-sound}
use Rattle.fs_contents.specs.Contents.{found_node}
use Rattle.fs_contents.proofs.Found.{found-readable, directory-invalid, directory-listed, kind-is, kind-is_not}
use Rattle.fs_contents.proofs.files.list.Goals as goal

pub returns-then-kind_at-ne-FTYPE_DIR : goal.returns-then-kind_at-ne-FTYPE_DIR
returns-then-kind_at-ne-FTYPE_DIR c =
    directory-invalid (slice_index c.args.image.now) (found_node (look_up (file_system_of (slice_index c.args.image.now)) c.args.path.now))
    c.in_ok-place.place c.in_ok-place.ensures.found
    (kind-is_not c.new.result.bytes.now c.args.image.now c.in_ok-place.place c.kind_at.result c.new.ensures c.kind_at.ensures
    c.if-kind_at-ne-FTYPE_DIR.true)

pub read_entries-requires-clause-readable : goal.read_entries-requires-clause-readable
read_entries-requires-clause-readable c =
    found-readable (slice_index c.args.image.now) (found_node (look_up (file_system_of (slice_index c.args.image.now)) c.args.path.now))
    c.in_ok-place.place c.in_ok-place.ensures.found

pub read_entries-requires-clause-blocks : goal.read_entries-requires-clause-blocks
read_entries-requires-clause-blocks c =
    (disks-sound (length c.args.image.now) (slice_index c.args.image.now) c.requires).blocks

pub returns : goal.returns
returns c =
    directory-listed (slice_index c.args.image.now) (found_node (look_up (file_system_of (slice_index c.args.image.now)) c.args.path.now))
    c.in_ok-place.place c.in_ok-read_entries.field-0.items c.in_ok-place.ensures.found
    (kind-is c.new.result.bytes.now c.args.image.now c.in_ok-place.place c.kind_at.result c.new.ensures c.kind_at.ensures
    c.if-kind_at-ne-FTYPE_DIR.false)
    c.in_ok-read_entries.ensures
