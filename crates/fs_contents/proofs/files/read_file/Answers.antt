use Rattle.std.specs.Prelude.{slice_index, length}
use Rattle.fs_layout.specs.DiskFiles.{file_system_of}
use Rattle.fs_layout.specs.FileActs.{look_up}
use Rattle.fs_layout.proofs.DiskSound.{disks-sound}
use Rattle.fs_contents.specs.Contents.{found_node}
use Rattle.fs_contents.proofs.Found.{found-readable, file-invalid, file-read, file-short, kind-is, kind-is_not}
use Rattle.fs_contents.proofs.files.read_file.Goals as goal

pub returns-then-kind_at-eq-FTYPE_DIR-clause-read : goal.returns-then-kind_at-eq-FTYPE_DIR-clause-read
returns-then-kind_at-eq-FTYPE_DIR-clause-read c =
    file-invalid (slice_index c.args.image.now) (found_node (look_up (file_system_of (slice_index c.args.image.now)) c.args.path.now))
    c.in_ok-place.place c.in_ok-place.ensures.found
    (kind-is c.new.result.bytes.now c.args.image.now c.in_ok-place.place c.kind_at.result c.new.ensures c.kind_at.ensures
    c.if-kind_at-eq-FTYPE_DIR.true)

pub read_blocks-requires-clause-readable : goal.read_blocks-requires-clause-readable
read_blocks-requires-clause-readable c =
    found-readable (slice_index c.args.image.now) (found_node (look_up (file_system_of (slice_index c.args.image.now)) c.args.path.now))
    c.in_ok-place.place c.in_ok-place.ensures.found

pub read_blocks-requires-clause-blocks : goal.read_blocks-requires-clause-blocks
read_blocks-requires-clause-blocks c =
    (disks-sound (length c.args.image.now) (slice_index c.args.image.now) c.requires).blocks

pub returns-clause-read : goal.returns-clause-read
returns-clause-read c =
    file-read (slice_index c.args.image.now) (found_node (look_up (file_system_of (slice_index c.args.image.now)) c.args.path.now))
    c.in_ok-place.place c.in_ok-read_blocks.field-0.items c.in_ok-place.ensures.found
    (kind-is_not c.new.result.bytes.now c.args.image.now c.in_ok-place.place c.kind_at.result c.new.ensures c.kind_at.ensures
    c.if-kind_at-eq-FTYPE_DIR.false)
    c.in_ok-read_blocks.ensures

pub returns-clause-short : goal.returns-clause-short
returns-clause-short c =
    file-short (slice_index c.args.image.now) (found_node (look_up (file_system_of (slice_index c.args.image.now)) c.args.path.now))
    c.in_ok-place.place c.in_ok-read_blocks.field-0.items c.in_ok-place.ensures.found c.in_ok-read_blocks.ensures
