use Rattle.std.proofs.Common.{◌<◌, ◌^◌, map, drop}
use Rattle.std.specs.Prelude.{slice_index}
use Rattle.fs_layout.specs.Paths.{name_in_path}
use Rattle.fs_layout.specs.DiskFiles.{file_system_of}
use Rattle.fs_layout.specs.FileActs.{look_up}
use Rattle.fs_contents.specs.Contents.{found_node}
use Rattle.fs_contents.specs.Walks.{LeadsOn}
use Rattle.fs_contents.proofs.walking.place_of.Given as goal

abbrev pub invariant-loop-name : goal.invariant-loop-name
invariant-loop-name l =
    (LeadsOn (slice_index l.image) (found_node (look_up (file_system_of (slice_index l.image)) l.path))
    (map (name_in_path l.path) (drop l.name-index l.name-items)) l.place)
    × (l.place < 2 ^ 50)
