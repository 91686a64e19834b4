-- What is proved of the images that are made.
use Rattle.std.specs.Prelude.{◌≡◌, ℕ, List, length, slice_index, None}
use Rattle.jos_host.specs.MemHost.{Named}
use Rattle.fs_layout.specs.DiskFiles.{IsDiskImage, file_system_of}
use Rattle.fs_make.specs.MakeFaults.{make_fault}
use Rattle.fs_make.specs.MadeImage.{made_image, made_files}

-- Each is a disk.
abbrev pub MadeImagesAreDisks : Type 0
MadeImagesAreDisks = (blocks : ℕ) (files : List Named) → make_fault blocks files ≡ None →
    IsDiskImage (length (made_image blocks files)) (slice_index (made_image blocks files))

-- And it has those files.
abbrev pub MadeImagesHaveTheFiles : Type 0
MadeImagesHaveTheFiles = (blocks : ℕ) (files : List Named) → make_fault blocks files ≡ None →
    file_system_of (slice_index (made_image blocks files)) ≡ made_files blocks files
