-- A file that was opened stands on the disk as the act left it, and it is no longer than a file may be.
use Rattle.std.proofs.Common.{◌≡◌, ◌≤◌, ◌*◌, ℕ, List, Some, subst}
use Rattle.fs_layout.specs.declared.numbers.TheConstants.{BLKSIZE, MAXFILESIZE}
use Rattle.fs_layout.specs.FileTree.{open_path}
use Rattle.fs_acts.specs.BlockActs.{place_at}
use Rattle.fs_acts.proofs.Undamaged.{way-reached}
use Rattle.fs_runs.specs.TreeRuns.{AreSmall, IsSound, Memory}
use Rattle.fs_runs.proofs.JobsTold.{size-there}
use Rattle.lib_os.specs.AbstractState.{AbstractState}
use Rattle.fs_serving.specs.ServerRuns.{HasFiles, IsOpened, TableStands, size_opened}
use Rattle.fs_serving.specs.ServerViews.{Serving}
use Rattle.fs_serving.proofs.ActsDone.{acts_are_done}
use Rattle.fs_serving.proofs.HeldFiles.{led-stands}
use Rattle.fs_serving.proofs.Opening.{path-asked}
use Rattle.fs_serving.proofs.Pieces.{ActIsDone}

module _ (count : ℕ) (a : AbstractState) (it : Serving) (before : Memory) (files : HasFiles count before a.files)
    (table : TableStands before.disk a it.view) (small : AreSmall it.view.memory) (path : List ℕ) (mode home : ℕ)
    (so : IsOpened a it before path mode home) where
  done : ActIsDone count a it.view (open_path path mode) 0 before it.view.memory
  done =
      acts_are_done count a it.view (open_path path mode) 0 before it.view.memory
      (path-asked a before.page path mode so.opening.is_busy.asks).0.no_nul files table so.has_acted

  pub opened-sound : IsSound count it.view.memory
  opened-sound = record { disk = done.files.disk; count_is = done.files.count_is; small = small }

  pub opened-stands : place_at it.view.memory.disk so.way ≡ Some home
  opened-stands = led-stands (BLKSIZE * count) it.view.memory.disk path so.way home done.files.disk so.leads

  pub opened-short : size_opened so ≤ MAXFILESIZE
  opened-short =
      subst (λ (n : ℕ). n ≤ MAXFILESIZE)
      (size-there {count = count} {way = so.way} {home = home} {m = it.view.memory} (record { sound = opened-sound; stands = opened-stands })
      so.regular)
      (way-reached (BLKSIZE * count) it.view.memory.disk done.files.disk so.way home opened-stands).good.readable.short
