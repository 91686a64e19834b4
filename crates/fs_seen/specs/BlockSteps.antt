-- That the server's steps on blocks serve as the abstract file server does: a step of the job on files, and one of a flush. They are none of its own
-- calls, and touch the pages of blocks and of the request alone.
use Rattle.std.specs.Prelude.{◌≡◌, ◌<◌, ◌⊎◌, ◌-◌, ◌^◌, ℕ, true, is_some, Option, Some}
use Rattle.jos_host.specs.Files.{Files}
use Rattle.jos_host.specs.Frames.{Around, from_to}
use Rattle.jos_base.specs.declared.numbers.TheConstants.{E_NO_MEM}
use Rattle.jos_base.specs.KernelState.{KernelState}
use Rattle.jos_base.specs.Words.{negated}
use Rattle.lib_os.specs.declared.progress.Progress.{Progress}
use Rattle.lib_os.specs.AbstractState.{AbstractState}
use Rattle.lib_os.specs.Disk.{Disk, DiskFile, disk_in}
use Rattle.lib_os.specs.InOrder.{IsInOrder}
use Rattle.lib_os.specs.MadeCalls.{MakesServersCall}
use Rattle.lib_os.specs.UserCalls.{Output}
use Rattle.fs_tree.specs.TreeSteps.{IsLawful, TreeAt}
use Rattle.fs_requests.specs.declared.state.ServerStep.TheVariants as step
use Rattle.fs_requests.specs.ServerPlans.{next_at}
use Rattle.fs_serving.specs.ServerRuns.{StandsServing}
use Rattle.fs_serving.specs.ServerViews.{View, gone_on}
use Rattle.fs_server.specs.ServerSteps.{HasFlushed, HasWorked, server_at}
use Rattle.fs_seen.specs.ServerMemory.{HasRequested, StandsOver, has_request, serving_in, view_in}
use Rattle.fs_seen.specs.ServerSees.{AllStands, HasServed, ServesAlike, is_working}

-- ---- what is the same of two views

-- The same is seen, but for how often frames are mapped that are no place's.
pub record SeesAlike (v w : View) : Type 0 where
  pub memory : w.memory ≡ v.memory
  pub homes : w.homes ≡ v.homes
  pub pages : w.pages ≡ v.pages
  pub frames : w.frames ≡ v.frames
  pub holders : (number : ℕ) → is_some (v.pages number) ≡ true → w.holders (v.frames number) ≡ v.holders (v.frames number)
  pub value : w.value ≡ v.value
  pub sender : w.sender ≡ v.sender

-- ---- what is so behind one

-- No page was to be had for a block that the job wants: that is counted, the server goes on by the error's number, and sees what it saw.
pub record LacksBlock (d e : Disk) (s after : KernelState) (n : ℕ) (done : Progress) : Type 0 where
  pub counted : s.refusals < 2 ^ 64 - 1 → s.refusals < after.refusals
  pub stands_as : ServesAlike (gone_on (serving_in d s n) (next_at (server_at s n) (negated E_NO_MEM)) (view_in e after n)) (serving_in e after n)
  pub sees : SeesAlike (view_in d s n) (view_in e after n)
  pub shows : done ≡ (next_at (server_at s n) (negated E_NO_MEM)).seen
  pub stands : StandsOver e after n
  pub request_stays : has_request after n ≡ has_request s n

-- ---- the laws

-- Where the server stands over a disk of as many blocks, the page of the request is there for the job on files, and what that does next is lawful.
abbrev pub JobsAreLawful : Type 0
JobsAreLawful = (a : AbstractState) (d : Disk) (s : KernelState) (n : ℕ) → is_working (server_at s n).step ≡ true → HasRequested a.server s n →
    AllStands d s n → StandsServing d.count a (serving_in d s n) → TreeAt d s n × IsLawful d s n

-- The server, which is in slot 0, serves by a step of the job on files as the abstract one does, which is one of the server's calls. A page may not
-- be had for a block.
abbrev pub JobsServe : Type 0
JobsServe = (count : ℕ) (a : AbstractState) (disk : DiskFile) (before now : Files) (s after : KernelState) (files : Around (Option Files))
    (output : Output) (done : Progress) →
    is_working (server_at s 0).step ≡ true → HasRequested a.server s 0 → AllStands (disk_in before disk) s 0 →
    StandsServing count a (serving_in (disk_in before disk) s 0) → IsInOrder after →
    files.before ≡ Some before → files.after ≡ Some now → MakesServersCall (from_to s after) 0 disk files output →
    HasWorked (server_at s 0) disk before now s after 0 done →
    HasServed count a (disk_in now disk) s after 0 done ⊎ LacksBlock (disk_in before disk) (disk_in now disk) s after 0 done

-- And by a step of a flush, where the host tells its files.
abbrev pub FlushesServe : Type 0
FlushesServe = (count : ℕ) (a : AbstractState) (disk : DiskFile) (before : Files) (s after : KernelState) (files : Around (Option Files))
    (output : Output) (done : Progress) → (server_at s 0).step ≡ step.Flushing →
    AllStands (disk_in before disk) s 0 → StandsServing count a (serving_in (disk_in before disk) s 0) → IsInOrder after →
    files.before ≡ Some before → HasFlushed (server_at s 0) disk s after 0 files output done →
    (now : Files) × (files.after ≡ Some now) × HasServed count a (disk_in now disk) s after 0 done
