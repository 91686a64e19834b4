-- What is proved of each step of the server: behind its call it stands for the same abstract state, or for the next.
use Rattle.std.proofs.Common.{◌≡◌, ◌<◌, ℕ, length}
use Rattle.std.specs.Prelude.{slice_index}
use Rattle.fs_layout.specs.FileActs.{file_act}
use Rattle.fs_layout.specs.FileTree.{FileAct}
use Rattle.fs_acts.specs.BlockLaws.{HasString}
use Rattle.fs_runs.specs.TreeRuns.{AreSmall, HasActed, Memory}
use Rattle.lib_os.specs.AbstractState.{AbstractState}
use Rattle.lib_os.specs.FileServer.{is_file_open}
use Rattle.fs_requests.specs.declared.state.ServerStep.{ServerStep}
use Rattle.fs_requests.specs.declared.state.ServerStep.TheVariants as step
use Rattle.fs_requests.specs.ServerPlans.{next_for}
use Rattle.fs_serving.specs.ServerRuns.{Follows, HasFiles, StandsAtStep, TableStands, WorksOn}
use Rattle.fs_serving.specs.ServerViews.{IsReplyFor, IsSeenBehind, Serving, View, gone_on}

-- a step that is a call
abbrev pub StepFollows : ServerStep → Type 0
StepFollows at = (count : ℕ) (a : AbstractState) (it : Serving) (before : Memory) → AreSmall it.view.memory →
    HasFiles count before a.files → TableStands before.disk a it.view → StandsAtStep at count a it before →
    (word : ℕ) (v : View) → IsReplyFor at it.state it.view word → IsSeenBehind at it.state it.view v →
    Follows count a (next_for it.state at word).seen (gone_on it (next_for it.state at word) v)

-- a step of a job
abbrev pub JobFollows : ServerStep → Type 0
JobFollows at = (count : ℕ) (a : AbstractState) (it : Serving) (before : Memory) → it.state.step ≡ at →
    HasFiles count before a.files → TableStands before.disk a it.view → StandsAtStep at count a it before → WorksOn count a it

-- the last step of a flush
abbrev pub FlushFollows : Type 0
FlushFollows = (count : ℕ) (a : AbstractState) (it : Serving) (before : Memory) →
    HasFiles count before a.files → TableStands before.disk a it.view → StandsAtStep step.Flushing count a it before →
    Follows count a (next_for it.state step.Flushing 0).seen (gone_on it (next_for it.state step.Flushing 0) it.view)

-- An act that a job has made: it answers as the tree's does, and leaves the files of that; and the table stands over the disk that it leaves, if no file is removed that
-- is open.
pub record ActIsDone (count : ℕ) (a : AbstractState) (v : View) (f : FileAct) (answer : ℕ) (before m : Memory) : Type 0 where
  pub answer_is : (file_act (is_file_open a) a.files f).answer ≡ answer
  pub bytes : (k : ℕ) → k < length (file_act (is_file_open a) a.files f).bytes → m.page k ≡ slice_index (file_act (is_file_open a) a.files f).bytes k
  pub files : HasFiles count m (file_act (is_file_open a) a.files f).files
  pub table : TableStands m.disk a v

abbrev pub ActsAreDone : Type 0
ActsAreDone = (count : ℕ) (a : AbstractState) (v : View) (f : FileAct) (answer : ℕ) (before m : Memory) → HasString f →
    HasFiles count before a.files → TableStands before.disk a v → HasActed (is_file_open a) f before answer m → ActIsDone count a v f answer before m
