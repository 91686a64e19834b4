-- A step of the job is one of the server.
use Rattle.std.proofs.Common.{◌≡◌, ℕ, Option, Ok}
use Rattle.jos_host.specs.Files.{Files}
use Rattle.jos_host.specs.Frames.{Around, from_to}
use Rattle.jos_base.specs.KernelState.{KernelState}
use Rattle.lib_os.specs.declared.progress.Progress.TheVariants as progress
use Rattle.lib_os.specs.Disk.{DiskFile}
use Rattle.fs_tree.specs.declared.steps.Acted.TheVariants as acted
use Rattle.fs_tree.specs.TreeMakes.{CallsWhereTold}
use Rattle.fs_tree.specs.TreeSteps.{StepsWhereTold}
use Rattle.fs_requests.specs.declared.state.ServerState.{ServerState}
use Rattle.fs_requests.specs.ServerPlans.{next_at}
use Rattle.fs_server.specs.ServerSteps.{WorksWhereTold, answers, goes, gone_on}

pub works_going : (state : ServerState) (disk : DiskFile) (n : ℕ) (s after : KernelState) (files : Around (Option Files)) →
    StepsWhereTold (Ok acted.Going) disk n (from_to s after) files → CallsWhereTold (Ok acted.Going) disk n (from_to s after) files →
    WorksWhereTold state (Ok progress.Hidden) disk n (from_to s after) files
works_going state disk n s after files told calls before e stands lawful =
    let step = told before e stands lawful in (step.0, step.1, goes step.2 (calls before step.0 e step.1 stands lawful))

pub works_answers : (state : ServerState) (disk : DiskFile) (n word : ℕ) (s mid after : KernelState) (files : Around (Option Files)) →
    StepsWhereTold (Ok (acted.Answer word)) disk n (from_to s mid) files → CallsWhereTold (Ok (acted.Answer word)) disk n (from_to s mid) files →
    after ≡ gone_on mid n (next_at state word) → WorksWhereTold state (Ok (next_at state word).seen) disk n (from_to s after) files
works_answers state disk n word s mid after files told calls is before e stands lawful =
    let step = told before e stands lawful in (step.0, step.1, answers word mid step.2 (calls before step.0 e step.1 stands lawful) is)
