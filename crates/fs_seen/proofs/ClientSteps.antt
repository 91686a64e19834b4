-- A step of a client's that leaves the server leaves what that has, and whom it serves.
use Rattle.std.proofs.Common.{◌∙◌, Option, subst}
use Rattle.std.specs.Prelude.{IfSome}
use Rattle.lib_os.specs.AbstractLaws.{AsksOrLeaves, LeavesFiles}
use Rattle.lib_os.specs.AbstractState.{AbstractState}
use Rattle.lib_os.proofs.FilesLeft.{clients_leave_files}
use Rattle.lib_os.proofs.ServedHold.{served_hold}
use Rattle.fs_seen.specs.ServerOthers.{ClientsLeaveServed}

pub clients_leave_served : ClientsLeaveServed
clients_leave_served a b n c small at asked step server =
    let all : LeavesFiles a b × AsksOrLeaves a b n =
    subst (λ (r : Option AbstractState). IfSome r (λ x. LeavesFiles a x × AsksOrLeaves a x n)) step (clients_leave_files a n c small at) in
    record {
      server = server;
      leaves = all.0;
      holds = λ client name f is served has. served_hold a b n c at asked step client served name ∙ has;
    }
