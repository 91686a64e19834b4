use Rattle.lib_os.proofs.FilesLeft.{clients_leave_files}
use Rattle.lib_os.proofs.laws.clients_leave_files.Goals as goal

pub returns : goal.returns
returns c = clients_leave_files
