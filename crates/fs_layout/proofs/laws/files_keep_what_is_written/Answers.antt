use Rattle.fs_layout.proofs.FileBytes.{read-overwritten, length-overwritten, length-resized}
use Rattle.fs_layout.proofs.laws.files_keep_what_is_written.Goals as goal

pub returns-clause-read_back : goal.returns-clause-read_back
returns-clause-read_back c = read-overwritten

pub returns-clause-length : goal.returns-clause-length
returns-clause-length c = length-overwritten

pub returns-clause-size : goal.returns-clause-size
returns-clause-size c = length-resized
