-- All pieces are proved, and so the server's steps are the abstract one's.
use Rattle.fs_serving.specs.ServerRuns.{ServersServe}
use Rattle.fs_serving.proofs.Acting.{acting, flushing}
use Rattle.fs_serving.proofs.ActsDone.{acts_are_done}
use Rattle.fs_serving.proofs.Finding.{finding}
use Rattle.fs_serving.proofs.OfFiles.{reading_count, reading_file, reading_offset, reading_record}
use Rattle.fs_serving.proofs.Opened.{reading_mode_again, storing_device, storing_file, storing_mode, storing_opened, storing_record, storing_size}
use Rattle.fs_serving.proofs.Opening.{looking_entry, looking_holders, looking_record, reading_client, reading_kind, reading_mode, taking_page}
use Rattle.fs_serving.proofs.Removing.{checking_entry, checking_holders, checking_record}
use Rattle.fs_serving.proofs.Sizing.{reading_record_again, sizing}
use Rattle.fs_serving.proofs.Storing.{advancing, storing_offset}
use Rattle.fs_serving.proofs.Working.{working}
use Rattle.fs_serving.proofs.Served.{Pieces, servers_serve}

pieces : Pieces
pieces = record {
  reading_kind = reading_kind;
  reading_client = reading_client;
  looking_record = looking_record;
  looking_entry = looking_entry;
  looking_holders = looking_holders;
  taking_page = taking_page;
  reading_mode = reading_mode;
  storing_record = storing_record;
  storing_device = storing_device;
  reading_mode_again = reading_mode_again;
  storing_mode = storing_mode;
  storing_file = storing_file;
  reading_record_again = reading_record_again;
  sizing = sizing;
  storing_size = storing_size;
  reading_file = reading_file;
  reading_offset = reading_offset;
  reading_count = reading_count;
  reading_record = reading_record;
  advancing = advancing;
  storing_offset = storing_offset acts_are_done (storing_opened acts_are_done);
  checking_record = checking_record;
  checking_entry = checking_entry;
  checking_holders = checking_holders acts_are_done;
  finding = finding acts_are_done;
  acting = acting;
  flushing = flushing;
  working = working;
}

pub all_servers_serve : ServersServe
all_servers_serve = servers_serve pieces
