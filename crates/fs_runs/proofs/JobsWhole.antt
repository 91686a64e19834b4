-- All pieces together, and so each job does what its act does.
use Rattle.fs_runs.specs.TreeRuns.{FindsAreLooks, JobsAreActs, SizesAreTold}
use Rattle.fs_runs.proofs.DatasEmptied.{records_are_emptied}
use Rattle.fs_runs.proofs.DatasMaking.{records_are_made}
use Rattle.fs_runs.proofs.DatasRead.{bytes_are_read}
use Rattle.fs_runs.proofs.DatasTold.{stats_are_told}
use Rattle.fs_runs.proofs.DatasWriting.{bytes_are_written}
use Rattle.fs_runs.proofs.FreesCounted.{free_is_counted}
use Rattle.fs_runs.proofs.FreesLowest.{lowest_is_found}
use Rattle.fs_runs.proofs.Jobs.{finds_are_looks, jobs_are_acts}
use Rattle.fs_runs.proofs.JobsFacts.{Pieces}
use Rattle.fs_runs.proofs.JobsTold.{sizes_are_told}
use Rattle.fs_runs.proofs.Numbers.{numbers_are_found, numbers_are_read}
use Rattle.fs_runs.proofs.Paths.{paths_are_read}
use Rattle.fs_runs.proofs.PathsLead.{walks_find, walks_miss, walks_stray}
use Rattle.fs_runs.proofs.PathsSuper.{supers_are_read}
use Rattle.fs_runs.proofs.PlacesLie.{places_lie}
use Rattle.fs_runs.proofs.PutsFilled.{ends_are_filled}
use Rattle.fs_runs.proofs.PutsGiven.{blocks_are_given, indirects_are_given, sizes_are_cut}
use Rattle.fs_runs.proofs.PutsTaken.{blocks_are_taken, indirects_are_taken}
use Rattle.fs_runs.proofs.Seeks.{names_are_sought}

pub pieces : Pieces
pieces = record {
  paths_are_read = paths_are_read;
  supers_are_read = supers_are_read;
  places_lie = places_lie;
  names_are_sought = names_are_sought;
  walks_find = walks_find names_are_sought;
  walks_stray = walks_stray names_are_sought;
  walks_miss = walks_miss names_are_sought;
  numbers_are_read = numbers_are_read;
  numbers_are_found = numbers_are_found;
  free_is_counted = free_is_counted;
  lowest_is_found = lowest_is_found;
  blocks_are_taken = blocks_are_taken lowest_is_found;
  indirects_are_taken = indirects_are_taken lowest_is_found;
  blocks_are_given = blocks_are_given numbers_are_read;
  indirects_are_given = indirects_are_given;
  sizes_are_cut = sizes_are_cut;
  ends_are_filled = ends_are_filled numbers_are_read;
  bytes_are_written = bytes_are_written numbers_are_read numbers_are_found;
  bytes_are_read = bytes_are_read numbers_are_read numbers_are_found;
  stats_are_told = stats_are_told;
  records_are_made = records_are_made numbers_are_read;
  records_are_emptied = records_are_emptied;
}

pub all_jobs_are_acts : JobsAreActs
all_jobs_are_acts = jobs_are_acts pieces

pub all_finds_are_looks : FindsAreLooks
all_finds_are_looks = finds_are_looks pieces

pub all_sizes_are_told : SizesAreTold
all_sizes_are_told = sizes_are_told pieces
