-- A record becomes empty.
use Rattle.std.proofs.Common.{refl, arith}
use Rattle.fs_acts.specs.BlockActs.{empty_it, written}
use Rattle.fs_jobs.specs.declared.place.FilePlace.TheVariants as file
use Rattle.fs_runs.proofs.Leads.{at_once}
use Rattle.fs_runs.proofs.Pieces.{RecordsAreEmptied, at_file}

pub records_are_emptied : RecordsAreEmptied
unfolding empty_it written
records_are_emptied count j c m lies bounded =
    let within = lies.inside in
    (1, at_once (at_file j count c file.Empty) m bounded (omega (arith, within)) refl refl)
