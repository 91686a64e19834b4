-- The acts, by the laws of their changes.
use Rattle.fs_acts.specs.BlockLaws.{BlockActsAreActs, PlacesStay, ChangesKeepDisks, ActsGoOn, PutsStayWithin}
use Rattle.fs_acts.proofs.ComposedActs.{acts-are-acts, places-stay, changes-keep-disks}
use Rattle.fs_acts.proofs.ComposedChanges.{changes-acts}
use Rattle.fs_acts.proofs.ComposedLeftActs.{acts-go-on}
use Rattle.fs_acts.proofs.ComposedWithin.{puts-stay-within}

pub block-acts : BlockActsAreActs
block-acts = acts-are-acts changes-acts

pub all-stay : PlacesStay
all-stay = places-stay changes-acts

pub disks-kept : ChangesKeepDisks
disks-kept = changes-keep-disks changes-acts

pub go-on : ActsGoOn
go-on = acts-go-on changes-acts

pub puts-within : PutsStayWithin
puts-within = puts-stay-within changes-acts
