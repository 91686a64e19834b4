-- What a job asks where it stands, and where it goes by the reply.
use Rattle.std.specs.Prelude.{ℕ}
use Rattle.fs_jobs.specs.declared.place.TreePlace.{TreePlace}
use Rattle.fs_jobs.specs.declared.place.TreePlace.TheVariants.{Walking, Changing}
use Rattle.fs_jobs.specs.declared.place.TreeState.{TreeState}
use Rattle.fs_jobs.specs.declared.asks.TreeAsk.{TreeAsk}
use Rattle.fs_jobs.specs.declared.asks.TreeNext.{TreeNext}
use Rattle.fs_changes.specs.ChangePlans.{change_ask, change_next}
use Rattle.fs_walks.specs.WalkPlans.{walk_ask, walk_next}

abbrev pub ask_by : TreeState → TreePlace → TreeAsk
ask_by state (Walking place) = walk_ask place
ask_by state (Changing changed place) = change_ask state.job changed place

abbrev pub ask_at : TreeState → TreeAsk
ask_at state = ask_by state state.place

abbrev pub next_by : TreeState → TreePlace → ℕ → TreeNext
next_by state (Walking place) word = walk_next state place word
next_by state (Changing changed place) word = change_next state changed place word

abbrev pub next_at : TreeState → ℕ → TreeNext
next_at state word = next_by state state.place word
