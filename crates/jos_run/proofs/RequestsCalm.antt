-- What is said of spaces where a client of the file server asks with a page, and where it begins to wait for the reply.
use Rattle.std.proofs.Common.{◌≡◌, ◌∙◌, ℕ, Bool, true, false, sym, ap}
use Rattle.std.proofs.lemmas.Bool.{false≢true}
use Rattle.jos_base.specs.KernelState.{KernelState, slot_at}
use Rattle.lib_os.specs.declared.place.Place.{Place}
use Rattle.lib_os.specs.declared.place.Place.TheVariants as place
use Rattle.lib_os.specs.declared.place.Step.TheVariants as step
use Rattle.lib_os.specs.declared.service.Service.TheVariants as service
use Rattle.lib_os.specs.declared.spawn_steps.OpeningStep.TheVariants as opening
use Rattle.lib_os.specs.declared.spawn_steps.ReadStep.TheVariants as read
use Rattle.lib_os.specs.declared.spawn_steps.SpawnStep.{SpawnStep}
use Rattle.lib_os.specs.declared.spawn_steps.SpawnStep.TheVariants as spawn
use Rattle.lib_os.specs.AbstractState.{AbstractState}
use Rattle.lib_os.specs.LibrarySteps.{Stands}
use Rattle.lib_os.specs.Places.{place_of}

-- spawn has asked, for its file or for a part of that, and is about to wait
abbrev pub spawn_awaits : SpawnStep → Bool
spawn_awaits (spawn.Opening (opening.OpenAwaiting esp fd id)) = true
spawn_awaits (spawn.Reading wanted (read.Awaiting id)) = true
spawn_awaits _ = false

-- it is about to ask
abbrev pub spawn_asks_at : SpawnStep → Bool
spawn_asks_at (spawn.Opening (opening.OpenAsking esp fd id)) = true
spawn_asks_at (spawn.Reading wanted (read.Asking id)) = true
spawn_asks_at _ = false

-- it has asked, and is about to wait
abbrev pub awaits_reply : Place → Bool
awaits_reply (place.InService service.Sync (step.Awaiting id)) = true
awaits_reply (place.InService (service.Remove path) (step.Awaiting id)) = true
awaits_reply (place.InService (service.OpenFile path mode) (step.OpenAwaiting id fd)) = true
awaits_reply (place.InService (service.Seek fd offset) (step.Awaiting id)) = true
awaits_reply (place.InService (service.SetSize fd size) (step.Awaiting id)) = true
awaits_reply (place.InService (service.Write fd va len) (step.Awaiting id)) = true
awaits_reply (place.InService (service.Read fd va len) (step.Awaiting id)) = true
awaits_reply (place.InService (service.Stat fd va) (step.Awaiting id)) = true
awaits_reply (place.InService (service.Spawn path argv) (step.Spawning at)) = spawn_awaits at
awaits_reply _ = false

-- it is about to ask, with a page
abbrev pub asks_by_page : Place → Bool
asks_by_page (place.InService (service.Remove path) (step.Asking id)) = true
asks_by_page (place.InService (service.OpenFile path mode) (step.OpenAsking id fd)) = true
asks_by_page (place.InService (service.Seek fd offset) (step.Asking id)) = true
asks_by_page (place.InService (service.SetSize fd size) (step.Asking id)) = true
asks_by_page (place.InService (service.Write fd va len) (step.Asking id)) = true
asks_by_page (place.InService (service.Read fd va len) (step.Asking id)) = true
asks_by_page (place.InService (service.Stat fd va) (step.Asking id)) = true
asks_by_page (place.InService (service.Spawn path argv) (step.Spawning at)) = spawn_asks_at at
asks_by_page _ = false

-- the environment in slot n has its own space
abbrev pub SameHome : ℕ → KernelState → KernelState → Type 0
SameHome n before after = (slot_at after n).directory ≡ (slot_at before n).directory

-- and no space is changed
pub record SameSpaces (n : ℕ) (before after : KernelState) : Type 0 where
  pub spaces : after.spaces ≡ before.spaces
  pub home : SameHome n before after

-- Where it begins to wait no space is changed, and where it asks with a page it has its own still.
pub record RequestsCalmly (n : ℕ) (before after : KernelState) : Type 0 where
  pub waits : awaits_reply (place_of (slot_at before n)) ≡ true → SameSpaces n before after
  pub asks : (a : AbstractState) → Stands before a → asks_by_page (place_of (slot_at before n)) ≡ true → SameHome n before after

-- one that stands elsewhere does neither
pub none_requests : (s after : KernelState) (n : ℕ) (at : Place) → place_of (slot_at s n) ≡ at → awaits_reply at ≡ false → asks_by_page at ≡ false →
    RequestsCalmly n s after
none_requests s after n at stands none_waits none_asks = record {
  waits = λ is. absurd (false≢true (sym none_waits ∙ ap awaits_reply (sym stands) ∙ is));
  asks = λ a h is. absurd (false≢true (sym none_asks ∙ ap asks_by_page (sym stands) ∙ is));
}
