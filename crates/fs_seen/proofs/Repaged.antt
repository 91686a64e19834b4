-- Where the bytes of the request no longer count, the server stands by whatever its page holds.
use Rattle.std.proofs.Common.{◌≡◌, ◌∙◌, ◌<◌, ℕ, true, false, List, [], ◌∷◌, Option, Some, None, refl, sym, ap, arith}
use Rattle.std.specs.Prelude.{length, slice_index}
use Rattle.std.proofs.lemmas.Bool.{false≢true}
use Rattle.fs_runs.specs.TreeRuns.{Memory}
use Rattle.lib_os.specs.AbstractState.{AbstractState, Server, acted, busy, looking}
use Rattle.fs_requests.specs.declared.state.ServerStep.{ServerStep}
use Rattle.fs_requests.specs.declared.state.ServerStep.TheVariants as step
use Rattle.fs_serving.specs.ServerRuns.{HasFile, HasObject, IsReplying, StandsAtStep, StandsServing, client_of, is_acting, over}
use Rattle.fs_serving.specs.ServerViews.{Serving}
use Rattle.fs_serving.proofs.ActsAt.{acts_at}
use Rattle.fs_seen.specs.ServerWhole.{keeps_request}
use Rattle.fs_seen.proofs.Between.{files_over, same_state}
use Rattle.fs_seen.proofs.TablesAlike.{table_again}

-- where it acts the bytes count
acting_keeps : (x : Server) → is_acting x ≡ true → keeps_request x ≡ true
acting_keeps (looking client request place) acts = refl
acting_keeps (busy client request place) acts = refl
acting_keeps _ acts = absurd (false≢true acts)

module _ (count : ℕ) (a : AbstractState) (it : Serving) (before : Memory) (free : keeps_request a.server ≡ false) (page : ℕ → ℕ) where
  -- with this page
  abbrev paged : Memory → Memory
  paged m = record { disk = m.disk; page = page }

  abbrev now : Serving
  now = over it (paged it.view.memory)

  -- nothing is handed back
  handed_none : (client answer : ℕ) (bytes : List ℕ) (object : Option ℕ) → keeps_request (acted client answer bytes object) ≡ false → (i : ℕ) →
      i < length bytes → page i ≡ slice_index bytes i
  handed_none client answer [] object is i below = absurd (omega (arith, below))
  handed_none client answer (byte ∷ bytes) object is i below = absurd (let contradiction : true ≡ false = is in cc)

  file_paged : (number name : ℕ) → HasFile it.view.memory.disk a it.view number name → HasFile it.view.memory.disk a now.view number name
  file_paged number name h = record {
    f = h.f;
    is = h.is;
    home = h.home;
    regular = h.regular;
    there = h.there;
    device = h.device;
    offset = h.offset;
    mode = h.mode;
    size = h.size;
    number_is = h.number_is;
    small = h.small;
    sized = h.sized;
  }

  object_paged : (object : Option ℕ) → HasObject a it object → HasObject a now object
  object_paged None h = h
  object_paged (Some name) h = (h.0, h.1, h.2, h.3, file_paged it.state.number name h.4)

  replying_paged : IsReplying a it before → IsReplying a now (paged before)
  replying_paged h = record {
    bytes = h.bytes;
    object = h.object;
    server = h.server;
    memory = ap paged h.memory;
    handed = handed_none (client_of it.state) it.state.count h.bytes h.object (sym (ap keeps_request h.server) ∙ free);
    has_object = object_paged h.object h.has_object;
  }

  at_paged : (at : ServerStep) → StandsAtStep at count a it before → StandsAtStep at count a now (paged before)
  at_paged step.Releasing h = h
  at_paged step.Receiving h = h
  at_paged step.Replying h = replying_paged h
  at_paged step.Pausing h = replying_paged h
  at_paged at h = absurd (false≢true (sym free ∙ acting_keeps a.server (acts_at count a it before at h)))

-- It stands by any other page.
pub repaged : (count : ℕ) (a : AbstractState) (it : Serving) (page : ℕ → ℕ) → keeps_request a.server ≡ false → StandsServing count a it →
    StandsServing count a (over it (record { disk = it.view.memory.disk; page = page }))
repaged count a it page free h =
    let m : Memory = record { disk = h.before.disk; page = page } in
    record {
      before = m;
      files = files_over count h.before m a.files refl h.files;
      table = table_again h.before.disk a a it.view (over it (record { disk = it.view.memory.disk; page = page })).view (same_state a)
          (record { homes = λ number. refl; pages = λ number. refl; holders = λ number there. refl }) h.table;
      at = at_paged count a it h.before free page it.state.step h.at;
    }
