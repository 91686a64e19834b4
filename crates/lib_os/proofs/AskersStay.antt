-- One that has asked the file server, and has no reply yet, has what it had, whatever other environment makes a step: its descriptors name the
-- same objects until the reply. Its own step begins to wait.
use Rattle.std.proofs.Common.{◌≡◌, ◌≢◌, ◌∙◌, ℕ, true, false, List, ◌∷◌, refl, sym, ap, subst}
use Rattle.std.proofs.lemmas.Option.{none-some, same_Some}
use Rattle.std.specs.Prelude.{Option, Some, None, IfSome}
use Rattle.jos_base.specs.declared.registers.Regs.{Regs}
use Rattle.jos_base.specs.Words.{upd}
use Rattle.jos_base.proofs.Maps.{upd-other}
use Rattle.lib_os.specs.declared.service.Service.{Service}
use Rattle.lib_os.specs.declared.service.Service.TheVariants as service
use Rattle.lib_os.specs.AbstractLaws.{AreVacant, ServesWhoAsked, asks_server, is_asking, is_unborn, is_vacant}
use Rattle.lib_os.specs.AbstractRun.{abs_step}
use Rattle.lib_os.specs.AbstractSpawn.{spawn_step}
use Rattle.lib_os.specs.AbstractState.{AbstractSlot, AbstractState, Born, Spawning, asked, born, free, guest, in_service, unborn}
use Rattle.lib_os.specs.FileServer.{await_reply}
use Rattle.lib_os.specs.LibraryCall.{library_step}
use Rattle.lib_os.proofs.Serving.{service_step}
use Rattle.lib_os.proofs.StepsAsk.{Ends, asks, bears, begins, drops, ended, step_ends, still}

-- ---- its own step

-- its step, where it makes one: spawn's wants that it has found out for what it asks
pub asker_waits : (a c : AbstractState) (n : ℕ) (b : Born) (regs : Regs) (s : Service) → a.slots n ≡ born b → b.program ≡ guest regs →
    b.phase ≡ in_service s asked → b.blocked ≡ false → asks_server s ≡ true → abs_step a n ≡ Some c → c ≡ await_reply a n b s
unfolding library_step spawn_step
asker_waits a c n b regs s at program phase awake is step = by_service s is (sym (service_step a n b regs s asked at program phase awake) ∙ step)
  where
    by_found : (path argv : ℕ) (found : Option Spawning) → spawn_step a n b regs path argv asked found ≡ Some c →
        c ≡ await_reply a n b (service.Spawn path argv)
    by_found path argv None goes = absurd (none-some c goes)
    by_found path argv (Some found) goes = sym (same_Some (await_reply a n b (service.Spawn path argv)) c goes)

    waits : (s : Service) → Some (await_reply a n b s) ≡ Some c → c ≡ await_reply a n b s
    waits s goes = sym (same_Some (await_reply a n b s) c goes)

    by_service : (s : Service) → asks_server s ≡ true → library_step a n b regs s asked ≡ Some c → c ≡ await_reply a n b s
    by_service (service.OpenFile path mode) is goes = waits (service.OpenFile path mode) goes
    by_service (service.Read fd va len) is goes = waits (service.Read fd va len) goes
    by_service (service.Write fd va len) is goes = waits (service.Write fd va len) goes
    by_service (service.Seek fd offset) is goes = waits (service.Seek fd offset) goes
    by_service (service.Stat fd va) is goes = waits (service.Stat fd va) goes
    by_service (service.SetSize fd size) is goes = waits (service.SetSize fd size) goes
    by_service (service.Remove path) is goes = waits (service.Remove path) goes
    by_service service.Sync is goes = waits service.Sync goes
    by_service (service.Spawn path argv) is goes = by_found path argv b.spawning goes
    by_service _ is goes = absurd (let contradiction : false ≡ true = is in cc)

-- ---- those of others

-- one that has asked is there, and born
asker_there : (slot : AbstractSlot) → is_asking slot ≡ true → (is_vacant slot ≡ false) × (is_unborn slot ≡ false)
asker_there (born b) is = (refl, refl)
asker_there (free id) is = absurd (let contradiction : false ≡ true = is in cc)
asker_there (unborn id parent) is = absurd (let contradiction : false ≡ true = is in cc)
asker_there _ is = absurd (let contradiction : false ≡ true = is in cc)

module _ (a : AbstractState) (h : ServesWhoAsked a) (n m : ℕ) (other : m ≢ n) (is : is_asking (a.slots m) ≡ true) where
  -- where a slot is another that is not its own
  beside : (child : ℕ) (new own : AbstractSlot) → m ≢ child → upd (upd a.slots child new) n own m ≡ a.slots m
  beside child new own apart = upd-other (upd a.slots child new) n own m other ∙ upd-other a.slots child new m apart

  asker_kept : (x : AbstractState) → Ends a n x → x.slots m ≡ a.slots m
  asker_kept x (still k) = (k.others m other).asker is
  asker_kept x (ended others id slot_is free_are server_is) = (others m other).asker is
  asker_kept x (asks k request is_so server_is) = (k.others m other).asker is
  asker_kept x (begins child id parent b list slots_are bears_it server_is) =
      ap (λ (slots : ℕ → AbstractSlot). slots m) slots_are
      ∙ beside child (unborn id parent) (born b)
      (λ same. let contradiction : false ≡ true =
      sym (asker_there (a.slots m) is).0 ∙ ap (λ (k : ℕ). is_vacant (a.slots k)) same ∙ child_vacant in cc)
    where
      child_vacant : is_vacant (a.slots child) ≡ true
      child_vacant = let all : AreVacant a.slots (child ∷ x.free_slots) = subst (λ (l : List ℕ). AreVacant a.slots l) list h.given.vacant in all.0
  asker_kept x (bears child c b borne slots_are new_bears no_more free_are server_is) =
      ap (λ (slots : ℕ → AbstractSlot). slots m) slots_are
      ∙ beside child (born c) (born b)
      (λ same. let contradiction : false ≡ true =
      sym (asker_there (a.slots m) is).1 ∙ ap (λ (k : ℕ). is_unborn (a.slots k)) same ∙ h.given.children n child borne in cc)
  asker_kept x (drops child id b borne slots_are no_more free_are server_is) =
      ap (λ (slots : ℕ → AbstractSlot). slots m) slots_are
      ∙ beside child (free id) (born b)
      (λ same. let contradiction : false ≡ true =
      sym (asker_there (a.slots m) is).1 ∙ ap (λ (k : ℕ). is_unborn (a.slots k)) same ∙ h.given.children n child borne in cc)

  asker_kept_if : (r : Option AbstractState) → IfSome r (Ends a n) → IfSome r (λ x. x.slots m ≡ a.slots m)
  asker_kept_if None ends = record {}
  asker_kept_if (Some x) ends = asker_kept x ends

-- It is as it was.
pub askers_stay : (a : AbstractState) → ServesWhoAsked a → (n m : ℕ) (b : Born) → a.slots n ≡ born b → m ≢ n → is_asking (a.slots m) ≡ true →
    IfSome (abs_step a n) (λ x. x.slots m ≡ a.slots m)
askers_stay a h n m b at other is = asker_kept_if a h n m other is (abs_step a n) (step_ends a n b at)
