-- Where spawn that bears a child goes on behind a word that it has loaded from a page of its own, or stored into one: at another of its steps, with the same
-- pages,
-- where the child has what it is to have.
use Rattle.std.proofs.Common.{◌≡◌, ◌∙◌, ℕ, List, Some, refl, sym, ap, subst}
use Rattle.jos_base.specs.Environments.{Slot}
use Rattle.jos_base.specs.KernelState.{KernelState, slot_at, with_spaces}
use Rattle.lib_os.specs.declared.place.Step.{Step}
use Rattle.lib_os.specs.declared.place.Step.TheVariants as step
use Rattle.lib_os.specs.declared.service.Service.TheVariants as service
use Rattle.lib_os.specs.declared.spawn_steps.SpawnStep.{SpawnStep}
use Rattle.lib_os.specs.AbstractState.{AbstractState, Born}
use Rattle.lib_os.specs.InOrder.{IsInOrder}
use Rattle.lib_os.specs.LibraryPages.{View}
use Rattle.lib_os.specs.Places.{place_of}
use Rattle.lib_os.specs.Rows.{Names}
use Rattle.lib_os.specs.SpawnedChild.{spawning_child}
use Rattle.lib_os.specs.SpawnPages.{is_childs}
use Rattle.lib_os.specs.StandsAtSpawn.{StandsAtSpawn}
use Rattle.lib_os.specs.StandsFor.{StandsFor, view_of}
use Rattle.lib_os.specs.UserCalls.{CallStep}
use Rattle.lib_os.proofs.Loading.{loaded}
use Rattle.lib_os.proofs.Serving.{holds_page}
use Rattle.lib_os.proofs.SpawnedGoes.{Goes, HereStill, borne_loaded, borne_stored}
use Rattle.lib_os.proofs.SpawnOwnPages.{IsStoredInto, spawn_there, spawn_words, spawns_at}
use Rattle.lib_os.proofs.WindowWords.{read_at}
use Rattle.lib_stage.specs.declared.ask.Next.{Next}
use Rattle.lib_stage.specs.declared.ask.Next.TheVariants as next
use Rattle.lib_file.proofs.Finds.{Follows}
use Rattle.lib_request.proofs.OwnPageLaws.{IsLoadedSo, IsStoredSo}

-- the step at which it goes on, and that it stands so there, and its child with it
pub record BorneGoesTo (w : View) (k : Slot) (b : Born) (path argv id : ℕ) (from : SpawnStep) (to : Step) : Type 0 where
  pub at : SpawnStep
  pub is : to ≡ step.Spawning at
  pub held : holds_page (spawns_at path argv from) ≡ holds_page (spawns_at path argv at)
  pub bears : spawning_child at ≡ Some id
  pub childs : (p : ℕ) → is_childs from p ≡ is_childs at p
  pub told : HereStill from at
  pub goes : Goes b id from at
  pub stands : StandsAtSpawn w (record k { extra = spawn_words at }) b path argv at

module _ {names : Names} {s : KernelState} {a : AbstractState} (h : StandsFor names s a) (n path argv id : ℕ) (from : SpawnStep)
    (stands : place_of (slot_at s n) ≡ spawns_at path argv from) (bears : spawning_child from ≡ Some id) (next_of : ℕ → Next) where
  -- behind a store
  pub borne_stored_so : {p at : ℕ} {bytes : List ℕ} {call : CallStep (Unit {0})} →
      (it : IsStoredInto names s a n path argv from (spawn_there h n path argv from stands).b p at bytes call) → (to : Step) → next_of 0 ≡ next.GoOn to →
      (IsInOrder (with_spaces s it.spaces) →
      BorneGoesTo (view_of it.spaces (slot_at s n).directory) (slot_at s n) (spawn_there h n path argv from stands).b path argv id from to) →
      IsStoredSo s n (service.Spawn path argv) a next_of call
  borne_stored_so it to next_is goes = record {
    spaces = it.spaces;
    step_is = it.step_is;
    follows = λ order last.
        let on = goes order in
        subst (λ (x : Next). Follows (with_spaces s it.spaces) n (service.Spawn path argv) a x) (sym (next_is ∙ ap next.GoOn on.is)) (
          refl,
          (
            names,
            borne_stored h n path argv id from on.at stands bears on.bears on.held on.childs on.told it.spaces
                (it.stands_beside order) last on.goes on.stands,
          ),
        );
  }

  -- behind a load
  pub borne_loaded_so : {va : ℕ} {call : CallStep ℕ} → (word : ℕ) → call ≡ read_at s n va word → (to : Step) → next_of word ≡ next.GoOn to →
      BorneGoesTo (view_of s.spaces (slot_at s n).directory) (slot_at s n) (spawn_there h n path argv from stands).b path argv id from to →
      IsLoadedSo s n (service.Spawn path argv) a next_of va call
  borne_loaded_so {va = va} word is to next_is on = record {
    word = word;
    step_is = is;
    follows = λ order.
        subst (λ (x : Next). Follows (loaded s n va) n (service.Spawn path argv) a x) (sym (next_is ∙ ap next.GoOn on.is))
        (refl, (names, borne_loaded h n path argv id from on.at stands bears on.bears on.held on.childs on.told va order on.goes on.stands));
  }
