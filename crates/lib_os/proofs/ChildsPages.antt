-- A page of the child's that spawn has mapped, too, counts in the child's space, where it stands with the same frame.
use Rattle.std.proofs.Common.{◌≡◌, ◌≢◌, ◌∙◌, ◌%◌, ℕ, true, false, not, Option, Some, None, refl, sym, ap, subst}
use Rattle.std.proofs.lemmas.Bool.{false≢true}
use Rattle.std.proofs.lemmas.Option.{same_Some}
use Rattle.jos_base.specs.declared.environment.Status.{Status}
use Rattle.jos_base.specs.declared.numbers.TheConstants.{FIRST_ENV_ID, NENV}
use Rattle.jos_base.specs.Environments.{is_free, is_live}
use Rattle.jos_base.specs.KernelState.{KernelState, slot_at}
use Rattle.jos_base.specs.Reach.{Entry}
use Rattle.lib_os.specs.declared.place.Place.{Place}
use Rattle.lib_os.specs.declared.place.Place.TheVariants as place
use Rattle.lib_os.specs.declared.place.Step.TheVariants as step
use Rattle.lib_os.specs.declared.service.Service.TheVariants as service
use Rattle.lib_os.specs.declared.spawn_steps.SpawnStep.{SpawnStep}
use Rattle.lib_os.specs.AbstractState.{AbstractSlot, AbstractState, Born, born, serving, unborn}
use Rattle.lib_os.specs.Places.{place_of}
use Rattle.lib_os.specs.Rows.{Names, is_programs, is_shared, logical, rows_of}
use Rattle.lib_os.specs.SpawnedChild.{spawning_child}
use Rattle.lib_os.specs.SpawnPages.{is_childs}
use Rattle.lib_os.specs.StandsFor.{IsBorneBy, StandsFor, StandsForSlot, StandsForUnborn, borne_in, by_fork, by_spawn}
use Rattle.lib_os.proofs.KeptPages.{unborne_childs}
use Rattle.lib_os.proofs.Logical.{clients_so, is_childs_page, is_plain, logical_plain}
use Rattle.lib_os.proofs.Serving.{words_of_none}
use Rattle.lib_os.proofs.SlotsStand.{born_at, born_live}

-- one that is not born has a page of its own with the frame of an entry, which counts
pub record CountsForChild (s : KernelState) (a : AbstractState) (bearer : ℕ) (y : Entry) : Type 0 where
  pub child : ℕ
  pub id : ℕ
  pub parent : ℕ
  pub unborn_is : a.slots child ≡ unborn id parent
  pub borne : parent % NENV ≡ bearer
  pub not_first : 0 ≢ child
  pub live : is_live (slot_at s child) ≡ true
  pub page : ℕ
  pub programs : is_programs page ≡ true
  pub entry : Entry
  pub counts : logical s.spaces s.environments.slots child page ≡ Some entry
  pub own_page : is_shared entry.perm ≡ false
  pub frame : entry.frame ≡ y.frame

same_step : (path argv other_path other_argv : ℕ) (at to : SpawnStep) →
    place.InService (service.Spawn path argv) (step.Spawning at) ≡ place.InService (service.Spawn other_path other_argv) (step.Spawning to) → at ≡ to
same_step path argv other_path other_argv at to same = cc

module _ {names : Names} {s : KernelState} {a : AbstractState} (h : StandsFor names s a) (m : ℕ) (b : Born) (at : a.slots m ≡ born b) (q : ℕ) (y : Entry)
    (is : rows_of s.spaces (slot_at s m).directory q ≡ Some y) where
  named : b.id % NENV ≡ m
  named = ap (λ (i : ℕ). i % NENV) (sym (born_at h m b at).id) ∙ h.tabled.ids m (born_live (born_at h m b at))

  module _ (path argv : ℕ) (at_step : SpawnStep) (there : place_of (slot_at s m) ≡ place.InService (service.Spawn path argv) (step.Spawning at_step))
      (childs : is_childs at_step q ≡ true) (id : ℕ) (child_is : a.slots (id % NENV) ≡ unborn id b.id) where
    abbrev c : ℕ
    c = id % NENV

    own : StandsForUnborn (slot_at s c) id b.id
    own = subst (λ (slot : AbstractSlot). StandsForSlot names s.spaces (slot_at s c) slot) child_is (h.slots c)

    lives : is_live (slot_at s c) ≡ true
    lives = ap (λ (status : Status). not (is_free status)) own.status

    other : 0 ≢ c
    other first = let contradiction : serving FIRST_ENV_ID ≡ unborn id b.id = sym h.first ∙ ap a.slots first ∙ child_is in cc

    guest : place_of (slot_at s c) ≡ place.Guest
    guest = words_of_none (slot_at s c).registers (slot_at s c).extra own.stack own.words

    by_way : IsBorneBy names s.spaces (slot_at s m) (a.slots m) (slot_at s c) id b.id → CountsForChild s a m y
    by_way (by_fork w) =
        let contradiction : place.InService (service.Spawn path argv) (step.Spawning at_step) ≡ place.InService service.Fork w.step = sym there ∙ w.at in
        absurd cc
    by_way (by_spawn w) =
        let same : w.at_step ≡ at_step = same_step w.path w.argv path argv w.at_step at_step (sym w.at ∙ there) in
        let here = w.here q (ap (λ (t : SpawnStep). is_childs t q) same ∙ childs) in
        record {
          child = c;
          id = id;
          parent = b.id;
          unborn_is = child_is;
          borne = named;
          not_first = other;
          live = lives;
          page = here.place;
          programs = here.programs;
          entry = here.there;
          counts = logical_plain s.spaces s.environments.slots c (clients_so c (slot_at s c) other lives) (ap is_plain guest) here.place ∙ here.there_is;
          own_page = here.own_page;
          frame = sym here.same ∙ ap (λ (e : Entry). e.frame) (same_Some here.here y (sym here.here_is ∙ is));
        }

    of_child : CountsForChild s a m y
    of_child =
        by_way
        (subst (λ (p : ℕ). IsBorneBy names s.spaces (slot_at s p) (a.slots p) (slot_at s c) id b.id) named (h.children.borne c id b.id child_is))

  pub childs_page : is_childs_page (place_of (slot_at s m)) q ≡ true → CountsForChild s a m y
  childs_page childs = by_place (place_of (slot_at s m)) refl childs
    where
      by_child : (path argv : ℕ) (at_step : SpawnStep) → place_of (slot_at s m) ≡ place.InService (service.Spawn path argv) (step.Spawning at_step) →
          is_childs at_step q ≡ true → (o : Option ℕ) → spawning_child at_step ≡ o → CountsForChild s a m y
      by_child path argv at_step there childs None none = absurd (false≢true (sym (unborne_childs at_step none q) ∙ childs))
      by_child path argv at_step there childs (Some id) bears =
          of_child path argv at_step there childs id (h.children.have m id b at (ap borne_in there ∙ bears))

      by_place : (p : Place) → place_of (slot_at s m) ≡ p → is_childs_page p q ≡ true → CountsForChild s a m y
      by_place (place.InService (service.Spawn path argv) (step.Spawning at_step)) there childs =
          by_child path argv at_step there childs (spawning_child at_step) refl
      by_place _ there childs = absurd (false≢true childs)
