-- The law of spawn as it loads a byte of the strings, which it puts into the page of the stack next.
use Rattle.std.proofs.Common.{◌≡◌, ◌+◌, ◌*◌, ◌%◌, ◌≤◌, ℕ, List, true, refl, subst, arith}
use Rattle.std.specs.Prelude.{slice_index}
use Rattle.std.proofs.lemmas.Bool.Decides.{nat_tests}
use Rattle.jos_base.specs.declared.numbers.TheConstants.{PGSIZE}
use Rattle.jos_base.specs.Environments.{Slot, is_live}
use Rattle.jos_base.specs.KernelState.{KernelState, slot_at}
use Rattle.jos_base.specs.Words.{page_number}
use Rattle.jos_elf.specs.StackPage.{fits_stack, stack_size, strings_of, strings_size}
use Rattle.lib_os.specs.declared.numbers.TheConstants.{SPAWN_GIVEN}
use Rattle.lib_os.specs.declared.service.Service.TheVariants as service
use Rattle.lib_os.specs.declared.spawn_steps.GivenStep.{GivenStep}
use Rattle.lib_os.specs.declared.spawn_steps.GivenStep.TheVariants as given
use Rattle.lib_os.specs.declared.spawn_steps.SpawnStep.TheVariants as spawn
use Rattle.lib_os.specs.AbstractState.{AbstractState, Born}
use Rattle.lib_os.specs.LibraryPages.{View}
use Rattle.lib_os.specs.Places.{place_of}
use Rattle.lib_os.specs.Rows.{Names}
use Rattle.lib_os.specs.StandsAtSpawn.{HasStrings, IsStacking}
use Rattle.lib_os.specs.StandsFor.{StandsFor, view_of}
use Rattle.lib_os.specs.UserCalls.{load_byte}
use Rattle.lib_os.proofs.SpawnOwnPages.{own_byte_loaded, spawn_there, spawn_words, spawns_at}
use Rattle.lib_stage.specs.declared.ask.Next.{Next}
use Rattle.lib_stage.specs.declared.ask.Next.TheVariants as next
use Rattle.lib_stage.specs.ServiceSteps.{ServiceHolds}
use Rattle.lib_request.proofs.OwnPageLaws.{IsLoadedSo, own_load_byte_holds}
use Rattle.lib_request.proofs.SpawnGoes.{loaded_so}
use Rattle.lib_given.specs.GivenPlan.{giving}
use Rattle.lib_given.specs.Refusals.{at_given}
use Rattle.lib_given.proofs.GivenFalls.{given_falls}
use Rattle.lib_given.proofs.GivenStays.{in_told}

-- words that may be given to a program fit a page
pub strings_fit : (words : List (List ℕ)) → fits_stack words ≡ true → strings_size words ≤ PGSIZE
unfolding fits_stack stack_size
strings_fit words fits = grind (arith, nat_tests, fits)

module _ {v : View} {k : Slot} {b : Born} {path argv : ℕ} (words : List ℕ) where
  pub strings_told : {count size : ℕ} → HasStrings v k b path argv count size → HasStrings v (record k { extra = words }) b path argv count size
  strings_told h = record {
    words = h.words;
    has = record {
      name = h.has.name;
      stage = h.has.stage;
      quotes = h.has.quotes;
      is_in = in_told words h.has.is_in;
      path_kept = h.has.path_kept;
      fits = h.has.fits;
      small_words = h.has.small_words;
      no_ends = h.has.no_ends;
    };
    count_is = h.count_is;
    size_is = h.size_is;
    strings = h.strings;
  }

  pub stacking_told : {count size index copied addressed : ℕ} → IsStacking v k b path argv count size index copied addressed →
      IsStacking v (record k { extra = words }) b path argv count size index copied addressed
  unfolding strings_told
  stacking_told h = record { has = strings_told h.has; lies = h.lies; most = h.most; kept = h.kept }

module _ (s : KernelState) (n path argv : ℕ) (live : is_live (slot_at s n) ≡ true) (count size index copied : ℕ)
    (stands : place_of (slot_at s n) ≡ spawns_at path argv (spawn.Given (given.StringCopying count size index copied))) where
  abbrev copying : GivenStep
  copying = given.StringCopying count size index copied

  abbrev putting : ℕ → GivenStep
  putting byte = given.StringPutting count size index copied byte

  abbrev next_of : ℕ → Next
  next_of byte = next.GoOn (at_given (putting byte))

  loads_byte : (names : Names) (a : AbstractState) → StandsFor names s a →
      IsLoadedSo s n (service.Spawn path argv) a next_of (SPAWN_GIVEN + copied % PGSIZE) (load_byte s n (SPAWN_GIVEN + copied % PGSIZE))
  unfolding stacking_told strings_of
  loads_byte names a h =
      let there = spawn_there h n path argv (spawn.Given copying) stands in
      let so : IsStacking (view_of s.spaces (slot_at s n).directory) (slot_at s n) there.b path argv count size index copied (index + 1) = there.at in
      let most = so.most in
      let size_is = so.has.size_is in
      let fits = strings_fit so.has.words so.has.has.fits in
      let place : page_number SPAWN_GIVEN * PGSIZE + (0 + copied) ≡ SPAWN_GIVEN + copied % PGSIZE = omega (arith, most, size_is, fits) in
      subst (λ (va : ℕ). IsLoadedSo s n (service.Spawn path argv) a next_of va (load_byte s n va)) place
      (loaded_so h n path argv (spawn.Given copying) stands refl next_of (slice_index (strings_of so.has.words) copied)
      (own_byte_loaded h n path argv (spawn.Given copying) stands (page_number SPAWN_GIVEN) refl 0 (strings_of so.has.words) so.has.strings copied
      (omega (arith, most, size_is)) (omega (arith, most, size_is, fits)))
      (at_given (putting (slice_index (strings_of so.has.words) copied))) refl (record {
        at = spawn.Given (putting (slice_index (strings_of so.has.words) copied));
        is = refl;
        held = refl;
        unborne = refl;
        stands = (stacking_told (spawn_words (spawn.Given (putting (slice_index (strings_of so.has.words) copied)))) so, refl);
      }))

  pub string_copying_holds : ServiceHolds s n (giving (record { argv = argv; at = given.StringCopying count size index copied }))
  string_copying_holds =
      own_load_byte_holds s n (service.Spawn path argv) (at_given copying) live refl stands next_of (given_falls path argv copying)
      (SPAWN_GIVEN + copied % PGSIZE) loads_byte
