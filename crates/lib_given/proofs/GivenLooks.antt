-- The law of spawn as it looks at the page of the next byte that the program gives: whether the region of that has a table, and whether a page is there.
use Rattle.std.proofs.Common.{◌≡◌, ◌∙◌, ◌+◌, ◌*◌, ℕ, Bool, true, false, not, refl, sym, ap, if◌then◌else◌}
use Rattle.std.specs.Option.{option_map}
use Rattle.jos_base.specs.declared.numbers.TheConstants.{UVPT}
use Rattle.jos_base.specs.Environments.{Slot, is_live}
use Rattle.jos_base.specs.KernelState.{KernelState, slot_at}
use Rattle.jos_base.specs.Windows.{entry_word, region_entry}
use Rattle.jos_base.specs.Words.{page_number}
use Rattle.lib_os.specs.declared.numbers.TheConstants.{UVPD}
use Rattle.lib_os.specs.declared.service.Service.TheVariants as service
use Rattle.lib_os.specs.declared.spawn_steps.GivenStep.{GivenStep}
use Rattle.lib_os.specs.declared.spawn_steps.SpawnStep.TheVariants as spawn
use Rattle.lib_os.specs.AbstractState.{AbstractState, Born}
use Rattle.lib_os.specs.Fence.{is_inside}
use Rattle.lib_os.specs.LibraryPages.{View, region_index}
use Rattle.lib_os.specs.Places.{place_of}
use Rattle.lib_os.specs.Rows.{Names}
use Rattle.lib_os.specs.StandsAtSpawn.{GivenStands}
use Rattle.lib_os.specs.StandsFor.{StandsFor, view_of}
use Rattle.lib_os.specs.StandsInHandler.{is_refused_by}
use Rattle.lib_os.specs.UserCalls.{load}
use Rattle.lib_os.proofs.BufferLooks.{entry_given, entry_told, region_given, table_none}
use Rattle.lib_os.proofs.EntryWords.{region_told}
use Rattle.lib_os.proofs.Serving.{holds_page}
use Rattle.lib_os.proofs.SpawnOwnPages.{spawn_there, spawn_words, spawns_at}
use Rattle.lib_os.proofs.WindowWords.{read_at}
use Rattle.lib_stage.specs.declared.ask.Next.{Next}
use Rattle.lib_stage.specs.declared.ask.Next.TheVariants as next
use Rattle.lib_stage.specs.ServiceSteps.{ServiceHolds}
use Rattle.lib_stage.proofs.Laws.{Falls}
use Rattle.lib_fd.specs.DescriptorStages.{is_there}
use Rattle.lib_file.specs.Buffers.{entry_asked, region_asked}
use Rattle.lib_file.proofs.Finds.{staged}
use Rattle.lib_request.proofs.OwnPageLaws.{IsLoadedSo, own_load_holds}
use Rattle.lib_request.proofs.SpawnGoes.{loaded_so}
use Rattle.lib_given.specs.Refusals.{at_given}
use Rattle.lib_given.proofs.AddressGoes.{taking_pages}

module _ (s : KernelState) (n path argv : ℕ) (live : is_live (slot_at s n) ≡ true) (from there none : GivenStep)
    (stands : place_of (slot_at s n) ≡ spawns_at path argv (spawn.Given from)) (va : ℕ)
    (kept : holds_page (spawns_at path argv (spawn.Given from)) ≡ taking_pages) (kept_there : taking_pages ≡ holds_page (spawns_at path argv (spawn.Given there)))
    (kept_none : taking_pages ≡ holds_page (spawns_at path argv (spawn.Given none)))
    (falls : (word : ℕ) → Falls (service.Spawn path argv) (at_given from)
    (if not (is_there word) then next.GoOn (at_given none) else next.GoOn (at_given there)))
    (inside : (v : View) (k : Slot) (b : Born) → GivenStands v k b path argv from → is_inside va ≡ true) where
  abbrev look : ℕ → Next
  look word = if not (is_there word) then next.GoOn (at_given none) else next.GoOn (at_given there)

  abbrev home : ℕ
  home = (slot_at s n).directory

  -- what is so at the next step, where something is known of the page
  abbrev Behind : (View → Type 0) → GivenStep → Type 0
  Behind known to =
      (v : View) (k : Slot) (b : Born) → GivenStands v k b path argv from → known v →
      GivenStands v (record k { extra = spawn_words (spawn.Given to) }) b path argv to

  module _ {names : Names} {a : AbstractState} (h : StandsFor names s a) where
    at_start : GivenStands (view_of s.spaces home) (slot_at s n) (spawn_there h n path argv (spawn.Given from) stands).b path argv from
    at_start = (spawn_there h n path argv (spawn.Given from) stands).at

    inside_it : is_inside va ≡ true
    inside_it = inside (view_of s.spaces home) (slot_at s n) (spawn_there h n path argv (spawn.Given from) stands).b at_start

    -- it goes on by the word
    looked : {asked word : ℕ} → load s n asked ≡ read_at s n asked word → (t : Bool) → is_there word ≡ t →
        (t ≡ true → GivenStands (view_of s.spaces home) (record (slot_at s n) { extra = spawn_words (spawn.Given there) })
        (spawn_there h n path argv (spawn.Given from) stands).b path argv there) →
        (t ≡ false → GivenStands (view_of s.spaces home) (record (slot_at s n) { extra = spawn_words (spawn.Given none) })
        (spawn_there h n path argv (spawn.Given from) stands).b path argv none) →
        IsLoadedSo s n (service.Spawn path argv) a look asked (load s n asked)
    looked {word = word} is true test found missing =
        loaded_so h n path argv (spawn.Given from) stands refl look word is (at_given there)
        (ap (λ (c : Bool). if not c then next.GoOn (at_given none) else next.GoOn (at_given there)) test) (record {
          at = spawn.Given there;
          is = refl;
          held = kept ∙ kept_there;
          unborne = refl;
          stands = found refl;
        })
    looked {word = word} is false test found missing =
        loaded_so h n path argv (spawn.Given from) stands refl look word is (at_given none)
        (ap (λ (c : Bool). if not c then next.GoOn (at_given none) else next.GoOn (at_given there)) test) (record {
          at = spawn.Given none;
          is = refl;
          held = kept ∙ kept_none;
          unborne = refl;
          stands = missing refl;
        })

  -- ---- whether the region has a table

  pub region_look_holds : Behind (λ v. v.tables (region_index va) ≡ true) there → Behind (λ v. is_refused_by false (v.row (page_number va)) ≡ true) none →
      ServiceHolds s n (staged (service.Spawn path argv) (region_asked va) look)
  region_look_holds found missing =
      own_load_holds s n (service.Spawn path argv) (at_given from) live refl stands look falls (UVPD + 4 * region_index va) gives
    where
      gives : (names : Names) (a : AbstractState) → StandsFor names s a →
          IsLoadedSo s n (service.Spawn path argv) a look (UVPD + 4 * region_index va) (load s n (UVPD + 4 * region_index va))
      gives names a h =
          let at = spawn_there h n path argv (spawn.Given from) stands in
          let told = region_told (s.spaces.regions home (region_index va)) in
          looked h (region_given h n at.b at.is va (inside_it h))
          (is_there (entry_word (option_map region_entry (s.spaces.regions home (region_index va))))) refl
          (λ is. found (view_of s.spaces home) (slot_at s n) at.b (at_start h) (sym told ∙ is))
          (λ is. missing (view_of s.spaces home) (slot_at s n) at.b (at_start h)
          (ap (is_refused_by false) (table_none h n at.b at.is va (inside_it h) (sym told ∙ is))))

  -- ---- whether a page is there

  pub entry_look_holds : ((v : View) (k : Slot) (b : Born) → GivenStands v k b path argv from → v.tables (region_index va) ≡ true) →
      Behind (λ v. is_refused_by false (v.row (page_number va)) ≡ false) there → Behind (λ v. is_refused_by false (v.row (page_number va)) ≡ true) none →
      ServiceHolds s n (staged (service.Spawn path argv) (entry_asked va) look)
  entry_look_holds tabled found missing =
      own_load_holds s n (service.Spawn path argv) (at_given from) live refl stands look falls (UVPT + 4 * page_number va) gives
    where
      gives : (names : Names) (a : AbstractState) → StandsFor names s a →
          IsLoadedSo s n (service.Spawn path argv) a look (UVPT + 4 * page_number va) (load s n (UVPT + 4 * page_number va))
      gives names a h =
          let at = spawn_there h n path argv (spawn.Given from) stands in
          let told = entry_told h n at.b at.is va (inside_it h) false in
          looked h (entry_given h n at.b at.is va (inside_it h) (tabled (view_of s.spaces home) (slot_at s n) at.b (at_start h)))
          (is_there (entry_word (s.spaces.entries home (page_number va)))) refl
          (λ is. found (view_of s.spaces home) (slot_at s n) at.b (at_start h) (told ∙ ap not is))
          (λ is. missing (view_of s.spaces home) (slot_at s n) at.b (at_start h) (told ∙ ap not is))
