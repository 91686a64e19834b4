-- The law of spawn as it gives its child a page of a segment.
use Rattle.std.proofs.Common.{◌≡◌, ◌≢◌, ◌∙◌, ◌+◌, ◌*◌, ◌/◌, ◌%◌, ◌<◌, ◌≤◌, ◌==◌, ◌&&◌, ◌||◌, ◌⊎◌, ◌++◌, inl, inr, ℕ, Bool, true, false, not, List, [], ◌∷◌}
use Rattle.std.proofs.Common.{Some, refl, sym, ap, subst, arith}
use Rattle.std.proofs.Common.{if◌then◌else◌}
use Rattle.std.specs.Prelude.{nat_lt}
use Rattle.std.proofs.lemmas.Bool.{ltb-false, ltb-true}
use Rattle.std.proofs.lemmas.Bool.Decides.{nat_tests}
use Rattle.jos_base.specs.declared.called.Called.{Called}
use Rattle.jos_base.specs.declared.numbers.TheConstants.{E_NO_MEM, FDTABLE, NENV, PGSIZE, SYS_PAGE_ALLOC}
use Rattle.jos_base.specs.Environments.{Slot, is_live}
use Rattle.jos_base.specs.KernelState.{KernelState, slot_at, with_extra, with_refusal, with_spaces}
use Rattle.jos_base.specs.SystemCalls.{is_page_address}
use Rattle.jos_base.specs.Words.{negated, page_number}
use Rattle.lib_os.specs.declared.numbers.TheConstants.{SERVICE_SPAWN}
use Rattle.lib_os.specs.declared.place.Step.TheVariants as step
use Rattle.lib_os.specs.declared.service.Service.TheVariants as service
use Rattle.lib_os.specs.declared.spawn_steps.BearingStep.{BearingStep}
use Rattle.lib_os.specs.declared.spawn_steps.BearingStep.TheVariants as bearing
use Rattle.lib_os.specs.declared.spawn_steps.SpawnStep.{SpawnStep}
use Rattle.lib_os.specs.declared.spawn_steps.SpawnStep.TheVariants as spawn
use Rattle.lib_os.specs.declared.spawn_steps.UndoingStep.TheVariants as undoing
use Rattle.lib_os.specs.AbstractState.{AbstractState, Born, ImageRead}
use Rattle.lib_os.specs.InOrder.{IsInOrder}
use Rattle.lib_os.specs.LibraryPages.{View}
use Rattle.lib_os.specs.LibrarySteps.{NothingRefused}
use Rattle.lib_os.specs.Places.{place_of}
use Rattle.lib_os.specs.Rows.{Names, own_perm}
use Rattle.lib_os.specs.SpawnedChild.{Progress, placing}
use Rattle.lib_os.specs.StandsAtSpawn.{HasPages, IsPlacing}
use Rattle.lib_os.specs.StandsFor.{StandsFor, borne_in, view_of}
use Rattle.lib_os.specs.UserCalls.{CallStep, system}
use Rattle.lib_os.proofs.Calls.{PageMade, PageRefused, refusal_is_seen}
use Rattle.lib_os.proofs.CallersStay.{alloc_answers}
use Rattle.lib_os.proofs.BorneCalls.{borne_page_made_or_refused}
use Rattle.lib_os.proofs.ChildPlaced.{Places, PlacesPage, page_placed_stands}
use Rattle.lib_os.proofs.Effects.{Made}
use Rattle.lib_os.proofs.Placing.{allocated_made}
use Rattle.lib_os.proofs.SpawnCopies.{spawn_allocs_copies}
use Rattle.lib_os.proofs.SpawnedProgress.{loads_same}
use Rattle.lib_os.proofs.SpawnOwnPages.{spawn_there, spawn_words, spawns_at}
use Rattle.lib_stage.specs.declared.ask.Ask.TheVariants as ask
use Rattle.lib_stage.specs.declared.ask.Next.TheVariants as next
use Rattle.lib_stage.specs.Asks.{performed}
use Rattle.lib_stage.specs.Nexts.{settled}
use Rattle.lib_stage.specs.ServiceSteps.{Plan, ServiceHolds, upshot_by}
use Rattle.lib_stage.proofs.Laws.{FollowsBy, knowingly}
use Rattle.lib_file.proofs.Finds.{staged}
use Rattle.lib_child.specs.BearingStages.{bears, next_of, page_behind}
use Rattle.lib_child.specs.ChildSegments.{pages_from, writable_perm}
use Rattle.lib_fork.specs.ForkStages.{page_va}
use Rattle.lib_child.proofs.BearingCalls.{call_holds}
use Rattle.lib_child.proofs.BearingOn.{ComesTo, none_mine, pages_come}
use Rattle.lib_child.proofs.BearingStays.{child_told}
use Rattle.lib_child.proofs.HeaderSays.{image_lies}
use Rattle.lib_child.proofs.PagesPlaced.{IsPageOf, page_inside, page_low, places_last, places_next}
use Rattle.lib_child.proofs.PiecesLeft.{count_of}

-- the address of a page that a program may have
pub placed_address : (page : ℕ) → page < FDTABLE / PGSIZE → (is_page_address (page_va page) ≡ true) × (page_number (page_va page) ≡ page)
placed_address page lower =
    let number : page_number (page_va page) ≡ page = omega (arith, lower) in
    let begins : page_va page % PGSIZE ≡ 0 = omega arith in
    let same : page_va page ≡ page * PGSIZE = omega (arith, lower) in
    (grind (arith, nat_tests, lower, begins, same), number)

-- ---- what is so where it stands

module _ (v : View) (k : Slot) (b : Born) (path argv fd headers child header page last : ℕ)
    (so : IsPlacing v k b path argv fd headers child header (HasPages page last)) where
  its_page : IsPageOf so.image header page
  its_page =
      let to = so.so.2 in
      let last_is = so.so.3 in
      record {
        below = subst (λ (m : ℕ). header < m) so.has.whole.many so.below;
        loaded = so.so.0;
        total = so.has.whole.size;
        lies = image_lies so.has.whole header so.below so.so.0;
        from = so.so.1;
        to = omega (arith, to, last_is);
      }

  -- ---- where it goes on

  abbrev here : SpawnStep
  here = spawn.Bearing (bearing.PlacingPage fd headers child header page last)

  abbrev more : SpawnStep
  more = spawn.Bearing (bearing.PlacingPage fd headers child header (page + 1) last)

  abbrev behind : SpawnStep
  behind = pages_from fd headers child (header + 1)

  comes : ComesTo v k b path argv child (count_of so.image) (placing (header + 1) 0) behind
  comes = pages_come so.has (header + 1) (let below = so.below in omega (arith, below))

  more_places : Places b child here more page
  more_places image file progress loads is_so =
      let same = loads_same loads so.has.found.is in
      subst (λ (one : ImageRead). PlacesPage b one file progress more page) (sym same.image_is)
      (subst (λ (p : Progress). PlacesPage b so.image file p more page) (sym is_so) (places_next its_page b file more refl))

  last_places : page ≡ last → Places b child here behind page
  last_places all image file progress loads is_so =
      let same = loads_same loads so.has.found.is in
      subst (λ (one : ImageRead). PlacesPage b one file progress behind page) (sym same.image_is)
      (subst (λ (p : Progress). PlacesPage b so.image file p behind page) (sym is_so)
      (places_last its_page b file (all ∙ so.so.3) behind comes.is_so))

-- ---- the law

module _ (s : KernelState) (n path argv : ℕ) (live : is_live (slot_at s n) ≡ true) (fd headers child header page last : ℕ)
    (stands : place_of (slot_at s n) ≡ spawns_at path argv (spawn.Bearing (bearing.PlacingPage fd headers child header page last))) where
  abbrev at : BearingStep
  at = bearing.PlacingPage fd headers child header page last

  abbrev from : SpawnStep
  from = spawn.Bearing at

  abbrev args : List ℕ
  args = child ∷ page_va page ∷ writable_perm ∷ 0 ∷ 0 ∷ []

  abbrev asked : CallStep Called
  asked = system s n SYS_PAGE_ALLOC args

  abbrev plan : Plan
  plan = staged (service.Spawn path argv) (ask.System SYS_PAGE_ALLOC args) (next_of at)

  module _ (names : Names) (a : AbstractState) (h : StandsFor names s a) (last_turn : s.last ≡ Some n) where
    abbrev home : ℕ
    home = (slot_at s n).directory

    abbrev b : Born
    b = (spawn_there h n path argv from stands).b

    so : IsPlacing (view_of s.spaces home) (slot_at s n) b path argv fd headers child header (HasPages page last)
    so = (spawn_there h n path argv from stands).at

    mine : IsPageOf so.image header page
    mine = its_page (view_of s.spaces home) (slot_at s n) b path argv fd headers child header page last so

    address : (is_page_address (page_va page) ≡ true) × (page_number (page_va page) ≡ page)
    address = placed_address page (page_low mine)

    module _ (made : PageMade s (child % NENV) (page_va page) writable_perm asked) (in_order : IsInOrder (with_spaces s made.spaces)) where
      new : Made s.spaces made.spaces (slot_at s (child % NENV)).directory page own_perm
      new =
          subst (λ (p : ℕ). Made s.spaces made.spaces (slot_at s (child % NENV)).directory p own_perm) address.1
          (allocated_made s.spaces made.spaces (slot_at s (child % NENV)).directory (page_number (page_va page)) writable_perm made.frame h.in_order.frames
          in_order.frames refl made.is)

      more_stands : page < last → StandsFor names (with_extra (with_spaces s made.spaces) n
          (spawn_words (spawn.Bearing (bearing.PlacingPage fd headers child header (page + 1) last)))) a
      more_stands less =
          let to : SpawnStep = spawn.Bearing (bearing.PlacingPage fd headers child header (page + 1) last) in
          page_placed_stands h n path argv child from to stands refl refl refl (none_mine from refl refl) (none_mine to refl refl) page (page_inside mine) new
          in_order last_turn (more_places (view_of s.spaces home) (slot_at s n) b path argv fd headers child header page last so)
          (λ v it. record {
            image = it.image;
            has = child_told (spawn_words to) it.has;
            below = it.below;
            so = (it.so.0, (let first = it.so.1 in omega (arith, first)), (omega (arith, less)), it.so.3);
          })

      last_stands : page ≡ last → StandsFor names (with_extra (with_spaces s made.spaces) n (spawn_words (pages_from fd headers child (header + 1)))) a
      last_stands all =
          let to : SpawnStep = pages_from fd headers child (header + 1) in
          let on = comes (view_of s.spaces home) (slot_at s n) b path argv fd headers child header page last so in
          page_placed_stands h n path argv child from to stands refl on.bears (sym on.held) (none_mine from refl refl) on.mine page (page_inside mine) new
          in_order last_turn (last_places (view_of s.spaces home) (slot_at s n) b path argv fd headers child header page last so all)
          (λ v it. (comes v (slot_at s n) b path argv fd headers child header page last it).stands)

      page_stands : StandsFor names (with_extra (with_spaces s made.spaces) n (spawn_words (page_behind fd headers child header page last))) a
      page_stands = by_test (nat_lt page last) refl
        where
          by_test : (c : Bool) → nat_lt page last ≡ c → StandsFor names (with_extra (with_spaces s made.spaces) n (spawn_words (if c
              then spawn.Bearing (bearing.PlacingPage fd headers child header (page + 1) last) else pages_from fd headers child (header + 1)))) a
          by_test true test = more_stands (ltb-true page last test)
          by_test false test =
              let past = ltb-false page last test in let most = so.so.2 in last_stands (omega (arith, past, most))

    -- where it was refused there is nothing to show
    never : (c : Bool) → NothingRefused s (settled SERVICE_SPAWN (if c
        then next.GoOn (step.Spawning (spawn.Undoing (undoing.DestroyingChild fd child (negated E_NO_MEM))))
        else next.GoOn (step.Spawning (page_behind fd headers child header page last))) (with_refusal s) n) → ⊥
    never true quiet = refusal_is_seen s (record { stays = quiet.stays; could = quiet.could })
    never false quiet = refusal_is_seen s (record { stays = quiet.stays; could = quiet.could })

    follows : IsInOrder asked.state → NothingRefused s (upshot_by plan n asked asked.gives).state → FollowsBy s n plan a asked
    follows order quiet =
        by_call (borne_page_made_or_refused h n child b (spawn_there h n path argv from stands).is (ap borne_in stands) (page_va page) writable_perm
        (0 ∷ 0 ∷ []) address.0 refl)
      where
        by_call : PageMade s (child % NENV) (page_va page) writable_perm asked ⊎ PageRefused s (child % NENV) (page_va page) writable_perm asked →
            FollowsBy s n plan a asked
        by_call (inl made) =
            subst (λ (z : CallStep Called). IsInOrder z.state → FollowsBy s n plan a z) (sym made.step)
            (λ in_order. (refl, (names, page_stands made in_order))) order
        by_call (inr none) =
            absurd (never (not (negated E_NO_MEM == 0))
            (subst (λ (z : CallStep Called). NothingRefused s (upshot_by plan n z z.gives).state) none.step quiet))

  pub placing_page_holds : ServiceHolds s n (bears (record { at = bearing.PlacingPage fd headers child header page last }))
  unfolding performed
  placing_page_holds =
      call_holds s n path argv live at stands SYS_PAGE_ALLOC args
      (knowingly refl (spawn_allocs_copies s n path argv child from stands refl (page_va page) writable_perm) (λ a h. refl)) (omega arith) refl
      (alloc_answers s n live child (page_va page) writable_perm 0 0) (λ order a h turn quiet. follows h.0 a h.1 turn.last order quiet)
