-- The laws of spawn as it maps at SPAWN_HERE the child's page into which the next bytes of a piece are put, and as it gives that back behind a piece.
use Rattle.std.proofs.Common.{◌≡◌, ◌≢◌, ◌∙◌, ◌+◌, ◌/◌, ◌%◌, ◌==◌, ◌&&◌, ◌||◌, ◌++◌, ℕ, Bool, true, false, not, List, [], ◌∷◌, Some, is_some, refl, sym, ap}
use Rattle.std.proofs.Common.{subst, arith}
use Rattle.std.proofs.lemmas.Bool.Decides.{nat_tests}
use Rattle.std.proofs.lemmas.Option.{same_Some}
use Rattle.jos_base.specs.declared.called.Called.{Called}
use Rattle.jos_base.specs.declared.numbers.TheConstants.{NENV, NPTENTRIES, SYS_PAGE_MAP, SYS_PAGE_UNMAP, UTEMP}
use Rattle.jos_base.specs.Environments.{is_live}
use Rattle.jos_base.specs.KernelState.{KernelState, slot_at, with_extra, with_spaces}
use Rattle.jos_base.specs.Reach.{Entry}
use Rattle.jos_base.specs.SystemCalls.{is_page_address}
use Rattle.jos_base.specs.Words.{page_number}
use Rattle.lib_os.specs.declared.numbers.TheConstants.{SPAWN_GIVEN, SPAWN_HERE, SPAWN_STACK, TRANSFER_MAX}
use Rattle.lib_os.specs.declared.spawn_steps.BearingStep.{BearingStep}
use Rattle.lib_os.specs.declared.spawn_steps.BearingStep.TheVariants as bearing
use Rattle.lib_os.specs.declared.spawn_steps.SpawnStep.{SpawnStep}
use Rattle.lib_os.specs.declared.spawn_steps.SpawnStep.TheVariants as spawn
use Rattle.lib_os.specs.declared.service.Service.TheVariants as service
use Rattle.lib_os.specs.declared.place.Place.{Place}
use Rattle.lib_os.specs.AbstractSpawn.{all_of}
use Rattle.lib_os.specs.AbstractState.{AbstractState, Born}
use Rattle.lib_os.specs.InOrder.{IsInOrder}
use Rattle.lib_os.specs.LibraryPages.{IsOwnWritable, LibraryPages, has_spawns}
use Rattle.lib_os.specs.Places.{place_of}
use Rattle.lib_os.specs.Rows.{Names, is_shared, rows_of}
use Rattle.lib_os.specs.SpawnedChild.{bytes_replied, filling}
use Rattle.lib_os.specs.StandsAtSpawn.{HasPut, IsPuttingAt}
use Rattle.lib_os.specs.StandsFor.{StandsFor, borne_in, view_of}
use Rattle.lib_os.specs.UserCalls.{CallStep, system}
use Rattle.lib_os.proofs.CallersStay.{map_answers}
use Rattle.lib_os.proofs.EntryWords.{row_entry}
use Rattle.lib_os.proofs.HereMoves.{MapsHere, here_stands, maps_here}
use Rattle.lib_os.proofs.KeptPages.{LiesAside, number_aside}
use Rattle.lib_os.proofs.Removing.{unmapped_removed}
use Rattle.lib_os.proofs.SpawnedGoes.{spawner}
use Rattle.lib_os.proofs.SpawnOwnPages.{spawn_there, spawn_words, spawns_at}
use Rattle.lib_os.proofs.SpawnPagesTaken.{page_given_is, without_page}
use Rattle.lib_os.proofs.SpawnReleases.{released_stands}
use Rattle.lib_os.proofs.Trying.{IsAnswered}
use Rattle.lib_stage.specs.declared.ask.Ask.TheVariants as ask
use Rattle.lib_stage.specs.ServiceSteps.{Plan, ServiceHolds}
use Rattle.lib_stage.proofs.Laws.{FollowsBy, plainly}
use Rattle.lib_file.specs.Keeping.{next_va}
use Rattle.lib_file.proofs.Finds.{staged}
use Rattle.lib_fork.specs.ForkStages.{page_va}
use Rattle.lib_child.specs.BearingStages.{bears, next_of}
use Rattle.lib_child.specs.ChildSegments.{writable_perm}
use Rattle.lib_child.proofs.BearingCalls.{call_holds}
use Rattle.lib_child.proofs.BearingStays.{filled_aside, filled_told, putting_aside, putting_told}
use Rattle.lib_child.proofs.PagesPlaced.{IsPageOf, page_inside, page_low}
use Rattle.lib_child.proofs.PlacingPage.{placed_address}
use Rattle.lib_child.proofs.PutsAt.{HasFilling, page_there, put_page, put_va}

-- ---- the page there

abbrev number : ℕ
number = page_number SPAWN_HERE

aside : LiesAside (page_number SPAWN_HERE)
aside = number_aside (page_number SPAWN_HERE) refl

-- the pages that are kept, by whether that is
abbrev kept_by : ℕ → Bool → Bool → Bool
kept_by q is here = ((q == page_number SPAWN_GIVEN) && true) || ((q == page_number SPAWN_STACK) && true) || (is && here)

others_kept : (q : ℕ) → q ≢ page_number SPAWN_HERE → (first second : Bool) →
    kept_by q (q == page_number SPAWN_HERE) first ≡ kept_by q (q == page_number SPAWN_HERE) second
others_kept q ne first second =
    let off : (q == page_number SPAWN_HERE) ≡ false = eqb-false-of q (page_number SPAWN_HERE) ne in
    ap (λ (c : Bool). kept_by q c first) off ∙ sym (ap (λ (c : Bool). kept_by q c second) off)
  where
    eqb-false-of : (q p : ℕ) → q ≢ p → (q == p) ≡ false
    eqb-false-of q p other = grind (arith, nat_tests, other)

none_childs : (q : ℕ) → q ≢ page_number SPAWN_HERE → (here : Bool) →
    (((q == page_number SPAWN_HERE) && here) || ((q == page_number SPAWN_STACK) && false)) ≡ false
none_childs q ne here =
    let off : (q == page_number SPAWN_HERE) ≡ false = off_of q (page_number SPAWN_HERE) ne in
    ap (λ (c : Bool). (c && here) || ((q == page_number SPAWN_STACK) && false)) off ∙ and_none (q == page_number SPAWN_STACK)
  where
    off_of : (q p : ℕ) → q ≢ p → (q == p) ≡ false
    off_of q p other = grind (arith, nat_tests, other)

    and_none : (c : Bool) → (c && false) ≡ false
    and_none true = refl
    and_none false = refl

no_childs : (q : ℕ) → (((q == page_number SPAWN_HERE) && false) || ((q == page_number SPAWN_STACK) && false)) ≡ false
no_childs q = by_tests (q == page_number SPAWN_HERE) (q == page_number SPAWN_STACK)
  where
    by_tests : (c d : Bool) → ((c && false) || (d && false)) ≡ false
    by_tests true true = refl
    by_tests true false = refl
    by_tests false true = refl
    by_tests false false = refl

or_none : (c : Bool) → (c || false) ≡ c
or_none true = refl
or_none false = refl

-- ---- it is mapped

module _ (s : KernelState) (n path argv : ℕ) (live : is_live (slot_at s n) ≡ true) (fd headers child header va done end : ℕ)
    (stands : place_of (slot_at s n) ≡ spawns_at path argv (spawn.Bearing (bearing.MappingHere fd headers child header va done end))) where
  abbrev at : BearingStep
  at = bearing.MappingHere fd headers child header va done end

  abbrev from : SpawnStep
  from = spawn.Bearing at

  abbrev to : SpawnStep
  to = spawn.Bearing (bearing.PieceLoading fd headers child header va done end)

  abbrev source_va : ℕ
  source_va = page_va (page_number (next_va va done))

  abbrev args : List ℕ
  args = child ∷ source_va ∷ 0 ∷ SPAWN_HERE ∷ writable_perm ∷ []

  abbrev asked : CallStep Called
  asked = system s n SYS_PAGE_MAP args

  abbrev plan : Plan
  plan = staged (service.Spawn path argv) (ask.System SYS_PAGE_MAP args) (next_of at)

  module _ (names : Names) (a : AbstractState) (h : StandsFor names s a) (last : s.last ≡ Some n) where
    abbrev home : ℕ
    home = (slot_at s n).directory

    abbrev b : Born
    b = (spawn_there h n path argv from stands).b

    so : IsPuttingAt (view_of s.spaces home) (slot_at s n) b path argv fd headers child header va done end
    so = (spawn_there h n path argv from stands).at

    abbrev page : ℕ
    page = page_number (va + done)

    mine : IsPageOf so.putting.image header page
    mine = subst (λ (first : ℕ). IsPageOf so.putting.image header (page_number (first + done))) so.va_is (put_page so.putting)

    there : HasFilling names s (slot_at s (child % NENV)) so.putting.image (filling headers header done)
        (all_of so.putting.pieces ++ bytes_replied b.phase) page
    there = page_there (spawner h n path argv child from stands refl).child so.putting.found.is (λ progress is. is) mine so.putting.below

    -- the address at which it is found
    source : (is_page_address (page_va page) ≡ true) × (page_number (page_va page) ≡ page)
    source = placed_address page (page_low mine)

    number_is : page_number (next_va va done) ≡ page
    number_is = ap (λ (q : ℕ). page_number q) (subst (λ (first : ℕ). next_va first done ≡ first + done) so.va_is (put_va so.putting))

    source_number : page_number source_va ≡ page
    source_number = ap (λ (q : ℕ). page_number (page_va q)) number_is ∙ source.1

    -- the region has a table, since that of UTEMP is the same
    library : LibraryPages (spawns_at path argv from) (slot_at s n).extra (rows_of s.spaces home)
    library =
        subst (λ (q : Place). LibraryPages q (slot_at s n).extra (rows_of s.spaces home)) stands (spawn_there h n path argv from stands).own.library

    table : is_some (s.spaces.regions home (number / NPTENTRIES)) ≡ true
    table =
        let page_is : IsOwnWritable (rows_of s.spaces home) (page_number UTEMP) = library.working refl in
        let raw = row_entry s.spaces home (page_number UTEMP) page_is.entry page_is.stands in
        h.in_order.frames.regions home (page_number UTEMP) raw.0 raw.1

    maps : MapsHere s n number there.it.entry asked
    maps =
        maps_here h n child b (spawn_there h n path argv from stands).is (ap borne_in stands) source_va SPAWN_HERE
        (ap (λ (q : ℕ). is_page_address (page_va q)) number_is ∙ source.0) refl there.it.entry
        (ap (rows_of s.spaces (slot_at s (child % NENV)).directory) source_number ∙ there.it.stands) there.writes table

    mapped : IsInOrder (with_spaces s maps.spaces) → StandsFor names (with_extra (with_spaces s maps.spaces) n (spawn_words to)) a
    mapped order =
        here_stands h n path argv child from to stands refl refl number aside refl
        (λ q ne. others_kept q ne (not (done % TRANSFER_MAX == 0)) true) refl (λ q ne. none_childs q ne (not (done % TRANSFER_MAX == 0)))
        (λ q ne. none_childs q ne true) (or_none (not (done % TRANSFER_MAX == 0))) refl page (page_inside mine)
        (λ q told. same_Some page q told) there.it.entry there.it.stands there.it.own_page (maps.given order) table (λ m progress is. is) last order
        (λ beside. record {
          putting = putting_aside beside (λ same. omega (arith, same)) (λ same. omega (arith, same)) aside.no_descriptor (λ same. omega (arith, same))
              (putting_told (spawn_words to) so.putting);
          va_is = so.va_is;
        })

    follows : IsInOrder asked.state → FollowsBy s n plan a asked
    follows order =
        subst (λ (z : CallStep Called). IsInOrder z.state → FollowsBy s n plan a z) (sym maps.step) (λ in_order. (refl, (names, mapped in_order))) order

  pub mapping_here_holds : ServiceHolds s n (bears (record { at = bearing.MappingHere fd headers child header va done end }))
  mapping_here_holds =
      call_holds s n path argv live at stands SYS_PAGE_MAP args (plainly refl) (omega arith) refl
      (map_answers s n live child source_va 0 SPAWN_HERE writable_perm) (λ order a h turn quiet. follows h.0 a h.1 turn.last order)

-- ---- it is given back

module _ (s : KernelState) (n path argv : ℕ) (live : is_live (slot_at s n) ≡ true) (fd headers child header end : ℕ)
    (stands : place_of (slot_at s n) ≡ spawns_at path argv (spawn.Bearing (bearing.UnmappingHere fd headers child header end))) where
  abbrev gives_at : BearingStep
  gives_at = bearing.UnmappingHere fd headers child header end

  abbrev gives : SpawnStep
  gives = spawn.Bearing gives_at

  abbrev behind : SpawnStep
  behind = spawn.Bearing (bearing.PieceLength fd headers child header end)

  abbrev given_args : List ℕ
  given_args = 0 ∷ SPAWN_HERE ∷ 0 ∷ 0 ∷ 0 ∷ []

  abbrev given_asked : CallStep Called
  given_asked = system s n SYS_PAGE_UNMAP given_args

  abbrev giving_plan : Plan
  giving_plan = staged (service.Spawn path argv) (ask.System SYS_PAGE_UNMAP given_args) (next_of gives_at)

  module _ (names : Names) (a : AbstractState) (h : StandsFor names s a) (last : s.last ≡ Some n) where
    abbrev dir : ℕ
    dir = (slot_at s n).directory

    has : HasPut (view_of s.spaces dir) (slot_at s n) (spawn_there h n path argv gives stands).b path argv fd headers child header end
    has = (spawn_there h n path argv gives stands).at

    page_is : IsOwnWritable (rows_of s.spaces dir) number
    page_is = (spawn_there h n path argv gives stands).own.library.spawns number (ap (λ (q : Place). has_spawns q (slot_at s n).extra number) stands)

    given_back : IsInOrder (with_spaces s (without_page s n SPAWN_HERE refl)) →
        StandsFor names (with_extra (with_spaces s (without_page s n SPAWN_HERE refl)) n (spawn_words behind)) a
    given_back order =
        released_stands h n path argv child gives behind stands refl refl number aside.outside aside.no_descriptor
        (λ same. aside.no_stack (sym same)) (λ same. aside.no_copy (sym same)) (unmapped_removed s.spaces dir number h.in_order.frames) (λ ne. refl)
        (λ is same. absurd (omega (arith, same))) (λ q ne. others_kept q ne true false) refl
        (λ x is. ap (λ (e : Entry). is_shared e.perm) (same_Some x page_is.entry (sym is ∙ page_is.stands)) ∙ page_is.own_page)
        (λ q ne. none_childs q ne true) no_childs (λ m progress is. is) last order
        (λ beside. record {
          filled = filled_aside beside (λ same. omega (arith, same)) (λ same. omega (arith, same)) aside.no_descriptor
              (filled_told (spawn_words behind) has.filled);
          so = (has.loaded, has.ends);
        })

    given_follows : IsInOrder given_asked.state → FollowsBy s n giving_plan a given_asked
    given_follows order =
        subst (λ (z : CallStep Called). IsInOrder z.state → FollowsBy s n giving_plan a z) (sym (page_given_is s n SPAWN_HERE refl live))
        (λ in_order. (refl, (names, given_back in_order))) order

  answered : IsAnswered given_asked n (slot_at s n).registers
  answered =
      subst (λ (z : CallStep Called). IsAnswered z n (slot_at s n).registers) (sym (page_given_is s n SPAWN_HERE refl live))
      (record { answer = 0; gives = refl; live = live; registers = refl; written = refl })

  pub unmapping_here_holds : ServiceHolds s n (bears (record { at = bearing.UnmappingHere fd headers child header end }))
  unmapping_here_holds =
      call_holds s n path argv live gives_at stands SYS_PAGE_UNMAP given_args (plainly refl) (omega arith) refl answered
      (λ order a h turn quiet. given_follows h.0 a h.1 turn.last order)
