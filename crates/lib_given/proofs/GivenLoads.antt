-- The law of spawn as it loads the next bytes of an address or of a string: its step in the abstract system takes the same.
use Rattle.std.proofs.Common.{◌≡◌, ◌∙◌, ◌+◌, ◌-◌, ◌<◌, ◌≤◌, ◌==◌, ◌++◌, ℕ, Bool, true, false, List, [], ◌∷◌, None, Some, refl, sym, ap, subst, arith}
use Rattle.std.proofs.Common.{if◌then◌else◌}
use Rattle.std.specs.Int.{w32, from_le_bytes}
use Rattle.std.specs.Prelude.{nat_le}
use Rattle.std.proofs.lemmas.Bool.Decides.{nat_tests}
use Rattle.jos_base.specs.declared.memory.Access.TheVariants.{Read}
use Rattle.jos_base.specs.Environments.{is_live}
use Rattle.jos_base.specs.KernelState.{KernelState, slot_at}
use Rattle.lib_os.specs.declared.place.Step.{Step}
use Rattle.lib_os.specs.declared.place.Step.TheVariants as step
use Rattle.lib_os.specs.declared.service.Service.TheVariants as service
use Rattle.lib_os.specs.declared.spawn_steps.GivenStep.{GivenStep}
use Rattle.lib_os.specs.declared.spawn_steps.GivenStep.TheVariants as given
use Rattle.lib_os.specs.declared.spawn_steps.SpawnStep.{SpawnStep}
use Rattle.lib_os.specs.declared.spawn_steps.SpawnStep.TheVariants as spawn
use Rattle.lib_os.specs.AbstractMemory.{byte_at}
use Rattle.lib_os.specs.AbstractRun.{abs_step}
use Rattle.lib_os.specs.AbstractState.{AbstractState, Born, Stage, Spawning, listing, taking, with_born}
use Rattle.lib_os.specs.Answers.{bytes_from, moved_at_once}
use Rattle.lib_os.specs.LibraryPages.{View}
use Rattle.lib_os.specs.Places.{place_of}
use Rattle.lib_os.specs.Rows.{Names}
use Rattle.lib_os.specs.AbstractSpawn.{more_gathered}
use Rattle.lib_os.specs.SpawnedChild.{spawning_child}
use Rattle.lib_os.specs.SpawnGiven.{address_place}
use Rattle.lib_os.specs.StandsAtSpawn.{GivenStands, IsListing, MayLoad, StandsAtSpawn}
use Rattle.lib_os.specs.StandsFor.{StandsFor, view_of}
use Rattle.lib_os.specs.UserCalls.{load, load_byte}
use Rattle.lib_os.proofs.BytesGathered.{one_from}
use Rattle.lib_os.proofs.DescriptorLooks.{loaded_view}
use Rattle.lib_os.proofs.Loading.{loaded}
use Rattle.lib_os.proofs.Serving.{printed_nothing, service_step}
use Rattle.lib_os.proofs.SpawnGathers.{given_allowed, given_byte, given_byte_small, given_bytes, given_last, given_loaded, given_long, given_small, given_word, lies}
use Rattle.lib_os.proofs.SpawnGathers.{list_steps, more_steps, shown_from, spawn_found}
use Rattle.lib_os.proofs.SpawnOwnPages.{spawn_there, spawn_words, spawns_at}
use Rattle.lib_stage.specs.declared.ask.Ask.TheVariants as ask
use Rattle.lib_stage.specs.declared.ask.Next.{Next}
use Rattle.lib_stage.specs.declared.ask.Next.TheVariants as next
use Rattle.lib_stage.specs.ServiceSteps.{ServiceHolds}
use Rattle.lib_stage.proofs.Laws.{Falls}
use Rattle.lib_file.proofs.Finds.{Follows, staged}
use Rattle.lib_request.proofs.OwnPageLaws.{IsLoadedSo, own_load_byte_holds, own_load_holds}
use Rattle.lib_request.proofs.SpawnGoes.{GoesTo}
use Rattle.lib_given.specs.Addresses.{address_va, at_address, behind_address, with_byte}
use Rattle.lib_given.specs.GivenPlan.{giving}
use Rattle.lib_given.specs.Refusals.{at_given}
use Rattle.lib_given.proofs.AddressGoes.{va_is}
use Rattle.lib_given.proofs.AddressLoads.{address_more, fourth_has, word_has}

-- ---- it is shown

module _ {names : Names} {s : KernelState} {a : AbstractState} (h : StandsFor names s a) (n path argv : ℕ) (from : SpawnStep)
    (stands : place_of (slot_at s n) ≡ spawns_at path argv from) (va wanted : ℕ) (may : MayLoad (view_of s.spaces (slot_at s n).directory) va)
    (some : 0 < wanted) (found : Spawning) (stage : Stage) where
  abbrev home : ℕ
  home = (slot_at s n).directory

  abbrev own_born : Born
  own_born = (spawn_there h n path argv from stands).b

  -- behind the load it goes on, as the abstract system's step has it
  pub shown_follows : spawning_child from ≡ None → abs_step a n ≡ Some (with_born a n (spawn_found own_born path argv found stage)) → (to : Step) →
      GoesTo (view_of s.spaces home) (slot_at s n) (spawn_found own_born path argv found stage) path argv from to →
      Follows (loaded s n va) n (service.Spawn path argv) a (next.Show to)
  shown_follows unborne steps to on =
      subst (λ (x : Step). Follows (loaded s n va) n (service.Spawn path argv) a (next.Show x)) (sym on.is) (
        with_born a n (spawn_found own_born path argv found stage),
        steps,
        printed_nothing a,
        (
          names,
          shown_from (given_loaded h n path argv from stands va wanted may some) n path argv from on.at stands unborne on.unborne on.held found stage own_born
              (spawn_there h n path argv from stands).is
              (subst (λ (w : View). StandsAtSpawn w (record (slot_at s n) { extra = spawn_words on.at }) (spawn_found own_born path argv found stage)
              path argv on.at) (sym (loaded_view s n va home)) on.stands),
        ),
      )

-- ---- an address

module _ (s : KernelState) (n path argv : ℕ) (live : is_live (slot_at s n) ≡ true) (index done word : ℕ)
    (stands : place_of (slot_at s n) ≡ spawns_at path argv (spawn.Given (given.AddressLoading index done word))) where
  abbrev from : SpawnStep
  from = spawn.Given (given.AddressLoading index done word)

  abbrev home_of : ℕ
  home_of = (slot_at s n).directory

  abbrev place : ℕ
  place = address_place argv index done

  abbrev view : View
  view = view_of s.spaces home_of

  module _ {names : Names} {a : AbstractState} (h : StandsFor names s a) where
    abbrev b : Born
    b = (spawn_there h n path argv from stands).b

    abbrev has : GivenStands view (slot_at s n) b path argv (given.AddressLoading index done word)
    has = (spawn_there h n path argv from stands).at

    abbrev so : IsListing view (slot_at s n) b path argv index done word
    so = has.0

    more_wanted : 0 < 4 - done
    more_wanted = let few = so.few in omega (arith, few)

    abbrev taken_now : List ℕ
    taken_now = given_bytes h n path argv from stands place (4 - done) has.1 more_wanted

    abbrev all_taken : List ℕ
    all_taken = so.taken ++ taken_now

    abbrev behind : AbstractState
    behind = with_born a n (spawn_found b path argv (listing so.name so.addresses) (taking all_taken))

    steps : abs_step a n ≡ Some behind
    steps =
        let many = so.many in
        let most = so.most in
        service_step a n b so.is_in.regs (service.Spawn path argv) so.stage (spawn_there h n path argv from stands).is so.is_in.program so.is_in.phase so.is_in.awake
        ∙ list_steps a n b so.is_in.regs path argv so.lists so.are (omega (arith, many, most))
        ∙ (λ i. more_gathered a n b so.is_in.regs (service.Spawn path argv) (listing so.name so.addresses) (address_place argv (so.many i) (so.bytes i))
        (4 - so.bytes i) so.taken)
        ∙ more_steps a n b so.is_in.regs path argv (listing so.name so.addresses) place (4 - done) so.taken has.1.inside
        (given_allowed h n path argv from stands place (4 - done) has.1 more_wanted)

    -- as the code reckons
    place_is : address_va argv index done ≡ place
    place_is = let most = so.most in va_is argv index done (omega (arith, most))

    follows : (to : Step) → GoesTo view (slot_at s n) (spawn_found b path argv (listing so.name so.addresses) (taking all_taken)) path argv from to →
        Follows (loaded s n place) n (service.Spawn path argv) a (next.Show to)
    follows to on =
        shown_follows h n path argv from stands place (4 - done) has.1 more_wanted (listing so.name so.addresses) (taking all_taken) refl steps to on

    -- a word
    word_so : (moved_at_once place (4 - done) == 4) ≡ true →
        IsLoadedSo s n (service.Spawn path argv) a (λ w. next.Show (behind_address index w)) place (load s n place)
    word_so test =
        let four = (lies h n path argv from stands place (4 - done) has.1 more_wanted).word test in
        let within = (lies h n path argv from stands place (4 - done) has.1 more_wanted).within in
        let few = so.few in
        let begins : done ≡ 0 = omega (arith, four, within, few) in
        let last : place + (moved_at_once place (4 - done) - 1) ≡ place + 3 = omega (arith, four) in
        record {
          word = from_le_bytes w32 taken_now;
          step_is = given_word h n path argv from stands place (4 - done) has.1 more_wanted test;
          follows = λ order.
              follows (behind_address index (from_le_bytes w32 taken_now))
              (word_has view (slot_at s n) b path argv index done word has taken_now
              (given_small h n path argv from stands place (4 - done) has.1 more_wanted)
              (given_long h n path argv from stands place (4 - done) has.1 more_wanted ∙ four) begins
              (subst (λ (va : ℕ). MayLoad view va) last (given_last h n path argv from stands place (4 - done) has.1 more_wanted)));
        }

    -- or a byte
    one_taken : (moved_at_once place (4 - done) == 4) ≡ false → taken_now ≡ byte_at a b place ∷ []
    one_taken test =
        ap (bytes_from a b place) ((lies h n path argv from stands place (4 - done) has.1 more_wanted).byte test) ∙ one_from a b place

    byte_so : (moved_at_once place (4 - done) == 4) ≡ false →
        IsLoadedSo s n (service.Spawn path argv) a
        (λ w. if nat_le 3 done then next.Show (behind_address index (with_byte word done w)) else next.Show (at_address argv index (done + 1) (with_byte word done w)))
        place (load_byte s n place)
    byte_so test = record {
      word = byte_at a b place;
      step_is = given_byte h n path argv from stands place (4 - done) has.1 more_wanted test;
      follows = λ order. by_last (nat_le 3 done) refl;
    }
      where
        small : byte_at a b place < 256
        small = given_byte_small h n path argv from stands place (4 - done) has.1 more_wanted

        goes_with : (to : Step) →
            GoesTo view (slot_at s n) (spawn_found b path argv (listing so.name so.addresses) (taking (so.taken ++ byte_at a b place ∷ []))) path argv from to →
            Follows (loaded s n place) n (service.Spawn path argv) a (next.Show to)
        goes_with to on =
            follows to
            (subst (λ (more : List ℕ). GoesTo view (slot_at s n) (spawn_found b path argv (listing so.name so.addresses) (taking (so.taken ++ more))) path argv from to)
            (sym (one_taken test)) on)

        by_last : (c : Bool) → nat_le 3 done ≡ c → Follows (loaded s n place) n (service.Spawn path argv) a
            (if c then next.Show (behind_address index (with_byte word done (byte_at a b place)))
            else next.Show (at_address argv index (done + 1) (with_byte word done (byte_at a b place))))
        by_last true is =
            let few = so.few in
            let past : 3 ≤ done = grind (arith, nat_tests, is) in
            goes_with (behind_address index (with_byte word done (byte_at a b place)))
            (fourth_has view (slot_at s n) b path argv index done word has (byte_at a b place) small (omega (arith, few, past)))
        by_last false is =
            goes_with (at_address argv index (done + 1) (with_byte word done (byte_at a b place)))
            (address_more view (slot_at s n) b path argv index done word has (byte_at a b place) small (grind (arith, nat_tests, is)))

  -- ---- by how many are loaded

  abbrev va : ℕ
  va = address_va argv index done

  abbrev next_by : Bool → ℕ → Next
  next_by whole loaded_word =
      if whole then next.Show (behind_address index loaded_word)
      else if nat_le 3 done then next.Show (behind_address index (with_byte word done loaded_word))
      else next.Show (at_address argv index (done + 1) (with_byte word done loaded_word))

  moved_so : {names : Names} {a : AbstractState} → StandsFor names s a → (c : Bool) → (moved_at_once va (4 - done) == 4) ≡ c →
      (moved_at_once place (4 - done) == 4) ≡ c
  moved_so h c test = ap (λ (q : ℕ). moved_at_once q (4 - done) == 4) (sym (place_is h)) ∙ test

  shows_byte : (last : Bool) (loaded_word : ℕ) → Falls (service.Spawn path argv) (at_given (given.AddressLoading index done word))
      (if last then next.Show (behind_address index (with_byte word done loaded_word))
      else next.Show (at_address argv index (done + 1) (with_byte word done loaded_word)))
  shows_byte true loaded_word = tt
  shows_byte false loaded_word = tt

  by_moved : (whole : Bool) → (moved_at_once va (4 - done) == 4) ≡ whole →
      ServiceHolds s n (staged (service.Spawn path argv) (if whole then ask.Load va else ask.LoadByte va) (next_by whole))
  by_moved true test =
      own_load_holds s n (service.Spawn path argv) (at_given (given.AddressLoading index done word)) live refl stands (next_by true) (λ w. tt) va
      (λ names a h. subst (λ (q : ℕ). IsLoadedSo s n (service.Spawn path argv) a (next_by true) q (load s n q)) (sym (place_is h))
      (word_so h (moved_so h true test)))
  by_moved false test =
      own_load_byte_holds s n (service.Spawn path argv) (at_given (given.AddressLoading index done word)) live refl stands (next_by false)
      (shows_byte (nat_le 3 done)) va
      (λ names a h. subst (λ (q : ℕ). IsLoadedSo s n (service.Spawn path argv) a (next_by false) q (load_byte s n q)) (sym (place_is h))
      (byte_so h (moved_so h false test)))

  pub address_loading_holds : ServiceHolds s n (giving (record { argv = argv; at = given.AddressLoading index done word }))
  address_loading_holds = by_moved (moved_at_once va (4 - done) == 4) refl
