-- The reply of the file server with the page of what it has opened: what it has opened is nobody's before, and the reply waits as any other where the
-- client does not wait for it yet; where the client has no frame for a table the kernel refuses it, and where spawn has no free descriptor the page
-- is not wanted.
use Rattle.std.proofs.Common.{◌≡◌, ◌≢◌, ◌∙◌, ◌⊎◌, ◌+◌, ◌*◌, ◌%◌, ◌<◌, ◌==◌, ◌&&◌, ◌||◌, inl, inr, ℕ, Bool, true, false, List, [], ◌∷◌, length}
use Rattle.std.proofs.Common.{Option, Some, None, refl, sym, ap, subst, arith, if◌then◌else◌}
use Rattle.std.specs.Prelude.{nat_lt}
use Rattle.std.proofs.lemmas.Bool.Decides.{nat_tests}
use Rattle.std.proofs.lemmas.Option.{same_Some}
use Rattle.jos_base.specs.declared.called.Called.TheVariants.{Answered}
use Rattle.jos_base.specs.declared.numbers.TheConstants.{E_IPC_NOT_RECV, E_NO_MEM, FDTABLE, FIRST_ENV_ID, NENV, PGSIZE, UTOP}
use Rattle.jos_base.specs.Environments.{Slot, found, is_live as is_live_slot}
use Rattle.jos_base.specs.KernelState.{KernelState, slot_at, with_refusal}
use Rattle.jos_base.specs.Messages.{Rendezvous, accepts}
use Rattle.jos_base.specs.Reach.{Entry}
use Rattle.jos_base.specs.SpacesState.{SpacesState, inserted}
use Rattle.jos_base.specs.SystemCalls.{entry_at, shared_entry}
use Rattle.jos_base.specs.Words.{page_number}
use Rattle.jos_base.specs.Words.{negated}
use Rattle.lib_os.specs.declared.numbers.TheConstants.{DESCRIPTORS, MAXOPEN, SHORT_QUANTUM}
use Rattle.lib_os.specs.declared.place.Place.TheVariants as place
use Rattle.lib_os.specs.declared.place.Step.TheVariants as step
use Rattle.lib_os.specs.declared.service.Service.{Service}
use Rattle.lib_os.specs.declared.service.Service.TheVariants as service
use Rattle.lib_os.specs.declared.spawn_steps.FilePart.{FilePart}
use Rattle.lib_os.specs.declared.spawn_steps.OpeningStep.TheVariants as opening_step
use Rattle.lib_os.specs.declared.spawn_steps.SpawnStep.{SpawnStep}
use Rattle.lib_os.specs.declared.spawn_steps.SpawnStep.TheVariants as spawn
use Rattle.lib_os.specs.AbstractLaws.{IsNobodys}
use Rattle.lib_os.specs.AbstractRun.{abs_step, may_wait, reply_may_wait, slot_may_wait}
use Rattle.lib_os.specs.AbstractState.{AbstractSlot, AbstractState, Born, Object, OpenFile, Phase, Server, acted, asked, awaiting, born, file, in_service}
use Rattle.lib_os.specs.AskedFor.{IsThere, is_opening}
use Rattle.lib_os.specs.DescriptorPages.{HasObject, IsOpenFile, number_of, place_page}
use Rattle.lib_os.specs.Descriptors.{is_held}
use Rattle.lib_os.specs.FileServer.{reply, reply_at}
use Rattle.lib_os.specs.GuestStep.{born_in}
use Rattle.lib_os.specs.LibraryPages.{View}
use Rattle.lib_os.specs.Places.{place_of}
use Rattle.lib_os.specs.Rows.{HasThing, IsNamed, Names, ShowsBy, descriptor_page, descriptor_perm, is_shared, logical, rows_of}
use Rattle.lib_os.specs.StandsAtSpawn.{IsFor, IsFreeOrNone, for_header, for_piece, for_table, is_free, none_is}
use Rattle.lib_os.specs.StandsFor.{IsServerStatus, StandsFor, StandsForBorn, things_in, view_of}
use Rattle.lib_os.specs.UserCalls.{giving}
use Rattle.lib_os.proofs.AskedPlaces.{AskedPlace, AwaitingPlace, SpawnPlace, asked_place, awaiting_place}
use Rattle.lib_os.proofs.EntryWords.{row_entry}
use Rattle.lib_os.proofs.Holders.{HeldAs, other_entry}
use Rattle.lib_os.proofs.Logical.{clients_are, logical_of}
use Rattle.lib_os.proofs.NamesGiven.{IsUnused}
use Rattle.lib_os.proofs.PassedOn.{given_with}
use Rattle.lib_os.proofs.PipeOwners.{pipe_ends}
use Rattle.lib_os.proofs.Sends.{found_where, not_waited_for, page_has_no_table}
use Rattle.lib_os.proofs.ServerOpens.{HasGivenFile, HasOpenedFile, IsToldNoneFree, descriptor_entry, file_given, none_free_told, open_reply_call}
use Rattle.lib_os.proofs.ServerOpens.{opener, spawn_file_given}
use Rattle.lib_os.proofs.ServerReplies.{served_is, status_at}
use Rattle.lib_os.proofs.ServerStands.{first_slot}
use Rattle.lib_os.proofs.SlotsStand.{born_at, born_live}
use Rattle.lib_os.proofs.SpawnWaits.{AwaitsOpened, SpawnAwaits, SpawnHasAsked, asked_so, expects_file, expects_part}
use Rattle.lib_os.proofs.StatesStand.{born_not_first}

-- ---- nobody's

-- The name is that of a file, which has a place of the table alone, and no environment has a descriptor for it: so no client has the frame of the
-- place's page, and no other frame the name.
module _ {names : Names} {s : KernelState} {a : AbstractState} (h : StandsFor names s a) (number name : ℕ) (e : Entry) (below : number < MAXOPEN)
    (there : s.spaces.entries (slot_at s 0).directory (place_page number) ≡ Some e) (held_by : (a.opened number).held_by ≡ Some name)
    (alone : (other : ℕ) → (a.opened other).held_by ≡ Some name → number ≡ other) (f : OpenFile) (object : a.objects name ≡ file f)
    (nobodys : IsNobodys a name) where
  nobody_holds : (other : ℕ) → HeldAs a number other → ⊥
  nobody_holds other so =
      let same : other ≡ name = same_Some other name (sym so.by ∙ held_by) in
      let contradiction : false ≡ true = sym (ap (λ (n : ℕ). is_held a n) same ∙ nobodys.held) ∙ so.held in cc

  -- what a client has is in another frame
  client_frame : (m p : ℕ) (x : Entry) → m ≢ 0 → is_live_slot (slot_at s m) ≡ true → rows_of s.spaces (slot_at s m).directory p ≡ Some x →
      x.frame ≢ e.frame
  client_frame m p x other live is same =
      let raw = row_entry s.spaces (slot_at s m).directory p x is in
      let apart : (slot_at s m).directory ≢ (slot_at s 0).directory =
      λ one. other (h.in_order.spaces.apart m 0 live (first_slot h).lives one) in
      let it = other_entry h number e below there (slot_at s m).directory p raw.0 raw.1 (ap (λ (y : Entry). y.frame) raw.2 ∙ same) apart in
      nobody_holds it.0 it.1

  counted_frame : (m p : ℕ) (x : Entry) → logical s.spaces s.environments.slots m p ≡ Some x → x.frame ≢ e.frame
  counted_frame m p x counts same =
      let it = logical_of s.spaces s.environments.slots m p x counts in
      let client = clients_are m (slot_at s m) it.0 in
      client_frame m p it.1.entry (λ first. client.0 (sym first)) client.1 it.1.stands (it.1.frame ∙ same)

  -- an object of this name is in the frame of the place's page, and a page has the bytes of one
  not_named : (m p : ℕ) (x : Entry) → logical s.spaces s.environments.slots m p ≡ Some x → is_shared x.perm ≡ true → names.name x.frame ≢ name
  not_named m p x counts shared_page same = by_kind (names.is_object name) refl
    where
      named_so : IsNamed names s.spaces.pages a.shared (things_in s a) a.next_name p x.frame
      named_so = h.named m p x counts shared_page

      shows : ShowsBy (things_in s a) name x.frame (names.is_object name) (names.is_pipe name) (a.shared name) (s.spaces.pages x.frame)
      shows =
          subst (λ (n : ℕ). ShowsBy (things_in s a) n x.frame (names.is_object n) (names.is_pipe n) (a.shared n) (s.spaces.pages x.frame)) same
          named_so.shows

      -- a pipe's page would be that of an end
      no_pipe : names.is_pipe name ≡ true → ⊥
      no_pipe is =
          let end = pipe_ends h m p x counts shared_page (sym named_so.of_pipe ∙ ap (λ (n : ℕ). names.is_pipe n) same ∙ is) in
          nobodys.ends end.0 (end.1 ∙ ap (λ (n : ℕ). Some n) same)

      off_pipes : (c : Bool) → names.is_pipe name ≡ c → c ≡ false
      off_pipes false is = refl
      off_pipes true is = absurd (no_pipe is)

      by_kind : (c : Bool) → names.is_object name ≡ c → ⊥
      by_kind true is =
          let has : HasObject (things_in s a) name x.frame (a.objects name) (s.spaces.pages x.frame) =
          subst (λ (c : Bool). HasThing (things_in s a) name x.frame c (s.spaces.pages x.frame)) (off_pipes (names.is_pipe name) refl)
          (subst (λ (c : Bool). ShowsBy (things_in s a) name x.frame c (names.is_pipe name) (a.shared name) (s.spaces.pages x.frame)) is shows) in
          let it : IsOpenFile (things_in s a) name x.frame f (s.spaces.pages x.frame) =
          subst (λ (o : Object). HasObject (things_in s a) name x.frame o (s.spaces.pages x.frame)) object has in
          let its_number : number ≡ number_of (s.spaces.pages x.frame) = alone (number_of (s.spaces.pages x.frame)) it.held in
          let raw = row_entry s.spaces (slot_at s 0).directory (place_page number) it.entry
          (ap (λ (k : ℕ). rows_of s.spaces (slot_at s 0).directory (place_page k)) its_number ∙ it.stands) in
          let one : raw.0 ≡ e = same_Some raw.0 e (sym raw.1 ∙ there) in
          counted_frame m p x counts (sym it.same ∙ ap (λ (y : Entry). y.frame) (sym raw.2) ∙ ap (λ (y : Entry). y.frame) one)
      by_kind false is =
          let bytes : a.shared name ≡ s.spaces.pages x.frame =
          subst (λ (c : Bool). ShowsBy (things_in s a) name x.frame c (names.is_pipe name) (a.shared name) (s.spaces.pages x.frame)) is shows in
          let whole : length (s.spaces.pages x.frame) ≡ PGSIZE = (h.whole m p x counts).long in
          let none : length (s.spaces.pages x.frame) ≡ 0 = ap (λ (l : List ℕ). length l) (sym bytes ∙ nobodys.page) in
          omega (arith, whole, none)

  pub file_unused : IsUnused names s name e.frame
  file_unused = record { frames = client_frame; counted = counted_frame; unnamed = not_named }

-- ---- the reply

-- The client does not wait yet, and neither is the reply taken; or the page has come to it; or its space has no table for it, and there is no frame
-- for one; or it has no free descriptor, and is told that.
pub data OpenReplied (names : Names) (s : KernelState) (a : AbstractState) (client number name : ℕ) (by : Service) (b : Born) (e : Entry) : Type 0 where
  waits : open_reply_call s b.id number ≡ giving s (Answered (negated E_IPC_NOT_RECV)) → abs_step a 0 ≡ None → may_wait a 0 SHORT_QUANTUM ≡ true →
      OpenReplied names s a client number name by b e
  comes : (sp : SpacesState) (p : ℕ) → inserted s.spaces (slot_at s client).directory p e ≡ Some sp →
      HasGivenFile names s a client number name by b sp → OpenReplied names s a client number name by b e
  lacks : open_reply_call s b.id number ≡ giving (with_refusal s) (Answered (negated E_NO_MEM)) → OpenReplied names s a client number name by b e
  tells : IsToldNoneFree names s a client number by b → OpenReplied names s a client number name by b e

module _ {names : Names} {s : KernelState} {a : AbstractState} (h : StandsFor names s a) (client number name answer : ℕ)
    (is : a.server ≡ acted client answer [] (Some name)) (b : Born) (at : a.slots client ≡ born b) (opens : HasOpenedFile names s a number name) where
  abbrev k : Slot
  k = slot_at s client

  abbrev view : View
  view = view_of s.spaces k.directory

  abbrev Replied : Service → Type 0
  Replied call = OpenReplied names s a client number name call b (descriptor_entry opens.source)

  own : StandsForBorn names s.spaces k b
  own = born_at h client b at

  status : IsServerStatus (acted client answer [] (Some name)) (slot_at s 0)
  status = status_at h (acted client answer [] (Some name)) is

  names_client : found s.environments b.id 0 false ≡ Some client
  names_client =
      subst (λ (m : ℕ). found s.environments b.id 0 false ≡ Some m) number_is
      (found_where s.environments b.id 0 some (ap (λ (m : ℕ). is_live_slot (slot_at s m)) number_is ∙ born_live own)
      (ap (λ (m : ℕ). (slot_at s m).id) number_is ∙ own.id))
    where
      number_is : b.id % NENV ≡ client
      number_is = sym (ap (λ (i : ℕ). i % NENV) own.id) ∙ h.tabled.ids client (born_live own)

      some : b.id ≢ 0
      some zero_is = born_not_first h client b at (sym (ap (λ (i : ℕ). i % NENV) zero_is) ∙ number_is)

  -- ---- it does not wait yet

  silent : (call : Service) → b.phase ≡ in_service call asked → k.rendezvous.receiving ≡ false
  silent call phase = by_place (asked_place (place_of k) view k b call own.at phase)
    where
      by_place : AskedPlace (place_of k) k b call ⊎ SpawnPlace (place_of k) call (SpawnHasAsked view k b) → k.rendezvous.receiving ≡ false
      by_place (inl it) = it.so.silent
      by_place (inr it) = (asked_so it.does).silent

  waits_still : (call : Service) → b.phase ≡ in_service call asked → Replied call
  unfolding may_wait
  waits_still call phase =
      waits (not_waited_for s 0 b.id 0 (FDTABLE + PGSIZE * number) descriptor_perm (0 ∷ []) (first_slot h).lives status.1 client names_client deaf) none
      (ap (λ (slot : AbstractSlot). slot_may_wait a 0 slot SHORT_QUANTUM) h.first
      ∙ ap (λ (o : Option AbstractState). reply_may_wait a.server o) none
      ∙ ap (λ (x : Server). reply_may_wait x None) is)
    where
      deaf : accepts k.rendezvous (slot_at s 0).id ≡ false
      deaf =
          let r : Rendezvous = k.rendezvous in
          ap (λ (waiting : Bool). waiting && ((r.wanted == 0) || (r.wanted == (slot_at s 0).id))) (silent call phase)

      none : abs_step a 0 ≡ None
      none =
          served_is h (acted client answer [] (Some name)) is
          ∙ ap (λ (slot : AbstractSlot). reply a client answer [] (Some name) (born_in slot)) at
          ∙ ap (λ (p : Phase). reply_at a client b answer [] (Some name) p) phase

  -- ---- it waits

  given_on : shared_entry (entry_at s 0 (FDTABLE + PGSIZE * number)) descriptor_perm ≡ Some (descriptor_entry opens.source)
  given_on =
      let place_is : page_number (FDTABLE + PGSIZE * number) ≡ place_page number = omega arith in
      ap (λ (q : ℕ). shared_entry (s.spaces.entries (slot_at s 0).directory q) descriptor_perm) place_is
      ∙ ap (λ (o : Option Entry). shared_entry o descriptor_perm) opens.stands
      ∙ given_with opens.source descriptor_perm refl (λ writes. opens.writes)

  -- for the page of this descriptor: it comes there, where there is a table, or a frame for one
  module _ (call : Service) (fd : ℕ) (low : fd < DESCRIPTORS) (receives : k.rendezvous.receiving ≡ true)
      (wanted : k.rendezvous.wanted ≡ FIRST_ENV_ID) (destination : k.rendezvous.destination ≡ FDTABLE + PGSIZE * fd)
      (given : (sp : SpacesState) → inserted s.spaces k.directory (descriptor_page fd) (descriptor_entry opens.source) ≡ Some sp →
      HasGivenFile names s a client number name call b sp) where
    waits_for_it : accepts k.rendezvous (slot_at s 0).id ≡ true
    waits_for_it = λ i. receives i && ((wanted i == 0) || (wanted i == (first_slot h).id_is i))

    goes : page_number k.rendezvous.destination ≡ descriptor_page fd
    goes = omega (arith, destination, low)

    by_table : (o : Option SpacesState) → inserted s.spaces k.directory (descriptor_page fd) (descriptor_entry opens.source) ≡ o → Replied call
    by_table None put =
        lacks
        (page_has_no_table s 0 b.id 0 (FDTABLE + PGSIZE * number) descriptor_perm (0 ∷ []) (first_slot h).lives status.1 client names_client waits_for_it
        (let below = opens.below in omega (arith, below)) (omega arith) (descriptor_entry opens.source) given_on (omega (arith, destination, low))
        (ap (λ (q : ℕ). inserted s.spaces k.directory q (descriptor_entry opens.source)) goes ∙ put))
    by_table (Some sp) put = comes sp (descriptor_page fd) put (given sp put)

    comes_now : Replied call
    comes_now = by_table (inserted s.spaces k.directory (descriptor_page fd) (descriptor_entry opens.source)) refl

  -- by open_file
  opened_now : (path mode : ℕ) → b.phase ≡ in_service (service.OpenFile path mode) awaiting → Replied (service.OpenFile path mode)
  opened_now path mode phase =
      let there = opener h client number name answer path mode is b at phase opens in
      comes_now (service.OpenFile path mode) there.fd there.expects_it.lowest.below there.so.rendezvous there.so.wanted
      there.expects_it.destination (file_given h client number name answer path mode is b at phase opens)

  -- or by spawn: that may have no free descriptor
  module _ (path argv esp fd id : ℕ)
      (there : place_of k ≡ place.InService (service.Spawn path argv) (step.Spawning (spawn.Opening (opening_step.ReadingOpened esp fd id))))
      (self : id ≡ k.id) (so : AwaitsOpened view k b path argv esp fd) where
    spawned_file : Replied (service.Spawn path argv)
    spawned_file = by_free so.free
      where
        by_free : IsFreeOrNone view fd → Replied (service.Spawn path argv)
        by_free (is_free lowest) =
            let low = lowest.below in
            let below : nat_lt fd DESCRIPTORS ≡ true = grind (arith, nat_tests, low) in
            comes_now (service.Spawn path argv) fd low so.awaiting_it.receives so.awaiting_it.wanted
            (so.awaiting_it.destination_is ∙ ap (λ (t : Bool). if t then FDTABLE + PGSIZE * fd else UTOP) below)
            (spawn_file_given h client number name answer path argv esp fd id is b at there self so lowest opens)
        by_free (none_is none each) =
            tells (none_free_told h client number name answer path argv esp fd id is b at there self so none each opens)

  module _ (path argv : ℕ) (opens_it : is_opening (service.Spawn path argv) b.spawning ≡ true) where
    -- it waits for no bytes
    no_part : {wanted : FilePart} {count : ℕ} → IsFor view b wanted count → ⊥
    no_part (for_header esp fd size words found sized stack long) =
        let contradiction : false ≡ true = sym (ap (is_opening (service.Spawn path argv)) found) ∙ opens_it in cc
    no_part (for_table esp fd size entry_point headers place words header found sized stack begins many few) =
        let contradiction : false ≡ true = sym (ap (is_opening (service.Spawn path argv)) found) ∙ opens_it in cc
    no_part (for_piece fd headers child header done end place image pieces found of_file whole below left come next sized) =
        let contradiction : false ≡ true = sym (ap (is_opening (service.Spawn path argv)) found) ∙ opens_it in cc

    by_step : (path_is argv_is : ℕ) (at_step : SpawnStep) → place_of k ≡ place.InService (service.Spawn path_is argv_is) (step.Spawning at_step) →
        SpawnAwaits view k b path_is argv_is at_step → Replied (service.Spawn path_is argv_is)
    by_step path_is argv_is _ there (expects_file esp fd id self so) = spawned_file path_is argv_is esp fd id there self so
    by_step path_is argv_is _ there (expects_part wanted id self so) = absurd (no_part so.so)

    spawned_now : b.phase ≡ in_service (service.Spawn path argv) awaiting → Replied (service.Spawn path argv)
    spawned_now phase = by_place (awaiting_place (place_of k) view k b (service.Spawn path argv) own.at phase)
      where
        by_place : AwaitingPlace (place_of k) view k b (service.Spawn path argv)
            ⊎ SpawnPlace (place_of k) (service.Spawn path argv) (SpawnAwaits view k b) → Replied (service.Spawn path argv)
        by_place (inl it) = absurd (let contradiction : false ≡ true = it.asks_it in cc)
        by_place (inr it) = subst Replied (sym it.call_is) (by_step it.path it.argv it.step_is it.at it.does)

  now : (call : Service) → is_opening call b.spawning ≡ true → b.phase ≡ in_service call awaiting → Replied call
  now (service.OpenFile path mode) opens_it phase = opened_now path mode phase
  now (service.Spawn path argv) opens_it phase = spawned_now path argv opens_it phase
  now _ opens_it phase = absurd (let contradiction : false ≡ true = opens_it in cc)

  pub opened_replied : (call : Service) → is_opening call b.spawning ≡ true → IsThere b call →
      OpenReplied names s a client number name call b (descriptor_entry opens.source)
  opened_replied call opens_it (inl phase) = waits_still call phase
  opened_replied call opens_it (inr phase) = now call opens_it phase
