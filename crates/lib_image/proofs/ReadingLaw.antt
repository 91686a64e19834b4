-- The law of spawn where it reads a part of its file: its page tells the number of the file, how many bytes are wanted and the place of the first; it asks with that page, waits for
-- the reply, and goes on by the word of that.
use Rattle.std.proofs.Common.{◌≡◌, ◌∙◌, ◌+◌, ◌^◌, ◌<◌, ◌||◌, ℕ, Bool, true, false, not, [], length, refl, sym, ap, subst, arith, if◌then◌else◌}
use Rattle.jos_base.specs.declared.environment.Status.TheVariants.{Runnable}
use Rattle.jos_base.specs.declared.numbers.TheConstants.{UTEMP, UTOP}
use Rattle.jos_base.specs.Environments.{is_live, is_runnable, is_running}
use Rattle.jos_base.specs.KernelState.{KernelState, slot_at}
use Rattle.jos_base.specs.Words.{negated, page_number}
use Rattle.jos_elf.specs.declared.numbers.TheConstants.{E_NOT_EXEC}
use Rattle.lib_os.specs.declared.numbers.TheConstants.{FD_FILE, FSREQ_READ_AT, REQUEST_COUNT, REQUEST_FILE, REQUEST_PLACE, SPAWN_GIVEN}
use Rattle.lib_os.specs.declared.place.Step.TheVariants as step
use Rattle.lib_os.specs.declared.service.Service.TheVariants as service
use Rattle.lib_os.specs.declared.spawn_steps.FilePart.{FilePart}
use Rattle.lib_os.specs.declared.spawn_steps.ReadStep.{ReadStep}
use Rattle.lib_os.specs.declared.spawn_steps.ReadStep.TheVariants as read
use Rattle.lib_os.specs.declared.spawn_steps.SpawnStep.{SpawnStep}
use Rattle.lib_os.specs.declared.spawn_steps.SpawnStep.TheVariants as spawn
use Rattle.lib_os.specs.AbstractState.{AbstractState, Born, asked}
use Rattle.lib_os.specs.FileServer.{is_count}
use Rattle.lib_os.specs.LibraryPages.{View}
use Rattle.lib_os.specs.Places.{place_of}
use Rattle.lib_os.specs.Rows.{Names}
use Rattle.lib_os.specs.StandsAtSpawn.{Asks, AwaitsBytes, GivenHas, IsAwaitingPart, Tells, TellsAll, TellsCount, TellsNumber, awaits_bytes, has_bytes, number_at}
use Rattle.lib_os.specs.StandsFor.{StandsFor, view_of}
use Rattle.lib_os.specs.UserCalls.{load, store}
use Rattle.lib_os.proofs.DescriptorLooks.{descriptor_va}
use Rattle.lib_os.proofs.DeviceLooks.{word_beside}
use Rattle.lib_os.proofs.PagesPut.{page_before, page_put}
use Rattle.lib_os.proofs.ReplyRead.{reply_load}
use Rattle.lib_os.proofs.SlotsStand.{born_live}
use Rattle.lib_os.proofs.SpawnAsks.{SpawnAsking, goes_bearing, hides_bearing}
use Rattle.lib_os.proofs.SpawnGathers.{spawn_found}
use Rattle.lib_os.proofs.SpawnOwnPages.{own_word_stored, spawn_there, spawn_words, spawns_at, spawns_own}
use Rattle.lib_os.proofs.SpawnRequests.{found_before, part_asking}
use Rattle.lib_os.proofs.SpawnWaits.{asks_part}
use Rattle.lib_stage.specs.declared.ask.Next.{Next}
use Rattle.lib_stage.specs.ServiceSteps.{ServiceHolds}
use Rattle.lib_request.specs.Replies.{reply_place}
use Rattle.lib_request.proofs.OwnPageLaws.{IsLoadedSo, IsStoredSo, own_load_holds, own_store_holds}
use Rattle.lib_image.specs.declared.stage.ImageStage.TheVariants as stage
use Rattle.lib_image.specs.ImageStages.{imaging}
use Rattle.lib_image.specs.ReadingStages.{fd_of, first_of, is_whole, not_read, once_read, reading_next, wanted}
use Rattle.lib_image.specs.SpawnNexts.{goes_on}
use Rattle.lib_image.proofs.ImageFalls.{reading_falls}
use Rattle.lib_image.proofs.OpeningAsks.{spawn_asking_holds, spawn_awaiting_holds, spawn_identifying_holds, spawn_pausing_holds}
use Rattle.lib_image.proofs.OpeningLaw.{awake_runs}
use Rattle.lib_image.proofs.ReadingGoes.{count_is, fd_is, loaded_bearing, place_is, reading_bears, stored_bearing}
use Rattle.lib_image.proofs.ReadingParts.{ReadsOn, asked_in, before_in, before_loads, for_before, for_count, short_goes, short_long, unread_goes, whole_goes}
use Rattle.lib_image.proofs.ReadingParts.{whole_long}
use Rattle.lib_image.proofs.ReadingStays.{asks_moved, asks_put, number_put, tells_all_moved}

module _ (s : KernelState) (n path argv : ℕ) (live : is_live (slot_at s n) ≡ true) (wants : FilePart) where
  abbrev seen : View
  seen = view_of s.spaces (slot_at s n).directory

  -- ---- the number of the file

  module _ (stands : place_of (slot_at s n) ≡ spawns_at path argv (spawn.Reading wants read.LoadingNumber)) where
    module _ {names : Names} {a : AbstractState} (h : StandsFor names s a) where
      abbrev loading_born : Born
      loading_born = (spawn_there h n path argv (spawn.Reading wants read.LoadingNumber) stands).b

      about : Asks seen (slot_at s n) loading_born path argv wants
      about = (spawn_there h n path argv (spawn.Reading wants read.LoadingNumber) stands).at

      number_gives : IsLoadedSo s n (service.Spawn path argv) a (reading_next wants read.LoadingNumber) (descriptor_va (fd_of wants) + FD_FILE)
          (load s n (descriptor_va (fd_of wants) + FD_FILE))
      number_gives =
          let file = about.of_file.file in
          let to : SpawnStep = spawn.Reading wants (read.StoringNumber (number_at about.of_file)) in
          subst (λ (fd : ℕ). IsLoadedSo s n (service.Spawn path argv) a (reading_next wants read.LoadingNumber) (descriptor_va fd + FD_FILE)
          (load s n (descriptor_va fd + FD_FILE))) (sym (fd_is about.before))
          (loaded_bearing h n path argv (spawn.Reading wants read.LoadingNumber) (spawn.Reading wants (read.StoringNumber (number_at about.of_file))) stands refl
          (reading_next wants read.LoadingNumber) (reading_bears wants read.LoadingNumber (read.StoringNumber (number_at about.of_file))) (number_at about.of_file)
          (word_beside h n loading_born (spawn_there h n path argv (spawn.Reading wants read.LoadingNumber) stands).is about.fd about.of_file.below file.entry
          file.stands FD_FILE refl (omega arith)) refl (asks_moved (slot_at s n).status (spawn_words to) about, refl))

    pub loading_number_holds : ServiceHolds s n (imaging (stage.Reading wants read.LoadingNumber))
    loading_number_holds =
        own_load_holds s n (service.Spawn path argv) (step.Spawning (spawn.Reading wants read.LoadingNumber)) live refl stands
        (reading_next wants read.LoadingNumber) (reading_falls path argv wants read.LoadingNumber) (descriptor_va (fd_of wants) + FD_FILE) (λ names a h. number_gives h)

  -- ---- its page tells the request

  module _ (number : ℕ) (stands : place_of (slot_at s n) ≡ spawns_at path argv (spawn.Reading wants (read.StoringNumber number))) where
    number_stored : (names : Names) (a : AbstractState) → StandsFor names s a →
        IsStoredSo s n (service.Spawn path argv) a (reading_next wants (read.StoringNumber number)) (store s n (UTEMP + REQUEST_FILE) number)
    number_stored names a h =
        let v = spawn_there h n path argv (spawn.Reading wants (read.StoringNumber number)) stands in
        let at : (so : Asks seen (slot_at s n) v.b path argv wants) × (number ≡ number_at so.of_file) = v.at in
        let it = own_word_stored h n path argv (spawn.Reading wants (read.StoringNumber number)) stands (page_number UTEMP) refl REQUEST_FILE number (omega arith) in
        stored_bearing h n path argv (spawn.Reading wants (read.StoringNumber number)) (spawn.Reading wants read.StoringCount) stands refl
        (reading_next wants (read.StoringNumber number)) (reading_bears wants (read.StoringNumber number) read.StoringCount) it refl
        (λ order. let put = it.put order in
        record {
          asks = asks_moved (slot_at s n).status (spawn_words (spawn.Reading wants read.StoringCount)) (asks_put put at.0);
          number = subst (λ (w : ℕ). Tells (view_of it.spaces (slot_at s n).directory) REQUEST_FILE w) (at.1 ∙ sym (number_put put at.0.of_file)) (page_put put);
        })

    pub storing_number_holds : ServiceHolds s n (imaging (stage.Reading wants (read.StoringNumber number)))
    storing_number_holds =
        own_store_holds s n (service.Spawn path argv) (step.Spawning (spawn.Reading wants (read.StoringNumber number))) live refl stands
        (reading_next wants (read.StoringNumber number)) (reading_falls path argv wants (read.StoringNumber number)) (UTEMP + REQUEST_FILE) number refl number_stored

  module _ (stands : place_of (slot_at s n) ≡ spawns_at path argv (spawn.Reading wants read.StoringCount)) where
    count_stored : (names : Names) (a : AbstractState) → StandsFor names s a →
        IsStoredSo s n (service.Spawn path argv) a (reading_next wants read.StoringCount) (store s n (UTEMP + REQUEST_COUNT) (wanted wants))
    count_stored names a h =
        let v = spawn_there h n path argv (spawn.Reading wants read.StoringCount) stands in
        let at : TellsNumber seen (slot_at s n) v.b path argv wants = v.at in
        let it = own_word_stored h n path argv (spawn.Reading wants read.StoringCount) stands (page_number UTEMP) refl REQUEST_COUNT (wanted wants) (omega arith) in
        stored_bearing h n path argv (spawn.Reading wants read.StoringCount) (spawn.Reading wants read.StoringPlace) stands refl
        (reading_next wants read.StoringCount) (reading_bears wants read.StoringCount read.StoringPlace) it refl
        (λ order. let put = it.put order in
        record {
          so = record {
            asks = asks_moved (slot_at s n).status (spawn_words (spawn.Reading wants read.StoringPlace)) (asks_put put at.asks);
            number = subst (λ (w : ℕ). Tells (view_of it.spaces (slot_at s n).directory) REQUEST_FILE w) (sym (number_put put at.asks.of_file))
                (page_before put (omega arith) at.number);
          };
          count = subst (λ (w : ℕ). Tells (view_of it.spaces (slot_at s n).directory) REQUEST_COUNT w) (count_is at.asks.before) (page_put put);
        })

    pub storing_count_holds : ServiceHolds s n (imaging (stage.Reading wants read.StoringCount))
    storing_count_holds =
        own_store_holds s n (service.Spawn path argv) (step.Spawning (spawn.Reading wants read.StoringCount)) live refl stands
        (reading_next wants read.StoringCount) (reading_falls path argv wants read.StoringCount) (UTEMP + REQUEST_COUNT) (wanted wants) refl count_stored

  module _ (stands : place_of (slot_at s n) ≡ spawns_at path argv (spawn.Reading wants read.StoringPlace)) where
    place_stored : (names : Names) (a : AbstractState) → StandsFor names s a →
        IsStoredSo s n (service.Spawn path argv) a (reading_next wants read.StoringPlace) (store s n (UTEMP + REQUEST_PLACE) (first_of wants))
    place_stored names a h =
        let v = spawn_there h n path argv (spawn.Reading wants read.StoringPlace) stands in
        let at : TellsCount seen (slot_at s n) v.b path argv wants = v.at in
        let it = own_word_stored h n path argv (spawn.Reading wants read.StoringPlace) stands (page_number UTEMP) refl REQUEST_PLACE (first_of wants) (omega arith) in
        stored_bearing h n path argv (spawn.Reading wants read.StoringPlace) (spawn.Reading wants read.Identifying) stands refl
        (reading_next wants read.StoringPlace) (reading_bears wants read.StoringPlace read.Identifying) it refl
        (λ order. let put = it.put order in
        record {
          so = record {
            so = record {
              asks = asks_moved (slot_at s n).status (spawn_words (spawn.Reading wants read.Identifying)) (asks_put put at.so.asks);
              number = subst (λ (w : ℕ). Tells (view_of it.spaces (slot_at s n).directory) REQUEST_FILE w) (sym (number_put put at.so.asks.of_file))
                  (page_before put (omega arith) at.so.number);
            };
            count = page_before put (omega arith) at.count;
          };
          place = subst (λ (w : ℕ). Tells (view_of it.spaces (slot_at s n).directory) REQUEST_PLACE w) (place_is at.so.asks.before) (page_put put);
        })

    pub storing_place_holds : ServiceHolds s n (imaging (stage.Reading wants read.StoringPlace))
    storing_place_holds =
        own_store_holds s n (service.Spawn path argv) (step.Spawning (spawn.Reading wants read.StoringPlace)) live refl stands
        (reading_next wants read.StoringPlace) (reading_falls path argv wants read.StoringPlace) (UTEMP + REQUEST_PLACE) (first_of wants) refl place_stored

  -- ---- it asks

  pub read_identifying_holds : place_of (slot_at s n) ≡ spawns_at path argv (spawn.Reading wants read.Identifying) →
      ServiceHolds s n (imaging (stage.Reading wants read.Identifying))
  read_identifying_holds stands =
      spawn_identifying_holds s n path argv live (spawn.Reading wants read.Identifying) stands (λ own. spawn.Reading wants (read.Asking own)) refl
      (reading_falls path argv wants read.Identifying)
      (hides_bearing n path argv (spawn.Reading wants read.Identifying) (spawn.Reading wants (read.Asking (slot_at s n).id)) refl
      (reading_bears wants read.Identifying (read.Asking (slot_at s n).id)))
      (λ v k b h. (refl, tells_all_moved k.status (spawn_words (spawn.Reading wants (read.Asking k.id))) h))

  module _ (id : ℕ) (stands : place_of (slot_at s n) ≡ spawns_at path argv (spawn.Reading wants (read.Asking id))) where
    asking : (names : Names) (a : AbstractState) (h : StandsFor names s a) →
        SpawnAsking a n (view_of s.spaces (slot_at s n).directory) (slot_at s n) (spawn_there h n path argv (spawn.Reading wants (read.Asking id)) stands).b
        path argv (spawn.Reading wants (read.Asking id)) (spawn.Reading wants (read.Pausing id)) (spawn.Reading wants (read.Awaiting id))
    asking names a h =
        let v = spawn_there h n path argv (spawn.Reading wants (read.Asking id)) stands in
        let it : (id ≡ (slot_at s n).id) × TellsAll seen (slot_at s n) v.b path argv wants = v.at in
        let about = it.1.so.so.asks in
        let at = before_in about.before in
        record {
          stage = at.0;
          phase = at.1.phase;
          silent = at.1.silent;
          found = found_before about.before;
          does = part_asking h n v.b v.is path argv (read.Asking id) stands about;
          pauses = (it.0, tells_all_moved (slot_at s n).status (spawn_words (spawn.Reading wants (read.Pausing id))) it.1);
          has_asked = (
            it.0,
            record {
              count = about.count;
              so = for_before (spawn_found v.b path argv (found_before about.before) asked) about.before refl;
              is_in = asked_in at.0 (found_before about.before) (spawn_words (spawn.Reading wants (read.Awaiting id))) at.1;
            },
          );
          loads_on = before_loads (read.Asking id) about.before;
        }

    pub read_asking_holds : ServiceHolds s n (imaging (stage.Reading wants (read.Asking id)))
    read_asking_holds =
        spawn_asking_holds s n path argv live (spawn.Reading wants (read.Asking id)) stands (spawn.Reading wants (read.Pausing id))
        (spawn.Reading wants (read.Awaiting id)) (λ w. not_read wants w) FSREQ_READ_AT refl refl refl refl (reading_falls path argv wants (read.Asking id))
        (hides_bearing n path argv (spawn.Reading wants (read.Asking id)) (spawn.Reading wants (read.Pausing id)) refl
        (reading_bears wants (read.Asking id) (read.Pausing id)))
        (goes_bearing n path argv (spawn.Reading wants (read.Asking id)) (spawn.Reading wants (read.Awaiting id)) refl
        (reading_bears wants (read.Asking id) (read.Awaiting id))) asking

  pub read_pausing_holds : (id : ℕ) → place_of (slot_at s n) ≡ spawns_at path argv (spawn.Reading wants (read.Pausing id)) →
      ServiceHolds s n (imaging (stage.Reading wants (read.Pausing id)))
  read_pausing_holds id stands =
      spawn_pausing_holds s n path argv live (spawn.Reading wants (read.Pausing id)) stands (spawn.Reading wants (read.Asking id)) refl
      (reading_falls path argv wants (read.Pausing id) 0)
      (hides_bearing n path argv (spawn.Reading wants (read.Pausing id)) (spawn.Reading wants (read.Asking id)) refl
      (reading_bears wants (read.Pausing id) (read.Asking id)))
      (λ v k b h. ((before_in h.1.so.so.asks.before).1.awake, (h.0, tells_all_moved Runnable (spawn_words (spawn.Reading wants (read.Asking id))) h.1)))

  -- ---- it waits

  pub read_awaiting_holds : (id : ℕ) → place_of (slot_at s n) ≡ spawns_at path argv (spawn.Reading wants (read.Awaiting id)) →
      ServiceHolds s n (imaging (stage.Reading wants (read.Awaiting id)))
  read_awaiting_holds id stands =
      spawn_awaiting_holds s n path argv live (spawn.Reading wants (read.Awaiting id)) stands refl (λ v k b h. asks_part wants id h.0 h.1)
      (reading_bears wants (read.Awaiting id) (read.ReadingReply id)) refl UTOP refl

  -- ---- the reply has come

  module _ (id : ℕ) (awake : (is_runnable (slot_at s n).status || is_running (slot_at s n).status) ≡ true)
      (stands : place_of (slot_at s n) ≡ spawns_at path argv (spawn.Reading wants (read.ReadingReply id))) where
    abbrev value : ℕ
    value = (slot_at s n).rendezvous.value

    abbrev reply_next : Bool → Bool → Next
    reply_next counts whole =
        goes_on (if not counts then not_read wants value else if whole then once_read wants else not_read wants (negated E_NOT_EXEC))

    module _ {names : Names} {a : AbstractState} (h : StandsFor names s a) where
      abbrev reply_born : Born
      reply_born = (spawn_there h n path argv (spawn.Reading wants (read.ReadingReply id)) stands).b

      replied_at : (id ≡ (slot_at s n).id) × IsAwaitingPart seen (slot_at s n) reply_born path argv wants
      replied_at = (spawn_there h n path argv (spawn.Reading wants (read.ReadingReply id)) stands).at

      given : GivenHas seen []
      given =
          let it = spawns_own h n path argv (spawn.Reading wants (read.ReadingReply id)) stands (page_number SPAWN_GIVEN) refl in
          record { entry = it.page.entry; stands = it.page.stands; own_page = it.page.own_page; same = λ i lt. absurd (omega (arith, lt)) }

      goes_so : value < 2 ^ 32 → (to : SpawnStep) → reading_next wants (read.ReadingReply id) value ≡ goes_on to →
          ReadsOn seen (slot_at s n) reply_born path argv (spawn.Reading wants (read.ReadingReply id)) to →
          IsLoadedSo s n (service.Spawn path argv) a (reading_next wants (read.ReadingReply id)) (reply_place id) (load s n (reply_place id))
      goes_so small to next_is on =
          loaded_bearing h n path argv (spawn.Reading wants (read.ReadingReply id)) to stands on.held (reading_next wants (read.ReadingReply id)) on.bears value
          (reply_load s n id (h.tabled.ids n (born_live (spawn_there h n path argv (spawn.Reading wants (read.ReadingReply id)) stands).own)) replied_at.0 small)
          next_is on.so

      reply_gives : IsLoadedSo s n (service.Spawn path argv) a (reading_next wants (read.ReadingReply id)) (reply_place id) (load s n (reply_place id))
      reply_gives = by_reply replied_at.1.awaits
        where
          by_reply : AwaitsBytes seen (slot_at s n) reply_born path argv replied_at.1.count →
              IsLoadedSo s n (service.Spawn path argv) a (reading_next wants (read.ReadingReply id)) (reply_place id) (load s n (reply_place id))
          by_reply (awaits_bytes waits) =
              awake_runs (slot_at s n).status reply_born.blocked
              (spawn_there h n path argv (spawn.Reading wants (read.ReadingReply id)) stands).own.runs awake waits.blocked
          by_reply (has_bytes bytes is_in small many each kept) = by_word (is_count value) refl (is_whole (wanted wants) value) refl
            where
              so_many : wanted wants ≡ replied_at.1.count
              so_many = for_count seen (slot_at s n) reply_born path argv value id bytes is_in each kept given replied_at.1.so

              by_word : (c : Bool) → is_count value ≡ c → (d : Bool) → is_whole (wanted wants) value ≡ d →
                  IsLoadedSo s n (service.Spawn path argv) a (reading_next wants (read.ReadingReply id)) (reply_place id) (load s n (reply_place id))
              by_word false none d whole =
                  goes_so small (not_read wants value) (λ i. reply_next (none i) (is_whole (wanted wants) value))
                  (unread_goes seen (slot_at s n) reply_born path argv value id bytes is_in each kept given replied_at.1.so none)
              by_word true come true whole =
                  goes_so small (once_read wants) (λ i. reply_next (come i) (whole i))
                  (whole_goes seen (slot_at s n) reply_born path argv value id bytes is_in each kept given replied_at.1.so come
                  (whole_long value replied_at.1.count (length bytes) many (ap (λ (m : ℕ). is_whole m value) (sym so_many) ∙ whole)))
              by_word true come false short =
                  goes_so small (not_read wants (negated E_NOT_EXEC)) (λ i. reply_next (come i) (short i))
                  (short_goes seen (slot_at s n) reply_born path argv value id bytes is_in each kept given replied_at.1.so come
                  (short_long value replied_at.1.count (length bytes) many (ap (λ (m : ℕ). is_whole m value) (sym so_many) ∙ short)))

    pub reading_reply_holds : ServiceHolds s n (imaging (stage.Reading wants (read.ReadingReply id)))
    reading_reply_holds =
        own_load_holds s n (service.Spawn path argv) (step.Spawning (spawn.Reading wants (read.ReadingReply id))) live refl stands
        (reading_next wants (read.ReadingReply id)) (reading_falls path argv wants (read.ReadingReply id)) (reply_place id) (λ names a h. reply_gives h)

-- ---- each

module _ (s : KernelState) (n path argv : ℕ) (live : is_live (slot_at s n) ≡ true)
    (awake : (is_runnable (slot_at s n).status || is_running (slot_at s n).status) ≡ true) where
  pub reading_holds : (wants : FilePart) (at : ReadStep) → place_of (slot_at s n) ≡ spawns_at path argv (spawn.Reading wants at) →
      ServiceHolds s n (imaging (stage.Reading wants at))
  reading_holds wants read.LoadingNumber stands = loading_number_holds s n path argv live wants stands
  reading_holds wants (read.StoringNumber number) stands = storing_number_holds s n path argv live wants number stands
  reading_holds wants read.StoringCount stands = storing_count_holds s n path argv live wants stands
  reading_holds wants read.StoringPlace stands = storing_place_holds s n path argv live wants stands
  reading_holds wants read.Identifying stands = read_identifying_holds s n path argv live wants stands
  reading_holds wants (read.Asking id) stands = read_asking_holds s n path argv live wants id stands
  reading_holds wants (read.Pausing id) stands = read_pausing_holds s n path argv live wants id stands
  reading_holds wants (read.Awaiting id) stands = read_awaiting_holds s n path argv live wants id stands
  reading_holds wants (read.ReadingReply id) stands = reading_reply_holds s n path argv live wants id awake stands
