-- The law of spawn where it has its file opened: it finds the lowest descriptor that is free, puts the mode into its page, asks the file server to open the file, waits for
-- the reply, and loads the size of the file that is open.
use Rattle.std.proofs.Common.{◌≡◌, ◌≢◌, ◌∙◌, ◌+◌, ◌*◌, ◌<◌, ◌≤◌, ◌==◌, ◌||◌, ℕ, Bool, true, false, not, List, [], ◌∷◌, refl, sym, ap, subst}
use Rattle.std.proofs.Common.{arith, if◌then◌else◌}
use Rattle.std.specs.Prelude.{nat_lt}
use Rattle.std.proofs.lemmas.Bool.Decides.{nat_tests}
use Rattle.std.proofs.lemmas.List.{length-append}
use Rattle.std.proofs.lemmas.Option.{none-some}
use Rattle.jos_base.specs.declared.environment.Status.{Status}
use Rattle.jos_base.specs.declared.environment.Status.TheVariants.{NotRunnable, Runnable, Running}
use Rattle.jos_base.specs.declared.numbers.TheConstants.{E_MAX_OPEN, FDTABLE, PGSIZE, UTEMP, UTOP}
use Rattle.jos_base.specs.Environments.{Slot, is_live, is_runnable, is_running}
use Rattle.jos_base.specs.KernelState.{KernelState, slot_at}
use Rattle.jos_base.specs.Words.{negated, page_number}
use Rattle.jos_elf.specs.declared.numbers.TheConstants.{EHDR_LEN}
use Rattle.lib_os.specs.declared.numbers.TheConstants.{DESCRIPTORS, FD_SIZE, FSREQ_OPEN, REQUEST_MODE, SPAWN_STACK}
use Rattle.lib_os.specs.declared.place.Step.TheVariants as step
use Rattle.lib_os.specs.declared.service.Service.TheVariants as service
use Rattle.lib_os.specs.declared.spawn_steps.FilePart.TheVariants as part
use Rattle.lib_os.specs.declared.spawn_steps.OpeningStep.{OpeningStep}
use Rattle.lib_os.specs.declared.spawn_steps.OpeningStep.TheVariants as opening
use Rattle.lib_os.specs.declared.spawn_steps.ReadStep.TheVariants as read
use Rattle.lib_os.specs.declared.spawn_steps.SpawnStep.{SpawnStep}
use Rattle.lib_os.specs.declared.spawn_steps.SpawnStep.TheVariants as spawn
use Rattle.lib_os.specs.declared.spawn_steps.UndoingStep.TheVariants as undoing
use Rattle.lib_os.specs.AbstractState.{AbstractState, Born, opening as opens, replied}
use Rattle.lib_os.specs.DescriptorPages.{size_of}
use Rattle.lib_os.specs.InService.{EachIsOpenBelow, HasTable, IsLowestFree}
use Rattle.lib_os.specs.LibraryPages.{View}
use Rattle.lib_os.specs.Places.{place_of}
use Rattle.lib_os.specs.Rows.{EntryRow, Names, descriptor_page, rows_of}
use Rattle.lib_os.specs.StandsAtSpawn.{AwaitsFile, Found, HasFile, HasPath, HasStack, IsFreeOrNone, IsOpeningFile, IsReady, TellsFile}
use Rattle.lib_os.specs.StandsAtSpawn.{awaits_file, before_header, by_file, has_file, is_free, none_is, opened_word, too_short}
use Rattle.lib_os.specs.StandsFor.{IsStatusFor, StandsFor, borne_in, view_of}
use Rattle.lib_os.specs.UserCalls.{load, store}
use Rattle.lib_os.proofs.DescriptorLooks.{descriptor_va, entry_va, no_table_row, none_there, page_gives, page_told, page_word, seen_calm, table_gives, table_told}
use Rattle.lib_os.proofs.DescriptorLooks.{table_va, table_word}
use Rattle.lib_os.proofs.DeviceLooks.{word_there}
use Rattle.lib_os.proofs.Logical.{is_making_pipe}
use Rattle.lib_os.proofs.OpenLooks.{each_up_to}
use Rattle.lib_os.proofs.PagesPut.{IsPutIn, page_before, page_beside, page_put}
use Rattle.lib_os.proofs.PipesStand.{is_calm}
use Rattle.lib_os.proofs.ReplyRead.{reply_load}
use Rattle.lib_os.proofs.SlotsStand.{born_live}
use Rattle.lib_os.proofs.SpawnAsks.{SpawnAsking, goes_unborne, hides_unborne}
use Rattle.lib_os.proofs.SpawnOwnPages.{own_word_stored, spawn_there, spawn_words, spawns_at}
use Rattle.lib_os.proofs.SpawnedTurns.{bears_none}
use Rattle.lib_os.proofs.SpawnRequests.{file_asking}
use Rattle.lib_os.proofs.SpawnWaits.{asks_file}
use Rattle.lib_os.proofs.WindowWords.{read_at}
use Rattle.lib_stage.specs.declared.ask.Next.{Next}
use Rattle.lib_stage.specs.ServiceSteps.{ServiceHolds}
use Rattle.lib_fd.specs.DescriptorStages.{is_there}
use Rattle.lib_request.specs.Replies.{reply_place}
use Rattle.lib_request.proofs.OwnPageLaws.{IsLoadedSo, IsStoredSo, own_load_holds, own_store_holds}
use Rattle.lib_request.proofs.SpawnGoes.{loaded_so, stored_so}
use Rattle.lib_image.specs.declared.stage.ImageStage.TheVariants as stage
use Rattle.lib_image.specs.ImageStages.{imaging}
use Rattle.lib_image.specs.OpeningStages.{not_opened, opened_va, opening_next}
use Rattle.lib_image.specs.SpawnNexts.{goes_on, no_image}
use Rattle.lib_image.proofs.ImageFalls.{opening_falls}
use Rattle.lib_image.proofs.OpeningAsks.{spawn_asking_holds, spawn_awaiting_holds, spawn_identifying_holds, spawn_pausing_holds}
use Rattle.lib_image.proofs.OpeningStays.{found_moved, has_file_moved, ready_moved, tells_file_moved}

-- One that may run does not wait.
pub awake_runs : {X : Type 0} (status : Status) (blocked : Bool) → IsStatusFor status blocked → (is_runnable status || is_running status) ≡ true →
    blocked ≡ true → X
awake_runs Runnable false r w e = absurd (let contradiction : false ≡ true = e in cc)
awake_runs Running false r w e = absurd (let contradiction : false ≡ true = e in cc)
awake_runs NotRunnable true r w e = absurd (let contradiction : false ≡ true = w in cc)
awake_runs _ _ r w e = absurd r

-- ---- what is so once its page tells the mode

module _ {v w : View} {bytes : List ℕ} (put : IsPutIn v w (page_number UTEMP) REQUEST_MODE bytes) where
  path_still : {name : List ℕ} → HasPath v name → HasPath w name
  path_still {name = name} h =
      let few = h.few in
      let long = length-append name (0 ∷ []) in
      record { small = h.small; no_end = h.no_end; few = h.few; kept = page_before put (omega (arith, few, long)) h.kept }

  stack_still : {words : List (List ℕ)} {esp : ℕ} → HasStack v words esp → HasStack w words esp
  stack_still h = record {
    fits = h.fits;
    esp_is = h.esp_is;
    kept = page_beside put (λ same. absurd (let contradiction : ◌≡◌ {A = ℕ} (page_number SPAWN_STACK) (page_number UTEMP) = same in omega (arith, contradiction))) h.kept;
  }

  ready_still : {k : Slot} {b : Born} {path argv esp : ℕ} → IsReady v k b path argv esp → IsReady w k b path argv esp
  ready_still h = record {
    words = h.words;
    has = record {
      name = h.has.name;
      stage = h.has.stage;
      quotes = h.has.quotes;
      is_in = h.has.is_in;
      path_kept = path_still h.has.path_kept;
      fits = h.has.fits;
      small_words = h.has.small_words;
      no_ends = h.has.no_ends;
    };
    stack = stack_still h.stack;
  }

  free_still : {fd : ℕ} → IsFreeOrNone v fd → IsFreeOrNone w fd
  free_still {fd = fd} (is_free lowest) = is_free (subst (λ (r : EntryRow). IsLowestFree r fd) (sym put.row) lowest)
  free_still (none_is all each) = none_is all (subst (λ (r : EntryRow). EachIsOpenBelow r DESCRIPTORS) (sym put.row) each)

module _ (s : KernelState) (n path argv : ℕ) (live : is_live (slot_at s n) ≡ true) where
  abbrev home : ℕ
  home = (slot_at s n).directory

  abbrev seen : View
  seen = view_of s.spaces home

  -- ---- a free descriptor

  module _ (esp : ℕ) (stands : place_of (slot_at s n) ≡ spawns_at path argv (spawn.Opening (opening.FreeRegion esp))) where
    region_gives : (names : Names) (a : AbstractState) → StandsFor names s a →
        IsLoadedSo s n (service.Spawn path argv) a (opening_next (opening.FreeRegion esp)) table_va (load s n table_va)
    region_gives names a h = by_test (is_there (table_word s n)) refl
      where
        at : IsReady seen (slot_at s n) (spawn_there h n path argv (spawn.Opening (opening.FreeRegion esp)) stands).b path argv esp
        at = (spawn_there h n path argv (spawn.Opening (opening.FreeRegion esp)) stands).at

        by_test : (t : Bool) → is_there (table_word s n) ≡ t →
            IsLoadedSo s n (service.Spawn path argv) a (opening_next (opening.FreeRegion esp)) table_va (load s n table_va)
        by_test true told =
            loaded_so h n path argv (spawn.Opening (opening.FreeRegion esp)) stands refl (opening_next (opening.FreeRegion esp)) (table_word s n)
            (table_gives h n) (step.Spawning (spawn.Opening (opening.FreeEntry esp 0)))
            (ap (λ (c : Bool). goes_on (spawn.Opening (if c then opening.FreeEntry esp 0 else opening.StoringMode esp 0))) told) (record {
              at = spawn.Opening (opening.FreeEntry esp 0);
              is = refl;
              held = refl;
              unborne = refl;
              stands = (
                ready_moved (slot_at s n).status (spawn_words (spawn.Opening (opening.FreeEntry esp 0))) at,
                omega arith,
                λ fd lt. absurd (omega (arith, lt)),
                sym (table_told s n) ∙ told,
              );
            })
        by_test false told =
            let v = spawn_there h n path argv (spawn.Opening (opening.FreeRegion esp)) stands in
            loaded_so h n path argv (spawn.Opening (opening.FreeRegion esp)) stands refl (opening_next (opening.FreeRegion esp)) (table_word s n)
            (table_gives h n) (step.Spawning (spawn.Opening (opening.StoringMode esp 0)))
            (ap (λ (c : Bool). goes_on (spawn.Opening (if c then opening.FreeEntry esp 0 else opening.StoringMode esp 0))) told) (record {
              at = spawn.Opening (opening.StoringMode esp 0);
              is = refl;
              held = refl;
              unborne = refl;
              stands = (
                ready_moved (slot_at s n).status (spawn_words (spawn.Opening (opening.StoringMode esp 0))) at,
                is_free (record {
                  below = omega arith;
                  vacant = no_table_row h n v.b v.is (sym (table_told s n) ∙ told) 0 (omega arith);
                  lower = λ fd lt. absurd (omega (arith, lt));
                }),
              );
            })

    pub free_region_holds : ServiceHolds s n (imaging (stage.Opening (opening.FreeRegion esp)))
    free_region_holds =
        own_load_holds s n (service.Spawn path argv) (step.Spawning (spawn.Opening (opening.FreeRegion esp))) live refl stands
        (opening_next (opening.FreeRegion esp)) (opening_falls path argv (opening.FreeRegion esp)) table_va region_gives

  module _ (esp fd : ℕ) (stands : place_of (slot_at s n) ≡ spawns_at path argv (spawn.Opening (opening.FreeEntry esp fd))) where
    module _ {names : Names} {a : AbstractState} (h : StandsFor names s a) where
      abbrev looking_born : Born
      looking_born = (spawn_there h n path argv (spawn.Opening (opening.FreeEntry esp fd)) stands).b

      looking : IsReady seen (slot_at s n) looking_born path argv esp × (fd < DESCRIPTORS) × EachIsOpenBelow seen.row fd × HasTable seen
      looking = (spawn_there h n path argv (spawn.Opening (opening.FreeEntry esp fd)) stands).at

      abbrev entry_next : Bool → Bool → Next
      entry_next there more =
          goes_on (spawn.Opening (if there then (if more then opening.FreeEntry esp (fd + 1) else opening.StoringMode esp DESCRIPTORS) else opening.StoringMode esp fd))

      entry_gives : IsLoadedSo s n (service.Spawn path argv) a (opening_next (opening.FreeEntry esp fd)) (entry_va fd) (load s n (entry_va fd))
      entry_gives = by_test (is_there (page_word s n fd)) refl (nat_lt (fd + 1) DESCRIPTORS) refl
        where
          open_here : is_there (page_word s n fd) ≡ true → EachIsOpenBelow seen.row (fd + 1)
          open_here told =
              each_up_to seen.row fd looking.2
              (sym (page_told h n looking_born (spawn_there h n path argv (spawn.Opening (opening.FreeEntry esp fd)) stands).is fd looking.1) ∙ told)

          by_test : (t : Bool) → is_there (page_word s n fd) ≡ t → (u : Bool) → nat_lt (fd + 1) DESCRIPTORS ≡ u →
              IsLoadedSo s n (service.Spawn path argv) a (opening_next (opening.FreeEntry esp fd)) (entry_va fd) (load s n (entry_va fd))
          by_test true told true more =
              loaded_so h n path argv (spawn.Opening (opening.FreeEntry esp fd)) stands refl (opening_next (opening.FreeEntry esp fd)) (page_word s n fd)
              (page_gives h n fd looking.1 looking.3) (step.Spawning (spawn.Opening (opening.FreeEntry esp (fd + 1)))) (λ i. entry_next (told i) (more i)) (record {
                at = spawn.Opening (opening.FreeEntry esp (fd + 1));
                is = refl;
                held = refl;
                unborne = refl;
                stands = (
                  ready_moved (slot_at s n).status (spawn_words (spawn.Opening (opening.FreeEntry esp (fd + 1)))) looking.0,
                  grind (arith, nat_tests, more),
                  open_here told,
                  looking.3,
                );
              })
          by_test true told false none =
              let low = looking.1 in
              let past : DESCRIPTORS ≤ fd + 1 = grind (arith, nat_tests, none) in
              let last : fd + 1 ≡ DESCRIPTORS = omega (arith, low, past) in
              loaded_so h n path argv (spawn.Opening (opening.FreeEntry esp fd)) stands refl (opening_next (opening.FreeEntry esp fd)) (page_word s n fd)
              (page_gives h n fd looking.1 looking.3) (step.Spawning (spawn.Opening (opening.StoringMode esp DESCRIPTORS))) (λ i. entry_next (told i) (none i)) (record {
                at = spawn.Opening (opening.StoringMode esp DESCRIPTORS);
                is = refl;
                held = refl;
                unborne = refl;
                stands = (
                  ready_moved (slot_at s n).status (spawn_words (spawn.Opening (opening.StoringMode esp DESCRIPTORS))) looking.0,
                  none_is refl (subst (λ (m : ℕ). EachIsOpenBelow seen.row m) last (open_here told)),
                );
              })
          by_test false told u more =
              loaded_so h n path argv (spawn.Opening (opening.FreeEntry esp fd)) stands refl (opening_next (opening.FreeEntry esp fd)) (page_word s n fd)
              (page_gives h n fd looking.1 looking.3) (step.Spawning (spawn.Opening (opening.StoringMode esp fd))) (λ i. entry_next (told i) (nat_lt (fd + 1) DESCRIPTORS))
              (record {
                at = spawn.Opening (opening.StoringMode esp fd);
                is = refl;
                held = refl;
                unborne = refl;
                stands = (
                  ready_moved (slot_at s n).status (spawn_words (spawn.Opening (opening.StoringMode esp fd))) looking.0,
                  is_free (record {
                    below = looking.1;
                    vacant = none_there (rows_of s.spaces home (descriptor_page fd))
                        (sym (page_told h n looking_born (spawn_there h n path argv (spawn.Opening (opening.FreeEntry esp fd)) stands).is fd looking.1) ∙ told);
                    lower = looking.2;
                  }),
                );
              })

    pub free_entry_holds : ServiceHolds s n (imaging (stage.Opening (opening.FreeEntry esp fd)))
    free_entry_holds =
        own_load_holds s n (service.Spawn path argv) (step.Spawning (spawn.Opening (opening.FreeEntry esp fd))) live refl stands
        (opening_next (opening.FreeEntry esp fd)) (opening_falls path argv (opening.FreeEntry esp fd)) (entry_va fd) (λ names a h. entry_gives h)

  -- ---- the mode is put into its page

  module _ (esp fd : ℕ) (stands : place_of (slot_at s n) ≡ spawns_at path argv (spawn.Opening (opening.StoringMode esp fd))) where
    mode_stored : (names : Names) (a : AbstractState) → StandsFor names s a →
        IsStoredSo s n (service.Spawn path argv) a (opening_next (opening.StoringMode esp fd)) (store s n (UTEMP + REQUEST_MODE) 0)
    mode_stored names a h =
        let v = spawn_there h n path argv (spawn.Opening (opening.StoringMode esp fd)) stands in
        let at : IsReady seen (slot_at s n) v.b path argv esp × IsFreeOrNone seen fd = v.at in
        let it = own_word_stored h n path argv (spawn.Opening (opening.StoringMode esp fd)) stands (page_number UTEMP) refl REQUEST_MODE 0 (omega arith) in
        let to : SpawnStep = spawn.Opening (opening.OpenIdentifying esp fd) in
        stored_so h n path argv (spawn.Opening (opening.StoringMode esp fd)) stands refl (opening_next (opening.StoringMode esp fd)) it
        (step.Spawning (spawn.Opening (opening.OpenIdentifying esp fd))) refl
        (λ order. let put = it.put order in
        record {
          at = spawn.Opening (opening.OpenIdentifying esp fd);
          is = refl;
          held = refl;
          unborne = refl;
          stands = record {
            ready = ready_moved (slot_at s n).status (spawn_words to) (ready_still put at.0);
            free = free_still put at.1;
            mode = page_put put;
          };
        })

    pub storing_mode_holds : ServiceHolds s n (imaging (stage.Opening (opening.StoringMode esp fd)))
    storing_mode_holds =
        own_store_holds s n (service.Spawn path argv) (step.Spawning (spawn.Opening (opening.StoringMode esp fd))) live refl stands
        (opening_next (opening.StoringMode esp fd)) (opening_falls path argv (opening.StoringMode esp fd)) (UTEMP + REQUEST_MODE) 0 refl mode_stored

  -- ---- it asks

  pub open_identifying_holds : (esp fd : ℕ) → place_of (slot_at s n) ≡ spawns_at path argv (spawn.Opening (opening.OpenIdentifying esp fd)) →
      ServiceHolds s n (imaging (stage.Opening (opening.OpenIdentifying esp fd)))
  open_identifying_holds esp fd stands =
      spawn_identifying_holds s n path argv live (spawn.Opening (opening.OpenIdentifying esp fd)) stands (λ own. spawn.Opening (opening.OpenAsking esp fd own)) refl
      (opening_falls path argv (opening.OpenIdentifying esp fd))
      (hides_unborne n path argv (spawn.Opening (opening.OpenIdentifying esp fd)) (spawn.Opening (opening.OpenAsking esp fd (slot_at s n).id)) refl refl refl)
      (λ v k b h. (refl, tells_file_moved k.status (spawn_words (spawn.Opening (opening.OpenAsking esp fd k.id))) h))

  module _ (esp fd id : ℕ) (stands : place_of (slot_at s n) ≡ spawns_at path argv (spawn.Opening (opening.OpenAsking esp fd id))) where
    asking : (names : Names) (a : AbstractState) (h : StandsFor names s a) →
        SpawnAsking a n (view_of s.spaces (slot_at s n).directory) (slot_at s n)
        (spawn_there h n path argv (spawn.Opening (opening.OpenAsking esp fd id)) stands).b path argv (spawn.Opening (opening.OpenAsking esp fd id))
        (spawn.Opening (opening.OpenPausing esp fd id))
        (spawn.Opening (opening.OpenAwaiting esp fd id))
    asking names a h =
        let v = spawn_there h n path argv (spawn.Opening (opening.OpenAsking esp fd id)) stands in
        let it : (id ≡ (slot_at s n).id) × TellsFile seen (slot_at s n) v.b path argv esp fd = v.at in
        let is_in = it.1.ready.has.is_in in
        record {
          stage = it.1.ready.has.stage;
          phase = is_in.phase;
          silent = is_in.silent;
          found = opens it.1.ready.words;
          does = file_asking h n v.b v.is path argv it.1;
          pauses = (it.0, tells_file_moved (slot_at s n).status (spawn_words (spawn.Opening (opening.OpenPausing esp fd id))) it.1);
          has_asked = (
            it.0,
            record {
              words = it.1.ready.words;
              found = record {
                is_in = record {
                  regs = is_in.regs;
                  program = is_in.program;
                  eax = is_in.eax;
                  registers = is_in.registers;
                  phase = refl;
                  silent = is_in.silent;
                  awake = is_in.awake;
                };
                is = refl;
              };
              stack = it.1.ready.stack;
              free = it.1.free;
            },
          );
          loads_on = λ child is. absurd (none-some child is);
        }

    pub open_asking_holds : ServiceHolds s n (imaging (stage.Opening (opening.OpenAsking esp fd id)))
    open_asking_holds =
        spawn_asking_holds s n path argv live (spawn.Opening (opening.OpenAsking esp fd id)) stands (spawn.Opening (opening.OpenPausing esp fd id))
        (spawn.Opening (opening.OpenAwaiting esp fd id)) (λ w. not_opened w) FSREQ_OPEN refl refl refl refl (opening_falls path argv (opening.OpenAsking esp fd id))
        (hides_unborne n path argv (spawn.Opening (opening.OpenAsking esp fd id)) (spawn.Opening (opening.OpenPausing esp fd id)) refl refl refl)
        (goes_unborne n path argv (spawn.Opening (opening.OpenAsking esp fd id)) (spawn.Opening (opening.OpenAwaiting esp fd id)) refl refl refl) asking

  pub open_pausing_holds : (esp fd id : ℕ) → place_of (slot_at s n) ≡ spawns_at path argv (spawn.Opening (opening.OpenPausing esp fd id)) →
      ServiceHolds s n (imaging (stage.Opening (opening.OpenPausing esp fd id)))
  open_pausing_holds esp fd id stands =
      spawn_pausing_holds s n path argv live (spawn.Opening (opening.OpenPausing esp fd id)) stands (spawn.Opening (opening.OpenAsking esp fd id)) refl
      (opening_falls path argv (opening.OpenPausing esp fd id) 0)
      (hides_unborne n path argv (spawn.Opening (opening.OpenPausing esp fd id)) (spawn.Opening (opening.OpenAsking esp fd id)) refl refl refl)
      (λ v k b h. (h.1.ready.has.is_in.awake, (h.0, tells_file_moved Runnable (spawn_words (spawn.Opening (opening.OpenAsking esp fd id))) h.1)))

  -- ---- it waits

  opened_place : (fd : ℕ) → opened_va fd ≡ (if nat_lt fd DESCRIPTORS then FDTABLE + PGSIZE * fd else UTOP)
  opened_place fd = by_free (nat_lt fd DESCRIPTORS) refl
    where
      by_free : (c : Bool) → nat_lt fd DESCRIPTORS ≡ c → (if c then descriptor_va fd else UTOP) ≡ (if c then FDTABLE + PGSIZE * fd else UTOP)
      by_free true test = let below : fd < DESCRIPTORS = grind (arith, nat_tests, test) in omega (arith, below)
      by_free false test = refl

  pub open_awaiting_holds : (esp fd id : ℕ) → place_of (slot_at s n) ≡ spawns_at path argv (spawn.Opening (opening.OpenAwaiting esp fd id)) →
      ServiceHolds s n (imaging (stage.Opening (opening.OpenAwaiting esp fd id)))
  open_awaiting_holds esp fd id stands =
      spawn_awaiting_holds s n path argv live (spawn.Opening (opening.OpenAwaiting esp fd id)) stands refl (λ v k b h. asks_file esp fd id h.0 h.1) (bears_none refl refl) refl
      (opened_va fd) (opened_place fd)

  -- ---- the reply has come

  module _ (esp fd id : ℕ) (awake : (is_runnable (slot_at s n).status || is_running (slot_at s n).status) ≡ true)
      (stands : place_of (slot_at s n) ≡ spawns_at path argv (spawn.Opening (opening.ReadingOpened esp fd id))) where
    abbrev value : ℕ
    value = (slot_at s n).rendezvous.value

    module _ {names : Names} {a : AbstractState} (h : StandsFor names s a) where
      abbrev opened_born : Born
      opened_born = (spawn_there h n path argv (spawn.Opening (opening.ReadingOpened esp fd id)) stands).b

      opened_at : (id ≡ (slot_at s n).id) × IsOpeningFile seen (slot_at s n) opened_born path argv esp fd
      opened_at = (spawn_there h n path argv (spawn.Opening (opening.ReadingOpened esp fd id)) stands).at

      abbrev opened_next : Bool → Bool → Next
      opened_next fine below =
          goes_on (if not fine then not_opened value else if not below then not_opened (negated E_MAX_OPEN) else spawn.Opening (opening.LoadingSize esp fd))

      opened_gives : IsLoadedSo s n (service.Spawn path argv) a (opening_next (opening.ReadingOpened esp fd id)) (reply_place id) (load s n (reply_place id))
      opened_gives = by_reply opened_at.1.so
        where
          by_reply : AwaitsFile seen (slot_at s n) opened_born path argv fd opened_at.1.words →
              IsLoadedSo s n (service.Spawn path argv) a (opening_next (opening.ReadingOpened esp fd id)) (reply_place id) (load s n (reply_place id))
          by_reply (awaits_file waits found free) =
              let own = (spawn_there h n path argv (spawn.Opening (opening.ReadingOpened esp fd id)) stands).own in
              awake_runs (slot_at s n).status opened_born.blocked own.runs awake waits.blocked
          by_reply (has_file found small most error page) = by_word (value == 0) refl (nat_lt fd DESCRIPTORS) refl
            where
              there : load s n (reply_place id) ≡ read_at s n (reply_place id) value
              there =
                  reply_load s n id (h.tabled.ids n (born_live (spawn_there h n path argv (spawn.Opening (opening.ReadingOpened esp fd id)) stands).own)) opened_at.0
                  small

              by_word : (c : Bool) → (value == 0) ≡ c → (d : Bool) → nat_lt fd DESCRIPTORS ≡ d →
                  IsLoadedSo s n (service.Spawn path argv) a (opening_next (opening.ReadingOpened esp fd id)) (reply_place id) (load s n (reply_place id))
              by_word false off d below =
                  let some : value ≢ 0 = λ is. absurd (grind (arith, nat_tests, is, off)) in
                  let answer : opened_word value fd ≡ value = rw off refl in
                  loaded_so h n path argv (spawn.Opening (opening.ReadingOpened esp fd id)) stands refl (opening_next (opening.ReadingOpened esp fd id)) value there
                  (step.Spawning (not_opened value)) (λ i. opened_next (off i) (nat_lt fd DESCRIPTORS)) (record {
                    at = not_opened value;
                    is = refl;
                    held = refl;
                    unborne = refl;
                    stands = by_file opened_at.1.words
                        (found_moved (slot_at s n).status (spawn_words (not_opened value))
                        (subst (λ (w : ℕ). Found (slot_at s n) opened_born path argv (replied [] w) (opens opened_at.1.words)) answer found)) (error some);
                  })
              by_word true zero false none =
                  let answer : opened_word value fd ≡ negated E_MAX_OPEN = rw (zero, none) refl in
                  loaded_so h n path argv (spawn.Opening (opening.ReadingOpened esp fd id)) stands refl (opening_next (opening.ReadingOpened esp fd id)) value there
                  (step.Spawning (not_opened (negated E_MAX_OPEN))) (λ i. opened_next (zero i) (none i)) (record {
                    at = not_opened (negated E_MAX_OPEN);
                    is = refl;
                    held = refl;
                    unborne = refl;
                    stands = by_file opened_at.1.words
                        (found_moved (slot_at s n).status (spawn_words (not_opened (negated E_MAX_OPEN)))
                        (subst (λ (w : ℕ). Found (slot_at s n) opened_born path argv (replied [] w) (opens opened_at.1.words)) answer found)) refl;
                  })
              by_word true zero true below =
                  let answer : opened_word value fd ≡ fd = rw (zero, below) refl in
                  let low : fd < DESCRIPTORS = grind (arith, nat_tests, below) in
                  let none : value ≡ 0 = grind (arith, nat_tests, zero) in
                  loaded_so h n path argv (spawn.Opening (opening.ReadingOpened esp fd id)) stands refl (opening_next (opening.ReadingOpened esp fd id)) value there
                  (step.Spawning (spawn.Opening (opening.LoadingSize esp fd))) (λ i. opened_next (zero i) (below i)) (record {
                    at = spawn.Opening (opening.LoadingSize esp fd);
                    is = refl;
                    held = refl;
                    unborne = refl;
                    stands = record {
                      words = opened_at.1.words;
                      found = found_moved (slot_at s n).status (spawn_words (spawn.Opening (opening.LoadingSize esp fd)))
                          (subst (λ (w : ℕ). Found (slot_at s n) opened_born path argv (replied [] w) (opens opened_at.1.words)) answer found);
                      stack = opened_at.1.stack;
                      of_file = record { below = low; file = page none low };
                    };
                  })

    pub reading_opened_holds : ServiceHolds s n (imaging (stage.Opening (opening.ReadingOpened esp fd id)))
    reading_opened_holds =
        own_load_holds s n (service.Spawn path argv) (step.Spawning (spawn.Opening (opening.ReadingOpened esp fd id))) live refl stands
        (opening_next (opening.ReadingOpened esp fd id)) (opening_falls path argv (opening.ReadingOpened esp fd id)) (reply_place id) (λ names a h. opened_gives h)

  -- ---- the size of the file

  module _ (esp fd : ℕ) (stands : place_of (slot_at s n) ≡ spawns_at path argv (spawn.Opening (opening.LoadingSize esp fd))) where
    module _ {names : Names} {a : AbstractState} (h : StandsFor names s a) where
      abbrev sized_born : Born
      sized_born = (spawn_there h n path argv (spawn.Opening (opening.LoadingSize esp fd)) stands).b

      has : HasFile seen (slot_at s n) sized_born path argv esp fd
      has = (spawn_there h n path argv (spawn.Opening (opening.LoadingSize esp fd)) stands).at

      abbrev size : ℕ
      size = size_of (s.spaces.pages has.of_file.file.entry.frame)

      abbrev sized_next : Bool → Next
      sized_next short = goes_on (if short then no_image fd else spawn.Reading (part.Header esp fd size) read.LoadingNumber)

      size_there : load s n (descriptor_va fd + FD_SIZE) ≡ read_at s n (descriptor_va fd + FD_SIZE) size
      size_there =
          word_there h n sized_born (spawn_there h n path argv (spawn.Opening (opening.LoadingSize esp fd)) stands).is (ap borne_in stands)
          (ap is_making_pipe stands)
          (seen_calm h n sized_born (spawn_there h n path argv (spawn.Opening (opening.LoadingSize esp fd)) stands).is (ap is_calm stands)) fd has.of_file.below
          has.of_file.file.entry has.of_file.file.stands FD_SIZE refl (omega arith)

      size_gives : IsLoadedSo s n (service.Spawn path argv) a (opening_next (opening.LoadingSize esp fd)) (descriptor_va fd + FD_SIZE)
          (load s n (descriptor_va fd + FD_SIZE))
      size_gives = by_size (nat_lt size EHDR_LEN) refl
        where
          by_size : (c : Bool) → nat_lt size EHDR_LEN ≡ c →
              IsLoadedSo s n (service.Spawn path argv) a (opening_next (opening.LoadingSize esp fd)) (descriptor_va fd + FD_SIZE)
              (load s n (descriptor_va fd + FD_SIZE))
          by_size true short =
              loaded_so h n path argv (spawn.Opening (opening.LoadingSize esp fd)) stands refl (opening_next (opening.LoadingSize esp fd)) size size_there
              (step.Spawning (no_image fd)) (λ i. sized_next (short i)) (record {
                at = no_image fd;
                is = refl;
                held = refl;
                unborne = refl;
                stands = too_short size has.words (found_moved (slot_at s n).status (spawn_words (no_image fd)) has.found)
                    (record { of_file = has.of_file; size_is = refl }) (grind (arith, nat_tests, short)) refl;
              })
          by_size false long =
              let to : SpawnStep = spawn.Reading (part.Header esp fd size) read.LoadingNumber in
              loaded_so h n path argv (spawn.Opening (opening.LoadingSize esp fd)) stands refl (opening_next (opening.LoadingSize esp fd)) size size_there
              (step.Spawning (spawn.Reading (part.Header esp fd size) read.LoadingNumber)) (λ i. sized_next (long i)) (record {
                at = spawn.Reading (part.Header esp fd size) read.LoadingNumber;
                is = refl;
                held = refl;
                unborne = refl;
                stands = record {
                  fd = fd;
                  count = EHDR_LEN;
                  place = 0;
                  before = before_header esp fd size (has_file_moved (slot_at s n).status (spawn_words to) has) (record { of_file = has.of_file; size_is = refl })
                      (grind (arith, nat_tests, long));
                  of_file = has.of_file;
                };
              })

    pub loading_size_holds : ServiceHolds s n (imaging (stage.Opening (opening.LoadingSize esp fd)))
    loading_size_holds =
        own_load_holds s n (service.Spawn path argv) (step.Spawning (spawn.Opening (opening.LoadingSize esp fd))) live refl stands
        (opening_next (opening.LoadingSize esp fd)) (opening_falls path argv (opening.LoadingSize esp fd)) (descriptor_va fd + FD_SIZE) (λ names a h. size_gives h)

  -- ---- each

  pub opening_holds : (at : OpeningStep) → (is_runnable (slot_at s n).status || is_running (slot_at s n).status) ≡ true →
      place_of (slot_at s n) ≡ spawns_at path argv (spawn.Opening at) → ServiceHolds s n (imaging (stage.Opening at))
  opening_holds (opening.FreeRegion esp) awake stands = free_region_holds esp stands
  opening_holds (opening.FreeEntry esp fd) awake stands = free_entry_holds esp fd stands
  opening_holds (opening.StoringMode esp fd) awake stands = storing_mode_holds esp fd stands
  opening_holds (opening.OpenIdentifying esp fd) awake stands = open_identifying_holds esp fd stands
  opening_holds (opening.OpenAsking esp fd id) awake stands = open_asking_holds esp fd id stands
  opening_holds (opening.OpenPausing esp fd id) awake stands = open_pausing_holds esp fd id stands
  opening_holds (opening.OpenAwaiting esp fd id) awake stands = open_awaiting_holds esp fd id stands
  opening_holds (opening.ReadingOpened esp fd id) awake stands = reading_opened_holds esp fd id awake stands
  opening_holds (opening.LoadingSize esp fd) awake stands = loading_size_holds esp fd stands
