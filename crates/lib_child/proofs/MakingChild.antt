-- The law of spawn as it makes its child, which is a step of the abstract system.
use Rattle.std.proofs.Common.{◌≡◌, ◌≢◌, ◌∙◌, ◌<◌, ◌≤◌, ◌^◌, ◌%◌, ◌==◌, ◌*◌, ◌+◌, ℕ, Bool, true, false, List, [], ◌∷◌, length, None, Some, refl, sym, ap, subst}
use Rattle.std.proofs.Common.{arith, if◌then◌else◌}
use Rattle.std.specs.Prelude.{Option, map, slice_index}
use Rattle.std.proofs.lemmas.Bool.Decides.{nat_tests}
use Rattle.jos_base.specs.declared.called.Called.{Called}
use Rattle.jos_base.specs.declared.called.Called.TheVariants.{Answered}
use Rattle.jos_base.specs.declared.numbers.TheConstants.{NENV, SYS_EXOFORK, UTEMP}
use Rattle.jos_base.specs.Environments.{Slot, is_live}
use Rattle.jos_base.specs.KernelState.{KernelState, slot_at, with_extra, with_refusal}
use Rattle.jos_base.specs.TrapFrames.{bytes_of_words}
use Rattle.jos_base.specs.Words.{page_number}
use Rattle.jos_base.proofs.WordBytes.{bytes_of_words-nil}
use Rattle.jos_elf.specs.Headers.{entry_count_of}
use Rattle.jos_elf.specs.Tests.{first_failed, table_tests}
use Rattle.lib_os.specs.declared.numbers.TheConstants.{SERVICE_SPAWN}
use Rattle.lib_os.specs.declared.place.Step.TheVariants as step
use Rattle.lib_os.specs.declared.service.Service.TheVariants as service
use Rattle.lib_os.specs.declared.spawn_steps.BearingStep.{BearingStep}
use Rattle.lib_os.specs.declared.spawn_steps.BearingStep.TheVariants as bearing
use Rattle.lib_os.specs.declared.spawn_steps.SpawnStep.{SpawnStep}
use Rattle.lib_os.specs.declared.spawn_steps.SpawnStep.TheVariants as spawn
use Rattle.lib_os.specs.declared.spawn_steps.UndoingStep.TheVariants as undoing
use Rattle.lib_os.specs.AbstractRun.{abs_step}
use Rattle.lib_os.specs.AbstractSpawn.{child_begun, headers_in, spawn_step, table_size}
use Rattle.lib_os.specs.AbstractState.{AbstractState, Born, ImageRead, Phase, Spawning, file, in_service, loading, replied, tabling, taking}
use Rattle.lib_os.specs.Descriptors.{object_of}
use Rattle.lib_os.specs.InOrder.{IsInOrder}
use Rattle.lib_os.specs.LibraryCall.{library_step}
use Rattle.lib_os.specs.LibraryPages.{View}
use Rattle.lib_os.specs.LibrarySteps.{AbstractFollows, GoesOn as StepGoesOn, NothingRefused}
use Rattle.lib_os.specs.Places.{place_of}
use Rattle.lib_os.specs.Rows.{EntryRow, Names, rows_of}
use Rattle.lib_os.specs.StandsAtSpawn.{HasChild, IsImage, IsRecording, PageHas, register_words}
use Rattle.lib_os.specs.StandsAtSpawn.{register_word as word_of_record}
use Rattle.lib_os.specs.StandsFor.{AreSlots, StandsFor, view_of}
use Rattle.lib_os.specs.UserCalls.{CallStep, answer_of, giving, system}
use Rattle.lib_os.proofs.Calls.{refusal_is_seen}
use Rattle.lib_os.proofs.DeviceLooks.{NamesFile}
use Rattle.lib_os.proofs.Forked.{begun, child_id, exofork_is, exofork_lives, given, next_id_names, next_id_small, no_frame, no_slot, slot_was_free}
use Rattle.lib_os.proofs.Serving.{printed_nothing, service_step}
use Rattle.lib_os.proofs.SpawnBegun.{child_begun_is, child_begun_stands, maker_apart}
use Rattle.lib_os.proofs.SpawnDrops.{spawns_file, spawns_object}
use Rattle.lib_os.proofs.SpawnGathers.{spawn_found}
use Rattle.lib_os.proofs.SpawnOwnPages.{IsSpawnsOwn, spawn_there, spawn_words, spawns_at, spawns_own}
use Rattle.lib_os.proofs.SpawnRequests.{size_same}
use Rattle.lib_stage.specs.declared.ask.Ask.TheVariants as ask
use Rattle.lib_stage.specs.declared.ask.Next.{Next}
use Rattle.lib_stage.specs.declared.ask.Next.TheVariants as next
use Rattle.lib_stage.specs.Asks.{performed}
use Rattle.lib_stage.specs.Nexts.{seen_as, settled}
use Rattle.lib_stage.specs.ServiceSteps.{Plan, ServiceHolds}
use Rattle.lib_stage.proofs.Laws.{FollowsBy, GoesOn, KeepsBy, asked_never, giving_goes, law_of, plainly}
use Rattle.lib_fork.specs.ForkStages.{is_error}
use Rattle.lib_child.specs.BearingStages.{bears}
use Rattle.lib_child.proofs.BearingFalls.{making_falls}
use Rattle.lib_child.proofs.BearingOn.{none_mine}
use Rattle.lib_child.proofs.PiecesLeft.{rising_none}

-- ---- what is so where it stands

-- the image that was read
abbrev pub image_of : {v : View} {k : Slot} {b : Born} {path argv esp fd entry_point headers : ℕ} → IsImage v k b path argv esp fd entry_point headers →
    ImageRead
image_of h = record { words = h.so.words; header = h.so.header; table = h.so.table }

tabling_same : {fd fd_too : ℕ} {words words_too : List (List ℕ)} {header header_too : List ℕ} →
    ◌≡◌ {A = Option Spawning} (Some (tabling fd words header)) (Some (tabling fd_too words_too header_too)) → (words ≡ words_too) × (header ≡ header_too)
tabling_same same = (cc, cc)

replied_same : {path argv answer answer_too : ℕ} {table table_too : List ℕ} →
    ◌≡◌ {A = Phase} (in_service (service.Spawn path argv) (replied table answer)) (in_service (service.Spawn path argv) (replied table_too answer_too)) →
    table ≡ table_too
replied_same same = cc

-- what it has found out tells the image
images_same : (b : Born) {path argv fd fd_too answer answer_too : ℕ} {words words_too : List (List ℕ)} {header header_too table table_too : List ℕ} →
    b.phase ≡ in_service (service.Spawn path argv) (replied table answer) → b.phase ≡ in_service (service.Spawn path argv) (replied table_too answer_too) →
    b.spawning ≡ Some (tabling fd words header) → b.spawning ≡ Some (tabling fd_too words_too header_too) →
    ◌≡◌ {A = ImageRead} (record { words = words; header = header; table = table }) (record { words = words_too; header = header_too; table = table_too })
images_same b first second found found_too =
    let same_table = replied_same (sym first ∙ second) in
    let these = tabling_same (sym found ∙ found_too) in
    λ i. record { words = these.0 i; header = these.1 i; table = same_table i }

module _ {names : Names} {s : KernelState} {a : AbstractState} (h : StandsFor names s a) (n path argv esp fd entry_point headers : ℕ)
    (stands : place_of (slot_at s n) ≡ spawns_at path argv (spawn.Bearing (bearing.MakingChild esp fd entry_point headers))) where
  abbrev from : SpawnStep
  from = spawn.Bearing (bearing.MakingChild esp fd entry_point headers)

  abbrev b : Born
  b = (spawn_there h n path argv from stands).b

  abbrev it : IsImage (view_of s.spaces (slot_at s n).directory) (slot_at s n) b path argv esp fd entry_point headers
  it = (spawn_there h n path argv from stands).at

  abbrev its_file : NamesFile s a b fd it.so.of_file.of_file.file.entry
  its_file = spawns_file h n path argv from stands fd it.so.of_file.of_file

  object : object_of a b fd ≡ Some (file its_file.f)
  object = spawns_object h n path argv from stands fd it.so.of_file.of_file

  size_is : it.size ≡ its_file.f.size
  size_is = size_same it.so.of_file it.so.of_file.of_file ∙ its_file.told.size

  whole : (length it.so.table == table_size it.so.header) ≡ true
  whole = let all = it.so.whole in grind (arith, nat_tests, all)

  passed : first_failed (table_tests its_file.f.size (headers_in it.so.table) (entry_count_of (slice_index it.so.header))) ≡ None
  passed = (λ i. first_failed (table_tests (sym size_is i) (headers_in it.so.table) (sym it.so.many i))) ∙ it.passed

  -- the step of the abstract system
  pub making_steps : abs_step a n ≡ Some (child_begun a n b (service.Spawn path argv) fd (image_of it) a.free_slots)
  unfolding library_step spawn_step
  making_steps =
      service_step a n b it.so.found.is_in.regs (service.Spawn path argv) (replied it.so.table it.so.answer) (spawn_there h n path argv from stands).is
      it.so.found.is_in.program it.so.found.is_in.phase it.so.found.is_in.awake
      ∙ rw (it.so.found.is, it.so.come, object, whole, passed) refl

  -- ---- where it stands behind it

  -- a page of its own has nothing that is told
  abbrev working : IsSpawnsOwn s n (page_number UTEMP)
  working = spawns_own h n path argv from stands (page_number UTEMP) refl

  module _ (id m : ℕ) (names_it : id % NENV ≡ m) (w : View) (row : w.row ≡ rows_of s.spaces (slot_at s n).directory)
      (is : IsImage w (slot_at s n) b path argv esp fd entry_point headers) where
    abbrev to : SpawnStep
    to = spawn.Bearing (bearing.StoringRegister esp fd entry_point headers id 0)

    abbrev parent : Slot
    parent = record (slot_at s n) { extra = spawn_words to }

    abbrev bearer : Born
    bearer = spawn_found b path argv (loading fd (image_of it) m []) (taking [])

    same_image : image_of is ≡ image_of it
    same_image = images_same b (is.so.found.is_in.phase) (it.so.found.is_in.phase) (is.so.found.is) (it.so.found.is)

    has_child : HasChild w parent bearer path argv fd headers id (image_of is)
    has_child = record {
      found = record {
        is_in = record {
          regs = is.so.found.is_in.regs;
          program = is.so.found.is_in.program;
          eax = is.so.found.is_in.eax;
          registers = is.so.found.is_in.registers;
          phase = refl;
          silent = is.so.found.is_in.silent;
          awake = is.so.found.is_in.awake;
        };
        is = λ i. Some (loading fd (sym same_image i) (sym names_it i) []);
      };
      of_file = is.so.of_file.of_file;
      whole = record {
        table = is.kept;
        many = is.so.many;
        few = is.so.few;
        whole = is.so.whole;
        small = is.so.small;
        size = is.size;
        passed = is.passed;
        esp = esp;
        stack = is.so.stack;
      };
      sized = is.so.of_file;
    }

    pub recording : IsRecording w parent bearer path argv esp fd entry_point headers id 0
    recording = record {
      image = image_of is;
      has = has_child;
      esp_is = is.so.stack.esp_is;
      entry_point_is = is.so.entry_point_is;
      below = omega arith;
      kept = subst (λ (l : List ℕ). PageHas w (page_number UTEMP) 0 l) (sym none_told) (record {
        entry = working.page.entry;
        stands = ap (λ (r : EntryRow). r (page_number UTEMP)) row ∙ working.page.stands;
        own_page = working.page.own_page;
        same = λ i lt. absurd (omega (arith, lt));
      });
    }
      where
        none_told : bytes_of_words (register_words entry_point esp 0) ≡ []
        none_told = ap (λ (l : List ℕ). bytes_of_words (map (word_of_record entry_point esp) l)) (rising_none 0) ∙ bytes_of_words-nil

-- ---- the law

module _ (s : KernelState) (n path argv : ℕ) (live : is_live (slot_at s n) ≡ true) (esp fd entry_point headers : ℕ)
    (stands : place_of (slot_at s n) ≡ spawns_at path argv (spawn.Bearing (bearing.MakingChild esp fd entry_point headers))) where
  abbrev at : BearingStep
  at = bearing.MakingChild esp fd entry_point headers

  abbrev plan : Plan
  plan = bears (record { at = at })

  abbrev asked : CallStep Called
  asked = system s n SYS_EXOFORK (given (slot_at s n).registers)

  asked_is : performed s n ask.Exofork ≡ asked
  unfolding performed
  asked_is = refl

  -- what follows a word
  abbrev by_error : ℕ → Bool → Next
  by_error word error =
      if error then next.Show (step.Spawning (spawn.Undoing (undoing.ClosingFile fd word)))
      else next.Show (step.Spawning (spawn.Bearing (bearing.StoringRegister esp fd entry_point headers word 0)))

  -- where something was refused, there is nothing to show
  refused_keeps : (answer : ℕ) → asked ≡ giving (with_refusal s) (Answered answer) → KeepsBy s n plan asked
  refused_keeps answer is =
      subst (λ (z : CallStep Called). KeepsBy s n plan z) (sym is) (λ a h turn quiet. absurd (never (is_error answer) quiet))
    where
      never : (error : Bool) → NothingRefused s (settled SERVICE_SPAWN (by_error answer error) (with_refusal s) n) → ⊥
      never true quiet = refusal_is_seen s (record { stays = quiet.stays; could = quiet.could })
      never false quiet = refusal_is_seen s (record { stays = quiet.stays; could = quiet.could })

  -- where the child is made
  made_keeps : (m : ℕ) (slots : List ℕ) → s.environments.free_slots ≡ m ∷ slots → (f : ℕ) (frames : List ℕ) → s.spaces.free ≡ f ∷ frames →
      IsInOrder asked.state → KeepsBy s n plan asked
  made_keeps m slots slots_are f frames frames_are order a h turn quiet =
      let nobody = slot_was_free s n live m slots slots_are f frames frames_are h.1.in_order order in
      let from : SpawnStep = spawn.Bearing at in
      let id : ℕ = child_id s n live m slots slots_are f frames frames_are in
      let to : SpawnStep = spawn.Bearing (bearing.StoringRegister esp fd entry_point headers id 0) in
      let v = spawn_there h.1 n path argv from stands in
      let listed : AreSlots (m ∷ slots) = subst (λ (l : List ℕ). AreSlots l) slots_are h.1.free_slots.within in
      let small = next_id_small (slot_at s m).id m listed.0 in
      let named : id % NENV ≡ m = next_id_names (slot_at s m).id m listed.0 in
      let image : ImageRead = image_of (it h.1 n path argv esp fd entry_point headers stands) in
      let other : m ≢ n = maker_apart h.1 n path argv from stands refl m slots slots_are f frames frames_are nobody to refl refl
      (none_mine to refl refl) fd image in
      let is = exofork_is s n live m slots slots_are f frames frames_are other in
      let after : KernelState = begun s n live m slots slots_are f frames frames_are in
      let goes_is = child_begun_is h.1 n path argv from stands refl m slots slots_are f frames frames_are nobody to refl refl
      (none_mine to refl refl) fd image in
      let shown : StepGoesOn n (with_extra after n (spawn_words to)) a [] = (
        child_begun a n v.b (service.Spawn path argv) fd image a.free_slots,
        making_steps h.1 n path argv esp fd entry_point headers stands,
        ap (λ (z : AbstractState). z.console) goes_is ∙ printed_nothing a,
        (
          h.0,
          child_begun_stands h.1 n path argv from stands refl m slots slots_are f frames frames_are nobody to refl refl (none_mine to refl refl) fd image refl
              (λ w row standing. recording h.1 n path argv esp fd entry_point headers stands id m named w row standing)
              (subst (λ (t : KernelState). IsInOrder t) (ap (λ (z : CallStep Called). z.state) is) order),
        ),
      ) in
      subst (λ (z : CallStep Called). FollowsBy s n plan a z) (sym is)
      (subst (λ (error : Bool). let x = by_error id error in AbstractFollows (seen_as x) n (settled SERVICE_SPAWN x after n) a [])
      (sym (no_error id small)) shown)
    where
      no_error : (id : ℕ) → id < 2 ^ 31 → is_error id ≡ false
      no_error id below = grind (arith, nat_tests, below)

  asked_keeps : IsInOrder asked.state → KeepsBy s n plan asked
  asked_keeps order = by_lists s.environments.free_slots refl s.spaces.free refl
    where
      by_lists : (l : List ℕ) → s.environments.free_slots ≡ l → (free_frames : List ℕ) → s.spaces.free ≡ free_frames → KeepsBy s n plan asked
      by_lists [] slots_are free_frames frames_are = let none = no_slot s n live slots_are in refused_keeps none.0 none.1
      by_lists (m ∷ slots) slots_are [] frames_are = let none = no_frame s n live m slots slots_are frames_are in refused_keeps none.0 none.1
      by_lists (m ∷ slots) slots_are (f ∷ frames) frames_are = made_keeps m slots slots_are f frames frames_are order

  pub making_child_holds : ServiceHolds s n (bears (record { at = bearing.MakingChild esp fd entry_point headers }))
  making_child_holds =
      law_of s n plan (service.Spawn path argv) (step.Spawning (spawn.Bearing at))
      (record {
        stands = stands;
        live = live;
        numbered = refl;
        plain = plainly refl;
        goes_on = refl;
        falls = λ called. making_falls path argv esp fd entry_point headers (answer_of called);
        few = omega arith;
      })
      (subst (λ (z : CallStep Called). GoesOn s n plan z) (sym asked_is) (giving_goes s n plan asked (exofork_lives s n live)))
      (asked_never s n ask.Exofork refl) (subst (λ (z : CallStep Called). IsInOrder z.state → KeepsBy s n plan z) (sym asked_is) asked_keeps)
      (λ may a h turn. absurd may)
