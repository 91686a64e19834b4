-- Spawn loads the next bytes of what the program gives, a word or a byte: they are those that its step in the abstract system takes.
use Rattle.std.proofs.Common.{◌≡◌, ◌≢◌, ◌∙◌, ◌+◌, ◌-◌, ◌%◌, ◌^◌, ◌++◌, ◌==◌, ◌<◌, ◌≤◌, ℕ, zero, suc, Bool, true, false, List, [], ◌∷◌, length, None, Some}
use Rattle.std.proofs.Common.{refl, sym, ap, subst, arith}
use Rattle.std.specs.Int.{w32, from_le_bytes}
use Rattle.std.specs.Prelude.{All, nat_le, nat_lt, slice_index, Option, Ok}
use Rattle.std.proofs.lemmas.Bool.Decides.{nat_tests}
use Rattle.std.proofs.lemmas.List.{get_or_at, length-append}
use Rattle.jos_base.specs.declared.memory.Access.TheVariants.{Read}
use Rattle.jos_base.specs.declared.registers.Regs.{Regs}
use Rattle.jos_base.specs.Environments.{Slot, records_of}
use Rattle.jos_base.specs.KernelState.{KernelState, slot_at, with_extra}
use Rattle.jos_base.specs.Reach.{Entry, allows, reach_entry}
use Rattle.jos_base.specs.UserMemory.{reach_in}
use Rattle.jos_base.specs.Words.{page_number, page_offset, word_at}
use Rattle.jos_base.proofs.Walks.{walked_below}
use Rattle.jos_elf.specs.declared.numbers.TheConstants.{ARGS_MAX}
use Rattle.lib_os.specs.declared.numbers.TheConstants.{SERVICE_SPAWN}
use Rattle.lib_os.specs.declared.place.Place.{Place}
use Rattle.lib_os.specs.declared.place.Place.TheVariants as place
use Rattle.lib_os.specs.declared.place.Step.TheVariants as step
use Rattle.lib_os.specs.declared.service.Service.{Service}
use Rattle.lib_os.specs.declared.service.Service.TheVariants as service
use Rattle.lib_os.specs.declared.spawn_steps.SpawnStep.{SpawnStep}
use Rattle.lib_os.specs.AbstractMemory.{byte_at, page_allows, page_at}
use Rattle.lib_os.specs.AbstractSpawn.{address_gathered, more_gathered, spawn_step, string_gathered, with_spawning}
use Rattle.lib_os.specs.AbstractState.{AbstractState, Born, Stage, Spawning, born, in_service, quoting, taking, with_born}
use Rattle.lib_os.specs.Answers.{at_stage, bytes_from, moved_at_once}
use Rattle.lib_os.specs.Fence.{is_inside}
use Rattle.lib_os.specs.LibraryCall.{library_step}
use Rattle.lib_os.specs.Places.{place_of}
use Rattle.lib_os.specs.Rows.{AreBytes, Names, rows_of}
use Rattle.lib_os.specs.SpawnedChild.{spawning_child}
use Rattle.lib_os.specs.SpawnGiven.{Lists, Quotes, amid, amid_word, behind, behind_addresses, behind_path, behind_word}
use Rattle.lib_os.specs.StandsAtSpawn.{MayLoad, StandsAtSpawn}
use Rattle.lib_os.specs.StandsFor.{StandsForBorn, StandsAt, StandsFor, borne_in, view_of}
use Rattle.lib_os.specs.StandsInHandler.{is_refused_by}
use Rattle.lib_os.specs.UserCalls.{accessing, giving, load, load_byte, user_byte, user_word}
use Rattle.lib_os.proofs.BufferAccesses.{IsMoved, byte_small, entry_lets, moved_is, reached_order}
use Rattle.lib_os.proofs.BytesGathered.{four_from, from_length, from_small}
use Rattle.lib_os.proofs.BytesRead.{user_byte_is, user_entry_read}
use Rattle.lib_os.proofs.Fences.{inside_below, inside_number}
use Rattle.lib_os.proofs.Loading.{loaded}
use Rattle.lib_os.proofs.Logical.{is_making_pipe, unborne_plain}
use Rattle.lib_os.proofs.Numbered.{named_at}
use Rattle.lib_os.proofs.PathGathered.{word_inside}
use Rattle.lib_os.proofs.PipesStand.{calm_places, descriptors_turned, is_calm}
use Rattle.lib_os.proofs.Serving.{IsServed, holds_page, library_moved, plain_copy, plain_upcall, plain_working}
use Rattle.lib_os.proofs.SpawnOwnPages.{spawn_there, spawn_words, spawns_at}
use Rattle.lib_os.proofs.StatesStand.{quiet_stands, slot_changed}
use Rattle.lib_os.proofs.Touching.{touched_quiet}
use Rattle.lib_os.proofs.WindowWords.{read_at}
use Rattle.lib_os.proofs.WordsTell.{is_in_handler, place_at}

-- ---- the load

module _ {names : Names} {s : KernelState} {a : AbstractState} (h : StandsFor names s a) (n path argv : ℕ) (from : SpawnStep)
    (stands : place_of (slot_at s n) ≡ spawns_at path argv from) (va wanted : ℕ) (may : MayLoad (view_of s.spaces (slot_at s n).directory) va)
    (some : 0 < wanted) where
  abbrev d : ℕ
  d = (slot_at s n).directory

  abbrev pub it : IsServed names s a n (service.Spawn path argv) (step.Spawning from)
  it = spawn_there h n path argv from stands

  abbrev pub moved : ℕ
  moved = moved_at_once va wanted

  -- the bytes that are taken
  abbrev pub given_bytes : List ℕ
  given_bytes = bytes_from a it.b va moved

  pub lies : IsMoved va wanted moved
  lies = moved_is va wanted some

  each_inside : (i : ℕ) → i < moved → is_inside (va + i) ≡ true
  each_inside i = by_many (moved == 4) refl
    where
      by_many : (c : Bool) → (moved == 4) ≡ c → i < moved → is_inside (va + i) ≡ true
      by_many true test lt =
          let four = lies.word test in word_inside va i (lies.aligned test) (omega (arith, four, lt)) may.inside
      by_many false test lt =
          let one = lies.byte test in
          let first : va + i ≡ va = omega (arith, one, lt) in ap is_inside first ∙ may.inside

  below_limit : va + moved < 2 ^ 32
  below_limit =
      let more = lies.some in
      let last : va + (moved - 1) + 1 ≡ va + moved = omega (arith, more) in
      let below = inside_below (va + (moved - 1)) (each_inside (moved - 1) (omega (arith, more))) in omega (arith, below, last)

  -- the page may be read
  pub given_allowed : page_allows (page_at it.b va) Read ≡ true
  given_allowed = entry_lets h n it.b it.is va may.inside false may.allowed

  each_read : (i : ℕ) → i < moved → page_allows (page_at it.b (va + i)) Read ≡ true
  each_read i lt = ap (λ (p : ℕ). page_allows (it.b.memory p) Read) (lies.page i lt) ∙ given_allowed

  each_small : (i : ℕ) → i < moved → byte_at a it.b (va + i) < 256
  each_small i lt = byte_small h n it.b it.is (va + i) (each_inside i lt) (each_read i lt)

  found : (e : Entry) × (s.spaces.entries d (page_number va) ≡ Some e) × (allows e.perm Read ≡ true)
  found = user_entry_read names s a n it.b h it.is va may.inside given_allowed

  reached : reach_in s.spaces d va Read ≡ Ok (record { frame = found.0.frame; offset = page_offset va })
  reached =
      ap (λ (o : Option Entry). reach_entry o va Read) (walked_below s.spaces d (page_number va) (inside_number va may.inside) ∙ found.1)
      ∙ rw found.2 refl

  -- behind it nothing that is seen is another
  pub given_loaded : StandsFor names (loaded s n va) a
  given_loaded = quiet_stands h (touched_quiet s.spaces d va Read) (reached_order s n va Read h.in_order)

  each_byte : (i : ℕ) → i < moved → user_byte (loaded s n va) n (va + i) ≡ byte_at a it.b (va + i)
  each_byte i lt =
      user_byte_is names (loaded s n va) a n it.b given_loaded it.is (va + i) (each_inside i lt) (records_of s.environments) (each_read i lt)

  -- a word, where four bytes are taken
  pub given_word : (moved == 4) ≡ true → load s n va ≡ read_at s n va (from_le_bytes w32 given_bytes)
  unfolding load
  given_word test =
      let four = lies.word test in
      let end = below_limit in
      let first : va + 0 ≡ va = omega arith in
      let zeroth : user_byte (loaded s n va) n va ≡ byte_at a it.b va =
      subst (λ (q : ℕ). user_byte (loaded s n va) n q ≡ byte_at a it.b q) first (each_byte 0 (omega (arith, four))) in
      let one = each_byte 1 (omega (arith, four)) in
      let two = each_byte 2 (omega (arith, four)) in
      let three = each_byte 3 (omega (arith, four)) in
      let those : given_bytes ≡ byte_at a it.b va ∷ byte_at a it.b (va + 1) ∷ byte_at a it.b (va + 2) ∷ byte_at a it.b (va + 3) ∷ [] =
      ap (bytes_from a it.b va) four ∙ four_from a it.b va (omega (arith, four, end)) in
      let whole : user_word (loaded s n va) n va ≡ from_le_bytes w32 given_bytes =
      (λ i. from_le_bytes w32 (zeroth i ∷ one i ∷ two i ∷ three i ∷ [])) ∙ ap (from_le_bytes w32) (sym those) in
      ap (accessing s n va Read (λ t. giving t (user_word t n va))) reached ∙ ap (λ (w : ℕ). giving (loaded s n va) w) whole

  -- and else a byte
  pub given_byte : (moved == 4) ≡ false → load_byte s n va ≡ read_at s n va (byte_at a it.b va)
  unfolding load_byte
  given_byte test =
      let first : va + 0 ≡ va = omega arith in
      let here : user_byte (loaded s n va) n va ≡ byte_at a it.b va =
      subst (λ (q : ℕ). user_byte (loaded s n va) n q ≡ byte_at a it.b q) first (each_byte 0 lies.some) in
      ap (accessing s n va Read (λ t. giving t (user_byte t n va))) reached ∙ ap (λ (w : ℕ). giving (loaded s n va) w) here

  pub given_small : AreBytes given_bytes
  given_small = from_small a it.b va moved below_limit each_small

  pub given_long : length given_bytes ≡ moved
  given_long = from_length a it.b va moved

  pub given_byte_small : byte_at a it.b va < 256
  given_byte_small =
      let first : va + 0 ≡ va = omega arith in subst (λ (q : ℕ). byte_at a it.b q < 256) first (each_small 0 lies.some)

  -- they lie in one page
  pub given_last : MayLoad (view_of s.spaces d) (va + (moved - 1))
  given_last =
      let more = lies.some in
      record {
        inside = each_inside (moved - 1) (omega (arith, more));
        allowed = ap (λ (p : ℕ). is_refused_by false (rows_of s.spaces d p)) (lies.page (moved - 1) (omega (arith, more))) ∙ may.allowed;
      }

-- ---- the step of the abstract system

-- of those in a list the last
last_all : (P : ℕ → Type 0) (before : List ℕ) (x : ℕ) → All P (before ++ x ∷ []) → P x
last_all P before x each =
    let many = length-append before (x ∷ []) in
    subst P (get_or_at before x [] 0 (length before) refl) (each (length before) 0 (omega (arith, many)))

module _ (a : AbstractState) (n : ℕ) (b : Born) (regs : Regs) (path argv : ℕ) where
  -- the next bytes of an address are taken
  pub list_steps : {name addresses taken : List ℕ} {stage : Stage} → Lists b name addresses taken stage →
      All (λ address. (address ≢ 0) × (address < 2 ^ 32)) addresses → length addresses ≤ ARGS_MAX →
      library_step a n b regs (service.Spawn path argv) stage ≡ address_gathered a n b regs (service.Spawn path argv) argv name addresses taken
  unfolding library_step spawn_step
  list_steps (behind_path bytes whole) are few = rw whole refl
  list_steps (amid name addresses taken found some fewer) are few =
      let less : nat_lt (length taken) 4 ≡ true = grind (arith, nat_tests, fewer) in rw (found, less) refl
  list_steps (behind name addresses taken found whole) are few =
      let word : ℕ = word_at (slice_index taken) 0 in
      let all : nat_lt (length taken) 4 ≡ false = grind (arith, nat_tests, whole) in
      let more : word ≢ 0 = (last_all (λ address. (address ≢ 0) × (address < 2 ^ 32)) addresses word are).0 in
      let some : (word == 0) ≡ false = grind (arith, nat_tests, more) in
      let many = length-append addresses (word ∷ []) in
      let room : nat_le ARGS_MAX (length addresses) ≡ false = grind (arith, nat_tests, many, few) in
      rw (found, all, some, room) refl

  -- or those of a string
  pub quote_steps : {name left taken : List ℕ} {words : List (List ℕ)} {stage : Stage} {address : ℕ} → Quotes b name (address ∷ left) words taken stage →
      library_step a n b regs (service.Spawn path argv) stage
      ≡ string_gathered a n b regs (service.Spawn path argv) (quoting name (address ∷ left) words) address taken
  unfolding library_step spawn_step
  quote_steps {name = name} {left = left} {address = address} h = by_case (address ∷ left) refl h
    where
      by_case : {name taken : List ℕ} {words : List (List ℕ)} {stage : Stage} (all : List ℕ) → all ≡ address ∷ left → Quotes b name all words taken stage →
          library_step a n b regs (service.Spawn path argv) stage
          ≡ string_gathered a n b regs (service.Spawn path argv) (quoting name (address ∷ left) words) address taken
      by_case _ same (behind_addresses name addresses taken found whole last) =
          let all : nat_lt (length taken) 4 ≡ false = grind (arith, nat_tests, whole) in rw (found, all, last, same) refl
      by_case _ same (amid_word name first rest words taken found no_end) =
          let known : b.spawning ≡ Some (quoting name (address ∷ left) words) = found ∙ ap (λ (l : List ℕ). Some (quoting name l words)) same in
          rw (known, no_end) refl
      by_case _ same (behind_word name first all words taken found ended) = rw (found, ended, same) refl

  -- what it has found out says nothing of its memory
  pub bytes_spawning : (found : Spawning) (va count : ℕ) → bytes_from a (with_spawning b found) va count ≡ bytes_from a b va count
  unfolding bytes_from
  bytes_spawning so_far va zero = refl
  bytes_spawning so_far va (suc count) = ap (λ (l : List ℕ). byte_at a b va ∷ l) (bytes_spawning so_far ((va + 1) % 2 ^ 32) count)

-- ---- the state behind it

-- spawn as it has found out more, and is at another stage
abbrev pub spawn_found : Born → ℕ → ℕ → Spawning → Stage → Born
spawn_found b path argv found stage = record b { phase = in_service (service.Spawn path argv) stage; spawning = Some found }

module _ {names : Names} {t : KernelState} {a : AbstractState} (h : StandsFor names t a) (n path argv : ℕ) (from to : SpawnStep)
    (stands : place_of (slot_at t n) ≡ spawns_at path argv from) (held : holds_page (spawns_at path argv from) ≡ holds_page (spawns_at path argv to))
    (found : Spawning) (stage : Stage) where
  abbrev own_there : IsServed names t a n (service.Spawn path argv) (step.Spawning from)
  own_there = spawn_there h n path argv from stands

  abbrev went : Slot
  went = record (slot_at t n) { extra = spawn_words to }

  went_to : place_of went ≡ spawns_at path argv to
  went_to =
      place_at (slot_at t n).registers SERVICE_SPAWN (step.Spawning to) own_there.outside
      ∙ ap (λ (x : Service). place.InService x (step.Spawning to)) (named_at (slot_at t n) (service.Spawn path argv) (step.Spawning from) stands)

  -- its own part, where it goes on to a step with the same pages
  pub shown_own : StandsAtSpawn (view_of t.spaces (slot_at t n).directory) (record (slot_at t n) { extra = spawn_words to })
      (spawn_found (spawn_there h n path argv from stands).b path argv found stage) path argv to →
      StandsForBorn names t.spaces (record (slot_at t n) { extra = spawn_words to }) (spawn_found (spawn_there h n path argv from stands).b path argv found stage)
  shown_own so =
      let own = own_there.own in
      let plain : is_in_handler (place_of (slot_at t n)) ≡ false = ap is_in_handler stands in
      let plain_after : is_in_handler (place_of went) ≡ false = ap is_in_handler went_to in
      record {
        id = own.id;
        id_small = own.id_small;
        parent = own.parent;
        env_type = own.env_type;
        runs = own.runs;
        upcall = own.upcall ∙ plain_upcall (place_of (slot_at t n)) plain ∙ sym (plain_upcall (place_of went) plain_after);
        descriptors = descriptors_turned names t.spaces (slot_at t n).directory (place_of (slot_at t n)) (place_of went) own_there.b.descriptors (ap is_calm stands)
            (ap is_calm went_to) own.descriptors;
        memory = own.memory;
        library = library_moved (place_of (slot_at t n)) (place_of went) (slot_at t n).extra (spawn_words to) (rows_of t.spaces (slot_at t n).directory)
            (plain_copy (place_of (slot_at t n)) plain ∙ sym (plain_copy (place_of went) plain_after))
            (plain_working (place_of (slot_at t n)) (slot_at t n).extra plain ∙ ap holds_page stands ∙ held ∙ sym (ap holds_page went_to)
            ∙ sym (plain_working (place_of went) (spawn_words to) plain_after)) own.library;
        regions_have = own.regions_have;
        regions_only = own.regions_only;
        stack = own.stack;
        flags = own.flags;
        at = subst (λ (p : Place). StandsAt p (view_of t.spaces (slot_at t n).directory) went (spawn_found own_there.b path argv found stage)) (sym went_to) so;
      }

module _ {names : Names} {t : KernelState} {a : AbstractState} (h : StandsFor names t a) (n path argv : ℕ) (from to : SpawnStep)
    (stands : place_of (slot_at t n) ≡ spawns_at path argv from) (unborne : spawning_child from ≡ None) (unborne_after : spawning_child to ≡ None)
    (held : holds_page (spawns_at path argv from) ≡ holds_page (spawns_at path argv to)) (found : Spawning) (stage : Stage) where
  abbrev v : IsServed names t a n (service.Spawn path argv) (step.Spawning from)
  v = spawn_there h n path argv from stands

  abbrev gone : Slot
  gone = record (slot_at t n) { extra = spawn_words to }

  abbrev was_at : Place
  was_at = place_of (slot_at t n)

  -- it goes on to a step with the same pages, where it stands so
  pub shown_stands : StandsAtSpawn (view_of t.spaces (slot_at t n).directory) gone (spawn_found v.b path argv found stage) path argv to →
      StandsFor names (with_extra t n (spawn_words to)) (with_born a n (spawn_found v.b path argv found stage))
  shown_stands so =
      let there : place_of gone ≡ spawns_at path argv to = went_to h n path argv from to stands held found stage in
      slot_changed h n v.b v.is gone (spawn_found v.b path argv found stage) refl
      (record { id = refl; env_type = refl; turns = refl; calm = λ runs. runs })
      (unborne_plain was_at (ap is_in_handler stands) (ap borne_in stands ∙ unborne) (ap is_making_pipe stands))
      (unborne_plain (place_of gone) (ap is_in_handler there) (ap borne_in there ∙ unborne_after) (ap is_making_pipe there))
      (shown_own h n path argv from to stands held found stage so) (calm_places (ap is_calm stands) (ap is_calm there)) (λ fd. refl)

  same_born : (d e : Born) → born d ≡ born e → d ≡ e
  same_born d e same = cc

  -- the same of what is known to stand in the slot
  pub shown_from : (b : Born) → a.slots n ≡ born b →
      StandsAtSpawn (view_of t.spaces (slot_at t n).directory) gone (spawn_found b path argv found stage) path argv to →
      StandsFor names (with_extra t n (spawn_words to)) (with_born a n (spawn_found b path argv found stage))
  shown_from b is so =
      let same : v.b ≡ b = same_born v.b b (sym v.is ∙ is) in
      subst (λ (x : Born). StandsFor names (with_extra t n (spawn_words to)) (with_born a n (spawn_found x path argv found stage))) same
      (shown_stands (subst (λ (x : Born). StandsAtSpawn (view_of t.spaces (slot_at t n).directory) gone (spawn_found x path argv found stage) path argv to)
      (sym same) so))

-- ---- they are taken

module _ (a : AbstractState) (n : ℕ) (b : Born) (regs : Regs) (path argv : ℕ) (found : Spawning) (va wanted : ℕ) (taken_before : List ℕ)
    (inside : is_inside va ≡ true) (allowed : page_allows (page_at b va) Read ≡ true) where
  abbrev pub more_taken : List ℕ
  more_taken = taken_before ++ bytes_from a b va (moved_at_once va wanted)

  pub more_steps : more_gathered a n b regs (service.Spawn path argv) found va wanted taken_before
      ≡ Some (with_born a n (spawn_found b path argv found (taking more_taken)))
  more_steps =
      rw (inside, allowed)
      (ap (λ (more : List ℕ). Some (at_stage a n (with_spawning b found) (service.Spawn path argv) (taking (taken_before ++ more))))
      (bytes_spawning a n b regs path argv found va (moved_at_once va wanted)))
