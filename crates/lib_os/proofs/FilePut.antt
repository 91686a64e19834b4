-- The bytes of a file that read and stat put into their buffer, a word or a byte at once, where the kernel lets them: the state stands for that of
-- the abstract system in which they are stored, and the service for its next step; behind the last of them the abstract system has answered.
use Rattle.std.proofs.Common.{◌≡◌, ◌∙◌, ◌+◌, ◌-◌, ◌%◌, ◌^◌, ◌<◌, ◌≤◌, ℕ, suc, Bool, true, false, List, [], ◌∷◌, length}
use Rattle.std.proofs.Common.{refl, sym, ap, subst, arith}
use Rattle.std.proofs.lemmas.Bool.{false≢true}
use Rattle.std.proofs.lemmas.List.{drop-drop, length-drop, length-take-le}
use Rattle.std.specs.Int.{w32, to_le_bytes}
use Rattle.std.specs.Option.{option_map}
use Rattle.std.specs.Prelude.{drop, take, Option, Some, None, Ok}
use Rattle.jos_base.specs.declared.memory.Access.TheVariants.{Write}
use Rattle.jos_base.specs.declared.registers.Regs.{Regs}
use Rattle.jos_base.specs.Environments.{Slot}
use Rattle.jos_base.specs.KernelState.{KernelState, slot_at, with_extra, with_spaces}
use Rattle.jos_base.specs.Reach.{Entry, allows}
use Rattle.jos_base.specs.SpacesState.{SpacesState}
use Rattle.jos_base.specs.SystemCalls.{has_write, is_page_perm}
use Rattle.jos_base.specs.UserMemory.{is_allowed, reach_in, touched}
use Rattle.jos_base.specs.Words.{page_number, page_offset}
use Rattle.lib_os.specs.declared.place.Place.{Place}
use Rattle.lib_os.specs.declared.place.Place.TheVariants as place
use Rattle.lib_os.specs.declared.place.Step.{Step}
use Rattle.lib_os.specs.declared.place.Step.TheVariants as step
use Rattle.lib_os.specs.declared.service.Service.{Service}
use Rattle.lib_os.specs.declared.service.Service.TheVariants as service
use Rattle.lib_os.specs.AbstractRun.{abs_step}
use Rattle.lib_os.specs.AbstractMemory.{page_allows, page_at}
use Rattle.lib_os.specs.AbstractState.{AbstractSlot, AbstractState, Born, Phase, Stage, at_guest, born, delivering, guest, in_service, replied}
use Rattle.lib_os.specs.Answers.{all_stored, answered, at_stage, bytes_delivered, bytes_stored, delivered_so_far, moved_at_once}
use Rattle.lib_os.specs.Fence.{is_buffer, is_inside}
use Rattle.lib_os.specs.GuestStep.{born_in}
use Rattle.lib_os.specs.LibraryCall.{library_step}
use Rattle.lib_os.specs.LibraryPages.{View, has_copy, keeps_request}
use Rattle.lib_os.specs.Places.{place_of, words_at}
use Rattle.lib_os.specs.Rows.{AreBytes, Names, Rows, lasting, rows_of}
use Rattle.lib_os.specs.StandsFor.{IsStatusFor, StandsAt, StandsAtStep, StandsFor, StandsForBorn, borne_in, goes_back, upcall_at, view_of}
use Rattle.lib_os.specs.StandsInHandler.{HandsAt, HasBytes, IsPuttingBytes, answer_behind, behind, buffer_of, by_reply, hands_back, put_at_once}
use Rattle.lib_os.specs.UserCalls.{accessing, giving, store, store_byte, with_bytes_put, with_user_byte, with_user_word}
use Rattle.lib_os.proofs.Beneath.{bytes_inside, handing_plain, handing_unborne}
use Rattle.lib_os.proofs.BufferAccesses.{IsMoved, entry_lets, moved_is, reached_order, stage_stands}
use Rattle.lib_os.proofs.BytesDelivered.{IsPut, LetsWrite, buffer_behind, put_stands}
use Rattle.lib_os.proofs.BytesPut.{put_is, reached_to_write, spaces_put}
use Rattle.lib_os.proofs.BytesRead.{lasting_reads, lasting_writes, user_entry_write, users_inside}
use Rattle.lib_os.proofs.EntryWords.{row_entry}
use Rattle.lib_os.proofs.Fences.{buffer_below, buffer_each, inside_number}
use Rattle.lib_os.proofs.FileLooks.{handing_held}
use Rattle.lib_os.proofs.Logical.{inside_programs, is_making_pipe, is_plain}
use Rattle.lib_os.proofs.Numbered.{named_at, number_of}
use Rattle.lib_os.proofs.PageBytes.{bytes_drop, bytes_take}
use Rattle.lib_os.proofs.PipesStand.{calm_places, calm_unmade, descriptors_turned, is_calm, is_calm_step}
use Rattle.lib_os.proofs.Serving.{IsServed, holds_page, library_moved, plain_working, served, service_step, pages_kept}
use Rattle.lib_os.proofs.SlotsStand.{born_at, is_piped}
use Rattle.lib_os.proofs.StatesStand.{quiet_stands, slot_changed}
use Rattle.lib_os.proofs.Touching.{touched_quiet}
use Rattle.lib_os.proofs.WordsTell.{is_in_handler, outside_stack, place_at}

-- ---- bytes are put at an address, and the page there may be written

module _ {names : Names} {s : KernelState} {a : AbstractState} (h : StandsFor names s a) (n : ℕ) (b : Born) (is : a.slots n ≡ born b)
    (outside : is_in_handler (place_of (slot_at s n)) ≡ false) (unborne : borne_in (place_of (slot_at s n)) ≡ None)
    (unmade : is_making_pipe (place_of (slot_at s n)) ≡ false) (off : is_piped (place_of (slot_at s n)) ≡ false)
    (at : ℕ) (bytes : List ℕ)
    (some : 0 < length bytes) (inside : is_buffer at (length bytes) ≡ true) (small : AreBytes bytes)
    (on : is_allowed s.spaces (slot_at s n).directory at Write ≡ true) where
  abbrev home : ℕ
  home = (slot_at s n).directory

  -- how many are put at once, and which
  abbrev at_once : ℕ
  at_once = moved_at_once at (length bytes)

  abbrev first_bytes : List ℕ
  first_bytes = take at_once bytes

  lies : IsMoved at (length bytes) at_once
  lies = moved_is at (length bytes) some

  at_inside : is_inside at ≡ true
  at_inside = buffer_each at (length bytes) at inside (omega arith) (omega (arith, some))

  put_length : length first_bytes ≡ at_once
  put_length = length-take-le at_once bytes lies.within

  abbrev found : (e : Entry) × (s.spaces.entries home (page_number at) ≡ Some e) × (allows e.perm Write ≡ true) × (has_write (lasting e).perm ≡ true)
  found = user_entry_write names s a n b h is at at_inside on

  reached : reach_in s.spaces home at Write ≡ Ok (record { frame = found.0.frame; offset = page_offset at })
  reached = reached_to_write s.spaces home at found.0 (inside_number at at_inside) found.1 found.2

  -- the state in which the page is reached
  abbrev touched_state : KernelState
  touched_state = with_spaces s (touched s.spaces home at Write)

  touched_stands : StandsFor names touched_state a
  touched_stands = quiet_stands h (touched_quiet s.spaces home at Write) (reached_order s n at Write h.in_order)

  row_is : rows_of touched_state.spaces home (page_number at) ≡ Some (lasting found.0)
  unfolding rows_of
  row_is = ap (λ (rows : Rows). rows home (page_number at)) (touched_quiet s.spaces home at Write).rows ∙ ap (option_map lasting) found.1

  touched_lets : LetsWrite touched_state.spaces home (page_number at) at (length first_bytes)
  touched_lets =
      let there = row_entry touched_state.spaces home (page_number at) (lasting found.0) row_is in
      let user = users_inside names touched_state a n b touched_stands is (page_number at) (lasting found.0) (inside_programs at at_inside) row_is in
      let writes : has_write (lasting there.0).perm ≡ true = ap (λ (e : Entry). has_write e.perm) there.2 ∙ found.3 in
      let reads = lasting_reads there.0.perm (subst (λ (e : Entry). is_page_perm e.perm ≡ true) (sym there.2) user.page) in
      record {
        entry = there.0;
        stands = there.1;
        allowed = lasting_writes there.0.perm reads ∙ writes;
        writes = writes;
        inside = λ i lt.
            let long = put_length in
            let within = lies.within in
            buffer_each at (length bytes) (at + i) inside (omega arith) (omega (arith, long, within, lt));
        page = λ i lt. let long = put_length in lies.page i (omega (arith, long, lt));
      }

  abbrev pub file_put_spaces : SpacesState
  file_put_spaces = spaces_put touched_state.spaces home at first_bytes

  -- the state behind it
  abbrev pub file_putting : KernelState
  file_putting = with_spaces s file_put_spaces

  pub file_put : s.last ≡ Some n → IsPut names touched_state file_put_spaces a (all_stored a n at first_bytes) n b
  file_put last = put_stands first_bytes touched_state a touched_stands n b is outside unborne unmade off last (page_number at) at (bytes_take at_once
      bytes small) touched_lets

  pub file_put_row : s.last ≡ Some n → rows_of file_put_spaces home ≡ rows_of s.spaces home
  file_put_row last = ap (λ (rows : Rows). rows home) ((file_put last).rows ∙ (touched_quiet s.spaces home at Write).rows)

  -- a word, where four bytes are put
  pub file_word_put : (word : ℕ) → to_le_bytes w32 word ≡ take (moved_at_once at (length bytes)) bytes → store s n at word ≡ giving file_putting tt
  unfolding store
  file_word_put word same =
      ap (accessing s n at Write (λ after. giving (with_user_word after n at word) tt)) reached
      ∙ ap (λ (l : List ℕ). giving (with_bytes_put touched_state n at l) tt) same
      ∙ ap (λ (t : KernelState). giving t tt) (put_is touched_state n at first_bytes)

  -- and else a byte
  pub file_byte_put : (byte : ℕ) → byte ∷ [] ≡ take (moved_at_once at (length bytes)) bytes → store_byte s n at byte ≡ giving file_putting tt
  unfolding store_byte
  file_byte_put byte same =
      ap (accessing s n at Write (λ after. giving (with_user_byte after n at byte) tt)) reached
      ∙ ap (λ (l : List ℕ). giving (with_bytes_put touched_state n at l) tt) same
      ∙ ap (λ (t : KernelState). giving t tt) (put_is touched_state n at first_bytes)

-- ---- the stages

-- a stage tells the bytes that are left
bytes_at : Phase → List ℕ
bytes_at (in_service s (replied bytes answer)) = bytes
bytes_at (in_service s (delivering at bytes answer)) = bytes
bytes_at _ = []

left_at_stage : {s : Service} (bytes : List ℕ) (answer done : ℕ) (q : Phase) → HandsAt s bytes answer done q → bytes_at q ≡ drop done bytes
unfolding bytes_at
left_at_stage bytes answer _ _ by_reply = refl
left_at_stage bytes answer _ _ (behind done) = refl

-- what the abstract system does at it
replied_step : (a : AbstractState) (n : ℕ) (b : Born) (regs : Regs) (call : Service) → hands_back call ≡ true → (bytes : List ℕ) (answer : ℕ) →
    0 < length bytes →
    library_step a n b regs call (replied bytes answer) ≡ Some (bytes_delivered a n b regs call (buffer_of call + 0) bytes answer)
unfolding library_step
replied_step a n b regs (service.Read fd va len) hands [] answer some = absurd (omega (arith, some))
replied_step a n b regs (service.Read fd va len) hands (byte ∷ rest) answer some =
    let none : va ≡ va + 0 = omega arith in
    ap (λ (at : ℕ). Some (bytes_delivered a n b regs (service.Read fd va len) at (byte ∷ rest) answer)) none
replied_step a n b regs (service.Stat fd va) hands [] answer some = absurd (omega (arith, some))
replied_step a n b regs (service.Stat fd va) hands (byte ∷ rest) answer some =
    let none : va ≡ va + 0 = omega arith in
    ap (λ (at : ℕ). Some (bytes_delivered a n b regs (service.Stat fd va) at (byte ∷ rest) answer)) none
replied_step a n b regs _ hands bytes answer some = absurd (false≢true hands)

behind_step : (a : AbstractState) (n : ℕ) (b : Born) (regs : Regs) (call : Service) → hands_back call ≡ true → (at : ℕ) (bytes : List ℕ) (answer : ℕ) →
    library_step a n b regs call (delivering at bytes answer) ≡ Some (bytes_delivered a n b regs call at bytes answer)
unfolding library_step
behind_step a n b regs (service.Read fd va len) hands at bytes answer = refl
behind_step a n b regs (service.Stat fd va) hands at bytes answer = refl
behind_step a n b regs _ hands at bytes answer = absurd (false≢true hands)

handing_step : (a : AbstractState) (n : ℕ) (b : Born) (regs : Regs) (call : Service) → a.slots n ≡ born b → b.program ≡ guest regs → b.blocked ≡ false →
    hands_back call ≡ true → (bytes : List ℕ) (answer done : ℕ) (q : Phase) → b.phase ≡ q → 0 < length (drop done bytes) →
    HandsAt call bytes answer done q →
    abs_step a n ≡ Some (bytes_delivered a n b regs call (buffer_of call + done) (drop done bytes) answer)
handing_step a n b regs call is program awake hands bytes answer _ _ phase some by_reply =
    service_step a n b regs call (replied bytes answer) is program phase awake ∙ replied_step a n b regs call hands bytes answer some
handing_step a n b regs call is program awake hands bytes answer _ _ phase some (behind done) =
    service_step a n b regs call (delivering (buffer_of call + done) (drop done bytes) answer) is program phase awake
    ∙ behind_step a n b regs call hands (buffer_of call + done) (drop done bytes) answer

-- ---- all bytes are put: it is about to give its page back, and the abstract system has answered

-- who has bytes goes back to its program behind them
handing_goes : (s : Service) → hands_back s ≡ true → goes_back s ≡ true
handing_goes (service.Read fd va len) hands = refl
handing_goes (service.Stat fd va) hands = refl
handing_goes _ hands = absurd (false≢true hands)

returning_stands : {names : Names} {s : KernelState} {a : AbstractState} → StandsFor names s a → (n : ℕ) (b : Born) → a.slots n ≡ born b →
    (call : Service) → hands_back call ≡ true → (from : Step) → keeps_request from ≡ true → place_of (slot_at s n) ≡ place.InService call from →
    (calm : is_calm_step from ≡ true) (regs : Regs) (answer eax : ℕ) → (slot_at s n).registers ≡ record regs { eax = eax } →
    (slot_at s n).rendezvous.receiving ≡ false → b.blocked ≡ false →
    StandsFor names (with_extra s n (words_at (number_of call) (step.Returning answer))) (answered a n b regs answer)
returning_stands {names = names} {s = s} {a = a} h n b is call hands from keeps stands calm regs answer eax registers silent awake =
    slot_changed h n b is k after refl (record { id = refl; env_type = refl; turns = refl; calm = λ runs. runs })
    (ap is_plain stands ∙ handing_plain call hands from) (ap is_plain there ∙ handing_plain call hands (step.Returning answer)) mine
    (calm_places calm_here calm_there) (λ fd. refl)
  where
    k : Slot
    k = record (slot_at s n) { extra = words_at (number_of call) (step.Returning answer) }

    after : Born
    after = record b { program = guest (record regs { eax = answer }); phase = at_guest; blocked = false }

    there : place_of k ≡ place.InService call (step.Returning answer)
    there =
        place_at (slot_at s n).registers (number_of call) (step.Returning answer)
        (outside_stack (slot_at s n).registers (slot_at s n).extra (place.InService call from) stands refl)
        ∙ ap (λ (x : Service). place.InService x (step.Returning answer)) (named_at (slot_at s n) call from stands)

    calm_here : is_calm (place_of (slot_at s n)) ≡ true
    calm_here = ap is_calm stands ∙ calm

    calm_there : is_calm (place_of k) ≡ true
    calm_there = ap is_calm there

    mine : StandsForBorn names s.spaces k after
    mine =
        let own = born_at h n b is in
        record {
          id = own.id;
          id_small = own.id_small;
          parent = own.parent;
          env_type = own.env_type;
          runs = subst (λ (blocked : Bool). IsStatusFor (slot_at s n).status blocked) awake own.runs;
          upcall = own.upcall ∙ ap upcall_at stands ∙ sym (ap upcall_at there);
          descriptors = descriptors_turned names s.spaces k.directory (place_of (slot_at s n)) (place_of k) b.descriptors calm_here calm_there
              own.descriptors;
          memory = own.memory;
          library = library_moved (place_of (slot_at s n)) (place_of k) (slot_at s n).extra k.extra (rows_of s.spaces k.directory)
              (ap has_copy stands ∙ sym (ap has_copy there))
              (ap (λ (p : Place). pages_kept p (slot_at s n).extra) stands ∙ plain_working (place.InService call from) (slot_at s n).extra refl
              ∙ handing_held call hands from keeps
              ∙ sym (ap (λ (p : Place). pages_kept p k.extra) there ∙ plain_working (place.InService call (step.Returning answer)) k.extra refl
              ∙ handing_held call hands (step.Returning answer) refl)) own.library;
          regions_have = own.regions_have;
          regions_only = own.regions_only;
          stack = own.stack;
          flags = own.flags;
          at = subst (λ (p : Place). StandsAt p (view_of s.spaces k.directory) k after) (sym there) (record {
            goes = handing_goes call hands;
            program = sym (λ i. guest (record (registers i) { eax = answer }));
            phase = refl;
            silent = silent;
            awake = refl;
          });
        }

-- ---- a service that has bytes of a file puts the next of them

module _ {names : Names} {s : KernelState} {a : AbstractState} (h : StandsFor names s a) (n : ℕ) (call : Service) (done count word : ℕ)
    (stands : place_of (slot_at s n) ≡ place.InService call (step.PuttingBytes done count word)) where
  abbrev from : Step
  from = step.PuttingBytes done count word

  abbrev k : Slot
  k = slot_at s n

  abbrev d : ℕ
  d = k.directory

  abbrev pub put_service : IsServed names s a n call (step.PuttingBytes done count word)
  put_service = served h n call (step.PuttingBytes done count word) stands

  abbrev b : Born
  b = put_service.b

  abbrev pub put_has : IsPuttingBytes (view_of s.spaces (slot_at s n).directory) (slot_at s n) put_service.b call done count word
  put_has = put_service.at

  abbrev has : HasBytes (view_of s.spaces d) k b call done count
  has = put_has.has

  abbrev at : ℕ
  at = buffer_of call + done

  abbrev rest : List ℕ
  rest = drop done has.bytes

  abbrev answer : ℕ
  answer = answer_behind call count

  abbrev moved : ℕ
  moved = moved_at_once at (length rest)

  pub rest_long : (length rest ≡ count - done) × (0 < length rest)
  rest_long =
      let long = length-drop done has.bytes in
      let many = has.many in
      let fewer = has.fewer in
      (omega (arith, long, many), omega (arith, long, many, fewer))

  pub put_inside : is_inside (buffer_of call + done) ≡ true
  put_inside = bytes_inside (view_of s.spaces d) k b call done count has

  pub rest_inside : is_buffer at (length rest) ≡ true
  rest_inside = let fewer = has.fewer in
      ap (is_buffer at) rest_long.0 ∙ buffer_behind (buffer_of call) count done has.inside (omega (arith, fewer))

  pub rest_small : AreBytes rest
  rest_small = bytes_drop done has.bytes has.small

  -- how many are put at once, as the service counts them
  pub put_moved : put_at_once call done count ≡ moved_at_once (buffer_of call + done) (length (drop done put_has.has.bytes))
  put_moved = ap (moved_at_once at) (sym rest_long.0)

  lies_here : IsMoved at (length rest) moved
  lies_here = moved_is at (length rest) rest_long.1

  -- nothing wraps
  below_here : at + length rest < 2 ^ 32
  below_here =
      let some = rest_long.1 in
      let end = buffer_below at (length rest) rest_inside some in
      omega (arith, end)

  pub put_va : (buffer_of call + done) % 2 ^ 32 ≡ buffer_of call + done
  put_va = let below = below_here in omega (arith, below)

  pub outside_here : is_in_handler (place_of k) ≡ false
  outside_here = ap is_in_handler stands

  pub none_borne : borne_in (place_of k) ≡ None
  none_borne = ap borne_in stands ∙ handing_unborne call has.hands from

  pub calm_here : is_calm (place_of k) ≡ true
  calm_here = ap is_calm stands

  pub none_made : is_making_pipe (place_of k) ≡ false
  none_made = calm_unmade (place_of k) calm_here

  pub not_piped : is_piped (place_of k) ≡ false
  not_piped = ap is_piped stands

  -- the abstract system after it
  abbrev pub file_delivered : AbstractState
  file_delivered =
      bytes_stored a n put_has.has.regs call (buffer_of call + done) (drop done put_has.has.bytes) (answer_behind call count)
      (moved_at_once (buffer_of call + done) (length (drop done put_has.has.bytes)))

  page_lets : page_allows (page_at b at) Write ≡ true
  page_lets = entry_lets h n b put_service.is at put_inside true put_has.allowed

  delivered_is : bytes_delivered a n b has.regs call at rest answer ≡ file_delivered
  delivered_is = rw page_lets refl

  pub file_put_step : abs_step a n ≡ Some file_delivered
  file_put_step =
      handing_step a n b has.regs call put_service.is has.program has.awake has.hands has.bytes answer done b.phase refl rest_long.1 has.hands_at
      ∙ ap (λ (x : AbstractState). Some x) delivered_is

  -- where the kernel lets it
  module _ (on : is_allowed s.spaces (slot_at s n).directory (buffer_of call + done) Write ≡ true) where
    -- the state behind it
    abbrev pub file_after : KernelState
    file_after =
        file_putting h n put_service.b put_service.is outside_here none_borne none_made not_piped (buffer_of call + done) (drop done
        put_has.has.bytes) rest_long.1 rest_inside
        rest_small on

    abbrev after : AbstractState
    after = all_stored a n at (take moved rest)

    abbrev sp : SpacesState
    sp = file_put_spaces h n b put_service.is outside_here none_borne none_made not_piped at rest rest_long.1 rest_inside rest_small on

    -- a word, where four bytes are put, and else a byte
    pub file_word : put_at_once call done count ≡ 4 → store s n (buffer_of call + done) word ≡ giving file_after tt
    file_word four =
        file_word_put h n b put_service.is outside_here none_borne none_made not_piped at rest rest_long.1 rest_inside rest_small on word
        (subst (λ (m : ℕ). take m (to_le_bytes w32 word) ≡ take m rest) four put_has.word_is
        ∙ ap (λ (m : ℕ). take m rest) (sym (sym put_moved ∙ four)))

    pub file_byte : put_at_once call done count ≡ 1 → store_byte s n (buffer_of call + done) (word % 256) ≡ giving file_after tt
    file_byte one =
        file_byte_put h n b put_service.is outside_here none_borne none_made not_piped at rest rest_long.1 rest_inside rest_small on (word % 256)
        (subst (λ (m : ℕ). take m (to_le_bytes w32 word) ≡ take m rest) one put_has.word_is
        ∙ ap (λ (m : ℕ). take m rest) (sym (sym put_moved ∙ one)))

    -- how many are put then
    pub behind_is : (done + put_at_once call done count ≤ count) × ((done + put_at_once call done count) % 2 ^ 32 ≡ done + put_at_once call done count)
    behind_is =
        let within = lies_here.within in
        let same = put_moved in
        let long = rest_long.0 in
        let fewer = has.fewer in
        let most = has.most in
        (omega (arith, within, same, long, fewer), omega (arith, within, same, long, fewer, most))

    -- in its turn
    module _ (last : s.last ≡ Some n) where
      put : IsPut names (with_spaces s (touched s.spaces d at Write)) sp a after n b
      put = file_put h n b put_service.is outside_here none_borne none_made not_piped at rest rest_long.1 rest_inside rest_small on last

      row_kept : rows_of sp d ≡ rows_of s.spaces d
      row_kept = file_put_row h n b put_service.is outside_here none_borne none_made not_piped at rest rest_long.1 rest_inside rest_small on last

      -- with these left, for the environment as it is then
      abbrev with_left : List ℕ → Option Born → AbstractState
      with_left more it = delivered_so_far after n has.regs call ((at + moved) % 2 ^ 32) answer more it

      abbrev others : List ℕ
      others = drop moved rest

      so_far : (more : List ℕ) → with_left more (born_in (after.slots n)) ≡ with_left more (Some put.it)
      so_far more = ap (λ (slot : AbstractSlot). with_left more (born_in slot)) put.there

      -- nothing is printed
      pub file_console : file_delivered.console ≡ a.console
      file_console = ap (λ (x : AbstractState). x.console) (so_far others) ∙ by_rest others ∙ put.console
        where
          by_rest : (more : List ℕ) → (with_left more (Some put.it)).console ≡ after.console
          by_rest [] = refl
          by_rest (byte ∷ more) = refl

      -- its page has the bytes still
      mine : IsPuttingBytes (view_of sp d) k put.it call done count word
      mine = subst (λ (p : Place). StandsAt p (view_of sp d) k put.it) stands (born_at put.stands n put.it put.there).at

      same_left : drop done mine.has.bytes ≡ rest
      same_left =
          sym (left_at_stage mine.has.bytes answer done put.it.phase mine.has.hands_at)
          ∙ ap bytes_at put.phase
          ∙ left_at_stage has.bytes answer done b.phase has.hands_at

      -- no byte is left, and the abstract system has answered
      pub file_answers : count ≤ done + put_at_once call done count →
          StandsFor names (with_extra file_after n (words_at (number_of call) (step.Returning (answer_behind call count)))) file_delivered
      file_answers past = by_rest others refl
        where
          by_rest : (more : List ℕ) → others ≡ more →
              StandsFor names (with_extra file_after n (words_at (number_of call) (step.Returning (answer_behind call count)))) file_delivered
          by_rest [] none =
              subst (λ (x : AbstractState). StandsFor names (with_extra file_after n (words_at (number_of call) (step.Returning (answer_behind call count)))) x)
              (sym (so_far others ∙ ap (λ (more : List ℕ). with_left more (Some put.it)) none))
              (returning_stands put.stands n put.it put.there call has.hands from refl stands refl has.regs answer has.eax has.registers has.silent
              (put.blocked ∙ has.awake))
          by_rest (byte ∷ more) left =
              let long = length-drop moved rest in
              let some : length others ≡ suc (length more) = ap (λ (l : List ℕ). length l) left in
              let same = put_moved in
              let whole = rest_long.0 in
              absurd (omega (arith, past, long, some, same, whole))

      -- some are, and it stands before them at another step
      pub file_goes_on : (to : Step) → keeps_request to ≡ true → is_calm_step to ≡ true → done + put_at_once call done count < count →
          ((w : View) (c : Born) → w.row ≡ rows_of s.spaces (slot_at s n).directory →
          HasBytes w (record (slot_at s n) { extra = words_at (number_of call) to }) c call (done + put_at_once call done count) count →
          StandsAtStep w (record (slot_at s n) { extra = words_at (number_of call) to }) c call to) →
          StandsFor names (with_extra file_after n (words_at (number_of call) to)) file_delivered
      file_goes_on to keeps calm_after more_left so = by_rest others refl
        where
          by_rest : (more : List ℕ) → others ≡ more → StandsFor names (with_extra file_after n (words_at (number_of call) to)) file_delivered
          by_rest [] none =
              let long = length-drop moved rest in
              let nothing : length others ≡ 0 = ap (λ (l : List ℕ). length l) none in
              let same = put_moved in
              let whole = rest_long.0 in
              absurd (omega (arith, more_left, long, nothing, same, whole))
          by_rest (byte ∷ more) left =
              let within = lies_here.within in
              let end = below_here in
              let same = put_moved in
              let next : (at + moved) % 2 ^ 32 ≡ at + moved = omega (arith, within, end) in
              let c : Born = record put.it { phase = in_service call (delivering (at + moved) others answer) } in
              let behind_it : ℕ = done + put_at_once call done count in
              let place_is : at + moved ≡ buffer_of call + behind_it = omega (arith, same) in
              let bytes_are : others ≡ drop behind_it mine.has.bytes =
              ap (λ (l : List ℕ). drop moved l) (sym same_left) ∙ drop-drop moved done mine.has.bytes
              ∙ ap (λ (m : ℕ). drop (done + m) mine.has.bytes) (sym put_moved) in
              subst (λ (x : AbstractState). StandsFor names (with_extra file_after n (words_at (number_of call) to)) x)
              ((λ i. at_stage after n put.it call (delivering (sym next i) (left i) answer))
              ∙ sym (so_far others ∙ ap (λ (l : List ℕ). with_left l (Some put.it)) left))
              (stage_stands put.stands n (number_of call) put.it put.there (outside_stack k.registers k.extra (place.InService call from) stands refl)
              none_borne calm_here call to (delivering (at + moved) others answer)
              (ap holds_page stands ∙ handing_held call has.hands from refl ∙ sym (handing_held call has.hands to keeps))
              (handing_unborne call has.hands to) calm_after (named_at k call from stands)
              (so (view_of sp d) c row_kept (record {
                hands = has.hands;
                regs = has.regs;
                program = put.program ∙ has.program;
                eax = has.eax;
                registers = has.registers;
                bytes = mine.has.bytes;
                hands_at = subst (λ (stage : Stage). HandsAt call mine.has.bytes answer behind_it (in_service call stage))
                    (λ i. delivering (sym place_is i) (sym bytes_are i) answer) (behind behind_it);
                many = mine.has.many;
                fewer = more_left;
                most = has.most;
                inside = has.inside;
                small = mine.has.small;
                kept = mine.has.kept;
                silent = has.silent;
                awake = put.blocked ∙ has.awake;
              })))
