-- The bytes that read and stat put into their buffer, a word or a byte at once, where the kernel lets them: the state stands for that of
-- the abstract system in which they are stored, and the service for its next step, or its answer.
use Rattle.std.proofs.Common.{◌≡◌, ◌≢◌, ◌∙◌, ◌+◌, ◌-◌, ◌%◌, ◌^◌, ◌==◌, ◌<◌, ◌≤◌, ℕ, zero, suc, true, false, List, [], ◌∷◌, length}
use Rattle.std.proofs.Common.{refl, sym, ap, subst, arith}
use Rattle.std.proofs.lemmas.Bool.Decides.{nat_tests}
use Rattle.std.proofs.lemmas.List.{drop-drop, drop_all, get_or-drop, length-append, length-drop, length-replicate, length-take-le}
use Rattle.std.specs.Int.{w32, from_le_bytes, to_le_bytes}
use Rattle.std.proofs.lemmas.Nat.{le_bytes_4}
use Rattle.std.specs.Option.{option_map}
use Rattle.std.specs.Prelude.{◌++◌, codes, drop, nat_le, replicate, slice_index, take, Option, Some, None, Ok}
use Rattle.jos_base.specs.declared.memory.Access.TheVariants.{Write}
use Rattle.jos_base.specs.declared.numbers.TheConstants.{PGSIZE}
use Rattle.jos_base.specs.declared.registers.Regs.{Regs}
use Rattle.jos_base.specs.Environments.{Slot}
use Rattle.jos_base.specs.KernelState.{KernelState, slot_at, with_extra, with_spaces}
use Rattle.jos_base.specs.Reach.{Entry, allows}
use Rattle.jos_base.specs.SpacesState.{SpacesState}
use Rattle.jos_base.specs.SystemCalls.{has_write, is_page_perm}
use Rattle.jos_base.specs.UserMemory.{is_allowed, reach_in, stored_byte, touched}
use Rattle.jos_base.specs.Words.{page_number, page_offset}
use Rattle.jos_base.proofs.Maps.{upd-at}
use Rattle.lib_os.specs.declared.place.Place.TheVariants as place
use Rattle.lib_os.specs.declared.place.Step.{Step}
use Rattle.lib_os.specs.declared.place.Step.TheVariants as step
use Rattle.lib_os.specs.declared.service.Service.{Service}
use Rattle.lib_os.specs.declared.service.Service.TheVariants as service
use Rattle.lib_os.specs.declared.numbers.TheConstants.{SERVICE_STAT, STAT_SIZE}
use Rattle.lib_os.specs.AbstractRun.{abs_step}
use Rattle.lib_os.specs.LibraryCall.{library_step}
use Rattle.fs_layout.specs.FileActs.{stat_bytes}
use Rattle.fs_layout.specs.declared.numbers.TheConstants.{FTYPE_REG, MAXNAMELEN}
use Rattle.jos_base.specs.TrapFrames.{bytes_of_words}
use Rattle.jos_base.proofs.WordBytes.{length-bytes_of_words}
use Rattle.lib_os.specs.AbstractMemory.{page_allows, page_at, stored, stored_in}
use Rattle.lib_os.specs.AbstractState.{AbstractState, Born, Page, born, delivering, in_service, named, own}
use Rattle.lib_os.specs.AbstractState.{AbstractSlot}
use Rattle.lib_os.specs.Answers.{all_stored, at_stage, bytes_delivered, bytes_stored, delivered_so_far, moved_at_once, stored_into}
use Rattle.lib_os.specs.Fence.{in_fence, is_buffer, is_inside}
use Rattle.lib_os.specs.GuestStep.{born_in}
use Rattle.lib_os.specs.LibraryPages.{View}
use Rattle.lib_os.specs.LibrarySteps.{service_answered}
use Rattle.lib_os.specs.Places.{place_of, words_at}
use Rattle.lib_os.specs.Rows.{AreBytes, Names, Rows, lasting, rows_of}
use Rattle.lib_os.specs.StandsFor.{StandsAtStep, StandsFor, borne_in, view_of}
use Rattle.lib_os.specs.StandsInHandler.{IsDelivering, is_refused_by, stat_told}
use Rattle.lib_os.specs.UserCalls.{accessing, giving, store, store_byte, with_bytes_put, with_user_byte, with_user_word}
use Rattle.lib_os.proofs.Answering.{back_stands}
use Rattle.lib_os.proofs.BufferAccesses.{IsMoved, entry_lets, moved_is, reached_order, stage_stands, stored_order}
use Rattle.lib_os.proofs.BytesPut.{put_is, reached_to_write, spaces_put}
use Rattle.lib_os.proofs.BytesRead.{lasting_reads, lasting_writes, user_entry_write, users_inside}
use Rattle.lib_os.proofs.BytesStand.{stored_stands}
use Rattle.lib_os.proofs.EntryWords.{row_entry}
use Rattle.lib_os.proofs.Fences.{buffer_below, buffer_each, inside_below, inside_number}
use Rattle.lib_os.proofs.Logical.{inside_programs, is_making_pipe}
use Rattle.lib_os.proofs.Numbered.{named_at, number_of}
use Rattle.lib_os.proofs.PageBytes.{bytes_drop, bytes_take}
use Rattle.lib_os.proofs.PipesStand.{calm_unmade, is_calm, is_calm_step}
use Rattle.lib_os.proofs.Serving.{IsServed, holds_page, service_step, kept_where}
use Rattle.lib_os.proofs.SlotsStand.{is_piped}
use Rattle.lib_os.proofs.StatesStand.{quiet_stands}
use Rattle.lib_os.proofs.Touching.{byte_stored, stored_is, touched_quiet}
use Rattle.lib_os.proofs.WordsTell.{is_in_handler, outside_stack}

-- ---- bytes that are put

-- The environment is there still, with its program and where it stands, entries stand as they stood, and nothing is printed.
pub record IsPut (names : Names) (s : KernelState) (sp : SpacesState) (a after : AbstractState) (n : ℕ) (b : Born) : Type 0 where
  pub it : Born
  pub there : after.slots n ≡ born it
  pub program : it.program ≡ b.program
  pub phase : it.phase ≡ b.phase
  pub blocked : it.blocked ≡ b.blocked
  pub console : after.console ≡ a.console
  pub rows : rows_of sp ≡ rows_of s.spaces
  pub stands : StandsFor names (with_spaces s sp) after

-- one byte
byte_put : {names : Names} {s : KernelState} {sp : SpacesState} {a : AbstractState} (n : ℕ) (b : Born) (va byte : ℕ) (page : Option Page) →
    a.slots n ≡ born b → rows_of sp ≡ rows_of s.spaces → StandsFor names (with_spaces s sp) (stored_in a n b va byte page) →
    IsPut names s sp a (stored_in a n b va byte page) n b
byte_put n b va byte None there rows h =
    record { it = b; there = there; program = refl; phase = refl; blocked = refl; console = refl; rows = rows; stands = h }
byte_put {a = a} n b va byte (Some (own bytes writable)) there rows h =
    record { it = _; there = upd-at a.slots n _; program = refl; phase = refl; blocked = refl; console = refl; rows = rows; stands = h }
byte_put n b va byte (Some (named name writable)) there rows h =
    record { it = b; there = there; program = refl; phase = refl; blocked = refl; console = refl; rows = rows; stands = h }

-- The bytes lie in one page, whose entry lets its environment write.
pub record LetsWrite (sp : SpacesState) (d p va count : ℕ) : Type 0 where
  pub entry : Entry
  pub stands : sp.entries d p ≡ Some entry
  pub allowed : allows entry.perm Write ≡ true
  pub writes : has_write (lasting entry).perm ≡ true
  pub inside : (i : ℕ) → i < count → is_inside (va + i) ≡ true
  pub page : (i : ℕ) → i < count → page_number (va + i) ≡ p

lets_first : (s : SpacesState) (d p va count : ℕ) (lets : LetsWrite s d p va (suc count)) →
    (is_inside va ≡ true) × (s.entries d (page_number va) ≡ Some lets.entry)
lets_first s d p va count lets =
    let first : va + 0 ≡ va = omega arith in (
      subst (λ (q : ℕ). is_inside q ≡ true) first (lets.inside 0 (omega arith)),
      ap (s.entries d) (ap page_number (sym first) ∙ lets.page 0 (omega arith)) ∙ lets.stands,
    )

-- so it is for those behind the first
lets_next : (s : SpacesState) (d p va byte count : ℕ) → LetsWrite s d p va (suc count) → LetsWrite (stored_byte s d va byte) d p (va + 1) count
lets_next s d p va byte count lets =
    let here = lets_first s d p va count lets in
    let same = stored_is s d va byte lets.entry (inside_number va here.0) here.1 lets.allowed in
    record {
      entry = lets.entry;
      stands = ap (λ (t : SpacesState). t.entries d p) same ∙ lets.stands;
      allowed = lets.allowed;
      writes = lets.writes;
      inside = λ i lt.
          let next : va + suc i ≡ va + 1 + i = omega arith in
          subst (λ (q : ℕ). is_inside q ≡ true) next (lets.inside (suc i) (omega (arith, lt)));
      page = λ i lt.
          let next : va + 1 + i ≡ va + suc i = omega arith in
          ap page_number next ∙ lets.page (suc i) (omega (arith, lt));
    }

pub put_stands : {names : Names} (bytes : List ℕ) (s : KernelState) (a : AbstractState) → StandsFor names s a → (n : ℕ) (b : Born) → a.slots n ≡ born b →
    is_in_handler (place_of (slot_at s n)) ≡ false → borne_in (place_of (slot_at s n)) ≡ None → is_making_pipe (place_of (slot_at s n)) ≡ false →
    is_piped (place_of (slot_at s n)) ≡ false → s.last ≡ Some n → (p va : ℕ) → AreBytes bytes →
    LetsWrite s.spaces (slot_at s n).directory p va (length bytes) →
    IsPut names s (spaces_put s.spaces (slot_at s n).directory va bytes) a (all_stored a n va bytes) n b
unfolding spaces_put all_stored rows_of
put_stands [] s a h n b at outside unborne unmade off last p va small lets =
    record { it = b; there = at; program = refl; phase = refl; blocked = refl; console = refl; rows = refl; stands = h }
put_stands {names} (byte ∷ rest) s a h n b at outside unborne unmade off last p va small lets =
    let d : ℕ = (slot_at s n).directory in
    let sp : SpacesState = stored_byte s.spaces d va byte in
    let here = lets_first s.spaces d p va (length rest) lets in
    let below = inside_below va here.0 in
    let next : (va + 1) % 2 ^ 32 ≡ va + 1 = omega (arith, below) in
    let put = byte_stored s.spaces d va byte lets.entry (inside_number va here.0) here.1 lets.allowed in
    let one = stored_stands h n b at outside unborne unmade off last va byte (small zero) (inside_programs va here.0) (lasting lets.entry)
    (ap (option_map lasting) here.1) lets.writes put (stored_order s n va byte h.in_order) in
    let was = byte_put {s = s} n b va byte (page_at b va) at put.rows one in
    let more = put_stands rest (with_spaces s sp) (stored a n b va byte) one n was.it was.there outside unborne unmade off last p (va + 1) (λ i.
    small (suc i))
    (lets_next s.spaces d p va byte (length rest) lets) in
    subst (λ (after : AbstractState). IsPut names s (spaces_put sp d (va + 1) rest) a after n b)
    (λ i. all_stored (stored_into a n va byte (born_in (sym at i))) n (sym next i) rest)
    (record {
      it = more.it;
      there = more.there;
      program = more.program ∙ was.program;
      phase = more.phase ∙ was.phase;
      blocked = more.blocked ∙ was.blocked;
      console = more.console ∙ was.console;
      rows = more.rows ∙ was.rows;
      stands = more.stands;
    })

-- ---- what the list has

pub take_first : (l : List ℕ) → 1 ≤ length l → take 1 l ≡ slice_index l 0 ∷ []
take_first [] some = absurd (omega (arith, some))
take_first (first ∷ rest) some = refl

pub take_four : (l : List ℕ) → 4 ≤ length l → take 4 l ≡ slice_index l 0 ∷ slice_index l 1 ∷ slice_index l 2 ∷ slice_index l 3 ∷ []
take_four [] four = absurd (omega (arith, four))
take_four (a ∷ []) four = absurd (omega (arith, four))
take_four (a ∷ b ∷ []) four = absurd (omega (arith, four))
take_four (a ∷ b ∷ c ∷ []) four = absurd (omega (arith, four))
take_four (a ∷ b ∷ c ∷ d ∷ rest) four = refl

-- a part of a buffer behind some of its bytes
pub buffer_behind : (va n c : ℕ) → is_buffer va n ≡ true → c ≤ n → is_buffer (va + c) (n - c) ≡ true
unfolding in_fence
buffer_behind va n c buffer few = grind (arith, nat_tests)

-- ---- a service puts the next of its bytes

-- it has bytes for an address, and the page there is one that may be written, where it stands or as a copy of it
module _ {names : Names} {s : KernelState} {a : AbstractState} (h : StandsFor names s a) (n : ℕ) (b : Born) (is : a.slots n ≡ born b)
    (call : Service) (step : Step) (stands : place_of (slot_at s n) ≡ place.InService call step)
    (unborne : borne_in (place.InService call step) ≡ None) (calm : is_calm (place.InService call step) ≡ true)
    (off : is_piped (place.InService call step) ≡ false) (at : ℕ) (bytes : List ℕ) (answer : ℕ) (v : IsDelivering (slot_at s n) b call at bytes answer)
    (lets : is_refused_by true (rows_of s.spaces (slot_at s n).directory (page_number at)) ≡ false) where
  abbrev k : Slot
  k = slot_at s n

  abbrev d : ℕ
  d = k.directory

  abbrev regs : Regs
  regs = k.registers

  -- how many are put at once, and which
  abbrev pub count : ℕ
  count = moved_at_once at (length bytes)

  abbrev pub first_bytes : List ℕ
  first_bytes = take count bytes

  abbrev pub other_bytes : List ℕ
  other_bytes = drop count bytes

  pub lies : IsMoved at (length bytes) count
  lies = moved_is at (length bytes) v.some

  -- nothing wraps
  pub ends_below : at + length bytes < 2 ^ 32
  ends_below =
      let some = v.some in
      let end = buffer_below at (length bytes) v.inside some in
      omega (arith, end)

  pub at_inside : is_inside at ≡ true
  at_inside = buffer_each at (length bytes) at v.inside (omega arith) (let some = v.some in omega (arith, some))

  pub page_lets : page_allows (page_at b at) Write ≡ true
  page_lets = entry_lets h n b is at at_inside true lets

  outside : is_in_handler (place_of k) ≡ false
  outside = ap is_in_handler stands

  none_borne : borne_in (place_of k) ≡ None
  none_borne = ap borne_in stands ∙ unborne

  calm_here : is_calm (place_of k) ≡ true
  calm_here = ap is_calm stands ∙ calm

  put_length : length first_bytes ≡ count
  put_length = length-take-le count bytes lies.within

  -- the abstract system after it
  abbrev pub delivered : AbstractState
  delivered = bytes_stored a n regs call at bytes answer count

  pub delivered_is : bytes_delivered a n b regs call at bytes answer ≡ delivered
  delivered_is = rw page_lets refl

  -- ---- and the kernel lets it

  module _ (on : is_allowed s.spaces d at Write ≡ true) where
    abbrev found : (e : Entry) × (s.spaces.entries d (page_number at) ≡ Some e) × (allows e.perm Write ≡ true) × (has_write (lasting e).perm ≡ true)
    found = user_entry_write names s a n b h is at at_inside on

    reached : reach_in s.spaces d at Write ≡ Ok (record { frame = found.0.frame; offset = page_offset at })
    reached = reached_to_write s.spaces d at found.0 (inside_number at at_inside) found.1 found.2

    -- the state in which the page is reached
    abbrev pub touched_state : KernelState
    touched_state = with_spaces s (touched s.spaces d at Write)

    touched_stands : StandsFor names touched_state a
    touched_stands = quiet_stands h (touched_quiet s.spaces d at Write) (reached_order s n at Write h.in_order)

    row_is : rows_of touched_state.spaces d (page_number at) ≡ Some (lasting found.0)
    unfolding rows_of
    row_is = ap (λ (rows : Rows). rows d (page_number at)) (touched_quiet s.spaces d at Write).rows ∙ ap (option_map lasting) found.1

    touched_lets : LetsWrite touched_state.spaces d (page_number at) at (length first_bytes)
    touched_lets =
        let there = row_entry touched_state.spaces d (page_number at) (lasting found.0) row_is in
        let user = users_inside names touched_state a n b touched_stands is (page_number at) (lasting found.0) (inside_programs at at_inside) row_is in
        let writes : has_write (lasting there.0).perm ≡ true = ap (λ (e : Entry). has_write e.perm) there.2 ∙ found.3 in
        let reads = lasting_reads there.0.perm (subst (λ (e : Entry). is_page_perm e.perm ≡ true) (sym there.2) user.page) in
        record {
          entry = there.0;
          stands = there.1;
          allowed = lasting_writes there.0.perm reads ∙ writes;
          writes = writes;
          inside = λ i lt.
              let long = put_length in
              let within = lies.within in
              buffer_each at (length bytes) (at + i) v.inside (omega arith) (omega (arith, long, within, lt));
          page = λ i lt. let long = put_length in lies.page i (omega (arith, long, lt));
        }

    abbrev put_spaces : SpacesState
    put_spaces = spaces_put touched_state.spaces d at first_bytes

    -- the state behind it
    abbrev pub putting : KernelState
    putting = with_spaces s put_spaces

    -- a word, where four bytes are put
    pub word_put : (word : ℕ) → to_le_bytes w32 word ≡ first_bytes → store s n at word ≡ giving putting tt
    unfolding store
    word_put word same =
        ap (accessing s n at Write (λ after. giving (with_user_word after n at word) tt)) reached
        ∙ ap (λ (l : List ℕ). giving (with_bytes_put touched_state n at l) tt) same
        ∙ ap (λ (t : KernelState). giving t tt) (put_is touched_state n at first_bytes)

    -- and else a byte
    pub byte_is_put : (byte : ℕ) → byte ∷ [] ≡ first_bytes → store_byte s n at byte ≡ giving putting tt
    unfolding store_byte
    byte_is_put byte same =
        ap (accessing s n at Write (λ after. giving (with_user_byte after n at byte) tt)) reached
        ∙ ap (λ (l : List ℕ). giving (with_bytes_put touched_state n at l) tt) same
        ∙ ap (λ (t : KernelState). giving t tt) (put_is touched_state n at first_bytes)

    -- in its turn
    module _ (last : s.last ≡ Some n) where
      pub put : IsPut names touched_state put_spaces a (all_stored a n at first_bytes) n b
      put = put_stands first_bytes touched_state a touched_stands n b is outside none_borne (calm_unmade (place_of k) calm_here)
          (ap is_piped stands ∙ off) last (page_number at) at (bytes_take count bytes v.small) touched_lets

      -- with these left, for the environment as it is then
      abbrev with_left : List ℕ → Option Born → AbstractState
      with_left rest it = delivered_so_far (all_stored a n at first_bytes) n regs call ((at + count) % 2 ^ 32) answer rest it

      so_far : (rest : List ℕ) → with_left rest (born_in ((all_stored a n at first_bytes).slots n)) ≡ with_left rest (Some put.it)
      so_far rest = ap (λ (slot : AbstractSlot). with_left rest (born_in slot)) put.there

      -- nothing is printed
      pub delivered_console : delivered.console ≡ a.console
      delivered_console = ap (λ (x : AbstractState). x.console) (so_far other_bytes) ∙ by_rest other_bytes ∙ put.console
        where
          by_rest : (rest : List ℕ) → (with_left rest (Some put.it)).console ≡ (all_stored a n at first_bytes).console
          by_rest [] = refl
          by_rest (byte ∷ rest) = refl

      -- no byte is left, and it has answered
      pub answer_stands : other_bytes ≡ [] → holds_page (place.InService call step) ≡ kept_where false →
          StandsFor names (service_answered putting n answer) delivered
      answer_stands none holds =
          subst (λ (x : AbstractState). StandsFor names (service_answered putting n answer) x)
          (sym (so_far other_bytes ∙ ap (λ (rest : List ℕ). with_left rest (Some put.it)) none))
          (back_stands put.stands n put.it put.there (record regs { eax = answer }) none_borne (ap holds_page stands ∙ holds) calm_here v.silent
          (put.blocked ∙ v.awake) (outside_stack regs k.extra (place.InService call step) stands refl) refl refl)

      pub put_row : rows_of put_spaces d ≡ rows_of s.spaces d
      put_row = ap (λ (rows : Rows). rows d) (put.rows ∙ (touched_quiet s.spaces d at Write).rows)

      -- some are, and it stands before them at another step
      pub rest_stands : (to : Step) → 0 < length other_bytes → holds_page (place.InService call step) ≡ holds_page (place.InService call to) →
          borne_in (place.InService call to) ≡ None → is_calm_step to ≡ true →
          ((w : View) (c : Born) → w.row ≡ rows_of s.spaces d →
          IsDelivering (record k { extra = words_at (number_of call) to }) c call (at + count) other_bytes answer →
          StandsAtStep w (record k { extra = words_at (number_of call) to }) c call to) →
          StandsFor names (with_extra putting n (words_at (number_of call) to)) delivered
      rest_stands to some held unborne_after calm_after so = by_rest other_bytes refl some
        where
          by_rest : (rest : List ℕ) → other_bytes ≡ rest → 0 < length rest → StandsFor names (with_extra putting n (words_at (number_of call) to)) delivered
          by_rest [] left more = absurd (omega (arith, more))
          by_rest (byte ∷ rest) left more =
              let within = lies.within in
              let end = ends_below in
              let long = length-drop count bytes in
              let next : (at + count) % 2 ^ 32 ≡ at + count = omega (arith, within, end) in
              let after : AbstractState = all_stored a n at first_bytes in
              let c : Born = record put.it { phase = in_service call (delivering (at + count) other_bytes answer) } in
              subst (λ (x : AbstractState). StandsFor names (with_extra putting n (words_at (number_of call) to)) x)
              ((λ i. at_stage after n put.it call (delivering (sym next i) (left i) answer))
              ∙ sym (so_far other_bytes ∙ ap (λ (l : List ℕ). with_left l (Some put.it)) left))
              (stage_stands put.stands n (number_of call) put.it put.there (outside_stack regs k.extra (place.InService call step) stands refl)
              none_borne calm_here call to (delivering (at + count) other_bytes answer) (ap holds_page stands ∙ held) unborne_after calm_after
              (named_at k call step stands)
              (so (view_of put_spaces d) c put_row (record {
                program = put.program ∙ v.program;
                phase = refl;
                silent = v.silent;
                awake = put.blocked ∙ v.awake;
                some = some;
                inside = ap (is_buffer (at + count)) long ∙ buffer_behind at (length bytes) count v.inside within;
                small = bytes_drop count bytes v.small;
              })))

-- ---- read

module _ {names : Names} {s : KernelState} {a : AbstractState} (h : StandsFor names s a) (n fd va len done word : ℕ)
    (v : IsServed names s a n (service.Read fd va len) (step.Delivering done word)) where
  abbrev sl : Slot
  sl = slot_at s n

  -- where the byte goes
  abbrev pub read_va : ℕ
  read_va = (va + done) % 2 ^ 32

  pub read_va_is : read_va ≡ va + done
  read_va_is =
      let below = ends_below h n v.b v.is (service.Read fd va len) (step.Delivering done word) v.place refl refl refl (va + done) (word ∷ []) 1
      v.at.0 v.at.1 in
      omega (arith, below)

  -- the abstract system after it
  abbrev pub read_delivered : AbstractState
  read_delivered = delivered h n v.b v.is (service.Read fd va len) (step.Delivering done word) v.place refl refl refl (va + done) (word ∷ []) 1
      v.at.0 v.at.1

  pub read_step : abs_step a n ≡ Some read_delivered
  unfolding library_step
  read_step =
      service_step a n v.b sl.registers (service.Read fd va len) (delivering (va + done) (word ∷ []) 1) v.is v.at.0.program v.at.0.phase v.at.0.awake
      ∙ ap Some (delivered_is h n v.b v.is (service.Read fd va len) (step.Delivering done word) v.place refl refl refl (va + done) (word ∷ []) 1
      v.at.0 v.at.1)

  one_put : moved_at_once (va + done) 1 ≡ 1
  one_put =
      let it = lies h n v.b v.is (service.Read fd va len) (step.Delivering done word) v.place refl refl refl (va + done) (word ∷ []) 1 v.at.0 v.at.1 in
      let some = it.some in
      let within = it.within in
      omega (arith, some, within)

  -- where the kernel lets it
  module _ (on : is_allowed s.spaces sl.directory read_va Write ≡ true) where
    pub there_too : is_allowed s.spaces sl.directory (va + done) Write ≡ true
    there_too = ap (λ (q : ℕ). is_allowed s.spaces sl.directory q Write) (sym read_va_is) ∙ on

    -- the state behind it
    abbrev pub read_putting : KernelState
    read_putting = putting h n v.b v.is (service.Read fd va len) (step.Delivering done word) v.place refl refl refl (va + done) (word ∷ []) 1
        v.at.0 v.at.1 there_too

    pub read_put : store_byte s n read_va (word % 256) ≡ giving read_putting tt
    read_put =
        let small = v.at.0.small zero in
        let byte : word % 256 ≡ word = omega (arith, small) in
        (λ i. store_byte s n (read_va_is i) (byte i))
        ∙ byte_is_put h n v.b v.is (service.Read fd va len) (step.Delivering done word) v.place refl refl refl (va + done) (word ∷ []) 1 v.at.0
        v.at.1 there_too word
        (sym (ap (λ (c : ℕ). take c (word ∷ [])) one_put))

    -- in its turn
    module _ (last : s.last ≡ Some n) where
      pub read_console : read_delivered.console ≡ a.console
      read_console =
          delivered_console h n v.b v.is (service.Read fd va len) (step.Delivering done word) v.place refl refl refl (va + done) (word ∷ []) 1
          v.at.0 v.at.1 there_too last

      pub read_stands : StandsFor names (service_answered read_putting n 1) read_delivered
      read_stands =
          answer_stands h n v.b v.is (service.Read fd va len) (step.Delivering done word) v.place refl refl refl (va + done) (word ∷ []) 1 v.at.0
          v.at.1 there_too last
          (ap (λ (c : ℕ). drop c (word ∷ [])) one_put) refl

-- ---- stat

named_length : (name : List ℕ) (size kind : ℕ) → length name ≡ 6 → length (stat_bytes name size kind) ≡ STAT_SIZE
unfolding stat_bytes
named_length name size kind six =
    let nuls = length-replicate {A = ℕ} (MAXNAMELEN - length name) 0 in
    let words = length-bytes_of_words (size ∷ kind ∷ []) in
    let front = length-append name (replicate (MAXNAMELEN - length name) 0) in
    let all = length-append (name ++ replicate (MAXNAMELEN - length name) 0) (bytes_of_words (size ∷ kind ∷ [])) in
    omega (arith, six, nuls, words, front, all)

pub stat_length : (word : ℕ) → length (stat_told word) ≡ STAT_SIZE
stat_length zero = named_length (codes "<cons>") 0 FTYPE_REG refl
stat_length (suc held) = named_length (codes "<pipe>") held FTYPE_REG refl

-- so many bytes of it are put: which those are
abbrev pub told_byte : ℕ → ℕ → ℕ
told_byte word at = slice_index (stat_told word) (at % 2 ^ 32)

-- and the word that begins with one
abbrev pub told_word : ℕ → ℕ → ℕ
told_word word at =
    from_le_bytes w32 (told_byte word at ∷ told_byte word (at + 1) ∷ told_byte word (at + 2) ∷ told_byte word (at + 3) ∷ [])

rest_byte : (word done i : ℕ) → done + i < 2 ^ 32 → slice_index (drop done (stat_told word)) i ≡ told_byte word (done + i)
rest_byte word done i below =
    let same : done + i ≡ (done + i) % 2 ^ 32 = omega (arith, below) in
    get_or-drop done (stat_told word) i 0 ∙ ap (slice_index (stat_told word)) same

rest_four : (word done : ℕ) → done + 4 ≤ STAT_SIZE →
    take 4 (drop done (stat_told word)) ≡ told_byte word done ∷ told_byte word (done + 1) ∷ told_byte word (done + 2) ∷ told_byte word (done + 3) ∷ []
rest_four word done within =
    let all = stat_length word in
    let long = length-drop done (stat_told word) in
    let first : done + 0 ≡ done = omega arith in
    let zeroth = rest_byte word done 0 (omega (arith, within)) ∙ ap (told_byte word) first in
    let one = rest_byte word done 1 (omega (arith, within)) in
    let two = rest_byte word done 2 (omega (arith, within)) in
    let three = rest_byte word done 3 (omega (arith, within)) in
    take_four (drop done (stat_told word)) (omega (arith, all, long, within)) ∙ (λ i. zeroth i ∷ one i ∷ two i ∷ three i ∷ [])

rest_one : (word done : ℕ) → done < STAT_SIZE → take 1 (drop done (stat_told word)) ≡ told_byte word done ∷ []
rest_one word done within =
    let all = stat_length word in
    let long = length-drop done (stat_told word) in
    let first : done + 0 ≡ done = omega arith in
    let zeroth = rest_byte word done 0 (omega (arith, within)) ∙ ap (told_byte word) first in
    take_first (drop done (stat_told word)) (omega (arith, all, long, within)) ∙ (λ i. zeroth i ∷ [])

module _ {names : Names} {s : KernelState} {a : AbstractState} (h : StandsFor names s a) (n fd va done word : ℕ)
    (v : IsServed names s a n (service.Stat fd va) (step.Delivering done word)) where
  abbrev st : Slot
  st = slot_at s n

  abbrev here : ℕ
  here = va + done

  abbrev rest : List ℕ
  rest = drop done (stat_told word)

  abbrev many : ℕ
  many = moved_at_once here (length rest)

  -- where the next byte goes, and how many are put at once
  abbrev pub stat_va : ℕ
  stat_va = (va + done) % 2 ^ 32

  abbrev pub stat_moved : ℕ
  stat_moved = moved_at_once stat_va (STAT_SIZE - done)

  -- how many are put then
  abbrev pub stat_behind : ℕ
  stat_behind = (done + stat_moved) % 2 ^ 32

  lies_here : IsMoved here (length rest) many
  lies_here = lies h n v.b v.is (service.Stat fd va) (step.Delivering done word) v.place refl refl refl here rest 0 v.at.0 v.at.1

  below_here : here + length rest < 2 ^ 32
  below_here = ends_below h n v.b v.is (service.Stat fd va) (step.Delivering done word) v.place refl refl refl here rest 0 v.at.0 v.at.1

  pub stat_va_is : stat_va ≡ here
  stat_va_is = let below = below_here in omega (arith, below)

  rest_length : (length rest ≡ STAT_SIZE - done) × (done < STAT_SIZE)
  rest_length =
      let all = stat_length word in
      let long = length-drop done (stat_told word) in
      let some = v.at.0.some in
      (omega (arith, all, long), omega (arith, all, long, some))

  moved_same : stat_moved ≡ many
  moved_same = λ i. moved_at_once (stat_va_is i) (sym rest_length.0 i)

  behind_is : (stat_behind ≡ done + many) × (done + many ≤ STAT_SIZE)
  behind_is =
      let same = moved_same in
      let within = lies_here.within in
      let long = rest_length.0 in
      let low = rest_length.1 in
      (omega (arith, same, within, long, low), omega (arith, within, long, low))

  -- those that are left
  left_is : drop many rest ≡ drop stat_behind (stat_told word)
  left_is = drop-drop many done (stat_told word) ∙ ap (λ (m : ℕ). drop m (stat_told word)) (sym behind_is.0)

  -- the abstract system after it
  abbrev pub stat_delivered : AbstractState
  stat_delivered = delivered h n v.b v.is (service.Stat fd va) (step.Delivering done word) v.place refl refl refl here rest 0 v.at.0 v.at.1

  pub stat_step : abs_step a n ≡ Some stat_delivered
  unfolding library_step
  stat_step =
      service_step a n v.b st.registers (service.Stat fd va) (delivering here rest 0) v.is v.at.0.program v.at.0.phase v.at.0.awake
      ∙ ap Some (delivered_is h n v.b v.is (service.Stat fd va) (step.Delivering done word) v.place refl refl refl here rest 0 v.at.0 v.at.1)

  -- where the kernel lets it
  module _ (on : is_allowed s.spaces st.directory stat_va Write ≡ true) where
    pub lets_there : is_allowed s.spaces st.directory here Write ≡ true
    lets_there = ap (λ (q : ℕ). is_allowed s.spaces st.directory q Write) (sym stat_va_is) ∙ on

    -- the state behind it
    abbrev pub stat_putting : KernelState
    stat_putting = putting h n v.b v.is (service.Stat fd va) (step.Delivering done word) v.place refl refl refl here rest 0 v.at.0 v.at.1
        lets_there

    pub stat_word_put : (stat_moved == 4) ≡ true → store s n stat_va (told_word word done) ≡ giving stat_putting tt
    stat_word_put test =
        let many_too : (many == 4) ≡ true = ap (λ (c : ℕ). c == 4) (sym moved_same) ∙ test in
        let four = lies_here.word many_too in
        let within = behind_is.1 in
        let those : take many rest ≡ told_byte word done ∷ told_byte word (done + 1) ∷ told_byte word (done + 2) ∷ told_byte word (done + 3) ∷ [] =
        ap (λ (c : ℕ). take c rest) four ∙ rest_four word done (omega (arith, four, within)) in
        let long = length-take-le many rest lies_here.within in
        ap (λ (q : ℕ). store s n q (told_word word done)) stat_va_is
        ∙ word_put h n v.b v.is (service.Stat fd va) (step.Delivering done word) v.place refl refl refl here rest 0 v.at.0 v.at.1 lets_there
        (told_word word done)
        (le_bytes_4 (take many rest) (told_word word done) (long ∙ four) (bytes_take many rest v.at.0.small) (ap (from_le_bytes w32) (sym those)))

    pub stat_byte_put : (stat_moved == 4) ≡ false → store_byte s n stat_va (told_byte word done) ≡ giving stat_putting tt
    stat_byte_put test =
        let many_too : (many == 4) ≡ false = ap (λ (c : ℕ). c == 4) (sym moved_same) ∙ test in
        ap (λ (q : ℕ). store_byte s n q (told_byte word done)) stat_va_is
        ∙ byte_is_put h n v.b v.is (service.Stat fd va) (step.Delivering done word) v.place refl refl refl here rest 0 v.at.0 v.at.1
        lets_there (told_byte word done)
        (sym (ap (λ (c : ℕ). take c rest) (lies_here.byte many_too) ∙ rest_one word done rest_length.1))

    -- in its turn
    module _ (last : s.last ≡ Some n) where
      pub stat_console : stat_delivered.console ≡ a.console
      stat_console = delivered_console h n v.b v.is (service.Stat fd va) (step.Delivering done word) v.place refl refl refl here rest 0 v.at.0
          v.at.1 lets_there last

      -- all bytes are put, and it has answered
      pub stat_answers : nat_le STAT_SIZE stat_behind ≡ true → StandsFor names (service_answered stat_putting n 0) stat_delivered
      stat_answers past =
          let all = stat_length word in
          let above : STAT_SIZE ≤ stat_behind = grind (arith, nat_tests) in
          answer_stands h n v.b v.is (service.Stat fd va) (step.Delivering done word) v.place refl refl refl here rest 0 v.at.0 v.at.1 lets_there last
          (left_is ∙ drop_all stat_behind (stat_told word) (omega (arith, all, above))) refl

      module _ (more : nat_le STAT_SIZE stat_behind ≡ false) where
        some_left : 0 < length (drop many rest)
        some_left =
            let below : stat_behind < STAT_SIZE = grind (arith, nat_tests) in
            let all = stat_length word in
            let long = length-drop stat_behind (stat_told word) in
            let left = ap (λ (l : List ℕ). length l) left_is in
            omega (arith, below, all, long, left)

        -- it has those behind
        has_left : (k : Slot) (c : Born) → IsDelivering k c (service.Stat fd va) (here + many) (drop many rest) 0 →
            IsDelivering k c (service.Stat fd va) (va + stat_behind) (drop stat_behind (stat_told word)) 0
        has_left k c it =
            let next = behind_is.0 in
            let same : here + many ≡ va + stat_behind = omega (arith, next) in
            subst (λ (l : List ℕ). IsDelivering k c (service.Stat fd va) (va + stat_behind) l 0) left_is
            (subst (λ (q : ℕ). IsDelivering k c (service.Stat fd va) q (drop many rest) 0) same it)

        -- it looks at the next page
        pub stat_looks : StandsFor names (with_extra stat_putting n (words_at SERVICE_STAT (step.BufferRegion stat_behind word))) stat_delivered
        stat_looks =
            rest_stands h n v.b v.is (service.Stat fd va) (step.Delivering done word) v.place refl refl refl here rest 0 v.at.0 v.at.1 lets_there last
            (step.BufferRegion stat_behind word) some_left refl refl refl (λ w c row it. (has_left (record st { extra = _ }) c it, tt))

        -- or puts more bytes into this one
        pub stat_goes_on : (((va + stat_behind) % 2 ^ 32) % PGSIZE == 0) ≡ false →
            StandsFor names (with_extra stat_putting n (words_at SERVICE_STAT (step.Delivering stat_behind word))) stat_delivered
        stat_goes_on inside_page =
            rest_stands h n v.b v.is (service.Stat fd va) (step.Delivering done word) v.place refl refl refl here rest 0 v.at.0 v.at.1 lets_there last
            (step.Delivering stat_behind word) some_left refl refl refl
            (λ w c row it. (
              has_left (record st { extra = _ }) c it,
              (λ i. is_refused_by true (row i (page_number (va + stat_behind))))
                  ∙ ap (λ (p : ℕ). is_refused_by true (rows_of s.spaces st.directory p)) same_page ∙ v.at.1,
            ))
          where
            same_page : page_number (va + stat_behind) ≡ page_number here
            same_page =
                let next = behind_is.0 in
                let some = lies_here.some in
                let last = lies_here.page (many - 1) (omega (arith, some)) in
                let below = below_here in
                let long = rest_length.0 in
                let within = lies_here.within in
                let apart : ((va + stat_behind) % 2 ^ 32) % PGSIZE ≢ 0 = grind (arith, nat_tests) in
                omega (arith, next, some, last, below, long, within, apart)
