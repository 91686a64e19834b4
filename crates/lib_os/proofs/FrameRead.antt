-- The registers are taken back from the frame of a page fault: they are those with which the fault was raised, and the environment stands
-- at its program again, or where a service puts its bytes, with the same state of the abstract system.
use Rattle.std.proofs.Common.{◌≡◌, ◌∙◌, ◌||◌, ◌<◌, ◌+◌, ◌-◌, ◌*◌, ◌%◌, ◌^◌, ℕ, suc, not, Bool, true, false}
use Rattle.std.proofs.Common.{List, [], ◌∷◌, length, refl, sym, ap, subst, arith}
use Rattle.std.specs.Prelude.{Result, Ok, get_or, nat_lt, slice_index}
use Rattle.std.proofs.lemmas.Bool.Decides.{nat_tests}
use Rattle.std.proofs.lemmas.Nat.{from_le_bytes-to_le_bytes_4}
use Rattle.std.proofs.lemmas.Option.{same_Some}
use Rattle.jos_base.specs.declared.memory.Access.TheVariants.{Read}
use Rattle.jos_base.specs.declared.memory.PageFault.{PageFault}
use Rattle.jos_base.specs.declared.numbers.TheConstants.{PGSIZE, UTEMP, UTRAPFRAME_WORDS}
use Rattle.jos_base.specs.declared.registers.Regs.{Regs}
use Rattle.jos_base.specs.Counting.{page_limit}
use Rattle.jos_base.specs.Environments.{Slot, records_of}
use Rattle.jos_base.specs.KernelState.{KernelState, slot_at, with_registers, with_spaces}
use Rattle.jos_base.specs.Reach.{Entry, bytes_read}
use Rattle.jos_base.specs.SpacesState.{SpacesState}
use Rattle.jos_base.specs.SystemCalls.{user_bytes, with_bytes_reached}
use Rattle.jos_base.specs.TrapFrames.{bytes_of_words, frame_bytes, frame_size, frame_words, from_frame, user_flags, words_of_bytes}
use Rattle.jos_base.specs.UserMemory.{all_touched, byte_or_fault, read_byte}
use Rattle.jos_base.specs.Words.{page_number, page_offset}
use Rattle.lib_os.specs.declared.numbers.TheConstants.{UXSTACK}
use Rattle.lib_os.specs.declared.place.HandlerStep.TheVariants as handler
use Rattle.lib_os.specs.declared.place.Place.{Place}
use Rattle.lib_os.specs.declared.place.Place.TheVariants as place
use Rattle.lib_os.specs.AbstractState.{AbstractState, Born, born}
use Rattle.lib_os.specs.Fence.{is_resident}
use Rattle.lib_os.specs.InOrder.{IsInOrder}
use Rattle.lib_os.specs.LibraryPages.{HasFrame, View, frame_place, has_copy}
use Rattle.lib_os.specs.LibrarySteps.{copies_left, copy_steps, hidden_left, left_at}
use Rattle.lib_os.specs.Places.{is_handlers, place_of}
use Rattle.lib_os.specs.Rows.{EntryRow, Names, Rows, rows_of}
use Rattle.lib_os.specs.StandsFor.{StandsFor, StandsForBorn, StandsAt, upcall_at, view_of, borne_in}
use Rattle.lib_os.specs.StandsInHandler.{Copies, CopiesOrEnds, copies, ends, is_refused_by}
use Rattle.lib_os.specs.UserCalls.{giving, restored, restore_frame}
use Rattle.lib_os.proofs.FaultsStand.{frame_long, stack_page, stack_reached}
use Rattle.lib_os.proofs.Handled.{IsHandled, handled_part}
use Rattle.lib_os.proofs.Children.{bears_none}
use Rattle.lib_os.proofs.Logical.{is_plain}
use Rattle.lib_os.proofs.Beneath.{StandsAgain, beneath_moved, stands_again}
use Rattle.lib_os.proofs.PipesStand.{calm_places, descriptors_turned, is_calm}
use Rattle.lib_os.proofs.Serving.{library_moved}
use Rattle.lib_os.proofs.Working.{words_work}
use Rattle.lib_os.proofs.SlotsStand.{born_at}
use Rattle.lib_os.proofs.StatesStand.{plain_alike, quiet_stands, slot_replaced, slot_was_in_order}
use Rattle.lib_os.proofs.Effects.{Quiet}
use Rattle.lib_os.proofs.Touching.{all_touched_quiet}
use Rattle.jos_base.proofs.Maps.{upd-at}

-- ---- words and bytes

-- the words of bytes that are those of words
pub words_back : (words : List ℕ) → ((i : ℕ) → i < length words → get_or words i 0 < 2 ^ 32) → words_of_bytes (bytes_of_words words) ≡ words
unfolding bytes_of_words words_of_bytes
words_back [] small = refl
words_back (word ∷ rest) small =
    let first = from_le_bytes-to_le_bytes_4 word (small 0 (omega arith)) in
    let behind = words_back rest (λ i lt. small (suc i) (omega (arith, lt))) in
    λ i. first i ∷ behind i

-- the registers that a frame tells are those with which it was made
pub frame_back : (fault : PageFault) (regs : Regs) → regs.eflags ≡ user_flags regs.eflags →
    ((i : ℕ) → i < UTRAPFRAME_WORDS → get_or (frame_words fault regs) i 0 < 2 ^ 32) →
    from_frame (words_of_bytes (frame_bytes fault regs)) ≡ regs
unfolding frame_words from_frame
frame_back fault regs flags small =
    ap from_frame (words_back (frame_words fault regs) small) ∙ (λ i. record regs { eflags = sym flags i })

-- bytes that can be read one by one can be read one behind the other
pub bytes_read_is : (read : ℕ → Result ℕ PageFault) (va : ℕ) (bytes : List ℕ) → va + length bytes < 2 ^ 32 →
    ((i : ℕ) → i < length bytes → read (va + i) ≡ Ok (slice_index bytes i)) → bytes_read read va (length bytes) ≡ Ok bytes
unfolding bytes_read
bytes_read_is read va [] below each = refl
bytes_read_is read va (byte ∷ rest) below each =
    let next : (va + 1) % 2 ^ 32 ≡ va + 1 = omega (arith, below) in
    let first : va ≡ va + 0 = omega arith in
    let here : read va ≡ Ok byte = ap read first ∙ each 0 (omega arith) in
    let more : bytes_read read (va + 1) (length rest) ≡ Ok rest =
    bytes_read_is read (va + 1) rest (omega (arith, below))
    (λ i lt. let place : va + 1 + i ≡ va + suc i = omega arith in ap read place ∙ each (suc i) (omega (arith, lt))) in
    rw (here, next, more) refl

-- ---- the frame

module _ {names : Names} {s : KernelState} {a : AbstractState} (h : StandsFor names s a) (n : ℕ) (b : Born) (at : a.slots n ≡ born b)
    (fault : PageFault) (regs : Regs) (esp : ℕ) (frame : HasFrame (view_of s.spaces (slot_at s n).directory) esp fault regs) where
  abbrev d : ℕ
  d = (slot_at s n).directory

  -- it stands on the stack of the handler
  frame_is : frame.entry.frame ≡ (stack_page h n b at).entry.frame
  frame_is =
      ap (λ (e : Entry). e.frame)
      (same_Some frame.entry (stack_page h n b at).entry (sym frame.stands ∙ (stack_page h n b at).stands))

  -- and each of its bytes may be read there
  frame_byte : (records : ℕ → List ℕ) (i : ℕ) → i < frame_size →
      read_byte records s.spaces d (frame_place + i) ≡ Ok (slice_index (frame_bytes fault regs) i)
  unfolding read_byte page_limit
  frame_byte records i lt =
      let there : page_number (frame_place + i) ≡ page_number UXSTACK = omega (arith, lt) in
      let offset : page_offset (frame_place + i) ≡ PGSIZE - frame_size + i = omega (arith, lt) in
      let below : nat_lt (page_number (frame_place + i)) page_limit ≡ true = ap (λ (p : ℕ). nat_lt p page_limit) there in
      ap (byte_or_fault records s.spaces d (frame_place + i)) (stack_reached h n b at (frame_place + i) there Read)
      ∙ rw below refl
      ∙ (λ i. Ok (slice_index (s.spaces.pages (sym frame_is i)) (offset i)))
      ∙ ap (λ (byte : ℕ). Ok byte) (frame.bytes i lt)

  pub frame_read : user_bytes s n frame_place frame_size ≡ Ok (frame_bytes fault regs)
  frame_read =
      let long = frame_long fault regs in
      ap (user_bytes s n frame_place) (sym long)
      ∙ bytes_read_is (read_byte (records_of s.environments) s.spaces d) frame_place (frame_bytes fault regs) (omega (arith, long))
      (λ i lt. frame_byte (records_of s.environments) i (omega (arith, long, lt)))

-- ---- the environment stands where it stood

-- ESP lies not on the handler's stack
free_outside : (esp : ℕ) → is_resident esp ≡ false → is_handlers esp ≡ false
free_outside esp free = grind (arith, nat_tests)

-- the state after the registers were taken back
abbrev pub taken_from_frame : KernelState → ℕ → Regs → KernelState
taken_from_frame s n regs = with_registers (with_bytes_reached s n frame_place frame_size) n regs

module _ {names : Names} {s : KernelState} {a : AbstractState} (h : StandsFor names s a) (n : ℕ)
    (stands : place_of (slot_at s n) ≡ place.InHandler handler.Restoring) where
  abbrev v : IsHandled names s a n handler.Restoring
  v = handled_part h n handler.Restoring stands

  abbrev k : Slot
  k = slot_at s n

  -- the registers with which the fault was raised
  abbrev pub regs_before : Regs
  regs_before = v.at.regs

  way : Copies handler.Restoring (view_of s.spaces k.directory) k v.b v.at.fault v.at.regs
  way = by_way v.at.way
    where
      by_way : CopiesOrEnds handler.Restoring (view_of s.spaces k.directory) k v.b v.at.fault v.at.regs →
          Copies handler.Restoring (view_of s.spaces k.directory) k v.b v.at.fault v.at.regs
      by_way (copies it) = it
      by_way (ends it) = absurd it.at

  -- what it comes to
  pub restored_is : restore_frame s n ≡ giving (taken_from_frame s n regs_before) tt
  unfolding restore_frame
  restored_is =
      let at : k.registers.esp ≡ frame_place = v.at.frame.at in
      ap (λ (esp : ℕ). restored s n (user_bytes s n esp frame_size)) at
      ∙ ap (restored s n) (frame_read h n v.b v.is v.at.fault v.at.regs k.registers.esp v.at.frame)
      ∙ (λ i. giving (with_registers (with_bytes_reached s n (at i) frame_size) n (frame_back v.at.fault v.at.regs v.at.flags v.at.small i)) tt)

  abbrev back : Slot
  back = record k { registers = regs_before }

  -- where it stands again
  pub again : (w : View) → w.row ≡ rows_of s.spaces k.directory → w.bytes ≡ s.spaces.pages → StandsAgain w back v.b
  again w same bytes =
      stands_again w back v.b (free_outside regs_before.esp v.at.stack)
      (beneath_moved (view_of s.spaces k.directory) w back v.b (λ p programs writes. ap (λ (row : EntryRow). is_refused_by true (row p)) same ∙ writes)
      (record {
        row = ap (λ (row : EntryRow). row (page_number UTEMP)) same;
        bytes = λ x is own_page. ap (λ (pages : ℕ → List ℕ). pages x.frame) bytes;
      })
      way.beneath)

  abbrev first : StandsAgain (view_of s.spaces k.directory) back v.b
  first = again (view_of s.spaces k.directory) refl refl

  -- the place
  abbrev pub place_again : Place
  place_again = first.at

  pub back_place : place_of back ≡ place_again
  back_place = first.stands

  abbrev sp : SpacesState
  sp = all_touched s.spaces k.directory frame_place frame_size

  quiet : Quiet s.spaces sp
  quiet = all_touched_quiet s.spaces k.directory frame_place frame_size

  pub restored_stands : IsInOrder (taken_from_frame s n regs_before) → StandsFor names (taken_from_frame s n regs_before) a
  restored_stands in_order =
      slot_replaced reached n v.b v.is back refl (record { id = refl; env_type = refl; turns = refl; calm = λ runs. runs })
      (plain_alike (place_of k) (place_of back) (ap is_plain stands) (ap is_plain back_place ∙ first.plain))
      (bears_none (ap borne_in stands) (ap borne_in back_place ∙ first.unborne)) mine
      (calm_places (ap is_calm stands) (ap is_calm back_place ∙ first.calm))
    where
      reached : StandsFor names (with_spaces s sp) a
      reached = quiet_stands h quiet (slot_was_in_order (with_spaces s sp) n back refl refl in_order)

      mine : StandsForBorn names sp back v.b
      mine =
          let own = born_at reached n v.b v.is in
          let it = again (view_of sp k.directory) (ap (λ (rows : Rows). rows k.directory) quiet.rows) quiet.pages in
          record {
            id = own.id;
            id_small = own.id_small;
            parent = own.parent;
            env_type = own.env_type;
            runs = own.runs;
            upcall = own.upcall ∙ ap upcall_at stands ∙ sym (ap upcall_at it.stands ∙ it.upcall);
            descriptors = descriptors_turned names sp k.directory (place_of k) (place_of back) v.b.descriptors (ap is_calm stands)
                (ap is_calm it.stands ∙ it.calm) own.descriptors;
            memory = own.memory;
            library = library_moved (place_of k) (place_of back) k.extra k.extra (rows_of sp k.directory)
                (ap has_copy stands ∙ sym (ap has_copy it.stands ∙ it.no_copy)) (words_work k regs_before) own.library;
            regions_have = own.regions_have;
            regions_only = own.regions_only;
            stack = by_bit (is_handlers regs_before.esp) (is_resident regs_before.esp) v.at.stack;
            flags = v.at.flags;
            at = subst (λ (p : Place). StandsAt p (view_of sp k.directory) back v.b) (sym it.stands) it.is_there;
          }
        where
          by_bit : (t u : Bool) → u ≡ false → (t || not u) ≡ true
          by_bit true u free = refl
          by_bit false true free = sym free
          by_bit false false free = refl

  slot_is : slot_at (taken_from_frame s n regs_before) n ≡ back
  slot_is = upd-at s.environments.slots n back

  pub restored_place : place_of (slot_at (taken_from_frame s n regs_before) n) ≡ place_again
  restored_place = ap (λ (x : Slot). place_of x) slot_is ∙ back_place

  -- fewer steps are left
  pub restored_lowers : hidden_left (taken_from_frame s n regs_before) n < hidden_left s n
  restored_lowers =
      let copies = copies_left (rows_of s.spaces k.directory) in
      let was : hidden_left s n ≡ 11 + copy_steps * copies = ap (λ (p : Place). left_at p copies) stands in
      let is : hidden_left (taken_from_frame s n regs_before) n ≡ left_at place_again copies =
      ap (λ (x : Slot). left_at (place_of x) (copies_left (rows_of sp x.directory))) slot_is
      ∙ ap (λ (p : Place). left_at p (copies_left (rows_of sp k.directory))) back_place
      ∙ ap (λ (rows : Rows). left_at place_again (copies_left (rows k.directory))) quiet.rows in
      let less = first.fewer copies in
      omega (arith, was, is, less)
