-- The parts of the law of the handler that are the same at all its steps: who goes on is there, what each step leaves, that less is left
-- behind each hidden one, that none gives up its turn, and how many frames each takes.
use Rattle.std.proofs.Common.{◌≡◌, ◌∙◌, ◌+◌, ◌*◌, ◌%◌, ◌<◌, ◌≤◌, ℕ, Bool, true, false, List, Option, Some, None, Result, Ok, Err, refl, sym, ap, subst, arith, ◌∷◌, []}
use Rattle.std.proofs.lemmas.Bool.Decides.{nat_tests}
use Rattle.jos_base.specs.declared.called.Called.{Called}
use Rattle.jos_base.specs.declared.memory.PageFault.{PageFault}
use Rattle.jos_base.specs.declared.numbers.TheConstants.{SYS_ENV_SET_PGFAULT_UPCALL, SYS_PAGE_ALLOC, SYS_PAGE_MAP, SYS_PAGE_UNMAP}
use Rattle.jos_base.specs.declared.registers.Regs.{Regs}
use Rattle.jos_base.specs.Environments.{Slot, is_live}
use Rattle.jos_base.specs.KernelState.{KernelState, slot_at, with_registers}
use Rattle.jos_base.specs.Reach.{Entry}
use Rattle.jos_base.specs.SystemCalls.{handled, user_bytes, with_bytes_reached}
use Rattle.jos_base.specs.TrapFrames.{frame_size, from_frame, words_of_bytes}
use Rattle.jos_base.specs.Words.{page_number}
use Rattle.lib_os.specs.declared.numbers.TheConstants.{PAGE_WORDS, PFTEMP}
use Rattle.lib_os.specs.declared.place.HandlerStep.{HandlerStep}
use Rattle.lib_os.specs.declared.place.HandlerStep.TheVariants as handler
use Rattle.lib_os.specs.declared.place.Place.TheVariants as place
use Rattle.lib_os.specs.AbstractState.{AbstractState}
use Rattle.lib_os.specs.LibrarySteps.{HasTurn, Stands, Leaves, Lowers, GivesUp, TakesAtMost, TakesByPlace, copies_left, frames_at, is_pausing}
use Rattle.lib_os.specs.Places.{place_of}
use Rattle.lib_os.specs.Rows.{rows_of}
use Rattle.lib_os.specs.StandsInHandler.{is_write}
use Rattle.lib_os.specs.UserCalls.{CallStep, Got, got, to_handler, gone, faulting, restored, restore_frame, answer_of}
use Rattle.lib_os.proofs.GoingOn.{gives_nothing_up}
use Rattle.lib_os.proofs.Slots.{slot_put}
use Rattle.lib_os.proofs.Remapping.{puts_over}
use Rattle.lib_stage.specs.declared.ask.Ask.TheVariants as ask
use Rattle.lib_stage.specs.Asks.{frames_of, performed}
use Rattle.lib_stage.specs.Nexts.{is_gone}
use Rattle.lib_stage.specs.ServiceSteps.{upshot_by}
use Rattle.lib_stage.proofs.FramesTaken.{asks_few, takes_at}
use Rattle.lib_stage.proofs.Laws.{IsAsideAsk, IsPlain, NeverFaults, is_word_beside, known_leaves, plainly, system_never, touch_aside}
use Rattle.lib_fault.specs.HandlerStages.{ask_of, next_of, handling, copy_perm, page_start, word_of_page}
use Rattle.lib_fault.proofs.CallsLeave.{keeps_registers, call_left, told_gives}
use Rattle.lib_os.proofs.CopiesLeft.{inserted_entries, put_copies_less}
use Rattle.lib_os.proofs.StepsThere.{step_is_there}
use Rattle.lib_fault.proofs.Copying.{storing_never}
use Rattle.lib_fault.proofs.Ending.{touching_apart, touching_never}
use Rattle.lib_fault.proofs.Falling.{handler_falls}
use Rattle.lib_fault.proofs.FrameReads.{entered_never, reading_error_never, reading_ip_never}
use Rattle.lib_fault.proofs.PageReads.{loading_never, looking_never}
use Rattle.lib_fault.proofs.Lowering.{copies_fall, next_lowers, is_mapping}
use Rattle.lib_fault.proofs.Restored.{restoring_lowers}

-- the two steps whose calls set registers
only_two : (P : HandlerStep → Type 0) (at : HandlerStep) → keeps_registers at ≡ false → P handler.Restoring →
    ((va error ip : ℕ) → P (handler.Touching va error ip)) → P at
only_two P handler.Restoring sets one other = one
only_two P (handler.Touching va error ip) sets one other = other va error ip
only_two P _ sets one other = absurd (let contradiction : true ≡ false = sets in cc)

-- ---- who goes on is there

module _ (s : KernelState) (n : ℕ) (live : is_live (slot_at s n) ≡ true) where
  registers_live : (k : KernelState) (regs : Regs) → is_live (slot_at k n) ≡ true → is_live (slot_at (with_registers k n regs) n) ≡ true
  registers_live k regs lives = ap (λ (x : Slot). is_live x) (slot_put k n (record (slot_at k n) { registers = regs })) ∙ lives

  restored_live : (done : Unit {0}) → (restore_frame s n).gives ≡ got done → is_live (slot_at (restore_frame s n).state n) ≡ true
  unfolding restore_frame
  restored_live done is = by_bytes (user_bytes s n (slot_at s n).registers.esp frame_size) is
    where
      by_handler : (fault : PageFault) (o : Option KernelState) → (faulting {X = Unit {0}} s n fault o).gives ≡ got done →
          is_live (slot_at (faulting {X = Unit {0}} s n fault o).state n) ≡ true
      by_handler fault (Some after) e = absurd (let contradiction : ◌≡◌ {A = Got (Unit {0})} to_handler (got done) = e in cc)
      by_handler fault None e = absurd (let contradiction : ◌≡◌ {A = Got (Unit {0})} gone (got done) = e in cc)

      by_bytes : (r : Result (List ℕ) PageFault) → (restored s n r).gives ≡ got done → is_live (slot_at (restored s n r).state n) ≡ true
      by_bytes (Ok bytes) e =
          registers_live (with_bytes_reached s n (slot_at s n).registers.esp frame_size) (from_frame (words_of_bytes bytes)) live
      by_bytes (Err fault) e = by_handler fault (handled s n fault) e

  abbrev LivesOn : HandlerStep → Type 0
  LivesOn at = (called : Called) → (performed s n (ask_of at)).gives ≡ got called → is_gone (next_of at (answer_of called)) ≡ false →
      is_live (slot_at (performed s n (ask_of at)).state n) ≡ true

  restoring_lives : LivesOn handler.Restoring
  unfolding performed
  restoring_lives called is stays = let w = told_gives (λ done. 0) called (restore_frame s n).gives is in restored_live w.0 w.1

  pub handler_lives : (at : HandlerStep) → LivesOn at
  handler_lives at = by_kind (keeps_registers at) refl
    where
      by_kind : (t : Bool) → keeps_registers at ≡ t → LivesOn at
      by_kind true keeps = λ called is stays. let left = call_left s n live at keeps called is in left.live
      by_kind false sets =
          only_two LivesOn at sets restoring_lives (λ va error ip called is stays. absurd (let contradiction : true ≡ false = stays in cc))

-- ---- what is left

-- the page into which it copies is no descriptor's
storing_apart : (index : ℕ) → is_word_beside (word_of_page PFTEMP index) ≡ true
storing_apart index =
    let small : index % PAGE_WORDS < 1024 = omega arith in
    by_place (index % PAGE_WORDS) small
  where
    by_place : (i : ℕ) → i < 1024 → is_word_beside (PFTEMP + 4 * i) ≡ true
    by_place i small = grind (arith, nat_tests)

-- Nor is the one of the fault that it raises again.
asks_plainly : (s : KernelState) (n : ℕ) (at : HandlerStep) → is_live (slot_at s n) ≡ true → place_of (slot_at s n) ≡ place.InHandler at →
    IsPlain s n (ask_of at)
asks_plainly s n handler.Entered live stands = plainly refl
asks_plainly s n (handler.ReadingError va) live stands = plainly refl
asks_plainly s n (handler.Looking va) live stands = plainly refl
asks_plainly s n (handler.Taking va) live stands = plainly refl
asks_plainly s n (handler.Loading va index) live stands = plainly refl
asks_plainly s n (handler.Storing va index word) live stands = plainly (storing_apart index)
asks_plainly s n (handler.MappingOver va) live stands = plainly refl
asks_plainly s n (handler.Unmapping va) live stands = plainly refl
asks_plainly s n handler.Restoring live stands = plainly refl
asks_plainly s n (handler.ReadingIp va error) live stands = plainly refl
asks_plainly s n (handler.Unsetting va error ip) live stands = plainly refl
asks_plainly s n (handler.Touching va error ip) live stands =
    touch_aside s n ip va (is_write error) (by_access (is_write error))
  where
    by_access : (write : Bool) → IsAsideAsk s (ask.Touch ip va write)
    by_access true = λ a h. touching_apart s n va error ip live stands h.1
    by_access false = tt

pub handler_leaves : (s : KernelState) (n : ℕ) (at : HandlerStep) → is_live (slot_at s n) ≡ true → place_of (slot_at s n) ≡ place.InHandler at →
    let did = upshot_by (handling at) n (performed s n (ask_of at)) (performed s n (ask_of at)).gives in Leaves (Ok did.progress) n s did.state
handler_leaves s n at live stands = known_leaves s n (handling at) (asks_plainly s n at live stands)

module _ (s : KernelState) (n : ℕ) (at : HandlerStep) (stands : place_of (slot_at s n) ≡ place.InHandler at) where
  pub handler_gives_up :
      let did = upshot_by (handling at) n (performed s n (ask_of at)) (performed s n (ask_of at)).gives in
      GivesUp (Ok did.progress) (slot_at s n) (slot_at did.state n)
  handler_gives_up =
      let did = upshot_by (handling at) n (performed s n (ask_of at)) (performed s n (ask_of at)).gives in
      gives_nothing_up (Ok did.progress) (slot_at s n) (slot_at did.state n) (ap is_pausing stands)

-- ---- less is left

module _ (s : KernelState) (n : ℕ) (live : is_live (slot_at s n) ≡ true) where
  abbrev waiting : KernelState → ℕ
  waiting k = copies_left (rows_of k.spaces (slot_at s n).directory)

  -- where the copy is mapped over it, the page waits no more
  mapping_less : (va : ℕ) → place_of (slot_at s n) ≡ place.InHandler (handler.MappingOver va) → (a : AbstractState) → Stands s a →
      waiting (performed s n (ask_of (handler.MappingOver va))).state < waiting s
  unfolding performed
  mapping_less va stands a h =
      let it = puts_over h.1 n va live stands in
      let over : Entry = record { frame = it.copy.frame; perm = copy_perm } in
      let less = put_copies_less s.spaces it.spaces (slot_at s n).directory (page_number va) (Some over)
      (inserted_entries s.spaces it.spaces (slot_at s n).directory (page_number va) over it.is) refl it.below it.waited in
      subst (λ (z : CallStep Called). waiting z.state < waiting s) (sym it.step) less

  strictly : (at : HandlerStep) → place_of (slot_at s n) ≡ place.InHandler at → (a : AbstractState) → Stands s a → is_mapping at ≡ true →
      waiting (performed s n (ask_of at)).state < waiting s
  strictly (handler.MappingOver va) stands a h maps = mapping_less va stands a h
  strictly _ stands a h maps = absurd (let contradiction : false ≡ true = maps in cc)

  abbrev LowersBy : HandlerStep → Got Called → Type 0
  LowersBy at g = let did = upshot_by (handling at) n (performed s n (ask_of at)) g in Lowers (Ok did.progress) n s did.state

  touching_lowers : (va error ip : ℕ) (g : Got Called) →
      ((a : AbstractState) → Stands s a → HasTurn s n → g ≡ to_handler → ⊥) → LowersBy (handler.Touching va error ip) g
  touching_lowers va error ip (got called) never = tt
  touching_lowers va error ip to_handler never = λ a h turn quiet. absurd (never a h turn refl)
  touching_lowers va error ip gone never = tt

  -- Its accesses are allowed wherever the state stands for an abstract one.
  never_faults : (at : HandlerStep) → keeps_registers at ≡ true → place_of (slot_at s n) ≡ place.InHandler at → NeverFaults s n (performed s n (ask_of at))
  unfolding performed
  never_faults handler.Entered keeps stands = entered_never s n live stands
  never_faults (handler.ReadingError va) keeps stands = reading_error_never s n va live stands
  never_faults (handler.Looking va) keeps stands = looking_never s n va live stands
  never_faults (handler.Taking va) keeps stands = system_never s n SYS_PAGE_ALLOC (0 ∷ PFTEMP ∷ copy_perm ∷ 0 ∷ 0 ∷ [])
  never_faults (handler.Loading va index) keeps stands =
      loading_never s n va index (step_is_there (slot_at s n) (handler.Loading va index) stands) live stands
  never_faults (handler.Storing va index word) keeps stands = storing_never s n va index word live stands
  never_faults (handler.MappingOver va) keeps stands = system_never s n SYS_PAGE_MAP (0 ∷ PFTEMP ∷ 0 ∷ page_start va ∷ copy_perm ∷ [])
  never_faults (handler.Unmapping va) keeps stands = system_never s n SYS_PAGE_UNMAP (0 ∷ PFTEMP ∷ 0 ∷ 0 ∷ 0 ∷ [])
  never_faults handler.Restoring keeps stands = absurd (let contradiction : false ≡ true = keeps in cc)
  never_faults (handler.ReadingIp va error) keeps stands = reading_ip_never s n va error live stands
  never_faults (handler.Unsetting va error ip) keeps stands = system_never s n SYS_ENV_SET_PGFAULT_UPCALL (0 ∷ 0 ∷ 0 ∷ 0 ∷ 0 ∷ [])
  never_faults (handler.Touching va error ip) keeps stands = absurd (let contradiction : false ≡ true = keeps in cc)

  pub handler_lowers : (at : HandlerStep) → place_of (slot_at s n) ≡ place.InHandler at → LowersBy at (performed s n (ask_of at)).gives
  handler_lowers at stands = by_kind (keeps_registers at) refl
    where
      going_on : keeps_registers at ≡ true → (called : Called) → (performed s n (ask_of at)).gives ≡ got called → LowersBy at (got called)
      going_on keeps called is =
          let left = call_left s n live at keeps called is in
          next_lowers s (performed s n (ask_of at)).state n at stands left (next_of at (answer_of called))
          (handler_falls at (step_is_there (slot_at s n) at stands) (answer_of called))
          (λ a h quiet. copies_fall at keeps (answer_of called) (waiting s) (waiting (performed s n (ask_of at)).state) left.copies (strictly at stands a h))

      by_got : keeps_registers at ≡ true → (g : Got Called) → (performed s n (ask_of at)).gives ≡ g → LowersBy at g
      by_got keeps (got called) is = going_on keeps called is
      by_got keeps to_handler is = λ a h turn quiet. absurd (never_faults at keeps stands a h turn is)
      by_got keeps gone is = tt

      by_kind : (t : Bool) → keeps_registers at ≡ t → LowersBy at (performed s n (ask_of at)).gives
      by_kind true keeps = by_got keeps (performed s n (ask_of at)).gives refl
      by_kind false sets =
          only_two (λ (x : HandlerStep). place_of (slot_at s n) ≡ place.InHandler x → LowersBy x (performed s n (ask_of x)).gives) at sets
          (restoring_lowers s n) (λ va error ip there. touching_lowers va error ip (performed s n (ask_of (handler.Touching va error ip))).gives
          (touching_never s n va error ip live there)) stands

-- ---- how many frames are taken

-- what is asked may take no more than a step may there, but where the copy is mapped over the page
asks_no_more : (at : HandlerStep) → is_mapping at ≡ false → frames_of (ask_of at) ≤ frames_at (place.InHandler at)
asks_no_more handler.Entered other = omega arith
asks_no_more (handler.ReadingError va) other = omega arith
asks_no_more (handler.Looking va) other = omega arith
asks_no_more (handler.Taking va) other = omega arith
asks_no_more (handler.Loading va index) other = omega arith
asks_no_more (handler.Storing va index word) other = omega arith
asks_no_more (handler.MappingOver va) other = absurd (let contradiction : true ≡ false = other in cc)
asks_no_more (handler.Unmapping va) other = omega arith
asks_no_more handler.Restoring other = omega arith
asks_no_more (handler.ReadingIp va error) other = omega arith
asks_no_more (handler.Unsetting va error ip) other = omega arith
asks_no_more (handler.Touching va error ip) other = omega arith

module _ (s : KernelState) (n : ℕ) (live : is_live (slot_at s n) ≡ true) where
  abbrev Takes : HandlerStep → Type 0
  Takes at = TakesByPlace n s (upshot_by (handling at) n (performed s n (ask_of at)) (performed s n (ask_of at)).gives).state

  plainly_takes : (at : HandlerStep) → is_mapping at ≡ false → place_of (slot_at s n) ≡ place.InHandler at → Takes at
  plainly_takes at other stands = asks_few s n (handling at) (place.InHandler at) stands (asks_no_more at other)

  -- the table of the page is there, so that none is taken
  mapping_takes : (va : ℕ) → place_of (slot_at s n) ≡ place.InHandler (handler.MappingOver va) → Takes (handler.MappingOver va)
  unfolding performed
  mapping_takes va stands =
      takes_at s n (handling (handler.MappingOver va)) (performed s n (ask_of (handler.MappingOver va)))
      (place.InHandler (handler.MappingOver va)) stands
      (λ a h. let it = puts_over h.1 n va live stands in
      subst (λ (z : CallStep Called). TakesAtMost 0 s.spaces z.state.spaces) (sym it.step) it.takes)

  pub handler_takes : (at : HandlerStep) → place_of (slot_at s n) ≡ place.InHandler at → Takes at
  handler_takes (handler.MappingOver va) stands = mapping_takes va stands
  handler_takes handler.Entered stands = plainly_takes handler.Entered refl stands
  handler_takes (handler.ReadingError va) stands = plainly_takes (handler.ReadingError va) refl stands
  handler_takes (handler.Looking va) stands = plainly_takes (handler.Looking va) refl stands
  handler_takes (handler.Taking va) stands = plainly_takes (handler.Taking va) refl stands
  handler_takes (handler.Loading va index) stands = plainly_takes (handler.Loading va index) refl stands
  handler_takes (handler.Storing va index word) stands = plainly_takes (handler.Storing va index word) refl stands
  handler_takes (handler.Unmapping va) stands = plainly_takes (handler.Unmapping va) refl stands
  handler_takes handler.Restoring stands = plainly_takes handler.Restoring refl stands
  handler_takes (handler.ReadingIp va error) stands = plainly_takes (handler.ReadingIp va error) refl stands
  handler_takes (handler.Unsetting va error ip) stands = plainly_takes (handler.Unsetting va error ip) refl stands
  handler_takes (handler.Touching va error ip) stands = plainly_takes (handler.Touching va error ip) refl stands
