-- The way to the end: the handler sets that its environment handles no more page faults, and raises the fault again as at the instruction
-- that raised it, so that the kernel ends it with the line of that fault.
use Rattle.std.proofs.Common.{◌≡◌, ◌∙◌, ◌++◌, ℕ, Bool, true, false, List, [], ◌∷◌, Some, refl, sym, ap, subst}
use Rattle.jos_base.specs.declared.called.Called.{Called}
use Rattle.jos_base.specs.declared.called.Called.TheVariants.{Answered}
use Rattle.jos_base.specs.declared.line.Line.TheVariants.{UserFault}
use Rattle.jos_base.specs.declared.memory.Access.TheVariants.{Read, Write}
use Rattle.jos_base.specs.declared.registers.Regs.{Regs}
use Rattle.jos_base.specs.Environments.{Slot, is_live}
use Rattle.jos_base.specs.KernelState.{KernelState, slot_at, with_upcall}
use Rattle.jos_base.specs.Lines.{line_text}
use Rattle.jos_base.specs.Reach.{Entry}
use Rattle.jos_base.specs.SystemCalls.{without_environment}
use Rattle.jos_base.specs.Words.{page_number}
use Rattle.lib_os.specs.declared.place.HandlerStep.{HandlerStep}
use Rattle.lib_os.specs.declared.place.HandlerStep.TheVariants as handler
use Rattle.lib_os.specs.declared.place.Place.TheVariants as place
use Rattle.lib_os.specs.AbstractRun.{abs_step}
use Rattle.lib_os.specs.AbstractState.{AbstractState}
use Rattle.lib_os.specs.GuestStep.{ends_with}
use Rattle.lib_os.specs.InOrder.{IsInOrder}
use Rattle.lib_os.specs.LibrarySteps.{GoesOn}
use Rattle.lib_os.specs.Places.{place_of}
use Rattle.lib_os.specs.Rows.{Names, is_of_descriptor, rows_of}
use Rattle.lib_os.specs.StandsFor.{StandsFor, view_of, upcall_at, borne_in}
use Rattle.lib_os.specs.StandsInHandler.{CopiesOrEnds, copies, ends, Ends, is_write}
use Rattle.lib_os.specs.UserCalls.{CallStep, Got, gone, to_handler, giving, load_byte, store_byte, user_byte, with_user_byte}
use Rattle.lib_os.proofs.BytesRead.{users_inside}
use Rattle.lib_os.proofs.FaultEnds.{IsRefused, access_of, access_refused, ended_by, ended_set, refused_ends, same_line, fault_ended}
use Rattle.lib_os.proofs.Fences.{inside_number}
use Rattle.lib_os.proofs.Handled.{IsHandled, handled_part}
use Rattle.lib_os.proofs.Logical.{inside_programs, is_plain, programs_no_descriptor}
use Rattle.lib_os.proofs.PipesStand.{is_calm}
use Rattle.lib_os.proofs.Slots.{slot_put}
use Rattle.lib_os.proofs.StopsEnd.{stopped_step}
use Rattle.lib_os.proofs.UpcallSet.{upcall_unset_is, unset_stands}
use Rattle.lib_stage.specs.Asks.{at_instruction, performed, told_as, touching}
use Rattle.lib_stage.proofs.Laws.{FailsBy, FollowsBy, KeepsBy, NeverFaults}
use Rattle.lib_fault.specs.HandlerStages.{ask_of, handling}

module _ (s : KernelState) (n va error ip : ℕ) (live : is_live (slot_at s n) ≡ true) where
  -- ---- no handler

  abbrev unsetting : HandlerStep
  unsetting = handler.Unsetting va error ip

  module _ (stands : place_of (slot_at s n) ≡ place.InHandler unsetting) where
    unset_is : performed s n (ask_of unsetting) ≡ giving (with_upcall s n 0) (Answered 0)
    unfolding performed
    unset_is = upcall_unset_is s n live (0 ∷ 0 ∷ 0 ∷ [])

    ends_there : {names : Names} {a : AbstractState} (v : IsHandled names s a n unsetting) →
        Ends unsetting (view_of s.spaces (slot_at s n).directory) (slot_at s n) v.b v.at.fault v.at.regs
    ends_there v = by_way v.at.way
      where
        by_way : CopiesOrEnds unsetting (view_of s.spaces (slot_at s n).directory) (slot_at s n) v.b v.at.fault v.at.regs →
            Ends unsetting (view_of s.spaces (slot_at s n).directory) (slot_at s n) v.b v.at.fault v.at.regs
        by_way (copies way) = absurd way.at
        by_way (ends way) = way

    unset_keeps : KeepsBy s n (handling unsetting) (giving (with_upcall s n 0) (Answered 0))
    unset_keeps a h turn quiet =
        let v = handled_part h.1 n unsetting stands in
        (refl, (h.0, unset_stands h.1 n va error ip v stands (ends_there v)))

    pub unsetting_keeps : IsInOrder (performed s n (ask_of unsetting)).state → KeepsBy s n (handling unsetting) (performed s n (ask_of unsetting))
    unsetting_keeps order = subst (λ (z : CallStep Called). KeepsBy s n (handling unsetting) z) (sym unset_is) unset_keeps

    -- nothing is printed by it
    pub unsetting_fails : FailsBy s n (handling unsetting) (performed s n (ask_of unsetting))
    unsetting_fails may a h turn = absurd (let contradiction : false ≡ true = may.0 in cc)

  -- ---- the fault, once more

  abbrev touching_again : HandlerStep
  touching_again = handler.Touching va error ip

  -- the state at the instruction
  abbrev raised : KernelState
  raised = at_instruction s n ip

  abbrev regs_there : Regs
  regs_there = record (slot_at s n).registers { eip = ip }

  slot_there : slot_at raised n ≡ record (slot_at s n) { registers = regs_there }
  slot_there = slot_put s n (record (slot_at s n) { registers = regs_there })

  touch_is : (write : Bool) → (slot_at s n).upcall ≡ 0 → IsRefused s.spaces (slot_at s n).directory va (access_of write) →
      touching raised n va write ≡ ended_by s n va ip
  unfolding store_byte load_byte
  touch_is write none refused =
      by_kind write (subst (λ (k : Slot). IsRefused s.spaces k.directory va (access_of write)) (sym slot_there) refused)
    where
      no_handler : (slot_at raised n).upcall ≡ 0
      no_handler = ap (λ (k : Slot). k.upcall) slot_there ∙ none

      by_kind : (w : Bool) → IsRefused raised.spaces (slot_at raised n).directory va (access_of w) → touching raised n va w ≡ ended_by s n va ip
      by_kind true is =
          ap (λ (z : CallStep (Unit {0})). told_as (λ done. 0) z)
          (refused_ends raised n va Write (λ after. giving (with_user_byte after n va 0) tt) no_handler is ∙ ended_set s n regs_there va)
      by_kind false is =
          ap (λ (z : CallStep ℕ). told_as (λ byte. byte) z)
          (refused_ends raised n va Read (λ after. giving after (user_byte after n va)) no_handler is ∙ ended_set s n regs_there va)

  module _ (stands : place_of (slot_at s n) ≡ place.InHandler touching_again) where
    abbrev pub line : List ℕ
    line = line_text (slot_at s n).id (UserFault va ip)

    -- wherever the state stands for an abstract one
    module _ {names : Names} {a : AbstractState} (h : StandsFor names s a) where
      v : IsHandled names s a n touching_again
      v = handled_part h n touching_again stands

      way : Ends touching_again (view_of s.spaces (slot_at s n).directory) (slot_at s n) v.b v.at.fault v.at.regs
      way = by_way v.at.way
        where
          by_way : CopiesOrEnds touching_again (view_of s.spaces (slot_at s n).directory) (slot_at s n) v.b v.at.fault v.at.regs →
              Ends touching_again (view_of s.spaces (slot_at s n).directory) (slot_at s n) v.b v.at.fault v.at.regs
          by_way (copies way) = absurd way.at
          by_way (ends way) = way

      -- it is refused, and no handler is set
      refused_here : IsRefused s.spaces (slot_at s n).directory va (access_of (is_write error))
      refused_here =
          let inside = way.inside in
          let row = rows_of s.spaces (slot_at s n).directory in
          let users = λ (x : Entry) (there : row (page_number v.at.fault.va) ≡ Some x).
          users_inside names s a n v.b h v.is (page_number v.at.fault.va) x (inside_programs v.at.fault.va inside) there in
          let it =
          access_refused s.spaces (slot_at s n).directory v.at.fault.va (inside_number v.at.fault.va inside) users
          (is_write v.at.fault.error) way.refused in
          subst (λ (code : ℕ). IsRefused s.spaces (slot_at s n).directory va (access_of (is_write code))) (sym way.at.1)
          (subst (λ (at : ℕ). IsRefused s.spaces (slot_at s n).directory at (access_of (is_write v.at.fault.error))) (sym way.at.0) it)

      -- in no page of a descriptor's
      pub touching_apart : is_of_descriptor (page_number va) ≡ false
      touching_apart =
          ap (λ (at : ℕ). is_of_descriptor (page_number at)) way.at.0
          ∙ programs_no_descriptor (page_number v.at.fault.va) (inside_programs v.at.fault.va way.inside)

      no_handler : (slot_at s n).upcall ≡ 0
      no_handler = v.own.upcall ∙ ap upcall_at stands

      goes_there : performed s n (ask_of touching_again) ≡ ended_by s n va ip
      unfolding performed
      goes_there = touch_is (is_write error) no_handler refused_here

      -- the environment ends by that fault, as its program, or as a service before its access
      abbrev ended : AbstractState
      ended = ends_with a n v.b (UserFault v.at.fault.va v.at.regs.eip)

      ends_by : abs_step a n ≡ Some ended
      ends_by =
          stopped_step h n v.b v.is (ap is_plain stands) (ap is_calm stands) (is_write v.at.fault.error) v.at.fault.va v.at.regs way.eax way.program way.awake way.inside way.refused
          way.stopped

      -- with the line that the kernel writes
      written : ended.console ≡ a.console ++ line
      written =
          ap (λ (l : List ℕ). a.console ++ l) (sym (same_line h n v.b v.is v.at.fault.va v.at.regs.eip))
          ∙ (λ i. a.console ++ line_text (slot_at s n).id (UserFault (sym way.at.0 i) (sym way.at.2 i)))

      gone_there : IsInOrder (without_environment s n) → s.last ≡ Some n → GoesOn n (without_environment s n) a line
      gone_there order last = (ended, ends_by, written, (names, fault_ended h n v.b v.is (ap borne_in stands) (ap is_calm stands) last v.at.fault.va v.at.regs.eip order))

    pub touching_keeps : IsInOrder (performed s n (ask_of touching_again)).state →
        KeepsBy s n (handling touching_again) (performed s n (ask_of touching_again))
    touching_keeps order a h turn quiet =
        let is = goes_there h.1 in
        subst (λ (z : CallStep Called). FollowsBy s n (handling touching_again) a z) (sym is)
        (gone_there h.1 (subst (λ (z : CallStep Called). IsInOrder z.state) is order) turn.last)

    -- it is gone, and not in its handler
    pub touching_never : NeverFaults s n (performed s n (ask_of touching_again))
    touching_never a h turn faults =
        let given : to_handler ≡ gone = sym faults ∙ ap (λ (z : CallStep Called). z.gives) (goes_there h.1) in
        let contradiction : ◌≡◌ {A = Got Called} to_handler gone = given in cc

    -- where the host failed, the line is what the end prints
    pub touching_fails : FailsBy s n (handling touching_again) (performed s n (ask_of touching_again))
    touching_fails may a h turn =
        subst (λ (z : CallStep Called). (b : AbstractState) × (abs_step a n ≡ Some b) × (b.console ≡ a.console ++ z.written)) (sym (goes_there h.1))
        (ended h.1, ends_by h.1, written h.1)
