-- At each hidden step of the handler less is left of what its environment may do before something is seen.
use Rattle.std.proofs.Common.{inl, ◌≡◌, ◌∙◌, ◌<◌, ◌≤◌, ◌+◌, ◌-◌, ◌*◌, ◌==◌, ℕ, Bool, true, false, not, Ok, refl, sym, ap, arith, if◌then◌else◌}
use Rattle.std.specs.Prelude.{nat_lt}
use Rattle.jos_base.specs.declared.registers.Regs.{Regs}
use Rattle.jos_base.specs.Environments.{Slot}
use Rattle.jos_base.specs.KernelState.{KernelState, slot_at, with_registers}
use Rattle.lib_os.specs.declared.numbers.TheConstants.{PAGE_WORDS, SERVICES}
use Rattle.lib_os.specs.declared.place.HandlerStep.{HandlerStep}
use Rattle.lib_os.specs.declared.place.HandlerStep.TheVariants as handler
use Rattle.lib_os.specs.declared.place.Place.{Place}
use Rattle.lib_os.specs.declared.place.Place.TheVariants as place
use Rattle.lib_os.specs.AbstractState.{AbstractState}
use Rattle.lib_os.specs.LibrarySteps.{Stands, NothingRefused, Lowers, copies_left, copy_steps, handler_steps_left, hidden_left, left_at, other_copies}
use Rattle.lib_os.specs.Places.{place_of, is_handlers, handler_registers}
use Rattle.lib_os.specs.Rows.{rows_of}
use Rattle.lib_os.specs.StandingLaws.{IsHandlerStep}
use Rattle.lib_os.proofs.Slots.{slot_put}
use Rattle.lib_os.proofs.WordsTell.{handler_at, handler_runs, is_in_handler}
use Rattle.lib_stage.specs.declared.ask.Next.{Next}
use Rattle.lib_stage.specs.declared.ask.Next.TheVariants as next
use Rattle.lib_stage.specs.Nexts.{settled, seen_as}
use Rattle.lib_fault.specs.HandlerStages.{next_of, refused_write, waits_to_be_copied}
use Rattle.lib_fault.proofs.CallsLeave.{IsLeft, keeps_registers}
use Rattle.lib_fault.proofs.Falling.{HandlerFalls}

-- ---- how many pages wait beside the one that is copied

-- the step at which a page waits no more
abbrev pub is_mapping : HandlerStep → Bool
is_mapping (handler.MappingOver va) = true
is_mapping _ = false

-- No more pages wait at the step that is gone on at.
abbrev pub CopiesFall : HandlerStep → ℕ → ℕ → Next → Type 0
CopiesFall from before after (next.Handle to) = other_copies to after ≤ other_copies from before
CopiesFall from before after next.Gone = Unit {0}
CopiesFall from before after _ = ⊥

less_one : (before after : ℕ) → after ≤ before → after - 1 ≤ before - 1
less_one before after no_more = omega (arith, no_more)

pub copies_fall : (from : HandlerStep) → keeps_registers from ≡ true → (word before after : ℕ) → after ≤ before →
    (is_mapping from ≡ true → after < before) → CopiesFall from before after (next_of from word)
copies_fall handler.Entered keeps word before after no_more less = less_one before after no_more
copies_fall (handler.ReadingError va) keeps word before after no_more less = by_test (not (word == refused_write))
  where
    by_test : (t : Bool) →
        CopiesFall (handler.ReadingError va) before after (if t then next.Handle (handler.ReadingIp va word) else next.Handle (handler.Looking va))
    by_test true = less_one before after no_more
    by_test false = less_one before after no_more
copies_fall (handler.Looking va) keeps word before after no_more less = by_test (not (waits_to_be_copied word))
  where
    by_test : (t : Bool) →
        CopiesFall (handler.Looking va) before after (if t then next.Handle (handler.ReadingIp va refused_write) else next.Handle (handler.Taking va))
    by_test true = less_one before after no_more
    by_test false = less_one before after no_more
copies_fall (handler.Taking va) keeps word before after no_more less = by_test (not (word == 0))
  where
    by_test : (t : Bool) →
        CopiesFall (handler.Taking va) before after (if t then next.Handle (handler.ReadingIp va refused_write) else next.Handle (handler.Loading va 0))
    by_test true = less_one before after no_more
    by_test false = less_one before after no_more
copies_fall (handler.Loading va index) keeps word before after no_more less = less_one before after no_more
copies_fall (handler.Storing va index stored) keeps word before after no_more less = by_test (nat_lt index (PAGE_WORDS - 1))
  where
    by_test : (t : Bool) →
        CopiesFall (handler.Storing va index stored) before after (if t then next.Handle (handler.Loading va (index + 1)) else next.Handle (handler.MappingOver va))
    by_test true = less_one before after no_more
    by_test false = less_one before after no_more
copies_fall (handler.MappingOver va) keeps word before after no_more less = let fewer = less refl in omega (arith, fewer)
copies_fall (handler.Unmapping va) keeps word before after no_more less = no_more
copies_fall handler.Restoring keeps word before after no_more less = absurd (let contradiction : false ≡ true = keeps in cc)
copies_fall (handler.ReadingIp va error) keeps word before after no_more less = less_one before after no_more
copies_fall (handler.Unsetting va error ip) keeps word before after no_more less = less_one before after no_more
copies_fall (handler.Touching va error ip) keeps word before after no_more less = tt

-- ---- where the handler goes on

module _ (s mid : KernelState) (n : ℕ) (from : HandlerStep) (stands : place_of (slot_at s n) ≡ place.InHandler from) (left : IsLeft s n mid) where
  abbrev own : ℕ
  own = (slot_at s n).directory

  abbrev before : ℕ
  before = copies_left (rows_of s.spaces own)

  abbrev after : ℕ
  after = copies_left (rows_of mid.spaces own)

  abbrev gone_to : HandlerStep → KernelState
  gone_to to = with_registers mid n (handler_registers (slot_at mid n).registers to)

  slot_there : (to : HandlerStep) →
      slot_at (gone_to to) n ≡ record (slot_at mid n) { registers = handler_registers (slot_at mid n).registers to }
  slot_there to = slot_put mid n (record (slot_at mid n) { registers = handler_registers (slot_at mid n).registers to })

  inside : is_handlers (slot_at mid n).registers.esp ≡ true
  inside =
      ap (λ (r : Regs). is_handlers r.esp) left.registers
      ∙ sym (handler_runs (slot_at s n).registers (slot_at s n).extra)
      ∙ ap is_in_handler stands

  place_there : (to : HandlerStep) → IsHandlerStep to → place_of (slot_at (gone_to to) n) ≡ place.InHandler to
  place_there to there =
      ap (λ (k : Slot). place_of k) (slot_there to) ∙ handler_at (slot_at mid n).registers (slot_at mid n).extra to inside there

  left_there : (to : HandlerStep) → IsHandlerStep to → hidden_left (gone_to to) n ≡ handler_steps_left to + copy_steps * other_copies to after
  left_there to there =
      λ i. left_at (place_there to there i)
      (copies_left (rows_of mid.spaces ((ap (λ (k : Slot). k.directory) (slot_there to) ∙ left.directory) i)))

  left_here : hidden_left s n ≡ handler_steps_left from + copy_steps * other_copies from before
  left_here = ap (λ (p : Place). left_at p before) stands

  less_there : (to : HandlerStep) → IsHandlerStep to → handler_steps_left to < handler_steps_left from →
      other_copies to after ≤ other_copies from before → hidden_left (gone_to to) n < hidden_left s n
  less_there to there falls no_more =
      let here = left_here in
      let gone_on = left_there to there in
      by_numbers (handler_steps_left to) (handler_steps_left from) (other_copies to after) (other_copies from before) falls no_more
      (hidden_left (gone_to to) n) (hidden_left s n) gone_on here
    where
      by_numbers : (less more fewer copies : ℕ) → less < more → fewer ≤ copies → (x y : ℕ) → x ≡ less + copy_steps * fewer →
          y ≡ more + copy_steps * copies → x < y
      by_numbers less more fewer copies falls no_more x y one other = omega (arith, falls, no_more, one, other)

  -- a step that goes on lowers the number
  pub next_lowers : (x : Next) → HandlerFalls from x →
      ((a : AbstractState) → Stands s a → NothingRefused s (settled SERVICES x mid n) → CopiesFall from before after x) →
      Lowers (Ok (seen_as x)) n s (settled SERVICES x mid n)
  next_lowers (next.Answer word) falls copies = tt
  next_lowers (next.Answers eax edx ecx ebx) falls copies = tt
  next_lowers (next.AnswersEnds reading writing) falls copies = tt
  next_lowers (next.GoOn to) falls copies = absurd falls
  next_lowers (next.GoBack word) falls copies = absurd falls
  next_lowers (next.Show to) falls copies = tt
  next_lowers (next.Wait to) falls copies = absurd falls
  next_lowers (next.Handle to) falls copies = λ a h turn quiet. inl (less_there to falls.1 falls.0 (copies a h quiet))
  next_lowers next.Leave falls copies = λ a h turn quiet. absurd (copies a h quiet)
  next_lowers next.Gone falls copies = tt
