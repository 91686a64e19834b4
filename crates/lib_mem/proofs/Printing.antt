-- cputs: all bytes are printed, or the environment is gone.
use Rattle.std.proofs.Common.{◌≡◌, ◌∙◌, ◌≤◌, ℕ, true, false, List, ◌∷◌, ◌++◌, Some, Result, Ok, Err, refl, sym, ap, arith}
use Rattle.std.specs.Prelude.{nat_lt}
use Rattle.std.proofs.lemmas.Bool.Decides.{nat_tests}
use Rattle.jos_base.specs.declared.called.Called.{Called}
use Rattle.jos_base.specs.declared.line.Line.TheVariants.{UserMemCheck}
use Rattle.jos_base.specs.declared.memory.PageFault.{PageFault}
use Rattle.jos_base.specs.declared.numbers.TheConstants.{SYS_CPUTS, CPUTS_MAX}
use Rattle.jos_base.specs.declared.registers.Regs.{Regs}
use Rattle.jos_base.specs.Environments.{is_live}
use Rattle.jos_base.specs.KernelState.{KernelState, slot_at}
use Rattle.jos_base.specs.Lines.{line_text}
use Rattle.jos_base.specs.Reach.{bytes_read}
use Rattle.jos_base.specs.SystemCalls.{user_bytes, with_bytes_reached, without_environment}
use Rattle.jos_base.proofs.Uses.{directory_is}
use Rattle.lib_os.specs.declared.place.Place.TheVariants as place
use Rattle.lib_os.specs.declared.place.Step.{Step}
use Rattle.lib_os.specs.declared.service.Service.TheVariants as service
use Rattle.lib_os.specs.AbstractState.{AbstractState, Born, entered}
use Rattle.lib_os.specs.Fence.{is_buffer}
use Rattle.lib_os.specs.LibraryCall.{library_step}
use Rattle.lib_os.specs.LibrarySteps.{service_answered}
use Rattle.lib_os.specs.MemoryServices.{byte_or_fault, printed}
use Rattle.lib_os.specs.Places.{place_of}
use Rattle.lib_os.specs.Rows.{Names}
use Rattle.lib_os.specs.StandsFor.{StandsFor}
use Rattle.lib_os.specs.UserCalls.{system, CallStep}
use Rattle.lib_os.proofs.BytesRead.{buffer_reads}
use Rattle.lib_os.proofs.EndsStand.{ended_stands}
use Rattle.lib_os.proofs.Removing.{destroyed_gone}
use Rattle.lib_os.proofs.StatesStand.{quiet_stands, printed_stands}
use Rattle.lib_os.proofs.Touching.{all_touched_quiet}
use Rattle.lib_mem.specs.declared.services.MemoryService.TheVariants as memory
use Rattle.lib_mem.proofs.Passing.{IsHere, here, Leads, answer_stands}

-- ---- its step in the abstract system

cputs_step : (a : AbstractState) (n : ℕ) (b : Born) (regs : Regs) (va len : ℕ) → len ≤ CPUTS_MAX → is_buffer va len ≡ true →
    library_step a n b regs (service.Cputs va len) entered ≡ Some (printed a n b regs (bytes_read (byte_or_fault a b) va len))
unfolding library_step
cputs_step a n b regs va len few buffer =
    let test : nat_lt CPUTS_MAX len ≡ false = grind (arith, nat_tests) in rw (test, buffer) refl

-- ---- its step

module _ (s : KernelState) (n va len : ℕ) (step : Step) (rest : List ℕ) (live : is_live (slot_at s n) ≡ true)
    (at : place_of (slot_at s n) ≡ place.InService (service.Cputs va len) step)
    (few : len ≤ CPUTS_MAX) (buffer : is_buffer va len ≡ true) where
  abbrev pub asked : CallStep Called
  asked = system s n SYS_CPUTS (va ∷ len ∷ rest)

  abbrev read : Result (List ℕ) PageFault
  read = user_bytes s n va len

  -- the abstract step reads what the kernel reads
  goes : {names : Names} {a : AbstractState} → StandsFor names s a → (i : IsHere names s a n (service.Cputs va len)) →
      library_step a n i.b (slot_at s n).registers (service.Cputs va len) entered ≡ Some (printed a n i.b (slot_at s n).registers read)
  goes {names = names} {a = a} h i =
      cputs_step a n i.b (slot_at s n).registers va len few buffer
      ∙ ap (λ (r : Result (List ℕ) PageFault). Some (printed a n i.b (slot_at s n).registers r))
      (sym (buffer_reads names s a n i.b h i.is va len buffer))

  -- where all can be read
  module _ (bytes : List ℕ) (is : read ≡ Ok bytes) where
    pub bytes_leads : (names : Names) (a : AbstractState) → StandsFor names s a →
        Leads s n bytes (with_bytes_reached s n va len) (service_answered (with_bytes_reached s n va len) n 0) a
    bytes_leads names a h =
        let i = here h n (memory.Cputs va len) step at in
        let regs = (slot_at s n).registers in (
          printed a n i.b regs (Ok bytes),
          i.goes ∙ goes h i ∙ ap (λ (r : Result (List ℕ) PageFault). Some (printed a n i.b regs r)) is,
          refl,
          λ in_order last quiet. (
            names,
            answer_stands (printed_stands (quiet_stands h (all_touched_quiet s.spaces (slot_at s n).directory va len) in_order) bytes)
                n i.b i.is i.unborne i.holds i.calm i.at.silent i.at.awake i.outside 0,
          ),
        )

  -- where a byte can't
  module _ (fault : PageFault) (is : read ≡ Err fault) where
    abbrev pub line : List ℕ
    line = line_text (slot_at s n).id (UserMemCheck fault.va)

    pub fault_leads : (names : Names) (a : AbstractState) → StandsFor names s a →
        Leads s n line (without_environment s n) (without_environment s n) a
    fault_leads names a h =
        let i = here h n (memory.Cputs va len) step at in
        let regs = (slot_at s n).registers in
        let same : line_text i.b.id (UserMemCheck fault.va) ≡ line = ap (λ (id : ℕ). line_text id (UserMemCheck fault.va)) (sym i.own.id) in (
          printed a n i.b regs (Err fault),
          i.goes ∙ goes h i ∙ ap (λ (r : Result (List ℕ) PageFault). Some (printed a n i.b regs r)) is,
          ap (λ (l : List ℕ). a.console ++ l) same,
          λ in_order last quiet. (
            names,
            printed_stands (ended_stands h n i.b i.is i.unborne i.calm last
                (destroyed_gone s.spaces (slot_at s n).directory h.in_order.frames
                (directory_is (s.spaces.uses (slot_at s n).directory) (h.in_order.spaces.in_use n live))) in_order)
                (line_text i.b.id (UserMemCheck fault.va)),
          ),
        )
