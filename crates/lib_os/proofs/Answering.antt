-- After a service's answer the environment is back at its program, in both systems.
use Rattle.lib_os.proofs.PipesStand.{calm_places, calm_unmade, is_calm}
use Rattle.std.proofs.Common.{None, ◌≡◌, ◌∙◌, ℕ, true, false, refl, ap}
use Rattle.jos_base.specs.declared.registers.Regs.{Regs}
use Rattle.jos_base.specs.Environments.{no_extra}
use Rattle.jos_base.specs.KernelState.{KernelState, slot_at}
use Rattle.lib_os.specs.AbstractState.{AbstractState, Born, born, guest, at_guest}
use Rattle.lib_os.specs.Answers.{back_with}
use Rattle.lib_os.specs.LibrarySteps.{gone_back}
use Rattle.lib_os.specs.Rows.{Names}
use Rattle.lib_os.specs.StandsFor.{StandsFor, borne_in}
use Rattle.lib_os.specs.declared.place.Place.TheVariants as place
use Rattle.lib_os.specs.Places.{place_of, is_handlers}
use Rattle.lib_os.proofs.Logical.{is_plain, unborne_plain}
use Rattle.lib_os.proofs.Serving.{back_at_guest, holds_page, words_of_none, kept_where}
use Rattle.lib_os.proofs.WordsTell.{handler_runs}
use Rattle.lib_os.proofs.SlotsStand.{born_at}
use Rattle.lib_os.proofs.StatesStand.{slot_changed}

pub back_stands : {names : Names} {s : KernelState} {a : AbstractState} → StandsFor names s a → (n : ℕ) (b : Born) →
    a.slots n ≡ born b → (regs : Regs) → borne_in (place_of (slot_at s n)) ≡ None →
    holds_page (place_of (slot_at s n)) ≡ kept_where false → is_calm (place_of (slot_at s n)) ≡ true → (slot_at s n).rendezvous.receiving ≡ false →
    b.blocked ≡ false →
    is_handlers (slot_at s n).registers.esp ≡ false → regs.esp ≡ (slot_at s n).registers.esp →
    regs.eflags ≡ (slot_at s n).registers.eflags → StandsFor names (gone_back s n regs) (back_with a n b regs)
back_stands {s = s} h n b at regs unborne holds calm silent awake outside stack flags =
    let there : place_of (record (slot_at s n) { registers = regs; extra = no_extra }) ≡ place.Guest =
    words_of_none regs no_extra (ap is_handlers stack ∙ outside) refl in
    slot_changed h n b at (record (slot_at s n) { registers = regs; extra = no_extra })
    (record b { program = guest regs; phase = at_guest; blocked = false }) refl
    (record { id = refl; env_type = refl; turns = refl; calm = λ runs. runs })
    (unborne_plain (place_of (slot_at s n)) (handler_runs (slot_at s n).registers (slot_at s n).extra ∙ outside) unborne
    (calm_unmade (place_of (slot_at s n)) calm)) (ap is_plain there)
    (back_at_guest regs (born_at h n b at) holds calm silent awake outside stack flags)
    (calm_places calm (ap is_calm there)) (λ fd. refl)
