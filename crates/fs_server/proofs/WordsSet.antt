-- The registers and words that are set are those with which the server goes on.
use Rattle.std.proofs.Common.{◌≡◌, ◌∙◌, ℕ, List}
use Rattle.jos_base.specs.declared.registers.Regs.{Regs}
use Rattle.jos_base.specs.KernelState.{KernelState, slot_at, with_extra, with_registers}
use Rattle.fs_requests.specs.declared.plan.ServerNext.{ServerNext}
use Rattle.fs_requests.specs.ServerWords.{registers_with, words_with}
use Rattle.fs_server.specs.ServerSteps.{gone_on, registers_begun, words_begun}

pub words_set : (s : KernelState) (n : ℕ) (next : ServerNext) (regs : Regs) (words : List ℕ) (server : Regs) (kept : List ℕ) (begun : Regs) (behind : List ℕ) →
    regs ≡ (slot_at s n).registers → words ≡ (slot_at s n).extra → server ≡ registers_with regs next.state → kept ≡ words_with words next.state →
    begun ≡ registers_begun next.begins server → behind ≡ words_begun next.begins kept →
    (mid : KernelState) (slot : ℕ) (after : KernelState) → mid ≡ with_registers s n begun → slot ≡ n → after ≡ with_extra mid slot behind → after ≡ gone_on s n next
unfolding gone_on
words_set s n next regs words server kept begun behind regs_are words_are server_is kept_is begun_is behind_is mid slot after mid_is slot_is after_is =
    after_is ∙ (λ i. with_extra (mid_is i) (slot_is i) behind)
    ∙ (λ i. with_extra (with_registers s n (begun_is i)) n (behind_is i))
    ∙ (λ i. with_extra (with_registers s n (registers_begun next.begins (server_is i))) n (words_begun next.begins (kept_is i)))
    ∙ (λ i. with_extra (with_registers s n (registers_begun next.begins (registers_with (regs_are i) next.state))) n
    (words_begun next.begins (words_with (words_are i) next.state)))
