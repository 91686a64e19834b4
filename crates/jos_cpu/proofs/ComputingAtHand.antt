-- A row that computes, with its operand at hand.
use Rattle.std.proofs.Common.{◌≡◌, ℕ, true, false, None, refl, ap, sym, ◌∙◌}
use Rattle.jos_base.specs.declared.registers.Regs.{Regs}
use Rattle.jos_isa.specs.declared.instruction.Insn.{Insn}
use Rattle.jos_alu.specs.declared.width.Width.{Width}
use Rattle.jos_alu.specs.Registers.{advanced}
use Rattle.jos_cpu.specs.declared.forms.Act.{Act}
use Rattle.jos_cpu.specs.declared.forms.Site.{Site}
use Rattle.jos_cpu.specs.declared.forms.Form.TheVariants.{Compute}
use Rattle.jos_cpu.specs.declared.events.Event.TheVariants.{Next}
use Rattle.jos_cpu.specs.declared.events.Gates.{Gates}
use Rattle.jos_cpu.specs.declared.accesses.Usage.{Usage}
use Rattle.jos_cpu.specs.declared.accesses.Usage.TheVariants.{Reads, Writes, Changes}
use Rattle.jos_cpu.specs.declared.accesses.Accesses.{Accesses}
use Rattle.jos_cpu.specs.declared.accesses.Accesses.TheVariants as reach
use Rattle.jos_cpu.specs.declared.transfers.Inputs.{Inputs}
use Rattle.jos_cpu.specs.declared.transfers.Inputs.TheVariants.{Numbers}
use Rattle.jos_cpu.specs.Memory.{Memory, probed}
use Rattle.jos_cpu.specs.Forms.{form_of}
use Rattle.jos_cpu.specs.Accesses.{usage_of, used_operand, accesses_of, bytes_in_width, access_of, is_written}
use Rattle.jos_cpu.specs.Probes.{probes_of, probed_all}
use Rattle.jos_cpu.specs.Transfers.{inputs_of, number_for, writes_of, stored_all}
use Rattle.jos_cpu.specs.AtHand.{IsInputAt, IsPut}
use Rattle.jos_cpu.specs.Effects.{Done, compute_effect, form_effect}
use Rattle.jos_cpu.specs.Steps.{accesses, done_by, executed}

module _ {M : Type 0} (t : Memory M) (gates : Gates) (insn : Insn) (len : ℕ) (act : Act) (width : Width) (target left right : Site)
    (is : form_of insn.row ≡ Compute act width target left right) (old : Regs) (m : M) where
  executed_with : (a : Accesses) (inputs : Inputs) (d : Done) → accesses insn old ≡ a → probed_all t m (probes_of a) ≡ record { memory = m; refusal = None } →
      inputs_of t m a ≡ inputs → done_by insn len old inputs gates ≡ d →
      executed t insn len old m gates ≡ record { regs = d.registers; memory = stored_all t m (writes_of a old d.value); event = d.event }
  unfolding executed
  executed_with a inputs d e p i done = rw (e, p, e, i, done) refl

  reached_for : (a : Accesses) → used_operand (usage_of target left right) width insn.operand old ≡ a → accesses insn old ≡ a
  unfolding accesses accesses_of
  reached_for a e = rw is e

  done_for : (inputs : Inputs) (d : Done) → compute_effect act width target left right insn (advanced old len) inputs ≡ d → done_by insn len old inputs gates ≡ d
  unfolding done_by form_effect
  done_for inputs d done = rw is done

  pub without_access : {new : Regs} {value : ℕ} → used_operand (usage_of target left right) width insn.operand old ≡ reach.None →
      compute_effect act width target left right insn (advanced old len) (Numbers 0 0) ≡ record { registers = new; value = value; event = Next } →
      executed t insn len old m gates ≡ record { regs = new; memory = m; event = Next }
  unfolding probed_all inputs_of writes_of stored_all
  without_access e done = executed_with reach.None (Numbers 0 0) _ (reached_for _ e) refl refl (done_for _ _ done)

  -- an access to a number at hand, which is read, written or both
  pub with_access : (usage : Usage) (w : Width) (va input value : ℕ) (new : Regs) →
      used_operand (usage_of target left right) width insn.operand old ≡ reach.One (record { va = va; width = w; usage = usage }) →
      IsInputAt t m usage w va input → probed t m va (bytes_in_width w) (access_of usage) ≡ record { memory = m; refusal = None } →
      compute_effect act width target left right insn (advanced old len) (Numbers input 0) ≡ record { registers = new; value = value; event = Next } →
      executed t insn len old m gates ≡ record { regs = new; memory = stored_all t m (number_for (record { va = va; width = w; usage = usage }) value); event = Next }
  unfolding probed_all inputs_of writes_of
  with_access Reads w va input value new e hand reached done =
      executed_with _ (Numbers input 0) _ (reached_for _ e) (rw reached refl) (ap (λ n. Numbers n 0) hand.value_is) (done_for _ _ done)
  with_access Writes w va input value new e none reached done =
      executed_with _ (Numbers input 0) _ (reached_for _ e) (rw reached refl) (ap (λ n. Numbers n 0) (sym none)) (done_for _ _ done)
  with_access Changes w va input value new e hand reached done =
      executed_with _ (Numbers input 0) _ (reached_for _ e) (rw reached refl) (ap (λ n. Numbers n 0) hand.value_is) (done_for _ _ done)

  pub with_read : (usage : Usage) (w : Width) (va input value : ℕ) (new : Regs) →
      used_operand (usage_of target left right) width insn.operand old ≡ reach.One (record { va = va; width = w; usage = usage }) →
      is_written usage ≡ false → IsInputAt t m usage w va input →
      compute_effect act width target left right insn (advanced old len) (Numbers input 0) ≡ record { registers = new; value = value; event = Next } →
      executed t insn len old m gates ≡ record { regs = new; memory = m; event = Next }
  unfolding stored_all
  with_read Reads w va input value new e unwritten hand done = with_access Reads w va input value new e hand hand.reached done
  with_read Writes w va input value new e unwritten hand done = absurd cc
  with_read Changes w va input value new e unwritten hand done = absurd cc

  pub with_write : (usage : Usage) (w : Width) (va input value : ℕ) (new : Regs) (next : M) →
      used_operand (usage_of target left right) width insn.operand old ≡ reach.One (record { va = va; width = w; usage = usage }) →
      is_written usage ≡ true → IsInputAt t m usage w va input →
      compute_effect act width target left right insn (advanced old len) (Numbers input 0) ≡ record { registers = new; value = value; event = Next } →
      IsPut t m w va value next →
      executed t insn len old m gates ≡ record { regs = new; memory = next; event = Next }
  unfolding stored_all
  with_write Reads w va input value new next e written hand done put = absurd cc
  with_write Writes w va input value new next e written none done put =
      with_access Writes w va input value new e none put.reached done ∙ (λ i. record { regs = new; memory = sym put.stored i; event = Next })
  with_write Changes w va input value new next e written hand done put =
      with_access Changes w va input value new e hand put.reached done ∙ (λ i. record { regs = new; memory = sym put.stored i; event = Next })
