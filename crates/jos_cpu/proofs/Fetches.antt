-- One turn of the loop that fetches an instruction, for each way in which it goes.
use Rattle.std.proofs.Common.{◌≡◌, ℕ, ◌+◌, ◌-◌, ◌<◌, ◌≤◌, ◌%◌, ◌^◌, suc, List, [], ◌∷◌, ◌++◌, length, Result, Ok, Err}
use Rattle.std.proofs.Common.{ap, sym, subst, ◌∙◌, arith, length-append}
use Rattle.jos_isa.specs.declared.instruction.Insn.{Insn}
use Rattle.jos_isa.specs.declared.decoder.Decoded.TheVariants.{Found, Short, Illegal}
use Rattle.jos_isa.specs.Decoding.{decoded}
use Rattle.jos_isa.specs.Lengths.{AreShortBelow}
use Rattle.jos_cpu.specs.declared.memory.MemFault.{MemFault}
use Rattle.jos_cpu.specs.declared.fetching.Fetched.TheVariants.{Instruction, Fault, Unknown}
use Rattle.jos_cpu.specs.Memory.{Memory}
use Rattle.jos_cpu.specs.Fetch.{FetchedFrom, byte_reached, on_byte, fetched_from}

-- so many bytes are read, what is fetched with them is what is fetched in all, and fewer than the least are short
pub record IsFetching {M : Type 0} (t : Memory M) (ip : ℕ) (whole : FetchedFrom M) (offset : ℕ) (m : M) (bytes : List ℕ) (least : ℕ) : Type 0 where
  pub count : length bytes ≡ offset
  pub rest : fetched_from t ip (15 - offset) m bytes ≡ whole
  pub short : AreShortBelow least bytes

module _ {M : Type 0} {t : Memory M} {ip : ℕ} {whole : FetchedFrom M} {offset : ℕ} {m : M} {bytes : List ℕ} {least : ℕ} where
  -- what the next byte decides
  on_next : {next : M} {read : Result ℕ MemFault} → IsFetching t ip whole offset m bytes least → offset < 15 →
      byte_reached t m ((ip + offset) % 2 ^ 32) ≡ record { memory = next; byte = read } →
      on_byte read next bytes (λ longer. fetched_from t ip (15 - (offset + 1)) next longer) ≡ whole
  unfolding fetched_from
  on_next h below reached =
      let e : 15 - offset ≡ suc (15 - (offset + 1)) = omega arith in
      let unrolled : fetched_from t ip (suc (15 - (offset + 1))) m bytes ≡ whole = rw e at h.rest in
      rw (h.count, reached) at unrolled

  pub on_fault : {fault : MemFault} {next : M} → IsFetching t ip whole offset m bytes least → offset < 15 →
      byte_reached t m ((ip + offset) % 2 ^ 32) ≡ record { memory = next; byte = Err fault } →
      whole ≡ record { memory = next; fetched = Fault fault }
  on_fault h below reached = sym (on_next h below reached)

  pub on_found : {byte len : ℕ} {insn : Insn} {longer : List ℕ} {next : M} → IsFetching t ip whole offset m bytes least → offset < 15 →
      byte_reached t m ((ip + offset) % 2 ^ 32) ≡ record { memory = next; byte = Ok byte } →
      longer ≡ bytes ++ byte ∷ [] → Found insn len ≡ decoded longer →
      whole ≡ record { memory = next; fetched = Instruction insn len }
  on_found h below reached l d = sym (rw (← l, ← d) at (on_next h below reached))

  pub on_illegal : {byte : ℕ} {longer : List ℕ} {next : M} → IsFetching t ip whole offset m bytes least → offset < 15 →
      byte_reached t m ((ip + offset) % 2 ^ 32) ≡ record { memory = next; byte = Ok byte } →
      longer ≡ bytes ++ byte ∷ [] → Illegal ≡ decoded longer →
      whole ≡ record { memory = next; fetched = Unknown }
  on_illegal h below reached l d = sym (rw (← l, ← d) at (on_next h below reached))

  pub on_short : {byte : ℕ} {longer seen : List ℕ} {next : M} → IsFetching t ip whole offset m bytes least → offset < 15 →
      byte_reached t m ((ip + offset) % 2 ^ 32) ≡ record { memory = next; byte = Ok byte } →
      longer ≡ bytes ++ byte ∷ [] → seen ≡ longer → Short ≡ decoded seen → {found : ℕ} → AreShortBelow found seen →
      IsFetching t ip whole (offset + 1) next longer found
  on_short {byte = byte} h below reached l s d {found} known = record {
    count = ap length l ∙ length-append bytes (byte ∷ []) ∙ ap (λ n. n + 1) h.count;
    rest = rw (← l, ← s, ← d, s) at (on_next h below reached);
    short = subst (λ (b : List ℕ). AreShortBelow found b) s known;
  }

  -- with no room for more
  pub at_end : IsFetching t ip whole offset m bytes least → 15 ≤ offset → whole ≡ record { memory = m; fetched = Unknown }
  unfolding fetched_from
  at_end h past = let e : 15 - offset ≡ 0 = omega arith in sym (rw e at h.rest)
