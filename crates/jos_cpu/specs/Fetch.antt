-- The probes of an instruction's own bytes: one byte after another is reached and read, from EIP upwards
-- modulo 2^32, until the bytes so far are an instruction or no instruction begins so.
-- (Intel 80386 Programmer's Reference Manual, 1986, sections 9.8.6 and 9.8.14; bytes beyond are not touched.)
use Rattle.std.specs.Prelude.{ℕ, ◌+◌, ◌%◌, ◌^◌, zero, suc, List, [], ◌∷◌, ◌++◌, length, Option, Some, None, Result}
use Rattle.std.specs.Prelude.{Ok, Err}
use Rattle.jos_base.specs.declared.memory.Access.TheVariants.{Read}
use Rattle.jos_base.specs.declared.numbers.TheConstants.{INSTRUCTION_MAX}
use Rattle.jos_isa.specs.declared.decoder.Decoded.{Decoded}
use Rattle.jos_isa.specs.declared.decoder.Decoded.TheVariants.{Found, Short, Illegal}
use Rattle.jos_isa.specs.Decoding.{decoded}
use Rattle.jos_cpu.specs.declared.memory.MemFault.{MemFault}
use Rattle.jos_cpu.specs.declared.fetching.Fetched.{Fetched}
use Rattle.jos_cpu.specs.declared.fetching.Fetched.TheVariants.{Instruction, Fault, Unknown}
use Rattle.jos_cpu.specs.Memory.{Memory, probed}

-- what is fetched, and the memory after it
pub record FetchedFrom (M : Type 0) : Type 0 where
  pub memory : M
  pub fetched : Fetched

-- after a byte: what the bytes so far are, or what comes with one more of them
abbrev pub fetched_as : {M : Type 0} → Decoded → M → FetchedFrom M → FetchedFrom M
fetched_as (Found insn len) m more = record { memory = m; fetched = Instruction insn len }
fetched_as Illegal m more = record { memory = m; fetched = Unknown }
fetched_as Short m more = more

-- the bytes with one more
abbrev pub with_byte : List ℕ → ℕ → List ℕ
with_byte bytes byte = bytes ++ byte ∷ []

abbrev pub next_address : ℕ → List ℕ → ℕ
next_address ip bytes = (ip + length bytes) % 2 ^ 32

-- a byte that was reached, and the memory after that
pub record Reached (M : Type 0) : Type 0 where
  pub memory : M
  pub byte : Result ℕ MemFault

abbrev pub read_after : {M : Type 0} → Memory M → ℕ → Option MemFault → M → Result ℕ MemFault
read_after t va None m = Ok (t.byte m va)
read_after t va (Some fault) m = Err fault

-- A byte is read when it was reached.
unfoldable pub byte_reached : {M : Type 0} → Memory M → M → ℕ → Reached M
byte_reached t m va = let p = probed t m va 1 Read in record { memory = p.memory; byte = read_after t va p.refusal p.memory }

abbrev pub on_byte : {M : Type 0} → Result ℕ MemFault → M → List ℕ → (List ℕ → FetchedFrom M) → FetchedFrom M
on_byte (Ok byte) m bytes more = fetched_as (decoded (with_byte bytes byte)) m (more (with_byte bytes byte))
on_byte (Err fault) m bytes more = record { memory = m; fetched = Fault fault }

-- with these bytes read, and room for so many more
unfoldable pub fetched_from : {M : Type 0} → Memory M → ℕ → ℕ → M → List ℕ → FetchedFrom M
fetched_from t ip zero m bytes = record { memory = m; fetched = Unknown }
fetched_from t ip (suc room) m bytes =
    let r = byte_reached t m (next_address ip bytes) in
    on_byte r.byte r.memory bytes (λ longer. fetched_from t ip room r.memory longer)

-- No instruction is longer than this.
unfoldable pub fetched_at : {M : Type 0} → Memory M → M → ℕ → FetchedFrom M
fetched_at t m ip = fetched_from t ip INSTRUCTION_MAX m []
