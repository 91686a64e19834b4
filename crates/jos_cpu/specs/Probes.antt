-- How the accesses of an instruction are probed.
-- (Intel 80386 Programmer's Reference Manual, 1986, section 9.2: that all is probed before anything is read or
-- written makes an instruction restartable.)
use Rattle.std.specs.Prelude.{ℕ, ◌&&◌, Bool, true, List, [], ◌∷◌, Option, Some, None, if◌then◌else◌}
use Rattle.jos_base.specs.declared.memory.Access.{Access}
use Rattle.jos_base.specs.declared.memory.Access.TheVariants.{Read, Write}
use Rattle.jos_cpu.specs.declared.memory.MemFault.{MemFault}
use Rattle.jos_cpu.specs.declared.accesses.AccessAt.{AccessAt}
use Rattle.jos_cpu.specs.declared.accesses.Accesses.{Accesses}
use Rattle.jos_cpu.specs.declared.accesses.Accesses.TheVariants as reach
use Rattle.jos_cpu.specs.Memory.{Memory, Probed, probed, all_allowed}
use Rattle.jos_cpu.specs.Accesses.{bytes_in_width, is_written, access_of}

-- an access of so many bytes
pub record Probe : Type 0 where
  pub va : ℕ
  pub len : ℕ
  pub access : Access

abbrev pub probe_of : AccessAt → Probe
probe_of r = record { va = r.va; len = bytes_in_width r.width; access = access_of r.usage }

-- PUSHA and POPA are one access of 32 bytes.
abbrev pub probes_of : Accesses → List Probe
probes_of reach.None = []
probes_of (reach.One r) = probe_of r ∷ []
probes_of (reach.Two r s) = probe_of r ∷ probe_of s ∷ []
probes_of (reach.PushAll va) = record { va = va; len = 32; access = Write } ∷ []
probes_of (reach.PopAll va) = record { va = va; len = 32; access = Read } ∷ []

-- with what a probe left, if it was not refused
abbrev pub on_refusal : {M : Type 0} → Option MemFault → M → (M → Probed M) → Probed M
on_refusal None m more = more m
on_refusal (Some fault) m more = record { memory = m; refusal = Some fault }

-- one probe after the other, up to the first that is refused
unfoldable pub probed_all : {M : Type 0} → Memory M → M → List Probe → Probed M
probed_all t m [] = record { memory = m; refusal = None }
probed_all t m (p ∷ rest) =
    let q = probed t m p.va p.len p.access in on_refusal q.refusal q.memory (λ next. probed_all t next rest)

-- What is reached may be read, and written where the instruction writes it.
abbrev pub is_open_at : (ℕ → Access → Bool) → AccessAt → Bool
is_open_at allowed r =
    all_allowed allowed r.va (bytes_in_width r.width) Read
    && (if is_written r.usage then all_allowed allowed r.va (bytes_in_width r.width) Write else true)

unfoldable pub is_open : (ℕ → Access → Bool) → Accesses → Bool
is_open allowed reach.None = true
is_open allowed (reach.One r) = is_open_at allowed r
is_open allowed (reach.Two r s) = is_open_at allowed r && is_open_at allowed s
is_open allowed (reach.PushAll va) = all_allowed allowed va 32 Write
is_open allowed (reach.PopAll va) = all_allowed allowed va 32 Read
