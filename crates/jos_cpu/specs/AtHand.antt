-- Numbers at hand: those whose bytes are reached with nothing changed, so that one load or store is the probe too.
use Rattle.std.specs.Prelude.{◌≡◌, ℕ, None}
use Rattle.jos_base.specs.declared.memory.Access.TheVariants.{Read, Write}
use Rattle.jos_alu.specs.declared.width.Width.{Width}
use Rattle.jos_cpu.specs.declared.accesses.Usage.{Usage}
use Rattle.jos_cpu.specs.declared.accesses.Usage.TheVariants.{Reads, Writes, Changes}
use Rattle.jos_cpu.specs.Memory.{Memory, probed}
use Rattle.jos_cpu.specs.Accesses.{bytes_in_width}
use Rattle.jos_cpu.specs.Transfers.{number_at, stored_number}

-- A number that may be read, and whose bytes nothing changes when they are reached.
pub record IsAtHand {M : Type 0} (t : Memory M) (m : M) (width : Width) (va value : ℕ) : Type 0 where
  pub reached : probed t m va (bytes_in_width width) Read ≡ record { memory = m; refusal = None }
  pub value_is : number_at t m va width ≡ value

-- A number that was put where nothing else changes when its bytes are reached for a write.
pub record IsPut {M : Type 0} (t : Memory M) (old : M) (width : Width) (va value : ℕ) (new : M) : Type 0 where
  pub reached : probed t old va (bytes_in_width width) Write ≡ record { memory = old; refusal = None }
  pub stored : new ≡ stored_number t old width va value

-- What an access of this usage reads, where that is at hand; 0 where it only writes.
abbrev pub IsInputAt : {M : Type 0} → Memory M → M → Usage → Width → ℕ → ℕ → Type 0
IsInputAt t m Reads width va value = IsAtHand t m width va value
IsInputAt t m Writes width va value = value ≡ 0
IsInputAt t m Changes width va value = IsAtHand t m width va value
