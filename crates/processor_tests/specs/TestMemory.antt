-- The memory of the tests: some bytes from an address on, of which the first few may only be read. It counts the
-- bytes that were reached.
use Rattle.std.specs.Prelude.{ℕ, ◌+◌, ◌-◌, ◌%◌, ◌^◌, ◌&&◌, nat_lt, nat_le, slice_index, slice_set, Bool, if◌then◌else◌}
use Rattle.jos_base.specs.declared.memory.Access.{Access}
use Rattle.jos_base.specs.declared.memory.Access.TheVariants.{Read, Write}
use Rattle.jos_base.specs.declared.numbers.TheConstants.{FEC_U}
use Rattle.jos_base.specs.Reach.{write_bit}
use Rattle.jos_cpu.specs.Memory.{Memory}
use Rattle.jos_cpu.specs.declared.memory.MemFault.{MemFault}
use Rattle.jos_cpu.specs.declared.memory.MemFault.TheVariants.{Page, Fence}
use Rattle.processor_tests.specs.declared.memory.TestMemory.{TestMemory}

abbrev pub offset : ℕ → ℕ → ℕ
offset base va = (va + 2 ^ 32 - base) % 2 ^ 32

abbrev pub test_memory_allows : ℕ → ℕ → ℕ → ℕ → Access → Bool
test_memory_allows base locked len va Read = nat_lt (offset base va) len
test_memory_allows base locked len va Write = nat_le locked (offset base va) && nat_lt (offset base va) len

-- Addresses from 0xf0000000 on lie outside of the fence; else the error code tells a page that is not there.
abbrev pub test_memory_fault : ℕ → Access → MemFault
test_memory_fault va access = if nat_le 0xf000_0000 va then Fence else Page (record { va = va; error = FEC_U + write_bit access })

abbrev pub test_memory_table : Memory TestMemory
test_memory_table = record {
  byte = λ w va. slice_index w.bytes (offset w.base va);
  allowed = λ w va access. test_memory_allows w.base w.locked 128 va access;
  fault = λ w va access. test_memory_fault va access;
  reached = λ w va access. if w.standing then w else record w { touched = (w.touched + 1) % 2 ^ 32 };
  stored = λ w va byte. record w { bytes = slice_set w.bytes (offset w.base va) byte };
}
