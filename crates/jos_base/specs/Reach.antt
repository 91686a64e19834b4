-- Where a user's access to an address leads: to a byte of a frame, or to a page fault.
-- (Intel 80386 Programmer's Reference Manual, 1986, sections 5.2 and 6.4.)
use Rattle.std.specs.Prelude.{ℕ, ◌+◌, ◌^◌, ◌%◌, ◌==◌, suc, zero, Bool, List, [], ◌∷◌, Option, Some, None}
use Rattle.std.specs.Prelude.{Result, Ok, Err, bit_and, if◌then◌else◌}
use Rattle.jos_base.specs.declared.memory.Access.{Access}
use Rattle.jos_base.specs.declared.memory.Access.TheVariants.{Read, Write}
use Rattle.jos_base.specs.declared.memory.PageFault.{PageFault}
use Rattle.jos_base.specs.declared.numbers.TheConstants.{PTE_P, PTE_W, PTE_U, FEC_PR, FEC_WR, FEC_U}
use Rattle.jos_base.specs.Words.{page_offset}

-- a page's entry: the frame that it names, and its twelve low bits, PTE_P, PTE_W, PTE_U, PTE_A, PTE_D and PTE_AVAIL
-- among them
pub record Entry : Type 0 where
  pub frame : ℕ
  pub perm : ℕ

-- where a byte lies
pub record FrameOffset : Type 0 where
  pub frame : ℕ
  pub offset : ℕ

-- P and U for any access, and W for a write
abbrev pub allows : ℕ → Access → Bool
allows perm Read = bit_and perm (PTE_P + PTE_U) == PTE_P + PTE_U
allows perm Write = bit_and perm (PTE_P + PTE_W + PTE_U) == PTE_P + PTE_W + PTE_U

abbrev pub write_bit : Access → ℕ
write_bit Read = 0
write_bit Write = FEC_WR

-- by the entry of its page, if there is one; the error code tells a write, a user, and whether there was an entry
abbrev pub reach_entry : Option Entry → ℕ → Access → Result FrameOffset PageFault
reach_entry None va access = Err (record { va = va; error = FEC_U + write_bit access })
reach_entry (Some entry) va access =
    if allows entry.perm access then Ok (record { frame = entry.frame; offset = page_offset va })
    else Err (record { va = va; error = FEC_U + FEC_PR + write_bit access })

abbrev pub front_added : {E : Type 0} → ℕ → Result (List ℕ) E → Result (List ℕ) E
front_added byte (Ok bytes) = Ok (byte ∷ bytes)
front_added byte (Err fault) = Err fault

abbrev pub then_read : Result ℕ PageFault → Result (List ℕ) PageFault → Result (List ℕ) PageFault
then_read (Ok byte) rest = front_added byte rest
then_read (Err fault) rest = Err fault

-- the bytes at n addresses from va on, which are counted upwards modulo 2^32, or the fault of the first that
-- can't be read, by what `read` gives at an address
unfoldable pub bytes_read : (ℕ → Result ℕ PageFault) → ℕ → ℕ → Result (List ℕ) PageFault
bytes_read read va zero = Ok []
bytes_read read va (suc n) = then_read (read va) (bytes_read read ((va + 1) % 2 ^ 32) n)
