-- What the tests of program headers say.
use Rattle.std.proofs.Common.{◌≡◌, ℕ, ◌+◌, ◌<◌, ◌≤◌, ◌⊎◌, Bool, true, false, refl}
use Rattle.std.specs.Prelude.{not, ◌||◌, ◌==◌, nat_le, nat_lt}
use Rattle.std.specs.Bool.{Decides}
use Rattle.std.proofs.lemmas.Bool.{leb-true, le-leb}
use Rattle.std.proofs.lemmas.Bool.Decides.{Decides-and, Decides-or, Decides-eqb, Decides-ltb}
use Rattle.jos_elf.specs.declared.header.ProgramHeader.{ProgramHeader}
use Rattle.jos_base.specs.declared.numbers.TheConstants.{USTABDATA, UTEMP, UTEXT, FDTABLE}
use Rattle.jos_elf.specs.declared.numbers.TheConstants.{PT_LOAD}
use Rattle.jos_elf.specs.Tests.{is_loaded, is_placed, are_apart, leaves_free}

Decides-le : (a b : ℕ) → Decides (nat_le a b) (a ≤ b)
Decides-le a b = (leb-true a b, le-leb a b)

pub loaded : (h : ProgramHeader) → Decides (is_loaded h) ((h.kind ≡ PT_LOAD) × (0 < h.mem_len))
unfolding is_loaded
loaded h = Decides-and (h.kind == PT_LOAD) (nat_lt 0 h.mem_len) (Decides-eqb h.kind PT_LOAD) (Decides-ltb 0 h.mem_len)

pub placed : (h : ProgramHeader) → Decides (is_placed h) ((h.file_len ≤ h.mem_len) × (((USTABDATA ≤ h.va) × (h.va + h.mem_len ≤ UTEMP)) ⊎ ((UTEXT ≤ h.va) × (h.va + h.mem_len ≤ FDTABLE))))
unfolding is_placed
placed h = Decides-and _ _ (Decides-le h.file_len h.mem_len) (Decides-or _ _
    (Decides-and _ _ (Decides-le USTABDATA h.va) (Decides-le (h.va + h.mem_len) UTEMP))
    (Decides-and _ _ (Decides-le UTEXT h.va) (Decides-le (h.va + h.mem_len) FDTABLE)))

pub apart : (a b : ProgramHeader) → Decides (are_apart a b) ((a.va + a.mem_len ≤ b.va) ⊎ (b.va + b.mem_len ≤ a.va))
apart a b = Decides-or _ _ (Decides-le (a.va + a.mem_len) b.va) (Decides-le (b.va + b.mem_len) a.va)

or_cases : (x y : Bool) → (not x || y) ≡ true → x ≡ true → y ≡ true
or_cases true y e h = e
or_cases false y e h = absurd cc

or_right : (x y : Bool) → y ≡ true → (not x || y) ≡ true
or_right true y e = e
or_right false y e = refl

pub free : (a b : ProgramHeader) → leaves_free a b ≡ true → is_loaded a ≡ true → (a.va + a.mem_len ≤ b.va) ⊎ (b.va + b.mem_len ≤ a.va)
unfolding leaves_free
free a b e h = (apart a b).0 (or_cases (is_loaded a) (are_apart a b) e h)

pub free_from : (a b : ProgramHeader) → (a.va + a.mem_len ≤ b.va) ⊎ (b.va + b.mem_len ≤ a.va) → leaves_free a b ≡ true
unfolding leaves_free
free_from a b h = or_right (is_loaded a) (are_apart a b) ((apart a b).1 h)
