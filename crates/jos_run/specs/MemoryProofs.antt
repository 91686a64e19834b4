-- The memory inside the fence is lawful, and of a page the fence has all or nothing. These are proofs and no definitions, to
-- be passed over when reading: a ghost member can import them from here alone.
use Rattle.std.specs.Prelude.{◌≡◌, ℕ, ◌+◌, ◌*◌, ◌/◌, ◌%◌, nat_le, Bool, true, false, refl}
use Rattle.std.proofs.Common.{sym, arith}
use Rattle.std.proofs.lemmas.Bool.Decides.{nat_tests}
use Rattle.jos_base.specs.declared.numbers.TheConstants.{PGSIZE, USTABDATA, UTEMP, UTEXT, FDTABLE, USTACKTOP}
use Rattle.jos_cpu.specs.Memory.{IsLawful}
use Rattle.lib_os.specs.declared.numbers.TheConstants.{FDTABLE_END}
use Rattle.lib_os.specs.Fence.{in_fence, is_inside}
use Rattle.jos_kernel.specs.MemoryProofs.{memory_inside_is_lawful}
use Rattle.jos_run.specs.FencedMemory.{fenced_memory}

pub fenced_memory_is_lawful : IsLawful fenced_memory
unfolding fenced_memory
fenced_memory_is_lawful = memory_inside_is_lawful is_inside

-- a test of an address against the begin of a page, and one against its end
same_test : (x y : Bool) → (x ≡ true → y ≡ true) → (y ≡ true → x ≡ true) → x ≡ y
same_test true y there back = sym (there refl)
same_test false true there back = back refl
same_test false false there back = refl

behind : (from va : ℕ) → from % PGSIZE ≡ 0 → nat_le from va ≡ nat_le from (va / PGSIZE * PGSIZE)
behind from va whole =
    same_test (nat_le from va) (nat_le from (va / PGSIZE * PGSIZE)) (λ h. grind (arith, nat_tests)) (λ h. grind (arith, nat_tests))

before : (end va : ℕ) → end % PGSIZE ≡ 0 → nat_le (va + 1) end ≡ nat_le (va / PGSIZE * PGSIZE + 1) end
before end va whole =
    same_test (nat_le (va + 1) end) (nat_le (va / PGSIZE * PGSIZE + 1) end) (λ h. grind (arith, nat_tests)) (λ h. grind (arith, nat_tests))

pub fence_pages : (va : ℕ) → is_inside va ≡ is_inside (va / PGSIZE * PGSIZE)
unfolding in_fence
fence_pages va =
    rw (behind USTABDATA va refl, before UTEMP va refl, behind UTEXT va refl, before FDTABLE va refl, behind FDTABLE_END va refl, before USTACKTOP va refl) refl
