-- What is at hand in a space is at hand for the processor, inside the fence, and a probe goes byte by byte.
use Rattle.std.proofs.Common.{◌≡◌, ℕ, ◌+◌, ◌*◌, ◌<◌, ◌≤◌, ◌/◌, ◌%◌, ◌^◌, ◌==◌, ◌≢◌, suc, zero, Bool, true, false}
use Rattle.std.proofs.Common.{List, length, Option, Some, None, Result, Ok, Err, refl, sym, ap, subst, ◌∙◌, arith}
use Rattle.std.specs.Prelude.{◌&&◌, is_ok, OnOk, slice_index, bit_and, if◌then◌else◌}
use Rattle.std.proofs.lemmas.Bool.Decides.{nat_tests}
use Rattle.jos_base.specs.declared.memory.Access.{Access}
use Rattle.jos_base.specs.declared.memory.Access.TheVariants.{Read, Write}
use Rattle.jos_base.specs.declared.memory.PageFault.{PageFault}
use Rattle.jos_base.specs.declared.numbers.TheConstants.{PGSIZE}
use Rattle.jos_base.specs.Words.{page_number}
use Rattle.jos_base.specs.Reach.{Entry, FrameOffset, reach_entry, write_bit}
use Rattle.jos_base.specs.SpacesState.{SpacesState}
use Rattle.jos_base.specs.Windows.{walked}
use Rattle.jos_base.specs.Environments.{records_of}
use Rattle.jos_base.specs.KernelState.{KernelState, with_spaces}
use Rattle.jos_base.specs.UserMemory.{reach_in, is_allowed, fault_at, touched, touched_by, byte_at, stored_byte}
use Rattle.jos_space.specs.AtHand.{IsStill, stored_word}
use Rattle.std.proofs.lemmas.Nat.{and_assoc}
use Rattle.jos_alu.specs.declared.width.Width.TheVariants.{Bits8, Bits32}
use Rattle.jos_cpu.specs.declared.memory.MemFault.{MemFault}
use Rattle.jos_cpu.specs.declared.memory.MemFault.TheVariants.{Page, Fence}
use Rattle.jos_cpu.specs.Memory.{Memory, IsLawful, StandAt, after, probed, all_allowed}
use Rattle.jos_cpu.specs.Transfers.{stored_number}
use Rattle.jos_cpu.specs.AtHand.{IsPut}
use Rattle.jos_cpu.proofs.Fenced.{stand_within, put_within}
use Rattle.jos_cpu.proofs.Probing.{IsProbing, on_byte, on_refused}
use Rattle.jos_kernel.specs.Running.{Running, user_memory, memory_inside, loaded_in, unloaded}
use Rattle.jos_kernel.specs.MemoryProofs.{memory_inside_is_lawful}

-- ---- a window

pub stands : (records : ℕ → List ℕ) (s : KernelState) (d va : ℕ) (bytes : List ℕ) → records ≡ records_of s.environments →
    va < 2 ^ 32 → va % 4096 + length bytes ≤ 4096 →
    ((i : ℕ) → i < length bytes → IsStill s.spaces d (va + i) Read) →
    ((i : ℕ) → i < length bytes → byte_at records s.spaces d (va + i) ≡ slice_index bytes i) →
    StandAt user_memory (loaded_in s d) va bytes
unfolding user_memory
stands records s d va bytes same small room still byte i below =
    let here : (va + i) % 2 ^ 32 ≡ va + i = omega arith in
    let at = still i below in
    rw here (record {
      allowed = at.allowed;
      reached = λ j. loaded_in (with_spaces s (at.touched_is j)) d;
      byte_is = ap (λ (told : ℕ → List ℕ). byte_at told s.spaces d (va + i)) (sym same) ∙ byte i below;
    })

-- ---- what is put

module _ (s t : KernelState) (d va : ℕ) where
  pub byte_put : (value : ℕ) → IsStill s.spaces d va Write → t ≡ with_spaces s (stored_byte s.spaces d va (value % 256)) →
      IsPut user_memory (loaded_in s d) Bits8 va value (loaded_in t d)
  unfolding user_memory probed stored_number
  byte_put value still e = record {
    reached = rw (still.allowed, still.touched_is) refl;
    stored = λ i. loaded_in (e i) d;
  }

  pub word_put : (value : ℕ) → va < 2 ^ 32 → va % 4096 + 4 ≤ 4096 → ((i : ℕ) → i < 4 → IsStill s.spaces d (va + i) Write) →
      t ≡ with_spaces s (stored_word s.spaces d va value) → IsPut user_memory (loaded_in s d) Bits32 va value (loaded_in t d)
  unfolding user_memory probed stored_number stored_word
  word_put value small room still e =
      let e0 : va + 0 ≡ va = omega arith in
      let e1 : va + 1 ≡ after va = omega arith in
      let e2 : va + 2 ≡ after (after va) = omega arith in
      let e3 : va + 3 ≡ after (after (after va)) = omega arith in
      let s0 = subst (λ (q : ℕ). IsStill s.spaces d q Write) e0 (still 0 (omega arith)) in
      let s1 = subst (λ (q : ℕ). IsStill s.spaces d q Write) e1 (still 1 (omega arith)) in
      let s2 = subst (λ (q : ℕ). IsStill s.spaces d q Write) e2 (still 2 (omega arith)) in
      let s3 = subst (λ (q : ℕ). IsStill s.spaces d q Write) e3 (still 3 (omega arith)) in
      record {
        reached = rw (s0.allowed, s0.touched_is, s1.allowed, s1.touched_is, s2.allowed, s2.touched_is, s3.allowed, s3.touched_is) refl;
        stored =
            (λ i. loaded_in (e i) d)
            ∙ (λ i. loaded_in (with_spaces s (
            stored_byte (stored_byte (stored_byte (stored_byte s.spaces d va (value % 256)) d (e1 i) (value / 256 % 256))
            d (e2 i) (value / 65536 % 256)) d (e3 i) (value / 16777216 % 256))) d);
      }

-- what is put changes no right
module _ {M : Type 0} {t : Memory M} (lawful : IsLawful t) where
  pub put_rights : (m n : M) (va value : ℕ) → IsPut t m Bits8 va value n → t.allowed n ≡ t.allowed m
  unfolding stored_number
  put_rights m n va value put = ap t.allowed put.stored ∙ lawful.stored_rights m va (value % 256)

  pub put_word_rights : (m n : M) (va value : ℕ) → IsPut t m Bits32 va value n → t.allowed n ≡ t.allowed m
  unfolding stored_number
  put_word_rights m n va value put =
      ap t.allowed put.stored
      ∙ lawful.stored_rights _ (after (after (after va))) (value / 16777216 % 256)
      ∙ lawful.stored_rights _ (after (after va)) (value / 65536 % 256)
      ∙ lawful.stored_rights _ (after va) (value / 256 % 256)
      ∙ lawful.stored_rights m va (value % 256)

  pub either_rights : (m n : M) (result : Bool) → (result ≡ true → t.allowed n ≡ t.allowed m) →
      (result ≡ false → n ≡ m) → t.allowed n ≡ t.allowed m
  either_rights m n true put left = put refl
  either_rights m n false put left = ap t.allowed (left refl)

-- ---- inside a fence

module _ (inside : ℕ → Bool) (pages : (va : ℕ) → inside va ≡ inside (va / PGSIZE * PGSIZE)) where
  -- an address of a page that lies inside
  pub inside_page : (number va : ℕ) → number ≡ va / PGSIZE → inside (number * PGSIZE) ≡ true → inside va ≡ true
  inside_page number va e on = pages va ∙ ap (λ (n : ℕ). inside (n * PGSIZE)) (sym e) ∙ on

  pub page_inside : (number va : ℕ) → number ≡ va / PGSIZE → inside va ≡ true → inside (number * PGSIZE) ≡ true
  page_inside number va e on = ap (λ (n : ℕ). inside (n * PGSIZE)) e ∙ sym (pages va) ∙ on

  module _ (va : ℕ) (on : inside va ≡ true) (small : va < 2 ^ 32) where
    along : (i : ℕ) → va % 4096 + i < 4096 → inside ((va + i) % 2 ^ 32) ≡ true
    along i room =
        let here : (va + i) % 2 ^ 32 ≡ va + i = omega (arith, small, room) in
        let same : va / 4096 ≡ (va + i) / 4096 = omega (arith, room) in
        rw here (inside_page (va / PGSIZE) (va + i) same (page_inside (va / PGSIZE) va refl on))

    pub stands_inside : (records : ℕ → List ℕ) (s : KernelState) (d : ℕ) (bytes : List ℕ) → records ≡ records_of s.environments →
        va % 4096 + length bytes ≤ 4096 →
        ((i : ℕ) → i < length bytes → IsStill s.spaces d (va + i) Read) →
        ((i : ℕ) → i < length bytes → byte_at records s.spaces d (va + i) ≡ slice_index bytes i) →
        StandAt (memory_inside inside) (loaded_in s d) va bytes
    stands_inside records s d bytes same room still byte =
        stand_within inside Fence user_memory (loaded_in s d) va bytes (λ i below. along i (omega (arith, room, below)))
        (stands records s d va bytes same small room still byte)

    pub byte_put_inside : (s t : KernelState) (d value : ℕ) → IsStill s.spaces d va Write →
        t ≡ with_spaces s (stored_byte s.spaces d va (value % 256)) →
        IsPut (memory_inside inside) (loaded_in s d) Bits8 va value (loaded_in t d)
    byte_put_inside s t d value still e =
        put_within inside Fence user_memory Bits8 (loaded_in s d) (loaded_in t d) va value small (λ i below. along i (omega (arith, below)))
        (byte_put s t d va value still e)

    pub word_put_inside : (s t : KernelState) (d value : ℕ) → va % 4096 + 4 ≤ 4096 →
        ((i : ℕ) → i < 4 → IsStill s.spaces d (va + i) Write) → t ≡ with_spaces s (stored_word s.spaces d va value) →
        IsPut (memory_inside inside) (loaded_in s d) Bits32 va value (loaded_in t d)
    word_put_inside s t d value room still e =
        put_within inside Fence user_memory Bits32 (loaded_in s d) (loaded_in t d) va value small (λ i below. along i (omega (arith, room, below)))
        (word_put s t d va value small room still e)

-- ---- a probe

-- what may be reached at all may be read
read_stands : (perm : ℕ) → bit_and perm 7 ≡ 7 → bit_and perm 5 ≡ 5
read_stands perm stand = sym (and_assoc 5 perm 7) ∙ ap (λ (n : ℕ). bit_and n 5) stand

entry_readable : (entry : Option Entry) (va : ℕ) (access : Access) → is_ok (reach_entry entry va access) ≡ true → is_ok (reach_entry entry va Read) ≡ true
entry_readable entry va Read h = h
entry_readable None va Write h = h
entry_readable (Some entry) va Write h = by_test (bit_and entry.perm 7 == 7) refl h
  where
    by_test : (b : Bool) → (bit_and entry.perm 7 == 7) ≡ b →
        is_ok {T = FrameOffset} {E = PageFault} (if b then Ok (record { frame = entry.frame; offset = va % 4096 }) else Err (record { va = va; error = 7 })) ≡ true →
        is_ok (reach_entry (Some entry) va Read) ≡ true
    by_test true e h =
        let stand : bit_and entry.perm 7 ≡ 7 = grind (arith, nat_tests) in
        let part = read_stands entry.perm stand in
        let test : (bit_and entry.perm 5 == 5) ≡ true = grind (arith, nat_tests, part) in
        rw test refl
    by_test false e h = absurd cc

module _ (s : SpacesState) (d va : ℕ) (access : Access) where
  readable : is_allowed s d va access ≡ true → is_allowed s d va Read ≡ true
  readable h = entry_readable (walked s d (page_number va)) va access h

  refused_stays : is_allowed s d va access ≡ false → touched s d va access ≡ s
  unfolding touched
  refused_stays h = by_outcome (reach_in s d va access) h
    where
      by_outcome : (r : Result FrameOffset PageFault) → is_ok r ≡ false → touched_by s d va access r ≡ s
      by_outcome (Ok location) h = absurd cc
      by_outcome (Err fault) h = refl

module _ (inside : ℕ → Bool) {old : Running} {va len : ℕ} {access : Access} {at left : ℕ} {s : KernelState} {d : ℕ}
    (h : IsProbing (memory_inside inside) old va len access at left (loaded_in s d)) where
  pub on_reached : (later : ℕ) (t : KernelState) → left ≡ suc later → inside at ≡ true → true ≡ is_allowed s.spaces d at access →
      t ≡ with_spaces s (touched s.spaces d at access) → IsProbing (memory_inside inside) old va len access (after at) later (loaded_in t d)
  unfolding user_memory
  on_reached later t e on allowed now =
      subst (λ (u : KernelState). IsProbing (memory_inside inside) old va len access (after at) later (loaded_in u d)) (sym now)
      (on_byte h later e (rw (on, sym allowed) refl) (rw (on, readable s.spaces d at access (sym allowed)) refl)
      ((memory_inside_is_lawful inside).reached_rights (loaded_in s d) at access))

  pub on_fault : (later : ℕ) (t : KernelState) {fault : PageFault} → left ≡ suc later → inside at ≡ true → false ≡ is_allowed s.spaces d at access →
      fault ≡ fault_at s.spaces d at access → t ≡ with_spaces s (touched s.spaces d at access) →
      (probed (memory_inside inside) old va len access ≡ record { memory = loaded_in t d; refusal = Some (Page fault) })
      × (false ≡ all_allowed ((memory_inside inside).allowed old) va len access) × ((memory_inside inside).allowed (loaded_in t d) ≡ (memory_inside inside).allowed old)
  unfolding user_memory
  on_fault later t {fault = fault} e on refused fault_is now =
      let r = on_refused h later e (rw (on, sym refused) refl) in
      let same : t ≡ s = now ∙ (λ i. with_spaces s (refused_stays s.spaces d at access (sym refused) i)) in (
        r.0 ∙ (λ i. record { memory = loaded_in (sym same i) d; refusal = Some (if on i then Page (sym fault_is i) else Fence) }),
        r.1,
        ap (λ (u : KernelState). (memory_inside inside).allowed (loaded_in u d)) same ∙ h.stays,
      )

  pub on_fence : (later : ℕ) → left ≡ suc later → inside at ≡ false →
      (probed (memory_inside inside) old va len access ≡ record { memory = loaded_in s d; refusal = Some Fence })
      × (false ≡ all_allowed ((memory_inside inside).allowed old) va len access) × ((memory_inside inside).allowed (loaded_in s d) ≡ (memory_inside inside).allowed old)
  unfolding user_memory
  on_fence later e off =
      let r = on_refused h later e (rw off refl) in (
        r.0 ∙ (λ i. record { memory = loaded_in s d; refusal = Some (if off i then Page (fault_at s.spaces d at access) else Fence) }),
        r.1,
        h.stays,
      )

-- where no space is loaded
module _ (inside : ℕ → Bool) (s : KernelState) (va : ℕ) where
  pub nothing_probed : (access : Access) → probed (memory_inside inside) (unloaded s) va 0 access ≡ record { memory = unloaded s; refusal = None }
  unfolding probed
  nothing_probed access = refl

  refused_by : (n : ℕ) (access : Access) (on : Bool) → inside va ≡ on →
      probed (memory_inside inside) (unloaded s) va (suc n) access
      ≡ record { memory = unloaded s; refusal = Some (if on then Page (record { va = va; error = 4 + write_bit access }) else Fence) }
  unfolding probed user_memory
  refused_by n access true e = rw e refl
  refused_by n access false e = rw e refl

  pub first_refused : (len : ℕ) (access : Access) → len ≢ 0 → (on : Bool) → inside va ≡ on →
      probed (memory_inside inside) (unloaded s) va len access
      ≡ record { memory = unloaded s; refusal = Some (if on then Page (record { va = va; error = 4 + write_bit access }) else Fence) }
  first_refused zero access ne on e = absurd (ne refl)
  first_refused (suc n) access ne on e = refused_by n access on e

  pub none_allowed : (len : ℕ) (access : Access) → (len == 0) ≡ all_allowed ((memory_inside inside).allowed (unloaded s)) va len access
  unfolding all_allowed user_memory
  none_allowed zero access = refl
  none_allowed (suc n) access =
      let z : (suc n == 0) ≡ false = grind (arith, nat_tests) in
      z ∙ sym (refused (inside va) _)
    where
      refused : (on rest : Bool) → ((on && false) && rest) ≡ false
      refused true rest = refl
      refused false rest = refl

  pub none_readable : (len : ℕ) (access : Access) (result : Result (Unit {0}) MemFault) → is_ok result ≡ (len == 0) →
      OnOk result (all_allowed ((memory_inside inside).allowed (unloaded s)) va len Read ≡ true)
  none_readable len access (Ok done) e = sym (none_allowed len Read) ∙ sym e
  none_readable len access (Err fault) e = tt
