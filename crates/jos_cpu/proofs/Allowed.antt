-- What probes that were not refused allow to be read and written.
use Rattle.std.proofs.Common.{◌≡◌, ℕ, ◌*◌, zero, suc, true, List, [], ◌∷◌, ◌++◌, refl, arith}
use Rattle.jos_base.specs.declared.registers.Regs.{Regs}
use Rattle.jos_base.specs.declared.memory.Access.{Access}
use Rattle.jos_base.specs.declared.memory.Access.TheVariants.{Write}
use Rattle.jos_alu.specs.declared.width.Width.{Width}
use Rattle.jos_cpu.specs.declared.accesses.Usage.{Usage}
use Rattle.jos_cpu.specs.declared.accesses.Usage.TheVariants.{Reads, Writes, Changes}
use Rattle.jos_cpu.specs.declared.accesses.Accesses.{Accesses}
use Rattle.jos_cpu.specs.declared.accesses.Accesses.TheVariants as reach
use Rattle.jos_cpu.specs.Memory.{after, all_allowed}
use Rattle.jos_cpu.specs.Accesses.{bytes_in_width, access_of}
use Rattle.jos_cpu.specs.Probes.{Probe, probes_of}
use Rattle.jos_cpu.specs.Transfers.{Number, next_word, number_for, pushed_numbers, writes_of}
use Rattle.jos_cpu.proofs.Agreement.{Rights}
use Rattle.std.proofs.lemmas.Bool.{and_parts, and_from}

module _ (rights : Rights) where
  -- ---- some bytes

  pub one : (va : ℕ) (access : Access) → all_allowed rights va 1 access ≡ true → rights va access ≡ true
  unfolding all_allowed
  one va access h = (and_parts _ _ h).0

  pub two : (va : ℕ) (access : Access) → all_allowed rights va 2 access ≡ true → (rights va access ≡ true) × (rights (after va) access ≡ true)
  unfolding all_allowed
  two va access h = let a = and_parts _ _ h in let b = and_parts _ _ a.1 in (a.0, b.0)

  pub four : (va : ℕ) (access : Access) → all_allowed rights va 4 access ≡ true →
      (rights va access ≡ true) × (rights (after va) access ≡ true)
      × (rights (after (after va)) access ≡ true) × (rights (after (after (after va))) access ≡ true)
  unfolding all_allowed
  four va access h =
      let a = and_parts _ _ h in let b = and_parts _ _ a.1 in let c = and_parts _ _ b.1 in let d = and_parts _ _ c.1 in
      (a.0, b.0, c.0, d.0)

  -- ---- so many words from an address upwards

  abbrev pub AllWords : Access → ℕ → ℕ → Type 0
  AllWords access zero va = Unit {0}
  AllWords access (suc n) va = (all_allowed rights va 4 access ≡ true) × AllWords access n (next_word va)

  first_word : (va n : ℕ) (access : Access) → all_allowed rights va (suc (suc (suc (suc n)))) access ≡ true →
      (all_allowed rights va 4 access ≡ true) × (all_allowed rights (next_word va) n access ≡ true)
  unfolding all_allowed
  first_word va n access h =
      let a = and_parts _ _ h in let b = and_parts _ _ a.1 in let c = and_parts _ _ b.1 in let d = and_parts _ _ c.1 in (
        and_from (rights va access) _ a.0 (and_from (rights (after va) access) _ b.0
            (and_from (rights (after (after va)) access) _ c.0 (and_from (rights (after (after (after va))) access) _ d.0 refl))),
        d.1,
      )

  pub all_words : (n va : ℕ) (access : Access) → all_allowed rights va (n * 4) access ≡ true → AllWords access n va
  all_words zero va access h = tt
  all_words (suc n) va access h =
      let e : suc n * 4 ≡ suc (suc (suc (suc (n * 4)))) = omega arith in
      let w = first_word va (n * 4) access (rw e at h) in
      (w.0, all_words n (next_word va) access w.1)

  -- ---- probes, and the numbers that are written where they were

  abbrev pub AllProbed : List Probe → Type 0
  AllProbed [] = Unit {0}
  AllProbed (p ∷ rest) = (all_allowed rights p.va p.len p.access ≡ true) × AllProbed rest

  abbrev pub AllWritable : List Number → Type 0
  AllWritable [] = Unit {0}
  AllWritable (a ∷ rest) = (all_allowed rights a.va (bytes_in_width a.width) Write ≡ true) × AllWritable rest

  both_writable : (a b : List Number) → AllWritable a → AllWritable b → AllWritable (a ++ b)
  both_writable [] b h k = k
  both_writable (x ∷ rest) b h k = (h.0, both_writable rest b h.1 k)

  number_writable : (va : ℕ) (width : Width) (usage : Usage) (value : ℕ) → all_allowed rights va (bytes_in_width width) (access_of usage) ≡ true →
      AllWritable (number_for (record { va = va; width = width; usage = usage }) value)
  number_writable va width Reads value h = tt
  number_writable va width Writes value h = (h, tt)
  number_writable va width Changes value h = (h, tt)

  pub all_writable : (a : Accesses) (regs : Regs) (value : ℕ) → AllProbed (probes_of a) → AllWritable (writes_of a regs value)
  unfolding writes_of pushed_numbers
  all_writable reach.None regs value h = tt
  all_writable (reach.One r) regs value h = number_writable r.va r.width r.usage value h.0
  all_writable (reach.Two r s) regs value h =
      both_writable (number_for r value) (number_for s value) (number_writable r.va r.width r.usage value h.0)
      (number_writable s.va s.width s.usage value h.1.0)
  all_writable (reach.PushAll va) regs value h = all_words 8 va Write h.0
  all_writable (reach.PopAll va) regs value h = tt
