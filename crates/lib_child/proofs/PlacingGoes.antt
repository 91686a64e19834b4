-- The laws of spawn as it looks at the program headers for the pages of its child's segments.
use Rattle.std.proofs.Common.{◌≡◌, ◌≢◌, ◌∙◌, ◌+◌, ◌-◌, ◌*◌, ◌/◌, ◌%◌, ◌^◌, ◌<◌, ◌≤◌, ◌==◌, ◌&&◌, ◌||◌, ◌⊎◌, ℕ, Bool, true, false, refl, sym, ap, arith}
use Rattle.std.proofs.Common.{if◌then◌else◌, List, [], ◌++◌}
use Rattle.std.specs.Prelude.{nat_lt, slice_index}
use Rattle.std.proofs.lemmas.Bool.{and_parts}
use Rattle.std.proofs.lemmas.Bool.Decides.{nat_tests}
use Rattle.jos_base.specs.declared.numbers.TheConstants.{PGSIZE}
use Rattle.jos_base.specs.Below.{some_below}
use Rattle.jos_base.specs.Environments.{Slot, is_live}
use Rattle.jos_base.specs.KernelState.{KernelState, slot_at}
use Rattle.jos_base.specs.Words.{page_number, word_at}
use Rattle.jos_elf.specs.declared.header.ProgramHeader.{ProgramHeader}
use Rattle.jos_elf.specs.declared.numbers.TheConstants.{P_MEMSZ, P_TYPE, P_VADDR, PHDR_LEN, PT_LOAD}
use Rattle.jos_elf.specs.Headers.{entry_count_of}
use Rattle.jos_elf.specs.Pages.{touches}
use Rattle.jos_elf.specs.Parsed.{Lies, segment_of}
use Rattle.jos_elf.specs.Tests.{is_loaded}
use Rattle.lib_os.specs.declared.place.Step.TheVariants as step
use Rattle.lib_os.specs.declared.spawn_steps.BearingStep.TheVariants as bearing
use Rattle.lib_os.specs.declared.spawn_steps.SpawnStep.{SpawnStep}
use Rattle.lib_os.specs.declared.spawn_steps.SpawnStep.TheVariants as spawn
use Rattle.lib_os.specs.AbstractSpawn.{all_of, headers_in}
use Rattle.lib_os.specs.AbstractState.{Born, ImageRead}
use Rattle.lib_os.specs.LibraryPages.{View}
use Rattle.lib_os.specs.Places.{place_of}
use Rattle.lib_os.specs.SpawnedChild.{bytes_replied, header_touches, placing}
use Rattle.lib_os.specs.StandsAtSpawn.{HasMemory, IsOfKind, IsPlacing, nothing_known}
use Rattle.lib_os.specs.StandsFor.{view_of}
use Rattle.lib_os.proofs.SpawnedGoes.{goes_still}
use Rattle.lib_os.proofs.SpawnedProgress.{Alike, page_same, placed_over}
use Rattle.lib_os.proofs.SpawnOwnPages.{spawn_there, spawn_words, spawns_at}
use Rattle.lib_stage.specs.declared.ask.Next.TheVariants as next
use Rattle.lib_stage.specs.ServiceSteps.{ServiceHolds}
use Rattle.lib_child.specs.BearingStages.{bears}
use Rattle.lib_child.specs.ChildSegments.{last_page, pages_from}
use Rattle.lib_child.proofs.BearingOn.{comes_goes, none_mine, pages_come}
use Rattle.lib_child.proofs.BearingStays.{child_told}
use Rattle.lib_child.proofs.HeaderLoads.{LoadsHeader, header_load_holds}
use Rattle.lib_child.proofs.HeaderSays.{has_memory, image_lies, lies_low, no_memory, other_kind, says_kind, says_mem_len, says_va}

-- ---- the pages of a segment

-- no page in front of its first is one of its
pub none_before : (image : ImageRead) (header p : ℕ) →
    (header_touches image p header && nat_lt p 0) ≡ (header_touches image p header && nat_lt p ((headers_in image.table header).va / PGSIZE))
none_before image header p = by_touch (header_touches image p header) refl
  where
    one : ProgramHeader
    one = headers_in image.table header

    off : (q : ℕ) → nat_lt q 0 ≡ false
    off q = grind (arith, nat_tests)

    by_touch : (c : Bool) → header_touches image p header ≡ c → (c && nat_lt p 0) ≡ (c && nat_lt p (one.va / PGSIZE))
    by_touch false is = refl
    by_touch true is =
        let touched = (and_parts (nat_lt header (entry_count_of (slice_index image.header)) && is_loaded one) (touches p (segment_of one)) is).1 in
        let first = (and_parts (nat_lt one.va ((p + 1) * PGSIZE)) (nat_lt (p * PGSIZE) (one.va + one.mem_len)) touched).0 in
        let low : one.va < (p + 1) * PGSIZE = grind (arith, nat_tests, first) in
        let most : one.va / PGSIZE ≤ p = omega (arith, low) in
        let past : nat_lt p (one.va / PGSIZE) ≡ false = grind (arith, nat_tests, most) in
        off p ∙ sym past

pub first_placed : (b : Born) (image : ImageRead) (file : List ℕ) (header page : ℕ) → page ≡ (headers_in image.table header).va / PGSIZE →
    Alike b image file (placing header 0) (placing header page)
first_placed b image file header page first = record {
  registers = refl;
  handler = refl;
  handler_stack = refl;
  passed = refl;
  pages = λ p.
      page_same b image file (placing header 0) (placing header page) p refl refl
      (ap (λ (c : Bool). some_below header (header_touches image p) || c)
      (none_before image header p ∙ ap (λ (q : ℕ). header_touches image p header && nat_lt p q) (sym first))) refl refl;
}

-- ---- the laws

module _ (s : KernelState) (n path argv : ℕ) (live : is_live (slot_at s n) ≡ true) (fd headers child header : ℕ) where
  -- its kind

  abbrev at_kind : SpawnStep
  at_kind = spawn.Bearing (bearing.PlacingKind fd headers child header)

  kind_loads : (v : View) (k : Slot) (b : Born) → IsPlacing v k b path argv fd headers child header nothing_known →
      LoadsHeader v k b path argv child (bearing.PlacingKind fd headers child header) header P_TYPE
  kind_loads v k b h = by_kind (word == PT_LOAD) refl
    where
      word : ℕ
      word = word_at (slice_index h.image.table) (PHDR_LEN * header + P_TYPE)

      by_kind : (c : Bool) → (word == PT_LOAD) ≡ c →
          LoadsHeader v k b path argv child (bearing.PlacingKind fd headers child header) header P_TYPE
      by_kind true test =
          let to : SpawnStep = spawn.Bearing (bearing.PlacingMemory fd headers child header) in
          record {
            image = h.image;
            headers = headers;
            whole = h.has.whole;
            below = h.below;
            to = step.Spawning to;
            next_is = ap (λ (c : Bool). if c then next.GoOn (step.Spawning to) else next.GoOn (step.Spawning (pages_from fd headers child (header + 1)))) test;
            goes = record {
              at = to;
              is = refl;
              held = refl;
              bears = refl;
              childs = λ p. refl;
              told = λ q is. is;
              goes = goes_still child at_kind to (λ m progress is. is);
              stands = record {
                image = h.image;
                has = child_told (spawn_words to) h.has;
                below = h.below;
                so = sym (says_kind h.image.table header) ∙ grind (arith, nat_tests, test);
              };
            };
          }
      by_kind false test = record {
        image = h.image;
        headers = headers;
        whole = h.has.whole;
        below = h.below;
        to = step.Spawning (pages_from fd headers child (header + 1));
        next_is = ap (λ (c : Bool). if c then next.GoOn (step.Spawning (spawn.Bearing (bearing.PlacingMemory fd headers child header)))
            else next.GoOn (step.Spawning (pages_from fd headers child (header + 1)))) test;
        goes = comes_goes at_kind refl (none_mine at_kind refl refl) (λ progress is. is) h.has.found.is
            (placed_over b h.image (all_of [] ++ bytes_replied b.phase) header
            (other_kind (headers_in h.image.table header) (ap (λ (m : ℕ). m == PT_LOAD) (sym (says_kind h.image.table header)) ∙ test)))
            (pages_come h.has (header + 1) (let below = h.below in omega (arith, below)));
      }

  pub placing_kind_holds : place_of (slot_at s n) ≡ spawns_at path argv at_kind →
      ServiceHolds s n (bears (record { at = bearing.PlacingKind fd headers child header }))
  placing_kind_holds stands =
      header_load_holds s n path argv child live (bearing.PlacingKind fd headers child header) stands refl header P_TYPE (omega arith) refl
      (λ names a h. let there = spawn_there h n path argv at_kind stands in
      kind_loads (view_of s.spaces (slot_at s n).directory) (slot_at s n) there.b there.at)

  -- how much memory it has

  abbrev at_memory : SpawnStep
  at_memory = spawn.Bearing (bearing.PlacingMemory fd headers child header)

  memory_loads : (v : View) (k : Slot) (b : Born) → IsPlacing v k b path argv fd headers child header IsOfKind →
      LoadsHeader v k b path argv child (bearing.PlacingMemory fd headers child header) header P_MEMSZ
  memory_loads v k b h = by_memory (memory == 0) refl
    where
      memory : ℕ
      memory = word_at (slice_index h.image.table) (PHDR_LEN * header + P_MEMSZ)

      some : SpawnStep
      some = spawn.Bearing (bearing.PlacingAddress fd headers child header memory)

      by_memory : (c : Bool) → (memory == 0) ≡ c → LoadsHeader v k b path argv child (bearing.PlacingMemory fd headers child header) header P_MEMSZ
      by_memory true test = record {
        image = h.image;
        headers = headers;
        whole = h.has.whole;
        below = h.below;
        to = step.Spawning (pages_from fd headers child (header + 1));
        next_is = ap (λ (c : Bool). if c then next.GoOn (step.Spawning (pages_from fd headers child (header + 1))) else next.GoOn (step.Spawning some)) test;
        goes = comes_goes at_memory refl (none_mine at_memory refl refl) (λ progress is. is) h.has.found.is
            (placed_over b h.image (all_of [] ++ bytes_replied b.phase) header
            (no_memory (headers_in h.image.table header) (sym (says_mem_len h.image.table header) ∙ grind (arith, nat_tests, test))))
            (pages_come h.has (header + 1) (let below = h.below in omega (arith, below)));
      }
      by_memory false test =
          let more : memory ≢ 0 = grind (arith, nat_tests, test) in
          record {
            image = h.image;
            headers = headers;
            whole = h.has.whole;
            below = h.below;
            to = step.Spawning some;
            next_is = ap (λ (c : Bool). if c then next.GoOn (step.Spawning (pages_from fd headers child (header + 1))) else next.GoOn
                (step.Spawning some)) test;
            goes = record {
              at = some;
              is = refl;
              held = refl;
              bears = refl;
              childs = λ p. refl;
              told = λ q is. is;
              goes = goes_still child at_memory some (λ m progress is. is);
              stands = record {
                image = h.image;
                has = child_told (spawn_words some) h.has;
                below = h.below;
                so = (
                  has_memory (headers_in h.image.table header) h.so (λ none. more (says_mem_len h.image.table header ∙ none)),
                  sym (says_mem_len h.image.table header),
                );
              };
            };
          }

  pub placing_memory_holds : place_of (slot_at s n) ≡ spawns_at path argv at_memory →
      ServiceHolds s n (bears (record { at = bearing.PlacingMemory fd headers child header }))
  placing_memory_holds stands =
      header_load_holds s n path argv child live (bearing.PlacingMemory fd headers child header) stands refl header P_MEMSZ (omega arith) refl
      (λ names a h. let there = spawn_there h n path argv at_memory stands in
      memory_loads (view_of s.spaces (slot_at s n).directory) (slot_at s n) there.b there.at)

  -- where it begins

  module _ (memory : ℕ) where
    abbrev at_address : SpawnStep
    at_address = spawn.Bearing (bearing.PlacingAddress fd headers child header memory)

    address_loads : (v : View) (k : Slot) (b : Born) → IsPlacing v k b path argv fd headers child header (HasMemory memory) →
        LoadsHeader v k b path argv child (bearing.PlacingAddress fd headers child header memory) header P_VADDR
    address_loads v k b h =
        let to : SpawnStep = spawn.Bearing (bearing.PlacingPage fd headers child header (page_number va) (last_page va memory)) in
        record {
          image = h.image;
          headers = headers;
          whole = h.has.whole;
          below = h.below;
          to = step.Spawning to;
          next_is = refl;
          goes = comes_goes at_address refl (none_mine at_address refl refl) (λ progress is. is) h.has.found.is
              (first_placed b h.image (all_of [] ++ bytes_replied b.phase) header (page_number va) (ap page_number va_is)) (record {
                held = refl;
                bears = refl;
                mine = none_mine to refl refl;
                told = refl;
                is_so = refl;
                stands = record {
                  image = h.image;
                  has = child_told (spawn_words to) h.has;
                  below = h.below;
                  so = (h.so.0, omega (arith, va_is), first_low, last_is);
                };
              });
        }
      where
        va : ℕ
        va = word_at (slice_index h.image.table) (PHDR_LEN * header + P_VADDR)

        one : ProgramHeader
        one = headers_in h.image.table header

        va_is : va ≡ one.va
        va_is = says_va h.image.table header

        lies : Lies h.has.whole.size (segment_of one)
        lies = image_lies h.has.whole header h.below h.so.0

        first_low : page_number va ≤ last_page va memory
        first_low =
            let low = lies_low one lies in
            let some = lies.some in
            let memory_is = h.so.1 in
            omega (arith, low, some, memory_is, va_is)

        last_is : last_page va memory ≡ (one.va + one.mem_len - 1) / PGSIZE
        last_is =
            let low = lies_low one lies in
            let some = lies.some in
            let memory_is = h.so.1 in
            let same : (va + (memory - 1)) % 2 ^ 32 ≡ one.va + one.mem_len - 1 = omega (arith, low, some, memory_is, va_is) in
            ap page_number same

    pub placing_address_holds : place_of (slot_at s n) ≡ spawns_at path argv at_address →
        ServiceHolds s n (bears (record { at = bearing.PlacingAddress fd headers child header memory }))
    placing_address_holds stands =
        header_load_holds s n path argv child live (bearing.PlacingAddress fd headers child header memory) stands refl header P_VADDR (omega arith) refl
        (λ names a h. let there = spawn_there h n path argv at_address stands in
        address_loads (view_of s.spaces (slot_at s n).directory) (slot_at s n) there.b there.at)
