-- The law of spawn, where it tests its file: it holds at each of these steps.
use Rattle.std.proofs.Common.{◌≡◌, ◌+◌, ◌*◌, ◌%◌, ◌<◌, ◌≤◌, ℕ, List, true, refl, arith}
use Rattle.std.specs.Prelude.{slice_index}
use Rattle.jos_base.specs.declared.numbers.TheConstants.{SEGMENT_MAX, UTEMP}
use Rattle.jos_base.specs.Environments.{is_live}
use Rattle.jos_base.specs.KernelState.{KernelState, slot_at}
use Rattle.jos_base.specs.Words.{word_at}
use Rattle.jos_elf.specs.declared.numbers.TheConstants.{E_ENTRY, E_PHNUM, E_PHOFF, E_TYPE, EI_CLASS, P_FILESZ, P_MEMSZ, P_OFFSET, P_TYPE, P_VADDR, PHDR_LEN}
use Rattle.jos_elf.specs.Headers.{program_header_at}
use Rattle.lib_os.specs.declared.numbers.TheConstants.{SPAWN_GIVEN}
use Rattle.lib_os.specs.declared.spawn_steps.SpawnStep.TheVariants as spawn
use Rattle.lib_os.specs.declared.spawn_steps.TestingStep.{TestingStep}
use Rattle.lib_os.specs.declared.spawn_steps.TestingStep.TheVariants as testing
use Rattle.lib_os.specs.AbstractSpawn.{headers_in}
use Rattle.lib_os.specs.Places.{place_of}
use Rattle.lib_os.proofs.SpawnOwnPages.{spawns_at}
use Rattle.lib_stage.specs.ServiceSteps.{ServiceHolds}
use Rattle.lib_image.specs.declared.stage.ImageStage.TheVariants as stage
use Rattle.lib_image.specs.ImageStages.{imaging}
use Rattle.lib_image.specs.TestingStages.{word_place}
use Rattle.lib_image.proofs.HeaderGoes.{class_goes, count_goes, entry_point_goes, magic_goes, table_goes}
use Rattle.lib_image.proofs.HeaderGoes as of_header
use Rattle.lib_image.proofs.SegmentGoes.{address_goes, memory_goes, offset_goes, other_address_goes, other_kind_goes, other_memory_goes}
use Rattle.lib_image.proofs.SegmentGoes as of_segment
use Rattle.lib_image.proofs.TestingCopies.{copy_loads, table_storing_holds}
use Rattle.lib_image.proofs.TestingLoads.{header_loads, load_holds, segment_loads}

-- the words of a program header in the table
module _ (table : List ℕ) (n : ℕ) where
  kind_at : word_at (slice_index table) (PHDR_LEN * n + P_TYPE) ≡ (headers_in table n).kind
  unfolding program_header_at
  kind_at = refl

  memory_at : word_at (slice_index table) (PHDR_LEN * n + P_MEMSZ) ≡ (headers_in table n).mem_len
  unfolding program_header_at
  memory_at = refl

  address_at : word_at (slice_index table) (PHDR_LEN * n + P_VADDR) ≡ (headers_in table n).va
  unfolding program_header_at
  address_at = refl

  length_at : word_at (slice_index table) (PHDR_LEN * n + P_FILESZ) ≡ (headers_in table n).file_len
  unfolding program_header_at
  length_at = refl

  offset_at : word_at (slice_index table) (PHDR_LEN * n + P_OFFSET) ≡ (headers_in table n).file_at
  unfolding program_header_at
  offset_at = refl

below : {n m : ℕ} → n < m → n ≤ m
below lt = omega (arith, lt)

module _ (s : KernelState) (n path argv : ℕ) (live : is_live (slot_at s n) ≡ true) where
  abbrev StandsThere : TestingStep → Type 0
  StandsThere at = place_of (slot_at s n) ≡ spawns_at path argv (spawn.Testing at)

  abbrev Holds : TestingStep → Type 0
  Holds at = ServiceHolds s n (imaging (stage.Testing at))

  pub testing_holds : (at : TestingStep) → StandsThere at → Holds at
  testing_holds (testing.HeaderMagic esp fd size) stands =
      load_holds s n path argv live (testing.HeaderMagic esp fd size) stands (UTEMP + 0)
      (λ v k b h. header_loads (testing.HeaderMagic esp fd size) h.has 0 (omega arith) refl (magic_goes h))
  testing_holds (testing.HeaderClass esp fd size) stands =
      load_holds s n path argv live (testing.HeaderClass esp fd size) stands (UTEMP + EI_CLASS)
      (λ v k b h. header_loads (testing.HeaderClass esp fd size) h.has EI_CLASS (omega arith) refl (class_goes h))
  testing_holds (testing.HeaderKind esp fd size) stands =
      load_holds s n path argv live (testing.HeaderKind esp fd size) stands (UTEMP + E_TYPE)
      (λ v k b h. header_loads (testing.HeaderKind esp fd size) h.has E_TYPE (omega arith) refl (of_header.kind_goes h))
  testing_holds (testing.HeaderEntryPoint esp fd size) stands =
      load_holds s n path argv live (testing.HeaderEntryPoint esp fd size) stands (UTEMP + E_ENTRY)
      (λ v k b h. header_loads (testing.HeaderEntryPoint esp fd size) h.has E_ENTRY (omega arith) refl (entry_point_goes h))
  testing_holds (testing.HeaderTable esp fd size entry_point) stands =
      load_holds s n path argv live (testing.HeaderTable esp fd size entry_point) stands (UTEMP + E_PHOFF)
      (λ v k b h. header_loads (testing.HeaderTable esp fd size entry_point) h.0.has E_PHOFF (omega arith) refl (table_goes entry_point h.0 h.1))
  testing_holds (testing.HeaderLength esp fd size entry_point place) stands =
      load_holds s n path argv live (testing.HeaderLength esp fd size entry_point place) stands (UTEMP + 40)
      (λ v k b h. header_loads (testing.HeaderLength esp fd size entry_point place) h.0.has 40 (omega arith) refl
      (of_header.length_goes entry_point place h.0 h.1 h.2))
  testing_holds (testing.HeaderCount esp fd size entry_point place) stands =
      load_holds s n path argv live (testing.HeaderCount esp fd size entry_point place) stands (UTEMP + E_PHNUM)
      (λ v k b h. header_loads (testing.HeaderCount esp fd size entry_point place) h.0.has E_PHNUM (omega arith) refl
      (count_goes entry_point place h.0 h.1 h.2))
  testing_holds (testing.TableLoading esp fd size entry_point headers copied) stands =
      load_holds s n path argv live (testing.TableLoading esp fd size entry_point headers copied) stands (UTEMP + word_place copied)
      (λ v k b h. copy_loads h)
  testing_holds (testing.TableStoring esp fd size entry_point headers copied word) stands =
      table_storing_holds s n path argv live esp fd size entry_point headers copied word stands
  testing_holds (testing.SegmentKind esp fd size entry_point headers header) stands =
      load_holds s n path argv live (testing.SegmentKind esp fd size entry_point headers header) stands
      (SPAWN_GIVEN + PHDR_LEN * (header % SEGMENT_MAX) + P_TYPE)
      (λ v k b h. segment_loads (testing.SegmentKind esp fd size entry_point headers header) h header (omega arith) P_TYPE (omega arith) refl
      (headers_in h.so.table header).kind (kind_at h.so.table header) (of_segment.kind_goes v k b path argv esp fd size entry_point headers header h))
  testing_holds (testing.SegmentMemory esp fd size entry_point headers header) stands =
      load_holds s n path argv live (testing.SegmentMemory esp fd size entry_point headers header) stands
      (SPAWN_GIVEN + PHDR_LEN * (header % SEGMENT_MAX) + P_MEMSZ)
      (λ v k b h. let it = h.testing_it in
      segment_loads (testing.SegmentMemory esp fd size entry_point headers header) it header (omega arith) P_MEMSZ (omega arith) refl
      (headers_in it.so.table header).mem_len (memory_at it.so.table header) (memory_goes v k b path argv esp fd size entry_point headers header h))
  testing_holds (testing.SegmentAddress esp fd size entry_point headers header memory) stands =
      load_holds s n path argv live (testing.SegmentAddress esp fd size entry_point headers header memory) stands
      (SPAWN_GIVEN + PHDR_LEN * (header % SEGMENT_MAX) + P_VADDR)
      (λ v k b h. let it = h.testing_it in
      segment_loads (testing.SegmentAddress esp fd size entry_point headers header memory) it header (omega arith) P_VADDR (omega arith) refl
      (headers_in it.so.table header).va (address_at it.so.table header) (address_goes v k b path argv esp fd size entry_point headers header memory h))
  testing_holds (testing.SegmentLength esp fd size entry_point headers header va memory) stands =
      load_holds s n path argv live (testing.SegmentLength esp fd size entry_point headers header va memory) stands
      (SPAWN_GIVEN + PHDR_LEN * (header % SEGMENT_MAX) + P_FILESZ)
      (λ v k b h. let it = h.testing_it in
      segment_loads (testing.SegmentLength esp fd size entry_point headers header va memory) it header (omega arith) P_FILESZ (omega arith) refl
      (headers_in it.so.table header).file_len (length_at it.so.table header)
      (of_segment.length_goes v k b path argv esp fd size entry_point headers header memory va h))
  testing_holds (testing.SegmentOffset esp fd size entry_point headers header va memory length) stands =
      load_holds s n path argv live (testing.SegmentOffset esp fd size entry_point headers header va memory length) stands
      (SPAWN_GIVEN + PHDR_LEN * (header % SEGMENT_MAX) + P_OFFSET)
      (λ v k b h. let it = h.testing_it in
      segment_loads (testing.SegmentOffset esp fd size entry_point headers header va memory length) it header (omega arith) P_OFFSET (omega arith) refl
      (headers_in it.so.table header).file_at (offset_at it.so.table header)
      (offset_goes v k b path argv esp fd size entry_point headers header memory va length h))
  testing_holds (testing.OtherKind esp fd size entry_point headers header va memory other) stands =
      load_holds s n path argv live (testing.OtherKind esp fd size entry_point headers header va memory other) stands
      (SPAWN_GIVEN + PHDR_LEN * (other % SEGMENT_MAX) + P_TYPE)
      (λ v k b h. let it = h.testing_it in
      segment_loads (testing.OtherKind esp fd size entry_point headers header va memory other) it other (below h.other_below) P_TYPE (omega arith) refl
      (headers_in it.so.table other).kind (kind_at it.so.table other)
      (other_kind_goes v k b path argv esp fd size entry_point headers header memory va other h))
  testing_holds (testing.OtherMemory esp fd size entry_point headers header va memory other) stands =
      load_holds s n path argv live (testing.OtherMemory esp fd size entry_point headers header va memory other) stands
      (SPAWN_GIVEN + PHDR_LEN * (other % SEGMENT_MAX) + P_MEMSZ)
      (λ v k b h. let it = h.comparing.testing_it in
      segment_loads (testing.OtherMemory esp fd size entry_point headers header va memory other) it other (below h.comparing.other_below) P_MEMSZ
      (omega arith) refl (headers_in it.so.table other).mem_len (memory_at it.so.table other)
      (other_memory_goes v k b path argv esp fd size entry_point headers header memory va other h))
  testing_holds (testing.OtherAddress esp fd size entry_point headers header va memory other other_memory) stands =
      load_holds s n path argv live (testing.OtherAddress esp fd size entry_point headers header va memory other other_memory) stands
      (SPAWN_GIVEN + PHDR_LEN * (other % SEGMENT_MAX) + P_VADDR)
      (λ v k b h. let it = h.comparing.testing_it in
      segment_loads (testing.OtherAddress esp fd size entry_point headers header va memory other other_memory) it other (below h.comparing.other_below)
      P_VADDR (omega arith) refl (headers_in it.so.table other).va (address_at it.so.table other)
      (other_address_goes v k b path argv esp fd size entry_point headers header memory va other other_memory h))
