-- The laws of spawn as it looks whether the pages of a program header's segment are only read, and which they are.
use Rattle.std.proofs.Common.{◌≡◌, ◌≢◌, ◌∙◌, ◌+◌, ◌-◌, ◌*◌, ◌≤◌, ◌==◌, ◌&&◌, ℕ, Bool, true, false, not, List, refl, sym, ap, arith, if◌then◌else◌}
use Rattle.std.proofs.Common.{◌++◌}
use Rattle.std.specs.Prelude.{bit_and, nat_le, nat_lt, slice_index}
use Rattle.std.proofs.lemmas.Bool.Decides.{nat_tests}
use Rattle.jos_base.specs.declared.numbers.TheConstants.{FDTABLE}
use Rattle.jos_base.specs.Counting.{page_limit}
use Rattle.jos_base.specs.Environments.{is_live}
use Rattle.jos_base.specs.KernelState.{KernelState, slot_at}
use Rattle.jos_base.specs.Words.{page_number, word_at}
use Rattle.jos_elf.specs.declared.header.ProgramHeader.{ProgramHeader}
use Rattle.jos_elf.specs.declared.numbers.TheConstants.{P_FLAGS, P_MEMSZ, P_TYPE, P_VADDR, PF_W, PHDR_LEN, PT_LOAD}
use Rattle.jos_elf.specs.Headers.{program_header_at}
use Rattle.jos_elf.specs.Pages.{touches}
use Rattle.jos_elf.specs.Parsed.{Lies, segment_of}
use Rattle.lib_os.specs.declared.place.Step.TheVariants as step
use Rattle.lib_os.specs.declared.spawn_steps.FinishingStep.{FinishingStep}
use Rattle.lib_os.specs.declared.spawn_steps.FinishingStep.TheVariants as finishing
use Rattle.lib_os.specs.declared.spawn_steps.SpawnStep.{SpawnStep}
use Rattle.lib_os.specs.declared.spawn_steps.SpawnStep.TheVariants as spawn
use Rattle.lib_os.specs.AbstractSpawn.{all_of, headers_in}
use Rattle.lib_os.specs.AbstractState.{Born}
use Rattle.lib_os.specs.LibraryPages.{View}
use Rattle.lib_os.specs.Places.{place_of}
use Rattle.lib_os.specs.SpawnedChild.{bytes_replied}
use Rattle.lib_os.specs.StandsAtSpawn.{IsOfKind, IsReadOnly, IsSettling, nothing_known}
use Rattle.lib_os.proofs.SpawnedGoes.{goes_still}
use Rattle.lib_os.proofs.SpawnOwnPages.{spawn_words, spawns_at}
use Rattle.lib_stage.specs.ServiceSteps.{ServiceHolds}
use Rattle.lib_request.proofs.BorneGoes.{BorneGoesTo}
use Rattle.lib_child.specs.ChildSegments.{last_page, rights_from}
use Rattle.lib_child.proofs.BearingOn.{none_mine}
use Rattle.lib_child.proofs.HeaderSays.{has_memory, image_lies, lies_low, no_memory, other_kind, says_kind, says_mem_len, says_va}
use Rattle.lib_child.proofs.PiecesLeft.{count_of}
use Rattle.lib_birth.specs.declared.stage.BirthStage.TheVariants as stage
use Rattle.lib_birth.specs.BirthStages.{births}
use Rattle.lib_birth.specs.FinishingStages.{others_from}
use Rattle.lib_birth.proofs.BirthFalls.{address_falls, flags_falls, kind_falls, memory_falls}
use Rattle.lib_birth.proofs.RightsApart.{pages_are}
use Rattle.lib_birth.proofs.RightsHeaders.{LoadsHeader, choice_is, header_load_holds}
use Rattle.lib_birth.proofs.RightsOn.{ArePages, bytes_told, others_go, rights_go}
use Rattle.lib_birth.proofs.RightsProgress.{rights_kept, rights_over}
use Rattle.lib_birth.proofs.RightsWrites.{writes_none}

pub says_flags : (table : List ℕ) (header : ℕ) → word_at (slice_index table) (PHDR_LEN * header + P_FLAGS) ≡ (headers_in table header).flags
unfolding program_header_at
says_flags table header = refl

-- by its flags it may be written, or not
pub flags_say : (table : List ℕ) (header : ℕ) (c : Bool) → (bit_and (word_at (slice_index table) (PHDR_LEN * header + P_FLAGS)) PF_W == 0) ≡ c →
    (segment_of (headers_in table header)).writable ≡ not c
flags_say table header c test = ap (λ (flags : ℕ). not (bit_and flags PF_W == 0)) (sym (says_flags table header)) ∙ ap not test

-- a segment has no more pages than there are
few_pages : (va memory : ℕ) → memory ≤ FDTABLE → last_page va memory + 1 - page_number va ≤ page_limit
unfolding page_limit
few_pages va memory low = omega (arith, low)

module _ (s : KernelState) (n path argv : ℕ) (live : is_live (slot_at s n) ≡ true) (fd headers child header : ℕ) where
  abbrev behind : SpawnStep
  behind = rights_from fd headers child (header + 1)

  abbrev Settles : View → Born → (ProgramHeader → Type 0) → Type 0
  Settles v b known = IsSettling v (slot_at s n) b path argv fd headers child header known

  -- ---- its kind

  abbrev kind_step : FinishingStep
  kind_step = finishing.RightsKind fd headers child header

  abbrev kind_next : ℕ → SpawnStep
  kind_next word = if word == PT_LOAD then spawn.Finishing (finishing.RightsFlags fd headers child header) else rights_from fd headers child (header + 1)

  kind_loads : (v : View) (b : Born) → IsSettling v (slot_at s n) b path argv fd headers child header nothing_known →
      LoadsHeader v (slot_at s n) b path argv (finishing.RightsKind fd headers child header) kind_next header P_TYPE
  kind_loads v b h = record {
    image = h.has.image;
    headers = headers;
    whole = h.whole;
    below = h.below;
    goes = by_kind (word == PT_LOAD) refl;
    falls = kind_falls path argv fd headers child header h.below;
  }
    where
      word : ℕ
      word = word_at (slice_index h.has.image.table) (PHDR_LEN * header + P_TYPE)

      by_kind : (c : Bool) → (word == PT_LOAD) ≡ c → BorneGoesTo v (slot_at s n) b path argv child (spawn.Finishing kind_step)
          (step.Spawning (if c then spawn.Finishing (finishing.RightsFlags fd headers child header) else rights_from fd headers child (header + 1)))
      by_kind true test =
          let to : SpawnStep = spawn.Finishing (finishing.RightsFlags fd headers child header) in
          record {
            at = to;
            is = refl;
            held = refl;
            bears = refl;
            childs = λ p. refl;
            told = λ q is. is;
            goes = goes_still child (spawn.Finishing kind_step) to (λ m progress is. is);
            stands = record {
              has = bytes_told (spawn_words to) h.has;
              whole = h.whole;
              below = h.below;
              so = sym (says_kind h.has.image.table header) ∙ grind (arith, nat_tests, test);
            };
          }
      by_kind false test =
          rights_go h.has h.whole (spawn.Finishing kind_step) header 0
          (record { held = refl; mine = none_mine (spawn.Finishing kind_step) refl refl; was = λ progress is. is }) h.below
          (rights_over b h.has.image (all_of h.has.pieces ++ bytes_replied b.phase) (count_of h.has.image) header
          (other_kind (headers_in h.has.image.table header) (ap (λ (m : ℕ). m == PT_LOAD) (sym (says_kind h.has.image.table header)) ∙ test)))

  pub rights_kind_holds : place_of (slot_at s n) ≡ spawns_at path argv (spawn.Finishing (finishing.RightsKind fd headers child header)) →
      ServiceHolds s n (births (stage.Finishing (finishing.RightsKind fd headers child header)))
  rights_kind_holds stands =
      header_load_holds s n path argv live kind_step stands refl kind_next
      (λ word. choice_is (word == PT_LOAD) (spawn.Finishing (finishing.RightsFlags fd headers child header)) behind) header P_TYPE (omega arith) refl kind_loads

  -- ---- whether it may be written

  abbrev flags_step : FinishingStep
  flags_step = finishing.RightsFlags fd headers child header

  abbrev flags_next : ℕ → SpawnStep
  flags_next flags =
      if bit_and flags PF_W == 0 then spawn.Finishing (finishing.RightsMemory fd headers child header) else rights_from fd headers child (header + 1)

  flags_loads : (v : View) (b : Born) → IsSettling v (slot_at s n) b path argv fd headers child header IsOfKind →
      LoadsHeader v (slot_at s n) b path argv (finishing.RightsFlags fd headers child header) flags_next header P_FLAGS
  flags_loads v b h = record {
    image = h.has.image;
    headers = headers;
    whole = h.whole;
    below = h.below;
    goes = by_flags (bit_and flags PF_W == 0) refl;
    falls = flags_falls path argv fd headers child header h.below;
  }
    where
      flags : ℕ
      flags = word_at (slice_index h.has.image.table) (PHDR_LEN * header + P_FLAGS)

      by_flags : (c : Bool) → (bit_and flags PF_W == 0) ≡ c → BorneGoesTo v (slot_at s n) b path argv child (spawn.Finishing flags_step)
          (step.Spawning (if c then spawn.Finishing (finishing.RightsMemory fd headers child header) else rights_from fd headers child (header + 1)))
      by_flags true test =
          let to : SpawnStep = spawn.Finishing (finishing.RightsMemory fd headers child header) in
          record {
            at = to;
            is = refl;
            held = refl;
            bears = refl;
            childs = λ p. refl;
            told = λ q is. is;
            goes = goes_still child (spawn.Finishing flags_step) to (λ m progress is. is);
            stands = record {
              has = bytes_told (spawn_words to) h.has;
              whole = h.whole;
              below = h.below;
              so = (h.so, flags_say h.has.image.table header true test);
            };
          }
      by_flags false test =
          rights_go h.has h.whole (spawn.Finishing flags_step) header 0
          (record { held = refl; mine = none_mine (spawn.Finishing flags_step) refl refl; was = λ progress is. is }) h.below
          (rights_kept b h.has.image (all_of h.has.pieces ++ bytes_replied b.phase) (count_of h.has.image) header
          (flags_say h.has.image.table header false test))

  pub rights_flags_holds : place_of (slot_at s n) ≡ spawns_at path argv (spawn.Finishing (finishing.RightsFlags fd headers child header)) →
      ServiceHolds s n (births (stage.Finishing (finishing.RightsFlags fd headers child header)))
  rights_flags_holds stands =
      header_load_holds s n path argv live flags_step stands refl flags_next
      (λ flags. choice_is (bit_and flags PF_W == 0) (spawn.Finishing (finishing.RightsMemory fd headers child header)) behind) header P_FLAGS (omega arith) refl
      flags_loads

  -- ---- how much memory it has

  abbrev memory_step : FinishingStep
  memory_step = finishing.RightsMemory fd headers child header

  abbrev memory_next : ℕ → SpawnStep
  memory_next memory =
      if memory == 0 then rights_from fd headers child (header + 1) else spawn.Finishing (finishing.RightsAddress fd headers child header memory)

  memory_loads : (v : View) (b : Born) →
      IsSettling v (slot_at s n) b path argv fd headers child header (λ one. IsOfKind one × ((segment_of one).writable ≡ false)) →
      LoadsHeader v (slot_at s n) b path argv (finishing.RightsMemory fd headers child header) memory_next header P_MEMSZ
  memory_loads v b h = record {
    image = h.has.image;
    headers = headers;
    whole = h.whole;
    below = h.below;
    goes = by_memory (memory == 0) refl;
    falls = memory_falls path argv fd headers child header h.below;
  }
    where
      memory : ℕ
      memory = word_at (slice_index h.has.image.table) (PHDR_LEN * header + P_MEMSZ)

      by_memory : (c : Bool) → (memory == 0) ≡ c → BorneGoesTo v (slot_at s n) b path argv child (spawn.Finishing memory_step)
          (step.Spawning (if c then rights_from fd headers child (header + 1) else spawn.Finishing (finishing.RightsAddress fd headers child header memory)))
      by_memory true test =
          rights_go h.has h.whole (spawn.Finishing memory_step) header 0
          (record { held = refl; mine = none_mine (spawn.Finishing memory_step) refl refl; was = λ progress is. is }) h.below
          (rights_over b h.has.image (all_of h.has.pieces ++ bytes_replied b.phase) (count_of h.has.image) header
          (no_memory (headers_in h.has.image.table header) (sym (says_mem_len h.has.image.table header) ∙ grind (arith, nat_tests, test))))
      by_memory false test =
          let to : SpawnStep = spawn.Finishing (finishing.RightsAddress fd headers child header memory) in
          let more : memory ≢ 0 = grind (arith, nat_tests, test) in
          record {
            at = to;
            is = refl;
            held = refl;
            bears = refl;
            childs = λ p. refl;
            told = λ q is. is;
            goes = goes_still child (spawn.Finishing memory_step) to (λ m progress is. is);
            stands = record {
              has = bytes_told (spawn_words to) h.has;
              whole = h.whole;
              below = h.below;
              so = (
                (
                  has_memory (headers_in h.has.image.table header) h.so.0 (λ none. more (says_mem_len h.has.image.table header ∙ none)),
                  h.so.1,
                ),
                sym (says_mem_len h.has.image.table header),
              );
            };
          }

  pub rights_memory_holds : place_of (slot_at s n) ≡ spawns_at path argv (spawn.Finishing (finishing.RightsMemory fd headers child header)) →
      ServiceHolds s n (births (stage.Finishing (finishing.RightsMemory fd headers child header)))
  rights_memory_holds stands =
      header_load_holds s n path argv live memory_step stands refl memory_next
      (λ memory. choice_is (memory == 0) behind (spawn.Finishing (finishing.RightsAddress fd headers child header memory))) header P_MEMSZ (omega arith) refl
      memory_loads

  -- ---- where it begins

  module _ (memory : ℕ) where
    abbrev address_step : FinishingStep
    address_step = finishing.RightsAddress fd headers child header memory

    abbrev address_next : ℕ → SpawnStep
    address_next va = others_from fd headers child header (page_number va) (last_page va memory + 1) 0

    address_loads : (v : View) (b : Born) →
        IsSettling v (slot_at s n) b path argv fd headers child header (λ one. IsReadOnly one × (one.mem_len ≡ memory)) →
        LoadsHeader v (slot_at s n) b path argv (finishing.RightsAddress fd headers child header memory) address_next header P_VADDR
    address_loads v b h = record {
      image = h.has.image;
      headers = headers;
      whole = h.whole;
      below = h.below;
      goes = others_go h.has h.whole header (page_number va) (last_page va memory + 1) 0 h.below h.so.0 (omega arith) pages (spawn.Finishing address_step)
          (record { held = refl; mine = none_mine (spawn.Finishing address_step) refl refl; was = λ progress is. is });
      falls = λ word. address_falls path argv fd headers child header h.below memory word (few_pages word memory memory_low);
    }
      where
        va : ℕ
        va = word_at (slice_index h.has.image.table) (PHDR_LEN * header + P_VADDR)

        one : ProgramHeader
        one = headers_in h.has.image.table header

        lies : Lies h.whole.size (segment_of (headers_in h.has.image.table header))
        lies = image_lies h.whole header h.below h.so.0.0

        low : (headers_in h.has.image.table header).va + (headers_in h.has.image.table header).mem_len ≤ FDTABLE
        low = lies_low (headers_in h.has.image.table header) lies

        memory_low : memory ≤ FDTABLE
        memory_low = let under = low in let is = h.so.1 in omega (arith, under, is)

        up_to : (last p : ℕ) → nat_lt p (last + 1) ≡ nat_le p last
        up_to last p = grind (arith, nat_tests)

        all : (c : Bool) → c ≡ (c && true)
        all true = refl
        all false = refl

        pages : ArePages h.has.image header (page_number va) (last_page va memory + 1) 0
        pages p =
            ap (λ (c : Bool). nat_le (page_number va) p && c) (up_to (last_page va memory) p)
            ∙ (λ i. nat_le (page_number (says_va h.has.image.table header i)) p && nat_le p (last_page (says_va h.has.image.table header i) (sym h.so.1 i)))
            ∙ sym (pages_are (segment_of (headers_in h.has.image.table header)) p lies.some low)
            ∙ all (touches p (segment_of (headers_in h.has.image.table header)))
            ∙ ap (λ (c : Bool). touches p (segment_of (headers_in h.has.image.table header)) && not c) (sym (writes_none (headers_in h.has.image.table) p))

    pub rights_address_holds : place_of (slot_at s n) ≡ spawns_at path argv (spawn.Finishing (finishing.RightsAddress fd headers child header memory)) →
        ServiceHolds s n (births (stage.Finishing (finishing.RightsAddress fd headers child header memory)))
    rights_address_holds stands =
        header_load_holds s n path argv live address_step stands refl address_next (λ va. refl) header P_VADDR (omega arith) refl address_loads
