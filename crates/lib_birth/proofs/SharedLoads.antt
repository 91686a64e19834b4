-- The laws of spawn as it looks which pages of a segment that is only read another segment has that may be written.
use Rattle.std.proofs.Common.{◌≡◌, ◌≢◌, ◌∙◌, ◌⊎◌, inl, inr, ◌+◌, ◌*◌, ◌<◌, ◌≤◌, ◌==◌, ◌&&◌, ◌||◌, ℕ, Bool, true, false, not, List, refl, sym, ap, subst}
use Rattle.std.proofs.Common.{arith, if◌then◌else◌}
use Rattle.std.specs.Prelude.{bit_and, nat_le, nat_lt, slice_index}
use Rattle.std.proofs.lemmas.Bool.{and_parts}
use Rattle.std.proofs.lemmas.Bool.Decides.{nat_tests}
use Rattle.jos_base.specs.declared.numbers.TheConstants.{FDTABLE}
use Rattle.jos_base.specs.Environments.{Slot, is_live}
use Rattle.jos_base.specs.KernelState.{KernelState, slot_at}
use Rattle.jos_base.specs.Words.{page_number, word_at}
use Rattle.jos_elf.specs.declared.header.ProgramHeader.{ProgramHeader}
use Rattle.jos_elf.specs.declared.image.Segment.{Segment}
use Rattle.jos_elf.specs.declared.numbers.TheConstants.{P_FLAGS, P_MEMSZ, P_TYPE, P_VADDR, PF_W, PHDR_LEN, PT_LOAD}
use Rattle.jos_elf.specs.Pages.{any_writes, touches}
use Rattle.jos_elf.specs.Parsed.{Apart, Lies, segment_of, segments_of}
use Rattle.jos_elf.specs.Tests.{is_loaded}
use Rattle.lib_os.specs.declared.place.Step.TheVariants as step
use Rattle.lib_os.specs.declared.spawn_steps.FinishingStep.{FinishingStep}
use Rattle.lib_os.specs.declared.spawn_steps.FinishingStep.TheVariants as finishing
use Rattle.lib_os.specs.declared.spawn_steps.SpawnStep.{SpawnStep}
use Rattle.lib_os.specs.declared.spawn_steps.SpawnStep.TheVariants as spawn
use Rattle.lib_os.specs.AbstractSpawn.{headers_in}
use Rattle.lib_os.specs.AbstractState.{Born, ImageRead}
use Rattle.lib_os.specs.LibraryPages.{View}
use Rattle.lib_os.specs.Places.{place_of}
use Rattle.lib_os.specs.StandsAtSpawn.{HasImage, IsOfKind, IsReadOnly, IsSharing, IsWritable, IsWritableOf, nothing_known}
use Rattle.lib_os.proofs.SpawnedGoes.{goes_still}
use Rattle.lib_os.proofs.SpawnOwnPages.{spawn_words, spawns_at}
use Rattle.lib_stage.specs.ServiceSteps.{ServiceHolds}
use Rattle.lib_request.proofs.BorneGoes.{BorneGoesTo}
use Rattle.lib_child.specs.ChildSegments.{last_page}
use Rattle.lib_child.proofs.BearingOn.{none_mine}
use Rattle.lib_child.proofs.PiecesLeft.{count_of}
use Rattle.lib_child.proofs.HeaderSays.{has_memory, image_lies, lies_low, no_memory, other_kind, says_kind, says_mem_len, says_va}
use Rattle.lib_birth.specs.declared.stage.BirthStage.TheVariants as stage
use Rattle.lib_birth.specs.BirthStages.{births}
use Rattle.lib_birth.specs.FinishingStages.{end_without, others_from, page_without, touches as has_part}
use Rattle.lib_birth.proofs.BirthFalls.{shared_address_falls, shared_flags_falls, shared_kind_falls, shared_memory_falls}
use Rattle.lib_birth.proofs.RightsApart.{image_apart, last_is, left_are, pages_are}
use Rattle.lib_birth.proofs.RightsHeaders.{LoadsHeader, choice_is, header_load_holds}
use Rattle.lib_birth.proofs.RightsLoads.{flags_say}
use Rattle.lib_birth.proofs.RightsOn.{ArePages, IsAtRights, bytes_told, others_go}
use Rattle.lib_birth.proofs.RightsWrites.{header_writes, writes_more}

-- ---- one more is looked at

or_off : (c d : Bool) → d ≡ false → (c || d) ≡ c
or_off true d off = refl
or_off false d off = off

-- of which no page may be written
others_over : (image : ImageRead) (header page end other : ℕ) → ((p : ℕ) → header_writes p (headers_in image.table other) ≡ false) →
    ArePages image header page end other → ArePages image header page end (other + 1)
others_over image header page end other none pages p =
    pages p
    ∙ ap (λ (c : Bool). touches p (segment_of (headers_in image.table header)) && not c)
    (sym (writes_more (headers_in image.table) p other
    ∙ or_off (any_writes p (segments_of (headers_in image.table) other)) (header_writes p (headers_in image.table other)) (none p)))

-- it says of no segment
none_written : (header : ProgramHeader) (p : ℕ) → is_loaded header ≡ false → header_writes p header ≡ false
none_written header p none = ap (λ (c : Bool). c && (touches p (segment_of header) && (segment_of header).writable)) none

-- or of one that is only read
only_read : (header : ProgramHeader) (p : ℕ) → (segment_of header).writable ≡ false → header_writes p header ≡ false
only_read header p reads =
    ap (λ (c : Bool). is_loaded header && (touches p (segment_of header) && c)) reads ∙ by_tests (is_loaded header) (touches p (segment_of header))
  where
    by_tests : (c d : Bool) → (c && (d && false)) ≡ false
    by_tests true true = refl
    by_tests true false = refl
    by_tests false d = refl

-- ---- one that may be written

both_off : (c d e : Bool) → ((c && not d) && not e) ≡ (c && not (d || e))
both_off true true true = refl
both_off true true false = refl
both_off true false e = refl
both_off false d e = refl

same_and : (c d : Bool) → c ≡ true → d ≡ true → (e : Bool) → (c && (e && d)) ≡ e
same_and true true on also true = refl
same_and true true on also false = refl
same_and true false on also e = absurd (let contradiction : false ≡ true = also in cc)
same_and false d on also e = absurd (let contradiction : false ≡ true = on in cc)

module _ {v : View} {image : ImageRead} {headers : ℕ} (whole : HasImage v image headers) (header other : ℕ) (below : header < headers) (lower : other < headers)
    (reads : IsReadOnly (headers_in image.table header)) (writes : IsWritable (headers_in image.table other)) (page end : ℕ)
    (pages : ArePages image header page end other) where
  abbrev one : Segment
  one = segment_of (headers_in image.table header)

  abbrev more : Segment
  more = segment_of (headers_in image.table other)

  lies : Lies whole.size (segment_of (headers_in image.table header))
  lies = image_lies whole header below reads.0

  more_lies : Lies whole.size (segment_of (headers_in image.table other))
  more_lies = image_lies whole other lower writes.0

  low : one.va + one.mem_len ≤ FDTABLE
  low = lies_low (headers_in image.table header) lies

  more_low : more.va + more.mem_len ≤ FDTABLE
  more_low = lies_low (headers_in image.table other) more_lies

  -- it is another one
  ne : header ≢ other
  ne same = let contradiction : false ≡ true = sym reads.1 ∙ ap (λ (m : ℕ). (segment_of (headers_in image.table m)).writable) same ∙ writes.1 in absurd cc

  apart : (last_page one.va one.mem_len ≤ page_number more.va) ⊎ (last_page more.va more.mem_len ≤ page_number one.va)
  apart = by_order (image_apart whole header other below lower ne reads.0 writes.0)
    where
      by_order : Apart (segment_of (headers_in image.table header)) (segment_of (headers_in image.table other)) →
          (last_page one.va one.mem_len ≤ page_number more.va) ⊎ (last_page more.va more.mem_len ≤ page_number one.va)
      by_order (inl before) =
          let some = lies.some in
          let last = last_is one.va one.mem_len lies.some low in
          inl (omega (arith, before, some, last))
      by_order (inr behind) =
          let some = more_lies.some in
          let last = last_is more.va more.mem_len more_lies.some more_low in
          inr (omega (arith, behind, some, last))

  inside : (q : ℕ) → (nat_le page q && nat_lt q end) ≡ true → (page_number one.va ≤ q) × (q ≤ last_page one.va one.mem_len)
  inside q among =
      let parts = and_parts (touches q one) (not (any_writes q (segments_of (headers_in image.table) other))) (sym (pages q) ∙ among) in
      let its = and_parts (nat_le (page_number one.va) q) (nat_le q (last_page one.va one.mem_len)) (sym (pages_are one q lies.some low) ∙ parts.0) in
      let first = its.0 in
      let last = its.1 in
      (grind (arith, nat_tests, first), grind (arith, nat_tests, last))

  -- what is left without its pages
  pub others_without : ArePages image header (page_without page (headers_in image.table other).va (headers_in image.table other).mem_len)
      (end_without end (headers_in image.table other).va (headers_in image.table other).mem_len) (other + 1)
  others_without p =
      left_are (page_number one.va) (last_page one.va one.mem_len) (page_number more.va) (last_page more.va more.mem_len) page end apart inside p
      ∙ (λ i. pages p i && not (part_is i))
      ∙ both_off (touches p one) (any_writes p (segments_of (headers_in image.table) other)) (header_writes p (headers_in image.table other))
      ∙ ap (λ (c : Bool). touches p one && not c) (sym (writes_more (headers_in image.table) p other))
    where
      part_is : has_part p more.va more.mem_len ≡ header_writes p (headers_in image.table other)
      part_is =
          sym (pages_are more p more_lies.some more_low)
          ∙ sym (same_and (is_loaded (headers_in image.table other)) more.writable writes.0 writes.1 (touches p more))

-- ---- whatever its words are

abbrev sharing_told : {v : View} {k : Slot} {b : Born} {path argv fd headers child header page end other : ℕ} {known : ProgramHeader → Type 0} →
    (then_known : ProgramHeader → Type 0) → (h : IsSharing v k b path argv fd headers child header page end other known) (words : List ℕ) →
    then_known (headers_in h.settling_it.has.image.table other) →
    IsSharing v (record k { extra = words }) b path argv fd headers child header page end other then_known
sharing_told then_known h words so = record {
  settling_it = record {
    has = bytes_told words h.settling_it.has;
    whole = h.settling_it.whole;
    below = h.settling_it.below;
    so = h.settling_it.so;
  };
  most = h.most;
  pages = h.pages;
  so = so;
}

-- ---- the laws

module _ (s : KernelState) (n path argv : ℕ) (live : is_live (slot_at s n) ≡ true) (fd headers child header page end other : ℕ) where
  abbrev over : SpawnStep
  over = others_from fd headers child header page end (other + 1)

  -- it goes on behind one of which no page may be written
  over_goes : (v : View) (b : Born) (at : FinishingStep) {known : ProgramHeader → Type 0} →
      (h : IsSharing v (slot_at s n) b path argv fd headers child header page end other known) → other < headers →
      ((p : ℕ) → header_writes p (headers_in h.settling_it.has.image.table other) ≡ false) →
      IsAtRights path argv (count_of h.settling_it.has.image) header 0 (spawn.Finishing at) →
      BorneGoesTo v (slot_at s n) b path argv child (spawn.Finishing at)
      (step.Spawning (others_from fd headers child header page end (other + 1)))
  over_goes v b at h lower none it =
      others_go h.settling_it.has h.settling_it.whole header page end (other + 1) h.settling_it.below h.settling_it.so (omega (arith, lower))
      (others_over h.settling_it.has.image header page end other none h.pages) (spawn.Finishing at) it

  -- ---- the kind of another one

  abbrev kind_step : FinishingStep
  kind_step = finishing.SharedKind fd headers child header page end other

  abbrev kind_next : ℕ → SpawnStep
  kind_next word =
      if word == PT_LOAD then spawn.Finishing (finishing.SharedFlags fd headers child header page end other)
      else others_from fd headers child header page end (other + 1)

  kind_loads : (v : View) (b : Born) →
      IsSharing v (slot_at s n) b path argv fd headers child header page end other nothing_known × (other < headers) →
      LoadsHeader v (slot_at s n) b path argv (finishing.SharedKind fd headers child header page end other) kind_next other P_TYPE
  kind_loads v b both = record {
    image = both.0.settling_it.has.image;
    headers = headers;
    whole = both.0.settling_it.whole;
    below = both.1;
    goes = by_kind (word == PT_LOAD) refl;
    falls = shared_kind_falls path argv fd headers child header both.0.settling_it.below page end other both.1;
  }
    where
      word : ℕ
      word = word_at (slice_index both.0.settling_it.has.image.table) (PHDR_LEN * other + P_TYPE)

      by_kind : (c : Bool) → (word == PT_LOAD) ≡ c → BorneGoesTo v (slot_at s n) b path argv child (spawn.Finishing kind_step)
          (step.Spawning (if c then spawn.Finishing (finishing.SharedFlags fd headers child header page end other)
          else others_from fd headers child header page end (other + 1)))
      by_kind true test =
          let to : SpawnStep = spawn.Finishing (finishing.SharedFlags fd headers child header page end other) in
          record {
            at = to;
            is = refl;
            held = refl;
            bears = refl;
            childs = λ p. refl;
            told = λ q is. is;
            goes = goes_still child (spawn.Finishing kind_step) to (λ m progress is. is);
            stands = (
              sharing_told IsOfKind both.0 (spawn_words to) (sym (says_kind both.0.settling_it.has.image.table other) ∙ grind (arith, nat_tests, test)),
              both.1,
            );
          }
      by_kind false test =
          over_goes v b kind_step both.0 both.1
          (λ p. none_written (headers_in both.0.settling_it.has.image.table other) p
          (other_kind (headers_in both.0.settling_it.has.image.table other)
          (ap (λ (m : ℕ). m == PT_LOAD) (sym (says_kind both.0.settling_it.has.image.table other)) ∙ test)))
          (record { held = refl; mine = none_mine (spawn.Finishing kind_step) refl refl; was = λ progress is. is })

  pub shared_kind_holds : place_of (slot_at s n) ≡ spawns_at path argv (spawn.Finishing (finishing.SharedKind fd headers child header page end other)) →
      ServiceHolds s n (births (stage.Finishing (finishing.SharedKind fd headers child header page end other)))
  shared_kind_holds stands =
      header_load_holds s n path argv live kind_step stands refl kind_next
      (λ word. choice_is (word == PT_LOAD) (spawn.Finishing (finishing.SharedFlags fd headers child header page end other)) over) other P_TYPE (omega arith) refl
      kind_loads

  -- ---- whether it may be written

  abbrev flags_step : FinishingStep
  flags_step = finishing.SharedFlags fd headers child header page end other

  abbrev flags_next : ℕ → SpawnStep
  flags_next flags =
      if bit_and flags PF_W == 0 then others_from fd headers child header page end (other + 1)
      else spawn.Finishing (finishing.SharedMemory fd headers child header page end other)

  flags_loads : (v : View) (b : Born) →
      IsSharing v (slot_at s n) b path argv fd headers child header page end other IsOfKind × (other < headers) →
      LoadsHeader v (slot_at s n) b path argv (finishing.SharedFlags fd headers child header page end other) flags_next other P_FLAGS
  flags_loads v b both = record {
    image = both.0.settling_it.has.image;
    headers = headers;
    whole = both.0.settling_it.whole;
    below = both.1;
    goes = by_flags (bit_and flags PF_W == 0) refl;
    falls = shared_flags_falls path argv fd headers child header both.0.settling_it.below page end other both.1;
  }
    where
      flags : ℕ
      flags = word_at (slice_index both.0.settling_it.has.image.table) (PHDR_LEN * other + P_FLAGS)

      by_flags : (c : Bool) → (bit_and flags PF_W == 0) ≡ c → BorneGoesTo v (slot_at s n) b path argv child (spawn.Finishing flags_step)
          (step.Spawning (if c then others_from fd headers child header page end (other + 1)
          else spawn.Finishing (finishing.SharedMemory fd headers child header page end other)))
      by_flags true test =
          over_goes v b flags_step both.0 both.1
          (λ p. only_read (headers_in both.0.settling_it.has.image.table other) p (flags_say both.0.settling_it.has.image.table other true test))
          (record { held = refl; mine = none_mine (spawn.Finishing flags_step) refl refl; was = λ progress is. is })
      by_flags false test =
          let to : SpawnStep = spawn.Finishing (finishing.SharedMemory fd headers child header page end other) in
          record {
            at = to;
            is = refl;
            held = refl;
            bears = refl;
            childs = λ p. refl;
            told = λ q is. is;
            goes = goes_still child (spawn.Finishing flags_step) to (λ m progress is. is);
            stands = (
              sharing_told (λ one. IsOfKind one × ((segment_of one).writable ≡ true)) both.0 (spawn_words to) (both.0.so, flags_say both.0.settling_it.has.image.table other false test),
              both.1,
            );
          }

  pub shared_flags_holds : place_of (slot_at s n) ≡ spawns_at path argv (spawn.Finishing (finishing.SharedFlags fd headers child header page end other)) →
      ServiceHolds s n (births (stage.Finishing (finishing.SharedFlags fd headers child header page end other)))
  shared_flags_holds stands =
      header_load_holds s n path argv live flags_step stands refl flags_next
      (λ flags. choice_is (bit_and flags PF_W == 0) over (spawn.Finishing (finishing.SharedMemory fd headers child header page end other))) other P_FLAGS
      (omega arith) refl flags_loads

  -- ---- how much memory it has

  abbrev memory_step : FinishingStep
  memory_step = finishing.SharedMemory fd headers child header page end other

  abbrev memory_next : ℕ → SpawnStep
  memory_next memory =
      if memory == 0 then others_from fd headers child header page end (other + 1)
      else spawn.Finishing (finishing.SharedAddress fd headers child header page end other memory)

  memory_loads : (v : View) (b : Born) →
      IsSharing v (slot_at s n) b path argv fd headers child header page end other (λ one. IsOfKind one × ((segment_of one).writable ≡ true))
      × (other < headers) →
      LoadsHeader v (slot_at s n) b path argv (finishing.SharedMemory fd headers child header page end other) memory_next other P_MEMSZ
  memory_loads v b both = record {
    image = both.0.settling_it.has.image;
    headers = headers;
    whole = both.0.settling_it.whole;
    below = both.1;
    goes = by_memory (memory == 0) refl;
    falls = shared_memory_falls path argv fd headers child header both.0.settling_it.below page end other both.1;
  }
    where
      memory : ℕ
      memory = word_at (slice_index both.0.settling_it.has.image.table) (PHDR_LEN * other + P_MEMSZ)

      by_memory : (c : Bool) → (memory == 0) ≡ c → BorneGoesTo v (slot_at s n) b path argv child (spawn.Finishing memory_step)
          (step.Spawning (if c then others_from fd headers child header page end (other + 1)
          else spawn.Finishing (finishing.SharedAddress fd headers child header page end other memory)))
      by_memory true test =
          over_goes v b memory_step both.0 both.1
          (λ p. none_written (headers_in both.0.settling_it.has.image.table other) p
          (no_memory (headers_in both.0.settling_it.has.image.table other)
          (sym (says_mem_len both.0.settling_it.has.image.table other) ∙ grind (arith, nat_tests, test))))
          (record { held = refl; mine = none_mine (spawn.Finishing memory_step) refl refl; was = λ progress is. is })
      by_memory false test =
          let to : SpawnStep = spawn.Finishing (finishing.SharedAddress fd headers child header page end other memory) in
          let some : memory ≢ 0 = grind (arith, nat_tests, test) in
          record {
            at = to;
            is = refl;
            held = refl;
            bears = refl;
            childs = λ p. refl;
            told = λ q is. is;
            goes = goes_still child (spawn.Finishing memory_step) to (λ m progress is. is);
            stands = (
              sharing_told (IsWritableOf memory) both.0 (spawn_words to) (
                (
                  has_memory (headers_in both.0.settling_it.has.image.table other) both.0.so.0
                      (λ none. some (says_mem_len both.0.settling_it.has.image.table other ∙ none)),
                  both.0.so.1,
                ),
                sym (says_mem_len both.0.settling_it.has.image.table other),
              ),
              both.1,
            );
          }

  pub shared_memory_holds : place_of (slot_at s n) ≡ spawns_at path argv (spawn.Finishing (finishing.SharedMemory fd headers child header page end other)) →
      ServiceHolds s n (births (stage.Finishing (finishing.SharedMemory fd headers child header page end other)))
  shared_memory_holds stands =
      header_load_holds s n path argv live memory_step stands refl memory_next
      (λ memory. choice_is (memory == 0) over (spawn.Finishing (finishing.SharedAddress fd headers child header page end other memory))) other P_MEMSZ
      (omega arith) refl memory_loads

  -- ---- where it begins

  module _ (memory : ℕ) where
    abbrev address_step : FinishingStep
    address_step = finishing.SharedAddress fd headers child header page end other memory

    abbrev address_next : ℕ → SpawnStep
    address_next va = others_from fd headers child header (page_without page va memory) (end_without end va memory) (other + 1)

    address_loads : (v : View) (b : Born) →
        IsSharing v (slot_at s n) b path argv fd headers child header page end other (IsWritableOf memory) × (other < headers) →
        LoadsHeader v (slot_at s n) b path argv (finishing.SharedAddress fd headers child header page end other memory) address_next other P_VADDR
    address_loads v b both = record {
      image = both.0.settling_it.has.image;
      headers = headers;
      whole = both.0.settling_it.whole;
      below = both.1;
      goes = others_go both.0.settling_it.has both.0.settling_it.whole header (page_without page va memory) (end_without end va memory) (other + 1)
          both.0.settling_it.below both.0.settling_it.so (let lower = both.1 in omega (arith, lower)) pages (spawn.Finishing address_step)
          (record { held = refl; mine = none_mine (spawn.Finishing address_step) refl refl; was = λ progress is. is });
      falls = shared_address_falls path argv fd headers child header both.0.settling_it.below page end other both.1 memory;
    }
      where
        va : ℕ
        va = word_at (slice_index both.0.settling_it.has.image.table) (PHDR_LEN * other + P_VADDR)

        without : ArePages both.0.settling_it.has.image header
            (page_without page (headers_in both.0.settling_it.has.image.table other).va (headers_in both.0.settling_it.has.image.table other).mem_len)
            (end_without end (headers_in both.0.settling_it.has.image.table other).va (headers_in both.0.settling_it.has.image.table other).mem_len) (other + 1)
        without =
            others_without both.0.settling_it.whole header other both.0.settling_it.below both.1 both.0.settling_it.so both.0.so.0 page end both.0.pages

        pages : ArePages both.0.settling_it.has.image header (page_without page va memory) (end_without end va memory) (other + 1)
        pages =
            subst (λ (q : ℕ). ArePages both.0.settling_it.has.image header (page_without page q memory) (end_without end q memory) (other + 1))
            (sym (says_va both.0.settling_it.has.image.table other))
            (subst (λ (m : ℕ). ArePages both.0.settling_it.has.image header (page_without page (headers_in both.0.settling_it.has.image.table other).va m)
            (end_without end (headers_in both.0.settling_it.has.image.table other).va m) (other + 1)) both.0.so.1 without)

    pub shared_address_holds :
        place_of (slot_at s n) ≡ spawns_at path argv (spawn.Finishing (finishing.SharedAddress fd headers child header page end other memory)) →
        ServiceHolds s n (births (stage.Finishing (finishing.SharedAddress fd headers child header page end other memory)))
    shared_address_holds stands =
        header_load_holds s n path argv live address_step stands refl address_next (λ va. refl) other P_VADDR (omega arith) refl address_loads
