-- The laws of spawn as it looks at the program headers for the bytes of its child's segments: which piece is asked for next, and where
-- the one that came is put.
use Rattle.std.proofs.Common.{◌≡◌, ◌≢◌, ◌∙◌, ◌+◌, ◌-◌, ◌*◌, ◌%◌, ◌^◌, ◌<◌, ◌≤◌, ◌==◌, ◌&&◌, ◌||◌, ◌++◌, ℕ, Bool, true, false, not, refl, sym, ap, arith}
use Rattle.std.proofs.Common.{if◌then◌else◌}
use Rattle.std.specs.Prelude.{min, nat_lt, slice_index}
use Rattle.std.proofs.lemmas.Bool.Decides.{nat_tests}
use Rattle.std.proofs.Math.Nat.{min-eq_left, min-eq_right}
use Rattle.jos_base.specs.Environments.{Slot, is_live}
use Rattle.jos_base.specs.KernelState.{KernelState, slot_at}
use Rattle.jos_base.specs.Words.{page_number, word_at}
use Rattle.jos_elf.specs.declared.header.ProgramHeader.{ProgramHeader}
use Rattle.jos_elf.specs.declared.numbers.TheConstants.{P_FILESZ, P_MEMSZ, P_OFFSET, P_TYPE, P_VADDR, PHDR_LEN, PT_LOAD}
use Rattle.jos_elf.specs.Tests.{is_loaded}
use Rattle.lib_os.specs.declared.numbers.TheConstants.{FD_SIZE, SPAWN_GIVEN, SPAWN_HERE, SPAWN_STACK, TRANSFER_MAX}
use Rattle.lib_os.specs.declared.place.Step.TheVariants as step
use Rattle.lib_os.specs.declared.spawn_steps.BearingStep.TheVariants as bearing
use Rattle.lib_os.specs.declared.spawn_steps.FilePart.TheVariants as part
use Rattle.lib_os.specs.declared.spawn_steps.ReadStep.TheVariants as read
use Rattle.lib_os.specs.declared.spawn_steps.SpawnStep.{SpawnStep}
use Rattle.lib_os.specs.declared.spawn_steps.SpawnStep.TheVariants as spawn
use Rattle.lib_os.specs.AbstractSpawn.{all_of, headers_in}
use Rattle.lib_os.specs.AbstractState.{AbstractState, Born}
use Rattle.lib_os.specs.LibraryPages.{View}
use Rattle.lib_os.specs.Places.{place_of}
use Rattle.lib_os.specs.Rows.{Names, descriptor_page}
use Rattle.lib_os.specs.SpawnedChild.{bytes_replied}
use Rattle.lib_os.specs.StandsAtSpawn.{BearingStands, IsFilled, IsFilling, IsOfFileWith, IsOfKind, IsPieceEnd, IsPutting, before_piece, nothing_known}
use Rattle.lib_os.specs.StandsFor.{StandsFor, view_of}
use Rattle.lib_os.proofs.PipeBytes.{word_small}
use Rattle.lib_os.proofs.SpawnedGoes.{goes_still}
use Rattle.lib_os.proofs.SpawnedMoves.{descriptor_counts}
use Rattle.lib_os.proofs.SpawnedProgress.{filled_over}
use Rattle.lib_os.proofs.SpawnOwnPages.{spawn_there, spawn_words, spawns_at}
use Rattle.lib_stage.specs.declared.ask.Next.TheVariants as next
use Rattle.lib_stage.specs.ServiceSteps.{ServiceHolds}
use Rattle.lib_child.specs.BearingStages.{bears}
use Rattle.lib_child.specs.ChildSegments.{pieces_from}
use Rattle.lib_child.proofs.BearingOn.{HasUpTo, comes_goes, none_mine, pieces_come}
use Rattle.lib_child.proofs.BearingStays.{filled_told, putting_told}
use Rattle.lib_child.proofs.HeaderLoads.{LoadsHeader, header_load_holds}
use Rattle.lib_child.proofs.HeaderSays.{has_memory, image_lies, no_memory, other_kind, says_file_at, says_file_len, says_kind, says_mem_len, says_va}
use Rattle.lib_child.proofs.PiecesLeft.{behind_done, behind_over, packed_more, packed_over}

-- ---- behind a program header

module _ {v : View} {k : Slot} {b : Born} {path argv fd headers child header done : ℕ} (h : IsFilled v k b path argv fd headers child header done) where
  abbrev one : ProgramHeader
  one = headers_in h.image.table header

  -- it says of no segment
  pub up_to_over : is_loaded one ≡ false → done ≡ 0 → HasUpTo v k b path argv fd headers child (header + 1) h.image
  up_to_over none first = record {
    pieces = h.pieces;
    had = h.had;
    stage = h.stage;
    found = h.found;
    has = h.has;
    of_file = h.of_file;
    whole = h.whole;
    left = h.left ∙ behind_over h.image header done none;
    come = let come = h.come in let more = packed_over (headers_in h.image.table) header none in omega (arith, come, more, first);
    sized = h.sized;
  }

  -- or all its bytes are there
  pub up_to_done : is_loaded one ≡ true → done ≡ one.file_len → HasUpTo v k b path argv fd headers child (header + 1) h.image
  up_to_done loaded all = record {
    pieces = h.pieces;
    had = h.had;
    stage = h.stage;
    found = h.found;
    has = h.has;
    of_file = h.of_file;
    whole = h.whole;
    left = h.left ∙ behind_done h.image header done loaded all;
    come = let come = h.come in let more = packed_more (headers_in h.image.table) header loaded in omega (arith, come, more, all);
    sized = h.sized;
  }

-- where a piece ends
pub piece_end : (done length : ℕ) → done < length → done + min TRANSFER_MAX (length - done) ≡ min (done + TRANSFER_MAX) length
piece_end done length some = by_test (nat_lt TRANSFER_MAX (length - done)) refl
  where
    by_test : (c : Bool) → nat_lt TRANSFER_MAX (length - done) ≡ c → done + min TRANSFER_MAX (length - done) ≡ min (done + TRANSFER_MAX) length
    by_test true test =
        let more : TRANSFER_MAX < length - done = grind (arith, nat_tests, test) in
        ap (λ (m : ℕ). done + m) (min-eq_left (omega (arith, more))) ∙ sym (min-eq_left (omega (arith, more)))
    by_test false test =
        let few : length - done ≤ TRANSFER_MAX = grind (arith, nat_tests, test) in
        let all : done + (length - done) ≡ length = omega (arith, some) in
        ap (λ (m : ℕ). done + m) (min-eq_right few) ∙ all ∙ sym (min-eq_right (omega (arith, few, some)))

-- ---- the laws

module _ (s : KernelState) (n path argv : ℕ) (live : is_live (slot_at s n) ≡ true) (fd headers child header : ℕ) where
  abbrev behind : SpawnStep
  behind = pieces_from fd headers child (header + 1)

  -- its kind

  abbrev at_kind : SpawnStep
  at_kind = spawn.Bearing (bearing.PieceKind fd headers child header)

  kind_loads : (v : View) (k : Slot) (b : Born) → IsFilling v k b path argv fd headers child header 0 nothing_known →
      LoadsHeader v k b path argv child (bearing.PieceKind fd headers child header) header P_TYPE
  kind_loads v k b h = by_kind (word == PT_LOAD) refl
    where
      word : ℕ
      word = word_at (slice_index h.filled.image.table) (PHDR_LEN * header + P_TYPE)

      to : SpawnStep
      to = spawn.Bearing (bearing.PieceMemory fd headers child header)

      by_kind : (c : Bool) → (word == PT_LOAD) ≡ c → LoadsHeader v k b path argv child (bearing.PieceKind fd headers child header) header P_TYPE
      by_kind true test = record {
        image = h.filled.image;
        headers = headers;
        whole = h.filled.whole;
        below = h.filled.below;
        to = step.Spawning to;
        next_is = ap (λ (c : Bool). if c then next.GoOn (step.Spawning to) else next.GoOn (step.Spawning behind)) test;
        goes = record {
          at = to;
          is = refl;
          held = refl;
          bears = refl;
          childs = λ p. refl;
          told = λ q is. is;
          goes = goes_still child at_kind to (λ m progress is. is);
          stands = record {
            filled = filled_told (spawn_words to) h.filled;
            so = sym (says_kind h.filled.image.table header) ∙ grind (arith, nat_tests, test);
          };
        };
      }
      by_kind false test =
          let none = other_kind (headers_in h.filled.image.table header)
          (ap (λ (m : ℕ). m == PT_LOAD) (sym (says_kind h.filled.image.table header)) ∙ test) in
          record {
            image = h.filled.image;
            headers = headers;
            whole = h.filled.whole;
            below = h.filled.below;
            to = step.Spawning behind;
            next_is = ap (λ (c : Bool). if c then next.GoOn (step.Spawning to) else next.GoOn (step.Spawning behind)) test;
            goes = comes_goes at_kind refl (none_mine at_kind refl refl) (λ progress is. is) h.filled.found.is
                (filled_over b h.filled.image (all_of h.filled.pieces ++ bytes_replied b.phase) headers header 0
                (λ loaded. let contradiction : true ≡ false = sym loaded ∙ none in absurd cc))
                (pieces_come (up_to_over h.filled none refl) (let below = h.filled.below in omega (arith, below)));
          }

  pub piece_kind_holds : place_of (slot_at s n) ≡ spawns_at path argv at_kind →
      ServiceHolds s n (bears (record { at = bearing.PieceKind fd headers child header }))
  piece_kind_holds stands =
      header_load_holds s n path argv child live (bearing.PieceKind fd headers child header) stands refl header P_TYPE (omega arith) refl
      (λ names a h. let there = spawn_there h n path argv at_kind stands in
      kind_loads (view_of s.spaces (slot_at s n).directory) (slot_at s n) there.b there.at)

  -- how much memory it has

  abbrev at_memory : SpawnStep
  at_memory = spawn.Bearing (bearing.PieceMemory fd headers child header)

  memory_loads : (v : View) (k : Slot) (b : Born) → IsFilling v k b path argv fd headers child header 0 IsOfKind →
      LoadsHeader v k b path argv child (bearing.PieceMemory fd headers child header) header P_MEMSZ
  memory_loads v k b h = by_memory (memory == 0) refl
    where
      memory : ℕ
      memory = word_at (slice_index h.filled.image.table) (PHDR_LEN * header + P_MEMSZ)

      to : SpawnStep
      to = spawn.Bearing (bearing.PieceLength fd headers child header 0)

      by_memory : (c : Bool) → (memory == 0) ≡ c → LoadsHeader v k b path argv child (bearing.PieceMemory fd headers child header) header P_MEMSZ
      by_memory true test =
          let none = no_memory (headers_in h.filled.image.table header) (sym (says_mem_len h.filled.image.table header) ∙ grind (arith, nat_tests, test)) in
          record {
            image = h.filled.image;
            headers = headers;
            whole = h.filled.whole;
            below = h.filled.below;
            to = step.Spawning behind;
            next_is = ap (λ (c : Bool). if c then next.GoOn (step.Spawning behind) else next.GoOn (step.Spawning to)) test;
            goes = comes_goes at_memory refl (none_mine at_memory refl refl) (λ progress is. is) h.filled.found.is
                (filled_over b h.filled.image (all_of h.filled.pieces ++ bytes_replied b.phase) headers header 0
                (λ loaded. let contradiction : true ≡ false = sym loaded ∙ none in absurd cc))
                (pieces_come (up_to_over h.filled none refl) (let below = h.filled.below in omega (arith, below)));
          }
      by_memory false test =
          let more : memory ≢ 0 = grind (arith, nat_tests, test) in
          record {
            image = h.filled.image;
            headers = headers;
            whole = h.filled.whole;
            below = h.filled.below;
            to = step.Spawning to;
            next_is = ap (λ (c : Bool). if c then next.GoOn (step.Spawning behind) else next.GoOn (step.Spawning to)) test;
            goes = record {
              at = to;
              is = refl;
              held = refl;
              bears = refl;
              childs = λ p. refl;
              told = λ q is. is;
              goes = goes_still child at_memory to (λ m progress is. is);
              stands = record {
                filled = filled_told (spawn_words to) h.filled;
                so = (
                  has_memory (headers_in h.filled.image.table header) h.so (λ none. more (says_mem_len h.filled.image.table header ∙ none)),
                  (omega arith, (λ other. refl)),
                );
              };
            };
          }

  pub piece_memory_holds : place_of (slot_at s n) ≡ spawns_at path argv at_memory →
      ServiceHolds s n (bears (record { at = bearing.PieceMemory fd headers child header }))
  piece_memory_holds stands =
      header_load_holds s n path argv child live (bearing.PieceMemory fd headers child header) stands refl header P_MEMSZ (omega arith) refl
      (λ names a h. let there = spawn_there h n path argv at_memory stands in
      memory_loads (view_of s.spaces (slot_at s n).directory) (slot_at s n) there.b there.at)

  module _ (done : ℕ) where
    -- how many bytes of the file it has

    abbrev at_length : SpawnStep
    at_length = spawn.Bearing (bearing.PieceLength fd headers child header done)

    length_loads : (v : View) (k : Slot) (b : Born) →
        IsFilling v k b path argv fd headers child header done (λ one. (is_loaded one ≡ true) × IsPieceEnd done one) →
        LoadsHeader v k b path argv child (bearing.PieceLength fd headers child header done) header P_FILESZ
    length_loads v k b h = by_length (nat_lt done length) refl
      where
        length : ℕ
        length = word_at (slice_index h.filled.image.table) (PHDR_LEN * header + P_FILESZ)

        to : SpawnStep
        to = spawn.Bearing (bearing.PieceOffset fd headers child header done (done + min TRANSFER_MAX (length - done)))

        by_length : (c : Bool) → nat_lt done length ≡ c → LoadsHeader v k b path argv child (bearing.PieceLength fd headers child header done) header P_FILESZ
        by_length true test =
            let some : done < length = grind (arith, nat_tests, test) in
            let length_is = says_file_len h.filled.image.table header in
            let end = piece_end done length some in
            record {
              image = h.filled.image;
              headers = headers;
              whole = h.filled.whole;
              below = h.filled.below;
              to = step.Spawning to;
              next_is = ap (λ (c : Bool). next.GoOn (step.Spawning (if c then to else behind))) test;
              goes = record {
                at = to;
                is = refl;
                held = refl;
                bears = refl;
                childs = λ p. refl;
                told = λ q is. is;
                goes = goes_still child at_length to (λ m progress is. is);
                stands = record {
                  filled = filled_told (spawn_words to) h.filled;
                  so = (
                    h.so.0,
                    more_there some,
                    end ∙ ap (λ (m : ℕ). min (done + TRANSFER_MAX) m) length_is,
                    h.so.1.1 (λ same. omega (arith, some, same, length_is)),
                  );
                };
              };
            }
          where
            more_there : done < length → done < done + min TRANSFER_MAX (length - done)
            more_there some = by_few (nat_lt TRANSFER_MAX (length - done)) refl
              where
                by_few : (c : Bool) → nat_lt TRANSFER_MAX (length - done) ≡ c → done < done + min TRANSFER_MAX (length - done)
                by_few true test =
                    let more : TRANSFER_MAX < length - done = grind (arith, nat_tests, test) in
                    let same : min TRANSFER_MAX (length - done) ≡ TRANSFER_MAX = min-eq_left (omega (arith, more)) in omega (arith, same)
                by_few false test =
                    let few : length - done ≤ TRANSFER_MAX = grind (arith, nat_tests, test) in
                    let same : min TRANSFER_MAX (length - done) ≡ length - done = min-eq_right few in omega (arith, same, some)
        by_length false test =
            let past : length ≤ done = grind (arith, nat_tests, test) in
            let most = h.so.1.0 in
            let length_is = says_file_len h.filled.image.table header in
            let all : done ≡ (headers_in h.filled.image.table header).file_len = omega (arith, past, most, length_is) in
            record {
              image = h.filled.image;
              headers = headers;
              whole = h.filled.whole;
              below = h.filled.below;
              to = step.Spawning behind;
              next_is = ap (λ (c : Bool). next.GoOn (step.Spawning (if c then to else behind))) test;
              goes = comes_goes at_length refl (none_mine at_length refl refl) (λ progress is. is) h.filled.found.is
                  (filled_over b h.filled.image (all_of h.filled.pieces ++ bytes_replied b.phase) headers header done (λ loaded. all))
                  (pieces_come (up_to_done h.filled h.so.0 all) (let below = h.filled.below in omega (arith, below)));
            }

    pub piece_length_holds : place_of (slot_at s n) ≡ spawns_at path argv at_length →
        ServiceHolds s n (bears (record { at = bearing.PieceLength fd headers child header done }))
    piece_length_holds stands =
        header_load_holds s n path argv child live (bearing.PieceLength fd headers child header done) stands refl header P_FILESZ (omega arith) refl
        (λ names a h. let there = spawn_there h n path argv at_length stands in
        length_loads (view_of s.spaces (slot_at s n).directory) (slot_at s n) there.b there.at)

    module _ (end : ℕ) where
      -- where they begin in the file: the next piece is asked for

      abbrev at_offset : SpawnStep
      at_offset = spawn.Bearing (bearing.PieceOffset fd headers child header done end)

      offset_loads : (v : View) (k : Slot) (b : Born) → (so : BearingStands v k b path argv (bearing.PieceOffset fd headers child header done end)) →
          so.filled.whole.size < 2 ^ 32 → LoadsHeader v k b path argv child (bearing.PieceOffset fd headers child header done end) header P_OFFSET
      offset_loads v k b h small =
          let to : SpawnStep = spawn.Reading (part.Piece fd headers child header done end place) read.LoadingNumber in
          record {
            image = h.filled.image;
            headers = headers;
            whole = h.filled.whole;
            below = h.filled.below;
            to = step.Spawning to;
            next_is = refl;
            goes = record {
              at = to;
              is = refl;
              held = refl;
              bears = refl;
              childs = λ p. refl;
              told = λ q is. is;
              goes = goes_still child at_offset to (λ m progress is. is);
              stands = record {
                fd = fd;
                count = end - done;
                place = place;
                before = before_piece fd headers child header done end place (filled_told (spawn_words to) h.filled)
                    (record { loaded = h.so.0; some = h.so.1; end_is = h.so.2; begins = h.so.3 }) place_is;
                of_file = h.filled.of_file;
              };
            };
          }
        where
          one : ProgramHeader
          one = headers_in h.filled.image.table header

          place : ℕ
          place = (word_at (slice_index h.filled.image.table) (PHDR_LEN * header + P_OFFSET) + done) % 2 ^ 32

          place_is : place ≡ one.file_at + done
          place_is =
              let lies = image_lies h.filled.whole header h.filled.below h.so.0 in
              let within = lies.file in
              let some = h.so.1 in
              let end_is = h.so.2 in
              let offset_is = says_file_at h.filled.image.table header in
              omega (arith, within, some, end_is, offset_is, small)

      pub piece_offset_holds : place_of (slot_at s n) ≡ spawns_at path argv at_offset →
          ServiceHolds s n (bears (record { at = bearing.PieceOffset fd headers child header done end }))
      piece_offset_holds stands =
          header_load_holds s n path argv child live (bearing.PieceOffset fd headers child header done end) stands refl header P_OFFSET (omega arith) refl
          (λ names a h. let there = spawn_there h n path argv at_offset stands in
          offset_loads (view_of s.spaces (slot_at s n).directory) (slot_at s n) there.b there.at (size_small names a h there.at.filled.sized))
        where
          size_small : (names : Names) (a : AbstractState) → StandsFor names s a → {size : ℕ} →
              IsOfFileWith (view_of s.spaces (slot_at s n).directory) fd size → size < 2 ^ 32
          size_small names a h sized =
              let it = sized.of_file.file in
              let counts = descriptor_counts h n path argv at_offset stands fd sized.of_file.below in
              let small = word_small (s.spaces.pages it.entry.frame) FD_SIZE (h.whole n (descriptor_page fd) it.entry (counts ∙ it.stands)) in
              let is = sized.size_is in
              omega (arith, small, is)

      -- where it begins in memory: the piece that came is put

      abbrev at_address : SpawnStep
      at_address = spawn.Bearing (bearing.PieceAddress fd headers child header done end)

      address_loads : (v : View) (k : Slot) (b : Born) → IsPutting v k b path argv fd headers child header done end × (done % TRANSFER_MAX ≡ 0) →
          LoadsHeader v k b path argv child (bearing.PieceAddress fd headers child header done end) header P_VADDR
      address_loads v k b h =
          let to : SpawnStep = spawn.Bearing (bearing.MappingHere fd headers child header va done end) in
          record {
            image = h.0.image;
            headers = headers;
            whole = h.0.whole;
            below = h.0.below;
            to = step.Spawning to;
            next_is = refl;
            goes = record {
              at = to;
              is = refl;
              held = λ i. (
                true,
                (λ p. ((p == page_number SPAWN_GIVEN) && true) || ((p == page_number SPAWN_STACK) && true)
                    || ((p == page_number SPAWN_HERE) && not (sym first i))),
              );
              bears = refl;
              childs = λ p i. ((p == page_number SPAWN_HERE) && not (sym first i)) || ((p == page_number SPAWN_STACK) && false);
              told = λ q is. is;
              goes = goes_still child at_address to (λ m progress is. is);
              stands = record { putting = putting_told (spawn_words to) h.0; va_is = sym (says_va h.0.image.table header) };
            };
          }
        where
          va : ℕ
          va = word_at (slice_index h.0.image.table) (PHDR_LEN * header + P_VADDR)

          first : (done % TRANSFER_MAX == 0) ≡ true
          first = let begins = h.1 in grind (arith, nat_tests, begins)

      pub piece_address_holds : place_of (slot_at s n) ≡ spawns_at path argv at_address →
          ServiceHolds s n (bears (record { at = bearing.PieceAddress fd headers child header done end }))
      piece_address_holds stands =
          header_load_holds s n path argv child live (bearing.PieceAddress fd headers child header done end) stands refl header P_VADDR (omega arith) refl
          (λ names a h. let there = spawn_there h n path argv at_address stands in
          address_loads (view_of s.spaces (slot_at s n).directory) (slot_at s n) there.b there.at)
