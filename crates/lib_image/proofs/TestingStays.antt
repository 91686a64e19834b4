-- What spawn knows of the headers of its file stays so as its words tell another step, and as bytes are put into the page of the program headers.
use Rattle.std.proofs.Common.{◌≢◌, ◌∙◌, ℕ, List, ap, arith}
use Rattle.jos_base.specs.Environments.{Slot}
use Rattle.jos_base.specs.Words.{page_number}
use Rattle.lib_os.specs.declared.numbers.TheConstants.{SPAWN_GIVEN}
use Rattle.lib_os.specs.AbstractState.{Born, Spawning, Stage}
use Rattle.lib_os.specs.DescriptorPages.{device_of, size_of}
use Rattle.lib_os.specs.LibraryPages.{View}
use Rattle.lib_os.specs.Rows.{EntryRow, descriptor_page}
use Rattle.lib_os.specs.StandsAtSpawn.{Found, HasHeader, HasHeaders, HasStack, IsComparing, IsCopyingHeaders, IsOfFileWith, IsTesting}
use Rattle.lib_os.proofs.PagesPut.{IsPutIn, page_beside}

-- ---- its words tell another step

module _ {k : Slot} {b : Born} {path argv : ℕ} (words : List ℕ) where
  pub found_told : {stage : Stage} {found : Spawning} → Found k b path argv stage found → Found (record k { extra = words }) b path argv stage found
  found_told h = record {
    is_in = record {
      regs = h.is_in.regs;
      program = h.is_in.program;
      eax = h.is_in.eax;
      registers = h.is_in.registers;
      phase = h.is_in.phase;
      silent = h.is_in.silent;
      awake = h.is_in.awake;
    };
    is = h.is;
  }

module _ {v : View} {k : Slot} {b : Born} {path argv : ℕ} (words : List ℕ) where
  abbrev pub header_told : {esp fd size : ℕ} → HasHeader v k b path argv esp fd size → HasHeader v (record k { extra = words }) b path argv esp fd size
  header_told h = record {
    words = h.words;
    header = h.header;
    answer = h.answer;
    found = found_told words h.found;
    come = h.come;
    stack = h.stack;
    of_file = h.of_file;
    sized = h.sized;
    long = h.long;
    small = h.small;
    kept = h.kept;
  }

  abbrev pub headers_told : {esp fd size entry_point headers : ℕ} → HasHeaders v k b path argv esp fd size entry_point headers →
      HasHeaders v (record k { extra = words }) b path argv esp fd size entry_point headers
  headers_told h = record {
    words = h.words;
    header = h.header;
    table = h.table;
    answer = h.answer;
    found = found_told words h.found;
    come = h.come;
    stack = h.stack;
    of_file = h.of_file;
    entry_point_is = h.entry_point_is;
    many = h.many;
    few = h.few;
    whole = h.whole;
    small = h.small;
  }

  abbrev pub copying_told : {esp fd size entry_point headers copied : ℕ} → IsCopyingHeaders v k b path argv esp fd size entry_point headers copied →
      IsCopyingHeaders v (record k { extra = words }) b path argv esp fd size entry_point headers copied
  copying_told h = record { so = headers_told h.so; kept = h.kept; few = h.few; copied_are = h.copied_are }

  abbrev pub testing_told : {esp fd size entry_point headers header : ℕ} → IsTesting v k b path argv esp fd size entry_point headers header →
      IsTesting v (record k { extra = words }) b path argv esp fd size entry_point headers header
  testing_told h = record { so = headers_told h.so; kept = h.kept; below = h.below; passed = h.passed }

  abbrev pub comparing_told : {esp fd size entry_point headers header va memory other : ℕ} →
      IsComparing v k b path argv esp fd size entry_point headers header va memory other →
      IsComparing v (record k { extra = words }) b path argv esp fd size entry_point headers header va memory other
  comparing_told h =
      record { testing_it = testing_told h.testing_it; lies = h.lies; alone = h.alone; other_below = h.other_below; apart = h.apart }

-- ---- another page is written

module _ {v w : View} {at : ℕ} {bytes : List ℕ} (put : IsPutIn v w (page_number SPAWN_GIVEN) at bytes) where
  pub stack_beside : {words : List (List ℕ)} {esp : ℕ} → HasStack v words esp → HasStack w words esp
  stack_beside h =
      record { fits = h.fits; esp_is = h.esp_is; kept = page_beside put (λ same. absurd (omega (arith, same))) h.kept }

  pub file_beside : {fd size : ℕ} → IsOfFileWith v fd size → IsOfFileWith w fd size
  file_beside {fd = fd} h =
      let it = h.of_file.file in
      let other : descriptor_page fd ≢ page_number SPAWN_GIVEN = λ same. absurd (omega (arith, same)) in
      let kept = put.beside (descriptor_page fd) it.entry other it.stands in
      record {
        of_file = record {
          below = h.of_file.below;
          file = record {
            entry = it.entry;
            stands = ap (λ (r : EntryRow). r (descriptor_page fd)) put.row ∙ it.stands;
            device = ap (λ (l : List ℕ). device_of l) kept ∙ it.device;
          };
        };
        size_is = ap (λ (l : List ℕ). size_of l) kept ∙ h.size_is;
      }

  abbrev pub headers_beside : {k : Slot} {b : Born} {path argv esp fd size entry_point headers : ℕ} →
      HasHeaders v k b path argv esp fd size entry_point headers → HasHeaders w k b path argv esp fd size entry_point headers
  headers_beside h = record {
    words = h.words;
    header = h.header;
    table = h.table;
    answer = h.answer;
    found = h.found;
    come = h.come;
    stack = stack_beside h.stack;
    of_file = file_beside h.of_file;
    entry_point_is = h.entry_point_is;
    many = h.many;
    few = h.few;
    whole = h.whole;
    small = h.small;
  }
