-- What spawn knows as it makes its child stays so as its words tell another step, and as a page is another that has neither the program headers nor the stack.
use Rattle.std.proofs.Common.{◌≡◌, ◌≢◌, ◌∙◌, ℕ, true, false, List, sym, ap}
use Rattle.jos_base.specs.declared.numbers.TheConstants.{UTEMP}
use Rattle.jos_base.specs.Environments.{Slot}
use Rattle.jos_base.specs.Words.{page_number}
use Rattle.lib_os.specs.declared.numbers.TheConstants.{SPAWN_GIVEN, SPAWN_STACK}
use Rattle.lib_os.specs.AbstractState.{Born, ImageRead, Spawning, Stage}
use Rattle.lib_os.specs.DescriptorPages.{device_of, size_of}
use Rattle.lib_os.specs.LibraryPages.{View}
use Rattle.lib_os.specs.Rows.{descriptor_page, is_of_descriptor}
use Rattle.lib_os.specs.StandsAtSpawn.{Found, HasChild, HasImage, HasStack, IsFilled, IsIn, IsOfFile, IsOfFileWith, IsPutting}
use Rattle.lib_os.proofs.PagesPut.{IsPutIn}
use Rattle.lib_os.proofs.SpawnedMoves.{descriptor_page_is}
use Rattle.lib_os.proofs.SpawnPagesTaken.{IsBesidePage, page_aside}

-- ---- its words tell another step

module _ {k : Slot} {b : Born} {path argv : ℕ} (words : List ℕ) where
  abbrev pub in_told : {stage : Stage} → IsIn k b path argv stage → IsIn (record k { extra = words }) b path argv stage
  in_told h = record {
    regs = h.regs;
    program = h.program;
    eax = h.eax;
    registers = h.registers;
    phase = h.phase;
    silent = h.silent;
    awake = h.awake;
  }

  abbrev pub found_told : {stage : Stage} {found : Spawning} → Found k b path argv stage found → Found (record k { extra = words }) b path argv stage found
  found_told h = record { is_in = in_told h.is_in; is = h.is }

module _ {v : View} {k : Slot} {b : Born} {path argv : ℕ} (words : List ℕ) where
  abbrev pub child_told : {fd headers child : ℕ} {image : ImageRead} → HasChild v k b path argv fd headers child image →
      HasChild v (record k { extra = words }) b path argv fd headers child image
  child_told h = record { found = found_told words h.found; of_file = h.of_file; whole = h.whole; sized = h.sized }

  abbrev pub filled_told : {fd headers child header done : ℕ} → IsFilled v k b path argv fd headers child header done →
      IsFilled v (record k { extra = words }) b path argv fd headers child header done
  filled_told h = record {
    image = h.image;
    pieces = h.pieces;
    had = h.had;
    stage = h.stage;
    found = found_told words h.found;
    has = h.has;
    of_file = h.of_file;
    whole = h.whole;
    below = h.below;
    left = h.left;
    come = h.come;
    sized = h.sized;
  }

  abbrev pub putting_told : {fd headers child header done end : ℕ} → IsPutting v k b path argv fd headers child header done end →
      IsPutting v (record k { extra = words }) b path argv fd headers child header done end
  putting_told h = record {
    image = h.image;
    pieces = h.pieces;
    bytes = h.bytes;
    answer = h.answer;
    found = found_told words h.found;
    counts = h.counts;
    of_file = h.of_file;
    whole = h.whole;
    below = h.below;
    loaded = h.loaded;
    within = h.within;
    end_is = h.end_is;
    left = h.left;
    come = h.come;
    long = h.long;
    small = h.small;
    kept = h.kept;
    sized = h.sized;
  }

-- ---- a page is another

pub put_aside : {v w : View} {p at : ℕ} {bytes : List ℕ} → IsPutIn v w p at bytes → IsBesidePage v w p
put_aside put = record {
  rows = λ q other. ap (λ r. r q) put.row;
  bytes = λ q x other is. put.beside q x other is;
  tables = λ r is. put.tables r ∙ is;
}

module _ {v w : View} {p : ℕ} (it : IsBesidePage v w p) (given : page_number SPAWN_GIVEN ≢ p) (stack : page_number SPAWN_STACK ≢ p)
    (no_descriptor : is_of_descriptor p ≡ false) where
  pub stack_aside : {words : List (List ℕ)} {esp : ℕ} → HasStack v words esp → HasStack w words esp
  stack_aside h = record { fits = h.fits; esp_is = h.esp_is; kept = page_aside it stack h.kept }

  pub apart : (fd : ℕ) → is_of_descriptor (descriptor_page fd) ≡ true → descriptor_page fd ≢ p
  apart fd is same = let contradiction : true ≡ false = sym is ∙ ap is_of_descriptor same ∙ no_descriptor in cc

  abbrev pub file_aside : {fd : ℕ} → IsOfFile v fd → IsOfFile w fd
  file_aside {fd = fd} h =
      let ne = apart fd (descriptor_page_is fd h.below) in
      record {
        below = h.below;
        file = record {
          entry = h.file.entry;
          stands = it.rows (descriptor_page fd) ne ∙ h.file.stands;
          device = ap (λ (l : List ℕ). device_of l) (it.bytes (descriptor_page fd) h.file.entry ne h.file.stands) ∙ h.file.device;
        };
      }

  pub sized_aside : {fd size : ℕ} → IsOfFileWith v fd size → IsOfFileWith w fd size
  sized_aside {fd = fd} h =
      let ne = apart fd (descriptor_page_is fd h.of_file.below) in
      record {
        of_file = file_aside h.of_file;
        size_is = ap (λ (l : List ℕ). size_of l) (it.bytes (descriptor_page fd) h.of_file.file.entry ne h.of_file.file.stands) ∙ h.size_is;
      }

  abbrev pub image_aside : {image : ImageRead} {headers : ℕ} → HasImage v image headers → HasImage w image headers
  image_aside h = record {
    table = page_aside it given h.table;
    many = h.many;
    few = h.few;
    whole = h.whole;
    small = h.small;
    size = h.size;
    passed = h.passed;
    esp = h.esp;
    stack = stack_aside h.stack;
  }

  abbrev pub child_aside : {k : Slot} {b : Born} {path argv fd headers child : ℕ} {image : ImageRead} → HasChild v k b path argv fd headers child image →
      HasChild w k b path argv fd headers child image
  child_aside h = record { found = h.found; of_file = file_aside h.of_file; whole = image_aside h.whole; sized = sized_aside h.sized }

  abbrev pub filled_aside : {k : Slot} {b : Born} {path argv fd headers child header done : ℕ} → IsFilled v k b path argv fd headers child header done →
      IsFilled w k b path argv fd headers child header done
  filled_aside h = record {
    image = h.image;
    pieces = h.pieces;
    had = h.had;
    stage = h.stage;
    found = h.found;
    has = h.has;
    of_file = file_aside h.of_file;
    whole = image_aside h.whole;
    below = h.below;
    left = h.left;
    come = h.come;
    sized = sized_aside h.sized;
  }

  abbrev pub putting_aside : {k : Slot} {b : Born} {path argv fd headers child header done end : ℕ} → page_number UTEMP ≢ p →
      IsPutting v k b path argv fd headers child header done end → IsPutting w k b path argv fd headers child header done end
  putting_aside working h = record {
    image = h.image;
    pieces = h.pieces;
    bytes = h.bytes;
    answer = h.answer;
    found = h.found;
    counts = h.counts;
    of_file = file_aside h.of_file;
    whole = image_aside h.whole;
    below = h.below;
    loaded = h.loaded;
    within = h.within;
    end_is = h.end_is;
    left = h.left;
    come = h.come;
    long = h.long;
    small = h.small;
    kept = page_aside it working h.kept;
    sized = sized_aside h.sized;
  }
