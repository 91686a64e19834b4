-- What is so of spawn, as it reads a part of its file, stays so as its words tell another step, while it may run, and as its page is written that tells its request.
use Rattle.std.proofs.Common.{◌≡◌, ◌≢◌, ◌∙◌, ℕ, List, ap, arith}
use Rattle.jos_base.specs.declared.environment.Status.{Status}
use Rattle.jos_base.specs.declared.numbers.TheConstants.{UTEMP}
use Rattle.jos_base.specs.Environments.{Slot}
use Rattle.jos_base.specs.Words.{page_number}
use Rattle.lib_os.specs.declared.spawn_steps.FilePart.{FilePart}
use Rattle.lib_os.specs.AbstractState.{Born, ImageRead}
use Rattle.lib_os.specs.DescriptorPages.{device_of, number_of, size_of}
use Rattle.lib_os.specs.LibraryPages.{View}
use Rattle.lib_os.specs.Rows.{EntryRow, descriptor_page}
use Rattle.lib_os.specs.StandsAtSpawn.{Asks, GivenHas, HasFile, HasImage, HasStack, IsBefore, IsFilled, IsOfFile, IsOfFileWith, TellsAll, TellsCount, TellsNumber}
use Rattle.lib_os.specs.StandsAtSpawn.{before_header, before_piece, before_table, number_at}
use Rattle.lib_os.proofs.PagesPut.{IsPutIn, page_beside}
use Rattle.lib_image.proofs.OpeningStays.{found_moved, has_file_moved, moved}

-- ---- its words tell another step

module _ {v : View} {k : Slot} {b : Born} {path argv : ℕ} (status : Status) (words : List ℕ) where
  abbrev pub filled_moved : {fd headers child header done : ℕ} → IsFilled v k b path argv fd headers child header done →
      IsFilled v (moved k status words) b path argv fd headers child header done
  filled_moved h = record {
    image = h.image;
    pieces = h.pieces;
    had = h.had;
    stage = h.stage;
    found = found_moved status words h.found;
    has = h.has;
    of_file = h.of_file;
    whole = h.whole;
    below = h.below;
    left = h.left;
    come = h.come;
    sized = h.sized;
  }

  pub before_moved : {wanted : FilePart} {fd count place : ℕ} → IsBefore v k b path argv wanted fd count place →
      IsBefore v (moved k status words) b path argv wanted fd count place
  before_moved (before_header esp fd size so sized long) = before_header esp fd size (has_file_moved status words so) sized long
  before_moved (before_table esp fd size entry_point headers place all header answer found sized stack begins many at few inside long passed come) =
      before_table esp fd size entry_point headers place all header answer (found_moved status words found) sized stack begins many at few inside long passed come
  before_moved (before_piece fd headers child header done end place so next at) =
      before_piece fd headers child header done end place (filled_moved so) next at

  abbrev pub asks_moved : {wanted : FilePart} → Asks v k b path argv wanted → Asks v (moved k status words) b path argv wanted
  asks_moved h = record { fd = h.fd; count = h.count; place = h.place; before = before_moved h.before; of_file = h.of_file }

  abbrev pub tells_number_moved : {wanted : FilePart} → TellsNumber v k b path argv wanted → TellsNumber v (moved k status words) b path argv wanted
  tells_number_moved h = record { asks = asks_moved h.asks; number = h.number }

  abbrev pub tells_count_moved : {wanted : FilePart} → TellsCount v k b path argv wanted → TellsCount v (moved k status words) b path argv wanted
  tells_count_moved h = record { so = tells_number_moved h.so; count = h.count }

  pub tells_all_moved : {wanted : FilePart} → TellsAll v k b path argv wanted → TellsAll v (moved k status words) b path argv wanted
  tells_all_moved h = record { so = tells_count_moved h.so; place = h.place }

-- ---- its page is written

module _ {v w : View} {at : ℕ} {bytes : List ℕ} (put : IsPutIn v w (page_number UTEMP) at bytes) where
  pub stack_put : {words : List (List ℕ)} {esp : ℕ} → HasStack v words esp → HasStack w words esp
  stack_put h = record { fits = h.fits; esp_is = h.esp_is; kept = page_beside put (λ same. absurd (omega (arith, same))) h.kept }

  pub given_put : {had : List ℕ} → GivenHas v had → GivenHas w had
  given_put h = page_beside put (λ same. absurd (omega (arith, same))) h

  abbrev pub image_put : {image : ImageRead} {headers : ℕ} → HasImage v image headers → HasImage w image headers
  image_put h = record {
    table = given_put h.table;
    many = h.many;
    few = h.few;
    whole = h.whole;
    small = h.small;
    size = h.size;
    passed = h.passed;
    esp = h.esp;
    stack = stack_put h.stack;
  }

  -- the page of a descriptor has the bytes that it had
  pub descriptor_put : {fd : ℕ} → (h : IsOfFile v fd) → w.bytes h.file.entry.frame ≡ v.bytes h.file.entry.frame
  descriptor_put {fd = fd} h =
      let other : descriptor_page fd ≢ page_number UTEMP = λ same. absurd (omega (arith, same)) in
      put.beside (descriptor_page fd) h.file.entry other h.file.stands

  abbrev pub file_put : {fd : ℕ} → IsOfFile v fd → IsOfFile w fd
  file_put {fd = fd} h = record {
    below = h.below;
    file = record {
      entry = h.file.entry;
      stands = ap (λ (r : EntryRow). r (descriptor_page fd)) put.row ∙ h.file.stands;
      device = ap (λ (l : List ℕ). device_of l) (descriptor_put h) ∙ h.file.device;
    };
  }

  pub number_put : {fd : ℕ} → (h : IsOfFile v fd) → number_at (file_put h) ≡ number_at h
  number_put h = ap (λ (l : List ℕ). number_of l) (descriptor_put h)

  pub sized_put : {fd size : ℕ} → IsOfFileWith v fd size → IsOfFileWith w fd size
  sized_put h = record { of_file = file_put h.of_file; size_is = ap (λ (l : List ℕ). size_of l) (descriptor_put h.of_file) ∙ h.size_is }

  module _ {k : Slot} {b : Born} {path argv : ℕ} where
    pub has_file_put : {esp fd : ℕ} → HasFile v k b path argv esp fd → HasFile w k b path argv esp fd
    has_file_put h = record { words = h.words; found = h.found; stack = stack_put h.stack; of_file = file_put h.of_file }

    abbrev pub filled_put : {fd headers child header done : ℕ} → IsFilled v k b path argv fd headers child header done →
        IsFilled w k b path argv fd headers child header done
    filled_put h = record {
      image = h.image;
      pieces = h.pieces;
      had = h.had;
      stage = h.stage;
      found = h.found;
      has = h.has;
      of_file = file_put h.of_file;
      whole = image_put h.whole;
      below = h.below;
      left = h.left;
      come = h.come;
      sized = sized_put h.sized;
    }

    pub before_put : {wanted : FilePart} {fd count place : ℕ} → IsBefore v k b path argv wanted fd count place → IsBefore w k b path argv wanted fd count place
    before_put (before_header esp fd size so sized long) = before_header esp fd size (has_file_put so) (sized_put sized) long
    before_put (before_table esp fd size entry_point headers place all header answer found sized stack begins many from few inside long passed come) =
        before_table esp fd size entry_point headers place all header answer found (sized_put sized) (stack_put stack) begins many from few inside long passed come
    before_put (before_piece fd headers child header done end place so next from) =
        before_piece fd headers child header done end place (filled_put so) next from

    abbrev pub asks_put : {wanted : FilePart} → Asks v k b path argv wanted → Asks w k b path argv wanted
    asks_put h = record { fd = h.fd; count = h.count; place = h.place; before = before_put h.before; of_file = file_put h.of_file }
