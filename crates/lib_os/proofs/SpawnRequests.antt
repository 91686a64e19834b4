-- What the abstract system does where spawn asks the file server: it asks for what its page tells, where the server is idle.
use Rattle.std.proofs.Common.{◌≡◌, ◌∙◌, ◌+◌, ◌-◌, ◌*◌, ◌%◌, ◌<◌, ◌≤◌, ◌++◌, ◌==◌, ◌&&◌, ◌||◌, ℕ, zero, suc, Bool, true, false, List, [], ◌∷◌, length}
use Rattle.std.proofs.Common.{Option, Some, None, refl, sym, ap, subst, arith}
use Rattle.std.specs.Prelude.{drop, nat_lt, slice_index}
use Rattle.std.specs.Option.{option_map}
use Rattle.std.proofs.lemmas.Bool.Decides.{nat_tests}
use Rattle.std.proofs.lemmas.List.{length-append}
use Rattle.std.proofs.lemmas.Option.{same_Some}
use Rattle.jos_base.specs.declared.numbers.TheConstants.{NENV}
use Rattle.jos_base.specs.declared.registers.Regs.{Regs}
use Rattle.jos_base.specs.Environments.{Slot}
use Rattle.jos_base.specs.KernelState.{KernelState, slot_at}
use Rattle.jos_base.specs.Reach.{Entry}
use Rattle.jos_base.specs.Words.{page_number}
use Rattle.jos_elf.specs.declared.numbers.TheConstants.{EHDR_LEN, PHDR_LEN}
use Rattle.jos_elf.specs.Headers.{table_of}
use Rattle.jos_elf.specs.StackPage.{fits_stack}
use Rattle.jos_elf.specs.Tests.{first_failed, header_tests}
use Rattle.fs_layout.specs.FileTree.{open_path, read_file}
use Rattle.lib_os.specs.declared.numbers.TheConstants.{DESCRIPTORS, SPAWN_HERE, SPAWN_STACK}
use Rattle.lib_os.specs.declared.place.Step.TheVariants as step
use Rattle.lib_os.specs.declared.service.Service.{Service}
use Rattle.lib_os.specs.declared.service.Service.TheVariants as service
use Rattle.lib_os.specs.declared.spawn_steps.FilePart.{FilePart}
use Rattle.lib_os.specs.declared.spawn_steps.ReadStep.{ReadStep}
use Rattle.lib_os.specs.declared.spawn_steps.SpawnStep.TheVariants as spawn
use Rattle.lib_os.specs.declared.place.Place.{Place}
use Rattle.lib_os.specs.declared.place.Place.TheVariants as place
use Rattle.lib_os.specs.AbstractSpawn.{Piece, headers_in, pieces_left, pieces_wanted, spawn_step, table_size, with_spawning}
use Rattle.lib_os.specs.AbstractState.{AbstractState, Born, ImageRead, Object, OpenFile, Stage, Spawning, act, born, file, guest, heading}
use Rattle.lib_os.specs.AbstractState.{in_service, loading, opening, replied, tabling}
use Rattle.lib_os.specs.DescriptorPages.{size_of}
use Rattle.lib_os.specs.Descriptors.{object_of}
use Rattle.lib_os.specs.FileServer.{ask, is_count}
use Rattle.lib_os.specs.LibraryCall.{library_step}
use Rattle.lib_os.specs.LibraryPages.{View}
use Rattle.lib_os.specs.Places.{place_of}
use Rattle.lib_os.specs.Rows.{Names, descriptor_page}
use Rattle.lib_os.specs.SpawnGiven.{Quotes, amid_word, behind_addresses, behind_word}
use Rattle.lib_os.specs.SpawnPages.{is_childs}
use Rattle.lib_os.specs.StandsAtSpawn.{Asks, HasPieces, IsBefore, IsOfFile, IsOfFileWith, TellsFile, and_last, before_header, before_piece}
use Rattle.lib_os.specs.StandsAtSpawn.{before_table, none_yet}
use Rattle.lib_os.specs.StandsFor.{StandsFor, view_of}
use Rattle.lib_os.proofs.DescriptorLooks.{seen_calm}
use Rattle.lib_os.proofs.DeviceLooks.{NamesFile, names_file_beside}
use Rattle.lib_os.proofs.Logical.{is_remapped}
use Rattle.lib_os.proofs.PipesStand.{is_calm}
use Rattle.lib_os.proofs.RequestsTold.{IsAsking}
use Rattle.lib_os.proofs.Serving.{service_step}
use Rattle.lib_os.proofs.SpawnReplies.{next_piece}

-- ---- the file

-- All words are taken, and may be given to a program: the file is to be opened.
pub words_asked : (c : AbstractState) (n : ℕ) (b : Born) (regs : Regs) (path argv : ℕ) {name : List ℕ} {words : List (List ℕ)} {stage : Stage} →
    Quotes b name [] words [] stage → fits_stack words ≡ true →
    library_step c n b regs (service.Spawn path argv) stage
    ≡ ask c n (with_spawning b (opening words)) (service.Spawn path argv) (act (open_path name 0) None)
unfolding library_step spawn_step
words_asked c n b regs path argv quotes fits = by_case [] refl quotes fits
  where
    by_case : {name taken : List ℕ} {words : List (List ℕ)} {stage : Stage} (left : List ℕ) → left ≡ [] → Quotes b name left words taken stage →
        fits_stack words ≡ true →
        library_step c n b regs (service.Spawn path argv) stage
        ≡ ask c n (with_spawning b (opening words)) (service.Spawn path argv) (act (open_path name 0) None)
    by_case _ same (behind_addresses name addresses taken found whole last) fit =
        let all : nat_lt (length taken) 4 ≡ false = grind (arith, nat_tests, whole) in rw (found, all, last, same, fit) refl
    by_case _ same (amid_word name address left words taken found no_end) fit = absurd (let none : Some address ≡ None = ap first_of same in cc)
      where
        first_of : List ℕ → Option ℕ
        first_of [] = None
        first_of (x ∷ rest) = Some x
    by_case _ same (behind_word name address left words taken found ended) fit = rw (found, ended, same, fit) refl

-- ---- a part of it

-- what is found out where it is asked for
abbrev pub found_before : {v : View} {k : Slot} {b : Born} {path argv fd count place : ℕ} {wanted : FilePart} →
    IsBefore v k b path argv wanted fd count place → Spawning
found_before (before_header esp fd size so sized long) = heading fd so.words
found_before (before_table esp fd size entry_point headers place words header answer found sized stack begins many at few inside long passed come) =
    tabling fd words header
found_before (before_piece fd headers child header done end place so next at) = loading fd so.image (child % NENV) so.had

-- the pieces behind those of a list, and behind one more
behind_one : (n : ℕ) (pieces : List Piece) (piece : Piece) (rest : List Piece) → drop n pieces ≡ piece ∷ rest → drop (suc n) pieces ≡ rest
behind_one n [] piece rest is = absurd (none_left n is)
  where
    first_of : List Piece → Option Piece
    first_of [] = None
    first_of (x ∷ more) = Some x

    none_left : (m : ℕ) → drop m [] ≡ piece ∷ rest → ⊥
    none_left zero same = let none : None ≡ Some piece = ap first_of same in cc
    none_left (suc m) same = let none : None ≡ Some piece = ap first_of same in cc
behind_one zero (x ∷ pieces) piece rest is = ap behind_first is
  where
    behind_first : List Piece → List Piece
    behind_first [] = []
    behind_first (y ∷ more) = more
behind_one (suc n) (x ∷ pieces) piece rest is = behind_one n pieces piece rest is

pub left_behind : (n m : ℕ) (pieces : List Piece) (piece : Piece) (rest : List Piece) → m ≡ n + 1 → drop n pieces ≡ piece ∷ rest → drop m pieces ≡ rest
left_behind n m pieces piece rest more is =
    let one : m ≡ suc n = omega (arith, more) in ap (λ (j : ℕ). drop j pieces) one ∙ behind_one n pieces piece rest is

-- how many bytes a file had, by the page of its descriptor
pub size_same : {v : View} {fd size : ℕ} → (x : IsOfFileWith v fd size) (y : IsOfFile v fd) → size ≡ size_of (v.bytes y.file.entry.frame)
size_same {v = v} x y =
    sym x.size_is
    ∙ ap (λ (e : Entry). size_of (v.bytes e.frame)) (same_Some x.of_file.file.entry y.file.entry (sym x.of_file.file.stands ∙ y.file.stands))

-- what the abstract system asks for, of a descriptor that names a file which had so many bytes
module _ (c : AbstractState) (n : ℕ) (b : Born) (k : Slot) (v : View) (path argv : ℕ) (f : OpenFile) where
  abbrev AsksBytes : Regs → Stage → Spawning → ℕ → ℕ → Type 0
  AsksBytes regs stage found place count =
      library_step c n b regs (service.Spawn path argv) stage
      ≡ ask c n (with_spawning b found) (service.Spawn path argv) (act (read_file f.way place count) None)

  header_asked : (regs : Regs) (words : List (List ℕ)) (fd : ℕ) → b.spawning ≡ Some (opening words) → fd < DESCRIPTORS →
      object_of c b fd ≡ Some (file f) → EHDR_LEN ≤ f.size → AsksBytes regs (replied [] fd) (heading fd words) 0 EHDR_LEN
  unfolding library_step spawn_step
  header_asked regs words fd found below object long =
      let counts : is_count fd ≡ true = grind (arith, nat_tests, below) in
      let big : nat_lt f.size EHDR_LEN ≡ false = grind (arith, nat_tests, long) in rw (found, counts, object, big) refl

  table_asked : (regs : Regs) (words : List (List ℕ)) (header : List ℕ) (fd answer : ℕ) → b.spawning ≡ Some (heading fd words) →
      object_of c b fd ≡ Some (file f) → length header ≡ EHDR_LEN → first_failed (header_tests f.size (slice_index header)) ≡ None →
      is_count answer ≡ true → AsksBytes regs (replied header answer) (tabling fd words header) (table_of (slice_index header)) (table_size header)
  unfolding library_step spawn_step
  table_asked regs words header fd answer found object long passed come =
      let whole : (length header == EHDR_LEN) ≡ true = grind (arith, nat_tests, long) in rw (found, come, object, whole, passed) refl

  piece_asked : (regs : Regs) (stage : Stage) (image : ImageRead) (pieces had : List (List ℕ)) (fd child : ℕ) (piece : Piece) (rest : List Piece) →
      b.spawning ≡ Some (loading fd image child pieces) → object_of c b fd ≡ Some (file f) → HasPieces image pieces had stage →
      pieces_left image had ≡ piece ∷ rest → AsksBytes regs stage (loading fd image child had) piece.at piece.len
  unfolding library_step spawn_step
  piece_asked regs _ image pieces _ fd child piece rest found object none_yet left = rw (found, object, left) refl
  piece_asked regs _ image pieces _ fd child piece rest found object (and_last bytes answer last more next long come) left =
      let whole : (length bytes == last.len) ≡ true = grind (arith, nat_tests, long) in
      let many = length-append pieces (bytes ∷ []) in
      let behind : more ≡ piece ∷ rest =
      sym (left_behind (length pieces) (length (pieces ++ bytes ∷ [])) (pieces_wanted image) last more (omega (arith, many)) next) ∙ left in
      rw (found, come, object, next, whole, behind) refl

  -- by what is known before
  pub bytes_asked : {wanted : FilePart} {fd count place : ℕ} → (before : IsBefore v k b path argv wanted fd count place) → (of_file : IsOfFile v fd) →
      object_of c b fd ≡ Some (file f) → size_of (v.bytes of_file.file.entry.frame) ≡ f.size →
      (regs : Regs) × (stage : Stage) × (b.program ≡ guest regs) × (b.phase ≡ in_service (service.Spawn path argv) stage) × (b.blocked ≡ false)
      × AsksBytes regs stage (found_before before) place count
  bytes_asked (before_header esp fd size so sized long) of_file object size_is =
      let is_in = so.found.is_in in
      let same : size ≡ f.size = size_same sized of_file ∙ size_is in (
        is_in.regs,
        replied [] fd,
        is_in.program,
        is_in.phase,
        is_in.awake,
        header_asked is_in.regs so.words fd so.found.is of_file.below object (subst (λ (n : ℕ). EHDR_LEN ≤ n) same long),
      )
  bytes_asked (before_table esp fd size entry_point headers place words header answer found sized stack begins many at few inside long passed come)
      of_file object size_is =
      let is_in = found.is_in in
      let same : size ≡ f.size = size_same sized of_file ∙ size_is in (
        is_in.regs,
        replied header answer,
        is_in.program,
        is_in.phase,
        is_in.awake,
        subst (λ (from : ℕ). AsksBytes is_in.regs (replied header answer) (tabling fd words header) from (PHDR_LEN * headers)) (sym at)
            (subst
            (λ (count : ℕ). AsksBytes is_in.regs (replied header answer) (tabling fd words header) (table_of (slice_index header)) (PHDR_LEN * count))
            (sym many)
            (table_asked is_in.regs words header fd answer found.is object long
            (subst (λ (total : ℕ). first_failed (header_tests total (slice_index header)) ≡ None) same passed) come)),
      )
  bytes_asked (before_piece fd headers child header done end place so next at) of_file object size_is =
      let is_in = so.found.is_in in
      let first = next_piece so.image header done end next in (
        is_in.regs,
        so.stage,
        is_in.program,
        is_in.phase,
        is_in.awake,
        subst (λ (from : ℕ). AsksBytes is_in.regs so.stage (loading fd so.image (child % NENV) so.had) from (end - done)) (sym at)
            (piece_asked is_in.regs so.stage so.image so.pieces so.had fd (child % NENV)
            (record { at = (headers_in so.image.table header).file_at + done; len = end - done }) first.0 so.found.is object so.has (so.left ∙ first.1)),
      )

-- ---- where it stands

-- where it reads its file no page of its own is the child's
reading_apart : (wanted : FilePart) (at : ReadStep) (p : ℕ) → is_childs (spawn.Reading wanted at) p ≡ false
reading_apart wanted at p = none_of (p == page_number SPAWN_HERE) (p == page_number SPAWN_STACK)
  where
    none_of : (t u : Bool) → (t && false) || (u && false) ≡ false
    none_of true true = refl
    none_of true false = refl
    none_of false true = refl
    none_of false false = refl

module _ {names : Names} {s : KernelState} {a : AbstractState} (h : StandsFor names s a) (n : ℕ) (b : Born) (at : a.slots n ≡ born b) (path argv : ℕ) where
  abbrev seen : View
  seen = view_of s.spaces (slot_at s n).directory

  abbrev call : Service
  call = service.Spawn path argv

  -- its page tells the file
  abbrev pub file_asking : {esp fd : ℕ} → (it : TellsFile seen (slot_at s n) b path argv esp fd) → IsAsking a n (with_spawning b (opening it.ready.words)) call
  file_asking it =
      let has = it.ready.has in
      record {
        request = act (open_path has.name 0) None;
        asks = λ server.
            let c : AbstractState = record a { server = server } in
            service_step c n b has.is_in.regs call has.stage at has.is_in.program has.is_in.phase has.is_in.awake
            ∙ words_asked c n b has.is_in.regs path argv has.quotes has.fits;
      }

  module _ {wanted : FilePart} (at_step : ReadStep) (stands : place_of (slot_at s n) ≡ place.InService call (step.Spawning (spawn.Reading wanted at_step)))
      (it : Asks seen (slot_at s n) b path argv wanted) where
    -- the file of which a part is asked for
    pub part_file : NamesFile s a b it.fd it.of_file.file.entry
    part_file =
        names_file_beside h n b at it.fd it.of_file.below (seen_calm h n b at (ap is_calm stands))
        (ap (λ (q : Place). is_remapped q (descriptor_page it.fd)) stands ∙ reading_apart wanted at_step (descriptor_page it.fd)) it.of_file.file

    pub object_is : object_of a b it.fd ≡ Some (file part_file.f)
    object_is = ap (option_map a.objects) part_file.named ∙ ap (λ (o : Object). Some o) part_file.is

    -- its page tells the part
    abbrev pub part_asking : IsAsking a n (with_spawning b (found_before it.before)) call
    part_asking = record {
      request = act (read_file part_file.f.way it.place it.count) None;
      asks = λ server.
          let c : AbstractState = record a { server = server } in
          let asked = bytes_asked c n b (slot_at s n) seen path argv part_file.f it.before it.of_file object_is part_file.told.size in
          service_step c n b asked.0 call asked.1 at asked.2 asked.3 asked.4 ∙ asked.5;
    }
