-- What spawn has asked for as it reads a part of its file, and where it goes on behind the reply: where the part has come whole, it tests it or puts it into its child; and else it
-- drops its file, or gives back its child.
use Rattle.std.proofs.Common.{◌≡◌, ◌≢◌, ◌∙◌, inl, ◌+◌, ◌-◌, ◌*◌, ◌%◌, ◌<◌, ◌≤◌, ◌==◌, ◌||◌, ◌++◌, ℕ, Bool, true, false, List, [], ◌∷◌, length, Option}
use Rattle.std.proofs.Common.{None, Some, append-nil, append_assoc, refl, sym, ap, subst, arith, if◌then◌else◌}
use Rattle.std.specs.Prelude.{min, nat_le, nat_lt, slice_index, take}
use Rattle.std.proofs.Math.Nat.{min-eq_left}
use Rattle.std.proofs.lemmas.Bool.Decides.{nat_tests}
use Rattle.std.proofs.lemmas.Option.{none-some}
use Rattle.jos_base.specs.declared.numbers.TheConstants.{NENV, SEGMENT_MAX, UTEMP}
use Rattle.jos_base.specs.Environments.{Slot}
use Rattle.jos_base.specs.Words.{negated, page_number}
use Rattle.jos_elf.specs.declared.numbers.TheConstants.{E_NOT_EXEC, EHDR_LEN, PHDR_LEN}
use Rattle.jos_elf.specs.Tests.{first_failed, header_tests, table_tests}
use Rattle.jos_elf.proofs.Tests.{table-none}
use Rattle.lib_os.specs.declared.numbers.TheConstants.{TRANSFER_MAX}
use Rattle.lib_os.specs.declared.service.Service.TheVariants as service
use Rattle.lib_os.specs.declared.spawn_steps.BearingStep.TheVariants as bearing
use Rattle.lib_os.specs.declared.spawn_steps.FilePart.{FilePart}
use Rattle.lib_os.specs.declared.spawn_steps.FilePart.TheVariants as part
use Rattle.lib_os.specs.declared.spawn_steps.ReadStep.{ReadStep}
use Rattle.lib_os.specs.declared.spawn_steps.ReadStep.TheVariants as read
use Rattle.lib_os.specs.declared.spawn_steps.SpawnStep.{SpawnStep}
use Rattle.lib_os.specs.declared.spawn_steps.SpawnStep.TheVariants as spawn
use Rattle.lib_os.specs.declared.spawn_steps.TestingStep.TheVariants as testing
use Rattle.lib_os.specs.declared.spawn_steps.UndoingStep.TheVariants as undoing
use Rattle.lib_os.specs.AbstractSpawn.{all_of, headers_in, packed_at}
use Rattle.lib_os.specs.AbstractState.{Born, ImageRead, Phase, Spawning, Stage, asked, in_service, loading, replied}
use Rattle.lib_os.specs.FileServer.{is_count}
use Rattle.lib_os.specs.LibraryPages.{View}
use Rattle.lib_os.specs.Rows.{AreBytes}
use Rattle.lib_os.specs.SpawnedChild.{Loads, bytes_replied, is_closed, is_loading, spawning_child}
use Rattle.lib_os.specs.StandsAtSpawn.{Found, GivenHas, HasHeaders, HasPieces, IsBefore, IsFor, IsIn, PageHas, StandsAtSpawn, and_last, before_header}
use Rattle.lib_os.specs.StandsAtSpawn.{before_piece, before_table, for_header, for_piece, for_table, header_unread, is_error, is_short, no_header, no_table, none_yet}
use Rattle.lib_os.specs.StandsAtSpawn.{piece_start, pieces_behind, table_unread}
use Rattle.lib_os.proofs.Serving.{holds_page}
use Rattle.lib_os.proofs.SpawnedTurns.{KeepsBearing, LoadsOn, bears_none, bears_same}
use Rattle.lib_os.proofs.SpawnOwnPages.{spawn_words, spawns_at}
use Rattle.lib_os.proofs.SpawnReplies.{next_piece}
use Rattle.lib_os.proofs.SpawnRequests.{found_before}
use Rattle.lib_image.specs.ReadingStages.{is_whole, not_read, once_read, wanted}
use Rattle.lib_image.specs.SpawnNexts.{no_image}
use Rattle.lib_image.proofs.OpeningStays.{in_moved}

-- ---- what it asks for

module _ {v : View} {k : Slot} {b : Born} {path argv : ℕ} where
  -- the stage at which it asks
  pub before_in : {wants : FilePart} {fd count place : ℕ} → IsBefore v k b path argv wants fd count place → (stage : Stage) × IsIn k b path argv stage
  before_in (before_header esp fd size so sized long) = (replied [] fd, so.found.is_in)
  before_in (before_table esp fd size entry_point headers place words header answer found sized stack begins many at few inside long passed come) =
      (replied header answer, found.is_in)
  before_in (before_piece fd headers child header done end place so next at) = (so.stage, so.found.is_in)

  -- what is so once it has asked
  pub for_before : (c : Born) {wants : FilePart} {fd count place : ℕ} → (before : IsBefore v k b path argv wants fd count place) →
      c.spawning ≡ Some (found_before before) → IsFor v c wants count
  for_before c (before_header esp fd size so sized long) is = for_header esp fd size so.words is sized so.stack long
  for_before c (before_table esp fd size entry_point headers place words header answer found sized stack begins many at few inside long passed come) is =
      for_table esp fd size entry_point headers place words header is sized stack begins many few
  for_before c (before_piece fd headers child header done end place so next at) is =
      for_piece fd headers child header done end place so.image so.had is so.of_file so.whole so.below so.left so.come next so.sized

-- it has asked at this stage
pub asked_in : {k : Slot} {b : Born} {path argv : ℕ} (stage : Stage) (found : Spawning) (words : List ℕ) → IsIn k b path argv stage →
    IsIn (record k { extra = words }) (record b { phase = in_service (service.Spawn path argv) asked; spawning = Some found }) path argv asked
asked_in stage found words h = record {
  regs = h.regs;
  program = h.program;
  eax = h.eax;
  registers = h.registers;
  phase = refl;
  silent = h.silent;
  awake = h.awake;
}

-- ---- the pieces that have come

all_end : (pieces : List (List ℕ)) (bytes : List ℕ) → all_of (pieces ++ bytes ∷ []) ++ [] ≡ all_of pieces ++ bytes
unfolding all_of
all_end [] bytes = append-nil (bytes ++ []) ∙ append-nil bytes
all_end (piece ∷ rest) bytes =
    append_assoc piece (all_of (rest ++ bytes ∷ [])) [] ∙ ap (λ (l : List ℕ). piece ++ l) (all_end rest bytes) ∙ sym (append_assoc piece (all_of rest) bytes)

-- the bytes that came last are one piece more
loads_last : (fd of_slot : ℕ) (of_image : ImageRead) {slot : ℕ} {image : ImageRead} {o : Option Spawning} {more file : List ℕ} {pieces : List (List ℕ)} →
    Loads slot image o more file → o ≡ Some (loading fd of_image of_slot pieces) →
    Loads slot image (Some (loading fd of_image of_slot (pieces ++ more ∷ []))) [] file
loads_last fd of_slot of_image {slot = slot} {image = image} {pieces = pieces} (is_loading had_fd had more) same =
    let image_is : image ≡ of_image = cc in
    let slot_is : slot ≡ of_slot = cc in
    let had_is : had ≡ pieces = cc in
    subst (λ (l : List ℕ). Loads slot image (Some (loading fd of_image of_slot (pieces ++ more ∷ []))) [] l)
    (all_end pieces more ∙ ap (λ (l : List (List ℕ)). all_of l ++ more) (sym had_is))
    (subst (λ (o : Option Spawning). Loads slot image o [] (all_of (pieces ++ more ∷ []) ++ []))
    (λ i. Some (loading fd (image_is i) (slot_is i) (pieces ++ more ∷ []))) (is_loading fd (pieces ++ more ∷ []) []))
loads_last fd of_slot of_image {slot = slot} {image = image} {pieces = pieces} (is_closed had more) same = absurd cc

pieces_on : (path argv fd of_slot : ℕ) (of_image : ImageRead) {slot : ℕ} {image : ImageRead} {file : List ℕ} {pieces had : List (List ℕ)} {stage : Stage} →
    HasPieces of_image pieces had stage →
    Loads slot image (Some (loading fd of_image of_slot pieces)) (bytes_replied (in_service (service.Spawn path argv) stage)) file →
    Loads slot image (Some (loading fd of_image of_slot had)) [] file
pieces_on path argv fd of_slot of_image none_yet loads = loads
pieces_on path argv fd of_slot of_image (and_last bytes answer piece rest next long come) loads = loads_last fd of_slot of_image loads refl

-- where it bears a child, it goes on loading the same image
pub before_loads : {v : View} {k : Slot} {b : Born} {path argv : ℕ} {wants : FilePart} {fd count place : ℕ} (at : ReadStep) →
    (before : IsBefore v k b path argv wants fd count place) → (id : ℕ) → spawning_child (spawn.Reading wants at) ≡ Some id →
    LoadsOn b (Some (found_before before)) (in_service (service.Spawn path argv) asked)
before_loads {b = b} {path = path} {argv = argv} at (before_header esp fd size so sized long) id is = absurd (none-some id is)
before_loads {b = b} {path = path} {argv = argv} at
    (before_table esp fd size entry_point headers place words header answer found sized stack begins many from few inside long passed come) id is =
    absurd (none-some id is)
before_loads {b = b} {path = path} {argv = argv} at (before_piece fd headers child header done end place so next from) id is =
    λ slot image file loads. pieces_on path argv fd (child % NENV) so.image so.has
    (subst (λ (o : Option Spawning). Loads slot image o (bytes_replied (in_service (service.Spawn path argv) so.stage)) file) so.found.is
    (subst (λ (p : Phase). Loads slot image b.spawning (bytes_replied p) file) so.found.is_in.phase loads))

-- ---- how many bytes have come

module _ (value count len : ℕ) (many : len ≡ (if nat_le value count then value else 0)) where
  pub whole_long : is_whole count value ≡ true → len ≡ count
  whole_long is = by_tests (nat_le value count) refl (value == count) refl (count == 0) refl is
    where
      by_tests : (c : Bool) → nat_le value count ≡ c → (d : Bool) → (value == count) ≡ d → (e : Bool) → (count == 0) ≡ e → (d || e) ≡ true → len ≡ count
      by_tests c le true same e none is =
          let equal : value ≡ count = grind (arith, nat_tests, same) in
          let within : nat_le value count ≡ true = grind (arith, nat_tests, equal) in many ∙ ap (λ (t : Bool). if t then value else 0) within ∙ equal
      by_tests true le false off true none is =
          let zero : count ≡ 0 = grind (arith, nat_tests, none) in
          let low : value ≤ count = grind (arith, nat_tests, le) in
          let least : value ≡ count = omega (arith, zero, low) in many ∙ ap (λ (t : Bool). if t then value else 0) le ∙ least
      by_tests false le false off true none is =
          let zero : count ≡ 0 = grind (arith, nat_tests, none) in many ∙ ap (λ (t : Bool). if t then value else 0) le ∙ sym zero
      by_tests c le false off false some is = absurd (let contradiction : false ≡ true = is in cc)

  pub short_long : is_whole count value ≡ false → len ≢ count
  short_long is same = by_tests (nat_le value count) refl (value == count) refl (count == 0) refl is
    where
      by_tests : (c : Bool) → nat_le value count ≡ c → (d : Bool) → (value == count) ≡ d → (e : Bool) → (count == 0) ≡ e → (d || e) ≡ false → ⊥
      by_tests c le true equal e none is = let contradiction : true ≡ false = is in cc
      by_tests c le false off true none is = let contradiction : true ≡ false = is in cc
      by_tests true le false off false some is =
          let equal : value ≡ count = sym (many ∙ ap (λ (t : Bool). if t then value else 0) le) ∙ same in
          absurd (grind (arith, nat_tests, equal, off))
      by_tests false le false off false some is =
          let zero : count ≡ 0 = sym same ∙ many ∙ ap (λ (t : Bool). if t then value else 0) le in
          absurd (grind (arith, nat_tests, zero, some))

-- ---- where it goes on

-- the step, that it stands so there, and that it bears the same child
pub record ReadsOn (v : View) (k : Slot) (b : Born) (path argv : ℕ) (from to : SpawnStep) : Type 0 where
  pub held : holds_page (spawns_at path argv from) ≡ holds_page (spawns_at path argv to)
  pub bears : KeepsBearing from to
  pub so : StandsAtSpawn v (record k { extra = spawn_words to }) b path argv to

-- the first test of a header
first_passes : (size : ℕ) (byte : ℕ → ℕ) → EHDR_LEN ≤ size → first_failed (take 1 (header_tests size byte)) ≡ None
unfolding header_tests
first_passes size byte long = let test : nat_le EHDR_LEN size ≡ true = grind (arith, nat_tests, long) in rw test refl

module _ (v : View) (k : Slot) (b : Born) (path argv value id : ℕ) (bytes : List ℕ) (is_in : IsIn k b path argv (replied bytes value)) (small : AreBytes bytes)
    (kept : PageHas v (page_number UTEMP) 0 bytes) (given : GivenHas v []) where
  abbrev From : FilePart → SpawnStep
  From wants = spawn.Reading wants (read.ReadingReply id)

  found_at : (to : SpawnStep) {found : Spawning} → b.spawning ≡ Some found → Found (record k { extra = spawn_words to }) b path argv (replied bytes value) found
  found_at to is = record { is_in = in_moved k.status (spawn_words to) is_in; is = is }

  -- how many were wanted
  pub for_count : {wants : FilePart} {count : ℕ} → IsFor v b wants count → wanted wants ≡ count
  for_count (for_header esp fd size words found sized stack long) = refl
  for_count (for_table esp fd size entry_point headers place words header found sized stack begins many few) =
      let most : headers ≤ SEGMENT_MAX = few in ap (λ (n : ℕ). PHDR_LEN * n) (min-eq_left most)
  for_count (for_piece fd headers child header done end place image pieces found of_file whole below left come next sized) = refl

  -- the word is an error
  pub unread_goes : {wants : FilePart} {count : ℕ} → IsFor v b wants count → is_count value ≡ false → ReadsOn v k b path argv (From wants) (not_read wants value)
  unread_goes (for_header esp fd size words found sized stack long) none = record {
    held = refl;
    bears = bears_none refl refl;
    so = header_unread words bytes (found_at (spawn.Undoing (undoing.ClosingFile fd value)) found) sized.of_file none;
  }
  unread_goes (for_table esp fd size entry_point headers place words header found sized stack begins many few) none = record {
    held = refl;
    bears = bears_none refl refl;
    so = table_unread words header bytes (found_at (spawn.Undoing (undoing.ClosingFile fd value)) found) sized.of_file none;
  }
  unread_goes (for_piece fd headers child header done end place image pieces found of_file whole below left come next sized) none = record {
    held = refl;
    bears = bears_same child refl refl (λ p. refl) (λ q is. is) (λ n progress is. refl);
    so = record {
      image = image;
      pieces = pieces;
      bytes = bytes;
      answer = value;
      found = found_at (spawn.Undoing (undoing.DestroyingChild fd child value)) found;
      so = is_error none refl;
      of_file = of_file;
    };
  }

  -- fewer have come
  pub short_goes : {wants : FilePart} {count : ℕ} → IsFor v b wants count → is_count value ≡ true → length bytes ≢ count →
      ReadsOn v k b path argv (From wants) (not_read wants (negated E_NOT_EXEC))
  short_goes (for_header esp fd size words found sized stack long) come short = record {
    held = refl;
    bears = bears_none refl refl;
    so = no_header size words bytes value (found_at (no_image fd) found) sized come (inl short) refl;
  }
  short_goes (for_table esp fd size entry_point headers place words header found sized stack begins many few) come short = record {
    held = refl;
    bears = bears_none refl refl;
    so = no_table size words header bytes value (found_at (no_image fd) found) sized come
        (inl (λ same. short (same ∙ ap (λ (n : ℕ). PHDR_LEN * n) (sym many)))) refl;
  }
  short_goes (for_piece fd headers child header done end place image pieces found of_file whole below left come_to next sized) come short =
      let first = next_piece image header done end next in
      record {
        held = refl;
        bears = bears_same child refl refl (λ p. refl) (λ q is. is) (λ n progress is. refl);
        so = record {
          image = image;
          pieces = pieces;
          bytes = bytes;
          answer = value;
          found = found_at (spawn.Undoing (undoing.DestroyingChild fd child (negated E_NOT_EXEC))) found;
          so = is_short (record { at = (headers_in image.table header).file_at + done; len = end - done }) first.0 (left ∙ first.1) come short refl;
          of_file = of_file;
        };
      }

  -- all have come: of the program headers
  module _ {esp fd size entry_point headers place : ℕ} (so : (words : List ℕ) → HasHeaders v (record k { extra = words }) b path argv esp fd size entry_point headers)
      (table : (words : List ℕ) → (so words).table ≡ bytes) where
    table_goes : (more some : Bool) → nat_lt 0 (8 * min headers SEGMENT_MAX) ≡ more → nat_lt 0 headers ≡ some →
        ReadsOn v k b path argv (From (part.Table esp fd size entry_point headers place))
        (if more then spawn.Testing (testing.TableLoading esp fd size entry_point headers 0)
        else if some then spawn.Testing (testing.SegmentKind esp fd size entry_point headers 0)
        else spawn.Bearing (bearing.MakingChild esp fd entry_point headers))
    table_goes true some test none =
        let words = spawn_words (spawn.Testing (testing.TableLoading esp fd size entry_point headers 0)) in
        let least : min headers SEGMENT_MAX ≡ headers = min-eq_left (so words).few in
        let below : 0 < 8 * min headers SEGMENT_MAX = grind (arith, nat_tests, test) in
        record {
          held = refl;
          bears = bears_none refl refl;
          so = record {
            so = so words;
            kept = subst (λ (l : List ℕ). PageHas v (page_number UTEMP) 0 l) (sym (table words)) kept;
            few = omega (arith, below, least);
            copied_are = given;
          };
        }
    table_goes false true test some =
        let least : min headers SEGMENT_MAX ≡ headers = min-eq_left (so []).few in
        let past : 8 * min headers SEGMENT_MAX ≤ 0 = grind (arith, nat_tests, test) in
        let there : 0 < headers = grind (arith, nat_tests, some) in absurd (omega (arith, past, least, there))
    table_goes false false test none =
        let words = spawn_words (spawn.Bearing (bearing.MakingChild esp fd entry_point headers)) in
        let zero : headers ≡ 0 = grind (arith, nat_tests, none) in
        let empty : (so words).table ≡ [] = no_bytes (so words).table ((so words).whole ∙ ap (λ (n : ℕ). PHDR_LEN * n) (sym (so words).many ∙ zero)) in
        record {
          held = refl;
          bears = bears_none refl refl;
          so = record {
            size = size;
            so = so words;
            kept = subst (λ (l : List ℕ). GivenHas v l) (sym empty) given;
            passed = subst (λ (n : ℕ). first_failed (table_tests size (headers_in (so words).table) n) ≡ None) (sym zero) (table-none size (headers_in (so words).table));
          };
        }
      where
        no_bytes : (l : List ℕ) → length l ≡ 0 → l ≡ []
        no_bytes [] none_there = refl
        no_bytes (x ∷ rest) none_there = absurd (omega (arith, none_there))

  -- of each part
  pub whole_goes : {wants : FilePart} {count : ℕ} → IsFor v b wants count → is_count value ≡ true → length bytes ≡ count →
      ReadsOn v k b path argv (From wants) (once_read wants)
  whole_goes (for_header esp fd size words found sized stack long) come all = record {
    held = refl;
    bears = bears_none refl refl;
    so = record {
      has = record {
        words = words;
        header = bytes;
        answer = value;
        found = found_at (spawn.Testing (testing.HeaderMagic esp fd size)) found;
        come = come;
        stack = stack;
        of_file = sized;
        sized = long;
        long = all;
        small = small;
        kept = kept;
      };
      passed = first_passes size (slice_index bytes) long;
    };
  }
  whole_goes (for_table esp fd size entry_point headers place words header found sized stack begins many few) come all =
      table_goes {esp = esp} {fd = fd} {size = size} {entry_point = entry_point} {headers = headers} {place = place} (λ told. record {
        words = words;
        header = header;
        table = bytes;
        answer = value;
        found = record { is_in = in_moved k.status told is_in; is = found };
        come = come;
        stack = stack;
        of_file = sized;
        entry_point_is = begins;
        many = many;
        few = few;
        whole = all ∙ ap (λ (n : ℕ). PHDR_LEN * n) many;
        small = small;
      }) (λ told. refl) (nat_lt 0 (8 * min headers SEGMENT_MAX)) (nat_lt 0 headers) refl refl
  whole_goes (for_piece fd headers child header done end place image pieces found of_file whole below left come_to next sized) come all =
      let none : done % TRANSFER_MAX ≡ 0 = next.begins in
      let start : done ≡ piece_start done = omega (arith, none) in
      record {
        held = refl;
        bears = bears_same child refl refl (λ p. refl) (λ q is. is) (λ n progress is. is);
        so = (
          record {
            image = image;
            pieces = pieces;
            bytes = bytes;
            answer = value;
            found = found_at (spawn.Bearing (bearing.PieceAddress fd headers child header done end)) found;
            counts = come;
            of_file = of_file;
            whole = whole;
            below = below;
            loaded = next.loaded;
            within = next.some;
            end_is = next.end_is ∙ ap (λ (n : ℕ). min (n + TRANSFER_MAX) (headers_in image.table header).file_len) start;
            left = left ∙ ap (λ (n : ℕ). pieces_behind image header n) start;
            come = come_to ∙ ap (λ (n : ℕ). packed_at (headers_in image.table) header + n) start;
            long = all ∙ ap (λ (n : ℕ). end - n) start;
            small = small;
            kept = kept;
            sized = sized;
          },
          none,
        );
      }
