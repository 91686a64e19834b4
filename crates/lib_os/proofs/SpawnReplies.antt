-- The file server replies to an environment in spawn: it stands where it will read the reply, and has as many bytes as it has asked for, at most.
use Rattle.std.proofs.Common.{◌≡◌, ◌≢◌, ◌∙◌, ◌+◌, ◌-◌, ◌*◌, ◌/◌, ◌%◌, ◌^◌, ◌<◌, ◌≤◌, ◌==◌, ◌++◌, ℕ, zero, suc, Bool, true, false, List, [], ◌∷◌, length}
use Rattle.std.proofs.Common.{Option, Some, None, refl, sym, ap, subst, arith, if◌then◌else◌}
use Rattle.std.specs.Prelude.{drop, flat_map, map, min, nat_le, slice_index}
use Rattle.std.proofs.lemmas.Bool.Decides.{nat_tests}
use Rattle.std.proofs.Math.Nat.{min-eq_left, min-eq_right, min-le_left, min-le_right}
use Rattle.jos_base.specs.Reach.{Entry}
use Rattle.jos_base.specs.Environments.{Slot}
use Rattle.jos_base.specs.SpacesState.{rising}
use Rattle.jos_base.specs.Words.{page_number}
use Rattle.jos_base.specs.declared.numbers.TheConstants.{UTEMP}
use Rattle.jos_elf.specs.declared.numbers.TheConstants.{PHDR_LEN}
use Rattle.jos_elf.specs.declared.image.Segment.{Segment}
use Rattle.jos_elf.specs.Headers.{entry_count_of}
use Rattle.jos_elf.specs.Parsed.{segment_of}
use Rattle.lib_os.specs.declared.numbers.TheConstants.{DESCRIPTORS, TRANSFER_MAX}
use Rattle.lib_os.specs.declared.service.Service.TheVariants as service
use Rattle.lib_os.specs.declared.spawn_steps.FilePart.{FilePart}
use Rattle.lib_os.specs.declared.spawn_steps.SpawnStep.{SpawnStep}
use Rattle.lib_os.specs.AbstractSpawn.{Piece, headers_in, image_segments, piece_of, pieces_left, pieces_of, table_size}
use Rattle.lib_os.specs.AbstractState.{Born, ImageRead, Spawning, heading, in_service, loading, replied, tabling}
use Rattle.lib_os.specs.AskedFor.{OpensBy, first_len, handed_in, is_opening, wanted_by}
use Rattle.lib_os.specs.FileServer.{is_count}
use Rattle.lib_os.specs.LibraryPages.{IsOwnWritable, View}
use Rattle.lib_os.specs.Rows.{AreBytes}
use Rattle.lib_os.specs.StandsAtSpawn.{IsFor, IsFreeOrNone, IsNextPiece, StandsAtSpawn, for_header, for_piece, for_table, has_bytes, has_file}
use Rattle.lib_os.specs.StandsAtSpawn.{is_free, none_is, opened_word, pieces_behind, rest_of}
use Rattle.lib_os.proofs.Sends.{received_in}
use Rattle.lib_os.proofs.SpawnWaits.{SpawnAwaits, expects_file, expects_part}

-- ---- how many bytes are wanted

-- a piece from pieces made one after another
front_behind : (f : ℕ → Piece) (first n k : ℕ) (more : List Piece) → k < n →
    (rest : List Piece) × (drop k (map f (rising first n)) ++ more ≡ f (first + k) ∷ rest)
unfolding rising
front_behind f first zero k more lt = absurd (omega (arith, lt))
front_behind f first (suc n) zero more lt =
    let same : first ≡ first + 0 = omega arith in
    (map f (rising (first + 1) n) ++ more, ap (λ (i : ℕ). f i ∷ (map f (rising (first + 1) n) ++ more)) same)
front_behind f first (suc n) (suc k) more lt =
    let same : first + 1 + k ≡ first + suc k = omega arith in
    let it = front_behind f (first + 1) n k more (omega (arith, lt)) in
    (it.0, it.1 ∙ ap (λ (i : ℕ). f i ∷ it.0) same)

-- the next piece of a segment
piece_long : (done end file_len : ℕ) → done < end → end ≡ min (done + TRANSFER_MAX) file_len → done % TRANSFER_MAX ≡ 0 →
    min TRANSFER_MAX (file_len - TRANSFER_MAX * (done / TRANSFER_MAX)) ≡ end - done
piece_long done end file_len some end_is begins = by_room (nat_le (done + TRANSFER_MAX) file_len) refl
  where
    whole : TRANSFER_MAX * (done / TRANSFER_MAX) ≡ done
    whole = omega (arith, begins)

    by_room : (c : Bool) → nat_le (done + TRANSFER_MAX) file_len ≡ c →
        min TRANSFER_MAX (file_len - TRANSFER_MAX * (done / TRANSFER_MAX)) ≡ end - done
    by_room true test =
        let room : done + TRANSFER_MAX ≤ file_len = grind (arith, nat_tests, test) in
        let all : end ≡ done + TRANSFER_MAX = end_is ∙ min-eq_left room in
        min-eq_left (omega (arith, room, whole)) ∙ omega (arith, all)
    by_room false test =
        let past : file_len < done + TRANSFER_MAX = grind (arith, nat_tests, test) in
        let all : end ≡ file_len = end_is ∙ min-eq_right (omega (arith, past)) in
        min-eq_right (omega (arith, past, whole)) ∙ omega (arith, all, whole)

-- It is the first of those that are left.
pub next_piece : (image : ImageRead) (header done end : ℕ) → IsNextPiece image header done end →
    (rest : List Piece) × (pieces_behind image header done ≡ record { at = (headers_in image.table header).file_at + done; len = end - done } ∷ rest)
next_piece image header done end next = (it.0, rw next.loaded (it.1 ∙ (λ i. record { at = at_is i; len = long_is i } ∷ it.0)))
  where
    segment : Segment
    segment = segment_of (headers_in image.table header)

    more : List Piece
    more =
        flat_map (λ n. rest_of (headers_in image.table) n 0)
        (rising (header + 1) (entry_count_of (slice_index image.header) - (header + 1)))

    -- its number
    number : ℕ
    number = (done + (TRANSFER_MAX - 1)) / TRANSFER_MAX

    number_is : 0 + number ≡ done / TRANSFER_MAX
    number_is = let begins = next.begins in omega (arith, begins)

    most : end ≤ (headers_in image.table header).file_len
    most = by_room (nat_le (done + TRANSFER_MAX) (headers_in image.table header).file_len) refl
      where
        by_room : (c : Bool) → nat_le (done + TRANSFER_MAX) (headers_in image.table header).file_len ≡ c → end ≤ (headers_in image.table header).file_len
        by_room true test =
            let room : done + TRANSFER_MAX ≤ (headers_in image.table header).file_len = grind (arith, nat_tests, test) in
            let all = next.end_is ∙ min-eq_left room in omega (arith, all, room)
        by_room false test =
            let past : (headers_in image.table header).file_len < done + TRANSFER_MAX = grind (arith, nat_tests, test) in
            let all = next.end_is ∙ min-eq_right (omega (arith, past)) in omega (arith, all)

    within : number < ((headers_in image.table header).file_len + (TRANSFER_MAX - 1)) / TRANSFER_MAX
    within = let some = next.some in let room = most in let begins = next.begins in omega (arith, some, room, begins)

    it : (rest : List Piece)
        × (drop number (pieces_of segment) ++ more ≡ piece_of segment (0 + number) ∷ rest)
    it = front_behind (piece_of segment) 0 ((segment.file_len + (TRANSFER_MAX - 1)) / TRANSFER_MAX) number more within

    at_is : segment.file_at + TRANSFER_MAX * (0 + number) ≡ segment.file_at + done
    at_is = let begins = next.begins in let same = number_is in omega (arith, begins, same)

    long_is : min TRANSFER_MAX (segment.file_len - TRANSFER_MAX * (0 + number)) ≡ end - done
    long_is =
        ap (λ (k : ℕ). min TRANSFER_MAX (segment.file_len - TRANSFER_MAX * k)) number_is
        ∙ piece_long done end segment.file_len next.some next.end_is next.begins

next_long : (image : ImageRead) (header done end : ℕ) → IsNextPiece image header done end → first_len (pieces_behind image header done) ≡ end - done
next_long image header done end next = ap (λ (pieces : List Piece). first_len pieces) (next_piece image header done end next).1

-- no piece has more bytes than a request moves
abbrev AreFew : List Piece → Type 0
AreFew [] = Unit {0}
AreFew (piece ∷ rest) = (piece.len ≤ TRANSFER_MAX) × AreFew rest

few_append : (first second : List Piece) → AreFew first → AreFew second → AreFew (first ++ second)
few_append [] second none more = more
few_append (piece ∷ rest) second each more = (each.0, few_append rest second each.1 more)

few_drop : (n : ℕ) (pieces : List Piece) → AreFew pieces → AreFew (drop n pieces)
few_drop zero pieces each = each
few_drop (suc n) [] each = tt
few_drop (suc n) (piece ∷ rest) each = few_drop n rest each.1

few_of : (segment : Segment) (first n : ℕ) → AreFew (map (piece_of segment) (rising first n))
unfolding rising
few_of segment first zero = tt
few_of segment first (suc n) = (min-le_left TRANSFER_MAX (segment.file_len - TRANSFER_MAX * first), few_of segment (first + 1) n)

few_in : (segments : List Segment) → AreFew (flat_map pieces_of segments)
few_in [] = tt
few_in (segment ∷ rest) =
    few_append (pieces_of segment) (flat_map pieces_of rest) (few_of segment 0 ((segment.file_len + (TRANSFER_MAX - 1)) / TRANSFER_MAX)) (few_in rest)

first_few : (pieces : List Piece) → AreFew pieces → first_len pieces ≤ TRANSFER_MAX
first_few [] each = omega arith
first_few (piece ∷ rest) each = each.0

wanted_few : (found : Spawning) → wanted_by found ≤ TRANSFER_MAX
wanted_few (heading fd words) = omega arith
wanted_few (tabling fd words header) = min-le_right (table_size header) TRANSFER_MAX
wanted_few (loading fd image child pieces) =
    first_few (pieces_left image pieces) (few_drop (length pieces) (flat_map pieces_of (image_segments image)) (few_in (image_segments image)))
wanted_few _ = omega arith

-- nor come more with a reply
pub handed_few : (path argv : ℕ) (found : Option Spawning) (word : ℕ) → handed_in (service.Spawn path argv) found word ≤ TRANSFER_MAX
handed_few path argv None word = omega arith
handed_few path argv (Some found) word = by_test (nat_le word (wanted_by found)) refl
  where
    by_test : (c : Bool) → nat_le word (wanted_by found) ≡ c → (if c then word else 0) ≤ TRANSFER_MAX
    by_test true test =
        let most = wanted_few found in
        let fits : word ≤ wanted_by found = grind (arith, nat_tests, test) in omega (arith, most, fits)
    by_test false test = omega arith

-- as many come, at most
pub wanted_same : {v : View} {b : Born} (path argv : ℕ) (wanted : FilePart) (count word : ℕ) → IsFor v b wanted count →
    handed_in (service.Spawn path argv) b.spawning word ≡ (if nat_le word count then word else 0)
wanted_same path argv _ _ word (for_header esp fd size words found sized stack long) = ap (λ (o : Option Spawning). handed_in (service.Spawn path argv) o word) found
wanted_same path argv _ _ word (for_table esp fd size entry_point headers place words header found sized stack begins many few) =
    ap (λ (o : Option Spawning). handed_in (service.Spawn path argv) o word) found
    ∙ ap (λ (n : ℕ). if nat_le word n then word else 0) (min-eq_left (omega (arith, many, few)) ∙ ap (λ (n : ℕ). PHDR_LEN * n) (sym many))
wanted_same path argv _ _ word (for_piece fd headers child header done end place image pieces found of_file whole below left come next sized) =
    ap (λ (o : Option Spawning). handed_in (service.Spawn path argv) o word) found
    ∙ ap (λ (n : ℕ). if nat_le word n then word else 0) (ap first_len left ∙ next_long image header done end next)

-- ---- it stands there

none_long : (bytes : List ℕ) → length bytes ≡ 0 → bytes ≡ []
none_long [] none = refl
none_long (byte ∷ rest) none = absurd (omega (arith, none))

-- the reply has come: the kernel has set EAX to 0
abbrev pub spawn_replied_born : Born → ℕ → ℕ → List ℕ → ℕ → Born
spawn_replied_born b path argv bytes answer = record b { phase = in_service (service.Spawn path argv) (replied bytes answer); blocked = false }

pub for_again : {v : View} {b : Born} (after : Born) → after.spawning ≡ b.spawning → (wanted : FilePart) (count : ℕ) → IsFor v b wanted count →
    IsFor v after wanted count
for_again after same _ _ (for_header esp fd size words found sized stack long) = for_header esp fd size words (same ∙ found) sized stack long
for_again after same _ _ (for_table esp fd size entry_point headers place words header found sized stack begins many few) =
    for_table esp fd size entry_point headers place words header (same ∙ found) sized stack begins many few
for_again after same _ _ (for_piece fd headers child header done end place image pieces found of_file whole below left come next sized) =
    for_piece fd headers child header done end place image pieces (same ∙ found) of_file whole below left come next sized

module _ (v : View) (k : Slot) (b : Born) (path argv sender answer : ℕ) (bytes : List ℕ) (small : answer < 2 ^ 32) (small_bytes : AreBytes bytes)
    (many : length bytes ≡ handed_in (service.Spawn path argv) b.spawning answer)
    (told : OpensBy (is_opening (service.Spawn path argv) b.spawning) answer None) (page : IsOwnWritable v.row (page_number UTEMP))
    (same : (entry : Entry) → v.row (page_number UTEMP) ≡ Some entry → (i : ℕ) → i < length bytes →
    slice_index (v.bytes entry.frame) i ≡ slice_index bytes i) where
  abbrev slot_after : Slot
  slot_after = received_in k sender answer 0

  abbrev born_after : Born
  born_after = spawn_replied_born b path argv bytes answer

  pub spawn_replied : (at : SpawnStep) → SpawnAwaits v k b path argv at → StandsAtSpawn v slot_after born_after path argv at
  spawn_replied _ (expects_file esp fd id self so) = (
    self,
    record {
      words = so.words;
      stack = so.stack;
      so = has_file (record {
        is_in = record {
          regs = so.awaiting_it.regs;
          program = so.awaiting_it.program;
          eax = 0;
          registers = λ i. record (so.awaiting_it.registers i) { eax = 0 };
          phase = λ i. in_service (service.Spawn path argv) (replied (none i) (answer_is i));
          silent = refl;
          awake = refl;
        };
        is = so.is;
      }) small (by_free so.free) (λ not_zero. error) (λ zero below. absurd (some zero));
    },
  )
    where
      none : bytes ≡ []
      none = none_long bytes (many ∙ ap (λ (o : Option Spawning). handed_in (service.Spawn path argv) o answer) so.is ∙ by_test (nat_le answer 0) refl)
        where
          by_test : (c : Bool) → nat_le answer 0 ≡ c → (if c then answer else 0) ≡ 0
          by_test true test = grind (arith, nat_tests, test)
          by_test false test = refl

      error : is_count answer ≡ false
      error = subst (λ (o : Option Spawning). OpensBy (is_opening (service.Spawn path argv) o) answer None) so.is told

      great : 2 ^ 31 ≤ answer
      great = grind (arith, nat_tests, error)

      some : answer ≢ 0
      some = λ zero. omega (arith, great, zero)

      answer_is : answer ≡ opened_word answer fd
      answer_is =
          let test : (answer == 0) ≡ false = grind (arith, nat_tests, some) in
          rw test refl

      by_free : IsFreeOrNone v fd → fd ≤ DESCRIPTORS
      by_free (is_free lowest) = let below = lowest.below in omega (arith, below)
      by_free (none_is all each) = omega (arith, all)
  spawn_replied _ (expects_part wanted id self so) = (
    self,
    record {
      count = so.count;
      so = for_again born_after refl wanted so.count so.so;
      awaits = has_bytes bytes (record {
        regs = so.awaiting_it.regs;
        program = so.awaiting_it.program;
        eax = 0;
        registers = λ i. record (so.awaiting_it.registers i) { eax = 0 };
        phase = refl;
        silent = refl;
        awake = refl;
      }) small (many ∙ wanted_same path argv wanted so.count answer so.so) small_bytes (record {
        entry = page.entry;
        stands = page.stands;
        own_page = page.own_page;
        same = λ i lt.
            let first : 0 + i ≡ i = omega arith in
            ap (slice_index (v.bytes page.entry.frame)) first ∙ same page.entry page.stands i lt;
      });
    },
  )
