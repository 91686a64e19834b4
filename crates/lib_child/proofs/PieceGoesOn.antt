-- Where spawn goes on behind bytes of a piece that it has put: at the next of them, with another page of the child's first where they lie in
-- that, or, behind the last, where it gives the page back.
use Rattle.std.proofs.Common.{◌≡◌, ◌≢◌, ◌∙◌, ◌+◌, ◌-◌, ◌*◌, ◌/◌, ◌%◌, ◌<◌, ◌≤◌, ◌==◌, ◌&&◌, ◌||◌, ◌++◌, ℕ, Bool, true, false, not, List, [], ◌∷◌, Some}
use Rattle.std.proofs.Common.{length, refl, sym, ap, arith, if◌then◌else◌}
use Rattle.std.specs.Prelude.{drop, min, nat_le}
use Rattle.std.proofs.lemmas.Bool.{eqb-false, eqb-true}
use Rattle.std.proofs.lemmas.Bool.Decides.{nat_tests}
use Rattle.std.proofs.lemmas.List.{append-nil, drop-append-le, length-append}
use Rattle.std.proofs.lemmas.Option.{none-some}
use Rattle.std.proofs.Math.Nat.{min-eq_left, min-eq_right, min-le_left}
use Rattle.jos_base.specs.declared.numbers.TheConstants.{PGSIZE}
use Rattle.jos_base.specs.Environments.{Slot}
use Rattle.jos_base.specs.Words.{page_number}
use Rattle.jos_elf.specs.Parsed.{segment_of}
use Rattle.jos_elf.specs.Tests.{is_loaded}
use Rattle.lib_os.specs.declared.numbers.TheConstants.{SPAWN_GIVEN, SPAWN_HERE, SPAWN_STACK, TRANSFER_MAX}
use Rattle.lib_os.specs.declared.spawn_steps.BearingStep.TheVariants as bearing
use Rattle.lib_os.specs.declared.spawn_steps.SpawnStep.{SpawnStep}
use Rattle.lib_os.specs.declared.spawn_steps.SpawnStep.TheVariants as spawn
use Rattle.lib_os.specs.AbstractSpawn.{Piece, all_of, headers_in, packed_at, pieces_of, pieces_wanted}
use Rattle.lib_os.specs.AbstractState.{Born, ImageRead, replied}
use Rattle.lib_os.specs.LibraryPages.{View}
use Rattle.lib_os.specs.SpawnedChild.{IsProgress, Progress, filling, spawning_child}
use Rattle.lib_os.specs.SpawnPages.{is_childs}
use Rattle.lib_os.specs.StandsAtSpawn.{HasPut, IsNextPiece, IsPutting, IsPuttingAt, StandsAtSpawn, and_last, piece_start, pieces_behind}
use Rattle.lib_os.specs.StandsAtSpawn.{put_at_once}
use Rattle.lib_os.proofs.Serving.{holds_page}
use Rattle.lib_os.proofs.SpawnedGoes.{HereStill}
use Rattle.lib_os.proofs.SpawnOwnPages.{spawn_words, spawns_at}
use Rattle.lib_os.proofs.SpawnPagesTaken.{IsBesidePage}
use Rattle.lib_os.proofs.SpawnReplies.{next_piece}
use Rattle.lib_os.proofs.SpawnRequests.{left_behind}
use Rattle.lib_file.specs.Keeping.{next_va}
use Rattle.lib_child.specs.BearingStages.{put_behind}
use Rattle.lib_child.proofs.BearingStays.{filled_told, putting_aside, putting_told}
use Rattle.lib_child.proofs.HeaderSays.{lies_low}
use Rattle.lib_child.proofs.PiecesLeft.{count_of, pieces_after, pieces_long}
use Rattle.lib_child.proofs.PutsAt.{put_end, put_lies}

-- ---- how many are put at once

pub record Moves (at wanted m : ℕ) : Type 0 where
  pub some : 0 < m
  pub few : m ≤ wanted
  pub fits : at % PGSIZE + m ≤ PGSIZE

pub moves_at : (at wanted : ℕ) → 0 < wanted → Moves at wanted (put_at_once at wanted)
moves_at at wanted some = by_tests (at % 4 == 0) refl (nat_le 4 wanted) refl
  where
    by_tests : (aligned : Bool) → (at % 4 == 0) ≡ aligned → (many : Bool) → nat_le 4 wanted ≡ many → Moves at wanted (if aligned && many then 4 else 1)
    by_tests true begins true test =
        let four : 4 ≤ wanted = grind (arith, nat_tests, test) in
        let aligned : at % 4 ≡ 0 = eqb-true (at % 4) 0 begins in
        record { some = omega arith; few = four; fits = omega (arith, aligned) }
    by_tests true begins false test = record { some = omega arith; few = some; fits = omega arith }
    by_tests false begins many test = record { some = omega arith; few = some; fits = omega arith }

-- ---- the pieces

all_more : (pieces : List (List ℕ)) (bytes : List ℕ) → length (all_of (pieces ++ bytes ∷ [])) ≡ length (all_of pieces) + length bytes
unfolding all_of
all_more [] bytes =
    let none : length bytes ≡ 0 + length bytes = omega arith in ap length (append-nil bytes) ∙ none
all_more (first ∷ rest) bytes =
    let one = length-append first (all_of (rest ++ bytes ∷ [])) in
    let more = length-append first (all_of rest) in
    let behind = all_more rest bytes in
    omega (arith, one, more, behind)

behind_next : (image : ImageRead) (header start end : ℕ) (piece : Piece) (rest : List Piece) → is_loaded (headers_in image.table header) ≡ true →
    start < end → end ≤ start + TRANSFER_MAX → end ≤ (headers_in image.table header).file_len → start % TRANSFER_MAX ≡ 0 →
    pieces_behind image header start ≡ piece ∷ rest → pieces_behind image header end ≡ rest
behind_next image header start end piece rest loaded some most whole begins is =
    by_loaded end
    ∙ ap (λ (m : ℕ). drop m its ++ more) one
    ∙ sym (drop-append-le (number + 1) its more (omega (arith, long, some, most, whole, begins)))
    ∙ left_behind number (number + 1) (its ++ more) piece rest refl
    (drop-append-le number its more (omega (arith, long, some, most, whole, begins)) ∙ sym (by_loaded start) ∙ is)
  where
    its : List Piece
    its = pieces_of (segment_of (headers_in image.table header))

    more : List Piece
    more = pieces_after image (header + 1)

    number : ℕ
    number = (start + (TRANSFER_MAX - 1)) / TRANSFER_MAX

    long : length its ≡ ((headers_in image.table header).file_len + (TRANSFER_MAX - 1)) / TRANSFER_MAX
    long = pieces_long (segment_of (headers_in image.table header))

    one : (end + (TRANSFER_MAX - 1)) / TRANSFER_MAX ≡ number + 1
    one = omega (arith, some, most, begins)

    by_loaded : (x : ℕ) → pieces_behind image header x ≡ drop ((x + (TRANSFER_MAX - 1)) / TRANSFER_MAX) its ++ more
    by_loaded x = ap (λ (c : Bool). (if c then drop ((x + (TRANSFER_MAX - 1)) / TRANSFER_MAX) its else []) ++ more) loaded

-- ---- what is so behind them

module _ {v : View} {k : Slot} {b : Born} {path argv fd headers child header done end : ℕ}
    (so : IsPutting v k b path argv fd headers child header done end) where
  pub piece_most : end ≤ piece_start done + TRANSFER_MAX
  piece_most =
      let most = min-le_left (piece_start done + TRANSFER_MAX) (headers_in so.image.table header).file_len in
      let is = so.end_is in
      omega (arith, most, is)

module _ {v w : View} {k : Slot} {b : Born} {path argv fd headers child header done end : ℕ} (so : IsPutting v k b path argv fd headers child header done end)
    (m : ℕ) (beside : IsBesidePage v w (page_number SPAWN_HERE)) where
  abbrev now : IsPutting w k b path argv fd headers child header done end
  now = putting_aside beside (λ same. omega (arith, same)) (λ same. omega (arith, same)) refl (λ same. omega (arith, same)) so

  -- more bytes of it are to be put
  pub still_putting : done + m < end → IsPutting w k b path argv fd headers child header (done + m) end
  still_putting more =
      let most = piece_most so in
      let start : piece_start done ≡ piece_start (done + m) = omega (arith, more, most) in
      record {
        image = now.image;
        pieces = now.pieces;
        bytes = now.bytes;
        answer = now.answer;
        found = now.found;
        counts = now.counts;
        of_file = now.of_file;
        whole = now.whole;
        below = now.below;
        loaded = now.loaded;
        within = more;
        end_is = now.end_is ∙ ap (λ (q : ℕ). min (q + TRANSFER_MAX) (headers_in now.image.table header).file_len) start;
        left = now.left ∙ ap (pieces_behind now.image header) start;
        come = now.come ∙ ap (λ (q : ℕ). packed_at (headers_in now.image.table) header + q) start;
        long = now.long ∙ ap (λ (q : ℕ). end - q) start;
        small = now.small;
        kept = now.kept;
        sized = now.sized;
      }

  -- or none
  pub all_put : HasPut w k b path argv fd headers child header end
  all_put =
      let most = piece_most so in
      let last = put_end so in
      let within = so.within in
      let next : IsNextPiece now.image header (piece_start done) end =
      record { loaded = now.loaded; some = omega (arith, within); end_is = now.end_is; begins = omega arith } in
      let first = next_piece now.image header (piece_start done) end next in
      let many = length-append now.pieces (now.bytes ∷ []) in
      let long = now.long in
      let come = now.come in
      let added = all_more now.pieces now.bytes in
      record {
        filled = record {
          image = now.image;
          pieces = now.pieces;
          had = now.pieces ++ now.bytes ∷ [];
          stage = replied now.bytes now.answer;
          found = now.found;
          has = and_last now.bytes now.answer
              (record { at = (headers_in now.image.table header).file_at + piece_start done; len = end - piece_start done }) first.0
              (now.left ∙ first.1) now.long now.counts;
          of_file = now.of_file;
          whole = now.whole;
          below = now.below;
          left = left_behind (length now.pieces) (length (now.pieces ++ now.bytes ∷ [])) (pieces_wanted now.image)
              (record { at = (headers_in now.image.table header).file_at + piece_start done; len = end - piece_start done }) first.0 (omega (arith, many))
              (now.left ∙ first.1)
              ∙ sym (behind_next now.image header (piece_start done) end
              (record { at = (headers_in now.image.table header).file_at + piece_start done; len = end - piece_start done }) first.0 now.loaded
              (omega (arith, within)) most last (omega arith) first.1);
          come = omega (arith, added, come, long, within);
          sized = now.sized;
        };
        some = omega (arith, within);
        loaded = now.loaded;
        ends = (last, piece_ends);
      }
    where
      piece_ends : end ≢ (headers_in so.image.table header).file_len → end % TRANSFER_MAX ≡ 0
      piece_ends other = by_room (nat_le (piece_start done + TRANSFER_MAX) (headers_in so.image.table header).file_len) refl
        where
          by_room : (c : Bool) → nat_le (piece_start done + TRANSFER_MAX) (headers_in so.image.table header).file_len ≡ c → end % TRANSFER_MAX ≡ 0
          by_room true test =
              let room : piece_start done + TRANSFER_MAX ≤ (headers_in so.image.table header).file_len = grind (arith, nat_tests, test) in
              let all : end ≡ piece_start done + TRANSFER_MAX = so.end_is ∙ min-eq_left room in
              omega (arith, all)
          by_room false test =
              let past : (headers_in so.image.table header).file_len < piece_start done + TRANSFER_MAX = grind (arith, nat_tests, test) in
              absurd (other (so.end_is ∙ min-eq_right (omega (arith, past))))

-- ---- where it goes on

pub record PutGoes (v : View) (k : Slot) (b : Born) (path argv child count : ℕ) (from : SpawnStep) (progress : Progress) (to : SpawnStep) : Type 0 where
  pub held : holds_page (spawns_at path argv from) ≡ holds_page (spawns_at path argv to)
  pub bears : spawning_child to ≡ Some child
  pub childs : (p : ℕ) → is_childs from p ≡ is_childs to p
  pub told : HereStill from to
  pub is_so : IsProgress count to progress
  pub stands : (w : View) → IsBesidePage v w (page_number SPAWN_HERE) → StandsAtSpawn w (record k { extra = spawn_words to }) b path argv to

module _ {v : View} {k : Slot} {b : Born} {path argv fd headers child header va done end : ℕ} (word : ℕ)
    (so : IsPuttingAt v k b path argv fd headers child header va done end) (m : ℕ) (moves : Moves (va + done) (end - done) m) where
  abbrev from : SpawnStep
  from = spawn.Bearing (bearing.PiecePutting fd headers child header va done end word)

  few : done + m ≤ end
  few = let most = moves.few in let within = so.putting.within in omega (arith, most, within)

  abbrev Goes : SpawnStep → Type 0
  Goes to = PutGoes v k b path argv child (count_of so.putting.image) from (filling headers header (done + m)) to

  put_all : end ≤ done + m → Goes (spawn.Bearing (bearing.UnmappingHere fd headers child header end))
  put_all past =
      let to : SpawnStep = spawn.Bearing (bearing.UnmappingHere fd headers child header end) in
      let most = few in
      let all : done + m ≡ end = omega (arith, past, most) in
      record {
        held = refl;
        bears = refl;
        childs = λ p. refl;
        told = λ q is. absurd (none-some q is);
        is_so = ap (filling headers header) all;
        stands = λ w beside. all_put_told w (all_put so.putting m beside);
      }
    where
      all_put_told : (w : View) → HasPut w k b path argv fd headers child header end →
          HasPut w (record k { extra = spawn_words (spawn.Bearing (bearing.UnmappingHere fd headers child header end)) }) b path argv fd headers child
          header end
      all_put_told w h = record {
        filled = filled_told (spawn_words (spawn.Bearing (bearing.UnmappingHere fd headers child header end))) h.filled;
        some = h.some;
        loaded = h.loaded;
        ends = h.ends;
      }

  put_more : done + m < end → next_va va (done + m) % PGSIZE ≢ 0 → Goes (spawn.Bearing (bearing.PieceLoading fd headers child header va (done + m) end))
  unfolding still_putting
  put_more more inner =
      let to : SpawnStep = spawn.Bearing (bearing.PieceLoading fd headers child header va (done + m) end) in
      record {
        held = refl;
        bears = refl;
        childs = λ p. refl;
        told = λ q is. ap Some same_page ∙ is;
        is_so = refl;
        stands = λ w beside. record { putting = putting_told (spawn_words to) (still_putting so.putting m beside more); va_is = so.va_is };
      }
    where
      same_page : page_number (va + done) ≡ page_number (va + (done + m))
      same_page =
          let fits = moves.fits in
          let last = put_end so.putting in
          let room = (put_lies so.putting).room in
          let low = lies_low (headers_in so.putting.image.table header) (put_lies so.putting) in
          let va_is = so.va_is in
          let place : next_va va (done + m) ≡ va + (done + m) = omega (arith, more, last, room, low, va_is) in
          let other : (va + (done + m)) % PGSIZE ≢ 0 = (λ none. inner (ap (λ (at : ℕ). at % PGSIZE) place ∙ none)) in
          omega (arith, fits, other)

  put_page_end : done + m < end → Goes (spawn.Bearing (bearing.MappingHere fd headers child header va (done + m) end))
  unfolding still_putting
  put_page_end more =
      let to : SpawnStep = spawn.Bearing (bearing.MappingHere fd headers child header va (done + m) end) in
      let some = moves.some in
      let most = piece_most so.putting in
      let inner : (done + m) % TRANSFER_MAX ≢ 0 = (λ none. omega (arith, none, more, most, some)) in
      let kept : true ≡ not ((done + m) % TRANSFER_MAX == 0) = sym (ap not (off ((done + m) % TRANSFER_MAX) inner)) in
      record {
        held = λ i. (true, kept_by (kept i));
        bears = refl;
        childs = λ p i. ((p == page_number SPAWN_HERE) && kept i) || ((p == page_number SPAWN_STACK) && false);
        told = λ q is. absurd (none-some q is);
        is_so = refl;
        stands = λ w beside. record { putting = putting_told (spawn_words to) (still_putting so.putting m beside more); va_is = so.va_is };
      }
    where
      kept_by : Bool → ℕ → Bool
      kept_by here p = ((p == page_number SPAWN_GIVEN) && true) || ((p == page_number SPAWN_STACK) && true) || ((p == page_number SPAWN_HERE) && here)

      off : (q : ℕ) → q ≢ 0 → (q == 0) ≡ false
      off q other = grind (arith, nat_tests, other)

  pub put_goes : Goes (put_behind fd headers child header va (done + m) end)
  put_goes = by_tests (nat_le end (done + m)) refl (next_va va (done + m) % PGSIZE == 0) refl
    where
      by_tests : (c : Bool) → nat_le end (done + m) ≡ c → (t : Bool) → (next_va va (done + m) % PGSIZE == 0) ≡ t →
          Goes (if c then spawn.Bearing (bearing.UnmappingHere fd headers child header end)
          else if t then spawn.Bearing (bearing.MappingHere fd headers child header va (done + m) end)
          else spawn.Bearing (bearing.PieceLoading fd headers child header va (done + m) end))
      by_tests true test t begins = put_all (grind (arith, nat_tests, test))
      by_tests false test true begins = put_page_end (grind (arith, nat_tests, test))
      by_tests false test false begins = put_more (grind (arith, nat_tests, test)) (eqb-false (next_va va (done + m) % PGSIZE) 0 begins)
