-- Where spawn goes on behind a program header: at the next of which the pages are to be placed, or the bytes put, or, behind the last, with what comes then.
use Rattle.std.proofs.Common.{◌≡◌, ◌≢◌, ◌∙◌, ◌+◌, ◌*◌, ◌<◌, ◌≤◌, ◌==◌, ◌&&◌, ◌||◌, ◌%◌, ◌++◌, ℕ, Bool, true, false, List, [], Some, None, refl, sym, ap, subst}
use Rattle.std.proofs.Common.{arith}
use Rattle.std.proofs.Common.{if◌then◌else◌}
use Rattle.std.specs.Prelude.{nat_lt}
use Rattle.std.proofs.lemmas.Bool.Decides.{nat_tests}
use Rattle.std.proofs.lemmas.Option.{none-some}
use Rattle.jos_base.specs.declared.numbers.TheConstants.{NENV}
use Rattle.jos_base.specs.Environments.{Slot}
use Rattle.jos_base.specs.Words.{page_number}
use Rattle.jos_elf.specs.Tests.{first_failed, table_tests}
use Rattle.lib_os.specs.declared.numbers.TheConstants.{SPAWN_GIVEN, SPAWN_HERE, SPAWN_STACK}
use Rattle.lib_os.specs.declared.place.Step.TheVariants as step
use Rattle.lib_os.specs.declared.spawn_steps.BearingStep.TheVariants as bearing
use Rattle.lib_os.specs.declared.spawn_steps.FinishingStep.TheVariants as finishing
use Rattle.lib_os.specs.declared.spawn_steps.SpawnStep.{SpawnStep}
use Rattle.lib_os.specs.declared.spawn_steps.SpawnStep.TheVariants as spawn
use Rattle.lib_os.specs.AbstractSpawn.{all_of, headers_in, pieces_left}
use Rattle.lib_os.specs.AbstractState.{Born, ImageRead, Stage, loading, taking}
use Rattle.lib_os.specs.LibraryPages.{View}
use Rattle.lib_os.specs.SpawnedChild.{IsProgress, Progress, bytes_replied, filling, page_here, placing, spawning_child, whole}
use Rattle.lib_os.specs.SpawnPages.{has_given_stack, is_childs, keeps_here}
use Rattle.lib_os.specs.StandsAtSpawn.{Found, HasAllBytes, HasChild, HasImage, HasPieces, HaveComeTo, IsOfFile, IsOfFileWith, StandsAtSpawn, none_yet}
use Rattle.lib_os.proofs.Serving.{Kept, holds_page}
use Rattle.lib_os.proofs.SpawnOwnPages.{spawn_words, spawns_at}
use Rattle.lib_os.proofs.SpawnedProgress.{Alike, goes_by}
use Rattle.lib_request.proofs.BorneGoes.{BorneGoesTo}
use Rattle.lib_child.specs.ChildSegments.{pages_from, pieces_from}
use Rattle.lib_child.proofs.BearingStays.{child_told, found_told}
use Rattle.lib_child.proofs.PiecesLeft.{after_here, after_last, count_of, packed_none, pieces_after, wanted_all}

-- ---- pages

-- spawn's own, but for one of the child's
abbrev pub image_pages : Kept
image_pages =
    (true, (λ p. ((p == page_number SPAWN_GIVEN) && true) || ((p == page_number SPAWN_STACK) && true) || ((p == page_number SPAWN_HERE) && false)))

-- none of the child's stands here
pub none_mine : (at : SpawnStep) → keeps_here at ≡ false → has_given_stack at ≡ false → (p : ℕ) → is_childs at p ≡ false
none_mine at here stack p =
    (λ i. ((p == page_number SPAWN_HERE) && here i) || ((p == page_number SPAWN_STACK) && stack i))
    ∙ by_tests (p == page_number SPAWN_HERE) (p == page_number SPAWN_STACK)
  where
    by_tests : (c d : Bool) → ((c && false) || (d && false)) ≡ false
    by_tests true true = refl
    by_tests true false = refl
    by_tests false true = refl
    by_tests false false = refl

-- Spawn stands so at a step, with these pages, where its child has got as far as that.
pub record ComesTo (v : View) (k : Slot) (b : Born) (path argv id count : ℕ) (progress : Progress) (to : SpawnStep) : Type 0 where
  pub held : holds_page (spawns_at path argv to) ≡ image_pages
  pub bears : spawning_child to ≡ Some id
  pub mine : (p : ℕ) → is_childs to p ≡ false
  pub told : page_here to ≡ None
  pub is_so : IsProgress count to progress
  pub stands : StandsAtSpawn v (record k { extra = spawn_words to }) b path argv to

-- It goes on there, where its child has the same by what is told of it.
pub comes_goes : {v : View} {k : Slot} {b : Born} {path argv fd child id : ℕ} {image : ImageRead} {pieces : List (List ℕ)}
    {before after : Progress} {to : SpawnStep}
    (from : SpawnStep) → holds_page (spawns_at path argv from) ≡ image_pages → ((p : ℕ) → is_childs from p ≡ false) →
    ((progress : Progress) → IsProgress (count_of image) from progress → progress ≡ before) → b.spawning ≡ Some (loading fd image child pieces) →
    Alike b image (all_of pieces ++ bytes_replied b.phase) before after → ComesTo v k b path argv id (count_of image) after to →
    BorneGoesTo v k b path argv id from (step.Spawning to)
comes_goes {id = id} {before = before} {after = after} {to = to} from held mine was found alike comes = record {
  at = to;
  is = refl;
  held = held ∙ sym comes.held;
  bears = comes.bears;
  childs = λ p. mine p ∙ sym (comes.mine p);
  told = λ q is. absurd (none-some q (sym comes.told ∙ is));
  goes = goes_by id from to before after found was comes.is_so alike;
  stands = comes.stands;
}

-- ---- the bytes of segments, and then the rights of their pages

-- What the child has with the segments of the program headers in front of one, of which all bytes are put.
pub record HasUpTo (v : View) (k : Slot) (b : Born) (path argv fd headers child header : ℕ) (image : ImageRead) : Type 0 where
  pub pieces : List (List ℕ)
  pub had : List (List ℕ)
  pub stage : Stage
  pub found : Found k b path argv stage (loading fd image (child % NENV) pieces)
  pub has : HasPieces image pieces had stage
  pub of_file : IsOfFile v fd
  pub whole : HasImage v image headers
  pub left : pieces_left image had ≡ pieces_after image header
  pub come : HaveComeTo image header 0 had
  pub sized : IsOfFileWith v fd whole.size

module _ {v : View} {k : Slot} {b : Born} {path argv fd headers child header : ℕ} {image : ImageRead}
    (h : HasUpTo v k b path argv fd headers child header image) where
  -- all of them are put
  abbrev all_bytes : (words : List ℕ) → header ≡ headers → HasAllBytes v (record k { extra = words }) b path argv fd child
  all_bytes words last = record {
    image = image;
    pieces = h.pieces;
    had = h.had;
    stage = h.stage;
    found = found_told words h.found;
    has = h.has;
    none_left = h.left ∙ after_last image header (last ∙ h.whole.many);
    of_file = h.of_file;
    tested = record {
      size = h.whole.size;
      passed = ap (λ (n : ℕ). first_failed (table_tests h.whole.size (headers_in image.table) n)) (sym h.whole.many) ∙ h.whole.passed;
      fits = h.whole.stack.fits;
    };
  }

  abbrev Comes : SpawnStep → Type 0
  Comes to = ComesTo v k b path argv child (count_of image) (filling headers header 0) to

  more_come : header < headers → Comes (spawn.Bearing (bearing.PieceKind fd headers child header))
  more_come below =
      let to : SpawnStep = spawn.Bearing (bearing.PieceKind fd headers child header) in
      record {
        held = refl;
        bears = refl;
        mine = none_mine to refl refl;
        told = refl;
        is_so = refl;
        stands = record {
          filled = record {
            image = image;
            pieces = h.pieces;
            had = h.had;
            stage = h.stage;
            found = found_told (spawn_words to) h.found;
            has = h.has;
            of_file = h.of_file;
            whole = h.whole;
            below = below;
            left = h.left ∙ after_here image header (subst (λ (m : ℕ). header < m) h.whole.many below);
            come = h.come;
            sized = h.sized;
          };
          so = tt;
        };
      }

  rights_come : header ≡ headers → 0 < headers → Comes (spawn.Finishing (finishing.RightsKind fd headers child 0))
  rights_come last some =
      let to : SpawnStep = spawn.Finishing (finishing.RightsKind fd headers child 0) in
      record {
        held = refl;
        bears = refl;
        mine = none_mine to refl refl;
        told = refl;
        is_so = λ i. filling (h.whole.many i) ((last ∙ h.whole.many) i) 0;
        stands = record { has = all_bytes (spawn_words to) last; whole = h.whole; below = some; so = tt };
      }

  -- there is no program header
  finish_come : header ≡ headers → headers ≡ 0 → Comes (spawn.Finishing (finishing.ChildStack fd child))
  finish_come last none =
      let to : SpawnStep = spawn.Finishing (finishing.ChildStack fd child) in
      record {
        held = refl;
        bears = refl;
        mine = none_mine to refl refl;
        told = refl;
        is_so = (λ i. filling (none i) ((last ∙ none) i) 0) ∙ ap whole (sym none ∙ h.whole.many);
        stands = record { has = all_bytes (spawn_words to) last; esp = h.whole.esp; stack = h.whole.stack };
      }

  pub pieces_come : header ≤ headers → Comes (pieces_from fd headers child header)
  pieces_come most = by_tests (nat_lt header headers) refl (nat_lt 0 headers) refl
    where
      by_tests : (c : Bool) → nat_lt header headers ≡ c → (d : Bool) → nat_lt 0 headers ≡ d →
          Comes (if c then spawn.Bearing (bearing.PieceKind fd headers child header)
          else if d then spawn.Finishing (finishing.RightsKind fd headers child 0) else spawn.Finishing (finishing.ChildStack fd child))
      by_tests true test d some = more_come (grind (arith, nat_tests, test))
      by_tests false test true some =
          rights_come (let past : headers ≤ header = grind (arith, nat_tests, test) in omega (arith, past, most)) (grind (arith, nat_tests, some))
      by_tests false test false some =
          finish_come (let past : headers ≤ header = grind (arith, nat_tests, test) in omega (arith, past, most))
          (let none : headers ≤ 0 = grind (arith, nat_tests, some) in omega (arith, none))

-- ---- the pages of segments, and then the bytes

module _ {v : View} {k : Slot} {b : Born} {path argv fd headers child : ℕ} {image : ImageRead} (h : HasChild v k b path argv fd headers child image) where
  -- none is asked for, and nothing put
  has_none : HasUpTo v k b path argv fd headers child 0 image
  unfolding all_of
  has_none = record {
    pieces = [];
    had = [];
    stage = taking [];
    found = h.found;
    has = none_yet;
    of_file = h.of_file;
    whole = h.whole;
    left = wanted_all image;
    come = let none = packed_none (headers_in image.table) in omega (arith, none);
    sized = h.sized;
  }

  pub pages_come : (header : ℕ) → header ≤ headers → ComesTo v k b path argv child (count_of image) (placing header 0) (pages_from fd headers child header)
  pages_come header most = by_test (nat_lt header headers) refl
    where
      more_come : header < headers → ComesTo v k b path argv child (count_of image) (placing header 0)
          (spawn.Bearing (bearing.PlacingKind fd headers child header))
      more_come below =
          let to : SpawnStep = spawn.Bearing (bearing.PlacingKind fd headers child header) in
          record {
            held = refl;
            bears = refl;
            mine = none_mine to refl refl;
            told = refl;
            is_so = refl;
            stands = record { image = image; has = child_told (spawn_words to) h; below = below; so = tt };
          }

      by_test : (c : Bool) → nat_lt header headers ≡ c → ComesTo v k b path argv child (count_of image) (placing header 0)
          (if c then spawn.Bearing (bearing.PlacingKind fd headers child header) else pieces_from fd headers child 0)
      by_test true test = more_come (grind (arith, nat_tests, test))
      by_test false test =
          let last : header ≡ headers = (let past : headers ≤ header = grind (arith, nat_tests, test) in omega (arith, past, most)) in
          subst (λ (m : ℕ). ComesTo v k b path argv child (count_of image) (placing m 0) (pieces_from fd headers child 0)) (sym last)
          (pieces_come has_none (omega arith))
