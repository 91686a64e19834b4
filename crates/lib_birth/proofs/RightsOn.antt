-- Where spawn goes on with the rights of pages: behind a program header at the next one, or, behind the last, with what its child has beside its segments; and, where pages of
-- a segment may be left, at the other one that is the next, or at the first of those pages.
use Rattle.std.proofs.Common.{◌≡◌, ◌∙◌, ◌+◌, ◌<◌, ◌≤◌, ◌&&◌, ◌++◌, ℕ, Bool, true, false, not, List, refl, sym, ap, subst, arith}
use Rattle.std.proofs.Common.{if◌then◌else◌}
use Rattle.std.specs.Prelude.{nat_le, nat_lt}
use Rattle.std.proofs.lemmas.Bool.{and_parts}
use Rattle.std.proofs.lemmas.Bool.Decides.{nat_tests}
use Rattle.jos_base.specs.Environments.{Slot}
use Rattle.jos_elf.specs.Pages.{any_writes, touches}
use Rattle.jos_elf.specs.Parsed.{segment_of, segments_of}
use Rattle.lib_os.specs.declared.place.Step.TheVariants as step
use Rattle.lib_os.specs.declared.spawn_steps.FinishingStep.TheVariants as finishing
use Rattle.lib_os.specs.declared.spawn_steps.SpawnStep.{SpawnStep}
use Rattle.lib_os.specs.declared.spawn_steps.SpawnStep.TheVariants as spawn
use Rattle.lib_os.specs.AbstractSpawn.{all_of, headers_in, image_segments}
use Rattle.lib_os.specs.AbstractState.{Born, ImageRead}
use Rattle.lib_os.specs.LibraryPages.{View}
use Rattle.lib_os.specs.SpawnedChild.{IsProgress, Progress, bytes_replied, header_touches, settling}
use Rattle.lib_os.specs.SpawnPages.{is_childs}
use Rattle.lib_os.specs.StandsAtSpawn.{HasAllBytes, HasImage, IsReadOnly}
use Rattle.lib_os.proofs.Serving.{holds_page}
use Rattle.lib_os.proofs.SpawnOwnPages.{spawn_words, spawns_at}
use Rattle.lib_os.proofs.SpawnedProgress.{Alike, alike_same}
use Rattle.lib_request.proofs.BorneGoes.{BorneGoesTo}
use Rattle.lib_child.specs.ChildSegments.{rights_from}
use Rattle.lib_child.proofs.BearingOn.{ComesTo, comes_goes, image_pages, none_mine}
use Rattle.lib_child.proofs.BearingStays.{found_told}
use Rattle.lib_child.proofs.PiecesLeft.{count_of}
use Rattle.lib_birth.specs.FinishingStages.{others_from}
use Rattle.lib_birth.proofs.RightsProgress.{rights_from_page, rights_up_to, touched_so}
use Rattle.lib_birth.proofs.RightsWrites.{writes_fewer}

-- ---- what it knows whatever its words are

abbrev pub bytes_told : {v : View} {k : Slot} {b : Born} {path argv fd child : ℕ} (words : List ℕ) → HasAllBytes v k b path argv fd child →
    HasAllBytes v (record k { extra = words }) b path argv fd child
bytes_told words h = record {
  image = h.image;
  pieces = h.pieces;
  had = h.had;
  stage = h.stage;
  found = found_told words h.found;
  has = h.has;
  none_left = h.none_left;
  tested = h.tested;
  of_file = h.of_file;
}

-- ---- a step

-- It has its pages there, and none of the child's; and the rights of so many pages are set.
pub record IsAtRights (path argv count header page : ℕ) (from : SpawnStep) : Type 0 where
  pub held : holds_page (spawns_at path argv from) ≡ image_pages
  pub mine : (p : ℕ) → is_childs from p ≡ false
  pub was : (progress : Progress) → IsProgress count from progress → progress ≡ settling count header page

-- The pages from one to another are those of a segment, but for those that may be written, by the program headers in front of another one.
abbrev pub ArePages : ImageRead → ℕ → ℕ → ℕ → ℕ → Type 0
ArePages image header page end other =
    (p : ℕ) → (nat_le page p && nat_lt p end)
    ≡ (touches p (segment_of (headers_in image.table header)) && not (any_writes p (segments_of (headers_in image.table) other)))

module _ {v : View} {k : Slot} {b : Born} {path argv fd headers child : ℕ} (has : HasAllBytes v k b path argv fd child)
    (whole : HasImage v has.image headers) where
  abbrev Comes : ℕ → ℕ → SpawnStep → Type 0
  Comes header page to = ComesTo v k b path argv child (count_of has.image) (settling (count_of has.image) header page) to

  -- ---- behind a program header

  kind_comes : (header : ℕ) → header < headers → Comes header 0 (spawn.Finishing (finishing.RightsKind fd headers child header))
  kind_comes header below =
      let to : SpawnStep = spawn.Finishing (finishing.RightsKind fd headers child header) in
      record {
        held = refl;
        bears = refl;
        mine = none_mine to refl refl;
        told = refl;
        is_so = refl;
        stands = record { has = bytes_told (spawn_words to) has; whole = whole; below = below; so = tt };
      }

  stack_comes : (header : ℕ) → header ≡ headers → Comes header 0 (spawn.Finishing (finishing.ChildStack fd child))
  stack_comes header last =
      let to : SpawnStep = spawn.Finishing (finishing.ChildStack fd child) in
      record {
        held = refl;
        bears = refl;
        mine = none_mine to refl refl;
        told = refl;
        is_so = ap (λ (m : ℕ). settling (count_of has.image) m 0) (last ∙ whole.many);
        stands = record { has = bytes_told (spawn_words to) has; esp = whole.esp; stack = whole.stack };
      }

  pub rights_come : (header : ℕ) → header ≤ headers → ComesTo v k b path argv child (count_of has.image) (settling (count_of has.image) header 0)
      (rights_from fd headers child header)
  rights_come header most = by_test (nat_lt header headers) refl
    where
      by_test : (c : Bool) → nat_lt header headers ≡ c →
          Comes header 0 (if c then spawn.Finishing (finishing.RightsKind fd headers child header) else spawn.Finishing (finishing.ChildStack fd child))
      by_test true test = kind_comes header (grind (arith, nat_tests, test))
      by_test false test = stack_comes header (let past : headers ≤ header = grind (arith, nat_tests, test) in omega (arith, past, most))

  pub rights_go : (from : SpawnStep) (header page : ℕ) → IsAtRights path argv (count_of has.image) header page from → header < headers →
      Alike b has.image (all_of has.pieces ++ bytes_replied b.phase) (settling (count_of has.image) header page) (settling (count_of has.image) (header + 1) 0) →
      BorneGoesTo v k b path argv child from (step.Spawning (rights_from fd headers child (header + 1)))
  rights_go from header page it below alike =
      comes_goes from it.held it.mine it.was has.found.is alike (rights_come (header + 1) (omega (arith, below)))

  -- ---- the pages of a segment that is only read

  module _ (header page end other : ℕ) (below : header < headers) (reads : IsReadOnly (headers_in has.image.table header)) (most : other ≤ headers)
      (pages : ArePages has.image header page end other) where
    -- one of its pages that no segment has which may be written is among them
    among : (p : ℕ) → header_touches has.image p header ≡ true → any_writes p (image_segments has.image) ≡ false → (page ≤ p) × (p < end)
    among p touched unwritten =
        let it = touched_so has.image p header touched in
        let part = it.2 in
        let none =
        writes_fewer (headers_in has.image.table) p other (count_of has.image) (subst (λ (m : ℕ). other ≤ m) whole.many most) unwritten in
        let parts = and_parts (nat_le page p) (nat_lt p end) (pages p ∙ (λ i. part i && not (none i))) in
        let low = parts.0 in
        let high = parts.1 in
        (grind (arith, nat_tests, low), grind (arith, nat_tests, high))

    other_comes : other < headers → Comes header 0 (spawn.Finishing (finishing.SharedKind fd headers child header page end other))
    other_comes lower =
        let to : SpawnStep = spawn.Finishing (finishing.SharedKind fd headers child header page end other) in
        record {
          held = refl;
          bears = refl;
          mine = none_mine to refl refl;
          told = refl;
          is_so = refl;
          stands = (
            record {
              settling_it = record { has = bytes_told (spawn_words to) has; whole = whole; below = below; so = reads };
              most = most;
              pages = pages;
              so = tt;
            },
            lower,
          );
        }

    page_comes : page < end → other ≡ headers → Comes header page (spawn.Finishing (finishing.RightsPage fd headers child header page end))
    page_comes some all =
        let to : SpawnStep = spawn.Finishing (finishing.RightsPage fd headers child header page end) in
        record {
          held = refl;
          bears = refl;
          mine = none_mine to refl refl;
          told = refl;
          is_so = refl;
          stands = (record { has = bytes_told (spawn_words to) has; whole = whole; below = below; so = reads }, some, behind);
        }
      where
        behind : (p : ℕ) → page ≤ p → nat_lt p end ≡ (touches p (segment_of (headers_in has.image.table header))
            && not (any_writes p (segments_of (headers_in has.image.table) headers)))
        behind p from =
            let low : nat_le page p ≡ true = grind (arith, nat_tests, from) in
            ap (λ (c : Bool). c && nat_lt p end) (sym low) ∙ pages p
            ∙ ap (λ (m : ℕ). touches p (segment_of (headers_in has.image.table header)) && not (any_writes p (segments_of (headers_in has.image.table) m))) all

    -- where it goes on, from a step at which none of them is set
    pub others_go : (from : SpawnStep) → IsAtRights path argv (count_of has.image) header 0 from →
        BorneGoesTo v k b path argv child from (step.Spawning (others_from fd headers child header page end other))
    others_go from it = by_tests (nat_lt page end) refl (nat_lt other headers) refl
      where
        file : List ℕ
        file = all_of has.pieces ++ bytes_replied b.phase

        n : ℕ
        n = count_of has.image

        by_tests : (some : Bool) → nat_lt page end ≡ some → (more : Bool) → nat_lt other headers ≡ more →
            BorneGoesTo v k b path argv child from (step.Spawning (if not some then rights_from fd headers child (header + 1)
            else if more then spawn.Finishing (finishing.SharedKind fd headers child header page end other)
            else spawn.Finishing (finishing.RightsPage fd headers child header page end)))
        by_tests false none more test =
            let past : end ≤ page = grind (arith, nat_tests, none) in
            rights_go from header 0 it below
            (rights_up_to b has.image file n header 0
            (λ p touched unwritten. let it = among p touched unwritten in
            let low = it.0 in
            let high = it.1 in
            absurd (omega (arith, past, low, high))))
        by_tests true some true test =
            comes_goes from it.held it.mine it.was has.found.is (alike_same b has.image file (settling n header 0))
            (other_comes (grind (arith, nat_tests, test)))
        by_tests true some false test =
            comes_goes from it.held it.mine it.was has.found.is
            (rights_from_page b has.image file n header page (λ p touched unwritten. (among p touched unwritten).0))
            (page_comes (grind (arith, nat_tests, some)) (let past : headers ≤ other = grind (arith, nat_tests, test) in omega (arith, past, most)))
