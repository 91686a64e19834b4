-- Where spawn puts a piece: its next byte lies in a page of the segment, which the child has, with the bytes that are put so far.
use Rattle.std.proofs.Common.{◌≡◌, ◌≢◌, ◌∙◌, ◌+◌, ◌-◌, ◌*◌, ◌/◌, ◌%◌, ◌<◌, ◌≤◌, ◌==◌, ◌&&◌, ◌||◌, ◌++◌, ℕ, Bool, true, false, not, List, Some, None, refl, sym}
use Rattle.std.proofs.Common.{ap, subst}
use Rattle.std.proofs.Common.{arith, if◌then◌else◌}
use Rattle.std.specs.Prelude.{nat_lt}
use Rattle.std.proofs.lemmas.Bool.{false≢true}
use Rattle.std.proofs.lemmas.Bool.Decides.{nat_tests}
use Rattle.std.proofs.Math.Nat.{min-le_right}
use Rattle.jos_base.specs.Below.{some_below}
use Rattle.jos_base.specs.Environments.{Slot}
use Rattle.jos_base.specs.KernelState.{KernelState}
use Rattle.jos_base.specs.SystemCalls.{has_write}
use Rattle.jos_base.specs.Words.{page_number}
use Rattle.jos_base.proofs.Below.{some_below-at}
use Rattle.jos_elf.specs.declared.header.ProgramHeader.{ProgramHeader}
use Rattle.jos_elf.specs.Pages.{any_writes, page_bytes}
use Rattle.jos_elf.specs.Parsed.{Lies, segment_of}
use Rattle.lib_os.specs.declared.numbers.TheConstants.{TRANSFER_MAX}
use Rattle.lib_os.specs.declared.spawn_steps.SpawnStep.{SpawnStep}
use Rattle.lib_os.specs.AbstractSpawn.{all_of, headers_in, under_shared}
use Rattle.lib_os.specs.AbstractState.{Born, ImageRead, loading, own}
use Rattle.lib_os.specs.LibraryPages.{View}
use Rattle.lib_os.specs.Rows.{Names, is_cow, page_seen}
use Rattle.lib_os.specs.SpawnedChild.{IsProgress, Progress, bytes_replied, child_page, filling, header_touches, image_page, is_placed_page, is_settled_page}
use Rattle.lib_os.specs.SpawnedChild.{own_page, segments_filled}
use Rattle.lib_os.specs.StandsAtSpawn.{IsPutting, piece_start}
use Rattle.lib_os.proofs.HereMoves.{IsOwnEntry, own_entry}
use Rattle.lib_os.proofs.SpawnedGoes.{HasOfImage}
use Rattle.lib_os.proofs.SpawnedProgress.{loads_same}
use Rattle.lib_file.specs.Keeping.{next_va}
use Rattle.lib_child.proofs.HeaderSays.{image_lies, lies_low}
use Rattle.lib_child.proofs.PagesPlaced.{IsPageOf, no_stack, page_inside, page_touched, page_unpassed}
use Rattle.lib_child.proofs.PiecesLeft.{count_of}

-- ---- the place of a byte that is put

module _ {v : View} {k : Slot} {b : Born} {path argv fd headers child header done end : ℕ}
    (so : IsPutting v k b path argv fd headers child header done end) where
  abbrev one : ProgramHeader
  one = headers_in so.image.table header

  pub put_lies : Lies so.whole.size (segment_of (headers_in so.image.table header))
  put_lies = image_lies so.whole header so.below so.loaded

  pub put_end : end ≤ (headers_in so.image.table header).file_len
  put_end =
      let last = min-le_right (piece_start done + TRANSFER_MAX) one.file_len in
      let is = so.end_is in
      omega (arith, last, is)

  pub put_page : IsPageOf so.image header (page_number ((headers_in so.image.table header).va + done))
  put_page =
      let within = so.within in
      let last = put_end in
      let room = put_lies.room in
      record {
        below = subst (λ (m : ℕ). header < m) so.whole.many so.below;
        loaded = so.loaded;
        total = so.whole.size;
        lies = put_lies;
        from = omega arith;
        to = omega (arith, within, last, room);
      }

  pub put_va : next_va (headers_in so.image.table header).va done ≡ (headers_in so.image.table header).va + done
  put_va =
      let within = so.within in
      let last = put_end in
      let room = put_lies.room in
      let low = lies_low one put_lies in
      omega (arith, within, last, room, low)

-- ---- a page of the child's, with the bytes of so many segments

module _ {image : ImageRead} {header page : ℕ} (it : IsPageOf image header page) (b : Born) (file : List ℕ) (headers to done : ℕ)
    (below : header < headers) where
  or_first : (c d : Bool) → c ≡ true → (c || d) ≡ true
  or_first true d is = refl
  or_first false d is = absurd (false≢true is)

  or_true : (c : Bool) → (c || true) ≡ true
  or_true true = refl
  or_true false = refl

  and_none : (c : Bool) → (c && false) ≡ false
  and_none true = refl
  and_none false = refl

  pub all_placed : is_placed_page image (filling headers to done) page ≡ true
  all_placed =
      or_first (some_below headers (header_touches image page)) (header_touches image page headers && nat_lt page 0)
      (some_below-at (header_touches image page) headers header below (page_touched it))

  none_settled : is_settled_page image (filling headers to done) page ≡ false
  unfolding some_below
  none_settled =
      let none : nat_lt page 0 ≡ false = grind (arith, nat_tests) in
      ap (λ (c : Bool). header_touches image page 0 && c) none ∙ and_none (header_touches image page 0)

  pub filled_page : child_page b image (filling headers to done) file page
      ≡ Some (own (page_bytes (segments_filled image (filling headers to done)) file page) true)
  filled_page =
      let progress : Progress = filling headers to done in
      let bytes : List ℕ = page_bytes (segments_filled image progress) file page in
      let writes : Bool = any_writes page (segments_filled image progress) in
      ap (λ (c : Bool). if c then under_shared (b.memory page) (own_page image progress file page) else own_page image progress file page) (page_unpassed it)
      ∙ ap (λ (c : Bool). if c then None else image_page image progress file page) (no_stack it)
      ∙ ap (λ (c : Bool). if c then Some (own bytes (writes || not (is_settled_page image progress page))) else None) all_placed
      ∙ ap (λ (c : Bool). Some (own bytes (writes || not c))) none_settled
      ∙ ap (λ (c : Bool). Some (own bytes c)) (or_true writes)

-- ---- its entry there

-- The child's page of the next byte: it may be written there.
pub record HasFilling (names : Names) (s : KernelState) (k : Slot) (image : ImageRead) (progress : Progress) (bytes : List ℕ) (page : ℕ) : Type 0 where
  pub it : IsOwnEntry s.spaces k.directory page (page_bytes (segments_filled image progress) bytes page) true
  pub writes : has_write it.entry.perm ≡ true

writes_so : (c d : Bool) → (c || d) ≡ true → d ≡ false → c ≡ true
writes_so true d is none = refl
writes_so false d is none = absurd (false≢true (sym none ∙ is))

pub page_there : {names : Names} {s : KernelState} {parent : Slot} {b : Born} {at : SpawnStep} {k : Slot}
    {fd headers child header done page id : ℕ} {image : ImageRead} {pieces : List (List ℕ)}
    (x : HasOfImage names s.spaces parent b at k id) → b.spawning ≡ Some (loading fd image child pieces) →
    ((progress : Progress) → IsProgress (count_of image) at progress → progress ≡ filling headers header done) → IsPageOf image header page → header < headers →
    HasFilling names s k image (filling headers header done) (all_of pieces ++ bytes_replied b.phase) page
page_there {names = names} {s = s} {b = b} {at = at} {k = k} {headers = headers} {header = header} {done = done} {page = page} {image = image}
    {pieces = pieces} x found was touched below =
    let same = loads_same x.loads found in
    let bytes : List ℕ = all_of pieces ++ bytes_replied b.phase in
    let progress_is : x.progress ≡ filling headers header done =
    was x.progress (subst (λ (one : ImageRead). IsProgress (count_of one) at x.progress) same.image_is x.is_so) in
    let seen : page_seen names s.spaces k.directory page ≡ Some (own (page_bytes (segments_filled image (filling headers header done)) bytes page) true) =
    x.memory page (page_inside touched)
    ∙ (λ i. child_page b (same.image_is i) (progress_is i) (same.file_is i) page)
    ∙ filled_page touched b bytes headers header done below in
    let it = own_entry names s.spaces k.directory page (page_bytes (segments_filled image (filling headers header done)) bytes page) true
    (page_inside touched) seen in
    record {
      it = it;
      writes = writes_so (has_write it.entry.perm) (is_cow it.entry.perm) it.writes_are (x.uncopied page it.entry (page_inside touched) it.stands it.own_page);
    }
