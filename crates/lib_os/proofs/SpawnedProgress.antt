-- How far spawn's child is, from one step to another: it has the same pages where a program header says of no segment, and where all of a segment is there.
use Rattle.std.proofs.Common.{◌≡◌, ◌≢◌, ◌∙◌, ◌+◌, ◌-◌, ◌*◌, ◌/◌, ◌%◌, ◌<◌, ◌≤◌, ◌==◌, ◌&&◌, ◌||◌, ◌++◌, ℕ, zero, suc, Bool, true, false, not}
use Rattle.std.proofs.Common.{List, [], ◌∷◌, Option, Some, None, refl, sym, ap, subst, arith, if◌then◌else◌}
use Rattle.std.specs.Prelude.{nat_le, nat_lt, slice_index}
use Rattle.std.proofs.lemmas.Bool.Decides.{nat_tests}
use Rattle.jos_base.specs.Below.{some_below}
use Rattle.jos_elf.specs.declared.header.ProgramHeader.{ProgramHeader}
use Rattle.jos_elf.specs.declared.image.Segment.{Segment}
use Rattle.jos_elf.specs.Headers.{entry_count_of}
use Rattle.jos_elf.specs.Pages.{any_writes, page_bytes, stack_page, touches}
use Rattle.jos_elf.specs.Parsed.{segment_of, segments_of}
use Rattle.jos_elf.specs.Tests.{is_loaded}
use Rattle.lib_os.specs.declared.spawn_steps.SpawnStep.{SpawnStep}
use Rattle.lib_os.specs.AbstractSpawn.{all_of, headers_in, packed, under_shared}
use Rattle.lib_os.specs.AbstractState.{Born, ImageRead, Page, Spawning, loading, own}
use Rattle.lib_os.specs.ProgramMemory.{stack_of}
use Rattle.lib_os.specs.SpawnedChild.{IsProgress, Loads, Progress, bytes_replied, child_page, filling, headers_filled, header_touches, is_closed, is_loading}
use Rattle.lib_os.specs.SpawnedChild.{is_placed_page, is_settled_page, placing, segments_filled}
use Rattle.lib_os.proofs.SpawnedGoes.{Goes, GoesWith}

-- ---- what it loads

-- an image that is loaded is the one that spawn has found
pub record LoadsSame (image of_image : ImageRead) (file bytes : List ℕ) : Type 0 where
  pub image_is : image ≡ of_image
  pub file_is : file ≡ bytes

pub loads_same : {slot fd child : ℕ} {image of_image : ImageRead} {o : Option Spawning} {more file : List ℕ} {pieces : List (List ℕ)} →
    Loads slot image o more file → o ≡ Some (loading fd of_image child pieces) → LoadsSame image of_image file (all_of pieces ++ more)
loads_same {pieces = pieces} (is_loading fd had more) same =
    let pieces_are : had ≡ pieces = cc in record { image_is = cc; file_is = ap (λ (l : List (List ℕ)). all_of l ++ more) pieces_are }
loads_same (is_closed had more) same = absurd cc

-- ---- by what it is told

-- two tell the same of its pages, and of all else
pub record Alike (b : Born) (image : ImageRead) (file : List ℕ) (before after : Progress) : Type 0 where
  pub registers : after.registers ≡ before.registers
  pub handler : after.handler ≡ before.handler
  pub handler_stack : after.handler_stack ≡ before.handler_stack
  pub passed : after.passed ≡ before.passed
  pub pages : (p : ℕ) → child_page b image before file p ≡ child_page b image after file p

-- where spawn loads an image, and what is told at the two steps is alike
pub goes_by : {b : Born} (id : ℕ) {fd child : ℕ} {image : ImageRead} {pieces : List (List ℕ)} (from to : SpawnStep) (before after : Progress) →
    b.spawning ≡ Some (loading fd image child pieces) →
    ((progress : Progress) → IsProgress (entry_count_of (slice_index image.header)) from progress → progress ≡ before) →
    IsProgress (entry_count_of (slice_index image.header)) to after →
    Alike b image (all_of pieces ++ bytes_replied b.phase) before after → Goes b id from to
goes_by {b = b} id {image = image} {pieces = pieces} from to before after found was now alike one file progress loads is_so =
    let same = loads_same loads found in
    subst (λ (x : ImageRead). (progress : Progress) → IsProgress (entry_count_of (slice_index x.header)) from progress → GoesWith b x file progress to)
    (sym same.image_is)
    (λ progress is_so. subst (λ (l : List ℕ). GoesWith b image l progress to) (sym same.file_is)
    (subst (λ (p : Progress). GoesWith b image (all_of pieces ++ bytes_replied b.phase) p to) (sym (was progress is_so)) (record {
      progress = after;
      is_so = now;
      registers = alike.registers;
      handler = alike.handler;
      handler_stack = alike.handler_stack;
      passed = alike.passed;
      pages = λ p inside. alike.pages p;
    }))) progress is_so

-- ---- its pages

-- where the same are placed, with the same bytes, and their rights are set alike
pub page_same : (b : Born) (image : ImageRead) (file : List ℕ) (before after : Progress) (p : ℕ) → before.passed ≡ after.passed →
    before.stack ≡ after.stack → is_placed_page image before p ≡ is_placed_page image after p →
    segments_filled image before ≡ segments_filled image after → is_settled_page image before p ≡ is_settled_page image after p →
    child_page b image before file p ≡ child_page b image after file p
page_same b image file before after p passed stack placed filled settled =
    (λ i. if nat_le (passed i) p then under_shared (b.memory p) (own_by (stack i) (placed i) (filled i) (settled i))
    else own_by (stack i) (placed i) (filled i) (settled i))
  where
    own_by : Bool → Bool → List Segment → Bool → Option Page
    own_by has_stack is_placed segments settled =
        if p == stack_page then (if has_stack then Some (stack_of image.words) else None)
        else (if is_placed then Some (own (page_bytes segments file p) (any_writes p segments || not settled)) else None)

-- ---- which are placed

or_none : (c : Bool) → c ≡ (c || false)
or_none true = refl
or_none false = refl

and_none : (c : Bool) → (c && false) ≡ false
and_none true = refl
and_none false = refl

below_none : (p : ℕ) → nat_lt p 0 ≡ false
below_none p = grind (arith, nat_tests)

one_more : (n : ℕ) (passes : ℕ → Bool) → some_below (n + 1) passes ≡ (some_below n passes || passes n)
unfolding some_below
one_more n passes = let same : n + 1 ≡ suc n = omega arith in ap (λ (m : ℕ). some_below m passes) same

-- a program header says of no segment there
pub not_loaded_touches : (image : ImageRead) (p n : ℕ) → is_loaded (headers_in image.table n) ≡ false → header_touches image p n ≡ false
not_loaded_touches image p n none =
    ap (λ (c : Bool). nat_lt n (entry_count_of (slice_index image.header)) && c && touches p (segment_of (headers_in image.table n))) none
    ∙ by_test (nat_lt n (entry_count_of (slice_index image.header)))
  where
    by_test : (c : Bool) → (c && false && touches p (segment_of (headers_in image.table n))) ≡ false
    by_test true = refl
    by_test false = refl

-- Behind those of a program header come those of the next: where so many of its pages are all.
pub placed_behind : (image : ImageRead) (header page p : ℕ) →
    (header_touches image p header && nat_lt p page) ≡ header_touches image p header →
    (some_below header (header_touches image p) || (header_touches image p header && nat_lt p page))
    ≡ (some_below (header + 1) (header_touches image p) || (header_touches image p (header + 1) && nat_lt p 0))
placed_behind image header page p all =
    ap (λ (c : Bool). some_below header (header_touches image p) || c) all
    ∙ sym (one_more header (header_touches image p))
    ∙ or_none (some_below (header + 1) (header_touches image p))
    ∙ ap (λ (c : Bool). some_below (header + 1) (header_touches image p) || c)
    (sym (ap (λ (c : Bool). header_touches image p (header + 1) && c) (below_none p) ∙ and_none (header_touches image p (header + 1))))

none_placed : (image : ImageRead) (header page p : ℕ) → is_loaded (headers_in image.table header) ≡ false →
    (header_touches image p header && nat_lt p page) ≡ header_touches image p header
none_placed image header page p none =
    let off = not_loaded_touches image p header none in ap (λ (c : Bool). c && nat_lt p page) off ∙ sym off

pub placed_over : (b : Born) (image : ImageRead) (file : List ℕ) (header : ℕ) → is_loaded (headers_in image.table header) ≡ false →
    Alike b image file (placing header 0) (placing (header + 1) 0)
placed_over b image file header none = record {
  registers = refl;
  handler = refl;
  handler_stack = refl;
  passed = refl;
  pages = λ p.
      page_same b image file (placing header 0) (placing (header + 1) 0) p refl refl
      (placed_behind image header 0 p (none_placed image header 0 p none)) refl refl;
}

-- ---- which bytes are there

segments_alike : (f g : ℕ → ProgramHeader) (n : ℕ) → ((m : ℕ) → is_loaded (f m) ≡ is_loaded (g m)) →
    ((m : ℕ) → is_loaded (f m) ≡ true → segment_of (f m) ≡ segment_of (g m)) → segments_of f n ≡ segments_of g n
unfolding segments_of
segments_alike f g zero loaded same = refl
segments_alike f g (suc n) loaded same =
    ap (λ (l : List Segment). l ++ (if is_loaded (f n) then segment_of (f n) ∷ [] else [])) (segments_alike f g n loaded same)
    ∙ ap (λ (l : List Segment). segments_of g n ++ l) (by_loaded (is_loaded (f n)) refl)
    ∙ ap (λ (c : Bool). segments_of g n ++ (if c then segment_of (g n) ∷ [] else [])) (loaded n)
  where
    by_loaded : (c : Bool) → is_loaded (f n) ≡ c → (if c then segment_of (f n) ∷ [] else []) ≡ (if c then segment_of (g n) ∷ [] else [])
    by_loaded true is = ap (λ (x : Segment). x ∷ []) (same n is)
    by_loaded false is = refl

-- whether it says of a segment is told by what else a program header says
loaded_whatever : (header : ProgramHeader) (len : ℕ) → is_loaded (record header { file_len = len }) ≡ is_loaded header
unfolding is_loaded
loaded_whatever header len = refl

filled_loaded : (image : ImageRead) (progress : Progress) (m : ℕ) → is_loaded (headers_filled image progress m) ≡ is_loaded (packed (headers_in image.table) m)
filled_loaded image progress m = by_front (nat_lt m progress.filled)
  where
    one : ProgramHeader
    one = packed (headers_in image.table) m

    by_front : (c : Bool) → is_loaded (if c then one else record one { file_len = if m == progress.filled then progress.bytes else 0 }) ≡ is_loaded one
    by_front true = refl
    by_front false = loaded_whatever one (if m == progress.filled then progress.bytes else 0)

-- nor does it matter where the bytes stand
packed_loaded : (image : ImageRead) (m : ℕ) → is_loaded (packed (headers_in image.table) m) ≡ true → is_loaded (headers_in image.table m) ≡ true
unfolding is_loaded
packed_loaded image m is = is

-- The bytes of the next program header's segment come where there are all of this one's, or it says of none.
pub filled_behind : (image : ImageRead) (headers header done : ℕ) →
    (is_loaded (headers_in image.table header) ≡ true → done ≡ (headers_in image.table header).file_len) →
    segments_filled image (filling headers header done) ≡ segments_filled image (filling headers (header + 1) 0)
filled_behind image headers header done all =
    segments_alike (headers_filled image (filling headers header done)) (headers_filled image (filling headers (header + 1) 0))
    (entry_count_of (slice_index image.header))
    (λ m. filled_loaded image (filling headers header done) m ∙ sym (filled_loaded image (filling headers (header + 1) 0) m))
    (λ m loaded. ap segment_of (by_front m (sym (filled_loaded image (filling headers header done) m) ∙ loaded) (nat_lt m header) refl
    (nat_lt m (header + 1)) refl))
  where
    one : ℕ → ProgramHeader
    one m = packed (headers_in image.table) m

    len_same : (m len : ℕ) → len ≡ (one m).file_len → record (one m) { file_len = len } ≡ one m
    len_same m len same = λ i. record (one m) { file_len = same i }

    by_front : (m : ℕ) → is_loaded (one m) ≡ true → (c : Bool) → nat_lt m header ≡ c → (d : Bool) → nat_lt m (header + 1) ≡ d →
        (if c then one m else record (one m) { file_len = if m == header then done else 0 })
        ≡ (if d then one m else record (one m) { file_len = if m == header + 1 then 0 else 0 })
    by_front m loaded true test true after = refl
    by_front m loaded true test false after = absurd
        (let low : m < header = grind (arith, nat_tests, test) in let high : header + 1 ≤ m = grind (arith, nat_tests, after) in omega (arith, low, high))
    by_front m loaded false test true after =
        let here : m ≡ header = grind (arith, nat_tests, test, after) in
        let it : (m == header) ≡ true = grind (arith, nat_tests, here) in
        len_same m (if m == header then done else 0)
        (ap (λ (c : Bool). if c then done else 0) it ∙ all (ap (λ (q : ℕ). is_loaded (headers_in image.table q)) (sym here) ∙ packed_loaded image m loaded)
        ∙ ap (λ (q : ℕ). (headers_in image.table q).file_len) (sym here))
    by_front m loaded false test false after =
        let there : (m == header) ≡ false = grind (arith, nat_tests, after) in
        (λ i. record (one m) { file_len = if there i then done else 0 }) ∙ sym (by_next (m == header + 1))
      where
        by_next : (c : Bool) → record (one m) { file_len = if c then 0 else 0 } ≡ record (one m) { file_len = 0 }
        by_next true = refl
        by_next false = refl

pub filled_over : (b : Born) (image : ImageRead) (file : List ℕ) (headers header done : ℕ) →
    (is_loaded (headers_in image.table header) ≡ true → done ≡ (headers_in image.table header).file_len) →
    Alike b image file (filling headers header done) (filling headers (header + 1) 0)
filled_over b image file headers header done all = record {
  registers = refl;
  handler = refl;
  handler_stack = refl;
  passed = refl;
  pages = λ p.
      page_same b image file (filling headers header done) (filling headers (header + 1) 0) p refl refl refl (filled_behind image headers header done all) refl;
}

-- the same progress
pub alike_same : (b : Born) (image : ImageRead) (file : List ℕ) (progress : Progress) → Alike b image file progress progress
alike_same b image file progress = record { registers = refl; handler = refl; handler_stack = refl; passed = refl; pages = λ p. refl }
