-- A page that is loaded has the bytes of a page.
use Rattle.std.proofs.Common.{◌≡◌, ◌+◌, ◌-◌, ◌*◌, ◌<◌, ◌≤◌, ◌++◌, ℕ, suc, Bool, true, false, List, [], ◌∷◌, drop}
use Rattle.std.proofs.Common.{length, max, min, refl, arith, if◌then◌else◌}
use Rattle.std.specs.Prelude.{nat_lt, replicate}
use Rattle.std.proofs.Math.Nat.{min-le_left, min-le_right}
use Rattle.std.proofs.lemmas.Bool.Decides.{nat_tests}
use Rattle.std.proofs.lemmas.List.{length-take}
use Rattle.jos_base.specs.SpacesState.{overlaid, zero_page}
use Rattle.jos_base.specs.TrapFrames.{bytes_of_words}
use Rattle.jos_elf.specs.declared.image.Segment.{Segment}
use Rattle.jos_elf.specs.Pages.{file_part, laid, laid_all, laid_between, page_bytes}
use Rattle.lib_os.specs.Rows.{IsPage}
use Rattle.lib_os.proofs.PageBytes.{bytes_append, bytes_drop, bytes_same, bytes_take, page_overlaid, words_bytes, zero_page_whole}
use Rattle.jos_elf.specs.StackPage.{in_words, stack_contents, strings_of, strings_size}
use Rattle.lib_os.specs.Rows.{AreBytes}

-- ---- what is loaded from a file

part-short : (segment : Segment) (file : List ℕ) (from to : ℕ) → length (file_part segment file from to) ≤ to - from
part-short segment file from to =
    let rest : List ℕ = drop (segment.file_at + (from - segment.va)) file in
    let size = length-take (to - from) rest in
    let short = min-le_left (to - from) (length rest) in
    omega (arith, size, short)

module _ (file : List ℕ) (small : AreBytes file) where
  part-bytes : (segment : Segment) (from to : ℕ) → AreBytes (file_part segment file from to)
  part-bytes segment from to =
      bytes_take (to - from) (drop (segment.file_at + (from - segment.va)) file)
      (bytes_drop (segment.file_at + (from - segment.va)) file small)

  between-whole : (segment : Segment) (bytes : List ℕ) (begin from to : ℕ) → IsPage bytes → begin ≤ from → to ≤ begin + 4096 →
      IsPage (laid_between segment file bytes begin from to)
  between-whole segment bytes begin from to page low high = by_test (nat_lt from to) refl
    where
      by_test : (t : Bool) → nat_lt from to ≡ t →
          IsPage (if t then overlaid bytes (from - begin) (file_part segment file from to) else bytes)
      by_test false test = page
      by_test true test =
          let lt : from < to = grind (arith, nat_tests) in
          let short = part-short segment file from to in
          page_overlaid bytes (from - begin) (file_part segment file from to) (omega (arith, lt, short, low, high))
          (part-bytes segment from to) page

  laid-whole : (segment : Segment) (number : ℕ) (bytes : List ℕ) → IsPage bytes → IsPage (laid segment file number bytes)
  laid-whole segment number bytes page =
      let high = min-le_right (segment.va + segment.file_len) ((number + 1) * 4096) in
      between-whole segment bytes (number * 4096) (max segment.va (number * 4096))
      (min (segment.va + segment.file_len) ((number + 1) * 4096)) page (omega arith) (omega (arith, high))

  all-whole : (segments : List Segment) (number : ℕ) (bytes : List ℕ) → IsPage bytes → IsPage (laid_all segments file number bytes)
  unfolding laid_all
  all-whole [] number bytes page = page
  all-whole (segment ∷ rest) number bytes page =
      all-whole rest number (laid segment file number bytes) (laid-whole segment number bytes page)

  pub page-whole : (segments : List Segment) (number : ℕ) → IsPage (page_bytes segments file number)
  page-whole segments number = all-whole segments number zero_page zero_page_whole

-- ---- what stands on the stack

bytes-right : (first second : List ℕ) → AreBytes (first ++ second) → AreBytes second
bytes-right [] second small i = small i
bytes-right (byte ∷ rest) second small i = bytes-right rest second (λ j. small (suc j)) i

-- bytes, where the words are
pub contents-bytes : (words : List (List ℕ)) → AreBytes (strings_of words) → AreBytes (stack_contents words)
unfolding stack_contents
contents-bytes words small =
    let padding : List ℕ = replicate (in_words (strings_size words) - strings_size words) 0 in
    bytes_append (bytes_of_words _) (padding ++ strings_of words) (words_bytes _)
    (bytes_append padding (strings_of words) (bytes_same (in_words (strings_size words) - strings_size words) 0 (omega arith)) small)

-- and the words are, where it is bytes
pub strings-bytes : (words : List (List ℕ)) → AreBytes (stack_contents words) → AreBytes (strings_of words)
unfolding stack_contents
strings-bytes words small =
    bytes-right (replicate (in_words (strings_size words) - strings_size words) 0) (strings_of words) (bytes-right (bytes_of_words _) _ small)
