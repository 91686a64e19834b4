-- Bytes that are put one behind the other in a page, by a user who may write it: the page has them there, and else what it had.
use Rattle.std.proofs.Common.{◌≡◌, ◌∙◌, ◌+◌, ◌*◌, ◌<◌, ◌≤◌, ℕ, zero, suc, true, List, ◌∷◌, [], length, refl, sym, ap, subst, arith}
use Rattle.std.proofs.lemmas.List.{length-set, get_or-set_same, get_or-set_other}
use Rattle.std.specs.Prelude.{Option, Some, Ok, slice_index, slice_set}
use Rattle.jos_base.specs.declared.memory.Access.TheVariants.{Write}
use Rattle.jos_base.specs.declared.numbers.TheConstants.{PGSIZE}
use Rattle.jos_base.specs.Counting.{page_limit}
use Rattle.jos_base.specs.KernelState.{KernelState, slot_at, with_spaces}
use Rattle.jos_base.specs.Reach.{Entry, allows, reach_entry}
use Rattle.jos_base.specs.SpacesState.{SpacesState, with_page_bytes}
use Rattle.jos_base.specs.UserMemory.{reach_in, stored_byte}
use Rattle.jos_base.specs.Words.{page_number, page_offset, upd}
use Rattle.lib_os.specs.Rows.{AreBytes, IsPage}
use Rattle.lib_os.specs.UserCalls.{with_bytes_put}
use Rattle.lib_os.proofs.PageBytes.{page_set}
use Rattle.lib_os.proofs.Slots.{upd-back}
use Rattle.lib_os.proofs.Touching.{stored_is}
use Rattle.jos_base.proofs.Maps.{upd-at, upd-twice}
use Rattle.jos_base.proofs.Walks.{walked_below}

-- ---- in a list

-- from a place on
unfoldable pub bytes_put : List ℕ → ℕ → List ℕ → List ℕ
bytes_put page at [] = page
bytes_put page at (byte ∷ rest) = bytes_put (slice_set page at byte) (at + 1) rest

pub put_length : (page : List ℕ) (at : ℕ) (bytes : List ℕ) → length (bytes_put page at bytes) ≡ length page
unfolding bytes_put
put_length page at [] = refl
put_length page at (byte ∷ rest) = put_length (slice_set page at byte) (at + 1) rest ∙ length-set page at byte

pub put_whole : (page : List ℕ) (at : ℕ) (bytes : List ℕ) → AreBytes bytes → IsPage page → IsPage (bytes_put page at bytes)
unfolding bytes_put
put_whole page at [] small whole = whole
put_whole page at (byte ∷ rest) small whole =
    put_whole (slice_set page at byte) (at + 1) rest (λ i. small (suc i)) (page_set page at byte (small zero) whole)

-- what stands before them stays
pub put_before : (page : List ℕ) (at : ℕ) (bytes : List ℕ) (i : ℕ) → i < at → slice_index (bytes_put page at bytes) i ≡ slice_index page i
unfolding bytes_put
put_before page at [] i lt = refl
put_before page at (byte ∷ rest) i lt =
    put_before (slice_set page at byte) (at + 1) rest i (omega (arith, lt))
    ∙ get_or-set_other page at i byte 0 (λ same. absurd (omega (arith, lt, same)))

-- and they stand there
pub put_behind : (page : List ℕ) (at : ℕ) (bytes : List ℕ) (i : ℕ) → at + length bytes ≤ i →
    slice_index (bytes_put page at bytes) i ≡ slice_index page i
unfolding bytes_put
put_behind page at [] i behind = refl
put_behind page at (byte ∷ rest) i behind =
    put_behind (slice_set page at byte) (at + 1) rest i (omega (arith, behind))
    ∙ get_or-set_other page at i byte 0 (λ same. absurd (omega (arith, behind, same)))

pub put_there : (page : List ℕ) (at : ℕ) (bytes : List ℕ) (i : ℕ) → i < length bytes → at + length bytes ≤ length page →
    slice_index (bytes_put page at bytes) (at + i) ≡ slice_index bytes i
unfolding bytes_put
put_there page at [] i lt fits = absurd (omega (arith, lt))
put_there page at (byte ∷ rest) zero lt fits =
    let here : at + 0 ≡ at = omega arith in
    ap (slice_index (bytes_put (slice_set page at byte) (at + 1) rest)) here
    ∙ put_before (slice_set page at byte) (at + 1) rest at (omega arith)
    ∙ get_or-set_same page at byte 0 (omega (arith, fits))
put_there page at (byte ∷ rest) (suc i) lt fits =
    let next : at + suc i ≡ (at + 1) + i = omega arith in
    let long : length (slice_set page at byte) ≡ length page = length-set page at byte in
    ap (slice_index (bytes_put (slice_set page at byte) (at + 1) rest)) next
    ∙ put_there (slice_set page at byte) (at + 1) rest i (omega (arith, lt)) (omega (arith, fits, long))

-- ---- in a page

unfoldable pub spaces_put : SpacesState → ℕ → ℕ → List ℕ → SpacesState
spaces_put s d va [] = s
spaces_put s d va (byte ∷ rest) = spaces_put (stored_byte s d va byte) d (va + 1) rest

pub put_is : (s : KernelState) (n va : ℕ) (bytes : List ℕ) →
    with_bytes_put s n va bytes ≡ with_spaces s (spaces_put s.spaces (slot_at s n).directory va bytes)
unfolding spaces_put
put_is s n va [] = refl
put_is s n va (byte ∷ rest) = put_is (with_spaces s (stored_byte s.spaces (slot_at s n).directory va byte)) n (va + 1) rest

-- the page that an entry gives to write
module _ (d p : ℕ) (e : Entry) (below : p < page_limit) (may : allows e.perm Write ≡ true) where
  pub page_put : (s : SpacesState) (at : ℕ) (bytes : List ℕ) → s.entries d p ≡ Some e → at + length bytes ≤ PGSIZE →
      spaces_put s d (p * PGSIZE + at) bytes ≡ with_page_bytes s e.frame (bytes_put (s.pages e.frame) at bytes)
  unfolding spaces_put bytes_put
  page_put s at [] stands fits = λ i. record s { pages = sym (upd-back s.pages e.frame (s.pages e.frame) refl) i }
  page_put s at (byte ∷ rest) stands fits =
      let number : page_number (p * PGSIZE + at) ≡ p = omega (arith, fits) in
      let offset : page_offset (p * PGSIZE + at) ≡ at = omega (arith, fits) in
      let next : (p * PGSIZE + at) + 1 ≡ p * PGSIZE + (at + 1) = omega arith in
      let page = slice_set (s.pages e.frame) at byte in
      let one : stored_byte s d (p * PGSIZE + at) byte ≡ with_page_bytes s e.frame page =
      stored_is s d (p * PGSIZE + at) byte e (subst (λ (q : ℕ). q < page_limit) (sym number) below)
      (ap (s.entries d) number ∙ stands) may
      ∙ ap (λ (o : ℕ). with_page_bytes s e.frame (slice_set (s.pages e.frame) o byte)) offset in
      (λ i. spaces_put (one i) d (next i) rest)
      ∙ page_put (with_page_bytes s e.frame page) (at + 1) rest stands (omega (arith, fits))
      ∙ (λ i. record s { pages = upd (upd s.pages e.frame page) e.frame (bytes_put (upd-at s.pages e.frame page i) (at + 1) rest) })
      ∙ (λ i. record s { pages = upd-twice s.pages e.frame page (bytes_put page (at + 1) rest) i })

pub reached_to_write : (s : SpacesState) (d va : ℕ) (e : Entry) → page_number va < page_limit → s.entries d (page_number va) ≡ Some e →
    allows e.perm Write ≡ true → reach_in s d va Write ≡ Ok (record { frame = e.frame; offset = page_offset va })
reached_to_write s d va e below stands may =
    ap (λ (o : Option Entry). reach_entry o va Write) (walked_below s d (page_number va) below ∙ stands) ∙ rw may refl
