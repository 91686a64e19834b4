-- What a descriptor's page tells that stays, word by word, so that a proof over it names the words that it wants, and no other. And a page goes on
-- telling of an open file beside other things, whatever words it has.
use Rattle.std.proofs.Common.{◌≡◌, ℕ, List, Some}
use Rattle.jos_base.specs.Reach.{Entry}
use Rattle.lib_os.specs.AbstractState.{OpenFile}
use Rattle.lib_os.specs.DescriptorPages.{IsOpenFile, Things, number_of, place_page}

abbrev pub LastingWords : Type 0
LastingWords = ℕ × ℕ × ℕ × ℕ

abbrev pub told_device : LastingWords → ℕ
told_device words = words.0

abbrev pub told_mode : LastingWords → ℕ
told_mode words = words.1

abbrev pub told_number : LastingWords → ℕ
told_number words = words.2

abbrev pub told_size : LastingWords → ℕ
told_size words = words.3

-- the same page, where its place is held by the same name and has a page in the same frame
pub file_beside : {things after : Things} {name frame : ℕ} {f : OpenFile} {bytes : List ℕ} → IsOpenFile things name frame f bytes →
    (after.opened (number_of bytes)).held_by ≡ Some name → (e : Entry) → after.row (place_page (number_of bytes)) ≡ Some e → e.frame ≡ frame →
    IsOpenFile after name frame f bytes
file_beside is held e stands same = record {
  device = is.device;
  offset = is.offset;
  mode = is.mode;
  size = is.size;
  below = is.below;
  held = held;
  entry = e;
  stands = stands;
  same = same;
}
