-- What is at hand is reached with nothing changed.
use Rattle.std.proofs.Common.{◌≡◌, ◌∙◌, ◌+◌, ◌/◌, ◌%◌, ◌<◌, ◌≤◌, ◌==◌, ℕ, Bool, true, false, cond, List, Option, Some}
use Rattle.std.proofs.Common.{None, Result, Ok, Err, refl, sym, ap, arith}
use Rattle.std.specs.Prelude.{bit_and, bit_or, slice_index, slice_set, is_ok, nat_lt}
use Rattle.std.specs.Option.{option_map}
use Rattle.std.proofs.lemmas.Bool.Decides.{nat_tests}
use Rattle.jos_base.specs.declared.memory.Access.{Access}
use Rattle.jos_base.specs.declared.memory.Access.TheVariants.{Read, Write}
use Rattle.jos_base.specs.declared.memory.PageFault.{PageFault}
use Rattle.jos_base.specs.Words.{upd}
use Rattle.jos_base.specs.Reach.{Entry, FrameOffset, allows, reach_entry, write_bit}
use Rattle.jos_base.specs.SpacesState.{Region, SpacesState, with_page_bytes}
use Rattle.jos_base.specs.UserMemory.{reach_in, access_bits, touched, touched_by, byte_at, byte_of, region_accessed}
use Rattle.jos_base.specs.UserMemory.{entry_marked, stored_byte, with_byte_at, with_bits, with_page_bits, with_window_bits, byte_or_zero}
use Rattle.jos_base.specs.Counting.{page_limit}
use Rattle.jos_base.specs.Windows.{walked, page_entry, entry_above, read_only, window_byte}
use Rattle.jos_base.specs.declared.numbers.TheConstants.{UTOP}
use Rattle.jos_space.specs.AtHand.{bits_at_hand, frame_with, frame_by, IsStill, stored_word, word_laid}
use Rattle.jos_space.proofs.EntryBits.{part_stands, or_stays}
use Rattle.jos_base.proofs.Maps.{upd-at, upd-twice}
use Rattle.jos_base.proofs.Puts.{put-stays}
use Rattle.jos_base.proofs.Walks.{walked_below}

-- what stands where a frame is found
pub record IsFound (s : SpacesState) (d number bits frame : ℕ) : Type 0 where
  pub region : Region
  pub region_is : s.regions d (number / 1024) ≡ Some region
  pub accessed : region.accessed ≡ true
  pub perm : ℕ
  pub entry_is : s.entries d number ≡ Some (record { frame = frame; perm = perm })
  pub stand : bit_and perm bits ≡ bits

pub is_found : (s : SpacesState) (d number bits frame : ℕ) → frame_with s d number bits ≡ Some frame → IsFound s d number bits frame
unfolding frame_with
is_found s d number bits frame found = by_region (s.regions d (number / 1024)) refl found
  where
    by_test : (region : Region) (entry : Entry) (a b : Bool) → s.regions d (number / 1024) ≡ Some region → s.entries d number ≡ Some entry
        → region.accessed ≡ a → (bit_and entry.perm bits == bits) ≡ b → cond a (cond b (Some entry.frame) None) None ≡ Some frame → IsFound s d number bits frame
    by_test region entry false b r e a_is b_is found = absurd cc
    by_test region entry true false r e a_is b_is found = absurd cc
    by_test region entry true true r e a_is b_is found =
        let same : entry.frame ≡ frame = cc in
        record {
          region = region;
          region_is = r;
          accessed = a_is;
          perm = entry.perm;
          entry_is = e ∙ (λ i. Some (record { frame = same i; perm = entry.perm }));
          stand = grind (arith, nat_tests);
        }

    by_entry : (region : Region) (o : Option Entry) → s.regions d (number / 1024) ≡ Some region → s.entries d number ≡ o
        → frame_by bits (Some region) o ≡ Some frame → IsFound s d number bits frame
    by_entry region None r e found = absurd (nothing region.accessed found)
      where
        nothing : (b : Bool) → ◌≡◌ {A = Option ℕ} (cond b None None) (Some frame) → ⊥
        nothing true e = absurd cc
        nothing false e = absurd cc
    by_entry region (Some entry) r e found = by_test region entry region.accessed (bit_and entry.perm bits == bits) r e refl refl found

    by_region : (o : Option Region) → s.regions d (number / 1024) ≡ o → frame_by bits o (s.entries d number) ≡ Some frame → IsFound s d number bits frame
    by_region None r found = absurd cc
    by_region (Some region) r found = by_entry region (s.entries d number) r refl found

allowed_with : (perm : ℕ) (access : Access) → bit_and perm (bits_at_hand access) ≡ bits_at_hand access → allows perm access ≡ true
allowed_with perm Read stand = let part = part_stands perm 37 5 stand refl in grind (arith, nat_tests, part)
allowed_with perm Write stand = let part = part_stands perm 103 7 stand refl in grind (arith, nat_tests, part)

marked_stays : (perm : ℕ) (access : Access) → bit_and perm (bits_at_hand access) ≡ bits_at_hand access → bit_or perm (access_bits access) ≡ perm
marked_stays perm Read stand = or_stays perm 32 (part_stands perm 37 32 stand refl)
marked_stays perm Write stand = or_stays perm 96 (part_stands perm 103 96 stand refl)

pub low_page : (va : ℕ) → va < UTOP → va / 4096 < page_limit
unfolding page_limit
low_page va below = omega arith

pub low_number : (n : ℕ) → n < UTOP / 4096 → n < page_limit
unfolding page_limit
low_number n below = omega arith

pub low_address : (va : ℕ) → va / 4096 < page_limit → va < UTOP
unfolding page_limit
low_address va below = omega arith

pub high_page : (n : ℕ) → UTOP / 4096 ≤ n → nat_lt n page_limit ≡ false
unfolding page_limit
high_page n past = grind (arith, nat_tests)

-- at UTOP and above it finds what the windows say
pub walked_above : (s : SpacesState) (d n : ℕ) → nat_lt n page_limit ≡ false → walked s d n ≡ option_map read_only (entry_above s d (n / 1024) (n % 1024))
unfolding walked
walked_above s d n past = rw past refl

pub byte_above : (records : ℕ → List ℕ) (s : SpacesState) (d va : ℕ) (place : FrameOffset) → nat_lt (va / 4096) page_limit ≡ false
    → byte_of records s d va place ≡ window_byte records s d va
byte_above records s d va place past = rw past refl

-- what may be written lies below UTOP
pub write_low : (s : SpacesState) (d va : ℕ) (place : FrameOffset) → reach_in s d va Write ≡ Ok place → va / 4096 < page_limit
write_low s d va place e = by_test (nat_lt (va / 4096) page_limit) refl
  where
    by_entry : (o : Option Entry) → reach_entry (option_map read_only o) va Write ≡ Ok place → ⊥
    by_entry None e = absurd cc
    by_entry (Some entry) e = absurd cc

    by_test : (b : Bool) → nat_lt (va / 4096) page_limit ≡ b → va / 4096 < page_limit
    by_test true t = grind (arith, nat_tests)
    by_test false t =
        absurd (by_entry (entry_above s d (va / 4096 / 1024) (va / 4096 % 1024)) (sym (ap (λ (o : Option Entry). reach_entry o va Write) (walked_above s d (va / 4096) t)) ∙ e))

pub bits_below : (s : SpacesState) (d n : ℕ) (access : Access) → n < page_limit → with_bits s d n access ≡ with_page_bits s d n access
bits_below s d n access below = let low : nat_lt n page_limit ≡ true = grind (arith, nat_tests) in rw low refl

pub bits_above : (s : SpacesState) (d n : ℕ) (access : Access) → nat_lt n page_limit ≡ false → with_bits s d n access ≡ with_window_bits s d n
bits_above s d n access past = rw past refl

pub entry_of_low : (s : SpacesState) (d n : ℕ) → n < page_limit → page_entry s d n ≡ s.entries d n
entry_of_low s d n below = let low : nat_lt n page_limit ≡ true = grind (arith, nat_tests) in rw low refl

pub entry_of_high : (s : SpacesState) (d n : ℕ) → nat_lt n page_limit ≡ false → page_entry s d n ≡ entry_above s d (n / 1024) (n % 1024)
entry_of_high s d n past = rw past refl

pub byte_below : (records : ℕ → List ℕ) (s : SpacesState) (d va : ℕ) (place : FrameOffset) → va / 4096 < page_limit
    → byte_of records s d va place ≡ slice_index (s.pages place.frame) place.offset
byte_below records s d va place below = let low : nat_lt (va / 4096) page_limit ≡ true = grind (arith, nat_tests) in rw low refl

module _ (s : SpacesState) (d va frame : ℕ) (access : Access) (below : va / 4096 < page_limit)
    (found : frame_with s d (va / 4096) (bits_at_hand access) ≡ Some frame) where
  abbrev here : IsFound s d (va / 4096) (bits_at_hand access) frame
  here = is_found s d (va / 4096) (bits_at_hand access) frame found

  pub reach_at_hand : reach_in s d va access ≡ Ok (record { frame = frame; offset = va % 4096 })
  reach_at_hand =
      let may = allowed_with here.perm access here.stand in
      ap (λ (o : Option Entry). reach_entry o va access) (walked_below s d (va / 4096) below ∙ here.entry_is)
      ∙ ap (λ (b : Bool). cond b (Ok (record { frame = frame; offset = va % 4096 })) (Err (record { va = va; error = 5 + write_bit access }))) may

  pub still_at_hand : IsStill s d va access
  unfolding touched
  still_at_hand = record {
    allowed = ap is_ok reach_at_hand;
    touched_is =
        ap (touched_by s d va access) reach_at_hand
        ∙ bits_below s d (va / 4096) access below
        ∙ (λ i. record s {
          regions = λ x y. put-stays s.regions d (va / 4096 / 1024) (region_accessed (s.regions d (va / 4096 / 1024))) region_stays x y i;
          entries = λ x y. put-stays s.entries d (va / 4096) (entry_marked (access_bits access) (s.entries d (va / 4096))) entry_stays x y i;
        });
  }
    where
      region_stays : region_accessed (s.regions d (va / 4096 / 1024)) ≡ s.regions d (va / 4096 / 1024)
      region_stays = ap region_accessed here.region_is ∙ (λ i. Some (record here.region { accessed = sym here.accessed i })) ∙ sym here.region_is

      entry_stays : entry_marked (access_bits access) (s.entries d (va / 4096)) ≡ s.entries d (va / 4096)
      entry_stays =
          ap (entry_marked (access_bits access)) here.entry_is
          ∙ (λ i. Some (record { frame = frame; perm = marked_stays here.perm access here.stand i }))
          ∙ sym here.entry_is

pub byte_at_hand : (records : ℕ → List ℕ) (s : SpacesState) (d va frame : ℕ) → va / 4096 < page_limit → frame_with s d (va / 4096) (bits_at_hand Read) ≡ Some frame
    → byte_at records s d va ≡ slice_index (s.pages frame) (va % 4096)
unfolding byte_at
byte_at_hand records s d va frame below found =
    ap (byte_or_zero records s d va) (reach_at_hand s d va frame Read below found)
    ∙ byte_below records s d va (record { frame = frame; offset = va % 4096 }) below

pub stored_at_hand : (s : SpacesState) (d va frame byte : ℕ) → va / 4096 < page_limit → frame_with s d (va / 4096) (bits_at_hand Write) ≡ Some frame
    → stored_byte s d va byte ≡ with_page_bytes s frame (slice_set (s.pages frame) (va % 4096) byte)
unfolding stored_byte
stored_at_hand s d va frame byte below found = ap (with_byte_at s byte) (reach_at_hand s d va frame Write below found)

found_with_bytes : (s : SpacesState) (d n bits frame : ℕ) (page : List ℕ) → frame_with (with_page_bytes s frame page) d n bits ≡ frame_with s d n bits
unfolding frame_with
found_with_bytes s d n bits frame page = refl

-- what is written into a page that was written into before
stored_more : (s : SpacesState) (d va frame byte : ℕ) (page : List ℕ) → va / 4096 < page_limit → frame_with s d (va / 4096) (bits_at_hand Write) ≡ Some frame
    → stored_byte (with_page_bytes s frame page) d va byte ≡ with_page_bytes s frame (slice_set page (va % 4096) byte)
stored_more s d va frame byte page below found =
    stored_at_hand (with_page_bytes s frame page) d va frame byte below (found_with_bytes s d (va / 4096) (bits_at_hand Write) frame page ∙ found)
    ∙ (λ i. record s { pages = upd (upd s.pages frame page) frame (slice_set (upd-at s.pages frame page i) (va % 4096) byte) })
    ∙ (λ i. record s { pages = upd-twice s.pages frame page (slice_set page (va % 4096) byte) i })

-- addresses of one page lead to one frame
pub moved_found : (s : SpacesState) (d va k bits frame : ℕ) → va % 4096 + k < 4096 → frame_with s d (va / 4096) bits ≡ Some frame
    → frame_with s d ((va + k) / 4096) bits ≡ Some frame
moved_found s d va k bits frame room found = ap (λ (n : ℕ). frame_with s d n bits) (omega arith) ∙ found

pub word_stored_at_hand : (s : SpacesState) (d va frame word : ℕ) → va / 4096 < page_limit → va % 4096 ≤ 4092 → frame_with s d (va / 4096) (bits_at_hand Write) ≡ Some frame
    → stored_word s d va word ≡ with_page_bytes s frame (word_laid (s.pages frame) (va % 4096) word)
unfolding stored_word word_laid
word_stored_at_hand s d va frame word low room found =
    let one_page : (k : ℕ) → k < 4 → (va + k) / 4096 ≡ va / 4096 = (λ k below. omega arith) in
    let under : (k : ℕ) → k < 4 → (va + k) / 4096 < page_limit = (λ k below. let same = one_page k below in omega (arith, low, same)) in
    let at : (k : ℕ) → k < 4 → frame_with s d ((va + k) / 4096) (bits_at_hand Write) ≡ Some frame =
    (λ k below. moved_found s d va k (bits_at_hand Write) frame (omega arith) found) in
    let place : (k : ℕ) → k < 4 → (va + k) % 4096 ≡ va % 4096 + k = (λ k below. omega arith) in
    let first = slice_set (s.pages frame) (va % 4096) (word % 256) in
    let second = slice_set first (va % 4096 + 1) (word / 256 % 256) in
    let third = slice_set second (va % 4096 + 2) (word / 65536 % 256) in
    let one = stored_at_hand s d va frame (word % 256) low found in
    let two = stored_more s d (va + 1) frame (word / 256 % 256) first (under 1 (omega arith)) (at 1 (omega arith))
    ∙ (λ i. with_page_bytes s frame (slice_set first (place 1 (omega arith) i) (word / 256 % 256))) in
    let three = stored_more s d (va + 2) frame (word / 65536 % 256) second (under 2 (omega arith)) (at 2 (omega arith))
    ∙ (λ i. with_page_bytes s frame (slice_set second (place 2 (omega arith) i) (word / 65536 % 256))) in
    let four = stored_more s d (va + 3) frame (word / 16777216 % 256) third (under 3 (omega arith)) (at 3 (omega arith))
    ∙ (λ i. with_page_bytes s frame (slice_set third (place 3 (omega arith) i) (word / 16777216 % 256))) in
    (λ i. stored_byte (stored_byte (stored_byte (one i) d (va + 1) (word / 256 % 256)) d (va + 2) (word / 65536 % 256)) d (va + 3) (word / 16777216 % 256))
    ∙ (λ i. stored_byte (stored_byte (two i) d (va + 2) (word / 65536 % 256)) d (va + 3) (word / 16777216 % 256))
    ∙ (λ i. stored_byte (three i) d (va + 3) (word / 16777216 % 256))
    ∙ four

-- where a byte may be written, it is read in the same place
pub read_where_written : (entry : Option Entry) (va : ℕ) (place : FrameOffset) → reach_entry entry va Write ≡ Ok place → reach_entry entry va Read ≡ Ok place
read_where_written None va place e = absurd cc
read_where_written (Some entry) va place e = by_test (bit_and entry.perm 7 == 7) refl e
  where
    by_test : (b : Bool) → (bit_and entry.perm 7 == 7) ≡ b
        → ◌≡◌ {A = Result FrameOffset PageFault} (cond b (Ok (record { frame = entry.frame; offset = va % 4096 })) (Err (record { va = va; error = 7 }))) (Ok place)
        → reach_entry (Some entry) va Read ≡ Ok place
    by_test true t e =
        let stand : bit_and entry.perm 7 ≡ 7 = grind (arith, nat_tests) in
        let part = part_stands entry.perm 7 5 stand refl in
        let may : (bit_and entry.perm 5 == 5) ≡ true = grind (arith, nat_tests, part) in
        rw may e
    by_test false t e = absurd cc
