-- What an access changes of address spaces: nothing that is seen. It sets bits on which no right hangs, and puts a byte.
use Rattle.std.proofs.Common.{◌≡◌, ◌∙◌, ◌+◌, ◌/◌, ◌%◌, ◌^◌, ◌==◌, ◌<◌, ℕ, zero, suc, Bool, true, false, refl, sym, ap, subst, arith}
use Rattle.std.specs.Prelude.{nat_lt, Option, Some, None, Result, Ok, Err, is_some, slice_set, if◌then◌else◌}
use Rattle.std.specs.Option.{option_map}
use Rattle.std.proofs.lemmas.Nat.{and_or_apart}
use Rattle.std.proofs.lemmas.Bool.Decides.{nat_tests}
use Rattle.jos_base.specs.declared.memory.Access.{Access}
use Rattle.jos_base.specs.declared.memory.Access.TheVariants.{Read, Write}
use Rattle.jos_base.specs.declared.memory.PageFault.{PageFault}
use Rattle.jos_base.specs.declared.numbers.TheConstants.{NPTENTRIES}
use Rattle.jos_base.specs.Words.{page_number, page_offset}
use Rattle.jos_base.specs.Reach.{Entry, FrameOffset, reach_entry, allows}
use Rattle.jos_base.specs.Counting.{page_limit}
use Rattle.jos_base.specs.SpacesState.{SpacesState, Region, with_page_bytes}
use Rattle.jos_base.specs.Windows.{walked, table_index}
use Rattle.jos_base.specs.UserMemory.{reach_in, access_bits, region_accessed, entry_marked, with_page_bits, with_region_bit}
use Rattle.jos_base.specs.UserMemory.{with_entry_bits, with_bits, touched, touched_by, all_touched, stored_byte, with_byte_at}
use Rattle.lib_os.specs.Rows.{rows_of, lasting}
use Rattle.lib_os.proofs.Effects.{Quiet, Stored}
use Rattle.jos_base.proofs.Puts.{put-alike}

-- ---- nothing is seen

pub quiet_self : (s : SpacesState) → Quiet s s
quiet_self s = record { rows = refl; pages = refl; regions = λ d r. refl }

pub quiet_both : (s t u : SpacesState) → Quiet s t → Quiet t u → Quiet s u
quiet_both s t u one two = record {
  rows = two.rows ∙ one.rows;
  pages = two.pages ∙ one.pages;
  regions = λ d r. two.regions d r ∙ one.regions d r;
}

accessed_stands : (region : Option Region) → is_some (region_accessed region) ≡ is_some region
accessed_stands None = refl
accessed_stands (Some region) = refl

lasting_marked : (a : Access) (entry : Option Entry) → option_map lasting (entry_marked (access_bits a) entry) ≡ option_map lasting entry
lasting_marked a None = refl
lasting_marked Read (Some entry) = λ i. Some (record { frame = entry.frame; perm = and_or_apart 0xe07 entry.perm 0x20 refl i })
lasting_marked Write (Some entry) = λ i. Some (record { frame = entry.frame; perm = and_or_apart 0xe07 entry.perm 0x60 refl i })

module _ (s : SpacesState) (d : ℕ) where
  pub region_quiet : (index : ℕ) → Quiet s (with_region_bit s d index)
  unfolding rows_of
  region_quiet index = record {
    rows = refl;
    pages = refl;
    regions = put-alike s.regions d index (region_accessed (s.regions d index)) is_some (accessed_stands (s.regions d index));
  }

  entry_quiet : (number : ℕ) (a : Access) → Quiet s (with_entry_bits s d number (access_bits a))
  unfolding rows_of
  entry_quiet number a = record {
    rows = λ i q r. put-alike s.entries d number (entry_marked (access_bits a) (s.entries d number)) (option_map lasting)
        (lasting_marked a (s.entries d number)) q r i;
    pages = refl;
    regions = λ q r. refl;
  }

bits_quiet : (s : SpacesState) (d n : ℕ) (a : Access) → Quiet s (with_bits s d n a)
bits_quiet s d n a = by_place (nat_lt n page_limit) (n / NPTENTRIES == table_index)
  where
    by_place : (below window : Bool) →
        Quiet s (if below then with_page_bits s d n a else if window then with_region_bit s d (n % NPTENTRIES) else s)
    by_place true window =
        quiet_both s (with_region_bit s d (n / NPTENTRIES)) (with_page_bits s d n a) (region_quiet s d (n / NPTENTRIES))
        (entry_quiet (with_region_bit s d (n / NPTENTRIES)) d n a)
    by_place false true = region_quiet s d (n % NPTENTRIES)
    by_place false false = quiet_self s

pub touched_quiet : (s : SpacesState) (d va : ℕ) (a : Access) → Quiet s (touched s d va a)
unfolding touched
touched_quiet s d va a = by_outcome (reach_in s d va a)
  where
    by_outcome : (r : Result FrameOffset PageFault) → Quiet s (touched_by s d va a r)
    by_outcome (Ok location) = bits_quiet s d (page_number va) a
    by_outcome (Err fault) = quiet_self s

-- what frames are used for stays
pub touched_uses : (s : SpacesState) (d va : ℕ) (a : Access) → (touched s d va a).uses ≡ s.uses
unfolding touched
touched_uses s d va a = by_outcome (reach_in s d va a)
  where
    by_place : (below window : Bool) (n : ℕ) →
        (if below then with_page_bits s d n a else if window then with_region_bit s d (n % NPTENTRIES) else s).uses ≡ s.uses
    by_place true window n = refl
    by_place false true n = refl
    by_place false false n = refl

    by_outcome : (r : Result FrameOffset PageFault) → (touched_by s d va a r).uses ≡ s.uses
    by_outcome (Ok location) = by_place (nat_lt (page_number va) page_limit) (page_number va / NPTENTRIES == table_index) (page_number va)
    by_outcome (Err fault) = refl

pub all_touched_quiet : (s : SpacesState) (d va n : ℕ) → Quiet s (all_touched s d va n)
unfolding all_touched
all_touched_quiet s d va zero = quiet_self s
all_touched_quiet s d va (suc n) =
    quiet_both s (touched s d va Read) (all_touched s d va (suc n)) (touched_quiet s d va Read)
    (all_touched_quiet (touched s d va Read) d ((va + 1) % 2 ^ 32) n)

-- ---- a byte is put

pub stored_is : (s : SpacesState) (d va byte : ℕ) (e : Entry) → page_number va < page_limit → s.entries d (page_number va) ≡ Some e →
    allows e.perm Write ≡ true →
    stored_byte s d va byte ≡ with_page_bytes s e.frame (slice_set (s.pages e.frame) (page_offset va) byte)
unfolding stored_byte walked
stored_is s d va byte e below stands allowed = ap (with_byte_at s byte) reached
  where
    found : walked s d (page_number va) ≡ Some e
    found = let here : nat_lt (page_number va) page_limit ≡ true = grind (arith, nat_tests) in rw here stands

    reached : reach_in s d va Write ≡ Ok (record { frame = e.frame; offset = page_offset va })
    reached = ap (λ (o : Option Entry). reach_entry o va Write) found ∙ rw allowed refl

pub byte_stored : (s : SpacesState) (d va byte : ℕ) (e : Entry) → page_number va < page_limit → s.entries d (page_number va) ≡ Some e →
    allows e.perm Write ≡ true → Stored s (stored_byte s d va byte) e.frame (page_offset va) byte
unfolding rows_of
byte_stored s d va byte e below stands allowed =
    subst (λ (t : SpacesState). Stored s t e.frame (page_offset va) byte) (sym (stored_is s d va byte e below stands allowed))
    (record { rows = refl; pages = refl; regions = λ q r. refl })
