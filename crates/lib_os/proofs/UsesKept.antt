-- What an access changes of address spaces leaves each frame its one use.
use Rattle.std.proofs.Common.{◌≡◌, ◌∙◌, ◌+◌, ◌/◌, ◌%◌, ◌^◌, ◌==◌, ◌<◌, ℕ, zero, suc, Bool, true, false, refl, sym, ap, subst, arith}
use Rattle.std.specs.Prelude.{nat_lt, Option, Some, None, Result, Ok, Err, bit_or, is_some, if◌then◌else◌}
use Rattle.std.proofs.lemmas.Nat.{or_lt}
use Rattle.jos_base.specs.declared.memory.Access.{Access}
use Rattle.jos_base.specs.declared.memory.Access.TheVariants.{Read, Write}
use Rattle.jos_base.specs.declared.memory.PageFault.{PageFault}
use Rattle.jos_base.specs.declared.numbers.TheConstants.{NPTENTRIES}
use Rattle.jos_base.specs.Words.{page_number}
use Rattle.jos_base.specs.Reach.{Entry, FrameOffset}
use Rattle.jos_base.specs.Counting.{page_limit, frame_limit}
use Rattle.jos_base.specs.SpacesState.{SpacesState, Region, Use}
use Rattle.jos_base.specs.Windows.{table_index}
use Rattle.jos_base.specs.UserMemory.{reach_in, access_bits, region_accessed, entry_marked, with_page_bits, with_region_bit}
use Rattle.jos_base.specs.UserMemory.{with_entry_bits, with_bits, touched, touched_by, all_touched, stored_byte, with_byte_at}
use Rattle.lib_os.specs.InOrder.{HasOneUse, AreFree}
use Rattle.lib_os.proofs.Touching.{region_quiet}
use Rattle.jos_base.proofs.Puts.{put-holds}

-- an entry of the same frame stood there
abbrev CameFrom : Option Entry → Option Entry → Type 0
CameFrom old new = (e : Entry) → new ≡ Some e → (x : Entry) × (old ≡ Some x) × (e.frame ≡ x.frame) × (x.perm < 4096 → e.perm < 4096)

-- a region of the same table stood there
abbrev CameFromRegion : Option Region → Option Region → Type 0
CameFromRegion old new = (x : Region) → new ≡ Some x → (y : Region) × (old ≡ Some y) × (x.table ≡ y.table)

-- The frames have the uses that they had, and what names them stood where it stands.
record Follows (s t : SpacesState) : Type 0 where
  uses : t.uses ≡ s.uses
  free : t.free ≡ s.free
  entries : (q r : ℕ) → CameFrom (s.entries q r) (t.entries q r)
  regions : (q r : ℕ) → CameFromRegion (s.regions q r) (t.regions q r)
  stand : (q r : ℕ) → is_some (t.regions q r) ≡ is_some (s.regions q r)

follows_kept : (s t : SpacesState) → Follows s t → HasOneUse s → HasOneUse t
follows_kept s t f h = record {
  pages = λ d p e is. let x = f.entries d p e is in (λ i. f.uses i e.frame) ∙ ap s.uses x.2 ∙ h.pages d p x.0 x.1;
  owners = λ d p e is. let x = f.entries d p e is in (λ i. f.uses i d) ∙ h.owners d p x.0 x.1;
  within = λ d p e is. let x = f.entries d p e is in h.within d p x.0 x.1;
  small = λ d p e is.
      let x = f.entries d p e is in
      let old = h.small d p x.0 x.1 in
      (subst (λ n. n < frame_limit) (sym x.2) old.0, x.3 old.1);
  regions = λ d p e is. let x = f.entries d p e is in f.stand d (p / NPTENTRIES) ∙ h.regions d p x.0 x.1;
  tables = λ d r region is.
      let x = f.regions d r region is in
      let old = h.tables d r x.0 x.1 in
      ((λ i. f.uses i region.table) ∙ ap s.uses x.2 ∙ old.0, subst (λ n. n < frame_limit) (sym x.2) old.1);
  tables_apart = λ d r e q x y is is_too same.
      let one = f.regions d r x is in
      let two = f.regions e q y is_too in
      h.tables_apart d r e q one.0 two.0 one.1 two.1 (sym one.2 ∙ same ∙ two.2);
  region_owners = λ d r region is. let x = f.regions d r region is in (λ i. f.uses i d) ∙ h.region_owners d r x.0 x.1;
  free_list = subst (AreFree t.uses) (sym f.free) (subst (λ (u : ℕ → Use). AreFree u s.free) (sym f.uses) h.free_list);
}

entry_from_self : (o : Option Entry) → CameFrom o o
entry_from_self o e is = (e, is, refl, λ small. small)

region_from_self : (o : Option Region) → CameFromRegion o o
region_from_self o x is = (x, is, refl)

from_marked : (a : Access) (o : Option Entry) → CameFrom o (entry_marked (access_bits a) o)
from_marked a None e is = absurd cc
from_marked a (Some x) e is =
    let as_was : record x { perm = bit_or x.perm (access_bits a) } ≡ e = cc in
    (x, refl, sym (ap (λ (y : Entry). y.frame) as_was), λ small. subst (λ n. n < 4096) (ap (λ (y : Entry). y.perm) as_was) (bits_small a x.perm small))
  where
    bits_small : (a : Access) (n : ℕ) → n < 4096 → bit_or n (access_bits a) < 4096
    bits_small Read n small = or_lt 12 n 0x20 small (omega arith)
    bits_small Write n small = or_lt 12 n 0x60 small (omega arith)

from_accessed : (o : Option Region) → CameFromRegion o (region_accessed o)
from_accessed None x is = absurd cc
from_accessed (Some y) x is =
    let as_was : record y { accessed = true } ≡ x = cc in
    (y, refl, sym (ap (λ (z : Region). z.table) as_was))

module _ (s : SpacesState) (d : ℕ) where
  region_follows : (index : ℕ) → Follows s (with_region_bit s d index)
  region_follows index = record {
    uses = refl;
    free = refl;
    entries = λ q r. entry_from_self (s.entries q r);
    regions = put-holds s.regions d index (region_accessed (s.regions d index)) (λ q r o. CameFromRegion (s.regions q r) o)
        (from_accessed (s.regions d index)) (λ q r ne. region_from_self (s.regions q r));
    stand = let quiet = region_quiet s d index in quiet.regions;
  }

  entry_follows : (number : ℕ) (a : Access) → Follows s (with_entry_bits s d number (access_bits a))
  entry_follows number a = record {
    uses = refl;
    free = refl;
    entries = put-holds s.entries d number (entry_marked (access_bits a) (s.entries d number)) (λ q r o. CameFrom (s.entries q r) o)
        (from_marked a (s.entries d number)) (λ q r ne. entry_from_self (s.entries q r));
    regions = λ q r. region_from_self (s.regions q r);
    stand = λ q r. refl;
  }

bits_kept : (s : SpacesState) (d n : ℕ) (a : Access) → HasOneUse s → HasOneUse (with_bits s d n a)
bits_kept s d n a h = by_place (nat_lt n page_limit) (n / NPTENTRIES == table_index)
  where
    by_place : (below window : Bool) →
        HasOneUse (if below then with_page_bits s d n a else if window then with_region_bit s d (n % NPTENTRIES) else s)
    by_place true window =
        follows_kept (with_region_bit s d (n / NPTENTRIES)) (with_page_bits s d n a) (entry_follows (with_region_bit s d (n / NPTENTRIES)) d n a)
        (follows_kept s (with_region_bit s d (n / NPTENTRIES)) (region_follows s d (n / NPTENTRIES)) h)
    by_place false true = follows_kept s (with_region_bit s d (n % NPTENTRIES)) (region_follows s d (n % NPTENTRIES)) h
    by_place false false = h

pub touched_kept : (s : SpacesState) (d va : ℕ) (a : Access) → HasOneUse s → HasOneUse (touched s d va a)
unfolding touched
touched_kept s d va a h = by_outcome (reach_in s d va a)
  where
    by_outcome : (r : Result FrameOffset PageFault) → HasOneUse (touched_by s d va a r)
    by_outcome (Ok location) = bits_kept s d (page_number va) a h
    by_outcome (Err fault) = h

pub all_touched_kept : (s : SpacesState) (d va n : ℕ) → HasOneUse s → HasOneUse (all_touched s d va n)
unfolding all_touched
all_touched_kept s d va zero h = h
all_touched_kept s d va (suc n) h =
    all_touched_kept (touched s d va Read) d ((va + 1) % 2 ^ 32) n (touched_kept s d va Read h)

pub stored_kept : (s : SpacesState) (d va byte : ℕ) → HasOneUse s → HasOneUse (stored_byte s d va byte)
unfolding stored_byte
stored_kept s d va byte h = by_outcome (reach_in s d va Write)
  where
    by_outcome : (r : Result FrameOffset PageFault) → HasOneUse (with_byte_at s byte r)
    by_outcome (Ok location) = record {
      pages = h.pages;
      owners = h.owners;
      within = h.within;
      small = h.small;
      regions = h.regions;
      tables = h.tables;
      tables_apart = h.tables_apart;
      region_owners = h.region_owners;
      free_list = h.free_list;
    }
    by_outcome (Err fault) = h
