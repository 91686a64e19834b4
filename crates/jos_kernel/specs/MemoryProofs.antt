-- The memory of the environment that runs is lawful, inside a fence too: reaching for a byte sets bits that no right hangs on, and putting
-- one changes one page's bytes. This is a proof and no definition, to be passed over when reading: `lawful` of the
-- machine can import it from here alone.
use Rattle.std.specs.Prelude.{◌≡◌, ◌⊎◌, ℕ, ◌/◌, ◌%◌, ◌==◌, nat_lt, Bool, true, false, List, Option, Some, None, Result, Ok, Err}
use Rattle.std.specs.Prelude.{is_ok, bit_or, slice_index, slice_set, refl, if◌then◌else◌}
use Rattle.std.specs.Option.{option_map}
use Rattle.std.proofs.Common.{inl, ap, arith}
use Rattle.std.proofs.lemmas.Nat.{and_or_apart}
use Rattle.std.proofs.lemmas.Bool.Decides.{nat_tests}
use Rattle.jos_base.specs.declared.memory.Access.{Access}
use Rattle.jos_base.specs.declared.memory.Access.TheVariants.{Read, Write}
use Rattle.jos_base.specs.declared.memory.PageFault.{PageFault}
use Rattle.jos_base.specs.Words.{page_number, upd}
use Rattle.jos_base.specs.declared.numbers.TheConstants.{NPTENTRIES}
use Rattle.jos_base.specs.Reach.{Entry, FrameOffset, reach_entry, allows}
use Rattle.jos_base.specs.Counting.{Entries, page_limit}
use Rattle.jos_base.specs.SpacesState.{SpacesState, Region, region_limit, put}
use Rattle.jos_base.specs.Windows.{region_entry, directory_entry, entry_above, read_only, walked, window_byte}
use Rattle.jos_base.specs.Windows.{envs_index, pages_index, table_index}
use Rattle.jos_base.specs.Environments.{records_of}
use Rattle.jos_base.specs.KernelState.{KernelState}
use Rattle.jos_base.specs.UserMemory.{reach_in, fault_or, access_bits, region_accessed, entry_marked}
use Rattle.jos_base.specs.UserMemory.{with_page_bits, with_region_bit, with_bits, touched, touched_by}
use Rattle.jos_base.specs.UserMemory.{byte_at, byte_of, byte_or_zero, stored_byte, with_byte_at}
use Rattle.jos_cpu.specs.declared.memory.MemFault.TheVariants.{Page, Fence}
use Rattle.jos_cpu.specs.Memory.{IsLawful}
use Rattle.jos_cpu.specs.MemoryProofs.{set_or_same, fenced_is_lawful}
use Rattle.jos_kernel.specs.Running.{user_memory, memory_inside, byte_in_space, allowed_in, fault_in_space, touched_in, stored_in_space}

-- ---- rights by the bits of an entry

allows_marked : (perm : ℕ) (a b : Access) → allows (bit_or perm (access_bits a)) b ≡ allows perm b
allows_marked perm Read Read = ap (λ n. n == 0x005) (and_or_apart 0x005 perm 0x20 refl)
allows_marked perm Read Write = ap (λ n. n == 0x007) (and_or_apart 0x007 perm 0x20 refl)
allows_marked perm Write Read = ap (λ n. n == 0x005) (and_or_apart 0x005 perm 0x60 refl)
allows_marked perm Write Write = ap (λ n. n == 0x007) (and_or_apart 0x007 perm 0x60 refl)

entry_reached : (a : Access) (entry : Option Entry) (q : ℕ) (b : Access) →
    reach_entry (entry_marked (access_bits a) entry) q b ≡ reach_entry entry q b
entry_reached a None q b = refl
entry_reached a (Some entry) q b = rw (allows_marked entry.perm a b) refl

-- ---- what both levels allow

-- A page's entry that an access marked, and a region's that has its A bit: no right hangs on either.
record SeesAlike (s : SpacesState) (d : ℕ) (regions : ℕ → ℕ → Option Region) (entries : Entries) : Type 0 where
  by_region : (index : ℕ) → option_map read_only (option_map region_entry (regions d index)) ≡ option_map read_only (option_map region_entry (s.regions d index))
  by_entry : (number q : ℕ) (b : Access) → reach_entry (entries d number) q b ≡ reach_entry (s.entries d number) q b

module _ (s : SpacesState) (d : ℕ) (regions : ℕ → ℕ → Option Region) (entries : Entries) (alike : SeesAlike s d regions entries) where
  abbrev other : SpacesState
  other = record s { regions = regions; entries = entries }

  directory_alike : (index : ℕ) → option_map read_only (directory_entry other d index) ≡ option_map read_only (directory_entry s d index)
  directory_alike index = by_place _ (nat_lt index region_limit)
    where
      by_place : (rest : Option Entry) (c : Bool) →
          option_map read_only (if c then option_map region_entry (regions d index) else rest)
          ≡ option_map read_only (if c then option_map region_entry (s.regions d index) else rest)
      by_place rest true = alike.by_region index
      by_place rest false = refl

  above_alike : (region index : ℕ) → option_map read_only (entry_above other d region index) ≡ option_map read_only (entry_above s d region index)
  above_alike region index = by_window _ _ (region == envs_index) (region == pages_index) (region == table_index)
    where
      by_window : (envs pages : Option Entry) (a b c : Bool) →
          option_map read_only (if a then envs else if b then pages else if c then directory_entry other d index else None)
          ≡ option_map read_only (if a then envs else if b then pages else if c then directory_entry s d index else None)
      by_window envs pages true b c = refl
      by_window envs pages false true c = refl
      by_window envs pages false false true = directory_alike index
      by_window envs pages false false false = refl

  reach_alike : (q : ℕ) (b : Access) → reach_in other d q b ≡ reach_in s d q b
  unfolding walked
  reach_alike q b = by_place (nat_lt (page_number q) page_limit)
    where
      by_place : (c : Bool) →
          reach_entry (if c then entries d (page_number q) else option_map read_only (entry_above other d (page_number q / NPTENTRIES) (page_number q % NPTENTRIES))) q b
          ≡ reach_entry (if c then s.entries d (page_number q) else option_map read_only (entry_above s d (page_number q / NPTENTRIES) (page_number q % NPTENTRIES))) q b
      by_place true = alike.by_entry (page_number q) q b
      by_place false = ap (λ (entry : Option Entry). reach_entry entry q b) (above_alike (page_number q / NPTENTRIES) (page_number q % NPTENTRIES))

-- ---- what is reached

region_seen : (region : Option Region) → option_map read_only (option_map region_entry (region_accessed region)) ≡ option_map read_only (option_map region_entry region)
region_seen None = refl
region_seen (Some region) = refl

module _ (s : SpacesState) (d : ℕ) where
  put_seen : {V W : Type 0} (seen : V → W) (f : ℕ → ℕ → V) (k : ℕ) (v : V) → seen v ≡ seen (f d k) → (q : ℕ) → seen (put f d k v d q) ≡ seen (f d q)
  unfolding upd
  put_seen seen f k v e q =
      let same : (d == d) ≡ true = grind (arith, nat_tests) in
      rw same (by_key (q == k) refl)
    where
      by_key : (c : Bool) → (q == k) ≡ c → seen (if c then v else f d q) ≡ seen (f d q)
      by_key false test = refl
      by_key true test = let k : q ≡ k = grind (arith, nat_tests) in rw k e

  region_alike : (k index : ℕ) → option_map read_only (option_map region_entry (put s.regions d k (region_accessed (s.regions d k)) d index))
      ≡ option_map read_only (option_map region_entry (s.regions d index))
  region_alike k index =
      put_seen (λ region. option_map read_only (option_map region_entry region)) s.regions k (region_accessed (s.regions d k)) (region_seen (s.regions d k)) index

  page_alike : (k n : ℕ) (a : Access) →
      SeesAlike s d (put s.regions d k (region_accessed (s.regions d k))) (put s.entries d n (entry_marked (access_bits a) (s.entries d n)))
  page_alike k n a = record {
    by_region = region_alike k;
    by_entry = λ number q b. put_seen (λ entry. reach_entry entry q b) s.entries n (entry_marked (access_bits a) (s.entries d n))
        (entry_reached a (s.entries d n) q b) number;
  }

  window_alike : (k : ℕ) → SeesAlike s d (put s.regions d k (region_accessed (s.regions d k))) s.entries
  window_alike k = record { by_region = region_alike k; by_entry = λ number q b. refl }

  marked_reached : (n : ℕ) (a : Access) (q : ℕ) (b : Access) → reach_in (with_bits s d n a) d q b ≡ reach_in s d q b
  marked_reached n a q b = by_place (nat_lt n page_limit) (n / NPTENTRIES == table_index)
    where
      by_place : (below table : Bool) →
          reach_in (if below then with_page_bits s d n a else if table then with_region_bit s d (n % NPTENTRIES) else s) d q b ≡ reach_in s d q b
      by_place true table = reach_alike s d _ _ (page_alike (n / NPTENTRIES) n a) q b
      by_place false true = reach_alike s d _ _ (window_alike (n % NPTENTRIES)) q b
      by_place false false = refl

  pub reach_touched : (va : ℕ) (a : Access) (q : ℕ) (b : Access) → reach_in (touched s d va a) d q b ≡ reach_in s d q b
  unfolding touched
  reach_touched va a q b = by_outcome (reach_in s d va a)
    where
      by_outcome : (r : Result FrameOffset PageFault) → reach_in (touched_by s d va a r) d q b ≡ reach_in s d q b
      by_outcome (Ok location) = marked_reached (page_number va) a q b
      by_outcome (Err fault) = refl

-- ---- what is put

page_put : (pages : ℕ → List ℕ) (frame offset byte f o : ℕ) →
    (slice_index (upd pages frame (slice_set (pages frame) offset byte) f) o ≡ slice_index (pages f) o)
    ⊎ (slice_index (upd pages frame (slice_set (pages frame) offset byte) f) o ≡ byte)
unfolding upd
page_put pages frame offset byte f o = by_frame (f == frame) refl
  where
    by_frame : (c : Bool) → (f == frame) ≡ c →
        (slice_index (if c then slice_set (pages frame) offset byte else pages f) o ≡ slice_index (pages f) o)
        ⊎ (slice_index (if c then slice_set (pages frame) offset byte else pages f) o ≡ byte)
    by_frame false e = inl refl
    by_frame true e = let k : f ≡ frame = grind (arith, nat_tests) in rw k (set_or_same (pages frame) offset byte o)

module _ (s : SpacesState) (d va byte : ℕ) where
  pub reach_stored : (q : ℕ) (b : Access) → reach_in (stored_byte s d va byte) d q b ≡ reach_in s d q b
  unfolding stored_byte walked
  reach_stored q b = by_outcome (reach_in s d va Write)
    where
      by_outcome : (r : Result FrameOffset PageFault) → reach_in (with_byte_at s byte r) d q b ≡ reach_in s d q b
      by_outcome (Ok location) = refl
      by_outcome (Err fault) = refl

  byte_put : (records : ℕ → List ℕ) (r : Result FrameOffset PageFault) (q : ℕ) (at : FrameOffset) →
      (byte_of records (with_byte_at s byte r) d q at ≡ byte_of records s d q at) ⊎ (byte_of records (with_byte_at s byte r) d q at ≡ byte)
  unfolding window_byte
  byte_put records (Err fault) q at = inl refl
  byte_put records (Ok stood) q at = by_place _ (nat_lt (page_number q) page_limit)
    where
      by_place : (told : ℕ) (c : Bool) →
          ((if c then slice_index (upd s.pages stood.frame (slice_set (s.pages stood.frame) stood.offset byte) at.frame) at.offset else told)
          ≡ (if c then slice_index (s.pages at.frame) at.offset else told))
          ⊎ ((if c then slice_index (upd s.pages stood.frame (slice_set (s.pages stood.frame) stood.offset byte) at.frame) at.offset else told) ≡ byte)
      by_place told true = page_put s.pages stood.frame stood.offset byte at.frame at.offset
      by_place told false = inl refl

  found_put : (records : ℕ → List ℕ) (r t : Result FrameOffset PageFault) (q : ℕ) →
      (byte_or_zero records (with_byte_at s byte r) d q t ≡ byte_or_zero records s d q t)
      ⊎ (byte_or_zero records (with_byte_at s byte r) d q t ≡ byte)
  found_put records r (Err fault) q = inl refl
  found_put records r (Ok at) q = byte_put records r q at

  byte_stored : (records : ℕ → List ℕ) (q : ℕ) → (byte_at records (stored_byte s d va byte) d q ≡ byte_at records s d q) ⊎ (byte_at records (stored_byte s d va byte) d q ≡ byte)
  unfolding byte_at stored_byte
  byte_stored records q = rw (reach_stored q Read) (found_put records (reach_in s d va Write) (reach_in s d q Read) q)

-- ---- with a directory or without

module _ (s : KernelState) where
  reached_rights : (d : Option ℕ) (va : ℕ) (a : Access) → allowed_in (touched_in s d va a) d ≡ allowed_in s d
  reached_rights None va a = refl
  reached_rights (Some d) va a = λ i q b. is_ok (reach_touched s.spaces d va a q b i)

  reached_faults : (d : Option ℕ) (va : ℕ) (a : Access) → fault_in_space (touched_in s d va a) d ≡ fault_in_space s d
  reached_faults None va a = refl
  reached_faults (Some d) va a = λ i q b. fault_or (record { va = q; error = 0 }) (reach_touched s.spaces d va a q b i)

  stored_bytes : (d : Option ℕ) (va byte q : ℕ) →
      (byte_in_space (stored_in_space s d va byte) d q ≡ byte_in_space s d q) ⊎ (byte_in_space (stored_in_space s d va byte) d q ≡ byte)
  stored_bytes None va byte q = inl refl
  stored_bytes (Some d) va byte q = byte_stored s.spaces d va byte (records_of s.environments) q

  stored_rights : (d : Option ℕ) (va byte : ℕ) → allowed_in (stored_in_space s d va byte) d ≡ allowed_in s d
  stored_rights None va byte = refl
  stored_rights (Some d) va byte = λ i q b. is_ok (reach_stored s.spaces d va byte q b i)

  stored_faults : (d : Option ℕ) (va byte : ℕ) → fault_in_space (stored_in_space s d va byte) d ≡ fault_in_space s d
  stored_faults None va byte = refl
  stored_faults (Some d) va byte = λ i q b. fault_or (record { va = q; error = 0 }) (reach_stored s.spaces d va byte q b i)

pub user_memory_is_lawful : IsLawful user_memory
unfolding user_memory
user_memory_is_lawful = record {
  reached_rights = λ m va a. reached_rights m.state m.directory va a;
  reached_faults = λ m va a. λ i q b. Page (reached_faults m.state m.directory va a i q b);
  stored_bytes = λ m va byte q. stored_bytes m.state m.directory va byte q;
  stored_rights = λ m va byte. stored_rights m.state m.directory va byte;
  stored_faults = λ m va byte. λ i q b. Page (stored_faults m.state m.directory va byte i q b);
}

pub memory_inside_is_lawful : (inside : ℕ → Bool) → IsLawful (memory_inside inside)
memory_inside_is_lawful inside = fenced_is_lawful inside Fence user_memory_is_lawful
