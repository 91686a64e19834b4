-- What moving a block does to its page and to the disk. The page's entry may be read and written, so that the call is refused only where the
-- disk has no such block.
use Rattle.std.proofs.Common.{◌≡◌, ◌∙◌, ◌&&◌, ◌+◌, ◌*◌, ◌/◌, ◌<◌, ◌≤◌, ℕ, Bool, true, false, List, [], length, Option, Some, Ok}
use Rattle.std.proofs.Common.{refl, sym, ap, subst, arith, inl, inr, if◌then◌else◌}
use Rattle.std.proofs.lemmas.Bool.{cases_lt}
use Rattle.std.proofs.lemmas.Bool.Decides.{nat_tests}
use Rattle.std.proofs.lemmas.List.{ext_get_or}
use Rattle.std.proofs.lemmas.Slice.Eq.{bytes_eq-Decides}
use Rattle.std.specs.Prelude.{bit_or, is_ok, is_some, nat_lt, slice_index, unwrap_or}
use Rattle.std.specs.Str.{bytes_eq}
use Rattle.jos_host.specs.Files.{Files, bytes_of, overwritten, with_bytes}
use Rattle.jos_base.specs.declared.memory.Access.{Access}
use Rattle.jos_base.specs.declared.memory.Access.TheVariants.{Read, Write}
use Rattle.jos_base.specs.declared.numbers.TheConstants.{NPTENTRIES, PGSIZE, PTE_A, PTE_D}
use Rattle.jos_base.specs.Counting.{page_limit}
use Rattle.jos_base.specs.Environments.{records_of}
use Rattle.jos_base.specs.KernelState.{KernelState, slot_at, with_spaces}
use Rattle.jos_base.specs.Reach.{Entry, allows, reach_entry}
use Rattle.jos_base.specs.SpacesState.{SpacesState, put, with_page_bytes}
use Rattle.jos_base.specs.UserMemory.{access_bits, byte_at, byte_or_zero, entry_marked, is_allowed, reach_in, touched, touched_by}
use Rattle.jos_base.specs.UserMemory.{with_bits, with_page_bits}
use Rattle.jos_base.specs.Windows.{walked}
use Rattle.jos_base.specs.Words.{has_bit, page_number, page_offset, upd}
use Rattle.jos_base.proofs.Maps.{upd-at, upd-other}
use Rattle.jos_base.proofs.Options.{some_is}
use Rattle.jos_base.proofs.Puts.{put-at, put-other}
use Rattle.jos_base.proofs.Walks.{walked_below}
use Rattle.fs_layout.specs.declared.numbers.TheConstants.{BLKSIZE}
use Rattle.lib_os.specs.declared.numbers.TheConstants.{CACHE_BLOCKS, DISKMAP}
use Rattle.lib_os.specs.declared.user_os.Stop.{Stop}
use Rattle.lib_os.specs.BlockCache.{block_address, block_row, own_addresses}
use Rattle.lib_os.specs.Disk.{BlockCame, HasBlocks, block_in, disk_in}
use Rattle.lib_os.specs.Rows.{IsPage}
use Rattle.lib_os.specs.UserCalls.{IsReadBy, IsSentBy, FilesBehindBy, block_put, may_move, page_accessed, page_bytes}
use Rattle.lib_os.proofs.BytesPut.{bytes_put, page_put, put_is, put_there, put_whole, spaces_put}
use Rattle.lib_os.proofs.DiskBytes.{below_is, blocks_written}
use Rattle.lib_os.proofs.Touching.{region_quiet}
use Rattle.fs_blocks.specs.CachePlans.{page_perm}
use Rattle.fs_cache.specs.CacheStands.{CacheView, IsBlockEntry, cache_view, was_used}
use Rattle.fs_cache.specs.CacheSteps.{Caller, of_block}
use Rattle.fs_cache.proofs.Loads.{number_below, number_of, own_number, row_below, row_past}
use Rattle.fs_cache.proofs.Views.{DiskSet, Filled, RowSet, ViewKept, Written, filled, not_there, written}
use Rattle.fs_cache.proofs.Interfaces.{BlockIsRead, BlockIsWritten, IsServer, view_in}

-- ---- the bits of a block's entry

abbrev pub bits : Bool → Bool → ℕ
bits used dirty = page_perm + (if used then PTE_A else 0) + (if dirty then PTE_D else 0)

abbrev pub marked : Access → Entry → Entry
marked access e = record e { perm = bit_or e.perm (access_bits access) }

module _ (e : Entry) (is : IsBlockEntry e) where
  pub block_allows : (access : Access) → allows e.perm access ≡ true
  block_allows access = ap (λ (perm : ℕ). allows perm access) is.bits ∙ by_bits is.used is.written access
    where
      by_bits : (used dirty : Bool) (a : Access) → allows (bits used dirty) a ≡ true
      by_bits true true Read = refl
      by_bits true false Read = refl
      by_bits false true Read = refl
      by_bits false false Read = refl
      by_bits true true Write = refl
      by_bits true false Write = refl
      by_bits false true Write = refl
      by_bits false false Write = refl

  pub write_bits : (marked Write e).perm ≡ bits true true
  write_bits = ap (λ (perm : ℕ). bit_or perm (access_bits Write)) is.bits ∙ by_bits is.used is.written
    where
      by_bits : (used dirty : Bool) → bit_or (bits used dirty) (access_bits Write) ≡ bits true true
      by_bits true true = refl
      by_bits true false = refl
      by_bits false true = refl
      by_bits false false = refl

  pub written_entry : IsBlockEntry (marked Write e)
  written_entry = record { used = true; written = true; bits = write_bits }

  read_bits : (marked Read e).perm ≡ bits true is.written
  read_bits = ap (λ (perm : ℕ). bit_or perm (access_bits Read)) is.bits ∙ by_bits is.used is.written
    where
      by_bits : (used dirty : Bool) → bit_or (bits used dirty) (access_bits Read) ≡ bits true dirty
      by_bits true true = refl
      by_bits true false = refl
      by_bits false true = refl
      by_bits false false = refl

  pub read_entry : IsBlockEntry (marked Read e)
  read_entry = record { used = true; written = is.written; bits = read_bits }

  -- a read leaves it as dirty as it was, and used
  pub read_dirty : has_bit (marked Read e).perm PTE_D ≡ has_bit e.perm PTE_D
  read_dirty =
      ap (λ (perm : ℕ). has_bit perm PTE_D) read_bits ∙ by_bits is.used is.written ∙ sym (ap (λ (perm : ℕ). has_bit perm PTE_D) is.bits)
    where
      by_bits : (used dirty : Bool) → has_bit (bits true dirty) PTE_D ≡ has_bit (bits used dirty) PTE_D
      by_bits true true = refl
      by_bits true false = refl
      by_bits false true = refl
      by_bits false false = refl

  read_used : was_used (Some (marked Read e)) ≡ true
  read_used = ap (λ (perm : ℕ). was_used (Some (record { frame = e.frame; perm = perm }))) read_bits ∙ by_bits is.written
    where
      by_bits : (dirty : Bool) → was_used (Some (record { frame = e.frame; perm = bits true dirty })) ≡ true
      by_bits true = refl
      by_bits false = refl

-- ---- what is seen behind a call

view_self : (v : CacheView) → ViewKept v v
view_self v = record { row = λ n. refl; bytes = λ m e is. refl; tables = λ r on. on }

-- one entry is another
row_set : (s t : SpacesState) (d b : ℕ) (o : Option Entry) → b < CACHE_BLOCKS → t.entries ≡ put s.entries d (number_of b) o →
    ((q r : ℕ) → is_some (t.regions q r) ≡ is_some (s.regions q r)) → RowSet (cache_view s d) (cache_view t d) b o
row_set s t d b o below entries regions = record {
  set = row_below t d b below ∙ (λ i. entries i d (number_of b)) ∙ put-at s.entries d (number_of b) o;
  rest = λ m other. elim (cases_lt m CACHE_BLOCKS) [
    | inl inside ↦
        row_below t d m inside
        ∙ (λ i. entries i d (number_of m))
        ∙ put-other s.entries d (number_of b) o d (number_of m) (λ _ same. other (omega (arith, same)))
        ∙ sym (row_below s d m inside)
    | inr past ↦
        let beyond : CACHE_BLOCKS ≤ m = grind (arith, past) in
        row_past t d m beyond ∙ sym (row_past s d m beyond)
  ];
  tables = λ r on. regions d (DISKMAP / PGSIZE / NPTENTRIES + r) ∙ on;
}

-- ---- the page of a block

module _ (s : SpacesState) (d b : ℕ) (e : Entry) (below : b < CACHE_BLOCKS) (stands : block_row s d own_addresses b ≡ Some e)
    (is : IsBlockEntry e) where
  abbrev number : ℕ
  number = number_of b

  entry_at : s.entries d number ≡ Some e
  entry_at = sym (row_below s d b below) ∙ stands

  -- it may be accessed at each address
  page_reached : (access : Access) (va : ℕ) → page_number va ≡ number →
      reach_in s d va access ≡ Ok (record { frame = e.frame; offset = page_offset va })
  page_reached access va at =
      let may = block_allows e is access in
      ap (λ (p : ℕ). reach_entry (walked_at p) va access) at
      ∙ ap (λ (o : Option Entry). reach_entry o va access) (walked_below s d number (number_below b below) ∙ entry_at)
      ∙ rw may refl
    where
      walked_at : ℕ → Option Entry
      walked_at p = walked s d p

  page_allowed : (access : Access) → is_allowed s d (block_address b) access ≡ true
  page_allowed access = ap is_ok (page_reached access (block_address b) (own_number b))

  page_touched : (access : Access) → touched s d (block_address b) access ≡ with_page_bits s d number access
  unfolding touched
  page_touched access =
      let low = number_below b below in
      let inside : nat_lt number page_limit ≡ true = grind (arith, nat_tests) in
      ap (touched_by s d (block_address b) access) (page_reached access (block_address b) (own_number b))
      ∙ ap (λ (p : ℕ). touched_at p access) (own_number b)
      ∙ rw inside refl
    where
      touched_at : ℕ → Access → SpacesState
      touched_at p a = with_bits s d p a

  -- its entry gets the bits of the access
  entries_marked : (access : Access) → (with_page_bits s d number access).entries ≡ put s.entries d number (Some (marked access e))
  entries_marked access = ap (λ (o : Option Entry). put s.entries d number (entry_marked (access_bits access) o)) entry_at

  regions_stay : (access : Access) (q r : ℕ) → is_some ((with_page_bits s d number access).regions q r) ≡ is_some (s.regions q r)
  regions_stay access q r = (region_quiet s d (number / NPTENTRIES)).regions q r

  -- its bytes are those of its frame
  bytes_there : (records : ℕ → List ℕ) (k : ℕ) → k < PGSIZE → byte_at records s d (block_address b + k) ≡ slice_index (s.pages e.frame) k
  unfolding byte_at
  bytes_there records k lt =
      let at : page_number (block_address b + k) ≡ number = omega (arith, lt) in
      let offset : page_offset (block_address b + k) ≡ k = omega (arith, lt) in
      let low = number_below b below in
      let inside : nat_lt (page_number (block_address b + k)) page_limit ≡ true = grind (arith, nat_tests) in
      ap (byte_or_zero records s d (block_address b + k)) (page_reached Read (block_address b + k) at)
      ∙ rw inside (ap (slice_index (s.pages e.frame)) offset)

  -- and other bytes may come to it
  module _ (page : IsPage (s.pages e.frame)) (bytes : List ℕ) (came : IsPage bytes) where
    all_put : bytes_put (s.pages e.frame) 0 bytes ≡ bytes
    all_put =
        let long = (put_whole (s.pages e.frame) 0 bytes came.small page).long in
        ext_get_or 0 (bytes_put (s.pages e.frame) 0 bytes) bytes (long ∙ sym came.long)
        (λ k lt.
        let first : 0 + k ≡ k = omega arith in
        let inside : k < length bytes = omega (arith, lt, long, came.long) in
        let fits : 0 + length bytes ≤ length (s.pages e.frame) = omega (arith, came.long, page.long) in
        sym (ap (slice_index (bytes_put (s.pages e.frame) 0 bytes)) first) ∙ put_there (s.pages e.frame) 0 bytes k inside fits)

    abbrev filled_spaces : SpacesState
    filled_spaces = with_page_bytes (with_page_bits s d number Write) e.frame bytes

    page_filled : spaces_put (touched s d (block_address b) Write) d (block_address b) bytes ≡ filled_spaces
    page_filled =
        let at : block_address b ≡ number * PGSIZE + 0 = omega arith in
        let marked_at : (with_page_bits s d number Write).entries d number ≡ Some (marked Write e) =
        (λ i. entries_marked Write i d number) ∙ put-at s.entries d number (Some (marked Write e)) in
        (λ i. spaces_put (page_touched Write i) d (at i) bytes)
        ∙ page_put d number (marked Write e) (number_below b below) (block_allows (marked Write e) (written_entry e is) Write)
        (with_page_bits s d number Write) 0 bytes marked_at (omega (arith, came.long))
        ∙ ap (with_page_bytes (with_page_bits s d number Write) e.frame) all_put

    filled_row : RowSet (cache_view s d) (cache_view filled_spaces d) b (Some (marked Write e))
    filled_row = row_set s filled_spaces d b (Some (marked Write e)) below (entries_marked Write) (regions_stay Write)

-- ---- whether the call is done

both_true : (x : Bool) → (true && x && true) ≡ x
both_true true = refl
both_true false = refl

not_below : (b count : ℕ) → nat_lt b count ≡ false → count ≤ b
not_below b count off = grind (arith, nat_tests)

is_below : (b count : ℕ) → nat_lt b count ≡ true → b < count
is_below b count on = grind (arith, nat_tests)

module _ (c : Caller) (b : ℕ) (server : IsServer c.state c.slot) (e : Entry) (below : b < CACHE_BLOCKS)
    (stands : (view_in c.state c.slot).row b ≡ Some e) (is : IsBlockEntry e) where
  abbrev s : KernelState
  s = c.state

  abbrev n : ℕ
  n = c.slot

  abbrev d : ℕ
  d = (slot_at s n).directory

  moves_where : (access : Access) → may_move (of_block c b) access ≡ nat_lt b c.disk.blocks
  moves_where access =
      (λ i. server.server i && nat_lt b c.disk.blocks && page_allowed s.spaces d b e below stands is access i) ∙ both_true (nat_lt b c.disk.blocks)

  -- ---- a block is read

  module _ (files : Files) (page : IsPage (s.spaces.pages e.frame)) (mid : KernelState) where
    read_there : (bytes : List ℕ) → BlockCame (Some files) c.disk b bytes → mid ≡ block_put s n (block_address b) bytes →
        b < c.disk.blocks → Filled (disk_in files c.disk) (view_in s n) (view_in mid n) b
    unfolding block_put
    read_there bytes came after inside =
        let whole : mid ≡ with_spaces s (filled_spaces s.spaces d b e below stands is page bytes came.page) =
        after
        ∙ put_is (page_accessed s n (block_address b) Write) n (block_address b) bytes
        ∙ ap (with_spaces s) (page_filled s.spaces d b e below stands is page bytes came.page) in
        let there : Filled (disk_in files c.disk) (view_in s n) (cache_view (filled_spaces s.spaces d b e below stands is page bytes came.page) d) b =
        filled e (marked Write e) stands inside (filled_row s.spaces d b e below stands is page bytes came.page) refl (written_entry e is)
        (upd-at s.spaces.pages e.frame bytes ∙ came.told) (subst (λ (xs : List ℕ). IsPage xs) came.told came.page)
        (λ m x at other. upd-other s.spaces.pages e.frame bytes x.frame other) in
        subst (λ (t : KernelState). Filled (disk_in files c.disk) (view_in s n) (view_in t n) b) (sym whole) there

    read_by : (word : ℕ) (t : Bool) → nat_lt b c.disk.blocks ≡ t → IsReadBy t (of_block c b) (Some files) word mid →
        Filled (disk_in files c.disk) (view_in s n) (view_in mid n) b
    read_by word true on call = read_there call.1 call.2 call.3 (is_below b c.disk.blocks on)
    read_by word false off call =
        subst (λ (t : KernelState). Filled (disk_in files c.disk) (view_in s n) (view_in t n) b) (sym call.1)
        (not_there (not_below b c.disk.blocks off) (view_self (view_in s n)))

  -- ---- a block is written

  module _ (page : IsPage (s.spaces.pages e.frame)) where
    -- what is written is the page
    page_is : page_bytes s n (block_address b) ≡ s.spaces.pages e.frame
    unfolding page_bytes
    page_is =
        below_is PGSIZE (λ k. byte_at (records_of s.environments) s.spaces d (block_address b + k)) (s.spaces.pages e.frame) page.long
        (bytes_there s.spaces d b e below stands is (records_of s.environments))

    module _ (files : Files) (has : HasBlocks (Some files) c.disk) (mid : KernelState) where
      abbrev file : List ℕ
      file = bytes_of files c.disk.name

      abbrev over : Files
      over = with_bytes files c.disk.name (overwritten file (BLKSIZE * b) (s.spaces.pages e.frame))

      file_over : bytes_of over c.disk.name ≡ overwritten file (BLKSIZE * b) (s.spaces.pages e.frame)
      file_over =
          let same : bytes_eq c.disk.name c.disk.name ≡ true = (bytes_eq-Decides c.disk.name c.disk.name).1 refl in
          ap (λ (t : Bool). unwrap_or (if t then Some (overwritten file (BLKSIZE * b) (s.spaces.pages e.frame)) else files c.disk.name) []) same

      disk_over : b < c.disk.blocks → DiskSet (disk_in files c.disk) (disk_in over c.disk) b (s.spaces.pages e.frame)
      disk_over inside = record {
        count = refl;
        set = now b ∙ upd-at (block_in file) b (s.spaces.pages e.frame);
        rest = λ m other. now m ∙ upd-other (block_in file) b (s.spaces.pages e.frame) m other;
      }
        where
          now : (m : ℕ) → block_in (bytes_of over c.disk.name) m ≡ upd (block_in file) b (s.spaces.pages e.frame) m
          now m =
              ap (λ (bytes : List ℕ). block_in bytes m) file_over
              ∙ blocks_written file b (s.spaces.pages e.frame) page.long (omega (arith, has, inside)) m

      abbrev WrittenTo : Option Files → KernelState → Type 0
      WrittenTo told t = (after : Files) × (told ≡ Some after) × Written (disk_in files c.disk) (disk_in after c.disk) (view_in s n) (view_in t n) b

      write_there : (told : Option Files) → mid ≡ page_accessed s n (block_address b) Read →
          told ≡ Some (with_bytes files c.disk.name (overwritten file (BLKSIZE * b) (page_bytes s n (block_address b)))) →
          b < c.disk.blocks → WrittenTo told mid
      write_there told after told_is inside =
          let whole : mid ≡ with_spaces s (with_page_bits s.spaces d (number_of b) Read) =
          after ∙ ap (with_spaces s) (page_touched s.spaces d b e below stands is Read) in
          let row : RowSet (view_in s n) (cache_view (with_page_bits s.spaces d (number_of b) Read) d) b (Some (marked Read e)) =
          row_set s.spaces (with_page_bits s.spaces d (number_of b) Read) d b (Some (marked Read e)) below
          (entries_marked s.spaces d b e below stands is Read) (regions_stay s.spaces d b e below stands is Read) in
          let there : Written (disk_in files c.disk) (disk_in over c.disk) (view_in s n)
          (cache_view (with_page_bits s.spaces d (number_of b) Read) d) b =
          written e (marked Read e) stands inside (disk_over inside) row refl (read_entry e is) (read_dirty e is) (read_used e is)
          (λ m x at. refl) in (
            over,
            told_is ∙ ap (λ (bytes : List ℕ). Some (with_bytes files c.disk.name (overwritten file (BLKSIZE * b) bytes))) page_is,
            subst (λ (t : KernelState). Written (disk_in files c.disk) (disk_in over c.disk) (view_in s n) (view_in t n) b) (sym whole) there,
          )

      write_by : (word : ℕ) (told : Option Files) (t : Bool) → nat_lt b c.disk.blocks ≡ t → IsSentBy t (of_block c b) word mid →
          FilesBehindBy {E = Stop} t (of_block c b) (Ok word) (record { before = Some files; after = told }) → WrittenTo told mid
      write_by word told true on call behind = write_there told call.1 behind (is_below b c.disk.blocks on)
      write_by word told false off call behind = (
        files,
        behind,
        subst (λ (t : KernelState). Written (disk_in files c.disk) (disk_in files c.disk) (view_in s n) (view_in t n) b) (sym call.1)
            (not_there (not_below b c.disk.blocks off) refl (view_self (view_in s n))),
      )

-- ---- what is asked

pub block_is_read : BlockIsRead
block_is_read c files b word place hand mid output server holds below some reply =
    let found = some_is ((view_in c.state c.slot).row b) some in
    let is = holds.entries b found.0 found.1 in
    read_by c b server found.0 below found.1 is files (holds.pages b found.0 found.1) mid word (nat_lt b c.disk.blocks) refl
    (subst (λ (t : Bool). IsReadBy t (of_block c b) (Some files) word mid) (moves_where c b server found.0 below found.1 is Write) reply.0)

pub block_is_written : BlockIsWritten
block_is_written c files told b word place hand mid output server holds has below some reply behind =
    let found = some_is ((view_in c.state c.slot).row b) some in
    let is = holds.entries b found.0 found.1 in
    let may = moves_where c b server found.0 below found.1 is Read in
    write_by c b server found.0 below found.1 is (holds.pages b found.0 found.1) files has mid word told (nat_lt b c.disk.blocks) refl
    (subst (λ (t : Bool). IsSentBy t (of_block c b) word mid) may reply.0)
    (subst (λ (t : Bool). FilesBehindBy {E = Stop} t (of_block c b) (Ok word) (record { before = Some files; after = told })) may behind)
