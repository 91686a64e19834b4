-- What the cache reads at UVPD and UVPT: whether a region of blocks has a table, and the entry of a block's page. These loads set no bit
-- but A of a region, so that nothing that is seen of the cache changes, and they are never stopped.
use Rattle.std.proofs.Common.{◌≡◌, ◌∙◌, ◌==◌, ◌+◌, ◌*◌, ◌/◌, ◌%◌, ◌<◌, ◌≤◌, ℕ, Bool, true, false, Option, Some, None, Result, Ok, Err}
use Rattle.std.proofs.Common.{refl, sym, ap, subst, arith, inl, inr, if◌then◌else◌}
use Rattle.std.proofs.lemmas.Bool.{cases_lt}
use Rattle.std.proofs.lemmas.Bool.Decides.{nat_tests}
use Rattle.std.proofs.lemmas.Nat.{and_mod, and_le_r}
use Rattle.std.specs.Prelude.{bit_and, is_ok, is_some, nat_lt}
use Rattle.std.specs.Option.{option_map}
use Rattle.jos_base.specs.declared.memory.Access.TheVariants.{Read}
use Rattle.jos_base.specs.declared.memory.PageFault.{PageFault}
use Rattle.jos_base.specs.declared.numbers.TheConstants.{NPTENTRIES, PGSIZE, PTE_A, PTE_D, PTE_P, UVPT}
use Rattle.jos_base.specs.Counting.{page_limit}
use Rattle.jos_base.specs.KernelState.{KernelState, slot_at, with_spaces}
use Rattle.jos_base.specs.Reach.{Entry, FrameOffset, reach_entry}
use Rattle.jos_base.specs.SpacesState.{SpacesState, Region, region_limit}
use Rattle.jos_base.specs.SystemCalls.{handled}
use Rattle.jos_base.specs.UserMemory.{reach_in, with_region_bit}
use Rattle.jos_base.specs.Windows.{walked, region_entry, entry_word, table_index}
use Rattle.jos_base.specs.Words.{has_bit, page_number}
use Rattle.jos_base.proofs.Options.{some_is}
use Rattle.lib_os.specs.declared.numbers.TheConstants.{CACHE_BLOCKS, DISKMAP, UVPD}
use Rattle.lib_os.specs.declared.user_os.Stop.{Stop}
use Rattle.lib_os.specs.declared.user_os.Stop.TheVariants as stop
use Rattle.lib_os.specs.BlockCache.{block_address, block_row, entry_behind, own_addresses}
use Rattle.lib_os.specs.InOrder.{HasOneUse}
use Rattle.lib_os.specs.UserCalls.{CallStep, Output, got, to_handler, gone, giving, accessing, faulting, user_word, load, IsStep}
use Rattle.lib_os.proofs.EntryWords.{region_told}
use Rattle.lib_os.proofs.Loading.{loaded_state, loaded_word}
use Rattle.lib_os.proofs.Touching.{region_quiet}
use Rattle.lib_os.proofs.WindowWords.{load_directory_word, load_table_word, directory_touched, table_touched}
use Rattle.fs_blocks.specs.CachePlans.{is_there, is_used, is_written, page_of, page_perm}
use Rattle.fs_cache.specs.CacheStands.{IsBlockEntry, cache_view}
use Rattle.fs_cache.proofs.Views.{ReadEntry, ReadRegion, ViewKept}
use Rattle.fs_cache.proofs.Interfaces.{EntryIsRead, LoadsGive, RegionIsRead, view_in}

-- ---- the entries of the blocks' pages

-- the number of a block's page
abbrev pub number_of : ℕ → ℕ
number_of b = DISKMAP / PGSIZE + b

pub number_is : (b : ℕ) → b < CACHE_BLOCKS → page_of b ≡ number_of b
number_is b below = omega (arith, below)

pub number_below : (b : ℕ) → b < CACHE_BLOCKS → number_of b < page_limit
unfolding page_limit
number_below b below = omega (arith, below)

pub own_number : (b : ℕ) → page_number (block_address b) ≡ number_of b
own_number b = omega arith

own_address : (b : ℕ) → b < CACHE_BLOCKS → own_addresses b ≡ Some (block_address b)
own_address b below = let is : nat_lt b CACHE_BLOCKS ≡ true = grind (arith, nat_tests) in rw is refl

no_address : (b : ℕ) → CACHE_BLOCKS ≤ b → own_addresses b ≡ None
no_address b past = let is : nat_lt b CACHE_BLOCKS ≡ false = grind (arith, nat_tests) in rw is refl

module _ (s : SpacesState) (d : ℕ) where
  pub row_below : (b : ℕ) → b < CACHE_BLOCKS → block_row s d own_addresses b ≡ s.entries d (number_of b)
  unfolding block_row
  row_below b below = ap (entry_behind s d) (own_address b below) ∙ ap (s.entries d) (own_number b)

  pub row_past : (b : ℕ) → CACHE_BLOCKS ≤ b → block_row s d own_addresses b ≡ None
  unfolding block_row
  row_past b past = ap (entry_behind s d) (no_address b past)

  -- where a region has no table no block has a page
  pub rows_missing : HasOneUse s → (r b : ℕ) → b / NPTENTRIES ≡ r → is_some (s.regions d (DISKMAP / PGSIZE / NPTENTRIES + r)) ≡ false →
      block_row s d own_addresses b ≡ None
  rows_missing uses r b in_region off = elim (cases_lt b CACHE_BLOCKS) [
    | inr past ↦ row_past b (grind (arith, past))
    | inl below ↦ row_below b below ∙ by_entry (s.entries d (number_of b)) refl
  ]
    where
      same : DISKMAP / PGSIZE / NPTENTRIES + r ≡ number_of b / NPTENTRIES
      same = omega (arith, in_region)

      by_entry : (o : Option Entry) → s.entries d (number_of b) ≡ o → o ≡ None
      by_entry None is = refl
      by_entry (Some e) is =
          let there : false ≡ true =
          sym off ∙ ap (λ (q : ℕ). is_some (s.regions d q)) same ∙ uses.regions d (number_of b) e is in
          absurd cc

  -- the bit of a region is not seen
  pub region_kept : (index : ℕ) → ViewKept (cache_view s d) (cache_view (with_region_bit s d index) d)
  unfolding block_row
  region_kept index = record {
    row = λ n. by_address (own_addresses n);
    bytes = λ m e is. refl;
    tables = λ r on. (region_quiet s d index).regions d (DISKMAP / PGSIZE / NPTENTRIES + r) ∙ on;
  }
    where
      by_address : (o : Option ℕ) → entry_behind (with_region_bit s d index) d o ≡ entry_behind s d o
      by_address None = refl
      by_address (Some va) = refl

-- ---- loads that are stopped

not_stopped : (word : ℕ) (step : CallStep ℕ) (why : Stop) (mid : KernelState) (output : Output) → step.gives ≡ got word →
    IsStep step (Err why) mid output → ⊥
not_stopped word step stop.Upcall mid output gives call = let contradiction : to_handler ≡ got word = sym call.0 ∙ gives in cc
not_stopped word step stop.Ended mid output gives call = let contradiction : gone ≡ got word = sym call.0 ∙ gives in cc
not_stopped word step stop.Failed mid output gives call = let contradiction : gone ≡ got word = sym call.0 ∙ gives in cc

-- what gives a word is reached
load_reached : (s : KernelState) (n va word : ℕ) → (load s n va).gives ≡ got word → is_ok (reach_in s.spaces (slot_at s n).directory va Read) ≡ true
unfolding load
load_reached s n va word is = by_reach (reach_in s.spaces (slot_at s n).directory va Read) is
  where
    by_handler : (fault : PageFault) (o : Option KernelState) → (faulting {X = ℕ} s n fault o).gives ≡ got word → ⊥
    by_handler fault (Some after) e = let contradiction : to_handler ≡ got word = e in cc
    by_handler fault None e = let contradiction : gone ≡ got word = e in cc

    by_reach : (r : Result FrameOffset PageFault) →
        (accessing s n va Read (λ after. giving after (user_word after n va)) r).gives ≡ got word → is_ok r ≡ true
    by_reach (Ok location) e = refl
    by_reach (Err fault) e = absurd (by_handler fault (handled s n fault) e)

-- a table's word is reached only where there is the table
table_missing : (s : SpacesState) (d p : ℕ) → p < page_limit → s.regions d (p / NPTENTRIES) ≡ None → walked s d (page_number (UVPT + 4 * p)) ≡ None
unfolding walked page_limit
table_missing s d p below none =
    let number : page_number (UVPT + 4 * p) ≡ 979968 + p / NPTENTRIES = omega arith in
    let index : p / NPTENTRIES < region_limit = omega arith in
    let past : nat_lt (page_number (UVPT + 4 * p)) page_limit ≡ false = grind (arith, nat_tests) in
    let in_region : page_number (UVPT + 4 * p) / NPTENTRIES ≡ table_index = omega (arith, number, index) in
    let at : page_number (UVPT + 4 * p) % NPTENTRIES ≡ p / NPTENTRIES = omega (arith, number, index) in
    let is : nat_lt (p / NPTENTRIES) region_limit ≡ true = grind (arith, nat_tests) in
    rw (past, in_region, at, is, none) refl

table_there : (s : SpacesState) (d p : ℕ) → p < page_limit → is_ok (reach_in s d (UVPT + 4 * p) Read) ≡ true →
    is_some (s.regions d (p / NPTENTRIES)) ≡ true
table_there s d p below reached = by_region (s.regions d (p / NPTENTRIES)) refl
  where
    by_region : (o : Option Region) → s.regions d (p / NPTENTRIES) ≡ o → is_some o ≡ true
    by_region (Some region) is = refl
    by_region None is =
        let off : false ≡ true =
        sym (ap (λ (o : Option Entry). is_ok (reach_entry o (UVPT + 4 * p) Read)) (table_missing s d p below is)) ∙ reached in
        absurd cc

-- ---- the bits of an entry's word

module _ (e : Entry) (small : e.perm < 4096) where
  low_bits : (e.frame * 4096 + e.perm) % 4096 ≡ e.perm
  low_bits = omega (arith, small)

  word_bit : (bit : ℕ) → bit < 4096 → bit_and (entry_word (Some e)) bit ≡ bit_and e.perm bit
  word_bit bit few =
      let low = and_mod (e.frame * 4096 + e.perm) bit 12 in
      let part : bit_and ((e.frame * 4096 + e.perm) % 4096) (bit % 4096) ≡ bit_and e.perm bit =
      λ i. bit_and (low_bits i) (few_is i) in
      let most = and_le_r (e.frame * 4096 + e.perm) bit in
      omega (arith, low, part, most, few)
    where
      few_is : bit % 4096 ≡ bit
      few_is = omega (arith, few)

  pub word_has : (bit : ℕ) → bit < 4096 → has_bit (entry_word (Some e)) bit ≡ has_bit e.perm bit
  word_has bit few = ap (λ (w : ℕ). w == bit) (word_bit bit few)

block_present : (e : Entry) → IsBlockEntry e → has_bit e.perm PTE_P ≡ true
block_present e is = ap (λ (perm : ℕ). has_bit perm PTE_P) is.bits ∙ by_bits is.used is.written
  where
    by_bits : (used written : Bool) → has_bit (page_perm + (if used then PTE_A else 0) + (if written then PTE_D else 0)) PTE_P ≡ true
    by_bits true true = refl
    by_bits true false = refl
    by_bits false true = refl
    by_bits false false = refl

-- ---- whether a region has a table

module _ (s : KernelState) (n b : ℕ) (uses : HasOneUse s.spaces) (below : b < CACHE_BLOCKS) where
  abbrev d : ℕ
  d = (slot_at s n).directory

  abbrev region : ℕ
  region = page_of b / NPTENTRIES

  region_small : region < region_limit
  region_small = omega (arith, below)

  region_is : region ≡ DISKMAP / PGSIZE / NPTENTRIES + b / NPTENTRIES
  region_is = omega (arith, below)

  abbrev region_word : ℕ
  region_word = entry_word (option_map region_entry (s.spaces.regions d region))

  region_gives : (load s n (UVPD + 4 * region)).gives ≡ got region_word
  region_gives = ap (λ (z : CallStep ℕ). z.gives) (load_directory_word s n uses region region_small)

  module _ (word : ℕ) (mid : KernelState) (output : Output) (call : IsStep (load s n (UVPD + 4 * region)) (Ok word) mid output) where
    region_kept_there : ViewKept (view_in s n) (view_in mid n)
    region_kept_there =
        let is : mid ≡ with_spaces s (with_region_bit s.spaces d table_index) =
        loaded_state s mid n (UVPD + 4 * region) word output call ∙ ap (with_spaces s) (directory_touched s.spaces d region region_small) in
        subst (λ (t : KernelState). ViewKept (view_in s n) (view_in t n)) (sym is) (region_kept s.spaces d table_index)

    region_tells : is_there word ≡ is_some (s.spaces.regions d (DISKMAP / PGSIZE / NPTENTRIES + b / NPTENTRIES))
    region_tells =
        ap is_there (loaded_word s mid n (UVPD + 4 * region) word output call region_word (load_directory_word s n uses region region_small))
        ∙ region_told (s.spaces.regions d region)
        ∙ ap (λ (r : ℕ). is_some (s.spaces.regions d r)) region_is

    region_read : ReadRegion (view_in s n) (view_in mid n) b word
    region_read = record {
      kept = region_kept_there;
      tells = region_tells;
      none = λ off m same. rows_missing s.spaces d uses (b / NPTENTRIES) m same (sym region_tells ∙ off);
    }

-- ---- the entry of a block's page

module _ (s : KernelState) (n b : ℕ) (uses : HasOneUse s.spaces) (below : b < CACHE_BLOCKS) where
  abbrev dir : ℕ
  dir = (slot_at s n).directory

  abbrev page : ℕ
  page = page_of b

  page_small : page < page_limit
  unfolding page_limit
  page_small = omega (arith, below)

  row_is : block_row s.spaces dir own_addresses b ≡ s.spaces.entries dir page
  row_is = row_below s.spaces dir b below ∙ ap (s.spaces.entries dir) (sym (number_is b below))

  abbrev page_word : ℕ
  page_word = entry_word (s.spaces.entries dir page)

  entry_gives : is_some (s.spaces.regions dir (page / NPTENTRIES)) ≡ true → (load s n (UVPT + 4 * page)).gives ≡ got page_word
  entry_gives there = ap (λ (z : CallStep ℕ). z.gives) (load_table_word s n uses page page_small there)

  module _ (word : ℕ) (mid : KernelState) (output : Output) (call : IsStep (load s n (UVPT + 4 * page)) (Ok word) mid output) where
    there : is_some (s.spaces.regions dir (page / NPTENTRIES)) ≡ true
    there = table_there s.spaces dir page page_small (load_reached s n (UVPT + 4 * page) word call.0)

    entry_kept_there : ViewKept (view_in s n) (view_in mid n)
    entry_kept_there =
        let found = some_is (s.spaces.regions dir (page / NPTENTRIES)) there in
        let is : mid ≡ with_spaces s (with_region_bit s.spaces dir (page / NPTENTRIES)) =
        loaded_state s mid n (UVPT + 4 * page) word output call
        ∙ ap (with_spaces s) (table_touched s.spaces dir page found.0 page_small found.1) in
        subst (λ (t : KernelState). ViewKept (view_in s n) (view_in t n)) (sym is) (region_kept s.spaces dir (page / NPTENTRIES))

    word_by : (o : Option Entry) → block_row s.spaces dir own_addresses b ≡ o → word ≡ entry_word o
    word_by o is =
        loaded_word s mid n (UVPT + 4 * page) word output call page_word (load_table_word s n uses page page_small there)
        ∙ ap entry_word (sym row_is ∙ is)

    entry_read : ((e : Entry) → block_row s.spaces dir own_addresses b ≡ Some e → IsBlockEntry e) →
        ReadEntry (view_in s n) (view_in mid n) b word
    entry_read entries = record {
      kept = entry_kept_there;
      none = λ is. ap is_there (word_by None is);
      some = λ e is. entry_bits e is;
    }
      where
        entry_bits : (e : Entry) → block_row s.spaces dir own_addresses b ≡ Some e →
            (is_there word ≡ true) × (is_written word ≡ has_bit e.perm PTE_D) × (is_used word ≡ has_bit e.perm PTE_A)
        entry_bits e is =
            let small = (uses.small dir page e (sym row_is ∙ is)).1 in
            let at = word_by (Some e) is in (
              ap is_there at ∙ word_has e small PTE_P (omega arith) ∙ block_present e (entries e is),
              ap is_written at ∙ word_has e small PTE_D (omega arith),
              ap is_used at ∙ word_has e small PTE_A (omega arith),
            )

-- ---- what is asked

pub region_is_read : RegionIsRead
region_is_read c files b word mid output server below reply = region_read c.state c.slot b server.in_order.frames below word mid output reply

pub entry_is_read : EntryIsRead
entry_is_read d c files b word place hand mid output server stands below reply =
    entry_read c.state c.slot b server.in_order.frames below word mid output reply (λ e is. stands.entries b e is)

pub loads_give : LoadsGive
loads_give c files b mid output why server below = (
  λ reply. not_stopped (region_word c.state c.slot b uses below) (load c.state c.slot (UVPD + 4 * (page_of b / NPTENTRIES))) why mid output
      (region_gives c.state c.slot b uses below) reply,
  λ table reply. not_stopped (page_word c.state c.slot b uses below) (load c.state c.slot (UVPT + 4 * page_of b)) why mid output
      (entry_gives c.state c.slot b uses below (there table)) reply,
)
  where
    uses : HasOneUse c.state.spaces
    uses = server.in_order.frames

    region_at : page_of b / NPTENTRIES ≡ DISKMAP / PGSIZE / NPTENTRIES + b / NPTENTRIES
    region_at = omega (arith, below)

    there : (view_in c.state c.slot).tables (b / NPTENTRIES) ≡ true →
        is_some (c.state.spaces.regions (slot_at c.state c.slot).directory (page_of b / NPTENTRIES)) ≡ true
    there table = ap (λ (r : ℕ). is_some (c.state.spaces.regions (slot_at c.state c.slot).directory r)) region_at ∙ table
