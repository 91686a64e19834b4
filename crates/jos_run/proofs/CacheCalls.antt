-- A step of the file server's cache, wherever it stands: which call it makes, and that this may be made, as the pages that it takes and maps are those
-- of blocks of the disk; and that it goes on bringing blocks of the disk.
use Rattle.std.proofs.Common.{◌≡◌, ◌∙◌, ◌+◌, ◌-◌, ◌%◌, ◌<◌, ◌≤◌, ◌==◌, ◌&&◌, ◌||◌, ℕ, Bool, true, false, Option, Some, None, Ok, refl}
use Rattle.std.proofs.Common.{sym, ap, subst, arith, nat_le, nat_lt, if◌then◌else◌}
use Rattle.std.specs.Prelude.{is_some}
use Rattle.std.specs.Option.{option_map}
use Rattle.std.proofs.lemmas.Bool.Decides.{nat_tests}
use Rattle.jos_host.specs.declared.host.Failed.{Failed}
use Rattle.jos_host.specs.Files.{Files}
use Rattle.jos_host.specs.Frames.{Around, from_to}
use Rattle.jos_base.specs.declared.numbers.TheConstants.{FDTABLE, NPTENTRIES, SYS_PAGE_ALLOC, SYS_PAGE_MAP, SYS_PAGE_UNMAP}
use Rattle.jos_base.specs.KernelState.{KernelState, slot_at}
use Rattle.jos_base.specs.Reach.{Entry}
use Rattle.jos_base.specs.Words.{page_number}
use Rattle.fs_layout.specs.declared.numbers.TheConstants.{MAXBLOCKS}
use Rattle.lib_os.specs.declared.numbers.TheConstants.{CACHE_BLOCKS, DISKMAP, MAXOPEN, OPEN_RECORDS, REQUEST}
use Rattle.lib_os.specs.declared.user_os.Stop.{Stop}
use Rattle.lib_os.specs.AbstractState.{AbstractState}
use Rattle.lib_os.specs.BlockCache.{block_address}
use Rattle.lib_os.specs.Disk.{Disk, DiskFile}
use Rattle.lib_os.specs.MadeCalls.{IsMade, IsServersCall, UserCall, calls, gave, loads, maps_block, reads_block, takes_block, unmaps_block, writes_block}
use Rattle.lib_os.specs.Rows.{Names, lasting, rows_of}
use Rattle.lib_os.specs.StandsFor.{StandsFor, is_servers_page}
use Rattle.lib_os.specs.UserCalls.{BlockCall, FilesBehindBy, Output, may_write_block}
use Rattle.lib_os.proofs.ServersCalls.{MayCall}
use Rattle.fs_blocks.specs.declared.place.CachePlace.{CachePlace}
use Rattle.fs_blocks.specs.declared.place.CachePlace.TheVariants as at
use Rattle.fs_blocks.specs.declared.plan.CacheAsk.{CacheAsk}
use Rattle.fs_blocks.specs.declared.plan.CacheAsk.TheVariants as ask
use Rattle.fs_blocks.specs.declared.plan.CacheNext.{CacheNext}
use Rattle.fs_blocks.specs.CachePlaces.{block_at}
use Rattle.fs_blocks.specs.CachePlans.{ask_by, ask_entry, ask_map, ask_page, ask_region, ask_unmap, block_of, fetching, flush_from, flushing, further}
use Rattle.fs_blocks.specs.CachePlans.{is_there, is_used, is_written, next_by, pass, rest_of_region, weigh}
use Rattle.fs_cache.specs.CacheStands.{CacheStands, HoldsBlock}
use Rattle.fs_cache.specs.CacheSteps.{FilesAfter, IsReply, caller, of_block}
use Rattle.fs_cache.proofs.CacheBegins.{IsUnderWay}
use Rattle.fs_cache.proofs.Interfaces.{view_in}
use Rattle.fs_cache.proofs.Loads.{number_of, row_below}
use Rattle.jos_run.specs.ServerStands.{BringsOwn}
use Rattle.jos_run.proofs.ServerRows.{LeavesRequestBy}

-- ---- the call

-- It is one that the server makes, and may make.
pub record WellMade (s : KernelState) (a : AbstractState) (disk : DiskFile) (files : Around (Option Files)) (mid : KernelState) (output : Output) : Type 0 where
  pub call : UserCall
  pub own : IsServersCall call
  pub leaves : LeavesRequestBy call own
  pub made : IsMade call s 0 disk files mid output
  pub may : MayCall call own s a

-- the pages of blocks that are there are those of blocks that the disk has
of_blocks : (a b c e f g h : Bool) → a ≡ false → b ≡ false → c ≡ false → (a || b || (c && e && f) || (g && h)) ≡ true → h ≡ true
of_blocks true b c e f g h absent second third is = absurd (let contradiction : true ≡ false = absent in cc)
of_blocks false true c e f g h first absent third is = absurd (let contradiction : true ≡ false = absent in cc)
of_blocks false false true e f g h first second absent is = absurd (let contradiction : true ≡ false = absent in cc)
of_blocks false false false e f true h first second third is = is
of_blocks false false false e f false h first second third is = absurd (let contradiction : false ≡ true = is in cc)

module _ {names : Names} {s : KernelState} {a : AbstractState} (h : StandsFor names s a) (few : a.files.blocks ≤ MAXBLOCKS) (disk : DiskFile)
    (files : Around (Option Files)) (mid : KernelState) (output : Output) where
  abbrev Made : Type 0
  Made = WellMade s a disk files mid output

  within : (b : ℕ) → block_of b < CACHE_BLOCKS
  within b = omega arith

  block_there : (b : ℕ) (e : Entry) → b < CACHE_BLOCKS → (view_in s 0).row b ≡ Some e → b < a.files.blocks
  unfolding rows_of
  block_there b e below is =
      let p : ℕ = number_of b in
      let there : s.spaces.entries (slot_at s 0).directory p ≡ Some e = sym (row_below s.spaces (slot_at s 0).directory b below) ∙ is in
      let some : is_some (rows_of s.spaces (slot_at s 0).directory p) ≡ true = ap (λ (o : Option Entry). is_some (option_map lasting o)) there in
      let may : is_servers_page a.opened a.files.blocks p ≡ true = h.server.pages p some in
      let no_request : (p == page_number REQUEST) ≡ false = grind (arith, nat_tests) in
      let no_records : (p == page_number OPEN_RECORDS) ≡ false = grind (arith, nat_tests) in
      let no_place : nat_le (page_number FDTABLE) p ≡ false = grind (arith, nat_tests) in
      let last : nat_lt p (page_number DISKMAP + a.files.blocks) ≡ true =
      of_blocks (p == page_number REQUEST) (p == page_number OPEN_RECORDS) (nat_le (page_number FDTABLE) p) (nat_lt p (page_number FDTABLE + MAXOPEN))
      (a.opened (p - page_number FDTABLE)).used (nat_le (page_number DISKMAP) p) (nat_lt p (page_number DISKMAP + a.files.blocks)) no_request no_records
      no_place may in
      let small : p < page_number DISKMAP + a.files.blocks = grind (arith, nat_tests) in
      omega (arith, small)

  its_own : (b : ℕ) → b < a.files.blocks → block_of b < a.files.blocks
  its_own b below = omega (arith, below, few)

  module _ (word : ℕ) where
    abbrev Replied : CacheAsk → Type 0
    Replied x = IsReply x (caller s 0 disk) files.before (Ok word) mid output

    abbrev Behind : CacheAsk → Type 0
    Behind x = FilesAfter x (caller s 0 disk) (Ok word) files

    region : (b : ℕ) → Replied (ask_region b) → Behind (ask_region b) → Made
    region b reply same = record { call = loads _; own = omega arith; leaves = tt; made = (gave word reply, same); may = (word, reply.0) }

    entry : (b : ℕ) → Replied (ask_entry b) → Behind (ask_entry b) → Made
    entry b reply same = record { call = loads _; own = omega arith; leaves = tt; made = (gave word reply, same); may = (word, reply.0) }

    page : (b : ℕ) → b < a.files.blocks → Replied (ask_page b) → Behind (ask_page b) → Made
    page b below reply same = record {
      call = calls SYS_PAGE_ALLOC _;
      own = takes_block (block_of b) (within b);
      leaves = tt;
      made = (reply.0, reply.2, same);
      may = (its_own b below, few);
    }

    map : (from to : ℕ) → to < a.files.blocks → Replied (ask_map from to) → Behind (ask_map from to) → Made
    map from to below reply same = record {
      call = calls SYS_PAGE_MAP _;
      own = maps_block (block_of from) (block_of to) (within from) (within to);
      leaves = tt;
      made = (reply.0, reply.2, same);
      may = (its_own to below, few);
    }

    unmap : (b : ℕ) → Replied (ask_unmap b) → Behind (ask_unmap b) → Made
    unmap b reply same = record {
      call = calls SYS_PAGE_UNMAP _;
      own = unmaps_block (block_of b) (within b);
      leaves = tt;
      made = (reply.0, reply.2, same);
      may = tt;
    }

    read : (b : ℕ) → Replied (ask.ReadBlock (block_of b)) → Behind (ask.ReadBlock (block_of b)) → Made
    read b reply same = record {
      call = reads_block (block_of b) (block_address (block_of b));
      own = (within b, refl);
      leaves = tt;
      made = (word, reply.0, reply.1, same);
      may = tt;
    }

    -- whether the host failed is told alike of a call that was not stopped
    not_failed : (old : Option Files) (t : Bool) (call : BlockCall) → FilesBehindBy {E = Stop} t call (Ok word) (from_to old files.after) →
        FilesBehindBy {E = Failed} t call (Ok word) (from_to old files.after)
    not_failed None true call told = told
    not_failed (Some old) true call told = told
    not_failed old false call told = told

    sent : (b : ℕ) → Replied (ask.WriteBlock (block_of b)) → Behind (ask.WriteBlock (block_of b)) → Made
    sent b reply told =
        let block : BlockCall = of_block (caller s 0 disk) (block_of b) in
        record {
          call = writes_block (block_of b) (block_address (block_of b));
          own = (within b, refl);
          leaves = tt;
          made = (word, reply.0, reply.1, not_failed files.before (may_write_block block) block told);
          may = tt;
        }

    module _ (d : Disk) (count : a.files.blocks ≡ d.count) where
      -- a page is taken for a block of the disk, and mapped where one is there
      counted : (b : ℕ) → b < d.count → b < a.files.blocks
      counted b below = subst (λ (n : ℕ). b < n) (sym count) below

      holds : (b : ℕ) → b < CACHE_BLOCKS → HoldsBlock d (view_in s 0) b → b < a.files.blocks
      holds b below it = block_there b it.entry below it.stands

      pub cache_made : (place : CachePlace) (hand : ℕ) → CacheStands d (view_in s 0) place hand → IsUnderWay place → BringsOwn d place →
          Replied (ask_by place hand) → Behind (ask_by place hand) → Made
      cache_made at.Resting hand c goes brings reply same = absurd goes
      cache_made (at.Found b) hand c goes brings reply same = absurd goes
      cache_made (at.LookingRegion b) hand c goes brings reply same = region b reply same
      cache_made (at.LookingPage b) hand c goes brings reply same = entry b reply same
      cache_made (at.Taking b) hand c goes brings reply same = page b (counted b brings) reply same
      cache_made (at.Filling b) hand c goes brings reply same = read b reply same
      cache_made (at.Settling b) hand c goes brings reply same = map b b (counted b brings) reply same
      cache_made (at.HandRegion b left) hand c goes brings reply same = region hand reply same
      cache_made (at.HandPage b left) hand c goes brings reply same = entry hand reply same
      cache_made (at.WritingBack b) hand c goes brings reply same = sent hand reply same
      cache_made (at.Passing b) hand c goes brings reply same = map hand hand (holds hand c.hand_below c.at.0.at_hand) reply same
      cache_made (at.Moving b) hand c goes brings reply same = map hand b (counted b brings) reply same
      cache_made (at.Leaving b) hand c goes brings reply same = unmap hand reply same
      cache_made (at.Freeing b) hand c goes brings reply same = unmap hand reply same
      cache_made (at.TakingLast b) hand c goes brings reply same = page b (counted b brings) reply same
      cache_made (at.FlushRegion b) hand c goes brings reply same = region b reply same
      cache_made (at.FlushPage b) hand c goes brings reply same = entry b reply same
      cache_made (at.FlushWriting b) hand c goes brings reply same = sent b reply same
      cache_made (at.FlushSettling b) hand c goes brings reply same = map b b (holds b c.block_below c.at.1) reply same

-- ---- where it goes

-- Its place is one that its words tell, and brings a block of the disk.
pub record GoesOnBringing (d : Disk) (next : CacheNext) : Type 0 where
  pub block_below : block_at next.state.place < CACHE_BLOCKS
  pub hand_below : next.state.hand < CACHE_BLOCKS
  pub brings : BringsOwn d next.state.place

module _ (d : Disk) where
  abbrev Well : CacheNext → Type 0
  Well next = GoesOnBringing d next

  by_test : (t : Bool) (x y : CacheNext) → (t ≡ true → Well x) → (t ≡ false → Well y) → Well (if t then x else y)
  by_test true x y first second = first refl
  by_test false x y first second = second refl

  to_hand : (hand blocks : ℕ) → further hand blocks < CACHE_BLOCKS
  to_hand hand blocks = omega arith

  well_flush : (block hand : ℕ) → hand < CACHE_BLOCKS → Well (flush_from block hand)
  well_flush block hand hand_below =
      by_test (nat_le CACHE_BLOCKS block) _ _ (λ is. record { block_below = omega arith; hand_below = hand_below; brings = tt })
      (λ more. let below : block < CACHE_BLOCKS = grind (arith, nat_tests) in
      by_test (block % NPTENTRIES == 0) _ _ (λ is. record { block_below = below; hand_below = hand_below; brings = tt })
      (λ is. record { block_below = below; hand_below = hand_below; brings = tt }))

  module _ (b hand : ℕ) (below : b < CACHE_BLOCKS) (hand_below : hand < CACHE_BLOCKS) (own : b < d.count) where
    well_pass : (left blocks : ℕ) → Well (pass b hand left blocks)
    well_pass left blocks =
        by_test (nat_le left blocks) _ _ (λ is. record { block_below = below; hand_below = to_hand hand blocks; brings = own })
        (λ more. by_test (further hand blocks % NPTENTRIES == 0) _ _
        (λ is. record { block_below = below; hand_below = to_hand hand blocks; brings = own })
        (λ is. record { block_below = below; hand_below = to_hand hand blocks; brings = own }))

    well_weigh : (word : ℕ) → Well (weigh b hand word)
    well_weigh word =
        by_test (is_written word) _ _ (λ is. record { block_below = below; hand_below = hand_below; brings = own })
        (λ clean. by_test (is_used word) _ _ (λ is. record { block_below = below; hand_below = hand_below; brings = own })
        (λ is. record { block_below = below; hand_below = hand_below; brings = own }))

  pub goes_on_bringing : (place : CachePlace) (hand word : ℕ) → block_at place < CACHE_BLOCKS → hand < CACHE_BLOCKS → IsUnderWay place → BringsOwn d place →
      Well (next_by place hand word)
  goes_on_bringing at.Resting hand word below hand_below goes own = absurd goes
  goes_on_bringing (at.Found b) hand word below hand_below goes own = absurd goes
  goes_on_bringing (at.LookingRegion b) hand word below hand_below goes own =
      by_test (is_there word) _ _ (λ is. record { block_below = below; hand_below = hand_below; brings = own })
      (λ is. record { block_below = below; hand_below = hand_below; brings = own })
  goes_on_bringing (at.LookingPage b) hand word below hand_below goes own =
      by_test (is_there word) _ _ (λ is. record { block_below = below; hand_below = hand_below; brings = tt })
      (λ is. record { block_below = below; hand_below = hand_below; brings = own })
  goes_on_bringing (at.Taking b) hand word below hand_below goes own =
      by_test (word == 0) _ _ (λ is. record { block_below = below; hand_below = hand_below; brings = own })
      (λ is. record { block_below = below; hand_below = hand_below; brings = own })
  goes_on_bringing (at.Filling b) hand word below hand_below goes own = record { block_below = below; hand_below = hand_below; brings = own }
  goes_on_bringing (at.Settling b) hand word below hand_below goes own = record { block_below = below; hand_below = hand_below; brings = tt }
  goes_on_bringing (at.HandRegion b left) hand word below hand_below goes own =
      by_test (is_there word) _ _ (λ is. record { block_below = below; hand_below = hand_below; brings = own })
      (λ is. well_pass b hand below hand_below own left (rest_of_region hand))
  goes_on_bringing (at.HandPage b left) hand word below hand_below goes own =
      by_test (is_there word) _ _ (λ is. well_weigh b hand below hand_below own word) (λ is. well_pass b hand below hand_below own left 1)
  goes_on_bringing (at.WritingBack b) hand word below hand_below goes own = record { block_below = below; hand_below = hand_below; brings = own }
  goes_on_bringing (at.Passing b) hand word below hand_below goes own = record { block_below = below; hand_below = to_hand hand 1; brings = own }
  goes_on_bringing (at.Moving b) hand word below hand_below goes own =
      by_test (word == 0) _ _ (λ is. record { block_below = below; hand_below = hand_below; brings = own })
      (λ is. record { block_below = below; hand_below = hand_below; brings = own })
  goes_on_bringing (at.Leaving b) hand word below hand_below goes own = record { block_below = below; hand_below = to_hand hand 1; brings = own }
  goes_on_bringing (at.Freeing b) hand word below hand_below goes own = record { block_below = below; hand_below = to_hand hand 1; brings = own }
  goes_on_bringing (at.TakingLast b) hand word below hand_below goes own =
      by_test (word == 0) _ _ (λ is. record { block_below = below; hand_below = hand_below; brings = own })
      (λ is. record { block_below = omega arith; hand_below = hand_below; brings = tt })
  goes_on_bringing (at.FlushRegion b) hand word below hand_below goes own =
      by_test (is_there word) _ _ (λ is. record { block_below = below; hand_below = hand_below; brings = tt })
      (λ is. well_flush (block_of b + rest_of_region b) hand hand_below)
  goes_on_bringing (at.FlushPage b) hand word below hand_below goes own =
      by_test (is_there word && is_written word) _ _ (λ is. record { block_below = below; hand_below = hand_below; brings = tt })
      (λ is. well_flush (block_of b + 1) hand hand_below)
  goes_on_bringing (at.FlushWriting b) hand word below hand_below goes own = record { block_below = below; hand_below = hand_below; brings = tt }
  goes_on_bringing (at.FlushSettling b) hand word below hand_below goes own = well_flush (block_of b + 1) hand hand_below

  -- ---- where it begins

  pub fetch_brings : (place : CachePlace) (block : ℕ) → block < d.count → BringsOwn d place → BringsOwn d (fetching place block)
  fetch_brings at.Resting block own brings = own
  fetch_brings (at.Found b) block own brings = own
  fetch_brings (at.LookingRegion b) block own brings = brings
  fetch_brings (at.LookingPage b) block own brings = brings
  fetch_brings (at.Taking b) block own brings = brings
  fetch_brings (at.Filling b) block own brings = brings
  fetch_brings (at.Settling b) block own brings = brings
  fetch_brings (at.HandRegion b left) block own brings = brings
  fetch_brings (at.HandPage b left) block own brings = brings
  fetch_brings (at.WritingBack b) block own brings = brings
  fetch_brings (at.Passing b) block own brings = brings
  fetch_brings (at.Moving b) block own brings = brings
  fetch_brings (at.Leaving b) block own brings = brings
  fetch_brings (at.Freeing b) block own brings = brings
  fetch_brings (at.TakingLast b) block own brings = brings
  fetch_brings (at.FlushRegion b) block own brings = own
  fetch_brings (at.FlushPage b) block own brings = own
  fetch_brings (at.FlushWriting b) block own brings = own
  fetch_brings (at.FlushSettling b) block own brings = own

  pub flush_brings : (place : CachePlace) → BringsOwn d place → BringsOwn d (flushing place)
  flush_brings at.Resting brings = tt
  flush_brings (at.Found b) brings = tt
  flush_brings (at.LookingRegion b) brings = brings
  flush_brings (at.LookingPage b) brings = brings
  flush_brings (at.Taking b) brings = brings
  flush_brings (at.Filling b) brings = brings
  flush_brings (at.Settling b) brings = brings
  flush_brings (at.HandRegion b left) brings = brings
  flush_brings (at.HandPage b left) brings = brings
  flush_brings (at.WritingBack b) brings = brings
  flush_brings (at.Passing b) brings = brings
  flush_brings (at.Moving b) brings = brings
  flush_brings (at.Leaving b) brings = brings
  flush_brings (at.Freeing b) brings = brings
  flush_brings (at.TakingLast b) brings = brings
  flush_brings (at.FlushRegion b) brings = brings
  flush_brings (at.FlushPage b) brings = brings
  flush_brings (at.FlushWriting b) brings = brings
  flush_brings (at.FlushSettling b) brings = brings
