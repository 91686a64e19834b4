-- A step of the job leaves the table of open files: its call is one of the cache's, or an access to the page of a block or of the request.
use Rattle.std.proofs.Common.{◌≡◌, ◌≢◌, ◌∙◌, ◌+◌, ◌-◌, ◌%◌, ◌<◌, ◌≤◌, ℕ, true, List, [], ◌∷◌, Option, Some, None, Result, Ok, Err}
use Rattle.std.proofs.Common.{refl, sym, ap, arith}
use Rattle.std.proofs.lemmas.Option.{none-some}
use Rattle.std.specs.Int.{w32, to_le_bytes}
use Rattle.jos_host.specs.Files.{Files}
use Rattle.jos_base.specs.declared.memory.Access.{Access}
use Rattle.jos_base.specs.declared.memory.Access.TheVariants.{Read, Write}
use Rattle.jos_base.specs.declared.memory.PageFault.{PageFault}
use Rattle.jos_base.specs.declared.numbers.TheConstants.{PGSIZE}
use Rattle.jos_base.specs.Counting.{page_limit}
use Rattle.jos_base.specs.Environments.{Slot}
use Rattle.jos_base.specs.KernelState.{KernelState, slot_at}
use Rattle.jos_base.specs.Reach.{Entry, FrameOffset}
use Rattle.jos_base.specs.SpacesState.{reference_count}
use Rattle.jos_base.specs.SystemCalls.{handled}
use Rattle.jos_base.specs.UserMemory.{reach_in}
use Rattle.jos_base.specs.Words.{page_number, page_offset}
use Rattle.lib_os.specs.declared.numbers.TheConstants.{CACHE_BLOCKS, REQUEST}
use Rattle.lib_os.specs.BlockCache.{block_address}
use Rattle.lib_os.specs.Disk.{Disk, DiskFile, disk_in}
use Rattle.lib_os.specs.InOrder.{HasOneUse}
use Rattle.lib_os.specs.MadeCalls.{is_server_page}
use Rattle.lib_os.specs.UserCalls.{CallStep, IsStep, Output, accessing, faulting, giving, gone, got, load, load_byte, store, store_byte, to_handler}
use Rattle.lib_os.specs.UserCalls.{user_byte, user_word, with_bytes_put, with_user_byte}
use Rattle.lib_os.proofs.BytesPut.{put_is}
use Rattle.fs_cache.specs.CacheStands.{IsBlockEntry}
use Rattle.fs_cache.specs.CacheSteps.{cache_state, caller, fetch_state}
use Rattle.fs_cache.proofs.CacheBegins.{fetch_goes, fetch_stands}
use Rattle.fs_cache.proofs.CacheLaw.{server_of}
use Rattle.fs_cache.proofs.Interfaces.{view_in}
use Rattle.fs_cache.proofs.Loads.{number_below, number_of, row_below}
use Rattle.fs_jobs.specs.declared.asks.TreeAsk.{TreeAsk}
use Rattle.fs_jobs.specs.declared.asks.TreeAsk.TheVariants as ask
use Rattle.fs_jobs.specs.TreeTests.{low_byte}
use Rattle.fs_tree.specs.TreeMakes.{IsAccess, IsTreeCall, IsTreeStep, asks_block, asks_request, fetches}
use Rattle.fs_tree.specs.TreeSteps.{TreeAt}
use Rattle.fs_tree.proofs.TiesBlocks.{found_entry, found_stands, request_low, request_number}
use Rattle.fs_tree.proofs.TiesLaw.{access_slot}
use Rattle.fs_tree.proofs.TiesPages.{byte_loaded, byte_stored, word_loaded, word_stored}
use Rattle.fs_seen.specs.ServerMemory.{HasFileTable, entry_of, is_table_page, request_page}
use Rattle.fs_seen.proofs.CacheLeaves.{CacheLeaves, step_leaves}
use Rattle.fs_seen.proofs.CallsLeave.{LeavesCall, by_access}
use Rattle.fs_seen.proofs.Changes.{block_server, request_server, table_no_block, table_no_request}
use Rattle.fs_seen.proofs.OneEntry.{uses_put, uses_touched}
use Rattle.fs_seen.proofs.TableLeft.{LeavesRest, LeavesTable}

-- ---- what an access leaves that gives its word

module _ {X : Type 0} (s : KernelState) (n va : ℕ) (access : Access) (then_does : KernelState → CallStep X)
    (keeps : (after : KernelState) → (then_does after).state.spaces.uses ≡ after.spaces.uses) (x : X) where
  by_handler : (fault : PageFault) (o : Option KernelState) → (faulting {X = X} s n fault o).gives ≡ got x → ⊥
  by_handler fault (Some after) e = let contradiction : to_handler ≡ got x = e in cc
  by_handler fault None e = let contradiction : gone ≡ got x = e in cc

  accessing_uses : (r : Result FrameOffset PageFault) → (accessing s n va access then_does r).gives ≡ got x →
      (accessing s n va access then_does r).state.spaces.uses ≡ s.spaces.uses
  accessing_uses (Ok location) gives = keeps _ ∙ uses_touched s.spaces (slot_at s n).directory va access
  accessing_uses (Err fault) gives = absurd (by_handler fault (handled s n fault) gives)

put_keeps : (s : KernelState) (n va : ℕ) (bytes : List ℕ) → (with_bytes_put s n va bytes).spaces.uses ≡ s.spaces.uses
put_keeps s n va bytes = ap (λ (m : KernelState). m.spaces.uses) (put_is s n va bytes) ∙ uses_put s.spaces (slot_at s n).directory va bytes

module _ (s mid : KernelState) (n va : ℕ) (output : Output) where
  abbrev Same : Type 0
  Same = mid.spaces.uses ≡ s.spaces.uses

  word_loads : (w : ℕ) → IsStep (load s n va) (Ok w) mid output → Same
  unfolding load
  word_loads w call =
      ap (λ (m : KernelState). m.spaces.uses) call.1
      ∙ accessing_uses s n va Read (λ after. giving after (user_word after n va)) (λ after. refl) w
      (reach_in s.spaces (slot_at s n).directory va Read) call.0

  byte_loads : (w : ℕ) → IsStep (load_byte s n va) (Ok w) mid output → Same
  unfolding load_byte
  byte_loads w call =
      ap (λ (m : KernelState). m.spaces.uses) call.1
      ∙ accessing_uses s n va Read (λ after. giving after (user_byte after n va)) (λ after. refl) w
      (reach_in s.spaces (slot_at s n).directory va Read) call.0

  word_stores : (value : ℕ) → IsStep (store s n va value) (Ok tt) mid output → Same
  unfolding store
  word_stores value call =
      ap (λ (m : KernelState). m.spaces.uses) call.1
      ∙ accessing_uses {X = Unit {0}} s n va Write (λ after. giving (with_bytes_put after n va (to_le_bytes w32 value)) tt)
      (λ after. put_keeps after n va (to_le_bytes w32 value)) tt (reach_in s.spaces (slot_at s n).directory va Write) call.0

  byte_stores : (value : ℕ) → IsStep (store_byte s n va value) (Ok tt) mid output → Same
  unfolding store_byte
  byte_stores value call =
      ap (λ (m : KernelState). m.spaces.uses) call.1
      ∙ accessing_uses {X = Unit {0}} s n va Write (λ after. giving (with_user_byte after n va value) tt)
      (λ after. put_keeps after n va (value ∷ [])) tt (reach_in s.spaces (slot_at s n).directory va Write) call.0

-- ---- an access to another page of the server's

module _ (s mid : KernelState) (n : ℕ) (uses : HasOneUse s.spaces) (k : HasFileTable s n) (p : ℕ) (own : is_server_page p ≡ true)
    (lone : (q : ℕ) → is_table_page q ≡ true → q ≢ p) (lacks_it : entry_of s n request_page ≡ None → request_page ≢ p) (low : p < page_limit) (e : Entry) (stands : entry_of s n p ≡ Some e) (is : IsBlockEntry e)
    (va : ℕ) (at : page_number va ≡ p) (output : Output) where
  abbrev word_va : ℕ
  word_va = va - va % 4

  word_at_page : page_number word_va ≡ p
  word_at_page = omega (arith, at)

  word_fits : page_offset word_va + 4 ≤ PGSIZE
  word_fits = omega arith

  byte_fits : page_offset va + 1 ≤ PGSIZE
  byte_fits = omega arith

  byte_read : (w : ℕ) → IsStep (load_byte s n va) (Ok w) mid output → LeavesCall s mid n
  byte_read w call =
      by_access s n uses k p own lone lacks_it low mid e _ stands (byte_loaded s n p e low stands is va at mid output (Ok w) call).1
      (byte_loads s mid n va output w call)

  byte_written : (value : ℕ) → IsStep (store_byte s n va value) (Ok tt) mid output → LeavesCall s mid n
  byte_written value call =
      by_access s n uses k p own lone lacks_it low mid e _ stands (byte_stored s n p e low stands is va at mid output value byte_fits (Ok tt) call).1
      (byte_stores s mid n va output value call)

  pub access_left : (a : TreeAsk) (w : ℕ) → IsAccess a va s n (Ok w) mid output → LeavesCall s mid n
  access_left (ask.Load place) w call =
      by_access s n uses k p own lone lacks_it low mid e _ stands
      (word_loaded s n p e low stands is word_va word_at_page mid output word_fits (Ok w) call).1 (word_loads s mid n word_va output w call)
  access_left (ask.LoadByte place) w call = byte_read w call
  access_left (ask.Store place value) w call =
      by_access s n uses k p own lone lacks_it low mid e _ stands
      (word_stored s n p e low stands is word_va word_at_page mid output value word_fits (Ok tt) call.1).1
      (word_stores s mid n word_va output value call.1)
  access_left (ask.StoreByte place value) w call = byte_written (low_byte value) call.1
  access_left (ask.Request place) w call = byte_read w call
  access_left (ask.HandBack place value) w call = byte_written (low_byte value) call.1

-- ---- the step

module _ (disk : DiskFile) (before now : Files) (s : KernelState) (n : ℕ) (h : TreeAt (disk_in before disk) s n) (k : HasFileTable s n) where
  abbrev d : Disk
  d = disk_in before disk

  abbrev uses : HasOneUse s.spaces
  uses = h.cache.in_order.frames

  abbrev dir : ℕ
  dir = (slot_at s n).directory

  -- what its call leaves
  abbrev Left : KernelState → Type 0
  Left mid = LeavesTable s mid n × ((slot_at mid n).directory ≡ dir)

  call_left : (a : TreeAsk) (mid : KernelState) (output : Output) → IsTreeCall a disk before now s mid n output → Left mid
  call_left a mid output (fetches block told below done) =
      let left : CacheLeaves s mid n =
      step_leaves d (caller s n disk) (server_of d s n h.cache) (fetch_state s n block) before (Some now) told mid output k h.cache.words
      (fetch_stands d (view_in s n) (cache_state s n).place (cache_state s n).hand block below.0 h.cache.stands)
      (fetch_goes (cache_state s n).place block) done in
      (left.table, left.directory)
  call_left a mid output (asks_block block at word small found call) =
      let stands = found_stands d s n block h found in
      let below : block < CACHE_BLOCKS = stands.block_below in
      let entry = found_entry d s n block h found in
      let there : entry_of s n (number_of block) ≡ Some entry.0 = sym (row_below s.spaces dir block below) ∙ entry.1 in
      let number : page_number (block_address block + at) ≡ number_of block = omega (arith, small) in (
        (access_left s mid n uses k (number_of block) (block_server block below) (λ q is. table_no_block q block is below)
            (λ none same. absurd (omega (arith, same))) (number_below block below)
            entry.0 there (stands.entries block entry.0 entry.1) (block_address block + at) number output a word call).table,
        ap (λ (x : Slot). x.directory) (access_slot a s mid n (block_address block + at) word output call),
      )
  call_left a mid output (asks_request place at word is small call) =
      let number : page_number (REQUEST + at) ≡ request_number = omega (arith, small) in (
        (access_left s mid n uses k request_number request_server table_no_request
            (λ none. absurd (none-some h.request.entry (sym none ∙ h.request.stands))) request_low h.request.entry h.request.stands h.request.bits
            (REQUEST + at) number output a word call).table,
        ap (λ (x : Slot). x.directory) (access_slot a s mid n (REQUEST + at) word output call),
      )

  pub job_leaves : {a : TreeAsk} (after : KernelState) → IsTreeStep a disk before now s after n → LeavesRest s after n
  job_leaves {a = a} after it = record { table = table_now; rest = it.rest }
    where
      left : Left it.mid
      left = call_left a it.mid it.output it.call

      same : (slot_at after n).directory ≡ (slot_at it.mid n).directory
      same = ap (λ (x : Slot). x.directory) it.rest.slot ∙ sym left.1

      entries_same : (p : ℕ) → entry_of after n p ≡ entry_of it.mid n p
      entries_same p i = (it.spaces i).entries (same i) p

      table_now : LeavesTable s after n
      table_now = record {
        entries = λ p is. entries_same p ∙ left.0.entries p is;
        bytes = λ p x is there. (λ i. (it.spaces i).pages x.frame) ∙ left.0.bytes p x is there;
        counts = λ p x is there. (λ i. reference_count (it.spaces i) x.frame) ∙ left.0.counts p x is there;
        apart = λ p q x y is own x_is y_is. left.0.apart p q x y is own x_is (sym (entries_same q) ∙ y_is);
        lacks = λ none. entries_same request_page ∙ left.0.lacks none;
      }
