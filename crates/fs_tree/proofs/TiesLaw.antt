-- From a call that a job's step makes to what the step tells.
use Rattle.std.proofs.Common.{◌≡◌, ◌∙◌, ◌⊎◌, inl, inr, ◌+◌, ◌-◌, ◌*◌, ◌/◌, ◌%◌, ◌<◌, ◌≤◌, ◌^◌, ℕ, true, false, List, [], ◌∷◌, ◌++◌, Option, Some, None, Result, Ok, Err}
use Rattle.std.proofs.Common.{refl, sym, ap, subst, arith}
use Rattle.std.specs.Prelude.{drop, min}
use Rattle.std.specs.Option.{option_map}
use Rattle.std.specs.Int.{w32, to_le_bytes}
use Rattle.jos_host.specs.declared.host.Failed.{Failed}
use Rattle.jos_host.specs.Files.{Files}
use Rattle.jos_host.specs.Frames.{Around, from_to}
use Rattle.jos_base.specs.declared.memory.Access.{Access}
use Rattle.jos_base.specs.declared.memory.Access.TheVariants.{Read, Write}
use Rattle.jos_base.specs.declared.memory.PageFault.{PageFault}
use Rattle.jos_base.specs.declared.numbers.TheConstants.{E_NO_MEM, PGSIZE}
use Rattle.jos_base.specs.declared.registers.Regs.{Regs}
use Rattle.jos_base.specs.Environments.{Environments, Slot, is_live}
use Rattle.jos_base.specs.KernelState.{KernelState, slot_at, with_extra, with_registers}
use Rattle.jos_base.specs.Reach.{FrameOffset}
use Rattle.jos_base.specs.SystemCalls.{handled}
use Rattle.jos_base.specs.UserMemory.{reach_in}
use Rattle.jos_base.specs.Words.{negated}
use Rattle.fs_layout.specs.declared.numbers.TheConstants.{BLKSIZE, MAXBLOCKS}
use Rattle.lib_os.specs.declared.numbers.TheConstants.{CACHE_BLOCKS}
use Rattle.lib_os.specs.declared.user_os.Stop.{Stop}
use Rattle.lib_os.specs.declared.user_os.Stop.TheVariants as stop
use Rattle.lib_os.specs.BlockCache.{block_address}
use Rattle.lib_os.specs.Disk.{Disk, DiskFile, disk_in}
use Rattle.lib_os.specs.InOrder.{IsInOrder}
use Rattle.lib_os.specs.Rows.{EntryRow}
use Rattle.lib_os.specs.MadeCalls.{SetsWords}
use Rattle.lib_os.specs.UserCalls.{CallStep, IsStep, Output, Prints, PrintsPart, accessing, faulting, giving, gone, got, to_handler, load, load_byte, store, store_byte}
use Rattle.lib_os.specs.UserCalls.{user_byte, user_word, with_bytes_put, with_user_byte}
use Rattle.lib_os.proofs.BytesPut.{put_is}
use Rattle.lib_os.proofs.CallsMade.{sets_twice}
use Rattle.lib_os.proofs.Slots.{slot_put}
use Rattle.lib_os.proofs.SlotsSet.{both_set, set_live}
use Rattle.fs_blocks.specs.declared.place.CachePlace.{CachePlace}
use Rattle.fs_blocks.specs.declared.place.CachePlace.TheVariants as cached_place
use Rattle.fs_blocks.specs.declared.place.CacheState.{CacheState}
use Rattle.fs_blocks.specs.declared.plan.Told.{Told}
use Rattle.fs_cache.specs.declared.steps.Cached.TheVariants as cached
use Rattle.fs_blocks.specs.CachePlaces.{state_in as cache_in, with_state}
use Rattle.fs_blocks.specs.CachePlans.{ask_at as asked_at, next_at as cache_next}
use Rattle.fs_cache.specs.CacheSteps.{Caller, ComesOn, FetchTold, HasGone, IsBlockStep, IsReady, KeepsCacheWhereDone, WasRefused}
use Rattle.fs_cache.specs.CacheSteps.{as_cached, by_word, cache_state, cached_count, fetch_state, left_in, row_in, stopped}
use Rattle.fs_cache.specs.CacheSteps.{used_count, wait_left}
use Rattle.fs_cache.proofs.CacheBegins.{own_ask}
use Rattle.fs_cache.proofs.Callers.{caller_stays}
use Rattle.fs_jobs.specs.declared.asks.TreeAsk.{TreeAsk}
use Rattle.fs_jobs.specs.declared.asks.TreeAsk.TheVariants as ask
use Rattle.fs_jobs.specs.declared.asks.TreeNext.TheVariants.{Answer, GoOn}
use Rattle.fs_jobs.specs.declared.place.TreeState.{TreeState}
use Rattle.fs_tree.specs.declared.steps.Acted.{Acted}
use Rattle.fs_tree.specs.declared.steps.Acted.TheVariants as acted
use Rattle.fs_tree.specs.declared.steps.Done.{Done}
use Rattle.fs_tree.specs.declared.steps.Done.TheVariants as done
use Rattle.lib_os.specs.declared.numbers.TheConstants.{REQUEST}
use Rattle.fs_jobs.specs.TreeBounds.{is_bounded}
use Rattle.fs_tree.specs.TreeMakes.{CallsWhereInside, CallsWhereTold, DoesWhereTold, HasDone, IsAccess, IsOfDisk, IsOfRequest, IsStored, IsTreeStep, LeavesWhereInside}
use Rattle.fs_tree.specs.TreeMakes.{asks_block, asks_request, fetches, going, no_page, word}
use Rattle.fs_places.specs.TreePlaces.{registers_with, state_in, words_with}
use Rattle.fs_places.proofs.TreeWords.{last_four}
use Rattle.fs_runs.specs.TreePlans.{ask_at, next_at}
use Rattle.fs_runs.specs.TreeRuns.{IsInside, memory_after, reply_of}
use Rattle.fs_tree.specs.TreeSteps.{AccessComes, AccessReady, HasFound, IsLawful, IsWaiting, KeepsRest, LeavesCache, QuietWhereTold, RestWhereTold}
use Rattle.fs_tree.specs.TreeSteps.{StepsWhereTold, TreeAt}
use Rattle.fs_tree.specs.TreeSteps.{access_left, answers}
use Rattle.fs_tree.specs.TreeSteps.{block_left, block_wanted, goes, is_of_disk, job_in, lacks, memory_in, waits}
use Rattle.fs_jobs.specs.TreeTests.{low_byte}
use Rattle.fs_tree.proofs.AccessMade.{job_sets}
use Rattle.fs_tree.proofs.TiesMemory.{HasMade, load_byte_made, load_made, store_byte_made, store_made}
use Rattle.fs_tree.proofs.TiesRequest.{hand_back_made, request_made}
use Rattle.fs_tree.proofs.TiesSteps.{step_failed, step_leaves, step_waits}
use Rattle.fs_tree.proofs.TiesWords.{rest_same, rest_set, state_set}

-- ---- what an access leaves that gives its word

-- The environments stay, whatever state the access was made in, and nothing is printed.
module _ {X : Type 0} (s : KernelState) (n va : ℕ) (access : Access) (then_does : KernelState → CallStep X)
    (keeps : (after : KernelState) → (then_does after).state.environments ≡ after.environments) (quiet : (after : KernelState) → (then_does after).written ≡ [])
    (x : X) where
  by_handler : (fault : PageFault) (o : Option KernelState) → (faulting {X = X} s n fault o).gives ≡ got x → ⊥
  by_handler fault (Some after) e = let contradiction : to_handler ≡ got x = e in cc
  by_handler fault None e = let contradiction : gone ≡ got x = e in cc

  accessing_leaves : (r : Result FrameOffset PageFault) → (accessing s n va access then_does r).gives ≡ got x →
      ((accessing s n va access then_does r).state.environments ≡ s.environments) × ((accessing s n va access then_does r).written ≡ [])
  accessing_leaves (Ok location) gives = (keeps _, quiet _)
  accessing_leaves (Err fault) gives = absurd (by_handler fault (handled s n fault) gives)

put_leaves : (s : KernelState) (n va : ℕ) (bytes : List ℕ) → (with_bytes_put s n va bytes).environments ≡ s.environments
put_leaves s n va bytes = ap (λ (k : KernelState). k.environments) (put_is s n va bytes)

module _ (s mid : KernelState) (n va : ℕ) (output : Output) where
  abbrev Leaves : Type 0
  Leaves = (mid.environments ≡ s.environments) × Prints output []

  leaves_by : {X : Type 0} (step : CallStep X) → (step.state.environments ≡ s.environments) × (step.written ≡ []) → mid ≡ step.state →
      Prints output step.written → Leaves
  leaves_by step left is printed =
      (ap (λ (k : KernelState). k.environments) is ∙ left.0, subst (λ (bytes : List ℕ). Prints output bytes) left.1 printed)

  word_loads : (w : ℕ) → IsStep (load s n va) (Ok w) mid output → Leaves
  unfolding load
  word_loads w call =
      leaves_by (load s n va)
      (accessing_leaves s n va Read (λ after. giving after (user_word after n va)) (λ after. refl) (λ after. refl) w
      (reach_in s.spaces (slot_at s n).directory va Read) call.0) call.1 call.2

  byte_loads : (w : ℕ) → IsStep (load_byte s n va) (Ok w) mid output → Leaves
  unfolding load_byte
  byte_loads w call =
      leaves_by (load_byte s n va)
      (accessing_leaves s n va Read (λ after. giving after (user_byte after n va)) (λ after. refl) (λ after. refl) w
      (reach_in s.spaces (slot_at s n).directory va Read) call.0) call.1 call.2

  word_stores : (value : ℕ) → IsStep (store s n va value) (Ok tt) mid output → Leaves
  unfolding store
  word_stores value call =
      leaves_by (store s n va value)
      (accessing_leaves {X = Unit {0}} s n va Write (λ after. giving (with_bytes_put after n va (to_le_bytes w32 value)) tt)
      (λ after. put_leaves after n va (to_le_bytes w32 value)) (λ after. refl) tt (reach_in s.spaces (slot_at s n).directory va Write) call.0) call.1 call.2

  byte_stores : (value : ℕ) → IsStep (store_byte s n va value) (Ok tt) mid output → Leaves
  unfolding store_byte
  byte_stores value call =
      leaves_by (store_byte s n va value)
      (accessing_leaves {X = Unit {0}} s n va Write (λ after. giving (with_user_byte after n va value) tt)
      (λ after. put_leaves after n va (value ∷ [])) (λ after. refl) tt (reach_in s.spaces (slot_at s n).directory va Write) call.0) call.1 call.2

access_leaves : (a : TreeAsk) (s mid : KernelState) (n va w : ℕ) (output : Output) → IsAccess a va s n (Ok w) mid output →
    (mid.environments ≡ s.environments) × Prints output []
access_leaves (ask.Load at) s mid n va w output call = word_loads s mid n (va - va % 4) output w call
access_leaves (ask.LoadByte at) s mid n va w output call = byte_loads s mid n va output w call
access_leaves (ask.Store at value) s mid n va w output call = word_stores s mid n (va - va % 4) output value call.1
access_leaves (ask.StoreByte at value) s mid n va w output call = byte_stores s mid n va output (low_byte value) call.1
access_leaves (ask.Request at) s mid n va w output call = byte_loads s mid n va output w call
access_leaves (ask.HandBack at value) s mid n va w output call = byte_stores s mid n va output (low_byte value) call.1

pub access_slot : (a : TreeAsk) (s mid : KernelState) (n va w : ℕ) (output : Output) → IsAccess a va s n (Ok w) mid output → slot_at mid n ≡ slot_at s n
access_slot a s mid n va w output call = ap (λ (e : Environments). e.slots n) (access_leaves a s mid n va w output call).0

pub access_rest : (a : TreeAsk) (s mid : KernelState) (n va w : ℕ) (output : Output) → IsAccess a va s n (Ok w) mid output →
    Prints output [] × KeepsRest s mid n
access_rest a s mid n va w output call =
    let left = access_leaves a s mid n va w output call in (left.1, rest_same s mid n left.0)

-- Nothing is a part of nothing.
pub no_part : (output : Output) → Prints output [] → PrintsPart output []
no_part output p = (0, omega arith, p.gains)

-- Where nothing was printed before, nothing was in all.
pub quiet_from : (output : Output) (console : Option (List ℕ)) (count : ℕ) → output.console.before ≡ console → output.count.before ≡ count →
    Prints output [] → Prints (record { console = from_to console output.console.after; count = from_to count output.count.after }) []
quiet_from output console count same stays p = record {
  gains = p.gains ∙ ap (option_map (λ (bytes : List ℕ). bytes ++ [])) same;
  counted = p.counted ∙ ap (λ (k : ℕ). min (k + 0) (2 ^ 64 - 1)) stays;
}

-- Nor behind what leaves the count.
pub quiet_still : (output : Output) (count : ℕ) → count ≡ output.count.after → Prints output [] →
    Prints (record { console = output.console; count = from_to output.count.before count }) []
quiet_still output count stays p = record { gains = p.gains; counted = stays ∙ p.counted }

-- ---- an access that is lawful

-- it gives its reply, and the memory is as it is to be
abbrev Makes : Disk → KernelState → KernelState → ℕ → TreeAsk → Result ℕ Stop → Type 0
Makes d s mid n a result = (result ≡ Ok (reply_of a (memory_in d s n))) × HasMade d s mid n a

stored_made : (d : Disk) (s mid : KernelState) (n : ℕ) (a : TreeAsk) (step : CallStep (Unit {0})) (output : Output) → reply_of a (memory_in d s n) ≡ 0 →
    ((result : Result (Unit {0}) Stop) → IsStep step result mid output → (result ≡ Ok tt) × HasMade d s mid n a) →
    (result : Result ℕ Stop) → IsStored step result mid output → Makes d s mid n a result
stored_made d s mid n a step output none law (Ok w) call = (ap (λ (x : ℕ). Ok x) (call.0 ∙ sym none), (law (Ok tt) call.1).1)
stored_made d s mid n a step output none law (Err why) call =
    absurd (let contradiction : ◌≡◌ {A = Result (Unit {0}) Stop} (Err why) (Ok tt) = (law (Err why) call).0 in cc)

-- where a place lies within the disk its block is cached
inside_block : (count at : ℕ) → at < BLKSIZE * count → at / BLKSIZE < count
inside_block count at inside = omega (arith, inside)

aligned_address : (at : ℕ) → at % 4 ≡ 0 →
    block_address (at / BLKSIZE) + at % BLKSIZE - (block_address (at / BLKSIZE) + at % BLKSIZE) % 4 ≡ block_address (at / BLKSIZE) + at % BLKSIZE
aligned_address at aligned = omega (arith, aligned)

module _ (d : Disk) (s mid : KernelState) (n : ℕ) (h : TreeAt d s n) (output : Output) (in_order : IsInOrder mid) (result : Result ℕ Stop) where
  disk_made : (a : TreeAsk) (at va : ℕ) → IsOfDisk a at → IsInside d.count a → (cache_state s n).place ≡ cached_place.Found (at / BLKSIZE) →
      va ≡ block_address (at / BLKSIZE) + at % BLKSIZE → IsAccess a va s n result mid output → Makes d s mid n a result
  disk_made (ask.Load place) at va is inside found address call =
      let here : IsStep (load s n (block_address (at / BLKSIZE) + at % BLKSIZE)) result mid output =
      subst (λ (x : ℕ). IsStep (load s n x) result mid output) (ap (λ (x : ℕ). x - x % 4) address ∙ aligned_address at (ap (λ (x : ℕ). x % 4) (sym is) ∙ inside.1))
      call in
      subst (λ (x : ℕ). Makes d s mid n (ask.Load x) result) (sym is)
      (load_made d s n at h (inside_block d.count at (omega (arith, is, inside.0))) found mid in_order output (ap (λ (x : ℕ). x % 4) (sym is) ∙ inside.1) result here)
  disk_made (ask.LoadByte place) at va is inside found address call =
      subst (λ (x : ℕ). Makes d s mid n (ask.LoadByte x) result) (sym is)
      (load_byte_made d s n at h (inside_block d.count at (subst (λ (x : ℕ). x < BLKSIZE * d.count) is inside)) found mid in_order output result
      (subst (λ (x : ℕ). IsStep (load_byte s n x) result mid output) address call))
  disk_made (ask.Store place value) at va is inside found address call =
      let aligned : at % 4 ≡ 0 = ap (λ (x : ℕ). x % 4) (sym is) ∙ inside.1 in
      subst (λ (x : ℕ). Makes d s mid n (ask.Store x value) result) (sym is)
      (stored_made d s mid n (ask.Store at value) (store s n (block_address (at / BLKSIZE) + at % BLKSIZE) value) output refl
      (store_made d s n at h (inside_block d.count at (omega (arith, is, inside.0))) found mid in_order output value aligned) result
      (subst (λ (x : ℕ). IsStored (store s n x value) result mid output) (ap (λ (x : ℕ). x - x % 4) address ∙ aligned_address at aligned) call))
  disk_made (ask.StoreByte place value) at va is inside found address call =
      subst (λ (x : ℕ). Makes d s mid n (ask.StoreByte x value) result) (sym is)
      (stored_made d s mid n (ask.StoreByte at value) (store_byte s n (block_address (at / BLKSIZE) + at % BLKSIZE) (low_byte value)) output refl
      (store_byte_made d s n at h (inside_block d.count at (subst (λ (x : ℕ). x < BLKSIZE * d.count) is inside)) found mid in_order output value) result
      (subst (λ (x : ℕ). IsStored (store_byte s n x (low_byte value)) result mid output) address call))
  disk_made (ask.Request place) at va is inside found address call = absurd is
  disk_made (ask.HandBack place value) at va is inside found address call = absurd is

  page_made : (a : TreeAsk) (at va : ℕ) → IsOfRequest a at → IsInside d.count a → va ≡ REQUEST + at % PGSIZE → IsAccess a va s n result mid output →
      Makes d s mid n a result
  page_made (ask.Request place) at va is inside address call =
      let below : at < PGSIZE = subst (λ (x : ℕ). x < PGSIZE) is inside in
      let here : va ≡ REQUEST + at = omega (arith, address, below) in
      subst (λ (x : ℕ). Makes d s mid n (ask.Request x) result) (sym is)
      (request_made d s n h mid in_order at below output result (subst (λ (x : ℕ). IsStep (load_byte s n x) result mid output) here call))
  page_made (ask.HandBack place value) at va is inside address call =
      let below : at < PGSIZE = subst (λ (x : ℕ). x < PGSIZE) is inside in
      let here : va ≡ REQUEST + at = omega (arith, address, below) in
      subst (λ (x : ℕ). Makes d s mid n (ask.HandBack x value) result) (sym is)
      (stored_made d s mid n (ask.HandBack at value) (store_byte s n (REQUEST + at) (low_byte value)) output refl
      (hand_back_made d s n h mid in_order at below output value) result
      (subst (λ (x : ℕ). IsStored (store_byte s n x (low_byte value)) result mid output) here call))
  page_made (ask.Load place) at va is inside address call = absurd is
  page_made (ask.LoadByte place) at va is inside address call = absurd is
  page_made (ask.Store place value) at va is inside address call = absurd is
  page_made (ask.StoreByte place value) at va is inside address call = absurd is

-- ---- what comes of it

not_made : (d : Disk) (s mid : KernelState) (n : ℕ) (a : TreeAsk) (why : Stop) → Makes d s mid n a (Err why) → ⊥
not_made d s mid n a why makes =
    let contradiction : ◌≡◌ {A = Result ℕ Stop} (Err why) (Ok (reply_of a (memory_in d s n))) = makes.0 in cc

word_done : (d : Disk) (s mid : KernelState) (n : ℕ) (a : TreeAsk) (w : ℕ) → HasFound a (cache_state s n).place → Makes d s mid n a (Ok w) →
    HasDone d d s mid n a (done.Word w)
word_done d s mid n a w found makes =
    let same : ◌≡◌ {A = Result ℕ Stop} (Ok w) (Ok (reply_of a (memory_in d s n))) = makes.0 in
    let it : ◌≡◌ {A = ℕ} w (reply_of a (memory_in d s n)) = cc in
    word w it makes.1.stands makes.1.memory
    (record {
      place = ap (λ (x : Slot). (cache_in x.extra).place) makes.1.slot;
      cached = makes.1.counts.cached;
      used = makes.1.counts.used;
    }) found

-- what is asked of the disk is asked of the block that was found
disk_found : (a : TreeAsk) (at : ℕ) (place : CachePlace) → IsOfDisk a at → place ≡ cached_place.Found (at / BLKSIZE % CACHE_BLOCKS) → HasFound a place
disk_found (ask.Load p) at place is found = found ∙ ap (λ (x : ℕ). cached_place.Found (block_wanted x)) (sym is)
disk_found (ask.LoadByte p) at place is found = found ∙ ap (λ (x : ℕ). cached_place.Found (block_wanted x)) (sym is)
disk_found (ask.Store p value) at place is found = found ∙ ap (λ (x : ℕ). cached_place.Found (block_wanted x)) (sym is)
disk_found (ask.StoreByte p value) at place is found = found ∙ ap (λ (x : ℕ). cached_place.Found (block_wanted x)) (sym is)
disk_found (ask.Request p) at place is found = tt
disk_found (ask.HandBack p value) at place is found = tt

page_found : (a : TreeAsk) (at : ℕ) (place : CachePlace) → IsOfRequest a at → HasFound a place
page_found (ask.Request p) at place is = tt
page_found (ask.HandBack p value) at place is = tt
page_found (ask.Load p) at place is = absurd is
page_found (ask.LoadByte p) at place is = absurd is
page_found (ask.Store p value) at place is = absurd is
page_found (ask.StoreByte p value) at place is = absurd is

-- the number of a block within the disk is its own
own_block : (d : Disk) (at : ℕ) → d.count ≤ MAXBLOCKS → at / BLKSIZE < d.count → at / BLKSIZE % CACHE_BLOCKS ≡ at / BLKSIZE
own_block d at most below = omega (arith, most, below)

place_inside : (a : TreeAsk) (at count : ℕ) → IsOfDisk a at → IsInside count a → at / BLKSIZE < count
place_inside (ask.Load place) at count is inside = inside_block count at (omega (arith, is, inside.0))
place_inside (ask.LoadByte place) at count is inside = inside_block count at (subst (λ (x : ℕ). x < BLKSIZE * count) is inside)
place_inside (ask.Store place value) at count is inside = inside_block count at (omega (arith, is, inside.0))
place_inside (ask.StoreByte place value) at count is inside = inside_block count at (subst (λ (x : ℕ). x < BLKSIZE * count) is inside)
place_inside (ask.Request place) at count is inside = absurd is
place_inside (ask.HandBack place value) at count is inside = absurd is

module _ (a : TreeAsk) (at : ℕ) (c : Caller) (is : IsOfDisk a at) (mid : KernelState) (output : Output) (in_order : IsInOrder mid) (va : ℕ)
    (found : (cache_state c.state c.slot).place ≡ cached_place.Found (at / BLKSIZE % CACHE_BLOCKS)) (address : va ≡ block_address (at / BLKSIZE % CACHE_BLOCKS)) where
  ready_made : (d : Disk) → TreeAt d c.state c.slot → IsInside d.count a → (result : Result ℕ Stop) →
      IsAccess a (va + at % BLKSIZE) c.state c.slot result mid output → Makes d c.state mid c.slot a result
  ready_made d h inside result call =
      let own = own_block d at h.count (place_inside a at d.count is inside) in
      disk_made d c.state mid c.slot h output in_order result a at (va + at % BLKSIZE) is inside (found ∙ ap (λ (b : ℕ). cached_place.Found b) own)
      (ap (λ (x : ℕ). x + at % BLKSIZE) (address ∙ ap block_address own)) call

  pub ready_word : (files : Around (Option Files)) → files.after ≡ files.before → (w : ℕ) →
      IsAccess a (va + at % BLKSIZE) c.state c.slot (Ok w) mid output → DoesWhereTold a (Ok (done.Word w)) c.disk c.slot (from_to c.state mid) files
  ready_word files same w call before told h inside =
      let d = disk_in before c.disk in (
        before,
        same ∙ told,
        word_done d c.state mid c.slot a w (disk_found a at (cache_state c.state c.slot).place is found) (ready_made d h inside (Ok w) call),
      )

  pub ready_stopped : (files : Around (Option Files)) (why : Stop) →
      IsAccess a (va + at % BLKSIZE) c.state c.slot (Err why) mid output → DoesWhereTold a (Ok done.Going) c.disk c.slot (from_to c.state mid) files
  ready_stopped files why call before told h inside =
      let d = disk_in before c.disk in absurd (not_made d c.state mid c.slot a why (ready_made d h inside (Err why) call))

  pub ready_leaves : (files : Option Files) (why : Stop) (whole : Output) → IsAccess a (va + at % BLKSIZE) c.state c.slot (Err why) mid output →
      LeavesWhereInside a (Ok done.Going) c.disk c.slot (from_to c.state mid) files whole
  ready_leaves files why whole call before told h inside =
      let d = disk_in before c.disk in absurd (not_made d c.state mid c.slot a why (ready_made d h inside (Err why) call))

  pub ready_failed : (files : Option Files) (failed : Failed) (whole : Output) → IsAccess a (va + at % BLKSIZE) c.state c.slot (Err stop.Failed) mid output →
      LeavesWhereInside a (Err failed) c.disk c.slot (from_to c.state mid) files whole
  ready_failed files failed whole call before told h inside =
      let d = disk_in before c.disk in absurd (not_made d c.state mid c.slot a stop.Failed (ready_made d h inside (Err stop.Failed) call))

  pub ready_calls : (files : Around (Option Files)) (x : Done) (w : ℕ) → IsAccess a (va + at % BLKSIZE) c.state c.slot (Ok w) mid output →
      CallsWhereInside a (Ok x) c.disk c.slot (from_to c.state mid) files
  ready_calls files x w call before now told behind h inside = record {
    mid = mid;
    output = output;
    call = asks_block (at / BLKSIZE % CACHE_BLOCKS) (at % BLKSIZE) w (omega arith) found
        (subst (λ (k : ℕ). IsAccess a (k + at % BLKSIZE) c.state c.slot (Ok w) mid output) address call);
    spaces = refl;
    rest = (access_rest a c.state mid c.slot (va + at % BLKSIZE) w output call).1;
    left = inl refl;
    cache = refl;
  }

  pub ready_never_calls : (files : Around (Option Files)) (why : Stop) → IsAccess a (va + at % BLKSIZE) c.state c.slot (Err why) mid output →
      CallsWhereInside a (Ok done.Going) c.disk c.slot (from_to c.state mid) files
  ready_never_calls files why call before now told behind h inside =
      let d = disk_in before c.disk in absurd (not_made d c.state mid c.slot a why (ready_made d h inside (Err why) call))

-- of the page of the request
module _ (a : TreeAsk) (at : ℕ) (c : Caller) (is : IsOfRequest a at) (mid : KernelState) (output : Output) (in_order : IsInOrder mid)
    (files : Around (Option Files)) where
  pub request_word : files.after ≡ files.before → (w : ℕ) →
      IsAccess a (REQUEST + at % PGSIZE) c.state c.slot (Ok w) mid output → DoesWhereTold a (Ok (done.Word w)) c.disk c.slot (from_to c.state mid) files
  request_word same w call before told h inside =
      let d = disk_in before c.disk in (
        before,
        same ∙ told,
        word_done d c.state mid c.slot a w (page_found a at (cache_state c.state c.slot).place is)
            (page_made d c.state mid c.slot h output in_order (Ok w) a at (REQUEST + at % PGSIZE) is inside refl call),
      )

  never_stopped : (d : Disk) → TreeAt d c.state c.slot → IsInside d.count a → (why : Stop) →
      IsAccess a (REQUEST + at % PGSIZE) c.state c.slot (Err why) mid output → ⊥
  never_stopped d h inside why call =
      not_made d c.state mid c.slot a why (page_made d c.state mid c.slot h output in_order (Err why) a at (REQUEST + at % PGSIZE) is inside refl call)

  pub request_stopped : (why : Stop) →
      IsAccess a (REQUEST + at % PGSIZE) c.state c.slot (Err why) mid output → DoesWhereTold a (Ok done.Going) c.disk c.slot (from_to c.state mid) files
  request_stopped why call before told h inside = absurd (never_stopped (disk_in before c.disk) h inside why call)

  pub request_leaves : (why : Stop) → IsAccess a (REQUEST + at % PGSIZE) c.state c.slot (Err why) mid output →
      LeavesWhereInside a (Ok done.Going) c.disk c.slot (from_to c.state mid) files.before output
  request_leaves why call before told h inside = absurd (never_stopped (disk_in before c.disk) h inside why call)

  pub request_failed : (failed : Failed) → IsAccess a (REQUEST + at % PGSIZE) c.state c.slot (Err stop.Failed) mid output →
      LeavesWhereInside a (Err failed) c.disk c.slot (from_to c.state mid) files.before output
  request_failed failed call before told h inside = absurd (never_stopped (disk_in before c.disk) h inside stop.Failed call)

  pub request_calls : (x : Done) (w : ℕ) → IsAccess a (REQUEST + at % PGSIZE) c.state c.slot (Ok w) mid output →
      CallsWhereInside a (Ok x) c.disk c.slot (from_to c.state mid) files
  request_calls x w call before now told behind h inside = record {
    mid = mid;
    output = output;
    call = asks_request at (at % PGSIZE) w is (omega arith) call;
    spaces = refl;
    rest = (access_rest a c.state mid c.slot (REQUEST + at % PGSIZE) w output call).1;
    left = inl refl;
    cache = refl;
  }

  pub request_never_calls : (why : Stop) → IsAccess a (REQUEST + at % PGSIZE) c.state c.slot (Err why) mid output →
      CallsWhereInside a (Ok done.Going) c.disk c.slot (from_to c.state mid) files
  request_never_calls why call before now told behind h inside = absurd (never_stopped (disk_in before c.disk) h inside why call)

-- the wait for a block is that of what asks for it
comes_nearer : (a : TreeAsk) (at block : ℕ) (s after : KernelState) (n : ℕ) → IsOfDisk a at → block ≡ at / BLKSIZE % CACHE_BLOCKS →
    left_in (wait_left block) (cache_state after n).place after n < left_in (wait_left block) (cache_state s n).place s n →
    access_left a after n < access_left a s n
comes_nearer a at block s after n of number fell =
    by a of
    (subst (λ (b : ℕ). left_in (wait_left b) (cache_state after n).place after n < left_in (wait_left b) (cache_state s n).place s n) number fell)
  where
    by : (x : TreeAsk) → IsOfDisk x at → block_left at after n < block_left at s n → access_left x after n < access_left x s n
    by (ask.Load place) is less = subst (λ (q : ℕ). block_left q after n < block_left q s n) (sym is) less
    by (ask.LoadByte place) is less = subst (λ (q : ℕ). block_left q after n < block_left q s n) (sym is) less
    by (ask.Store place value) is less = subst (λ (q : ℕ). block_left q after n < block_left q s n) (sym is) less
    by (ask.StoreByte place byte) is less = subst (λ (q : ℕ). block_left q after n < block_left q s n) (sym is) less
    by (ask.Request place) is less = absurd is
    by (ask.HandBack place byte) is less = absurd is

-- and it is of the disk
of_disk_asked : (a : TreeAsk) (at : ℕ) → IsOfDisk a at → is_of_disk a ≡ true
of_disk_asked (ask.Load place) at is = refl
of_disk_asked (ask.LoadByte place) at is = refl
of_disk_asked (ask.Store place value) at is = refl
of_disk_asked (ask.StoreByte place byte) at is = refl
of_disk_asked (ask.Request place) at is = absurd is
of_disk_asked (ask.HandBack place byte) at is = absurd is

-- the calls for the block are those of what asks for it
comes_fewer : (a : TreeAsk) (at block : ℕ) (place next : CachePlace) (X : Type 0) → IsOfDisk a at → block ≡ at / BLKSIZE % CACHE_BLOCKS →
    (IsReady block place → ComesOn block place next ⊎ X) → AccessReady a place → AccessComes a place next ⊎ X
comes_fewer a at block place next X of number fell =
    by a of (subst (λ (b : ℕ). IsReady b place → ComesOn b place next ⊎ X) number fell)
  where
    wanted : (p : ℕ) → p ≡ at → (IsReady (block_wanted at) place → ComesOn (block_wanted at) place next ⊎ X) →
        IsReady (block_wanted p) place → ComesOn (block_wanted p) place next ⊎ X
    wanted p is comes = subst (λ (q : ℕ). IsReady (block_wanted q) place → ComesOn (block_wanted q) place next ⊎ X) (sym is) comes

    by : (x : TreeAsk) → IsOfDisk x at → (IsReady (block_wanted at) place → ComesOn (block_wanted at) place next ⊎ X) →
        AccessReady x place → AccessComes x place next ⊎ X
    by (ask.Load p) is comes = wanted p is comes
    by (ask.LoadByte p) is comes = wanted p is comes
    by (ask.Store p value) is comes = wanted p is comes
    by (ask.StoreByte p byte) is comes = wanted p is comes
    by (ask.Request p) is comes = absurd is
    by (ask.HandBack p byte) is comes = absurd is

-- the cache has made a step
module _ (a : TreeAsk) (block : ℕ) (c : Caller) (below : block < CACHE_BLOCKS) (files : Around (Option Files)) (after : KernelState)
    (output : Output) where
  pub cache_going : (at : ℕ) → IsOfDisk a at → block ≡ at / BLKSIZE % CACHE_BLOCKS → IsBlockStep block c (Ok cached.Going) files after output →
      KeepsCacheWhereDone (Ok cached.Going) c.disk c.slot (from_to c.state after) files →
      FetchTold block (Ok cached.Going) c.disk c.slot (from_to c.state after) files.before →
      DoesWhereTold a (Ok done.Going) c.disk c.slot (from_to c.state after) files
  cache_going at of number made keeps tells before is h inside =
      let waited = step_waits c block below before h made.0 output files after is made.2 keeps in
      let told = tells before is h.cache in (
        waited.0,
        waited.1,
        going (of_disk_asked a at of) waited.2 (comes_nearer a at block c.state after c.slot of number told.1)
            (comes_fewer a at block (cache_state c.state c.slot).place (cache_state after c.slot).place (WasRefused c.state after) of number told.2),
      )

  pub cache_lacks : IsBlockStep block c (Ok cached.NoPage) files after output →
      KeepsCacheWhereDone (Ok cached.NoPage) c.disk c.slot (from_to c.state after) files →
      FetchTold block (Ok cached.NoPage) c.disk c.slot (from_to c.state after) files.before →
      DoesWhereTold a (Ok done.NoPage) c.disk c.slot (from_to c.state after) files
  cache_lacks made keeps tells before is h inside =
      let waited = step_waits c block below before h made.0 output files after is made.2 keeps in
      let told = tells before is h.cache in (waited.0, waited.1, no_page waited.2 told.0 told.2)

  pub cache_leaves : (step : Told) (x : Done) → HasGone (fetch_state c.state c.slot block) c files step after output →
      LeavesWhereInside a (Ok x) c.disk c.slot (from_to c.state after) files.before output
  cache_leaves step x stepped before is h inside = step_leaves c block below before h step output files after is stepped

  pub cache_calls : (at : ℕ) → IsOfDisk a at → block ≡ at / BLKSIZE % CACHE_BLOCKS → (step : Told) (x : Done) →
      HasGone (fetch_state c.state c.slot block) c files step after output → CallsWhereInside a (Ok x) c.disk c.slot (from_to c.state after) files
  cache_calls at of number step x stepped before now is told h inside = record {
    mid = after;
    output = output;
    call = fetches block step (
      below,
      (let within = place_inside a at c.disk.blocks of inside in
          subst (λ (b : ℕ). b < c.disk.blocks) (sym (number ∙ own_block (disk_in before c.disk) at h.count within)) within),
    )
        (subst (λ (f : Around (Option Files)). HasGone (fetch_state c.state c.slot block) c f step after output) (λ i. from_to (is i) (told i)) stepped);
    spaces = refl;
    rest = (step_leaves c block below before h step output files after is stepped).1;
    left = inl refl;
    cache = refl;
  }

  -- where the host failed in it, nothing is printed
  pub cache_failed : (failed : Failed) → IsBlockStep block c (Err failed) files after output →
      LeavesWhereInside a (Err failed) c.disk c.slot (from_to c.state after) files.before output
  cache_failed failed it before is h inside = no_part output (step_failed c block below before h output files after is it.0)

-- where it had no page for the block, its environment lives
pub lacking_lives : (block : ℕ) (c : Caller) (files : Around (Option Files)) (step : Told) (after : KernelState) (output : Output) →
    is_live (slot_at c.state c.slot) ≡ true → cached.NoPage ≡ as_cached step → HasGone (fetch_state c.state c.slot block) c files step after output →
    is_live (slot_at after c.slot) ≡ true
lacking_lives block c files step after output live none (by_word w mid reply behind tells is) =
    let state : CacheState = fetch_state c.state c.slot block in
    let stays = caller_stays (asked_at state) c files.before w mid output (own_ask state.place state.hand) live reply in
    ap (λ (k : KernelState). is_live (slot_at k c.slot)) is
    ∙ set_live mid c.slot (record (slot_at mid c.slot) { extra = with_state (slot_at mid c.slot).extra (cache_next state w).state }) stays.live
lacking_lives block c files step after output live none (stopped why other reply behind tells) =
    absurd (let contradiction : cached.NoPage ≡ cached.Going = none ∙ ap (λ (x : Told). as_cached x) tells in cc)

-- ---- what the step tells

-- where the job stands, as the code has found it
pub known_state : (s : KernelState) (n : ℕ) (state : TreeState) (regs : Regs) (words : List ℕ) → state ≡ state_in regs words →
    regs ≡ (slot_at s n).registers → words ≡ (slot_at s n).extra → state ≡ job_in s n
known_state s n state regs words is regs_are words_are = is ∙ (λ i. state_in (regs_are i) (words_are i))

as_word : {d e : Disk} {s mid : KernelState} {n : ℕ} {a : TreeAsk} {w : ℕ} → HasDone d e s mid n a (done.Word w) →
    (w ≡ reply_of a (memory_in d s n)) × TreeAt e mid n × (memory_in e mid n ≡ memory_after a (memory_in d s n)) × LeavesCache s mid n
    × HasFound a (cache_state s n).place
as_word (word w is stands memory cache found) = (is, stands, memory, cache, found)

as_waiting : {d e : Disk} {s mid : KernelState} {n : ℕ} {a : TreeAsk} → HasDone d e s mid n a done.Going →
    IsWaiting d e s mid n × (access_left a mid n < access_left a s n) × (is_of_disk a ≡ true)
    × (AccessReady a (cache_state s n).place → AccessComes a (cache_state s n).place (cache_state mid n).place ⊎ WasRefused s mid)
as_waiting (going of waiting nearer comes) = (waiting, nearer, of, comes)

as_lacking : {d e : Disk} {s mid : KernelState} {n : ℕ} {a : TreeAsk} → HasDone d e s mid n a done.NoPage →
    IsWaiting d e s mid n × WasRefused s mid × ((cache_state mid n).place ≡ cached_place.Resting)
as_lacking (no_page waiting refused rests) = (waiting, refused, rests)

module _ (disk : DiskFile) (n : ℕ) (s mid : KernelState) (files : Around (Option Files)) (a : TreeAsk) (asks : a ≡ ask_at (job_in s n)) where
  inside : (before : Files) → IsLawful (disk_in before disk) s n → IsInside disk.blocks a
  inside before lawful = subst (λ (x : TreeAsk). IsInside disk.blocks x) (sym asks) lawful.inside

  -- what came of the job's own ask
  own : (x : Done) → DoesWhereTold a (Ok x) disk n (from_to s mid) files →
      (before : Files) → files.before ≡ Some before → TreeAt (disk_in before disk) s n → IsLawful (disk_in before disk) s n →
      (after : Files) × (files.after ≡ Some after) × HasDone (disk_in before disk) (disk_in after disk) s mid n (ask_at (job_in s n)) x
  own x does before is h lawful =
      let came = does before is h (inside before lawful) in (
        came.0,
        came.1,
        subst (λ (b : TreeAsk). HasDone (disk_in before disk) (disk_in came.0 disk) s mid n b x) asks came.2,
      )

  -- what it prints, and what it leaves
  module _ (x : Done) (output : Output) (leaves : LeavesWhereInside a (Ok x) disk n (from_to s mid) files.before output) (acts : Acted) where
    pub step_prints : (after : KernelState) → QuietWhereTold (Ok acts) disk n (from_to s after) files.before output
    step_prints after before is h lawful = (leaves before is h (inside before lawful)).0

    pub step_leaves_rest : RestWhereTold (Ok acts) disk n (from_to s mid) files.before
    step_leaves_rest before is h lawful = (leaves before is h (inside before lawful)).1

    pub set_leaves_rest : (next : TreeState) (after : KernelState) →
        after ≡ with_extra (with_registers mid n (registers_with (slot_at mid n).registers next)) n (words_with (slot_at mid n).extra next) →
        RestWhereTold (Ok acts) disk n (from_to s after) files.before
    set_leaves_rest next after set before is h lawful = rest_set s mid n (leaves before is h (inside before lawful)).1 next after set

  -- where the host failed in it
  pub step_failed_quietly : (output : Output) (failed : Failed) → LeavesWhereInside a (Err failed) disk n (from_to s mid) files.before output →
      QuietWhereTold (Err failed) disk n (from_to s mid) files.before output
  step_failed_quietly output failed leaves before is h lawful = leaves before is h (inside before lawful)

  -- which call it makes
  module _ (x : Done) (calls : CallsWhereInside a (Ok x) disk n (from_to s mid) files) (acts : Acted) where
    pub step_calls : CallsWhereTold (Ok acts) disk n (from_to s mid) files
    step_calls before now is told h lawful =
        subst (λ (b : TreeAsk). IsTreeStep b disk before now s mid n) asks (calls before now is told h (inside before lawful))

    pub set_calls : (next : TreeState) (after : KernelState) →
        after ≡ with_extra (with_registers mid n (registers_with (slot_at mid n).registers next)) n (words_with (slot_at mid n).extra next) →
        CallsWhereTold (Ok acts) disk n (from_to s after) files
    set_calls next after set before now is told h lawful =
        let it : IsTreeStep (ask_at (job_in s n)) disk before now s mid n =
        subst (λ (b : TreeAsk). IsTreeStep b disk before now s mid n) asks (calls before now is told h (inside before lawful)) in
        record {
          mid = it.mid;
          output = it.output;
          call = it.call;
          spaces = ap (λ (k : KernelState). k.spaces) set ∙ it.spaces;
          rest = rest_set s mid n it.rest next after set;
          left = inr (behind it.mid it.left);
          cache = kept ∙ it.cache;
        }
      where
        sets : SetsWords mid after n
        sets = job_sets mid after n next set

        slot : Slot
        slot = slot_at mid n

        kept : drop 8 (slot_at after n).extra ≡ drop 8 slot.extra
        kept =
            ap (λ (k : KernelState). drop 8 (slot_at k n).extra) (set ∙ both_set mid n (registers_with slot.registers next) (words_with slot.extra next))
            ∙ ap (λ (x : Slot). drop 8 x.extra)
            (slot_put mid n (record slot { registers = registers_with slot.registers next; extra = words_with slot.extra next }))
            ∙ last_four slot.extra next

        behind : (k : KernelState) → (mid ≡ k) ⊎ SetsWords k mid n → SetsWords k after n
        behind k (inl same) = subst (λ (x : KernelState). SetsWords x after n) same sets
        behind k (inr before) = sets_twice k mid after n before sets

  pub step_going : DoesWhereTold a (Ok done.Going) disk n (from_to s mid) files → StepsWhereTold (Ok acted.Going) disk n (from_to s mid) files
  step_going does before is h lawful =
      let came = own done.Going does before is h lawful in
      let both = as_waiting came.2 in
      let waiting = both.0 in (
        came.0,
        came.1,
        waits (record {
          of_disk = both.2;
          stands = waiting.stands;
          job = waiting.job;
          memory = waiting.memory;
          nearer = both.1;
          comes = both.3;
        }),
      )

  pub step_lacks : DoesWhereTold a (Ok done.NoPage) disk n (from_to s mid) files →
      StepsWhereTold (Ok (acted.Answer (negated E_NO_MEM))) disk n (from_to s mid) files
  step_lacks does before is h lawful =
      let came = own done.NoPage does before is h lawful in
      let both = as_lacking came.2 in
      (came.0, came.1, lacks both.0 both.1 both.2)

  module _ (w : ℕ) (does : DoesWhereTold a (Ok (done.Word w)) disk n (from_to s mid) files) where
    pub step_answers : (answer : ℕ) → next_at (job_in s n) w ≡ Answer answer → StepsWhereTold (Ok (acted.Answer answer)) disk n (from_to s mid) files
    step_answers answer ends before is h lawful =
        let came = own (done.Word w) does before is h lawful in
        let three = as_word came.2 in (
          came.0,
          came.1,
          answers answer (record { cache = three.3; found = three.4; stands = three.1; memory = three.2 })
              (ap (next_at (job_in s n)) (sym three.0) ∙ ends),
        )

    pub step_goes_on : (next : TreeState) (after : KernelState) → next_at (job_in s n) w ≡ GoOn next → IsInOrder after →
        after ≡ with_extra (with_registers mid n (registers_with (slot_at mid n).registers next)) n (words_with (slot_at mid n).extra next) →
        StepsWhereTold (Ok acted.Going) disk n (from_to s after) files
    step_goes_on next after on in_order set before is h lawful =
        let came = own (done.Word w) does before is h lawful in
        let three = as_word came.2 in
        let it = state_set (disk_in came.0 disk) mid n next three.1 after in_order set in (
          came.0,
          came.1,
          goes next
              (record {
                cache = record {
                  place = (λ i. (it.cache i).place) ∙ three.3.place;
                  cached = ap cached_count it.row ∙ three.3.cached;
                  used = subst (λ (row : EntryRow). used_count row ≤ used_count (row_in s n) + 1) (sym it.row) three.3.used;
                };
                found = three.4;
                stands = it.stands;
                memory = it.memory ∙ three.2;
              }) (ap (next_at (job_in s n)) (sym three.0) ∙ on) it.job,
        )

-- a state that no job comes to
pub step_refused : (disk : DiskFile) (n : ℕ) (s after : KernelState) (files : Around (Option Files)) (acts : Acted) →
    is_bounded (job_in s n) ≡ false → StepsWhereTold (Ok acts) disk n (from_to s after) files
step_refused disk n s after files acts off before is h lawful =
    absurd (let contradiction : ◌≡◌ true false = sym lawful.bounded ∙ off in cc)
