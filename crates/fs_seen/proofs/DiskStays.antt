-- The disk holds bytes behind each call: what is written is a page, which has bytes.
use Rattle.std.proofs.Common.{◌≡◌, ◌≢◌, ◌∙◌, ◌+◌, ◌*◌, ◌/◌, ◌%◌, ◌++◌, ◌<◌, ◌≤◌, inl, inr, ℕ, zero, suc, Bool, true, false, List, [], ◌∷◌, length}
use Rattle.std.proofs.Common.{Option, Some, Ok, Err, refl, sym, ap, subst, arith, unwrap_or, if◌then◌else◌}
use Rattle.std.proofs.lemmas.Bool.{cases_lt}
use Rattle.std.proofs.lemmas.List.{get_or-drop}
use Rattle.std.proofs.lemmas.Option.{same_Some}
use Rattle.std.proofs.lemmas.Slice.Eq.{bytes_eq-Decides}
use Rattle.std.specs.Prelude.{take, drop, slice_index}
use Rattle.std.specs.Str.{bytes_eq}
use Rattle.jos_host.specs.declared.host.Failed.{Failed}
use Rattle.jos_host.specs.Files.{Files, bytes_of, overwritten, with_bytes}
use Rattle.jos_host.specs.Frames.{Around, from_to}
use Rattle.jos_host.specs.Told.{WritesAt}
use Rattle.jos_base.specs.declared.memory.Access.TheVariants.{Read}
use Rattle.jos_base.specs.declared.numbers.TheConstants.{PGSIZE}
use Rattle.jos_base.specs.Below.{values_below}
use Rattle.jos_base.specs.Counting.{page_limit}
use Rattle.jos_base.specs.KernelState.{KernelState, slot_at}
use Rattle.jos_base.specs.Words.{page_number}
use Rattle.jos_base.proofs.Below.{get_or-values, length-values}
use Rattle.fs_layout.specs.declared.numbers.TheConstants.{BLKSIZE, MAXBLOCKS}
use Rattle.lib_os.specs.declared.user_os.Stop.{Stop}
use Rattle.lib_os.specs.declared.user_os.Stop.TheVariants as stop
use Rattle.lib_os.specs.BlockCache.{block_address}
use Rattle.lib_os.specs.Disk.{DiskFile, block_in, disk_in}
use Rattle.lib_os.specs.MadeCalls.{IsMade, IsServersCall, MakesServersCall, UserCall, calls, loads, loads_byte, reads_block, stores, stores_byte, writes_block}
use Rattle.lib_os.specs.Rows.{AreBytes}
use Rattle.lib_os.specs.UserCalls.{FilesBehindBy, Output, block_call, may_write_block, page_bytes, user_byte}
use Rattle.fs_blocks.specs.declared.place.CacheState.{CacheState}
use Rattle.fs_blocks.specs.declared.plan.CacheAsk.{CacheAsk}
use Rattle.fs_blocks.specs.declared.plan.CacheAsk.TheVariants as ask
use Rattle.fs_blocks.specs.declared.plan.Told.{Told}
use Rattle.fs_blocks.specs.CachePlans.{ask_at}
use Rattle.fs_cache.specs.CacheSteps.{FilesAfter, HasGone, IsReply, by_word, caller, stopped}
use Rattle.fs_cache.proofs.Loads.{number_below, number_of, row_below}
use Rattle.fs_cache.proofs.StepWhole.{block_there}
use Rattle.fs_seen.specs.ServerMemory.{AreDiskBytes, StandsOver, entry_of}
use Rattle.fs_seen.proofs.Over.{byte_small}

-- ---- lists of bytes

none_small : AreBytes []
none_small i = omega arith

append_small : (xs ys : List ℕ) → AreBytes xs → AreBytes ys → AreBytes (xs ++ ys)
append_small [] ys a b i = b i
append_small (x ∷ xs) ys a b zero = a zero
append_small (x ∷ xs) ys a b (suc i) = append_small xs ys (λ k. a (suc k)) b i

take_small : (n : ℕ) (xs : List ℕ) → AreBytes xs → AreBytes (take n xs)
take_small zero xs a i = none_small i
take_small (suc n) [] a i = none_small i
take_small (suc n) (x ∷ xs) a zero = a zero
take_small (suc n) (x ∷ xs) a (suc i) = take_small n xs (λ k. a (suc k)) i

drop_small : (n : ℕ) (xs : List ℕ) → AreBytes xs → AreBytes (drop n xs)
drop_small n xs a i = subst (λ (byte : ℕ). byte < 256) (sym (get_or-drop n xs i 0)) (a (n + i))

past_none : (xs : List ℕ) (k : ℕ) → length xs ≤ k → slice_index xs k ≡ 0
past_none [] k past = refl
past_none (x ∷ xs) zero past = absurd (omega (arith, past))
past_none (x ∷ xs) (suc k) past = past_none xs k (omega (arith, past))

values_small : (n : ℕ) (f : ℕ → ℕ) → ((k : ℕ) → k < n → f k < 256) → AreBytes (values_below n f)
values_small n f small k = elim (cases_lt k n) [
  | inl below ↦ subst (λ (byte : ℕ). byte < 256) (sym (get_or-values n f k 0 below)) (small k below)
  | inr past ↦
      let least : n ≤ k = grind (arith, past) in
      let long = length-values n f in
      subst (λ (byte : ℕ). byte < 256) (sym (past_none (values_below n f) k (omega (arith, least, long)))) (omega arith)
]

-- ---- a file and its blocks

file_small : (file : List ℕ) → ((n k : ℕ) → slice_index (block_in file n) k < 256) → AreBytes file
unfolding block_in
file_small file small i =
    let low : i % BLKSIZE < BLKSIZE = omega arith in
    let place : BLKSIZE * (i / BLKSIZE) + i % BLKSIZE ≡ i = omega arith in
    subst (λ (byte : ℕ). byte < 256)
    (get_or-values BLKSIZE (λ k. slice_index file (BLKSIZE * (i / BLKSIZE) + k)) (i % BLKSIZE) 0 low ∙ ap (slice_index file) place)
    (small (i / BLKSIZE) (i % BLKSIZE))

blocks_small : (file : List ℕ) → AreBytes file → (n k : ℕ) → slice_index (block_in file n) k < 256
unfolding block_in
blocks_small file small n = values_small BLKSIZE (λ k. slice_index file (BLKSIZE * n + k)) (λ k below. small (BLKSIZE * n + k))

overwritten_small : (file : List ℕ) (at : ℕ) (bytes : List ℕ) → AreBytes file → AreBytes bytes → AreBytes (overwritten file at bytes)
overwritten_small file at bytes a b =
    append_small (take at file ++ bytes) (drop (at + length bytes) file) (append_small (take at file) bytes (take_small at file a) b)
    (drop_small (at + length bytes) file a)

bytes_with : (files : Files) (name bytes : List ℕ) → bytes_of (with_bytes files name bytes) name ≡ bytes
bytes_with files name bytes =
    let same : bytes_eq name name ≡ true = (bytes_eq-Decides name name).1 refl in
    ap (λ (t : Bool). unwrap_or (if t then Some bytes else files name) []) same

-- ---- behind a call

module _ (disk : DiskFile) (before : Files) (s : KernelState) (n : ℕ) (h : StandsOver (disk_in before disk) s n) where
  abbrev dir : ℕ
  dir = (slot_at s n).directory

  -- what a block's page holds
  page_small : (block : ℕ) → block < MAXBLOCKS → AreBytes (page_bytes s n (block_address block))
  unfolding page_bytes
  page_small block below =
      values_small PGSIZE (λ k. user_byte s n (block_address block + k))
      (λ k inside.
      let number : page_number (block_address block + k) ≡ number_of block = omega (arith, inside) in
      byte_small s n (block_address block + k) (subst (λ (p : ℕ). p < page_limit) (sym number) (number_below block (omega (arith, below))))
      (λ e is.
      (h.cache.stands.pages block e (row_below s.spaces dir block (omega (arith, below)) ∙ sym (ap (entry_of s n) number) ∙ is)).small))

  module _ (files : Around (Option Files)) (is : files.before ≡ Some before) (now : Files) (told : files.after ≡ Some now) where
    abbrev Bytes : Type 0
    Bytes = AreDiskBytes (disk_in now disk)

    same_files : files.after ≡ files.before → Bytes
    same_files same = subst (λ (f : Files). AreDiskBytes (disk_in f disk)) (same_Some before now (sym is ∙ sym same ∙ told)) h.bytes

    block_written : (E : Type 0) (block word : ℕ) (t : Bool) → may_write_block (block_call s n disk block (block_address block)) ≡ t →
        FilesBehindBy {E = E} t (block_call s n disk block (block_address block)) (Ok word) files → Bytes
    block_written E block word false may behind = same_files behind
    block_written E block word true may behind =
        let there : block < disk.blocks = block_there (block_call s n disk block (block_address block)) Read may in
        let few = h.count in
        let bytes : List ℕ = page_bytes s n (block_address block) in
        let file : List ℕ = bytes_of before disk.name in
        let all : List ℕ = overwritten file (BLKSIZE * block) bytes in
        let over : Files = with_bytes before disk.name all in
        let put = subst (λ (o : Option Files). WritesAt {E = E} o disk.name (BLKSIZE * block) bytes (Ok tt) files.after) is behind in
        let small : AreBytes all = overwritten_small file (BLKSIZE * block) bytes (file_small file h.bytes) (page_small block (omega (arith, there, few))) in
        subst (λ (f : Files). AreDiskBytes (disk_in f disk)) (same_Some over now (sym put ∙ told))
        (blocks_small (bytes_of over disk.name) (subst (λ (b : List ℕ). AreBytes b) (sym (bytes_with before disk.name all)) small))

    -- one of the server's calls
    by_call : (call : UserCall) → IsServersCall call → (mid : KernelState) (output : Output) → IsMade call s n disk files mid output → Bytes
    by_call (loads va) own mid output made = same_files made.1
    by_call (loads_byte va) own mid output made = same_files made.1
    by_call (stores va word) own mid output made = same_files made.1
    by_call (stores_byte va byte) own mid output made = same_files made.1
    by_call (calls number args) own mid output made = same_files made.2
    by_call (reads_block block va) own mid output made = same_files made.3
    by_call (writes_block block va) own mid output made =
        let call = subst (λ (at : ℕ). IsMade (writes_block block at) s n disk files mid output) own.1 made in
        block_written Failed block call.0 (may_write_block (block_call s n disk block (block_address block))) refl call.3

    pub bytes_behind : (after : KernelState) (output : Output) → MakesServersCall (from_to s after) n disk files output → Bytes
    bytes_behind after output it = by_call it.call it.own it.makes.mid output it.makes.made

    -- one of the cache's
    by_ask : (a : CacheAsk) (word : ℕ) → FilesAfter a (caller s n disk) (Ok word) files → Bytes
    by_ask (ask.Load va) word after = same_files after
    by_ask (ask.System number args) word after = same_files after
    by_ask (ask.ReadBlock block) word after = same_files after
    by_ask (ask.WriteBlock block) word after =
        block_written Stop block word (may_write_block (block_call s n disk block (block_address block))) refl after

    by_stop : (a : CacheAsk) (why : Stop) (mid : KernelState) (output : Output) → why ≢ stop.Failed →
        IsReply a (caller s n disk) files.before (Err why) mid output → FilesAfter a (caller s n disk) (Err why) files → Bytes
    by_stop (ask.Load va) why mid output other reply after = same_files after
    by_stop (ask.System number args) why mid output other reply after = same_files after
    by_stop (ask.ReadBlock block) why mid output other reply after = same_files after
    by_stop (ask.WriteBlock block) stop.Failed mid output other reply after = absurd (other refl)
    by_stop (ask.WriteBlock block) stop.Upcall mid output other reply after = absurd reply
    by_stop (ask.WriteBlock block) stop.Ended mid output other reply after = absurd reply

    pub bytes_gone : (state : CacheState) (tells : Told) (after : KernelState) (output : Output) →
        HasGone state (caller s n disk) files tells after output → Bytes
    bytes_gone state tells after output (by_word word mid reply files_after tells_is goes) = by_ask (ask_at state) word files_after
    bytes_gone state tells after output (stopped why other reply files_after tells_is) = by_stop (ask_at state) why after output other reply files_after
