-- Behind a call of the cache the disk's file has all of its blocks, since a block that is written lies in it.
use Rattle.std.proofs.Common.{◌≡◌, ◌≢◌, ◌∙◌, ◌<◌, ◌≤◌, ◌+◌, ◌*◌, ◌&&◌, ℕ, Bool, true, false, List, [], length, Option, Some, None, Ok, Err}
use Rattle.std.proofs.Common.{refl, sym, ap, subst, arith, unwrap_or, if◌then◌else◌}
use Rattle.std.specs.Prelude.{nat_lt}
use Rattle.std.specs.Str.{bytes_eq}
use Rattle.std.proofs.lemmas.Bool.Decides.{nat_tests}
use Rattle.std.proofs.lemmas.Slice.Eq.{bytes_eq-Decides}
use Rattle.jos_host.specs.Files.{Files, with_bytes, bytes_of, overwritten}
use Rattle.jos_host.specs.Frames.{from_to}
use Rattle.jos_base.specs.declared.numbers.TheConstants.{PGSIZE}
use Rattle.jos_base.specs.declared.memory.Access.{Access}
use Rattle.jos_base.specs.declared.memory.Access.TheVariants.{Read}
use Rattle.jos_base.specs.KernelState.{KernelState, slot_at}
use Rattle.jos_base.specs.UserMemory.{is_allowed}
use Rattle.jos_base.proofs.Below.{length-values}
use Rattle.fs_layout.specs.declared.numbers.TheConstants.{BLKSIZE}
use Rattle.lib_os.specs.declared.user_os.Stop.{Stop}
use Rattle.lib_os.specs.declared.user_os.Stop.TheVariants as stop
use Rattle.lib_os.specs.Disk.{HasBlocks}
use Rattle.lib_os.specs.UserCalls.{BlockCall, FilesBehindBy, Output, is_file_server, may_move, may_write_block, page_bytes, user_byte}
use Rattle.lib_os.proofs.DiskBytes.{written_length}
use Rattle.fs_blocks.specs.declared.plan.CacheAsk.{CacheAsk}
use Rattle.fs_blocks.specs.declared.plan.CacheAsk.TheVariants as ask
use Rattle.fs_cache.specs.CacheSteps.{Caller, FilesAfter, IsReply, of_block}

bytes_with : (files : Files) (name bytes : List ℕ) → bytes_of (with_bytes files name bytes) name ≡ bytes
bytes_with files name bytes =
    let same : bytes_eq name name ≡ true = (bytes_eq-Decides name name).1 refl in
    ap (λ (t : Bool). unwrap_or (if t then Some bytes else files name) []) same

pub page_long : (s : KernelState) (n va : ℕ) → length (page_bytes s n va) ≡ BLKSIZE
unfolding page_bytes
page_long s n va = length-values PGSIZE (λ k. user_byte s n (va + k))

and_first : (a b : Bool) → (a && b) ≡ true → a ≡ true
and_first true b h = refl
and_first false b h = h

and_second : (a b : Bool) → (a && b) ≡ true → b ≡ true
and_second true b h = h
and_second false b h = cc

-- A block is moved only where the disk has it.
pub block_there : (call : BlockCall) (access : Access) → may_move call access ≡ true → call.block < call.disk.blocks
block_there call access may =
    let caller = slot_at call.state call.slot in
    let allowed = is_allowed call.state.spaces caller.directory call.va access in
    let has = nat_lt call.block call.disk.blocks in
    let server = is_file_server caller.env_type in
    let there : nat_lt call.block call.disk.blocks ≡ true = and_second server has (and_first (server && has) allowed may) in
    grind (arith, nat_tests, there)

-- a block that is written over
written_whole : (files : Files) (call : BlockCall) → call.block < call.disk.blocks → HasBlocks (Some files) call.disk →
    let file = bytes_of files call.disk.name in
    let now = with_bytes files call.disk.name (overwritten file (BLKSIZE * call.block) (page_bytes call.state call.slot call.va)) in
    HasBlocks (Some now) call.disk
written_whole files call there whole =
    let file = bytes_of files call.disk.name in
    let bytes = page_bytes call.state call.slot call.va in
    let fits : BLKSIZE * (call.block + 1) ≤ length file = omega (arith, there, whole) in
    subst (λ (n : ℕ). BLKSIZE * call.disk.blocks ≤ n)
    (sym (ap (λ (b : List ℕ). length b) (bytes_with files call.disk.name (overwritten file (BLKSIZE * call.block) bytes))
    ∙ written_length file call.block bytes (page_long call.state call.slot call.va) fits))
    whole

moved_whole : (t : Bool) (call : BlockCall) (word : ℕ) (before after : Option Files) → may_write_block call ≡ t → HasBlocks before call.disk →
    FilesBehindBy {E = Stop} t call (Ok word) (from_to before after) → HasBlocks after call.disk
moved_whole false call word before after test whole behind = subst (λ (f : Option Files). HasBlocks f call.disk) (sym behind) whole
moved_whole true call word None after test whole behind = subst (λ (f : Option Files). HasBlocks f call.disk) (sym behind) tt
moved_whole true call word (Some files) after test whole behind =
    subst (λ (f : Option Files). HasBlocks f call.disk) (sym behind) (written_whole files call (block_there call Read test) whole)

-- where the call gave a word
pub whole_behind : (a : CacheAsk) (c : Caller) (word : ℕ) (before after : Option Files) → HasBlocks before c.disk →
    FilesAfter a c (Ok word) (from_to before after) → HasBlocks after c.disk
whole_behind (ask.Load va) c word before after whole behind = subst (λ (f : Option Files). HasBlocks f c.disk) (sym behind) whole
whole_behind (ask.System number args) c word before after whole behind = subst (λ (f : Option Files). HasBlocks f c.disk) (sym behind) whole
whole_behind (ask.ReadBlock block) c word before after whole behind = subst (λ (f : Option Files). HasBlocks f c.disk) (sym behind) whole
whole_behind (ask.WriteBlock block) c word before after whole behind =
    moved_whole (may_write_block (of_block c block)) (of_block c block) word before after refl whole behind

-- where it was stopped by a fault
pub whole_stopped : (a : CacheAsk) (c : Caller) (why : Stop) (before after : Option Files) (mid : KernelState) (output : Output) →
    why ≢ stop.Failed → IsReply a c before (Err why) mid output → HasBlocks before c.disk →
    FilesAfter a c (Err why) (from_to before after) → HasBlocks after c.disk
whole_stopped (ask.Load va) c why before after mid output other reply whole behind =
    subst (λ (f : Option Files). HasBlocks f c.disk) (sym behind) whole
whole_stopped (ask.System number args) c why before after mid output other reply whole behind = absurd reply
whole_stopped (ask.ReadBlock block) c why before after mid output other reply whole behind =
    subst (λ (f : Option Files). HasBlocks f c.disk) (sym behind) whole
whole_stopped (ask.WriteBlock block) c stop.Failed before after mid output other reply whole behind = absurd (other refl)
whole_stopped (ask.WriteBlock block) c stop.Upcall before after mid output other reply whole behind = absurd reply
whole_stopped (ask.WriteBlock block) c stop.Ended before after mid output other reply whole behind = absurd reply
