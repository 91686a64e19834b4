-- Where the kernel's state stands for an abstract one beside a disk that is told, the file server acts where it has a request whose act is not made.
-- Where it has none the files are those of the disk as its cache holds it; so they are those of a disk that holds what the cache held.
use Rattle.std.proofs.Common.{◌≡◌, ◌∙◌, ◌*◌, ◌/◌, ◌%◌, ◌<◌, ◌≤◌, ◌&&◌, inl, inr, ℕ, Bool, true, false, List, Option, Some, None, refl, sym, ap, subst}
use Rattle.std.proofs.Common.{if◌then◌else◌, arith}
use Rattle.std.proofs.lemmas.Bool.{cases_lt}
use Rattle.std.proofs.lemmas.Bool.Decides.{nat_tests}
use Rattle.std.specs.Prelude.{nat_lt, slice_index, unwrap_or}
use Rattle.jos_base.specs.declared.environment.Status.{Status}
use Rattle.jos_base.specs.declared.environment.Status.TheVariants.{Free, Dying, NotRunnable, Runnable, Running}
use Rattle.jos_base.specs.KernelState.{KernelState, slot_at}
use Rattle.fs_layout.specs.declared.numbers.TheConstants.{BLKSIZE}
use Rattle.fs_layout.specs.DiskFiles.{IsDiskImage, file_system_of}
use Rattle.fs_layout.specs.DiskImage.{block_count}
use Rattle.fs_layout.specs.FileTree.{FileSystem}
use Rattle.fs_acts.specs.BlockLaws.{SameWithin}
use Rattle.fs_acts.proofs.Disks.{blocks-decide}
use Rattle.lib_os.specs.AbstractState.{AbstractState, Server, acted, busy, idle, leaving, looking}
use Rattle.lib_os.specs.BlockCache.{IsCache, block_value}
use Rattle.lib_os.specs.Disk.{Disk, byte_in_blocks}
use Rattle.lib_os.specs.StandsFor.{IsServerStatus, IsStatusFor}
use Rattle.fs_cache.specs.CacheStands.{cached_in}
use Rattle.fs_runs.specs.TreeRuns.{Memory}
use Rattle.fs_tree.specs.TreeSteps.{disk_bytes, memory_in}
use Rattle.fs_requests.specs.declared.state.ServerStep.{ServerStep}
use Rattle.fs_requests.specs.declared.state.ServerStep.TheVariants as step
use Rattle.fs_serving.specs.ServerRuns.{HasFiles, StandsAtStep, StandsServing, is_acting, is_serving}
use Rattle.fs_serving.specs.ServerViews.{Serving}
use Rattle.fs_serving.proofs.ActsAt.{acts_at}
use Rattle.fs_server.specs.ServerSteps.{server_at}
use Rattle.fs_seen.specs.ServerMemory.{AreDiskBytes, serving_in}
use Rattle.fs_seen.specs.ServerWhole.{IsServing, ServesBy}
use Rattle.fs_seen.proofs.Between.{files_over}
use Rattle.jos_run.specs.RunLaws.{FilesStand}
use Rattle.jos_run.specs.RunReports.{TellsFiles}
use Rattle.jos_run.specs.RunSteps.{HoldsCache, acts_in}
use Rattle.jos_run.specs.ServerStands.{StandsWhole}
use Rattle.jos_run.specs.Start.{HoldsFiles}
use Rattle.jos_run.specs.Steps.{is_awake, is_servers}
use Rattle.jos_run.specs.Worlds.{beside}

-- ---- by its step

module _ (count : ℕ) (a : AbstractState) (it : Serving) (before : Memory) where
  abbrev Unchanged : Type 0
  Unchanged = it.view.memory.disk ≡ before.disk

  unchanged : it.view.memory ≡ before → Unchanged
  unchanged same = ap (λ (m : Memory). m.disk) same

  -- and where it is not, the disk that it sees is that over which its request began
  disk_at : (at : ServerStep) → is_serving at ≡ false → StandsAtStep at count a it before → Unchanged
  disk_at step.Releasing rests h = h.1
  disk_at step.Receiving rests h = h.1
  disk_at step.Replying rests h = unchanged h.memory
  disk_at step.Pausing rests h = unchanged h.memory
  disk_at _ rests h = absurd (let contradiction : true ≡ false = rests in cc)

-- ---- whether it acts

and_false : (t : Bool) → (t && false) ≡ false
and_false true = refl
and_false false = refl

module _ (d : Disk) (s : KernelState) (a : AbstractState) (h : IsServing d s 0 a) (status : IsServerStatus a.server (slot_at s 0)) where
  serves_first : is_servers s 0 ≡ true
  serves_first = h.stands.cache.server

  acts_by : (awake serving : Bool) → is_awake (slot_at s 0).status ≡ awake → is_serving (server_at s 0).step ≡ serving →
      acts_in s ≡ (awake && serving)
  acts_by awake serving wakes at = λ i. serves_first i && wakes i && at i

  awake_so : (x : Status) → IsStatusFor x false → is_awake x ≡ true
  awake_so Runnable is = refl
  awake_so Running is = refl
  awake_so Free is = absurd is
  awake_so Dying is = absurd is
  awake_so NotRunnable is = absurd is

  pub acts_alike : acts_in s ≡ is_acting a.server
  acts_alike = by_server a.server refl h.serves status
    where
      stands : StandsServing d.count a (serving_in d s 0) → IsStatusFor (slot_at s 0).status false → acts_in s ≡ is_acting a.server
      stands it runs =
          acts_by true (is_acting a.server) (awake_so (slot_at s 0).status runs)
          (sym (acts_at d.count a (serving_in d s 0) it.before (server_at s 0).step it.at))

      by_server : (x : Server) → a.server ≡ x → ServesBy x d s 0 a → IsServerStatus x (slot_at s 0) → acts_in s ≡ is_acting a.server
      by_server leaving same it runs = stands it runs.0
      by_server idle same it waits =
          acts_by false (is_serving (server_at s 0).step) (ap is_awake waits.status) refl ∙ sym (ap is_acting same)
      by_server (looking client request place) same it runs = stands it runs.0
      by_server (busy client request place) same it runs = stands it runs.0
      by_server (acted client answer bytes object) same it runs = stands it runs.0

-- ---- the files

module _ (d : Disk) (s : KernelState) (a : AbstractState) (h : IsServing d s 0 a) (rests : is_acting a.server ≡ false) where
  -- those of the disk that is seen
  files_seen : HasFiles d.count (memory_in d s 0) a.files
  files_seen = by_server a.server h.serves
    where
      over : StandsServing d.count a (serving_in d s 0) → HasFiles d.count (memory_in d s 0) a.files
      over it =
          let at = (server_at s 0).step in
          let still : is_serving at ≡ false = sym (acts_at d.count a (serving_in d s 0) it.before at it.at) ∙ rests in
          files_over d.count it.before (memory_in d s 0) a.files (disk_at d.count a (serving_in d s 0) it.before at still it.at) it.files

      by_server : (x : Server) → ServesBy x d s 0 a → HasFiles d.count (memory_in d s 0) a.files
      by_server leaving it = over it
      by_server idle it = it.files
      by_server (looking client request place) it = over it
      by_server (busy client request place) it = over it
      by_server (acted client answer bytes object) it = over it

-- the law
pub files_stand : FilesStand
files_stand d s a whole rests = files_seen d s a whole.1.serving rests

-- and whether it acts is told by the kernel's state
pub acting_stands : (d : Disk) (s : KernelState) (a : AbstractState) → StandsWhole (beside s (Some d)) a → acts_in s ≡ is_acting a.server
acting_stands d s a whole = acts_alike d s a whole.1.serving whole.0.1.server.status

-- ---- of a disk that holds what the cache held

module _ (d e : Disk) (s : KernelState) (files : FileSystem) (holds : HoldsCache d e (cached_in s 0)) (small : AreDiskBytes d)
    (cache : IsCache d (cached_in s 0)) (seen : HasFiles d.count (memory_in d s 0) files) where
  abbrev seen_bytes : ℕ → ℕ
  seen_bytes = disk_bytes d (cached_in s 0)

  written_within : (at : ℕ) → at < BLKSIZE * d.count → seen_bytes at ≡ byte_in_blocks e.block at
  written_within at within =
      let below : at / BLKSIZE < d.count = omega (arith, within) in
      let test : nat_lt (at / BLKSIZE) d.count ≡ true = grind (arith, nat_tests, below) in
      ap (λ (t : Bool). if t then slice_index (block_value d (cached_in s 0) (at / BLKSIZE)) (at % BLKSIZE) else 0) test
      ∙ ap (λ (bytes : List ℕ). slice_index bytes (at % BLKSIZE)) (sym (holds.blocks (at / BLKSIZE) below))

  same_within : SameWithin (block_count seen_bytes) seen_bytes (byte_in_blocks e.block)
  same_within at within = written_within at (subst (λ (n : ℕ). at < BLKSIZE * n) seen.count_is within)

  image_so : IsDiskImage (BLKSIZE * d.count) (byte_in_blocks e.block)
  image_so = (blocks-decide (BLKSIZE * d.count) seen_bytes (byte_in_blocks e.block) seen.disk same_within).0

  same_files : file_system_of (byte_in_blocks e.block) ≡ file_system_of seen_bytes
  same_files = (blocks-decide (BLKSIZE * d.count) seen_bytes (byte_in_blocks e.block) seen.disk same_within).1

  count_so : block_count (byte_in_blocks e.block) ≡ d.count
  unfolding file_system_of
  count_so = ap (λ (f : FileSystem). f.blocks) same_files ∙ seen.count_is

  -- what a block holds is bytes
  value_small : (n k : ℕ) → slice_index (block_value d (cached_in s 0) n) k < 256
  value_small n k = by_page ((cached_in s 0).page n) refl
    where
      by_page : (o : Option (List ℕ)) → (cached_in s 0).page n ≡ o → slice_index (unwrap_or o (d.block n)) k < 256
      by_page None is = small n k
      by_page (Some bytes) is = (cache.whole n bytes is).small k

  bytes_so : AreDiskBytes e
  bytes_so n k = elim (cases_lt n d.count) [
    | inl below ↦ subst (λ (bytes : List ℕ). slice_index bytes k < 256) (sym (holds.blocks n below)) (value_small n k)
    | inr past ↦
        let beyond : d.count ≤ n = grind (arith, past) in
        subst (λ (bytes : List ℕ). slice_index bytes k < 256) (sym (holds.beyond n beyond)) (small n k)
  ]

  held_files : HoldsFiles e files
  held_files = record {
    image = subst (λ (n : ℕ). IsDiskImage (BLKSIZE * n) (byte_in_blocks e.block)) (sym holds.count) image_so;
    count = count_so ∙ sym holds.count;
    bytes = bytes_so;
    are = same_files ∙ seen.are;
  }

-- So where the cache was written back, the disk has the files of the abstract system.
pub files_written : (d e : Disk) (s : KernelState) (a : AbstractState) → StandsWhole (beside s (Some d)) a → is_acting a.server ≡ false →
    HoldsCache d e (cached_in s 0) → TellsFiles (Some e) a.files
files_written d e s a whole rests holds =
    let over = whole.1.serving.stands in
    held_files d e s a.files holds over.bytes over.cache.stands.cache (files_stand d s a whole rests)
