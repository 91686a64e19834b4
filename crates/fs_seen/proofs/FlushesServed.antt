-- The server over the kernel serves by the steps of a flush as the abstract one does.
use Rattle.std.proofs.Common.{◌≡◌, ◌∙◌, ◌/◌, ◌%◌, ◌<◌, ℕ, Bool, true, false, List, Option, Some, None, refl, sym, ap, subst, arith, if◌then◌else◌}
use Rattle.std.proofs.lemmas.Bool.Decides.{nat_tests}
use Rattle.std.proofs.lemmas.Option.{none-some, same_Some}
use Rattle.std.specs.Prelude.{is_some, nat_lt, slice_index}
use Rattle.jos_host.specs.Files.{Files}
use Rattle.jos_host.specs.Frames.{Around, from_to}
use Rattle.jos_base.specs.KernelState.{KernelState}
use Rattle.jos_base.specs.Reach.{Entry}
use Rattle.fs_layout.specs.declared.numbers.TheConstants.{BLKSIZE}
use Rattle.lib_os.specs.declared.progress.Progress.{Progress}
use Rattle.lib_os.specs.declared.progress.Progress.TheVariants as progress
use Rattle.lib_os.specs.AbstractState.{AbstractState}
use Rattle.lib_os.specs.BlockCache.{CachedBlocks, KeepsValues, block_value}
use Rattle.lib_os.specs.Disk.{Disk, DiskFile, disk_in}
use Rattle.lib_os.specs.InOrder.{IsInOrder}
use Rattle.lib_os.specs.UserCalls.{Output}
use Rattle.fs_blocks.specs.declared.place.CacheState.{CacheState}
use Rattle.fs_cache.specs.declared.steps.Flushed.{Flushed}
use Rattle.fs_cache.specs.declared.steps.Flushed.TheVariants as flushed
use Rattle.fs_cache.specs.CacheStands.{cached_in}
use Rattle.fs_cache.specs.CacheSteps.{FlushTells, HasGone, cache_state, caller, flush_state, is_fetching}
use Rattle.fs_cache.proofs.CacheBegins.{flush_goes, flush_stands}
use Rattle.fs_cache.proofs.CacheLaw.{server_of}
use Rattle.fs_cache.proofs.Interfaces.{view_in as cache_seen}
use Rattle.fs_tree.specs.TreeSteps.{disk_bytes, job_in, memory_in, request_bytes}
use Rattle.fs_tree.proofs.TiesBlocks.{request_number}
use Rattle.fs_requests.specs.declared.plan.ServerNext.{ServerNext}
use Rattle.fs_requests.specs.declared.state.ServerStep.{ServerStep}
use Rattle.fs_requests.specs.declared.state.ServerStep.TheVariants as step
use Rattle.fs_requests.specs.ServerPlans.{ask_for, next_at}
use Rattle.fs_serving.specs.ServerRuns.{Follows, GoesOnBy, StandsServing, is_serving}
use Rattle.fs_serving.specs.ServerViews.{Serving, gone_on}
use Rattle.fs_serving.proofs.ServedWhole.{all_servers_serve}
use Rattle.fs_server.specs.ServerSteps as server
use Rattle.fs_server.specs.ServerSteps.{Flushes, HasFlushed, ends, goes, server_at}
use Rattle.fs_seen.specs.BlockSteps.{FlushesServe, SeesAlike}
use Rattle.fs_seen.specs.ServerMemory.{IsRequestPage, StandsOver, entry_of, has_request, serving_in, view_in}
use Rattle.fs_seen.specs.ServerSees.{AllStands, CacheRests, HasServed, is_working}
use Rattle.fs_seen.proofs.CacheLeaves.{CacheLeaves, step_leaves}
use Rattle.fs_seen.proofs.DiskStays.{bytes_gone}
use Rattle.fs_seen.proofs.GoesOn.{goes_well}
use Rattle.fs_seen.proofs.JobsServed.{follows_seen, number_below}
use Rattle.fs_seen.proofs.Over.{RequestAlike, all_small, bytes_alike, has_alike, no_page, request_of}
use Rattle.fs_seen.proofs.Rests.{rests_at, rests_there}
use Rattle.fs_seen.proofs.SeenAlike.{seeing, sees_as}
use Rattle.fs_seen.proofs.ServesAs.{follows_as, serves_as}
use Rattle.fs_seen.proofs.Setting.{going_to, has_gone_on}
use Rattle.fs_seen.proofs.TableLeft.{sees_left, table_there}

-- what each block holds, the disk does
values_same : (d e : Disk) (c k : CachedBlocks) → e.count ≡ d.count → KeepsValues d c e k → disk_bytes e k ≡ disk_bytes d c
values_same d e c k count keeps =
    (λ i q. if nat_lt (q / BLKSIZE) (count i) then slice_index (block_value e k (q / BLKSIZE)) (q % BLKSIZE) else 0)
    ∙ (λ i q. by_test q (nat_lt (q / BLKSIZE) d.count) refl i)
  where
    by_test : (q : ℕ) (t : Bool) → nat_lt (q / BLKSIZE) d.count ≡ t →
        (if t then slice_index (block_value e k (q / BLKSIZE)) (q % BLKSIZE) else 0)
        ≡ (if t then slice_index (block_value d c (q / BLKSIZE)) (q % BLKSIZE) else 0)
    by_test q false off = refl
    by_test q true on =
        let below : q / BLKSIZE < d.count = grind (arith, nat_tests) in
        ap (λ (page : List ℕ). slice_index page (q % BLKSIZE)) (keeps (q / BLKSIZE) below)

-- ---- what is so behind a step

-- the page of a request, and its bytes
record RequestNow (s after : KernelState) (n : ℕ) : Type 0 where
  pages : (e : Entry) → entry_of after n request_number ≡ Some e → IsRequestPage after n e
  bytes : request_bytes after n ≡ request_bytes s n
  stays : has_request after n ≡ has_request s n

-- The cache stands over the disk that the host tells then, the table stands, and the same is seen.
pub record FlushLeaves (disk : DiskFile) (d : Disk) (s after : KernelState) (n : ℕ) (files : Option Files) : Type 0 where
  pub now : Files
  pub told : files ≡ Some now
  pub over : StandsOver (disk_in now disk) after n
  pub request_stays : has_request after n ≡ has_request s n
  pub sees : SeesAlike (view_in d s n) (view_in (disk_in now disk) after n)
  pub server : server_at after n ≡ server_at s n

module _ (disk : DiskFile) (before : Files) (s : KernelState) (n : ℕ) (all : AllStands (disk_in before disk) s n)
    (files : Around (Option Files)) (output : Output) (is : files.before ≡ Some before) where
  abbrev d : Disk
  d = disk_in before disk

  abbrev h : StandsOver d s n
  h = all.stands

  -- the page of a request stays, or none is there
  request_now : (after : KernelState) → CacheLeaves s after n → RequestNow s after n
  request_now after left = by_entry (entry_of s n request_number) refl
    where
      by_entry : (o : Option Entry) → entry_of s n request_number ≡ o → RequestNow s after n
      by_entry None at =
          let none : RequestAlike s after n = no_page at (left.table.lacks at) in
          record {
            pages = λ e there. absurd (none-some e (sym (left.table.lacks at) ∙ there));
            bytes = bytes_alike s after n (λ x there. absurd (none-some x (sym at ∙ there))) none;
            stays = has_alike s after n none;
          }
      by_entry (Some x) at =
          let kept = left.kept (request_of d s n all x at) in
          let request = kept.request in
          record {
            pages = λ e there.
                subst (λ (y : Entry). IsRequestPage after n y) (same_Some request.entry e (sym request.stands ∙ there))
                (record { bits = request.bits; apart = request.apart });
            bytes = kept.bytes;
            stays = ap (λ (o : Option Entry). is_some o) request.stands ∙ sym (ap (λ (o : Option Entry). is_some o) at);
          }

  pub flush_leaves : (done : Flushed) (after : KernelState) → Flushes done disk n s after files output → FlushLeaves disk d s after n files.after
  flush_leaves done after it =
      let kept = it.cache before is h.cache in
      let e : Disk = disk_in kept.0 disk in
      let left : CacheLeaves s after n =
      step_leaves d (caller s n disk) (server_of d s n h.cache) (flush_state s n) before files.after it.made.0 after output h.table h.cache.words
      (flush_stands d (cache_seen s n) (cache_state s n).place (cache_state s n).hand h.cache.stands) (flush_goes (cache_state s n).place)
      (subst (λ (f : Option Files). HasGone (flush_state s n) (caller s n disk) (from_to f files.after) it.made.0 after output) is it.made.2) in
      let same = values_same d e (cached_in s n) (cached_in after n) refl kept.3 in
      let request = request_now after left in
      record {
        now = kept.0;
        told = kept.1;
        over = record {
          cache = kept.2;
          count = h.count;
          bytes = bytes_gone disk before s n h files is kept.0 kept.1 (flush_state s n) it.made.0 after output it.made.2;
          request = request.pages;
          table = table_there s after n left.table h.table;
        };
        request_stays = request.stays;
        sees = sees_left s after n left.table d e (memory_in d s n) (λ i. record { disk = same i; page = request.bytes i }) left.rendezvous;
        server = left.server;
      }

  -- ---- the server serves so

  module _ (count : ℕ) (a : AbstractState) (flushing : (server_at s n).step ≡ step.Flushing)
      (stands : StandsServing count a (serving_in d s n)) where
    abbrev it : Serving
    it = serving_in d s n

    goes_on_so : let next = next_at (server_at s n) 0 in Follows count a next.seen (gone_on it next it.view)
    goes_on_so =
        subst (λ (at : ServerStep). GoesOnBy (ask_for (server_at s n) at) count a it) flushing
        (all_servers_serve count a it (subst (λ (at : ServerStep). is_serving at ≡ true) (sym flushing) refl) (all_small d s n all) stands)

    idle : is_working (server_at s n).step ≡ false
    idle = ap is_working flushing

    abbrev Served : KernelState → Progress → Type 0
    Served after done = (now : Files) × (files.after ≡ Some now) × HasServed count a (disk_in now disk) s after n done

    was_resting : CacheRests (server_at s n).step s n → is_fetching (cache_state s n).place ≡ false
    was_resting = rests_there s n (server_at s n).step idle

    goes_further : (after : KernelState) → FlushLeaves disk d s after n files.after → FlushTells flushed.Going n (from_to s after) →
        Served after progress.Hidden
    goes_further after left tells =
        let e : Disk = disk_in left.now disk in (
          left.now,
          left.told,
          record {
            follows = serves_as count a (seeing it (view_in e after n)) (serving_in e after n)
                (record {
                  at_step = λ i. (sym left.server i).step;
                  kind = λ i. (sym left.server i).kind;
                  client = λ i. (sym left.server i).client;
                  number = λ i. (sym left.server i).number;
                  words = λ off. sym left.server;
                  job = λ on. absurd (let contradiction : true ≡ false = sym on ∙ idle in cc);
                  view = refl;
                })
                (sees_as count a it (view_in e after n) left.sees stands);
            stands = left.over;
            request_stays = left.request_stays;
            rests = λ was. rests_at after n (server_at after n).step (tells.1 (was_resting was)).0;
          },
        )

    ends_so : (mid after : KernelState) → IsInOrder after → FlushLeaves disk d s mid n files.after → FlushTells flushed.Clean n (from_to s mid) →
        after ≡ server.gone_on mid n (next_at (server_at s n) 0) → Served after (next_at (server_at s n) 0).seen
    ends_so mid after order left tells gone_is =
        let e : Disk = disk_in left.now disk in
        let next : ServerNext = next_at (server_at s n) 0 in
        let gone =
        has_gone_on mid n next e (goes_well (server_at s n) (server_at s n).step 0 (number_below s n)) left.over (job_in s n) after gone_is
        order in (
          left.now,
          left.told,
          record {
            follows = follows_as count a next.seen (going_to next (job_in s n) (view_in e mid n)) (serving_in e after n) gone.stands_as
                (follows_seen count a next.seen (going_to next (job_in s n) (view_in d s n)) (view_in e mid n) left.sees goes_on_so);
            stands = gone.over;
            request_stays = gone.request_stays ∙ left.request_stays;
            rests = λ was.
                rests_at after n (server_at after n).step (ap (λ (c : CacheState). is_fetching c.place) gone.cache ∙ ap is_fetching tells.1);
          },
        )

    has_flushed : (after : KernelState) (done : Progress) → IsInOrder after → HasFlushed (server_at s n) disk s after n files output done →
        Served after done
    has_flushed after _ order (goes flushes) = goes_further after (flush_leaves _ after flushes) (flushes.tells before is h.cache)
    has_flushed after _ order (ends mid flushes gone_is) =
        ends_so mid after order (flush_leaves _ mid flushes) (flushes.tells before is h.cache) gone_is

pub flushes_serve : FlushesServe
flushes_serve count a disk before s after files output done flushing all stands order is flushed =
    has_flushed disk before s 0 all files output is count a flushing stands after done order flushed
