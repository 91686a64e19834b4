-- The server over the kernel serves by the steps of its job on files as the abstract one does.
use Rattle.std.proofs.Common.{◌≡◌, ◌∙◌, ◌⊎◌, ◌&&◌, ◌==◌, ◌+◌, ◌-◌, ◌%◌, ◌<◌, ◌^◌, inl, inr, ℕ, zero, suc, Bool, true, false, [], ◌∷◌, length}
use Rattle.std.proofs.Common.{refl, sym, ap, subst, arith, if◌then◌else◌}
use Rattle.std.specs.Prelude.{get_or, nat_le, nat_lt, slice_index}
use Rattle.std.specs.Int.{w32, to_le_bytes}
use Rattle.std.proofs.lemmas.Bool.{false≢true}
use Rattle.jos_host.specs.Files.{Files}
use Rattle.jos_base.specs.declared.numbers.TheConstants.{E_NO_MEM}
use Rattle.jos_base.specs.KernelState.{KernelState}
use Rattle.jos_base.specs.Words.{negated, upd}
use Rattle.lib_os.specs.declared.numbers.TheConstants.{MAXOPEN}
use Rattle.lib_os.specs.declared.progress.Progress.{Progress}
use Rattle.lib_os.specs.declared.progress.Progress.TheVariants as progress
use Rattle.lib_os.specs.AbstractState.{AbstractState}
use Rattle.lib_os.specs.Disk.{Disk, DiskFile, disk_in}
use Rattle.lib_os.specs.InOrder.{IsInOrder}
use Rattle.fs_acts.specs.BlockActs.{stored, with_bytes}
use Rattle.fs_blocks.specs.declared.place.CacheState.{CacheState}
use Rattle.fs_cache.specs.CacheSteps.{cache_state, is_fetching}
use Rattle.fs_jobs.specs.declared.asks.TreeAsk.{TreeAsk}
use Rattle.fs_jobs.specs.declared.asks.TreeAsk.TheVariants as asks
use Rattle.fs_jobs.specs.declared.asks.TreeNext.TheVariants.{Answer}
use Rattle.fs_jobs.specs.declared.place.TreeState.{TreeState}
use Rattle.fs_jobs.specs.TreeTests.{low_byte}
use Rattle.fs_runs.specs.TreePlans as tree
use Rattle.fs_runs.specs.TreeRuns.{AreSmall, Memory, memory_after}
use Rattle.fs_tree.specs.declared.steps.Acted.{Acted}
use Rattle.fs_tree.specs.declared.steps.Acted.TheVariants as acted
use Rattle.fs_tree.specs.TreeSteps as steps
use Rattle.fs_tree.specs.TreeSteps.{HasMoved, HasStepped, IsWaiting, TreeAt, job_in, memory_in, reply_in}
use Rattle.fs_requests.specs.declared.plan.ServerNext.{ServerNext}
use Rattle.fs_requests.specs.declared.state.ServerStep.{ServerStep}
use Rattle.fs_requests.specs.declared.state.ServerStep.TheVariants as step
use Rattle.fs_requests.specs.ServerPlans.{ask_for, next_at}
use Rattle.fs_requests.specs.ServerWords.{server_in}
use Rattle.fs_serving.specs.ServerRuns.{Follows, GoesOnBy, StandsAtStep, StandsServing, WorksOn, is_serving, memory_worked, worked}
use Rattle.fs_serving.specs.ServerViews.{Serving, View}
use Rattle.fs_serving.proofs.ServedWhole.{all_servers_serve}
use Rattle.fs_server.specs.ServerSteps as server
use Rattle.fs_server.specs.ServerSteps.{HasWorked, answers, goes, server_at}
use Rattle.fs_seen.specs.BlockSteps.{JobsAreLawful, JobsServe, LacksBlock, SeesAlike}
use Rattle.fs_seen.specs.ServerMemory.{AreDiskBytes, HasRequested, StandsOver, has_request, serving_in, view_in}
use Rattle.fs_seen.specs.ServerSees.{AccessRests, AllStands, CacheRests, HasServed, ServesAlike, is_working}
use Rattle.fs_seen.proofs.GoesOn.{goes_well}
use Rattle.fs_seen.proofs.DiskStays.{bytes_behind}
use Rattle.fs_seen.proofs.JobsLeave.{job_leaves}
use Rattle.fs_seen.proofs.Needs.{finding_page, sizing_page, working_page}
use Rattle.fs_seen.proofs.Over.{all_small, over_of, tree_of, tree_requested}
use Rattle.fs_seen.proofs.Rests.{disk_rests, found_rests, job_rests, rests_at, rests_of_job}
use Rattle.fs_seen.proofs.SeenAlike.{seeing, sees_as}
use Rattle.fs_seen.proofs.ServesAs.{follows_as, serves_as}
use Rattle.fs_seen.proofs.Setting.{HasGoneOn, going_to, has_gone_on}
use Rattle.fs_seen.proofs.TableLeft.{LeavesRest, rendezvous_still, sees_left, still, table_there}

-- ---- bytes stay small

four_small : (a b c d : ℕ) → a < 256 → b < 256 → c < 256 → d < 256 → (k : ℕ) → get_or (a ∷ b ∷ c ∷ d ∷ []) k 0 < 256
four_small a b c d e f g h zero = e
four_small a b c d e f g h (suc zero) = f
four_small a b c d e f g h (suc (suc zero)) = g
four_small a b c d e f g h (suc (suc (suc zero))) = h
four_small a b c d e f g h (suc (suc (suc (suc k)))) = omega arith

word_small : (byte : ℕ → ℕ) (at word : ℕ) → ((q : ℕ) → byte q < 256) → (q : ℕ) → with_bytes byte at (to_le_bytes w32 word) q < 256
unfolding with_bytes
word_small byte at word small q = by (nat_le at q && nat_lt q (at + length (to_le_bytes w32 word)))
  where
    by : (b : Bool) → (if b then slice_index (to_le_bytes w32 word) (q - at) else byte q) < 256
    by true = four_small _ _ _ _ (omega arith) (omega arith) (omega arith) (omega arith) (q - at)
    by false = small q

byte_small : (byte : ℕ → ℕ) (at value : ℕ) → ((q : ℕ) → byte q < 256) → (q : ℕ) → upd byte at (low_byte value) q < 256
unfolding upd
byte_small byte at value small q = by (q == at)
  where
    by : (b : Bool) → (if b then value % 256 else byte q) < 256
    by true = omega arith
    by false = small q

still_small : (it : TreeAsk) (m : Memory) → AreSmall m → AreSmall (memory_after it m)
unfolding stored
still_small (asks.Load at) m small = small
still_small (asks.LoadByte at) m small = small
still_small (asks.Store at word) m small = (word_small m.disk at word small.0, small.1)
still_small (asks.StoreByte at byte) m small = (byte_small m.disk at byte small.0, small.1)
still_small (asks.Request at) m small = small
still_small (asks.HandBack at byte) m small = (small.0, byte_small m.page at byte small.1)

-- ---- a job is under way

-- what is so at each step that has one
pub at_job : (P : ServerStep → Type 0) → P step.Working → P step.Finding → P step.Sizing → (at : ServerStep) → is_working at ≡ true → P at
at_job P working finding sizing step.Working on = working
at_job P working finding sizing step.Finding on = finding
at_job P working finding sizing step.Sizing on = sizing
at_job P working finding sizing _ on = absurd (false≢true on)

works_on : (count : ℕ) (a : AbstractState) (it : Serving) → is_working it.state.step ≡ true → AreSmall it.view.memory → StandsServing count a it →
    WorksOn count a it
works_on count a it on small h =
    at_job (λ (at : ServerStep). GoesOnBy (ask_for it.state at) count a it → WorksOn count a it) (λ works. works) (λ works. works) (λ works. works)
    it.state.step on
    (all_servers_serve count a it (at_job (λ (at : ServerStep). is_serving at ≡ true) refl refl refl it.state.step on) small h)

-- the page of the request is there
pub page_at_work : (count : ℕ) (a : AbstractState) (it : Serving) (s : KernelState) (n : ℕ) → is_working it.state.step ≡ true → HasRequested a.server s n →
    StandsServing count a it → has_request s n ≡ true
page_at_work count a it s n on requested h =
    at_job (λ (at : ServerStep). StandsAtStep at count a it h.before → has_request s n ≡ true) (working_page a it h.before s n requested)
    (finding_page count a it h.before s n requested) (sizing_page count a it h.before s n requested) it.state.step on h.at

pub jobs_are_lawful : JobsAreLawful
jobs_are_lawful a d s n on requested over h =
    let works = works_on d.count a (serving_in d s n) on (all_small d s n over) h in (
      tree_of d s n over (page_at_work d.count a (serving_in d s n) s n on requested h),
      record { bounded = works.bounded; inside = works.inside },
    )

-- ---- what follows where the same is seen

pub follows_seen : (count : ℕ) (a : AbstractState) (done : Progress) (it : Serving) (w : View) → SeesAlike it.view w → Follows count a done it →
    Follows count a done (seeing it w)
follows_seen count a progress.Hidden it w same h = sees_as count a it w same h
follows_seen count a progress.Visible it w same h = (h.0, h.1, sees_as count h.0 it w same h.2)
follows_seen count a progress.Waited it w same h = h
follows_seen count a progress.Finished it w same h = h
follows_seen count a progress.Ended it w same h = h

pub number_below : (s : KernelState) (n : ℕ) → (server_at s n).number < MAXOPEN
unfolding server_in
number_below s n = omega arith

-- to go on refuses nothing
pub refusals_kept : (mid : KernelState) (n : ℕ) (next : ServerNext) → (server.gone_on mid n next).refusals ≡ mid.refusals
unfolding server.gone_on
refusals_kept mid n next = refl

-- ---- the job goes on

module _ (count : ℕ) (a : AbstractState) (d e : Disk) (s : KernelState) (n : ℕ) (on : is_working (server_at s n).step ≡ true)
    (requested : has_request s n ≡ true) (over : AllStands d s n) (bytes : AreDiskBytes e) (h : StandsServing count a (serving_in d s n)) where
  abbrev it : Serving
  it = serving_in d s n

  small : AreSmall (memory_in d s n)
  small = all_small d s n over

  stands_over : (after : KernelState) → LeavesRest s after n → TreeAt e after n → StandsOver e after n
  stands_over after left tree = over_of e after n tree bytes (table_there s after n left.table over.stands.table)

  stays_there : (after : KernelState) → TreeAt e after n → has_request after n ≡ has_request s n
  stays_there after tree = tree_requested e after n tree ∙ sym requested

  works : WorksOn count a it
  works = works_on count a it on small h

  -- the server with another job, over another memory
  abbrev with_job : TreeState → Memory → Serving
  with_job job m = record { state = server_at s n; job = job; view = record (view_in d s n) { memory = m } }

  lands : (after : KernelState) (job : TreeState) (m : Memory) → LeavesRest s after n → job_in after n ≡ job → memory_in e after n ≡ m →
      StandsServing count a (with_job job m) → StandsServing count a (serving_in e after n)
  lands after job m left job_is memory stands =
      let still_there = still s after n left.rest in
      serves_as count a (seeing (with_job job m) (view_in e after n)) (serving_in e after n)
      (record {
        at_step = sym still_there.at_step;
        kind = sym still_there.kind;
        client = sym still_there.client;
        number = sym still_there.number;
        words = λ off. absurd (let contradiction : true ≡ false = sym on ∙ off in cc);
        job = λ under_way. sym job_is;
        view = refl;
      })
      (sees_as count a (with_job job m) (view_in e after n) (sees_left s after n left.table d e m memory (rendezvous_still s after n left.rest)) stands)

  abbrev Served : KernelState → Progress → Type 0
  Served after done = HasServed count a e s after n done

  -- where the job has made its step no block is fetched
  moved_rests : (after : KernelState) → HasMoved d e s after n → CacheRests (server_at s n).step s n → is_fetching (cache_state after n).place ≡ false
  moved_rests after moved was =
      ap is_fetching moved.cache.place
      ∙ found_rests (tree.ask_at (job_in s n)) (cache_state s n).place moved.found (rests_of_job s n (server_at s n).step on was)

  goes_further : (told : Acted) (after : KernelState) → told ≡ acted.Going → HasStepped d e s after n told → LeavesRest s after n →
      Served after progress.Hidden
  goes_further _ after is (steps.waits waiting) left = record {
    follows = lands after (job_in s n) (memory_in d s n) left waiting.job waiting.memory h;
    stands = stands_over after left waiting.stands;
    request_stays = stays_there after waiting.stands;
    rests = λ was.
        job_rests after n (server_at after n).step (ap is_working (still s after n left.rest).at_step ∙ on)
        (subst (λ (j : TreeState). AccessRests (tree.ask_at j) (cache_state after n).place) (sym waiting.job)
        (disk_rests (tree.ask_at (job_in s n)) (cache_state after n).place waiting.of_disk));
  }
  goes_further _ after is (steps.goes next moved by there) left = record {
    follows = lands after next (memory_worked it) left there moved.memory (works.goes next by);
    stands = stands_over after left moved.stands;
    request_stays = stays_there after moved.stands;
    rests = λ was. rests_at after n (server_at after n).step (moved_rests after moved was);
  }
  goes_further _ after is (steps.answers word moved by) left = absurd (let contradiction : acted.Answer word ≡ acted.Going = is in cc)
  goes_further _ after is (steps.lacks waiting refusal resting) left =
      absurd (let contradiction : acted.Answer (negated E_NO_MEM) ≡ acted.Going = is in cc)

  -- ---- it has answered

  module _ (mid after : KernelState) (word : ℕ) (left : LeavesRest s mid n) (order : IsInOrder after)
      (is : after ≡ server.gone_on mid n (next_at (server_at s n) word)) where
    abbrev next : ServerNext
    next = next_at (server_at s n) word

    gone : TreeAt e mid n → HasGoneOn e mid after n next (job_in s n)
    gone stands =
        has_gone_on mid n next e (goes_well (server_at s n) (server_at s n).step word (number_below s n)) (stands_over mid left stands) (job_in s n) after is order

    answers_so : HasMoved d e s mid n → tree.next_at (job_in s n) (reply_in d s n) ≡ Answer word → Served after next.seen
    answers_so moved by =
        let behind = gone moved.stands in
        record {
          follows =
              follows_as count a next.seen (going_to next (job_in s n) (view_in e mid n)) (serving_in e after n) behind.stands_as
              (follows_seen count a next.seen (going_to next (job_in s n) (worked it).view) (view_in e mid n)
              (sees_left s mid n left.table d e (memory_worked it) moved.memory (rendezvous_still s mid n left.rest))
              (works.answers word (still_small (tree.ask_at (job_in s n)) (memory_in d s n) small) by));
          stands = behind.over;
          request_stays = behind.request_stays ∙ stays_there mid moved.stands;
          rests = λ was.
              rests_at after n (server_at after n).step (ap (λ (c : CacheState). is_fetching c.place) behind.cache ∙ moved_rests mid moved was);
        }

    lacks_so : IsWaiting d e s mid n → (s.refusals < 2 ^ 64 - 1 → s.refusals < mid.refusals) → word ≡ negated E_NO_MEM →
        LacksBlock d e s after n next.seen
    lacks_so waiting refusal told =
        let behind = gone waiting.stands in
        let sees = sees_left s mid n left.table d e (memory_in d s n) waiting.memory (rendezvous_still s mid n left.rest) in
        let view : view_in e mid n ≡ view_in e after n = behind.stands_as.view in
        record {
          counted = λ few. (let count = ap (λ (k : KernelState). k.refusals) is ∙ refusals_kept mid n next in
              subst (λ (r : ℕ). s.refusals < r) (sym count) (refusal few));
          stands_as = subst (λ (w : ℕ). ServesAlike (going_to (next_at (server_at s n) w) (job_in s n) (view_in e after n)) (serving_in e after n)) told
              (subst (λ (v : View). ServesAlike (going_to next (job_in s n) v) (serving_in e after n)) view behind.stands_as);
          sees = subst (λ (v : View). SeesAlike (view_in d s n) v) view sees;
          shows = ap (λ (w : ℕ). (next_at (server_at s n) w).seen) told;
          stands = behind.over;
          request_stays = behind.request_stays ∙ stays_there mid waiting.stands;
        }

    has_answered : (told : Acted) → told ≡ acted.Answer word → HasStepped d e s mid n told → Served after next.seen ⊎ LacksBlock d e s after n next.seen
    has_answered _ same (steps.waits waiting) = absurd (let contradiction : acted.Going ≡ acted.Answer word = same in cc)
    has_answered _ same (steps.goes next moved by at) = absurd (let contradiction : acted.Going ≡ acted.Answer word = same in cc)
    has_answered _ same (steps.answers other moved by) =
        let both : acted.Answer other ≡ acted.Answer word = same in
        let it_is : other ≡ word = cc in
        inl (answers_so moved (by ∙ ap (λ (w : ℕ). Answer w) it_is))
    has_answered _ same (steps.lacks waiting refusal resting) =
        let both : acted.Answer (negated E_NO_MEM) ≡ acted.Answer word = same in
        let it_is : negated E_NO_MEM ≡ word = cc in
        inr (lacks_so waiting refusal (sym it_is))

-- ---- the law

module _ (count : ℕ) (a : AbstractState) (disk : DiskFile) (before now : Files) (s : KernelState) (n : ℕ) (on : is_working (server_at s n).step ≡ true)
    (requested : HasRequested a.server s n) (all : AllStands (disk_in before disk) s n)
    (h : StandsServing count a (serving_in (disk_in before disk) s n)) where
  abbrev d : Disk
  d = disk_in before disk

  abbrev e : Disk
  e = disk_in now disk

  there : has_request s n ≡ true
  there = page_at_work count a (serving_in d s n) s n on requested h

  tree_there : TreeAt d s n
  tree_there = tree_of d s n all there

  has_worked : (after : KernelState) (done : Progress) → AreDiskBytes e → IsInOrder after → HasWorked (server_at s n) disk before now s after n done →
      HasServed count a e s after n done ⊎ LacksBlock d e s after n done
  has_worked after _ bytes order (goes stepped alone) =
      inl (goes_further count a d e s n on there all bytes h acted.Going after refl stepped
      (job_leaves disk before now s n tree_there all.stands.table after alone))
  has_worked after _ bytes order (answers word mid stepped alone is) =
      has_answered count a d e s n on there all bytes h mid after word (job_leaves disk before now s n tree_there all.stands.table mid alone) order is
      (acted.Answer word) refl stepped

pub jobs_serve : JobsServe
jobs_serve count a disk before now s after files output done on requested all h order is told made worked =
    has_worked count a disk before now s 0 on requested all h after done
    (bytes_behind disk before s 0 all.stands files is now told after output made) order worked
