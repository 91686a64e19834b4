-- Where the cache fetches no block the server may stand at any step; and where a job makes its step none is fetched.
use Rattle.std.proofs.Common.{◌≡◌, ◌∙◌, ℕ, true, false, sym, ap, subst}
use Rattle.std.proofs.lemmas.Bool.{false≢true}
use Rattle.jos_base.specs.KernelState.{KernelState}
use Rattle.fs_blocks.specs.declared.place.CachePlace.{CachePlace}
use Rattle.fs_blocks.specs.declared.place.CacheState.{CacheState}
use Rattle.fs_cache.specs.CacheSteps.{cache_state, is_fetching}
use Rattle.fs_jobs.specs.declared.asks.TreeAsk.{TreeAsk}
use Rattle.fs_jobs.specs.declared.asks.TreeAsk.TheVariants as ask
use Rattle.fs_jobs.specs.declared.place.TreeState.{TreeState}
use Rattle.fs_runs.specs.TreePlans as tree
use Rattle.fs_tree.specs.TreeSteps.{HasFound, is_of_disk, job_in}
use Rattle.fs_requests.specs.declared.state.ServerStep.{ServerStep}
use Rattle.fs_requests.specs.declared.state.ServerStep.TheVariants as step
use Rattle.fs_server.specs.ServerSteps.{server_at}
use Rattle.fs_seen.specs.ServerSees.{AccessRests, CacheRests, is_working}

-- ---- what a job asks

pub access_rests : (it : TreeAsk) (place : CachePlace) → is_fetching place ≡ false → AccessRests it place
access_rests (ask.Load at) place rests = tt
access_rests (ask.LoadByte at) place rests = tt
access_rests (ask.Store at word) place rests = tt
access_rests (ask.StoreByte at byte) place rests = tt
access_rests (ask.Request at) place rests = rests
access_rests (ask.HandBack at byte) place rests = rests

-- a block of the disk may be fetched
pub disk_rests : (it : TreeAsk) (place : CachePlace) → is_of_disk it ≡ true → AccessRests it place
disk_rests (ask.Load at) place of = tt
disk_rests (ask.LoadByte at) place of = tt
disk_rests (ask.Store at word) place of = tt
disk_rests (ask.StoreByte at byte) place of = tt
disk_rests (ask.Request at) place of = absurd (false≢true of)
disk_rests (ask.HandBack at byte) place of = absurd (false≢true of)

-- the block that was found is fetched no more
pub found_rests : (it : TreeAsk) (place : CachePlace) → HasFound it place → AccessRests it place → is_fetching place ≡ false
found_rests (ask.Load at) place found rests = ap is_fetching found
found_rests (ask.LoadByte at) place found rests = ap is_fetching found
found_rests (ask.Store at word) place found rests = ap is_fetching found
found_rests (ask.StoreByte at byte) place found rests = ap is_fetching found
found_rests (ask.Request at) place found rests = rests
found_rests (ask.HandBack at byte) place found rests = rests

-- ---- where the server stands

module _ (s : KernelState) (n : ℕ) where
  pub rests_at : (at : ServerStep) → is_fetching (cache_state s n).place ≡ false → CacheRests at s n
  rests_at step.Working rests = access_rests (tree.ask_at (job_in s n)) (cache_state s n).place rests
  rests_at step.Finding rests = access_rests (tree.ask_at (job_in s n)) (cache_state s n).place rests
  rests_at step.Sizing rests = access_rests (tree.ask_at (job_in s n)) (cache_state s n).place rests
  rests_at _ rests = rests

  pub rests_there : (at : ServerStep) → is_working at ≡ false → CacheRests at s n → is_fetching (cache_state s n).place ≡ false
  rests_there step.Working off rests = absurd (false≢true (sym off))
  rests_there step.Finding off rests = absurd (false≢true (sym off))
  rests_there step.Sizing off rests = absurd (false≢true (sym off))
  rests_there _ off rests = rests

  -- while a job is under way
  pub job_rests : (at : ServerStep) → is_working at ≡ true → AccessRests (tree.ask_at (job_in s n)) (cache_state s n).place → CacheRests at s n
  job_rests step.Working on rests = rests
  job_rests step.Finding on rests = rests
  job_rests step.Sizing on rests = rests
  job_rests _ on rests = absurd (false≢true on)

  pub rests_of_job : (at : ServerStep) → is_working at ≡ true → CacheRests at s n → AccessRests (tree.ask_at (job_in s n)) (cache_state s n).place
  rests_of_job step.Working on rests = rests
  rests_of_job step.Finding on rests = rests
  rests_of_job step.Sizing on rests = rests
  rests_of_job _ on rests = absurd (false≢true on)

-- Where the server, its job and its cache stand where they stood.
pub rests_same : (s after : KernelState) (n : ℕ) → (server_at after n).step ≡ (server_at s n).step → job_in after n ≡ job_in s n →
    cache_state after n ≡ cache_state s n → CacheRests (server_at s n).step s n → CacheRests (server_at after n).step after n
rests_same s after n step_is job_is cache_is rests =
    subst (λ (at : ServerStep). CacheRests at after n) (sym step_is) (by_step (server_at s n).step rests)
  where
    by_step : (at : ServerStep) → CacheRests at s n → CacheRests at after n
    by_step step.Working rests =
        subst (λ (c : CacheState). AccessRests (tree.ask_at (job_in after n)) c.place) (sym cache_is)
        (subst (λ (j : TreeState). AccessRests (tree.ask_at j) (cache_state s n).place) (sym job_is) rests)
    by_step step.Finding rests =
        subst (λ (c : CacheState). AccessRests (tree.ask_at (job_in after n)) c.place) (sym cache_is)
        (subst (λ (j : TreeState). AccessRests (tree.ask_at j) (cache_state s n).place) (sym job_is) rests)
    by_step step.Sizing rests =
        subst (λ (c : CacheState). AccessRests (tree.ask_at (job_in after n)) c.place) (sym cache_is)
        (subst (λ (j : TreeState). AccessRests (tree.ask_at j) (cache_state s n).place) (sym job_is) rests)
    by_step _ rests = ap (λ (c : CacheState). is_fetching c.place) cache_is ∙ rests

-- Where it ran no job, and its cache stands where it stood.
pub rests_still : (s after : KernelState) (n : ℕ) → is_working (server_at s n).step ≡ false → cache_state after n ≡ cache_state s n →
    CacheRests (server_at s n).step s n → CacheRests (server_at after n).step after n
rests_still s after n off cache_is rests =
    rests_at after n (server_at after n).step
    (ap (λ (c : CacheState). is_fetching c.place) cache_is ∙ rests_there s n (server_at s n).step off rests)
