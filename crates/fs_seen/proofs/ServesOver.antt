-- The server over the kernel serves by its own calls as the abstract one does.
use Rattle.std.proofs.Common.{◌≡◌, ◌⊎◌, inl, inr, ℕ, true, false, refl, sym, subst}
use Rattle.jos_base.specs.KernelState.{KernelState}
use Rattle.lib_os.specs.declared.progress.Progress.{Progress}
use Rattle.lib_os.specs.AbstractState.{AbstractState}
use Rattle.lib_os.specs.Disk.{Disk}
use Rattle.fs_requests.specs.declared.plan.ServerNext.{ServerNext}
use Rattle.fs_requests.specs.declared.state.ServerState.{ServerState}
use Rattle.fs_requests.specs.declared.state.ServerStep.{ServerStep}
use Rattle.fs_requests.specs.declared.state.ServerStep.TheVariants as step
use Rattle.fs_requests.specs.ServerPlans.{ask_for}
use Rattle.fs_runs.specs.TreeRuns.{AreSmall}
use Rattle.fs_serving.specs.ServerRuns.{Follows, GoesOnBy, StandsServing, is_serving}
use Rattle.fs_serving.specs.ServerViews.{Calls, Serving}
use Rattle.fs_serving.proofs.ServedWhole.{all_servers_serve}
use Rattle.fs_server.specs.ServerSteps.{server_at}
use Rattle.fs_seen.specs.ServerMemory.{serving_in}
use Rattle.fs_seen.specs.ServerSees.{CallsServe, HasServed, IsSeen, is_quiet, is_working, makes_call}
use Rattle.fs_seen.proofs.CallsSeen.{calls_are_seen}
use Rattle.fs_seen.proofs.Needs.{has_needs, reads_page}
use Rattle.fs_seen.proofs.Over.{all_small}
use Rattle.fs_seen.proofs.Rests.{rests_still}
use Rattle.fs_seen.proofs.ServesAs.{follows_as}
use Rattle.fs_seen.proofs.TakingLaw.{pages_are_taken}

-- what a step of the server's own asks for is a call
module _ (count : ℕ) (a : AbstractState) (it : Serving) (next : ServerNext) (behind : Serving) (calls : Calls it next behind) where
  called_so : (st : ServerState) (at : ServerStep) → makes_call at ≡ true → GoesOnBy (ask_for st at) count a it → Follows count a next.seen behind
  called_so st step.ReadingKind is goes = goes next behind calls
  called_so st step.ReadingClient is goes = goes next behind calls
  called_so st step.ReadingFile is goes = goes next behind calls
  called_so st step.ReadingOffset is goes = goes next behind calls
  called_so st step.ReadingCount is goes = goes next behind calls
  called_so st step.ReadingRecord is goes = goes next behind calls
  called_so st step.LookingRecord is goes = goes next behind calls
  called_so st step.LookingEntry is goes = goes next behind calls
  called_so st step.LookingHolders is goes = goes next behind calls
  called_so st step.TakingPage is goes = goes next behind calls
  called_so st step.ReadingMode is goes = goes next behind calls
  called_so st step.StoringRecord is goes = goes next behind calls
  called_so st step.StoringDevice is goes = goes next behind calls
  called_so st step.ReadingModeAgain is goes = goes next behind calls
  called_so st step.StoringMode is goes = goes next behind calls
  called_so st step.StoringFile is goes = goes next behind calls
  called_so st step.ReadingRecordAgain is goes = goes next behind calls
  called_so st step.StoringSize is goes = goes next behind calls
  called_so st step.Advancing is goes = goes next behind calls
  called_so st step.StoringOffset is goes = goes next behind calls
  called_so st step.CheckingRecord is goes = goes next behind calls
  called_so st step.CheckingEntry is goes = goes next behind calls
  called_so st step.CheckingHolders is goes = goes next behind calls
  called_so st step.Acting is goes = goes next behind calls
  called_so st step.Releasing is goes = goes next behind calls
  called_so st step.Receiving is goes = goes next behind calls
  called_so st step.Replying is goes = goes next behind calls
  called_so st step.Pausing is goes = goes next behind calls
  called_so st step.Working is goes = absurd (let contradiction : false ≡ true = is in cc)
  called_so st step.Finding is goes = absurd (let contradiction : false ≡ true = is in cc)
  called_so st step.Sizing is goes = absurd (let contradiction : false ≡ true = is in cc)
  called_so st step.Flushing is goes = absurd (let contradiction : false ≡ true = is in cc)

-- such a step is one from a request up to the reply
pub call_serves : (at : ServerStep) → makes_call at ≡ true → is_serving at ≡ true
call_serves step.ReadingKind is = refl
call_serves step.ReadingClient is = refl
call_serves step.ReadingFile is = refl
call_serves step.ReadingOffset is = refl
call_serves step.ReadingCount is = refl
call_serves step.ReadingRecord is = refl
call_serves step.LookingRecord is = refl
call_serves step.LookingEntry is = refl
call_serves step.LookingHolders is = refl
call_serves step.TakingPage is = refl
call_serves step.ReadingMode is = refl
call_serves step.Working is = refl
call_serves step.Finding is = refl
call_serves step.StoringRecord is = refl
call_serves step.StoringDevice is = refl
call_serves step.ReadingModeAgain is = refl
call_serves step.StoringMode is = refl
call_serves step.StoringFile is = refl
call_serves step.ReadingRecordAgain is = refl
call_serves step.Sizing is = refl
call_serves step.StoringSize is = refl
call_serves step.Advancing is = refl
call_serves step.StoringOffset is = refl
call_serves step.CheckingRecord is = refl
call_serves step.CheckingEntry is = refl
call_serves step.CheckingHolders is = refl
call_serves step.Flushing is = refl
call_serves step.Acting is = refl
call_serves step.Releasing is = is
call_serves step.Receiving is = is
call_serves step.Replying is = is
call_serves step.Pausing is = is

-- it is quiet, or takes a page
pub quiet_or_taking : (at : ServerStep) → makes_call at ≡ true → (is_quiet at ≡ true) ⊎ (at ≡ step.TakingPage)
quiet_or_taking step.TakingPage is = inr refl
quiet_or_taking step.ReadingKind is = inl refl
quiet_or_taking step.ReadingClient is = inl refl
quiet_or_taking step.ReadingFile is = inl refl
quiet_or_taking step.ReadingOffset is = inl refl
quiet_or_taking step.ReadingCount is = inl refl
quiet_or_taking step.ReadingRecord is = inl refl
quiet_or_taking step.LookingRecord is = inl refl
quiet_or_taking step.LookingEntry is = inl refl
quiet_or_taking step.LookingHolders is = inl refl
quiet_or_taking step.ReadingMode is = inl refl
quiet_or_taking step.StoringRecord is = inl refl
quiet_or_taking step.StoringDevice is = inl refl
quiet_or_taking step.ReadingModeAgain is = inl refl
quiet_or_taking step.StoringMode is = inl refl
quiet_or_taking step.StoringFile is = inl refl
quiet_or_taking step.ReadingRecordAgain is = inl refl
quiet_or_taking step.StoringSize is = inl refl
quiet_or_taking step.Advancing is = inl refl
quiet_or_taking step.StoringOffset is = inl refl
quiet_or_taking step.CheckingRecord is = inl refl
quiet_or_taking step.CheckingEntry is = inl refl
quiet_or_taking step.CheckingHolders is = inl refl
quiet_or_taking step.Acting is = inl refl
quiet_or_taking step.Working is = inl is
quiet_or_taking step.Finding is = inl is
quiet_or_taking step.Sizing is = inl is
quiet_or_taking step.Flushing is = inl is
quiet_or_taking step.Releasing is = inl is
quiet_or_taking step.Receiving is = inl is
quiet_or_taking step.Replying is = inl is
quiet_or_taking step.Pausing is = inl refl

-- and no job is under way
pub call_idle : (at : ServerStep) → makes_call at ≡ true → is_working at ≡ false
call_idle step.Working is = absurd (let contradiction : false ≡ true = is in cc)
call_idle step.Finding is = absurd (let contradiction : false ≡ true = is in cc)
call_idle step.Sizing is = absurd (let contradiction : false ≡ true = is in cc)
call_idle _ is = refl

-- what is seen of the server is what the server by itself does
pub seen_serves : (count : ℕ) (a : AbstractState) (d : Disk) (s after : KernelState) (done : Progress) → makes_call (server_at s 0).step ≡ true →
    AreSmall (serving_in d s 0).view.memory → StandsServing count a (serving_in d s 0) → IsSeen d s after 0 done → HasServed count a d s after 0 done
seen_serves count a d s after done is small h seen =
    let goes = all_servers_serve count a (serving_in d s 0) (call_serves (server_at s 0).step is) small h in
    let behind = called_so count a (serving_in d s 0) seen.next seen.behind seen.calls (server_at s 0) (server_at s 0).step is goes in
    record {
      follows = subst (λ (p : Progress). Follows count a p (serving_in d after 0)) (sym seen.shows)
          (follows_as count a seen.next.seen seen.behind (serving_in d after 0) seen.stands_as behind);
      stands = seen.stands;
      request_stays = seen.request_stays;
      rests = rests_still s after 0 (call_idle (server_at s 0).step is) seen.cache;
    }

pub calls_serve : CallsServe
calls_serve count a d s after output done is requested stands h order called =
    let small = all_small d s 0 stands in
    elim (quiet_or_taking (server_at s 0).step is) [
      | inl quiet ↦
          inl (seen_serves count a d s after done is small h
          (calls_are_seen d s after 0 output done quiet (has_needs count a (serving_in d s 0) 0 refl h)
          (reads_page count a (serving_in d s 0) s 0 requested h) stands order called))
      | inr taking ↦ elim (pages_are_taken d s after 0 output done taking
          (λ number below used. (h.table.places number below).there used) stands order called) [
            | inl seen ↦ inl (seen_serves count a d s after done is small h seen)
            | inr refused ↦ inr (taking, refused)
          ]
    ]
