-- A call that is stopped by a fault gives no word: the server is gone, or the host has failed.
use Rattle.std.proofs.Common.{ℕ, Result, Ok, Err, OnErr}
use Rattle.jos_host.specs.declared.host.Failed.{Failed}
use Rattle.jos_host.specs.Frames.{from_to}
use Rattle.jos_base.specs.KernelState.{KernelState}
use Rattle.lib_os.specs.declared.progress.Progress.{Progress}
use Rattle.lib_os.specs.declared.user_os.Stop.{Stop}
use Rattle.lib_os.specs.declared.user_os.Stop.TheVariants as stop
use Rattle.lib_os.specs.LibrarySteps.{IsStopped}
use Rattle.lib_os.specs.MadeCalls.{PrintsPartOfSome}
use Rattle.lib_os.specs.UserCalls.{Output}
use Rattle.fs_requests.specs.declared.plan.ServerCall.{ServerCall}
use Rattle.fs_requests.specs.declared.plan.ServerCall.TheVariants as call
use Rattle.fs_requests.specs.declared.state.ServerState.{ServerState}
use Rattle.fs_server.specs.ServerSteps.{IsCalled, IsReply, was_stopped}

pub stopped_calls : (it : ServerCall) (state : ServerState) (n : ℕ) (s after : KernelState) (output : Output) (why : Stop) (result : Result Progress Failed) →
    IsReply it s n (Err why) after output → IsStopped why result → IsCalled it state result n (from_to s after) output
stopped_calls it state n s after output stop.Failed (Err failed) reply is = reply
stopped_calls it state n s after output stop.Failed (Ok done) reply is = absurd is
stopped_calls it state n s after output stop.Upcall (Ok done) reply is = was_stopped stop.Upcall done reply is
stopped_calls it state n s after output stop.Upcall (Err failed) reply is = absurd is
stopped_calls it state n s after output stop.Ended (Ok done) reply is = was_stopped stop.Ended done reply is
stopped_calls it state n s after output stop.Ended (Err failed) reply is = absurd is

-- Where the host failed in it, no more came to the console than a part of some bytes.
reply_fails : (it : ServerCall) (n : ℕ) (s after : KernelState) (output : Output) → IsReply it s n (Err stop.Failed) after output →
    PrintsPartOfSome output
reply_fails (call.Load va) n s after output reply = (_, reply.1)
reply_fails (call.Store va word) n s after output reply = (_, reply.1)
reply_fails (call.System number args) n s after output reply = absurd reply

pub stopped_fails : (it : ServerCall) (n : ℕ) (s after : KernelState) (output : Output) (why : Stop) (result : Result Progress Failed) →
    IsReply it s n (Err why) after output → IsStopped why result → OnErr result (PrintsPartOfSome output)
stopped_fails it n s after output why (Ok done) reply is = tt
stopped_fails it n s after output stop.Failed (Err failed) reply is = reply_fails it n s after output reply
stopped_fails it n s after output stop.Upcall (Err failed) reply is = absurd is
stopped_fails it n s after output stop.Ended (Err failed) reply is = absurd is
