-- A call, and the words that are set by its reply, are a step of the cache.
use Rattle.std.proofs.Common.{◌≡◌, ◌≢◌, ◌∙◌, ℕ, List, Option, Ok, Err, refl, ap, subst}
use Rattle.jos_host.specs.Files.{Files}
use Rattle.jos_host.specs.Frames.{Around}
use Rattle.jos_base.specs.KernelState.{KernelState, slot_at, with_extra}
use Rattle.lib_os.specs.declared.user_os.Stop.{Stop}
use Rattle.lib_os.specs.declared.user_os.Stop.TheVariants as stop
use Rattle.lib_os.specs.UserCalls.{Output}
use Rattle.fs_blocks.specs.declared.place.CacheState.{CacheState}
use Rattle.fs_blocks.specs.declared.plan.CacheAsk.{CacheAsk}
use Rattle.fs_blocks.specs.declared.plan.CacheNext.{CacheNext}
use Rattle.fs_blocks.specs.declared.plan.Told.TheVariants as told
use Rattle.fs_blocks.specs.CachePlaces.{with_state}
use Rattle.fs_blocks.specs.CachePlans.{ask_at, next_at}
use Rattle.fs_cache.specs.CacheSteps.{Caller, FilesAfter, HasGone, by_word, stopped, IsReply, gone_on}

-- ---- why a call was stopped

abbrev IsFailed : Stop → Type 0
IsFailed stop.Failed = Unit {0}
IsFailed _ = ⊥

pub by_upcall : stop.Upcall ≢ stop.Failed
by_upcall e = subst (λ (why : Stop). IsFailed why → ⊥) e (λ failed. failed) tt

pub by_end : stop.Ended ≢ stop.Failed
by_end e = subst (λ (why : Stop). IsFailed why → ⊥) e (λ failed. failed) tt

-- ---- a step

module _ (state : CacheState) (a : CacheAsk) (c : Caller) (files : Around (Option Files)) (asked : a ≡ ask_at state) where
  pub gone_stopped : (why : Stop) (after : KernelState) (output : Output) → why ≢ stop.Failed → IsReply a c files.before (Err why) after output →
      FilesAfter a c (Err why) files → HasGone state c files told.Going after output
  gone_stopped why after output other reply behind =
      stopped why other (subst (λ (x : CacheAsk). IsReply x c files.before (Err why) after output) asked reply)
      (subst (λ (x : CacheAsk). FilesAfter x c (Err why) files) asked behind) refl

  module _ (word n : ℕ) (next : CacheNext) (mid : KernelState) (printed : Output) (goes : next ≡ next_at state word) (slot : n ≡ c.slot)
      (reply : IsReply a c files.before (Ok word) mid printed) (behind : FilesAfter a c (Ok word) files) where
    words_set : (extra words : List ℕ) → extra ≡ (slot_at mid n).extra → words ≡ with_state extra next.state →
        with_extra mid n words ≡ gone_on mid c.slot (next_at state word).state
    words_set extra words extra_is words_is =
        ap (λ (w : List ℕ). with_extra mid n w) (words_is ∙ (λ i. with_state (extra_is i) (goes i).state))
        ∙ (λ i. gone_on mid (slot i) (next_at state word).state)

    pub gone_by_word : (extra words : List ℕ) (after : KernelState) (output : Output) → extra ≡ (slot_at mid n).extra →
        words ≡ with_state extra next.state → after ≡ with_extra mid n words → printed ≡ output → HasGone state c files next.told after output
    gone_by_word extra words after output extra_is words_is after_is printed_is =
        subst (λ (o : Output). HasGone state c files next.told after o) printed_is
        (by_word word mid (subst (λ (x : CacheAsk). IsReply x c files.before (Ok word) mid printed) asked reply)
        (subst (λ (x : CacheAsk). FilesAfter x c (Ok word) files) asked behind) (ap (λ (x : CacheNext). x.told) goes)
        (after_is ∙ words_set extra words extra_is words_is))
