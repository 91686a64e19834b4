-- Where the file server goes, by its registers and words: they tell the state in which it goes on, and the cache's words stay. And what is known of
-- it there, by what the kernel has left behind its call.
use Rattle.std.proofs.Common.{◌≡◌, ◌∙◌, ◌<◌, ℕ, true, false, List, length, Some, refl, sym, ap, subst, arith}
use Rattle.jos_base.specs.declared.registers.Regs.{Regs}
use Rattle.jos_base.specs.Environments.{Slot, is_runnable, is_running}
use Rattle.jos_base.specs.declared.environment.Status.{Status}
use Rattle.jos_base.specs.KernelState.{KernelState, slot_at}
use Rattle.lib_os.specs.declared.numbers.TheConstants.{MAXOPEN}
use Rattle.lib_os.specs.AbstractLaws.{ServesWhoAsked, client_served}
use Rattle.lib_os.specs.AbstractState.{AbstractState}
use Rattle.lib_os.specs.AskedFor.{ServesAsAsked}
use Rattle.lib_os.specs.Disk.{Disk}
use Rattle.lib_os.proofs.Leaving.{running_calm}
use Rattle.lib_os.proofs.Slots.{slot_put, slots_alike}
use Rattle.lib_os.proofs.SlotsSet.{both_set}
use Rattle.fs_blocks.specs.declared.place.CacheState.{CacheState}
use Rattle.fs_blocks.specs.CachePlaces.{state_in}
use Rattle.fs_cache.specs.CacheSteps.{cache_state}
use Rattle.fs_tree.proofs.TiesWords.{cache_alike}
use Rattle.fs_requests.specs.declared.plan.ServerNext.{ServerNext}
use Rattle.fs_requests.specs.declared.state.ServerStep.{ServerStep}
use Rattle.fs_requests.specs.ServerWords.{registers_with, server_in, words_with}
use Rattle.fs_seen.specs.ServerWhole.{IsServing}
use Rattle.fs_seen.proofs.WordsBack.{StandsIn, begun_long, begun_rest, stands_in}
use Rattle.fs_server.specs.ServerSteps.{gone_on, registers_begun, words_begun}
use Rattle.jos_run.specs.ServerStands.{BringsOwn, HasLent, IsClient, ServerStands, client_id, step_of}

-- ---- its slot

abbrev pub gone_to : Slot → ServerNext → Slot
gone_to k next = record k {
  registers = registers_begun next.begins (registers_with k.registers next.state);
  extra = words_begun next.begins (words_with k.extra next.state);
}

pub gone_slot : (mid : KernelState) (next : ServerNext) → slot_at (gone_on mid 0 next) 0 ≡ gone_to (slot_at mid 0) next
unfolding gone_on
gone_slot mid next =
    let k : Slot = slot_at mid 0 in
    ap (λ (z : KernelState). slot_at z 0)
    (both_set mid 0 (registers_begun next.begins (registers_with k.registers next.state)) (words_begun next.begins (words_with k.extra next.state)))
    ∙ slot_put mid 0 (gone_to k next)

pub gone_spaces : (mid : KernelState) (next : ServerNext) → (gone_on mid 0 next).spaces ≡ mid.spaces
unfolding gone_on
gone_spaces mid next = refl

-- ---- its words

-- the number of the place at hand is one of the table
pub number_below : (regs : Regs) (words : List ℕ) → (server_in regs words).number < MAXOPEN
unfolding server_in
number_below regs words = omega arith

module _ (k : Slot) (next : ServerNext) (below : next.state.number < MAXOPEN) (twelve : length k.extra ≡ 12) where
  -- they tell where it stands, for whom,
  pub stands_told : StandsIn (gone_to k next).registers (gone_to k next).extra next.state
  stands_told = stands_in k.registers k.extra next.state below twelve next.begins

  -- and where the cache stands,
  pub cache_told : state_in (gone_to k next).extra ≡ state_in k.extra
  cache_told = cache_alike (gone_to k next).extra k.extra (begun_rest k.registers k.extra next.state below twelve next.begins)

  -- and are as many
  pub twelve_told : length (gone_to k next).extra ≡ 12
  twelve_told = begun_long k.registers k.extra next.state below twelve next.begins

-- ---- the spaces

-- no slot has another space
pub gone_directories : (mid : KernelState) (next : ServerNext) (m : ℕ) → (slot_at (gone_on mid 0 next) m).directory ≡ (slot_at mid m).directory
unfolding gone_on
gone_directories mid next m =
    let k : Slot = slot_at mid 0 in
    ap (λ (z : KernelState). (slot_at z m).directory)
    (both_set mid 0 (registers_begun next.begins (registers_with k.registers next.state)) (words_begun next.begins (words_with k.extra next.state)))
    ∙ slots_alike mid 0 (λ (x : Slot). x.directory) (gone_to k next) refl m

-- ---- where it stands behind its call

-- The kernel's state behind the call, without the words that the server sets then.
pub record CallBehind (d : Disk) (mid : KernelState) : Type 0 where
  pub twelve : length (slot_at mid 0).extra ≡ 12
  pub brings : BringsOwn d (cache_state mid 0).place

-- and its slot there
pub behind_slot : (mid after : KernelState) (next : ServerNext) → after ≡ gone_on mid 0 next → slot_at after 0 ≡ gone_to (slot_at mid 0) next
behind_slot mid after next is = ap (λ (z : KernelState). slot_at z 0) is ∙ gone_slot mid next

-- whom it serves, by the step at which it stands there
abbrev pub ServesClient : AbstractState → ServerStep → Slot → Type 0
ServesClient b x k = (client : ℕ) → client_served b.server ≡ Some client → IsClient b client (client_id x k)

module _ (d : Disk) (mid after : KernelState) (next : ServerNext) (b : AbstractState) (is : after ≡ gone_on mid 0 next)
    (below : next.state.number < MAXOPEN) (call : CallBehind d mid) where
  slot : slot_at after 0 ≡ gone_to (slot_at mid 0) next
  slot = behind_slot mid after next is

  pub step_behind : step_of (slot_at after 0) ≡ next.state.step
  step_behind =
      let told = stands_told (slot_at mid 0) next below call.twelve in ap (λ (x : Slot). step_of x) slot ∙ told.at_step

  pub spaces_behind : after.spaces ≡ mid.spaces
  spaces_behind = ap (λ (z : KernelState). z.spaces) is ∙ gone_spaces mid next

  pub directories_behind : (m : ℕ) → (slot_at after m).directory ≡ (slot_at mid m).directory
  directories_behind m = ap (λ (z : KernelState). (slot_at z m).directory) is ∙ gone_directories mid next m

  pub behind_stands : IsServing d after 0 b → ServesClient b next.state.step (gone_to (slot_at mid 0) next) → ServesWhoAsked b →
      ServesAsAsked b → HasLent b.server after → ServerStands d after b
  behind_stands serving named asked fits lent = record {
    serving = serving;
    twelve = ap (λ (x : Slot). length x.extra) slot ∙ twelve_told (slot_at mid 0) next below call.twelve;
    brings = subst (λ (x : CacheState). BringsOwn d x.place)
        (sym (ap (λ (x : Slot). state_in x.extra) slot ∙ cache_told (slot_at mid 0) next below call.twelve)) call.brings;
    client = subst (λ (x : Slot). ServesClient b (step_of x) x) (sym slot)
        (subst (λ (x : ServerStep). ServesClient b x (gone_to (slot_at mid 0) next)) (sym (stands_told (slot_at mid 0) next below call.twelve).at_step)
        named);
    asked = asked;
    fits = fits;
    lent = lent;
  }

-- ---- its turn

-- one that is RUNNING has not given it up where its status is the same
pub turn_kept : {X : Type 0} (before after : Status) → after ≡ before → is_running before ≡ true → is_runnable after ≡ true → X
turn_kept before after same running gave =
    absurd (let contradiction : false ≡ true = sym (running_calm before running) ∙ sym (ap is_runnable same) ∙ gave in cc)
