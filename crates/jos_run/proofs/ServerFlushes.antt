-- A step of the flush that the file server makes for a sync: a call of its cache, which nobody sees; or all is written, and the server is about to show
-- that it is done.
use Rattle.std.proofs.Common.{◌≡◌, ◌≢◌, ◌∙◌, ◌<◌, ◌≤◌, ℕ, true, [], Option, Some, None, Err, refl, sym, ap, subst}
use Rattle.std.proofs.lemmas.Option.{same_Some}
use Rattle.jos_host.specs.declared.host.Failed.{Failed}
use Rattle.jos_host.specs.Files.{Files}
use Rattle.jos_host.specs.Frames.{Around, from_to}
use Rattle.jos_base.specs.Environments.{Slot}
use Rattle.jos_base.specs.KernelState.{KernelState, slot_at}
use Rattle.fs_layout.specs.declared.numbers.TheConstants.{MAXBLOCKS}
use Rattle.fs_layout.specs.FileTree.{sync_files}
use Rattle.lib_os.specs.declared.numbers.TheConstants.{MAXOPEN}
use Rattle.lib_os.specs.declared.progress.Progress.{Progress}
use Rattle.lib_os.specs.declared.progress.Progress.TheVariants as progress
use Rattle.lib_os.specs.AbstractState.{AbstractState, act, busy, idle, leaving}
use Rattle.lib_os.specs.Disk.{Disk, DiskFile, disk_in}
use Rattle.lib_os.specs.InOrder.{IsInOrder}
use Rattle.lib_os.specs.UserCalls.{Output, Prints}
use Rattle.lib_os.proofs.ServersCalls.{server_call_stands}
use Rattle.fs_blocks.specs.declared.plan.Told.{Told}
use Rattle.fs_cache.specs.CacheStands.{CacheStands}
use Rattle.fs_cache.specs.CacheSteps.{HasGone, IsFlushStep, cache_state, caller, flush_state}
use Rattle.fs_cache.proofs.CacheBegins.{IsUnderWay, flush_goes, flush_stands}
use Rattle.fs_cache.proofs.CacheLaw.{server_of}
use Rattle.fs_cache.proofs.Interfaces.{view_in as cache_seen}
use Rattle.fs_requests.specs.declared.plan.ServerNext.{ServerNext}
use Rattle.fs_requests.specs.declared.state.ServerState.{ServerState}
use Rattle.fs_requests.specs.declared.state.ServerStep.{ServerStep}
use Rattle.fs_requests.specs.declared.state.ServerStep.TheVariants as step
use Rattle.fs_requests.specs.ServerPlans.{acting as about_to_act, next_at, next_for}
use Rattle.fs_server.specs.ServerSteps.{HasFlushed, ends, goes, gone_on, server_at}
use Rattle.fs_server.proofs.ServerMade.{server_sets}
use Rattle.fs_serving.specs.ServerRuns.{StandsServing, is_acting}
use Rattle.fs_seen.specs.ServerMemory.{HasWords, serving_in}
use Rattle.fs_seen.specs.ServerWhole.{GoesOnServing}
use Rattle.fs_seen.proofs.CacheLeaves.{CacheLeaves, step_leaves}
use Rattle.fs_seen.proofs.FlushesServed.{flushes_serve}
use Rattle.fs_seen.proofs.ServesFor.{served_is_kept}
use Rattle.jos_run.specs.ServerStands.{BringsOwn, HasLent, IsClient, StandsWhole, client_id, serving_at, step_of}
use Rattle.jos_run.specs.Worlds.{beside}
use Rattle.jos_run.proofs.CacheCalls.{flush_brings}
use Rattle.jos_run.proofs.CacheGoes.{CacheStep, blocks_are, cache_failed, cache_step, makes_then_sets}
use Rattle.jos_run.proofs.ServerGoes.{ServesClient, behind_slot, behind_stands, gone_to, number_below, stands_told}
use Rattle.jos_run.proofs.ServerRows.{RowsStay, server_call_rows}
use Rattle.jos_run.proofs.ServerStepped.{Stepped, all_stand, lent_still, stands_serving, unseen}

module _ (disk : DiskFile) (before : KernelState) (files : Around (Option Files)) (output : Output) (f : Files) (told : files.before ≡ Some f)
    (a : AbstractState) (whole : StandsWhole (beside before (Some (disk_in f disk))) a) (words : HasWords before 0) (client : ℕ)
    (server : a.server ≡ busy client (act sync_files None) None) where
  abbrev d : Disk
  d = disk_in f disk

  abbrev k : Slot
  k = slot_at before 0

  abbrev state : ServerState
  state = server_at before 0

  acts : is_acting a.server ≡ true
  acts = ap is_acting server

  not_idle : a.server ≢ idle
  not_idle is = let contradiction : busy client (act sync_files None) None ≡ idle = sym server ∙ is in cc

  not_leaving : a.server ≢ leaving
  not_leaving is = let contradiction : busy client (act sync_files None) None ≡ leaving = sym server ∙ is in cc

  lent_so : (after : KernelState) → RowsStay before after → HasLent a.server after
  lent_so after rows = lent_still disk before after files output d a whole words not_leaving rows

  flush_stands_so : CacheStands d (cache_seen before 0) (flush_state before 0).place (flush_state before 0).hand
  flush_stands_so =
      flush_stands d (cache_seen before 0) (cache_state before 0).place (cache_state before 0).hand whole.1.serving.stands.cache.stands

  flush_goes_so : IsUnderWay (flush_state before 0).place
  flush_goes_so = flush_goes (cache_state before 0).place

  flush_brings_so : BringsOwn d (flush_state before 0).place
  flush_brings_so = flush_brings d (cache_state before 0).place whole.1.brings

  -- what it stands for, whatever is behind it
  serving_so : (after : KernelState) → StandsServing d.count a (serving_in d before 0)
  serving_so after = stands_serving disk before after files output d a whole words not_idle

  count_is : (after : KernelState) → a.files.blocks ≡ d.count
  count_is after = let it = serving_so after in blocks_are d.count it.before a.files it.files

  few : (after : KernelState) → a.files.blocks ≤ MAXBLOCKS
  few after = subst (λ (n : ℕ). n ≤ MAXBLOCKS) (sym (count_is after)) whole.1.serving.stands.count

  -- its call
  abbrev Made : KernelState → Type 0
  Made mid =
      CacheStep whole.0.1 (few mid) d (count_is mid) disk files whole.1.serving.stands.cache (flush_state before 0) flush_stands_so flush_goes_so
      flush_brings_so mid output

  made_so : (mid : KernelState) (tells : Told) → HasGone (flush_state before 0) (caller before 0 disk) files tells mid output → Made mid
  made_so mid tells gone =
      cache_step whole.0.1 (few mid) d (count_is mid) disk files whole.1.serving.stands.cache (flush_state before 0) flush_stands_so flush_goes_so
      flush_brings_so tells mid output gone

  -- where the server stands behind it
  left_so : (mid : KernelState) (tells : Told) → HasGone (flush_state before 0) (caller before 0 disk) files tells mid output →
      CacheLeaves before mid 0
  left_so mid tells gone =
      step_leaves d (caller before 0 disk) (server_of d before 0 whole.1.serving.stands.cache) (flush_state before 0) f files.after tells mid output
      whole.1.serving.stands.table whole.1.twelve flush_stands_so flush_goes_so
      (subst (λ (o : Option Files). HasGone (flush_state before 0) (caller before 0 disk) (from_to o files.after) tells mid output) told gone)

  module _ (at_step : step_of k ≡ step.Flushing) (after : KernelState) where
    -- It serves over the disk that the host tells then.
    flush_served : (done : Progress) → HasFlushed state disk before after 0 files output done → IsInOrder after →
        (now : Files) × (files.after ≡ Some now) × GoesOnServing done (disk_in now disk) after 0 a
    flush_served done flushed in_order =
        let all = all_stand disk before after files output d a whole words acts in
        let it = flushes_serve d.count a disk f before after files output done at_step all (serving_so after) in_order told flushed in
        (it.0, it.1, served_is_kept a (disk_in it.0 disk) before after done whole.1.serving.requested whole.1.serving.rests it.2)

    -- the client that it serves
    serves_as : (x : ServerStep) (j : Slot) → client_id x j ≡ (serving_at k).client → ServesClient a x j
    serves_as x j same who served =
        subst (λ (i : ℕ). IsClient a who i) (sym same) (subst (λ (y : ServerStep). ServesClient a y k) at_step whole.1.client who served)

    -- it keeps its turn, whether it goes on or ends
    pub flush_calm : (done : Progress) → HasFlushed state disk before after 0 files output done → (slot_at after 0).status ≡ k.status
    flush_calm done (goes flushes) = let made = flushes.made in (made_so after made.0 made.2).status
    flush_calm done (ends mid flushes is) =
        let made = flushes.made in
        ap (λ (x : Slot). x.status) (behind_slot mid after (next_at state 0) is) ∙ (made_so mid made.0 made.2).status

    pub flush_quiet : (done : Progress) → HasFlushed state disk before after 0 files output done → Prints output []
    flush_quiet done (goes flushes) = let made = flushes.made in (made_so after made.0 made.2).quiet
    flush_quiet done (ends mid flushes is) = let made = flushes.made in (made_so mid made.0 made.2).quiet

    flush_hidden : (done : Progress) → HasFlushed state disk before after 0 files output done → progress.Hidden ≡ done
    flush_hidden done (goes flushes) = refl
    flush_hidden done (ends mid flushes is) =
        let goes_to : next_at state 0 ≡ about_to_act state 0 = ap (λ (x : ServerStep). next_for state x 0) at_step in
        sym (ap (λ (x : ServerNext). x.seen) goes_to)

    flush_stands_behind : (done : Progress) → HasFlushed state disk before after 0 files output done → (now : Files) → IsInOrder after →
        GoesOnServing done (disk_in now disk) after 0 a → StandsWhole (beside after (Some (disk_in now disk))) a
    flush_stands_behind done (goes flushes) now in_order serving =
        let made = flushes.made in
        let it = made_so after made.0 made.2 in
        let same = left_so after made.0 made.2 in
        let left = server_call_stands whole.0.1 it.call it.own after disk files output it.makes it.may whole.1.twelve in_order in
        let rows = server_call_rows whole.0.1 it.call it.own it.leaves after disk files output it.makes it.may in_order in (
          (whole.0.0, left.stands),
          record {
            serving = serving;
            twelve = it.twelve;
            brings = it.brings_on;
            client = subst (λ (y : ServerStep). ServesClient a y (slot_at after 0)) (sym (ap (λ (x : ServerState). x.step) same.server ∙ at_step))
                (serves_as step.Flushing (slot_at after 0) (ap (λ (x : ServerState). x.client) same.server));
            asked = whole.1.asked;
            fits = whole.1.fits;
            lent = lent_so after rows;
          },
        )
    flush_stands_behind done (ends mid flushes is) now in_order serving =
        let made = flushes.made in
        let it = made_so mid made.0 made.2 in
        let same = left_so mid made.0 made.2 in
        let goes_to : next_at state 0 ≡ next = ap (λ (x : ServerStep). next_for state x 0) at_step in
        let here : after ≡ gone_on mid 0 next = is ∙ ap (λ (x : ServerNext). gone_on mid 0 x) goes_to in
        let makes = makes_then_sets it.makes (server_sets mid after 0 next here) in
        let left = server_call_stands whole.0.1 it.call it.own after disk files output makes it.may whole.1.twelve in_order in
        let rows = server_call_rows whole.0.1 it.call it.own it.leaves after disk files output makes it.may in_order in
        let told_so = stands_told (slot_at mid 0) next below it.twelve in (
          (whole.0.0, left.stands),
          behind_stands (disk_in now disk) mid after next a here below (record { twelve = it.twelve; brings = it.brings_on })
              (subst (λ (p : Progress). GoesOnServing p (disk_in now disk) after 0 a) (ap (λ (x : ServerNext). x.seen) goes_to) serving)
              (serves_as step.Acting (gone_to (slot_at mid 0) next) told_so.client) whole.1.asked whole.1.fits (lent_so after rows),
        )
      where
        next : ServerNext
        next = about_to_act state 0

        below : state.number < MAXOPEN
        below = number_below k.registers k.extra

    -- the host tells its files then
    flush_told : (done : Progress) → HasFlushed state disk before after 0 files output done → (now : Files) × (files.after ≡ Some now)
    flush_told done (goes flushes) = let kept = flushes.cache f told whole.1.serving.stands.cache in (kept.0, kept.1)
    flush_told done (ends mid flushes is) = let kept = flushes.cache f told whole.1.serving.stands.cache in (kept.0, kept.1)

    -- What it comes to over the disk that the host tells then.
    flush_steps_at : (now : Files) → files.after ≡ Some now → (done : Progress) → HasFlushed state disk before after 0 files output done →
        Stepped before (beside after (Some (disk_in now disk))) a done output
    flush_steps_at now is done flushed =
        unseen before (beside after (Some (disk_in now disk))) a done output (flush_hidden done flushed) (flush_quiet done flushed)
        (λ in_order nothing. let it = flush_served done flushed in_order in
        let same : it.0 ≡ now = same_Some it.0 now (sym it.1 ∙ is) in
        flush_stands_behind done flushed now in_order (subst (λ (g : Files). GoesOnServing done (disk_in g disk) after 0 a) same it.2))
        (flush_calm done flushed)

    pub flush_steps : (done : Progress) → HasFlushed state disk before after 0 files output done →
        (now : Files) × (files.after ≡ Some now) × Stepped before (beside after (Some (disk_in now disk))) a done output
    flush_steps done flushed = let it = flush_told done flushed in (it.0, it.1, flush_steps_at it.0 it.1 done flushed)

    -- where the host fails in it nothing is printed
    pub flush_fails : (failed : Failed) → IsFlushStep (caller before 0 disk) (Err failed) files after output → Prints output []
    flush_fails failed it =
        cache_failed whole.0.1 (few after) d (count_is after) disk files whole.1.serving.stands.cache (flush_state before 0) flush_stands_so flush_goes_so
        flush_brings_so after output it.0
