-- What the file server has to reply with: the bytes that it hands back stand in the page that its client has lent it, and as many as the answer tells;
-- and what is known of it where it serves nobody, or waits with its reply.
use Rattle.std.proofs.Common.{◌≡◌, ◌≢◌, ◌∙◌, ◌≤◌, ◌<◌, ◌==◌, ℕ, zero, suc, Bool, true, false, List, [], ◌∷◌, length, Option, Some, None, refl}
use Rattle.std.proofs.Common.{sym, ap, subst, arith, if◌then◌else◌}
use Rattle.std.proofs.lemmas.Bool.Decides.{nat_tests}
use Rattle.std.proofs.lemmas.Option.{same_Some}
use Rattle.std.specs.Prelude.{min, nat_le, nat_lt, slice_index}
use Rattle.jos_base.specs.declared.numbers.TheConstants.{PGSIZE, UTEMP}
use Rattle.jos_base.specs.KernelState.{KernelState, slot_at}
use Rattle.jos_base.specs.Reach.{Entry}
use Rattle.jos_base.specs.Words.{page_number}
use Rattle.lib_os.specs.declared.numbers.TheConstants.{REQUEST, STAT_SIZE, TRANSFER_MAX}
use Rattle.lib_os.specs.declared.service.Service.{Service}
use Rattle.lib_os.specs.declared.service.Service.TheVariants as service
use Rattle.lib_os.specs.AbstractLaws.{client_served}
use Rattle.lib_os.specs.AbstractState.{AbstractState, Born, Server, Spawning, acted, born}
use Rattle.lib_os.specs.AskedFor.{AnswersBy, IsFor, IsThere, ServesAsAsked, handed_in}
use Rattle.lib_os.specs.Disk.{Disk}
use Rattle.lib_os.specs.Rows.{AreBytes, IsPage, Names, rows_of}
use Rattle.lib_os.specs.StandsFor.{StandsFor, view_of}
use Rattle.lib_os.specs.StandsInHandler.{wanted_of}
use Rattle.lib_os.proofs.EntriesCount.{entry_counts}
use Rattle.lib_os.proofs.EntryWords.{row_entry}
use Rattle.lib_os.proofs.ServerReplies.{HandsOver, hands_none}
use Rattle.lib_os.proofs.SpawnReplies.{handed_few}
use Rattle.fs_tree.specs.TreeSteps.{request_bytes}
use Rattle.fs_tree.proofs.TiesBlocks.{request_holds}
use Rattle.fs_runs.specs.TreeRuns.{Memory}
use Rattle.fs_requests.specs.declared.state.ServerStep.{ServerStep}
use Rattle.fs_requests.specs.declared.state.ServerStep.TheVariants as step
use Rattle.fs_serving.specs.ServerRuns.{IsReplying, StandsAtStep, StandsServing, client_of}
use Rattle.fs_server.specs.ServerSteps.{server_at}
use Rattle.fs_seen.specs.ServerMemory.{serving_in}
use Rattle.fs_seen.proofs.RepliesNow.{standing}
use Rattle.jos_run.specs.ServerStands.{HasLent, IsLent, ServerStands, step_of}

-- ---- whom it serves

-- while it is leaving or idle nothing is asked of what it does
pub fits_none : (b : AbstractState) → client_served b.server ≡ None → ServesAsAsked b
fits_none b none client c call served at there =
    absurd (let contradiction : ◌≡◌ {A = Option ℕ} None (Some client) = sym none ∙ served in cc)

-- what answers the client fits what it has asked for
pub answers_by : (a : AbstractState) → ServesAsAsked a → (client answer : ℕ) (bytes : List ℕ) (object : Option ℕ) →
    a.server ≡ acted client answer bytes object → (b : Born) → a.slots client ≡ born b → (call : Service) → IsThere b call →
    AnswersBy call b.spawning answer bytes object
answers_by a fits client answer bytes object server b at call there =
    subst (λ (x : Server). IsFor x call b.spawning) server (fits client b call (ap client_served server) at there)

-- ---- what is lent

-- It stays lent where no entry changes.
pub acted_lent : (client answer : ℕ) (bytes : List ℕ) (object : Option ℕ) (s t : KernelState) → t.spaces ≡ s.spaces →
    ((m : ℕ) → (slot_at t m).directory ≡ (slot_at s m).directory) → HasLent (acted client answer bytes object) s →
    HasLent (acted client answer bytes object) t
acted_lent client answer [] object s t spaces homes lent = tt
acted_lent client answer (byte ∷ rest) object s t spaces homes lent = record {
  own = lent.own;
  kept = (λ i. rows_of (spaces i) (homes client i) (page_number UTEMP)) ∙ lent.kept;
  entry = lent.entry;
  stands = (λ i. rows_of (spaces i) (homes 0 i) (page_number REQUEST)) ∙ lent.stands;
  same = lent.same;
}

-- ---- the bytes

past_none : (xs : List ℕ) (k : ℕ) → length xs ≤ k → slice_index xs k ≡ 0
past_none [] k past = refl
past_none (x ∷ xs) zero past = absurd (omega (arith, past))
past_none (x ∷ xs) (suc k) past = past_none xs k (omega (arith, past))

few : (call : Service) (found : Option Spawning) (word : ℕ) → handed_in call found word ≤ PGSIZE
few (service.Read fd va len) found word = by_test (nat_le word (wanted_of len)) refl
  where
    by_test : (t : Bool) → nat_le word (wanted_of len) ≡ t → (if t then word else 0) ≤ PGSIZE
    by_test true is =
        let most : word ≤ wanted_of len = grind (arith, nat_tests) in
        let wanted : min len TRANSFER_MAX ≤ TRANSFER_MAX = grind (arith, nat_tests) in
        omega (arith, most, wanted)
    by_test false is = omega arith
few (service.Stat fd va) found word = by_test (word == 0)
  where
    by_test : (t : Bool) → (if t then STAT_SIZE else 0) ≤ PGSIZE
    by_test true = omega arith
    by_test false = omega arith
few (service.Spawn path argv) found word = handed_few path argv found word
few _ found word = omega arith

module _ (d : Disk) (s : KernelState) (a : AbstractState) {names : Names} (h : StandsFor names s a) (stands : ServerStands d s a)
    (client answer : ℕ) (bytes : List ℕ) (object : Option ℕ) (server : a.server ≡ acted client answer bytes object)
    (apart : (slot_at s client).directory ≢ (slot_at s 0).directory) (at : step_of (slot_at s 0) ≡ step.Replying) where
  serving : StandsServing d.count a (serving_in d s 0)
  serving = standing a d s stands.serving step.Replying at (λ same. cc)

  replies : IsReplying a (serving_in d s 0) serving.before
  replies = subst (λ (x : ServerStep). StandsAtStep x d.count a (serving_in d s 0) serving.before) at serving.at

  bytes_same : replies.bytes ≡ bytes
  bytes_same =
      let is : acted (client_of (server_at s 0)) (server_at s 0).count replies.bytes replies.object ≡ acted client answer bytes object =
      sym replies.server ∙ server in cc

  -- each stands in the page of the request
  in_page : (i : ℕ) → i < length bytes → request_bytes s 0 i ≡ slice_index bytes i
  in_page i less =
      ap (λ (m : Memory). m.page i) replies.memory
      ∙ subst (λ (l : List ℕ). i < length l → serving.before.page i ≡ slice_index l i) bytes_same (replies.handed i) less

  module _ (lent : IsLent s client) where
    -- which is that of the client
    in_frame : (i : ℕ) → i < PGSIZE → request_bytes s 0 i ≡ slice_index (s.spaces.pages lent.own.frame) i
    in_frame i less =
        let raw = row_entry s.spaces (slot_at s 0).directory (page_number REQUEST) lent.entry lent.stands in
        let bits = (stands.serving.stands.request raw.0 raw.1).bits in
        let within : nat_lt i PGSIZE ≡ true = grind (arith, nat_tests) in
        rw within (request_holds s 0 raw.0 raw.1 bits i less)
        ∙ ap (λ (f : ℕ). slice_index (s.spaces.pages f) i) (ap (λ (y : Entry). y.frame) raw.2 ∙ sym lent.same)

    whole : IsPage (s.spaces.pages lent.own.frame)
    whole =
        let c = entry_counts h (slot_at s client).directory (page_number UTEMP) lent.own apart lent.kept in
        subst (λ (f : ℕ). IsPage (s.spaces.pages f)) c.frame (h.whole c.slot c.page c.entry c.counts)

    module _ (call : Service) (found : Option Spawning) (many : length bytes ≡ handed_in call found answer) where
      frame_has : (i : ℕ) → i < length bytes → slice_index (s.spaces.pages lent.own.frame) i ≡ slice_index bytes i
      frame_has i less =
          let most = few call found answer in
          let within : i < PGSIZE = omega (arith, less, most, many) in
          sym (in_frame i within) ∙ in_page i less

      small : AreBytes bytes
      small i = by_test (nat_lt i (length bytes)) refl
        where
          by_test : (t : Bool) → nat_lt i (length bytes) ≡ t → slice_index bytes i < 256
          by_test true is =
              let less : i < length bytes = grind (arith, nat_tests) in
              subst (λ (byte : ℕ). byte < 256) (frame_has i less) (whole.small i)
          by_test false is =
              let past : length bytes ≤ i = grind (arith, nat_tests) in
              subst (λ (byte : ℕ). byte < 256) (sym (past_none bytes i past)) (omega arith)

      frame_is : (entry : Entry) → rows_of s.spaces (slot_at s client).directory (page_number UTEMP) ≡ Some entry → entry.frame ≡ lent.own.frame
      frame_is entry is =
          let same : Some entry ≡ Some lent.own = sym is ∙ lent.kept in
          ap (λ (y : Entry). y.frame) (same_Some entry lent.own same)

      handed_over : HandsOver (view_of s.spaces (slot_at s client).directory) call found bytes answer
      handed_over = record {
        many = many;
        small = small;
        same = λ entry is i less.
            ap (λ (f : ℕ). slice_index (s.spaces.pages f) i) (frame_is entry is) ∙ frame_has i less;
      }

  -- they go with the reply
  pub hands_over : (call : Service) (found : Option Spawning) → length bytes ≡ handed_in call found answer →
      HandsOver (view_of s.spaces (slot_at s client).directory) call found bytes answer
  hands_over call found many = by_bytes bytes refl (subst (λ (x : Server). HasLent x s) server stands.lent)
    where
      by_bytes : (l : List ℕ) → bytes ≡ l → HasLent (acted client answer l object) s →
          HandsOver (view_of s.spaces (slot_at s client).directory) call found bytes answer
      by_bytes [] is lent =
          subst (λ (l : List ℕ). HandsOver (view_of s.spaces (slot_at s client).directory) call found l answer) (sym is)
          (hands_none (view_of s.spaces (slot_at s client).directory) call found answer (sym many ∙ ap (λ (l : List ℕ). length l) is))
      by_bytes (byte ∷ rest) is lent = handed_over lent call found many
