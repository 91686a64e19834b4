-- The server replies where it has opened a file: the page of the file's place goes with the reply, and behind it the client holds the file.
use Rattle.std.proofs.Common.{◌≡◌, ◌∙◌, ◌<◌, ◌⊎◌, ◌==◌, ◌&&◌, inl, inr, ℕ, Bool, true, false, List, Option, Some, None, refl, sym, ap, subst}
use Rattle.std.proofs.Common.{if◌then◌else◌}
use Rattle.std.proofs.lemmas.Bool.{cases_eq}
use Rattle.std.proofs.lemmas.Option.{same_Some}
use Rattle.std.specs.Prelude.{is_some, nat_lt}
use Rattle.jos_base.proofs.Below.{some_below-at}
use Rattle.jos_base.proofs.Maps.{upd-at, upd-other}
use Rattle.jos_base.specs.declared.numbers.TheConstants.{NENV, UTOP}
use Rattle.jos_base.specs.KernelState.{KernelState}
use Rattle.jos_base.specs.Reach.{Entry}
use Rattle.jos_base.specs.Words.{upd}
use Rattle.fs_layout.specs.FileTree.{FileSystem}
use Rattle.lib_os.specs.declared.numbers.TheConstants.{DESCRIPTORS, MAXOPEN}
use Rattle.lib_os.specs.declared.request.RequestKind.{RequestKind}
use Rattle.lib_os.specs.declared.request.RequestKind.TheVariants as kind
use Rattle.lib_os.specs.declared.service.Service.{Service}
use Rattle.lib_os.specs.AbstractState.{AbstractState, AbstractSlot, Born, Phase, Server, acted, awaiting, born, in_service, leaving, replied}
use Rattle.lib_os.specs.Descriptors.{holds_in, is_held, is_name, lowest_free}
use Rattle.lib_os.specs.Disk.{Disk}
use Rattle.lib_os.specs.FileServer.{given, reply, reply_at, reply_to, served, server_step}
use Rattle.lib_os.specs.GuestStep.{born_in}
use Rattle.lib_os.specs.InOrder.{IsInOrder}
use Rattle.lib_os.proofs.FilesLeft.{named-so, some-passes}
use Rattle.fs_runs.specs.TreeRuns.{Memory}
use Rattle.fs_requests.specs.declared.plan.ServerNext.{ServerNext}
use Rattle.fs_requests.specs.declared.state.ServerState.{ServerState}
use Rattle.fs_requests.specs.declared.state.ServerStep.{ServerStep}
use Rattle.fs_requests.specs.declared.state.ServerStep.TheVariants as step
use Rattle.fs_requests.specs.ServerPlans.{call_for, next_at, next_for, open_page, open_perm, opens, page_with, replying, shown}
use Rattle.fs_serving.specs.ServerRuns.{HasFile, HasFiles, HasObject, IsReplying, StandsAtStep, StandsServing, client_of}
use Rattle.fs_server.specs.ServerSteps.{gone_on, server_at}
use Rattle.fs_seen.specs.ServerMemory.{bytes_by, entry_of, place_entry, place_page, serving_in, view_in}
use Rattle.fs_seen.specs.ServerOthers.{CountsTell, GivenFilesAreApart, GivesOpened, HasFilesApart, HasReplyPage, LeavesBytes, RepliesGive}
use Rattle.fs_seen.specs.ServerOthers.{RepliesGiving, RepliesWithPage}
use Rattle.fs_seen.specs.ServerSees.{is_working}
use Rattle.fs_seen.specs.ServerWhole.{IsServing, ServesOn}
use Rattle.fs_seen.proofs.Between.{leaving_serves, number_small}
use Rattle.fs_seen.proofs.OthersNow.{stays_left}
use Rattle.fs_seen.proofs.RepliesNow.{standing}
use Rattle.fs_seen.proofs.Rests.{rests_still}
use Rattle.fs_seen.proofs.Setting.{was_in_order}
use Rattle.fs_seen.proofs.StaysGone.{has_gone}
use Rattle.fs_seen.proofs.StaysSo.{disk_same, same_table, stands_so}
use Rattle.fs_seen.proofs.TablesLeft.{KeepsPlaces, files_apart, places_given, seen_tells, table_left}

-- ---- the abstract server's reply

module _ (a : AbstractState) (client answer name : ℕ) (bytes : List ℕ) where
  -- the client has the descriptors that it had, and perhaps one for what was opened
  module _ (c : Born) (at : born_in (a.slots client) ≡ Some c) (service : Service) where
    abbrev behind : Option ℕ → AbstractState
    behind o = reply_to a client service bytes (given c (Some name) o answer)

    abbrev Held : ℕ → Type 0
    Held other = (is_held a other ≡ true) ⊎ (other ≡ name)

    held_by : (n other : ℕ) → n < NENV → holds_in (born_in (a.slots n)) other ≡ true → Held other
    held_by n other below holds = inl (some_below-at (λ k. holds_in (born_in (a.slots k)) other) NENV n below holds)

    clients_held : (other : ℕ) → client < NENV → holds_in (Some c) other ≡ true → Held other
    clients_held other below holds = held_by client other below (ap (λ (o : Option Born). holds_in o other) at ∙ holds)

    its_held : (o : Option ℕ) (other : ℕ) → client < NENV → holds_in (Some (given c (Some name) o answer).0) other ≡ true → Held other
    its_held None other below holds = clients_held other below holds
    its_held (Some fd) other below holds =
        let found = some-passes DESCRIPTORS (λ k. is_name (upd c.descriptors fd (Some name) k) other) holds in
        by_number found.0 found.1 found.2
      where
        by_number : (k : ℕ) → k < DESCRIPTORS → is_name (upd c.descriptors fd (Some name) k) other ≡ true → Held other
        by_number k less is = elim (cases_eq k fd) [
          | inl same ↦
              let there : upd c.descriptors fd (Some name) k ≡ Some name =
              ap (upd c.descriptors fd (Some name)) same ∙ upd-at c.descriptors fd (Some name) in
              inr (same_Some other name (sym (named-so (upd c.descriptors fd (Some name) k) other is) ∙ there))
          | inr ne ↦
              clients_held other below
              (some_below-at (λ q. is_name (c.descriptors q) other) DESCRIPTORS k less
              (ap (λ (o : Option ℕ). is_name o other) (sym (upd-other c.descriptors fd (Some name) k ne)) ∙ is))
        ]

    abbrev there : Option ℕ → AbstractSlot
    there o =
        born
        (record (given c (Some name) o answer).0 { phase = in_service service (replied bytes (given c (Some name) o answer).1); blocked = false })

    all_held : (o : Option ℕ) (other : ℕ) → is_held (behind o) other ≡ true → Held other
    all_held o other held =
        let found = some-passes NENV (λ n. holds_in (born_in ((behind o).slots n)) other) held in by_slot found.0 found.1 found.2
      where
        by_slot : (n : ℕ) → n < NENV → holds_in (born_in (upd a.slots client (there o) n)) other ≡ true → Held other
        by_slot n below holds = elim (cases_eq n client) [
          | inl same ↦
              let is : upd a.slots client (there o) n ≡ there o = ap (upd a.slots client (there o)) same ∙ upd-at a.slots client (there o) in
              its_held o other (subst (λ (k : ℕ). k < NENV) same below)
              (sym (ap (λ (x : AbstractSlot). holds_in (born_in x) other) is) ∙ holds)
          | inr ne ↦
              held_by n other below
              (ap (λ (x : AbstractSlot). holds_in (born_in x) other) (sym (upd-other a.slots client (there o) n ne)) ∙ holds)
        ]

    gives : (o : Option ℕ) → GivesOpened a (behind o) name
    gives o = record { files = refl; opened = refl; objects = refl; names = refl; held = all_held o }

  abbrev Given : AbstractState → Type 0
  Given b = (b.server ≡ leaving) × GivesOpened a b name

  by_phase : (c : Born) → born_in (a.slots client) ≡ Some c → (b : AbstractState) (p : Phase) →
      reply_at a client c answer bytes (Some name) p ≡ Some b → Given b
  by_phase c at b (in_service service awaiting) is =
      subst (λ (x : AbstractState). Given x)
      (same_Some (reply_to a client service bytes (given c (Some name) (lowest_free c) answer)) b is) (refl, gives c at service (lowest_free c))
  by_phase c at b _ is = absurd (cc)

  by_client : (o : Option Born) → born_in (a.slots client) ≡ o → (b : AbstractState) → reply a client answer bytes (Some name) o ≡ Some b → Given b
  by_client None at b is =
      subst (λ (x : AbstractState). Given x) (same_Some (record a { server = leaving }) b is)
      (refl, record { files = refl; opened = refl; objects = refl; names = refl; held = λ other held. inl held })
  by_client (Some c) at b is = by_phase c at b c.phase is

pub replies_give : RepliesGive
unfolding server_step
replies_give a b client answer name bytes server is =
    by_client a client answer name bytes (born_in (a.slots client)) refl b (sym (ap (served a) server) ∙ is)

-- ---- the page that goes with it

-- it is that of the place at hand
page_goes : (state : ServerState) → state.kind ≡ Some kind.Open → state.count ≡ 0 → page_with state ≡ (open_page state.number, open_perm)
page_goes state kind_is none =
    let it : ℕ × ℕ = (open_page state.number, open_perm) in
    ap (λ (k : Option RequestKind). if opens k && (state.count == 0) then it else (UTOP, 0)) kind_is
    ∙ ap (λ (n : ℕ). if n == 0 then it else (UTOP, 0)) none

-- two replies that are the same go to one client, with one answer and one object
same_reply : (client other answer word : ℕ) (bytes more : List ℕ) (object that : Option ℕ) →
    acted client answer bytes object ≡ acted other word more that → (client ≡ other) × (answer ≡ word) × (object ≡ that)
same_reply client other answer word bytes more object that e =
    let is : ◌≡◌ {A = Server} (acted client answer bytes object) (acted other word more that) = e in
    let one : ◌≡◌ {A = ℕ} client other = cc in
    let two : ◌≡◌ {A = ℕ} answer word = cc in
    let three : ◌≡◌ {A = Option ℕ} object that = cc in
    (one, two, three)

-- what is seen of a place's page stands in the space
page_seen : (s : KernelState) (number : ℕ) → is_some (bytes_by s (place_entry s 0 number)) ≡ true →
    (e : Entry) × (entry_of s 0 (place_page number) ≡ Some e)
page_seen s number there = by_test (nat_lt number MAXOPEN) there
  where
    by_entry : (o : Option Entry) → entry_of s 0 (place_page number) ≡ o → is_some (bytes_by s o) ≡ true →
        (e : Entry) × (entry_of s 0 (place_page number) ≡ Some e)
    by_entry None is some = absurd (let contradiction : false ≡ true = some in cc)
    by_entry (Some x) is some = (x, is)

    by_test : (t : Bool) → is_some (bytes_by s (if t then entry_of s 0 (place_page number) else None)) ≡ true →
        (e : Entry) × (entry_of s 0 (place_page number) ≡ Some e)
    by_test true some = by_entry (entry_of s 0 (place_page number)) refl some
    by_test false some = absurd (let contradiction : false ≡ true = some in cc)

module _ (a : AbstractState) (d : Disk) (s : KernelState) (client answer name : ℕ) (bytes : List ℕ) (at : (server_at s 0).step ≡ step.Replying)
    (is : a.server ≡ acted client answer bytes (Some name)) (h : IsServing d s 0 a) where
  abbrev st : ServerState
  st = server_at s 0

  stands : StandsServing d.count a (serving_in d s 0)
  stands = standing a d s h step.Replying at (λ same. cc)

  replies : IsReplying a (serving_in d s 0) stands.before
  replies = subst (λ (x : ServerStep). StandsAtStep x d.count a (serving_in d s 0) stands.before) at stands.at

  both : (client_of st ≡ client) × (st.count ≡ answer) × (replies.object ≡ Some name)
  both =
      same_reply (client_of st) client st.count answer replies.bytes bytes replies.object (Some name) (sym replies.server ∙ is)

  has_object : HasObject a (serving_in d s 0) (Some name)
  has_object = subst (λ (o : Option ℕ). HasObject a (serving_in d s 0) o) both.2 replies.has_object

  reply_page : HasReplyPage a d s client answer name
  reply_page =
      let found = page_seen s st.number has_object.4.there in
      record {
        calls = ap (λ (x : ServerStep). call_for st x) at ∙ ap (λ (p : ℕ × ℕ). replying st p) (page_goes st has_object.0 has_object.1);
        client_is = both.0;
        answer_is = both.1;
        below = has_object.2;
        entry = found.0;
        there = found.1;
        held_by = has_object.3;
        tells = has_object.4;
      }

  -- over the disk as it was when the act began, which it is still
  file_there : HasFile stands.before.disk a (view_in d s 0) st.number name
  file_there = subst (λ (m : Memory). HasFile m.disk a (view_in d s 0) st.number name) replies.memory has_object.4

  module _ (b : AbstractState) (gives_it : GivesOpened a b name) where
    keeps : KeepsPlaces stands.before.disk a b (view_in d s 0)
    keeps = places_given stands.before.disk a b (view_in d s 0) st.number name stands.table has_object.2 has_object.3 file_there gives_it

    apart_then : HasFilesApart b
    apart_then = files_apart stands.before.disk a b (view_in d s 0) stands.table keeps

    giving : (mid after : KernelState) → IsInOrder after → LeavesBytes a.server s mid 0 → after ≡ gone_on mid 0 (next_at st 0) → b.server ≡ leaving →
        CountsTell after 0 b → ServesOn d s after b step.Releasing
    giving mid after in_order left gone_is server tells =
        let goes : next_at st 0 ≡ shown st step.Releasing = ap (λ (x : ServerStep). next_for st x 0) at in
        let here : after ≡ gone_on mid 0 (shown st step.Releasing) = gone_is ∙ ap (λ (z : ServerNext). gone_on mid 0 z) goes in
        let left_so = stays_left d s mid h.stands (was_in_order mid 0 (shown st step.Releasing) after here in_order) a.server left in
        let gone = has_gone s mid 0 (shown st step.Releasing) refl (number_small s 0) left_so after here in_order in
        let step_is : (server_at after 0).step ≡ step.Releasing = ap (λ (x : ServerState). x.step) gone.server in
        let same = same_table s after 0 gone.stays in
        record {
          serving = leaving_serves b d after stands.before (stands_so s after 0 gone.stays d h.stands) server
              (subst (λ (f : FileSystem). HasFiles d.count stands.before f) (sym gives_it.files) stands.files)
              (table_left stands.before.disk a b (view_in d s 0) stands.table keeps (view_in d after 0) same.homes same.pages
              (seen_tells b d after 0 tells))
              (subst (λ (x : ServerStep). StandsAtStep x d.count b (serving_in d after 0) stands.before) (sym step_is)
              (server, disk_same s after 0 gone.stays d ∙ ap (λ (m : Memory). m.disk) replies.memory))
              (rests_still s after 0 (ap is_working at) gone.stays.cache h.rests);
          at_step = step_is;
          table = same;
        }

pub replies_with_page : RepliesWithPage
replies_with_page a d s client answer name bytes at is h = reply_page a d s client answer name bytes at is h

pub given_files_are_apart : GivenFilesAreApart
given_files_are_apart a b d s client answer name bytes at is h gives_it = apart_then a d s client answer name bytes at is h b gives_it

pub replies_giving : RepliesGiving
replies_giving a b d s mid after client answer name bytes at is h in_order left gone_is server gives_it tells =
    giving a d s client answer name bytes at is h b gives_it mid after in_order left gone_is server tells
