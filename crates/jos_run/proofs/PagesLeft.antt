-- What a step of another leaves of the file server's pages: nobody else has any of them but that of the request, where that is lent; and then it is
-- the page of the client that waits, which no other environment has, and which that one leaves alone.
use Rattle.std.proofs.Common.{◌≡◌, ◌≢◌, ◌∙◌, ◌==◌, ℕ, Bool, true, false, [], ◌∷◌, Option, Some, refl, sym, ap, subst, arith}
use Rattle.std.specs.Prelude.{is_some}
use Rattle.std.specs.Option.{option_map}
use Rattle.std.proofs.lemmas.Bool.Decides.{nat_tests}
use Rattle.std.proofs.lemmas.Bool.{false≢true}
use Rattle.std.proofs.lemmas.Option.{none-some, same_Some}
use Rattle.jos_base.proofs.Puts.{Elsewhere}
use Rattle.jos_base.specs.declared.environment.Status.{Status}
use Rattle.jos_base.specs.declared.environment.Status.TheVariants.{NotRunnable}
use Rattle.jos_base.specs.declared.numbers.TheConstants.{UTEMP}
use Rattle.jos_base.specs.Environments.{Slot, is_live}
use Rattle.jos_base.specs.KernelState.{KernelState, slot_at}
use Rattle.jos_base.specs.Reach.{Entry}
use Rattle.jos_base.specs.Words.{page_number}
use Rattle.lib_os.specs.declared.numbers.TheConstants.{REQUEST}
use Rattle.lib_os.specs.declared.place.Place.{Place}
use Rattle.lib_os.specs.declared.place.Place.TheVariants as place
use Rattle.lib_os.specs.declared.place.Step.{Step}
use Rattle.lib_os.specs.declared.place.Step.TheVariants as step
use Rattle.lib_os.specs.declared.service.Service.{Service}
use Rattle.lib_os.specs.declared.service.Service.TheVariants as service
use Rattle.lib_os.specs.declared.spawn_steps.SpawnStep.{SpawnStep}
use Rattle.lib_os.specs.AbstractLaws.{ServesWhoAsked, client_served, has_asked}
use Rattle.lib_os.specs.AbstractState.{AbstractState, Born, Server, acted, asked, awaiting, born, busy, idle, in_service, leaving, looking, Phase}
use Rattle.lib_os.specs.Disk.{Disk}
use Rattle.lib_os.specs.LibraryPages.{IsOwnWritable, View, has_working}
use Rattle.lib_os.specs.LibrarySteps.{KeepsWorking, LacksFrame, LeavesServer, Stands}
use Rattle.lib_os.specs.Places.{place_of}
use Rattle.lib_os.specs.Rows.{MayBeHad, Names, Rows, is_of_descriptor, is_shared, lasting, logical, rows_of}
use Rattle.lib_os.specs.StandsFor.{IsStatusFor, StandsFor, StandsForBorn, view_of}
use Rattle.lib_os.proofs.AskedPlaces.{IsRequesting, asked_step, asks as asks_it, awaiting_step, expects, expects_so, is_request, is_requests}
use Rattle.lib_os.proofs.AskedPlaces.{requesting, spawn_asks, spawn_expects}
use Rattle.lib_os.proofs.EntriesCount.{Counts, entry_counts}
use Rattle.lib_os.proofs.EntriesStand.{other_frame, same_sharing}
use Rattle.lib_os.proofs.Logical.{clients_so, is_plain, is_remapped, logical_beside, plain_unremapped}
use Rattle.lib_os.proofs.ServedStay.{HasClient, client_is}
use Rattle.lib_os.proofs.ServerStands.{first_slot}
use Rattle.lib_os.proofs.SlotsStand.{born_at, born_live}
use Rattle.lib_os.proofs.SpawnWaits.{SpawnHasAsked, asks_file, asks_part, expected_so}
use Rattle.lib_os.proofs.StatesStand.{born_not_first}
use Rattle.fs_seen.specs.ServerMemory.{entry_of, has_request, request_page, sends_page}
use Rattle.fs_seen.specs.ServerOthers.{LeavesBytes}
use Rattle.fs_seen.specs.ServerWhole.{keeps_request}
use Rattle.jos_run.specs.ServerStands.{HasLent, IsLent, IsLentBy, ServerStands, step_of}
use Rattle.jos_run.specs.Steps.{is_awake}
use Rattle.jos_run.proofs.RequestsCalm.{RequestsCalmly, awaits_reply}

-- ---- who has asked

pub requests : (p : Phase) → has_asked p ≡ true → is_request p ≡ true
requests (in_service s asked) is = refl
requests (in_service s awaiting) is = refl
requests _ is = absurd (false≢true is)

-- one who has asked bears no child, but for spawn, and its pages count as they stand
requests_plain : (s : Service) → is_requests s ≡ true → (at : Step) → is_plain (place.InService s at) ≡ true
requests_plain service.Sync is at = refl
requests_plain (service.OpenFile path mode) is at = refl
requests_plain (service.Remove path) is at = refl
requests_plain (service.Seek fd offset) is at = refl
requests_plain (service.SetSize fd size) is at = refl
requests_plain (service.Write fd va len) is at = refl
requests_plain (service.Read fd va len) is at = refl
requests_plain (service.Stat fd va) is at = refl
requests_plain _ is at = absurd (false≢true is)

-- spawn may bear one, whose pages are others than that of the request
requesting_apart : {p : Place} {v : View} {k : Slot} {b : Born} → IsRequesting p v k b → is_remapped p (page_number UTEMP) ≡ false
requesting_apart (asks_it s is id fd at self so) =
    ap (λ (q : Place). is_remapped q (page_number UTEMP)) at
    ∙ plain_unremapped (place.InService s (asked_step s id fd)) (page_number UTEMP) (requests_plain s is (asked_step s id fd))
requesting_apart (expects s is id fd at self so) =
    ap (λ (q : Place). is_remapped q (page_number UTEMP)) at
    ∙ plain_unremapped (place.InService s (awaiting_step s id fd)) (page_number UTEMP) (requests_plain s is (awaiting_step s id fd))
requesting_apart (spawn_asks path argv to at so) = ap (λ (q : Place). is_remapped q (page_number UTEMP)) at
requesting_apart (spawn_expects path argv to at so) = ap (λ (q : Place). is_remapped q (page_number UTEMP)) at

-- and where it makes a step it is about to wait
asking_awaits : (s : Service) → is_requests s ≡ true → (id fd : ℕ) → awaits_reply (place.InService s (asked_step s id fd)) ≡ true
asking_awaits service.Sync is id fd = refl
asking_awaits (service.OpenFile path mode) is id fd = refl
asking_awaits (service.Remove path) is id fd = refl
asking_awaits (service.Seek given offset) is id fd = refl
asking_awaits (service.SetSize given size) is id fd = refl
asking_awaits (service.Write given va len) is id fd = refl
asking_awaits (service.Read given va len) is id fd = refl
asking_awaits (service.Stat given va) is id fd = refl
asking_awaits _ is id fd = absurd (false≢true is)

blocked_asleep : (status : Status) → IsStatusFor status true → is_awake status ≡ true → ⊥
blocked_asleep NotRunnable is awake = false≢true awake
blocked_asleep _ is awake = is

-- spawn, too
spawn_about : {v : View} {k : Slot} {b : Born} {path argv : ℕ} {to : SpawnStep} → SpawnHasAsked v k b path argv to →
    awaits_reply (place.InService (service.Spawn path argv) (step.Spawning to)) ≡ true
spawn_about (asks_file esp fd id self so) = refl
spawn_about (asks_part wanted id self so) = refl

-- One that may run does not wait for a reply.
requesting_awaits : {v : View} {k : Slot} {b : Born} → IsStatusFor k.status b.blocked → is_awake k.status ≡ true → IsRequesting (place_of k) v k b →
    awaits_reply (place_of k) ≡ true
requesting_awaits runs awake (asks_it s is id fd at self so) = ap awaits_reply at ∙ asking_awaits s is id fd
requesting_awaits {v = v} {k = k} {b = b} runs awake (expects s is id fd at self so) =
    let blocked = (expects_so v k b s fd so).blocked in
    absurd (blocked_asleep k.status (subst (λ (c : Bool). IsStatusFor k.status c) blocked runs) awake)
requesting_awaits runs awake (spawn_asks path argv to at so) = ap awaits_reply at ∙ spawn_about so
requesting_awaits {k = k} runs awake (spawn_expects path argv to at so) =
    let blocked = (expected_so so).1.blocked in
    absurd (blocked_asleep k.status (subst (λ (c : Bool). IsStatusFor k.status c) blocked runs) awake)

-- ---- who has a page

module _ {names : Names} {s : KernelState} {a : AbstractState} (h : StandsFor names s a) where
  abbrev counted : Rows
  counted = logical s.spaces s.environments.slots

  -- each other environment has another space
  other_space : (n : ℕ) → n ≢ 0 → is_live (slot_at s n) ≡ true → (slot_at s n).directory ≢ (slot_at s 0).directory
  other_space n other live alike = other (h.in_order.spaces.apart n 0 live (first_slot h).lives alike)

  -- What another has of the server's pages, but that of the request, is a descriptor's.
  pub others_lack : (n : ℕ) → n ≢ 0 → is_live (slot_at s n) ≡ true → (q : ℕ) → q ≢ request_page → (e : Entry) → entry_of s 0 q ≡ Some e →
      LacksFrame s n e.frame
  unfolding rows_of
  others_lack n other live q ne e there p x beside is same =
      let found = entry_counts h (slot_at s n).directory p (lasting x) (other_space n other live) (ap (option_map lasting) is) in
      let no_request : (q == page_number REQUEST) ≡ false = grind (arith, nat_tests, ne) in
      let had : MayBeHad false found.page found.entry =
      subst (λ (c : Bool). MayBeHad c found.page found.entry) no_request
      (h.beside found.slot found.page q found.entry (lasting e) found.counts (ap (option_map lasting) there) (found.frame ∙ same)) in
      let at_page : found.page ≡ p = found.itself (by_test found.entry (is_shared (lasting x).perm) refl found.own had.shared) in
      let contradiction : false ≡ true = sym beside ∙ ap is_of_descriptor (sym at_page) ∙ had.descriptor in cc
    where
      -- what counts as shared stands shared
      by_test : (e : Entry) (c : Bool) → is_shared (lasting x).perm ≡ c → (is_shared (lasting x).perm ≡ false → is_shared e.perm ≡ false) →
          is_shared e.perm ≡ true → is_shared (lasting x).perm ≡ true
      by_test e true test own shared_page = test
      by_test e false test own shared_page = absurd (false≢true (sym (own test) ∙ shared_page))

  -- ---- the page in which a client has told its request

  module _ (client : ℕ) (b : Born) (at : a.slots client ≡ born b) (request : is_request b.phase ≡ true) (own : Entry)
      (kept : rows_of s.spaces (slot_at s client).directory (page_number UTEMP) ≡ Some own) where
    born_so : StandsForBorn names s.spaces (slot_at s client) b
    born_so = born_at h client b at

    requests_so : IsRequesting (place_of (slot_at s client)) (view_of s.spaces (slot_at s client).directory) (slot_at s client) b
    requests_so =
        requesting (place_of (slot_at s client)) (view_of s.spaces (slot_at s client).directory) (slot_at s client) b born_so.at request

    -- it may be written by its own
    page : IsOwnWritable (rows_of s.spaces (slot_at s client).directory) (page_number UTEMP)
    page = by_test (has_working (place_of (slot_at s client)) (slot_at s client).extra) refl
      where
        by_test : (t : Bool) → has_working (place_of (slot_at s client)) (slot_at s client).extra ≡ t →
            IsOwnWritable (rows_of s.spaces (slot_at s client).directory) (page_number UTEMP)
        by_test true is = born_so.library.working is
        by_test false is = absurd (none-some own (sym (born_so.library.no_working is) ∙ kept))

    page_counts : counted client (page_number UTEMP) ≡ Some page.entry
    page_counts =
        logical_beside s.spaces s.environments.slots client (clients_so client (slot_at s client) (born_not_first h client b at) (born_live born_so))
        (page_number UTEMP) (λ same. omega (arith, same)) (requesting_apart requests_so)
        ∙ page.stands

    same_page : own.frame ≡ page.entry.frame
    same_page = ap (λ (x : Entry). x.frame) (same_Some own page.entry (sym kept ∙ page.stands))

    -- and no other has it
    pub clients_page : (n : ℕ) → n ≢ 0 → is_live (slot_at s n) ≡ true → n ≢ client → LacksFrame s n own.frame
    unfolding rows_of
    clients_page n other live ne p x beside is same =
        other_frame counted h.apart client (page_number UTEMP) found.slot found.page found.entry page.entry elsewhere page_counts page.writes found.counts
        sharing frames
      where
        found : Counts s a (slot_at s n).directory p (lasting x)
        found = entry_counts h (slot_at s n).directory p (lasting x) (other_space n other live) (ap (option_map lasting) is)

        frames : found.entry.frame ≡ page.entry.frame
        frames = found.frame ∙ same ∙ same_page

        elsewhere : Elsewhere found.slot found.page client (page_number UTEMP)
        elsewhere here =
            absurd (ne (h.in_order.spaces.apart n client live (born_live born_so)
            (sym (found.home client b at here))))

        sharing : is_shared found.entry.perm ≡ false
        sharing =
            same_sharing counted h.apart found.slot found.page client (page_number UTEMP) found.entry page.entry found.counts page_counts frames
            ∙ page.own_page

    -- Where it makes a step itself it is about to wait.
    pub client_awaits : is_awake (slot_at s client).status ≡ true → awaits_reply (place_of (slot_at s client)) ≡ true
    client_awaits awake = requesting_awaits born_so.runs awake requests_so

-- ---- what another's step leaves

module _ (d : Disk) (n : ℕ) (s after : KernelState) (other : n ≢ 0) (live : is_live (slot_at s n) ≡ true)
    (awake : is_awake (slot_at s n).status ≡ true) (it : LeavesServer n s after) (working : KeepsWorking n s after) (calm : RequestsCalmly n s after)
    (a : AbstractState) (h : Stands s a) (k : ServerStands d s a) where
  entries : (p : ℕ) → entry_of after 0 p ≡ entry_of s 0 p
  entries p = (λ i. after.spaces.entries (it.slot i).directory p) ∙ it.entries p

  there_as : has_request after 0 ≡ has_request s 0
  there_as = ap (λ (o : Option Entry). is_some o) (entries request_page)

  -- the client, and the page that it has lent
  module _ (client : ℕ) (served : client_served a.server ≡ Some client) (lent : IsLent s client) where
    who : HasClient a client
    who = client_is a k.asked client served

    -- the bytes of the page are left
    lent_bytes : (e : Entry) → entry_of s 0 request_page ≡ Some e → after.spaces.pages e.frame ≡ s.spaces.pages e.frame
    unfolding rows_of
    lent_bytes e there = by_slot (n == client) refl
      where
        frame : lent.own.frame ≡ e.frame
        frame =
            lent.same ∙ ap (λ (x : Entry). x.frame) (same_Some lent.entry (lasting e) (sym lent.stands ∙ ap (option_map lasting) there))

        by_slot : (t : Bool) → (n == client) ≡ t → after.spaces.pages e.frame ≡ s.spaces.pages e.frame
        by_slot true test =
            let same : n ≡ client = grind (arith, nat_tests, test) in
            let about = client_awaits h.1 client who.b who.is (requests who.b.phase who.has_asked) lent.own lent.kept
            (subst (λ (m : ℕ). is_awake (slot_at s m).status ≡ true) same awake) in
            let spaces = (calm.waits (subst (λ (m : ℕ). awaits_reply (place_of (slot_at s m)) ≡ true) (sym same) about)).spaces in
            (λ i. (spaces i).pages e.frame)
        by_slot false test =
            let ne : n ≢ client = grind (arith, nat_tests, test) in
            it.pages request_page e there
            (subst (λ (f : ℕ). LacksFrame s n f) frame
            (clients_page h.1 client who.b who.is (requests who.b.phase who.has_asked) lent.own lent.kept n other live ne))

    -- and it is lent still
    still_lent : (c : AbstractState) → Stands after c → HasClient c client → IsLent after client
    unfolding rows_of
    still_lent c stands then_it = record {
      own = lent.own;
      kept = by_slot (n == client) refl ∙ lent.kept;
      entry = lent.entry;
      stands = ap (option_map lasting) (entries request_page) ∙ lent.stands;
      same = lent.same;
    }
      where
        by_slot : (t : Bool) → (n == client) ≡ t →
            rows_of after.spaces (slot_at after client).directory (page_number UTEMP) ≡ rows_of s.spaces (slot_at s client).directory (page_number UTEMP)
        by_slot true test =
            let same : n ≡ client = grind (arith, nat_tests, test) in
            let about = client_awaits h.1 client who.b who.is (requests who.b.phase who.has_asked) lent.own lent.kept
            (subst (λ (m : ℕ). is_awake (slot_at s m).status ≡ true) same awake) in
            let spaces = calm.waits (subst (λ (m : ℕ). awaits_reply (place_of (slot_at s m)) ≡ true) (sym same) about) in
            subst (λ (m : ℕ). rows_of after.spaces (slot_at after m).directory (page_number UTEMP)
            ≡ rows_of s.spaces (slot_at s m).directory (page_number UTEMP)) same
            (λ i. rows_of (spaces.spaces i) (spaces.home i) (page_number UTEMP))
        by_slot false test =
            let ne : client ≢ n = grind (arith, nat_tests, test) in
            working stands.1.in_order live a h client who.b ne who.is (born_live (born_at stands.1 client then_it.b then_it.is))

  -- the bytes of the page of a request, where one is lent
  by_page : (client : ℕ) → client_served a.server ≡ Some client → (c : Bool) → IsLentBy c s client → (e : Entry) →
      entry_of s 0 request_page ≡ Some e → after.spaces.pages e.frame ≡ s.spaces.pages e.frame
  by_page client served true lent e there = lent_bytes client served lent e there
  by_page client served false none e there =
      absurd (let contradiction : false ≡ true = sym none ∙ ap (λ (o : Option Entry). is_some o) there in cc)

  request_left : keeps_request a.server ≡ true → (e : Entry) → entry_of s 0 request_page ≡ Some e →
      after.spaces.pages e.frame ≡ s.spaces.pages e.frame
  request_left keeps e there = by_server a.server refl keeps k.lent
    where
      by_server : (x : Server) → a.server ≡ x → keeps_request x ≡ true → HasLent x s → after.spaces.pages e.frame ≡ s.spaces.pages e.frame
      by_server leaving is keeps lent = absurd (false≢true keeps)
      by_server idle is keeps lent = absurd (false≢true keeps)
      by_server (looking client request number) is keeps lent = by_page client (ap client_served is) (sends_page request) lent e there
      by_server (busy client request number) is keeps lent = by_page client (ap client_served is) (sends_page request) lent e there
      by_server (acted client answer [] object) is keeps lent = absurd (false≢true keeps)
      by_server (acted client answer (byte ∷ rest) object) is keeps lent = lent_bytes client (ap client_served is) lent e there

  pub pages_left : LeavesBytes a.server s after 0
  pages_left = record {
    slot = it.slot;
    entries = entries;
    tables = it.regions;
    bytes = λ p e own ne there. it.pages p e there (others_lack h.1 n other live p ne e there);
    request = request_left;
  }

  pub lent_left : (c : AbstractState) → Stands after c → c.server ≡ a.server → ServesWhoAsked c → HasLent c.server after
  lent_left c stands same who_asked = subst (λ (x : Server). HasLent x after) (sym same) (by_server a.server refl k.lent)
    where
      lent_then : (client : ℕ) → client_served a.server ≡ Some client → IsLent s client → IsLent after client
      lent_then client is lent =
          still_lent client is lent c stands (client_is c who_asked client (ap (λ (x : Server). client_served x) same ∙ is))

      page_then : (client : ℕ) → client_served a.server ≡ Some client → (t : Bool) → IsLentBy t s client → IsLentBy t after client
      page_then client is true lent = lent_then client is lent
      page_then client is false none = there_as ∙ none

      by_server : (x : Server) → a.server ≡ x → HasLent x s → HasLent x after
      by_server leaving is lent = λ receiving. there_as ∙ lent (ap (λ (x : Slot). step_of x) (sym it.slot) ∙ receiving)
      by_server idle is none = there_as ∙ none
      by_server (looking client request number) is lent = page_then client (ap client_served is) (sends_page request) lent
      by_server (busy client request number) is lent = page_then client (ap client_served is) (sends_page request) lent
      by_server (acted client answer [] object) is lent = tt
      by_server (acted client answer (byte ∷ rest) object) is lent = lent_then client (ap client_served is) lent
