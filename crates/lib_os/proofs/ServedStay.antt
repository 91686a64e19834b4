-- Whom the file server serves has asked it and has no reply yet, whatever slot makes a step: the server's own steps keep
-- the client until its reply, and a step of another environment leaves who has asked.
use Rattle.std.proofs.Common.{◌≡◌, ◌≢◌, ◌∙◌, inl, inr, ◌≤◌, ◌<◌, ℕ, zero, suc, ◌+◌, arith, Bool, true, false, List, [], ◌∷◌, refl, sym, ap, subst}
use Rattle.std.proofs.Common.{if◌then◌else◌}
use Rattle.std.proofs.lemmas.Bool.{cases_eq}
use Rattle.std.proofs.lemmas.Option.{same_Some}
use Rattle.std.specs.Prelude.{Option, Some, None, IfSome, ◌==◌}
use Rattle.jos_base.specs.declared.registers.Regs.{Regs}
use Rattle.jos_base.specs.declared.numbers.TheConstants.{NENV}
use Rattle.jos_base.specs.SpacesState.{rising}
use Rattle.jos_base.specs.Words.{upd}
use Rattle.fs_layout.specs.FileTree.{FileAct, FileSystem, open_path, read_file, write_file, set_file_size, stat_file, remove_path, sync_files}
use Rattle.fs_layout.specs.FileActs.{Acted}
use Rattle.lib_os.specs.declared.service.Service.{Service}
use Rattle.lib_os.specs.declared.service.Service.TheVariants as service
use Rattle.lib_os.specs.AbstractState.{AbstractState, AbstractSlot, Born, free, unborn, born, serving, Object, file, Request, act, seek}
use Rattle.lib_os.specs.AbstractState.{ProgramState, guest, shell, Phase, in_service, Stage, entered, asked, awaiting, replied}
use Rattle.lib_os.specs.AbstractState.{Server, leaving, idle, looking, busy, acted, Spawning}
use Rattle.lib_os.specs.AbstractSpawn.{spawn_step}
use Rattle.lib_os.specs.GuestStep.{born_in}
use Rattle.lib_os.specs.FileServer.{request_begun, request_taken, await_reply, looked, after_act, file_opened, with_offset_of, moved_on}
use Rattle.lib_os.specs.FileServer.{act_done, given, reply_at, reply, served, server_step, is_count}
use Rattle.lib_os.specs.Descriptors.{lowest_free}
use Rattle.lib_os.specs.LibraryCall.{library_step}
use Rattle.lib_os.specs.AbstractRun.{abs_step, program_step, slot_step}
use Rattle.lib_os.specs.AbstractLaws.{client_served, asks_server, has_asked, is_asking, bears_in, borne_by, is_vacant, is_unborn, IsNoneOf}
use Rattle.lib_os.specs.AbstractLaws.{AreVacant, AreGivenApart, AsksOrLeaves, LeavesFiles, OpensNobodys, ServesWhoAsked, ServedClientsStay}
use Rattle.jos_base.proofs.Maps.{upd-other, upd-at}
use Rattle.lib_os.proofs.FilesLeft.{clients_leave_files}
use Rattle.lib_os.proofs.OpensStay.{opens_by_client, opens_by_server}
use Rattle.lib_os.proofs.StepsAsk.{Kind, kind, Others, Own, bears_none, bears_still, as_before, still, ended, asks, begins, bears, drops, Ends}
use Rattle.lib_os.proofs.StepsAsk.{seen_other, step_ends}

false≢true : {A : Type 0} → false ≡ true → A
false≢true e = absurd (cc)

-- ---- lists of vacant slots

-- one who is there is none of those that are vacant
none_vacant : (slots : ℕ → AbstractSlot) (n : ℕ) → is_vacant (slots n) ≡ false → (list : List ℕ) → AreVacant slots list → IsNoneOf n list
none_vacant slots n is [] h = record {}
none_vacant slots n is (m ∷ rest) h =
    (λ same. false≢true (sym is ∙ ap (λ (k : ℕ). is_vacant (slots k)) (sym same) ∙ h.0), none_vacant slots n is rest h.2)

-- a list without a slot, when all others that were vacant are so
vacant_still : (slots after : ℕ → AbstractSlot) (n : ℕ) →
    ((m : ℕ) → m ≢ n → is_vacant (slots m) ≡ true → is_vacant (after m) ≡ true) →
    (list : List ℕ) → IsNoneOf n list → AreVacant slots list → AreVacant after list
vacant_still slots after n move [] apart h = record {}
vacant_still slots after n move (m ∷ rest) apart h = (move m apart.0 h.0, h.1, vacant_still slots after n move rest apart.1 h.2)

-- numbers that rise
none_rising : (count first n : ℕ) → n < first → IsNoneOf n (rising first count)
unfolding rising
none_rising zero first n below = record {}
none_rising (suc count) first n below = (λ same. absurd (omega (arith, same, below)), none_rising count (first + 1) n (omega (arith, below)))

pub vacant_rising : (slots : ℕ → AbstractSlot) (count first : ℕ) → ((n : ℕ) → first ≤ n → is_vacant (slots n) ≡ true) →
    AreVacant slots (rising first count)
unfolding rising
vacant_rising slots zero first all = record {}
vacant_rising slots (suc count) first all =
    (all first (omega arith), none_rising count (first + 1) first (omega arith), vacant_rising slots count (first + 1) (λ n above. all n (omega (arith, above))))

-- ---- an environment's step

-- whoever has asked for it is the client of a request that is taken
begun_for : (n : ℕ) (request : Request) → client_served (request_begun n request) ≡ Some n
begun_for n (act (open_path path mode) object) = refl
begun_for n (act (read_file way offset len) object) = refl
begun_for n (act (write_file way offset bytes) object) = refl
begun_for n (act (set_file_size way size) object) = refl
begun_for n (act (stat_file way) object) = refl
begun_for n (act (remove_path path) object) = refl
begun_for n (act sync_files object) = refl
begun_for n (seek name offset) = refl

-- one who has asked goes on to wait
module _ (a : AbstractState) (n : ℕ) (b : Born) where
  abbrev Asks : Option AbstractState → Type 0
  Asks r = IfSome r (λ x. is_asking (x.slots n) ≡ true)

  at_waiting : (s : Service) → asks_server s ≡ true → is_asking ((await_reply a n b s).slots n) ≡ true
  at_waiting s asks_it =
      ap (λ (slot : AbstractSlot). is_asking slot) (upd-at a.slots n (born (record b { phase = in_service s awaiting; blocked = true }))) ∙ asks_it

  spawn_asked : (regs : Regs) (path argv : ℕ) (found : Option Spawning) → Asks (spawn_step a n b regs path argv asked found)
  unfolding spawn_step
  spawn_asked regs path argv None = record {}
  spawn_asked regs path argv (Some found) = at_waiting (service.Spawn path argv) refl

  spawn_awaits : (regs : Regs) (path argv : ℕ) (found : Option Spawning) → Asks (spawn_step a n b regs path argv awaiting found)
  unfolding spawn_step
  spawn_awaits regs path argv None = record {}
  spawn_awaits regs path argv (Some found) = record {}

  asked_waits : (regs : Regs) (s : Service) → asks_server s ≡ true → Asks (library_step a n b regs s asked)
  unfolding library_step
  asked_waits regs (service.OpenFile path mode) is = at_waiting (service.OpenFile path mode) refl
  asked_waits regs (service.Read fd va len) is = at_waiting (service.Read fd va len) refl
  asked_waits regs (service.Write fd va len) is = at_waiting (service.Write fd va len) refl
  asked_waits regs (service.Seek fd offset) is = at_waiting (service.Seek fd offset) refl
  asked_waits regs (service.Stat fd va) is = at_waiting (service.Stat fd va) refl
  asked_waits regs (service.SetSize fd size) is = at_waiting (service.SetSize fd size) refl
  asked_waits regs (service.Remove path) is = at_waiting (service.Remove path) refl
  asked_waits regs service.Sync is = at_waiting service.Sync refl
  asked_waits regs (service.Spawn path argv) is = spawn_asked regs path argv b.spawning
  asked_waits regs _ is = absurd (cc)

  -- one who waits has no step
  awaiting_waits : (regs : Regs) (s : Service) → asks_server s ≡ true → Asks (library_step a n b regs s awaiting)
  unfolding library_step
  awaiting_waits regs (service.OpenFile path mode) is = record {}
  awaiting_waits regs (service.Read fd va len) is = record {}
  awaiting_waits regs (service.Write fd va len) is = record {}
  awaiting_waits regs (service.Seek fd offset) is = record {}
  awaiting_waits regs (service.Stat fd va) is = record {}
  awaiting_waits regs (service.SetSize fd size) is = record {}
  awaiting_waits regs (service.Remove path) is = record {}
  awaiting_waits regs service.Sync is = record {}
  awaiting_waits regs (service.Spawn path argv) is = spawn_awaits regs path argv b.spawning
  awaiting_waits regs _ is = absurd (cc)

  waits_on : (regs : Regs) (s : Service) (stage : Stage) → has_asked (in_service s stage) ≡ true → Asks (library_step a n b regs s stage)
  waits_on regs s asked is = asked_waits regs s is
  waits_on regs s awaiting is = awaiting_waits regs s is
  waits_on regs s _ is = absurd (cc)

  program_waits : (program : ProgramState) (phase : Phase) → has_asked phase ≡ true → Asks (program_step a n b program phase)
  program_waits (guest regs) (in_service s stage) is = waits_on regs s stage is
  program_waits (guest regs) phase is = absurd (cc)
  program_waits (shell place) phase is = record {}

  if_asks : (c : Bool) (r : Option AbstractState) → Asks r → Asks (if c then None else r)
  if_asks true r h = record {}
  if_asks false r h = h

  still_asks : a.slots n ≡ born b → is_asking (a.slots n) ≡ true → Asks (abs_step a n)
  unfolding abs_step
  still_asks at is =
      let mine : has_asked b.phase ≡ true = ap (λ (slot : AbstractSlot). is_asking slot) (sym at) ∙ is in
      subst (λ (slot : AbstractSlot). Asks (slot_step a n slot)) (sym at) (if_asks b.blocked _ (program_waits b.program b.phase mine))

-- ---- it stays

-- whom the server serves has asked it, and nobody's slot is given twice
record ServesStill (a : AbstractState) : Type 0 where
  asked : (client : ℕ) → client_served a.server ≡ Some client → (client < NENV) × (is_asking (a.slots client) ≡ true)
  given : AreGivenApart a.slots a.free_slots

module _ (a : AbstractState) (h : ServesWhoAsked a) (n : ℕ) (b : Born) (at : a.slots n ≡ born b) where
  -- slot n is an environment's
  not_vacant : is_vacant (a.slots n) ≡ false
  not_vacant = ap (λ (slot : AbstractSlot). is_vacant slot) at

  not_unborn : is_unborn (a.slots n) ≡ false
  not_unborn = ap (λ (slot : AbstractSlot). is_unborn slot) at

  other_unborn : (m : ℕ) → is_unborn (a.slots m) ≡ true → m ≢ n
  other_unborn m is same = false≢true (sym not_unborn ∙ ap (λ (k : ℕ). is_unborn (a.slots k)) (sym same) ∙ is)

  kind_asks : (s t : AbstractSlot) → kind s ≡ kind t → is_asking s ≡ is_asking t
  kind_asks s t e = ap (λ (k : Kind). k.asks) e

  kind_bears : (s t : AbstractSlot) → kind s ≡ kind t → borne_by s ≡ borne_by t
  kind_bears s t e = ap (λ (k : Kind). k.borne) e

  kind_vacant : (s t : AbstractSlot) → kind s ≡ kind t → is_vacant s ≡ is_vacant t
  kind_vacant s t e = ap (λ (k : Kind). k.vacant) e

  kind_unborn : (s t : AbstractSlot) → kind s ≡ kind t → is_unborn s ≡ is_unborn t
  kind_unborn s t e = ap (λ (k : Kind). k.being_made) e

  module _ (slots : ℕ → AbstractSlot) (others : Others a n slots) where
    vacant_other : (m : ℕ) → m ≢ n → is_vacant (a.slots m) ≡ true → is_vacant (slots m) ≡ true
    vacant_other m ne is = kind_vacant (slots m) (a.slots m) (others m ne).alike ∙ is

    free_still : AreVacant slots a.free_slots
    free_still = vacant_still a.slots slots n vacant_other a.free_slots (none_vacant a.slots n not_vacant a.free_slots h.given.vacant) h.given.vacant

    -- whom an environment bears now, it bore before
    module _ (itself : (child : ℕ) → borne_by (slots n) ≡ Some child → borne_by (a.slots n) ≡ Some child) where
      bore : (m child : ℕ) → borne_by (slots m) ≡ Some child → borne_by (a.slots m) ≡ Some child
      bore m child is = elim (cases_eq m n) [
        | inl same ↦ subst (λ (k : ℕ). borne_by (a.slots k) ≡ Some child) (sym same)
            (itself child (subst (λ (k : ℕ). borne_by (slots k) ≡ Some child) same is))
        | inr ne ↦ sym (kind_bears (slots m) (a.slots m) (others m ne).alike) ∙ is
      ]

      given_still : (free_slots : List ℕ) → AreVacant slots free_slots → AreGivenApart slots free_slots
      given_still free_slots vacant = record {
        vacant = vacant;
        children = λ m child is.
            let made : is_unborn (a.slots child) ≡ true = h.given.children m child (bore m child is) in
            kind_unborn (slots child) (a.slots child) (others child (other_unborn child made)).alike ∙ made;
        parents = λ m k child is so. h.given.parents m k child (bore m child is) (bore k child so);
      }

    -- who has asked, has asked still
    asking_still : (is_asking (a.slots n) ≡ true → is_asking (slots n) ≡ true) → (m : ℕ) → is_asking (a.slots m) ≡ true →
        is_asking (slots m) ≡ true
    asking_still itself m is = elim (cases_eq m n) [
      | inl same ↦ subst (λ (k : ℕ). is_asking (slots k) ≡ true) (sym same)
          (itself (subst (λ (k : ℕ). is_asking (a.slots k) ≡ true) same is))
      | inr ne ↦ kind_asks (slots m) (a.slots m) (others m ne).alike ∙ is
    ]

  -- what an environment bears that bears nobody, or is as it was
  own_bore : (slot : AbstractSlot) → Own a n (kind slot) → (child : ℕ) → borne_by slot ≡ Some child → borne_by (a.slots n) ≡ Some child
  own_bore slot (bears_none e vacant made) child is = absurd (let contradiction : ◌≡◌ {A = Option ℕ} None (Some child) = sym e ∙ is in cc)
  own_bore slot (bears_still e vacant made) child is = sym e ∙ is
  own_bore slot (as_before e) child is = sym (kind_bears slot (a.slots n) e) ∙ is

  -- who is served when the server is as it was
  served_still : (slots : ℕ → AbstractSlot) (server : Server) → server ≡ a.server →
      ((m : ℕ) → is_asking (a.slots m) ≡ true → is_asking (slots m) ≡ true) →
      (client : ℕ) → client_served server ≡ Some client → (client < NENV) × (is_asking (slots client) ≡ true)
  served_still slots server same move client is =
      let was : (client < NENV) × (is_asking (a.slots client) ≡ true) = h.asked client (ap (λ (s : Server). client_served s) (sym same) ∙ is) in
      (was.0, move client was.1)

  -- ---- a slot is given

  -- another slot changes, and then slot n
  module _ (child : ℕ) (apart : child ≢ n) (new : AbstractSlot) (c : Born) where
    abbrev mid : ℕ → AbstractSlot
    mid = upd a.slots child new

    abbrev now : ℕ → AbstractSlot
    now = upd mid n (born c)

    at_child : now child ≡ new
    at_child = upd-other mid n (born c) child apart ∙ upd-at a.slots child new

    at_own : now n ≡ born c
    at_own = upd-at mid n (born c)

    at_other : (m : ℕ) → m ≢ n → m ≢ child → now m ≡ a.slots m
    at_other m ne other = upd-other mid n (born c) m ne ∙ upd-other a.slots child new m other

    mid_own : mid n ≡ a.slots n
    mid_own = upd-other a.slots child new n (λ same. apart (sym same))

    vacant_two : (list : List ℕ) → IsNoneOf child list → AreVacant a.slots list → AreVacant now list
    vacant_two list none all =
        let first : AreVacant mid list = vacant_still a.slots mid child
        (λ m ne is. ap (λ (slot : AbstractSlot). is_vacant slot) (upd-other a.slots child new m ne) ∙ is) list none all in
        let off : is_vacant (mid n) ≡ false = ap (λ (slot : AbstractSlot). is_vacant slot) mid_own ∙ not_vacant in
        vacant_still mid now n (λ m ne is. ap (λ (slot : AbstractSlot). is_vacant slot) (upd-other mid n (born c) m ne) ∙ is) list
        (none_vacant mid n off list first) first

    asking_two : is_asking (a.slots child) ≡ false → (is_asking (a.slots n) ≡ true → is_asking (now n) ≡ true) →
        (m : ℕ) → is_asking (a.slots m) ≡ true → is_asking (now m) ≡ true
    asking_two off itself m is = elim (cases_eq m n) [
      | inl same ↦ subst (λ (k : ℕ). is_asking (now k) ≡ true) (sym same)
          (itself (subst (λ (k : ℕ). is_asking (a.slots k) ≡ true) same is))
      | inr ne ↦ elim (cases_eq m child) [
        | inl same ↦ false≢true (sym off ∙ subst (λ (k : ℕ). is_asking (a.slots k) ≡ true) same is)
        | inr other ↦ ap (λ (slot : AbstractSlot). is_asking slot) (at_other m ne other) ∙ is
      ]
    ]

    -- who is not borne any more, and who was not
    unborn_two : (m : ℕ) → m ≢ child → is_unborn (a.slots m) ≡ true → is_unborn (now m) ≡ true
    unborn_two m other is = ap (λ (slot : AbstractSlot). is_unborn slot) (at_other m (other_unborn m is) other) ∙ is

    bore_two : (m k : ℕ) → m ≢ n → borne_by new ≡ None → borne_by (now m) ≡ Some k → borne_by (a.slots m) ≡ Some k
    bore_two m k ne bears_nobody is = elim (cases_eq m child) [
      | inl same ↦ absurd
          (let contradiction : ◌≡◌ {A = Option ℕ} None (Some k) =
          sym (ap (λ (slot : AbstractSlot). borne_by slot) at_child ∙ bears_nobody)
          ∙ subst (λ (j : ℕ). borne_by (now j) ≡ Some k) same is in cc)
      | inr other ↦ ap (λ (slot : AbstractSlot). borne_by slot) (sym (at_other m ne other)) ∙ is
    ]

  -- a vacant slot is none that asks or is not born
  vacant_only : (slot : AbstractSlot) → is_vacant slot ≡ true → (is_asking slot ≡ false) × (is_unborn slot ≡ false)
  vacant_only (free id) is = (refl, refl)
  vacant_only _ is = absurd (cc)

  unborn_only : (slot : AbstractSlot) → is_unborn slot ≡ true → (is_asking slot ≡ false) × (is_vacant slot ≡ false)
  unborn_only (unborn id parent) is = (refl, refl)
  unborn_only _ is = absurd (cc)

  -- it begins to bear a child
  module _ (child id parent : ℕ) (rest : List ℕ) (c : Born) (list : a.free_slots ≡ child ∷ rest) (bears_it : bears_in c.phase c.spawning ≡ Some child) where
    listed : AreVacant a.slots (child ∷ rest)
    listed = subst (λ (l : List ℕ). AreVacant a.slots l) list h.given.vacant

    child_only : (is_asking (a.slots child) ≡ false) × (is_unborn (a.slots child) ≡ false)
    child_only = let all = listed in vacant_only (a.slots child) all.0

    child_apart : child ≢ n
    child_apart same =
        let all = listed in
        false≢true (sym not_vacant ∙ ap (λ (k : ℕ). is_vacant (a.slots k)) (sym same) ∙ all.0)

    abbrev begun : ℕ → AbstractSlot
    begun = now child child_apart (unborn id parent) c

    -- nobody bore it
    unborne : (m : ℕ) → borne_by (a.slots m) ≡ Some child → ⊥
    unborne m is = let only = child_only in false≢true (sym only.1 ∙ h.given.children m child is)

    own_child : (k : ℕ) → borne_by (begun n) ≡ Some k → child ≡ k
    own_child k is =
        same_Some child k (sym bears_it ∙ ap (λ (slot : AbstractSlot). borne_by slot) (sym (at_own child child_apart (unborn id parent) c)) ∙ is)

    bore_begun : (m k : ℕ) → m ≢ n → borne_by (begun m) ≡ Some k → borne_by (a.slots m) ≡ Some k
    bore_begun m k ne is = bore_two child child_apart (unborn id parent) c m k ne refl is

    begun_apart : AreGivenApart begun rest
    begun_apart = record {
      vacant = let all = listed in vacant_two child child_apart (unborn id parent) c rest all.1 all.2;
      children = children_are;
      parents = parents_are;
    }
      where
        child_made : is_unborn (begun child) ≡ true
        child_made = ap (λ (slot : AbstractSlot). is_unborn slot) (at_child child child_apart (unborn id parent) c)

        children_are : (m k : ℕ) → borne_by (begun m) ≡ Some k → is_unborn (begun k) ≡ true
        children_are m k is = elim (cases_eq m n) [
          | inl same ↦ subst (λ (j : ℕ). is_unborn (begun j) ≡ true)
              (own_child k (subst (λ (j : ℕ). borne_by (begun j) ≡ Some k) same is)) child_made
          | inr ne ↦ let bore = bore_begun m k ne is in
              unborn_two child child_apart (unborn id parent) c k
              (λ same. unborne m (subst (λ (j : ℕ). borne_by (a.slots m) ≡ Some j) same bore)) (h.given.children m k bore)
        ]

        one_parent : (m k : ℕ) → borne_by (begun n) ≡ Some k → m ≢ n → borne_by (begun m) ≡ Some k → ⊥
        one_parent m k own_is ne is =
            unborne m (subst (λ (j : ℕ). borne_by (a.slots m) ≡ Some j) (sym (own_child k own_is)) (bore_begun m k ne is))

        parents_are : (m j k : ℕ) → borne_by (begun m) ≡ Some k → borne_by (begun j) ≡ Some k → m ≡ j
        parents_are m j k is so = elim (cases_eq m n) [
          | inl first ↦ elim (cases_eq j n) [
            | inl second ↦ first ∙ sym second
            | inr ne ↦ absurd (one_parent j k (subst (λ (i : ℕ). borne_by (begun i) ≡ Some k) first is) ne so)
          ]
          | inr ne ↦ elim (cases_eq j n) [
            | inl second ↦ absurd (one_parent m k (subst (λ (i : ℕ). borne_by (begun i) ≡ Some k) second so) ne is)
            | inr other ↦ h.given.parents m j k (bore_begun m k ne is) (bore_begun j k other so)
          ]
        ]

  -- its child is born, or is not born at all
  module _ (child : ℕ) (new : AbstractSlot) (c : Born) (borne : borne_by (a.slots n) ≡ Some child) (new_bears : borne_by new ≡ None)
      (bears_no_more : bears_in c.phase c.spawning ≡ None) where
    made : is_unborn (a.slots child) ≡ true
    made = h.given.children n child borne

    made_only : (is_asking (a.slots child) ≡ false) × (is_vacant (a.slots child) ≡ false)
    made_only = unborn_only (a.slots child) made

    abbrev birth : ℕ → AbstractSlot
    birth = now child (other_unborn child made) new c

    bore_birth : (m k : ℕ) → borne_by (birth m) ≡ Some k → (m ≢ n) × (borne_by (a.slots m) ≡ Some k)
    bore_birth m k is = elim (cases_eq m n) [
      | inl same ↦ absurd
          (let contradiction : ◌≡◌ {A = Option ℕ} None (Some k) =
          sym (ap (λ (slot : AbstractSlot). borne_by slot) (at_own child (other_unborn child made) new c) ∙ bears_no_more)
          ∙ subst (λ (j : ℕ). borne_by (birth j) ≡ Some k) same is in cc)
      | inr ne ↦ (ne, bore_two child (other_unborn child made) new c m k ne new_bears is)
    ]

    birth_apart : AreGivenApart birth a.free_slots
    birth_apart = record {
      vacant =
          let only = made_only in
          vacant_two child (other_unborn child made) new c a.free_slots (none_vacant a.slots child only.1 a.free_slots h.given.vacant)
          h.given.vacant;
      children = λ m k is.
          let bore = bore_birth m k is in
          unborn_two child (other_unborn child made) new c k
          (λ same. bore.0 (h.given.parents m n k bore.1 (borne ∙ ap (λ (j : ℕ). Some j) (sym same)))) (h.given.children m k bore.1);
      parents = λ m j k is so. let first = bore_birth m k is in let second = bore_birth j k so in h.given.parents m j k first.1 second.1;
    }

    -- where it is not born its slot is free
    dropped_apart : is_vacant new ≡ true → AreGivenApart birth (child ∷ a.free_slots)
    dropped_apart vacant = record {
      vacant = (
        ap (λ (slot : AbstractSlot). is_vacant slot) (at_child child (other_unborn child made) new c) ∙ vacant,
        (let only = made_only in none_vacant a.slots child only.1 a.free_slots h.given.vacant),
        birth_apart.vacant,
      );
      children = birth_apart.children;
      parents = birth_apart.parents;
    }

  -- ---- any step of the environment

  done_stays : n < NENV → (x : AbstractState) → Ends a n x → (is_asking (a.slots n) ≡ true → is_asking (x.slots n) ≡ true) → ServesStill x
  done_stays small x (still k) itself = record {
    asked = served_still x.slots x.server k.server_is (asking_still x.slots k.others itself);
    given = given_still x.slots k.others (own_bore (x.slots n) k.itself) x.free_slots
        (subst (λ (l : List ℕ). AreVacant x.slots l) (sym k.free_are) (free_still x.slots k.others));
  }
  done_stays small x (ended others id slot_is free_are server_is) itself = record {
    asked = served_still x.slots x.server server_is (asking_still x.slots others itself);
    given = given_still x.slots others
        (λ child is. absurd
        (let contradiction : ◌≡◌ {A = Option ℕ} None (Some child) = sym (ap (λ (slot : AbstractSlot). borne_by slot) slot_is) ∙ is in cc))
        x.free_slots
        (subst (λ (l : List ℕ). AreVacant x.slots l) (sym free_are) (
          ap (λ (slot : AbstractSlot). is_vacant slot) slot_is,
          none_vacant a.slots n not_vacant a.free_slots h.given.vacant,
          free_still x.slots others,
        ));
  }
  done_stays small x (asks k request is_so server_is) itself = record {
    asked = λ client is.
        let same : n ≡ client = same_Some n client (sym (begun_for n request) ∙ ap (λ (s : Server). client_served s) (sym server_is) ∙ is) in
        subst (λ (m : ℕ). (m < NENV) × (is_asking (x.slots m) ≡ true)) same (small, is_so);
    given = given_still x.slots k.others (own_bore (x.slots n) k.itself) x.free_slots
        (subst (λ (l : List ℕ). AreVacant x.slots l) (sym k.free_are) (free_still x.slots k.others));
  }
  done_stays small x (begins child id parent c list slots_are bears_it server_is) itself = record {
    asked = served_still x.slots x.server server_is
        (subst (λ (slots : ℕ → AbstractSlot). (m : ℕ) → is_asking (a.slots m) ≡ true → is_asking (slots m) ≡ true) (sym slots_are)
        (let only = child_only child id parent x.free_slots c list bears_it in
        asking_two child (child_apart child id parent x.free_slots c list bears_it) (unborn id parent) c only.0
        (subst (λ (slots : ℕ → AbstractSlot). is_asking (a.slots n) ≡ true → is_asking (slots n) ≡ true) slots_are itself)));
    given = subst (λ (slots : ℕ → AbstractSlot). AreGivenApart slots x.free_slots) (sym slots_are)
        (begun_apart child id parent x.free_slots c list bears_it);
  }
  done_stays small x (bears child new c borne slots_are new_bears no_more free_are server_is) itself = record {
    asked = served_still x.slots x.server server_is
        (subst (λ (slots : ℕ → AbstractSlot). (m : ℕ) → is_asking (a.slots m) ≡ true → is_asking (slots m) ≡ true) (sym slots_are)
        (let only = made_only child (born new) c borne new_bears no_more in
        asking_two child (other_unborn child (made child (born new) c borne new_bears no_more)) (born new) c only.0
        (subst (λ (slots : ℕ → AbstractSlot). is_asking (a.slots n) ≡ true → is_asking (slots n) ≡ true) slots_are itself)));
    given = subst (λ (list : List ℕ). AreGivenApart x.slots list) (sym free_are)
        (subst (λ (slots : ℕ → AbstractSlot). AreGivenApart slots a.free_slots) (sym slots_are)
        (birth_apart child (born new) c borne new_bears no_more));
  }
  done_stays small x (drops child id c borne slots_are no_more free_are server_is) itself = record {
    asked = served_still x.slots x.server server_is
        (subst (λ (slots : ℕ → AbstractSlot). (m : ℕ) → is_asking (a.slots m) ≡ true → is_asking (slots m) ≡ true) (sym slots_are)
        (let only = made_only child (free id) c borne refl no_more in
        asking_two child (other_unborn child (made child (free id) c borne refl no_more)) (free id) c only.0
        (subst (λ (slots : ℕ → AbstractSlot). is_asking (a.slots n) ≡ true → is_asking (slots n) ≡ true) slots_are itself)));
    given = subst (λ (list : List ℕ). AreGivenApart x.slots list) (sym free_are)
        (subst (λ (slots : ℕ → AbstractSlot). AreGivenApart slots (child ∷ a.free_slots)) (sym slots_are)
        (dropped_apart child (free id) c borne refl no_more refl));
  }

  own_stays : n < NENV → (r : Option AbstractState) → IfSome r (Ends a n) → (is_asking (a.slots n) ≡ true → Asks a n b r) → IfSome r ServesStill
  own_stays small None ends itself = record {}
  own_stays small (Some x) ends itself = done_stays small x ends itself

-- ---- the server's step

module _ (a : AbstractState) (h : ServesWhoAsked a) where
  -- the slots are as they were, and it serves this client
  record Serves (client : ℕ) (slots : ℕ → AbstractSlot) (free_slots : List ℕ) (server : Server) : Type 0 where
    slots_are : slots ≡ a.slots
    free_are : free_slots ≡ a.free_slots
    serves : client_served server ≡ Some client

  abbrev Goes : ℕ → AbstractState → Type 0
  Goes client x = Serves client x.slots x.free_slots x.server

  same_slots : (x : AbstractState) → x.slots ≡ a.slots → x.free_slots ≡ a.free_slots →
      ((client : ℕ) → client_served x.server ≡ Some client → client_served a.server ≡ Some client) → ServesStill x
  same_slots x slots_are free_are serves = record {
    asked = λ client is.
        let was : (client < NENV) × (is_asking (a.slots client) ≡ true) = h.asked client (serves client is) in
        (was.0, ap (λ (slots : ℕ → AbstractSlot). is_asking (slots client)) slots_are ∙ was.1);
    given = subst (λ (list : List ℕ). AreGivenApart x.slots list) (sym free_are)
        (subst (λ (slots : ℕ → AbstractSlot). AreGivenApart slots a.free_slots) (sym slots_are) h.given);
  }

  goes_stays : (client : ℕ) (x : AbstractState) → client_served a.server ≡ Some client → Goes client x → ServesStill x
  goes_stays client x was k = same_slots x k.slots_are k.free_are (λ other is. was ∙ sym k.serves ∙ is)

  module _ (client : ℕ) where
    same_goes : (server : Server) → client_served server ≡ Some client → Serves client a.slots a.free_slots server
    same_goes server serves = record { slots_are = refl; free_are = refl; serves = serves }

    if_goes : (c : Bool) (x y : AbstractState) → Goes client x → Goes client y → Goes client (if c then x else y)
    if_goes true x y k l = k
    if_goes false x y k l = l

    looked_goes : (request : Request) (k : ℕ) → Goes client (looked a client request k)
    looked_goes request k = search (if_goes, same_goes)

    offset_goes : (x : AbstractState) (name offset : ℕ) (object : Object) → Goes client x → Goes client (with_offset_of x name offset object)
    offset_goes x name offset (file f) k = record { slots_are = k.slots_are; free_are = k.free_are; serves = k.serves }
    offset_goes x name offset _ k = k

    moved_goes : (x : AbstractState) (object : Option ℕ) (answer : ℕ) → Goes client x → Goes client (moved_on x object answer)
    moved_goes x None answer k = k
    moved_goes x (Some name) answer k = if_goes (is_count answer) _ _ (offset_goes x name _ (x.objects name) k) k

    opened_goes : (files : FileSystem) (answer : ℕ) (place : Option ℕ) (way : Option (List ℕ)) (mode : ℕ) →
        Goes client (file_opened (record a { files = files }) client answer place way mode)
    opened_goes files answer place None mode = same_goes _ refl
    opened_goes files answer None (Some way) mode = same_goes _ refl
    opened_goes files answer (Some k) (Some way) mode = same_goes _ refl

    act_goes : (request : FileAct) (object place : Option ℕ) (did : Acted) → Goes client (after_act a client request object place did)
    act_goes (open_path path mode) object place did = if_goes (did.answer == 0) _ _ (opened_goes did.files 0 place _ _) (same_goes _ refl)
    act_goes (read_file way offset len) object place did = moved_goes _ object did.answer (same_goes _ refl)
    act_goes (write_file way offset bytes) object place did = moved_goes _ object did.answer (same_goes _ refl)
    act_goes (set_file_size way size) object place did = moved_goes _ object did.answer (same_goes _ refl)
    act_goes (stat_file way) object place did = moved_goes _ object did.answer (same_goes _ refl)
    act_goes (remove_path path) object place did = moved_goes _ object did.answer (same_goes _ refl)
    act_goes sync_files object place did = moved_goes _ object did.answer (same_goes _ refl)

    done_goes : (request : Request) (place : Option ℕ) → Goes client (act_done a client request place)
    done_goes (act request object) place = act_goes request object place _
    done_goes (seek name offset) place = offset_goes (record a { server = acted client 0 [] None }) name offset (a.objects name) (same_goes _ refl)

  -- it has replied, and serves nobody
  replied_stays : ServesStill (record a { server = leaving })
  replied_stays = same_slots _ refl refl (λ client is. absurd (cc))

  born_there : (slot : AbstractSlot) (b : Born) → born_in slot ≡ Some b → slot ≡ born b
  born_there (born c) b is = ap (λ (x : Born). born x) (same_Some c b is)
  born_there _ b is = absurd (cc)

  -- whom a client bears it bears behind the reply
  reply_bears : (s : Service) (found : Option Spawning) (bytes : List ℕ) (answer : ℕ) →
      bears_in (in_service s (replied bytes answer)) found ≡ bears_in (in_service s awaiting) found
  reply_bears service.Fork found bytes answer = refl
  reply_bears (service.Spawn path argv) found bytes answer = refl
  reply_bears _ found bytes answer = refl

  given_spawning : (b : Born) (object fd : Option ℕ) (answer : ℕ) → (given b object fd answer).0.spawning ≡ b.spawning
  given_spawning b (Some name) (Some fd) answer = refl
  given_spawning b (Some name) None answer = refl
  given_spawning b None fd answer = refl

  reply_stays : (client answer : ℕ) (bytes : List ℕ) (object : Option ℕ) (b : Born) (phase : Phase) → b.phase ≡ phase → a.slots client ≡ born b →
      IfSome (reply_at a client b answer bytes object phase) ServesStill
  reply_stays client answer bytes object b (in_service s awaiting) phase_is at = record {
    asked = λ other is. absurd (cc);
    given = given_still a h client b at slots others
        (λ child is.
        ap (λ (slot : AbstractSlot). borne_by slot) at ∙ ap (λ (phase : Phase). bears_in phase b.spawning) phase_is
        ∙ sym (reply_bears s b.spawning bytes to.1)
        ∙ ap (λ (found : Option Spawning). bears_in (in_service s (replied bytes to.1)) found) (sym (given_spawning b object (lowest_free b) answer))
        ∙ sym (ap (λ (slot : AbstractSlot). borne_by slot) (upd-at a.slots client (born answered_one))) ∙ is)
        a.free_slots (free_still a h client b at slots others);
  }
    where
      to : Born × ℕ
      to = given b object (lowest_free b) answer

      answered_one : Born
      answered_one = record to.0 { phase = in_service s (replied bytes to.1); blocked = false }

      slots : ℕ → AbstractSlot
      slots = upd a.slots client (born answered_one)

      others : Others a client slots
      others m ne = seen_other a.slots client (born answered_one) m ne
  reply_stays client answer bytes object b _ phase_is at = record {}

  answer_stays : (client answer : ℕ) (bytes : List ℕ) (object : Option ℕ) (o : Option Born) → born_in (a.slots client) ≡ o →
      IfSome (reply a client answer bytes object o) ServesStill
  answer_stays client answer bytes object None is = replied_stays
  answer_stays client answer bytes object (Some b) is = reply_stays client answer bytes object b b.phase refl (born_there (a.slots client) b is)

  server_stays : (server : Server) → a.server ≡ server → IfSome (served a server) ServesStill
  server_stays leaving is = same_slots _ refl refl (λ client so. absurd (cc))
  server_stays idle is = record {}
  server_stays (looking client request k) is =
      goes_stays client _ (ap (λ (s : Server). client_served s) is) (looked_goes client request k)
  server_stays (busy client request place) is =
      goes_stays client _ (ap (λ (s : Server). client_served s) is) (done_goes client request place)
  server_stays (acted client answer bytes object) is = answer_stays client answer bytes object (born_in (a.slots client)) refl

  -- ---- any step

  step_stays : (n : ℕ) → n < NENV → (slot : AbstractSlot) → a.slots n ≡ slot → IfSome (abs_step a n) ServesStill
  unfolding abs_step server_step
  step_stays n small (free id) at = subst (λ (slot : AbstractSlot). IfSome (slot_step a n slot) ServesStill) (sym at) (record {})
  step_stays n small (unborn id parent) at = subst (λ (slot : AbstractSlot). IfSome (slot_step a n slot) ServesStill) (sym at) (record {})
  step_stays n small (serving id) at =
      subst (λ (slot : AbstractSlot). IfSome (slot_step a n slot) ServesStill) (sym at) (server_stays a.server refl)
  step_stays n small (born b) at = own_stays a h n b at small (abs_step a n) (step_ends a n b at) (still_asks a n b at)

  -- what it has opened is nobody's still
  step_opens : (n : ℕ) → n < NENV → (slot : AbstractSlot) → a.slots n ≡ slot → IfSome (abs_step a n) OpensNobodys
  unfolding abs_step server_step
  step_opens n small (free id) at = subst (λ (slot : AbstractSlot). IfSome (slot_step a n slot) OpensNobodys) (sym at) (record {})
  step_opens n small (unborn id parent) at = subst (λ (slot : AbstractSlot). IfSome (slot_step a n slot) OpensNobodys) (sym at) (record {})
  step_opens n small (serving id) at =
      subst (λ (slot : AbstractSlot). IfSome (slot_step a n slot) OpensNobodys) (sym at) (opens_by_server a h.opens a.server refl)
  step_opens n small (born b) at = by (abs_step a n) (clients_leave_files a n b small at)
    where
      by : (r : Option AbstractState) → IfSome r (λ x. LeavesFiles a x × AsksOrLeaves a x n) → IfSome r OpensNobodys
      by None left = record {}
      by (Some x) left = opens_by_client a x n h.opens left.0 left.1

pub served_clients_stay : ServedClientsStay
served_clients_stay a after n small h step =
    let still = subst (λ (r : Option AbstractState). IfSome r ServesStill) step (step_stays a h n small (a.slots n) refl) in
    record {
      asked = still.asked;
      given = still.given;
      opens = subst (λ (r : Option AbstractState). IfSome r OpensNobodys) step (step_opens a h n small (a.slots n) refl);
    }

-- ---- who is served

-- the client, which is an environment that has asked
pub record HasClient (a : AbstractState) (client : ℕ) : Type 0 where
  pub small : client < NENV
  pub b : Born
  pub is : a.slots client ≡ born b
  pub has_asked : has_asked b.phase ≡ true

pub client_is : (a : AbstractState) → ServesWhoAsked a → (client : ℕ) → client_served a.server ≡ Some client → HasClient a client
client_is a h client is = by (a.slots client) refl both.1
  where
    both : (client < NENV) × (is_asking (a.slots client) ≡ true)
    both = h.asked client is

    by : (slot : AbstractSlot) → a.slots client ≡ slot → is_asking slot ≡ true → HasClient a client
    by (born b) at asking = record { small = both.0; b = b; is = at; has_asked = asking }
    by _ at asking = absurd (cc)

-- Sync asks at once, or waits until the server is idle.
module _ (a after : AbstractState) (n : ℕ) (b : Born) (regs : Regs) (at : a.slots n ≡ born b) (awake : b.blocked ≡ false)
    (program : b.program ≡ guest regs) (phase : b.phase ≡ in_service service.Sync entered) where
  sync_is : abs_step a n ≡ request_taken a n b service.Sync (act sync_files None) a.server
  unfolding abs_step library_step
  sync_is =
      ap (λ (slot : AbstractSlot). slot_step a n slot) at
      ∙ (λ i. if awake i then None else program_step a n b (program i) (phase i))

  pub sync_asks : abs_step a n ≡ Some after → (a.server ≡ idle) × (after.server ≡ busy n (act sync_files None) None)
  sync_asks step = by a.server refl (sym sync_is ∙ step)
    where
      by : (server : Server) → a.server ≡ server → request_taken a n b service.Sync (act sync_files None) server ≡ Some after →
          (a.server ≡ idle) × (after.server ≡ busy n (act sync_files None) None)
      by idle is e = (is, ap (λ (x : AbstractState). x.server) (sym (same_Some _ after e)))
      by _ is e = absurd (let contradiction : ◌≡◌ {A = Option AbstractState} None (Some after) = e in cc)
