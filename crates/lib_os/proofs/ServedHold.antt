-- Whom the file server serves has asked it, and holds what it held, whatever environment makes a step: it waits itself, and another leaves its
-- descriptors.
use Rattle.std.proofs.Common.{◌≡◌, ◌≢◌, ◌∙◌, inl, inr, ℕ, Bool, true, false, List, ◌∷◌, Option, Some, None, refl, sym, ap, subst, if◌then◌else◌}
use Rattle.std.proofs.lemmas.Bool.{cases_eq}
use Rattle.std.specs.Prelude.{IfSome}
use Rattle.jos_base.specs.declared.registers.Regs.{Regs}
use Rattle.jos_base.specs.Words.{upd}
use Rattle.jos_base.proofs.Maps.{upd-at, upd-other}
use Rattle.lib_os.specs.declared.service.Service.{Service}
use Rattle.lib_os.specs.declared.service.Service.TheVariants as service
use Rattle.lib_os.specs.AbstractLaws.{AreVacant, ServesWhoAsked, asks_server, client_served, has_asked, is_asking, is_unborn, is_vacant}
use Rattle.lib_os.specs.AbstractRun.{abs_step, program_step, slot_step}
use Rattle.lib_os.specs.AbstractState.{AbstractSlot, AbstractState, Born, Phase, ProgramState, Stage, asked, awaiting, born, free, guest, in_service}
use Rattle.lib_os.specs.AbstractSpawn.{spawn_step}
use Rattle.lib_os.specs.AbstractState.{Spawning, serving, shell, unborn}
use Rattle.lib_os.specs.Descriptors.{holds_in}
use Rattle.lib_os.specs.FileServer.{await_reply}
use Rattle.lib_os.specs.GuestStep.{born_in}
use Rattle.lib_os.specs.LibraryCall.{library_step}
use Rattle.lib_os.proofs.StepsAsk.{Ends, asks, bears, begins, drops, ended, step_ends, still}

-- ---- its own step

module _ (a : AbstractState) (n : ℕ) (b : Born) where
  abbrev Holds : Option AbstractState → Type 0
  Holds r = IfSome r (λ x. (name : ℕ) → holds_in (born_in (x.slots n)) name ≡ holds_in (Some b) name)

  at_waiting : (s : Service) (name : ℕ) → holds_in (born_in ((await_reply a n b s).slots n)) name ≡ holds_in (Some b) name
  at_waiting s name =
      ap (λ (slot : AbstractSlot). holds_in (born_in slot) name) (upd-at a.slots n (born (record b { phase = in_service s awaiting; blocked = true })))

  -- spawn waits, whatever it has found out
  spawn_asked_holds : (regs : Regs) (path argv : ℕ) (found : Option Spawning) → Holds (spawn_step a n b regs path argv asked found)
  unfolding spawn_step
  spawn_asked_holds regs path argv None = record {}
  spawn_asked_holds regs path argv (Some found) = at_waiting (service.Spawn path argv)

  asked_holds : (regs : Regs) (s : Service) → asks_server s ≡ true → Holds (library_step a n b regs s asked)
  unfolding library_step
  asked_holds regs (service.OpenFile path mode) is = at_waiting (service.OpenFile path mode)
  asked_holds regs (service.Read fd va len) is = at_waiting (service.Read fd va len)
  asked_holds regs (service.Write fd va len) is = at_waiting (service.Write fd va len)
  asked_holds regs (service.Seek fd offset) is = at_waiting (service.Seek fd offset)
  asked_holds regs (service.Stat fd va) is = at_waiting (service.Stat fd va)
  asked_holds regs (service.SetSize fd size) is = at_waiting (service.SetSize fd size)
  asked_holds regs (service.Remove path) is = at_waiting (service.Remove path)
  asked_holds regs service.Sync is = at_waiting service.Sync
  asked_holds regs (service.Spawn path argv) is = spawn_asked_holds regs path argv b.spawning
  asked_holds regs _ is = absurd (cc)

  -- one who waits has no step
  spawn_awaiting_holds : (regs : Regs) (path argv : ℕ) (found : Option Spawning) → Holds (spawn_step a n b regs path argv awaiting found)
  unfolding spawn_step
  spawn_awaiting_holds regs path argv None = record {}
  spawn_awaiting_holds regs path argv (Some found) = record {}

  awaiting_holds : (regs : Regs) (s : Service) → asks_server s ≡ true → Holds (library_step a n b regs s awaiting)
  unfolding library_step
  awaiting_holds regs (service.OpenFile path mode) is = record {}
  awaiting_holds regs (service.Read fd va len) is = record {}
  awaiting_holds regs (service.Write fd va len) is = record {}
  awaiting_holds regs (service.Seek fd offset) is = record {}
  awaiting_holds regs (service.Stat fd va) is = record {}
  awaiting_holds regs (service.SetSize fd size) is = record {}
  awaiting_holds regs (service.Remove path) is = record {}
  awaiting_holds regs service.Sync is = record {}
  awaiting_holds regs (service.Spawn path argv) is = spawn_awaiting_holds regs path argv b.spawning
  awaiting_holds regs _ is = absurd (cc)

  service_holds : (regs : Regs) (s : Service) (stage : Stage) → has_asked (in_service s stage) ≡ true → Holds (library_step a n b regs s stage)
  service_holds regs s asked is = asked_holds regs s is
  service_holds regs s awaiting is = awaiting_holds regs s is
  service_holds regs s _ is = absurd (cc)

  program_holds : (program : ProgramState) (phase : Phase) → has_asked phase ≡ true → Holds (program_step a n b program phase)
  program_holds (guest regs) (in_service s stage) is = service_holds regs s stage is
  program_holds (guest regs) phase is = absurd (cc)
  program_holds (shell place) phase is = record {}

  if_holds : (c : Bool) (r : Option AbstractState) → Holds r → Holds (if c then None else r)
  if_holds true r h = record {}
  if_holds false r h = h

  own_holds : a.slots n ≡ born b → is_asking (a.slots n) ≡ true → Holds (abs_step a n)
  unfolding abs_step
  own_holds at is =
      let mine : has_asked b.phase ≡ true = ap (λ (slot : AbstractSlot). is_asking slot) (sym at) ∙ is in
      subst (λ (slot : AbstractSlot). Holds (slot_step a n slot)) (sym at) (if_holds b.blocked _ (program_holds b.program b.phase mine))

-- ---- that of another

-- who has asked is neither vacant nor unborn
asks_there : (slot : AbstractSlot) → is_asking slot ≡ true → (is_vacant slot ≡ false) × (is_unborn slot ≡ false)
asks_there (born b) is = (refl, refl)
asks_there (free id) is = absurd (cc)
asks_there (unborn id parent) is = absurd (cc)
asks_there (serving id) is = absurd (cc)

module _ (a : AbstractState) (h : ServesWhoAsked a) (n m : ℕ) (ne : m ≢ n) (asking : is_asking (a.slots m) ≡ true) (name : ℕ) where
  abbrev Same : (ℕ → AbstractSlot) → Type 0
  Same slots = holds_in (born_in (slots m)) name ≡ holds_in (born_in (a.slots m)) name

  -- where a slot that is vacant or not born is another, and slot n
  two_hold : (child : ℕ) (one two : AbstractSlot) → m ≢ child → Same (upd (upd a.slots child one) n two)
  two_hold child one two apart =
      ap (λ (slot : AbstractSlot). holds_in (born_in slot) name) (upd-other (upd a.slots child one) n two m ne ∙ upd-other a.slots child one m apart)

  no_vacant : (child : ℕ) → is_vacant (a.slots child) ≡ true → m ≢ child
  no_vacant child is same =
      let off = asks_there (a.slots m) asking in
      let contradiction : false ≡ true = sym off.0 ∙ ap (λ (k : ℕ). is_vacant (a.slots k)) same ∙ is in cc

  no_unborn : (child : ℕ) → is_unborn (a.slots child) ≡ true → m ≢ child
  no_unborn child is same =
      let off = asks_there (a.slots m) asking in
      let contradiction : false ≡ true = sym off.1 ∙ ap (λ (k : ℕ). is_unborn (a.slots k)) same ∙ is in cc

  other_holds : (x : AbstractState) → Ends a n x → Same x.slots
  other_holds x (still k) = ap (λ (f : ℕ → Bool). f name) (k.others m ne).holds
  other_holds x (ended others id is free_are server_is) = ap (λ (f : ℕ → Bool). f name) (others m ne).holds
  other_holds x (asks k request is server_is) = ap (λ (f : ℕ → Bool). f name) (k.others m ne).holds
  other_holds x (begins child id parent c list slots_are bears_it server_is) =
      let all : AreVacant a.slots (child ∷ x.free_slots) = subst (λ (l : List ℕ). AreVacant a.slots l) list h.given.vacant in
      subst (λ (slots : ℕ → AbstractSlot). Same slots) (sym slots_are) (two_hold child (unborn id parent) (born c) (no_vacant child all.0))
  other_holds x (bears child new c borne slots_are new_bears no_more free_are server_is) =
      subst (λ (slots : ℕ → AbstractSlot). Same slots) (sym slots_are)
      (two_hold child (born new) (born c) (no_unborn child (h.given.children n child borne)))
  other_holds x (drops child id c borne slots_are no_more free_are server_is) =
      subst (λ (slots : ℕ → AbstractSlot). Same slots) (sym slots_are)
      (two_hold child (free id) (born c) (no_unborn child (h.given.children n child borne)))

-- ---- so it holds on

pub served_hold : (a after : AbstractState) (n : ℕ) (b : Born) → a.slots n ≡ born b → ServesWhoAsked a → abs_step a n ≡ Some after →
    (client : ℕ) → client_served a.server ≡ Some client → (name : ℕ) →
    holds_in (born_in (after.slots client)) name ≡ holds_in (born_in (a.slots client)) name
served_hold a after n b at h step client is name = elim (cases_eq client n) [
  | inl same ↦
      let asking : is_asking (a.slots n) ≡ true = ap (λ (k : ℕ). is_asking (a.slots k)) (sym same) ∙ (h.asked client is).1 in
      let holds : (other : ℕ) → holds_in (born_in (after.slots n)) other ≡ holds_in (Some b) other =
      subst (λ (r : Option AbstractState). Holds a n b r) step (own_holds a n b at asking) in
      ap (λ (k : ℕ). holds_in (born_in (after.slots k)) name) same ∙ holds name
      ∙ ap (λ (slot : AbstractSlot). holds_in (born_in slot) name) (sym at) ∙ ap (λ (k : ℕ). holds_in (born_in (a.slots k)) name) (sym same)
  | inr ne ↦
      other_holds a h n client ne (h.asked client is).1 name after
      (subst (λ (r : Option AbstractState). IfSome r (Ends a n)) step (step_ends a n b at))
]
