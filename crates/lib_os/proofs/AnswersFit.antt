-- What the file server does fits the service by which its client has asked: so it is where that asks, whatever environment makes a step, and
-- behind each step of the server's.
use Rattle.std.proofs.Common.{◌≡◌, ◌≢◌, ◌∙◌, ◌==◌, ◌+◌, ◌-◌, ◌*◌, ◌≤◌, ◌^◌, inl, inr, ℕ, Bool, true, false, List, [], ◌∷◌, ◌++◌, Option, Some, None, length}
use Rattle.std.proofs.Common.{if◌then◌else◌, refl, sym, ap, subst, arith}
use Rattle.std.specs.Prelude.{IfSome, unwrap_or, min, nat_le, nat_lt, not, drop, flat_map, map, replicate}
use Rattle.std.specs.List.{All}
use Rattle.std.proofs.lemmas.List.Elements.{All-append, All-cons, All-drop, All-head, All-nil}
use Rattle.jos_elf.specs.declared.image.Segment.{Segment}
use Rattle.std.proofs.lemmas.Bool.Decides.{nat_tests}
use Rattle.std.proofs.lemmas.Bool.{cases_eq}
use Rattle.std.proofs.lemmas.List.{length-append, length-replicate, length-take}
use Rattle.std.proofs.lemmas.Option.{none-some, same_Some}
use Rattle.jos_base.specs.declared.numbers.TheConstants.{E_BAD_PATH, E_FILE_EXISTS, E_INVAL, E_MAX_OPEN, E_NO_DISK, E_NOT_FOUND}
use Rattle.jos_base.specs.TrapFrames.{bytes_of_words}
use Rattle.jos_base.specs.Words.{has_bit, negated}
use Rattle.jos_base.proofs.Maps.{upd-at}
use Rattle.fs_layout.specs.declared.numbers.TheConstants.{BLKSIZE, FTYPE_REG, MAXFILESIZE, MAXNAMELEN, O_TRUNC}
use Rattle.fs_layout.specs.FileActs.{Acted, Looked, bad_path, bytes_at, create_in, done, done_if_it_fits, file_act, file_named, handed_back, look_up, missing}
use Rattle.fs_layout.specs.FileActs.{nowhere, on_file, open_act, open_looked, open_there, read_act}
use Rattle.fs_layout.specs.FileActs.{remove_act, remove_looked, set_size_act, set_size_to, stat_act, stat_bytes, stat_of, there, write_act, write_to}
use Rattle.fs_layout.specs.FileTree.{FileAct, FileSystem, NamedNode, Node, a_directory, a_file, named_at, node_at, open_path, read_file, remove_path}
use Rattle.fs_layout.specs.FileTree.{set_file_size, stat_file, sync_files, write_file}
use Rattle.lib_os.specs.declared.numbers.TheConstants.{MAXOPEN, STAT_SIZE}
use Rattle.lib_os.specs.declared.service.Service.{Service}
use Rattle.lib_os.specs.declared.service.Service.TheVariants as service
use Rattle.lib_os.specs.AbstractLaws.{ServesWhoAsked, asks_server, client_served, has_asked, is_asking}
use Rattle.lib_os.specs.AbstractRun.{abs_step, program_step, slot_step}
use Rattle.lib_os.specs.AbstractState.{AbstractSlot, AbstractState, Born, Object, Phase, ProgramState, Request, Server, Stage, act, acted, asked, awaiting}
use Rattle.lib_os.specs.AbstractState.{born, busy, file, guest, idle, in_service, leaving, looking, read_end, seek, shell, terminal, write_end}
use Rattle.lib_os.specs.AbstractState.{Spawning, heading, loading, opening, tabling}
use Rattle.lib_os.specs.AbstractSpawn.{Piece, image_segments, piece_of, pieces_left, pieces_of, pieces_wanted, spawn_step, table_size}
use Rattle.lib_os.specs.AskedFor.{AnswersBy, AsksBy, HaveShortNames, IsFor, IsThere, OpensBy, OpensWell, ServesAsAsked, first_len, handed_in}
use Rattle.lib_os.specs.AskedFor.{is_opening, wanted_by}
use Rattle.lib_os.specs.FileServer.{act_done, after_act, await_reply, file_opened, is_count, is_file_open, is_held_by, looked, low_mode, moved_on, offset_in, reply, reply_at}
use Rattle.lib_os.specs.FileServer.{request_begun, served, server_step, with_offset, with_offset_of}
use Rattle.lib_os.specs.GuestStep.{born_in}
use Rattle.lib_os.specs.LibraryCall.{library_step}
use Rattle.lib_os.specs.StandsInHandler.{wanted_of}
use Rattle.lib_os.proofs.AskersStay.{askers_stay}

-- ---- by a phase

phase_service : (s t : Service) (x y : Stage) → in_service s x ≡ in_service t y → s ≡ t
phase_service s t x y same = cc

-- ---- its own step

module _ (a : AbstractState) (n : ℕ) (b : Born) where
  -- by whatever service it is there behind its step, it was before, and had found out the same
  abbrev WasSo : Born → Service → Type 0
  WasSo d call = IsThere b call × (d.spawning ≡ b.spawning)

  abbrev Was : Option AbstractState → Type 0
  Was r = IfSome r (λ x. (d : Born) (call : Service) → x.slots n ≡ born d → IsThere d call → WasSo d call)

  same_born : (d e : Born) → born d ≡ born e → d ≡ e
  same_born d e same = cc

  waits_was : (s : Service) → b.phase ≡ in_service s asked → Was (Some (await_reply a n b s))
  waits_was s phase d call at way =
      (inl (phase ∙ ap (λ (t : Service). in_service t asked) (by_way way)), ap (λ (x : Born). x.spawning) now)
    where
      now : d ≡ record b { phase = in_service s awaiting; blocked = true }
      now = same_born d (record b { phase = in_service s awaiting; blocked = true })
          (sym at ∙ upd-at a.slots n (born (record b { phase = in_service s awaiting; blocked = true })))

      phase_now : d.phase ≡ in_service s awaiting
      phase_now = ap (λ (x : Born). x.phase) now

      by_way : IsThere d call → s ≡ call
      by_way (inl asks) = absurd (let contradiction : in_service s awaiting ≡ in_service call asked = sym phase_now ∙ asks in cc)
      by_way (inr waits) = phase_service s call awaiting awaiting (sym phase_now ∙ waits)

  -- spawn waits, whatever it has found out
  spawn_asked_was : (regs : _) (path argv : ℕ) (found : Option Spawning) → b.phase ≡ in_service (service.Spawn path argv) asked →
      Was (spawn_step a n b regs path argv asked found)
  unfolding spawn_step
  spawn_asked_was regs path argv None phase = record {}
  spawn_asked_was regs path argv (Some found) phase = waits_was (service.Spawn path argv) phase

  asked_was : (regs : _) (s : Service) → b.phase ≡ in_service s asked → asks_server s ≡ true → Was (library_step a n b regs s asked)
  unfolding library_step
  asked_was regs (service.OpenFile path mode) phase is = waits_was (service.OpenFile path mode) phase
  asked_was regs (service.Read fd va len) phase is = waits_was (service.Read fd va len) phase
  asked_was regs (service.Write fd va len) phase is = waits_was (service.Write fd va len) phase
  asked_was regs (service.Seek fd offset) phase is = waits_was (service.Seek fd offset) phase
  asked_was regs (service.Stat fd va) phase is = waits_was (service.Stat fd va) phase
  asked_was regs (service.SetSize fd size) phase is = waits_was (service.SetSize fd size) phase
  asked_was regs (service.Remove path) phase is = waits_was (service.Remove path) phase
  asked_was regs service.Sync phase is = waits_was service.Sync phase
  asked_was regs (service.Spawn path argv) phase is = spawn_asked_was regs path argv b.spawning phase
  asked_was regs _ phase is = absurd (cc)

  -- one who waits has no step
  spawn_awaiting_was : (regs : _) (path argv : ℕ) (found : Option Spawning) → Was (spawn_step a n b regs path argv awaiting found)
  unfolding spawn_step
  spawn_awaiting_was regs path argv None = record {}
  spawn_awaiting_was regs path argv (Some found) = record {}

  awaiting_was : (regs : _) (s : Service) → asks_server s ≡ true → Was (library_step a n b regs s awaiting)
  unfolding library_step
  awaiting_was regs (service.OpenFile path mode) is = record {}
  awaiting_was regs (service.Read fd va len) is = record {}
  awaiting_was regs (service.Write fd va len) is = record {}
  awaiting_was regs (service.Seek fd offset) is = record {}
  awaiting_was regs (service.Stat fd va) is = record {}
  awaiting_was regs (service.SetSize fd size) is = record {}
  awaiting_was regs (service.Remove path) is = record {}
  awaiting_was regs service.Sync is = record {}
  awaiting_was regs (service.Spawn path argv) is = spawn_awaiting_was regs path argv b.spawning
  awaiting_was regs _ is = absurd (cc)

  service_was : (regs : _) (s : Service) (stage : Stage) → b.phase ≡ in_service s stage → has_asked (in_service s stage) ≡ true →
      Was (library_step a n b regs s stage)
  service_was regs s asked phase is = asked_was regs s phase is
  service_was regs s awaiting phase is = awaiting_was regs s is
  service_was regs s _ phase is = absurd (cc)

  program_was : (program : ProgramState) (phase : Phase) → b.phase ≡ phase → has_asked phase ≡ true → Was (program_step a n b program phase)
  program_was (guest regs) (in_service s stage) same is = service_was regs s stage same is
  program_was (guest regs) phase same is = absurd (cc)
  program_was (shell place) phase same is = record {}

  if_was : (c : Bool) (r : Option AbstractState) → Was r → Was (if c then None else r)
  if_was true r h = record {}
  if_was false r h = h

  own_was : a.slots n ≡ born b → is_asking (a.slots n) ≡ true → Was (abs_step a n)
  unfolding abs_step
  own_was at is =
      let mine : has_asked b.phase ≡ true = ap (λ (slot : AbstractSlot). is_asking slot) (sym at) ∙ is in
      subst (λ (slot : AbstractSlot). Was (slot_step a n slot)) (sym at) (if_was b.blocked _ (program_was b.program b.phase refl mine))

-- Whatever environment makes a step that leaves the server, it serves as it was asked.
pub client_fits : (a c : AbstractState) (n : ℕ) (b : Born) → a.slots n ≡ born b → ServesWhoAsked a → ServesAsAsked a → abs_step a n ≡ Some c →
    c.server ≡ a.server → ServesAsAsked c
client_fits a c n b at h fits step server client d call served there_at way =
    subst (λ (x : Server). IsFor x call d.spawning) (sym server) (elim (cases_eq client n) [
      | inl same ↦
          let own : c.slots n ≡ born d = ap (λ (m : ℕ). c.slots m) (sym same) ∙ there_at in
          let mine : is_asking (a.slots n) ≡ true = ap (λ (m : ℕ). is_asking (a.slots m)) (sym same) ∙ asking in
          let was : (e : Born) (s : Service) → c.slots n ≡ born e → IsThere e s → WasSo a n b e s =
          subst (λ (r : Option AbstractState). Was a n b r) step (own_was a n b at mine) in
          let before = was d call own way in
          subst (λ (o : Option Spawning). IsFor a.server call o) (sym before.1)
          (fits client b call served_was (ap (λ (m : ℕ). a.slots m) same ∙ at) before.0)
      | inr ne ↦
          let kept : c.slots client ≡ a.slots client =
          subst (λ (r : Option AbstractState). IfSome r (λ x. x.slots client ≡ a.slots client)) step (askers_stay a h n client b at ne asking) in
          fits client d call served_was (sym kept ∙ there_at) way
    ])
  where
    served_was : client_served a.server ≡ Some client
    served_was = ap client_served (sym server) ∙ served

    asking : is_asking (a.slots client) ≡ true
    asking = (h.asked client served_was).1

-- ---- it asks

begun_client : (n client : ℕ) (request : Request) → client_served (request_begun n request) ≡ Some client → n ≡ client
begun_client n client (act (open_path path mode) object) is = same_Some n client is
begun_client n client (act (read_file way at count) object) is = same_Some n client is
begun_client n client (act (write_file way at bytes) object) is = same_Some n client is
begun_client n client (act (set_file_size way size) object) is = same_Some n client is
begun_client n client (act (stat_file way) object) is = same_Some n client is
begun_client n client (act (remove_path path) object) is = same_Some n client is
begun_client n client (act sync_files object) is = same_Some n client is
begun_client n client (seek name at) is = same_Some n client is

begun_for : (n : ℕ) (request : Request) (call : Service) (found : Option Spawning) → AsksBy call found request →
    IsFor (request_begun n request) call found
begun_for n (act (open_path path mode) object) call found asks = asks
begun_for n (act (read_file way at count) object) call found asks = asks
begun_for n (act (write_file way at bytes) object) call found asks = asks
begun_for n (act (set_file_size way size) object) call found asks = asks
begun_for n (act (stat_file way) object) call found asks = asks
begun_for n (act (remove_path path) object) call found asks = asks
begun_for n (act sync_files object) call found asks = asks
begun_for n (seek name at) call found asks = asks

pub asked_fits : (c : AbstractState) (n : ℕ) (b : Born) (call : Service) (request : Request) → c.server ≡ request_begun n request →
    c.slots n ≡ born b → b.phase ≡ in_service call asked → AsksBy call b.spawning request → ServesAsAsked c
asked_fits c n b call request server at phase asks client d other served there_at way =
    subst (λ (x : Server). IsFor x other d.spawning) (sym server)
    (subst (λ (x : Born). IsFor (request_begun n request) other x.spawning) born_same
    (subst (λ (s : Service). IsFor (request_begun n request) s b.spawning) (by_way way) (begun_for n request call b.spawning asks)))
  where
    same : n ≡ client
    same = begun_client n client request (ap client_served (sym server) ∙ served)

    born_same : b ≡ d
    born_same =
        let slots : born b ≡ born d = sym at ∙ ap (λ (m : ℕ). c.slots m) same ∙ there_at in
        let it : b ≡ d = cc in it

    phase_now : d.phase ≡ in_service call asked
    phase_now = ap (λ (x : Born). x.phase) (sym born_same) ∙ phase

    by_way : IsThere d other → call ≡ other
    by_way (inl is) = phase_service call other asked asked (sym phase_now ∙ is)
    by_way (inr is) = absurd (let contradiction : in_service call asked ≡ in_service other awaiting = sym phase_now ∙ is in cc)

-- ---- what an act answers

wanted_small : (len : ℕ) → wanted_of len ≤ 4096
wanted_small len = omega (arith)

-- a piece of a segment has no more
abbrev IsSmall : Piece → Type 0
IsSmall piece = piece.len ≤ 4096

pieces_small : (segment : Segment) (ks : List ℕ) → All IsSmall (map (piece_of segment) ks)
pieces_small segment [] = All-nil IsSmall
pieces_small segment (k ∷ ks) =
    All-cons IsSmall (piece_of segment k) (map (piece_of segment) ks) (omega (arith)) (pieces_small segment ks)

segments_small : (segments : List Segment) → All IsSmall (flat_map pieces_of segments)
segments_small [] = All-nil IsSmall
segments_small (segment ∷ segments) =
    All-append IsSmall (pieces_of segment) (flat_map pieces_of segments) (pieces_small segment _) (segments_small segments)

first_small : (pieces : List Piece) → All IsSmall pieces → first_len pieces ≤ 4096
first_small [] all = omega (arith)
first_small (piece ∷ rest) all = All-head IsSmall piece rest all

-- so it is with all that spawn wants
by_small : (found : Spawning) → wanted_by found ≤ 4096
by_small (heading fd words) = omega (arith)
by_small (tabling fd words header) = wanted_small (table_size header)
by_small (loading fd image child pieces) =
    first_small (pieces_left image pieces) (All-drop IsSmall (length pieces) (pieces_wanted image) (segments_small (image_segments image)))
by_small _ = omega (arith)

-- of so many bytes that are wanted, as many as the word tells come, where it is no more
abbrev told_of : ℕ → ℕ → ℕ
told_of wanted word = if nat_le word wanted then word else 0

error_told : (wanted word : ℕ) → wanted ≤ 4096 → 2 ^ 31 ≤ word → told_of wanted word ≡ 0
error_told wanted word small great =
    let test : nat_le word wanted ≡ false = grind (arith, nat_tests, great, small) in
    ap (λ (t : Bool). if t then word else 0) test

-- with an error's number no bytes come
error_hands : (call : Service) (found : Option Spawning) (word : ℕ) → 2 ^ 31 ≤ word → handed_in call found word ≡ 0
error_hands (service.Read fd va len) found word great = error_told (wanted_of len) word (wanted_small len) great
error_hands (service.Stat fd va) found word great =
    let test : (word == 0) ≡ false = grind (arith, nat_tests, great) in
    ap (λ (t : Bool). if t then STAT_SIZE else 0) test
error_hands (service.Spawn path argv) None word great = refl
error_hands (service.Spawn path argv) (Some found) word great = error_told (wanted_by found) word (by_small found) great
error_hands _ found word great = refl

-- as many bytes come as the service is told by the answer
abbrev Tells : Service → Option Spawning → Acted → Type 0
Tells call found did = length did.bytes ≡ handed_in call found did.answer

abbrev TellsOf : ℕ → Acted → Type 0
TellsOf wanted did = length did.bytes ≡ told_of wanted did.answer

refusal_tells : (call : Service) (found : Option Spawning) (s : FileSystem) (word : ℕ) → 2 ^ 31 ≤ word →
    Tells call found (record { files = s; answer = word; bytes = [] })
refusal_tells call found s word great = sym (error_hands call found word great)

invalid_great : 2 ^ 31 ≤ negated E_INVAL
invalid_great = omega arith

no_place_great : 2 ^ 31 ≤ negated E_MAX_OPEN
no_place_great = omega arith

either_tells : (call : Service) (c : Bool) (x y : Acted) → (x.bytes ≡ []) → (y.bytes ≡ []) → (if c then x else y).bytes ≡ []
either_tells call true x y first second = first
either_tells call false x y first second = second

few_bytes : (bytes : List ℕ) (at n : ℕ) → length (bytes_at bytes at n) ≤ n
unfolding bytes_at
few_bytes bytes at n = let is = length-take (min n BLKSIZE) (drop at bytes) in omega (arith, is)

read_tells : (wanted : ℕ) (s : FileSystem) (way : List ℕ) (at : ℕ) → wanted ≤ 4096 → TellsOf wanted (read_act s way at wanted)
unfolding read_act
read_tells wanted s way at small = by_node (node_at s way)
  where
    refused : TellsOf wanted (record { files = s; answer = negated E_INVAL; bytes = [] })
    refused = sym (error_told wanted (negated E_INVAL) small invalid_great)

    by_node : (o : Option Node) → TellsOf wanted (on_file s o (λ bytes indirect. handed_back s (bytes_at bytes at wanted)))
    by_node None = refused
    by_node (Some (a_directory records indirect)) = refused
    by_node (Some (a_file bytes indirect)) =
        let count = length (bytes_at bytes at wanted) in
        let few = few_bytes bytes at wanted in
        let test : nat_le count wanted ≡ true = grind (arith, nat_tests, few) in
        sym (ap (λ (t : Bool). if t then count else 0) test)

stat_long : (name : List ℕ) (size kind : ℕ) → length name ≤ MAXNAMELEN → length (stat_bytes name size kind) ≡ STAT_SIZE
unfolding stat_bytes bytes_of_words
stat_long name size kind short =
    let first = length-append (name ++ replicate (MAXNAMELEN - length name) 0) (bytes_of_words (size ∷ kind ∷ [])) in
    let second = length-append name (replicate (MAXNAMELEN - length name) 0) in
    let zeros = length-replicate {A = ℕ} (MAXNAMELEN - length name) 0 in
    let words : length (bytes_of_words (size ∷ kind ∷ [])) ≡ 8 = refl in
    first ∙ omega (arith, second, zeros, words, short)

stat_tells : (fd va : ℕ) (found : Option Spawning) (s : FileSystem) (way : List ℕ) → HaveShortNames s → Tells (service.Stat fd va) found (stat_act s way)
unfolding stat_act
stat_tells fd va found s way short = by_name (named_at s way) refl
  where
    by_name : (o : Option NamedNode) → named_at s way ≡ o → Tells (service.Stat fd va) found (stat_of s o)
    by_name None is = refusal_tells (service.Stat fd va) found s (negated E_INVAL) invalid_great
    by_name (Some named) is = by_node named.node
      where
        by_node : (node : Node) → Tells (service.Stat fd va) found
            (on_file s (Some node) (λ bytes indirect. record { files = s; answer = 0; bytes = stat_bytes named.name (length bytes) FTYPE_REG }))
        by_node (a_directory records indirect) = refusal_tells (service.Stat fd va) found s (negated E_INVAL) invalid_great
        by_node (a_file bytes indirect) = stat_long named.name (length bytes) FTYPE_REG (short way named is)

-- the other acts hand nothing back
on_file_none : (s : FileSystem) (o : Option Node) (does : List ℕ → Bool → Acted) → ((bytes : List ℕ) (indirect : Bool) → (does bytes indirect).bytes ≡ []) →
    (on_file s o does).bytes ≡ []
on_file_none s None does none = refl
on_file_none s (Some (a_directory records indirect)) does none = refl
on_file_none s (Some (a_file bytes indirect)) does none = none bytes indirect

if_none : (c : Bool) (x y : Acted) → x.bytes ≡ [] → y.bytes ≡ [] → (if c then x else y).bytes ≡ []
if_none true x y first second = first
if_none false x y first second = second

write_none : (s : FileSystem) (way : List ℕ) (at : ℕ) (new : List ℕ) → (write_act s way at new).bytes ≡ []
unfolding write_act
write_none s way at new = on_file_none s (node_at s way) (write_to s way at new) (by_bytes new)
  where
    by_bytes : (list : List ℕ) (bytes : List ℕ) (indirect : Bool) → (write_to s way at list bytes indirect).bytes ≡ []
    by_bytes [] bytes indirect = refl
    by_bytes (byte ∷ rest) bytes indirect =
        if_none (nat_lt MAXFILESIZE (at + length (byte ∷ rest))) _ _ refl (if_none _ _ _ refl refl)

size_none : (s : FileSystem) (way : List ℕ) (size : ℕ) → (set_size_act s way size).bytes ≡ []
unfolding set_size_act
size_none s way size =
    on_file_none s (node_at s way) (set_size_to s way size)
    (λ bytes indirect. if_none (nat_lt MAXFILESIZE size) _ _ refl (if_none _ _ _ refl refl))

remove_none : (is_open : List ℕ → Bool) (s : FileSystem) (path : List ℕ) → (remove_act is_open s path).bytes ≡ []
unfolding remove_act
remove_none is_open s path = by_looked (look_up s path)
  where
    by_looked : (looked : Looked) → (remove_looked is_open s looked).bytes ≡ []
    by_looked bad_path = refl
    by_looked nowhere = refl
    by_looked (missing way directory name) = refl
    by_looked (there way (a_directory records indirect)) = refl
    by_looked (there way (a_file bytes indirect)) = if_none (is_open way) _ _ refl refl

-- ---- what opening answers

no_count : (word : ℕ) → 2 ^ 31 ≤ word → is_count word ≡ false
no_count word great = grind (arith, nat_tests, great)

-- it is 0, or an error
abbrev IsZeroOrError : ℕ → Type 0
IsZeroOrError word = word ≢ 0 → is_count word ≡ false

zero_so : IsZeroOrError 0
zero_so some = absurd (some refl)

error_so : (word : ℕ) → 2 ^ 31 ≤ word → IsZeroOrError word
error_so word great some = no_count word great

if_so : (c : Bool) (x y : Acted) → IsZeroOrError x.answer → IsZeroOrError y.answer → IsZeroOrError (if c then x else y).answer
if_so true x y first second = first
if_so false x y first second = second

full_so : IsZeroOrError (negated E_NO_DISK)
full_so = error_so (negated E_NO_DISK) (omega arith)

missing_so : IsZeroOrError (negated E_NOT_FOUND)
missing_so = error_so (negated E_NOT_FOUND) (omega arith)

fits_so : (before after : FileSystem) → IsZeroOrError (done_if_it_fits before after 0).answer
fits_so before after = if_so _ _ _ zero_so full_so

created_so : (s : FileSystem) (way : List ℕ) (directory : Node) (name : List ℕ) → IsZeroOrError (create_in s way directory name).answer
created_so s way (a_directory records indirect) name = if_so _ _ _ full_so (fits_so s _)
created_so s way (a_file bytes indirect) name = missing_so

size_so : (s : FileSystem) (way : List ℕ) (size : ℕ) (bytes : List ℕ) (indirect : Bool) →
    IsZeroOrError (set_size_to s way size bytes indirect).answer
size_so s way size bytes indirect = if_so (nat_lt MAXFILESIZE size) _ _ full_so (fits_so s _)

there_so : (s : FileSystem) (mode : ℕ) (way : List ℕ) (node : Node) → IsZeroOrError (open_there s mode way node).answer
there_so s mode way (a_directory records indirect) = error_so (negated E_INVAL) invalid_great
there_so s mode way (a_file bytes indirect) =
    if_so (has_bit mode O_TRUNC) (set_size_to s way 0 bytes indirect) (done s 0) (size_so s way 0 bytes indirect) zero_so

looked_so : (s : FileSystem) (mode : ℕ) (looked : Looked) → IsZeroOrError (open_looked s mode looked).answer
looked_so s mode bad_path = error_so (negated E_BAD_PATH) (omega arith)
looked_so s mode nowhere = missing_so
looked_so s mode (missing way directory name) = if_so _ _ _ (created_so s way directory name) missing_so
looked_so s mode (there way node) = if_so _ _ _ (error_so (negated E_FILE_EXISTS) (omega arith)) (there_so s mode way node)

opened_so : (is_open : List ℕ → Bool) (s : FileSystem) (path : List ℕ) (mode : ℕ) → IsZeroOrError (file_act is_open s (open_path path mode)).answer
unfolding file_act open_act
opened_so is_open s path mode = looked_so s mode (look_up s path)

-- spawn moves no offset
spawn_seeks_not : (path argv : ℕ) (found : Option Spawning) (name at : ℕ) → AsksBy (service.Spawn path argv) found (seek name at) → ⊥
spawn_seeks_not path argv (Some (opening words)) name at asks = asks
spawn_seeks_not path argv (Some (heading fd words)) name at asks = asks
spawn_seeks_not path argv (Some (tabling fd words header)) name at asks = asks
spawn_seeks_not path argv (Some (loading fd image child pieces)) name at asks = asks
spawn_seeks_not path argv _ name at asks = asks

-- ---- its steps

-- whom it serves behind a step it served before, and so it fits
record FitsOn (a x : AbstractState) : Type 0 where
  slots : x.slots ≡ a.slots
  served : (client : ℕ) → client_served x.server ≡ Some client → client_served a.server ≡ Some client
  fits : (call : Service) (found : Option Spawning) → IsFor a.server call found → IsFor x.server call found

module _ (a : AbstractState) where
  -- an offset goes on
  offset_on : (x : AbstractState) (name offset : ℕ) (o : Object) → FitsOn a x → FitsOn a (with_offset_of x name offset o)
  offset_on x name offset (file f) h = record { slots = h.slots; served = h.served; fits = h.fits }
  offset_on x name offset terminal h = h
  offset_on x name offset (read_end pipe) h = h
  offset_on x name offset (write_end pipe) h = h

  moved_fits : (x : AbstractState) (object : Option ℕ) (answer : ℕ) → FitsOn a x → FitsOn a (moved_on x object answer)
  moved_fits x None answer h = h
  moved_fits x (Some name) answer h = by_test (is_count answer)
    where
      by_test : (c : Bool) → FitsOn a (if c then with_offset x name (offset_in (x.objects name) + answer) else x)
      by_test true = offset_on x name (offset_in (x.objects name) + answer) (x.objects name) h
      by_test false = h

  if_fits : (c : Bool) (x y : AbstractState) → (c ≡ true → FitsOn a x) → (c ≡ false → FitsOn a y) → FitsOn a (if c then x else y)
  if_fits true x y first second = first refl
  if_fits false x y first second = second refl

  module _ (client : ℕ) where
    -- it has acted with a word, and nothing was opened
    abbrev Acts : ℕ → List ℕ → Option ℕ → Type 0
    Acts answer bytes object =
        (call : Service) (found : Option Spawning) → IsFor a.server call found → AnswersBy call found answer bytes object

    word_answers : (call : Service) (found : Option Spawning) (answer : ℕ) → 2 ^ 31 ≤ answer → AnswersBy call found answer [] None
    word_answers call found answer great = record { many = sym (error_hands call found answer great); opened = by_test (is_opening call found) }
      where
        by_test : (opens : Bool) → OpensBy opens answer None
        by_test true = no_count answer great
        by_test false = tt

    acted_fits : (x : AbstractState) (answer : ℕ) (bytes : List ℕ) (object : Option ℕ) → x.slots ≡ a.slots → x.server ≡ acted client answer bytes object →
        client_served a.server ≡ Some client → Acts answer bytes object → FitsOn a x
    acted_fits x answer bytes object slots server who answers = record {
      slots = slots;
      served = λ m is.
          let same : client ≡ m = same_Some client m (sym (ap client_served server) ∙ is) in who ∙ ap (λ (k : ℕ). Some k) same;
      fits = λ call found fits. subst (λ (z : Server). IsFor z call found) (sym server) (answers call found fits);
    }

  -- what an act answers
  abbrev AnsweredBy : Service → Option Spawning → FileAct → Type 0
  AnsweredBy s found f =
      let did = file_act (is_file_open a) a.files f in AnswersBy s found did.answer did.bytes None

  act_answers : HaveShortNames a.files → (client : ℕ) (f : FileAct) (object place : Option ℕ) → a.server ≡ busy client (act f object) place →
      ((path : List ℕ) (mode : ℕ) → f ≢ open_path path mode) → (did : Acted) → did ≡ file_act (is_file_open a) a.files f → Acts client did.answer did.bytes None
  unfolding file_act
  act_answers short client f object place server no_open did is call found fits =
      subst (λ (d : Acted). AnswersBy call found d.answer d.bytes None) (sym is) (by_service call f object asks no_open)
    where
      asks : AsksBy call found (act f object)
      asks = subst (λ (x : Server). IsFor x call found) server fits

      plain : (s : Service) (d : Acted) → d.bytes ≡ [] → handed_in s found d.answer ≡ 0 → OpensBy (is_opening s found) d.answer None →
          AnswersBy s found d.answer d.bytes None
      plain s d none hands opened = record { many = ap (λ (l : List ℕ). length l) none ∙ sym hands; opened = opened }

      reads_so : (wanted count : ℕ) (way : List ℕ) (at : ℕ) → wanted ≤ 4096 → count ≡ wanted → TellsOf wanted (read_act a.files way at count)
      reads_so wanted count way at small same =
          subst (λ (n : ℕ). TellsOf wanted (read_act a.files way at n)) (sym same) (read_tells wanted a.files way at small)

      by_spawn : (path argv : ℕ) (o : Option Spawning) (f : FileAct) (object : Option ℕ) → AsksBy (service.Spawn path argv) o (act f object) →
          ((path : List ℕ) (mode : ℕ) → f ≢ open_path path mode) → AnsweredBy (service.Spawn path argv) o f
      by_spawn path argv (Some (opening words)) (open_path name bits) None asks none = absurd (none name bits refl)
      by_spawn path argv (Some (heading fd words)) (read_file way at count) None asks none =
          let wanted = wanted_by (heading fd words) in
          record { many = reads_so wanted count way at (by_small (heading fd words)) asks; opened = tt }
      by_spawn path argv (Some (tabling fd words header)) (read_file way at count) None asks none =
          let wanted = wanted_by (tabling fd words header) in
          record { many = reads_so wanted count way at (by_small (tabling fd words header)) asks; opened = tt }
      by_spawn path argv (Some (loading fd image child pieces)) (read_file way at count) None asks none =
          let wanted = wanted_by (loading fd image child pieces) in
          record { many = reads_so wanted count way at (by_small (loading fd image child pieces)) asks; opened = tt }
      by_spawn path argv _ _ _ asks none = absurd asks

      by_service : (s : Service) (f : FileAct) (o : Option ℕ) → AsksBy s found (act f o) → ((path : List ℕ) (mode : ℕ) → f ≢ open_path path mode) →
          AnsweredBy s found f
      by_service (service.OpenFile path mode) (open_path name bits) None asks none = absurd (none name bits refl)
      by_service (service.Read fd va len) (read_file way at count) (Some name) asks none = record {
        many = reads_so (wanted_of len) count way at (wanted_small len) asks;
        opened = tt;
      }
      by_service (service.Write fd va len) (write_file way at bytes) (Some name) asks none =
          plain (service.Write fd va len) (write_act a.files way at bytes) (write_none a.files way at bytes) refl tt
      by_service (service.Stat fd va) (stat_file way) None asks none = record { many = stat_tells fd va found a.files way short; opened = tt }
      by_service (service.SetSize fd size) (set_file_size way at) None asks none =
          plain (service.SetSize fd size) (set_size_act a.files way at) (size_none a.files way at) refl tt
      by_service (service.Remove path) (remove_path name) None asks none =
          plain (service.Remove path) (remove_act (is_file_open a) a.files name) (remove_none (is_file_open a) a.files name) refl tt
      by_service service.Sync sync_files None asks none = record { many = refl; opened = tt }
      by_service (service.Spawn path argv) f o asks none = by_spawn path argv found f o asks none
      by_service _ _ _ asks none = absurd asks

  -- ---- each step

  looked_fits : (client : ℕ) (request : Request) (k : ℕ) → a.server ≡ looking client request k → FitsOn a (looked a client request k)
  looked_fits client request k server =
      if_fits (not (is_held_by a (a.opened k).held_by)) _ _
      (λ free. record { slots = refl; served = λ m is. who ∙ is; fits = λ call found fits. asks call found fits })
      (λ held. if_fits (nat_lt (k + 1) MAXOPEN) _ _
      (λ more. record { slots = refl; served = λ m is. who ∙ is; fits = λ call found fits. asks call found fits })
      (λ none. acted_fits client _ (negated E_MAX_OPEN) [] None refl refl who
      (λ call found fits. word_answers client call found (negated E_MAX_OPEN) no_place_great)))
    where
      who : client_served a.server ≡ Some client
      who = ap client_served server

      asks : (call : Service) (found : Option Spawning) → IsFor a.server call found → AsksBy call found request
      asks call found fits = subst (λ (x : Server). IsFor x call found) server fits

  -- no file is opened, and the answer is an error
  refused_open : (path : List ℕ) (mode : ℕ) (object : Option ℕ) (call : Service) (found : Option Spawning) (answer : ℕ) →
      is_count answer ≡ false → AsksBy call found (act (open_path path mode) object) → AnswersBy call found answer [] None
  refused_open path mode None (service.OpenFile name bits) found answer error asks = record { many = refl; opened = error }
  refused_open path mode None (service.Spawn at argv) (Some (opening words)) answer error asks =
      let test : nat_le answer 0 ≡ false = grind (arith, nat_tests, error) in
      record { many = sym (ap (λ (t : Bool). if t then answer else 0) test); opened = error }
  refused_open path mode None _ _ answer error asks = absurd asks
  refused_open path mode (Some name) (service.OpenFile at bits) found answer error asks = absurd asks
  refused_open path mode (Some name) (service.Spawn at argv) (Some (opening words)) answer error asks = absurd asks
  refused_open path mode (Some name) _ _ answer error asks = absurd asks

  opens_named : (path : List ℕ) (mode : ℕ) (object : Option ℕ) (call : Service) (found : Option Spawning) (name : ℕ) →
      AsksBy call found (act (open_path path mode) object) → AnswersBy call found 0 [] (Some name)
  opens_named path mode None (service.OpenFile at bits) found name asks = record { many = refl; opened = refl }
  opens_named path mode None (service.Spawn at argv) (Some (opening words)) name asks = record { many = refl; opened = refl }
  opens_named path mode None _ _ name asks = absurd asks
  opens_named path mode (Some other) (service.OpenFile at bits) found name asks = absurd asks
  opens_named path mode (Some other) (service.Spawn at argv) (Some (opening words)) name asks = absurd asks
  opens_named path mode (Some other) _ _ name asks = absurd asks

  act_fits : HaveShortNames a.files → OpensWell a a.server → (client : ℕ) (request : Request) (place : Option ℕ) → a.server ≡ busy client request place →
      FitsOn a (act_done a client request place)
  act_fits short well client request place server = by_request request server
    where
      who : client_served a.server ≡ Some client
      who = ap client_served server

      other : (f : FileAct) (object : Option ℕ) → a.server ≡ busy client (act f object) place → ((path : List ℕ) (mode : ℕ) → f ≢ open_path path mode) →
          let did = file_act (is_file_open a) a.files f in
          FitsOn a (moved_on (record a { files = did.files; server = acted client did.answer did.bytes None }) object did.answer)
      other f object is no_open =
          let did = file_act (is_file_open a) a.files f in
          moved_fits (record a { files = did.files; server = acted client did.answer did.bytes None }) object did.answer
          (acted_fits client _ did.answer did.bytes None refl refl who (act_answers short client f object place is no_open did refl))

      -- a file is opened: it has its place, and its path names it
      well_opened : (path : List ℕ) (mode : ℕ) (object : Option ℕ) → a.server ≡ busy client (act (open_path path mode) object) place →
          (did : Acted) → did ≡ file_act (is_file_open a) a.files (open_path path mode) → did.answer ≡ 0 →
          FitsOn a (file_opened (record a { files = did.files }) client 0 place (file_named did.files path) (low_mode mode))
      well_opened path mode object is did did_is zero =
          by_place place (file_named did.files path) (let it = well_here in it)
        where
          well_here : (k : ℕ) × (way : List ℕ) × (place ≡ Some k) × (file_named did.files path ≡ Some way)
          well_here =
              let made = subst (λ (x : Server). OpensWell a x) is well (ap (λ (d : Acted). d.answer) (sym did_is) ∙ zero) in
              (made.0, made.1, made.2, ap (λ (d : Acted). file_named d.files path) did_is ∙ made.3)

          by_place : (o : Option ℕ) (w : Option (List ℕ)) → (k : ℕ) × (way : List ℕ) × (o ≡ Some k) × (w ≡ Some way) →
              FitsOn a (file_opened (record a { files = did.files }) client 0 o w (low_mode mode))
          by_place None w it = absurd (none-some it.0 it.2)
          by_place (Some k) None it = absurd (none-some it.1 it.3)
          by_place (Some k) (Some way) it =
              acted_fits client _ 0 [] (Some a.next_name) refl refl who
              (λ call found fits.
              opens_named path mode object call found a.next_name (subst (λ (x : Server). IsFor x call found) is fits))

      opening : (path : List ℕ) (mode : ℕ) (object : Option ℕ) → a.server ≡ busy client (act (open_path path mode) object) place →
          FitsOn a (after_act a client (open_path path mode) object place (file_act (is_file_open a) a.files (open_path path mode)))
      opening path mode object is =
          let asks : (call : Service) (found : Option Spawning) → IsFor a.server call found → AsksBy call found (act (open_path path mode) object) =
          λ call found fits. subst (λ (x : Server). IsFor x call found) is fits in
          let did = file_act (is_file_open a) a.files (open_path path mode) in
          if_fits (did.answer == 0) _ _ (λ test. well_opened path mode object is did refl (grind (arith, nat_tests, test)))
          (λ test. acted_fits client _ did.answer [] None refl refl who (λ call found fits.
          refused_open path mode object call found did.answer (opened_so (is_file_open a) a.files path mode (grind (arith, nat_tests, test)))
          (asks call found fits)))

      by_request : (r : Request) → a.server ≡ busy client r place → FitsOn a (act_done a client r place)
      by_request (act (open_path path mode) object) is = opening path mode object is
      by_request (act (read_file way at count) object) is = other (read_file way at count) object is (λ path mode same. let it : read_file way at count ≡ open_path path mode = same in cc)
      by_request (act (write_file way at bytes) object) is = other (write_file way at bytes) object is (λ path mode same. let it : write_file way at bytes ≡ open_path path mode = same in cc)
      by_request (act (set_file_size way at) object) is = other (set_file_size way at) object is (λ path mode same. let it : set_file_size way at ≡ open_path path mode = same in cc)
      by_request (act (stat_file way) object) is = other (stat_file way) object is (λ path mode same. let it : stat_file way ≡ open_path path mode = same in cc)
      by_request (act (remove_path name) object) is = other (remove_path name) object is (λ path mode same. let it : remove_path name ≡ open_path path mode = same in cc)
      by_request (act sync_files object) is = other sync_files object is (λ path mode same. let it : sync_files ≡ open_path path mode = same in cc)
      by_request (seek name at) is =
          offset_on (record a { server = acted client 0 [] None }) name at (a.objects name)
          (acted_fits client _ 0 [] None refl refl who
          (λ call found fits. by_service call found (subst (λ (x : Server). IsFor x call found) is fits)))
        where
          by_service : (s : Service) (found : Option Spawning) → AsksBy s found (seek name at) → AnswersBy s found 0 [] None
          by_service (service.Seek fd offset) found asks = record { many = refl; opened = tt }
          by_service (service.Spawn path argv) found asks = absurd (spawn_seeks_not path argv found name at asks)
          by_service _ _ asks = absurd asks

-- Behind each of its steps it serves as it was asked.
pub server_fits : (a b : AbstractState) → HaveShortNames a.files → OpensWell a a.server → ServesAsAsked a → server_step a ≡ Some b → ServesAsAsked b
unfolding server_step
server_fits a b short well fits step = by_server a.server refl step
  where
    kept : (x : AbstractState) → Some x ≡ Some b → FitsOn a x → ServesAsAsked b
    kept x same on =
        subst (λ (z : AbstractState). ServesAsAsked z) (same_Some x b same)
        (λ client d call now at way. on.fits call d.spawning (fits client d call (on.served client now) (ap (λ (s : ℕ → AbstractSlot). s client) (sym on.slots) ∙ at) way))

    -- behind a reply it serves nobody
    nobody : b.server ≡ leaving → ServesAsAsked b
    nobody is client d call now at way =
        absurd (none-some client (ap client_served (sym is) ∙ now))

    replied : (client answer : ℕ) (bytes : List ℕ) (object : Option ℕ) (o : Option Born) → reply a client answer bytes object o ≡ Some b → b.server ≡ leaving
    replied client answer bytes object None is = ap (λ (x : Option AbstractState). (unwrap_or x a).server) (sym is)
    replied client answer bytes object (Some c) is = by_phase c.phase is
      where
        by_phase : (p : Phase) → reply_at a client c answer bytes object p ≡ Some b → b.server ≡ leaving
        by_phase (in_service s awaiting) same = ap (λ (x : Option AbstractState). (unwrap_or x a).server) (sym same)
        by_phase _ same = absurd (none-some b same)

    by_server : (x : Server) → a.server ≡ x → served a x ≡ Some b → ServesAsAsked b
    by_server leaving is same =
        λ client d call now at way. absurd (none-some client (ap (λ (x : Option AbstractState). client_served (unwrap_or x a).server) same ∙ now))
    by_server idle is none = absurd (none-some b none)
    by_server (looking client request k) is same = kept (looked a client request k) same (looked_fits a client request k is)
    by_server (busy client request place) is same = kept (act_done a client request place) same (act_fits a short well client request place is)
    by_server (acted client answer bytes object) is same = nobody (replied client answer bytes object (born_in (a.slots client)) same)
