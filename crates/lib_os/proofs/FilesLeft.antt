-- What an environment does leaves what the file server has: first its services, then an instruction. The walk is that of
-- Others.
use Rattle.std.proofs.Common.{◌≡◌, ◌≢◌, ◌∙◌, ◌⊎◌, inl, inr, ◌≤◌, ◌<◌, ◌==◌, ◌||◌, ℕ, zero, suc, ◌+◌, ◌%◌, ◌^◌, Bool, true}
use Rattle.std.proofs.Common.{false, List, [], ◌∷◌}
use Rattle.std.proofs.Common.{refl, sym, ap, subst, arith, Result, Ok, Err, if◌then◌else◌}
use Rattle.std.proofs.lemmas.Bool.{cases_eq}
use Rattle.std.proofs.lemmas.Bool.Decides.{nat_tests}
use Rattle.std.proofs.lemmas.Nat.{mod_below}
use Rattle.std.proofs.lemmas.Option.{same_Some}
use Rattle.std.specs.Prelude.{Option, Some, None, IfSome, slice_set, take, drop, length, slice_index, codes, ⊤, nat_lt, nat_le, not, ◌&&◌}
use Rattle.jos_base.specs.declared.registers.Regs.{Regs}
use Rattle.jos_base.specs.declared.memory.PageFault.{PageFault}
use Rattle.jos_base.specs.declared.memory.Access.TheVariants.{Read}
use Rattle.jos_base.specs.declared.numbers.TheConstants.{NENV, PGSIZE}
use Rattle.jos_base.specs.Below.{some_below}
use Rattle.jos_base.specs.Environments.{next_id}
use Rattle.jos_base.specs.SpacesState.{zero_page}
use Rattle.jos_base.specs.Words.{negated, page_offset, upd, has_bit}
use Rattle.jos_cpu.specs.declared.events.Event.{Event}
use Rattle.jos_cpu.specs.declared.events.Event.TheVariants.{Next, Soft, Raised}
use Rattle.jos_cpu.specs.declared.events.Gates.TheVariants.{Run}
use Rattle.jos_cpu.specs.Steps.{step_of}
use Rattle.jos_cpu.proofs.Agreement.{Agrees}
use Rattle.jos_cpu.proofs.Through.{step_through}
use Rattle.fs_layout.specs.FileTree.{FileSystem, open_path, read_file, remove_path}
use Rattle.fs_layout.specs.declared.numbers.TheConstants.{FTYPE_REG}
use Rattle.fs_layout.specs.FileActs.{stat_bytes}
use Rattle.lib_os.specs.declared.numbers.TheConstants.{DESCRIPTORS}
use Rattle.lib_os.specs.declared.service.Service.{Service}
use Rattle.lib_os.specs.declared.service.Service.TheVariants as service
use Rattle.lib_os.specs.AbstractState.{AbstractState, Born, Page, own, named, AbstractSlot, Object, file, terminal, read_end}
use Rattle.lib_os.specs.AbstractState.{write_end, Request, act, ProgramState, guest, shell, TablePlace}
use Rattle.lib_os.specs.AbstractState.{Phase, at_guest, faulted, in_service, Stage, entered, gathering, delivering}
use Rattle.lib_os.specs.AbstractState.{received, bearing, asked, replied, moving, taking, Server, idle, slot_id, with_slot, free, unborn, born}
use Rattle.lib_os.specs.AbstractState.{OpenFile, ImageRead, Spawning, listing, quoting, opening, heading, tabling, loading, closed, dropping, refusing}
use Rattle.lib_os.specs.AbstractMemory.{stored_in, page_at, page_allows, with_page}
use Rattle.lib_os.specs.GuestStep.{GuestMemory, born_in, guest_memory, guest_stored, after_event, after_writes}
use Rattle.lib_os.specs.GuestStep.{guest_step}
use Rattle.lib_os.specs.Answers.{stored_into, all_stored, delivered_so_far, bytes_stored, bytes_gathered, bytes_delivered}
use Rattle.lib_os.specs.Answers.{handed_back}
use Rattle.lib_os.specs.MemoryServices.{printed, cputs, wait, page_made, page_new, page_drop}
use Rattle.lib_os.specs.AbstractMessages.{receive, Receiver, waiting_in, with_sent, woken, sent, takes, sent_to_waiting}
use Rattle.lib_os.specs.AbstractMessages.{sent_to, send, page_kind}
use Rattle.lib_os.specs.Descriptors.{close, dup_onto, dup, pipe_on, exit_by, object_of, object_name, lowest_open}
use Rattle.lib_os.specs.Descriptors.{lowest_free, is_held, is_name, holds_in}
use Rattle.lib_os.specs.Descriptors.{next_free}
use Rattle.lib_os.specs.AbstractPipes.{read_over, read_from_pipe, write_pipe}
use Rattle.lib_os.specs.Fence.{in_fence}
use Rattle.lib_os.specs.FileServer.{request_begun, request_taken, ask, is_count}
use Rattle.lib_os.specs.FileServices.{after_asking, read_terminal, read_object, read_begun, read_moving, read_step}
use Rattle.lib_os.specs.FileServices.{write_object, write_with, write_begun, write_gathering, write_moving, write_step}
use Rattle.lib_os.specs.FileServices.{named_request, seek_begun, seek_step, set_size_begun, set_size_step}
use Rattle.lib_os.specs.FileServices.{stat_object, stat_begun, stat_step}
use Rattle.lib_os.specs.FileServices.{path_step, open_asked, open_step, remove_step, sync_step}
use Rattle.jos_elf.specs.declared.numbers.TheConstants.{ARGS_MAX, EHDR_LEN, E_NOT_EXEC}
use Rattle.jos_elf.specs.StackPage.{fits_stack}
use Rattle.lib_os.specs.AbstractSpawn.{Piece, address_gathered, address_taken, answer_in, child_begun, child_born, child_dropped, descriptor_of}
use Rattle.lib_os.specs.AbstractSpawn.{file_dropped, file_in, file_opened, file_step, has_nul, header_read, listing_step, more_gathered}
use Rattle.lib_os.specs.AbstractSpawn.{next_string, piece_asked, piece_read, pieces_left, quoting_step, reading_step, spawn_at, spawn_begun}
use Rattle.jos_elf.specs.Headers.{table_of}
use Rattle.lib_os.specs.AbstractSpawn.{is_header, is_table, table_size, with_spawning}
use Rattle.lib_os.specs.AbstractSpawn.{spawn_step, spawned, spawning_step, string_gathered, table_read, unread_step, words_given}
use Rattle.lib_os.specs.LibraryCall.{library_step, at_once, only_at_once, fork_step, receive_step}
use Rattle.lib_os.specs.AbstractFork.{begun_in, child_of}
use Rattle.lib_os.specs.AbstractRun.{abs_step, pipe_of, program_step, slot_step}
use Rattle.lib_os.specs.AbstractLaws.{IsNoFile, LeavesFiles, AsksOrLeaves, asks, leaves, ClientsLeaveFiles}
use Rattle.jos_base.proofs.Maps.{upd-all, upd-other, upd-at}
use Rattle.jos_base.proofs.Below.{some_below-at}

-- ---- who has a descriptor

-- where a test passes, it does at some number
pub some-passes : (n : ℕ) (passes : ℕ → Bool) → some_below n passes ≡ true → (k : ℕ) × (k < n) × (passes k ≡ true)
unfolding some_below
some-passes zero passes e = absurd (cc)
some-passes (suc n) passes e = by (some_below n passes) refl (λ is. some-passes n passes is)
  where
    by : (t : Bool) → some_below n passes ≡ t → (some_below n passes ≡ true → (k : ℕ) × (k < n) × (passes k ≡ true)) →
        (k : ℕ) × (k < suc n) × (passes k ≡ true)
    by true is below = let found = below is in (found.0, omega (arith, found.1), found.2)
    by false is below = (n, omega arith, sym (ap (λ (t : Bool). t || passes n) is) ∙ e)

pub name-same : (name : ℕ) → is_name (Some name) name ≡ true
name-same name = grind (arith, nat_tests)

pub named-so : (o : Option ℕ) (name : ℕ) → is_name o name ≡ true → o ≡ Some name
named-so None name is = absurd (cc)
named-so (Some other) name is = let same : other ≡ name = grind (arith, nat_tests) in ap (λ (k : ℕ). Some k) same

-- a name that one had a descriptor for in a state, or that is new since then and no file
abbrev MayHold : AbstractState → (ℕ → Object) → ℕ → ℕ → Type 0
MayHold a objects next name = (is_held a name ≡ true) ⊎ ((a.next_name ≤ name) × (name < next) × IsNoFile (objects name))

-- descriptors that name nothing else
record Fits (a : AbstractState) (objects : ℕ → Object) (next : ℕ) (descriptors : ℕ → Option ℕ) : Type 0 where
  each : (fd : ℕ) → fd < DESCRIPTORS → (name : ℕ) → descriptors fd ≡ Some name → MayHold a objects next name

abbrev FitsIn : AbstractState → (ℕ → Object) → ℕ → Option Born → Type 0
FitsIn a objects next None = ⊤
FitsIn a objects next (Some b) = Fits a objects next b.descriptors

nothing : ⊤
nothing = record {}

-- the environments of the state itself
fits-before : (a : AbstractState) (objects : ℕ → Object) (next m : ℕ) → m < NENV → (o : Option Born) → born_in (a.slots m) ≡ o →
    FitsIn a objects next o
fits-before a objects next m small None e = nothing
fits-before a objects next m small (Some b) e = record {
  each = λ fd below name is. inl
      (some_below-at (λ k. holds_in (born_in (a.slots k)) name) NENV m small
      (ap (λ (o : Option Born). holds_in o name) e
      ∙ some_below-at (λ k. is_name (b.descriptors k) name) DESCRIPTORS fd below
      (ap (λ (o : Option ℕ). is_name o name) is ∙ name-same name)));
}

-- another descriptor
fits-with : (a : AbstractState) (objects : ℕ → Object) (next : ℕ) (descriptors : ℕ → Option ℕ) (fd : ℕ) (o : Option ℕ) →
    Fits a objects next descriptors → ((name : ℕ) → o ≡ Some name → MayHold a objects next name) → Fits a objects next (upd descriptors fd o)
fits-with a objects next descriptors fd o h new = record {
  each = upd-all (λ (k : ℕ) (d : Option ℕ). k < DESCRIPTORS → (name : ℕ) → d ≡ Some name → MayHold a objects next name) descriptors fd o
      (λ below. new) (λ k ne. h.each k);
}

fits-without : (a : AbstractState) (objects : ℕ → Object) (next : ℕ) (descriptors : ℕ → Option ℕ) (fd : ℕ) →
    Fits a objects next descriptors → Fits a objects next (upd descriptors fd None)
fits-without a objects next descriptors fd h = fits-with a objects next descriptors fd None h (λ name is. absurd (cc))

-- ---- pages

-- a byte that is put where no page is makes none
still_none : (shared : ℕ → List ℕ) (name other offset byte : ℕ) → shared other ≡ [] → upd shared name (slice_set (shared name) offset byte) other ≡ []
still_none shared name other offset byte none = elim (cases_eq other name) [
  | inl same ↦
      ap (upd shared name (slice_set (shared name) offset byte)) same ∙ upd-at shared name (slice_set (shared name) offset byte)
      ∙ ap (λ (l : List ℕ). slice_set l offset byte) (ap shared (sym same) ∙ none)
  | inr ne ↦ upd-other shared name (slice_set (shared name) offset byte) other ne ∙ none
]

-- ---- what is left

-- the server is as it was, or is asked
data Asked (a : AbstractState) (n : ℕ) (server : Server) : Type 0 where
  still : server ≡ a.server → Asked a n server
  asking : (request : Request) → a.server ≡ idle → server ≡ request_begun n request → Asked a n server

-- The parts of a later state that this is about, with how they stand to those of the first.
record Now (a : AbstractState) (n : ℕ) (slots : ℕ → AbstractSlot) (objects : ℕ → Object) (next : ℕ) (files : FileSystem)
    (opened : ℕ → TablePlace) (server : Server) (shared : ℕ → List ℕ) : Type 0 where
  files_are : files ≡ a.files
  opened_are : opened ≡ a.opened
  server_is : Asked a n server
  names : a.next_name ≤ next
  objects_are : (name : ℕ) → name < a.next_name → objects name ≡ a.objects name
  ends_are : (name pipe : ℕ) → pipe_of (Some (objects name)) ≡ Some pipe →
      (pipe_of (Some (a.objects name)) ≡ Some pipe) ⊎ ((a.next_name ≤ pipe) × (pipe < next))
  holders : (m : ℕ) → m < NENV → FitsIn a objects next (born_in (slots m))
  pages_are : (name : ℕ) → (name < a.next_name) ⊎ (next ≤ name) → a.shared name ≡ [] → shared name ≡ []

module _ (a : AbstractState) (n : ℕ) (small : n < NENV) where
  abbrev Left : AbstractState → Type 0
  Left x = Now a n x.slots x.objects x.next_name x.files x.opened x.server x.shared

  abbrev LeftIf : Option AbstractState → Type 0
  LeftIf r = IfSome r Left

  -- ---- what the steps are made of

  same_left : Left a
  same_left = record {
    files_are = refl;
    opened_are = refl;
    server_is = still refl;
    names = omega arith;
    objects_are = λ name below. refl;
    ends_are = λ name pipe is. inl is;
    holders = λ m below. fits-before a a.objects a.next_name m below (born_in (a.slots m)) refl;
    pages_are = λ name old none. none;
  }

  -- something else stands in a slot
  set_left_in : (x : AbstractState) (k : ℕ) (slot : AbstractSlot) → Left x → FitsIn a x.objects x.next_name (born_in slot) →
      Left (with_slot x k slot)
  set_left_in x k slot h fits = record {
    files_are = h.files_are;
    opened_are = h.opened_are;
    server_is = h.server_is;
    names = h.names;
    objects_are = h.objects_are;
    ends_are = h.ends_are;
    holders = upd-all (λ (m : ℕ) (s : AbstractSlot). m < NENV → FitsIn a x.objects x.next_name (born_in s)) x.slots k slot
        (λ below. fits) (λ m ne. h.holders m);
    pages_are = h.pages_are;
  }

  set_left : (slot : AbstractSlot) → FitsIn a a.objects a.next_name (born_in slot) → Left (with_slot a n slot)
  set_left slot fits = set_left_in a n slot same_left fits

  if_left : (c : Bool) (x y : AbstractState) → Left x → Left y → Left (if c then x else y)
  if_left true x y h k = h
  if_left false x y h k = k

  if_some : (c : Bool) (x y : Option AbstractState) → LeftIf x → LeftIf y → LeftIf (if c then x else y)
  if_some true x y h k = h
  if_some false x y h k = k

  page_left : (x : AbstractState) (k : ℕ) (b : Born) (va byte : ℕ) (page : Option Page) → Left x →
      Fits a x.objects x.next_name b.descriptors → Left (stored_in x k b va byte page)
  page_left x k b va byte None h fits = h
  page_left x k b va byte (Some (own bytes w)) h fits = set_left_in x k _ h fits
  page_left x k b va byte (Some (named name w)) h fits = record {
    files_are = h.files_are;
    opened_are = h.opened_are;
    server_is = h.server_is;
    names = h.names;
    objects_are = h.objects_are;
    ends_are = h.ends_are;
    holders = h.holders;
    pages_are = λ other old none.
        still_none x.shared name other (page_offset va) byte (h.pages_are other old none);
  }

  into_left : (x : AbstractState) (k va byte : ℕ) (o : Option Born) → Left x → FitsIn a x.objects x.next_name o →
      Left (stored_into x k va byte o)
  into_left x k va byte None h fits = h
  into_left x k va byte (Some b) h fits = page_left x k b va byte (page_at b va) h fits

  all_left : (x : AbstractState) (va : ℕ) (bytes : List ℕ) → Left x → Left (all_stored x n va bytes)
  unfolding all_stored
  all_left x va [] h = h
  all_left x va (byte ∷ rest) h =
      let o = born_in (x.slots n) in
      all_left (stored_into x n va byte o) ((va + 1) % 2 ^ 32) rest (into_left x n va byte o h (h.holders n small))

  to_left : (x : AbstractState) (regs : Regs) (s : Service) (va answer : ℕ) (bytes : List ℕ) (o : Option Born) →
      Left x → FitsIn a x.objects x.next_name o →
      Left (delivered_so_far x n regs s va answer bytes o)
  to_left x regs s va answer bytes None h fits = h
  to_left x regs s va answer [] (Some b) h fits = set_left_in x n _ h fits
  to_left x regs s va answer (byte ∷ rest) (Some b) h fits = set_left_in x n _ h fits

  put_left : (regs : Regs) (s : Service) (va : ℕ) (bytes : List ℕ) (answer count : ℕ) →
      Left (bytes_stored a n regs s va bytes answer count)
  put_left regs s va bytes answer count =
      let x = all_stored a n va (take count bytes) in
      let h : Left x = all_left a va (take count bytes) same_left in
      to_left x regs s ((va + count) % 2 ^ 32) answer (drop count bytes) (born_in (x.slots n)) h (h.holders n small)

  once_left : (stage : Stage) (x : AbstractState) → Left x → LeftIf (at_once stage x)
  once_left entered x h = h
  once_left _ x h = record {}

  only_left : (stage : Stage) (r : Option AbstractState) → LeftIf r → LeftIf (only_at_once stage r)
  only_left entered r h = h
  only_left _ r h = record {}

  module _ (b : Born) (at : a.slots n ≡ born b) (regs : Regs) where
    -- what the environment has descriptors for
    its : (objects : ℕ → Object) (next : ℕ) → Fits a objects next b.descriptors
    its objects next = fits-before a objects next n small (Some b) (ap (λ (slot : AbstractSlot). born_in slot) at)

    mine : Fits a a.objects a.next_name b.descriptors
    mine = its a.objects a.next_name

    without : (fd : ℕ) → Fits a a.objects a.next_name (upd b.descriptors fd None)
    without fd = fits-without a a.objects a.next_name b.descriptors fd mine

    named_held : (fd : ℕ) (test : Bool) → nat_lt fd DESCRIPTORS ≡ test → (name : ℕ) →
        (if test then b.descriptors fd else None) ≡ Some name → MayHold a a.objects a.next_name name
    named_held fd true inside name is = mine.each fd (grind (arith, nat_tests)) name is
    named_held fd false inside name is = absurd (cc)

    copied : (old new : ℕ) → Fits a a.objects a.next_name (upd b.descriptors new (object_name b old))
    copied old new =
        fits-with a a.objects a.next_name b.descriptors new (object_name b old) mine (named_held old (nat_lt old DESCRIPTORS) refl)

    -- ---- the environment itself

    printed_left : (r : Result (List ℕ) PageFault) → Left (printed a n b regs r)
    printed_left (Ok bytes) = set_left _ mine
    printed_left (Err fault) = set_left _ nothing

    cputs_left : (va len : ℕ) → Left (cputs a n b regs va len)
    cputs_left va len = search (if_left, set_left, mine, printed_left)

    wait_left : (id : ℕ) → LeftIf (wait a n b regs id)
    wait_left id = search (if_some, set_left, mine)

    -- a name for a page
    page_made_left : (va flags : ℕ) → Left (page_made a n b regs va flags)
    page_made_left va flags = if_left (has_bit flags 2) _ _ (set_left_in fresh n _ fresh_left (its a.objects (a.next_name + 1))) (set_left _ mine)
      where
        fresh : AbstractState
        fresh = record a { shared = upd a.shared a.next_name zero_page; next_name = a.next_name + 1 }

        apart : (name : ℕ) → (name < a.next_name) ⊎ (a.next_name + 1 ≤ name) → name ≢ a.next_name
        apart name (inl below) = omega (arith, below)
        apart name (inr above) = omega (arith, above)

        fresh_left : Left fresh
        fresh_left = record {
          files_are = refl;
          opened_are = refl;
          server_is = still refl;
          names = omega arith;
          objects_are = λ name below. refl;
          ends_are = λ name pipe is. inl is;
          holders = λ m below. fits-before a a.objects (a.next_name + 1) m below (born_in (a.slots m)) refl;
          pages_are = λ name old none. upd-other a.shared a.next_name zero_page name (apart name old) ∙ none;
        }

    page_new_left : (va flags : ℕ) → Left (page_new a n b regs va flags)
    page_new_left va flags = search (if_left, set_left, mine, page_made_left)

    page_drop_left : (va : ℕ) → Left (page_drop a n b regs va)
    page_drop_left va = search (if_left, set_left, mine)

    receive_left : (va from : ℕ) → Left (receive a n b regs va from)
    receive_left va from = search (if_left, set_left, mine)

    receive_step_left : (va from : ℕ) (stage : Stage) → LeftIf (receive_step a n b regs va from stage)
    receive_step_left va from entered = receive_left va from
    receive_step_left va from (received message) = set_left _ mine
    receive_step_left va from _ = record {}

    -- ---- descriptors

    exit_left : (o : Option ℕ) → Left (exit_by a n b o)
    exit_left None = set_left _ nothing
    exit_left (Some fd) = set_left _ (without fd)

    close_left : (fd : ℕ) → Left (close a n b regs fd)
    close_left fd = search (if_left, set_left, mine, without)

    onto_left : (old new : ℕ) (o : Option ℕ) → Left (dup_onto a n b regs old new o)
    onto_left old new (Some other) = set_left _ (without new)
    onto_left old new None = set_left _ (copied old new)

    dup_left : (old new : ℕ) → Left (dup a n b regs old new)
    dup_left old new = search (if_left, set_left, mine, onto_left)

    pipe_left : (reading writing : Option ℕ) → Left (pipe_on a n b regs reading writing)
    pipe_left None writing = set_left _ mine
    pipe_left (Some reading) None = set_left _ mine
    pipe_left (Some reading) (Some writing) = set_left_in piped n _ piped_left
        (fits-with a objects next (upd b.descriptors reading (Some (a.next_name + 1))) writing (Some (a.next_name + 2))
        (fits-with a objects next b.descriptors reading (Some (a.next_name + 1)) (its objects next)
        (λ name is. inr (new (a.next_name + 1) name is (omega arith) (omega arith) first)))
        (λ name is. inr (new (a.next_name + 2) name is (omega arith) (omega arith) second)))
      where
        ends : ℕ → Object
        ends = upd a.objects (a.next_name + 1) (read_end a.next_name)

        objects : ℕ → Object
        objects = upd ends (a.next_name + 2) (write_end a.next_name)

        next : ℕ
        next = a.next_name + 3

        piped : AbstractState
        piped = record a { pipes = upd a.pipes a.next_name []; objects = objects; next_name = next }

        -- an end is no file
        first : IsNoFile (objects (a.next_name + 1))
        first = subst (λ (o : Object). IsNoFile o)
            (sym (upd-other ends (a.next_name + 2) (write_end a.next_name) (a.next_name + 1) (omega arith)
            ∙ upd-at a.objects (a.next_name + 1) (read_end a.next_name))) nothing

        second : IsNoFile (objects (a.next_name + 2))
        second = subst (λ (o : Object). IsNoFile o) (sym (upd-at ends (a.next_name + 2) (write_end a.next_name))) nothing

        new : (k name : ℕ) → Some k ≡ Some name → a.next_name ≤ k → k < next → IsNoFile (objects k) →
            (a.next_name ≤ name) × (name < next) × IsNoFile (objects name)
        new k name is least below no_file =
            subst (λ (m : ℕ). (a.next_name ≤ m) × (m < next) × IsNoFile (objects m)) (same_Some k name is) (least, below, no_file)

        ends_new : (name pipe : ℕ) → pipe_of (Some (objects name)) ≡ Some pipe →
            (pipe_of (Some (a.objects name)) ≡ Some pipe) ⊎ ((a.next_name ≤ pipe) × (pipe < next))
        ends_new =
            upd-all (λ name (o : Object). (pipe : ℕ) → pipe_of (Some o) ≡ Some pipe →
            (pipe_of (Some (a.objects name)) ≡ Some pipe) ⊎ ((a.next_name ≤ pipe) × (pipe < next))) ends (a.next_name + 2) (write_end a.next_name)
            its_new
            (λ name ne. upd-all (λ k (o : Object). (pipe : ℕ) → pipe_of (Some o) ≡ Some pipe →
            (pipe_of (Some (a.objects k)) ≡ Some pipe) ⊎ ((a.next_name ≤ pipe) × (pipe < next))) a.objects (a.next_name + 1) (read_end a.next_name)
            its_first (λ k other pipe is. inl is) name)
          where
            its_new : (pipe : ℕ) → Some a.next_name ≡ Some pipe →
                (pipe_of (Some (a.objects (a.next_name + 2))) ≡ Some pipe) ⊎ ((a.next_name ≤ pipe) × (pipe < next))
            its_new pipe is = let same : a.next_name ≡ pipe = same_Some a.next_name pipe is in inr (omega (arith, same), omega (arith, same))

            its_first : (pipe : ℕ) → Some a.next_name ≡ Some pipe →
                (pipe_of (Some (a.objects (a.next_name + 1))) ≡ Some pipe) ⊎ ((a.next_name ≤ pipe) × (pipe < next))
            its_first pipe is = let same : a.next_name ≡ pipe = same_Some a.next_name pipe is in inr (omega (arith, same), omega (arith, same))

        piped_left : Left piped
        piped_left = record {
          files_are = refl;
          opened_are = refl;
          server_is = still refl;
          names = omega arith;
          ends_are = ends_new;
          objects_are = λ name below.
              upd-other ends (a.next_name + 2) (write_end a.next_name) name (omega arith)
              ∙ upd-other a.objects (a.next_name + 1) (read_end a.next_name) name (omega arith);
          holders = λ m below. fits-before a objects next m below (born_in (a.slots m)) refl;
          pages_are = λ name old none. none;
        }

    module _ (s : Service) where
      -- ---- taking what was given, and handing back

      gathered_left : (va wanted : ℕ) (stage_of : List ℕ → Stage) → Left (bytes_gathered a n b regs s va wanted stage_of)
      gathered_left va wanted stage_of = search (if_left, set_left, mine)

      delivered_left : (va : ℕ) (bytes : List ℕ) (answer : ℕ) → Left (bytes_delivered a n b regs s va bytes answer)
      delivered_left va bytes answer = search (if_left, set_left, put_left)

      handed_left : (x : AbstractState) (va : ℕ) (bytes : List ℕ) (answer : ℕ) → Left x →
          Left (handed_back x n b regs s va bytes answer)
      handed_left x va bytes answer h = to_left x regs s va answer bytes (Some b) h (its x.objects x.next_name)

      -- ---- pipes

      over_left : (va pipe wanted : ℕ) (taken : List ℕ) → LeftIf (read_over a n b regs s va pipe wanted taken)
      over_left va pipe wanted [] = search (if_some, set_left, mine)
      over_left va pipe wanted (byte ∷ rest) = set_left _ mine

      from_left : (va pipe wanted : ℕ) (taken held : List ℕ) → LeftIf (read_from_pipe a n b regs s va pipe wanted taken held)
      from_left va pipe wanted taken [] = over_left va pipe wanted taken
      from_left va pipe wanted taken (byte ∷ rest) = search (if_some, set_left, mine, over_left)

      write_pipe_left : (pipe : ℕ) (bytes : List ℕ) (count : ℕ) → LeftIf (write_pipe a n b regs s pipe bytes count)
      write_pipe_left pipe [] count = set_left _ mine
      write_pipe_left pipe (byte ∷ rest) count = search (if_some, set_left, mine)

      -- ---- requests

      asks_left : (request : Request) (server : Server) → a.server ≡ server → LeftIf (request_taken a n b s request server)
      asks_left request idle e = set_left_in (record a { server = request_begun n request }) n _
          (record {
            files_are = same_left.files_are;
            opened_are = same_left.opened_are;
            server_is = asking request e refl;
            names = same_left.names;
            objects_are = same_left.objects_are;
            ends_are = same_left.ends_are;
            holders = same_left.holders;
            pages_are = same_left.pages_are;
          }) mine
      asks_left request _ e = record {}

      ask_left : (request : Request) → LeftIf (ask a n b s request)
      ask_left request = asks_left request a.server refl

      after_left : (va : ℕ) (stage : Stage) → LeftIf (after_asking a n b regs s va stage)
      after_left va (delivering at bytes answer) = delivered_left at bytes answer
      after_left va asked = set_left _ mine
      after_left va (replied [] answer) = set_left _ mine
      after_left va (replied (byte ∷ rest) answer) = delivered_left va (byte ∷ rest) answer
      after_left va _ = record {}

      -- ---- read and write

      terminal_left : (va wanted : ℕ) (input : List ℕ) → Left (read_terminal a n b regs s va wanted input)
      terminal_left va wanted [] = set_left _ mine
      terminal_left va wanted (byte ∷ rest) = search (if_left, set_left, mine)

      read_object_left : (va wanted : ℕ) (name : Option ℕ) (object : Object) →
          LeftIf (read_object a n b regs s va wanted name object)
      read_object_left va wanted name (file f) = search ask_left
      read_object_left va wanted name terminal = terminal_left va wanted a.input
      read_object_left va wanted name (read_end pipe) = from_left va pipe wanted [] (a.pipes pipe)
      read_object_left va wanted name (write_end pipe) = record {}

      read_begun_left : (fd va len : ℕ) (o : Option Object) → LeftIf (read_begun a n b regs s fd va len o)
      read_begun_left fd va len None = set_left _ mine
      read_begun_left fd va len (Some object) = search (if_some, set_left, mine, read_object_left)

      read_moving_left : (va len : ℕ) (taken : List ℕ) (o : Option Object) →
          LeftIf (read_moving a n b regs s va len taken o)
      read_moving_left va len taken (Some (read_end pipe)) = from_left va pipe _ taken (a.pipes pipe)
      read_moving_left va len taken _ = record {}

      read_left : (fd va len : ℕ) (stage : Stage) → LeftIf (read_step a n b regs s fd va len stage)
      read_left fd va len entered = read_begun_left fd va len (object_of a b fd)
      read_left fd va len (moving taken count) = read_moving_left va len taken _
      read_left fd va len stage = after_left va stage

      write_object_left : (bytes : List ℕ) (name : Option ℕ) (object : Object) →
          LeftIf (write_object a n b regs s bytes name object)
      write_object_left bytes name (file f) = search ask_left
      write_object_left bytes name terminal = set_left _ mine
      write_object_left bytes name (read_end pipe) = record {}
      write_object_left bytes name (write_end pipe) = write_pipe_left pipe bytes 0

      write_with_left : (fd va wanted : ℕ) (bytes : List ℕ) (object : Object) →
          LeftIf (write_with a n b regs s fd va wanted bytes object)
      write_with_left fd va wanted bytes object = search (if_some, gathered_left, write_object_left)

      write_begun_left : (fd va len : ℕ) (o : Option Object) → LeftIf (write_begun a n b regs s fd va len o)
      write_begun_left fd va len None = set_left _ mine
      write_begun_left fd va len (Some object) = search (if_some, set_left, mine, write_with_left)

      write_gathering_left : (fd va len : ℕ) (bytes : List ℕ) (o : Option Object) →
          LeftIf (write_gathering a n b regs s fd va len bytes o)
      write_gathering_left fd va len bytes None = record {}
      write_gathering_left fd va len bytes (Some object) = write_with_left fd va _ bytes object

      write_moving_left : (rest : List ℕ) (count : ℕ) (o : Option Object) →
          LeftIf (write_moving a n b regs s rest count o)
      write_moving_left rest count (Some (write_end pipe)) = write_pipe_left pipe rest count
      write_moving_left rest count _ = record {}

      write_left : (fd va len : ℕ) (stage : Stage) → LeftIf (write_step a n b regs s fd va len stage)
      write_left fd va len entered = write_begun_left fd va len (object_of a b fd)
      write_left fd va len (gathering taken) = write_gathering_left fd va len taken _
      write_left fd va len (moving rest count) = write_moving_left rest count _
      write_left fd va len stage = after_left va stage

      -- ---- seek, set_size and stat

      named_left : (name : Option ℕ) (request_of : ℕ → Request) → LeftIf (named_request a n b s name request_of)
      named_left None request_of = record {}
      named_left (Some name) request_of = ask_left _

      seek_begun_left : (fd offset : ℕ) (o : Option Object) → LeftIf (seek_begun a n b regs s fd offset o)
      seek_begun_left fd offset None = set_left _ mine
      seek_begun_left fd offset (Some (file f)) = search (if_some, set_left, mine, named_left)
      seek_begun_left fd offset (Some _) = set_left _ mine

      seek_left : (fd offset : ℕ) (stage : Stage) → LeftIf (seek_step a n b regs s fd offset stage)
      seek_left fd offset entered = seek_begun_left fd offset _
      seek_left fd offset stage = after_left 0 stage

      set_size_begun_left : (size : ℕ) (o : Option Object) → LeftIf (set_size_begun a n b regs s size o)
      set_size_begun_left size None = set_left _ mine
      set_size_begun_left size (Some (file f)) = search (if_some, set_left, mine, ask_left)
      set_size_begun_left size (Some _) = set_left _ mine

      set_size_left : (fd size : ℕ) (stage : Stage) → LeftIf (set_size_step a n b regs s fd size stage)
      set_size_left fd size entered = set_size_begun_left size (object_of a b fd)
      set_size_left fd size stage = after_left 0 stage

      stat_object_left : (va : ℕ) (object : Object) → LeftIf (stat_object a n b regs s va object)
      stat_object_left va (file f) = search ask_left
      stat_object_left va terminal = handed_left a va (stat_bytes (codes "<cons>") 0 FTYPE_REG) 0 same_left
      stat_object_left va (read_end pipe) = handed_left a va (stat_bytes (codes "<pipe>") (length (a.pipes pipe)) FTYPE_REG) 0 same_left
      stat_object_left va (write_end pipe) = handed_left a va (stat_bytes (codes "<pipe>") (length (a.pipes pipe)) FTYPE_REG) 0 same_left

      stat_begun_left : (va : ℕ) (o : Option Object) → LeftIf (stat_begun a n b regs s va o)
      stat_begun_left va None = set_left _ mine
      stat_begun_left va (Some object) = search (if_some, set_left, mine, stat_object_left)

      stat_left : (fd va : ℕ) (stage : Stage) → LeftIf (stat_step a n b regs s fd va stage)
      stat_left fd va entered = stat_begun_left va _
      stat_left fd va stage = after_left va stage

      -- ---- paths

      path_left : (path : ℕ) (taken : List ℕ) (next : List ℕ → Option AbstractState) →
          ((found : List ℕ) → LeftIf (next found)) → LeftIf (path_step a n b regs s path taken next)
      path_left path taken next on_next = search (if_some, set_left, mine, gathered_left, on_next)

      open_asked_left : (mode : ℕ) (path : List ℕ) → LeftIf (open_asked a n b regs s mode path)
      open_asked_left mode path = search (if_some, set_left, mine, ask_left)

      open_left : (path mode : ℕ) (stage : Stage) → LeftIf (open_step a n b regs s path mode stage)
      open_left path mode entered =
          let next = open_asked a n b regs s mode in
          let h : LeftIf (path_step a n b regs s path [] next) = path_left path [] next (open_asked_left mode) in
          search (if_some, set_left, mine, h)
      open_left path mode (gathering taken) = path_left path taken _ (open_asked_left mode)
      open_left path mode stage = after_left 0 stage

      remove_left : (path : ℕ) (stage : Stage) → LeftIf (remove_step a n b regs s path stage)
      remove_left path entered = path_left path [] _ (λ found. ask_left (act (remove_path found) None))
      remove_left path (gathering taken) = path_left path taken _ (λ found. ask_left (act (remove_path found) None))
      remove_left path stage = after_left 0 stage

      sync_left : (stage : Stage) → LeftIf (sync_step a n b regs s stage)
      sync_left entered = search ask_left
      sync_left stage = after_left 0 stage

    -- ---- messages and children

    -- the receiver has its own descriptors
    given_left : (o : Born) (w : Receiver) (va sender : ℕ) (page : Option Page) → Fits a a.objects a.next_name o.descriptors →
        Fits a a.objects a.next_name (with_sent o w va sender page).0.descriptors
    given_left o w va sender None fits = fits
    given_left o w va sender (Some page) fits = by ((va == 0) || (w.va == 0))
      where
        given : Bool → Born × ℕ
        given test = if test then (o, 0) else (with_page o w.va page, page_kind page)

        by : (test : Bool) → Fits a a.objects a.next_name (given test).0.descriptors
        by true = fits
        by false = fits

    sent_left : (target value va : ℕ) (o : Born) (w : Receiver) → Fits a a.objects a.next_name o.descriptors →
        Left (sent a n b regs target value va o w)
    sent_left target value va o w fits =
        set_left_in (with_slot a target (born (woken o w b.id value (with_sent o w va b.id (page_at b va))))) n _
        (set_left_in a target _ same_left (given_left o w va b.id (page_at b va) fits)) mine

    waiting_left : (target value va : ℕ) (o : Born) (w : Option Receiver) → Fits a a.objects a.next_name o.descriptors →
        LeftIf (sent_to_waiting a n b regs target value va o w)
    waiting_left target value va o None fits = record {}
    waiting_left target value va o (Some w) fits = if_some (takes w b.id) _ _ (sent_left target value va o w fits) (record {})

    sent_to_left : (target value va : ℕ) (o : Option Born) → FitsIn a a.objects a.next_name o → LeftIf (sent_to a n b regs target value va o)
    sent_to_left target value va None fits = record {}
    sent_to_left target value va (Some o) fits = waiting_left target value va o (waiting_in o.phase) fits

    send_left : (id value va : ℕ) → LeftIf (send a n b regs id value va)
    send_left id value va =
        let target_left = sent_to_left (id % NENV) value va (born_in (a.slots (id % NENV)))
        (same_left.holders (id % NENV) (mod_below id NENV (omega arith))) in
        search (if_some, set_left, mine, target_left)

    begun_left : (slots : List ℕ) → Left (begun_in a n b regs slots)
    begun_left [] = set_left _ mine
    begun_left (child ∷ rest) =
        set_left_in (record (with_slot a child (unborn (next_id (slot_id (a.slots child)) child) b.id)) { free_slots = rest }) n _
        (set_left_in a child _ same_left nothing) mine

    fork_left : (stage : Stage) → LeftIf (fork_step a n b regs stage)
    fork_left entered = begun_left a.free_slots
    fork_left (bearing child) =
        let id = slot_id (a.slots child) in
        set_left_in (with_slot a child (born (child_of b regs id))) n _ (set_left_in a child _ same_left mine) mine
    fork_left _ = record {}

    -- ---- spawn

    module _ (path argv : ℕ) where
      abbrev it : Service
      it = service.Spawn path argv

      -- a request by one who has the descriptors that it had
      asks_on : (c : Born) (request : Request) → Fits a a.objects a.next_name c.descriptors → (server : Server) → a.server ≡ server →
          LeftIf (request_taken a n c it request server)
      asks_on c request fits idle e = set_left_in (record a { server = request_begun n request }) n _
          (record {
            files_are = same_left.files_are;
            opened_are = same_left.opened_are;
            server_is = asking request e refl;
            names = same_left.names;
            objects_are = same_left.objects_are;
            ends_are = same_left.ends_are;
            holders = same_left.holders;
            pages_are = same_left.pages_are;
          }) fits
      asks_on c request fits _ e = record {}

      ask_on : (c : Born) (request : Request) → Fits a a.objects a.next_name c.descriptors → LeftIf (ask a n c it request)
      ask_on c request fits = asks_on c request fits a.server refl

      -- what it is given
      given_words : (name : List ℕ) (words : List (List ℕ)) → LeftIf (words_given a n b regs it name words)
      given_words name words = if_some (not (fits_stack words)) _ _ (set_left _ mine) (ask_on (with_spawning b (opening words)) (act (open_path name 0) None) mine)

      more_left : (found : Spawning) (va wanted : ℕ) (taken : List ℕ) → LeftIf (more_gathered a n b regs it found va wanted taken)
      more_left found va wanted taken =
          if_some (not (in_fence va 1)) _ _ (set_left _ mine)
          (if_left (page_allows (page_at b va) Read) _ _ (set_left _ mine) (set_left _ nothing))

      string_left : (found : Spawning) (address : ℕ) (taken : List ℕ) → LeftIf (string_gathered a n b regs it found address taken)
      string_left found address taken = if_some (nat_le PGSIZE (length taken)) _ _ (set_left _ mine) (more_left found _ _ taken)

      next_left : (name left : List ℕ) (words : List (List ℕ)) → LeftIf (next_string a n b regs it name left words)
      next_left name [] words = given_words name words
      next_left name (address ∷ left) words = string_left (quoting name (address ∷ left) words) address []

      quoting_left : (name left : List ℕ) (words : List (List ℕ)) (taken : List ℕ) → LeftIf (quoting_step a n b regs it name left words taken)
      quoting_left name [] words taken = record {}
      quoting_left name (address ∷ left) words taken =
          if_some (has_nul taken) _ _ (next_left name left _) (string_left (quoting name (address ∷ left) words) address taken)

      address_left : (name addresses taken : List ℕ) → LeftIf (address_gathered a n b regs it argv name addresses taken)
      address_left name addresses taken = more_left (listing name addresses) _ _ taken

      taken_left : (name addresses : List ℕ) (address : ℕ) → LeftIf (address_taken a n b regs it argv name addresses address)
      taken_left name addresses address =
          if_some (address == 0) _ _ (next_left name addresses [])
          (if_some (nat_le ARGS_MAX (length addresses)) _ _ (set_left _ mine) (address_left name _ []))

      listing_left : (name addresses taken : List ℕ) → LeftIf (listing_step a n b regs it argv name addresses taken)
      listing_left name addresses taken =
          if_some (nat_lt (length taken) 4) _ _ (address_left name addresses taken) (taken_left name addresses _)

      -- the file
      dropped_left : (fd answer : ℕ) → Left (file_dropped a n b it fd answer)
      dropped_left fd answer = set_left _ (without fd)

      opened_left : (fd : ℕ) (words : List (List ℕ)) (f : OpenFile) → LeftIf (file_opened a n b it fd words f)
      opened_left fd words f = if_some (nat_lt f.size EHDR_LEN) _ _ (dropped_left fd (negated E_NOT_EXEC))
          (ask_on (with_spawning b (heading fd words)) (act (read_file f.way 0 EHDR_LEN) None) mine)

      header_left : (fd : ℕ) (words : List (List ℕ)) (header : List ℕ) (f : OpenFile) → LeftIf (header_read a n b it fd words header f)
      header_left fd words header f =
          if_some (is_header f header) _ _
          (ask_on (with_spawning b (tabling fd words header))
          (act (read_file f.way (table_of (slice_index header)) (table_size header)) None) mine) (dropped_left fd (negated E_NOT_EXEC))

      child_left : (fd : ℕ) (image : ImageRead) (slots : List ℕ) → Left (child_begun a n b it fd image slots)
      child_left fd image [] = set_left _ mine
      child_left fd image (child ∷ rest) =
          set_left_in (record (with_slot a child (unborn (next_id (slot_id (a.slots child)) child) b.id)) { free_slots = rest }) n _
          (set_left_in a child _ same_left nothing) mine

      table_left : (fd : ℕ) (image : ImageRead) (f : OpenFile) → Left (table_read a n b it fd image f)
      table_left fd image f = if_left (is_table f image) _ _ (child_left fd image a.free_slots) (dropped_left fd (negated E_NOT_EXEC))

      piece_left : (fd : ℕ) (image : ImageRead) (child : ℕ) (pieces : List (List ℕ)) (f : OpenFile) (list : List Piece) →
          LeftIf (piece_asked a n b it fd image child pieces f list)
      piece_left fd image child pieces f [] = set_left _ (without fd)
      piece_left fd image child pieces f (piece ∷ rest) =
          ask_on (with_spawning b (loading fd image child pieces)) (act (read_file f.way piece.at piece.len) None) mine

      unborn_left : (fd child answer : ℕ) → Left (child_dropped a n b it fd child answer)
      unborn_left fd child answer =
          set_left_in (record (with_slot a child (free (slot_id (a.slots child)))) { free_slots = child ∷ a.free_slots }) n _
          (set_left_in a child _ same_left nothing) mine

      read_on : (fd : ℕ) (image : ImageRead) (child : ℕ) (pieces : List (List ℕ)) (f : OpenFile) (list : List Piece) (bytes : List ℕ) →
          LeftIf (piece_read a n b it fd image child pieces f list bytes)
      read_on fd image child pieces f [] bytes = record {}
      read_on fd image child pieces f (piece ∷ rest) bytes =
          if_some (length bytes == piece.len) _ _ (piece_left fd image child _ f rest) (unborn_left fd child (negated E_NOT_EXEC))

      file_left : (stage : Stage) (found : Spawning) (o : Option OpenFile) → LeftIf (file_step a n b regs it stage found o)
      file_left (replied bytes answer) (opening words) (Some f) = opened_left answer words f
      file_left (replied bytes answer) (heading fd words) (Some f) = header_left fd words bytes f
      file_left (replied bytes answer) (tabling fd words header) (Some f) = table_left fd (record { words = words; header = header; table = bytes }) f
      file_left (taking taken) (loading fd image child pieces) (Some f) = piece_left fd image child pieces f (pieces_left image pieces)
      file_left (replied bytes answer) (loading fd image child pieces) (Some f) =
          read_on fd image child pieces f (pieces_left image pieces) bytes
      file_left _ _ _ = record {}

      reading_left : (stage : Stage) (found : Spawning) → LeftIf (reading_step a n b regs it stage found)
      reading_left stage found = file_left stage found (file_in (object_of a b (descriptor_of found (answer_in stage))))

      birth_left : (image : ImageRead) (child : ℕ) (pieces : List (List ℕ)) → Left (child_born a n b regs image child pieces)
      birth_left image child pieces =
          set_left_in (with_slot a child (born (spawned b image pieces (slot_id (a.slots child))))) n _ (set_left_in a child _ same_left mine) mine

      -- an error that has come
      unread_left : (found : Spawning) (answer : ℕ) → LeftIf (unread_step a n b regs it found answer)
      unread_left (opening words) answer = set_left _ mine
      unread_left (heading fd words) answer = dropped_left fd answer
      unread_left (tabling fd words header) answer = dropped_left fd answer
      unread_left (loading fd image child pieces) answer = unborn_left fd child answer
      unread_left _ answer = record {}

      -- its steps
      going_left : (stage : Stage) (found : Spawning) → LeftIf (spawning_step a n b regs it argv stage found)
      going_left asked found = set_left _ mine
      going_left (taking taken) (listing name addresses) = listing_left name addresses taken
      going_left (taking taken) (quoting name left words) = quoting_left name left words taken
      going_left (replied bytes answer) found =
          if_some (is_count answer) _ _ (reading_left (replied bytes answer) found) (unread_left found answer)
      going_left (taking taken) (closed image child pieces) = birth_left image child pieces
      going_left (taking taken) (dropping fd answer) = dropped_left fd answer
      going_left (taking taken) (refusing answer) = set_left _ mine
      going_left stage found = reading_left stage found

      begun_path : (taken : List ℕ) → LeftIf (spawn_begun a n b regs it path argv taken)
      begun_path taken = path_left it path taken _ (λ name. address_left name [] [])

      at_found : (stage : Stage) (found : Option Spawning) → LeftIf (spawn_at a n b regs path argv stage found)
      at_found entered found = begun_path []
      at_found (gathering taken) found = begun_path taken
      at_found _ None = record {}
      at_found stage (Some found) = going_left stage found

      spawn_left : (stage : Stage) (found : Option Spawning) → LeftIf (spawn_step a n b regs path argv stage found)
      unfolding spawn_step
      spawn_left stage found = at_found stage found

    -- ---- any service

    call_left : (call : Service) (stage : Stage) → LeftIf (library_step a n b regs call stage)
    unfolding library_step
    call_left service.Exit stage = exit_left (lowest_open b)
    call_left (service.Cputs va len) stage = once_left stage _ (cputs_left va len)
    call_left service.GetId stage = once_left stage _ (set_left _ mine)
    call_left service.Yield stage = once_left stage _ (set_left _ mine)
    call_left service.Fork stage = fork_left stage
    call_left (service.Wait id) stage = only_left stage _ (wait_left id)
    call_left (service.PageNew va flags) stage = once_left stage _ (page_new_left va flags)
    call_left (service.PageDrop va) stage = once_left stage _ (page_drop_left va)
    call_left (service.Send id value va) stage = only_left stage _ (send_left id value va)
    call_left (service.Receive va from) stage = receive_step_left va from stage
    call_left (service.OpenFile path mode) stage = open_left (service.OpenFile path mode) path mode stage
    call_left (service.Close fd) stage = once_left stage _ (close_left fd)
    call_left (service.Read fd va len) stage = read_left (service.Read fd va len) fd va len stage
    call_left (service.Write fd va len) stage = write_left (service.Write fd va len) fd va len stage
    call_left (service.Seek fd offset) stage = seek_left (service.Seek fd offset) fd offset stage
    call_left (service.Stat fd va) stage = stat_left (service.Stat fd va) fd va stage
    call_left (service.SetSize fd size) stage = set_size_left (service.SetSize fd size) fd size stage
    call_left (service.Remove path) stage = remove_left (service.Remove path) path stage
    call_left service.Sync stage = sync_left service.Sync stage
    call_left (service.Dup old new) stage = once_left stage _ (dup_left old new)
    call_left service.Pipe stage = once_left stage _ (pipe_left (lowest_free b) (next_free b (lowest_free b)))
    call_left (service.Spawn path argv) stage = spawn_left path argv stage b.spawning
    call_left service.Unknown stage = once_left stage _ (set_left _ mine)

  -- ---- an instruction

  -- what comes of an instruction, after its writes
  event_left : (x : AbstractState) (b : Born) (ip : ℕ) (regs : Regs) (event : Event) → Left x →
      Fits a x.objects x.next_name b.descriptors → Left (after_event x n b ip regs event)
  event_left x b ip regs event h fits = by event
    where
      in_it : (slot : AbstractSlot) → FitsIn a x.objects x.next_name (born_in slot) → Left (with_slot x n slot)
      in_it slot kept = set_left_in x n slot h kept

      by : (e : Event) → Left (after_event x n b ip regs e)
      by Next = search (if_left, in_it, fits)
      by (Soft vector) = search (if_left, in_it, fits)
      by (Raised trap error va) = search (if_left, in_it, fits)

  writes_left : (x : AbstractState) (ip : ℕ) (regs : Regs) (event : Event) (o : Option Born) → Left x →
      FitsIn a x.objects x.next_name o → Left (after_writes x n ip regs event o)
  writes_left x ip regs event None h fits = h
  writes_left x ip regs event (Some b) h fits = event_left x b ip regs event h fits

  -- The memory of a guest, in a state that leaves what the file server has.
  record Spares (g : GuestMemory) : Type 0 where
    below : g.slot < NENV
    kept : Left g.state

  byte_spares : (g : GuestMemory) (va byte : ℕ) → Spares g →
      Spares (record g { state = guest_stored g.state g.slot (born_in (g.state.slots g.slot)) va byte })
  byte_spares g va byte h = by (born_in (g.state.slots g.slot)) (h.kept.holders g.slot h.below)
    where
      by : (o : Option Born) → FitsIn a g.state.objects g.state.next_name o → Spares (record g { state = guest_stored g.state g.slot o va byte })
      by None fits = record { below = h.below; kept = h.kept }
      by (Some b) fits = record { below = h.below; kept = page_left g.state g.slot b va byte (page_at b va) h.kept fits }

  spared : Agrees guest_memory guest_memory (λ g. g) Spares
  unfolding guest_memory
  spared = record {
    byte = λ g h va. refl;
    allowed = λ g h va access. refl;
    fault = λ g h va access off. refl;
    reached = λ g h va access on. (h, refl);
    stored = λ g h va byte below. (byte_spares g va byte h, refl);
  }

  -- ---- any step

  guest_left : (regs : Regs) → Left (guest_step a n regs)
  unfolding guest_step
  guest_left regs =
      let start : GuestMemory = record { state = a; slot = n } in
      let s = step_of guest_memory regs start Run in
      let h : Spares s.memory = (step_through spared regs start Run (record { below = small; kept = same_left })).0 in
      writes_left s.memory.state regs.eip s.regs s.event (born_in (s.memory.state.slots n)) h.kept (h.kept.holders n small)

  module _ (b : Born) (at : a.slots n ≡ born b) where
    program_left : (program : ProgramState) (phase : Phase) → LeftIf (program_step a n b program phase)
    program_left (guest regs) at_guest = guest_left regs
    program_left (guest regs) (faulted va ip) = set_left _ nothing
    program_left (guest regs) (in_service call stage) = call_left b at regs call stage
    program_left (shell place) phase = record {}

  -- ---- as it is stated

  held_after : (x : AbstractState) → Left x → (name : ℕ) → is_held x name ≡ true → MayHold a x.objects x.next_name name
  held_after x h name held =
      let slot = some-passes NENV (λ k. holds_in (born_in (x.slots k)) name) held in
      by (born_in (x.slots slot.0)) (h.holders slot.0 slot.1) slot.2
    where
      by : (o : Option Born) → FitsIn a x.objects x.next_name o → holds_in o name ≡ true → MayHold a x.objects x.next_name name
      by None fits holds = absurd (cc)
      by (Some b) fits holds =
          let fd = some-passes DESCRIPTORS (λ k. is_name (b.descriptors k) name) holds in
          fits.each fd.0 fd.1 name (named-so (b.descriptors fd.0) name fd.2)

  asked_after : (x : AbstractState) → Asked a n x.server → AsksOrLeaves a x n
  asked_after x (still e) = leaves e
  asked_after x (asking request e is) = asks request e is

  abbrev Stated : AbstractState → Type 0
  Stated x = LeavesFiles a x × AsksOrLeaves a x n

  stated : (r : Option AbstractState) → LeftIf r → IfSome r Stated
  stated None h = record {}
  stated (Some x) h = (
    record { files = h.files_are; opened = h.opened_are; names = h.names; objects = h.objects_are; held = held_after x h; ends = h.ends_are; pages = h.pages_are },
    asked_after x h.server_is,
  )

pub clients_leave_files : ClientsLeaveFiles
unfolding abs_step
clients_leave_files a n b small at =
    let h : LeftIf a n small (program_step a n b b.program b.phase) = program_left a n small b at b.program b.phase in
    subst (λ (slot : AbstractSlot). IfSome (slot_step a n slot) (Stated a n small)) (sym at)
    (stated a n small (if b.blocked then None else program_step a n b b.program b.phase)
    (if_some a n small b.blocked None _ (record {}) h))
