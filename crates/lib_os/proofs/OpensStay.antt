-- Names are given in order, and what the file server has opened is nobody's until its reply, whatever slot makes a step.
use Rattle.std.proofs.Common.{◌≡◌, ◌∙◌, ◌⊎◌, inl, inr, ◌≤◌, ◌<◌, ℕ, ◌+◌, ◌==◌, arith, Bool, true, false, List, [], refl, sym, ap, subst}
use Rattle.std.proofs.Common.{if◌then◌else◌}
use Rattle.std.proofs.lemmas.Bool.{cases_eq}
use Rattle.std.proofs.lemmas.Option.{none-some, same_Some}
use Rattle.std.specs.Prelude.{Option, Some, None, IfSome}
use Rattle.jos_base.specs.declared.numbers.TheConstants.{NENV}
use Rattle.jos_base.specs.Below.{some_below}
use Rattle.jos_base.specs.Words.{upd}
use Rattle.jos_base.proofs.Below.{some_below-at}
use Rattle.jos_base.proofs.Maps.{upd-all, upd-at, upd-other}
use Rattle.fs_layout.specs.FileTree.{FileAct, FileSystem, file_size, open_path, read_file, remove_path, set_file_size, stat_file}
use Rattle.fs_layout.specs.FileTree.{sync_files, write_file}
use Rattle.fs_layout.specs.FileActs.{Acted}
use Rattle.lib_os.specs.declared.numbers.TheConstants.{DESCRIPTORS}
use Rattle.lib_os.specs.declared.service.Service.{Service}
use Rattle.lib_os.specs.AbstractLaws.{AsksOrLeaves, IsNewName, IsNobodys, LeavesFiles, OpensNobodys, asks, leaves, opened_by}
use Rattle.lib_os.specs.AbstractRun.{pipe_of}
use Rattle.lib_os.specs.AbstractState.{AbstractSlot, AbstractState, Born, Object, OpenFile, Phase, Request, Server, act, acted, awaiting, born, busy, file, idle}
use Rattle.lib_os.specs.AbstractState.{in_service, leaving, looking, replied, seek}
use Rattle.lib_os.specs.Descriptors.{holds_in, is_held, is_name, lowest_free}
use Rattle.lib_os.specs.FileServer.{act_done, after_act, file_opened, given, is_count, looked, moved_on, reply, reply_at, reply_to, request_begun, served}
use Rattle.lib_os.specs.FileServer.{with_offset_of}
use Rattle.lib_os.specs.GuestStep.{born_in}
use Rattle.lib_os.proofs.FilesLeft.{named-so, some-passes}

-- ---- a client's step

begun_opens : (n : ℕ) (request : Request) → opened_by (request_begun n request) ≡ None
begun_opens n (act (open_path path mode) object) = refl
begun_opens n (act (read_file way offset len) object) = refl
begun_opens n (act (write_file way offset bytes) object) = refl
begun_opens n (act (set_file_size way size) object) = refl
begun_opens n (act (stat_file way) object) = refl
begun_opens n (act (remove_path path) object) = refl
begun_opens n (act sync_files object) = refl
begun_opens n (seek name offset) = refl

module _ (a b : AbstractState) (n : ℕ) (h : OpensNobodys a) (left : LeavesFiles a b) where
  -- what was nobody's is so
  still_nobodys : (name : ℕ) → IsNobodys a name → IsNobodys b name
  still_nobodys name was = record {
    old = let more = left.names in let below = was.old in omega (arith, more, below);
    page = left.pages name (inl was.old) was.page;
    ends = λ end is. elim (left.ends end name is) [
      | inl same ↦ was.ends end same
      | inr new ↦ let least = new.0 in let below = was.old in omega (arith, least, below)
    ];
    held = by_held (is_held b name) refl;
  }
    where
      by_held : (t : Bool) → is_held b name ≡ t → t ≡ false
      by_held false is = refl
      by_held true is = elim (left.held name is) [
        | inl held ↦ sym held ∙ was.held
        | inr new ↦ absurd (let least : a.next_name ≤ name = new.0 in let below = was.old in omega (arith, least, below))
      ]

  opens_left : AsksOrLeaves a b n → OpensNobodys b
  opens_left how = record {
    pages = λ name above.
        let more = left.names in
        left.pages name (inr above) (h.pages name (omega (arith, more, above)));
    held = λ name is. by_held name (left.held name is);
    ends = λ end pipe is. elim (left.ends end pipe is) [
      | inl same ↦ let more = left.names in let below = h.ends end pipe same in omega (arith, more, below)
      | inr new ↦ new.1
    ];
    opened = by_server how;
  }
    where
      by_held : (name : ℕ) → (is_held a name ≡ true) ⊎ IsNewName a b name → name < b.next_name
      by_held name (inl held) = let more = left.names in let below = h.held name held in omega (arith, more, below)
      by_held name (inr new) = new.1

      by_server : AsksOrLeaves a b n → (name : ℕ) → opened_by b.server ≡ Some name → IsNobodys b name
      by_server (leaves same) name is = still_nobodys name (h.opened name (ap (λ (x : Server). opened_by x) (sym same) ∙ is))
      by_server (asks request was now) name is =
          absurd (none-some name (sym (begun_opens n request) ∙ ap (λ (x : Server). opened_by x) (sym now) ∙ is))

pub opens_by_client : (a b : AbstractState) (n : ℕ) → OpensNobodys a → LeavesFiles a b → AsksOrLeaves a b n → OpensNobodys b
opens_by_client a b n h left how = opens_left a b n h left how

-- ---- the server's step

module _ (a : AbstractState) (h : OpensNobodys a) where
  -- The slots and the pages are as they were; and no name was given, or one, to what it has opened.
  record Keeps (slots : ℕ → AbstractSlot) (shared : ℕ → List ℕ) (next : ℕ) (server : Server) (objects : ℕ → Object) : Type 0 where
    slots_are : slots ≡ a.slots
    shared_are : shared ≡ a.shared
    ends_are : (end pipe : ℕ) → pipe_of (Some (objects end)) ≡ Some pipe → pipe_of (Some (a.objects end)) ≡ Some pipe
    names : ((next ≡ a.next_name) × (opened_by server ≡ None)) ⊎ ((next ≡ a.next_name + 1) × (opened_by server ≡ Some a.next_name))

  abbrev Kept : AbstractState → Type 0
  Kept x = Keeps x.slots x.shared x.next_name x.server x.objects

  held_still : (x : AbstractState) → x.slots ≡ a.slots → (name : ℕ) → is_held x name ≡ is_held a name
  held_still x same name = ap (λ (slots : ℕ → AbstractSlot). some_below NENV (λ k. holds_in (born_in (slots k)) name)) same

  nobody_has : (t : Bool) → is_held a a.next_name ≡ t → t ≡ false
  nobody_has false is = refl
  nobody_has true is = absurd (let less : a.next_name < a.next_name = h.held a.next_name is in omega (arith, less))

  kept_opens : (x : AbstractState) → Kept x → OpensNobodys x
  kept_opens x k = by_names k.names
    where
      page_none : (name : ℕ) → a.next_name ≤ name → x.shared name ≡ []
      page_none name above = ap (λ (f : ℕ → List ℕ). f name) k.shared_are ∙ h.pages name above

      below : a.next_name ≤ x.next_name → (name : ℕ) → is_held x name ≡ true → name < x.next_name
      below more name is = let less = h.held name (sym (held_still x k.slots_are name) ∙ is) in omega (arith, more, less)

      by_names : ((x.next_name ≡ a.next_name) × (opened_by x.server ≡ None))
          ⊎ ((x.next_name ≡ a.next_name + 1) × (opened_by x.server ≡ Some a.next_name)) → OpensNobodys x
      by_names (inl (same, none)) = record {
        pages = λ name above. page_none name (omega (arith, same, above));
        held = below (omega (arith, same));
        ends = λ end pipe is. let less = h.ends end pipe (k.ends_are end pipe is) in omega (arith, same, less);
        opened = λ name is. absurd (none-some name (sym none ∙ is));
      }
      by_names (inr (one, some)) = record {
        pages = λ name above. page_none name (omega (arith, one, above));
        held = below (omega (arith, one));
        ends = λ end pipe is. let less = h.ends end pipe (k.ends_are end pipe is) in omega (arith, one, less);
        opened = λ name is.
            subst (λ (m : ℕ). IsNobodys x m) (same_Some a.next_name name (sym some ∙ is)) (record {
              old = omega (arith, one);
              page = page_none a.next_name (omega arith);
              ends = λ end is. let less = h.ends end a.next_name (k.ends_are end a.next_name is) in omega (arith, less);
              held = held_still x k.slots_are a.next_name ∙ nobody_has (is_held a a.next_name) refl;
            });
      }

  same_kept : (server : Server) → opened_by server ≡ None → Keeps a.slots a.shared a.next_name server a.objects
  same_kept server none = record { slots_are = refl; shared_are = refl; ends_are = λ end pipe is. is; names = inl (refl, none) }

  -- a file is no end
  file_at : (objects : ℕ → Object) → ((end pipe : ℕ) → pipe_of (Some (objects end)) ≡ Some pipe → pipe_of (Some (a.objects end)) ≡ Some pipe) →
      (name : ℕ) (f : OpenFile) (end pipe : ℕ) → pipe_of (Some (upd objects name (file f) end)) ≡ Some pipe → pipe_of (Some (a.objects end)) ≡ Some pipe
  file_at objects are name f =
      upd-all (λ end (o : Object). (pipe : ℕ) → pipe_of (Some o) ≡ Some pipe → pipe_of (Some (a.objects end)) ≡ Some pipe) objects name (file f)
      (λ pipe is. absurd (none-some pipe is)) (λ end ne. are end)

  if_kept : (c : Bool) (x y : AbstractState) → Kept x → Kept y → Kept (if c then x else y)
  if_kept true x y k l = k
  if_kept false x y k l = l

  module _ (client : ℕ) where
    looked_kept : (request : Request) (k : ℕ) → Kept (looked a client request k)
    looked_kept request k = search (if_kept, same_kept)

    offset_kept : (x : AbstractState) (name offset : ℕ) (object : Object) → Kept x → Kept (with_offset_of x name offset object)
    offset_kept x name offset (file f) k = record {
      slots_are = k.slots_are;
      shared_are = k.shared_are;
      ends_are = file_at x.objects k.ends_are name (record f { offset = offset });
      names = k.names;
    }
    offset_kept x name offset _ k = k

    moved_kept : (x : AbstractState) (object : Option ℕ) (answer : ℕ) → Kept x → Kept (moved_on x object answer)
    moved_kept x None answer k = k
    moved_kept x (Some name) answer k = if_kept (is_count answer) _ _ (offset_kept x name _ (x.objects name) k) k

    opened_kept : (files : FileSystem) (answer : ℕ) (place : Option ℕ) (way : Option (List ℕ)) (mode : ℕ) →
        Kept (file_opened (record a { files = files }) client answer place way mode)
    opened_kept files answer place None mode = same_kept _ refl
    opened_kept files answer None (Some way) mode = same_kept _ refl
    opened_kept files answer (Some k) (Some way) mode = record {
      slots_are = refl;
      shared_are = refl;
      ends_are = file_at a.objects (λ end pipe is. is) a.next_name (record { way = way; offset = 0; mode = mode; size = file_size files way });
      names = inr (refl, refl);
    }

    act_kept : (request : FileAct) (object place : Option ℕ) (did : Acted) → Kept (after_act a client request object place did)
    act_kept (open_path path mode) object place did = if_kept (did.answer == 0) _ _ (opened_kept did.files 0 place _ _) (same_kept _ refl)
    act_kept (read_file way offset len) object place did = moved_kept _ object did.answer (same_kept _ refl)
    act_kept (write_file way offset bytes) object place did = moved_kept _ object did.answer (same_kept _ refl)
    act_kept (set_file_size way size) object place did = moved_kept _ object did.answer (same_kept _ refl)
    act_kept (stat_file way) object place did = moved_kept _ object did.answer (same_kept _ refl)
    act_kept (remove_path path) object place did = moved_kept _ object did.answer (same_kept _ refl)
    act_kept sync_files object place did = moved_kept _ object did.answer (same_kept _ refl)

    done_kept : (request : Request) (place : Option ℕ) → Kept (act_done a client request place)
    done_kept (act request object) place = act_kept request object place _
    done_kept (seek name offset) place = offset_kept (record a { server = acted client 0 [] None }) name offset (a.objects name) (same_kept _ refl)

  -- ---- the reply

  -- the client has the descriptors that it had, and perhaps one for what was opened
  module _ (client answer : ℕ) (bytes : List ℕ) (object : Option ℕ) (is : a.server ≡ acted client answer bytes object) where
    module _ (c : Born) (at : born_in (a.slots client) ≡ Some c) (service : Service) where
      abbrev behind : Option ℕ → AbstractState
      behind o = reply_to a client service bytes (given c object o answer)

      clients_old : (name : ℕ) → client < NENV → holds_in (Some c) name ≡ true → name < a.next_name
      clients_old name below holds =
          h.held name (some_below-at (λ k. holds_in (born_in (a.slots k)) name) NENV client below (ap (λ (o : Option Born). holds_in o name) at ∙ holds))

      its_old : (object : Option ℕ) → ((name : ℕ) → object ≡ Some name → name < a.next_name) → (o : Option ℕ) (name : ℕ) → client < NENV →
          holds_in (Some (given c object o answer).0) name ≡ true → name < a.next_name
      its_old None old o name below holds = clients_old name below holds
      its_old (Some new) old None name below holds = clients_old name below holds
      its_old (Some new) old (Some fd) name below holds =
          let found = some-passes DESCRIPTORS (λ k. is_name (upd c.descriptors fd (Some new) k) name) holds in
          by_number found.0 found.1 found.2
        where
          by_number : (k : ℕ) → k < DESCRIPTORS → is_name (upd c.descriptors fd (Some new) k) name ≡ true → name < a.next_name
          by_number k less names = elim (cases_eq k fd) [
            | inl same ↦
                let there : upd c.descriptors fd (Some new) k ≡ Some new =
                ap (upd c.descriptors fd (Some new)) same ∙ upd-at c.descriptors fd (Some new) in
                subst (λ (m : ℕ). m < a.next_name)
                (same_Some new name (sym there ∙ named-so (upd c.descriptors fd (Some new) k) name names)) (old new refl)
            | inr ne ↦
                clients_old name below
                (some_below-at (λ q. is_name (c.descriptors q) name) DESCRIPTORS k less
                (ap (λ (o : Option ℕ). is_name o name) (sym (upd-other c.descriptors fd (Some new) k ne)) ∙ names))
          ]

      abbrev there : Option ℕ → AbstractSlot
      there o =
          born
          (record (given c object o answer).0 { phase = in_service service (replied bytes (given c object o answer).1); blocked = false })

      all_old : (o : Option ℕ) (name : ℕ) → is_held (behind o) name ≡ true → name < a.next_name
      all_old o name held =
          let found = some-passes NENV (λ n. holds_in (born_in ((behind o).slots n)) name) held in by_slot found.0 found.1 found.2
        where
          by_slot : (n : ℕ) → n < NENV → holds_in (born_in (upd a.slots client (there o) n)) name ≡ true → name < a.next_name
          by_slot n below holds = elim (cases_eq n client) [
            | inl same ↦
                let slot_is : upd a.slots client (there o) n ≡ there o = ap (upd a.slots client (there o)) same ∙ upd-at a.slots client (there o) in
                its_old object (λ new so. (h.opened new (ap (λ (x : Server). opened_by x) is ∙ so)).old) o name
                (subst (λ (k : ℕ). k < NENV) same below) (sym (ap (λ (x : AbstractSlot). holds_in (born_in x) name) slot_is) ∙ holds)
            | inr ne ↦
                h.held name (some_below-at (λ k. holds_in (born_in (a.slots k)) name) NENV n below
                (ap (λ (x : AbstractSlot). holds_in (born_in x) name) (sym (upd-other a.slots client (there o) n ne)) ∙ holds))
          ]

      reply_opens : (o : Option ℕ) → OpensNobodys (behind o)
      reply_opens o = record { pages = h.pages; held = all_old o; ends = h.ends; opened = λ name so. absurd (none-some name so) }

    phase_opens : (c : Born) → born_in (a.slots client) ≡ Some c → (p : Phase) → IfSome (reply_at a client c answer bytes object p) OpensNobodys
    phase_opens c at (in_service service awaiting) = reply_opens c at service (lowest_free c)
    phase_opens c at _ = record {}

    client_opens : (o : Option Born) → born_in (a.slots client) ≡ o → IfSome (reply a client answer bytes object o) OpensNobodys
    client_opens None at = kept_opens (record a { server = leaving }) (same_kept leaving refl)
    client_opens (Some c) at = phase_opens c at c.phase

  pub opens_by_server : (server : Server) → a.server ≡ server → IfSome (served a server) OpensNobodys
  opens_by_server leaving is = kept_opens (record a { server = idle }) (same_kept idle refl)
  opens_by_server idle is = record {}
  opens_by_server (looking client request k) is = kept_opens _ (looked_kept client request k)
  opens_by_server (busy client request place) is = kept_opens _ (done_kept client request place)
  opens_by_server (acted client answer bytes object) is = client_opens client answer bytes object is (born_in (a.slots client)) refl
