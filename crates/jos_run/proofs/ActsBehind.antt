-- What the abstract file server's step leaves where it makes an act or looks for a place: the environments and the console, and whom it serves. And
-- where bytes are handed back, the page is there in which they are.
use Rattle.std.proofs.Common.{◌≡◌, ◌==◌, ◌+◌, ◌∙◌, ℕ, Bool, true, false, not, nat_lt, List, [], ◌∷◌, Option, Some, None, refl, sym, ap, subst}
use Rattle.std.proofs.Common.{if◌then◌else◌}
use Rattle.std.proofs.lemmas.Option.{same_Some}
use Rattle.jos_base.specs.declared.numbers.TheConstants.{E_MAX_OPEN}
use Rattle.jos_base.specs.KernelState.{KernelState}
use Rattle.jos_base.specs.Words.{negated, upd}
use Rattle.fs_layout.specs.FileActs.{Acted, file_act, file_named}
use Rattle.fs_layout.specs.FileTree.{FileSystem, open_path, read_file, remove_path, set_file_size, stat_file, sync_files, write_file}
use Rattle.lib_os.specs.declared.numbers.TheConstants.{MAXOPEN}
use Rattle.lib_os.specs.AbstractLaws.{client_served}
use Rattle.lib_os.specs.AbstractState.{AbstractState, Object, Request, Server, act, acted, busy, file, idle, leaving, looking, read_end, seek, terminal}
use Rattle.lib_os.specs.AbstractState.{write_end}
use Rattle.lib_os.specs.FileServer.{act_done, after_act, file_opened, is_count, is_file_open, is_held_by, looked, low_mode, moved_on, offset_in, served}
use Rattle.lib_os.specs.FileServer.{server_step, with_offset, with_offset_of}
use Rattle.fs_serving.specs.ServerRuns.{is_acting}
use Rattle.fs_seen.specs.ServerMemory.{sends_page}
use Rattle.jos_run.specs.ServerStands.{HasLent, IsLent, IsLentBy}

-- ---- an offset is another

pub record SameBut (a b : AbstractState) : Type 0 where
  pub slots : b.slots ≡ a.slots
  pub console : b.console ≡ a.console
  pub server : b.server ≡ a.server

offset_same : (a : AbstractState) (name offset : ℕ) → SameBut a (with_offset a name offset)
offset_same a name offset = by_object (a.objects name)
  where
    by_object : (object : Object) → SameBut a (with_offset_of a name offset object)
    by_object (file f) = record { slots = refl; console = refl; server = refl }
    by_object terminal = record { slots = refl; console = refl; server = refl }
    by_object (read_end pipe) = record { slots = refl; console = refl; server = refl }
    by_object (write_end pipe) = record { slots = refl; console = refl; server = refl }

moved_same : (a : AbstractState) (object : Option ℕ) (answer : ℕ) → SameBut a (moved_on a object answer)
moved_same a None answer = record { slots = refl; console = refl; server = refl }
moved_same a (Some name) answer = by_test (is_count answer)
  where
    by_test : (t : Bool) → SameBut a (if t then with_offset a name (offset_in (a.objects name) + answer) else a)
    by_test true = offset_same a name (offset_in (a.objects name) + answer)
    by_test false = record { slots = refl; console = refl; server = refl }

-- ---- the step

-- whatever bytes are handed back
acted_lent : (s : KernelState) (client answer : ℕ) (bytes : List ℕ) (object : Option ℕ) → IsLent s client → HasLent (acted client answer bytes object) s
acted_lent s client answer [] object lent = tt
acted_lent s client answer (byte ∷ bytes) object lent = lent

-- It serves the client on, to whom bytes are handed back in the page that it has lent.
pub record ActsOn (a b : AbstractState) (client : ℕ) (sends : Bool) : Type 0 where
  pub slots : b.slots ≡ a.slots
  pub console : b.console ≡ a.console
  pub serves : client_served b.server ≡ Some client
  pub lent : (s : KernelState) → IsLentBy sends s client → HasLent b.server s

sync_bytes : (is_open : List ℕ → Bool) (files : FileSystem) → (file_act is_open files sync_files).bytes ≡ []
unfolding file_act
sync_bytes is_open files = refl

module _ (a : AbstractState) (client : ℕ) where
  looked_on : (request : Request) (place : ℕ) → ActsOn a (looked a client request place) client (sends_page request)
  looked_on request place = by_tests (not (is_held_by a (a.opened place).held_by)) (nat_lt (place + 1) MAXOPEN)
    where
      by_tests : (t u : Bool) →
          ActsOn a (if t
          then record a { opened = upd a.opened place (record { held_by = None; used = true }); server = busy client request (Some place) }
          else if u then record a { server = looking client request (place + 1) } else record a { server = acted client (negated E_MAX_OPEN) [] None })
          client (sends_page request)
      by_tests true u = record { slots = refl; console = refl; serves = refl; lent = λ s lent. lent }
      by_tests false true = record { slots = refl; console = refl; serves = refl; lent = λ s lent. lent }
      by_tests false false = record { slots = refl; console = refl; serves = refl; lent = λ s lent. tt }

  opened_on : (files : FileSystem) (sends : Bool) (place : Option ℕ) (way : Option (List ℕ)) (mode : ℕ) →
      ActsOn a (file_opened (record a { files = files }) client 0 place way mode) client sends
  opened_on files sends place None mode = record { slots = refl; console = refl; serves = refl; lent = λ s lent. tt }
  opened_on files sends None (Some way) mode = record { slots = refl; console = refl; serves = refl; lent = λ s lent. tt }
  opened_on files sends (Some k) (Some way) mode = record { slots = refl; console = refl; serves = refl; lent = λ s lent. tt }

  open_on : (path : List ℕ) (mode : ℕ) (object place : Option ℕ) (did : Acted) → ActsOn a (after_act a client (open_path path mode) object place did) client true
  open_on path mode object place did = by_test (did.answer == 0)
    where
      by_test : (t : Bool) →
          ActsOn a (if t then file_opened (record a { files = did.files }) client 0 place (file_named did.files path) (low_mode mode)
          else record a { files = did.files; server = acted client did.answer [] None }) client true
      by_test true = opened_on did.files true place (file_named did.files path) (low_mode mode)
      by_test false = record { slots = refl; console = refl; serves = refl; lent = λ s lent. tt }

  -- the offset goes on behind it
  moved_on_so : (sends : Bool) (object : Option ℕ) (did : Acted) →
      ((s : KernelState) → IsLentBy sends s client → HasLent (acted client did.answer did.bytes None) s) →
      ActsOn a (moved_on (record a { files = did.files; server = acted client did.answer did.bytes None }) object did.answer) client sends
  moved_on_so sends object did lent =
      let same = moved_same (record a { files = did.files; server = acted client did.answer did.bytes None }) object did.answer in
      record {
        slots = same.slots;
        console = same.console;
        serves = ap client_served same.server;
        lent = λ s given. subst (λ (x : Server). HasLent x s) (sym same.server) (lent s given);
      }

  did_on : (object : Option ℕ) (did : Acted) →
      ActsOn a (moved_on (record a { files = did.files; server = acted client did.answer did.bytes None }) object did.answer) client true
  did_on object did = moved_on_so true object did (λ s lent. acted_lent s client did.answer did.bytes None lent)

  done_on : (request : Request) (place : Option ℕ) → ActsOn a (act_done a client request place) client (sends_page request)
  done_on (act (open_path path mode) object) place = open_on path mode object place (file_act (is_file_open a) a.files (open_path path mode))
  done_on (act (read_file way at count) object) place = did_on object (file_act (is_file_open a) a.files (read_file way at count))
  done_on (act (write_file way at bytes) object) place = did_on object (file_act (is_file_open a) a.files (write_file way at bytes))
  done_on (act (set_file_size way size) object) place = did_on object (file_act (is_file_open a) a.files (set_file_size way size))
  done_on (act (stat_file way) object) place = did_on object (file_act (is_file_open a) a.files (stat_file way))
  done_on (act (remove_path path) object) place = did_on object (file_act (is_file_open a) a.files (remove_path path))
  done_on (act sync_files object) place =
      let did : Acted = file_act (is_file_open a) a.files sync_files in
      moved_on_so false object did
      (λ s none. subst (λ (bytes : List ℕ). HasLent (acted client did.answer bytes None) s) (sym (sync_bytes (is_file_open a) a.files)) tt)
  done_on (seek name offset) place =
      let same = offset_same (record a { server = acted client 0 [] None }) name offset in
      record {
        slots = same.slots;
        console = same.console;
        serves = ap client_served same.server;
        lent = λ s given. subst (λ (x : Server). HasLent x s) (sym same.server) tt;
      }

-- so it is, by what the server does
pub record StaysBehind (a b : AbstractState) : Type 0 where
  pub slots : b.slots ≡ a.slots
  pub console : b.console ≡ a.console
  pub serves : client_served b.server ≡ client_served a.server
  pub lent : (s : KernelState) → HasLent a.server s → HasLent b.server s

pub acts_on : (a b : AbstractState) → is_acting a.server ≡ true → server_step a ≡ Some b → StaysBehind a b
unfolding server_step
acts_on a b acts is = by_server a.server refl acts is
  where
    so : (server : Server) (client : ℕ) (request : Request) (after : AbstractState) → a.server ≡ server → client_served server ≡ Some client →
        ((s : KernelState) → HasLent server s → IsLentBy (sends_page request) s client) → ActsOn a after client (sends_page request) →
        Some after ≡ Some b → StaysBehind a b
    so server client request after same served_is lent on some =
        subst (λ (z : AbstractState). StaysBehind a z) (same_Some after b some) (record {
          slots = on.slots;
          console = on.console;
          serves = on.serves ∙ sym served_is ∙ ap client_served (sym same);
          lent = λ s given. on.lent s (lent s (subst (λ (x : Server). HasLent x s) same given));
        })

    by_server : (server : Server) → a.server ≡ server → is_acting server ≡ true → served a server ≡ Some b → StaysBehind a b
    by_server (looking client request place) same acts some =
        so (looking client request place) client request (looked a client request place) same refl (λ s lent. lent) (looked_on a client request place) some
    by_server (busy client request place) same acts some =
        so (busy client request place) client request (act_done a client request place) same refl (λ s lent. lent) (done_on a client request place) some
    by_server leaving same acts some = absurd (let contradiction : false ≡ true = acts in cc)
    by_server idle same acts some = absurd (let contradiction : false ≡ true = acts in cc)
    by_server (acted client answer bytes object) same acts some = absurd (let contradiction : false ≡ true = acts in cc)
