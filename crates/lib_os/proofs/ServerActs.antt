-- The steps of the file server that only the abstract state makes: it looks at a place of the table of open files, it has acted on the files, or it
-- has opened one. The files have as many blocks as before, and the kernel's state, which is the same, stands for the abstract one behind the step,
-- where no object's offset moves.
use Rattle.std.proofs.Common.{◌≡◌, ◌≢◌, ◌∙◌, ◌+◌, ◌-◌, ◌%◌, ◌<◌, ◌==◌, ◌&&◌, ◌||◌, ℕ, Bool, true, false, not, List, [], ◌∷◌, length, nat_le, nat_lt}
use Rattle.std.proofs.Common.{Option, Some, None, inl, inr, refl, sym, ap, subst, arith, if◌then◌else◌}
use Rattle.std.proofs.lemmas.Bool.{cases_eq}
use Rattle.std.proofs.lemmas.Bool.Decides.{nat_tests}
use Rattle.std.proofs.lemmas.Option.{none-some, same_Some}
use Rattle.jos_base.specs.declared.numbers.TheConstants.{E_MAX_OPEN, FDTABLE, NENV}
use Rattle.jos_base.specs.Environments.{Slot, is_live}
use Rattle.jos_base.specs.KernelState.{KernelState, slot_at}
use Rattle.jos_base.specs.Reach.{Entry}
use Rattle.jos_base.specs.Words.{has_bit, negated, page_number, upd}
use Rattle.jos_base.proofs.Below.{some_below-at}
use Rattle.jos_base.proofs.Maps.{upd-all, upd-other}
use Rattle.fs_layout.specs.declared.numbers.TheConstants.{MAXFILESIZE, O_CREAT, O_EXCL, O_TRUNC}
use Rattle.fs_layout.specs.FileActs.{Acted, Looked, bad_path, create_in, file_act, file_named, look_up, missing, nowhere, on_file, open_act}
use Rattle.fs_layout.specs.FileActs.{open_looked, open_there, read_act, remove_act, remove_looked, set_size_act, set_size_to, stat_act, stat_of}
use Rattle.fs_layout.specs.FileActs.{there, with_new_file, write_act, write_to}
use Rattle.fs_layout.specs.FileTree.{FileAct, FileSystem, NamedNode, Node, a_directory, a_file, named_at, node_at, open_path, read_file, remove_path}
use Rattle.fs_layout.specs.FileTree.{directory_size, file_size, listed, set_file_size, stat_file, sync_files, write_file}
use Rattle.lib_os.specs.declared.numbers.TheConstants.{DESCRIPTORS, DISKMAP, MAXOPEN, OPEN_RECORDS, REQUEST}
use Rattle.lib_os.specs.AbstractState.{AbstractSlot, AbstractState, Born, Object, OpenFile, Request, Server, TablePlace, act, acted, born, busy, file}
use Rattle.lib_os.specs.AbstractState.{free, idle, leaving, looking, read_end, seek, serving, terminal, unborn, write_end}
use Rattle.lib_os.specs.DescriptorPages.{HasObject, Things, number_of}
use Rattle.lib_os.specs.Descriptors.{holds_in, is_held, is_name}
use Rattle.lib_os.specs.FileServer.{act_done, file_opened, is_count, is_file_open, is_held_by, looked, low_mode, moved_on, offset_in}
use Rattle.lib_os.specs.FileServer.{served, server_step, with_offset}
use Rattle.lib_os.specs.GuestStep.{born_in}
use Rattle.lib_os.specs.Rows.{AreNamed, IsNamed, Names, ShowsBy, descriptor_page, is_of_descriptor, logical, rows_of, is_clients, is_pipe_page, is_shared}
use Rattle.lib_os.specs.StandsFor.{IsServerStatus, StandsFor, StandsForSlot, is_servers_page, things_in}
use Rattle.lib_os.specs.PipeEnds.{EndsStandAt, is_made}
use Rattle.lib_os.specs.Places.{place_of}
use Rattle.lib_os.specs.AbstractRun.{pipe_of}
use Rattle.lib_os.proofs.DescriptorWords.{file_beside}
use Rattle.lib_os.proofs.Holders.{logical_unmade, second_so, stands_named}
use Rattle.lib_os.proofs.PipesStand.{ends_moved, same_places}
use Rattle.lib_os.proofs.FilesLeft.{name-same}
use Rattle.lib_os.proofs.Logical.{clients_are, logical_of}
use Rattle.lib_os.proofs.ServerReplies.{server_goes_on, status_at}
use Rattle.lib_os.proofs.Children.{IsOfParent, of_parent}

-- ---- an act leaves as many blocks

-- one way or the other
either_way : (t : Bool) (files : FileSystem) (x y : Acted) → x.files.blocks ≡ files.blocks → y.files.blocks ≡ files.blocks →
    (if t then x else y).files.blocks ≡ files.blocks
either_way true files x y first second = first
either_way false files x y first second = second

on_file_stay : (files : FileSystem) (o : Option Node) (by : List ℕ → Bool → Acted) →
    ((bytes : List ℕ) (indirect : Bool) → (by bytes indirect).files.blocks ≡ files.blocks) → (on_file files o by).files.blocks ≡ files.blocks
on_file_stay files None by each = refl
on_file_stay files (Some (a_directory records indirect)) by each = refl
on_file_stay files (Some (a_file bytes indirect)) by each = each bytes indirect

write_stay : (files : FileSystem) (way : List ℕ) (at : ℕ) (new bytes : List ℕ) (indirect : Bool) →
    (write_to files way at new bytes indirect).files.blocks ≡ files.blocks
write_stay files way at [] bytes indirect = refl
write_stay files way at (byte ∷ rest) bytes indirect =
    either_way (nat_lt MAXFILESIZE (at + length (byte ∷ rest))) files _ _ refl (either_way _ files _ _ refl refl)

size_stay : (files : FileSystem) (way : List ℕ) (size : ℕ) (bytes : List ℕ) (indirect : Bool) →
    (set_size_to files way size bytes indirect).files.blocks ≡ files.blocks
size_stay files way size bytes indirect = either_way (nat_lt MAXFILESIZE size) files _ _ refl (either_way _ files _ _ refl refl)

stat_stay : (files : FileSystem) (o : Option NamedNode) → (stat_of files o).files.blocks ≡ files.blocks
stat_stay files None = refl
stat_stay files (Some named) = on_file_stay files (Some named.node) _ (λ bytes indirect. refl)

create_stay : (files : FileSystem) (way : List ℕ) (directory : Node) (name : List ℕ) →
    (create_in files way directory name).files.blocks ≡ files.blocks
create_stay files way (a_directory records indirect) name =
    either_way (nat_lt MAXFILESIZE (directory_size (with_new_file name (listed records)))) files _ _ refl (either_way _ files _ _ refl refl)
create_stay files way (a_file bytes indirect) name = refl

there_stay : (files : FileSystem) (mode : ℕ) (way : List ℕ) (node : Node) → (open_there files mode way node).files.blocks ≡ files.blocks
there_stay files mode way (a_directory records indirect) = refl
there_stay files mode way (a_file bytes indirect) = either_way (has_bit mode O_TRUNC) files _ _ (size_stay files way 0 bytes indirect) refl

open_stay : (files : FileSystem) (mode : ℕ) (looked : Looked) → (open_looked files mode looked).files.blocks ≡ files.blocks
open_stay files mode bad_path = refl
open_stay files mode nowhere = refl
open_stay files mode (missing way directory name) =
    either_way (has_bit mode O_CREAT) files _ _ (create_stay files way directory name) refl
open_stay files mode (there way node) =
    either_way (has_bit mode O_CREAT && has_bit mode O_EXCL) files _ _ refl (there_stay files mode way node)

remove_stay : (is_open : List ℕ → Bool) (files : FileSystem) (looked : Looked) → (remove_looked is_open files looked).files.blocks ≡ files.blocks
remove_stay is_open files bad_path = refl
remove_stay is_open files nowhere = refl
remove_stay is_open files (missing way directory name) = refl
remove_stay is_open files (there way (a_directory records indirect)) = refl
remove_stay is_open files (there way (a_file bytes indirect)) = either_way (is_open way) files _ _ refl refl

pub blocks_stay : (is_open : List ℕ → Bool) (files : FileSystem) (f : FileAct) → (file_act is_open files f).files.blocks ≡ files.blocks
unfolding file_act open_act read_act write_act set_size_act stat_act remove_act
blocks_stay is_open files (open_path path mode) = open_stay files mode (look_up files path)
blocks_stay is_open files (read_file way at n) = on_file_stay files (node_at files way) _ (λ bytes indirect. refl)
blocks_stay is_open files (write_file way at bytes) =
    on_file_stay files (node_at files way) (write_to files way at bytes) (write_stay files way at bytes)
blocks_stay is_open files (set_file_size way size) = on_file_stay files (node_at files way) (set_size_to files way size) (size_stay files way size)
blocks_stay is_open files (stat_file way) = stat_stay files (named_at files way)
blocks_stay is_open files (remove_path path) = remove_stay is_open files (look_up files path)
blocks_stay is_open files sync_files = refl

-- ---- what a client has a descriptor's page of is held

module _ {names : Names} {s : KernelState} {a : AbstractState} (h : StandsFor names s a) where
  its_holder : (n p : ℕ) (x : Entry) (b : Born) → n < NENV → a.slots n ≡ born b → is_of_descriptor p ≡ true → is_pipe_page p ≡ false →
      is_made (place_of (slot_at s n)) (p - page_number FDTABLE) ≡ false →
      rows_of s.spaces (slot_at s n).directory p ≡ Some x → is_held a (names.name x.frame) ≡ true
  its_holder n p x b small at descriptor no_pipe unmade is =
      let fd : ℕ = p - page_number FDTABLE in
      let below : fd < DESCRIPTORS = grind (arith, nat_tests) in
      let page : descriptor_page fd ≡ p = grind (arith, nat_tests) in
      let names_it : b.descriptors fd ≡ Some (names.name x.frame) =
      stands_named h n b at fd x below (ap (rows_of s.spaces (slot_at s n).directory) page ∙ is) unmade in
      some_below-at (λ k. holds_in (born_in (a.slots k)) (names.name x.frame)) NENV n small
      (ap (λ (slot : AbstractSlot). holds_in (born_in slot) (names.name x.frame)) at
      ∙ some_below-at (λ k. is_name (b.descriptors k) (names.name x.frame)) DESCRIPTORS fd below
      (ap (λ (o : Option ℕ). is_name o (names.name x.frame)) names_it ∙ name-same (names.name x.frame)))

  -- a child that is not born has it from its parent
  slots_held : (m p : ℕ) (x : Entry) → 0 ≢ m → is_live (slot_at s m) ≡ true → is_of_descriptor p ≡ true → is_pipe_page p ≡ false →
      is_made (place_of (slot_at s m)) (p - page_number FDTABLE) ≡ false → (slot : AbstractSlot) → a.slots m ≡ slot →
      rows_of s.spaces (slot_at s m).directory p ≡ Some x → StandsForSlot names s.spaces (slot_at s m) slot → is_held a (names.name x.frame) ≡ true
  slots_held m p x other live descriptor no_pipe unmade (free id) at is k =
      absurd (let contradiction : false ≡ true = sym (ap (λ (j : Slot). is_live j) k) ∙ live in cc)
  slots_held m p x other live descriptor no_pipe unmade (serving id) at is k =
      absurd (other (sym (sym (h.tabled.ids m live) ∙ ap (λ (i : ℕ). i % NENV) (k.id_is ∙ k.first))))
  slots_held m p x other live descriptor no_pipe unmade (born b) at is k =
      let small : m < NENV = let named_by = h.tabled.ids m live in omega (arith, named_by) in its_holder m p x b small at descriptor no_pipe unmade is
  slots_held m p x other live descriptor no_pipe unmade (unborn id parent) at is k = by_passed (c.passed p) refl
    where
      c : IsOfParent s.spaces (slot_at s (parent % NENV)) (a.slots (parent % NENV)) (slot_at s m) id parent
      c = of_parent (h.children.borne m id parent at)

      by_passed : (t : Bool) → c.passed p ≡ t → is_held a (names.name x.frame) ≡ true
      by_passed true passed =
          its_holder (parent % NENV) p x c.b (omega arith) c.born_by descriptor no_pipe (c.unmade (p - page_number FDTABLE))
          (sym (c.handed p descriptor passed) ∙ is)
      by_passed false off = absurd (none-some x (sym (c.rest p descriptor off) ∙ is))

  counted_held : (n p : ℕ) (x : Entry) → logical s.spaces s.environments.slots n p ≡ Some x → is_shared x.perm ≡ true → is_of_descriptor p ≡ true →
      is_pipe_page p ≡ false → is_held a (names.name x.frame) ≡ true
  counted_held n p x counts shared_page descriptor no_pipe =
      let fd : ℕ = p - page_number FDTABLE in
      let below : fd < DESCRIPTORS = grind (arith, nat_tests) in
      let page : descriptor_page fd ≡ p = grind (arith, nat_tests) in
      let unmade = logical_unmade (is_clients n (slot_at s n)) (place_of (slot_at s n)) (rows_of s.spaces (slot_at s n).directory) fd x below
      (ap (logical s.spaces s.environments.slots n) page ∙ counts) shared_page in
      let found = logical_of s.spaces s.environments.slots n p x counts in
      let client = clients_are n (slot_at s n) found.0 in
      ap (λ (f : ℕ). is_held a (names.name f)) (sym found.1.frame)
      ∙ slots_held n p found.1.entry client.0 client.1 descriptor no_pipe unmade (a.slots n) refl found.1.stands (h.slots n)

  -- ---- the abstract state is another

  -- what is named, by other objects and another table, where each file that is held has them alike
  still_named : (objects : ℕ → Object) (opened : ℕ → TablePlace) (next : ℕ) → ((name : ℕ) → name < a.next_name → name < next) →
      ((name : ℕ) → name < a.next_name → objects name ≡ a.objects name) →
      ((number name : ℕ) → is_held a name ≡ true → (a.opened number).held_by ≡ Some name → (opened number).held_by ≡ Some name) →
      AreNamed names s.spaces.pages a.shared (record (things_in s a) { objects = objects; opened = opened }) next
      (logical s.spaces s.environments.slots)
  still_named objects opened next more same held n p x counts shared_page = record {
    home = was.home;
    kind = was.kind;
    of_pipe = was.of_pipe;
    shows = by_kind (names.is_object name) (names.is_pipe name) refl refl was.shows;
    old = more name was.old;
  }
    where
      name : ℕ
      name = names.name x.frame

      bytes : List ℕ
      bytes = s.spaces.pages x.frame

      things : Things
      things = record (things_in s a) { objects = objects; opened = opened }

      was : IsNamed names s.spaces.pages a.shared (things_in s a) a.next_name p x.frame
      was = h.named n p x counts shared_page

      by_object : is_held a name ≡ true → (o : Object) → HasObject (things_in s a) name x.frame o bytes → HasObject things name x.frame o bytes
      by_object by terminal is = record { device = is.device; apart = is.apart }
      by_object by (file f) is = file_beside is (held (number_of bytes) name by is.held) is.entry is.stands is.same
      by_object by (read_end pipe) is =
          record { numbered = is.numbered; device = is.device; mode_is = is.mode_is; apart = is.apart }
      by_object by (write_end pipe) is =
          record { numbered = is.numbered; device = is.device; mode_is = is.mode_is; apart = is.apart }

      by_kind : (object is_pipe : Bool) → names.is_object name ≡ object → names.is_pipe name ≡ is_pipe →
          ShowsBy (things_in s a) name x.frame object is_pipe (a.shared name) bytes →
          ShowsBy things name x.frame object is_pipe (a.shared name) bytes
      by_kind false is_pipe kind so is = is
      by_kind true true kind so is = record { holds = is.holds; few = is.few; apart = is.apart }
      by_kind true false kind so is =
          subst (λ (o : Object). HasObject things name x.frame o bytes) (sym (same name was.old))
          (by_object (counted_held n p x counts shared_page (sym was.kind ∙ kind) (sym was.of_pipe ∙ so)) (a.objects name) is)

  -- the server does something else, with other files of as many blocks
  now_stands : (objects : ℕ → Object) (opened : ℕ → TablePlace) (next : ℕ) (files : FileSystem) (server : Server) →
      ((name : ℕ) → name < a.next_name → name < next) → ((name : ℕ) → name < a.next_name → objects name ≡ a.objects name) →
      ((number name : ℕ) → is_held a name ≡ true → (a.opened number).held_by ≡ Some name → (opened number).held_by ≡ Some name) →
      ((number : ℕ) → (a.opened number).used ≡ true → (opened number).used ≡ true) → files.blocks ≡ a.files.blocks →
      IsServerStatus server (slot_at s 0) →
      StandsFor names s (record a { objects = objects; opened = opened; next_name = next; files = files; server = server })
  now_stands objects opened next files server more same held used blocks status = record {
    slots = h.slots;
    children = h.children;
    apart = h.apart;
    named = still_named objects opened next more same held;
    users = h.users;
    whole = h.whole;
    beside = h.beside;
    ends = λ m. still_ends m (a.slots m) refl (h.ends m);
    locks = h.locks;
    runs = h.runs;
    old = λ n fd name b is names_it. more name (h.old n fd name b is names_it);
    free_slots = h.free_slots;
    first = h.first;
    server = record {
      status = status;
      pages = λ p some. ap (λ (count : ℕ). is_servers_page opened count p) blocks ∙ still_servers p (h.server.pages p some);
      tables = h.server.tables;
      alone = h.server.alone;
    };
    input = h.input;
    last = h.last;
    turns = h.turns;
    tabled = h.tabled;
    in_order = h.in_order;
  }
    where
      still_ends : (m : ℕ) (slot : AbstractSlot) → a.slots m ≡ slot →
          EndsStandAt names a.objects (place_of (slot_at s m)) (rows_of s.spaces (slot_at s m).directory) slot →
          EndsStandAt names objects (place_of (slot_at s m)) (rows_of s.spaces (slot_at s m).directory) slot
      still_ends m (free id) at ends = tt
      still_ends m (unborn id parent) at ends = tt
      still_ends m (born b) at ends =
          ends_moved (same_places refl) (λ fd. refl) (λ fd name has. ap (λ (o : Object). pipe_of (Some o)) (same name (h.old m fd name b at has)))
          (λ fd below. refl) (λ fd x below is. refl) ends
      still_ends m (serving id) at ends = tt

      -- of four, where the last is the same and the second of the third is so, too
      by_parts : (t u v w x y z : Bool) → (y ≡ true → z ≡ true) → (t || u || (v && w && y) || x) ≡ true → (t || u || (v && w && z) || x) ≡ true
      by_parts true u v w x y z too is = refl
      by_parts false true v w x y z too is = refl
      by_parts false false true true x true z too is = ap (λ (c : Bool). c || x) (too refl)
      by_parts false false true true x false z too is = second_so z x is
      by_parts false false true false x y z too is = is
      by_parts false false false w x y z too is = is

      still_servers : (p : ℕ) → is_servers_page a.opened a.files.blocks p ≡ true → is_servers_page opened a.files.blocks p ≡ true
      still_servers p is =
          let place : ℕ = p - page_number FDTABLE in
          by_parts (p == page_number REQUEST) (p == page_number OPEN_RECORDS) (nat_le (page_number FDTABLE) p)
          (nat_lt p (page_number FDTABLE + MAXOPEN)) (nat_le (page_number DISKMAP) p && nat_lt p (page_number DISKMAP + a.files.blocks))
          (a.opened place).used (opened place).used (used place) is

  -- each place that was ever taken is so still, where one is another that was
  used_still : (place : ℕ) (other : TablePlace) → other.used ≡ true → (number : ℕ) → (a.opened number).used ≡ true →
      (upd a.opened place other number).used ≡ true
  used_still place other is =
      upd-all (λ number (at : TablePlace). (a.opened number).used ≡ true → at.used ≡ true) a.opened place other (λ used. is) (λ number ne used. used)

  -- ---- a place is looked at

  pub looked_stands : (client : ℕ) (request : Request) (place : ℕ) → a.server ≡ looking client request place → place < MAXOPEN →
      StandsFor names s (looked a client request place)
  looked_stands client request place is below = by_held (is_held_by a (a.opened place).held_by) refl
    where
      status : IsServerStatus (looking client request place) (slot_at s 0)
      status = status_at h (looking client request place) is

      vacant : TablePlace
      vacant = record { held_by = None; used = true }

      -- nobody holds who has it
      still_held : is_held_by a (a.opened place).held_by ≡ false → (number name : ℕ) → is_held a name ≡ true →
          (a.opened number).held_by ≡ Some name → (upd a.opened place vacant number).held_by ≡ Some name
      still_held off number name held by = elim (cases_eq number place) [
        | inl same ↦
            let its : (a.opened place).held_by ≡ Some name = ap (λ (k : ℕ). (a.opened k).held_by) (sym same) ∙ by in
            absurd (let contradiction : false ≡ true = sym off ∙ ap (is_held_by a) its ∙ held in cc)
        | inr ne ↦ ap (λ (at : TablePlace). at.held_by) (upd-other a.opened place vacant number ne) ∙ by
      ]

      by_more : (t : Bool) → StandsFor names s
          (if t then record a { server = looking client request (place + 1) } else record a { server = acted client (negated E_MAX_OPEN) [] None })
      by_more true = server_goes_on h (looking client request (place + 1)) status
      by_more false = server_goes_on h (acted client (negated E_MAX_OPEN) [] None) status

      by_held : (t : Bool) → is_held_by a (a.opened place).held_by ≡ t → StandsFor names s
          (if not t
          then record a { opened = upd a.opened place vacant; server = busy client request (Some place) }
          else if nat_lt (place + 1) MAXOPEN then record a { server = looking client request (place + 1) }
          else record a { server = acted client (negated E_MAX_OPEN) [] None })
      by_held false off =
          now_stands a.objects (upd a.opened place vacant) a.next_name a.files (busy client request (Some place)) (λ name old. old) (λ name old. refl)
          (still_held off)
          (used_still place vacant refl)
          refl status
      by_held true held = by_more (nat_lt (place + 1) MAXOPEN)

  -- ---- it has acted

  pub acted_stands : (client : ℕ) (request : Request) (place : Option ℕ) → a.server ≡ busy client request place → (files : FileSystem) →
      files.blocks ≡ a.files.blocks → (answer : ℕ) (bytes : List ℕ) →
      StandsFor names s (record a { files = files; server = acted client answer bytes None })
  acted_stands client request place is files blocks answer bytes =
      now_stands a.objects a.opened a.next_name files (acted client answer bytes None) (λ name old. old) (λ name old. refl)
      (λ number name held by. by) (λ number used. used) blocks (status_at h (busy client request place) is)

  -- ---- it has opened a file

  opened_by : (client : ℕ) (request : Request) (place : ℕ) → a.server ≡ busy client request (Some place) → (a.opened place).held_by ≡ None →
      (files : FileSystem) → files.blocks ≡ a.files.blocks → (way : List ℕ) (mode : ℕ) →
      StandsFor names s (file_opened (record a { files = files }) client 0 (Some place) (Some way) mode)
  opened_by client request place is none files blocks way mode =
      now_stands (upd a.objects a.next_name (file opened)) (upd a.opened place taken) (a.next_name + 1) files (acted client 0 [] (Some a.next_name))
      (λ name old. omega (arith, old)) (λ name old. upd-other a.objects a.next_name (file opened) name (λ same. absurd (omega (arith, old, same))))
      still_held
      (used_still place taken refl)
      blocks (status_at h (busy client request (Some place)) is)
    where
      opened : OpenFile
      opened = record { way = way; offset = 0; mode = mode; size = file_size files way }

      taken : TablePlace
      taken = record { held_by = Some a.next_name; used = true }

      still_held : (number name : ℕ) → is_held a name ≡ true → (a.opened number).held_by ≡ Some name →
          (upd a.opened place taken number).held_by ≡ Some name
      still_held number name held by = elim (cases_eq number place) [
        | inl same ↦ absurd (none-some name (sym none ∙ ap (λ (k : ℕ). (a.opened k).held_by) (sym same) ∙ by))
        | inr ne ↦ ap (λ (at : TablePlace). at.held_by) (upd-other a.opened place taken number ne) ∙ by
      ]

  pub opened_stands : (client : ℕ) (path : List ℕ) (mode place : ℕ) → a.server ≡ busy client (act (open_path path mode) None) (Some place) →
      (a.opened place).held_by ≡ None → (a.opened place).used ≡ true → (files : FileSystem) → files.blocks ≡ a.files.blocks → (way : List ℕ) →
      StandsFor names s (file_opened (record a { files = files }) client 0 (Some place) (Some way) (low_mode mode))
  opened_stands client path mode place is none was_used files blocks way =
      opened_by client (act (open_path path mode) None) place is none files blocks way (low_mode mode)

-- ---- the server's step

-- Its step moves no object's offset: it looks at a place, or acts on the files with no object, or with an answer that counts nothing.
abbrev pub MovesNoOffsetBy : AbstractState → Server → Type 0
MovesNoOffsetBy a (looking client request place) = Unit {0}
MovesNoOffsetBy a (busy client (act f None) place) = Unit {0}
MovesNoOffsetBy a (busy client (act f (Some name)) place) = is_count (file_act (is_file_open a) a.files f).answer ≡ false
MovesNoOffsetBy a _ = ⊥

abbrev pub MovesNoOffset : AbstractState → Type 0
MovesNoOffset a = MovesNoOffsetBy a a.server

-- Where it opens a file it has taken a place, which nobody has.
abbrev pub OpensFreeBy : AbstractState → Server → Type 0
OpensFreeBy a (busy client (act (open_path path mode) object) (Some place)) = ((a.opened place).held_by ≡ None) × ((a.opened place).used ≡ true)
OpensFreeBy a (busy client (act (open_path path mode) object) None) = ⊥
OpensFreeBy a _ = Unit {0}

abbrev pub OpensFree : AbstractState → Type 0
OpensFree a = OpensFreeBy a a.server

-- the place at which it looks is one of the table
abbrev pub LooksBelowBy : Server → Type 0
LooksBelowBy (looking client request place) = place < MAXOPEN
LooksBelowBy _ = Unit {0}

abbrev pub LooksBelow : AbstractState → Type 0
LooksBelow a = LooksBelowBy a.server

module _ {names : Names} {s : KernelState} {a : AbstractState} (h : StandsFor names s a) where
  -- no offset goes on
  none_moved : (client : ℕ) (request : Request) (place : Option ℕ) → a.server ≡ busy client request place → (f : FileAct) (object : Option ℕ) →
      MovesNoOffsetBy a (busy client (act f object) place) → (did : Acted) → did ≡ file_act (is_file_open a) a.files f →
      StandsFor names s (moved_on (record a { files = did.files; server = acted client did.answer did.bytes None }) object did.answer)
  none_moved client request place is f object none did same = by_object object none
    where
      acts : StandsFor names s (record a { files = did.files; server = acted client did.answer did.bytes None })
      acts =
          acted_stands h client request place is did.files
          (ap (λ (d : Acted). d.files.blocks) same ∙ blocks_stay (is_file_open a) a.files f) did.answer did.bytes

      by_object : (object : Option ℕ) → MovesNoOffsetBy a (busy client (act f object) place) →
          StandsFor names s (moved_on (record a { files = did.files; server = acted client did.answer did.bytes None }) object did.answer)
      by_object None none = acts
      by_object (Some name) none =
          let after : AbstractState = record a { files = did.files; server = acted client did.answer did.bytes None } in
          let off : is_count did.answer ≡ false = ap (λ (d : Acted). is_count d.answer) same ∙ none in
          subst
          (λ (t : Bool). StandsFor names s (if t then with_offset after name (offset_in (after.objects name) + did.answer) else after))
          (sym off) acts

  opens : (client : ℕ) (path : List ℕ) (mode : ℕ) (object : Option ℕ) (place : Option ℕ) →
      a.server ≡ busy client (act (open_path path mode) object) place → OpensFreeBy a (busy client (act (open_path path mode) object) place) →
      StandsFor names s (act_done a client (act (open_path path mode) object) place)
  opens client path mode object None is vacancy = absurd vacancy
  opens client path mode object (Some place) is vacancy = by_answer (did.answer == 0)
    where
      did : Acted
      did = file_act (is_file_open a) a.files (open_path path mode)

      request : Request
      request = act (open_path path mode) object

      blocks : did.files.blocks ≡ a.files.blocks
      blocks = blocks_stay (is_file_open a) a.files (open_path path mode)

      by_way : (o : Option (List ℕ)) → StandsFor names s (file_opened (record a { files = did.files }) client 0 (Some place) o (low_mode mode))
      by_way None = acted_stands h client request (Some place) is did.files blocks 0 []
      by_way (Some way) = opened_by h client request place is vacancy.0 did.files blocks way (low_mode mode)

      by_answer : (t : Bool) → StandsFor names s
          (if t then file_opened (record a { files = did.files }) client 0 (Some place) (file_named did.files path) (low_mode mode)
          else record a { files = did.files; server = acted client did.answer [] None })
      by_answer true = by_way (file_named did.files path)
      by_answer false = acted_stands h client request (Some place) is did.files blocks did.answer []

  acts_stand : (client : ℕ) (request : Request) (place : Option ℕ) → a.server ≡ busy client request place →
      MovesNoOffsetBy a (busy client request place) → OpensFreeBy a (busy client request place) → StandsFor names s (act_done a client request place)
  acts_stand client (seek name offset) place is none vacancy = absurd none
  acts_stand client (act (open_path path mode) object) place is none vacancy = opens client path mode object place is vacancy
  acts_stand client (act (read_file way at count) object) place is none vacancy =
      none_moved client _ place is (read_file way at count) object none _ refl
  acts_stand client (act (write_file way at bytes) object) place is none vacancy =
      none_moved client _ place is (write_file way at bytes) object none _ refl
  acts_stand client (act (set_file_size way size) object) place is none vacancy =
      none_moved client _ place is (set_file_size way size) object none _ refl
  acts_stand client (act (stat_file way) object) place is none vacancy = none_moved client _ place is (stat_file way) object none _ refl
  acts_stand client (act (remove_path path) object) place is none vacancy = none_moved client _ place is (remove_path path) object none _ refl
  acts_stand client (act sync_files object) place is none vacancy = none_moved client _ place is sync_files object none _ refl

  -- The kernel's state stands for the abstract one behind the server's step, too.
  pub served_stands : (b : AbstractState) → server_step a ≡ Some b → MovesNoOffset a → OpensFree a → LooksBelow a → StandsFor names s b
  unfolding server_step
  served_stands b step none vacancy below = by_server a.server refl step none vacancy below
    where
      comes : (after : AbstractState) → Some after ≡ Some b → StandsFor names s after → StandsFor names s b
      comes after same stands = subst (λ (z : AbstractState). StandsFor names s z) (same_Some after b same) stands

      by_server : (server : Server) → a.server ≡ server → served a server ≡ Some b → MovesNoOffsetBy a server → OpensFreeBy a server →
          LooksBelowBy server → StandsFor names s b
      by_server leaving is step none vacancy below = absurd none
      by_server idle is step none vacancy below = absurd none
      by_server (looking client request place) is step none vacancy below =
          comes (looked a client request place) step (looked_stands h client request place is below)
      by_server (busy client request place) is step none vacancy below =
          comes (act_done a client request place) step (acts_stand client request place is none vacancy)
      by_server (acted client answer bytes object) is step none vacancy below = absurd none
