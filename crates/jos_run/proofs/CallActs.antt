-- What the abstract file server's step is where the file server makes a call of its own that is seen: it looks at a place, or opens a file; it has acted
-- and moves no offset; or an offset moves to the word that is stored.
use Rattle.std.proofs.Common.{◌≡◌, ◌≢◌, ◌∙◌, ◌⊎◌, inl, inr, ◌+◌, ◌%◌, ◌^◌, ◌<◌, ◌==◌, ℕ, Bool, true, false, List, [], Option, Some, None, refl, sym, ap, subst}
use Rattle.std.proofs.Common.{arith, if◌then◌else◌}
use Rattle.std.proofs.lemmas.Bool.{false≢true}
use Rattle.std.proofs.lemmas.Bool.Decides.{nat_tests}
use Rattle.std.proofs.Math.Nat.{mod-eq_of_lt}
use Rattle.std.specs.Prelude.{⊤}
use Rattle.jos_base.specs.Words.{upd, word_at}
use Rattle.fs_layout.specs.FileActs.{Acted, file_act, file_named}
use Rattle.fs_layout.specs.FileTree.{FileAct, FileSystem, open_path, read_file, remove_path, set_file_size, stat_file, sync_files, write_file}
use Rattle.fs_acts.specs.BlockLaws.{HasString}
use Rattle.fs_runs.specs.TreeRuns.{HasActed, Memory, bytes_given}
use Rattle.lib_os.specs.declared.numbers.TheConstants.{FD_OFFSET, REQUEST_COUNT, REQUEST_FILE}
use Rattle.lib_os.specs.declared.request.RequestKind.{RequestKind}
use Rattle.lib_os.specs.declared.request.RequestKind.TheVariants as kind
use Rattle.lib_os.specs.AbstractState.{AbstractState, Object, OpenFile, Request, Server, act, acted, busy, file, looking, seek}
use Rattle.lib_os.specs.AskedFor.{OpensWell}
use Rattle.lib_os.specs.FileServer.{act_done, after_act, file_opened, is_count, is_file_open, low_mode, moved_on, offset_in, served, server_step}
use Rattle.lib_os.specs.FileServer.{with_offset, with_offset_of}
use Rattle.lib_os.proofs.ServerActs.{LooksBelow, LooksBelowBy, MovesNoOffset, MovesNoOffsetBy, OpensFree, OpensFreeBy, blocks_stay}
use Rattle.fs_serving.specs.ServerRuns.{AsksFor, HasFiles, HasMoved, IsBusy, IsChecking, IsDone, IsLooking, IsMoving, IsOpenAs, IsTold}
use Rattle.fs_serving.specs.ServerRuns.{TableStands, client_of, opens, reads, reads_at, removes, seeks, sizes, stats, syncs, writes}
use Rattle.fs_serving.specs.ServerViews.{Serving, page_word}
use Rattle.fs_serving.proofs.Acting.{asked-string}
use Rattle.fs_serving.proofs.ActsDone.{acts_are_done}
use Rattle.fs_serving.proofs.OfFiles.{FileIs, file_is}
use Rattle.fs_serving.proofs.Pieces.{ActIsDone}

-- ---- ways of the step

-- It moves no offset: it looks at a place, or opens a file at one that nobody has.
pub record Shows (a : AbstractState) : Type 0 where
  pub moves : MovesNoOffset a
  pub opens_free : OpensFree a
  pub looks : LooksBelow a
  pub well : OpensWell a a.server

-- It has acted on the files, and nothing else is other.
pub record ActsAlone (a : AbstractState) : Type 0 where
  pub client : ℕ
  pub request : Request
  pub place : Option ℕ
  pub server : a.server ≡ busy client request place
  pub files : FileSystem
  pub blocks : files.blocks ≡ a.files.blocks
  pub answer : ℕ
  pub bytes : List ℕ
  pub comes : server_step a ≡ Some (record a { files = files; server = acted client answer bytes None })
  pub well : OpensWell a a.server

-- The offset of the file that has this place is then this one, too.
pub record MovesOffset (a : AbstractState) (number offset : ℕ) : Type 0 where
  pub name : ℕ
  pub f : OpenFile
  pub held : (a.opened number).held_by ≡ Some name
  pub is : a.objects name ≡ file f
  pub alone : (other : ℕ) → (a.opened other).held_by ≡ Some name → number ≡ other
  pub small : offset < 2 ^ 32
  pub client : ℕ
  pub request : Request
  pub place : Option ℕ
  pub server : a.server ≡ busy client request place
  pub files : FileSystem
  pub blocks : files.blocks ≡ a.files.blocks
  pub answer : ℕ
  pub bytes : List ℕ
  pub comes : server_step a
      ≡ Some (record a { objects = upd a.objects name (file (record f { offset = offset })); files = files; server = acted client answer bytes None })
  pub well : OpensWell a a.server

steps : (a : AbstractState) (client : ℕ) (request : Request) (place : Option ℕ) → a.server ≡ busy client request place →
    server_step a ≡ Some (act_done a client request place)
unfolding server_step
steps a client request place server = ap (served a) server

-- ---- an act that moves no offset

-- what is handed back; an open that is refused hands back nothing
abbrev given_back : FileAct → Acted → List ℕ
given_back (open_path path mode) did = []
given_back _ did = did.bytes

abbrev behind : AbstractState → ℕ → FileAct → Acted → AbstractState
behind a client f did = record a { files = did.files; server = acted client did.answer (given_back f did) None }

stays_as : (a : AbstractState) (object : Option ℕ) (answer : ℕ) → (object ≡ None) ⊎ (is_count answer ≡ false) → moved_on a object answer ≡ a
stays_as a None answer stays = refl
stays_as a (Some name) answer (inl none) = absurd (let is : ◌≡◌ {A = Option ℕ} (Some name) None = none in cc)
stays_as a (Some name) answer (inr many) =
    ap (λ (b : Bool). if b then with_offset a name (offset_in (a.objects name) + answer) else a) many

refused_so : (a : AbstractState) (client : ℕ) (path : List ℕ) (mode : ℕ) (object place : Option ℕ) (did : Acted) → did.answer ≢ 0 →
    after_act a client (open_path path mode) object place did ≡ behind a client (open_path path mode) did
refused_so a client path mode object place did other =
    ap
    (λ (b : Bool). if b then file_opened (record a { files = did.files }) client 0 place (file_named did.files path) (low_mode mode)
    else record a { files = did.files; server = acted client did.answer [] None })
    (by_test (did.answer == 0) refl)
  where
    by_test : (b : Bool) → (did.answer == 0) ≡ b → b ≡ false
    by_test false e = refl
    by_test true e = absurd (other (grind (arith, nat_tests)))

acts_so : (a : AbstractState) (client : ℕ) (f : FileAct) (object place : Option ℕ) (did : Acted) →
    (object ≡ None) ⊎ (is_count did.answer ≡ false) → ((path : List ℕ) (mode : ℕ) → f ≡ open_path path mode → did.answer ≢ 0) →
    after_act a client f object place did ≡ behind a client f did
acts_so a client (open_path path mode) object place did stays other = refused_so a client path mode object place did (other path mode refl)
acts_so a client (read_file way at n) object place did stays other = stays_as (behind a client (read_file way at n) did) object did.answer stays
acts_so a client (write_file way at bytes) object place did stays other = stays_as (behind a client (write_file way at bytes) did) object did.answer stays
acts_so a client (set_file_size way size) object place did stays other = stays_as (behind a client (set_file_size way size) did) object did.answer stays
acts_so a client (stat_file way) object place did stays other = stays_as (behind a client (stat_file way) did) object did.answer stays
acts_so a client (remove_path path) object place did stays other = stays_as (behind a client (remove_path path) did) object did.answer stays
acts_so a client sync_files object place did stays other = stays_as (behind a client sync_files did) object did.answer stays

-- what is not opened is not opened ill
not_ill : (a : AbstractState) (client : ℕ) (f : FileAct) (object place : Option ℕ) →
    ((path : List ℕ) (mode : ℕ) → f ≡ open_path path mode → (file_act (is_file_open a) a.files f).answer ≢ 0) → OpensWell a (busy client (act f object) place)
not_ill a client (open_path path mode) None place other = λ zero. absurd (other path mode refl zero)
not_ill a client (open_path path mode) (Some name) place other = λ zero. absurd (other path mode refl zero)
not_ill a client (read_file way at n) object place other = tt
not_ill a client (write_file way at bytes) object place other = tt
not_ill a client (set_file_size way size) object place other = tt
not_ill a client (stat_file way) object place other = tt
not_ill a client (remove_path path) object place other = tt
not_ill a client sync_files object place other = tt

asked_open : (a : AbstractState) (page : ℕ → ℕ) (k : RequestKind) (path : List ℕ) (mode : ℕ) (object : Option ℕ) →
    AsksFor a page k (act (open_path path mode) object) → k ≡ kind.Open
asked_open a page _ path mode object (opens _ _ has mode_is) = refl

-- ---- by what is known at the step

-- what is sought
record SoughtIn (a : AbstractState) (page : ℕ → ℕ) (name at : ℕ) : Type 0 where
  f : OpenFile
  open_as : IsOpenAs a page name f
  short : at < 2 ^ 31

SoughtBy : AbstractState → (ℕ → ℕ) → Request → Type 0
SoughtBy a page (act f object) = ⊤
SoughtBy a page (seek name at) = SoughtIn a page name at

sought_in : (a : AbstractState) (page : ℕ → ℕ) (k : RequestKind) (request : Request) → AsksFor a page k request → SoughtBy a page request
unfolding SoughtBy
sought_in a page _ _ (opens path mode has mode_is) = tt
sought_in a page _ _ (removes path has) = tt
sought_in a page _ _ (reads name f so) = tt
sought_in a page _ _ (reads_at name f so small) = tt
sought_in a page _ _ (writes name f so within) = tt
sought_in a page _ _ (sizes name f so) = tt
sought_in a page _ _ (stats name f so) = tt
sought_in a page _ _ (seeks name f so small) = record { f = f; open_as = so; short = small }
sought_in a page _ _ syncs = tt

module _ (count : ℕ) (a : AbstractState) (it : Serving) (m : Memory) (files : HasFiles count m a.files) (table : TableStands m.disk a it.view) where
  shows_as : (x : Server) → a.server ≡ x → MovesNoOffsetBy a x → OpensFreeBy a x → LooksBelowBy x → OpensWell a x → Shows a
  shows_as x is moves free looks well = record {
    moves = subst (λ (y : Server). MovesNoOffsetBy a y) (sym is) moves;
    opens_free = subst (λ (y : Server). OpensFreeBy a y) (sym is) free;
    looks = subst (λ (y : Server). LooksBelowBy y) (sym is) looks;
    well = subst (λ (y : Server). OpensWell a y) (sym is) well;
  }

  pub looks_show : IsLooking a it m → Shows a
  looks_show h = shows_as (looking (client_of it.state) (act (open_path h.path h.mode) None) it.state.number) h.server tt tt h.below tt

  -- ---- it has acted

  module _ (is : IsDone a it m) where
    abbrev did : Acted
    did = file_act (is_file_open a) a.files is.f

    done : ActIsDone count a it.view is.f it.state.count m it.view.memory
    done =
        acts_are_done count a it.view is.f it.state.count m it.view.memory (asked-string a m.page is.k is.f is.object is.is_busy.asks) files table
        is.has_acted

    not_opened : (path : List ℕ) (mode : ℕ) → is.f ≡ open_path path mode → did.answer ≢ 0
    not_opened path mode e zero_ =
        is.not_opened
        (asked_open a m.page is.k path mode is.object (subst (λ (f : FileAct). AsksFor a m.page is.k (act f is.object)) e is.is_busy.asks))
        (sym done.answer_is ∙ zero_)

    pub done_acts : ActsAlone a
    done_acts = record {
      client = client_of it.state;
      request = act is.f is.object;
      place = is.place;
      server = is.is_busy.server;
      files = did.files;
      blocks = blocks_stay (is_file_open a) a.files is.f;
      answer = did.answer;
      bytes = given_back is.f did;
      comes =
          steps a (client_of it.state) (act is.f is.object) is.place is.is_busy.server
          ∙ ap {B = Option AbstractState} Some
          (acts_so a (client_of it.state) is.f is.object is.place did
          (subst (λ (n : ℕ). (is.object ≡ None) ⊎ (is_count n ≡ false)) (sym done.answer_is) is.stays) not_opened);
      well = subst (λ (y : Server). OpensWell a y) (sym is.is_busy.server)
          (not_ill a (client_of it.state) is.f is.object is.place not_opened);
    }

  -- what is to be removed is open
  pub checks_act : (h : IsChecking a it m) → Shows a
  checks_act h = shows_as (busy (client_of it.state) (act (remove_path h.path) None) None) h.is_busy.server tt tt tt tt

  -- ---- what was opened is told

  pub opened_shows : IsTold a it m 7 → Shows a
  opened_shows told =
      let so = told.opened in
      let is = so.opening in
      let done = acts_are_done count a it.view (open_path told.path told.mode) 0 m it.view.memory
      (asked-string a m.page kind.Open (open_path told.path told.mode) None is.is_busy.asks) files table so.has_acted in
      shows_as (busy (client_of it.state) (act (open_path told.path told.mode) None) (Some it.state.number)) is.is_busy.server tt (is.nobodys, is.used) tt
      (λ zero. (it.state.number, so.way, refl, ap (λ (s : FileSystem). file_named s told.path) (sym done.files.are) ∙ so.named))

  -- ---- an offset moves

  moves_on : (now : AbstractState) (name answer : ℕ) (f : OpenFile) → now.objects name ≡ file f → is_count answer ≡ true →
      moved_on now (Some name) answer ≡ record now { objects = upd now.objects name (file (record f { offset = f.offset + answer })) }
  moves_on now name answer f is many =
      ap (λ (b : Bool). if b then with_offset now name (offset_in (now.objects name) + answer) else now) many
      ∙ ap (λ (o : Object). with_offset_of now name (offset_in o + answer) o) is

  count_short : (n : ℕ) → is_count n ≡ true → n < 2 ^ 31
  count_short n many = grind (arith, nat_tests, many)

  -- so many bytes were moved
  moves_by : (name : ℕ) (f : OpenFile) → IsOpenAs a m.page name f → (g : FileAct) → HasString g →
      ((client : ℕ) (did : Acted) → after_act a client g (Some name) None did
      ≡ moved_on (record a { files = did.files; server = acted client did.answer did.bytes None }) (Some name) did.answer) →
      OpensWell a (busy (client_of it.state) (act g (Some name)) None) →
      a.server ≡ busy (client_of it.state) (act g (Some name)) None → it.state.number ≡ word_at m.page REQUEST_FILE →
      HasActed (is_file_open a) g m it.state.count it.view.memory → is_count it.state.count ≡ true →
      it.state.at ≡ (page_word it.view it.state.number FD_OFFSET + it.state.count) % 2 ^ 32 → MovesOffset a it.state.number it.state.at
  moves_by name f so g string after well server number has_acted many at_is = record {
    name = name;
    f = f;
    held = ap (λ (n : ℕ). (a.opened n).held_by) number ∙ so.place;
    is = so.is;
    alone = λ other same. number ∙ table.alone (word_at m.page REQUEST_FILE) other name so.place same;
    small = subst (λ (n : ℕ). n < 2 ^ 32) (sym at_so) fits;
    client = client_of it.state;
    request = act g (Some name);
    place = None;
    server = server;
    files = did.files;
    blocks = blocks_stay (is_file_open a) a.files g;
    answer = did.answer;
    bytes = did.bytes;
    comes =
        steps a (client_of it.state) (act g (Some name)) None server
        ∙ ap (λ (s : AbstractState). Some s)
        (after (client_of it.state) did ∙ moves_on now name did.answer f so.is (ap is_count done.answer_is ∙ many)
        ∙ ap (λ (n : ℕ). record now { objects = upd now.objects name (file (record f { offset = n })) })
        (ap (λ (n : ℕ). f.offset + n) done.answer_is ∙ sym at_so));
    well = subst (λ (y : Server). OpensWell a y) (sym server) well;
  }
    where
      did : Acted
      did = file_act (is_file_open a) a.files g

      now : AbstractState
      now = record a { files = did.files; server = acted (client_of it.state) did.answer did.bytes None }

      done : ActIsDone count a it.view g it.state.count m it.view.memory
      done = acts_are_done count a it.view g it.state.count m it.view.memory string files table has_acted

      there : FileIs m.disk it.view (word_at m.page REQUEST_FILE) f
      there = file_is m.disk a it.view m.page name f table so

      fits : f.offset + it.state.count < 2 ^ 32
      fits = let short = count_short it.state.count many in let small = there.small in omega (arith, short, small)

      at_so : it.state.at ≡ f.offset + it.state.count
      at_so =
          at_is
          ∙ ap (λ (n : ℕ). (n + it.state.count) % 2 ^ 32) (ap (λ (n : ℕ). page_word it.view n FD_OFFSET) number ∙ there.offset)
          ∙ mod-eq_of_lt {n = f.offset + it.state.count} {m = 2 ^ 32} fits

  -- what a request has done that is an act
  ActedBy : Request → Type 0
  ActedBy (act f object) = HasActed (is_file_open a) f m it.state.count it.view.memory
  ActedBy (seek name offset) = ⊥

  moved_by : (k : RequestKind) (request : Request) → AsksFor a m.page k request → IsMoving k ≡ true →
      a.server ≡ busy (client_of it.state) request None → it.state.number ≡ word_at m.page REQUEST_FILE → ActedBy request →
      is_count it.state.count ≡ true → it.state.at ≡ (page_word it.view it.state.number FD_OFFSET + it.state.count) % 2 ^ 32 →
      MovesOffset a it.state.number it.state.at
  unfolding ActedBy
  moved_by _ _ (opens path mode has mode_is) moves server number has_acted many at_is = absurd (false≢true moves)
  moved_by _ _ (removes path has) moves server number has_acted many at_is = absurd (false≢true moves)
  moved_by _ _ (reads_at name f so small) moves server number has_acted many at_is = absurd (false≢true moves)
  moved_by _ _ (sizes name f so) moves server number has_acted many at_is = absurd (false≢true moves)
  moved_by _ _ (stats name f so) moves server number has_acted many at_is = absurd (false≢true moves)
  moved_by _ _ (seeks name f so small) moves server number has_acted many at_is = absurd (false≢true moves)
  moved_by _ _ syncs moves server number has_acted many at_is = absurd (false≢true moves)
  moved_by _ _ (reads name f so) moves server number has_acted many at_is =
      moves_by name f so (read_file f.way f.offset (word_at m.page REQUEST_COUNT)) tt (λ client did. refl) tt server number has_acted many at_is
  moved_by _ _ (writes name f so within) moves server number has_acted many at_is =
      moves_by name f so (write_file f.way f.offset (bytes_given m.page (word_at m.page REQUEST_COUNT))) tt (λ client did. refl) tt server number has_acted
      many at_is

  pub moved_moves : (h : HasMoved a it m) → it.state.at ≡ (page_word it.view it.state.number FD_OFFSET + it.state.count) % 2 ^ 32 →
      MovesOffset a it.state.number it.state.at
  unfolding ActedBy
  moved_moves h at_is =
      moved_by h.k (act h.f (Some h.name)) h.is_busy.asks h.moves h.is_busy.server h.number h.has_acted h.many at_is

  pub sought_moves : (name : ℕ) → IsBusy a it m None kind.Seek (seek name it.state.at) → it.state.number ≡ word_at m.page REQUEST_FILE →
      MovesOffset a it.state.number it.state.at
  unfolding SoughtBy
  sought_moves name h number =
      let found : SoughtIn a m.page name it.state.at = sought_in a m.page kind.Seek (seek name it.state.at) h.asks in
      let so = found.open_as in
      let short = found.short in
      let now : AbstractState = record a { server = acted (client_of it.state) 0 [] None } in
      record {
        name = name;
        f = found.f;
        held = ap (λ (n : ℕ). (a.opened n).held_by) number ∙ so.place;
        is = so.is;
        alone = λ other same. number ∙ table.alone (word_at m.page REQUEST_FILE) other name so.place same;
        small = omega (arith, short);
        client = client_of it.state;
        request = seek name it.state.at;
        place = None;
        server = h.server;
        files = a.files;
        blocks = refl;
        answer = 0;
        bytes = [];
        comes =
            steps a (client_of it.state) (seek name it.state.at) None h.server
            ∙ ap (λ (o : Object). Some (with_offset_of now name it.state.at o)) so.is;
        well = subst (λ (y : Server). OpensWell a y) (sym h.server) tt;
      }
