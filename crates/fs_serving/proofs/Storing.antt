-- The steps that move an offset: what was read or written is counted, and the last store is the act.
use Rattle.std.proofs.Common.{◌≡◌, ◌≢◌, ◌<◌, ◌≤◌, ◌∙◌, ◌⊎◌, inl, inr, ℕ, ◌+◌, ◌-◌, ◌*◌, ◌==◌, ◌%◌, ◌^◌, Bool, true, false, min, List, [], ◌∷◌, ◌++◌}
use Rattle.std.proofs.Common.{length}
use Rattle.std.proofs.Common.{Option, Some, None, refl, sym, ap, subst, arith, if◌then◌else◌}
use Rattle.std.specs.Prelude.{is_some, nat_le, nat_lt, ⊤}
use Rattle.std.proofs.lemmas.Bool.{false≢true}
use Rattle.std.proofs.lemmas.Bool.Decides.{nat_tests}
use Rattle.std.proofs.Math.Nat.{min-le_right, mod-eq_of_lt}
use Rattle.jos_base.specs.declared.numbers.TheConstants.{E_INVAL, E_NO_DISK}
use Rattle.jos_base.specs.Words.{negated, upd, word_at}
use Rattle.jos_base.proofs.Below.{length-values}
use Rattle.jos_base.proofs.Maps.{upd-alike, upd-at, upd-other}
use Rattle.fs_layout.specs.declared.numbers.TheConstants.{BLKSIZE, MAXFILESIZE}
use Rattle.fs_layout.specs.DiskFiles.{IsDiskImage}
use Rattle.fs_layout.specs.DiskImage.{is_directory_at, size_of}
use Rattle.fs_layout.specs.FileActs.{Acted, file_act}
use Rattle.fs_layout.specs.FileTree.{FileAct, FileSystem, read_file, write_file}
use Rattle.fs_acts.specs.BlockActs.{Change, blocks_grown, fits, growth, of_file, overwrite, place_at, plan_of, planned, planned_if_it_fits}
use Rattle.fs_acts.specs.BlockActs.{put_word, read_plan, turned_down, write_plan}
use Rattle.fs_acts.specs.BlockLaws.{HasString}
use Rattle.fs_acts.proofs.Stored.{stored-word, stored-word_left}
use Rattle.fs_acts.proofs.Undamaged.{way-reached}
use Rattle.fs_runs.specs.TreeRuns.{AreSmall, HasActed, Memory, bytes_given}
use Rattle.lib_os.specs.declared.numbers.TheConstants.{FD_DEVICE, FD_FILE, FD_MODE, FD_OFFSET, FD_SIZE, MAXOPEN, REQUEST_COUNT}
use Rattle.lib_os.specs.declared.numbers.TheConstants.{REQUEST_FILE}
use Rattle.lib_os.specs.declared.progress.Progress.TheVariants as progress
use Rattle.lib_os.specs.declared.request.RequestKind.{RequestKind}
use Rattle.lib_os.specs.declared.request.RequestKind.TheVariants as kind
use Rattle.lib_os.specs.AbstractState.{AbstractState, Object, OpenFile, Request, Server, act, acted, busy, file, seek}
use Rattle.lib_os.specs.Descriptors.{is_held}
use Rattle.lib_os.specs.FileServer.{act_done, after_act, is_count, is_file_open, moved_on, served, server_step, with_offset_of}
use Rattle.fs_requests.specs.declared.state.ServerStep.TheVariants as step
use Rattle.fs_requests.specs.ServerPlans.{next_for, shown}
use Rattle.fs_serving.specs.ServerRuns.{AsksFor, Follows, HasFile, HasFiles, IsMoving, IsOpenAs, IsReplying, IsStoring, IsTold}
use Rattle.fs_serving.specs.ServerRuns.{PlaceStands, StandsServing, TableStands, client_of, moved, opened, opens, reads, reads_at, removes}
use Rattle.fs_serving.specs.ServerRuns.{seeks, sizes, sought}
use Rattle.fs_serving.specs.ServerRuns.{stats, syncs, writes}
use Rattle.fs_serving.specs.ServerViews.{Serving, View, gone_on, page_word, with_page_word, with_word, word_of}
use Rattle.fs_serving.proofs.Pieces.{ActIsDone, ActsAreDone, StepFollows}
use Rattle.fs_serving.proofs.OfFiles.{FileIs, file_is, same_file}

-- ---- a word in the page of a place

pub word-told : (page : Option (ℕ → ℕ)) (at word : ℕ) → is_some page ≡ true → word < 2 ^ 32 → word_of (with_word page at word) at ≡ word
word-told None at word there fits = absurd (false≢true there)
word-told (Some page) at word there fits = stored-word page at word fits

pub word-left : (page : Option (ℕ → ℕ)) (at word other : ℕ) → (other + 4 ≤ at) ⊎ (at + 4 ≤ other) →
    word_of (with_word page at word) other ≡ word_of page other
word-left None at word other apart = refl
word-left (Some page) at word other (inl before) =
    stored-word_left (put_word at word) page other (inl (omega arith)) (inl (omega arith)) (inl (omega arith)) (inl (omega arith))
word-left (Some page) at word other (inr behind) =
    stored-word_left (put_word at word) page other (inr (omega arith)) (inr (omega arith)) (inr (omega arith)) (inr (omega arith))

pub some-with : (page : Option (ℕ → ℕ)) (at word : ℕ) → is_some (with_word page at word) ≡ is_some page
some-with None at word = refl
some-with (Some page) at word = refl

same_name : (x y : ℕ) → ◌≡◌ {A = Option ℕ} (Some x) (Some y) → x ≡ y
same_name x y e = cc

-- ---- the table with another offset

module _ (disk : ℕ → ℕ) (a : AbstractState) (v : View) (number name offset : ℕ) (f : OpenFile) (files : FileSystem) (server : Server)
    (table : TableStands disk a v) (below : number < MAXOPEN) (place : (a.opened number).held_by ≡ Some name) (held : is_held a name ≡ true)
    (is : a.objects name ≡ file f) (short : offset < 2 ^ 31) where
  abbrev at_offset : AbstractState
  at_offset = record a { objects = upd a.objects name (file (record f { offset = offset })); files = files; server = server }

  abbrev seen_so : View
  seen_so = with_page_word v number FD_OFFSET offset

  abbrev now : Option (ℕ → ℕ)
  now = with_word (v.pages number) FD_OFFSET offset

  paged : (k : ℕ) → is_some (seen_so.pages k) ≡ is_some (v.pages k)
  paged k = upd-alike {V = Option (ℕ → ℕ)} {W = Bool} is_some v.pages number now (some-with (v.pages number) FD_OFFSET offset) k

  here : seen_so.pages number ≡ now
  here = upd-at v.pages number now

  left : (other : ℕ) → (other + 4 ≤ 4) ⊎ (8 ≤ other) → page_word seen_so number other ≡ page_word v number other
  left other apart = ap (λ (p : Option (ℕ → ℕ)). word_of p other) here ∙ word-left (v.pages number) 4 offset other apart

  old_file : HasFile disk a v number name
  old_file = (table.places number below).holds name place held

  same : old_file.f ≡ f
  same = same_file old_file.f f (sym old_file.is ∙ is)

  own : HasFile disk at_offset seen_so number name
  own =
      record {
        f = record f { offset = offset };
        is = upd-at a.objects name (file (record f { offset = offset }));
        home = subst (λ (g : OpenFile). place_at disk g.way ≡ Some (v.homes number)) same old_file.home;
        regular = old_file.regular;
        there = paged number ∙ old_file.there;
        device = left FD_DEVICE (inl (omega arith)) ∙ old_file.device;
        offset =
            ap (λ (p : Option (ℕ → ℕ)). word_of p FD_OFFSET) here
            ∙ word-told (v.pages number) FD_OFFSET offset old_file.there (omega arith);
        mode = left FD_MODE (inr (omega arith)) ∙ old_file.mode ∙ ap (λ (g : OpenFile). g.mode) same;
        size = left FD_SIZE (inr (omega arith)) ∙ old_file.size ∙ ap (λ (g : OpenFile). g.size) same;
        number_is = left FD_FILE (inr (omega arith)) ∙ old_file.number_is;
        small = short;
        sized = subst (λ (g : OpenFile). g.size < 2 ^ 31) same old_file.sized;
      }

  others : (k other : ℕ) → k ≢ number → other ≢ name → HasFile disk a v k other → HasFile disk at_offset seen_so k other
  others k other elsewhere another has =
      let page : seen_so.pages k ≡ v.pages k = upd-other v.pages number now k elsewhere in
      let read : (at : ℕ) → page_word seen_so k at ≡ page_word v k at = λ at. ap (λ (p : Option (ℕ → ℕ)). word_of p at) page in
      record {
        f = has.f;
        is = upd-other a.objects name (file (record f { offset = offset })) other another ∙ has.is;
        home = has.home;
        regular = has.regular;
        there = paged k ∙ has.there;
        device = read FD_DEVICE ∙ has.device;
        offset = read FD_OFFSET ∙ has.offset;
        mode = read FD_MODE ∙ has.mode;
        size = read FD_SIZE ∙ has.size;
        number_is = read FD_FILE ∙ has.number_is;
        small = has.small;
        sized = has.sized;
      }

  holding : (k : ℕ) → k < MAXOPEN → (other : ℕ) → (a.opened k).held_by ≡ Some other → is_held a other ≡ true → HasFile disk at_offset seen_so k other
  holding k within other place_is held_is = by_test (k == number) refl
    where
      by_test : (b : Bool) → (k == number) ≡ b → HasFile disk at_offset seen_so k other
      by_test true test =
          let at : k ≡ number = grind (arith, nat_tests) in
          let named : other ≡ name = same_name other name (sym place_is ∙ ap (λ (n : ℕ). (a.opened n).held_by) at ∙ place) in
          subst (λ (n : ℕ). HasFile disk at_offset seen_so n other) (sym at)
          (subst (λ (n : ℕ). HasFile disk at_offset seen_so number n) (sym named) own)
      by_test false test =
          let elsewhere : k ≢ number = grind (arith, nat_tests) in
          others k other elsewhere (λ e. elsewhere (table.alone k number name (place_is ∙ ap Some e) place))
          ((table.places k within).holds other place_is held_is)

  places : (k : ℕ) → k < MAXOPEN → PlaceStands disk at_offset seen_so k
  places k within =
      let old : PlaceStands disk a v k = table.places k within in
      record {
        unused = old.unused;
        there = λ e. paged k ∙ old.there e;
        used = λ e. old.used (sym (paged k) ∙ e);
        counts = old.counts;
        holds = holding k within;
      }

  holders : (other : ℕ) (g : OpenFile) → is_held a other ≡ true → at_offset.objects other ≡ file g →
      (k : ℕ) × (k < MAXOPEN) × ((a.opened k).held_by ≡ Some other)
  holders other g held_is tells = by_test (other == name) refl
    where
      by_test : (b : Bool) → (other == name) ≡ b → (k : ℕ) × (k < MAXOPEN) × ((a.opened k).held_by ≡ Some other)
      by_test true test =
          let at : other ≡ name = grind (arith, nat_tests) in (number, below, place ∙ ap Some (sym at))
      by_test false test =
          let another : other ≢ name = grind (arith, nat_tests) in
          table.held other g held_is (sym (upd-other a.objects name (file (record f { offset = offset })) other another) ∙ tells)

  pub offset_stands : TableStands disk at_offset seen_so
  offset_stands =
      record { places = places; held = holders; alone = table.alone; old = table.old; old_held = table.old_held }

-- ---- how far bytes are moved

reads_answer : (byte : ℕ → ℕ) (is_open : List ℕ → Bool) (way : List ℕ) (home at n : ℕ) → place_at byte way ≡ Some home →
    is_directory_at byte home ≡ false → (plan_of is_open byte (read_file way at n)).answer ≡ (read_plan byte home at n).answer
unfolding plan_of
reads_answer byte is_open way home at n stands regular =
    ap (λ (o : Option ℕ). (of_file byte o (λ place. read_plan byte place at n)).answer) stands
    ∙ ap (λ (b : Bool). (if b then turned_down E_INVAL else read_plan byte home at n).answer) regular

writes_answer : (byte : ℕ → ℕ) (is_open : List ℕ → Bool) (way : List ℕ) (home at : ℕ) (new : List ℕ) → place_at byte way ≡ Some home →
    is_directory_at byte home ≡ false → (plan_of is_open byte (write_file way at new)).answer ≡ (write_plan byte home at new).answer
unfolding plan_of
writes_answer byte is_open way home at new stands regular =
    ap (λ (o : Option ℕ). (of_file byte o (λ place. write_plan byte place at new)).answer) stands
    ∙ ap (λ (b : Bool). (if b then turned_down E_INVAL else write_plan byte home at new).answer) regular

read_short : (byte : ℕ → ℕ) (home at n answer : ℕ) → size_of byte home ≤ MAXFILESIZE → at < 2 ^ 31 → answer ≡ (read_plan byte home at n).answer →
    at + answer < 2 ^ 31
unfolding read_plan
read_short byte home at n answer size short is =
    let long : answer ≡ min (min n BLKSIZE) (size_of byte home - at) = is ∙ length-values (min (min n BLKSIZE) (size_of byte home - at)) _ in
    within answer (size_of byte home)
    (subst (λ (m : ℕ). m ≤ size_of byte home - at) (sym long) (min-le_right (min n BLKSIZE) (size_of byte home - at))) size
  where
    within : (m size : ℕ) → m ≤ size - at → size ≤ 4235264 → at + m < 2 ^ 31
    within m size fit all = omega arith

no_disk-is : (answer : ℕ) → answer ≡ negated E_NO_DISK → is_count answer ≡ true → {X : Type 0} → X
no_disk-is answer is many = absurd (false≢true (sym (ap is_count is) ∙ many))

write_short : (byte : ℕ → ℕ) (home at : ℕ) (new : List ℕ) (answer : ℕ) → at < 2 ^ 31 → answer ≡ (write_plan byte home at new).answer →
    is_count answer ≡ true → at + answer < 2 ^ 31
unfolding write_plan
write_short byte home at [] answer short is many = omega arith
write_short byte home at (first ∷ rest) answer short is many = by_end (nat_lt MAXFILESIZE end) refl is
  where
    new : List ℕ
    new = first ∷ rest

    end : ℕ
    end = at + length new

    fine : nat_lt MAXFILESIZE end ≡ false → answer ≡ length new → at + answer < 2 ^ 31
    fine low so = let least : end ≤ 4235264 = grind (arith, nat_tests) in omega arith

    by_fit : nat_lt MAXFILESIZE end ≡ false → (changes : List Change) (b : Bool) →
        answer ≡ (if b then planned changes (length new) else turned_down E_NO_DISK).answer → at + answer < 2 ^ 31
    by_fit low changes true so = fine low so
    by_fit low changes false so = no_disk-is answer so many

    by_size : nat_lt MAXFILESIZE end ≡ false → (changes : List Change) (b : Bool) →
        answer
        ≡ (if b then planned (overwrite home at new ∷ []) (length new)
        else planned_if_it_fits byte home (blocks_grown byte home end) (length new) changes).answer → at + answer < 2 ^ 31
    by_size low changes true so = fine low so
    by_size low changes false so = by_fit low changes (fits byte home (blocks_grown byte home end)) so

    by_end : (b : Bool) → nat_lt MAXFILESIZE end ≡ b →
        answer
        ≡ (if b then turned_down E_NO_DISK
        else if nat_le end (size_of byte home) then planned (overwrite home at new ∷ []) (length new)
        else planned_if_it_fits byte home (blocks_grown byte home end) (length new) (growth byte home end ++ overwrite home at new ∷ [])).answer →
        at + answer < 2 ^ 31
    by_end true test so = no_disk-is answer so many
    by_end false test so = by_size test (growth byte home end ++ overwrite home at new ∷ []) (nat_le end (size_of byte home)) so

-- a record that a way leads to is not longer than a file may be
short_record : (count : ℕ) (disk : ℕ → ℕ) (way : List ℕ) (home : ℕ) → IsDiskImage (BLKSIZE * count) disk → place_at disk way ≡ Some home →
    size_of disk home ≤ MAXFILESIZE
short_record count disk way home image leads = (way-reached (BLKSIZE * count) disk image way home leads).good.readable.short

-- ---- bytes were moved

pub advancing : StepFollows step.Advancing
advancing count a it before small files table so word v reply seen =
    subst (λ (w : View). StandsServing count a (gone_on it (next_for it.state step.Advancing word) w)) (sym seen)
    (record {
      before = before;
      files = files;
      table = table;
      at =
          moved
          (record {
            k = so.k;
            f = so.f;
            name = so.name;
            is_busy = record { server = so.is_busy.server; kind_is = so.is_busy.kind_is; asks = so.is_busy.asks };
            moves = so.moves;
            number = so.number;
            has_acted = so.has_acted;
            many = so.many;
          })
          (ap (λ (n : ℕ). (n + it.state.count) % 2 ^ 32) reply);
    })

-- ---- the store

acts_at_once : (a : AbstractState) (client : ℕ) (request : Request) (place : Option ℕ) → a.server ≡ busy client request place →
    server_step a ≡ Some (act_done a client request place)
unfolding server_step
acts_at_once a client request place is = ap (served a) is

moves_on : (a : AbstractState) (name answer : ℕ) (f : OpenFile) → a.objects name ≡ file f → is_count answer ≡ true →
    moved_on a (Some name) answer ≡ record a { objects = upd a.objects name (file (record f { offset = f.offset + answer })) }
moves_on a name answer f is many = rw (many, is) refl

module _ (count : ℕ) (a : AbstractState) (it : Serving) (before : Memory) (table : TableStands before.disk a it.view) (name : ℕ) (f : OpenFile)
    (so : IsOpenAs a before.page name f) (number : it.state.number ≡ word_at before.page REQUEST_FILE) where
  below : it.state.number < MAXOPEN
  below = subst (λ (n : ℕ). n < MAXOPEN) (sym number) so.below

  place : (a.opened it.state.number).held_by ≡ Some name
  place = ap (λ (n : ℕ). (a.opened n).held_by) number ∙ so.place

  there : FileIs before.disk it.view it.state.number f
  there = subst (λ (n : ℕ). FileIs before.disk it.view n f) (sym number) (file_is before.disk a it.view before.page name f table so)

  -- behind the store
  abbrev stored_so : Serving
  stored_so = gone_on it (shown it.state step.Replying) (with_page_word it.view it.state.number FD_OFFSET it.state.at)

  -- of what was sought
  seeks_so : (files : HasFiles count before a.files) → a.server ≡ busy (client_of it.state) (seek name it.state.at) None →
      it.state.kind ≡ Some kind.Seek →
      it.state.at < 2 ^ 31 → it.state.count ≡ 0 → it.view.memory ≡ before → Follows count a progress.Visible stored_so
  seeks_so files server kind_is short none memory =
      let goes : server_step a ≡ Some (act_done a (client_of it.state) (seek name it.state.at) None) =
      acts_at_once a (client_of it.state) (seek name it.state.at) None server in
      let done : AbstractState = record a { server = acted (client_of it.state) 0 [] None } in (
        record done { objects = upd a.objects name (file (record f { offset = it.state.at })) },
        goes ∙ ap (λ (o : Object). Some (with_offset_of done name it.state.at o)) so.is,
        record {
          before = before;
          files = files;
          table =
              offset_stands before.disk a it.view it.state.number name it.state.at f a.files (acted (client_of it.state) 0 [] None) table below place
              so.held so.is short;
          at =
              record {
                bytes = [];
                object = None;
                server = ap (λ (n : ℕ). acted (client_of it.state) n [] None) (sym none);
                memory = memory;
                handed = λ i within. absurd (omega arith);
                has_object = λ opening. absurd (not_seek (sym kind_is ∙ opening));
              };
        },
      )
    where
      not_seek : ◌≡◌ {A = Option RequestKind} (Some kind.Seek) (Some kind.Open) → ⊥
      not_seek e = cc

  -- of what was read or written
  moves_so : ActsAreDone → (act_is : FileAct) (k : RequestKind) → HasFiles count before a.files → HasString act_is →
      ((client : ℕ) (did : Acted) → after_act a client act_is (Some name) None did
      ≡ moved_on (record a { files = did.files; server = acted client did.answer did.bytes None }) (Some name) did.answer) →
      a.server ≡ busy (client_of it.state) (act act_is (Some name)) None → it.state.kind ≡ Some k → k ≢ kind.Open →
      HasActed (is_file_open a) act_is before it.state.count it.view.memory → is_count it.state.count ≡ true →
      f.offset + it.state.count < 2 ^ 31 → it.state.at ≡ (page_word it.view it.state.number FD_OFFSET + it.state.count) % 2 ^ 32 →
      Follows count a progress.Visible stored_so
  moves_so acts_done act_is k files string after server kind_is not_opening has_acted many short at_is = (
    record now { objects = upd a.objects name (file (record f { offset = it.state.at })) },
    goes,
    record { before = it.view.memory; files = done.files; table = table_now; at = replying },
  )
    where
      did : Acted
      did = file_act (is_file_open a) a.files act_is

      now : AbstractState
      now = record a { files = did.files; server = acted (client_of it.state) did.answer did.bytes None }

      done : ActIsDone count a it.view act_is it.state.count before it.view.memory
      done = acts_done count a it.view act_is it.state.count before it.view.memory string files table has_acted

      at_so : it.state.at ≡ f.offset + it.state.count
      at_so =
          at_is ∙ ap (λ (n : ℕ). (n + it.state.count) % 2 ^ 32) there.offset
          ∙ mod-eq_of_lt {n = f.offset + it.state.count} {m = 2 ^ 32} (omega arith)

      at_did : f.offset + did.answer ≡ it.state.at
      at_did = ap (λ (n : ℕ). f.offset + n) done.answer_is ∙ sym at_so

      goes : server_step a ≡ Some (record now { objects = upd a.objects name (file (record f { offset = it.state.at })) })
      goes =
          acts_at_once a (client_of it.state) (act act_is (Some name)) None server
          ∙ ap (λ (s : AbstractState). Some s)
          (after (client_of it.state) did ∙ moves_on now name did.answer f so.is (ap is_count done.answer_is ∙ many)
          ∙ ap (λ (n : ℕ). record now { objects = upd a.objects name (file (record f { offset = n })) }) at_did)

      table_now : TableStands it.view.memory.disk (record now { objects = upd a.objects name (file (record f { offset = it.state.at })) })
          (with_page_word it.view it.state.number FD_OFFSET it.state.at)
      table_now =
          offset_stands it.view.memory.disk a it.view it.state.number name it.state.at f did.files
          (acted (client_of it.state) did.answer did.bytes None) done.table below place so.held so.is
          (subst (λ (n : ℕ). n < 2 ^ 31) (sym at_so) short)

      not_open : ◌≡◌ {A = Option RequestKind} (Some k) (Some kind.Open) → ⊥
      not_open e = not_opening (let it : ◌≡◌ {A = RequestKind} k kind.Open = cc in it)

      replying : IsReplying (record now { objects = upd a.objects name (file (record f { offset = it.state.at })) }) stored_so it.view.memory
      replying =
          record {
            bytes = did.bytes;
            object = None;
            server = ap (λ (n : ℕ). acted (client_of it.state) n did.bytes None) done.answer_is;
            memory = refl;
            handed = done.bytes;
            has_object = λ opening. absurd (not_open (sym kind_is ∙ opening));
          }

  -- how far that is
  read_far : (n : ℕ) → HasFiles count before a.files → HasActed (is_file_open a) (read_file f.way f.offset n) before it.state.count it.view.memory →
      f.offset + it.state.count < 2 ^ 31
  read_far n files has_acted =
      read_short before.disk (it.view.homes it.state.number) f.offset n it.state.count
      (short_record count before.disk f.way (it.view.homes it.state.number) files.disk there.home) there.small
      (has_acted.answer_is ∙ reads_answer before.disk (is_file_open a) f.way (it.view.homes it.state.number) f.offset n there.home there.regular)

  write_far : (new : List ℕ) → HasFiles count before a.files →
      HasActed (is_file_open a) (write_file f.way f.offset new) before it.state.count it.view.memory → is_count it.state.count ≡ true →
      f.offset + it.state.count < 2 ^ 31
  write_far new files has_acted many =
      write_short before.disk (it.view.homes it.state.number) f.offset new it.state.count there.small
      (has_acted.answer_is ∙ writes_answer before.disk (is_file_open a) f.way (it.view.homes it.state.number) f.offset new there.home there.regular)
      many

-- what a request has done that is an act
ActedBy : AbstractState → Memory → ℕ → Memory → Request → Type 0
ActedBy a before answer m (act f object) = HasActed (is_file_open a) f before answer m
ActedBy a before answer m (seek name offset) = ⊥

by_move : ActsAreDone → (count : ℕ) (a : AbstractState) (it : Serving) (before : Memory) → HasFiles count before a.files →
    TableStands before.disk a it.view → (k : RequestKind) (request : Request) → AsksFor a before.page k request → IsMoving k ≡ true →
    a.server ≡ busy (client_of it.state) request None → it.state.kind ≡ Some k → it.state.number ≡ word_at before.page REQUEST_FILE →
    ActedBy a before it.state.count it.view.memory request → is_count it.state.count ≡ true →
    it.state.at ≡ (page_word it.view it.state.number FD_OFFSET + it.state.count) % 2 ^ 32 →
    Follows count a progress.Visible (gone_on it (shown it.state step.Replying) (with_page_word it.view it.state.number FD_OFFSET it.state.at))
unfolding ActedBy
by_move acts_done count a it before files table _ _ (opens path mode has mode_is) moves server kind_is number has_acted many at_is =
    absurd (false≢true moves)
by_move acts_done count a it before files table _ _ (removes path has) moves server kind_is number has_acted many at_is = absurd (false≢true moves)
by_move acts_done count a it before files table _ _ (reads_at name f so near) moves server kind_is number has_acted many at_is =
    absurd (false≢true moves)
by_move acts_done count a it before files table _ _ (sizes name f so) moves server kind_is number has_acted many at_is = absurd (false≢true moves)
by_move acts_done count a it before files table _ _ (stats name f so) moves server kind_is number has_acted many at_is = absurd (false≢true moves)
by_move acts_done count a it before files table _ _ (seeks name f so small) moves server kind_is number has_acted many at_is =
    absurd (false≢true moves)
by_move acts_done count a it before files table _ _ syncs moves server kind_is number has_acted many at_is = absurd (false≢true moves)
by_move acts_done count a it before files table _ _ (reads name f so) moves server kind_is number has_acted many at_is =
    moves_so count a it before table name f so number acts_done (read_file f.way f.offset (word_at before.page REQUEST_COUNT)) kind.Read files tt
    (λ client did. refl) server kind_is (λ e. cc) has_acted many
    (read_far count a it before table name f so number (word_at before.page REQUEST_COUNT) files has_acted) at_is
by_move acts_done count a it before files table _ _ (writes name f so within) moves server kind_is number has_acted many at_is =
    let new = bytes_given before.page (word_at before.page REQUEST_COUNT) in
    moves_so count a it before table name f so number acts_done (write_file f.way f.offset new) kind.Write files tt
    (λ client did. refl) server kind_is (λ e. cc) has_acted many (write_far count a it before table name f so number new files has_acted many) at_is

-- what a seek names, and how far it goes
record SoughtIn (a : AbstractState) (page : ℕ → ℕ) (name at : ℕ) : Type 0 where
  f : OpenFile
  open_as : IsOpenAs a page name f
  short : at < 2 ^ 31

SoughtBy : AbstractState → (ℕ → ℕ) → Request → Type 0
SoughtBy a page (act f object) = ⊤
SoughtBy a page (seek name at) = SoughtIn a page name at

sought_in : (a : AbstractState) (page : ℕ → ℕ) (k : RequestKind) (request : Request) → AsksFor a page k request → SoughtBy a page request
unfolding SoughtBy
sought_in a page _ _ (opens path mode has mode_is) = tt
sought_in a page _ _ (removes path has) = tt
sought_in a page _ _ (reads name f so) = tt
sought_in a page _ _ (reads_at name f so near) = tt
sought_in a page _ _ (writes name f so within) = tt
sought_in a page _ _ (sizes name f so) = tt
sought_in a page _ _ (stats name f so) = tt
sought_in a page _ _ (seeks name f so small) = record { f = f; open_as = so; short = small }
sought_in a page _ _ syncs = tt

-- the store that opens a file
abbrev pub OpenedFollows : Type 0
OpenedFollows = (count : ℕ) (a : AbstractState) (it : Serving) (before : Memory) → HasFiles count before a.files → TableStands before.disk a it.view →
    AreSmall it.view.memory → IsTold a it before 7 → (v : View) → v ≡ with_page_word it.view it.state.number FD_OFFSET it.state.at → (word : ℕ) →
    let next = next_for it.state step.StoringOffset word in Follows count a next.seen (gone_on it next v)

pub storing_offset : ActsAreDone → OpenedFollows → StepFollows step.StoringOffset
unfolding SoughtBy ActedBy
storing_offset acts_done storing_opened count a it before small files table so word v reply seen =
    subst (λ (w : View). Follows count a progress.Visible (gone_on it (shown it.state step.Replying) w)) (sym seen) (by_case so)
  where
    by_case : IsStoring a it before →
        Follows count a progress.Visible (gone_on it (shown it.state step.Replying) (with_page_word it.view it.state.number FD_OFFSET it.state.at))
    by_case (opened told) = storing_opened count a it before files table small told (with_page_word it.view it.state.number FD_OFFSET it.state.at) refl word
    by_case (moved has at_is) =
        by_move acts_done count a it before files table has.k (act has.f (Some has.name)) has.is_busy.asks has.moves has.is_busy.server
        has.is_busy.kind_is has.number has.has_acted has.many at_is
    by_case (sought name is_busy number at_is none memory) =
        let found : SoughtIn a before.page name it.state.at = sought_in a before.page kind.Seek (seek name it.state.at) is_busy.asks in
        seeks_so count a it before table name found.f found.open_as number files is_busy.server is_busy.kind_is found.short none memory
