-- An act that a job has made is the tree's: it answers as that, and leaves the files of that; and the table of open files stands over the disk
-- that it leaves, for no act moves a record, and no file is removed that is open.
use Rattle.std.proofs.Common.{◌≡◌, ◌∙◌, ◌<◌, ◌*◌, ◌||◌, ◌++◌, ℕ, zero, suc, Bool, true, false, List, [], ◌∷◌, length, Option, Some, None}
use Rattle.std.proofs.Common.{refl, sym, ap, subst, arith, inl, inr}
use Rattle.std.specs.Prelude.{◌==◌, slice_index, if◌then◌else◌}
use Rattle.std.proofs.lemmas.Bool.{false≢true}
use Rattle.std.proofs.lemmas.Bool.Decides.{nat_tests}
use Rattle.std.proofs.lemmas.Slice.Eq.{bytes_eq-Decides}
use Rattle.std.proofs.Math.Bool.{or-true}
use Rattle.jos_base.specs.declared.numbers.TheConstants.{E_INVAL, NENV}
use Rattle.jos_base.specs.Below.{some_below}
use Rattle.jos_base.specs.Words.{negated}
use Rattle.fs_layout.specs.declared.numbers.TheConstants.{BLKSIZE}
use Rattle.fs_layout.specs.FileTree.{FileAct, FileSystem}
use Rattle.fs_layout.specs.FileTree.{open_path, read_file, remove_path, set_file_size}
use Rattle.fs_layout.specs.FileTree.{stat_file, sync_files, write_file}
use Rattle.fs_layout.specs.FileActs.{Acted, file_act}
use Rattle.fs_layout.specs.DiskImage.{block_count, is_directory_at}
use Rattle.fs_layout.specs.DiskFiles.{IsDiskImage, file_system_of}
use Rattle.fs_acts.specs.BlockActs.{Led, a_record, empty_it, led_to, place_at, plan_of, planned, remove_led, resizing, turned_down}
use Rattle.fs_acts.specs.BlockLaws.{HasString, IsRemoved}
use Rattle.fs_acts.proofs.ComposedLaws.{all-stay, block-acts}
use Rattle.fs_runs.specs.TreeRuns.{HasActed, Memory}
use Rattle.lib_os.specs.declared.numbers.TheConstants.{DESCRIPTORS}
use Rattle.lib_os.specs.AbstractState.{AbstractState, Born, OpenFile, file}
use Rattle.lib_os.specs.AbstractPipes.{holds_such, is_such}
use Rattle.lib_os.specs.Descriptors.{holds_in, is_held, is_name}
use Rattle.lib_os.specs.FileServer.{is_at, is_file_open}
use Rattle.lib_os.specs.GuestStep.{born_in}
use Rattle.lib_os.proofs.ServerActs.{blocks_stay}
use Rattle.fs_serving.specs.ServerRuns.{HasFile, HasFiles, PlaceStands, TableStands}
use Rattle.fs_serving.specs.ServerViews.{View}
use Rattle.fs_serving.proofs.Pieces.{ActIsDone, ActsAreDone}

-- ---- an act leaves the number of blocks

same-count : (count : ℕ) (byte now : ℕ → ℕ) (s t : FileSystem) → file_system_of byte ≡ s → file_system_of now ≡ t → t.blocks ≡ s.blocks →
    block_count byte ≡ count → block_count now ≡ count
unfolding file_system_of
same-count count byte now s t was is same counted =
    ap (λ (x : FileSystem). x.blocks) is ∙ same ∙ sym (ap (λ (x : FileSystem). x.blocks) was) ∙ counted

-- ---- a file that is held is open

pub some-more : (n : ℕ) (f g : ℕ → Bool) → ((i : ℕ) → f i ≡ true → g i ≡ true) → some_below n f ≡ true → some_below n g ≡ true
unfolding some_below
some-more zero f g more is = absurd (false≢true is)
some-more (suc n) f g more is = by (some_below n f) refl is (some-more n f g more)
  where
    by : (b : Bool) → some_below n f ≡ b → (b || f n) ≡ true → (some_below n f ≡ true → some_below n g ≡ true) →
        (some_below n g || g n) ≡ true
    by true e is_ below = ap (λ (b : Bool). b || g n) (below e)
    by false e is_ below = ap (λ (b : Bool). some_below n g || b) (more n is_) ∙ or-true (some_below n g)

module _ (a : AbstractState) (name : ℕ) (f : OpenFile) (is : a.objects name ≡ file f) where
  at-way : is_at f.way (a.objects name) ≡ true
  at-way = ap (is_at f.way) is ∙ (bytes_eq-Decides f.way f.way).1 refl

  such : (held : Option ℕ) → is_name held name ≡ true → is_such a (is_at f.way) held ≡ true
  such None same = absurd (false≢true same)
  such (Some other) same = subst (λ (n : ℕ). is_at f.way (a.objects n) ≡ true) (sym (equal other name same)) at-way
    where
      equal : (m n : ℕ) → (m == n) ≡ true → m ≡ n
      equal m n e = grind (arith, nat_tests)

  holds : (b : Option Born) → holds_in b name ≡ true → holds_such a (is_at f.way) b ≡ true
  holds None held = absurd (false≢true held)
  holds (Some b) held =
      some-more DESCRIPTORS (λ fd. is_name (b.descriptors fd) name) (λ fd. is_such a (is_at f.way) (b.descriptors fd))
      (λ fd. such (b.descriptors fd)) held

  pub held-open : is_held a name ≡ true → is_file_open a f.way ≡ true
  held-open held =
      some-more NENV (λ n. holds_in (born_in (a.slots n)) name) (λ n. holds_such a (is_at f.way) (born_in (a.slots n)))
      (λ n. holds (born_in (a.slots n))) held

-- ---- a file that is open is not removed

refuses : (is_open : List ℕ → Bool) (byte : ℕ → ℕ) (led : Led) (way : List ℕ) (place : ℕ) → led ≡ a_record place way → is_open way ≡ true →
    (remove_led is_open byte led).answer ≡ negated E_INVAL
refuses is_open byte led way place leads opened =
    ap (λ (l : Led). (remove_led is_open byte l).answer) leads
    ∙ ap (λ (b : Bool). (if b then turned_down E_INVAL else planned (resizing byte place 0 ++ empty_it place ∷ []) 0).answer)
    (ap (λ (b : Bool). is_directory_at byte place || b) opened ∙ or-true (is_directory_at byte place))

not-removed : (is_open : List ℕ → Bool) (byte : ℕ → ℕ) (f : FileAct) (way : List ℕ) (place : ℕ) → IsRemoved byte f way place →
    (plan_of is_open byte f).answer ≡ 0 → is_open way ≡ true → ⊥
unfolding plan_of
not-removed is_open byte (open_path path mode) way place gone zero_ opened = gone
not-removed is_open byte (read_file at from n) way place gone zero_ opened = gone
not-removed is_open byte (write_file at from bytes) way place gone zero_ opened = gone
not-removed is_open byte (set_file_size at size) way place gone zero_ opened = gone
not-removed is_open byte (stat_file at) way place gone zero_ opened = gone
not-removed is_open byte (remove_path path) way place gone zero_ opened =
    let clash : negated E_INVAL ≡ 0 = sym (refuses is_open byte (led_to byte path) way place gone opened) ∙ zero_ in omega (arith, clash)
not-removed is_open byte sync_files way place gone zero_ opened = gone

-- ---- the table

module _ (count : ℕ) (a : AbstractState) (v : View) (f : FileAct) (answer : ℕ) (before m : Memory) (string : HasString f)
    (files : HasFiles count before a.files) (table : TableStands before.disk a v) (done : HasActed (is_file_open a) f before answer m) where
  file-stays : (number name : ℕ) → is_held a name ≡ true → HasFile before.disk a v number name → HasFile m.disk a v number name
  file-stays number name held has =
      let stays =
      all-stay (BLKSIZE * count) before.disk (is_file_open a) f files.disk string has.f.way (v.homes number) has.home in
      elim stays [
        | inl there_ ↦
            record {
              f = has.f;
              is = has.is;
              home = subst (λ (d : ℕ → ℕ). place_at d has.f.way ≡ Some (v.homes number)) (sym done.disk) there_.0;
              regular =
                  subst (λ (d : ℕ → ℕ). is_directory_at d (v.homes number) ≡ false) (sym done.disk) (there_.1 ∙ has.regular);
              there = has.there;
              device = has.device;
              offset = has.offset;
              mode = has.mode;
              size = has.size;
              number_is = has.number_is;
              small = has.small;
              sized = has.sized;
            }
        | inr gone ↦
            absurd (not-removed (is_file_open a) before.disk f has.f.way (v.homes number) gone.0 gone.1 (held-open a name has.f has.is held))
      ]

  place-stays : (number : ℕ) → PlaceStands before.disk a v number → PlaceStands m.disk a v number
  place-stays number stands = record {
    unused = stands.unused;
    there = stands.there;
    used = stands.used;
    counts = stands.counts;
    holds = λ name by held. file-stays number name held (stands.holds name by held);
  }

  act-done : ActIsDone count a v f answer before m
  act-done =
      let act = block-acts (BLKSIZE * count) before.disk (is_file_open a) f files.disk string in
      let same : file_act (is_file_open a) (file_system_of before.disk) f ≡ file_act (is_file_open a) a.files f =
      ap (λ (s : FileSystem). file_act (is_file_open a) s f) files.are in
      let bytes_same : (plan_of (is_file_open a) before.disk f).bytes ≡ (file_act (is_file_open a) a.files f).bytes =
      act.bytes ∙ ap (λ (d : Acted). d.bytes) same in
      let tree : file_system_of m.disk ≡ (file_act (is_file_open a) a.files f).files =
      ap file_system_of done.disk ∙ act.gives.tree ∙ ap (λ (d : Acted). d.files) same in
      record {
        answer_is = sym (ap (λ (d : Acted). d.answer) same) ∙ sym act.answer ∙ sym done.answer_is;
        bytes =
            λ k within.
            done.bytes k (subst (λ (l : List ℕ). k < length l) (sym bytes_same) within)
            ∙ ap (λ (l : List ℕ). slice_index l k) bytes_same;
        files =
            record {
              disk = subst (IsDiskImage (BLKSIZE * count)) (sym done.disk) act.gives.sound;
              count_is =
                  same-count count before.disk m.disk a.files (file_act (is_file_open a) a.files f).files files.are tree
                  (blocks_stay (is_file_open a) a.files f) files.count_is;
              are = tree;
            };
        table =
            record {
              places = λ number below. place-stays number (table.places number below);
              held = table.held;
              alone = table.alone;
              old = table.old;
              old_held = table.old_held;
            };
      }

pub acts_are_done : ActsAreDone
acts_are_done = act-done
