-- The table stands for the abstract state behind a step in which a file may be given up: how often its page is mapped tells who holds it.
use Rattle.std.proofs.Common.{◌≡◌, ◌∙◌, ◌<◌, ◌≤◌, inl, inr, ℕ, Bool, true, false, Option, Some, None, refl, sym, ap, subst, arith}
use Rattle.std.proofs.Common.{if◌then◌else◌}
use Rattle.std.proofs.lemmas.Bool.Decides.{nat_tests}
use Rattle.std.specs.Prelude.{is_some, nat_le, nat_lt}
use Rattle.jos_base.specs.KernelState.{KernelState}
use Rattle.jos_base.specs.Reach.{Entry}
use Rattle.jos_base.specs.SpacesState.{reference_count}
use Rattle.fs_layout.specs.DiskImage.{is_directory_at}
use Rattle.lib_os.specs.declared.numbers.TheConstants.{FD_DEVICE, FD_FILE, FD_MODE, FD_OFFSET, FD_SIZE, MAXOPEN}
use Rattle.lib_os.specs.AbstractLaws.{IsNewName, IsNoFile, LeavesFiles}
use Rattle.lib_os.specs.AbstractState.{AbstractState, Object, OpenFile, Server, TablePlace, acted, busy, file, idle, leaving, looking}
use Rattle.lib_os.specs.Descriptors.{is_held}
use Rattle.lib_os.specs.Disk.{Disk}
use Rattle.lib_os.specs.FileServer.{is_held_by}
use Rattle.fs_tree.specs.TreeSteps.{memory_in}
use Rattle.fs_serving.specs.ServerRuns.{HasFile, PlaceStands, StandsServing, TableStands}
use Rattle.fs_serving.specs.ServerViews.{View, word_of}
use Rattle.fs_serving.proofs.HeldFiles.{held-is-open, open-is-held}
use Rattle.fs_seen.specs.ServerMemory.{bytes_by, entry_of, frame_by, place_page, serving_in, view_in}
use Rattle.fs_seen.specs.ServerOthers.{CountsTell, FilesAreApart, GivesOpened, HasFilesApart, LeavesServed, TablesAreLeft}
use Rattle.fs_seen.specs.ServerWhole.{IsServing, ServesBy}
use Rattle.fs_seen.proofs.ForOthers.{KeepsServed}

-- ---- the table

-- Places are held by the same names, of the same objects. Whoever holds such a name has a file at its place, and a file that is held has one; and no
-- name is held that was not given.
pub record KeepsPlaces (disk : ℕ → ℕ) (a b : AbstractState) (v : View) : Type 0 where
  pub opened : b.opened ≡ a.opened
  pub objects : (number name : ℕ) → (a.opened number).held_by ≡ Some name → b.objects name ≡ a.objects name
  pub has : (number name : ℕ) → number < MAXOPEN → (a.opened number).held_by ≡ Some name → is_held b name ≡ true → HasFile disk a v number name
  pub held : (name : ℕ) (f : OpenFile) → is_held b name ≡ true → b.objects name ≡ file f →
      (number : ℕ) × (number < MAXOPEN) × ((a.opened number).held_by ≡ Some name)
  pub names : a.next_name ≤ b.next_name
  pub old_held : (name : ℕ) → is_held b name ≡ true → name < b.next_name

module _ (disk : ℕ → ℕ) (a b : AbstractState) (v : View) (t : TableStands disk a v) (keeps : KeepsPlaces disk a b v) where
  place_left : (number : ℕ) → (b.opened number).held_by ≡ (a.opened number).held_by
  place_left number = ap (λ (o : ℕ → TablePlace). (o number).held_by) keeps.opened

  pub files_apart : HasFilesApart b
  files_apart = record {
    files = λ number name below by held.
        let was : (a.opened number).held_by ≡ Some name = sym (place_left number) ∙ by in
        let has = keeps.has number name below was held in (has.f, keeps.objects number name was ∙ has.is);
    alone = λ number other name by and. t.alone number other name (sym (place_left number) ∙ by) (sym (place_left other) ∙ and);
  }

  module _ (w : View) (homes : (number : ℕ) → w.homes number ≡ v.homes number) (pages : (number : ℕ) → w.pages number ≡ v.pages number)
      (tells : (number : ℕ) → is_some (w.pages number) ≡ true →
      is_held_by b (b.opened number).held_by ≡ nat_le 2 (w.holders (w.frames number))) where
    word_left : (number at : ℕ) → word_of (w.pages number) at ≡ word_of (v.pages number) at
    word_left number at = ap (λ (o : Option (ℕ → ℕ)). word_of o at) (pages number)

    there_left : (number : ℕ) → is_some (w.pages number) ≡ is_some (v.pages number)
    there_left number = ap (λ (o : Option (ℕ → ℕ)). is_some o) (pages number)

    file_left : (number name : ℕ) → (a.opened number).held_by ≡ Some name → HasFile disk a v number name → HasFile disk b w number name
    file_left number name by h = record {
      f = h.f;
      is = keeps.objects number name by ∙ h.is;
      home = h.home ∙ ap (λ (p : ℕ). Some p) (sym (homes number));
      regular = ap (is_directory_at disk) (homes number) ∙ h.regular;
      there = there_left number ∙ h.there;
      device = word_left number FD_DEVICE ∙ h.device;
      offset = word_left number FD_OFFSET ∙ h.offset;
      mode = word_left number FD_MODE ∙ h.mode;
      size = word_left number FD_SIZE ∙ h.size;
      number_is = word_left number FD_FILE ∙ h.number_is;
      small = h.small;
      sized = h.sized;
    }

    stands_left : (number : ℕ) → number < MAXOPEN → PlaceStands disk a v number → PlaceStands disk b w number
    stands_left number below h = record {
      unused = λ home. place_left number ∙ h.unused (sym (homes number) ∙ home);
      there = λ home. there_left number ∙ h.there (λ none. home (homes number ∙ none));
      used = λ there. ap (λ (o : ℕ → TablePlace). (o number).used) keeps.opened ∙ h.used (sym (there_left number) ∙ there);
      counts = λ home. tells number (there_left number ∙ h.there (λ none. home (homes number ∙ none)));
      holds = λ name by held.
          let was : (a.opened number).held_by ≡ Some name = sym (place_left number) ∙ by in
          file_left number name was (keeps.has number name below was held);
    }

    pub table_left : TableStands disk b w
    table_left = record {
      places = λ number below. stands_left number below (t.places number below);
      held = λ name f held is. (let it = keeps.held name f held is in (it.0, it.1, place_left it.0 ∙ it.2));
      alone = λ number other name by and. t.alone number other name (sym (place_left number) ∙ by) (sym (place_left other) ∙ and);
      old = λ number name by.
          let old = t.old number name (sym (place_left number) ∙ by) in
          let more = keeps.names in
          omega (arith, old, more);
      old_held = keeps.old_held;
    }

-- ---- where a file may be given up

module _ (disk : ℕ → ℕ) (a b : AbstractState) (v : View) (t : TableStands disk a v) (left : LeavesFiles a b) where
  object_left : (number name : ℕ) → (a.opened number).held_by ≡ Some name → b.objects name ≡ a.objects name
  object_left number name by = left.objects name (t.old number name by)

  -- what has a place is no new name
  held_left : (number name : ℕ) → (a.opened number).held_by ≡ Some name → is_held b name ≡ true → is_held a name ≡ true
  held_left number name by held = elim (left.held name held) [
    | inl was ↦ was
    | inr new ↦ let old = t.old number name by in let late = new.0 in absurd (omega (arith, old, late))
  ]

  -- nor is a file
  no_new_file : (name : ℕ) (f : OpenFile) → IsNewName a b name → b.objects name ≡ file f → ⊥
  no_new_file name f new is = subst (λ (o : Object). IsNoFile o) is new.2

  file_before : (name : ℕ) (f : OpenFile) → is_held b name ≡ true → b.objects name ≡ file f → (is_held a name ≡ true) × (a.objects name ≡ file f)
  file_before name f held is = elim (left.held name held) [
    | inl was ↦ (was, sym (left.objects name (t.old_held name was)) ∙ is)
    | inr new ↦ absurd (no_new_file name f new is)
  ]

  pub keeps_files : LeavesServed a b → KeepsServed a b
  keeps_files served = record {
    server = served.server;
    opened = left.opened;
    objects = object_left;
    lost = λ number name below by held. held_left number name by held;
    holds = served.holds;
    open_before = λ way is.
        let it = open-is-held b way is in
        let was = file_before it.0 it.1 it.2 it.3 in
        held-is-open a way it.0 it.1 was.0 was.1 it.4;
  }

  pub keeps_places : KeepsPlaces disk a b v
  keeps_places = record {
    opened = left.opened;
    objects = object_left;
    has = λ number name below by held. (t.places number below).holds name by (held_left number name by held);
    held = λ name f held is. (let was = file_before name f held is in t.held name f was.0 was.1);
    names = left.names;
    old_held = λ name held. elim (left.held name held) [
      | inl was ↦ let old = t.old_held name was in let more = left.names in omega (arith, old, more)
      | inr new ↦ new.1
    ];
  }

-- ---- where one is given

-- what is given is the file of a place
pub places_given : (disk : ℕ → ℕ) (a b : AbstractState) (v : View) (number name : ℕ) → TableStands disk a v → number < MAXOPEN →
    (a.opened number).held_by ≡ Some name → HasFile disk a v number name → GivesOpened a b name → KeepsPlaces disk a b v
places_given disk a b v number name t below at its given = record {
  opened = given.opened;
  objects = λ k other by. object_same other;
  has = λ k other less by held. elim (given.held other held) [
    | inl was ↦ (t.places k less).holds other by was
    | inr same ↦
        let place : number ≡ k = t.alone number k name at (by ∙ ap (λ (n : ℕ). Some n) same) in
        subst (λ (n : ℕ). HasFile disk a v k n) (sym same) (subst (λ (n : ℕ). HasFile disk a v n name) place its)
  ];
  held = λ other f held is. elim (given.held other held) [
    | inl was ↦ t.held other f was (sym (object_same other) ∙ is)
    | inr same ↦ (number, below, at ∙ ap (λ (n : ℕ). Some n) (sym same))
  ];
  names = let same = given.names in omega (arith, same);
  old_held = λ other held. subst (λ (n : ℕ). other < n) (sym given.names) (elim (given.held other held) [
    | inl was ↦ t.old_held other was
    | inr same ↦ subst (λ (n : ℕ). n < a.next_name) (sym same) (t.old number name at)
  ]);
}
  where
    object_same : (other : ℕ) → b.objects other ≡ a.objects other
    object_same other = ap (λ (o : ℕ → Object). o other) given.objects

-- ---- as it is seen

-- the counts tell of what is seen
pub seen_tells : (b : AbstractState) (d : Disk) (s : KernelState) (n : ℕ) → CountsTell s n b → (number : ℕ) →
    is_some ((view_in d s n).pages number) ≡ true →
    is_held_by b (b.opened number).held_by ≡ nat_le 2 ((view_in d s n).holders ((view_in d s n).frames number))
seen_tells b d s n tells number there = by_test (nat_lt number MAXOPEN) refl there
  where
    by_entry : number < MAXOPEN → (o : Option Entry) → entry_of s n (place_page number) ≡ o → is_some (bytes_by s o) ≡ true →
        is_held_by b (b.opened number).held_by ≡ nat_le 2 (reference_count s.spaces (frame_by o))
    by_entry below None is some = absurd (let contradiction : false ≡ true = some in cc)
    by_entry below (Some x) is some = tells number x below is

    by_test : (t : Bool) → nat_lt number MAXOPEN ≡ t → is_some (bytes_by s (if t then entry_of s n (place_page number) else None)) ≡ true →
        is_held_by b (b.opened number).held_by
        ≡ nat_le 2 (reference_count s.spaces (frame_by (if t then entry_of s n (place_page number) else None)))
    by_test true on some = by_entry (grind (arith, nat_tests)) (entry_of s n (place_page number)) refl some
    by_test false off some = absurd (let contradiction : false ≡ true = some in cc)

-- the table of a server that serves stands over some disk
pub table_serving : (a : AbstractState) (d : Disk) (s : KernelState) → IsServing d s 0 a → (disk : ℕ → ℕ) × TableStands disk a (view_in d s 0)
table_serving a d s h = by_server a.server h.serves
  where
    whole : StandsServing d.count a (serving_in d s 0) → (disk : ℕ → ℕ) × TableStands disk a (view_in d s 0)
    whole stands = (stands.before.disk, stands.table)

    by_server : (x : Server) → ServesBy x d s 0 a → (disk : ℕ → ℕ) × TableStands disk a (view_in d s 0)
    by_server idle was = ((memory_in d s 0).disk, was.table)
    by_server leaving was = whole was
    by_server (looking client request place) was = whole was
    by_server (busy client request place) was = whole was
    by_server (acted client answer bytes object) was = whole was

pub files_are_apart : FilesAreApart
files_are_apart a b d s h left =
    let t = table_serving a d s h in files_apart t.0 a b (view_in d s 0) t.1 (keeps_places t.0 a b (view_in d s 0) t.1 left)

pub tables_are_left : TablesAreLeft
tables_are_left disk a b d e s after n t same left tells =
    table_left disk a b (view_in d s n) t (keeps_places disk a b (view_in d s n) t left) (view_in e after n) same.homes same.pages
    (seen_tells b e after n tells)
