-- What the records of a directory tell.
use Rattle.std.proofs.Common.{◌≡◌, ◌≢◌, ◌∙◌, ◌+◌, ◌*◌, ◌/◌, ◌%◌, ◌==◌, ◌<◌, ℕ, zero, suc, Bool, true, false}
use Rattle.std.proofs.Common.{List, [], ◌∷◌, ◌++◌, length, take, drop, map, get_or, Option, Some, None, refl, sym, ap, arith, add-one}
use Rattle.std.specs.Prelude.{slice_index, if◌then◌else◌}
use Rattle.std.specs.List.{before_first}
use Rattle.std.proofs.lemmas.List.{get_or-take, get_or-drop, map-append, append-nil}
use Rattle.fs_layout.specs.declared.numbers.TheConstants.{RECORDSIZE, FTYPE_DIR}
use Rattle.fs_layout.specs.declared.records.FileEntry.{FileEntry}
use Rattle.fs_layout.specs.Layout.{file_entry_at, bytes_from}
use Rattle.fs_layout.specs.FileTree.{NamedNode, listed}
use Rattle.jos_base.specs.Below.{values_below}
use Rattle.fs_layout.specs.DiskImage.{size_of, name_of, is_empty_record, is_directory_at}
use Rattle.fs_layout.specs.DiskImage.{slot_count, slot_place}
use Rattle.fs_layout.specs.DiskFiles.{file_byte, file_bytes, node_of, named_of, records_at}
use Rattle.fs_layout.specs.DiskLaws.{IsReadable, AreReadable}
use Rattle.fs_layout.proofs.Places.{entry-same}
use Rattle.fs_contents.specs.Contents.{Told, told_of_node, told_of_records, told_of_entry}
use Rattle.fs_contents.specs.Walks.{entries_below}
use Rattle.fs_contents.proofs.Below.{range-values}
use Rattle.jos_base.proofs.Below.{length-values}
use Rattle.fs_layout.proofs.FileTrees.{listed-records_from}
use Rattle.std.proofs.lemmas.Bool.{ne_eqb, eq-eqb}
use Rattle.jos_base.specs.Words.{word_at}

-- ---- a record that was copied

-- the copy says what the record says
pub copied-entry : (xs record_bytes : List ℕ) (place count : ℕ) → record_bytes ≡ take count (drop place xs) → count ≡ RECORDSIZE →
    file_entry_at (slice_index record_bytes) 0 ≡ file_entry_at (slice_index xs) place
copied-entry xs record_bytes place count e is =
    entry-same (slice_index record_bytes) 0 (slice_index xs) place
    (λ k within.
    let none : 0 + k ≡ k = omega arith in
    let inside : k < count = omega arith in
    ap (λ (l : List ℕ). get_or l (0 + k) 0) e ∙ ap (λ i. get_or (take count (drop place xs)) i 0) none
    ∙ get_or-take count (drop place xs) k 0 inside ∙ get_or-drop place xs k 0)

-- ---- records as a list

-- what two lists tell, one behind the other
told-append : (xs ys : List (Option NamedNode)) → told_of_records (xs ++ ys) ≡ told_of_records xs ++ told_of_records ys
unfolding told_of_records
told-append [] ys = refl
told-append (None ∷ rest) ys = told-append rest ys
told-append (Some named ∷ rest) ys =
    ap (λ (l : List Told). told_of_node named.name named.node ∷ l) (told-append rest ys)

-- how many records the directory at a place has in the tree
pub directory-length : (byte : ℕ → ℕ) (depth place : ℕ) → AreReadable depth byte place → is_directory_at byte place ≡ true →
    length (listed (records_at depth byte place)) ≡ slot_count byte place
unfolding AreReadable records_at listed
directory-length byte zero place readable is = sym (readable.1 is)
directory-length byte (suc depth) place readable is =
    ap length (listed-records_from (values_below (slot_count byte place) (λ i. named_of (records_at depth byte) byte (slot_place byte place i))))
    ∙ length-values (slot_count byte place) (λ i. named_of (records_at depth byte) byte (slot_place byte place i))

-- the record itself is readable
pub own-readable : (byte : ℕ → ℕ) (depth place : ℕ) → AreReadable depth byte place → IsReadable byte place
unfolding AreReadable
own-readable byte zero place readable = readable.0
own-readable byte (suc depth) place readable = readable.0

-- a size of whole blocks is that of whole records
whole-size : (size : ℕ) → size % 4096 ≡ 0 → size ≡ 256 * (size / 256)
whole-size size whole =
    let a : size ≡ 4096 * (size / 4096) = omega arith in
    let b : size / 256 ≡ 16 * (size / 4096) = omega arith in
    omega arith

-- ---- what a record tells

-- its name, its kind and, of a file, its size
entry-name : (byte : ℕ → ℕ) (place : ℕ) → before_first (λ b. b == 0) (bytes_from byte place 128) ≡ name_of byte place
unfolding bytes_from name_of
entry-name byte place = ap (before_first (λ b. b == 0)) (range-values place 128 byte)

pub file-size : (byte : ℕ → ℕ) (place : ℕ) → length (file_bytes byte place) ≡ size_of byte place
unfolding file_bytes
file-size byte place = length-values (size_of byte place) (file_byte byte place)

-- equal parts are told equally
told-is : (name other : List ℕ) (directory kind : Bool) (size count : ℕ) → name ≡ other → directory ≡ kind → size ≡ count →
    ◌≡◌ {A = Told} (record { name = name; directory = directory; size = size }) (record { name = other; directory = kind; size = count })
told-is name other directory kind size count e f g = λ i. record { name = e i; directory = f i; size = g i }

entry-kind : (byte : ℕ → ℕ) (place : ℕ) → (word_at byte (place + 132) == FTYPE_DIR) ≡ is_directory_at byte place
entry-kind byte place = let at : place + 132 ≡ place + 128 + 4 = omega arith in ap (λ k. word_at byte k == 1) at

-- a record tells what stands in the tree
pub entry-told : (byte : ℕ → ℕ) (depth place : ℕ) → AreReadable depth byte place →
    told_of_entry (file_entry_at byte place) ≡ told_of_node (name_of byte place) (node_of (records_at depth byte) byte place)
unfolding file_entry_at
entry-told byte depth place readable = by_kind (is_directory_at byte place) refl
  where
    by_kind : (directory : Bool) → is_directory_at byte place ≡ directory →
        told_of_entry (file_entry_at byte place) ≡ told_of_node (name_of byte place) (node_of (records_at depth byte) byte place)
    by_kind true is =
        rw is
        (told-is _ _ _ true _ _ (entry-name byte place) (entry-kind byte place ∙ is)
        (whole-size (size_of byte place) ((own-readable byte depth place readable).whole is)
        ∙ ap (λ n. 256 * n) (sym (directory-length byte depth place readable is))))
    by_kind false is = rw is (told-is _ _ _ false _ _ (entry-name byte place) (entry-kind byte place ∙ is) (sym (file-size byte place)))

-- ---- what a directory's records tell

-- one record tells what one entry tells
named-told : (byte : ℕ → ℕ) (depth place : ℕ) (empty : Bool) → is_empty_record byte place ≡ empty →
    (is_empty_record byte place ≡ false → AreReadable depth byte place) →
    told_of_records (named_of (records_at depth byte) byte place ∷ [])
    ≡ map told_of_entry (if is_empty_record byte place then [] else file_entry_at byte place ∷ [])
unfolding told_of_records
named-told byte depth place true is readable = rw is refl
named-told byte depth place false is readable =
    let told = entry-told byte depth place (readable is) in
    rw is (ap (λ (t : Told). t ∷ []) (sym told))

-- and so do the first of a directory, so many
below-told : (byte : ℕ → ℕ) (depth directory n : ℕ) →
    ((i : ℕ) → i < n → is_empty_record byte (slot_place byte directory i) ≡ false → AreReadable depth byte (slot_place byte directory i)) →
    told_of_records (values_below n (λ i. named_of (records_at depth byte) byte (slot_place byte directory i)))
    ≡ map told_of_entry (entries_below byte directory n)
unfolding values_below entries_below told_of_records
below-told byte depth directory zero readable = refl
below-told byte depth directory (suc n) readable =
    let f : ℕ → Option NamedNode = λ i. named_of (records_at depth byte) byte (slot_place byte directory i) in
    let place : ℕ = slot_place byte directory n in
    let last : List FileEntry = if is_empty_record byte place then [] else file_entry_at byte place ∷ [] in
    told-append (values_below n f) (f n ∷ [])
    ∙ ap (λ (l : List Told). l ++ told_of_records (f n ∷ []))
    (below-told byte depth directory n (λ i within. readable i (omega arith)))
    ∙ ap (λ (l : List Told). map told_of_entry (entries_below byte directory n) ++ l)
    (named-told byte depth place (is_empty_record byte place) refl (readable n (omega arith)))
    ∙ sym (map-append told_of_entry (entries_below byte directory n) last)

-- no record tells nothing
none-told : (byte : ℕ → ℕ) (directory n : ℕ) → n ≡ 0 → told_of_records [] ≡ map told_of_entry (entries_below byte directory n)
unfolding told_of_records entries_below
none-told byte directory zero none = refl
none-told byte directory (suc n) none = absurd (omega arith)

-- so the tree tells of a directory what its entries tell
pub directory-told : (byte : ℕ → ℕ) (depth directory : ℕ) → AreReadable depth byte directory →
    is_directory_at byte directory ≡ true →
    told_of_records (listed (records_at depth byte directory))
    ≡ map told_of_entry (entries_below byte directory (slot_count byte directory))
unfolding AreReadable records_at listed
directory-told byte zero directory readable is = none-told byte directory (slot_count byte directory) (readable.1 is)
directory-told byte (suc depth) directory readable is =
    ap told_of_records
    (listed-records_from
    (values_below (slot_count byte directory) (λ i. named_of (records_at depth byte) byte (slot_place byte directory i))))
    ∙ below-told byte depth directory (slot_count byte directory) (readable.1 is)

-- ---- one record after another

-- one that is not empty
pub entries-more : (byte : ℕ → ℕ) (directory n place : ℕ) (xs : List FileEntry) (entry : FileEntry) →
    xs ≡ entries_below byte directory n → place ≡ slot_place byte directory n → byte place ≢ 0 → entry ≡ file_entry_at byte place →
    xs ++ entry ∷ [] ≡ entries_below byte directory (n + 1)
unfolding entries_below
entries-more byte directory n place xs entry e at filled is =
    let read : byte (slot_place byte directory n) ≡ byte place = ap byte (sym at) in
    let tested = ap (λ b. b == 0) read ∙ ne_eqb (byte place) 0 filled in
    rw (add-one, entries_below, tested)
    (ap (λ (l : List FileEntry). l ++ entry ∷ []) e
    ∙ ap (λ (x : FileEntry). entries_below byte directory n ++ x ∷ []) (is ∙ ap (file_entry_at byte) at))

-- one that is
pub entries-passed : (byte : ℕ → ℕ) (directory n place : ℕ) (xs : List FileEntry) →
    xs ≡ entries_below byte directory n → place ≡ slot_place byte directory n → byte place ≡ 0 →
    xs ≡ entries_below byte directory (n + 1)
unfolding entries_below
entries-passed byte directory n place xs e at empty =
    let read : byte (slot_place byte directory n) ≡ byte place = ap byte (sym at) in
    let tested = ap (λ b. b == 0) read ∙ eq-eqb (byte place) 0 empty in
    rw (add-one, entries_below, tested) (e ∙ sym (append-nil (entries_below byte directory n)))

-- at first there is none
pub entries-none : (byte : ℕ → ℕ) (directory : ℕ) (xs : List FileEntry) → xs ≡ [] → xs ≡ entries_below byte directory 0
unfolding entries_below
entries-none byte directory xs none = none
