-- Where a path leads, by the places of its names.
use Rattle.std.proofs.Common.{◌≡◌, ◌∙◌, ◌+◌, ◌-◌, ◌<◌, ◌≤◌, ℕ, Bool, true, false, List, [], map, length, get_or, drop, Option}
use Rattle.std.proofs.Common.{Some, None, Result, Err, refl, sym, ap, arith, subst, is_some}
use Rattle.std.specs.Prelude.{nat_lt, ◌&&◌, if◌then◌else◌}
use Rattle.std.specs.List.{list_all, All}
use Rattle.std.proofs.lemmas.List.{drop_more, drop_all, length-take-le, length-drop}
use Rattle.jos_base.specs.declared.errno.Errno.{Errno}
use Rattle.jos_base.specs.declared.errno.Errno.TheVariants.{NotFound, BadPath}
use Rattle.fs_layout.specs.declared.paths.Span.{Span}
use Rattle.fs_layout.specs.declared.numbers.TheConstants.{MAXPATHLEN}
use Rattle.fs_layout.specs.FileTree.{Node, FileSystem}
use Rattle.fs_layout.specs.FileActs.{look_from, look_up}
use Rattle.fs_layout.specs.Paths.{name_spans, name_in_path, is_short, LiesIn, parts_of}
use Rattle.fs_layout.specs.DiskImage.{block_count, root_place}
use Rattle.fs_layout.specs.DiskFiles.{IsDiskImage, file_system_of}
use Rattle.fs_layout.proofs.PathParts.{names-stand, good-has_parts}
use Rattle.fs_layout.proofs.DiskSound.{disks-sound}
use Rattle.fs_contents.specs.Contents.{found_node}
use Rattle.fs_contents.specs.Walks.{IsFirstNamed, NoneIsNamed, LeadsOn}
use Rattle.fs_contents.proofs.Ways.{leads-on, leads-nowhere}

-- a path that is refused
pub leads-bad : (s : FileSystem) (path : List ℕ) → parts_of path ≡ None → found_node (look_up s path) ≡ Err BadPath
unfolding look_up
leads-bad s path none = let bad = sym (good-has_parts path) ∙ ap is_some none in rw bad refl

-- the names of a path with parts are those parts
some-is : (t : Bool) (xs ys : List Span) → (if t then Some xs else None) ≡ Some ys → xs ≡ ys
some-is true xs ys e = some-of xs ys e
  where
    some-of : (xs ys : List Span) → ◌≡◌ {A = Option (List Span)} (Some xs) (Some ys) → xs ≡ ys
    some-of xs ys e = cc
some-is false xs ys e = absurd (cc)

spans-are : (path : List ℕ) (spans : List Span) → parts_of path ≡ Some spans → name_spans path ≡ spans
unfolding parts_of
spans-are path spans e =
    some-is (nat_lt (length path) MAXPATHLEN && list_all is_short (name_spans path)) (name_spans path) spans e

-- a path with parts leads along the names in them
look-along : (s : FileSystem) (path : List ℕ) (spans : List Span) → parts_of path ≡ Some spans →
    found_node (look_up s path) ≡ found_node (look_from (map (name_in_path path) spans) s.root)
unfolding look_up
look-along s path spans e =
    let good = sym (good-has_parts path) ∙ ap is_some e in
    let names = sym (names-stand path) ∙ ap (map (name_in_path path)) (spans-are path spans e) in
    rw good (ap (λ ns. found_node (look_from ns s.root)) names)

-- from the root on
pub leads-first : (total : ℕ) (byte : ℕ → ℕ) (path : List ℕ) (spans : List Span) → IsDiskImage total byte →
    parts_of path ≡ Some spans → LeadsOn byte (found_node (look_up (file_system_of byte) path)) (map (name_in_path path) spans) root_place
unfolding file_system_of
leads-first total byte path spans image e = record {
  depth = block_count byte;
  readable = (disks-sound total byte image).records;
  found_is = look-along (file_system_of byte) path spans e;
}

-- no name is empty
name-some : (path : List ℕ) (span : Span) → LiesIn (length path) span → 0 < length (name_in_path path span)
name-some path span lies =
    let some = lies.some in
    let within = lies.within in
    let long =
    length-take-le (span.to - span.from) (drop span.from path) (omega (arith, length-drop span.from path)) in
    omega arith

-- one name further
pub leads-more : (byte : ℕ → ℕ) (found : Result Node Errno) (path : List ℕ) (spans : List Span) (i : ℕ) (d : Span)
    (directory place : ℕ) → i < length spans → All (LiesIn (length path)) spans →
    LeadsOn byte found (map (name_in_path path) (drop i spans)) directory →
    IsFirstNamed byte directory (name_in_path path (get_or spans i d)) place →
    LeadsOn byte found (map (name_in_path path) (drop (i + 1) spans)) place
leads-more byte found path spans i d directory place within lie leads named =
    let span : Span = get_or spans i d in
    leads-on byte found (name_in_path path span) (map (name_in_path path) (drop (i + 1) spans)) directory place
    (name-some path span (lie i d within))
    (subst (λ ns. LeadsOn byte found ns directory) (ap (map (name_in_path path)) (drop_more spans i d within)) leads) named

-- or no further
pub leads-no_more : (byte : ℕ → ℕ) (found : Result Node Errno) (path : List ℕ) (spans : List Span) (i : ℕ) (d : Span)
    (directory : ℕ) → i < length spans → LeadsOn byte found (map (name_in_path path) (drop i spans)) directory →
    NoneIsNamed byte directory (name_in_path path (get_or spans i d)) → found ≡ Err NotFound
leads-no_more byte found path spans i d directory within leads none =
    leads-nowhere byte found (name_in_path path (get_or spans i d)) (map (name_in_path path) (drop (i + 1) spans)) directory
    (subst (λ ns. LeadsOn byte found ns directory) (ap (map (name_in_path path)) (drop_more spans i d within)) leads) none

-- behind the last name
pub leads-last : (byte : ℕ → ℕ) (found : Result Node Errno) (path : List ℕ) (spans : List Span) (i place : ℕ) →
    length spans ≤ i → LeadsOn byte found (map (name_in_path path) (drop i spans)) place → LeadsOn byte found [] place
leads-last byte found path spans i place past leads =
    subst (λ ns. LeadsOn byte found ns place) (ap (map (name_in_path path)) (drop_all i spans past)) leads
