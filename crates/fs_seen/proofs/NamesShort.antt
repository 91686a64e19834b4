-- The names of files have room in the records of the disk that has them.
use Rattle.std.proofs.Common.{refl, ◌≡◌, ◌∙◌, ◌≤◌, ◌*◌, ℕ, List, [], ◌∷◌, Option, Some, None, length, sym, ap, subst, arith}
use Rattle.std.specs.Option.{option_map}
use Rattle.std.proofs.lemmas.Option.{none-some, same_Some}
use Rattle.fs_layout.specs.declared.numbers.TheConstants.{BLKSIZE, MAXNAMELEN}
use Rattle.fs_layout.specs.DiskFiles.{IsDiskImage, file_system_of}
use Rattle.fs_layout.specs.FileTree.{FileSystem, NamedNode, named_at, named_from, root_record}
use Rattle.fs_runs.specs.TreeRuns.{Memory}
use Rattle.fs_acts.specs.BlockActs.{place_at}
use Rattle.fs_acts.proofs.Ways.{disk_node, ways-lead}
use Rattle.fs_acts.proofs.WayNames.{ways-names}
use Rattle.fs_runs.proofs.DatasTold.{length-name}
use Rattle.lib_os.specs.AskedFor.{HaveShortNames}
use Rattle.fs_serving.specs.ServerRuns.{HasFiles}

module _ (size : ℕ) (byte : ℕ → ℕ) (image : IsDiskImage size byte) where
  way_short : (way : List ℕ) (named : NamedNode) → named_at (file_system_of byte) way ≡ Some named → length named.name ≤ MAXNAMELEN
  unfolding named_from
  way_short [] named is =
      let root : root_record (file_system_of byte) ≡ named = same_Some _ named is in
      let one : length (root_record (file_system_of byte)).name ≡ 1 = refl in
      let same : length named.name ≡ 1 = ap (λ (x : NamedNode). length x.name) (sym root) ∙ one in
      omega (arith, same)
  way_short (first ∷ way) named is = by_place (place_at byte (first ∷ way)) refl
    where
      leads : option_map (disk_node byte) (place_at byte (first ∷ way)) ≡ Some named.node
      leads = sym (ways-lead size byte image (first ∷ way)) ∙ ap (option_map (λ (found : NamedNode). found.node)) is

      by_place : (o : Option ℕ) → place_at byte (first ∷ way) ≡ o → length named.name ≤ MAXNAMELEN
      by_place None none = absurd (none-some named.node (sym (ap (option_map (disk_node byte)) none) ∙ leads))
      by_place (Some place) some =
          subst (λ (name : List ℕ). length name ≤ MAXNAMELEN) (sym (ways-names size byte image first way place named some is)) (length-name byte place)

pub short_names : (count : ℕ) (m : Memory) (files : FileSystem) → HasFiles count m files → HaveShortNames files
short_names count m files h = subst HaveShortNames h.are (way_short (BLKSIZE * count) m.disk h.disk)
