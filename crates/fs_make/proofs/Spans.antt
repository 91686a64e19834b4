-- The blocks of files, one file after another.
use Rattle.std.proofs.Common.{◌≡◌, ℕ, suc, ◌+◌, ◌*◌, ◌^◌, ◌<◌, ◌≤◌, List, [], ◌∷◌, length, get_or, drop, refl, ap, sym, ◌∙◌, arith}
use Rattle.std.proofs.Math.Seq.{drop-cons}
use Rattle.std.proofs.lemmas.List.{drop_all}
use Rattle.jos_host.specs.MemHost.{Named}
use Rattle.fs_layout.specs.declared.numbers.TheConstants.{MAXFILESIZE, RECORDSIZE}
use Rattle.fs_make.specs.MakeFaults.{span_of, spans_of, root_size}

spans-nil : spans_of [] ≡ 0
unfolding spans_of
spans-nil = refl

spans-cons : (file : Named) (files : List Named) → spans_of (file ∷ files) ≡ span_of (length file.bytes) + spans_of files
unfolding spans_of
spans-cons file files = refl

-- the files from a place on, of which this is the first
pub drop-next : (files : List Named) (i : ℕ) (file : Named) → i < length files → file ≡ get_or files i file → drop i files ≡ file ∷ drop (i + 1) files
drop-next files i file within at =
    let next : i + 1 ≡ suc i = omega arith in
    rw next (drop-cons files i file within ∙ ap (λ (f : Named). f ∷ drop (suc i) files) (sym at))

pub spans-next : (files : List Named) (i : ℕ) (file : Named) → i < length files → file ≡ get_or files i file →
    spans_of (drop i files) ≡ span_of (length file.bytes) + spans_of (drop (i + 1) files)
spans-next files i file within at = ap spans_of (drop-next files i file within at) ∙ spans-cons file (drop (i + 1) files)

pub spans-end : (files : List Named) (i : ℕ) → length files ≤ i → spans_of (drop i files) ≡ 0
spans-end files i past = ap spans_of (drop_all i files past) ∙ spans-nil

-- a file that a disk can hold has at most so many blocks
pub span-small : (size : ℕ) → size ≤ MAXFILESIZE → span_of size ≤ 1035
span-small size small = grind arith

-- the root directory of fewer than 2 ^ 32 files
pub root-small : (files : ℕ) → files < 2 ^ 32 → root_size files < 2 ^ 42
unfolding root_size
root-small files few = omega arith

pub span-wide : (size : ℕ) → size ≤ 2 ^ 42 → span_of size ≤ 2 ^ 31
span-wide size small = grind arith

-- the root directory has room for the records of all files
pub root-holds : (files : ℕ) → RECORDSIZE * files ≤ root_size files
unfolding root_size
root-holds files = omega arith
