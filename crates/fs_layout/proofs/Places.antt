-- What stands in the same bytes is the same.
use Rattle.std.proofs.Common.{◌≡◌, ℕ, ◌+◌, ◌*◌, ◌≤◌, [], ◌∷◌, Some, None, sym, ap, ◌∙◌, arith}
use Rattle.std.specs.Prelude.{◌==◌, if◌then◌else◌}
use Rattle.std.specs.Int.{w32, from_le_bytes}
use Rattle.std.proofs.lemmas.List.FromFn.{fill_by_all, length-map-range_with_len, get_or-map-range_with_len}
use Rattle.jos_base.specs.Words.{word_at}
use Rattle.fs_layout.specs.declared.numbers.TheConstants.{RECORDSIZE, MAXNAMELEN, NDIRECT, FS_MAGIC}
use Rattle.fs_layout.specs.declared.numbers.TheConstants.{BLOCKS_AT, ROOT_AT, SIZE_AT, KIND_AT, DIRECT_AT, INDIRECT_AT}
use Rattle.fs_layout.specs.Layout.{bytes_from, words_from, file_entry_at, super_at}
use Rattle.fs_layout.specs.LayoutLaws.{Same}

-- some of the bytes
further : (m k n : ℕ) (byte : ℕ → ℕ) (at : ℕ) (other : ℕ → ℕ) (place : ℕ) → k + n ≤ m → Same m byte at other place → Same n byte (at + k) other (place + k)
further m k n byte at other place within same j lt =
    let a : at + k + j ≡ at + (k + j) = omega arith in
    let b : place + k + j ≡ place + (k + j) = omega arith in
    ap byte a ∙ same (k + j) (omega arith) ∙ ap other (sym b)

word-same : (byte : ℕ → ℕ) (at : ℕ) (other : ℕ → ℕ) (place : ℕ) → Same 4 byte at other place → word_at byte at ≡ word_at other place
word-same byte at other place same =
    let a : byte at ≡ other place = ap byte (omega arith) ∙ same 0 (omega arith) ∙ ap other (omega arith) in
    let b = same 1 (omega arith) in
    let c = same 2 (omega arith) in
    let d = same 3 (omega arith) in
    λ i. from_le_bytes w32 (a i ∷ b i ∷ c i ∷ d i ∷ [])

bytes-same : (n : ℕ) (byte : ℕ → ℕ) (at : ℕ) (other : ℕ → ℕ) (place : ℕ) → Same n byte at other place → bytes_from byte at n ≡ bytes_from other place n
unfolding bytes_from
bytes-same n byte at other place same =
    fill_by_all (λ k. other (place + k)) (bytes_from byte at n) n 0 (length-map-range_with_len (λ k. byte (at + k)) 0 n)
    (λ k within. get_or-map-range_with_len (λ k. byte (at + k)) 0 n k k 0 within (omega arith) ∙ same k within)

words-same : (n : ℕ) (byte : ℕ → ℕ) (at : ℕ) (other : ℕ → ℕ) (place : ℕ) → Same (4 * n) byte at other place → words_from byte at n ≡ words_from other place n
unfolding words_from
words-same n byte at other place same =
    fill_by_all (λ k. word_at other (place + 4 * k)) (words_from byte at n) n 0 (length-map-range_with_len (λ k. word_at byte (at + 4 * k)) 0 n)
    (λ k within. get_or-map-range_with_len (λ k. word_at byte (at + 4 * k)) 0 n k k 0 within (omega arith)
    ∙ word-same byte (at + 4 * k) other (place + 4 * k) (further (4 * n) (4 * k) 4 byte at other place (omega arith) same))

pub entry-same : (byte : ℕ → ℕ) (at : ℕ) (other : ℕ → ℕ) (place : ℕ) → Same RECORDSIZE byte at other place → file_entry_at byte at ≡ file_entry_at other place
unfolding file_entry_at
entry-same byte at other place same =
    let n = bytes-same MAXNAMELEN byte at other place (λ k lt. same k (omega arith)) in
    let s = word-same byte (at + SIZE_AT) other (place + SIZE_AT) (further RECORDSIZE SIZE_AT 4 byte at other place (omega arith) same) in
    let t = word-same byte (at + KIND_AT) other (place + KIND_AT) (further RECORDSIZE KIND_AT 4 byte at other place (omega arith) same) in
    let d = words-same NDIRECT byte (at + DIRECT_AT) other (place + DIRECT_AT) (further RECORDSIZE DIRECT_AT (4 * NDIRECT) byte at other place (omega arith) same) in
    let e = word-same byte (at + INDIRECT_AT) other (place + INDIRECT_AT) (further RECORDSIZE INDIRECT_AT 4 byte at other place (omega arith) same) in
    λ i. record { name = n i; size = s i; kind = t i; direct = d i; indirect = e i }

pub super-same : (byte : ℕ → ℕ) (at : ℕ) (other : ℕ → ℕ) (place : ℕ) → Same (ROOT_AT + RECORDSIZE) byte at other place → super_at byte at ≡ super_at other place
unfolding super_at
super-same byte at other place same =
    let m = word-same byte at other place (λ k lt. same k (omega arith)) in
    let b = word-same byte (at + BLOCKS_AT) other (place + BLOCKS_AT) (further (ROOT_AT + RECORDSIZE) BLOCKS_AT 4 byte at other place (omega arith) same) in
    let r = entry-same byte (at + ROOT_AT) other (place + ROOT_AT) (further (ROOT_AT + RECORDSIZE) ROOT_AT RECORDSIZE byte at other place (omega arith) same) in
    λ i. if m i == FS_MAGIC then Some (record { blocks = b i; root = r i }) else None
