-- What is written from the first byte on, and how it is read back.
use Rattle.std.proofs.Common.{◌≡◌, ℕ, zero, suc, ◌+◌, ◌-◌, ◌*◌, ◌^◌, ◌<◌, ◌≤◌, List, [], ◌∷◌, ◌++◌, length, get_or, take, Some}
use Rattle.std.proofs.Common.{refl, sym, ap, ◌∙◌, arith, append_assoc, length-append, add-one}
use Rattle.std.specs.Prelude.{slice_index}
use Rattle.std.specs.Int.{w32, to_le_bytes, from_le_bytes}
use Rattle.std.proofs.Math.Seq.{take-suc}
use Rattle.std.proofs.Math.ListN.{get_or-append}
use Rattle.std.proofs.lemmas.Nat.{from_le_bytes-to_le_bytes_4}
use Rattle.std.proofs.lemmas.List.{get_or-append-add}
use Rattle.std.proofs.lemmas.List.FromFn.{fill_by_all}
use Rattle.std.proofs.lemmas.List.{length-replicate}
use Rattle.jos_base.specs.TrapFrames.{bytes_of_words}
use Rattle.fs_layout.specs.declared.records.FileEntry.{FileEntry}
use Rattle.fs_layout.specs.declared.records.Super.{Super}
use Rattle.fs_layout.specs.declared.numbers.TheConstants.{BLKSIZE, RECORDSIZE, MAXNAMELEN, NDIRECT, FS_MAGIC}
use Rattle.fs_layout.specs.declared.numbers.TheConstants.{BLOCKS_AT, ROOT_AT, SIZE_AT, KIND_AT, DIRECT_AT, INDIRECT_AT, PADDING_AT}
use Rattle.fs_layout.specs.Layout.{bytes_from, words_from, file_entry_at, super_at, zeros, entry_bytes, super_bytes, EntryFits}
use Rattle.jos_base.proofs.WordBytes.{length-bytes_of_words, bytes_of_words-append, bytes_of_words-one}
use Rattle.jos_base.specs.Words.{word_at}

-- ---- writing

-- one word more
pub words-more : (words : List ℕ) (i : ℕ) → i < length words → bytes_of_words (take i words) ++ to_le_bytes w32 (get_or words i 0) ≡ bytes_of_words (take (i + 1) words)
words-more words i within =
    ap (λ (l : List ℕ). bytes_of_words (take i words) ++ l) (sym (bytes_of_words-one (get_or words i 0)))
    ∙ sym (bytes_of_words-append (take i words) (get_or words i 0 ∷ []))
    ∙ ap bytes_of_words (sym (rw add-one (take-suc words i 0 within)))

pub length-zeros : (n : ℕ) → length (zeros n) ≡ n
unfolding zeros
length-zeros n = length-replicate n 0

-- five pieces, each behind those before it
pub five : (before a b c d e one two three four all : List ℕ) → one ≡ before ++ a → two ≡ one ++ b → three ≡ two ++ c → four ≡ three ++ d → all ≡ four ++ e →
    all ≡ before ++ (a ++ (b ++ (c ++ (d ++ e))))
five before a b c d e one two three four all p q r s t = rw (t, s, r, q, p) (simp append_assoc)

pub three : (a b c one two all : List ℕ) → one ≡ a → two ≡ one ++ b → all ≡ two ++ c → all ≡ a ++ (b ++ c)
three a b c one two all p q r = rw (r, q, p) (simp append_assoc)

-- ---- reading back

-- the bytes from a place on are these
pub record Stands (byte : ℕ → ℕ) (at : ℕ) (bytes : List ℕ) : Type 0 where
  pub each : (k : ℕ) → k < length bytes → byte (at + k) ≡ get_or bytes k 0

-- bytes by themselves
pub stands-whole : (bytes : List ℕ) → Stands (slice_index bytes) 0 bytes
stands-whole bytes = record { each = λ k within. ap (λ n. get_or bytes n 0) (omega arith) }

pub stands-first : (byte : ℕ → ℕ) (at : ℕ) (first rest : List ℕ) → Stands byte at (first ++ rest) → Stands byte at first
stands-first byte at first rest all = record {
  each = λ k within. all.each k (omega (arith, length-append first rest)) ∙ get_or-append first rest 0 k within;
}

pub stands-rest : (byte : ℕ → ℕ) (at next : ℕ) (first rest : List ℕ) → next ≡ at + length first → Stands byte at (first ++ rest) → Stands byte next rest
stands-rest byte at next first rest behind all = record {
  each = λ k within.
      let place : next + k ≡ at + (length first + k) = omega arith in
      ap byte place ∙ all.each (length first + k) (omega (arith, length-append first rest)) ∙ get_or-append-add first rest k 0;
}

-- a word
pub word-back : (byte : ℕ → ℕ) (at word : ℕ) (rest : List ℕ) → word < 2 ^ 32 → Stands byte at (bytes_of_words (word ∷ rest)) → word_at byte at ≡ word
unfolding bytes_of_words
word-back byte at word rest fits all =
    let long : 4 ≤ length (bytes_of_words (word ∷ rest)) = omega (arith, length-bytes_of_words (word ∷ rest)) in
    let a : byte at ≡ get_or (to_le_bytes w32 word) 0 0 = ap byte (omega arith) ∙ all.each 0 (omega arith) in
    let b : byte (at + 1) ≡ get_or (to_le_bytes w32 word) 1 0 = all.each 1 (omega arith) in
    let c : byte (at + 2) ≡ get_or (to_le_bytes w32 word) 2 0 = all.each 2 (omega arith) in
    let d : byte (at + 3) ≡ get_or (to_le_bytes w32 word) 3 0 = all.each 3 (omega arith) in
    (λ i. from_le_bytes w32 (a i ∷ b i ∷ c i ∷ d i ∷ [])) ∙ from_le_bytes-to_le_bytes_4 word fits

-- a word among others
words-back : (byte : ℕ → ℕ) (at : ℕ) (words : List ℕ) → ((k : ℕ) → get_or words k 0 < 2 ^ 32) → Stands byte at (bytes_of_words words) →
    (k : ℕ) → k < length words → word_at byte (at + 4 * k) ≡ get_or words k 0
unfolding bytes_of_words
words-back byte at [] fits all k within = absurd (omega arith)
words-back byte at (word ∷ rest) fits all zero within = ap (word_at byte) (omega arith) ∙ word-back byte at word rest (fits 0) all
words-back byte at (word ∷ rest) fits all (suc k) within =
    let place : at + 4 * suc k ≡ at + 4 + 4 * k = omega arith in
    ap (word_at byte) place ∙ words-back byte (at + 4) rest (λ j. fits (suc j)) (stands-rest byte at (at + 4) (to_le_bytes w32 word) (bytes_of_words rest) refl all) k (omega arith)

entries-same : (a b : FileEntry) → a.name ≡ b.name → a.size ≡ b.size → a.kind ≡ b.kind → a.direct ≡ b.direct → a.indirect ≡ b.indirect → a ≡ b
entries-same a b n s k d i = λ j. record { name = n j; size = s j; kind = k j; direct = d j; indirect = i j }

kind-stands : (byte : ℕ → ℕ) (at next size kind : ℕ) → next ≡ at + 4 → Stands byte at (bytes_of_words (size ∷ kind ∷ [])) → Stands byte next (bytes_of_words (kind ∷ []))
unfolding bytes_of_words
kind-stands byte at next size kind behind all = stands-rest byte at next (to_le_bytes w32 size) (bytes_of_words (kind ∷ [])) behind all

pub entry-back : (byte : ℕ → ℕ) (at : ℕ) (e : FileEntry) → EntryFits e → Stands byte at (entry_bytes e) → file_entry_at byte at ≡ e
unfolding file_entry_at entry_bytes bytes_from words_from
entry-back byte at e sized all =
    let last : List ℕ = zeros (RECORDSIZE - PADDING_AT) in
    let two : List ℕ = bytes_of_words (e.size ∷ e.kind ∷ []) in
    let ten : List ℕ = bytes_of_words e.direct in
    let one : List ℕ = bytes_of_words (e.indirect ∷ []) in
    let from_size = stands-rest byte at (at + SIZE_AT) e.name (two ++ (ten ++ (one ++ last))) (omega (arith, sized.name)) all in
    let from_direct = stands-rest byte (at + SIZE_AT) (at + DIRECT_AT) two (ten ++ (one ++ last)) (omega (arith, length-bytes_of_words (e.size ∷ e.kind ∷ []))) from_size in
    let from_indirect = stands-rest byte (at + DIRECT_AT) (at + INDIRECT_AT) ten (one ++ last) (omega (arith, sized.direct, length-bytes_of_words e.direct)) from_direct in
    let sizes = stands-first byte (at + SIZE_AT) two (ten ++ (one ++ last)) from_size in
    entries-same _ e
    (sym (fill_by_all (λ k. byte (at + k)) e.name MAXNAMELEN 0 sized.name (λ k within. sym ((stands-first byte at e.name (two ++ (ten ++ (one ++ last))) all).each k (omega (arith, sized.name))))))
    (word-back byte (at + SIZE_AT) e.size (e.kind ∷ []) sized.size sizes)
    (word-back byte (at + KIND_AT) e.kind [] sized.kind (kind-stands byte (at + SIZE_AT) (at + KIND_AT) e.size e.kind (omega arith) sizes))
    (sym (fill_by_all (λ k. word_at byte (at + DIRECT_AT + 4 * k)) e.direct NDIRECT 0 sized.direct
    (λ k within. sym (words-back byte (at + DIRECT_AT) e.direct sized.each (stands-first byte (at + DIRECT_AT) ten (one ++ last) from_direct) k (omega (arith, sized.direct))))))
    (word-back byte (at + INDIRECT_AT) e.indirect [] sized.indirect (stands-first byte (at + INDIRECT_AT) one last from_indirect))

pub length-entry_bytes : (e : FileEntry) → EntryFits e → length (entry_bytes e) ≡ RECORDSIZE
unfolding entry_bytes
length-entry_bytes e sized =
    let last : List ℕ = zeros (RECORDSIZE - PADDING_AT) in
    let two : List ℕ = bytes_of_words (e.size ∷ e.kind ∷ []) in
    let ten : List ℕ = bytes_of_words e.direct in
    let one : List ℕ = bytes_of_words (e.indirect ∷ []) in
    omega (
      arith,
      sized.name,
      sized.direct,
      length-zeros (RECORDSIZE - PADDING_AT),
      length-bytes_of_words (e.size ∷ e.kind ∷ []),
      length-bytes_of_words e.direct,
      length-bytes_of_words (e.indirect ∷ []),
      length-append e.name (two ++ (ten ++ (one ++ last))),
      length-append two (ten ++ (one ++ last)),
      length-append ten (one ++ last),
      length-append one last,
    )

pub super-back : (byte : ℕ → ℕ) (at : ℕ) (s : Super) → s.blocks < 2 ^ 32 → EntryFits s.root → Stands byte at (super_bytes s) → super_at byte at ≡ Some s
unfolding super_at super_bytes
super-back byte at s blocks sized all =
    let two : List ℕ = bytes_of_words (FS_MAGIC ∷ s.blocks ∷ []) in
    let last : List ℕ = zeros (BLKSIZE - (ROOT_AT + RECORDSIZE)) in
    let words = stands-first byte at two (entry_bytes s.root ++ last) all in
    let root = stands-first byte (at + ROOT_AT) (entry_bytes s.root) last (stands-rest byte at (at + ROOT_AT) two (entry_bytes s.root ++ last) (omega (arith, length-bytes_of_words (FS_MAGIC ∷ s.blocks ∷ []))) all) in
    rw (word-back byte at FS_MAGIC (s.blocks ∷ []) (omega arith) words, word-back byte (at + BLOCKS_AT) s.blocks [] blocks (kind-stands byte at (at + BLOCKS_AT) FS_MAGIC s.blocks refl words), entry-back byte (at + ROOT_AT) s.root sized root) refl
