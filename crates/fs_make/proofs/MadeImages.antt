-- What the bytes of an image say that is made of files without a fault.
use Rattle.std.proofs.Common.{◌≡◌, ◌∙◌, ◌+◌, ◌-◌, ◌*◌, ◌/◌, ◌%◌, ◌^◌, ◌<◌, ◌≤◌, ◌==◌, ℕ, zero, suc, true}
use Rattle.std.proofs.Common.{List, [], ◌∷◌, ◌++◌, length, get_or, min, refl, sym, ap, subst, arith, length-append}
use Rattle.std.specs.Prelude.{slice_index, codes}
use Rattle.std.specs.Int.{bit_at}
use Rattle.std.proofs.lemmas.Bool.{eq-eqb}
use Rattle.std.proofs.lemmas.List.{get_or-append_right}
use Rattle.std.proofs.lemmas.List.FromFn.{length-map-range_with_len, get_or-map-range_with_len}
use Rattle.std.proofs.lemmas.Nat.Bits.{bit_at_mask_inside, bit_at_mask_below}
use Rattle.jos_base.specs.TrapFrames.{bytes_of_words}
use Rattle.jos_host.specs.MemHost.{Named}
use Rattle.fs_layout.specs.declared.records.FileEntry.{FileEntry}
use Rattle.fs_layout.specs.declared.numbers.TheConstants.{BLKSIZE, RECORDSIZE, BLKFILES, MAXFILESIZE, MAXBLOCKS}
use Rattle.fs_layout.specs.declared.numbers.TheConstants.{FTYPE_REG, FTYPE_DIR, FS_MAGIC}
use Rattle.fs_layout.specs.Layout.{zeros, entry_bytes, super_bytes}
use Rattle.fs_layout.specs.FileTree.{bitmap_blocks}
use Rattle.fs_layout.specs.DiskImage.{root_place, size_of}
use Rattle.fs_layout.specs.DiskImage.{is_empty_record, block_number_at, slot_count, slot_place, first_data_block}
use Rattle.fs_layout.specs.DiskFiles.{file_byte}
use Rattle.fs_layout.proofs.Written.{Stands, stands-whole, length-zeros, length-entry_bytes}
use Rattle.fs_make.specs.MakeFaults.{root_size, span_of, spans_of, blocks_used}
use Rattle.fs_make.specs.MadeImage.{made_entry, node_blocks, files_entries, files_blocks, root_bytes, bitmap_byte, bitmap_bytes}
use Rattle.fs_make.specs.MadeImage.{first_file_block, made_super, made_image}
use Rattle.fs_make.proofs.MadeRecords.{file_at, starts_at, starts-within, Faultless, SaysRoot, SaysFile, Says}
use Rattle.fs_make.proofs.Standing.{get_or-zeros, words-rest}
use Rattle.fs_make.proofs.FileNames.{file-name, name-read, name-some}
use Rattle.fs_make.proofs.MadeNodes.{length-node, node-stands}
use Rattle.fs_make.proofs.MadeEntries.{RecordSays, InRange, entry-fits, record-says, laid-from, entry-name, file-byte, file-bytes}
use Rattle.fs_layout.proofs.Written.{stands-first, stands-rest, word-back}
use Rattle.jos_base.proofs.WordBytes.{length-bytes_of_words}

-- ---- the records of the files

-- the record of the file with a number
file_entry : ℕ → List Named → ℕ → FileEntry
file_entry first files i = made_entry (file_at files i).name (length (file_at files i).bytes) FTYPE_REG (starts_at first files i)

-- each file fits a record
abbrev AllInRange : ℕ → List Named → Type 0
AllInRange first files = (i : ℕ) → i < length files →
    InRange (file_at files i).name (length (file_at files i).bytes) FTYPE_REG (starts_at first files i)

-- so do those behind the first
later-in-range : (first : ℕ) (file : Named) (files : List Named) → AllInRange first (file ∷ files) →
    AllInRange (first + span_of (length file.bytes)) files
unfolding file_at starts_at
later-in-range first file files all = λ i within. all (suc i) (omega arith)

-- how long the records are
length-entry : (first : ℕ) (file : Named) (files : List Named) → AllInRange first (file ∷ files) →
    length (entry_bytes (made_entry file.name (length file.bytes) FTYPE_REG first)) ≡ RECORDSIZE
unfolding file_at starts_at
length-entry first file files all = length-entry_bytes _ (entry-fits file.name (length file.bytes) FTYPE_REG first (all 0 (omega arith)))

length-files_entries : (first : ℕ) (files : List Named) → AllInRange first files → length (files_entries first files) ≡ RECORDSIZE * length files
unfolding files_entries
length-files_entries first [] all = refl
length-files_entries first (file ∷ files) all =
    length-append (entry_bytes (made_entry file.name (length file.bytes) FTYPE_REG first)) (files_entries (first + span_of (length file.bytes)) files)
    ∙ sum _ _ (length files) (length-entry first file files all)
    (length-files_entries (first + span_of (length file.bytes)) files (later-in-range first file files all))
  where
    sum : (a b n : ℕ) → a ≡ RECORDSIZE → b ≡ RECORDSIZE * n → a + b ≡ RECORDSIZE * suc n
    sum a b n p q = omega arith

-- where the records stand, each stands behind those before it
entry-stands : (byte : ℕ → ℕ) (at first : ℕ) (files : List Named) (i : ℕ) → AllInRange first files → Stands byte at (files_entries first files) →
    i < length files → Stands byte (at + RECORDSIZE * i) (entry_bytes (file_entry first files i))
unfolding files_entries file_entry file_at starts_at
entry-stands byte at first [] i all stands within = absurd (omega arith)
entry-stands byte at first (file ∷ files) zero all stands within =
    subst (λ (p : ℕ). Stands byte p (entry_bytes (made_entry file.name (length file.bytes) FTYPE_REG first))) (start at)
    (stands-first byte at (entry_bytes (made_entry file.name (length file.bytes) FTYPE_REG first)) _ stands)
  where
    start : (p : ℕ) → p ≡ p + RECORDSIZE * 0
    start p = omega arith
entry-stands byte at first (file ∷ files) (suc i) all stands within =
    let next : ℕ = first + span_of (length file.bytes) in
    subst (λ (p : ℕ). Stands byte p (entry_bytes (file_entry next files i))) (place at i)
    (entry-stands byte (at + RECORDSIZE) next files i (later-in-range first file files all)
    (stands-rest byte at (at + RECORDSIZE) (entry_bytes (made_entry file.name (length file.bytes) FTYPE_REG first)) _
    (ap (λ (n : ℕ). at + n) (sym (length-entry first file files all))) stands)
    (omega arith))
  where
    place : (p i : ℕ) → p + RECORDSIZE + RECORDSIZE * i ≡ p + RECORDSIZE * suc i
    place p i = omega arith

-- the directory has its whole size
length-root_bytes : (first : ℕ) (files : List Named) → AllInRange first files → length (root_bytes first files) ≡ root_size (length files)
unfolding root_bytes root_size
length-root_bytes first files all =
    omega (
      arith,
      length-append (files_entries first files) (zeros (root_size (length files) - RECORDSIZE * length files)),
      length-files_entries first files all,
      length-zeros (root_size (length files) - RECORDSIZE * length files),
    )

-- ---- the slots of the root directory

-- a byte of a slot
slot-byte : (byte : ℕ → ℕ) (directory i k : ℕ) → k < RECORDSIZE → byte (slot_place byte directory i + k) ≡ file_byte byte directory (RECORDSIZE * i + k)
slot-byte byte directory i k within =
    ap byte (place (block_number_at byte directory (i / BLKFILES)) i k within)
    ∙ ap (λ (n : ℕ). byte (BLKSIZE * block_number_at byte directory n + (RECORDSIZE * i + k) % BLKSIZE)) (block i k within)
  where
    place : (n i k : ℕ) → k < RECORDSIZE → BLKSIZE * n + RECORDSIZE * (i % BLKFILES) + k ≡ BLKSIZE * n + (RECORDSIZE * i + k) % BLKSIZE
    place n i k within = omega arith

    block : (i k : ℕ) → k < RECORDSIZE → i / BLKFILES ≡ (RECORDSIZE * i + k) / BLKSIZE
    block i k within = omega arith

-- a record of the directory stands in its slot
slot-stands : (byte : ℕ → ℕ) (directory i : ℕ) (bytes : List ℕ) → length bytes ≡ RECORDSIZE → Stands (file_byte byte directory) (RECORDSIZE * i) bytes →
    Stands byte (slot_place byte directory i) bytes
slot-stands byte directory i bytes long all = record {
  each = λ k within. slot-byte byte directory i k (below k (length bytes) long within) ∙ all.each k within;
}
  where
    below : (k n : ℕ) → n ≡ RECORDSIZE → k < n → k < RECORDSIZE
    below k n e lt = omega arith

-- ---- the blocks of the files

-- how many they are
length-files_blocks : (first : ℕ) (files : List Named) → length (files_blocks first files) ≡ BLKSIZE * spans_of files
unfolding files_blocks spans_of
length-files_blocks first [] = refl
length-files_blocks first (file ∷ files) =
    length-append (node_blocks first file.bytes) (files_blocks (first + span_of (length file.bytes)) files)
    ∙ sum _ _ (span_of (length file.bytes)) (spans_of files) (length-node first file.bytes) (length-files_blocks (first + span_of (length file.bytes)) files)
  where
    sum : (a b m n : ℕ) → a ≡ BLKSIZE * m → b ≡ BLKSIZE * n → a + b ≡ BLKSIZE * (m + n)
    sum a b m n p q = omega arith

-- where they stand, those of a file begin with its first
file-stands : (byte : ℕ → ℕ) (first : ℕ) (files : List Named) (i : ℕ) → Stands byte (BLKSIZE * first) (files_blocks first files) → i < length files →
    Stands byte (BLKSIZE * starts_at first files i) (node_blocks (starts_at first files i) (file_at files i).bytes)
unfolding files_blocks starts_at file_at
file-stands byte first [] i stands within = absurd (omega arith)
file-stands byte first (file ∷ files) zero stands within = stands-first byte (BLKSIZE * first) (node_blocks first file.bytes) _ stands
file-stands byte first (file ∷ files) (suc i) stands within =
    let next : ℕ = first + span_of (length file.bytes) in
    file-stands byte next files i
    (stands-rest byte (BLKSIZE * first) (BLKSIZE * next) (node_blocks first file.bytes) _
    (place first (span_of (length file.bytes)) (length (node_blocks first file.bytes)) (length-node first file.bytes)) stands)
    (omega arith)
  where
    place : (b n m : ℕ) → m ≡ BLKSIZE * n → BLKSIZE * (b + n) ≡ BLKSIZE * b + m
    place b n m e = omega arith

-- ---- the bitmap

-- the bit of a block: 0 where it is in use, and else 1
bit-used : (used b : ℕ) → b < used → bit_at (bitmap_byte used (b / 8)) (b % 8) ≡ 0
bit-used used b lt = bit_at_mask_below (min (used - 8 * (b / 8)) 8) 8 (b % 8) (omega arith)

bit-free : (used b : ℕ) → used ≤ b → bit_at (bitmap_byte used (b / 8)) (b % 8) ≡ 1
bit-free used b past = bit_at_mask_inside (min (used - 8 * (b / 8)) 8) 8 (b % 8) (omega arith) (omega arith)

-- its bytes
length-bitmap : (blocks used : ℕ) → length (bitmap_bytes blocks used) ≡ BLKSIZE * bitmap_blocks blocks
unfolding bitmap_bytes
length-bitmap blocks used = length-map-range_with_len (bitmap_byte used) 0 (BLKSIZE * bitmap_blocks blocks)

bitmap-at : (blocks used k : ℕ) → k < BLKSIZE * bitmap_blocks blocks → get_or (bitmap_bytes blocks used) k 0 ≡ bitmap_byte used k
unfolding bitmap_bytes
bitmap-at blocks used k within = get_or-map-range_with_len (bitmap_byte used) 0 (BLKSIZE * bitmap_blocks blocks) k k 0 within (omega arith)

-- the byte that tells of a block
bitmap-says : (byte : ℕ → ℕ) (blocks used b : ℕ) → Stands byte (2 * BLKSIZE) (bitmap_bytes blocks used) → b < blocks →
    byte (2 * BLKSIZE + b / 8) ≡ bitmap_byte used (b / 8)
bitmap-says byte blocks used b stands within =
    stands.each (b / 8) (told (length (bitmap_bytes blocks used)) (length-bitmap blocks used)) ∙ bitmap-at blocks used (b / 8) (room b blocks within)
  where
    room : (b n : ℕ) → b < n → b / 8 < BLKSIZE * bitmap_blocks n
    room b n lt = omega arith

    told : (n : ℕ) → n ≡ BLKSIZE * bitmap_blocks blocks → b / 8 < n
    told n e = omega arith

-- ---- the parts of the image

-- Where each part stands, of an image of files without a fault.
record Parts (byte : ℕ → ℕ) (blocks : ℕ) (files : List Named) : Type 0 where
  super : Stands byte BLKSIZE (made_super blocks files)
  bitmap : Stands byte (2 * BLKSIZE) (bitmap_bytes blocks (blocks_used blocks files))
  root : Stands byte (BLKSIZE * first_data_block blocks) (node_blocks (first_data_block blocks) (root_bytes (first_file_block blocks files) files))
  rest : Stands byte (BLKSIZE * first_file_block blocks files) (files_blocks (first_file_block blocks files) files)

-- the name of the root, and its record
root_name : List ℕ
root_name = codes "/"

root_entry : ℕ → List Named → FileEntry
root_entry blocks files = made_entry root_name (root_size (length files)) FTYPE_DIR (first_data_block blocks)

-- the super block by its parts
super-is : (blocks : ℕ) (files : List Named) →
    made_super blocks files ≡ bytes_of_words (FS_MAGIC ∷ blocks ∷ []) ++ (entry_bytes (root_entry blocks files) ++ zeros 3832)
unfolding made_super super_bytes root_entry root_name
super-is blocks files = refl

-- the root fits a record
root-in-range : (blocks : ℕ) (files : List Named) → Faultless blocks files → InRange root_name (root_size (length files)) FTYPE_DIR (first_data_block blocks)
unfolding root_name
root-in-range blocks files good =
    let most = good.at_most in
    record { name_short = omega arith; size_short = good.short_root; kind_known = omega arith; first_low = omega arith }

-- the super block is a whole block
length-super : (blocks : ℕ) (files : List Named) → Faultless blocks files → length (made_super blocks files) ≡ BLKSIZE
unfolding root_entry
length-super blocks files good =
    let words : List ℕ = bytes_of_words (FS_MAGIC ∷ blocks ∷ []) in
    let entry : List ℕ = entry_bytes (root_entry blocks files) in
    ap length (super-is blocks files)
    ∙ sum words entry (zeros 3832) (length-bytes_of_words (FS_MAGIC ∷ blocks ∷ []))
    (length-entry_bytes (root_entry blocks files) (entry-fits root_name (root_size (length files)) FTYPE_DIR (first_data_block blocks) (root-in-range blocks files good)))
    (length-zeros 3832)
  where
    sum : (a b c : List ℕ) → length a ≡ 8 → length b ≡ RECORDSIZE → length c ≡ 3832 → length (a ++ (b ++ c)) ≡ BLKSIZE
    sum a b c p q r = omega (arith, length-append a (b ++ c), length-append b c)

-- each file fits a record, since its blocks are those of the disk
all-in-range : (blocks : ℕ) (files : List Named) → Faultless blocks files → AllInRange (first_file_block blocks files) files
unfolding blocks_used
all-in-range blocks files good = λ i within.
    let among : starts_at (first_file_block blocks files) files i + span_of (length (file_at files i).bytes) ≤ first_file_block blocks files + spans_of files =
    starts-within (first_file_block blocks files) files i within in
    let room : blocks_used blocks files ≤ blocks = good.room in
    let most : blocks ≤ MAXBLOCKS = good.at_most in
    record {
      name_short = (file-name (file_at files i).name (good.named i within)).short;
      size_short = good.short i within;
      kind_known = omega arith;
      first_low = low (starts_at (first_file_block blocks files) files i) (span_of (length (file_at files i).bytes)) (first_file_block blocks files) (spans_of files) among room most;
    }
  where
    low : (at n one all : ℕ) → at + n ≤ one + all → one + all ≤ blocks → blocks ≤ MAXBLOCKS → at ≤ MAXBLOCKS
    low at n one all p q r = omega arith

-- the blocks of the root
length-root : (blocks : ℕ) (files : List Named) → Faultless blocks files →
    length (node_blocks (first_data_block blocks) (root_bytes (first_file_block blocks files) files)) ≡ BLKSIZE * span_of (root_size (length files))
length-root blocks files good =
    length-node (first_data_block blocks) (root_bytes (first_file_block blocks files) files)
    ∙ ap (λ (n : ℕ). BLKSIZE * span_of n) (length-root_bytes (first_file_block blocks files) files (all-in-range blocks files good))

-- the image has all blocks of the disk
pub length-made : (blocks : ℕ) (files : List Named) → Faultless blocks files → length (made_image blocks files) ≡ BLKSIZE * blocks
unfolding made_image blocks_used
length-made blocks files good =
    sum _ _ _ _ _ _ (bitmap_blocks blocks) (span_of (root_size (length files))) (spans_of files)
    (length-zeros BLKSIZE) (length-super blocks files good) (length-bitmap blocks (blocks_used blocks files)) (length-root blocks files good)
    (length-files_blocks (first_file_block blocks files) files) (length-zeros (BLKSIZE * (blocks - blocks_used blocks files))) good.room
  where
    sum : (a b c d e f : List ℕ) (k m n : ℕ) → length a ≡ BLKSIZE → length b ≡ BLKSIZE → length c ≡ BLKSIZE * k → length d ≡ BLKSIZE * m →
        length e ≡ BLKSIZE * n → length f ≡ BLKSIZE * (blocks - (2 + k + m + n)) → 2 + k + m + n ≤ blocks →
        length (a ++ (b ++ (c ++ (d ++ (e ++ f))))) ≡ BLKSIZE * blocks
    sum a b c d e f k m n p q r s t u room =
        omega (
          arith,
          length-append a (b ++ (c ++ (d ++ (e ++ f)))),
          length-append b (c ++ (d ++ (e ++ f))),
          length-append c (d ++ (e ++ f)),
          length-append d (e ++ f),
          length-append e f,
        )

-- each part stands behind those before it
made-parts : (blocks : ℕ) (files : List Named) → Faultless blocks files → Parts (slice_index (made_image blocks files)) blocks files
unfolding made_image
made-parts blocks files good =
    let byte : ℕ → ℕ = slice_index (made_image blocks files) in
    let super : List ℕ = made_super blocks files in
    let bitmap : List ℕ = bitmap_bytes blocks (blocks_used blocks files) in
    let root : List ℕ = node_blocks (first_data_block blocks) (root_bytes (first_file_block blocks files) files) in
    let rest : List ℕ = files_blocks (first_file_block blocks files) files in
    let one = stands-rest byte 0 BLKSIZE (zeros BLKSIZE) _ (start (length (zeros BLKSIZE)) (length-zeros BLKSIZE)) (stands-whole (made_image blocks files)) in
    let two = stands-rest byte BLKSIZE (2 * BLKSIZE) super _ (second (length super) (length-super blocks files good)) one in
    let three = stands-rest byte (2 * BLKSIZE) (BLKSIZE * first_data_block blocks) bitmap _
    (further (bitmap_blocks blocks) (length bitmap) (length-bitmap blocks (blocks_used blocks files))) two in
    let four = stands-rest byte (BLKSIZE * first_data_block blocks) (BLKSIZE * first_file_block blocks files) root _
    (more (first_data_block blocks) (span_of (root_size (length files))) (length root) (length-root blocks files good)) three in
    record {
      super = stands-first byte BLKSIZE super _ one;
      bitmap = stands-first byte (2 * BLKSIZE) bitmap _ two;
      root = stands-first byte (BLKSIZE * first_data_block blocks) root _ three;
      rest = stands-first byte (BLKSIZE * first_file_block blocks files) rest _ four;
    }
  where
    start : (n : ℕ) → n ≡ BLKSIZE → BLKSIZE ≡ 0 + n
    start n e = omega arith

    second : (n : ℕ) → n ≡ BLKSIZE → 2 * BLKSIZE ≡ BLKSIZE + n
    second n e = omega arith

    further : (k n : ℕ) → n ≡ BLKSIZE * k → BLKSIZE * (2 + k) ≡ 2 * BLKSIZE + n
    further k n e = omega arith

    more : (b k n : ℕ) → n ≡ BLKSIZE * k → BLKSIZE * (b + k) ≡ BLKSIZE * b + n
    more b k n e = omega arith

-- ---- what the image says

-- the super block, the bitmap and the root's record
parts-say_root : (byte : ℕ → ℕ) (blocks : ℕ) (files : List Named) → Faultless blocks files → Parts byte blocks files → SaysRoot byte blocks files
unfolding root_entry
parts-say_root byte blocks files good parts =
    let all = subst (Stands byte BLKSIZE) (super-is blocks files) parts.super in
    let words = stands-first byte BLKSIZE (bytes_of_words (FS_MAGIC ∷ blocks ∷ [])) _ all in
    let entry = stands-first byte root_place (entry_bytes (root_entry blocks files)) (zeros 3832)
    (stands-rest byte BLKSIZE root_place (bytes_of_words (FS_MAGIC ∷ blocks ∷ [])) _
    (behind (length (bytes_of_words (FS_MAGIC ∷ blocks ∷ []))) (length-bytes_of_words (FS_MAGIC ∷ blocks ∷ []))) all) in
    let range = root-in-range blocks files good in
    let says = record-says byte root_place root_name (root_size (length files)) FTYPE_DIR (first_data_block blocks) range entry in
    let size : length (root_bytes (first_file_block blocks files) files) ≡ root_size (length files) =
    length-root_bytes (first_file_block blocks files) files (all-in-range blocks files good) in
    let node = node-stands byte (first_data_block blocks) (root_bytes (first_file_block blocks files) files) range.first_low parts.root in
    let room : blocks_used blocks files ≤ blocks = good.room in
    record {
      magic = word-back byte BLKSIZE FS_MAGIC (blocks ∷ []) (omega arith) words;
      count = word-back byte (BLKSIZE + 4) blocks [] (low blocks good.at_most) (words-rest byte BLKSIZE FS_MAGIC (blocks ∷ []) words);
      in_use = λ b lt. ap (λ (n : ℕ). n == 1)
          (ap (λ (n : ℕ). bit_at n (b % 8)) (bitmap-says byte blocks (blocks_used blocks files) b parts.bitmap (before b (blocks_used blocks files) room lt))
          ∙ bit-used (blocks_used blocks files) b lt);
      free = λ b past within. ap (λ (n : ℕ). n == 1)
          (ap (λ (n : ℕ). bit_at n (b % 8)) (bitmap-says byte blocks (blocks_used blocks files) b parts.bitmap within)
          ∙ bit-free (blocks_used blocks files) b past);
      size = says.size_is;
      kind = says.kind_is;
      laid = laid-from byte root_place FTYPE_DIR (first_data_block blocks) (root_bytes (first_file_block blocks files) files)
          (subst (λ (n : ℕ). n ≤ MAXFILESIZE) (sym size) good.short_root)
          (subst (λ (n : ℕ). RecordSays byte root_place n FTYPE_DIR (first_data_block blocks)) (sym size) says) node;
    }
  where
    behind : (n : ℕ) → n ≡ 8 → root_place ≡ BLKSIZE + n
    behind n e = omega arith

    low : (n : ℕ) → n ≤ MAXBLOCKS → n < 2 ^ 32
    low n le = omega arith

    before : (b used : ℕ) → used ≤ blocks → b < used → b < blocks
    before b used le lt = omega arith

-- the bytes of the root directory, read by its record
root-bytes-stand : (byte : ℕ → ℕ) (blocks : ℕ) (files : List Named) → Faultless blocks files → Parts byte blocks files →
    Stands (file_byte byte root_place) 0 (root_bytes (first_file_block blocks files) files)
root-bytes-stand byte blocks files good parts =
    let says = parts-say_root byte blocks files good parts in
    let size : length (root_bytes (first_file_block blocks files) files) ≡ root_size (length files) =
    length-root_bytes (first_file_block blocks files) files (all-in-range blocks files good) in
    let range = root-in-range blocks files good in
    let node = node-stands byte (first_data_block blocks) (root_bytes (first_file_block blocks files) files) range.first_low parts.root in
    record {
      each = λ k within.
          ap (file_byte byte root_place) (start k)
          ∙ file-byte byte root_place (first_data_block blocks) k (root_bytes (first_file_block blocks files) files) says.laid (says.size ∙ sym size) node within;
    }
  where
    start : (k : ℕ) → 0 + k ≡ k
    start k = omega arith

-- a file, by its record in the directory
parts-say_file : (byte : ℕ → ℕ) (blocks : ℕ) (files : List Named) (i : ℕ) → Faultless blocks files → Parts byte blocks files → i < length files →
    SaysFile byte (first_file_block blocks files) files i
unfolding root_bytes file_entry
parts-say_file byte blocks files i good parts within =
    let first : ℕ = first_file_block blocks files in
    let place : ℕ = slot_place byte root_place i in
    let all = all-in-range blocks files good in
    let range = all i within in
    let entries = stands-first (file_byte byte root_place) 0 (files_entries first files) _ (root-bytes-stand byte blocks files good parts) in
    let entry = slot-stands byte root_place i (entry_bytes (file_entry first files i))
    (length-entry_bytes (file_entry first files i) (entry-fits (file_at files i).name (length (file_at files i).bytes) FTYPE_REG (starts_at first files i) range))
    (subst (λ (p : ℕ). Stands (file_byte byte root_place) p (entry_bytes (file_entry first files i))) (start i)
    (entry-stands (file_byte byte root_place) 0 first files i all entries within)) in
    let says = record-says byte place (file_at files i).name (length (file_at files i).bytes) FTYPE_REG (starts_at first files i) range entry in
    let node = node-stands byte (starts_at first files i) (file_at files i).bytes range.first_low (file-stands byte first files i parts.rest within) in
    let laid = laid-from byte place FTYPE_REG (starts_at first files i) (file_at files i).bytes range.size_short says node in
    let name = entry-name byte place (file_at files i).name (length (file_at files i).bytes) FTYPE_REG (starts_at first files i) entry in
    let good_name = file-name (file_at files i).name (good.named i within) in
    record {
      some = name-some byte place (file_at files i).name good_name name;
      name = name-read byte place (file_at files i).name good_name name;
      size = says.size_is;
      kind = says.kind_is;
      laid = laid;
      bytes = file-bytes byte place (starts_at first files i) (file_at files i).bytes laid says.size_is node;
    }
  where
    start : (i : ℕ) → 0 + RECORDSIZE * i ≡ RECORDSIZE * i
    start i = omega arith

-- behind the files the records are empty
parts-say_empty : (byte : ℕ → ℕ) (blocks : ℕ) (files : List Named) (i : ℕ) → Faultless blocks files → Parts byte blocks files → length files ≤ i →
    i < slot_count byte root_place → is_empty_record byte (slot_place byte root_place i) ≡ true
unfolding root_bytes root_size
parts-say_empty byte blocks files i good parts past within =
    let first : ℕ = first_file_block blocks files in
    let entries : List ℕ = files_entries first files in
    let rest : List ℕ = zeros (root_size (length files) - RECORDSIZE * length files) in
    let says = parts-say_root byte blocks files good parts in
    let size : length (root_bytes first files) ≡ root_size (length files) = length-root_bytes first files (all-in-range blocks files good) in
    let all = root-bytes-stand byte blocks files good parts in
    eq-eqb (byte (slot_place byte root_place i)) 0
    (ap byte (start (slot_place byte root_place i))
    ∙ slot-byte byte root_place i 0 (omega arith)
    ∙ ap (file_byte byte root_place) (place i)
    ∙ all.each (RECORDSIZE * i) (room (size_of byte root_place) (root_size (length files)) (length (root_bytes first files)) says.size size within)
    ∙ get_or-append_right entries rest (RECORDSIZE * length files) (RECORDSIZE * i) 0 (length-files_entries first files (all-in-range blocks files good)) (behind (length files) past)
    ∙ get_or-zeros (root_size (length files) - RECORDSIZE * length files) (RECORDSIZE * i - RECORDSIZE * length files))
  where
    start : (p : ℕ) → p ≡ p + 0
    start p = omega arith

    place : (i : ℕ) → RECORDSIZE * i + 0 ≡ 0 + RECORDSIZE * i
    place i = omega arith

    room : (a b c : ℕ) → a ≡ b → c ≡ b → i < a / RECORDSIZE → RECORDSIZE * i < c
    room a b c p q lt = omega arith

    behind : (n : ℕ) → n ≤ i → RECORDSIZE * n ≤ RECORDSIZE * i
    behind n le = omega arith

-- all together
pub made-says : (blocks : ℕ) (files : List Named) → Faultless blocks files → Says (slice_index (made_image blocks files)) blocks files
made-says blocks files good =
    let parts = made-parts blocks files good in
    let byte : ℕ → ℕ = slice_index (made_image blocks files) in
    record {
      root = parts-say_root byte blocks files good parts;
      file = λ i within. parts-say_file byte blocks files i good parts within;
      empty = λ i past within. parts-say_empty byte blocks files i good parts past within;
    }
