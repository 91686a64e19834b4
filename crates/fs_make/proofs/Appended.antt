-- Bytes that are added behind others, part after part.
use Rattle.std.proofs.Common.{◌≡◌, ℕ, ◌+◌, ◌-◌, ◌*◌, ◌^◌, ◌<◌, ◌≤◌, List, [], ◌∷◌, ◌++◌, length, get_or, take, drop, refl, ap, sym, ◌∙◌, arith}
use Rattle.std.proofs.Common.{Bool, true, false, append_assoc, Result, Ok, Err, map}
use Rattle.std.specs.Prelude.{OnOk, replicate, if◌then◌else◌}
use Rattle.std.specs.Result.{is_ok}
use Rattle.std.specs.List.{range_with_len}
use Rattle.std.specs.Int.{w32, to_le_bytes}
use Rattle.std.proofs.lemmas.List.{append-nil, drop_all, take_all, drop-replicate}
use Rattle.std.proofs.lemmas.Bool.Decides.{nat_tests}
use Rattle.std.proofs.lemmas.List.FromFn.{map-range_with_len_more}
use Rattle.jos_host.specs.MemHost.{Named}
use Rattle.jos_base.specs.TrapFrames.{bytes_of_words}
use Rattle.fs_layout.specs.declared.numbers.TheConstants.{BLKSIZE, MAXBLOCKS, MAXNAMELEN, NDIRECT, NINDIRECT, FTYPE_REG}
use Rattle.fs_layout.specs.FileTree.{needs_indirect}
use Rattle.fs_layout.specs.DiskImage.{first_data_block}
use Rattle.fs_layout.specs.Layout.{zeros, entry_bytes}
use Rattle.fs_make.specs.MakeFaults.{span_of, spans_of, root_size, blocks_used}
use Rattle.fs_make.specs.MadeImage.{padded, further_numbers, made_entry, node_blocks, files_entries, files_blocks, root_bytes, bitmap_bytes, made_super, made_image}
use Rattle.fs_make.proofs.Spans.{drop-next, spans-next}
use Rattle.jos_base.proofs.WordBytes.{bytes_of_words-append, bytes_of_words-one}
use Rattle.jos_base.proofs.Lists.{three_behind}

-- one part more, and the last
pub part-more : (now new part later rest whole : List ℕ) → new ≡ now ++ part → later ≡ part ++ rest → now ++ later ≡ whole → new ++ rest ≡ whole
part-more now new part later rest whole e p h = ap (λ (l : List ℕ). l ++ rest) e ∙ append_assoc now part rest ∙ ap (λ (l : List ℕ). now ++ l) (sym p) ∙ h

pub part-last : (now rest whole : List ℕ) → rest ≡ [] → now ++ rest ≡ whole → now ≡ whole
part-last now rest whole e h = sym (append-nil now) ∙ ap (λ (l : List ℕ). now ++ l) (sym e) ∙ h

-- ---- zeros

pub zeros-added : {E : Type 0} (r : Result (Unit {0}) E) (old new : List ℕ) (n len count : ℕ) → new ≡ (if is_ok r then take n old ++ replicate (n - len) 0 else old) → len ≡ length old → n ≡ len + count →
    OnOk r (new ≡ old ++ zeros count)
unfolding zeros
zeros-added (Ok done) old new n len count e k m =
    let left : n - len ≡ count = omega arith in
    e ∙ (λ i. take_all n old (omega arith) i ++ replicate (left i) 0)
zeros-added (Err fault) old new n len count e k m = tt

pub name-padded : (name new : List ℕ) → new ≡ name → new ++ drop (length name) (replicate MAXNAMELEN 0) ≡ name ++ zeros (MAXNAMELEN - length name)
unfolding zeros
name-padded name new e = λ i. e i ++ drop-replicate (length name) MAXNAMELEN 0 i

-- ---- words

pub words-none : (f : ℕ → ℕ) (old : List ℕ) → old ≡ old ++ bytes_of_words (map f (range_with_len 0 0))
unfolding bytes_of_words
words-none f old = sym (append-nil old)

pub words-more : (f : ℕ → ℕ) (i word : ℕ) (old now new : List ℕ) → new ≡ now ++ to_le_bytes w32 word → word ≡ f i → now ≡ old ++ bytes_of_words (map f (range_with_len 0 i)) →
    new ≡ old ++ bytes_of_words (map f (range_with_len 0 (i + 1)))
words-more f i word old now new e w h =
    let last : bytes_of_words (map f (range_with_len 0 (i + 1))) ≡ bytes_of_words (map f (range_with_len 0 i)) ++ to_le_bytes w32 (f i) =
    ap bytes_of_words (map-range_with_len_more f 0 i i (omega arith)) ∙ bytes_of_words-append (map f (range_with_len 0 i)) (f i ∷ [])
    ∙ ap (λ (l : List ℕ). bytes_of_words (map f (range_with_len 0 i)) ++ l) (bytes_of_words-one (f i)) in
    e ∙ (λ j. h j ++ to_le_bytes w32 (w j)) ∙ append_assoc old (bytes_of_words (map f (range_with_len 0 i))) (to_le_bytes w32 (f i)) ∙ ap (λ (l : List ℕ). old ++ l) (sym last)

pub words-all : (f : ℕ → ℕ) (i : ℕ) (old now : List ℕ) → i ≡ NINDIRECT → now ≡ old ++ bytes_of_words (map f (range_with_len 0 i)) → now ≡ old ++ bytes_of_words (map f (range_with_len 0 NINDIRECT))
words-all f i old now e h = h ∙ ap (λ n. old ++ bytes_of_words (map f (range_with_len 0 n))) e

-- one byte more
pub bytes-more : (f : ℕ → ℕ) (i byte : ℕ) (old now new : List ℕ) → new ≡ now ++ byte ∷ [] → byte ≡ f i → now ≡ old ++ map f (range_with_len 0 i) → new ≡ old ++ map f (range_with_len 0 (i + 1))
bytes-more f i byte old now new e b h =
    e ∙ (λ j. h j ++ b j ∷ []) ∙ append_assoc old (map f (range_with_len 0 i)) (f i ∷ []) ∙ ap (λ (l : List ℕ). old ++ l) (sym (map-range_with_len_more f 0 i i (omega arith)))

pub bytes-all : (f : ℕ → ℕ) (i n : ℕ) (old now : List ℕ) → i ≡ n → now ≡ old ++ map f (range_with_len 0 i) → now ≡ old ++ map f (range_with_len 0 n)
bytes-all f i n old now e h = h ∙ ap (λ m. old ++ map f (range_with_len 0 m)) e

-- ---- files

entries-cons : (block : ℕ) (file : Named) (files : List Named) →
    files_entries block (file ∷ files) ≡ entry_bytes (made_entry file.name (length file.bytes) FTYPE_REG block) ++ files_entries (block + span_of (length file.bytes)) files
unfolding files_entries
entries-cons block file files = refl

pub entries-next : (block : ℕ) (files : List Named) (i : ℕ) (file : Named) → i < length files → file ≡ get_or files i file →
    files_entries block (drop i files) ≡ entry_bytes (made_entry file.name (length file.bytes) FTYPE_REG block) ++ files_entries (block + span_of (length file.bytes)) (drop (i + 1) files)
entries-next block files i file within at = ap (files_entries block) (drop-next files i file within at) ∙ entries-cons block file (drop (i + 1) files)

entries-nil : (block : ℕ) → files_entries block [] ≡ []
unfolding files_entries
entries-nil block = refl

pub entries-end : (block : ℕ) (files : List Named) (i : ℕ) → length files ≤ i → files_entries block (drop i files) ≡ []
entries-end block files i past = ap (files_entries block) (drop_all i files past) ∙ entries-nil block

blocks-cons : (block : ℕ) (file : Named) (files : List Named) →
    files_blocks block (file ∷ files) ≡ node_blocks block file.bytes ++ files_blocks (block + span_of (length file.bytes)) files
unfolding files_blocks
blocks-cons block file files = refl

pub blocks-next : (block : ℕ) (files : List Named) (i : ℕ) (file : Named) → i < length files → file ≡ get_or files i file →
    files_blocks block (drop i files) ≡ node_blocks block file.bytes ++ files_blocks (block + span_of (length file.bytes)) (drop (i + 1) files)
blocks-next block files i file within at = ap (files_blocks block) (drop-next files i file within at) ∙ blocks-cons block file (drop (i + 1) files)

blocks-nil : (block : ℕ) → files_blocks block [] ≡ []
unfolding files_blocks
blocks-nil block = refl

pub blocks-end : (block : ℕ) (files : List Named) (i : ℕ) → length files ≤ i → files_blocks block (drop i files) ≡ []
blocks-end block files i past = ap (files_blocks block) (drop_all i files past) ∙ blocks-nil block

-- what has room on a disk is small
pub size-small : (size : ℕ) → span_of size ≤ MAXBLOCKS → size ≤ 2 ^ 26
size-small size room = grind arith

pub file-room : (block first i : ℕ) (files : List Named) (file : Named) → i < length files → file ≡ get_or files i file →
    block + spans_of (drop i files) ≡ first + spans_of files → first + spans_of files ≤ MAXBLOCKS → block + span_of (length file.bytes) ≤ MAXBLOCKS
file-room block first i files file within at e room = omega (arith, spans-next files i file within at)

pub room-next : (block first i : ℕ) (files : List Named) (file : Named) → i < length files → file ≡ get_or files i file →
    block + spans_of (drop i files) ≡ first + spans_of files → block + span_of (length file.bytes) + spans_of (drop (i + 1) files) ≡ first + spans_of files
room-next block first i files file within at e = omega (arith, spans-next files i file within at)

-- ---- the blocks of a node

pub indirect-long : (size : ℕ) → needs_indirect size ≡ true → 40961 ≤ size
indirect-long size e = grind (arith, nat_tests)

chosen : (b : Bool) (x y : List ℕ) → b ≡ true → x ≡ (if b then x else y)
chosen true x y e = refl
chosen false x y e = absurd cc

not_chosen : (b : Bool) (x y : List ℕ) → b ≡ false → y ≡ (if b then x else y)
not_chosen true x y e = absurd cc
not_chosen false x y e = refl

long_is : (first : ℕ) (bytes : List ℕ) → needs_indirect (length bytes) ≡ true →
    take (BLKSIZE * NDIRECT) bytes ++ (bytes_of_words (further_numbers first (length bytes)) ++ padded (drop (BLKSIZE * NDIRECT) bytes)) ≡ node_blocks first bytes
unfolding node_blocks
long_is first bytes long =
    chosen (needs_indirect (length bytes)) (take (BLKSIZE * NDIRECT) bytes ++ (bytes_of_words (further_numbers first (length bytes)) ++ padded (drop (BLKSIZE * NDIRECT) bytes))) (padded bytes) long

short_is : (first : ℕ) (bytes : List ℕ) → needs_indirect (length bytes) ≡ false → padded bytes ≡ node_blocks first bytes
unfolding node_blocks
short_is first bytes short =
    not_chosen (needs_indirect (length bytes)) (take (BLKSIZE * NDIRECT) bytes ++ (bytes_of_words (further_numbers first (length bytes)) ++ padded (drop (BLKSIZE * NDIRECT) bytes))) (padded bytes) short

pub node-long : {E : Type 0} (r : Result (Unit {0}) E) (first : ℕ) (bytes rest old named numbered new : List ℕ) → needs_indirect (length bytes) ≡ true → rest ≡ drop (BLKSIZE * NDIRECT) bytes → named ≡ old ++ take (BLKSIZE * NDIRECT) bytes →
    numbered ≡ named ++ bytes_of_words (further_numbers first (length bytes)) → OnOk r (new ≡ numbered ++ padded rest) → OnOk r (new ≡ old ++ node_blocks first bytes)
node-long (Ok done) first bytes rest old named numbered new long d e h k =
    three_behind old named numbered new (take (BLKSIZE * NDIRECT) bytes) (bytes_of_words (further_numbers first (length bytes))) (padded (drop (BLKSIZE * NDIRECT) bytes)) e h
    (k ∙ ap (λ (l : List ℕ). numbered ++ padded l) d) ∙ ap (λ (l : List ℕ). old ++ l) (long_is first bytes long)
node-long (Err fault) first bytes rest old named numbered new long d e h k = tt

pub node-short : {E : Type 0} (r : Result (Unit {0}) E) (first : ℕ) (bytes old new : List ℕ) → needs_indirect (length bytes) ≡ false → OnOk r (new ≡ old ++ padded bytes) → OnOk r (new ≡ old ++ node_blocks first bytes)
node-short (Ok done) first bytes old new short e = e ∙ ap (λ (l : List ℕ). old ++ l) (short_is first bytes short)
node-short (Err fault) first bytes old new short e = tt

-- ---- the image

six : (start one two three four five last a b c d e f : List ℕ) → start ≡ [] → a ≡ start ++ one → b ≡ a ++ two → c ≡ b ++ three → d ≡ c ++ four → e ≡ d ++ five → f ≡ e ++ last →
    f ≡ one ++ (two ++ (three ++ (four ++ (five ++ last))))
six start one two three four five last a b c d e f n p q r s t u = rw (u, t, s, r, q, p, n) (simp append_assoc)

pub image-is : (blocks : ℕ) (files : List Named) (first span used : ℕ) (root super start a b c d e f : List ℕ) →
    first ≡ first_data_block blocks → span ≡ span_of (root_size (length files)) → used ≡ blocks_used blocks files → root ≡ root_bytes (first + span) files → super ≡ made_super blocks files →
    start ≡ [] → a ≡ start ++ zeros BLKSIZE → b ≡ a ++ super → c ≡ b ++ bitmap_bytes blocks used → d ≡ c ++ node_blocks first root → e ≡ d ++ files_blocks (first + span) files →
    f ≡ e ++ zeros (BLKSIZE * (blocks - used)) → f ≡ made_image blocks files
unfolding made_image
image-is blocks files first span used root super start a b c d e f begins spans uses rooted named n p q r s t u =
    let contents : root ≡ root_bytes (first_data_block blocks + span_of (root_size (length files))) files = rooted ∙ (λ i. root_bytes (begins i + spans i) files) in
    six start (zeros BLKSIZE) super (bitmap_bytes blocks used) (node_blocks first root) (files_blocks (first + span) files) (zeros (BLKSIZE * (blocks - used))) a b c d e f n p q r s t u
    ∙ (λ i. zeros BLKSIZE ++ (named i ++ (bitmap_bytes blocks (uses i) ++ (node_blocks (begins i) (contents i)
    ++ (files_blocks (begins i + spans i) files ++ zeros (BLKSIZE * (blocks - uses i)))))))
