-- What comes of a host's file that is read piece by piece.
use Rattle.std.proofs.Common.{◌≡◌, ◌≢◌, ◌∙◌, ◌⊎◌, inl, inr, ℕ, zero, suc, ◌+◌, ◌-◌, ◌*◌, ◌<◌, ◌≤◌, List, [], ◌∷◌, ◌++◌, length, take, drop, replicate, get_or, min, max, Option, Some, None, Err, refl, sym, ap, subst, arith}
use Rattle.std.specs.Prelude.{slice_index}
use Rattle.std.specs.Option.{option_map}
use Rattle.std.proofs.lemmas.List.{append-nil, append_assoc, take_all, take-take, take_min, take_at, take-replicate, replicate-append-replicate, length-take, length-append, length-replicate, get_or-take}
use Rattle.std.proofs.lemmas.Bool.Decides.{leb_tells}
use Rattle.jos_base.specs.Words.{word_at}
use Rattle.jos_host.specs.Files.{Files, bytes_of}
use Rattle.jos_host.specs.Told.{Rose}
use Rattle.jos_host.specs.Asked.{Asked, and_asked}
use Rattle.jos_host.specs.Frames.{from_to}
use Rattle.jos_host.specs.declared.host.HostCall.TheVariants.{Size, Read}
use Rattle.fs_layout.specs.declared.numbers.TheConstants.{BLKSIZE, MAXBLOCKS}
use Rattle.fs_layout.specs.DiskImage as disk
use Rattle.fs_image.specs.declared.disk_bytes.DiskFault.{DiskFault}
use Rattle.fs_image.specs.declared.disk_bytes.DiskFault.TheVariants.{Absent, Host, NoMemory}
use Rattle.fs_image.specs.DiskHeld.{HeldDisk, held_of, blocks_held, IsLongEnough, IsUnder, IsHeld, IsDiskFault, HasDiskCause, IsReadInPieces}
use Rattle.fs_image.specs.Pieces.{reads, IsReading, Comes, ReachesTo, Grows, HasSize}

-- something stands under a name, whether the host tells it or not
pub some_file : (files : Option Files) (name : List ℕ) → (file : Option (List ℕ)) × IsUnder files name file
some_file (Some files) name = (files name, refl)
some_file None name = (None, tt)

-- ---- calls

pub reading_none : (name : List ℕ) (log : Option (List Asked)) → IsReading name (from_to log log)
unfolding reads
reading_none name None = (0, refl)
reading_none name (Some asked) = (0, ap Some (sym (append-nil asked)))

pub reading_one : (name : List ℕ) (before after : Option (List Asked)) → after ≡ and_asked before Read name → IsReading name (from_to before after)
unfolding reads
reading_one name before after e = (1, e)

pub reading_more : (name : List ℕ) (a b c : Option (List Asked)) → IsReading name (from_to a b) → IsReading name (from_to b c) → IsReading name (from_to a c)
unfolding reads
reading_more name None b c first then =
    (first.0 + then.0, then.1 ∙ ap (option_map (λ asked. asked ++ reads name then.0)) first.1)
reading_more name (Some xs) b c first then = (
  first.0 + then.0,
  then.1 ∙ ap (option_map (λ asked. asked ++ reads name then.0)) first.1
      ∙ ap Some
      (append_assoc xs (reads name first.0) (reads name then.0)
      ∙ ap (λ l. xs ++ l) (replicate-append-replicate first.0 then.0 (record { call = Read; name = name }))),
)

abbrev sized : List ℕ → Asked
sized name = record { call = Size; name = name }

size_then_reads : (name : List ℕ) (n : ℕ) → take (suc n) (sized name ∷ reads name (suc n)) ≡ sized name ∷ reads name n
unfolding reads
size_then_reads name n = ap (λ l. sized name ∷ l) (take-replicate n (suc n) _ (omega arith))

-- the size, and then pieces
pub sized_reading : (name : List ℕ) (a b c : Option (List Asked)) → b ≡ and_asked a Size name → IsReading name (from_to b c) → IsReadInPieces name (from_to a c)
unfolding reads
sized_reading name None b c e then =
    (suc then.0, then.1 ∙ ap (option_map (λ asked. asked ++ reads name then.0)) e)
sized_reading name (Some xs) b c e then = (
  suc then.0,
  then.1 ∙ ap (option_map (λ asked. asked ++ reads name then.0)) e
      ∙ ap Some
      (append_assoc xs (sized name ∷ []) (reads name then.0) ∙ ap (λ l. xs ++ l) (sym (size_then_reads name then.0))),
)

-- the size alone
pub sized_alone : (name : List ℕ) (a b : Option (List Asked)) → b ≡ and_asked a Size name → IsReadInPieces name (from_to a b)
sized_alone name a b e = (1, e)

-- ---- faults

-- what came before a call that failed left the count of faults as it was
pub cause_moved : (X Y : Type 0) (a b c : ℕ) (fault : DiskFault) → b ≡ a → HasDiskCause {X = X} (from_to b c) (Err fault) → HasDiskCause {X = Y} (from_to a c) (Err fault)
cause_moved X Y a b c Absent e h = h ∙ e
cause_moved X Y a b c Host e h = subst (λ (n : ℕ). Rose n c) e h
cause_moved X Y a b c NoMemory e h = h ∙ e

-- where something stands under the name, a fault says nothing of it
pub fault_under : (files : Option Files) (name : List ℕ) (fault : DiskFault) → fault ≢ Absent → (file : Option (List ℕ)) × IsUnder files name file × IsDiskFault file fault
fault_under files name Absent there = absurd (there refl)
fault_under files name Host there = let some = some_file files name in (some.0, some.1, tt)
fault_under files name NoMemory there = let some = some_file files name in (some.0, some.1, tt)

-- ---- what is left as it was

-- ---- bytes

pub grows_none : (end : ℕ) (old : List ℕ) → length old ≤ end → Grows end old old
grows_none end old within =
    record { front = take_all (length old) old (omega arith); longer = omega arith; within = within }

pub grows_more : (end reached : ℕ) (old mid new : List ℕ) → Grows end old mid → Grows reached mid new → reached ≤ end → Grows end old new
grows_more end reached old mid new h k within =
    let front = h.longer in
    record {
      front =
          sym (take-take (length old) (length mid) new h.longer) ∙ ap (take (length old)) k.front ∙ h.front;
      longer = omega (arith, h.longer, k.longer);
      within = omega (arith, k.within);
    }

nothing_taken : (m : ℕ) → take m (let none : List ℕ = [] in none) ≡ []
nothing_taken zero = refl
nothing_taken (suc m) = refl

take_on : (n m : ℕ) (xs : List ℕ) → take n xs ++ take m (drop n xs) ≡ take (n + m) xs
take_on zero m xs = ap (λ k. take k xs) (let e : m ≡ 0 + m = omega arith in e)
take_on (suc n) m [] = nothing_taken m ∙ sym (nothing_taken (suc n + m))
take_on (suc n) m (x ∷ xs) =
    ap (λ l. x ∷ l) (take_on n m xs) ∙ ap (λ k. take k (x ∷ xs)) (let e : suc (n + m) ≡ suc n + m = omega arith in e)

pub reaches_none : (files : Option Files) (name old : List ℕ) → ReachesTo files name (length old) old old
reaches_none None name old = tt
reaches_none (Some files) name old = λ e. e

pub reaches_more : (files : Option Files) (name old mid new : List ℕ) (count came : ℕ) → ReachesTo files name (length mid) old mid → Comes files name count mid came new → length new ≡ length mid + came → ReachesTo files name (length new) old new
reaches_more None name old mid new count came h k len = tt
reaches_more (Some files) name old mid new count came h k len = λ e.
    let file = bytes_of files name in
    k.1 ∙ ap (λ l. l ++ take came (drop (length mid) file)) (h e) ∙ take_on (length mid) came file
    ∙ ap (λ n. take n file) (sym len)

-- fewer bytes came than were asked for, at the end of the file
pub reaches_last : (files : Option Files) (name old mid new : List ℕ) (count came end : ℕ) → ReachesTo files name (length mid) old mid → Comes files name count mid came new → length new ≡ length mid + came → came < count → length new ≤ end → ReachesTo files name end old new
reaches_last None name old mid new count came end h k len short within = tt
reaches_last (Some files) name old mid new count came end h k len short within = λ e.
    let file = bytes_of files name in
    let reached = reaches_more (Some files) name old mid new count came h k len e in
    let all : length file ≤ length new = omega (arith, k.0) in
    reached ∙ take_all (length new) file all ∙ sym (take_all end file (omega arith))

-- ---- how many blocks are looked at

word_same : (f g : ℕ → ℕ) (at : ℕ) → f at ≡ g at → f (at + 1) ≡ g (at + 1) → f (at + 2) ≡ g (at + 2) → f (at + 3) ≡ g (at + 3) → word_at f at ≡ word_at g at
word_same f g at h k l m = cc

front_byte : (front bytes : List ℕ) (k : ℕ) → take (length front) bytes ≡ front → k < length front → slice_index front k ≡ slice_index bytes k
front_byte front bytes k e within =
    ap (λ l. get_or l k 0) (sym e) ∙ get_or-take (length front) bytes k 0 within

front_count : (front bytes : List ℕ) → take (length front) bytes ≡ front → 8192 ≤ length front → disk.block_count (slice_index front) ≡ disk.block_count (slice_index bytes)
front_count front bytes e long =
    word_same (slice_index front) (slice_index bytes) 4100
    (front_byte front bytes 4100 e (omega arith))
    (front_byte front bytes 4101 e (omega arith))
    (front_byte front bytes 4102 e (omega arith))
    (front_byte front bytes 4103 e (omega arith))

-- they are known by the first two blocks
front_blocks : (front bytes : List ℕ) → take (length front) bytes ≡ front → 8192 ≤ length front → blocks_held front ≡ blocks_held bytes
front_blocks front bytes e long = ap (λ n. max 2 (min n MAXBLOCKS)) (front_count front bytes e long)

long_or_not : (n : ℕ) → (8192 ≤ n) ⊎ (n < 8192)
long_or_not n = elim (leb_tells 8192 n) [ inl long ↦ inl long.1 | inr short ↦ inr short.1 ]

-- ---- the bytes that are held

pub ended_later : (front bytes : List ℕ) (size first end : ℕ) → first ≡ min size (2 * 4096) → first ≤ length front → end ≡ min size (BLKSIZE * blocks_held front) → Grows end front bytes → length bytes ≤ BLKSIZE * blocks_held bytes
ended_later front bytes size first end e reached f grows =
    elim (long_or_not (length front)) [
      | inl long ↦ let same = front_blocks front bytes grows.front long in omega (arith, grows.within, same)
      | inr short ↦ omega (arith, grows.within)
    ]

-- it has so many bytes as its size says
pub long_enough : (front bytes : List ℕ) (size first end : ℕ) → first ≡ min size (2 * 4096) → first ≤ length front → end ≡ min size (BLKSIZE * blocks_held front) → Grows end front bytes → end ≤ length bytes → IsLongEnough size bytes
unfolding IsLongEnough
long_enough front bytes size first end e reached f grows all =
    elim (long_or_not (length front)) [
      | inl long ↦ let same = front_blocks front bytes grows.front long in omega (arith, same)
      | inr short ↦ omega arith
    ]

pub whole_enough : (bytes : List ℕ) → IsLongEnough (length bytes) bytes
unfolding IsLongEnough
whole_enough bytes = omega arith

pub whole_held : (bytes : List ℕ) → length bytes ≤ BLKSIZE * blocks_held bytes → (let held : HeldDisk = record { total = length bytes; bytes = bytes } in held) ≡ held_of bytes
unfolding held_of
whole_held bytes within = ap (λ l. let held : HeldDisk = record { total = length bytes; bytes = l } in held) (sym (take_all (BLKSIZE * blocks_held bytes) bytes within))

-- ---- what is told of the file

abbrev pub IsTold : Option Files → List ℕ → HeldDisk → Type 0
IsTold files name held = (file : Option (List ℕ)) × IsUnder files name file × IsHeld file held

taken : (file front : List ℕ) (n : ℕ) → front ≡ take n file → length front ≡ min n (length file)
taken file front n e = ap length e ∙ length-take n file

front_of : (file front : List ℕ) (n : ℕ) → front ≡ take n file → front ≡ take (length front) file
front_of file front n e = e ∙ sym (take_min n file) ∙ ap (λ k. take k file) (sym (taken file front n e))

-- where the files are told, the first bytes came whole
pub told_ended_first : (files : Option Files) (name bytes : List ℕ) (size first : ℕ) → HasSize files name size → first ≡ min size (2 * 4096) → ReachesTo files name first [] bytes → length bytes < first → IsTold files name (held_of bytes)
told_ended_first None name bytes size first has e reached short = (Some bytes, tt, refl)
told_ended_first (Some files) name bytes size first has e reached short =
    absurd (omega (arith, taken (bytes_of files name) bytes first (reached refl), has.1))

pub told_ended_later : (files : Option Files) (name front bytes : List ℕ) (size first end : ℕ) → HasSize files name size → end ≤ size → ReachesTo files name first [] front → ReachesTo files name end front bytes → length bytes < end → IsTold files name (held_of bytes)
told_ended_later None name front bytes size first end has e reached later short = (Some bytes, tt, refl)
told_ended_later (Some files) name front bytes size first end has e reached later short =
    let file = bytes_of files name in
    absurd (omega (arith, taken file bytes end (later (front_of file front first (reached refl))), has.1))

-- all that is looked at came
all_len : (front bytes : List ℕ) (size first end : ℕ) → first ≡ min size (2 * 4096) → first ≤ length front → end ≡ min size (BLKSIZE * blocks_held front) → Grows end front bytes → end ≤ length bytes → min size (BLKSIZE * blocks_held bytes) ≡ length bytes
all_len front bytes size first end e reached f grows all =
    elim (long_or_not (length front)) [
      | inl long ↦ let same = front_blocks front bytes grows.front long in omega (arith, same, grows.within)
      | inr short ↦ omega (arith, grows.within)
    ]

held_blocks : (file bytes : List ℕ) → bytes ≡ take (length bytes) file → min (length file) (BLKSIZE * blocks_held bytes) ≡ length bytes → blocks_held bytes ≡ blocks_held file
held_blocks file bytes e all =
    elim (long_or_not (length bytes)) [
      | inl long ↦ front_blocks bytes file (sym e) long
      | inr short ↦ ap blocks_held (e ∙ take_all (length bytes) file (omega arith))
    ]

-- these are the bytes of the file that are looked at
held_front : (file bytes : List ℕ) (size : ℕ) → size ≡ length file → bytes ≡ take (length bytes) file → min size (BLKSIZE * blocks_held bytes) ≡ length bytes → (let held : HeldDisk = record { total = size; bytes = bytes } in held) ≡ held_of file
unfolding held_of
held_front file bytes size len e all =
    let counted : min (length file) (BLKSIZE * blocks_held bytes) ≡ length bytes = ap (λ n. min n (BLKSIZE * blocks_held bytes)) (sym len) ∙ all in
    let blocks = held_blocks file bytes e counted in
    let upto : length bytes ≡ min (BLKSIZE * blocks_held file) (length file) = omega (arith, blocks, counted) in
    ap (λ n. let held : HeldDisk = record { total = n; bytes = bytes } in held) len
    ∙ ap (λ l. let held : HeldDisk = record { total = length file; bytes = l } in held)
    (e ∙ ap (λ k. take k file) upto ∙ take_min (BLKSIZE * blocks_held file) file)

pub told_all : (files : Option Files) (name front bytes : List ℕ) (size first end : ℕ) → HasSize files name size → first ≡ min size (2 * 4096) → first ≤ length front → end ≡ min size (BLKSIZE * blocks_held front) → Grows end front bytes → end ≤ length bytes → ReachesTo files name first [] front → ReachesTo files name end front bytes → IsTold files name (record { total = size; bytes = bytes })
told_all None name front bytes size first end has e reached f grows all front_told told =
    let behind = replicate (size - length bytes) 0 in
    let len : size ≡ length (bytes ++ behind) = omega (arith, length-append bytes behind, length-replicate {A = ℕ} (size - length bytes) 0, grows.within) in (
      Some (bytes ++ behind),
      tt,
      held_front (bytes ++ behind) bytes size len (sym (take_at bytes behind (length bytes) refl))
          (all_len front bytes size first end e reached f grows all),
    )
told_all (Some files) name front bytes size first end has e reached f grows all front_told told =
    let file = bytes_of files name in
    let is_front = told (front_of file front first (front_told refl)) in (
      Some file,
      sym has.0,
      held_front file bytes size (sym has.1) (front_of file bytes end is_front)
          (all_len front bytes size first end e reached f grows all),
    )
