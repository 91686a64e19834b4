-- Bytes that are put over those of a file, and zeros that are put behind them.
use Rattle.std.proofs.Common.{◌≡◌, ◌∙◌, ◌⊎◌, inl, inr, ℕ, ◌+◌, ◌-◌, ◌*◌, ◌/◌, ◌%◌, ◌<◌, ◌≤◌, zero, suc, Bool, true, false}
use Rattle.std.proofs.Common.{List, [], ◌++◌, length, get_or, refl, sym, ap, subst, arith, if◌then◌else◌}
use Rattle.std.specs.Prelude.{nat_lt, take, drop, replicate, slice_index}
use Rattle.std.proofs.lemmas.Bool.{cases_eq, cases_lt}
use Rattle.std.proofs.lemmas.Bool.Decides.{nat_tests}
use Rattle.std.proofs.lemmas.List.{length-take, length-replicate, length-append, get_or-take, get_or-drop, get_or-replicate}
use Rattle.std.proofs.lemmas.List.{get_or_append_left, get_or-append_right, take_all, append-nil}
use Rattle.jos_base.proofs.Bounds.{below_or_last}
use Rattle.fs_layout.specs.declared.numbers.TheConstants.{BLKSIZE, MAXNAMELEN, MAXFILESIZE}
use Rattle.fs_layout.specs.FileTree.{a_file, blocks_of}
use Rattle.fs_layout.specs.FileActs.{overwritten, resized}
use Rattle.jos_base.specs.Below.{values_below}
use Rattle.fs_layout.specs.DiskImage.{size_of, block_number_at, blocks_needed}
use Rattle.fs_layout.proofs.FileBytes.{length-overwritten, length-resized}
use Rattle.fs_acts.specs.BlockActs.{Put, put_byte, byte_place, put_bytes, put_size, stored, written, fill, overwrite}
use Rattle.fs_acts.specs.BlockLaws.{NowHas, Holds, OverwritesAreActs, FillsAreActs}
use Rattle.fs_acts.proofs.Puts.{written-append}
use Rattle.fs_acts.proofs.Stored.{stored-byte, stored-left, same-word, written-more}
use Rattle.fs_acts.proofs.Named.{own-two}
use Rattle.fs_acts.proofs.FileRecords.{Stands, stands-at, IsFile, file-at}
use Rattle.fs_acts.proofs.FileData.{DataOnly, SizePut, data-record, data-gives, size-put, nothing-put, length-file, byte-was}
use Rattle.fs_acts.proofs.FileData.{in-blocks, place-block}

-- ---- bytes at several places

-- a byte is as it was, or it stands at one of the places
puts-either : (n : ℕ) (p v : ℕ → ℕ) (byte : ℕ → ℕ) (q : ℕ) →
    (byte q ≡ written (values_below n (λ k. put_byte (p k) (v k))) byte q) ⊎ ((k : ℕ) × ((k < n) × (q ≡ p k)))
unfolding values_below written
puts-either zero p v byte q = inl refl
puts-either (suc n) p v byte q = elim (cases_eq q (p n)) [
  | inl e ↦ inr (n, (omega arith, e))
  | inr ne ↦
      elim (puts-either n p v byte q) [
        | inl e ↦
            inl
            (e ∙ sym (stored-left (put_byte (p n) (v n)) (written (values_below n (λ k. put_byte (p k) (v k))) byte) q ne)
            ∙ sym (ap (λ (d : ℕ → ℕ). d q) (written-more n (λ k. put_byte (p k) (v k)) byte)))
        | inr found ↦ inr (found.0, (omega (arith, found.1.0), found.1.1))
      ]
]

-- each stands at its place, where no two places are the same
pub puts-at : (n : ℕ) (p v : ℕ → ℕ) (byte : ℕ → ℕ) → ((i j : ℕ) → i < n → j < n → p i ≡ p j → i ≡ j) → (k : ℕ) → k < n →
    written (values_below n (λ i. put_byte (p i) (v i))) byte (p k) ≡ v k
puts-at zero p v byte apart k within = absurd (omega arith)
puts-at (suc n) p v byte apart k within =
    let f : ℕ → Put = λ i. put_byte (p i) (v i) in
    let before : ℕ → ℕ = written (values_below n f) byte in
    ap (λ (d : ℕ → ℕ). d (p k)) (written-more n f byte)
    ∙ (elim (below_or_last k n within) [
      | inl below ↦
          stored-left (f n) before (p k) (λ e. let same = apart k n within (omega arith) e in omega (arith, same, below))
          ∙ puts-at n p v byte (λ i j less also e. apart i j (omega (arith, less)) (omega (arith, also)) e) k below
      | inr last ↦ ap (stored (f n) before) (ap p last) ∙ stored-byte before (p n) (v n) ∙ ap v (sym last)
    ])

-- ---- bytes of a file

two-places : (n m a b : ℕ) → 4096 * n + a % 4096 ≡ 4096 * m + b % 4096 → (n ≡ m) × (a % 4096 ≡ b % 4096)
two-places n m a b e = (omega (arith, e), omega (arith, e))

one-place : (a b : ℕ) → a / 4096 ≡ b / 4096 → a % 4096 ≡ b % 4096 → a ≡ b
one-place a b e f = omega (arith, e, f)

-- no two of them stand at one place
places-apart : (byte : ℕ → ℕ) (place : ℕ) → Stands byte place → (a b : ℕ) → a / 4096 < blocks_needed byte place →
    b / 4096 < blocks_needed byte place → byte_place byte place a ≡ byte_place byte place b → a ≡ b
places-apart byte place stands a b first second e =
    let n : ℕ = block_number_at byte place (a / 4096) in
    let m : ℕ = block_number_at byte place (b / 4096) in
    let same = two-places n m a b e in
    elim (cases_eq (a / 4096) (b / 4096)) [
      | inl block ↦ one-place a b block same.1
      | inr ne ↦
          let two = own-two byte place (a / 4096) (b / 4096) n first second ne refl (sym same.0) in
          let once = stands.once n in
          absurd (omega (arith, two, once))
    ]

-- the places that are put at lie within the blocks
abbrev Within : (ℕ → ℕ) → ℕ → ℕ → List ℕ → Type 0
Within byte place at new = (k : ℕ) → k < length new → (at + k) / 4096 < blocks_needed byte place

put-data : (byte : ℕ → ℕ) (place at : ℕ) (new : List ℕ) → Within byte place at new →
    DataOnly byte (written (put_bytes byte place at new) byte) place
unfolding put_bytes
put-data byte place at new within = record {
  elsewhere = λ q.
      elim (puts-either (length new) (λ k. byte_place byte place (at + k)) (slice_index new) byte q) [
        | inl e ↦ inl e
        | inr found ↦
            inr (
              (at + found.0) / 4096,
              (within found.0 found.1.0, ap (λ (p : ℕ). p / BLKSIZE) found.1.1 ∙ place-block byte place (at + found.0)),
            )
      ];
}

-- a byte that was put
put-in : (byte : ℕ → ℕ) (place at : ℕ) (new : List ℕ) → Stands byte place → Within byte place at new → (a : ℕ) → at ≤ a →
    a < at + length new → written (put_bytes byte place at new) byte (byte_place byte place a) ≡ get_or new (a - at) 0
unfolding put_bytes
put-in byte place at new stands within a low high =
    let k : ℕ = a - at in
    let is : a ≡ at + k = omega (arith, low) in
    ap (λ n. written (values_below (length new) (λ i. put_byte (byte_place byte place (at + i)) (slice_index new i))) byte (byte_place byte place n))
    is
    ∙ puts-at (length new) (λ i. byte_place byte place (at + i)) (slice_index new) byte
    (λ i j less also e.
    plus at i j (places-apart byte place stands (at + i) (at + j) (within i less) (within j also) e))
    k (omega (arith, low, high))
  where
    plus : (at i j : ℕ) → at + i ≡ at + j → i ≡ j
    plus at i j e = omega (arith, e)

-- a byte beside those that were put
put-beside : (byte : ℕ → ℕ) (place at : ℕ) (new : List ℕ) → Stands byte place → Within byte place at new → (a : ℕ) →
    a / 4096 < blocks_needed byte place → (a < at) ⊎ (at + length new ≤ a) →
    byte (byte_place byte place a) ≡ written (put_bytes byte place at new) byte (byte_place byte place a)
unfolding put_bytes
put-beside byte place at new stands within a inside beside =
    elim (puts-either (length new) (λ k. byte_place byte place (at + k)) (slice_index new) byte (byte_place byte place a)) [
      | inl e ↦ e
      | inr found ↦
          let same = places-apart byte place stands a (at + found.0) inside (within found.0 found.1.0) found.1.1 in
          let less = found.1.0 in
          elim beside [ inl before ↦ absurd (omega (arith, same, before)) | inr behind ↦ absurd (omega (arith, same, behind, less)) ]
    ]

-- ---- overwritten

length-before : (bytes : List ℕ) (at : ℕ) → length (take at bytes ++ replicate (at - length bytes) 0) ≡ at
length-before bytes at =
    let whole = length-append (take at bytes) (replicate (at - length bytes) 0) in
    let first = length-take at bytes in
    let zeros : length (replicate (at - length bytes) 0) ≡ at - length bytes = length-replicate {A = ℕ} (at - length bytes) 0 in
    omega (arith, whole, first, zeros)

over-before : (bytes : List ℕ) (at : ℕ) (new : List ℕ) (a : ℕ) → at + length new ≤ length bytes → a < at →
    get_or (overwritten bytes at new) a 0 ≡ get_or bytes a 0
unfolding overwritten
over-before bytes at new a within low =
    let first : List ℕ = take at bytes in
    let before : List ℕ = first ++ replicate (at - length bytes) 0 in
    let long = length-before bytes at in
    let most = length-append before new in
    let of_first = length-take at bytes in
    get_or_append_left (before ++ new) (drop (at + length new) bytes) 0 a (omega (arith, most, long, low))
    ∙ get_or_append_left before new 0 a (omega (arith, long, low))
    ∙ get_or_append_left first (replicate (at - length bytes) 0) 0 a (omega (arith, of_first, within, low))
    ∙ get_or-take at bytes a 0 low

over-in : (bytes : List ℕ) (at : ℕ) (new : List ℕ) (a : ℕ) → at ≤ a → a < at + length new →
    get_or (overwritten bytes at new) a 0 ≡ get_or new (a - at) 0
unfolding overwritten
over-in bytes at new a low high =
    let before : List ℕ = take at bytes ++ replicate (at - length bytes) 0 in
    let long = length-before bytes at in
    let most = length-append before new in
    get_or_append_left (before ++ new) (drop (at + length new) bytes) 0 a (omega (arith, most, long, high))
    ∙ get_or-append_right before new at a 0 long low

over-behind : (bytes : List ℕ) (at : ℕ) (new : List ℕ) (a : ℕ) → at + length new ≤ a →
    get_or (overwritten bytes at new) a 0 ≡ get_or bytes a 0
unfolding overwritten
over-behind bytes at new a low =
    let before : List ℕ = take at bytes ++ replicate (at - length bytes) 0 in
    let long = length-before bytes at in
    let most = length-append before new in
    let end : ℕ = at + length new in
    let back : end + (a - end) ≡ a = omega (arith, low) in
    get_or-append_right (before ++ new) (drop end bytes) end a 0 (omega (arith, most, long)) low
    ∙ get_or-drop end bytes (a - end) 0
    ∙ ap (λ n. get_or bytes n 0) back

-- the size as it was
size-kept : (byte mid : ℕ → ℕ) (place : ℕ) → Stands byte place → DataOnly byte mid place → SizePut mid mid place (size_of byte place)
size-kept byte mid place stands data_only =
    let at : ℕ = place + MAXNAMELEN in
    record {
      size =
          same-word mid byte at (sym (data-record byte mid place stands data_only at (omega arith) (omega arith)))
          (sym (data-record byte mid place stands data_only (at + 1) (omega arith) (omega arith)))
          (sym (data-record byte mid place stands data_only (at + 2) (omega arith) (omega arith)))
          (sym (data-record byte mid place stands data_only (at + 3) (omega arith) (omega arith)));
      elsewhere = λ q apart. refl;
    }

-- the law
pub overwrites-acts : OverwritesAreActs
unfolding overwrite
overwrites-acts size byte way place bytes indirect holds at new within =
    let it = file-at size byte way place bytes indirect holds in
    let stands = stands-at size byte holds.sound way place holds.stands in
    let n : ℕ = size_of byte place in
    let sized : length bytes ≡ n = ap (λ (l : List ℕ). length l) (sym it.bytes_are) ∙ length-file byte place in
    let inside : Within byte place at new = λ k less. in-blocks (at + k) n (omega (arith, within, less, sized)) in
    let mid : ℕ → ℕ = written (put_bytes byte place at new) byte in
    let data_only = put-data byte place at new inside in
    let long = length-overwritten bytes at new in
    data-gives size byte mid mid way place n bytes (overwritten bytes at new) indirect holds data_only
    (size-kept byte mid place stands data_only) (ap (λ m. blocks_of m) (sym sized)) stands.good.readable.short
    (omega (arith, long, sized, within))
    (λ a below. elim (cases_lt a at) [
      | inl before ↦
          over-before bytes at new a within before ∙ byte-was byte place bytes it.bytes_are a below
          ∙ put-beside byte place at new stands inside a (in-blocks a n below) (inl before)
      | inr after ↦
          elim (cases_lt a (at + length new)) [
            | inl covered ↦ over-in bytes at new a after covered ∙ sym (put-in byte place at new stands inside a after covered)
            | inr behind ↦
                over-behind bytes at new a behind ∙ byte-was byte place bytes it.bytes_are a below
                ∙ put-beside byte place at new stands inside a (in-blocks a n below) (inr behind)
          ]
    ])

-- ---- filled

more-first : (bytes : List ℕ) (end a : ℕ) → length bytes ≤ end → a < length bytes →
    get_or (resized bytes end) a 0 ≡ get_or bytes a 0
unfolding resized
more-first bytes end a within low =
    let first = length-take end bytes in
    get_or_append_left (take end bytes) (replicate (end - length bytes) 0) 0 a (omega (arith, first, within, low))
    ∙ get_or-take end bytes a 0 (omega (arith, within, low))

more-zeros : (bytes : List ℕ) (end a : ℕ) → length bytes ≤ a → a < end → get_or (resized bytes end) a 0 ≡ 0
unfolding resized
more-zeros bytes end a low high =
    let first = length-take end bytes in
    get_or-append_right (take end bytes) (replicate (end - length bytes) 0) (length bytes) a 0 (omega (arith, first, low, high)) low
    ∙ get_or-replicate (end - length bytes) (a - length bytes) 0 0 (omega (arith, low, high))

more-none : (bytes : List ℕ) (end : ℕ) → end ≡ length bytes → bytes ≡ resized bytes end
unfolding resized
more-none bytes end same =
    let none : end - length bytes ≡ 0 = omega (arith, same) in
    sym
    (ap (λ n. take end bytes ++ replicate n 0) none ∙ append-nil (take end bytes) ∙ take_all end bytes (omega (arith, same)))

not-past : (end n : ℕ) → n ≤ 4235264 → blocks_of end ≡ blocks_of n → end ≤ 4235264
not-past end n short blocks = omega (arith, short, blocks)

lt-not : (n m : ℕ) → nat_lt n m ≡ false → m ≤ n
lt-not n m test = grind (arith, nat_tests)

lt-is : (n m : ℕ) → nat_lt n m ≡ true → n < m
lt-is n m test = grind (arith, nat_tests)

-- each byte of the longer file
fill-each : (byte : ℕ → ℕ) (place end : ℕ) (bytes : List ℕ) (indirect : Bool) → IsFile byte place bytes indirect → Stands byte place →
    length bytes ≡ size_of byte place → length bytes ≤ end → size_of byte place < end →
    Within byte place (size_of byte place) (replicate (end - size_of byte place) 0) →
    ((a : ℕ) → a < end → a / 4096 < blocks_needed byte place) → (a : ℕ) → a < end →
    get_or (resized bytes end) a 0
    ≡ written (put_bytes byte place (size_of byte place) (replicate (end - size_of byte place) 0)) byte (byte_place byte place a)
fill-each byte place end bytes indirect it stands sized within less inside blocks_in a below = elim (cases_lt a (size_of byte place)) [
  | inl before ↦
      more-first bytes end a within (omega (arith, before, sized)) ∙ byte-was byte place bytes it.bytes_are a before
      ∙ put-beside byte place (size_of byte place) (replicate (end - size_of byte place) 0) stands inside a (blocks_in a below) (inl before)
  | inr after ↦
      let n : ℕ = size_of byte place in
      let zeros : List ℕ = replicate (end - n) 0 in
      let long : length zeros ≡ end - n = length-replicate {A = ℕ} (end - n) 0 in
      more-zeros bytes end a (omega (arith, after, sized)) below
      ∙ sym (get_or-replicate (end - n) (a - n) 0 0 (omega (arith, after, below)))
      ∙ sym (put-in byte place n zeros stands inside a after (omega (arith, long, below, less)))
]

fill-more : (size : ℕ) (byte : ℕ → ℕ) (way : List ℕ) (place : ℕ) (bytes : List ℕ) (indirect : Bool) →
    Holds size byte way place (a_file bytes indirect) → (end : ℕ) → length bytes ≤ end → blocks_of end ≡ blocks_of (length bytes) →
    size_of byte place < end →
    NowHas size byte (written (put_bytes byte place (size_of byte place) (replicate (end - size_of byte place) 0) ++ put_size place end) byte) way
    (a_file (resized bytes end) indirect)
fill-more size byte way place bytes indirect holds end within blocks less =
    let it = file-at size byte way place bytes indirect holds in
    let stands = stands-at size byte holds.sound way place holds.stands in
    let n : ℕ = size_of byte place in
    let zeros : List ℕ = replicate (end - n) 0 in
    let long : length zeros ≡ end - n = length-replicate (end - n) 0 in
    let sized : length bytes ≡ n = ap (λ (l : List ℕ). length l) (sym it.bytes_are) ∙ length-file byte place in
    let needed : blocks_needed byte place ≡ blocks_of end = ap (λ m. blocks_of m) (sym sized) ∙ sym blocks in
    let short : end ≤ MAXFILESIZE = not-past end n stands.good.readable.short (blocks ∙ ap (λ m. blocks_of m) sized) in
    let blocks_in : (a : ℕ) → a < end → a / 4096 < blocks_needed byte place =
    λ a below. subst (λ m. a / 4096 < m) (sym needed) (in-blocks a end below) in
    let inside : Within byte place n zeros = λ k lt. blocks_in (n + k) (omega (arith, lt, long, less)) in
    let mid : ℕ → ℕ = written (put_bytes byte place n zeros) byte in
    subst (λ (d : ℕ → ℕ). NowHas size byte d way (a_file (resized bytes end) indirect))
    (sym (written-append (put_bytes byte place n zeros) (put_size place end) byte))
    (data-gives size byte mid (written (put_size place end) mid) way place end bytes (resized bytes end) indirect holds
    (put-data byte place n zeros inside) (size-put mid place end short) blocks short (length-resized bytes end)
    (fill-each byte place end bytes indirect it stands sized within less inside blocks_in))

-- the law
pub fills-acts : FillsAreActs
unfolding fill
fills-acts size byte way place bytes indirect holds end within blocks = by_test (nat_lt (size_of byte place) end) refl
  where
    it : IsFile byte place bytes indirect
    it = file-at size byte way place bytes indirect holds

    sized : length bytes ≡ size_of byte place
    sized = ap (λ (l : List ℕ). length l) (sym it.bytes_are) ∙ length-file byte place

    by_test : (less : Bool) → nat_lt (size_of byte place) end ≡ less →
        NowHas size byte
        (written
        (if less then put_bytes byte place (size_of byte place) (replicate (end - size_of byte place) 0) ++ put_size place end else []) byte) way
        (a_file (resized bytes end) indirect)
    by_test true test = fill-more size byte way place bytes indirect holds end within blocks (lt-is (size_of byte place) end test)
    by_test false test =
        let le = lt-not (size_of byte place) end test in
        nothing-put size byte way place bytes (resized bytes end) indirect holds (more-none bytes end (omega (arith, le, sized, within)))
