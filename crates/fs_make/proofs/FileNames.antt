-- The names that files may have, and how one is read from a record.
use Rattle.std.proofs.Common.{◌≡◌, ◌∙◌, ◌+◌, ◌-◌, ◌<◌, ◌==◌, ◌&&◌, ◌||◌, ℕ, zero, suc, Bool, true, false, not}
use Rattle.std.proofs.Common.{List, [], ◌∷◌, ◌++◌, length, get_or, take, refl, ap, arith, length-append}
use Rattle.std.specs.Prelude.{nat_lt}
use Rattle.std.specs.List.{list_any, before_first}
use Rattle.std.proofs.lemmas.Bool.{and_parts, and_from, or_parts, or_from, not-true, ltb-true, lt-ltb}
use Rattle.std.proofs.lemmas.List.{get_or_append_left, get_or-append_right, take_at}
use Rattle.std.proofs.lemmas.List.Sums.{position_or_len_is}
use Rattle.fs_layout.specs.declared.numbers.TheConstants.{MAXNAMELEN}
use Rattle.fs_layout.specs.Layout.{zeros}
use Rattle.fs_layout.specs.FileActs.{is_slash}
use Rattle.fs_layout.specs.DiskImage.{name_of, is_empty_record, is_good_name}
use Rattle.fs_layout.proofs.Written.{Stands, length-zeros, stands-first}
use Rattle.fs_make.specs.MakeFaults.{is_file_name}
use Rattle.fs_make.proofs.Standing.{get_or-zeros, values_below-is}

-- ---- what is known of a file's name

pub record FileName (name : List ℕ) : Type 0 where
  pub some : 0 < length name
  pub short : length name < MAXNAMELEN
  pub no_nul : (k : ℕ) → k < length name → (get_or name k 0 == 0) ≡ false
  pub no_slash : list_any is_slash name ≡ false

-- the bytes that a name doesn't have
abbrev ends_name : ℕ → Bool
ends_name byte = is_slash byte || (byte == 0)

-- none is a NUL
each-no_nul : (name : List ℕ) (k : ℕ) → list_any ends_name name ≡ false → k < length name → (get_or name k 0 == 0) ≡ false
each-no_nul [] k e within = absurd (omega arith)
each-no_nul (b ∷ rest) zero e within = (or_parts (is_slash b) (b == 0) (or_parts (ends_name b) (list_any ends_name rest) e).0).1
each-no_nul (b ∷ rest) (suc k) e within = each-no_nul rest k (or_parts (ends_name b) (list_any ends_name rest) e).1 (omega arith)

-- and none a slash
each-no_slash : (name : List ℕ) → list_any ends_name name ≡ false → list_any is_slash name ≡ false
each-no_slash [] e = refl
each-no_slash (b ∷ rest) e =
    let parts = or_parts (ends_name b) (list_any ends_name rest) e in
    or_from (is_slash b) (list_any is_slash rest) (or_parts (is_slash b) (b == 0) parts.0).0 (each-no_slash rest parts.1)

-- the test says so
pub file-name : (name : List ℕ) → is_file_name name ≡ true → FileName name
unfolding is_file_name
file-name name is =
    let both = and_parts (nat_lt 0 (length name) && nat_lt (length name) MAXNAMELEN) (not (list_any ends_name name)) is in
    let bounds = and_parts (nat_lt 0 (length name)) (nat_lt (length name) MAXNAMELEN) both.0 in
    let plain = not-true (list_any ends_name name) both.1 in
    record {
      some = ltb-true 0 (length name) bounds.0;
      short = ltb-true (length name) MAXNAMELEN bounds.1;
      no_nul = λ k within. each-no_nul name k plain within;
      no_slash = each-no_slash name plain;
    }

-- it is good in a record
pub name-good : (name : List ℕ) → FileName name → is_good_name name ≡ true
name-good name good =
    and_from (nat_lt (length name) MAXNAMELEN) (not (list_any is_slash name)) (lt-ltb (length name) MAXNAMELEN good.short)
    (ap not good.no_slash)

-- ---- a name in a record, with zeros behind it

-- the field is full
pub length-field : (name : List ℕ) → length name < MAXNAMELEN → length (name ++ zeros (MAXNAMELEN - length name)) ≡ MAXNAMELEN
length-field name short =
    omega (arith, length-append name (zeros (MAXNAMELEN - length name)), length-zeros (MAXNAMELEN - length name))

-- it is read back
pub name-read : (byte : ℕ → ℕ) (place : ℕ) (name : List ℕ) → FileName name →
    Stands byte place (name ++ zeros (MAXNAMELEN - length name)) → name_of byte place ≡ name
unfolding name_of
name-read byte place name good all =
    let behind : List ℕ = zeros (MAXNAMELEN - length name) in
    let is_nul = λ (b : ℕ). b == 0 in
    let long = length-field name good.short in
    let short = good.short in
    ap (before_first is_nul)
    (values_below-is MAXNAMELEN (λ k. byte (place + k)) (name ++ behind) 0 long (λ k within. all.each k (omega arith)))
    ∙ ap (λ (n : ℕ). take n (name ++ behind))
    (position_or_len_is is_nul (name ++ behind) (length name) 0 (omega arith)
    (λ k lt. ap is_nul (get_or_append_left name behind 0 k lt) ∙ good.no_nul k lt)
    (λ lt.
    ap is_nul
    (get_or-append_right name behind (length name) (length name) 0 refl (omega arith)
    ∙ get_or-zeros (MAXNAMELEN - length name) (length name - length name))))
    ∙ take_at name behind (length name) refl

-- and it is not empty
pub name-some : (byte : ℕ → ℕ) (place : ℕ) (name : List ℕ) → FileName name →
    Stands byte place (name ++ zeros (MAXNAMELEN - length name)) → is_empty_record byte place ≡ false
name-some byte place name good all =
    let first = (stands-first byte place name (zeros (MAXNAMELEN - length name)) all).each 0 good.some in
    ap (λ (b : ℕ). b == 0) (ap byte (start place) ∙ first) ∙ good.no_nul 0 good.some
  where
    start : (p : ℕ) → p ≡ p + 0
    start p = omega arith
