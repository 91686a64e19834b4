-- A record becomes that of a new file.
use Rattle.std.proofs.Common.{◌≡◌, ◌∙◌, ◌+◌, ◌*◌, ◌<◌, ◌≤◌, ◌⊎◌, ◌==◌, ◌||◌, ℕ, Bool, true, false}
use Rattle.std.proofs.Common.{List, [], ◌∷◌, ◌++◌, length, get_or, refl, sym, ap, subst, arith, add-one, inl, inr, if◌then◌else◌}
use Rattle.std.specs.Prelude.{nat_le, nat_lt, slice_index}
use Rattle.std.specs.List.{list_any}
use Rattle.std.proofs.lemmas.Bool.{cases_lt}
use Rattle.std.proofs.lemmas.Bool.Decides.{nat_tests}
use Rattle.std.proofs.lemmas.List.Folds.{list_any_at}
use Rattle.jos_base.specs.Below.{values_below}
use Rattle.fs_layout.specs.declared.numbers.TheConstants.{MAXNAMELEN}
use Rattle.fs_layout.specs.DiskImage.{slot_place}
use Rattle.fs_layout.specs.FileActs.{is_slash}
use Rattle.fs_acts.specs.BlockActs.{Put, make_record, name_byte, put_byte, put_word, stored, written}
use Rattle.fs_acts.proofs.Puts.{written-append}
use Rattle.fs_acts.proofs.Stored.{written-more}
use Rattle.fs_changes.specs.ChangePlans.{name_ends}
use Rattle.fs_runs.specs.TreeRuns.{HasPath}
use Rattle.fs_runs.proofs.Pieces.{IsNameAt}

-- ---- bytes of the name

none-passes : (p : ℕ → Bool) (xs : List ℕ) (k : ℕ) → list_any p xs ≡ false → k < length xs → p (get_or xs k 0) ≡ false
none-passes p xs k none less = by (p (get_or xs k 0)) refl
  where
    by : (b : Bool) → p (get_or xs k 0) ≡ b → p (get_or xs k 0) ≡ false
    by false is = is
    by true is = absurd (true-not-false (sym (list_any_at p xs k 0 less is) ∙ none))
      where
        true-not-false : true ≡ false → ⊥
        true-not-false e = cc

-- the byte of the page at a place of the name, or behind it, as the record gets it
pub record NameByte (name : List ℕ) (k word : ℕ) : Type 0 where
  pub ends : name_ends word ≡ nat_le (length name) k
  pub byte : (if name_ends word then 0 else word) ≡ name_byte name k

within-name : (name : List ℕ) (k word : ℕ) → k < length name → word ≡ get_or name k 0 → (word == 0) ≡ false → is_slash word ≡ false → NameByte name k word
within-name name k word less is no_end no_slash =
    let past : nat_le (length name) k ≡ false = grind (arith, nat_tests) in
    let inside : nat_lt k (length name) ≡ true = grind (arith, nat_tests) in
    let none : name_ends word ≡ false = rw (no_end, no_slash) refl in
    record { ends = none ∙ sym past; byte = rw (none, inside) is }

behind-name : (name : List ℕ) (k word : ℕ) → k ≡ length name → name_ends word ≡ true → NameByte name k word
behind-name name k word at some =
    let past : nat_le (length name) k ≡ true = grind (arith, nat_tests) in
    let inside : nat_lt k (length name) ≡ false = grind (arith, nat_tests) in
    record { ends = some ∙ sym past; byte = rw (some, inside) refl }

pub name-at : (page : ℕ → ℕ) (path name : List ℕ) (from k : ℕ) → HasPath page path → IsNameAt path from name → k ≤ length name →
    NameByte name k (page (from + k))
name-at page path name from k has at some =
    let within = at.within in
    elim (cases_lt k (length name)) [
      | inl less ↦
          let here : page (from + k) ≡ get_or path (from + k) 0 = has.bytes (from + k) (omega (arith, less, within)) in
          let is : page (from + k) ≡ get_or name k 0 = here ∙ at.bytes k less in
          within-name name k (page (from + k)) less is
          (ap (λ b. b == 0) here ∙ none-passes (λ b. b == 0) path (from + k) has.no_nul (omega (arith, less, within)))
          (ap is_slash is ∙ none-passes is_slash name k at.no_slash less)
      | inr past ↦
          let last : k ≡ length name = omega (arith, past, some) in
          behind-name name k (page (from + k)) last (subst (λ x. name_ends (page (from + x)) ≡ true) (sym last) (end-at at.ends))
    ]
  where
    ended : (word : ℕ) → word ≡ 0 → name_ends word ≡ true
    ended word e = rw e refl

    slash : (word other : ℕ) → word ≡ other → is_slash other ≡ true → name_ends word ≡ true
    slash word other e is = by (word == 0) (ap is_slash e ∙ is)
      where
        by : (b : Bool) → is_slash word ≡ true → (b || is_slash word) ≡ true
        by true is = refl
        by false is = is

    end-at : (from + length name ≡ length path) ⊎ (is_slash (slice_index path (from + length name)) ≡ true) →
        name_ends (page (from + length name)) ≡ true
    end-at (inl e) = ended (page (from + length name)) (ap page e ∙ has.ends)
    end-at (inr is) =
        let within = at.within in
        elim (cases_lt (from + length name) (length path)) [
          | inl less ↦ slash (page (from + length name)) (get_or path (from + length name) 0) (has.bytes (from + length name) less) is
          | inr past ↦
              let e : from + length name ≡ length path = omega (arith, past, within) in
              ended (page (from + length name)) (ap page e ∙ has.ends)
        ]

-- ---- the disk behind so many puts of each kind

put_named : ℕ → List ℕ → ℕ → Put
put_named new name k = put_byte (new + 1 + k) (name_byte name (1 + k))

put_zero : ℕ → ℕ → Put
put_zero new k = put_word (new + MAXNAMELEN + 4 * k) 0

pub named_to : (ℕ → ℕ) → ℕ → List ℕ → ℕ → ℕ → ℕ
named_to byte new name k = written (values_below k (put_named new name)) byte

pub zeros_to : (ℕ → ℕ) → ℕ → ℕ → ℕ → ℕ
zeros_to byte new k = written (values_below k (put_zero new)) byte

pub named-none : (byte : ℕ → ℕ) (new : ℕ) (name : List ℕ) → named_to byte new name 0 ≡ byte
unfolding named_to values_below written
named-none byte new name = refl

pub named-more : (byte : ℕ → ℕ) (new : ℕ) (name : List ℕ) (k : ℕ) →
    named_to byte new name (k + 1) ≡ stored (put_byte (new + (1 + k)) (name_byte name (1 + k))) (named_to byte new name k)
unfolding named_to put_named
named-more byte new name k =
    ap (λ x. written (values_below x (put_named new name)) byte) (add-one k) ∙ written-more k (put_named new name) byte
    ∙ ap (λ p. stored (put_byte p (name_byte name (1 + k))) (written (values_below k (put_named new name)) byte)) (place new k)
  where
    place : (new k : ℕ) → new + 1 + k ≡ new + (1 + k)
    place new k = omega arith

pub zeros-none : (byte : ℕ → ℕ) (new : ℕ) → zeros_to byte new 0 ≡ byte
unfolding zeros_to values_below written
zeros-none byte new = refl

pub zeros-more : (byte : ℕ → ℕ) (new k : ℕ) → zeros_to byte new (k + 1) ≡ stored (put_word (new + MAXNAMELEN + 4 * k) 0) (zeros_to byte new k)
unfolding zeros_to put_zero
zeros-more byte new k = ap (λ x. written (values_below x (put_zero new)) byte) (add-one k) ∙ written-more k (put_zero new) byte

-- all of them
pub made-all : (byte : ℕ → ℕ) (directory slot : ℕ) (name : List ℕ) → let new = slot_place byte directory slot in
    stored (put_byte new (name_byte name 0)) (zeros_to (named_to byte new name 127) new 32) ≡ written (make_record directory slot name byte) byte
unfolding make_record named_to put_named zeros_to put_zero written
made-all byte directory slot name =
    let new : ℕ = slot_place byte directory slot in
    let rest : List Put = values_below 127 (λ k. put_byte (new + 1 + k) (name_byte name (1 + k))) in
    let words : List Put = values_below 32 (λ k. put_word (new + MAXNAMELEN + 4 * k) 0) in
    let first : List Put = put_byte new (name_byte name 0) ∷ [] in
    sym (written-append (rest ++ words) first byte ∙ ap (λ (d : ℕ → ℕ). stored (put_byte new (name_byte name 0)) d) (written-append rest words byte))
