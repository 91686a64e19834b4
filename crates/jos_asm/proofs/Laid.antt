-- The spelled list has each item's bytes at its place, and its labels where they are said to be.
use Rattle.std.proofs.Common.{◌≡◌, ℕ, zero, suc, ◌+◌, ◌-◌, ◌*◌, ◌%◌, ◌^◌, ◌≤◌, All, Bool, true, false, List, [], ◌∷◌}
use Rattle.std.proofs.Common.{◌++◌, length, take, drop, Option, Some, None, refl, sym, ap, ◌∙◌, cond, arith}
use Rattle.std.proofs.Common.{append_assoc, length-append}
use Rattle.std.specs.Prelude.{is_some, nat_le, not, unwrap_or, IsTrue}
use Rattle.std.specs.List.{list_any}
use Rattle.std.specs.Str.{bytes_eq}
use Rattle.std.proofs.Math.Seq.{take-append_seam}
use Rattle.std.proofs.lemmas.List.{drop_at}
use Rattle.std.proofs.lemmas.Slice.Eq.{bytes_eq-Decides}
use Rattle.std.proofs.lemmas.Bool.{leb-true, leb-false, or_parts}
use Rattle.jos_isa.specs.Encoding.{encoded}
use Rattle.jos_asm.specs.declared.limits.TheConstants.{CODE_MAX}
use Rattle.jos_asm.specs.declared.item.Item.{Item}
use Rattle.jos_asm.specs.declared.item.Item.TheVariants as item
use Rattle.jos_asm.specs.Items.{is_item, length_of, target_of}
use Rattle.jos_asm.specs.Program.{Program, length_of_all, item_bytes, distance, place_from, place_in, known_place}
use Rattle.jos_asm.specs.Program.{is_unknown, first_unknown, first_twice, spelled_from}
use Rattle.jos_asm.specs.Laid.{IsLaidAt, IsLaid, AreLaidFrom, AreLaid}
use Rattle.jos_asm.proofs.Passes.{bytes_len, place_within}
use Rattle.jos_base.proofs.Options.{cond_none}

stands : (code front bytes rest : List ℕ) (at : ℕ) → length front ≡ at → code ≡ front ++ (bytes ++ rest) → IsLaidAt code at bytes
stands code front bytes rest at long is = ap (λ (l : List ℕ). take (length bytes) l) (ap (drop at) is ∙ drop_at front (bytes ++ rest) at long) ∙ take-append_seam bytes rest

leads : (behind place : ℕ) → behind ≤ 2 * CODE_MAX → place ≤ CODE_MAX → (behind + distance behind place) % 2 ^ 32 ≡ place
leads behind place low small = go (nat_le behind place) refl
  where
    go : (b : Bool) → nat_le behind place ≡ b → (behind + cond b (place - behind) (2 ^ 32 - (behind - place))) % 2 ^ 32 ≡ place
    go true e = let h = leb-true behind place e in omega (arith, h, small)
    go false e = let h = leb-false behind place e in omega (arith, h, low)

-- ---- names

-- no earlier label has the name, and each that does comes first
unknown_next : (place : List ℕ → Option ℕ) (target later : Option (List ℕ)) → cond (is_unknown place target) target later ≡ None → (is_unknown place target ≡ false) × (later ≡ None)
unknown_next place None later h = (refl, h)
unknown_next place (Some name) later h = go (is_some (place name)) h
  where
    go : (b : Bool) → cond (not b) (Some name) later ≡ None → (not b ≡ false) × (later ≡ None)
    go true h = (refl, h)
    go false h = absurd cc

known : (place : List ℕ → Option ℕ) (name : List ℕ) → is_unknown place (Some name) ≡ false → place name ≡ Some (unwrap_or (place name) 0)
known place name h = go (place name) h
  where
    go : (o : Option ℕ) → not (is_some o) ≡ false → o ≡ Some (unwrap_or o 0)
    go None h = absurd cc
    go (Some x) h = refl

abbrev names_with : List (List ℕ) → Item → List (List ℕ)
names_with before (item.Label name) = name ∷ before
names_with before (item.Insn insn) = before
names_with before (item.Jump row name) = before
names_with before (item.Address reg name) = before
names_with before (item.Bytes bytes) = before

abbrev has : List (List ℕ) → List ℕ → Bool
has before name = list_any (λ earlier. bytes_eq earlier name) before

twice_next : (before : List (List ℕ)) (i : Item) (items : List Item) → first_twice before (i ∷ items) ≡ None → first_twice (names_with before i) items ≡ None
unfolding first_twice
twice_next before (item.Label name) items h = (cond_none (has before name) name (first_twice (name ∷ before) items) h).1
twice_next before (item.Insn insn) items h = h
twice_next before (item.Jump row name) items h = h
twice_next before (item.Address reg name) items h = h
twice_next before (item.Bytes bytes) items h = h

-- where a label is that no earlier one is named by
abbrev Later : Program → List (List ℕ) → ℕ → List Item → Type 0
Later p before at items = (name : List ℕ) → has before name ≡ false → place_from at items name ≡ place_in p.items name

later_next : (p : Program) (before : List (List ℕ)) (at : ℕ) (i : Item) (items : List Item) → Later p before at (i ∷ items) → Later p (names_with before i) (at + length_of i) items
unfolding place_from
later_next p before at (item.Label label) items h name absent =
    let two = or_parts (bytes_eq label name) (has before name) absent in
    ap (λ b. cond b (Some at) (place_from (at + 0) items name)) (sym two.0) ∙ h name two.1
later_next p before at (item.Insn insn) items h name absent = h name absent
later_next p before at (item.Jump row label) items h name absent = h name absent
later_next p before at (item.Address reg label) items h name absent = h name absent
later_next p before at (item.Bytes bytes) items h name absent = h name absent

label_here : (p : Program) (before : List (List ℕ)) (at : ℕ) (label : List ℕ) (items : List Item) → Later p before at (item.Label label ∷ items) → first_twice before (item.Label label ∷ items) ≡ None
    → place_in p.items label ≡ Some at
unfolding place_from first_twice
label_here p before at label items h once =
    let absent = (cond_none (has before label) label (first_twice (label ∷ before) items) once).0 in
    sym (h label absent) ∙ ap (λ b. cond b (Some at) (place_from (at + 0) items label)) ((bytes_eq-Decides label label).1 refl)

-- ---- items

module _ (p : Program) (code : List ℕ) (small : (name : List ℕ) → known_place p.items name ≤ CODE_MAX) where
  here : (before : List (List ℕ)) (front rest : List ℕ) (at : ℕ) (i : Item) (items : List Item) → length front ≡ at → code ≡ front ++ (item_bytes p.base (known_place p.items) at i ++ rest)
      → first_twice before (i ∷ items) ≡ None → is_unknown (place_in p.items) (target_of i) ≡ false → Later p before at (i ∷ items) → at + length_of i ≤ CODE_MAX → IsLaid p code at i
  here before front rest at (item.Label name) items long is once named later room = label_here p before at name items later once
  here before front rest at (item.Insn insn) items long is once named later room = stands code front (encoded insn) rest at long is
  here before front rest at (item.Jump row name) items long is once named later room =
      let place = known_place p.items name in let behind = at + length_of (item.Jump row name) in
      (place, distance behind place, known (place_in p.items) name named, leads behind place (omega (arith, room)) (small name), stands code front _ rest at long is)
  here before front rest at (item.Address reg name) items long is once named later room =
      (known_place p.items name, known (place_in p.items) name named, stands code front _ rest at long is)
  here before front rest at (item.Bytes bytes) items long is once named later room = stands code front bytes rest at long is

  laid : (items : List Item) (before : List (List ℕ)) (front : List ℕ) (at : ℕ) → All (λ i. IsTrue (is_item i)) items → length front ≡ at → code ≡ front ++ spelled_from p.base (known_place p.items) at items
      → first_twice before items ≡ None → first_unknown (place_in p.items) items ≡ None → Later p before at items → at + length_of_all items ≤ CODE_MAX → AreLaidFrom p code at items
  unfolding spelled_from first_unknown length_of_all
  laid [] before front at are long is once named later room = tt
  laid (i ∷ items) before front at are long is once named later room =
      let bytes = item_bytes p.base (known_place p.items) at i in let rest = spelled_from p.base (known_place p.items) (at + length_of i) items in
      let two = unknown_next (place_in p.items) (target_of i) (first_unknown (place_in p.items) items) named in (
        here before front rest at i items long is once two.0 later (omega (arith, room)),
        laid items (names_with before i) (front ++ bytes) (at + length_of i) (λ k d within. are (suc k) d (omega (arith, within)))
            (length-append front bytes ∙ ap (λ n. n + length bytes) long ∙ ap (λ n. at + n) (bytes_len p.base (known_place p.items) at i (are zero i (omega arith))))
            (is ∙ sym (append_assoc front bytes rest)) (twice_next before i items once) two.1 (later_next p before at i items later) (omega (arith, room)),
      )

pub all_laid : (p : Program) (code : List ℕ) → All (λ i. IsTrue (is_item i)) p.items → length_of_all p.items ≤ CODE_MAX → first_twice [] p.items ≡ None → first_unknown (place_in p.items) p.items ≡ None
    → code ≡ spelled_from p.base (known_place p.items) 0 p.items → AreLaid p code
unfolding AreLaid
all_laid p code are room once named is =
    laid p code (λ name. let w = place_within p.items 0 name in omega (arith, w, room)) p.items [] [] 0 are refl is once named (λ name absent. refl) (omega (arith, room))
