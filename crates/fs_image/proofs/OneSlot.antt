-- What the tests of a directory's record give.
use Rattle.std.proofs.Common.{◌≡◌, ℕ, zero, suc, ◌-◌, ◌<◌, ◌≢◌, inl, inr, arith, true, false, Ok, Err, Result, List, [], ◌∷◌, ◌++◌, refl, sym, ◌∙◌, ap}
use Rattle.std.specs.Prelude.{◌==◌, not}
use Rattle.std.proofs.lemmas.Bool.Decides.{eqb_tells}
use Rattle.fs_layout.specs.declared.numbers.TheConstants.{FTYPE_DIR}
use Rattle.fs_layout.specs.DiskImage.{Blocks, Test, ImageFault, Kind, BadName, SameName, in_turn, demand, only_where, for_each_below}
use Rattle.fs_layout.specs.DiskImage.{is_good_kind, kind_at, is_good_name, name_of, record_tests, has_taken_name, slot_place, slot_tests, slot_test}
use Rattle.fs_layout.specs.DiskImage.{is_directory_at, is_empty_record, contents_test, slot_count}
use Rattle.fs_image.specs.Answers.{own_tests}
use Rattle.fs_image.proofs.Each.{turn_fails, turn_passes, turn_last, append_fails, append_passes}
use Rattle.fs_layout.proofs.OneTest.{demand_fails, demand_passes, where_not, where_so}
use Rattle.std.proofs.lemmas.Bool.{ne_eqb}

-- the same tests, of a record at a place
abbrev own_at : (ℕ → ℕ) → ℕ → ℕ → ℕ → List Test
own_at byte directory i place =
    demand (is_good_kind (kind_at byte place)) (Kind place)
    ∷ demand (is_good_name (name_of byte place)) (BadName place)
    ∷ in_turn (record_tests byte place)
    ∷ demand (not (has_taken_name byte directory i)) (SameName place)
    ∷ []

placed : (byte : ℕ → ℕ) (directory i place : ℕ) (n : Blocks) → place ≡ slot_place byte directory i → in_turn (own_tests byte directory i) n ≡ in_turn (own_at byte directory i place) n
unfolding own_tests
placed byte directory i place n e = ap (λ p. in_turn (own_at byte directory i p) n) (sym e)

pub own_1 : (byte : ℕ → ℕ) (directory i place : ℕ) (n : Blocks) → place ≡ slot_place byte directory i → is_good_kind (kind_at byte place) ≡ false → in_turn (own_tests byte directory i) n ≡ Err (Kind place)
own_1 byte directory i place n e h =
    placed byte directory i place n e
    ∙ turn_fails (demand (is_good_kind (kind_at byte place)) (Kind place))
    (demand (is_good_name (name_of byte place)) (BadName place) ∷ in_turn (record_tests byte place) ∷ demand (not (has_taken_name byte directory i)) (SameName place) ∷ []) n (Kind place)
    (demand_fails (is_good_kind (kind_at byte place)) (Kind place) n h)

kind_passes : (byte : ℕ → ℕ) (directory i place : ℕ) (n : Blocks) → place ≡ slot_place byte directory i → is_good_kind (kind_at byte place) ≡ true
    → in_turn (own_tests byte directory i) n ≡ in_turn (demand (is_good_name (name_of byte place)) (BadName place) ∷ in_turn (record_tests byte place) ∷ demand (not (has_taken_name byte directory i)) (SameName place) ∷ []) n
kind_passes byte directory i place n e h =
    placed byte directory i place n e
    ∙ turn_passes (demand (is_good_kind (kind_at byte place)) (Kind place))
    (demand (is_good_name (name_of byte place)) (BadName place) ∷ in_turn (record_tests byte place) ∷ demand (not (has_taken_name byte directory i)) (SameName place) ∷ []) n n
    (demand_passes (is_good_kind (kind_at byte place)) (Kind place) n h)

pub own_2 : (byte : ℕ → ℕ) (directory i place : ℕ) (n : Blocks) → place ≡ slot_place byte directory i → is_good_kind (kind_at byte place) ≡ true → is_good_name (name_of byte place) ≡ false → in_turn (own_tests byte directory i) n ≡ Err (BadName place)
own_2 byte directory i place n e h k =
    kind_passes byte directory i place n e h
    ∙ turn_fails (demand (is_good_name (name_of byte place)) (BadName place)) (in_turn (record_tests byte place) ∷ demand (not (has_taken_name byte directory i)) (SameName place) ∷ []) n (BadName place)
    (demand_fails (is_good_name (name_of byte place)) (BadName place) n k)

name_passes : (byte : ℕ → ℕ) (directory i place : ℕ) (n : Blocks) → place ≡ slot_place byte directory i → is_good_kind (kind_at byte place) ≡ true → is_good_name (name_of byte place) ≡ true
    → in_turn (own_tests byte directory i) n ≡ in_turn (in_turn (record_tests byte place) ∷ demand (not (has_taken_name byte directory i)) (SameName place) ∷ []) n
name_passes byte directory i place n e h k =
    kind_passes byte directory i place n e h
    ∙ turn_passes (demand (is_good_name (name_of byte place)) (BadName place)) (in_turn (record_tests byte place) ∷ demand (not (has_taken_name byte directory i)) (SameName place) ∷ []) n n
    (demand_passes (is_good_name (name_of byte place)) (BadName place) n k)

pub own_3 : (byte : ℕ → ℕ) (directory i place : ℕ) (n : Blocks) (f : ImageFault) → place ≡ slot_place byte directory i → is_good_kind (kind_at byte place) ≡ true → is_good_name (name_of byte place) ≡ true
    → in_turn (record_tests byte place) n ≡ Err f → in_turn (own_tests byte directory i) n ≡ Err f
own_3 byte directory i place n f e h k l =
    name_passes byte directory i place n e h k ∙ turn_fails (in_turn (record_tests byte place)) (demand (not (has_taken_name byte directory i)) (SameName place) ∷ []) n f l

pub own_4 : (byte : ℕ → ℕ) (directory i place : ℕ) (n m : Blocks) → place ≡ slot_place byte directory i → is_good_kind (kind_at byte place) ≡ true → is_good_name (name_of byte place) ≡ true
    → in_turn (record_tests byte place) n ≡ Ok m → has_taken_name byte directory i ≡ true → in_turn (own_tests byte directory i) n ≡ Err (SameName place)
own_4 byte directory i place n m e h k l t =
    name_passes byte directory i place n e h k ∙ turn_passes (in_turn (record_tests byte place)) (demand (not (has_taken_name byte directory i)) (SameName place) ∷ []) n m l
    ∙ turn_last (demand (not (has_taken_name byte directory i)) (SameName place)) m ∙ demand_fails (not (has_taken_name byte directory i)) (SameName place) m (ap not t)

pub own_5 : (byte : ℕ → ℕ) (directory i place : ℕ) (n m : Blocks) → place ≡ slot_place byte directory i → is_good_kind (kind_at byte place) ≡ true → is_good_name (name_of byte place) ≡ true
    → in_turn (record_tests byte place) n ≡ Ok m → has_taken_name byte directory i ≡ false → in_turn (own_tests byte directory i) n ≡ Ok m
own_5 byte directory i place n m e h k l t =
    name_passes byte directory i place n e h k ∙ turn_passes (in_turn (record_tests byte place)) (demand (not (has_taken_name byte directory i)) (SameName place) ∷ []) n m l
    ∙ turn_last (demand (not (has_taken_name byte directory i)) (SameName place)) m ∙ demand_passes (not (has_taken_name byte directory i)) (SameName place) m (ap not t)

-- ---- with what stands below it

test_is : (a b : ℕ) → a ≡ b → (a == b) ≡ true
test_is a b e = elim (eqb_tells a b) [ inl same ↦ same.0 | inr other ↦ absurd (other.1 e) ]

pub slot_empty : (onward : ℕ → Test) (byte : ℕ → ℕ) (directory i place : ℕ) (n : Blocks) → place ≡ slot_place byte directory i → byte place ≡ 0 → slot_test onward byte directory i n ≡ Ok n
slot_empty onward byte directory i place n e h =
    where_not (not (is_empty_record byte (slot_place byte directory i))) (λ named. in_turn (slot_tests onward byte directory i) named) n
    (ap not (test_is (byte (slot_place byte directory i)) 0 (ap byte (sym e) ∙ h)))

slot_full : (onward : ℕ → Test) (byte : ℕ → ℕ) (directory i place : ℕ) (n : Blocks) → place ≡ slot_place byte directory i → byte place ≢ 0 → slot_test onward byte directory i n ≡ in_turn (slot_tests onward byte directory i) n
slot_full onward byte directory i place n e h =
    where_so (not (is_empty_record byte (slot_place byte directory i))) (λ named. in_turn (slot_tests onward byte directory i) named) n
    (ap not (ne_eqb (byte (slot_place byte directory i)) 0 (λ z. h (ap byte e ∙ z))))

slots_are : (onward : ℕ → Test) (byte : ℕ → ℕ) (directory i : ℕ) → slot_tests onward byte directory i ≡ own_tests byte directory i ++ only_where (is_directory_at byte (slot_place byte directory i)) (onward (slot_place byte directory i)) ∷ []
unfolding slot_tests own_tests
slots_are onward byte directory i = refl

pub slot_fails : (onward : ℕ → Test) (byte : ℕ → ℕ) (directory i place : ℕ) (n : Blocks) (f : ImageFault) → place ≡ slot_place byte directory i → byte place ≢ 0 → in_turn (own_tests byte directory i) n ≡ Err f → slot_test onward byte directory i n ≡ Err f
slot_fails onward byte directory i place n f e h k =
    slot_full onward byte directory i place n e h ∙ ap (λ l. in_turn l n) (slots_are onward byte directory i)
    ∙ append_fails (own_tests byte directory i) (only_where (is_directory_at byte (slot_place byte directory i)) (onward (slot_place byte directory i)) ∷ []) n f k

slot_below : (onward : ℕ → Test) (byte : ℕ → ℕ) (directory i place : ℕ) (n m : Blocks) → place ≡ slot_place byte directory i → byte place ≢ 0 → in_turn (own_tests byte directory i) n ≡ Ok m
    → slot_test onward byte directory i n ≡ only_where (is_directory_at byte place) (onward place) m
slot_below onward byte directory i place n m e h k =
    slot_full onward byte directory i place n e h ∙ ap (λ l. in_turn l n) (slots_are onward byte directory i)
    ∙ append_passes (own_tests byte directory i) (only_where (is_directory_at byte (slot_place byte directory i)) (onward (slot_place byte directory i)) ∷ []) n m k
    ∙ turn_last (only_where (is_directory_at byte (slot_place byte directory i)) (onward (slot_place byte directory i))) m
    ∙ ap (λ p. only_where (is_directory_at byte p) (onward p) m) (sym e)

pub slot_file : (onward : ℕ → Test) (byte : ℕ → ℕ) (directory i place : ℕ) (n m : Blocks) → place ≡ slot_place byte directory i → byte place ≢ 0 → in_turn (own_tests byte directory i) n ≡ Ok m
    → kind_at byte place ≢ FTYPE_DIR → slot_test onward byte directory i n ≡ Ok m
slot_file onward byte directory i place n m e h k d =
    slot_below onward byte directory i place n m e h k ∙ where_not (is_directory_at byte place) (onward place) m (ne_eqb (kind_at byte place) FTYPE_DIR d)

pub slot_directory : (onward : ℕ → Test) (byte : ℕ → ℕ) (directory i place : ℕ) (n m : Blocks) (r : Result Blocks ImageFault) → place ≡ slot_place byte directory i → byte place ≢ 0 → in_turn (own_tests byte directory i) n ≡ Ok m
    → kind_at byte place ≡ FTYPE_DIR → onward place m ≡ r → slot_test onward byte directory i n ≡ r
slot_directory onward byte directory i place n m r e h k d l =
    slot_below onward byte directory i place n m e h k ∙ where_so (is_directory_at byte place) (onward place) m (test_is (kind_at byte place) FTYPE_DIR d) ∙ l

-- ---- a directory

pub contents_none : (byte : ℕ → ℕ) (directory : ℕ) (n : Blocks) → contents_test 0 byte directory n ≡ Ok n
unfolding contents_test
contents_none byte directory n = refl

pub contents_deep : (depth : ℕ) (byte : ℕ → ℕ) (directory : ℕ) (n : Blocks) → 0 < depth → contents_test depth byte directory n ≡ for_each_below (slot_count byte directory) (slot_test (contents_test (depth - 1) byte) byte directory) n
unfolding contents_test
contents_deep zero byte directory n h = absurd (omega arith)
contents_deep (suc depth) byte directory n h =
    let e : suc depth - 1 ≡ depth = omega arith in ap (λ d. for_each_below (slot_count byte directory) (slot_test (contents_test d byte) byte directory) n) (sym e)
