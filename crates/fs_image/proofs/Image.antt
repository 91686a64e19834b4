-- What the tests of an image give.
use Rattle.std.proofs.Common.{◌≡◌, ℕ, ◌+◌, ◌*◌, ◌<◌, ◌≤◌, ◌⊎◌, inl, inr, Bool, true, false, Ok, Err, Option, Some, None, Result, List, [], ◌∷◌, length, get_or, refl, sym, ◌∙◌, ap}
use Rattle.std.specs.Prelude.{◌==◌, ◌&&◌, not, nat_le}
use Rattle.std.specs.Option.{option_map}
use Rattle.std.specs.Result.{result_err}
use Rattle.std.proofs.lemmas.List.{get_or_past}
use Rattle.fs_layout.specs.declared.numbers.TheConstants.{BLKSIZE, FS_MAGIC}
use Rattle.fs_layout.specs.DiskImage as image
use Rattle.fs_layout.specs.DiskImage.{Blocks, Test, none_named, in_turn, for_each_below, demand}
use Rattle.fs_image.specs.declared.fault.ImageFault.{ImageFault}
use Rattle.fs_image.specs.Answers.{blocks_in, told, fault_of}
use Rattle.fs_image.proofs.Each.{turn_fails, turn_passes, turn_last, append_fails, append_passes, each_none, each_passed, each_failed}
use Rattle.std.proofs.lemmas.Bool.{cases_lt}
use Rattle.fs_layout.proofs.OneTest.{demand_fails, demand_passes}

-- ---- the super block

abbrev pub long : ℕ → (ℕ → ℕ) → Bool
long total byte = nat_le (3 * BLKSIZE) total && nat_le (BLKSIZE * image.block_count byte) total

pub super_1 : (total : ℕ) (byte : ℕ → ℕ) (n : Blocks) → long total byte ≡ false → in_turn (image.super_tests total byte) n ≡ Err image.TooShort
unfolding image.super_tests in_turn
super_1 total byte n e = rw e refl

pub super_2 : (total : ℕ) (byte : ℕ → ℕ) (n : Blocks) → long total byte ≡ true → (image.magic_of byte == FS_MAGIC) ≡ false → in_turn (image.super_tests total byte) n ≡ Err image.Magic
unfolding image.super_tests in_turn
super_2 total byte n e h = rw (e, h) refl

pub super_3 : (total : ℕ) (byte : ℕ → ℕ) (n : Blocks) → long total byte ≡ true → (image.magic_of byte == FS_MAGIC) ≡ true → image.is_good_count (image.block_count byte) ≡ false → in_turn (image.super_tests total byte) n ≡ Err image.BlockCount
unfolding image.super_tests in_turn
super_3 total byte n e h k = rw (e, h, k) refl

pub super_4 : (total : ℕ) (byte : ℕ → ℕ) (n : Blocks) → long total byte ≡ true → (image.magic_of byte == FS_MAGIC) ≡ true → image.is_good_count (image.block_count byte) ≡ true → image.is_directory_at byte image.root_place ≡ false → in_turn (image.super_tests total byte) n ≡ Err image.RootKind
unfolding image.super_tests in_turn
super_4 total byte n e h k l = rw (e, h, k, l) refl

pub super_5 : (total : ℕ) (byte : ℕ → ℕ) (n : Blocks) → long total byte ≡ true → (image.magic_of byte == FS_MAGIC) ≡ true → image.is_good_count (image.block_count byte) ≡ true → image.is_directory_at byte image.root_place ≡ true → in_turn (image.super_tests total byte) n ≡ Ok n
unfolding image.super_tests in_turn
super_5 total byte n e h k l = rw (e, h, k, l) refl

-- ---- the first blocks

abbrev pub in_use : (ℕ → ℕ) → ℕ → Test
in_use byte block = demand (not (image.is_marked_free byte block)) (image.MarkedFree block)

pub blocks_none : (byte : ℕ → ℕ) (n : Blocks) → for_each_below 0 (in_use byte) n ≡ Ok n
blocks_none byte n = each_none (in_use byte) n

pub blocks_passed : (byte : ℕ → ℕ) (i : ℕ) (n : Blocks) → for_each_below i (in_use byte) n ≡ Ok n → image.is_marked_free byte i ≡ false → for_each_below (i + 1) (in_use byte) n ≡ Ok n
blocks_passed byte i n e h = each_passed (in_use byte) n n (Ok n) i e (demand_passes (not (image.is_marked_free byte i)) (image.MarkedFree i) n (ap not h))

pub blocks_failed : (byte : ℕ → ℕ) (i count : ℕ) (n : Blocks) → count ≡ image.first_data_block (image.block_count byte) → i < count → for_each_below i (in_use byte) n ≡ Ok n → image.is_marked_free byte i ≡ true → image.first_blocks_test byte n ≡ Err (image.MarkedFree i)
unfolding image.first_blocks_test
blocks_failed byte i count n c h e m =
    ap (λ k. for_each_below k (in_use byte) n) (sym c)
    ∙ each_failed (in_use byte) n n (image.MarkedFree i) i count h e (demand_fails (not (image.is_marked_free byte i)) (image.MarkedFree i) n (ap not m))

pub blocks_done : (byte : ℕ → ℕ) (i count : ℕ) (n : Blocks) → count ≡ image.first_data_block (image.block_count byte) → i ≡ count → for_each_below i (in_use byte) n ≡ Ok n → image.first_blocks_test byte n ≡ Ok n
unfolding image.first_blocks_test
blocks_done byte i count n c h e = ap (λ k. for_each_below k (in_use byte) n) (sym (h ∙ c)) ∙ e

-- ---- the tree

abbrev roots : (ℕ → ℕ) → Test
roots byte = in_turn (image.record_tests byte image.root_place)

abbrev contents : (ℕ → ℕ) → Test
contents byte = image.contents_test (image.block_count byte) byte image.root_place

pub tree_1 : (byte : ℕ → ℕ) (n : Blocks) (f : image.ImageFault) → roots byte n ≡ Err f → in_turn (image.tree_tests byte) n ≡ Err f
unfolding image.tree_tests
tree_1 byte n f e = turn_fails (roots byte) (contents byte ∷ image.first_blocks_test byte ∷ []) n f e

pub tree_2 : (byte : ℕ → ℕ) (n m : Blocks) (f : image.ImageFault) → roots byte n ≡ Ok m → contents byte m ≡ Err f → in_turn (image.tree_tests byte) n ≡ Err f
unfolding image.tree_tests
tree_2 byte n m f e h = turn_passes (roots byte) (contents byte ∷ image.first_blocks_test byte ∷ []) n m e ∙ turn_fails (contents byte) (image.first_blocks_test byte ∷ []) m f h

pub tree_3 : (byte : ℕ → ℕ) (n m k : Blocks) (r : Result Blocks image.ImageFault) → roots byte n ≡ Ok m → contents byte m ≡ Ok k → image.first_blocks_test byte k ≡ r → in_turn (image.tree_tests byte) n ≡ r
unfolding image.tree_tests
tree_3 byte n m k r e h l =
    turn_passes (roots byte) (contents byte ∷ image.first_blocks_test byte ∷ []) n m e
    ∙ turn_passes (contents byte) (image.first_blocks_test byte ∷ []) m k h ∙ turn_last (image.first_blocks_test byte) k ∙ l

-- ---- all of them

element : (l : List Bool) (q : ℕ) → ((k : ℕ) → k < length l → get_or l k false ≡ false) → (q < length l) ⊎ (length l ≤ q) → get_or l q false ≡ false
element l q h (inl within) = h q within
element l q h (inr past) = get_or_past l q false past

pub cleared : (l : List Bool) → ((k : ℕ) → k < length l → get_or l k false ≡ false) → blocks_in l ≡ none_named
unfolding blocks_in
cleared l h = λ i. λ q. element l q h (cases_lt q (length l)) i

err_of : (r : Option ImageFault) (n : Blocks) → result_err (told r n) ≡ option_map fault_of r
err_of None n = refl
err_of (Some fault) n = refl

pub image_1 : (total : ℕ) (byte : ℕ → ℕ) (f : image.ImageFault) → in_turn (image.super_tests total byte) none_named ≡ Err f → image.image_fault total byte ≡ Some f
unfolding image.image_fault image.image_tests
image_1 total byte f e = ap result_err (append_fails (image.super_tests total byte) (image.tree_tests byte) none_named f e)

pub image_2 : (total : ℕ) (byte : ℕ → ℕ) (start now : Blocks) (r : Option ImageFault) → start ≡ none_named → in_turn (image.super_tests total byte) none_named ≡ Ok none_named → told r now ≡ in_turn (image.tree_tests byte) start → image.image_fault total byte ≡ option_map fault_of r
unfolding image.image_fault image.image_tests
image_2 total byte start now r s e h =
    ap result_err (append_passes (image.super_tests total byte) (image.tree_tests byte) none_named none_named e ∙ ap (in_turn (image.tree_tests byte)) (sym s) ∙ sym h) ∙ err_of r now
