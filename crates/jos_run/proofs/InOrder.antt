-- The frames have one use each: as each frame has one role in the lists, it has one use in the kernel's state, which is in order.
use Rattle.std.proofs.Common.{◌≡◌, ◌≢◌, ◌∙◌, ℕ, zero, suc, ◌/◌, ◌%◌, ◌<◌, Bool, true, false, cond, List}
use Rattle.std.proofs.Common.{Some, None, sym, ap, arith}
use Rattle.std.specs.List.{All}
use Rattle.std.specs.Prelude.{is_some}
use Rattle.jos_base.specs.Reach.{Entry}
use Rattle.jos_base.specs.Counting.{frame_limit}
use Rattle.jos_base.specs.SpacesState.{Use, free}
use Rattle.jos_space.specs.declared.role.Role.{Role}
use Rattle.jos_space.specs.declared.role.Role.TheVariants.{Free, Table}
use Rattle.jos_space.specs.Frames.{Held, IsSound, state_of, entry_of, is_present, use_of, stacked}
use Rattle.jos_space.proofs.Lookups.{entry_region, region_facts, entry_limits}
use Rattle.jos_space.proofs.Roles.{below_frames, is_reserved}
use Rattle.jos_sys.specs.declared.system.System.{System}
use Rattle.jos_sys.specs.System as system
use Rattle.jos_sys.specs.System.{Keeps, HasSoundFrames}
use Rattle.jos_sys.proofs.Sending.{some_same}
use Rattle.lib_os.specs.InOrder.{AreFree, HasOneUse, IsInOrder}

-- ---- lists of places

-- what holds of all places holds of the list
all_listed : (P : ℕ → Type 0) (place : ℕ → ℕ) (n : ℕ) → ((k : ℕ) → k < n → P (place k)) → All P (stacked place n)
unfolding stacked
all_listed P place zero each k d lt = absurd (omega arith)
all_listed P place (suc n) each zero d lt = each n (omega arith)
all_listed P place (suc n) each (suc k) d lt = all_listed P place n (λ j below. each j (omega arith)) k d (omega arith)

-- places that are free and apart are a list of free frames
free_listed : (uses : ℕ → Use) (place : ℕ → ℕ) (n : ℕ) → ((k : ℕ) → k < n → uses (place k) ≡ free) →
    ((j k : ℕ) → j < n → k < n → place j ≡ place k → j ≡ k) → AreFree uses (stacked place n)
unfolding stacked
free_listed uses place zero each apart = tt
free_listed uses place (suc n) each apart = (
  each n (omega arith),
  all_listed (λ g. g ≢ place n) place n (λ k lt same. let is = apart k n (omega arith) (omega arith) same in absurd (omega arith)),
  free_listed uses place n (λ k lt. each k (omega arith)) (λ j k j_lt k_lt. apart j k (omega arith) (omega arith)),
)

-- ---- what a role tells

abbrev place_of : Role → ℕ
place_of (Free k) = k
place_of _ = 0

abbrev directory_of : Role → ℕ
directory_of (Table d r) = d
directory_of _ = 0

abbrev region_number : Role → ℕ
region_number (Table d r) = r
region_number _ = 0

-- an entry's bits are those below its frame
small_bits : (word : ℕ) (e : Entry) → entry_of word ≡ Some e → e.perm < 4096
small_bits word e is = by_bit (is_present word) is
  where
    found : Entry
    found = record { frame = word / 4096; perm = word % 4096 }

    by_bit : (b : Bool) → cond b (Some found) None ≡ Some e → e.perm < 4096
    by_bit true is = let same = ap (λ (x : Entry). x.perm) (some_same is) in omega arith
    by_bit false is = absurd cc

-- ---- the frames

module _ (n : ℕ) (c : Held) (sound : IsSound n c) where
  -- a frame that is not reserved has a number below the limit
  below_limit : (f : ℕ) → is_reserved (c.role f) ≡ false → f < frame_limit
  below_limit f used = let below = below_frames n c f sound used in let limit = sound.limit in omega arith

  -- the frames that are kept in the lists have one use each
  pub has_one_use : HasOneUse (state_of c)
  unfolding state_of
  has_one_use = record {
    pages = λ d p e is. ap use_of (sound.pages d p e is);
    owners = λ d p e is. (let r = entry_region c d p e is in ap use_of (region_facts c d (p / 1024) r.0 r.1).0);
    within = λ d p e is. entry_limits n c d p e sound is;
    small = λ d p e is. (let r = entry_region c d p e is in (below_limit e.frame (ap is_reserved (sound.pages d p e is)), small_bits _ e r.2));
    regions = λ d p e is. (let r = entry_region c d p e is in ap is_some r.1);
    tables = λ d r region is. (ap use_of (sound.tables d r region is), below_limit region.table (ap is_reserved (sound.tables d r region is)));
    tables_apart = λ d r e q x y x_is y_is same. (
        let roles = sym (sound.tables d r x x_is) ∙ ap c.role same ∙ sound.tables e q y y_is in
        (ap directory_of roles, ap region_number roles));
    region_owners = λ d r region is. ap use_of (region_facts c d r region is).0;
    free_list = free_listed _ c.place c.free_len (λ k lt. ap use_of (sound.listed k lt))
        (λ j k j_lt k_lt same. ap place_of (sym (sound.listed j j_lt) ∙ ap c.role same ∙ sound.listed k k_lt));
  }

-- ---- the kernel's state

-- the kernel's state is in order, where the system keeps what it keeps
pub in_order : (s : System) (input : List ℕ) → HasSoundFrames s → Keeps s → IsInOrder (system.state_of s input)
in_order s input sound keeps = record { frames = has_one_use _ _ sound.sound; spaces = keeps.spaces }
