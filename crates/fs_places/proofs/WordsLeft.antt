-- What stays of an environment's registers and words where a state is put: ESP and the flags. Its first word is 0 then, and twelve words stay as many.
use Rattle.std.proofs.Common.{◌≡◌, ◌∙◌, ℕ, suc, List, length, drop, refl, ap, arith, length-drop}
use Rattle.std.specs.Prelude.{get_or}
use Rattle.jos_base.specs.declared.registers.Regs.{Regs}
use Rattle.fs_jobs.specs.declared.place.TreeState.{TreeState}
use Rattle.fs_places.specs.TreePlaces.{registers_with, words_with}

pub esp_stays : (regs : Regs) (t : TreeState) → (registers_with regs t).esp ≡ regs.esp
unfolding registers_with
esp_stays regs t = refl

pub eflags_stay : (regs : Regs) (t : TreeState) → (registers_with regs t).eflags ≡ regs.eflags
unfolding registers_with
eflags_stay regs t = refl

pub first_is : (words : List ℕ) (t : TreeState) → get_or (words_with words t) 0 0 ≡ 0
unfolding words_with
first_is words t = refl

pub twelve_stay : (words : List ℕ) (t : TreeState) → length words ≡ 12 → length (words_with words t) ≡ 12
unfolding words_with
twelve_stay words t twelve =
    let behind : length (drop 8 words) ≡ 4 = length-drop 8 words ∙ omega (arith, twelve) in
    ap (λ (k : ℕ). suc (suc (suc (suc (suc (suc (suc (suc k)))))))) behind
