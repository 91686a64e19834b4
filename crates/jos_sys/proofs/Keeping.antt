-- That each live environment has a space of its own is kept by every step.
use Rattle.std.proofs.Common.{◌≡◌, ◌≢◌, ◌∙◌, inl, inr, ℕ, Bool, true, false, not, refl, sym, ap, subst}
use Rattle.jos_base.specs.declared.environment.Status.{Status}
use Rattle.jos_base.specs.declared.environment.Status.TheVariants.{Free, Dying, NotRunnable, Runnable, Running}
use Rattle.jos_base.specs.Words.{upd}
use Rattle.jos_base.specs.SpacesState.{SpacesState, reserved, free, directory, directories, is_directory, reserved_frames, first_spaces}
use Rattle.jos_base.specs.Environments.{Environments, Slot, with_slot, is_free, is_live, free_slot, slot_freed, first_environments}
use Rattle.jos_base.specs.KernelState.{HasSpaces}
use Rattle.std.specs.Prelude.{nat_lt, if◌then◌else◌}
use Rattle.std.proofs.lemmas.Bool.{false≢true, cases_eq}
use Rattle.jos_base.proofs.Maps.{upd-at, upd-other, upd-alike}

module _ (s t : SpacesState) (e f : Environments) (keeps : HasSpaces s e) where
  -- the same directories, and the same slots live in the same spaces
  pub keeps_alike : directories t ≡ directories s → ((q : ℕ) → is_live (f.slots q) ≡ is_live (e.slots q))
      → ((q : ℕ) → (f.slots q).directory ≡ (e.slots q).directory) → HasSpaces t f
  keeps_alike same lives spaces = record {
    in_use = λ n live. ap (λ d. d (f.slots n).directory) same ∙ ap (directories s) (spaces n) ∙ keeps.in_use n (sym (lives n) ∙ live);
    apart = λ n m live_n live_m one. keeps.apart n m (sym (lives n) ∙ live_n) (sym (lives m) ∙ live_m) (sym (spaces n) ∙ one ∙ spaces m);
    owned = λ d used. let o = keeps.owned d (sym (ap (λ g. g d) same) ∙ used) in (o.0, lives o.0 ∙ o.1, spaces o.0 ∙ o.2);
  }

  module _ (n : ℕ) (there : (q : ℕ) → q ≢ n → f.slots q ≡ e.slots q) where
    was_live : (q : ℕ) → q ≢ n → is_live (f.slots q) ≡ true → is_live (e.slots q) ≡ true
    was_live q ne live = ap is_live (sym (there q ne)) ∙ live

    same_space : (q : ℕ) → q ≢ n → (f.slots q).directory ≡ (e.slots q).directory
    same_space q ne = ap (λ (z : Slot). z.directory) (there q ne)

    was_used : (q : ℕ) → q ≢ n → is_live (f.slots q) ≡ true → directories s (f.slots q).directory ≡ true
    was_used q ne live = ap (directories s) (same_space q ne) ∙ keeps.in_use q (was_live q ne live)

    both_apart : (q r : ℕ) → q ≢ n → r ≢ n → is_live (f.slots q) ≡ true → is_live (f.slots r) ≡ true
        → (f.slots q).directory ≡ (f.slots r).directory → q ≡ r
    both_apart q r ne nf live_q live_r one =
        keeps.apart q r (was_live q ne live_q) (was_live r nf live_r) (sym (same_space q ne) ∙ one ∙ same_space r nf)

    -- an environment is made, and its space was none before
    module _ (d : ℕ) (live : is_live (f.slots n) ≡ true) (space : (f.slots n).directory ≡ d) (was_none : directories s d ≡ false) (now : directories t ≡ upd (directories s) d true) where
      elsewhere : (q : ℕ) → q ≢ n → is_live (f.slots q) ≡ true → (f.slots q).directory ≢ d
      elsewhere q ne live_q e = let used = was_used q ne live_q in let here = ap (directories s) e in cc

      pub keeps_made : is_live (e.slots n) ≡ false → HasSpaces t f
      keeps_made was_free = record {
        in_use = λ q live_q. elim (cases_eq q n) [
          | inl e ↦ ap (λ z. directories t (f.slots z).directory) e ∙ ap (directories t) space ∙ ap (λ g. g d) now ∙ upd-at (directories s) d true
          | inr ne ↦ ap (λ g. g (f.slots q).directory) now ∙ upd-other (directories s) d true (f.slots q).directory (elsewhere q ne live_q) ∙ was_used q ne live_q
        ];
        apart = λ q r live_q live_r one. elim (cases_eq q n) [
          | inl e ↦ elim (cases_eq r n) [
            | inl g ↦ e ∙ sym g
            | inr ne ↦ absurd (elsewhere r ne live_r (sym one ∙ ap (λ z. (f.slots z).directory) e ∙ space))
          ]
          | inr ne ↦ elim (cases_eq r n) [
            | inl g ↦ absurd (elsewhere q ne live_q (one ∙ ap (λ z. (f.slots z).directory) g ∙ space))
            | inr nf ↦ both_apart q r ne nf live_q live_r one
          ]
        ];
        owned = λ g used. elim (cases_eq g d) [
          | inl e ↦ (n, live, space ∙ sym e)
          | inr ne ↦ (
              let o = keeps.owned g (sym (upd-other (directories s) d true g ne) ∙ sym (ap (λ h. h g) now) ∙ used) in
              let other : o.0 ≢ n = λ h. (let a : is_live (e.slots n) ≡ true = ap (λ z. is_live (e.slots z)) (sym h) ∙ o.1 in cc) in
              (o.0, ap is_live (there o.0 other) ∙ o.1, same_space o.0 other ∙ o.2))
        ];
      }

    -- an environment is destroyed, and its space
    module _ (was_live_n : is_live (e.slots n) ≡ true) (free : is_live (f.slots n) ≡ false) (now : directories t ≡ upd (directories s) (e.slots n).directory false) where
      not_n : (q : ℕ) → is_live (f.slots q) ≡ true → q ≢ n
      not_n q live e = let here = ap (λ z. is_live (f.slots z)) e in cc

      pub keeps_destroyed : HasSpaces t f
      keeps_destroyed = record {
        in_use = λ q live. (
            let ne = not_n q live in
            let away : (f.slots q).directory ≢ (e.slots n).directory =
            λ one. ne (keeps.apart q n (was_live q ne live) was_live_n (sym (same_space q ne) ∙ one)) in
            ap (λ g. g (f.slots q).directory) now ∙ upd-other (directories s) (e.slots n).directory false (f.slots q).directory away ∙ was_used q ne live);
        apart = λ q r live_q live_r one. both_apart q r (not_n q live_q) (not_n r live_r) live_q live_r one;
        owned = λ g used. elim (cases_eq g (e.slots n).directory) [
          | inl one ↦ (let here : directories t g ≡ false = ap (λ h. h g) now ∙ ap (upd (directories s) (e.slots n).directory false) one ∙ upd-at (directories s) (e.slots n).directory false in cc)
          | inr ne ↦ (
              let o = keeps.owned g (sym (upd-other (directories s) (e.slots n).directory false g ne) ∙ sym (ap (λ h. h g) now) ∙ used) in
              let other : o.0 ≢ n = λ same. ne (sym o.2 ∙ ap (λ z. (e.slots z).directory) same) in
              (o.0, ap is_live (there o.0 other) ∙ o.1, same_space o.0 other ∙ o.2))
        ];
      }

-- a slot whose place another takes that is as live, and in the same space
pub keeps_slot : (s : SpacesState) (e f : Environments) (n : ℕ) (slot : Slot) → f ≡ with_slot e n slot
    → is_live slot ≡ is_live (e.slots n) → slot.directory ≡ (e.slots n).directory → HasSpaces s e → HasSpaces s f
keeps_slot s e f n slot now live space keeps =
    subst (HasSpaces s) (sym now)
    (keeps_alike s s e (with_slot e n slot) keeps refl (upd-alike is_live e.slots n slot live) (upd-alike (λ z. z.directory) e.slots n slot space))

-- spaces whose directories stay
pub keeps_spaces : (s t : SpacesState) (e : Environments) → directories t ≡ directories s → HasSpaces s e → HasSpaces t e
keeps_spaces s t e same keeps = keeps_alike s t e e keeps same (λ q. refl) (λ q. refl)

-- the same spaces, seen again
pub keeps_seen : (s t : SpacesState) (e : Environments) → t ≡ s → HasSpaces s e → HasSpaces t e
keeps_seen s t e same keeps = subst (λ z. HasSpaces z e) (sym same) keeps

-- a status that is not that of a free slot
pub lives : (status : Status) → status ≢ Free → not (is_free status) ≡ true
lives Free other = absurd (other refl)
lives Dying other = refl
lives NotRunnable other = refl
lives Runnable other = refl
lives Running other = refl

-- an environment and its space that are gone
pub freed_keeps : (s t : SpacesState) (e f : Environments) → HasSpaces s e → (n id : ℕ) → f ≡ slot_freed e n id → is_live (e.slots n) ≡ true
    → directories t ≡ upd (directories s) (e.slots n).directory false → HasSpaces t f
freed_keeps s t e f keeps n id now live gone =
    keeps_destroyed s t e f keeps n (λ q ne. ap (λ z. z.slots q) now ∙ upd-other e.slots n (free_slot id) q ne) live
    (ap (λ z. is_live (z.slots n)) now ∙ ap is_live (upd-at e.slots n (free_slot id))) gone

-- no environment and no space
none_at_first : (frames : ℕ) → HasSpaces (first_spaces frames) first_environments
unfolding first_spaces first_environments
none_at_first frames = record {
  in_use = λ n live. absurd (false≢true live);
  apart = λ n m live_n live_m one. absurd (false≢true live_n);
  owned = λ d used. absurd (none (nat_lt d (reserved_frames frames)) (nat_lt d frames) used);
}
  where
    none : (a b : Bool) → is_directory (if a then reserved else if b then free else reserved) ≡ true → ⊥
    none true b e = false≢true e
    none false true e = false≢true e
    none false false e = false≢true e

pub first_keeps : (frames : ℕ) (s : SpacesState) (e : Environments) → s ≡ first_spaces frames → e ≡ first_environments → HasSpaces s e
first_keeps frames s e spaces none =
    subst (λ z. HasSpaces z e) (sym spaces) (subst (HasSpaces (first_spaces frames)) (sym none) (none_at_first frames))
