-- What a change of one slot leaves of the table, over maps alone.
use Rattle.std.proofs.Common.{◌≡◌, ◌≢◌, ◌∙◌, ◌+◌, ◌<◌, ◌≤◌, inl, inr, ℕ, suc, Bool, true, false, cond, not}
use Rattle.std.proofs.Common.{refl, sym, ap, subst, arith}
use Rattle.jos_base.specs.declared.environment.Status.{Status}
use Rattle.jos_base.specs.declared.environment.Status.TheVariants.{Free, Dying, NotRunnable, Runnable, Running}
use Rattle.jos_base.specs.declared.numbers.TheConstants.{NENV}
use Rattle.jos_base.specs.Words.{upd}
use Rattle.jos_base.specs.Counting.{total}
use Rattle.jos_base.specs.Environments.{Slot, is_free, is_live, is_runnable, free_slot}
use Rattle.jos_envs.specs.Lawful.{Good, free_count}
use Rattle.std.proofs.lemmas.Bool.{cases_eq}
use Rattle.jos_base.proofs.Maps.{upd-at, upd-other}
use Rattle.jos_base.proofs.Sums.{total-change, total-le}

pub live_is : (slot : Slot) → is_live slot ≡ true → is_free slot.status ≡ false
live_is slot live = by_test (is_free slot.status) live
  where
    by_test : (t : Bool) → not t ≡ true → t ≡ false
    by_test true e = sym e
    by_test false e = refl

pub free_is_still : (status : Status) → is_free status ≡ true → is_runnable status ≡ false
free_is_still Free e = refl
free_is_still Dying e = refl
free_is_still NotRunnable e = refl
free_is_still Runnable e = cc
free_is_still Running e = refl

counted : (slot : Slot) → is_free slot.status ≡ true → free_count slot ≡ 1
counted slot e = ap (λ b. cond b 1 0) e

uncounted : (slot : Slot) → is_free slot.status ≡ false → free_count slot ≡ 0
uncounted slot e = ap (λ b. cond b 1 0) e

module _ (s : ℕ → Slot) (place : ℕ → ℕ) (len : ℕ) (r : ℕ → Bool) (good : Good s place len r) (n : ℕ) (new : Slot) where
  abbrev after : ℕ → Slot
  after = upd s n new

  at : after n ≡ new
  at = upd-at s n new

  other : (q : ℕ) → q ≢ n → after q ≡ s q
  other q ne = upd-other s n new q ne

  recount : n < NENV → total NENV (λ q. free_count (after q)) + free_count (s n) ≡ total NENV (λ q. free_count (s q)) + free_count new
  recount below =
      let change = total-change NENV n (λ q. free_count (after q)) (λ q. free_count (s q)) below (λ q ne. ap free_count (other q ne)) in
      let here = ap free_count at in
      omega (arith, change, here)

  -- a live slot that stays live
  pub kept_good : n < NENV → is_free (s n).status ≡ false → is_free new.status ≡ false → (marks : ℕ → Bool) → marks n ≡ is_runnable new.status
      → ((q : ℕ) → q ≢ n → marks q ≡ r q) → Good after place len marks
  kept_good below live lives marks here there = record {
    cleared = λ q free. elim (cases_eq q n) [
      | inl e ↦ (let f : is_free (after n).status ≡ true = ap (λ z. is_free (after z).status) (sym e) ∙ free in cc (at, f, lives))
      | inr ne ↦ other q ne ∙ good.cleared q (ap (λ (z : Slot). is_free z.status) (sym (other q ne)) ∙ free) ∙ ap (λ (z : Slot). free_slot z.id) (sym (other q ne))
    ];
    within = good.within;
    listed = λ p lt. ap (λ (z : Slot). is_free z.status) (other (place p) (λ e. cc (good.listed p lt, ap (λ z. is_free (s z).status) e, live))) ∙ good.listed p lt;
    once = good.once;
    count = (let c = recount below in let a = uncounted (s n) live in let b = uncounted new lives in let d = good.count in omega (arith, c, a, b, d));
    marked = λ q lt. elim (cases_eq q n) [
      | inl e ↦ ap marks e ∙ here ∙ ap (λ (z : Slot). is_runnable z.status) (sym at) ∙ ap (λ z. is_runnable (after z).status) (sym e)
      | inr ne ↦ there q ne ∙ good.marked q lt ∙ ap (λ (z : Slot). is_runnable z.status) (sym (other q ne))
    ];
  }

  abbrev places : ℕ → ℕ
  places = upd place len n

  here : places len ≡ n
  here = upd-at place len n

  there : (p : ℕ) → p ≢ len → places p ≡ place p
  there p ne = upd-other place len n p ne

  apart : is_free (s n).status ≡ false → (p : ℕ) → p < len → place p ≢ n
  apart live p lt e = cc (good.listed p lt, ap (λ z. is_free (s z).status) e, live)

  -- a live slot that is freed
  pub freed_good : n < NENV → is_free (s n).status ≡ false → is_free new.status ≡ true → new ≡ free_slot new.id
      → Good after (upd place len n) (suc len) (upd r n false)
  freed_good below live freed clear = record {
    cleared = λ q free. elim (cases_eq q n) [
      | inl e ↦ subst (λ (z : Slot). z ≡ free_slot z.id) (sym (ap after e ∙ at)) clear
      | inr ne ↦ other q ne ∙ good.cleared q (ap (λ (z : Slot). is_free z.status) (sym (other q ne)) ∙ free) ∙ ap (λ (z : Slot). free_slot z.id) (sym (other q ne))
    ];
    within = λ p lt. elim (cases_eq p len) [
      | inl e ↦ subst (λ z. z < NENV) (sym (ap places e ∙ here)) below
      | inr ne ↦ subst (λ z. z < NENV) (sym (there p ne)) (good.within p (omega arith))
    ];
    listed = λ p lt. elim (cases_eq p len) [
      | inl e ↦ ap (λ z. is_free (after z).status) (ap places e ∙ here) ∙ ap (λ (z : Slot). is_free z.status) at ∙ freed
      | inr ne ↦ ap (λ z. is_free (after z).status) (there p ne) ∙ ap (λ (z : Slot). is_free z.status) (other (place p) (apart live p (omega arith))) ∙ good.listed p (omega arith)
    ];
    once = λ p q lt_p lt_q same. elim (cases_eq p len) [
      | inl e ↦ elim (cases_eq q len) [
        | inl f ↦ e ∙ sym f
        | inr ne ↦ absurd (apart live q (omega arith) (sym (there q ne) ∙ sym same ∙ ap places e ∙ here))
      ]
      | inr ne ↦ elim (cases_eq q len) [
        | inl f ↦ absurd (apart live p (omega arith) (sym (there p ne) ∙ same ∙ ap places f ∙ here))
        | inr nf ↦ good.once p q (omega arith) (omega arith) (sym (there p ne) ∙ same ∙ there q nf)
      ]
    ];
    count = (let c = recount below in let a = uncounted (s n) live in let b = counted new freed in let d = good.count in omega (arith, c, a, b, d));
    marked = λ q lt. elim (cases_eq q n) [
      | inl e ↦ ap (upd r n false) e ∙ upd-at r n false ∙ sym (free_is_still new.status freed) ∙ ap (λ (z : Slot). is_runnable z.status) (sym at) ∙ ap (λ z. is_runnable (after z).status) (sym e)
      | inr ne ↦ upd-other r n false q ne ∙ good.marked q lt ∙ ap (λ (z : Slot). is_runnable z.status) (sym (other q ne))
    ];
  }

-- the last of the stack is given
module _ (s : ℕ → Slot) (place : ℕ → ℕ) (len : ℕ) (r : ℕ → Bool) (good : Good s place (suc len) r) (new : Slot) where
  abbrev n : ℕ
  n = place len

  was_free : is_free (s n).status ≡ true
  was_free = good.listed len (omega arith)

  pub taken_good : is_free new.status ≡ false → is_runnable new.status ≡ false → Good (upd s n new) place len r
  taken_good lives still = record {
    cleared = λ q free. elim (cases_eq q n) [
      | inl e ↦ (let f : is_free new.status ≡ true = ap (λ (z : Slot). is_free z.status) (sym (ap (upd s n new) e ∙ upd-at s n new)) ∙ free in cc (f, lives))
      | inr ne ↦ upd-other s n new q ne ∙ good.cleared q (ap (λ (z : Slot). is_free z.status) (sym (upd-other s n new q ne)) ∙ free) ∙ ap (λ (z : Slot). free_slot z.id) (sym (upd-other s n new q ne))
    ];
    within = λ p lt. good.within p (omega arith);
    listed = λ p lt. ap (λ (z : Slot). is_free z.status) (upd-other s n new (place p) (λ e. (let same = good.once p len (omega arith) (omega arith) e in omega (arith, same)))) ∙ good.listed p (omega arith);
    once = λ p q lt_p lt_q same. good.once p q (omega arith) (omega arith) same;
    count = (let c = recount s place (suc len) r good n new (good.within len (omega arith)) in let a = counted (s n) was_free in let b = uncounted new lives in let d = good.count in omega (arith, c, a, b, d));
    marked = λ q lt. elim (cases_eq q n) [
      | inl e ↦ good.marked q lt ∙ ap (λ z. is_runnable (s z).status) e ∙ free_is_still (s n).status was_free ∙ sym still ∙ ap (λ (z : Slot). is_runnable z.status) (sym (ap (upd s n new) e ∙ upd-at s n new))
      | inr ne ↦ good.marked q lt ∙ ap (λ (z : Slot). is_runnable z.status) (sym (upd-other s n new q ne))
    ];
  }

free_count-le : (slot : Slot) → free_count slot ≤ 1
free_count-le slot = by_test (is_free slot.status)
  where
    by_test : (b : Bool) → cond b 1 0 ≤ 1
    by_test true = omega arith
    by_test false = omega arith

-- the stack has room for a live slot
pub room : (s : ℕ → Slot) (place : ℕ → ℕ) (len : ℕ) (r : ℕ → Bool) → Good s place len r → (n : ℕ) → n < NENV → is_free (s n).status ≡ false → len < NENV
room s place len r good n below live =
    let change = recount s place len r good n (free_slot 0) below in
    let all = total-le NENV 1 (λ q. free_count (upd s n (free_slot 0) q)) (λ q. free_count-le (upd s n (free_slot 0) q)) in
    let a = uncounted (s n) live in
    let d = good.count in
    omega (arith, change, all, a, d)

pub len_most : (s : ℕ → Slot) (place : ℕ → ℕ) (len : ℕ) (r : ℕ → Bool) → Good s place len r → len ≤ NENV
len_most s place len r good =
    let all = total-le NENV 1 (λ q. free_count (s q)) (λ q. free_count-le (s q)) in
    let d = good.count in
    omega (arith, all, d)
