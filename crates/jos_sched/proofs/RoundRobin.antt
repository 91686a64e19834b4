-- The first of all slots round the table's end, as two searches, and what it means that a slot gets the next turn.
use Rattle.std.proofs.Common.{◌≡◌, ◌∙◌, ◌+◌, ◌-◌, ◌%◌, ◌<◌, ◌≤◌, ◌⊎◌, inl, inr, ℕ, zero, suc, Bool, true, false, cond}
use Rattle.std.proofs.Common.{Option, Some, None}
use Rattle.std.proofs.Common.{refl, sym, ap, subst, arith, add-zero}
use Rattle.jos_base.specs.declared.numbers.TheConstants.{NENV}
use Rattle.jos_base.specs.Environments.{Environments}
use Rattle.jos_envs.specs.SlotSets.{IsFirstSlot}
use Rattle.jos_envs.specs.Table.{may_run}
use Rattle.jos_sched.specs.RoundRobin.{first_of, start, next}
use Rattle.std.proofs.lemmas.Bool.{cases_lt}

-- none of them is runnable
first_of-none : (e : Environments) (slot count : ℕ) → ((k : ℕ) → k < count → may_run e ((slot + k) % NENV) ≡ false) → first_of e slot count ≡ None
unfolding first_of
first_of-none e slot zero none = refl
first_of-none e slot (suc count) none =
    let here : may_run e (slot % NENV) ≡ false = subst (λ z. may_run e (z % NENV) ≡ false) (add-zero slot) (none 0 (omega arith)) in
    ap (λ b. cond b (Some (slot % NENV)) (first_of e (slot + 1) count)) here
    ∙ first_of-none e (slot + 1) count (λ k lt. subst (λ z. may_run e (z % NENV) ≡ false) (omega arith) (none (k + 1) (omega arith)))

-- this one is, and none before it
first_of-some : (e : Environments) (slot count d : ℕ) → d < count → may_run e ((slot + d) % NENV) ≡ true
    → ((k : ℕ) → k < d → may_run e ((slot + k) % NENV) ≡ false) → first_of e slot count ≡ Some ((slot + d) % NENV)
unfolding first_of
first_of-some e slot zero d lt passes others = absurd (omega arith)
first_of-some e slot (suc count) zero lt passes others =
    let same : slot + 0 ≡ slot = add-zero slot in
    let here : may_run e (slot % NENV) ≡ true = subst (λ z. may_run e (z % NENV) ≡ true) same passes in
    ap (λ b. cond b (Some (slot % NENV)) (first_of e (slot + 1) count)) here ∙ ap (λ z. Some (z % NENV)) (sym same)
first_of-some e slot (suc count) (suc d) lt passes others =
    let here : may_run e (slot % NENV) ≡ false = subst (λ z. may_run e (z % NENV) ≡ false) (add-zero slot) (others 0 (omega arith)) in
    let same : slot + 1 + d ≡ slot + suc d = omega arith in
    ap (λ b. cond b (Some (slot % NENV)) (first_of e (slot + 1) count)) here
    ∙ first_of-some e (slot + 1) count d (omega arith) (subst (λ z. may_run e (z % NENV) ≡ true) (sym same) passes)
    (λ k below. subst (λ z. may_run e (z % NENV) ≡ false) (omega arith) (others (k + 1) (omega arith)))
    ∙ ap (λ z. Some (z % NENV)) same

-- a slot round the table's end
round : (slot k : ℕ) → slot ≤ NENV → k < NENV → (((slot + k) % NENV ≡ slot + k) × (slot + k < NENV)) ⊎ (((slot + k) % NENV ≡ slot + k - NENV) × (NENV ≤ slot + k))
round slot k most lt = elim (cases_lt (slot + k) NENV) [
  | inl below ↦ inl (omega arith, below)
  | inr above ↦ inr (omega arith, above)
]

-- there is one behind the slot
pub next_behind : (e : Environments) (last : Option ℕ) (n : ℕ) → IsFirstSlot (may_run e) (start last) (Some n) → next e last ≡ Some n
unfolding next
next_behind e last n is =
    let from = start last in
    let behind = is.behind in
    let within = is.within in
    let at : from + (n - from) ≡ n = omega arith in
    let there : (from + (n - from)) % NENV ≡ n = omega arith in
    first_of-some e from NENV (n - from) (omega arith) (subst (λ z. may_run e z ≡ true) (sym there) is.passes)
    (λ k lt. (let same : (from + k) % NENV ≡ from + k = omega arith in subst (λ z. may_run e z ≡ false) (sym same) (is.others (from + k) (omega arith) (omega arith))))
    ∙ ap (λ z. Some z) there

-- there is none behind the slot: then the first of all
pub next_round : (e : Environments) (last first : Option ℕ) → start last ≤ NENV → IsFirstSlot (may_run e) (start last) None → IsFirstSlot (may_run e) 0 first → next e last ≡ first
unfolding next
next_round e last None most none all = first_of-none e (start last) NENV (λ k lt. all ((start last + k) % NENV) (omega arith) (omega arith))
next_round e last (Some n) most none is =
    let from = start last in
    let within = is.within in
    let before : n < from = (elim (cases_lt n from) [ inl lt ↦ lt | inr ge ↦ absurd (cc (none n ge within, is.passes)) ]) in
    let there : (from + (NENV - from + n)) % NENV ≡ n = omega arith in
    first_of-some e from NENV (NENV - from + n) (omega arith) (subst (λ z. may_run e z ≡ true) (sym there) is.passes)
    (λ k lt. elim (round from k most (omega arith)) [
      | inl h ↦ (let below = h.1 in subst (λ z. may_run e z ≡ false) (sym h.0) (none (from + k) (omega arith) below))
      | inr h ↦ (let above = h.1 in subst (λ z. may_run e z ≡ false) (sym h.0) (is.others (from + k - NENV) (omega arith) (omega arith)))
    ])
    ∙ ap (λ z. Some z) there

-- ---- what the next turn means

runs_step : (e : Environments) (slot n : ℕ) (rest : Option ℕ) (b : Bool) → may_run e (slot % NENV) ≡ b → (rest ≡ Some n → (n < NENV) × (may_run e n ≡ true))
    → cond b (Some (slot % NENV)) rest ≡ Some n → (n < NENV) × (may_run e n ≡ true)
runs_step e slot n rest true runs further is =
    let same : slot % NENV ≡ n = (let h : ◌≡◌ {A = Option ℕ} (Some (slot % NENV)) (Some n) = is in cc) in
    (omega arith, subst (λ z. may_run e z ≡ true) same runs)
runs_step e slot n rest false runs further is = further is

-- the first of so many is one of the table that is runnable
first_of-runs : (e : Environments) (slot count n : ℕ) → first_of e slot count ≡ Some n → (n < NENV) × (may_run e n ≡ true)
unfolding first_of
first_of-runs e slot zero n is = absurd (let h : ◌≡◌ {A = Option ℕ} None (Some n) = is in cc)
first_of-runs e slot (suc count) n is =
    runs_step e slot n (first_of e (slot + 1) count) (may_run e (slot % NENV)) refl (first_of-runs e (slot + 1) count n) is

-- whoever gets the next turn is runnable
pub next_runs : (e : Environments) (last : Option ℕ) (n : ℕ) → next e last ≡ Some n → (n < NENV) × (may_run e n ≡ true)
unfolding next
next_runs e last n is = first_of-runs e (start last) NENV n is

all_step : (e : Environments) (slot count : ℕ) (rest : Option ℕ) (b : Bool) → may_run e (slot % NENV) ≡ b
    → (rest ≡ None → (k : ℕ) → k < count → may_run e ((slot + 1 + k) % NENV) ≡ false)
    → cond b (Some (slot % NENV)) rest ≡ None → (k : ℕ) → k < suc count → may_run e ((slot + k) % NENV) ≡ false
all_step e slot count rest true runs further is k lt = absurd (let h : ◌≡◌ {A = Option ℕ} (Some (slot % NENV)) None = is in cc)
all_step e slot count rest false runs further is zero lt = subst (λ z. may_run e (z % NENV) ≡ false) (sym (add-zero slot)) runs
all_step e slot count rest false runs further is (suc k) lt =
    subst (λ z. may_run e (z % NENV) ≡ false) (omega arith) (further is k (omega arith))

-- where none is the first, none of them is runnable
first_of-all : (e : Environments) (slot count : ℕ) → first_of e slot count ≡ None → (k : ℕ) → k < count → may_run e ((slot + k) % NENV) ≡ false
unfolding first_of
first_of-all e slot zero is k lt = absurd (omega arith)
first_of-all e slot (suc count) is k lt =
    all_step e slot count (first_of e (slot + 1) count) (may_run e (slot % NENV)) refl (first_of-all e (slot + 1) count) is k lt

-- nobody gets it exactly where none is runnable
pub none_runs : (e : Environments) (last : Option ℕ) → start last ≤ NENV → next e last ≡ None → (n : ℕ) → n < NENV → may_run e n ≡ false
unfolding next
none_runs e last most is n lt = elim (cases_lt n (start last)) [
  | inl before ↦
      let same : (start last + (NENV - start last + n)) % NENV ≡ n = omega arith in
      subst (λ z. may_run e z ≡ false) same (first_of-all e (start last) NENV is (NENV - start last + n) (omega arith))
  | inr behind ↦
      let same : (start last + (n - start last)) % NENV ≡ n = omega arith in
      subst (λ z. may_run e z ≡ false) same (first_of-all e (start last) NENV is (n - start last) (omega arith))
]

pub next-none : (e : Environments) (last : Option ℕ) → ((n : ℕ) → n < NENV → may_run e n ≡ false) → next e last ≡ None
unfolding next
next-none e last none = first_of-none e (start last) NENV (λ k lt. none ((start last + k) % NENV) (omega arith))
