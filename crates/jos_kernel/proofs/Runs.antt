-- Steps after steps: what was made so far and then the rest is the whole run.
use Rattle.std.proofs.Common.{◌≡◌, ℕ, ◌+◌, ◌-◌, ◌<◌, ◌≤◌, suc, true, false, List, [], ◌++◌, Option, None}
use Rattle.std.proofs.Common.{Some, Ok, refl, sym, ap, subst, ◌∙◌, arith, append_assoc}
use Rattle.std.proofs.lemmas.List.{append-nil}
use Rattle.std.specs.Option.{unwrap_or}
use Rattle.jos_host.specs.Frames.{from_to}
use Rattle.jos_kernel.specs.declared.kernel.Kernel.{Kernel}
use Rattle.jos_kernel.specs.declared.report.End.{End}
use Rattle.jos_kernel.specs.declared.report.End.TheVariants.{Budget}
use Rattle.jos_kernel.specs.declared.trace.TrapLine.{TrapLine}
use Rattle.jos_kernel.specs.ExoRun.{RunProgress, Ran, end_of, one_step, after_test, run_from}
use Rattle.jos_kernel.specs.Kernel.{ToldSoFar, nothing, and_told, progress_of, Counts, Went, FailsIn, StepsOnce, IsRun}
use Rattle.jos_kernel.proofs.ToldBytes.{gains_none, gains_more, gains_part}
use Rattle.jos_kernel.proofs.Advancing.{end-told}

-- ---- the definition, one step at a time

pub run_from-suc : (schedule : List ℕ) (left : ℕ) (p : RunProgress) →
    run_from schedule (suc left) p ≡ after_test p (end_of p false) (run_from schedule left (one_step schedule p))
unfolding run_from
run_from-suc schedule left p = refl

pub run_from-zero : (schedule : List ℕ) (p : RunProgress) → run_from schedule 0 p ≡ record { end = unwrap_or (end_of p true) Budget; progress = p }
unfolding run_from
run_from-zero schedule p = refl

-- ---- steps after steps

told-twice : (told : ToldSoFar) (a b : List ℕ) (s t : List TrapLine) → and_told (and_told told a s) b t ≡ and_told told (a ++ b) t
told-twice told a b s t = λ i. record told { console = append_assoc told.console a b i; traps = t }

told-nothing : (told : ToldSoFar) → and_told told [] told.traps ≡ told
told-nothing told = λ i. record told { console = append-nil told.console i }

-- no step was made yet
pub none_yet : (kernel : Kernel) (first : Option (List ℕ)) → Went 0 (from_to kernel kernel) (from_to first first)
none_yet kernel first = record {
  written = [];
  gains = gains_none first;
  steps = omega arith;
  schedule = refl;
  traps = λ told c. told.traps;
  counts = λ told c. subst (λ (t : ToldSoFar). Counts kernel t) (sym (told-nothing told)) c;
  run = λ told c later.
      let z : 0 + later ≡ later = omega arith in
      ap (λ (k : ℕ). run_from kernel.book.schedule k (progress_of kernel told)) z
      ∙ ap (λ (t : ToldSoFar). run_from kernel.book.schedule later (progress_of kernel t)) (sym (told-nothing told));
}

module _ {a b : ℕ} {x y z : Kernel} {p q r : Option (List ℕ)} (v : Went a (from_to x y) (from_to p q)) (w : Went b (from_to y z) (from_to q r)) where
  abbrev later_traps : (told : ToldSoFar) → Counts x told → List TrapLine
  later_traps told c = w.traps (and_told told v.written (v.traps told c)) (v.counts told c)

  twice : (told : ToldSoFar) (c : Counts x told) → and_told (and_told told v.written (v.traps told c)) w.written (later_traps told c)
      ≡ and_told told (v.written ++ w.written) (later_traps told c)
  twice told c = told-twice told v.written w.written (v.traps told c) (later_traps told c)

  pub went_further : Went (a + b) (from_to x z) (from_to p r)
  went_further = record {
    written = v.written ++ w.written;
    gains = gains_more p q r v.written w.written v.gains w.gains;
    steps = omega (arith, v.steps, w.steps);
    schedule = w.schedule ∙ v.schedule;
    traps = λ told c. later_traps told c;
    counts = λ told c. subst (λ (t : ToldSoFar). Counts z t) (twice told c) (w.counts (and_told told v.written (v.traps told c)) (v.counts told c));
    run = λ told c later.
        let e : (a + b) + later ≡ a + (b + later) = omega arith in
        let m = and_told told v.written (v.traps told c) in
        ap (λ (n : ℕ). run_from x.book.schedule n (progress_of x told)) e
        ∙ v.run told c (b + later)
        ∙ (λ i. run_from (sym v.schedule i) (b + later) (progress_of y m))
        ∙ w.run m (v.counts told c) later
        ∙ (λ i. run_from (v.schedule i) later (progress_of z (twice told c i)));
  }

-- the host fails after steps that were made
pub fails_further : {a left : ℕ} {x y : Kernel} {p q r : Option (List ℕ)} → Went a (from_to x y) (from_to p q) → a ≤ left →
    FailsIn (left - a) y (from_to q r) → FailsIn left x (from_to p r)
fails_further {a} {left} {x} {y} {p} {q} {r} v within f =
    let e : left ≡ a + (left - a) = omega (arith, within) in
    let n = f.1.0 in (
      v.written ++ f.0,
      gains_part p q r v.written f.0 [] (v.written ++ f.0) v.gains f.1 (sym (append-nil (v.written ++ f.0))),
      λ told c.
          let m = and_told told v.written (v.traps told c) in
          let rest = f.2 m (v.counts told c) in (
            rest.0,
            ap (λ (n : ℕ). (run_from x.book.schedule n (progress_of x told)).progress.console) e
                ∙ ap (λ (ran : Ran). ran.progress.console) (v.run told c (left - a))
                ∙ (λ i. (run_from (sym v.schedule i) (left - a) (progress_of y m)).progress.console)
                ∙ rest.1
                ∙ (λ i. append_assoc told.console v.written f.0 i ++ rest.0),
          ),
    )

-- ---- one step

pub stepped : {n : ℕ} {x y : Kernel} {p q : Option (List ℕ)} → Went n (from_to x y) (from_to p q) → 0 < n → n ≤ 1 →
    end_of (progress_of x nothing) false ≡ None → StepsOnce (Ok tt) (from_to x y) (from_to p q)
stepped {n} {x} {y} {p} {q} w some most goes_on =
    let e : n + 0 ≡ suc 0 = omega (arith, some, most) in (
      w.written,
      w.gains,
      λ told c. (
        w.traps told c,
        sym (ap (λ (ran : Ran). ran.progress) (
            ap (λ (k : ℕ). run_from x.book.schedule k (progress_of x told)) (sym e) ∙ w.run told c 0 ∙ run_from-zero x.book.schedule (progress_of y (and_told told w.written (w.traps told c)))))
            ∙ ap (λ (ran : Ran). ran.progress) (run_from-suc x.book.schedule 0 (progress_of x told)
            ∙ (λ i. after_test (progress_of x told) ((end-told x told false ∙ goes_on) i) (run_from x.book.schedule 0 (one_step x.book.schedule (progress_of x told))))
            ∙ run_from-zero x.book.schedule (one_step x.book.schedule (progress_of x told))),
        w.counts told c,
      ),
    )

-- ---- the end

module _ {a budget : ℕ} {x y : Kernel} {p q : Option (List ℕ)} (w : Went a (from_to x y) (from_to p q)) where
  -- an end test holds before the budget is used up
  pub on_end : (left : ℕ) (end : End) → budget ≡ a + suc left → end_of (progress_of y nothing) false ≡ Some end →
      IsRun (Ok end) budget (from_to x y) (from_to p q)
  on_end left end e ends = (
    w.written,
    w.gains,
    λ told c.
        let m = and_told told w.written (w.traps told c) in (
          w.traps told c,
          ap (λ (k : ℕ). run_from x.book.schedule k (progress_of x told)) e
              ∙ w.run told c (suc left)
              ∙ run_from-suc x.book.schedule left (progress_of y m)
              ∙ (λ i. after_test (progress_of y m) ((end-told y m false ∙ ends) i) (run_from x.book.schedule left (one_step x.book.schedule (progress_of y m)))),
          w.counts told c,
        ),
  )

  -- the budget is used up
  pub on_budget : (end : End) → budget ≡ a → unwrap_or (end_of (progress_of y nothing) true) Budget ≡ end →
      IsRun (Ok end) budget (from_to x y) (from_to p q)
  on_budget end e ends = (
    w.written,
    w.gains,
    λ told c.
        let m = and_told told w.written (w.traps told c) in
        let z : budget ≡ a + 0 = omega (arith, e) in (
          w.traps told c,
          ap (λ (k : ℕ). run_from x.book.schedule k (progress_of x told)) z
              ∙ w.run told c 0
              ∙ run_from-zero x.book.schedule (progress_of y m)
              ∙ (λ i. record { end = (ap (λ o. unwrap_or o Budget) (end-told y m true) ∙ ends) i; progress = progress_of y m }),
          w.counts told c,
        ),
  )
