-- What the file server's step prints. It printed some bytes, whatever stands; and where it is known that it printed nothing, they are none.
use Rattle.std.proofs.Common.{◌≡◌, ◌∙◌, ◌+◌, ◌-◌, ◌^◌, ◌==◌, ◌++◌, ℕ, zero, suc, Bool, true, false, List, [], length, Option, Some, None}
use Rattle.std.proofs.Common.{refl, sym, ap, subst, arith}
use Rattle.std.specs.Prelude.{min, take}
use Rattle.std.specs.Option.{option_map}
use Rattle.std.proofs.Math.Seq.{take-length}
use Rattle.std.proofs.lemmas.Bool.Decides.{nat_tests}
use Rattle.std.proofs.lemmas.List.{append_cancel_left}
use Rattle.std.proofs.lemmas.Option.{same_Some}
use Rattle.jos_host.specs.Gains.{Gains}
use Rattle.lib_os.specs.MadeCalls.{PrintsPartOfSome}
use Rattle.lib_os.specs.UserCalls.{Output, Prints, PrintsPart}
use Rattle.jos_run.proofs.ServerLeavings.{PrintsSome}

-- where the host tells its console, what was gained is one list of bytes
same_gained : (output : Output) (told : List ℕ) (bytes others : List ℕ) → output.console.before ≡ Some told → Gains output.console bytes →
    Gains output.console others → bytes ≡ others
same_gained output told bytes others is gained other =
    append_cancel_left told bytes others
    (same_Some (told ++ bytes) (told ++ others)
    (ap (λ (o : Option (List ℕ)). option_map (λ (t : List ℕ). t ++ bytes) o) (sym is) ∙ sym gained ∙ other
    ∙ ap (λ (o : Option (List ℕ)). option_map (λ (t : List ℕ). t ++ others) o) is))

-- and where it tells none, whatever was gained
any_gained : (output : Output) (bytes others : List ℕ) → output.console.before ≡ None → Gains output.console bytes → Gains output.console others
any_gained output bytes others none gained =
    gained ∙ ap (λ (o : Option (List ℕ)). option_map (λ (t : List ℕ). t ++ bytes) o) none
    ∙ ap (λ (o : Option (List ℕ)). option_map (λ (t : List ℕ). t ++ others) o) (sym none)

-- What is told to be printed, which is nothing where nothing was.
pub record PrintsOnly (output : Output) : Type 0 where
  pub written : List ℕ
  pub prints : Prints output written
  pub quiet : Prints output [] → written ≡ []

pub prints_only : (output : Output) → PrintsSome output → PrintsOnly output
prints_only output some = by_console output.console.before refl
  where
    counts_none : Bool
    counts_none = output.count.after == min (output.count.before + 0) (2 ^ 64 - 1)

    by_count : output.console.before ≡ None → (t : Bool) → counts_none ≡ t → PrintsOnly output
    by_count none true test = record {
      written = [];
      prints = record { gains = any_gained output some.bytes [] none some.prints.gains; counted = grind (arith, nat_tests, test) };
      quiet = λ p. refl;
    }
    by_count none false test = record {
      written = some.bytes;
      prints = some.prints;
      quiet = λ p. absurd (let counted : output.count.after ≡ min (output.count.before + 0) (2 ^ 64 - 1) = p.counted in
          let contradiction : counts_none ≡ true = grind (arith, nat_tests, counted) in
          let no : true ≡ false = sym contradiction ∙ test in cc);
    }

    by_console : (o : Option (List ℕ)) → output.console.before ≡ o → PrintsOnly output
    by_console None none = by_count none counts_none refl
    by_console (Some told) is = record {
      written = some.bytes;
      prints = some.prints;
      quiet = λ p. same_gained output told some.bytes [] is some.prints.gains p.gains;
    }

-- The same of a part, where the host failed.
pub record PrintsPartOnly (output : Output) : Type 0 where
  pub written : List ℕ
  pub prints : PrintsPart output written
  pub quiet : PrintsPart output [] → written ≡ []

pub prints_part_only : (output : Output) → PrintsPartOfSome output → PrintsPartOnly output
prints_part_only output some = by_console output.console.before refl
  where
    part : List ℕ
    part = take some.1.0 some.0

    by_console : (o : Option (List ℕ)) → output.console.before ≡ o → PrintsPartOnly output
    by_console None none = record {
      written = [];
      prints = (0, omega arith, any_gained output part [] none some.1.2);
      quiet = λ p. refl;
    }
    by_console (Some told) is = record {
      written = part;
      prints = (length part, omega arith, subst (λ (bytes : List ℕ). Gains output.console bytes) (sym (take-length part)) some.1.2);
      quiet = λ p. same_gained output told part (take p.0 []) is some.1.2 p.2 ∙ none_taken p.0;
    }
      where
        none_taken : (n : ℕ) → take {A = ℕ} n [] ≡ []
        none_taken zero = refl
        none_taken (suc n) = refl
