-- How a run is booted, part by part.
use Rattle.std.proofs.Common.{◌≡◌, ◌∙◌, ℕ, ◌<◌, ◌≤◌, Bool, true, false, List, Option, Some, None, refl, sym, ap}
use Rattle.std.proofs.Common.{arith, if◌then◌else◌}
use Rattle.std.specs.Prelude.{nat_lt, option_and_then}
use Rattle.std.proofs.lemmas.Bool.{lt-ltb}
use Rattle.std.proofs.lemmas.Bool.Decides.{nat_tests}
use Rattle.jos_base.specs.KernelState.{KernelState, first_state}
use Rattle.jos_base.specs.SystemCalls.{environment_made}
use Rattle.jos_elf.specs.Parsed.{Layout}
use Rattle.jos_run.specs.Boot.{server_in, program_in, program_booted, boot_frames, booted_within}

module _ (image : Layout) (file : List ℕ) (words : List (List ℕ)) (frames : ℕ) (input : List ℕ) where
  pub booted-less : frames < boot_frames image → booted_within image file words frames input ≡ None
  unfolding booted_within
  booted-less lt = let test : nat_lt frames (boot_frames image) ≡ true = lt-ltb frames (boot_frames image) lt in rw test refl

  pub booted-enough : boot_frames image ≤ frames → booted_within image file words frames input ≡ program_booted image file words
      frames input
  unfolding booted_within
  booted-enough le = let test : nat_lt frames (boot_frames image) ≡ false = grind (arith, nat_tests) in rw test refl

  module _ (s : KernelState) (first : s ≡ first_state frames input) where
    pub booted-no_server : server_in (environment_made s 0) ≡ None → program_booted image file words frames input ≡ None
    unfolding program_booted
    booted-no_server none =
        ap (λ (o : Option KernelState). option_and_then (λ t. program_in image file words (environment_made t 0)) o)
        (ap (λ (k : KernelState). server_in (environment_made k 0)) (sym first) ∙ none)

  pub booted-server : (s t : KernelState) → s ≡ first_state frames input → server_in (environment_made s 0) ≡ Some t →
      program_booted image file words frames input ≡ program_in image file words (environment_made t 0)
  unfolding program_booted
  booted-server s t first made =
      ap (λ (o : Option KernelState). option_and_then (λ u. program_in image file words (environment_made u 0)) o)
      (ap (λ (k : KernelState). server_in (environment_made k 0)) (sym first) ∙ made)

pub within-booted : (image : Layout) (file : List ℕ) (words : List (List ℕ)) (frames : ℕ) (input : List ℕ) (s : KernelState) →
    booted_within image file words frames input ≡ Some s → program_booted image file words frames input ≡ Some s
unfolding booted_within
within-booted image file words frames input s is = by_test (nat_lt frames (boot_frames image)) is
  where
    by_test : (t : Bool) → (if t then None else program_booted image file words frames input) ≡ Some s →
        program_booted image file words frames input ≡ Some s
    by_test true none = absurd cc
    by_test false some = some
