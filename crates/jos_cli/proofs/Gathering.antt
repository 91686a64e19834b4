-- What is gathered for a run, as it is judged.
use Rattle.std.proofs.Common.{◌≡◌, ℕ, List, Some, None, Ok, refl, ap, ◌∙◌}
use Rattle.jos_base.specs.Words.{◌>>=◌}
use Rattle.jos_kernel.specs.Boot.{Loadable}
use Rattle.jos_cli.specs.declared.outcome.Which.{Which}
use Rattle.jos_cli.specs.Found.{Found}
use Rattle.jos_cli.specs.Answer.{limit, Judged, schedule_of, images_of, input_within, Gathered, gathered}
use Rattle.jos_cli.specs.Kinds.{Kind, answered}
use Rattle.jos_cli.specs.Stages.{RefusesBy}
use Rattle.jos_cli.proofs.Reading.{refused_then, refused_behind}

module _ (found : Found) (input : List ℕ) where
  abbrev pub read_all : List ℕ → List Loadable → List ℕ → Judged Gathered
  read_all schedule images bytes = Ok (record { schedule = schedule; images = images; input = bytes })

  abbrev pub from_input : List ℕ → List Loadable → Judged Gathered
  from_input schedule images = input_within input >>= read_all schedule images

  abbrev pub from_images : List ℕ → Judged Gathered
  from_images schedule = images_of found.images >>= from_input schedule

  abbrev pub from_schedule : Judged Gathered
  from_schedule = schedule_of found.schedule >>= from_images

  -- the words pass a limit
  pub words_refused : (which : Which) → RefusesBy (gathered (Some which) found input) (answered (limit which))
  unfolding gathered
  words_refused which = refl

  -- a file is not read
  pub schedule_refused : (kind : Kind) → RefusesBy (schedule_of found.schedule) kind → RefusesBy (gathered None found input) kind
  unfolding gathered
  schedule_refused kind h = refused_then (schedule_of found.schedule) from_images kind h

  module _ (schedule : List ℕ) (s : schedule_of found.schedule ≡ Ok schedule) where
    pub images_refused : (kind : Kind) → RefusesBy (images_of found.images) kind → RefusesBy (gathered None found input) kind
    unfolding gathered
    images_refused kind h =
        refused_behind (schedule_of found.schedule) from_images schedule kind s (refused_then (images_of found.images) (from_input schedule) kind h)

    module _ (images : List Loadable) (i : images_of found.images ≡ Ok images) where
      pub input_refused : (kind : Kind) → RefusesBy (input_within input) kind → RefusesBy (gathered None found input) kind
      unfolding gathered
      input_refused kind h =
          refused_behind (schedule_of found.schedule) from_images schedule kind s
          (refused_behind (images_of found.images) (from_input schedule) images kind i (refused_then (input_within input) (read_all schedule images) kind h))

      -- all is read
      pub all_read : (bytes : List ℕ) → input_within input ≡ Ok bytes → gathered None found input ≡ Ok (record { schedule = schedule; images = images; input = bytes })
      unfolding gathered
      all_read bytes b =
          ap (λ (j : Judged (List ℕ)). j >>= from_images) s ∙ ap (λ (j : Judged (List Loadable)). j >>= from_input schedule) i
          ∙ ap (λ (j : Judged (List ℕ)). j >>= read_all schedule images) b
