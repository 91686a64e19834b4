-- The numbers that the words of commands give, and the limits of these words. (This system's own.)
use Rattle.std.specs.Prelude.{◌≡◌, ℕ, ◌||◌, nat_lt, length, Bool, true, false, Option, Some, None, if◌then◌else◌}
use Rattle.std.specs.Option.{option_map}
use Rattle.jos_base.specs.declared.numbers.TheConstants.{FRAMES, FRAMES_MIN, FRAMES_MAX, STEPS, STEPS_MAX, TRACE_MAX, IMAGES_MAX}
use Rattle.fs_layout.specs.declared.numbers.TheConstants.{MINBLOCKS, MAXBLOCKS}
use Rattle.jos_words.specs.declared.values.NumberAt.{NumberAt}
use Rattle.jos_words.specs.Commands.{Exo, Run}
use Rattle.jos_elf.specs.StackPage.{fits_stack}
use Rattle.jos_cli.specs.declared.outcome.Which.{Which}
use Rattle.jos_cli.specs.declared.outcome.Which.TheVariants.{Frames, Steps, Trace, Images, Blocks, Args, Seed}
use Rattle.jos_cli.specs.declared.limits.Numbers.{Numbers}
use Rattle.jos_cli.specs.declared.limits.TheConstants.{SEED_MAX}
use Rattle.jos_cli.specs.Commands.{texts_of}

-- ---- the numbers of a run

abbrev pub numbers_of_exo : Exo → Numbers
numbers_of_exo e = record { frames = e.frames; steps = e.steps; trace = e.trace }

abbrev pub numbers_of_run : Run → Numbers
numbers_of_run r = record { frames = r.frames; steps = r.steps; trace = r.trace }

-- the number that is given, or another where none is
abbrev pub value_or : ℕ → Option NumberAt → ℕ
value_or other None = other
value_or other (Some number) = number.value

abbrev pub frames_of : Numbers → ℕ
frames_of numbers = value_or FRAMES numbers.frames

abbrev pub budget_of : Numbers → ℕ
budget_of numbers = value_or STEPS numbers.steps

-- how many of the last traps are told
abbrev pub trace_of : Numbers → ℕ
trace_of numbers = value_or 0 numbers.trace

-- the place of a number that is out of its range
abbrev pub place_out : ℕ → ℕ → Option NumberAt → Option ℕ
place_out least most None = None
place_out least most (Some number) =
    if nat_lt number.value least || nat_lt most number.value then Some number.place else None

-- the number that is out of its range, by its place
abbrev pub out_of : Which → ℕ → ℕ → Option NumberAt → Option (ℕ × Which)
out_of which least most number = option_map (λ place. (place, which)) (place_out least most number)

-- of two, the one that stands first
abbrev pub earlier : Option (ℕ × Which) → Option (ℕ × Which) → Option (ℕ × Which)
earlier None b = b
earlier (Some a) None = Some a
earlier (Some a) (Some b) = if nat_lt b.0 a.0 then Some b else Some a

abbrev pub numbers_out : Numbers → Option (ℕ × Which)
numbers_out numbers =
    earlier (earlier (out_of Frames FRAMES_MIN FRAMES_MAX numbers.frames) (out_of Steps 1 STEPS_MAX numbers.steps))
    (out_of Trace 0 TRACE_MAX numbers.trace)

-- they lie within their ranges
pub record AreWithin (numbers : Numbers) : Type 0 where
  pub frames : place_out FRAMES_MIN FRAMES_MAX numbers.frames ≡ None
  pub steps : place_out 1 STEPS_MAX numbers.steps ≡ None
  pub trace : place_out 0 TRACE_MAX numbers.trace ≡ None

-- ---- the limits of the words

abbrev pub or_images : Option (ℕ × Which) → ℕ → Option Which
or_images (Some number) images = Some number.1
or_images None images = if nat_lt IMAGES_MAX images then Some Images else None

-- the first limit that the words of `exo` pass
unfoldable pub limit_of_words : Exo → Option Which
limit_of_words e = or_images (numbers_out (numbers_of_exo e)) (length e.images)

abbrev pub or_args : Option (ℕ × Which) → Bool → Option Which
or_args (Some number) fits = Some number.1
or_args None true = None
or_args None false = Some Args

-- the first limit that the words of `run` pass
unfoldable pub limit_of_run : Run → Option Which
limit_of_run r = or_args (numbers_out (numbers_of_run r)) (fits_stack (texts_of r))

-- the limit that the number of a disk's blocks passes
abbrev pub limit_of_blocks : NumberAt → Option Which
limit_of_blocks blocks =
    if nat_lt blocks.value MINBLOCKS || nat_lt MAXBLOCKS blocks.value then Some Blocks else None

-- the limit that the seed of `gen` passes
abbrev pub limit_of_seed : NumberAt → Option Which
limit_of_seed seed =
    if nat_lt seed.value 1 || nat_lt SEED_MAX seed.value then Some Seed else None
