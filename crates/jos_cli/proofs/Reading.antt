-- What was read, as it is judged.
use Rattle.std.proofs.Common.{◌≡◌, ◌≢◌, ℕ, ◌<◌, ◌≤◌, nat_lt, suc, true, false, List, length, Option, Some, None, Ok, Err}
use Rattle.std.proofs.Common.{Result, refl, sym, ap, subst, ◌∙◌, arith}
use Rattle.std.proofs.lemmas.Bool.Decides.{nat_tests}
use Rattle.std.specs.Prelude.{⊤, MatchOption}
use Rattle.jos_host.specs.Files.{Files}
use Rattle.jos_words.specs.Arguments.{Word}
use Rattle.jos_sched.specs.declared.fault.ScheduleFault.{ScheduleFault}
use Rattle.jos_sched.specs.declared.fault.ScheduleFault.TheVariants as sched
use Rattle.jos_sched.specs.Schedule as schedule
use Rattle.jos_elf.specs.declared.fault.ElfFault.{ElfFault}
use Rattle.jos_elf.specs.Parsed.{Layout}
use Rattle.jos_elf.specs.Parsed as image
use Rattle.jos_base.specs.declared.numbers.TheConstants.{IMAGE_MAX}
use Rattle.jos_base.specs.Words.{◌>>=◌}
use Rattle.jos_cli.specs.declared.outcome.Which.{Which}
use Rattle.jos_cli.specs.declared.outcome.Which.TheVariants.{Image}
use Rattle.jos_cli.specs.declared.files.FileFault.TheVariants as fault
use Rattle.jos_cli.specs.Found.{FileAt, file_at, IsFileAt}
use Rattle.jos_cli.specs.FilesRead.{IsFile, IsFileFault}
use Rattle.jos_cli.specs.Answer.{absent, limit, Judged, bytes_within, text_of, numbers_of, schedule_of, loadable_of, loadable_in}
use Rattle.jos_kernel.specs.Reports.{CutOff}
use Rattle.jos_cli.specs.declared.outcome.Outcome.{Outcome}
use Rattle.jos_cli.specs.declared.outcome.Outcome.TheVariants.{HostFault}
use Rattle.jos_cli.specs.Kinds.{Kind, answered, cut_off, no_memory, kind_of}
use Rattle.jos_cli.specs.Stages.{RefusesBy, schedule_refusal}
use Rattle.fs_layout.proofs.Written.{length-zeros}
use Rattle.fs_layout.specs.Layout.{zeros}

-- ---- a file

pub within : (most : ℕ) (which : Which) (place : ℕ) (bytes : List ℕ) → length bytes ≤ most → bytes_within most which place (Some bytes) ≡ Ok bytes
within most which place bytes h = let e : nat_lt most (length bytes) ≡ false = grind (arith, nat_tests) in rw e refl

pub past : (most : ℕ) (which : Which) (place : ℕ) (bytes : List ℕ) → most < length bytes → bytes_within most which place (Some bytes) ≡ Err (limit which)
past most which place bytes h = let e : nat_lt most (length bytes) ≡ true = grind (arith, nat_tests) in rw e refl

module _ (most : ℕ) (which : Which) (word : Word) where
  is_read : (place : ℕ) (stands : Option (List ℕ)) (bytes : List ℕ) → IsFile most stands bytes → bytes_within most which place stands ≡ Ok bytes
  is_read place (Some file) bytes h = within most which place file h.1 ∙ ap (λ l. Ok l) (sym h.0)
  is_read place None bytes h = absurd h

  pub file_read : (told : Option Files) (bytes : List ℕ) → MatchOption told ⊤ (λ files. IsFile most (files word.text) bytes) → length bytes ≤ most →
      (file : FileAt) × IsFileAt told word file × (bytes_within most which file.word.place file.bytes ≡ Ok bytes)
  file_read (Some files) bytes h small = (file_at files word, refl, is_read word.place (files word.text) bytes h)
  file_read None bytes h small = (record { word = word; bytes = Some bytes }, refl, within most which word.place bytes small)

  is_absent : (place : ℕ) (stands : Option (List ℕ)) → IsFileFault most stands fault.Absent → bytes_within most which place stands ≡ Err (absent place)
  is_absent place (Some file) h = absurd h
  is_absent place None h = refl

  pub file_absent : (told : Option Files) → MatchOption told ⊤ (λ files. IsFileFault most (files word.text) fault.Absent) →
      (file : FileAt) × IsFileAt told word file × (bytes_within most which file.word.place file.bytes ≡ Err (absent word.place))
  file_absent (Some files) h = (file_at files word, refl, is_absent word.place (files word.text) h)
  file_absent None h = (record { word = word; bytes = None }, refl, refl)

  is_too_long : (place : ℕ) (stands : Option (List ℕ)) → IsFileFault most stands fault.TooLong → bytes_within most which place stands ≡ Err (limit which)
  is_too_long place (Some file) h = past most which place file h
  is_too_long place None h = absurd h

  pub file_too_long : (told : Option Files) → MatchOption told ⊤ (λ files. IsFileFault most (files word.text) fault.TooLong) →
      (file : FileAt) × IsFileAt told word file × (bytes_within most which file.word.place file.bytes ≡ Err (limit which))
  file_too_long (Some files) h = (file_at files word, refl, is_too_long word.place (files word.text) h)
  file_too_long None h =
      let e : length (zeros (suc most)) ≡ suc most = length-zeros (suc most) in
      (record { word = word; bytes = Some (zeros (suc most)) }, refl, past most which word.place (zeros (suc most)) (omega arith))

-- ---- what it is read as

-- what is refused before is refused
pub refused_then : {X Y : Type 0} (judged : Judged X) (next : X → Judged Y) (kind : Kind) → RefusesBy judged kind → RefusesBy (judged >>= next) kind
refused_then {X = X} judged next (answered answer) h = ap (λ (j : Judged X). j >>= next) h
refused_then judged next (cut_off stopped) h = tt
refused_then judged next no_memory h = tt

-- and what is refused behind what is there
pub refused_behind : {X Y : Type 0} (judged : Judged X) (next : X → Judged Y) (x : X) (kind : Kind) → judged ≡ Ok x → RefusesBy (next x) kind →
    RefusesBy (judged >>= next) kind
refused_behind {X = X} judged next x kind is h = subst (λ (j : Judged X). RefusesBy (j >>= next) kind) (sym is) h

pub schedule_parsed : (file : Option FileAt) (text : List ℕ) (read : Result (List ℕ) ScheduleFault) → text_of file ≡ Ok text → schedule.parsed text ≡ read →
    schedule_of file ≡ numbers_of read
unfolding schedule_of
schedule_parsed file text read h e = ap (λ (j : Judged (List ℕ)). j >>= (λ t. numbers_of (schedule.parsed t))) h ∙ ap numbers_of e

pub schedule_refused : (file : Option FileAt) (kind : Kind) → RefusesBy (text_of file) kind → RefusesBy (schedule_of file) kind
unfolding schedule_of
schedule_refused file kind h = refused_then (text_of file) (λ t. numbers_of (schedule.parsed t)) kind h

pub image_parsed : (file : FileAt) (bytes : List ℕ) (read : Result Layout ElfFault) → bytes_within IMAGE_MAX Image file.word.place file.bytes ≡ Ok bytes → read ≡ image.parsed bytes →
    loadable_in file ≡ loadable_of file.word.place bytes read
unfolding loadable_in
image_parsed file bytes read h e =
    ap (λ (j : Judged (List ℕ)). j >>= (λ b. loadable_of file.word.place b (image.parsed b))) h ∙ ap (loadable_of file.word.place bytes) (sym e)

pub image_refused : (file : FileAt) (kind : Kind) → RefusesBy (bytes_within IMAGE_MAX Image file.word.place file.bytes) kind → RefusesBy (loadable_in file) kind
unfolding loadable_in
image_refused file kind h = refused_then (bytes_within IMAGE_MAX Image file.word.place file.bytes) (λ b. loadable_of file.word.place b (image.parsed b)) kind h

-- the word of what is found
pub word_is : (told : Option Files) (word : Word) (file : FileAt) → IsFileAt told word file → file.word ≡ word
word_is (Some files) word file h = ap (λ f. f.word) h
word_is None word file h = h

-- the answer of a call that failed
pub cut_off-refuses : {X : Type 0} (judged : Judged X) (outcome : Outcome) (stopped : CutOff) → outcome ≡ HostFault stopped → RefusesBy judged (kind_of outcome)
cut_off-refuses judged outcome stopped e = subst (λ (o : Outcome). RefusesBy judged (kind_of o)) (sym e) tt

-- a text that is no schedule
pub schedule_fault : (file : Option FileAt) (text : List ℕ) (f : ScheduleFault) → text_of file ≡ Ok text → (f ≢ sched.NoMemory → schedule.parsed text ≡ Err f) →
    RefusesBy (schedule_of file) (kind_of (schedule_refusal f))
schedule_fault file text (sched.NotANumber place) h e = schedule_parsed file text (Err (sched.NotANumber place)) h (e (λ q. cc))
schedule_fault file text (sched.Zero place) h e = schedule_parsed file text (Err (sched.Zero place)) h (e (λ q. cc))
schedule_fault file text (sched.TooBig place) h e = schedule_parsed file text (Err (sched.TooBig place)) h (e (λ q. cc))
schedule_fault file text sched.TooMany h e = schedule_parsed file text (Err sched.TooMany) h (e (λ q. cc))
schedule_fault file text sched.NoMemory h e = tt
