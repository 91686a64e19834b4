-- seek and set_size, which ask the file server of a file that is open: what is known at each of their steps before they ask.
use Rattle.std.proofs.Common.{◌≡◌, ◌&&◌, ℕ, Bool, true, false, List, Some, refl, ap}
use Rattle.std.proofs.lemmas.Bool.{false≢true}
use Rattle.jos_base.specs.Environments.{Slot}
use Rattle.lib_os.specs.declared.place.Place.TheVariants as place
use Rattle.lib_os.specs.declared.place.Step.{Step}
use Rattle.lib_os.specs.declared.place.Step.TheVariants as step
use Rattle.lib_os.specs.declared.service.Service.{Service}
use Rattle.lib_os.specs.declared.service.Service.TheVariants as service
use Rattle.lib_os.specs.AbstractState.{Born, entered}
use Rattle.lib_os.specs.LibraryPages.{View, keeps_page, keeps_request}
use Rattle.lib_os.specs.StandsFor.{AsksOfFile, HasFileNumber, IsOfFile, StandsAtStep, TellsNumber, TellsOfFile, descriptor_given}
use Rattle.lib_os.proofs.RequestPages.{asks_with_page, in_moved}
use Rattle.lib_os.proofs.Serving.{holds_page, kept_where}

abbrev pub asks_of_file : Service → Bool
asks_of_file (service.Seek fd offset) = true
asks_of_file (service.SetSize fd size) = true
asks_of_file (service.Write fd va len) = true
asks_of_file (service.Read fd va len) = true
asks_of_file (service.Stat fd va) = true
asks_of_file _ = false

-- those that ask as soon as they have their page
abbrev pub asks_at_once : Service → Bool
asks_at_once (service.Seek fd offset) = true
asks_at_once (service.SetSize fd size) = true
asks_at_once (service.Read fd va len) = true
asks_at_once (service.Stat fd va) = true
asks_at_once _ = false

pub at_once_of_file : (s : Service) → asks_at_once s ≡ true → asks_of_file s ≡ true
at_once_of_file (service.Seek fd offset) is = refl
at_once_of_file (service.SetSize fd size) is = refl
at_once_of_file (service.Read fd va len) is = refl
at_once_of_file (service.Stat fd va) is = refl
at_once_of_file _ is = absurd (false≢true is)

-- the descriptor that it is given
abbrev pub file_given : Service → ℕ
file_given (service.Seek fd offset) = fd
file_given (service.SetSize fd size) = fd
file_given (service.Write fd va len) = fd
file_given (service.Read fd va len) = fd
file_given (service.Stat fd va) = fd
file_given _ = 0

pub of_file_with_page : (s : Service) → asks_of_file s ≡ true → asks_with_page s ≡ true
of_file_with_page (service.Seek fd offset) is = refl
of_file_with_page (service.SetSize fd size) is = refl
of_file_with_page (service.Write fd va len) is = refl
of_file_with_page (service.Read fd va len) is = refl
of_file_with_page (service.Stat fd va) is = refl
of_file_with_page _ is = absurd (false≢true is)

pub of_file_given : (s : Service) → asks_of_file s ≡ true → descriptor_given s ≡ Some (file_given s)
of_file_given (service.Seek fd offset) is = refl
of_file_given (service.SetSize fd size) is = refl
of_file_given (service.Write fd va len) is = refl
of_file_given (service.Read fd va len) is = refl
of_file_given (service.Stat fd va) is = refl
of_file_given _ is = absurd (false≢true is)

-- at a step at which each of them has its page
abbrev pub keeps_asked : Step → Bool
keeps_asked at = keeps_request at && keeps_page at

both_of : (t u : Bool) → t && u ≡ true → (t ≡ true) × (u ≡ true)
both_of true true both = (refl, refl)
both_of true false both = absurd (false≢true both)
both_of false u both = absurd (false≢true both)

pub of_file_holds : (s : Service) → asks_of_file s ≡ true → (at : Step) → keeps_asked at ≡ true → holds_page (place.InService s at) ≡ kept_where true
of_file_holds (service.Seek fd offset) is at keeps = ap kept_where (both_of (keeps_request at) (keeps_page at) keeps).0
of_file_holds (service.SetSize fd size) is at keeps = ap kept_where (both_of (keeps_request at) (keeps_page at) keeps).0
of_file_holds (service.Read fd va len) is at keeps = ap kept_where (both_of (keeps_request at) (keeps_page at) keeps).0
of_file_holds (service.Stat fd va) is at keeps = ap kept_where (both_of (keeps_request at) (keeps_page at) keeps).0
of_file_holds (service.Write fd va len) is at keeps = ap kept_where (both_of (keeps_request at) (keeps_page at) keeps).1
of_file_holds _ is at keeps = absurd (false≢true is)

-- ---- at each step

module _ (v : View) (k : Slot) (b : Born) where
  pub taking_asks : (s : Service) → asks_at_once s ≡ true → StandsAtStep v k b s step.TakingPage → AsksOfFile v k b s (file_given s)
  taking_asks (service.Seek fd offset) is h = h
  taking_asks (service.SetSize fd size) is h = h
  taking_asks (service.Read fd va len) is h = h
  taking_asks (service.Stat fd va) is h = h
  taking_asks _ is h = absurd (false≢true is)

  pub asks_taking : (s : Service) → asks_at_once s ≡ true → AsksOfFile v k b s (file_given s) → StandsAtStep v k b s step.TakingPage
  asks_taking (service.Seek fd offset) is h = h
  asks_taking (service.SetSize fd size) is h = h
  asks_taking (service.Read fd va len) is h = h
  asks_taking (service.Stat fd va) is h = h
  asks_taking _ is h = absurd (false≢true is)

  pub reading_asks : (s : Service) → asks_of_file s ≡ true → StandsAtStep v k b s step.ReadingNumber → AsksOfFile v k b s (file_given s)
  reading_asks (service.Seek fd offset) is h = h
  reading_asks (service.SetSize fd size) is h = h
  reading_asks (service.Write fd va len) is h = h
  reading_asks (service.Read fd va len) is h = h
  reading_asks (service.Stat fd va) is h = h
  reading_asks _ is h = absurd (false≢true is)

  pub asks_reading : (s : Service) → asks_of_file s ≡ true → AsksOfFile v k b s (file_given s) → StandsAtStep v k b s step.ReadingNumber
  asks_reading (service.Seek fd offset) is h = h
  asks_reading (service.SetSize fd size) is h = h
  asks_reading (service.Write fd va len) is h = h
  asks_reading (service.Read fd va len) is h = h
  asks_reading (service.Stat fd va) is h = h
  asks_reading _ is h = absurd (false≢true is)

  pub storing_number : (s : Service) → asks_of_file s ≡ true → (number : ℕ) → StandsAtStep v k b s (step.StoringNumber number) →
      HasFileNumber v k b s (file_given s) number
  storing_number (service.Seek fd offset) is number h = h
  storing_number (service.SetSize fd size) is number h = h
  storing_number (service.Write fd va len) is number h = h
  storing_number (service.Read fd va len) is number h = h
  storing_number (service.Stat fd va) is number h = h
  storing_number _ is number h = absurd (false≢true is)

  pub number_storing : (s : Service) → asks_of_file s ≡ true → (number : ℕ) → HasFileNumber v k b s (file_given s) number →
      StandsAtStep v k b s (step.StoringNumber number)
  number_storing (service.Seek fd offset) is number h = h
  number_storing (service.SetSize fd size) is number h = h
  number_storing (service.Write fd va len) is number h = h
  number_storing (service.Read fd va len) is number h = h
  number_storing (service.Stat fd va) is number h = h
  number_storing _ is number h = absurd (false≢true is)

  pub storing_count : (s : Service) → asks_of_file s ≡ true → StandsAtStep v k b s step.StoringCount → TellsNumber v k b s (file_given s)
  storing_count (service.Seek fd offset) is h = h
  storing_count (service.SetSize fd size) is h = h
  storing_count (service.Write fd va len) is h = h
  storing_count (service.Read fd va len) is h = h
  storing_count (service.Stat fd va) is h = h
  storing_count _ is h = absurd (false≢true is)

  pub count_storing : (s : Service) → asks_of_file s ≡ true → TellsNumber v k b s (file_given s) → StandsAtStep v k b s step.StoringCount
  count_storing (service.Seek fd offset) is h = h
  count_storing (service.SetSize fd size) is h = h
  count_storing (service.Write fd va len) is h = h
  count_storing (service.Read fd va len) is h = h
  count_storing (service.Stat fd va) is h = h
  count_storing _ is h = absurd (false≢true is)

  pub tells_identifying : (s : Service) → asks_of_file s ≡ true → TellsOfFile v k b s (file_given s) → StandsAtStep v k b s step.Identifying
  tells_identifying (service.Seek fd offset) is h = h
  tells_identifying (service.SetSize fd size) is h = h
  tells_identifying (service.Write fd va len) is h = h
  tells_identifying (service.Read fd va len) is h = h
  tells_identifying (service.Stat fd va) is h = h
  tells_identifying _ is h = absurd (false≢true is)

  -- with other words
  abbrev pub of_file_moved : (words : List ℕ) (s : Service) (fd : ℕ) → IsOfFile v k b s fd → IsOfFile v (record k { extra = words }) b s fd
  of_file_moved words s fd h = record { is_in = in_moved v k b k.status words s entered h.is_in; below = h.below; file = h.file }

  abbrev pub asks_with_words : (words : List ℕ) (s : Service) (fd : ℕ) → AsksOfFile v k b s fd → AsksOfFile v (record k { extra = words }) b s fd
  asks_with_words words s fd h = record {
    stage = h.stage;
    of_file = record { is_in = in_moved v k b k.status words s h.stage h.of_file.is_in; below = h.of_file.below; file = h.of_file.file };
    allowed = h.allowed;
    has = h.has;
  }
