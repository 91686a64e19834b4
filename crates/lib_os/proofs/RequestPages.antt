-- The services that ask the file server with a page: at which steps they have it, what is known there, and by which word they ask.
use Rattle.std.proofs.Common.{◌≡◌, ◌&&◌, ℕ, Bool, true, false, List, None, refl, ap}
use Rattle.std.proofs.lemmas.Bool.{false≢true}
use Rattle.jos_base.specs.declared.environment.Status.{Status}
use Rattle.jos_base.specs.Environments.{Slot}
use Rattle.lib_os.specs.declared.numbers.TheConstants.{FSREQ_REMOVE, FSREQ_SEEK, FSREQ_SET_SIZE, FSREQ_WRITE, FSREQ_READ, FSREQ_STAT, FSREQ_OPEN}
use Rattle.lib_os.specs.declared.place.Place.TheVariants as place
use Rattle.lib_os.specs.declared.place.Step.{Step}
use Rattle.lib_os.specs.declared.place.Step.TheVariants as step
use Rattle.lib_os.specs.declared.service.Service.{Service}
use Rattle.lib_os.specs.declared.service.Service.TheVariants as service
use Rattle.lib_os.specs.AbstractState.{Born, Stage, gathering}
use Rattle.lib_os.specs.LibraryPages.{View, keeps_page, keeps_path, keeps_request}
use Rattle.lib_os.specs.LibrarySteps.{BringsRequest, BringsWithPage, frames_at, asking_step}
use Rattle.lib_os.specs.Rows.{EntryRow}
use Rattle.jos_base.specs.KernelState.{KernelState}
use Rattle.lib_os.specs.StandsInHandler.{MayPut, hands_back}
use Rattle.lib_os.specs.InService.{IsIn, IsLowestFree}
use Rattle.lib_os.specs.StandsFor.{IsAwaiting, awaits, awaits_bytes, has_reply, AsksOfFile, AwaitsOrHas, HasAsked, HasReply, StandsAtStep}
use Rattle.lib_os.specs.StandsFor.{TellsOfFile, TellsRequest, borne_in, HasWholePath}
use Rattle.lib_os.proofs.AskedPlaces.{awaiting_step, asked_step}
use Rattle.lib_os.proofs.Logical.{is_plain}
use Rattle.lib_os.proofs.PipesStand.{is_calm_step}
use Rattle.lib_os.proofs.Serving.{holds_page, kept_where, others_kept}
use Rattle.lib_os.proofs.SlotsStand.{is_piped}

abbrev pub asks_with_page : Service → Bool
asks_with_page (service.Remove path) = true
asks_with_page (service.Seek fd offset) = true
asks_with_page (service.SetSize fd size) = true
asks_with_page (service.Write fd va len) = true
asks_with_page (service.Read fd va len) = true
asks_with_page (service.Stat fd va) = true
asks_with_page _ = false

-- the word of the request
abbrev pub word_asked : Service → ℕ
word_asked (service.Remove path) = FSREQ_REMOVE
word_asked (service.OpenFile path mode) = FSREQ_OPEN
word_asked (service.Seek fd offset) = FSREQ_SEEK
word_asked (service.SetSize fd size) = FSREQ_SET_SIZE
word_asked (service.Write fd va len) = FSREQ_WRITE
word_asked (service.Read fd va len) = FSREQ_READ
word_asked (service.Stat fd va) = FSREQ_STAT
word_asked _ = 0

-- ---- its page

-- at a step at which each of them has it
abbrev pub keeps_each : Step → Bool
keeps_each at = keeps_path at && keeps_request at && keeps_page at

each_of : (t u w : Bool) → t && u && w ≡ true → (t ≡ true) × (u ≡ true) × (w ≡ true)
each_of true true true all = (refl, refl, refl)
each_of true true false all = absurd (false≢true all)
each_of true false w all = absurd (false≢true all)
each_of false u w all = absurd (false≢true all)

pub request_held : (s : Service) → asks_with_page s ≡ true → (at : Step) → keeps_each at ≡ true → holds_page (place.InService s at) ≡ kept_where true
request_held (service.Remove path) is at keeps = ap kept_where (each_of (keeps_path at) (keeps_request at) (keeps_page at) keeps).0
request_held (service.Seek fd offset) is at keeps = ap kept_where (each_of (keeps_path at) (keeps_request at) (keeps_page at) keeps).1
request_held (service.SetSize fd size) is at keeps = ap kept_where (each_of (keeps_path at) (keeps_request at) (keeps_page at) keeps).1
request_held (service.Read fd va len) is at keeps = ap kept_where (each_of (keeps_path at) (keeps_request at) (keeps_page at) keeps).1
request_held (service.Stat fd va) is at keeps = ap kept_where (each_of (keeps_path at) (keeps_request at) (keeps_page at) keeps).1
request_held (service.Write fd va len) is at keeps = ap kept_where (each_of (keeps_path at) (keeps_request at) (keeps_page at) keeps).2
request_held _ is at keeps = absurd (false≢true is)

pub awaiting_held : (s : Service) → asks_with_page s ≡ true → (id : ℕ) → holds_page (place.InService s (awaiting_step s id 0)) ≡ kept_where true
awaiting_held (service.Remove path) is id = refl
awaiting_held (service.Seek fd offset) is id = refl
awaiting_held (service.SetSize fd size) is id = refl
awaiting_held (service.Write fd va len) is id = refl
awaiting_held (service.Read fd va len) is id = refl
awaiting_held (service.Stat fd va) is id = refl
awaiting_held _ is id = absurd (false≢true is)

pub request_unheld : (s : Service) → asks_with_page s ≡ true → (id : ℕ) → holds_page (place.InService s (step.ReadingReply id)) ≡ kept_where false
request_unheld (service.Remove path) is id = refl
request_unheld (service.Seek fd offset) is id = refl
request_unheld (service.SetSize fd size) is id = refl
request_unheld (service.Write fd va len) is id = refl
request_unheld (service.Read fd va len) is id = refl
request_unheld (service.Stat fd va) is id = refl
request_unheld _ is id = absurd (false≢true is)

-- it keeps no others
pub request_alone : (s : Service) → asks_with_page s ≡ true → (at : Step) → others_kept (place.InService s at) ≡ (λ p. false)
request_alone (service.Remove path) is at = refl
request_alone (service.Seek fd offset) is at = refl
request_alone (service.SetSize fd size) is at = refl
request_alone (service.Write fd va len) is at = refl
request_alone (service.Read fd va len) is at = refl
request_alone (service.Stat fd va) is at = refl
request_alone _ is at = absurd (false≢true is)

-- it bears no child, and entries count as they stand
pub request_unborne : (s : Service) → asks_with_page s ≡ true → (at : Step) → borne_in (place.InService s at) ≡ None
request_unborne (service.Remove path) is at = refl
request_unborne (service.Seek fd offset) is at = refl
request_unborne (service.SetSize fd size) is at = refl
request_unborne (service.Write fd va len) is at = refl
request_unborne (service.Read fd va len) is at = refl
request_unborne (service.Stat fd va) is at = refl
request_unborne _ is at = absurd (false≢true is)

pub request_plain : (s : Service) → asks_with_page s ≡ true → (at : Step) → is_plain (place.InService s at) ≡ true
request_plain (service.Remove path) is at = refl
request_plain (service.Seek fd offset) is at = refl
request_plain (service.SetSize fd size) is at = refl
request_plain (service.Write fd va len) is at = refl
request_plain (service.Read fd va len) is at = refl
request_plain (service.Stat fd va) is at = refl
request_plain _ is at = absurd (false≢true is)

-- ---- with a page it asks, for a file that is to be opened, too

abbrev pub brings_page : Service → Bool
brings_page (service.OpenFile path mode) = true
brings_page s = asks_with_page s

pub page_brought : (s : Service) → asks_with_page s ≡ true → brings_page s ≡ true
page_brought (service.Remove path) is = refl
page_brought (service.Seek fd offset) is = refl
page_brought (service.SetSize fd size) is = refl
page_brought (service.Write fd va len) is = refl
page_brought (service.Read fd va len) is = refl
page_brought (service.Stat fd va) is = refl
page_brought _ is = absurd (false≢true is)

-- the steps at which it does, with its id; open_file has its descriptor beside
abbrev pub identifying_step : Service → ℕ → Step
identifying_step (service.OpenFile path mode) fd = step.OpenIdentifying fd
identifying_step _ fd = step.Identifying

abbrev pub pausing_step : Service → ℕ → ℕ → Step
pausing_step (service.OpenFile path mode) id fd = step.OpenPausing id fd
pausing_step _ id fd = step.Pausing id

-- it has its page at each
pub identifying_held : (s : Service) → brings_page s ≡ true → (fd : ℕ) → holds_page (place.InService s (identifying_step s fd)) ≡ kept_where true
identifying_held (service.OpenFile path mode) is fd = refl
identifying_held (service.Remove path) is fd = refl
identifying_held (service.Seek given offset) is fd = refl
identifying_held (service.SetSize given size) is fd = refl
identifying_held (service.Write given va len) is fd = refl
identifying_held (service.Read given va len) is fd = refl
identifying_held (service.Stat given va) is fd = refl
identifying_held _ is fd = absurd (false≢true is)

pub asking_held : (s : Service) → brings_page s ≡ true → (id fd : ℕ) → holds_page (place.InService s (asking_step s id fd)) ≡ kept_where true
asking_held (service.OpenFile path mode) is id fd = refl
asking_held (service.Remove path) is id fd = refl
asking_held (service.Seek given offset) is id fd = refl
asking_held (service.SetSize given size) is id fd = refl
asking_held (service.Write given va len) is id fd = refl
asking_held (service.Read given va len) is id fd = refl
asking_held (service.Stat given va) is id fd = refl
asking_held _ is id fd = absurd (false≢true is)

pub pausing_held : (s : Service) → brings_page s ≡ true → (id fd : ℕ) → holds_page (place.InService s (pausing_step s id fd)) ≡ kept_where true
pausing_held (service.OpenFile path mode) is id fd = refl
pausing_held (service.Remove path) is id fd = refl
pausing_held (service.Seek given offset) is id fd = refl
pausing_held (service.SetSize given size) is id fd = refl
pausing_held (service.Write given va len) is id fd = refl
pausing_held (service.Read given va len) is id fd = refl
pausing_held (service.Stat given va) is id fd = refl
pausing_held _ is id fd = absurd (false≢true is)

pub asked_held : (s : Service) → brings_page s ≡ true → (id fd : ℕ) → holds_page (place.InService s (asked_step s id fd)) ≡ kept_where true
asked_held (service.OpenFile path mode) is id fd = refl
asked_held (service.Remove path) is id fd = refl
asked_held (service.Seek given offset) is id fd = refl
asked_held (service.SetSize given size) is id fd = refl
asked_held (service.Write given va len) is id fd = refl
asked_held (service.Read given va len) is id fd = refl
asked_held (service.Stat given va) is id fd = refl
asked_held _ is id fd = absurd (false≢true is)

-- it is on no pipe
pub identifying_calm : (s : Service) (fd : ℕ) → is_calm_step (identifying_step s fd) ≡ true
identifying_calm (service.OpenFile path mode) fd = refl
identifying_calm _ fd = refl

pub asking_calm : (s : Service) (id fd : ℕ) → is_calm_step (asking_step s id fd) ≡ true
asking_calm (service.OpenFile path mode) id fd = refl
asking_calm _ id fd = refl

pub pausing_calm : (s : Service) (id fd : ℕ) → is_calm_step (pausing_step s id fd) ≡ true
pausing_calm (service.OpenFile path mode) id fd = refl
pausing_calm _ id fd = refl

pub asked_calm : (s : Service) (id fd : ℕ) → is_calm_step (asked_step s id fd) ≡ true
asked_calm (service.OpenFile path mode) id fd = refl
asked_calm _ id fd = refl

pub awaiting_calm : (s : Service) (id fd : ℕ) → is_calm_step (awaiting_step s id fd) ≡ true
awaiting_calm (service.Remove path) id fd = refl
awaiting_calm (service.OpenFile path mode) id fd = refl
awaiting_calm (service.Seek given offset) id fd = refl
awaiting_calm (service.SetSize given size) id fd = refl
awaiting_calm (service.Write given va len) id fd = refl
awaiting_calm (service.Read given va len) id fd = refl
awaiting_calm (service.Stat given va) id fd = refl
awaiting_calm _ id fd = refl

pub asking_unpiped : (s : Service) (id fd : ℕ) → is_piped (place.InService s (asking_step s id fd)) ≡ false
asking_unpiped (service.OpenFile path mode) id fd = refl
asking_unpiped _ id fd = refl

-- it bears no child, and entries count as they stand
pub brings_unborne : (s : Service) → brings_page s ≡ true → (at : Step) → borne_in (place.InService s at) ≡ None
brings_unborne (service.OpenFile path mode) is at = refl
brings_unborne (service.Remove path) is at = refl
brings_unborne (service.Seek fd offset) is at = refl
brings_unborne (service.SetSize fd size) is at = refl
brings_unborne (service.Write fd va len) is at = refl
brings_unborne (service.Read fd va len) is at = refl
brings_unborne (service.Stat fd va) is at = refl
brings_unborne _ is at = absurd (false≢true is)

pub brings_plain : (s : Service) → brings_page s ≡ true → (at : Step) → is_plain (place.InService s at) ≡ true
brings_plain (service.OpenFile path mode) is at = refl
brings_plain (service.Remove path) is at = refl
brings_plain (service.Seek fd offset) is at = refl
brings_plain (service.SetSize fd size) is at = refl
brings_plain (service.Write fd va len) is at = refl
brings_plain (service.Read fd va len) is at = refl
brings_plain (service.Stat fd va) is at = refl
brings_plain _ is at = absurd (false≢true is)

-- as many frames may be taken where it asks as for a table
pub request_frames : (s : Service) → brings_page s ≡ true → (id fd : ℕ) → frames_at (place.InService s (asking_step s id fd)) ≡ 1
request_frames (service.OpenFile path mode) is id fd = refl
request_frames (service.Remove path) is id fd = refl
request_frames (service.Seek given offset) is id fd = refl
request_frames (service.SetSize given size) is id fd = refl
request_frames (service.Write given va len) is id fd = refl
request_frames (service.Read given va len) is id fd = refl
request_frames (service.Stat given va) is id fd = refl
request_frames _ is id fd = absurd (false≢true is)

-- what it brings to the server
pub request_brought : (s : Service) → brings_page s ≡ true → (n : ℕ) (before after : KernelState) → BringsWithPage (word_asked s) n before after →
    BringsRequest s n before after
request_brought (service.OpenFile path mode) is n before after it = it
request_brought (service.Remove path) is n before after it = it
request_brought (service.Seek fd offset) is n before after it = it
request_brought (service.SetSize fd size) is n before after it = it
request_brought (service.Write fd va len) is n before after it = it
request_brought (service.Read fd va len) is n before after it = it
request_brought (service.Stat fd va) is n before after it = it
request_brought _ is n before after it = absurd (false≢true is)

-- what is known of its descriptor
abbrev pub IsBeside : EntryRow → Service → ℕ → Type 0
IsBeside row (service.OpenFile path mode) fd = IsLowestFree row fd
IsBeside row _ fd = Unit {0}

-- ---- at each step

module _ (v : View) (k : Slot) (b : Born) where
  pub told_identifying : (s : Service) → brings_page s ≡ true → (fd : ℕ) → StandsAtStep v k b s (identifying_step s fd) →
      IsBeside v.row s fd × TellsRequest v k b s
  told_identifying (service.OpenFile path mode) is fd h = h
  told_identifying (service.Remove path) is fd h = (tt, h)
  told_identifying (service.Seek given offset) is fd h = (tt, h)
  told_identifying (service.SetSize given size) is fd h = (tt, h)
  told_identifying (service.Write given va len) is fd h = (tt, h)
  told_identifying (service.Read given va len) is fd h = (tt, h)
  told_identifying (service.Stat given va) is fd h = (tt, h)
  told_identifying _ is fd h = absurd (false≢true is)

  pub told_asking : (s : Service) → brings_page s ≡ true → (id fd : ℕ) → StandsAtStep v k b s (asking_step s id fd) →
      (id ≡ k.id) × IsBeside v.row s fd × TellsRequest v k b s
  told_asking (service.OpenFile path mode) is id fd h = h
  told_asking (service.Remove path) is id fd h = (h.0, tt, h.1)
  told_asking (service.Seek given offset) is id fd h = (h.0, tt, h.1)
  told_asking (service.SetSize given size) is id fd h = (h.0, tt, h.1)
  told_asking (service.Write given va len) is id fd h = (h.0, tt, h.1)
  told_asking (service.Read given va len) is id fd h = (h.0, tt, h.1)
  told_asking (service.Stat given va) is id fd h = (h.0, tt, h.1)
  told_asking _ is id fd h = absurd (false≢true is)

  pub asking_told : (s : Service) → brings_page s ≡ true → (id fd : ℕ) → (id ≡ k.id) × IsBeside v.row s fd × TellsRequest v k b s →
      StandsAtStep v k b s (asking_step s id fd)
  asking_told (service.OpenFile path mode) is id fd h = h
  asking_told (service.Remove path) is id fd h = (h.0, h.2)
  asking_told (service.Seek given offset) is id fd h = (h.0, h.2)
  asking_told (service.SetSize given size) is id fd h = (h.0, h.2)
  asking_told (service.Write given va len) is id fd h = (h.0, h.2)
  asking_told (service.Read given va len) is id fd h = (h.0, h.2)
  asking_told (service.Stat given va) is id fd h = (h.0, h.2)
  asking_told _ is id fd h = absurd (false≢true is)

  pub told_pausing : (s : Service) → brings_page s ≡ true → (id fd : ℕ) → StandsAtStep v k b s (pausing_step s id fd) →
      (id ≡ k.id) × IsBeside v.row s fd × TellsRequest v k b s
  told_pausing (service.OpenFile path mode) is id fd h = h
  told_pausing (service.Remove path) is id fd h = (h.0, tt, h.1)
  told_pausing (service.Seek given offset) is id fd h = (h.0, tt, h.1)
  told_pausing (service.SetSize given size) is id fd h = (h.0, tt, h.1)
  told_pausing (service.Write given va len) is id fd h = (h.0, tt, h.1)
  told_pausing (service.Read given va len) is id fd h = (h.0, tt, h.1)
  told_pausing (service.Stat given va) is id fd h = (h.0, tt, h.1)
  told_pausing _ is id fd h = absurd (false≢true is)

  pub pausing_told : (s : Service) → brings_page s ≡ true → (id fd : ℕ) → (id ≡ k.id) × IsBeside v.row s fd × TellsRequest v k b s →
      StandsAtStep v k b s (pausing_step s id fd)
  pausing_told (service.OpenFile path mode) is id fd h = h
  pausing_told (service.Remove path) is id fd h = (h.0, h.2)
  pausing_told (service.Seek given offset) is id fd h = (h.0, h.2)
  pausing_told (service.SetSize given size) is id fd h = (h.0, h.2)
  pausing_told (service.Write given va len) is id fd h = (h.0, h.2)
  pausing_told (service.Read given va len) is id fd h = (h.0, h.2)
  pausing_told (service.Stat given va) is id fd h = (h.0, h.2)
  pausing_told _ is id fd h = absurd (false≢true is)

  pub there_asked : (s : Service) → brings_page s ≡ true → (id fd : ℕ) → (hands_back s ≡ true → MayPut s) →
      (id ≡ k.id) × IsBeside v.row s fd × HasAsked k b s → StandsAtStep v k b s (asked_step s id fd)
  there_asked (service.OpenFile path mode) is id fd put h = h
  there_asked (service.Remove path) is id fd put h = (h.0, h.2)
  there_asked (service.Seek given offset) is id fd put h = (h.0, h.2)
  there_asked (service.SetSize given size) is id fd put h = (h.0, h.2)
  there_asked (service.Write given va len) is id fd put h = (h.0, h.2)
  there_asked (service.Read given va len) is id fd put h = (h.0, h.2, put refl)
  there_asked (service.Stat given va) is id fd put h = (h.0, h.2, put refl)
  there_asked _ is id fd put h = absurd (false≢true is)

  pub asked_there : (s : Service) → asks_with_page s ≡ true → (id : ℕ) → StandsAtStep v k b s (step.Awaiting id) → (id ≡ k.id) × HasAsked k b s
  asked_there (service.Remove path) is id h = h
  asked_there (service.Seek fd offset) is id h = h
  asked_there (service.SetSize fd size) is id h = h
  asked_there (service.Write fd va len) is id h = h
  asked_there (service.Read fd va len) is id h = (h.0, h.1)
  asked_there (service.Stat fd va) is id h = (h.0, h.1)
  asked_there _ is id h = absurd (false≢true is)

  -- that its buffer lies in the fence is told to the end
  pub put_there : (s : Service) → asks_with_page s ≡ true → (id : ℕ) → StandsAtStep v k b s (step.Awaiting id) → hands_back s ≡ true → MayPut s
  put_there (service.Read fd va len) is id h hands = h.2
  put_there (service.Stat fd va) is id h hands = h.2
  put_there _ is id h hands = absurd (false≢true hands)

  pub told_put : (s : Service) → TellsRequest v k b s → hands_back s ≡ true → MayPut s
  told_put (service.Read fd va len) h hands = h.asks.allowed.1
  told_put (service.Stat fd va) h hands = h.asks.allowed
  told_put _ h hands = absurd (false≢true hands)

  pub awaited_there : (s : Service) → asks_with_page s ≡ true → (id : ℕ) → StandsAtStep v k b s (step.Clearing id) → (id ≡ k.id) × AwaitsOrHas k b s
  awaited_there (service.Remove path) is id h = h
  awaited_there (service.Seek fd offset) is id h = h
  awaited_there (service.SetSize fd size) is id h = h
  awaited_there (service.Write fd va len) is id h = h
  awaited_there (service.Read fd va len) is id h = (h.0, has_reply h.1)
  awaited_there (service.Stat fd va) is id h = (h.0, has_reply h.1)
  awaited_there _ is id h = absurd (false≢true is)

  pub there_awaited : (s : Service) → asks_with_page s ≡ true → (id : ℕ) → (hands_back s ≡ true → MayPut s) → (id ≡ k.id) × IsAwaiting k b s →
      StandsAtStep v k b s (awaiting_step s id 0)
  there_awaited (service.Remove path) is id put h = (h.0, awaits h.1)
  there_awaited (service.Seek fd offset) is id put h = (h.0, awaits h.1)
  there_awaited (service.SetSize fd size) is id put h = (h.0, awaits h.1)
  there_awaited (service.Write fd va len) is id put h = (h.0, awaits h.1)
  there_awaited (service.Read fd va len) is id put h = record { self = h.0; hands = refl; inside = put refl; so = awaits_bytes h.1 }
  there_awaited (service.Stat fd va) is id put h = record { self = h.0; hands = refl; inside = put refl; so = awaits_bytes h.1 }
  there_awaited _ is id put h = absurd (false≢true is)

  pub replied_there : (s : Service) → asks_with_page s ≡ true → (id : ℕ) → StandsAtStep v k b s (step.ReadingReply id) → (id ≡ k.id) × HasReply k b s
  replied_there (service.Remove path) is id h = h
  replied_there (service.Seek fd offset) is id h = h
  replied_there (service.SetSize fd size) is id h = h
  replied_there (service.Write fd va len) is id h = h
  replied_there (service.Read fd va len) is id h = h
  replied_there (service.Stat fd va) is id h = h
  replied_there _ is id h = absurd (false≢true is)

  pub there_replied : (s : Service) → asks_with_page s ≡ true → (id : ℕ) → (id ≡ k.id) × HasReply k b s → StandsAtStep v k b s (step.ReadingReply id)
  there_replied (service.Remove path) is id h = h
  there_replied (service.Seek fd offset) is id h = h
  there_replied (service.SetSize fd size) is id h = h
  there_replied (service.Write fd va len) is id h = h
  there_replied (service.Read fd va len) is id h = h
  there_replied (service.Stat fd va) is id h = h
  there_replied _ is id h = absurd (false≢true is)

  -- it is in the service, at a stage
  pub told_in : (s : Service) → TellsRequest v k b s → (stage : Stage) × IsIn k b s stage
  told_in (service.Remove path) h = (gathering h.bytes, h.is_in)
  told_in (service.OpenFile path mode) h = (gathering h.whole.bytes, h.whole.is_in)
  told_in (service.Seek fd offset) h = (h.asks.stage, h.asks.of_file.is_in)
  told_in (service.SetSize fd size) h = (h.asks.stage, h.asks.of_file.is_in)
  told_in (service.Write fd va len) h = (h.asks.stage, h.asks.of_file.is_in)
  told_in (service.Read fd va len) h = (h.asks.stage, h.asks.of_file.is_in)
  told_in (service.Stat fd va) h = (h.asks.stage, h.asks.of_file.is_in)
  told_in _ h = absurd h

  -- with other words, while it may run

  pub in_moved : (status : Status) (words : List ℕ) (s : Service) (stage : Stage) → IsIn k b s stage →
      IsIn (record k { status = status; extra = words }) b s stage
  in_moved status words s stage h = record { program = h.program; phase = h.phase; silent = h.silent; awake = h.awake }

  abbrev pub asks_moved : (status : Status) (words : List ℕ) (s : Service) (fd : ℕ) → AsksOfFile v k b s fd →
      AsksOfFile v (record k { status = status; extra = words }) b s fd
  asks_moved status words s fd h = record {
    stage = h.stage;
    of_file = record { is_in = in_moved status words s h.stage h.of_file.is_in; below = h.of_file.below; file = h.of_file.file };
    allowed = h.allowed;
    has = h.has;
  }

  tells_moved : (status : Status) (words : List ℕ) (s : Service) (fd : ℕ) → TellsOfFile v k b s fd →
      TellsOfFile v (record k { status = status; extra = words }) b s fd
  tells_moved status words s fd h = record {
    asks = asks_moved status words s fd h.asks;
    number_told = h.number_told;
    count_told = h.count_told;
  }

  pub whole_moved : (status : Status) (words : List ℕ) (s : Service) → HasWholePath v k b s →
      HasWholePath v (record k { status = status; extra = words }) b s
  whole_moved status words s h = record {
    bytes = h.bytes;
    is_in = in_moved status words s (gathering h.bytes) h.is_in;
    few = h.few;
    small = h.small;
    ended = h.ended;
    kept = h.kept;
  }

  pub told_moved : (status : Status) (words : List ℕ) (s : Service) → TellsRequest v k b s →
      TellsRequest v (record k { status = status; extra = words }) b s
  told_moved status words (service.Remove path) h = whole_moved status words (service.Remove path) h
  told_moved status words (service.OpenFile path mode) h =
      record { whole = whole_moved status words (service.OpenFile path mode) h.whole; mode_told = h.mode_told }
  told_moved status words (service.Seek fd offset) h = tells_moved status words (service.Seek fd offset) fd h
  told_moved status words (service.SetSize fd size) h = tells_moved status words (service.SetSize fd size) fd h
  told_moved status words (service.Write fd va len) h = tells_moved status words (service.Write fd va len) fd h
  told_moved status words (service.Read fd va len) h = tells_moved status words (service.Read fd va len) fd h
  told_moved status words (service.Stat fd va) h = tells_moved status words (service.Stat fd va) fd h
  told_moved status words _ h = absurd h
