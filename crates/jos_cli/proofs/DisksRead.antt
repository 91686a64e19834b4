-- A disk that was read, and what is told of it.
use Rattle.std.proofs.Common.{◌≡◌, ℕ, ◌+◌, ◌<◌, ◌≤◌, map, get_or, nat_lt, Bool, true, false, cond, List, [], ◌∷◌, ◌++◌, length, take, Option, Some, None, Result, Ok, Err}
use Rattle.std.proofs.Common.{refl, sym, ap, subst, ◌∙◌, append_assoc, arith}
use Rattle.std.proofs.lemmas.List.{append-nil, take_all}
use Rattle.std.proofs.lemmas.Bool.Decides.{nat_tests}
use Rattle.std.specs.Prelude.{◌==◌, IfErr, position}
use Rattle.std.specs.Result.{result_err}
use Rattle.std.specs.List.{before_first, position_or_len}
use Rattle.jos_base.specs.Words.{◌>>=◌}
use Rattle.jos_host.specs.Files.{Files}
use Rattle.jos_host.specs.Asked.{Asked}
use Rattle.jos_host.specs.Frames.{Unchanged, from_to, around}
use Rattle.jos_host.specs.declared.host.Host.{Ghosts}
use Rattle.jos_words.specs.Arguments.{Word}
use Rattle.jos_words.specs.Commands.{Ls, Cat, ls, cat}
use Rattle.fs_image.specs.DiskHeld.{HeldDisk, IsUnder, IsHeld, IsReadInPieces}
use Rattle.fs_contents.specs.Contents.{Told, told_of_entry}
use Rattle.fs_layout.specs.declared.records.FileEntry.{FileEntry}
use Rattle.jos_cli.proofs.WordsRead.{one_more}
use Rattle.jos_cli.specs.Found.{FileAt, file_at, IsFileAt}
use Rattle.jos_cli.specs.declared.outcome.Outcome.{Outcome}
use Rattle.jos_cli.specs.Answer.{Judged, absent, Expected}
use Rattle.jos_cli.specs.Disks.{held_at, checked, disk_of, path_of, record_line, listing}
use Rattle.jos_cli.specs.Disks.{expected_of_listing, expected_of_bytes, expected_of_ls, expected_of_cat}
use Rattle.jos_cli.specs.Kinds.{kind_of, Answers}
use Rattle.jos_cli.specs.Outcomes.{HasOutcomeCause}
use Rattle.jos_cli.specs.Outside.{Outside, outside}
use Rattle.jos_cli.specs.Effects.{DoesCommand, ReadsDisk, PrintsAnswer}
use Rattle.jos_cli.specs.Stages.{RefusesBy, IsUnreadOnDisk}
use Rattle.jos_cli.proofs.Judging.{refuses, goes_on}
use Rattle.jos_cli.proofs.Leaving.{unread_on_disk_no_usage}

-- ---- the disk

checks : (file : FileAt) (held : HeldDisk) → held_at file.word.place file.bytes ≡ Ok held → disk_of file ≡ checked held
unfolding disk_of
checks file held h = ap (λ (j : Judged HeldDisk). j >>= checked) h

pub disk_read : (told : Option Files) (word : Word) (file : Option (List ℕ)) (held : HeldDisk) → IsUnder told word.text file → IsHeld file held →
    (at : FileAt) × IsFileAt told word at × (disk_of at ≡ checked held)
disk_read told word None held under is = absurd is
disk_read None word (Some bytes) held under is =
    let at : FileAt = record { word = word; bytes = Some bytes } in (at, refl, checks at held (ap (λ h. Ok h) (sym is)))
disk_read (Some files) word (Some bytes) held under is =
    (file_at files word, refl, checks (file_at files word) held (ap (held_at word.place) (sym under) ∙ ap (λ h. Ok h) (sym is)))

lacks : (file : FileAt) (place : ℕ) → held_at file.word.place file.bytes ≡ Err (absent place) → disk_of file ≡ Err (absent place)
unfolding disk_of
lacks file place h = ap (λ (j : Judged HeldDisk). j >>= checked) h

pub disk_absent : (told : Option Files) (word : Word) (file : Option (List ℕ)) → IsUnder told word.text file → file ≡ None →
    (at : FileAt) × IsFileAt told word at × (disk_of at ≡ Err (absent word.place))
disk_absent None word file under none =
    let at : FileAt = record { word = word; bytes = None } in (at, refl, lacks at word.place refl)
disk_absent (Some files) word file under none =
    (file_at files word, refl, lacks (file_at files word) word.place (ap (held_at word.place) (sym under ∙ none)))

-- ---- a name

abbrev is_nul : ℕ → Bool
is_nul byte = byte == 0

-- a name that ends at its first NUL
pub name_up_to : (name : List ℕ) (end : ℕ) → Some end ≡ position is_nul name → take end name ≡ before_first is_nul name
name_up_to name end is = ap (λ n. take n name) (go (nat_lt (position_or_len is_nul name) (length name)) is)
  where
    go : (b : Bool) → Some end ≡ cond b (Some (position_or_len is_nul name)) None → end ≡ position_or_len is_nul name
    go true e = let e = e in cc
    go false e = absurd (let e = e in cc)

-- a name without a NUL
pub whole_name : (name : List ℕ) → None ≡ position is_nul name → name ≡ before_first is_nul name
whole_name name is = sym (take_all (position_or_len is_nul name) name (go (nat_lt (position_or_len is_nul name) (length name)) refl is))
  where
    go : (b : Bool) → nat_lt (position_or_len is_nul name) (length name) ≡ b → None ≡ cond b (Some (position_or_len is_nul name)) None →
        length name ≤ position_or_len is_nul name
    go true e none = absurd (let none = none in cc)
    go false e none = grind (arith, nat_tests, e)

-- ---- the listing

listing-append : (records more : List Told) → listing (records ++ more) ≡ listing records ++ listing more
unfolding listing
listing-append [] more = refl
listing-append (told ∷ records) more =
    ap (λ l. record_line told ++ l) (listing-append records more) ∙ sym (append_assoc (record_line told) (listing records) (listing more))

listing-one : (told : Told) → listing (told ∷ []) ≡ record_line told
unfolding listing
listing-one told = append-nil (record_line told)

listing_more : (records : List Told) (told : Told) → listing (records ++ told ∷ []) ≡ listing records ++ record_line told
listing_more records told = listing-append records (told ∷ []) ∙ ap (λ l. listing records ++ l) (listing-one told)

-- a record more
pub line_written : (entries : List FileEntry) (k : ℕ) (d : FileEntry) (old new : List ℕ) → k < length entries → old ≡ listing (map told_of_entry (take k entries)) →
    new ≡ old ++ record_line (told_of_entry (get_or entries k d)) → new ≡ listing (map told_of_entry (take (k + 1) entries))
line_written entries k d old new below before line =
    let record_told = told_of_entry (get_or entries k d) in
    line ∙ ap (λ l. l ++ record_line record_told) before
    ∙ sym (ap listing (one_more told_of_entry entries k d below) ∙ listing_more (map told_of_entry (take k entries)) record_told)

pub nothing_listed : [] ≡ listing []
unfolding listing
nothing_listed = refl

-- ---- what is seen from outside

-- the disk was read, and checked then
pub read_and_checked : {H X : Type 0} (host : Ghosts H) (name : List ℕ) (a b : H) (result : Result X Outcome) → Unchanged host.files host.input host.console host.notes a b →
    IsReadInPieces name (around host.asked a b) → host.faults b ≡ host.faults a → ((faults : ℕ) → IfErr result (HasOutcomeCause (from_to faults faults))) →
    IfErr result IsUnreadOnDisk → ReadsDisk name (result_err result) (outside host a b)
read_and_checked host name a b (Ok x) rest asked calm cause unread = record {
  unread = tt;
  files = rest.first;
  input = rest.second;
  console = rest.third;
  notes = rest.fourth;
  asked = asked;
  cause = calm;
}
read_and_checked host name a b (Err o) rest asked calm cause unread = record {
  unread = unread;
  files = rest.first;
  input = rest.second;
  console = rest.third;
  notes = rest.fourth;
  asked = asked;
  cause = subst (λ (n : ℕ). HasOutcomeCause (from_to n (host.faults b)) o) calm (cause (host.faults b));
}

-- the disk was read, and something was looked for on it then
pub read_and_looked : {H X : Type 0} (host : Ghosts H) (name : List ℕ) (a b : H) (result : Result X Outcome) → ReadsDisk name None (outside host a b) →
    ((faults : ℕ) → IfErr result (HasOutcomeCause (from_to faults faults))) → IfErr result IsUnreadOnDisk → ReadsDisk name (result_err result) (outside host a b)
read_and_looked host name a b (Ok x) h cause unread = h
read_and_looked host name a b (Err o) h cause unread = record {
  unread = unread;
  files = h.files;
  input = h.input;
  console = h.console;
  notes = h.notes;
  asked = h.asked;
  cause = subst (λ (n : ℕ). HasOutcomeCause (from_to n (host.faults b)) o) h.cause (cause (host.faults b));
}

-- the disk is not read
module _ (o : Outcome) (seen : Outside) (file : FileAt) where
  pub ls_unread : (l : Ls) → IsFileAt seen.files.before l.disk file → RefusesBy (disk_of file) (kind_of o) → ReadsDisk l.disk.text (Some o) seen → DoesCommand (Some (ls l)) o seen
  unfolding expected_of_ls
  ls_unread l is refusal h = record {
    answer = (file, is, refuses (disk_of file) (expected_of_listing (path_of l.path)) (kind_of o) seen.console refusal h.console);
    usage = unread_on_disk_no_usage o h.unread;
    files = h.files;
    disk = tt;
    input = h.input;
    notes = h.notes;
    asked = h.asked;
    cause = h.cause;
  }

  pub cat_unread : (c : Cat) → IsFileAt seen.files.before c.disk file → RefusesBy (disk_of file) (kind_of o) → ReadsDisk c.disk.text (Some o) seen → DoesCommand (Some (cat c)) o seen
  unfolding expected_of_cat
  cat_unread c is refusal h = record {
    answer = (file, is, refuses (disk_of file) (expected_of_bytes c.path.text) (kind_of o) seen.console refusal h.console);
    usage = unread_on_disk_no_usage o h.unread;
    files = h.files;
    disk = tt;
    input = h.input;
    notes = h.notes;
    asked = h.asked;
    cause = h.cause;
  }

-- something of it is printed
module _ {H : Type 0} (host : Ghosts H) (a b d : H) (o : Outcome) (file : FileAt) (held : HeldDisk) (judged : disk_of file ≡ Ok held) where
  printed_from : (e : Expected) → host.console b ≡ host.console a → Answers e o (around host.console b d) → Answers e o (around host.console a d)
  printed_from e same h = subst (λ (console : Option (List ℕ)). Answers e o (from_to console (host.console d))) same h

  asked_by : (name : List ℕ) → IsReadInPieces name (around host.asked a b) → host.asked d ≡ host.asked b → IsReadInPieces name (around host.asked a d)
  asked_by name h same = subst (λ (log : Option (List Asked)). IsReadInPieces name (from_to (host.asked a) log)) (sym same) h

  caused : host.faults b ≡ host.faults a → HasOutcomeCause (around host.faults b d) o → HasOutcomeCause (around host.faults a d) o
  caused same h = subst (λ (n : ℕ). HasOutcomeCause (from_to n (host.faults d)) o) same h

  pub ls_printed : (l : Ls) → IsFileAt (host.files a) l.disk file → ReadsDisk l.disk.text None (outside host a b) →
      PrintsAnswer (expected_of_listing (path_of l.path) held) o (outside host b d) → DoesCommand (Some (ls l)) o (outside host a d)
  unfolding expected_of_ls
  ls_printed l is read h = record {
    answer = (file, is, goes_on (disk_of file) (expected_of_listing (path_of l.path)) held (kind_of o) (around host.console a d) judged (printed_from (expected_of_listing (path_of l.path) held) read.console h.answer));
    usage = h.usage;
    files = h.files ∙ read.files;
    disk = tt;
    input = h.input ∙ read.input;
    notes = h.notes ∙ read.notes;
    asked = asked_by l.disk.text read.asked h.asked;
    cause = caused read.cause h.cause;
  }

  pub cat_printed : (c : Cat) → IsFileAt (host.files a) c.disk file → ReadsDisk c.disk.text None (outside host a b) →
      PrintsAnswer (expected_of_bytes c.path.text held) o (outside host b d) → DoesCommand (Some (cat c)) o (outside host a d)
  unfolding expected_of_cat
  cat_printed c is read h = record {
    answer = (file, is, goes_on (disk_of file) (expected_of_bytes c.path.text) held (kind_of o) (around host.console a d) judged (printed_from (expected_of_bytes c.path.text held) read.console h.answer));
    usage = h.usage;
    files = h.files ∙ read.files;
    disk = tt;
    input = h.input ∙ read.input;
    notes = h.notes ∙ read.notes;
    asked = asked_by c.disk.text read.asked h.asked;
    cause = caused read.cause h.cause;
  }
