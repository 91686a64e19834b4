-- The words of a state tell it, and the last four of an environment's words stay.
use Rattle.std.proofs.Common.{◌≡◌, ◌∙◌, ◌<◌, ◌+◌, ◌-◌, ◌*◌, ◌/◌, ◌%◌, ℕ, nat_lt, zero, suc, true, false, List, [], ◌∷◌, length, take, drop}
use Rattle.std.proofs.Common.{refl, sym, ap, arith, if◌then◌else◌}
use Rattle.std.proofs.lemmas.Bool.{le-ltb}
use Rattle.jos_base.specs.declared.registers.Regs.{Regs}
use Rattle.fs_jobs.specs.declared.place.Change.{Change}
use Rattle.fs_jobs.specs.declared.place.Change.TheVariants as change
use Rattle.fs_jobs.specs.declared.place.FilePlace.{FilePlace}
use Rattle.fs_jobs.specs.declared.place.FilePlace.TheVariants as file
use Rattle.fs_jobs.specs.declared.place.Job.{Job}
use Rattle.fs_jobs.specs.declared.place.Job.TheVariants as job
use Rattle.fs_jobs.specs.declared.place.TreePlace.{TreePlace}
use Rattle.fs_jobs.specs.declared.place.TreePlace.TheVariants.{Changing, Walking}
use Rattle.fs_jobs.specs.declared.place.TreeState.{TreeState}
use Rattle.fs_jobs.specs.declared.place.WalkPlace.{WalkPlace}
use Rattle.fs_jobs.specs.declared.place.WalkPlace.TheVariants as walk
use Rattle.fs_jobs.specs.declared.place.Wanted.{Wanted}
use Rattle.fs_jobs.specs.declared.place.Wanted.TheVariants as wanted
use Rattle.fs_places.specs.TreePlaces.{change_in, change_word, file_in, file_words, files_from, first_files_in, five_words, four_words, job_in, job_words}
use Rattle.fs_places.specs.TreePlaces.{last_files_in, place_in, place_words, registers_with, state_in, state_of, walk_in, walk_words}
use Rattle.fs_places.specs.TreePlaces.{wanted_in, wanted_words, word, words_of, words_with}

-- ---- jobs

job_back : (j : Job) → job_in (four_words (word (job_words j) 0) (word (job_words j) 1) (word (job_words j) 2) (word (job_words j) 3)) ≡ j
unfolding job_words job_in
job_back (job.Open mode) = refl
job_back job.Find = refl
job_back (job.Remove home) = refl
job_back (job.Read home at count) = refl
job_back (job.Write home at count) = refl
job_back (job.Create directory slot from) = refl
job_back (job.SetSize home size) = refl
job_back (job.Stat home) = refl
job_back (job.Size home) = refl

job_small : (j : Job) → word (job_words j) 0 < 8
unfolding job_words
job_small (job.Open mode) = omega arith
job_small job.Find = omega arith
job_small (job.Remove home) = omega arith
job_small (job.Read home at count) = omega arith
job_small (job.Write home at count) = omega arith
job_small (job.Create directory slot from) = omega arith
job_small (job.SetSize home size) = omega arith
job_small (job.Stat home) = omega arith
job_small (job.Size home) = omega arith

-- ---- places

change_back : (c : Change) → change_in (change_word c) ≡ c
unfolding change_in change_word
change_back change.TakeBlock = refl
change_back change.TakeIndirect = refl
change_back change.GiveBlock = refl
change_back change.GiveIndirect = refl

wanted_back : (w : Wanted) → wanted_in (word (wanted_words w) 0) (word (wanted_words w) 1) (word (wanted_words w) 2) ≡ w
unfolding wanted_in wanted_words
wanted_back (wanted.Reading k) = refl
wanted_back (wanted.Writing k) = refl
wanted_back (wanted.Filling at) = refl
wanted_back wanted.Giving = refl
wanted_back (wanted.Making slot from) = refl

-- nine words, read one by one
abbrev nine : List ℕ → List ℕ
nine w = word w 0 ∷ word w 1 ∷ word w 2 ∷ word w 3 ∷ word w 4 ∷ word w 5 ∷ word w 6 ∷ word w 7 ∷ word w 8 ∷ []

walk_back : (p : WalkPlace) → place_in (nine (walk_words p)) ≡ Walking p
unfolding place_in walk_in walk_words
walk_back (walk.Path at run) = refl
walk_back walk.Magic = refl
walk_back walk.Count = refl
walk_back walk.RootKind = refl
walk_back (walk.Component from home) = refl
walk_back (walk.DirectoryKind from directory) = refl
walk_back (walk.DirectorySize from directory) = refl
walk_back (walk.Slot seek) = refl
walk_back (walk.SlotIndirect seek indirect) = refl
walk_back (walk.NameByte seek block k) = refl
walk_back (walk.PathByte seek block k byte) = refl
walk_back (walk.Missing seek at true) = refl
walk_back (walk.Missing seek at false) = refl
walk_back (walk.FoundKind home) = refl

-- five words, read one by one
abbrev five : List ℕ → List ℕ
five w = five_words (word w 0) (word w 1) (word w 2) (word w 3) (word w 4)

file_back : (p : FilePlace) → file_in (five (file_words p)) ≡ p
unfolding file_in first_files_in last_files_in file_words
file_back file.Kind = refl
file_back file.Size = refl
file_back file.Indirect = refl
file_back (file.Free n free) = refl
file_back file.SizeNow = refl
file_back file.IndirectNow = refl
file_back (file.Number i w) = ap (λ (v : Wanted). file.Number i v) (wanted_back w)
file_back (file.NumberIndirect i w) = ap (λ (v : Wanted). file.NumberIndirect i v) (wanted_back w)
file_back (file.Reading block k) = refl
file_back (file.Handing block k byte) = refl
file_back (file.Gathering block k) = refl
file_back (file.Writing block k byte) = refl
file_back (file.Filling block at) = refl
file_back (file.PutSize size) = refl
file_back (file.Lowest c n) = ap (λ (v : Change). file.Lowest v n) (change_back c)
file_back (file.Mark c block) = ap (λ (v : Change). file.Mark v block) (change_back c)
file_back (file.PutMark c block byte) = ap (λ (v : Change). file.PutMark v block byte) (change_back c)
file_back (file.Zero c block n) = ap (λ (v : Change). file.Zero v block n) (change_back c)
file_back (file.PutLess block) = refl
file_back (file.PutNumber c block) = ap (λ (v : Change). file.PutNumber v block) (change_back c)
file_back (file.PutIndirect c block) = ap (λ (v : Change). file.PutIndirect v block) (change_back c)
file_back file.PutMore = refl
file_back (file.MakeName new from k) = refl
file_back (file.PutName new from k byte false) = refl
file_back (file.PutName new from k byte true) = refl
file_back (file.MakeWord new from n) = refl
file_back (file.MakeFirst new from) = refl
file_back (file.PutFirst new byte) = refl
file_back file.Empty = refl
file_back (file.StatByte k false) = refl
file_back (file.StatByte k true) = refl
file_back (file.HandStat k byte false) = refl
file_back (file.HandStat k byte true) = refl

-- a number of a place of files is not one of a place of the way
past_walks : (n : ℕ) → nat_lt (files_from + n) files_from ≡ false
past_walks n = le-ltb (files_from + n) files_from (omega arith)

less_files : (n : ℕ) → files_from + n - files_from ≡ n
less_files n = omega arith

place_back : (p : TreePlace) → place_in (nine (place_words p)) ≡ p
unfolding place_in place_words
place_back (Walking p) = walk_back p
place_back (Changing c p) =
    let w = file_words p in
    (λ i. if past_walks (word w 0) i then Walking (walk_in (nine (place_words (Changing c p))))
    else Changing c (file_in (five_words (less_files (word w 0) i) (word w 1) (word w 2) (word w 3) (word w 4))))
    ∙ ap (λ (v : FilePlace). Changing c v) (file_back p)

-- ---- states

number_of_job : (p j : ℕ) → j < 8 → (8 * p + j) % 8 ≡ j
number_of_job p j small = omega (arith, small)

number_of_place : (p j : ℕ) → j < 8 → (8 * p + j) / 8 ≡ p
number_of_place p j small = omega (arith, small)

state_back : (t : TreeState) → state_of (words_of t) ≡ t
state_back t =
    let j = job_words t.job in
    let p = place_words t.place in
    let is_job = number_of_job (word p 0) (word j 0) (job_small t.job) in
    let is_place = number_of_place (word p 0) (word j 0) (job_small t.job) in
    (λ i. record {
      job = job_in (four_words (is_job i) (word j 1) (word j 2) (word j 3));
      count = t.count;
      place = place_in
          (is_place i ∷ word p 1 ∷ word p 2 ∷ word p 3 ∷ word p 4 ∷ word p 5 ∷ word p 6 ∷ word p 7 ∷ word p 8 ∷ []);
    })
    ∙ (λ i. record { job = job_back t.job i; count = t.count; place = place_back t.place i })

-- The state that was put there is found there.
pub state_told : (regs : Regs) (words : List ℕ) (t : TreeState) → state_in (registers_with regs t) (words_with words t) ≡ t
unfolding state_in registers_with words_with
state_told regs words t = state_back t

-- the last four words stay
pub last_four : (words : List ℕ) (t : TreeState) → drop 8 (words_with words t) ≡ drop 8 words
unfolding words_with
last_four words t = refl

drop_adds : (words : List ℕ) → length words ≡ 12 → 8 + length (drop 8 words) ≡ 12
drop_adds [] twelve = absurd (omega arith)
drop_adds (_ ∷ []) twelve = absurd (omega arith)
drop_adds (_ ∷ _ ∷ []) twelve = absurd (omega arith)
drop_adds (_ ∷ _ ∷ _ ∷ []) twelve = absurd (omega arith)
drop_adds (_ ∷ _ ∷ _ ∷ _ ∷ []) twelve = absurd (omega arith)
drop_adds (_ ∷ _ ∷ _ ∷ _ ∷ _ ∷ []) twelve = absurd (omega arith)
drop_adds (_ ∷ _ ∷ _ ∷ _ ∷ _ ∷ _ ∷ []) twelve = absurd (omega arith)
drop_adds (_ ∷ _ ∷ _ ∷ _ ∷ _ ∷ _ ∷ _ ∷ []) twelve = absurd (omega arith)
drop_adds (_ ∷ _ ∷ _ ∷ _ ∷ _ ∷ _ ∷ _ ∷ _ ∷ rest) twelve = omega (arith, twelve)

pub length_with : (words : List ℕ) (t : TreeState) → length words ≡ 12 → length (words_with words t) ≡ 12
unfolding words_with
length_with words t twelve = let adds : 8 + length (drop 8 words) ≡ 12 = drop_adds words twelve in omega (arith, adds)

-- the last four of twelve, read one by one
four_left : (words : List ℕ) → length words ≡ 12 → drop 8 words ≡ four_words (word words 8) (word words 9) (word words 10) (word words 11)
four_left [] twelve = absurd (omega arith)
four_left (_ ∷ []) twelve = absurd (omega arith)
four_left (_ ∷ _ ∷ []) twelve = absurd (omega arith)
four_left (_ ∷ _ ∷ _ ∷ []) twelve = absurd (omega arith)
four_left (_ ∷ _ ∷ _ ∷ _ ∷ []) twelve = absurd (omega arith)
four_left (_ ∷ _ ∷ _ ∷ _ ∷ _ ∷ []) twelve = absurd (omega arith)
four_left (_ ∷ _ ∷ _ ∷ _ ∷ _ ∷ _ ∷ []) twelve = absurd (omega arith)
four_left (_ ∷ _ ∷ _ ∷ _ ∷ _ ∷ _ ∷ _ ∷ []) twelve = absurd (omega arith)
four_left (_ ∷ _ ∷ _ ∷ _ ∷ _ ∷ _ ∷ _ ∷ _ ∷ []) twelve = absurd (omega arith)
four_left (_ ∷ _ ∷ _ ∷ _ ∷ _ ∷ _ ∷ _ ∷ _ ∷ _ ∷ []) twelve = absurd (omega arith)
four_left (_ ∷ _ ∷ _ ∷ _ ∷ _ ∷ _ ∷ _ ∷ _ ∷ _ ∷ _ ∷ []) twelve = absurd (omega arith)
four_left (_ ∷ _ ∷ _ ∷ _ ∷ _ ∷ _ ∷ _ ∷ _ ∷ _ ∷ _ ∷ _ ∷ []) twelve = absurd (omega arith)
four_left (_ ∷ _ ∷ _ ∷ _ ∷ _ ∷ _ ∷ _ ∷ _ ∷ _ ∷ _ ∷ _ ∷ _ ∷ []) twelve = refl
four_left (_ ∷ _ ∷ _ ∷ _ ∷ _ ∷ _ ∷ _ ∷ _ ∷ _ ∷ _ ∷ _ ∷ _ ∷ _ ∷ _) twelve = absurd (omega arith)

-- the words as the code puts them
pub words_put : (words j p : List ℕ) (t : TreeState) → length words ≡ 12 → j ≡ job_words t.job → p ≡ place_words t.place →
    0 ∷ word j 1 ∷ word j 2 ∷ word j 3 ∷ t.count ∷ word p 1 ∷ word p 2 ∷ word p 3
    ∷ four_words (word words 8) (word words 9) (word words 10) (word words 11) ≡ words_with words t
unfolding words_with
words_put words j p t twelve is_job is_place =
    (λ i. 0 ∷ word (is_job i) 1 ∷ word (is_job i) 2 ∷ word (is_job i) 3 ∷ t.count
    ∷ word (is_place i) 1 ∷ word (is_place i) 2 ∷ word (is_place i) 3 ∷ sym (four_left words twelve) i)

-- ---- what is read

-- The state lies in these six registers and the first eight words.
pub record AreAlike (regs others : Regs) (words more : List ℕ) : Type 0 where
  pub first : take 8 words ≡ take 8 more
  pub eax : regs.eax ≡ others.eax
  pub ebx : regs.ebx ≡ others.ebx
  pub ecx : regs.ecx ≡ others.ecx
  pub edx : regs.edx ≡ others.edx
  pub ebp : regs.ebp ≡ others.ebp
  pub edi : regs.edi ≡ others.edi

-- a word below the eighth is the same of the first eight
word_taken : (words : List ℕ) (n k : ℕ) → k < n → word (take n words) k ≡ word words k
word_taken [] zero k below = refl
word_taken [] (suc n) k below = refl
word_taken (x ∷ rest) zero k below = absurd (omega (arith, below))
word_taken (x ∷ rest) (suc n) zero below = refl
word_taken (x ∷ rest) (suc n) (suc k) below = word_taken rest n k (omega (arith, below))

word_alike : (words more : List ℕ) → take 8 words ≡ take 8 more → (k : ℕ) → k < 8 → word words k ≡ word more k
word_alike words more same k below =
    sym (word_taken words 8 k below) ∙ ap (λ (w : List ℕ). word w k) same ∙ word_taken more 8 k below

pub state_alike : (regs others : Regs) (words more : List ℕ) → AreAlike regs others words more → state_in regs words ≡ state_in others more
unfolding state_in
state_alike regs others words more alike =
    let same = word_alike words more alike.first in
    (λ i. state_of
    (alike.edi i ∷ same 1 (omega arith) i ∷ same 2 (omega arith) i ∷ same 3 (omega arith) i ∷ same 4 (omega arith) i
    ∷ same 5 (omega arith) i ∷ same 6 (omega arith) i ∷ same 7 (omega arith) i
    ∷ alike.eax i ∷ alike.ebx i ∷ alike.ecx i ∷ alike.edx i ∷ alike.ebp i ∷ []))
