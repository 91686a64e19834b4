-- Where a job stands, as it is spelled in thirteen words: the register EDI, seven of the words that its environment keeps for the library, from
-- the second on, and the registers EAX, EBX, ECX, EDX and EBP. EDI has the numbers of the place and of the job, the next three are the job's, then
-- come the number of blocks and eight words of the place. The first of the words that are kept is 0, as it is of one who is in no service. (The form
-- is this system's own.)
use Rattle.std.specs.Prelude.{ℕ, ◌+◌, ◌-◌, ◌*◌, ◌/◌, ◌%◌, ◌==◌, ◌++◌, nat_lt, true, false, List, [], ◌∷◌, get_or, take, drop, if◌then◌else◌}
use Rattle.jos_base.specs.declared.registers.Regs.{Regs}
use Rattle.fs_jobs.specs.declared.place.Change.{Change}
use Rattle.fs_jobs.specs.declared.place.Change.TheVariants as change
use Rattle.fs_jobs.specs.declared.place.FilePlace.{FilePlace}
use Rattle.fs_jobs.specs.declared.place.FilePlace.TheVariants as file
use Rattle.fs_jobs.specs.declared.place.Job.{Job}
use Rattle.fs_jobs.specs.declared.place.Job.TheVariants as job
use Rattle.fs_jobs.specs.declared.place.Seek.{Seek}
use Rattle.fs_jobs.specs.declared.place.TreePlace.{TreePlace}
use Rattle.fs_jobs.specs.declared.place.TreePlace.TheVariants.{Changing, Walking}
use Rattle.fs_jobs.specs.declared.place.TreeState.{TreeState}
use Rattle.fs_jobs.specs.declared.place.WalkPlace.{WalkPlace}
use Rattle.fs_jobs.specs.declared.place.WalkPlace.TheVariants as walk
use Rattle.fs_jobs.specs.declared.place.Wanted.{Wanted}
use Rattle.fs_jobs.specs.declared.place.Wanted.TheVariants as wanted

-- ---- a number and its words

abbrev pub four_words : ℕ → ℕ → ℕ → ℕ → List ℕ
four_words n a b c = n ∷ a ∷ b ∷ c ∷ []

abbrev pub five_words : ℕ → ℕ → ℕ → ℕ → ℕ → List ℕ
five_words n a b c d = n ∷ a ∷ b ∷ c ∷ d ∷ []

abbrev pub seek_words : ℕ → Seek → ℕ → ℕ → ℕ → List ℕ
seek_words n seek a b c = n ∷ seek.from ∷ seek.directory ∷ seek.slots ∷ seek.slot ∷ seek.empty ∷ a ∷ b ∷ c ∷ []

abbrev pub two_words : ℕ → ℕ → ℕ → List ℕ
two_words n a b = n ∷ a ∷ b ∷ 0 ∷ 0 ∷ 0 ∷ 0 ∷ 0 ∷ 0 ∷ []

abbrev pub word : List ℕ → ℕ → ℕ
word words k = get_or words k 0

-- ---- jobs

unfoldable pub job_words : Job → List ℕ
job_words (job.Open mode) = four_words 0 mode 0 0
job_words job.Find = four_words 1 0 0 0
job_words (job.Remove home) = four_words 2 home 0 0
job_words (job.Read home at count) = four_words 3 home at count
job_words (job.Write home at count) = four_words 4 home at count
job_words (job.Create directory slot from) = four_words 5 directory slot from
job_words (job.SetSize home size) = four_words 6 home size 0
job_words (job.Stat home) = four_words 7 home 0 0
job_words (job.Size home) = four_words 7 home 1 0

unfoldable pub job_in : List ℕ → Job
job_in w =
    if word w 0 == 0 then job.Open (word w 1)
    else if word w 0 == 1 then job.Find
    else if word w 0 == 2 then job.Remove (word w 1)
    else if word w 0 == 3 then job.Read (word w 1) (word w 2) (word w 3)
    else if word w 0 == 4 then job.Write (word w 1) (word w 2) (word w 3)
    else if word w 0 == 5 then job.Create (word w 1) (word w 2) (word w 3)
    else if word w 0 == 6 then job.SetSize (word w 1) (word w 2)
    else if word w 2 == 1 then job.Size (word w 1)
    else job.Stat (word w 1)

-- ---- places on the way to a record

unfoldable pub walk_words : WalkPlace → List ℕ
walk_words (walk.Path at run) = two_words 0 at run
walk_words walk.Magic = two_words 1 0 0
walk_words walk.Count = two_words 2 0 0
walk_words walk.RootKind = two_words 3 0 0
walk_words (walk.Component from home) = two_words 4 from home
walk_words (walk.DirectoryKind from directory) = two_words 5 from directory
walk_words (walk.DirectorySize from directory) = two_words 6 from directory
walk_words (walk.Slot seek) = seek_words 7 seek 0 0 0
walk_words (walk.SlotIndirect seek indirect) = seek_words 8 seek indirect 0 0
walk_words (walk.NameByte seek block k) = seek_words 9 seek block k 0
walk_words (walk.PathByte seek block k byte) = seek_words 10 seek block k byte
walk_words (walk.Missing seek at true) = seek_words 11 seek at 0 0
walk_words (walk.Missing seek at false) = seek_words 12 seek at 0 0
walk_words (walk.FoundKind home) = two_words 13 home 0

abbrev pub seek_in : List ℕ → Seek
seek_in w = record { from = word w 1; directory = word w 2; slots = word w 3; slot = word w 4; empty = word w 5 }

unfoldable pub walk_in : List ℕ → WalkPlace
walk_in w =
    if word w 0 == 0 then walk.Path (word w 1) (word w 2)
    else if word w 0 == 1 then walk.Magic
    else if word w 0 == 2 then walk.Count
    else if word w 0 == 3 then walk.RootKind
    else if word w 0 == 4 then walk.Component (word w 1) (word w 2)
    else if word w 0 == 5 then walk.DirectoryKind (word w 1) (word w 2)
    else if word w 0 == 6 then walk.DirectorySize (word w 1) (word w 2)
    else if word w 0 == 7 then walk.Slot (seek_in w)
    else if word w 0 == 8 then walk.SlotIndirect (seek_in w) (word w 6)
    else if word w 0 == 9 then walk.NameByte (seek_in w) (word w 6) (word w 7)
    else if word w 0 == 10 then walk.PathByte (seek_in w) (word w 6) (word w 7) (word w 8)
    else if word w 0 == 11 then walk.Missing (seek_in w) (word w 6) true
    else if word w 0 == 12 then walk.Missing (seek_in w) (word w 6) false
    else walk.FoundKind (word w 1)

-- ---- places of a record whose blocks are read or change

unfoldable pub wanted_words : Wanted → List ℕ
wanted_words (wanted.Reading k) = 0 ∷ k ∷ 0 ∷ []
wanted_words (wanted.Writing k) = 1 ∷ k ∷ 0 ∷ []
wanted_words (wanted.Filling at) = 2 ∷ at ∷ 0 ∷ []
wanted_words wanted.Giving = 3 ∷ 0 ∷ 0 ∷ []
wanted_words (wanted.Making slot from) = 4 ∷ slot ∷ from ∷ []

unfoldable pub wanted_in : ℕ → ℕ → ℕ → Wanted
wanted_in n first second =
    if n == 0 then wanted.Reading first
    else if n == 1 then wanted.Writing first
    else if n == 2 then wanted.Filling first
    else if n == 3 then wanted.Giving
    else wanted.Making first second

unfoldable pub change_word : Change → ℕ
change_word change.TakeBlock = 0
change_word change.TakeIndirect = 1
change_word change.GiveBlock = 2
change_word change.GiveIndirect = 3

unfoldable pub change_in : ℕ → Change
change_in n =
    if n == 0 then change.TakeBlock else if n == 1 then change.TakeIndirect else if n == 2 then change.GiveBlock else change.GiveIndirect

abbrev pub number_words : ℕ → ℕ → List ℕ → List ℕ
number_words n i w = five_words n i (word w 0) (word w 1) (word w 2)

unfoldable pub file_words : FilePlace → List ℕ
file_words file.Kind = five_words 0 0 0 0 0
file_words file.Size = five_words 1 0 0 0 0
file_words file.Indirect = five_words 2 0 0 0 0
file_words (file.Free n free) = five_words 3 n free 0 0
file_words file.SizeNow = five_words 4 0 0 0 0
file_words file.IndirectNow = five_words 5 0 0 0 0
file_words (file.Number i wanted) = number_words 6 i (wanted_words wanted)
file_words (file.NumberIndirect i wanted) = number_words 7 i (wanted_words wanted)
file_words (file.Reading block k) = five_words 8 block k 0 0
file_words (file.Handing block k byte) = five_words 9 block k byte 0
file_words (file.Gathering block k) = five_words 10 block k 0 0
file_words (file.Writing block k byte) = five_words 11 block k byte 0
file_words (file.Filling block at) = five_words 12 block at 0 0
file_words (file.PutSize size) = five_words 13 size 0 0 0
file_words (file.Lowest change n) = five_words 14 (change_word change) n 0 0
file_words (file.Mark change block) = five_words 15 (change_word change) block 0 0
file_words (file.PutMark change block byte) = five_words 16 (change_word change) block byte 0
file_words (file.Zero change block n) = five_words 17 (change_word change) block n 0
file_words (file.PutLess block) = five_words 18 block 0 0 0
file_words (file.PutNumber change block) = five_words 19 (change_word change) block 0 0
file_words (file.PutIndirect change block) = five_words 20 (change_word change) block 0 0
file_words file.PutMore = five_words 21 0 0 0 0
file_words (file.MakeName new from k) = five_words 22 new from k 0
file_words (file.PutName new from k byte false) = five_words 23 new from k byte
file_words (file.PutName new from k byte true) = five_words 24 new from k byte
file_words (file.MakeWord new from n) = five_words 25 new from n 0
file_words (file.MakeFirst new from) = five_words 26 new from 0 0
file_words (file.PutFirst new byte) = five_words 27 new byte 0 0
file_words file.Empty = five_words 28 0 0 0 0
file_words (file.StatByte k false) = five_words 29 k 0 0 0
file_words (file.StatByte k true) = five_words 30 k 0 0 0
file_words (file.HandStat k byte false) = five_words 31 k byte 0 0
file_words (file.HandStat k byte true) = five_words 32 k byte 0 0

-- those below 18, and the others
unfoldable pub first_files_in : List ℕ → FilePlace
first_files_in w =
    if word w 0 == 0 then file.Kind
    else if word w 0 == 1 then file.Size
    else if word w 0 == 2 then file.Indirect
    else if word w 0 == 3 then file.Free (word w 1) (word w 2)
    else if word w 0 == 4 then file.SizeNow
    else if word w 0 == 5 then file.IndirectNow
    else if word w 0 == 6 then file.Number (word w 1) (wanted_in (word w 2) (word w 3) (word w 4))
    else if word w 0 == 7 then file.NumberIndirect (word w 1) (wanted_in (word w 2) (word w 3) (word w 4))
    else if word w 0 == 8 then file.Reading (word w 1) (word w 2)
    else if word w 0 == 9 then file.Handing (word w 1) (word w 2) (word w 3)
    else if word w 0 == 10 then file.Gathering (word w 1) (word w 2)
    else if word w 0 == 11 then file.Writing (word w 1) (word w 2) (word w 3)
    else if word w 0 == 12 then file.Filling (word w 1) (word w 2)
    else if word w 0 == 13 then file.PutSize (word w 1)
    else if word w 0 == 14 then file.Lowest (change_in (word w 1)) (word w 2)
    else if word w 0 == 15 then file.Mark (change_in (word w 1)) (word w 2)
    else if word w 0 == 16 then file.PutMark (change_in (word w 1)) (word w 2) (word w 3)
    else file.Zero (change_in (word w 1)) (word w 2) (word w 3)

unfoldable pub last_files_in : List ℕ → FilePlace
last_files_in w =
    if word w 0 == 18 then file.PutLess (word w 1)
    else if word w 0 == 19 then file.PutNumber (change_in (word w 1)) (word w 2)
    else if word w 0 == 20 then file.PutIndirect (change_in (word w 1)) (word w 2)
    else if word w 0 == 21 then file.PutMore
    else if word w 0 == 22 then file.MakeName (word w 1) (word w 2) (word w 3)
    else if word w 0 == 23 then file.PutName (word w 1) (word w 2) (word w 3) (word w 4) false
    else if word w 0 == 24 then file.PutName (word w 1) (word w 2) (word w 3) (word w 4) true
    else if word w 0 == 25 then file.MakeWord (word w 1) (word w 2) (word w 3)
    else if word w 0 == 26 then file.MakeFirst (word w 1) (word w 2)
    else if word w 0 == 27 then file.PutFirst (word w 1) (word w 2)
    else if word w 0 == 28 then file.Empty
    else if word w 0 == 29 then file.StatByte (word w 1) false
    else if word w 0 == 30 then file.StatByte (word w 1) true
    else if word w 0 == 31 then file.HandStat (word w 1) (word w 2) false
    else file.HandStat (word w 1) (word w 2) true

unfoldable pub file_in : List ℕ → FilePlace
file_in w = if nat_lt (word w 0) 18 then first_files_in w else last_files_in w

-- ---- a state

-- places of files have numbers from here on
abbrev pub files_from : ℕ
files_from = 32

unfoldable pub place_words : TreePlace → List ℕ
place_words (Walking place) = walk_words place
place_words (Changing changed place) =
    let w = file_words place in
    (files_from + word w 0) ∷ changed.home ∷ changed.size ∷ changed.indirect ∷ changed.end ∷ word w 1 ∷ word w 2 ∷ word w 3 ∷ word w 4 ∷ []

unfoldable pub place_in : List ℕ → TreePlace
place_in w =
    if nat_lt (word w 0) files_from then Walking (walk_in w)
    else Changing (record { home = word w 1; size = word w 2; indirect = word w 3; end = word w 4 })
    (file_in (five_words (word w 0 - files_from) (word w 5) (word w 6) (word w 7) (word w 8)))

-- behind the job's words and the place's number come these
abbrev pub joined : List ℕ → ℕ → List ℕ → List ℕ
joined j count p =
    (8 * word p 0 + word j 0) ∷ word j 1 ∷ word j 2 ∷ word j 3 ∷ count
    ∷ word p 1 ∷ word p 2 ∷ word p 3 ∷ word p 4 ∷ word p 5 ∷ word p 6 ∷ word p 7 ∷ word p 8 ∷ []

abbrev pub words_of : TreeState → List ℕ
words_of t = joined (job_words t.job) t.count (place_words t.place)

abbrev pub state_of : List ℕ → TreeState
state_of w = record {
  job = job_in (four_words (word w 0 % 8) (word w 1) (word w 2) (word w 3));
  count = word w 4;
  place = place_in
      ((word w 0 / 8) ∷ word w 5 ∷ word w 6 ∷ word w 7 ∷ word w 8 ∷ word w 9 ∷ word w 10 ∷ word w 11 ∷ word w 12 ∷ []);
}

-- ---- where its words stand

abbrev pub thirteen : Regs → List ℕ → List ℕ
thirteen regs w =
    regs.edi ∷ word w 1 ∷ word w 2 ∷ word w 3 ∷ word w 4 ∷ word w 5 ∷ word w 6 ∷ word w 7
    ∷ regs.eax ∷ regs.ebx ∷ regs.ecx ∷ regs.edx ∷ regs.ebp ∷ []

-- the state in which the job of an environment stands
unfoldable pub state_in : Regs → List ℕ → TreeState
state_in regs words = state_of (thirteen regs words)

-- the registers and the words with which it stands so; the last four words stay
unfoldable pub registers_with : Regs → TreeState → Regs
registers_with regs t = record regs {
  eax = word (words_of t) 8;
  ebx = word (words_of t) 9;
  ecx = word (words_of t) 10;
  edx = word (words_of t) 11;
  ebp = word (words_of t) 12;
  edi = word (words_of t) 0;
}

unfoldable pub words_with : List ℕ → TreeState → List ℕ
words_with words t = 0 ∷ take 7 (drop 1 (words_of t)) ++ drop 8 words
