-- What a job asks of a record whose blocks are read or change, and where it goes by the reply.
-- (MIT 6.828, lab 5: fs/fs.c, file_block_walk, alloc_block, file_read, file_write and file_set_size. How an act becomes changes, and these puts, is
-- told in BlockActs.antt of fs_acts.)
use Rattle.std.specs.Prelude.{ℕ, ◌+◌, ◌-◌, ◌*◌, ◌/◌, ◌%◌, ◌^◌, ◌==◌, ◌&&◌, ◌||◌, nat_le, nat_lt, min, not, Bool, true, false}
use Rattle.std.specs.Prelude.{Option, Some, None, if◌then◌else◌}
use Rattle.std.specs.Int.{bit_at}
use Rattle.std.specs.List.{range_with_len}
use Rattle.std.specs.Prelude.{find}
use Rattle.jos_base.specs.declared.numbers.TheConstants.{E_INVAL, E_NO_DISK}
use Rattle.jos_base.specs.Counting.{total}
use Rattle.jos_base.specs.Environments.{bit_of}
use Rattle.fs_layout.specs.declared.numbers.TheConstants.{BLKFILES, BLKSIZE, FTYPE_DIR, FTYPE_REG, MAXFILESIZE, MAXNAMELEN, NDIRECT, NINDIRECT, RECORDSIZE}
use Rattle.fs_layout.specs.DiskImage.{first_data_block, is_data_block}
use Rattle.fs_layout.specs.FileActs.{is_slash}
use Rattle.fs_layout.specs.FileTree.{blocks_of, blocks_taken, needs_indirect}
use Rattle.fs_jobs.specs.declared.place.Change.{Change}
use Rattle.fs_jobs.specs.declared.place.Change.TheVariants as change
use Rattle.fs_jobs.specs.declared.place.Changed.{Changed}
use Rattle.fs_jobs.specs.declared.place.FilePlace.{FilePlace}
use Rattle.fs_jobs.specs.declared.place.FilePlace.TheVariants as file
use Rattle.fs_jobs.specs.declared.place.Job.{Job}
use Rattle.fs_jobs.specs.declared.place.Job.TheVariants as job
use Rattle.fs_jobs.specs.declared.place.TreeState.{TreeState}
use Rattle.fs_jobs.specs.declared.place.Wanted.{Wanted}
use Rattle.fs_jobs.specs.declared.place.Wanted.TheVariants as wanted
use Rattle.fs_jobs.specs.declared.asks.TreeAsk.{TreeAsk}
use Rattle.fs_jobs.specs.declared.asks.TreeAsk.TheVariants as ask
use Rattle.fs_jobs.specs.declared.asks.TreeNext.{TreeNext}
use Rattle.fs_jobs.specs.declared.asks.TreeNext.TheVariants.{Answer}
use Rattle.fs_jobs.specs.declared.tests.TheConstants.{DAMAGED}
use Rattle.fs_jobs.specs.TreeTests.{change_on, low_byte, refused}
use Rattle.fs_jobs.specs.RecordFields.{direct_at, indirect_at, kind_place, size_at}

-- ---- where things stand

-- the bytes of a write begin here in the request page
abbrev pub write_bytes : ℕ
write_bytes = 8

-- a record's name, size and kind are told by stat
abbrev pub stat_bytes : ℕ
stat_bytes = MAXNAMELEN + 8

-- the words of a record behind its name
abbrev pub record_words : ℕ
record_words = (RECORDSIZE - MAXNAMELEN) / 4

abbrev pub bitmap_word : ℕ → ℕ
bitmap_word word = 2 * BLKSIZE + 4 * word

abbrev pub mark_at : ℕ → ℕ
mark_at block = 2 * BLKSIZE + block / 8

-- a byte of a block, by its place in the file
abbrev pub byte_at_block : ℕ → ℕ → ℕ
byte_at_block block at = BLKSIZE * block + at % BLKSIZE

-- the number of one of the blocks
abbrev pub number_at : Changed → ℕ → ℕ
number_at changed i =
    if nat_lt i NDIRECT then direct_at changed.home i else BLKSIZE * changed.indirect + 4 * (i - NDIRECT)

-- from which byte on a job reads or writes
abbrev pub first_byte : Job → ℕ
first_byte (job.Read home at count) = at
first_byte (job.Write home at count) = at
first_byte _ = 0

abbrev pub bytes_read : Job → ℕ → ℕ
bytes_read (job.Read home at count) size = min (min count BLKSIZE) (size - at)
bytes_read _ size = 0

abbrev pub bytes_written : Job → ℕ
bytes_written (job.Write home at count) = count
bytes_written _ = 0

-- what is filled with zeros in the last block ends here
abbrev pub fill_end : Changed → ℕ
fill_end changed = min changed.end (BLKSIZE * blocks_of changed.size)

-- a block is taken, or given back
abbrev pub takes : Change → Bool
takes change.TakeBlock = true
takes change.TakeIndirect = true
takes change.GiveBlock = false
takes change.GiveIndirect = false

-- ---- what is asked

abbrev pub change_ask : Job → Changed → FilePlace → TreeAsk
change_ask j c file.Kind = ask.Load (kind_place c.home)
change_ask j c file.Size = ask.Load (size_at c.home)
change_ask j c file.Indirect = ask.Load (indirect_at c.home)
change_ask j c (file.Free word free) = ask.Load (bitmap_word word)
change_ask j c file.SizeNow = ask.Load (size_at c.home)
change_ask j c file.IndirectNow = ask.Load (indirect_at c.home)
change_ask j c (file.Number i wanted) = ask.Load (if nat_lt i NDIRECT then direct_at c.home i else indirect_at c.home)
change_ask j c (file.NumberIndirect i wanted) = ask.Load (number_at c i)
change_ask j c (file.Reading block k) = ask.LoadByte (byte_at_block block (first_byte j + k))
change_ask j c (file.Handing block k byte) = ask.HandBack k byte
change_ask j c (file.Gathering block k) = ask.Request (write_bytes + k)
change_ask j c (file.Writing block k byte) = ask.StoreByte (byte_at_block block (first_byte j + k)) byte
change_ask j c (file.Filling block at) = ask.StoreByte (byte_at_block block at) 0
change_ask j c (file.PutSize size) = ask.Store (size_at c.home) size
change_ask j c (file.Lowest change word) = ask.Load (bitmap_word word)
change_ask j c (file.Mark change block) = ask.LoadByte (mark_at block)
change_ask j c (file.PutMark change block byte) = ask.StoreByte (mark_at block) byte
change_ask j c (file.Zero change block word) = ask.Store (BLKSIZE * block + 4 * word) 0
change_ask j c (file.PutLess block) = ask.Store (size_at c.home) (BLKSIZE * (blocks_of c.size - 1))
change_ask j c (file.PutNumber change block) =
    if takes change then ask.Store (number_at c (blocks_of c.size)) block else ask.Store (number_at c (blocks_of c.size - 1)) 0
change_ask j c (file.PutIndirect change block) = ask.Store (indirect_at c.home) (if takes change then block else 0)
change_ask j c file.PutMore = ask.Store (size_at c.home) (min c.end (BLKSIZE * (blocks_of c.size + 1)))
change_ask j c (file.MakeName new from k) = ask.Request (from + k)
change_ask j c (file.PutName new from k byte ended) = ask.StoreByte (new + k) byte
change_ask j c (file.MakeWord new from word) = ask.Store (new + MAXNAMELEN + 4 * word) 0
change_ask j c (file.MakeFirst new from) = ask.Request from
change_ask j c (file.PutFirst new byte) = ask.StoreByte new byte
change_ask j c file.Empty = ask.StoreByte c.home 0
change_ask j c (file.StatByte k ended) = ask.LoadByte (c.home + k)
change_ask j c (file.HandStat k byte ended) = ask.HandBack k byte

-- ---- where it goes

abbrev pub go_on : TreeState → Changed → FilePlace → TreeNext
go_on state changed place = change_on state state.job changed place

-- the record has the size that it is to have
abbrev pub settled : TreeState → Job → Changed → TreeNext
settled state (job.Remove home) changed = go_on state changed file.Empty
settled state (job.Write home at count) changed = go_on state changed (file.Number (at / BLKSIZE) (wanted.Writing 0))
settled state (job.Create directory slot from) changed = go_on state changed (file.Number (slot / BLKFILES) (wanted.Making slot from))
settled state _ changed = Answer 0

-- it is to have another, which is not decided yet
abbrev pub sized_to : TreeState → Changed → ℕ → TreeNext
sized_to state changed end =
    if nat_lt MAXFILESIZE end then refused E_NO_DISK else go_on state (record changed { end = end }) file.Indirect

-- the size is known, before anything is decided
abbrev pub sized : TreeState → Job → Changed → TreeNext
sized state (job.Stat home) changed = go_on state changed (file.StatByte 0 false)
sized state (job.Size home) changed = Answer changed.size
sized state (job.Read home at count) changed =
    if bytes_read state.job changed.size == 0 then Answer 0 else go_on state changed (file.Number (at / BLKSIZE) (wanted.Reading 0))
sized state (job.Write home at count) changed =
    let end = min (at + count) (2 ^ 32 - 1) in
    if count == 0 then Answer 0
    else if nat_lt MAXFILESIZE end then refused E_NO_DISK
    else if nat_le end changed.size then settled state state.job changed
    else go_on state (record changed { end = end }) file.Indirect
sized state (job.SetSize home size) changed = sized_to state changed size
sized state (job.Remove home) changed = go_on state (record changed { end = 0 }) file.SizeNow
sized state _ changed = refused E_INVAL

-- an indirect block goes where it is not needed
abbrev pub gives_back : Job → Bool
gives_back (job.SetSize home size) = true
gives_back (job.Remove home) = true
gives_back _ = false

abbrev pub has_one : Changed → Bool
has_one changed = not (changed.indirect == 0)

abbrev pub keeps_one : Job → Changed → Bool
keeps_one j changed = (not (gives_back j) && has_one changed) || needs_indirect changed.end

-- how many blocks more the record comes to hold
abbrev pub more_blocks : Job → Changed → ℕ
more_blocks j changed = blocks_taken changed.end (keeps_one j changed) - blocks_taken changed.size (has_one changed)

-- the bits of a word of the bitmap that tell of free blocks below the count, and of data blocks
abbrev pub is_free_bit : ℕ → ℕ → ℕ → ℕ → Bool
is_free_bit count word bits k = (bit_at bits k == 1) && nat_lt (32 * word + k) count

unfoldable pub free_in_word : ℕ → ℕ → ℕ → ℕ
free_in_word count word bits = total 32 (λ k. bit_of (is_free_bit count word bits k))

unfoldable pub lowest_in_word : ℕ → ℕ → ℕ → Option ℕ
lowest_in_word count word bits =
    find (λ k. is_free_bit count word bits k && nat_le (first_data_block count) (32 * word + k)) (range_with_len 0 32)

-- the next change towards the size that it is to have
abbrev pub next_change : TreeState → Changed → TreeNext
next_change state c =
    let has = blocks_of c.size in
    let gives = gives_back state.job in
    if gives && nat_lt (blocks_of c.end) has then go_on state c (file.Number (has - 1) wanted.Giving)
    else if gives && not (needs_indirect c.end) && has_one c then go_on state c (file.PutIndirect change.GiveIndirect c.indirect)
    else if gives && nat_lt c.end c.size then go_on state c (file.PutSize c.end)
    else if nat_lt c.size (fill_end c) then go_on state c (file.Number (c.size / BLKSIZE) (wanted.Filling c.size))
    else if nat_lt has (blocks_of c.end) then
    go_on state c (file.Lowest (if nat_le NDIRECT has && not (has_one c) then change.TakeIndirect else change.TakeBlock) 0)
    else settled state state.job c

abbrev pub place_for : ℕ → Wanted → FilePlace
place_for block (wanted.Reading k) = file.Reading block k
place_for block (wanted.Writing k) = file.Gathering block k
place_for block (wanted.Filling at) = file.Filling block at
place_for block wanted.Giving = file.PutLess block
place_for block (wanted.Making slot from) = file.MakeName (BLKSIZE * block + RECORDSIZE * (slot % BLKFILES)) from 1

-- the number of a block was read
abbrev pub at_number : TreeState → Changed → Wanted → ℕ → TreeNext
at_number state changed wanted block =
    if is_data_block state.count block then go_on state changed (place_for block wanted) else refused DAMAGED

-- the byte behind one that was read or written, in its block or in the next
abbrev pub next_byte : TreeState → Changed → ℕ → FilePlace → Wanted → TreeNext
next_byte state changed k same wanted =
    let at = first_byte state.job + k in
    if at % BLKSIZE == 0 then go_on state changed (file.Number (at / BLKSIZE) wanted) else go_on state changed same

abbrev pub found_free : TreeState → Changed → Change → ℕ → Option ℕ → TreeNext
found_free state changed change word (Some k) = go_on state changed (file.Mark change (32 * word + k))
found_free state changed change word None =
    if nat_lt (32 * (word + 1)) state.count then go_on state changed (file.Lowest change (word + 1)) else settled state state.job changed

-- what a byte of the bitmap becomes
abbrev pub marked_byte : Change → ℕ → ℕ → ℕ
marked_byte change block byte =
    let bit = 2 ^ (block % 8) in
    let is_set = bit_at byte (block % 8) == 1 in
    if takes change then (if is_set then byte - bit else byte) else if is_set then byte else byte + bit

abbrev pub behind_zeros : Change → ℕ → FilePlace
behind_zeros change.TakeIndirect block = file.PutIndirect change.TakeIndirect block
behind_zeros change block = file.PutNumber change block

abbrev pub name_ends : ℕ → Bool
name_ends byte = (byte == 0) || is_slash byte

abbrev pub change_next : TreeState → Changed → FilePlace → ℕ → TreeNext
change_next state c file.Kind word =
    if word == FTYPE_DIR then refused E_INVAL else if word == FTYPE_REG then go_on state c file.Size else refused DAMAGED
change_next state c file.Size word =
    if nat_lt MAXFILESIZE word then refused DAMAGED else sized state state.job (record c { size = word })
change_next state c file.Indirect word =
    if not (word == 0) && not (is_data_block state.count word) then refused DAMAGED
    else
    let now = record c { indirect = word } in
    if more_blocks state.job now == 0 then go_on state now file.SizeNow else go_on state now (file.Free 0 0)
change_next state c (file.Free n free) word =
    let more = free + free_in_word state.count n word in
    if nat_lt (32 * (n + 1)) state.count then go_on state c (file.Free (n + 1) more)
    else if nat_le (more_blocks state.job c) more then go_on state c file.SizeNow
    else refused E_NO_DISK
change_next state c file.SizeNow word =
    if nat_lt MAXFILESIZE word then refused DAMAGED else go_on state (record c { size = word }) file.IndirectNow
change_next state c file.IndirectNow word =
    if not (word == 0) && not (is_data_block state.count word) then refused DAMAGED else next_change state (record c { indirect = word })
change_next state c (file.Number i wanted) word =
    if nat_lt i NDIRECT then at_number state c wanted word
    else if is_data_block state.count word then go_on state (record c { indirect = word }) (file.NumberIndirect i wanted)
    else refused DAMAGED
change_next state c (file.NumberIndirect i wanted) word = at_number state c wanted word
change_next state c (file.Reading block k) word = go_on state c (file.Handing block k (low_byte word))
change_next state c (file.Handing block k byte) word =
    if nat_le (bytes_read state.job c.size) (k + 1) then Answer (bytes_read state.job c.size)
    else next_byte state c (k + 1) (file.Reading block (k + 1)) (wanted.Reading (k + 1))
change_next state c (file.Gathering block k) word = go_on state c (file.Writing block k (low_byte word))
change_next state c (file.Writing block k byte) word =
    if nat_le (bytes_written state.job) (k + 1) then Answer (bytes_written state.job)
    else next_byte state c (k + 1) (file.Gathering block (k + 1)) (wanted.Writing (k + 1))
change_next state c (file.Filling block at) word =
    if nat_le (fill_end c) (at + 1) then go_on state c (file.PutSize (fill_end c)) else go_on state c (file.Filling block (at + 1))
change_next state c (file.PutSize size) word = go_on state c file.SizeNow
change_next state c (file.Lowest change n) word = found_free state c change n (lowest_in_word state.count n word)
change_next state c (file.Mark change block) word = go_on state c (file.PutMark change block (marked_byte change block (low_byte word)))
change_next state c (file.PutMark change block byte) word =
    if takes change then go_on state c (file.Zero change block 0) else go_on state c file.SizeNow
change_next state c (file.Zero change block n) word =
    if nat_lt (n + 1) NINDIRECT then go_on state c (file.Zero change block (n + 1)) else go_on state c (behind_zeros change block)
change_next state c (file.PutLess block) word = go_on state c (file.PutNumber change.GiveBlock block)
change_next state c (file.PutNumber change block) word =
    if takes change then go_on state c file.PutMore else go_on state c (file.Mark change block)
change_next state c (file.PutIndirect change block) word =
    if takes change then go_on state c file.SizeNow else go_on state c (file.Mark change block)
change_next state c file.PutMore word = go_on state c file.SizeNow
change_next state c (file.MakeName new from k) word =
    go_on state c (file.PutName new from k (if name_ends (low_byte word) then 0 else low_byte word) (name_ends (low_byte word)))
change_next state c (file.PutName new from k byte ended) word =
    if nat_le MAXNAMELEN (k + 1) then go_on state c (file.MakeWord new from 0)
    else if ended then go_on state c (file.PutName new from (k + 1) 0 true)
    else go_on state c (file.MakeName new from (k + 1))
change_next state c (file.MakeWord new from n) word =
    if nat_lt (n + 1) record_words then go_on state c (file.MakeWord new from (n + 1)) else go_on state c (file.MakeFirst new from)
change_next state c (file.MakeFirst new from) word = go_on state c (file.PutFirst new (low_byte word))
change_next state c (file.PutFirst new byte) word = Answer 0
change_next state c file.Empty word = Answer 0
change_next state c (file.StatByte k ended) word =
    let over = ended || (low_byte word == 0) in
    go_on state c (file.HandStat k (if over && nat_lt k MAXNAMELEN then 0 else low_byte word) over)
change_next state c (file.HandStat k byte ended) word =
    if nat_le stat_bytes (k + 1) then Answer 0 else go_on state c (file.StatByte (k + 1) ended)
