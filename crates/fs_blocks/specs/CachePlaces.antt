-- Where the cache stands, as it is spelled in the last four of the twelve words that its environment keeps for the library: the place's
-- number, the block, the hand, and how many blocks are left to look at. (The form is this system's own.)
use Rattle.std.specs.Prelude.{ℕ, ◌++◌, ◌%◌, ◌==◌, List, [], ◌∷◌, get_or, take, if◌then◌else◌}
use Rattle.lib_os.specs.declared.numbers.TheConstants.{CACHE_BLOCKS}
use Rattle.fs_blocks.specs.declared.place.CachePlace.{CachePlace}
use Rattle.fs_blocks.specs.declared.place.CachePlace.TheVariants as at
use Rattle.fs_blocks.specs.declared.place.CacheState.{CacheState}

-- by the place's number, the block and what is left
unfoldable pub place_in : ℕ → ℕ → ℕ → CachePlace
place_in n block left =
    if n == 0 then at.Resting
    else if n == 1 then at.Found block
    else if n == 2 then at.LookingRegion block
    else if n == 3 then at.LookingPage block
    else if n == 4 then at.Taking block
    else if n == 5 then at.Filling block
    else if n == 6 then at.Settling block
    else if n == 7 then at.HandRegion block left
    else if n == 8 then at.HandPage block left
    else if n == 9 then at.WritingBack block
    else if n == 10 then at.Passing block
    else if n == 11 then at.Moving block
    else if n == 12 then at.Leaving block
    else if n == 13 then at.Freeing block
    else if n == 14 then at.TakingLast block
    else if n == 15 then at.FlushRegion block
    else if n == 16 then at.FlushPage block
    else if n == 17 then at.FlushWriting block
    else at.FlushSettling block

-- where the cache stands
abbrev pub state_in : List ℕ → CacheState
state_in words = record {
  place = place_in (get_or words 8 0) (get_or words 9 0 % CACHE_BLOCKS) (get_or words 11 0);
  hand = get_or words 10 0 % CACHE_BLOCKS;
}

abbrev pub four_words : ℕ → ℕ → ℕ → ℕ → List ℕ
four_words n block hand left = n ∷ block ∷ hand ∷ left ∷ []

unfoldable pub place_words : CachePlace → ℕ → List ℕ
place_words at.Resting hand = four_words 0 0 hand 0
place_words (at.Found block) hand = four_words 1 block hand 0
place_words (at.LookingRegion block) hand = four_words 2 block hand 0
place_words (at.LookingPage block) hand = four_words 3 block hand 0
place_words (at.Taking block) hand = four_words 4 block hand 0
place_words (at.Filling block) hand = four_words 5 block hand 0
place_words (at.Settling block) hand = four_words 6 block hand 0
place_words (at.HandRegion block left) hand = four_words 7 block hand left
place_words (at.HandPage block left) hand = four_words 8 block hand left
place_words (at.WritingBack block) hand = four_words 9 block hand 0
place_words (at.Passing block) hand = four_words 10 block hand 0
place_words (at.Moving block) hand = four_words 11 block hand 0
place_words (at.Leaving block) hand = four_words 12 block hand 0
place_words (at.Freeing block) hand = four_words 13 block hand 0
place_words (at.TakingLast block) hand = four_words 14 block hand 0
place_words (at.FlushRegion block) hand = four_words 15 block hand 0
place_words (at.FlushPage block) hand = four_words 16 block hand 0
place_words (at.FlushWriting block) hand = four_words 17 block hand 0
place_words (at.FlushSettling block) hand = four_words 18 block hand 0

-- the words with which it stands so; the first eight stay
abbrev pub with_state : List ℕ → CacheState → List ℕ
with_state words state = take 8 words ++ place_words state.place state.hand

-- the number of the block that it is about
abbrev pub block_at : CachePlace → ℕ
block_at at.Resting = 0
block_at (at.Found block) = block
block_at (at.LookingRegion block) = block
block_at (at.LookingPage block) = block
block_at (at.Taking block) = block
block_at (at.Filling block) = block
block_at (at.Settling block) = block
block_at (at.HandRegion block left) = block
block_at (at.HandPage block left) = block
block_at (at.WritingBack block) = block
block_at (at.Passing block) = block
block_at (at.Moving block) = block
block_at (at.Leaving block) = block
block_at (at.Freeing block) = block
block_at (at.TakingLast block) = block
block_at (at.FlushRegion block) = block
block_at (at.FlushPage block) = block
block_at (at.FlushWriting block) = block
block_at (at.FlushSettling block) = block
