-- How often a frame is named. It is counted, and never computed.
-- (MIT 6.828, kern/pmap.c: the pp_ref of struct PageInfo.)
use Rattle.std.specs.Prelude.{ℕ, ◌+◌, ◌==◌, zero, suc, Option, Some, None, if◌then◌else◌}
use Rattle.jos_base.specs.declared.numbers.TheConstants.{FRAMES_MAX}
use Rattle.jos_base.specs.Reach.{Entry}

-- from a directory's frame and a page's number
abbrev pub Entries : Type 0
Entries = ℕ → ℕ → Option Entry

-- the sum of the numbers at the places below n
unfoldable pub total : ℕ → (ℕ → ℕ) → ℕ
total zero g = 0
total (suc n) g = total n g + g n

abbrev pub named : ℕ → Option Entry → ℕ
named frame None = 0
named frame (Some entry) = if entry.frame == frame then 1 else 0

-- directories stand in frames below this number
unfoldable pub frame_limit : ℕ
frame_limit = FRAMES_MAX

-- pages below UTOP have numbers below this one
unfoldable pub page_limit : ℕ
page_limit = 0xeec00

-- how many page entries name the frame
unfoldable pub page_count : Entries → ℕ → ℕ
page_count entries frame = total frame_limit (λ d. total page_limit (λ p. named frame (entries d p)))
