-- What the test amounts to that spawn makes of the number of its strings and of their bytes: it holds exactly of words that a program may be given.
use Rattle.std.specs.Prelude.{◌≡◌, ℕ, List, length}
use Rattle.jos_elf.specs.StackPage.{fits_stack, strings_size}
use Rattle.lib_given.specs.StackWords.{fits_page}

abbrev pub PageFitsWords : Type 0
PageFitsWords = (words : List (List ℕ)) → fits_page (length words) (strings_size words) ≡ fits_stack words
