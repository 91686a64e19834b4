-- The test of spawn on the number of its strings and of their bytes is that of the words.
use Rattle.std.proofs.Common.{refl}
use Rattle.jos_elf.specs.StackPage.{fits_stack, stack_size}
use Rattle.lib_given.specs.FitLaws.{PageFitsWords}

pub page_fits : PageFitsWords
unfolding fits_stack stack_size
page_fits words = refl
