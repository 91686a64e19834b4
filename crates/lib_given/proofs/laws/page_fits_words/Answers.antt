use Rattle.lib_given.proofs.PageFits.{page_fits}
use Rattle.lib_given.proofs.laws.page_fits_words.Goals as goal

pub returns : goal.returns
returns c = page_fits
