use Rattle.lib_image.proofs.HeaderWords.{header_words_tell, short_files_fail}
use Rattle.lib_image.proofs.SegmentWords.{segment_words_tell}
use Rattle.lib_image.proofs.laws.words_tell_images.Goals as goal

pub returns-clause-header : goal.returns-clause-header
returns-clause-header c = header_words_tell

pub returns-clause-short : goal.returns-clause-short
returns-clause-short c = short_files_fail

pub returns-clause-segments : goal.returns-clause-segments
returns-clause-segments c = segment_words_tell
