-- Each frame has one use.
use Rattle.std.proofs.Common.{◌≡◌, ◌≢◌, true, refl}
use Rattle.jos_base.specs.SpacesState.{Use, reserved, free, fresh, page, directory, table, is_directory}

-- what passes for a directory is used as one
pub directory_is : (u : Use) → is_directory u ≡ true → u ≡ directory
directory_is directory is = refl
directory_is reserved is = absurd cc
directory_is free is = absurd cc
directory_is fresh is = absurd cc
directory_is page is = absurd cc
directory_is table is = absurd cc

pub free_or_directory : (u : Use) → u ≡ free → u ≢ directory
free_or_directory u is not = absurd cc

pub fresh_or_directory : (u : Use) → u ≡ fresh → u ≢ directory
fresh_or_directory u is not = absurd cc

pub page_or_directory : (u : Use) → u ≡ page → u ≢ directory
page_or_directory u is not = absurd cc

pub page_or_table : (u : Use) → u ≡ page → u ≢ table
page_or_table u is not = absurd cc

pub table_or_directory : (u : Use) → u ≡ table → u ≢ directory
table_or_directory u is not = absurd cc
