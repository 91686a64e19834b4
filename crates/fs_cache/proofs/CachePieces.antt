-- What is shown of the calls of the cache, kind by kind, and of what they do to what is seen.
use Rattle.fs_cache.proofs.BlockMoves.{block_is_read, block_is_written}
use Rattle.fs_cache.proofs.CacheLaw.{Pieces}
use Rattle.fs_cache.proofs.Callers.{caller_stays}
use Rattle.fs_cache.proofs.Falls.{fetch_falls, flush_falls}
use Rattle.fs_cache.proofs.Loads.{entry_is_read, loads_give, region_is_read}
use Rattle.fs_cache.proofs.Moves.{ends_rightly, stands_behind}
use Rattle.fs_cache.proofs.Pages.{page_is_taken}
use Rattle.fs_cache.proofs.PagesMapped.{page_is_mapped, page_is_unmapped}

pub pieces : Pieces
pieces = record {
  stands_behind = stands_behind;
  ends_rightly = ends_rightly;
  fetch_falls = fetch_falls;
  flush_falls = flush_falls;
  caller_stays = caller_stays;
  region_is_read = region_is_read;
  entry_is_read = entry_is_read;
  loads_give = loads_give;
  page_is_taken = page_is_taken;
  page_is_mapped = page_is_mapped;
  page_is_unmapped = page_is_unmapped;
  block_is_read = block_is_read;
  block_is_written = block_is_written;
}
