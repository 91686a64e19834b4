-- What the calls of a step do to the host's files.
use Rattle.std.proofs.Common.{◌≡◌, ◌∙◌, ◌*◌, ℕ, Bool, true, false, List, Option, Some, Result, Ok, Err, refl, sym, ap, subst, arith}
use Rattle.std.proofs.Common.{if◌then◌else◌}
use Rattle.std.specs.Str.{bytes_eq}
use Rattle.std.proofs.lemmas.Slice.Eq.{bytes_eq-Decides}
use Rattle.jos_host.specs.declared.host.Failed.{Failed}
use Rattle.jos_host.specs.declared.host.HostCall.TheVariants.{Read, Write}
use Rattle.jos_host.specs.Asked.{Asked}
use Rattle.jos_host.specs.Files.{Files, SameElsewhere, bytes_of, overwritten, with_bytes}
use Rattle.jos_host.specs.Frames.{Around, from_to}
use Rattle.jos_host.specs.Told.{WritesAt}
use Rattle.jos_base.specs.declared.memory.Access.TheVariants as access
use Rattle.fs_layout.specs.declared.numbers.TheConstants.{BLKSIZE}
use Rattle.lib_os.specs.Disk.{DiskFile}
use Rattle.lib_os.specs.MadeCalls.{TouchesDisk, asks_nothing, asks_read, asks_write}
use Rattle.lib_os.specs.UserCalls.{BlockCall, FilesBehind, FilesBehindBy, asked_by, done_only, may_read_block, may_write_block, page_bytes}
use Rattle.fs_cache.proofs.StepWhole.{block_there, page_long}

-- ---- a call for a block

module _ (call : BlockCall) (files : Around (Option Files)) (asked : Around (Option (List Asked))) where
  pub read_touches : files.after ≡ files.before → asked.after ≡ asked_by (may_read_block call) asked.before Read call.disk →
      TouchesDisk call.disk files asked
  read_touches same told = by (may_read_block call) refl told
    where
      by : (t : Bool) → may_read_block call ≡ t → asked.after ≡ asked_by t asked.before Read call.disk → TouchesDisk call.disk files asked
      by true may told = asks_read call.block (block_there call access.Write may) same told
      by false may told = asks_nothing same told

  pub write_touches : (result : Result ℕ Failed) → FilesBehind call result files →
      asked.after ≡ asked_by (may_write_block call) asked.before Write call.disk → TouchesDisk call.disk files asked
  write_touches result behind told = by (may_write_block call) refl behind told
    where
      by : (t : Bool) → may_write_block call ≡ t → FilesBehindBy t call result files → asked.after ≡ asked_by t asked.before Write call.disk →
          TouchesDisk call.disk files asked
      by true may behind told =
          asks_write call.block (page_bytes call.state call.slot call.va) (done_only result) (block_there call access.Read may)
          (page_long call.state call.slot call.va) behind told
      by false may same told = asks_nothing same told

-- ---- what follows

module _ (disk : DiskFile) (files : Around (Option Files)) (asked : Around (Option (List Asked))) (touches : TouchesDisk disk files asked) where
  -- a call behind it that leaves the files and is none of them
  pub then_leaves : (last : Option Files) (told : Option (List Asked)) → last ≡ files.after → told ≡ asked.after →
      TouchesDisk disk (from_to files.before last) (from_to asked.before told)
  then_leaves last told same none =
      subst (λ (f : Option Files). TouchesDisk disk (from_to files.before f) (from_to asked.before told)) (sym same)
      (subst (λ (a : Option (List Asked)). TouchesDisk disk files (from_to asked.before a)) (sym none) touches)

  -- Where the disk has no blocks the host is asked nothing, and its files are as before.
  pub nothing_asked : disk.blocks ≡ 0 → (files.after ≡ files.before) × (asked.after ≡ asked.before)
  nothing_asked none = by touches
    where
      by : TouchesDisk disk files asked → (files.after ≡ files.before) × (asked.after ≡ asked.before)
      by (asks_nothing same told) = (same, told)
      by (asks_read block there same told) = absurd (omega (arith, none, there))
      by (asks_write block bytes done there long written told) = absurd (omega (arith, none, there))

  -- The other files keep their bytes.
  pub others_keep : (old : Files) → files.before ≡ Some old → (new : Files) × (files.after ≡ Some new) × SameElsewhere old disk.name new
  others_keep old is = by touches
    where
      written : (at : ℕ) (bytes : List ℕ) (done : Result (Unit {0}) Failed) → WritesAt (Some old) disk.name at bytes done files.after →
          (new : Files) × (files.after ≡ Some new) × SameElsewhere old disk.name new
      written at bytes (Ok _) now =
          let put = overwritten (bytes_of old disk.name) at bytes in (
            with_bytes old disk.name put,
            now,
            λ q other.
                ap (λ (t : Bool). if t then Some put else old q) (not_equal q other),
          )
        where
          not_equal : (q : List ℕ) → (q ≡ disk.name → ⊥) → bytes_eq q disk.name ≡ false
          not_equal q other = differ (bytes_eq q disk.name) refl
            where
              differ : (t : Bool) → bytes_eq q disk.name ≡ t → t ≡ false
              differ true same = absurd (other ((bytes_eq-Decides q disk.name).0 same))
              differ false same = refl
      written at bytes (Err _) now = (now.0, now.1, now.2)

      by : TouchesDisk disk files asked → (new : Files) × (files.after ≡ Some new) × SameElsewhere old disk.name new
      by (asks_nothing same told) = (old, same ∙ is, λ q other. refl)
      by (asks_read block there same told) = (old, same ∙ is, λ q other. refl)
      by (asks_write block bytes done there long now told) =
          written (BLKSIZE * block) bytes done
          (subst (λ (f : Option Files). WritesAt f disk.name (BLKSIZE * block) bytes done files.after) is now)
