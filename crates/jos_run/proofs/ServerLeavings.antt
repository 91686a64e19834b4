-- What a call of the file server's leaves, whatever the state stands for: as many frames, of which each that is handed out has a use; each other
-- environment where it stood, with no more pages that wait to be copied; and it takes two frames at most.
use Rattle.std.proofs.Common.{◌≡◌, ◌∙◌, ◌⊎◌, inl, inr, ◌+◌, ◌≤◌, ℕ, Bool, true, false, List, [], ◌∷◌, Option, Result, Ok, Err}
use Rattle.std.proofs.Common.{refl, sym, ap, subst, arith, length}
use Rattle.jos_host.specs.Files.{Files}
use Rattle.jos_host.specs.Frames.{Around}
use Rattle.jos_base.specs.declared.memory.Access.{Access}
use Rattle.jos_base.specs.declared.memory.Access.TheVariants.{Read, Write}
use Rattle.jos_base.specs.declared.memory.PageFault.{PageFault}
use Rattle.jos_base.specs.Environments.{Slot}
use Rattle.jos_base.specs.KernelState.{KernelState, slot_at, with_slot_at, with_spaces}
use Rattle.jos_base.specs.Reach.{FrameOffset}
use Rattle.jos_base.specs.SpacesState.{SpacesState}
use Rattle.jos_base.specs.UserMemory.{reach_in, stored_byte, touched, with_byte_at}
use Rattle.lib_os.specs.declared.user_os.Stop.TheVariants as stop
use Rattle.lib_os.specs.Disk.{DiskFile}
use Rattle.lib_os.specs.LibrarySteps.{KeepsNumbers, KeepsPlaces, KeepsUses, LeavesRest, TakesAtMost, frames_asked}
use Rattle.lib_os.specs.MadeCalls.{HasCome, IsMade, IsServersCall, IsServersSystemCall, MakesCall, SetsWords, UserCall, asks_id, calls, faulted, gave}
use Rattle.lib_os.specs.MadeCalls.{loads, loads_byte, maps_block, reads_block, receives, sends, sends_place, stores, stores_byte}
use Rattle.lib_os.specs.MadeCalls.{takes_block, takes_place, unmaps_block, unmaps_request, writes_block, yields}
use Rattle.lib_os.specs.Need.{EachHasUse}
use Rattle.lib_os.specs.UserCalls.{CallStep, IsBlockRead, IsBlockWrite, IsReadBy, IsSentBy, Output, Prints, block_call, block_put, load, load_byte}
use Rattle.lib_os.specs.UserCalls.{may_read_block, may_write_block, store, store_byte, system}
use Rattle.lib_os.proofs.BytesPut.{put_is, spaces_put}
use Rattle.lib_os.proofs.FramesAsked.{load_byte_takes, load_takes, store_byte_takes, store_takes, system_takes}
use Rattle.lib_os.proofs.FramesKept.{touched_frames}
use Rattle.lib_os.proofs.FreeFrames.{stored_free, touched_free}
use Rattle.lib_os.proofs.Leaving.{load_byte_left, load_left, store_byte_left, store_left, system_left}
use Rattle.lib_os.proofs.NumbersKept.{KeepsCopies, copies_kept, numbers_kept, places_kept, sent_copies}
use Rattle.lib_os.proofs.OthersCopies.{IsBeside, NoMoreWait, both_wait, load_byte_wait, load_wait, maps_no_copy, not_beside, plain_wait, same_wait, store_byte_wait}
use Rattle.lib_os.proofs.OthersCopies.{store_wait, stored_wait, touched_wait}
use Rattle.lib_os.proofs.OthersKept.{OthersStay, load_byte_stay, load_stay, own_stay, sets_others, store_byte_stay, store_stay, system_stay}
use Rattle.lib_os.proofs.SlotsSet.{both_set}
use Rattle.lib_os.proofs.UsesCalled.{load_byte_found, load_found, store_byte_found, store_found, system_found}
use Rattle.lib_os.proofs.UsesFound.{stored_found, touched_found}

-- ---- what is left

pub record CallLeft (s : KernelState) (n : ℕ) (after : KernelState) : Type 0 where
  pub rest : LeavesRest s after
  pub uses : KeepsUses n s after
  pub others : OthersStay s n after
  pub copies : KeepsCopies n s after
  pub takes : TakesAtMost 2 s.spaces after.spaces

-- so the places and the numbers of the others are kept
pub places_left : {s : KernelState} {n : ℕ} {after : KernelState} → CallLeft s n after → KeepsPlaces n s after
places_left {s = s} {n = n} {after = after} h = places_kept s after n (λ before then_so live a stands. h.others)

pub numbers_left : {s : KernelState} {n : ℕ} {after : KernelState} → CallLeft s n after → KeepsNumbers n s after
numbers_left {s = s} {n = n} {after = after} h = numbers_kept s after n (λ before then_so live a stands. h.others) h.copies

-- its own slot is another behind it
pub own_left : (s : KernelState) (n : ℕ) (mid : KernelState) (slot : Slot) → CallLeft s n mid → CallLeft s n (with_slot_at mid n slot)
own_left s n mid slot h = record {
  rest = record { last = h.rest.last; turns = h.rest.turns; frames = h.rest.frames; refused = h.rest.refused; told = h.rest.told };
  uses = h.uses;
  others = own_stay s n mid h.others slot;
  copies = h.copies;
  takes = h.takes;
}

-- ---- a space that is accessed or written

-- as many frames, the same list of free ones, uses as before, and no more pages that wait
record SpaceKept (s : KernelState) (n : ℕ) (t : SpacesState) : Type 0 where
  frames : t.frames ≡ s.spaces.frames
  list : t.free ≡ s.spaces.free
  uses : EachHasUse s.spaces → EachHasUse t
  wait : NoMoreWait (IsBeside s n) s.spaces t

module _ (s : KernelState) (n : ℕ) where
  spaces_changed : (t : SpacesState) → SpaceKept s n t → CallLeft s n (with_spaces s t)
  spaces_changed t h = record {
    rest = record { last = refl; turns = refl; frames = h.frames; refused = λ two some. refl; told = λ some. some };
    uses = λ in_order live each. h.uses each;
    others = record { stay = λ m ne was lives. record { place = refl; directory = refl } };
    copies = copies_kept s (with_spaces s t) n h.wait;
    takes = let same : length t.free ≡ length s.spaces.free = ap (λ (l : List ℕ). length l) h.list in omega (arith, same);
  }

  unchanged : CallLeft s n s
  unchanged =
      spaces_changed s.spaces (record { frames = refl; list = refl; uses = λ each. each; wait = same_wait (IsBeside s n) s.spaces })

  -- an access sets its bits
  accessed : (d va : ℕ) (a : Access) → SpaceKept s n (touched s.spaces d va a)
  accessed d va a = record {
    frames = touched_frames s.spaces d va a;
    list = touched_free s.spaces d va a;
    uses = touched_found s.spaces d va a;
    wait = touched_wait (IsBeside s n) s.spaces d va a;
  }

  stored_frames : (t : SpacesState) (d va byte : ℕ) → (stored_byte t d va byte).frames ≡ t.frames
  unfolding stored_byte
  stored_frames t d va byte = by_reach (reach_in t d va Write)
    where
      by_reach : (r : Result FrameOffset PageFault) → (with_byte_at t byte r).frames ≡ t.frames
      by_reach (Ok location) = refl
      by_reach (Err fault) = refl

  -- bytes are put
  written : (t : SpacesState) (d va : ℕ) (bytes : List ℕ) → SpaceKept s n t → SpaceKept s n (spaces_put t d va bytes)
  unfolding spaces_put
  written t d va [] h = h
  written t d va (byte ∷ rest) h =
      written (stored_byte t d va byte) d (va + 1) rest (record {
        frames = stored_frames t d va byte ∙ h.frames;
        list = stored_free t d va byte ∙ h.list;
        uses = λ each. stored_found t d va byte (h.uses each);
        wait = both_wait (IsBeside s n) s.spaces t (stored_byte t d va byte) h.wait (stored_wait (IsBeside s n) t d va byte);
      })

  -- ---- blocks

  read_left : (block va : ℕ) (disk : DiskFile) (files : Option Files) (word : ℕ) (mid : KernelState) →
      IsBlockRead (block_call s n disk block va) files (Ok word) mid → CallLeft s n mid
  unfolding block_put
  read_left block va disk files word mid made = by_test (may_read_block (block_call s n disk block va)) made
    where
      d : ℕ
      d = (slot_at s n).directory

      by_test : (t : Bool) → IsReadBy t (block_call s n disk block va) files word mid → CallLeft s n mid
      by_test true is =
          let t : SpacesState = touched s.spaces d va Write in
          subst (λ (k : KernelState). CallLeft s n k) (sym (is.3 ∙ put_is (with_spaces s t) n va is.1))
          (spaces_changed (spaces_put t d va is.1) (written t d va is.1 (accessed d va Write)))
      by_test false is = subst (λ (k : KernelState). CallLeft s n k) (sym is.1) unchanged

  write_left : (block va : ℕ) (disk : DiskFile) (word : ℕ) (mid : KernelState) →
      IsBlockWrite (block_call s n disk block va) (Ok word) mid → CallLeft s n mid
  write_left block va disk word mid made = by_test (may_write_block (block_call s n disk block va)) made
    where
      by_test : (t : Bool) → IsSentBy t (block_call s n disk block va) word mid → CallLeft s n mid
      by_test true is =
          subst (λ (k : KernelState). CallLeft s n k) (sym is.1)
          (spaces_changed (touched s.spaces (slot_at s n).directory va Read) (accessed (slot_at s n).directory va Read))
      by_test false is = subst (λ (k : KernelState). CallLeft s n k) (sym is.1) unchanged

  -- ---- accesses

  -- the state behind one, whether it faulted or not
  came : {X : Type 0} (step : CallStep X) (mid : KernelState) (output : Output) → HasCome step mid output → mid ≡ step.state
  came step mid output (gave x is) = is.1
  came step mid output (faulted stop.Upcall other is) = is.1
  came step mid output (faulted stop.Ended other is) = is.1
  came step mid output (faulted stop.Failed other is) = absurd (other refl)

  load_leaves : (va : ℕ) → CallLeft s n (load s n va).state
  load_leaves va = record {
    rest = let h = load_left (Unit {0}) s n va in h.rest;
    uses = λ in_order live each. load_found s n in_order.frames each va;
    others = load_stay s n va;
    copies = copies_kept s (load s n va).state n (load_wait (IsBeside s n) s n (not_beside s n) va);
    takes = load_takes s n 2 va;
  }

  load_byte_leaves : (va : ℕ) → CallLeft s n (load_byte s n va).state
  load_byte_leaves va = record {
    rest = let h = load_byte_left (Unit {0}) s n va in h.rest;
    uses = λ in_order live each. load_byte_found s n in_order.frames each va;
    others = load_byte_stay s n va;
    copies = copies_kept s (load_byte s n va).state n (load_byte_wait (IsBeside s n) s n (not_beside s n) va);
    takes = load_byte_takes s n 2 va;
  }

  store_leaves : (va word : ℕ) → CallLeft s n (store s n va word).state
  store_leaves va word = record {
    rest = let h = store_left (Unit {0}) s n va word in h.rest;
    uses = λ in_order live each. store_found s n in_order.frames each va word;
    others = store_stay s n va word;
    copies = copies_kept s (store s n va word).state n (store_wait (IsBeside s n) s n (not_beside s n) va word);
    takes = store_takes s n 2 va word;
  }

  store_byte_leaves : (va byte : ℕ) → CallLeft s n (store_byte s n va byte).state
  store_byte_leaves va byte = record {
    rest = let h = store_byte_left (Unit {0}) s n va byte in h.rest;
    uses = λ in_order live each. store_byte_found s n in_order.frames each va byte;
    others = store_byte_stay s n va byte;
    copies = copies_kept s (store_byte s n va byte).state n (store_byte_wait (IsBeside s n) s n (not_beside s n) va byte);
    takes = store_byte_takes s n 2 va byte;
  }

  -- ---- system calls

  system_by : (number : ℕ) (args : List ℕ) → sets_others number ≡ false → KeepsCopies n s (system s n number args).state →
      frames_asked number ≤ 2 → CallLeft s n (system s n number args).state
  system_by number args calm copies few = record {
    rest = let h = system_left s n number args in h.rest;
    uses = λ in_order live each. system_found s n number args in_order live each;
    others = system_stay s n number args calm;
    copies = copies;
    takes = let takes = system_takes s n number args in omega (arith, few, takes);
  }

  system_leaves : (number : ℕ) (args : List ℕ) → sets_others number ≡ false → maps_no_copy number args ≡ true →
      frames_asked number ≤ 2 → CallLeft s n (system s n number args).state
  system_leaves number args calm plain few =
      system_by number args calm (copies_kept s (system s n number args).state n (plain_wait s n number args plain)) few

  of_kind : (number : ℕ) (args : List ℕ) → IsServersSystemCall number args → CallLeft s n (system s n number args).state
  of_kind number args asks_id = system_leaves number args refl refl (omega arith)
  of_kind number args yields = system_leaves number args refl refl (omega arith)
  of_kind number args (takes_block k below) = system_leaves number args refl refl (omega arith)
  of_kind number args (maps_block from to from_below to_below) = system_leaves number args refl refl (omega arith)
  of_kind number args (unmaps_block k below) = system_leaves number args refl refl (omega arith)
  of_kind number args (takes_place k below) = system_leaves number args refl refl (omega arith)
  of_kind number args unmaps_request = system_leaves number args refl refl (omega arith)
  of_kind number args receives = system_leaves number args refl refl (omega arith)
  of_kind number args (sends client word) = system_leaves number args refl refl (omega arith)
  of_kind number args (sends_place client word k below) =
      system_by number args refl (sent_copies s n args (λ a h low. refl)) (omega arith)

  -- ---- each call

  call_left : (call : UserCall) → IsServersCall call → (disk : DiskFile) (files : Around (Option Files)) (mid : KernelState) (output : Output) →
      IsMade call s n disk files mid output → CallLeft s n mid
  call_left (loads va) own disk files mid output made =
      subst (λ (k : KernelState). CallLeft s n k) (sym (came (load s n va) mid output made.0)) (load_leaves va)
  call_left (loads_byte va) own disk files mid output made =
      subst (λ (k : KernelState). CallLeft s n k) (sym (came (load_byte s n va) mid output made.0)) (load_byte_leaves va)
  call_left (stores va word) own disk files mid output made =
      subst (λ (k : KernelState). CallLeft s n k) (sym (came (store s n va word) mid output made.0)) (store_leaves va word)
  call_left (stores_byte va byte) own disk files mid output made =
      subst (λ (k : KernelState). CallLeft s n k) (sym (came (store_byte s n va byte) mid output made.0)) (store_byte_leaves va byte)
  call_left (calls number args) own disk files mid output made =
      let came_of = made.1 in subst (λ (k : KernelState). CallLeft s n k) (sym came_of.1) (of_kind number args own)
  call_left (reads_block block va) own disk files mid output made = read_left block va disk files.before made.0 mid made.1
  call_left (writes_block block va) own disk files mid output made = write_left block va disk made.0 mid made.1

  -- and the words that are set behind it
  pub server_call_leaves : (call : UserCall) → IsServersCall call → (after : KernelState) (disk : DiskFile) (files : Around (Option Files))
      (output : Output) → MakesCall call s after n disk files output → CallLeft s n after
  server_call_leaves call own after disk files output makes = by_left makes.left
    where
      behind : CallLeft s n makes.mid
      behind = call_left call own disk files makes.mid output makes.made

      by_left : (after ≡ makes.mid) ⊎ SetsWords makes.mid after n → CallLeft s n after
      by_left (inl same) = subst (λ (k : KernelState). CallLeft s n k) (sym same) behind
      by_left (inr sets) =
          let k : Slot = record (slot_at makes.mid n) { registers = sets.registers; extra = sets.words } in
          subst (λ (z : KernelState). CallLeft s n z) (sym (sets.set ∙ both_set makes.mid n sets.registers sets.words))
          (own_left s n makes.mid k behind)

-- ---- what is printed

-- some bytes, and they are counted
pub record PrintsSome (output : Output) : Type 0 where
  pub bytes : List ℕ
  pub prints : Prints output bytes

come_prints : {X : Type 0} (step : CallStep X) (mid : KernelState) (output : Output) → HasCome step mid output → PrintsSome output
come_prints step mid output (gave x is) = record { bytes = step.written; prints = is.2 }
come_prints step mid output (faulted stop.Upcall other is) = record { bytes = step.written; prints = is.2 }
come_prints step mid output (faulted stop.Ended other is) = record { bytes = step.written; prints = is.2 }
come_prints step mid output (faulted stop.Failed other is) = absurd (other refl)

pub made_prints : (call : UserCall) (s : KernelState) (n : ℕ) (disk : DiskFile) (files : Around (Option Files)) (mid : KernelState) (output : Output) →
    IsMade call s n disk files mid output → PrintsSome output
made_prints (loads va) s n disk files mid output made = come_prints (load s n va) mid output made.0
made_prints (loads_byte va) s n disk files mid output made = come_prints (load_byte s n va) mid output made.0
made_prints (stores va word) s n disk files mid output made = come_prints (store s n va word) mid output made.0
made_prints (stores_byte va byte) s n disk files mid output made = come_prints (store_byte s n va byte) mid output made.0
made_prints (calls number args) s n disk files mid output made =
    let came_of = made.1 in record { bytes = (system s n number args).written; prints = came_of.2 }
made_prints (reads_block block va) s n disk files mid output made = record { bytes = []; prints = made.2 }
made_prints (writes_block block va) s n disk files mid output made = record { bytes = []; prints = made.2 }
