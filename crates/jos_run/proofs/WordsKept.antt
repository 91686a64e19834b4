-- What the kernel keeps is words, and each page's frame is counted by one.
use Rattle.std.proofs.Common.{◌≡◌, ◌<◌, ◌^◌, ℕ, false, refl}
use Rattle.std.specs.Prelude.{get_or}
use Rattle.jos_base.specs.KernelState.{slot_at}
use Rattle.jos_base.specs.SpacesState.{page}
use Rattle.jos_envs.proofs.Kept.{live_within}
use Rattle.jos_kernel.specs.Machine.{Parts, kernel_state}
use Rattle.jos_space.specs.declared.role.Role.{Role}
use Rattle.jos_space.specs.declared.role.Role.TheVariants.{Reserved, Free, Fresh, Page, Directory, Table}
use Rattle.jos_space.specs.Frames.{Held, IsSound, held_in, state_of, use_of}
use Rattle.jos_space.proofs.Roles.{below_frames, is_reserved}
use Rattle.jos_sys.specs.System.{HasSoundFrames}
use Rattle.lib_os.specs.InOrder.{IsInOrder}
use Rattle.fs_seen.specs.ServerMemory.{HasWords}
use Rattle.jos_run.proofs.FramesCounted.{frame_counted}

role_there : (role : Role) → use_of role ≡ page → is_reserved role ≡ false
role_there Reserved is = absurd cc
role_there (Free k) is = refl
role_there Fresh is = refl
role_there Page is = refl
role_there Directory is = refl
role_there (Table d r) is = refl

-- the frame of a page is one of those that there are
page_there : (c : Held) → IsSound c.frames c → (f : ℕ) → (state_of c).uses f ≡ page → f < (state_of c).frames
unfolding state_of
page_there c sound f is = below_frames c.frames c f sound (role_there (c.role f) is)

pub has_words : (machine : Parts) (n : ℕ) → HasSoundFrames machine.system → IsInOrder (kernel_state machine) →
    ((i : ℕ) → get_or (slot_at (kernel_state machine) n).extra i 0 < 2 ^ 32) →
    (slot_at (kernel_state machine) n).runs < 2 ^ 32 →
    (slot_at (kernel_state machine) n).rendezvous.value < 2 ^ 32 → (slot_at (kernel_state machine) n).rendezvous.sender < 2 ^ 32 →
    HasWords (kernel_state machine) n
has_words machine n sound in_order words runs value sender = record {
  counted = record {
    recorded = page_there (held_in machine.system.spaces) sound.sound;
    counts = frame_counted (kernel_state machine) in_order (live_within machine.system.table);
    runs = runs;
  };
  words = words;
  value = value;
  sender = sender;
}
