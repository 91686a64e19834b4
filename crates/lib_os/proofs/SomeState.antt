-- A state of the kernel with a server and one environment, which has one page of its own and the stack of its handler of page
-- faults, and the abstract state that it stands for.
use Rattle.std.proofs.Common.{◌≡◌, ◌==◌, ℕ, true, false, List, [], ◌∷◌, refl, arith, if◌then◌else◌}
use Rattle.jos_base.specs.declared.numbers.TheConstants.{FIRST_ENV_ID}
use Rattle.jos_base.specs.declared.registers.Regs.{Regs}
use Rattle.jos_base.specs.Counting.{frame_limit, page_limit}
use Rattle.jos_base.specs.Environments.{no_extra, zero_registers}
use Rattle.jos_base.specs.SpacesState.{directory, table, page, is_directory, zero_page}
use Rattle.lib_os.specs.declared.place.Place.TheVariants as place
use Rattle.lib_os.specs.AbstractState.{born, serving, at_guest}
use Rattle.lib_os.specs.Fence.{in_fence}
use Rattle.lib_os.specs.Places.{place_in_words}
use Rattle.lib_os.specs.Rows.{IsPage, counted, rows_of}
use Rattle.lib_os.specs.StandingLaws.{SomeStateStands}
use Rattle.lib_os.proofs.Listed.{Spaces, EntryFits, SpacesFit, StateFits, EnvironmentFits, Pair, listed, own_fits, server_slot}
use Rattle.lib_os.proofs.PageBytes.{zero_page_whole}
use Rattle.lib_os.proofs.Listed.{server_bare, server_fits, running_slot, born_in, environment_fits, the_names, state_of, abstract_of, listed_stands}
use Rattle.lib_os.proofs.Listed.{childless, server_childless, environment_childless}

pub whole : IsPage zero_page
whole = zero_page_whole

-- the page is at 0x00800000, and the stack of the handler at 0xeebff000
abbrev spaces : Spaces
spaces = record {
  uses = (20, directory) ∷ (21, directory) ∷ (22, table) ∷ (23, table) ∷ (24, page) ∷ (25, page) ∷ [];
  pages = listed ((24, zero_page) ∷ (25, zero_page) ∷ []) [];
  rows = (21, (0x800, record { frame = 24; perm = 7 }) ∷ (0xeebff, record { frame = 25; perm = 7 }) ∷ []) ∷ [];
  tables = (21, (2, 22) ∷ (954, 23) ∷ []) ∷ [];
  common = λ f. false;
  home = listed ((22, (21, 2)) ∷ (23, (21, 954)) ∷ (24, (21, 0x800)) ∷ (25, (21, 0xeebff)) ∷ []) (0, 0);
}

own_page : EntryFits spaces 21 0x800 (record { frame = 24; perm = 7 })
unfolding frame_limit page_limit
own_page = own_fits spaces 21 0x800 24 refl refl (omega arith, omega arith) (omega arith) refl whole refl refl

stack_page : EntryFits spaces 21 0xeebff (record { frame = 25; perm = 7 })
unfolding frame_limit page_limit
stack_page = own_fits spaces 21 0xeebff 25 refl refl (omega arith, omega arith) (omega arith) refl whole refl refl

spaces_fit : SpacesFit spaces
unfolding frame_limit
spaces_fit = record {
  entries = ((own_page, (stack_page, tt)), tt);
  tables = (
    (
      record { frame_is = refl; directory_is = refl; small = omega arith; alone = refl },
      (record { frame_is = refl; directory_is = refl; small = omega arith; alone = refl }, tt),
    ),
    tt,
  );
}

abbrev registers : Regs
registers = record zero_registers { esp = 0xeebfe000; eip = 0x00800020; eflags = 0x202 }

program_fits : EnvironmentFits spaces 0x1001 21 registers registers no_extra at_guest place.Guest
unfolding rows_of in_fence place_in_words counted
program_fits = record {
  id_small = omega arith;
  place_is = refl;
  upcall = refl;
  counts = λ row p. refl;
  known = (refl, (refl, tt));
  regions = (refl, (refl, tt));
  table = refl;
  stack_page = record { entry = record { frame = 25; perm = 7 }; stands = refl; own_page = refl; writes = refl };
  copy = λ has. absurd (let contradiction : false ≡ true = has in cc);
  no_copy = λ none. refl;
  no_working = refl;
  no_spawns = λ p. refl;
  stack = refl;
  flags = refl;
  stands = record { program = refl; phase = refl; words = refl; silent = refl; awake = refl };
}

abbrev pairs : List (ℕ × Pair)
pairs =
    (0, (server_slot 20, serving FIRST_ENV_ID)) ∷ (1, (running_slot 0x1001 21 registers no_extra, born (born_in spaces 0x1001 21 registers at_guest)))
    ∷ []

abbrev owner : ℕ → ℕ
owner d = if d == 21 then 1 else 0

no_page : is_directory page ≡ true → ⊥
no_page is = let contradiction : false ≡ true = is in cc

no_table : is_directory table ≡ true → ⊥
no_table is = let contradiction : false ≡ true = is in cc

state_fits : StateFits spaces pairs owner
state_fits = record {
  spaces = spaces_fit;
  slots = (
    server_fits spaces owner 20 refl refl,
    (environment_fits spaces owner 1 0x1001 21 registers registers no_extra at_guest place.Guest program_fits refl refl refl, tt),
  );
  owned = (
    λ is. (0, refl, refl),
    (
      λ is. (1, refl, refl),
      (λ is. absurd (no_table is), (λ is. absurd (no_table is), (λ is. absurd (no_page is), (λ is. absurd (no_page is), tt)))),
    ),
  );
  first = refl;
  server = server_bare spaces 20 refl refl;
  children = childless spaces pairs (
    server_childless 20,
    (environment_childless spaces 1 0x1001 21 registers registers no_extra at_guest place.Guest program_fits refl, tt),
  );
}

pub some_state_stands : SomeStateStands
some_state_stands = (state_of spaces pairs, abstract_of pairs, (the_names, listed_stands spaces pairs owner state_fits), refl)
