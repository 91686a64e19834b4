-- A frame is freed, over the lists.
use Rattle.std.proofs.Common.{◌≡◌, ◌≢◌, ◌∙◌, ◌+◌, ◌<◌, ◌≤◌, ◌==◌, ℕ, suc, Bool, true, false, cond, length, get_or}
use Rattle.std.proofs.Common.{Option, Some, None, refl, sym, ap, subst, arith, length-set}
use Rattle.std.specs.Prelude.{slice_set}
use Rattle.std.proofs.lemmas.Bool.Decides.{nat_tests}
use Rattle.jos_base.specs.Counting.{page_count}
use Rattle.jos_base.specs.Reach.{Entry}
use Rattle.jos_base.specs.SpacesState.{Region, SpacesState, freed, released, fresh, page, directory, table}
use Rattle.jos_space.specs.declared.role.Role.{Role}
use Rattle.jos_space.specs.declared.role.Role.TheVariants.{Reserved, Free, Fresh, Page, Directory, Table}
use Rattle.jos_space.specs.Frames.{Held, IsSound, Lists, AreSound, IsIdle, held_in, state, state_of, use_of, is_used}
use Rattle.jos_space.specs.Frames.{free_count, regions_of, entries_of}
use Rattle.jos_space.proofs.Lookups.{region_facts, entry_limits}
use Rattle.jos_space.proofs.OverLists.{free_fewer, limit_is}
use Rattle.jos_space.proofs.Roles.{below_frames, is_reserved, is_table, no_table, freed_held, freed_sound}
use Rattle.jos_space.proofs.Roles.{freed_state}
use Rattle.jos_base.proofs.Counts.{page_count-some}
use Rattle.jos_base.proofs.Lists.{get_or-set}

not_free : (role : Role) → is_used (use_of role) ≡ true → free_count role ≡ 0
not_free Reserved is = refl
not_free (Free k) is = absurd cc
not_free Fresh is = refl
not_free Page is = refl
not_free Directory is = refl
not_free (Table d r) is = refl

not_reserved : (role : Role) → is_used (use_of role) ≡ true → is_reserved role ≡ false
not_reserved Reserved is = absurd cc
not_reserved (Free k) is = refl
not_reserved Fresh is = refl
not_reserved Page is = refl
not_reserved Directory is = refl
not_reserved (Table d r) is = refl

module _ (l : Lists) (ok : AreSound l) (g : ℕ) (idle : IsIdle (state l) g) where
  unnamed : (x r : ℕ) (other : Region) → regions_of (held_in l) x r ≡ Some other → other.table ≢ g
  unfolding state_of
  unnamed x r other here = by_role (get_or l.roles g Reserved) refl
    where
      by_role : (role : Role) → get_or l.roles g Reserved ≡ role → other.table ≢ g
      by_role (Table d q) is = idle.as_table (ap use_of is) x r other here
      by_role Reserved is = no_table (length l.roles) (held_in l) g ok.sound (ap is_table is) x r other here
      by_role (Free k) is = no_table (length l.roles) (held_in l) g ok.sound (ap is_table is) x r other here
      by_role Fresh is = no_table (length l.roles) (held_in l) g ok.sound (ap is_table is) x r other here
      by_role Page is = no_table (length l.roles) (held_in l) g ok.sound (ap is_table is) x r other here
      by_role Directory is = no_table (length l.roles) (held_in l) g ok.sound (ap is_table is) x r other here

  alone : (r : ℕ) → regions_of (held_in l) g r ≡ None
  unfolding state_of
  alone r = by_region (regions_of (held_in l) g r) refl
    where
      by_region : (o : Option Region) → regions_of (held_in l) g r ≡ o → o ≡ None
      by_region None is = refl
      by_region (Some region) is = sym is ∙ idle.as_directory (ap use_of (region_facts (held_in l) g r region is).0) r

  uncounted : get_or l.roles g Reserved ≡ Page → page_count (entries_of (held_in l)) g ≡ 0
  unfolding state_of
  uncounted is = idle.as_page (ap use_of is)

  used : free_count (get_or l.roles g Reserved) ≡ 0
  unfolding state_of
  used = not_free (get_or l.roles g Reserved) idle.used

  there : is_reserved (get_or l.roles g Reserved) ≡ false
  unfolding state_of
  there = not_reserved (get_or l.roles g Reserved) idle.used

  pub freed_below : g < length l.roles
  freed_below = below_frames (length l.roles) (held_in l) g ok.sound there

  pub freed_place : l.free_len < length l.order
  freed_place = let fewer = free_fewer (length l.roles) (held_in l) g ok.sound freed_below used in let len = ok.order in omega (arith, fewer, len)

  pub freed_room : l.free_len + 1 < 4294967296
  freed_room = let place = freed_place in let len = ok.order in let limit = ok.sound.limit in let number = limit_is in omega (arith, place, len, limit, number)

  abbrev pub freed_lists : Lists
  freed_lists = record l { roles = slice_set l.roles g (Free l.free_len); order = slice_set l.order l.free_len g; free_len = l.free_len + 1 }

  freed_is : held_in freed_lists ≡ freed_held (length l.roles) (held_in l) ok.sound g used there unnamed alone uncounted
  freed_is =
      let one : l.free_len + 1 ≡ suc l.free_len = omega arith in
      λ i. record (held_in l) {
        frames = length-set l.roles g (Free l.free_len) i;
        role = λ f. get_or-set l.roles g (Free l.free_len) Reserved freed_below f i;
        place = λ k. get_or-set l.order l.free_len g 0 freed_place k i;
        free_len = one i;
      }

  pub freed_lists_sound : AreSound freed_lists
  freed_lists_sound =
      let len : length (slice_set l.roles g (Free l.free_len)) ≡ length l.roles = length-set l.roles g (Free l.free_len) in
      record {
        words = ok.words ∙ sym len;
        bytes = ok.bytes ∙ sym len;
        counts = ok.counts ∙ sym len;
        order = length-set l.order l.free_len g ∙ ok.order ∙ sym len;
        records = ok.records;
        sound = subst (λ n. IsSound n (held_in freed_lists)) (sym len)
            (subst (λ (c : Held). IsSound (length l.roles) c) (sym freed_is) (freed_sound (length l.roles) (held_in l) ok.sound g used there unnamed alone uncounted));
      }

  pub freed_lists_state : state freed_lists ≡ freed (state l) g
  freed_lists_state = ap state_of freed_is ∙ freed_state (length l.roles) (held_in l) ok.sound g used there unnamed alone uncounted

-- ---- what may be freed

pub idle_fresh : (s : SpacesState) (f : ℕ) → s.uses f ≡ fresh → IsIdle s f
idle_fresh s f is = record {
  used = ap is_used is;
  as_page = λ e. absurd cc;
  as_table = λ e. absurd cc;
  as_directory = λ e. absurd cc;
}

pub idle_page : (s : SpacesState) (f : ℕ) → s.uses f ≡ page → page_count s.entries f ≡ 0 → IsIdle s f
idle_page s f is none = record {
  used = ap is_used is;
  as_page = λ e. none;
  as_table = λ e. absurd cc;
  as_directory = λ e. absurd cc;
}

pub idle_table : (s : SpacesState) (f : ℕ) → s.uses f ≡ table → ((d r : ℕ) (region : Region) → s.regions d r ≡ Some region → region.table ≢ f) → IsIdle s f
idle_table s f is unnamed = record {
  used = ap is_used is;
  as_page = λ e. absurd cc;
  as_table = λ e. unnamed;
  as_directory = λ e. absurd cc;
}

pub idle_directory : (s : SpacesState) (f : ℕ) → s.uses f ≡ directory → ((r : ℕ) → s.regions f r ≡ None) → IsIdle s f
idle_directory s f is none = record {
  used = ap is_used is;
  as_page = λ e. absurd cc;
  as_table = λ e. absurd cc;
  as_directory = λ e. none;
}

-- a page is freed if it is counted no more
pub released_now : (s : SpacesState) (g : ℕ) → page_count s.entries g ≡ 0 → freed s g ≡ released s (Some g)
released_now s g none =
    let is : (page_count s.entries g == 0) ≡ true = grind (arith, nat_tests) in
    sym (ap (λ (b : Bool). cond b (freed s g) s) is)

pub released_not : (s : SpacesState) (g : ℕ) → page_count s.entries g ≢ 0 → s ≡ released s (Some g)
released_not s g some =
    let is : (page_count s.entries g == 0) ≡ false = grind (arith, nat_tests) in
    sym (ap (λ (b : Bool). cond b (freed s g) s) is)

pub count_of : (l : Lists) → AreSound l → (g : ℕ) → get_or l.counts g 0 ≡ page_count (state l).entries g
unfolding state_of
count_of l ok g = ok.sound.counts g

-- a frame that an entry names is counted
pub named_counts : (l : Lists) → AreSound l → (d p : ℕ) (entry : Entry) → (state l).entries d p ≡ Some entry → 1 ≤ page_count (state l).entries entry.frame
unfolding state_of
named_counts l ok d p entry is =
    let limits = entry_limits (length l.roles) (held_in l) d p entry ok.sound is in
    page_count-some (entries_of (held_in l)) d p entry limits.0 limits.1 is
