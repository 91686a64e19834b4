-- What a frame is used for tells what stands of it in the lists.
use Rattle.std.proofs.Common.{◌≡◌, ◌<◌, false, length, ℕ, true, refl, Some, get_or, sym, ap, subst, arith}
use Rattle.jos_base.specs.Reach.{Entry}
use Rattle.jos_base.specs.SpacesState.{free, fresh, page, table, directory}
use Rattle.jos_space.specs.declared.role.Role.{Role}
use Rattle.jos_space.specs.declared.role.Role.TheVariants.{Reserved, Free, Fresh, Page, Directory, Table}
use Rattle.jos_space.specs.Calls.{has_bytes}
use Rattle.jos_space.specs.Frames.{Held, free_count, Lists, AreSound, held_in, state, state_of, use_of, may_map}
use Rattle.jos_space.proofs.Roles.{below_frames, is_reserved}

as_directory : (role : Role) → use_of role ≡ directory → role ≡ Directory
as_directory Directory is = refl
as_directory Reserved is = absurd cc
as_directory (Free k) is = absurd cc
as_directory Fresh is = absurd cc
as_directory Page is = absurd cc
as_directory (Table d r) is = absurd cc

as_fresh : (role : Role) → use_of role ≡ fresh → role ≡ Fresh
as_fresh Fresh is = refl
as_fresh Reserved is = absurd cc
as_fresh (Free k) is = absurd cc
as_fresh Directory is = absurd cc
as_fresh Page is = absurd cc
as_fresh (Table d r) is = absurd cc

may_hold : (role : Role) → has_bytes (use_of role) ≡ true → may_map role ≡ true
may_hold Fresh is = refl
may_hold Page is = refl
may_hold Reserved is = absurd cc
may_hold (Free k) is = absurd cc
may_hold Directory is = absurd cc
may_hold (Table d r) is = absurd cc

pub directory_role : (c : Held) (f : ℕ) → (state_of c).uses f ≡ directory → c.role f ≡ Directory
unfolding state_of
directory_role c f is = as_directory (c.role f) is

pub fresh_role : (c : Held) (f : ℕ) → (state_of c).uses f ≡ fresh → c.role f ≡ Fresh
unfolding state_of
fresh_role c f is = as_fresh (c.role f) is

pub bytes_role : (c : Held) (f : ℕ) → has_bytes ((state_of c).uses f) ≡ true → may_map (c.role f) ≡ true
unfolding state_of
bytes_role c f is = may_hold (c.role f) is

-- ---- of a list that equals another

pub directory_in : (l m : Lists) (f : ℕ) → l ≡ m → (state m).uses f ≡ directory → get_or l.roles f Reserved ≡ Directory
directory_in l m f e is = directory_role (held_in l) f (subst (λ (x : Lists). (state x).uses f ≡ directory) (sym e) is)

as_page : (role : Role) → use_of role ≡ page → role ≡ Page
as_page Page is = refl
as_page Reserved is = absurd cc
as_page (Free k) is = absurd cc
as_page Fresh is = absurd cc
as_page Directory is = absurd cc
as_page (Table d r) is = absurd cc

page_role : (c : Held) (f : ℕ) → (state_of c).uses f ≡ page → c.role f ≡ Page
unfolding state_of
page_role c f is = as_page (c.role f) is

pub page_in : (l m : Lists) (f : ℕ) → l ≡ m → (state m).uses f ≡ page → get_or l.roles f Reserved ≡ Page
page_in l m f e is = page_role (held_in l) f (subst (λ (x : Lists). (state x).uses f ≡ page) (sym e) is)

pub fresh_in : (l m : Lists) (f : ℕ) → l ≡ m → (state m).uses f ≡ fresh → get_or l.roles f Reserved ≡ Fresh
fresh_in l m f e is = fresh_role (held_in l) f (subst (λ (x : Lists). (state x).uses f ≡ fresh) (sym e) is)

pub bytes_in : (l m : Lists) (f : ℕ) → l ≡ m → has_bytes ((state m).uses f) ≡ true → may_map (get_or l.roles f Reserved) ≡ true
bytes_in l m f e is = bytes_role (held_in l) f (subst (λ (x : Lists). has_bytes ((state x).uses f) ≡ true) (sym e) is)

-- what an entry names is a page
pub entry_page : (l : Lists) → AreSound l → (d n : ℕ) (entry : Entry) → (state l).entries d n ≡ Some entry → (state l).uses entry.frame ≡ page
unfolding state_of
entry_page l ok d n entry is = ap use_of (ok.sound.pages d n entry is)

pub page_use : (c : Held) (f : ℕ) → c.role f ≡ Page → (state_of c).uses f ≡ page
unfolding state_of
page_use c f is = ap use_of is

pub table_use : (c : Held) (f d r : ℕ) → c.role f ≡ Table d r → (state_of c).uses f ≡ table
unfolding state_of
table_use c f d r is = ap use_of is

-- ---- as roles tell

count_use : (role : Role) → free_count role ≡ 1 → use_of role ≡ free
count_use (Free k) one = refl
count_use Reserved one = absurd (omega (arith, one))
count_use Fresh one = absurd (omega (arith, one))
count_use Page one = absurd (omega (arith, one))
count_use Directory one = absurd (omega (arith, one))
count_use (Table d r) one = absurd (omega (arith, one))

use_count : (role : Role) → (use_of role ≡ free → ⊥) → free_count role ≡ 0
use_count (Free k) not = absurd (not refl)
use_count Reserved not = refl
use_count Fresh not = refl
use_count Page not = refl
use_count Directory not = refl
use_count (Table d r) not = refl

pub free_use : (c : Held) (f : ℕ) → free_count (c.role f) ≡ 1 → (state_of c).uses f ≡ free
unfolding state_of
free_use c f one = count_use (c.role f) one

pub not_free : (c : Held) (f : ℕ) → ((state_of c).uses f ≡ free → ⊥) → free_count (c.role f) ≡ 0
unfolding state_of
not_free c f not = use_count (c.role f) not

pub fresh_use : (c : Held) (f : ℕ) → c.role f ≡ Fresh → (state_of c).uses f ≡ fresh
unfolding state_of
fresh_use c f is = ap use_of is

pub same_use : (c e : Held) (f : ℕ) → c.role f ≡ e.role f → (state_of c).uses f ≡ (state_of e).uses f
unfolding state_of
same_use c e f is = ap use_of is

-- ---- places

-- a frame that is not reserved has its place in each list
pub record HasPlace (l : Lists) (f : ℕ) : Type 0 where
  pub roles : f < length l.roles
  pub words : f < length l.words
  pub bytes : f < length l.bytes
  pub counts : f < length l.counts

pub has_place : (l : Lists) → AreSound l → (f : ℕ) → is_reserved (get_or l.roles f Reserved) ≡ false → HasPlace l f
has_place l ok f there =
    let below = below_frames (length l.roles) (held_in l) f ok.sound there in
    record {
      roles = below;
      words = let len = ok.words in omega (arith, below, len);
      bytes = let len = ok.bytes in omega (arith, below, len);
      counts = let len = ok.counts in omega (arith, below, len);
    }
