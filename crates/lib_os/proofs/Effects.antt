-- What may become of address spaces, in the words in which their pages are seen: the rows of entries, the bytes of the
-- frames that are named, and the regions that have tables.
use Rattle.std.specs.Prelude.{◌≡◌, ◌≢◌, ℕ, ◌/◌, ◌==◌, ◌&&◌, ◌||◌, Bool, is_some, slice_set, Some, None}
use Rattle.jos_base.specs.declared.numbers.TheConstants.{NPTENTRIES}
use Rattle.jos_base.specs.Words.{upd}
use Rattle.jos_base.specs.Reach.{Entry}
use Rattle.jos_base.specs.SpacesState.{SpacesState, put, zero_page}
use Rattle.lib_os.specs.Rows.{rows_of}

-- nothing that is seen
pub record Quiet (s t : SpacesState) : Type 0 where
  pub rows : rows_of t ≡ rows_of s
  pub pages : t.pages ≡ s.pages
  pub regions : (d r : ℕ) → is_some (t.regions d r) ≡ is_some (s.regions d r)

-- a byte of the page that an entry names
pub record Stored (s t : SpacesState) (frame offset byte : ℕ) : Type 0 where
  pub rows : rows_of t ≡ rows_of s
  pub pages : t.pages ≡ upd s.pages frame (slice_set (s.pages frame) offset byte)
  pub regions : (d r : ℕ) → is_some (t.regions d r) ≡ is_some (s.regions d r)

abbrev pub is_in_region : ℕ → ℕ → ℕ → ℕ → Bool
is_in_region d p q r = (q == d) && (r == p / NPTENTRIES)

-- an entry in the place of what stood there; all frames but its own that are named keep their bytes
pub record Placed (s t : SpacesState) (d p : ℕ) (e : Entry) : Type 0 where
  pub rows : rows_of t ≡ put (rows_of s) d p (Some e)
  pub bytes : (q r : ℕ) (x : Entry) → rows_of t q r ≡ Some x → x.frame ≢ e.frame → t.pages x.frame ≡ s.pages x.frame
  pub regions : (q r : ℕ) → is_some (t.regions q r) ≡ (is_in_region d p q r || is_some (s.regions q r))

-- a page of zeros that nobody has yet
pub record Made (s t : SpacesState) (d p perm : ℕ) : Type 0 where
  pub frame : ℕ
  pub placed : Placed s t d p (record { frame = frame; perm = perm })
  pub zero : t.pages frame ≡ zero_page
  pub new : (q r : ℕ) (x : Entry) → rows_of s q r ≡ Some x → x.frame ≢ frame

-- a page that stands somewhere already
pub record Given (s t : SpacesState) (d p : ℕ) (e : Entry) : Type 0 where
  pub placed : Placed s t d p e
  pub same : t.pages e.frame ≡ s.pages e.frame

-- no page
pub record Removed (s t : SpacesState) (d p : ℕ) : Type 0 where
  pub rows : rows_of t ≡ put (rows_of s) d p None
  pub bytes : (q r : ℕ) (x : Entry) → rows_of t q r ≡ Some x → t.pages x.frame ≡ s.pages x.frame
  pub regions : (q r : ℕ) → is_some (t.regions q r) ≡ is_some (s.regions q r)

-- a whole space that is gone
pub record Gone (s t : SpacesState) (d : ℕ) : Type 0 where
  pub empty : (r : ℕ) → rows_of t d r ≡ None
  pub rows : (q r : ℕ) → q ≢ d → rows_of t q r ≡ rows_of s q r
  pub bytes : (q r : ℕ) (x : Entry) → rows_of t q r ≡ Some x → t.pages x.frame ≡ s.pages x.frame
  pub regions : (q r : ℕ) → q ≢ d → is_some (t.regions q r) ≡ is_some (s.regions q r)
