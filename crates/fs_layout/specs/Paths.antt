-- Where the names stand in a path. `names_in` and `is_good_path` of FileActs tell the names themselves, and whether a path
-- and its names are short enough; that both agree is proved.
use Rattle.std.specs.Prelude.{ℕ, ◌+◌, ◌-◌, ◌<◌, ◌≤◌, ◌&&◌, nat_lt, Bool, List, [], ◌∷◌, ◌++◌, length, take, drop, Option, Some, None}
use Rattle.std.specs.Prelude.{if◌then◌else◌}
use Rattle.std.specs.List.{list_all}
use Rattle.fs_layout.specs.declared.paths.Span.{Span}
use Rattle.fs_layout.specs.declared.numbers.TheConstants.{MAXNAMELEN, MAXPATHLEN}
use Rattle.fs_layout.specs.FileActs.{is_slash}

-- a name that begins at a place and ends before another; there is none where they are equal
abbrev pub span_between : ℕ → ℕ → List Span
span_between from to = if nat_lt from to then record { from = from; to = to } ∷ [] else []

-- the names in the bytes that stand from the place `at` on, where the first begins at the place `from`
unfoldable pub spans_from : ℕ → ℕ → List ℕ → List Span
spans_from from at [] = span_between from at
spans_from from at (byte ∷ rest) =
    if is_slash byte then span_between from at ++ spans_from (at + 1) (at + 1) rest else spans_from from (at + 1) rest

-- the names in a path
abbrev pub name_spans : List ℕ → List Span
name_spans path = spans_from 0 0 path

-- the bytes of a name in a path
abbrev pub name_in_path : List ℕ → Span → List ℕ
name_in_path path span = take (span.to - span.from) (drop span.from path)

-- whether a name leaves room for a NUL
abbrev pub is_short : Span → Bool
is_short span = nat_lt (span.to - span.from) MAXNAMELEN

-- what is known of a name that is accepted, in a path of so many bytes
pub record LiesIn (total : ℕ) (span : Span) : Type 0 where
  pub some : span.from < span.to
  pub within : span.to ≤ total
  pub short : span.to - span.from < MAXNAMELEN

-- the names in a path, if the path and each name leave room for a NUL
unfoldable pub parts_of : List ℕ → Option (List Span)
parts_of path = if nat_lt (length path) MAXPATHLEN && list_all is_short (name_spans path) then Some (name_spans path) else None
