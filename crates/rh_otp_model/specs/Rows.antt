-- Rows by application, as the lists of OTP's processes have them (lists(3)).
use Rattle.std.specs.Prelude.{ℕ, ◌==◌, Bool, List, ◌∷◌, Option, is_some, not, find, filter, slice_set, if◌then◌else◌}
use Rattle.std.specs.List.{position_or_len, remove}
use Rattle.std.specs.Option.{option_map}
use Rattle.rh_model.specs.declared.node.App.{App}

-- is the row one of this application?
abbrev pub is_of : {T : Type 0} → App → App × T → Bool
is_of a row = row.0.0 == a.0

-- what the first row of an application says (lists:keyfind/3)
abbrev pub keyfind : {T : Type 0} → App → List (App × T) → Option T
keyfind a rows = option_map (λ row. row.1) (find (is_of a) rows)

-- without the first row of an application (lists:keydelete/3)
abbrev pub keydelete : {T : Type 0} → App → List (App × T) → List (App × T)
keydelete a rows = remove rows (position_or_len (is_of a) rows)

-- with another value in the first row of an application (lists:keyreplace/4)
abbrev pub keyreplace : {T : Type 0} → App → T → List (App × T) → List (App × T)
keyreplace a value rows = slice_set rows (position_or_len (is_of a) rows) (a, value)

-- the same, or with a row in front where there is none (application_controller, keyreplaceadd/4)
abbrev pub keystore : {T : Type 0} → App → T → List (App × T) → List (App × T)
keystore a value rows = if is_some (keyfind a rows) then keyreplace a value rows else (a, value) ∷ rows

-- is there a row of the application (lists:keymember/3)?
abbrev pub has_row : {T : Type 0} → App → List (App × T) → Bool
has_row a rows = is_some (keyfind a rows)

-- without all rows of an application
abbrev pub without_rows : {T : Type 0} → App → List (App × T) → List (App × T)
without_rows a rows = filter (λ row. not (is_of a row)) rows

-- all of these applications but this one
abbrev pub without : App → List App → List App
without a apps = filter (λ (b : App). not (b.0 == a.0)) apps
