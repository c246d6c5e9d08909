-- What a term is seen as, where it has a certain shape (config(4), app(4)).
use Rattle.std.specs.Prelude.{ℕ, pos, ℤ, List, [], ◌∷◌, nat_le, codes, filter_map, if◌then◌else◌}
use Rattle.std.specs.Prelude.{Option, Some, None, option_and_then}
use Rattle.std.specs.Str.{bytes_eq}
use Rattle.rh_model.specs.Limits.{is_profile, timeout_limit}
use Rattle.rh_base.specs.Tree.{Tree, atom, int, list, tuple, list_of_trees}

-- for `do`: what follows a value, if there is one
infixl 10 ◌>>=◌
abbrev pub ◌>>=◌ : {A B : Type 0} → Option A → (A → Option B) → Option B
o >>= f = option_and_then f o

-- the name that an atom is
unfoldable pub as_atom : Tree → Option (List ℕ)
as_atom (atom s) = Some s
as_atom t = None

-- the elements of a list
unfoldable pub as_list : Tree → Option (List Tree)
as_list (list ts) = Some (list_of_trees ts)
as_list t = None

-- the parts of a tuple
unfoldable pub as_tuple : Tree → Option (List Tree)
as_tuple (tuple ts) = Some (list_of_trees ts)
as_tuple t = None

-- the number of an integer
unfoldable pub as_int : Tree → Option ℤ
as_int (int n) = Some n
as_int t = None

-- a list of two
abbrev pub pair_in : List Tree → Option (Tree × Tree)
pair_in (a ∷ (b ∷ [])) = Some (a, b)
pair_in ts = None

-- a list of three
abbrev pub triple_in : List Tree → Option (Tree × Tree × Tree)
triple_in (a ∷ (b ∷ (c ∷ []))) = Some (a, b, c)
triple_in ts = None

-- the parts of a tuple of two
unfoldable pub as_pair : Tree → Option (Tree × Tree)
as_pair t = as_tuple t >>= pair_in

-- the parts of a tuple of three
unfoldable pub as_triple : Tree → Option (Tree × Tree × Tree)
as_triple t = as_tuple t >>= triple_in

-- the parts of {Atom, Value}
unfoldable pub as_entry : Tree → Option (List ℕ × Tree)
as_entry t = do
  (name, value) ← as_pair t
  key ← as_atom name
  Some (key, value)

-- the name and the last part of {Word, Name, Part}
unfoldable pub as_headed : List ℕ → Tree → Option (List ℕ × Tree)
as_headed word t = do
  (first, second, part) ← as_triple t
  head ← as_atom first
  if bytes_eq head word then (do name ← as_atom second; Some (name, part)) else None

-- the name and SysConfig of {node, Name, SysConfig}
abbrev pub as_node : Tree → Option (List ℕ × Tree)
as_node = as_headed (codes "node")

-- the name and Keys of {application, Name, Keys}
abbrev pub as_app : Tree → Option (List ℕ × Tree)
as_app = as_headed (codes "application")

-- the number of a profile, if there is one of this number
abbrev pub if_profile : ℤ → Option ℕ
if_profile (pos n) = if is_profile n then Some n else None
if_profile n = None

-- the number of {profile, Number}
unfoldable pub as_profile : Tree → Option ℕ
as_profile t = do
  (key, value) ← as_entry t
  if bytes_eq key (codes "profile") then as_int value >>= if_profile else None

-- the names among these terms
abbrev pub atoms : List Tree → List (List ℕ)
atoms = filter_map as_atom

-- a number from 0 to the most
abbrev pub if_within : ℕ → ℤ → Option ℕ
if_within most (pos n) = if nat_le n most then Some n else None
if_within most n = None

-- a time in milliseconds, up to the longest timeout
unfoldable pub as_time : Tree → Option ℕ
as_time t = as_int t >>= if_within timeout_limit
