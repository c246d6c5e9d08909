-- The words at a place of a list (ours).
use Rattle.std.specs.Prelude.{ℕ, ◌≢◌, List, [], ◌∷◌, Option, Some, None}
use Rattle.rh_arena.specs.declared.change.Change.{Change}
use Rattle.rh_arena.specs.declared.change.Change.TheVariants.{Prev, Next, Owner, Count}
use Rattle.rh_arena.specs.declared.spot.Spot.{Spot}
use Rattle.rh_arena.specs.declared.spot.Values.{Values}
use Rattle.rh_arena.specs.Exchange.{word_of}
use Rattle.rh_arena.specs.Linking.{link_behind, link_before}

-- the six words at a place, each with its value
abbrev pub changes_at : Spot → Values → List Change
changes_at s v =
    Prev s.entry v.prev ∷ Next s.entry v.next ∷ Owner s.entry v.owner ∷ Count s.list v.count
    ∷ link_behind s.list s.before v.from_before ∷ link_before s.list s.after v.from_behind ∷ []

-- no entry is its own neighbour, so these are six different words
pub record IsBetween (s : Spot) : Type 0 where
  pub before : s.before ≢ Some s.entry
  pub after : s.after ≢ Some s.entry

-- of the changes at a place: which entry they put into a list or take out
abbrev pub entry_in : List Change → ℕ
entry_in [] = 0
entry_in (c ∷ cs) = (word_of c).1

-- and the list that they give it, if they give it one
abbrev pub list_in : List Change → Option ℕ
list_in [] = None
list_in (Owner i v ∷ cs) = v
list_in (c ∷ cs) = list_in cs
