-- A mark for each application, and which ones a cluster keeps marked (ours).
use Rattle.std.specs.Prelude.{◌≡◌, ◌<◌, ◌≤◌, ◌==◌, ◌||◌, ℕ, List, [], Bool, false, length, slice_get, filter_map, unwrap_or, is_none}
use Rattle.std.specs.Int.{bit_at}
use Rattle.std.specs.List.{list_any}
use Rattle.std.specs.Option.{option_map, option_and_then}
use Rattle.rh_model.specs.declared.node.App.{App}
use Rattle.rh_model.specs.declared.settings.Dep.{Dep}
use Rattle.rh_model.specs.declared.limits.TheConstants.{MAX_APPS}
use Rattle.rh_model.specs.ClusterView.{ClusterView, AppView}
use Rattle.rh_model.specs.Needs.{listed, needed_apps}

-- for each application, by its number, a mark: bit a is 1 where application a is marked
pub record AppMarks : Type 0 where
  pub marks : ℕ

-- the marks that the bits of a number are
abbrev pub marks_of : ℕ → AppMarks
marks_of marks = record { marks = marks }

-- is an application marked?
unfoldable pub is_marked : AppMarks → App → Bool
is_marked t a = bit_at t.marks a.0 == 1

-- a move of an application touches itself, and each application that needs it
abbrev pub touches : ClusterView → App → App → Bool
touches c moved a = a.0 == moved.0 || list_any (λ (b : App). moved.0 == b.0) (needed_apps c a)

-- for each application, by its number, marks
pub record MarkRows : Type 0 where
  pub rows : List AppMarks

-- an application is marked in the row of another one
unfoldable pub is_marked_in : MarkRows → App → App → Bool
is_marked_in t b a = is_marked (unwrap_or (slice_get t.rows b.0) (marks_of 0)) a

-- an application with these dependencies is touched by a move of this one: it is that one, or needs it
abbrev pub is_touched_by : App → App → List Dep → Bool
is_touched_by moved a deps = a.0 == moved.0 || list_any (λ (b : App). moved.0 == b.0) (filter_map listed deps)

-- of these applications those that aren't distributed are marked, and no other number is
pub record MarksLocals (apps : List AppView) (marks : AppMarks) : Type 0 where
  pub these : (a : App) → a.0 < length apps → is_marked marks a ≡ is_none (option_and_then (λ (v : AppView). v.spread) (slice_get apps a.0))
  pub others : (a : App) → length apps ≤ a.0 → is_marked marks a ≡ false

-- in the row of each application those of these are marked that a move of it touches, and no other number is
pub record MarksTouched (apps : List AppView) (t : MarkRows) : Type 0 where
  pub these : (b a : App) → b.0 < MAX_APPS → a.0 < length apps
      → is_marked_in t b a ≡ is_touched_by b a (unwrap_or (option_map (λ (v : AppView). v.deps) (slice_get apps a.0)) [])
  pub others : (b a : App) → b.0 < MAX_APPS → length apps ≤ a.0 → is_marked_in t b a ≡ false
