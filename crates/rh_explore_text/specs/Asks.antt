-- What is asked of states, as words (ours).
use Rattle.std.specs.Prelude.{ℕ, List, [], ◌∷◌, ◌++◌, map, Bool, true, false, not, ◌-◌, nat_le, ◌&&◌, ◌==◌, length, take, slice_get, if◌then◌else◌, codes, Option, Some, None, is_some, unwrap_or}
use Rattle.std.specs.Prelude.{option_map, Vec}
use Rattle.std.specs.declared.alloc.Global.{Global}
use Rattle.std.specs.List.{list_all}
use Rattle.std.specs.Str.{bytes_eq}
use Rattle.rh_model.specs.ClusterView.{ClusterView, node_of, app_of, numbered}
use Rattle.rh_model.specs.declared.node.App.{App}
use Rattle.rh_script.specs.Commands.{milliseconds}
use Rattle.rh_explore.specs.declared.asking.Ask.{Ask}
use Rattle.rh_explore.specs.declared.asking.Condition.{Condition}
use Rattle.rh_explore.specs.declared.asking.Condition.TheVariants.{RunsSomewhere, IsNotUp, RunsAtMostOnce, NothingHangs}

-- what is asked: of each state or only of those without a timer; in how many milliseconds it has to be met, if not at once; and the
-- lists of conditions, of one of which all are to be so
pub record AskView : Type 0 where
  pub always : Bool
  pub within : Option ℕ
  pub any_of : List (List Condition)

abbrev pub ways_view : Vec (Vec Condition Global) Global → List (List Condition)
ways_view ways = map (λ way. way.items) ways.items

abbrev pub ask_view : Ask → AskView
ask_view ask = record { always = ask.always; within = ask.within; any_of = ways_view ask.any_of }

-- ---- its words

-- each of these names is that of a node
abbrev pub are_nodes : ClusterView → List (List ℕ) → Bool
are_nodes c names = list_all (λ name. is_some (node_of c name)) names

-- the condition that a node of this name isn't up
abbrev pub down_at : ClusterView → List ℕ → Condition
down_at c name = IsNotUp (unwrap_or (node_of c name) (numbered 255))

-- `down N N ..`: none of these nodes is up
abbrev pub all_down : ClusterView → List (List ℕ) → Option (List Condition)
all_down c names =
    if not (length names == 0) && are_nodes c names then Some (map (down_at c) names) else None

-- `or down N N ..` behind a condition: that is another way; nothing behind it is none
abbrev pub other_ways : ClusterView → List (List ℕ) → Option (List (List Condition))
other_ways c [] = Some []
other_ways c (word ∷ []) = None
other_ways c (word ∷ next ∷ names) =
    if bytes_eq word (codes "or") && bytes_eq next (codes "down") then option_map (λ way. way ∷ []) (all_down c names) else None

-- these ways, and that a condition is so
abbrev pub ways_with : Option Condition → Option (List (List Condition)) → Option (List (List Condition))
ways_with None ways = None
ways_with (Some condition) ways = option_map (λ others. others ++ (condition ∷ []) ∷ []) ways

-- `running` or `once`: the application of this name runs somewhere, or at no two nodes
abbrev pub state_named : ClusterView → List ℕ → List ℕ → Option Condition
state_named c name state =
    if bytes_eq state (codes "running") then option_map RunsSomewhere (app_of c name)
    else if bytes_eq state (codes "once") then option_map RunsAtMostOnce (app_of c name)
    else None

-- `nothing hangs`
abbrev pub hanging_named : List ℕ → List ℕ → Option (List (List Condition))
hanging_named word verb =
    if bytes_eq word (codes "nothing") && bytes_eq verb (codes "hangs") then Some ((NothingHangs ∷ []) ∷ []) else None

-- that, or `app A running` or `app A once`, and other ways behind these
abbrev pub ways_named : ClusterView → List (List ℕ) → Option (List (List Condition))
ways_named c [] = None
ways_named c (word ∷ []) = None
ways_named c (word ∷ name ∷ []) = hanging_named word name
ways_named c (word ∷ name ∷ state ∷ more) =
    if bytes_eq word (codes "app") then ways_with (state_named c name state) (other_ways c more) else None

-- what is asked of each state, with or without `always`: that nothing hangs, or that an application runs once
abbrev pub is_of_each : List (List ℕ) → Bool
is_of_each [] = false
is_of_each (word ∷ []) = false
is_of_each (word ∷ name ∷ []) = true
is_of_each (word ∷ name ∷ state ∷ more) = bytes_eq state (codes "once")

abbrev pub asked_of : Bool → Option (List (List Condition)) → Option AskView
asked_of always = option_map (λ ways. record { always = always; within = None; any_of = ways })

-- `always` in front: it is asked of each state
abbrev pub at_once_named : ClusterView → List (List ℕ) → Option AskView
at_once_named c [] = None
at_once_named c (word ∷ words) =
    if bytes_eq word (codes "always") then asked_of true (ways_named c words)
    else asked_of (is_of_each (word ∷ words)) (ways_named c (word ∷ words))

-- ---- `within D` behind it: it is asked of each state, and time may pass

abbrev pub is_within : Option (List ℕ) → Bool
is_within None = false
is_within (Some word) = bytes_eq word (codes "within")

-- the last word but one
abbrev pub ends_within : List (List ℕ) → Bool
ends_within words = nat_le 2 (length words) && is_within (slice_get words (length words - 2))

-- so many milliseconds, the last word
abbrev pub time_named : List (List ℕ) → Option ℕ
time_named words = milliseconds (unwrap_or (slice_get words (length words - 1)) [])

abbrev pub soon : Option ℕ → Option AskView → Option AskView
soon None asked = None
soon (Some ms) asked = option_map (λ (q : AskView). record q { always = true; within = Some ms }) asked

abbrev pub ask_named : ClusterView → List (List ℕ) → Option AskView
ask_named c words =
    if ends_within words then soon (time_named words) (at_once_named c (take (length words - 2) words)) else at_once_named c words
