-- The states that events can reach from a base (Distributed Applications; ours for the bounds).
use Rattle.std.specs.Prelude.{◌≡◌, ◌≤◌, ℕ, None, Some, List, [], ◌∷◌, length, fold, not, count_by, Any}
use Rattle.rh_state.specs.Numbers.{nodes_of}
use Rattle.rh_state.specs.StateView.{StateView, mode_of, is_up}
use Rattle.rh_rules.specs.declared.event.Event.{Event}
use Rattle.rh_rules.specs.declared.pick.Pick.{Pick}
use Rattle.rh_rules.specs.Refusals.{refused}
use Rattle.rh_step.specs.Runs.{step}
use Rattle.rh_explore.specs.declared.moves.Move.{Move}
use Rattle.rh_explore.specs.Moves.{event_in}

-- what may happen, and from where: each of these moves, as often as one likes, with at most so many nodes not up behind each
pub record Scope : Type 0 where
  pub base : StateView
  pub pick : Pick
  pub moves : List Move
  pub down : ℕ

-- how many nodes wait or are down
abbrev pub not_up_count : StateView → ℕ
not_up_count s = count_by (λ n. not (is_up (mode_of s n))) (nodes_of s.cluster)

-- one of the moves of the scope is this event in a state
abbrev pub IsMove : Scope → StateView → Event → Type 0
IsMove w s e = Any (λ m. event_in s m ≡ Some e) w.moves

-- an event may come in a state: a move is that event, the rules accept it, and few enough nodes are not up behind it
pub record MayCome (w : Scope) (s : StateView) (e : Event) : Type 0 where
  pub listed : IsMove w s e
  pub accepted : refused s e ≡ None
  pub few : not_up_count (step w.pick s e) ≤ w.down

-- these may come, one after the other
abbrev pub MayAllCome : Scope → StateView → List Event → Type 0
MayAllCome w s [] = Unit {0}
MayAllCome w s (e ∷ es) = MayCome w s e × MayAllCome w (step w.pick s e) es

-- the state behind them
abbrev pub behind : Scope → StateView → List Event → StateView
behind w s es = fold (step w.pick) s es

-- some events that may come, at most so many, lead from the base to this state
pub record Reaches (w : Scope) (most : ℕ) (s : StateView) : Type 0 where
  pub events : List Event
  pub may_come : MayAllCome w w.base events
  pub few : length events ≤ most
  pub leads : behind w w.base events ≡ s
