-- In which order lists of events come: shorter ones first, and those that are as long in the order of the moves (ours).
use Rattle.std.specs.Prelude.{◌≡◌, ◌⊎◌, ◌<◌, ◌≤◌, ℕ, List, [], ◌∷◌, length, slice_get, Some}
use Rattle.rh_state.specs.StateView.{StateView}
use Rattle.rh_rules.specs.declared.event.Event.{Event}
use Rattle.rh_step.specs.Runs.{step}
use Rattle.rh_explore.specs.declared.moves.Move.{Move}
use Rattle.rh_explore.specs.Moves.{event_in}
use Rattle.rh_explore.specs.Reaching.{Scope}

-- one event comes before another in a state: a move is the one there, and neither it nor a move in front of it is the other
pub record Precedes (w : Scope) (s : StateView) (d e : Event) : Type 0 where
  pub place : ℕ
  pub move : Move
  pub listed : slice_get w.moves place ≡ Some move
  pub is : event_in s move ≡ Some d
  pub first : (k : ℕ) (m : Move) → k ≤ place → slice_get w.moves k ≡ Some m → event_in s m ≡ Some e → ⊥

-- where two lists part, the event of the one comes before that of the other
abbrev pub PartsBefore : Scope → StateView → List Event → List Event → Type 0
PartsBefore w s [] fs = ⊥
PartsBefore w s (d ∷ es) [] = ⊥
PartsBefore w s (d ∷ es) (e ∷ fs) = Precedes w s d e ⊎ ((d ≡ e) × PartsBefore w (step w.pick s d) es fs)

-- from the base on, one list comes before another: it is shorter, or it is as long and parts before it
abbrev pub ComesBefore : Scope → List Event → List Event → Type 0
ComesBefore w es fs = (length es < length fs) ⊎ ((length es ≡ length fs) × PartsBefore w w.base es fs)
