-- A law of keys (ours).
use Rattle.std.specs.Prelude.{◌≡◌, ◌↔◌}
use Rattle.rh_state.specs.Shape.{IsShaped}
use Rattle.rh_state.specs.StateView.{StateView}
use Rattle.rh_keys.specs.Shifts.{Alike}
use Rattle.rh_keys.specs.Keys.{key_of}

-- two states of one cluster are alike exactly if their keys are equal
abbrev pub KeysTellApart : Type 0
KeysTellApart = (s t : StateView) → IsShaped s → IsShaped t → t.cluster ≡ s.cluster → (key_of s ≡ key_of t) ↔ Alike s t
