-- The base of a search as lines of JSON (ours).
use Rattle.std.specs.Prelude.{◌≡◌, ℕ, ◌+◌, List, [], ◌∷◌, ◌++◌, map, Bool, true, false}
use Rattle.rh_calls.specs.declared.call.Call.{Call}
use Rattle.rh_model.specs.ClusterView.{ClusterView}
use Rattle.rh_json.specs.RunJson.{Asked, asked_in}
use Rattle.rh_otp_json.specs.LiveJson.{answer_lines}
use Rattle.rh_otp_sim.specs.Laws.{behind}
use Rattle.rh_otp_sim.specs.Sim.{LiveSimView}

-- what commands ask
abbrev pub calls_in : List Asked → List Call
calls_in asked = map (λ a. a.call) asked

-- the lines of the base's commands, as in a run: a run takes the line that begins the search for no command
abbrev pub base_json : LiveSimView → List (List ℕ) → List ℕ
base_json sim lines = answer_lines sim (asked_in sim.cluster 1 lines)

-- one line was answered, and the other lines are left; or no command is left
abbrev pub GoesOn : Bool → ClusterView → LiveSimView → LiveSimView → ℕ → List ℕ → List (List ℕ) → List ℕ → List ℕ → Type 0
GoesOn true c sim later k line lines old new =
    (old ++ answer_lines sim (asked_in c k (line ∷ lines)) ≡ new ++ answer_lines later (asked_in c (k + 1) lines))
    × (behind (calls_in (asked_in c k (line ∷ lines))) sim ≡ behind (calls_in (asked_in c (k + 1) lines)) later)
GoesOn false c sim later k line lines old new = (asked_in c k (line ∷ lines) ≡ []) × (later ≡ sim) × (new ≡ old)
