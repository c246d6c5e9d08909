-- How a verdict is told (ours).
use Rattle.std.specs.Prelude.{◌≡◌, ℕ, List, Option, Some, None, slice_get}
use Rattle.rh_explore.specs.declared.answers.Verdict.{Verdict}
use Rattle.rh_explore.specs.declared.answers.Verdict.TheVariants.{Holds, Fails}
use Rattle.rh_explore.specs.declared.space.Found.{Found}
use Rattle.rh_explore.specs.Kept.{paths_of}

-- by the number of the first state in which what is asked doesn't hold, if there is one
abbrev pub IsTold : List Found → Option ℕ → Verdict → Type 0
IsTold found None Holds = Unit {0}
IsTold found None (Fails es) = ⊥
IsTold found (Some i) Holds = ⊥
IsTold found (Some i) (Fails es) = slice_get (paths_of found) i ≡ Some es.items
