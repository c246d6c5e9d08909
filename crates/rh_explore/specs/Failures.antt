-- Where what is asked fails, among the states that were found so far (ours).
use Rattle.std.specs.Prelude.{◌≡◌, ◌<◌, ℕ, true, false, List, Option, Some, None, length, fold, set, slice_get, All, Contains}
use Rattle.rh_state.specs.StateView.{StateView}
use Rattle.rh_rules.specs.declared.pick.Pick.{Pick}
use Rattle.rh_explore.specs.declared.asking.Ask.{Ask}
use Rattle.rh_explore.specs.Asking.{holds_in}

-- what is asked doesn't hold in the state of this number, and it does in all before it
pub record FailsAt (pick : Pick) (states : List StateView) (ask : Ask) (i : ℕ) : Type 0 where
  pub fails : (s : StateView) × (slice_get states i ≡ Some s) × (holds_in pick ask s ≡ false)
  pub earlier : (k : ℕ) (s : StateView) → k < i → slice_get states k ≡ Some s → holds_in pick ask s ≡ true

-- it holds in all of these states
abbrev pub HoldsInAll : Pick → List StateView → Ask → Type 0
HoldsInAll pick states ask = All (λ s. holds_in pick ask s ≡ true) states

-- of each ask the first state in which it doesn't hold is known, or it holds in all
pub record AreFirsts (pick : Pick) (firsts : List (Option ℕ)) (asks : List Ask) (states : List StateView) : Type 0 where
  pub count : length firsts ≡ length asks
  pub known : (j i : ℕ) (ask : Ask) → slice_get firsts j ≡ Some (Some i) → slice_get asks j ≡ Some ask → FailsAt pick states ask i
  pub unknown : (j : ℕ) (ask : Ask) → slice_get firsts j ≡ Some None → slice_get asks j ≡ Some ask → HoldsInAll pick states ask

-- of the asks that hold in all states so far these fail in one, and maybe others that failed before
pub record FailThere (pick : Pick) (firsts : List (Option ℕ)) (asks : List Ask) (s : StateView) (fails : List ℕ) : Type 0 where
  pub told : (j : ℕ) (ask : Ask) → slice_get firsts j ≡ Some None → slice_get asks j ≡ Some ask → holds_in pick ask s ≡ false → Contains fails j
  pub each : All (λ j. (ask : Ask) × (slice_get asks j ≡ Some ask) × (holds_in pick ask s ≡ false)) fails

-- the state of a number is the first in which an ask fails, where it failed in none before
abbrev pub told_where : ℕ → List (Option ℕ) → ℕ → Option (Option ℕ) → List (Option ℕ)
told_where number firsts j (Some None) = set firsts j (Some number)
told_where number firsts j (Some (Some i)) = firsts
told_where number firsts j None = firsts

abbrev pub told_at : ℕ → List (Option ℕ) → ℕ → List (Option ℕ)
told_at number firsts j = told_where number firsts j (slice_get firsts j)

-- so for each of these
abbrev pub all_told : ℕ → List (Option ℕ) → List ℕ → List (Option ℕ)
all_told number firsts fails = fold (told_at number) firsts fails
