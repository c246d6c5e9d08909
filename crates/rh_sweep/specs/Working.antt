-- What is said within a sweep, where a plan or the work is done in part (ours).
use Rattle.std.specs.Prelude.{◌≡◌, ◌≤◌, ◌<◌, ◌+◌, ◌*◌, ℕ, false, List, [], length, take, Option, Some, None, Result, Ok, Err, Vec, slice_get}
use Rattle.std.specs.Option.{option_map}
use Rattle.rh_rules.specs.declared.refusal.Refusal.{Refusal}
use Rattle.rh_trace.specs.Validity.{IsValid}
use Rattle.rh_state.specs.Records.{LedBy}
use Rattle.rh_state.specs.StateView.{StateView}
use Rattle.rh_state.specs.Stored.{read}
use Rattle.rh_trail.specs.Chain.{chain}
use Rattle.rh_trail.specs.SimView.{SimView, Held, state_of}
use Rattle.rh_plans.specs.declared.plan.Outcome.{Outcome}
use Rattle.rh_plans.specs.declared.plan.Plan.{Plan}
use Rattle.rh_sweep.specs.declared.branch.Branch.{Branch}
use Rattle.rh_outcomes.specs.Outcomes.{outcome_of, standings_in}
use Rattle.rh_outcomes.specs.Sweeping.{IsAtEnd}

-- the outcome of a plan that ends in this state
abbrev pub ended : StateView → ℕ → Option (ℕ × Refusal) → ℕ → ℕ → Outcome
ended s accepted refused failovers takeovers = record {
  accepted = accepted;
  refused = refused;
  standings = standings_in s;
  failovers = failovers;
  takeovers = takeovers;
}

-- a simulation that went on from another, which was at its end: what stood there stands, with its records and its words
pub record IsAhead (s t : Held) : Type 0 where
  pub cluster : t.seen.cluster ≡ s.seen.cluster
  pub pick : t.seen.pick ≡ s.seen.pick
  pub begins : take s.seen.cursor t.seen.trail ≡ s.seen.trail
  pub further : s.seen.cursor ≤ t.seen.cursor
  pub chain : (k : ℕ) → k ≤ s.seen.cursor → chain t k ≡ chain s k
  pub records : take s.seen.cursor t.records ≡ take s.seen.cursor s.records

-- it went on from its base, and is where this simulation is
pub record WentOn (t base : Held) (s : SimView) : Type 0 where
  pub seen : t.seen ≡ s
  pub end : IsAtEnd s
  pub ahead : IsAhead base t

-- a branch of a base is where this simulation is, which went on from the base; unless its edits were dropped, they lead back
pub record IsBranch (b : Branch) (base : Held) (s : SimView) : Type 0 where
  pub pick : b.pick ≡ base.seen.pick
  pub same : s.pick ≡ base.seen.pick
  pub within : s.cursor ≤ length s.trail
  pub state : read b.state ≡ state_of s
  pub valid : IsValid (read b.state)
  pub led : b.dropped ≡ false → LedBy base.words b.edits.items b.state

-- it is where its base is, word for word, and has nothing to take back
pub record IsAtBase (b : Branch) (base : Held) : Type 0 where
  pub pick : b.pick ≡ base.seen.pick
  pub words : b.state ≡ base.words
  pub none : b.edits.items ≡ []
  pub kept : b.dropped ≡ false

-- the outcomes of the plans first, first + k, first + 2k and so on, and no others
abbrev pub AreOutcomes : SimView → List Plan → ℕ → ℕ → List Outcome → Type 0
AreOutcomes base plans k first outcomes = (j : ℕ) → slice_get outcomes j ≡ option_map (outcome_of base) (slice_get plans (first + j * k))

-- it holds of the numbers first, first + k, first + 2k and so on below a count: those of the plans of one of k workers
abbrev pub EachOf : (ℕ → Type 0) → ℕ → ℕ → ℕ → Type 0
EachOf P count k first = (j : ℕ) → first + j * k < count → P (first + j * k)

-- what a worker gave, if it had memory
abbrev pub given : {X Z E : Type 0} → Result (Vec X Z) E → Option (List X)
given (Ok items) = Some items.items
given (Err _) = None
