-- Searches on live nodes beside runs (ours).
use Rattle.std.specs.Prelude.{◌≡◌, ◌≤◌, ◌+◌, ℕ, List, [], ◌∷◌, length, map, true, false, All, IfSome, Some, None}
use Rattle.std.specs.List.{Contains}
use Rattle.rh_rules.specs.declared.event.Event.{Event}
use Rattle.rh_calls.specs.declared.call.Call.TheVariants as call
use Rattle.rh_explore.specs.declared.bounds.Covered.{Covered}
use Rattle.rh_explore.specs.declared.bounds.Covered.TheVariants as covered
use Rattle.rh_explore.specs.declared.moves.Move.{Move}
use Rattle.rh_explore_text.specs.Asks.{AskView}
use Rattle.rh_otp_report.specs.Report.{report_of}
use Rattle.rh_otp_sim.specs.Laws.{behind}
use Rattle.rh_otp_sim.specs.Sim.{LiveSimView}
use Rattle.rh_otp_sim.specs.Stepping.{stepped, outcome_of}
use Rattle.rh_otp_sweep.specs.declared.sharing.TheConstants.{STEP_LIMIT}
use Rattle.rh_otp_explore.specs.Asking.{holds_in}
use Rattle.rh_otp_explore.specs.Coming.{is_made, not_up_count}
use Rattle.rh_otp_explore.specs.Due.{event_in}
use Rattle.rh_otp_explore.specs.Listing.{Scope}
use Rattle.rh_otp_explore.specs.Searching.{LiveExploredView, IsLiveAnswer}
use Rattle.rh_otp_explore.specs.Tallying.{AskedView, FailureView}

-- ---- runs

-- live nodes behind these events, given as a run gives its commands
abbrev pub behind_all : List Event → LiveSimView → LiveSimView
behind_all events run = behind (map (λ e. call.Step e) events) run

-- the event is one of these moves there
abbrev pub IsMove : List Move → LiveSimView → Event → Type 0
IsMove moves run e = (m : Move) × Contains moves m × (event_in (report_of run) m ≡ Some e)

-- Events may come in a run, one after the other: each is one of the moves, is carried out, whatever it is answered, and leaves no more
-- nodes than so many not up.
abbrev pub MayCome : Scope → List Event → LiveSimView → Type 0
MayCome w [] run = Unit {0}
MayCome w (e ∷ events) run =
    IsMove w.moves run e × (is_made (outcome_of e run) ≡ true) × (not_up_count (report_of (stepped e run)).nodes ≤ w.down)
    × MayCome w events (stepped e run)

-- ---- what fails

-- What is told of an ask that fails is so in a run of these events, of which there are no more than so many.
pub record FailsInRun (w : Scope) (base : LiveSimView) (steps : ℕ) (q : AskView) (f : FailureView) : Type 0 where
  pub few : length f.events ≤ steps
  pub comes : MayCome w f.events base
  pub told : f.report ≡ report_of (behind_all f.events base)
  pub fails : holds_in q (behind_all f.events base) ≡ false

abbrev pub FailuresAreRuns : Type 0
FailuresAreRuns = (w : Scope) (base : LiveSimView) (steps states : ℕ) (asks : List AskView) (x : LiveExploredView)
    → base.history.cursor + steps ≤ STEP_LIMIT → IsLiveAnswer w base steps states asks x
    → All (λ (q : AskedView). IfSome q.first (FailsInRun w base steps q.ask)) x.asked

-- ---- what holds

-- so many events are as many as the search covers
abbrev pub AreCovered : Covered → List Event → Type 0
AreCovered covered.All events = Unit {0}
AreCovered (covered.UpTo n) events = length events ≤ n

-- What is asked, if it hasn't failed, holds behind all events that may come in a run and that the search covers.
abbrev pub HoldsInRuns : Scope → LiveSimView → Covered → AskedView → Type 0
HoldsInRuns w base told q = q.first ≡ None → (events : List Event) → AreCovered told events → MayCome w events base
    → holds_in q.ask (behind_all events base) ≡ true

abbrev pub RunsAreSearched : Type 0
RunsAreSearched = (w : Scope) (base : LiveSimView) (steps states : ℕ) (asks : List AskView) (x : LiveExploredView)
    → base.history.cursor + steps ≤ STEP_LIMIT → IsLiveAnswer w base steps states asks x
    → All (HoldsInRuns w base x.covered) x.asked

-- ---- one answer

-- Two answers to one search tell as many lists, and the same of each ask. Of which lengths all were tried they may tell differently.
abbrev pub AnswersAreOne : Type 0
AnswersAreOne = (w : Scope) (base : LiveSimView) (steps states : ℕ) (asks : List AskView) (x y : LiveExploredView)
    → IsLiveAnswer w base steps states asks x → IsLiveAnswer w base steps states asks y → (x.lists ≡ y.lists) × (x.asked ≡ y.asked)
