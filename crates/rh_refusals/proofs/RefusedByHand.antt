-- What refuses an event by hand: the tests that all such events have, and then its own.
use Rattle.std.proofs.Common.{◌≡◌, ◌||◌, Bool, true, false, cond, not, List, [], ◌∷◌, Option, Some, None, refl, sym, ap, ◌∙◌}
use Rattle.std.specs.Option.{option_or}
use Rattle.rh_model.specs.ClusterView.{is_listed_at}
use Rattle.rh_model.specs.declared.node.Node.{Node}
use Rattle.rh_model.specs.declared.node.App.{App}
use Rattle.rh_model.specs.declared.settings.Restart.{Restart}
use Rattle.rh_state.specs.declared.status.Place.{Place}
use Rattle.rh_state.specs.declared.status.Place.TheVariants.{Off, InRunning, InWaiting}
use Rattle.rh_state.specs.declared.status.Standing.{Standing}
use Rattle.rh_state.specs.StateView.{StateView, is_started, is_allowed, runs_at, waits_at, place_of, standing_of}
use Rattle.rh_rules.specs.Placing.{missing_dep}
use Rattle.rh_rules.specs.Course.{is_local}
use Rattle.rh_rules.specs.declared.event.Event.{Event}
use Rattle.rh_rules.specs.declared.event.Event.TheVariants.{Start, Stop, Permit, Takeover, Exit}
use Rattle.rh_rules.specs.declared.refusal.Refusal.{Refusal}
use Rattle.rh_rules.specs.declared.refusal.Refusal.TheVariants.{NotDistributed, NotListed, AlreadyStarted, NeverStarted, NotRunning, RunsHere, NotRunningHere, NotPermitted}
use Rattle.rh_rules.specs.Refusals.{refused, tests, tests_by_hand, dep_tests, first_that_applies}
use Rattle.rh_state.specs.Standings.{is_running, is_running_at}

-- what the tests that all have give, for any others behind them
abbrev pub TestsBy : StateView → Node → App → Option Refusal → Type 0
TestsBy s n a r = (others : List (Bool × Refusal)) → first_that_applies (tests_by_hand s n a others) ≡ option_or r (first_that_applies others)

shown : (s : StateView) (e : Event) → first_that_applies (tests s e) ≡ refused s e
unfolding refused
shown s e = refl

module _ (s : StateView) (n : Node) (a : App) (r : Option Refusal) (by : TestsBy s n a r) where
  one_of_them : (x : Refusal) (others : List (Bool × Refusal)) → r ≡ Some x → Some x ≡ first_that_applies (tests_by_hand s n a others)
  one_of_them x others is = sym (by others ∙ ap (λ (o : Option Refusal). option_or o (first_that_applies others)) is)

  none_of_them : (others : List (Bool × Refusal)) → r ≡ None → first_that_applies others ≡ first_that_applies (tests_by_hand s n a others)
  none_of_them others is = sym (by others ∙ ap (λ (o : Option Refusal). option_or o (first_that_applies others)) is)

  abbrev starting : List (Bool × Refusal)
  starting = (not (is_listed_at s.cluster a n), NotListed) ∷ (is_started s n a, AlreadyStarted) ∷ dep_tests (missing_dep s n a)

  abbrev taking : List (Bool × Refusal)
  taking =
      (is_local s.cluster a, NotDistributed) ∷ (not (is_listed_at s.cluster a n), NotListed) ∷ (not (is_running (standing_of s a)), NotRunning)
      ∷ (is_running_at n (standing_of s a), RunsHere) ∷ (not (is_allowed s n a), NotPermitted) ∷ dep_tests (missing_dep s n a)

  pub exit_some : (normal : Bool) (x : Refusal) → r ≡ Some x → Some x ≡ refused s (Exit n a normal)
  exit_some normal x is = one_of_them x ((not (runs_at s n a), NotRunningHere) ∷ []) is ∙ shown s (Exit n a normal)

  pub exit_none : (normal : Bool) → r ≡ None → cond (not (runs_at s n a)) (Some NotRunningHere) None ≡ refused s (Exit n a normal)
  exit_none normal is = none_of_them ((not (runs_at s n a), NotRunningHere) ∷ []) is ∙ shown s (Exit n a normal)

  pub stop_some : (x : Refusal) → r ≡ Some x → Some x ≡ refused s (Stop n a)
  stop_some x is = one_of_them x ((not (is_started s n a), NeverStarted) ∷ []) is ∙ shown s (Stop n a)

  pub stop_none : r ≡ None → cond (not (is_started s n a)) (Some NeverStarted) None ≡ refused s (Stop n a)
  stop_none is = none_of_them ((not (is_started s n a), NeverStarted) ∷ []) is ∙ shown s (Stop n a)

  or_none : (o : Option Refusal) → o ≡ option_or o None
  or_none None = refl
  or_none (Some x) = refl

  pub permit_all : (allow : Bool) → r ≡ refused s (Permit n a allow)
  permit_all allow = or_none r ∙ sym (by []) ∙ shown s (Permit n a allow)

  pub start_some : (restart : Restart) (x : Refusal) → r ≡ Some x → Some x ≡ refused s (Start n a restart)
  start_some restart x is = one_of_them x starting is ∙ shown s (Start n a restart)

  pub start_none : (restart : Restart) → r ≡ None → first_that_applies starting ≡ refused s (Start n a restart)
  start_none restart is = none_of_them starting is ∙ shown s (Start n a restart)

  pub takeover_some : (restart : Restart) (x : Refusal) → r ≡ Some x → Some x ≡ refused s (Takeover n a restart)
  takeover_some restart x is = one_of_them x taking is ∙ shown s (Takeover n a restart)

  pub takeover_none : (restart : Restart) → r ≡ None → first_that_applies taking ≡ refused s (Takeover n a restart)
  takeover_none restart is = none_of_them taking is ∙ shown s (Takeover n a restart)

  abbrev standing_tests : Standing → List (Bool × Refusal) → List (Bool × Refusal)
  standing_tests standing others = (not (is_running standing), NotRunning) ∷ (is_running_at n standing, RunsHere) ∷ others

  abbrev behind : List (Bool × Refusal)
  behind = (not (is_allowed s n a), NotPermitted) ∷ dep_tests (missing_dep s n a)

  -- a takeover that is refused for where the application stands
  pub takeover_stands : (restart : Restart) (standing : Standing) (q : Option Refusal) (x : Refusal) → r ≡ None
      → is_local s.cluster a ≡ false → is_listed_at s.cluster a n ≡ true → standing ≡ standing_of s a
      → ((others : List (Bool × Refusal)) → first_that_applies (standing_tests standing others) ≡ option_or q (first_that_applies others))
      → q ≡ Some x → Some x ≡ refused s (Takeover n a restart)
  takeover_stands restart standing q x is local listed stands each here =
      sym (ap (λ (b : Bool). cond b (Some NotDistributed)
      (first_that_applies ((not (is_listed_at s.cluster a n), NotListed) ∷ standing_tests (standing_of s a) behind))) local
      ∙ ap (λ (b : Bool). cond (not b) (Some NotListed) (first_that_applies (standing_tests (standing_of s a) behind))) listed
      ∙ ap (λ (v : Standing). first_that_applies (standing_tests v behind)) (sym stands)
      ∙ each behind
      ∙ ap (λ (o : Option Refusal). option_or o (first_that_applies behind)) here)
      ∙ takeover_none restart is

-- what a pair's place says
pub runs_there : (s : StateView) (n : Node) (a : App) → InRunning ≡ place_of s n a → runs_at s n a ≡ true
runs_there s n a h = by (runs_at s n a) (waits_at s n a) h
  where
    by : (p q : Bool) → InRunning ≡ cond p InRunning (cond q InWaiting Off) → p ≡ true
    by true q h = refl
    by false true h = cc
    by false false h = cc

pub doesnt_run : (s : StateView) (n : Node) (a : App) (p : Place) → p ≡ place_of s n a → (p ≡ InRunning → ⊥) → runs_at s n a ≡ false
doesnt_run s n a p is h = by (runs_at s n a) (waits_at s n a) is
  where
    by : (b q : Bool) → p ≡ cond b InRunning (cond q InWaiting Off) → b ≡ false
    by true q e = absurd (h e)
    by false q e = refl

-- and whether it is started
pub off_unstarted : (s : StateView) (n : Node) (a : App) → Off ≡ place_of s n a → is_started s n a ≡ false
off_unstarted s n a h = by (runs_at s n a) (waits_at s n a) h
  where
    by : (p q : Bool) → Off ≡ cond p InRunning (cond q InWaiting Off) → (p || q) ≡ false
    by true q h = cc
    by false true h = cc
    by false false h = refl

pub on_started : (s : StateView) (n : Node) (a : App) (p : Place) → p ≡ place_of s n a → (p ≡ Off → ⊥) → is_started s n a ≡ true
on_started s n a p is h = by (runs_at s n a) (waits_at s n a) is
  where
    by : (b q : Bool) → p ≡ cond b InRunning (cond q InWaiting Off) → (b || q) ≡ true
    by true q e = refl
    by false true e = refl
    by false false e = absurd (h e)
