-- No call changes the cluster or the pick.
use Rattle.std.proofs.Common.{◌≡◌, ◌==◌, length, Option, Some, None, Bool, true, false, cond, refl}
use Rattle.rh_rules.specs.declared.event.Event.{Event}
use Rattle.rh_rules.specs.declared.refusal.Refusal.{Refusal}
use Rattle.rh_rules.specs.Refusals.{refused}
use Rattle.rh_calls.specs.declared.call.Call.{Call}
use Rattle.rh_calls.specs.declared.call.Call.TheVariants as call
use Rattle.rh_trail.specs.SimView.{SimView, state_of}
use Rattle.rh_trail.specs.Lone.{Served, served, stepped, opened, trail_limit}

-- the new simulation of the cluster and the pick of another
abbrev pub base_of : Served → SimView
base_of v = opened v.sim.cluster v.sim.pick

base-cond : (s : SimView) (b : Bool) (v w : Served) → base_of v ≡ opened s.cluster s.pick → base_of w ≡ opened s.cluster s.pick
    → base_of (cond b v w) ≡ opened s.cluster s.pick
base-cond s true v w p q = p
base-cond s false v w p q = q

base-stepped : (s : SimView) (e : Event) (o : Option Refusal) → base_of (stepped s e o) ≡ opened s.cluster s.pick
base-stepped s e (Some r) = refl
base-stepped s e None = base-cond s (s.cursor == trail_limit) _ _ refl refl

-- a call keeps cluster and pick
pub base-served : (s : SimView) (c : Call) → base_of (served s c) ≡ opened s.cluster s.pick
base-served s (call.Step e) = base-stepped s e (refused (state_of s) e)
base-served s call.Undo = base-cond s (s.cursor == 0) _ _ refl refl
base-served s call.Redo = base-cond s (s.cursor == length s.trail) _ _ refl refl
base-served s call.UndoAll = refl
base-served s call.RedoAll = refl
base-served s call.Look = refl
