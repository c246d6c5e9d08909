-- What a change asks of a state, where the state is sound and the event isn't refused.
use Rattle.std.proofs.Common.{◌≡◌, ◌≢◌, ◌||◌, Bool, true, false, cond, Option, Some, None, IsNone, is_some, refl, sym, ap, ◌∙◌, subst}
use Rattle.std.proofs.lemmas.Bool.{and_left}
use Rattle.rh_model.specs.declared.node.Node.{Node}
use Rattle.rh_model.specs.declared.node.App.{App}
use Rattle.rh_model.specs.declared.settings.Restart.{Restart}
use Rattle.rh_state.specs.declared.status.Mode.{Mode}
use Rattle.rh_state.specs.declared.status.Mode.TheVariants.{Down, Waiting, Up}
use Rattle.rh_state.specs.declared.status.Place.TheVariants.{Off, InRunning, InWaiting}
use Rattle.rh_state.specs.declared.status.Standing.TheVariants.{Running}
use Rattle.rh_state.specs.declared.status.Timer.TheVariants.{Sync, Failover}
use Rattle.rh_state.specs.StateView.{StateView, mode_of, is_alive, is_waiting, runs_at, waits_at, place_of, standing_of, due_of}
use Rattle.rh_trace.proofs.Places.{started_on}
use Rattle.rh_trace.specs.Validity.{IsSound}
use Rattle.rh_state.specs.Standings.{is_lost}
use Rattle.rh_rules.specs.declared.event.Event.TheVariants.{Boot, Start, Stop, Takeover}
use Rattle.rh_rules.specs.Refusals.{refused}
use Rattle.rh_refusals.proofs.Accepted.{differs, same_standing, accepted_boot, accepted_start, accepted_stop, accepted_takeover}

none_there : {A : Type 0} (o : Option A) → is_some o ≡ false → IsNone o
none_there None h = refl
none_there (Some x) h = absurd (cc h)

-- a node that is down waits for nothing, so it has no timer
not_waiting : (mode : Mode) → is_alive mode ≡ false → is_waiting mode ≡ false
not_waiting Down h = refl
not_waiting Waiting h = h
not_waiting Up h = refl

pub unset_sync : (s : StateView) (n : Node) → IsSound s → refused s (Boot n) ≡ None → IsNone (due_of s (Sync n))
unset_sync s n sound fine =
    none_there (due_of s (Sync n)) (sound.timers.sync n ∙ and_left _ _ (not_waiting (mode_of s n) (accepted_boot s n fine).down))

-- an application that stands as running isn't lost, so it has none either
pub unset_failover : (s : StateView) (n : Node) → IsSound s → (a : App) → standing_of s a ≡ Running n → IsNone (due_of s (Failover a))
unset_failover s n sound a stands = none_there (due_of s (Failover a)) (sound.timers.failover a ∙ ap is_lost stands)

-- where an application isn't started it stands in no list, and else in one
off_by : (p q : Bool) → (p || q) ≡ false → cond p InRunning (cond q InWaiting Off) ≡ Off
off_by true q h = absurd (cc h)
off_by false true h = absurd (cc h)
off_by false false h = refl

pub off_to_start : (s : StateView) (n : Node) (a : App) (r : Restart) → refused s (Start n a r) ≡ None → place_of s n a ≡ Off
off_to_start s n a r fine = off_by (runs_at s n a) (waits_at s n a) (accepted_start s n a r fine).unstarted

pub on_to_stop : (s : StateView) (n : Node) (a : App) → refused s (Stop n a) ≡ None → place_of s n a ≢ Off
on_to_stop s n a fine = started_on s n a (accepted_stop s n a fine).started

-- an application that is taken over runs at another node
pub runs_elsewhere : (s : StateView) (n : Node) (a : App) (r : Restart) → refused s (Takeover n a r) ≡ None → (m : Node) → standing_of s a ≡ Running m
    → m.0 ≢ n.0
runs_elsewhere s n a r fine m is =
    let h = accepted_takeover s n a r fine in
    subst (λ (k : Node). k.0 ≢ n.0) (same_standing h.from m (sym h.stands ∙ is)) (differs h.from.0 n.0 h.elsewhere)
