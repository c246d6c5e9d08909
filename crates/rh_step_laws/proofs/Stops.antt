-- An application that is stopped is quiet, and starts nowhere of itself.
use Rattle.std.proofs.Common.{◌≡◌, true, false, cond, List, [], ◌∷◌, length, fold, None, refl, sym, ap, ◌∙◌, ◌<◌, arith}
use Rattle.rh_model.specs.ClusterView.{ClusterView}
use Rattle.rh_model.specs.declared.node.Node.{Node}
use Rattle.rh_model.specs.declared.node.App.{App}
use Rattle.rh_state.specs.declared.status.Standing.TheVariants.{Quiet, Running}
use Rattle.rh_state.specs.Numbers.{nodes_of}
use Rattle.rh_state.specs.StateView.{StateView, runs_at, standing_of}
use Rattle.rh_state.specs.Setters.{with_standing, unlisted}
use Rattle.rh_rules.specs.declared.pick.Pick.{Pick}
use Rattle.rh_rules.specs.Course.{Course, course_of, is_local}
use Rattle.rh_rules.specs.NodesStart.{is_ready, come_up, come_up_if_ready, ready_come_up}
use Rattle.rh_rules.specs.Settling.{settled}
use Rattle.rh_trace.specs.Validity.{IsSound, IsValid}
use Rattle.rh_rules.specs.declared.event.Event.{Event}
use Rattle.rh_rules.specs.declared.event.Event.TheVariants.{Stop}
use Rattle.rh_rules.specs.ByHand.{stopped, left_waiting}
use Rattle.rh_rules.specs.Steps.{change, followed, next}
use Rattle.rh_rules.specs.Refusals.{refused}
use Rattle.rh_step_laws.specs.Laws.{StopLeavesQuiet}
use Rattle.rh_trace.proofs.Entries.{is_false}
use Rattle.rh_trace.proofs.Places.{at_set_here}
use Rattle.rh_settle.proofs.Resting.{rests, settled_rests}
use Rattle.rh_settle.proofs.Unchanged.{settled_cluster}
use Rattle.rh_refusals.proofs.Accepted.{accepted_stop}
use Rattle.rh_events.proofs.EachEvent.{change_cluster}
use Rattle.rh_events.proofs.Fields.{stopped_same}
use Rattle.rh_events.proofs.SoundComingUp.{ready_come_up_cluster}
use Rattle.rh_step.proofs.AnyTime.{ready_alike}
use Rattle.rh_step.proofs.Validity.{next_valid}

-- where no node is ready, none comes up
none_comes : (ns : List Node) (o : Course) → ((m : Node) → is_ready o.state m ≡ false) → fold come_up_if_ready o ns ≡ o
unfolding come_up_if_ready
none_comes [] o h = refl
none_comes (n ∷ ns) o h = ap (λ b. fold come_up_if_ready (cond b (come_up o n) o) ns) (h n) ∙ none_comes ns o h

pub none_rises : (o : Course) → ((m : Node) → is_ready o.state m ≡ false) → ready_come_up o ≡ o
unfolding ready_come_up
none_rises o h = none_comes (nodes_of o.state.cluster) o h

stopped_quiet : (o : Course) (n : Node) (a : App) → is_local o.state.cluster a ≡ false → a.0 < length o.state.standings
    → standing_of (stopped o n a).state a ≡ Quiet
unfolding stopped
stopped_quiet o n a far lt =
    ap (λ b. standing_of (cond b (unlisted o.state n a) (with_standing (unlisted o.state n a) a Quiet)) a) far
    ∙ at_set_here o.state.standings a.0 Quiet Quiet lt

stop_is : (o : Course) (n : Node) (a : App) → runs_at o.state n a ≡ true → change o (Stop n a) ≡ stopped o n a
stop_is o n a runs = ap (λ b. cond b (stopped o n a) (left_waiting o n a)) runs

followed_quiet : (s : StateView) (n : Node) (a : App) (pick : Pick) → IsValid s → refused s (Stop n a) ≡ None → is_local s.cluster a ≡ false
    → runs_at s n a ≡ true → standing_of (followed pick (course_of s [] []) (Stop n a)).state a ≡ Quiet
unfolding followed
followed_quiet s n a pick valid fine far runs =
    let o : Course = course_of s [] [] in
    let t : Course = stopped o n a in
    let same = stopped_same o n a in
    let still : (m : Node) → is_ready t.state m ≡ false = λ m. ready_alike s t.state m same.cluster same.modes ∙ valid.settled m in
    let app = (accepted_stop s n a fine).hand.app in
    let size = valid.sound.shaped.standings in
    let quiet : standing_of t.state a ≡ Quiet = stopped_quiet o n a far (omega (arith, app, size)) in
    ap (λ (p : Course). standing_of (settled pick (ready_come_up p)).state a) (stop_is o n a runs)
    ∙ ap (λ (p : Course). standing_of (settled pick p).state a) (none_rises t still)
    ∙ settled_rests pick t a (ap rests quiet)
    ∙ quiet

followed_cluster : (pick : Pick) (o : Course) (e : Event) → (followed pick o e).state.cluster ≡ o.state.cluster
unfolding followed
followed_cluster pick o e = settled_cluster pick (ready_come_up (change o e)) ∙ ready_come_up_cluster (change o e) ∙ change_cluster o e

-- one that is quiet runs nowhere
runs_nowhere : (t : StateView) (a : App) (m : Node) → IsSound t → is_local t.cluster a ≡ false → standing_of t a ≡ Quiet → runs_at t m a ≡ false
runs_nowhere t a m sound far quiet = is_false (runs_at t m a) (λ r. clash (sym quiet ∙ sound.standing.stands m a far r))
  where
    clash : Quiet ≡ Running m → ⊥
    clash e = cc e

pub stop_leaves_quiet : StopLeavesQuiet
unfolding next
stop_leaves_quiet s n a pick valid fine far runs =
    let quiet = followed_quiet s n a pick valid fine far runs in
    let later = next_valid s (Stop n a) pick valid fine in
    let c = followed_cluster pick (course_of s [] []) (Stop n a) in
    (quiet, λ m. runs_nowhere (followed pick (course_of s [] []) (Stop n a)).state a m later.sound (ap (λ (k : ClusterView). is_local k a) c ∙ far) quiet)
