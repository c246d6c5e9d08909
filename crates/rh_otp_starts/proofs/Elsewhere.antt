-- A call that starts an application, where nodes were at rest and the node's dist_ac finds it running elsewhere.
use Rattle.std.proofs.Common.{◌≡◌, ◌⊎◌, ℕ, Bool, true, false, cond, List, [], Some, refl, sym, ap, subst, ◌∙◌, inl, inr}
use Rattle.std.proofs.lemmas.Bool.{cases_Bool}
use Rattle.rh_model.specs.ClusterView.{ClusterView}
use Rattle.rh_model.specs.declared.node.App.{App}
use Rattle.rh_model.specs.declared.node.Node.{Node}
use Rattle.rh_otp_model.specs.declared.message.Message.TheVariants as message
use Rattle.rh_otp_model.specs.declared.message.Reply.{Reply}
use Rattle.rh_otp_model.specs.declared.message.Reply.TheVariants as reply_of
use Rattle.rh_otp_model.specs.Own.{OwnView, controls}
use Rattle.rh_otp_controller.specs.Changes.{received}
use Rattle.rh_otp_dist.specs.declared.state.Standing.TheVariants as standing
use Rattle.rh_otp_dist.specs.Attempts.{finish, runs_elsewhere}
use Rattle.rh_otp_dist.specs.Choosing.{places_of, candidates_of, remote, runs_there, is_to_start, start_distributed, outside}
use Rattle.rh_otp_dist.specs.State.{DistView, TurnView, is_among}
use Rattle.rh_otp_dist.specs.Views.{AttemptView}
use Rattle.rh_otp_system.specs.declared.calls.Ask.TheVariants as ask
use Rattle.rh_otp_system.specs.declared.calls.Call.{Call}
use Rattle.rh_otp_system.specs.Doing.{called, call_of}
use Rattle.rh_otp_system.specs.State.{SystemView, node_at, own_at}
use Rattle.rh_otp_orders.specs.Confluence.{IsOrderly}
use Rattle.rh_otp_crashes.specs.Failovers.{first_of}
use Rattle.rh_otp_crashes.proofs.Turning.{turn}
use Rattle.rh_otp_locks.proofs.Locks.{none_at_rest}
use Rattle.rh_otp_stops.specs.Stops.{EndsAlike}
use Rattle.rh_otp_stops.proofs.Stop.{turn_at}
use Rattle.rh_otp_starts.specs.Elsewhere.{RunsElsewhere, StartsElsewhereEndAlike, asked_attempt}
use Rattle.rh_otp_starts.proofs.Asking.{asks_start, replied_at}
use Rattle.rh_otp_starts.proofs.Deciding.{Replied, asked_turn, reply_orderly, asked_orderly}
use Rattle.rh_otp_starts.proofs.Requests.{Decided, asking, starts_first, starts_outside, told_so}
use Rattle.rh_otp_starts.proofs.Saying.{Ends}
use Rattle.rh_otp_starts.proofs.Start.{over_before, asked_so, command_alike, starts_alike}

-- ---- the dist_ac finds it there

pub starts_there : (a : App) (t : TurnView) (r : RunsElsewhere t.own t.here.node a t.state)
    → start_distributed (asked_attempt t.state a) t ≡ told_so a (reply_of.Started r.at) (standing.Distributed r.at) t
unfolding runs_elsewhere finish
starts_there a t r = by r.found
  where
    attempt : AttemptView
    attempt = asked_attempt t.state a

    candidates : List Node
    candidates = candidates_of t.own attempt

    by : ((is_among t.here.node candidates ≡ true) × (first_of candidates (places_of t.own a) ≡ Some r.at) × (runs_there t.state a r.at ≡ true))
        ⊎ ((is_among t.here.node candidates ≡ false) × (remote t.state a ≡ Some r.at))
        → start_distributed attempt t ≡ told_so a (reply_of.Started r.at) (standing.Distributed r.at) t
    by (inl (among, first, there)) =
        starts_first a r.at t among first
        ∙ ap (λ (b : Bool). cond b (runs_elsewhere attempt r.at t) (is_to_start attempt r.at t)) there
    by (inr (not_among, known)) =
        starts_outside a t not_among ∙ ap (λ o. outside attempt candidates o t) known

-- it tells where the application runs
abbrev IsAway : Reply → Type 0
IsAway r = (m : Node) × (r ≡ reply_of.Started m)

decides : (own : OwnView) (n : Node) (a : App) (d : DistView) → RunsElsewhere own n a d → Decided IsAway own n a d
decides own n a d r = record {
  answer = reply_of.Started r.at;
  is_so = (r.at, refl);
  standing = standing.Distributed r.at;
  starts = λ (c : ClusterView) (life w : ℕ). starts_there a (asking w (turn c own n life d)) (record { at = r.at; found = r.found });
}

-- ---- the law

told_away : {lives : Node → ℕ} {c : Call} (r : Reply) (s t : SystemView) → IsAway r → Replied lives c r s t → IsOrderly t
told_away {lives} {c} r s t (m, is) f =
    let x = (node_at s c.node).controller in
    reply_orderly r s t f
    (subst (λ (y : Reply). Ends (turn_at s c.node).here c (received (message.Reply c.app y) (asked_turn c f.row s))) (sym is)
    (replied_at c m f.row x.start_req x.starting (turn_at s c.node) f.not_ending f.nobody))

pub elsewhere_alike : StartsElsewhereEndAlike
elsewhere_alike s n a restart reached rest soon finds = by (cases_Bool (controls (own_at s n) a))
  where
    c : Call
    c = call_of (ask.Start restart) n a s

    -- nobody has a lock where all are at rest
    none : s.locks ≡ []
    none = none_at_rest s reached rest

    by : (controls (own_at s n) a ≡ true) ⊎ (controls (own_at s n) a ≡ false) → EndsAlike (called (ask.Start restart) n a s)
    by (inl controlled) =
        command_alike (ask.Start restart) s n a refl reached rest (over_before s soon)
        (λ answers f.
        asked_orderly IsAway (asked_so answers c s) f none (λ d has is. decides (own_at s n) n a d (finds d has is))
        (asks_start c restart (turn_at s n) controlled) (λ r t is_so replied. told_away r (asked_so answers c s) t is_so replied))
    by (inr local) = starts_alike s n a restart reached rest soon local
