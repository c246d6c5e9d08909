-- A failover underway goes on as it does where nothing was seen before; and until nothing moves what is seen comes behind what was.
use Rattle.std.proofs.Common.{◌≡◌, ◌<◌, ◌≤◌, ℕ, zero, suc, true, List, [], ◌∷◌, length, Option, Some, None, refl, sym, ap, ◌∙◌, arith}
use Rattle.std.proofs.lemmas.List.Elements.{All-weaker}
use Rattle.rh_model.specs.declared.node.App.{App}
use Rattle.rh_model.specs.declared.node.Node.{Node}
use Rattle.rh_otp_model.specs.declared.output.Envelope.{Envelope}
use Rattle.rh_otp_model.specs.declared.output.Event.{Event}
use Rattle.rh_otp_dist.specs.State.{DistView}
use Rattle.rh_otp_net.specs.declared.order.Order.{Order}
use Rattle.rh_otp_net.specs.Order.{place_in, next_order}
use Rattle.rh_otp_system.specs.declared.moves.Move.{Move}
use Rattle.rh_otp_system.specs.declared.moves.Move.TheVariants as move
use Rattle.rh_otp_system.specs.Moves.{made, next_move, message_or_more, quiet_move, moved_by, moved, is_quiet_by, is_quiet_behind}
use Rattle.rh_otp_system.specs.State.{SystemView, node_at, is_alive_at}
use Rattle.rh_otp_commands.proofs.Possible.{possible}
use Rattle.rh_otp_crashes.proofs.News.{IsNews}
use Rattle.rh_otp_crashes.proofs.Peace.{AtPeace, no_lock_at}
use Rattle.rh_otp_crashes.proofs.Phases.{Phase, over, told, ready}
use Rattle.rh_otp_crashes.proofs.Underway.{Underway}
use Rattle.rh_agreement.proofs.Resting.{none_goes_on, none_moves, moved_not, quiet_so}
use Rattle.rh_agreement_spread.proofs.Summing.{sum_of}
use Rattle.rh_agreement_failovers.proofs.Costs.{cost}
use Rattle.rh_agreement_failovers.proofs.Following.{Follows, ComesOn}
use Rattle.rh_agreement_failovers.proofs.Settling.{come}
use Rattle.rh_agreement_failovers.proofs.Starting.{CanStartIt}
use Rattle.rh_agreement_failovers.proofs.Starting as starting
use Rattle.rh_agreement_ticks.proofs.Unseen.{behind_these, made_on, is_handled, news_handled}

-- ---- a failover is underway whatever was seen before, and whoever has answered whom

abbrev pub afresh : SystemView → SystemView
afresh s = record s { answers = []; events = [] }

pub underway_afresh : {lives : Node → ℕ} {n : Node} {a : App} (s : SystemView) → Underway lives n a s → Underway lives n a (afresh s)
underway_afresh {lives} {n} {a} s f = record {
  peace = record {
    messages = f.peace.messages;
    slow = f.peace.slow;
    calls = f.peace.calls;
    calm = f.peace.calm;
    dists = f.peace.dists;
    ends = f.peace.ends;
    listed = f.peace.listed;
    same_lives = f.peace.same_lives;
  };
  lone = f.lone;
  early = f.early;
  able = f.able;
  requests = f.requests;
  takeovers = f.takeovers;
  sees = f.sees;
  once = f.once;
  phases = λ m other alive. afresh_there m (f.phases m other alive);
}
  where
    afresh_there : (m : Node) → Phase n a m s → Phase n a m (afresh s)
    afresh_there m (over all) = over all
    afresh_there m (told so) = told so
    afresh_there m (ready standby free alive sees none) = ready standby free alive sees none

-- ---- where no message is on its way nothing moves

pub none_quiet : {P : Node → DistView → Type 0} {K : Envelope → Type 0} {lives : Node → ℕ} (s : SystemView) → AtPeace P K lives s
    → quiet_move s ≡ None
none_quiet s f =
    none_goes_on s f.calls
    (λ k among. no_lock_at k s (node_at s k).dist (λ d has. f.calm.free k d (f.dists k d (f.listed k among) has)))
    (λ k among. f.ends k (f.listed k among))

peace_behind : {P : Node → DistView → Type 0} {K : Envelope → Type 0} {lives : Node → ℕ} (es : List Event) (s : SystemView)
    → AtPeace P K lives s → AtPeace P K lives (behind_these es s)
peace_behind es s f = record {
  messages = f.messages;
  slow = f.slow;
  calls = f.calls;
  calm = f.calm;
  dists = f.dists;
  ends = f.ends;
  listed = f.listed;
  same_lives = f.same_lives;
}

-- ---- move by move

-- the same moves lead to the same, behind what was seen, and until nothing moves
abbrev RunsOn : List Event → ℕ → Order → SystemView → Type 0
RunsOn es k order s =
    (moved k order (behind_these es s) ≡ behind_these es (moved k order s)) × (is_quiet_behind k order (behind_these es s) ≡ true)

module _ (lives : Node → ℕ) (n : Node) (a : App) (most : ℕ) (base : SystemView) (can : CanStartIt lives n a base)
    (alive_there : is_alive_at base n ≡ true) (few : length (starting.d lives n a base can).known ≤ most) (es : List Event) where
  abbrev FollowsHere : SystemView → Type 0
  FollowsHere = Follows lives n a most base can

  one_more : (k : ℕ) (order : Order) (s : SystemView) (f : FollowsHere s) (messages : List Envelope) → s.messages ≡ messages
      → ((t : SystemView) → FollowsHere t → sum_of (cost most n) t.messages < sum_of (cost most n) s.messages
      → RunsOn es k (next_order order) t)
      → RunsOn es (suc k) order s
  one_more k order s f [] none rest =
      let here : next_move order s ≡ None = none_moves order s none f.still.peace.slow (none_quiet s f.still.peace) in
      let there : next_move order (behind_these es s) ≡ None =
      none_moves order (behind_these es s) none f.still.peace.slow
      (none_quiet (behind_these es s) (peace_behind es s f.still.peace)) in (
        moved_not k order (behind_these es s) there ∙ ap (behind_these es) (sym (moved_not k order s here)),
        quiet_so k order (behind_these es s) there,
      )
  one_more k order s f (e ∷ messages) is rest =
      let place : ℕ = place_in order (length (e ∷ messages)) in
      let here : next_move order s ≡ Some (move.Deliver place) = ap (λ (l : List Envelope). message_or_more order l s) is in
      let there : next_move order (behind_these es s) ≡ Some (move.Deliver place) =
      ap (λ (l : List Envelope). message_or_more order l (behind_these es s)) is in
      let t : SystemView = made (move.Deliver place) s in
      let x : ComesOn lives n a most base can s t =
      come lives n a most base can alive_there few s t f (move.Deliver place, possible order s (move.Deliver place) here, refl) in
      let same : made (move.Deliver place) (behind_these es s) ≡ behind_these es t =
      made_on es place s
      (All-weaker (IsNews lives n a) (λ (m : Envelope). is_handled m.to.role ≡ true) (λ m kind. news_handled m kind) s.messages
      f.still.peace.messages) in
      let more : RunsOn es k (next_order order) t = rest t x.then x.less in (
        ap (λ (next : Option Move). moved_by (moved k (next_order order)) next (behind_these es s)) there
            ∙ ap (moved k (next_order order)) same
            ∙ more.0
            ∙ ap (behind_these es) (sym (ap (λ (next : Option Move). moved_by (moved k (next_order order)) next s) here)),
        ap (λ (next : Option Move). is_quiet_by (is_quiet_behind k (next_order order)) next (behind_these es s)) there
            ∙ ap (is_quiet_behind k (next_order order)) same
            ∙ more.1,
      )

  pub runs_on : (k : ℕ) (order : Order) (s : SystemView) → FollowsHere s → sum_of (cost most n) s.messages < k → RunsOn es k order s
  runs_on zero order s f within = absurd (omega (arith, within))
  runs_on (suc k) order s f within =
      one_more k order s f s.messages refl (λ t then less. runs_on k (next_order order) t then (omega (arith, less, within)))
