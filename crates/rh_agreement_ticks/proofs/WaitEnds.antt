-- The wait of a node ends on live nodes on their way in a tick, and the node with it: soon nothing moves any more, no timer was set, and
-- nodes are on their way as before.
use Rattle.std.proofs.Common.{◌≡◌, ◌≢◌, ◌⊎◌, ◌<◌, ◌≤◌, ◌+◌, ℕ, suc, true, false, cond, List, [], length, Option, Some, None, refl, sym, ap, subst, ◌∙◌, inl, inr, arith}
use Rattle.std.proofs.lemmas.Bool.{cases_eq, false≢true}
use Rattle.std.proofs.lemmas.Option.{none-some, same_Some}
use Rattle.rh_model.specs.declared.node.Node.{Node}
use Rattle.rh_otp_model.specs.declared.output.Envelope.{Envelope}
use Rattle.rh_otp_model.specs.declared.process.Process.{Process}
use Rattle.rh_otp_dist.specs.Outside as outside
use Rattle.rh_otp_dist.specs.State.{DistView}
use Rattle.rh_otp_net.specs.declared.order.Order.{Order}
use Rattle.rh_otp_net.specs.declared.timers.Timer.{Timer}
use Rattle.rh_otp_net.specs.Order.{place_in, next_order}
use Rattle.rh_otp_net.specs.Timers as timers
use Rattle.rh_otp_node.specs.declared.node.Phase.{Phase}
use Rattle.rh_otp_node.specs.Live.{LiveView, is_down, is_alive}
use Rattle.rh_otp_node.specs.Remote.{with_change, without_monitors}
use Rattle.rh_otp_sim.specs.Acting.{most_moves}
use Rattle.rh_otp_sim.specs.Sim.{LiveSimView}
use Rattle.rh_otp_system.specs.declared.moves.Move.TheVariants as move
use Rattle.rh_otp_system.specs.Doing.{fired_next}
use Rattle.rh_otp_system.specs.Moves.{IsSettled, Reaches, made, is_quiet_behind, settled, is_settled_by}
use Rattle.rh_otp_system.specs.Resting.{crashed}
use Rattle.rh_otp_system.specs.State.{SystemView, node_at, is_alive_at}
use Rattle.rh_otp_system.proofs.Moving.{settles}
use Rattle.rh_otp_laws.specs.Acting.{IsReached, later, fires}
use Rattle.rh_otp_laws.specs.Knowing.{EndsAlone}
use Rattle.rh_otp_laws.proofs.Commands.{commands_reached}
use Rattle.rh_otp_laws.proofs.Crashing.{ends_alone}
use Rattle.rh_otp_laws.proofs.Nodes.{same_number}
use Rattle.rh_otp_crashes.specs.Crashes.{AreAtRest, FailOverLater}
use Rattle.rh_otp_crashes.proofs.Crash.{lives_of}
use Rattle.rh_otp_ticks.specs.WaitsEnd.{WaitEnds}
use Rattle.rh_otp_ticks.proofs.Forgetting.{forgetting, forgets_first, rest_still, forgotten_reached}
use Rattle.rh_otp_ticks.proofs.InTime.{ends_in_time}
use Rattle.rh_otp_ticks.proofs.Timely.{at_time}
use Rattle.rh_otp_ticks.proofs.Untold.{Ends}
use Rattle.rh_otp_ticks.proofs.WaitsEnd as wait
use Rattle.rh_agreement.proofs.Bounded.{place_within}
use Rattle.rh_agreement_ticks.specs.Passing.{EndsItsWaitLive}
use Rattle.rh_agreement_ticks.proofs.Fading.{Nowhere, HasNoneAt, Fades, fades_until, fades_soon}
use Rattle.rh_agreement_ticks.proofs.OnWay.{OnWay}

-- ---- where it has just ended, no dist_ac has an application as running there

alive_kept : (n : Node) (v : LiveView) (o : Option DistView) → is_alive (with_change (outside.without_monitors n) o v) ≡ is_alive v
alive_kept n v None = refl
alive_kept n v (Some d) = refl

module _ (n : Node) (s : SystemView) (none : Nowhere n s) where
  unmonitored : (k : Node) (d : DistView) (o : Option DistView) → (node_at s k).dist ≡ o → is_alive_at s k ≡ true
      → (with_change (outside.without_monitors n) o (node_at s k)).dist ≡ Some d → HasNoneAt n d
  unmonitored k d None is alive has = absurd (none-some d (sym is ∙ has))
  unmonitored k d (Some e) is alive has =
      subst (HasNoneAt n) (same_Some (outside.without_monitors n e) d has) (none k e alive is)

  nowhere_then : Nowhere n (crashed n s)
  nowhere_then k d alive has = by (ends_alone s n) another
    where
      t : SystemView
      t = crashed n s

      another : k.0 ≢ n.0
      another same = false≢true (sym (ends_alone s n).itself ∙ sym (ap is_alive (same_number t k n same)) ∙ alive)

      by_node : (node_at t k ≡ node_at s k) ⊎ (node_at t k ≡ without_monitors n (node_at s k)) → HasNoneAt n d
      by_node (inl same) = none k d (sym (ap is_alive same) ∙ alive) (sym (ap (λ (v : LiveView). v.dist) same) ∙ has)
      by_node (inr is) =
          unmonitored k d (node_at s k).dist refl
          (sym (alive_kept n (node_at s k) (node_at s k).dist) ∙ sym (ap is_alive is) ∙ alive)
          (sym (ap (λ (v : LiveView). v.dist) is) ∙ has)

      by : EndsAlone n s t → k.0 ≢ n.0 → HasNoneAt n d
      by alone other = by_node (alone.others k other)

-- ---- a moment

module _ (l : LiveSimView) (end : ℕ) (s : SystemView) (way : OnWay l end s) (timed : FailOverLater s) (n : Node)
    (live : EndsItsWaitLive end s n) where
  abbrev due : ℕ
  due = live.wait.due

  abbrev rows : List Timer
  rows = timers.left s.timers

  -- no answers are counted
  abbrev first : SystemView
  first = forgetting s

  first_reached : IsReached first
  first_reached = forgotten_reached s way.reached

  first_rest : AreAtRest first
  first_rest = rest_still s way.rest

  first_wait : WaitEnds n first
  first_wait = wait.still n s live.wait

  abbrev fired_then : SystemView
  fired_then = wait.fired_then first n first_reached first_rest timed first_wait

  abbrev gone : SystemView
  gone = wait.gone first n first_reached first_rest timed first_wait

  begins_so : record (fired_next due s) { answers = [] } ≡ fired_then
  unfolding first_wait wait.still
  begins_so = sym (forgets_first due s) ∙ wait.fires_so first n first_reached first_rest timed first_wait

  -- ---- it fades

  gone_so : gone ≡ at_time due rows [] (crashed n first)
  unfolding first_wait wait.still
  gone_so = wait.gone_so first n first_reached first_rest timed first_wait

  nowhere_first : Nowhere n first
  nowhere_first k d alive has a = live.nowhere k d a alive has

  abbrev of_gone : Process
  of_gone = wait.of_gone first n first_reached first_rest timed first_wait

  gone_fades : Fades (lives_of s) of_gone rows gone
  gone_fades = record {
    fallout = wait.fallout first n first_reached first_rest timed first_wait;
    timers = ap (λ (x : SystemView). x.timers) gone_so;
    nowhere = subst (Nowhere n) (sym gone_so) (λ k d alive has. nowhere_then n first nowhere_first k d alive has);
  }

  messages_so : gone.messages ≡ (crashed n s).messages
  messages_so =
      ap (λ (x : SystemView). x.messages) gone_so ∙ ap (λ (x : SystemView). x.messages) (ends_in_time s.clock s.timers [] n s)

  few_then : length gone.messages < 999999
  few_then =
      let same : length gone.messages ≡ length (crashed n s).messages = ap (λ (x : List Envelope). length x) messages_so in
      let few : length (crashed n s).messages + 1 < 1000000 = live.few in
      omega (arith, same, few)

  -- the end of the wait arrives first
  quiet_first : (k : ℕ) (order : Order) → length gone.messages < k → is_quiet_behind (suc k) order fired_then ≡ true
  quiet_first k order few =
      let place : ℕ = place_in order 1 in
      let there : place < 1 = place_within order 1 (omega arith) in
      ap (is_quiet_behind k (next_order order))
      ((wait.only_move first n first_reached first_rest timed first_wait).1 (made (move.Deliver place) fired_then)
      (move.Deliver place, there, refl))
      ∙ fades_soon k (next_order order) gone gone_fades few

  pub quiet : is_settled_by most_moves l.order (fired_next due s) ≡ true
  quiet = ap (is_quiet_behind most_moves l.order) begins_so ∙ quiet_first 999999 l.order few_then

  -- ---- what it comes to

  abbrev pub then : SystemView
  then = settled most_moves l.order (fired_next due s)

  at : IsSettled then
  at = (settles most_moves l.order (fired_next due s)).1 quiet

  reaches : Reaches (fired_next first_wait.due first) then
  unfolding first_wait wait.still
  reaches =
      subst (λ (x : SystemView). Reaches x then) (sym (forgets_first due s)) (settles most_moves l.order (fired_next due s)).0

  then_fades : Fades (lives_of s) of_gone rows then
  then_fades = fades_until gone then (wait.behind first n first_reached first_rest timed first_wait then reaches at) gone_fades

  pub then_ends : Ends n (at_time due rows [] s) then
  unfolding first_wait wait.still
  then_ends = wait.ends first n first_reached first_rest timed first_wait then reaches at

  pub then_timers : then.timers ≡ rows
  then_timers = then_fades.timers

  pub then_way : OnWay l end then
  then_way = record {
    reached = commands_reached.settles_there most_moves l.order (fired_next due s)
        (later s (fired_next due s) way.reached (fires s due live.wait.step live.wait.next));
    rest = record { settled = at; calls = then_fades.fallout.peace.calls; dists = then_fades.fallout.peace.dists };
    in_time = subst (λ (time : ℕ). time ≤ end) (sym then_ends.clock) live.in_time;
    cluster = then_ends.cluster ∙ way.cluster;
    files = then_ends.files ∙ way.files;
    soon = then_ends.soon ∙ way.soon;
    cells = then_ends.count ∙ way.cells;
    lives = λ k. then_ends.lives k ∙ way.lives k;
    nobody = λ k there. elim (cases_eq k.0 n.0) [
      | inl same ↦ ap is_alive (same_number then k n same) ∙ then_ends.itself
      | inr other ↦ ap (λ (p : Phase). cond (is_down p) false true) (then_ends.others k other) ∙ way.nobody k there
    ];
  }
