-- Live nodes on their way in a tick, where nothing can move: what is so of them where time begins to pass, behind timers that are left
-- over, and where the tick ends.
use Rattle.std.proofs.Common.{◌≡◌, ◌<◌, ◌≤◌, ◌+◌, ◌&&◌, ◌||◌, ℕ, Bool, true, false, not, cond, List, length, slice_get, None, refl, sym, ap, subst, ◌∙◌, arith}
use Rattle.std.proofs.lemmas.Bool.{false≢true}
use Rattle.std.proofs.lemmas.List.Elements.{All-weaker}
use Rattle.std.proofs.lemmas.Option.{none-some}
use Rattle.rh_model.specs.ClusterView.{node_count}
use Rattle.rh_model.specs.declared.node.Node.{Node}
use Rattle.rh_otp_net.specs.declared.timers.Timer.{Timer}
use Rattle.rh_otp_net.specs.Timers as timers
use Rattle.rh_otp_node.specs.declared.node.Phase.{Phase}
use Rattle.rh_otp_node.specs.Live.{is_down, is_ending}
use Rattle.rh_otp_sim.specs.Acting.{most_moves}
use Rattle.rh_otp_sim.specs.Sim.{LiveSimView, net_in}
use Rattle.rh_otp_system.specs.declared.calls.Call.{Call}
use Rattle.rh_otp_system.specs.declared.moves.Move.TheVariants as move
use Rattle.rh_otp_system.specs.Doing.{fired_next, next_until}
use Rattle.rh_otp_system.specs.Moves.{IsAmong, IsSettled, can_go_on_at, is_to_end, here}
use Rattle.rh_otp_system.specs.Resting.{rested, forgotten, open_of}
use Rattle.rh_otp_system.specs.State.{SystemView, node_at, is_alive_at}
use Rattle.rh_otp_laws.specs.Acting.{IsReached, later, fires, passes, ticks, rests, IsNoneDueBefore}
use Rattle.rh_otp_laws.proofs.Commands.{commands_reached}
use Rattle.rh_otp_laws.proofs.Hanging.{settled_stays_so}
use Rattle.rh_otp_laws.proofs.Listing.{alive_listed}
use Rattle.rh_otp_laws.proofs.Ticking.{none_until}
use Rattle.rh_otp_crashes.specs.Crashes.{AreAtRest}
use Rattle.rh_otp_crashes.proofs.Crash.{none_ends}
use Rattle.rh_otp_crashes.proofs.Peace.{is_free_at_ease, no_lock_at}
use Rattle.rh_otp_ticks.specs.LeftOver.{AreLeftOver}
use Rattle.rh_agreement.specs.Laws.{ticking}
use Rattle.rh_agreement.specs.Resting.{held}
use Rattle.rh_agreement.proofs.Rest.{AreIdle, IsOver, idle_at_rest, nobody_there}
use Rattle.rh_agreement_ticks.proofs.LeftOver as left_over

-- Live nodes reach it, and are at rest. It isn't later than the end of the tick, and each node is in the life in which it was where that
-- began. A number that no node has none has.
pub record OnWay (l : LiveSimView) (end : ℕ) (s : SystemView) : Type 0 where
  pub reached : IsReached s
  pub rest : AreAtRest s
  pub in_time : s.clock ≤ end
  pub cluster : s.cluster ≡ l.cluster
  pub files : s.files ≡ l.files
  pub soon : s.ends_soon ≡ false
  pub cells : length s.nodes.cells ≡ length l.history.now
  pub lives : (k : Node) → (node_at s k).life ≡ (node_at (held l) k).life
  pub nobody : (k : Node) → k.0 ≡ node_count l.cluster → is_alive_at s k ≡ false

-- a node that is as far as in another system is alive if it is there
pub alive_so : (s t : SystemView) (k : Node) → (node_at t k).phase ≡ (node_at s k).phase → is_alive_at t k ≡ is_alive_at s k
alive_so s t k same = ap (λ (p : Phase). cond (is_down p) false true) same

no_place : (k : ℕ) → k < 0 → ⊥
no_place k below = omega (arith, below)

-- ---- time begins to pass

module _ (l : LiveSimView) (ms : ℕ) (reached : IsReached (held l)) (rest : AreAtRest (held l)) where
  abbrev awake : SystemView
  awake = ticking ms l

  idle : AreIdle (held l)
  idle = idle_at_rest l reached rest

  locks_so : (k : Node) → IsAmong k awake.alive → can_go_on_at k awake ≡ false
  unfolding forgotten
  locks_so k among =
      no_lock_at k awake (node_at awake k).dist (λ d has. is_free_at_ease d (idle.dists k d (idle.listed k among) has))

  ends_so : (k : Node) → IsAmong k awake.alive → is_to_end k awake ≡ false
  unfolding forgotten
  ends_so k among = idle.ends k (idle.listed k among)

  settled_so : IsSettled awake
  unfolding forgotten
  settled_so (move.Deliver k) possible = no_place k possible
  settled_so (move.Slow k) possible = no_place k possible.1
  settled_so (move.Lock k) possible = false≢true (sym (locks_so k possible.1) ∙ possible.2)
  settled_so (move.Call k) possible =
      none-some possible.1.0 (sym (ap (λ (waiting : List Call). slice_get waiting k) rest.calls) ∙ possible.1.1)
  settled_so (move.End k) possible = false≢true (sym (ends_so k possible.1) ∙ possible.2)

  pub first_way : OnWay l ((net_in l).clock + ms) awake
  unfolding forgotten
  first_way = record {
    reached = later (held l) awake reached (ticks (held l) true);
    rest = record { settled = settled_so; calls = rest.calls; dists = rest.dists };
    in_time = omega arith;
    cluster = refl;
    files = refl;
    soon = refl;
    cells = refl;
    lives = λ k. refl;
    nobody = nobody_there l reached;
  }

-- ---- timers that are left over have fired

module _ (l : LiveSimView) (end : ℕ) (s : SystemView) (way : OnWay l end s) (rows : AreLeftOver s) (in_time : rows.due ≤ end)
    (few : length (timers.fired s.timers) < most_moves) where
  abbrev then : SystemView
  then = left_over.then s way.rest.settled rows most_moves l.order few

  fired_reached : IsReached (fired_next rows.due s)
  fired_reached = later s (fired_next rows.due s) way.reached (fires s rows.due rows.step rows.next)

  pub behind_way : OnWay l end then
  behind_way = record {
    reached = subst IsReached (left_over.leads s way.rest.settled rows most_moves l.order few)
        (commands_reached.settles_there most_moves l.order (fired_next rows.due s) fired_reached);
    rest = record {
      settled = left_over.at_rest s way.rest.settled rows most_moves l.order few;
      calls = way.rest.calls;
      dists = way.rest.dists;
    };
    in_time = in_time;
    cluster = way.cluster;
    files = way.files;
    soon = way.soon;
    cells = way.cells;
    lives = way.lives;
    nobody = way.nobody;
  }

-- ---- the tick ends

module _ (l : LiveSimView) (end : ℕ) (reached : IsReached (held l)) (inside : node_count l.cluster < length l.history.now) (s : SystemView)
    (way : OnWay l end s) (none : next_until end s ≡ None) where
  abbrev pub ended : SystemView
  ended = record s { clock = end; is_ticking = false }

  none_before : IsNoneDueBefore end s.timers
  none_before =
      All-weaker (λ (t : Timer). end < t.due) (λ (t : Timer). end ≤ t.due) (λ t late. omega (arith, late)) s.timers
      (none_until end s.timers (timers.next_due s.timers) refl none)

  last_reached : IsReached (rested ended)
  last_reached =
      let passed_then : SystemView = record s { clock = end } in
      later ended (rested ended)
      (later passed_then ended (later s passed_then way.reached (passes s end way.in_time none_before)) (ticks passed_then false))
      (rests ended)

  ends_then : (k : Node) → is_alive_at s k ≡ true → (is_ending (node_at s k) && not (node_at s k).is_stopped) ≡ false
  ends_then k up =
      sym (ap (λ (soon : Bool). is_ending (node_at s k) && (soon || not (node_at s k).is_stopped)) way.soon)
      ∙ none_ends s k way.reached way.rest.settled up

  pub is_over : IsOver l (rested ended)
  unfolding rested
  is_over = record {
    inside = subst (λ (count : ℕ). node_count l.cluster < count) (sym way.cells) inside;
    idle = record {
      calls = ap open_of way.rest.calls;
      listed = λ k among. ((alive_listed s way.reached).exactly k).0 among;
      dists = way.rest.dists;
      ends = ends_then;
    };
    reached = last_reached;
    is_quiet = (settled_stays_so s s way.rest.settled (here s)).0;
    cluster = way.cluster;
    files = way.files;
    nobody = way.nobody;
  }
