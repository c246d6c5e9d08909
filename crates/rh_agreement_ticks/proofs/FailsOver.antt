-- Live nodes on their way in a tick, where the timers of a loss are due: they fire, a failover is underway, and it leads to where nothing
-- moves, which is soon; its start is seen behind all that was seen before.
use Rattle.std.proofs.Common.{◌≡◌, ◌≢◌, ◌⊎◌, ◌<◌, ◌≤◌, ◌+◌, ◌*◌, ◌++◌, ℕ, true, List, [], ◌∷◌, length, map, refl, sym, ap, subst, ◌∙◌, inl, inr, arith}
use Rattle.std.proofs.lemmas.Bool.{and_parts, cases_Bool}
use Rattle.std.proofs.lemmas.List.{append-nil}
use Rattle.rh_model.specs.declared.node.App.{App}
use Rattle.rh_model.specs.declared.node.Node.{Node}
use Rattle.rh_otp_model.specs.declared.output.Envelope.{Envelope}
use Rattle.rh_otp_model.specs.declared.output.Event.{Event}
use Rattle.rh_otp_model.specs.declared.output.Event.TheVariants as seen
use Rattle.rh_otp_model.specs.Own.{controls}
use Rattle.rh_otp_dist.specs.Attempts.{has_app}
use Rattle.rh_otp_dist.specs.State.{is_among}
use Rattle.rh_otp_sim.specs.Acting.{most_moves}
use Rattle.rh_otp_sim.specs.Sim.{LiveSimView}
use Rattle.rh_otp_system.specs.Doing.{fired_next}
use Rattle.rh_otp_system.specs.Moves.{IsQuiet, IsSettled, here, moved, settled, is_settled_by, is_quiet_behind}
use Rattle.rh_otp_system.specs.State.{SystemView, node_at, is_alive_at}
use Rattle.rh_otp_system.proofs.Moving.{settles}
use Rattle.rh_otp_laws.specs.Acting.{IsReached, later, fires}
use Rattle.rh_otp_laws.proofs.Commands.{commands_reached}
use Rattle.rh_otp_laws.proofs.Hanging.{settled_stays_so}
use Rattle.rh_otp_crashes.specs.Failovers.{FailsOverAt, IsOver, StandsBy}
use Rattle.rh_otp_crashes.proofs.Crash.{lives_of}
use Rattle.rh_otp_crashes.proofs.Failover.{fired_over, lost_there, fires_so, none_there, is_underway, count_mapped}
use Rattle.rh_otp_crashes.proofs.News.{is_to, it_is_lost}
use Rattle.rh_agreement_spread.proofs.Summing.{sum_of}
use Rattle.rh_agreement_failovers.proofs.Costs.{cost, the_loss, sum_few}
use Rattle.rh_agreement_failovers.proofs.Following.{Follows, IsKnown, keeps_itself, waits}
use Rattle.rh_agreement_failovers.proofs.Hearing.{IsSafe}
use Rattle.rh_agreement_failovers.proofs.Settling.{follow_on, quiet_soon, seen_so, all_free}
use Rattle.rh_agreement_failovers.proofs.Starting.{CanStartIt}
use Rattle.rh_agreement_failovers.proofs.Starting as starting
use Rattle.rh_agreement_failovers.proofs.Turns.{kind_of}
use Rattle.rh_agreement_ticks.specs.Passing.{FailsOverLive}
use Rattle.rh_agreement_ticks.proofs.OnWay.{OnWay, alive_so}
use Rattle.rh_agreement_ticks.proofs.Running.{afresh, underway_afresh, runs_on}
use Rattle.rh_agreement_ticks.proofs.Unseen.{behind_these}

module _ (l : LiveSimView) (end : ℕ) (s : SystemView) (way : OnWay l end s) (n from : Node) (a : App)
    (alive : is_alive_at s n ≡ true) (can : FailsOverLive end s n from a) where
  abbrev fails : FailsOverAt n a s
  fails = can.failover

  abbrev losses : List (Node × ℕ)
  losses = fails.losses

  abbrev lives : Node → ℕ
  lives = lives_of s

  none_on_way : IsQuiet s
  none_on_way = (settled_stays_so s s way.rest.settled (here s)).0

  -- ---- the timers have fired

  abbrev messages : List Envelope
  messages = map (lost_there s a) losses

  abbrev fired_then : SystemView
  fired_then = fired_over s fails.due messages

  -- the same where nothing was seen before
  abbrev base : SystemView
  base = afresh fired_then

  base_so : record (fired_next fails.due s) { answers = [] } ≡ behind_these s.events base
  base_so =
      ap (λ (x : SystemView). record x { answers = [] }) (fires_so s n a fails none_on_way.0)
      ∙ (λ i. record fired_then { answers = []; events = sym (append-nil s.events) i })

  fired_reached : IsReached (fired_next fails.due s)
  fired_reached = later s (fired_next fails.due s) way.reached (fires s fails.due fails.step fails.next)

  can_start : CanStartIt lives n a base
  can_start = record {
    first = fails.first;
    able = fails.able;
    free = way.rest.dists n fails.first.dist alive fails.first.has;
    takeovers = fails.sees_all.takeovers fails.first.dist fails.first.has;
    life = refl;
    own = can.own;
    started = can.started;
    runs = can.runs;
    away = can.away;
    stays = can.stays;
  }

  abbrev most : ℕ
  most = length fails.first.dist.known

  few_so : length (starting.d lives n a base can_start).known ≤ most
  unfolding can_start
  few_so = omega arith

  alive_there : is_alive_at base n ≡ true
  alive_there = alive

  abbrev FollowsHere : SystemView → Type 0
  FollowsHere = Follows lives n a most base can_start

  -- each other node is safe, or is one that the node's dist_ac knows
  hope : (k : Node) → k.0 ≢ n.0 → is_alive_at s k ≡ true → IsSafe k a base ⊎ IsKnown lives n a most base can_start k
  unfolding can_start
  hope k apart up = elim (cases_Bool (is_among k (map (λ (row : Node × ℕ). row.0) losses))) [
    | inl among ↦ at among (fails.others k apart among up)
    | inr none ↦ inl (inl (none_there s a k losses none, λ d has. way.rest.dists k d up has))
  ]
    where
      at : is_among k (map (λ (row : Node × ℕ). row.0) losses) ≡ true → StandsBy k n a s ⊎ IsOver a (node_at s k)
          → IsSafe k a base ⊎ IsKnown lives n a most base can_start k
      at among (inl stands) =
          inr (
            can.knows k apart among stands,
            (and_parts _ _ (and_parts (controls _ a) (has_app a stands.standby.dist.started) stands.standby.started).0).0,
          )
      at among (inr gone) = inl (inr (record {
        free = λ d has. way.rest.dists k d up has;
        takes_all = gone.takes_all;
        over = gone.over;
      }))

  first_follows : FollowsHere base
  first_follows =
      let lone = the_loss s a n losses can.fires (fails.once n) in
      let x : Envelope = it_is_lost lives n a lone.0 in
      record {
        still = underway_afresh fired_then (is_underway s n a way.reached way.rest fails);
        keeps = keeps_itself base;
        nowhere = can.nowhere;
        far = inl (record {
          message = x;
          view = node_at base n;
          seen = [];
          stage = waits lone.0;
          there = refl;
          events = refl;
          one = count_mapped (is_to n) (lost_there s a) losses ∙ lone.2;
          only = lone.1;
          hopes = hope;
        });
      }

  -- ---- until nothing moves

  abbrev over : SystemView
  over = settled most_moves l.order base

  base_few : sum_of (cost most n) base.messages < most_moves
  base_few =
      let few : sum_of (cost most n) messages ≤ length losses + 2 * most + 3 = sum_few s a n most losses (fails.once n) in
      let bound : length losses + 2 * most + 4 < most_moves = can.few in
      omega (arith, few, bound)

  base_quiet : is_quiet_behind most_moves l.order base ≡ true
  base_quiet = quiet_soon lives n a most base can_start alive_there few_so most_moves l.order base first_follows base_few

  runs : (moved most_moves l.order (behind_these s.events base) ≡ behind_these s.events over)
      × (is_quiet_behind most_moves l.order (behind_these s.events base) ≡ true)
  runs = runs_on lives n a most base can_start alive_there few_so s.events most_moves l.order base first_follows base_few

  pub quiet : is_settled_by most_moves l.order (fired_next fails.due s) ≡ true
  quiet = ap (is_quiet_behind most_moves l.order) base_so ∙ runs.1

  -- it comes to the same, behind what was seen before
  abbrev over_behind : SystemView
  over_behind = behind_these s.events over

  leads : settled most_moves l.order (fired_next fails.due s) ≡ over_behind
  leads = ap (moved most_moves l.order) base_so ∙ runs.0

  follows : FollowsHere over
  follows =
      follow_on lives n a most base can_start alive_there few_so base over (settles most_moves l.order base).0 first_follows

  at_rest : IsSettled over
  at_rest = (settles most_moves l.order base).1 base_quiet

  none_left : over.messages ≡ []
  none_left = (settled_stays_so over over at_rest (here over)).0.0

  clock_so : over.clock ≡ fails.due
  clock_so = follows.keeps.clock

  over_way : OnWay l end over_behind
  over_way = record {
    reached = subst IsReached leads (commands_reached.settles_there most_moves l.order (fired_next fails.due s) fired_reached);
    rest = record {
      settled = subst IsSettled leads ((settles most_moves l.order (fired_next fails.due s)).1 quiet);
      calls = follows.still.peace.calls;
      dists = λ k d up has. all_free lives n a most base can_start alive_there few_so over follows none_left k d up has;
    };
    in_time = subst (λ (time : ℕ). time ≤ end) (sym clock_so) can.in_time;
    cluster = follows.keeps.cluster ∙ way.cluster;
    files = follows.keeps.files ∙ way.files;
    soon = follows.keeps.soon ∙ way.soon;
    cells = follows.keeps.cells ∙ way.cells;
    lives = λ k. follows.still.peace.same_lives k ∙ way.lives k;
    nobody = λ k there. alive_so s over_behind k (follows.keeps.phases k) ∙ way.nobody k there;
  }

  abbrev pub then : SystemView
  then = settled most_moves l.order (fired_next fails.due s)

  pub then_way : OnWay l end then
  then_way = subst (OnWay l end) (sym leads) over_way

  -- each node is as far as it was
  pub then_phases : (k : Node) → (node_at then k).phase ≡ (node_at s k).phase
  then_phases k = ap (λ (x : SystemView). (node_at x k).phase) leads ∙ follows.keeps.phases k

  pub then_seen : then.events ≡ s.events ++ seen.Started a n (kind_of s.cluster a fails.first.gone) ∷ []
  unfolding can_start
  then_seen =
      ap (λ (x : SystemView). x.events) leads
      ∙ ap (λ (more : List Event). s.events ++ more) (seen_so lives n a most base can_start alive_there few_so over follows none_left)

  pub then_timers : then.timers ≡ fired_then.timers
  then_timers = ap (λ (x : SystemView). x.timers) leads ∙ follows.keeps.timers
