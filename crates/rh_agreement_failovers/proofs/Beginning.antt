-- Where the timers of a loss have fired, on live nodes that were at rest, a failover is underway; and it leads to where nothing moves.
use Rattle.std.proofs.Common.{◌≡◌, ◌≢◌, ◌⊎◌, ◌<◌, ◌≤◌, ◌+◌, ◌*◌, ℕ, true, false, List, [], ◌∷◌, length, map, slice_get, refl, sym, ap, subst, ◌∙◌, inl, inr, arith}
use Rattle.std.proofs.lemmas.Bool.{and_parts, cases_Bool, false≢true}
use Rattle.std.proofs.lemmas.Option.{none-some}
use Rattle.rh_model.specs.declared.node.App.{App}
use Rattle.rh_model.specs.declared.node.Node.{Node}
use Rattle.rh_otp_model.specs.declared.output.Envelope.{Envelope}
use Rattle.rh_otp_model.specs.declared.output.Event.TheVariants as seen
use Rattle.rh_otp_model.specs.Own.{controls}
use Rattle.rh_otp_dist.specs.Attempts.{has_app}
use Rattle.rh_otp_dist.specs.State.{is_among}
use Rattle.rh_otp_net.specs.declared.order.Order.{Order}
use Rattle.rh_otp_sim.specs.Acting.{most_moves}
use Rattle.rh_otp_sim.specs.Sim.{LiveSimView}
use Rattle.rh_otp_system.specs.declared.calls.Call.{Call}
use Rattle.rh_otp_system.specs.declared.moves.Move.TheVariants as move
use Rattle.rh_otp_system.specs.Doing.{fired_next}
use Rattle.rh_otp_system.specs.Moves.{IsAmong, IsQuiet, IsSettled, can_go_on_at, is_to_end, here, settled, is_settled_by}
use Rattle.rh_otp_system.specs.Resting.{forgotten}
use Rattle.rh_otp_system.specs.State.{SystemView, node_at, is_alive_at}
use Rattle.rh_otp_system.proofs.Moving.{settles}
use Rattle.rh_otp_laws.specs.Acting.{IsReached, later, ticks, fires}
use Rattle.rh_otp_laws.proofs.Commands.{commands_reached}
use Rattle.rh_otp_laws.proofs.Hanging.{settled_stays_so}
use Rattle.rh_otp_crashes.specs.Crashes.{AreAtRest}
use Rattle.rh_otp_crashes.specs.Failovers.{FailsOverAt, IsOver, StandsBy}
use Rattle.rh_otp_crashes.proofs.Crash.{lives_of}
use Rattle.rh_otp_crashes.proofs.Failover.{fired_over, lost_there, fires_so, none_there, is_underway, count_mapped}
use Rattle.rh_otp_crashes.proofs.News.{is_to, it_is_lost}
use Rattle.rh_otp_crashes.proofs.Peace.{is_free_at_ease, no_lock_at}
use Rattle.rh_agreement.specs.Laws.{ticking}
use Rattle.rh_agreement.specs.Resting.{held}
use Rattle.rh_agreement.proofs.Rest.{AreIdle, idle_at_rest}
use Rattle.rh_agreement_spread.proofs.Summing.{sum_of}
use Rattle.rh_agreement_failovers.specs.Failovers.{CanFailOverLive}
use Rattle.rh_agreement_failovers.proofs.Costs.{cost, the_loss, sum_few}
use Rattle.rh_agreement_failovers.proofs.Following.{Follows, IsKnown, keeps_itself, waits}
use Rattle.rh_agreement_failovers.proofs.Hearing.{IsSafe}
use Rattle.rh_agreement_failovers.proofs.Settling.{follow_on, quiet_soon, seen_so}
use Rattle.rh_agreement_failovers.proofs.Starting.{CanStartIt}
use Rattle.rh_agreement_failovers.proofs.Starting as starting
use Rattle.rh_agreement_failovers.proofs.Turns.{kind_of}

no_place : (k : ℕ) → k < 0 → ⊥
no_place k below = omega (arith, below)

module _ (l : LiveSimView) (ms : ℕ) (n from : Node) (a : App) (reached : IsReached (held l)) (rest : AreAtRest (held l))
    (alive : is_alive_at (held l) n ≡ true) (can : CanFailOverLive ms l n from a) where
  abbrev pub awake : SystemView
  awake = ticking ms l

  abbrev fails : FailsOverAt n a awake
  fails = can.failover

  abbrev losses : List (Node × ℕ)
  losses = fails.losses

  abbrev pub lives : Node → ℕ
  lives = lives_of awake

  idle : AreIdle (held l)
  idle = idle_at_rest l reached rest

  -- ---- time begins to pass

  pub locks_so : (k : Node) → IsAmong k awake.alive → can_go_on_at k awake ≡ false
  unfolding forgotten
  locks_so k among =
      no_lock_at k awake (node_at awake k).dist (λ d has. is_free_at_ease d (idle.dists k d (idle.listed k among) has))

  pub ends_so : (k : Node) → IsAmong k awake.alive → is_to_end k awake ≡ false
  unfolding forgotten
  ends_so k among = idle.ends k (idle.listed k among)

  settled_so : IsSettled awake
  unfolding forgotten
  settled_so (move.Deliver k) possible = no_place k possible
  settled_so (move.Slow k) possible = no_place k possible.1
  settled_so (move.Lock k) possible = false≢true (sym (locks_so k possible.1) ∙ possible.2)
  settled_so (move.Call k) possible =
      none-some possible.1.0 (sym (ap (λ (waiting : List Call). slice_get waiting k) rest.calls) ∙ possible.1.1)
  settled_so (move.End k) possible = false≢true (sym (ends_so k possible.1) ∙ possible.2)

  awake_rest : AreAtRest awake
  unfolding forgotten
  awake_rest = record { settled = settled_so; calls = rest.calls; dists = rest.dists }

  awake_reached : IsReached awake
  unfolding forgotten
  awake_reached = later (held l) awake reached (ticks (held l) true)

  -- ---- the timers have fired

  abbrev messages : List Envelope
  messages = map (lost_there awake a) losses

  abbrev pub base : SystemView
  base = fired_over awake fails.due messages

  pub fired_so : fired_next fails.due awake ≡ base
  unfolding forgotten
  fired_so = fires_so awake n a fails refl

  pub fired_reached : IsReached (fired_next fails.due awake)
  fired_reached = later awake (fired_next fails.due awake) awake_reached (fires awake fails.due fails.step fails.next)

  pub can_start : CanStartIt lives n a base
  unfolding forgotten
  can_start = record {
    first = fails.first;
    able = fails.able;
    free = rest.dists n fails.first.dist alive fails.first.has;
    takeovers = fails.sees_all.takeovers fails.first.dist fails.first.has;
    life = refl;
    own = can.own;
    started = can.started;
    runs = can.runs;
    away = can.away;
    stays = can.stays;
  }

  abbrev pub most : ℕ
  most = length fails.first.dist.known

  pub few_so : length (starting.d lives n a base can_start).known ≤ most
  unfolding can_start
  few_so = omega arith

  pub alive_there : is_alive_at base n ≡ true
  unfolding forgotten
  alive_there = alive

  abbrev FollowsHere : SystemView → Type 0
  FollowsHere = Follows lives n a most base can_start

  -- each other node is safe, or is one that the node's dist_ac knows
  hope : (k : Node) → k.0 ≢ n.0 → is_alive_at awake k ≡ true → IsSafe k a base ⊎ IsKnown lives n a most base can_start k
  unfolding can_start
  hope k apart up = elim (cases_Bool (is_among k (map (λ (row : Node × ℕ). row.0) losses))) [
    | inl among ↦ at among (fails.others k apart among up)
    | inr none ↦ inl (inl (none_there awake a k losses none, λ d has. awake_rest.dists k d up has))
  ]
    where
      at : is_among k (map (λ (row : Node × ℕ). row.0) losses) ≡ true → StandsBy k n a awake ⊎ IsOver a (node_at awake k)
          → IsSafe k a base ⊎ IsKnown lives n a most base can_start k
      at among (inl stands) =
          inr (
            can.knows k apart among stands,
            (and_parts _ _ (and_parts (controls _ a) (has_app a stands.standby.dist.started) stands.standby.started).0).0,
          )
      at among (inr gone) = inl (inr (record {
        free = λ d has. awake_rest.dists k d up has;
        takes_all = gone.takes_all;
        over = gone.over;
      }))

  first_follows : FollowsHere base
  unfolding forgotten
  first_follows =
      let lone = the_loss awake a n losses can.fires (fails.once n) in
      let x : Envelope = it_is_lost lives n a lone.0 in
      record {
        still = is_underway awake n a awake_reached awake_rest fails;
        keeps = keeps_itself base;
        nowhere = can.nowhere;
        far = inl (record {
          message = x;
          view = node_at base n;
          seen = [];
          stage = waits lone.0;
          there = refl;
          events = refl;
          one = count_mapped (is_to n) (lost_there awake a) losses ∙ lone.2;
          only = lone.1;
          hopes = hope;
        });
      }

  -- ---- until nothing moves

  module _ (order : Order) where
    abbrev pub over : SystemView
    over = settled most_moves order base

    pub quiet : is_settled_by most_moves order base ≡ true
    unfolding forgotten
    quiet =
        quiet_soon lives n a most base can_start alive_there few_so most_moves order base first_follows
        (let few : sum_of (cost most n) messages ≤ length losses + 2 * most + 3 = sum_few awake a n most losses (fails.once n) in
        let bound : length losses + 2 * most + 4 < most_moves = can.few in
        omega (arith, few, bound))

    pub follows : FollowsHere over
    unfolding forgotten
    follows =
        follow_on lives n a most base can_start alive_there few_so base over (settles most_moves order base).0 first_follows

    pub is_quiet : IsQuiet over
    is_quiet = (settled_stays_so over over ((settles most_moves order base).1 quiet) (here over)).0

    pub over_reached : IsReached over
    over_reached =
        subst (λ (s : SystemView). IsReached (settled most_moves order s)) fired_so
        (commands_reached.settles_there most_moves order (fired_next fails.due awake) fired_reached)

    pub over_seen : over.events ≡ seen.Started a n (kind_of l.cluster a fails.first.gone) ∷ []
    unfolding can_start forgotten
    over_seen = seen_so lives n a most base can_start alive_there few_so over follows is_quiet.0
