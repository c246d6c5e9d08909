-- What the row of two nodes stands on: where they are at rest, where time passes over the timer at which the second one starts an
-- application that was lost, and over the timers of both waits, and where it can stop that application.
use Rattle.std.specs.Prelude.{All}
use Rattle.std.proofs.Common.{◌≡◌, ◌≢◌, ◌⊎◌, ◌≤◌, ◌==◌, ◌||◌, ℕ, zero, suc, Bool, true, false, cond, length, unwrap_or, is_some, Option, Some, None, [], ◌∷◌, refl, sym, subst, ◌∙◌, inl, arith}
use Rattle.std.proofs.lemmas.Bool.{false≢true}
use Rattle.std.proofs.lemmas.List.Elements.{All-nil, All-cons}
use Rattle.std.proofs.lemmas.Option.{same_Some}
use Rattle.rh_model.specs.declared.node.Node.{Node}
use Rattle.rh_otp_model.specs.declared.message.Message.{Message}
use Rattle.rh_otp_model.specs.declared.message.Message.TheVariants as message
use Rattle.rh_otp_model.specs.declared.process.Role.TheVariants as role
use Rattle.rh_otp_net.specs.declared.order.Order.TheVariants.{FirstComes}
use Rattle.rh_otp_controller.specs.Starting.{lacks_running}
use Rattle.rh_otp_dist.specs.declared.state.Stand.TheVariants as stand
use Rattle.rh_otp_dist.specs.declared.state.Standing.TheVariants as standing
use Rattle.rh_otp_dist.specs.Choosing.{places_of, candidates_of, remote}
use Rattle.rh_otp_dist.specs.State.{DistView, beginning, standing_of}
use Rattle.rh_otp_dist.specs.Waiting.{takes}
use Rattle.rh_otp_net.specs.declared.timers.Timer.{Timer}
use Rattle.rh_otp_net.specs.Links.{are_linked}
use Rattle.rh_otp_net.specs.Timers.{next_due, fired}
use Rattle.rh_otp_node.specs.Turns.{controller_turn}
use Rattle.rh_otp_system.specs.Doing.{fired_next, next_until}
use Rattle.rh_otp_system.specs.Moves.{settled, is_settled_by}
use Rattle.rh_otp_system.specs.State.{SystemView, node_at, own_at, is_alive_at, is_up_at, lives}
use Rattle.rh_otp_system.proofs.Moving.{settles}
use Rattle.rh_otp_crashes.specs.Crashes.{IsUnoccupied, AreAtRest}
use Rattle.rh_otp_crashes.specs.Failovers.{FailsOverAt, SeesAll, StandsBy, IsOver, first_of, lost_attempt}
use Rattle.rh_otp_stops.specs.Stops.{CanEnd}
use Rattle.rh_otp_stops.proofs.Rows.{n1, n2, d1}
use Rattle.rh_otp_ticks.specs.LeftOver.{AreLeftOver, IsLeftOver, gone, up, behind_timers}
use Rattle.rh_otp_ticks.specs.Moments.{EachMomentIsCovered, over, left_over, fails_over}
use Rattle.rh_otp_sim.specs.Acting.{most_moves}
use Rattle.rh_otp_rehearsals.specs.Covered.{is_over}
use Rattle.rh_otp_rehearsals.proofs.OneWay.{rest_so}

-- ---- where nothing moves

-- all that comes of it, in one order
abbrev pub quiet : SystemView → SystemView
quiet s = settled most_moves FirstComes s

abbrev pub dist_of : SystemView → Node → DistView
dist_of s n = unwrap_or (node_at s n).dist (beginning 0 0 n [])

-- a dist_ac takes whatever comes, and does nothing
pub record IsIdle (n : Node) (s : SystemView) : Type 0 where
  pub has : is_some (node_at s n).dist ≡ true
  pub takes_all : (dist_of s n).stand ≡ stand.Idle
  pub mail : (dist_of s n).mail ≡ []
  pub permits : (dist_of s n).p_reqs ≡ []
  pub parked : (dist_of s n).parked ≡ []

-- Nothing moves there, no call is open, the second node's dist_ac does nothing, and no third node is alive.
pub record IsCalm (s : SystemView) : Type 0 where
  pub over : is_over s ≡ true
  pub calls : s.calls ≡ []
  pub second : IsIdle n2 s
  pub no_more : (k : ℕ) → is_alive_at s (record { 0 = suc (suc k) }) ≡ false

-- what is so of the two, if they are alive, is so of each that is alive
of_both : (P : Node → Type 0) (s : SystemView) → IsCalm s → (is_alive_at s n1 ≡ true → P n1) → P n2 → (k : ℕ)
    → is_alive_at s (record { 0 = k }) ≡ true → P (record { 0 = k })
of_both P s calm one two zero alive = one alive
of_both P s calm one two (suc zero) alive = two
of_both P s calm one two (suc (suc k)) alive = absurd (false≢true (sym (calm.no_more k) ∙ alive))

has_it : (o : Option DistView) (d : DistView) → is_some o ≡ true → o ≡ Some (unwrap_or o d)
has_it None d is = absurd (false≢true is)
has_it (Some e) d is = refl

dist_is : (s : SystemView) (n : Node) → IsIdle n s → (node_at s n).dist ≡ Some (dist_of s n)
dist_is s n is = has_it (node_at s n).dist (beginning 0 0 n []) is.has

-- what is so of its dist_ac
of_dist : (P : DistView → Type 0) (s : SystemView) (n : Node) → IsIdle n s → P (dist_of s n) → (d : DistView)
    → (node_at s n).dist ≡ Some d → P d
of_dist P s n is so d has = subst P (same_Some (dist_of s n) d (sym (dist_is s n is) ∙ has)) so

at_ease : (s : SystemView) (n : Node) → IsIdle n s → (d : DistView) → (node_at s n).dist ≡ Some d → IsUnoccupied d
at_ease s n is = of_dist IsUnoccupied s n is (record {
  stand = inl is.takes_all;
  mail = subst (All (λ (m : Message). takes (dist_of s n).stand m ≡ false)) (sym is.mail)
      (All-nil (λ (m : Message). takes (dist_of s n).stand m ≡ false));
  permits = is.permits;
  parked = is.parked;
})

pub are_at_rest : (s : SystemView) → IsCalm s → (is_alive_at s n1 ≡ true → IsIdle n1 s) → AreAtRest s
are_at_rest s calm first_idle = record {
  settled = rest_so s calm.over;
  calls = calm.calls;
  dists = λ n d alive has.
      of_both (λ (m : Node). (e : DistView) → (node_at s m).dist ≡ Some e → IsUnoccupied e) s calm (λ is. at_ease s n1 (first_idle is))
      (at_ease s n2 calm.second) n.0 alive d has;
}

-- ---- the failover

-- the timer of the loss of the application
abbrev pub loss_at : ℕ → Timer
loss_at life = record {
  due = 5000;
  step = 3;
  to = record { role = role.DistAc; node = n2; life = life };
  message = message.RestartAppl d1 1;
}

-- the timer of the wait of a node, set when that began
abbrev pub wait_of : Node → ℕ → Timer
wait_of n step = record {
  due = 12000;
  step = step;
  to = record { role = role.KernelConfig; node = n; life = 1 };
  message = message.Timeout;
}

-- The first node is down. The application was lost at the second one, and is to be started there next; and what comes of that ends.
pub record IsLost (s : SystemView) : Type 0 where
  pub down : is_alive_at s n1 ≡ false
  pub next : next_due s.timers ≡ Some (5000, 3)
  pub fire : fired s.timers ≡ loss_at 1 ∷ []
  pub life : (node_at s n2).life ≡ 1
  pub gone : standing_of (dist_of s n2) d1 ≡ standing.Failover n1
  pub first : first_of (candidates_of (own_at s n2) (lost_attempt (dist_of s n2) d1)) (places_of (own_at s n2) d1) ≡ Some n2
  pub unknown : remote (dist_of s n2) d1 ≡ None
  pub needs : lacks_running (controller_turn s.cluster (own_at s n2) n2 (node_at s n2)) d1 ≡ None
  pub requests : (node_at s n2).controller.start_req ≡ []
  pub takeovers : (dist_of s n2).t_reqs ≡ []
  pub ends : is_settled_by most_moves FirstComes (fired_next 5000 s) ≡ true

-- the timer of this node's wait is due next, and no other one with it
pub record IsNext (n : Node) (step : ℕ) (s : SystemView) : Type 0 where
  pub next : next_due s.timers ≡ Some (12000, step)
  pub fire : fired s.timers ≡ wait_of n step ∷ []

-- behind the timer of a wait
abbrev pub behind_wait : SystemView → SystemView
behind_wait s = record (behind_timers 12000 s) { answers = [] }

-- The timers of both waits are due, one after the other; the first node is down, the second one is up, and nothing is due behind them.
pub record AreOver (end : ℕ) (s : SystemView) : Type 0 where
  pub first : IsNext n1 1 s
  pub dead : lives s (wait_of n1 1).to ≡ false
  pub second : IsNext n2 2 (behind_wait s)
  pub up : is_up_at (behind_wait s) n2 ≡ true
  pub none : next_until end (behind_wait (behind_wait s)) ≡ None

once : (row : Node × ℕ) (b : Bool) → length (cond b (row ∷ []) []) ≤ 1
once row true = omega arith
once row false = omega arith

-- what is so of the second node is so of whoever is alive: where the first one is down it is the only one
alone : (P : Node → Type 0) (s : SystemView) → IsCalm s → is_alive_at s n1 ≡ false → P n2 → (m : Node) → is_alive_at s m ≡ true → P m
alone P s calm down two m alive = of_both P s calm (λ is. absurd (false≢true (sym down ∙ is))) two m.0 alive

sees_all : (s : SystemView) → IsCalm s → is_alive_at s n1 ≡ false → (dist_of s n2).t_reqs ≡ [] → SeesAll n2 s
sees_all s calm down none = record {
  takeovers = of_dist (λ (d : DistView). d.t_reqs ≡ []) s n2 calm.second none;
  sees = λ d has m among alive. alone (λ (k : Node). (n2.0 == k.0 || are_linked n2 k s.links) ≡ true) s calm down refl m alive;
}

fails_at : (s : SystemView) → IsCalm s → IsLost s → FailsOverAt n2 d1 s
fails_at s calm is = record {
  due = 5000;
  step = 3;
  next = is.next;
  losses = (n2, 1) ∷ [];
  fire = is.fire ∙ (λ i. loss_at (sym is.life i) ∷ []);
  once = λ m. once (n2, 1) (1 == m.0);
  first = record {
    dist = dist_of s n2;
    has = dist_is s n2 calm.second;
    takes_all = calm.second.takes_all;
    gone = n1;
    lost = is.gone;
    first = is.first;
    unknown = is.unknown;
  };
  able = record { needs = is.needs; requests = is.requests };
  sees_all = sees_all s calm is.down is.takeovers;
  others = λ m other among alive.
      alone (λ (k : Node). k.0 ≢ n2.0 → StandsBy k n2 d1 s ⊎ IsOver d1 (node_at s k)) s calm is.down (λ itself. absurd (itself refl)) m
      alive other;
}

only : (n : Node) (step : ℕ) (s : SystemView) → IsNext n step s → IsLeftOver s (wait_of n step) → AreLeftOver s
only n step s is left = record {
  due = 12000;
  step = step;
  next = is.next;
  all = subst (All (IsLeftOver s)) (sym is.fire) (All-cons (IsLeftOver s) (wait_of n step) [] left (All-nil (IsLeftOver s)));
}

pub waits_on : (end : ℕ) (s : SystemView) → AreOver end s → EachMomentIsCovered end s
unfolding only
waits_on end s are =
    left_over s (only n1 1 s are.first (gone (wait_of n1 1) are.dead))
    (left_over (behind_wait s) (only n2 2 (behind_wait s) are.second (up (wait_of n2 2) refl are.up))
    (over (behind_wait (behind_wait s)) are.none))

pub fails_on : (end : ℕ) (s : SystemView) → IsCalm s → IsLost s → EachMomentIsCovered end (quiet (fired_next 5000 s))
    → EachMomentIsCovered end s
unfolding fails_at
fails_on end s calm is more =
    fails_over s (quiet (fired_next 5000 s)) n2 d1 (are_at_rest s calm (λ alive. absurd (false≢true (sym is.down ∙ alive))))
    (fails_at s calm is)
    (settles most_moves FirstComes (fired_next 5000 s)).0 ((settles most_moves FirstComes (fired_next 5000 s)).1 is.ends) more

-- ---- the stop

-- the first node is down, and nobody waits at the second node's dist_ac for a takeover, or for the end of an application
pub record CanTellSo (s : SystemView) : Type 0 where
  pub down : is_alive_at s n1 ≡ false
  pub takeovers : (dist_of s n2).t_reqs ≡ []
  pub ends : (dist_of s n2).s_reqs ≡ []

pub can_end : (s : SystemView) → IsCalm s → CanTellSo s → CanEnd n2 d1 s
can_end s calm tells = record {
  tells = λ own. record {
    sees_all = sees_all s calm tells.down tells.takeovers;
    ends = of_dist (λ (d : DistView). d.s_reqs ≡ []) s n2 calm.second tells.ends;
  };
}
