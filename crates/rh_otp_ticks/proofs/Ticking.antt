-- A tick each of whose moments is covered ends alike.
use Rattle.std.proofs.Common.{◌≡◌, ◌⊎◌, nat_le, ℕ, zero, suc, Bool, true, false, cond, [], Some, None, sym, ap, subst, ◌∙◌, inl, inr}
use Rattle.std.proofs.lemmas.List.Elements.{All-weaker}
use Rattle.std.proofs.lemmas.Option.{none-some, same_Some}
use Rattle.rh_model.specs.declared.node.App.{App}
use Rattle.rh_model.specs.declared.node.Node.{Node}
use Rattle.rh_otp_net.specs.declared.order.Order.{Order}
use Rattle.rh_otp_net.specs.Timers as timers
use Rattle.rh_otp_system.specs.Doing.{fired_next, until_if, next_until}
use Rattle.rh_otp_system.specs.Moves.{Reaches, IsSettled, settled, is_settled_by}
use Rattle.rh_otp_system.specs.State.{SystemView, node_at}
use Rattle.rh_otp_system.proofs.Moving.{settles}
use Rattle.rh_otp_laws.specs.Acting as acting
use Rattle.rh_otp_laws.specs.Acting.{IsReached, later}
use Rattle.rh_otp_laws.proofs.Commands.{commands_reached}
use Rattle.rh_otp_laws.proofs.Hanging.{settled_stays_so}
use Rattle.rh_otp_orders.specs.Confluence.{Moves, EveryOrderEndsAlike}
use Rattle.rh_otp_orders.specs.Orders.{AreAlike}
use Rattle.rh_otp_orders.proofs.Confluence.{alike_itself, alike_and_alike, counted, reached_on}
use Rattle.rh_otp_commands.specs.Commands.{SettlesAlike, FiringsEndAlike}
use Rattle.rh_otp_commands.proofs.Alike.{alike_afresh}
use Rattle.rh_otp_commands.proofs.Firing.{fire_alike, same_next}
use Rattle.rh_otp_commands.proofs.OneWay.{rest_ends_alike}
use Rattle.rh_otp_commands.proofs.Settling.{Both, end_alike}
use Rattle.rh_otp_crashes.specs.Crashes.{AreAtRest}
use Rattle.rh_otp_crashes.specs.Failovers.{FailsOverAt, StandsBy, IsOver}
use Rattle.rh_otp_crashes.proofs.Failover.{failovers_alike}
use Rattle.rh_otp_ticks.specs.LeftOver.{AreLeftOver, IsLeftOver, ChangesNothing, behind_timers}
use Rattle.rh_otp_ticks.specs.Moments.{fired_at, passing, EachMomentIsCovered, over, left_over, fails_over, wait_ends, otherwise, TicksThroughMomentsEndAlike}
use Rattle.rh_otp_ticks.proofs.Firing.{left_over_alike, at_another}
use Rattle.rh_otp_ticks.proofs.Following.{every_too}
use Rattle.rh_otp_ticks.proofs.Forgetting.{forgetting, forgets_first, forgets, rest_still, forgotten_reached}
use Rattle.rh_otp_ticks.proofs.WaitsEnd.{wait_settles_alike}

-- ---- no answers are counted

left_over_still : (s : SystemView) → AreLeftOver s → AreLeftOver (forgetting s)
left_over_still s rows = record {
  due = rows.due;
  step = rows.step;
  next = rows.next;
  all = All-weaker (IsLeftOver s) (IsLeftOver (forgetting s)) (at_another s.clock s.timers [] s.messages s) (timers.fired s.timers)
      rows.all;
}

fails_still : (s : SystemView) (n : Node) (a : App) → FailsOverAt n a s → FailsOverAt n a (forgetting s)
fails_still s n a fails = record {
  due = fails.due;
  step = fails.step;
  next = fails.next;
  losses = fails.losses;
  fire = fails.fire;
  once = fails.once;
  first = fails.first;
  able = fails.able;
  sees_all = record { takeovers = fails.sees_all.takeovers; sees = fails.sees_all.sees };
  others = λ m other fires alive. by m (fails.others m other fires alive);
}
  where
    by : (m : Node) → StandsBy m n a s ⊎ IsOver a (node_at s m) → StandsBy m n a (forgetting s) ⊎ IsOver a (node_at s m)
    by m (inl stands) = inl (record { standby = stands.standby; alive = stands.alive; sees = stands.sees })
    by m (inr gone) = inr gone

-- ---- a moment

due_is : (end due : ℕ) (next : ℕ × ℕ) (b : Bool) → cond b (Some next.0) None ≡ Some due → next.0 ≡ due
due_is end due next true is = same_Some next.0 due is
due_is end due next false is = absurd (none-some due is)

-- what is due next is due until the end
is_next : (end due at step : ℕ) (s : SystemView) → timers.next_due s.timers ≡ Some (at, step) → next_until end s ≡ Some due → at ≡ due
is_next end due at step s next found = due_is end due (at, step) (nat_le at end) (sym (ap (until_if end) next) ∙ found)

-- what comes of this moment
abbrev Passes : ℕ → ℕ → ℕ → Order → SystemView → ℕ → Type 0
Passes times end most order s due =
    SettlesAlike (fired_next due s)
    × (is_settled_by most order (fired_next due s) ≡ true → FiringsEndAlike times end most order (settled most order (fired_next due s)))

-- what is so of all that is alike to this
abbrev OfAllAlike : ℕ → ℕ → ℕ → Order → SystemView → Type 0
OfAllAlike times end most order s =
    (t : SystemView) → AreAlike s t → IsReached s → IsReached t → FiringsEndAlike times end most order t

-- something fires, of which all ends alike, and that comes to this by one order
record Fires (s t : SystemView) : Type 0 where
  due : ℕ
  step : ℕ
  next : timers.next_due s.timers ≡ Some (due, step)
  every : SettlesAlike (fired_next due s)
  reaches : Reaches (fired_at due s) t
  settled : IsSettled t

moment : (times end most : ℕ) (order : Order) (s t : SystemView) → Fires s t → OfAllAlike times end most order t
    → OfAllAlike (suc times) end most order s
moment times end most order s t f go s' same reached reached' =
    λ due found. subst (Passes times end most order s') (is_next end due f.due f.step s' next_too found) (every_there, goes_on)
  where
    next_too : timers.next_due s'.timers ≡ Some (f.due, f.step)
    next_too = sym (same_next s.timers s'.timers same.timers) ∙ f.next

    u : SystemView
    u = fired_next f.due s

    u' : SystemView
    u' = fired_next f.due s'

    reached_u : IsReached u
    reached_u = later s u reached (acting.fires s f.due f.step f.next)

    reached_u' : IsReached u'
    reached_u' = later s' u' reached' (acting.fires s' f.due f.step next_too)

    same_u : AreAlike u u'
    same_u = fire_alike f.due s s' same

    every_there : SettlesAlike u'
    every_there =
        every_too (forgetting u) (forgetting u') (alike_afresh u u' same_u) (forgotten_reached u reached_u)
        (forgotten_reached u' reached_u') f.every

    reached_t : IsReached t
    reached_t =
        let run : (k : ℕ) × Moves k (forgetting u) t = counted (forgetting u) t f.reaches in
        reached_on run.0 (forgetting u) t run.1 (forgotten_reached u reached_u)

    goes_on : is_settled_by most order u' ≡ true → FiringsEndAlike times end most order (settled most order u')
    goes_on quiet =
        let both : Both AreAlike (is_settled_by most order u) (is_settled_by most order u') (settled most order u) (settled most order u') =
        end_alike u u' most order order reached_u same_u f.every in
        let quiet_u : is_settled_by most order u ≡ true = both.0 ∙ quiet in
        go (settled most order u')
        (alike_and_alike t (settled most order u) (settled most order u')
        (f.every.alike t (settled most order u) f.reaches f.settled (settles most order u).0 ((settles most order u).1 quiet_u))
        (both.1 quiet_u)) reached_t (commands_reached.settles_there most order u' reached_u')

-- ---- each moment

fires_left_over : (s : SystemView) → IsSettled s → (rows : AreLeftOver s) → Fires s (forgetting (behind_timers rows.due s))
unfolding left_over_still
fires_left_over s at rows =
    let so : ChangesNothing (forgetting s) rows.due = left_over_alike (forgetting s) (forgets s at) (left_over_still s rows) in
    record {
      due = rows.due;
      step = rows.step;
      next = rows.next;
      every = subst EveryOrderEndsAlike (forgets_first rows.due s) so.every;
      reaches = subst (λ (x : SystemView). Reaches x (forgetting (behind_timers rows.due s))) (forgets_first rows.due s) so.reaches;
      settled = so.settled;
    }

fails_alike : (s : SystemView) (n : Node) (a : App) → IsReached s → AreAtRest s → (fails : FailsOverAt n a s)
    → SettlesAlike (fired_next fails.due s)
unfolding fails_still
fails_alike s n a reached rest fails =
    subst EveryOrderEndsAlike (forgets_first fails.due s)
    (failovers_alike (forgetting s) n a (forgotten_reached s reached) (rest_still s rest) (fails_still s n a fails)).0

each_moment : (times end most : ℕ) (order : Order) (s : SystemView) → IsSettled s → EachMomentIsCovered end s
    → ((t : SystemView) → IsSettled t → EachMomentIsCovered end t → OfAllAlike times end most order t)
    → OfAllAlike (suc times) end most order s
each_moment times end most order _ at (over s none) go = λ s' same reached reached' due found.
    absurd (none-some due (sym (sym (ap (until_if end) (same_next s.timers s'.timers same.timers)) ∙ none) ∙ found))
each_moment times end most order _ at (left_over s rows rest) go =
    let f : Fires s (forgetting (behind_timers rows.due s)) = fires_left_over s at rows in
    moment times end most order s (forgetting (behind_timers rows.due s)) f
    (go (forgetting (behind_timers rows.due s)) f.settled rest)
each_moment times end most order _ at (fails_over s t n a rest fails reaches settled_t more) go = λ s' same reached reached'.
    moment times end most order s t (record {
      due = fails.due;
      step = fails.step;
      next = fails.next;
      every = fails_alike s n a reached rest fails;
      reaches = reaches;
      settled = settled_t;
    }) (go t settled_t more) s' same reached reached'
each_moment times end most order _ at (wait_ends s t n rest timed wait reaches settled_t more) go = λ s' same reached reached'.
    moment times end most order s t (record {
      due = wait.due;
      step = wait.step;
      next = wait.next;
      every = wait_settles_alike s n reached rest timed wait;
      reaches = reaches;
      settled = settled_t;
    }) (go t settled_t more) s' same reached reached'
each_moment times end most order _ at (otherwise s t due step next every reaches settled_t more) go =
    moment times end most order s t
    (record { due = due; step = step; next = next; every = every; reaches = reaches; settled = settled_t }) (go t settled_t more)

-- ---- all of them

firings : (end most : ℕ) (order : Order) (times : ℕ) (s : SystemView) → IsSettled s → EachMomentIsCovered end s
    → OfAllAlike times end most order s
firings end most order zero s at each = λ t same reached reached'. tt
firings end most order (suc times) s at each = each_moment times end most order s at each (firings end most order times)

pub moments_alike : TicksThroughMomentsEndAlike
moments_alike s end most order reached at each = record {
  first = rest_ends_alike (passing s) at;
  firings = λ quiet.
      subst (FiringsEndAlike most end most order) (sym is)
      (firings end most order most (passing s) at each (passing s) (alike_itself (passing s)) reached_so reached_so);
}
  where
    t : SystemView
    t = record s { is_ticking = true }

    is : settled most order t ≡ passing s
    is = (settled_stays_so (passing s) (settled most order t) at (settles most order t).0).1

    reached_so : IsReached (passing s)
    reached_so = forgotten_reached t (later s t reached (acting.ticks s true))
