-- Worked rows: a cold start that the law speaks of, with what is told of it; and starts that lack what the law asks, of which something else
-- is told.
use Rattle.std.proofs.Common.{◌≡◌, ◌≢◌, ◌<◌, ℕ, zero, suc, true, false, [], ◌∷◌, None, Some, refl, subst, arith}
use Rattle.rh_model.specs.ClusterView.{ClusterView, numbered, app_numbered}
use Rattle.rh_model.specs.declared.settings.Restart.TheVariants.{Permanent, Temporary}
use Rattle.rh_state.specs.declared.status.Kind.TheVariants as kind
use Rattle.rh_state.specs.declared.status.Mode.TheVariants as mode
use Rattle.rh_state.specs.declared.status.Standing.TheVariants as standing
use Rattle.rh_state.specs.declared.status.Timer.TheVariants.{Failover}
use Rattle.rh_state.specs.First.{configured, first}
use Rattle.rh_state.specs.Numbers.{nodes_of, apps_of}
use Rattle.rh_state.specs.StateView.{StateView, mode_of, standing_of}
use Rattle.rh_rules.specs.declared.event.Event.TheVariants as event
use Rattle.rh_rules.specs.declared.notice.Notice.TheVariants.{Up, Started, Waits}
use Rattle.rh_rules.specs.declared.pick.Pick.TheVariants.{First, Last}
use Rattle.rh_rules.specs.Marking.{with_mark, mark_all}
use Rattle.rh_rules.specs.Moves.{can_start, local_moves, placements, calls_away, takeovers}
use Rattle.rh_rules.specs.NodesStart.{all_alive, is_ready, booted, come_up, come_up_if_ready, ready_come_up}
use Rattle.rh_rules.specs.Placing.{deps_run, is_operational, best, candidates}
use Rattle.rh_rules.specs.Refusals.{refused}
use Rattle.rh_rules.specs.Settling.{next_moves, moved_by, all_moved}
use Rattle.rh_rules.specs.Steps.{followed, next}
use Rattle.rh_step.proofs.FirstStates.{first_valid}
use Rattle.rh_step.proofs.Validity.{next_valid}
use Rattle.rh_trace.specs.Validity.{IsValid}
use Rattle.rh_start_laws.specs.Starts.{IsLast, HasStarted, start_told}
use Rattle.rh_start_laws.proofs.LastBoots.{last_boots_start_all}
use Rattle.rh_start_laws.proofs.RowsCluster.{p, q, log, web, spread, boot, all_permitted, shop_of, shop, within, in_order}

-- ---- p has begun, and waits for q

abbrev one_waits : StateView
one_waits = (next (first shop) (event.Boot p) First).state

p_begins : refused (first shop) (event.Boot p) ≡ None
unfolding refused
p_begins = refl

is_valid : IsValid one_waits
is_valid = next_valid (first shop) (event.Boot p) First (first_valid shop within) p_begins

-- the state, written out
abbrev written : StateView
written = record (first shop) { modes = mode.Waiting ∷ mode.Down ∷ []; incarnations = 1 ∷ 0 ∷ [] }

written_row : one_waits ≡ written
unfolding booted come_up mark_all with_mark nodes_of apps_of all_alive is_ready come_up_if_ready ready_come_up is_operational deps_run
    best candidates can_start local_moves placements calls_away takeovers next_moves moved_by all_moved followed next configured
written_row = refl

q_begins : refused written (event.Boot q) ≡ None
unfolding refused
q_begins = refl

others_wait : (k : ℕ) → k < 2 → k ≢ 1 → mode_of written (numbered k) ≡ mode.Waiting
others_wait zero lt other = refl
others_wait (suc zero) lt other = absurd (other refl)
others_wait (suc (suc k)) lt other = absurd (omega (arith, lt))

none_stands : (k : ℕ) → standing_of written (app_numbered k) ≡ standing.Quiet
none_stands zero = refl
none_stands (suc zero) = refl
none_stands (suc (suc k)) = refl

is_last : IsLast written q
is_last = record { others = λ m lt other. others_wait m.0 lt other; quiet = λ a. none_stands a.0 }

-- the law, for q
then_starts : HasStarted written q in_order.at (next written (event.Boot q) First).state
    × ((next written (event.Boot q) First).notices ≡ start_told shop in_order.at)
then_starts = last_boots_start_all written q First (subst IsValid written_row is_valid) q_begins in_order is_last

-- and what it says
told_row : start_told shop in_order.at
    ≡ Up p ∷ Up q ∷ Started log p kind.Normal None ∷ Started log q kind.Normal None ∷ Started web p kind.Normal None ∷ Waits web q ∷ []
unfolding in_order nodes_of apps_of
told_row = refl

computed_row : (next written (event.Boot q) Last).notices ≡ start_told shop in_order.at
unfolding booted come_up mark_all with_mark nodes_of apps_of all_alive is_ready come_up_if_ready ready_come_up is_operational deps_run
    best candidates can_start local_moves placements calls_away takeovers next_moves moved_by all_moved followed next configured in_order
computed_row = refl

-- ---- starts that lack what the law asks

-- p has begun, and waits for q
abbrev p_waits : ClusterView → StateView
p_waits c = record (first c) { modes = mode.Waiting ∷ mode.Down ∷ []; incarnations = 1 ∷ 0 ∷ [] }

-- were q not the last one, it would wait, and nothing be told
not_last_row : (next (first shop) (event.Boot q) First).notices ≡ []
unfolding booted come_up mark_all with_mark nodes_of apps_of all_alive is_ready come_up_if_ready ready_come_up is_operational deps_run
    best candidates can_start local_moves placements calls_away takeovers next_moves moved_by all_moved followed next configured
not_last_row = refl

-- were web not distributed, and stood before log, which it needs, it would start behind it all the same
abbrev turned : ClusterView
turned = shop_of ((web, Temporary) ∷ (log, Permanent) ∷ []) all_permitted None

turned_row : (next (p_waits turned) (event.Boot q) First).notices
    ≡ Up p ∷ Up q ∷ Started log p kind.Normal None ∷ Started web p kind.Normal None ∷ Started log q kind.Normal None
    ∷ Started web q kind.Normal None ∷ []
unfolding booted come_up mark_all with_mark nodes_of apps_of all_alive is_ready come_up_if_ready ready_come_up is_operational deps_run
    best candidates can_start local_moves placements calls_away takeovers next_moves moved_by all_moved followed next configured
turned_row = refl

not_told_row : start_told turned (λ a. p)
    ≡ Up p ∷ Up q ∷ Started web p kind.Normal None ∷ Started log p kind.Normal None ∷ Started web q kind.Normal None
    ∷ Started log q kind.Normal None ∷ []
unfolding nodes_of apps_of
not_told_row = refl

-- were log forbidden, it would wait, and web with it
abbrev forbidden : ClusterView
forbidden = shop_of boot (false ∷ true ∷ []) (Some spread)

forbidden_row : (next (p_waits forbidden) (event.Boot q) First).notices
    ≡ Up p ∷ Up q ∷ Waits log p ∷ Waits web p ∷ Waits log q ∷ Waits web q ∷ []
unfolding booted come_up mark_all with_mark nodes_of apps_of all_alive is_ready come_up_if_ready ready_come_up is_operational deps_run
    best candidates can_start local_moves placements calls_away takeovers next_moves moved_by all_moved followed next configured
forbidden_row = refl

-- were p and q in one group, a tie would be broken, by each pick in its way
abbrev even : ClusterView
even = shop_of boot all_permitted (Some (record spread { groups = (p ∷ q ∷ []) ∷ [] }))

even_first_row : (next (p_waits even) (event.Boot q) First).notices
    ≡ Up p ∷ Up q ∷ Started log p kind.Normal None ∷ Started log q kind.Normal None ∷ Started web p kind.Normal None ∷ Waits web q ∷ []
unfolding booted come_up mark_all with_mark nodes_of apps_of all_alive is_ready come_up_if_ready ready_come_up is_operational deps_run
    best candidates can_start local_moves placements calls_away takeovers next_moves moved_by all_moved followed next configured
even_first_row = refl

even_last_row : (next (p_waits even) (event.Boot q) Last).notices
    ≡ Up p ∷ Up q ∷ Started log p kind.Normal None ∷ Started log q kind.Normal None ∷ Started web q kind.Normal None ∷ Waits web p ∷ []
unfolding booted come_up mark_all with_mark nodes_of apps_of all_alive is_ready come_up_if_ready ready_come_up is_operational deps_run
    best candidates can_start local_moves placements calls_away takeovers next_moves moved_by all_moved followed next configured
even_last_row = refl

-- had web been lost with q, it would be told so
abbrev lost : StateView
lost = record (p_waits shop) { standings = standing.Quiet ∷ standing.Lost q ∷ []; timers = (1000, Failover web) ∷ [] }

lost_row : (next lost (event.Boot q) First).notices
    ≡ Up p ∷ Up q ∷ Started log p kind.Normal None ∷ Started log q kind.Normal None ∷ Started web p kind.Normal (Some q) ∷ Waits web q ∷ []
unfolding booted come_up mark_all with_mark nodes_of apps_of all_alive is_ready come_up_if_ready ready_come_up is_operational deps_run
    best candidates can_start local_moves placements calls_away takeovers next_moves moved_by all_moved followed next configured
lost_row = refl
