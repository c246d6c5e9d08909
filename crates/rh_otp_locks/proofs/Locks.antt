-- No lock is held for nothing, in all that live nodes reach; and where they are at rest none is held.
use Rattle.std.proofs.Common.{◌≡◌, ◌⊎◌, ◌++◌, ℕ, Bool, true, false, List, [], ◌∷◌, map, Option, Some, None, slice_get, unwrap_or, refl, sym, ap, subst, ◌∙◌, inl, inr}
use Rattle.std.specs.Prelude.{All}
use Rattle.std.proofs.lemmas.List.Elements.{All-nil}
use Rattle.std.specs.Option.{option_map}
use Rattle.std.proofs.lemmas.Bool.{false≢true}
use Rattle.std.proofs.lemmas.Option.{none-some, same_Some, slice_get-get_or}
use Rattle.rh_model.specs.declared.node.App.{App}
use Rattle.rh_model.specs.declared.node.Node.{Node}
use Rattle.rh_otp_dist.specs.declared.state.Stand.{Stand}
use Rattle.rh_otp_dist.specs.declared.state.Stand.TheVariants as stand
use Rattle.rh_otp_dist.specs.State.{DistView}
use Rattle.rh_otp_net.specs.declared.locks.Held.{Held}
use Rattle.rh_otp_net.specs.Timers as timers
use Rattle.rh_otp_node.specs.Live.{LiveView, never_begun, is_alive}
use Rattle.rh_otp_system.specs.declared.calls.Call.{Call}
use Rattle.rh_otp_system.specs.declared.cell.Cell.{Cell}
use Rattle.rh_otp_system.specs.declared.moves.Move.TheVariants as move
use Rattle.rh_otp_system.specs.Moves.{IsPossible}
use Rattle.rh_otp_system.specs.Resting.{rested}
use Rattle.rh_otp_system.specs.State.{SystemView, live_at, node_at, is_alive_at}
use Rattle.rh_otp_laws.specs.Acting.{Acts, moves, begins, crashes, calls, HasNodesOf, Happens, acts, fires, passes, ticks, settles, rests, forgets, takes_up, taken_up, IsReached, new, later}
use Rattle.rh_otp_laws.specs.Time.{message_of}
use Rattle.rh_otp_laws.proofs.Listing.{alive_listed}
use Rattle.rh_otp_laws.proofs.Lists.{IsAt}
use Rattle.rh_otp_laws.proofs.Time.{due_fire}
use Rattle.rh_otp_orders.specs.Orders.{is_call}
use Rattle.rh_otp_crashes.specs.Crashes.{IsUnoccupied, AreAtRest}
use Rattle.rh_otp_locks.specs.Holding.{IsNeeded, IsForCall, IsForDist, IsHeldFor, LocksAreHeldForSomething, NobodyHasALockAtRest}
use Rattle.rh_otp_locks.proofs.Calling as calling
use Rattle.rh_otp_locks.proofs.Keeping.{Holds, stand_of, held_still, keeps_held}
use Rattle.rh_otp_locks.proofs.Moving.{ends, moves_on, boots, owner_alive}
use Rattle.rh_otp_locks.proofs.Resuming.{none_needed}

-- ---- whatever happens

-- a node whose dist_ac goes on with a lock is alive
lock_alive : (s : SystemView) (n : Node) → IsReached s → IsPossible s (move.Lock n) → is_alive_at s n ≡ true
lock_alive s n reached possible = ((alive_listed s reached).exactly n).0 possible.1

acts_hold : (s t : SystemView) → IsReached s → Acts s t → Holds s → Holds t
acts_hold _ _ reached (moves s next possible) holds =
    moves_on next s (λ n is. lock_alive s n reached (subst (IsPossible s) is possible)) holds
acts_hold _ _ reached (begins s n there down) holds = boots n s there.0 there.1 down holds
acts_hold _ _ reached (crashes s n) holds = ends n s holds
acts_hold _ _ reached (calls s a n app) holds = calling.calls_on a n app s holds

-- the system in which the timers that are due next have fired
abbrev fired_as : SystemView → ℕ → SystemView
fired_as s due = record s {
  clock = due;
  timers = timers.left s.timers;
  messages = s.messages ++ map message_of (timers.fired s.timers);
}

-- nodes, locks and calls are as they were
same : (s t : SystemView) → ((m : Node) → node_at t m ≡ node_at s m) → t.locks ≡ s.locks → t.calls ≡ s.calls → Holds s → Holds t
same s t nodes locks asked holds =
    keeps_held s t
    (record {
      locks = λ h at. subst (λ (l : List Held). IsAt h l) locks at;
      calls = asked;
      nodes = λ m. record { life = ap (λ (v : LiveView). v.life) (nodes m); alive = ap is_alive (nodes m); stand = ap stand_of (nodes m) };
    }) holds

rests_hold : (s : SystemView) → Holds s → Holds (rested s)
unfolding rested
rests_hold s holds = same s (rested s) (λ m. refl) refl refl holds

-- who is alive is taken up as it was, and nobody else has a lock
taken_up_hold : (s : SystemView) (cells : List Cell) (told : List (App × Node)) (ends_soon : Bool)
    → HasNodesOf s (taken_up s cells told ends_soon) → Holds s → Holds (taken_up s cells told ends_soon)
taken_up_hold s cells told ends_soon has holds h at = go (has h.owner.node)
  where
    up : SystemView
    up = taken_up s cells told ends_soon

    go : (live_at up h.owner.node ≡ live_at s h.owner.node) ⊎ ((live_at up h.owner.node ≡ None) × (is_alive_at s h.owner.node ≡ false))
        → IsHeldFor up h
    go (inl as_it_was) =
        let nodes : node_at up h.owner.node ≡ node_at s h.owner.node = ap (λ (o : Option LiveView). unwrap_or o never_begun) as_it_was in
        held_still s up h refl
        (record { life = ap (λ (v : LiveView). v.life) nodes; alive = ap is_alive nodes; stand = ap stand_of nodes }) (holds h at)
    go (inr none) = absurd (false≢true (sym none.1 ∙ owner_alive s h.owner (holds h at).there))

happens_hold : (s t : SystemView) → IsReached s → Happens s t → Holds s → Holds t
happens_hold _ _ reached (acts s t one) holds = acts_hold s t reached one holds
happens_hold _ _ reached (fires s due step next) holds =
    subst Holds (sym (due_fire s due)) (same s (fired_as s due) (λ m. refl) refl refl holds)
happens_hold _ _ reached (passes s time on none) holds = same s (record s { clock = time }) (λ m. refl) refl refl holds
happens_hold _ _ reached (ticks s ticking) holds = same s (record s { is_ticking = ticking }) (λ m. refl) refl refl holds
happens_hold _ _ reached (settles s) holds = same s (record s { answers = [] }) (λ m. refl) refl refl holds
happens_hold _ _ reached (rests s) holds = rests_hold s holds
happens_hold _ _ reached (forgets s) holds = calling.forgets s holds
happens_hold _ _ reached (takes_up s cells told ends_soon quiet has) holds = taken_up_hold s cells told ends_soon has holds

all_hold : (s : SystemView) → IsReached s → Holds s
all_hold _ (new s is) h at = absurd (none-some h (ap (λ (l : List Held). slice_get l at.0) (sym is.locks) ∙ at.1))
all_hold _ (later s t before one) h at = happens_hold s t before one (all_hold s before) h at

-- ---- the laws

pub all_held : LocksAreHeldForSomething
all_held s reached k d within = all_hold s reached _ (k, slice_get-get_or s.locks k d within)

-- a dist_ac that does nothing needs no lock
unoccupied : (d : DistView) (at : Stand) (h : Held) → IsUnoccupied d → d.stand ≡ at → IsNeeded h.requester h.owner at → ⊥
unoccupied d at h free is needs = go free.stand
  where
    needed : (w : Stand) → d.stand ≡ w → IsNeeded h.requester h.owner w
    needed w stands = subst (λ (v : Stand). IsNeeded h.requester h.owner v) (sym is ∙ stands) needs

    go : (d.stand ≡ stand.Idle) ⊎ (d.stand ≡ stand.ForGo) → ⊥
    go (inl idle) = none_needed h.requester h.owner stand.Idle refl refl (needed stand.Idle idle)
    go (inr waits) = none_needed h.requester h.owner stand.ForGo refl refl (needed stand.ForGo waits)

stands_in : (o : Option DistView) (at : Stand) → option_map (λ (d : DistView). d.stand) o ≡ Some at
    → (d : DistView) × (o ≡ Some d) × (d.stand ≡ at)
stands_in None at is = absurd (none-some at is)
stands_in (Some d) at is = (d, refl, same_Some d.stand at is)

-- where all are at rest a lock is held for nothing
for_nothing : (s : SystemView) (h : Held) → AreAtRest s → IsHeldFor s h → ⊥
for_nothing s h rest held = go held.what
  where
    go : IsForCall s h ⊎ IsForDist s h → ⊥
    go (inl for) = none-some for.call (ap (λ (l : List Call). slice_get l for.place) (sym rest.calls) ∙ for.is_there)
    go (inr dist) =
        let has : (d : DistView) × ((node_at s h.owner.node).dist ≡ Some d) × (d.stand ≡ dist.at) =
        stands_in (node_at s h.owner.node).dist dist.at dist.stands in
        unoccupied has.0 dist.at h (rest.dists h.owner.node has.0 (owner_alive s h.owner held.there) has.1) has.2 dist.needs

pub none_at_rest : NobodyHasALockAtRest
none_at_rest s reached rest = go s.locks refl
  where
    go : (l : List Held) → s.locks ≡ l → s.locks ≡ []
    go [] is = is
    go (h ∷ l) is = absurd (for_nothing s h rest (all_hold s reached h (0, ap (λ (rows : List Held). slice_get rows 0) is)))

-- and so none of calls
pub none_of_calls : (s : SystemView) → IsReached s → AreAtRest s → All (λ (h : Held). is_call h.owner.role ≡ false) s.locks
none_of_calls s reached rest =
    subst (All (λ (h : Held). is_call h.owner.role ≡ false)) (sym (none_at_rest s reached rest))
    (All-nil (λ (h : Held). is_call h.owner.role ≡ false))
