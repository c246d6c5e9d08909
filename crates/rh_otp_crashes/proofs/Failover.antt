-- Timers of a loss that fire leave such a start underway.
use Rattle.std.proofs.Common.{◌≡◌, ◌≢◌, ◌⊎◌, ◌≤◌, ◌++◌, ◌==◌, ℕ, Bool, true, false, cond, length, filter, map, List, [], ◌∷◌, Option, None, refl, sym, ap, subst, ◌∙◌, inl, inr, arith}
use Rattle.std.specs.Prelude.{All}
use Rattle.std.proofs.lemmas.Bool.{cases_Bool, cases_eq, eq-eqb, ne_eqb, false≢true, or_parts}
use Rattle.std.proofs.lemmas.List.{append_assoc, append-nil}
use Rattle.std.proofs.lemmas.List.Elements.{All-nil, All-cons}
use Rattle.rh_model.specs.declared.node.App.{App}
use Rattle.rh_model.specs.declared.node.Node.{Node}
use Rattle.rh_otp_model.specs.declared.output.Envelope.{Envelope}
use Rattle.rh_otp_model.specs.declared.process.Process.{Process}
use Rattle.rh_otp_dist.specs.State.{is_among}
use Rattle.rh_otp_net.specs.declared.timers.Timer.{Timer}
use Rattle.rh_otp_net.specs.Timers.{left}
use Rattle.rh_otp_system.specs.Doing.{all_fired, fired, fired_next}
use Rattle.rh_otp_system.specs.Moves.{here}
use Rattle.rh_otp_system.specs.State.{SystemView, node_at, is_alive_at}
use Rattle.rh_otp_laws.specs.Acting.{IsReached, later, fires as fires_next}
use Rattle.rh_otp_laws.proofs.Hanging.{settled_stays_so}
use Rattle.rh_otp_orders.proofs.Confluence.{orderly_alike, picks_alike}
use Rattle.rh_otp_orders.proofs.Moving.{reached_order}
use Rattle.rh_otp_crashes.specs.Crashes.{AreAtRest}
use Rattle.rh_otp_crashes.specs.Failovers.{FailsOverAt, FailoversEndAlike, IsOver, StandsBy, timer_of}
use Rattle.rh_otp_crashes.proofs.Begun.{AreNobodys}
use Rattle.rh_otp_crashes.proofs.Crash.{none_ends, lives_of}
use Rattle.rh_otp_crashes.proofs.Crossing.{same_node}
use Rattle.rh_otp_crashes.proofs.Meeting.{orderly}
use Rattle.rh_otp_crashes.proofs.News.{IsNews, IsLater, IsUnmoved, fires, wakes, is_to, is_timer, it_is_lost}
use Rattle.rh_otp_crashes.proofs.Peace.{peace_forgets}
use Rattle.rh_otp_crashes.proofs.Phases.{Phase, over, told, ready}
use Rattle.rh_otp_crashes.proofs.Underway.{Underway}
use Rattle.rh_otp_crashes.proofs.Waiting.{all_behave}

-- ---- the timers have fired

abbrev pub fired_over : SystemView → ℕ → List Envelope → SystemView
fired_over s due messages = record s { clock = due; timers = left s.timers; messages = messages }

-- the message of a loss
abbrev pub lost_there : SystemView → App → Node × ℕ → Envelope
lost_there s a row = it_is_lost (lives_of s) row.0 a row.1

all_fire : (s : SystemView) (due step : ℕ) (a : App) (losses : List (Node × ℕ)) (q : SystemView)
    → all_fired (map (timer_of due step a s) losses) q ≡ record q { messages = q.messages ++ map (lost_there s a) losses }
all_fire s due step a [] q = λ i. record q { messages = sym (append-nil q.messages) i }
all_fire s due step a (row ∷ losses) q =
    all_fire s due step a losses (fired (timer_of due step a s row) q)
    ∙ (λ i. record q { messages = append_assoc q.messages (lost_there s a row ∷ []) (map (lost_there s a) losses) i })

pub fires_so : (s : SystemView) (n : Node) (a : App) → (failover : FailsOverAt n a s) → s.messages ≡ []
    → fired_next failover.due s ≡ fired_over s failover.due (map (lost_there s a) failover.losses)
unfolding fired_next
fires_so s n a failover none =
    ap (λ (timers : List Timer). all_fired timers (record s { clock = failover.due; timers = left s.timers })) failover.fire
    ∙ all_fire s failover.due failover.step a failover.losses (record s { clock = failover.due; timers = left s.timers })
    ∙ (λ i. fired_over s failover.due (none i ++ map (lost_there s a) failover.losses))

-- ---- what these messages are

all_mapped : {A : Type 0} (P : Envelope → Type 0) (f : A → Envelope) (xs : List A) → ((x : A) → P (f x)) → All P (map f xs)
all_mapped P f [] each = All-nil P
all_mapped P f (x ∷ xs) each = All-cons P (f x) (map f xs) (each x) (all_mapped P f xs each)

pub count_mapped : {A : Type 0} (q : Envelope → Bool) (f : A → Envelope) (xs : List A)
    → length (filter q (map f xs)) ≡ length (filter (λ (x : A). q (f x)) xs)
count_mapped q f [] = refl
count_mapped {A} q f (x ∷ xs) = by (q (f x)) (count_mapped q f xs)
  where
    by : (b : Bool) → length (filter q (map f xs)) ≡ length (filter (λ (y : A). q (f y)) xs)
        → length (cond b (f x ∷ filter q (map f xs)) (filter q (map f xs)))
        ≡ length (cond b (x ∷ filter (λ (y : A). q (f y)) xs) (filter (λ (y : A). q (f y)) xs))
    by true same = omega (arith, same)
    by false same = same

is_news : (s : SystemView) (n : Node) (a : App) (row : Node × ℕ) → IsNews (lives_of s) n a (lost_there s a row)
is_news s n a row =
    elim (cases_eq row.0.0 n.0) [
      | inl one ↦ subst (λ (m : Node). IsNews (lives_of s) n a (it_is_lost (lives_of s) m a row.1)) (same_node n row.0 (sym one)) (fires row.1)
      | inr other ↦ wakes row.0 other row.1
    ]

-- no timer fires at the node
pub none_there : (s : SystemView) (a : App) (m : Node) (losses : List (Node × ℕ))
    → is_among m (map (λ (row : Node × ℕ). row.0) losses) ≡ false → All (IsLater m) (map (lost_there s a) losses)
none_there s a m [] none = All-nil (IsLater m)
none_there s a m (row ∷ losses) none =
    let parts = or_parts (m.0 == row.0.0) (is_among m (map (λ (r : Node × ℕ). r.0) losses)) none in
    All-cons (IsLater m) (lost_there s a row) (map (lost_there s a) losses)
    (ne_eqb row.0.0 m.0 (λ same. false≢true (sym parts.0 ∙ eq-eqb m.0 row.0.0 (sym same)))) (none_there s a m losses parts.1)

-- ---- it is underway

-- how far another node is
phase_of : (s : SystemView) (n : Node) (a : App) → AreAtRest s → (failover : FailsOverAt n a s) → (m : Node) → m.0 ≢ n.0
    → is_alive_at s m ≡ true → Phase n a m (fired_over s failover.due (map (lost_there s a) failover.losses))
phase_of s n a rest failover m other alive = by (cases_Bool (is_among m (map (λ (row : Node × ℕ). row.0) failover.losses)))
  where
    t : SystemView
    t = fired_over s failover.due (map (lost_there s a) failover.losses)

    at : StandsBy m n a s ⊎ IsOver a (node_at s m) → Phase n a m t
    at (inl stands) =
        ready stands.standby (rest.dists m stands.standby.dist alive stands.standby.has) stands.alive stands.sees
        (all_mapped (IsUnmoved m) (lost_there s a) failover.losses (λ row. refl))
    at (inr gone) = told (record {
      free = λ d has. rest.dists m d alive has;
      takes_all = gone.takes_all;
      over = gone.over;
    })

    by : (is_among m (map (λ (row : Node × ℕ). row.0) failover.losses) ≡ true)
        ⊎ (is_among m (map (λ (row : Node × ℕ). row.0) failover.losses) ≡ false) → Phase n a m t
    by (inl fires_there) = at (failover.others m other fires_there alive)
    by (inr none) = over (none_there s a m failover.losses none)

pub is_underway : (s : SystemView) (n : Node) (a : App) → IsReached s → AreAtRest s → (failover : FailsOverAt n a s)
    → Underway (lives_of s) n a (fired_over s failover.due (map (lost_there s a) failover.losses))
is_underway s n a reached rest failover = record {
  peace = record {
    messages = all_mapped (IsNews (lives_of s) n a) (lost_there s a) failover.losses (is_news s n a);
    slow = (settled_stays_so s s rest.settled (here s)).0.1;
    calls = rest.calls;
    calm = all_behave n a;
    dists = λ m d alive has. inl (rest.dists m d alive has);
    ends = λ m alive. none_ends s m reached rest.settled alive;
    listed = reached_order s reached;
    same_lives = λ m. refl;
  };
  lone = subst (λ (k : ℕ). k ≤ 1) (sym (count_mapped (is_to n) (lost_there s a) failover.losses)) (failover.once n);
  early = inr failover.first;
  able = inr failover.able;
  requests = subst AreNobodys (sym failover.able.requests) (All-nil (λ (row : App × Option Process). row.1 ≡ None));
  takeovers = failover.sees_all.takeovers;
  sees = failover.sees_all.sees;
  once = λ m. subst (λ (k : ℕ). k ≤ 1) (sym (count_mapped (is_timer m) (lost_there s a) failover.losses)) (failover.once m);
  phases = phase_of s n a rest failover;
}

forgets : {lives : Node → ℕ} {n : Node} {a : App} (s : SystemView) → Underway lives n a s → Underway lives n a (record s { answers = [] })
forgets {lives} {n} {a} s f = record {
  peace = peace_forgets s f.peace;
  lone = f.lone;
  early = f.early;
  able = f.able;
  requests = f.requests;
  takeovers = f.takeovers;
  sees = f.sees;
  once = f.once;
  phases = λ m other alive. forgets_there m (f.phases m other alive);
}
  where
    forgets_there : (m : Node) → Phase n a m s → Phase n a m (record s { answers = [] })
    forgets_there m (over all) = over all
    forgets_there m (told so) = told so
    forgets_there m (ready standby free alive sees none) = ready standby free alive sees none

pub failovers_alike : FailoversEndAlike
failovers_alike s n a reached rest failover =
    let t : SystemView = fired_next failover.due s in
    let reached_t : IsReached t = later s t reached (fires_next s failover.due failover.step failover.next) in
    let f : Underway (lives_of s) n a t =
    subst (Underway (lives_of s) n a)
    (sym (fires_so s n a failover (settled_stays_so s s rest.settled (here s)).0.0)) (is_underway s n a reached rest failover) in (
      orderly_alike t reached_t (orderly t f),
      λ most one other quiet quiet_too.
          picks_alike t most one other reached_t (orderly (record t { answers = [] }) (forgets t f)) quiet quiet_too,
    )
