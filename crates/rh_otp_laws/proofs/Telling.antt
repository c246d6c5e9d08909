-- An observer is told of each node that goes down.
use Rattle.std.proofs.Common.{◌≡◌, ◌⊎◌, ◌++◌, true, false, List, [], ◌∷◌, Some, refl, sym, ap, ◌∙◌, inl, inr}
use Rattle.std.proofs.lemmas.Bool.{false≢true, cases_eq, cases_Bool}
use Rattle.std.proofs.lemmas.List.{append_assoc, append-nil}
use Rattle.rh_model.specs.ClusterView.{numbered}
use Rattle.rh_model.specs.declared.node.Node.{Node}
use Rattle.rh_otp_model.specs.declared.output.Event.{Event}
use Rattle.rh_otp_model.specs.declared.output.Event.TheVariants as event
use Rattle.rh_otp_net.specs.Locks.{taken}
use Rattle.rh_otp_node.specs.Live.{LiveView, is_alive, with_kind, begun}
use Rattle.rh_otp_node.specs.Remote.{without_monitors}
use Rattle.rh_otp_system.specs.Doing.{begun_at}
use Rattle.rh_otp_system.specs.Ending.{taken_down}
use Rattle.rh_otp_system.specs.Outputs.{free}
use Rattle.rh_otp_system.specs.Sending.{told, with_timer}
use Rattle.rh_otp_system.specs.State.{SystemView, live_at, node_at, with_node, own_at, is_alive_at}
use Rattle.rh_otp_laws.specs.Acting.{moves, begins, crashes, calls}
use Rattle.rh_otp_laws.specs.Lives.{EndsAreToldOf, EndsAreTold}
use Rattle.rh_otp_laws.proofs.Beginning.{begun_there, boots, calls_on}
use Rattle.rh_otp_laws.proofs.Lists.{IsAt, in_first, in_second}
use Rattle.rh_otp_laws.proofs.Lives.{all_live_on, others_stand}
use Rattle.rh_otp_laws.proofs.Moving.{ends, left_by, made_by_turn}
use Rattle.rh_otp_laws.proofs.Nodes.{same_number, others_same}
use Rattle.rh_otp_laws.proofs.Turn.{Turn, nothing, both, wrote, noted, seen, put, set, linked, slowed, took, freed, called, answered, fell, unmonitored}
use Rattle.rh_otp_laws.proofs.Working.{unmonitored_on}

-- none goes down
none_ends : (s t : SystemView) (more : List Event) → t.events ≡ s.events ++ more
    → ((m : Node) → is_alive_at s m ≡ true → is_alive_at t m ≡ true)
    → EndsAreToldOf s t
none_ends s t more behind lives = record {
  more = more;
  behind = behind;
  each = λ m alive down. absurd (false≢true (sym down ∙ lives m alive));
}

no_event : (events : List Event) → events ≡ events ++ []
no_event events = sym (append-nil events)

told_both : (s t u : SystemView) → EndsAreToldOf s t → EndsAreToldOf t u → EndsAreToldOf s u
told_both s t u p q = record {
  more = p.more ++ q.more;
  behind = q.behind ∙ ap (λ (l : List Event). l ++ q.more) p.behind ∙ append_assoc s.events p.more q.more;
  each = each;
}
  where
    by : (m : Node) → is_alive_at s m ≡ true → is_alive_at u m ≡ false → (is_alive_at t m ≡ true) ⊎ (is_alive_at t m ≡ false)
        → IsAt (event.Ended m) (p.more ++ q.more)
    by m alive down (inl still) = in_second (event.Ended m) p.more q.more (q.each m still down)
    by m alive down (inr ended) =
        let at : IsAt (event.Ended m) p.more = p.each m alive ended in
        in_first (event.Ended m) p.more q.more at.0 at.1

    each : (m : Node) → is_alive_at s m ≡ true → is_alive_at u m ≡ false → IsAt (event.Ended m) (p.more ++ q.more)
    each m alive down = by m alive down (cases_Bool (is_alive_at t m))

fallen_events : (n : Node) (s : SystemView) → (taken_down n s).events ≡ s.events ++ event.Ended n ∷ []
unfolding taken_down told
fallen_events n s = refl

fell_told : (n : Node) (s : SystemView) → EndsAreToldOf s (taken_down n s)
fell_told n s = record { more = event.Ended n ∷ []; behind = fallen_events n s; each = each }
  where
    each : (m : Node) → is_alive_at s m ≡ true → is_alive_at (taken_down n s) m ≡ false → IsAt (event.Ended m) (event.Ended n ∷ [])
    each m alive down = elim (cases_eq m.0 n.0) [
      | inl here ↦ (0, λ i. Some (event.Ended (record { 0 = sym here i })))
      | inr other ↦ absurd (false≢true (sym down ∙ ap is_alive (others_stand n m s other) ∙ alive))
    ]

pub tells_ends : (n : Node) (s t : SystemView) → Turn n s t → EndsAreToldOf s t
tells_ends n _ _ (nothing s) = none_ends s s [] (no_event s.events) (λ m alive. alive)
tells_ends n _ _ (both s t u p q) = told_both s t u (tells_ends n s t p) (tells_ends n t u q)
tells_ends n _ _ (wrote s v on) = none_ends s (with_node n v s) [] (no_event s.events) (λ m alive. (all_live_on s n m v on).1 ∙ alive)
tells_ends n _ _ (noted s k a kind) =
    none_ends s (with_node k (with_kind a kind (node_at s k)) s) [] (no_event s.events)
    (λ m alive. (all_live_on s k m (with_kind a kind (node_at s k)) (refl, refl)).1 ∙ alive)
tells_ends n _ _ (seen s e) = none_ends s (record s { events = s.events ++ e ∷ [] }) (e ∷ []) refl (λ m alive. alive)
tells_ends n _ _ (put s more) = none_ends s (record s { messages = s.messages ++ more }) [] (no_event s.events) (λ m alive. alive)
tells_ends n _ _ (set s due to message later) = none_ends s (with_timer due to message s) [] (no_event s.events) (λ m alive. alive)
tells_ends n _ _ (linked s links) = none_ends s (record s { links = links }) [] (no_event s.events) (λ m alive. alive)
tells_ends n _ _ (slowed s slow) = none_ends s (record s { slow = slow }) [] (no_event s.events) (λ m alive. alive)
tells_ends n _ _ (took s r p nodes) = none_ends s (record s { locks = taken r p nodes s.locks }) [] (no_event s.events) (λ m alive. alive)
tells_ends n _ _ (freed s r p) = none_ends s (free r p s) [] (no_event s.events) (λ m alive. alive)
tells_ends n _ _ (called s rows last) =
    none_ends s (record s { calls = rows; last_call = last }) [] (no_event s.events) (λ m alive. alive)
tells_ends n _ _ (answered s answers) = none_ends s (record s { answers = answers }) [] (no_event s.events) (λ m alive. alive)
tells_ends n _ _ (fell s) = fell_told n s
tells_ends n _ _ (unmonitored s k) =
    none_ends s (with_node k (without_monitors n (node_at s k)) s) [] (no_event s.events)
    (λ m alive. (all_live_on s k m (without_monitors n (node_at s k)) (unmonitored_on n (node_at s k))).1 ∙ alive)

-- ---- the law

begun_none : (s : SystemView) (n : Node) (v : LiveView) → live_at s n ≡ Some v → EndsAreToldOf s (begun_at n s)
begun_none s n v there = none_ends s (begun_at n s) [] (no_event s.events) lives
  where
    lives : (m : Node) → is_alive_at s m ≡ true → is_alive_at (begun_at n s) m ≡ true
    lives m alive = elim (cases_eq m.0 n.0) [
      | inl here ↦ ap is_alive (same_number (begun_at n s) m n here ∙ begun_there s n v there)
      | inr other ↦ ap is_alive (others_same s n m (begun s.cluster (own_at s n) n (node_at s n)) other) ∙ alive
    ]

pub ends_told : EndsAreTold
ends_told _ _ (moves s next possible) =
    told_both s (record s { messages = left_by next s }) _
    (none_ends s (record s { messages = left_by next s }) [] (no_event s.events) (λ m alive. alive))
    (tells_ends _ _ _ (made_by_turn (numbered 0) next s))
ends_told _ _ (begins s n there down) =
    told_both s (begun_at n s) _ (begun_none s n there.0 there.1) (tells_ends n _ _ (boots s n there.0 there.1))
ends_told _ _ (crashes s n) = tells_ends n _ _ (ends n s)
ends_told _ _ (calls s a n app) = tells_ends n _ _ (calls_on n a n app s)
