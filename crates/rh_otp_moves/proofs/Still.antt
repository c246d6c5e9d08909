-- Live nodes where a call waits that can't go on by itself, whether it has a lock or not, and what becomes of that where a node does
-- something for itself.
use Rattle.std.proofs.Common.{◌≡◌, ◌≢◌, ◌⊎◌, ◌++◌, ◌&&◌, ◌||◌, ℕ, Bool, true, false, not, cond, List, [], ◌∷◌, Some, refl, sym, ap, subst, ◌∙◌, inl, inr}
use Rattle.std.specs.Prelude.{All}
use Rattle.std.proofs.lemmas.Bool.{cases_Bool, cases_eq, false≢true}
use Rattle.std.proofs.lemmas.List.Elements.{All-nil, All-cons}
use Rattle.rh_model.specs.declared.node.Node.{Node}
use Rattle.rh_otp_model.specs.declared.output.Envelope.{Envelope}
use Rattle.rh_otp_model.specs.declared.output.Event.{Event}
use Rattle.rh_otp_dist.specs.State.{DistView}
use Rattle.rh_otp_net.specs.declared.timers.Timer.{Timer}
use Rattle.rh_otp_node.specs.declared.node.Phase.{Phase}
use Rattle.rh_otp_node.specs.Live.{LiveView, is_alive, is_down, is_ending}
use Rattle.rh_otp_system.specs.declared.calls.Call.{Call}
use Rattle.rh_otp_system.specs.declared.calls.Stage.{Stage}
use Rattle.rh_otp_system.specs.Moves.{Delivers, Reaches, IsAmong, here, behind_one, is_to_end}
use Rattle.rh_otp_system.specs.State.{SystemView, live_at, node_at, with_node, is_alive_at}
use Rattle.rh_otp_laws.proofs.Nodes.{node_written, others_same, same_number, same_of_all}
use Rattle.rh_otp_orders.specs.Confluence.{IsOrderly}
use Rattle.rh_otp_orders.specs.Orders.{LeavesAlone}
use Rattle.rh_otp_orders.proofs.Taking.{Taken}
use Rattle.rh_otp_crashes.specs.Crashes.{IsUnoccupied}
use Rattle.rh_otp_crashes.proofs.Deeds.{AreLater}
use Rattle.rh_otp_crashes.proofs.Peace.{AtPeace, AtEase, at_ease, without}
use Rattle.rh_otp_crashes.proofs.Turning.{own_in}
use Rattle.rh_otp_stops.proofs.Answering.{at_stage, CannotGoOn, NoneOfCalls, cannot_call}
use Rattle.rh_otp_stops.proofs.Still.{Come, uncalled, only_come}
use Rattle.rh_otp_starts.proofs.Alone.{Waits}
use Rattle.rh_otp_starts.proofs.Turns.{quiet_orderly}

-- The life that each node is in, the call, whether it permits, whether the application may start at the call's node, and the nodes of the
-- application's list.
pub record Course : Type 0 where
  pub lives : Node → ℕ
  pub call : Call
  pub allow : Bool
  pub starts : Bool
  pub listed : List Node

-- There is the one call, which can't go on by itself, and all else is at rest. Where the application may start no call has a lock, and the
-- call's node may have to go on to its end.
pub record Still (k : Course) (s : SystemView) : Type 0 where
  pub slow : s.slow ≡ []
  pub dists : (n : Node) (d : DistView) → is_alive_at s n ≡ true → (node_at s n).dist ≡ Some d → IsUnoccupied d
  pub ends : (n : Node) → is_alive_at s n ≡ true → (k.starts ≡ true → n.0 ≢ k.call.node.0) → is_to_end n s ≡ false
  pub later : s.ends_soon ≡ true → (n : Node) → AreLater (own_in s.files n)
  pub among : (n : Node) → IsAmong n s.alive → is_alive_at s n ≡ true
  pub same_lives : (n : Node) → (node_at s n).life ≡ k.lives n
  pub stage : Stage
  pub calls : s.calls ≡ at_stage k.call stage ∷ []
  pub waits : CannotGoOn stage
  pub life : k.call.life ≡ k.lives k.call.node
  pub locks : k.starts ≡ true → NoneOfCalls s.locks

pub still_left : (k : Course) (s : SystemView) (left : List Envelope) → Still k s → Still k (without s left)
still_left k s left f = record {
  slow = f.slow;
  dists = f.dists;
  ends = f.ends;
  later = f.later;
  among = f.among;
  same_lives = f.same_lives;
  stage = f.stage;
  calls = f.calls;
  waits = f.waits;
  life = f.life;
  locks = f.locks;
}

-- ---- where nothing is on its way

still_waits : (k : Course) (s : SystemView) → k.starts ≡ true → Still k s → s.messages ≡ [] → Waits k.lives k.call true [] s
still_waits k s may_start f none = record {
  messages = none;
  slow = f.slow;
  dists = f.dists;
  ends = λ n alive other. f.ends n alive (λ is. other refl);
  later = f.later;
  listed = f.among;
  same_lives = f.same_lives;
  stage = f.stage;
  calls = f.calls;
  waits = f.waits;
  life = f.life;
  locks = f.locks may_start;
}

-- where it doesn't start nothing else moves
peaceful : (k : Course) (s : SystemView) → k.starts ≡ false → Still k s
    → AtPeace AtEase (λ (e : Envelope). Unit {0}) k.lives (uncalled s)
peaceful k s never_starts f = record {
  messages = all s.messages;
  slow = f.slow;
  calls = refl;
  calm = at_ease;
  dists = f.dists;
  ends = λ n alive. f.ends n alive (λ is. absurd (false≢true (sym never_starts ∙ is)));
  listed = f.among;
  same_lives = f.same_lives;
}
  where
    all : (l : List Envelope) → All (λ (e : Envelope). Unit {0}) l
    all [] = All-nil (λ (e : Envelope). Unit {0})
    all (e ∷ l) = All-cons (λ (e : Envelope). Unit {0}) e l tt (all l)

nothing_comes : (k : Course) (s t : SystemView) → k.starts ≡ false → Still k s → s.messages ≡ [] → Delivers s t → ⊥
nothing_comes k s t never_starts f none one =
    let come : Come s t = only_come s t (peaceful k s never_starts f) (cannot_call k.call f.stage s f.waits f.calls) one in
    subst (λ (l : List Envelope). Taken come.message l come.left) none come.taken

pub none_orderly : (k : Course) (s : SystemView) → Still k s → s.messages ≡ [] → IsOrderly s
none_orderly k s f none = by (cases_Bool k.starts)
  where
    never : (p t : SystemView) → k.starts ≡ false → Reaches s p → Delivers p t → ⊥
    never _ t never_starts (here _) one = nothing_comes k s t never_starts f none one
    never p t never_starts (behind_one _ q _ first rest) one = nothing_comes k s q never_starts f none first

    by : (k.starts ≡ true) ⊎ (k.starts ≡ false) → IsOrderly s
    by (inl may_start) = quiet_orderly s (still_waits k s may_start f none)
    by (inr never_starts) = λ p t u reaches to_t to_u. absurd (never p t never_starts reaches to_t)

-- ---- a node has done something for itself

-- Where the application may start the call's node may have to end; else none has to that hadn't.
pub record Did (k : Course) (m : Node) (s t : SystemView) : Type 0 where
  pub new : LiveView
  pub there : live_at s m ≡ Some (node_at s m)
  pub more : List Envelope
  pub set : List Timer
  pub seen : List Event
  pub is : t ≡ record (with_node m new s) { messages = s.messages ++ more; timers = s.timers ++ set; events = s.events ++ seen }
  pub life : new.life ≡ (node_at s m).life
  pub phase : new.phase ≡ (node_at s m).phase
  pub ending : ((m.0 ≡ k.call.node.0) × (k.starts ≡ true))
      ⊎ ((is_ending new ≡ is_ending (node_at s m)) × (new.is_stopped ≡ (node_at s m).is_stopped))
  pub rest : (d : DistView) → new.dist ≡ Some d → IsUnoccupied d

awake_written : (k : Course) (m j : Node) (s t : SystemView) → (a : Did k m s t) → is_alive_at (with_node m a.new s) j ≡ is_alive_at s j
awake_written k m j s t a = same_of_all is_alive s m j a.new (ap (λ (p : Phase). cond (is_down p) false true) a.phase)

-- whoever was alive is
pub awake : (k : Course) (m j : Node) (s t : SystemView) → Did k m s t → is_alive_at t j ≡ is_alive_at s j
awake k m j s t a = ap (λ (x : SystemView). is_alive_at x j) a.is ∙ awake_written k m j s t a

-- the node is as it was written, and the others as they were
pub is_new : (k : Course) (m : Node) (s t : SystemView) → (a : Did k m s t) → node_at t m ≡ a.new
is_new k m s t a = ap (λ (x : SystemView). node_at x m) a.is ∙ node_written s m (node_at s m) a.new a.there

pub is_same : (k : Course) (m j : Node) (s t : SystemView) → Did k m s t → j.0 ≢ m.0 → node_at t j ≡ node_at s j
is_same k m j s t a other = ap (λ (x : SystemView). node_at x j) a.is ∙ others_same s m j a.new other

pub still_on : (k : Course) (m : Node) (s t : SystemView) → Still k s → Did k m s t → Still k t
still_on k m s t f a = subst (Still k) (sym a.is) (record {
  slow = f.slow;
  dists = λ j d alive has. rests j d (sym (awake_written k m j s t a) ∙ alive) has (cases_eq j.0 m.0);
  ends = λ j alive other. to_end j (sym (awake_written k m j s t a) ∙ alive) other (cases_eq j.0 m.0);
  later = f.later;
  among = λ j is_in. awake_written k m j s t a ∙ f.among j is_in;
  same_lives = λ j. same_of_all (λ (v : LiveView). v.life) s m j a.new a.life ∙ f.same_lives j;
  stage = f.stage;
  calls = f.calls;
  waits = f.waits;
  life = f.life;
  locks = f.locks;
})
  where
    written : SystemView
    written = with_node m a.new s

    at_it : (j : Node) → j.0 ≡ m.0 → node_at written j ≡ a.new
    at_it j same = same_number written j m same ∙ node_written s m (node_at s m) a.new a.there

    rests : (j : Node) (d : DistView) → is_alive_at s j ≡ true → (node_at written j).dist ≡ Some d
        → (j.0 ≡ m.0) ⊎ (j.0 ≢ m.0) → IsUnoccupied d
    rests j d alive has (inl same) = a.rest d (sym (ap (λ (v : LiveView). v.dist) (at_it j same)) ∙ has)
    rests j d alive has (inr apart) =
        f.dists j d alive (sym (ap (λ (v : LiveView). v.dist) (others_same s m j a.new apart)) ∙ has)

    ends_in : LiveView → Bool
    ends_in v = is_ending v && (s.ends_soon || not v.is_stopped)

    by_it : (j : Node) → is_alive_at s j ≡ true → (k.starts ≡ true → j.0 ≢ k.call.node.0) → j.0 ≡ m.0
        → ((m.0 ≡ k.call.node.0) × (k.starts ≡ true))
        ⊎ ((is_ending a.new ≡ is_ending (node_at s m)) × (a.new.is_stopped ≡ (node_at s m).is_stopped))
        → ends_in a.new ≡ false
    by_it j alive other same (inl may) = absurd (other may.1 (same ∙ may.0))
    by_it j alive other same (inr kept) =
        (λ i. kept.0 i && (s.ends_soon || not (kept.1 i)))
        ∙ sym (ap ends_in (same_number s j m same))
        ∙ f.ends j alive other

    to_end : (j : Node) → is_alive_at s j ≡ true → (k.starts ≡ true → j.0 ≢ k.call.node.0) → (j.0 ≡ m.0) ⊎ (j.0 ≢ m.0)
        → is_to_end j written ≡ false
    to_end j alive other (inl same) = ap ends_in (at_it j same) ∙ by_it j alive other same a.ending
    to_end j alive other (inr apart) = ap ends_in (others_same s m j a.new apart) ∙ f.ends j alive other

pub did_leaves : (k : Course) (n m : Node) (s t : SystemView) (left : List Envelope) → Did k m (without s left) t → LeavesAlone n s t
did_leaves k n m s t left a =
    subst (LeavesAlone n s) (sym a.is) (record {
      links = refl;
      locks = refl;
      alive = λ j. awake_written k m j (without s left) t a;
      answers = λ j app. inl refl;
    })

-- what was lost changes nothing
pub lost_leaves : (n : Node) (s t : SystemView) (left : List Envelope) → t ≡ without s left → LeavesAlone n s t
lost_leaves n s t left same =
    subst (LeavesAlone n s) (sym same) (record { links = refl; locks = refl; alive = λ j. refl; answers = λ j app. inl refl })
