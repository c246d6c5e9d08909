-- A call that takes an application over asks its dist_ac for the nodes of the application, takes the lock of those that are alive, and asks
-- again.
use Rattle.std.proofs.Common.{◌≡◌, ◌≢◌, ◌⊎◌, ◌&&◌, ◌||◌, ◌==◌, ℕ, Bool, true, false, not, cond, List, [], ◌∷◌, Option, Some, None, refl, sym, ap, subst, ◌∙◌, inl, inr}
use Rattle.std.proofs.lemmas.Bool.{cases_Bool, cases_eq, eq-eqb}
use Rattle.std.proofs.lemmas.List.Elements.{All-nil}
use Rattle.std.proofs.lemmas.Option.{none-some, same_Some}
use Rattle.rh_model.specs.declared.node.Node.{Node}
use Rattle.rh_model.specs.declared.settings.Restart.{Restart}
use Rattle.rh_otp_model.specs.declared.message.Message.{Message}
use Rattle.rh_otp_model.specs.declared.message.Message.TheVariants as message
use Rattle.rh_otp_model.specs.declared.output.Envelope.{Envelope}
use Rattle.rh_otp_model.specs.declared.output.Requester.TheVariants.{Alone}
use Rattle.rh_otp_model.specs.declared.process.Process.{Process}
use Rattle.rh_otp_model.specs.declared.process.Role.TheVariants as role
use Rattle.rh_otp_dist.specs.declared.state.Stand.TheVariants as stand
use Rattle.rh_otp_dist.specs.declared.state.Standing.TheVariants as standing
use Rattle.rh_otp_dist.specs.Calls.{get_nodes, known_nodes}
use Rattle.rh_otp_dist.specs.Outside.{with_message}
use Rattle.rh_otp_dist.specs.State.{DistView, TurnView, standing_of, is_among}
use Rattle.rh_otp_dist.specs.Waiting.{is_go}
use Rattle.rh_otp_net.specs.Links.{are_linked}
use Rattle.rh_otp_net.specs.Locks.{is_free, taken}
use Rattle.rh_otp_node.specs.Live.{LiveView, is_alive, is_ending}
use Rattle.rh_otp_system.specs.declared.calls.Ask.{Ask}
use Rattle.rh_otp_system.specs.declared.calls.Ask.TheVariants as ask
use Rattle.rh_otp_system.specs.declared.calls.Call.{Call}
use Rattle.rh_otp_system.specs.declared.calls.Stage.TheVariants as stage
use Rattle.rh_otp_system.specs.Calling.{call_received, call_received_at, go_on_call, lock_call, with_lock}
use Rattle.rh_otp_system.specs.Calls.{process_of, second_by}
use Rattle.rh_otp_system.specs.Delivering.{arrived}
use Rattle.rh_otp_system.specs.Moves.{is_to_end}
use Rattle.rh_otp_system.specs.State.{SystemView, node_at, with_node, is_alive_at}
use Rattle.rh_otp_system.specs.Working.{alive_of, mailed}
use Rattle.rh_otp_laws.proofs.Nodes.{node_written, same_of_all}
use Rattle.rh_otp_orders.specs.Confluence.{IsOrderly}
use Rattle.rh_otp_crashes.specs.Crashes.{IsUnoccupied}
use Rattle.rh_otp_crashes.proofs.Crossing.{same_node}
use Rattle.rh_otp_crashes.proofs.Peace.{AtPeace, AtEase, at_ease, without, arrives_alive, arrives_dead}
use Rattle.rh_otp_crashes.proofs.Turning.{idle, own_in, turn, weighing, turned_by, none_on, idle_comes, waits_on, still_waits, is_idle}
use Rattle.rh_otp_stops.proofs.Answering.{at_stage, found_alone}
use Rattle.rh_otp_stops.proofs.Still.{uncalled}
use Rattle.rh_otp_stops.proofs.Stopping.{there_is}
use Rattle.rh_otp_takeovers.proofs.Holding.{Holds, left_of, first_orderly, quiet_orderly, stuck_orderly, holds_on}

-- ---- a message for the node's dist_ac

-- the dist_ac of the node, in this life
abbrev pub dist_of : Node → ℕ → Process
dist_of n life = record { role = role.DistAc; node = n; life = life }

-- it is so behind its turn, and these messages are on their way
pub dist_behind : {lives : Node → ℕ} {c : Call} {l : List Envelope} (o : Option DistView) (more : List Envelope) (s t : SystemView)
    → Holds lives c true l s → is_alive_at s c.node ≡ true → ((d : DistView) → o ≡ Some d → IsUnoccupied d)
    → t ≡ record (with_node c.node (record (node_at s c.node) { dist = o }) s) { messages = more } → Holds lives c true more t
dist_behind {c = c} o more s t f alive rest is =
    holds_on more s.timers s.events (record (node_at s c.node) { dist = o }) s t f
    (record { there = there_is s c.node alive; life = refl; phase = refl; rest = rest }) is

-- Where it takes it, what comes of it is orderly; else it stays in its mailbox, or is lost, and nothing comes of it.
pub to_dist : {lives : Node → ℕ} {c : Call} (from : Process) (life : ℕ) (x : Message) (s : SystemView)
    → Holds lives c true (record { from = from; to = dist_of c.node life; message = x } ∷ []) s → lives c.node ≡ life → is_go x ≡ false
    → (is_alive_at s c.node ≡ true → (d : DistView) → (node_at s c.node).dist ≡ Some d → IsUnoccupied d → d.stand ≡ stand.Idle
    → IsOrderly (mailed c.node x (without s [])))
    → IsOrderly s
to_dist {lives} {c} from life x s f same no_go order = first_orderly e s f.waits.messages (by (cases_Bool (is_alive_at s n)))
  where
    n : Node
    n = c.node

    e : Envelope
    e = record { from = from; to = dist_of n life; message = x }

    q : SystemView
    q = without s []

    g : Holds lives c true [] q
    g = left_of s f

    quietly : (o : Option DistView) → is_alive_at s n ≡ true → ((d : DistView) → o ≡ Some d → IsUnoccupied d)
        → mailed n x q ≡ with_node n (record (node_at s n) { dist = o }) q → IsOrderly (mailed n x q)
    quietly o alive rest is = quiet_orderly (mailed n x q) (dist_behind o [] q (mailed n x q) g alive rest is)

    at : is_alive_at s n ≡ true → (d : DistView) → (node_at s n).dist ≡ Some d → IsUnoccupied d
        → (d.stand ≡ stand.Idle) ⊎ (d.stand ≡ stand.ForGo) → IsOrderly (mailed n x q)
    at alive d has free (inl is) = order alive d has free is
    at alive d has free (inr is) =
        let waiting : DistView = with_message x d in
        quietly (Some waiting) alive (λ k same. subst IsUnoccupied (same_Some waiting k same) (still_waits x d free is no_go))
        (waits_on n x q (node_at s n) d (there_is s n alive) has free is no_go)

    has_it : (o : Option DistView) → is_alive_at s n ≡ true → (node_at s n).dist ≡ o → IsOrderly (mailed n x q)
    has_it None alive has =
        quietly None alive (λ d is. absurd (none-some d is)) (none_on n x q (node_at s n) (there_is s n alive) has)
    has_it (Some d) alive has =
        let free : IsUnoccupied d = f.waits.dists n d alive has in
        at alive d has free free.stand

    by : (is_alive_at s n ≡ true) ⊎ (is_alive_at s n ≡ false) → IsOrderly (arrived e.to x q)
    by (inl alive) =
        subst IsOrderly (sym (arrives_alive e.to x q alive (f.waits.same_lives n ∙ same))) (has_it (node_at s n).dist alive refl)
    by (inr dead) = subst IsOrderly (sym (arrives_dead e.to x q dead)) (quiet_orderly q g)

-- ---- the nodes of the application

-- what it asks first
abbrev pub its_question : Call → Envelope
its_question c = record { from = process_of c; to = dist_of c.node c.life; message = message.GetNodes c.app (process_of c) }

-- what it is told
abbrev pub its_nodes : (Node → ℕ) → Call → List Node → Envelope
its_nodes lives c nodes = record { from = dist_of c.node (lives c.node); to = process_of c; message = message.Nodes nodes }

-- ---- the lock

-- what it asks then
abbrev pub its_takeover : Call → Restart → Envelope
its_takeover c restart =
    record { from = process_of c; to = dist_of c.node c.life; message = message.TakeOver c.app restart (process_of c) }

-- with the lock of these nodes, those that are alive
abbrev pub asked_second : Call → Restart → List Node → SystemView → SystemView
asked_second c restart nodes s = record s {
  calls = at_stage c stage.DistAc ∷ [];
  locks = taken (Alone (process_of c)) (process_of c) (alive_of s nodes) s.locks;
  messages = its_takeover c restart ∷ [];
}

-- as it waits for that
abbrev pub waiting_for : Call → List Node → SystemView → SystemView
waiting_for c nodes s = record s { calls = at_stage c (stage.Lock nodes) ∷ []; messages = [] }

-- is that lock free for it?
abbrev pub is_free_for : Call → List Node → SystemView → Bool
is_free_for c nodes s = is_free (Alone (process_of c)) (alive_of s nodes) s.locks

-- it takes the lock if that is free, and else waits for it
pub takes_lock : (c : Call) (restart : Restart) (nodes : List Node) (s : SystemView) → c.ask ≡ ask.Takeover restart
    → s.calls ≡ at_stage c stage.Nodes ∷ [] → s.messages ≡ [] → is_alive_at s c.node ≡ true → (node_at s c.node).life ≡ c.life
    → arrived (process_of c) (message.Nodes nodes) s
    ≡ cond (is_free_for c nodes s) (asked_second c restart nodes s) (waiting_for c nodes s)
unfolding call_received go_on_call lock_call
takes_lock c restart nodes s asks calls none alive life =
    arrives_alive (process_of c) (message.Nodes nodes) s alive life
    ∙ (λ i. call_received c.number (message.Nodes nodes) (record s { calls = calls i; messages = none i }))
    ∙ ap (λ (place : Option ℕ). call_received_at place (message.Nodes nodes) one) (found_alone (at_stage c stage.Nodes) one refl)
    ∙ ap (λ (b : Bool). cond (cond b (is_free_for c nodes s) false) (lock_call 0 waiting nodes told) told) lives_so
    ∙ by (is_free_for c nodes s)
    ∙ ap (λ (k : Ask). cond (is_free_for c nodes s) (asks_so k) told) asks
  where
    one : SystemView
    one = record s { calls = at_stage c stage.Nodes ∷ []; messages = [] }

    waiting : Call
    waiting = at_stage c (stage.Lock nodes)

    told : SystemView
    told = waiting_for c nodes s

    asks_so : Ask → SystemView
    asks_so k = record (asked_second c restart nodes s) {
      messages = record { from = process_of c; to = dist_of c.node c.life; message = second_by k waiting } ∷ [];
    }

    by : (b : Bool) → cond b (cond b (asks_so c.ask) (with_lock waiting (alive_of told nodes) told)) told ≡ cond b (asks_so c.ask) told
    by true = refl
    by false = refl

    lives_so : (is_alive_at s c.node && (node_at s c.node).life == c.life) ≡ true
    lives_so = ap (λ (b : Bool). b && (node_at s c.node).life == c.life) alive ∙ eq-eqb (node_at s c.node).life c.life life

-- ---- up to there

-- What is so of the node where its dist_ac takes whatever comes, and knows the application to run elsewhere.
abbrev pub CanMove : Call → SystemView → Type 0
CanMove c s = (d : DistView) (m : Node) → (node_at s c.node).dist ≡ Some d → d.stand ≡ stand.Idle
    → standing_of d c.app ≡ standing.Distributed m → (d.t_reqs ≡ []) × ((k : Node) → is_among k d.known ≡ true → is_alive_at s k ≡ true
    → (c.node.0 == k.0 || are_linked c.node k s.links) ≡ true)

-- It has the lock, and asks its dist_ac to take the application over.
pub record Asks (lives : Node → ℕ) (c : Call) (restart : Restart) (s : SystemView) : Type 0 where
  pub still : Holds lives c true (its_takeover c restart ∷ []) s
  pub can : CanMove c s

-- what it asks first is orderly, where that is
pub question_orderly : {lives : Node → ℕ} {c : Call} (restart : Restart) (s : SystemView)
    → Holds lives c true (its_question c ∷ []) s → c.ask ≡ ask.Takeover restart → s.calls ≡ at_stage c stage.Nodes ∷ []
    → (is_alive_at s c.node ≡ true → is_to_end c.node s ≡ false) → CanMove c s → ((t : SystemView) → Asks lives c restart t → IsOrderly t)
    → IsOrderly s
unfolding get_nodes
question_orderly {lives} {c} restart s f asks calls stays can order =
    to_dist (process_of c) c.life (message.GetNodes c.app (process_of c)) s f (sym f.waits.life) refl idly
  where
    n : Node
    n = c.node

    x : Message
    x = message.GetNodes c.app (process_of c)

    q : SystemView
    q = without s []

    idly : is_alive_at s n ≡ true → (d : DistView) → (node_at s n).dist ≡ Some d → IsUnoccupied d → d.stand ≡ stand.Idle
        → IsOrderly (mailed n x q)
    idly alive d has free is = first_orderly e p told_f.waits.messages (subst IsOrderly (sym comes) (by (is_free_for c nodes left) refl))
      where
        t : TurnView
        t = turn s.cluster (own_in s.files n) n (lives n) d

        nodes : List Node
        nodes = known_nodes c.app t

        e : Envelope
        e = its_nodes lives c nodes

        v : LiveView
        v = node_at s n

        new : LiveView
        new = record v { dist = Some (idle d) }

        p : SystemView
        p = mailed n x q

        p_so : p ≡ record (with_node n new q) { messages = e ∷ [] }
        p_so =
            idle_comes s.cluster s.files n (lives n) x d (get_nodes c.app (process_of c) t) free is refl (λ w. gets_so w) q v
            (there_is s n alive) has (f.waits.same_lives n) refl refl
            ∙ turned_so
          where
            gets_so : (w : ℕ) → get_nodes c.app (process_of c) (weighing w t) ≡ weighing w (get_nodes c.app (process_of c) t)
            gets_so w = refl

            turned_so : turned_by n v (get_nodes c.app (process_of c) t) q ≡ record (with_node n new q) { messages = e ∷ [] }
            turned_so = refl

        node_p : node_at p n ≡ new
        node_p = ap (λ (y : SystemView). node_at y n) p_so ∙ node_written q n v new (there_is s n alive)

        rests : (k : DistView) → Some (idle d) ≡ Some k → IsUnoccupied k
        rests k same = subst IsUnoccupied (is_idle d free is ∙ same_Some (idle d) k same) free

        told_f : Holds lives c true (e ∷ []) p
        told_f = dist_behind (Some (idle d)) (e ∷ []) q p (left_of s f) alive rests p_so

        left : SystemView
        left = without p []

        alive_p : (k : Node) → is_alive_at p k ≡ is_alive_at s k
        alive_p k = ap (λ (y : SystemView). is_alive_at y k) p_so ∙ same_of_all is_alive s n k new refl

        comes : arrived (process_of c) (message.Nodes nodes) left
            ≡ cond (is_free_for c nodes left) (asked_second c restart nodes left) (waiting_for c nodes left)
        comes =
            takes_lock c restart nodes left asks (ap (λ (y : SystemView). y.calls) p_so ∙ calls) refl (alive_p n ∙ alive)
            (told_f.waits.same_lives n ∙ sym f.waits.life)

        -- where it is free

        moves : (k : DistView) (m : Node) → idle d ≡ k → standing_of k c.app ≡ standing.Distributed m
            → (k.t_reqs ≡ []) × ((j : Node) → is_among j k.known ≡ true → is_alive_at p j ≡ true
            → (n.0 == j.0 || are_linked n j p.links) ≡ true)
        moves k m same stands =
            let so = can d m has is (ap (λ (y : DistView). standing_of y c.app) same ∙ stands) in (
              sym (ap (λ (y : DistView). y.t_reqs) same) ∙ so.0,
              λ j among up.
                  ap (λ (y : SystemView). n.0 == j.0 || are_linked n j y.links) p_so
                  ∙ so.1 j (ap (λ (y : DistView). is_among j y.known) same ∙ among) (sym (alive_p j) ∙ up),
            )

        asks_second : Asks lives c restart (asked_second c restart nodes left)
        asks_second = record {
          still = record {
            waits = record {
              messages = refl;
              slow = told_f.waits.slow;
              dists = told_f.waits.dists;
              ends = told_f.waits.ends;
              later = told_f.waits.later;
              listed = told_f.waits.listed;
              same_lives = told_f.waits.same_lives;
              stage = stage.DistAc;
              calls = refl;
              waits = λ call y. refl;
              life = f.waits.life;
              locks = told_f.waits.locks;
            };
            soon = told_f.soon;
          };
          can = λ k m there idles stands.
              moves k m (same_Some (idle d) k (sym (ap (λ (y : LiveView). y.dist) node_p) ∙ there)) stands;
        }

        -- where somebody has it

        ends : (m : Node) → is_alive_at p m ≡ true → (m.0 ≡ n.0) ⊎ (m.0 ≢ n.0) → is_to_end m p ≡ false
        ends m up (inl same) =
            ap (λ (k : Node). is_to_end k p) (same_node m n same)
            ∙ (λ i. is_ending (node_p i) && ((p_so i).ends_soon || not (node_p i).is_stopped)) ∙ stays alive
        ends m up (inr other) = told_f.waits.ends m up (λ may. other)

        peace : AtPeace AtEase (λ (y : Envelope). ⊥) lives (uncalled (waiting_for c nodes left))
        peace = record {
          messages = All-nil (λ (y : Envelope). ⊥);
          slow = told_f.waits.slow;
          calls = refl;
          calm = at_ease;
          dists = told_f.waits.dists;
          ends = λ m up. ends m up (cases_eq m.0 n.0);
          listed = told_f.waits.listed;
          same_lives = told_f.waits.same_lives;
        }

        by : (b : Bool) → is_free_for c nodes left ≡ b
            → IsOrderly (cond b (asked_second c restart nodes left) (waiting_for c nodes left))
        by true free_now = order (asked_second c restart nodes left) asks_second
        by false held =
            stuck_orderly (at_stage c (stage.Lock nodes)) (waiting_for c nodes left) peace refl refl
            (ap (λ (b : Bool). cond (is_alive_at p n && (node_at p n).life == c.life) b false) held
            ∙ none_either (is_alive_at p n && (node_at p n).life == c.life))
          where
            none_either : (b : Bool) → cond b false false ≡ false
            none_either true = refl
            none_either false = refl
