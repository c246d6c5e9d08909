-- The node's dist_ac is asked to take an application over: it refuses that and answers, or keeps the caller and tells its controller.
use Rattle.std.proofs.Common.{◌≡◌, ◌⊎◌, ◌++◌, ◌||◌, ◌==◌, ℕ, true, false, List, [], ◌∷◌, Option, Some, refl, sym, ap, subst, ◌∙◌, inl, inr}
use Rattle.std.proofs.lemmas.Bool.{cases_Bool}
use Rattle.std.proofs.lemmas.List.Elements.{All-nil}
use Rattle.std.proofs.lemmas.Option.{same_Some}
use Rattle.rh_model.specs.declared.node.Node.{Node}
use Rattle.rh_model.specs.declared.settings.Restart.{Restart}
use Rattle.rh_otp_model.specs.declared.fault.Fault.TheVariants.{RunsLocally, RunsNowhere}
use Rattle.rh_otp_model.specs.declared.fault.Outcome.{Outcome}
use Rattle.rh_otp_model.specs.declared.fault.Outcome.TheVariants.{Failed}
use Rattle.rh_otp_model.specs.declared.message.Change.TheVariants as change_of
use Rattle.rh_otp_model.specs.declared.message.Message.{Message}
use Rattle.rh_otp_model.specs.declared.message.Message.TheVariants as message
use Rattle.rh_otp_model.specs.declared.output.Envelope.{Envelope}
use Rattle.rh_otp_model.specs.declared.output.Output.TheVariants as output
use Rattle.rh_otp_model.specs.declared.process.Role.TheVariants as role
use Rattle.rh_otp_model.specs.Processes.{process_at}
use Rattle.rh_otp_dist.specs.declared.state.Stand.TheVariants as stand
use Rattle.rh_otp_dist.specs.declared.state.Standing.{Standing}
use Rattle.rh_otp_dist.specs.declared.state.Standing.TheVariants as standing
use Rattle.rh_otp_dist.specs.Calls.{take_over_from, take_over}
use Rattle.rh_otp_dist.specs.Sending.{answer}
use Rattle.rh_otp_dist.specs.State.{DistView, TurnView, standing_of, with_standing, is_among}
use Rattle.rh_otp_dist.specs.Waiting.{takes}
use Rattle.rh_otp_net.specs.Links.{are_linked}
use Rattle.rh_otp_node.specs.Live.{LiveView, is_alive}
use Rattle.rh_otp_system.specs.declared.calls.Call.{Call}
use Rattle.rh_otp_system.specs.declared.calls.Stage.TheVariants as stage
use Rattle.rh_otp_system.specs.Calling.{is_known}
use Rattle.rh_otp_system.specs.Calls.{process_of}
use Rattle.rh_otp_system.specs.Delivering.{arrived}
use Rattle.rh_otp_system.specs.State.{SystemView, node_at, with_node, is_alive_at}
use Rattle.rh_otp_system.specs.Working.{mailed}
use Rattle.rh_otp_laws.proofs.Nodes.{node_written, same_of_all}
use Rattle.rh_otp_orders.specs.Confluence.{IsOrderly}
use Rattle.rh_otp_crashes.specs.Crashes.{IsUnoccupied}
use Rattle.rh_otp_crashes.proofs.Crossing.{for_controller}
use Rattle.rh_otp_crashes.proofs.Peace.{without, arrives_dead}
use Rattle.rh_otp_crashes.proofs.Turning.{idle, own_in, turn, weighing, idle_comes, is_idle}
use Rattle.rh_otp_stops.proofs.Answering.{answered_free}
use Rattle.rh_otp_stops.proofs.Stopping.{there_is}
use Rattle.rh_otp_permits.proofs.Noting.{answer_of, answered_then}
use Rattle.rh_otp_takeovers.proofs.Holding.{Holds, left_of, first_orderly, quiet_orderly}
use Rattle.rh_otp_takeovers.proofs.Asking.{Asks, dist_of, dist_behind, to_dist}

-- ---- the answer

-- the call is over then, and its lock is free
pub holds_answered : {lives : Node → ℕ} {c : Call} {l : List Envelope} (o : Outcome) (s : SystemView) → Holds lives c true l s
    → Holds lives c true l (answered_then c o s)
holds_answered o s f = record {
  waits = record {
    messages = f.waits.messages;
    slow = f.waits.slow;
    dists = f.waits.dists;
    ends = f.waits.ends;
    later = f.waits.later;
    listed = f.waits.listed;
    same_lives = f.waits.same_lives;
    stage = stage.Done o;
    calls = refl;
    waits = λ call x. refl;
    life = f.waits.life;
    locks = f.waits.locks;
  };
  soon = f.soon;
}

-- and nothing more comes of it
answer_orderly : {lives : Node → ℕ} {c : Call} (o : Outcome) (s : SystemView) → Holds lives c true (answer_of lives c o ∷ []) s
    → is_known o ≡ false → IsOrderly s
answer_orderly {lives} {c} o s f known =
    first_orderly (answer_of lives c o) s f.waits.messages (by (cases_Bool (is_alive_at s c.node)))
  where
    q : SystemView
    q = without s []

    g : Holds lives c true [] q
    g = left_of s f

    by : (is_alive_at s c.node ≡ true) ⊎ (is_alive_at s c.node ≡ false) → IsOrderly (arrived (process_of c) (message.Answer o) q)
    by (inl alive) =
        subst IsOrderly
        (sym (answered_free c f.waits.stage o q f.waits.calls known alive (f.waits.same_lives c.node ∙ sym f.waits.life)))
        (quiet_orderly (answered_then c o q) (holds_answered o q g))
    by (inr dead) = subst IsOrderly (sym (arrives_dead (process_of c) (message.Answer o) q dead)) (quiet_orderly q g)

-- ---- dist_ac is asked

-- what it tells its controller
abbrev pub its_change : (Node → ℕ) → Call → Restart → Node → Envelope
its_change lives c restart m =
    for_controller lives c.node (dist_of c.node (lives c.node)) (message.Change c.app (change_of.Takeover m (Some restart)))

-- it notes that the application is taken over, keeps the caller, and tells its controller
abbrev pub taking : Call → Restart → Node → TurnView → TurnView
taking c restart m t = record t {
  state = record (with_standing c.app standing.Takeover t.state) { t_reqs = (c.app, process_of c) ∷ t.state.t_reqs };
  out = t.out ++ output.Send (record {
    from = process_at t.here role.DistAc;
    to = process_at t.here role.Controller;
    message = message.Change c.app (change_of.Takeover m (Some restart));
  }) ∷ [];
}

-- it refuses it, or does so
data Takes (c : Call) (restart : Restart) (t : TurnView) : Type 0 where
  refuses : (o : Outcome) → is_known o ≡ false
      → ((w : ℕ) → take_over c.app restart (process_of c) (weighing w t) ≡ weighing w (answer (process_of c) o t)) → Takes c restart t
  moves : (m : Node) → standing_of t.state c.app ≡ standing.Distributed m
      → ((w : ℕ) → take_over c.app restart (process_of c) (weighing w t) ≡ weighing w (taking c restart m t)) → Takes c restart t

-- by how the application stands
is_taken : (c : Call) (restart : Restart) (t : TurnView) → Takes c restart t
unfolding take_over
is_taken c restart t = by (standing_of t.state c.app) refl
  where
    stood : {st : Standing} → standing_of t.state c.app ≡ st → (w : ℕ)
        → take_over c.app restart (process_of c) (weighing w t) ≡ take_over_from c.app restart (process_of c) st (weighing w t)
    stood is w = ap (λ (st : Standing). take_over_from c.app restart (process_of c) st (weighing w t)) is

    by : (st : Standing) → standing_of t.state c.app ≡ st → Takes c restart t
    by standing.Undefined is = refuses (Failed (RunsNowhere c.app)) refl (stood is)
    by standing.Local is = refuses (Failed (RunsLocally c.app)) refl (stood is)
    by standing.RunWaiting is = refuses (Failed (RunsNowhere c.app)) refl (stood is)
    by standing.Takeover is = refuses (Failed (RunsNowhere c.app)) refl (stood is)
    by (standing.Failover m) is = refuses (Failed (RunsNowhere c.app)) refl (stood is)
    by (standing.Distributed m) is = moves m is (stood is)

-- Where it has kept the caller: the node sees all that its dist_ac knows.
pub record IsTaking (c : Call) (s : SystemView) : Type 0 where
  pub takeovers : (d : DistView) → (node_at s c.node).dist ≡ Some d → d.t_reqs ≡ (c.app, process_of c) ∷ []
  pub sees : (d : DistView) → (node_at s c.node).dist ≡ Some d → (k : Node) → is_among k d.known ≡ true → is_alive_at s k ≡ true
      → (c.node.0 == k.0 || are_linked c.node k s.links) ≡ true

-- the call's request is orderly, where what its controller makes of it is
pub takeover_orderly : {lives : Node → ℕ} {c : Call} (restart : Restart) (s : SystemView) → Asks lives c restart s
    → ((t : SystemView) (m : Node) → Holds lives c true (its_change lives c restart m ∷ []) t → IsTaking c t → IsOrderly t)
    → IsOrderly s
takeover_orderly {lives} {c} restart s f order =
    to_dist (process_of c) c.life x s f.still (sym f.still.waits.life) refl
    (λ alive d has free is. by alive d has free is (is_taken c restart (turn s.cluster (own_in s.files n) n (lives n) d)))
  where
    n : Node
    n = c.node

    x : Message
    x = message.TakeOver c.app restart (process_of c)

    q : SystemView
    q = without s []

    p : SystemView
    p = mailed n x q

    behind : (o : Option DistView) (l : List Envelope) → is_alive_at s n ≡ true → ((d : DistView) → o ≡ Some d → IsUnoccupied d)
        → p ≡ record (with_node n (record (node_at s n) { dist = o }) q) { messages = l } → Holds lives c true l p
    behind o l alive rest is = dist_behind o l q p (left_of s f.still) alive rest is

    by : is_alive_at s n ≡ true → (d : DistView) → (node_at s n).dist ≡ Some d → IsUnoccupied d → d.stand ≡ stand.Idle
        → Takes c restart (turn s.cluster (own_in s.files n) n (lives n) d) → IsOrderly p
    by alive d has free is (refuses o known closed) =
        answer_orderly o p
        (behind (Some (idle d)) (answer_of lives c o ∷ []) alive
        (λ k same. subst IsUnoccupied (is_idle d free is ∙ same_Some (idle d) k same) free)
        (idle_comes s.cluster s.files n (lives n) x d
        (answer (process_of c) o (turn s.cluster (own_in s.files n) n (lives n) d)) free is refl closed q (node_at s n)
        (there_is s n alive) has (f.still.waits.same_lives n) refl refl))
        known
    by alive d has free is (moves m stands closed) = order p m
        (behind (Some over.state) (its_change lives c restart m ∷ []) alive
        (λ k same. subst IsUnoccupied (same_Some over.state k same) (record {
          stand = inl refl;
          mail = All-nil (λ (z : Message). takes stand.Idle z ≡ false);
          permits = free.permits;
          parked = free.parked;
        })) p_so)
        (record {
          takeovers = λ k there.
              ap (λ (y : DistView). y.t_reqs) (sym (same_Some over.state k (sym dist_p ∙ there)))
              ∙ ap (λ rows. (c.app, process_of c) ∷ rows) so.0;
          sees = λ k there j among up.
              ap (λ (y : SystemView). n.0 == j.0 || are_linked n j y.links) p_so
              ∙ so.1 j (ap (λ (y : DistView). is_among j y.known) (same_Some over.state k (sym dist_p ∙ there)) ∙ among)
              (sym (ap (λ (y : SystemView). is_alive_at y j) p_so ∙ same_of_all is_alive s n j new refl) ∙ up);
        })
      where
        t : TurnView
        t = turn s.cluster (own_in s.files n) n (lives n) d

        over : TurnView
        over = taking c restart m t

        new : LiveView
        new = record (node_at s n) { dist = Some over.state }

        so : (d.t_reqs ≡ []) × ((k : Node) → is_among k d.known ≡ true → is_alive_at s k ≡ true
            → (n.0 == k.0 || are_linked n k s.links) ≡ true)
        so = f.can d m has is stands

        p_so : p ≡ record (with_node n new q) { messages = its_change lives c restart m ∷ [] }
        p_so = idle_comes s.cluster s.files n (lives n) x d over free is refl closed q (node_at s n) (there_is s n alive) has
            (f.still.waits.same_lives n) refl refl

        dist_p : (node_at p n).dist ≡ Some over.state
        dist_p =
            ap (λ (y : SystemView). (node_at y n).dist) p_so
            ∙ ap (λ (y : LiveView). y.dist) (node_written q n (node_at s n) new (there_is s n alive))
