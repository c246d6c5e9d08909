-- What dist_acs do where an application has ended: that of its node tells the others, and these change themselves alone.
use Rattle.std.proofs.Common.{◌≡◌, ◌⊎◌, ◌++◌, ◌==◌, ◌||◌, ℕ, Bool, true, false, cond, List, [], ◌∷◌, Option, Some, None, refl, sym, ap, subst, ◌∙◌, inl, inr}
use Rattle.std.specs.Prelude.{All}
use Rattle.std.proofs.lemmas.List.{append-nil}
use Rattle.std.proofs.lemmas.List.Elements.{All-nil}
use Rattle.std.proofs.lemmas.Option.{none-some, same_Some}
use Rattle.rh_model.specs.ClusterView.{ClusterView}
use Rattle.rh_model.specs.declared.node.App.{App}
use Rattle.rh_model.specs.declared.node.Node.{Node}
use Rattle.rh_otp_model.specs.declared.message.Message.{Message}
use Rattle.rh_otp_model.specs.declared.message.Message.TheVariants as message
use Rattle.rh_otp_model.specs.declared.output.Envelope.{Envelope}
use Rattle.rh_otp_model.specs.declared.output.Event.{Event}
use Rattle.rh_otp_model.specs.declared.output.Output.{Output}
use Rattle.rh_otp_model.specs.declared.wait.OwnFile.{OwnFile}
use Rattle.rh_otp_model.specs.Rows.{keydelete, without}
use Rattle.rh_otp_dist.specs.declared.state.Stand.TheVariants as stand
use Rattle.rh_otp_dist.specs.declared.state.Standing.{Standing}
use Rattle.rh_otp_dist.specs.declared.state.Standing.TheVariants as standing
use Rattle.rh_otp_dist.specs.Outside.{with_message}
use Rattle.rh_otp_dist.specs.Sending.{del_t_reqs}
use Rattle.rh_otp_dist.specs.State.{DistView, TurnView, with_state, with_standing, standing_of, is_among}
use Rattle.rh_otp_dist.specs.Told.{stopped, not_run, answer_ends, app_stopped, tell_end, is_local}
use Rattle.rh_otp_dist.specs.Waiting.{takes}
use Rattle.rh_otp_net.specs.Links.{are_linked}
use Rattle.rh_otp_node.specs.Live.{LiveView, is_alive}
use Rattle.rh_otp_system.specs.declared.calls.Call.{Call}
use Rattle.rh_otp_system.specs.Outputs.{all_carried_out}
use Rattle.rh_otp_system.specs.State.{SystemView, live_at, node_at, with_node, is_alive_at}
use Rattle.rh_otp_system.specs.Working.{mailed}
use Rattle.rh_otp_laws.proofs.Nodes.{alive_is_there, same_of_all}
use Rattle.rh_otp_crashes.specs.Crashes.{IsUnoccupied}
use Rattle.rh_otp_crashes.proofs.Carrying.{IsPlain}
use Rattle.rh_otp_crashes.proofs.Turning.{Turned, own_in, node_is, turn, weighing, none_on, idle_comes, waits_on, still_waits, has_none, has_idle, has_waiting}
use Rattle.rh_otp_crashes.proofs.Posting.{posts, sends, mails, all_posted, all_mailed}
use Rattle.rh_otp_stops.proofs.Words.{IsNews, tells}

-- ---- at another node

-- it runs nowhere, as far as a dist_ac knows
abbrev pub forgot : App → TurnView → TurnView
forgot a t = record t {
  state = record (with_standing a standing.Undefined t.state) { remote_started = keydelete a t.state.remote_started };
}

forgets_so : (a : App) (t : TurnView) → app_stopped a t ≡ forgot a t
unfolding app_stopped
forgets_so a t = refl

pub hears_of : (K : Envelope → Type 0) (c : ClusterView) (files : List OwnFile) (m : Node) (life : ℕ) (a : App) (o : Option DistView)
    → ((d : DistView) → o ≡ Some d → IsUnoccupied d) → Turned K c files m life (message.AppStopped a) o
hears_of K c files m life a None free = has_none K c files m life (message.AppStopped a)
hears_of K c files m life a (Some d) free = by (free d refl).stand
  where
    t : TurnView
    t = turn c (own_in files m) m life d

    by : (d.stand ≡ stand.Idle) ⊎ (d.stand ≡ stand.ForGo) → Turned K c files m life (message.AppStopped a) (Some d)
    by (inl is) =
        has_idle K c files m life (message.AppStopped a) d (forgot a t) (free d refl) is refl (λ w. forgets_so a (weighing w t))
        (All-nil IsPlain) (All-nil K) (record {
          stand = inl refl;
          mail = All-nil (λ (x : Message). takes stand.Idle x ≡ false);
          permits = (free d refl).permits;
          parked = (free d refl).parked;
        })
    by (inr is) = has_waiting K c files m life (message.AppStopped a) d (free d refl) is refl

-- ---- at its own node

-- where it runs here the others are told; where it runs elsewhere that is known
abbrev told_by : Standing → Node → App → List Node → List Output
told_by st n a known = cond (is_local st) (posts n (message.AppStopped a) known) []

abbrev known_by : Standing → App → List (App × Node) → List (App × Node)
known_by (standing.Distributed m) a rows = (a, m) ∷ rows
known_by st a rows = rows

abbrev ended_by : App → Standing → TurnView → TurnView
ended_by a st t = record t {
  state = record (with_standing a standing.Undefined t.state) {
    remote_started = known_by st a t.state.remote_started;
    t_reqs = [];
    s_reqs = [];
    started = without a t.state.started;
  };
  out = t.out ++ told_by st t.here.node a t.state.known;
}

abbrev pub ended_over : App → TurnView → TurnView
ended_over a t = ended_by a (standing_of t.state a) t

-- nobody waits at it
abbrev unasked : TurnView → TurnView
unasked t = record t { state = record t.state { t_reqs = []; s_reqs = [] } }

abbrev last_of : App → TurnView → TurnView
last_of a t = with_state (record (with_standing a standing.Undefined t.state) { started = without a t.state.started }) t

ends_by : (a : App) (st : Standing) (t : TurnView) → last_of a (tell_end a st (unasked t)) ≡ ended_by a st t
ends_by a standing.Local t = ap (last_of a) (sends (message.AppStopped a) t.state.known (unasked t))
ends_by a (standing.Distributed m) t =
    λ i. last_of a (tell_end a (standing.Distributed m) (record (unasked t) { out = sym (append-nil t.out) i }))
ends_by a standing.Undefined t = λ i. last_of a (record (unasked t) { out = sym (append-nil t.out) i })
ends_by a standing.RunWaiting t = λ i. last_of a (record (unasked t) { out = sym (append-nil t.out) i })
ends_by a standing.Takeover t = λ i. last_of a (record (unasked t) { out = sym (append-nil t.out) i })
ends_by a (standing.Failover m) t = λ i. last_of a (record (unasked t) { out = sym (append-nil t.out) i })

pub ends_so : (a : App) (t : TurnView) → t.state.t_reqs ≡ [] → t.state.s_reqs ≡ [] → stopped a t ≡ ended_over a t
unfolding stopped not_run answer_ends del_t_reqs
ends_so a t none none_too =
    (λ i. stopped a (record t { state = record t.state { t_reqs = none i; s_reqs = none_too i } }))
    ∙ ends_by a (standing_of t.state a) t

-- what becomes of it: nobody waits, and it knows the same nodes as before
pub record Knows (o : Option DistView) (d : DistView) : Type 0 where
  pub takeovers : d.t_reqs ≡ []
  pub ends : d.s_reqs ≡ []
  pub before : DistView
  pub had : o ≡ Some before
  pub known : d.known ≡ before.known

-- the system with other messages, calls and events
abbrev pub varied : SystemView → List Envelope → List Call → List Event → SystemView
varied s messages calls events = record s { messages = messages; calls = calls; events = events }

-- and with another dist_ac of a node
abbrev pub with_dist : Node → Option DistView → SystemView → List Envelope → List Call → List Event → SystemView
with_dist n o s messages calls events = with_node n (record (node_at s n) { dist = o }) (varied s messages calls events)

-- whatever else has happened, the message comes to this at the node's dist_ac: how it stands then, and what it has sent
abbrev pub ComesTo : Node → Message → Option DistView → List Envelope → SystemView → Type 0
ComesTo n x next more s = (l : List Envelope) (calls : List Call) (events : List Event)
    → mailed n x (varied s l calls events) ≡ with_dist n next s (l ++ more) calls events

-- what the node's dist_ac does where it is told of the end
pub record Ended (lives : Node → ℕ) (c : Call) (told : Bool) (s : SystemView) : Type 0 where
  pub next : Option DistView
  pub more : List Envelope
  pub comes : ComesTo c.node (message.Stopped c.app) next more s
  pub rest : (d : DistView) → next ≡ Some d → IsUnoccupied d
  pub kinds : All (IsNews lives c told) more
  pub knows : (d : DistView) → next ≡ Some d → Knows (node_at s c.node).dist d

-- it has none, or takes nothing yet
ended_plainly : {lives : Node → ℕ} {c : Call} {told : Bool} (s : SystemView) (next : Option DistView)
    → ((l : List Envelope) (calls : List Call) (events : List Event)
    → mailed c.node (message.Stopped c.app) (varied s l calls events)
    ≡ with_dist c.node next s l calls events)
    → ((d : DistView) → next ≡ Some d → IsUnoccupied d) → ((d : DistView) → next ≡ Some d → Knows (node_at s c.node).dist d)
    → Ended lives c told s
ended_plainly {lives} {c} {told} s next comes rest knows = record {
  next = next;
  more = [];
  comes = λ l calls events. comes l calls events ∙ (λ i. with_dist c.node next s (sym (append-nil l) i) calls events);
  rest = rest;
  kinds = All-nil (IsNews lives c told);
  knows = knows;
}

ended_idle : {lives : Node → ℕ} {c : Call} {told : Bool} (s : SystemView) (d : DistView) → ((k : Node) → (node_at s k).life ≡ lives k)
    → live_at s c.node ≡ Some (node_at s c.node) → (node_at s c.node).dist ≡ Some d → IsUnoccupied d → d.stand ≡ stand.Idle
    → d.t_reqs ≡ [] → d.s_reqs ≡ []
    → ((m : Node) → is_among m d.known ≡ true → is_alive_at s m ≡ true → (c.node.0 == m.0 || are_linked c.node m s.links) ≡ true)
    → Ended lives c told s
ended_idle {lives} {c} {told} s d same_lives there has free is none none_too sees = by (is_local (standing_of d c.app)) refl
  where
    n : Node
    n = c.node

    t : TurnView
    t = turn s.cluster (own_in s.files n) n (lives n) d

    over : TurnView
    over = ended_over c.app t

    new : LiveView
    new = record (node_at s n) { dist = Some over.state }

    next : SystemView
    next = with_node n new s

    lives_on : (k : Node) → (node_at next k).life ≡ lives k
    lives_on k = same_of_all (λ (v : LiveView). v.life) s n k new refl ∙ same_lives k

    awake : (k : Node) → is_alive_at next k ≡ is_alive_at s k
    awake k = same_of_all is_alive s n k new refl

    turns : (l : List Envelope) (calls : List Call) (events : List Event)
        → mailed n (message.Stopped c.app) (varied s l calls events)
        ≡ all_carried_out n over.out (with_dist n (Some over.state) s l calls events)
    turns l calls events =
        idle_comes s.cluster s.files n (lives n) (message.Stopped c.app) d over free is refl
        (λ w. ends_so c.app (weighing w t) none none_too) (varied s l calls events) (node_at s n) there has (same_lives n) refl refl

    ends : (out : List Output) (more : List Envelope) → over.out ≡ out
        → ((l : List Envelope) (calls : List Call) (events : List Event)
        → all_carried_out n out (with_dist n (Some over.state) s l calls events) ≡ with_dist n (Some over.state) s (l ++ more) calls events)
        → All (IsNews lives c told) more → Ended lives c told s
    ends out more so posted kinds = record {
      next = Some over.state;
      more = more;
      comes = λ l calls events.
          turns l calls events ∙ ap (λ (o : List Output). all_carried_out n o (with_dist n (Some over.state) s l calls events)) so
          ∙ posted l calls events;
      rest = λ e is_next. subst IsUnoccupied (same_Some over.state e is_next) (record {
        stand = inl refl;
        mail = All-nil (λ (x : Message). takes stand.Idle x ≡ false);
        permits = free.permits;
        parked = free.parked;
      });
      kinds = kinds;
      knows = λ e is_next. subst (Knows (node_at s n).dist) (same_Some over.state e is_next)
          (record { takeovers = refl; ends = refl; before = d; had = has; known = refl });
    }

    said : (b : Bool) → is_local (standing_of d c.app) ≡ b → over.out ≡ cond b (posts n (message.AppStopped c.app) d.known) []
    said b so = ap (λ (x : Bool). cond x (posts n (message.AppStopped c.app) d.known) []) so

    by : (b : Bool) → is_local (standing_of d c.app) ≡ b → Ended lives c told s
    by true so =
        ends (posts n (message.AppStopped c.app) d.known) (mails lives next n (message.AppStopped c.app) d.known) (said true so)
        (λ l calls events.
        all_posted n (message.AppStopped c.app) d.known (with_dist n (Some over.state) s l calls events) lives_on
        (λ m among up. sees m among (sym (awake m) ∙ up)))
        (all_mailed lives (IsNews lives c told) next n (message.AppStopped c.app) d.known tells)
    by false so =
        ends [] [] (said false so) (λ l calls events. λ i. with_dist n (Some over.state) s (sym (append-nil l) i) calls events)
        (All-nil (IsNews lives c told))

pub ended : {lives : Node → ℕ} {c : Call} {told : Bool} (s : SystemView) → ((k : Node) → (node_at s k).life ≡ lives k)
    → is_alive_at s c.node ≡ true
    → ((d : DistView) → (node_at s c.node).dist ≡ Some d → IsUnoccupied d)
    → ((d : DistView) → (node_at s c.node).dist ≡ Some d → Knows (node_at s c.node).dist d)
    → ((d : DistView) → (node_at s c.node).dist ≡ Some d → (m : Node) → is_among m d.known ≡ true → is_alive_at s m ≡ true
    → (c.node.0 == m.0 || are_linked c.node m s.links) ≡ true)
    → Ended lives c told s
ended {lives} {c} {told} s same_lives alive free knows sees = by (node_at s c.node).dist refl
  where
    there : live_at s c.node ≡ Some (node_at s c.node)
    there =
        let at : (v : LiveView) × (live_at s c.node ≡ Some v) = alive_is_there s c.node alive in
        at.1 ∙ ap Some (sym (node_is s c.node at.0 at.1))

    at : (d : DistView) → (node_at s c.node).dist ≡ Some d → (d.stand ≡ stand.Idle) ⊎ (d.stand ≡ stand.ForGo) → Ended lives c told s
    at d has (inl is) =
        ended_idle s d same_lives there has (free d has) is (knows d has).takeovers (knows d has).ends (sees d has)
    at d has (inr is) =
        ended_plainly s (Some (with_message (message.Stopped c.app) d))
        (λ l calls events.
        waits_on c.node (message.Stopped c.app) (varied s l calls events) (node_at s c.node) d there has (free d has) is refl)
        (λ e is_next. subst IsUnoccupied (same_Some (with_message (message.Stopped c.app) d) e is_next)
        (still_waits (message.Stopped c.app) d (free d has) is refl))
        (λ e is_next. subst (Knows (node_at s c.node).dist) (same_Some (with_message (message.Stopped c.app) d) e is_next)
        (record { takeovers = (knows d has).takeovers; ends = (knows d has).ends; before = d; had = has; known = refl }))

    by : (o : Option DistView) → (node_at s c.node).dist ≡ o → Ended lives c told s
    by None has =
        ended_plainly s None
        (λ l calls events. none_on c.node (message.Stopped c.app) (varied s l calls events) (node_at s c.node) there has)
        (λ d is. absurd (none-some d is)) (λ d is. absurd (none-some d is))
    by (Some d) has = at d has (free d has).stand
