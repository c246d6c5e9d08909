-- The processes of the node that takes the application over tell one another to start it, and all others that it has, or that it couldn't.
use Rattle.std.proofs.Common.{◌≡◌, ◌++◌, ℕ, false, List, [], ◌∷◌, Option, Some, None, refl, sym, ap, subst, ◌∙◌, inl, inr}
use Rattle.std.specs.Prelude.{All}
use Rattle.std.proofs.lemmas.List.{append-nil}
use Rattle.std.proofs.lemmas.List.Elements.{All-nil, All-append}
use Rattle.std.proofs.lemmas.Option.{same_Some}
use Rattle.rh_model.specs.declared.node.Node.{Node}
use Rattle.rh_model.specs.declared.settings.Dep.{Dep}
use Rattle.rh_otp_model.specs.declared.message.Change.{Change}
use Rattle.rh_otp_model.specs.declared.message.Message.{Message}
use Rattle.rh_otp_model.specs.declared.message.Message.TheVariants as message
use Rattle.rh_otp_model.specs.declared.output.Envelope.{Envelope}
use Rattle.rh_otp_model.specs.declared.process.Process.{Process}
use Rattle.rh_otp_model.specs.declared.process.Role.TheVariants as role
use Rattle.rh_otp_model.specs.Processes.{process_at}
use Rattle.rh_otp_controller.specs.Changes.{received}
use Rattle.rh_otp_controller.specs.State.{TurnView as ControllerTurn}
use Rattle.rh_otp_dist.specs.declared.state.Stand.TheVariants as stand
use Rattle.rh_otp_dist.specs.State.{DistView, TurnView}
use Rattle.rh_otp_dist.specs.Waiting.{takes}
use Rattle.rh_otp_node.specs.Live.{LiveView, is_alive}
use Rattle.rh_otp_node.specs.Turns.{controlled_by}
use Rattle.rh_otp_system.specs.declared.calls.Call.{Call}
use Rattle.rh_otp_system.specs.Delivering.{arrived}
use Rattle.rh_otp_system.specs.State.{SystemView, live_at, node_at, with_node}
use Rattle.rh_otp_laws.proofs.Nodes.{node_written, same_of_all}
use Rattle.rh_otp_crashes.specs.Crashes.{IsUnoccupied}
use Rattle.rh_otp_crashes.proofs.Carrying.{letters}
use Rattle.rh_otp_crashes.proofs.Peace.{here_in, without, arrives_alive}
use Rattle.rh_otp_crashes.proofs.Posting.{mails, all_posted, all_mailed}
use Rattle.rh_otp_crashes.proofs.Telling.{run_over, runs_so}
use Rattle.rh_otp_crashes.proofs.Turning.{own_in, turn, weighing, idle_comes}
use Rattle.rh_otp_stops.proofs.Saying.{sights}
use Rattle.rh_otp_stops.proofs.Stop.{turn_at}
use Rattle.rh_otp_stops.proofs.Stopping.{there_is}
use Rattle.rh_otp_starts.proofs.Turns.{Carried, carries_said, Turn}
use Rattle.rh_otp_moves.proofs.Chain.{IsStart, AskedAlone}
use Rattle.rh_otp_moves.proofs.Saying.{Begun, nothing, runs, spawns, told_runs, changes, Reported, reports}
use Rattle.rh_otp_moves.proofs.Passing.{IsPassed, hears, starts}
use Rattle.rh_otp_moves.proofs.Handing.{Handed, Taker, free_at, IsNote, it_reports, it_runs, report, run, Advanced, passed, all_passed, at_end, goes_on, Stepped, stepped, taker_on}

-- ---- its dist_ac is told that it runs, or what it lacks

pub run_comes : {lives : Node → ℕ} {c : Call} {m : Node} {told : List Node} (error : Option Dep) (s : SystemView) (rest : List Envelope)
    → Handed lives c m told s → Taker c m s → All (IsNote lives c m told) rest
    → Advanced lives c m told s
    (arrived (process_at (here_in lives m) role.DistAc) (message.Run c.app error) (without s rest))
run_comes {lives} {c} {m} {told} error s rest f g kinds = record {
  moving = passed error (record {
    hold = so.handed.hold;
    kinds = subst (All (IsPassed lives c m told error)) (sym (ap (λ (z : SystemView). z.messages) is))
        (All-append (IsPassed lives c m told error) rest sent (all_passed error rest kinds)
        (all_mailed lives (IsPassed lives c m told error) written m y d.known
        (λ j other. hears j (process_at (here_in lives m) role.DistAc) y (starts other))));
    listed = so.handed.listed;
    alive = so.handed.alive;
  });
  leaves = so.leaves;
}
  where
    to : Process
    to = process_at (here_in lives m) role.DistAc

    x : Message
    x = message.Run c.app error

    q : SystemView
    q = without s rest

    next : SystemView
    next = arrived to x q

    d : DistView
    d = g.dist

    free : IsUnoccupied d
    free = free_at s d f g.up g.has

    t : TurnView
    t = turn s.cluster (own_in s.files m) m (lives m) d

    over : TurnView
    over = run_over c.app error t

    new : LiveView
    new = record (node_at s m) { dist = Some over.state }

    written : SystemView
    written = with_node m new q

    y : Message
    y = message.AppStarted m c.app error

    sent : List Envelope
    sent = mails lives written m y d.known

    is : next ≡ record written { messages = rest ++ sent }
    is =
        arrives_alive to x q g.up (f.hold.same_lives m)
        ∙ idle_comes s.cluster s.files m (lives m) x d over free g.idle refl (λ w. runs_so c.app error (weighing w t) g.takeovers)
        q (node_at s m) (there_is s m g.up) g.has (f.hold.same_lives m) refl refl
        ∙ all_posted m y d.known written (λ j. same_of_all (λ (v : LiveView). v.life) s m j new refl ∙ f.hold.same_lives j)
        (λ j among up. g.sees j among (sym (same_of_all is_alive s m j new refl) ∙ up))

    so : Stepped lives c m told s next
    so = stepped m s next rest (rest ++ sent) s.timers s.events new f
        (record {
          there = there_is s m g.up;
          life = refl;
          phase = refl;
          ending = λ other. refl;
          stopped = λ other. refl;
          rest = λ z has. inl (subst IsUnoccupied (same_Some over.state z has) (record {
            stand = inl refl;
            mail = All-nil (λ (a : Message). takes stand.Idle a ≡ false);
            permits = free.permits;
            parked = free.parked;
          }));
          tame = λ other z has. absurd (other.0 refl);
        })
        is

-- ---- its controller starts it

-- behind a turn of it
record Controlled (lives : Node → ℕ) (c : Call) (m : Node) (told : List Node) (u : ControllerTurn) (s t : SystemView) (rest : List Envelope)
    : Type 0 where
  step : Stepped lives c m told s t
  messages : t.messages ≡ rest ++ letters u.out
  controller : (node_at t m).controller ≡ u.state
  taker : Taker c m t

controls_it : {lives : Node → ℕ} {c : Call} {m : Node} {told : List Node} {l : List Envelope} (x : Message) (s : SystemView)
    (rest : List Envelope) → Handed lives c m told s → Taker c m s → Turn m (received x (turn_at s m)) l
    → Controlled lives c m told (received x (turn_at s m)) s
    (arrived (process_at (here_in lives m) role.Controller) x (without s rest)) rest
unfolding controlled_by
controls_it {lives} {c} {m} {told} x s rest f g turned = record {
  step = so;
  messages = ap (λ (z : SystemView). z.messages) is;
  controller = ap (λ (v : LiveView). v.controller) new_is ∙ done.controller;
  taker = taker_on s t so (ap (λ (v : LiveView). v.dist) new_is ∙ done.dist) g;
}
  where
    q : SystemView
    q = without s rest

    t : SystemView
    t = arrived (process_at (here_in lives m) role.Controller) x q

    u : ControllerTurn
    u = received x (turn_at s m)

    old : LiveView
    old = node_at s m

    there : live_at q m ≡ Some old
    there = there_is s m g.up

    done : Carried m q (record old { controller = u.state }) u.out
    done = carries_said m u.out q old (record old { controller = u.state }) there turned.said

    is : t ≡ record (with_node m done.new q) { messages = rest ++ letters u.out; timers = s.timers; events = s.events ++ sights u.out }
    is = arrives_alive (process_at (here_in lives m) role.Controller) x q g.up (f.hold.same_lives m) ∙ done.is

    so : Stepped lives c m told s t
    so = stepped m s t rest (rest ++ letters u.out) s.timers (s.events ++ sights u.out) done.new f
        (record {
          there = there;
          life = done.life;
          phase = done.phase;
          ending = λ other. absurd (other refl);
          stopped = λ other. absurd (other refl);
          rest = λ d has. f.hold.dists m d g.up (sym done.dist ∙ has);
          tame = λ other d has. absurd (other.0 refl);
        })
        is

    new_is : node_at t m ≡ done.new
    new_is = ap (λ (z : SystemView). node_at z m) is ∙ node_written q m old done.new there

-- it has said nothing
silent : {lives : Node → ℕ} {c : Call} {m : Node} {told : List Node} {u : ControllerTurn} (s t : SystemView) (rest : List Envelope)
    → Controlled lives c m told u s t rest → Turn m u [] → All (IsNote lives c m told) rest → Advanced lives c m told s t
silent s t rest o turned kinds = record {
  moving = at_end t rest o.step.handed (o.messages ∙ ap (λ (l : List Envelope). rest ++ l) turned.sent ∙ append-nil rest) kinds;
  leaves = o.step.leaves;
}

-- it has told its dist_ac how it went
told_how : {lives : Node → ℕ} {c : Call} {m : Node} {told : List Node} {u : ControllerTurn} (error : Option Dep) (s t : SystemView)
    (rest : List Envelope) → Handed lives c m told s → Controlled lives c m told u s t rest
    → Turn m u (told_runs c.app (turn_at s m) error ∷ []) → All (IsNote lives c m told) rest → Advanced lives c m told s t
told_how {lives} {c} {m} error s t rest f o turned kinds = record {
  moving = goes_on t rest (it_runs m c.app error (lives m)) o.step.handed
      (o.messages ∙ ap (λ (l : List Envelope). rest ++ l) turned.sent
      ∙ ap (λ (life : ℕ). rest ++ it_runs m c.app error life ∷ []) (f.hold.same_lives m))
      (run error o.taker) kinds;
  leaves = o.step.leaves;
}

pub report_comes : {lives : Node → ℕ} {c : Call} {m : Node} {told : List Node} (error : Option Dep) (s : SystemView) (rest : List Envelope)
    → Handed lives c m told s → AskedAlone c.app (node_at s m).controller → Taker c m s → All (IsNote lives c m told) rest
    → Advanced lives c m told s
    (arrived (process_at (here_in lives m) role.Controller) (message.ApplicationStarted c.app error) (without s rest))
report_comes {lives} {c} {m} {told} error s rest f asked g kinds = by (reports c.app error (turn_at s m) asked g.listed)
  where
    x : Message
    x = message.ApplicationStarted c.app error

    u : ControllerTurn
    u = received x (turn_at s m)

    t : SystemView
    t = arrived (process_at (here_in lives m) role.Controller) x (without s rest)

    by : Reported c.app error (turn_at s m) u → Advanced lives c m told s t
    by (inl turned) = silent s t rest (controls_it x s rest f g turned) turned kinds
    by (inr turned) = told_how error s t rest f (controls_it x s rest f g turned) turned kinds

pub change_comes : {lives : Node → ℕ} {c : Call} {m : Node} {told : List Node} (what : Change) (s : SystemView) (rest : List Envelope)
    → IsStart what → Handed lives c m told s → Taker c m s → All (IsNote lives c m told) rest
    → Advanced lives c m told s
    (arrived (process_at (here_in lives m) role.Controller) (message.Change c.app what) (without s rest))
change_comes {lives} {c} {m} {told} what s rest is f g kinds = by (changes c.app what (turn_at s m) is g.listed)
  where
    x : Message
    x = message.Change c.app what

    u : ControllerTurn
    u = received x (turn_at s m)

    t : SystemView
    t = arrived (process_at (here_in lives m) role.Controller) x (without s rest)

    by : Begun c.app (turn_at s m) u → Advanced lives c m told s t
    by (nothing turned) = silent s t rest (controls_it x s rest f g turned) turned kinds
    by (runs turned) = told_how None s t rest f (controls_it x s rest f g turned) turned kinds
    by (spawns error turned asked) =
        let o : Controlled lives c m told u s t rest = controls_it x s rest f g turned in
        record {
          moving = goes_on t rest (it_reports m c.app error (lives m)) o.step.handed
              (o.messages ∙ ap (λ (l : List Envelope). rest ++ l) turned.sent
              ∙ ap (λ (life : ℕ). rest ++ it_reports m c.app error life ∷ []) (f.hold.same_lives m))
              (report error (subst (AskedAlone c.app) (sym o.controller) asked) o.taker) kinds;
          leaves = o.step.leaves;
        }
