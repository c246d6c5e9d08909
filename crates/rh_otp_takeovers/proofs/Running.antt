-- The node's dist_ac is told that the application runs, or what it lacks: it tells the others, and answers the caller.
use Rattle.std.proofs.Common.{◌≡◌, ◌++◌, ℕ, Bool, true, false, not, cond, List, [], ◌∷◌, Option, Some, None, refl, sym, ap, subst, ◌∙◌, inl}
use Rattle.std.specs.Prelude.{All}
use Rattle.std.proofs.lemmas.List.Elements.{All-nil, All-cons, All-append}
use Rattle.std.proofs.lemmas.Option.{same_Some}
use Rattle.rh_model.specs.declared.node.App.{App}
use Rattle.rh_model.specs.declared.node.Node.{Node}
use Rattle.rh_model.specs.declared.settings.Dep.{Dep}
use Rattle.rh_otp_model.specs.declared.message.Message.{Message}
use Rattle.rh_otp_model.specs.declared.message.Message.TheVariants as message
use Rattle.rh_otp_model.specs.declared.output.Envelope.{Envelope}
use Rattle.rh_otp_model.specs.declared.output.Output.{Output}
use Rattle.rh_otp_model.specs.declared.output.Output.TheVariants as output
use Rattle.rh_otp_model.specs.declared.process.Process.{Process}
use Rattle.rh_otp_model.specs.declared.process.Role.TheVariants as role
use Rattle.rh_otp_model.specs.Processes.{process_at}
use Rattle.rh_otp_model.specs.Rows.{without_rows}
use Rattle.rh_otp_dist.specs.declared.state.Stand.TheVariants as stand
use Rattle.rh_otp_dist.specs.Sending.{answer, answer_each, outcome_of, with_takeovers, del_t_reqs}
use Rattle.rh_otp_dist.specs.State.{DistView, TurnView, with_standing}
use Rattle.rh_otp_dist.specs.Told.{set_standing, standing_behind, run}
use Rattle.rh_otp_dist.specs.Waiting.{takes}
use Rattle.rh_otp_node.specs.Live.{LiveView, is_alive}
use Rattle.rh_otp_system.specs.declared.calls.Call.{Call}
use Rattle.rh_otp_system.specs.Calling.{is_known}
use Rattle.rh_otp_system.specs.Calls.{process_of}
use Rattle.rh_otp_system.specs.Outputs.{carried_out, all_carried_out}
use Rattle.rh_otp_system.specs.State.{SystemView, node_at, with_node, is_alive_at}
use Rattle.rh_otp_system.specs.Working.{mailed}
use Rattle.rh_otp_laws.proofs.Nodes.{same_of_all}
use Rattle.rh_otp_orders.specs.Confluence.{IsOrderly}
use Rattle.rh_otp_crashes.specs.Crashes.{IsUnoccupied}
use Rattle.rh_otp_crashes.proofs.Peace.{here_in, without}
use Rattle.rh_otp_crashes.proofs.Posting.{posts, sends, mails, all_posted, all_mailed}
use Rattle.rh_otp_crashes.proofs.Turning.{own_in, turn, weighing, idle_comes}
use Rattle.rh_otp_stops.proofs.Stopping.{there_is}
use Rattle.rh_otp_starts.proofs.Saying.{same_app}
use Rattle.rh_otp_permits.proofs.Noting.{answer_of}
use Rattle.rh_otp_begins.proofs.Running.{own_news, news}
use Rattle.rh_otp_takeovers.proofs.Holding.{Holds, left_of}
use Rattle.rh_otp_takeovers.proofs.Asking.{dist_behind, to_dist}
use Rattle.rh_otp_takeovers.proofs.Taking.{IsTaking}
use Rattle.rh_otp_takeovers.proofs.Telling.{tells, IsLast, answers, abroad}
use Rattle.rh_otp_takeovers.proofs.Meeting.{orderly}

-- ---- its turn

-- what it tells them
abbrev pub its_news : App → Option Dep → TurnView → Message
its_news a error t = message.AppStarted t.here.node a error

-- it tells them, and answers the one that waits
abbrev pub ran_over : Call → Option Dep → TurnView → TurnView
ran_over c error t = answer (process_of c) (outcome_of error) (record t {
  state = record (with_standing c.app (standing_behind error) t.state) { t_reqs = [] };
  out = t.out ++ posts t.here.node (its_news c.app error t) t.state.known;
})

-- so it does where that one alone waits
pub runs_so : (c : Call) (error : Option Dep) (t : TurnView) → t.state.t_reqs ≡ (c.app, process_of c) ∷ []
    → run c.app error t ≡ ran_over c error t
unfolding run del_t_reqs
runs_so c error t one =
    ap (λ (u : TurnView). over (with_takeovers (without_rows a u.state.t_reqs) (answer_each a (outcome_of error) u.state.t_reqs u)))
    (sends (its_news a error t) t.state.known t)
    ∙ ap (λ (rows : List (App × Process)). over (with_takeovers (without_rows a rows) (answer_each a (outcome_of error) rows told))) one
    ∙ ap (λ (b : Bool). over (with_takeovers (cond (not b) ((a, process_of c) ∷ []) [])
    (cond b (answer (process_of c) (outcome_of error) told) told))) (same_app a)
  where
    a : App
    a = c.app

    told : TurnView
    told = record t { out = t.out ++ posts t.here.node (its_news a error t) t.state.known }

    over : TurnView → TurnView
    over u = set_standing a (standing_behind error) u

-- the answer doesn't send the call on
known_so : (error : Option Dep) → is_known (outcome_of error) ≡ false
known_so None = refl
known_so (Some d) = refl

-- what stands last is carried out last
pub one_more : (n : Node) (outs : List Output) (o : Output) (s : SystemView)
    → all_carried_out n (outs ++ o ∷ []) s ≡ carried_out n o (all_carried_out n outs s)
one_more n [] o s = refl
one_more n (x ∷ outs) o s = one_more n outs o (carried_out n x s)

-- ---- what comes of it

-- the answer and what the others are told are on their way, and meet whichever comes first
pub run_orderly : {lives : Node → ℕ} {c : Call} (error : Option Dep) (s : SystemView) → Holds lives c true (own_news lives c error ∷ []) s
    → IsTaking c s → IsOrderly s
run_orderly {lives} {c} error s f taking =
    to_dist (process_at (here_in lives n) role.Controller) (lives n) x s f refl refl idly
  where
    n : Node
    n = c.node

    x : Message
    x = message.Run c.app error

    q : SystemView
    q = without s []

    p : SystemView
    p = mailed n x q

    idly : is_alive_at s n ≡ true → (d : DistView) → (node_at s n).dist ≡ Some d → IsUnoccupied d → d.stand ≡ stand.Idle → IsOrderly p
    idly alive d has free is = orderly {error = error} p (record {
      still = subst (λ (l : List Envelope). Holds lives c true l p) (sym (ap (λ (y : SystemView). y.messages) p_so))
          (dist_behind (Some over.state) (sent ++ e ∷ []) q p (left_of s f) alive rests p_so);
      kinds = subst (All K) (sym (ap (λ (y : SystemView). y.messages) p_so))
          (All-append K sent (e ∷ [])
          (all_mailed lives K written n msg d.known (λ m other. abroad (news lives c error m) (tells m other)))
          (All-cons K e [] (answers (outcome_of error) (known_so error)) (All-nil K)));
      alive = ap (λ (y : SystemView). is_alive_at y n) p_so ∙ same_of_all is_alive s n n new refl ∙ alive;
    })
      where
        t : TurnView
        t = turn s.cluster (own_in s.files n) n (lives n) d

        over : TurnView
        over = ran_over c error t

        new : LiveView
        new = record (node_at s n) { dist = Some over.state }

        written : SystemView
        written = with_node n new q

        msg : Message
        msg = message.AppStarted n c.app error

        sent : List Envelope
        sent = mails lives written n msg d.known

        e : Envelope
        e = answer_of lives c (outcome_of error)

        K : Envelope → Type 0
        K = IsLast lives c error

        rests : (k : DistView) → Some over.state ≡ Some k → IsUnoccupied k
        rests k same = subst IsUnoccupied (same_Some over.state k same) (record {
          stand = inl refl;
          mail = All-nil (λ (z : Message). takes stand.Idle z ≡ false);
          permits = free.permits;
          parked = free.parked;
        })

        p_so : p ≡ record written { messages = sent ++ e ∷ [] }
        p_so =
            idle_comes s.cluster s.files n (lives n) x d over free is refl (λ w. runs_so c error (weighing w t) (taking.takeovers d has)) q
            (node_at s n) (there_is s n alive) has (f.waits.same_lives n) refl refl
            ∙ one_more n (posts n msg d.known) (output.Send e) written
            ∙ ap (carried_out n (output.Send e)) (all_posted n msg d.known written
            (λ k. same_of_all (λ (z : LiveView). z.life) s n k new refl ∙ f.waits.same_lives k)
            (λ m among up. taking.sees d has m among (sym (same_of_all is_alive s n m new refl) ∙ up)))
