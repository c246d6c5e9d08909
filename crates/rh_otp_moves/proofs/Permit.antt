-- A call that permits a distributed application by which that starts at the node, where nodes were at rest.
use Rattle.std.proofs.Common.{◌≡◌, ◌++◌, ℕ, Bool, true, false, cond, List, [], ◌∷◌, Option, Some, refl, sym, ap, subst, ◌∙◌, inl}
use Rattle.std.proofs.lemmas.Bool.{eq-eqb, false≢true}
use Rattle.std.proofs.lemmas.List.Elements.{All-nil}
use Rattle.rh_model.specs.declared.node.App.{App}
use Rattle.rh_model.specs.declared.node.Node.{Node}
use Rattle.rh_otp_model.specs.declared.message.Change.{Change}
use Rattle.rh_otp_model.specs.declared.message.Message.{Message}
use Rattle.rh_otp_model.specs.declared.message.Message.TheVariants as message
use Rattle.rh_otp_model.specs.declared.output.Envelope.{Envelope}
use Rattle.rh_otp_model.specs.declared.output.Output.{Output}
use Rattle.rh_otp_model.specs.declared.output.Output.TheVariants as output
use Rattle.rh_otp_model.specs.declared.output.Requester.TheVariants.{Alone}
use Rattle.rh_otp_model.specs.declared.process.Process.{Process}
use Rattle.rh_otp_model.specs.declared.process.Role.TheVariants as role
use Rattle.rh_otp_model.specs.declared.wait.OwnFile.{OwnFile}
use Rattle.rh_otp_model.specs.Processes.{process_at}
use Rattle.rh_otp_dist.specs.declared.attempt.AskedBy.TheVariants as asked
use Rattle.rh_otp_dist.specs.declared.state.Stand.TheVariants as stand
use Rattle.rh_otp_dist.specs.declared.state.Stand.TheVariants.{ForStart}
use Rattle.rh_otp_dist.specs.declared.state.Standing.{Standing}
use Rattle.rh_otp_dist.specs.declared.state.Standing.TheVariants as standing
use Rattle.rh_otp_dist.specs.Attempts.{change_of, finish, runs_elsewhere, settled}
use Rattle.rh_otp_dist.specs.Calls.{before_permit, permit_by}
use Rattle.rh_otp_dist.specs.Calls as dist
use Rattle.rh_otp_dist.specs.Choosing.{backwards, candidates_of, find_start_node, is_node, is_to_start, outside, places_of, remote, runs_at, start_appl, start_distributed, start_here, start_unless_local, verdict_here, wait}
use Rattle.rh_otp_dist.specs.Sending.{answer, monitor}
use Rattle.rh_otp_dist.specs.State.{DistView, TurnView, permitted, standing_of, with_permission, with_state}
use Rattle.rh_otp_dist.specs.Told.{is_local}
use Rattle.rh_otp_dist.specs.Views.{AttemptView}
use Rattle.rh_otp_dist.specs.Waiting.{takes as takes_it}
use Rattle.rh_otp_model.specs.declared.fault.Outcome.TheVariants.{Done}
use Rattle.rh_otp_net.specs.declared.locks.Held.{Held}
use Rattle.rh_otp_net.specs.Locks.{freed}
use Rattle.rh_otp_system.specs.declared.calls.Ask.TheVariants as ask
use Rattle.rh_otp_system.specs.declared.calls.Call.{Call}
use Rattle.rh_otp_system.specs.declared.slow.Answered.{Answered}
use Rattle.rh_otp_system.specs.Calls.{process_of}
use Rattle.rh_otp_system.specs.Delivering.{arrived}
use Rattle.rh_otp_system.specs.Doing.{call_of}
use Rattle.rh_otp_system.specs.Outputs.{all_carried_out, carried_out}
use Rattle.rh_otp_system.specs.State.{SystemView, node_at, with_node, is_alive_at}
use Rattle.rh_otp_orders.specs.Confluence.{IsOrderly}
use Rattle.rh_otp_orders.specs.Orders.{is_call}
use Rattle.rh_otp_crashes.specs.Failovers.{SeesAll, first_of}
use Rattle.rh_otp_crashes.proofs.Crash.{lives_of}
use Rattle.rh_otp_crashes.proofs.Peace.{without}
use Rattle.rh_otp_crashes.proofs.Posting.{posts, sends}
use Rattle.rh_otp_crashes.proofs.Starting.{is_candidate}
use Rattle.rh_otp_crashes.proofs.Turning.{own_in, turn, weighing}
use Rattle.rh_otp_locks.proofs.Locks.{none_at_rest}
use Rattle.rh_otp_starts.specs.Elsewhere.{candidates_at}
use Rattle.rh_otp_starts.proofs.Requests.{finds}
use Rattle.rh_otp_starts.proofs.Start.{over_before, asked_so, command_alike}
use Rattle.rh_otp_permits.proofs.Asking.{its_permit}
use Rattle.rh_otp_begins.specs.Here.{IsChosen}
use Rattle.rh_otp_moves.specs.Starting.{IsChosenThen, PermitsThatStartEndAlike}
use Rattle.rh_otp_moves.proofs.Still.{Course}
use Rattle.rh_otp_moves.proofs.Chain.{IsStart, starts, takes_over, fails_over, it_changes, start}
use Rattle.rh_otp_moves.proofs.Beginning.{one_more}
use Rattle.rh_otp_moves.proofs.Calling.{Asked, call_orderly}
use Rattle.rh_otp_moves.proofs.Taking.{course_of, takes, asked_orderly, freed_taken}
use Rattle.rh_otp_moves.proofs.Permitting.{Before, news_of, behind_it, told_all, tells_all, chained_orderly, quiet_orderly}

-- ---- the dist_ac chooses its own node

-- behind the permission, where the others are told whether it runs there
abbrev pub noted_so : App → Bool → TurnView → TurnView
noted_so a his t = record t {
  state = with_permission t.here.node a true t.state;
  out = t.out ++ posts t.here.node (message.NewPermission t.here.node a true his) (backwards t.own a);
}

abbrev pub its_attempt : App → Process → TurnView → AttemptView
its_attempt a p t = record {
  app = a;
  asked_by = asked.Nobody;
  permitted = permitted t.state a;
  permit = Some (before_permit a p t.state);
}

-- how its controller is to start it
abbrev pub its_change : App → DistView → Change
its_change a d = change_of (verdict_here (standing_of d a) asked.Nobody (remote d a))

pub is_start : (st : Standing) (o : Option Node) → IsStart (change_of (verdict_here st asked.Nobody o))
is_start standing.Undefined o = starts
is_start standing.RunWaiting o = starts
is_start standing.Local o = starts
is_start standing.Takeover o = starts
is_start (standing.Failover m) o = fails_over m
is_start (standing.Distributed m) o = takes_over m

-- its controller is told, and the call waits for that, and has its lock no more
abbrev pub starts_over : App → Process → TurnView → TurnView
starts_over a p t =
    let u : TurnView = noted_so a false t in
    record t {
      state = record (settled a standing.RunWaiting u.state) { stand = stand.Idle; t_reqs = (a, p) ∷ t.state.t_reqs };
      out = (u.out ++ output.Send (record {
        from = process_at t.here role.DistAc;
        to = process_at t.here role.Controller;
        message = message.Change a (its_change a t.state);
      }) ∷ []) ++ output.Free (Alone p) p ∷ [];
    }

-- what runs elsewhere, or nowhere, is looked for
pub looks : (attempt : AttemptView) (st : Standing) (t : TurnView) → is_local st ≡ false
    → start_unless_local attempt st t ≡ start_distributed attempt t
looks attempt standing.Local t not_here = absurd (false≢true (sym not_here))
looks attempt standing.Undefined t not_here = refl
looks attempt standing.RunWaiting t not_here = refl
looks attempt standing.Takeover t not_here = refl
looks attempt (standing.Failover m) t not_here = refl
looks attempt (standing.Distributed m) t not_here = refl

-- the permission is told, and a node is looked for
pub permit_looks : (a : App) (p : Process) (t : TurnView) → is_local (standing_of t.state a) ≡ false
    → dist.permit a true false p t
    ≡ start_distributed (its_attempt a p (noted_so a false t)) (noted_so a false t)
unfolding dist.permit start_appl
permit_looks a p t not_here =
    ap (permit_by a true false p (standing_of t.state a))
    (sends (message.NewPermission t.here.node a true (is_local (standing_of t.state a))) (backwards t.own a)
    (with_state (with_permission t.here.node a true t.state) t))
    ∙ ap (λ (b : Bool). cond b (answer p Done (noted_so a b t))
    (start_appl a asked.Nobody (Some (before_permit a p (noted_so a b t).state)) (noted_so a b t))) not_here
    ∙ looks (its_attempt a p (noted_so a false t)) (standing_of t.state a) (noted_so a false t) not_here

pub chooses : (a : App) (p : Process) (t : TurnView) → IsChosen t.own t.here.node a (with_permission t.here.node a true t.state)
    → start_distributed (its_attempt a p (noted_so a false t)) (noted_so a false t) ≡ starts_over a p t
unfolding start_distributed find_start_node is_to_start start_here finish
chooses a p t r =
    let n : Node = t.here.node in
    let u : TurnView = noted_so a false t in
    let attempt : AttemptView = its_attempt a p u in
    let candidates : List Node = candidates_of u.own attempt in
    ap (λ (b : Bool). cond b (find_start_node attempt candidates 0 u) (outside attempt candidates (remote u.state a) u))
    (is_candidate n candidates (places_of u.own a) r.first)
    ∙ finds attempt n candidates 0 (places_of u.own a) u r.first
    ∙ ap (λ (b : Bool). cond b (runs_elsewhere attempt n u) (is_to_start attempt n u)) r.not_yet
    ∙ ap (λ (b : Bool). cond b (start_here attempt u) (cond (is_node n (runs_at (standing_of u.state a))) (runs_elsewhere attempt n u)
    (wait (ForStart attempt n) (monitor n u))))
    (eq-eqb n.0 n.0 refl)

-- ---- the law

start_orderly : {lives : Node → ℕ} {c : Call} {b : SystemView} (s : SystemView) (d : DistView) → Asked lives c true false b s
    → Before lives c true b → SeesAll c.node b → is_alive_at s c.node ≡ true → (node_at s c.node).dist ≡ Some d → d.stand ≡ stand.Idle
    → IsChosenThen (own_in b.files c.node) c.node c.app d
    → IsOrderly (arrived (its_permit true false c).to (its_permit true false c).message (without s []))
start_orderly {lives} {c} {b} s d f g can alive has is r =
    chained_orderly s next over.state [] e f g
    (record {
      idle = refl;
      takeovers = ap (λ rows. (a, p) ∷ rows) (can.takeovers d had);
      ends = λ no. absurd (false≢true (sym no));
      sees = can.sees d had;
    })
    (takes true s d over (told_all lives c true s over.state ++ e ∷ []) [] f alive has is
    (λ w. permit_looks a p (weighing w t) r.not_here
    ∙ chooses a p (weighing w t) (record { first = first; not_yet = r.chosen.not_yet })) posted
    (record {
      stand = inl refl;
      mail = All-nil (λ (x : Message). takes_it stand.Idle x ≡ false);
      permits = (f.dists n d alive has).permits;
      parked = (f.dists n d alive has).parked;
    })
    (λ _. All-nil (λ (h : Held). is_call h.owner.role ≡ false)) g.tame)
    (start (refl, refl) (its_change a d) (is_start (standing_of d a) (remote d a)))
  where
    n : Node
    n = c.node

    a : App
    a = c.app

    p : Process
    p = process_of c

    k : Course
    k = course_of lives c true false true b

    e : Envelope
    e = it_changes k (its_change a d)

    had : (node_at b n).dist ≡ Some d
    had = sym (f.dist n) ∙ has

    next : SystemView
    next = arrived (its_permit true false c).to (its_permit true false c).message (without s [])

    t : TurnView
    t = turn s.cluster (own_in s.files n) n (lives n) d

    first : first_of (candidates_at (own_in s.files n) a (with_permission n a true d)) (places_of (own_in s.files n) a) ≡ Some n
    first = subst (λ (files : List OwnFile). first_of (candidates_at (own_in files n) a (with_permission n a true d))
        (places_of (own_in files n) a) ≡ Some n)
        (sym f.files) r.chosen.first

    over : TurnView
    over = starts_over a p t

    list : List Output
    list = posts n (news_of c true) (backwards (own_in s.files n) a)

    posted : all_carried_out n over.out (behind_it c s over.state)
        ≡ record (with_node n (record (node_at s n) { dist = Some over.state }) s) {
          messages = told_all lives c true s over.state ++ e ∷ [];
          locks = [];
        }
    posted =
        one_more n (list ++ output.Send e ∷ []) (output.Free (Alone p) p) (behind_it c s over.state)
        ∙ ap (carried_out n (output.Free (Alone p) p)) (one_more n list (output.Send e) (behind_it c s over.state)
        ∙ ap (carried_out n (output.Send e)) (tells_all s over.state f g))
        ∙ (λ i. record (with_node n (record (node_at s n) { dist = Some over.state }) s) {
          messages = told_all lives c true s over.state ++ e ∷ [];
          locks = (ap (freed (Alone p) p) f.locks ∙ freed_taken p f.locked) i;
        })

either_orderly : {lives : Node → ℕ} {c : Call} {b : SystemView} (only : Bool) (s : SystemView) (d : DistView)
    → Asked lives c true only b s
    → Before lives c true b → SeesAll c.node b → is_alive_at s c.node ≡ true → (node_at s c.node).dist ≡ Some d → d.stand ≡ stand.Idle
    → IsChosenThen (own_in b.files c.node) c.node c.app d
    → IsOrderly (arrived (its_permit true only c).to (its_permit true only c).message (without s []))
either_orderly true s d f g can alive has is r = quiet_orderly s d f g alive has is (inl refl) r.not_here
either_orderly false s d f g can alive has is r = start_orderly s d f g can alive has is r

pub permits_alike : PermitsThatStartEndAlike
permits_alike s n a reached rest soon listed begins =
    command_alike (ask.Permit true) s n a refl reached rest
    (over_before s soon)
    (λ before f. call_orderly {c = c} (asked_so before c s) f refl none listed begins.sees_list.synchronised
    (λ t asked. asked_orderly t asked (λ d alive has is.
    either_orderly _ t d asked (can before) (sees before) alive has is (begins.chooses d (sym (asked.dist n) ∙ has) is))))
  where
    -- nobody has a lock where all are at rest
    none : s.locks ≡ []
    none = none_at_rest s reached rest

    c : Call
    c = call_of (ask.Permit true) n a s

    sees : (before : List Answered) → SeesAll n (asked_so before c s)
    sees before = record { takeovers = begins.sees_all.takeovers; sees = begins.sees_all.sees }

    can : (before : List Answered) → Before (lives_of s) c true (asked_so before c s)
    can before = record {
      listed = listed;
      sees = begins.sees_list.sees;
      tame = λ m other up d has no. absurd (false≢true (sym no));
    }
