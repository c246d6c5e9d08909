-- A call that permits a distributed application that runs elsewhere, where nodes were at rest.
use Rattle.std.proofs.Common.{◌≡◌, ◌⊎◌, ◌++◌, ℕ, Bool, true, false, cond, List, [], ◌∷◌, Option, Some, refl, sym, ap, subst, ◌∙◌, inl, inr}
use Rattle.std.specs.Prelude.{All}
use Rattle.std.proofs.lemmas.Bool.{false≢true}
use Rattle.std.proofs.lemmas.List.Elements.{All-nil, All-cons, All-append, All-weaker}
use Rattle.rh_model.specs.declared.node.App.{App}
use Rattle.rh_model.specs.declared.node.Node.{Node}
use Rattle.rh_otp_model.specs.declared.fault.Outcome.TheVariants.{Done}
use Rattle.rh_otp_model.specs.declared.message.Change.TheVariants as change_of
use Rattle.rh_otp_model.specs.declared.message.Message.{Message}
use Rattle.rh_otp_model.specs.declared.message.Message.TheVariants as message
use Rattle.rh_otp_model.specs.declared.output.Envelope.{Envelope}
use Rattle.rh_otp_model.specs.declared.output.Output.{Output}
use Rattle.rh_otp_model.specs.declared.output.Output.TheVariants as output
use Rattle.rh_otp_model.specs.declared.process.Process.{Process}
use Rattle.rh_otp_model.specs.declared.process.Role.TheVariants as role
use Rattle.rh_otp_model.specs.declared.wait.OwnFile.{OwnFile}
use Rattle.rh_otp_model.specs.Own.{OwnView}
use Rattle.rh_otp_model.specs.Processes.{process_at}
use Rattle.rh_otp_dist.specs.declared.state.Stand.TheVariants as stand
use Rattle.rh_otp_dist.specs.declared.state.Standing.TheVariants as standing
use Rattle.rh_otp_dist.specs.Attempts.{finish, restored, runs_elsewhere, settled}
use Rattle.rh_otp_dist.specs.Calls.{before_permit}
use Rattle.rh_otp_dist.specs.Choosing.{backwards, candidates_of, find_start_node, is_to_start, outside, places_of, remote, runs_there, start_distributed}
use Rattle.rh_otp_dist.specs.State.{DistView, TurnView, is_among, with_permission}
use Rattle.rh_otp_dist.specs.Views.{AttemptView}
use Rattle.rh_otp_dist.specs.Waiting.{takes as takes_it}
use Rattle.rh_otp_system.specs.declared.calls.Ask.TheVariants as ask
use Rattle.rh_otp_system.specs.declared.calls.Call.{Call}
use Rattle.rh_otp_system.specs.declared.slow.Answered.{Answered}
use Rattle.rh_otp_system.specs.Calls.{process_of}
use Rattle.rh_otp_system.specs.Delivering.{arrived}
use Rattle.rh_otp_system.specs.Doing.{call_of}
use Rattle.rh_otp_system.specs.Outputs.{all_carried_out, carried_out}
use Rattle.rh_otp_system.specs.State.{SystemView, node_at, with_node, is_alive_at}
use Rattle.rh_otp_orders.specs.Confluence.{IsOrderly}
use Rattle.rh_otp_crashes.specs.Failovers.{first_of}
use Rattle.rh_otp_crashes.proofs.Crash.{lives_of}
use Rattle.rh_otp_crashes.proofs.Peace.{without}
use Rattle.rh_otp_crashes.proofs.Posting.{posts}
use Rattle.rh_otp_crashes.proofs.Turning.{own_in, turn, weighing}
use Rattle.rh_otp_locks.proofs.Locks.{none_at_rest}
use Rattle.rh_otp_starts.specs.Elsewhere.{candidates_at}
use Rattle.rh_otp_starts.proofs.Requests.{finds}
use Rattle.rh_otp_starts.proofs.Start.{over_before, asked_so, command_alike}
use Rattle.rh_otp_permits.proofs.Asking.{its_permit}
use Rattle.rh_otp_moves.specs.Elsewhere.{IsFoundThen, PermitsElsewhereEndAlike}
use Rattle.rh_otp_moves.proofs.Still.{Course}
use Rattle.rh_otp_moves.proofs.Telling.{IsAbroad}
use Rattle.rh_otp_moves.proofs.Late.{answers, abroad, its_answer}
use Rattle.rh_otp_moves.proofs.Chain.{it_changes}
use Rattle.rh_otp_moves.proofs.Beginning.{one_more}
use Rattle.rh_otp_moves.proofs.Calling.{Asked, call_orderly}
use Rattle.rh_otp_moves.proofs.Taking.{Took, course_of, takes, asked_orderly}
use Rattle.rh_otp_moves.proofs.Permitting.{Before, news_of, behind_it, told_all, tells_all, all_told, quiet_orderly}
use Rattle.rh_otp_moves.proofs.Permit.{noted_so, its_attempt, permit_looks}
use Rattle.rh_otp_moves.proofs.Away.{IsAway, late, own_news, away_orderly}

-- ---- the dist_ac's turn

-- its controller is told where it runs, the caller is answered, and else its state is as before
abbrev pub found_over : App → Node → Process → TurnView → TurnView
found_over a j p t =
    let u : TurnView = noted_so a false t in
    record t {
      state = restored a (before_permit a p u.state) (record (settled a (standing.Distributed j) u.state) { stand = stand.Idle });
      out = (u.out ++ output.Send (record {
        from = process_at t.here role.DistAc;
        to = process_at t.here role.Controller;
        message = message.Change a (change_of.Started j);
      }) ∷ []) ++ output.Send (record { from = process_at t.here role.DistAc; to = p; message = message.Answer Done }) ∷ [];
    }

-- where it finds it
abbrev pub IsFound : OwnView → Node → App → DistView → Node → Type 0
IsFound own n a d j =
    ((is_among n (candidates_at own a d) ≡ true) × (first_of (candidates_at own a d) (places_of own a) ≡ Some j)
    × (runs_there d a j ≡ true))
    ⊎ ((is_among n (candidates_at own a d) ≡ false) × (remote d a ≡ Some j))

pub finds_it : (a : App) (j : Node) (p : Process) (t : TurnView)
    → IsFound t.own t.here.node a (with_permission t.here.node a true t.state) j
    → start_distributed (its_attempt a p (noted_so a false t)) (noted_so a false t) ≡ found_over a j p t
unfolding start_distributed find_start_node runs_elsewhere finish
finds_it a j p t (inl (among, first, there)) =
    let u : TurnView = noted_so a false t in
    let attempt : AttemptView = its_attempt a p u in
    let candidates : List Node = candidates_of u.own attempt in
    ap (λ (b : Bool). cond b (find_start_node attempt candidates 0 u) (outside attempt candidates (remote u.state a) u)) among
    ∙ finds attempt j candidates 0 (places_of u.own a) u first
    ∙ ap (λ (b : Bool). cond b (runs_elsewhere attempt j u) (is_to_start attempt j u)) there
finds_it a j p t (inr (not_among, known)) =
    let u : TurnView = noted_so a false t in
    let attempt : AttemptView = its_attempt a p u in
    let candidates : List Node = candidates_of u.own attempt in
    ap (λ (b : Bool). cond b (find_start_node attempt candidates 0 u) (outside attempt candidates (remote u.state a) u)) not_among
    ∙ ap (λ (o : Option Node). outside attempt candidates o u) known

-- ---- the law

found_orderly : {lives : Node → ℕ} {c : Call} {b : SystemView} (s : SystemView) (d : DistView) → Asked lives c true false b s
    → Before lives c true b → is_alive_at s c.node ≡ true → (node_at s c.node).dist ≡ Some d → d.stand ≡ stand.Idle
    → IsFoundThen (own_in b.files c.node) c.node c.app d
    → IsOrderly (arrived (its_permit true false c).to (its_permit true false c).message (without s []))
found_orderly {lives} {c} {b} s d f g alive has is r =
    away_orderly k next (record {
      going = took.going;
      kinds = subst (All (IsAway k)) (sym took.messages)
          (All-append (IsAway k) (told ++ e ∷ []) (y ∷ [])
          (All-append (IsAway k) told (e ∷ [])
          (All-weaker (IsAbroad k) (IsAway k) (λ x kind. late x (abroad x kind)) told (all_told false s over.state f))
          (All-cons (IsAway k) e [] (own_news j) (All-nil (IsAway k))))
          (All-cons (IsAway k) y [] (late y (answers Done refl)) (All-nil (IsAway k))));
    })
  where
    n : Node
    n = c.node

    a : App
    a = c.app

    p : Process
    p = process_of c

    j : Node
    j = r.elsewhere.at

    k : Course
    k = course_of lives c true false false b

    e : Envelope
    e = it_changes k (change_of.Started j)

    y : Envelope
    y = its_answer k Done

    next : SystemView
    next = arrived (its_permit true false c).to (its_permit true false c).message (without s [])

    t : TurnView
    t = turn s.cluster (own_in s.files n) n (lives n) d

    over : TurnView
    over = found_over a j p t

    told : List Envelope
    told = told_all lives c true s over.state

    list : List Output
    list = posts n (news_of c true) (backwards (own_in s.files n) a)

    found : IsFound (own_in s.files n) n a (with_permission n a true d) j
    found = subst (λ (files : List OwnFile). IsFound (own_in files n) n a (with_permission n a true d) j) (sym f.files) r.elsewhere.found

    posted : all_carried_out n over.out (behind_it c s over.state)
        ≡ record (with_node n (record (node_at s n) { dist = Some over.state }) s) {
          messages = (told ++ e ∷ []) ++ y ∷ [];
          locks = s.locks;
        }
    posted =
        one_more n (list ++ output.Send e ∷ []) (output.Send y) (behind_it c s over.state)
        ∙ ap (carried_out n (output.Send y)) (one_more n list (output.Send e) (behind_it c s over.state)
        ∙ ap (carried_out n (output.Send e)) (tells_all s over.state f g))

    took : Took k s next over.state ((told ++ e ∷ []) ++ y ∷ []) s.locks
    took = takes false s d over ((told ++ e ∷ []) ++ y ∷ []) s.locks f alive has is
        (λ w. permit_looks a p (weighing w t) r.not_here ∙ finds_it a j p (weighing w t) found) posted
        (record {
          stand = inl refl;
          mail = All-nil (λ (x : Message). takes_it stand.Idle x ≡ false);
          permits = (f.dists n d alive has).permits;
          parked = (f.dists n d alive has).parked;
        })
        (λ no. absurd (false≢true no)) g.tame

either_orderly : {lives : Node → ℕ} {c : Call} {b : SystemView} (only : Bool) (s : SystemView) (d : DistView)
    → Asked lives c true only b s → Before lives c true b
    → is_alive_at s c.node ≡ true
    → (node_at s c.node).dist ≡ Some d → d.stand ≡ stand.Idle → IsFoundThen (own_in b.files c.node) c.node c.app d
    → IsOrderly (arrived (its_permit true only c).to (its_permit true only c).message (without s []))
either_orderly true s d f g alive has is r = quiet_orderly s d f g alive has is (inl refl) r.not_here
either_orderly false s d f g alive has is r = found_orderly s d f g alive has is r

pub elsewhere_alike : PermitsElsewhereEndAlike
elsewhere_alike s n a reached rest soon listed there =
    command_alike (ask.Permit true) s n a refl reached rest
    (over_before s soon)
    (λ before f. call_orderly {c = c} (asked_so before c s) f refl none listed there.sees_list.synchronised
    (λ t asked. asked_orderly t asked (λ d alive has is.
    either_orderly _ t d asked (can before) alive has is (there.finds d (sym (asked.dist n) ∙ has) is))))
  where
    -- nobody has a lock where all are at rest
    none : s.locks ≡ []
    none = none_at_rest s reached rest

    c : Call
    c = call_of (ask.Permit true) n a s

    can : (before : List Answered) → Before (lives_of s) c true (asked_so before c s)
    can before = record {
      listed = listed;
      sees = there.sees_list.sees;
      tame = λ m other up d has no. absurd (false≢true (sym no));
    }
