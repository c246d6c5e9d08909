-- Another node hears of a forbid, and takes the application over, or notes the permission.
use Rattle.std.proofs.Common.{◌≡◌, ◌⊎◌, ◌++◌, ◌==◌, ◌||◌, ℕ, Bool, true, false, not, cond, List, [], ◌∷◌, Option, Some, None, refl, sym, ap, subst, ◌∙◌, inl, inr}
use Rattle.std.specs.Prelude.{All}
use Rattle.std.proofs.lemmas.Bool.{cases_Bool, eq-eqb}
use Rattle.std.proofs.lemmas.Option.{none-some, same_Some}
use Rattle.rh_model.specs.declared.node.App.{App}
use Rattle.rh_model.specs.declared.node.Node.{Node}
use Rattle.rh_otp_model.specs.declared.message.Change.{Change}
use Rattle.rh_otp_model.specs.declared.message.Message.{Message}
use Rattle.rh_otp_model.specs.declared.message.Message.TheVariants as message
use Rattle.rh_otp_model.specs.declared.output.Envelope.{Envelope}
use Rattle.rh_otp_model.specs.declared.output.Output.TheVariants as output
use Rattle.rh_otp_model.specs.declared.process.Process.{Process}
use Rattle.rh_otp_model.specs.declared.process.Role.TheVariants as role
use Rattle.rh_otp_model.specs.declared.wait.OwnFile.{OwnFile}
use Rattle.rh_otp_model.specs.Own.{controls}
use Rattle.rh_otp_model.specs.Processes.{process_at}
use Rattle.rh_otp_dist.specs.declared.attempt.AskedBy.TheVariants as asked
use Rattle.rh_otp_dist.specs.declared.state.Stand.TheVariants as stand
use Rattle.rh_otp_dist.specs.declared.state.Stand.TheVariants.{ForStart}
use Rattle.rh_otp_dist.specs.declared.state.Standing.TheVariants as standing
use Rattle.rh_otp_dist.specs.Attempts.{change_of, finish, runs_elsewhere, settled}
use Rattle.rh_otp_dist.specs.Choosing.{candidates_of, find_start_node, is_node, is_to_start, outside, places_of, remote, runs_at, start_appl, start_distributed, start_here, verdict_here, wait}
use Rattle.rh_otp_dist.specs.Outside.{with_message}
use Rattle.rh_otp_dist.specs.Received as mail
use Rattle.rh_otp_dist.specs.Sending.{monitor}
use Rattle.rh_otp_dist.specs.State.{DistView, TurnView, may_run, permitted, standing_of, with_permission, with_state}
use Rattle.rh_otp_dist.specs.Told.{new_permission}
use Rattle.rh_otp_dist.specs.Views.{AttemptView}
use Rattle.rh_otp_net.specs.declared.links.Link.{Link}
use Rattle.rh_otp_net.specs.Links.{are_linked}
use Rattle.rh_otp_node.specs.Live.{LiveView}
use Rattle.rh_otp_system.specs.declared.calls.Call.{Call}
use Rattle.rh_otp_system.specs.Delivering.{arrived}
use Rattle.rh_otp_system.specs.State.{SystemView, node_at, with_node, is_alive_at}
use Rattle.rh_otp_system.specs.Working.{mailed}
use Rattle.rh_otp_laws.proofs.Nodes.{node_written}
use Rattle.rh_otp_crashes.specs.Crashes.{IsUnoccupied}
use Rattle.rh_otp_crashes.proofs.Peace.{here_in, without, arrives_alive, arrives_dead}
use Rattle.rh_otp_crashes.proofs.Starting.{is_candidate}
use Rattle.rh_otp_crashes.proofs.Turning.{own_in, turn, turned_by, weighing, none_on, idle_comes, waits_on, still_waits}
use Rattle.rh_otp_stops.proofs.Stopping.{there_is}
use Rattle.rh_otp_starts.proofs.Requests.{finds}
use Rattle.rh_otp_moves.specs.Moving.{TakesIt}
use Rattle.rh_otp_moves.proofs.Telling.{idle_rest, may_still}
use Rattle.rh_otp_moves.proofs.Permit.{is_start, looks}
use Rattle.rh_otp_moves.proofs.Passing.{note}
use Rattle.rh_otp_moves.proofs.Handing.{Handed, Ready, free_at, IsNote, it_changes, change, Advanced, advanced_lost, at_end, goes_on, Stepped, stepped}

-- ---- its dist_ac is told of the forbid

-- behind the forbid
abbrev noted : Node → App → TurnView → TurnView
noted n a t = with_state (with_permission n a false t.state) t

abbrev its_attempt : App → TurnView → AttemptView
its_attempt a t = record { app = a; asked_by = asked.Nobody; permitted = permitted t.state a; permit = None }

abbrev its_change : App → DistView → Change
its_change a d = change_of (verdict_here (standing_of d a) asked.Nobody (remote d a))

abbrev taken_over : Node → App → TurnView → TurnView
taken_over n a t = record t {
  state = record (settled a standing.RunWaiting (noted n a t).state) { stand = stand.Idle };
  out = t.out ++ output.Send (record {
    from = process_at t.here role.DistAc;
    to = process_at t.here role.Controller;
    message = message.Change a (its_change a t.state);
  }) ∷ [];
}

takes_over : (n : Node) (a : App) (t : TurnView) → TakesIt t.own n t.here.node a t.state
    → start_appl a asked.Nobody None (noted n a t) ≡ taken_over n a t
unfolding start_appl start_distributed find_start_node is_to_start start_here finish
takes_over n a t r =
    let m : Node = t.here.node in
    let u : TurnView = noted n a t in
    let attempt : AttemptView = its_attempt a u in
    let candidates : List Node = candidates_of u.own attempt in
    looks attempt (standing_of t.state a) u r.not_here
    ∙ ap (λ (b : Bool). cond b (find_start_node attempt candidates 0 u) (outside attempt candidates (remote u.state a) u))
    (is_candidate m candidates (places_of u.own a) r.chosen.first)
    ∙ finds attempt m candidates 0 (places_of u.own a) u r.chosen.first
    ∙ ap (λ (b : Bool). cond b (runs_elsewhere attempt m u) (is_to_start attempt m u)) r.chosen.not_yet
    ∙ ap (λ (b : Bool). cond b (start_here attempt u) (cond (is_node m (runs_at (standing_of u.state a))) (runs_elsewhere attempt m u)
    (wait (ForStart attempt m) (monitor m u))))
    (eq-eqb m.0 m.0 refl)

-- it has nothing to do with the application, may not run it, or takes it over
hears_so : (n : Node) (a : App) (t : TurnView) (g h : Bool) → controls t.own a ≡ g → may_run (noted n a t).state t.here.node a ≡ h
    → new_permission n a false true t ≡ cond (not g) t (cond h (start_appl a asked.Nobody None (noted n a t)) (noted n a t))
unfolding new_permission
hears_so n a t g h is may =
    (λ i. cond (not (is i)) t (cond (may i) (start_appl a asked.Nobody None (noted n a t)) (noted n a t)))

pub news_comes : {lives : Node → ℕ} {c : Call} {m : Node} {told : List Node} (s : SystemView) (rest : List Envelope)
    → Handed lives c m told s → Ready c m s → All (IsNote lives c m told) rest
    → Advanced lives c m told s (arrived (process_at (here_in lives m) role.DistAc) (note c) (without s rest))
news_comes {lives} {c} {m} {told} s rest f ready kinds = by (cases_Bool (is_alive_at s m))
  where
    a : App
    a = c.app

    to : Process
    to = process_at (here_in lives m) role.DistAc

    x : Message
    x = note c

    q : SystemView
    q = without s rest

    next : SystemView
    next = arrived to x q

    comes : is_alive_at s m ≡ true → next ≡ mailed m x q
    comes up = arrives_alive to x q up (f.hold.same_lives m)

    -- it stands so, and has sent so much
    written : (up : is_alive_at s m ≡ true) (o : Option DistView) (more : List Envelope) → ((d : DistView) → o ≡ Some d → IsUnoccupied d)
        → mailed m x q ≡ record (with_node m (record (node_at s m) { dist = o }) q) { messages = more } → Stepped lives c m told s next
    written up o more free is =
        stepped m s next rest more s.timers s.events (record (node_at s m) { dist = o }) f
        (record {
          there = there_is s m up;
          life = refl;
          phase = refl;
          ending = λ other. refl;
          stopped = λ other. refl;
          rest = λ d has. inl (free d has);
          tame = λ other d has. absurd (other.0 refl);
        })
        (comes up ∙ is)

    quietly : (up : is_alive_at s m ≡ true) (o : Option DistView) → ((d : DistView) → o ≡ Some d → IsUnoccupied d)
        → mailed m x q ≡ with_node m (record (node_at s m) { dist = o }) q → Advanced lives c m told s next
    quietly up o free is =
        let so : Stepped lives c m told s next = written up o rest free is in
        record {
          moving = at_end next rest so.handed (ap (λ (z : SystemView). z.messages) (comes up ∙ is)) kinds;
          leaves = so.leaves;
        }

    idly : (d : DistView) (up : is_alive_at s m ≡ true) → (node_at s m).dist ≡ Some d → d.stand ≡ stand.Idle
        → Advanced lives c m told s next
    idly d up has is = hearing (controls t.own a) (may_run d m a) refl refl
      where
        free : IsUnoccupied d
        free = free_at s d f up has

        t : TurnView
        t = turn s.cluster (own_in s.files m) m (lives m) d

        turned : (over : TurnView) → ((w : ℕ) → mail.handled x (weighing w t) ≡ weighing w over)
            → mailed m x q ≡ turned_by m (node_at s m) over q
        turned over closed =
            idle_comes s.cluster s.files m (lives m) x d over free is refl closed q (node_at s m) (there_is s m up) has
            (f.hold.same_lives m) refl refl

        may_so : (h : Bool) → may_run d m a ≡ h → may_run (noted c.node a t).state m a ≡ h
        may_so h may = may_still t.state c.node m a false f.other ∙ may

        hearing : (g h : Bool) → controls t.own a ≡ g → may_run d m a ≡ h → Advanced lives c m told s next
        hearing false h listed may =
            quietly up (Some t.state)
            (λ y same. subst IsUnoccupied (same_Some t.state y same) (idle_rest d t.state free refl refl refl refl))
            (turned t (λ w. hears_so c.node a (weighing w t) false h listed (may_so h may)))
        hearing true false listed may =
            let over : TurnView = noted c.node a t in
            quietly up (Some over.state)
            (λ y same. subst IsUnoccupied (same_Some over.state y same) (idle_rest d over.state free refl refl refl refl))
            (turned over (λ w. hears_so c.node a (weighing w t) true false listed (may_so false may)))
        hearing true true listed may =
            let r : TakesIt (own_in s.files m) c.node m a d = ready.takes d has is may in
            let over : TurnView = taken_over c.node a t in
            let new : LiveView = record (node_at s m) { dist = Some over.state } in
            let what : Change = its_change a d in
            let e : Envelope = it_changes lives c m what in
            let came : mailed m x q ≡ record (with_node m new q) { messages = rest ++ e ∷ [] } =
            turned over (λ w. hears_so c.node a (weighing w t) true true listed (may_so true may)
            ∙ takes_over c.node a (weighing w t) (record {
              not_here = r.not_here;
              chosen = record { first = r.chosen.first; not_yet = r.chosen.not_yet };
            })) in
            let is_next : next ≡ record (with_node m new q) { messages = rest ++ e ∷ [] } = comes up ∙ came in
            let new_is : node_at next m ≡ new =
            ap (λ (z : SystemView). node_at z m) is_next ∙ node_written q m (node_at s m) new (there_is s m up) in
            let so : Stepped lives c m told s next =
            written up (Some over.state) (rest ++ e ∷ [])
            (λ y same. subst IsUnoccupied (same_Some over.state y same) (idle_rest d over.state free refl refl refl refl)) came in
            record {
              moving = goes_on next rest e so.handed (ap (λ (z : SystemView). z.messages) is_next)
                  (change what (is_start (standing_of d a) (remote d a)) (record {
                    dist = over.state;
                    has = ap (λ (v : LiveView). v.dist) new_is;
                    idle = refl;
                    takeovers = ready.takeovers d has;
                    listed = ap (λ (files : List OwnFile). controls (own_in files m) a) so.files ∙ listed;
                    up = so.stays m ∙ up;
                    sees = λ j among awake_j.
                        ap (λ (links : List Link). m.0 == j.0 || are_linked m j links) so.links
                        ∙ ready.sees d has j among (sym (so.stays j) ∙ awake_j);
                  })) kinds;
              leaves = so.leaves;
            }

    stands : (d : DistView) (up : is_alive_at s m ≡ true) → (node_at s m).dist ≡ Some d
        → (d.stand ≡ stand.Idle) ⊎ (d.stand ≡ stand.ForGo) → Advanced lives c m told s next
    stands d up has (inl is) = idly d up has is
    stands d up has (inr is) =
        let free : IsUnoccupied d = free_at s d f up has in
        let waiting : DistView = with_message x d in
        quietly up (Some waiting) (λ y same. subst IsUnoccupied (same_Some waiting y same) (still_waits x d free is refl))
        (waits_on m x q (node_at s m) d (there_is s m up) has free is refl)

    at : (o : Option DistView) (up : is_alive_at s m ≡ true) → (node_at s m).dist ≡ o → Advanced lives c m told s next
    at None up has = quietly up None (λ d is. absurd (none-some d is)) (none_on m x q (node_at s m) (there_is s m up) has)
    at (Some d) up has = stands d up has (free_at s d f up has).stand

    by : (is_alive_at s m ≡ true) ⊎ (is_alive_at s m ≡ false) → Advanced lives c m told s next
    by (inl up) = at (node_at s m).dist up refl
    by (inr dead) = advanced_lost s next rest f kinds (arrives_dead to x q dead)
