-- A call that forbids a distributed application by which that stops, where nodes were at rest.
use Rattle.std.proofs.Common.{◌≡◌, ◌++◌, ℕ, Bool, true, false, List, [], ◌∷◌, Some, refl, sym, ap, ◌∙◌, inl}
use Rattle.std.proofs.lemmas.Bool.{false≢true}
use Rattle.std.proofs.lemmas.List.Elements.{All-nil}
use Rattle.rh_model.specs.declared.node.App.{App}
use Rattle.rh_model.specs.declared.node.Node.{Node}
use Rattle.rh_otp_model.specs.declared.message.Change.TheVariants as change_of
use Rattle.rh_otp_model.specs.declared.message.Message.{Message}
use Rattle.rh_otp_model.specs.declared.message.Message.TheVariants as message
use Rattle.rh_otp_model.specs.declared.output.Envelope.{Envelope}
use Rattle.rh_otp_model.specs.declared.output.Output.TheVariants as output
use Rattle.rh_otp_model.specs.declared.process.Process.{Process}
use Rattle.rh_otp_model.specs.declared.process.Role.TheVariants as role
use Rattle.rh_otp_model.specs.Processes.{process_at}
use Rattle.rh_otp_dist.specs.declared.state.Stand.TheVariants as stand
use Rattle.rh_otp_dist.specs.declared.state.Standing.{Standing}
use Rattle.rh_otp_dist.specs.declared.state.Standing.TheVariants as standing
use Rattle.rh_otp_dist.specs.Calls.{forbid_here, permit_by}
use Rattle.rh_otp_dist.specs.Calls as dist
use Rattle.rh_otp_dist.specs.Choosing.{backwards}
use Rattle.rh_otp_dist.specs.State.{DistView, TurnView, permitted, standing_of, with_permission, with_state}
use Rattle.rh_otp_dist.specs.Told.{is_local}
use Rattle.rh_otp_dist.specs.Waiting.{takes as takes_it}
use Rattle.rh_otp_system.specs.declared.calls.Ask.TheVariants as ask
use Rattle.rh_otp_system.specs.declared.calls.Call.{Call}
use Rattle.rh_otp_system.specs.declared.slow.Answered.{Answered}
use Rattle.rh_otp_system.specs.Calls.{process_of}
use Rattle.rh_otp_system.specs.Delivering.{arrived}
use Rattle.rh_otp_system.specs.Doing.{call_of}
use Rattle.rh_otp_system.specs.Outputs.{all_carried_out, carried_out}
use Rattle.rh_otp_system.specs.State.{SystemView, node_at, with_node, is_alive_at}
use Rattle.rh_otp_orders.specs.Confluence.{IsOrderly}
use Rattle.rh_otp_crashes.proofs.Crash.{lives_of}
use Rattle.rh_otp_crashes.proofs.Peace.{without}
use Rattle.rh_otp_crashes.proofs.Posting.{posts, sends}
use Rattle.rh_otp_crashes.proofs.Turning.{own_in, turn, weighing}
use Rattle.rh_otp_locks.proofs.Locks.{none_at_rest}
use Rattle.rh_otp_stops.specs.Stops.{CanTell}
use Rattle.rh_otp_starts.proofs.Start.{over_before, asked_so, command_alike}
use Rattle.rh_otp_permits.proofs.Asking.{its_permit}
use Rattle.rh_otp_moves.specs.Stopping.{RunsThereAlone, ForbidsThatStopEndAlike}
use Rattle.rh_otp_moves.proofs.Still.{Course}
use Rattle.rh_otp_moves.proofs.Chain.{it_changes, stop}
use Rattle.rh_otp_moves.proofs.Beginning.{one_more}
use Rattle.rh_otp_moves.proofs.Calling.{Asked, call_orderly}
use Rattle.rh_otp_moves.proofs.Taking.{course_of, takes, asked_orderly}
use Rattle.rh_otp_moves.proofs.Permitting.{Before, news_of, behind_it, told_all, tells_all, chained_orderly, quiet_orderly}

-- ---- the dist_ac's turn

-- the others are told, and its controller is to stop it, for which the call waits
abbrev pub stops_over : App → Process → TurnView → TurnView
stops_over a p t = record t {
  state = record (with_permission t.here.node a false t.state) { s_reqs = (a, p) ∷ t.state.s_reqs };
  out = (t.out ++ posts t.here.node (message.NewPermission t.here.node a false true) (backwards t.own a)) ++ output.Send (record {
    from = process_at t.here role.DistAc;
    to = process_at t.here role.Controller;
    message = message.Change a change_of.StopIt;
  }) ∷ [];
}

pub stops_so : (a : App) (p : Process) (t : TurnView) → standing_of t.state a ≡ standing.Local
    → permitted (with_permission t.here.node a false t.state) a ≡ [] → dist.permit a false false p t ≡ stops_over a p t
unfolding dist.permit
stops_so a p t local nobody =
    ap (permit_by a false false p (standing_of t.state a))
    (sends (message.NewPermission t.here.node a false (is_local (standing_of t.state a))) (backwards t.own a)
    (with_state (with_permission t.here.node a false t.state) t))
    ∙ ap (λ (st : Standing). permit_by a false false p st (told (is_local st))) local
    ∙ ap (λ (l : List Node). forbid_here a p l (told true)) nobody
  where
    told : Bool → TurnView
    told his = record t {
      state = with_permission t.here.node a false t.state;
      out = t.out ++ posts t.here.node (message.NewPermission t.here.node a false his) (backwards t.own a);
    }

-- ---- the law

stop_orderly : {lives : Node → ℕ} {c : Call} {b : SystemView} (s : SystemView) (d : DistView) → Asked lives c false false b s
    → Before lives c false b → CanTell c.node b → is_alive_at s c.node ≡ true → (node_at s c.node).dist ≡ Some d → d.stand ≡ stand.Idle
    → RunsThereAlone c.node c.app d
    → IsOrderly (arrived (its_permit false false c).to (its_permit false false c).message (without s []))
stop_orderly {lives} {c} {b} s d f g can alive has is alone =
    chained_orderly s next over.state s.locks e f g
    (record {
      idle = refl;
      takeovers = can.sees_all.takeovers d had;
      ends = λ no. (ap (λ rows. (a, p) ∷ rows) (can.ends d had), alone.local);
      sees = can.sees_all.sees d had;
    })
    (takes false s d over (told_all lives c false s over.state ++ e ∷ []) s.locks f alive has is
    (λ w. stops_so a p (weighing w t) alone.local alone.nobody) posted
    (record {
      stand = inl refl;
      mail = All-nil (λ (x : Message). takes_it stand.Idle x ≡ false);
      permits = (f.dists n d alive has).permits;
      parked = (f.dists n d alive has).parked;
    })
    (λ no. absurd (false≢true no)) g.tame)
    (stop refl)
  where
    n : Node
    n = c.node

    a : App
    a = c.app

    p : Process
    p = process_of c

    k : Course
    k = course_of lives c false false false b

    e : Envelope
    e = it_changes k change_of.StopIt

    had : (node_at b n).dist ≡ Some d
    had = sym (f.dist n) ∙ has

    next : SystemView
    next = arrived (its_permit false false c).to (its_permit false false c).message (without s [])

    t : TurnView
    t = turn s.cluster (own_in s.files n) n (lives n) d

    over : TurnView
    over = stops_over a p t

    posted : all_carried_out n over.out (behind_it c s over.state)
        ≡ record (with_node n (record (node_at s n) { dist = Some over.state }) s) {
          messages = told_all lives c false s over.state ++ e ∷ [];
          locks = s.locks;
        }
    posted =
        one_more n (posts n (news_of c false) (backwards (own_in s.files n) a)) (output.Send e) (behind_it c s over.state)
        ∙ ap (carried_out n (output.Send e)) (tells_all s over.state f g)

either_orderly : {lives : Node → ℕ} {c : Call} {b : SystemView} (only : Bool) (s : SystemView) (d : DistView)
    → Asked lives c false only b s
    → Before lives c false b → CanTell c.node b → is_alive_at s c.node ≡ true → (node_at s c.node).dist ≡ Some d → d.stand ≡ stand.Idle
    → RunsThereAlone c.node c.app d
    → IsOrderly (arrived (its_permit false only c).to (its_permit false only c).message (without s []))
either_orderly true s d f g can alive has is alone = quiet_orderly s d f g alive has is (inl refl) (ap is_local alone.local)
either_orderly false s d f g can alive has is alone = stop_orderly s d f g can alive has is alone

pub forbids_alike : ForbidsThatStopEndAlike
forbids_alike s n a reached rest soon listed stops =
    command_alike (ask.Permit false) s n a refl reached rest
    (over_before s soon)
    (λ before f. call_orderly {c = c} (asked_so before c s) f refl none listed stops.sees_list.synchronised
    (λ t asked. asked_orderly t asked (λ d alive has is.
    either_orderly _ t d asked (can before) (tells before) alive has is (stops.alone d (sym (asked.dist n) ∙ has) is))))
  where
    -- nobody has a lock where all are at rest
    none : s.locks ≡ []
    none = none_at_rest s reached rest

    c : Call
    c = call_of (ask.Permit false) n a s

    tells : (before : List Answered) → CanTell n (asked_so before c s)
    tells before = record {
      sees_all = record { takeovers = stops.tells.sees_all.takeovers; sees = stops.tells.sees_all.sees };
      ends = stops.tells.ends;
    }

    can : (before : List Answered) → Before (lives_of s) c false (asked_so before c s)
    can before = record {
      listed = listed;
      sees = stops.sees_list.sees;
      tame = λ m other up d has no among is controlled. stops.others m d other among up has is controlled;
    }
