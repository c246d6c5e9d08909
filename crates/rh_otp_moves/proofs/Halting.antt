-- Behind a forbid the controller stops the application and tells the dist_ac, which tells the others and answers the caller.
use Rattle.std.proofs.Common.{◌≡◌, ◌⊎◌, ◌++◌, ℕ, Bool, true, false, not, cond, List, [], ◌∷◌, Option, Some, None, refl, sym, ap, subst, ◌∙◌, inl, inr}
use Rattle.std.specs.Prelude.{All}
use Rattle.std.proofs.lemmas.Bool.{cases_Bool}
use Rattle.std.proofs.lemmas.List.{append_assoc}
use Rattle.std.proofs.lemmas.List.Elements.{All-nil, All-cons}
use Rattle.rh_model.specs.declared.node.App.{App}
use Rattle.rh_model.specs.declared.node.Node.{Node}
use Rattle.rh_otp_model.specs.declared.fault.Outcome.TheVariants.{Done}
use Rattle.rh_otp_model.specs.declared.message.Change.TheVariants as change_of
use Rattle.rh_otp_model.specs.declared.message.Message.{Message}
use Rattle.rh_otp_model.specs.declared.message.Message.TheVariants as message
use Rattle.rh_otp_model.specs.declared.output.Envelope.{Envelope}
use Rattle.rh_otp_model.specs.declared.output.Event.TheVariants as event
use Rattle.rh_otp_model.specs.declared.output.Output.{Output}
use Rattle.rh_otp_model.specs.declared.output.Output.TheVariants as output
use Rattle.rh_otp_model.specs.declared.process.Process.{Process}
use Rattle.rh_otp_model.specs.declared.process.Role.TheVariants as role
use Rattle.rh_otp_model.specs.Own.{controls}
use Rattle.rh_otp_model.specs.Processes.{process_at}
use Rattle.rh_otp_model.specs.Rows.{keyfind, keyreplace, has_row}
use Rattle.rh_otp_controller.specs.declared.state.Place.{Place}
use Rattle.rh_otp_controller.specs.declared.state.Place.TheVariants as place_of
use Rattle.rh_otp_controller.specs.Changes.{change, changed, change_running, received}
use Rattle.rh_otp_controller.specs.Sending.{send, stop_appl}
use Rattle.rh_otp_controller.specs.State.{TurnView as ControllerTurn}
use Rattle.rh_otp_dist.specs.declared.state.Stand.TheVariants as stand
use Rattle.rh_otp_dist.specs.declared.state.Standing.{Standing}
use Rattle.rh_otp_dist.specs.declared.state.Standing.TheVariants as standing
use Rattle.rh_otp_dist.specs.Sending.{answer, del_t_reqs}
use Rattle.rh_otp_dist.specs.State.{DistView, TurnView, standing_of, with_standing}
use Rattle.rh_otp_dist.specs.Told.{not_run, answer_ends, tell_end, set_standing, with_ends}
use Rattle.rh_otp_dist.specs.Waiting.{takes}
use Rattle.rh_otp_node.specs.Live.{LiveView, is_alive}
use Rattle.rh_otp_system.specs.Calls.{process_of}
use Rattle.rh_otp_system.specs.Delivering.{arrived}
use Rattle.rh_otp_system.specs.Outputs.{all_carried_out}
use Rattle.rh_otp_system.specs.State.{SystemView, node_at, with_node, is_alive_at}
use Rattle.rh_otp_laws.proofs.Nodes.{same_of_all}
use Rattle.rh_otp_crashes.proofs.Carrying.{letters}
use Rattle.rh_otp_crashes.proofs.Peace.{without, arrives_dead}
use Rattle.rh_otp_crashes.proofs.Posting.{posts, mails, sends as sends_all, all_posted, all_mailed}
use Rattle.rh_otp_crashes.proofs.Turning.{own_in, turn, weighing}
use Rattle.rh_otp_stops.proofs.Stop.{turn_at}
use Rattle.rh_otp_starts.proofs.Saying.{same_app}
use Rattle.rh_otp_starts.proofs.Turns.{IsSaid, sends, stops}
use Rattle.rh_otp_moves.proofs.Still.{Course}
use Rattle.rh_otp_moves.proofs.Telling.{IsAbroad, hears, told_to}
use Rattle.rh_otp_moves.proofs.Telling as telling
use Rattle.rh_otp_moves.proofs.Abroad.{Going, going_left}
use Rattle.rh_otp_moves.proofs.Late.{IsLate, answers, abroad, its_answer}
use Rattle.rh_otp_moves.proofs.Chain.{it_changes, it_has_stopped, stopped, Waiting, Advanced, advanced_lost, advanced_over, advanced_next, Controlled, controls_home, Handled, handles_home}

-- ---- the controller

-- it says nothing, or tells the dist_ac that the application has stopped
record Halts (t u : ControllerTurn) (e : Envelope) : Type 0 where
  said : All (IsSaid t.here.node) u.out
  sent : (letters u.out ≡ []) ⊎ (letters u.out ≡ e ∷ [])
  ending : u.state.is_ending ≡ t.state.is_ending

abbrev told_stopped : App → ControllerTurn → Envelope
told_stopped a t = record {
  from = process_at t.here role.Controller;
  to = process_at t.here role.DistAc;
  message = message.NotRun a;
}

silent : (t : ControllerTurn) (e : Envelope) → t.out ≡ [] → Halts t t e
silent t e none = record {
  said = subst (All (IsSaid t.here.node)) (sym none) (All-nil (IsSaid t.here.node));
  sent = inl (ap letters none);
  ending = refl;
}

halts : (a : App) (t : ControllerTurn) → t.out ≡ [] → controls t.own a ≡ true
    → Halts t (received (message.Change a change_of.StopIt) t) (told_stopped a t)
unfolding received change
halts a t none listed = by t.state.is_ending
  where
    n : Node
    n = t.here.node

    e : Envelope
    e = told_stopped a t

    P : Output → Type 0
    P = IsSaid n

    last : ControllerTurn → ControllerTurn
    last u = record u { state = record u.state { running = keyreplace a place_of.Nowhere u.state.running } }

    telling_so : (place : Place) → Halts t (last (send (process_at t.here role.DistAc) (message.NotRun a) (stop_appl a (Some place) t))) e
    telling_so place_of.Here = record {
      said = subst (λ (l : List Output). All P ((l ++ output.Tell (event.Stopped a n) ∷ []) ++ output.Send e ∷ [])) (sym none)
          (All-cons P (output.Tell (event.Stopped a n)) (output.Send e ∷ []) (stops a)
          (All-cons P (output.Send e) [] (sends e) (All-nil P)));
      sent = inr (ap (λ (l : List Output). letters ((l ++ output.Tell (event.Stopped a n) ∷ []) ++ output.Send e ∷ [])) none);
      ending = refl;
    }
    telling_so (place_of.At m) = record {
      said = subst (λ (l : List Output). All P (l ++ output.Send e ∷ [])) (sym none) (All-cons P (output.Send e) [] (sends e) (All-nil P));
      sent = inr (ap (λ (l : List Output). letters (l ++ output.Send e ∷ [])) none);
      ending = refl;
    }
    telling_so place_of.Nowhere = record {
      said = subst (λ (l : List Output). All P (l ++ output.Send e ∷ [])) (sym none) (All-cons P (output.Send e) [] (sends e) (All-nil P));
      sent = inr (ap (λ (l : List Output). letters (l ++ output.Send e ∷ [])) none);
      ending = refl;
    }

    tells : (place : Place) (b : Bool) → b ≡ true
        → Halts t (last (cond b (send (process_at t.here role.DistAc) (message.NotRun a) (stop_appl a (Some place) t))
        (stop_appl a (Some place) t))) e
    tells place b is =
        subst (λ (x : Bool). Halts t (last (cond x (send (process_at t.here role.DistAc) (message.NotRun a) (stop_appl a (Some place) t))
        (stop_appl a (Some place) t))) e) (sym is) (telling_so place)

    running : (place : Place) → Halts t (change_running a change_of.StopIt place t) e
    running place_of.Here = tells place_of.Here (controls t.own a) listed
    running (place_of.At m) = tells (place_of.At m) (controls t.own a) listed
    running place_of.Nowhere = tells place_of.Nowhere (controls t.own a) listed

    place_by : (place : Place) (b : Bool) → Halts t (cond b (change_running a change_of.StopIt place t) t) e
    place_by place true = running place
    place_by place false = silent t e none

    at : (o : Option Place) → Halts t (changed a change_of.StopIt o t) e
    at None = silent t e none
    at (Some place) = place_by place (has_row a t.state.started)

    by : (b : Bool) → Halts t (cond b t (changed a change_of.StopIt (keyfind a t.state.running) t)) e
    by true = silent t e none
    by false = at (keyfind a t.state.running)

pub stop_comes : (k : Course) (s : SystemView) (rest : List Envelope) → Going k s → Waiting k s → All (IsAbroad k) rest
    → k.allow ≡ false
    → Advanced k s (arrived (it_changes k change_of.StopIt).to (message.Change k.call.app change_of.StopIt) (without s rest))
stop_comes k s rest f waits kinds forbidden = by (cases_Bool (is_alive_at s n))
  where
    n : Node
    n = k.call.node

    x : Message
    x = message.Change k.call.app change_of.StopIt

    q : SystemView
    q = without s rest

    t : SystemView
    t = arrived (it_changes k change_of.StopIt).to x q

    u : ControllerTurn
    u = received x (turn_at s n)

    h : Halts (turn_at s n) u (told_stopped k.call.app (turn_at s n))
    h = halts k.call.app (turn_at s n) refl waits.listed

    told : told_stopped k.call.app (turn_at s n) ≡ it_has_stopped k
    told = ap (λ (life : ℕ). record {
      from = process_at (record { node = n; life = life }) role.Controller;
      to = process_at (record { node = n; life = life }) role.DistAc;
      message = message.NotRun k.call.app;
    }) (f.still.same_lives n)

    by_sent : Controlled k u q t → (letters u.out ≡ []) ⊎ (letters u.out ≡ told_stopped k.call.app (turn_at s n) ∷ []) → Advanced k s t
    by_sent c (inl none) = advanced_over k s t rest [] f kinds c.did (c.sent ∙ none) (All-nil (IsLate k))
    by_sent c (inr one) =
        advanced_next k s t rest (it_has_stopped k) f kinds c.did (c.sent ∙ one ∙ ap (λ (e : Envelope). e ∷ []) told) waits c.dist
        (stopped forbidden)

    by : (is_alive_at s n ≡ true) ⊎ (is_alive_at s n ≡ false) → Advanced k s t
    by (inl alive) = by_sent (controls_home k q x (going_left k s rest f) alive h.said (inr h.ending)) h.sent
    by (inr dead) = advanced_lost k s t rest f kinds (arrives_dead (it_changes k change_of.StopIt).to x q dead)

-- ---- the dist_ac

-- the caller is answered, the others are told, and nobody waits any more
abbrev pub halted : App → Process → TurnView → TurnView
halted a p t = record t {
  state = record (with_standing a standing.Undefined t.state) { t_reqs = []; s_reqs = [] };
  out = (t.out ++ output.Send (record { from = process_at t.here role.DistAc; to = p; message = message.Answer Done }) ∷ [])
      ++ posts t.here.node (message.AppStopped a) t.state.known;
}

pub halted_so : (a : App) (p : Process) (t : TurnView) → t.state.t_reqs ≡ [] → t.state.s_reqs ≡ (a, p) ∷ []
    → standing_of t.state a ≡ standing.Local → not_run a t ≡ halted a p t
unfolding not_run answer_ends del_t_reqs
halted_so a p t none one local =
    (λ i. not_run a (record t { state = record t.state { t_reqs = none i; s_reqs = one i } }))
    ∙ ap (λ (b : Bool). set_standing a standing.Undefined (tell_end a (standing_of (told b).state a) (told b))) (same_app a)
    ∙ ap (λ (st : Standing). set_standing a standing.Undefined (tell_end a st (told true))) local
    ∙ ap (set_standing a standing.Undefined) (sends_all (message.AppStopped a) t.state.known (told true))
  where
    asked : TurnView
    asked = record t { state = record t.state { t_reqs = []; s_reqs = (a, p) ∷ [] } }

    told : Bool → TurnView
    told b = with_ends (cond (not b) ((a, p) ∷ []) []) (cond b (answer p Done asked) asked)

pub stopped_comes : (k : Course) (s : SystemView) (rest : List Envelope) → Going k s → Waiting k s → All (IsAbroad k) rest
    → k.allow ≡ false → Advanced k s (arrived (it_has_stopped k).to (message.NotRun k.call.app) (without s rest))
stopped_comes k s rest f waits kinds forbidden = by (cases_Bool (is_alive_at s n))
  where
    n : Node
    n = k.call.node

    a : App
    a = k.call.app

    p : Process
    p = process_of k.call

    d : DistView
    d = waits.dist

    q : SystemView
    q = without s rest

    next : SystemView
    next = arrived (it_has_stopped k).to (message.NotRun a) q

    t : TurnView
    t = turn s.cluster (own_in s.files n) n (k.lives n) d

    over : TurnView
    over = halted a p t

    new : LiveView
    new = record (node_at s n) { dist = Some over.state }

    written : SystemView
    written = with_node n new s

    y : Message
    y = message.AppStopped a

    e : Envelope
    e = its_answer k Done

    sent : List Envelope
    sent = mails k.lives written n y d.known

    posted : (l : List Envelope)
        → all_carried_out n (posts n y d.known) (without written l) ≡ without written (l ++ sent)
    posted l =
        all_posted {lives = k.lives} n y d.known (without written l)
        (λ j. same_of_all (λ (v : LiveView). v.life) s n j new refl ∙ f.still.same_lives j)
        (λ m among up. waits.sees m among (sym (same_of_all is_alive s n m new refl) ∙ up))

    by : (is_alive_at s n ≡ true) ⊎ (is_alive_at s n ≡ false) → Advanced k s next
    by (inl alive) =
        let h : Handled k (e ∷ sent) q next =
        handles_home k s rest (e ∷ sent) (message.NotRun a) d over f alive waits.has waits.idle refl
        (λ w. halted_so a p (weighing w t) (waits.takeovers ∙ ap (λ (b : Bool). cond b ((a, p) ∷ []) []) forbidden)
        (waits.ends forbidden).0 (waits.ends forbidden).1)
        (posted (rest ++ e ∷ []) ∙ (λ i. without written (append_assoc rest (e ∷ []) sent i)))
        (record {
          stand = inl refl;
          mail = All-nil (λ (x : Message). takes stand.Idle x ≡ false);
          permits = (f.still.dists n d alive waits.has).permits;
          parked = (f.still.dists n d alive waits.has).parked;
        }) in
        advanced_over k s next rest (e ∷ sent) f kinds h.did h.sent
        (All-cons (IsLate k) e sent (answers Done refl)
        (all_mailed k.lives (IsLate k) written n y d.known
        (λ m other. abroad (told_to k y m) (hears m y other (telling.stops forbidden)))))
    by (inr dead) = advanced_lost k s next rest f kinds (arrives_dead (it_has_stopped k).to (message.NotRun a) q dead)
