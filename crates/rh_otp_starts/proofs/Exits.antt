-- A call that ends an application by itself, where nodes were at rest: it may end its node, and where dist_ac controls it the others are
-- told.
use Rattle.std.proofs.Common.{◌≡◌, ◌⊎◌, ◌||◌, ◌==◌, ℕ, Bool, true, false, cond, List, [], ◌∷◌, Some, refl, sym, ap, subst, ◌∙◌, inl, inr}
use Rattle.std.specs.Prelude.{All}
use Rattle.std.proofs.lemmas.Bool.{cases_Bool, false≢true}
use Rattle.std.proofs.lemmas.List.Elements.{All-nil, All-cons}
use Rattle.rh_model.specs.declared.node.App.{App}
use Rattle.rh_model.specs.declared.node.Node.{Node}
use Rattle.rh_otp_model.specs.declared.fault.Fault.TheVariants.{NotRunning}
use Rattle.rh_otp_model.specs.declared.fault.Outcome.TheVariants.{Done, Failed}
use Rattle.rh_otp_model.specs.declared.message.Message.TheVariants as message
use Rattle.rh_otp_model.specs.declared.output.Envelope.{Envelope}
use Rattle.rh_otp_model.specs.declared.output.Event.TheVariants as event
use Rattle.rh_otp_model.specs.declared.output.Output.{Output}
use Rattle.rh_otp_model.specs.declared.output.Output.TheVariants as output
use Rattle.rh_otp_model.specs.declared.process.Process.{Process}
use Rattle.rh_otp_model.specs.declared.process.Role.TheVariants as role
use Rattle.rh_otp_model.specs.Own.{controls}
use Rattle.rh_otp_model.specs.Processes.{process_at}
use Rattle.rh_otp_model.specs.Rows.{keyfind, keydelete, without}
use Rattle.rh_otp_controller.specs.Calls.{is_here, ends_with, top_ends}
use Rattle.rh_otp_controller.specs.Changes.{received}
use Rattle.rh_otp_controller.specs.Sending.{send, reply, tell}
use Rattle.rh_otp_controller.specs.State.{TurnView}
use Rattle.rh_otp_dist.specs.State.{DistView, is_among}
use Rattle.rh_otp_net.specs.Links.{are_linked}
use Rattle.rh_otp_system.specs.declared.calls.Ask.TheVariants as ask
use Rattle.rh_otp_system.specs.declared.calls.Call.{Call}
use Rattle.rh_otp_system.specs.declared.slow.Answered.{Answered}
use Rattle.rh_otp_system.specs.Calls.{message_of, process_of}
use Rattle.rh_otp_system.specs.Delivering.{arrived}
use Rattle.rh_otp_system.specs.Doing.{call_of}
use Rattle.rh_otp_system.specs.State.{SystemView, node_at, own_at, is_alive_at}
use Rattle.rh_otp_orders.specs.Confluence.{IsOrderly}
use Rattle.rh_otp_crashes.proofs.Crash.{lives_of}
use Rattle.rh_otp_crashes.proofs.Peace.{without as without_messages}
use Rattle.rh_otp_stops.specs.Stops.{CanTell}
use Rattle.rh_otp_stops.proofs.Ending.{Knows}
use Rattle.rh_otp_stops.proofs.Saying.{it_ended, its_answer}
use Rattle.rh_otp_stops.proofs.Stop.{its_call, turn_at}
use Rattle.rh_otp_stops.proofs.Words.{IsNews, ends, answers, own_news, answer_of}
use Rattle.rh_otp_starts.specs.Starts.{FatalExitsEndAlike}
use Rattle.rh_otp_starts.proofs.Alone.{Waits, first_orderly, lost}
use Rattle.rh_otp_starts.proofs.Parting.{Parting, orderly}
use Rattle.rh_otp_starts.proofs.Saying.{Ends, IsLast, fresh, silent, replies, goes_exit}
use Rattle.rh_otp_starts.proofs.Start.{asked_so, asked_orderly, command_alike, last_orderly}
use Rattle.rh_otp_starts.proofs.Turns.{IsSaid, sends, stops, Turn, Behind, quiet_orderly, takes_turn}

-- ---- what its controller says

-- it says no more than an answer, or answers and tells its dist_ac
data Exits (c : Call) (t u : TurnView) : Type 0 where
  says : Ends t.here c u → Exits c t u
  ends_it : Turn t.here.node u (its_answer t.here c Done ∷ it_ended t.here c ∷ []) → Exits c t u

exits_so : (c : Call) (is_normal : Bool) (t : TurnView) → controls t.own c.app ≡ true
    → Exits c t (received (message.TopEnds c.app is_normal (process_of c)) (fresh t))
unfolding received top_ends
exits_so c is_normal t listed = ended t.state.is_ending
  where
    a : App
    a = c.app

    p : Process
    p = process_of c

    n : Node
    n = t.here.node

    e : Envelope
    e = its_answer t.here c Done

    g : Envelope
    g = it_ended t.here c

    seen : Output
    seen = output.Tell (event.Stopped a n)

    told : TurnView
    told = reply p Done (fresh t)

    gone : TurnView
    gone = tell (event.Stopped a t.here.node) (record told {
      state = record told.state { running = keydelete a told.state.running; ended = a ∷ without a told.state.ended };
    })

    last : Bool → TurnView
    last b = cond b (send (process_at t.here role.DistAc) (message.Stopped a) gone) gone

    over : TurnView → TurnView
    over u = record u { state = record u.state { is_ending = ends_with (keyfind a u.state.started) is_normal } }

    both : (b : Bool) → b ≡ true → Exits c t (over (last b))
    both false is = absurd (false≢true is)
    both true is = ends_it (record {
      said = All-cons (IsSaid n) (output.Send e) (seen ∷ output.Send g ∷ []) (sends e)
          (All-cons (IsSaid n) seen (output.Send g ∷ []) (stops a)
          (All-cons (IsSaid n) (output.Send g) [] (sends g) (All-nil (IsSaid n))));
      sent = refl;
    })

    runs : (b : Bool) → Exits c t (cond b (over (last (controls t.own a))) (reply p (Failed NotRunning) (fresh t)))
    runs true = both (controls t.own a) listed
    runs false = says (replies c (Failed NotRunning) t refl)

    ended : (b : Bool) → Exits c t (cond b (fresh t) (top_ends a is_normal p (fresh t)))
    ended true = says (silent c t)
    ended false = runs (is_here (keyfind a t.state.running))

-- ---- what is on its way then

parts : {lives : Node → ℕ} {c : Call} (s : SystemView) → Waits lives c true (answer_of lives c Done ∷ own_news lives c ∷ []) s
    → ((d : DistView) → (node_at s c.node).dist ≡ Some d → Knows (node_at s c.node).dist d)
    → ((d : DistView) → (node_at s c.node).dist ≡ Some d → (m : Node) → is_among m d.known ≡ true → is_alive_at s m ≡ true
    → (c.node.0 == m.0 || are_linked c.node m s.links) ≡ true)
    → Parting lives c true s
parts {lives} {c} s f knows sees = record {
  still = subst (λ (l : List Envelope). Waits lives c true l s) (sym f.messages) f;
  kinds = subst (All (IsNews lives c true)) (sym f.messages)
      (All-cons (IsNews lives c true) (answer_of lives c Done) (own_news lives c ∷ []) (answers Done refl)
      (All-cons (IsNews lives c true) (own_news lives c) [] (ends refl) (All-nil (IsNews lives c true))));
  knows = λ is. knows;
  sees = λ is. sees;
}

exit_orderly : {lives : Node → ℕ} {c : Call} (s : SystemView) → Waits lives c true (its_call c ∷ []) s → CanTell c.node s
    → Exits c (turn_at s c.node) (received (message_of c) (turn_at s c.node)) → IsOrderly s
exit_orderly {lives} {c} s f can exits = first_orderly e s f (by (cases_Bool (is_alive_at s n)) exits)
  where
    n : Node
    n = c.node

    e : Envelope
    e = its_call c

    t : TurnView
    t = turn_at s n

    u : TurnView
    u = received e.message t

    q : SystemView
    q = arrived e.to e.message (without_messages s [])

    behind : {more : List Envelope} → is_alive_at s n ≡ true → Turn n u more → Behind lives c u more q s
    behind alive turn = takes_turn c.life e.message s f (sym f.life) alive turn

    by : (is_alive_at s n ≡ true) ⊎ (is_alive_at s n ≡ false) → Exits c t u → IsOrderly q
    by (inl alive) (says over) =
        last_orderly q (behind alive over.turn).still
        (subst (λ (k : ℕ). IsLast (record { node = n; life = k }) c over.more) (f.same_lives n) over.last)
    by (inl alive) (ends_it turn) =
        let on : Behind lives c u (its_answer t.here c Done ∷ it_ended t.here c ∷ []) q s = behind alive turn in
        orderly q (parts q
        (subst (λ (k : ℕ). Waits lives c true (its_answer (record { node = n; life = k }) c Done ∷ it_ended
        (record { node = n; life = k }) c ∷ []) q)
        (f.same_lives n) on.still)
        (λ d has. record {
          takeovers = can.sees_all.takeovers d (sym on.dist ∙ has);
          ends = can.ends d (sym on.dist ∙ has);
          before = d;
          had = has;
          known = refl;
        })
        (λ d has m among up.
        ap (λ links. n.0 == m.0 || are_linked n m links) on.links
        ∙ can.sees_all.sees d (sym on.dist ∙ has) m among (sym (on.awake m) ∙ up)))
    by (inr dead) other = quiet_orderly q (lost e.to e.message s f dead)

-- ---- the law

pub fatal_exits_alike : FatalExitsEndAlike
fatal_exits_alike s n a is_normal reached rest can timed =
    command_alike (ask.Exit is_normal) s n a refl reached rest (λ soon. timed)
    (λ before f. by before f (cases_Bool (controls (own_at s n) a)))
  where
    c : Call
    c = call_of (ask.Exit is_normal) n a s

    can_tell : (before : List Answered) → CanTell n s → CanTell n (asked_so before c s)
    can_tell before tells = record {
      sees_all = record { takeovers = tells.sees_all.takeovers; sees = tells.sees_all.sees };
      ends = tells.ends;
    }

    by : (before : List Answered) → Waits (lives_of s) c true (its_call c ∷ []) (asked_so before c s)
        → (controls (own_at s n) a ≡ true) ⊎ (controls (own_at s n) a ≡ false) → IsOrderly (asked_so before c s)
    by before f (inl listed) =
        exit_orderly (asked_so before c s) f (can_tell before (can.tells listed)) (exits_so c is_normal (turn_at s n) listed)
    by before f (inr local) = asked_orderly (asked_so before c s) f (goes_exit c is_normal (turn_at s n) local)
