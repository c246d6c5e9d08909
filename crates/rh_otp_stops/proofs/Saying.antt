-- What a controller says where an application is stopped, or ends by itself: an observer sees it stop, dist_ac is told, and the caller is
-- answered.
use Rattle.std.proofs.Common.{◌≡◌, ◌++◌, ◌&&◌, ◌||◌, Bool, true, false, cond, List, [], ◌∷◌, Option, Some, None, refl, sym, ap, subst, ◌∙◌}
use Rattle.std.specs.Prelude.{All}
use Rattle.std.proofs.lemmas.Bool.{false≢true}
use Rattle.std.proofs.lemmas.List.{append_assoc, append-nil}
use Rattle.std.proofs.lemmas.List.Elements.{All-nil, All-cons, All-head, All-tail, All-append}
use Rattle.rh_model.specs.declared.node.Node.{Node}
use Rattle.rh_model.specs.declared.settings.Restart.{Restart}
use Rattle.rh_otp_model.specs.declared.fault.Fault.TheVariants.{NotStarted, NotRunning}
use Rattle.rh_otp_model.specs.declared.fault.Outcome.{Outcome}
use Rattle.rh_otp_model.specs.declared.fault.Outcome.TheVariants.{Done, Failed}
use Rattle.rh_otp_model.specs.declared.message.Message.TheVariants as message
use Rattle.rh_otp_model.specs.declared.output.Envelope.{Envelope}
use Rattle.rh_otp_model.specs.declared.output.Event.{Event}
use Rattle.rh_otp_model.specs.declared.output.Event.TheVariants as event
use Rattle.rh_otp_model.specs.declared.output.Output.{Output}
use Rattle.rh_otp_model.specs.declared.output.Output.TheVariants as output
use Rattle.rh_otp_model.specs.declared.process.Here.{Here}
use Rattle.rh_otp_model.specs.declared.process.Role.TheVariants as role
use Rattle.rh_otp_model.specs.Own.{OwnView, controls}
use Rattle.rh_otp_model.specs.Processes.{process_at}
use Rattle.rh_otp_model.specs.Rows.{keyfind, keydelete, has_row, without}
use Rattle.rh_otp_controller.specs.declared.state.Place.{Place}
use Rattle.rh_otp_controller.specs.declared.state.Place.TheVariants as place_of
use Rattle.rh_otp_controller.specs.Calls.{stop, permit, update_permissions, permit_idle, permit_distributed, top_ends, is_here, ends_with}
use Rattle.rh_otp_controller.specs.Changes.{received}
use Rattle.rh_otp_controller.specs.Sending.{control, reply, stop_appl, tell}
use Rattle.rh_otp_controller.specs.State.{ControllerView, TurnView}
use Rattle.rh_otp_system.specs.declared.calls.Call.{Call}
use Rattle.rh_otp_system.specs.Calling.{is_known}
use Rattle.rh_otp_system.specs.Calls.{process_of}
use Rattle.rh_otp_system.specs.Outputs.{all_carried_out}
use Rattle.rh_otp_system.specs.Sending.{told}
use Rattle.rh_otp_system.specs.State.{SystemView}
use Rattle.rh_otp_crashes.proofs.Carrying.{letters}
use Rattle.rh_otp_stops.specs.Stops.{KeepsNode}

-- ---- its words

-- it has ended, as dist_ac is told
abbrev pub it_ended : Here → Call → Envelope
it_ended h c = record { from = process_at h role.Controller; to = process_at h role.DistAc; message = message.Stopped c.app }

-- the answer to the caller
abbrev pub its_answer : Here → Call → Outcome → Envelope
its_answer h c o = record { from = process_at h role.Controller; to = process_of c; message = message.Answer o }

-- it shows that it stops, answers, and where dist_ac is to be told (`tells`), tells it
pub data IsWord (h : Here) (c : Call) (tells : Bool) : Output → Type 0 where
  stops : IsWord h c tells (output.Tell (event.Stopped c.app h.node))
  ends : tells ≡ true → IsWord h c tells (output.Send (it_ended h c))
  answers : (o : Outcome) → is_known o ≡ false → IsWord h c tells (output.Send (its_answer h c o))

-- is dist_ac told? Where it controls the application.
abbrev pub is_told : Call → TurnView → Bool
is_told c t = controls t.own c.app

-- a turn in which it says no more than that, and doesn't end
pub record Says (c : Call) (t u : TurnView) : Type 0 where
  pub words : All (IsWord u.here c (is_told c t)) u.out
  pub here : u.here ≡ t.here
  pub own : u.own ≡ t.own
  pub ending : u.state.is_ending ≡ t.state.is_ending

nothing : (c : Call) (t : TurnView) → t.out ≡ [] → Says c t t
nothing c t none = record {
  words = subst (All (IsWord t.here c (is_told c t))) (sym none) (All-nil (IsWord t.here c (is_told c t)));
  here = refl;
  own = refl;
  ending = refl;
}

more : {c : Call} {t : TurnView} (u : TurnView) (o : Output) → IsWord u.here c (is_told c t) o → Says c t u
    → Says c t (record u { out = u.out ++ o ∷ [] })
more {c} {t} u o word said =
    let P : Output → Type 0 = IsWord u.here c (is_told c t) in
    record {
      words = All-append P u.out (o ∷ []) said.words (All-cons P o [] word (All-nil P));
      here = said.here;
      own = said.own;
      ending = said.ending;
    }

becomes : {c : Call} {t : TurnView} (u : TurnView) (x : ControllerView) → x.is_ending ≡ u.state.is_ending → Says c t u
    → Says c t (record u { state = x })
becomes u x same said = record { words = said.words; here = said.here; own = said.own; ending = same ∙ said.ending }

replies : {c : Call} {t : TurnView} (u : TurnView) (o : Outcome) → is_known o ≡ false → Says c t u → Says c t (reply (process_of c) o u)
replies {c} u o known said = more u (output.Send (its_answer u.here c o)) (answers o known) said

-- dist_ac is told where it controls the application
controls_it : {c : Call} {t : TurnView} (u : TurnView) → Says c t u → Says c t (control c.app (message.Stopped c.app) u)
controls_it {c} {t} u said = by (is_told c u) (ap (λ (own : OwnView). controls own c.app) (sym said.own))
  where
    by : (b : Bool) → is_told c t ≡ b → Says c t (cond b (record u { out = u.out ++ output.Send (it_ended u.here c) ∷ [] }) u)
    by true is = more u (output.Send (it_ended u.here c)) (ends is) said
    by false is = said

state_controlled : (c : Call) (u : TurnView) → (control c.app (message.Stopped c.app) u).state ≡ u.state
state_controlled c u = by (controls u.own c.app)
  where
    by : (b : Bool) → (cond b (record u { out = u.out ++ output.Send (it_ended u.here c) ∷ [] }) u).state ≡ u.state
    by true = refl
    by false = refl

-- what runs here stops
stops_it : {c : Call} {t : TurnView} (u : TurnView) (o : Option Place) → Says c t u → Says c t (stop_appl c.app o u)
stops_it u None said = said
stops_it {c} u (Some place_of.Here) said = more u (output.Tell (event.Stopped c.app u.here.node)) stops said
stops_it u (Some (place_of.At n)) said = said
stops_it u (Some place_of.Nowhere) said = said

-- ---- at a stop

pub says_stop : (c : Call) (t : TurnView) → t.out ≡ [] → Says c t (received (message.Stop c.app (process_of c)) t)
unfolding received stop
says_stop c t none = ended t.state.is_ending
  where
    silent : Says c t t
    silent = nothing c t none

    gone : TurnView
    gone = stop_appl c.app (keyfind c.app t.state.running) t

    left : ControllerView
    left = record gone.state { running = keydelete c.app gone.state.running; started = keydelete c.app gone.state.started }

    by : (b : Bool) → Says c t (cond b (reply (process_of c) Done (control c.app (message.Stopped c.app) (record gone { state = left })))
        (reply (process_of c) (Failed (NotStarted c.app)) t))
    by true =
        replies (control c.app (message.Stopped c.app) (record gone { state = left })) Done refl
        (controls_it (record gone { state = left }) (becomes gone left refl (stops_it t (keyfind c.app t.state.running) silent)))
    by false = replies t (Failed (NotStarted c.app)) refl silent

    ended : (b : Bool) → Says c t (cond b t (stop c.app (process_of c) t))
    ended true = silent
    ended false = by (has_row c.app t.state.running || has_row c.app t.state.started)

-- ---- where it is forbidden, and dist_ac doesn't control it

pub says_forbid : (c : Call) (t : TurnView) → t.out ≡ [] → is_told c t ≡ false
    → Says c t (received (message.Permit c.app false (process_of c)) t)
unfolding received permit
says_forbid c t none local = ended t.state.is_ending
  where
    silent : Says c t t
    silent = nothing c t none

    noted : TurnView
    noted = update_permissions c.app false t

    gone : TurnView
    gone = stop_appl c.app (keyfind c.app t.state.running) t

    left : ControllerView
    left = record gone.state { running = keydelete c.app gone.state.running }

    idle : (o : Option (Option Restart)) → Says c t (permit_idle c.app false (process_of c) o noted)
    idle (Some restart) = replies noted Done refl (becomes t noted.state refl silent)
    idle None =
        replies (record noted { state = record noted.state { start_p_false = keydelete c.app noted.state.start_p_false } }) Done refl
        (becomes t (record noted.state { start_p_false = keydelete c.app noted.state.start_p_false }) refl silent)

    by : (b : Bool) → Says c t (cond b (reply (process_of c) Done (record gone { state = left }))
        (permit_idle c.app false (process_of c) (keyfind c.app t.state.started) noted))
    by true = replies (record gone { state = left }) Done refl (becomes gone left refl (stops_it t (keyfind c.app t.state.running) silent))
    by false = idle (keyfind c.app t.state.started)

    here : (b : Bool) → b ≡ false → Says c t (cond b (permit_distributed c.app false (process_of c) t)
        (cond (has_row c.app t.state.running) (reply (process_of c) Done (record gone { state = left }))
        (permit_idle c.app false (process_of c) (keyfind c.app t.state.started) noted)))
    here true is = absurd (false≢true (sym is))
    here false is = by (has_row c.app t.state.running)

    ended : (b : Bool) → Says c t (cond b t (permit c.app false (process_of c) t))
    ended true = silent
    ended false = here (is_told c t) local

-- ---- where it ends by itself

pub says_exit : (c : Call) (is_normal : Bool) (t : TurnView) → t.out ≡ [] → KeepsNode c.app is_normal t.state
    → Says c t (received (message.TopEnds c.app is_normal (process_of c)) t)
unfolding received top_ends
says_exit c is_normal t none keeps = ended t.state.is_ending refl
  where
    silent : Says c t t
    silent = nothing c t none

    answered : TurnView
    answered = reply (process_of c) Done t

    gone : TurnView
    gone = tell (event.Stopped c.app t.here.node) (record answered {
      state = record answered.state {
        running = keydelete c.app answered.state.running;
        ended = c.app ∷ without c.app answered.state.ended;
      };
    })

    last : TurnView
    last = control c.app (message.Stopped c.app) gone

    over : ControllerView
    over = record last.state { is_ending = ends_with (keyfind c.app last.state.started) is_normal }

    told_so : Says c t gone
    told_so = more (record answered { state = gone.state }) (output.Tell (event.Stopped c.app t.here.node)) stops
        (becomes answered gone.state refl (replies t Done refl silent))

    same : t.state.is_ending ≡ false → ends_with (keyfind c.app t.state.started) is_normal ≡ false → over.is_ending ≡ last.state.is_ending
    same not_ending kept =
        ap (λ (x : ControllerView). ends_with (keyfind c.app x.started) is_normal) (state_controlled c gone) ∙ kept
        ∙ sym (ap (λ (x : ControllerView). x.is_ending) (state_controlled c gone) ∙ not_ending)

    by : t.state.is_ending ≡ false → (b : Bool) → (b && ends_with (keyfind c.app t.state.started) is_normal) ≡ false
        → Says c t (cond b (record last { state = over }) (reply (process_of c) (Failed NotRunning) t))
    by not_ending true kept = becomes last over (same not_ending kept) (controls_it gone told_so)
    by not_ending false kept = replies t (Failed NotRunning) refl silent

    ended : (b : Bool) → t.state.is_ending ≡ b → Says c t (cond b t (top_ends c.app is_normal (process_of c) t))
    ended true is = silent
    ended false is = by is (is_here (keyfind c.app t.state.running)) keeps

-- ---- carried out

-- what an observer sees of it
abbrev pub sights : List Output → List Event
sights [] = []
sights (output.Tell e ∷ outs) = e ∷ sights outs
sights (o ∷ outs) = sights outs

-- it only sends, and an observer sees something
abbrev CarriedOut : Node → List Output → Type 0
CarriedOut n outs =
    (s : SystemView) → all_carried_out n outs s ≡ record s { messages = s.messages ++ letters outs; events = s.events ++ sights outs }

pub carries_words : (h : Here) (c : Call) (tells : Bool) (outs : List Output) (s : SystemView) → All (IsWord h c tells) outs
    → all_carried_out h.node outs s ≡ record s { messages = s.messages ++ letters outs; events = s.events ++ sights outs }
unfolding told
carries_words h c tells [] s words = λ i. record s { messages = sym (append-nil s.messages) i; events = sym (append-nil s.events) i }
carries_words h c tells (o ∷ outs) s words =
    by o (All-head (IsWord h c tells) o outs words) (λ q. carries_words h c tells outs q (All-tail (IsWord h c tells) o outs words))
  where
    sends : (e : Envelope)
        → CarriedOut h.node outs
        → all_carried_out h.node (output.Send e ∷ outs) s
        ≡ record s { messages = s.messages ++ e ∷ letters outs; events = s.events ++ sights outs }
    sends e rest =
        rest (record s { messages = s.messages ++ e ∷ [] })
        ∙ (λ i. record s { messages = append_assoc s.messages (e ∷ []) (letters outs) i; events = s.events ++ sights outs })

    by : (x : Output) → IsWord h c tells x
        → CarriedOut h.node outs
        → all_carried_out h.node (x ∷ outs) s
        ≡ record s { messages = s.messages ++ letters (x ∷ outs); events = s.events ++ sights (x ∷ outs) }
    by _ stops rest =
        rest (record s { events = s.events ++ event.Stopped c.app h.node ∷ [] })
        ∙ (λ i. record s {
          messages = s.messages ++ letters outs;
          events = append_assoc s.events (event.Stopped c.app h.node ∷ []) (sights outs) i;
        })
    by _ (ends is) rest = sends (it_ended h c) rest
    by _ (answers o known) rest = sends (its_answer h c o) rest

-- what is so of both messages is so of all that are sent
pub words_sent : (P : Envelope → Type 0) (h : Here) (c : Call) (tells : Bool) (outs : List Output) → (tells ≡ true → P (it_ended h c))
    → ((o : Outcome) → is_known o ≡ false → P (its_answer h c o)) → All (IsWord h c tells) outs → All P (letters outs)
words_sent P h c tells [] end answer words = All-nil P
words_sent P h c tells (o ∷ outs) end answer words =
    by o (All-head (IsWord h c tells) o outs words) (words_sent P h c tells outs end answer (All-tail (IsWord h c tells) o outs words))
  where
    by : (x : Output) → IsWord h c tells x → All P (letters outs) → All P (letters (x ∷ outs))
    by _ stops rest = rest
    by _ (ends is) rest = All-cons P (it_ended h c) (letters outs) (end is) rest
    by _ (answers o known) rest = All-cons P (its_answer h c o) (letters outs) (answer o known) rest
