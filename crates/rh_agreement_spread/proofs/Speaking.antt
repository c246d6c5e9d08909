-- What a controller does where an application is stopped or ends by itself, whether a dist_ac controls it or not.
use Rattle.std.proofs.Common.{◌≡◌, ◌≤◌, ◌+◌, ◌++◌, ◌||◌, ℕ, Bool, true, false, cond, List, [], ◌∷◌, Option, Some, None, refl, sym, ap, subst, ◌∙◌, arith}
use Rattle.std.specs.Prelude.{All}
use Rattle.std.proofs.lemmas.List.Elements.{All-nil, All-cons}
use Rattle.rh_model.specs.declared.node.App.{App}
use Rattle.rh_model.specs.declared.node.Node.{Node}
use Rattle.rh_otp_controller.specs.declared.state.Place.{Place}
use Rattle.rh_otp_controller.specs.declared.state.Place.TheVariants.{Here, At, Nowhere}
use Rattle.rh_otp_controller.specs.Calls.{is_here, ends_with, stop, top_ends}
use Rattle.rh_otp_controller.specs.Changes.{handled, received}
use Rattle.rh_otp_controller.specs.Sending.{send, reply, stop_appl}
use Rattle.rh_otp_controller.specs.State.{ControllerView, TurnView}
use Rattle.rh_otp_model.specs.declared.fault.Fault.TheVariants as fault
use Rattle.rh_otp_model.specs.declared.fault.Outcome.TheVariants as outcome
use Rattle.rh_otp_model.specs.declared.message.Message.{Message}
use Rattle.rh_otp_model.specs.declared.message.Message.TheVariants as message
use Rattle.rh_otp_model.specs.declared.output.Envelope.{Envelope}
use Rattle.rh_otp_model.specs.declared.output.Event.{Event}
use Rattle.rh_otp_model.specs.declared.output.Event.TheVariants as event
use Rattle.rh_otp_model.specs.declared.output.Output.{Output}
use Rattle.rh_otp_model.specs.declared.output.Output.TheVariants as output
use Rattle.rh_otp_model.specs.declared.process.Process.{Process}
use Rattle.rh_otp_model.specs.declared.process.Role.TheVariants as role
use Rattle.rh_otp_model.specs.Own.{controls}
use Rattle.rh_otp_model.specs.Processes.{process_at}
use Rattle.rh_otp_model.specs.Rows.{keyfind, keydelete, has_row, without}
use Rattle.rh_otp_node.specs.Live.{LiveView}
use Rattle.rh_otp_node.specs.Turns.{controller_turn, controlled_by}
use Rattle.rh_otp_system.specs.declared.calls.Call.{Call}
use Rattle.rh_otp_system.specs.Calls.{process_of}
use Rattle.rh_otp_system.specs.State.{SystemView, node_at, own_at}
use Rattle.rh_otp_crashes.proofs.Carrying.{letters}
use Rattle.rh_otp_crashes.proofs.Peace.{here_in}
use Rattle.rh_otp_stops.proofs.Saying.{IsWord, it_ended, its_answer, sights}
use Rattle.rh_otp_stops.proofs.Saying as saying
use Rattle.rh_agreement_spread.proofs.Following.{IsSaid, cost, owed}
use Rattle.rh_agreement_spread.proofs.Following as following
use Rattle.rh_agreement_spread.proofs.Summing.{sum_of}

-- each node's life
abbrev pub lives_in : SystemView → Node → ℕ
lives_in base k = (node_at base k).life

-- At a message the call's controller answers that all is well, and tells dist_ac, if that is to be told; an observer sees this, and the
-- node isn't on its way to its end.
pub record Speaks (base : SystemView) (c : Call) (told : Bool) (m : Message) (seen : List Event) : Type 0 where
  pub next : ControllerView
  pub out : List Output
  pub comes : controlled_by base.cluster (own_at base c.node) c.node m (node_at base c.node)
      ≡ (record (node_at base c.node) { controller = next }, out)
  pub stays : next.is_ending ≡ false
  pub words : All (IsWord (here_in (lives_in base) c.node) c told) out
  pub said : All (IsSaid (lives_in base) c told) (letters out)
  pub one : sum_of owed (letters out) ≡ 1
  pub few : (most : ℕ) → sum_of (cost most) (letters out) ≤ most + 2
  pub sees : sights out ≡ seen

module _ (base : SystemView) (c : Call) (told : Bool) (controlled : controls (own_at base c.node) c.app ≡ told)
    (stays : (node_at base c.node).controller.is_ending ≡ false) where
  abbrev n : Node
  n = c.node

  abbrev a : App
  a = c.app

  abbrev v : LiveView
  v = node_at base n

  abbrev caller : Process
  caller = process_of c

  abbrev turn : TurnView
  turn = controller_turn base.cluster (own_at base n) n v

  abbrev shows : Event
  shows = event.Stopped a n

  abbrev ended_letter : Envelope
  ended_letter = it_ended (here_in (lives_in base) n) c

  abbrev answer_letter : Envelope
  answer_letter = its_answer (here_in (lives_in base) n) c outcome.Done

  abbrev ended : Output
  ended = output.Send ended_letter

  abbrev answer : Output
  answer = output.Send answer_letter

  -- the turn ends so
  abbrev behind : ControllerView → List Output → TurnView
  behind k out = record turn { state = k; out = out }

  -- it handles what comes
  handles : (m : Message) → controlled_by base.cluster (own_at base n) n m v
      ≡ (record v { controller = (handled m turn).state }, (handled m turn).out)
  unfolding controlled_by received
  handles m = λ i.
      let t : TurnView = cond (stays i) turn (handled m turn) in
      (record v { controller = t.state }, t.out)

  abbrev IsOurs : Output → Type 0
  IsOurs = IsWord (here_in (lives_in base) n) c told

  abbrev IsOurLetter : Envelope → Type 0
  IsOurLetter = IsSaid (lives_in base) c told

  -- ---- a stop

  -- what is shown of it, where it runs here
  abbrev shown : Option Place → List Output
  shown (Some Here) = output.Tell shows ∷ []
  shown o = []

  abbrev pub seen_of : Option Place → List Event
  seen_of (Some Here) = shows ∷ []
  seen_of o = []

  abbrev stop_letters : Bool → List Output
  stop_letters b = cond b (ended ∷ answer ∷ []) (answer ∷ [])

  abbrev stop_left : ControllerView
  stop_left = record v.controller { running = keydelete a v.controller.running; started = keydelete a v.controller.started }

  appl_so : (o : Option Place) → stop_appl a o turn ≡ record turn { out = shown o }
  appl_so None = refl
  appl_so (Some Here) = refl
  appl_so (Some (At m)) = refl
  appl_so (Some Nowhere) = refl

  -- it isn't started there any more
  abbrev not_started : TurnView → TurnView
  not_started t = record t {
    state = record t.state { running = keydelete a t.state.running; started = keydelete a t.state.started };
  }

  abbrev stop_by : Bool → Bool → TurnView → TurnView
  stop_by known controls_it t =
      cond known (reply caller outcome.Done (cond controls_it (send (process_at t.here role.DistAc) (message.Stopped a) (not_started t))
      (not_started t)))
      (reply caller (outcome.Failed (fault.NotStarted a)) turn)

  out_so : (o : Option Place) (b : Bool) → stop_by true b (record turn { out = shown o }) ≡ behind stop_left (shown o ++ stop_letters b)
  out_so None true = refl
  out_so None false = refl
  out_so (Some Here) true = refl
  out_so (Some Here) false = refl
  out_so (Some (At m)) true = refl
  out_so (Some (At m)) false = refl
  out_so (Some Nowhere) true = refl
  out_so (Some Nowhere) false = refl

  stop_is : stop a caller turn
      ≡ stop_by (has_row a v.controller.running || has_row a v.controller.started)
      (controls (stop_appl a (keyfind a v.controller.running) turn).own a) (stop_appl a (keyfind a v.controller.running) turn)
  unfolding stop
  stop_is = refl

  module _ (o : Option Place) (is : keyfind a v.controller.running ≡ o)
      (known : (has_row a v.controller.running || has_row a v.controller.started) ≡ true) where
    abbrev stop_out : List Output
    stop_out = shown o ++ stop_letters told

    stop_so : stop a caller turn ≡ behind stop_left stop_out
    stop_so =
        stop_is
        ∙ ap (λ (t : TurnView). stop_by (has_row a v.controller.running || has_row a v.controller.started) (controls t.own a) t)
        (ap (λ (x : Option Place). stop_appl a x turn) is ∙ appl_so o)
        ∙ (λ i. stop_by (known i) (controlled i) (record turn { out = shown o }))
        ∙ out_so o told

    tell_words : (rest : List Output) → All IsOurs rest → All IsOurs (shown o ++ rest)
    tell_words rest all = by o
      where
        by : (x : Option Place) → All IsOurs (shown x ++ rest)
        by None = all
        by (Some Here) = All-cons IsOurs (output.Tell shows) rest saying.stops all
        by (Some (At m)) = all
        by (Some Nowhere) = all

    stop_words : (b : Bool) → told ≡ b → All IsOurs (stop_letters b)
    stop_words true so =
        All-cons IsOurs ended (answer ∷ []) (saying.ends so) (All-cons IsOurs answer [] (saying.answers outcome.Done refl) (All-nil IsOurs))
    stop_words false so = All-cons IsOurs answer [] (saying.answers outcome.Done refl) (All-nil IsOurs)

    -- nothing is sent by what is shown
    letters_so : (rest : List Output) → letters (shown o ++ rest) ≡ letters rest
    letters_so rest = by o
      where
        by : (x : Option Place) → letters (shown x ++ rest) ≡ letters rest
        by None = refl
        by (Some Here) = refl
        by (Some (At m)) = refl
        by (Some Nowhere) = refl

    stop_sees : (b : Bool) → sights (shown o ++ stop_letters b) ≡ seen_of o
    stop_sees b = by o b
      where
        by : (x : Option Place) (b : Bool) → sights (shown x ++ stop_letters b) ≡ seen_of x
        by None true = refl
        by None false = refl
        by (Some Here) true = refl
        by (Some Here) false = refl
        by (Some (At m)) true = refl
        by (Some (At m)) false = refl
        by (Some Nowhere) true = refl
        by (Some Nowhere) false = refl

    stop_said : (b : Bool) → told ≡ b → All IsOurLetter (letters (stop_letters b))
    stop_said true so =
        All-cons IsOurLetter ended_letter (answer_letter ∷ []) (following.ends so)
        (All-cons IsOurLetter answer_letter [] following.answers (All-nil IsOurLetter))
    stop_said false so = All-cons IsOurLetter answer_letter [] following.answers (All-nil IsOurLetter)

    stop_one : (b : Bool) → sum_of owed (letters (stop_letters b)) ≡ 1
    stop_one true = refl
    stop_one false = refl

    stop_few : (b : Bool) (most : ℕ) → sum_of (cost most) (letters (stop_letters b)) ≤ most + 2
    stop_few true most = omega arith
    stop_few false most = omega arith

    pub speaks_stop : Speaks base c told (message.Stop a caller) (seen_of o)
    speaks_stop = record {
      next = stop_left;
      out = stop_out;
      comes = handles (message.Stop a caller) ∙ ap (λ (t : TurnView). (record v { controller = t.state }, t.out)) stop_so;
      stays = stays;
      words = tell_words (stop_letters told) (stop_words told refl);
      said = subst (All IsOurLetter) (sym (letters_so (stop_letters told))) (stop_said told refl);
      one = ap (sum_of owed) (letters_so (stop_letters told)) ∙ stop_one told;
      few = λ most. subst (λ (l : List Envelope). sum_of (cost most) l ≤ most + 2) (sym (letters_so (stop_letters told)))
          (stop_few told most);
      sees = stop_sees told;
    }

  -- ---- it ends by itself

  module _ (normal : Bool) (runs : is_here (keyfind a v.controller.running) ≡ true)
      (keeps : ends_with (keyfind a v.controller.started) normal ≡ false) where
    abbrev exit_letters : Bool → List Output
    exit_letters b = answer ∷ output.Tell shows ∷ cond b (ended ∷ []) []

    abbrev exit_left : ControllerView
    exit_left = record v.controller {
      running = keydelete a v.controller.running;
      ended = a ∷ without a v.controller.ended;
      is_ending = ends_with (keyfind a v.controller.started) normal;
    }

    abbrev gone : TurnView
    gone = behind (record v.controller {
      running = keydelete a v.controller.running;
      ended = a ∷ without a v.controller.ended;
    }) (answer ∷ output.Tell shows ∷ [])

    abbrev ends_or_not : TurnView → TurnView
    ends_or_not t = record t { state = record t.state { is_ending = ends_with (keyfind a t.state.started) normal } }

    exit_by : (b : Bool) → ends_or_not (cond b (send (process_at turn.here role.DistAc) (message.Stopped a) gone) gone)
        ≡ behind exit_left (exit_letters b)
    exit_by true = refl
    exit_by false = refl

    exit_so : top_ends a normal caller turn ≡ behind exit_left (exit_letters told)
    unfolding top_ends
    exit_so =
        (λ i. cond (runs i) (ends_or_not (cond (controlled i) (send (process_at turn.here role.DistAc) (message.Stopped a) gone) gone))
        (reply caller (outcome.Failed fault.NotRunning) turn))
        ∙ exit_by told

    exit_words : (b : Bool) → told ≡ b → All IsOurs (exit_letters b)
    exit_words true so =
        All-cons IsOurs answer (output.Tell shows ∷ ended ∷ []) (saying.answers outcome.Done refl)
        (All-cons IsOurs (output.Tell shows) (ended ∷ []) saying.stops (All-cons IsOurs ended [] (saying.ends so) (All-nil IsOurs)))
    exit_words false so =
        All-cons IsOurs answer (output.Tell shows ∷ []) (saying.answers outcome.Done refl)
        (All-cons IsOurs (output.Tell shows) [] saying.stops (All-nil IsOurs))

    exit_said : (b : Bool) → told ≡ b → All IsOurLetter (letters (exit_letters b))
    exit_said true so =
        All-cons IsOurLetter answer_letter (ended_letter ∷ []) following.answers
        (All-cons IsOurLetter ended_letter [] (following.ends so) (All-nil IsOurLetter))
    exit_said false so = All-cons IsOurLetter answer_letter [] following.answers (All-nil IsOurLetter)

    exit_one : (b : Bool) → sum_of owed (letters (exit_letters b)) ≡ 1
    exit_one true = refl
    exit_one false = refl

    exit_few : (b : Bool) (most : ℕ) → sum_of (cost most) (letters (exit_letters b)) ≤ most + 2
    exit_few true most = omega arith
    exit_few false most = omega arith

    exit_sees : (b : Bool) → sights (exit_letters b) ≡ shows ∷ []
    exit_sees true = refl
    exit_sees false = refl

    pub speaks_exit : Speaks base c told (message.TopEnds a normal caller) (shows ∷ [])
    speaks_exit = record {
      next = exit_left;
      out = exit_letters told;
      comes = handles (message.TopEnds a normal caller) ∙ ap (λ (t : TurnView). (record v { controller = t.state }, t.out)) exit_so;
      stays = keeps;
      words = exit_words told refl;
      said = exit_said told refl;
      one = exit_one told;
      few = exit_few told;
      sees = exit_sees told;
    }
