-- Another node has started the application, or has failed to: all others that its dist_ac knows are told, and their controllers; the
-- dist_ac of the call's node answers the call, and its controller stops the application.
use Rattle.std.proofs.Common.{◌≡◌, ◌≢◌, ◌⊎◌, ◌++◌, ◌&&◌, ℕ, Bool, true, false, not, cond, List, [], ◌∷◌, Option, Some, None, refl, sym, ap, subst, ◌∙◌, inl, inr}
use Rattle.std.specs.Prelude.{All, filter}
use Rattle.std.proofs.lemmas.Bool.{cases_Bool}
use Rattle.std.proofs.lemmas.List.{append-nil}
use Rattle.std.proofs.lemmas.List.Elements.{All-nil, All-cons, All-append, filter-append}
use Rattle.std.proofs.lemmas.Option.{none-some, same_Some}
use Rattle.rh_model.specs.ClusterView.{ClusterView}
use Rattle.rh_model.specs.declared.node.App.{App}
use Rattle.rh_model.specs.declared.node.Node.{Node}
use Rattle.rh_model.specs.declared.settings.Dep.{Dep}
use Rattle.rh_otp_model.specs.declared.fault.Outcome.{Outcome}
use Rattle.rh_otp_model.specs.declared.fault.Outcome.TheVariants.{Done}
use Rattle.rh_otp_model.specs.declared.message.Change.TheVariants as change_of
use Rattle.rh_otp_model.specs.declared.message.Message.{Message}
use Rattle.rh_otp_model.specs.declared.message.Message.TheVariants as message
use Rattle.rh_otp_model.specs.declared.output.Envelope.{Envelope}
use Rattle.rh_otp_model.specs.declared.output.Event.{Event}
use Rattle.rh_otp_model.specs.declared.output.Event.TheVariants as event
use Rattle.rh_otp_model.specs.declared.output.Output.TheVariants as output
use Rattle.rh_otp_model.specs.declared.process.Process.{Process}
use Rattle.rh_otp_model.specs.declared.process.Role.TheVariants as role
use Rattle.rh_otp_model.specs.declared.wait.OwnFile.{OwnFile}
use Rattle.rh_otp_model.specs.Own.{controls}
use Rattle.rh_otp_model.specs.Processes.{process_at}
use Rattle.rh_otp_model.specs.Rows.{keydelete}
use Rattle.rh_otp_controller.specs.declared.state.Place.{Place}
use Rattle.rh_otp_controller.specs.declared.state.Place.TheVariants as place_of
use Rattle.rh_otp_controller.specs.State.{ControllerView}
use Rattle.rh_otp_dist.specs.declared.state.Stand.TheVariants as stand
use Rattle.rh_otp_dist.specs.Attempts.{has_app}
use Rattle.rh_otp_dist.specs.Sending.{answer}
use Rattle.rh_otp_dist.specs.State.{DistView, TurnView, with_standing}
use Rattle.rh_otp_dist.specs.Told.{add_remote, answer_permits, app_started, standing_at, started_elsewhere, with_waits}
use Rattle.rh_otp_dist.specs.Views.{PermitWaitView}
use Rattle.rh_otp_dist.specs.Outside.{with_message}
use Rattle.rh_otp_dist.specs.Waiting.{is_go, takes}
use Rattle.rh_otp_net.specs.declared.timers.Timer.{Timer}
use Rattle.rh_otp_node.specs.Live.{LiveView}
use Rattle.rh_otp_system.specs.declared.calls.Call.{Call}
use Rattle.rh_otp_system.specs.declared.calls.Stage.TheVariants as stage
use Rattle.rh_otp_system.specs.Calling.{is_known}
use Rattle.rh_otp_system.specs.Calls.{process_of}
use Rattle.rh_otp_system.specs.Delivering.{arrived}
use Rattle.rh_otp_system.specs.Moves.{Delivers}
use Rattle.rh_otp_system.specs.State.{SystemView, node_at, with_node, is_alive_at}
use Rattle.rh_otp_orders.specs.Orders.{LeavesAlone, SameOfEach, is_owner, node_told}
use Rattle.rh_otp_orders.proofs.Taking.{Taken}
use Rattle.rh_otp_crashes.specs.Crashes.{IsUnoccupied}
use Rattle.rh_otp_crashes.proofs.Carrying.{IsPlain, alarms, letters}
use Rattle.rh_otp_crashes.proofs.Crossing.{for_controller, for_dist, same_node}
use Rattle.rh_otp_crashes.proofs.Peace.{here_in, without, arrives_alive, arrives_dead, taken_all, turned_so}
use Rattle.rh_otp_crashes.proofs.Starting.{moved, moved_by, moves_so, runs_there_now, seen_by, stops_at}
use Rattle.rh_otp_crashes.proofs.Turning.{Changed, Turned, idle, none_on, own_in, still_waits, turn, waits_on, weighing}
use Rattle.rh_otp_stops.proofs.Answering.{answered_free}
use Rattle.rh_otp_stops.proofs.Stopping.{there_is}
use Rattle.rh_otp_starts.proofs.Parting.{message_comes}
use Rattle.rh_otp_starts.proofs.Saying.{same_app}
use Rattle.rh_otp_stops.proofs.Still.{Come}
use Rattle.rh_otp_permits.proofs.Noting.{answer_of, answered_then}
use Rattle.rh_otp_moves.specs.Moving.{NotesIt}
use Rattle.rh_otp_moves.proofs.Still.{lost_leaves}
use Rattle.rh_otp_moves.proofs.Others.{IsOther, noted_still, note_next, note_outs, note_turns, noting, start_next, start_tame, start_turns, told_start}
use Rattle.rh_otp_moves.proofs.Holding.{IsHeldUp, Stands, Holding, Wrote, awake, held_comes, holding_left, holding_on}

-- ---- the messages

abbrev pub learned : (Node → ℕ) → Call → Node → Node → Envelope
learned lives c m j =
    for_controller lives j (process_at (here_in lives j) role.DistAc) (message.Change c.app (change_of.Started m))

-- the call's node tells the others of the permission
abbrev pub note : Call → Message
note c = message.NewPermission c.node c.app false true

-- what another node's dist_ac is told: by the one that has started the application, or has failed to; or by the call's, of the permission
pub data IsHeard (lives : Node → ℕ) (c : Call) (m : Node) (told : List Node) (error : Option Dep) (j : Node) : Process → Message → Type 0
  where
    starts : j.0 ≢ m.0 → IsHeard lives c m told error j (process_at (here_in lives m) role.DistAc) (message.AppStarted m c.app error)
    notes : IsOther c m told j → IsHeard lives c m told error j (process_at (here_in lives c.node) role.DistAc) (note c)

pub data IsPassed (lives : Node → ℕ) (c : Call) (m : Node) (told : List Node) (error : Option Dep) : Envelope → Type 0 where
  hears : (j : Node) (from : Process) (x : Message) → IsHeard lives c m told error j from x
      → IsPassed lives c m told error (for_dist lives j from x)
  moves : (j : Node) → j.0 ≢ m.0 → IsPassed lives c m told error (learned lives c m j)
  answers : (o : Outcome) → is_known o ≡ false → IsPassed lives c m told error (answer_of lives c o)

-- all messages are such; the call's node is alive, and has the application in its own `distributed`
pub record Passing (lives : Node → ℕ) (c : Call) (m : Node) (told : List Node) (error : Option Dep) (s : SystemView) : Type 0 where
  pub hold : Holding lives c m told s
  pub kinds : All (IsPassed lives c m told error) s.messages
  pub listed : controls (own_in s.files c.node) c.app ≡ true
  pub alive : is_alive_at s c.node ≡ true

-- ---- a dist_ac hears of it

-- at the call's node: its controller is told, and the caller is answered
abbrev freed_over : App → Node → Option Dep → Process → TurnView → TurnView
freed_over a m error p t = record t {
  state = record (with_standing a (standing_at m error) t.state) { tmp_weights = keydelete a t.state.tmp_weights; p_reqs = [] };
  out = (t.out ++ output.Send (runs_there_now a m t) ∷ [])
      ++ output.Send (record { from = process_at t.here role.DistAc; to = p; message = message.Answer Done }) ∷ [];
}

frees_so : (a : App) (m : Node) (error : Option Dep) (p : Process) (w : PermitWaitView) (t : TurnView) → controls t.own a ≡ true
    → has_app a t.state.started ≡ true → t.state.p_reqs ≡ (a, w) ∷ [] → w.caller ≡ p → app_started m a error t ≡ freed_over a m error p t
unfolding app_started answer_permits
frees_so a m error p w t listed started rows caller =
    (λ i. cond (listed i && has_app a t.state.started) (started_elsewhere m a error t) (add_remote a m t))
    ∙ (λ i. cond (started i) (started_elsewhere m a error t) (add_remote a m t))
    ∙ (λ i. started_elsewhere m a error (record t { state = record t.state { p_reqs = rows i } }))
    ∙ ap (λ (b : Bool). with_waits (cond (not b) ((a, w) ∷ []) []) (cond b (answer w.caller Done told) told)) (same_app a)
    ∙ ap (λ (x : Process). with_waits [] (answer x Done told)) caller
  where
    told : TurnView
    told = record t {
      state = record (with_standing a (standing_at m error) t.state) {
        tmp_weights = keydelete a t.state.tmp_weights;
        p_reqs = (a, w) ∷ [];
      };
      out = t.out ++ output.Send (runs_there_now a m t) ∷ [];
    }

held_turned : {lives : Node → ℕ} {c : Call} {m : Node} {told : List Node} {error : Option Dep} (s : SystemView) (d : DistView)
    → Passing lives c m told error s
    → m.0 ≢ c.node.0
    → (node_at s c.node).dist ≡ Some d → IsHeldUp c d
    → Turned (IsPassed lives c m told error) s.cluster s.files c.node (lives c.node) (message.AppStarted m c.app error)
    (node_at s c.node).dist
held_turned {lives} {c} {m} {told} {error} s d f other had held =
    let n : Node = c.node in
    let a : App = c.app in
    let p : Process = process_of c in
    let K : Envelope → Type 0 = IsPassed lives c m told error in
    let t : TurnView = turn s.cluster (own_in s.files n) n (lives n) d in
    let over : TurnView = freed_over a m error p t in
    let e : Envelope = learned lives c m n in
    let y : Envelope = answer_of lives c Done in
    record {
      next = Some over.state;
      outs = over.out;
      comes = λ q v there has same in_cluster in_files.
          held_comes n (message.AppStarted m a error) d over (lives n) s q v held.idle held.mail refl
          (λ w. frees_so a m error p held.wait (weighing w t) f.listed held.started held.rows held.caller) there (has ∙ had) same in_cluster
          in_files;
      plain = All-cons IsPlain (output.Send e) (output.Send y ∷ []) tt (All-cons IsPlain (output.Send y) [] tt (All-nil IsPlain));
      kinds = All-cons K e (y ∷ []) (moves n (λ one. other (sym one))) (All-cons K y [] (answers Done refl) (All-nil K));
      rest = λ x is. subst IsUnoccupied (same_Some over.state x is) (record {
        stand = inl refl;
        mail = All-nil (λ (z : Message). takes stand.Idle z ≡ false);
        permits = refl;
        parked = held.parked;
      });
    }

-- what it does, and that those that take no part go on so
pub record Heard (lives : Node → ℕ) (c : Call) (m : Node) (told : List Node) (error : Option Dep) (s : SystemView) (j : Node) (x : Message)
    (o : Option DistView) : Type 0 where
  pub turned : Turned (IsPassed lives c m told error) s.cluster s.files j (lives j) x o
  pub tame : IsOther c m told j → (d : DistView) → turned.next ≡ Some d → NotesIt (own_in s.files j) j c.app d

heard_none : {lives : Node → ℕ} {c : Call} {m : Node} {told : List Node} {error : Option Dep} (s : SystemView) (j : Node) (x : Message)
    → Heard lives c m told error s j x None
heard_none {lives} {c} {m} {told} {error} s j x = record {
  turned = record {
    next = None;
    outs = [];
    comes = λ q v there none same in_cluster in_files. none_on j x q v there none;
    plain = All-nil IsPlain;
    kinds = All-nil (IsPassed lives c m told error);
    rest = λ d is. absurd (none-some d is);
  };
  tame = λ other d is. absurd (none-some d is);
}

-- it keeps what comes
heard_waiting : {lives : Node → ℕ} {c : Call} {m : Node} {told : List Node} {error : Option Dep} (s : SystemView) (j : Node) (x : Message)
    (d : DistView) → IsUnoccupied d → d.stand ≡ stand.ForGo → is_go x ≡ false
    → (IsOther c m told j → NotesIt (own_in s.files j) j c.app d) → Heard lives c m told error s j x (Some d)
heard_waiting {lives} {c} {m} {told} {error} s j x d free is no_go tame = record {
  turned = record {
    next = Some (with_message x d);
    outs = [];
    comes = λ q v there has same in_cluster in_files. waits_on j x q v d there has free is no_go;
    plain = All-nil IsPlain;
    kinds = All-nil (IsPassed lives c m told error);
    rest = λ y same. subst IsUnoccupied (same_Some (with_message x d) y same) (still_waits x d free is no_go);
  };
  tame = λ other y same. subst (NotesIt (own_in s.files j) j c.app) (same_Some (with_message x d) y same)
      (record { idle = (tame other).idle; may_not = (tame other).may_not });
}

-- it is told of the start
heard_start : {lives : Node → ℕ} {c : Call} {m : Node} {told : List Node} {error : Option Dep} (s : SystemView) (j : Node) (d : DistView)
    → j.0 ≢ m.0 → IsUnoccupied d → (IsOther c m told j → NotesIt (own_in s.files j) j c.app d)
    → Heard lives c m told error s j (message.AppStarted m c.app error) (Some d)
heard_start {lives} {c} {m} {told} {error} s j d apart free tame =
    let K : Envelope → Type 0 = IsPassed lives c m told error in
    let over : DistView = (told_start c.app m error (turn s.cluster (own_in s.files j) j (lives j) d)).state in
    elim free.stand [
      | inl is ↦ record {
        turned = start_turns K s.cluster s.files j (lives j) c.app m error d (moves j apart) free is;
        tame = λ other y same. subst (NotesIt (own_in s.files j) j c.app)
            (same_Some over y (sym (start_next K s.cluster s.files j (lives j) c.app m error d (moves j apart) free is) ∙ same))
            (start_tame s.cluster (own_in s.files j) j (lives j) c.app m error d (tame other));
      }
      | inr is ↦ heard_waiting s j (message.AppStarted m c.app error) d free is refl tame
    ]

-- It is told of the permission, and sends nothing.
abbrev pub IsQuiet : (Node → ℕ) → Call → Node → List Node → Option Dep → SystemView → Node → Option DistView → Type 0
IsQuiet lives c m told error s j o = (h : Heard lives c m told error s j (note c) o) × (h.turned.outs ≡ [])

quiet_none : {lives : Node → ℕ} {c : Call} {m : Node} {told : List Node} {error : Option Dep} (s : SystemView) (j : Node)
    → IsQuiet lives c m told error s j None
unfolding heard_none
quiet_none {c = c} s j = (heard_none s j (note c), refl)

quiet_note : {lives : Node → ℕ} {c : Call} {m : Node} {told : List Node} {error : Option Dep} (s : SystemView) (j : Node) (d : DistView)
    → IsOther c m told j → IsUnoccupied d → NotesIt (own_in s.files j) j c.app d → IsQuiet lives c m told error s j (Some d)
quiet_note {lives} {c} {m} {told} {error} s j d other free so =
    let K : Envelope → Type 0 = IsPassed lives c m told error in
    let over : DistView = noting (own_in s.files j) c.node c.app (idle d) in (
      record {
        turned = note_turns K s.cluster s.files j (lives j) c.node c.app d other.1 free so;
        tame = λ _ y same. subst (NotesIt (own_in s.files j) j c.app)
            (same_Some over y (sym (note_next K s.cluster s.files j (lives j) c.node c.app d other.1 free so) ∙ same))
            (noted_still (own_in s.files j) c.node j c.app (idle d) other.1 (record { idle = refl; may_not = so.may_not }));
      },
      note_outs K s.cluster s.files j (lives j) c.node c.app d other.1 free so,
    )

pub noted_at : {lives : Node → ℕ} {c : Call} {m : Node} {told : List Node} {error : Option Dep} (s : SystemView) (j : Node)
    → Holding lives c m told s → IsOther c m told j → is_alive_at s j ≡ true → IsQuiet lives c m told error s j (node_at s j).dist
noted_at {lives} {c} {m} {told} {error} s j f other alive = by (node_at s j).dist refl
  where
    stands : (d : DistView) → (node_at s j).dist ≡ Some d → Stands c j d → IsQuiet lives c m told error s j (node_at s j).dist
    stands d has (inl free) =
        subst (IsQuiet lives c m told error s j) (sym has) (quiet_note s j d other free (f.tame j d other alive has))
    stands d has (inr held) = absurd (other.1 held.0)

    by : (o : Option DistView) → (node_at s j).dist ≡ o → IsQuiet lives c m told error s j (node_at s j).dist
    by None has = subst (IsQuiet lives c m told error s j) (sym has) (quiet_none s j)
    by (Some d) has = stands d has (f.dists j d alive has)

pub heard_at : {lives : Node → ℕ} {c : Call} {m : Node} {told : List Node} {error : Option Dep} (s : SystemView) (j : Node) (from : Process)
    (x : Message) → Passing lives c m told error s → IsHeard lives c m told error j from x → is_alive_at s j ≡ true
    → Heard lives c m told error s j x (node_at s j).dist
heard_at {lives} {c} {m} {told} {error} s j _ _ f (starts other) alive = by (node_at s j).dist refl
  where
    x : Message
    x = message.AppStarted m c.app error

    stands : (d : DistView) → (node_at s j).dist ≡ Some d → Stands c j d → Heard lives c m told error s j x (node_at s j).dist
    stands d has (inl free) =
        subst (Heard lives c m told error s j x) (sym has) (heard_start s j d other free (λ told. f.hold.tame j d told alive has))
    stands d has (inr held) =
        let one : c.node ≡ j = same_node c.node j (sym held.0) in
        subst (λ (i : Node). Heard lives c m told error s i x (node_at s i).dist) one
        (record {
          turned = held_turned s d f (λ same. other (held.0 ∙ sym same)) (ap (λ (i : Node). (node_at s i).dist) one ∙ has) held.1;
          tame = λ told. absurd (told.1 refl);
        })

    by : (o : Option DistView) → (node_at s j).dist ≡ o → Heard lives c m told error s j x (node_at s j).dist
    by None has = subst (Heard lives c m told error s j x) (sym has) (heard_none s j x)
    by (Some d) has = stands d has (f.hold.dists j d alive has)
heard_at s j _ _ f (notes other) alive = (noted_at s j f.hold other alive).0

-- ---- a controller learns of it

unfoldable pub changes_at : (k : ClusterView) (files : List OwnFile) (j : Node) (a : App) (m : Node)
    → Changed k files j (message.Change a (change_of.Started m))
changes_at k files j a m = record {
  next = moved_by a m;
  seen = seen_by j a;
  comes = λ s v there in_cluster in_files. moves_so j a m s v there;
  ending = λ x. by x x.is_ending refl;
}
  where
    by : (x : ControllerView) (b : Bool) → x.is_ending ≡ b → (moved_by a m x).is_ending ≡ x.is_ending
    by x true is = ap (λ (b : Bool). (cond b x (moved a m x)).is_ending) is
    by x false is = ap (λ (b : Bool). (cond b x (moved a m x)).is_ending) is

-- what an observer sees of it is of that node, and the answer of none
pub swapped : (j : Node) (a : App) (number : ℕ) (o : Option Place) (b end : Bool) (xs : List Event)
    → SameOfEach node_told ((xs ++ cond end [] (stops_at j a o b)) ++ event.Answered number ∷ [])
    ((xs ++ event.Answered number ∷ []) ++ cond end [] (stops_at j a o b))
swapped j a number o b end xs owner = by end o b
  where
    p : Event → Bool
    p x = is_owner owner (node_told x)

    y : Event
    y = event.Answered number

    none : filter p ((xs ++ []) ++ y ∷ []) ≡ filter p ((xs ++ y ∷ []) ++ [])
    none = (λ i. filter p (append-nil xs i ++ y ∷ [])) ∙ (λ i. filter p (sym (append-nil (xs ++ y ∷ [])) i))

    x : Event
    x = event.Stopped a j

    apart : (filter p (x ∷ []) ≡ []) ⊎ (filter p (y ∷ []) ≡ [])
    apart = of_one owner
      where
        of_one : (w : Option Node) → (filter (λ (z : Event). is_owner w (node_told z)) (x ∷ []) ≡ [])
            ⊎ (filter (λ (z : Event). is_owner w (node_told z)) (y ∷ []) ≡ [])
        of_one None = inl refl
        of_one (Some i) = inr refl

    either : (filter p (x ∷ []) ≡ []) ⊎ (filter p (y ∷ []) ≡ [])
        → (filter p xs ++ filter p (x ∷ [])) ++ filter p (y ∷ []) ≡ (filter p xs ++ filter p (y ∷ [])) ++ filter p (x ∷ [])
    either (inl gone) =
        (λ i. (filter p xs ++ gone i) ++ filter p (y ∷ [])) ∙ ap (λ (l : List Event). l ++ filter p (y ∷ [])) (append-nil (filter p xs))
        ∙ sym (append-nil (filter p xs ++ filter p (y ∷ []))) ∙ (λ i. (filter p xs ++ filter p (y ∷ [])) ++ sym gone i)
    either (inr gone) =
        (λ i. (filter p xs ++ filter p (x ∷ [])) ++ gone i) ∙ append-nil (filter p xs ++ filter p (x ∷ []))
        ∙ ap (λ (l : List Event). l ++ filter p (x ∷ [])) (sym (append-nil (filter p xs)))
        ∙ (λ i. (filter p xs ++ sym gone i) ++ filter p (x ∷ []))

    one : filter p ((xs ++ x ∷ []) ++ y ∷ []) ≡ filter p ((xs ++ y ∷ []) ++ x ∷ [])
    one =
        filter-append p (xs ++ x ∷ []) (y ∷ []) ∙ ap (λ (l : List Event). l ++ filter p (y ∷ [])) (filter-append p xs (x ∷ []))
        ∙ either apart
        ∙ sym (filter-append p (xs ++ y ∷ []) (x ∷ [])
        ∙ ap (λ (l : List Event). l ++ filter p (x ∷ [])) (filter-append p xs (y ∷ [])))

    by : (e : Bool) (w : Option Place) (h : Bool)
        → filter p ((xs ++ cond e [] (stops_at j a w h)) ++ y ∷ []) ≡ filter p ((xs ++ y ∷ []) ++ cond e [] (stops_at j a w h))
    by true w h = none
    by false None h = none
    by false (Some place_of.Here) true = one
    by false (Some place_of.Here) false = none
    by false (Some (place_of.At i)) h = none
    by false (Some place_of.Nowhere) h = none

-- ---- each comes

-- it leaves alone what nodes share
pub record CameOn (lives : Node → ℕ) (c : Call) (m : Node) (told : List Node) (error : Option Dep) (s t : SystemView) : Type 0 where
  pub passing : Passing lives c m told error t
  pub leaves : (n : Node) → LeavesAlone n s t

came_lost : {lives : Node → ℕ} {c : Call} {m : Node} {told : List Node} {error : Option Dep} (s t : SystemView) (left : List Envelope)
    → Passing lives c m told error s → All (IsPassed lives c m told error) left → t ≡ without s left → CameOn lives c m told error s t
came_lost {lives} {c} {m} {told} {error} s t left f rest same = record {
  passing = subst (Passing lives c m told error) (sym same)
      (record { hold = holding_left s left f.hold; kinds = rest; listed = f.listed; alive = f.alive });
  leaves = λ n. lost_leaves n s t left same;
}

came_wrote : {lives : Node → ℕ} {c : Call} {m : Node} {told : List Node} {error : Option Dep} (j : Node) (s t : SystemView)
    (left more : List Envelope)
    (timers : List Timer) (events : List Event) (new : LiveView) → Passing lives c m told error s → All (IsPassed lives c m told error) left
    → All (IsPassed lives c m told error) more
    → Wrote c m told j (without s left) new
    → t ≡ record (with_node j new (without s left)) { messages = left ++ more; timers = timers; events = events }
    → CameOn lives c m told error s t
came_wrote {lives} {c} {m} {told} {error} j s t left more timers events new f rest kinds w is = record {
  passing = record {
    hold = holding_on j (left ++ more) timers events new (without s left) t (holding_left s left f.hold) w is;
    kinds = subst (All (IsPassed lives c m told error)) (sym (ap (λ (x : SystemView). x.messages) is))
        (All-append (IsPassed lives c m told error) left more rest kinds);
    listed = ap (λ (x : SystemView). controls (own_in x.files c.node) c.app) is ∙ f.listed;
    alive = ap (λ (x : SystemView). is_alive_at x c.node) is ∙ awake (without s left) c.node w ∙ f.alive;
  };
  leaves = λ n. subst (LeavesAlone n s) (sym is)
      (record { links = refl; locks = refl; alive = λ i. awake (without s left) i w; answers = λ i app. inl refl });
}

pub heard_on : {lives : Node → ℕ} {c : Call} {m : Node} {told : List Node} {error : Option Dep} (s : SystemView) (j : Node) (from : Process)
    (x : Message) (left : List Envelope) → Passing lives c m told error s → IsHeard lives c m told error j from x
    → Taken (for_dist lives j from x) s.messages left
    → CameOn lives c m told error s (arrived (process_at (here_in lives j) role.DistAc) x (without s left))
heard_on {lives} {c} {m} {told} {error} s j from x left f said taken = by (cases_Bool (is_alive_at s j))
  where
    to : Process
    to = process_at (here_in lives j) role.DistAc

    q : SystemView
    q = without s left

    rest : All (IsPassed lives c m told error) left
    rest = (taken_all (IsPassed lives c m told error) (for_dist lives j from x) s.messages left taken f.kinds).1

    by : (is_alive_at s j ≡ true) ⊎ (is_alive_at s j ≡ false) → CameOn lives c m told error s (arrived to x q)
    by (inl alive) =
        let h = heard_at s j from x f said alive in
        let d = h.turned in
        let old : LiveView = node_at s j in
        came_wrote j s _ left (letters d.outs) (s.timers ++ alarms s.clock s.step to d.outs) s.events (record old { dist = d.next }) f rest
        d.kinds
        (record {
          there = there_is s j alive;
          life = refl;
          phase = refl;
          ending = λ apart. refl;
          stopped = λ apart. refl;
          rest = λ y has. inl (d.rest y has);
          tame = h.tame;
        })
        (arrives_alive to x q alive (f.hold.same_lives j)
        ∙ turned_so j x s q old old.dist d (there_is s j alive) refl (f.hold.same_lives j) refl refl)
    by (inr dead) = came_lost s _ left f rest (arrives_dead to x q dead)

pub learned_on : {lives : Node → ℕ} {c : Call} {m : Node} {told : List Node} {error : Option Dep} (s : SystemView) (j : Node)
    (left : List Envelope)
    → Passing lives c m told error s → Taken (learned lives c m j) s.messages left
    → CameOn lives c m told error s (arrived (learned lives c m j).to (learned lives c m j).message (without s left))
learned_on {lives} {c} {m} {told} {error} s j left f taken = by (cases_Bool (is_alive_at s j))
  where
    e : Envelope
    e = learned lives c m j

    q : SystemView
    q = without s left

    rest : All (IsPassed lives c m told error) left
    rest = (taken_all (IsPassed lives c m told error) e s.messages left taken f.kinds).1

    by : (is_alive_at s j ≡ true) ⊎ (is_alive_at s j ≡ false) → CameOn lives c m told error s (arrived e.to e.message q)
    by (inl alive) =
        let ch : Changed s.cluster s.files j e.message = changes_at s.cluster s.files j c.app m in
        let old : LiveView = node_at s j in
        let new : LiveView = record old { controller = ch.next old.controller } in
        came_wrote j s _ left [] s.timers (s.events ++ ch.seen old.controller) new f rest (All-nil (IsPassed lives c m told error))
        (record {
          there = there_is s j alive;
          life = refl;
          phase = refl;
          ending = λ apart. ch.ending old.controller;
          stopped = λ apart. refl;
          rest = λ x has. f.hold.dists j x alive has;
          tame = λ other x has. f.hold.tame j x other alive has;
        })
        (arrives_alive e.to e.message q alive (f.hold.same_lives j) ∙ ch.comes q old (there_is s j alive) refl refl
        ∙ (λ i. record (with_node j new q) {
          messages = sym (append-nil left) i;
          timers = s.timers;
          events = s.events ++ ch.seen old.controller;
        }))
    by (inr dead) = came_lost s _ left f rest (arrives_dead e.to e.message q dead)

pub frees_call : {lives : Node → ℕ} {c : Call} {m : Node} {told : List Node} (s : SystemView) (o : Outcome) → Holding lives c m told s
    → is_alive_at s c.node ≡ true
    → is_known o ≡ false → arrived (process_of c) (message.Answer o) s ≡ answered_then c o s
frees_call {c = c} s o f alive known = answered_free c f.stage o s f.calls known alive (f.same_lives c.node ∙ sym f.life)

passing_comes : {lives : Node → ℕ} {c : Call} {m : Node} {told : List Node} {error : Option Dep} (s : SystemView) (e : Envelope)
    (left : List Envelope)
    → Passing lives c m told error s
    → Taken e s.messages left → IsPassed lives c m told error e → Passing lives c m told error (arrived e.to e.message (without s left))
passing_comes s _ left f taken (hears j from x said) = (heard_on s j from x left f said taken).passing
passing_comes s _ left f taken (moves j other) = (learned_on s j left f taken).passing
passing_comes {lives} {c} {m} {told} {error} s _ left f taken (answers o known) =
    subst (Passing lives c m told error) (sym (frees_call (without s left) o (holding_left s left f.hold) f.alive known)) (record {
      hold = record {
        slow = f.hold.slow;
        soon = f.hold.soon;
        dists = f.hold.dists;
        ends = f.hold.ends;
        among = f.hold.among;
        same_lives = f.hold.same_lives;
        stage = stage.Done o;
        calls = refl;
        waits = λ call q. refl;
        life = f.hold.life;
        tame = f.hold.tame;
      };
      kinds = (taken_all (IsPassed lives c m told error) (answer_of lives c o) s.messages left taken f.kinds).1;
      listed = f.listed;
      alive = f.alive;
    })

pub passing_goes_on : {lives : Node → ℕ} {c : Call} {m : Node} {told : List Node} {error : Option Dep} (s t : SystemView)
    → Passing lives c m told error s
    → (s.messages ≡ [] → ⊥)
    → Delivers s t → Passing lives c m told error t
passing_goes_on {lives} {c} {m} {told} {error} s t f some one =
    let come : Come s t = message_comes s t some one in
    let kind : IsPassed lives c m told error come.message =
    (taken_all (IsPassed lives c m told error) come.message s.messages come.left come.taken f.kinds).0 in
    subst (Passing lives c m told error) (sym come.is) (passing_comes s come.message come.left f come.taken kind)
