-- What other nodes are told behind a permission, and what their dist_acs do: they change themselves alone, and may tell their controllers.
use Rattle.std.proofs.Common.{◌≡◌, ◌≢◌, ℕ, zero, suc, Bool, true, false, not, cond, List, [], ◌∷◌, slice_get, slice_set, unwrap_or, Option, Some, None, refl, sym, ap, subst, ◌∙◌, inl, inr}
use Rattle.std.specs.Prelude.{All}
use Rattle.std.proofs.lemmas.Bool.{false≢true}
use Rattle.std.proofs.lemmas.List.Elements.{All-nil}
use Rattle.std.proofs.lemmas.Option.{none-some, same_Some}
use Rattle.rh_model.specs.ClusterView.{ClusterView}
use Rattle.rh_model.specs.declared.node.App.{App}
use Rattle.rh_model.specs.declared.node.Node.{Node}
use Rattle.rh_model.specs.declared.settings.Dep.{Dep}
use Rattle.rh_otp_model.specs.declared.message.Change.TheVariants as change_of
use Rattle.rh_otp_model.specs.declared.message.Message.{Message}
use Rattle.rh_otp_model.specs.declared.message.Message.TheVariants as message
use Rattle.rh_otp_model.specs.declared.output.Envelope.{Envelope}
use Rattle.rh_otp_model.specs.declared.process.Role.TheVariants as role
use Rattle.rh_otp_model.specs.declared.wait.OwnFile.{OwnFile}
use Rattle.rh_otp_model.specs.Flags.{flag}
use Rattle.rh_otp_model.specs.Own.{OwnView, controls}
use Rattle.rh_otp_model.specs.Processes.{process_at}
use Rattle.rh_otp_dist.specs.declared.attempt.AskedBy.TheVariants as asked
use Rattle.rh_otp_dist.specs.declared.outside.Need.TheVariants as need
use Rattle.rh_otp_dist.specs.declared.state.Stand.TheVariants as stand
use Rattle.rh_otp_dist.specs.Choosing.{start_appl}
use Rattle.rh_otp_dist.specs.Outside.{with_message, idle_need}
use Rattle.rh_otp_dist.specs.Received as mail
use Rattle.rh_otp_dist.specs.State.{DistView, TurnView, with_state, with_permission, may_run, is_among}
use Rattle.rh_otp_dist.specs.Told.{new_permission, app_stopped}
use Rattle.rh_otp_dist.specs.Waiting.{takes, is_go}
use Rattle.rh_otp_crashes.specs.Crashes.{IsUnoccupied}
use Rattle.rh_otp_crashes.proofs.Carrying.{IsPlain, letters}
use Rattle.rh_otp_crashes.proofs.Crossing.{for_controller}
use Rattle.rh_otp_crashes.proofs.Peace.{here_in}
use Rattle.rh_otp_crashes.proofs.Posting.{posted_to}
use Rattle.rh_otp_crashes.proofs.Turning.{Turned, own_in, turn, weighing, idle, none_on, idle_comes, waits_on, still_waits}
use Rattle.rh_otp_stops.proofs.Ending.{forgot}
use Rattle.rh_otp_permits.proofs.Noting.{noted}
use Rattle.rh_otp_begins.proofs.Hearing.{hears_any}
use Rattle.rh_otp_moves.proofs.Still.{Course}

-- ---- the messages

-- it is permitted, and may start at the call's node
abbrev pub Begins : Course → Type 0
Begins k = (k.allow ≡ true) × (k.starts ≡ true)

-- what the node's dist_ac tells another one: the permission; that the application has stopped, or that it runs there or couldn't start
pub data IsTold (k : Course) (m : Node) : Message → Type 0 where
  notes : is_among m k.listed ≡ true → IsTold k m (message.NewPermission k.call.node k.call.app k.allow (not k.allow))
  stops : k.allow ≡ false → IsTold k m (message.AppStopped k.call.app)
  starts : Begins k → (error : Option Dep) → IsTold k m (message.AppStarted k.call.node k.call.app error)

abbrev pub told_to : Course → Message → Node → Envelope
told_to k x m = posted_to k.lives k.call.node x m

-- that one tells its controller where it runs
abbrev pub learned : Course → Node → Envelope
learned k m =
    for_controller k.lives m (process_at (here_in k.lives m) role.DistAc) (message.Change k.call.app (change_of.Started k.call.node))

-- what is on its way to other nodes
pub data IsAbroad (k : Course) : Envelope → Type 0 where
  hears : (m : Node) (x : Message) → m.0 ≢ k.call.node.0 → IsTold k m x → IsAbroad k (told_to k x m)
  moves : (m : Node) → m.0 ≢ k.call.node.0 → Begins k → IsAbroad k (learned k m)

-- ---- who doesn't start it at the news of a forbid

-- a node of the list that has the application in its own `distributed` may not run it itself
abbrev pub IsTame : Course → OwnView → Node → DistView → Type 0
IsTame k own m d = k.allow ≡ false → is_among m k.listed ≡ true → d.stand ≡ stand.Idle → controls own k.call.app ≡ true
    → may_run d m k.call.app ≡ false

-- as far as it has a dist_ac
abbrev pub TameIn : Course → OwnView → Node → Option DistView → Type 0
TameIn k own m o = (d : DistView) → o ≡ Some d → IsTame k own m d

read_elsewhere : {A : Type 0} (l : List A) (i j : ℕ) (x : A) → j ≢ i → slice_get (slice_set l i x) j ≡ slice_get l j
read_elsewhere [] i j x other = refl
read_elsewhere (y ∷ l) zero zero x other = absurd (other refl)
read_elsewhere (y ∷ l) zero (suc j) x other = refl
read_elsewhere (y ∷ l) (suc i) zero x other = refl
read_elsewhere (y ∷ l) (suc i) (suc j) x other = read_elsewhere l i j x (λ same. other (ap suc same))

-- the permission of another node is nothing to its own
pub may_still : (d : DistView) (n m : Node) (a : App) (allow : Bool) → m.0 ≢ n.0
    → may_run (with_permission n a allow d) m a ≡ may_run d m a
may_still d n m a allow other =
    ap (λ (o : Option (List Bool)). flag (unwrap_or o []) a)
    (read_elsewhere d.may n.0 m.0 (slice_set (unwrap_or (slice_get d.may n.0) []) a.0 allow) other)

-- ---- what they do

-- what comes of it, and that it stays so
pub record Heard (k : Course) (c : ClusterView) (files : List OwnFile) (m : Node) (x : Message) (o : Option DistView) : Type 0 where
  pub turned : Turned (IsAbroad k) c files m (k.lives m) x o
  pub tame : TameIn k (own_in files m) m turned.next

heard_none : (k : Course) (c : ClusterView) (files : List OwnFile) (m : Node) (x : Message) → Heard k c files m x None
heard_none k c files m x = record {
  turned = record {
    next = None;
    outs = [];
    comes = λ s v there none same in_cluster in_files. none_on m x s v there none;
    plain = All-nil IsPlain;
    kinds = All-nil (IsAbroad k);
    rest = λ d is. absurd (none-some d is);
  };
  tame = λ d is. absurd (none-some d is);
}

heard_waiting : (k : Course) (c : ClusterView) (files : List OwnFile) (m : Node) (x : Message) (d : DistView) → IsUnoccupied d
    → d.stand ≡ stand.ForGo → is_go x ≡ false → IsTame k (own_in files m) m d → Heard k c files m x (Some d)
heard_waiting k c files m x d free is no_go tame = record {
  turned = record {
    next = Some (with_message x d);
    outs = [];
    comes = λ s v there has same in_cluster in_files. waits_on m x s v d there has free is no_go;
    plain = All-nil IsPlain;
    kinds = All-nil (IsAbroad k);
    rest = λ e is_next. subst IsUnoccupied (same_Some (with_message x d) e is_next) (still_waits x d free is no_go);
  };
  tame = λ e is_next. subst (IsTame k (own_in files m) m) (same_Some (with_message x d) e is_next) tame;
}

heard_idle : (k : Course) (c : ClusterView) (files : List OwnFile) (m : Node) (x : Message) (d : DistView) (over : TurnView)
    → IsUnoccupied d → d.stand ≡ stand.Idle → idle_need x (with_message x (idle d)) ≡ need.Nothing
    → ((w : ℕ) → mail.handled x (weighing w (turn c (own_in files m) m (k.lives m) d)) ≡ weighing w over)
    → All IsPlain over.out → All (IsAbroad k) (letters over.out) → IsUnoccupied over.state → IsTame k (own_in files m) m over.state
    → Heard k c files m x (Some d)
heard_idle k c files m x d over free is no_need closed plain kinds rest tame = record {
  turned = record {
    next = Some over.state;
    outs = over.out;
    comes = idle_comes c files m (k.lives m) x d over free is no_need closed;
    plain = plain;
    kinds = kinds;
    rest = λ e is_next. subst IsUnoccupied (same_Some over.state e is_next) rest;
  };
  tame = λ e is_next. subst (IsTame k (own_in files m) m) (same_Some over.state e is_next) tame;
}

-- it handles whatever comes next
pub idle_rest : (d e : DistView) → IsUnoccupied d → e.stand ≡ stand.Idle → e.mail ≡ [] → e.p_reqs ≡ d.p_reqs → e.parked ≡ d.parked
    → IsUnoccupied e
idle_rest d e free is none permits parked = record {
  stand = inl is;
  mail = subst (λ (l : List Message). All (λ (y : Message). takes e.stand y ≡ false) l) (sym none)
      (All-nil (λ (y : Message). takes e.stand y ≡ false));
  permits = permits ∙ free.permits;
  parked = parked ∙ free.parked;
}

-- the permission

pub notes_so : (n : Node) (a : App) (allow : Bool) (t : TurnView) → t.here.node.0 ≢ n.0
    → (allow ≡ false → controls t.own a ≡ true → may_run t.state t.here.node a ≡ false)
    → new_permission n a allow (not allow) t ≡ noted n a allow t
unfolding new_permission
notes_so n a true t other tame = refl
notes_so n a false t other tame = by (controls t.own a) (tame refl)
  where
    over : TurnView
    over = with_state (with_permission n a false t.state) t

    by : (b : Bool) → (b ≡ true → may_run t.state t.here.node a ≡ false)
        → cond (not b) t (cond (may_run over.state t.here.node a) (start_appl a asked.Nobody None over) over) ≡ cond (not b) t over
    by false may = refl
    by true may =
        ap (λ (b : Bool). cond b (start_appl a asked.Nobody None over) over) (may_still t.state n t.here.node a false other ∙ may refl)

notes_whatever : (n : Node) (a : App) (allow : Bool) (w : ℕ) (t : TurnView)
    → noted n a allow (weighing w t) ≡ weighing w (noted n a allow t)
notes_whatever n a allow w t = by (not (controls t.own a))
  where
    over : TurnView
    over = with_state (with_permission n a allow t.state) t

    by : (b : Bool) → cond b (weighing w t) (weighing w over) ≡ weighing w (cond b t over)
    by true = refl
    by false = refl

heard_note : (k : Course) (c : ClusterView) (files : List OwnFile) (m : Node) (d : DistView) → m.0 ≢ k.call.node.0
    → is_among m k.listed ≡ true → IsUnoccupied d → d.stand ≡ stand.Idle → IsTame k (own_in files m) m d
    → Heard k c files m (message.NewPermission k.call.node k.call.app k.allow (not k.allow)) (Some d)
heard_note k c files m d other among free is tame =
    heard_idle k c files m (message.NewPermission n a k.allow (not k.allow)) d (noted n a k.allow t) free is refl
    (λ w. notes_so n a k.allow (weighing w t) other (λ forbidden controlled. tame forbidden among is controlled)
    ∙ notes_whatever n a k.allow w t)
    (plain b) (kinds b) (rest b) (tame_on b)
  where
    n : Node
    n = k.call.node

    a : App
    a = k.call.app

    t : TurnView
    t = turn c (own_in files m) m (k.lives m) d

    over : TurnView
    over = with_state (with_permission n a k.allow t.state) t

    b : Bool
    b = not (controls t.own a)

    plain : (b : Bool) → All IsPlain (cond b t over).out
    plain true = All-nil IsPlain
    plain false = All-nil IsPlain

    kinds : (b : Bool) → All (IsAbroad k) (letters (cond b t over).out)
    kinds true = All-nil (IsAbroad k)
    kinds false = All-nil (IsAbroad k)

    rest : (b : Bool) → IsUnoccupied (cond b t over).state
    rest true = idle_rest d t.state free refl refl refl refl
    rest false = idle_rest d over.state free refl refl refl refl

    tame_on : (b : Bool) → IsTame k (own_in files m) m (cond b t over).state
    tame_on true forbidden among idle controlled = tame forbidden among is controlled
    tame_on false forbidden among idle controlled =
        may_still t.state n m a k.allow other ∙ tame forbidden among is controlled

-- that it has stopped

forgets_so : (a : App) (t : TurnView) → app_stopped a t ≡ forgot a t
unfolding app_stopped
forgets_so a t = refl

heard_stop : (k : Course) (c : ClusterView) (files : List OwnFile) (m : Node) (d : DistView) → IsUnoccupied d → d.stand ≡ stand.Idle
    → IsTame k (own_in files m) m d → Heard k c files m (message.AppStopped k.call.app) (Some d)
heard_stop k c files m d free is tame =
    let a : App = k.call.app in
    let t : TurnView = turn c (own_in files m) m (k.lives m) d in
    heard_idle k c files m (message.AppStopped a) d (forgot a t) free is refl (λ w. forgets_so a (weighing w t))
    (All-nil IsPlain) (All-nil (IsAbroad k)) (idle_rest d (forgot a t).state free refl refl refl refl)
    (λ forbidden among idle controlled. tame forbidden among is controlled)

-- whatever it is told

by_stand : (k : Course) (c : ClusterView) (files : List OwnFile) (m : Node) (x : Message) (d : DistView) → IsUnoccupied d
    → is_go x ≡ false → IsTame k (own_in files m) m d → (d.stand ≡ stand.Idle → Heard k c files m x (Some d))
    → Heard k c files m x (Some d)
by_stand k c files m x d free no_go tame handles =
    elim free.stand [ inl is ↦ handles is | inr is ↦ heard_waiting k c files m x d free is no_go tame ]

pub heard : (k : Course) (c : ClusterView) (files : List OwnFile) (m : Node) (x : Message) (o : Option DistView)
    → m.0 ≢ k.call.node.0 → IsTold k m x → ((d : DistView) → o ≡ Some d → IsUnoccupied d) → TameIn k (own_in files m) m o
    → Heard k c files m x o
heard k c files m _ None other (notes among) free tame =
    heard_none k c files m (message.NewPermission k.call.node k.call.app k.allow (not k.allow))
heard k c files m _ (Some d) other (notes among) free tame =
    by_stand k c files m (message.NewPermission k.call.node k.call.app k.allow (not k.allow)) d (free d refl) refl (tame d refl)
    (λ is. heard_note k c files m d other among (free d refl) is (tame d refl))
heard k c files m _ None other (stops forbidden) free tame = heard_none k c files m (message.AppStopped k.call.app)
heard k c files m _ (Some d) other (stops forbidden) free tame =
    by_stand k c files m (message.AppStopped k.call.app) d (free d refl) refl (tame d refl)
    (λ is. heard_stop k c files m d (free d refl) is (tame d refl))
heard k c files m _ o other (starts allowed error) free tame = record {
  turned = hears_any (IsAbroad k) c files m (k.lives m) k.call.app k.call.node error o (moves m other allowed) free;
  tame = λ d is forbidden. absurd (false≢true (sym forbidden ∙ allowed.0));
}
