-- Behind a permission that its dist_ac has set: each other one of the application's list notes it, and the caller is answered.
use Rattle.std.proofs.Common.{◌≡◌, ◌≢◌, ◌⊎◌, ◌&&◌, ℕ, Bool, true, false, not, cond, List, [], ◌∷◌, Option, Some, None, refl, sym, subst, ◌∙◌, inl, inr}
use Rattle.std.specs.Prelude.{All}
use Rattle.std.proofs.lemmas.Bool.{cases_Bool, false≢true}
use Rattle.std.proofs.lemmas.List.Elements.{All-nil}
use Rattle.rh_model.specs.ClusterView.{ClusterView}
use Rattle.rh_model.specs.declared.node.App.{App}
use Rattle.rh_model.specs.declared.node.Node.{Node}
use Rattle.rh_otp_model.specs.declared.fault.Outcome.{Outcome}
use Rattle.rh_otp_model.specs.declared.message.Message.{Message}
use Rattle.rh_otp_model.specs.declared.message.Message.TheVariants as message
use Rattle.rh_otp_model.specs.declared.output.Envelope.{Envelope}
use Rattle.rh_otp_model.specs.declared.output.Requester.TheVariants.{Alone}
use Rattle.rh_otp_model.specs.declared.process.Role.TheVariants as role
use Rattle.rh_otp_model.specs.declared.wait.OwnFile.{OwnFile}
use Rattle.rh_otp_model.specs.Own.{controls}
use Rattle.rh_otp_model.specs.Processes.{process_at}
use Rattle.rh_otp_dist.specs.declared.state.Stand.TheVariants as stand
use Rattle.rh_otp_dist.specs.State.{DistView, TurnView, with_state, with_permission}
use Rattle.rh_otp_dist.specs.Told.{new_permission}
use Rattle.rh_otp_dist.specs.Waiting.{takes}
use Rattle.rh_otp_net.specs.Locks.{freed}
use Rattle.rh_otp_system.specs.declared.calls.Call.{Call}
use Rattle.rh_otp_system.specs.declared.calls.Stage.{Stage}
use Rattle.rh_otp_system.specs.declared.calls.Stage.TheVariants as stage
use Rattle.rh_otp_system.specs.Calling.{is_known}
use Rattle.rh_otp_system.specs.Calls.{process_of}
use Rattle.rh_otp_system.specs.Delivering.{arrived}
use Rattle.rh_otp_system.specs.Moves.{Delivers}
use Rattle.rh_otp_system.specs.State.{SystemView, node_at, is_alive_at}
use Rattle.rh_otp_system.specs.Working.{mailed}
use Rattle.rh_otp_orders.specs.Orders.{LeavesAlone}
use Rattle.rh_otp_orders.proofs.Taking.{Taken}
use Rattle.rh_otp_crashes.specs.Crashes.{IsUnoccupied}
use Rattle.rh_otp_crashes.proofs.Carrying.{IsPlain, letters}
use Rattle.rh_otp_crashes.proofs.Peace.{AtPeace, AtEase, Acted, here_in, without, arrives_alive, arrives_dead, peace_left, taken_all}
use Rattle.rh_otp_crashes.proofs.Posting.{posted_to}
use Rattle.rh_otp_crashes.proofs.Turning.{Turned, own_in, turn, weighing, has_none, has_waiting, has_idle}
use Rattle.rh_otp_stops.proofs.Answering.{at_stage, CannotGoOn, cannot_call, answered_in, answered_free}
use Rattle.rh_otp_stops.proofs.Still.{Come, uncalled, only_come, peace_acted, acted_leaves}
use Rattle.rh_otp_stops.proofs.Stopping.{told_acts}

-- ---- at another node

-- what it notes
abbrev pub noted : Node → App → Bool → TurnView → TurnView
noted n a allow t = cond (not (controls t.own a)) t (with_state (with_permission n a allow t.state) t)

pub notes_so : (n : Node) (a : App) (allow his : Bool) (t : TurnView) → (not allow && his) ≡ false
    → new_permission n a allow his t ≡ noted n a allow t
unfolding new_permission
notes_so n a true his t quiet = refl
notes_so n a false false t quiet = refl
notes_so n a false true t quiet = absurd (false≢true (sym quiet))

pub notes_whatever : (n : Node) (a : App) (allow : Bool) (w : ℕ) (t : TurnView)
    → noted n a allow (weighing w t) ≡ weighing w (noted n a allow t)
notes_whatever n a allow w t = by (not (controls t.own a))
  where
    over : TurnView
    over = with_state (with_permission n a allow t.state) t

    by : (b : Bool) → cond b (weighing w t) (weighing w over) ≡ weighing w (cond b t over)
    by true = refl
    by false = refl

pub hears_of : (K : Envelope → Type 0) (c : ClusterView) (files : List OwnFile) (m : Node) (life : ℕ) (n : Node) (a : App)
    (allow his : Bool)
    (o : Option DistView) → (not allow && his) ≡ false → ((d : DistView) → o ≡ Some d → IsUnoccupied d)
    → Turned K c files m life (message.NewPermission n a allow his) o
hears_of K c files m life n a allow his None quiet free = has_none K c files m life (message.NewPermission n a allow his)
hears_of K c files m life n a allow his (Some d) quiet free = by (free d refl).stand
  where
    x : Message
    x = message.NewPermission n a allow his

    t : TurnView
    t = turn c (own_in files m) m life d

    over : TurnView
    over = with_state (with_permission n a allow t.state) t

    so : (e : DistView) → e.stand ≡ stand.Idle → e.mail ≡ [] → e.p_reqs ≡ [] → e.parked ≡ [] → IsUnoccupied e
    so e is none permits parked = record {
      stand = inl is;
      mail = subst (λ (l : List Message). All (λ (y : Message). takes e.stand y ≡ false) l) (sym none)
          (All-nil (λ (y : Message). takes e.stand y ≡ false));
      permits = permits;
      parked = parked;
    }

    plain : (b : Bool) → All IsPlain (cond b t over).out
    plain true = All-nil IsPlain
    plain false = All-nil IsPlain

    kinds : (b : Bool) → All K (letters (cond b t over).out)
    kinds true = All-nil K
    kinds false = All-nil K

    rest : (b : Bool) → IsUnoccupied (cond b t over).state
    rest true = so t.state refl refl (free d refl).permits (free d refl).parked
    rest false = so over.state refl refl (free d refl).permits (free d refl).parked

    by : (d.stand ≡ stand.Idle) ⊎ (d.stand ≡ stand.ForGo) → Turned K c files m life x (Some d)
    by (inl is) =
        has_idle K c files m life x d (noted n a allow t) (free d refl) is refl
        (λ w. notes_so n a allow his (weighing w t) quiet ∙ notes_whatever n a allow w t)
        (plain (not (controls t.own a))) (kinds (not (controls t.own a))) (rest (not (controls t.own a)))
    by (inr is) = has_waiting K c files m life x d (free d refl) is refl

-- ---- the messages

-- the caller is answered by the dist_ac
abbrev pub answer_of : (Node → ℕ) → Call → Outcome → Envelope
answer_of lives c o = record { from = process_at (here_in lives c.node) role.DistAc; to = process_of c; message = message.Answer o }

-- what it tells another one; `his`: it runs the application itself
abbrev pub note : (Node → ℕ) → Call → Bool → Bool → Node → Envelope
note lives c allow his m = posted_to lives c.node (message.NewPermission c.node c.app allow his) m

-- all messages are such
pub data IsNote (lives : Node → ℕ) (c : Call) (allow his : Bool) : Envelope → Type 0 where
  answers : (o : Outcome) → is_known o ≡ false → IsNote lives c allow his (answer_of lives c o)
  tells : (m : Node) → m.0 ≢ c.node.0 → IsNote lives c allow his (note lives c allow his m)

-- There is the one call, which can't go on by itself, and nothing starts by the permission.
pub record Noting (lives : Node → ℕ) (c : Call) (allow his : Bool) (s : SystemView) : Type 0 where
  pub peace : AtPeace AtEase (IsNote lives c allow his) lives (uncalled s)
  pub quiet : (not allow && his) ≡ false
  pub stage : Stage
  pub calls : s.calls ≡ at_stage c stage ∷ []
  pub waits : CannotGoOn stage
  pub life : c.life ≡ lives c.node

pub noting_left : {lives : Node → ℕ} {c : Call} {allow his : Bool} (s : SystemView) (e : Envelope) (left : List Envelope)
    → Noting lives c allow his s → Taken e s.messages left → Noting lives c allow his (without s left)
noting_left {lives} {c} {allow} {his} s e left f taken = record {
  peace = peace_left (uncalled s) left f.peace (taken_all (IsNote lives c allow his) e s.messages left taken f.peace.messages).1;
  quiet = f.quiet;
  stage = f.stage;
  calls = f.calls;
  waits = f.waits;
  life = f.life;
}

pub come_of : {lives : Node → ℕ} {c : Call} {allow his : Bool} (s t : SystemView) → Noting lives c allow his s → Delivers s t → Come s t
come_of {c = c} s t f one = only_come s t f.peace (cannot_call c f.stage s f.waits f.calls) one

-- ---- what each message comes to

-- another node's dist_ac is told
pub hears : {lives : Node → ℕ} {c : Call} {allow his : Bool} (m : Node) (s : SystemView) → Noting lives c allow his s
    → is_alive_at s m ≡ true
    → Turned (IsNote lives c allow his) s.cluster s.files m (lives m) (message.NewPermission c.node c.app allow his) (node_at s m).dist
hears {lives} {c} {allow} {his} m s f alive =
    hears_of (IsNote lives c allow his) s.cluster s.files m (lives m) c.node c.app allow his (node_at s m).dist f.quiet
    (λ d has. f.peace.dists m d alive has)

-- it has come, and leaves alone what nodes share
pub record CameOn (lives : Node → ℕ) (c : Call) (allow his : Bool) (s t : SystemView) : Type 0 where
  pub still : Noting lives c allow his t
  pub leaves : (n : Node) → LeavesAlone n s t

is_lost : {lives : Node → ℕ} {c : Call} {allow his : Bool} (s t : SystemView) (left : List Envelope)
    → Noting lives c allow his (without s left)
    → t ≡ without s left → CameOn lives c allow his s t
is_lost {lives} {c} {allow} {his} s t left f same = record {
  still = subst (Noting lives c allow his) (sym same) f;
  leaves = λ n. subst (LeavesAlone n s) (sym same) (record { links = refl; locks = refl; alive = λ k. refl; answers = λ k app. inl refl });
}

pub noting_on : {lives : Node → ℕ} {c : Call} {allow his : Bool} (m : Node) (s t : SystemView) → Noting lives c allow his s
    → Acted AtEase (IsNote lives c allow his) m s t → Noting lives c allow his t
noting_on {lives} {c} {allow} {his} m s t f acted =
    subst (Noting lives c allow his) (sym acted.is) (record {
      peace = subst (λ (x : SystemView). AtPeace AtEase (IsNote lives c allow his) lives (uncalled x)) acted.is
          (peace_acted m s t f.peace acted);
      quiet = f.quiet;
      stage = f.stage;
      calls = f.calls;
      waits = f.waits;
      life = f.life;
    })

-- the news
pub told_on : {lives : Node → ℕ} {c : Call} {allow his : Bool} (m : Node) (s : SystemView) (left : List Envelope)
    → Noting lives c allow his s → Taken (note lives c allow his m) s.messages left
    → CameOn lives c allow his s (arrived (note lives c allow his m).to (note lives c allow his m).message (without s left))
told_on {lives} {c} {allow} {his} m s left f taken = by (cases_Bool (is_alive_at s m))
  where
    e : Envelope
    e = note lives c allow his m

    q : SystemView
    q = without s left

    g : Noting lives c allow his q
    g = noting_left s e left f taken

    by : (is_alive_at s m ≡ true) ⊎ (is_alive_at s m ≡ false) → CameOn lives c allow his s (arrived e.to e.message q)
    by (inl alive) =
        let acted : Acted AtEase (IsNote lives c allow his) m q (mailed m e.message q) =
        told_acts m e.message q g.peace.same_lives alive (hears m q g alive) in
        rw (arrives_alive e.to e.message q alive (g.peace.same_lives m))
        (record {
          still = noting_on m q (mailed m e.message q) g acted;
          leaves = λ n. acted_leaves n m s (mailed m e.message q) left
              acted;
        })
    by (inr dead) = is_lost s _ left g (arrives_dead e.to e.message q dead)

-- the answer, where its node is down
pub lost_on : {lives : Node → ℕ} {c : Call} {allow his : Bool} (o : Outcome) (s : SystemView) (left : List Envelope)
    → Noting lives c allow his s → Taken (answer_of lives c o) s.messages left → is_alive_at s c.node ≡ false
    → CameOn lives c allow his s (arrived (process_of c) (message.Answer o) (without s left))
lost_on {lives} {c} {allow} {his} o s left f taken dead =
    is_lost s _ left (noting_left s (answer_of lives c o) left f taken)
    (arrives_dead (process_of c) (message.Answer o) (without s left) dead)

-- and where it is up: its lock is free again
abbrev pub answered_then : Call → Outcome → SystemView → SystemView
answered_then c o s = record (answered_in c o s) { locks = freed (Alone (process_of c)) (process_of c) s.locks }

answer_on : {lives : Node → ℕ} {c : Call} {allow his : Bool} (o : Outcome) (s : SystemView) (left : List Envelope)
    → Noting lives c allow his (without s left) → Noting lives c allow his (answered_then c o (without s left))
answer_on {lives} {c} {allow} {his} o s left f = record {
  peace = record {
    messages = f.peace.messages;
    slow = f.peace.slow;
    calls = refl;
    calm = f.peace.calm;
    dists = f.peace.dists;
    ends = f.peace.ends;
    listed = f.peace.listed;
    same_lives = f.peace.same_lives;
  };
  quiet = f.quiet;
  stage = stage.Done o;
  calls = refl;
  waits = λ call q. refl;
  life = f.life;
}

pub came_on : {lives : Node → ℕ} {c : Call} {allow his : Bool} (s : SystemView) (e : Envelope) (left : List Envelope)
    → Noting lives c allow his s → Taken e s.messages left → IsNote lives c allow his e
    → Noting lives c allow his (arrived e.to e.message (without s left))
came_on {lives} {c} {allow} {his} s _ left f taken (answers o known) = by (cases_Bool (is_alive_at s c.node))
  where
    g : Noting lives c allow his (without s left)
    g = noting_left s (answer_of lives c o) left f taken

    by : (is_alive_at s c.node ≡ true) ⊎ (is_alive_at s c.node ≡ false)
        → Noting lives c allow his (arrived (process_of c) (message.Answer o) (without s left))
    by (inl alive) =
        subst (Noting lives c allow his)
        (sym (answered_free c g.stage o (without s left) g.calls known alive (g.peace.same_lives c.node ∙ sym g.life)))
        (answer_on o s left g)
    by (inr dead) = (lost_on o s left f taken dead).still
came_on s _ left f taken (tells m other) = (told_on m s left f taken).still

pub goes_on : {lives : Node → ℕ} {c : Call} {allow his : Bool} (s t : SystemView) → Noting lives c allow his s → Delivers s t
    → Noting lives c allow his t
goes_on {lives} {c} {allow} {his} s t f one =
    let come : Come s t = come_of s t f one in
    let kind : IsNote lives c allow his come.message =
    (taken_all (IsNote lives c allow his) come.message s.messages come.left come.taken f.peace.messages).0 in
    subst (Noting lives c allow his) (sym come.is) (came_on s come.message come.left f come.taken kind)
