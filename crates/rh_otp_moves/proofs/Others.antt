-- What the dist_acs of other nodes do that are told of a forbid and take no part in it, and that are told of the start at another node, or
-- of its failure: at one dist_ac both come to the same, whichever is first.
use Rattle.std.proofs.Common.{◌≡◌, ◌≢◌, ◌++◌, ◌&&◌, ℕ, Bool, true, false, not, cond, List, [], ◌∷◌, Option, Some, None, refl, sym, ap, subst, ◌∙◌}
use Rattle.std.specs.Prelude.{All}
use Rattle.std.proofs.lemmas.List.{append-nil}
use Rattle.std.proofs.lemmas.List.Elements.{All-nil, All-cons}
use Rattle.std.proofs.lemmas.Option.{none-some, same_Some}
use Rattle.rh_model.specs.ClusterView.{ClusterView}
use Rattle.rh_model.specs.declared.node.App.{App}
use Rattle.rh_model.specs.declared.node.Node.{Node}
use Rattle.rh_model.specs.declared.settings.Dep.{Dep}
use Rattle.rh_otp_model.specs.declared.message.Change.TheVariants as change_of
use Rattle.rh_otp_model.specs.declared.message.Message.{Message}
use Rattle.rh_otp_model.specs.declared.message.Message.TheVariants as message
use Rattle.rh_otp_model.specs.declared.output.Envelope.{Envelope}
use Rattle.rh_otp_model.specs.declared.output.Output.{Output}
use Rattle.rh_otp_model.specs.declared.output.Output.TheVariants as output
use Rattle.rh_otp_model.specs.declared.process.Process.{Process}
use Rattle.rh_otp_model.specs.declared.process.Role.TheVariants as role
use Rattle.rh_otp_model.specs.declared.wait.OwnFile.{OwnFile}
use Rattle.rh_otp_model.specs.Own.{OwnView, controls}
use Rattle.rh_otp_model.specs.Processes.{process_at}
use Rattle.rh_otp_model.specs.Rows.{keydelete, without_rows}
use Rattle.rh_otp_dist.specs.declared.state.Stand.TheVariants as stand
use Rattle.rh_otp_dist.specs.Attempts.{has_app}
use Rattle.rh_otp_dist.specs.State.{DistView, TurnView, is_among, may_run, with_standing, with_permission, with_state}
use Rattle.rh_otp_dist.specs.Told.{add_remote, answer_permits, answer_waits, app_started, new_permission, standing_at, with_waits}
use Rattle.rh_otp_net.specs.declared.timers.Timer.{Timer}
use Rattle.rh_otp_node.specs.Live.{LiveView}
use Rattle.rh_otp_system.specs.declared.calls.Call.{Call}
use Rattle.rh_otp_system.specs.Delivering.{arrived}
use Rattle.rh_otp_system.specs.State.{SystemView, live_at, node_at, with_node, is_alive_at}
use Rattle.rh_otp_laws.proofs.Nodes.{alive_written, node_written, there_written}
use Rattle.rh_otp_orders.specs.Orders.{Arrives}
use Rattle.rh_otp_orders.proofs.Taking.{Taken, taken_arrives, taken_of_more}
use Rattle.rh_otp_crashes.specs.Crashes.{IsUnoccupied}
use Rattle.rh_otp_crashes.proofs.Carrying.{IsPlain, alarms, done, letters}
use Rattle.rh_otp_crashes.proofs.Crossing.{Cross, for_dist}
use Rattle.rh_otp_crashes.proofs.Peace.{here_in, without, arrives_alive, turned_so}
use Rattle.rh_otp_crashes.proofs.Starting.{runs_there_now}
use Rattle.rh_otp_crashes.proofs.Turning.{Turned, own_in, idle, idle_comes, none_on, turn, weighing, written_twice}
use Rattle.rh_otp_stops.proofs.Stopping.{there_is}
use Rattle.rh_otp_moves.specs.Moving.{NotesIt}
use Rattle.rh_otp_moves.proofs.Telling.{idle_rest, may_still, notes_so}

-- ---- who they are

-- another node that is told
abbrev pub IsOther : Call → Node → List Node → Node → Type 0
IsOther c m told j = (j.0 ≢ m.0) × (j.0 ≢ c.node.0) × (is_among j told ≡ true)

-- ---- the permission

-- it notes it, if its node has the application in its own `distributed`
abbrev pub noting : OwnView → Node → App → DistView → DistView
noting own n a d = record d { may = cond (controls own a) (with_permission n a false d).may d.may }

noting_so : (n : Node) (a : App) (t : TurnView) → t.here.node.0 ≢ n.0 → NotesIt t.own t.here.node a t.state
    → new_permission n a false true t ≡ with_state (noting t.own n a t.state) t
noting_so n a t other so = notes_so n a false t other (λ forbidden. so.may_not) ∙ by (controls t.own a)
  where
    by : (b : Bool) → cond (not b) t (with_state (with_permission n a false t.state) t)
        ≡ with_state (record t.state { may = cond b (with_permission n a false t.state).may t.state.may }) t
    by true = refl
    by false = refl

-- what its own node may isn't changed by that
pub noted_still : (own : OwnView) (n m : Node) (a : App) (d : DistView) → m.0 ≢ n.0 → NotesIt own m a d → NotesIt own m a (noting own n a d)
noted_still own n m a d other so = record { idle = so.idle; may_not = λ listed. by (controls own a) (so.may_not listed) }
  where
    by : (b : Bool) → may_run d m a ≡ false
        → may_run (record d { may = cond b (with_permission n a false d).may d.may }) m a ≡ false
    by true is = may_still d n m a false other ∙ is
    by false is = is

pub note_turns : (K : Envelope → Type 0) (c : ClusterView) (files : List OwnFile) (j : Node) (life : ℕ) (n : Node) (a : App) (d : DistView)
    → j.0 ≢ n.0 → IsUnoccupied d → NotesIt (own_in files j) j a d
    → Turned K c files j life (message.NewPermission n a false true) (Some d)
note_turns K c files j life n a d other free so =
    let t : TurnView = turn c (own_in files j) j life d in
    let over : TurnView = with_state (noting (own_in files j) n a t.state) t in
    record {
      next = Some over.state;
      outs = [];
      comes = idle_comes c files j life (message.NewPermission n a false true) d over free so.idle refl
          (λ w. noting_so n a (weighing w t) other (record { idle = refl; may_not = so.may_not }));
      plain = All-nil IsPlain;
      kinds = All-nil K;
      rest = λ e is. subst IsUnoccupied (same_Some over.state e is) (idle_rest d over.state free refl refl refl refl);
    }

pub note_next : (K : Envelope → Type 0) (c : ClusterView) (files : List OwnFile) (j : Node) (life : ℕ) (n : Node) (a : App) (d : DistView)
    (other : j.0 ≢ n.0) (free : IsUnoccupied d) (so : NotesIt (own_in files j) j a d)
    → (note_turns K c files j life n a d other free so).next ≡ Some (noting (own_in files j) n a (idle d))
unfolding note_turns
note_next K c files j life n a d other free so = refl

pub note_outs : (K : Envelope → Type 0) (c : ClusterView) (files : List OwnFile) (j : Node) (life : ℕ) (n : Node) (a : App) (d : DistView)
    (other : j.0 ≢ n.0) (free : IsUnoccupied d) (so : NotesIt (own_in files j) j a d)
    → (note_turns K c files j life n a d other free so).outs ≡ []
unfolding note_turns
note_outs K c files j life n a d other free so = refl

-- ---- the start elsewhere

-- its controller is told, if it has started the application, too
abbrev started_then : App → Node → Option Dep → TurnView → TurnView
started_then a m error t = record t {
  state = record (with_standing a (standing_at m error) t.state) { tmp_weights = keydelete a t.state.tmp_weights; p_reqs = [] };
  out = t.out ++ output.Send (runs_there_now a m t) ∷ [];
}

abbrev pub told_start : App → Node → Option Dep → TurnView → TurnView
told_start a m error t = cond (controls t.own a && has_app a t.state.started) (started_then a m error t) (add_remote a m t)

started_so : (a : App) (m : Node) (error : Option Dep) (t : TurnView) → t.state.p_reqs ≡ []
    → app_started m a error t ≡ told_start a m error t
unfolding app_started answer_permits
started_so a m error t none =
    ap (λ (x : TurnView). cond (controls t.own a && has_app a t.state.started) x (add_remote a m t))
    (ap (λ rows. with_waits (without_rows a rows) (answer_waits a rows (record t {
      state = record (with_standing a (standing_at m error) t.state) { tmp_weights = keydelete a t.state.tmp_weights };
      out = t.out ++ output.Send (runs_there_now a m t) ∷ [];
    }))) none)

-- what is so of both ways
either_start : {A : Type 0} (f : TurnView → A) (a : App) (m : Node) (error : Option Dep) (t : TurnView) (y : A)
    → f (started_then a m error t) ≡ y → f (add_remote a m t) ≡ y → f (told_start a m error t) ≡ y
either_start f a m error t y started remote = by (controls t.own a && has_app a t.state.started)
  where
    by : (b : Bool) → f (cond b (started_then a m error t) (add_remote a m t)) ≡ y
    by true = started
    by false = remote

-- the news to the controller is of a kind
abbrev pub its_news_of : Node → ℕ → App → Node → Envelope
its_news_of j life a m = record {
  from = record { role = role.DistAc; node = j; life = life };
  to = record { role = role.Controller; node = j; life = life };
  message = message.Change a (change_of.Started m);
}

pub start_turns : (K : Envelope → Type 0) (c : ClusterView) (files : List OwnFile) (j : Node) (life : ℕ) (a : App) (m : Node)
    (error : Option Dep) (d : DistView) → K (its_news_of j life a m) → IsUnoccupied d → d.stand ≡ stand.Idle
    → Turned K c files j life (message.AppStarted m a error) (Some d)
start_turns K c files j life a m error d kind free is =
    let t : TurnView = turn c (own_in files j) j life d in
    let over : TurnView = told_start a m error t in
    let b : Bool = controls t.own a && has_app a t.state.started in
    record {
      next = Some over.state;
      outs = over.out;
      comes = idle_comes c files j life (message.AppStarted m a error) d over free is refl
          (λ w. started_so a m error (weighing w t) free.permits ∙ whatever b w t);
      plain = plain b t;
      kinds = kinds b t kind;
      rest = λ e so. subst IsUnoccupied (same_Some over.state e so)
          (idle_rest d over.state free (either_start (λ (x : TurnView). x.state.stand) a m error t stand.Idle refl refl)
          (either_start (λ (x : TurnView). x.state.mail) a m error t [] refl refl)
          (either_start (λ (x : TurnView). x.state.p_reqs) a m error t d.p_reqs (sym free.permits) refl)
          (either_start (λ (x : TurnView). x.state.parked) a m error t d.parked refl refl));
    }
  where
    whatever : (b : Bool) (w : ℕ) (t : TurnView) → cond b (started_then a m error (weighing w t)) (add_remote a m (weighing w t))
        ≡ weighing w (cond b (started_then a m error t) (add_remote a m t))
    whatever true w t = refl
    whatever false w t = refl

    plain : (b : Bool) (t : TurnView)
        → All IsPlain (cond b (started_then a m error (record t { out = [] })) (add_remote a m (record t { out = [] }))).out
    plain true t = All-cons IsPlain (output.Send (runs_there_now a m t)) [] tt (All-nil IsPlain)
    plain false t = All-nil IsPlain

    kinds : (b : Bool) (t : TurnView) → K (runs_there_now a m t)
        → All K (letters (cond b (started_then a m error (record t { out = [] })) (add_remote a m (record t { out = [] }))).out)
    kinds true t kind = All-cons K (runs_there_now a m t) [] kind (All-nil K)
    kinds false t kind = All-nil K

pub start_next : (K : Envelope → Type 0) (c : ClusterView) (files : List OwnFile) (j : Node) (life : ℕ) (a : App) (m : Node)
    (error : Option Dep) (d : DistView) (kind : K (its_news_of j life a m)) (free : IsUnoccupied d) (is : d.stand ≡ stand.Idle)
    → (start_turns K c files j life a m error d kind free is).next
    ≡ Some (told_start a m error (turn c (own_in files j) j life d)).state
unfolding start_turns
start_next K c files j life a m error d kind free is = refl

-- what its own node may isn't changed by that
pub start_tame : (c : ClusterView) (own : OwnView) (j : Node) (life : ℕ) (a : App) (m : Node) (error : Option Dep) (d : DistView)
    → NotesIt own j a d → NotesIt own j a (told_start a m error (turn c own j life d)).state
start_tame c own j life a m error d so =
    let t : TurnView = turn c own j life d in
    record {
      idle = either_start (λ (x : TurnView). x.state.stand) a m error t stand.Idle refl refl;
      may_not = λ listed.
          either_start (λ (x : TurnView). may_run x.state j a) a m error t false (so.may_not listed) (so.may_not listed);
    }

-- ---- both, at one dist_ac

-- the one first or the other
both_ways : (c : ClusterView) (own : OwnView) (j : Node) (life : ℕ) (n : Node) (a : App) (m : Node) (error : Option Dep) (d : DistView)
    → idle (noting own n a (told_start a m error (turn c own j life d)).state)
    ≡ (told_start a m error (turn c own j life (noting own n a d))).state
both_ways c own j life n a m error d = by (controls own a && has_app a d.started)
  where
    t : TurnView
    t = turn c own j life d

    u : TurnView
    u = turn c own j life (noting own n a d)

    by : (b : Bool) → idle (noting own n a (cond b (started_then a m error t) (add_remote a m t)).state)
        ≡ (cond b (started_then a m error u) (add_remote a m u)).state
    by true = refl
    by false = refl

same_sent : (c : ClusterView) (own : OwnView) (j : Node) (life : ℕ) (n : Node) (a : App) (m : Node) (error : Option Dep) (d : DistView)
    → (told_start a m error (turn c own j life (noting own n a d))).out ≡ (told_start a m error (turn c own j life d)).out
same_sent c own j life n a m error d = by (controls own a && has_app a d.started)
  where
    t : TurnView
    t = turn c own j life d

    u : TurnView
    u = turn c own j life (noting own n a d)

    by : (b : Bool) → (cond b (started_then a m error u) (add_remote a m u)).out
        ≡ (cond b (started_then a m error t) (add_remote a m t)).out
    by true = refl
    by false = refl

-- whatever two messages do there that come to the same, and one of them sends nothing
dists_cross : {K : Envelope → Type 0} {lives : Node → ℕ} {o : Option DistView} (s : SystemView) (j : Node) (from from' : Process)
    (x y : Message) (left_e left_f left : List Envelope) → ((k : Node) → (node_at s k).life ≡ lives k) → is_alive_at s j ≡ true
    → (node_at s j).dist ≡ o
    → (dx : Turned K s.cluster s.files j (lives j) x o) → (dy : Turned K s.cluster s.files j (lives j) y o)
    → (dxy : Turned K s.cluster s.files j (lives j) y dx.next) → (dyx : Turned K s.cluster s.files j (lives j) x dy.next)
    → dx.outs ≡ [] → dyx.outs ≡ [] → dxy.outs ≡ dy.outs → dxy.next ≡ dyx.next
    → Taken (for_dist lives j from' y) left_e left → Taken (for_dist lives j from x) left_f left
    → Cross (arrived (process_at (here_in lives j) role.DistAc) x (without s left_e))
    (arrived (process_at (here_in lives j) role.DistAc) y (without s left_f)) (for_dist lives j from x) (for_dist lives j from' y)
dists_cross {lives = lives} s j from from' x y left_e left_f left same_lives alive has dx dy dxy dyx none never outs next taken_f taken_e =
    let e : Envelope = for_dist lives j from x in
    let g : Envelope = for_dist lives j from' y in
    let s_e : SystemView = without s left_e in
    let s_f : SystemView = without s left_f in
    let old : LiveView = node_at s j in
    let there : live_at s j ≡ Some old = there_is s j alive in
    let to : Process = process_at (here_in lives j) role.DistAc in
    let one : LiveView = record old { dist = dx.next } in
    let two : LiveView = record old { dist = dy.next } in
    let t : SystemView = done to dx.outs (with_node j one s_e) in
    let u : SystemView = done to dy.outs (with_node j two s_f) in
    let t_left : SystemView = without t (left ++ letters dx.outs) in
    let u_left : SystemView = without u (left ++ letters dy.outs) in
    let v : SystemView = arrived to y t_left in
    let w : SystemView = arrived to x u_left in
    let is_t : arrived to x s_e ≡ t =
    arrives_alive to x s_e alive (same_lives j) ∙ turned_so j x s s_e old _ dx there has (same_lives j) refl refl in
    let is_u : arrived to y s_f ≡ u =
    arrives_alive to y s_f alive (same_lives j) ∙ turned_so j y s s_f old _ dy there has (same_lives j) refl refl in
    let over : List Output → List Output → SystemView → SystemView =
    λ (p q : List Output) (z : SystemView). record z {
      messages = (left ++ letters p) ++ letters q;
      timers = (s.timers ++ alarms s.clock s.step to p) ++ alarms s.clock s.step to q;
    } in
    let last : Option DistView → SystemView = λ (o : Option DistView). with_node j (record old { dist = o }) s in
    let is_v : v ≡ over dx.outs dxy.outs (last dxy.next) =
    arrives_alive to y t_left (alive_written s_e j one alive alive)
    (ap (λ (z : LiveView). z.life) (node_written s_e j old one there) ∙ same_lives j)
    ∙ turned_so j y s t_left one dx.next dxy (there_written s_e j old one there) refl (same_lives j) refl refl
    ∙ ap (over dx.outs dxy.outs) (written_twice s_e j one (record old { dist = dxy.next })) in
    let is_w : w ≡ over dy.outs dyx.outs (last dyx.next) =
    arrives_alive to x u_left (alive_written s_f j two alive alive)
    (ap (λ (z : LiveView). z.life) (node_written s_f j old two there) ∙ same_lives j)
    ∙ turned_so j x s u_left two dy.next dyx (there_written s_f j old two there) refl (same_lives j) refl refl
    ∙ ap (over dy.outs dyx.outs) (written_twice s_f j two (record old { dist = dyx.next })) in (
      v,
      w,
      subst (λ (z : SystemView). Arrives g z v) (sym is_t)
          (taken_arrives t g (left ++ letters dx.outs) (taken_of_more g left_e left (letters dx.outs) taken_f)),
      subst (λ (z : SystemView). Arrives e z w) (sym is_u)
          (taken_arrives u e (left ++ letters dy.outs) (taken_of_more e left_f left (letters dy.outs) taken_e)),
      is_v ∙ (λ i. over (none i) (outs i) (last (next i)))
          ∙ (λ i. record (last dyx.next) {
            messages = (ap (λ (l : List Envelope). l ++ letters dy.outs) (append-nil left) ∙ sym (append-nil (left ++ letters dy.outs))) i;
            timers = (ap (λ (l : List Timer). l ++ alarms s.clock s.step to dy.outs) (append-nil s.timers)
                ∙ sym (append-nil (s.timers ++ alarms s.clock s.step to dy.outs))) i;
          })
          ∙ (λ i. over dy.outs (sym never i) (last dyx.next))
          ∙ sym is_w,
    )

-- a note and the news of the start
pub note_and_start : (K : Envelope → Type 0) {lives : Node → ℕ} (s : SystemView) (j : Node) (from from' : Process) (n m : Node) (a : App)
    (error : Option Dep) (d : DistView) (left_e left_f left : List Envelope) → ((k : Node) → (node_at s k).life ≡ lives k)
    → is_alive_at s j ≡ true → j.0 ≢ n.0 → (node_at s j).dist ≡ Some d → IsUnoccupied d → NotesIt (own_in s.files j) j a d
    → K (its_news_of j (lives j) a m)
    → Taken (for_dist lives j from' (message.AppStarted m a error)) left_e left
    → Taken (for_dist lives j from (message.NewPermission n a false true)) left_f left
    → Cross (arrived (process_at (here_in lives j) role.DistAc) (message.NewPermission n a false true) (without s left_e))
    (arrived (process_at (here_in lives j) role.DistAc) (message.AppStarted m a error) (without s left_f))
    (for_dist lives j from (message.NewPermission n a false true)) (for_dist lives j from' (message.AppStarted m a error))
unfolding note_turns start_turns
note_and_start K {lives} s j from from' n m a error d left_e left_f left same_lives alive other has free so kind taken_f taken_e =
    let own : OwnView = own_in s.files j in
    let dx : Turned K s.cluster s.files j (lives j) x (Some d) = note_turns K s.cluster s.files j (lives j) n a d other free so in
    let dy : Turned K s.cluster s.files j (lives j) y (Some d) =
    start_turns K s.cluster s.files j (lives j) a m error d kind free so.idle in
    let over : DistView = noting own n a (idle d) in
    let begun : DistView = (told_start a m error (turn s.cluster own j (lives j) d)).state in
    dists_cross s j from from' x y left_e left_f left same_lives alive
    has dx dy
    (start_turns K s.cluster s.files j (lives j) a m error over kind (dx.rest over refl) refl)
    (note_turns K s.cluster s.files j (lives j) n a begun other (dy.rest begun refl)
    (start_tame s.cluster own j (lives j) a m error d so))
    refl refl (same_sent s.cluster own j (lives j) n a m error d)
    (sym (ap Some (both_ways s.cluster own j (lives j) n a m error d))) taken_f taken_e
  where
    x : Message
    x = message.NewPermission n a false true

    y : Message
    y = message.AppStarted m a error

-- where there is none
pub none_cross : (K : Envelope → Type 0) {lives : Node → ℕ} (s : SystemView) (j : Node) (from from' : Process) (x y : Message)
    (left_e left_f left : List Envelope) → ((k : Node) → (node_at s k).life ≡ lives k) → is_alive_at s j ≡ true
    → (node_at s j).dist ≡ None → Taken (for_dist lives j from' y) left_e left → Taken (for_dist lives j from x) left_f left
    → Cross (arrived (process_at (here_in lives j) role.DistAc) x (without s left_e))
    (arrived (process_at (here_in lives j) role.DistAc) y (without s left_f)) (for_dist lives j from x) (for_dist lives j from' y)
none_cross K {lives} s j from from' x y left_e left_f left same_lives alive has taken_f taken_e =
    dists_cross s j from from' x y left_e left_f left same_lives alive has (nothing x) (nothing y) (nothing y)
    (nothing x) refl refl refl refl
    taken_f taken_e
  where
    nothing : (z : Message) → Turned K s.cluster s.files j (lives j) z None
    nothing z = record {
      next = None;
      outs = [];
      comes = λ q v there none same in_cluster in_files. none_on j z q v there none;
      plain = All-nil IsPlain;
      kinds = All-nil K;
      rest = λ d is. absurd (none-some d is);
    }
