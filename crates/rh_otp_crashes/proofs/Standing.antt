-- What a standby's dist_ac does: at its timer it waits for the first node, and at the news of that it is as if it had never waited.
use Rattle.std.proofs.Common.{◌≡◌, ◌+◌, ◌++◌, ◌==◌, ℕ, zero, suc, Bool, true, false, not, cond, List, [], ◌∷◌, slice_get, slice_set, unwrap_or, Option, Some, None, refl, sym, ap, ◌∙◌, arith}
use Rattle.std.specs.List.{find, position_or_len, remove}
use Rattle.std.specs.Option.{option_map}
use Rattle.std.proofs.lemmas.Bool.{eq-eqb, ne_eqb, false≢true, or_parts}
use Rattle.std.proofs.lemmas.Option.{none-some}
use Rattle.rh_model.specs.ClusterView.{ClusterView}
use Rattle.rh_model.specs.declared.node.App.{App}
use Rattle.rh_model.specs.declared.node.Node.{Node}
use Rattle.rh_otp_model.specs.declared.message.Message.TheVariants as message
use Rattle.rh_otp_model.specs.Own.{OwnView}
use Rattle.rh_otp_model.specs.Rows.{keyfind, keydelete, is_of}
use Rattle.rh_otp_dist.specs.declared.state.Appl.{Appl}
use Rattle.rh_otp_dist.specs.declared.state.Stand.TheVariants.{ForStart}
use Rattle.rh_otp_dist.specs.declared.state.Standing.{Standing}
use Rattle.rh_otp_dist.specs.declared.state.Standing.TheVariants as standing
use Rattle.rh_otp_dist.specs.Attempts.{finish, has_app, add_started, runs_elsewhere, without_told}
use Rattle.rh_otp_dist.specs.Choosing.{places_of, candidates_of, remote, runs_at, is_node, find_start_node, is_to_start, start_here, start_distributed, start_unless_local, start_appl, outside, wait}
use Rattle.rh_otp_dist.specs.Sending.{monitor}
use Rattle.rh_otp_dist.specs.State.{DistView, TurnView, standing_of, unknown_appl, is_among, without_first}
use Rattle.rh_otp_dist.specs.Told.{restart, restart_by}
use Rattle.rh_otp_dist.specs.Views.{AttemptView}
use Rattle.rh_otp_dist.specs.Waiting.{started_there}
use Rattle.rh_otp_crashes.specs.Failovers.{first_of, lost_attempt, is_failover}
use Rattle.rh_otp_crashes.proofs.Starting.{walks, heard}
use Rattle.rh_otp_crashes.proofs.Turning.{turn, weighing}

-- ---- lists

removes_none : {A : Type 0} (p : A → Bool) (xs : List A) → find p xs ≡ None → remove xs (position_or_len p xs) ≡ xs
removes_none p [] none = refl
removes_none {A} p (x ∷ xs) none = by (p x) none (removes_none p xs)
  where
    by : (b : Bool) → cond b (Some x) (find p xs) ≡ None → (find p xs ≡ None → remove xs (position_or_len p xs) ≡ xs)
        → remove (x ∷ xs) (cond (not b) (1 + position_or_len p xs) 0) ≡ x ∷ xs
    by true is rest = absurd (none-some x (sym is))
    by false is rest =
        ap (remove (x ∷ xs)) (let more : 1 + position_or_len p xs ≡ suc (position_or_len p xs) = omega arith in more)
        ∙ ap (λ (l : List A). x ∷ l) (rest is)

none_mapped : {A B : Type 0} (f : A → B) (o : Option A) → option_map f o ≡ None → o ≡ None
none_mapped f None none = refl
none_mapped f (Some x) none = absurd (none-some (f x) (sym none))

-- what has no row is deleted nowhere
deletes_none : {A : Type 0} (a : App) (rows : List (App × A)) → keyfind a rows ≡ None → keydelete a rows ≡ rows
deletes_none a rows none = removes_none (is_of a) rows (none_mapped _ (find (is_of a) rows) none)

-- a node that is put behind others, none of which it is, is the first that is taken out
removes_last : (n : Node) (nodes : List Node) → is_among n nodes ≡ false → without_first n (nodes ++ n ∷ []) ≡ nodes
removes_last n [] apart = ap (λ (b : Bool). remove (n ∷ []) (cond (not b) 1 0)) (eq-eqb n.0 n.0 refl)
removes_last n (m ∷ nodes) apart =
    let parts : ((n.0 == m.0) ≡ false) × (is_among n nodes ≡ false) = or_parts (n.0 == m.0) (is_among n nodes) apart in
    let other : (m.0 == n.0) ≡ false = ne_eqb m.0 n.0 (λ same. false≢true (sym parts.0 ∙ eq-eqb n.0 m.0 (sym same))) in
    let k : ℕ = position_or_len (λ (x : Node). x.0 == n.0) (nodes ++ n ∷ []) in
    ap (λ (b : Bool). remove (m ∷ nodes ++ n ∷ []) (cond (not b) (1 + k) 0)) other
    ∙ ap (remove (m ∷ nodes ++ n ∷ [])) (let more : 1 + k ≡ suc k = omega arith in more)
    ∙ ap (λ (l : List Node). m ∷ l) (removes_last n nodes parts.1)

-- ---- the standing

stands_so : (appls : List Appl) (k : ℕ) (x : Appl) → is_failover x.standing ≡ false
    → is_failover (unwrap_or (slice_get (slice_set appls k x) k) unknown_appl).standing ≡ false
stands_so [] k x is = refl
stands_so (y ∷ appls) zero x is = is
stands_so (y ∷ appls) (suc k) x is = stands_so appls k x is

-- who has heard where it runs has lost it no more
pub not_lost_now : (a : App) (n : Node) (t : TurnView) → is_failover (standing_of (heard a n t).state a) ≡ false
not_lost_now a n t = stands_so t.state.appls a.0 _ refl

stale_by : (a : App) (st : Standing) (t : TurnView) → is_failover st ≡ false → restart_by a st t ≡ t
stale_by a standing.Undefined t over = refl
stale_by a standing.Local t over = refl
stale_by a standing.RunWaiting t over = refl
stale_by a standing.Takeover t over = refl
stale_by a (standing.Distributed n) t over = refl
stale_by a (standing.Failover n) t over = absurd (false≢true (sym over))

-- a timer that is left over changes nothing
pub stale_restarts : (a : App) (t : TurnView) → is_failover (standing_of t.state a) ≡ false → restart a t ≡ t
unfolding restart
stale_restarts a t over = stale_by a (standing_of t.state a) t over

-- ---- it waits

-- it waits for the start at the first node, and monitors that
abbrev pub waits_for : Node → App → DistView → DistView
waits_for n a d = record d { stand = ForStart (lost_attempt d a) n; mail = []; monitored = d.monitored ++ n ∷ [] }

-- it finds another node
pub restarts_waiting : (a : App) (n gone : Node) (t : TurnView) → standing_of t.state a ≡ standing.Failover gone
    → is_among t.here.node (candidates_of t.own (lost_attempt t.state a)) ≡ true
    → first_of (candidates_of t.own (lost_attempt t.state a)) (places_of t.own a) ≡ Some n → remote t.state a ≡ None
    → (n.0 == t.here.node.0) ≡ false → restart a t ≡ wait (ForStart (lost_attempt t.state a) n) (monitor n t)
unfolding restart start_appl start_distributed find_start_node is_to_start
restarts_waiting a n gone t lost among first unknown other =
    let attempt : AttemptView = lost_attempt t.state a in
    let candidates : List Node = candidates_of t.own attempt in
    let waits : TurnView = wait (ForStart attempt n) (monitor n t) in
    ap (λ (st : Standing). restart_by a st t) lost
    ∙ ap (λ (st : Standing). start_unless_local attempt st t) lost
    ∙ ap (λ (b : Bool). cond b (find_start_node attempt candidates 0 t) (outside attempt candidates (remote t.state a) t)) among
    ∙ walks attempt n candidates 0 (places_of t.own a) t first (ap runs_at lost) unknown
    ∙ ap (λ (b : Bool). cond b (start_here attempt t) (cond (is_node n (runs_at (standing_of t.state a))) (runs_elsewhere attempt n t) waits)) other
    ∙ ap (λ (st : Standing). cond (is_node n (runs_at st)) (runs_elsewhere attempt n t) waits) lost

-- What is so of a standby, and stays so while it waits.
pub record Stands (n : Node) (a : App) (d : DistView) : Type 0 where
  pub started : has_app a d.started ≡ true
  pub unknown : remote d a ≡ None
  pub untold : without_told a d.tmp_locals ≡ d.tmp_locals
  pub unmonitored : is_among n d.monitored ≡ false
  pub permits : d.p_reqs ≡ []
  pub parked : d.parked ≡ []

-- ---- and hears

-- at the news it is as if it had never waited
pub hears_behind : (c : ClusterView) (own : OwnView) (k : Node) (life w : ℕ) (a : App) (n : Node) (d : DistView) → Stands n a d
    → started_there (lost_attempt d a) n (message.AppStarted n a None) (weighing w (turn c own k life (waits_for n a d)))
    ≡ weighing w (heard a n (turn c own k life d))
unfolding runs_elsewhere finish
hears_behind c own k life w a n d stands =
    let over : TurnView = heard a n (turn c own k life d) in
    let known : add_started a d.started ≡ d.started = ap (λ (b : Bool). cond b d.started (a ∷ d.started)) stands.started in
    λ i. record over {
      weight = w;
      state = record over.state {
        monitored = removes_last n d.monitored stands.unmonitored i;
        tmp_locals = stands.untold i;
        remote_started = deletes_none a d.remote_started stands.unknown i;
        started = known i;
        p_reqs = stands.permits i;
      };
    }
