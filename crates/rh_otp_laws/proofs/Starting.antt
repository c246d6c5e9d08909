-- Where a node isn't one of its candidates a dist_ac tells no start.
use Rattle.std.proofs.Common.{◌≡◌, ◌⊎◌, ◌++◌, ◌==◌, ◌||◌, Bool, true, false, cond, List, [], ◌∷◌, filter, map, length, Option, Some, None, refl, sym, ap, ◌∙◌, inl, inr}
use Rattle.std.specs.List.{list_any, range_with_len}
use Rattle.std.proofs.lemmas.Bool.{false≢true, eqb-true, false_from_ne_true}
use Rattle.std.proofs.lemmas.List.{append_assoc, append-nil}
use Rattle.std.proofs.lemmas.List.Elements.{All-nil, All-cons, All-append}
use Rattle.rh_model.specs.ClusterView.{is_in, numbered}
use Rattle.rh_model.specs.declared.node.App.{App}
use Rattle.rh_model.specs.declared.node.Node.{Node}
use Rattle.rh_otp_model.specs.declared.fault.Outcome.TheVariants.{Done}
use Rattle.rh_otp_model.specs.declared.message.Message.TheVariants as message
use Rattle.rh_otp_model.specs.declared.output.Output.{Output}
use Rattle.rh_otp_model.specs.declared.output.Output.TheVariants as output
use Rattle.rh_otp_model.specs.declared.output.Requester.TheVariants.{Alone}
use Rattle.rh_otp_model.specs.Own.{OwnView}
use Rattle.rh_otp_dist.specs.declared.attempt.AskedBy.{AskedBy}
use Rattle.rh_otp_dist.specs.declared.attempt.AskedBy.TheVariants as asked
use Rattle.rh_otp_dist.specs.declared.state.Stand.TheVariants.{Idle}
use Rattle.rh_otp_dist.specs.declared.state.Standing.{Standing}
use Rattle.rh_otp_dist.specs.declared.state.Standing.TheVariants as standing
use Rattle.rh_otp_dist.specs.declared.verdict.Verdict.TheVariants as verdict
use Rattle.rh_otp_dist.specs.Attempts.{tell_controller, permitted_then, permitted_by, behind, behind_start, settled, restored, finish, runs_elsewhere}
use Rattle.rh_otp_dist.specs.Choosing.{backwards, candidates_of, remote, outside, find_start_node, start_distributed, start_unless_local, start_appl}
use Rattle.rh_otp_dist.specs.Sending.{me, with_output, free_lock}
use Rattle.rh_otp_dist.specs.State.{TurnView, DistView, with_state, standing_of, may_run, permitted, is_among}
use Rattle.rh_otp_dist.specs.Views.{AttemptView, PermitCallView}
use Rattle.rh_otp_laws.specs.Starting.{IsNoStart, TellsNoStart}
use Rattle.rh_otp_laws.proofs.Lists.{IsAt, behind_it, filtered, passes_any}

-- ---- what is told

pub nothing_told : (t u : TurnView) → u.out ≡ t.out → TellsNoStart t u
nothing_told t u same = record { more = []; behind = same ∙ sym (append-nil t.out); each = All-nil IsNoStart }

pub one_told : (o : Output) (t : TurnView) → IsNoStart o → TellsNoStart t (with_output o t)
one_told o t is = record { more = o ∷ []; behind = refl; each = All-cons IsNoStart o [] is (All-nil IsNoStart) }

pub both_told : (t u v : TurnView) → TellsNoStart t u → TellsNoStart u v → TellsNoStart t v
both_told t u v p q = record {
  more = p.more ++ q.more;
  behind = q.behind ∙ ap (λ (l : List Output). l ++ q.more) p.behind ∙ append_assoc t.out p.more q.more;
  each = All-append IsNoStart p.more q.more p.each q.each;
}

permitted_tells : (a : App) (is_waiting : Bool) (before : PermitCallView) (t : TurnView)
    → TellsNoStart t (permitted_then a is_waiting before t)
permitted_tells a true before t =
    let free : TurnView = free_lock (Alone before.caller) before.caller t in
    both_told t free _ (one_told (output.Free (Alone before.caller) before.caller) t tt)
    (nothing_told free (permitted_then a true before t) refl)
permitted_tells a false before t =
    let back : TurnView = with_state (restored a before t.state) t in
    both_told t back _ (nothing_told t back refl)
    (one_told (output.Send (record { from = me back; to = before.caller; message = message.Answer Done })) back refl)

permit_tells : (a : App) (is_waiting : Bool) (permit : Option PermitCallView) (t : TurnView)
    → TellsNoStart t (permitted_by a is_waiting permit t)
permit_tells a is_waiting None t = nothing_told t t refl
permit_tells a is_waiting (Some before) t = permitted_tells a is_waiting before t

behind_tells : (asked_by : AskedBy) (attempt : AttemptView) (is_waiting : Bool) (t : TurnView)
    → TellsNoStart t (behind asked_by attempt is_waiting t)
behind_tells asked.Controller attempt is_waiting t = one_told (output.Free (Alone (me t)) (me t)) t tt
behind_tells asked.Nobody attempt is_waiting t = permit_tells attempt.app is_waiting attempt.permit t

behind_start_tells : (attempt : AttemptView) (is_waiting : Bool) (t : TurnView) → TellsNoStart t (behind_start attempt is_waiting t)
behind_start_tells attempt is_waiting t =
    let idle : TurnView = with_state (record t.state { stand = Idle }) t in
    both_told t idle _ (nothing_told t idle refl) (behind_tells attempt.asked_by attempt is_waiting idle)

finish_tells : (attempt : AttemptView) (s : Standing) (is_waiting : Bool) (t : TurnView) → TellsNoStart t (finish attempt s is_waiting t)
unfolding finish
finish_tells attempt s is_waiting t =
    let over : TurnView = with_state (settled attempt.app s t.state) t in
    both_told t over _ (nothing_told t over refl) (behind_start_tells attempt is_waiting over)

-- ---- that it runs elsewhere, or can't run, is no start

elsewhere_by : (asked_by : AskedBy) (a : App) (n : Node) (t : TurnView) → TellsNoStart t (tell_controller asked_by a (verdict.Started n) t)
elsewhere_by asked.Controller a n t = one_told _ t refl
elsewhere_by asked.Nobody a n t = one_told _ t refl

nowhere_by : (asked_by : AskedBy) (a : App) (t : TurnView) → TellsNoStart t (tell_controller asked_by a verdict.NotStarted t)
nowhere_by asked.Controller a t = one_told _ t refl
nowhere_by asked.Nobody a t = one_told _ t refl

pub elsewhere_tells : (attempt : AttemptView) (n : Node) (t : TurnView) → TellsNoStart t (runs_elsewhere attempt n t)
unfolding runs_elsewhere
elsewhere_tells attempt n t =
    let told : TurnView = tell_controller attempt.asked_by attempt.app (verdict.Started n) t in
    both_told t told _ (elsewhere_by attempt.asked_by attempt.app n t) (finish_tells attempt (standing.Distributed n) false told)

outside_tells : (attempt : AttemptView) (candidates : List Node) (runner : Option Node) (t : TurnView)
    → TellsNoStart t (outside attempt candidates runner t)
outside_tells attempt candidates (Some n) t = elsewhere_tells attempt n t
outside_tells attempt [] None t =
    let told : TurnView = tell_controller attempt.asked_by attempt.app verdict.NotStarted t in
    both_told t told _ (nowhere_by attempt.asked_by attempt.app t) (finish_tells attempt standing.Undefined false told)
outside_tells attempt (n ∷ nodes) None t = nothing_told t _ refl

-- ---- who is a candidate

any_at : {A : Type 0} (p : A → Bool) (xs : List A) → list_any p xs ≡ true → (x : A) × IsAt x xs × (p x ≡ true)
any_at p [] any = absurd (false≢true any)
any_at {A} p (x ∷ xs) any = by (p x) refl any (any_at p xs)
  where
    by : (b : Bool) → p x ≡ b → (b || list_any p xs) ≡ true → (list_any p xs ≡ true → (y : A) × IsAt y xs × (p y ≡ true))
        → (y : A) × IsAt y (x ∷ xs) × (p y ≡ true)
    by true is any rest = (x, (0, refl), is)
    by false is any rest =
        let more : (y : A) × IsAt y xs × (p y ≡ true) = rest any in
        (more.0, behind_it more.0 x xs more.1, more.2)

-- a node that is among those that pass is among all, and passes
among_filtered : (p : Node → Bool) (n : Node) (nodes : List Node) → is_in n (filter p nodes) ≡ true → (is_in n nodes ≡ true) × (p n ≡ true)
among_filtered p n nodes is =
    let some : (m : Node) × IsAt m (filter p nodes) × ((n.0 == m.0) ≡ true) = any_at (λ (m : Node). n.0 == m.0) (filter p nodes) is in
    let kept : IsAt some.0 nodes × (p some.0 ≡ true) = filtered p some.0 nodes some.1 in
    let same : n.0 ≡ some.0.0 = eqb-true n.0 some.0.0 some.2 in (
      passes_any (λ (m : Node). n.0 == m.0) some.0 nodes kept.0.0 kept.0.1 some.2,
      (λ i. p (record { 0 = same i })) ∙ kept.1,
    )

no_candidate : (n : Node) (own : OwnView) (attempt : AttemptView)
    → (is_among n (backwards own attempt.app) ≡ false) ⊎ (is_among n attempt.permitted ≡ false)
    → is_among n (candidates_of own attempt) ≡ false
no_candidate n own attempt why =
    false_from_ne_true _ (λ is. by (among_filtered (λ (m : Node). is_among m attempt.permitted) n (backwards own attempt.app) is) why)
  where
    by : (is_among n (backwards own attempt.app) ≡ true) × (is_among n attempt.permitted ≡ true)
        → (is_among n (backwards own attempt.app) ≡ false) ⊎ (is_among n attempt.permitted ≡ false) → ⊥
    by is (inl lacks) = false≢true (sym lacks ∙ is.0)
    by is (inr lacks) = false≢true (sym lacks ∙ is.1)

-- a node that may not run it isn't among those that may
not_permitted : (d : DistView) (n : Node) (a : App) → may_run d n a ≡ false → is_among n (permitted d a) ≡ false
not_permitted d n a lacks =
    false_from_ne_true _ (λ is. false≢true (sym lacks ∙ (among_filtered (λ (m : Node). may_run d m a) n (map numbered (range_with_len 0 (length d.may))) is).1))

-- ---- the law

distributed_by : (b : Bool) (attempt : AttemptView) (t : TurnView) → b ≡ false
    → TellsNoStart t (cond b (find_start_node attempt (candidates_of t.own attempt) 0 t)
    (outside attempt (candidates_of t.own attempt) (remote t.state attempt.app) t))
distributed_by true attempt t lacks = absurd (false≢true (sym lacks))
distributed_by false attempt t lacks = outside_tells attempt (candidates_of t.own attempt) (remote t.state attempt.app) t

pub distributed_tells : (attempt : AttemptView) (t : TurnView)
    → (is_among t.here.node (backwards t.own attempt.app) ≡ false) ⊎ (is_among t.here.node attempt.permitted ≡ false)
    → TellsNoStart t (start_distributed attempt t)
unfolding start_distributed
distributed_tells attempt t why =
    distributed_by (is_among t.here.node (candidates_of t.own attempt)) attempt t (no_candidate t.here.node t.own attempt why)

start_by : (attempt : AttemptView) (s : Standing) (t : TurnView)
    → (is_among t.here.node (backwards t.own attempt.app) ≡ false) ⊎ (is_among t.here.node attempt.permitted ≡ false)
    → TellsNoStart t (start_unless_local attempt s t)
start_by attempt standing.Local t why = behind_start_tells attempt false t
start_by attempt s t why = distributed_tells attempt t why

pub appl_tells : (a : App) (asked_by : AskedBy) (permit : Option PermitCallView) (t : TurnView)
    → (is_among t.here.node (backwards t.own a) ≡ false) ⊎ (may_run t.state t.here.node a ≡ false)
    → TellsNoStart t (start_appl a asked_by permit t)
unfolding start_appl
appl_tells a asked_by permit t why = start_by _ (standing_of t.state a) t (by why)
  where
    by : (is_among t.here.node (backwards t.own a) ≡ false) ⊎ (may_run t.state t.here.node a ≡ false)
        → (is_among t.here.node (backwards t.own a) ≡ false) ⊎ (is_among t.here.node (permitted t.state a) ≡ false)
    by (inl lacks) = inl lacks
    by (inr lacks) = inr (not_permitted t.state t.here.node a lacks)
