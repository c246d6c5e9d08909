-- What a dist_ac does where a node is down and nobody waits for a permission: it changes how applications stand, tells its controller of
-- those that run nowhere, and sets timers. The weight of its node is nothing to it.
use Rattle.std.proofs.Common.{◌≡◌, ◌<◌, ◌==◌, ℕ, Bool, true, false, not, cond, List, [], ◌∷◌, filter, reverse, refl, sym, ap, subst, ◌∙◌}
use Rattle.std.specs.Prelude.{All}
use Rattle.std.proofs.lemmas.List.{reverse-append}
use Rattle.std.proofs.lemmas.List.Elements.{All-nil, All-cons, All-head, All-tail, All-append, All-filter, All-map, All-weaker}
use Rattle.rh_model.specs.declared.node.App.{App}
use Rattle.rh_model.specs.declared.node.Node.{Node}
use Rattle.rh_otp_model.specs.declared.message.Change.TheVariants as change
use Rattle.rh_otp_model.specs.declared.message.Message.TheVariants as message
use Rattle.rh_otp_model.specs.declared.output.Envelope.{Envelope}
use Rattle.rh_otp_model.specs.declared.output.Output.{Output}
use Rattle.rh_otp_model.specs.declared.output.Output.TheVariants as output
use Rattle.rh_otp_model.specs.declared.process.Here.{Here}
use Rattle.rh_otp_model.specs.declared.process.Role.TheVariants as role
use Rattle.rh_otp_model.specs.Own.{EntryView}
use Rattle.rh_otp_model.specs.Processes.{process_at}
use Rattle.rh_otp_dist.specs.declared.state.Standing.{Standing}
use Rattle.rh_otp_dist.specs.declared.state.Standing.TheVariants as standing
use Rattle.rh_otp_dist.specs.Down.{lose, lose_each, lost_with, is_lost, set_timer, time_each, check_each, check_waiting, forget_node, unknow, node_down}
use Rattle.rh_otp_dist.specs.Sending.{to_controller}
use Rattle.rh_otp_dist.specs.State.{TurnView, standing_of, may_run}
use Rattle.rh_otp_dist.specs.Told.{set_standing, with_waits}
use Rattle.rh_otp_crashes.proofs.Carrying.{IsPlain, letters}
use Rattle.rh_otp_crashes.proofs.Turning.{weighing}

-- a controller is told that an application runs nowhere
abbrev pub no_more : Here → App → Envelope
no_more here a = record { from = process_at here role.DistAc; to = process_at here role.Controller; message = message.Change a change.NotRunning }

-- it tells its controller so, or sets a timer that isn't over at once
abbrev pub IsLoss : Here → Output → Type 0
IsLoss here (output.Send e) = (a : App) × (e ≡ no_more here a)
IsLoss here (output.After time m) = 0 < time
IsLoss here o = ⊥

-- where it stands, and who waits, is as it was, and it does nothing else
pub record Stays (t u : TurnView) : Type 0 where
  pub here : u.here ≡ t.here
  pub stand : u.state.stand ≡ t.state.stand
  pub mail : u.state.mail ≡ t.state.mail
  pub permits : u.state.p_reqs ≡ t.state.p_reqs
  pub parked : u.state.parked ≡ t.state.parked
  pub losses : All (IsLoss t.here) t.out → All (IsLoss t.here) u.out

nothing : (t : TurnView) → Stays t t
nothing t = record { here = refl; stand = refl; mail = refl; permits = refl; parked = refl; losses = λ all. all }

both : (t u v : TurnView) → Stays t u → Stays u v → Stays t v
both t u v p q = record {
  here = q.here ∙ p.here;
  stand = q.stand ∙ p.stand;
  mail = q.mail ∙ p.mail;
  permits = q.permits ∙ p.permits;
  parked = q.parked ∙ p.parked;
  losses = λ all. subst (λ (h : Here). All (IsLoss h) v.out) p.here
      (q.losses (subst (λ (h : Here). All (IsLoss h) u.out) (sym p.here) (p.losses all)));
}

either : (t : TurnView) (b : Bool) (u v : TurnView) → Stays t u → Stays t v → Stays t (cond b u v)
either t true u v p q = p
either t false u v p q = q

one_of : {A : Type 0} (P : A → Type 0) (x : A) → P x → All P (x ∷ [])
one_of P x is = All-cons P x [] is (All-nil P)

tells : (a : App) (t : TurnView) → Stays t (to_controller (message.Change a change.NotRunning) t)
tells a t = record {
  here = refl;
  stand = refl;
  mail = refl;
  permits = refl;
  parked = refl;
  losses = λ all. All-append (IsLoss t.here) t.out (output.Send (no_more t.here a) ∷ []) all
      (one_of (IsLoss t.here) (output.Send (no_more t.here a)) (a, refl));
}

stands : (a : App) (s : Standing) (t : TurnView) → Stays t (set_standing a s t)
stands a s t = record { here = refl; stand = refl; mail = refl; permits = refl; parked = refl; losses = λ all. all }

loses : (n : Node) (a : App) (s : Standing) (t : TurnView) → Stays t (lose n a s t)
loses n a (standing.Distributed m) t =
    let told : TurnView = to_controller (message.Change a change.NotRunning) t in
    either t (not (m.0 == n.0)) t _ (nothing t)
    (either t (may_run t.state t.here.node a) (set_standing a (standing.Failover n) t) (set_standing a standing.Undefined told)
    (stands a (standing.Failover n) t) (both t told (set_standing a standing.Undefined told) (tells a t) (stands a standing.Undefined told)))
loses n a s t = nothing t

loses_each : (n : Node) (entries : List EntryView) (t : TurnView) → Stays t (lose_each n entries t)
loses_each n [] t = nothing t
loses_each n (e ∷ entries) t =
    let next : TurnView = lose n e.app (standing_of t.state e.app) t in
    both t next (lose_each n entries next) (loses n e.app (standing_of t.state e.app) t) (loses_each n entries next)

forgets : (n : Node) (t : TurnView) → Stays t (forget_node n t)
forgets n t = record { here = refl; stand = refl; mail = refl; permits = refl; parked = refl; losses = λ all. all }

unknows : (n : Node) (t : TurnView) → Stays t (unknow n t)
unknows n t = record { here = refl; stand = refl; mail = refl; permits = refl; parked = refl; losses = λ all. all }

-- where nobody waits for a permission
none_waits : (n : Node) (t : TurnView) → t.state.p_reqs ≡ [] → check_waiting n t ≡ with_waits [] t
unfolding check_waiting
none_waits n t none = ap (λ rows. check_each n true [] rows t) none

checks : (n : Node) (t : TurnView) → t.state.p_reqs ≡ [] → Stays t (check_waiting n t)
checks n t none =
    subst (Stays t) (sym (none_waits n t none))
    (record { here = refl; stand = refl; mail = refl; permits = sym none; parked = refl; losses = λ all. all })

times : (a : App) (timeout : ℕ) (t : TurnView) → 0 < timeout → Stays t (set_timer a timeout t)
times a timeout t later = record {
  here = refl;
  stand = refl;
  mail = refl;
  permits = refl;
  parked = refl;
  losses = λ all. All-append (IsLoss t.here) t.out _ all (one_of (IsLoss t.here) _ later);
}

abbrev IsLater : App × ℕ → Type 0
IsLater row = 0 < row.1

times_each : (rows : List (App × ℕ)) (t : TurnView) → All IsLater rows → Stays t (time_each rows t)
times_each [] t later = nothing t
times_each (row ∷ rows) t later =
    let next : TurnView = set_timer row.0 row.1 t in
    both t next (time_each rows next) (times row.0 row.1 t (All-head IsLater row rows later))
    (times_each rows next (All-tail IsLater row rows later))

all_turned : {A : Type 0} (P : A → Type 0) (xs : List A) → All P xs → All P (reverse xs)
all_turned P [] all = all
all_turned P (x ∷ xs) all =
    subst (All P) (sym (reverse-append (x ∷ []) xs))
    (All-append P (reverse xs) (x ∷ []) (all_turned P xs (All-tail P x xs all)) (one_of P x (All-head P x xs all)))

all_later : (n : Node) (t : TurnView) → All (λ (e : EntryView). 0 < e.timeout) t.own.entries → All IsLater (reverse (lost_with n t))
all_later n t later =
    all_turned IsLater (lost_with n t)
    (All-map IsLater (λ (e : EntryView). (e.app, e.timeout)) (filter (λ (e : EntryView). is_lost n t e.app) t.own.entries)
    (All-filter (λ (e : EntryView). is_lost n t e.app) (λ (e : EntryView). 0 < e.timeout) t.own.entries later))

pub sees_down : (n : Node) (t : TurnView) → t.state.p_reqs ≡ [] → All (λ (e : EntryView). 0 < e.timeout) t.own.entries
    → Stays t (node_down n t)
unfolding node_down
sees_down n t none later =
    let lost : TurnView = lose_each n t.own.entries t in
    let forgot : TurnView = forget_node n lost in
    let checked : TurnView = check_waiting n forgot in
    let unknown : TurnView = unknow n checked in
    let to_lost : Stays t lost = loses_each n t.own.entries t in
    let to_forgot : Stays t forgot = both t lost forgot to_lost (forgets n lost) in
    let to_checked : Stays t checked = both t forgot checked to_forgot (checks n forgot (to_forgot.permits ∙ none)) in
    let to_unknown : Stays t unknown = both t checked unknown to_checked (unknows n checked) in
    both t unknown (time_each (reverse (lost_with n t)) unknown) to_unknown (times_each (reverse (lost_with n t)) unknown (all_later n t later))

-- ---- whatever the weight of its node is

lose_so : (w : ℕ) (n : Node) (a : App) (s : Standing) (t : TurnView) → lose n a s (weighing w t) ≡ weighing w (lose n a s t)
lose_so w n a (standing.Distributed m) t =
    by (not (m.0 == n.0)) (may_run t.state t.here.node a) (set_standing a (standing.Failover n) t)
    (set_standing a standing.Undefined (to_controller (message.Change a change.NotRunning) t))
  where
    by : (b c : Bool) (u v : TurnView) → cond b (weighing w t) (cond c (weighing w u) (weighing w v)) ≡ weighing w (cond b t (cond c u v))
    by true c u v = refl
    by false true u v = refl
    by false false u v = refl
lose_so w n a s t = refl

lose_each_so : (w : ℕ) (n : Node) (entries : List EntryView) (t : TurnView)
    → lose_each n entries (weighing w t) ≡ weighing w (lose_each n entries t)
lose_each_so w n [] t = refl
lose_each_so w n (e ∷ entries) t =
    ap (lose_each n entries) (lose_so w n e.app (standing_of t.state e.app) t)
    ∙ lose_each_so w n entries (lose n e.app (standing_of t.state e.app) t)

check_so : (w : ℕ) (n : Node) (t : TurnView) → t.state.p_reqs ≡ [] → check_waiting n (weighing w t) ≡ weighing w (check_waiting n t)
check_so w n t none = none_waits n (weighing w t) none ∙ sym (ap (weighing w) (none_waits n t none))

time_each_so : (w : ℕ) (rows : List (App × ℕ)) (t : TurnView) → time_each rows (weighing w t) ≡ weighing w (time_each rows t)
time_each_so w [] t = refl
time_each_so w (row ∷ rows) t = time_each_so w rows (set_timer row.0 row.1 t)

pub down_so : (w : ℕ) (n : Node) (t : TurnView) → t.state.p_reqs ≡ [] → node_down n (weighing w t) ≡ weighing w (node_down n t)
unfolding node_down
down_so w n t none =
    let lost : TurnView = lose_each n t.own.entries t in
    let forgot : TurnView = forget_node n lost in
    let rows : List (App × ℕ) = reverse (lost_with n t) in
    ap (λ (u : TurnView). time_each rows (unknow n (check_waiting n (forget_node n u)))) (lose_each_so w n t.own.entries t)
    ∙ ap (λ (u : TurnView). time_each rows (unknow n u)) (check_so w n forgot ((loses_each n t.own.entries t).permits ∙ none))
    ∙ time_each_so w rows (unknow n (check_waiting n forgot))

-- ---- what comes of it

plain_loss : (h : Here) (o : Output) → IsLoss h o → IsPlain o
plain_loss h (output.Send e) loss = tt
plain_loss h (output.After time m) loss = loss
plain_loss h (output.Tell e) loss = absurd loss
plain_loss h (output.ToDist m x) loss = absurd loss
plain_loss h (output.Monitor m) loss = absurd loss
plain_loss h (output.Free r p) loss = absurd loss

pub plain_losses : (h : Here) (outs : List Output) → All (IsLoss h) outs → All IsPlain outs
plain_losses h outs losses = All-weaker (IsLoss h) IsPlain (plain_loss h) outs losses

-- each message tells its node's controller that an application runs nowhere
pub letters_so : (h : Here) (P : Envelope → Type 0) → ((a : App) → P (no_more h a)) → (outs : List Output) → All (IsLoss h) outs
    → All P (letters outs)
letters_so h P so [] losses = All-nil P
letters_so h P so (output.Send e ∷ outs) losses =
    let here : (a : App) × (e ≡ no_more h a) = All-head (IsLoss h) (output.Send e) outs losses in
    All-cons P e (letters outs) (subst P (sym here.1) (so here.0))
    (letters_so h P so outs (All-tail (IsLoss h) (output.Send e) outs losses))
letters_so h P so (output.After time m ∷ outs) losses = letters_so h P so outs (All-tail (IsLoss h) (output.After time m) outs losses)
letters_so h P so (output.Tell e ∷ outs) losses = absurd (All-head (IsLoss h) (output.Tell e) outs losses)
letters_so h P so (output.ToDist m x ∷ outs) losses = absurd (All-head (IsLoss h) (output.ToDist m x) outs losses)
letters_so h P so (output.Monitor m ∷ outs) losses = absurd (All-head (IsLoss h) (output.Monitor m) outs losses)
letters_so h P so (output.Free r p ∷ outs) losses = absurd (All-head (IsLoss h) (output.Free r p) outs losses)
