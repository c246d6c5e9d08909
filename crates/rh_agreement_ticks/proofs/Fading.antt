-- Where a node has ended that no dist_ac has for one at which an application runs, messages tell of its end, and nothing comes of them:
-- none leads to another one, or to a timer.
use Rattle.std.proofs.Common.{◌≡◌, ◌⊎◌, ◌<◌, ◌==◌, ◌&&◌, ℕ, zero, suc, Bool, true, false, not, cond, List, [], ◌∷◌, filter, map, length, reverse, Option, Some, None, refl, sym, ap, subst, ◌∙◌, inl, inr, arith}
use Rattle.std.proofs.lemmas.Bool.{cases_Bool, eqb-true}
use Rattle.std.proofs.lemmas.Option.{none-some, same_Some}
use Rattle.rh_model.specs.declared.node.App.{App}
use Rattle.rh_model.specs.declared.node.Node.{Node}
use Rattle.rh_otp_model.specs.declared.message.Change.TheVariants as change
use Rattle.rh_otp_model.specs.declared.message.Message.TheVariants as message
use Rattle.rh_otp_model.specs.declared.output.Envelope.{Envelope}
use Rattle.rh_otp_model.specs.declared.process.Process.{Process}
use Rattle.rh_otp_model.specs.Own.{EntryView}
use Rattle.rh_otp_dist.specs.declared.state.Stand.TheVariants as stand
use Rattle.rh_otp_dist.specs.declared.state.Standing.{Standing}
use Rattle.rh_otp_dist.specs.declared.state.Standing.TheVariants as standing
use Rattle.rh_otp_dist.specs.Choosing.{is_node, runs_at}
use Rattle.rh_otp_dist.specs.Down.{lose, lose_each, lost_with, is_lost, time_each, check_each, check_waiting, forget_node, unknow, node_down}
use Rattle.rh_otp_dist.specs.Outside.{with_message}
use Rattle.rh_otp_dist.specs.Sending.{to_controller}
use Rattle.rh_otp_dist.specs.State.{DistView, TurnView, standing_of, may_run}
use Rattle.rh_otp_dist.specs.Told.{set_standing, with_waits}
use Rattle.rh_otp_net.specs.declared.order.Order.{Order}
use Rattle.rh_otp_net.specs.declared.timers.Timer.{Timer}
use Rattle.rh_otp_net.specs.Order.{place_in, next_order}
use Rattle.rh_otp_node.specs.Live.{LiveView, is_alive}
use Rattle.rh_otp_system.specs.declared.moves.Move.{Move}
use Rattle.rh_otp_system.specs.declared.moves.Move.TheVariants as move
use Rattle.rh_otp_system.specs.declared.slow.Slow.{Slow}
use Rattle.rh_otp_system.specs.Delivering.{arrived, controlled}
use Rattle.rh_otp_system.specs.Moves.{Delivers, Reaches, here, behind_one, made, slow_or_more, message_or_more, is_quiet_by, is_quiet_behind}
use Rattle.rh_otp_system.specs.State.{SystemView, live_at, node_at, with_node, is_alive_at}
use Rattle.rh_otp_system.specs.Working.{mailed}
use Rattle.rh_otp_laws.proofs.Nodes.{alive_is_there, as_it_was_or_written}
use Rattle.rh_otp_crashes.specs.Crashes.{IsUnoccupied}
use Rattle.rh_otp_crashes.proofs.Crossing.{same_node}
use Rattle.rh_otp_crashes.proofs.Deeds.{cleared, comes_so}
use Rattle.rh_otp_crashes.proofs.Downing.{no_more, down_so}
use Rattle.rh_otp_crashes.proofs.Falling.{IsFallout, tells, clears, Fallout, end_told, goes_on}
use Rattle.rh_otp_crashes.proofs.Peace.{AtEase, Delivered, here_in, without, only_messages, arrives_alive, arrives_dead}
use Rattle.rh_otp_crashes.proofs.Turning.{own_in, node_is, turn, weighing, none_on, waits_on, idle_comes}
use Rattle.rh_otp_ticks.proofs.Muting.{taken_fewer}
use Rattle.rh_agreement.proofs.Bounded.{place_within}
use Rattle.rh_agreement_ticks.proofs.Running.{none_quiet}

-- ---- a dist_ac that has no application as running at the node

abbrev pub HasNoneAt : Node → DistView → Type 0
HasNoneAt n d = (a : App) → standing_of d a ≡ standing.Distributed n → ⊥

loses_none : (n : Node) (a : App) (st : Standing) (t : TurnView) → (st ≡ standing.Distributed n → ⊥) → lose n a st t ≡ t
loses_none n a (standing.Distributed m) t none = by (m.0 == n.0) refl
  where
    lost : TurnView
    lost = set_standing a (standing.Failover n) t

    told : TurnView
    told = set_standing a standing.Undefined (to_controller (message.Change a change.NotRunning) t)

    by : (b : Bool) → (m.0 == n.0) ≡ b → cond (not b) t (cond (may_run t.state t.here.node a) lost told) ≡ t
    by true is = absurd (none (ap standing.Distributed (same_node m n (eqb-true m.0 n.0 is))))
    by false is = refl
loses_none n a st t none = refl

all_stay : (n : Node) (entries : List EntryView) (t : TurnView) → HasNoneAt n t.state → lose_each n entries t ≡ t
all_stay n [] t none = refl
all_stay n (e ∷ entries) t none =
    ap (lose_each n entries) (loses_none n e.app (standing_of t.state e.app) t (none e.app)) ∙ all_stay n entries t none

runs_elsewhere : (n : Node) (st : Standing) (b : Bool) → (st ≡ standing.Distributed n → ⊥) → is_node n (runs_at st) && b ≡ false
runs_elsewhere n (standing.Distributed m) b none = by (m.0 == n.0) refl
  where
    by : (c : Bool) → (m.0 == n.0) ≡ c → c && b ≡ false
    by true is = absurd (none (ap standing.Distributed (same_node m n (eqb-true m.0 n.0 is))))
    by false is = refl
runs_elsewhere n st b none = refl

none_passes : {A : Type 0} (p : A → Bool) (xs : List A) → ((x : A) → p x ≡ false) → filter p xs ≡ []
none_passes p [] none = refl
none_passes p (x ∷ xs) none =
    ap (λ (b : Bool). cond b (x ∷ filter p xs) (filter p xs)) (none x) ∙ none_passes p xs none

none_lost : (n : Node) (t : TurnView) → HasNoneAt n t.state → lost_with n t ≡ []
none_lost n t none =
    ap (λ (rows : List EntryView). map_rows rows)
    (none_passes (λ (e : EntryView). is_lost n t e.app) t.own.entries
    (λ e. runs_elsewhere n (standing_of t.state e.app) (may_run t.state t.here.node e.app) (none e.app)))
  where
    map_rows : List EntryView → List (App × ℕ)
    map_rows rows = map (λ (e : EntryView). (e.app, e.timeout)) rows

-- the node is known no more, and nothing else
abbrev unknown : Node → TurnView → TurnView
unknown n t = unknow n (with_waits [] (forget_node n t))

hears_so : (n : Node) (t : TurnView) → t.state.p_reqs ≡ [] → HasNoneAt n t.state → node_down n t ≡ unknown n t
unfolding node_down check_waiting
hears_so n t permits none =
    (λ i. time_each (reverse (none_lost n t none i)) (unknow n (check_waiting n (forget_node n (all_stay n t.own.entries t none i)))))
    ∙ ap (λ rows. unknow n (check_each n true [] rows (forget_node n t))) permits

-- ---- so it is of all

-- no dist_ac of a node that is alive has an application as running there
abbrev pub Nowhere : Node → SystemView → Type 0
Nowhere n s = (m : Node) (d : DistView) → is_alive_at s m ≡ true → (node_at s m).dist ≡ Some d → HasNoneAt n d

-- nothing more is on its way, no timer was set, and so it is still
record Quietly (n : Node) (s t : SystemView) : Type 0 where
  messages : t.messages ≡ s.messages
  timers : t.timers ≡ s.timers
  nowhere : Nowhere n t

same_quietly : (n : Node) (s : SystemView) → Nowhere n s → Quietly n s s
same_quietly n s none = record { messages = refl; timers = refl; nowhere = none }

-- a node is written whose dist_ac has none there
written : (n m : Node) (w : LiveView) (s : SystemView) → Nowhere n s → ((d : DistView) → w.dist ≡ Some d → HasNoneAt n d)
    → Quietly n s (with_node m w s)
written n m w s none has_none = record {
  messages = refl;
  timers = refl;
  nowhere = λ k d alive has. by k d alive has (as_it_was_or_written s m k w);
}
  where
    by : (k : Node) (d : DistView) → is_alive_at (with_node m w s) k ≡ true → (node_at (with_node m w s) k).dist ≡ Some d
        → (node_at (with_node m w s) k ≡ node_at s k) ⊎ ((k.0 ≡ m.0) × (node_at (with_node m w s) k ≡ w)) → HasNoneAt n d
    by k d alive has (inl same) = none k d (sym (ap is_alive same) ∙ alive) (sym (ap (λ (v : LiveView). v.dist) same) ∙ has)
    by k d alive has (inr is) = has_none d (sym (ap (λ (v : LiveView). v.dist) is.1) ∙ has)

-- ---- a message arrives

-- a dist_ac is told of the end
module _ (n m : Node) (s : SystemView) (none : Nowhere n s) (v : LiveView) (there : live_at s m ≡ Some v)
    (alive : is_alive_at s m ≡ true) where
  abbrev arrives_there : SystemView
  arrives_there = mailed m (message.NodeDown n) s

  none_here : (d : DistView) → v.dist ≡ Some d → HasNoneAt n d
  none_here d has = none m d alive (ap (λ (w : LiveView). w.dist) (node_is s m v there) ∙ has)

  hears_idle : (d : DistView) → v.dist ≡ Some d → IsUnoccupied d → d.stand ≡ stand.Idle → Quietly n s arrives_there
  hears_idle d has free is =
      let t : TurnView = turn s.cluster (own_in s.files m) m v.life d in
      let over : TurnView = unknown n t in
      subst (Quietly n s)
      (sym (idle_comes s.cluster s.files m v.life (message.NodeDown n) d over free is refl
      (λ w. down_so w n t free.permits ∙ ap (weighing w) (hears_so n t free.permits (none_here d has))) s v there has refl refl refl))
      (written n m (record v { dist = Some over.state }) s none
      (λ e is_e. subst (HasNoneAt n) (same_Some over.state e is_e) (none_here d has)))

  hears_waiting : (d : DistView) → v.dist ≡ Some d → IsUnoccupied d → d.stand ≡ stand.ForGo → Quietly n s arrives_there
  hears_waiting d has free is =
      let next : DistView = with_message (message.NodeDown n) d in
      subst (Quietly n s) (sym (waits_on m (message.NodeDown n) s v d there has free is refl))
      (written n m (record v { dist = Some next }) s none
      (λ e is_e. subst (HasNoneAt n) (same_Some next e is_e) (none_here d has)))

  hears_by : (d : DistView) → v.dist ≡ Some d → IsUnoccupied d → (d.stand ≡ stand.Idle) ⊎ (d.stand ≡ stand.ForGo)
      → Quietly n s arrives_there
  hears_by d has free (inl is) = hears_idle d has free is
  hears_by d has free (inr is) = hears_waiting d has free is

  hears_if : (o : Option DistView) → v.dist ≡ o → ((d : DistView) → v.dist ≡ Some d → IsUnoccupied d) → Quietly n s arrives_there
  hears_if None is free =
      subst (Quietly n s) (sym (none_on m (message.NodeDown n) s v there is))
      (written n m (record v { dist = None }) s none (λ e is_e. absurd (none-some e is_e)))
  hears_if (Some d) has free = hears_by d has (free d has) (free d has).stand

hears : {lives : Node → ℕ} {gone : Process} (m : Node) (s : SystemView) → Fallout lives gone s → Nowhere gone.node s
    → is_alive_at s m ≡ true → Quietly gone.node s (mailed m (message.NodeDown gone.node) s)
hears {lives} {gone} m s f none alive =
    let at : (v : LiveView) × (live_at s m ≡ Some v) = alive_is_there s m alive in
    hears_if gone.node m s none at.0 at.1 alive at.0.dist refl
    (λ d has. f.peace.dists m d alive (ap (λ (v : LiveView). v.dist) (node_is s m at.0 at.1) ∙ has))

-- a controller hears that an application runs nowhere
learns : (n m : Node) (a : App) (s : SystemView) → Nowhere n s → is_alive_at s m ≡ true
    → Quietly n s (controlled m (message.Change a change.NotRunning) s)
learns n m a s none alive =
    let at : (v : LiveView) × (live_at s m ≡ Some v) = alive_is_there s m alive in
    subst (Quietly n s) (sym (comes_so m a s at.0 at.1))
    (written n m (record at.0 { controller = cleared a at.0.controller }) s none
    (λ d has. none m d alive (ap (λ (v : LiveView). v.dist) (node_is s m at.0 at.1) ∙ has)))

arrives : {lives : Node → ℕ} {gone : Process} (e : Envelope) (s : SystemView) → IsFallout lives gone e → Fallout lives gone s
    → Nowhere gone.node s → Quietly gone.node s (arrived e.to e.message s)
arrives {lives} {gone} _ s (tells m) f none = by (cases_Bool (is_alive_at s m))
  where
    e : Envelope
    e = end_told lives gone m

    by : (is_alive_at s m ≡ true) ⊎ (is_alive_at s m ≡ false) → Quietly gone.node s (arrived e.to e.message s)
    by (inl alive) =
        subst (Quietly gone.node s) (sym (arrives_alive e.to e.message s alive (f.peace.same_lives m))) (hears m s f none alive)
    by (inr dead) = subst (Quietly gone.node s) (sym (arrives_dead e.to e.message s dead)) (same_quietly gone.node s none)
arrives {lives} {gone} _ s (clears m a) f none = by (cases_Bool (is_alive_at s m))
  where
    e : Envelope
    e = no_more (here_in lives m) a

    by : (is_alive_at s m ≡ true) ⊎ (is_alive_at s m ≡ false) → Quietly gone.node s (arrived e.to e.message s)
    by (inl alive) =
        subst (Quietly gone.node s) (sym (arrives_alive e.to e.message s alive (f.peace.same_lives m)))
        (learns gone.node m a s none alive)
    by (inr dead) = subst (Quietly gone.node s) (sym (arrives_dead e.to e.message s dead)) (same_quietly gone.node s none)

-- ---- move by move

-- All else is at rest, these timers are set, and no dist_ac has an application as running there.
pub record Fades (lives : Node → ℕ) (gone : Process) (rows : List Timer) (s : SystemView) : Type 0 where
  pub fallout : Fallout lives gone s
  pub timers : s.timers ≡ rows
  pub nowhere : Nowhere gone.node s

fades_on : {lives : Node → ℕ} {gone : Process} {rows : List Timer} (s t : SystemView) → Fades lives gone rows s → Delivers s t
    → Fades lives gone rows t × (length s.messages ≡ suc (length t.messages))
fades_on {lives} {gone} {rows} s t f one =
    let d : Delivered AtEase (IsFallout lives gone) lives s t = only_messages s t f.fallout.peace one in
    let left : SystemView = without s d.left in
    let q : Quietly gone.node left (arrived d.message.to d.message.message left) =
    arrives d.message left d.kind (record { peace = d.still; later = f.fallout.later }) f.nowhere in
    let so : Quietly gone.node left t = subst (Quietly gone.node left) (sym d.is) q in (
      record { fallout = goes_on s t f.fallout one; timers = so.timers ∙ f.timers; nowhere = so.nowhere },
      taken_fewer d.message s.messages d.left d.taken ∙ ap (λ (l : List Envelope). suc (length l)) (sym so.messages),
    )

pub fades_until : {lives : Node → ℕ} {gone : Process} {rows : List Timer} (s t : SystemView) → Reaches s t → Fades lives gone rows s
    → Fades lives gone rows t
fades_until _ _ (here s) f = f
fades_until _ _ (behind_one s t u one rest) f = fades_until t u rest (fades_on s t f one).0

-- with a move for each message nothing moves any more
pub fades_soon : {lives : Node → ℕ} {gone : Process} {rows : List Timer} (k : ℕ) (order : Order) (s : SystemView)
    → Fades lives gone rows s → length s.messages < k → is_quiet_behind k order s ≡ true
fades_soon zero order s f few = absurd (omega (arith, few))
fades_soon {lives} {gone} {rows} (suc k) order s f few = by s.messages refl (λ t. fades_soon k (next_order order) t)
  where
    go_on : SystemView → Bool
    go_on = is_quiet_behind k (next_order order)

    by : (messages : List Envelope) → s.messages ≡ messages
        → ((t : SystemView) → Fades lives gone rows t → length t.messages < k → go_on t ≡ true)
        → is_quiet_by go_on (message_or_more order messages s) s ≡ true
    by [] none rest =
        ap (λ (slow : List Slow). is_quiet_by go_on (slow_or_more order slow s) s) f.fallout.peace.slow
        ∙ ap (λ (next : Option Move). is_quiet_by go_on next s) (none_quiet s f.fallout.peace)
    by (e ∷ messages) is rest =
        let place : ℕ = place_in order (length (e ∷ messages)) in
        let there : place < length s.messages =
        subst (λ (l : List Envelope). place < length l) (sym is) (place_within order (length (e ∷ messages)) (omega arith)) in
        let t : SystemView = made (move.Deliver place) s in
        let on : Fades lives gone rows t × (length s.messages ≡ suc (length t.messages)) =
        fades_on s t f (move.Deliver place, there, refl) in
        let less : length s.messages ≡ suc (length t.messages) = on.1 in
        rest t on.0 (omega (arith, less, few))
