-- A call that starts an application, or permits it, where nodes were at rest and the node's dist_ac doesn't control it.
use Rattle.std.proofs.Common.{◌≡◌, ◌⊎◌, ◌∷◌, ℕ, Bool, true, false, cond, List, [], refl, sym, ap, subst, ◌∙◌, inl, inr}
use Rattle.std.proofs.lemmas.Bool.{cases_Bool, false≢true}
use Rattle.rh_model.specs.declared.node.App.{App}
use Rattle.rh_model.specs.declared.node.Node.{Node}
use Rattle.rh_otp_model.specs.declared.message.Message.{Message}
use Rattle.rh_otp_model.specs.declared.message.Message.TheVariants as message
use Rattle.rh_otp_model.specs.declared.output.Envelope.{Envelope}
use Rattle.rh_otp_model.specs.declared.process.Process.{Process}
use Rattle.rh_otp_controller.specs.Changes.{received}
use Rattle.rh_otp_controller.specs.State.{TurnView}
use Rattle.rh_otp_system.specs.declared.calls.Ask.{Ask}
use Rattle.rh_otp_system.specs.declared.calls.Ask.TheVariants as ask
use Rattle.rh_otp_system.specs.declared.calls.Call.{Call}
use Rattle.rh_otp_system.specs.declared.calls.Stage.TheVariants as stage
use Rattle.rh_otp_system.specs.declared.slow.Answered.{Answered}
use Rattle.rh_otp_system.specs.Calls.{message_of, is_takeover}
use Rattle.rh_otp_system.specs.Delivering.{arrived}
use Rattle.rh_otp_system.specs.Doing.{called, call_of}
use Rattle.rh_otp_system.specs.Moves.{here}
use Rattle.rh_otp_system.specs.State.{SystemView, node_at, is_alive_at}
use Rattle.rh_otp_laws.specs.Acting.{IsReached, later, acts, calls}
use Rattle.rh_otp_laws.proofs.Hanging.{settled_stays_so}
use Rattle.rh_otp_orders.specs.Confluence.{IsOrderly}
use Rattle.rh_otp_orders.proofs.Confluence.{orderly_alike, picks_alike}
use Rattle.rh_otp_orders.proofs.Moving.{reached_order}
use Rattle.rh_otp_crashes.specs.Crashes.{AreAtRest, FailOverLater}
use Rattle.rh_otp_crashes.proofs.Crash.{none_ends, lives_of}
use Rattle.rh_otp_crashes.proofs.Peace.{here_in, without}
use Rattle.rh_otp_locks.proofs.Locks.{none_of_calls}
use Rattle.rh_otp_stops.specs.Stops.{EndsAlike}
use Rattle.rh_otp_stops.proofs.Saying.{its_answer}
use Rattle.rh_otp_stops.proofs.Stop.{its_call, turn_at, asked, call_asks}
use Rattle.rh_otp_starts.specs.Starts.{IsOverBefore, StartsEndAlike, PermitsEndAlike}
use Rattle.rh_otp_starts.proofs.Alone.{Waits, first_orderly, lost, answered}
use Rattle.rh_otp_starts.proofs.Turns.{Turn, Behind, controller_of, quiet_orderly, takes_turn}
use Rattle.rh_otp_starts.proofs.Saying.{Ends, Goes, IsLast, none, answer, ends, starts, it_started, goes_start, goes_permit}

-- ---- the last message

pub last_orderly : {lives : Node → ℕ} {c : Call} {l : List Envelope} (s : SystemView) → Waits lives c true l s
    → IsLast (here_in lives c.node) c l → IsOrderly s
last_orderly s f none = quiet_orderly s f
last_orderly {lives} {c} s f (answer o known) =
    first_orderly (its_answer (here_in lives c.node) c o) s f (quiet_orderly _ (answered o s f known))

-- ---- what the controller does

-- it is told something, and says no more than this
pub told_orderly : {lives : Node → ℕ} {c : Call} (from : Process) (m : Message) (s : SystemView)
    → Waits lives c true (record { from = from; to = controller_of c.node (lives c.node); message = m } ∷ []) s
    → Ends (turn_at s c.node).here c (received m (turn_at s c.node)) → IsOrderly s
told_orderly {lives} {c} from m s f over = first_orderly e s f (by (cases_Bool (is_alive_at s c.node)))
  where
    e : Envelope
    e = record { from = from; to = controller_of c.node (lives c.node); message = m }

    by : (is_alive_at s c.node ≡ true) ⊎ (is_alive_at s c.node ≡ false) → IsOrderly (arrived e.to e.message (without s []))
    by (inl alive) =
        let behind : Behind lives c (received m (turn_at s c.node)) over.more (arrived e.to e.message (without s [])) s =
        takes_turn (lives c.node) m s f refl alive over.turn in
        last_orderly _ behind.still
        (subst (λ (k : ℕ). IsLast (record { node = c.node; life = k }) c over.more) (f.same_lives c.node) over.last)
    by (inr dead) = quiet_orderly _ (lost e.to m s f dead)

-- the call is all that is on its way
pub asked_orderly : {lives : Node → ℕ} {c : Call} (s : SystemView) → Waits lives c true (its_call c ∷ []) s
    → Goes c (turn_at s c.node) (received (message_of c) (turn_at s c.node))
    → IsOrderly s
asked_orderly {lives} {c} s f goes = first_orderly e s f (by (cases_Bool (is_alive_at s c.node)) goes)
  where
    e : Envelope
    e = its_call c

    t : TurnView
    t = turn_at s c.node

    u : TurnView
    u = received e.message t

    q : SystemView
    q = arrived e.to e.message (without s [])

    behind : {more : List Envelope} → is_alive_at s c.node ≡ true → Turn c.node u more → Behind lives c u more q s
    behind alive turn = takes_turn c.life e.message s f (sym f.life) alive turn

    by : (is_alive_at s c.node ≡ true) ⊎ (is_alive_at s c.node ≡ false) → Goes c t u → IsOrderly q
    by (inl alive) (ends over) =
        last_orderly q (behind alive over.turn).still
        (subst (λ (k : ℕ). IsLast (record { node = c.node; life = k }) c over.more) (f.same_lives c.node) over.last)
    by (inl alive) (starts error turn next) =
        let on : Behind lives c u (it_started t.here c error ∷ []) q s = behind alive turn in
        told_orderly (it_started (here_in lives c.node) c error).from (message.ApplicationStarted c.app error) q
        (subst (λ (k : ℕ). Waits lives c true (it_started (record { node = c.node; life = k }) c error ∷ []) q) (f.same_lives c.node) on.still)
        (subst (λ (x : TurnView). Ends x.here c (received (message.ApplicationStarted c.app error) x)) (sym on.turn) next)
    by (inr dead) goes_on = quiet_orderly q (lost e.to e.message s f dead)

-- ---- the call is made

-- whoever has answered whom before
abbrev pub asked_so : List Answered → Call → SystemView → SystemView
asked_so answers c s = record (asked c s) { answers = answers }

is_asked : (answers : List Answered) (c : Call) (s : SystemView) → IsReached s → AreAtRest s
    → (s.ends_soon ≡ true → FailOverLater s) → c.stage ≡ stage.Controller → c.life ≡ (node_at s c.node).life
    → Waits (lives_of s) c true (its_call c ∷ []) (asked_so answers c s)
is_asked answers c s reached rest later_on staged life = record {
  messages = refl;
  slow = (settled_stays_so s s rest.settled (here s)).0.1;
  dists = rest.dists;
  ends = λ m alive other. none_ends s m reached rest.settled alive;
  later = later_on;
  listed = reached_order s reached;
  same_lives = λ m. refl;
  stage = stage.Controller;
  calls = λ i. record c { stage = staged i } ∷ [];
  waits = λ call q. refl;
  life = life;
  locks = none_of_calls s reached rest;
}

-- a call that asks the controller first, and is orderly from there
pub command_alike : (k : Ask) (s : SystemView) (n : Node) (a : App) → is_takeover k ≡ false → IsReached s → AreAtRest s
    → (s.ends_soon ≡ true → FailOverLater s)
    → ((answers : List Answered) → Waits (lives_of s) (call_of k n a s) true (its_call (call_of k n a s) ∷ []) (asked_so answers (call_of k n a s) s)
    → IsOrderly (asked_so answers (call_of k n a s) s))
    → EndsAlike (called k n a s)
command_alike k s n a first reached rest later_on order = (
  orderly_alike t reached_t (subst IsOrderly (sym so) (ordered s.answers)),
  λ most one other quiet quiet_too.
      picks_alike t most one other reached_t (subst (λ (x : SystemView). IsOrderly (record x { answers = [] })) (sym so) (ordered [])) quiet quiet_too,
)
  where
    c : Call
    c = call_of k n a s

    t : SystemView
    t = called k n a s

    so : t ≡ asked c s
    so = call_asks k s n a first rest

    reached_t : IsReached t
    reached_t = later s t reached (acts s t (calls s k n a))

    staged : c.stage ≡ stage.Controller
    staged = ap (λ (b : Bool). cond b stage.Synchronised stage.Controller) first

    ordered : (answers : List Answered) → IsOrderly (asked_so answers c s)
    ordered answers = order answers (is_asked answers c s reached rest later_on staged refl)

pub over_before : (s : SystemView) → IsOverBefore s → s.ends_soon ≡ true → FailOverLater s
over_before s before soon = absurd (false≢true (sym before ∙ soon))

pub starts_alike : StartsEndAlike
starts_alike s n a restart reached rest soon local =
    let c : Call = call_of (ask.Start restart) n a s in
    command_alike (ask.Start restart) s n a refl reached rest (over_before s soon)
    (λ answers f. asked_orderly (asked_so answers c s) f (goes_start c restart (turn_at s n) local))

pub permits_alike : PermitsEndAlike
permits_alike s n a reached rest soon local nobody =
    let c : Call = call_of (ask.Permit true) n a s in
    command_alike (ask.Permit true) s n a refl reached rest (over_before s soon)
    (λ answers f. asked_orderly (asked_so answers c s) f (goes_permit c (turn_at s n) local nobody))
