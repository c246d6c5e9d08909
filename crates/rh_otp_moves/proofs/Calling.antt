-- A call that permits or forbids a distributed application, up to where it has its lock and asks dist_ac.
use Rattle.std.proofs.Common.{◌≡◌, ◌≢◌, ◌⊎◌, ◌&&◌, ◌||◌, ℕ, Bool, true, false, not, List, [], ◌∷◌, Some, refl, sym, ap, subst, ◌∙◌, inl, inr}
use Rattle.std.specs.Prelude.{All}
use Rattle.std.proofs.lemmas.Bool.{cases_Bool, cases_eq}
use Rattle.rh_model.specs.declared.node.Node.{Node}
use Rattle.rh_otp_model.specs.declared.message.Message.{Message}
use Rattle.rh_otp_model.specs.declared.output.Envelope.{Envelope}
use Rattle.rh_otp_model.specs.declared.output.Requester.TheVariants.{Alone}
use Rattle.rh_otp_model.specs.Own.{controls}
use Rattle.rh_otp_controller.specs.Changes.{received}
use Rattle.rh_otp_controller.specs.State.{TurnView as ControllerTurn}
use Rattle.rh_otp_dist.specs.State.{DistView}
use Rattle.rh_otp_net.specs.Links.{are_linked}
use Rattle.rh_otp_net.specs.Locks.{taken}
use Rattle.rh_otp_node.specs.Live.{LiveView}
use Rattle.rh_otp_node.specs.Turns.{controlled_by}
use Rattle.rh_otp_system.specs.declared.calls.Call.{Call}
use Rattle.rh_otp_system.specs.declared.calls.Stage.TheVariants as stage
use Rattle.rh_otp_system.specs.Calling.{is_known, is_only_loaded, is_synchronised_in}
use Rattle.rh_otp_system.specs.Calls.{process_of}
use Rattle.rh_otp_system.specs.Delivering.{arrived}
use Rattle.rh_otp_system.specs.Moves.{IsAmong, is_to_end}
use Rattle.rh_otp_system.specs.State.{SystemView, live_at, node_at, is_alive_at}
use Rattle.rh_otp_system.specs.Working.{alive_of, around}
use Rattle.rh_otp_laws.proofs.Nodes.{others_same, same_number}
use Rattle.rh_otp_orders.specs.Confluence.{IsOrderly}
use Rattle.rh_otp_crashes.specs.Crashes.{IsUnoccupied}
use Rattle.rh_otp_crashes.proofs.Crossing.{same_node}
use Rattle.rh_otp_crashes.proofs.Deeds.{AreLater}
use Rattle.rh_otp_crashes.proofs.Peace.{here_in, without, arrives_alive}
use Rattle.rh_otp_crashes.proofs.Turning.{own_in}
use Rattle.rh_otp_stops.proofs.Saying.{its_answer}
use Rattle.rh_otp_stops.proofs.Stop.{its_call, turn_at}
use Rattle.rh_otp_stops.proofs.Stopping.{there_is}
use Rattle.rh_otp_starts.proofs.Alone.{Waits, first_orderly, lost}
use Rattle.rh_otp_starts.proofs.Turns.{IsSaid, Carried, carries_said, controller_of, Turn, Behind, quiet_orderly, takes_turn}
use Rattle.rh_otp_permits.specs.Permits.{is_begun}
use Rattle.rh_otp_permits.proofs.Asking.{Says, nothing, says, first_answer, permit_says, waiting_call, told_call, its_permit, asked_second, goes_on}

-- The dist_ac is asked, and nothing else is on its way. The dist_acs and the other nodes are as they were before the call, and so are
-- what nodes see, and whether the command waits for nodes that end.
pub record Asked (lives : Node → ℕ) (c : Call) (allow only : Bool) (b s : SystemView) : Type 0 where
  pub messages : s.messages ≡ its_permit allow only c ∷ []
  pub slow : s.slow ≡ []
  pub dists : (n : Node) (d : DistView) → is_alive_at s n ≡ true → (node_at s n).dist ≡ Some d → IsUnoccupied d
  pub ends : (n : Node) → is_alive_at s n ≡ true → is_to_end n s ≡ false
  pub later : s.ends_soon ≡ true → (n : Node) → AreLater (own_in s.files n)
  pub among : (n : Node) → IsAmong n s.alive → is_alive_at s n ≡ true
  pub same_lives : (n : Node) → (node_at s n).life ≡ lives n
  pub calls : s.calls ≡ record (told_call allow only c) { stage = stage.DistAc } ∷ []
  pub life : c.life ≡ lives c.node
  pub locked : List Node
  pub locks : s.locks ≡ taken (Alone (process_of c)) (process_of c) locked []
  pub files : s.files ≡ b.files
  pub same_links : (n m : Node) → are_linked n m s.links ≡ are_linked n m b.links
  pub awake : (m : Node) → is_alive_at s m ≡ is_alive_at b m
  pub dist : (m : Node) → (node_at s m).dist ≡ (node_at b m).dist
  pub others : (m : Node) → m.0 ≢ c.node.0 → node_at s m ≡ node_at b m
  pub soon : s.ends_soon ≡ b.ends_soon

-- a controller's turn is nothing to how the command ends
soon_kept : {lives : Node → ℕ} {c : Call} {l : List Envelope} (life : ℕ) (x : Message) (s : SystemView) → Waits lives c true l s
    → lives c.node ≡ life → is_alive_at s c.node ≡ true → All (IsSaid c.node) (received x (turn_at s c.node)).out
    → (arrived (controller_of c.node life) x (without s [])).ends_soon ≡ s.ends_soon
unfolding controlled_by
soon_kept {lives} {c} {l} life x s f same alive said =
    let n : Node = c.node in
    let q : SystemView = without s [] in
    let u : ControllerTurn = received x (turn_at s n) in
    let old : LiveView = node_at s n in
    let done : Carried n q (record old { controller = u.state }) u.out =
    carries_said n u.out q old (record old { controller = u.state }) (there_is s n alive) said in
    ap (λ (y : SystemView). y.ends_soon) (arrives_alive (controller_of n life) x q alive (f.same_lives n ∙ same) ∙ done.is)

-- a controller's turn is nothing to other nodes
others_kept : {lives : Node → ℕ} {c : Call} {l : List Envelope} (life : ℕ) (x : Message) (s : SystemView) → Waits lives c true l s
    → lives c.node ≡ life → is_alive_at s c.node ≡ true → All (IsSaid c.node) (received x (turn_at s c.node)).out
    → (j : Node) → j.0 ≢ c.node.0 → node_at (arrived (controller_of c.node life) x (without s [])) j ≡ node_at s j
unfolding controlled_by
others_kept {lives} {c} {l} life x s f same alive said j other =
    let n : Node = c.node in
    let q : SystemView = without s [] in
    let u : ControllerTurn = received x (turn_at s n) in
    let old : LiveView = node_at s n in
    let there : live_at q n ≡ Some old = there_is s n alive in
    let done : Carried n q (record old { controller = u.state }) u.out =
    carries_said n u.out q old (record old { controller = u.state }) there said in
    ap (λ (y : SystemView). node_at y j) (arrives_alive (controller_of n life) x q alive (f.same_lives n ∙ same) ∙ done.is)
    ∙ others_same q n j done.new other

known_so : (begun : Bool) → is_known (first_answer begun) ≡ true
known_so true = refl
known_so false = refl

-- Where all that follows is orderly, the call is.
pub call_orderly : {lives : Node → ℕ} {c : Call} {allow : Bool} (s : SystemView)
    → Waits lives (waiting_call allow c) true (its_call (waiting_call allow c) ∷ []) s → s.calls ≡ waiting_call allow c ∷ [] → s.locks ≡ []
    → controls (own_in s.files c.node) c.app ≡ true → is_synchronised_in (node_at s c.node).dist ≡ true
    → ((t : SystemView) → Asked lives c allow (is_only_loaded (first_answer (is_begun c.app (node_at s c.node).controller))) s t
    → IsOrderly t)
    → IsOrderly s
call_orderly {lives} {c} {allow} s f calls none listed synchronised next =
    first_orderly e s f (by (cases_Bool (is_alive_at s n)) (permit_says (waiting_call allow c) allow t listed))
  where
    n : Node
    n = c.node

    e : Envelope
    e = its_call (waiting_call allow c)

    t : ControllerTurn
    t = turn_at s n

    u : ControllerTurn
    u = received e.message t

    q : SystemView
    q = arrived e.to e.message (without s [])

    behind : {more : List Envelope} → is_alive_at s n ≡ true → Turn n u more → Behind lives (waiting_call allow c) u more q s
    behind alive turned = takes_turn c.life e.message s f (sym f.life) alive turned

    begun : Bool
    begun = is_begun c.app t.state

    only : Bool
    only = is_only_loaded (first_answer begun)

    answered : is_alive_at s n ≡ true → All (IsSaid n) u.out
        → Behind lives (waiting_call allow c) u (its_answer t.here c (first_answer begun) ∷ []) q s → u.state.is_ending ≡ false
        → IsOrderly q
    answered up said on not_ending =
        first_orderly (its_answer (here_in lives n) c (first_answer begun)) q g
        (subst IsOrderly
        (sym (goes_on c allow (first_answer begun) (without q []) (known_so begun) (on.calls ∙ calls) (on.locks ∙ none) refl on.alive
        (on.still.same_lives n ∙ sym on.still.life) (ap is_synchronised_in on.dist ∙ synchronised)))
        (next (asked_second allow only c (without q [])) so))
      where
        g : Waits lives (waiting_call allow c) true (its_answer (here_in lives n) c (first_answer begun) ∷ []) q
        g = subst (λ (k : ℕ). Waits lives (waiting_call allow c) true (its_answer (record { node = n; life = k }) c (first_answer begun)
            ∷ []) q)
            (f.same_lives n) on.still

        keeps : (node_at q n).controller.is_ending ≡ false
        keeps = ap (λ (z : ControllerTurn). z.state.is_ending) on.turn ∙ not_ending

        ends : (m : Node) → is_alive_at q m ≡ true → (m.0 ≡ n.0) ⊎ (m.0 ≢ n.0) → is_to_end m q ≡ false
        ends m alive (inl same) =
            ap (λ (k : Node). is_to_end k q) (same_node m n same)
            ∙ ap (λ (b : Bool). b && (q.ends_soon || not (node_at q n).is_stopped)) keeps
        ends m alive (inr other) = on.still.ends m alive (λ may. other)

        dist_at : (m : Node) → (m.0 ≡ n.0) ⊎ (m.0 ≢ n.0) → (node_at q m).dist ≡ (node_at s m).dist
        dist_at m (inl same) =
            ap (λ (v : LiveView). v.dist) (same_number q m n same) ∙ on.dist
            ∙ sym (ap (λ (v : LiveView). v.dist) (same_number s m n same))
        dist_at m (inr other) = ap (λ (v : LiveView). v.dist) (others_kept c.life e.message s f (sym f.life) up said m other)

        so : Asked lives c allow only s (asked_second allow only c (without q []))
        so = record {
          messages = refl;
          slow = on.still.slow;
          dists = on.still.dists;
          ends = λ m alive. ends m alive (cases_eq m.0 n.0);
          later = on.still.later;
          among = on.still.listed;
          same_lives = on.still.same_lives;
          calls = refl;
          life = on.still.life;
          locked = alive_of (without q []) (around (without q []) n);
          locks = refl;
          files = on.files;
          same_links = λ j m. ap (are_linked j m) on.links;
          awake = on.awake;
          dist = λ m. dist_at m (cases_eq m.0 n.0);
          others = λ m other. others_kept c.life e.message s f (sym f.life) up said m other;
          soon = soon_kept c.life e.message s f (sym f.life) up said;
        }

    by : (is_alive_at s n ≡ true) ⊎ (is_alive_at s n ≡ false) → Says (waiting_call allow c) t u → IsOrderly q
    by (inl alive) (nothing turned) = quiet_orderly q (behind alive turned).still
    by (inl alive) (says turned not_ending) = answered alive turned.said (behind alive turned) not_ending
    by (inr dead) other = quiet_orderly q (lost e.to e.message s f dead)
