-- A call that starts an application, where nodes were at rest and the node's dist_ac can tell at once what comes of it.
use Rattle.std.proofs.Common.{◌≡◌, ◌⊎◌, ℕ, true, false, List, [], ◌∷◌, Option, Some, None, refl, sym, ap, subst, ◌∙◌, inl, inr}
use Rattle.std.proofs.lemmas.Bool.{cases_Bool, false≢true}
use Rattle.std.proofs.lemmas.Option.{none-some, same_Some}
use Rattle.rh_model.specs.declared.node.Node.{Node}
use Rattle.rh_otp_model.specs.declared.message.Message.TheVariants as message
use Rattle.rh_otp_model.specs.declared.message.Reply.{Reply}
use Rattle.rh_otp_model.specs.declared.output.Envelope.{Envelope}
use Rattle.rh_otp_model.specs.Rows.{has_row}
use Rattle.rh_otp_controller.specs.declared.state.Starting.{Starting}
use Rattle.rh_otp_controller.specs.Changes.{received}
use Rattle.rh_otp_controller.specs.State.{TurnView}
use Rattle.rh_otp_dist.specs.declared.state.Stand.TheVariants as stand
use Rattle.rh_otp_dist.specs.Outside.{with_message}
use Rattle.rh_otp_dist.specs.State.{DistView}
use Rattle.rh_otp_node.specs.Live.{LiveView, is_alive}
use Rattle.rh_otp_node.specs.Turns.{controller_turn}
use Rattle.rh_otp_system.specs.declared.calls.Call.{Call}
use Rattle.rh_otp_system.specs.Calls.{message_of}
use Rattle.rh_otp_system.specs.Delivering.{arrived}
use Rattle.rh_otp_system.specs.State.{SystemView, live_at, node_at, with_node, is_alive_at}
use Rattle.rh_otp_system.specs.Working as working
use Rattle.rh_otp_laws.proofs.Nodes.{node_written, same_of_all}
use Rattle.rh_otp_orders.specs.Confluence.{IsOrderly}
use Rattle.rh_otp_crashes.specs.Crashes.{IsUnoccupied}
use Rattle.rh_otp_crashes.proofs.Peace.{here_in, without, arrives_alive}
use Rattle.rh_otp_crashes.proofs.Turning.{own_in, none_on, still_waits}
use Rattle.rh_otp_crashes.proofs.Turning as turning
use Rattle.rh_otp_stops.proofs.Stop.{its_call, turn_at}
use Rattle.rh_otp_stops.proofs.Stopping.{there_is}
use Rattle.rh_otp_starts.proofs.Alone.{Waits, taken_from, waits_on, first_orderly, lost}
use Rattle.rh_otp_starts.proofs.Asking.{Asks, says, asks, it_asks}
use Rattle.rh_otp_starts.proofs.Requests.{Decided, RequestMet, its_reply, meets_request}
use Rattle.rh_otp_starts.proofs.Saying.{Ends, IsLast, asked_last}
use Rattle.rh_otp_starts.proofs.Start.{last_orderly, told_orderly}
use Rattle.rh_otp_starts.proofs.Turns.{Turn, Behind, quiet_orderly, takes_turn}

-- the dist_ac, if it takes whatever comes, answers at once by such a reply
abbrev pub AnswersSo : (Reply → Type 0) → Call → SystemView → Type 0
AnswersSo P c s = (d : DistView) → (node_at s c.node).dist ≡ Some d → d.stand ≡ stand.Idle
    → Decided P (own_in s.files c.node) c.node c.app d

-- nobody more waits at it for a takeover, and it knows the same nodes
pub record Kept (o : Option DistView) (d : DistView) : Type 0 where
  pub before : DistView
  pub had : o ≡ Some before
  pub takeovers : d.t_reqs ≡ before.t_reqs
  pub known : d.known ≡ before.known

-- ---- the dist_ac is asked

-- Behind its turn it does nothing. It has answered the controller, or told nobody.
record Met (P : Reply → Type 0) (lives : Node → ℕ) (c : Call) (s t : SystemView) : Type 0 where
  dist : Option DistView
  more : List Envelope
  is : t ≡ record (with_node c.node (record (node_at s c.node) { dist = dist }) s) { messages = more }
  still : Waits lives c true more t
  kept : (d : DistView) → dist ≡ Some d → Kept (node_at s c.node).dist d
  said : ((r : Reply) × P r × (more ≡ its_reply (here_in lives c.node) c.app r ∷ [])) ⊎ (more ≡ [])

meets : {lives : Node → ℕ} {c : Call} {l : List Envelope} (P : Reply → Type 0) (s : SystemView) → Waits lives c true l s
    → is_alive_at s c.node ≡ true → s.locks ≡ [] → AnswersSo P c s
    → Met P lives c s (arrived (it_asks (here_in lives c.node) c).to (message.StartRequest c.app) (without s []))
meets {lives} {c} P s f alive none answers = by (node_at s n).dist refl
  where
    n : Node
    n = c.node

    q : SystemView
    q = without s []

    v : LiveView
    v = node_at s n

    there : live_at q n ≡ Some v
    there = there_is s n alive

    t : SystemView
    t = arrived (it_asks (here_in lives n) c).to (message.StartRequest c.app) q

    comes : t ≡ working.mailed n (message.StartRequest c.app) q
    comes = arrives_alive (it_asks (here_in lives n) c).to (message.StartRequest c.app) q alive (f.same_lives n)

    met : (o : Option DistView) (more : List Envelope) → ((d : DistView) → o ≡ Some d → IsUnoccupied d)
        → ((d : DistView) → o ≡ Some d → Kept v.dist d)
        → ((r : Reply) × P r × (more ≡ its_reply (here_in lives n) c.app r ∷ [])) ⊎ (more ≡ [])
        → working.mailed n (message.StartRequest c.app) q ≡ record (with_node n (record v { dist = o }) q) { messages = more }
        → Met P lives c s t
    met o more rest kept said is = record {
      dist = o;
      more = more;
      is = comes ∙ is;
      still = waits_on true more s.timers s.events (record v { dist = o }) q t (taken_from s f)
          (record { there = there; life = refl; phase = refl; rest = rest }) (λ never. absurd (false≢true (sym never))) (comes ∙ is);
      kept = kept;
      said = said;
    }

    free : (d : DistView) → v.dist ≡ Some d → IsUnoccupied d
    free d has = f.dists n d alive has

    at : (d : DistView) → v.dist ≡ Some d → (d.stand ≡ stand.Idle) ⊎ (d.stand ≡ stand.ForGo) → Met P lives c s t
    at d has (inl is) =
        let r : RequestMet P n c.app q v d = meets_request P n c.app q v d there has (free d has) is none (answers d has is) in
        met (Some r.next) r.more (λ e same. subst IsUnoccupied (same_Some r.next e same) r.rest)
        (λ e same. subst (Kept v.dist) (same_Some r.next e same)
        (record { before = d; had = has; takeovers = r.takeovers; known = r.known }))
        (subst (λ (k : ℕ). ((x : Reply) × P x × (r.more ≡ its_reply (record { node = n; life = k }) c.app x ∷ [])) ⊎ (r.more ≡ []))
        (f.same_lives n) r.said)
        r.comes
    at d has (inr is) =
        let waiting : DistView = with_message (message.StartRequest c.app) d in
        met (Some waiting) []
        (λ e same. subst IsUnoccupied (same_Some waiting e same) (still_waits (message.StartRequest c.app) d (free d has) is refl))
        (λ e same. subst (Kept v.dist) (same_Some waiting e same) (record { before = d; had = has; takeovers = refl; known = refl }))
        (inr refl) (turning.waits_on n (message.StartRequest c.app) q v d there has (free d has) is refl)

    by : (o : Option DistView) → v.dist ≡ o → Met P lives c s t
    by None has =
        met None [] (λ d is. absurd (none-some d is)) (λ d is. absurd (none-some d is)) (inr refl)
        (none_on n (message.StartRequest c.app) q v there has)
    by (Some d) has = at d has (free d has).stand

-- ---- it has answered

-- the controller, where the call has asked it last for a start
abbrev pub asked_turn : Call → Starting → SystemView → TurnView
asked_turn c row s =
    let x = (node_at s c.node).controller in
    record (turn_at s c.node) { state = asked_last c row x.start_req x.starting x }

-- its reply is all that is on its way to the controller, which nobody else has asked
pub record Replied (lives : Node → ℕ) (c : Call) (r : Reply) (s t : SystemView) : Type 0 where
  pub still : Waits lives c true (its_reply (here_in lives c.node) c.app r ∷ []) t
  pub row : Starting
  pub turn : turn_at t c.node ≡ asked_turn c row s
  pub not_ending : (node_at s c.node).controller.is_ending ≡ false
  pub nobody : has_row c.app (node_at s c.node).controller.start_req ≡ false
  pub kept : (d : DistView) → (node_at t c.node).dist ≡ Some d → Kept (node_at s c.node).dist d
  pub links : t.links ≡ s.links
  pub awake : (n : Node) → is_alive_at t n ≡ is_alive_at s n

-- where the controller says no more than an answer behind it
pub reply_orderly : {lives : Node → ℕ} {c : Call} (r : Reply) (s t : SystemView) → (f : Replied lives c r s t)
    → Ends (turn_at s c.node).here c (received (message.Reply c.app r) (asked_turn c f.row s)) → IsOrderly t
reply_orderly {lives} {c} r s t f over =
    told_orderly (its_reply (here_in lives c.node) c.app r).from (message.Reply c.app r) t f.still
    (subst (λ (x : TurnView). Ends x.here c (received (message.Reply c.app r) x)) (sym f.turn) over)

-- ---- the controller is asked

-- it asks its node's dist_ac, and that is all that is on its way
pub record Requesting (lives : Node → ℕ) (c : Call) (row : Starting) (s t : SystemView) : Type 0 where
  pub still : Waits lives c true (it_asks (here_in lives c.node) c ∷ []) t
  pub turn : turn_at t c.node ≡ asked_turn c row s
  pub not_ending : (node_at s c.node).controller.is_ending ≡ false
  pub nobody : has_row c.app (node_at s c.node).controller.start_req ≡ false
  pub alive : is_alive_at t c.node ≡ true
  pub dist : (node_at t c.node).dist ≡ (node_at s c.node).dist
  pub files : t.files ≡ s.files
  pub links : t.links ≡ s.links
  pub locks : t.locks ≡ s.locks
  pub awake : (n : Node) → is_alive_at t n ≡ is_alive_at s n

-- Where all that follows is orderly, the call is.
pub call_orderly : {lives : Node → ℕ} {c : Call} (s : SystemView) → Waits lives c true (its_call c ∷ []) s
    → Asks c (turn_at s c.node) (received (message_of c) (turn_at s c.node))
    → ((row : Starting) (t : SystemView) → Requesting lives c row s t → IsOrderly t) → IsOrderly s
call_orderly {lives} {c} s f asking next = first_orderly e s f (by (cases_Bool (is_alive_at s n)) asking)
  where
    n : Node
    n = c.node

    e : Envelope
    e = its_call c

    t : TurnView
    t = turn_at s n

    u : TurnView
    u = received e.message t

    q : SystemView
    q = arrived e.to e.message (without s [])

    behind : {more : List Envelope} → is_alive_at s n ≡ true → Turn n u more → Behind lives c u more q s
    behind alive turn = takes_turn c.life e.message s f (sym f.life) alive turn

    by : (is_alive_at s n ≡ true) ⊎ (is_alive_at s n ≡ false) → Asks c t u → IsOrderly q
    by (inl alive) (says over) =
        last_orderly q (behind alive over.turn).still
        (subst (λ (k : ℕ). IsLast (record { node = n; life = k }) c over.more) (f.same_lives n) over.last)
    by (inl alive) (asks row turn state not_ending nobody) =
        let on : Behind lives c u (it_asks t.here c ∷ []) q s = behind alive turn in
        next row q (record {
          still = subst (λ (k : ℕ). Waits lives c true (it_asks (record { node = n; life = k }) c ∷ []) q) (f.same_lives n) on.still;
          turn = on.turn ∙ (λ i. record t { state = state i });
          not_ending = not_ending;
          nobody = nobody;
          alive = on.alive;
          dist = on.dist;
          files = on.files;
          links = on.links;
          locks = on.locks;
          awake = on.awake;
        })
    by (inr dead) other = quiet_orderly q (lost e.to e.message s f dead)

-- Where the dist_ac answers at once, and all that follows is orderly, whatever the reply is, the call is.
pub asked_orderly : {lives : Node → ℕ} {c : Call} (P : Reply → Type 0) (s : SystemView) → Waits lives c true (its_call c ∷ []) s
    → s.locks ≡ [] → AnswersSo P c s → Asks c (turn_at s c.node) (received (message_of c) (turn_at s c.node))
    → ((r : Reply) (t : SystemView) → P r → Replied lives c r s t → IsOrderly t) → IsOrderly s
asked_orderly {lives} {c} P s f none answers asking next = call_orderly s f asking requested
  where
    n : Node
    n = c.node

    requested : (row : Starting) (q : SystemView) → Requesting lives c row s q → IsOrderly q
    requested row q on = first_orderly (it_asks (here_in lives n) c) q on.still (over met.said)
      where
        w : SystemView
        w = arrived (it_asks (here_in lives n) c).to (message.StartRequest c.app) (without q [])

        met : Met P lives c q w
        met = meets P q on.still on.alive (on.locks ∙ none)
            (λ d has is. subst (λ files. Decided P (own_in files n) n c.app d) (sym on.files) (answers d (sym on.dist ∙ has) is))

        new : LiveView
        new = record (node_at q n) { dist = met.dist }

        there : live_at q n ≡ Some (node_at q n)
        there = there_is q n on.alive

        dist_so : (node_at w n).dist ≡ met.dist
        dist_so =
            ap (λ (x : SystemView). (node_at x n).dist) met.is
            ∙ ap (λ (v : LiveView). v.dist) (node_written q n (node_at q n) new there)

        over : ((r : Reply) × P r × (met.more ≡ its_reply (here_in lives n) c.app r ∷ [])) ⊎ (met.more ≡ []) → IsOrderly w
        over (inl (r, is_so, is)) = next r w is_so (record {
          still = subst (λ (l : List Envelope). Waits lives c true l w) is met.still;
          row = row;
          turn = ap (λ (x : SystemView). turn_at x n) met.is
              ∙ ap (λ (v : LiveView). controller_turn q.cluster (own_in q.files n) n v) (node_written q n (node_at q n) new there)
              ∙ on.turn;
          not_ending = on.not_ending;
          nobody = on.nobody;
          kept = λ d has.
              let k : Kept (node_at q n).dist d = met.kept d (sym dist_so ∙ has) in
              record { before = k.before; had = sym on.dist ∙ k.had; takeovers = k.takeovers; known = k.known };
          links = ap (λ (x : SystemView). x.links) met.is ∙ on.links;
          awake = λ m.
              ap (λ (x : SystemView). is_alive_at x m) met.is ∙ same_of_all is_alive q n m new refl ∙ on.awake m;
        })
        over (inr is) = quiet_orderly w (subst (λ (l : List Envelope). Waits lives c true l w) is met.still)
