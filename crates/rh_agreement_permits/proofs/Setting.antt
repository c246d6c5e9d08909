-- A dist_ac that sets a permission tells the other nodes of the application's list, and then says more.
use Rattle.std.proofs.lemmas.List.{append_assoc, append-nil}
use Rattle.std.proofs.Common.{◌≡◌, ◌≢◌, ◌≤◌, ◌++◌, ◌||◌, ◌==◌, ℕ, Bool, true, List, [], ◌∷◌, length, Some, refl, sym, ap, ◌∙◌}
use Rattle.std.specs.Prelude.{All}
use Rattle.rh_model.specs.declared.node.Node.{Node}
use Rattle.rh_otp_model.specs.declared.message.Message.{Message}
use Rattle.rh_otp_model.specs.declared.message.Message.TheVariants as message
use Rattle.rh_otp_model.specs.declared.output.Envelope.{Envelope}
use Rattle.rh_otp_model.specs.declared.output.Output.{Output}
use Rattle.rh_otp_model.specs.declared.output.Output.TheVariants as output
use Rattle.rh_otp_dist.specs.declared.state.Stand.TheVariants as stand
use Rattle.rh_otp_dist.specs.Calls.{permit}
use Rattle.rh_otp_dist.specs.Choosing.{backwards}
use Rattle.rh_otp_dist.specs.State.{DistView, TurnView, is_among}
use Rattle.rh_otp_net.specs.Links.{are_linked}
use Rattle.rh_otp_node.specs.Live.{LiveView, is_alive}
use Rattle.rh_otp_system.specs.declared.calls.Call.{Call}
use Rattle.rh_otp_system.specs.Calls.{process_of}
use Rattle.rh_otp_system.specs.Outputs.{carried_out, all_carried_out}
use Rattle.rh_otp_system.specs.State.{SystemView, live_at, node_at, with_node, is_alive_at}
use Rattle.rh_otp_laws.proofs.Nodes.{same_of_all}
use Rattle.rh_otp_crashes.specs.Crashes.{IsUnoccupied}
use Rattle.rh_otp_crashes.proofs.Peace.{arrives_alive}
use Rattle.rh_otp_crashes.proofs.Posting.{posts, mails, all_posted, posted_to}
use Rattle.rh_otp_crashes.proofs.Turning.{own_in, node_is, turn, weighing, idle_comes}
use Rattle.rh_otp_permits.proofs.Asking.{its_permit}
use Rattle.rh_otp_moves.proofs.Taking.{listed_mailed}
use Rattle.rh_agreement_calls.proofs.Moving.{taken}
use Rattle.rh_agreement_spread.proofs.Hearing.{few_told}

-- the dist_ac takes whatever comes, and the node sees those of the list that are alive
pub record Asks (lives : Node → ℕ) (c : Call) (s : SystemView) (v : LiveView) (d : DistView) : Type 0 where
  pub there : live_at s c.node ≡ Some v
  pub has : v.dist ≡ Some d
  pub free : IsUnoccupied d
  pub takes_all : d.stand ≡ stand.Idle
  pub same_lives : (k : Node) → (node_at s k).life ≡ lives k
  pub life : c.life ≡ lives c.node
  pub alive : is_alive_at s c.node ≡ true
  pub sees : (m : Node) → is_among m (backwards (own_in s.files c.node) c.app) ≡ true → is_alive_at s m ≡ true
      → (c.node.0 == m.0 || are_linked c.node m s.links) ≡ true

-- it sends these
abbrev pub all_sends : List Envelope → List Output
all_sends [] = []
all_sends (e ∷ es) = output.Send e ∷ all_sends es

sends_so : (n : Node) (es : List Envelope) (s : SystemView)
    → all_carried_out n (all_sends es) s ≡ record s { messages = s.messages ++ es }
sends_so n [] s = λ i. record s { messages = sym (append-nil s.messages) i }
sends_so n (e ∷ es) s =
    sends_so n es (record s { messages = s.messages ++ e ∷ [] })
    ∙ (λ i. record s { messages = append_assoc s.messages (e ∷ []) es i })

sends_behind : (n : Node) (outs : List Output) (es : List Envelope) (s : SystemView)
    → all_carried_out n (outs ++ all_sends es) s
    ≡ record (all_carried_out n outs s) { messages = (all_carried_out n outs s).messages ++ es }
sends_behind n [] es s = sends_so n es s
sends_behind n (o ∷ outs) es s = sends_behind n outs es (carried_out n o s)

-- its turn
abbrev pub turn_of : (Node → ℕ) → Call → SystemView → DistView → TurnView
turn_of lives c s d = turn s.cluster (own_in s.files c.node) c.node (lives c.node) d

module _ {lives : Node → ℕ} {c : Call} {s : SystemView} {v : LiveView} {d : DistView} (asks : Asks lives c s v d) (allow only : Bool)
    (news : Message) (over : TurnView) (lasts : List Envelope)
    (handles : (w : ℕ) → permit c.app allow only (process_of c) (weighing w (turn_of lives c s d)) ≡ weighing w over)
    (says : over.out ≡ posts c.node news (backwards (own_in s.files c.node) c.app) ++ all_sends lasts) where
  abbrev n : Node
  n = c.node

  abbrev nodes : List Node
  nodes = backwards (own_in s.files n) c.app

  same : v.life ≡ lives n
  same = sym (ap (λ (w : LiveView). w.life) (node_is s n v asks.there)) ∙ asks.same_lives n

  abbrev pub new : LiveView
  new = record v { dist = Some over.state }

  abbrev q : SystemView
  q = record s { messages = [] }

  abbrev written : SystemView
  written = with_node n new q

  abbrev pub sent : List Envelope
  sent = mails lives written n news nodes

  -- it has told them, and says that
  abbrev pub noting : SystemView
  noting = record written { messages = sent ++ lasts }

  lives_on : (k : Node) → (node_at written k).life ≡ lives k
  lives_on k = same_of_all (λ (w : LiveView). w.life) q n k new (same ∙ sym (asks.same_lives n)) ∙ asks.same_lives k

  still : (m : Node) → is_alive_at q m ≡ is_alive_at written m
  still m = sym (same_of_all is_alive q n m new (sym (ap is_alive (node_is q n v asks.there))))

  pub sets_so : taken (its_permit allow only c) s ≡ noting
  sets_so =
      arrives_alive (its_permit allow only c).to (its_permit allow only c).message q asks.alive (asks.same_lives n ∙ sym asks.life)
      ∙ idle_comes s.cluster s.files n (lives n) (message.PermitDistributed c.app allow only (process_of c)) d over asks.free asks.takes_all
      refl handles q v asks.there asks.has same refl refl
      ∙ ap (λ outs. all_carried_out n outs written) says
      ∙ sends_behind n (posts n news nodes) lasts written
      ∙ ap (λ (u : SystemView). record u { messages = u.messages ++ lasts })
      (all_posted n news nodes written lives_on (λ m among up. asks.sees m among (still m ∙ up)))

  -- what is so of what it tells the other nodes of the list is so of all that is sent
  pub all_sent : (P : Envelope → Type 0) → ((m : Node) → m.0 ≢ n.0 → is_among m nodes ≡ true → P (posted_to lives n news m)) → All P sent
  all_sent P so = listed_mailed lives P written n news nodes so

  pub few_sent : length sent ≤ length nodes
  few_sent = few_told lives written n news nodes
