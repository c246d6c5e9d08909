-- What a dist_ac does where the permission is set by which its own node is to start the application, or to take it over: it tells the other
-- nodes of the list, has its controller do so, and frees the lock of the call, which waits for the start.
use Rattle.std.proofs.Common.{◌≡◌, ◌≢◌, ◌≤◌, ◌++◌, Bool, true, false, ℕ, List, [], ◌∷◌, length, Some, refl, sym, ap, ◌∙◌, inl}
use Rattle.std.specs.Prelude.{All}
use Rattle.std.proofs.lemmas.List.Elements.{All-nil}
use Rattle.rh_model.specs.declared.node.App.{App}
use Rattle.rh_model.specs.declared.node.Node.{Node}
use Rattle.rh_otp_model.specs.declared.message.Change.{Change}
use Rattle.rh_otp_model.specs.declared.message.Message.{Message}
use Rattle.rh_otp_model.specs.declared.message.Message.TheVariants as message
use Rattle.rh_otp_model.specs.declared.output.Envelope.{Envelope}
use Rattle.rh_otp_model.specs.declared.output.Output.{Output}
use Rattle.rh_otp_model.specs.declared.output.Output.TheVariants as output
use Rattle.rh_otp_model.specs.declared.output.Requester.TheVariants.{Alone}
use Rattle.rh_otp_model.specs.declared.process.Process.{Process}
use Rattle.rh_otp_model.specs.declared.process.Role.TheVariants as role
use Rattle.rh_otp_model.specs.Processes.{process_at}
use Rattle.rh_otp_dist.specs.declared.state.Stand.TheVariants as stand
use Rattle.rh_otp_dist.specs.Calls.{permit}
use Rattle.rh_otp_dist.specs.Choosing.{backwards}
use Rattle.rh_otp_dist.specs.State.{DistView, TurnView}
use Rattle.rh_otp_dist.specs.Waiting.{takes}
use Rattle.rh_otp_net.specs.declared.locks.Held.{Held}
use Rattle.rh_otp_net.specs.Locks.{freed}
use Rattle.rh_otp_node.specs.Live.{LiveView, is_alive}
use Rattle.rh_otp_system.specs.declared.calls.Call.{Call}
use Rattle.rh_otp_system.specs.Calls.{process_of}
use Rattle.rh_otp_system.specs.Outputs.{carried_out, all_carried_out}
use Rattle.rh_otp_system.specs.State.{SystemView, node_at, with_node, is_alive_at}
use Rattle.rh_otp_laws.proofs.Nodes.{same_of_all}
use Rattle.rh_otp_crashes.specs.Crashes.{IsUnoccupied}
use Rattle.rh_otp_crashes.proofs.Peace.{here_in, arrives_alive}
use Rattle.rh_otp_crashes.proofs.Posting.{posts, mails, all_posted, posted_to}
use Rattle.rh_otp_crashes.proofs.Turning.{own_in, node_is, weighing, idle_comes}
use Rattle.rh_otp_permits.proofs.Asking.{its_permit}
use Rattle.rh_otp_moves.specs.Starting.{IsChosenThen}
use Rattle.rh_otp_moves.proofs.Beginning.{one_more}
use Rattle.rh_otp_moves.proofs.Permit.{permit_looks, its_change, starts_over, chooses}
use Rattle.rh_otp_moves.proofs.Taking.{listed_mailed}
use Rattle.rh_agreement_calls.proofs.Moving.{taken}
use Rattle.rh_agreement_spread.proofs.Hearing.{few_told}
use Rattle.rh_agreement_permits.proofs.Setting.{Asks, turn_of}

module _ {lives : Node → ℕ} {c : Call} {s : SystemView} {v : LiveView} {d : DistView} (asks : Asks lives c s v d)
    (chosen : IsChosenThen (own_in s.files c.node) c.node c.app d) (what : Change)
    (is_told : its_change c.app d ≡ what) where
  abbrev n : Node
  n = c.node

  abbrev a : App
  a = c.app

  abbrev p : Process
  p = process_of c

  abbrev nodes : List Node
  nodes = backwards (own_in s.files n) a

  abbrev news : Message
  news = message.NewPermission n a true false

  -- its controller is told so
  abbrev told_to : Change → Envelope
  told_to order = record {
    from = process_at (here_in lives n) role.DistAc;
    to = process_at (here_in lives n) role.Controller;
    message = message.Change a order;
  }

  abbrev pub start_it : Envelope
  start_it = told_to what

  abbrev before : TurnView
  before = starts_over a p (turn_of lives c s d)

  abbrev outs : Change → List Output
  outs order = (posts n news nodes ++ output.Send (told_to order) ∷ []) ++ output.Free (Alone p) p ∷ []

  abbrev pub over : TurnView
  over = record before { out = outs what }

  handles : (w : ℕ) → permit a true false p (weighing w (turn_of lives c s d)) ≡ weighing w over
  handles w =
      permit_looks a p (weighing w (turn_of lives c s d)) chosen.not_here
      ∙ chooses a p (weighing w (turn_of lives c s d)) (record { first = chosen.chosen.first; not_yet = chosen.chosen.not_yet })
      ∙ (λ i. weighing w (record before { out = outs (is_told i) }))

  same : v.life ≡ lives n
  same = sym (ap (λ (w : LiveView). w.life) (node_is s n v asks.there)) ∙ asks.same_lives n

  abbrev pub new : LiveView
  new = record v { dist = Some over.state }

  abbrev q : SystemView
  q = record s { messages = [] }

  abbrev written : SystemView
  written = with_node n new q

  abbrev pub sent : List Envelope
  sent = mails lives written n news nodes

  abbrev pub locks_left : List Held
  locks_left = freed (Alone p) p s.locks

  -- it has told them, and that
  abbrev pub noting : SystemView
  noting = record written { messages = sent ++ start_it ∷ []; locks = locks_left }

  lives_on : (k : Node) → (node_at written k).life ≡ lives k
  lives_on k = same_of_all (λ (w : LiveView). w.life) q n k new (same ∙ sym (asks.same_lives n)) ∙ asks.same_lives k

  still : (m : Node) → is_alive_at q m ≡ is_alive_at written m
  still m = sym (same_of_all is_alive q n m new (sym (ap is_alive (node_is q n v asks.there))))

  carries : all_carried_out n over.out written ≡ noting
  carries =
      one_more n (posts n news nodes ++ output.Send start_it ∷ []) (output.Free (Alone p) p) written
      ∙ ap (carried_out n (output.Free (Alone p) p))
      (one_more n (posts n news nodes) (output.Send start_it) written
      ∙ ap (carried_out n (output.Send start_it))
      (all_posted n news nodes written lives_on (λ m among up. asks.sees m among (still m ∙ up))))

  pub sets_so : (only : Bool) → only ≡ false → taken (its_permit true only c) s ≡ noting
  sets_so only is =
      arrives_alive (its_permit true only c).to (its_permit true only c).message q asks.alive (asks.same_lives n ∙ sym asks.life)
      ∙ idle_comes s.cluster s.files n (lives n) (message.PermitDistributed a true only p) d over asks.free asks.takes_all refl
      (λ w. ap (λ (b : Bool). permit a true b p (weighing w (turn_of lives c s d))) is ∙ handles w) q v asks.there asks.has same refl refl
      ∙ carries

  -- what is so of what it tells the other nodes of the list is so of all that is sent to them
  pub all_sent : (P : Envelope → Type 0) → ((m : Node) → m.0 ≢ n.0 → P (posted_to lives n news m)) → All P sent
  all_sent P so = listed_mailed lives P written n news nodes (λ m other among. so m other)

  pub few_sent : length sent ≤ length nodes
  few_sent = few_told lives written n news nodes

  pub over_free : IsUnoccupied over.state
  over_free = record {
    stand = inl refl;
    mail = All-nil (λ (m : Message). takes stand.Idle m ≡ false);
    permits = asks.free.permits;
    parked = asks.free.parked;
  }
