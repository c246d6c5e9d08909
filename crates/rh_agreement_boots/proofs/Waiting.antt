-- On live nodes a node that begins and waits on waits behind all moves, each other node is as it was but for its lists, and all are at rest
-- again.
use Rattle.std.proofs.Common.{◌≡◌, ◌≢◌, ◌<◌, ◌+◌, ◌-◌, ◌^◌, ◌&&◌, ◌||◌, ℕ, Bool, true, false, cond, not, List, [], length, slice_get, refl, sym, ap, subst, ◌∙◌, inl, inr, arith}
use Rattle.std.proofs.lemmas.Bool.{cases_eq, false≢true, lt-ltb}
use Rattle.std.proofs.lemmas.List.{length-set}
use Rattle.std.proofs.lemmas.Option.{none-some}
use Rattle.rh_model.specs.ClusterView.{node_count}
use Rattle.rh_model.specs.declared.node.Node.{Node}
use Rattle.rh_rules.specs.declared.event.Event.TheVariants as event
use Rattle.rh_otp_net.specs.declared.order.Order.{Order}
use Rattle.rh_otp_node.specs.Live.{LiveView, is_alive, is_ending, begun as begun_node}
use Rattle.rh_otp_sim.specs.declared.stepping.Outcome.TheVariants as live
use Rattle.rh_otp_sim.specs.Acting.{acted, acted_at_once, is_acted, is_quiet_at_once, booted_if, most_moves}
use Rattle.rh_otp_sim.specs.Refusing.{life_in}
use Rattle.rh_otp_sim.specs.Sim.{LiveSimView, net_in}
use Rattle.rh_otp_sim.specs.Stepping.{begun, happened, cells_behind, system_with, ends_with, outcome_with, with_step, stepped_with}
use Rattle.rh_otp_system.specs.declared.calls.Call.{Call}
use Rattle.rh_otp_system.specs.declared.cell.Cell.TheVariants as cell
use Rattle.rh_otp_system.specs.declared.moves.Move.TheVariants as move
use Rattle.rh_otp_system.specs.Doing.{begun_at, booted}
use Rattle.rh_otp_system.specs.Moves.{IsQuiet, IsSettled, Reaches, here, settled, is_settled_by, is_quiet_behind}
use Rattle.rh_otp_system.specs.Resting.{forgotten, rested, open_of}
use Rattle.rh_otp_system.specs.State.{SystemView, node_at, own_at, is_alive_at}
use Rattle.rh_otp_system.proofs.Moving.{settles}
use Rattle.rh_otp_laws.specs.Acting.{IsThere, IsReached, later, acts, begins, rests, takes_up}
use Rattle.rh_otp_laws.proofs.Commands.{commands_reached}
use Rattle.rh_otp_laws.proofs.Hanging.{settled_stays_so}
use Rattle.rh_otp_laws.proofs.Listing.{alive_listed}
use Rattle.rh_otp_crashes.specs.Crashes.{AreAtRest}
use Rattle.rh_otp_crashes.proofs.Peace.{is_free_at_ease, no_lock_at}
use Rattle.rh_otp_waits.specs.Waits.{AllSeeAll, WaitsOn, IsLeftWaiting}
use Rattle.rh_otp_waits.proofs.Begun.{heard_of}
use Rattle.rh_otp_waits.proofs.Boot.{Starts, tells, itself, others, calm, waits_from, waits_behind, left_waiting}
use Rattle.rh_otp_waits.proofs.Waiting.{HeardOnly, unlisted}
use Rattle.rh_agreement.specs.Resting.{held}
use Rattle.rh_agreement.proofs.Rest.{IsOver, nobody_there}
use Rattle.rh_agreement_boots.specs.Boots.{StayInTouch}
use Rattle.rh_agreement_boots.specs.Waiting.{begun_to_wait}
use Rattle.rh_agreement_boots.proofs.Hearing.{quiet_soon, as_many}

-- ---- a boot, until nothing moves

-- of a node that waits on, where nobody has answered another one yet; and so little comes of it
module _ (n : Node) (s : SystemView) (starts : Starts s n) (answers : s.answers ≡ []) (most : ℕ) (order : Order)
    (few : length (booted n s).messages + length (booted n s).slow < most) where
  -- the node as it begins
  abbrev pub new : LiveView
  new = begun_node s.cluster (own_at s n) n (node_at s n)

  abbrev heard : Node → Node → Bool
  heard = heard_of (begun_at n s) n

  same_start : record (booted n s) { answers = [] } ≡ booted n s
  same_start = λ i. record (booted n s) { answers = sym (ap (λ (t : SystemView). t.answers) (tells s n starts).same ∙ answers) i }

  pub quiet : is_settled_by most order (booted n s) ≡ true
  quiet =
      ap (λ (t : SystemView). is_quiet_behind most order t) same_start
      ∙ quiet_soon heard (booted n s) (calm s n starts) most order (booted n s) (waits_from s n starts) few

  abbrev pub last : SystemView
  last = settled most order (booted n s)

  reaches : Reaches (booted n s) last
  reaches = subst (λ (t : SystemView). Reaches t last) same_start (settles most order (booted n s)).0

  is_settled : IsSettled last
  is_settled = (settles most order (booted n s)).1 quiet

  is_quiet : IsQuiet last
  is_quiet = (settled_stays_so last last is_settled (here last)).0

  heard_only : HeardOnly heard (booted n s) last
  heard_only = waits_behind s last n starts reaches

  pub left : IsLeftWaiting n s last
  left = left_waiting s last n starts heard_only is_settled

  -- ---- what is as it was

  pub cluster_so : last.cluster ≡ s.cluster
  cluster_so = ap (λ (t : SystemView). t.cluster) heard_only.else ∙ ap (λ (t : SystemView). t.cluster) (tells s n starts).same

  pub files_so : last.files ≡ s.files
  files_so = ap (λ (t : SystemView). t.files) heard_only.else ∙ ap (λ (t : SystemView). t.files) (tells s n starts).same

  pub clock_so : last.clock ≡ s.clock
  clock_so = ap (λ (t : SystemView). t.clock) heard_only.else ∙ ap (λ (t : SystemView). t.clock) (tells s n starts).same

  pub node_here : (m : Node) → m.0 ≡ n.0 → unlisted (node_at last m) ≡ unlisted new
  node_here m same = heard_only.nodes m ∙ ap unlisted (itself s n m starts same)

  pub node_there : (m : Node) → m.0 ≢ n.0 → unlisted (node_at last m) ≡ unlisted (node_at s m)
  node_there m other = heard_only.nodes m ∙ ap unlisted (others s n m starts other)

  cells_so : length last.nodes.cells ≡ length s.nodes.cells
  cells_so =
      as_many heard (booted n s) (calm s n starts) (booted n s) last reaches (waits_from s n starts)
      ∙ ap (λ (t : SystemView). length t.nodes.cells) (tells s n starts).same
      ∙ length-set s.nodes.cells n.0 (cell.Node new)

  -- no node is on its way to its end, if none was
  pub stay : ((m : Node) → is_alive_at s m ≡ true → is_ending (node_at s m) ≡ false) → (m : Node) → is_alive_at last m ≡ true
      → is_ending (node_at last m) ≡ false
  stay stayed m alive = elim (cases_eq m.0 n.0) [
    | inl same ↦ ap is_ending (node_here m same)
    | inr other ↦ ap is_ending (node_there m other) ∙ stayed m (sym (ap is_alive (node_there m other)) ∙ alive)
  ]

  -- ---- so it is over

  last_reached : IsReached last
  last_reached =
      commands_reached.settles_there most order (booted n s)
      (later s (booted n s) starts.reached (acts s (booted n s) (begins s n starts.there starts.waits.down)))

  pub is_over : (l : LiveSimView) → s.cluster ≡ l.cluster → s.files ≡ l.files → n.0 < node_count l.cluster
      → node_count l.cluster < length s.nodes.cells → ((m : Node) → m.0 ≡ node_count l.cluster → is_alive_at s m ≡ false)
      → ((m : Node) → is_alive_at s m ≡ true → is_ending (node_at s m) ≡ false) → IsOver l (rested last)
  unfolding rested
  is_over l cluster files within inside nobody stayed = record {
    inside = subst (λ (count : ℕ). node_count l.cluster < count) (sym cells_so) inside;
    idle = record {
      calls = ap open_of left.rest.calls;
      listed = λ m among. ((alive_listed last last_reached).exactly m).0 among;
      dists = left.rest.dists;
      ends = λ m alive. ap (λ (c : Bool). c && not (node_at last m).is_stopped) (stay stayed m alive);
    };
    reached = later last (rested last) last_reached (rests last);
    is_quiet = is_quiet;
    cluster = cluster_so ∙ cluster;
    files = files_so ∙ files;
    nobody = λ m at. ap is_alive (node_there m (λ same. omega (arith, at, same, within))) ∙ nobody m at;
  }

-- ---- the boot of a simulation of live nodes

-- Of the live nodes: they reach the state and are at rest; a node waits on, for which there is a cell; those that are alive stay in touch;
-- the node is one of the cluster's, and its lives can be counted, and what comes of its boot.
pub record IsBooted (l : LiveSimView) (n : Node) : Type 0 where
  pub reached : IsReached (held l)
  pub rest : AreAtRest (held l)
  pub waits : WaitsOn n (held l)
  pub touch : StayInTouch l
  pub there : IsThere n (held l)
  pub within : n.0 < node_count l.cluster
  pub lives : life_in l n < 2 ^ 32 - 1
  pub few : length (begun_to_wait n l).messages + length (begun_to_wait n l).slow < most_moves

module _ (l : LiveSimView) (n : Node) (w : IsBooted l n) where
  -- where it begins
  abbrev pub first : SystemView
  first = begun (net_in l) (event.Boot n) l

  -- nothing can move there, though it waits for nodes that are on their way to their end, since there is none
  first_settled : IsSettled first
  unfolding forgotten
  first_settled (move.Deliver place) possible = w.rest.settled (move.Deliver place) possible
  first_settled (move.Slow place) possible = w.rest.settled (move.Slow place) possible
  first_settled (move.Lock m) possible =
      let alive : is_alive_at (held l) m ≡ true = ((alive_listed (held l) w.reached).exactly m).0 possible.1 in
      false≢true (sym (no_lock_at m first (node_at first m).dist (λ d has. is_free_at_ease d (w.rest.dists m d alive has))) ∙ possible.2)
  first_settled (move.Call place) possible =
      none-some possible.1.0 (sym (ap (λ (calls : List Call). slice_get calls place) w.rest.calls) ∙ possible.1.1)
  first_settled (move.End m) possible =
      let alive : is_alive_at (held l) m ≡ true = ((alive_listed (held l) w.reached).exactly m).0 possible.1 in
      false≢true (sym (ap (λ (c : Bool). c && (true || not (node_at (held l) m).is_stopped)) (w.touch.stay m alive)) ∙ possible.2)

  pub starts : Starts first n
  unfolding forgotten
  starts = record {
    reached = later (held l) first w.reached (takes_up (held l) l.history.now (net_in l).told true (refl, refl) (λ m. inl refl));
    rest = record { settled = first_settled; calls = w.rest.calls; dists = w.rest.dists };
    there = w.there;
    sees = w.touch.see;
    waits = record {
      down = w.waits.down;
      file = w.waits.file;
      names = w.waits.names;
      lacks = w.waits.lacks;
      lacking = w.waits.lacking;
      not_itself = w.waits.not_itself;
      not_there = w.waits.not_there;
      others = w.waits.others;
    };
  }

  pub no_answers : first.answers ≡ []
  unfolding forgotten
  no_answers = refl

  -- the system behind it
  abbrev pub behind : SystemView
  behind = rested (last n first starts no_answers most_moves l.order w.few)

  boots_if : booted_if n first ≡ booted n first
  unfolding forgotten
  boots_if = λ i. cond (lt-ltb n.0 (node_count l.cluster) w.within i && lt-ltb (life_in l n) (2 ^ 32 - 1) w.lives i) (booted n first) first

  runs : system_with (net_in l) (event.Boot n) l ≡ behind
  unfolding acted acted_at_once
  runs = ap (λ (t : SystemView). rested (settled most_moves l.order t)) boots_if

  ends : ends_with (net_in l) (event.Boot n) l ≡ true
  unfolding is_acted is_quiet_at_once
  ends = ap (λ (t : SystemView). is_settled_by most_moves l.order t) boots_if ∙ quiet n first starts no_answers most_moves l.order w.few

  pub steps_so : stepped_with (net_in l) (event.Boot n) l ≡ with_step (cells_behind (net_in l) (node_count l.cluster) behind) l
  steps_so =
      ap (λ (over : Bool). cond over
      (with_step (cells_behind (net_in l) (node_count l.cluster) (system_with (net_in l) (event.Boot n) l)) l) l) ends
      ∙ ap (λ (t : SystemView). with_step (cells_behind (net_in l) (node_count l.cluster) t) l) runs

  pub comes_to : outcome_with (net_in l) (event.Boot n) l ≡ live.Done (happened (net_in l) behind)
  comes_to =
      ap (λ (over : Bool). cond over (live.Done (happened (net_in l) (system_with (net_in l) (event.Boot n) l))) live.Endless) ends
      ∙ ap (λ (t : SystemView). live.Done (happened (net_in l) t)) runs

  pub over : node_count l.cluster < length l.history.now → IsOver l behind
  unfolding forgotten
  over inside =
      is_over n first starts no_answers most_moves l.order w.few l refl refl w.within inside (nobody_there l w.reached) w.touch.stay

  -- ---- what it tells

  pub same_clock : behind.clock ≡ first.clock
  unfolding rested
  same_clock = clock_so n first starts no_answers most_moves l.order w.few

  pub no_events : behind.events ≡ []
  unfolding forgotten rested
  no_events = (left n first starts no_answers most_moves l.order w.few).events

  pub no_calls : behind.calls ≡ []
  unfolding rested
  no_calls = (left n first starts no_answers most_moves l.order w.few).rest.calls

  pub all_see_all : AllSeeAll behind
  unfolding rested
  all_see_all = (left n first starts no_answers most_moves l.order w.few).sees

  pub all_stay : (m : Node) → is_alive_at behind m ≡ true → is_ending (node_at behind m) ≡ false
  unfolding forgotten rested
  all_stay = stay n first starts no_answers most_moves l.order w.few w.touch.stay

  pub node_first : (m : Node) → m.0 ≡ n.0 → unlisted (node_at behind m) ≡ unlisted (new n first starts no_answers most_moves l.order w.few)
  unfolding rested
  node_first m same = node_here n first starts no_answers most_moves l.order w.few m same

  pub node_other : (m : Node) → m.0 ≢ n.0 → unlisted (node_at behind m) ≡ unlisted (node_at first m)
  unfolding rested
  node_other m other = node_there n first starts no_answers most_moves l.order w.few m other
