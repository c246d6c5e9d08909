-- Live nodes behind a boot of a cold start that isn't the last one: a cold start still, in which one node more is alive.
use Rattle.std.proofs.Common.{◌≡◌, ◌≢◌, ◌<◌, ◌++◌, ℕ, Bool, true, false, nat_lt, List, [], ◌∷◌, length, slice_get, is_some, Option, Some, None, refl, sym, ap, subst, ◌∙◌, inl, inr, arith}
use Rattle.std.specs.Option.{option_and_then}
use Rattle.std.proofs.lemmas.Bool.{cases_eq, false≢true, ltb-true}
use Rattle.rh_model.specs.ClusterView.{ClusterView, node_count}
use Rattle.rh_model.specs.declared.node.Node.{Node}
use Rattle.rh_rules.specs.declared.event.Event.TheVariants as event
use Rattle.rh_otp_model.specs.declared.wait.OwnFile.{OwnFile}
use Rattle.rh_otp_node.specs.Live.{LiveView}
use Rattle.rh_otp_sim.specs.Acting.{most_moves}
use Rattle.rh_otp_sim.specs.Sim.{LiveSimView, net_in}
use Rattle.rh_otp_sim.specs.Stepping.{begun, cells_behind, net_behind, waiting_of, with_step}
use Rattle.rh_otp_sim.specs.Telling.{lines_of}
use Rattle.rh_otp_sim.specs.Waiting.{still_told, events_asked, calls_asked}
use Rattle.rh_otp_system.specs.declared.cell.Cell.{Cell}
use Rattle.rh_otp_system.specs.declared.cell.Cell.TheVariants as cell
use Rattle.rh_otp_system.specs.Doing.{begun_at, booted}
use Rattle.rh_otp_system.specs.Moves.{Reaches, IsSettled, settled}
use Rattle.rh_otp_system.specs.Resting.{forgotten, rested, open_of}
use Rattle.rh_otp_system.specs.State.{SystemView, live_in, live_at, is_alive_at}
use Rattle.rh_otp_system.specs.Views.{NetView}
use Rattle.rh_otp_system.proofs.Moving.{settles}
use Rattle.rh_otp_laws.specs.Acting.{IsThere}
use Rattle.rh_otp_laws.proofs.Nodes.{written_elsewhere}
use Rattle.rh_otp_waits.proofs.Begun.{heard_of}
use Rattle.rh_otp_waits.proofs.Boot.{Starts, tells, waits_behind}
use Rattle.rh_otp_waits.proofs.Waiting.{HeardOnly}
use Rattle.rh_otp_colds.specs.Colds.{is_there, IsColdStart}
use Rattle.rh_otp_colds.specs.Wholes.{AreAsBefore}
use Rattle.rh_otp_colds.proofs.Boot.{again, there_t}
use Rattle.rh_otp_colds.proofs.Meanwhile.{still_cold}
use Rattle.rh_agreement.specs.Resting.{held}
use Rattle.rh_agreement.proofs.Rest.{IsOver}
use Rattle.rh_agreement.proofs.Stepping.{net_so, set_here}
use Rattle.rh_agreement_boots.proofs.Waiting.{IsBooted}
use Rattle.rh_agreement_boots.proofs.Waiting as waiting

-- So far these nodes have begun in a cold start, in this order. No operator has called, and nobody was told that something waits.
pub record HaveBegun (c : ClusterView) (own : List OwnFile) (done : List Node) (l : LiveSimView) : Type 0 where
  pub cold : IsColdStart (held l)
  pub alive : (held l).alive ≡ done
  pub nodes : (m : Node) → is_there (held l) m ≡ nat_lt m.0 (node_count c)
  pub cluster : l.cluster ≡ c
  pub files : l.files ≡ own
  pub calls : (net_in l).last_call ≡ 0
  pub told : (net_in l).told ≡ []

-- what was told that something waits, where an observer has seen nothing and no call is open
none_told : (net : NetView) (s : SystemView) → s.events ≡ [] → s.calls ≡ [] → net.told ≡ [] → (waiting_of net s).told ≡ []
none_told net s events calls told =
    (λ i. (calls_asked s (events i) net.last_call (calls i) (events_asked s (events i) (events i) (record {
      told = still_told (events i) net.told;
      asked = [];
      lines = lines_of (events i) (calls i) net.last_call;
    }))).told)
    ∙ ap (still_told []) told

no_node : (o : Option LiveView) → is_some o ≡ false → o ≡ None
no_node None none = refl
no_node (Some v) none = absurd (false≢true (sym none))

module _ (c : ClusterView) (files : List OwnFile) (done : List Node) (l : LiveSimView) (n last : Node) (b : IsBooted l n)
    (inside : node_count l.cluster < length l.history.now) (f : HaveBegun c files done l) (there_too : IsThere last (held l))
    (down_too : is_alive_at (held l) last ≡ false) (apart : last.0 ≢ n.0) where
  -- ---- where it begins

  abbrev first : SystemView
  first = begun (net_in l) (event.Boot n) l

  first_same : AreAsBefore (held l) first
  unfolding forgotten
  first_same = record {
    cluster = refl;
    files = refl;
    nodes = λ m. refl;
    alive = refl;
    links = refl;
    locks = refl;
    messages = refl;
    slow = refl;
    calls = refl;
  }

  starts : Starts first n
  starts = waiting.starts l n b

  no_answers : first.answers ≡ []
  no_answers = waiting.no_answers l n b

  first_cold : IsColdStart first
  first_cold = still_cold (held l) first first_same f.cold

  first_there : (m : Node) → is_there first m ≡ is_there (held l) m
  first_there m = ap is_some (first_same.nodes m)

  last_there : IsThere last first
  last_there = (there_too.0, first_same.nodes last ∙ there_too.1)

  last_down : is_alive_at first last ≡ false
  unfolding forgotten
  last_down = down_too

  -- ---- where it comes to rest

  abbrev t : SystemView
  t = settled most_moves l.order (booted n first)

  same_start : record (booted n first) { answers = [] } ≡ booted n first
  same_start = λ i. record (booted n first) {
    answers = sym (ap (λ (x : SystemView). x.answers) (tells first n starts).same ∙ no_answers) i;
  }

  reaches : Reaches (booted n first) t
  reaches = subst (λ (x : SystemView). Reaches x t) same_start (settles most_moves l.order (booted n first)).0

  comes_to_rest : IsSettled t
  comes_to_rest =
      (settles most_moves l.order (booted n first)).1 (waiting.quiet n first starts no_answers most_moves l.order b.few)

  then_cold : IsColdStart t
  then_cold =
      again first n last first_cold starts.there starts.waits.down last_there apart starts.reached last_down t reaches comes_to_rest

  then_there : (m : Node) → is_there t m ≡ is_there first m
  then_there =
      there_t first n last first_cold starts.there starts.waits.down last_there apart starts.reached last_down t reaches comes_to_rest

  heard : HeardOnly (heard_of (begun_at n first) n) (booted n first) t
  heard = waits_behind first t n starts reaches

  -- ---- and over

  abbrev behind : SystemView
  behind = waiting.behind l n b

  behind_same : AreAsBefore t behind
  unfolding rested
  behind_same = record {
    cluster = refl;
    files = refl;
    nodes = λ m. refl;
    alive = refl;
    links = refl;
    locks = refl;
    messages = refl;
    slow = refl;
    calls = refl;
  }

  over : IsOver l behind
  over = waiting.over l n b inside

  abbrev cells : List Cell
  cells = cells_behind (net_in l) (node_count l.cluster) behind

  abbrev pub then : LiveSimView
  then = with_step cells l

  net_then : net_in then ≡ net_behind (net_in l) behind
  net_then = net_so l behind.nodes.cells (net_behind (net_in l) behind) over.inside

  behind_there : (m : Node) → is_there behind m ≡ nat_lt m.0 (node_count c)
  behind_there m = ap is_some (behind_same.nodes m) ∙ then_there m ∙ first_there m ∙ f.nodes m

  none_at : (m : Node) → m.0 ≡ node_count l.cluster → live_at behind m ≡ None
  none_at m at = no_node (live_at behind m) (by (is_there behind m) refl)
    where
      by : (there : Bool) → is_there behind m ≡ there → is_there behind m ≡ false
      by false is = is
      by true is =
          absurd (omega (arith, at, ap node_count f.cluster, ltb-true m.0 (node_count c) (sym (behind_there m) ∙ is)))

  node_then : (m : Node) → live_at (held then) m ≡ live_at behind m
  unfolding forgotten
  node_then m = elim (cases_eq m.0 (node_count l.cluster)) [
    | inl same ↦ ap (λ (k : ℕ). option_and_then live_in (slice_get cells k)) same
        ∙ ap (λ (o : Option Cell). option_and_then live_in o)
        (set_here behind.nodes.cells (node_count l.cluster) (cell.Net (net_behind (net_in l) behind)) over.inside)
        ∙ sym (none_at m same)
    | inr other ↦ ap (λ (o : Option Cell). option_and_then live_in o)
        (written_elsewhere behind.nodes.cells (node_count l.cluster) m.0 (cell.Net (net_behind (net_in l) behind)) other)
  ]

  then_same : AreAsBefore behind (held then)
  unfolding forgotten
  then_same = record {
    cluster = sym over.cluster;
    files = sym over.files;
    nodes = node_then;
    alive = ap (λ (v : NetView). v.alive) net_then;
    links = ap (λ (v : NetView). v.links) net_then;
    locks = ap (λ (v : NetView). v.locks) net_then;
    messages = sym over.is_quiet.0;
    slow = sym over.is_quiet.1;
    calls = ap (λ (v : NetView). open_of v.calls) net_then
        ∙ ap open_of (waiting.no_calls l n b)
        ∙ sym (waiting.no_calls l n b);
  }

  alive_t : t.alive ≡ first.alive ++ n ∷ []
  alive_t = ap (λ (x : SystemView). x.alive) heard.else ∙ ap (λ (x : SystemView). x.alive) (tells first n starts).same

  calls_t : t.last_call ≡ first.last_call
  calls_t = ap (λ (x : SystemView). x.last_call) heard.else ∙ ap (λ (x : SystemView). x.last_call) (tells first n starts).same

  first_calls : first.last_call ≡ (net_in l).last_call
  unfolding forgotten
  first_calls = refl

  behind_calls : behind.last_call ≡ t.last_call
  unfolding rested
  behind_calls = refl

  calls_then : (net_in then).last_call ≡ 0
  calls_then = ap (λ (v : NetView). v.last_call) net_then ∙ behind_calls ∙ calls_t ∙ first_calls ∙ f.calls

  pub one_more : HaveBegun c files (done ++ n ∷ []) then
  one_more = record {
    cold = still_cold behind (held then) then_same (still_cold t behind behind_same then_cold);
    alive = then_same.alive
        ∙ behind_same.alive
        ∙ alive_t
        ∙ ap (λ (all : List Node). all ++ n ∷ []) (first_same.alive ∙ f.alive);
    nodes = λ m. ap is_some (then_same.nodes m) ∙ behind_there m;
    cluster = f.cluster;
    files = f.files;
    calls = calls_then;
    told = ap (λ (v : NetView). v.told) net_then
        ∙ none_told (net_in l) behind (waiting.no_events l n b) (waiting.no_calls l n b) f.told;
  }
