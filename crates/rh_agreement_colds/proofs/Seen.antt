-- What an observer saw of the last boot of a cold start on live nodes, and what each node knows of its applications.
use Rattle.std.proofs.Common.{◌≡◌, ◌<◌, ◌≤◌, ◌==◌, ◌++◌, ◌&&◌, ◌||◌, ℕ, Bool, true, false, cond, not, nat_lt, List, [], ◌∷◌, Option, Some, None, refl, sym, ap, subst, ◌∙◌, arith}
use Rattle.std.specs.Prelude.{All, is_some, unwrap_or, if◌then◌else◌}
use Rattle.std.specs.List.{list_any}
use Rattle.std.proofs.lemmas.Bool.{false≢true}
use Rattle.std.proofs.lemmas.Bool.Decides.{nat_tests}
use Rattle.std.proofs.lemmas.List.Elements.{All-nil, All-cons, All-head, All-tail}
use Rattle.rh_model.specs.ClusterView.{ClusterView, node_count, boot_of}
use Rattle.rh_model.specs.declared.node.App.{App}
use Rattle.rh_model.specs.declared.node.Node.{Node}
use Rattle.rh_model.specs.declared.settings.Restart.{Restart}
use Rattle.rh_trail.specs.SimView.{SimView}
use Rattle.rh_otp_controller.specs.declared.state.Place.TheVariants as place
use Rattle.rh_otp_model.specs.declared.output.Event.{Event}
use Rattle.rh_otp_model.specs.Rows.{keyfind, has_row}
use Rattle.rh_otp_node.specs.declared.node.Phase.{Phase}
use Rattle.rh_otp_node.specs.declared.node.Phase.TheVariants as phase
use Rattle.rh_otp_node.specs.Live.{LiveView, never_begun, is_down}
use Rattle.rh_otp_orders.specs.Orders.{of_owner, node_told}
use Rattle.rh_otp_sim.specs.Sim.{LiveSimView}
use Rattle.rh_otp_sim.specs.declared.lines.Line.{Line}
use Rattle.rh_otp_sim.specs.declared.lines.Line.TheVariants as line
use Rattle.rh_otp_sim.specs.Waiting.{is_here, is_started, is_up_now, line_at}
use Rattle.rh_otp_system.specs.Resting.{rested}
use Rattle.rh_otp_system.specs.State.{SystemView, live_at, node_at}
use Rattle.rh_otp_together.specs.Booted.{runs_here, place_there}
use Rattle.rh_otp_colds.specs.Colds.{is_there}
use Rattle.rh_otp_colds.specs.Starts.{HasComeUp, HaveComeUp, LastBootsComeUp}
use Rattle.rh_otp_colds.proofs.Whole.{AllBegun}
use Rattle.rh_agreement.specs.Telling.{GoTogether}
use Rattle.rh_agreement.specs.Resting.{AreBothAtRest}
use Rattle.rh_agreement_colds.specs.Colds.{StartsCold}
use Rattle.rh_agreement_colds.proofs.Asked.{wait_line}
use Rattle.rh_agreement_colds.proofs.Lines.{seen_at, IsUp, AllUp}
use Rattle.rh_agreement_colds.proofs.Live as lives

-- a node that is up is there
up_there : (s : SystemView) (m : Node) → (node_at s m).phase ≡ phase.Up → live_at s m ≡ Some (node_at s m)
up_there s m up = by (live_at s m) up
  where
    by : (o : Option LiveView) → (unwrap_or o never_begun).phase ≡ phase.Up → o ≡ Some (unwrap_or o never_begun)
    by None down = absurd (false≢true (ap is_up_phase down))
      where
        is_up_phase : Phase → Bool
        is_up_phase phase.Up = true
        is_up_phase phase.Waiting = true
        is_up_phase phase.Down = false
    by (Some v) is = refl

-- of what runs and was started no line is told where it runs at the node itself, and else that it waits
line_so : (v : LiveView) (a : App) (m : Node) (now starts : Bool) (at : Node)
    → keyfind a v.controller.running ≡ Some (if starts then place.Here else place.At at)
    → has_row a v.controller.started ≡ true → line_at v a m now ≡ wait_line m starts a
line_so v a m now starts at runs started =
    (λ i. cond (is_here (runs i)) None (cond (is_well i) (Some (line.Waits a m)) pending)) ∙ by starts
  where
    pending : Option Line
    pending = cond (has_row a v.controller.starting && now) (Some (line.Pending a m)) None

    is_well : is_started a v.controller ≡ true
    is_well = λ i.
        not ((started i && not (is_some (runs i))) && list_any (λ (b : App). b.0 == a.0) v.controller.ended)
        && (started i || has_row a v.controller.start_p_false)

    by : (b : Bool) → cond (is_here (Some (cond b place.Here (place.At at)))) None (Some (line.Waits a m)) ≡ wait_line m b a
    by true = refl
    by false = refl

module _ (by_nodes : LastBootsComeUp) (sim : SimView) (l : LiveSimView) (n : Node) (together : GoTogether sim l)
    (at_rest : AreBothAtRest sim l) (starts : StartsCold n sim l) where
  abbrev base : SystemView
  base = lives.base by_nodes sim l n together at_rest starts

  abbrev over : SystemView
  over = lives.over by_nodes sim l n together at_rest starts

  abbrev behind : SystemView
  behind = rested over

  -- what starts at a node
  abbrev pub starting : Node → App → Bool
  starting m a = runs_here base starts.can.at m a

  up : HaveComeUp starts.can.at base over
  up = lives.up by_nodes sim l n together at_rest starts

  all : AllBegun base
  all = lives.all by_nodes sim l n together at_rest starts

  same_cluster : over.cluster ≡ base.cluster
  same_cluster = ap (λ (s : SystemView). s.cluster) up.same

  nothing_before : base.events ≡ []
  nothing_before = lives.events_so by_nodes sim l n together at_rest starts

  come : (m : Node) → m.0 < node_count over.cluster → HasComeUp starts.can.at m base over
  come m within =
      up.each m
      (lives.base_there by_nodes sim l n together at_rest starts m
      (subst (λ (c : ClusterView). m.0 < node_count c) (same_cluster ∙ lives.cluster_so by_nodes sim l n together at_rest starts) within))

  seen_so : (m : Node) → m.0 < node_count over.cluster → of_owner node_told (Some m) over.events ≡ seen_at over.cluster starting m
  seen_so m within =
      (come m within).told
      ∙ ap (λ (l : List Event). of_owner node_told (Some m) l ++ seen_at base.cluster starting m) nothing_before
      ∙ ap (λ (c : ClusterView). seen_at c starting m) (sym same_cluster)

  -- of a number that no node has nothing is told
  not_there : (m : Node) → node_count over.cluster ≤ m.0 → is_there base m ≡ false
  not_there m beyond =
      all.can.nodes m ∙ none m.0 (node_count base.cluster) (subst (λ (c : ClusterView). node_count c ≤ m.0) same_cluster beyond)
    where
      none : (k count : ℕ) → count ≤ k → nat_lt k count ≡ false
      none k count most = grind (arith, nat_tests, most)

  strangers_so : (m : Node) → node_count over.cluster ≤ m.0 → of_owner node_told (Some m) over.events ≡ []
  strangers_so m beyond = up.strangers m (not_there m beyond) ∙ ap (of_owner node_told (Some m)) nothing_before

  -- ---- the lines of a node

  module _ (m : Node) (within : m.0 < node_count over.cluster) where
    abbrev v : LiveView
    v = node_at over m

    abbrev Runs : App × Restart → Type 0
    Runs row = keyfind row.0 v.controller.running ≡ Some (place_there base starts.can.at m row.0)

    abbrev IsStarted : App × Restart → Type 0
    IsStarted row = has_row row.0 v.controller.started ≡ true

    abbrev Line_so : App × Restart → Type 0
    Line_so row = line_at v row.0 m (is_up_now m over.events) ≡ wait_line m (starting m row.0) row.0

    each_line : (rows : List (App × Restart)) → All Runs rows → All IsStarted rows → All Line_so rows
    each_line [] runs started = All-nil Line_so
    each_line (row ∷ rows) runs started =
        All-cons Line_so row rows
        (line_so v row.0 m (is_up_now m over.events) (starting m row.0) (starts.can.at row.0) (All-head Runs row rows runs)
        (All-head IsStarted row rows started))
        (each_line rows (All-tail Runs row rows runs) (All-tail IsStarted row rows started))

    up_so : IsUp starting m behind
    unfolding rested
    up_so = record {
      node = v;
      there = up_there over m (come m within).phase;
      alive = ap (λ (p : Phase). cond (is_down p) false true) (come m within).phase;
      lines = subst (λ (c : ClusterView). All Line_so (boot_of c m)) (sym same_cluster)
          (each_line (boot_of base.cluster m) (come m within).runs (come m within).started);
    }

  pub all_up : AllUp starting behind
  unfolding rested
  all_up = record {
    seen = seen_so;
    nobody = up.nobody ∙ ap (of_owner node_told None) nothing_before;
    strangers = strangers_so;
    up = up_so;
    calls = up.rest.calls;
  }
