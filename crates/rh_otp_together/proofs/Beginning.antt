-- Where the boot scripts are to begin.
use Rattle.std.proofs.Common.{◌≡◌, ◌≤◌, ◌+◌, ℕ, [], Some, refl, sym, ap, subst, ◌∙◌, inl, arith}
use Rattle.std.specs.Prelude.{All}
use Rattle.std.proofs.lemmas.List.{append-nil}
use Rattle.std.proofs.lemmas.List.Elements.{All-nil}
use Rattle.rh_model.specs.ClusterView.{boot_of}
use Rattle.rh_model.specs.declared.node.Node.{Node}
use Rattle.rh_otp_dist.specs.State.{DistView}
use Rattle.rh_otp_node.specs.Live.{LiveView}
use Rattle.rh_otp_system.specs.declared.cell.Cell.TheVariants as cell
use Rattle.rh_otp_system.specs.State.{SystemView, node_at}
use Rattle.rh_otp_orders.specs.Orders.{of_owner, node_told}
use Rattle.rh_otp_crashes.proofs.Turning.{node_is}
use Rattle.rh_otp_joins.proofs.Lists.{count_of}
use Rattle.rh_otp_joins.proofs.Stages.{cell_there}
use Rattle.rh_otp_gathers.proofs.Opening.{counts_so}
use Rattle.rh_otp_gathers.proofs.Tokens.{total}
use Rattle.rh_otp_together.specs.Together.{BootTogether, IsToBoot, IsBlank}
use Rattle.rh_otp_together.proofs.Apps.{IsMarked}
use Rattle.rh_otp_together.proofs.Forms.{unbegun, Far, live, d0, dist_of, weight}
use Rattle.rh_otp_together.proofs.Needs.{each_of, dist_so}
use Rattle.rh_otp_together.proofs.Stages.{IsHeld, IsOf, Stage}

module _ {b : SystemView} (g : BootTogether b) where
  -- nothing has begun
  abbrev pub first : Node → Far
  first m = record { done = []; how = unbegun; rest = boot_of b.cluster m; ran = []; rows = []; mail = [] }

  abbrev pub first_weight : ℕ
  first_weight = total (λ (m : Node). weight b g.at m (first m)) b.alive + 0

  blank_so : (d : DistView) → IsBlank d → d ≡ record d {
    stand = d.stand;
    mail = [];
    remote_started = [];
    started = [];
    tmp_locals = [];
    tmp_weights = [];
    t_reqs = [];
    monitored = [];
    parked = [];
  }
  blank_so d blank = λ i. record d {
    mail = blank.mail i;
    remote_started = blank.runs i;
    started = blank.started i;
    tmp_locals = blank.locals i;
    tmp_weights = blank.weights i;
    t_reqs = blank.takeovers i;
    monitored = blank.monitored i;
    parked = blank.parked i;
  }

  first_dist : (m : Node) (alive : 1 ≤ count_of m b.alive) → (node_at b m).dist ≡ Some (dist_of b g.at m (first m))
  first_dist m alive =
      let e : IsToBoot g.apps g.at m b = each_of g m alive in
      let same : d0 b g.at m ≡ e.dist = dist_so g m alive in
      let blank : IsBlank (d0 b g.at m) = subst IsBlank (sym same) e.blank in
      e.has ∙ ap Some (sym same) ∙ ap Some (blank_so (d0 b g.at m) blank)
      ∙ (λ i. Some (record (dist_of b g.at m (first m)) { stand = blank.idle i }))

  first_live : (m : Node) (alive : 1 ≤ count_of m b.alive) → node_at b m ≡ live b g.at m (first m)
  first_live m alive =
      let e : IsToBoot g.apps g.at m b = each_of g m alive in
      λ i. record (node_at b m) { place = e.place i; controller = e.controller i; dist = first_dist m alive i }

  pub first_stage : Stage b g.at first_weight b
  first_stage = record {
    far = first;
    tokens = [];
    waiting = g.nodes;
    weighs = refl;
    same = λ i. record b { messages = g.messages i; slow = g.slow i };
    base = refl;
    here = λ m alive.
        cell_there b m (node_at b m) ((each_of g m alive).there.1
        ∙ ap Some (sym (node_is b m (each_of g m alive).there.0 (each_of g m alive).there.1)))
        ∙ ap (λ (v : LiveView). Some (cell.Node v)) (first_live m alive);
    others = λ m out. refl;
    fine = λ m alive. record {
      boots = refl;
      order = (each_of g m alive).in_order;
      so = (refl, refl);
      lately = inl refl;
      marked = All-nil (IsMarked g.at);
      mail = refl;
      single = λ a. omega arith;
      awaited = tt;
    };
    unmoved = λ m out. refl;
    locks = subst (All (IsHeld b first)) (sym g.locks) (All-nil (IsHeld b first));
    slow = λ m. counts_so m g.nodes ∙ g.all m ∙ sym (counts_so m b.alive);
    known = All-nil (IsOf b);
    voiced = λ m alive. refl;
    inner = λ m alive. refl;
    away = λ m a alive other. refl;
    home = λ m a alive mine. refl;
    order = λ m n q alive apart strange. refl;
    events = λ m alive. sym (append-nil (of_owner node_told (Some m) b.events));
    strangers = λ m out. refl;
    nobodys = refl;
  }
