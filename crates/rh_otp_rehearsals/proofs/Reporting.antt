-- What is told of two simulations that hold alike is the same.
use Rattle.std.proofs.Common.{◌≡◌, ◌==◌, ◌&&◌, ◌++◌, Bool, true, false, cond, List, [], ◌∷◌, filter, slice_get, Option, Some, None, refl, sym, ap, subst, ◌∙◌}
use Rattle.std.specs.List.{filter_map, cons_option}
use Rattle.std.specs.Option.{option_map}
use Rattle.std.specs.Prelude.{codes}
use Rattle.std.proofs.lemmas.Bool.{false≢true}
use Rattle.rh_history.specs.HistoryView.{HistoryView}
use Rattle.rh_model.specs.declared.node.App.{App}
use Rattle.rh_model.specs.declared.node.Node.{Node}
use Rattle.rh_otp_net.specs.declared.order.Order.{Order}
use Rattle.rh_otp_net.specs.declared.timers.Timer.{Timer}
use Rattle.rh_otp_node.specs.Live.{LiveView}
use Rattle.rh_otp_orders.specs.Orders.{SameOfEach, is_owner, node_of_timer}
use Rattle.rh_otp_report.specs.Apps.{runs_by, app_reports}
use Rattle.rh_otp_report.specs.Blocks.{block_at, boot_at}
use Rattle.rh_otp_report.specs.Forbidden.{forbidden_at}
use Rattle.rh_otp_report.specs.NodeTimers as node_timers
use Rattle.rh_otp_report.specs.OpenCalls.{is_open_at, open_calls}
use Rattle.rh_otp_report.specs.Report.{node_report, node_reports, report_of}
use Rattle.rh_otp_report.specs.Rows.{running_at, waiting_at, starting_at}
use Rattle.rh_otp_report.specs.Views.{ReportView}
use Rattle.rh_otp_sim.specs.Laws.{behind}
use Rattle.rh_otp_sim.specs.Sim.{LiveSimView, opened, net_in}
use Rattle.rh_otp_system.specs.declared.calls.Call.{Call}
use Rattle.rh_otp_system.specs.declared.cell.Cell.{Cell}
use Rattle.rh_otp_text.specs.ReportText.{report_text}
use Rattle.rh_rules.specs.Course.{is_local}
use Rattle.rh_state.specs.Numbers.{nodes_of, apps_of}
use Rattle.rh_otp_rehearsals.specs.Alike.{HoldAlike}
use Rattle.rh_otp_rehearsals.specs.Reports.{ReportTheSame, ReportsAreTheSame}
use Rattle.rh_otp_rehearsals.proofs.Refusing.{another}
use Rattle.rh_otp_rehearsals.proofs.Rehearsing.{is_another, holds_alike, at_step, matches_behind}
use Rattle.rh_otp_rehearsals.proofs.Stepping.{Matches}
use Rattle.rh_otp_rehearsals.proofs.Waiting.{turned}

-- ---- the timers of a node

told_by : {A B : Type 0} (f : A → Option B) (p : A → Bool) (x : A) (xs : List A) (b : Bool) → p x ≡ b → (p x ≡ false → f x ≡ None)
    → filter_map f xs ≡ filter_map f (filter p xs) → filter_map f (x ∷ xs) ≡ filter_map f (filter p (x ∷ xs))
told_by f p x xs true is none rest =
    ap (cons_option (f x)) rest ∙ sym (ap (λ (b : Bool). filter_map f (cond b (x ∷ filter p xs) (filter p xs))) is)
told_by f p x xs false is none rest =
    ap (λ o. cons_option o (filter_map f xs)) (none is) ∙ rest
    ∙ sym (ap (λ (b : Bool). filter_map f (cond b (x ∷ filter p xs) (filter p xs))) is)

-- what is told of nothing else is told of these alone
told_of_these : {A B : Type 0} (f : A → Option B) (p : A → Bool) → ((x : A) → p x ≡ false → f x ≡ None) → (xs : List A)
    → filter_map f xs ≡ filter_map f (filter p xs)
told_of_these f p none [] = refl
told_of_these f p none (x ∷ xs) = told_by f p x xs (p x) refl (none x) (told_of_these f p none xs)

of_others : (v : LiveView) (n : Node) (t : Timer) → (n.0 == t.to.node.0) ≡ false → node_timers.timer_at v n t ≡ None
of_others v n t other = by (t.to.node.0 == n.0) refl
  where
    by : (b : Bool) → (t.to.node.0 == n.0) ≡ b → node_timers.timer_at v n t ≡ None
    by true is = absurd (false≢true (sym other ∙ turned t.to.node.0 n.0 is))
    by false is =
        λ i. cond (is i && node_timers.lives v t.to.life) (node_timers.timer_by v.phase t.message t.due) None

same_timers : (v : LiveView) (n : Node) (xs ys : List Timer) → SameOfEach node_of_timer xs ys
    → node_timers.timers_at v n xs ≡ node_timers.timers_at v n ys
same_timers v n xs ys same =
    told_of_these (node_timers.timer_at v n) p (of_others v n) xs ∙ ap (filter_map (node_timers.timer_at v n)) (same (Some n))
    ∙ sym (told_of_these (node_timers.timer_at v n) p (of_others v n) ys)
  where
    p : Timer → Bool
    p t = is_owner (Some n) (node_of_timer t)

-- ---- all that is told

abbrev Together : LiveSimView → Order → HistoryView Cell → Type 0
Together sim order history = HoldAlike sim (another sim order history)

same_node : (sim : LiveSimView) (order : Order) (history : HistoryView Cell) (n : Node) (v : LiveView) → Together sim order history
    → node_report sim.cluster (net_in sim) (slice_get sim.files n.0) n v
    ≡ node_report sim.cluster (net_in (another sim order history)) (slice_get sim.files n.0) n v
same_node sim order history n v g = λ i. record {
  node = n;
  phase = v.phase;
  life = v.life;
  running = running_at v;
  waiting = waiting_at v;
  forbidden = forbidden_at sim.cluster (slice_get sim.files n.0) n v;
  starting = starting_at v;
  block = block_at v (g.net.locks i);
  boot = boot_at v sim.cluster n;
  timers = same_timers v n (net_in sim).timers (net_in (another sim order history)).timers g.net.timers i;
}

same_nodes : (sim : LiveSimView) (order : Order) (history : HistoryView Cell) → Together sim order history
    → node_reports sim (net_in sim) ≡ node_reports (another sim order history) (net_in (another sim order history))
same_nodes sim order history g =
    λ i. filter_map (λ (n : Node). option_map (λ (v : LiveView). same_node sim order history n v g i) (g.nodes n i)) (nodes_of sim.cluster)

same_apps : (sim : LiveSimView) (order : Order) (history : HistoryView Cell) → Together sim order history
    → app_reports sim ≡ app_reports (another sim order history)
same_apps sim order history g =
    λ i. filter_map (λ (a : App). cond (is_local sim.cluster a) None (Some (record {
      app = a;
      nodes = filter (λ (n : Node). runs_by (g.nodes n i) a) (nodes_of sim.cluster);
    }))) (apps_of sim.cluster)

same_calls : (sim : LiveSimView) (order : Order) (history : HistoryView Cell) → Together sim order history
    → open_calls sim (net_in sim).calls ≡ open_calls (another sim order history) (net_in (another sim order history)).calls
same_calls sim order history g =
    λ i. filter_map (λ (call : Call). cond (is_open_at (g.nodes call.node i) call)
    (Some (record { ask = call.ask; node = call.node; app = call.app })) None) (g.net.calls i)

same_report : (sim : LiveSimView) (order : Order) (history : HistoryView Cell) → Together sim order history
    → report_of sim ≡ report_of (another sim order history)
unfolding report_of
same_report sim order history g = λ i. record {
  time = g.net.clock i;
  nodes = same_nodes sim order history g i;
  apps = same_apps sim order history g i;
  calls = same_calls sim order history g i;
}

-- ---- the law

report_both : (one other : LiveSimView) → Matches one other → ReportTheSame one other
report_both one other g =
    let is : other ≡ another one other.order other.history = is_another one other g in
    let h : Together one other.order other.history = subst (HoldAlike one) is (holds_alike one other g) in
    let same : report_of one ≡ report_of (another one other.order other.history) = same_report one other.order other.history h in
    subst (ReportTheSame one) (sym is) (record {
      report = same;
      text = ap (λ
          (r : ReportView). codes "ok\n" ++ report_text one.cluster r) same;
    })

pub reports_same : ReportsAreTheSame
reports_same cluster files one other calls every =
    let all : Matches (behind calls (opened cluster files one)) (behind calls (opened cluster files other)) =
    matches_behind cluster files one other calls every in
    record {
      now = report_both _ _ all;
      each = λ k within. report_both _ _ (at_step k _ _ all within);
    }
