use Rattle.std.proofs.Common.{◌≡◌, ◌<◌, ◌||◌, true, ◌&&◌, ◌==◌, sym, ap, ◌∙◌, arith}
use Rattle.std.proofs.lemmas.List.Folds.{list_any-append}
use Rattle.rh_model.specs.ClusterView.{ClusterView, node_count, app_count}
use Rattle.rh_model.specs.declared.node.Node.{Node}
use Rattle.rh_model.specs.declared.node.App.{App}
use Rattle.rh_state.specs.Shape.{IsAppOf}
use Rattle.rh_model.specs.declared.limits.TheConstants.{MAX_APPS}
use Rattle.rh_place.specs.declared.node_set.TheConstants.NodeSet.{LIMIT}
use Rattle.rh_place.specs.Sets.{has}
use Rattle.rh_rules.specs.declared.notice.Pair.{Pair}
use Rattle.rh_model.specs.Marks.{is_marked}
use Rattle.rh_settle.specs.Boards.{ReadyView, is_among, is_wanted, matters}
use Rattle.rh_rules.specs.Course.{is_fresh}
use Rattle.rh_state.specs.StateView.{standing_of}
use Rattle.rh_state.specs.Stored.{read}
use Rattle.rh_settle.proofs.Boards.{asked_matters}
use Rattle.rh_base.proofs.Truths.{both}
use Rattle.rh_trace.proofs.Entries.{either}
use Rattle.rh_settle.proofs.board.Board.of.Goals as goal

pub returns : goal.returns
returns c =
    let apps = c.app_count-few_apps.ensures.count ∙ ap (λ (v : ClusterView). app_count v) c.cluster.ensures in
    let nodes = c.node_count-few_nodes.ensures.count ∙ ap (λ (v : ClusterView). node_count v) c.cluster-2.ensures in
    let marked : (n : Node) (a : App) → IsAppOf (read c.args.state.now).cluster a → matters (read c.args.state.now) c.add_fresh-2.new.sets a n ≡ true
    → is_marked c.add_fresh-2.new.marks a ≡ true = λ n a of_a m. either (is_wanted (standing_of (read c.args.state.now) a)) (is_among c.add_fresh-2.new.sets a n) m
    (λ w. c.add_fresh-2.ensures.kept a (c.add_fresh.ensures.kept a (ap (λ (r : ReadyView). is_marked r.wanted a) c.ready.view_is ∙ c.requires.wanted a of_a ∙ w)))
    (c.add_fresh-2.ensures.covered a n) in
    record {
      local = λ a of_a. ap (λ (r : ReadyView). is_marked r.local a) c.ready.view_is ∙ c.requires.local a of_a;
      fresh = λ a n of_a of_n.
          let few : a.0 < MAX_APPS = omega (arith, of_a, apps, c.app_count-few_apps.ensures.limit) in
          let low : n.0 < LIMIT = omega (arith, of_n, nodes, c.node_count-few_nodes.ensures.limit) in
          c.add_fresh-2.ensures.pairs a n few low
          ∙ ap (λ b. b || is_fresh c.args.marked.now n a) (c.add_fresh.ensures.pairs a n few low ∙ ap (λ b. b || is_fresh c.args.freed.now n a) (c.empty.ensures a n))
          ∙ sym (list_any-append (λ (p : Pair). (n.0 == p.node.0) && (a.0 == p.app.0)) c.args.freed.now c.args.marked.now);
      exact = λ n. record {
        starts = ap (λ (r : ReadyView). has r.starts n) c.ready.view_is ∙ c.requires.starts n;
        moving = λ a of_a m. marked n a of_a m;
        able = λ a of_a m. c.find_able.ensures n a of_a
            (marked n a of_a (asked_matters (is_wanted (standing_of (read c.args.state.now) a)) _ (is_among c.add_fresh-2.new.sets a n) m)) m;
      };
    }

pub add_fresh-requires : goal.add_fresh-requires
add_fresh-requires c = λ a n among. both (is_among c.empty.result a n) among (c.empty.ensures a n)
