use Rattle.std.proofs.Common.{◌≡◌, ◌&&◌, ◌∙◌, subst, sym, List, true, take, get_or}
use Rattle.std.proofs.lemmas.List.{take_all}
use Rattle.std.proofs.lemmas.List.Folds.{list_any_more}
use Rattle.rh_model.specs.ClusterView.{numbered, app_numbered}
use Rattle.rh_state.specs.Numbers.{same_app, same_node}
use Rattle.rh_state.specs.Stored.{read}
use Rattle.rh_place.specs.Sets.{has}
use Rattle.rh_rules.specs.Course.{is_fresh}
use Rattle.rh_rules.specs.declared.notice.Pair.{Pair}
use Rattle.rh_trace.proofs.Entries.{either}
use Rattle.rh_base.proofs.Truths.{or_left, or_right}
use Rattle.rh_settle.proofs.Starts.{none_local}
use Rattle.rh_settle.proofs.StartsMarked.{one_added, adds, all_asked}
use Rattle.rh_settle.proofs.ready.nodes_of_pairs.Goals as goal

pub pairs-preserved : goal.pairs-preserved
pairs-preserved c =
    let s = read c.args.state.now in
    let i = c.pairs.pair-index in
    let none : Pair = record { node = numbered 0; app = app_numbered 0 } in
    let p = get_or c.args.pairs.now i none in
    let more = c.with_pair-nodes.ensures in
    record {
      some = λ n h. either (has c.pairs.nodes n) _ (sym (more n) ∙ h) (c.pairs.invariant.some n) (one_added s n p);
      asked = λ n a fresh waits starts. more n ∙ either (is_fresh (take i c.args.pairs.now) n a) (same_node n p.node && same_app a p.app)
          (sym (list_any_more (λ (q : Pair). same_node n q.node && same_app a q.app) c.args.pairs.now i none c.pairs-test.true) ∙ fresh)
          (λ before. or_left (has c.pairs.nodes n) _ (c.pairs.invariant.asked n a before waits starts))
          (λ here. or_right (has c.pairs.nodes n) _ (adds s n a p here waits starts));
    }

pub returns-after-pairs : goal.returns-after-pairs
returns-after-pairs c = all_asked (read c.args.state.now) c.args.local.now c.args.pairs.now c.pairs.nodes c.formed.ensures.shape c.requires.local c.requires.starts
    c.pairs.invariant.some
    (λ n a fresh. c.pairs.invariant.asked n a (subst (λ (ps : List Pair). is_fresh ps n a ≡ true) (sym (take_all c.pairs.pair-index c.args.pairs.now c.pairs-test.false)) fresh))

pub returns-else-not-is_empty : goal.returns-else-not-is_empty
returns-else-not-is_empty c = λ n.
    let s = read c.args.state.now in
    c.empty-nodes.ensures n
    ∙ sym (none_local s n c.formed.ensures.shape (λ a of. sym (c.requires.local a of) ∙ c.is_empty.ensures.0 c.if-not-is_empty.false a))
