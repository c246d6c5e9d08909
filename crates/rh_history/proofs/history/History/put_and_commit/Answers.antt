use Rattle.std.proofs.Common.{◌<◌, ℕ, length, set, ap, sym, subst, ◌∙◌, arith}
use Rattle.std.proofs.lemmas.Iterator.Adapters.{YieldsList-from_vec}
use Rattle.std.proofs.lemmas.Iterator.Consumers.{YieldsList-turn}
use Rattle.rh_history.specs.HistoryView.{HistoryView}
use Rattle.rh_history.proofs.Overlays.{length-written, written-push}
use Rattle.rh_history.proofs.history.History.put_and_commit.Goals as goal

pub put-requires : goal.put-requires
put-requires g c =
    let T : Type 0 = g.row.T.Denot in
    let old = c.args.self.now in
    let w : ℕ × T = (c.in-Some.at, c.in-Some.value) in
    let gives = c.into_iter-at-iterator.ensures.into_iter_gives in
    let turn = YieldsList-turn (YieldsList-from_vec {s = c.into_iter-at-iterator.result} c.args.writes.items gives.0 (gives.1 ∙ c.args.writes.ok.0))
    c.writes.yielded c.writes.at-iterator c.writes.yielded_by c.next.result c.next.new.self w c.in-Some.is c.next.ensures.steps in
    let place : c.in-Some.at < length old.now =
    subst (λ (v : ℕ × T). v.0 < length old.now) (sym turn.1) (c.requires (length c.writes.yielded) w turn.0) in
    omega (arith, place, ap (λ (h : HistoryView T). length h.now) c.writes.invariant, length-written old.now c.writes.yielded)

pub writes-preserved : goal.writes-preserved
writes-preserved g c =
    let T : Type 0 = g.row.T.Denot in
    let old = c.args.self.now in
    let w : ℕ × T = (c.in-Some.at, c.in-Some.value) in
    c.in_ok-put.ensures.ok
    ∙ (λ i. let h = c.writes.invariant i in record { now = set h.now w.0 w.1; states = h.states; cursor = h.cursor })
    ∙ (λ i. record old { now = sym (written-push old.now c.writes.yielded w) i })
