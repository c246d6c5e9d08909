use Rattle.std.proofs.Common.{◌≡◌, ◌∷◌, ◌++◌, ℕ, [], List, map, refl, sym, ap, ◌∙◌}
use Rattle.std.proofs.lemmas.List.{append-nil, append_assoc}
use Rattle.std.proofs.lemmas.List.Elements.{All-push}
use Rattle.rh_wheel.specs.Stored.{listed}
use Rattle.rh_state.specs.declared.status.Timer.{Timer}
use Rattle.rh_state.specs.Shape.{IsTimerOf}
use Rattle.rh_state.specs.Stored.{read, timers_of}
use Rattle.rh_state.proofs.TimerNumbers.{first_and_rest, meant}
use Rattle.rh_state.proofs.state.State.timers.Goals as goal

pub loop-due-preserved : goal.loop-due-preserved
loop-due-preserved c =
    let cluster = c.args.self.now.cluster in
    let before = listed c.loop-due.wheel in
    let all : before ≡ (c.in-Some.due, c.in-Some.number) ∷ listed c.cancel.new.self =
    first_and_rest before c.in-Some.due c.in-Some.number (sym c.in-Some.ensures.first) c.in-Some.ensures.order.once
    ∙ ap (λ (es : List (ℕ × ℕ)). (c.in-Some.due, c.in-Some.number) ∷ es) (sym c.cancel.ensures.list) in
    let items : c.push.new.self.items ≡ c.loop-due.timers.items ++ meant cluster (c.in-Some.due, c.in-Some.number) ∷ [] =
    rw c.timer_of.ensures.timer at c.in_ok-push.ensures.items in
    record {
      meant = rw (items, append_assoc) (ap (λ (es : List (ℕ × ℕ)). c.loop-due.timers.items ++ map (meant cluster) es) (sym all) ∙ c.loop-due.invariant.meant);
      numbers = rw c.in_ok-push.ensures.items (All-push (λ (entry : ℕ × Timer). IsTimerOf c.args.self.now.cluster entry.1) c.loop-due.timers.items
          (c.in-Some.due, c.timer_of.result) c.loop-due.invariant.numbers c.timer_of.ensures.within);
      count = c.cancel.ensures.count ∙ c.loop-due.invariant.count;
    }

pub returns-clause-timers : goal.returns-clause-timers
unfolding read timers_of
returns-clause-timers c =
    let none : listed c.loop-due.wheel ≡ [] = c.earliest.ensures.none.0 (rw c.in_default.is refl) in
    sym (append-nil c.loop-due.timers.items) ∙ rw none at c.loop-due.invariant.meant
