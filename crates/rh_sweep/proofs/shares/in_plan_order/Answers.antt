use Rattle.std.proofs.Common.{◌≡◌, ◌+◌, ◌++◌, ◌∷◌, [], List, Some, length, map, take, get_or, zero-add, sym, ap, subst, ◌∙◌, arith, Global}
use Rattle.std.specs.Option.{option_to_list}
use Rattle.std.specs.declared.collections.VecDeque.{VecDeque}
use Rattle.std.proofs.lemmas.List.{length-map, map-append, map_more, take_all}
use Rattle.rh_plans.specs.declared.plan.Outcome.{Outcome}
use Rattle.rh_plans.specs.declared.plan.Plan.{Plan}
use Rattle.rh_outcomes.specs.Outcomes.{outcome_of}
use Rattle.rh_sweep.specs.Working.{AreOutcomes, given}
use Rattle.rh_sweep.proofs.Strides.{any-plan}
use Rattle.rh_sweep.proofs.Turns.{AreTurns, taken, each-given, all-ok, has-outcome, is-outcome, turn-more}
use Rattle.rh_sweep.proofs.shares.in_plan_order.Goals as goal

abbrev items : VecDeque Outcome Global → List Outcome
items turn = turn.items

pub loop-number-init : goal.loop-number-init
loop-number-init c =
    let base = c.args.base.now.seen in
    let plans = c.args.plans.now in
    let parts = c.args.parts.items in
    let turns = c.in_ok-turns.turns.items in
    let same : map (λ t. Some (items t)) turns ≡ map given parts = c.in_ok-turns.ensures in
    record {
      turns = record {
        count = length-map turns items ∙ sym (length-map turns (λ t. Some (items t))) ∙ ap (λ gs. length gs) same ∙ length-map parts given;
        each = λ i within. subst (λ w. AreOutcomes base plans (length parts) w (get_or (map items turns) i [])) (sym (zero-add i))
            (each-given items (λ w outs. AreOutcomes base plans (length parts) w outs) turns parts same c.requires.parts i within);
      };
      outcomes = c.in_ok-outcomes.ensures.items;
    }

pub unwrap-part-requires : goal.unwrap-part-requires
unwrap-part-requires c =
    let turns = c.loop-number.turns.items in
    taken c.pop_front.result turns c.pop_front.new.self.items c.pop_front.ensures.items c.pop_front.ensures.rest
    (omega (arith, c.requires.some, c.loop-number.invariant.turns.count, length-map turns items))

-- the worker whose turn it is, and the others
split : (c : goal.After-pop_front-in-loop-number) → c.loop-number.turns.items ≡ c.unwrap-part.result ∷ c.pop_front.new.self.items
split c = c.pop_front.ensures.items ∙ ap (λ o. option_to_list o ++ c.pop_front.new.self.items) c.unwrap-part.ensures

pub unwrap-requires : goal.unwrap-requires
unwrap-requires c =
    let base = c.args.base.now.seen in
    let plans = c.args.plans.now in
    let n = c.loop-number._number in
    let part = c.unwrap-part.result in
    let others = c.pop_front.new.self.items in
    let now : AreTurns base plans (length c.args.parts.items) n (map items (part ∷ others)) =
    subst (λ (ts : List (VecDeque Outcome Global)). AreTurns base plans (length c.args.parts.items) n (map items ts)) (split c) c.loop-number.invariant.turns in
    taken c.pop_front-in-loop-number.result part.items c.pop_front-in-loop-number.new.self.items
    c.pop_front-in-loop-number.ensures.items c.pop_front-in-loop-number.ensures.rest
    (has-outcome base plans (length c.args.parts.items) n (map items others) c.loop-number-test.true part.items
    (any-plan plans n c.loop-number-test.true) now)

pub loop-number-preserved : goal.loop-number-preserved
loop-number-preserved c =
    let base = c.args.base.now.seen in
    let plans = c.args.plans.now in
    let k = length c.args.parts.items in
    let n = c.loop-number._number in
    let others = c.pop_front.new.self.items in
    let o = c.unwrap.result in
    let left = c.pop_front-in-loop-number.new.self in
    let d = any-plan plans n c.loop-number-test.true in
    let turn : c.unwrap-part.result.items ≡ o ∷ left.items =
    c.pop_front-in-loop-number.ensures.items ∙ ap (λ r. option_to_list r ++ left.items) c.unwrap.ensures in
    let all : c.loop-number.turns.items ≡ c.unwrap-part.result ∷ others =
    c.pop_front.ensures.items ∙ ap (λ r. option_to_list r ++ others) c.unwrap-part.ensures in
    let now : AreTurns base plans k n ((o ∷ left.items) ∷ map items others) =
    subst (AreTurns base plans k n) (ap (map items) all ∙ ap (λ os. os ∷ map items others) turn) c.loop-number.invariant.turns in
    let behind : map items c.push_back.new.self.items ≡ map items others ++ left.items ∷ [] =
    ap (map items) c.in_ok-push_back.ensures.items ∙ map-append items others (left ∷ []) in
    record {
      turns = subst (AreTurns base plans k (n + 1)) (sym behind) (turn-more base plans k n o left.items (map items others) now);
      outcomes = c.in_ok-push.ensures.items
          ∙ ap (λ (os : List Outcome). os ++ o ∷ []) c.loop-number.invariant.outcomes
          ∙ ap (λ (p : Outcome). map (outcome_of base) (take n plans) ++ p ∷ [])
          (is-outcome base plans k n (map items others) c.loop-number-test.true o left.items d now)
          ∙ sym (map_more (outcome_of base) plans n d c.loop-number-test.true);
    }

pub returns-clause-outcomes : goal.returns-clause-outcomes
returns-clause-outcomes c =
    c.loop-number.invariant.outcomes
    ∙ ap (λ (ps : List Plan). map (outcome_of c.args.base.now.seen) ps)
    (take_all c.loop-number._number c.args.plans.now (omega (arith, c.loop-number-test.false)))

pub returns-clause-whole : goal.returns-clause-whole
returns-clause-whole c = all-ok items c.in_ok-turns.turns.items c.args.parts.items c.in_ok-turns.ensures
