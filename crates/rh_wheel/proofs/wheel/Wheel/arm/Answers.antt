use Rattle.std.proofs.Common.{◌≡◌, ◌<◌, ◌∙◌, Some, None, IsSome, length, set, refl, sym, subst, arith}
use Rattle.std.proofs.lemmas.List.{length-set}
use Rattle.rh_wheel.specs.Firing.{behind}
use Rattle.rh_wheel.specs.Stored.{Stored, listed, timer_count, due_of}
use Rattle.rh_wheel.specs.Edits.{exchange}
use Rattle.rh_wheel.proofs.Arming.{due_in-behind_same, due_in-behind_other, without-behind, due_at-behind}
use Rattle.rh_wheel.proofs.Slots.{unarmed_from_listed, IsFiringOrder-listed}
use Rattle.rh_wheel.proofs.ArmedSlots.{IsArmed, listed-armed}
use Rattle.rh_wheel.proofs.Exchanging.{Stored-same, set-back}
use Rattle.rh_wheel.proofs.wheel.Wheel.arm.Goals as goal

pub index_mut-requires : goal.index_mut-requires
unfolding timer_count
index_mut-requires c =
    let numbered : c.args.timer < length c.self.inside.dues.items = rw (← c.self.view_is) at c.requires.numbered in
    omega (arith, numbered, c.self.inside.dues.ok)

pub push_back-links-requires-clause-entry : goal.push_back-links-requires-clause-entry
unfolding timer_count
push_back-links-requires-clause-entry c =
    let numbered : c.args.timer < length c.self.inside.dues.items = rw (← c.self.view_is) at c.requires.numbered in
    omega (arith, numbered, c.self.invariant.formed.timers)

pub push_back-links-requires-clause-free : goal.push_back-links-requires-clause-free
push_back-links-requires-clause-free c =
    (unarmed_from_listed _ c.self.invariant.formed c.args.timer (rw (← c.self.view_is) at c.requires.unarmed)).1

pub new-requires : goal.new-requires
new-requires c = (subst IsSome (sym c.push_back-links.ensures.taken_from), subst IsSome c.push_back-links.ensures.taken_from)

-- what is kept before, and what is kept after
abbrev kept : goal.After-new → Stored
kept c = record { links = c.self.inside.slots; dues = c.self.inside.dues.items }

abbrev left : goal.After-new → Stored
left c = record { links = c.push_back-links.new.self; dues = set c.self.inside.dues.items c.args.timer (Some c.args.due) }

free : (c : goal.After-new) → due_of (kept c) c.args.timer ≡ None
free c = (unarmed_from_listed (kept c) c.self.invariant.formed c.args.timer (rw (← c.self.view_is) at c.requires.unarmed)).0

armed : (c : goal.After-new) → IsArmed (kept c) (left c) c.args.timer c.args.due
unfolding timer_count
armed c = record {
  numbered = rw (← c.self.view_is) at c.requires.numbered;
  free = free c;
  dues = refl;
  own = c.push_back-links.ensures.list;
  others = c.push_back-links.ensures.others;
}

list : (c : goal.After-new) → listed (left c) ≡ behind (c.args.due, c.args.timer) (listed c.args.self.now)
list c = rw (← c.self.view_is) (listed-armed (kept c) (left c) c.args.timer c.args.due c.self.invariant.formed (armed c))

pub returns-clause-list : goal.returns-clause-list
returns-clause-list c = list c

pub returns-clause-count : goal.returns-clause-count
unfolding timer_count
returns-clause-count c = rw (← c.self.view_is) (length-set c.self.inside.dues.items c.args.timer (Some c.args.due))

pub returns-clause-armed : goal.returns-clause-armed
returns-clause-armed c = rw (list c) (due_in-behind_same (c.args.due, c.args.timer) _ c.requires.unarmed)

pub returns-clause-others : goal.returns-clause-others
returns-clause-others c t differs = rw (list c) (due_in-behind_other (c.args.due, c.args.timer) _ t differs)

pub returns-clause-cancelled : goal.returns-clause-cancelled
returns-clause-cancelled c = rw (list c) (without-behind (c.args.due, c.args.timer) _ c.requires.unarmed)

pub returns-clause-last_of_equals : goal.returns-clause-last_of_equals
returns-clause-last_of_equals c =
    let order = IsFiringOrder-listed (kept c) c.self.invariant.formed in
    rw (list c, ← c.self.view_is) (due_at-behind (c.args.due, c.args.timer) _ order.by_due)

pub returns-clause-exact : goal.returns-clause-exact
unfolding exchange
returns-clause-exact c =
    let links = c.push_back-links.result in
    (λ k. exchange (left c) (c.new.ensures k))
    ∙ (λ k. exchange (left c) (record { is_done = links.is_done; changes = links.changes; timer = c.push_back-links.ensures.entry k; due = None }))
    ∙ Stored-same _ (kept c) c.push_back-links.ensures.exact
    (set-back c.self.inside.dues.items c.args.timer (Some c.args.due) None None (free c))
    ∙ c.self.view_is
