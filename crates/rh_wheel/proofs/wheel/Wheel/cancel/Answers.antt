use Rattle.std.proofs.Common.{◌≡◌, ◌%◌, ◌∙◌, ℕ, Some, None, IsSome, set, refl, sym, ap, arith}
use Rattle.std.proofs.lemmas.List.{length-set, get_or_default}
use Rattle.rh_arena.specs.Words.{Words, owner_of}
use Rattle.rh_wheel.specs.Firing.{without, due_in}
use Rattle.rh_wheel.specs.Stored.{Stored, listed, timer_count, due_of}
use Rattle.rh_wheel.specs.Edits.{exchange}
use Rattle.rh_wheel.proofs.Cancelling.{unarmed-without, due_in-without_other, length-without}
use Rattle.rh_wheel.proofs.Slots.{armed_from_listed, within_from_due, IsFiringOrder-listed}
use Rattle.rh_wheel.proofs.CancelledSlots.{IsCancelled, listed-cancelled, IsFormed-cancelled}
use Rattle.rh_wheel.proofs.Exchanging.{Stored-same, set-back}
use Rattle.rh_wheel.proofs.wheel.Wheel.cancel.Goals as goal

pub index-due-requires : goal.index-due-requires
index-due-requires c =
    let armed = armed_from_listed _ c.self.invariant.formed c.args.timer (rw (← c.self.view_is) at c.requires) in
    omega (arith, within_from_due c.self.inside.dues.items c.args.timer armed.0 armed.1, c.self.inside.dues.ok)

pub index_mut-requires : goal.index_mut-requires
index_mut-requires c =
    let armed = armed_from_listed _ c.self.invariant.formed c.args.timer (rw (← c.self.view_is) at c.requires) in
    omega (arith, within_from_due c.self.inside.dues.items c.args.timer armed.0 armed.1, c.self.inside.dues.ok)

pub remove-links-requires : goal.remove-links-requires
remove-links-requires c =
    let armed = armed_from_listed _ c.self.invariant.formed c.args.timer (rw (← c.self.view_is) at c.requires) in
    rw armed.2 refl

pub new-requires : goal.new-requires
new-requires c =
    let armed = armed_from_listed _ c.self.invariant.formed c.args.timer (rw (← c.self.view_is) at c.requires) in
    let within = within_from_due c.self.inside.dues.items c.args.timer armed.0 armed.1 in
    let due = c.index-due.ensures ∙ get_or_default c.self.inside.dues.items c.args.timer c.index-due.result.now None within ∙ armed.1 in
    (λ e. rw (c.remove-links.ensures.taken_from, armed.2) refl, λ e. rw due refl)

-- what is kept before, and what is kept after
abbrev kept : goal.After-new → Stored
kept c = record { links = c.self.inside.slots; dues = c.self.inside.dues.items }

abbrev left : goal.After-new → Stored
left c = record { links = c.remove-links.new.self; dues = set c.self.inside.dues.items c.args.timer None }

armed : (c : goal.After-new) → (d : ℕ) × (due_of (kept c) c.args.timer ≡ Some d) × (owner_of c.self.inside.slots c.args.timer ≡ Some (d % 64))
armed c = armed_from_listed (kept c) c.self.invariant.formed c.args.timer (rw (← c.self.view_is) at c.requires)

cancelled : (c : goal.After-new) → IsCancelled (kept c) (left c) c.args.timer (armed c).0
cancelled c = record {
  armed = (armed c).1;
  dues = refl;
  own = c.remove-links.ensures.list ((armed c).0 % 64) (armed c).2;
  others = λ k differs. c.remove-links.ensures.others k (λ e. differs (let same : Some k ≡ Some ((armed c).0 % 64) = sym e ∙ (armed c).2 in cc same));
}

pub invariant_of-self : goal.invariant_of-self
invariant_of-self c = record {
  formed = IsFormed-cancelled (kept c) (left c) c.args.timer (armed c).0 c.self.invariant.formed (cancelled c) c.formed.ensures
      c.remove-links.ensures.list_count c.remove-links.ensures.entry_count
      (ap (λ (w : Words). w.owner) (c.remove-links.ensures.words ((armed c).0 % 64) (armed c).2));
  few = let same = length-set c.self.inside.dues.items c.args.timer None in omega (arith, same, c.self.invariant.few);
}

list : (c : goal.After-new) → listed (left c) ≡ without c.args.timer (listed c.args.self.now)
list c = rw (← c.self.view_is) (listed-cancelled (kept c) (left c) c.args.timer (armed c).0 c.self.invariant.formed (cancelled c))

pub returns-clause-list : goal.returns-clause-list
returns-clause-list c = list c

pub returns-clause-count : goal.returns-clause-count
unfolding timer_count
returns-clause-count c = rw (← c.self.view_is) (length-set c.self.inside.dues.items c.args.timer None)

pub returns-clause-unarmed : goal.returns-clause-unarmed
returns-clause-unarmed c = rw (list c) (unarmed-without c.args.timer _)

pub returns-clause-others : goal.returns-clause-others
returns-clause-others c t differs = rw (list c) (due_in-without_other c.args.timer _ t differs)

pub returns-clause-one_less : goal.returns-clause-one_less
returns-clause-one_less c =
    let armed : IsSome (due_in c.args.timer (listed (kept c))) = rw (← c.self.view_is) at c.requires in
    rw (list c, ← c.self.view_is) (length-without c.args.timer _ (IsFiringOrder-listed (kept c) c.self.invariant.formed).once armed)

pub returns-clause-exact : goal.returns-clause-exact
unfolding exchange
returns-clause-exact c =
    let links = c.remove-links.result in
    let due = c.index-due.result.now in
    (λ k. exchange (left c) (c.new.ensures k))
    ∙ (λ k. exchange (left c) (record { is_done = links.is_done; changes = links.changes; timer = c.remove-links.ensures.entry k; due = due }))
    ∙ Stored-same _ (kept c) c.remove-links.ensures.exact (set-back c.self.inside.dues.items c.args.timer None due due (sym c.index-due.ensures))
    ∙ c.self.view_is
