use Rattle.std.proofs.Common.{◌≡◌, ◌∙◌, ℕ, set, get_or, sym, subst, arith}
use Rattle.std.specs.Int.{w64, from_le_bytes}
use Rattle.std.specs.Option.{option_map}
use Rattle.std.specs.Prelude.{unwrap_or}
use Rattle.std.proofs.lemmas.List.{length-set}
use Rattle.rh_arena.specs.Exchange.{exchange as exchange_links, turned as turned_links}
use Rattle.rh_arena.specs.Spots.{entry_in, list_in}
use Rattle.rh_wheel.specs.Edits.{exchange, turned, links_of, EditView}
use Rattle.rh_wheel.specs.Formed.{IsFormed}
use Rattle.rh_wheel.specs.Stored.{Stored}
use Rattle.rh_wheel.proofs.Exchanging.{Stored-same, exchange_twice, turned_twice, due-turned}
use Rattle.rh_wheel.proofs.wheel.Wheel.reapply.Goals as goal

pub reapply-requires-clause-formed : goal.reapply-requires-clause-formed
unfolding exchange
reapply-requires-clause-formed c = (rw (← c.self.view_is, ← c.edit.view_is) at c.requires.formed).links

-- what is kept before, and the edit
abbrev kept : goal.After-edit-1 → Stored
kept c = record { links = c.self.inside.slots; dues = c.self.inside.dues.items }

abbrev given : goal.After-edit-1 → EditView
given c = record {
  is_done = c.edit.inside.links.is_done;
  changes = c.edit.inside.links.changes;
  timer = entry_in c.edit.inside.links.changes;
  due = option_map (λ (slot : ℕ). from_le_bytes w64 c.edit.inside.due) (list_in c.edit.inside.links.changes);
}

words : (c : goal.After-edit-1) → record { links = c.reapply.new.self; dues = c.exchange_due-due.new.dues.items } ≡ exchange (kept c) (given c)
unfolding exchange
words c = Stored-same _ _ c.reapply.ensures.words
    (c.exchange_due-due.ensures.dues
    ∙ (λ k. set c.self.inside.dues.items (c.timer.ensures.timer k) (c.due.ensures.due k))
    ∙ (λ k. set c.self.inside.dues.items (sym c.edit.view_is k).timer (sym c.edit.view_is k).due))

-- the due time that was there, which is the edit's where the timer was armed
due : (c : goal.After-edit-1) → option_map (λ (slot : ℕ). from_le_bytes w64 c.bytes_of-edit-inside.result) (list_in c.reapply.new.edit.changes)
    ≡ get_or c.self.inside.dues.items (given c).timer (given c).due
due c =
    let w : Stored = kept c in
    (λ k. option_map (λ (slot : ℕ). c.bytes_of-edit-inside.ensures k) (list_in (c.reapply.ensures.edit k).changes))
    ∙ (λ k. option_map (λ (slot : ℕ). unwrap_or (c.exchange_due-due.ensures.due k) 0) (list_in (turned_links w.links (links_of (c.edit.view_is k))).changes))
    ∙ (λ k. option_map (λ (slot : ℕ). unwrap_or (get_or w.dues (c.timer.ensures.timer k) (c.due.ensures.due k)) 0) (c.due.ensures.turned w.links k))
    ∙ (λ k. option_map (λ (slot : ℕ). unwrap_or (get_or w.dues (sym c.edit.view_is k).timer (sym c.edit.view_is k).due) 0)
    (get_or w.links.owner (sym c.edit.view_is k).timer (list_in (sym c.edit.view_is k).changes)))
    ∙ due-turned w (given c).timer (list_in (given c).changes) (from_le_bytes w64 c.edit.inside.due) c.self.invariant.formed

edit : (c : goal.After-edit-1) → record {
  is_done = c.reapply.new.edit.is_done;
  changes = c.reapply.new.edit.changes;
  timer = entry_in c.reapply.new.edit.changes;
  due = option_map (λ (slot : ℕ). from_le_bytes w64 c.bytes_of-edit-inside.result) (list_in c.reapply.new.edit.changes);
} ≡ turned (kept c) (given c)
unfolding turned
edit c = (λ k. record {
  is_done = (c.reapply.ensures.edit k).is_done;
  changes = (c.reapply.ensures.edit k).changes;
  timer = entry_in (c.reapply.ensures.edit k).changes;
  due = due c k;
})
    ∙ (λ k. record {
      is_done = (turned_links c.self.inside.slots c.edit.inside.links).is_done;
      changes = (turned_links c.self.inside.slots c.edit.inside.links).changes;
      timer = ((λ k. entry_in (turned_links c.self.inside.slots (links_of (c.edit.view_is k))).changes)
          ∙ c.timer.ensures.turned c.self.inside.slots ∙ c.timer.ensures.timer ∙ (λ k. (sym c.edit.view_is k).timer)) k;
      due = get_or c.self.inside.dues.items (given c).timer (given c).due;
    })

links_again : (c : goal.After-edit-1)
    → turned_links (exchange_links c.self.inside.slots c.edit.inside.links) (turned_links c.self.inside.slots c.edit.inside.links) ≡ c.edit.inside.links
links_again c = (λ k. turned_links (sym c.reapply.ensures.words k) (sym c.reapply.ensures.edit k)) ∙ c.reapply.ensures.again

pub invariant_of-self : goal.invariant_of-self
invariant_of-self c = record {
  formed = subst IsFormed (sym (words c ∙ (λ k. exchange (c.self.view_is k) (c.edit.view_is k)))) c.requires.formed;
  few = let same = length-set c.self.inside.dues.items c.timer.result c.due.result in
      rw c.exchange_due-due.ensures.dues (omega (arith, same, c.self.invariant.few));
}

pub returns-clause-words : goal.returns-clause-words
returns-clause-words c = words c ∙ (λ k. exchange (c.self.view_is k) (c.edit.view_is k))

pub returns-clause-edit : goal.returns-clause-edit
returns-clause-edit c = edit c ∙ (λ k. turned (c.self.view_is k) (c.edit.view_is k))

pub returns-clause-exact : goal.returns-clause-exact
returns-clause-exact c = (λ k. exchange (words c k) (edit c k)) ∙ exchange_twice (kept c) (given c) ∙ c.self.view_is

pub returns-clause-again : goal.returns-clause-again
returns-clause-again c = (λ k. turned (words c k) (edit c k)) ∙ turned_twice (kept c) (given c) (links_again c) ∙ c.edit.view_is
