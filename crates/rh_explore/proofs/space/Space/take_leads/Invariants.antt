use Rattle.std.proofs.Common.{◌≡◌, ◌≤◌, ◌<◌, ◌++◌, ℕ, true, List, drop, length, max}
use Rattle.std.specs.List.{list_any}
use Rattle.rh_explore.specs.declared.leads.Lead.{Lead}
use Rattle.rh_explore.specs.Exploring.{scope_of}
use Rattle.rh_explore.specs.Families.{LeadsSo, AreLeads, is_new}
use Rattle.rh_explore.specs.Kept.{seen_in, IsKept, IsShort, LeadAt, FindsAt, GoesOnFrom}
use Rattle.rh_explore.specs.Spaces.{IsExpandedAt}
use Rattle.rh_explore.proofs.space.Space.take_leads.Given as goal

abbrev pub invariant-leads : goal.invariant-leads
invariant-leads l = record {
  kept : IsKept (scope_of l.search) l.search.bounds l.search.asks.now l.self;
  short : IsShort l.search.bounds l.self.found.items l.at;
  grown : GoesOnFrom l.fn.self.found.items l.self.found.items;
  room : length l.self.found.items ≤ max (length l.fn.self.found.items) l.search.bounds.states;
  led : LeadAt l.search l.self l.at (λ k s. (made : ℕ) × IsExpandedAt (scope_of l.search) (seen_in l.search l.self) l.at made
      × AreLeads (LeadsSo (scope_of l.search) l.search.asks.now k s) (drop made l.search.moves.now) l.rest.items);
  finds : FindsAt l.search l.at l.fn.self l.self l.events.items;
  done : (done : List Lead) × (l.fn.leads.items ≡ done ++ l.rest.items) × (0 < length l.events.items → list_any is_new done ≡ true);
}

abbrev pub decreases-leads : goal.decreases-leads
decreases-leads l = length l.rest.items
