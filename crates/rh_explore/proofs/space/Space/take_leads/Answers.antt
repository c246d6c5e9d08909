use Rattle.std.proofs.Common.{◌≡◌, ◌<◌, ◌+◌, ◌++◌, ◌∷◌, ◌||◌, [], ℕ, Bool, true, false, List, length, drop, slice_get, Option, Some, inl, inr, refl, sym, ap, ◌∙◌, append_assoc, subst, arith}
use Rattle.std.specs.List.{list_any}
use Rattle.std.proofs.lemmas.Bool.{cases_lt}
use Rattle.std.proofs.lemmas.List.{append-nil, length-append}
use Rattle.std.proofs.lemmas.List.Folds.{list_any-append}
use Rattle.rh_rules.specs.declared.event.Event.{Event}
use Rattle.rh_explore.specs.declared.leads.Lead.{Lead}
use Rattle.rh_explore.specs.declared.moves.Move.{Move}
use Rattle.rh_explore.specs.declared.search.Search.{Search}
use Rattle.rh_explore.specs.declared.space.Space.{Space}
use Rattle.rh_explore.specs.Exploring.{scope_of}
use Rattle.rh_explore.specs.Families.{LeadsSo, AreLeads, is_new}
use Rattle.rh_explore.specs.Kept.{seen_in, IsKept, LeadAt, FindsAt}
use Rattle.rh_explore.specs.Spaces.{IsExpandedAt, IsCut}
use Rattle.rh_explore.proofs.Begun.{at_true, at_false}
use Rattle.rh_explore.proofs.Finds.{finds_none, finds_on, known_later}
use Rattle.rh_explore.proofs.Popped.{first_is, none_left}
use Rattle.rh_explore.proofs.PathsTo.{found_stays, seen_stays, goes_on}
use Rattle.rh_explore.proofs.Untold.{next_told, none_told}
use Rattle.rh_explore.proofs.space.Space.take_leads.Goals as goal

-- the leads that are left are those of the moves that are left
abbrev AreLed : Search → Space → ℕ → List Lead → Type 0
AreLed search space at leads = LeadAt search space at (λ k s. (made : ℕ) × IsExpandedAt (scope_of search) (seen_in search space) at made
    × AreLeads (LeadsSo (scope_of search) search.asks.now k s) (drop made search.moves.now) leads)

-- the next one, by its move
abbrev IsNextLead : Search → Space → ℕ → Lead → Type 0
IsNextLead search space at lead = LeadAt search space at (λ k s. (made : ℕ) × (m : Move) × (slice_get search.moves.now made ≡ Some m)
    × IsExpandedAt (scope_of search) (seen_in search space) at made × LeadsSo (scope_of search) search.asks.now k s m lead)

next_lead : (search : Search) (space : Space) → IsKept (scope_of search) search.bounds search.asks.now space → (at : ℕ) (lead : Lead) (leads rest : List Lead)
    → leads ≡ lead ∷ rest → AreLed search space at leads → IsNextLead search space at lead
next_lead sought space kept at lead leads rest is (k, x, here, knows, (made, so, (all, zip, same))) =
    let n = next_told sought space kept at x here k knows all made lead rest zip so (sym same ∙ is) in
    (k, x, here, knows, (n.0, n.1, n.2, n.3, n.4))

pub leads-init : goal.leads-init
leads-init c =
    let search : Search = c.args.search.now in
    record {
      kept = c.requires.kept;
      short = c.requires.short;
      grown = ([], sym (append-nil c.args.self.now.found.items));
      room = omega arith;
      led = first c.requires.leads;
      finds = subst (FindsAt search c.args.at c.args.self.now c.args.self.now) (sym c.new-events.ensures.items) (finds_none search c.args.at c.args.self.now);
      done = ([], sym c.from-rest.ensures.0, λ some. absurd (omega (arith, some, ap (λ (es : List (Option Event)). length es) c.new-events.ensures.items)));
    }
  where
    first : LeadAt c.args.search.now c.args.self.now c.args.at (λ k s. AreLeads (LeadsSo (scope_of c.args.search.now) c.args.search.now.asks.now k s) c.args.search.now.moves.now c.args.leads.items)
        → AreLed c.args.search.now c.args.self.now c.args.at c.from-rest.result.items
    first (k, x, here, knows, (all, zip, same)) = (k, x, here, knows, (0, c.requires.begun, (all, zip, c.from-rest.ensures.0 ∙ same)))

pub take_lead-requires-clause-leads : goal.take_lead-requires-clause-leads
take_lead-requires-clause-leads c =
    next_lead c.args.search.now c.leads.self c.leads.invariant.kept c.args.at c.in-Some.lead c.leads.rest.items c.pop_front.new.self.items
    (first_is c.leads.rest.items c.pop_front.new.self.items c.pop_front.result c.in-Some.lead c.pop_front.ensures.items c.in-Some.is) c.leads.invariant.led

pub returns-then-not-branch-clause-grown : goal.returns-then-not-branch-clause-grown
returns-then-not-branch-clause-grown c =
    goes_on c.args.self.now.found.items c.leads.self.found.items c.take_lead.new.self.found.items c.leads.invariant.grown c.in_ok-take_lead.ensures.grown

pub returns-then-not-branch-clause-cut : goal.returns-then-not-branch-clause-cut
returns-then-not-branch-clause-cut c = by c.leads.invariant.led
  where
    by : AreLed c.args.search.now c.leads.self c.args.at c.leads.rest.items
        → (made : ℕ) × IsExpandedAt (scope_of c.args.search.now) (seen_in c.args.search.now c.take_lead.new.self) c.args.at made
        × IsCut (scope_of c.args.search.now) c.args.search.now.bounds (seen_in c.args.search.now c.take_lead.new.self) c.args.at
    by (k, x, here, knows, (made, so, (all, zip, same))) =
        let search : Search = c.args.search.now in
        let left = c.pop_front.new.self.items in
        let is = first_is c.leads.rest.items left c.pop_front.result c.in-Some.lead c.pop_front.ensures.items c.in-Some.is in
        let n = next_told search c.leads.self c.leads.invariant.kept c.args.at x here k knows all made c.in-Some.lead left zip so (sym same ∙ is) in
        let cut = at_false c.in_ok-take_lead.field-0 _ _ c.if-not-branch.true (c.in_ok-take_lead.ensures.made k x n.0 n.1 here knows n.2 n.3 n.4) in
        (n.0, cut.0, cut.1)

-- one lead more is taken
taken : (done : List Lead) (lead : Lead) (rest : List Lead) (events more : List (Option Event)) → (0 < length events → list_any is_new done ≡ true)
    → (0 < length more → is_new lead ≡ true) → 0 < length (events ++ more) → list_any is_new (done ++ lead ∷ []) ≡ true
taken done lead rest events more before now some =
    list_any-append is_new done (lead ∷ [])
    ∙ elim (cases_lt 0 (length events)) [
      | inl l ↦ ap (λ (b : Bool). b || list_any is_new (lead ∷ [])) (before l)
      | inr l ↦ whole (list_any is_new done) (is_new lead) (now (omega (arith, l, some, length-append events more)))
    ]
  where
    whole : (a b : Bool) → b ≡ true → a || (b || false) ≡ true
    whole true b t = refl
    whole false b t = ap (λ (x : Bool). x || false) t

pub leads-preserved : goal.leads-preserved
leads-preserved c =
    let search : Search = c.args.search.now in
    let old : Space = c.args.self.now in
    let mid : Space = c.leads.self in
    let new : Space = c.take_lead.new.self in
    let grown = c.in_ok-take_lead.ensures.grown in
    let found = c.in_ok-take_lead.ensures.finds in
    let short = c.leads.invariant.short in
    let room = c.in_ok-take_lead.ensures.room in
    let before = c.leads.invariant.room in
    let done = c.leads.invariant.done in
    let left = c.pop_front.new.self.items in
    let is = first_is c.leads.rest.items left c.pop_front.result c.in-Some.lead c.pop_front.ensures.items c.in-Some.is in
    record {
      kept = c.in_ok-take_lead.ensures.kept;
      short = (short.0, found_stays mid.found.items new.found.items c.args.at short.0 grown short.1, short.2);
      grown = goes_on old.found.items mid.found.items new.found.items c.leads.invariant.grown grown;
      room = omega (arith, room, before);
      led = by c.leads.invariant.led;
      finds = subst (FindsAt search c.args.at old new) (sym found.1)
          (finds_on search c.args.at old mid new c.leads.events.items found.0 c.leads.invariant.grown c.leads.invariant.finds found.2);
      done = (
        done.0 ++ c.in-Some.lead ∷ [],
        done.1 ∙ ap (λ (ls : List Lead). done.0 ++ ls) is ∙ sym (append_assoc done.0 (c.in-Some.lead ∷ []) left),
        λ some. taken done.0 c.in-Some.lead left c.leads.events.items found.0 done.2 found.3 (subst (λ (es : List (Option Event)). 0 < length es) found.1 some),
      );
    }
  where
    by : AreLed c.args.search.now c.leads.self c.args.at c.leads.rest.items → AreLed c.args.search.now c.take_lead.new.self c.args.at c.pop_front.new.self.items
    by (k, x, here, knows, (made, so, (all, zip, same))) =
        let search : Search = c.args.search.now in
        let left = c.pop_front.new.self.items in
        let is = first_is c.leads.rest.items left c.pop_front.result c.in-Some.lead c.pop_front.ensures.items c.in-Some.is in
        let n = next_told search c.leads.self c.leads.invariant.kept c.args.at x here k knows all made c.in-Some.lead left zip so (sym same ∙ is) in
        let grown = c.in_ok-take_lead.ensures.grown in
        let so' = at_true c.in_ok-take_lead.field-0 _ _ c.if-not-branch.false (c.in_ok-take_lead.ensures.made k x n.0 n.1 here knows n.2 n.3 n.4) in (
          k,
          x,
          seen_stays (scope_of search) c.leads.self.found.items c.take_lead.new.self.found.items c.args.at x grown here,
          known_later k c.leads.self c.take_lead.new.self knows (c.in_ok-take_lead.ensures.finds.2 x here).known,
          (n.0 + 1, so', n.5),
        )

pub leads-smaller : goal.leads-smaller
leads-smaller c =
    let left = c.pop_front.new.self.items in
    let is = first_is c.leads.rest.items left c.pop_front.result c.in-Some.lead c.pop_front.ensures.items c.in-Some.is in
    omega (arith, ap (λ (ls : List Lead). length ls) is)

pub returns-clause-all : goal.returns-clause-all
returns-clause-all c = by c.leads.invariant.led
  where
    by : AreLed c.args.search.now c.leads.self c.args.at c.leads.rest.items
        → IsExpandedAt (scope_of c.args.search.now) (seen_in c.args.search.now c.leads.self) c.args.at (length c.args.search.now.moves.now)
    by (k, x, here, knows, (made, so, (all, zip, same))) =
        let none = none_left c.leads.rest.items c.pop_front.new.self.items c.pop_front.result c.pop_front.ensures.items c.pop_front.ensures.rest c.in_default.is in
        none_told c.args.search.now c.leads.self c.leads.invariant.kept c.args.at x here k knows all made zip so (sym same ∙ none)

pub returns-clause-new : goal.returns-clause-new
returns-clause-new c = λ some.
    let done = c.leads.invariant.done in
    let none = none_left c.leads.rest.items c.pop_front.new.self.items c.pop_front.result c.pop_front.ensures.items c.pop_front.ensures.rest c.in_default.is in
    let whole : c.args.leads.items ≡ done.0 = done.1 ∙ ap (λ (ls : List Lead). done.0 ++ ls) none ∙ append-nil done.0 in
    ap (list_any is_new) whole ∙ done.2 some
