-- Where a move leads, by what was known when the state was expanded.
use Rattle.std.proofs.Common.{◌≡◌, ◌≤◌, ◌+◌, ℕ, List, [], ◌∷◌, ◌++◌, length, slice_get, Option, Some, None, refl, sym, ap, ◌∙◌, subst, arith}
use Rattle.std.specs.Prelude.{Contains}
use Rattle.rh_state.specs.StateView.{StateView}
use Rattle.rh_rules.specs.declared.event.Event.{Event}
use Rattle.rh_rules.specs.Refusals.{refused}
use Rattle.rh_step.specs.Runs.{step}
use Rattle.rh_explore.specs.declared.asking.Ask.{Ask}
use Rattle.rh_explore.specs.declared.bounds.Bounds.{Bounds}
use Rattle.rh_explore.specs.declared.leads.Lead.TheVariants as lead
use Rattle.rh_explore.specs.declared.leads.Marks.{Marks}
use Rattle.rh_explore.specs.declared.moves.Move.{Move}
use Rattle.rh_explore.specs.declared.space.Space.{Space}
use Rattle.rh_explore.specs.Exploring.{key_of, IsFull}
use Rattle.rh_explore.specs.Failures.{FailThere}
use Rattle.rh_explore.specs.Families.{Knowing, MoveLeads, LeadsSo}
use Rattle.rh_explore.specs.Kept.{bytes_of, codes_of, seen_of, IsKept, IsKnown}
use Rattle.rh_explore.specs.Moves.{event_in}
use Rattle.rh_explore.specs.Reaching.{Scope, not_up_count}
use Rattle.rh_explore.specs.Spaces.{Seen, states_of, IsExpandedAt, IsFoundInTurn, IsCut}
use Rattle.rh_explore.proofs.Reached.{no_event, not_there, at_limit, known, too_many, turn, added}

-- a move is an event there that leads to a state of which this is kept
pub record IsWayTo (w : Scope) (asks : List Ask) (k : Knowing) (s : StateView) (m : Move) (e : Event) (marks : Marks) : Type 0 where
  pub now : event_in s m ≡ Some e
  pub accepted : refused s e ≡ None
  pub cluster : (step w.pick s e).cluster ≡ s.cluster
  pub few : not_up_count (step w.pick s e) ≤ w.down
  pub key : marks.key.bytes.items ≡ key_of (step w.pick s e)
  pub fails : FailThere w.pick k.firsts asks (step w.pick s e) marks.fails.items

pub way_to : (w : Scope) (asks : List Ask) (k : Knowing) (s : StateView) (m : Move) (e : Event) (marks : Marks)
    → LeadsSo w asks k s m (lead.To e marks) → IsWayTo w asks k s m e marks
way_to w asks k s m e marks leads = by (event_in s m) refl leads
  where
    by : (o : Option Event) → event_in s m ≡ o → MoveLeads w asks k s o (lead.To e marks) → IsWayTo w asks k s m e marks
    by None now l = absurd (cc l)
    by (Some d) now (accepted, cluster, (same, few, key, fails)) = record {
      now = now ∙ ap Some (sym same);
      accepted = subst (λ z. refused s z ≡ None) (sym same) accepted;
      cluster = subst (λ z. (step w.pick s z).cluster ≡ s.cluster) (sym same) cluster;
      few = subst (λ z. not_up_count (step w.pick s z) ≤ w.down) (sym same) few;
      key = subst (λ z. marks.key.bytes.items ≡ key_of (step w.pick s z)) (sym same) key;
      fails = subst (λ z. FailThere w.pick k.firsts asks (step w.pick s z) marks.fails.items) (sym same) fails;
    }

module _ (w : Scope) (bounds : Bounds) (asks : List Ask) (space : Space) (kept : IsKept w bounds asks space) where
  abbrev seen : List Seen
  seen = seen_of w space.found.items

  module _ (at : ℕ) (x : Seen) (here : slice_get seen at ≡ Some x) (k : Knowing) (knows : IsKnown k space) (m : Move) (made : ℕ)
      (is : slice_get w.moves made ≡ Some m) (so : IsExpandedAt w seen at made) where
    pub leads_nowhere : LeadsSo w asks k x.state m lead.Nowhere → IsExpandedAt w seen at (made + 1)
    leads_nowhere leads = by (event_in x.state m) refl leads
      where
        by : (o : Option Event) → event_in x.state m ≡ o → MoveLeads w asks k x.state o lead.Nowhere → IsExpandedAt w seen at (made + 1)
        by None now l = no_event w seen at x here m made is so now
        by (Some e) now (below, not) = not_there w seen at x here m made is so e now below not

    pub leads_back : LeadsSo w asks k x.state m lead.Known → IsExpandedAt w seen at (made + 1)
    leads_back leads = by (event_in x.state m) refl leads
      where
        by : (o : Option Event) → event_in x.state m ≡ o → MoveLeads w asks k x.state o lead.Known → IsExpandedAt w seen at (made + 1)
        by None now l = absurd (cc l)
        by (Some e) now (accepted, cluster, (few, has)) =
            known w seen at x here m made is so e now accepted few cluster
            (subst (λ (l : List (List ℕ)). Contains l (key_of (step w.pick x.state e))) kept.codes (knows.keys (key_of (step w.pick x.state e)) has))

    pub leads_to_limit : LeadsSo w asks k x.state m lead.AtLimit → IsCut w bounds seen at
    leads_to_limit leads = by (event_in x.state m) refl leads
      where
        by : (o : Option Event) → event_in x.state m ≡ o → MoveLeads w asks k x.state o lead.AtLimit → IsCut w bounds seen at
        by None now l = absurd (cc l)
        by (Some e) now met = at_limit w seen at x here m made is so e now bounds met

    module _ (e : Event) (marks : Marks) (way : IsWayTo w asks k x.state m e marks) where
      -- the state behind it is there
      pub leads_known : Contains (bytes_of space) marks.key.bytes.items → IsExpandedAt w seen at (made + 1)
      leads_known has =
          known w seen at x here m made is so e way.now way.accepted way.few way.cluster
          (subst (λ (l : List (List ℕ)). Contains l (key_of (step w.pick x.state e))) kept.codes
          (subst (λ (q : List ℕ). Contains (bytes_of space) q) way.key has))

      module _ (new : Contains (bytes_of space) marks.key.bytes.items → ⊥) where
        not_there_yet : Contains (codes_of seen) (key_of (step w.pick x.state e)) → ⊥
        not_there_yet has =
            new (subst (λ (q : List ℕ). Contains (bytes_of space) q) (sym way.key)
            (subst (λ (l : List (List ℕ)). Contains l (key_of (step w.pick x.state e))) (sym kept.codes) has))

        pub leads_too_far : IsFull bounds (states_of seen) → IsCut w bounds seen at
        leads_too_far full = too_many w seen at x here m made is so e way.now way.accepted way.few way.cluster not_there_yet bounds full

        pub way_turn : IsFoundInTurn w seen (record { path = x.path ++ e ∷ []; state = step w.pick x.state e })
        way_turn = turn w seen at x here m made is so e way.now way.accepted way.few way.cluster not_there_yet

        pub way_added : (y : Seen) → y.path ≡ x.path ++ e ∷ [] → y.state ≡ step w.pick x.state e → IsExpandedAt w (seen ++ y ∷ []) at (made + 1)
        way_added y path state = added w seen at x here m made is so e way.now way.accepted way.few way.cluster not_there_yet y path state

-- made as often as there are moves
pub all_made : (w : Scope) (seen : List Seen) (at made : ℕ) → length w.moves ≤ made → IsExpandedAt w seen at made → IsExpandedAt w seen at (length w.moves)
all_made w seen at made past so = (
  so.0,
  record { searched = so.1.searched; here = so.1.here; near = so.1.near; made = λ j m l is. so.1.made j m (omega (arith, l, past)) is },
)
