-- Where moves lead, by what is known, and what is told of the states behind them.
use Rattle.std.proofs.Common.{◌≡◌, ◌≤◌, ◌<◌, ◌+◌, ◌∷◌, ◌++◌, [], ℕ, Bool, true, false, cond, List, length, get_or, map, filter, take, not, slice_get, is_some, Option, Some, None, All, inl, inr, refl, sym, ap, ◌∙◌, subst, arith}
use Rattle.std.specs.Prelude.{Contains, MatchBool}
use Rattle.std.specs.List.{AllZip}
use Rattle.std.proofs.lemmas.Bool.{cases_lt}
use Rattle.std.proofs.lemmas.List.{append-nil, append_assoc, get_or_push, length_push, map_more, take_all, take_more}
use Rattle.std.proofs.lemmas.List.Elements.{All-nil, All-push, Contains-append_left, filter-append}
use Rattle.std.proofs.lemmas.Option.{none-some, slice_get_within, get_or_from_slice_get}
use Rattle.rh_base.proofs.Truths.{both}
use Rattle.rh_base.specs.Exchanges.{back, AllBack}
use Rattle.rh_state.specs.Edits.{exchange}
use Rattle.rh_state.specs.Records.{CanGoBack}
use Rattle.rh_state.specs.StateView.{StateView}
use Rattle.rh_state.specs.Stored.{Stored, read}
use Rattle.rh_rules.specs.declared.event.Event.{Event}
use Rattle.rh_rules.specs.declared.pick.Pick.{Pick}
use Rattle.rh_rules.specs.declared.refusal.Refusal.{Refusal}
use Rattle.rh_rules.specs.Refusals.{refused}
use Rattle.rh_keys.specs.ShiftLaws.{is_limit}
use Rattle.rh_step.specs.Runs.{step}
use Rattle.rh_explore.specs.declared.asking.Ask.{Ask}
use Rattle.rh_explore.specs.declared.leads.Expansion.{Expansion}
use Rattle.rh_explore.specs.declared.leads.Lead.{Lead}
use Rattle.rh_explore.specs.declared.leads.Lead.TheVariants as lead
use Rattle.rh_explore.specs.declared.moves.Move.{Move}
use Rattle.rh_explore.specs.declared.trial.Trial.{Trial}
use Rattle.rh_explore.specs.Asking.{holds_in}
use Rattle.rh_explore.specs.Failures.{FailThere}
use Rattle.rh_explore.specs.Families.{Knowing, child_by, IsAccepted, LeadsTo, EventLeads, MoveLeads, LeadsSo, AreLeads, is_told}
use Rattle.rh_explore.specs.Moves.{event_in}
use Rattle.rh_explore.specs.Reaching.{Scope}
use Rattle.rh_explore.proofs.Begun.{at_true, at_false}
use Rattle.rh_explore.proofs.Told.{inside}
use Rattle.rh_explore.proofs.Zips.{zip_push}

-- ---- where a move leads
module _ (w : Scope) (asks : List Ask) (k : Knowing) (s : StateView) (m : Move) where
  -- it is no event there
  pub no_event : event_in s m ≡ None → LeadsSo w asks k s m lead.Nowhere
  no_event none = subst (λ (o : Option Event). MoveLeads w asks k s o lead.Nowhere) (sym none) refl

  module _ (e : Event) (now : event_in s m ≡ Some e) where
    as_event : (l : Lead) → EventLeads w asks k s e l → LeadsSo w asks k s m l
    as_event l leads = subst (λ (o : Option Event). MoveLeads w asks k s o l) (sym now) leads

    -- the rules refuse it
    pub limit_leads : (r : Refusal) → refused s e ≡ Some r → is_limit (Some r) ≡ true → LeadsSo w asks k s m lead.AtLimit
    limit_leads r is met = as_event lead.AtLimit (ap is_limit is ∙ met)

    pub refused_leads : (r : Refusal) → refused s e ≡ Some r → is_limit (Some r) ≡ false → LeadsSo w asks k s m lead.Nowhere
    refused_leads r is below = as_event lead.Nowhere (ap is_limit is ∙ below, λ accepted few. none-some r (sym accepted ∙ is))

    -- it was made
    pub made_leads : (t : StateView) (l : Lead) → refused s e ≡ None → t ≡ step w.pick s e → t.cluster ≡ s.cluster → LeadsTo w asks k t e l → LeadsSo w asks k s m l
    made_leads t l accepted is cluster leads = as_event l (by l (subst (λ (z : StateView). LeadsTo w asks k z e l) is leads))
      where
        same : (step w.pick s e).cluster ≡ s.cluster
        same = ap (λ (z : StateView). z.cluster) (sym is) ∙ cluster

        by : (d : Lead) → LeadsTo w asks k (step w.pick s e) e d → EventLeads w asks k s e d
        by lead.Nowhere so = (ap is_limit accepted, λ ok few. so few)
        by lead.Known so = (accepted, same, so)
        by lead.AtLimit so = absurd so
        by (lead.To d marks) so = (accepted, same, so)

-- one lead more, in a state that is as it was
pub leads_more : (w : Scope) (asks : List Ask) (k : Knowing) (s z : Stored) (moves : List Move) (i : ℕ) (d : Move) (leads more : List Lead) (l : Lead) → z ≡ s
    → i < length moves → AllZip (LeadsSo w asks k (read s)) (take i moves) leads → LeadsSo w asks k (read z) (get_or moves i d) l → more ≡ leads ++ l ∷ []
    → AllZip (LeadsSo w asks k (read s)) (take (i + 1) moves) more
leads_more w asks k s z moves i d leads more l state within all one is =
    let R : Move → Lead → Type 0 = LeadsSo w asks k (read s) in
    let here : R (get_or moves i d) l = subst (λ (y : Stored). LeadsSo w asks k (read y) (get_or moves i d) l) state one in
    subst (λ (ls : List Lead). AllZip R (take (i + 1) moves) ls) (sym is)
    (subst (λ (ms : List Move). AllZip R ms (leads ++ l ∷ [])) (sym (take_more moves i d within)) (zip_push R (take i moves) leads (get_or moves i d) l all here))

-- and told, where it is
pub told_more : (w : Scope) (asks : List Ask) (k : Knowing) (s z : Stored) (moves : List Move) (i : ℕ) (d : Move) (told later : List Lead) (l : Lead) → z ≡ s
    → i < length moves → AreLeads (LeadsSo w asks k (read s)) (take i moves) told → LeadsSo w asks k (read z) (get_or moves i d) l
    → later ≡ told ++ filter is_told (l ∷ []) → AreLeads (LeadsSo w asks k (read s)) (take (i + 1) moves) later
told_more w asks k s z moves i d told later l state within (all, zip, is) one more = (
  all ++ l ∷ [],
  leads_more w asks k s z moves i d all (all ++ l ∷ []) l state within zip one refl,
  more ∙ ap (λ (ls : List Lead). ls ++ filter is_told (l ∷ [])) is ∙ sym (filter-append is_told all (l ∷ [])),
)

pub is_added : (told : List Lead) (l : Lead) → is_told l ≡ true → told ++ l ∷ [] ≡ told ++ filter is_told (l ∷ [])
is_added told l is = ap (λ (b : Bool). told ++ cond b (l ∷ []) []) (sym is)

pub is_left_out : (told : List Lead) (l : Lead) → is_told l ≡ false → told ≡ told ++ filter is_told (l ∷ [])
is_left_out told l not = sym (append-nil told) ∙ ap (λ (b : Bool). told ++ cond b (l ∷ []) []) (sym not)

-- ---- what comes of the states of a family

-- so far these, by the first so many of its events
abbrev pub AreExpanded : (StateView → Expansion → Type 0) → Pick → Stored → List (Option Event) → List Expansion → List Expansion → Type 0
AreExpanded R pick s events old new = (more : List Expansion) × (new ≡ old ++ more) × AllZip R (map (child_by pick (read s)) events) more

pub expanded_more : (R : StateView → Expansion → Type 0) (pick : Pick) (s z : Stored) (events seen : List (Option Event)) (i : ℕ) (d : Option Event)
    (old mid new : List Expansion) (x : Expansion) → z ≡ s → seen ≡ events → i < length seen → AreExpanded R pick s (take i events) old mid
    → R (child_by pick (read z) (get_or seen i d)) x → new ≡ mid ++ x ∷ [] → AreExpanded R pick s (take (i + 1) events) old new
expanded_more R pick s z events seen i d old mid new x state same within (more, is, all) one last =
    let f = child_by pick (read s) in
    let e = get_or events i d in
    let here : R (f e) x =
    subst (λ (es : List (Option Event)). R (f (get_or es i d)) x) same (subst (λ (y : Stored). R (child_by pick (read y) (get_or seen i d)) x) state one) in
    let long = ap (λ (es : List (Option Event)). length es) same in (
      more ++ x ∷ [],
      last ∙ ap (λ (xs : List Expansion). xs ++ x ∷ []) is ∙ append_assoc old more (x ∷ []),
      subst (λ (ss : List StateView). AllZip R ss (more ++ x ∷ [])) (sym (map_more f events i d (omega (arith, within, long))))
          (zip_push R (map f (take i events)) more (f e) x all here),
    )

pub expanded_all : (R : StateView → Expansion → Type 0) (pick : Pick) (s : Stored) (events : List (Option Event)) (i : ℕ) (old new : List Expansion)
    → length events ≤ i → AreExpanded R pick s (take i events) old new → AreExpanded R pick s events old new
expanded_all R pick s events i old new past so = subst (λ (es : List (Option Event)). AreExpanded R pick s es old new) (take_all i events past) so

-- the next one is accepted
pub accepted_next : (s z : Stored) (events seen : List (Option Event)) (i : ℕ) (d : Option Event) → z ≡ s → seen ≡ events → i < length seen
    → All (IsAccepted (read s)) events → IsAccepted (read z) (get_or seen i d)
accepted_next s z events seen i d state same within all =
    subst (λ (y : Stored). IsAccepted (read y) (get_or seen i d)) (sym state)
    (subst (λ (es : List (Option Event)). All (IsAccepted (read s)) es) (sym same) all i d within)

-- ---- what was made is taken back, where the state and the edits are as they were
module _ (old new : Stored) (trial later : Trial) (state : new ≡ old) (same : later ≡ trial) where
  pub can_leave : AllBack exchange CanGoBack old trial.edits.items → AllBack exchange CanGoBack new later.edits.items
  can_leave all =
      subst (λ (t : Trial). AllBack exchange CanGoBack new t.edits.items) (sym same)
      (subst (λ (z : Stored). AllBack exchange CanGoBack z trial.edits.items) (sym state) all)

  pub left_again : back exchange new later.edits.items ≡ back exchange old trial.edits.items
  left_again = λ i. back exchange (state i) (same i).edits.items

-- ---- which asks fail in a state

-- the first so many asks were looked at
pub record FailBelow (pick : Pick) (firsts : List (Option ℕ)) (asks : List Ask) (s : StateView) (count : ℕ) (fails : List ℕ) : Type 0 where
  pub told : (j : ℕ) (ask : Ask) → j < count → slice_get firsts j ≡ Some None → slice_get asks j ≡ Some ask → holds_in pick ask s ≡ false → Contains fails j
  pub each : All (λ j. (ask : Ask) × (slice_get asks j ≡ Some ask) × (holds_in pick ask s ≡ false)) fails

-- what is answered of the ask of a number
abbrev pub IsAnswered : Pick → List (Option ℕ) → List Ask → StateView → ℕ → Bool → Type 0
IsAnswered pick firsts asks s j failed =
    (ask : Ask) → slice_get asks j ≡ Some ask
    → MatchBool failed (holds_in pick ask s ≡ false) (slice_get firsts j ≡ Some None → holds_in pick ask s ≡ true)

module _ (pick : Pick) (firsts : List (Option ℕ)) (asks : List Ask) where
  abbrev Fails : StateView → ℕ → Type 0
  Fails s j = (ask : Ask) × (slice_get asks j ≡ Some ask) × (holds_in pick ask s ≡ false)

  pub none_fails : (s : StateView) (fails : List ℕ) → fails ≡ [] → FailBelow pick firsts asks s 0 fails
  none_fails s fails is = record {
    told = λ j ask l. absurd (omega (arith, l));
    each = subst (All (Fails s)) (sym is) (All-nil (Fails s));
  }

  -- one more, in a state that is as it was
  pub holds_next : (s z : Stored) (n : ℕ) (fails : List ℕ) (failed : Bool) → z ≡ s → failed ≡ false → IsAnswered pick firsts asks (read z) n failed
      → FailBelow pick firsts asks (read s) n fails → FailBelow pick firsts asks (read s) (n + 1) fails
  holds_next s z n fails failed state not answer so =
      let here : IsAnswered pick firsts asks (read s) n failed = subst (λ (y : Stored). IsAnswered pick firsts asks (read y) n failed) state answer in
      record {
        told = λ j ask l none is fails'.
            elim (cases_lt j n) [
              | inl below ↦ so.told j ask below none is fails'
              | inr past ↦
                  let same : j ≡ n = omega (arith, l, past) in
                  let holds = at_false failed _ _ not (here ask (ap (slice_get asks) (sym same) ∙ is)) in
                  both (holds_in pick ask (read s)) (holds (ap (slice_get firsts) (sym same) ∙ none)) fails'
            ];
        each = so.each;
      }

  pub fails_next : (s z : Stored) (n : ℕ) (fails more : List ℕ) (failed : Bool) → z ≡ s → failed ≡ true → n < length asks
      → IsAnswered pick firsts asks (read z) n failed → more ≡ fails ++ n ∷ [] → FailBelow pick firsts asks (read s) n fails
      → FailBelow pick firsts asks (read s) (n + 1) more
  fails_next s z n fails more failed state failing within answer is so =
      let here : IsAnswered pick firsts asks (read s) n failed = subst (λ (y : Stored). IsAnswered pick firsts asks (read y) n failed) state answer in
      let ask = inside asks n within in
      record {
        told = λ j a l none at fails'.
            subst (λ (js : List ℕ). Contains js j) (sym is)
            (elim (cases_lt j n) [
              | inl below ↦ let has = so.told j a below none at fails' in Contains-append_left fails (n ∷ []) j has
              | inr past ↦
                  let same : n ≡ j = omega (arith, l, past) in
                  (length fails, omega (arith, length_push fails n), get_or_push fails n j (length fails) refl ∙ same)
            ]);
        each = subst (All (Fails (read s))) (sym is)
            (All-push (Fails (read s)) fails n so.each (ask.0, ask.1, at_true failed _ _ failing (here ask.0 ask.1)));
      }

  pub all_looked_at : (s : StateView) (n : ℕ) (fails : List ℕ) → length asks ≤ n → FailBelow pick firsts asks s n fails → FailThere pick firsts asks s fails
  all_looked_at s n fails past so = record {
    told = λ j ask none is fails'. so.told j ask (omega (arith, past, slice_get_within asks j ask is)) none is fails';
    each = so.each;
  }

  -- one that failed before isn't asked
  pub known_first : (n : ℕ) (d : Option ℕ) → is_some (get_or firsts n d) ≡ true → slice_get firsts n ≡ Some None → ⊥
  known_first n d some none = both (is_some (get_or firsts n d)) some (ap is_some (get_or_from_slice_get firsts n None d none))

-- what is answered, by whether it holds
pub answered_by : (holds is : Bool) (N : Type 0) → holds ≡ is → MatchBool (not holds) (is ≡ false) (N → is ≡ true)
answered_by true is N same = λ n. sym same
answered_by false is N same = sym same
