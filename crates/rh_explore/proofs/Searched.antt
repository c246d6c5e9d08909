-- What follows of what a search has found.
use Rattle.std.proofs.Common.{◌≡◌, ◌<◌, ◌≤◌, ◌+◌, ℕ, true, nat_lt, take, None, List, [], ◌∷◌, ◌++◌, length, get_or, slice_get, Some, All, refl, sym, ap, ◌∙◌, subst, arith}
use Rattle.std.proofs.lemmas.List.{length_push, length-map, get_or-map}
use Rattle.std.proofs.lemmas.List.Elements.{All-push}
use Rattle.std.proofs.lemmas.List.Quantifiers.{all_pairs_push}
use Rattle.std.proofs.lemmas.Option.{same_Some, none-some, slice_get_within, slice_get-get_or, get_or_from_slice_get}
use Rattle.rh_base.proofs.Lists.{cases}
use Rattle.rh_state.specs.StateView.{StateView}
use Rattle.rh_rules.specs.declared.event.Event.{Event}
use Rattle.rh_keys.specs.Shifts.{timeless, Alike}
use Rattle.rh_trace.specs.Validity.{IsValid}
use Rattle.rh_trace.proofs.Entries.{is_below, is_above}
use Rattle.rh_step.specs.Runs.{step}
use Rattle.rh_explore.specs.declared.asking.Ask.{Ask}
use Rattle.rh_explore.specs.declared.bounds.Covered.{Covered}
use Rattle.rh_explore.specs.declared.bounds.Covered.TheVariants as covered
use Rattle.rh_explore.specs.Asking.{holds_in, MayWait}
use Rattle.rh_explore.specs.declared.moves.Move.{Move}
use Rattle.rh_explore.specs.Moves.{event_in}
use Rattle.rh_explore.specs.Reaching.{Scope, MayCome, MayAllCome, behind}
use Rattle.rh_explore.specs.Exploring.{IsCovered, HoldsWithin, IsNext, AreReached}
use Rattle.rh_explore.specs.Spaces.{Seen, states_of, IsSeen, HasWithin, LeadsOn, MovesOn, IsSearched, IsNear, IsExpanded, IsEnd}
use Rattle.rh_explore.proofs.Alikes.{step_valid, step_alike, move_alike, asked_alike}
use Rattle.rh_keys.proofs.Places.{at_front, at_of, pair_of}

-- ---- lists of events
-- one event more may come
pub may_push : (w : Scope) (s : StateView) (es : List Event) (e : Event) → MayAllCome w s es → MayCome w (behind w s es) e → MayAllCome w s (es ++ e ∷ [])
may_push w s [] e all one = (one, tt)
may_push w s (x ∷ es) e all one = (all.0, may_push w (step w.pick s x) es e all.1 one)

-- and leads one step further
pub behind_push : (w : Scope) (s : StateView) (es : List Event) (e : Event) → behind w s (es ++ e ∷ []) ≡ step w.pick (behind w s es) e
behind_push w s [] e = refl
behind_push w s (x ∷ es) e = behind_push w (step w.pick s x) es e

-- each of them but the last may come, and it behind them
pub may_front : (w : Scope) (s : StateView) (es : List Event) (e : Event) → MayAllCome w s (es ++ e ∷ []) → MayAllCome w s es
may_front w s [] e all = tt
may_front w s (x ∷ es) e all = (all.0, may_front w (step w.pick s x) es e all.1)

pub may_last : (w : Scope) (s : StateView) (es : List Event) (e : Event) → MayAllCome w s (es ++ e ∷ []) → MayCome w (behind w s es) e
may_last w s [] e all = all.0
may_last w s (x ∷ es) e all = may_last w (step w.pick s x) es e all.1

-- a state behind events that may come is valid
pub behind_valid : (w : Scope) (s : StateView) (es : List Event) → IsValid s → MayAllCome w s es → IsValid (behind w s es)
behind_valid w s [] valid may = valid
behind_valid w s (e ∷ es) valid may = behind_valid w (step w.pick s e) es (step_valid w s e valid may.0) may.1

-- ---- what was found stays
stays : (seen : List Seen) (y : Seen) (s : StateView) (n : ℕ) → HasWithin seen s n → HasWithin (seen ++ y ∷ []) s n
stays seen y s n h = (h.0, h.1, at_front seen (y ∷ []) h.0 (slice_get_within seen h.0 h.1 h.2) ∙ h.2, h.3, h.4)

-- what is found for a state is found for one that is alike
within_alike : (seen : List Seen) (s t : StateView) (n : ℕ) → Alike s t → HasWithin seen t n → HasWithin seen s n
within_alike seen s t n alike h = (h.0, h.1, h.2, alike ∙ h.3, h.4)

-- the base alone
pub base_searched : (w : Scope) → IsValid w.base → IsSearched w (record { path = []; state = w.base } ∷ []) 0
base_searched w valid = record {
  each = All-push (IsSeen w) [] (record { path = []; state = w.base }) (λ k d l. absurd (omega arith))
      (record { may_come = tt; leads = refl; valid = valid; cluster = refl });
  begins = refl;
  ordered = λ i j d l m. absurd (omega (arith, l, m));
  different = λ i j d l m. absurd (omega (arith, l, m));
  closed = λ k x e l. absurd (omega (arith, l));
}

-- ---- the moves of a state are made, one after the other
module _ (w : Scope) (seen : List Seen) (at : ℕ) (x : Seen) where
  pub expand_begins : IsSearched w seen at → IsNear seen at → slice_get seen at ≡ Some x → IsExpanded w seen at x 0
  expand_begins searched near here = record {
    searched = searched;
    here = here;
    near = near x here;
    made = λ j m l. absurd (omega (arith, l));
  }

  module _ (made : ℕ) (m : Move) (m_is : slice_get w.moves made ≡ Some m) (so : IsExpanded w seen at x made) where
    -- the move of number j is this one, or was made before
    one_more : (seen' : List Seen) → ((s : StateView) (n : ℕ) → HasWithin seen s n → HasWithin seen' s n)
        → MovesOn w seen' x m → (j : ℕ) (o : Move) → j < made + 1 → slice_get w.moves j ≡ Some o → MovesOn w seen' x o
    one_more seen' keeps here j o l is = cases (nat_lt j made)
        (λ t e now s alike valid may. keeps (step w.pick s e) (length x.path + 1) (so.made j o (is_below j made t) is e now s alike valid may))
        (λ f. let same : j ≡ made = omega (arith, is_above j made f, l) in
        let o_is : m ≡ o = same_Some m o (sym m_is ∙ sym (ap (slice_get w.moves) same) ∙ is) in
        subst (MovesOn w seen' x) o_is here)

    -- it is no event there
    pub one_idle : event_in x.state m ≡ None → IsExpanded w seen at x (made + 1)
    one_idle none = record {
      searched = so.searched;
      here = so.here;
      near = so.near;
      made = one_more seen (λ s n h. h) (λ e now. absurd (none-some e (sym none ∙ now)));
    }

  module _ (made : ℕ) (m : Move) (m_is : slice_get w.moves made ≡ Some m) (so : IsExpanded w seen at x made) (e : Event) (now : event_in x.state m ≡ Some e) where
    -- no other event than this one
    by_event : (seen' : List Seen) → LeadsOn w seen' x e → MovesOn w seen' x m
    by_event seen' leads d then = subst (LeadsOn w seen' x) (same_Some e d (sym now ∙ then)) leads

    next_one : (seen' : List Seen) → ((s : StateView) (n : ℕ) → HasWithin seen s n → HasWithin seen' s n)
        → LeadsOn w seen' x e → (j : ℕ) (o : Move) → j < made + 1 → slice_get w.moves j ≡ Some o → MovesOn w seen' x o
    next_one seen' keeps leads = one_more made m m_is so seen' keeps (by_event seen' leads)

    -- it can't come
    pub one_left_out : ((s : StateView) → Alike s x.state → IsValid s → MayCome w s e → ⊥) → IsExpanded w seen at x (made + 1)
    one_left_out not = record {
      searched = so.searched;
      here = so.here;
      near = so.near;
      made = next_one seen (λ s n h. h) (λ s alike valid may. absurd (not s alike valid may));
    }

    -- where it leads from this state, it leads from one that is alike
    leads_alike : (seen' : List Seen) → HasWithin seen' (step w.pick x.state e) (length x.path + 1) → LeadsOn w seen' x e
    leads_alike seen' has s alike valid may =
        let here = at_of (IsSeen w) seen at x so.searched.each so.here in
        within_alike seen' (step w.pick s e) (step w.pick x.state e) (length x.path + 1)
        (step_alike w.pick s x.state e valid here.valid alike) has

    -- it leads to a state that was found
    pub one_known : HasWithin seen (step w.pick x.state e) (length x.path + 1) → IsExpanded w seen at x (made + 1)
    one_known known = record {
      searched = so.searched;
      here = so.here;
      near = so.near;
      made = next_one seen (λ s n h. h) (leads_alike seen known);
    }

    -- it leads to a new one
    module _ (t : StateView) (is : t ≡ step w.pick x.state e) (may : MayCome w x.state e) (valid : IsValid t) (cluster : t.cluster ≡ x.state.cluster)
        (fresh : All (λ (y : Seen). Alike y.state t → ⊥) seen) where
      abbrev new : Seen
      new = record { path = x.path ++ e ∷ []; state = t }

      within : at < length seen
      within = slice_get_within seen at x so.here

      from : IsSeen w x
      from = at_of (IsSeen w) seen at x so.searched.each so.here

      is_seen : IsSeen w new
      is_seen = record {
        may_come = may_push w w.base x.path e from.may_come (subst (λ s. MayCome w s e) (sym from.leads) may);
        leads = behind_push w w.base x.path e ∙ ap (λ s. step w.pick s e) from.leads ∙ sym is;
        valid = valid;
        cluster = cluster ∙ from.cluster;
      }

      longer : length new.path ≡ length x.path + 1
      longer = length_push x.path e

      front : (k : ℕ) → k < length seen → slice_get (seen ++ new ∷ []) k ≡ slice_get seen k
      front k l = at_front seen (new ∷ []) k l

      has_new : HasWithin (seen ++ new ∷ []) (step w.pick x.state e) (length x.path + 1)
      has_new = (length seen, new, last seen, ap timeless (sym is), omega (arith, longer))
        where
          last : (xs : List Seen) → slice_get (xs ++ new ∷ []) (length xs) ≡ Some new
          last [] = refl
          last (y ∷ ys) = last ys

      all_near : All (λ (y : Seen). length y.path ≤ length x.path + 1) (seen ++ new ∷ [])
      all_near = All-push (λ (y : Seen). length y.path ≤ length x.path + 1) seen new so.near (omega (arith, longer))

      in_order : (k : ℕ) (d : Seen) → k < length seen → length (get_or seen k d).path ≤ length new.path
      in_order k d l = let near = so.near k d l in omega (arith, near, longer)

      searched_new : IsSearched w (seen ++ new ∷ []) at
      searched_new = record {
        each = All-push (IsSeen w) seen new so.searched.each is_seen;
        begins = front 0 (omega (arith, within)) ∙ so.searched.begins;
        ordered = all_pairs_push (λ (a b : Seen). length a.path ≤ length b.path) seen new so.searched.ordered in_order;
        different = all_pairs_push (λ (a b : Seen). Alike a.state b.state → ⊥) seen new so.searched.different fresh;
        closed = λ k z f l there s alike ok can. stays seen new (step w.pick s f) (length z.path + 1)
            (so.searched.closed k z f l (sym (front k (omega (arith, within, l))) ∙ there) s alike ok can);
      }

      pub one_new : IsExpanded w (seen ++ new ∷ []) at x (made + 1)
      one_new = record {
        searched = searched_new;
        here = front at within ∙ so.here;
        near = all_near;
        made = next_one (seen ++ new ∷ []) (stays seen new) (leads_alike (seen ++ new ∷ []) has_new);
      }

  -- all were made
  pub expand_ends : IsExpanded w seen at x (length w.moves) → IsSearched w seen (at + 1)
  expand_ends so = record {
    each = so.searched.each;
    begins = so.searched.begins;
    ordered = so.searched.ordered;
    different = so.searched.different;
    closed = λ k z e l there s alike valid may. cases (nat_lt k at)
        (λ t. so.searched.closed k z e (is_below k at t) there s alike valid may)
        (λ f. let same : k ≡ at = omega (arith, is_above k at f, l) in
        let z_is : x ≡ z = same_Some x z (sym so.here ∙ sym (ap (slice_get seen) same) ∙ there) in
        let m = may.listed.1 in
        let m_is : slice_get w.moves may.listed.0 ≡ Some m =
        slice_get-get_or w.moves may.listed.0 m may.listed.2 ∙ ap Some may.listed.3 in
        let alike_x : Alike s x.state = alike ∙ ap (λ (y : Seen). timeless y.state) (sym z_is) in
        let now : event_in x.state m ≡ Some e = sym (move_alike s x.state m alike_x) ∙ may.listed.4 in
        subst (λ (y : Seen). HasWithin seen (step w.pick s e) (length y.path + 1)) z_is
        (so.made may.listed.0 m may.listed.2 m_is e now s alike_x valid may));
  }

-- ---- the order of what was found
module _ (w : Scope) (seen : List Seen) (done : ℕ) (so : IsSearched w seen done) where
  pub ordered_at : (i j : ℕ) (x y : Seen) → i ≤ j → slice_get seen i ≡ Some x → slice_get seen j ≡ Some y → length x.path ≤ length y.path
  ordered_at i j x y l ax ay = cases (nat_lt i j)
      (λ t. pair_of (λ (a b : Seen). length a.path ≤ length b.path) seen i j x y so.ordered (is_below i j t) ax ay)
      (λ f. let same : i ≡ j = omega (arith, is_above i j f, l) in
      let x_is : x ≡ y = same_Some x y (sym ax ∙ ap (slice_get seen) same ∙ ay) in
      let e : length x.path ≡ length y.path = ap (λ (z : Seen). length z.path) x_is in
      omega (arith, e))

  pub expand_near : (x : Seen) (made : ℕ) → IsExpanded w seen done x made → (y : Seen) → slice_get seen (done + 1) ≡ Some y
      → All (λ (z : Seen). length z.path ≤ length y.path + 1) seen
  expand_near x made ex y there k d l =
      let near = ex.near k d l in
      let order = ordered_at done (done + 1) x y (omega arith) ex.here there in
      omega (arith, near, order)

  -- ---- each list that may come, and isn't longer than those whose events weren't made, leads to a state that was found
  module _ (n : ℕ) (beyond : (k : ℕ) (x : Seen) → done ≤ k → slice_get seen k ≡ Some x → n ≤ length x.path) where
    from_seen : (es : List Event) (k : ℕ) (x : Seen) (s : StateView) → slice_get seen k ≡ Some x → Alike s x.state → IsValid s → MayAllCome w s es
        → length x.path + length es ≤ n → HasWithin seen (behind w s es) (length x.path + length es)
    from_seen [] k x s at alike valid may l = (k, x, at, alike, omega arith)
    from_seen (e ∷ es) k x s at alike valid may l = cases (nat_lt k done)
        (λ t. let one = so.closed k x e (is_below k done t) at s alike valid may.0 in
        let short = one.4 in
        let rest = from_seen es one.0 one.1 (step w.pick s e) one.2 one.3 (step_valid w s e valid may.0) may.1 (omega (arith, short, l)) in
        let long = rest.4 in
        (rest.0, rest.1, rest.2, rest.3, omega (arith, short, long)))
        (λ f. let far = beyond k x (is_above k done f) at in absurd (omega (arith, far, l)))

    pub complete : (es : List Event) → MayAllCome w w.base es → length es ≤ n → HasWithin seen (behind w w.base es) (length es)
    complete es may l =
        let base : Seen = record { path = []; state = w.base } in
        let all = from_seen es 0 base w.base so.begins refl (at_of (IsSeen w) seen 0 base so.each so.begins).valid may (omega (arith, l)) in
        let few = all.4 in
        (all.0, all.1, all.2, all.3, omega (arith, few))

  pub covered_found : (covered : Covered) → IsEnd seen done covered → (es : List Event) → MayAllCome w w.base es → IsCovered covered es
      → HasWithin seen (behind w w.base es) (length es)
  covered_found covered.All end es may within =
      complete (length es) (λ k x l at. absurd (omega (arith, slice_get_within seen k x at, end, l))) es may (omega arith)
  covered_found (covered.UpTo n) end es may within = complete n end es may within

  -- ---- verdicts
  valid_at : (k : ℕ) (x : Seen) → slice_get seen k ≡ Some x → IsValid x.state
  valid_at k x here = (at_of (IsSeen w) seen k x so.each here).valid

  base_valid : IsValid w.base
  base_valid = valid_at 0 (record { path = []; state = w.base }) so.begins

  -- what holds in a state that was found holds behind events that lead to one that is alike
  pub holds_behind : (ask : Ask) (es : List Event) → MayAllCome w w.base es → MayWait ask.within (behind w w.base es) → (k : ℕ) (x : Seen)
      → slice_get seen k ≡ Some x → Alike (behind w w.base es) x.state → holds_in w.pick ask x.state ≡ true → holds_in w.pick ask (behind w w.base es) ≡ true
  holds_behind ask es may wait k x here alike holds =
      asked_alike w.pick ask (behind w w.base es) x.state (behind_valid w w.base es base_valid may) (valid_at k x here) alike wait holds

  pub holds_within : (ask : Ask) (covered : Covered) → IsEnd seen done covered → All (λ (x : Seen). holds_in w.pick ask x.state ≡ true) seen
      → HoldsWithin w covered ask
  holds_within ask covered end all es may within wait =
      let found = covered_found covered end es may within in
      holds_behind ask es may wait found.0 found.1 found.2 found.3 (at_of (λ (x : Seen). holds_in w.pick ask x.state ≡ true) seen found.0 found.1 all found.2)

  -- a shorter list than that of a state leads to one that was found before
  module _ (near : IsNear seen done) (i : ℕ) (x : Seen) (here : slice_get seen i ≡ Some x) where
    unexpanded_far : (n : ℕ) → n < length x.path → (k : ℕ) (y : Seen) → done ≤ k → slice_get seen k ≡ Some y → n ≤ length y.path
    unexpanded_far n l k y past there =
        let inside : done < length seen = omega (arith, past, slice_get_within seen k y there) in
        let first = get_or seen done y in
        let first_is : slice_get seen done ≡ Some first = slice_get-get_or seen done y inside in
        let close = at_of (λ (z : Seen). length z.path ≤ length first.path + 1) seen i x (near first first_is) here in
        let order = ordered_at done k first y past first_is there in
        omega (arith, close, order, l)

    pub shorter_found : (other : List Event) → MayAllCome w w.base other → length other < length x.path
        → (k : ℕ) × (y : Seen) × (k < i) × (slice_get seen k ≡ Some y) × Alike (behind w w.base other) y.state
    shorter_found other may l =
        let found = complete (length other) (unexpanded_far (length other) l) other may (omega arith) in
        let short = found.4 in (
          found.0,
          found.1,
          cases (nat_lt found.0 i) (is_below found.0 i)
              (λ f. let order = ordered_at i found.0 x found.1 (is_above found.0 i f) here found.2 in absurd (omega (arith, order, short, l))),
          found.2,
          found.3,
        )

  -- ---- all states
  -- no shorter list leads to a state that was found
  pub path_is_shortest : IsNear seen done → (i : ℕ) (x : Seen) → slice_get seen i ≡ Some x → (es : List Event) → MayAllCome w w.base es
      → Alike (behind w w.base es) x.state → length x.path ≤ length es
  path_is_shortest near i x here es may leads = cases (nat_lt (length es) (length x.path))
      (λ t. let earlier = shorter_found near i x here es may (is_below (length es) (length x.path) t) in
      absurd (pair_of (λ (a b : Seen). Alike a.state b.state → ⊥) seen earlier.0 i earlier.1 x so.different earlier.2 earlier.3 here (sym earlier.4 ∙ leads)))
      (λ f. is_above (length es) (length x.path) f)

  module _ (near : IsNear seen done) (last : ℕ) (x : Seen) (here : slice_get seen last ≡ Some x) (is_last : last + 1 ≡ length seen) where
    pub are_reached : (covered : Covered) → IsEnd seen done covered → ((k : ℕ) (s : StateView) → slice_get (states_of seen) k ≡ Some s → IsNext w (take k (states_of seen)) s)
        → AreReached w (length x.path) covered (states_of seen)
    are_reached covered end in_order =
        let base : Seen = record { path = []; state = w.base } in
        let state = λ (y : Seen). y.state in
        let long = length-map seen state in
        let last_in = slice_get_within seen last x here in record {
          different = λ i j d l m.
              let j_in : j < length seen = omega (arith, m, long) in
              let i_in : i < length seen = omega (arith, l, j_in) in
              let ai = get_or-map state seen i base d i_in in
              let aj = get_or-map state seen j base d j_in in
              λ same. so.different i j base l j_in (ap timeless (sym ai) ∙ same ∙ ap timeless aj);
          in_order = in_order;
          reached = λ k d l.
              let k_in : k < length seen = omega (arith, l, long) in
              let y = get_or seen k base in
              let y_there : slice_get seen k ≡ Some y = slice_get-get_or seen k base k_in in
              let is = so.each k base k_in in
              let at = get_or-map state seen k base d k_in in
              record {
                events = y.path;
                may_come = is.may_come;
                few = ordered_at k last y x (omega (arith, k_in, is_last)) y_there here;
                leads = is.leads ∙ sym at;
              };
          farthest = (
            last,
            x.state,
            omega (arith, last_in, long),
            get_or-map state seen last x x.state last_in ∙ ap state (get_or_from_slice_get seen last x x here),
            λ es may leads. path_is_shortest near last x here es may leads,
          );
          complete = λ es may within.
              let found = covered_found covered end es may within in
              let k_in = slice_get_within seen found.0 found.1 found.2 in (
                found.0,
                found.1.state,
                omega (arith, long, k_in),
                get_or-map state seen found.0 found.1 found.1.state k_in ∙ ap state (get_or_from_slice_get seen found.0 found.1 found.1 found.2),
                found.3,
              );
        }
