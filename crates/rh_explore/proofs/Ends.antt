-- A search begins with the base alone, and ends where no state is left.
use Rattle.std.proofs.Common.{◌≡◌, ◌<◌, ◌≤◌, ◌-◌, ◌++◌, ◌∷◌, [], List, None, length, drop, All, sym, ap, ◌∙◌, subst, arith}
use Rattle.std.proofs.lemmas.List.{length-map, length-drop, length-append}
use Rattle.std.proofs.lemmas.Option.{slice_get_within}
use Rattle.rh_state.specs.StateView.{StateView}
use Rattle.rh_state.specs.Stored.{Stored, read}
use Rattle.rh_trace.specs.Validity.{IsValid}
use Rattle.rh_explore.specs.declared.bounds.Covered.TheVariants as covered
use Rattle.rh_explore.specs.declared.families.Front.{Front}
use Rattle.rh_explore.specs.declared.search.Search.{Search}
use Rattle.rh_explore.specs.declared.space.Space.{Space}
use Rattle.rh_explore.specs.Exploring.{scope_of}
use Rattle.rh_explore.specs.Families.{waiting_in, IsFamily}
use Rattle.rh_explore.specs.Kept.{seen_in, seen_of, IsFrontOf}
use Rattle.rh_explore.specs.Spaces.{Seen, states_of, IsSearched, IsNear, IsUnderWay, IsEnded}
use Rattle.rh_explore.proofs.Begun.{base_near, base_few}
use Rattle.rh_explore.proofs.PathsTo.{length-seen}
use Rattle.rh_explore.proofs.Searched.{base_searched}
use Rattle.rh_explore.proofs.UnderWay.{state_in}

-- the base alone was found
module _ (search : Search) (space : Space) (front : Front) (found : space.found.items ≡ record { last = None; depth = 0 } ∷ []) (first : front.next ≡ 0) where
  abbrev base : StateView
  base = read search.base.now

  is : seen_in search space ≡ record { path = []; state = base } ∷ []
  is = ap (seen_of (scope_of search)) found

  pub begins : IsValid base → IsUnderWay (scope_of search) search.bounds (seen_in search space) front.next
  begins valid =
      subst (λ n. IsUnderWay (scope_of search) search.bounds (seen_in search space) n) (sym first)
      (record {
        searched = subst (λ (seen : List Seen). IsSearched (scope_of search) seen 0) (sym is) (base_searched (scope_of search) valid);
        near = subst (λ (seen : List Seen). IsNear seen 0) (sym is) (base_near base);
        spent = λ k x l. absurd (omega (arith, l));
        few = subst (λ (seen : List Seen). All (λ (x : Seen). length x.path ≤ search.bounds.steps) seen) (sym is) (base_few base search.bounds.steps);
        room = omega (arith, ap (λ (seen : List Seen). length seen) is);
      })

  pub base_waits : (copy : Stored) → copy ≡ search.base.now → All IsFamily front.families.items → waiting_in search.pick front.families.items ≡ read copy ∷ []
      → IsFrontOf search space front []
  base_waits copy same families waiting = record {
    families = families;
    waiting = waiting ∙ ap (λ s. read s ∷ []) same ∙ sym (λ i. drop (first i) (states_of (is i)));
  }

-- the next state is one of those that were found
pub next_within : (search : Search) (space : Space) (front later : Front) (states : List StateView) → IsFrontOf search space front [] → 0 < length states
    → waiting_in search.pick front.families.items ≡ states ++ waiting_in search.pick later.families.items → front.next < length space.found.items
next_within search space front later states so some waiting =
    let seen = seen_in search space in
    let left = ap (λ (l : List StateView). length l) (sym waiting ∙ so.waiting) in
    omega (
      arith,
      some,
      left,
      length-append states (waiting_in search.pick later.families.items),
      length-drop front.next (states_of seen),
      length-map seen state_in,
      length-seen (scope_of search) space.found.items,
    )

-- none is left
pub all_ended : (search : Search) (space : Space) (front : Front) → IsUnderWay (scope_of search) search.bounds (seen_in search space) front.next
    → IsFrontOf search space front [] → front.families.items ≡ [] → IsEnded (scope_of search) search.bounds (seen_in search space) covered.All
all_ended search space front way so none =
    let seen = seen_in search space in
    let empty = ap (λ (l : List StateView). length l) (sym (ap (waiting_in search.pick) none) ∙ so.waiting) in
    let past : length seen ≤ front.next = omega (arith, empty, length-drop front.next (states_of seen), length-map seen state_in) in
    record {
      done = front.next;
      searched = way.searched;
      near = way.near;
      few = way.few;
      end = past;
      why = λ x last. way.spent (length seen - 1) x (omega (arith, past, slice_get_within seen (length seen - 1) x last)) last;
      covers = λ few small below. tt;
    }
