-- A search that is under way: which state comes next, how the search ends there, and how it goes on behind it.
use Rattle.std.proofs.Common.{◌≡◌, ◌<◌, ◌≤◌, ◌+◌, ◌-◌, ◌++◌, ◌∷◌, [], ℕ, List, length, map, max, drop, slice_get, Option, Some, All, inl, inr, refl, sym, ap, ◌∙◌, append_assoc, subst, arith, Vec, Box, Global}
use Rattle.std.proofs.lemmas.List.{append-nil, length-map, drop-append-le, nil_from_length}
use Rattle.std.proofs.lemmas.List.Concat.{flat_map-append}
use Rattle.std.proofs.lemmas.List.Elements.{All-push}
use Rattle.std.proofs.lemmas.Option.{same_Some, slice_get_within}
use Rattle.rh_state.specs.StateView.{StateView}
use Rattle.rh_state.specs.Stored.{Stored, read}
use Rattle.rh_rules.specs.declared.event.Event.{Event}
use Rattle.rh_trace.specs.Validity.{IsValid}
use Rattle.rh_explore.specs.declared.bounds.Bounds.{Bounds}
use Rattle.rh_explore.specs.declared.bounds.Covered.TheVariants as covered
use Rattle.rh_explore.specs.declared.families.Family.{Family}
use Rattle.rh_explore.specs.declared.families.Front.{Front}
use Rattle.rh_explore.specs.declared.search.Search.{Search}
use Rattle.rh_explore.specs.declared.space.Found.{Found}
use Rattle.rh_explore.specs.declared.space.Space.{Space}
use Rattle.rh_explore.specs.Exploring.{scope_of}
use Rattle.rh_explore.specs.Families.{child_by, children, waiting_in, IsAccepted, IsFamily}
use Rattle.rh_explore.specs.Kept.{seen_in, seen_by, AreLinked, FindsFrom, IsFrontOf}
use Rattle.rh_explore.specs.Reaching.{Scope}
use Rattle.rh_explore.specs.Spaces.{Seen, states_of, IsExpandedAt, IsCut, IsUnderWay, IsEnded}
use Rattle.rh_keys.proofs.Places.{at_of, mapped_from}
use Rattle.rh_explore.proofs.PathsTo.{path_at, seen_there, depth_is, drop_first, length-seen}
use Rattle.rh_explore.proofs.Reached.{done_next, near_next, few_more, never_cut, cut_behind, searched_still, near_still, up_to}
use Rattle.rh_explore.proofs.Searched.{ordered_at}

abbrev pub state_in : Seen → StateView
state_in x = x.state

-- ---- the state that comes next
pub record IsNextState (search : Search) (space : Space) (next : ℕ) (s : StateView) (rest : List StateView) : Type 0 where
  pub seen : Seen
  pub here : slice_get (seen_in search space) next ≡ Some seen
  pub state : seen.state ≡ s
  pub within : next < length space.found.items
  pub left : rest ≡ drop (next + 1) (states_of (seen_in search space))

pub next_state : (search : Search) (space : Space) (front : Front) (s : StateView) (states : List StateView) → IsFrontOf search space front (s ∷ states)
    → IsNextState search space front.next s (states ++ waiting_in search.pick front.families.items)
next_state search space front s states so =
    let seen = seen_in search space in
    let first = drop_first (states_of seen) front.next s (states ++ waiting_in search.pick front.families.items) so.waiting in
    let x = mapped_from state_in seen front.next s first.0 in
    record {
      seen = x.0;
      here = x.1;
      state = x.2;
      within = omega (arith, slice_get_within seen front.next x.0 x.1, length-seen (scope_of search) space.found.items);
      left = first.1;
    }

-- as many events lead to it as are told
pub depth_of : (search : Search) (space : Space) (next : ℕ) (s : StateView) (rest : List StateView) (f : Found) → AreLinked space.found.items
    → (so : IsNextState search space next s rest) → slice_get space.found.items next ≡ Some f → f.depth ≡ length so.seen.path
depth_of search space next s rest f linked so there =
    let w = scope_of search in
    let found = space.found.items in
    let is : seen_by w (path_at found next) ≡ so.seen = same_Some (seen_by w (path_at found next)) so.seen (sym (seen_there w found next f there) ∙ so.here) in
    depth_is found next f linked there ∙ ap (λ (x : Seen). length x.path) is

-- ---- it ends there
module _ (w : Scope) (bounds : Bounds) (seen : List Seen) (at : ℕ) (x : Seen) (here : slice_get seen at ≡ Some x) where
  pub ends_deep : IsUnderWay w bounds seen at → bounds.steps ≤ length x.path → IsEnded w bounds seen (covered.UpTo bounds.steps)
  ends_deep way deep = record {
    done = at;
    searched = way.searched;
    near = way.near;
    few = way.few;
    end = up_to w seen at x here bounds.steps way.searched deep;
    why = λ last last_is.
        let few = at_of (λ (y : Seen). length y.path ≤ bounds.steps) seen (length seen - 1) last way.few last_is in
        let within = slice_get_within seen at x here in
        let order = ordered_at w seen at way.searched at (length seen - 1) x last (omega (arith, within)) here last_is in
        inl (refl, omega (arith, few, order, deep));
    covers = λ less small below. omega arith;
  }

  module _ (made : ℕ) (so : IsExpandedAt w seen at made) (short : length x.path < bounds.steps) where
    pub ends_cut : (n : ℕ) → n ≡ length x.path → IsCut w bounds seen at → IsEnded w bounds seen (covered.UpTo n)
    ends_cut n deep cut =
        let searched = searched_still w seen at x here made so in record {
          done = at;
          searched = searched;
          near = near_still w seen at x here made so;
          few = few_more w seen at x here made bounds.steps so short;
          end = up_to w seen at x here n searched (omega (arith, deep));
          why = λ last last_is.
              let b = cut_behind w seen at x here made bounds so cut in
              inr (omega (arith, deep, short), x.path, b.0, b.1, sym deep, b.2);
          covers = λ less small below. absurd (never_cut w seen at x here made bounds.steps bounds so cut
              (omega (arith, less, length-map seen state_in)) small short below);
        }

  -- ---- it goes on
  pub goes_past : IsExpandedAt w seen at (length w.moves) → length x.path < bounds.steps → length seen ≤ max 1 bounds.states
      → IsUnderWay w bounds seen (at + 1)
  goes_past so short room =
      let count = length w.moves in record {
        searched = done_next w seen at x here so;
        near = near_next w seen at x here count so;
        spent = λ j y l there.
            let order = ordered_at w seen at (searched_still w seen at x here count so) j at y x (omega (arith, l)) there here in
            omega (arith, order, short);
        few = few_more w seen at x here count bounds.steps so short;
        room = room;
      }

-- ---- the states that are left, and those that were found
module _ (search : Search) (old new : Space) (next : ℕ) (s : StateView) (events : Vec (Option Event) Global) (finds : FindsFrom search s old new events.items)
    (within : next < length (states_of (seen_in search old))) where
  left_more : (rest : List StateView) → rest ≡ drop (next + 1) (states_of (seen_in search old))
      → rest ++ map (child_by search.pick s) events.items ≡ drop (next + 1) (states_of (seen_in search new))
  left_more rest left =
      let before = states_of (seen_in search old) in
      let more = map (child_by search.pick s) events.items in
      ap (λ (l : List StateView). l ++ more) left
      ∙ sym (drop-append-le (next + 1) before more (omega (arith, within)))
      ∙ ap (drop (next + 1)) (sym finds.states)

  module _ (front later : Front) (states : List StateView) (families : All IsFamily front.families.items)
      (left : states ++ waiting_in search.pick front.families.items ≡ drop (next + 1) (states_of (seen_in search old))) (then : later.next ≡ next + 1) where
    -- none was found
    pub front_same : length events.items ≡ 0 → later.families.items ≡ front.families.items → IsFrontOf search new later states
    front_same none same =
        let waiting = waiting_in search.pick front.families.items in
        let nothing = nil_from_length events.items none in
        record {
          families = subst (All IsFamily) (sym same) families;
          waiting = ap (λ (fs : List Family). states ++ waiting_in search.pick fs) same
              ∙ sym (append-nil (states ++ waiting))
              ∙ ap (λ (es : List (Option Event)). (states ++ waiting) ++ map (child_by search.pick s) es) (sym nothing)
              ∙ left_more (states ++ waiting) left
              ∙ ap (λ (n : ℕ). drop n (states_of (seen_in search new))) (sym then);
        }

    -- some were, and the state is kept for them
    pub front_more : (state : Box Stored Global) → read state.value ≡ s → IsValid s → 0 < length events.items
        → later.families.items ≡ front.families.items ++ record { state = state; events = events } ∷ [] → IsFrontOf search new later states
    front_more state is valid some more =
        let waiting = waiting_in search.pick front.families.items in
        let family : Family = record { state = state; events = events } in
        let found = map (child_by search.pick s) events.items in
        let one : children search.pick family ≡ found = ap (λ (z : StateView). map (child_by search.pick z) events.items) is in
        record {
          families = subst (All IsFamily) (sym more)
              (All-push IsFamily front.families.items family families
              (record {
                valid = subst IsValid (sym is) valid;
                some = some;
                accepted = subst (λ (z : StateView). All (IsAccepted z) events.items) (sym is) finds.accepted;
              }));
          waiting = ap (λ (fs : List Family). states ++ waiting_in search.pick fs) more
              ∙ ap (λ (l : List StateView). states ++ l) (flat_map-append (children search.pick) front.families.items (family ∷ []))
              ∙ ap (λ (l : List StateView). states ++ (waiting ++ l)) (append-nil (children search.pick family) ∙ one)
              ∙ sym (append_assoc states waiting found)
              ∙ left_more (states ++ waiting) left
              ∙ ap (λ (n : ℕ). drop n (states_of (seen_in search new))) (sym then);
        }
