-- What one event adds to what was found.
use Rattle.std.proofs.Common.{◌≡◌, true, false, inl, inr, ◌<◌, ◌≤◌, ◌+◌, ℕ, List, [], ◌∷◌, ◌++◌, length, sum_by, get_or, slice_get, Some, None, All, refl, sym, ap, ◌∙◌, subst, arith}
use Rattle.std.specs.Prelude.{Contains, None}
use Rattle.std.proofs.lemmas.List.{length-map, get_or-map}
use Rattle.std.proofs.lemmas.List.Elements.{All-map}
use Rattle.std.proofs.lemmas.Option.{same_Some, slice_get_within, slice_get-get_or, get_or_from_slice_get}
use Rattle.rh_state.specs.StateView.{StateView}
use Rattle.rh_keys.specs.Shifts.{Alike}
use Rattle.rh_keys.specs.ShiftLaws.{meets_limit}
use Rattle.rh_base.proofs.Truths.{both}
use Rattle.rh_explore.specs.declared.bounds.Bounds.{Bounds}
use Rattle.rh_explore.specs.Exploring.{key_length, most_bytes, StaysBelowLimits, IsFull, IsTooMuch}
use Rattle.rh_trace.specs.Validity.{IsValid}
use Rattle.rh_rules.specs.declared.event.Event.{Event}
use Rattle.rh_rules.specs.Refusals.{refused}
use Rattle.rh_step.specs.Runs.{step}
use Rattle.rh_explore.specs.declared.bounds.Covered.TheVariants as covered
use Rattle.rh_keys.specs.Codes.{code}
use Rattle.rh_keys.specs.Packed.{packed_key}
use Rattle.rh_keys.proofs.CodesApart.{code_same}
use Rattle.rh_explore.specs.declared.moves.Move.{Move}
use Rattle.rh_explore.specs.Moves.{event_in}
use Rattle.rh_explore.specs.Reaching.{Scope, IsMove, MayCome, MayAllCome, not_up_count, behind}
use Rattle.rh_explore.specs.Spaces.{Seen, states_of, IsSeen, IsSearched, IsNear, IsExpanded, IsExpandedAt, IsFoundInTurn, IsCut, IsEnd}
use Rattle.rh_explore.specs.Kept.{code_in, codes_of}
use Rattle.rh_keys.proofs.Places.{at_of}
use Rattle.rh_explore.proofs.Alikes.{accepted_alike, few_alike, step_valid}
use Rattle.rh_keys.proofs.KeysApart.{packed_apart, packed_alike}
use Rattle.rh_explore.proofs.Searched.{one_idle, one_left_out, one_known, one_new, expand_begins, expand_ends, expand_near, ordered_at}

module _ (w : Scope) (seen : List Seen) (at : ℕ) (x : Seen) (here : slice_get seen at ≡ Some x) where
  -- it is the one that is expanded
  it_is : (count : ℕ) (so : IsExpandedAt w seen at count) → IsExpanded w seen at x count
  it_is count so = subst (λ y. IsExpanded w seen at y count) (same_Some so.0 x (sym so.1.here ∙ here)) so.1

  module _ (m : Move) (made : ℕ) (is : slice_get w.moves made ≡ Some m) (so : IsExpandedAt w seen at made) where
    pub no_event : event_in x.state m ≡ None → IsExpandedAt w seen at (made + 1)
    no_event none = (x, one_idle w seen at x made m is (it_is made so) none)

  module _ (m : Move) (made : ℕ) (is : slice_get w.moves made ≡ Some m) (so : IsExpandedAt w seen at made) (e : Event) (now : event_in x.state m ≡ Some e) where
    listed : IsMove w x.state e
    listed = (made, m, slice_get_within w.moves made m is, get_or_from_slice_get w.moves made m m is, now)

    is_here : IsSeen w x
    is_here = at_of (IsSeen w) seen at x (it_is made so).searched.each here

    pub here_valid : IsValid x.state
    here_valid = is_here.valid

    pub not_there : meets_limit x.state e ≡ false → (refused x.state e ≡ None → not_up_count (step w.pick x.state e) ≤ w.down → ⊥) → IsExpandedAt w seen at (made + 1)
    not_there below not = (
      x,
      one_left_out w seen at x made m is (it_is made so) e now
          (λ (s : StateView) (alike : Alike s x.state) (valid : IsValid s) (may : MayCome w s e).
          not (accepted_alike w s x.state e alike may below) (few_alike w s x.state e valid is_here.valid alike may)),
    )

    pub at_limit : (bounds : Bounds) → meets_limit x.state e ≡ true → IsCut w bounds seen at
    at_limit bounds met = (x, e, here, inr (listed, met))

    module _ (accepted : refused x.state e ≡ None) (few : not_up_count (step w.pick x.state e) ≤ w.down) (cluster : (step w.pick x.state e).cluster ≡ x.state.cluster) where
      abbrev t : StateView
      t = step w.pick x.state e

      may : MayCome w x.state e
      may = record {
        listed = listed;
        accepted = accepted;
        few = few;
      }

      valid : IsValid t
      valid = step_valid w x.state e is_here.valid may

      is_seen : (k : ℕ) (y : Seen) → slice_get seen k ≡ Some y → IsSeen w y
      is_seen k y there = at_of (IsSeen w) seen k y (it_is made so).searched.each there

      -- a state with its key is alike
      same_key : (k : ℕ) (y : Seen) → slice_get seen k ≡ Some y → packed_key y.state ≡ packed_key t → Alike y.state t
      same_key k y there keys =
          let that = is_seen k y there in
          packed_apart y.state t that.valid.sound.shaped valid.sound.shaped (cluster ∙ is_here.cluster ∙ sym that.cluster) keys

      pub known : Contains (codes_of seen) (code (packed_key t)) → IsExpandedAt w seen at (made + 1)
      known has =
          let k = has.0 in
          let k_in : k < length seen = omega (arith, has.1, length-map seen code_in) in
          let y = get_or seen k x in
          let there : slice_get seen k ≡ Some y = slice_get-get_or seen k x k_in in
          let codes : code (packed_key y.state) ≡ code (packed_key t) = sym (get_or-map code_in seen k x (code (packed_key t)) k_in) ∙ has.2 in
          let keys : packed_key y.state ≡ packed_key t = code_same (packed_key y.state) (packed_key t) codes in
          let near = at_of (λ (z : Seen). length z.path ≤ length x.path + 1) seen k y (it_is made so).near there in (
            x,
            one_known w seen at x made m is (it_is made so) e now
                (k, y, there, sym (same_key k y there keys), near),
          )

      module _ (new : Contains (codes_of seen) (code (packed_key t)) → ⊥) where
        fresh : All (λ (y : Seen). Alike y.state t → ⊥) seen
        fresh = λ k d l same.
            new (
              k,
              omega (arith, l, length-map seen code_in),
              get_or-map code_in seen k d (code (packed_key t)) l ∙ ap code (packed_alike (get_or seen k d).state t same),
            )

        -- there is no room for it
        pub too_many : (bounds : Bounds) → IsFull bounds (states_of seen) → IsCut w bounds seen at
        too_many bounds full = (
          x,
          e,
          here,
          inl (
            full,
            may,
            All-map (λ u. Alike u t → ⊥) (λ (y : Seen). y.state) seen fresh,
          ),
        )

        pub turn : IsFoundInTurn w seen (record { path = x.path ++ e ∷ []; state = t })
        turn = record {
          at = at;
          from = x;
          place = made;
          move = m;
          event = e;
          expanded = it_is made so;
          listed = is;
          is = now;
          path = refl;
        }

        pub added : (y : Seen) → y.path ≡ x.path ++ e ∷ [] → y.state ≡ t → IsExpandedAt w (seen ++ y ∷ []) at (made + 1)
        added y path state =
            let one = one_new w seen at x made m is (it_is made so) e now t refl may valid cluster fresh in
            let last : y ≡ record { path = x.path ++ e ∷ []; state = t } = λ i. record { path = path i; state = state i } in (
              x,
              subst (λ (seen' : List Seen). IsExpanded w seen' at x (made + 1)) (ap (λ (z : Seen). seen ++ z ∷ []) (sym last)) one,
            )

  -- ---- before the first event, and behind the last
  pub begun : IsSearched w seen at → IsNear seen at → IsExpandedAt w seen at 0
  begun searched near = (x, expand_begins w seen at x searched near here)

  pub done_next : IsExpandedAt w seen at (length w.moves) → IsSearched w seen (at + 1)
  done_next so = expand_ends w seen at x (it_is (length w.moves) so)

  pub near_next : (count : ℕ) → IsExpandedAt w seen at count → IsNear seen (at + 1)
  near_next count so = let ex = it_is count so in expand_near w seen at ex.searched x count ex

  pub few_more : (count steps : ℕ) → IsExpandedAt w seen at count → length x.path < steps
      → All (λ (y : Seen). length y.path ≤ steps) seen
  few_more count steps so short = λ k d l. let near = (it_is count so).near k d l in omega (arith, near, short)

  -- ---- the end
  -- below the limits, and while there is room, no event ends the search
  pub never_cut : (count steps : ℕ) (bounds : Bounds) → IsExpandedAt w seen at count → IsCut w bounds seen at → length (states_of seen) < bounds.states
      → sum_by key_length (states_of seen) < most_bytes bounds → length x.path < steps → StaysBelowLimits w steps → ⊥
  never_cut count steps bounds so (y, e, there, inl (inl full, can, new)) few small short below = absurd (omega (arith, full, few))
  never_cut count steps bounds so (y, e, there, inl (inr full, can, new)) few small short below = absurd (omega (arith, full, small))
  never_cut count steps bounds so (y, e, there, inr (is, met)) few small short below =
      let x_is : y ≡ x = same_Some y x (sym there ∙ here) in
      let here_is = at_of (IsSeen w) seen at x (it_is count so).searched.each here in
      both (meets_limit x.state e)
      (subst (λ (y : Seen). meets_limit y.state e ≡ true) x_is met)
      (subst (λ (s : StateView). meets_limit s e ≡ false) here_is.leads
      (below x.path e here_is.may_come short (subst (λ (s : StateView). IsMove w s e) (ap (λ (y : Seen). y.state) x_is ∙ sym here_is.leads) is)))

  -- where it ends so, an event behind the list that leads there was too much
  pub cut_behind : (count : ℕ) (bounds : Bounds) → IsExpandedAt w seen at count → IsCut w bounds seen at
      → (e : Event) × MayAllCome w w.base x.path × IsTooMuch w bounds (states_of seen) (behind w w.base x.path) e
  cut_behind count bounds so cut =
      let x_is : cut.0 ≡ x = same_Some cut.0 x (sym cut.2 ∙ here) in
      let is = at_of (IsSeen w) seen at x (it_is count so).searched.each here in
      (cut.1, is.may_come, subst (λ s. IsTooMuch w bounds (states_of seen) s cut.1) (ap (λ (y : Seen). y.state) x_is ∙ sym is.leads) cut.3)

  pub searched_still : (count : ℕ) → IsExpandedAt w seen at count → IsSearched w seen at
  searched_still count so = (it_is count so).searched

  pub near_still : (count : ℕ) → IsExpandedAt w seen at count → IsNear seen at
  near_still count so = λ y there.
      let x_is : x ≡ y = same_Some x y (sym here ∙ there) in
      subst (λ (z : Seen). All (λ (u : Seen). length u.path ≤ length z.path + 1) seen) x_is (it_is count so).near

  pub up_to : (n : ℕ) → IsSearched w seen at → n ≤ length x.path → IsEnd seen at (covered.UpTo n)
  up_to n searched far = λ k y l there.
      let order = ordered_at w seen at searched at k x y l here there in
      omega (arith, order, far)
