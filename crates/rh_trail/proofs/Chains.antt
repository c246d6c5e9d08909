-- The words behind each number of events, through a step, an undo and a redo.
use Rattle.std.proofs.Common.{◌≡◌, ℕ, zero, suc, ◌+◌, ◌-◌, ◌<◌, ◌≤◌, List, [], ◌∷◌, ◌++◌, length, take, drop, get_or, set, if◌then◌else◌, refl, sym, ap}
use Rattle.std.proofs.Common.{◌∙◌, subst, inl, inr, arith}
use Rattle.std.proofs.lemmas.List.{length-take-le, length-set, length_push, take_more, take_more_set, take-set, drop-set, drop-set-lt, drop-append-le}
use Rattle.std.proofs.lemmas.List.{drop_more, drop_all, take_all, take-take}
use Rattle.std.proofs.lemmas.Bool.{cases_lt, le-leb}
use Rattle.std.proofs.lemmas.Bool.Decides.{leb_tells}
use Rattle.rh_base.specs.Exchanges.{back, forth, backed, forthed, AllBack, AllForth}
use Rattle.rh_base.proofs.Exchanges.{back-append, forth-back, back-forth, AllBack-append, AllBack-early, AllBack-late, back_turns, forth_turns, get_or-any, length-backed, length-forthed}
use Rattle.rh_model.specs.ClusterView.{ClusterView, IsWithin}
use Rattle.rh_rules.specs.declared.event.Event.{Event}
use Rattle.rh_rules.specs.declared.pick.Pick.{Pick}
use Rattle.rh_state.specs.declared.edit.Edit.{Edit}
use Rattle.rh_state.specs.Edits.{exchange, turned}
use Rattle.rh_state.specs.First.{first, first_words}
use Rattle.rh_state.specs.Records.{CanGoBack, CanGoForth, LedBy}
use Rattle.rh_state.specs.Stored.{Stored, read}
use Rattle.rh_state.proofs.Twice.{exchange_twice, back_turns_one, forth_turns_one}
use Rattle.rh_trace.specs.Validity.{IsValid}
use Rattle.rh_trail.specs.Chain.{backs, forths, chain_at, IsChain}
use Rattle.rh_trail.specs.Lone.{trail_limit}
use Rattle.rh_step.specs.Runs.{step, after}
use Rattle.rh_trail.specs.SimView.{Held}
use Rattle.rh_trail.proofs.Small.{limit, none_small, small_turned, small_cut, small_added}
use Rattle.rh_trail.proofs.Histories.{opened_valid, each_state, state_earlier, state_last}

abbrev pub held : ClusterView → Pick → List Event → Stored → List (List Edit) → ℕ → Held
held cl pick trail w rs c = record { seen = record { cluster = cl; pick = pick; trail = trail; cursor = c }; words = w; records = rs }

abbrev pub Chained : ClusterView → Pick → List Event → Stored → List (List Edit) → ℕ → Type 0
Chained cl pick trail w rs c = IsChain (held cl pick trail w rs c)

pub chain_below : (w : Stored) (rs : List (List Edit)) (c k : ℕ) → k ≤ c → chain_at w rs c k ≡ backs w (drop k (take c rs))
unfolding chain_at
chain_below w rs c k le = ap (λ b. if b then backs w (drop k (take c rs)) else forths w (take (k - c) (drop c rs))) (le-leb k c le)

chain_beyond : (w : Stored) (rs : List (List Edit)) (c k : ℕ) → c < k → chain_at w rs c k ≡ forths w (take (k - c) (drop c rs))
unfolding chain_at
chain_beyond w rs c k lt = elim (leb_tells k c) [
  | inl p ↦ absurd (omega (arith, p.1, lt))
  | inr p ↦ ap (λ b. if b then backs w (drop k (take c rs)) else forths w (take (k - c) (drop c rs))) p.0
]

pub chain_here : (w : Stored) (rs : List (List Edit)) (c : ℕ) → c ≤ length rs → chain_at w rs c c ≡ w
chain_here w rs c le = chain_below w rs c c (omega arith) ∙ ap (backs w) (drop_all c (take c rs) (omega (arith, length-take-le c rs le)))

pub chain_above : (w : Stored) (rs : List (List Edit)) (c k j : ℕ) → c ≤ length rs → k ≡ c + j → chain_at w rs c k ≡ forths w (take j (drop c rs))
chain_above w rs c k zero le is = ap (chain_at w rs c) (let e : k ≡ c = omega (arith, is) in e) ∙ chain_here w rs c le
chain_above w rs c k (suc j) le is = chain_beyond w rs c k (omega (arith, is))
    ∙ ap (λ n. forths w (take n (drop c rs))) (let e : k - c ≡ suc j = omega (arith, is) in e)

-- the words mean the state behind the events that stand
pub chain_reads : (cl : ClusterView) (pick : Pick) (trail : List Event) (w : Stored) (rs : List (List Edit)) (c : ℕ) → Chained cl pick trail w rs c
    → read w ≡ after cl pick (take c trail)
chain_reads cl pick trail w rs c h = sym (ap read (chain_here w rs c (omega (arith, h.count, h.within)))) ∙ h.each c h.within

pub empty_chain : (cl : ClusterView) (pick : Pick) (w : Stored) → IsWithin cl → w ≡ first_words cl → read w ≡ first cl → Chained cl pick [] w [] 0
empty_chain cl pick w fits words is = record {
  count = refl;
  within = omega arith;
  limited = omega arith;
  below = tt;
  above = tt;
  first = chain_here w [] 0 (omega arith) ∙ words;
  each = each;
  valid = λ k bound. opened_valid cl pick fits k;
  small = none_small cl pick;
}
  where
    each : (k : ℕ) → k ≤ 0 → read (chain_at w [] 0 k) ≡ after cl pick (take k [])
    each zero le = ap read (chain_here w [] 0 (omega arith)) ∙ is
    each (suc k) le = absurd (omega (arith, le))

-- an undo: r is the record of the last event
module _ (w : Stored) (rs : List (List Edit)) (c : ℕ) (r : List Edit) (inside : c < length rs) (is : r ≡ get_or rs c []) where
  taken : take (c + 1) rs ≡ take c rs ++ r ∷ []
  taken = take_more rs c [] inside ∙ ap (λ x. take c rs ++ x ∷ []) (sym is)

  left : drop c rs ≡ r ∷ drop (c + 1) rs
  left = drop_more rs c [] inside ∙ ap (λ x. x ∷ drop (c + 1) rs) (sym is)

  fronts : length (take c rs) ≡ c
  fronts = length-take-le c rs (omega (arith, inside))

  pub undo_chain : (k : ℕ) → chain_at (back exchange w r) (set rs c (backed exchange turned w r)) c k ≡ chain_at w rs (c + 1) k
  undo_chain k = elim (cases_lt c k) [
    | inl above ↦ (let j : ℕ = k - (c + 1) in
        chain_above (back exchange w r) (set rs c (backed exchange turned w r)) c k (suc j)
        (omega (arith, length-set rs c (backed exchange turned w r), inside)) (omega (arith, above))
        ∙ ap (λ us. forths (back exchange w r) (take (suc j) us)) (drop-set rs c (backed exchange turned w r) inside)
        ∙ ap (λ v. forths v (take j (drop (c + 1) rs))) (forth-back exchange turned exchange_twice w r)
        ∙ sym (chain_above w rs (c + 1) k j (omega (arith, inside)) (omega (arith, above))))
    | inr below ↦
        chain_below (back exchange w r) (set rs c (backed exchange turned w r)) c k below
        ∙ ap (λ ds. backs (back exchange w r) (drop k ds)) (take-set rs c (backed exchange turned w r))
        ∙ sym (back-append (back exchange) w (drop k (take c rs)) (r ∷ []))
        ∙ ap (backs w) (sym (drop-append-le k (take c rs) (r ∷ []) (omega (arith, below, fronts))) ∙ ap (drop k) (sym taken))
        ∙ sym (chain_below w rs (c + 1) k (omega (arith, below)))
  ]

  pub redo_chain : (k : ℕ) → chain_at (forth exchange w r) (set rs c (forthed exchange turned w r)) (c + 1) k ≡ chain_at w rs c k
  redo_chain k = elim (cases_lt c k) [
    | inl above ↦ (let j : ℕ = k - (c + 1) in
        chain_above (forth exchange w r) (set rs c (forthed exchange turned w r)) (c + 1) k j
        (omega (arith, length-set rs c (forthed exchange turned w r), inside)) (omega (arith, above))
        ∙ ap (λ us. forths (forth exchange w r) (take j us)) (drop-set-lt (c + 1) rs c (forthed exchange turned w r) (omega arith))
        ∙ ap (λ us. forths w (take (suc j) us)) (sym left)
        ∙ sym (chain_above w rs c k (suc j) (omega (arith, inside)) (omega (arith, above))))
    | inr below ↦
        chain_below (forth exchange w r) (set rs c (forthed exchange turned w r)) (c + 1) k (omega (arith, below))
        ∙ ap (λ ds. backs (forth exchange w r) (drop k ds)) (take_more_set rs c (forthed exchange turned w r) inside)
        ∙ ap (backs (forth exchange w r)) (drop-append-le k (take c rs) (forthed exchange turned w r ∷ []) (omega (arith, below, fronts)))
        ∙ back-append (back exchange) (forth exchange w r) (drop k (take c rs)) (forthed exchange turned w r ∷ [])
        ∙ ap (λ v. backs v (drop k (take c rs))) (back-forth exchange turned exchange_twice w r)
        ∙ sym (chain_below w rs c k below)
  ]

  pub last_steps : (cl : ClusterView) (pick : Pick) (trail : List Event) → Chained cl pick trail w rs (c + 1) → AllBack exchange CanGoBack w r
  last_steps cl pick trail h = (AllBack-late (back exchange) (AllBack exchange CanGoBack) w (take c rs) (r ∷ [])
      (subst (λ ds. AllBack (back exchange) (AllBack exchange CanGoBack) w ds) taken h.below)).1

  pub next_steps : (cl : ClusterView) (pick : Pick) (trail : List Event) → Chained cl pick trail w rs c → AllForth exchange CanGoForth w r
  next_steps cl pick trail h = (let all : AllForth (forth exchange) (AllForth exchange CanGoForth) w (r ∷ drop (c + 1) rs) = subst
      (λ us. AllForth (forth exchange) (AllForth exchange CanGoForth) w us) left h.above in all).0

  pub undo_here : back exchange w r ≡ chain_at w rs (c + 1) c
  undo_here = sym (chain_here (back exchange w r) (set rs c (backed exchange turned w r)) c
      (omega (arith, length-set rs c (backed exchange turned w r), inside))) ∙ undo_chain c

  pub redo_here : forth exchange w r ≡ chain_at w rs c (c + 1)
  redo_here = sym (chain_here (forth exchange w r) (set rs c (forthed exchange turned w r)) (c + 1)
      (omega (arith, length-set rs c (forthed exchange turned w r), inside))) ∙ redo_chain (c + 1)

  pub undone : (cl : ClusterView) (pick : Pick) (trail : List Event) → Chained cl pick trail w rs (c + 1)
      → Chained cl pick trail (back exchange w r) (set rs c (backed exchange turned w r)) c
  undone cl pick trail h =
      let all : AllBack (back exchange) (AllBack exchange CanGoBack) w (take c rs ++ r ∷ []) = subst
      (λ ds. AllBack (back exchange) (AllBack exchange CanGoBack) w ds) taken h.below in
      record {
        count = length-set rs c (backed exchange turned w r) ∙ h.count;
        within = omega (arith, h.within);
        limited = h.limited;
        below = subst (λ ds. AllBack (back exchange) (AllBack exchange CanGoBack) (back exchange w r) ds) (sym (take-set rs c (backed exchange turned w r)))
            (AllBack-early (back exchange) (AllBack exchange CanGoBack) w (take c rs) (r ∷ []) all);
        above = subst (λ us. AllForth (forth exchange) (AllForth exchange CanGoForth) (back exchange w r) us)
            (sym (drop-set rs c (backed exchange turned w r) inside)) (
              back_turns exchange turned exchange_twice CanGoBack CanGoForth back_turns_one forth_turns_one w r
                  (AllBack-late (back exchange) (AllBack exchange CanGoBack) w (take c rs) (r ∷ []) all).1,
              subst (λ v. AllForth (forth exchange) (AllForth exchange CanGoForth) v (drop (c + 1) rs))
                  (sym (forth-back exchange turned exchange_twice w r)) h.above,
            );
        first = undo_chain 0 ∙ h.first;
        each = λ k bound. ap read (undo_chain k) ∙ h.each k bound;
        valid = h.valid;
        small = small_turned cl pick trail rs c r (backed exchange turned w r) inside is (length-backed exchange turned w r) h.small;
      }

  pub redone : (cl : ClusterView) (pick : Pick) (trail : List Event) → Chained cl pick trail w rs c
      → Chained cl pick trail (forth exchange w r) (set rs c (forthed exchange turned w r)) (c + 1)
  redone cl pick trail h =
      let all : AllForth (forth exchange) (AllForth exchange CanGoForth) w (r ∷ drop (c + 1) rs) = subst
      (λ us. AllForth (forth exchange) (AllForth exchange CanGoForth) w us) left h.above in
      record {
        count = length-set rs c (forthed exchange turned w r) ∙ h.count;
        within = omega (arith, inside, h.count);
        limited = h.limited;
        below = subst (λ ds. AllBack (back exchange) (AllBack exchange CanGoBack) (forth exchange w r) ds)
            (sym (take_more_set rs c (forthed exchange turned w r) inside))
            (AllBack-append (back exchange) (AllBack exchange CanGoBack) (forth exchange w r) (take c rs) (forthed exchange turned w r ∷ [])
            (tt, forth_turns exchange turned exchange_twice CanGoBack CanGoForth back_turns_one forth_turns_one w r all.0)
            (subst (λ v. AllBack (back exchange) (AllBack exchange CanGoBack) v (take c rs)) (sym (back-forth exchange turned exchange_twice w r)) h.below));
        above = subst (λ us. AllForth (forth exchange) (AllForth exchange CanGoForth) (forth exchange w r) us)
            (sym (drop-set-lt (c + 1) rs c (forthed exchange turned w r) (omega arith))) all.1;
        first = redo_chain 0 ∙ h.first;
        each = λ k bound. ap read (redo_chain k) ∙ h.each k bound;
        valid = h.valid;
        small = small_turned cl pick trail rs c r (forthed exchange turned w r) inside is (length-forthed exchange turned w r) h.small;
      }

-- a step: r is the record of a new event
module _ (v w : Stored) (rs : List (List Edit)) (c : ℕ) (r : List Edit) (le : c ≤ length rs) (is : LedBy v r w) where
  kept : length (take c rs) ≡ c
  kept = length-take-le c rs le

  all_taken : take (c + 1) (take c rs ++ r ∷ []) ≡ take c rs ++ r ∷ []
  all_taken = take_all (c + 1) (take c rs ++ r ∷ []) (omega (arith, length_push (take c rs) r, kept))

  pub push_chain : (k : ℕ) → k ≤ c → chain_at w (take c rs ++ r ∷ []) (c + 1) k ≡ chain_at v rs c k
  push_chain k below =
      chain_below w (take c rs ++ r ∷ []) (c + 1) k (omega (arith, below))
      ∙ ap (λ ds. backs w (drop k ds)) all_taken
      ∙ ap (backs w) (drop-append-le k (take c rs) (r ∷ []) (omega (arith, below, kept)))
      ∙ back-append (back exchange) w (drop k (take c rs)) (r ∷ [])
      ∙ ap (λ u. backs u (drop k (take c rs))) is.back
      ∙ sym (chain_below v rs c k below)

  pub stepped : (cl : ClusterView) (pick : Pick) (trail : List Event) (e : Event) → Chained cl pick trail v rs c → c < trail_limit
      → read w ≡ step pick (after cl pick (take c trail)) e → IsValid (read w) → length r ≤ limit cl pick (take c trail) e
      → Chained cl pick (take c trail ++ e ∷ []) w (take c rs ++ r ∷ []) (c + 1)
  stepped cl pick trail e h room reads valid few = record {
    count = omega (arith, length_push (take c rs) r, kept, length_push (take c trail) e, trail_kept);
    within = omega (arith, length_push (take c trail) e, trail_kept);
    limited = omega (arith, length_push (take c trail) e, trail_kept, room);
    below = subst (λ ds. AllBack (back exchange) (AllBack exchange CanGoBack) w ds) (sym all_taken)
        (AllBack-append (back exchange) (AllBack exchange CanGoBack) w (take c rs) (r ∷ []) (tt, is.all)
        (subst (λ u. AllBack (back exchange) (AllBack exchange CanGoBack) u (take c rs)) (sym is.back) h.below));
    above = subst (λ us. AllForth (forth exchange) (AllForth exchange CanGoForth) w us)
        (sym (drop_all (c + 1) (take c rs ++ r ∷ []) (omega (arith, length_push (take c rs) r, kept)))) tt;
    first = push_chain 0 (omega arith) ∙ h.first;
    each = λ k bound. elim (cases_lt c k) [
      | inl beyond ↦ last k (omega (arith, bound, beyond, length_push (take c trail) e, trail_kept))
      | inr below ↦ earlier k below
    ];
    valid = each_state cl pick trail c e h.within IsValid h.valid (subst IsValid reads valid);
    small = small_added cl pick (take c trail) (take c rs) c e r trail_kept kept few (small_cut cl pick trail rs c h.within h.small);
  }
    where
      trail_kept : length (take c trail) ≡ c
      trail_kept = length-take-le c trail h.within

      earlier : (k : ℕ) → k ≤ c → read (chain_at w (take c rs ++ r ∷ []) (c + 1) k) ≡ after cl pick (take k (take c trail ++ e ∷ []))
      earlier k below = ap read (push_chain k below) ∙ h.each k (omega (arith, below, h.within)) ∙ sym (state_earlier cl pick trail c e h.within k below)

      last : (k : ℕ) → k ≡ c + 1 → read (chain_at w (take c rs ++ r ∷ []) (c + 1) k) ≡ after cl pick (take k (take c trail ++ e ∷ []))
      last k at =
          ap (λ n. read (chain_at w (take c rs ++ r ∷ []) (c + 1) n)) at
          ∙ ap read (chain_here w (take c rs ++ r ∷ []) (c + 1) (omega (arith, length_push (take c rs) r, kept)))
          ∙ reads
          ∙ sym (state_last cl pick trail c e h.within)
          ∙ ap (λ j. after cl pick (take j (take c trail ++ e ∷ []))) (sym at)

-- what could be made again is dropped
module _ (w : Stored) (rs : List (List Edit)) (c : ℕ) where
  pub cut_chain : (k : ℕ) → k ≤ c → chain_at w (take c rs) c k ≡ chain_at w rs c k
  cut_chain k below =
      chain_below w (take c rs) c k below ∙ ap (λ ds. backs w (drop k ds)) (take-take c c rs (omega arith)) ∙ sym (chain_below w rs c k below)

  pub cut_keeps : (cl : ClusterView) (pick : Pick) (trail : List Event) → Chained cl pick trail w rs c → Chained cl pick (take c trail) w (take c rs) c
  cut_keeps cl pick trail h = record {
    count = omega (arith, rs_kept, trail_kept);
    within = omega (arith, trail_kept);
    limited = omega (arith, trail_kept, h.within, h.limited);
    below = subst (λ ds. AllBack (back exchange) (AllBack exchange CanGoBack) w ds) (sym (take-take c c rs (omega arith))) h.below;
    above = subst (λ us. AllForth (forth exchange) (AllForth exchange CanGoForth) w us) (sym (drop_all c (take c rs) (omega (arith, rs_kept)))) tt;
    first = cut_chain 0 (omega arith) ∙ h.first;
    each = λ k bound. ap read (cut_chain k (omega (arith, bound, trail_kept))) ∙ h.each k (omega (arith, bound, trail_kept, h.within))
        ∙ ap (after cl pick) (shorter k bound);
    valid = λ k bound. subst (λ (es : List Event). IsValid (after cl pick es)) (shorter k bound) (h.valid k (omega (arith, bound, trail_kept, h.within)));
    small = small_cut cl pick trail rs c h.within h.small;
  }
    where
      trail_kept : length (take c trail) ≡ c
      trail_kept = length-take-le c trail h.within

      rs_kept : length (take c rs) ≡ c
      rs_kept = length-take-le c rs (omega (arith, h.count, h.within))

      shorter : (k : ℕ) → k ≤ length (take c trail) → take k trail ≡ take k (take c trail)
      shorter k bound = sym (take-take k c trail (omega (arith, bound, trail_kept)))

-- an undo, as its function meets it: n is the cursor before
module _ (cl : ClusterView) (pick : Pick) (trail : List Event) (w : Stored) (rs : List (List Edit)) (n : ℕ) (r d : List Edit) (v : Stored) (s : List Edit)
    (some : 0 < n) (h : Chained cl pick trail w rs n)
    (is : r ≡ get_or rs (n - 1) d) (words : v ≡ back exchange w r) (edits : s ≡ backed exchange turned w r) where
  place : n ≡ n - 1 + 1
  place = omega (arith, some)

  within_records : n - 1 < length rs
  within_records = omega (arith, some, h.count, h.within)

  read_as : r ≡ get_or rs (n - 1) []
  read_as = is ∙ get_or-any rs (n - 1) d [] within_records

  pub undo_goes : AllBack exchange CanGoBack w r
  undo_goes = last_steps w rs (n - 1) r within_records read_as cl pick trail (subst (λ m. Chained cl pick trail w rs m) place h)

  pub undo_keeps : Chained cl pick trail v (set rs (n - 1) s) (n - 1)
  undo_keeps = rw (words, edits) (undone w rs (n - 1) r within_records read_as cl pick trail (subst (λ m. Chained cl pick trail w rs m) place h))

  pub undo_chains : (k : ℕ) → chain_at v (set rs (n - 1) s) (n - 1) k ≡ chain_at w rs n k
  undo_chains k = (λ i. chain_at (words i) (set rs (n - 1) (edits i)) (n - 1) k) ∙ undo_chain w rs (n - 1) r within_records read_as k
      ∙ sym (ap (λ m. chain_at w rs m k) place)

  pub undo_words : v ≡ chain_at w rs n (n - 1)
  undo_words = words ∙ undo_here w rs (n - 1) r within_records read_as ∙ sym (ap (λ m. chain_at w rs m (n - 1)) place)

-- a redo: n is the cursor before
module _ (cl : ClusterView) (pick : Pick) (trail : List Event) (w : Stored) (rs : List (List Edit)) (n : ℕ) (r d : List Edit) (v : Stored) (s : List Edit)
    (some : n < length rs) (h : Chained cl pick trail w rs n)
    (is : r ≡ get_or rs n d) (words : v ≡ forth exchange w r) (edits : s ≡ forthed exchange turned w r) where
  redo_read : r ≡ get_or rs n []
  redo_read = is ∙ get_or-any rs n d [] some

  pub redo_goes : AllForth exchange CanGoForth w r
  redo_goes = next_steps w rs n r some redo_read cl pick trail h

  pub redo_keeps : Chained cl pick trail v (set rs n s) (n + 1)
  redo_keeps = rw (words, edits) (redone w rs n r some redo_read cl pick trail h)

  pub redo_chains : (k : ℕ) → chain_at v (set rs n s) (n + 1) k ≡ chain_at w rs n k
  redo_chains k = (λ i. chain_at (words i) (set rs n (edits i)) (n + 1) k) ∙ redo_chain w rs n r some redo_read k

  pub redo_words : v ≡ chain_at w rs n (n + 1)
  redo_words = words ∙ redo_here w rs n r some redo_read
