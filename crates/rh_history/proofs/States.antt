-- The states that records lead to, through a step, an undo and a redo.
use Rattle.std.proofs.Common.{◌≡◌, ℕ, suc, ◌+◌, ◌<◌, ◌≤◌, List, [], ◌∷◌, ◌++◌, length, take, drop, get_or, set, refl, sym, ap, ◌∙◌, arith}
use Rattle.std.proofs.lemmas.List.{length-take-le, length-drop, length-append, length-set, take_more, take_more_set, take-set, drop_more, drop-set, drop-set-lt, drop_all, take_all, take_at, get_or_at, append_assoc, length_push, set-set, set-get_or}
use Rattle.rh_base.specs.Exchanges.{back, backed, forth, forthed}
use Rattle.rh_base.proofs.Exchanges.{back-append, forth-back, back-forth}
use Rattle.rh_history.specs.declared.change.Change.{Change}
use Rattle.rh_history.specs.Change.{put, had}
use Rattle.rh_history.specs.States.{befores, behinds, states_of}

-- ---- one change, twice
pub put_twice : {T : Type 0} (w : List T) (c : Change T) → put (put w c) (had w c) ≡ w
put_twice w c = set-set w c.at c.value (get_or w c.at c.value) ∙ set-get_or w c.at c.value

-- ---- how many cells and states
pub length-back : {T : Type 0} (w : List T) (cs : List (Change T)) → length (back put w cs) ≡ length w
length-back w [] = refl
length-back w (c ∷ cs) = length-set (back put w cs) c.at c.value ∙ length-back w cs

pub length-forth : {T : Type 0} (w : List T) (cs : List (Change T)) → length (forth put w cs) ≡ length w
length-forth w [] = refl
length-forth w (c ∷ cs) = length-forth (put w c) cs ∙ length-set w c.at c.value

length-befores : {W C : Type 0} (undo : W → C → W) (w : W) (cs : List C) → length (befores undo w cs) ≡ length cs
length-befores undo w [] = refl
length-befores undo w (c ∷ cs) = ap (λ n. suc n) (length-befores undo w cs)

length-behinds : {W C : Type 0} (redo : W → C → W) (w : W) (cs : List C) → length (behinds redo w cs) ≡ length cs
length-behinds redo w [] = refl
length-behinds redo w (c ∷ cs) = ap (λ n. suc n) (length-behinds redo (redo w c) cs)

befores_push : {W C : Type 0} (undo : W → C → W) (w : W) (cs : List C) (c : C) → befores undo w (cs ++ c ∷ []) ≡ befores undo (undo w c) cs ++ undo w c ∷ []
befores_push undo w [] c = refl
befores_push undo w (d ∷ cs) c = λ i. back-append undo w (d ∷ cs) (c ∷ []) i ∷ befores_push undo w cs c i

module _ {T : Type 0} (w : List T) (rs : List (List (Change T))) (c : ℕ) where
  module _ (within : c ≤ length rs) where
    below : length (befores (back put) w (take c rs)) ≡ c
    below = length-befores (back put) w (take c rs) ∙ length-take-le c rs within

    pub length-states : length (states_of w rs c) ≡ length rs + 1
    unfolding states_of
    length-states = omega (
      arith,
      length-append (befores (back put) w (take c rs)) (w ∷ behinds (forth put) w (drop c rs)),
      below,
      length-behinds (forth put) w (drop c rs),
      length-drop c rs,
      within,
    )

    pub state_here : (d : List T) → get_or (states_of w rs c) c d ≡ w
    unfolding states_of
    state_here d = get_or_at (befores (back put) w (take c rs)) w (behinds (forth put) w (drop c rs)) d c below

    pub states_before : take (c + 1) (states_of w rs c) ≡ befores (back put) w (take c rs) ++ w ∷ []
    unfolding states_of
    states_before =
        ap (take (c + 1)) (sym (append_assoc (befores (back put) w (take c rs)) (w ∷ []) (behinds (forth put) w (drop c rs))))
        ∙ take_at (befores (back put) w (take c rs) ++ w ∷ []) (behinds (forth put) w (drop c rs)) (c + 1)
        (length_push (befores (back put) w (take c rs)) w ∙ ap (λ n. n + 1) below)

  -- r is the record behind so many steps
  module _ (r : List (Change T)) (inside : c < length rs) (is : r ≡ get_or rs c []) where
    taken : take (c + 1) rs ≡ take c rs ++ r ∷ []
    taken = take_more rs c [] inside ∙ ap (λ x. take c rs ++ x ∷ []) (sym is)

    left : drop c rs ≡ r ∷ drop (c + 1) rs
    left = drop_more rs c [] inside ∙ ap (λ x. x ∷ drop (c + 1) rs) (sym is)

    -- an undo leaves the states
    pub undo_states : states_of (back put w r) (set rs c (backed put had w r)) c ≡ states_of w rs (c + 1)
    unfolding states_of
    undo_states =
        let v : List T = back put w r in
        let s : List (Change T) = backed put had w r in
        let rest : List (List (Change T)) = drop (c + 1) rs in
        (λ i. befores (back put) v (take-set rs c s i) ++ v ∷ behinds (forth put) v (drop-set rs c s inside i))
        ∙ ap (λ u. befores (back put) v (take c rs) ++ v ∷ u ∷ behinds (forth put) u rest) (forth-back put had put_twice w r)
        ∙ sym (append_assoc (befores (back put) v (take c rs)) (v ∷ []) (w ∷ behinds (forth put) w rest))
        ∙ ap (λ us. us ++ w ∷ behinds (forth put) w rest) (sym (ap (befores (back put) w) taken ∙ befores_push (back put) w (take c rs) r))

    -- so does a redo
    pub redo_states : states_of (forth put w r) (set rs c (forthed put had w r)) (c + 1) ≡ states_of w rs c
    unfolding states_of
    redo_states =
        let v : List T = forth put w r in
        let s : List (Change T) = forthed put had w r in
        let rest : List (List (Change T)) = drop (c + 1) rs in
        (λ i. befores (back put) v (take_more_set rs c s inside i) ++ v ∷ behinds (forth put) v (drop-set-lt (c + 1) rs c s (omega arith) i))
        ∙ ap (λ us. us ++ v ∷ behinds (forth put) v rest) (befores_push (back put) v (take c rs) s)
        ∙ ap (λ u. (befores (back put) u (take c rs) ++ u ∷ []) ++ v ∷ behinds (forth put) v rest) (back-forth put had put_twice w r)
        ∙ append_assoc (befores (back put) w (take c rs)) (w ∷ []) (v ∷ behinds (forth put) v rest)
        ∙ ap (λ us. befores (back put) w (take c rs) ++ w ∷ behinds (forth put) w us) (sym left)

-- a step: r is the record of it
pub commit_states : {T : Type 0} (w : List T) (rs : List (List (Change T))) (c : ℕ) (r : List (Change T)) → c ≤ length rs
    → states_of w (take c rs ++ r ∷ []) (c + 1) ≡ take (c + 1) (states_of (back put w r) rs c) ++ w ∷ []
unfolding states_of
commit_states w rs c r within =
    let kept : length (take c rs) ≡ c = length-take-le c rs within in
    let long : length (take c rs ++ r ∷ []) ≤ c + 1 = omega (arith, length_push (take c rs) r, kept) in
    (λ i. befores (back put) w (take_all (c + 1) (take c rs ++ r ∷ []) long i) ++ w
    ∷ behinds (forth put) w (drop_all (c + 1) (take c rs ++ r ∷ []) long i))
    ∙ ap (λ us. us ++ w ∷ []) (befores_push (back put) w (take c rs) r)
    ∙ ap (λ us. us ++ w ∷ []) (sym (states_before (back put w r) rs c within))
