-- The walk along an application's list, from one place to the next.
use Rattle.std.proofs.Common.{◌≡◌, ◌≤◌, ◌+◌, ◌==◌, ℕ, Bool, true, false, cond, Option, Some, List, [], ◌∷◌, ◌++◌, length, drop, reverse, filter, slice_get, refl, ap, sym, arith, ◌∙◌}
use Rattle.std.proofs.lemmas.List.{at_drop_all, at_drop_more}
use Rattle.std.proofs.lemmas.Option.{slice_get_within, get_or_from_slice_get}
use Rattle.rh_model.specs.declared.node.App.{App}
use Rattle.rh_model.specs.declared.node.Node.{Node}
use Rattle.rh_otp_model.specs.declared.message.Message.TheVariants.{Weight}
use Rattle.rh_otp_model.specs.Own.{OwnView, WrittenView}
use Rattle.rh_otp_dist.specs.declared.state.Stand.TheVariants.{ForAnyStart}
use Rattle.rh_otp_dist.specs.State.{TurnView, is_among}
use Rattle.rh_otp_dist.specs.Views.{AttemptView}
use Rattle.rh_otp_dist.specs.Sending.{send_to}
use Rattle.rh_otp_dist.specs.Choosing.{places_of, cached_weight, wait, check_running, tell_weight, weigh, first_weighing, ask_weights, at_tuple, at_node, find_from, behind_place, find_start_node}

told_once : (b : Bool) (a : App) (w : ℕ) (n : Node) (t : TurnView) → (cond b t (send_to n (Weight a w t.here.node) t)).own ≡ t.own
told_once true a w n t = refl
told_once false a w n t = refl

-- what a node tells of its weight changes nothing of its configuration
pub told_own : (a : App) (w : ℕ) (nodes : List Node) (t : TurnView) → (tell_weight a w nodes t).own ≡ t.own
told_own a w [] t = refl
told_own a w (n ∷ nodes) t =
    told_own a w nodes (cond (n.0 == t.here.node.0) t (send_to n (Weight a w t.here.node) t)) ∙ told_once (n.0 == t.here.node.0) a w n t

-- behind the last place nothing is left but to wait
pub past_end : (own : OwnView) (attempt : AttemptView) (candidates : List Node) (place : ℕ) (t : TurnView)
    → length (places_of own attempt.app) ≤ place → behind_place own attempt candidates place t ≡ wait (ForAnyStart attempt) t
past_end own attempt candidates place t over =
    at_drop_all (λ places. find_from attempt candidates (place + 1) places t) (places_of own attempt.app) (place + 1) (omega arith)

-- what it told of its weight, said by equal words
pub told_alike : (a b : App) (w v : ℕ) (ns ms : List Node) (t u : TurnView)
    → u ≡ tell_weight a w ns t → a ≡ b → w ≡ v → ns ≡ ms → u ≡ tell_weight b v ms t
told_alike a b w v ns ms t u told app weight nodes =
    told ∙ ap (λ (x : App). tell_weight x w ns t) app ∙ ap (λ x. tell_weight b x ns t) weight ∙ ap (λ (xs : List Node). tell_weight b v xs t) nodes

-- its own answer is the first one
pub first_answer : (before answers : List (ℕ × Node)) (w v : ℕ) (n m : Node)
    → answers ≡ before ++ (w, n) ∷ [] → before ≡ [] → w ≡ v → n ≡ m → answers ≡ (v, m) ∷ []
first_answer before answers w v n m pushed none weight node =
    pushed ∙ ap (λ (xs : List (ℕ × Node)). xs ++ (w, n) ∷ []) none ∙ ap (λ x. (x, n) ∷ []) weight ∙ ap (λ (x : Node). (v, x) ∷ []) node

-- the weights are asked for, and the walk goes on by the configuration as it was
pub asked : (attempt : AttemptView) (place : ℕ) (candidates : List Node) (t u : TurnView) (answers : List (ℕ × Node)) (nodes : List Node)
    → u ≡ tell_weight attempt.app (cached_weight t attempt.app) (reverse candidates) t
    → answers ≡ (cached_weight t attempt.app, t.here.node) ∷ [] → nodes ≡ candidates
    → weigh (behind_place u.own attempt candidates place)
    (record { attempt = attempt; place = place; candidates = candidates; answers = answers; nodes = nodes }) u
    ≡ ask_weights (behind_place t.own attempt candidates place) attempt place candidates t
asked attempt place candidates t u answers nodes told answered same =
    let asked : TurnView = tell_weight attempt.app (cached_weight t attempt.app) (reverse candidates) t in
    ap (λ (a : List (ℕ × Node)). weigh (behind_place u.own attempt candidates place)
    (record { attempt = attempt; place = place; candidates = candidates; answers = a; nodes = nodes }) u) answered
    ∙ ap (λ (ns : List Node). weigh (behind_place u.own attempt candidates place)
    (record { attempt = attempt; place = place; candidates = candidates; answers = (cached_weight t attempt.app, t.here.node) ∷ []; nodes = ns }) u) same
    ∙ ap (λ (v : TurnView). weigh (behind_place v.own attempt candidates place) (first_weighing attempt place candidates t) v) told
    ∙ ap (λ (own : OwnView). weigh (behind_place own attempt candidates place) (first_weighing attempt place candidates t) asked)
    (told_own attempt.app (cached_weight t attempt.app) (reverse candidates) t)

-- the walk at a tuple
pub tuple_at : (attempt : AttemptView) (candidates : List Node) (place : ℕ) (t : TurnView) (w : WrittenView) (runner : Option Node)
    → slice_get (places_of t.own attempt.app) place ≡ Some w → w.is_tuple ≡ true
    → runner ≡ check_running t.state attempt.app (filter (λ n. is_among n candidates) w.nodes)
    → at_tuple (behind_place t.own attempt candidates place) attempt place candidates runner t ≡ find_start_node attempt candidates place t
unfolding find_start_node
tuple_at attempt candidates place t w runner there tuple is =
    let goes_on : TurnView → TurnView = behind_place t.own attempt candidates place in
    let at : Option Node → TurnView = λ r. at_tuple goes_on attempt place candidates r t in
    let places : List WrittenView = places_of t.own attempt.app in
    let found : Option Node = check_running t.state attempt.app (filter (λ n. is_among n candidates) w.nodes) in
    ap at is
    ∙ ap (λ b. cond b (at found) (at_node goes_on attempt candidates w.nodes t)) (sym tuple)
    ∙ ap (λ (x : WrittenView). find_from attempt candidates place (x ∷ drop (place + 1) places) t) (sym (get_or_from_slice_get places place w w there))
    ∙ sym (at_drop_more (λ (ws : List WrittenView). find_from attempt candidates place ws t) places place w (slice_get_within places place w there))
