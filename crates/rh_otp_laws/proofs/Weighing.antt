-- Where a node isn't of the application's list, no weight makes its dist_ac tell a start.
use Rattle.std.proofs.Common.{◌≡◌, ◌⊎◌, ◌++◌, ◌+◌, ◌==◌, ℕ, zero, suc, Bool, true, false, cond, not, List, [], ◌∷◌, filter, reverse, drop, slice_get, unwrap_or, Option, Some, None, refl, sym, ap, subst, ◌∙◌, inl, inr}
use Rattle.std.specs.List.{list_any, flat_map}
use Rattle.std.specs.Option.{option_map}
use Rattle.std.proofs.lemmas.Bool.{false≢true, eqb-true, and_parts, or_parts, or_left, eq-eqb, false_from_ne_true}
use Rattle.std.proofs.lemmas.Grind.{flat_map-append}
use Rattle.std.proofs.lemmas.List.{append-nil, reverse-append}
use Rattle.std.proofs.lemmas.List.Folds.{list_any-append}
use Rattle.std.proofs.lemmas.Option.{none-some, same_Some}
use Rattle.rh_model.specs.ClusterView.{ClusterView, is_in}
use Rattle.rh_model.specs.declared.node.App.{App}
use Rattle.rh_model.specs.declared.node.Node.{Node}
use Rattle.rh_otp_model.specs.declared.message.Message.{Message}
use Rattle.rh_otp_model.specs.declared.message.Message.TheVariants as message
use Rattle.rh_otp_model.specs.declared.output.Output.TheVariants as output
use Rattle.rh_otp_model.specs.declared.process.Here.{Here}
use Rattle.rh_otp_model.specs.Own.{OwnView, WrittenView}
use Rattle.rh_otp_dist.specs.declared.state.Stand.TheVariants as stand
use Rattle.rh_otp_dist.specs.Attempts.{runs_elsewhere}
use Rattle.rh_otp_dist.specs.Choosing as choosing
use Rattle.rh_otp_dist.specs.Sending.{send_to, monitor, demonitor}
use Rattle.rh_otp_dist.specs.State.{TurnView, DistView, is_among, standing_of}
use Rattle.rh_otp_dist.specs.Views.{AttemptView, WeighingView}
use Rattle.rh_otp_dist.specs.Waiting.{weighed, weighed_by}
use Rattle.rh_otp_laws.specs.Starting.{TellsNoStart, StartsWhereItMay}
use Rattle.rh_otp_laws.proofs.Lists.{IsAt, behind_it, filtered}
use Rattle.rh_otp_laws.proofs.Starting.{nothing_told, one_told, both_told, elsewhere_tells, appl_tells, distributed_tells}

-- ---- a node that is in no place of a list

abbrev Apart : Node → List WrittenView → Type 0
Apart n [] = Unit {0}
Apart n (w ∷ places) = (is_in n w.nodes ≡ false) × Apart n places

abbrev nodes_of : WrittenView → List Node
nodes_of w = w.nodes

apart_of : (n : Node) (places : List WrittenView) → is_in n (flat_map nodes_of (reverse places)) ≡ false → Apart n places
apart_of n [] away = tt
apart_of n (w ∷ places) away =
    let p : Node → Bool = λ (m : Node). n.0 == m.0 in
    let before : List Node = flat_map nodes_of (reverse places) in
    let split : flat_map nodes_of (reverse (w ∷ places)) ≡ before ++ (w.nodes ++ []) =
    ap (flat_map nodes_of) (reverse-append (w ∷ []) places) ∙ flat_map-append nodes_of (reverse places) (w ∷ []) in
    let both : (list_any p before ≡ false) × (list_any p (w.nodes ++ []) ≡ false) =
    or_parts (list_any p before) (list_any p (w.nodes ++ []))
    (sym (list_any-append p before (w.nodes ++ [])) ∙ ap (list_any p) (sym split) ∙ away) in
    (ap (list_any p) (sym (append-nil w.nodes)) ∙ both.1, apart_of n places both.0)

apart_behind : (n : Node) (k : ℕ) (places : List WrittenView) → Apart n places → Apart n (drop k places)
apart_behind n zero places apart = apart
apart_behind n (suc k) [] apart = tt
apart_behind n (suc k) (w ∷ places) apart = apart_behind n k places apart.1

apart_at : (n : Node) (places : List WrittenView) (k : ℕ) → Apart n places
    → is_in n (unwrap_or (option_map nodes_of (slice_get places k)) []) ≡ false
apart_at n [] k apart = refl
apart_at n (w ∷ places) zero apart = apart.0
apart_at n (w ∷ places) (suc k) apart = apart_at n places k apart.1

-- one of these nodes isn't it
other_than : (n m : Node) (nodes : List Node) → is_in n nodes ≡ false → is_in m nodes ≡ true → (m.0 == n.0) ≡ false
other_than n m nodes away among =
    false_from_ne_true (m.0 == n.0) (λ is. false≢true (sym away ∙ (λ i. list_any (λ (k : Node). sym (eqb-true m.0 n.0 is) i == k.0) nodes) ∙ among))

-- ---- the lightest is one of them

lighter_is : (c : ClusterView) (best : Option (ℕ × Node)) (b : ℕ × Node)
    → (choosing.lighter c best b ≡ b) ⊎ (best ≡ Some (choosing.lighter c best b))
lighter_is c None b = inl refl
lighter_is c (Some a) b = by (choosing.is_lighter c b a)
  where
    by : (is : Bool) → (cond is b a ≡ b) ⊎ (Some a ≡ Some (cond is b a))
    by true = inl refl
    by false = inr refl

lightest_is : (c : ClusterView) (best : Option (ℕ × Node)) (answers : List (ℕ × Node)) (a : ℕ × Node)
    → choosing.lightest_of c best answers ≡ Some a
    → (best ≡ Some a) ⊎ IsAt a answers
lightest_is c best [] a is = inl is
lightest_is c best (b ∷ answers) a is = by (lightest_is c (Some (choosing.lighter c best b)) answers a is) (lighter_is c best b)
  where
    by : (Some (choosing.lighter c best b) ≡ Some a) ⊎ IsAt a answers
        → (choosing.lighter c best b ≡ b) ⊎ (best ≡ Some (choosing.lighter c best b)) → (best ≡ Some a) ⊎ IsAt a (b ∷ answers)
    by (inr at) which = inr (behind_it a b answers at)
    by (inl same) (inl is_b) = inr (0, ap Some (sym is_b) ∙ same)
    by (inl same) (inr is_best) = inl (is_best ∙ same)

chosen_is : (c : ClusterView) (d : DistView) (group : List Node) (answers : List (ℕ × Node)) (n : Node)
    → choosing.chosen_of c d group answers ≡ Some n → is_in n group ≡ true
chosen_is c d group answers n is = by (choosing.lightest_of c None (filter (choosing.is_eligible d group) answers)) refl is
  where
    by : (o : Option (ℕ × Node)) → choosing.lightest_of c None (filter (choosing.is_eligible d group) answers) ≡ o
        → option_map (λ (answer : ℕ × Node). answer.1) o ≡ Some n → is_in n group ≡ true
    by None lightest found = absurd (none-some n found)
    by (Some a) lightest found = go (lightest_is c None (filter (choosing.is_eligible d group) answers) a lightest)
      where
        go : (None ≡ Some a) ⊎ IsAt a (filter (choosing.is_eligible d group) answers) → is_in n group ≡ true
        go (inl none) = absurd (none-some a none)
        go (inr at) =
            let kept : IsAt a answers × (choosing.is_eligible d group a ≡ true) = filtered (choosing.is_eligible d group) a answers at in
            ap (λ (m : Node). is_in m group) (sym (same_Some a.1 n found)) ∙ (and_parts (is_in a.1 group) (is_in a.1 d.known) kept.1).0

-- ---- what is told

-- a node that isn't this one is to start it
start_by : (attempt : AttemptView) (n : Node) (t : TurnView) (here runs : Bool) → here ≡ false
    → TellsNoStart t (cond here (choosing.start_here attempt t)
    (cond runs (runs_elsewhere attempt n t) (choosing.wait (stand.ForStart attempt n) (monitor n t))))
start_by attempt n t true runs other = absurd (false≢true (sym other))
start_by attempt n t false true other = elsewhere_tells attempt n t
start_by attempt n t false false other =
    let watching : TurnView = monitor n t in
    both_told t watching _ (one_told (output.Monitor n) t tt) (nothing_told watching (choosing.wait (stand.ForStart attempt n) watching) refl)

other_starts : (attempt : AttemptView) (n : Node) (t : TurnView) → (n.0 == t.here.node.0) ≡ false
    → TellsNoStart t (choosing.is_to_start attempt n t)
unfolding choosing.is_to_start
other_starts attempt n t other =
    start_by attempt n t (n.0 == t.here.node.0) (choosing.is_node n (choosing.runs_at (standing_of t.state attempt.app))) other

-- ---- along the list

-- the node of a turn is in no place of the application's list, nor in any of these
abbrev IsApart : App → List WrittenView → TurnView → Type 0
IsApart a places t = Apart t.here.node (choosing.places_of t.own a) × Apart t.here.node places

abbrev IsSilent : App → List WrittenView → (TurnView → TurnView) → Type 0
IsSilent a places goes_on = (t : TurnView) → IsApart a places t → TellsNoStart t (goes_on t)

chosen_tells : (a : App) (places : List WrittenView) (goes_on : TurnView → TurnView) (attempt : AttemptView) (o : Option Node) (t : TurnView)
    → IsSilent a places goes_on → IsApart a places t → ((n : Node) → o ≡ Some n → (n.0 == t.here.node.0) ≡ false)
    → TellsNoStart t (choosing.chosen_or goes_on attempt o t)
chosen_tells a places goes_on attempt None t silent apart other = silent t apart
chosen_tells a places goes_on attempt (Some n) t silent apart other = other_starts attempt n t (other n refl)

weighs_with : (places : List WrittenView) (goes_on : TurnView → TurnView) (w : WeighingView) (answers : List (ℕ × Node)) (left : List Node) (t : TurnView)
    → IsSilent w.attempt.app places goes_on → IsApart w.attempt.app places t → TellsNoStart t (choosing.weigh_with goes_on w answers left t)
weighs_with places goes_on w answers [] t silent apart =
    let group : List Node = choosing.group_at t.own w.attempt.app w.place in
    let away : is_in t.here.node group ≡ false = apart_at t.here.node (choosing.places_of t.own w.attempt.app) w.place apart.0 in
    chosen_tells w.attempt.app places goes_on w.attempt (choosing.chosen_of t.cluster t.state group answers) t silent apart
    (λ n is. other_than t.here.node n group away (chosen_is t.cluster t.state group answers n is))
weighs_with places goes_on w answers (n ∷ nodes) t silent apart =
    let watching : TurnView = monitor n t in
    both_told t watching _ (one_told (output.Monitor n) t tt)
    (nothing_told watching (choosing.wait (stand.ForWeight (record w { answers = answers; nodes = n ∷ nodes })) watching) refl)

weighs : (places : List WrittenView) (goes_on : TurnView → TurnView) (w : WeighingView) (t : TurnView)
    → IsSilent w.attempt.app places goes_on → IsApart w.attempt.app places t → TellsNoStart t (choosing.weigh goes_on w t)
weighs places goes_on w t silent apart =
    weighs_with places goes_on w (choosing.answers_from t.here.node t.state w.attempt.app w.answers w.nodes)
    (choosing.left_of t.here.node t.state w.attempt.app w.nodes) t silent apart

-- candidates are told the node's weight, which is no start
record IsToldWeight (t u : TurnView) : Type 0 where
  tells : TellsNoStart t u
  own : u.own ≡ t.own
  here : u.here ≡ t.here

weight_to : (b : Bool) (n : Node) (m : Message) (t : TurnView) → IsToldWeight t (cond b t (send_to n m t))
weight_to true n m t = record { tells = nothing_told t t refl; own = refl; here = refl }
weight_to false n m t = record { tells = one_told (output.ToDist n m) t tt; own = refl; here = refl }

tells_weight : (a : App) (weight : ℕ) (nodes : List Node) (t : TurnView) → IsToldWeight t (choosing.tell_weight a weight nodes t)
tells_weight a weight [] t = record { tells = nothing_told t t refl; own = refl; here = refl }
tells_weight a weight (n ∷ nodes) t =
    let one : IsToldWeight t (cond (n.0 == t.here.node.0) t (send_to n (message.Weight a weight t.here.node) t)) =
    weight_to (n.0 == t.here.node.0) n (message.Weight a weight t.here.node) t in
    let more : IsToldWeight (cond (n.0 == t.here.node.0) t (send_to n (message.Weight a weight t.here.node) t))
    (choosing.tell_weight a weight nodes (cond (n.0 == t.here.node.0) t (send_to n (message.Weight a weight t.here.node) t))) =
    tells_weight a weight nodes (cond (n.0 == t.here.node.0) t (send_to n (message.Weight a weight t.here.node) t)) in
    record { tells = both_told t _ _ one.tells more.tells; own = more.own ∙ one.own; here = more.here ∙ one.here }

still_apart : (a : App) (places : List WrittenView) (t u : TurnView) → IsToldWeight t u → IsApart a places t → IsApart a places u
still_apart a places t u told apart = (
  subst (λ (h : Here). Apart h.node (choosing.places_of u.own a)) (sym told.here)
      (subst (λ (own : OwnView). Apart t.here.node (choosing.places_of own a)) (sym told.own) apart.0),
  subst (λ (h : Here). Apart h.node places) (sym told.here) apart.1,
)

asks_weights : (places : List WrittenView) (goes_on : TurnView → TurnView) (attempt : AttemptView) (place : ℕ) (candidates : List Node) (t : TurnView)
    → IsSilent attempt.app places goes_on → IsApart attempt.app places t
    → TellsNoStart t (choosing.ask_weights goes_on attempt place candidates t)
asks_weights places goes_on attempt place candidates t silent apart =
    let u : TurnView = choosing.tell_weight attempt.app (choosing.cached_weight t attempt.app) (reverse candidates) t in
    let told : IsToldWeight t u = tells_weight attempt.app (choosing.cached_weight t attempt.app) (reverse candidates) t in
    both_told t u _ told.tells
    (weighs places goes_on (choosing.first_weighing attempt place candidates t) u silent (still_apart attempt.app places t u told apart))

at_tuple_tells : (places : List WrittenView) (goes_on : TurnView → TurnView) (attempt : AttemptView) (place : ℕ) (candidates : List Node)
    (runner : Option Node) (t : TurnView) → IsSilent attempt.app places goes_on → IsApart attempt.app places t
    → TellsNoStart t (choosing.at_tuple goes_on attempt place candidates runner t)
at_tuple_tells places goes_on attempt place candidates (Some n) t silent apart = elsewhere_tells attempt n t
at_tuple_tells places goes_on attempt place candidates None t silent apart =
    asks_weights places goes_on attempt place candidates t silent apart

at_node_by : (goes_on : TurnView → TurnView) (attempt : AttemptView) (n : Node) (t : TurnView) (passed runs : Bool)
    → TellsNoStart t (goes_on t)
    → (n.0 == t.here.node.0) ≡ false
    → TellsNoStart t (cond passed (goes_on t) (cond runs (runs_elsewhere attempt n t) (choosing.is_to_start attempt n t)))
at_node_by goes_on attempt n t true runs goes other = goes
at_node_by goes_on attempt n t false true goes other = elsewhere_tells attempt n t
at_node_by goes_on attempt n t false false goes other = other_starts attempt n t other

at_node_tells : (places : List WrittenView) (goes_on : TurnView → TurnView) (attempt : AttemptView) (candidates nodes : List Node) (t : TurnView)
    → IsSilent attempt.app places goes_on → IsApart attempt.app places t → is_in t.here.node nodes ≡ false
    → TellsNoStart t (choosing.at_node goes_on attempt candidates nodes t)
at_node_tells places goes_on attempt candidates [] t silent apart away = silent t apart
at_node_tells places goes_on attempt candidates (n ∷ nodes) t silent apart away =
    at_node_by goes_on attempt n t (not (is_among n candidates)) (choosing.runs_there t.state attempt.app n) (silent t apart)
    (other_than t.here.node n (n ∷ nodes) away (or_left (n.0 == n.0) (is_in n nodes) (eq-eqb n.0 n.0 refl)))

place_by : (b : Bool) (t x y : TurnView) → TellsNoStart t x → TellsNoStart t y → TellsNoStart t (cond b x y)
place_by true t x y p q = p
place_by false t x y p q = q

finds : (attempt : AttemptView) (candidates : List Node) (place : ℕ) (places : List WrittenView)
    → IsSilent attempt.app places (choosing.find_from attempt candidates place places)
finds attempt candidates place [] t apart = nothing_told t (choosing.wait (stand.ForAnyStart attempt) t) refl
finds attempt candidates place (w ∷ places) t apart =
    let goes_on : TurnView → TurnView = choosing.find_from attempt candidates (place + 1) places in
    let behind : IsApart attempt.app places t = (apart.0, apart.1.1) in
    place_by w.is_tuple t _ _
    (at_tuple_tells places goes_on attempt place candidates
    (choosing.check_running t.state attempt.app (filter (λ (n : Node). is_among n candidates) w.nodes)) t
    (finds attempt candidates (place + 1) places) behind)
    (at_node_tells places goes_on attempt candidates w.nodes t (finds attempt candidates (place + 1) places) behind apart.1.0)

-- ---- what a weight leads to

-- the places behind that of a tuple
abbrev rest_of : OwnView → WeighingView → List WrittenView
rest_of own w = drop (w.place + 1) (choosing.places_of own w.attempt.app)

weighed_tells : (w : WeighingView) (n : Node) (nodes : List Node) (m : Message) (t : TurnView) → IsApart w.attempt.app (rest_of t.own w) t
    → TellsNoStart t (weighed w n nodes m t)
weighed_tells w n nodes (message.Weight a weight k) t apart =
    weighs (rest_of t.own w) (choosing.behind_place t.own w.attempt w.candidates w.place)
    (record w { answers = w.answers ++ (weight, n) ∷ []; nodes = nodes }) t
    (finds w.attempt w.candidates (w.place + 1) (rest_of t.own w)) apart
weighed_tells w n nodes m t apart =
    weighs (rest_of t.own w) (choosing.behind_place t.own w.attempt w.candidates w.place) (record w { nodes = nodes }) t
    (finds w.attempt w.candidates (w.place + 1) (rest_of t.own w)) apart

weighed_by_tells : (w : WeighingView) (nodes : List Node) (m : Message) (t : TurnView) → IsApart w.attempt.app (rest_of t.own w) t
    → TellsNoStart t (weighed_by w nodes m t)
weighed_by_tells w [] m t apart =
    weighs (rest_of t.own w) (choosing.behind_place t.own w.attempt w.candidates w.place) w t
    (finds w.attempt w.candidates (w.place + 1) (rest_of t.own w)) apart
weighed_by_tells w (n ∷ nodes) m t apart =
    both_told t (demonitor n t) _ (nothing_told t (demonitor n t) refl) (weighed_tells w n nodes m (demonitor n t) apart)

-- the node isn't of the list, and no weight makes it start the application
pub weighing_tells : (w : WeighingView) (nodes : List Node) (m : Message) (t : TurnView)
    → is_among t.here.node (choosing.backwards t.own w.attempt.app) ≡ false → TellsNoStart t (weighed_by w nodes m t)
weighing_tells w nodes m t away =
    let apart : Apart t.here.node (choosing.places_of t.own w.attempt.app) =
    apart_of t.here.node (choosing.places_of t.own w.attempt.app) away in
    weighed_by_tells w nodes m t (apart, apart_behind t.here.node (w.place + 1) (choosing.places_of t.own w.attempt.app) apart)

pub starts_where_it_may : StartsWhereItMay
starts_where_it_may = record { first = appl_tells; again = distributed_tells; weighing = weighing_tells }
