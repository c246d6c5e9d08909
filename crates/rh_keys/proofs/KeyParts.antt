-- The parts of a key, each of which tells what it is of.
use Rattle.std.proofs.Common.{◌≡◌, ◌<◌, ◌≤◌, ◌+◌, ◌-◌, ◌++◌, ℕ, Bool, true, false, cond, nat_eq, List, [], ◌∷◌, map, flat_map, Some, None, All, refl, sym, ap, ◌∙◌, append_assoc, arith}
use Rattle.std.proofs.lemmas.List.Elements.{All-nil, All-cons}
use Rattle.rh_model.specs.ClusterView.{ClusterView, numbered, app_numbered}
use Rattle.rh_model.specs.declared.node.Node.{Node}
use Rattle.rh_model.specs.declared.node.App.{App}
use Rattle.rh_model.specs.declared.settings.Restart.{Restart}
use Rattle.rh_model.specs.declared.settings.Restart.TheVariants.{Permanent, Transient, Temporary}
use Rattle.rh_state.specs.declared.status.Mode.{Mode}
use Rattle.rh_state.specs.declared.status.Mode.TheVariants.{Down, Waiting, Up}
use Rattle.rh_state.specs.declared.status.Standing.{Standing}
use Rattle.rh_state.specs.declared.status.Standing.TheVariants as standing
use Rattle.rh_state.specs.declared.status.Timer.{Timer}
use Rattle.rh_state.specs.declared.status.Timer.TheVariants as timer
use Rattle.rh_state.specs.Numbers.{apps_of}
use Rattle.rh_state.specs.StateView.{StateView, mode_of, running_at, waiting_at, restart_of, is_allowed, standing_of}
use Rattle.rh_keys.specs.Shifts.{seen_from}
use Rattle.rh_keys.specs.Packed.{pair_number, packed_pair, packed_node}
use Rattle.rh_keys.specs.Keys.{mode_number, restart_number, permission_number, standing_numbers, timer_numbers, app_number, pair_numbers, node_numbers, app_numbers}

-- ---- the first numbers of a list
pub first_one : (a b : ℕ) (r t : List ℕ) → a ∷ r ≡ b ∷ t → (a ≡ b) × (r ≡ t)
first_one a b r t e = (cc, cc)

pub first_two : (a b c d : ℕ) (r t : List ℕ) → a ∷ b ∷ r ≡ c ∷ d ∷ t → (a ≡ c) × (b ≡ d) × (r ≡ t)
first_two a b c d r t e = (cc, cc, cc)

-- ---- numbers that tell what they are of
mode_from : ℕ → Mode
mode_from k = cond (nat_eq k 0) Down (cond (nat_eq k 1) Waiting Up)

mode_back : (m : Mode) → mode_from (mode_number m) ≡ m
unfolding mode_from
mode_back Down = refl
mode_back Waiting = refl
mode_back Up = refl

pub mode_same : (m k : Mode) → mode_number m ≡ mode_number k → m ≡ k
mode_same m k e = sym (mode_back m) ∙ ap mode_from e ∙ mode_back k

restart_from : ℕ → Restart
restart_from k = cond (nat_eq k 0) Permanent (cond (nat_eq k 1) Transient Temporary)

restart_back : (r : Restart) → restart_from (restart_number r) ≡ r
unfolding restart_from
restart_back Permanent = refl
restart_back Transient = refl
restart_back Temporary = refl

pub restart_same : (r q : Restart) → restart_number r ≡ restart_number q → r ≡ q
restart_same r q e = sym (restart_back r) ∙ ap restart_from e ∙ restart_back q

permission_from : ℕ → Bool
permission_from k = cond (nat_eq k 1) true false

permission_back : (p : Bool) → permission_from (permission_number p) ≡ p
unfolding permission_from
permission_back true = refl
permission_back false = refl

pub permission_same : (p q : Bool) → permission_number p ≡ permission_number q → p ≡ q
permission_same p q e = sym (permission_back p) ∙ ap permission_from e ∙ permission_back q

-- ---- a standing, as two numbers
standing_tag : Standing → ℕ
standing_tag standing.Quiet = 0
standing_tag (standing.Wanted None) = 1
standing_tag (standing.Wanted (Some m)) = 2
standing_tag (standing.Running m) = 3
standing_tag (standing.Lost m) = 4

standing_node : Standing → ℕ
standing_node standing.Quiet = 0
standing_node (standing.Wanted None) = 0
standing_node (standing.Wanted (Some m)) = m.0
standing_node (standing.Running m) = m.0
standing_node (standing.Lost m) = m.0

standing_from : ℕ → ℕ → Standing
standing_from tag m =
    cond (nat_eq tag 0) standing.Quiet
    (cond (nat_eq tag 1) (standing.Wanted None)
    (cond (nat_eq tag 2) (standing.Wanted (Some (numbered m)))
    (cond (nat_eq tag 3) (standing.Running (numbered m)) (standing.Lost (numbered m)))))

standing_back : (s : Standing) → standing_from (standing_tag s) (standing_node s) ≡ s
unfolding standing_from standing_tag standing_node
standing_back standing.Quiet = refl
standing_back (standing.Wanted None) = refl
standing_back (standing.Wanted (Some m)) = refl
standing_back (standing.Running m) = refl
standing_back (standing.Lost m) = refl

standing_list : (s : Standing) → standing_numbers s ≡ standing_tag s ∷ standing_node s ∷ []
unfolding standing_tag standing_node
standing_list standing.Quiet = refl
standing_list (standing.Wanted None) = refl
standing_list (standing.Wanted (Some m)) = refl
standing_list (standing.Running m) = refl
standing_list (standing.Lost m) = refl

pub standing_split : (s u : Standing) (r t : List ℕ) → standing_numbers s ++ r ≡ standing_numbers u ++ t → (s ≡ u) × (r ≡ t)
standing_split s u r t e =
    let parts = first_two (standing_tag s) (standing_node s) (standing_tag u) (standing_node u) r t
    (sym (ap (λ (xs : List ℕ). xs ++ r) (standing_list s)) ∙ e ∙ ap (λ (xs : List ℕ). xs ++ t) (standing_list u)) in
    (sym (standing_back s) ∙ (λ i. standing_from (parts.0 i) (parts.1 i)) ∙ standing_back u, parts.2)

-- ---- a timer, behind when it is due
timer_tag : Timer → ℕ
timer_tag (timer.Sync n) = 0
timer_tag (timer.Failover a) = 1

timer_number : Timer → ℕ
timer_number (timer.Sync n) = n.0
timer_number (timer.Failover a) = a.0

timer_from : ℕ → ℕ → Timer
timer_from tag k = cond (nat_eq tag 0) (timer.Sync (numbered k)) (timer.Failover (app_numbered k))

timer_back : (t : Timer) → timer_from (timer_tag t) (timer_number t) ≡ t
unfolding timer_from timer_tag timer_number
timer_back (timer.Sync n) = refl
timer_back (timer.Failover a) = refl

timer_list : (now : ℕ) (x : ℕ × Timer) → timer_numbers now x ≡ (x.0 - now) ∷ timer_tag x.1 ∷ timer_number x.1 ∷ []
unfolding timer_tag timer_number
timer_list now (due, timer.Sync n) = refl
timer_list now (due, timer.Failover a) = refl

timer_split : (now when : ℕ) (x y : ℕ × Timer) (r t : List ℕ) → timer_numbers now x ++ r ≡ timer_numbers when y ++ t
    → (seen_from now x ≡ seen_from when y) × (r ≡ t)
timer_split now when x y r t e =
    let whole = sym (ap (λ (xs : List ℕ). xs ++ r) (timer_list now x)) ∙ e ∙ ap (λ (xs : List ℕ). xs ++ t) (timer_list when y) in
    let due = first_one (x.0 - now) (y.0 - when) (timer_tag x.1 ∷ timer_number x.1 ∷ r) (timer_tag y.1 ∷ timer_number y.1 ∷ t) whole in
    let parts = first_two (timer_tag x.1) (timer_number x.1) (timer_tag y.1) (timer_number y.1) r t due.1 in
    let same : x.1 ≡ y.1 = sym (timer_back x.1) ∙ (λ i. timer_from (parts.0 i) (parts.1 i)) ∙ timer_back y.1 in
    ((λ i. (due.0 i, same i)), parts.2)

none_is_some : (a : ℕ) (r : List ℕ) → [] ≡ a ∷ r → ⊥
none_is_some a r e = cc

-- timers with the same numbers have as long to go
pub timers_same : (now when : ℕ) (xs ys : List (ℕ × Timer)) → flat_map (timer_numbers now) xs ≡ flat_map (timer_numbers when) ys
    → map (seen_from now) xs ≡ map (seen_from when) ys
timers_same now when [] [] e = refl
timers_same now when [] (y ∷ ys) e =
    absurd (none_is_some (y.0 - when) (timer_tag y.1 ∷ timer_number y.1 ∷ flat_map (timer_numbers when) ys)
    (e ∙ ap (λ (l : List ℕ). l ++ flat_map (timer_numbers when) ys) (timer_list when y)))
timers_same now when (x ∷ xs) [] e =
    absurd (none_is_some (x.0 - now) (timer_tag x.1 ∷ timer_number x.1 ∷ flat_map (timer_numbers now) xs)
    (sym e ∙ ap (λ (l : List ℕ). l ++ flat_map (timer_numbers now) xs) (timer_list now x)))
timers_same now when (x ∷ xs) (y ∷ ys) e =
    let parts = timer_split now when x y (flat_map (timer_numbers now) xs) (flat_map (timer_numbers when) ys) e in
    let rest = timers_same now when xs ys parts.1 in
    λ i. parts.0 i ∷ rest i

-- and timers that are counted from now have the same numbers
one_seen : (now : ℕ) (x : ℕ × Timer) → timer_numbers 0 (seen_from now x) ≡ timer_numbers now x
one_seen now (due, timer.Sync n) = ap (λ k. k ∷ 0 ∷ n.0 ∷ []) (omega arith)
one_seen now (due, timer.Failover a) = ap (λ k. k ∷ 1 ∷ a.0 ∷ []) (omega arith)

pub timers_seen : (now : ℕ) (xs : List (ℕ × Timer)) → flat_map (timer_numbers 0) (map (seen_from now) xs) ≡ flat_map (timer_numbers now) xs
timers_seen now [] = refl
timers_seen now (x ∷ xs) = λ i. one_seen now x i ++ timers_seen now xs i

-- ---- a list of applications, which ends with 0
pub apps_split : (xs ys : List App) (r t : List ℕ) → flat_map app_number xs ++ 0 ∷ r ≡ flat_map app_number ys ++ 0 ∷ t → (xs ≡ ys) × (r ≡ t)
apps_split [] [] r t e = (refl, (first_one 0 0 r t e).1)
apps_split [] (y ∷ ys) r t e = let h = (first_one 0 (y.0 + 1) r (flat_map app_number ys ++ 0 ∷ t) e).0 in absurd (omega (arith, h))
apps_split (x ∷ xs) [] r t e = let h = (first_one (x.0 + 1) 0 (flat_map app_number xs ++ 0 ∷ r) t e).0 in absurd (omega (arith, h))
apps_split (x ∷ xs) (y ∷ ys) r t e =
    let parts = first_one (x.0 + 1) (y.0 + 1) (flat_map app_number xs ++ 0 ∷ r) (flat_map app_number ys ++ 0 ∷ t) e in
    let h = parts.0 in
    let n : x.0 ≡ y.0 = omega (arith, h) in
    let rest = apps_split xs ys r t parts.1 in
    ((λ i. app_numbered (n i) ∷ rest.0 i), rest.1)

-- ---- what is said of each of some
pub each_split : {A : Type 0} (f g : A → List ℕ) (P : A → Type 0) (xs : List A)
    → ((x : A) (r t : List ℕ) → f x ++ r ≡ g x ++ t → P x × (r ≡ t))
    → (r t : List ℕ) → flat_map f xs ++ r ≡ flat_map g xs ++ t → All P xs × (r ≡ t)
each_split f g P [] one r t e = (All-nil P, e)
each_split f g P (x ∷ xs) one r t e =
    let here = one x (flat_map f xs ++ r) (flat_map g xs ++ t)
    (sym (append_assoc (f x) (flat_map f xs) r) ∙ e ∙ append_assoc (g x) (flat_map g xs) t) in
    let rest = each_split f g P xs one r t here.1 in
    (All-cons P x xs here.0 rest.0, rest.1)

-- ---- a pair, and a node
pub record SamePair (s t : StateView) (n : Node) (a : App) : Type 0 where
  pub restart : restart_of s n a ≡ restart_of t n a
  pub permission : is_allowed s n a ≡ is_allowed t n a

pair_split : (s t : StateView) (n : Node) (a : App) (r q : List ℕ) → pair_numbers s n a ++ r ≡ pair_numbers t n a ++ q → SamePair s t n a × (r ≡ q)
unfolding pair_numbers
pair_split s t n a r q e =
    let parts = first_two (restart_number (restart_of s n a)) (permission_number (is_allowed s n a)) (restart_number (restart_of t n a)) (permission_number (is_allowed t n a))
    r q e in (
      record {
        restart = restart_same (restart_of s n a) (restart_of t n a) parts.0;
        permission = permission_same (is_allowed s n a) (is_allowed t n a) parts.1;
      },
      parts.2,
    )

pub record SameNode (s t : StateView) (n : Node) : Type 0 where
  pub mode : mode_of s n ≡ mode_of t n
  pub running : running_at s n ≡ running_at t n
  pub waiting : waiting_at s n ≡ waiting_at t n
  pub pairs : All (SamePair s t n) (apps_of s.cluster)

regrouped : (a b p r : List ℕ) → ((a ++ 0 ∷ b) ++ 0 ∷ p) ++ r ≡ a ++ 0 ∷ (b ++ 0 ∷ (p ++ r))
regrouped a b p r = append_assoc (a ++ 0 ∷ b) (0 ∷ p) r ∙ append_assoc a (0 ∷ b) (0 ∷ (p ++ r))

-- two numbers in one
restart_small : (r : Restart) → restart_number r ≤ 2
restart_small Permanent = omega arith
restart_small Transient = omega arith
restart_small Temporary = omega arith

permission_small : (p : Bool) → permission_number p ≤ 1
permission_small true = omega arith
permission_small false = omega arith

pub pair_small : (r : Restart) (p : Bool) → pair_number r p < 255
pair_small r p = let a = restart_small r in let b = permission_small p in omega (arith, a, b)

packed_split : (s t : StateView) (n : Node) (a : App) (r q : List ℕ) → packed_pair s n a ++ r ≡ packed_pair t n a ++ q → SamePair s t n a × (r ≡ q)
unfolding packed_pair
packed_split s t n a r q e =
    let parts = first_one (pair_number (restart_of s n a) (is_allowed s n a)) (pair_number (restart_of t n a) (is_allowed t n a)) r q e in
    let one = parts.0 in
    let x = restart_small (restart_of s n a) in
    let y = restart_small (restart_of t n a) in
    let v = permission_small (is_allowed s n a) in
    let w = permission_small (is_allowed t n a) in (
      record {
        restart = restart_same (restart_of s n a) (restart_of t n a) (omega (arith, one, x, y, v, w));
        permission = permission_same (is_allowed s n a) (is_allowed t n a) (omega (arith, one, x, y, v, w));
      },
      parts.1,
    )

-- a node, whatever numbers tell what is said of a pair
abbrev pub node_by : StateView → Node → (App → List ℕ) → List ℕ
node_by s n pair = mode_number (mode_of s n) ∷ flat_map app_number (running_at s n) ++ 0 ∷ flat_map app_number (waiting_at s n)
    ++ 0 ∷ flat_map pair (apps_of s.cluster)

module _ (s t : StateView) (c : t.cluster ≡ s.cluster) (n : Node) (pair_s pair_t : App → List ℕ)
    (one : (a : App) (r q : List ℕ) → pair_s a ++ r ≡ pair_t a ++ q → SamePair s t n a × (r ≡ q)) where
  split_by : (r q : List ℕ) → node_by s n pair_s ++ r ≡ node_by t n pair_t ++ q → SameNode s t n × (r ≡ q)
  split_by r q e =
      let run_s = flat_map app_number (running_at s n) in
      let run_t = flat_map app_number (running_at t n) in
      let wait_s = flat_map app_number (waiting_at s n) in
      let wait_t = flat_map app_number (waiting_at t n) in
      let pairs_s = flat_map pair_s (apps_of s.cluster) in
      let pairs_t = flat_map pair_t (apps_of t.cluster) in
      let parts = first_one (mode_number (mode_of s n)) (mode_number (mode_of t n))
      (((run_s ++ 0 ∷ wait_s) ++ 0 ∷ pairs_s) ++ r) (((run_t ++ 0 ∷ wait_t) ++ 0 ∷ pairs_t) ++ q) e in
      let runs = apps_split (running_at s n) (running_at t n) (wait_s ++ 0 ∷ (pairs_s ++ r)) (wait_t ++ 0 ∷ (pairs_t ++ q))
      (sym (regrouped run_s wait_s pairs_s r) ∙ parts.1 ∙ regrouped run_t wait_t pairs_t q) in
      let waits = apps_split (waiting_at s n) (waiting_at t n) (pairs_s ++ r) (pairs_t ++ q) runs.1 in
      let pairs = each_split pair_s pair_t (SamePair s t n) (apps_of s.cluster) one r q
      (waits.1 ∙ ap (λ (d : ClusterView). flat_map pair_t (apps_of d) ++ q) c) in (
        record {
          mode = mode_same (mode_of s n) (mode_of t n) parts.0;
          running = runs.0;
          waiting = waits.0;
          pairs = pairs.0;
        },
        pairs.1,
      )

pub node_split : (s t : StateView) → t.cluster ≡ s.cluster → (n : Node) (r q : List ℕ) → node_numbers s n ++ r ≡ node_numbers t n ++ q → SameNode s t n × (r ≡ q)
unfolding node_numbers
node_split s t c n r q e = split_by s t c n (pair_numbers s n) (pair_numbers t n) (pair_split s t n) r q e

pub packed_node_split : (s t : StateView) → t.cluster ≡ s.cluster → (n : Node) (r q : List ℕ) → packed_node s n ++ r ≡ packed_node t n ++ q → SameNode s t n × (r ≡ q)
unfolding packed_node
packed_node_split s t c n r q e = split_by s t c n (packed_pair s n) (packed_pair t n) (packed_split s t n) r q e

-- ---- an application
pub app_split : (s t : StateView) (a : App) (r q : List ℕ) → app_numbers s a ++ r ≡ app_numbers t a ++ q → (standing_of s a ≡ standing_of t a) × (r ≡ q)
unfolding app_numbers
app_split s t a r q e = standing_split (standing_of s a) (standing_of t a) r q e
