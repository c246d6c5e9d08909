-- A node that has joined, whose dist_ac is told so: behind that it introduces itself, while net_kernel still tells of nodes that are up.
use Rattle.std.proofs.Common.{◌≡◌, ◌≤◌, ◌⊎◌, ◌+◌, ◌++◌, ◌==◌, ◌&&◌, not, ℕ, zero, suc, Bool, true, false, cond, List, [], ◌∷◌, map, length, replicate, slice_get, unwrap_or, Option, Some, refl, sym, ap, subst, ◌∙◌, inl, inr, arith}
use Rattle.std.specs.Prelude.{All}
use Rattle.std.proofs.lemmas.List.{map-append, length-append}
use Rattle.rh_model.specs.declared.node.Node.{Node}
use Rattle.rh_otp_model.specs.declared.message.Message.TheVariants as message
use Rattle.rh_otp_model.specs.declared.output.Envelope.{Envelope}
use Rattle.rh_otp_model.specs.declared.process.Role.TheVariants as role
use Rattle.rh_otp_model.specs.Flags.{has_any}
use Rattle.rh_otp_model.specs.Processes.{process_at}
use Rattle.rh_otp_dist.specs.State.{DistView}
use Rattle.rh_otp_node.specs.Live.{LiveView, never_begun, here_of, is_alive, is_up}
use Rattle.rh_otp_system.specs.declared.cell.Cell.TheVariants as cell
use Rattle.rh_otp_system.specs.declared.slow.Answered.{Answered}
use Rattle.rh_otp_system.specs.Delivering.{arrived}
use Rattle.rh_otp_system.specs.Joining.{kernel_handled}
use Rattle.rh_otp_system.specs.State.{SystemView, live_at, node_at, with_node, is_alive_at, has_dist_at, process_in}
use Rattle.rh_otp_system.specs.Working.{answer_count}
use Rattle.rh_otp_laws.proofs.Nodes.{written_elsewhere}
use Rattle.rh_otp_orders.specs.Orders.{AreAlike}
use Rattle.rh_otp_orders.proofs.Changing.{set_there}
use Rattle.rh_otp_orders.proofs.Same.{cell_at}
use Rattle.rh_otp_orders.proofs.Taking.{Taken}
use Rattle.rh_otp_crashes.proofs.Peace.{without, arrives_alive}
use Rattle.rh_otp_crashes.proofs.Turning.{node_is}
use Rattle.rh_otp_joins.proofs.Arriving.{IsSteady}
use Rattle.rh_otp_joins.proofs.Going.{live_as, going, the_others, hello, lock_of, greeting, known_first, CanHear, freed_all, goes}
use Rattle.rh_otp_joins.proofs.Introducing.{live_waiting, introducing, locks_while}
use Rattle.rh_otp_joins.proofs.Lists.{more_if, count_of}
use Rattle.rh_otp_joins.proofs.Mailing.{Unmet}
use Rattle.rh_otp_joins.proofs.Settling.{Further, all_further}
use Rattle.rh_otp_joins.proofs.Stages.{Other, Opening, letter, Stage, counted_in, met_in, cell_there, up_alive, all_of}
use Rattle.rh_otp_joins.proofs.Taking.{met_by}
use Rattle.rh_otp_joins.proofs.Tokens.{Token, up, asks, asked_of, told_of, weight_of, total, total_more}

-- ---- the node, and those that it sees

-- It is up, and its dist_ac waits for that. Nobody has a lock, and no answers are counted. Those that it sees and that have a dist_ac are
-- ready, and it sees each once.
pub record Ready (n : Node) (v : LiveView) (d : DistView) (b : SystemView) : Type 0 where
  pub there : live_at b n ≡ Some (live_as v (going d))
  pub is_up_there : is_up v ≡ true
  pub has_dist : has_dist_at b n ≡ true
  pub locks : b.locks ≡ []
  pub answers : b.answers ≡ []
  pub once : (m : Node) → count_of m (the_others n b) ≤ 1
  pub others : (m : Node) → 1 ≤ count_of m (the_others n b) → Other n m b

pub none_set : (k : ℕ) → has_any (replicate k false) ≡ false
none_set zero = refl
none_set (suc k) = none_set k

unfoldable pub opening : {n : Node} {v : LiveView} {d : DistView} {b : SystemView} → Ready n v d b → Opening n (the_others n b) b
opening {n} {v} {d} {b} r = record {
  live = live_as v (going d);
  dist = d;
  held = lock_of n v d b;
  allowed = unwrap_or (slice_get d.may n.0) [];
  started = replicate (length d.appls) false;
  there = r.there;
  is_up_there = r.is_up_there;
  has_dist = r.has_dist;
  free = freed_all (process_at (here_of n v) role.DistAc) _;
  none = none_set (length d.appls);
  once = r.once;
  others = r.others;
  answers = r.answers;
}

can_hear : {n : Node} {v : LiveView} {d : DistView} {b : SystemView} → Ready n v d b → All (CanHear n b) (the_others n b)
can_hear {n} {v} {d} {b} r =
    all_of (CanHear n b) (the_others n b) (λ m among.
    (let other : Other n m b = r.others m among in
    ((other.apart, ap (λ (o : Option LiveView). is_alive (unwrap_or o never_begun)) other.there ∙ other.alive, other.to), other.has_dist)))

-- ---- where it begins

abbrev pub up_letter : Node → SystemView → Node → Envelope
up_letter n b x = record {
  from = process_in b n role.NetKernel;
  to = process_in b n role.KernelConfig;
  message = message.NodeUp x;
}

ups_so : {n : Node} {nodes : List Node} {b : SystemView} (g : Opening n nodes b) (ups : List Node)
    → map (letter n b g) (map up ups) ≡ map (up_letter n b) ups
ups_so g [] = refl
ups_so {n} {nodes} {b} g (x ∷ ups) = ap (λ (l : List Envelope). up_letter n b x ∷ l) (ups_so g ups)

asks_so : {n : Node} {v : LiveView} {d : DistView} {b : SystemView} (r : Ready n v d b) (nodes : List Node)
    → map (letter n b (opening r)) (map asks nodes) ≡ map (greeting n (hello n d) b) nodes
unfolding opening
asks_so r [] = refl
asks_so {n} {v} {d} {b} r (x ∷ nodes) = ap (λ (l : List Envelope). greeting n (hello n d) b x ∷ l) (asks_so r nodes)

ups_total : (f : Token → ℕ) → ((x : Node) → f (up x) ≡ 0) → (ups : List Node) → total f (map up ups) ≡ 0
ups_total f none [] = refl
ups_total f none (x ∷ ups) =
    let one : f (up x) ≡ 0 = none x in
    let rest : total f (map up ups) ≡ 0 = ups_total f none ups in
    omega (arith, one, rest)

asks_total : (m : Node) (nodes : List Node) → total (asked_of m) (map asks nodes) ≡ count_of m nodes
asks_total m [] = refl
asks_total m (x ∷ nodes) = ap (λ (k : ℕ). more_if (x.0 == m.0) 0 + k) (asks_total m nodes) ∙ by (x.0 == m.0) (count_of m nodes)
  where
    by : (c : Bool) (k : ℕ) → more_if c 0 + k ≡ more_if c k
    by true k = omega arith
    by false k = omega arith

none_told : (m : Node) (nodes : List Node) → total (told_of m) (map asks nodes) ≡ 0
none_told m [] = refl
none_told m (x ∷ nodes) = let rest : total (told_of m) (map asks nodes) ≡ 0 = none_told m nodes in omega (arith, rest)

pub ups_weigh : (ups : List Node) → total weight_of (map up ups) ≡ length ups
ups_weigh [] = refl
ups_weigh (x ∷ ups) =
    let rest : total weight_of (map up ups) ≡ length ups = ups_weigh ups in
    omega (arith, rest)

neither : (c : Bool) → (not c && c) ≡ false
neither true = refl
neither false = refl

unmet_first : (nodes : List Node) → Unmet nodes []
unmet_first [] = refl
unmet_first (x ∷ nodes) = refl

stage_first : {n : Node} {v : LiveView} {d : DistView} {b : SystemView} (r : Ready n v d b) (ups : List Node)
    → Stage n (the_others n b) b (opening r) (map up ups ++ map asks (the_others n b))
    (introducing n v d (lock_of n v d b) (known_first n d) (the_others n b) []
    (record b { messages = map (up_letter n b) ups ++ map (greeting n (hello n d) b) (the_others n b) }))
unfolding opening
stage_first {n} {v} {d} {b} r ups = record {
  learnt = known_first n d;
  later = nodes;
  left = [];
  leads = refl;
  counts = λ m.
      (let one : total (asked_of m) tokens ≡ count_of m nodes = asked m in
      let two : total (told_of m) tokens ≡ 0 = told m in
      omega (arith, one, two));
  within = λ m. omega arith;
  unmet = unmet_first nodes;
  same = λ i. with_node n next (record b { messages = messages_so i; locks = locks_while (lock_of n v d b) nodes });
  base = refl;
  here = set_there b.nodes.cells n.0 (cell.Node (live_as v (going d))) (cell.Node next) (cell_there b n (live_as v (going d)) r.there);
  cells = λ m apart.
      written_elsewhere b.nodes.cells n.0 m.0 (cell.Node next) apart
      ∙ sym (ap (λ (k : ℕ). cond (met_by m nodes k) (Some (cell.Node (met_in n (unwrap_or (slice_get d.may n.0) []) (node_at b m)))) (cell_at b m.0)) (asked m)
      ∙ ap (λ (c : Bool). cond c (Some (cell.Node (met_in n (unwrap_or (slice_get d.may n.0) []) (node_at b m)))) (cell_at b m.0))
      (neither (count_of m nodes == 0)));
  answers = λ p.
      (let one : total (counted_in n b p) tokens ≡ total (counted_in n b p) (map up ups) + total (counted_in n b p) (map asks nodes) =
      total_more (counted_in n b p) (map up ups) (map asks nodes) in
      let none : total (counted_in n b p) (map up ups) ≡ 0 = ups_total (counted_in n b p) (λ x. refl) ups in
      let no_answers : answer_count b.answers p ≡ 0 = ap (λ (l : List Answered). answer_count l p) r.answers in
      omega (arith, one, none, no_answers));
}
  where
    nodes : List Node
    nodes = the_others n b

    tokens : List Token
    tokens = map up ups ++ map asks nodes

    next : LiveView
    next = live_waiting v d (known_first n d) nodes []

    asked : (m : Node) → total (asked_of m) tokens ≡ count_of m nodes
    asked m =
        let both : total (asked_of m) tokens ≡ total (asked_of m) (map up ups) + total (asked_of m) (map asks nodes) =
        total_more (asked_of m) (map up ups) (map asks nodes) in
        let none : total (asked_of m) (map up ups) ≡ 0 = ups_total (asked_of m) (λ x. refl) ups in
        let all : total (asked_of m) (map asks nodes) ≡ count_of m nodes = asks_total m nodes in
        omega (arith, both, none, all)

    told : (m : Node) → total (told_of m) tokens ≡ 0
    told m =
        let both : total (told_of m) tokens ≡ total (told_of m) (map up ups) + total (told_of m) (map asks nodes) =
        total_more (told_of m) (map up ups) (map asks nodes) in
        let none : total (told_of m) (map up ups) ≡ 0 = ups_total (told_of m) (λ x. refl) ups in
        let none_too : total (told_of m) (map asks nodes) ≡ 0 = none_told m nodes in
        omega (arith, both, none, none_too)

    messages_so : map (up_letter n b) ups ++ map (greeting n (hello n d) b) nodes ≡ map (letter n b (opening r)) tokens
    messages_so =
        (λ i. sym (ups_so (opening r) ups) i ++ sym (asks_so r nodes) i)
        ∙ sym (map-append (letter n b (opening r)) (map up ups) (map asks nodes))

-- ---- before its dist_ac is told

-- what tells it
abbrev pub go_letter : Node → SystemView → Envelope
go_letter n b = record { from = process_in b n role.KernelConfig; to = process_in b n role.DistAc; message = message.Go }

-- what is told of nodes that are up does nothing
pub up_does_nothing : (n x : Node) (s : SystemView) → is_alive_at s n ≡ true → is_up (node_at s n) ≡ true
    → arrived (up_letter n s x).to (up_letter n s x).message s ≡ s
up_does_nothing n x s alive is =
    arrives_alive (up_letter n s x).to (message.NodeUp x) s alive refl
    ∙ ap (λ (c : Bool). cond c s (kernel_handled n (message.NodeUp x) s)) is

-- the message is one of those, or the one behind them
abbrev pub OneOf : {A : Type 0} → (A → Envelope) → Envelope → Envelope → List A → List Envelope → Type 0
OneOf {A} f go e xs left =
    ((x : A) × (rest : List A) × (e ≡ f x) × (left ≡ map f rest ++ go ∷ []) × (length xs ≡ suc (length rest)))
    ⊎ ((e ≡ go) × (left ≡ map f xs))

one_of : {A : Type 0} (f : A → Envelope) (go e : Envelope) (xs : List A) (left : List Envelope) → Taken e (map f xs ++ go ∷ []) left
    → OneOf f go e xs left
one_of f go e [] left (inl (is, rest)) = inr (sym is, rest)
one_of f go e [] left (inr behind) = absurd behind.3
one_of f go e (x ∷ xs) left (inl (is, rest)) = inl (x, xs, sym is, rest, refl)
one_of {A} f go e (x ∷ xs) left (inr (apart, rest, is, taken)) = by (one_of f go e xs rest taken)
  where
    by : OneOf f go e xs rest → OneOf f go e (x ∷ xs) left
    by (inl (y, more, same, so, long)) =
        inl (y, x ∷ more, same, is ∙ ap (λ (l : List Envelope). f x ∷ l) so, omega (arith, long))
    by (inr (same, so)) = inr (same, is ∙ ap (λ (l : List Envelope). f x ∷ l) so)

-- net_kernel tells of these, and its dist_ac isn't told yet; or it is further
pub record Joined {n : Node} {v : LiveView} {d : DistView} {b : SystemView} (r : Ready n v d b) (weight : ℕ) (u : SystemView) : Type 0 where
  pub ups : List Node
  pub weighs : weight ≡ length ups + suc (total weight_of (map asks (the_others n b)))
  pub is : u ≡ record b { messages = map (up_letter n b) ups ++ go_letter n b ∷ [] }

abbrev pub Opens : {n : Node} {v : LiveView} {d : DistView} {b : SystemView} → Ready n v d b → ℕ → SystemView → Type 0
Opens r weight u = Joined r weight u ⊎ Further (opening r) weight u

go_comes : {n : Node} {v : LiveView} {d : DistView} {b : SystemView} (r : Ready n v d b) (ups : List Node) (left : List Envelope)
    → left ≡ map (up_letter n b) ups
    → Stage n (the_others n b) b (opening r) (map up ups ++ map asks (the_others n b))
    (arrived (go_letter n b).to message.Go (without b left))
go_comes {n} {v} {d} {b} r ups left is =
    subst (Stage n (the_others n b) b (opening r) (map up ups ++ map asks (the_others n b))) (sym comes) (stage_first r ups)
  where
    s : SystemView
    s = without b left

    comes : arrived (go_letter n b).to message.Go s
        ≡ introducing n v d (lock_of n v d b) (known_first n d) (the_others n b) []
        (record b { messages = map (up_letter n b) ups ++ map (greeting n (hello n d) b) (the_others n b) })
    comes =
        arrives_alive (go_letter n b).to message.Go s
        (ap is_alive (node_is b n (live_as v (going d)) r.there) ∙ up_alive v r.is_up_there) refl
        ∙ goes n s v d r.there r.locks (can_hear r)
        ∙ (λ i. introducing n v d (lock_of n v d b) (known_first n d) (the_others n b) []
        (record b { messages = is i ++ map (greeting n (hello n d) b) (the_others n b) }))

joined_on : {n : Node} {v : LiveView} {d : DistView} {b : SystemView} (r : Ready n v d b) (k : ℕ) (u : SystemView) (e : Envelope)
    (left : List Envelope) → Joined r (suc k) u → Taken e u.messages left → Opens r k (arrived e.to e.message (without u left))
joined_on {n} {v} {d} {b} r k u e left f taken =
    subst (λ (x : SystemView). Opens r k (arrived e.to e.message (without x left))) (sym f.is)
    (by (one_of (up_letter n b) (go_letter n b) e f.ups left (subst (λ (x : SystemView). Taken e x.messages left) f.is taken)))
  where
    here : node_at b n ≡ live_as v (going d)
    here = node_is b n (live_as v (going d)) r.there

    by : OneOf (up_letter n b) (go_letter n b) e f.ups left → Opens r k (arrived e.to e.message (without b left))
    by (inl (x, rest, is, left_so, long)) =
        inl (record {
          ups = rest;
          weighs = let all : suc k ≡ length f.ups + suc (total weight_of (map asks (the_others n b))) = f.weighs in omega (arith, long, all);
          is = ap (λ (l : Envelope). arrived l.to l.message (without b left)) is
              ∙ up_does_nothing n x (without b left) (ap is_alive here ∙ up_alive v r.is_up_there) (ap is_up here ∙ r.is_up_there)
              ∙ ap (without b) left_so;
        })
    by (inr (is, left_so)) =
        inr (record {
          tokens = map up f.ups ++ map asks (the_others n b);
          weighs =
              (let all : suc k ≡ length f.ups + suc (total weight_of (map asks (the_others n b))) = f.weighs in
              let both : total weight_of (map up f.ups ++ map asks (the_others n b))
              ≡ total weight_of (map up f.ups) + total weight_of (map asks (the_others n b)) =
              total_more weight_of (map up f.ups) (map asks (the_others n b)) in
              let first : total weight_of (map up f.ups) ≡ length f.ups = ups_weigh f.ups in
              omega (arith, all, both, first));
          stage = subst (λ (l : Envelope). Stage n (the_others n b) b (opening r) (map up f.ups ++ map asks (the_others n b))
              (arrived l.to l.message (without b left))) (sym is) (go_comes r f.ups left left_so);
        })

not_none : (xs : List Envelope) (e : Envelope) → xs ++ e ∷ [] ≡ [] → ⊥
not_none xs e none =
    let long : length (xs ++ e ∷ []) ≡ 0 = ap length none in
    let both : length (xs ++ e ∷ []) ≡ length xs + 1 = length-append xs (e ∷ []) in
    omega (arith, long, both)

pub opens_steadily : {n : Node} {v : LiveView} {d : DistView} {b : SystemView} (r : Ready n v d b) → IsSteady (Opens r)
opens_steadily {n} {v} {d} {b} r = record { some = some; on = on; same = same }
  where
    steady : IsSteady (Further (opening r))
    steady = all_further (opening r)

    some : (k : ℕ) (u : SystemView) → Opens r (suc k) u → u.messages ≡ [] → ⊥
    some k u (inl f) none =
        not_none (map (up_letter n b) f.ups) (go_letter n b) (sym (ap (λ (x : SystemView). x.messages) f.is) ∙ none)
    some k u (inr f) none = steady.some k u f none

    on : (k : ℕ) (u : SystemView) (e : Envelope) (left : List Envelope) → Opens r (suc k) u → Taken e u.messages left
        → Opens r k (arrived e.to e.message (without u left))
    on k u e left (inl f) taken = joined_on r k u e left f taken
    on k u e left (inr f) taken = inr (steady.on k u e left f taken)

    same : (u t : SystemView) → Opens r 0 u → Opens r 0 t → AreAlike u t
    same u t (inl f) h = absurd (let all : 0 ≡ length f.ups + suc (total weight_of (map asks (the_others n b))) = f.weighs in omega (arith, all))
    same u t (inr f) (inl h) = absurd (let all : 0 ≡ length h.ups + suc (total weight_of (map asks (the_others n b))) = h.weighs in omega (arith, all))
    same u t (inr f) (inr h) = steady.same u t f h
