-- That the law is of three nodes of which one doesn't boot two applications, and what each dist_ac knows at the end.
use Rattle.std.proofs.Common.{◌≡◌, ◌≢◌, ◌≤◌, ◌⊎◌, ◌==◌, ℕ, Bool, true, List, [], ◌∷◌, map, filter, length, unwrap_or, slice_get, Some, refl, sym, ap, subst, ◌∙◌, inl, inr, arith}
use Rattle.std.specs.Prelude.{All, reverse}
use Rattle.std.proofs.lemmas.Bool.{cases_eq, ne_eqb, false≢true}
use Rattle.std.proofs.lemmas.List.Elements.{All-nil, All-cons}
use Rattle.rh_model.specs.ClusterView.{ClusterView, boot_of}
use Rattle.rh_model.specs.declared.node.App.{App}
use Rattle.rh_model.specs.declared.node.Node.{Node}
use Rattle.rh_otp_model.specs.declared.output.Event.TheVariants as event
use Rattle.rh_otp_model.specs.declared.process.StartType.TheVariants.{Normal}
use Rattle.rh_otp_controller.specs.First.{first}
use Rattle.rh_otp_dist.specs.declared.state.Appl.{Appl}
use Rattle.rh_otp_dist.specs.State.{DistView, unknown_appl, beginning}
use Rattle.rh_otp_net.specs.Links.{are_linked}
use Rattle.rh_otp_node.specs.Live.{permission_rows}
use Rattle.rh_otp_system.specs.Moves.{Reaches, IsSettled}
use Rattle.rh_otp_system.specs.State.{SystemView, node_at, own_at, has_dist_at}
use Rattle.rh_otp_laws.proofs.Nodes.{alive_is_there}
use Rattle.rh_otp_crashes.proofs.Crossing.{same_node}
use Rattle.rh_otp_stops.proofs.Rows.{n1, n2, d1, l1, dist_of}
use Rattle.rh_otp_joins.specs.Leading.{LeadsTo}
use Rattle.rh_otp_joins.proofs.Lists.{more_if, count_of}
use Rattle.rh_otp_gathers.specs.Gathers.{times}
use Rattle.rh_otp_gathers.proofs.Opening.{counts_so}
use Rattle.rh_otp_together.specs.Together.{IsBefore, InOrder, distributed_of, boots_at, strangers_of, LeavesTo, IsToBoot, BootTogether}
use Rattle.rh_otp_together.specs.Booted.{rows_of, told_there, HaveBooted}
use Rattle.rh_otp_together.proofs.Apps.{swapped}
use Rattle.rh_otp_together.proofs.Booted.{come_to_one}
use Rattle.rh_otp_together.proofs.Rows.{d2, shared, flags, has_it, unknown_each}
use Rattle.rh_otp_together.proofs.Sharing.{all_left_to_one}
use Rattle.rh_otp_together.proofs.Three.{n3, cluster, file, gathered, At, Computed, computed}

-- ---- the law is of it

abbrev trio : List Node
trio = n1 ∷ n2 ∷ n3 ∷ []

-- a node is one of the three, or none
data Which (m : Node) : Type 0 where
  is_one : m ≡ n1 → Which m
  is_two : m ≡ n2 → Which m
  is_three : m ≡ n3 → Which m
  is_none : times m trio ≡ 0 → Which m

which : (m : Node) → Which m
which m = by (cases_eq m.0 0) (cases_eq m.0 1) (cases_eq m.0 2)
  where
    by : (m.0 ≡ 0) ⊎ (m.0 ≢ 0) → (m.0 ≡ 1) ⊎ (m.0 ≢ 1) → (m.0 ≡ 2) ⊎ (m.0 ≢ 2) → Which m
    by (inl is) two three = is_one (same_node m n1 is)
    by (inr other) (inl is) three = is_two (same_node m n2 is)
    by (inr other) (inr another) (inl is) = is_three (same_node m n3 is)
    by (inr other) (inr another) (inr third) = is_none
        (sym (counts_so m trio)
        ∙ (λ i. more_if (ne_eqb 0 m.0 (λ is. other (sym is)) i)
        (more_if (ne_eqb 1 m.0 (λ is. another (sym is)) i) (more_if (ne_eqb 2 m.0 (λ is. third (sym is)) i) 0))))

once : (m : Node) → times m trio ≤ 1
once m = by (which m)
  where
    by : Which m → times m trio ≤ 1
    by (is_one is) = subst (λ (x : Node). times x trio ≤ 1) (sym is) (omega arith)
    by (is_two is) = subst (λ (x : Node). times x trio ≤ 1) (sym is) (omega arith)
    by (is_three is) = subst (λ (x : Node). times x trio ≤ 1) (sym is) (omega arith)
    by (is_none none) = omega (arith, none)

-- the same nodes in another order
last_swapped : (x : Node) → count_of x (n1 ∷ n3 ∷ n2 ∷ []) ≡ count_of x trio
last_swapped x = ap (more_if (0 == x.0)) (swapped (2 == x.0) (1 == x.0) 0)

first_swapped : (x : Node) → count_of x (n2 ∷ n1 ∷ n3 ∷ []) ≡ count_of x trio
first_swapped x = swapped (1 == x.0) (0 == x.0) (more_if (2 == x.0) 0)

third_first : (x : Node) → count_of x (n3 ∷ n1 ∷ n2 ∷ []) ≡ count_of x trio
third_first x = swapped (2 == x.0) (0 == x.0) (more_if (1 == x.0) 0) ∙ last_swapped x

turned : (x : Node) → count_of x (n3 ∷ n2 ∷ n1 ∷ []) ≡ count_of x trio
turned x = ap (more_if (2 == x.0)) (swapped (1 == x.0) (0 == x.0) 0) ∙ third_first x

-- the same system, with its cluster and its files in front of us
abbrev clear : SystemView → SystemView
clear s = record s { cluster = cluster; files = file ∷ file ∷ file ∷ [] }

is_clear : (s : SystemView) → Computed s → clear s ≡ s
is_clear s so = λ i. record s { cluster = sym so.cluster i; files = sym so.files i }

abbrev all_knowing : DistView → DistView
all_knowing d = record d { may = flags ∷ flags ∷ flags ∷ [] }

-- both applications are left to the first node
abbrev runs_first : App → Node
runs_first a = n1

-- what a node's own file and its boot list say
record Lists (m : Node) (s : SystemView) (d : DistView) : Type 0 where
  has_dist : has_dist_at s m ≡ true
  in_order : InOrder s m [] (boot_of s.cluster m)
  few : length (boot_of s.cluster m) ≤ 3
  distributed : distributed_of (own_at s m) (boot_of s.cluster m) ≡ filter (boots_at s m) shared
  leaves : All (λ (a : App). boots_at s m a ≡ true → LeavesTo m a d s (runs_first a)) shared

one_lists : (s : SystemView) (d : DistView) → Lists n1 (clear s) (all_knowing d)
one_lists s d = record {
  has_dist = refl;
  in_order = (
    refl,
    All-nil (IsBefore (clear s) n1 []),
    (λ local. refl),
    (
      refl,
      All-nil (IsBefore (clear s) n1 (d1 ∷ [])),
      (λ local. refl),
      (refl, All-nil (IsBefore (clear s) n1 (l1 ∷ d1 ∷ [])), (λ local. refl), tt),
    ),
  );
  few = (let many : length (boot_of cluster n1) ≡ 3 = refl in omega (arith, many));
  distributed = refl;
  leaves = All-cons Leaves d1 (d2 ∷ []) (λ boots. inl (refl, refl)) (All-cons Leaves d2 [] (λ boots. inl (refl, refl)) (All-nil Leaves));
}
  where
    Leaves : App → Type 0
    Leaves a = boots_at (clear s) n1 a ≡ true → LeavesTo n1 a (all_knowing d) (clear s) (runs_first a)

two_lists : (s : SystemView) (d : DistView) → Lists n2 (clear s) (all_knowing d)
two_lists s d = record {
  has_dist = refl;
  in_order = (
    refl,
    All-nil (IsBefore (clear s) n2 []),
    (λ local. refl),
    (
      refl,
      All-nil (IsBefore (clear s) n2 (d1 ∷ [])),
      (λ local. refl),
      (refl, All-nil (IsBefore (clear s) n2 (l1 ∷ d1 ∷ [])), (λ local. refl), tt),
    ),
  );
  few = (let many : length (boot_of cluster n2) ≡ 3 = refl in omega (arith, many));
  distributed = refl;
  leaves = All-cons Leaves d1 (d2 ∷ []) (λ boots. inl (refl, refl)) (All-cons Leaves d2 [] (λ boots. inl (refl, refl)) (All-nil Leaves));
}
  where
    Leaves : App → Type 0
    Leaves a = boots_at (clear s) n2 a ≡ true → LeavesTo n2 a (all_knowing d) (clear s) (runs_first a)

three_lists : (s : SystemView) (d : DistView) → Lists n3 (clear s) (all_knowing d)
three_lists s d = record {
  has_dist = refl;
  in_order = (refl, All-nil (IsBefore (clear s) n3 []), (λ local. refl), tt);
  few = (let many : length (boot_of cluster n3) ≡ 1 = refl in omega (arith, many));
  distributed = refl;
  leaves = All-cons Leaves d1 (d2 ∷ []) (λ boots. absurd (false≢true boots))
      (All-cons Leaves d2 [] (λ boots. absurd (false≢true boots)) (All-nil Leaves));
}
  where
    Leaves : App → Type 0
    Leaves a = boots_at (clear s) n3 a ≡ true → LeavesTo n3 a (all_knowing d) (clear s) (runs_first a)

is_to_boot : (m one other : Node) (known : List Node) (s : SystemView) → Computed s → At m one other known s
    → ((d : DistView) → Lists m (clear s) (all_knowing d)) → ((x : Node) → times x known ≡ times x s.alive)
    → ((x : Node) → x.0 ≢ m.0 → 1 ≤ times x s.alive → (x ≡ one) ⊎ (x ≡ other)) → IsToBoot shared runs_first m s
is_to_boot m one other known s so at clearly all others = record {
  there = alive_is_there s m at.alive;
  up = at.up;
  place = at.place;
  controller = at.controller ∙ ap (λ (c : ClusterView). first (permission_rows c m)) (sym so.cluster);
  has_dist = lists.has_dist;
  dist = dist_of s m;
  has = has_it (node_at s m).dist (beginning 0 0 m []) at.has;
  blank = record {
    idle = at.idle;
    mail = at.mail;
    runs = at.runs;
    started = at.started;
    locals = at.locals;
    weights = at.weights;
    takeovers = at.takeovers;
    monitored = at.monitored;
    parked = at.parked;
    unknown = λ a. ap (λ (l : List Appl). (unwrap_or (slice_get l a.0) unknown_appl).standing) at.appls ∙ unknown_each a;
  };
  known = λ x apart. ap (times x) at.known ∙ all x;
  sees = λ x apart some. sees x (others x apart some);
  in_order = lists.in_order;
  short = (let few : length (boot_of s.cluster m) ≤ 3 = lists.few in omega (arith, few));
  distributed = lists.distributed;
  leaves = lists.leaves;
  strangers = all_left_to_one runs_first n1 (strangers_of s m shared) (λ a. refl);
}
  where
    lists : Lists m s (dist_of s m)
    lists =
        subst (Lists m s) (λ i. record (dist_of s m) { may = sym at.may i })
        (subst (λ (x : SystemView). Lists m x (all_knowing (dist_of s m))) (is_clear s so) (clearly (dist_of s m)))

    sees : (x : Node) → (x ≡ one) ⊎ (x ≡ other) → are_linked m x s.links ≡ true
    sees x (inl is) = ap (λ (y : Node). are_linked m y s.links) is ∙ at.sees_one
    sees x (inr is) = ap (λ (y : Node). are_linked m y s.links) is ∙ at.sees_other

boots_together : (s : SystemView) → Computed s → BootTogether s
boots_together s so = record {
  once = λ m. subst (λ (l : List Node). times m l ≤ 1) (sym so.alive) (once m);
  apps = shared;
  at = runs_first;
  each = λ m some. by m (which m) (subst (λ (l : List Node). 1 ≤ times m l) so.alive some);
  runners = All-cons IsRunner d1 (d2 ∷ [])
      (subst (λ (l : List Node). 1 ≤ times n1 l) (sym so.alive) (omega arith), ap (λ (c : ClusterView). boots_by c n1 d1) so.cluster)
      (All-cons IsRunner d2 []
      (subst (λ (l : List Node). 1 ≤ times n1 l) (sym so.alive) (omega arith), ap (λ (c : ClusterView). boots_by c n1 d2) so.cluster)
      (All-nil IsRunner));
  nodes = n1 ∷ n3 ∷ n2 ∷ [];
  slow = so.slow;
  all = alive_in (n1 ∷ n3 ∷ n2 ∷ []) last_swapped;
  messages = so.messages;
  calls = so.calls;
  locks = so.locks;
}
  where
    IsRunner : App → Type 0
    IsRunner a = (1 ≤ times (runs_first a) s.alive) × (boots_at s (runs_first a) a ≡ true)

    boots_by : ClusterView → Node → App → Bool
    boots_by c m a = boots_at (record s { cluster = c }) m a

    -- those that are alive, in whatever order
    alive_in : (nodes : List Node) → ((x : Node) → count_of x nodes ≡ count_of x trio) → (x : Node) → times x nodes ≡ times x s.alive
    alive_in nodes same x = sym (counts_so x nodes) ∙ same x ∙ counts_so x trio ∙ ap (times x) (sym so.alive)

    gone : {A : Type 0} (x : Node) → times x trio ≡ 0 → 1 ≤ times x s.alive → A
    gone x none some =
        absurd (let there_is : 1 ≤ times x trio = subst (λ (l : List Node). 1 ≤ times x l) so.alive some in omega (arith, none, there_is))

    not_one : (x : Node) → x.0 ≢ 0 → 1 ≤ times x s.alive → (x ≡ n2) ⊎ (x ≡ n3)
    not_one x apart some = at (which x)
      where
        at : Which x → (x ≡ n2) ⊎ (x ≡ n3)
        at (is_one is) = absurd (apart (ap (λ (y : Node). y.0) is))
        at (is_two is) = inl is
        at (is_three is) = inr is
        at (is_none none) = gone x none some

    not_two : (x : Node) → x.0 ≢ 1 → 1 ≤ times x s.alive → (x ≡ n1) ⊎ (x ≡ n3)
    not_two x apart some = at (which x)
      where
        at : Which x → (x ≡ n1) ⊎ (x ≡ n3)
        at (is_one is) = inl is
        at (is_two is) = absurd (apart (ap (λ (y : Node). y.0) is))
        at (is_three is) = inr is
        at (is_none none) = gone x none some

    not_three : (x : Node) → x.0 ≢ 2 → 1 ≤ times x s.alive → (x ≡ n1) ⊎ (x ≡ n2)
    not_three x apart some = at (which x)
      where
        at : Which x → (x ≡ n1) ⊎ (x ≡ n2)
        at (is_one is) = inl is
        at (is_two is) = inr is
        at (is_three is) = absurd (apart (ap (λ (y : Node). y.0) is))
        at (is_none none) = gone x none some

    by : (m : Node) → Which m → 1 ≤ times m trio → IsToBoot shared runs_first m s
    by m (is_one is) some = subst (λ (x : Node). IsToBoot shared runs_first x s) (sym is)
        (is_to_boot n1 n2 n3 (n3 ∷ n2 ∷ n1 ∷ []) s so so.one (one_lists s) (alive_in (n3 ∷ n2 ∷ n1 ∷ []) turned) not_one)
    by m (is_two is) some = subst (λ (x : Node). IsToBoot shared runs_first x s) (sym is)
        (is_to_boot n2 n1 n3 (n3 ∷ n1 ∷ n2 ∷ []) s so so.two (two_lists s) (alive_in (n3 ∷ n1 ∷ n2 ∷ []) third_first) not_two)
    by m (is_three is) some = subst (λ (x : Node). IsToBoot shared runs_first x s) (sym is)
        (is_to_boot n3 n1 n2 (n2 ∷ n1 ∷ n3 ∷ []) s so so.three (three_lists s) (alive_in (n2 ∷ n1 ∷ n3 ∷ []) first_swapped) not_three)
    by m (is_none none) some = absurd (omega (arith, none, some))

-- there is such a state
pub row : BootTogether gathered
row = boots_together gathered computed

-- ---- what is so of it, and at the end

-- which of the two a node doesn't boot, what its dist_ac is told of these, and what an observer is told of each node
pub record Says (s : SystemView) : Type 0 where
  pub strange_one : strangers_of s n1 shared ≡ []
  pub strange_two : strangers_of s n2 shared ≡ []
  pub strange_three : strangers_of s n3 shared ≡ d1 ∷ d2 ∷ []
  pub rows_three : rows_of s n3 runs_first shared ≡ (d2, n1) ∷ (d1, n1) ∷ []
  pub told_one : told_there s runs_first n1
      ≡ event.Started d1 n1 Normal ∷ event.Started l1 n1 Normal ∷ event.Started d2 n1 Normal ∷ event.Booted n1 ∷ []
  pub told_two : told_there s runs_first n2 ≡ event.Started l1 n2 Normal ∷ event.Booted n2 ∷ []
  pub told_three : told_there s runs_first n3 ≡ event.Started l1 n3 Normal ∷ event.Booted n3 ∷ []

clear_says : (s : SystemView) → Says (clear s)
clear_says s = record {
  strange_one = refl;
  strange_two = refl;
  strange_three = refl;
  rows_three = refl;
  told_one = refl;
  told_two = refl;
  told_three = refl;
}

pub says : Says gathered
says = subst Says (is_clear gathered computed) (clear_says gathered)

-- What dist_acs know at the end of starts that their nodes haven't asked for: the third node's, that both distributed applications run at
-- the first node, the one that started last in front, and those of the others nothing.
pub record Knows (t : SystemView) : Type 0 where
  pub one : (d : DistView) → (node_at t n1).dist ≡ Some d → d.remote_started ≡ []
  pub two : (d : DistView) → (node_at t n2).dist ≡ Some d → d.remote_started ≡ []
  pub three : (d : DistView) → (node_at t n3).dist ≡ Some d → d.remote_started ≡ (d2, n1) ∷ (d1, n1) ∷ []

-- by the law
pub ends : (t : SystemView) × Reaches gathered t × IsSettled t × Knows t
unfolding row boots_together
ends =
    let end : (k : ℕ) × (t : SystemView) × LeadsTo k gathered t × Reaches gathered t × IsSettled t
    × HaveBooted shared runs_first gathered t =
    come_to_one gathered row in (
      end.1,
      end.3,
      end.4,
      record {
        one = λ d has. ((end.5.each n1 (there n1 (omega arith))).idle d has).2 ∙ ap rows says.strange_one;
        two = λ d has. ((end.5.each n2 (there n2 (omega arith))).idle d has).2 ∙ ap rows says.strange_two;
        three = λ d has. ((end.5.each n3 (there n3 (omega arith))).idle d has).2 ∙ says.rows_three;
      },
    )
  where
    rows : List App → List (App × Node)
    rows apps = map (λ (a : App). (a, runs_first a)) (reverse apps)

    there : (m : Node) → 1 ≤ times m trio → 1 ≤ times m gathered.alive
    there m some = subst (λ (l : List Node). 1 ≤ times m l) (sym computed.alive) some
