-- Where the last node begins all gather, and so all orders lead to one state.
use Rattle.std.proofs.Common.{◌≡◌, ◌≢◌, ◌≤◌, ◌⊎◌, ◌+◌, ◌==◌, ℕ, zero, suc, Bool, true, false, List, refl, sym, ap, subst, ◌∙◌, inl, inr, arith}
use Rattle.std.proofs.lemmas.Bool.{cases_eq, eq-eqb, ne_eqb, or_left, or_right}
use Rattle.std.proofs.lemmas.List.Elements.{All-weaker}
use Rattle.rh_model.specs.ClusterView.{is_in, mandatory_of, optional_of}
use Rattle.rh_model.specs.declared.node.Node.{Node}
use Rattle.rh_otp_model.specs.declared.output.Envelope.{Envelope}
use Rattle.rh_otp_net.specs.declared.timers.Timer.{Timer}
use Rattle.rh_otp_node.specs.Kernel as kernel
use Rattle.rh_otp_node.specs.Live.{LiveView}
use Rattle.rh_otp_system.specs.Doing.{booted, begun_at}
use Rattle.rh_otp_system.specs.State.{SystemView, node_at}
use Rattle.rh_otp_laws.proofs.Nodes.{others_as_they_were}
use Rattle.rh_otp_crashes.proofs.Crossing.{same_node}
use Rattle.rh_otp_joins.proofs.Lists.{count_of}
use Rattle.rh_otp_waits.specs.Waits.{is_listed}
use Rattle.rh_otp_gathers.specs.Gathers.{tellings, times, IsTelling, one_if, Gathers, AllGather}
use Rattle.rh_otp_gathers.specs.LastBoot.{WaitsForIt, IsLast, LastBootsComeToOneState}
use Rattle.rh_otp_gathers.proofs.Begun.{in_count_by, Begins, v, here_n, there_n, at_m, apart, alive_then, once_then, saw, own_told, they_told, n_sees, n_not_itself, m_sees, m_not_itself, waits_on, z, boots_so}
use Rattle.rh_otp_gathers.proofs.Opening.{counts_so, gathers}

listed_lives : (s : SystemView) (n : Node) → IsLast n s → (x : Node) → is_listed s.cluster n x ≡ true → times x s.alive ≡ 0 → ⊥
listed_lives s n p x is none =
    let some : 1 ≤ count_of x s.alive = (in_count_by x s.alive).0 (sym (p.lists x) ∙ is) in
    let same : count_of x s.alive ≡ times x s.alive = counts_so x s.alive in
    omega (arith, some, same, none)

-- it begins where all that are alive wait
pub begins_so : (s : SystemView) (n : Node) → IsLast n s → Begins n s
begins_so s n p = record {
  there = p.there;
  file = p.file;
  down = p.down;
  unseen = p.unseen;
  names = λ x some. p.lists x ∙ (in_count_by x s.alive).1 (subst (λ (k : ℕ). 1 ≤ k) (sym (counts_so x s.alive)) some);
  not_itself = λ is. listed_lives s n p n is p.down;
  some = p.other;
  listed = p.lists p.other ∙ (in_count_by p.other s.alive).1 (subst (λ (k : ℕ). 1 ≤ k) (sym (counts_so p.other s.alive)) p.some);
  once = p.once;
  waits = λ m some. (p.others m some).phase;
  dead = λ m is none. absurd (listed_lives s n p m is none);
  messages = p.messages;
}

module _ (s : SystemView) (n : Node) (p : IsLast n s) where
  abbrev pub q : Begins n s
  q = begins_so s n p

  abbrev messages : List Envelope
  messages = (saw s n q).messages

  module _ (timers : List Timer) where
    abbrev pub u : SystemView
    u = z s n q timers

    n_gathers : Gathers n u
    n_gathers = record {
      there = (v s n q, there_n s n q);
      phase = ap (λ (y : LiveView). y.phase) (here_n s n q);
      waits = ap kernel.waits (here_n s n q) ∙ waits_on s n q;
      told = λ x.
          subst (λ (y : LiveView). one_if (is_in x y.mandatory) + one_if (is_in x y.optional) ≤ tellings n x messages) (sym (here_n s n q))
          (told_by x (times x s.alive) refl);
      fresh = ap (λ (y : LiveView). y.dist) (here_n s n q);
      sees = n_sees s n q;
      not_itself = n_not_itself s n q;
    }
      where
        none_if : (c : Bool) → (c ≡ true → ⊥) → one_if c ≡ 0
        none_if true out = absurd (out refl)
        none_if false out = refl

        told_by : (x : Node) (k : ℕ) → times x s.alive ≡ k
            → one_if (is_in x (mandatory_of s.cluster n)) + one_if (is_in x (optional_of s.cluster n)) ≤ tellings n x messages
        told_by x (suc k) some = own_told s n q x (omega (arith, some))
        told_by x zero none =
            let one : one_if (is_in x (mandatory_of s.cluster n)) ≡ 0 =
            none_if (is_in x (mandatory_of s.cluster n)) (λ is.
            listed_lives s n p x (or_left (is_in x (mandatory_of s.cluster n)) (is_in x (optional_of s.cluster n)) is) none) in
            let two : one_if (is_in x (optional_of s.cluster n)) ≡ 0 =
            none_if (is_in x (optional_of s.cluster n)) (λ is.
            listed_lives s n p x (or_right (is_in x (mandatory_of s.cluster n)) (is_in x (optional_of s.cluster n)) is) none) in
            omega (arith, one, two)

    m_gathers : (m : Node) → 1 ≤ times m s.alive → Gathers m u
    m_gathers m some = record {
      there = (was.there.0, others_as_they_were s n m (v s n q) (apart s n q m some) ∙ was.there.1);
      phase = ap (λ (y : LiveView). y.phase) same ∙ was.phase;
      waits = ap kernel.waits same ∙ was.waits;
      told = λ x.
          subst (λ (y : LiveView). one_if (is_in x y.mandatory) + one_if (is_in x y.optional) ≤ tellings m x messages) (sym same)
          (told_by x (cases_eq x.0 n.0) (was.alone x));
      fresh = ap (λ (y : LiveView). y.dist) same ∙ was.fresh;
      sees = λ x other. m_sees s n q m some x (was.sees x other);
      not_itself = m_not_itself s n q m some was.not_itself;
    }
      where
        was : WaitsForIt n m s
        was = p.others m some

        same : node_at (begun_at n s) m ≡ node_at s m
        same = at_m s n q m (apart s n q m some)

        told_by : (x : Node) → (x.0 ≡ n.0) ⊎ (x.0 ≢ n.0)
            → one_if (is_in x (node_at s m).mandatory) + one_if (is_in x (node_at s m).optional) ≤ one_if (x.0 == n.0)
            → one_if (is_in x (node_at s m).mandatory) + one_if (is_in x (node_at s m).optional) ≤ tellings m x messages
        told_by x (inl is) less =
            let most : one_if (x.0 == n.0) ≡ 1 = ap one_if (eq-eqb x.0 n.0 is) in
            let told : 1 ≤ tellings m n messages = they_told s n q m some in
            let so : tellings m x messages ≡ tellings m n messages = ap (λ (y : Node). tellings m y messages) (same_node x n is) in
            omega (arith, less, most, told, so)
        told_by x (inr other) less =
            let none : one_if (x.0 == n.0) ≡ 0 = ap one_if (ne_eqb x.0 n.0 other) in
            omega (arith, less, none)

    pub all_gather : AllGather u
    all_gather = record {
      once = once_then s n q;
      each = λ m some. each m some (cases_eq m.0 n.0);
      messages = All-weaker (IsTelling (begun_at n s)) (IsTelling u)
          (λ e t. record { node = t.node; other = t.other; alive = t.alive; is = t.is }) messages (saw s n q).tells;
      locks = p.locks;
    }
      where
        each : (m : Node) → 1 ≤ times m (begun_at n s).alive → (m.0 ≡ n.0) ⊎ (m.0 ≢ n.0) → Gathers m u
        each m some (inl is) = subst (λ (x : Node). Gathers x u) (sym (same_node m n is)) n_gathers
        each m some (inr other) =
            m_gathers m
            (let since : times m (begun_at n s).alive ≡ times m s.alive + one_if (n.0 == m.0) = alive_then s n q m in
            let none : one_if (n.0 == m.0) ≡ 0 = ap one_if (ne_eqb n.0 m.0 (λ is. other (sym is))) in
            omega (arith, some, since, none))

-- where the node has begun all gather
pub gather_behind : (s : SystemView) (n : Node) → IsLast n s → AllGather (booted n s)
gather_behind s n p =
    let so : (timers : List Timer) × (booted n s ≡ z s n (q s n p) timers) = boots_so s n (q s n p) in
    subst AllGather (sym so.1) (all_gather s n p so.0)

pub last_boots : LastBootsComeToOneState
last_boots s n p = gathers (booted n s) (gather_behind s n p)
