-- Lists in which each node of a cluster stands once at most, and no other: how long they are, and who stands where.
use Rattle.std.proofs.Common.{◌≡◌, ◌≢◌, ◌<◌, ◌≤◌, ◌+◌, ◌++◌, ◌==◌, ℕ, zero, suc, Bool, true, false, cond, not, nat_lt, filter, List, [], ◌∷◌, length, refl, sym, ap, ◌∙◌, inl, inr, arith}
use Rattle.std.proofs.lemmas.Bool.{cases_eq, eq-eqb, ne_eqb, ltb-true, false≢true}
use Rattle.std.proofs.lemmas.List.{length-append}
use Rattle.std.proofs.lemmas.List.Elements.{filter-append}
use Rattle.rh_model.specs.ClusterView.{numbered}
use Rattle.rh_model.specs.declared.node.Node.{Node}
use Rattle.rh_otp_joins.proofs.Lists.{count_of, count_filtered, passes}
use Rattle.rh_otp_gathers.specs.Gathers.{times, one_if}
use Rattle.rh_otp_gathers.proofs.Opening.{counts_so}

-- ---- how often nodes stand in lists

pub times_both : (m : Node) (one two : List Node) → times m (one ++ two) ≡ times m one + times m two
times_both m one two =
    ap length (filter-append (λ (x : Node). x.0 == m.0) one two)
    ∙ length-append (filter (λ (x : Node). x.0 == m.0) one) (filter (λ (x : Node). x.0 == m.0) two)

pub times_here : (m x : Node) (nodes : List Node) → x.0 ≡ m.0 → times m (x ∷ nodes) ≡ suc (times m nodes)
times_here m x nodes is =
    ap (λ (b : Bool). length (cond b (x ∷ filter (λ (y : Node). y.0 == m.0) nodes) (filter (λ (y : Node). y.0 == m.0) nodes)))
    (eq-eqb x.0 m.0 is)

at_most_one : (b : Bool) → one_if b ≤ 1
at_most_one true = omega arith
at_most_one false = omega arith

is_one : (b : Bool) (k : ℕ) → k ≡ one_if b → 1 ≤ k → b ≡ true
is_one true k is some = refl
is_one false k is some = absurd (omega (arith, is, some))

-- ---- how long they are

abbrev others : ℕ → List Node → List Node
others k nodes = filter (λ (x : Node). not (x.0 == k)) nodes

parted : (k : ℕ) (nodes : List Node) → times (numbered k) nodes + length (others k nodes) ≡ length nodes
parted k [] = omega arith
parted k (x ∷ nodes) = by (x.0 == k) (parted k nodes)
  where
    by : (c : Bool) → times (numbered k) nodes + length (others k nodes) ≡ length nodes
        → length (cond c (x ∷ filter (λ (y : Node). y.0 == k) nodes) (filter (λ (y : Node). y.0 == k) nodes))
        + length (cond (not c) (x ∷ others k nodes) (others k nodes)) ≡ suc (length nodes)
    by true is = omega (arith, is)
    by false is = omega (arith, is)

kept_few : (k : ℕ) (m : Node) (nodes : List Node) → times m (others k nodes) ≤ times m nodes
kept_few k m nodes =
    let p : Node → Bool = λ (x : Node). not (x.0 == k) in
    omega (arith, counts_so m (filter p nodes), counts_so m nodes, count_filtered p m nodes)

none_left : (k : ℕ) (m : Node) (nodes : List Node) → m.0 ≡ k → times m (others k nodes) ≡ 0
none_left k m nodes is = by (count_of m (others k nodes)) refl
  where
    by : (j : ℕ) → count_of m (others k nodes) ≡ j → times m (others k nodes) ≡ 0
    by zero none = sym (counts_so m (others k nodes)) ∙ none
    by (suc j) some =
        absurd (false≢true (sym (ap not (eq-eqb m.0 k is))
        ∙ passes (λ (x : Node). not (x.0 == k)) m nodes (omega (arith, some))))

-- no more than there are numbers
pub few_nodes : (k : ℕ) (nodes : List Node) → ((m : Node) → times m nodes ≤ 1) → ((m : Node) → k ≤ m.0 → times m nodes ≡ 0)
    → length nodes ≤ k
few_nodes zero [] once none = omega arith
few_nodes zero (x ∷ nodes) once none = absurd (omega (arith, none x (omega arith), times_here x x nodes refl))
few_nodes (suc k) nodes once none =
    omega (
      arith,
      parted k nodes,
      once (numbered k),
      few_nodes k (others k nodes) (λ m. omega (arith, kept_few k m nodes, once m)) left,
    )
  where
    left : (m : Node) → k ≤ m.0 → times m (others k nodes) ≡ 0
    left m past = elim (cases_eq m.0 k) [
      | inl is ↦ none_left k m nodes is
      | inr other ↦ omega (arith, kept_few k m nodes, none m (omega (arith, past, other)))
    ]

-- ---- who stands where

-- One of the nodes that begin, and the last one: neither has begun yet, both are of the cluster, and they aren't the same.
pub record IsNext (count : ℕ) (done : List Node) (n last : Node) : Type 0 where
  pub new : times n done ≡ 0
  pub inside : n.0 < count
  pub new_too : times last done ≡ 0
  pub inside_too : last.0 < count
  pub apart : last.0 ≢ n.0

pub is_next : (count : ℕ) (done rest : List Node) (n last : Node)
    → ((m : Node) → times m (done ++ (n ∷ rest) ++ last ∷ []) ≡ one_if (nat_lt m.0 count)) → IsNext count done n last
is_next count done rest n last once = record {
  new = omega (arith, parts n, here, limit n);
  inside = ltb-true n.0 count (is_one (nat_lt n.0 count) (times n all) (once n) (omega (arith, parts n, here)));
  new_too = omega (arith, parts last, its_own, limit last);
  inside_too = ltb-true last.0 count (is_one (nat_lt last.0 count) (times last all) (once last) (omega (arith, parts last, its_own)));
  apart = λ is. absurd (omega (arith, parts n, here, limit n, times_here n last [] is));
}
  where
    all : List Node
    all = done ++ (n ∷ rest) ++ last ∷ []

    parts : (m : Node) → times m all ≡ times m done + times m (n ∷ rest) + times m (last ∷ [])
    parts m = omega (arith, times_both m (done ++ (n ∷ rest)) (last ∷ []), times_both m done (n ∷ rest))

    limit : (m : Node) → times m all ≤ 1
    limit m = omega (arith, once m, at_most_one (nat_lt m.0 count))

    here : times n (n ∷ rest) ≡ suc (times n rest)
    here = times_here n n rest refl

    its_own : times last (last ∷ []) ≡ suc (times last [])
    its_own = times_here last last [] refl

-- Where one node is left it hasn't begun, and each other one of the cluster has.
pub record IsOneLeft (count : ℕ) (done : List Node) (last : Node) : Type 0 where
  pub new : times last done ≡ 0
  pub inside : last.0 < count
  pub others : (m : Node) → nat_lt m.0 count ≡ true → m.0 ≢ last.0 → 1 ≤ times m done

pub is_one_left : (count : ℕ) (done : List Node) (last : Node)
    → ((m : Node) → times m (done ++ last ∷ []) ≡ one_if (nat_lt m.0 count)) → IsOneLeft count done last
is_one_left count done last once = record {
  new = omega (arith, times_both last done (last ∷ []), its_own, once last, at_most_one (nat_lt last.0 count));
  inside =
      ltb-true last.0 count
      (is_one (nat_lt last.0 count) (times last (done ++ last ∷ [])) (once last)
      (omega (arith, times_both last done (last ∷ []), its_own)));
  others = λ m is other. omega (arith, once m, ap one_if is, times_both m done (last ∷ []), not_it m other);
}
  where
    its_own : times last (last ∷ []) ≡ suc (times last [])
    its_own = times_here last last [] refl

    not_it : (m : Node) → m.0 ≢ last.0 → times m (last ∷ []) ≡ 0
    not_it m other =
        ap (λ (b : Bool). length (cond b (last ∷ []) [])) (ne_eqb last.0 m.0 (λ is. other (sym is)))
