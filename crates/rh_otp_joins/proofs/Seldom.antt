-- How often two nodes have answered one another.
use Rattle.std.proofs.Common.{◌≡◌, ◌≤◌, ◌+◌, ◌++◌, ◌==◌, ◌&&◌, nat_le, Bool, true, false, cond, List, [], ◌∷◌, length, filter, None, refl, ap, ◌∙◌, arith}
use Rattle.std.proofs.lemmas.Bool.{eqb-true, eq-eqb, false≢true}
use Rattle.std.proofs.lemmas.List.{length-append}
use Rattle.std.proofs.lemmas.List.Elements.{filter-append}
use Rattle.rh_model.specs.declared.node.Node.{Node}
use Rattle.rh_otp_system.specs.declared.slow.Answered.{Answered}
use Rattle.rh_otp_system.specs.Working.{pair_of, is_answer, answer_count}
use Rattle.rh_otp_joins.proofs.Lists.{more_if}

pub answers_more : (xs ys : List Answered) (p : Answered) → answer_count (xs ++ ys) p ≡ answer_count xs p + answer_count ys p
answers_more xs ys p =
    ap length (filter-append (λ (x : Answered). is_answer x p) xs ys)
    ∙ length-append (filter (λ (x : Answered). is_answer x p) xs) (filter (λ (x : Answered). is_answer x p) ys)

-- with one node at both ends the other ends are the same
pub same_other : (x m n : Node) → is_answer (pair_of x n None) (pair_of m n None) ≡ true → x.0 ≡ m.0
same_other x m n is = by (nat_le x.0 n.0) (nat_le m.0 n.0) refl refl is
  where
    both : (a b : Bool) → (a && b && true) ≡ true → (a ≡ true) × (b ≡ true)
    both true true is = (refl, refl)
    both true false is = absurd (false≢true is)
    both false true is = absurd (false≢true is)
    both false false is = absurd (false≢true is)

    first : Node → Node → Answered
    first a b = record { one = a; two = b; app = None }

    by : (p q : Bool) → nat_le x.0 n.0 ≡ p → nat_le m.0 n.0 ≡ q
        → is_answer (cond p (first x n) (first n x)) (cond q (first m n) (first n m)) ≡ true → x.0 ≡ m.0
    by true true less less_too is = eqb-true x.0 m.0 (both (x.0 == m.0) (n.0 == n.0) is).0
    by true false less more is =
        let parts : ((x.0 == n.0) ≡ true) × ((n.0 == m.0) ≡ true) = both (x.0 == n.0) (n.0 == m.0) is in
        eqb-true x.0 n.0 parts.0 ∙ eqb-true n.0 m.0 parts.1
    by false true more less is =
        let parts : ((n.0 == m.0) ≡ true) × ((x.0 == n.0) ≡ true) = both (n.0 == m.0) (x.0 == n.0) is in
        eqb-true x.0 n.0 parts.1 ∙ eqb-true n.0 m.0 parts.0
    by false false more more_too is = eqb-true x.0 m.0 (both (n.0 == n.0) (x.0 == m.0) is).1

-- so an answer of one counts as one of the other only where both are the same node
pub counts_once : (x m n : Node) (b : Bool) → answer_count (cond b (pair_of x n None ∷ []) []) (pair_of m n None) ≤ more_if (x.0 == m.0) 0
counts_once x m n false = omega arith
counts_once x m n true = by (is_answer (pair_of x n None) (pair_of m n None)) refl
  where
    by : (c : Bool) → is_answer (pair_of x n None) (pair_of m n None) ≡ c → length (cond c (pair_of x n None ∷ []) []) ≤ more_if (x.0 == m.0) 0
    by false is = omega arith
    by true is =
        let same : more_if (x.0 == m.0) 0 ≡ 1 = ap (λ (c : Bool). more_if c 0) (eq-eqb x.0 m.0 (same_other x m n is)) in
        omega (arith, same)
