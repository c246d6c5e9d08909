-- The bits of a set.
use Rattle.std.proofs.Common.{Bool, refl, not, nat_lt, IsTrue, nat_eq, ◌≡◌, ◌≢◌, ◌<◌, ◌≤◌, ◌*◌, ◌-◌, ◌^◌, ◌%◌, ◌==◌, ◌||◌, ◌&&◌, ◌⊎◌, ℕ, true, false, bit_and, w64, sym, ap, ◌∙◌, inl, inr, min}
use Rattle.std.proofs.Common.{arith}
use Rattle.std.specs.Int.{bit_at, bit_not, trailing_zeros}
use Rattle.std.specs.Int.RustNames.{bit_or}
use Rattle.std.proofs.lemmas.Bool.Decides.{nat_tests, eqb_tells}
use Rattle.std.proofs.lemmas.Bool.{cases_lt}
use Rattle.std.proofs.lemmas.Nat.{one_shl, pow_pos, or_lt, and_le_l}
use Rattle.std.proofs.lemmas.Nat.Bits.{and_pow, bit_at-lt, bit_at-zero, bit_at_above, bit_at_set_same, bit_at_set_other, same_from_bits}
use Rattle.std.proofs.lemmas.Nat.Bits.{bit_at_and, bit_at_ones, bit_at_clear_same, bit_at_clear_other, bit_at-trailing_zeros}
use Rattle.rh_model.specs.declared.node.Node.{Node}
use Rattle.rh_state.specs.Numbers.{same_node}
use Rattle.rh_place.specs.Sets.{NodeBits, has}

-- a set has no node from 64 on
pub has_none_above : (set : NodeBits) (n : Node) → set.bits < 2 ^ 64 → 64 ≤ n.0 → has set n ≡ false
unfolding has
has_none_above set n small above = ap (λ b. b == 1) (bit_at_above set.bits 64 n.0 small above)

-- one more node
pub has_more : (bits : ℕ) (node n : Node) → node.0 < 64 → has (record { bits = bit_or bits (1 * 2 ^ node.0 % 2 ^ 64) }) n
    ≡ (same_node n node || has (record { bits = bits }) n)
unfolding has
has_more bits node n small = elim (eqb_tells n.0 node.0) [
  | inl same ↦ rw same.0 (ap (λ b. b == 1) (ap (bit_at (bit_or bits (1 * 2 ^ node.0 % 2 ^ 64))) same.1 ∙ bit_at_set_same w64 bits node.0 small))
  | inr other ↦ rw other.0 (ap (λ b. b == 1) (bit_at_set_other w64 bits node.0 small n.0 other.1))
]

not_one : (b : ℕ) → b < 2 → b == 1 ≡ false → b ≡ 0
not_one b small h = grind (arith, nat_tests)

-- a set without a node is the word 0
pub no_bits : (set : NodeBits) → ((n : Node) → has set n ≡ false) → set.bits ≡ 0
unfolding has
no_bits set none = same_from_bits set.bits 0 (λ i. not_one (bit_at set.bits i) (bit_at-lt set.bits i) (none (record { 0 = i })) ∙ sym (bit_at-zero i))

pub zero_has_none : (set : NodeBits) → set.bits ≡ 0 → (n : Node) → has set n ≡ false
unfolding has
zero_has_none set zero n = ap (λ b. bit_at b n.0 == 1) zero ∙ ap (λ b. b == 1) (bit_at-zero n.0)

pub is_zero : (b : ℕ) → IsTrue (nat_eq b 0) → b ≡ 0
is_zero b h = grind (arith, nat_tests)

by_bit : (b p : ℕ) → b < 2 → 0 < p → not (b * p == 0) ≡ (b == 1)
by_bit b p small positive = elim (eqb_tells b 1) [
  | inl one ↦ rw one.1 (positive_differs p positive)
  | inr other ↦ let zero : b ≡ 0 = not_one b small other.0 in rw zero (nothing p)
]
  where
    positive_differs : (p : ℕ) → 0 < p → not (1 * p == 0) ≡ true
    positive_differs p h = grind (arith, nat_tests)

    nothing : (p : ℕ) → not (0 * p == 0) ≡ false
    nothing p = grind (arith, nat_tests)

-- a bit is tested by a mask
pub has_by_mask : (bits : ℕ) (n : Node) → n.0 < 64 → not (bit_and bits (1 * 2 ^ n.0 % 2 ^ 64) == 0) ≡ has (record { bits = bits }) n
unfolding has
has_by_mask bits n small =
    ap (λ m. not (bit_and bits m == 0)) (one_shl n.0 64 small)
    ∙ ap (λ m. not (m == 0)) (and_pow bits n.0)
    ∙ by_bit (bit_at bits n.0) (2 ^ n.0) (bit_at-lt bits n.0) (pow_pos n.0)

pub bits_more : (bits : ℕ) (node : Node) → bits < 2 ^ 64 → bit_or bits (1 * 2 ^ node.0 % 2 ^ 64) < 2 ^ 64
bits_more bits node small = or_lt 64 bits (1 * 2 ^ node.0 % 2 ^ 64) small (below (1 * 2 ^ node.0))
  where
    below : (m : ℕ) → m % 2 ^ 64 < 2 ^ 64
    below m = omega arith

pub is_above : (n k : ℕ) → k ≤ n → nat_lt n k ≡ false
is_above n k h = grind (arith, nat_tests)

-- all nodes that a set can have
pub has_every : (n : Node) → n.0 < 64 → has (record { bits = 2 ^ 64 - 1 }) n ≡ true
unfolding has
has_every n small = ap (λ b. b == 1) (bit_at_ones 64 n.0 small)

-- those of two sets
pub has_both : (b c : ℕ) (n : Node) → has (record { bits = bit_and b c }) n ≡ (has (record { bits = b }) n && has (record { bits = c }) n)
unfolding has
has_both b c n = ap (λ m. m == 1) (bit_at_and b c n.0) ∙ least (bit_at b n.0) (bit_at c n.0) (bit_at-lt b n.0) (bit_at-lt c n.0)
  where
    least : (i j : ℕ) → i < 2 → j < 2 → (min i j == 1) ≡ ((i == 1) && (j == 1))
    least i j h k = grind (arith, nat_tests)

-- one node less
pub has_less : (bits : ℕ) (node n : Node) → bits < 2 ^ 64 → node.0 < 64 → has (record { bits = bit_and bits (bit_not w64 (1 * 2 ^ node.0 % 2 ^ 64)) }) n
    ≡ (not (same_node n node) && has (record { bits = bits }) n)
unfolding has
has_less bits node n small below = elim (eqb_tells n.0 node.0) [
  | inl same ↦ rw same.0 (ap (λ b. b == 1) (ap (bit_at (bit_and bits (bit_not w64 (1 * 2 ^ node.0 % 2 ^ 64)))) same.1 ∙ bit_at_clear_same w64 bits node.0 below))
  | inr other ↦ rw other.0 (beyond_or_not (cases_lt n.0 64) other.1)
]
  where
    mask : ℕ
    mask = bit_not w64 (1 * 2 ^ node.0 % 2 ^ 64)

    beyond_or_not : (n.0 < 64) ⊎ (64 ≤ n.0) → n.0 ≢ node.0 → (bit_at (bit_and bits mask) n.0 == 1) ≡ (bit_at bits n.0 == 1)
    beyond_or_not (inl lt) other = ap (λ b. b == 1) (bit_at_clear_other w64 bits node.0 below n.0 lt other)
    beyond_or_not (inr ge) other = ap (λ b. b == 1) (bit_at_above (bit_and bits mask) 64 n.0 (let l = and_le_l bits mask in omega arith) ge
        ∙ sym (bit_at_above bits 64 n.0 small ge))

-- the lowest node
module _ (set : NodeBits) (small : set.bits < 2 ^ 64) (some : set.bits ≢ 0) where
  positive : 0 < set.bits
  positive = omega (arith, some)

  pub first_below : trailing_zeros w64 set.bits < 64
  first_below = (bit_at-trailing_zeros w64 set.bits positive small).0

  pub first_member : has set (record { 0 = trailing_zeros w64 set.bits }) ≡ true
  unfolding has
  first_member = ap (λ b. b == 1) (bit_at-trailing_zeros w64 set.bits positive small).1

  pub first_lowest : (k : Node) → k.0 < trailing_zeros w64 set.bits → has set k ≡ false
  unfolding has
  first_lowest k below = ap (λ b. b == 1) ((bit_at-trailing_zeros w64 set.bits positive small).2 k.0 below)

  pub not_none : ((n : Node) → has set n ≡ false) → true ≡ false
  not_none none = sym first_member ∙ none (record { 0 = trailing_zeros w64 set.bits })

-- without a node of it the word is less
pub fewer_bits : (bits : ℕ) (node : Node) → bits < 2 ^ 64 → node.0 < 64 → has (record { bits = bits }) node ≡ true
    → bit_and bits (bit_not w64 (1 * 2 ^ node.0 % 2 ^ 64)) < bits
fewer_bits bits node small below here = less (bit_and bits mask) bits (and_le_l bits mask)
    (λ e. clash (sym here ∙ ap (λ (b : ℕ). has (record { bits = b }) node) (sym e) ∙ has_less bits node node small below ∙ gone (nat_eq node.0 node.0) (same_self node.0)))
  where
    mask : ℕ
    mask = bit_not w64 (1 * 2 ^ node.0 % 2 ^ 64)

    less : (m n : ℕ) → m ≤ n → m ≢ n → m < n
    less m n le other = omega (arith, le, other)

    clash : {P : Type 0} → true ≡ false → P
    clash e = cc

    same_self : (i : ℕ) → nat_eq i i ≡ true
    same_self i = grind (arith, nat_tests)

    gone : (b : Bool) → b ≡ true → not b && has (record { bits = bits }) node ≡ false
    gone true e = refl
    gone false e = clash (sym e)
