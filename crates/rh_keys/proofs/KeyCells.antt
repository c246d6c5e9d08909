-- Bytes of a key that are written into cells, place by place.
use Rattle.std.proofs.Common.{◌≡◌, ◌<◌, ◌≤◌, ◌+◌, ◌*◌, ◌++◌, ℕ, suc, true, cond, List, [], ◌∷◌, Option, Some, None, IfSome, length, take, set, slice_get, refl, sym, ap, ◌∙◌, arith}
use Rattle.std.proofs.Common.{append_assoc, subst, nat_lt, lt-ltb, ◌^◌}
use Rattle.std.specs.List.{flat_map}
use Rattle.std.specs.Option.{option_map}
use Rattle.std.specs.Int.{w64, to_le_bytes}
use Rattle.std.proofs.lemmas.List.{length-set, take_more_set}
use Rattle.std.proofs.Math.Nat.{suc-mul}
use Rattle.rh_model.specs.ClusterView.{ClusterView, node_count, app_count}
use Rattle.rh_model.specs.declared.node.Node.{Node}
use Rattle.rh_model.specs.declared.node.App.{App}
use Rattle.rh_state.specs.declared.status.Mode.{Mode}
use Rattle.rh_state.specs.declared.status.Mode.TheVariants.{Down, Waiting, Up}
use Rattle.rh_state.specs.declared.status.Standing.{Standing}
use Rattle.rh_state.specs.declared.status.Standing.TheVariants as standing
use Rattle.rh_state.specs.Lists.{has_app, next_app}
use Rattle.rh_state.specs.Pairs.{app_of_pair, IsPairOfNode}
use Rattle.rh_state.specs.Shape.{IsAppOf, IsStandingOf}
use Rattle.rh_state.proofs.Pairs.{IsAppOf-pair}
use Rattle.rh_state.proofs.ListWalks.{left_of, all_left, left_more, once_of}
use Rattle.rh_calls.proofs.Walks.{IsWalked, Once, is_there, walk_begins, walk_goes_on, walk_ends, walk_shortens}
use Rattle.rh_state.specs.StateView.{StateView, restart_of, is_allowed}
use Rattle.rh_keys.specs.Codes.{number_code, code}
use Rattle.rh_keys.specs.Packed.{pair_number, packed_pair}
use Rattle.rh_keys.specs.Keys.{mode_number, standing_numbers, app_number}
use Rattle.rh_keys.proofs.KeyCodes.{app_code, code-append, code_each}
use Rattle.rh_keys.proofs.KeyParts.{pair_small}

-- ---- a small number is a byte
pub one_code : (n : ℕ) → n < 255 → number_code n ≡ n ∷ []
unfolding number_code
one_code n h = ap (λ b. cond b (n ∷ []) (cond (nat_lt n (2 ^ 64)) (255 ∷ to_le_bytes w64 n) (256 ∷ n ∷ []))) (lt-ltb n 255 h)

pub pair_code : (s : StateView) (n : Node) (a : App) → code (packed_pair s n a) ≡ pair_number (restart_of s n a) (is_allowed s n a) ∷ []
unfolding packed_pair
pair_code s n a = ap (λ (l : List ℕ). l ++ []) (one_code (pair_number (restart_of s n a) (is_allowed s n a)) (pair_small (restart_of s n a) (is_allowed s n a)))

pub two_code : (a b : ℕ) → a < 255 → b < 255 → code (a ∷ b ∷ []) ≡ a ∷ b ∷ []
two_code a b h k = ap (λ (l : List ℕ). l ++ (number_code b ++ [])) (one_code a h) ∙ ap (λ (l : List ℕ). a ∷ (l ++ [])) (one_code b k)

pub standing_code : (c : ClusterView) (st : Standing) → node_count c ≤ 64 → IsStandingOf c st → code (standing_numbers st) ≡ standing_numbers st
standing_code c standing.Quiet few h = two_code 0 0 (omega arith) (omega arith)
standing_code c (standing.Wanted None) few h = two_code 1 0 (omega arith) (omega arith)
standing_code c (standing.Wanted (Some m)) few h = two_code 2 m.0 (omega arith) (omega (arith, few, h))
standing_code c (standing.Running m) few h = two_code 3 m.0 (omega arith) (omega (arith, few, h))
standing_code c (standing.Lost m) few h = two_code 4 m.0 (omega arith) (omega (arith, few, h))

app_byte : (c : ClusterView) (a : App) → app_count c ≤ 128 → IsAppOf c a → app_code a ≡ (a.0 + 1) ∷ []
app_byte c a few h = ap (λ (l : List ℕ). l ++ []) (one_code (a.0 + 1) (omega (arith, few, h)))

-- ---- two bytes more
pub two_put : (cells : List ℕ) (at end a b : ℕ) → end ≡ at + 2 → at + 1 < length cells → take end (set (set cells at a) (at + 1) b) ≡ take at cells ++ a ∷ b ∷ []
two_put cells at end a b is l =
    let long = length-set cells at a in
    let on : end ≡ at + 1 + 1 = omega (arith, is) in
    ap (λ (n : ℕ). take n (set (set cells at a) (at + 1) b)) on
    ∙ take_more_set (set cells at a) (at + 1) b (omega (arith, l, long))
    ∙ ap (λ (t : List ℕ). t ++ b ∷ []) (take_more_set cells at a (omega (arith, l)))
    ∙ append_assoc (take at cells) (a ∷ []) (b ∷ [])

-- ---- a walk along a list of a node, by the numbers of pairs
apps_of_node : (c : ClusterView) (n : Node) (o : Option ℕ) → IfSome o (IsPairOfNode c n) → IfSome (option_map (app_of_pair c n) o) (IsAppOf c)
apps_of_node c n None h = tt
apps_of_node c n (Some p) h = IsAppOf-pair c n p h

pair_next : (c : ClusterView) (n : Node) (o : Option ℕ) (p : ℕ) → IfSome o (IsPairOfNode c n) → o ≡ Some p → IsPairOfNode c n p
pair_next c n None p h is = cc
pair_next c n (Some q) p h is = subst (λ (x : Option ℕ). IfSome x (IsPairOfNode c n)) is h

-- what was written so far, what is next, and how many places are left
pub record IsPut (c : ClusterView) (n : Node) (apps : List App) (at : ℕ) (before : List ℕ) (end : ℕ) (cells : List ℕ) (next : Option ℕ) : Type 0 where
  pub walked : IsWalked c app_code apps (take at before) (take end cells) (option_map (app_of_pair c n) next)
  pub pair : IfSome next (IsPairOfNode c n)
  pub long : length cells ≡ length before
  pub room : end + length (left_of apps (option_map (app_of_pair c n) next)) ≡ at + length apps

module _ (c : ClusterView) (n : Node) (apps : List App) (at : ℕ) (before : List ℕ) where
  pub put_begins : (next : Option ℕ) → option_map (app_of_pair c n) next ≡ slice_get apps 0 → IfSome next (IsPairOfNode c n)
      → IsPut c n apps at before at before next
  put_begins next first pair = record {
    walked = walk_begins c app_code apps (take at before) (option_map (app_of_pair c n) next) first (apps_of_node c n next pair);
    pair = pair;
    long = refl;
    room = ap (λ (o : Option App). at + length (left_of apps o)) first ∙ ap (λ (l : List App). at + length l) (all_left apps);
  }

  module _ (end : ℕ) (cells : List ℕ) (next : Option ℕ) (w : IsPut c n apps at before end cells next) where
    pub put_length : next ≡ None → end ≡ at + length apps
    put_length none =
        let left : length (left_of apps (option_map (app_of_pair c n) next)) ≡ 0 = ap (λ (o : Option ℕ). length (left_of apps (option_map (app_of_pair c n) o))) none in
        let all = w.room in
        omega (arith, left, all)

    pub put_bytes : next ≡ None → take end cells ≡ take at before ++ code (flat_map app_number apps)
    put_bytes none =
        walk_ends c app_code apps (take at before) (take end cells) (option_map (app_of_pair c n) next) w.walked (ap (option_map (app_of_pair c n)) none)
        ∙ ap (λ (l : List ℕ). take at before ++ l) (code_each app_number apps)

    module _ (p : ℕ) (is : next ≡ Some p) where
      pub put_pair : IsPairOfNode c n p
      put_pair = pair_next c n next p w.pair is

      app_is : option_map (app_of_pair c n) next ≡ Some (app_of_pair c n p)
      app_is = ap (option_map (app_of_pair c n)) is

      pub put_there : has_app apps (app_of_pair c n p) ≡ true
      put_there = is_there c app_code apps (take at before) (take end cells) (option_map (app_of_pair c n) next) w.walked (app_of_pair c n p) app_is

      left_here : Once apps → length (left_of apps (option_map (app_of_pair c n) next)) ≡ 1 + length (left_of apps (next_app apps (app_of_pair c n p)))
      left_here once =
          let more = ap (λ (l : List App). length l) (left_more apps (app_of_pair c n p) (once_of apps once) put_there) in
          let here = ap (λ (o : Option App). length (left_of apps o)) app_is in
          omega (arith, more, here)

      -- there is a place for it
      pub put_within : Once apps → at + length apps ≤ length before → end < length cells
      put_within once few =
          let here = left_here once in
          let all = w.room in
          let long = w.long in
          omega (arith, here, all, long, few)

      pub put_goes_on : Once apps → app_count c ≤ 128 → at + length apps ≤ length before → (byte last : ℕ) (later : Option ℕ)
          → byte ≡ (app_of_pair c n p).0 + 1 → last ≡ end + 1
          → option_map (app_of_pair c n) later ≡ next_app apps (app_of_pair c n p) → IfSome later (IsPairOfNode c n)
          → IsPut c n apps at before last (set cells end byte) later
      put_goes_on once small few byte last later value one behind pair =
          let a = app_of_pair c n p in
          let here = left_here once in
          let all = w.room in
          let rest = ap (λ (o : Option App). length (left_of apps o)) behind in
          record {
            walked = walk_goes_on c app_code apps (take at before) (take end cells) (option_map (app_of_pair c n) next) w.walked a app_is once
                (take last (set cells end byte)) (option_map (app_of_pair c n) later)
                (ap (λ (k : ℕ). take k (set cells end byte)) one
                ∙ take_more_set cells end byte (put_within once few)
                ∙ ap (λ (b : ℕ). take end cells ++ b ∷ []) value
                ∙ ap (λ (l : List ℕ). take end cells ++ l) (sym (app_byte c a small (IsAppOf-pair c n p put_pair))))
                behind (apps_of_node c n later pair);
            pair = pair;
            long = length-set cells end byte ∙ w.long;
            room = omega (arith, one, here, all, rest);
          }

      pub put_shortens : Once apps → (later : Option ℕ) → option_map (app_of_pair c n) later ≡ next_app apps (app_of_pair c n p)
          → length (left_of apps (option_map (app_of_pair c n) later)) < length (left_of apps (option_map (app_of_pair c n) next))
      put_shortens once later behind =
          walk_shortens c app_code apps (take at before) (take end cells) (option_map (app_of_pair c n) next) w.walked (app_of_pair c n p) app_is once
          (option_map (app_of_pair c n) later) behind

-- ---- what is said of a node
pub mode_small : (m : Mode) → mode_number m < 255
mode_small Down = omega arith
mode_small Waiting = omega arith
mode_small Up = omega arith

zero_first : (l : List ℕ) → code (0 ∷ l) ≡ 0 ∷ code l
zero_first l = ap (λ (t : List ℕ). t ++ code l) (one_code 0 (omega arith))

pub node_code : (m : ℕ) (runs waits pairs : List ℕ) → m < 255
    → code (m ∷ ((runs ++ 0 ∷ waits) ++ 0 ∷ pairs)) ≡ m ∷ ((code runs ++ 0 ∷ code waits) ++ 0 ∷ code pairs)
node_code m runs waits pairs h =
    let lists : code (runs ++ 0 ∷ waits) ≡ code runs ++ 0 ∷ code waits =
    code-append runs (0 ∷ waits) ∙ ap (λ (t : List ℕ). code runs ++ t) (zero_first waits) in
    let all : code ((runs ++ 0 ∷ waits) ++ 0 ∷ pairs) ≡ (code runs ++ 0 ∷ code waits) ++ 0 ∷ code pairs =
    code-append (runs ++ 0 ∷ waits) (0 ∷ pairs) ∙ (λ k. lists k ++ zero_first pairs k) in
    λ k. one_code m h k ++ all k

-- its bytes are written one part behind the other
pub node_put : (before : List ℕ) (at m : ℕ) (one : List ℕ) (r : ℕ) (two : List ℕ) (w : ℕ) (three : List ℕ) (e : ℕ) (runs waits pairs : List ℕ)
    → at < length before → take r one ≡ take (at + 1) (set before at m) ++ runs
    → r < length one → take w two ≡ take (r + 1) (set one r 0) ++ waits
    → w < length two → take e three ≡ take (w + 1) (set two w 0) ++ pairs
    → take e three ≡ take at before ++ m ∷ ((runs ++ 0 ∷ waits) ++ 0 ∷ pairs)
node_put before at m one r two w three e runs waits pairs in_before first in_one second in_two third =
    let head = take at before in
    let mode : take r one ≡ head ++ m ∷ runs =
    first ∙ ap (λ (t : List ℕ). t ++ runs) (take_more_set before at m in_before) ∙ append_assoc head (m ∷ []) runs in
    let lists : take w two ≡ head ++ m ∷ (runs ++ 0 ∷ waits) =
    second ∙ ap (λ (t : List ℕ). t ++ waits) (take_more_set one r 0 in_one ∙ ap (λ (t : List ℕ). t ++ 0 ∷ []) mode)
    ∙ append_assoc (head ++ m ∷ runs) (0 ∷ []) waits ∙ append_assoc head (m ∷ runs) (0 ∷ waits) in
    third ∙ ap (λ (t : List ℕ). t ++ pairs) (take_more_set two w 0 in_two ∙ ap (λ (t : List ℕ). t ++ 0 ∷ []) lists)
    ∙ append_assoc (head ++ m ∷ (runs ++ 0 ∷ waits)) (0 ∷ []) pairs ∙ append_assoc head (m ∷ (runs ++ 0 ∷ waits)) (0 ∷ pairs)

-- one node more takes no more than its room
pub more_room : (i end last room : ℕ) → end ≤ i * room → last ≤ end + room → last ≤ (i + 1) * room
more_room i end last room h k =
    let on : i + 1 ≡ suc i = omega arith in
    let sum : (i + 1) * room ≡ suc i * room = ap (λ (n : ℕ). n * room) on in
    let more : suc i * room ≡ i * room + room = suc-mul i room in
    omega (arith, h, k, sum, more)
