-- Only a node that is in both lists is a standby of both applications.
use Rattle.std.proofs.Common.{◌≡◌, ℕ, Bool, true, false, not, ◌&&◌, ◌||◌, List, [], ◌∷◌, Option, Some, None, is_some, refl}
use Rattle.std.specs.List.{list_any}
use Rattle.rh_state.specs.Numbers.{same_node}
use Rattle.rh_file_lint.specs.declared.losses.Place.{Place}
use Rattle.rh_file_lint.specs.Losses.{isnt_behind, can_contend, is_standby_of, can_be_lost_to, has_rival}
use Rattle.rh_file_lint.specs.Rows.{is_in_both}

-- ---- tests of which one fails
fails_second : (a b c : Bool) → b ≡ false → (a && b && c) ≡ false
fails_second true false c h = refl
fails_second true true c h = cc
fails_second false b c h = refl

fails_third : (a b c : Bool) → c ≡ false → (a && b && c) ≡ false
fails_third true true c h = h
fails_third true false c h = refl
fails_third false b c h = refl

either_fails : (a b : Bool) → a ≡ false → (a && b) ≡ false
either_fails false b h = refl
either_fails true b h = cc

-- ---- what is in no list stands behind nothing
behind_nothing : (o p : Option ℕ) → is_some p ≡ false → isnt_behind o p ≡ false
behind_nothing None None h = refl
behind_nothing None (Some j) h = refl
behind_nothing (Some i) None h = refl
behind_nothing (Some i) (Some j) h = cc

no_standby : (k n : Place) → is_in_both n ≡ false → is_standby_of k n ≡ false
unfolding is_standby_of
no_standby k n h = by (is_some n.first) (is_some n.second) refl refl h
  where
    by : (a b : Bool) → is_some n.first ≡ a → is_some n.second ≡ b → (a && b) ≡ false → is_standby_of k n ≡ false
    by false b one two both = fails_second (not (same_node k.node n.node)) (isnt_behind k.first n.first) (isnt_behind k.second n.second) (behind_nothing k.first n.first one)
    by true false one two both = fails_third (not (same_node k.node n.node)) (isnt_behind k.first n.first) (isnt_behind k.second n.second) (behind_nothing k.second n.second two)
    by true true one two both = cc

-- ---- so none is lost to a node that isn't in both
none_lost : (places : List Place) (n m : Place) → is_in_both n ≡ false → list_any (λ (k : Place). is_standby_of k n && is_standby_of k m) places ≡ false
none_lost [] n m h = refl
none_lost (k ∷ ks) n m h = λ i. either_fails (is_standby_of k n) (is_standby_of k m) (no_standby k n h) i || none_lost ks n m h i

fails_last : (a b : Bool) → b ≡ false → (a && b) ≡ false
fails_last true b h = h
fails_last false b h = refl

none_lost_beside : (places : List Place) (n m : Place) → is_in_both m ≡ false → list_any (λ (k : Place). is_standby_of k n && is_standby_of k m) places ≡ false
none_lost_beside [] n m h = refl
none_lost_beside (k ∷ ks) n m h = λ i. fails_last (is_standby_of k n) (is_standby_of k m) (no_standby k m h) i || none_lost_beside ks n m h i

pub rival_in_both : (places : List Place) (n m : Place) → is_in_both m ≡ false → can_be_lost_to places n m ≡ false
unfolding can_be_lost_to
rival_in_both places n m h =
    fails_third (not (same_node n.node m.node)) (can_contend n m) (list_any (λ (k : Place). is_standby_of k n && is_standby_of k m) places) (none_lost_beside places n m h)

alone : (places : List Place) (n m : Place) → is_in_both n ≡ false → can_be_lost_to places n m ≡ false
unfolding can_be_lost_to
alone places n m h =
    fails_third (not (same_node n.node m.node)) (can_contend n m) (list_any (λ (k : Place). is_standby_of k n && is_standby_of k m) places) (none_lost places n m h)

none_beside : (places rivals : List Place) (n : Place) → is_in_both n ≡ false → list_any (can_be_lost_to places n) rivals ≡ false
none_beside places [] n h = refl
none_beside places (m ∷ ms) n h = λ i. alone places n m h i || none_beside places ms n h i

pub node_in_both : (places : List Place) (n : Place) → is_in_both n ≡ false → has_rival places n ≡ false
unfolding has_rival
node_in_both places n h = none_beside places places n h
