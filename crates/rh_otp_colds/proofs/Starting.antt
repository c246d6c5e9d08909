-- What a cold start says of those that are alive, that one begins where no node has begun, and that one ends with the last node.
use Rattle.std.proofs.Common.{◌≡◌, ◌≢◌, ◌≤◌, ◌⊎◌, ◌+◌, ◌==◌, ◌&&◌, ◌||◌, ℕ, zero, suc, Bool, true, false, not, List, slice_get, unwrap_or, is_some, Option, Some, None, refl, sym, ap, subst, ◌∙◌, inl, inr, arith}
use Rattle.std.proofs.Math.Bool.{and-true, and-false}
use Rattle.std.proofs.lemmas.Bool.{cases_Bool, cases_eq, eq-eqb, ne_eqb, false≢true}
use Rattle.std.proofs.lemmas.Option.{none-some}
use Rattle.rh_model.specs.ClusterView.{is_in, mandatory_of, optional_of}
use Rattle.rh_model.specs.declared.node.Node.{Node}
use Rattle.rh_otp_dist.specs.State.{DistView}
use Rattle.rh_otp_net.specs.Links.{linked_with}
use Rattle.rh_otp_node.specs.Live.{LiveView, never_begun, is_alive, is_up, is_ending}
use Rattle.rh_otp_system.specs.declared.calls.Call.{Call}
use Rattle.rh_otp_system.specs.declared.moves.Move.TheVariants as move
use Rattle.rh_otp_system.specs.Moves.{IsSettled}
use Rattle.rh_otp_system.specs.State.{SystemView, live_at, node_at, own_at, is_alive_at}
use Rattle.rh_otp_laws.specs.Acting.{IsThere, IsNew}
use Rattle.rh_otp_crashes.specs.Crashes.{IsUnoccupied, AreAtRest}
use Rattle.rh_otp_crashes.proofs.Crossing.{same_node}
use Rattle.rh_otp_crashes.proofs.Peace.{is_free_at_ease, no_place, no_lock_at}
use Rattle.rh_otp_joins.proofs.Lists.{count_of}
use Rattle.rh_otp_waits.specs.Together.{AllNameAll, AllWait}
use Rattle.rh_otp_waits.specs.Waits.{is_listed, is_awaited}
use Rattle.rh_otp_waits.proofs.Boot.{begins_unoccupied}
use Rattle.rh_otp_waits.proofs.Waiting.{awaiting_waits}
use Rattle.rh_otp_gathers.specs.Gathers.{times, one_if}
use Rattle.rh_otp_gathers.specs.LastBoot.{IsLast}
use Rattle.rh_otp_gathers.proofs.Begun.{in_count_by}
use Rattle.rh_otp_gathers.proofs.Opening.{counts_so}
use Rattle.rh_otp_colds.specs.Colds.{is_there, NameEachOther, HasBegun, IsColdStart}

-- ---- who stands in one of two lists

pub is_one_of : (a b : Bool) → one_if a + one_if b ≡ 1 → (a || b) ≡ true
is_one_of true b is = refl
is_one_of false true is = refl
is_one_of false false is = absurd (omega (arith, is))

pub is_none_of : (a b : Bool) → one_if a + one_if b ≡ 0 → (a || b) ≡ false
is_none_of true b is = absurd (omega (arith, is))
is_none_of false true is = absurd (omega (arith, is))
is_none_of false false is = refl

pub there_so : (s : SystemView) (x : Node) → IsThere x s → is_there s x ≡ true
there_so s x there = ap is_some there.1

pub is_there_so : (s : SystemView) (x : Node) → is_there s x ≡ true → IsThere x s
is_there_so s x is = by (live_at s x) refl is
  where
    by : (o : Option LiveView) → live_at s x ≡ o → is_some o ≡ true → IsThere x s
    by None at some = absurd (false≢true some)
    by (Some v) at some = (v, at)

-- as it is listed
pub listed_by : (s : SystemView) (n x : Node) → NameEachOther s → IsThere n s → is_listed s.cluster n x ≡ (is_there s x && not (x.0 == n.0))
listed_by s n x names there = by (is_there s x && not (x.0 == n.0)) (names.lists n x there)
  where
    by : (c : Bool) → one_if (is_in x (mandatory_of s.cluster n)) + one_if (is_in x (optional_of s.cluster n)) ≡ one_if c
        → is_listed s.cluster n x ≡ c
    by true one = is_one_of (is_in x (mandatory_of s.cluster n)) (is_in x (optional_of s.cluster n)) one
    by false none = is_none_of (is_in x (mandatory_of s.cluster n)) (is_in x (optional_of s.cluster n)) none

pub lists_other : (s : SystemView) (n x : Node) → NameEachOther s → IsThere n s → IsThere x s → x.0 ≢ n.0 → is_listed s.cluster n x ≡ true
lists_other s n x names there there_too apart =
    listed_by s n x names there ∙ (λ i. there_so s x there_too i && not (ne_eqb x.0 n.0 apart i))

pub name_all : (s : SystemView) → NameEachOther s → AllNameAll s
name_all s names n m there there_too apart = (names.wait n there, lists_other s n m names there there_too (λ is. apart (sym is)))

-- ---- who is alive

module _ (s : SystemView) (f : IsColdStart s) where
  pub waits_so : (m : Node) → 1 ≤ times m s.alive → is_alive_at s m ≡ true
  waits_so m some = ap is_alive (f.begun m some).node

  pub dead_so : (m : Node) → times m s.alive ≡ 0 → is_alive_at s m ≡ false
  dead_so m none = ap is_alive (f.new m none)

  pub listed_alive : (m : Node) → is_alive_at s m ≡ true → 1 ≤ times m s.alive
  listed_alive m alive = by (times m s.alive) refl
    where
      by : (k : ℕ) → times m s.alive ≡ k → 1 ≤ times m s.alive
      by zero none = absurd (false≢true (sym (dead_so m none) ∙ alive))
      by (suc k) some = omega (arith, some)

  pub unlisted_dead : (m : Node) → is_alive_at s m ≡ false → times m s.alive ≡ 0
  unlisted_dead m dead = by (times m s.alive) refl
    where
      by : (k : ℕ) → times m s.alive ≡ k → times m s.alive ≡ 0
      by zero none = none
      by (suc k) some = absurd (false≢true (sym dead ∙ waits_so m (omega (arith, some))))

  pub in_alive : (m : Node) → is_in m s.alive ≡ is_alive_at s m
  in_alive m = by (cases_Bool (is_alive_at s m)) (cases_Bool (is_in m s.alive))
    where
      by : (is_alive_at s m ≡ true) ⊎ (is_alive_at s m ≡ false) → (is_in m s.alive ≡ true) ⊎ (is_in m s.alive ≡ false)
          → is_in m s.alive ≡ is_alive_at s m
      by (inl alive) c =
          (in_count_by m s.alive).1 (subst (λ (k : ℕ). 1 ≤ k) (sym (counts_so m s.alive)) (listed_alive m alive)) ∙ sym alive
      by (inr dead) (inr out) = out ∙ sym dead
      by (inr dead) (inl among) =
          absurd (let some : 1 ≤ count_of m s.alive = (in_count_by m s.alive).0 among in
          let same : count_of m s.alive ≡ times m s.alive = counts_so m s.alive in
          let none : times m s.alive ≡ 0 = unlisted_dead m dead in
          omega (arith, some, same, none))

  pub awaits_so : (m k : Node) → 1 ≤ times m s.alive → IsThere k s → is_alive_at s k ≡ false → is_awaited (node_at s m) k ≡ true
  awaits_so m k some there dead =
      is_one_of (is_in k (node_at s m).mandatory) (is_in k (node_at s m).optional)
      ((f.begun m some).awaits k ∙ (λ i. one_if (there_so s k there i && not ((in_alive k ∙ dead) i))))

  -- nothing moves, and nobody does anything
  node_free : (m : Node) (d : DistView) → (node_at s m).dist ≡ Some d → IsUnoccupied d
  node_free m d has = by (times m s.alive) refl
    where
      by : (k : ℕ) → times m s.alive ≡ k → IsUnoccupied d
      by zero none = absurd (none-some d (sym (ap (λ (v : LiveView). v.dist) (f.new m none)) ∙ has))
      by (suc k) some =
          begins_unoccupied s.cluster (own_at s m) m d (sym (ap (λ (v : LiveView). v.dist) (f.begun m (omega (arith, some))).node) ∙ has)

  not_ending : (m : Node) → is_ending (node_at s m) ≡ false
  not_ending m = by (times m s.alive) refl
    where
      by : (k : ℕ) → times m s.alive ≡ k → is_ending (node_at s m) ≡ false
      by zero none = ap is_ending (f.new m none)
      by (suc k) some = ap is_ending (f.begun m (omega (arith, some))).node

  settled_so : IsSettled s
  settled_so (move.Deliver place) possible = no_place s.messages place f.messages possible
  settled_so (move.Slow place) possible = no_place s.slow place f.slow possible.1
  settled_so (move.Lock n) possible =
      false≢true (sym (no_lock_at n s (node_at s n).dist (λ d has. is_free_at_ease d (node_free n d has))) ∙ possible.2)
  settled_so (move.Call place) possible =
      none-some possible.1.0 (sym (ap (λ (l : List Call). slice_get l place) f.calls) ∙ possible.1.1)
  settled_so (move.End n) possible =
      false≢true (sym (ap (λ (c : Bool). c && (s.ends_soon || not (node_at s n).is_stopped)) (not_ending n)) ∙ possible.2)

  pub at_rest : AreAtRest s
  at_rest = record { settled = settled_so; calls = f.calls; dists = λ n d alive has. node_free n d has }

  -- all wait for all that aren't alive
  pub all_wait : AllWait s
  all_wait = record {
    names = name_all s f.names;
    rest = at_rest;
    waits = λ m k alive there dead.
        let some : 1 ≤ times m s.alive = listed_alive m alive in
        (ap is_up (f.begun m some).node, awaits_so m k some there dead);
  }

-- ---- where no node has begun

pub new_cold : (s : SystemView) → IsNew s → NameEachOther s → IsColdStart s
new_cold s new names = record {
  names = names;
  once = λ m. (let none : times m s.alive ≡ 0 = ap (times m) new.alive in omega (arith, none));
  begun = λ m some. absurd (let none : times m s.alive ≡ 0 = ap (times m) new.alive in omega (arith, none, some));
  new = λ m none. new.nodes m;
  unseen = λ m none. ap (linked_with m) new.links;
  locks = new.locks;
  messages = new.messages;
  slow = new.slow;
  calls = new.calls;
}

-- ---- where one node is left

pub is_last : (s : SystemView) (n other : Node) → IsColdStart s → IsThere n s → is_alive_at s n ≡ false
    → ((m : Node) → IsThere m s → m.0 ≢ n.0 → is_alive_at s m ≡ true) → is_alive_at s other ≡ true → IsLast n s
is_last s n other f there down all some = record {
  there = there;
  file = f.names.wait n there;
  down = unlisted_dead s f n down;
  unseen = f.unseen n (unlisted_dead s f n down);
  lists = λ x. listed_by s n x f.names there ∙ but_itself x (cases_eq x.0 n.0);
  other = other;
  some = listed_alive s f other some;
  once = f.once;
  others = λ m listed.
      let b : HasBegun m s = f.begun m listed in
      record {
        there = b.there;
        phase = ap (λ (v : LiveView). v.phase) b.node;
        waits = awaiting_waits n (node_at s m) (awaits_so s f m n listed there down);
        alone = λ x. (let awaits : one_if (is_in x (node_at s m).mandatory) + one_if (is_in x (node_at s m).optional)
            ≡ one_if (is_there s x && not (is_in x s.alive)) = b.awaits x in
            let less : one_if (is_there s x && not (is_in x s.alive)) ≤ one_if (x.0 == n.0) = alone x (cases_eq x.0 n.0) in
            omega (arith, awaits, less));
        fresh = ap (λ (v : LiveView). v.dist) b.node;
        sees = b.sees;
        not_itself = b.not_itself;
      };
  messages = f.messages;
  locks = f.locks;
}
  where
    no_other : (x : Node) → x.0 ≢ n.0 → is_there s x ≡ is_in x s.alive
    no_other x apart = by (cases_Bool (is_there s x))
      where
        by : (is_there s x ≡ true) ⊎ (is_there s x ≡ false) → is_there s x ≡ is_in x s.alive
        by (inl is) = is ∙ sym (in_alive s f x ∙ all x (is_there_so s x is) apart)
        by (inr out) = out ∙ sym (in_alive s f x ∙ dead)
          where
            dead : is_alive_at s x ≡ false
            dead = nobody (live_at s x) refl out
              where
                nobody : (o : Option LiveView) → live_at s x ≡ o → is_some o ≡ false → is_alive_at s x ≡ false
                nobody None none out = ap (λ (o : Option LiveView). is_alive (unwrap_or o never_begun)) none
                nobody (Some v) is out = absurd (false≢true (sym out))

    but_itself : (x : Node) → (x.0 ≡ n.0) ⊎ (x.0 ≢ n.0) → (is_there s x && not (x.0 == n.0)) ≡ is_in x s.alive
    but_itself x (inl is) =
        ap (λ (c : Bool). is_there s x && not c) (eq-eqb x.0 n.0 is)
        ∙ and-false (is_there s x)
        ∙ sym (in_alive s f x ∙ ap (is_alive_at s) (same_node x n is) ∙ down)
    but_itself x (inr apart) =
        ap (λ (c : Bool). is_there s x && not c) (ne_eqb x.0 n.0 apart) ∙ and-true (is_there s x) ∙ no_other x apart

    alone : (x : Node) → (x.0 ≡ n.0) ⊎ (x.0 ≢ n.0) → one_if (is_there s x && not (is_in x s.alive)) ≤ one_if (x.0 == n.0)
    alone x (inl is) =
        let one : one_if (x.0 == n.0) ≡ 1 = ap one_if (eq-eqb x.0 n.0 is) in
        let most : one_if (is_there s x && not (is_in x s.alive)) ≤ 1 = at_most (is_there s x && not (is_in x s.alive)) in
        omega (arith, one, most)
      where
        at_most : (c : Bool) → one_if c ≤ 1
        at_most true = omega arith
        at_most false = omega arith
    alone x (inr apart) =
        let none : one_if (is_there s x && not (is_in x s.alive)) ≡ 0 =
        ap (λ (c : Bool). one_if (c && not (is_in x s.alive))) (no_other x apart) ∙ neither (is_in x s.alive) in
        omega (arith, none)
      where
        neither : (c : Bool) → one_if (c && not c) ≡ 0
        neither true = refl
        neither false = refl
