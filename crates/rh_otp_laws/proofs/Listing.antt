-- Those that are alive are listed, each once.
use Rattle.std.proofs.Common.{◌≡◌, ◌≢◌, ◌<◌, ◌⊎◌, ◌↔◌, ◌++◌, ◌==◌, ℕ, zero, suc, Bool, true, false, not, List, [], ◌∷◌, length, map, slice_get, get_or, Some, refl, sym, ap, subst, ◌∙◌, inl, inr, arith}
use Rattle.std.specs.Prelude.{AllPairs}
use Rattle.std.proofs.lemmas.Bool.{false≢true, cases_eq, ne_eqb, eqb-false, not-true}
use Rattle.std.proofs.lemmas.List.Kept.{AllPairs-filter}
use Rattle.std.proofs.lemmas.List.Quantifiers.{all_pairs_push}
use Rattle.std.proofs.lemmas.Option.{none-some, same_Some, slice_get-get_or}
use Rattle.rh_model.specs.declared.node.Node.{Node}
use Rattle.rh_otp_net.specs.Timers as timers
use Rattle.rh_otp_node.specs.Kernel.{without_node}
use Rattle.rh_otp_node.specs.Live.{LiveView, is_alive, begun, with_kind}
use Rattle.rh_otp_node.specs.Remote.{without_monitors}
use Rattle.rh_otp_system.specs.Doing.{begun_at}
use Rattle.rh_otp_system.specs.Ending.{taken_down}
use Rattle.rh_otp_system.specs.Moves.{IsAmong}
use Rattle.rh_otp_system.specs.Sending.{told}
use Rattle.rh_otp_system.specs.State.{SystemView, live_at, node_at, with_node, own_at, is_alive_at}
use Rattle.rh_otp_laws.specs.Lives.{IsListed, AliveAreListed}
use Rattle.rh_otp_laws.specs.Time.{message_of}
use Rattle.rh_otp_laws.proofs.Beginning.{begun_there}
use Rattle.rh_otp_laws.proofs.Lists.{filtered, kept, in_either, in_first, in_second}
use Rattle.rh_otp_laws.proofs.Lives.{all_live_on, is_down, others_stand}
use Rattle.rh_otp_laws.proofs.Nodes.{same_number, others_same}
use Rattle.rh_otp_laws.proofs.Reached.{StaysAlways, holds_always}
use Rattle.rh_otp_laws.proofs.Time.{due_fire}
use Rattle.rh_otp_laws.proofs.Turn.{Turn, nothing, both, wrote, noted, seen, put, set, linked, slowed, took, freed, called, answered, fell, unmonitored}
use Rattle.rh_otp_laws.proofs.Working.{unmonitored_on}

-- the list and who is alive are as they were
same_list : (s t : SystemView) → t.alive ≡ s.alive → ((m : Node) → is_alive_at t m ≡ is_alive_at s m) → IsListed s → IsListed t
same_list s t list alive is = record {
  exactly = λ m. (
    λ among. alive m ∙ (is.exactly m).0 (subst (IsAmong m) list among),
    λ lives. subst (IsAmong m) (sym list) ((is.exactly m).1 (sym (alive m) ∙ lives)),
  );
  once = subst (AllPairs (λ (n m : Node). n.0 ≢ m.0)) (sym list) is.once;
}

-- ---- a node ends

abbrev is_other : Node → Node → Bool
is_other n m = not (m.0 == n.0)

fallen_alive : (n : Node) (s : SystemView) → (taken_down n s).alive ≡ without_node n s.alive
unfolding taken_down told
fallen_alive n s = refl

other_number : (n m : Node) → is_other n m ≡ true → m.0 ≢ n.0
other_number n m is = eqb-false m.0 n.0 (not-true (m.0 == n.0) is)

fallen_exactly : (n m : Node) (s : SystemView) → IsListed s → IsAmong m (without_node n s.alive) ↔ (is_alive_at (taken_down n s) m ≡ true)
fallen_exactly n m s is = (among, lives)
  where
    among : IsAmong m (without_node n s.alive) → is_alive_at (taken_down n s) m ≡ true
    among at =
        let there : IsAmong m s.alive × (is_other n m ≡ true) = filtered (is_other n) m s.alive at in
        ap is_alive (others_stand n m s (other_number n m there.1)) ∙ (is.exactly m).0 there.0

    lives : is_alive_at (taken_down n s) m ≡ true → IsAmong m (without_node n s.alive)
    lives alive = elim (cases_eq m.0 n.0) [
      | inl here ↦ absurd (false≢true (sym (ap is_alive (same_number (taken_down n s) m n here) ∙ is_down n s) ∙ alive))
      | inr other ↦
          let there : IsAmong m s.alive = (is.exactly m).1 (sym (ap is_alive (others_stand n m s other)) ∙ alive) in
          kept (is_other n) m s.alive there.0 there.1 (ap not (ne_eqb m.0 n.0 other))
    ]

fell_listed : (n : Node) (s : SystemView) → IsListed s → IsListed (taken_down n s)
fell_listed n s is = record {
  exactly = λ m. subst (λ (l : List Node). IsAmong m l ↔ (is_alive_at (taken_down n s) m ≡ true)) (sym (fallen_alive n s)) (fallen_exactly n m s is);
  once = subst (AllPairs (λ (a b : Node). a.0 ≢ b.0)) (sym (fallen_alive n s))
      (AllPairs-filter (λ (a b : Node). a.0 ≢ b.0) (is_other n) s.alive is.once);
}

-- ---- in a turn

in_turn : (n : Node) (s t : SystemView) → Turn n s t → IsListed s → IsListed t
in_turn n _ _ (nothing s) is = is
in_turn n _ _ (both s t u p q) is = in_turn n t u q (in_turn n s t p is)
in_turn n _ _ (wrote s v on) is = same_list s (with_node n v s) refl (λ m. (all_live_on s n m v on).1) is
in_turn n _ _ (noted s k a kind) is =
    same_list s (with_node k (with_kind a kind (node_at s k)) s) refl (λ m. (all_live_on s k m (with_kind a kind (node_at s k)) (refl, refl)).1) is
in_turn n _ _ (seen s e) is = same_list s _ refl (λ m. refl) is
in_turn n _ _ (put s more) is = same_list s _ refl (λ m. refl) is
in_turn n _ _ (set s due to m later) is = same_list s _ refl (λ m. refl) is
in_turn n _ _ (linked s links) is = same_list s _ refl (λ m. refl) is
in_turn n _ _ (slowed s slow) is = same_list s _ refl (λ m. refl) is
in_turn n _ _ (took s r p nodes) is = same_list s _ refl (λ m. refl) is
in_turn n _ _ (freed s r p) is = same_list s _ refl (λ m. refl) is
in_turn n _ _ (called s calls last) is = same_list s _ refl (λ m. refl) is
in_turn n _ _ (answered s answers) is = same_list s _ refl (λ m. refl) is
in_turn n _ _ (fell s) is = fell_listed n s is
in_turn n _ _ (unmonitored s k) is =
    same_list s (with_node k (without_monitors n (node_at s k)) s) refl
    (λ m. (all_live_on s k m (without_monitors n (node_at s k)) (unmonitored_on n (node_at s k))).1) is

-- ---- a node begins

begun_here : (s : SystemView) (n m : Node) (v : LiveView) → live_at s n ≡ Some v → m.0 ≡ n.0 → is_alive_at (begun_at n s) m ≡ true
begun_here s n m v there here = ap is_alive (same_number (begun_at n s) m n here ∙ begun_there s n v there)

others_begun : (s : SystemView) (n m : Node) → m.0 ≢ n.0 → is_alive_at (begun_at n s) m ≡ is_alive_at s m
others_begun s n m other = ap is_alive (others_same s n m (begun s.cluster (own_at s n) n (node_at s n)) other)

begun_exactly : (s : SystemView) (n m : Node) (v : LiveView) → live_at s n ≡ Some v → is_alive_at s n ≡ false → IsListed s
    → IsAmong m (s.alive ++ n ∷ []) ↔ (is_alive_at (begun_at n s) m ≡ true)
begun_exactly s n m v there down is = (among, lives)
  where
    -- it isn't the node that begins, which wasn't listed
    apart : IsAmong m s.alive → m.0 ≢ n.0
    apart at here = false≢true (sym down ∙ sym (ap is_alive (same_number s m n here)) ∙ (is.exactly m).0 at)

    by : IsAmong m s.alive ⊎ IsAmong m (n ∷ []) → is_alive_at (begun_at n s) m ≡ true
    by (inl at) = others_begun s n m (apart at) ∙ (is.exactly m).0 at
    by (inr (zero, at)) = begun_here s n m v there (ap (λ (k : Node). k.0) (sym (same_Some n m at)))
    by (inr (suc place, at)) = absurd (none-some m at)

    among : IsAmong m (s.alive ++ n ∷ []) → is_alive_at (begun_at n s) m ≡ true
    among at = by (in_either m s.alive (n ∷ []) at.0 at.1)

    lives : is_alive_at (begun_at n s) m ≡ true → IsAmong m (s.alive ++ n ∷ [])
    lives alive = elim (cases_eq m.0 n.0) [
      | inl here ↦ in_second m s.alive (n ∷ []) (0, λ i. Some (record { 0 = sym here i }))
      | inr other ↦
          let at : IsAmong m s.alive = (is.exactly m).1 (sym (others_begun s n m other) ∙ alive) in
          in_first m s.alive (n ∷ []) at.0 at.1
    ]

begun_once : (s : SystemView) (n : Node) → is_alive_at s n ≡ false → IsListed s → AllPairs (λ (a b : Node). a.0 ≢ b.0) (s.alive ++ n ∷ [])
begun_once s n down is = all_pairs_push (λ (a b : Node). a.0 ≢ b.0) s.alive n is.once apart
  where
    apart : (k : ℕ) (d : Node) → k < length s.alive → (get_or s.alive k d).0 ≢ n.0
    apart k d within here =
        let m : Node = get_or s.alive k d in
        false≢true (sym down ∙ sym (ap is_alive (same_number s m n here)) ∙ (is.exactly m).0 (k, slice_get-get_or s.alive k d within))

begins_listed : (s : SystemView) (n : Node) (v : LiveView) → live_at s n ≡ Some v → is_alive_at s n ≡ false → IsListed s
    → IsListed (begun_at n s)
begins_listed s n v there down is = record {
  exactly = λ m. begun_exactly s n m v there down is;
  once = begun_once s n down is;
}

-- ---- always

none_listed : (s : SystemView) → s.alive ≡ [] → ((n : Node) → is_alive_at s n ≡ false) → IsListed s
none_listed s none down = record {
  exactly = λ m. (
    λ among. absurd (none-some m (ap (λ (l : List Node). slice_get l among.0) (sym none) ∙ among.1)),
    λ lives. absurd (false≢true (sym (down m) ∙ lives)),
  );
  once = subst (AllPairs (λ (a b : Node). a.0 ≢ b.0)) (sym none) (λ i j d less within. absurd (omega (arith, within)));
}

-- the system in which the timers that are due next have fired
abbrev fired_as : SystemView → ℕ → SystemView
fired_as s due = record s {
  clock = due;
  timers = timers.left s.timers;
  messages = s.messages ++ map message_of (timers.fired s.timers);
}

always_listed : StaysAlways IsListed
always_listed = record {
  first = λ s is. none_listed s is.alive (λ n. ap is_alive (is.nodes n));
  stays = record {
    less = λ s messages is. same_list s (record s { messages = messages }) refl (λ m. refl) is;
    begun = begins_listed;
    turn = in_turn;
  };
  noted = λ s t same is. same_list s t same.alive same.nodes is;
  fired = λ s due step next is. subst IsListed (sym (due_fire s due)) (same_list s (fired_as s due) refl (λ m. refl) is);
  passed = λ s time on none is. same_list s (record s { clock = time }) refl (λ m. refl) is;
}

pub alive_listed : AliveAreListed
alive_listed = holds_always IsListed always_listed
