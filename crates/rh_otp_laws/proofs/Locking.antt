-- At each node at most one name has the lock.
use Rattle.std.proofs.Common.{◌≡◌, ◌⊎◌, ◌++◌, ◌==◌, ◌&&◌, ℕ, zero, suc, Bool, true, false, cond, not, List, [], ◌∷◌, filter, slice_get, Some, refl, sym, ap, subst, ◌∙◌, inl, inr}
use Rattle.std.specs.List.{list_any}
use Rattle.std.proofs.lemmas.Bool.{false≢true, eq-eqb, and_from, not-true}
use Rattle.std.proofs.lemmas.Option.{none-some, same_Some}
use Rattle.rh_model.specs.ClusterView.{is_in}
use Rattle.rh_model.specs.declared.node.Node.{Node}
use Rattle.rh_otp_model.specs.declared.output.Requester.{Requester}
use Rattle.rh_otp_model.specs.declared.process.Process.{Process}
use Rattle.rh_otp_net.specs.declared.locks.Held.{Held}
use Rattle.rh_otp_net.specs.Alike.{is_requester}
use Rattle.rh_otp_net.specs.Locks.{is_others, is_free, held_at}
use Rattle.rh_otp_system.specs.Ending.{taken_down}
use Rattle.rh_otp_system.specs.Sending.{told}
use Rattle.rh_otp_system.specs.State.{SystemView}
use Rattle.rh_otp_laws.specs.Locking.{IsOneName, OneNameHoldsTheLock}
use Rattle.rh_otp_laws.proofs.Alike.{same_requester}
use Rattle.rh_otp_laws.proofs.Lists.{IsAt, filtered, in_either, passes_any}
use Rattle.rh_otp_laws.proofs.Reached.{StaysAlways, holds_always}
use Rattle.rh_otp_laws.proofs.Time.{due_fire}
use Rattle.rh_otp_laws.proofs.Turn.{Turn, nothing, both, wrote, noted, seen, put, set, linked, slowed, took, freed, called, answered, fell, unmonitored}

-- fewer rows
fewer : (p : Held → Bool) (rows : List Held) → IsOneName rows → IsOneName (filter p rows)
fewer p rows one i j h k at_i at_j same =
    let first : IsAt h rows × (p h ≡ true) = filtered p h rows (i, at_i) in
    let second : IsAt k rows × (p k ≡ true) = filtered p k rows (j, at_j) in
    one first.0.0 second.0.0 h k first.0.1 second.0.1 same

-- a row that is added is of this name, at one of these nodes
record IsHeldBy (r : Requester) (nodes : List Node) (h : Held) : Type 0 where
  name : h.requester ≡ r
  there : is_in h.node nodes ≡ true

held_by : (r : Requester) (p : Process) (nodes all : List Node) (h : Held) (place : ℕ) → ((n : Node) → IsAt n nodes → IsAt n all)
    → slice_get (held_at r p nodes) place ≡ Some h → IsHeldBy r all h
held_by r p [] all h place among at = absurd (none-some h at)
held_by r p (n ∷ nodes) all h zero among at =
    let same : record { node = n; requester = r; owner = p } ≡ h = same_Some _ h at in
    let there : IsAt n all = among n (0, refl) in
    record {
      name = sym (ap (λ (k : Held). k.requester) same);
      there = ap (λ (k : Held). is_in k.node all) (sym same)
          ∙ passes_any (λ (m : Node). n.0 == m.0) n all there.0 there.1 (eq-eqb n.0 n.0 refl);
    }
held_by r p (n ∷ nodes) all h (suc place) among at = held_by r p nodes all h place (λ m in_rest. among m (suc in_rest.0, in_rest.1)) at

-- where the lock is free for a name, those that have it at these nodes have it by this one
no_other : (r : Requester) (nodes : List Node) (rows : List Held) (h : Held) (place : ℕ) → is_free r nodes rows ≡ true
    → slice_get rows place ≡ Some h → is_in h.node nodes ≡ true → h.requester ≡ r
no_other r nodes rows h place free at there =
    same_requester h.requester r (by (is_requester h.requester r) refl)
  where
    by : (b : Bool) → is_requester h.requester r ≡ b → is_requester h.requester r ≡ true
    by true is = is
    by false is =
        absurd (false≢true (sym (not-true (list_any (is_others r nodes) rows) free)
        ∙ passes_any (is_others r nodes) h rows place at
        (and_from (is_in h.node nodes) (not (is_requester h.requester r)) there (ap not is))))

one_with : (r : Requester) (p : Process) (nodes : List Node) (rows : List Held) → is_free r nodes rows ≡ true → IsOneName rows
    → IsOneName (rows ++ held_at r p nodes)
one_with r p nodes rows free one i j h k at_i at_j same =
    go (in_either h rows (held_at r p nodes) i at_i) (in_either k rows (held_at r p nodes) j at_j)
  where
    by : (g : Held) → IsAt g (held_at r p nodes) → IsHeldBy r nodes g
    by g at = held_by r p nodes nodes g at.0 (λ n there. there) at.1

    there_too : (f g : Held) → IsHeldBy r nodes g → f.node.0 ≡ g.node.0 → is_in f.node nodes ≡ true
    there_too f g held is = ap (λ (number : ℕ). list_any (λ (m : Node). number == m.0) nodes) is ∙ held.there

    go : IsAt h rows ⊎ IsAt h (held_at r p nodes) → IsAt k rows ⊎ IsAt k (held_at r p nodes) → h.requester ≡ k.requester
    go (inl x) (inl y) = one x.0 y.0 h k x.1 y.1 same
    go (inl x) (inr y) = no_other r nodes rows h x.0 free x.1 (there_too h k (by k y) same) ∙ sym (by k y).name
    go (inr x) (inl y) = (by h x).name ∙ sym (no_other r nodes rows k y.0 free y.1 (there_too k h (by h x) (sym same)))
    go (inr x) (inr y) = (by h x).name ∙ sym (by k y).name

taken_by : (b : Bool) (r : Requester) (p : Process) (nodes : List Node) (rows : List Held) → is_free r nodes rows ≡ b → IsOneName rows
    → IsOneName (cond b (rows ++ held_at r p nodes) rows)
taken_by true r p nodes rows free one = one_with r p nodes rows free one
taken_by false r p nodes rows free one = one

-- ---- in a turn

fell_one : (n : Node) (s : SystemView) → IsOneName s.locks → IsOneName (taken_down n s).locks
unfolding taken_down told
fell_one n s one = fewer (λ (h : Held). not (h.node.0 == n.0) && not (h.owner.node.0 == n.0)) s.locks one

pub stays_one : (n : Node) (s t : SystemView) → Turn n s t → IsOneName s.locks → IsOneName t.locks
stays_one n _ _ (nothing s) one = one
stays_one n _ _ (both s t u p q) one = stays_one n t u q (stays_one n s t p one)
stays_one n _ _ (wrote s v on) one = one
stays_one n _ _ (noted s m a kind) one = one
stays_one n _ _ (seen s e) one = one
stays_one n _ _ (put s more) one = one
stays_one n _ _ (set s due to m later) one = one
stays_one n _ _ (linked s links) one = one
stays_one n _ _ (slowed s slow) one = one
stays_one n _ _ (took s r p nodes) one = taken_by (is_free r nodes s.locks) r p nodes s.locks refl one
stays_one n _ _ (freed s r p) one = fewer _ s.locks one
stays_one n _ _ (called s calls last) one = one
stays_one n _ _ (answered s answers) one = one
stays_one n _ _ (fell s) one = fell_one n s one
stays_one n _ _ (unmonitored s m) one = one

-- ---- always

none_has_it : IsOneName []
none_has_it i j h k at_i at_j same = absurd (none-some h at_i)

always_one : StaysAlways (λ (s : SystemView). IsOneName s.locks)
always_one = record {
  first = λ s is. subst IsOneName (sym is.locks) none_has_it;
  stays = record {
    less = λ s messages one. one;
    begun = λ s n v there down one. one;
    turn = stays_one;
  };
  noted = λ s t same one. subst IsOneName (sym same.locks) one;
  fired = λ s due step next one. subst IsOneName (sym (ap (λ (t : SystemView). t.locks) (due_fire s due))) one;
  passed = λ s time on none one. one;
}

pub one_name : OneNameHoldsTheLock
one_name = holds_always (λ (s : SystemView). IsOneName s.locks) always_one
