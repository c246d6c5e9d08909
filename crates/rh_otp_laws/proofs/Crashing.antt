-- What the end of a node changes.
use Rattle.std.proofs.Common.{◌≡◌, ◌⊎◌, ◌++◌, ◌==◌, ◌&&◌, Bool, true, false, cond, not, List, [], ◌∷◌, filter, replicate, Option, Some, None, refl, sym, ap, ◌∙◌, inl, inr}
use Rattle.std.specs.Prelude.{All}
use Rattle.std.proofs.lemmas.List.{append_assoc, append-nil}
use Rattle.std.proofs.lemmas.List.Elements.{All-nil, All-append, All-replicate}
use Rattle.rh_model.specs.declared.node.Node.{Node}
use Rattle.rh_otp_model.specs.declared.output.Envelope.{Envelope}
use Rattle.rh_otp_dist.specs.Outside as outside
use Rattle.rh_otp_dist.specs.State.{DistView}
use Rattle.rh_otp_net.specs.Links as links
use Rattle.rh_otp_net.specs.Locks as locks
use Rattle.rh_otp_node.specs.Kernel as kernel
use Rattle.rh_otp_node.specs.Live.{LiveView}
use Rattle.rh_otp_node.specs.Remote.{with_change, without_monitors}
use Rattle.rh_otp_system.specs.Ending.{down, downs_at, down_told, downs_told, told_down, taken_down, ended}
use Rattle.rh_otp_system.specs.Sending.{told}
use Rattle.rh_otp_system.specs.State.{SystemView, node_at, with_node, has_dist_at}
use Rattle.rh_otp_laws.specs.Knowing.{IsNodeDown, EndsChangeMonitorsAlone}
use Rattle.rh_otp_laws.proofs.Lives.{none_begins, is_down, others_stand}
use Rattle.rh_otp_laws.proofs.Moving.{tells_downs}
use Rattle.rh_otp_laws.proofs.Nodes.{as_it_was_or_written, same_number}

-- ---- monitors that are over

kept_twice : {A : Type 0} (p : A → Bool) (x : A) (kept : List A) (b : Bool) → p x ≡ b → filter p kept ≡ kept
    → filter p (cond b (x ∷ kept) kept) ≡ cond b (x ∷ kept) kept
kept_twice {A} p x kept true is same = ap (λ (b : Bool). cond b (x ∷ filter p kept) (filter p kept)) is ∙ ap (λ (l : List A). x ∷ l) same
kept_twice p x kept false is same = same

filter_twice : {A : Type 0} (p : A → Bool) (xs : List A) → filter p (filter p xs) ≡ filter p xs
filter_twice p [] = refl
filter_twice p (x ∷ xs) = kept_twice p x (filter p xs) (p x) refl (filter_twice p xs)

over_by : (n : Node) (v : LiveView) (o : Option DistView) → v.dist ≡ o
    → without_monitors n (with_change (outside.without_monitors n) o v) ≡ with_change (outside.without_monitors n) o v
over_by n v None is = ap (λ (o : Option DistView). with_change (outside.without_monitors n) o v) is
over_by n v (Some d) is =
    λ i. record v { dist = Some (record d { monitored = filter_twice (λ (m : Node). not (m.0 == n.0)) d.monitored i }) }

over_once : (n : Node) (v : LiveView) → without_monitors n (without_monitors n v) ≡ without_monitors n v
over_once n v = over_by n v v.dist refl

-- a node is as it was, or its monitors are over
abbrev IsToldAt : Node → LiveView → LiveView → Type 0
IsToldAt n v w = (w ≡ v) ⊎ (w ≡ without_monitors n v)

told_twice : (n : Node) (u v w : LiveView) → IsToldAt n u v → IsToldAt n v w → IsToldAt n u w
told_twice n u v w (inl a) (inl b) = inl (b ∙ a)
told_twice n u v w (inl a) (inr b) = inr (b ∙ ap (without_monitors n) a)
told_twice n u v w (inr a) (inl b) = inr (b ∙ a)
told_twice n u v w (inr a) (inr b) = inr (b ∙ ap (without_monitors n) a ∙ over_once n u)

-- ---- all are told

record IsTold (n : Node) (s t : SystemView) : Type 0 where
  others : (m : Node) → IsToldAt n (node_at s m) (node_at t m)
  alive : t.alive ≡ s.alive
  links : t.links ≡ s.links
  locks : t.locks ≡ s.locks
  timers : t.timers ≡ s.timers
  calls : t.calls ≡ s.calls
  slow : t.slow ≡ s.slow
  more : List Envelope
  behind : t.messages ≡ s.messages ++ more
  each : All (IsNodeDown n) more

none_told : (n : Node) (s : SystemView) → IsTold n s s
none_told n s = record {
  others = λ m. inl refl;
  alive = refl;
  links = refl;
  locks = refl;
  timers = refl;
  calls = refl;
  slow = refl;
  more = [];
  behind = sym (append-nil s.messages);
  each = All-nil (IsNodeDown n);
}

both_told : (n : Node) (s t u : SystemView) → IsTold n s t → IsTold n t u → IsTold n s u
both_told n s t u p q = record {
  others = λ m. told_twice n (node_at s m) (node_at t m) (node_at u m) (p.others m) (q.others m);
  alive = q.alive ∙ p.alive;
  links = q.links ∙ p.links;
  locks = q.locks ∙ p.locks;
  timers = q.timers ∙ p.timers;
  calls = q.calls ∙ p.calls;
  slow = q.slow ∙ p.slow;
  more = p.more ++ q.more;
  behind = q.behind ∙ ap (λ (l : List Envelope). l ++ q.more) p.behind ∙ append_assoc s.messages p.more q.more;
  each = All-append (IsNodeDown n) p.more q.more p.each q.each;
}

told_at : (n m k : Node) (s : SystemView) → IsToldAt n (node_at s k) (node_at (with_node m (without_monitors n (node_at s m)) s) k)
told_at n m k s = go (as_it_was_or_written s m k (without_monitors n (node_at s m)))
  where
    go : (node_at (with_node m (without_monitors n (node_at s m)) s) k ≡ node_at s k)
        ⊎ ((k.0 ≡ m.0) × (node_at (with_node m (without_monitors n (node_at s m)) s) k ≡ without_monitors n (node_at s m)))
        → IsToldAt n (node_at s k) (node_at (with_node m (without_monitors n (node_at s m)) s) k)
    go (inl is) = inl is
    go (inr there) = inr (there.1 ∙ ap (without_monitors n) (sym (same_number s k m there.0)))

told_by : (n m : Node) (b : Bool) (s : SystemView) → IsTold n s (cond b (told_down n m s) s)
told_by n m false s = none_told n s
told_by n m true s = record {
  others = λ k. told_at n m k s;
  alive = refl;
  links = refl;
  locks = refl;
  timers = refl;
  calls = refl;
  slow = refl;
  more = replicate (downs_at m n s) (down m n (with_node m (without_monitors n (node_at s m)) s));
  behind = refl;
  each = All-replicate (IsNodeDown n) (downs_at m n s) _ (refl, refl);
}

one_told : (n m : Node) (s : SystemView) → IsTold n s (down_told n m s)
unfolding down_told
one_told n m s = told_by n m (has_dist_at s m && links.are_linked n m s.links) s

all_told : (n : Node) (nodes : List Node) (s : SystemView) → IsTold n s (downs_told n nodes s)
all_told n [] s = none_told n s
all_told n (m ∷ nodes) s = both_told n s (down_told n m s) _ (one_told n m s) (all_told n nodes (down_told n m s))

-- ---- the law

record IsFallen (n : Node) (s t : SystemView) : Type 0 where
  alive : t.alive ≡ kernel.without_node n s.alive
  links : t.links ≡ s.links
  locks : t.locks ≡ locks.without_node n s.locks
  timers : t.timers ≡ s.timers
  calls : t.calls ≡ s.calls
  slow : t.slow ≡ s.slow
  messages : t.messages ≡ s.messages

falls : (n : Node) (s : SystemView) → IsFallen n s (taken_down n s)
unfolding taken_down told
falls n s = record { alive = refl; links = refl; locks = refl; timers = refl; calls = refl; slow = refl; messages = refl }

pub ends_alone : EndsChangeMonitorsAlone
unfolding ended
ends_alone s n =
    let gone : SystemView = taken_down n s in
    let last : SystemView = downs_told n gone.alive gone in
    let fallen : IsFallen n s gone = falls n s in
    let tells : IsTold n gone last = all_told n gone.alive gone in
    record {
      itself = (none_begins n gone last (tells_downs n gone.alive gone) n).1 (is_down n s);
      others = λ m other. told_twice n (node_at s m) (node_at gone m) (node_at last m) (inl (others_stand n m s other)) (tells.others m);
      alive = tells.alive ∙ fallen.alive;
      links = ap (links.without_node n) (tells.links ∙ fallen.links);
      locks = tells.locks ∙ fallen.locks;
      timers = tells.timers ∙ fallen.timers;
      calls = tells.calls ∙ fallen.calls;
      slow = tells.slow ∙ fallen.slow;
      more = tells.more;
      behind = tells.behind ∙ ap (λ (l : List Envelope). l ++ tells.more) fallen.messages;
      each = tells.each;
    }
