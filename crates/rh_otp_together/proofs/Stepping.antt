-- One node is further, and all is as before elsewhere.
use Rattle.std.proofs.Common.{◌≡◌, ◌≢◌, ◌≤◌, ◌⊎◌, ◌+◌, ◌++◌, ℕ, suc, Bool, false, cond, List, [], ◌∷◌, map, filter, Option, Some, None, refl, sym, ap, subst, ◌∙◌, inl, inr, arith, true}
use Rattle.std.specs.Prelude.{All}
use Rattle.std.proofs.lemmas.Bool.{cases_eq, eq-eqb, ne_eqb, false_from_ne_true}
use Rattle.std.proofs.lemmas.List.{append-nil}
use Rattle.std.proofs.lemmas.List.Elements.{All-head, All-tail, filter-append, All-weaker}
use Rattle.rh_model.specs.declared.node.App.{App}
use Rattle.rh_model.specs.declared.node.Node.{Node}
use Rattle.rh_otp_model.specs.declared.output.Event.{Event}
use Rattle.rh_otp_net.specs.declared.locks.Held.{Held}
use Rattle.rh_otp_system.specs.declared.cell.Cell.TheVariants as cell
use Rattle.rh_otp_system.specs.declared.slow.Slow.TheVariants as slow
use Rattle.rh_otp_system.specs.State.{SystemView, with_node}
use Rattle.rh_otp_laws.proofs.Nodes.{written_elsewhere}
use Rattle.rh_otp_orders.specs.Orders.{is_owner, of_owner, node_told}
use Rattle.rh_otp_orders.proofs.Changing.{set_there}
use Rattle.rh_otp_orders.proofs.Same.{cell_at}
use Rattle.rh_otp_crashes.proofs.Crossing.{same_node}
use Rattle.rh_otp_joins.proofs.Lists.{count_of}
use Rattle.rh_otp_gathers.proofs.Tokens.{total}
use Rattle.rh_otp_together.proofs.Apps.{tally, tally_rows}
use Rattle.rh_otp_together.proofs.Forms.{Far, live, Fine, Token, letter, is_inner, is_voice, news_of, token_weight, voices, inners, tale, weight, onto}
use Rattle.rh_otp_together.proofs.Queues.{onto_more, none_of}
use Rattle.rh_otp_together.proofs.Stages.{is_unbegun, IsHeld, got, asked_of, told_of, IsOf, Stage, changed, changed_here, changed_other, total_changed, heard, row_app, come, AreStrange}

-- A node is further by one move: it is so now, this is on its way, has been seen, and is held; and it tells the others of these starts.
pub record Step {b : SystemView} {at : App → Node} {left : ℕ} {u : SystemView} (f : Stage b at (suc left) u) (m : Node) (v : SystemView) :
    Type 0 where
  pub next : Far
  pub tokens : List Token
  pub waiting : List Node
  pub seen : List Event
  pub locks : List Held
  pub is : v ≡ record (with_node m (live b at m next) u) {
    messages = map (letter b at) tokens;
    slow = map slow.Boot waiting;
    events = u.events ++ seen;
    locks = locks;
  }
  pub weighs : suc (weight b at m next + total token_weight tokens) ≡ weight b at m (f.far m) + total token_weight f.tokens
  pub fine : Fine b at m next
  pub locked : All (IsHeld b (changed m f.far next)) locks
  pub slow : (k : Node) → count_of k waiting ≡ cond (is_unbegun (changed m f.far next k).how) (count_of k b.alive) 0
  pub known : All (IsOf b) tokens
  pub voiced : filter (is_voice m) tokens ≡ voices m next.how
  pub inner : filter (is_inner m) tokens ≡ inners m next.how next.ran
  pub voiced_else : (k : Node) → k.0 ≢ m.0 → filter (is_voice k) tokens ≡ filter (is_voice k) f.tokens
  pub inner_else : (k : Node) → k.0 ≢ m.0 → filter (is_inner k) tokens ≡ filter (is_inner k) f.tokens
  pub sums : (a : App) → (at a).0 ≢ m.0
      → got tokens next m a + tally a (asked_of b at m next) ≡ got f.tokens (f.far m) m a + tally a (asked_of b at m (f.far m))
  pub homes : (a : App) → (at a).0 ≡ m.0 → got tokens next m a ≡ got f.tokens (f.far m) m a
  pub near : (k : Node) (a : App) → 1 ≤ count_of k b.alive → k.0 ≢ m.0 → (at a).0 ≡ m.0
      → total (news_of k a) tokens + tally a (told_of b at m (f.far m)) ≡ total (news_of k a) f.tokens + tally a (told_of b at m next)
  pub apart : (k : Node) (a : App) → 1 ≤ count_of k b.alive → k.0 ≢ m.0 → (at a).0 ≢ m.0
      → total (news_of k a) tokens ≡ total (news_of k a) f.tokens
  pub says : List App
  pub says_own : All (λ (c : App). (at c).0 ≡ m.0) says
  pub ordered : (n : Node) (q : App → Bool) → n.0 ≢ m.0 → AreStrange b at m n q → come tokens next m q ≡ come f.tokens (f.far m) m q
  pub hears : (k : Node) (q : App → Bool) → 1 ≤ count_of k b.alive → k.0 ≢ m.0 → heard k q tokens ≡ heard k q f.tokens ++ filter q says
  pub says_so : (q : App → Bool) → ((c : App) → q c ≡ true → (at c).0 ≡ m.0)
      → filter q (told_of b at m next) ≡ onto (filter q says) (filter q (told_of b at m (f.far m)))
  pub tells : tale b at m next.how next.done ≡ tale b at m (f.far m).how (f.far m).done ++ seen
  pub mine : All (λ (e : Event). node_told e ≡ Some m) seen

own_events : (m : Node) (seen : List Event) → All (λ (e : Event). node_told e ≡ Some m) seen → of_owner node_told (Some m) seen ≡ seen
own_events m [] all = refl
own_events m (e ∷ seen) all =
    ap (λ (o : Option Node). cond (is_owner (Some m) o) (e ∷ of_owner node_told (Some m) seen) (of_owner node_told (Some m) seen))
    (All-head (λ (x : Event). node_told x ≡ Some m) e seen all)
    ∙ ap (λ (c : Bool). cond c (e ∷ of_owner node_told (Some m) seen) (of_owner node_told (Some m) seen)) (eq-eqb m.0 m.0 refl)
    ∙ ap (λ (l : List Event). e ∷ l) (own_events m seen (All-tail (λ (x : Event). node_told x ≡ Some m) e seen all))

no_events : (o : Option Node) (m : Node) (seen : List Event) → is_owner o (Some m) ≡ false → All (λ (e : Event). node_told e ≡ Some m) seen
    → of_owner node_told o seen ≡ []
no_events o m [] other all = refl
no_events o m (e ∷ seen) other all =
    ap (λ (x : Option Node). cond (is_owner o x) (e ∷ of_owner node_told o seen) (of_owner node_told o seen))
    (All-head (λ (x : Event). node_told x ≡ Some m) e seen all)
    ∙ ap (λ (c : Bool). cond c (e ∷ of_owner node_told o seen) (of_owner node_told o seen)) other
    ∙ no_events o m seen other (All-tail (λ (x : Event). node_told x ≡ Some m) e seen all)

pub stepped : {b : SystemView} {at : App → Node} {left : ℕ} {u : SystemView} (f : Stage b at (suc left) u) (m : Node) (v : SystemView)
    → count_of m b.alive ≡ 1 → Step f m v → Stage b at left v
stepped {b} {at} {left} {u} f m v once s = record {
  far = far;
  tokens = s.tokens;
  waiting = s.waiting;
  weighs =
      (let sum : total (λ (k : Node). weight b at k (far k)) b.alive + weight b at m (f.far m)
      ≡ total (λ (k : Node). weight b at k (f.far k)) b.alive + weight b at m (far m) =
      total_changed (λ (k : Node). weight b at k (far k)) (λ (k : Node). weight b at k (f.far k)) m b.alive once
      (λ k other. ap (weight b at k) (far_other k other)) in
      let all : total (λ (k : Node). weight b at k (f.far k)) b.alive + total token_weight f.tokens ≡ suc left = f.weighs in
      let now : weight b at m (far m) ≡ weight b at m s.next = ap (weight b at m) far_here in
      let less : suc (weight b at m s.next + total token_weight s.tokens) ≡ weight b at m (f.far m) + total token_weight f.tokens =
      s.weighs in
      omega (arith, sum, all, now, less));
  same = s.is
      ∙ (λ i. record (f.same i) {
        nodes = (with_node m (live b at m s.next) u).nodes;
        messages = map (letter b at) s.tokens;
        slow = map slow.Boot s.waiting;
        events = u.events ++ s.seen;
        locks = s.locks;
      })
      ∙ (λ i. record b {
        nodes = (sym s.is i).nodes;
        messages = map (letter b at) s.tokens;
        slow = map slow.Boot s.waiting;
        locks = (sym s.is i).locks;
        events = (sym s.is i).events;
      });
  base = ap (λ (x : SystemView). x.nodes.base) s.is ∙ f.base;
  here = λ k alive. here_at k alive (cases_eq k.0 m.0);
  others = λ k none. elsewhere k (λ is. none_alive k none is) ∙ f.others k none;
  fine = λ k alive. fine_at k alive (cases_eq k.0 m.0);
  unmoved = λ k none. ap (asked_of b at k) (far_other k (λ is. none_alive k none is)) ∙ f.unmoved k none;
  locks = subst (All (IsHeld b far)) (sym (ap (λ (x : SystemView). x.locks) s.is)) s.locked;
  slow = s.slow;
  known = s.known;
  voiced = λ k alive. voiced_at k alive (cases_eq k.0 m.0);
  inner = λ k alive. inner_at k alive (cases_eq k.0 m.0);
  away = λ k a alive other. away_at k a alive other (cases_eq k.0 m.0) (cases_eq (at a).0 m.0);
  home = λ k a alive is. home_at k a alive is (cases_eq k.0 m.0);
  order = λ k n q alive apart strange. order_at k n q alive apart strange (cases_eq k.0 m.0) (cases_eq n.0 m.0);
  events = λ k alive. events_at k alive (cases_eq k.0 m.0);
  strangers = λ k none.
      no_more (Some k) (ne_eqb k.0 m.0 (λ is. none_alive k none is)) ∙ f.strangers k none;
  nobodys = no_more None refl ∙ f.nobodys;
}
  where
    far : Node → Far
    far = changed m f.far s.next

    far_here : far m ≡ s.next
    far_here = changed_here m f.far s.next m refl

    far_other : (k : Node) → k.0 ≢ m.0 → far k ≡ f.far k
    far_other k other = changed_other m f.far s.next k other

    alive_m : 1 ≤ count_of m b.alive
    alive_m = omega (arith, once)

    none_alive : (k : Node) → count_of k b.alive ≡ 0 → k.0 ≡ m.0 → ⊥
    none_alive k none is =
        let same_count : count_of k b.alive ≡ count_of m b.alive = ap (λ (x : Node). count_of x b.alive) (same_node k m is) in
        omega (arith, none, same_count, once)

    elsewhere : (k : Node) → k.0 ≢ m.0 → cell_at v k.0 ≡ cell_at u k.0
    elsewhere k other =
        ap (λ (x : SystemView). cell_at x k.0) s.is ∙ written_elsewhere u.nodes.cells m.0 k.0 (cell.Node (live b at m s.next)) other

    here_at : (k : Node) → 1 ≤ count_of k b.alive → (k.0 ≡ m.0) ⊎ (k.0 ≢ m.0) → cell_at v k.0 ≡ Some (cell.Node (live b at k (far k)))
    here_at k alive (inl is) =
        subst (λ (x : Node). cell_at v x.0 ≡ Some (cell.Node (live b at x (far x)))) (sym (same_node k m is))
        (ap (λ (x : SystemView). cell_at x m.0) s.is
        ∙ set_there u.nodes.cells m.0 (cell.Node (live b at m (f.far m))) (cell.Node (live b at m s.next)) (f.here m alive_m)
        ∙ ap (λ (x : Far). Some (cell.Node (live b at m x))) (sym far_here))
    here_at k alive (inr other) =
        elsewhere k other ∙ f.here k alive ∙ ap (λ (x : Far). Some (cell.Node (live b at k x))) (sym (far_other k other))

    fine_at : (k : Node) → 1 ≤ count_of k b.alive → (k.0 ≡ m.0) ⊎ (k.0 ≢ m.0) → Fine b at k (far k)
    fine_at k alive (inl is) = subst (λ (x : Node). Fine b at x (far x)) (sym (same_node k m is))
        (subst (Fine b at m) (sym far_here) s.fine)
    fine_at k alive (inr other) = subst (Fine b at k) (sym (far_other k other)) (f.fine k alive)

    voiced_at : (k : Node) → 1 ≤ count_of k b.alive → (k.0 ≡ m.0) ⊎ (k.0 ≢ m.0) → filter (is_voice k) s.tokens ≡ voices k (far k).how
    voiced_at k alive (inl is) =
        subst (λ (x : Node). filter (is_voice x) s.tokens ≡ voices x (far x).how) (sym (same_node k m is))
        (s.voiced ∙ ap (λ (x : Far). voices m x.how) (sym far_here))
    voiced_at k alive (inr other) = s.voiced_else k other ∙ f.voiced k alive ∙ ap (λ (x : Far). voices k x.how) (sym (far_other k other))

    inner_at : (k : Node) → 1 ≤ count_of k b.alive → (k.0 ≡ m.0) ⊎ (k.0 ≢ m.0) → filter (is_inner k) s.tokens
        ≡ inners k (far k).how (far k).ran
    inner_at k alive (inl is) =
        subst (λ (x : Node). filter (is_inner x) s.tokens ≡ inners x (far x).how (far x).ran) (sym (same_node k m is))
        (s.inner ∙ ap (λ (x : Far). inners m x.how x.ran) (sym far_here))
    inner_at k alive (inr other) = s.inner_else k other ∙ f.inner k alive ∙ ap (λ (x : Far). inners k x.how x.ran) (sym (far_other k other))

    away_at : (k : Node) (a : App) → 1 ≤ count_of k b.alive → (at a).0 ≢ k.0 → (k.0 ≡ m.0) ⊎ (k.0 ≢ m.0) → ((at a).0 ≡ m.0)
        ⊎ ((at a).0 ≢ m.0)
        → got s.tokens (far k) k a + tally a (asked_of b at k (far k)) ≡ tally a (told_of b at (at a) (far (at a)))
    away_at k a alive other (inl is) (inl home) = absurd (other (home ∙ sym is))
    away_at k a alive other (inl is) (inr away) =
        subst (λ (x : Node). got s.tokens (far x) x a + tally a (asked_of b at x (far x)) ≡ tally a (told_of b at (at a) (far (at a))))
        (sym (same_node k m is))
        (ap (λ (x : Far). got s.tokens x m a + tally a (asked_of b at m x)) far_here
        ∙ s.sums a away ∙ f.away m a alive_m away ∙ ap (λ (x : Far). tally a (told_of b at (at a) x)) (sym (far_other (at a) away)))
    away_at k a alive other (inr apart) (inl home) =
        let old : got f.tokens (f.far k) k a + tally a (asked_of b at k (f.far k)) ≡ tally a (told_of b at (at a) (f.far (at a))) =
        f.away k a alive other in
        let old_told : tally a (told_of b at (at a) (f.far (at a))) ≡ tally a (told_of b at m (f.far m)) =
        ap (λ (x : Node). tally a (told_of b at x (f.far x))) (same_node (at a) m home) in
        let new_told : tally a (told_of b at (at a) (far (at a))) ≡ tally a (told_of b at m s.next) =
        ap (λ (x : Node). tally a (told_of b at x (far x))) (same_node (at a) m home)
        ∙ ap (λ (x : Far). tally a (told_of b at m x)) far_here in
        let more : total (news_of k a) s.tokens + tally a (told_of b at m (f.far m))
        ≡ total (news_of k a) f.tokens + tally a (told_of b at m s.next) =
        s.near k a alive apart home in
        let now : got s.tokens (far k) k a + tally a (asked_of b at k (far k))
        ≡ got s.tokens (f.far k) k a + tally a (asked_of b at k (f.far k)) =
        ap (λ (x : Far). got s.tokens x k a + tally a (asked_of b at k x)) (far_other k apart) in
        omega (arith, old, old_told, new_told, more, now)
    away_at k a alive other (inr apart) (inr away) =
        ap (λ (x : Far). got s.tokens x k a + tally a (asked_of b at k x)) (far_other k apart)
        ∙ ap (λ (j : ℕ). j + tally a (f.far k).mail + tally_rows a (f.far k).rows + tally a (asked_of b at k (f.far k)))
        (s.apart k a alive apart away)
        ∙ f.away k a alive other ∙ ap (λ (x : Far). tally a (told_of b at (at a) x)) (sym (far_other (at a) away))

    home_at : (k : Node) (a : App) → 1 ≤ count_of k b.alive → (at a).0 ≡ k.0 → (k.0 ≡ m.0) ⊎ (k.0 ≢ m.0) → got s.tokens (far k) k a ≡ 0
    home_at k a alive home (inl is) =
        subst (λ (x : Node). got s.tokens (far x) x a ≡ 0) (sym (same_node k m is))
        (ap (λ (x : Far). got s.tokens x m a) far_here ∙ s.homes a (home ∙ is) ∙ f.home m a alive_m (home ∙ is))
    home_at k a alive home (inr apart) =
        ap (λ (x : Far). got s.tokens x k a) (far_other k apart)
        ∙ ap (λ (j : ℕ). j + tally a (f.far k).mail + tally_rows a (f.far k).rows) (s.apart k a alive apart (λ is. apart (sym home ∙ is)))
        ∙ f.home k a alive home

    order_at : (k n : Node) (q : App → Bool) → 1 ≤ count_of k b.alive → n.0 ≢ k.0 → AreStrange b at k n q → (k.0 ≡ m.0) ⊎ (k.0 ≢ m.0)
        → (n.0 ≡ m.0) ⊎ (n.0 ≢ m.0) → come s.tokens (far k) k q ≡ filter q (told_of b at n (far n))
    order_at k n q alive apart strange (inl is) (inl also) = absurd (apart (also ∙ sym is))
    order_at k n q alive apart strange (inl is) (inr other) =
        subst (λ (x : Node). n.0 ≢ x.0 → AreStrange b at x n q → come s.tokens (far x) x q ≡ filter q (told_of b at n (far n)))
        (sym (same_node k m is))
        (λ away unknown.
        ap (λ (x : Far). come s.tokens x m q) far_here ∙ s.ordered n q away unknown ∙ f.order m n q alive_m away unknown
        ∙ ap (λ (x : Far). filter q (told_of b at n x)) (sym (far_other n other))) apart strange
    order_at k n q alive apart strange (inr other) (inl is) =
        ap (λ (x : Far). come s.tokens x k q) (far_other k other)
        ∙ ap (λ (l : List App). onto l (filter q (onto (f.far k).mail (map row_app (f.far k).rows)))) (s.hears k q alive other)
        ∙ onto_more (heard k q f.tokens) (filter q s.says) (filter q (onto (f.far k).mail (map row_app (f.far k).rows)))
        ∙ ap (onto (filter q s.says)) (f.order k n q alive apart strange
        ∙ ap (λ (x : Node). filter q (told_of b at x (f.far x))) (same_node n m is))
        ∙ sym (s.says_so q (λ c so. (strange c so).0 ∙ is))
        ∙ ap (λ (x : Far). filter q (told_of b at m x)) (sym far_here)
        ∙ ap (λ (x : Node). filter q (told_of b at x (far x))) (sym (same_node n m is))
    order_at k n q alive apart strange (inr other) (inr away) =
        ap (λ (x : Far). come s.tokens x k q) (far_other k other)
        ∙ ap (λ (l : List App). onto l (filter q (onto (f.far k).mail (map row_app (f.far k).rows))))
        (s.hears k q alive other ∙ ap (λ (l : List App). heard k q f.tokens ++ l) nothing ∙ append-nil (heard k q f.tokens))
        ∙ f.order k n q alive apart strange
        ∙ ap (λ (x : Far). filter q (told_of b at n x)) (sym (far_other n away))
      where
        nothing : filter q s.says ≡ []
        nothing = none_of q s.says (All-weaker (λ (c : App). (at c).0 ≡ m.0) (λ (c : App). q c ≡ false)
            (λ c own. false_from_ne_true (q c) (λ so. away (sym (strange c so).0 ∙ own))) s.says s.says_own)

    events_so : v.events ≡ u.events ++ s.seen
    events_so = ap (λ (x : SystemView). x.events) s.is

    no_more : (o : Option Node) → is_owner o (Some m) ≡ false → of_owner node_told o v.events ≡ of_owner node_told o u.events
    no_more o other =
        ap (of_owner node_told o) events_so
        ∙ filter-append (λ (e : Event). is_owner o (node_told e)) u.events s.seen
        ∙ ap (λ (l : List Event). of_owner node_told o u.events ++ l) (no_events o m s.seen other s.mine)
        ∙ append-nil (of_owner node_told o u.events)

    events_at : (k : Node) → 1 ≤ count_of k b.alive → (k.0 ≡ m.0) ⊎ (k.0 ≢ m.0)
        → of_owner node_told (Some k) v.events ≡ of_owner node_told (Some k) b.events ++ tale b at k (far k).how (far k).done
    events_at k alive (inl is) =
        subst (λ (x : Node). of_owner node_told (Some x) v.events
        ≡ of_owner node_told (Some x) b.events ++ tale b at x (far x).how (far x).done) (sym (same_node k m is))
        (ap (of_owner node_told (Some m)) events_so
        ∙ filter-append (λ (e : Event). is_owner (Some m) (node_told e)) u.events s.seen
        ∙ (λ i. f.events m alive_m i ++ own_events m s.seen s.mine i)
        ∙ assoc (of_owner node_told (Some m) b.events) (tale b at m (f.far m).how (f.far m).done) s.seen
        ∙ ap (λ (l : List Event). of_owner node_told (Some m) b.events ++ l) (sym s.tells)
        ∙ ap (λ (x : Far). of_owner node_told (Some m) b.events ++ tale b at m x.how x.done) (sym far_here))
      where
        assoc : (x y z : List Event) → (x ++ y) ++ z ≡ x ++ (y ++ z)
        assoc [] y z = refl
        assoc (e ∷ x) y z = ap (λ (l : List Event). e ∷ l) (assoc x y z)
    events_at k alive (inr other) =
        no_more (Some k) (ne_eqb k.0 m.0 other) ∙ f.events k alive
        ∙ ap (λ (x : Far). of_owner node_told (Some k) b.events ++ tale b at k x.how x.done) (sym (far_other k other))
