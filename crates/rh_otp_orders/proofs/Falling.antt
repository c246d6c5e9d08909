-- The end of a node in two systems that are alike.
use Rattle.std.proofs.Common.{◌≡◌, ◌++◌, ◌&&◌, Bool, true, false, cond, List, [], ◌∷◌, filter, replicate, refl, sym, ap, subst, ◌∙◌}
use Rattle.std.proofs.lemmas.List.{append_assoc, append-nil}
use Rattle.std.proofs.lemmas.List.Elements.{filter-append}
use Rattle.rh_model.specs.declared.node.Node.{Node}
use Rattle.rh_otp_model.specs.declared.output.Envelope.{Envelope}
use Rattle.rh_otp_model.specs.declared.output.Event.{Event}
use Rattle.rh_otp_model.specs.declared.output.Event.TheVariants as event
use Rattle.rh_otp_net.specs.declared.timers.Timer.{Timer}
use Rattle.rh_otp_net.specs.Links as links
use Rattle.rh_otp_net.specs.Queue.{is_of_pair}
use Rattle.rh_otp_node.specs.Remote.{without_monitors}
use Rattle.rh_otp_system.specs.declared.slow.Answered.{Answered}
use Rattle.rh_otp_system.specs.declared.slow.Slow.{Slow}
use Rattle.rh_otp_system.specs.Ending as ending
use Rattle.rh_otp_system.specs.Sending.{told}
use Rattle.rh_otp_system.specs.State.{SystemView, node_at, with_node, has_dist_at}
use Rattle.rh_otp_system.specs.Working.{answer_count}
use Rattle.rh_otp_laws.specs.Turns.{node_of_slow}
use Rattle.rh_otp_orders.specs.Orders.{AreAlike, is_owner, of_owner, node_of_timer, node_told}

-- what stands in lists of which the order between nodes counts for nothing
pub record Lists : Type 0 where
  pub messages : List Envelope
  pub timers : List Timer
  pub slow : List Slow
  pub answers : List Answered
  pub events : List Event

abbrev pub lists_of : SystemView → Lists
lists_of s = record { messages = s.messages; timers = s.timers; slow = s.slow; answers = s.answers; events = s.events }

-- the system with these
abbrev pub relist : Lists → SystemView → SystemView
relist x s = record s { messages = x.messages; timers = x.timers; slow = x.slow; answers = x.answers; events = x.events }

abbrev with_more : Lists → List Envelope → Lists
with_more x more = record x { messages = x.messages ++ more }

-- ---- others are told

-- It is told the same in both, whatever stands in the lists.
record IsTold (x : Lists) (s t u : SystemView) : Type 0 where
  more : List Envelope
  so : u ≡ relist (with_more x more) t
  messages : t.messages ≡ s.messages ++ more
  timers : t.timers ≡ s.timers
  slow : t.slow ≡ s.slow
  answers : t.answers ≡ s.answers
  events : t.events ≡ s.events

none_told : (x : Lists) (s : SystemView) → IsTold x s s (relist x s)
none_told x s = record {
  more = [];
  so = λ i. relist (record x { messages = sym (append-nil x.messages) i }) s;
  messages = sym (append-nil s.messages);
  timers = refl;
  slow = refl;
  answers = refl;
  events = refl;
}

told_by : (n m : Node) (x : Lists) (s : SystemView) (b : Bool)
    → IsTold x s (cond b (ending.told_down n m s) s) (cond b (ending.told_down n m (relist x s)) (relist x s))
told_by n m x s true = record {
  more = replicate (ending.downs_at m n s) (ending.down m n (with_node m (without_monitors n (node_at s m)) s));
  so = refl;
  messages = refl;
  timers = refl;
  slow = refl;
  answers = refl;
  events = refl;
}
told_by n m x s false = none_told x s

tells_down : (n m : Node) (x : Lists) (s : SystemView) → IsTold x s (ending.down_told n m s) (ending.down_told n m (relist x s))
unfolding ending.down_told
tells_down n m x s = told_by n m x s (has_dist_at s m && links.are_linked n m s.links)

tells_downs : (n : Node) (nodes : List Node) (x : Lists) (s : SystemView)
    → IsTold x s (ending.downs_told n nodes s) (ending.downs_told n nodes (relist x s))
tells_downs n [] x s = none_told x s
tells_downs n (m ∷ nodes) x s =
    let one : IsTold x s (ending.down_told n m s) (ending.down_told n m (relist x s)) = tells_down n m x s in
    let t : SystemView = ending.down_told n m s in
    let rest : IsTold (with_more x one.more) t (ending.downs_told n nodes t) (ending.downs_told n nodes (relist (with_more x one.more) t)) =
    tells_downs n nodes (with_more x one.more) t in
    record {
      more = one.more ++ rest.more;
      so = ap (ending.downs_told n nodes) one.so ∙ rest.so
          ∙ (λ i. relist (record x { messages = append_assoc x.messages one.more rest.more i }) (ending.downs_told n nodes t));
      messages = rest.messages ∙ ap (λ (l : List Envelope). l ++ rest.more) one.messages ∙ append_assoc s.messages one.more rest.more;
      timers = rest.timers ∙ one.timers;
      slow = rest.slow ∙ one.slow;
      answers = rest.answers ∙ one.answers;
      events = rest.events ∙ one.events;
    }

-- ---- the node ends

abbrev with_end : Node → Lists → Lists
with_end n x = record x { events = x.events ++ event.Ended n ∷ [] }

record Ends (n : Node) (x : Lists) (s t u : SystemView) : Type 0 where
  more : List Envelope
  so : u ≡ relist (with_more (with_end n x) more) t
  messages : t.messages ≡ s.messages ++ more
  timers : t.timers ≡ s.timers
  slow : t.slow ≡ s.slow
  answers : t.answers ≡ s.answers
  events : t.events ≡ s.events ++ event.Ended n ∷ []

falls : (n : Node) (x : Lists) (s : SystemView) → ending.taken_down n (relist x s) ≡ relist (with_end n x) (ending.taken_down n s)
unfolding ending.taken_down told
falls n x s = refl

fallen : (n : Node) (s : SystemView) → lists_of (ending.taken_down n s) ≡ with_end n (lists_of s)
unfolding ending.taken_down told
fallen n s = refl

same_alive : (n : Node) (x : Lists) (s : SystemView) → (ending.taken_down n (relist x s)).alive ≡ (ending.taken_down n s).alive
unfolding ending.taken_down told
same_alive n x s = refl

ends : (n : Node) (x : Lists) (s : SystemView) → Ends n x s (ending.ended n s) (ending.ended n (relist x s))
unfolding ending.ended
ends n x s =
    let gone : SystemView = ending.taken_down n s in
    let y : Lists = with_end n x in
    let told_so : IsTold y gone (ending.downs_told n gone.alive gone)
    (ending.downs_told n gone.alive (relist y gone)) = tells_downs n gone.alive y gone in
    let both : ending.downs_told n (ending.taken_down n (relist x s)).alive (ending.taken_down n (relist x s))
    ≡ ending.downs_told n gone.alive (relist y gone) = λ i. ending.downs_told n (same_alive n x s i) (falls n x s i) in
    record {
      more = told_so.more;
      so = ap (ending.unlinked n) (both ∙ told_so.so);
      messages = told_so.messages ∙ ap (λ (l : Lists). l.messages ++ told_so.more) (fallen n s);
      timers = told_so.timers ∙ ap (λ (l : Lists). l.timers) (fallen n s);
      slow = told_so.slow ∙ ap (λ (l : Lists). l.slow) (fallen n s);
      answers = told_so.answers ∙ ap (λ (l : Lists). l.answers) (fallen n s);
      events = told_so.events ∙ ap (λ (l : Lists). l.events) (fallen n s);
    }

-- ---- alike

-- what is added behind what passes the same passes the same
pub same_behind : {A : Type 0} (q : A → Bool) (xs ys xs' ys' more : List A) → filter q xs ≡ filter q ys → xs' ≡ xs ++ more
    → ys' ≡ ys ++ more
    → filter q xs' ≡ filter q ys'
same_behind {A} q xs ys xs' ys' more same is is' =
    ap (filter q) is ∙ filter-append q xs more ∙ ap (λ (l : List A). l ++ filter q more) same ∙ sym (filter-append q ys more)
    ∙ sym (ap (filter q) is')

pub relisted : (s t : SystemView) → AreAlike s t → t ≡ relist (lists_of t) s
relisted s t g = λ i. record {
  cluster = sym g.cluster i;
  files = sym g.files i;
  nodes = sym g.nodes i;
  clock = sym g.clock i;
  step = sym g.step i;
  last_call = sym g.last_call i;
  alive = sym g.alive i;
  links = sym g.links i;
  locks = sym g.locks i;
  timers = t.timers;
  calls = sym g.calls i;
  asleep = sym g.asleep i;
  told = sym g.told i;
  messages = t.messages;
  slow = t.slow;
  answers = t.answers;
  events = t.events;
  is_ticking = sym g.is_ticking i;
  ends_soon = sym g.ends_soon i;
}

pub end_alike : (n : Node) (s t : SystemView) → AreAlike s t → AreAlike (ending.ended n s) (ending.ended n t)
end_alike n s t g =
    let u : SystemView = ending.ended n s in
    let x : Lists = lists_of t in
    let so : Ends n x s u (ending.ended n (relist x s)) = ends n x s in
    let is : ending.ended n t ≡ relist (with_more (with_end n x) so.more) u = ap (ending.ended n) (relisted s t g) ∙ so.so in
    subst (AreAlike u) (sym is) (record {
      cluster = refl;
      files = refl;
      nodes = refl;
      clock = refl;
      step = refl;
      last_call = refl;
      alive = refl;
      links = refl;
      locks = refl;
      calls = refl;
      asleep = refl;
      told = refl;
      answers = λ pair. ap (λ (l : List Answered). answer_count l pair) so.answers ∙ g.answers pair;
      is_ticking = refl;
      ends_soon = refl;
      messages = λ pair. same_behind (is_of_pair pair) s.messages t.messages u.messages (t.messages ++ so.more) so.more (g.messages pair)
          so.messages refl;
      timers = λ o. ap (of_owner node_of_timer o) so.timers ∙ g.timers o;
      slow = λ o. ap (of_owner node_of_slow o) so.slow ∙ g.slow o;
      events = λ o. same_behind (λ (e : Event). is_owner o (node_told e)) s.events t.events u.events (t.events ++ event.Ended n ∷ [])
          (event.Ended n ∷ []) (g.events o) so.events refl;
    })
