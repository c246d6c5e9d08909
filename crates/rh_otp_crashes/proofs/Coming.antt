-- What each message comes to while a start at the first node is underway.
use Rattle.std.proofs.Common.{◌≡◌, ◌≢◌, ◌⊎◌, ◌≤◌, ◌==◌, ℕ, Bool, true, false, cond, length, filter, List, [], ◌∷◌, Option, None, refl, sym, ap, subst, ◌∙◌, inl, inr, arith}
use Rattle.std.specs.Prelude.{All}
use Rattle.std.proofs.lemmas.Bool.{cases_Bool, eq-eqb, false≢true}
use Rattle.std.proofs.lemmas.List.Elements.{All-nil, All-append, All-weaker}
use Rattle.rh_model.specs.ClusterView.{ClusterView}
use Rattle.rh_model.specs.declared.node.App.{App}
use Rattle.rh_model.specs.declared.node.Node.{Node}
use Rattle.rh_otp_model.specs.declared.message.Change.TheVariants as change_of
use Rattle.rh_otp_model.specs.declared.message.Message.{Message}
use Rattle.rh_otp_model.specs.declared.message.Message.TheVariants as message
use Rattle.rh_otp_model.specs.declared.output.Envelope.{Envelope}
use Rattle.rh_otp_model.specs.declared.wait.OwnFile.{OwnFile}
use Rattle.rh_otp_model.specs.Own.{OwnView}
use Rattle.rh_otp_controller.specs.Starting.{lacks_running}
use Rattle.rh_otp_controller.specs.State.{ControllerView}
use Rattle.rh_otp_dist.specs.State.{DistView}
use Rattle.rh_otp_node.specs.Live.{LiveView}
use Rattle.rh_otp_node.specs.Turns.{controller_turn}
use Rattle.rh_otp_system.specs.Delivering.{arrived, controlled}
use Rattle.rh_otp_system.specs.Moves.{Delivers}
use Rattle.rh_otp_system.specs.State.{SystemView, node_at, with_node, is_alive_at}
use Rattle.rh_otp_system.specs.Working.{mailed}
use Rattle.rh_otp_laws.proofs.Nodes.{node_written}
use Rattle.rh_otp_orders.proofs.Taking.{Taken}
use Rattle.rh_otp_crashes.specs.Failovers.{IsAble}
use Rattle.rh_otp_crashes.proofs.Begun.{AreNobodys, says_failover, says_started}
use Rattle.rh_otp_crashes.proofs.Carrying.{letters}
use Rattle.rh_otp_crashes.proofs.Hearing.{IsTold}
use Rattle.rh_otp_crashes.proofs.News.{IsNews, IsAbroad, IsHis, IsLater, IsLast, IsUnmoved, fires, starts, started, running, tells, moves, wakes, news, runs_there, is_to, his_later, all_pass, Spoke, speaks, it_is_lost, it_fails_over, it_started, it_runs}
use Rattle.rh_otp_crashes.proofs.Peace.{Acted, Came, Delivered, without, only_messages, acts_dist_as, acts_controller_as, alive_on, arrives_alive, arrives_dead, taken_all}
use Rattle.rh_otp_crashes.proofs.Phases.{Phase, over, told, Due, due, phase_on, HearsThere, hears_there, wakes_there}
use Rattle.rh_otp_crashes.proofs.Starting.{moves_elsewhere}
use Rattle.rh_otp_crashes.proofs.Telling.{Lost, Ran, loses, ran}
use Rattle.rh_otp_crashes.proofs.Turning.{Turned, own_in, node_is}
use Rattle.rh_otp_crashes.proofs.Underway.{Underway, Becomes, here_on, abroad_on, acted_on, left_underway, none_left, no_timer_left, last_all, away_all}
use Rattle.rh_otp_crashes.proofs.Waiting.{Behaves}

-- ---- what each message comes to, where it is for the node

-- it has come, or was lost
abbrev pub CameOn : (Node → ℕ) → Node → App → Node → SystemView → SystemView → Type 0
CameOn lives n a m s t = Came (Behaves n a) (IsNews lives n a) m s t × Underway lives n a t

is_lost : {lives : Node → ℕ} {n : Node} {a : App} (m : Node) (s t : SystemView) → Underway lives n a s → t ≡ s → CameOn lives n a m s t
is_lost {lives} {n} {a} m s t f same = (inr same, subst (Underway lives n a) (sym same) f)

has_become : {lives : Node → ℕ} {n : Node} {a : App} (s t : SystemView) → Underway lives n a s → All (IsAbroad lives n a) s.messages
    → Becomes lives n a s t → CameOn lives n a n s t
has_become s t f away b = (inl b.acted, here_on s t f away b)

spoken : {lives : Node → ℕ} {n : Node} {a : App} (s t : SystemView) → Underway lives n a s → Spoke lives n a s t → Becomes lives n a s t
spoken {lives} {n} {a} s t f spoke = record {
  acted = spoke.acted;
  fresh = spoke.fresh;
  few = at_most (is_to n) spoke.acted.more spoke.few;
  able = inl spoke.last;
  requests = spoke.requests;
  knows = λ d is. record {
    takeovers = f.takeovers d (sym spoke.dist ∙ is);
    before = d;
    had = sym spoke.dist ∙ is;
    known = refl;
  };
}
  where
    at_most : (q : Envelope → Bool) (l : List Envelope) → length l ≤ 1 → length (filter q l) ≤ 1
    at_most q [] few = omega arith
    at_most q (e ∷ []) few = by (q e)
      where
        by : (b : Bool) → length (cond b (e ∷ []) []) ≤ 1
        by true = omega arith
        by false = omega arith
    at_most q (e ∷ f ∷ l) few = absurd (omega (arith, few))

to_itself : (n : Node) → (n.0 == n.0) ≡ true
to_itself n = eq-eqb n.0 n.0 refl

-- what isn't behind the timer yet, or behind what the controller is told
not_yet : (P : Envelope → Type 0) {X : Type 0} (e : Envelope) (messages left : List Envelope) → Taken e messages left → (P e → ⊥)
    → All P messages ⊎ X → X
not_yet P e messages left taken is_not (inl all) = absurd (is_not (taken_all P e messages left taken all).0)
not_yet P e messages left taken is_not (inr x) = x

not_to_itself : (n : Node) → (n.0 == n.0) ≡ false → ⊥
not_to_itself n is = false≢true (sym is ∙ to_itself n)

still_able : (c : ClusterView) (own : OwnView) (n : Node) (a : App) (v w : LiveView) → w.controller ≡ v.controller → w.life ≡ v.life
    → IsAble c own n a v → IsAble c own n a w
still_able c own n a v w same life able = record {
  needs = (λ i. lacks_running (record {
    cluster = c;
    own = own;
    here = record { node = n; life = life i };
    state = same i;
    out = [];
  }) a) ∙ able.needs;
  requests = ap (λ (x : ControllerView). x.start_req) same ∙ able.requests;
}

-- the timer's
lost_becomes : {lives : Node → ℕ} {n : Node} {a : App} (s t : SystemView) → Underway lives n a s
    → IsAble s.cluster (own_in s.files n) n a (node_at s n) → Lost lives n a s t → Becomes lives n a s t
lost_becomes {lives} {n} {a} s t f able lost =
    let acted : Acted (Behaves n a) (IsNews lives n a) n s t = lost.acted in
    let was : acted.old ≡ node_at s n = sym (node_is s n acted.old acted.there) in
    let same : acted.new.controller ≡ (node_at s n).controller = lost.controller ∙ ap (λ (v : LiveView). v.controller) was in
    record {
      acted = acted;
      fresh = lost.fresh;
      few = subst (λ (k : ℕ). k ≤ 1) (sym lost.few) (omega arith);
      able = inr (still_able s.cluster (own_in s.files n) n a (node_at s n) acted.new same (acted.life ∙ ap (λ (v : LiveView). v.life) was) able);
      requests = subst (λ (x : ControllerView). AreNobodys x.start_req) (sym same) f.requests;
      knows = lost.knows;
    }

-- that it runs
ran_becomes : {lives : Node → ℕ} {n : Node} {a : App} (s t : SystemView) → Underway lives n a s → Ran lives n a s t → Becomes lives n a s t
ran_becomes {lives} {n} {a} s t f done = record {
  acted = done.acted;
  fresh = done.fresh;
  few = subst (λ (k : ℕ). k ≤ 1) (sym (all_pass (is_to n) done.acted.more (away_all done.acted.more done.away))) (omega arith);
  able = inl (last_all done.acted.more done.away);
  requests = subst (λ (x : ControllerView). AreNobodys x.start_req) (sym done.controller) f.requests;
  knows = done.knows;
}

-- ---- what each message comes to

his_news : {lives : Node → ℕ} {n : Node} {a : App} (m : Node) → m.0 ≢ n.0 → (e : Envelope) → IsHis lives n a m e → IsNews lives n a e
his_news {lives} {n} {a} m other e is = subst (IsNews lives n a) (sym is) (moves m other)

abbrev as_news : {lives : Node → ℕ} {n : Node} {a : App} {c : ClusterView} {files : List OwnFile} {m : Node} {life : ℕ} {x : Message}
    {o : Option DistView} → m.0 ≢ n.0 → Turned (IsHis lives n a m) c files m life x o → Turned (IsNews lives n a) c files m life x o
as_news {lives} {n} {a} {m = m} other d = record {
  next = d.next;
  outs = d.outs;
  comes = d.comes;
  plain = d.plain;
  kinds = All-weaker (IsHis lives n a m) (IsNews lives n a) (his_news m other) (letters d.outs) d.kinds;
  rest = d.rest;
}

-- the news, at another node
heard_at : {lives : Node → ℕ} {n : Node} {a : App} (m : Node) (q : SystemView) → Underway lives n a q → m.0 ≢ n.0
    → is_alive_at q m ≡ true → CameOn lives n a m q (mailed m (message.AppStarted n a None) q)
heard_at {lives} {n} {a} m q g other alive =
    let heard : HearsThere lives n a m q = hears_there m q (λ d has. g.peace.dists m d alive has) (g.phases m other alive) in
    let d : Turned (IsHis lives n a m) q.cluster q.files m (lives m) (message.AppStarted n a None) (node_at q m).dist = heard.turned in
    let as_so = acts_dist_as m (message.AppStarted n a None) q g.peace alive (as_news other d) in
    let acted : Acted (Behaves n a) (IsNews lives n a) m q (mailed m (message.AppStarted n a None) q) = as_so.acted in
    let his : All (IsHis lives n a m) acted.more = subst (All (IsHis lives n a m)) (sym as_so.sent) d.kinds in
    let is : (node_at (with_node m acted.new q) m).dist ≡ d.next =
    ap (λ (v : LiveView). v.dist) (node_written q m acted.old acted.new acted.there) ∙ as_so.dist in
    (inl acted, abroad_on m q _ g other acted his (after acted his d.next is heard.after))
  where
    after : {t : SystemView} (acted : Acted (Behaves n a) (IsNews lives n a) m q t) → All (IsHis lives n a m) acted.more
        → (next : Option DistView) → (node_at (with_node m acted.new q) m).dist ≡ next → All (IsLater m) q.messages ⊎ IsTold a next
        → Phase n a m (acted_on m acted.new acted.more acted.set acted.seen q)
    after acted his next is (inl all) =
        over (All-append (IsLater m) q.messages acted.more all
        (All-weaker (IsHis lives n a m) (IsLater m) (his_later lives n a m m) acted.more his))
    after acted his next is (inr so) = told (subst (IsTold a) (sym is) so)

-- its controller is told where it runs
learned_at : {lives : Node → ℕ} {n : Node} {a : App} (m : Node) (q : SystemView) → Underway lives n a q → m.0 ≢ n.0
    → is_alive_at q m ≡ true → CameOn lives n a m q (controlled m (message.Change a (change_of.Started n)) q)
learned_at {lives} {n} {a} m q g other alive =
    let as_so = acts_controller_as m (message.Change a (change_of.Started n)) q g.peace alive (moves_elsewhere q.cluster q.files m a n) in
    let acted : Acted (Behaves n a) (IsNews lives n a) m q (controlled m (message.Change a (change_of.Started n)) q) = as_so.0 in
    let is : (node_at (with_node m acted.new q) m).dist ≡ (node_at q m).dist =
    ap (λ (v : LiveView). v.dist) (node_written q m acted.old acted.new acted.there) ∙ as_so.2 in (
      inl acted,
      abroad_on m q _ g other acted (subst (All (IsHis lives n a m)) (sym as_so.1) (All-nil (IsHis lives n a m)))
          (phase_on m m q acted.new acted.more acted.set acted.seen is (alive_on m n q _ acted)
          (subst (All (IsLater m)) (sym as_so.1) (All-nil (IsLater m))) (subst (All (IsUnmoved m)) (sym as_so.1) (All-nil (IsUnmoved m)))
          (g.phases m other alive)),
    )

-- its timer
woken_at : {lives : Node → ℕ} {n : Node} {a : App} (m : Node) (loss : ℕ) (q : SystemView) → Underway lives n a q → m.0 ≢ n.0
    → is_alive_at q m ≡ true → All (IsLater m) q.messages → Due n a m q → CameOn lives n a m q (mailed m (message.RestartAppl a loss) q)
woken_at {lives} {n} {a} m loss q g other alive none due_now =
    let as_so = wakes_there m loss q other g.peace alive due_now in
    let acted : Acted (Behaves n a) (IsNews lives n a) m q (mailed m (message.RestartAppl a loss) q) = as_so.0 in (
      inl acted,
      abroad_on m q _ g other acted (subst (All (IsHis lives n a m)) (sym as_so.1) (All-nil (IsHis lives n a m)))
          (over (All-append (IsLater m) q.messages acted.more none (subst (All (IsLater m)) (sym as_so.1) (All-nil (IsLater m))))),
    )

pub came_on : {lives : Node → ℕ} {n : Node} {a : App} (s : SystemView) (e : Envelope) (left : List Envelope) → Underway lives n a s
    → Taken e s.messages left → IsNews lives n a e → CameOn lives n a e.to.node (without s left) (arrived e.to e.message (without s left))
came_on {lives} {n} {a} s _ left f taken (fires loss) = by (cases_Bool (is_alive_at s n))
  where
    e : Envelope
    e = it_is_lost lives n a loss

    q : SystemView
    q = without s left

    g : Underway lives n a q
    g = left_underway s e left f taken

    by : (is_alive_at s n ≡ true) ⊎ (is_alive_at s n ≡ false) → CameOn lives n a n q (arrived e.to e.message q)
    by (inl alive) =
        rw (arrives_alive e.to e.message q alive (g.peace.same_lives n))
        (has_become q _ g (none_left s e left f taken (to_itself n))
        (lost_becomes q _ g (not_yet (IsLast n) e s.messages left taken (not_to_itself n) f.able)
        (loses loss q g.peace alive (not_yet (IsLater n) e s.messages left taken (not_to_itself n) f.early) g.takeovers)))
    by (inr dead) = is_lost n q _ g (arrives_dead e.to e.message q dead)
came_on {lives} {n} {a} s _ left f taken (starts gone) = by (cases_Bool (is_alive_at s n))
  where
    e : Envelope
    e = it_fails_over lives n a gone

    q : SystemView
    q = without s left

    g : Underway lives n a q
    g = left_underway s e left f taken

    able : IsAble q.cluster (own_in q.files n) n a (node_at q n)
    able = not_yet (IsLast n) e s.messages left taken (not_to_itself n) f.able

    by : (is_alive_at s n ≡ true) ⊎ (is_alive_at s n ≡ false) → CameOn lives n a n q (arrived e.to e.message q)
    by (inl alive) =
        rw (arrives_alive e.to e.message q alive (g.peace.same_lives n))
        (has_become q _ g (none_left s e left f taken (to_itself n))
        (spoken q _ g (speaks e.message q g.peace alive
        (says_failover a gone (controller_turn q.cluster (own_in q.files n) n (node_at q n)) refl able.needs able.requests))))
    by (inr dead) = is_lost n q _ g (arrives_dead e.to e.message q dead)
came_on {lives} {n} {a} s _ left f taken started = by (cases_Bool (is_alive_at s n))
  where
    e : Envelope
    e = it_started lives n a

    q : SystemView
    q = without s left

    g : Underway lives n a q
    g = left_underway s e left f taken

    by : (is_alive_at s n ≡ true) ⊎ (is_alive_at s n ≡ false) → CameOn lives n a n q (arrived e.to e.message q)
    by (inl alive) =
        rw (arrives_alive e.to e.message q alive (g.peace.same_lives n))
        (has_become q _ g (none_left s e left f taken (to_itself n))
        (spoken q _ g (speaks e.message q g.peace alive
        (says_started a (controller_turn q.cluster (own_in q.files n) n (node_at q n)) refl g.requests))))
    by (inr dead) = is_lost n q _ g (arrives_dead e.to e.message q dead)
came_on {lives} {n} {a} s _ left f taken running = by (cases_Bool (is_alive_at s n))
  where
    e : Envelope
    e = it_runs lives n a

    q : SystemView
    q = without s left

    g : Underway lives n a q
    g = left_underway s e left f taken

    by : (is_alive_at s n ≡ true) ⊎ (is_alive_at s n ≡ false) → CameOn lives n a n q (arrived e.to e.message q)
    by (inl alive) =
        rw (arrives_alive e.to e.message q alive (g.peace.same_lives n))
        (has_become q _ g (none_left s e left f taken (to_itself n)) (ran_becomes q _ g (ran q g.peace alive g.takeovers g.sees)))
    by (inr dead) = is_lost n q _ g (arrives_dead e.to e.message q dead)
came_on {lives} {n} {a} s _ left f taken (tells m other) = by (cases_Bool (is_alive_at s m))
  where
    e : Envelope
    e = news lives n a m

    q : SystemView
    q = without s left

    g : Underway lives n a q
    g = left_underway s e left f taken

    by : (is_alive_at s m ≡ true) ⊎ (is_alive_at s m ≡ false) → CameOn lives n a m q (arrived e.to e.message q)
    by (inl alive) = rw (arrives_alive e.to e.message q alive (g.peace.same_lives m)) (heard_at m q g other alive)
    by (inr dead) = is_lost m q _ g (arrives_dead e.to e.message q dead)
came_on {lives} {n} {a} s _ left f taken (moves m other) = by (cases_Bool (is_alive_at s m))
  where
    e : Envelope
    e = runs_there lives n a m

    q : SystemView
    q = without s left

    g : Underway lives n a q
    g = left_underway s e left f taken

    by : (is_alive_at s m ≡ true) ⊎ (is_alive_at s m ≡ false) → CameOn lives n a m q (arrived e.to e.message q)
    by (inl alive) = rw (arrives_alive e.to e.message q alive (g.peace.same_lives m)) (learned_at m q g other alive)
    by (inr dead) = is_lost m q _ g (arrives_dead e.to e.message q dead)
came_on {lives} {n} {a} s _ left f taken (wakes m other loss) = by (cases_Bool (is_alive_at s m))
  where
    e : Envelope
    e = it_is_lost lives m a loss

    q : SystemView
    q = without s left

    g : Underway lives n a q
    g = left_underway s e left f taken

    by : (is_alive_at s m ≡ true) ⊎ (is_alive_at s m ≡ false) → CameOn lives n a m q (arrived e.to e.message q)
    by (inl alive) =
        rw (arrives_alive e.to e.message q alive (g.peace.same_lives m))
        (woken_at m loss q g other alive (no_timer_left m s e left f taken (to_itself m))
        (due m s left (λ all. not_to_itself m (taken_all (IsLater m) e s.messages left taken all).0) (f.phases m other alive)))
    by (inr dead) = is_lost m q _ g (arrives_dead e.to e.message q dead)

pub goes_on : {lives : Node → ℕ} {n : Node} {a : App} (s t : SystemView) → Underway lives n a s → Delivers s t → Underway lives n a t
goes_on {lives} {n} {a} s t f one =
    let d : Delivered (Behaves n a) (IsNews lives n a) lives s t = only_messages s t f.peace one in
    subst (Underway lives n a) (sym d.is) (came_on s d.message d.left f d.taken d.kind).1
