-- Messages that arrive at two nodes commute.
use Rattle.std.proofs.Common.{◌≡◌, ◌≢◌, ◌⊎◌, ◌<◌, ◌+◌, ◌++◌, ◌&&◌, ℕ, suc, Bool, true, false, List, [], ◌∷◌, length, filter, Option, slice_get, refl, sym, ap, subst, ◌∙◌, inl, inr, arith}
use Rattle.std.proofs.lemmas.Bool.{cases_eq, false≢true}
use Rattle.std.proofs.lemmas.List.{append_cancel_left, length-append}
use Rattle.std.proofs.lemmas.List.Elements.{filter-append}
use Rattle.std.proofs.lemmas.Option.{none-some, same_Some}
use Rattle.rh_model.specs.declared.node.App.{App}
use Rattle.rh_model.specs.declared.node.Node.{Node}
use Rattle.rh_otp_model.specs.declared.output.Envelope.{Envelope}
use Rattle.rh_otp_net.specs.Queue.{is_of_pair}
use Rattle.rh_otp_system.specs.declared.calls.Call.{Call}
use Rattle.rh_otp_system.specs.declared.slow.Answered.{Answered}
use Rattle.rh_otp_system.specs.Delivering.{arrived}
use Rattle.rh_otp_system.specs.State.{SystemView, node_at}
use Rattle.rh_otp_system.specs.Working.{pair_of, is_answer, answer_count, mail_count_at}
use Rattle.rh_otp_laws.specs.Turns.{node_of_slow}
use Rattle.rh_otp_orders.specs.Orders.{Arrives, LeavesAlone, AreAlike, IsAtHome, MessagesAtTwoNodesCommute, answers_of, is_call, node_of_timer}
use Rattle.rh_otp_orders.proofs.Apart.{in_either_order, same_of_each, same_events, senders_clash}
use Rattle.rh_otp_orders.proofs.Going.{Agree, Went, arrives}
use Rattle.rh_otp_orders.proofs.Same.{Added, IsOf, IsRoom, IsToldBy, Owns, KeptCalls, Grew, cell_at, on_itself}
use Rattle.rh_otp_orders.proofs.Taking.{Taken, arrives_so, taken_arrives, taken_of_more, both_taken, of_different_pairs}

-- lists with the same at each place are the same
pub same_lists : {A : Type 0} (xs ys : List A) → ((k : ℕ) → slice_get xs k ≡ slice_get ys k) → xs ≡ ys
same_lists [] [] same = refl
same_lists [] (y ∷ ys) same = absurd (none-some y (same 0))
same_lists (x ∷ xs) [] same = absurd (none-some x (sym (same 0)))
same_lists (x ∷ xs) (y ∷ ys) same = λ i. same_Some x y (same 0) i ∷ same_lists xs ys (λ k. same (suc k)) i

-- where no nodes were connected
not_grown : {X : Type 0} (a s : SystemView) → s.links ≡ a.links → (Grew a s ⊎ (false ≡ true)) ⊎ X → X
not_grown a s same (inl (inr is)) = absurd (false≢true is)
not_grown a s same (inl (inl grew)) =
    let many : length s.links ≡ length a.links = ap length same in absurd (omega (arith, many, grew))
not_grown a s same (inr so) = so

-- what stands in front is counted, too
pub count_of_more : (pair : Answered) (more answers all : List Answered) → all ≡ more ++ answers
    → answer_count all pair ≡ answer_count more pair + answer_count answers pair
count_of_more pair more answers all is =
    ap (λ (l : List Answered). answer_count l pair) is ∙ ap length (filter-append (λ x. is_answer x pair) more answers)
    ∙ length-append (filter (λ x. is_answer x pair) more) (filter (λ x. is_answer x pair) answers)

agrees_itself : (n : Node) (called : Bool) (a : SystemView) → Agree n called a a
agrees_itself n called a = record {
  files = (refl, refl);
  clock = (refl, refl);
  links = refl;
  locks = refl;
  counts = λ other app. inl refl;
  here = refl;
  alike = λ m. on_itself (node_at a m);
  calls = λ is. refl;
}

-- What another node's turn has left of what a node reads is all of it: `t` is what that made of `s`, and both are without the message
-- that arrives next.
agrees : (n m : Node) (called called' : Bool) (s t : SystemView) (left left' before : List Envelope) → n.0 ≢ m.0
    → (called && called') ≡ false
    → Went m called' false (record s { messages = before }) (record s { messages = before }) t t → LeavesAlone n s t
    → Agree n called (record s { messages = left }) (record t { messages = left' })
agrees n m called called' s t left left' before apart one went keeps = record {
  files = (sym went.kept.0.0, sym went.kept.0.1);
  clock = (sym went.kept.0.3, sym went.kept.0.4);
  links = sym keeps.links;
  locks = sym keeps.locks;
  counts = λ other app. room_for other app (keeps.answers other app);
  here = sym (went.others n.0 apart).0;
  alike = went.lives;
  calls = calls_stand called called' one went.calls;
}
  where
    calls_stand : (called called' : Bool) → (called && called') ≡ false
        → KeptCalls called' s.calls s.calls t.calls t.calls → called ≡ true → s.calls ≡ t.calls
    calls_stand true true one kept is = absurd (false≢true (sym one))
    calls_stand true false one kept is = sym kept.0
    calls_stand false called' one kept is = absurd (false≢true is)

    room_for : (other : Node) (app : Option App)
        → (answers_of t n other app ≡ answers_of s n other app) ⊎ (answers_of t n other app + mail_count_at s n < 20)
        → IsRoom (mail_count_at s n + 1) (answers_of s n other app) (answers_of t n other app)
    room_for other app (inl same) = inl (sym same)
    room_for other app (inr below) =
        let more : answer_count t.answers (pair_of n other app)
        ≡ answer_count went.answers.0 (pair_of n other app) + answer_count s.answers (pair_of n other app) =
        count_of_more (pair_of n other app) went.answers.0 s.answers t.answers went.answers.1 in
        inr (omega (arith, more, below), omega (arith, below))

abbrev pub without : SystemView → List Envelope → SystemView
without s left = record s { messages = left }

-- ---- what comes of both

-- from the one over what both have begun with to the other
round : {A : Type 0} {v t s u w : A} → v ≡ t → t ≡ s → u ≡ s → w ≡ u → v ≡ w
round to_t to_s from_s from_u = to_t ∙ to_s ∙ sym from_s ∙ sym from_u

same_cells : (called called' : Bool) (s t u v w : SystemView) (a b : Node) (left_e left_f left_t left_u : List Envelope) → a.0 ≢ b.0
    → Went a called false (without s left_e) (without s left_e) t t → Went b called' false (without s left_f) (without s left_f) u u
    → Went b called' false (without s left_f) (without t left_t) u v → Went a called false (without s left_e) (without u left_u) t w
    → (k : ℕ) → cell_at v k ≡ cell_at w k
same_cells called called' s t u v w a b left_e left_f left_t left_u apart to_t to_u to_v to_w k = by (cases_eq k a.0) (cases_eq k b.0)
  where
    by : (k ≡ a.0) ⊎ (k ≢ a.0) → (k ≡ b.0) ⊎ (k ≢ b.0) → cell_at v k ≡ cell_at w k
    by (inl at_a) (inl at_b) = absurd (apart (sym at_a ∙ at_b))
    by (inl at_a) (inr not_b) =
        (to_v.others k not_b).1 ∙ subst (λ (j : ℕ). cell_at t j ≡ cell_at w j) (sym at_a) to_w.here
    by (inr not_a) (inl at_b) =
        subst (λ (j : ℕ). cell_at v j ≡ cell_at u j) (sym at_b) (sym to_v.here) ∙ sym (to_w.others k not_a).1
    by (inr not_a) (inr not_b) =
        round (to_v.others k not_b).1 (to_t.others k not_a).0 (to_u.others k not_b).0 (to_w.others k not_a).1

same_calls : (called called' : Bool) (s t u v w : List Call) → (called && called') ≡ false → KeptCalls called s s t t
    → KeptCalls called' s s u u
    → KeptCalls called' s t u v → KeptCalls called s u t w
    → v ≡ w
same_calls true true s t u v w one to_t to_u to_v to_w = absurd (false≢true (sym one))
same_calls true false s t u v w one to_t to_u to_v to_w = to_v.1 ∙ to_w
same_calls false true s t u v w one to_t to_u to_v to_w = sym to_v ∙ sym to_w.1
same_calls false false s t u v w one to_t to_u to_v to_w = round to_v.1 to_t.0 to_u.0 to_w.1

-- behind the one turn stands what it has added, and then what the other one has
behind_both : {A : Type 0} (base first last xs ys : List A) → xs ≡ base ++ first → ys ≡ xs ++ last → ys ≡ (base ++ first) ++ last
behind_both base first last xs ys is_first is_last = is_last ∙ ap (λ l. l ++ last) is_first

alike : (called called' : Bool) (s t u v w : SystemView) (a b : Node) (left_e left_f left : List Envelope) → a.0 ≢ b.0
    → (called && called') ≡ false
    → LeavesAlone b s t → LeavesAlone a s u
    → (sent_e : Added (IsOf a s) left_e left_e t.messages t.messages) (sent_f : Added (IsOf b s) left_f left_f u.messages u.messages)
    → Went a called false (without s left_e) (without s left_e) t t → Went b called' false (without s left_f) (without s left_f) u u
    → Went b called' false (without s left_f) (without t (left ++ sent_e.0)) u v
    → Went a called false (without s left_e) (without u (left ++ sent_f.0)) t w
    → AreAlike v w
alike called called' s t u v w a b left_e left_f left apart one keeps_t keeps_u sent_e sent_f to_t to_u to_v to_w =
    let more_f : Added (IsOf b s) left_f (left ++ sent_e.0) u.messages v.messages = not_grown
    (without s left_f) u keeps_u.links to_v.sent.0 in
    let more_e : Added (IsOf a s) left_e (left ++ sent_f.0) t.messages w.messages = not_grown
    (without s left_e) t keeps_t.links to_w.sent.0 in
    let same_f : more_f.0 ≡ sent_f.0 = append_cancel_left left_f more_f.0 sent_f.0 (sym more_f.1 ∙ sent_f.1) in
    let same_e : more_e.0 ≡ sent_e.0 = append_cancel_left left_e more_e.0 sent_e.0 (sym more_e.1 ∙ sent_e.1) in
    let slow_f : Added (Owns node_of_slow b) s.slow t.slow u.slow v.slow = not_grown (without s left_f) u keeps_u.links to_v.slow.0 in
    let slow_e : Added (Owns node_of_slow a) s.slow u.slow t.slow w.slow = not_grown (without s left_e) t keeps_t.links to_w.slow.0 in
    let timers_f : Added (Owns node_of_timer b) s.timers t.timers u.timers v.timers = to_v.timers in
    let timers_e : Added (Owns node_of_timer a) s.timers u.timers t.timers w.timers = to_w.timers in
    let events_f : Added (IsToldBy called' b) s.events t.events u.events v.events = to_v.events in
    let events_e : Added (IsToldBy called a) s.events u.events t.events w.events = to_w.events in
    let cells : v.nodes.cells ≡ w.nodes.cells =
    same_lists v.nodes.cells w.nodes.cells
    (same_cells called called' s t u v w a b left_e left_f (left ++ sent_e.0) (left ++ sent_f.0) apart to_t to_u to_v to_w) in
    let base : v.nodes.base ≡ w.nodes.base = round to_v.kept.1.2 to_t.kept.0.2 to_u.kept.0.2 to_w.kept.1.2 in
    record {
      cluster = round to_v.kept.1.0 to_t.kept.0.0 to_u.kept.0.0 to_w.kept.1.0;
      files = round to_v.kept.1.1 to_t.kept.0.1 to_u.kept.0.1 to_w.kept.1.1;
      nodes = λ i. record { base = base i; cells = cells i };
      clock = round to_v.kept.1.3 to_t.kept.0.3 to_u.kept.0.3 to_w.kept.1.3;
      step = round to_v.kept.1.4 to_t.kept.0.4 to_u.kept.0.4 to_w.kept.1.4;
      last_call = round to_v.kept.1.5 to_t.kept.0.5 to_u.kept.0.5 to_w.kept.1.5;
      alive = round to_v.kept.1.6 to_t.kept.0.6 to_u.kept.0.6 to_w.kept.1.6;
      links = sym to_v.links ∙ keeps_u.links ∙ sym keeps_t.links ∙ to_w.links;
      locks = sym to_v.locks ∙ keeps_u.locks ∙ sym keeps_t.locks ∙ to_w.locks;
      calls = same_calls called called' s.calls t.calls u.calls v.calls w.calls one to_t.calls to_u.calls to_v.calls to_w.calls;
      asleep = round to_v.kept.1.7 to_t.kept.0.7 to_u.kept.0.7 to_w.kept.1.7;
      told = round to_v.kept.1.8 to_t.kept.0.8 to_u.kept.0.8 to_w.kept.1.8;
      answers = λ pair.
          let v_of : answer_count v.answers pair ≡ answer_count to_v.answers.0 pair + answer_count t.answers pair =
          count_of_more pair to_v.answers.0 t.answers v.answers to_v.answers.2 in
          let t_of : answer_count t.answers pair ≡ answer_count to_w.answers.0 pair + answer_count s.answers pair =
          count_of_more pair to_w.answers.0 s.answers t.answers to_w.answers.1 in
          let w_of : answer_count w.answers pair ≡ answer_count to_w.answers.0 pair + answer_count u.answers pair =
          count_of_more pair to_w.answers.0 u.answers w.answers to_w.answers.2 in
          let u_of : answer_count u.answers pair ≡ answer_count to_v.answers.0 pair + answer_count s.answers pair =
          count_of_more pair to_v.answers.0 s.answers u.answers to_v.answers.1 in
          omega (arith, v_of, t_of, w_of, u_of);
      is_ticking = round to_v.kept.1.9 to_t.kept.0.9 to_u.kept.0.9 to_w.kept.1.9;
      ends_soon = round to_v.kept.1.10 to_t.kept.0.10 to_u.kept.0.10 to_w.kept.1.10;
      messages = λ pair. in_either_order (is_of_pair pair) (IsOf a s) (IsOf b s) left sent_e.0 sent_f.0 v.messages w.messages
          (senders_clash s a b pair apart) sent_e.3 sent_f.3
          (more_f.2 ∙ ap (λ (l : List Envelope). (left ++ sent_e.0) ++ l) same_f)
          (more_e.2 ∙ ap (λ (l : List Envelope). (left ++ sent_f.0) ++ l) same_e);
      timers = same_of_each node_of_timer a b s.timers timers_e.0 timers_f.0 v.timers w.timers apart timers_e.3 timers_f.3
          (behind_both s.timers timers_e.0 timers_f.0 t.timers v.timers timers_e.1 timers_f.2)
          (behind_both s.timers timers_f.0 timers_e.0 u.timers w.timers timers_f.1 timers_e.2);
      slow = same_of_each node_of_slow a b s.slow slow_e.0 slow_f.0 v.slow w.slow apart slow_e.3 slow_f.3
          (behind_both s.slow slow_e.0 slow_f.0 t.slow v.slow slow_e.1 slow_f.2)
          (behind_both s.slow slow_f.0 slow_e.0 u.slow w.slow slow_f.1 slow_e.2);
      events = same_events called called' a b s.events events_e.0 events_f.0 v.events w.events apart one events_e.3 events_f.3
          (behind_both s.events events_e.0 events_f.0 t.events v.events events_e.1 events_f.2)
          (behind_both s.events events_f.0 events_e.0 u.events w.events events_f.1 events_e.2);
    }

-- ---- the law

abbrev reached : Envelope → SystemView → List Envelope → SystemView
reached e s left = arrived e.to e.message (without s left)

and_turned : (p q : Bool) → (p && q) ≡ false → (q && p) ≡ false
and_turned true true is = is
and_turned true false is = refl
and_turned false true is = refl
and_turned false false is = refl

abbrev IsBoth : SystemView → Envelope → Envelope → SystemView → SystemView → Type 0
IsBoth s e f t u = (v : SystemView) × (w : SystemView) × Arrives f t v × Arrives e u w × AreAlike v w

both_come : (s : SystemView) (e f : Envelope) (left_e left_f : List Envelope) → Taken e s.messages left_e → Taken f s.messages left_f
    → e.to.node.0 ≢ f.to.node.0 → IsAtHome e s → IsAtHome f s → (is_call e.to.role && is_call f.to.role) ≡ false
    → LeavesAlone f.to.node s (reached e s left_e) → LeavesAlone e.to.node s (reached f s left_f)
    → IsBoth s e f (reached e s left_e) (reached f s left_f)
both_come s e f left_e left_f taken_e taken_f apart home_e home_f one keeps_t keeps_u =
    let a : Node = e.to.node in
    let b : Node = f.to.node in
    let called : Bool = is_call e.to.role in
    let called' : Bool = is_call f.to.role in
    let t : SystemView = reached e s left_e in
    let u : SystemView = reached f s left_f in
    let to_t : Went a called false (without s left_e) (without s left_e) t t =
    arrives e.to e.message (without s left_e) (without s left_e) (λ place call there is. inl (home_e place call there is))
    (agrees_itself a called (without s left_e)) (keeps_t.alive a) in
    let to_u : Went b called' false (without s left_f) (without s left_f) u u =
    arrives f.to f.message (without s left_f) (without s left_f) (λ place call there is. inl (home_f place call there is))
    (agrees_itself b called' (without s left_f)) (keeps_u.alive b) in
    let sent_e : Added (IsOf a (without s left_e)) left_e left_e t.messages t.messages = not_grown s t keeps_t.links to_t.sent.0 in
    let sent_f : Added (IsOf b (without s left_f)) left_f left_f u.messages u.messages = not_grown s u keeps_u.links to_u.sent.0 in
    let both : (left : List Envelope) × Taken f left_e left × Taken e left_f left =
    both_taken e f s.messages left_e left_f (of_different_pairs e f apart) taken_e taken_f in
    let left_t : List Envelope = both.0 ++ sent_e.0 in
    let left_u : List Envelope = both.0 ++ sent_f.0 in
    let v : SystemView = reached f t left_t in
    let w : SystemView = reached e u left_u in
    let to_v : Went b called' false (without s left_f) (without t left_t) u v =
    arrives f.to f.message (without s left_f) (without t left_t) (λ place call there is. inl (home_f place call there is))
    (agrees b a called' called s t left_f left_t left_e (λ same. apart (sym same)) (and_turned called called' one) to_t keeps_t)
    (keeps_u.alive b) in
    let to_w : Went a called false (without s left_e) (without u left_u) t w =
    arrives e.to e.message (without s left_e) (without u left_u) (λ place call there is. inl (home_e place call there is))
    (agrees a b called called' s u left_e left_u left_f apart one to_u keeps_u)
    (keeps_t.alive a) in (
      v,
      w,
      taken_arrives t f left_t
          (subst (λ (l : List Envelope). Taken f l left_t) (sym sent_e.1) (taken_of_more f left_e both.0 sent_e.0 both.1)),
      taken_arrives u e left_u
          (subst (λ (l : List Envelope). Taken e l left_u) (sym sent_f.1) (taken_of_more e left_f both.0 sent_f.0 both.2)),
      alike called called' s t u v w a b left_e left_f both.0 apart one keeps_t keeps_u sent_e sent_f to_t to_u to_v to_w,
    )

pub messages_commute : MessagesAtTwoNodesCommute
messages_commute s t u e f is =
    let from_e : (left : List Envelope) × Taken e s.messages left × (t ≡ reached e s left) = arrives_so s t e is.one in
    let from_f : (left : List Envelope) × Taken f s.messages left × (u ≡ reached f s left) = arrives_so s u f is.other in
    let both : IsBoth s e f (reached e s from_e.0) (reached f s from_f.0) =
    both_come s e f from_e.0 from_f.0 from_e.1 from_f.1 is.two_nodes is.one_home is.other_home is.one_call
    (subst (LeavesAlone f.to.node s) from_e.2 is.leaves_other) (subst (LeavesAlone e.to.node s) from_f.2 is.leaves_one) in
    subst (λ (x : SystemView). IsBoth s e f x u) (sym from_e.2)
    (subst (λ (x : SystemView). IsBoth s e f (reached e s from_e.0) x) (sym from_f.2) both)
