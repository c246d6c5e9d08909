-- Each call is answered alike, and leads to what is alike; so a whole rehearsal shows the same.
use Rattle.std.proofs.Common.{◌≡◌, ◌<◌, ◌+◌, ◌-◌, nat_lt, ℕ, Bool, true, false, cond, List, [], ◌∷◌, length, refl, sym, ap, subst, arith}
use Rattle.std.proofs.lemmas.Bool.{ltb-true}
use Rattle.rh_calls.specs.declared.call.Call.{Call}
use Rattle.rh_calls.specs.declared.call.Call.TheVariants as call
use Rattle.rh_history.specs.HistoryView.{HistoryView}
use Rattle.rh_model.specs.ClusterView.{ClusterView, node_count}
use Rattle.rh_otp_model.specs.declared.wait.OwnFile.{OwnFile}
use Rattle.rh_otp_net.specs.declared.order.Order.{Order}
use Rattle.rh_otp_system.specs.declared.cell.Cell.{Cell}
use Rattle.rh_otp_sim.specs.declared.calls.LiveReply.{LiveReply}
use Rattle.rh_otp_sim.specs.declared.calls.LiveReply.TheVariants as reply
use Rattle.rh_otp_sim.specs.declared.stepping.Outcome.TheVariants as outcome
use Rattle.rh_otp_sim.specs.Calls.{made_by, reply_to}
use Rattle.rh_otp_sim.specs.Laws.{behind}
use Rattle.rh_otp_sim.specs.Sim.{LiveSimView, opened, first_cells, at_step_of, can_undo, can_redo}
use Rattle.rh_otp_reached.proofs.States.{Holds, makes_holds, opened_holds}
use Rattle.rh_otp_rehearsals.specs.Alike.{NetsAlike, HoldAlike, RepliesAlike}
use Rattle.rh_otp_rehearsals.specs.Rehearsals.{CallEndsAlike, EachEndsAlike, AnswerAlike, RehearsalsEndAlike}
use Rattle.rh_otp_rehearsals.proofs.Cells.{alike_with_itself, as_many, each_of, net_in}
use Rattle.rh_otp_rehearsals.proofs.Refusing.{another}
use Rattle.rh_otp_rehearsals.proofs.Stepping.{Matches, steps_both}

-- ---- replies

alike_itself : (r : LiveReply) → RepliesAlike r r
alike_itself (reply.Step (outcome.Done h)) = record { answer = refl; lines = λ o. refl }
alike_itself (reply.Step (outcome.Refused why)) = refl
alike_itself (reply.Step outcome.Endless) = refl
alike_itself reply.Undone = refl
alike_itself reply.Redone = refl
alike_itself reply.AtStart = refl
alike_itself reply.AtEnd = refl
alike_itself (reply.Moved k) = refl
alike_itself reply.Seen = refl

same_reply : (r q : LiveReply) → r ≡ q → RepliesAlike r q
same_reply r q same = subst (RepliesAlike r) same (alike_itself r)

-- ---- undo and redo

abbrev Together : LiveSimView → Order → HistoryView Cell → Type 0
Together sim order history = Matches sim (another sim order history)

at_step_matches : (k j : ℕ) (sim : LiveSimView) (order : Order) (history : HistoryView Cell) → k ≡ j → k < length sim.history.states
    → Together sim order history → Matches (at_step_of k sim) (at_step_of j (another sim order history))
at_step_matches k j sim order history same within g =
    subst (λ (i : ℕ). Matches (at_step_of k sim) (at_step_of i (another sim order history))) same
    (record {
      cluster = refl;
      files = refl;
      done = refl;
      now = each_of sim.cluster sim.history.states history.states k g.states within;
      states = g.states;
    })

matches_if : (p q : Bool) (s t u v : LiveSimView) → p ≡ q → (p ≡ true → Matches s t) → Matches u v → Matches (cond p s u) (cond q t v)
matches_if p q s t u v same g h = subst (λ (r : Bool). Matches (cond p s u) (cond r t v)) same (by p refl)
  where
    by : (r : Bool) → p ≡ r → Matches (cond r s u) (cond r t v)
    by true is = g is
    by false is = h

same_long : (sim : LiveSimView) (order : Order) (history : HistoryView Cell) → Together sim order history
    → length sim.history.states ≡ length history.states
same_long sim order history g = as_many sim.cluster sim.history.states history.states g.states

same_redo : (sim : LiveSimView) (order : Order) (history : HistoryView Cell) → Together sim order history
    → can_redo sim ≡ can_redo (another sim order history)
same_redo sim order history g = λ i. nat_lt (g.done i + 1) (same_long sim order history g i)

-- ---- each call

calls_both : (c : Call) (sim : LiveSimView) (order : Order) (history : HistoryView Cell) → Holds sim → Holds (another sim order history)
    → Together sim order history → CallEndsAlike c sim
    → RepliesAlike (reply_to c sim) (reply_to c (another sim order history)) × Matches (made_by c sim) (made_by c
    (another sim order history))
calls_both (call.Step e) sim order history p q g every = steps_both e sim order history p.now q.now g every
calls_both call.Undo sim order history p q g every = (
  same_reply _ _ (ap (λ (k : ℕ). cond (nat_lt 0 k) reply.Undone reply.AtStart) g.done),
  matches_if (can_undo sim) (can_undo (another sim order history)) _ _ _ _ (ap (nat_lt 0) g.done)
      (λ is. at_step_matches (sim.history.cursor - 1) (history.cursor - 1) sim order history (ap (λ (k : ℕ). k - 1) g.done)
      (omega (arith, p.within)) g) g,
)
calls_both call.Redo sim order history p q g every = (
  same_reply _ _ (ap (λ (b : Bool). cond b reply.Redone reply.AtEnd) (same_redo sim order history g)),
  matches_if (can_redo sim) (can_redo (another sim order history)) _ _ _ _ (same_redo sim order history g)
      (λ is. at_step_matches (sim.history.cursor + 1) (history.cursor + 1) sim order history (ap (λ (k : ℕ). k + 1) g.done)
      (ltb-true (sim.history.cursor + 1) (length sim.history.states) is) g) g,
)
calls_both call.UndoAll sim order history p q g every = (
  ap reply.Moved g.done,
  at_step_matches 0 0 sim order history refl (omega (arith, p.within)) g,
)
calls_both call.RedoAll sim order history p q g every = (
  (λ i. reply.Moved (same_long sim order history g i - 1 - g.done i)),
  at_step_matches (length sim.history.states - 1) (length history.states - 1) sim order history
      (ap (λ (k : ℕ). k - 1) (same_long sim order history g)) (omega (arith, p.within)) g,
)
calls_both call.Look sim order history p q g every = (refl, g)

-- the other is the one with another order and history
pub is_another : (one other : LiveSimView) → Matches one other → other ≡ another one other.order other.history
is_another one other g = λ i. record {
  cluster = sym g.cluster i;
  files = sym g.files i;
  order = other.order;
  history = other.history;
}

abbrev MadeBoth : Call → LiveSimView → LiveSimView → Type 0
MadeBoth c one other = RepliesAlike (reply_to c one) (reply_to c other) × Matches (made_by c one) (made_by c other)

call_both : (c : Call) (one other : LiveSimView) → Holds one → Holds other → Matches one other → CallEndsAlike c one → MadeBoth c one other
call_both c one other p q g every =
    let is : other ≡ another one other.order other.history = is_another one other g in
    subst (MadeBoth c one) (sym is)
    (calls_both c one other.order other.history p (subst Holds is q) (subst (Matches one) is g) every)

all_calls : (calls : List Call) (one other : LiveSimView) → Holds one → Holds other → Matches one other → EachEndsAlike calls one
    → AnswerAlike calls one other × Matches (behind calls one) (behind calls other)
all_calls [] one other p q g every = (tt, g)
all_calls (c ∷ calls) one other p q g every =
    let both : MadeBoth c one other = call_both c one other p q g every.0 in
    let more : AnswerAlike calls (made_by c one) (made_by c other) × Matches (behind calls (made_by c one)) (behind calls
    (made_by c other)) =
    all_calls calls (made_by c one) (made_by c other) (makes_holds c one p) (makes_holds c other q) both.1 every.1 in
    ((both.0, more.0), more.1)

-- ---- the law

pub holds_alike : (one other : LiveSimView) → Matches one other → HoldAlike one other
holds_alike one other g = record {
  nodes = g.now.nodes;
  net =
      subst (λ (c : ClusterView). NetsAlike (net_in one.cluster one.history.now) (net_in c other.history.now)) g.cluster g.now.net;
}

pub at_step : (k : ℕ) (one other : LiveSimView) → Matches one other → k < length one.history.states
    → Matches (at_step_of k one) (at_step_of k other)
at_step k one other g within =
    let is : other ≡ another one other.order other.history = is_another one other g in
    subst (λ (o : LiveSimView). Matches (at_step_of k one) (at_step_of k o)) (sym is)
    (at_step_matches k k one other.order other.history refl within (subst (Matches one) is g))

opened_matches : (c : ClusterView) (files : List OwnFile) (one other : Order) → Matches (opened c files one) (opened c files other)
opened_matches c files one other = record {
  cluster = refl;
  files = refl;
  done = refl;
  now = alike_with_itself c (first_cells (node_count c));
  states = (alike_with_itself c (first_cells (node_count c)), tt);
}

abbrev Result : ClusterView → List OwnFile → Order → Order → List Call → Type 0
Result c files one other calls =
    AnswerAlike calls (opened c files one) (opened c files other)
    × Matches (behind calls (opened c files one)) (behind calls (opened c files other))

both_show : (c : ClusterView) (files : List OwnFile) (one other : Order) (calls : List Call) → EachEndsAlike calls (opened c files one)
    → Result c files one other calls
both_show c files one other calls every =
    all_calls calls (opened c files one) (opened c files other) (opened_holds c files one) (opened_holds c files other)
    (opened_matches c files one other) every

pub matches_behind : (c : ClusterView) (files : List OwnFile) (one other : Order) (calls : List Call)
    → EachEndsAlike calls (opened c files one)
    → Matches (behind calls (opened c files one)) (behind calls (opened c files other))
matches_behind c files one other calls every = (both_show c files one other calls every).1

pub end_alike : RehearsalsEndAlike
end_alike cluster files one other calls every =
    let s : LiveSimView = behind calls (opened cluster files one) in
    let t : LiveSimView = behind calls (opened cluster files other) in
    let all : Result cluster files one other calls = both_show cluster files one other calls every in
    record {
      answers = all.0;
      done = all.1.done;
      steps = as_many s.cluster s.history.states t.history.states all.1.states;
      now = holds_alike s t all.1;
      each = λ k within. holds_alike _ _ (at_step k s t all.1 within);
    }
