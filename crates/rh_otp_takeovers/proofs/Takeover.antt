-- A call that takes an application over, where nodes were at rest.
use Rattle.std.proofs.Common.{◌≡◌, ◌++◌, ◌&&◌, ◌==◌, Bool, true, false, cond, length, List, [], ◌∷◌, refl, sym, subst, ◌∙◌}
use Rattle.std.proofs.lemmas.Bool.{false≢true}
use Rattle.std.proofs.lemmas.List.Elements.{All-nil}
use Rattle.rh_model.specs.declared.node.App.{App}
use Rattle.rh_model.specs.declared.node.Node.{Node}
use Rattle.rh_model.specs.declared.settings.Restart.{Restart}
use Rattle.rh_otp_model.specs.declared.output.Envelope.{Envelope}
use Rattle.rh_otp_net.specs.declared.locks.Held.{Held}
use Rattle.rh_otp_system.specs.declared.calls.Ask.TheVariants as ask
use Rattle.rh_otp_system.specs.declared.calls.Call.{Call}
use Rattle.rh_otp_system.specs.declared.calls.Stage.TheVariants as stage
use Rattle.rh_otp_system.specs.declared.slow.Answered.{Answered}
use Rattle.rh_otp_system.specs.Calling.{is_synchronised_at, go_on_call, behind_sync}
use Rattle.rh_otp_system.specs.Doing.{called, call_of}
use Rattle.rh_otp_system.specs.Moves.{here}
use Rattle.rh_otp_system.specs.State.{SystemView, node_at, is_alive_at}
use Rattle.rh_otp_laws.specs.Acting.{IsReached, later, acts, calls}
use Rattle.rh_otp_laws.proofs.Hanging.{settled_stays_so}
use Rattle.rh_otp_orders.specs.Confluence.{IsOrderly}
use Rattle.rh_otp_orders.specs.Orders.{is_call}
use Rattle.rh_otp_orders.proofs.Confluence.{orderly_alike, picks_alike}
use Rattle.rh_otp_orders.proofs.Moving.{reached_order}
use Rattle.rh_otp_crashes.specs.Crashes.{AreAtRest}
use Rattle.rh_otp_crashes.proofs.Crash.{none_ends, lives_of}
use Rattle.rh_otp_crashes.proofs.Peace.{AtPeace, AtEase, at_ease}
use Rattle.rh_otp_stops.proofs.Answering.{at_stage}
use Rattle.rh_otp_stops.proofs.Still.{uncalled}
use Rattle.rh_otp_takeovers.specs.Takeovers.{TakeoversEndAlike}
use Rattle.rh_otp_takeovers.proofs.Holding.{Holds, stuck_orderly}
use Rattle.rh_otp_takeovers.proofs.Asking.{CanMove, its_question, question_orderly}
use Rattle.rh_otp_takeovers.proofs.Moving.{change_orderly}
use Rattle.rh_otp_takeovers.proofs.Running.{run_orderly}
use Rattle.rh_otp_takeovers.proofs.Taking.{takeover_orderly}

-- ---- the call begins

-- as it waits for its dist_ac to synchronise
abbrev waiting : Call → SystemView → SystemView
waiting c s = record s { calls = c ∷ []; last_call = c.number; messages = [] }

-- or asks it
abbrev asking : Call → SystemView → SystemView
asking c s = record s { calls = at_stage c stage.Nodes ∷ []; last_call = c.number; messages = its_question c ∷ [] }

-- is its node alive, and has that dist_ac synchronised?
abbrev can_ask : Call → SystemView → Bool
can_ask c s = cond (is_alive_at s c.node && (node_at s c.node).life == c.life) (is_synchronised_at c.node s) false

-- so the call begins
begins : (s : SystemView) (n : Node) (a : App) (restart : Restart) → AreAtRest s
    → called (ask.Takeover restart) n a s
    ≡ (let c : Call = call_of (ask.Takeover restart) n a s in cond (can_ask c s) (asking c s) (waiting c s))
unfolding called go_on_call behind_sync
begins s n a restart rest =
    let none : s.messages ≡ [] = (settled_stays_so s s rest.settled (here s)).0.0 in
    let c : Call = call_of (ask.Takeover restart) n a s in
    λ i. go_on_call (length (rest.calls i))
    (record s { calls = rest.calls i ++ c ∷ []; last_call = c.number; messages = none i })

-- ---- the law

-- whatever the call comes to, all orders end alike
pub takeovers_alike : TakeoversEndAlike
takeovers_alike s n a restart reached rest soon can = (
  orderly_alike t reached_t (ordered t.answers),
  λ most one other quiet quiet_too. picks_alike t most one other reached_t (ordered []) quiet quiet_too,
)
  where
    c : Call
    c = call_of (ask.Takeover restart) n a s

    t : SystemView
    t = called (ask.Takeover restart) n a s

    reached_t : IsReached t
    reached_t = later s t reached (acts s t (calls s (ask.Takeover restart) n a))

    slow : s.slow ≡ []
    slow = (settled_stays_so s s rest.settled (here s)).0.1

    moves : (answers : List Answered) → CanMove c (record (asking c s) { answers = answers })
    moves answers d m has is stands =
        let so = can (record { dist = d; has = has; takes_all = is; at = m; runs = stands }) in (so.takeovers d has, so.sees d has)

    holds : (answers : List Answered) → Holds (lives_of s) c true (its_question c ∷ []) (record (asking c s) { answers = answers })
    holds answers = record {
      waits = record {
        messages = refl;
        slow = slow;
        dists = rest.dists;
        ends = λ m alive other. none_ends s m reached rest.settled alive;
        later = λ is. absurd (false≢true (sym soon ∙ is));
        listed = reached_order s reached;
        same_lives = λ m. refl;
        stage = stage.Nodes;
        calls = refl;
        waits = λ call x. refl;
        life = refl;
        locks = All-nil (λ (h : Held). is_call h.owner.role ≡ false);
      };
      soon = soon;
    }

    asked : (answers : List Answered) → IsOrderly (record (asking c s) { answers = answers })
    asked answers =
        question_orderly restart (record (asking c s) { answers = answers }) (holds answers) refl refl
        (λ alive. none_ends s n reached rest.settled alive) (moves answers)
        (λ p asks. takeover_orderly restart p asks (λ q m f taking. change_orderly restart m q f taking run_orderly))

    peace : (answers : List Answered)
        → AtPeace AtEase (λ (e : Envelope). ⊥) (lives_of s) (uncalled (record (waiting c s) { answers = answers }))
    peace answers = record {
      messages = All-nil (λ (e : Envelope). ⊥);
      slow = slow;
      calls = refl;
      calm = at_ease;
      dists = rest.dists;
      ends = λ m alive. none_ends s m reached rest.settled alive;
      listed = reached_order s reached;
      same_lives = λ m. refl;
    }

    stays : (answers : List Answered) → can_ask c s ≡ false → IsOrderly (record (waiting c s) { answers = answers })
    stays answers cannot = stuck_orderly c (record (waiting c s) { answers = answers }) (peace answers) refl refl cannot

    ordered : (answers : List Answered) → IsOrderly (record t { answers = answers })
    ordered answers =
        subst (λ (x : SystemView). IsOrderly (record x { answers = answers })) (sym (begins s n a restart rest))
        (by (can_ask c s) refl)
      where
        by : (b : Bool) → can_ask c s ≡ b → IsOrderly (record (cond b (asking c s) (waiting c s)) { answers = answers })
        by true is = asked answers
        by false is = stays answers is
