-- What is told of a tick by the manual's rules, and what was seen of it on live nodes: failovers and ends of nodes, however many. Both say
-- it in the same words.
use Rattle.std.proofs.Common.{◌≡◌, ◌≢◌, ◌==◌, ◌++◌, ◌&&◌, ℕ, Bool, true, false, not, cond, codes, filter_map, List, [], ◌∷◌, Some, refl, sym, ap, subst, ◌∙◌}
use Rattle.std.specs.List.{flat_map}
use Rattle.std.proofs.lemmas.Bool.{ne_eqb}
use Rattle.rh_model.specs.ClusterView.{ClusterView, has_phases}
use Rattle.rh_model.specs.declared.node.App.{App}
use Rattle.rh_model.specs.declared.node.Node.{Node}
use Rattle.rh_rules.specs.declared.notice.Notice.{Notice}
use Rattle.rh_rules.specs.declared.notice.Notice.TheVariants as notice
use Rattle.rh_rules.specs.Placing.{start_kind}
use Rattle.rh_calls.specs.declared.call.Reply.TheVariants as reply
use Rattle.rh_script.specs.Answers.{answer_text, notice_line}
use Rattle.rh_state.specs.declared.status.Kind.TheVariants as kind
use Rattle.rh_state.specs.StateView.{StateView}
use Rattle.rh_otp_model.specs.declared.output.Event.{Event}
use Rattle.rh_otp_model.specs.declared.output.Event.TheVariants as seen
use Rattle.rh_otp_model.specs.declared.process.StartType.TheVariants.{Failover, Normal}
use Rattle.rh_otp_sim.specs.declared.calls.LiveReply.TheVariants as live_reply
use Rattle.rh_otp_sim.specs.declared.lines.Line.{Line}
use Rattle.rh_otp_sim.specs.declared.lines.Line.TheVariants as line
use Rattle.rh_otp_sim.specs.declared.stepping.Outcome.TheVariants as live
use Rattle.rh_otp_sim.specs.Sim.{LiveSimView, net_in}
use Rattle.rh_otp_sim.specs.Stepping.{happened, waiting_first}
use Rattle.rh_otp_sim.specs.Telling.{answer_of, line_of, lines_of}
use Rattle.rh_otp_sim.specs.Waiting.{WaitingView, events_asked, calls_asked}
use Rattle.rh_otp_system.specs.declared.calls.Call.{Call}
use Rattle.rh_otp_system.specs.State.{SystemView}
use Rattle.rh_otp_text.specs.Lines.{verdict_words, line_text}
use Rattle.rh_otp_text.specs.Replies.{reply_text}
use Rattle.rh_agreement_spread.proofs.Alike.{well}
use Rattle.rh_agreement_failovers.proofs.Turns.{kind_of}

pub data Tells (c : ClusterView) : List Notice → List Event → List Line → Type 0 where
  nothing : Tells c [] [] []
  start : (s : StateView) (n from : Node) (a : App) (notes : List Notice) (events : List Event) (lines : List Line) → c ≡ s.cluster
      → from.0 ≢ n.0 → Tells c notes events lines
      → Tells c (notice.Started a n (start_kind s a (Some from) n) (Some from) ∷ notes) (seen.Started a n (kind_of c a from) ∷ events)
      (line.Started a n (kind_of c a from) ∷ lines)
  ended : (n : Node) (notes : List Notice) (events : List Event) (lines : List Line) → Tells c notes events lines
      → Tells c (notice.Ended n ∷ notes) (seen.Ended n ∷ events) (line.Ended n ∷ lines)

-- ---- in the same words

start_line : (c : ClusterView) (n from : Node) (a : App) (b same : Bool) → same ≡ false
    → notice_line c (notice.Started a n (cond (b && not same) (kind.Failover from) kind.Normal) (Some from))
    ≡ line_text c (line.Started a n (cond b (Failover from) Normal))
unfolding notice_line line_text
start_line c n from a true same other =
    ap (λ (b : Bool). notice_line c (notice.Started a n (cond (not b) (kind.Failover from) kind.Normal) (Some from))) other
start_line c n from a false same other = refl

end_line : (c : ClusterView) (n : Node) → notice_line c (notice.Ended n) ≡ line_text c (line.Ended n)
unfolding notice_line line_text
end_line c n = refl

same_lines : (c : ClusterView) (notes : List Notice) (events : List Event) (lines : List Line) → Tells c notes events lines
    → flat_map (notice_line c) notes ≡ flat_map (line_text c) lines
same_lines c _ _ _ nothing = refl
same_lines c _ _ _ (start s n from a notes events lines cluster elsewhere rest) =
    let first : notice_line c (notice.Started a n (start_kind s a (Some from) n) (Some from))
    ≡ line_text c (line.Started a n (kind_of c a from)) =
    (λ i. notice_line c (notice.Started a n (start_kind (record s { cluster = sym cluster i }) a (Some from) n) (Some from)))
    ∙ start_line c n from a (has_phases c a) (from.0 == n.0) (ne_eqb from.0 n.0 elsewhere) in
    let more : flat_map (notice_line c) notes ≡ flat_map (line_text c) lines = same_lines c notes events lines rest in
    λ i. first i ++ more i
same_lines c _ _ _ (ended n notes events lines rest) =
    let more : flat_map (notice_line c) notes ≡ flat_map (line_text c) lines = same_lines c notes events lines rest in
    λ i. end_line c n i ++ more i

pub same_text : (l : LiveSimView) (notes : List Notice) (events : List Event) (lines : List Line) → Tells l.cluster notes events lines
    → answer_text l.cluster (reply.Done notes) ≡ reply_text l (live_reply.Step (live.Done (well lines)))
unfolding answer_text reply_text verdict_words
same_text l notes events lines told = ap (λ (text : List ℕ). codes "ok\n" ++ text) (same_lines l.cluster notes events lines told)

-- ---- what has happened, where no call is open

lines_so : (c : ClusterView) (notes : List Notice) (events : List Event) (lines : List Line) (all : List Event) (before : ℕ)
    → Tells c notes events lines → filter_map (line_of all [] before) events ≡ lines
lines_so c _ _ _ all before nothing = refl
lines_so c _ _ _ all before (start s n from a notes events lines cluster elsewhere rest) =
    ap (λ (more : List Line). line.Started a n (kind_of c a from) ∷ more) (lines_so c notes events lines all before rest)
lines_so c _ _ _ all before (ended n notes events lines rest) =
    ap (λ (more : List Line). line.Ended n ∷ more) (lines_so c notes events lines all before rest)

none_asked : (c : ClusterView) (notes : List Notice) (events : List Event) (lines : List Line) (s : SystemView) (all : List Event)
    (w : WaitingView) → Tells c notes events lines → events_asked s all events w ≡ w
none_asked c _ _ _ s all w nothing = refl
none_asked c _ _ _ s all w (start st n from a notes events lines cluster elsewhere rest) =
    none_asked c notes events lines s all w rest
none_asked c _ _ _ s all w (ended n notes events lines rest) = none_asked c notes events lines s all w rest

pub happens_so : (l : LiveSimView) (last : SystemView) (notes : List Notice) (events : List Event) (lines : List Line)
    → Tells l.cluster notes events lines → last.events ≡ events → last.calls ≡ [] → happened (net_in l) last ≡ well lines
happens_so l last notes events lines told is calls =
    let told_here : Tells l.cluster notes last.events lines =
    subst (λ (es : List Event). Tells l.cluster notes es lines) (sym is) told in
    let first : WaitingView = waiting_first (net_in l) last in
    (λ i. record {
      answer = answer_of (net_in l).last_call (calls i);
      lines = (calls_asked last last.events (net_in l).last_call (calls i) (events_asked last last.events last.events first)).lines;
    })
    ∙ ap (λ (w : WaitingView). well w.lines) (none_asked l.cluster notes last.events lines last last.events first told_here)
    ∙ ap (λ (calls_left : List Call). well (lines_of last.events calls_left (net_in l).last_call)) calls
    ∙ ap well (lines_so l.cluster notes last.events lines last.events (net_in l).last_call told_here)
