-- Timers that are left over change nothing.
use Rattle.std.proofs.Common.{◌≡◌, ◌==◌, ℕ, zero, suc, Bool, true, false, cond, List, [], ◌∷◌, ◌++◌, map, slice_get, slice_set, Some, refl, sym, ap, subst, ◌∙◌}
use Rattle.std.specs.Option.{option_and_then}
use Rattle.std.specs.Prelude.{All}
use Rattle.std.proofs.lemmas.Bool.{and_parts}
use Rattle.std.proofs.lemmas.List.Elements.{All-nil, All-cons, All-head, All-tail}
use Rattle.std.proofs.lemmas.Option.{none-some, same_Some}
use Rattle.rh_model.specs.declared.node.App.{App}
use Rattle.rh_model.specs.declared.node.Node.{Node}
use Rattle.rh_otp_model.specs.declared.message.Message.{Message}
use Rattle.rh_otp_model.specs.declared.message.Message.TheVariants as message
use Rattle.rh_otp_model.specs.declared.output.Envelope.{Envelope}
use Rattle.rh_otp_model.specs.declared.process.Process.{Process}
use Rattle.rh_otp_model.specs.declared.process.Role.{Role}
use Rattle.rh_otp_net.specs.declared.timers.Timer.{Timer}
use Rattle.rh_otp_net.specs.Timers as timers
use Rattle.rh_otp_node.specs.Live.{LiveView}
use Rattle.rh_otp_system.specs.declared.cell.Cell.{Cell}
use Rattle.rh_otp_system.specs.declared.cell.Cell.TheVariants as cell
use Rattle.rh_otp_system.specs.Delivering.{arrived, received, received_in}
use Rattle.rh_otp_system.specs.Doing.{fired_next}
use Rattle.rh_otp_system.specs.Joining.{kernel_handled}
use Rattle.rh_otp_system.specs.declared.slow.Answered.{Answered}
use Rattle.rh_otp_system.specs.Moves.{IsSettled, Reaches, here}
use Rattle.rh_otp_system.specs.State.{SystemView, live_in, live_at, node_at, with_node, is_alive_at, lives}
use Rattle.rh_otp_system.specs.Working.{mailed}
use Rattle.rh_otp_laws.specs.Time.{message_of}
use Rattle.rh_otp_laws.proofs.Hanging.{settled_stays_so}
use Rattle.rh_otp_laws.proofs.Nodes.{alive_is_there}
use Rattle.rh_otp_laws.proofs.Time.{due_fire}
use Rattle.rh_otp_orders.specs.Confluence.{EveryOrderEndsAlike}
use Rattle.rh_otp_crashes.proofs.Hearing.{stale_comes}
use Rattle.rh_otp_crashes.proofs.Peace.{without}
use Rattle.rh_otp_crashes.proofs.Turning.{node_is}
use Rattle.rh_otp_ticks.specs.LeftOver.{HasNotLost, IsLeftOver, gone, up, not_lost, LeftOverTimersChangeNothing}
use Rattle.rh_otp_ticks.proofs.Muting.{IsMute, ends_so, mute_alike, mute_reaches}
use Rattle.rh_otp_ticks.proofs.Timely.{at_time, settled_in_time}

-- ---- what is written as it was

same_cells : (cells : List Cell) (k : ℕ) (v : LiveView) → option_and_then live_in (slice_get cells k) ≡ Some v
    → slice_set cells k (cell.Node v) ≡ cells
same_cells [] k v is = absurd (none-some v is)
same_cells (cell.Node w ∷ cells) zero v is = ap (λ (x : LiveView). cell.Node x ∷ cells) (sym (same_Some w v is))
same_cells (cell.Net net ∷ cells) zero v is = absurd (none-some v is)
same_cells (c ∷ cells) (suc k) v is = ap (λ (l : List Cell). c ∷ l) (same_cells cells k v is)

same_written : (s : SystemView) (n : Node) (v : LiveView) → live_at s n ≡ Some v → with_node n v s ≡ s
same_written s n v there = λ i. record s { nodes = record s.nodes { cells = same_cells s.nodes.cells n.0 v there i } }

-- ---- a timer that is left over

-- a process that isn't there any more, or one that nothing comes to
lost_or : (s : SystemView) (to : Process) (m : Message) → (lives s to ≡ true → received to m s ≡ s) → arrived to m s ≡ s
lost_or s to m nothing = by (lives s to) nothing
  where
    by : (b : Bool) → (b ≡ true → received to m s ≡ s) → cond b (received to m s) s ≡ s
    by true so = so refl
    by false so = refl

restarts_nothing : (s : SystemView) (n : Node) (a : App) (loss : ℕ) → HasNotLost a (node_at s n) → is_alive_at s n ≡ true
    → mailed n (message.RestartAppl a loss) s ≡ s
restarts_nothing s n a loss has alive =
    let at : (v : LiveView) × (live_at s n ≡ Some v) = alive_is_there s n alive in
    let here_so : HasNotLost a at.0 = subst (HasNotLost a) (node_is s n at.0 at.1) has in
    stale_comes s.cluster s.files n at.0.life a loss at.0.dist
    (record { free = here_so.free; takes_all = here_so.over.takes_all; over = here_so.over.over }) s at.0 at.1 refl refl refl refl
    ∙ same_written s n at.0 at.1

leaves : (s : SystemView) (x : Timer) → IsLeftOver s x → arrived x.to x.message s ≡ s
leaves s _ (gone x dead) = ap (λ (b : Bool). cond b (received x.to x.message s) s) dead
leaves s _ (up x kernel is) =
    lost_or s x.to x.message (λ there.
    ap (λ (r : Role). received_in r x.to.node x.message s) kernel
    ∙ ap (λ (b : Bool). cond b s (kernel_handled x.to.node x.message s)) is)
leaves s _ (not_lost x a loss dist restart has) =
    lost_or s x.to x.message (λ there.
    (λ i. received_in (dist i) x.to.node (restart i) s)
    ∙ restarts_nothing s x.to.node a loss has (and_parts (is_alive_at s x.to.node) ((node_at s x.to.node).life == x.to.life) there).0)

-- it goes by what nodes are alone
pub at_another : (time : ℕ) (rows : List Timer) (answers : List Answered) (l : List Envelope) (s : SystemView) (x : Timer) → IsLeftOver s x
    → IsLeftOver (without (at_time time rows answers s) l) x
at_another time rows answers l s _ (gone x dead) = gone x dead
at_another time rows answers l s _ (up x kernel is) = up x kernel is
at_another time rows answers l s _ (not_lost x a loss dist restart has) = not_lost x a loss dist restart has

pub all_mute : (time : ℕ) (rows : List Timer) (answers : List Answered) (s : SystemView) (xs : List Timer) → All (IsLeftOver s) xs
    → All (IsMute (at_time time rows answers s)) (map message_of xs)
all_mute time rows answers s [] all = All-nil (IsMute (at_time time rows answers s))
all_mute time rows answers s (x ∷ xs) all =
    All-cons (IsMute (at_time time rows answers s)) (message_of x) (map message_of xs)
    (λ l. leaves (without (at_time time rows answers s) l) x (at_another time rows answers l s x (All-head (IsLeftOver s) x xs all)))
    (all_mute time rows answers s xs (All-tail (IsLeftOver s) x xs all))

-- ---- they fire

pub left_over_alike : LeftOverTimersChangeNothing
left_over_alike s at over = record {
  every = subst EveryOrderEndsAlike (sym fires_so) (mute_alike u sends calm mute);
  reaches = subst (λ (x : SystemView). Reaches x u) (sym fires_so)
      (subst (λ (l : List Envelope). Reaches (without u sends) (without u l)) (sym empty) (mute_reaches u sends mute));
  settled = settled_in_time over.due (timers.left s.timers) s.answers s at;
  alone = λ t reaches settled.
      ends_so u sends t calm mute (subst (λ (x : SystemView). Reaches x t) fires_so reaches) settled ∙ (λ i. without u (sym empty i));
  at_rest = λ rest. record {
    settled = settled_in_time over.due (timers.left s.timers) s.answers s at;
    calls = rest.calls;
    dists = rest.dists;
  };
}
  where
    u : SystemView
    u = at_time over.due (timers.left s.timers) s.answers s

    sends : List Envelope
    sends = map message_of (timers.fired s.timers)

    empty : s.messages ≡ []
    empty = (settled_stays_so s s at (here s)).0.0

    fires_so : fired_next over.due s ≡ without u sends
    fires_so = due_fire s over.due ∙ (λ i. without u (empty i ++ sends))

    calm : IsSettled (without u [])
    calm =
        subst (λ (l : List Envelope). IsSettled (without u l)) empty
        (settled_in_time over.due (timers.left s.timers) s.answers s at)

    mute : All (IsMute u) sends
    mute = all_mute over.due (timers.left s.timers) s.answers s (timers.fired s.timers) over.all
