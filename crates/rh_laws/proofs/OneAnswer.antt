-- The rules allow one answer to a command exactly where both picks tell the same.
use Rattle.std.proofs.Common.{◌≡◌, ◌+◌, ◌≤◌, ℕ, zero, suc, true, cond, List, [], ◌∷◌, ◌++◌, fold, Option, None, Some, refl, sym, ap, ◌∙◌}
use Rattle.std.proofs.Common.{subst, arith, append_assoc, append-nil}
use Rattle.std.proofs.lemmas.List.{append_cancel_left}
use Rattle.rh_model.specs.declared.node.Node.{Node}
use Rattle.rh_model.specs.declared.node.App.{App}
use Rattle.rh_state.specs.declared.status.Kind.{Kind}
use Rattle.rh_state.specs.declared.status.Kind.TheVariants as kind
use Rattle.rh_state.specs.declared.status.Standing.TheVariants.{Wanted}
use Rattle.rh_state.specs.declared.status.Timer.{Timer}
use Rattle.rh_state.specs.Limits.{time_limit}
use Rattle.rh_state.specs.Numbers.{nodes_of}
use Rattle.rh_state.specs.Setters.{with_time}
use Rattle.rh_state.specs.Shape.{IsShaped}
use Rattle.rh_state.specs.StateView.{StateView, standing_of, earliest}
use Rattle.rh_rules.specs.declared.pick.Pick.{Pick}
use Rattle.rh_rules.specs.declared.pick.Pick.TheVariants.{First, Last}
use Rattle.rh_rules.specs.Placing.{picked, start_kind}
use Rattle.rh_rules.specs.declared.notice.Move.{Move}
use Rattle.rh_rules.specs.declared.notice.Move.TheVariants.{Local, Placement, Takeover}
use Rattle.rh_rules.specs.declared.notice.Notice.{Notice}
use Rattle.rh_rules.specs.declared.notice.Notice.TheVariants as notice
use Rattle.rh_rules.specs.declared.notice.Pair.{Pair}
use Rattle.rh_rules.specs.Course.{Course, course_of, fresh_of}
use Rattle.rh_rules.specs.Settling.{IsFirst, AreFirst, Settles, nexts, waits_told, settled}
use Rattle.rh_rules.specs.Moves.{moved, lost_elsewhere}
use Rattle.rh_trace.specs.Validity.{IsSound}
use Rattle.rh_trace.specs.Ways.{Tells}
use Rattle.rh_rules.specs.declared.event.Event.{Event}
use Rattle.rh_rules.specs.declared.event.Event.TheVariants.{Tick}
use Rattle.rh_rules.specs.NodesStart.{come_up, come_up_if_ready, ready_come_up}
use Rattle.rh_rules.specs.Steps.{change, ComeUp, no_node, ready, not_ready, ComesOf, Fires, none_due, one_due, Passes, Happens, Follows, Outcome, outcome, outcome_of, followed, next}
use Rattle.rh_rules.specs.Refusals.{refused}
use Rattle.rh_rules.specs.Time.{due_by, effect, taken_off, fired, all_fired, ticked}
use Rattle.rh_laws.specs.Laws.{NamesNodesOnce, OneAnswer}
use Rattle.rh_trace.proofs.Behind.{after_notices, settled_after}
use Rattle.rh_base.proofs.Truths.{both}
use Rattle.rh_trace.proofs.Firsts.{in_contained}
use Rattle.rh_settle.proofs.Fuel.{by_option, cluster_moved, shaped_next, falls_next, unrolled, ended}
use Rattle.rh_trace.proofs.NextFirsts.{next_are_first, still_if_none_enabled}
use Rattle.rh_trace.proofs.Points.{points}
use Rattle.rh_settle.proofs.Searches.{none_picked, contains_picked}
use Rattle.rh_settle.proofs.Unchanged.{settled_cluster}
use Rattle.rh_trace.proofs.Ways.{tells_more}
use Rattle.rh_refusals.proofs.Accepted.{accepted_tick}
use Rattle.rh_events.proofs.EachEvent.{change_cluster, sound_changed}
use Rattle.rh_events.proofs.Notices.{ready_come_up_after}
use Rattle.rh_events.proofs.SoundComingUp.{sound_ready_come_up, ready_come_up_cluster}
use Rattle.rh_step.proofs.Firing.{effect_cluster}
use Rattle.rh_step.proofs.Fuel as firing
use Rattle.rh_step.proofs.Outcomes.{next_allowed}
use Rattle.rh_step.proofs.TakenOff.{sound_effect}
use Rattle.rh_step.proofs.TickLaws.{effect_after}
use Rattle.rh_laws.proofs.Apart.{next_apart, lone}

-- ---- what a move tells first, and what it tells behind that
abbrev told_by : StateView → Move → Notice
told_by s (Local n a) = notice.Started a n kind.Normal None
told_by s (Placement a from n) = notice.Started a n (start_kind s a from n) (lost_elsewhere from n)
told_by s (Takeover a m n) = notice.Started a n (kind.Takeover m) None

abbrev told_behind : Move → List Notice
told_behind (Local n a) = []
told_behind (Placement a from n) = []
told_behind (Takeover a m n) = notice.Stopped a m ∷ []

move_tells : (o : Course) (m : Move) → (moved o m).notices ≡ o.notices ++ told_by o.state m ∷ told_behind m
move_tells o (Local n a) = refl
move_tells o (Placement a from n) = refl
move_tells o (Takeover a m n) = append_assoc o.notices (notice.Started a n (kind.Takeover m) None ∷ []) (notice.Stopped a m ∷ [])

-- of the moves that may go first, no two tell the same first
started_same : (a b : App) (n m : Node) (k l : Kind) (f g : Option Node) → notice.Started a n k f ≡ notice.Started b m l g → (a ≡ b) × (n ≡ m) × (k ≡ l)
started_same a b n m k l f g e = (cc e, cc e, cc e)

wanted_same : (f g : Option Node) → Wanted f ≡ Wanted g → f ≡ g
wanted_same f g e = cc e

takeover_same : (m k : Node) → kind.Takeover m ≡ kind.Takeover k → m ≡ k
takeover_same m k e = cc e

same_move : (s : StateView) (fresh : List Pair) (x y : Move) → IsFirst s fresh x → IsFirst s fresh y → told_by s x ≡ told_by s y → x ≡ y
same_move s fresh (Local n a) (Local m b) f g e =
    let h = started_same a b n m kind.Normal kind.Normal None None e in λ i. Local (h.1 i) (h.0 i)
same_move s fresh (Placement a from n) (Placement b last m) f g e =
    let h = started_same a b n m (start_kind s a from n) (start_kind s b last m) (lost_elsewhere from n) (lost_elsewhere last m) e in
    let w = wanted_same from last (sym f.enabled.1 ∙ ap (λ (c : App). standing_of s c) h.0 ∙ g.enabled.1) in
    λ i. Placement (h.0 i) (w i) (h.1 i)
same_move s fresh (Takeover a k n) (Takeover b l m) f g e =
    let h = started_same a b n m (kind.Takeover k) (kind.Takeover l) None None e in
    let w = takeover_same k l h.2 in
    λ i. Takeover (h.0 i) (w i) (h.1 i)
same_move s fresh (Local n a) (Placement b last m) f g e = both true refl (g.first (Local n a) f.enabled)
same_move s fresh (Local n a) (Takeover b l m) f g e = both true refl (g.first (Local n a) f.enabled)
same_move s fresh (Placement a from n) (Takeover b l m) f g e = both true refl (g.first (Placement a from n) f.enabled)
same_move s fresh (Placement a from n) (Local m b) f g e = both true refl (f.first (Local m b) g.enabled)
same_move s fresh (Takeover a k n) (Local m b) f g e = both true refl (f.first (Local m b) g.enabled)
same_move s fresh (Takeover a k n) (Placement b last m) f g e = both true refl (f.first (Placement b last m) g.enabled)

-- ---- what was told stays told
grows : (F : Course → Course) → ((base : List Notice) (o : Course) → F (after_notices base o) ≡ after_notices base (F o))
    → (o : Course) → Tells o.notices (F o).notices
grows F after o =
    let none : Course = record o { notices = [] } in
    record {
      more = (F none).notices;
      is = ap (λ (notices : List Notice). (F (record o { notices = notices })).notices) (sym (append-nil o.notices))
          ∙ ap (λ (p : Course). p.notices) (after o.notices none);
    }

fired_grows : (pick : Pick) (o : Course) (entry : ℕ × Timer) → Tells o.notices (fired pick o entry).notices
unfolding fired
fired_grows pick o entry = grows (λ (p : Course). settled pick (ready_come_up (effect p entry.1)))
    (λ base p. ap (λ (c : Course). settled pick (ready_come_up c)) (effect_after base p entry.1)
    ∙ ap (settled pick) (ready_come_up_after base (effect p entry.1))
    ∙ settled_after base pick (ready_come_up (effect p entry.1)))
    (taken_off o entry)

all_grow : (pick : Pick) (limit : ℕ) (o : Course) → Tells o.notices (all_fired pick limit o).notices
unfolding all_fired
all_grow pick limit o = firing.by_firing (λ (p : Course). Tells o.notices p.notices) pick limit
    (λ p entry h is. tells_more o.notices p.notices (fired pick p entry).notices h (fired_grows pick p entry))
    (firing.timer_count o) o (record { more = []; is = sym (append-nil o.notices) })

-- ---- a settling
goes_first : (pick : Pick) (o : Course) (x : Move) → picked pick (nexts o) ≡ Some x → IsFirst o.state (fresh_of o) x
goes_first pick o x e = (next_are_first o.state (fresh_of o) x).0 (contains_picked pick (nexts o) x e)

settled_on : (pick : Pick) (o : Course) (x : Move) → IsShaped o.state → picked pick (nexts o) ≡ Some x → settled pick o ≡ settled pick (moved o x)
settled_on pick o x shape e = ap waits_told (unrolled pick o x shape e)

-- its first move is told behind what was told before
first_told : (pick : Pick) (o : Course) (x : Move) (r : List Notice) → IsShaped o.state → picked pick (nexts o) ≡ Some x
    → (rest : List Notice) × ((settled pick o).notices ++ r ≡ o.notices ++ told_by o.state x ∷ rest)
first_told pick o x r shape e =
    let a = grows (settled pick) (λ base p. settled_after base pick p) (moved o x) in (
      told_behind x ++ (a.more ++ r),
      ap (λ (ns : List Notice). ns ++ r)
          (ap (λ (p : Course). p.notices) (settled_on pick o x shape e) ∙ a.is ∙ ap (λ (ns : List Notice). ns ++ a.more) (move_tells o x))
          ∙ append_assoc (o.notices ++ told_by o.state x ∷ told_behind x) a.more r
          ∙ append_assoc o.notices (told_by o.state x ∷ told_behind x) (a.more ++ r),
    )

heads_same : (x y : Notice) (xs ys : List Notice) → x ∷ xs ≡ y ∷ ys → x ≡ y
heads_same x y xs ys e = cc e

-- so where both picks tell the same, they make the same first move
same_first : (o : Course) (x y : Move) (r t : List Notice) → IsShaped o.state → picked First (nexts o) ≡ Some x → picked Last (nexts o) ≡ Some y
    → (settled First o).notices ++ r ≡ (settled Last o).notices ++ t → x ≡ y
same_first o x y r t shape e f told =
    let g = first_told First o x r shape e in
    let h = first_told Last o y t shape f in
    same_move o.state (fresh_of o) x y (goes_first First o x e) (goes_first Last o y f)
    (heads_same (told_by o.state x) (told_by o.state y) g.0 h.0
    (append_cancel_left o.notices (told_by o.state x ∷ g.0) (told_by o.state y ∷ h.0) (sym g.1 ∙ told ∙ h.1)))

-- both picks settle alike, and so does each way that is allowed
abbrev SettleAlike : Course → List Move → Type 0
SettleAlike o ms = (settled First o ≡ settled Last o) × (waits_told (fold moved o ms) ≡ settled First o)

at_rest : (o : Course) (ms : List Move) → AreFirst o ms → nexts o ≡ [] → SettleAlike o ms
at_rest o [] first none =
    let a = ended First o (ap (picked First) none) in
    let b = ended Last o (ap (picked Last) none) in
    (ap waits_told (a ∙ sym b), ap waits_told (sym a))
at_rest o (m ∷ ms) first none = absurd ((still_if_none_enabled o.state (fresh_of o)).0 none m first.0.enabled)

-- one move is the only one that may go first, and behind it all go on alike
one_first : (o : Course) (ms : List Move) (x : Move) → NamesNodesOnce o.state.cluster → IsShaped o.state → picked First (nexts o) ≡ Some x
    → picked Last (nexts o) ≡ Some x → AreFirst o ms → ((ns : List Move) → AreFirst (moved o x) ns → SettleAlike (moved o x) ns) → SettleAlike o ms
one_first o [] x names shape e f first rest = absurd (first x (goes_first First o x e).enabled)
one_first o (m ∷ ms) x names shape e f first rest =
    let c = (next_are_first o.state (fresh_of o) m).1 first.0 in
    let same = lone (nexts o) x m (next_apart o.state (fresh_of o) names) e f (in_contained (nexts o) c.0 m c.1 c.2) in
    let r = rest ms (subst (λ (z : Move). AreFirst (moved o z) ms) same first.1) in (
      settled_on First o x shape e ∙ r.0 ∙ sym (settled_on Last o x shape f),
      ap (λ (z : Move). waits_told (fold moved (moved o z) ms)) same ∙ r.1 ∙ sym (settled_on First o x shape e),
    )

not_none : {P : Type 0} (x : Move) → None ≡ Some x → P
not_none x e = cc e

one_settling : (k : ℕ) (o : Course) (ms : List Move) (r t : List Notice) → NamesNodesOnce o.state.cluster → IsShaped o.state → points o.state ≤ k
    → AreFirst o ms → (settled First o).notices ++ r ≡ (settled Last o).notices ++ t → SettleAlike o ms
one_settling zero o ms r t names shape few first told = by_option (picked First (nexts o))
    (λ e. at_rest o ms first (none_picked First (nexts o) e))
    (λ x e. let f = falls_next o First x shape e in absurd (omega (arith, f, few)))
one_settling (suc k) o ms r t names shape few first told = by_option (picked First (nexts o))
    (λ e. at_rest o ms first (none_picked First (nexts o) e))
    (λ x e. by_option (picked Last (nexts o))
    (λ none. not_none x (sym (ap (picked First) (none_picked Last (nexts o) none)) ∙ e))
    (λ y g.
    let same = same_first o x y r t shape e g told in
    let f = subst (λ (z : Move). picked Last (nexts o) ≡ Some z) (sym same) g in
    let falls = falls_next o First x shape e in
    one_first o ms x names shape e f first (λ ns are.
    one_settling k (moved o x) ns r t (subst NamesNodesOnce (sym (cluster_moved o x)) names) (shaped_next o First x shape e)
    (omega (arith, falls, few)) are
    (ap (λ (p : Course). p.notices ++ r) (sym (settled_on First o x shape e)) ∙ told ∙ ap (λ (p : Course). p.notices ++ t) (settled_on Last o x shape f)))))

-- ---- what comes of a change
came : {ns : List Node} {o p : Course} → ComeUp ns o p → fold come_up_if_ready o ns ≡ p
unfolding come_up_if_ready
came (no_node o) = refl
came (ready n ns o p is rises) = ap (λ b. fold come_up_if_ready (cond b (come_up o n) o) ns) is ∙ came rises
came (not_ready n ns o p is rises) = ap (λ b. fold come_up_if_ready (cond b (come_up o n) o) ns) is ∙ came rises

risen_is : (q c : Course) → ComeUp (nodes_of q.state.cluster) q c → ready_come_up q ≡ c
unfolding ready_come_up
risen_is q c rises = came rises

abbrev ComeAlike : Course → Course → Type 0
ComeAlike q p = (settled First (ready_come_up q) ≡ settled Last (ready_come_up q)) × (p ≡ settled First (ready_come_up q))

one_coming : (q p : Course) (r t : List Notice) → NamesNodesOnce q.state.cluster → IsSound q.state → ComesOf q p
    → (settled First (ready_come_up q)).notices ++ r ≡ (settled Last (ready_come_up q)).notices ++ t → ComeAlike q p
one_coming q p r t names sound comes told =
    let up : Course = ready_come_up q in
    let run : Settles up p = subst (λ (c : Course). Settles c p) (sym (risen_is q comes.risen comes.rises)) comes.settles in
    let w = one_settling (points up.state) up run.moves r t (subst NamesNodesOnce (sym (ready_come_up_cluster q)) names)
    (sound_ready_come_up q sound).shaped (omega arith) run.are_first told in
    (w.0, run.outcome ∙ w.1)

-- ---- time passes
fired_cluster : (pick : Pick) (o : Course) (entry : ℕ × Timer) → (fired pick o entry).state.cluster ≡ o.state.cluster
unfolding fired
fired_cluster pick o entry =
    let q = effect (taken_off o entry) entry.1 in
    settled_cluster pick (ready_come_up q) ∙ ready_come_up_cluster q ∙ effect_cluster (taken_off o entry) entry.1

-- what is told by all firings is told behind the first
first_fired : (pick : Pick) (limit : ℕ) (o : Course) (entry : ℕ × Timer) (r : List Notice) → limit ≤ time_limit → IsSound o.state
    → due_by limit (earliest o.state) ≡ Some entry
    → (more : List Notice) × ((all_fired pick limit o).notices ++ r ≡ (fired pick o entry).notices ++ more)
first_fired pick limit o entry r within sound is =
    let a = all_grow pick limit (fired pick o entry) in (
      a.more ++ r,
      ap (λ (p : Course). p.notices ++ r) (firing.unrolled pick limit o entry within sound is)
          ∙ ap (λ (ns : List Notice). ns ++ r) a.is
          ∙ append_assoc (fired pick o entry).notices a.more r,
    )

one_firing : (limit : ℕ) (o p : Course) (entry : ℕ × Timer) (r t : List Notice) → limit ≤ time_limit → IsSound o.state → NamesNodesOnce o.state.cluster
    → due_by limit (earliest o.state) ≡ Some entry → ComesOf (effect (taken_off o entry) entry.1) p
    → (all_fired First limit o).notices ++ r ≡ (all_fired Last limit o).notices ++ t
    → (p ≡ fired First o entry) × (p ≡ fired Last o entry)
unfolding fired
one_firing limit o p entry r t within sound names is comes told =
    let a = first_fired First limit o entry r within sound is in
    let b = first_fired Last limit o entry t within sound is in
    let w = one_coming (effect (taken_off o entry) entry.1) p a.0 b.0 (subst NamesNodesOnce (sym (effect_cluster (taken_off o entry) entry.1)) names)
    (sound_effect o entry (firing.due_in_time limit o.state entry within is) sound (firing.due_is_first limit o.state entry is)) comes
    (sym a.1 ∙ told ∙ b.1) in
    (w.1, w.1 ∙ w.0)

one_way : (limit : ℕ) {o p : Course} → Fires limit o p → limit ≤ time_limit → IsSound o.state → NamesNodesOnce o.state.cluster → (r t : List Notice)
    → (all_fired First limit o).notices ++ r ≡ (all_fired Last limit o).notices ++ t
    → (all_fired First limit o ≡ all_fired Last limit o) × (p ≡ all_fired First limit o)
one_way limit (none_due o none) within sound names r t told =
    let a = firing.all_fired_end First limit o none in
    (a ∙ sym (firing.all_fired_end Last limit o none), sym a)
one_way limit (one_due entry o p q is comes rest) within sound names r t told =
    let h = one_firing limit o p entry r t within sound names is comes told in
    let first : all_fired First limit o ≡ all_fired First limit p =
    firing.unrolled First limit o entry within sound is ∙ ap (all_fired First limit) (sym h.0) in
    let last : all_fired Last limit o ≡ all_fired Last limit p =
    firing.unrolled Last limit o entry within sound is ∙ ap (all_fired Last limit) (sym h.1) in
    let w = one_way limit rest within
    (subst (λ (c : Course). IsSound c.state) (sym h.0) (firing.sound_fired First limit o entry within sound is))
    (subst NamesNodesOnce (sym (ap (λ (c : Course). c.state.cluster) h.0 ∙ fired_cluster First o entry)) names) r t
    (ap (λ (c : Course). c.notices ++ r) (sym first) ∙ told ∙ ap (λ (c : Course). c.notices ++ t) last) in
    (first ∙ w.0 ∙ sym last, w.1 ∙ sym first)

-- ---- a step
passed : (s : StateView) (ms : ℕ) (p : Outcome) → IsSound s → s.time + ms ≤ time_limit → NamesNodesOnce s.cluster
    → (ticked First (course_of s [] []) ms).notices ≡ (ticked Last (course_of s [] []) ms).notices → Passes s ms p
    → p ≡ outcome_of (ticked First (course_of s [] []) ms)
unfolding ticked
passed s ms p sound within names told passes =
    let w = one_way (s.time + ms) passes.fires within sound names [] [] (ap (λ (ns : List Notice). ns ++ []) told) in
    passes.end ∙ ap (λ (c : Course). outcome (with_time c.state (s.time + ms)) c.notices) w.1

happened : (s : StateView) (e : Event) (p : Outcome) → IsSound s → refused s e ≡ None → NamesNodesOnce s.cluster
    → (followed First (course_of s [] []) e).notices ≡ (followed Last (course_of s [] []) e).notices → Happens s e p
    → p ≡ outcome_of (followed First (course_of s [] []) e)
unfolding followed
happened s e p sound fine names told happens =
    let w = one_coming (change (course_of s [] []) e) happens.last [] []
    (subst NamesNodesOnce (sym (change_cluster (course_of s [] []) e)) names)
    (sound_changed (course_of s [] []) e sound fine) happens.comes (ap (λ (ns : List Notice). ns ++ []) told) in
    happens.end ∙ ap outcome_of w.1

only : (s : StateView) (e : Event) (p : Outcome) → IsSound s → refused s e ≡ None → NamesNodesOnce s.cluster
    → (next s e First).notices ≡ (next s e Last).notices → Follows s e p → p ≡ next s e First
unfolding next
only s (Tick ms) p sound fine names told follows = passed s ms p sound (accepted_tick s ms fine).limit names told follows
only s e p sound fine names told follows = happened s e p sound fine names told follows

pub one_answer : OneAnswer
one_answer s e valid names fine = (
  (λ told p allowed. only s e p valid.sound fine names told allowed.outcome),
  (λ all. ap (λ (p : Outcome). p.notices) (sym (all (next s e Last) (next_allowed s e Last valid fine)))),
)
