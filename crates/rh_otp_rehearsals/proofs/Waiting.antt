-- What is told of a command, and who is told to wait, is the same of each node where the events are.
use Rattle.std.proofs.Common.{◌≡◌, ◌++◌, ◌==◌, ◌&&◌, ◌||◌, not, nat_lt, nat_le, ℕ, Bool, true, false, cond, List, [], ◌∷◌, filter, find, Option, Some, None, refl, sym, ap, subst, ◌∙◌}
use Rattle.std.specs.List.{list_any, filter_map, cons_option}
use Rattle.std.specs.Option.{option_map, option_and_then}
use Rattle.std.proofs.lemmas.Bool.{false≢true, and_parts, eqb-true, eq-eqb}
use Rattle.std.proofs.lemmas.List.{append-nil}
use Rattle.std.proofs.lemmas.List.Elements.{filter-append}
use Rattle.std.proofs.lemmas.Map.Views.{any-filter_same}
use Rattle.std.proofs.lemmas.Option.{none-some, same_Some}
use Rattle.rh_model.specs.ClusterView.{ClusterView, boot_of}
use Rattle.rh_model.specs.declared.node.App.{App}
use Rattle.rh_model.specs.declared.node.Node.{Node}
use Rattle.rh_model.specs.declared.settings.Restart.{Restart}
use Rattle.rh_otp_model.specs.declared.output.Event.{Event}
use Rattle.rh_otp_model.specs.declared.output.Event.TheVariants as event
use Rattle.rh_otp_model.specs.Rows.{keyfind, has_row}
use Rattle.rh_otp_node.specs.Live.{LiveView, is_alive}
use Rattle.rh_otp_system.specs.declared.calls.Call.{Call}
use Rattle.rh_otp_system.specs.State.{SystemView, live_at}
use Rattle.rh_otp_system.specs.Views.{NetView}
use Rattle.rh_otp_sim.specs.declared.lines.Line.{Line}
use Rattle.rh_otp_sim.specs.declared.lines.Line.TheVariants as line
use Rattle.rh_otp_sim.specs.declared.verdict.Verdict.{Verdict}
use Rattle.rh_otp_sim.specs.Stepping as stepping
use Rattle.rh_otp_sim.specs.Telling as telling
use Rattle.rh_otp_sim.specs.Verdicts.{is_start}
use Rattle.rh_otp_sim.specs.Waiting as waiting
use Rattle.rh_otp_sim.specs.Waiting.{WaitingView}
use Rattle.rh_otp_orders.specs.Orders.{SameOfEach, is_owner, of_owner, node_told}
use Rattle.rh_otp_orders.proofs.Picking.{same_owner}
use Rattle.rh_otp_commands.proofs.Firing.{filters_commute}
use Rattle.rh_otp_rehearsals.specs.Alike.{node_of_row, node_of_line}

-- ---- tests that find what is of one node

same_any : {A : Type 0} (owner : A → Option Node) (o : Option Node) (q : A → Bool) → ((x : A) → q x ≡ true → is_owner o (owner x) ≡ true)
    → (xs ys : List A) → of_owner owner o xs ≡ of_owner owner o ys → list_any q xs ≡ list_any q ys
same_any owner o q narrow xs ys same =
    sym (any-filter_same q (λ x. is_owner o (owner x)) true narrow xs) ∙ ap (list_any q) same
    ∙ any-filter_same q (λ x. is_owner o (owner x)) true narrow ys

pub turned : (m n : ℕ) → (m == n) ≡ true → (n == m) ≡ true
turned m n is = eq-eqb n m (sym (eqb-true m n is))

is_end : (n : Node) (e : Event) → telling.is_end_of n e ≡ true → is_owner (Some n) (node_told e) ≡ true
is_end n (event.Ended m) is = turned m.0 n.0 is
is_end n e is = absurd (false≢true is)

pub same_ended : (n : Node) (xs ys : List Event) → SameOfEach node_told xs ys → telling.has_ended n xs ≡ telling.has_ended n ys
same_ended n xs ys same = same_any node_told (Some n) (telling.is_end_of n) (is_end n) xs ys (same (Some n))

is_up : (n : Node) (e : Event) → waiting.is_up_event n e ≡ true → is_owner (Some n) (node_told e) ≡ true
is_up n (event.Up m) is = turned m.0 n.0 is
is_up n e is = absurd (false≢true is)

same_up : (n : Node) (xs ys : List Event) → SameOfEach node_told xs ys → waiting.is_up_now n xs ≡ waiting.is_up_now n ys
same_up n xs ys same = same_any node_told (Some n) (waiting.is_up_event n) (is_up n) xs ys (same (Some n))

-- ---- lines of events

pub line_kept : (es : List Event) (calls : List Call) (before : ℕ) (e : Event) (l : Line) → telling.line_of es calls before e ≡ Some l
    → node_of_line l ≡ node_told e
line_kept es calls before (event.Up n) l is = sym (ap node_of_line (same_Some (line.Up n) l is))
line_kept es calls before (event.Ended n) l is = sym (ap node_of_line (same_Some (line.Ended n) l is))
line_kept es calls before (event.Started a n kind) l is = sym (ap node_of_line (same_Some (line.Started a n kind) l is))
line_kept es calls before (event.Stopped a n) l is = by (not (telling.has_ended n es)) is
  where
    by : (b : Bool) → cond b (Some (line.Stopped a n)) None ≡ Some l → node_of_line l ≡ Some n
    by true is = sym (ap node_of_line (same_Some (line.Stopped a n) l is))
    by false is = absurd (none-some l is)
line_kept es calls before (event.Failed a n fault) l is = sym (ap node_of_line (same_Some (line.Failed a n fault) l is))
line_kept es calls before (event.Answered number) l is =
    by (nat_le number before) (find (λ (call : Call). call.number == number) calls) is
  where
    by_verdict : (call : Call) (v : Option Verdict) → option_map (λ verdict. line.Answered call.ask call.node call.app verdict) v ≡ Some l
        → node_of_line l ≡ None
    by_verdict call None is = absurd (none-some l is)
    by_verdict call (Some v) is = sym (ap node_of_line (same_Some (line.Answered call.ask call.node call.app v) l is))

    by : (b : Bool) (found : Option Call) → cond b (option_and_then telling.answered_by found) None ≡ Some l → node_of_line l ≡ None
    by true None is = absurd (none-some l is)
    by true (Some call) is = by_verdict call (telling.verdict_in call) is
    by false found is = absurd (none-some l is)
line_kept es calls before (event.Booted n) l is = absurd (none-some l is)

kept_by : {A B : Type 0} (f : A → Option B) (p : A → Bool) (q : B → Bool) (x : A) (xs : List A) (y : Option B) (b : Bool) → f x ≡ y
    → p x ≡ b
    → ((z : B) → y ≡ Some z → q z ≡ b) → filter q (filter_map f xs) ≡ filter_map f (filter p xs)
    → filter q (filter_map f (x ∷ xs)) ≡ filter_map f (filter p (x ∷ xs))
kept_by f p q x xs None true is is_p same rest =
    ap (λ o. filter q (cons_option o (filter_map f xs))) is ∙ rest ∙ sym (ap (λ o. cons_option o (filter_map f (filter p xs))) is)
    ∙ sym (ap (λ (b : Bool). filter_map f (cond b (x ∷ filter p xs) (filter p xs))) is_p)
kept_by f p q x xs None false is is_p same rest =
    ap (λ o. filter q (cons_option o (filter_map f xs))) is ∙ rest
    ∙ sym (ap (λ (b : Bool). filter_map f (cond b (x ∷ filter p xs) (filter p xs))) is_p)
kept_by f p q x xs (Some z) true is is_p same rest =
    ap (λ o. filter q (cons_option o (filter_map f xs))) is
    ∙ ap (λ (b : Bool). cond b (z ∷ filter q (filter_map f xs)) (filter q (filter_map f xs))) (same z refl) ∙ ap (λ l. z ∷ l) rest
    ∙ sym (ap (λ o. cons_option o (filter_map f (filter p xs))) is)
    ∙ sym (ap (λ (b : Bool). filter_map f (cond b (x ∷ filter p xs) (filter p xs))) is_p)
kept_by f p q x xs (Some z) false is is_p same rest =
    ap (λ o. filter q (cons_option o (filter_map f xs))) is
    ∙ ap (λ (b : Bool). cond b (z ∷ filter q (filter_map f xs)) (filter q (filter_map f xs))) (same z refl) ∙ rest
    ∙ sym (ap (λ (b : Bool). filter_map f (cond b (x ∷ filter p xs) (filter p xs))) is_p)

pub lines_of_owner : (o : Option Node) (f : Event → Option Line) → ((e : Event) (l : Line) → f e ≡ Some l → node_of_line l ≡ node_told e)
    → (es : List Event) → of_owner node_of_line o (filter_map f es) ≡ filter_map f (of_owner node_told o es)
lines_of_owner o f kept [] = refl
lines_of_owner o f kept (e ∷ es) =
    kept_by f (λ (x : Event). is_owner o (node_told x)) (λ (l : Line). is_owner o (node_of_line l)) e es (f e) (is_owner o
    (node_told e)) refl refl
    (λ l is. ap (is_owner o) (kept e l is)) (lines_of_owner o f kept es)

same_line : (es fs : List Event) (calls : List Call) (before : ℕ) → SameOfEach node_told es fs → (e : Event)
    → telling.line_of es calls before e ≡ telling.line_of fs calls before e
same_line es fs calls before same (event.Up n) = refl
same_line es fs calls before same (event.Ended n) = refl
same_line es fs calls before same (event.Started a n kind) = refl
same_line es fs calls before same (event.Stopped a n) =
    ap (λ (b : Bool). cond (not b) (Some (line.Stopped a n)) None) (same_ended n es fs same)
same_line es fs calls before same (event.Failed a n fault) = refl
same_line es fs calls before same (event.Answered number) = refl
same_line es fs calls before same (event.Booted n) = refl

same_lines : (es fs : List Event) (calls : List Call) (before : ℕ) → SameOfEach node_told es fs
    → SameOfEach node_of_line (telling.lines_of es calls before) (telling.lines_of fs calls before)
same_lines es fs calls before same o =
    lines_of_owner o (telling.line_of es calls before) (line_kept es calls before) es
    ∙ (λ i. filter_map (λ e. same_line es fs calls before same e i) (same o i))
    ∙ sym (lines_of_owner o (telling.line_of fs calls before) (line_kept fs calls before) fs)

-- ---- who is told to wait

-- of this node, or of none, both have the same
pub record SameFor (o : Option Node) (w u : WaitingView) : Type 0 where
  pub told : of_owner node_of_row o w.told ≡ of_owner node_of_row o u.told
  pub asked : of_owner node_of_row o w.asked ≡ of_owner node_of_row o u.asked
  pub lines : of_owner node_of_line o w.lines ≡ of_owner node_of_line o u.lines

pub as_it_was : (o : Option Node) (w : WaitingView) → SameFor o w w
as_it_was o w = record { told = refl; asked = refl; lines = refl }

back : {o : Option Node} {w u : WaitingView} → SameFor o w u → SameFor o u w
back g = record { told = sym g.told; asked = sym g.asked; lines = sym g.lines }

on : {o : Option Node} {w u x : WaitingView} → SameFor o w u → SameFor o u x → SameFor o w x
on g h = record { told = g.told ∙ h.told; asked = g.asked ∙ h.asked; lines = g.lines ∙ h.lines }

either : {o : Option Node} (p q : Bool) {w u x y : WaitingView} → p ≡ q → SameFor o w u → SameFor o x y
    → SameFor o (cond p w x) (cond q u y)
either {o} p q {w} {u} {x} {y} same g h = subst (λ (r : Bool). SameFor o (cond p w x) (cond r u y)) same (by p)
  where
    by : (r : Bool) → SameFor o (cond r w x) (cond r u y)
    by true = g
    by false = h

appended : {A : Type 0} (owner : A → Option Node) (o : Option Node) (xs ys more : List A) → of_owner owner o xs ≡ of_owner owner o ys
    → of_owner owner o (xs ++ more) ≡ of_owner owner o (ys ++ more)
appended owner o xs ys more same =
    filter-append (λ x. is_owner o (owner x)) xs more ∙ ap (λ l. l ++ of_owner owner o more) same
    ∙ sym (filter-append (λ x. is_owner o (owner x)) ys more)

passed_over : {A : Type 0} (owner : A → Option Node) (o : Option Node) (xs : List A) (x : A) → is_owner o (owner x) ≡ false
    → of_owner owner o (xs ++ x ∷ []) ≡ of_owner owner o xs
passed_over owner o xs x other =
    filter-append (λ y. is_owner o (owner y)) xs (x ∷ []) ∙ ap (λ (b : Bool). of_owner owner o xs ++ cond b (x ∷ []) []) other
    ∙ append-nil (of_owner owner o xs)

row_there : (o : Option Node) (a : App) (n : Node) → is_owner o (Some n) ≡ true → (row : App × Node)
    → (row.0.0 == a.0 && row.1.0 == n.0) ≡ true → is_owner o (node_of_row row) ≡ true
row_there o a n own row is = same_owner o (Some n) (Some row.1) own ∙ turned row.1.0 n.0 (and_parts _ _ is).1

same_there : (o : Option Node) (a : App) (n : Node) (xs ys : List (App × Node)) → is_owner o (Some n) ≡ true
    → of_owner node_of_row o xs ≡ of_owner node_of_row o ys → waiting.is_there a n xs ≡ waiting.is_there a n ys
same_there o a n xs ys own same =
    same_any node_of_row o (λ (row : App × Node). row.0.0 == a.0 && row.1.0 == n.0) (row_there o a n own) xs ys same

-- ---- an application is asked for

line_kinds : (P : Option Line → Type 0) (v : LiveView) (a : App) (n : Node) (now : Bool) → P None → P (Some (line.Waits a n))
    → P (Some (line.Pending a n)) → P (waiting.line_at v a n now)
line_kinds P v a n now none waits pending =
    by (waiting.is_here (keyfind a v.controller.running)) (waiting.is_started a v.controller) (has_row a v.controller.starting && now)
  where
    by : (p q r : Bool) → P (cond p None (cond q (Some (line.Waits a n)) (cond r (Some (line.Pending a n)) None)))
    by true q r = none
    by false true r = waits
    by false false true = pending
    by false false false = none

more_lines : (o : Option Node) (l : Line) (w u : WaitingView) → SameFor o w u
    → SameFor o (record w { lines = w.lines ++ l ∷ [] }) (record u { lines = u.lines ++ l ∷ [] })
more_lines o l w u g =
    record { told = g.told; asked = g.asked; lines = appended node_of_line o w.lines u.lines (l ∷ []) g.lines }

tells_own : (o : Option Node) (a : App) (n : Node) (w u : WaitingView) → is_owner o (Some n) ≡ true → SameFor o w u
    → SameFor o (waiting.told_if (line.Waits a n) w) (waiting.told_if (line.Waits a n) u)
tells_own o a n w u own g =
    either (not (waiting.is_there a n w.told)) (not (waiting.is_there a n u.told)) (ap not (same_there o a n w.told u.told own g.told))
    (record { told = appended node_of_row o w.told u.told ((a, n) ∷ []) g.told; asked = g.asked; lines = g.lines }) g

line_own : (o : Option Node) (v : LiveView) (a : App) (n : Node) (now : Bool) (w u : WaitingView) → is_owner o (Some n) ≡ true
    → SameFor o w u
    → SameFor o (waiting.with_line (waiting.line_at v a n now) w) (waiting.with_line (waiting.line_at v a n now) u)
line_own o v a n now w u own g =
    line_kinds (λ l. SameFor o (waiting.with_line l w) (waiting.with_line l u)) v a n now g
    (tells_own o a n _ _ own (more_lines o (line.Waits a n) w u g)) (more_lines o (line.Pending a n) w u g)

tells_other : (o : Option Node) (a : App) (n : Node) (w : WaitingView) → is_owner o (Some n) ≡ false
    → SameFor o (waiting.told_if (line.Waits a n) w) w
tells_other o a n w other = by (not (waiting.is_there a n w.told))
  where
    by : (b : Bool) → SameFor o (cond b (record w { told = w.told ++ (a, n) ∷ [] }) w) w
    by true = record { told = passed_over node_of_row o w.told (a, n) other; asked = refl; lines = refl }
    by false = as_it_was o w

no_line : (o : Option Node) (l : Line) (w : WaitingView) → is_owner o (node_of_line l) ≡ false
    → SameFor o (record w { lines = w.lines ++ l ∷ [] }) w
no_line o l w other = record { told = refl; asked = refl; lines = passed_over node_of_line o w.lines l other }

line_other : (o : Option Node) (v : LiveView) (a : App) (n : Node) (now : Bool) (w : WaitingView) → is_owner o (Some n) ≡ false
    → SameFor o (waiting.with_line (waiting.line_at v a n now) w) w
line_other o v a n now w other =
    line_kinds (λ l. SameFor o (waiting.with_line l w) w) v a n now (as_it_was o w)
    (on (tells_other o a n _ other) (no_line o (line.Waits a n) w other)) (no_line o (line.Pending a n) w other)

-- what is read of two systems, and of what was seen, is the same in both
pub record SeeTheSame (s t : SystemView) (es fs : List Event) : Type 0 where
  pub cluster : s.cluster ≡ t.cluster
  pub nodes : (n : Node) → live_at s n ≡ live_at t n
  pub events : SameOfEach node_told es fs

asked_own_if : (o : Option Node) (found : Option LiveView) (es fs : List Event) (a : App) (n : Node) (w u : WaitingView)
    → SameOfEach node_told es fs → is_owner o (Some n) ≡ true → SameFor o w u
    → SameFor o (waiting.asked_if found es a n w) (waiting.asked_if found fs a n u)
asked_own_if o None es fs a n w u same own g = g
asked_own_if o (Some v) es fs a n w u same own g =
    either (not (is_alive v) || waiting.is_there a n w.asked) (not (is_alive v) || waiting.is_there a n u.asked)
    (ap (λ (b : Bool). not (is_alive v) || b) (same_there o a n w.asked u.asked own g.asked)) g
    (subst (λ (now : Bool). SameFor o (waiting.with_line (waiting.line_at v a n (waiting.is_up_now n es)) (more w))
    (waiting.with_line (waiting.line_at v a n now) (more u))) (same_up n es fs same)
    (line_own o v a n (waiting.is_up_now n es) (more w) (more u) own
    (record { told = g.told; asked = appended node_of_row o w.asked u.asked ((a, n) ∷ []) g.asked; lines = g.lines })))
  where
    more : WaitingView → WaitingView
    more x = record x { asked = x.asked ++ (a, n) ∷ [] }

asked_other_if : (o : Option Node) (found : Option LiveView) (es : List Event) (a : App) (n : Node) (w : WaitingView)
    → is_owner o (Some n) ≡ false → SameFor o (waiting.asked_if found es a n w) w
asked_other_if o None es a n w other = as_it_was o w
asked_other_if o (Some v) es a n w other = by (not (is_alive v) || waiting.is_there a n w.asked)
  where
    more : WaitingView
    more = record w { asked = w.asked ++ (a, n) ∷ [] }

    by : (b : Bool) → SameFor o (cond b w (waiting.with_line (waiting.line_at v a n (waiting.is_up_now n es)) more)) w
    by true = as_it_was o w
    by false =
        on (line_other o v a n (waiting.is_up_now n es) more other)
        (record { told = refl; asked = passed_over node_of_row o w.asked (a, n) other; lines = refl })

asked_own : (o : Option Node) (s t : SystemView) (es fs : List Event) (a : App) (n : Node) (w u : WaitingView) → SeeTheSame s t es fs
    → is_owner o (Some n) ≡ true → SameFor o w u → SameFor o (waiting.asked s es a n w) (waiting.asked t fs a n u)
asked_own o s t es fs a n w u see own g =
    subst (λ (found : Option LiveView). SameFor o (waiting.asked s es a n w) (waiting.asked_if found fs a n u)) (see.nodes n)
    (asked_own_if o (live_at s n) es fs a n w u see.events own g)

asked_same : (o : Option Node) (s t : SystemView) (es fs : List Event) (a : App) (n : Node) (w u : WaitingView) → SeeTheSame s t es fs
    → SameFor o w u → SameFor o (waiting.asked s es a n w) (waiting.asked t fs a n u)
asked_same o s t es fs a n w u see g = by (is_owner o (Some n)) refl
  where
    by : (b : Bool) → is_owner o (Some n) ≡ b → SameFor o (waiting.asked s es a n w) (waiting.asked t fs a n u)
    by true own = asked_own o s t es fs a n w u see own g
    by false other =
        on (asked_other_if o (live_at s n) es a n w other) (on g (back (asked_other_if o (live_at t n) fs a n u other)))

-- ---- what a node boots

entries_own : (o : Option Node) (s t : SystemView) (es fs : List Event) (entries : List (App × Restart)) (n : Node) (w u : WaitingView)
    → SeeTheSame s t es fs → is_owner o (Some n) ≡ true → SameFor o w u
    → SameFor o (waiting.entries_asked s es entries n w) (waiting.entries_asked t fs entries n u)
entries_own o s t es fs [] n w u see own g = g
entries_own o s t es fs (entry ∷ entries) n w u see own g =
    entries_own o s t es fs entries n _ _ see own
    (either (not (waiting.is_there entry.0 n w.told)) (not (waiting.is_there entry.0 n u.told))
    (ap not (same_there o entry.0 n w.told u.told own g.told)) (asked_own o s t es fs entry.0 n w u see own g) g)

entries_other : (o : Option Node) (s : SystemView) (es : List Event) (entries : List (App × Restart)) (n : Node) (w : WaitingView)
    → is_owner o (Some n) ≡ false → SameFor o (waiting.entries_asked s es entries n w) w
entries_other o s es [] n w other = as_it_was o w
entries_other o s es (entry ∷ entries) n w other =
    on (entries_other o s es entries n _ other) (by (not (waiting.is_there entry.0 n w.told)))
  where
    by : (b : Bool) → SameFor o (cond b (waiting.asked s es entry.0 n w) w) w
    by true = asked_other_if o (live_at s n) es entry.0 n w other
    by false = as_it_was o w

boot_own : (o : Option Node) (s t : SystemView) (es fs : List Event) (n : Node) (w u : WaitingView) → SeeTheSame s t es fs
    → is_owner o (Some n) ≡ true → SameFor o w u → SameFor o (waiting.boot_asked s es n w) (waiting.boot_asked t fs n u)
boot_own o s t es fs n w u see own g =
    subst (λ (c : ClusterView). SameFor o (waiting.boot_asked s es n w) (waiting.entries_asked t fs (boot_of c n) n u)) see.cluster
    (entries_own o s t es fs (boot_of s.cluster n) n w u see own g)

event_own : (o : Option Node) (s t : SystemView) (es fs : List Event) (e : Event) (w u : WaitingView) → SeeTheSame s t es fs
    → is_owner o (node_told e) ≡ true → SameFor o w u → SameFor o (waiting.event_asked s es e w) (waiting.event_asked t fs e u)
event_own o s t es fs (event.Up n) w u see own g = boot_own o s t es fs n w u see own g
event_own o s t es fs (event.Booted n) w u see own g = boot_own o s t es fs n w u see own g
event_own o s t es fs e w u see own g = g

event_other : (o : Option Node) (s : SystemView) (es : List Event) (e : Event) (w : WaitingView) → is_owner o (node_told e) ≡ false
    → SameFor o (waiting.event_asked s es e w) w
event_other o s es (event.Up n) w other = entries_other o s es (boot_of s.cluster n) n w other
event_other o s es (event.Booted n) w other = entries_other o s es (boot_of s.cluster n) n w other
event_other o s es e w other = as_it_was o w

-- by those of the node alone
events_by : (o : Option Node) (s t : SystemView) (es fs : List Event) (e : Event) (xs : List Event) (w u : WaitingView) (b : Bool)
    → is_owner o (node_told e) ≡ b → SeeTheSame s t es fs → SameFor o w u
    → ((x y : WaitingView) → SameFor o x y
    → SameFor o (waiting.events_asked s es xs x) (waiting.events_asked t fs (of_owner node_told o xs) y))
    → SameFor o (waiting.events_asked s es xs (waiting.event_asked s es e w))
    (waiting.events_asked t fs (cond b (e ∷ of_owner node_told o xs) (of_owner node_told o xs)) u)
events_by o s t es fs e xs w u true own see g rest = rest _ _ (event_own o s t es fs e w u see own g)
events_by o s t es fs e xs w u false other see g rest = rest _ u (on (event_other o s es e w other) g)

pub events_of : (o : Option Node) (s t : SystemView) (es fs xs : List Event) (w u : WaitingView) → SeeTheSame s t es fs → SameFor o w u
    → SameFor o (waiting.events_asked s es xs w) (waiting.events_asked t fs (of_owner node_told o xs) u)
events_of o s t es fs [] w u see g = g
events_of o s t es fs (e ∷ xs) w u see g =
    events_by o s t es fs e xs w u (is_owner o (node_told e)) refl see g (λ x y h. events_of o s t es fs xs x y see h)

pub itself : (t : SystemView) (fs : List Event) → SeeTheSame t t fs fs
itself t fs = record { cluster = refl; nodes = λ n. refl; events = λ o. refl }

events_same : (o : Option Node) (s t : SystemView) (es fs : List Event) (w u : WaitingView) → SeeTheSame s t es fs → SameFor o w u
    → SameFor o (waiting.events_asked s es es w) (waiting.events_asked t fs fs u)
events_same o s t es fs w u see g =
    on (subst (λ (l : List Event). SameFor o (waiting.events_asked s es es w) (waiting.events_asked t fs l u)) (see.events o)
    (events_of o s t es fs es w u see g)) (back (events_of o t t fs fs fs u u (itself t fs) (as_it_was o u)))

-- ---- what was started by hand

calls_same : (o : Option Node) (s t : SystemView) (es fs : List Event) (before : ℕ) (calls : List Call) (w u : WaitingView)
    → SeeTheSame s t es fs → SameFor o w u → SameFor o (waiting.calls_asked s es before calls w) (waiting.calls_asked t fs before calls u)
calls_same o s t es fs before [] w u see g = g
calls_same o s t es fs before (call ∷ calls) w u see g =
    calls_same o s t es fs before calls _ _ see
    (either (nat_lt before call.number) (nat_lt before call.number) refl
    (either (is_start call.ask && waiting.is_well (telling.verdict_in call)) (is_start call.ask && waiting.is_well
    (telling.verdict_in call)) refl
    (asked_same o s t es fs call.app call.node w u see g) g) g)

-- ---- all that is told

same_still : (es fs : List Event) (xs ys : List (App × Node)) → SameOfEach node_told es fs → SameOfEach node_of_row xs ys
    → SameOfEach node_of_row (waiting.still_told es xs) (waiting.still_told fs ys)
same_still es fs xs ys events rows o =
    filters_commute q p xs ∙ (λ i. filter (λ (row : App × Node). not (same_ended row.1 es fs events i)) (rows o i)) ∙ sym
    (filters_commute q p' ys)
  where
    q : App × Node → Bool
    q row = is_owner o (node_of_row row)

    p : App × Node → Bool
    p row = not (telling.has_ended row.1 es)

    p' : App × Node → Bool
    p' row = not (telling.has_ended row.1 fs)

-- what two commands tell, where both have seen the same of each node, and had told the same before
pub record TellTheSame (w u : WaitingView) : Type 0 where
  pub told : SameOfEach node_of_row w.told u.told
  pub lines : SameOfEach node_of_line w.lines u.lines

pub same_told : (s t : SystemView) (m n : NetView) → SeeTheSame s t s.events t.events → s.calls ≡ t.calls
    → m.last_call ≡ n.last_call → SameOfEach node_of_row m.told n.told → TellTheSame (stepping.waiting_of m s) (stepping.waiting_of n t)
same_told s t m n see calls last told =
    record { told = λ o. (all o).told; lines = λ o. (all o).lines }
  where
    first : (o : Option Node) → SameFor o (stepping.waiting_first m s) (stepping.waiting_first n t)
    first o = record {
      told = same_still s.events t.events m.told n.told see.events told o;
      asked = refl;
      lines =
          same_lines s.events t.events s.calls m.last_call see.events o
          ∙ (λ i. of_owner node_of_line o (telling.lines_of t.events (calls i) (last i)));
    }

    all : (o : Option Node) → SameFor o (stepping.waiting_of m s) (stepping.waiting_of n t)
    all o =
        subst (λ (u : WaitingView). SameFor o (stepping.waiting_of m s) u)
        (λ i. waiting.calls_asked t t.events (last i) (calls i) (waiting.events_asked t t.events t.events (stepping.waiting_first n t)))
        (calls_same o s t s.events t.events m.last_call s.calls _ _ see
        (events_same o s t s.events t.events (stepping.waiting_first m s) (stepping.waiting_first n t) see (first o)))
