-- A message by which a script goes on is taken, and the node is further.
use Rattle.std.proofs.Common.{◌≡◌, ◌≢◌, ◌≤◌, ◌⊎◌, ◌+◌, ◌++◌, ℕ, suc, Bool, false, cond, List, [], ◌∷◌, map, filter, Some, refl, sym, ap, ◌∙◌, inl, inr}
use Rattle.std.specs.Prelude.{All}
use Rattle.std.proofs.lemmas.Bool.{cases_eq, false≢true}
use Rattle.std.proofs.lemmas.List.Elements.{All-append, All-weaker, filter-append}
use Rattle.rh_model.specs.declared.node.App.{App}
use Rattle.rh_model.specs.declared.node.Node.{Node}
use Rattle.rh_model.specs.declared.settings.Restart.{Restart}
use Rattle.rh_otp_model.specs.declared.output.Event.{Event}
use Rattle.rh_otp_net.specs.declared.locks.Held.{Held}
use Rattle.rh_otp_system.specs.declared.slow.Slow.TheVariants as slow
use Rattle.rh_otp_system.specs.State.{SystemView, with_node}
use Rattle.rh_otp_orders.specs.Orders.{node_told}
use Rattle.rh_otp_crashes.proofs.Crossing.{same_node}
use Rattle.rh_otp_joins.proofs.Lists.{count_of}
use Rattle.rh_otp_gathers.proofs.Tokens.{Drawn}
use Rattle.rh_otp_together.specs.Together.{BootTogether}
use Rattle.rh_otp_together.proofs.Apps.{tally, tally_rows}
use Rattle.rh_otp_together.proofs.Forms.{How, unbegun, asks, requests, stands, starts, learns, reports, answered, over, Far, live, Fine, Token, start, yes, there, report, answer, ran, letter, is_inner, is_voice, voices, asking, inners, is_standing, tale, weight, onto}
use Rattle.rh_otp_together.proofs.Needs.{once_of}
use Rattle.rh_otp_together.proofs.Plain.{IsMine, plainly, voices_pass, voices_mine, voices_no_inner}
use Rattle.rh_otp_together.proofs.Stages.{is_unbegun, IsHeld, asked_of, told_of, Stage, drawn_only, changed, changed_here, changed_other, row_app}
use Rattle.rh_otp_together.proofs.Stepping.{stepped}

-- ---- which it is

-- the one by which a script goes on fits how it is
pub only_start : (m : Node) (a : App) (r : Restart) (how : How) (l : List Token) → Drawn (start m a r) (voices m how) l
    → (how ≡ asks a r) × (l ≡ [])
only_start m a r unbegun l drawn = absurd drawn
only_start m a r (asks c q) l drawn =
    let one : (start m c q ≡ start m a r) × (l ≡ []) = drawn_only (start m a r) (start m c q) l drawn in
    let is : start m c q ≡ start m a r = one.0 in
    let same : asks c q ≡ asks a r = cc in
    (same, one.1)
only_start m a r (requests c q) l drawn = absurd drawn
only_start m a r (stands c q) l drawn = absurd drawn
only_start m a r (starts c q) l drawn = let is : yes m c ≡ start m a r = (drawn_only (start m a r) (yes m c) l drawn).0 in absurd (cc)
only_start m a r (learns c q) l drawn = let is : there m c ≡ start m a r = (drawn_only (start m a r) (there m c) l drawn).0 in absurd (cc)
only_start m a r (reports c q) l drawn = let is : report m c ≡ start m a r = (drawn_only (start m a r) (report m c) l drawn).0 in
    absurd (cc)
only_start m a r answered l drawn = let is : answer m ≡ start m a r = (drawn_only (start m a r) (answer m) l drawn).0 in absurd (cc)
only_start m a r over l drawn = absurd drawn

pub only_yes : (m : Node) (a : App) (how : How) (l : List Token) → Drawn (yes m a) (voices m how) l
    → (r : Restart) × (how ≡ starts a r) × (l ≡ [])
only_yes m a unbegun l drawn = absurd drawn
only_yes m a (asks c q) l drawn = let is : start m c q ≡ yes m a = (drawn_only (yes m a) (start m c q) l drawn).0 in absurd (cc)
only_yes m a (requests c q) l drawn = absurd drawn
only_yes m a (stands c q) l drawn = absurd drawn
only_yes m a (starts c q) l drawn =
    let one : (yes m c ≡ yes m a) × (l ≡ []) = drawn_only (yes m a) (yes m c) l drawn in
    let is : yes m c ≡ yes m a = one.0 in
    let same : starts c q ≡ starts a q = cc in
    (q, same, one.1)
only_yes m a (learns c q) l drawn = let is : there m c ≡ yes m a = (drawn_only (yes m a) (there m c) l drawn).0 in absurd (cc)
only_yes m a (reports c q) l drawn = let is : report m c ≡ yes m a = (drawn_only (yes m a) (report m c) l drawn).0 in absurd (cc)
only_yes m a answered l drawn = let is : answer m ≡ yes m a = (drawn_only (yes m a) (answer m) l drawn).0 in absurd (cc)
only_yes m a over l drawn = absurd drawn

pub only_there : (m : Node) (a : App) (how : How) (l : List Token) → Drawn (there m a) (voices m how) l
    → (r : Restart) × (how ≡ learns a r) × (l ≡ [])
only_there m a unbegun l drawn = absurd drawn
only_there m a (asks c q) l drawn = let is : start m c q ≡ there m a = (drawn_only (there m a) (start m c q) l drawn).0 in absurd (cc)
only_there m a (requests c q) l drawn = absurd drawn
only_there m a (stands c q) l drawn = absurd drawn
only_there m a (starts c q) l drawn = let is : yes m c ≡ there m a = (drawn_only (there m a) (yes m c) l drawn).0 in absurd (cc)
only_there m a (learns c q) l drawn =
    let one : (there m c ≡ there m a) × (l ≡ []) = drawn_only (there m a) (there m c) l drawn in
    let is : there m c ≡ there m a = one.0 in
    let same : learns c q ≡ learns a q = cc in
    (q, same, one.1)
only_there m a (reports c q) l drawn = let is : report m c ≡ there m a = (drawn_only (there m a) (report m c) l drawn).0 in absurd (cc)
only_there m a answered l drawn = let is : answer m ≡ there m a = (drawn_only (there m a) (answer m) l drawn).0 in absurd (cc)
only_there m a over l drawn = absurd drawn

pub only_report : (m : Node) (a : App) (how : How) (l : List Token) → Drawn (report m a) (voices m how) l
    → (r : Restart) × (how ≡ reports a r) × (l ≡ [])
only_report m a unbegun l drawn = absurd drawn
only_report m a (asks c q) l drawn = let is : start m c q ≡ report m a = (drawn_only (report m a) (start m c q) l drawn).0 in absurd (cc)
only_report m a (requests c q) l drawn = absurd drawn
only_report m a (stands c q) l drawn = absurd drawn
only_report m a (starts c q) l drawn = let is : yes m c ≡ report m a = (drawn_only (report m a) (yes m c) l drawn).0 in absurd (cc)
only_report m a (learns c q) l drawn = let is : there m c ≡ report m a = (drawn_only (report m a) (there m c) l drawn).0 in absurd (cc)
only_report m a (reports c q) l drawn =
    let one : (report m c ≡ report m a) × (l ≡ []) = drawn_only (report m a) (report m c) l drawn in
    let is : report m c ≡ report m a = one.0 in
    let same : reports c q ≡ reports a q = cc in
    (q, same, one.1)
only_report m a answered l drawn = let is : answer m ≡ report m a = (drawn_only (report m a) (answer m) l drawn).0 in absurd (cc)
only_report m a over l drawn = absurd drawn

pub only_answer : (m : Node) (how : How) (l : List Token) → Drawn (answer m) (voices m how) l → (how ≡ answered) × (l ≡ [])
only_answer m unbegun l drawn = absurd drawn
only_answer m (asks c q) l drawn = let is : start m c q ≡ answer m = (drawn_only (answer m) (start m c q) l drawn).0 in absurd (cc)
only_answer m (requests c q) l drawn = absurd drawn
only_answer m (stands c q) l drawn = absurd drawn
only_answer m (starts c q) l drawn = let is : yes m c ≡ answer m = (drawn_only (answer m) (yes m c) l drawn).0 in absurd (cc)
only_answer m (learns c q) l drawn = let is : there m c ≡ answer m = (drawn_only (answer m) (there m c) l drawn).0 in absurd (cc)
only_answer m (reports c q) l drawn = let is : report m c ≡ answer m = (drawn_only (answer m) (report m c) l drawn).0 in absurd (cc)
only_answer m answered l drawn = (refl, (drawn_only (answer m) (answer m) l drawn).1)
only_answer m over l drawn = absurd drawn

-- ---- what stays

-- a lock is held by another node
pub still_held : (b : SystemView) (far : Node → Far) (m : Node) (next : Far) (held : List Held) → is_standing (far m).how ≡ false
    → All (IsHeld b far) held → All (IsHeld b (changed m far next)) held
still_held b far m next held quiet all = All-weaker (IsHeld b far) (IsHeld b (changed m far next)) (λ x is. record {
  node = is.node;
  alive = is.alive;
  standing = ap (λ (k : Far). is_standing k.how) (changed_other m far next is.node (apart x is)) ∙ is.standing;
  is = is.is;
}) held all
  where
    apart : (x : Held) (is : IsHeld b far x) → is.node.0 ≢ m.0
    apart x is same = false≢true (sym quiet ∙ ap (λ (k : Node). is_standing (far k).how) (sym (same_node is.node m same)) ∙ is.standing)

pub still_waiting : (b : SystemView) (far : Node → Far) (m : Node) (next : Far) (waiting : List Node)
    → is_unbegun next.how ≡ is_unbegun (far m).how
    → ((k : Node) → count_of k waiting ≡ cond (is_unbegun (far k).how) (count_of k b.alive) 0)
    → (k : Node) → count_of k waiting ≡ cond (is_unbegun (changed m far next k).how) (count_of k b.alive) 0
still_waiting b far m next waiting same slow k = slow k ∙ ap (λ (c : Bool). cond c (count_of k b.alive) 0) (by (cases_eq k.0 m.0))
  where
    by : (k.0 ≡ m.0) ⊎ (k.0 ≢ m.0) → is_unbegun (far k).how ≡ is_unbegun (changed m far next k).how
    by (inl is) =
        ap (λ (x : Node). is_unbegun (far x).how) (same_node k m is) ∙ sym same
        ∙ ap (λ (x : Far). is_unbegun x.how) (sym (changed_here m far next k is))
    by (inr other) = ap (λ (x : Far). is_unbegun x.how) (sym (changed_other m far next k other))

pub same_inners : (m : Node) (one other : How) (ran : List App) → asking m one ≡ asking m other → inners m one ran ≡ inners m other ran
same_inners m one other [] same = same
same_inners m one other (a ∷ l) same = ap (λ (t : List Token). ran m a ∷ t) same

-- ---- a message of the node to itself

-- What becomes of it: nothing of what has come of other nodes has changed, and of what it has decided or told.
pub record Goes {b : SystemView} (g : BootTogether b) {left : ℕ} {u : SystemView} (f : Stage b g.at (suc left) u) (m : Node) (old : Far)
    (rest : List Token) (v : SystemView)
    : Type 0 where
  pub next : Far
  pub extra : List Token
  pub seen : List Event
  pub is : v ≡ record (with_node m (live b g.at m next) u) {
    messages = map (letter b g.at) (rest ++ (voices m next.how ++ extra));
    slow = map slow.Boot f.waiting;
    events = u.events ++ seen;
  }
  pub same_rows : next.rows ≡ old.rows
  pub same_mail : next.mail ≡ old.mail
  pub asked : asked_of b g.at m next ≡ asked_of b g.at m old
  pub told : told_of b g.at m next ≡ told_of b g.at m old
  pub mine : All (IsMine m) extra
  pub voiceless : filter (is_voice m) extra ≡ []
  pub inner : filter (is_inner m) rest ++ filter (is_inner m) extra ≡ inners m next.how next.ran
  pub quiet : is_standing old.how ≡ false
  pub begun : is_unbegun next.how ≡ is_unbegun old.how
  pub weighs : suc (weight b g.at m next) ≡ weight b g.at m old
  pub fine : Fine b g.at m next
  pub tells : tale b g.at m next.how next.done ≡ tale b g.at m old.how old.done ++ seen
  pub own : All (λ (e : Event). node_told e ≡ Some m) seen

pub goes_on : {b : SystemView} (g : BootTogether b) {left : ℕ} {u : SystemView} (f : Stage b g.at (suc left) u) (m : Node) (old : Far)
    (t : Token) (rest : List Token) (v : SystemView)
    → 1 ≤ count_of m b.alive → f.far m ≡ old → IsMine m t → Drawn t f.tokens rest → filter (is_voice m) rest ≡ []
    → Goes g f m old rest v → Stage b g.at left v
goes_on {b} g {left} {u} f m old t rest v alive was own_one drawn none s = stepped f m v (once_of g m alive) (plainly f m v (record {
  old = old;
  was = was;
  alive = alive;
  next = s.next;
  rest = rest;
  left_by = inr (t, own_one, drawn);
  more = voices m s.next.how ++ s.extra;
  mine = All-append (IsMine m) (voices m s.next.how) s.extra (voices_mine m s.next.how) s.mine;
  waiting = f.waiting;
  seen = s.seen;
  locks = u.locks;
  is = s.is;
  weighs = s.weighs;
  fine = s.fine;
  locked = still_held b f.far m s.next u.locks (ap (λ (x : Far). is_standing x.how) was ∙ s.quiet) f.locks;
  slow = still_waiting b f.far m s.next f.waiting (s.begun ∙ ap (λ (x : Far). is_unbegun x.how) (sym was)) f.slow;
  voiced =
      filter-append (is_voice m) rest (voices m s.next.how ++ s.extra)
      ∙ (λ i. none i ++ filter-append (is_voice m) (voices m s.next.how) s.extra i)
      ∙ (λ i. voices_pass m s.next.how i ++ s.voiceless i)
      ∙ app_nil (voices m s.next.how);
  inner =
      filter-append (is_inner m) rest (voices m s.next.how ++ s.extra)
      ∙ ap (λ (l : List Token). filter (is_inner m) rest ++ l)
      (filter-append (is_inner m) (voices m s.next.how) s.extra
      ∙ ap (λ (l : List Token). l ++ filter (is_inner m) s.extra) (voices_no_inner m m s.next.how))
      ∙ s.inner;
  sums = λ a away. (λ i. tally a (s.same_mail i) + tally_rows a (s.same_rows i) + tally a (s.asked i));
  homes = λ a home. (λ i. tally a (s.same_mail i) + tally_rows a (s.same_rows i));
  told = λ a home. ap (tally a) s.told;
  ordered = λ q strange. (λ i. filter q (onto (s.same_mail i) (map row_app (s.same_rows i))));
  said = λ q own. ap (filter q) s.told;
  tells = s.tells;
  own = s.own;
}))
  where
    app_nil : (l : List Token) → l ++ [] ≡ l
    app_nil [] = refl
    app_nil (x ∷ l) = ap (λ (y : List Token). x ∷ y) (app_nil l)
