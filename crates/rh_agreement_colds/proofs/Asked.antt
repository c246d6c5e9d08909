-- What is told of a node that comes up at this command: it is up, what starts there, and what waits there, once.
use Rattle.std.proofs.Common.{◌≡◌, ◌≢◌, ◌==◌, ◌++◌, ◌&&◌, ◌||◌, Bool, true, false, cond, not, List, [], ◌∷◌, filter, map, Option, Some, None, refl, sym, ap, subst, ◌∙◌, append_assoc}
use Rattle.std.specs.Prelude.{All, AllPairs}
use Rattle.std.proofs.lemmas.Bool.{eq-eqb, ne_eqb}
use Rattle.std.proofs.lemmas.List.{append-nil}
use Rattle.std.proofs.lemmas.List.Elements.{All-nil, All-cons, All-head, All-tail}
use Rattle.std.proofs.lemmas.List.Folds.{list_any-append}
use Rattle.rh_model.specs.ClusterView.{boot_of}
use Rattle.rh_model.specs.declared.node.App.{App}
use Rattle.rh_model.specs.declared.node.Node.{Node}
use Rattle.rh_model.specs.declared.settings.Restart.{Restart}
use Rattle.rh_otp_model.specs.declared.output.Event.{Event}
use Rattle.rh_otp_model.specs.declared.output.Event.TheVariants as event
use Rattle.rh_otp_model.specs.declared.process.StartType.TheVariants.{Normal}
use Rattle.rh_otp_node.specs.Live.{LiveView, is_alive}
use Rattle.rh_otp_sim.specs.declared.lines.Line.{Line}
use Rattle.rh_otp_sim.specs.declared.lines.Line.TheVariants as line
use Rattle.rh_otp_sim.specs.Waiting.{WaitingView, is_there, is_up_now, line_at, with_line, asked_if, entries_asked, events_asked}
use Rattle.rh_otp_system.specs.State.{SystemView, live_at}
use Rattle.rh_agreement_colds.proofs.Counting.{Apart, first_apart, rest_apart}
use Rattle.rh_agreement_colds.proofs.Grouped.{waits}

-- ---- rows of applications and nodes

abbrev Rows : Type 0
Rows = List (App × Node)

-- one row more is another one's
not_there_more : (b a : App) (m : Node) (xs : Rows) → is_there b m xs ≡ false → a.0 ≢ b.0 → is_there b m (xs ++ (a, m) ∷ []) ≡ false
not_there_more b a m xs none other =
    list_any-append (λ (row : App × Node). row.0.0 == b.0 && row.1.0 == m.0) xs ((a, m) ∷ [])
    ∙ (λ i. none i || ((ne_eqb a.0 b.0 other i && m.0 == m.0) || false))

either_true : (b : Bool) → (b || true) ≡ true
either_true true = refl
either_true false = refl

there_itself : (a : App) (m : Node) (xs : Rows) → is_there a m (xs ++ (a, m) ∷ []) ≡ true
there_itself a m xs =
    list_any-append (λ (row : App × Node). row.0.0 == a.0 && row.1.0 == m.0) xs ((a, m) ∷ [])
    ∙ (λ i. is_there a m xs || ((eq-eqb a.0 a.0 refl i && eq-eqb m.0 m.0 refl i) || false))
    ∙ either_true (is_there a m xs)

there_still : (b a : App) (m : Node) (xs : Rows) → is_there b m xs ≡ true → is_there b m (xs ++ (a, m) ∷ []) ≡ true
there_still b a m xs is =
    list_any-append (λ (row : App × Node). row.0.0 == b.0 && row.1.0 == m.0) xs ((a, m) ∷ [])
    ∙ (λ i. is i || ((a.0 == b.0 && m.0 == m.0) || false))

-- ---- the boot list is asked for

-- the line of an entry, if it has one: what doesn't start there waits there
abbrev pub wait_line : Node → Bool → App → Option Line
wait_line m starts a = cond starts None (Some (line.Waits a m))

-- what was told and asked for, where an entry was asked for
abbrev next_of : Node → Bool → App → WaitingView → WaitingView
next_of m true a w = record w { asked = w.asked ++ (a, m) ∷ [] }
next_of m false a w = record {
  told = w.told ++ (a, m) ∷ [];
  asked = w.asked ++ (a, m) ∷ [];
  lines = w.lines ++ line.Waits a m ∷ [];
}

module _ (s : SystemView) (es : List Event) (m : Node) (v : LiveView) (there : live_at s m ≡ Some v) (alive : is_alive v ≡ true)
    (starts : App → Bool) where
  -- nobody has asked for it, and it wasn't told
  abbrev IsNew : Rows → App × Restart → Type 0
  IsNew xs row = is_there row.0 m xs ≡ false

  abbrev WasAsked : WaitingView → App × Restart → Type 0
  WasAsked w row = is_there row.0 m w.asked ≡ true

  abbrev pub HasLine : App × Restart → Type 0
  HasLine row = line_at v row.0 m (is_up_now m es) ≡ wait_line m (starts row.0) row.0

  -- an entry is asked for
  one_asked : (a : App) (w : WaitingView) → is_there a m w.told ≡ false → is_there a m w.asked ≡ false
      → line_at v a m (is_up_now m es) ≡ wait_line m (starts a) a
      → cond (not (is_there a m w.told)) (asked_if (live_at s m) es a m w) w ≡ next_of m (starts a) a w
  one_asked a w untold unasked has =
      (λ i. cond (not (untold i)) (asked_if (there i) es a m w) w)
      ∙ (λ i. cond (not (alive i) || unasked i) w (with_line (has i) (record w { asked = w.asked ++ (a, m) ∷ [] })))
      ∙ by (starts a)
    where
      by : (b : Bool) → with_line (wait_line m b a) (record w { asked = w.asked ++ (a, m) ∷ [] }) ≡ next_of m b a w
      by true = refl
      by false = λ i. cond (not (untold i)) (next_of m false a w)
          (record { told = w.told; asked = w.asked ++ (a, m) ∷ []; lines = w.lines ++ line.Waits a m ∷ [] })

  told_next : (b : Bool) (e row : App × Restart) (w : WaitingView) → e.0.0 ≢ row.0.0 → IsNew w.told row → IsNew (next_of m b e.0 w).told row
  told_next true e row w other new = new
  told_next false e row w other new = not_there_more row.0 e.0 m w.told new other

  asked_next : (b : Bool) (e row : App × Restart) (w : WaitingView) → e.0.0 ≢ row.0.0 → IsNew w.asked row
      → IsNew (next_of m b e.0 w).asked row
  asked_next true e row w other new = not_there_more row.0 e.0 m w.asked new other
  asked_next false e row w other new = not_there_more row.0 e.0 m w.asked new other

  was_asked : (b : Bool) (a : App) (w : WaitingView) → is_there a m (next_of m b a w).asked ≡ true
  was_asked true a w = there_itself a m w.asked
  was_asked false a w = there_itself a m w.asked

  asked_still : (b : Bool) (a c : App) (w : WaitingView) → is_there c m w.asked ≡ true → is_there c m (next_of m b a w).asked ≡ true
  asked_still true a c w is = there_still c a m w.asked is
  asked_still false a c w is = there_still c a m w.asked is

  lines_next : (b : Bool) (e : App × Restart) (w : WaitingView) (rest : List (App × Restart))
      → (next_of m b e.0 w).lines ++ map (waits m) rest ≡ w.lines ++ map (waits m) (cond (not b) (e ∷ rest) rest)
  lines_next true e w rest = refl
  lines_next false e w rest = append_assoc w.lines (line.Waits e.0 m ∷ []) (map (waits m) rest)

  -- behind that: those that wait were told, and each was asked for
  record Asked (rows : List (App × Restart)) (w u : WaitingView) : Type 0 where
    lines : u.lines ≡ w.lines ++ map (waits m) (filter (λ (row : App × Restart). not (starts row.0)) rows)
    kept : (a : App) → is_there a m w.asked ≡ true → is_there a m u.asked ≡ true
    all : All (WasAsked u) rows

  all_new : (xs : Rows) → xs ≡ [] → (rows : List (App × Restart)) → All (IsNew xs) rows
  all_new xs none rows = subst (λ (ys : Rows). All (IsNew ys) rows) (sym none) (λ k d within. refl)

  -- what holds of each of two lists' elements
  both : (R : App × Restart → Type 0) (P Q : App × Restart → Type 0) → ((row : App × Restart) → R row → P row → Q row)
      → (rows : List (App × Restart)) → All R rows → All P rows → All Q rows
  both R P Q so [] r p = All-nil Q
  both R P Q so (row ∷ rows) r p =
      All-cons Q row rows (so row (All-head R row rows r) (All-head P row rows p))
      (both R P Q so rows (All-tail R row rows r) (All-tail P row rows p))

  all_asked : (rows : List (App × Restart)) (w : WaitingView) → AllPairs Apart rows → All HasLine rows → All (IsNew w.told) rows
      → All (IsNew w.asked) rows → Asked rows w (entries_asked s es rows m w)
  all_asked [] w apart has untold unasked = record {
    lines = sym (append-nil w.lines);
    kept = λ a is. is;
    all = All-nil (WasAsked w);
  }
  all_asked (e ∷ rows) w apart has untold unasked =
      subst (λ (x : WaitingView). Asked (e ∷ rows) w (entries_asked s es rows m x)) (sym step)
      (so_far
      (all_asked rows next (rest_apart e rows apart) (All-tail HasLine e rows has)
      (both (Apart e) (IsNew w.told) (IsNew next.told) (λ row other new. told_next (starts e.0) e row w other new) rows
      (first_apart e rows apart) (All-tail (IsNew w.told) e rows untold))
      (both (Apart e) (IsNew w.asked) (IsNew next.asked) (λ row other new. asked_next (starts e.0) e row w other new) rows
      (first_apart e rows apart) (All-tail (IsNew w.asked) e rows unasked))))
    where
      next : WaitingView
      next = next_of m (starts e.0) e.0 w

      step : cond (not (is_there e.0 m w.told)) (asked_if (live_at s m) es e.0 m w) w ≡ next
      step =
          one_asked e.0 w (All-head (IsNew w.told) e rows untold) (All-head (IsNew w.asked) e rows unasked) (All-head HasLine e rows has)

      so_far : Asked rows next (entries_asked s es rows m next) → Asked (e ∷ rows) w (entries_asked s es rows m next)
      so_far rest = record {
        lines = rest.lines ∙ lines_next (starts e.0) e w (filter (λ (row : App × Restart). not (starts row.0)) rows);
        kept = λ a is. rest.kept a (asked_still (starts e.0) e.0 a w is);
        all = All-cons (WasAsked (entries_asked s es rows m next)) e rows (rest.kept e.0 (was_asked (starts e.0) e.0 w)) rest.all;
      }

  -- who was asked for isn't asked for again
  no_more : (rows : List (App × Restart)) (w : WaitingView) → All (WasAsked w) rows → entries_asked s es rows m w ≡ w
  no_more [] w all = refl
  no_more (e ∷ rows) w all =
      ap (entries_asked s es rows m) (by (not (is_there e.0 m w.told))) ∙ no_more rows w (All-tail (WasAsked w) e rows all)
    where
      by : (b : Bool) → cond b (asked_if (live_at s m) es e.0 m w) w ≡ w
      by true =
          (λ i. asked_if (there i) es e.0 m w)
          ∙ (λ i. cond (not (is_alive v) || All-head (WasAsked w) e rows all i) w
          (with_line (line_at v e.0 m (is_up_now m es)) (record w { asked = w.asked ++ (e.0, m) ∷ [] })))
          ∙ either (not (is_alive v))
        where
          either : (b : Bool)
              → cond (b || true) w (with_line (line_at v e.0 m (is_up_now m es)) (record w { asked = w.asked ++ (e.0, m) ∷ [] })) ≡ w
          either true = refl
          either false = refl
      by false = refl

  -- starts ask for nothing
  starts_ask : (rows : List (App × Restart)) (rest : List Event) (w : WaitingView)
      → events_asked s es (map (λ (row : App × Restart). event.Started row.0 m Normal) rows ++ rest) w ≡ events_asked s es rest w
  starts_ask [] rest w = refl
  starts_ask (row ∷ rows) rest w = starts_ask rows rest w

  -- so by all that is told of the node, where nothing was told or asked for before
  pub node_asked : (started : List (App × Restart)) (w : WaitingView) → AllPairs Apart (boot_of s.cluster m)
      → All HasLine (boot_of s.cluster m) → w.told ≡ [] → w.asked ≡ []
      → (events_asked s es
      (event.Up m ∷ (map (λ (row : App × Restart). event.Started row.0 m Normal) started ++ event.Booted m ∷ [])) w).lines
      ≡ w.lines ++ map (waits m) (filter (λ (row : App × Restart). not (starts row.0)) (boot_of s.cluster m))
  node_asked started w apart has untold unasked =
      ap (λ (x : WaitingView). x.lines)
      (starts_ask started (event.Booted m ∷ []) (entries_asked s es rows m w) ∙ no_more rows (entries_asked s es rows m w) behind.all)
      ∙ behind.lines
    where
      rows : List (App × Restart)
      rows = boot_of s.cluster m

      behind : Asked rows w (entries_asked s es rows m w)
      behind = all_asked rows w apart has (all_new w.told untold rows) (all_new w.asked unasked rows)
