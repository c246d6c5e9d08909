-- By every order a node that introduces itself comes to the same: all that it introduced itself to have answered, and it has synchronised.
use Rattle.std.proofs.Common.{◌≡◌, ◌≢◌, ◌⊎◌, ◌+◌, ◌++◌, ℕ, suc, List, [], ◌∷◌, map, length, slice_get, Some, refl, sym, ap, subst, ◌∙◌, inl, inr, arith}
use Rattle.std.proofs.lemmas.Bool.{cases_eq}
use Rattle.std.proofs.lemmas.Option.{none-some, same_Some}
use Rattle.rh_history.specs.Draft.{DraftView}
use Rattle.rh_model.specs.declared.node.Node.{Node}
use Rattle.rh_otp_model.specs.declared.output.Envelope.{Envelope}
use Rattle.rh_otp_node.specs.Live.{LiveView}
use Rattle.rh_otp_system.specs.declared.cell.Cell.{Cell}
use Rattle.rh_otp_system.specs.declared.cell.Cell.TheVariants as cell
use Rattle.rh_otp_system.specs.declared.slow.Answered.{Answered}
use Rattle.rh_otp_system.specs.Delivering.{arrived}
use Rattle.rh_otp_system.specs.State.{SystemView}
use Rattle.rh_otp_system.specs.Working.{answer_count}
use Rattle.rh_otp_orders.specs.Orders.{AreAlike}
use Rattle.rh_otp_orders.proofs.Same.{cell_at}
use Rattle.rh_otp_orders.proofs.Taking.{Taken}
use Rattle.rh_otp_crashes.proofs.Peace.{without}
use Rattle.rh_otp_joins.proofs.Arriving.{IsSteady}
use Rattle.rh_otp_joins.proofs.Introducing.{Learnt, learn_all, live_waiting, locks_while}
use Rattle.rh_otp_joins.proofs.Lists.{count_of, counts_itself}
use Rattle.rh_otp_joins.proofs.Mailing.{words, Unmet}
use Rattle.rh_otp_joins.proofs.Meeting.{meets}
use Rattle.rh_otp_joins.proofs.Stages.{told_in, Opening, first, letter, Stage, counted_in}
use Rattle.rh_otp_joins.proofs.Taking.{hears_up, hears_told}
use Rattle.rh_otp_joins.proofs.Tokens.{Token, up, asks, tells, weight_of, total, total_more, Drawn, drawn_total, DrawnAs, drawn_as}

-- ---- one step

-- it is one message further
pub record Further {n : Node} {nodes : List Node} {b : SystemView} (g : Opening n nodes b) (weight : ℕ) (t : SystemView) : Type 0 where
  pub tokens : List Token
  pub weighs : total weight_of tokens ≡ weight
  pub stage : Stage n nodes b g tokens t

goes_further : {n : Node} {nodes : List Node} {b : SystemView} {g : Opening n nodes b} (weight : ℕ) (tokens : List Token) (e : Envelope)
    (left : List Envelope) (u : SystemView) → total weight_of tokens ≡ suc weight → Stage n nodes b g tokens u → Taken e u.messages left
    → Further g weight (arrived e.to e.message (without u left))
goes_further {n} {nodes} {b} {g} weight tokens e left u weighs f taken =
    subst (λ (x : Envelope). Further g weight (arrived x.to x.message (without u left))) (sym at.is) (by at.token at.drawn)
  where
    at : DrawnAs (letter n b g) e tokens left
    at = drawn_as (letter n b g) e tokens left (subst (λ (l : List Envelope). Taken e l left) (ap (λ (z : SystemView). z.messages) f.same) taken)

    by : (t : Token) → Drawn t tokens at.rest → Further g weight (arrived (letter n b g t).to (letter n b g t).message (without u left))
    by (up x) drawn =
        let whole : total weight_of tokens ≡ 1 + total weight_of at.rest = drawn_total weight_of (up x) tokens at.rest drawn in
        record { tokens = at.rest; weighs = omega (arith, weighs, whole); stage = hears_up x tokens at.rest left u f drawn at.left_so }
    by (asks m) drawn =
        let whole : total weight_of tokens ≡ 2 + total weight_of at.rest = drawn_total weight_of (asks m) tokens at.rest drawn in
        let more : total weight_of (at.rest ++ tells m ∷ []) ≡ total weight_of at.rest + 1 = total_more weight_of at.rest (tells m ∷ []) in
        record {
          tokens = at.rest ++ tells m ∷ [];
          weighs = omega (arith, weighs, whole, more);
          stage = meets m tokens at.rest left u f drawn at.left_so;
        }
    by (tells m) drawn =
        let whole : total weight_of tokens ≡ 1 + total weight_of at.rest = drawn_total weight_of (tells m) tokens at.rest drawn in
        record { tokens = at.rest; weighs = omega (arith, weighs, whole); stage = hears_told m tokens at.rest left u f drawn at.left_so }

-- ---- the end

nothing_left : (tokens : List Token) → total weight_of tokens ≡ 0 → tokens ≡ []
nothing_left [] none = refl
nothing_left (t ∷ tokens) none = absurd (by t none)
  where
    by : (t : Token) → weight_of t + total weight_of tokens ≡ 0 → ⊥
    by (up x) none = omega (arith, none)
    by (asks x) none = omega (arith, none)
    by (tells x) none = omega (arith, none)

-- the node waits for nobody any more
pub record Ended (later left : List Node) : Type 0 where
  pub all_came : later ≡ []
  pub none_left : left ≡ []

pub ended_by : (later left : List Node) → Unmet later left → ((m : Node) → count_of m left ≡ count_of m later) → Ended later left
ended_by [] left unmet same = record { all_came = refl; none_left = unmet }
ended_by (x ∷ xs) left unmet same =
    let one : count_of x (x ∷ xs) ≡ suc (count_of x xs) = counts_itself x xs in
    let none : count_of x left ≡ 0 = unmet in
    let as_many : count_of x left ≡ count_of x (x ∷ xs) = same x in
    absurd (omega (arith, one, none, as_many))

pub has_ended : {n : Node} {nodes : List Node} {b : SystemView} {g : Opening n nodes b} (u : SystemView) → (f : Stage n nodes b g [] u)
    → Ended f.later f.left
has_ended u f =
    ended_by f.later f.left f.unmet (λ m.
    (let all : 0 + 0 + count_of m f.left ≡ count_of m f.later = f.counts m in
    let same : count_of m f.left ≡ count_of m f.later = omega (arith, all) in
    same))

-- lists that have the same at each place are the same
pub same_lists : {A : Type 0} (xs ys : List A) → ((k : ℕ) → slice_get xs k ≡ slice_get ys k) → xs ≡ ys
same_lists [] [] same = refl
same_lists [] (y ∷ ys) same = absurd (none-some y (same 0))
same_lists (x ∷ xs) [] same = absurd (none-some x (sym (same 0)))
same_lists (x ∷ xs) (y ∷ ys) same =
    (λ i. same_Some x y (same 0) i ∷ same_lists xs ys (λ k. same (suc k)) i)

-- how the node is at the end
abbrev pub last_live : {n : Node} {nodes : List Node} {b : SystemView} → Opening n nodes b → LiveView
last_live {n} {nodes} {b} g = live_waiting g.live g.dist (learn_all (told_in b) nodes (first n g)) [] []

pub ends_as : {n : Node} {nodes : List Node} {b : SystemView} {g : Opening n nodes b} (u : SystemView) → Stage n nodes b g [] u
    → cell_at u n.0 ≡ Some (cell.Node (last_live g))
ends_as {n} {nodes} {b} {g} u f =
    let end : Ended f.later f.left = has_ended u f in
    let all : learn_all (told_in b) [] f.learnt ≡ learn_all (told_in b) nodes (first n g) =
    subst (λ (l : List Node). learn_all (told_in b) l f.learnt ≡ learn_all (told_in b) nodes (first n g)) end.all_came f.leads in
    f.here
    ∙ (λ i. Some (cell.Node (live_waiting g.live g.dist f.learnt (end.all_came i) (words (told_in b) (end.none_left i)))))
    ∙ ap (λ (l : Learnt). Some (cell.Node (live_waiting g.live g.dist l [] []))) all

-- but for the nodes and what was answered all of it is known
abbrev pub last_of : SystemView → DraftView Cell → List Answered → SystemView
last_of b nodes answers = record b { nodes = nodes; messages = []; locks = []; answers = answers }

pub ends_so : {n : Node} {nodes : List Node} {b : SystemView} {g : Opening n nodes b} (u : SystemView) → Stage n nodes b g [] u
    → u ≡ last_of b u.nodes u.answers
ends_so {n} {nodes} {b} {g} u f =
    f.same ∙ (λ i. record b { nodes = u.nodes; messages = []; locks = locks_while g.held ((has_ended u f).all_came i); answers = u.answers })

alike_but_answers : (s : SystemView) (xs ys : List Answered) → ((p : Answered) → answer_count xs p ≡ answer_count ys p)
    → AreAlike (record s { answers = xs }) (record s { answers = ys })
alike_but_answers s xs ys same = record {
  cluster = refl;
  files = refl;
  nodes = refl;
  clock = refl;
  step = refl;
  last_call = refl;
  alive = refl;
  links = refl;
  locks = refl;
  calls = refl;
  asleep = refl;
  told = refl;
  answers = same;
  is_ticking = refl;
  ends_soon = refl;
  messages = λ pair. refl;
  timers = λ o. refl;
  slow = λ o. refl;
  events = λ o. refl;
}

end_alike : {n : Node} {nodes : List Node} {b : SystemView} {g : Opening n nodes b} (u t : SystemView) → Stage n nodes b g [] u
    → Stage n nodes b g [] t → AreAlike u t
end_alike {n} {nodes} {b} {g} u t f h =
    subst (λ (x : SystemView). AreAlike x t) (sym (ends_so u f))
    (subst (λ (x : SystemView). AreAlike (last_of b u.nodes u.answers) x) (sym (ends_so t h))
    (subst (λ (x : DraftView Cell). AreAlike (last_of b u.nodes u.answers) (last_of b x t.answers)) nodes_same
    (alike_but_answers (last_of b u.nodes []) u.answers t.answers counts)))
  where
    at : (m : Node) → (m.0 ≡ n.0) ⊎ (m.0 ≢ n.0) → cell_at u m.0 ≡ cell_at t m.0
    at m (inl itself) =
        ap (λ (k : ℕ). cell_at u k) itself ∙ ends_as u f ∙ sym (ends_as t h) ∙ ap (λ (k : ℕ). cell_at t k) (sym itself)
    at m (inr apart) = f.cells m apart ∙ sym (h.cells m apart)

    cells_same : u.nodes.cells ≡ t.nodes.cells
    cells_same = same_lists u.nodes.cells t.nodes.cells (λ k. at (record { 0 = k }) (cases_eq k n.0))

    nodes_same : u.nodes ≡ t.nodes
    nodes_same = λ i. record { base = (f.base ∙ sym h.base) i; cells = cells_same i }

    counts : (p : Answered) → answer_count u.answers p ≡ answer_count t.answers p
    counts p =
        let one : answer_count u.answers p + 0 ≡ total (counted_in n b p) (map asks nodes) = f.answers p in
        let other : answer_count t.answers p + 0 ≡ total (counted_in n b p) (map asks nodes) = h.answers p in
        let same : answer_count u.answers p ≡ answer_count t.answers p = omega (arith, one, other) in
        same

-- ---- every order leads there

some_token : {n : Node} {nodes : List Node} {b : SystemView} {g : Opening n nodes b} (weight : ℕ) (tokens : List Token) (u : SystemView)
    → total weight_of tokens ≡ suc weight → Stage n nodes b g tokens u → u.messages ≡ [] → ⊥
some_token {n} {nodes} {b} {g} weight [] u weighs f none = omega (arith, weighs)
some_token {n} {nodes} {b} {g} weight (t ∷ tokens) u weighs f none =
    let long : suc (length (map (letter n b g) tokens)) ≡ 0 = ap length (sym (ap (λ (z : SystemView). z.messages) f.same) ∙ none) in
    omega (arith, long)

pub at_end : {n : Node} {nodes : List Node} {b : SystemView} {g : Opening n nodes b} (u : SystemView) → Further g 0 u → Stage n nodes b g [] u
at_end {n} {nodes} {b} {g} u f = subst (λ (l : List Token). Stage n nodes b g l u) (nothing_left f.tokens f.weighs) f.stage

-- so many messages before the end
pub all_further : {n : Node} {nodes : List Node} {b : SystemView} (g : Opening n nodes b) → IsSteady (Further g)
all_further {n} {nodes} {b} g = record {
  some = λ k u f. some_token k f.tokens u f.weighs f.stage;
  on = λ k u e left f taken. goes_further k f.tokens e left u f.weighs f.stage taken;
  same = λ u t f h. end_alike u t (at_end u f) (at_end t h);
}
