-- A step by what a node sends to itself, and by no news of others.
use Rattle.std.proofs.Common.{◌≡◌, ◌≢◌, ◌≤◌, ◌⊎◌, ◌+◌, ◌++◌, ◌==◌, ℕ, suc, Bool, false, cond, List, [], ◌∷◌, map, filter, Option, Some, refl, sym, ap, subst, ◌∙◌, inl, inr, arith, true}
use Rattle.std.specs.Option.{option_and_then}
use Rattle.std.specs.Prelude.{All}
use Rattle.std.proofs.lemmas.Bool.{eq-eqb, ne_eqb}
use Rattle.std.proofs.lemmas.List.{append-nil}
use Rattle.std.proofs.lemmas.List.Elements.{All-nil, All-cons, All-append, All-head, All-tail, All-weaker, filter-append}
use Rattle.rh_model.specs.declared.node.App.{App}
use Rattle.rh_model.specs.declared.node.Node.{Node}
use Rattle.rh_otp_model.specs.declared.output.Event.{Event}
use Rattle.rh_otp_net.specs.declared.locks.Held.{Held}
use Rattle.rh_otp_system.specs.declared.cell.Cell.{Cell}
use Rattle.rh_otp_system.specs.declared.slow.Slow.TheVariants as slow
use Rattle.rh_otp_system.specs.State.{SystemView, live_in, live_at, with_node}
use Rattle.rh_otp_orders.specs.Orders.{node_told}
use Rattle.rh_otp_crashes.proofs.Crossing.{same_node}
use Rattle.rh_otp_joins.proofs.Lists.{count_of}
use Rattle.rh_otp_gathers.proofs.Stages.{drawn_all}
use Rattle.rh_otp_gathers.proofs.Tokens.{total, total_more, Drawn, drawn_total}
use Rattle.rh_otp_together.specs.Together.{boots_at}
use Rattle.rh_otp_together.proofs.Apps.{tally, tally_rows}
use Rattle.rh_otp_together.proofs.Forms.{How, unbegun, asks, requests, stands, starts, learns, reports, answered, over, Far, live, Fine, Token, start, request, yes, there, report, answer, ran, news, letter, node_of, is_inner, is_voice, news_of, token_weight, voices, inners, tale, weight, onto, is_news, all_said}
use Rattle.rh_otp_together.proofs.Queues.{none_of}
use Rattle.rh_otp_together.proofs.Stages.{is_unbegun, IsHeld, got, asked_of, told_of, IsOf, Stage, drawn_apart, changed, heard, row_app, come}
use Rattle.rh_otp_together.proofs.Stepping.{Step}

-- it is the node's, and no news
abbrev pub IsMine : Node → Token → Type 0
IsMine m t = ((node_of t).0 ≡ m.0) × (token_weight t ≡ 0)

pub no_voice : (k m : Node) (t : Token) → k.0 ≢ m.0 → IsMine m t → is_voice k t ≡ false
no_voice k m (start x a r) other (is, none) = ne_eqb x.0 k.0 (λ same. other (sym same ∙ is))
no_voice k m (request x a) other mine = refl
no_voice k m (yes x a) other (is, none) = ne_eqb x.0 k.0 (λ same. other (sym same ∙ is))
no_voice k m (there x a) other (is, none) = ne_eqb x.0 k.0 (λ same. other (sym same ∙ is))
no_voice k m (report x a) other (is, none) = ne_eqb x.0 k.0 (λ same. other (sym same ∙ is))
no_voice k m (answer x) other (is, none) = ne_eqb x.0 k.0 (λ same. other (sym same ∙ is))
no_voice k m (ran x a) other mine = refl
no_voice k m (news x a) other mine = refl

pub no_inner : (k m : Node) (t : Token) → k.0 ≢ m.0 → IsMine m t → is_inner k t ≡ false
no_inner k m (start x a r) other mine = refl
no_inner k m (request x a) other (is, none) = ne_eqb x.0 k.0 (λ same. other (sym same ∙ is))
no_inner k m (yes x a) other mine = refl
no_inner k m (there x a) other mine = refl
no_inner k m (report x a) other mine = refl
no_inner k m (answer x) other mine = refl
no_inner k m (ran x a) other (is, none) = ne_eqb x.0 k.0 (λ same. other (sym same ∙ is))
no_inner k m (news x a) other mine = refl

pub no_news : (m k : Node) (c : App) (t : Token) → IsMine m t → news_of k c t ≡ 0
no_news m k c (start x a r) mine = refl
no_news m k c (request x a) mine = refl
no_news m k c (yes x a) mine = refl
no_news m k c (there x a) mine = refl
no_news m k c (report x a) mine = refl
no_news m k c (answer x) mine = refl
no_news m k c (ran x a) mine = refl
no_news m k c (news x a) (is, none) = absurd (omega (arith, none))

pub never_news : (m k : Node) (q : App → Bool) (t : Token) → IsMine m t → is_news k q t ≡ false
never_news m k q (start x a r) mine = refl
never_news m k q (request x a) mine = refl
never_news m k q (yes x a) mine = refl
never_news m k q (there x a) mine = refl
never_news m k q (report x a) mine = refl
never_news m k q (answer x) mine = refl
never_news m k q (ran x a) mine = refl
never_news m k q (news x a) (is, none) = absurd (omega (arith, none))

pub all_zero : (f : Token → ℕ) (P : Token → Type 0) → ((t : Token) → P t → f t ≡ 0) → (tokens : List Token) → All P tokens
    → total f tokens ≡ 0
all_zero f P none [] all = refl
all_zero f P none (t ∷ tokens) all =
    let one : f t ≡ 0 = none t (All-head P t tokens all) in
    let rest : total f tokens ≡ 0 = all_zero f P none tokens (All-tail P t tokens all) in
    omega (arith, one, rest)

pub none_pass : (p : Token → Bool) (P : Token → Type 0) → ((t : Token) → P t → p t ≡ false) → (tokens : List Token) → All P tokens
    → filter p tokens ≡ []
none_pass p P fails tokens all = none_of p tokens (All-weaker P (λ (t : Token). p t ≡ false) fails tokens all)

-- ---- what is left

-- nothing was taken, or something of the node's
abbrev pub LeftBy : Node → List Token → List Token → Type 0
LeftBy m tokens rest = (rest ≡ tokens) ⊎ ((t : Token) × IsMine m t × Drawn t tokens rest)

pub left_total : (m : Node) (f : Token → ℕ) (tokens rest : List Token) → ((t : Token) → IsMine m t → f t ≡ 0) → LeftBy m tokens rest
    → total f rest ≡ total f tokens
left_total m f tokens rest none (inl same) = ap (total f) same
left_total m f tokens rest none (inr (t, mine, drawn)) =
    let all : total f tokens ≡ f t + total f rest = drawn_total f t tokens rest drawn in
    let no_one : f t ≡ 0 = none t mine in
    (let same : total f rest ≡ total f tokens = omega (arith, all, no_one) in same)

pub left_filter : (m : Node) (p : Token → Bool) (tokens rest : List Token) → ((t : Token) → IsMine m t → p t ≡ false) → LeftBy m tokens rest
    → filter p rest ≡ filter p tokens
left_filter m p tokens rest fails (inl same) = ap (filter p) same
left_filter m p tokens rest fails (inr (t, mine, drawn)) = sym (drawn_apart p t tokens rest drawn (fails t mine))

pub left_all : (m : Node) (P : Token → Type 0) (tokens rest : List Token) → LeftBy m tokens rest → All P tokens → All P rest
left_all m P tokens rest (inl same) all = subst (All P) (sym same) all
left_all m P tokens rest (inr (t, mine, drawn)) all = (drawn_all P t tokens rest all drawn).1

pub more_filter : (m : Node) (p : Token → Bool) (tokens rest more : List Token) → ((t : Token) → IsMine m t → p t ≡ false)
    → LeftBy m tokens rest → All (IsMine m) more → filter p (rest ++ more) ≡ filter p tokens
more_filter m p tokens rest more fails left mine =
    filter-append p rest more
    ∙ (λ i. left_filter m p tokens rest fails left i ++ none_pass p (IsMine m) fails more mine i)
    ∙ append-nil (filter p tokens)

pub more_total : (m : Node) (f : Token → ℕ) (tokens rest more : List Token) → ((t : Token) → IsMine m t → f t ≡ 0)
    → LeftBy m tokens rest → All (IsMine m) more → total f (rest ++ more) ≡ total f tokens
more_total m f tokens rest more none left mine =
    let both : total f (rest ++ more) ≡ total f rest + total f more = total_more f rest more in
    let zero_more : total f more ≡ 0 = all_zero f (IsMine m) none more mine in
    let same : total f rest ≡ total f tokens = left_total m f tokens rest none left in
    omega (arith, both, zero_more, same)

-- ---- such a step

pub record Plain {b : SystemView} {at : App → Node} {left : ℕ} {u : SystemView} (f : Stage b at (suc left) u) (m : Node)
    (v : SystemView) : Type 0 where
  pub old : Far
  pub was : f.far m ≡ old
  pub alive : 1 ≤ count_of m b.alive
  pub next : Far
  pub rest : List Token
  pub left_by : LeftBy m f.tokens rest
  pub more : List Token
  pub mine : All (IsMine m) more
  pub waiting : List Node
  pub seen : List Event
  pub locks : List Held
  pub is : v ≡ record (with_node m (live b at m next) u) {
    messages = map (letter b at) (rest ++ more);
    slow = map slow.Boot waiting;
    events = u.events ++ seen;
    locks = locks;
  }
  pub weighs : suc (weight b at m next) ≡ weight b at m old
  pub fine : Fine b at m next
  pub locked : All (IsHeld b (changed m f.far next)) locks
  pub slow : (k : Node) → count_of k waiting ≡ cond (is_unbegun (changed m f.far next k).how) (count_of k b.alive) 0
  pub voiced : filter (is_voice m) (rest ++ more) ≡ voices m next.how
  pub inner : filter (is_inner m) (rest ++ more) ≡ inners m next.how next.ran
  pub sums : (a : App) → (at a).0 ≢ m.0 → tally a next.mail + tally_rows a next.rows + tally a (asked_of b at m next)
      ≡ tally a old.mail + tally_rows a old.rows + tally a (asked_of b at m old)
  pub homes : (a : App) → (at a).0 ≡ m.0 → tally a next.mail + tally_rows a next.rows ≡ tally a old.mail + tally_rows a old.rows
  pub told : (a : App) → (at a).0 ≡ m.0 → tally a (told_of b at m next) ≡ tally a (told_of b at m old)
  pub ordered : (q : App → Bool) → ((c : App) → q c ≡ true → boots_at b m c ≡ false)
      → filter q (onto next.mail (map row_app next.rows)) ≡ filter q (onto old.mail (map row_app old.rows))
  pub said : (q : App → Bool) → ((c : App) → q c ≡ true → (at c).0 ≡ m.0)
      → filter q (told_of b at m next) ≡ filter q (told_of b at m old)
  pub tells : tale b at m next.how next.done ≡ tale b at m old.how old.done ++ seen
  pub own : All (λ (e : Event). node_told e ≡ Some m) seen

pub plainly : {b : SystemView} {at : App → Node} {left : ℕ} {u : SystemView} (f : Stage b at (suc left) u) (m : Node) (v : SystemView)
    → Plain f m v → Step f m v
plainly {b} {at} {left} {u} f m v p = record {
  next = p.next;
  tokens = p.rest ++ p.more;
  waiting = p.waiting;
  seen = p.seen;
  locks = p.locks;
  is = p.is;
  weighs =
      (let less : suc (weight b at m p.next) ≡ weight b at m p.old = p.weighs in
      let before : weight b at m (f.far m) ≡ weight b at m p.old = ap (weight b at m) p.was in
      let same : total token_weight (p.rest ++ p.more) ≡ total token_weight f.tokens =
      more_total m token_weight f.tokens p.rest p.more (λ t mine. mine.1) p.left_by p.mine in
      omega (arith, less, before, same));
  fine = p.fine;
  locked = p.locked;
  slow = p.slow;
  known = All-append (IsOf b) p.rest p.more (left_all m (IsOf b) f.tokens p.rest p.left_by f.known)
      (All-weaker (IsMine m) (IsOf b)
      (λ t mine. subst (λ (x : Node). 1 ≤ count_of x b.alive) (sym (same_node (node_of t) m mine.0)) p.alive) p.more p.mine);
  voiced = p.voiced;
  inner = p.inner;
  voiced_else = λ k other. more_filter m (is_voice k) f.tokens p.rest p.more (λ t mine. no_voice k m t other mine) p.left_by p.mine;
  inner_else = λ k other. more_filter m (is_inner k) f.tokens p.rest p.more (λ t mine. no_inner k m t other mine) p.left_by p.mine;
  sums = λ a away.
      (let news_same : total (news_of m a) (p.rest ++ p.more) ≡ total (news_of m a) f.tokens = same_news m a in
      let same : tally a p.next.mail + tally_rows a p.next.rows + tally a (asked_of b at m p.next)
      ≡ tally a p.old.mail + tally_rows a p.old.rows + tally a (asked_of b at m p.old) = p.sums a away in
      let before : got f.tokens (f.far m) m a + tally a (asked_of b at m (f.far m))
      ≡ got f.tokens p.old m a + tally a (asked_of b at m p.old) =
      ap (λ (x : Far). got f.tokens x m a + tally a (asked_of b at m x)) p.was in
      omega (arith, news_same, same, before));
  homes = λ a home.
      (let news_same : total (news_of m a) (p.rest ++ p.more) ≡ total (news_of m a) f.tokens = same_news m a in
      let same : tally a p.next.mail + tally_rows a p.next.rows ≡ tally a p.old.mail + tally_rows a p.old.rows = p.homes a home in
      let before : got f.tokens (f.far m) m a ≡ got f.tokens p.old m a = ap (λ (x : Far). got f.tokens x m a) p.was in
      omega (arith, news_same, same, before));
  near = λ k a alive other home.
      (let news_same : total (news_of k a) (p.rest ++ p.more) ≡ total (news_of k a) f.tokens = same_news k a in
      let same : tally a (told_of b at m p.next) ≡ tally a (told_of b at m p.old) = p.told a home in
      let before : tally a (told_of b at m (f.far m)) ≡ tally a (told_of b at m p.old) =
      ap (λ (x : Far). tally a (told_of b at m x)) p.was in
      omega (arith, news_same, same, before));
  apart = λ k a alive other away. same_news k a;
  says = [];
  says_own = All-nil (λ (c : App). (at c).0 ≡ m.0);
  ordered = λ n q apart strange.
      (λ i. onto (all_said (no_more m q i)) (p.ordered q (λ c is. (strange c is).1) i))
      ∙ ap (λ (x : Far). come f.tokens x m q) (sym p.was);
  hears = λ k q there_is apart. ap all_said (no_more k q) ∙ sym (append-nil (heard k q f.tokens));
  says_so = λ q own. p.said q own ∙ ap (λ (x : Far). filter q (told_of b at m x)) (sym p.was);
  tells = p.tells ∙ ap (λ (x : Far). tale b at m x.how x.done ++ p.seen) (sym p.was);
  mine = p.own;
}
  where
    same_news : (k : Node) (a : App) → total (news_of k a) (p.rest ++ p.more) ≡ total (news_of k a) f.tokens
    same_news k a = more_total m (news_of k a) f.tokens p.rest p.more (λ t mine. no_news m k a t mine) p.left_by p.mine

    no_more : (k : Node) (q : App → Bool) → filter (is_news k q) (p.rest ++ p.more) ≡ filter (is_news k q) f.tokens
    no_more k q = more_filter m (is_news k q) f.tokens p.rest p.more (λ t mine. never_news m k q t mine) p.left_by p.mine

-- ---- where a node is

pub live_there : {b : SystemView} {at : App → Node} {left : ℕ} {u : SystemView} (f : Stage b at left u) (m : Node) (old : Far)
    → 1 ≤ count_of m b.alive → f.far m ≡ old → live_at u m ≡ Some (live b at m old)
live_there {b} {at} f m old alive was =
    ap (λ (o : Option Cell). option_and_then live_in o) (f.here m alive) ∙ ap (λ (x : Far). Some (live b at m x)) was

-- what is sent to itself passes there
abbrev filter_by : Bool → Token → List Token
filter_by c t = cond c (t ∷ []) []

passes : (m : Node) (t : Token) → filter_by (m.0 == m.0) t ≡ t ∷ []
passes m t = ap (λ (c : Bool). filter_by c t) (eq-eqb m.0 m.0 refl)

pub voices_pass : (m : Node) (how : How) → filter (is_voice m) (voices m how) ≡ voices m how
voices_pass m unbegun = refl
voices_pass m (asks a r) = passes m (start m a r)
voices_pass m (requests a r) = refl
voices_pass m (stands a r) = refl
voices_pass m (starts a r) = passes m (yes m a)
voices_pass m (learns a r) = passes m (there m a)
voices_pass m (reports a r) = passes m (report m a)
voices_pass m answered = passes m (answer m)
voices_pass m over = refl

pub voices_mine : (m : Node) (how : How) → All (IsMine m) (voices m how)
voices_mine m unbegun = All-nil (IsMine m)
voices_mine m (asks a r) = All-cons (IsMine m) (start m a r) [] (refl, refl) (All-nil (IsMine m))
voices_mine m (requests a r) = All-nil (IsMine m)
voices_mine m (stands a r) = All-nil (IsMine m)
voices_mine m (starts a r) = All-cons (IsMine m) (yes m a) [] (refl, refl) (All-nil (IsMine m))
voices_mine m (learns a r) = All-cons (IsMine m) (there m a) [] (refl, refl) (All-nil (IsMine m))
voices_mine m (reports a r) = All-cons (IsMine m) (report m a) [] (refl, refl) (All-nil (IsMine m))
voices_mine m answered = All-cons (IsMine m) (answer m) [] (refl, refl) (All-nil (IsMine m))
voices_mine m over = All-nil (IsMine m)

pub voices_no_inner : (m k : Node) (how : How) → filter (is_inner k) (voices m how) ≡ []
voices_no_inner m k unbegun = refl
voices_no_inner m k (asks a r) = refl
voices_no_inner m k (requests a r) = refl
voices_no_inner m k (stands a r) = refl
voices_no_inner m k (starts a r) = refl
voices_no_inner m k (learns a r) = refl
voices_no_inner m k (reports a r) = refl
voices_no_inner m k answered = refl
voices_no_inner m k over = refl
