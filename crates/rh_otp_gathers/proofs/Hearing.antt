-- A node is told that another one is up: it waits on, or joins where it was the last one; and where its wait is over nothing comes of it.
use Rattle.std.proofs.Common.{◌≡◌, ◌≢◌, ◌≤◌, ◌⊎◌, ◌+◌, ◌++◌, ◌==◌, ◌&&◌, ◌||◌, ℕ, suc, Bool, true, false, cond, List, [], ◌∷◌, map, length, Option, Some, refl, sym, ap, subst, ◌∙◌, inl, inr, arith}
use Rattle.std.specs.Option.{option_and_then}
use Rattle.std.specs.Prelude.{All, if◌then◌else◌}
use Rattle.std.proofs.lemmas.Bool.{eq-eqb, ne_eqb, or_right}
use Rattle.std.proofs.lemmas.List.{append_assoc, map-append}
use Rattle.std.proofs.lemmas.List.Elements.{All-nil, All-cons, All-append}
use Rattle.rh_model.specs.ClusterView.{is_in}
use Rattle.rh_model.specs.declared.node.Node.{Node}
use Rattle.rh_otp_model.specs.declared.message.Message.{Message}
use Rattle.rh_otp_model.specs.declared.message.Message.TheVariants as message
use Rattle.rh_otp_model.specs.declared.output.Envelope.{Envelope}
use Rattle.rh_otp_model.specs.declared.output.Event.{Event}
use Rattle.rh_otp_model.specs.declared.output.Event.TheVariants as event
use Rattle.rh_otp_node.specs.declared.node.Phase.{Phase}
use Rattle.rh_otp_node.specs.Kernel as kernel
use Rattle.rh_otp_node.specs.Kernel.{without_node}
use Rattle.rh_otp_node.specs.Live.{LiveView, is_alive, is_up, is_down}
use Rattle.rh_otp_system.specs.declared.cell.Cell.{Cell}
use Rattle.rh_otp_system.specs.declared.cell.Cell.TheVariants as cell
use Rattle.rh_otp_system.specs.declared.slow.Slow.{Slow}
use Rattle.rh_otp_system.specs.declared.slow.Slow.TheVariants as slow
use Rattle.rh_otp_system.specs.Delivering.{arrived}
use Rattle.rh_otp_system.specs.Joining.{go_on, join, has_seen}
use Rattle.rh_otp_system.specs.State.{SystemView, live_in, live_at, node_at, with_node, has_dist_at}
use Rattle.rh_otp_laws.proofs.Nodes.{node_written, written_elsewhere}
use Rattle.rh_otp_orders.proofs.Changing.{set_there}
use Rattle.rh_otp_orders.proofs.Same.{cell_at}
use Rattle.rh_otp_crashes.proofs.Peace.{without, arrives_alive}
use Rattle.rh_otp_crashes.proofs.Turning.{node_is}
use Rattle.rh_otp_joins.proofs.Going.{the_others}
use Rattle.rh_otp_joins.proofs.Lists.{more_if, count_of}
use Rattle.rh_otp_joins.proofs.Mailing.{words}
use Rattle.rh_otp_joins.proofs.Opened.{up_letter}
use Rattle.rh_otp_joins.proofs.Taking.{count_more}
use Rattle.rh_otp_joins.proofs.Meeting.{other_count, own_count}
use Rattle.rh_otp_joins.proofs.Waiting.{waiter, covers_mandatory, covers_optional, none_listed, not_up}
use Rattle.rh_otp_gathers.proofs.Joining.{go_if, joins_so}
use Rattle.rh_otp_gathers.proofs.Stages.{told_in, friends, letter, Gathering, with_early, joined, Marks, Waits, Joined, Gone, one_if, At, unsent, marks, later_weight, weight_of, IsOf, Stage, drawn_all, Step, stepped}
use Rattle.rh_otp_gathers.proofs.Tokens.{Token, up, go, hi, up_of, go_of, hi_of, total, total_more, Drawn, drawn_total, TakenOut, take_out}

-- ---- of whom it is to be told

abbrev pub heard : Node → List Token → List Node
heard m [] = []
heard m (up a y ∷ tokens) = if a.0 == m.0 then y ∷ heard m tokens else heard m tokens
heard m (t ∷ tokens) = heard m tokens

pub heard_count : (m y : Node) (tokens : List Token) → count_of y (heard m tokens) ≡ total (up_of m y) tokens
heard_count m y [] = refl
heard_count m y (up a x ∷ tokens) = by (a.0 == m.0) (heard_count m y tokens)
  where
    one : (c : Bool) (j k : ℕ) → j ≡ k → more_if c j ≡ more_if c 0 + k
    one true j k same = omega (arith, same)
    one false j k same = omega (arith, same)

    by : (c : Bool) → count_of y (heard m tokens) ≡ total (up_of m y) tokens
        → count_of y (if c then x ∷ heard m tokens else heard m tokens) ≡ more_if (c && x.0 == y.0) 0 + total (up_of m y) tokens
    by true same = one (x.0 == y.0) (count_of y (heard m tokens)) (total (up_of m y) tokens) same
    by false same = omega (arith, same)
heard_count m y (go a ∷ tokens) = let same : count_of y (heard m tokens) ≡ total (up_of m y) tokens = heard_count m y tokens in omega (arith, same)
heard_count m y (hi a c ∷ tokens) = let same : count_of y (heard m tokens) ≡ total (up_of m y) tokens = heard_count m y tokens in omega (arith, same)

-- ---- what it does

told_up : (b s : SystemView) (m x : Node) (old : LiveView) → live_at s m ≡ Some old → is_alive old ≡ true → old.life ≡ (node_at b m).life
    → arrived (up_letter m b x).to (message.NodeUp x) s ≡ cond (is_up old) s (go_on m (with_node m (kernel.seen x old) s))
unfolding has_seen
told_up b s m x old there alive life =
    let here : node_at s m ≡ old = node_is s m old there in
    arrives_alive (up_letter m b x).to (message.NodeUp x) s (ap is_alive here ∙ alive) (ap (λ (y : LiveView). y.life) here ∙ life)
    ∙ ap (λ (y : LiveView). cond (is_up y) s (go_on m (with_node m (kernel.seen x y) s))) here

-- it is up already: what it is told of doesn't matter
still_up : (b : SystemView) (m : Node) (c : Option Cell) (k l : Marks) (at : At b m c k) → Joined b m at.left at.later c k ⊎ Gone b m at.left at.later c k
    → l.ups ≡ k.ups → l.gone ≡ k.gone → l.holds ≡ k.holds → l.going ≡ k.going → ((x : Node) → l.sent x ≡ k.sent x) → At b m c l
still_up b m c k l at how ups gone holds going sent = record {
  left = at.left;
  later = at.later;
  counts = λ x. ap (λ (j : ℕ). j + count_of x at.left) (sent x) ∙ at.counts x;
  within = at.within;
  how = inr (by how);
}
  where
    by : Joined b m at.left at.later c k ⊎ Gone b m at.left at.later c k → Joined b m at.left at.later c l ⊎ Gone b m at.left at.later c l
    by (inl j) = inl (record {
      here = j.here;
      all = j.all;
      ups = ups ∙ j.ups;
      gone = gone ∙ j.gone;
      holds = holds ∙ j.holds;
      going = going ∙ j.going;
    })
    by (inr o) = inr (record {
      dist = o.dist;
      has_dist = o.has_dist;
      has = o.has;
      learnt = o.learnt;
      leads = o.leads;
      unmet = o.unmet;
      here = o.here;
      ups = ups ∙ o.ups;
      gone = gone ∙ o.gone;
      holds = λ none. holds ∙ o.holds none;
      going = going ∙ o.going;
    })

abbrev pub go_tokens : Bool → Node → List Token
go_tokens c m = if c then go m ∷ [] else []

module _ {b : SystemView} {g : Gathering b} (weight : ℕ) (u : SystemView) (f : Stage g (suc weight) u) (m x : Node) (rest : List Token)
    (left : List Envelope) (drawn : Drawn (up m x) f.tokens rest) (left_so : left ≡ map (letter b) rest) where
  abbrev pub s : SystemView
  s = without u left

  known : IsOf g.nodes (up m x) × All (IsOf g.nodes) rest
  known = drawn_all (IsOf g.nodes) (up m x) f.tokens rest f.known drawn

  among : 1 ≤ count_of m g.nodes
  among = known.0

  abbrev at : At b m (cell_at u m.0) (marks b f.tokens f.ups f.gone f.holders m)
  at = f.at m among

  abbrev v : LiveView
  v = node_at b m

  abbrev mail : List Message
  mail = words (told_in b) at.left

  going_same : (k : Node) → total (go_of k) f.tokens ≡ total (go_of k) rest
  going_same k =
      let one : total (go_of k) f.tokens ≡ 0 + total (go_of k) rest = drawn_total (go_of k) (up m x) f.tokens rest drawn in
      (let same : total (go_of k) f.tokens ≡ total (go_of k) rest = omega (arith, one) in same)

  sent_same : (k y : Node) → total (hi_of y k) f.tokens ≡ total (hi_of y k) rest
  sent_same k y =
      let one : total (hi_of y k) f.tokens ≡ 0 + total (hi_of y k) rest = drawn_total (hi_of y k) (up m x) f.tokens rest drawn in
      (let same : total (hi_of y k) f.tokens ≡ total (hi_of y k) rest = omega (arith, one) in same)

  hears_less : (k y : Node) → total (up_of k y) f.tokens ≡ more_if (m.0 == k.0 && x.0 == y.0) 0 + total (up_of k y) rest
  hears_less k y = drawn_total (up_of k y) (up m x) f.tokens rest drawn

  hears_same : (k y : Node) → k.0 ≢ m.0 → total (up_of k y) f.tokens ≡ total (up_of k y) rest
  hears_same k y other =
      let one : total (up_of k y) f.tokens ≡ more_if (m.0 == k.0 && x.0 == y.0) 0 + total (up_of k y) rest = hears_less k y in
      let none : more_if (m.0 == k.0 && x.0 == y.0) 0 ≡ 0 =
      ap (λ (c : Bool). more_if (c && x.0 == y.0) 0) (ne_eqb m.0 k.0 (λ same. other (sym same))) in
      (let same : total (up_of k y) f.tokens ≡ total (up_of k y) rest = omega (arith, one, none) in same)

  weighs_less : total (weight_of b) f.tokens ≡ 1 + total (weight_of b) rest
  weighs_less = drawn_total (weight_of b) (up m x) f.tokens rest drawn

  counts_heard : (y : Node) → count_of y (heard m f.tokens) ≡ more_if (x.0 == y.0) (count_of y (heard m rest))
  counts_heard y =
      let one : count_of y (heard m f.tokens) ≡ total (up_of m y) f.tokens = heard_count m y f.tokens in
      let two : count_of y (heard m rest) ≡ total (up_of m y) rest = heard_count m y rest in
      let less : total (up_of m y) f.tokens ≡ more_if (m.0 == m.0 && x.0 == y.0) 0 + total (up_of m y) rest = hears_less m y in
      let here : more_if (m.0 == m.0 && x.0 == y.0) 0 ≡ more_if (x.0 == y.0) 0 =
      ap (λ (c : Bool). more_if (c && x.0 == y.0) 0) (eq-eqb m.0 m.0 refl) in
      more (x.0 == y.0) (count_of y (heard m f.tokens)) (count_of y (heard m rest))
      (omega (arith, one, two, less, here))
    where
      more : (c : Bool) (j k : ℕ) → j ≡ more_if c 0 + k → j ≡ more_if c k
      more true j k is = omega (arith, is)
      more false j k is = omega (arith, is)

  -- it is up
  is_up_already : Joined b m at.left at.later (cell_at u m.0) (marks b f.tokens f.ups f.gone f.holders m)
      ⊎ Gone b m at.left at.later (cell_at u m.0) (marks b f.tokens f.ups f.gone f.holders m)
      → Step f m s
  is_up_already how = record {
    tokens = rest;
    waiting = f.waiting;
    ups = f.ups;
    gone = f.gone;
    holders = f.holders;
    weighs =
        (let all : total (weight_of b) f.tokens + total (later_weight b) f.waiting ≡ suc weight = f.weighs in
        let one : total (weight_of b) f.tokens ≡ 1 + total (weight_of b) rest = weighs_less in
        omega (arith, all, one));
    same = λ i. record (f.same i) { messages = left_so i };
    base = f.base;
    known = known.1;
    each = f.each;
    held = f.held;
    owned = f.owned;
    elsewhere = λ k other. refl;
    still = λ k within other. (λ i. record {
      ups = count_of k f.ups;
      gone = count_of k f.gone;
      holds = count_of k f.holders;
      going = going_same k i;
      hears = λ y. hears_same k y other i;
      sent = λ y. sent_same k y i + unsent (count_of y f.gone) (count_of y (friends b k));
    });
    here = still_up b m (cell_at u m.0) (marks b f.tokens f.ups f.gone f.holders m) (marks b rest f.ups f.gone f.holders m) at how refl refl refl
        (sym (going_same m))
        (λ y. sym (ap (λ (j : ℕ). j + unsent (count_of y f.gone) (count_of y (friends b m))) (sent_same m y)));
  }

  -- it waits on
  waits_on : (w : Waits b m at.left at.later (cell_at u m.0) (marks b f.tokens f.ups f.gone f.holders m)) (ms os : List Node)
      → kernel.waits (waiter v ms os) ≡ true
      → ((y : Node) → more_if (is_in y ms) 0 + more_if (is_in y os) 0 ≤ total (up_of m y) rest)
      → Step f m (with_node m (with_early (waiter v ms os) mail) s)
  waits_on w ms os waits covers = record {
    tokens = rest;
    waiting = f.waiting;
    ups = f.ups;
    gone = f.gone;
    holders = f.holders;
    weighs =
        (let all : total (weight_of b) f.tokens + total (later_weight b) f.waiting ≡ suc weight = f.weighs in
        let one : total (weight_of b) f.tokens ≡ 1 + total (weight_of b) rest = weighs_less in
        omega (arith, all, one));
    same = λ i. record (f.same i) { nodes = (with_node m (with_early (waiter v ms os) mail) s).nodes; messages = left_so i };
    base = f.base;
    known = known.1;
    each = f.each;
    held = f.held;
    owned = f.owned;
    elsewhere = λ k other. written_elsewhere u.nodes.cells m.0 k.0 (cell.Node (with_early (waiter v ms os) mail)) other;
    still = λ k within other. (λ i. record {
      ups = count_of k f.ups;
      gone = count_of k f.gone;
      holds = count_of k f.holders;
      going = going_same k i;
      hears = λ y. hears_same k y other i;
      sent = λ y. sent_same k y i + unsent (count_of y f.gone) (count_of y (friends b k));
    });
    here = record {
      left = at.left;
      later = at.later;
      counts = λ y.
          sym (ap (λ (j : ℕ). j + unsent (count_of y f.gone) (count_of y (friends b m)) + count_of y at.left) (sent_same m y)) ∙ at.counts y;
      within = at.within;
      how = inl (record {
        ms = ms;
        os = os;
        waits = waits;
        covers = covers;
        here = set_there u.nodes.cells m.0 (cell.Node (with_early (waiter v w.ms w.os) mail)) (cell.Node (with_early (waiter v ms os) mail)) w.here;
        all = w.all;
        ups = w.ups;
        gone = w.gone;
        holds = w.holds;
        going = sym (going_same m) ∙ w.going;
      });
    };
  }

  -- it joins
  joins_now : (w : Waits b m at.left at.later (cell_at u m.0) (marks b f.tokens f.ups f.gone f.holders m)) (c : Bool) → has_dist_at b m ≡ c
      → Step f m (record (with_node m (with_early (joined v) mail) s) {
        messages = left ++ go_if c m b;
        slow = u.slow ++ slow.Boot m ∷ [];
        events = u.events ++ event.Up m ∷ [];
      })
  joins_now w c has = record {
    tokens = tokens;
    waiting = out.rest;
    ups = ups;
    gone = f.gone;
    holders = f.holders;
    weighs =
        (let all : total (weight_of b) f.tokens + total (later_weight b) f.waiting ≡ suc weight = f.weighs in
        let one : total (weight_of b) f.tokens ≡ 1 + total (weight_of b) rest = weighs_less in
        let both : total (weight_of b) tokens ≡ total (weight_of b) rest + total (weight_of b) (go_tokens c m) =
        total_more (weight_of b) rest (go_tokens c m) in
        let here : total (later_weight b) f.waiting ≡ later_weight b m + total (later_weight b) out.rest = out.totals (later_weight b) in
        let same : later_weight b m ≡ total (weight_of b) (go_tokens c m) = weighs_go c has in
        omega (arith, all, one, both, here, same));
    same = λ i. record (f.same i) {
      nodes = (with_node m over s).nodes;
      messages = messages_so i;
      slow = slow_so i;
      events = events_so i;
    };
    base = f.base;
    known = All-append (IsOf g.nodes) rest (go_tokens c m) known.1 (known_go c);
    each = λ k.
        (let all : count_of k f.waiting + count_of k f.ups ≡ count_of k g.nodes = f.each k in
        let less : count_of k f.waiting ≡ more_if (m.0 == k.0) (count_of k out.rest) = out.counts k in
        let more : count_of k ups ≡ count_of k f.ups + more_if (m.0 == k.0) 0 = count_more k m f.ups in
        each_so (m.0 == k.0) (count_of k out.rest) (count_of k f.waiting) (count_of k f.ups) (count_of k ups) (count_of k g.nodes) all less more);
    held = f.held;
    owned = f.owned;
    elsewhere = λ k other. written_elsewhere u.nodes.cells m.0 k.0 (cell.Node over) other;
    still = λ k within other. (λ i. record {
      ups = ups_same k other i;
      gone = count_of k f.gone;
      holds = count_of k f.holders;
      going = going_other k other c i;
      hears = λ y. hears_now k y c (hears_same k y other) i;
      sent = λ y. sent_now k y c i + unsent (count_of y f.gone) (count_of y (friends b k));
    });
    here = record {
      left = at.left;
      later = at.later;
      counts = λ y.
          sym (ap (λ (j : ℕ). j + unsent (count_of y f.gone) (count_of y (friends b m)) + count_of y at.left) (sent_now m y c)) ∙ at.counts y;
      within = at.within;
      how = inr (inl (record {
        here = set_there u.nodes.cells m.0 (cell.Node (with_early (waiter v w.ms w.os) mail)) (cell.Node over) w.here;
        all = w.all;
        ups =
            (let more : count_of m ups ≡ count_of m f.ups + more_if (m.0 == m.0) 0 = count_more m m f.ups in
            let one : more_if (m.0 == m.0) 0 ≡ 1 = own_count m in
            let none : count_of m f.ups ≡ 0 = w.ups in
            omega (arith, more, one, none));
        gone = w.gone;
        holds = w.holds;
        going = going_here c ∙ sym (ap one_if has);
      }));
    };
  }
    where
      tokens : List Token
      tokens = rest ++ go_tokens c m

      ups : List Node
      ups = f.ups ++ m ∷ []

      over : LiveView
      over = with_early (joined v) mail

      out : TakenOut m f.waiting
      out =
          take_out m f.waiting
          (let all : count_of m f.waiting + count_of m f.ups ≡ count_of m g.nodes = f.each m in
          let none : count_of m f.ups ≡ 0 = w.ups in
          let some : 1 ≤ count_of m g.nodes = among in
          omega (arith, all, none, some))

      weighs_go : (d : Bool) → has_dist_at b m ≡ d → later_weight b m ≡ total (weight_of b) (go_tokens d m)
      weighs_go true is =
          ap (λ (e : Bool). if e then suc (length (the_others m b)) else 0) is
          ∙ (let same : suc (length (the_others m b)) ≡ suc (length (the_others m b)) + 0 = omega arith in same)
      weighs_go false is = ap (λ (e : Bool). if e then suc (length (the_others m b)) else 0) is

      known_go : (d : Bool) → All (IsOf g.nodes) (go_tokens d m)
      known_go true = All-cons (IsOf g.nodes) (go m) [] among (All-nil (IsOf g.nodes))
      known_go false = All-nil (IsOf g.nodes)

      letters_go : (d : Bool) → go_if d m b ≡ map (letter b) (go_tokens d m)
      letters_go true = refl
      letters_go false = refl

      messages_so : left ++ go_if c m b ≡ map (letter b) tokens
      messages_so = (λ i. left_so i ++ letters_go c i) ∙ sym (map-append (letter b) rest (go_tokens c m))

      slow_so : u.slow ++ slow.Boot m ∷ [] ≡ b.slow ++ map slow.Boot ups
      slow_so =
          ap (λ (z : SystemView). z.slow ++ slow.Boot m ∷ []) f.same
          ∙ append_assoc b.slow (map slow.Boot f.ups) (slow.Boot m ∷ [])
          ∙ ap (λ (l : List Slow). b.slow ++ l) (sym (map-append slow.Boot f.ups (m ∷ [])))

      events_so : u.events ++ event.Up m ∷ [] ≡ b.events ++ map event.Up ups
      events_so =
          ap (λ (z : SystemView). z.events ++ event.Up m ∷ []) f.same
          ∙ append_assoc b.events (map event.Up f.ups) (event.Up m ∷ [])
          ∙ ap (λ (l : List Event). b.events ++ l) (sym (map-append event.Up f.ups (m ∷ [])))

      each_so : (d : Bool) (r w0 o p n : ℕ) → w0 + o ≡ n → w0 ≡ more_if d r → p ≡ o + more_if d 0 → r + p ≡ n
      each_so true r w0 o p n all less more = omega (arith, all, less, more)
      each_so false r w0 o p n all less more = omega (arith, all, less, more)

      ups_same : (k : Node) → k.0 ≢ m.0 → count_of k f.ups ≡ count_of k ups
      ups_same k other =
          let more : count_of k ups ≡ count_of k f.ups + more_if (m.0 == k.0) 0 = count_more k m f.ups in
          let none : more_if (m.0 == k.0) 0 ≡ 0 = other_count m k other in
          (let same : count_of k f.ups ≡ count_of k ups = omega (arith, more, none) in same)

      none_of : (h : Token → ℕ) → h (go m) ≡ 0 → (d : Bool) → total h (go_tokens d m) ≡ 0
      none_of h none true = let is : h (go m) ≡ 0 = none in omega (arith, is)
      none_of h none false = refl

      same_of : (h : Token → ℕ) → h (go m) ≡ 0 → (d : Bool) → total h rest ≡ total h (rest ++ go_tokens d m)
      same_of h none d =
          let both : total h (rest ++ go_tokens d m) ≡ total h rest + total h (go_tokens d m) = total_more h rest (go_tokens d m) in
          let no : total h (go_tokens d m) ≡ 0 = none_of h none d in
          (let same : total h rest ≡ total h (rest ++ go_tokens d m) = omega (arith, both, no) in same)

      going_other : (k : Node) → k.0 ≢ m.0 → (d : Bool) → total (go_of k) f.tokens ≡ total (go_of k) (rest ++ go_tokens d m)
      going_other k other d = going_same k ∙ same_of (go_of k) (other_count m k other) d

      hears_now : (k y : Node) (d : Bool) → total (up_of k y) f.tokens ≡ total (up_of k y) rest
          → total (up_of k y) f.tokens ≡ total (up_of k y) (rest ++ go_tokens d m)
      hears_now k y d same = same ∙ same_of (up_of k y) refl d

      sent_now : (k y : Node) (d : Bool) → total (hi_of y k) f.tokens ≡ total (hi_of y k) (rest ++ go_tokens d m)
      sent_now k y d = sent_same k y ∙ same_of (hi_of y k) refl d

      going_here : (d : Bool) → total (go_of m) (rest ++ go_tokens d m) ≡ one_if d
      going_here d =
          total_more (go_of m) rest (go_tokens d m)
          ∙ ap (λ (j : ℕ). j + total (go_of m) (go_tokens d m)) (sym (going_same m) ∙ w.going)
          ∙ by d
        where
          by : (e : Bool) → 0 + total (go_of m) (go_tokens e m) ≡ one_if e
          by true = let one : more_if (m.0 == m.0) 0 ≡ 1 = own_count m in omega (arith, one)
          by false = refl

  -- with the lists that are left
  goes_on_with : (w : Waits b m at.left at.later (cell_at u m.0) (marks b f.tokens f.ups f.gone f.holders m)) (ms os : List Node)
      → ((y : Node) → more_if (is_in y ms) 0 + more_if (is_in y os) 0 ≤ total (up_of m y) rest)
      → Step f m (go_on m (with_node m (with_early (waiter v ms os) mail) s))
  goes_on_with w ms os covers = subst (Step f m) (sym so) (by (kernel.is_some_node ms) refl (kernel.is_some_node os) refl)
    where
      old : LiveView
      old = with_early (waiter v w.ms w.os) mail

      there : live_at s m ≡ Some old
      there = ap (λ (o : Option Cell). option_and_then live_in o) w.here

      q : SystemView
      q = with_node m (with_early (waiter v ms os) mail) s

      so : go_on m q ≡ cond (kernel.is_some_node ms || kernel.is_some_node os) q (join m q)
      so = ap (λ (y : LiveView). cond (kernel.waits y) q (join m q)) (node_written s m old (with_early (waiter v ms os) mail) there)

      by : (c : Bool) → kernel.is_some_node ms ≡ c → (d : Bool) → kernel.is_some_node os ≡ d → Step f m (cond (c || d) q (join m q))
      by true is d is_too = waits_on w ms os (ap (λ (c : Bool). c || kernel.is_some_node os) is) covers
      by false is true is_too = waits_on w ms os (or_right (kernel.is_some_node ms) (kernel.is_some_node os) is_too) covers
      by false is false is_too =
          subst (Step f m)
          (sym (joins_so m b s mail old there
          ∙ refl) ∙ (λ i. join m (with_node m (with_early (waiter v (sym (none_listed ms is) i) (sym (none_listed os is_too) i)) mail) s)))
          (subst (Step f m) (λ i. record (with_node m (with_early (joined v) mail) s) {
            messages = left ++ go_if (sym has_so i) m b;
            slow = u.slow ++ slow.Boot m ∷ [];
            events = u.events ++ event.Up m ∷ [];
          }) (joins_now w (has_dist_at b m) refl))
        where
          has_so : has_dist_at s m ≡ has_dist_at b m
          has_so = ap (λ (z : SystemView). has_dist_at z m) f.same

  pub hears_up : Stage g weight (arrived (up_letter m b x).to (message.NodeUp x) s)
  hears_up = stepped f m (arrived (up_letter m b x).to (message.NodeUp x) s) among (by at.how)
    where
      by : Waits b m at.left at.later (cell_at u m.0) (marks b f.tokens f.ups f.gone f.holders m)
          ⊎ (Joined b m at.left at.later (cell_at u m.0) (marks b f.tokens f.ups f.gone f.holders m)
          ⊎ Gone b m at.left at.later (cell_at u m.0) (marks b f.tokens f.ups f.gone f.holders m))
          → Step f m (arrived (up_letter m b x).to (message.NodeUp x) s)
      by (inl w) =
          subst (Step f m)
          (sym (told_up b s m x old (ap (λ (o : Option Cell). option_and_then live_in o) w.here)
          (ap (λ (p : Phase). if is_down p then false else true) (g.waits m among)) refl
          ∙ ap (λ (c : Bool). cond c s (go_on m (with_node m (kernel.seen x old) s))) (not_up v.phase (g.waits m among))))
          (seen (is_in x w.ms) refl)
        where
          old : LiveView
          old = with_early (waiter v w.ms w.os) mail

          covers : (y : Node) → more_if (is_in y w.ms) 0 + more_if (is_in y w.os) 0 ≤ count_of y (heard m f.tokens)
          covers y = subst (λ (j : ℕ). more_if (is_in y w.ms) 0 + more_if (is_in y w.os) 0 ≤ j) (sym (heard_count m y f.tokens)) (w.covers y)

          seen : (c : Bool) → is_in x w.ms ≡ c
              → Step f m (go_on m (with_node m (cond c (record old { mandatory = without_node x w.ms }) (record old { optional = without_node x w.os })) s))
          seen true is =
              goes_on_with w (without_node x w.ms) w.os (λ y.
              subst (λ (j : ℕ). more_if (is_in y (without_node x w.ms)) 0 + more_if (is_in y w.os) 0 ≤ j) (heard_count m y rest)
              (covers_mandatory x (heard m f.tokens) (heard m rest) w.ms w.os is counts_heard covers y))
          seen false is =
              goes_on_with w w.ms (without_node x w.os) (λ y.
              subst (λ (j : ℕ). more_if (is_in y w.ms) 0 + more_if (is_in y (without_node x w.os)) 0 ≤ j) (heard_count m y rest)
              (covers_optional x (heard m f.tokens) (heard m rest) w.ms w.os is counts_heard covers y))
      by (inr (inl j)) =
          subst (Step f m)
          (sym (told_up b s m x (with_early (joined v) mail) (ap (λ (o : Option Cell). option_and_then live_in o) j.here) refl refl))
          (is_up_already (inl j))
      by (inr (inr o)) =
          subst (Step f m)
          (sym (told_up b s m x _ (ap (λ (o : Option Cell). option_and_then live_in o) o.here) refl refl))
          (is_up_already (inr o))
