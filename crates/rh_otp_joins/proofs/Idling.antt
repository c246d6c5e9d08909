-- Connections that are there already change nothing of how it ends, whenever they come about.
use Rattle.std.proofs.Common.{◌≡◌, ◌≤◌, ◌<◌, ◌⊎◌, ◌+◌, ◌++◌, ◌&&◌, ℕ, zero, suc, Bool, true, false, cond, List, [], ◌∷◌, map, length, Option, Some, None, slice_get, refl, sym, ap, subst, ◌∙◌, inl, inr, arith}
use Rattle.std.specs.List.{remove}
use Rattle.std.specs.Prelude.{All}
use Rattle.std.proofs.lemmas.Bool.{and_from, and_parts, false≢true}
use Rattle.std.proofs.lemmas.List.Elements.{All-nil, All-cons, All-head, All-tail}
use Rattle.rh_model.specs.declared.node.Node.{Node}
use Rattle.rh_otp_net.specs.declared.links.Link.{Link}
use Rattle.rh_otp_net.specs.Links.{are_linked, to_connect}
use Rattle.rh_otp_system.specs.declared.moves.Move.{Move}
use Rattle.rh_otp_system.specs.declared.moves.Move.TheVariants as move
use Rattle.rh_otp_system.specs.declared.slow.Slow.{Slow}
use Rattle.rh_otp_system.specs.Connecting.{connect, link, with_slow_links}
use Rattle.rh_otp_system.specs.Delivering.{slowed}
use Rattle.rh_otp_system.specs.Moves.{made, slow_done, slow_done_if, Delivers, Reaches, here, behind_one, IsPossible, IsQuiet, IsSettled}
use Rattle.rh_otp_system.specs.State.{SystemView, is_alive_at}
use Rattle.rh_otp_laws.specs.Acting.{IsReached}
use Rattle.rh_otp_laws.proofs.Hanging.{settled_stays_so}
use Rattle.rh_otp_laws.proofs.Listing.{alive_listed}
use Rattle.rh_otp_laws.proofs.Lives.{moved_none}
use Rattle.rh_otp_orders.specs.Confluence.{Moves, none, one_more}
use Rattle.rh_otp_orders.proofs.Confluence.{counted, reached_by}
use Rattle.rh_otp_joins.specs.Joins.{connect_of, IsDoneAlready, ConnectionsThereEndAlike}
use Rattle.rh_otp_joins.proofs.Connected.{Stay, moved}
use Rattle.rh_otp_joins.proofs.Fronts.{front, slows, delivers}

abbrev pub fronted : List Link → SystemView → SystemView
fronted connects s = front (map connect_of connects) s

-- ---- they do nothing

pub does_nothing : (l : Link) (s : SystemView) → IsDoneAlready s l → slowed (connect_of l) s ≡ s
unfolding slowed connect
does_nothing l s done = by (is_alive_at s l.0 && is_alive_at s l.1) done
  where
    by : (b : Bool) → (b ≡ true → are_linked l.0 l.1 s.links ≡ true)
        → cond b (cond (are_linked l.0 l.1 s.links) s (with_slow_links (to_connect l.0 l.1 s.links) (link l.0 l.1 s))) s ≡ s
    by true done = ap (λ (c : Bool). cond c s (with_slow_links (to_connect l.0 l.1 s.links) (link l.0 l.1 s))) (done refl)
    by false done = refl

-- and so it stays
alive_before : (s : SystemView) (next : Move) (m : Node) → is_alive_at (made next s) m ≡ true → is_alive_at s m ≡ true
alive_before s next m alive = by (is_alive_at s m) refl
  where
    by : (b : Bool) → is_alive_at s m ≡ b → b ≡ true
    by true is = refl
    by false is = absurd (false≢true (sym ((moved_none s next m).1 is) ∙ alive))

still_done : (s : SystemView) (next : Move) (connects : List Link) → IsReached s → IsPossible s next → All (IsDoneAlready s) connects
    → All (IsDoneAlready (made next s)) connects
still_done s next [] reached possible done = All-nil (IsDoneAlready (made next s))
still_done s next (l ∷ connects) reached possible done =
    All-cons (IsDoneAlready (made next s)) l connects one
    (still_done s next connects reached possible (All-tail (IsDoneAlready s) l connects done))
  where
    stays : Stay s (made next s)
    stays = moved next s (λ n among. ((alive_listed s reached).exactly n).0 among) possible

    one : IsDoneAlready (made next s) l
    one both =
        let parts : (is_alive_at (made next s) l.0 ≡ true) × (is_alive_at (made next s) l.1 ≡ true) = and_parts _ _ both in
        stays.kept l.0 l.1 parts.0 parts.1
        (All-head (IsDoneAlready s) l connects done
        (and_from (is_alive_at s l.0) (is_alive_at s l.1) (alive_before s next l.0 parts.0) (alive_before s next l.1 parts.1)))

-- ---- what comes about is one of them, or something behind them

record OneFirst (P : Link → Type 0) (connects : List Link) (slow : List Slow) (place : ℕ) : Type 0 where
  link : Link
  rest : List Link
  is : slice_get (map connect_of connects ++ slow) place ≡ Some (connect_of link)
  left : remove (map connect_of connects ++ slow) place ≡ map connect_of rest ++ slow
  holds : P link
  hold : All P rest
  long : length connects ≡ suc (length rest)

record OneBehind (connects : List Link) (slow : List Slow) (place : ℕ) : Type 0 where
  at : ℕ
  within : at < length slow
  is : slice_get (map connect_of connects ++ slow) place ≡ slice_get slow at
  left : remove (map connect_of connects ++ slow) place ≡ map connect_of connects ++ remove slow at

split : (P : Link → Type 0) (connects : List Link) (slow : List Slow) (place : ℕ) → place < length (map connect_of connects ++ slow)
    → All P connects → OneFirst P connects slow place ⊎ OneBehind connects slow place
split P [] slow place within hold = inr (record { at = place; within = within; is = refl; left = refl })
split P (l ∷ connects) slow zero within hold = inl (record {
  link = l;
  rest = connects;
  is = refl;
  left = refl;
  holds = All-head P l connects hold;
  hold = All-tail P l connects hold;
  long = refl;
})
split P (l ∷ connects) slow (suc place) within hold =
    by (split P connects slow place (omega (arith, within)) (All-tail P l connects hold))
  where
    by : OneFirst P connects slow place ⊎ OneBehind connects slow place
        → OneFirst P (l ∷ connects) slow (suc place) ⊎ OneBehind (l ∷ connects) slow (suc place)
    by (inl f) = inl (record {
      link = f.link;
      rest = l ∷ f.rest;
      is = f.is;
      left = ap (λ (x : List Slow). connect_of l ∷ x) f.left;
      holds = f.holds;
      hold = All-cons P l f.rest (All-head P l connects hold) f.hold;
      long = let more : length connects ≡ suc (length f.rest) = f.long in omega (arith, more);
    })
    by (inr b) = inr (record { at = b.at; within = b.within; is = b.is; left = ap (λ (x : List Slow). connect_of l ∷ x) b.left })

-- one of them has come about, or something else, as if they weren't there
record Fewer (connects : List Link) (s u : SystemView) : Type 0 where
  rest : List Link
  is : u ≡ fronted rest s
  done : All (IsDoneAlready s) rest
  long : length connects ≡ suc (length rest)

record Besides (connects : List Link) (s u : SystemView) : Type 0 where
  on : SystemView
  move : Delivers s on
  is : u ≡ fronted connects on
  done : All (IsDoneAlready on) connects

none_in_front : (connects : List Link) (s : SystemView) → map connect_of connects ++ s.slow ≡ [] → connects ≡ []
none_in_front [] s is = refl
none_in_front (l ∷ connects) s is =
    absurd (let long : suc (length (map connect_of connects ++ s.slow)) ≡ 0 = ap length is in omega (arith, long))

-- where none is left nothing stands in front
alone : (connects : List Link) (s : SystemView) (next : Move) → IsReached s → All (IsDoneAlready s) connects
    → IsPossible (fronted connects s) next → connects ≡ [] → Besides connects s (made next (fronted connects s))
alone [] s next reached done possible is = record {
  on = made next s;
  move = (next, possible, refl);
  is = refl;
  done = All-nil (IsDoneAlready (made next s));
}
alone (l ∷ connects) s next reached done possible is =
    absurd (let long : suc (length connects) ≡ 0 = ap length is in omega (arith, long))

comes : (connects : List Link) (s : SystemView) (next : Move) → IsReached s → All (IsDoneAlready s) connects → IsPossible (fronted connects s) next
    → Fewer connects s (made next (fronted connects s)) ⊎ Besides connects s (made next (fronted connects s))
unfolding made
comes connects s (move.Deliver place) reached done possible =
    inr (record {
      on = made (move.Deliver place) s;
      move = (move.Deliver place, possible, refl);
      is = delivers (map connect_of connects) place s;
      done = still_done s (move.Deliver place) connects reached possible done;
    })
comes connects s (move.Slow place) reached done possible =
    by (split (IsDoneAlready s) connects s.slow place possible.1 done)
  where
    u : SystemView
    u = fronted connects s

    by : OneFirst (IsDoneAlready s) connects s.slow place ⊎ OneBehind connects s.slow place
        → Fewer connects s (slow_done place u) ⊎ Besides connects s (slow_done place u)
    by (inl f) = inl (record {
      rest = f.rest;
      is = ap (λ (o : Option Slow). slow_done_if place o u) f.is
          ∙ ap (λ (l : List Slow). slowed (connect_of f.link) (record s { slow = l })) f.left
          ∙ does_nothing f.link (fronted f.rest s) f.holds;
      done = f.hold;
      long = f.long;
    })
    by (inr b) = inr (record {
      on = made (move.Slow b.at) s;
      move = (move.Slow b.at, (possible.0, b.within), refl);
      is = ap (λ (o : Option Slow). slow_done_if place o u) b.is ∙ behind (slice_get s.slow b.at) refl;
      done = still_done s (move.Slow b.at) connects reached (possible.0, b.within) done;
    })
      where
        behind : (o : Option Slow) → slice_get s.slow b.at ≡ o
            → slow_done_if place (slice_get s.slow b.at) u ≡ fronted connects (slow_done_if b.at (slice_get s.slow b.at) s)
        behind None is =
            ap (λ (x : Option Slow). slow_done_if place x u) is
            ∙ sym (ap (λ (x : Option Slow). fronted connects (slow_done_if b.at x s)) is)
        behind (Some what) is =
            ap (λ (x : Option Slow). slow_done_if place x u) is
            ∙ ap (λ (l : List Slow). slowed what (record s { slow = l })) b.left
            ∙ slows (map connect_of connects) what (record s { slow = remove s.slow b.at })
            ∙ sym (ap (λ (x : Option Slow). fronted connects (slow_done_if b.at x s)) is)
comes connects s (move.Lock n) reached done possible =
    inr (alone connects s (move.Lock n) reached done possible (none_in_front connects s possible.0.1))
comes connects s (move.Call place) reached done possible =
    inr (alone connects s (move.Call place) reached done possible (none_in_front connects s possible.0.1))
comes connects s (move.End n) reached done possible =
    inr (alone connects s (move.End n) reached done possible (none_in_front connects s possible.0.1))

-- ---- so it ends as without them

-- it comes to rest as without them, by as many moves more
record RestsToo (k : ℕ) (connects : List Link) (s v : SystemView) : Type 0 where
  count : ℕ
  many : k ≡ length connects + count
  run : Moves count s v

rests_too : (k : ℕ) (connects : List Link) (s u v : SystemView) → u ≡ fronted connects s → IsReached s → All (IsDoneAlready s) connects
    → Moves k u v → IsSettled v → RestsToo k connects s v
rests_too _ connects s _ _ is reached done (none u) rest =
    let quiet : IsQuiet u = (settled_stays_so u u rest (here u)).0 in
    let no_more : connects ≡ [] = none_in_front connects s (sym (ap (λ (x : SystemView). x.slow) is) ∙ quiet.1) in
    record {
      count = 0;
      many = (let long : 0 ≡ length connects = ap length (sym no_more) in omega (arith, long));
      run = subst (Moves 0 s) (sym (is ∙ ap (λ (l : List Link). fronted l s) no_more)) (none s);
    }
rests_too _ connects s _ _ is reached done (one_more k u w v one more) rest =
    by (comes connects s one.0 reached done (subst (λ (x : SystemView). IsPossible x one.0) is one.1))
    (λ left w_is done. rests_too k left s w v w_is reached done more rest)
    (λ on to w_is done. rests_too k connects on w v w_is (reached_by s on to reached) done more rest)
  where
    w_so : w ≡ made one.0 (fronted connects s)
    w_so = one.2 ∙ ap (made one.0) is

    by : Fewer connects s (made one.0 (fronted connects s)) ⊎ Besides connects s (made one.0 (fronted connects s))
        → ((left : List Link) → w ≡ fronted left s → All (IsDoneAlready s) left → RestsToo k left s v)
        → ((on : SystemView) → Delivers s on → w ≡ fronted connects on → All (IsDoneAlready on) connects → RestsToo k connects on v)
        → RestsToo (suc k) connects s v
    by (inl f) fewer besides =
        let so : RestsToo k f.rest s v = fewer f.rest (w_so ∙ f.is) f.done in
        let many : k ≡ length f.rest + so.count = so.many in
        let long : length connects ≡ suc (length f.rest) = f.long in
        record { count = so.count; many = omega (arith, many, long); run = so.run }
    by (inr b) fewer besides =
        let so : RestsToo k connects b.on v = besides b.on b.move (w_so ∙ b.is) b.done in
        let many : k ≡ length connects + so.count = so.many in
        record { count = suc so.count; many = omega (arith, many); run = one_more so.count s b.on v b.move so.run }

-- whatever comes of it is no longer than with them
record Within (k : ℕ) (connects : List Link) (s : SystemView) : Type 0 where
  count : ℕ
  most : k ≤ length connects + count
  end : SystemView
  run : Moves count s end

within : (k : ℕ) (connects : List Link) (s u v : SystemView) → u ≡ fronted connects s → IsReached s → All (IsDoneAlready s) connects
    → Moves k u v → Within k connects s
within _ connects s _ _ is reached done (none u) = record { count = 0; most = omega arith; end = s; run = none s }
within _ connects s _ _ is reached done (one_more k u w v one more) =
    by (comes connects s one.0 reached done (subst (λ (x : SystemView). IsPossible x one.0) is one.1))
    (λ left w_is done. within k left s w v w_is reached done more)
    (λ on to w_is done. within k connects on w v w_is (reached_by s on to reached) done more)
  where
    w_so : w ≡ made one.0 (fronted connects s)
    w_so = one.2 ∙ ap (made one.0) is

    by : Fewer connects s (made one.0 (fronted connects s)) ⊎ Besides connects s (made one.0 (fronted connects s))
        → ((left : List Link) → w ≡ fronted left s → All (IsDoneAlready s) left → Within k left s)
        → ((on : SystemView) → Delivers s on → w ≡ fronted connects on → All (IsDoneAlready on) connects → Within k connects on)
        → Within (suc k) connects s
    by (inl f) fewer besides =
        let so : Within k f.rest s = fewer f.rest (w_so ∙ f.is) f.done in
        let most : k ≤ length f.rest + so.count = so.most in
        let long : length connects ≡ suc (length f.rest) = f.long in
        record { count = so.count; most = omega (arith, most, long); end = so.end; run = so.run }
    by (inr b) fewer besides =
        let so : Within k connects b.on = besides b.on b.move (w_so ∙ b.is) b.done in
        let most : k ≤ length connects + so.count = so.most in
        record { count = suc so.count; most = omega (arith, most); end = so.end; run = one_more so.count s b.on so.end b.move so.run }

reaches_by : (k : ℕ) (s t : SystemView) → Moves k s t → Reaches s t
reaches_by _ _ _ (none s) = here s
reaches_by _ _ _ (one_more k s u t one more) = behind_one s u t one (reaches_by k u t more)

pub there_already : ConnectionsThereEndAlike
there_already s connects reached done ends = record {
  alike = λ t u to_t at_t to_u at_u.
      let run : (n : ℕ) × Moves n (fronted connects s) t = counted (fronted connects s) t to_t in
      let other : (k : ℕ) × Moves k (fronted connects s) u = counted (fronted connects s) u to_u in
      let one : RestsToo run.0 connects s t = rests_too run.0 connects s (fronted connects s) t refl reached done run.1 at_t in
      let two : RestsToo other.0 connects s u = rests_too other.0 connects s (fronted connects s) u refl reached done other.1 at_u in
      ends.alike t u (reaches_by one.count s t one.run) at_t (reaches_by two.count s u two.run) at_u;
  no_longer = λ n k t u run at_t other.
      let one : RestsToo n connects s t = rests_too n connects s (fronted connects s) t refl reached done run at_t in
      let two : Within k connects s = within k connects s (fronted connects s) u refl reached done other in
      let less : two.count ≤ one.count = ends.no_longer one.count two.count t two.end one.run at_t two.run in
      let many : n ≡ length connects + one.count = one.many in
      let most : k ≤ length connects + two.count = two.most in
      omega (arith, less, many, most);
}

-- what stands behind them is reached
pub drained : (connects : List Link) (s : SystemView) → IsReached (fronted connects s) → s.messages ≡ [] → All (IsDoneAlready s) connects
    → IsReached s
unfolding made
drained [] s reached quiet done = reached
drained (l ∷ connects) s reached quiet done =
    drained connects s
    (reached_by (fronted (l ∷ connects) s) (fronted connects s)
    (move.Slow 0, (quiet, omega arith), sym (does_nothing l (fronted connects s) (All-head (IsDoneAlready s) l connects done))) reached)
    quiet (All-tail (IsDoneAlready s) l connects done)
