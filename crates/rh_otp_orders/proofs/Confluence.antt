-- Orderly nodes end alike.
use Rattle.std.proofs.Common.{◌≡◌, ◌≤◌, ℕ, suc, [], refl, sym, subst, ◌∙◌, inl, inr, arith}
use Rattle.rh_otp_system.specs.Moves.{Delivers, Reaches, here, behind_one, IsSettled, settled}
use Rattle.rh_otp_system.specs.State.{SystemView}
use Rattle.rh_otp_system.proofs.Moving.{settles}
use Rattle.rh_otp_laws.specs.Acting.{Acts, moves, acts, later, IsReached}
use Rattle.rh_otp_laws.specs.Acting.{settles as forgets_answers}
use Rattle.rh_otp_orders.specs.Orders.{AreAlike}
use Rattle.rh_otp_orders.specs.Confluence.{Meet, IsOrderly, Moves, none, one_more, OrderlyNodesEndAlike, EveryPickEndsAlike}
use Rattle.rh_otp_orders.proofs.Moving.{move_alike}
use Rattle.rh_otp_orders.proofs.Reaching.{alike_back}

-- ---- alike

pub alike_itself : (s : SystemView) → AreAlike s s
alike_itself s = record {
  cluster = refl;
  files = refl;
  nodes = refl;
  clock = refl;
  step = refl;
  last_call = refl;
  alive = refl;
  links = refl;
  locks = refl;
  calls = refl;
  asleep = refl;
  told = refl;
  answers = λ pair. refl;
  is_ticking = refl;
  ends_soon = refl;
  messages = λ pair. refl;
  timers = λ o. refl;
  slow = λ o. refl;
  events = λ o. refl;
}

pub alike_and_alike : (s t u : SystemView) → AreAlike s t → AreAlike t u → AreAlike s u
alike_and_alike s t u f g = record {
  cluster = f.cluster ∙ g.cluster;
  files = f.files ∙ g.files;
  nodes = f.nodes ∙ g.nodes;
  clock = f.clock ∙ g.clock;
  step = f.step ∙ g.step;
  last_call = f.last_call ∙ g.last_call;
  alive = f.alive ∙ g.alive;
  links = f.links ∙ g.links;
  locks = f.locks ∙ g.locks;
  calls = f.calls ∙ g.calls;
  asleep = f.asleep ∙ g.asleep;
  told = f.told ∙ g.told;
  answers = λ pair. f.answers pair ∙ g.answers pair;
  is_ticking = f.is_ticking ∙ g.is_ticking;
  ends_soon = f.ends_soon ∙ g.ends_soon;
  messages = λ pair. f.messages pair ∙ g.messages pair;
  timers = λ o. f.timers o ∙ g.timers o;
  slow = λ o. f.slow o ∙ g.slow o;
  events = λ o. f.events o ∙ g.events o;
}

-- ---- runs, by their length

pub counted : (s t : SystemView) → Reaches s t → (n : ℕ) × Moves n s t
counted _ _ (here s) = (0, none s)
counted _ _ (behind_one s t u one rest) =
    let more : (n : ℕ) × Moves n t u = counted t u rest in (suc more.0, one_more more.0 s t u one more.1)

pub reached_by : (s t : SystemView) → Delivers s t → IsReached s → IsReached t
reached_by s t one reached = later s t reached (acts s t (subst (Acts s) (sym one.2) (moves s one.0 one.1)))

orderly_on : (s t : SystemView) → Delivers s t → IsOrderly s → IsOrderly t
orderly_on s t one orderly p q r reaches = orderly p q r (behind_one s t p one reaches)

-- as many moves of a system that is alike
pub alike_moves : (n : ℕ) (s s' t : SystemView) → AreAlike s s' → IsReached s → Moves n s t → (t' : SystemView) × Moves n s' t' × AreAlike t t'
alike_moves _ _ s' _ same reached (none s) = (s', none s', same)
alike_moves _ _ s' _ same reached (one_more n s u t one rest) =
    let first : (u' : SystemView) × Delivers s' u' × AreAlike u u' = move_alike s s' u same reached one in
    let more : (t' : SystemView) × Moves n first.0 t' × AreAlike t t' = alike_moves n u first.0 t first.2 (reached_by s u one reached) rest in
    (more.0, one_more n s' first.0 more.0 first.1 more.1, more.2)

pub rest_is_alike : (s s' : SystemView) → AreAlike s s' → IsReached s' → IsSettled s → IsSettled s'
rest_is_alike s s' same reached settled next possible =
    let on = move_alike s' s _ (alike_back s s' same) reached (next, possible, refl) in
    settled on.1.0 on.1.1

-- nothing comes of what is at rest
at_rest : (n : ℕ) (s t : SystemView) → Moves n s t → IsSettled s → (n ≡ 0) × (t ≡ s)
at_rest _ _ _ (none s) settled = (refl, refl)
at_rest _ _ _ (one_more n s u t one rest) settled = absurd (settled one.0 one.1)

-- ---- behind any first move one move less is left

-- from here so many moves lead to rest, which is alike to this
record Left (n : ℕ) (q t : SystemView) : Type 0 where
  count : ℕ
  less : n ≡ suc count
  end : SystemView
  run : Moves count q end
  same : AreAlike t end

left : (n : ℕ) (p q t : SystemView) → IsReached p → IsOrderly p → Moves n p t → IsSettled t → Delivers p q → Left n q t
left _ _ q _ reached orderly (none p) settled one = absurd (settled one.0 one.1)
left _ _ q _ reached orderly (one_more n p p1 t first rest) settled one =
    meets (orderly p p1 q (here p) first one)
    (λ v to_v. left n p1 v t (reached_by p p1 first reached) (orderly_on p p1 first orderly) rest settled to_v)
  where
    reached1 : IsReached p1
    reached1 = reached_by p p1 first reached

    meets : Meet p1 q → ((v : SystemView) → Delivers p1 v → Left n v t) → Left (suc n) q t
    meets (inl same) less =
        let more : (t' : SystemView) × Moves n q t' × AreAlike t t' = alike_moves n p1 q t same reached1 rest in
        record { count = n; less = refl; end = more.0; run = more.1; same = more.2 }
    meets (inr (v, w, to_v, to_w, same)) less =
        let shorter : Left n v t = less v to_v in
        let across : (t' : SystemView) × Moves shorter.count w t' × AreAlike shorter.end t' =
        alike_moves shorter.count v w shorter.end same (reached_by p1 v to_v reached1) shorter.run in
        record {
          count = n;
          less = refl;
          end = across.0;
          run = subst (λ (k : ℕ). Moves k q across.0) (sym shorter.less) (one_more shorter.count q w across.0 to_w across.1);
          same = alike_and_alike t shorter.end across.0 shorter.same across.2;
        }

pub reached_on : (n : ℕ) (s t : SystemView) → Moves n s t → IsReached s → IsReached t
reached_on _ _ _ (none s) reached = reached
reached_on _ _ _ (one_more n s u t one rest) reached = reached_on n u t rest (reached_by s u one reached)

-- ---- every order ends alike

end_alike : (k n : ℕ) (s t u : SystemView) → IsReached s → IsOrderly s → Moves n s t → IsSettled t → Moves k s u → IsSettled u → AreAlike t u
end_alike _ n _ t _ reached orderly run settled (none s) at =
    subst (λ (x : SystemView). AreAlike x s) (sym (at_rest n s t run at).1) (alike_itself s)
end_alike _ n _ t _ reached orderly run settled (one_more k s q u first rest) at =
    let behind : Left n q t = left n s q t reached orderly run settled first in
    let reached_q : IsReached q = reached_by s q first reached in
    let settled_end : IsSettled behind.end = rest_is_alike t behind.end behind.same (reached_on behind.count q behind.end behind.run reached_q) settled in
    alike_and_alike t behind.end u behind.same
    (end_alike k behind.count q behind.end u reached_q (orderly_on s q first orderly) behind.run settled_end rest at)

no_longer : (k n : ℕ) (s t u : SystemView) → IsReached s → IsOrderly s → Moves n s t → IsSettled t → Moves k s u → k ≤ n
no_longer _ n _ t _ reached orderly run settled (none s) = omega arith
no_longer _ n _ t _ reached orderly run settled (one_more k s q u first rest) =
    let behind : Left n q t = left n s q t reached orderly run settled first in
    let reached_q : IsReached q = reached_by s q first reached in
    let settled_end : IsSettled behind.end = rest_is_alike t behind.end behind.same (reached_on behind.count q behind.end behind.run reached_q) settled in
    let most : k ≤ behind.count = no_longer k behind.count q behind.end u reached_q (orderly_on s q first orderly) behind.run settled_end rest in
    let less : n ≡ suc behind.count = behind.less in
    omega (arith, most, less)

pub orderly_alike : OrderlyNodesEndAlike
orderly_alike s reached orderly = record {
  alike = λ t u to_t at_t to_u at_u.
      let run : (n : ℕ) × Moves n s t = counted s t to_t in
      let other : (k : ℕ) × Moves k s u = counted s u to_u in
      end_alike other.0 run.0 s t u reached orderly run.1 at_t other.1 at_u;
  no_longer = λ n k t u run at other. no_longer k n s t u reached orderly run at other;
}

pub picks_alike : EveryPickEndsAlike
picks_alike s most one other reached orderly quiet quiet_too =
    let first : SystemView = record s { answers = [] } in
    (orderly_alike first (later s first reached (forgets_answers s)) orderly).alike
    (settled most one s) (settled most other s) (settles most one s).0 ((settles most one s).1 quiet) (settles most other s).0
    ((settles most other s).1 quiet_too)
