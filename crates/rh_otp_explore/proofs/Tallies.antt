-- What is known of asks behind the lists that were tried, and that these are the first of all.
use Rattle.std.proofs.Common.{◌≡◌, ◌≤◌, ◌<◌, ◌+◌, ◌++◌, ◌⊎◌, inl, inr, ℕ, Bool, true, false, cond, if◌then◌else◌, not, ◌&&◌, ◌||◌, nat_lt, nat_le, List, [], ◌∷◌, map, Option, Some, None, is_some, length, take, refl, sym, ap, ◌∙◌, subst, arith, append_assoc}
use Rattle.std.specs.List.{find, fold, list_all}
use Rattle.std.specs.Option.{option_map, option_or}
use Rattle.std.proofs.lemmas.Bool.Decides.{nat_tests}
use Rattle.std.proofs.lemmas.List.{append-nil, take_all, take-append-le, length_push}
use Rattle.std.proofs.lemmas.List.Folds.{find-append, fold_stays}
use Rattle.std.proofs.lemmas.List.Sums.{fold-append}
use Rattle.rh_base.proofs.Lists.{cases}
use Rattle.rh_explore_text.specs.Asks.{AskView}
use Rattle.rh_otp_explore.specs.Asking.{holds_in}
use Rattle.rh_otp_explore.specs.Listing.{Behind}
use Rattle.rh_otp_explore.specs.Tallying.{AskedView, FailureView, TallyView, failure_of, has_failed, is_over, first_by, judged, tallied, all_tallied, not_failed, nothing_tried}
use Rattle.rh_otp_explore.specs.Searching.{fails_behind, first_failing, asked_of, all_failed}

module _ (states : ℕ) where
  -- ---- one list
  stays : (t : TallyView) (b : Behind) → is_over states t ≡ true → tallied states t b ≡ t
  stays t b over = λ i. if over i then t else record { lists = t.lists + 1; asked = map (judged b) t.asked }

  goes_on : (t : TallyView) (b : Behind) → is_over states t ≡ false
      → tallied states t b ≡ record { lists = t.lists + 1; asked = map (judged b) t.asked }
  goes_on t b left = λ i. if left i then t else record { lists = t.lists + 1; asked = map (judged b) t.asked }

  -- ---- all
  pub all_stay : (t : TallyView) (bs : List Behind) → is_over states t ≡ true → all_tallied states t bs ≡ t
  all_stay t bs over = fold_stays (tallied states) t (λ b. stays t b over) bs

  pub all_on : (t : TallyView) (bs cs : List Behind) → all_tallied states t (bs ++ cs) ≡ all_tallied states (all_tallied states t bs) cs
  all_on t bs cs = fold-append (tallied states) t bs cs

  -- where it isn't over, all were tried
  pub all_tried : (t : TallyView) (bs : List Behind) → is_over states (all_tallied states t bs) ≡ false
      → (all_tallied states t bs).lists ≡ t.lists + length bs
  all_tried t [] left = omega arith
  all_tried t (b ∷ bs) left =
      cases (is_over states t)
      (λ over. absurd (cc (sym left ∙ ap (is_over states) (all_stay t (b ∷ bs) over) ∙ over)))
      (λ free. all_tried (tallied states t b) bs left
      ∙ (let one : (tallied states t b).lists ≡ t.lists + 1 = ap (λ (u : TallyView). u.lists) (goes_on t b free) in omega (arith, one)))

  -- none is forgotten
  pub no_fewer : (t : TallyView) (bs : List Behind) → t.lists ≤ (all_tallied states t bs).lists
  no_fewer t [] = omega arith
  no_fewer t (b ∷ bs) =
      let later = no_fewer (tallied states t b) bs in
      cases (is_over states t)
      (λ over. let same : (tallied states t b).lists ≡ t.lists = ap (λ (u : TallyView). u.lists) (stays t b over) in omega (arith, later, same))
      (λ free. let one : (tallied states t b).lists ≡ t.lists + 1 = ap (λ (u : TallyView). u.lists) (goes_on t b free) in omega (arith, later, one))

-- nor counted twice
module _ (states : ℕ) where
  pub no_more : (t : TallyView) (bs : List Behind) → (all_tallied states t bs).lists ≤ t.lists + length bs
  no_more t [] = omega arith
  no_more t (b ∷ bs) =
      let later = no_more (tallied states t b) bs in
      cases (is_over states t)
      (λ over. let same : (tallied states t b).lists ≡ t.lists = ap (λ (u : TallyView). u.lists) (stays states t b over) in omega (arith, later, same))
      (λ free. let one : (tallied states t b).lists ≡ t.lists + 1 = ap (λ (u : TallyView). u.lists) (goes_on states t b free) in omega (arith, later, one))

-- ---- the first of all

-- an ask behind one list more
first_on : (q : AskView) (b : Behind) (o : Option Behind)
    → first_by q b (option_map failure_of o) ≡ option_map failure_of (option_or o (find (fails_behind q) (b ∷ [])))
first_on q b (Some c) = refl
first_on q b None =
    cases (holds_in q b.sim)
    (λ (holds : holds_in q b.sim ≡ true).
    (λ i. if holds i then None else Some (failure_of b)) ∙ sym (λ i. option_map failure_of (cond (not (holds i)) (Some b) None)))
    (λ (fails : holds_in q b.sim ≡ false).
    (λ i. if fails i then None else Some (failure_of b)) ∙ sym (λ i. option_map failure_of (cond (not (fails i)) (Some b) None)))

judged_on : (bs : List Behind) (b : Behind) (q : AskView) → judged b (asked_of bs q) ≡ asked_of (bs ++ b ∷ []) q
judged_on bs b q =
    (λ i. record { ask = q; first = first_on q b (find (fails_behind q) bs) i })
    ∙ sym (λ i. record { ask = q; first = option_map failure_of (find-append (fails_behind q) bs (b ∷ []) i) })

all_judged_on : (bs : List Behind) (b : Behind) (asks : List AskView)
    → map (judged b) (map (asked_of bs) asks) ≡ map (asked_of (bs ++ b ∷ [])) asks
all_judged_on bs b [] = refl
all_judged_on bs b (q ∷ asks) = λ i. judged_on bs b q i ∷ all_judged_on bs b asks i

pub nothing_is_known : (asks : List AskView) → map not_failed asks ≡ map (asked_of []) asks
nothing_is_known [] = refl
nothing_is_known (q ∷ asks) = λ i. asked_of [] q ∷ nothing_is_known asks i

-- what is known behind some of these lists, the first of them; no more were tried than there may be, and none once each ask had failed
pub record AreFirst (states : ℕ) (asks : List AskView) (bs : List Behind) (t : TallyView) : Type 0 where
  pub there : t.lists ≤ length bs
  pub known : t.asked ≡ map (asked_of (take t.lists bs)) asks
  pub all : is_over states t ≡ false → t.lists ≡ length bs
  pub few : (t.lists ≤ states) ⊎ (t.lists ≤ 1)
  pub prompt : (k : ℕ) → 0 < k → k < t.lists → all_failed asks (take k bs) ≡ false

is_less : (n m : ℕ) → nat_lt n m ≡ true → n < m
is_less n m t = grind (arith, nat_tests)

is_not_less : (n m : ℕ) → nat_lt n m ≡ false → m ≤ n
is_not_less n m t = grind (arith, nat_tests)

is_more : (n m : ℕ) → nat_le n m ≡ false → m < n
is_more n m t = grind (arith, nat_tests)

-- where it isn't over, there is room for one more, which may be the first
room : (lists states : ℕ) (failed : Bool) → (nat_lt 0 lists && (nat_le states lists || failed)) ≡ false → (lists + 1 ≤ states) ⊎ (lists + 1 ≤ 1)
room lists states failed left =
    cases (nat_lt 0 lists)
    (λ some. cases (nat_le states lists)
    (λ full. absurd (cc ((λ i. (sym some) i && ((sym full) i || failed)) ∙ left)))
    (λ free. inl (omega (arith, is_more states lists free))))
    (λ none. inr (omega (arith, is_not_less 0 lists none)))

-- and not each ask has failed, behind the first
one_left : (lists states : ℕ) (failed : Bool) → (nat_lt 0 lists && (nat_le states lists || failed)) ≡ false → 0 < lists → failed ≡ false
one_left lists states failed left some =
    cases (nat_lt 0 lists)
    (λ one. cases (nat_le states lists)
    (λ full. absurd (cc ((λ i. (sym one) i && ((sym full) i || failed)) ∙ left)))
    (λ free. (λ i. (sym one) i && ((sym free) i || failed)) ∙ left))
    (λ none. absurd (omega (arith, some, is_not_less 0 lists none)))

module _ (states : ℕ) (asks : List AskView) where
  none_first : AreFirst states asks [] (nothing_tried asks)
  none_first = record {
    there = omega arith;
    known = nothing_is_known asks;
    all = λ left. refl;
    few = inr (omega arith);
    prompt = λ k some few. absurd (omega (arith, some, few));
  }

  module _ (bs : List Behind) (t : TallyView) (are : AreFirst states asks bs t) (b : Behind) where
    still : is_over states t ≡ true → AreFirst states asks (bs ++ b ∷ []) (tallied states t b)
    still over =
        subst (AreFirst states asks (bs ++ b ∷ [])) (sym (stays states t b over))
        (record {
          there = omega (arith, are.there, length_push bs b);
          known = are.known ∙ ap (λ (cs : List Behind). map (asked_of cs) asks) (sym (take-append-le t.lists bs (b ∷ []) are.there));
          all = λ left. absurd (cc (sym left ∙ over));
          few = are.few;
          prompt = λ k some few.
              ap (all_failed asks) (take-append-le k bs (b ∷ []) (omega (arith, few, are.there))) ∙ are.prompt k some few;
        })

    on : is_over states t ≡ false → AreFirst states asks (bs ++ b ∷ []) (tallied states t b)
    on left =
        let all : t.lists ≡ length bs = are.all left in
        let long : length (bs ++ b ∷ []) ≡ length bs + 1 = length_push bs b in
        let whole : take t.lists bs ≡ bs = take_all t.lists bs (omega (arith, all)) in
        let more : take (t.lists + 1) (bs ++ b ∷ []) ≡ bs ++ b ∷ [] = take_all (t.lists + 1) (bs ++ b ∷ []) (omega (arith, all, long)) in
        let known : t.asked ≡ map (asked_of bs) asks = are.known ∙ ap (λ (cs : List Behind). map (asked_of cs) asks) whole in
        let before : (k : ℕ) → 0 < k → k ≤ t.lists → all_failed asks (take k (bs ++ b ∷ [])) ≡ false =
        λ k some few.
        ap (all_failed asks) (take-append-le k bs (b ∷ []) (omega (arith, few, are.there)))
        ∙ cases (nat_lt k t.lists) (λ less. are.prompt k some (is_less k t.lists less))
        (λ last. let here : k ≡ t.lists = omega (arith, few, is_not_less k t.lists last) in
        ap (λ (n : ℕ). all_failed asks (take n bs)) here ∙ ap (list_all has_failed) (sym are.known)
        ∙ one_left t.lists states (list_all has_failed t.asked) left (omega (arith, some, here))) in
        subst (AreFirst states asks (bs ++ b ∷ [])) (sym (goes_on states t b left))
        (record {
          there = omega (arith, all, long);
          known =
              ap (map (judged b)) known ∙ all_judged_on bs b asks
              ∙ ap (λ (cs : List Behind). map (asked_of cs) asks) (sym more);
          all = λ later. omega (arith, all, long);
          few = room t.lists states (list_all has_failed t.asked) left;
          prompt = λ k some few. before k some (omega (arith, few));
        })

    pub one_more : AreFirst states asks (bs ++ b ∷ []) (tallied states t b)
    one_more = cases (is_over states t) still on

  all_first : (bs : List Behind) (t : TallyView) (more : List Behind) → AreFirst states asks bs t
      → AreFirst states asks (bs ++ more) (all_tallied states t more)
  all_first bs t [] are = subst (λ (cs : List Behind). AreFirst states asks cs t) (sym (append-nil bs)) are
  all_first bs t (b ∷ more) are =
      subst (λ (cs : List Behind). AreFirst states asks cs (all_tallied states (tallied states t b) more)) (append_assoc bs (b ∷ []) more)
      (all_first (bs ++ b ∷ []) (tallied states t b) more (one_more bs t are b))

  -- what is known behind all is known behind the first of them
  pub are_first : (bs : List Behind) → AreFirst states asks bs (all_tallied states (nothing_tried asks) bs)
  are_first bs = all_first [] (nothing_tried asks) bs none_first

  -- one is tried, if there is one
  pub some_tried : (b : Behind) (bs : List Behind) → 0 < (all_tallied states (nothing_tried asks) (b ∷ bs)).lists
  some_tried b bs =
      let one : (tallied states (nothing_tried asks) b).lists ≡ 1 = ap (λ (u : TallyView). u.lists) (goes_on states (nothing_tried asks) b refl) in
      omega (arith, one, no_fewer states (tallied states (nothing_tried asks) b) bs)
