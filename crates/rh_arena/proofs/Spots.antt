-- The six words at a place of a list.
use Rattle.std.proofs.Common.{◌≡◌, ◌≢◌, ◌+◌, ◌-◌, ◌∷◌, List, [], ℕ, Option, Some, None, set, refl, ap, ◌∙◌, arith}
use Rattle.std.proofs.lemmas.List.{set-get_or}
use Rattle.std.proofs.lemmas.List.Elements.{All-from_recursion}
use Rattle.std.specs.List.{AllByRecursion as ByRecursion}
use Rattle.rh_arena.specs.declared.change.Change.{Change}
use Rattle.rh_arena.specs.declared.change.Change.TheVariants.{Prev, Next, Owner, Head, Tail, Count}
use Rattle.rh_arena.specs.declared.spot.Spot.{Spot}
use Rattle.rh_arena.specs.declared.spot.Values.{Values}
use Rattle.rh_arena.specs.Words.{Words, prev_of, next_of, tail_of, count_of}
use Rattle.rh_arena.specs.Linking.{pushed, removed, set_at, set_unless, link_behind, link_before}
use Rattle.rh_arena.specs.Exchange.{puts, word_of}
use Rattle.rh_arena.specs.Spots.{changes_at, IsBetween}
use Rattle.rh_arena.proofs.Exchanges.{AreApart, AreApart-cons, kinds_apart, behind_apart, before_apart}

-- the words with the values of such a place
puts_at : (w : Words) (i l : ℕ) (b a : Option ℕ) (v : Values) → puts w (changes_at (record { entry = i; list = l; before = b; after = a }) v)
    ≡ record {
      prev = set_at (set w.prev i v.prev) a v.from_behind;
      next = set_at (set w.next i v.next) b v.from_before;
      owner = set w.owner i v.owner;
      head = set_unless w.head b l v.from_before;
      tail = set_unless w.tail a l v.from_behind;
      count = set w.count l v.count;
    }
puts_at w i l None None v = refl
puts_at w i l None (Some a) v = refl
puts_at w i l (Some b) None v = refl
puts_at w i l (Some b) (Some a) v = refl

-- behind the last entry
pub puts_pushed : (w : Words) (l i : ℕ)
    → puts w (changes_at (record { entry = i; list = l; before = tail_of w l; after = None }) (record {
      prev = tail_of w l;
      next = None;
      owner = Some l;
      count = count_of w l + 1;
      from_before = Some i;
      from_behind = Some i;
    }))
    ≡ pushed w l i
puts_pushed w l i = puts_at w i l (tail_of w l) None _

-- between two neighbours, which are linked to one another
pub puts_removed : (w : Words) (l i : ℕ)
    → puts w (changes_at (record { entry = i; list = l; before = prev_of w i; after = next_of w i }) (record {
      prev = prev_of w i;
      next = next_of w i;
      owner = None;
      count = count_of w l - 1;
      from_before = next_of w i;
      from_behind = prev_of w i;
    }))
    ≡ removed w l i
puts_removed w l i = puts_at w i l (prev_of w i) (next_of w i) _ ∙ (λ k. record {
  prev = set_at (set-get_or w.prev i None k) (next_of w i) (prev_of w i);
  next = set_at (set-get_or w.next i None k) (prev_of w i) (next_of w i);
  owner = set w.owner i None;
  head = set_unless w.head (prev_of w i) l (next_of w i);
  tail = set_unless w.tail (next_of w i) l (prev_of w i);
  count = set w.count l (count_of w l - 1);
})

-- no word of an entry is the link to it
behind_differs : (i l : ℕ) (b : Option ℕ) (u v : Option ℕ) → b ≢ Some i → word_of (link_behind l b v) ≢ word_of (Next i u)
behind_differs i l None u v n = kinds_apart (Head l v) (Next i u) refl
behind_differs i l (Some b) u v n = λ e. n (ap (λ (p : ℕ × ℕ). Some p.1) e)

before_differs : (i l : ℕ) (a : Option ℕ) (u v : Option ℕ) → a ≢ Some i → word_of (link_before l a v) ≢ word_of (Prev i u)
before_differs i l None u v n = kinds_apart (Tail l v) (Prev i u) refl
before_differs i l (Some a) u v n = λ e. n (ap (λ (p : ℕ × ℕ). Some p.1) e)

links_differ : (l : ℕ) (b a u v : Option ℕ) → word_of (link_before l a v) ≢ word_of (link_behind l b u)
links_differ l None a u v = before_apart l a v (link_before l a v) (Head l u) refl refl refl
links_differ l (Some b) a u v = before_apart l a v (link_before l a v) (Next b u) refl refl refl

-- changes of different words, by recursion
abbrev AreApartEach : List Change → Type 0
AreApartEach [] = Unit {0}
AreApartEach (c ∷ cs) = ByRecursion (λ d. word_of d ≢ word_of c) cs × AreApartEach cs

AreApart-from_each : (cs : List Change) → AreApartEach cs → AreApart cs
AreApart-from_each [] h = λ i j d l k. absurd (omega (arith, k))
AreApart-from_each (c ∷ cs) h =
    λ i j d l k. AreApart-cons c cs (All-from_recursion (λ d. word_of d ≢ word_of c) cs h.0) (AreApart-from_each cs h.1) i j d l k

module _ (v : Values) (i l : ℕ) (b a : Option ℕ) where
  apart : b ≢ Some i → a ≢ Some i → AreApart (changes_at (record { entry = i; list = l; before = b; after = a }) v)
  apart m n =
      let p : Change = Prev i v.prev in
      let q : Change = Next i v.next in
      let o : Change = Owner i v.owner in
      let k : Change = Count l v.count in
      let x : Change = link_behind l b v.from_before in
      let y : Change = link_before l a v.from_behind in
      let not_p : ByRecursion (λ d. word_of d ≢ word_of p) (q ∷ o ∷ k ∷ x ∷ y ∷ []) = (
        kinds_apart q p refl,
        (
          kinds_apart o p refl,
          (
            kinds_apart k p refl,
            (
              behind_apart l b v.from_before x p refl refl refl,
              (before_differs i l a v.prev v.from_behind n, tt),
            ),
          ),
        ),
      ) in
      let not_q : ByRecursion (λ d. word_of d ≢ word_of q) (o ∷ k ∷ x ∷ y ∷ []) = (
        kinds_apart o q refl,
        (
          kinds_apart k q refl,
          (
            behind_differs i l b v.next v.from_before m,
            (before_apart l a v.from_behind y q refl refl refl, tt),
          ),
        ),
      ) in
      let not_o : ByRecursion (λ d. word_of d ≢ word_of o) (k ∷ x ∷ y ∷ []) =
      (kinds_apart k o refl, (behind_apart l b v.from_before x o refl refl refl, (before_apart l a v.from_behind y o refl refl refl, tt))) in
      let not_k : ByRecursion (λ d. word_of d ≢ word_of k) (x ∷ y ∷ []) =
      (behind_apart l b v.from_before x k refl refl refl, (before_apart l a v.from_behind y k refl refl refl, tt)) in
      let not_x : ByRecursion (λ d. word_of d ≢ word_of x) (y ∷ []) = (links_differ l b a v.from_before v.from_behind, tt) in
      AreApart-from_each (p ∷ q ∷ o ∷ k ∷ x ∷ y ∷ []) (not_p, (not_q, (not_o, (not_k, (not_x, (tt, tt))))))

-- so the changes are of six different words
pub AreApart-at_spot : (s : Spot) (v : Values) → IsBetween s → AreApart (changes_at s v)
AreApart-at_spot s v h = apart v s.entry s.list s.before s.after h.before h.after
