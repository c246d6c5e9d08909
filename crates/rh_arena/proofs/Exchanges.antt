-- Exchanges: of one word, of some different words, and made twice.
use Rattle.std.proofs.Common.{◌≡◌, ◌≢◌, ◌⊎◌, ◌<◌, ◌∷◌, ◌∙◌, ℕ, zero, suc, List, [], Option, Some, None, true, false}
use Rattle.std.proofs.Common.{length, get_or, set, map, nat_eq, refl, sym, ap, arith, inl, inr}
use Rattle.std.proofs.lemmas.Bool.{cases_eq}
use Rattle.std.specs.List.{All, AllPairs}
use Rattle.std.specs.Option.{option_eq}
use Rattle.std.specs.Bool.{Decides}
use Rattle.std.proofs.lemmas.List.{length-set, set-set, set-get_or, set_comm, get_or-set_other}
use Rattle.std.proofs.lemmas.Bool.Decides.{Decides-eqb}
use Rattle.std.proofs.lemmas.List.Elements.{All-head, All-tail}
use Rattle.rh_arena.specs.declared.change.Change.{Change}
use Rattle.rh_arena.specs.declared.change.Change.TheVariants.{Prev, Next, Owner, Head, Tail, Count}
use Rattle.rh_arena.specs.Words.{Words, entry_count, list_count}
use Rattle.rh_arena.specs.Linking.{link_behind, link_before}
use Rattle.rh_arena.specs.Exchange.{put, had, word_of, puts, EditView, exchange, turned}

pub word_of-had : (w : Words) (c : Change) → word_of (had w c) ≡ word_of c
word_of-had w (Prev i v) = refl
word_of-had w (Next i v) = refl
word_of-had w (Owner i v) = refl
word_of-had w (Head l v) = refl
word_of-had w (Tail l v) = refl
word_of-had w (Count l v) = refl

nat_eq_same : (n : ℕ) → nat_eq n n ≡ true
nat_eq_same n = (Decides-eqb n n).1 refl

-- changes of words of different kinds are apart
pub kinds_apart : (c d : Change) → nat_eq (word_of c).0 (word_of d).0 ≡ false → word_of c ≢ word_of d
kinds_apart c d n e =
    let b : true ≡ false = sym (nat_eq_same (word_of c).0) ∙ ap (λ (p : ℕ × ℕ). nat_eq (word_of c).0 p.0) e ∙ n in
    let x : ⊥ = cc in x

-- the words of two changes are one or two
which_word : (c d : Change) → (word_of c ≡ word_of d) ⊎ (word_of c ≢ word_of d)
which_word c d = elim (cases_eq (word_of c).0 (word_of d).0) [
  | inl k ↦ elim (cases_eq (word_of c).1 (word_of d).1) [
    | inl n ↦ inl (ap (λ (x : ℕ). (x, (word_of c).1)) k ∙ ap (λ (x : ℕ). ((word_of d).0, x)) n)
    | inr n ↦ inr (λ e. n (ap (λ (p : ℕ × ℕ). p.1) e))
  ]
  | inr k ↦ inr (λ e. k (ap (λ (p : ℕ × ℕ). p.0) e))
]

set-over : {A : Type 0} (xs : List A) (i j : ℕ) (u v : A) → i ≡ j → set (set xs i u) j v ≡ set xs j v
set-over xs i j u v e = ap (λ (k : ℕ). set (set xs k u) j v) e ∙ set-set xs j u v

-- of two changes of one word the later one is left
pub put_over : (w : Words) (c d : Change) → word_of c ≡ word_of d → put (put w c) d ≡ put w d
put_over w (Prev i u) (Prev j v) e = ap (λ xs. record w { prev = xs }) (set-over w.prev i j u v (ap (λ (p : ℕ × ℕ). p.1) e))
put_over w (Next i u) (Next j v) e = ap (λ xs. record w { next = xs }) (set-over w.next i j u v (ap (λ (p : ℕ × ℕ). p.1) e))
put_over w (Owner i u) (Owner j v) e = ap (λ xs. record w { owner = xs }) (set-over w.owner i j u v (ap (λ (p : ℕ × ℕ). p.1) e))
put_over w (Head i u) (Head j v) e = ap (λ xs. record w { head = xs }) (set-over w.head i j u v (ap (λ (p : ℕ × ℕ). p.1) e))
put_over w (Tail i u) (Tail j v) e = ap (λ xs. record w { tail = xs }) (set-over w.tail i j u v (ap (λ (p : ℕ × ℕ). p.1) e))
put_over w (Count i u) (Count j v) e = ap (λ xs. record w { count = xs }) (set-over w.count i j u v (ap (λ (p : ℕ × ℕ). p.1) e))
put_over w c d e = absurd (kinds_apart c d refl e)

-- the value that a word has is put there without effect
put-own : (w : Words) (c : Change) → put w (had w c) ≡ w
put-own w (Prev i v) = ap (λ xs. record w { prev = xs }) (set-get_or w.prev i v)
put-own w (Next i v) = ap (λ xs. record w { next = xs }) (set-get_or w.next i v)
put-own w (Owner i v) = ap (λ xs. record w { owner = xs }) (set-get_or w.owner i v)
put-own w (Head l v) = ap (λ xs. record w { head = xs }) (set-get_or w.head l v)
put-own w (Tail l v) = ap (λ xs. record w { tail = xs }) (set-get_or w.tail l v)
put-own w (Count l v) = ap (λ xs. record w { count = xs }) (set-get_or w.count l v)

-- different words are written in any order
pub put_comm : (w : Words) (c d : Change) → word_of c ≢ word_of d → put (put w c) d ≡ put (put w d) c
put_comm w (Prev i u) (Prev j v) n = ap (λ xs. record w { prev = xs }) (set_comm w.prev i j u v (λ e. n (ap (λ (k : ℕ). (0, k)) e)))
put_comm w (Next i u) (Next j v) n = ap (λ xs. record w { next = xs }) (set_comm w.next i j u v (λ e. n (ap (λ (k : ℕ). (1, k)) e)))
put_comm w (Owner i u) (Owner j v) n = ap (λ xs. record w { owner = xs }) (set_comm w.owner i j u v (λ e. n (ap (λ (k : ℕ). (2, k)) e)))
put_comm w (Head i u) (Head j v) n = ap (λ xs. record w { head = xs }) (set_comm w.head i j u v (λ e. n (ap (λ (k : ℕ). (3, k)) e)))
put_comm w (Tail i u) (Tail j v) n = ap (λ xs. record w { tail = xs }) (set_comm w.tail i j u v (λ e. n (ap (λ (k : ℕ). (4, k)) e)))
put_comm w (Count i u) (Count j v) n = ap (λ xs. record w { count = xs }) (set_comm w.count i j u v (λ e. n (ap (λ (k : ℕ). (5, k)) e)))
put_comm w c d n = refl

-- what a word has doesn't change with another one
pub had-put_other : (w : Words) (c d : Change) → word_of c ≢ word_of d → had (put w c) d ≡ had w d
had-put_other w (Prev i u) (Prev j v) n = ap (Prev j) (get_or-set_other w.prev i j u v (λ e. n (ap (λ (k : ℕ). (0, k)) (sym e))))
had-put_other w (Next i u) (Next j v) n = ap (Next j) (get_or-set_other w.next i j u v (λ e. n (ap (λ (k : ℕ). (1, k)) (sym e))))
had-put_other w (Owner i u) (Owner j v) n = ap (Owner j) (get_or-set_other w.owner i j u v (λ e. n (ap (λ (k : ℕ). (2, k)) (sym e))))
had-put_other w (Head i u) (Head j v) n = ap (Head j) (get_or-set_other w.head i j u v (λ e. n (ap (λ (k : ℕ). (3, k)) (sym e))))
had-put_other w (Tail i u) (Tail j v) n = ap (Tail j) (get_or-set_other w.tail i j u v (λ e. n (ap (λ (k : ℕ). (4, k)) (sym e))))
had-put_other w (Count i u) (Count j v) n = ap (Count j) (get_or-set_other w.count i j u v (λ e. n (ap (λ (k : ℕ). (5, k)) (sym e))))
had-put_other w c d n = refl

get_or-set_back : {A : Type 0} (xs : List A) (i : ℕ) (v : A) → get_or (set xs i v) i (get_or xs i v) ≡ v
get_or-set_back [] i v = refl
get_or-set_back (x ∷ xs) zero v = refl
get_or-set_back (x ∷ xs) (suc i) v = get_or-set_back xs i v

-- the change that gave a word its value comes back
pub had-put : (w : Words) (c : Change) → had (put w c) (had w c) ≡ c
had-put w (Prev i v) = ap (Prev i) (get_or-set_back w.prev i v)
had-put w (Next i v) = ap (Next i) (get_or-set_back w.next i v)
had-put w (Owner i v) = ap (Owner i) (get_or-set_back w.owner i v)
had-put w (Head l v) = ap (Head l) (get_or-set_back w.head l v)
had-put w (Tail l v) = ap (Tail l) (get_or-set_back w.tail l v)
had-put w (Count l v) = ap (Count l) (get_or-set_back w.count l v)

-- no change of the list is of that word
abbrev pub IsApart : Change → List Change → Type 0
IsApart d cs = All (λ c. word_of c ≢ word_of d) cs

abbrev pub AreApart : List Change → Type 0
AreApart cs = AllPairs (λ c d. word_of c ≢ word_of d) cs

pub had-puts : (cs : List Change) (w : Words) (d : Change) → IsApart d cs → had (puts w cs) d ≡ had w d
had-puts [] w d a = refl
had-puts (c ∷ cs) w d a =
    had-puts cs (put w c) d (All-tail (λ c. word_of c ≢ word_of d) c cs a) ∙ had-put_other w c d (All-head (λ c. word_of c ≢ word_of d) c cs a)

-- the first of different changes and the others
pub AreApart-head : (c : Change) (cs : List Change) → AreApart (c ∷ cs) → IsApart c cs
AreApart-head c cs a = λ k d h e. a 0 (suc k) d (omega arith) (omega (arith, h)) (sym e)

pub AreApart-tail : (c : Change) (cs : List Change) → AreApart (c ∷ cs) → AreApart cs
AreApart-tail c cs a = λ i j d l h. a (suc i) (suc j) d (omega (arith, l)) (omega (arith, h))

-- some change of the list is of that word
abbrev Names : List Change → Change → Type 0
Names [] d = ⊥
Names (c ∷ cs) d = (word_of d ≡ word_of c) ⊎ Names cs d

Names-had : (cs : List Change) (w : Words) (d : Change) → Names cs d → Names (map (had w) cs) d
Names-had [] w d n = n
Names-had (c ∷ cs) w d n = elim n [
  | inl e ↦ inl (e ∙ sym (word_of-had w c))
  | inr m ↦ inr (Names-had cs w d m)
]

-- what a word had before some changes doesn't count if one of them is of it
overwritten : (cs : List Change) (w : Words) (d : Change) → Names cs d → puts (put w d) cs ≡ puts w cs
overwritten [] w d n = absurd n
overwritten (c ∷ cs) w d n = elim (which_word d c) [
  | inl e ↦ ap (λ (v : Words). puts v cs) (put_over w d c e)
  | inr a ↦ elim n [
    | inl e ↦ absurd (a e)
    | inr m ↦ ap (λ (v : Words). puts v cs) (put_comm w d c a) ∙ overwritten cs (put w c) d m
  ]
]

all_overwritten : (ds cs : List Change) (w : Words) → ((d : Change) → Names ds d → Names cs d) → puts (puts w ds) cs ≡ puts w cs
all_overwritten [] cs w n = refl
all_overwritten (d ∷ ds) cs w n = all_overwritten ds cs (put w d) (λ x m. n x (inr m)) ∙ overwritten cs w d (n d (inl refl))

puts-own : (cs : List Change) (w : Words) → puts w (map (had w) cs) ≡ w
puts-own [] w = refl
puts-own (c ∷ cs) w = ap (λ (v : Words). puts v (map (had w) cs)) (put-own w c) ∙ puts-own cs w

-- exchanged twice, words are as they were, also where several changes are of one word
pub puts_twice : (cs : List Change) (w : Words) → puts (puts w cs) (map (had w) cs) ≡ w
puts_twice cs w = all_overwritten cs (map (had w) cs) w (Names-had cs w) ∙ puts-own cs w

map_had-put : (cs : List Change) (w : Words) (d : Change) → IsApart d cs → map (had (put w d)) cs ≡ map (had w) cs
map_had-put [] w d a = refl
map_had-put (c ∷ cs) w d a =
    ap (λ (x : Change). x ∷ map (had (put w d)) cs) (had-put_other w d c (λ e. All-head (λ c. word_of c ≢ word_of d) c cs a (sym e)))
    ∙ ap (λ (xs : List Change). had w c ∷ xs) (map_had-put cs w d (All-tail (λ c. word_of c ≢ word_of d) c cs a))

apart_had : (cs : List Change) (w : Words) (d : Change) → IsApart d cs → IsApart (had w d) cs
apart_had cs w d a = λ k x h e. a k x h (e ∙ word_of-had w d)

-- and so are the changes
pub had_twice : (cs : List Change) (w : Words) → AreApart cs → map (had (puts w cs)) (map (had w) cs) ≡ cs
had_twice [] w a = refl
had_twice (c ∷ cs) w a =
    let h : IsApart c cs = AreApart-head c cs a in
    ap (λ (x : Change). x ∷ map (had (puts (put w c) cs)) (map (had w) cs))
    (had-puts cs (put w c) (had w c) (apart_had cs w c h) ∙ had-put w c)
    ∙ ap (λ (xs : List Change). c ∷ map (had (puts (put w c) cs)) xs) (sym (map_had-put cs w c h))
    ∙ ap (λ (xs : List Change). c ∷ xs) (had_twice cs (put w c) (AreApart-tail c cs a))

pub AreApart-cons : (c : Change) (cs : List Change) → IsApart c cs → AreApart cs
    → (i j : ℕ) (d : Change) → i < j → j < length (c ∷ cs) → word_of (get_or (c ∷ cs) i d) ≢ word_of (get_or (c ∷ cs) j d)
AreApart-cons c cs h a i zero d l k = absurd (omega (arith, l))
AreApart-cons c cs h a zero (suc j) d l k = λ e. h j d (omega (arith, k)) (sym e)
AreApart-cons c cs h a (suc i) (suc j) d l k = a i j d (omega (arith, l)) (omega (arith, k))

-- an exchange leaves the numbers of entries and lists
entries-put : (w : Words) (c : Change) → entry_count (put w c) ≡ entry_count w
entries-put w (Prev i v) = length-set w.prev i v
entries-put w c = refl

lists-put : (w : Words) (c : Change) → list_count (put w c) ≡ list_count w
lists-put w (Head l v) = length-set w.head l v
lists-put w c = refl

entries-puts : (cs : List Change) (w : Words) → entry_count (puts w cs) ≡ entry_count w
entries-puts [] w = refl
entries-puts (c ∷ cs) w = entries-puts cs (put w c) ∙ entries-put w c

lists-puts : (cs : List Change) (w : Words) → list_count (puts w cs) ≡ list_count w
lists-puts [] w = refl
lists-puts (c ∷ cs) w = lists-puts cs (put w c) ∙ lists-put w c

pub entries_exchange : (w : Words) (e : EditView) → entry_count (exchange w e) ≡ entry_count w
unfolding exchange
entries_exchange w e = entries-puts e.changes w

pub lists_exchange : (w : Words) (e : EditView) → list_count (exchange w e) ≡ list_count w
unfolding exchange
lists_exchange w e = lists-puts e.changes w

-- an exchange is taken back by the next one
pub exchange_twice : (w : Words) (e : EditView) → exchange (exchange w e) (turned w e) ≡ w
unfolding exchange turned
exchange_twice w e = puts_twice e.changes w

pub behind_apart : (l : ℕ) (t v : Option ℕ) (c d : Change) → c ≡ link_behind l t v → nat_eq 3 (word_of d).0 ≡ false → nat_eq 1 (word_of d).0 ≡ false
    → word_of c ≢ word_of d
behind_apart l None v c d is a b e = kinds_apart (Head l v) d a (ap word_of (sym is) ∙ e)
behind_apart l (Some i) v c d is a b e = kinds_apart (Next i v) d b (ap word_of (sym is) ∙ e)

pub before_apart : (l : ℕ) (t v : Option ℕ) (c d : Change) → c ≡ link_before l t v → nat_eq 4 (word_of d).0 ≡ false → nat_eq 0 (word_of d).0 ≡ false
    → word_of c ≢ word_of d
before_apart l None v c d is a b e = kinds_apart (Tail l v) d a (ap word_of (sym is) ∙ e)
before_apart l (Some i) v c d is a b e = kinds_apart (Prev i v) d b (ap word_of (sym is) ∙ e)

-- `==` of options of numbers says whether they are equal
pub option_decides : (a b : Option ℕ) → Decides (option_eq nat_eq a b) (a ≡ b)
option_decides None None = (λ e. refl, λ e. refl)
option_decides None (Some y) = (λ e. absurd (let q : false ≡ true = e in cc), λ e. absurd (let q : None ≡ Some y = e in cc))
option_decides (Some x) None = (λ e. absurd (let q : false ≡ true = e in cc), λ e. absurd (let q : Some x ≡ None = e in cc))
option_decides (Some x) (Some y) = (λ e. ap Some ((Decides-eqb x y).0 e), λ e. (Decides-eqb x y).1 (let q : Some x ≡ Some y = e in cc))
