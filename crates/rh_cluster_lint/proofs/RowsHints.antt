-- Worked rows: what may have been meant where a text can't be read.
use Rattle.std.proofs.Common.{◌≡◌, ◌++◌, ◌∷◌, [], codes, refl, true, false, Some, None}
use Rattle.rh_terms.specs.declared.fault.TermFault.TheVariants as terms
use Rattle.rh_cluster.specs.declared.fault.ClusterFault.TheVariants as fault
use Rattle.rh_cluster_lint.specs.Constructs.{begins_here, construct_in}
use Rattle.rh_cluster_lint.specs.Hints.{line_at, is_mark, hint_words}

constructs_row : (construct_in (codes "{a, <<1>>}") ≡ codes "; << begins a binary, which isn't read")
    × (construct_in (codes "{a, #{}}") ≡ codes "; #{ begins a map, which isn't read")
    × (construct_in (codes "{a, 16#ff}") ≡ codes "; an integer with a base, as 16#ff, isn't read")
    × (construct_in (codes "{a, 1.5}") ≡ codes "; a float, as 1.5, isn't read")
    × (construct_in (codes "{a, $c}") ≡ codes "; a character, as $a, isn't read: write its number")
    × (construct_in (codes "{a, 1}. b2.") ≡ [])
unfolding begins_here
constructs_row = (refl, refl, refl, refl, refl, refl)

-- a word begins behind a blank, a comma or a bracket
words_row : (construct_in (codes "[fun(A) -> A end]") ≡ codes "; a fun isn't read")
    × (construct_in (codes "[funny, my_fun]") ≡ [])
    × (construct_in (codes "{node, Name}") ≡ codes "; what begins with a capital or _ is a variable: quotes make it a name")
    × (construct_in (codes "{node,aB,'B'}") ≡ [])
unfolding begins_here
words_row = (refl, refl, refl, refl)

mark_row : (is_mark (codes "====") ≡ true) × (is_mark (codes " === ") ≡ true) × (is_mark (codes "---") ≡ true) × (is_mark (codes "  ") ≡ false)
    × (is_mark (codes "=== b") ≡ false)
mark_row = (refl, refl, refl, refl, refl)

line_row : (line_at (codes "a" ++ 10 ∷ codes "bc" ++ 10 ∷ codes "d") 1 ≡ codes "a") × (line_at (codes "a" ++ 10 ∷ codes "bc" ++ 10 ∷ codes "d") 2 ≡ codes "bc")
    × (line_at (codes "a") 2 ≡ [])
line_row = (refl, refl, refl)

-- what the file begins with comes first
start_row : (hint_words [] fault.NoNodes None ≡ codes "; the file is empty")
    × (hint_words (239 ∷ 187 ∷ 191 ∷ codes "1.5") (fault.Term (terms.Unsupported 1)) (Some 1) ≡ codes "; the file begins with a byte order mark, which has to go")
    × (hint_words (255 ∷ 254 ∷ []) (fault.Term terms.NotUtf8) None ≡ codes "; the file is in UTF-16: iconv -f UTF-16 -t UTF-8 makes it UTF-8")
    × (hint_words (252 ∷ []) (fault.Term terms.NotUtf8) None ≡ codes "; it may be in Latin-1: iconv -f LATIN1 -t UTF-8 makes it UTF-8")
    × (hint_words (codes "# a") (fault.Term (terms.Unsupported 1)) (Some 1) ≡ codes "; a comment in the cluster file begins with %")
    × (hint_words (codes "a") fault.NoNodes None ≡ [])
start_row = (refl, refl, refl, refl, refl, refl)
