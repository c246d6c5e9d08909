-- Worked rows: what the definitions compute for small texts.
use Rattle.std.proofs.Common.{◌≡◌, ℕ, List, [], ◌∷◌, ◌++◌, Bool, true, Some, Ok, Err, pos, negsuc, is_ok, is_some, codes, map, filter, replicate, refl}
use Rattle.std.specs.List.{range_with_len}
use Rattle.std.specs.Str.{is_utf8, chars}
use lib.Utf8.{encode}
use Rattle.rh_base.specs.Tree.{atom, int, text, list, tuple, none, more}
use Rattle.rh_terms.specs.declared.fault.Fault.TheVariants as fault
use Rattle.std.specs.Fmt.{digits}
use Rattle.rh_terms.specs.declared.fault.TermFault.TheVariants.{Syntax, Unsupported, NotUtf8, TooDeep, IntRange, OutOfMemory}
use Rattle.rh_terms.specs.declared.nest.TheConstants.{MAX_DEPTH}
use Rattle.rh_terms.specs.Bytes.{is_white, is_digit, is_lower, is_atom_byte, is_unsupported, is_end, past, past_blank}
use Rattle.rh_terms.specs.Tokens.{escape, digits_at, integer_at, name_at, quoted, quoted_atom_at, text_at}
use Rattle.rh_terms.specs.Grammar.{terms_of, dotted, dot_at, inside, terms_up_to, some_terms, next_at, term_by, word_at}
use Rattle.rh_terms.specs.FaultTexts.{term_fault_text}

-- ---- kinds of bytes: all of a kind, of the 256 that there are

abbrev bytes_where : (ℕ → Bool) → List ℕ
bytes_where p = filter p (range_with_len 0 256)

-- tab, LF, vertical tab, form feed, CR, space
white_row : bytes_where is_white ≡ 9 ∷ 10 ∷ 11 ∷ 12 ∷ 13 ∷ 32 ∷ []
white_row = refl

digits_row : bytes_where is_digit ≡ codes "0123456789"
digits_row = refl

first_letters_row : bytes_where is_lower ≡ codes "abcdefghijklmnopqrstuvwxyz"
first_letters_row = refl

atom_bytes_row : bytes_where is_atom_byte ≡ codes "0123456789@ABCDEFGHIJKLMNOPQRSTUVWXYZ_abcdefghijklmnopqrstuvwxyz"
atom_bytes_row = refl

unsupported_bytes_row : bytes_where is_unsupported ≡ codes "#$+<~" ++ range_with_len 128 128
unsupported_bytes_row = refl

-- white space, or the `%` of a comment
behind_a_dot_row : bytes_where is_end ≡ 9 ∷ 10 ∷ 11 ∷ 12 ∷ 13 ∷ 32 ∷ 37 ∷ []
behind_a_dot_row = refl

escapes_row : (bytes_where (λ b. is_some (escape b)) ≡ codes "\"'\\nrst") × (map escape (codes "\"'\\nrst") ≡ map Some (34 ∷ 39 ∷ 92 ∷ 10 ∷ 13 ∷ 32 ∷ 9 ∷ []))
escapes_row = (refl, refl)

-- a comment goes up to the end of its line
comment_row : past_blank (codes " %a.\r%\n\t b %") ≡ codes "b %"
unfolding past
comment_row = refl

-- ---- texts that are read

no_terms_row : map terms_of ([] ∷ codes " \n" ∷ codes "%a." ∷ []) ≡ replicate 3 (Ok none)
unfolding is_utf8 chars encode terms_of dotted past
no_terms_row = refl

terms_row : terms_of (codes "%x\n a1@B_. 'b c'.\nbegin. \"\". [ ]. {}.%\n-07 . [a,{\"t\" ,9}].") ≡ Ok (more (atom (codes "a1@B_")) (more (atom (codes "b c"))
    (more (atom (codes "begin")) (more (text []) (more (list none) (more (tuple none) (more (int (negsuc 6))
    (more (list (more (atom (codes "a")) (more (tuple (more (text (codes "t")) (more (int (pos 9)) none))) none))) none))))))))
unfolding is_utf8 chars encode terms_of dotted dot_at inside terms_up_to some_terms next_at term_by word_at name_at past quoted quoted_atom_at text_at
    integer_at digits_at
terms_row = refl

quoted_row : terms_of (codes "'it\\'s\n\\s'. \"a\\\\'b\".") ≡ Ok (more (atom (codes "it's\n ")) (more (text (codes "a\\'b")) none))
unfolding is_utf8 chars encode terms_of dotted dot_at inside terms_up_to some_terms next_at term_by word_at name_at past quoted quoted_atom_at text_at
    integer_at digits_at
quoted_row = refl

-- ---- texts that have a fault

-- there is no other one in a text that isn't UTF-8
not_utf8_row : map terms_of ((255 ∷ []) ∷ (36 ∷ 255 ∷ []) ∷ []) ≡ replicate 2 (Err NotUtf8)
unfolding is_utf8 chars encode terms_of
not_utf8_row = refl

-- the first one from left to right
first_fault_row : map terms_of (codes "B. $" ∷ codes "$ B." ∷ codes "[9223372036854775808, $" ∷ []) ≡ Err (Syntax 1) ∷ Err (Unsupported 1) ∷ Err IntRange ∷ []
unfolding is_utf8 chars encode terms_of dotted dot_at inside terms_up_to some_terms next_at term_by word_at name_at past quoted quoted_atom_at text_at
    integer_at digits_at
first_fault_row = refl

-- 64 bits; the digit that makes an integer too great comes before the byte behind it
integer_limits_row : map terms_of (codes "9223372036854775807." ∷ codes "-9223372036854775808." ∷ [])
    ≡ Ok (more (int (pos 9223372036854775807)) none) ∷ Ok (more (int (negsuc 9223372036854775807)) none) ∷ []
unfolding is_utf8 chars encode terms_of dotted dot_at inside terms_up_to some_terms next_at term_by word_at past integer_at digits_at
integer_limits_row = refl

beyond_64_bits_row : map terms_of (codes "9223372036854775808." ∷ codes "-9223372036854775809." ∷ codes "9223372036854775808.5" ∷ []) ≡ replicate 3 (Err IntRange)
unfolding is_utf8 chars encode terms_of dotted dot_at inside terms_up_to some_terms next_at term_by word_at past integer_at digits_at
beyond_64_bits_row = refl

-- digits behind which a point, an underscore or a base follows; inside an atom they are no integer
other_numbers_row : map terms_of (codes "1.5." ∷ codes "1_5." ∷ codes "16#ff." ∷ codes "1.a" ∷ codes "1_a." ∷ codes "- 1." ∷ codes "a1.5" ∷ [])
    ≡ replicate 3 (Err (Unsupported 1)) ++ replicate 4 (Err (Syntax 1))
unfolding is_utf8 chars encode terms_of dotted dot_at inside terms_up_to some_terms next_at term_by word_at name_at past integer_at digits_at
other_numbers_row = refl

-- at one byte, what isn't supported comes before what can't stand there
unsupported_first_row : map terms_of (codes "$" ∷ codes "a.$" ∷ codes "a.#" ∷ codes "a$." ∷ codes "[a,+5]." ∷ codes "<<>>." ∷ (97 ∷ 195 ∷ 169 ∷ 46 ∷ []) ∷ [])
    ≡ replicate 7 (Err (Unsupported 1))
unfolding is_utf8 chars encode terms_of dotted dot_at inside terms_up_to some_terms next_at term_by word_at name_at past
unsupported_first_row = refl

-- the `|` is that of a list, behind an element
improper_list_row : map terms_of (codes "[a\n\n|b]." ∷ codes "{a|b}." ∷ codes "[|b]." ∷ []) ≡ Err (Unsupported 3) ∷ Err (Syntax 1) ∷ Err (Syntax 1) ∷ []
unfolding is_utf8 chars encode terms_of dotted dot_at inside terms_up_to some_terms next_at term_by word_at name_at past
improper_list_row = refl

-- two texts with only white space and comments between: the line is that of the second
two_texts_row : map terms_of (codes "\"a\" %\"\n\n\"b\"." ∷ codes "[\"\"\"\"]." ∷ codes "[\"\",\"\"]." ∷ [])
    ≡ Err (Unsupported 3) ∷ Err (Unsupported 1) ∷ Ok (more (list (more (text []) (more (text []) none))) none) ∷ []
unfolding is_utf8 chars encode terms_of dotted dot_at inside terms_up_to some_terms next_at term_by word_at past quoted text_at
two_texts_row = refl

-- another escape: the line is that of its backslash
other_escape_row : map terms_of (codes "'it\n\\q\n'." ∷ codes "\"\\\n\"." ∷ codes "'\\" ∷ []) ≡ Err (Unsupported 2) ∷ Err (Unsupported 1) ∷ Err (Syntax 1) ∷ []
unfolding is_utf8 chars encode terms_of dotted dot_at inside terms_up_to some_terms next_at term_by word_at past quoted quoted_atom_at text_at
other_escape_row = refl

-- the line of the first byte that can't go on; of a text that was cut, that of its end
lines_row : map terms_of (codes "a" ∷ codes "{a,\nB}." ∷ codes "[a,]." ∷ codes "[a,\n\n" ∷ codes "'it\n" ∷ codes "a.b" ∷ codes "\n\n." ∷ [])
    ≡ Err (Syntax 1) ∷ Err (Syntax 2) ∷ Err (Syntax 1) ∷ Err (Syntax 3) ∷ Err (Syntax 2) ∷ Err (Syntax 1) ∷ Err (Syntax 3) ∷ []
unfolding is_utf8 chars encode terms_of dotted dot_at inside terms_up_to some_terms next_at term_by word_at name_at past quoted quoted_atom_at
lines_row = refl

-- so many lists and tuples may stand inside each other; one more is a fault at its opening
depth_row : (MAX_DEPTH ≡ 64) × (map (λ bs. inside 2 93 bs) (codes "{}]" ∷ codes "{[]}]" ∷ codes "{[" ∷ []) ≡
    Ok (more (tuple none) none, []) ∷ Err fault.TooDeep ∷ Err fault.TooDeep ∷ [])
unfolding inside terms_up_to some_terms next_at term_by word_at past
depth_row = (refl, refl)

nested_row : (is_ok (terms_of (replicate 64 91 ++ replicate 64 93 ++ codes ".")) ≡ true) × (terms_of (replicate 65 91) ≡ Err TooDeep)
unfolding is_utf8 chars encode terms_of dotted dot_at inside terms_up_to some_terms next_at term_by word_at past
nested_row = (refl, refl)

-- ---- how a fault is shown

fault_texts_row : map term_fault_text (Syntax 12 ∷ Unsupported 1 ∷ NotUtf8 ∷ TooDeep ∷ IntRange ∷ OutOfMemory ∷ [])
    ≡ codes "T1 syntax line 12" ∷ codes "T2 unsupported line 1" ∷ codes "T3 not_utf8" ∷ codes "T4 too_deep" ∷ codes "T5 int_range" ∷ codes "T6 out_of_memory" ∷ []
unfolding digits
fault_texts_row = refl
