-- What is read of the matches of a subcommand.
use Rattle.std.proofs.Common.{◌≡◌, ◌∙◌, ◌<◌, ◌^◌, ◌&&◌, ℕ, Bool, List, [], ◌∷◌, length, Option, Some, None, Result, Ok, Err, true, false, refl, ap, sym, cond, nat_lt, lt-ltb, ltb-true, true≢false, codes}
use Rattle.std.specs.Prelude.{nat_le, if◌then◌else◌, option_map, option_and_then}
use Rattle.std.specs.List.{list_all}
use Rattle.std.specs.Char.{digit_value}
use Rattle.std.specs.Str.Parse.{AllDigits, ParsesUnsigned, digits_value, without_leading_plus}
use Rattle.std.specs.Borrow.{Bor}
use Rattle.std.specs.Box.{box_value}
use Rattle.clap.specs.Matches.{ReadsOne, found_of, subcommand_name_of}
use Rattle.clap.specs.Walk.{Row, rows_of}
use Rattle.clap.specs.Simple.{subcommand_rows_of}
use Rattle.clap.specs.declared.parser.matches.ArgMatches.{ArgMatches}
use Rattle.clap.specs.declared.parser.matches.ArgMatches.TheViews.{out-ArgMatches, out-SubCommand}
use Rattle.clap.specs.ValueTests.{is_numeral, is_unsigned_in}
use Rattle.std.specs.Str.{bytes_eq}
use Rattle.std.proofs.lemmas.Slice.Eq.{bytes_eq-Decides}
use Rattle.rh_rules.specs.declared.pick.Pick.{Pick}
use Rattle.rh_rules.specs.declared.pick.Pick.TheVariants.{First, Last}
use Rattle.rh_command_line.specs.Asking.{pick_of}

-- a choice that is the last for `last` and else the first is the one that the word means
pub pick_is : (word : Option (List ℕ)) (choice : Pick) → (word ≡ Some (codes "last") → choice ≡ Last) → ((word ≡ Some (codes "last") → ⊥) → choice ≡ First)
    → choice ≡ pick_of word
pick_is None choice last first = first (λ is. cc)
pick_is (Some word) choice last first = go (bytes_eq word (codes "last")) refl
  where
    go : (b : Bool) → bytes_eq word (codes "last") ≡ b → choice ≡ pick_of (Some word)
    go true is = rw is (last (ap Some ((bytes_eq-Decides word (codes "last")).0 is)))
    go false is = rw is (first (λ same.
        let e : word ≡ codes "last" = cc in
        true≢false (sym ((bytes_eq-Decides word (codes "last")).1 e) ∙ is)
        ))

-- two parts of what was met, each with its own reading, are the pair of both
pub paired : {X Y A B : Type 0} (f : X → A) (g : X → B) (h : Y → A) (k : Y → B) (found : Option X) (met : Option Y)
    → option_map f found ≡ option_map h met → option_map g found ≡ option_map (λ (p : A × B). p.1) (option_map {U = A × B} (λ y. (h y, k y)) met)
    → option_map {U = A × B} (λ x. (f x, g x)) found ≡ option_map {U = A × B} (λ y. (h y, k y)) met
paired f g h k None None names rows = refl
paired f g h k None (Some y) names rows = cc
paired f g h k (Some x) None names rows = cc
paired f g h k (Some x) (Some y) names rows = cc

digits_pass : (ds : List ℕ) → AllDigits 10 ds → list_all (λ d. nat_lt (digit_value d) 10) ds ≡ true
digits_pass [] h = refl
digits_pass (d ∷ ds) h = rw (lt-ltb (digit_value d) 10 h.0) (digits_pass ds h.1)

both : (a b : Bool) → (a && b) ≡ true → (a ≡ true) × (b ≡ true)
both true b e = (refl, e)
both false b e = absurd (true≢false (sym e))

digits_from : (ds : List ℕ) → list_all (λ d. nat_lt (digit_value d) 10) ds ≡ true → AllDigits 10 ds
digits_from [] e = tt
digits_from (d ∷ ds) e =
    let parts = both _ _ e in
    (ltb-true _ _ parts.0, digits_from ds parts.1)

-- a number from 1 to the most that there may be, and the one that a text means
abbrev fitting : ℕ → ℕ → Option ℕ
fitting most n = if nat_le 1 n && nat_le n most then Some n else None

abbrev meant_by : ℕ → List ℕ → Option ℕ
meant_by most text = if is_unsigned_in 1 most text then Some (digits_value 10 (without_leading_plus text)) else None

module _ {E : Type 0} (G : List ℕ → Result ℕ E → Type 0) (only : (u : List ℕ) (x : Result ℕ E) → G u x → ParsesUnsigned 64 10 u x) (most : ℕ) where
  read_text : (text : List ℕ) (r : Option ℕ) → ReadsOne G text r → option_and_then (fitting most) r ≡ meant_by most text
  read_text text (Some n) read =
      let parsed = only text (Ok n) read in
      let ds = without_leading_plus text in
      rw (lt-ltb 0 (length ds) parsed.0.0.0, digits_pass ds parsed.0.0.1, lt-ltb (digits_value 10 ds) (2 ^ 64) parsed.0.1, parsed.1) refl
  read_text text None read = go (is_unsigned_in 1 most text) refl
    where
      go : (b : Bool) → is_unsigned_in 1 most text ≡ b → None ≡ meant_by most text
      go false t = rw t refl
      go true t =
          let ds = without_leading_plus text in
          let outer = both _ _ t in
          let digits = both _ _ outer.0 in
          let size = both _ _ outer.1 in
          absurd (only text (Err read.0) read.1 ((ltb-true _ _ digits.0, digits_from ds digits.1), ltb-true _ _ size.0))

  -- what a typed getter gives for the text of an option, where the number is one that there may be
  pub number_read : (text : Option (List ℕ)) (r : Option ℕ) → (text ≡ None → r ≡ None) → ((t : List ℕ) → text ≡ Some t → ReadsOne G t r)
      → option_and_then (fitting most) r ≡ option_and_then (meant_by most) text
  number_read None r none value = rw (none refl) refl
  number_read (Some t) r none value = read_text t r (value t refl)

-- the subcommand that a parse met, with its rows
pub subcommand_is : (m : ArgMatches) (found : Option (Bor (List ℕ) × Bor ArgMatches)) → option_map (λ p. p.0.now) found ≡ subcommand_name_of m
    → option_map (λ p. rows_of (found_of p.1.now)) found ≡ option_map (λ (p : List ℕ × List Row). p.1) (subcommand_rows_of m)
    → option_map {U = List ℕ × List Row} (λ p. (p.0.now, rows_of (found_of p.1.now))) found ≡ subcommand_rows_of m
subcommand_is m found names rows =
    paired (λ (p : Bor (List ℕ) × Bor ArgMatches). p.0.now) (λ (p : Bor (List ℕ) × Bor ArgMatches). rows_of (found_of p.1.now))
    (λ b. (out-SubCommand (box_value b)).name.now) (λ b. rows_of (found_of (out-SubCommand (box_value b)).matches))
    found (out-ArgMatches m).subcommand names rows
