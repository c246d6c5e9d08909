-- A dialogue in its midst: what was heard, and what was written for it.
use Rattle.std.proofs.Common.{◌≡◌, ◌≤◌, ◌+◌, ◌∙◌, ◌||◌, ℕ, List, [], ◌∷◌, ◌++◌, length, Bool, true, false, cond, Some, Result, Ok, Err, inr, refl, sym, ap, arith, append_assoc, append-nil}
use Rattle.std.specs.List.{concat, list_any}
use Rattle.std.proofs.lemmas.List.{length-append}
use Rattle.std.proofs.lemmas.List.Folds.{list_any-append}
use Rattle.rh_devices.specs.Devices.{input_limit}
use Rattle.rh_script.specs.Lines.{raw_lines, is_separator}
use Rattle.rh_run.specs.declared.fault.Told.{Told}
use Rattle.rh_run.specs.Faults.{ended}
use Rattle.rh_run.specs.RunText.{run_end}
use Rattle.rh_manner.specs.declared.ear.Ear.{Ear}
use Rattle.rh_manner.specs.declared.stage.Stage.{Stage}
use Rattle.rh_manner.specs.declared.stage.Stage.TheVariants.{Cluster, Script}
use Rattle.rh_manner.specs.Speech.{Speech, spoken}
use Rattle.rh_manner.specs.Deeds.{Deed, Flushed, given, taken}
use Rattle.rh_manner.specs.DialogueText.{IsUpToDate, WroteAll, WroteSome, due_text, whole_lines}
use Rattle.rh_manner.specs.Hearing.{AreWhole, has_end}
use Rattle.rh_manner.specs.Stages.{Leads, Closes, text_from, end_from, opened_from, opened_end, is_parted, next_number}
use Rattle.rh_manner.specs.Talking.{Stands}
use Rattle.rh_manner.proofs.Closings.{nothing_more}
use Rattle.rh_manner.proofs.WholeLines.{lines_append, whole_append, whole_among, joined, none_whole}

-- ---- a run over whole texts

run_is_opened : {V : Type 0} (bytes : List ℕ) (sp : Speech V) → spoken sp bytes ≡ opened_from sp [] (raw_lines bytes)
run_is_opened bytes sp = refl

end_is_opened : (bytes : List ℕ) → run_end bytes ≡ opened_end [] (raw_lines bytes)
unfolding run_end
end_is_opened bytes = refl

lines_assoc : (xs ys zs : List (List ℕ)) → (xs ++ ys) ++ zs ≡ xs ++ (ys ++ zs)
lines_assoc [] ys zs = refl
lines_assoc (x ∷ xs) ys zs = ap (λ ls. x ∷ ls) (lines_assoc xs ys zs)

-- ---- at the beginning
pub stands_first : {R V : Type 0} (sp : Speech V) (see : R → V) (ear : Ear) (empty : Stage R) → ear.rest.items ≡ [] → ear.count ≡ 0
    → ((more : List (List ℕ)) → text_from sp see empty more ≡ opened_from sp [] more) → ((more : List (List ℕ)) → end_from sp see empty more ≡ opened_end [] more)
    → is_parted empty ≡ false → next_number empty ≡ 1 → Stands sp see [] [] ear empty
stands_first sp see ear empty rest count text end parted number = record {
  come = sym rest;
  whole = none_whole;
  rest = ap has_end rest;
  count = count;
  limit = omega (arith, count);
  text = λ more. sym (text more);
  end = λ more. sym (end more);
  parted = parted;
  silent = λ h. refl;
  number = omega (arith, number);
}

module _ {R V : Type 0} (sp : Speech V) (see : R → V) (log : List Deed) (consumed : List ℕ) (ear : Ear) (stage : Stage R) (s : Stands sp see log consumed ear stage) where
  -- the text of all of an input that goes on so
  pub run_here : (bytes rest : List ℕ) → bytes ≡ consumed ++ rest → spoken sp bytes ≡ taken log ++ text_from sp see stage (raw_lines rest)
  run_here bytes rest is =
      ap (spoken sp) is ∙ run_is_opened (consumed ++ rest) sp ∙ ap (opened_from sp []) (lines_append consumed rest s.whole)
      ∙ s.text (raw_lines rest)

  pub end_here : (bytes rest : List ℕ) → bytes ≡ consumed ++ rest → run_end bytes ≡ end_from sp see stage (raw_lines rest)
  end_here bytes rest is =
      ap run_end is ∙ end_is_opened (consumed ++ rest) ∙ ap (opened_end []) (lines_append consumed rest s.whole) ∙ s.end (raw_lines rest)

  -- what was written is a front of it
  pub wrote_some : (log' : List Deed) (rest : List ℕ) → given log' ≡ consumed ++ rest → taken log' ≡ taken log → WroteSome (spoken sp) log'
  wrote_some log' rest is same =
      (text_from sp see stage (raw_lines rest), run_here (given log') rest is ∙ ap (λ t. t ++ text_from sp see stage (raw_lines rest)) (sym same))

  -- and so it is now
  pub some_now : WroteSome (spoken sp) log
  some_now = wrote_some log ear.rest.items s.come refl

  -- all that is due was written
  lines_come : whole_lines (given log) ≡ raw_lines consumed
  lines_come = ap whole_lines s.come ∙ whole_among consumed ear.rest.items s.whole s.rest

  pub due_now : taken log ≡ due_text (spoken sp) (given log)
  due_now = by stage s.parted s.silent s.text
    where
      by : (g : Stage R) → is_parted g ≡ list_any is_separator (raw_lines consumed) → (is_parted g ≡ false → taken log ≡ [])
          → ((more : List (List ℕ)) → opened_from sp [] (raw_lines consumed ++ more) ≡ taken log ++ text_from sp see g more)
          → taken log ≡ due_text (spoken sp) (given log)
      by (Cluster text) parted silent goes =
          silent refl ∙ ap (λ t. cond t (spoken sp (concat (whole_lines (given log)))) []) (parted ∙ ap (list_any is_separator) (sym lines_come))
      by (Script r k) parted silent goes =
          sym (append-nil (taken log)) ∙ sym (goes []) ∙ ap (opened_from sp []) (nothing_more (raw_lines consumed))
          ∙ sym (run_is_opened consumed sp) ∙ ap (spoken sp) (sym (joined consumed) ∙ ap concat (sym lines_come))
          ∙ ap (λ t. cond t (spoken sp (concat (whole_lines (given log)))) []) (parted ∙ ap (list_any is_separator) (sym lines_come))

  pub up_to_date : IsUpToDate (spoken sp) (Flushed ∷ log)
  up_to_date = (due_now, refl)

-- ---- some more lines have come whole, and the device has taken what was written for them

or_first : (a b : Bool) → (a || b) ≡ false → a ≡ false
or_first true b h = absurd (cc h)
or_first false b h = refl

module _ {R V : Type 0} (sp : Speech V) (see : R → V) (log log' log'' : List Deed) (consumed bytes lines piece : List ℕ) (ear ear' : Ear) (stage : Stage R)
    (s : Stands sp see log consumed ear stage)
    (given' : given log' ≡ given log ++ bytes) (taken' : taken log' ≡ taken log)
    (cut : ear.rest.items ++ bytes ≡ lines ++ ear'.rest.items) (whole : AreWhole lines)
    (count : ear'.count ≡ ear.count + length bytes) (limit : ear'.count ≤ input_limit) where
  pub heard : given log' ≡ consumed ++ (lines ++ ear'.rest.items)
  heard =
      given' ∙ ap (λ t. t ++ bytes) s.come ∙ append_assoc consumed ear.rest.items bytes ∙ ap (λ t. consumed ++ t) cut

  counted : ear'.count ≡ length (given log')
  counted = omega (arith, count, s.count, ap length given', length-append (given log) bytes)

  module _ (given'' : given log'' ≡ given log') (taken'' : taken log'' ≡ taken log' ++ piece) where
    written : taken log'' ≡ taken log ++ piece
    written = taken'' ∙ ap (λ t. t ++ piece) taken'

    pub goes_on : (after : Stage R) → has_end ear'.rest.items ≡ false → Leads sp see stage after (raw_lines lines) piece
        → next_number after ≤ next_number stage + length (raw_lines lines) → Stands sp see log'' (consumed ++ lines) ear' after
    goes_on after rest leads number = record {
      come = given'' ∙ heard ∙ sym (append_assoc consumed lines ear'.rest.items);
      whole = whole_append consumed lines s.whole whole;
      rest = rest;
      count = counted ∙ ap length (sym given'');
      limit = limit;
      text = λ more.
          ap (λ ls. opened_from sp [] (ls ++ more)) (lines_append consumed lines s.whole)
          ∙ ap (opened_from sp []) (lines_assoc (raw_lines consumed) (raw_lines lines) more) ∙ s.text (raw_lines lines ++ more)
          ∙ ap (λ t. taken log ++ t) (leads.text more) ∙ sym (append_assoc (taken log) piece (text_from sp see after more))
          ∙ ap (λ t. t ++ text_from sp see after more) (sym written);
      end = λ more.
          ap (λ ls. opened_end [] (ls ++ more)) (lines_append consumed lines s.whole)
          ∙ ap (opened_end []) (lines_assoc (raw_lines consumed) (raw_lines lines) more) ∙ s.end (raw_lines lines ++ more) ∙ leads.end more;
      parted = leads.parted ∙ ap (λ t. t || list_any is_separator (raw_lines lines)) s.parted
          ∙ sym (list_any-append is_separator (raw_lines consumed) (raw_lines lines))
          ∙ ap (list_any is_separator) (sym (lines_append consumed lines s.whole));
      silent = λ not. written ∙ ap (λ t. taken log ++ t) (leads.silent not) ∙ append-nil (taken log)
          ∙ s.silent (or_first (is_parted stage) (list_any is_separator (raw_lines lines)) (sym leads.parted ∙ not));
      number = omega (arith, number, s.number, length-append (raw_lines consumed) (raw_lines lines), ap length (lines_append consumed lines s.whole));
    }

    -- these lines end the run
    pub wrote_all : (it : Told) → Closes sp see stage (raw_lines lines) piece it → WroteAll (spoken sp) log'' (ended (Some it))
    wrote_all it closes =
        let told_here : run_end (given log'') ≡ Some it =
        end_here sp see log consumed ear stage s (given log'') (lines ++ ear'.rest.items) (given'' ∙ heard)
        ∙ ap (end_from sp see stage) (lines_append lines ear'.rest.items whole) ∙ closes.end (raw_lines ear'.rest.items) in
        record {
          text = sym (run_here sp see log consumed ear stage s (given log'') (lines ++ ear'.rest.items) (given'' ∙ heard)
              ∙ ap (λ ls. taken log ++ text_from sp see stage ls) (lines_append lines ear'.rest.items whole)
              ∙ ap (λ t. taken log ++ t) (closes.text (raw_lines ear'.rest.items)) ∙ sym written);
          told = ap ended (sym told_here);
          limit = omega (arith, limit, counted, ap length given'');
          whole = inr (λ none. cc (sym told_here ∙ none));
        }
