-- What comes of some lines that were heard.
use Rattle.std.proofs.Common.{◌≡◌, ◌<◌, ◌≤◌, ◌+◌, ◌^◌, ◌∙◌, ℕ, List, [], ◌∷◌, ◌++◌, length, false, Some, Ok, Err, refl, ap, arith}
use Rattle.std.proofs.lemmas.List.{length-append}
use Rattle.rh_devices.specs.declared.fault.WriteFault.{WriteFault}
use Rattle.rh_devices.specs.declared.watched.Watched.{Watched}
use Rattle.rh_devices.specs.Devices.{input_limit}
use Rattle.rh_script.specs.Lines.{raw_lines}
use Rattle.rh_run.specs.declared.fault.Told.{Told}
use Rattle.rh_manner.specs.declared.ear.Ear.{Ear}
use Rattle.rh_manner.specs.declared.stage.Stage.{Stage}
use Rattle.rh_manner.specs.declared.stage.Turn.TheVariants as turn
use Rattle.rh_manner.specs.Speech.{Speech, spoken}
use Rattle.rh_manner.specs.Deeds.{Deed, Gave, Flushed, given, taken, Goes}
use Rattle.rh_manner.specs.DialogueText.{IsPrompt}
use Rattle.rh_manner.specs.Faults.{unwritten}
use Rattle.rh_manner.specs.Hearing.{Answered, AreWhole, has_end}
use Rattle.rh_manner.specs.Stages.{Takes, text_from, next_number}
use Rattle.rh_manner.specs.Talking.{Stands, TalkGives}
use Rattle.rh_manner.proofs.Ending.{heard_goes, heard_prompt, write_fails}
use Rattle.rh_manner.proofs.Going.{later}
use Rattle.rh_manner.proofs.Standing.{goes_on, heard, run_here, wrote_all}
use Rattle.rh_manner.proofs.WholeLines.{lines_append, lines_few}

-- where a dialogue stands
abbrev pub StandsOver : {D R V : Type 0} → (D → D → List ℕ → Type 0) → (D → D → List ℕ → Type 0) → (D → D → Type 0)
    → Speech V → (R → V) → Watched D → Watched D → Ear → Stage R → Type 0
StandsOver gives takes flushes sp see old here ear stage =
    (log : List Deed) × (consumed : List ℕ) × Goes gives takes flushes old.inner here.inner log × IsPrompt (spoken sp) log × Stands sp see log consumed ear stage

module _ {D : Type 0} (gives : D → D → List ℕ → Type 0) (unread : D → D → Type 0) (takes : D → D → List ℕ → Type 0) (flushes : D → D → Type 0)
    (fails : D → D → Type 0) {R V : Type 0} (sp : Speech V) (see : R → V) (old here mid : Watched D) (ear ear' : Ear) (stage : Stage R) (lines : List ℕ)
    (at : StandsOver gives takes flushes sp see old here ear stage)
    (h : (bytes : List ℕ) × Answered gives flushes here mid bytes × (ear.rest.items ++ bytes ≡ lines ++ ear'.rest.items)
    × AreWhole lines × (has_end ear'.rest.items ≡ false)
    × (ear'.count ≡ ear.count + length bytes) × (0 < length bytes) × (ear'.count ≤ input_limit)) where
  abbrev log : List Deed
  log = at.0

  abbrev consumed : List ℕ
  consumed = at.1

  abbrev s : Stands sp see log consumed ear stage
  s = at.4

  -- with what was heard
  abbrev log' : List Deed
  log' = Gave h.0 ∷ Flushed ∷ log

  goes : Goes gives takes flushes old.inner mid.inner log'
  goes = heard_goes gives unread takes flushes fails sp see old log consumed ear stage here at.2 at.3 s h.0 mid h.1

  prompt : IsPrompt (spoken sp) log'
  prompt = heard_prompt gives unread takes flushes fails sp see old log consumed ear stage here at.2 at.3 s h.0

  come : given log' ≡ consumed ++ (lines ++ ear'.rest.items)
  come = heard sp see log log' log' consumed h.0 lines [] ear ear' stage s refl refl h.2 h.3 h.5 h.7

  pub room : next_number stage + length (raw_lines lines) < 2 ^ 64
  room =
      omega (
        arith,
        s.number,
        lines_few consumed,
        lines_few lines,
        length-append consumed ear.rest.items,
        length-append lines ear'.rest.items,
        length-append ear.rest.items h.0,
        ap length h.2,
        ap length s.come,
        s.count,
        h.5,
        h.7,
      )

  pub took_more : (after : Stage R) (new : Watched D) → Takes takes fails sp see (Ok (turn.Goes after)) stage (raw_lines lines) mid new
      → next_number after ≤ next_number stage + length (raw_lines lines) → StandsOver gives takes flushes sp see old new ear' after
  took_more after new t number =
      let l = later gives takes flushes old.inner mid.inner new.inner log' t.0 goes t.1 in (
        l.log',
        consumed ++ lines,
        l.goes,
        l.prompt (spoken sp) prompt,
        goes_on sp see log log' l.log' consumed h.0 lines t.0 ear ear' stage s refl refl h.2 h.3 h.5 h.7 l.came l.took after h.4 t.3 number,
      )

  pub took_last : (it : Told) (new : Watched D) → Takes takes fails sp see (Ok (turn.Ends it)) stage (raw_lines lines) mid new
      → TalkGives gives unread takes flushes fails (spoken sp) (Ok (Some it)) old new
  took_last it new t =
      let l = later gives takes flushes old.inner mid.inner new.inner log' t.0 goes t.1 in (
        l.log',
        l.goes,
        l.prompt (spoken sp) prompt,
        t.2,
        wrote_all sp see log log' l.log' consumed h.0 lines t.0 ear ear' stage s refl refl h.2 h.3 h.5 h.7 l.came l.took it t.3,
      )

  pub take_fails : (f : WriteFault) (new : Watched D) → Takes takes fails sp see (Err f) stage (raw_lines lines) mid new
      → TalkGives gives unread takes flushes fails (spoken sp) (Err (unwritten f)) old new
  take_fails f new t =
      let more = raw_lines ear'.rest.items in
      write_fails gives unread takes flushes fails sp see old f log' mid new (text_from sp see stage (raw_lines lines ++ more)) goes prompt
      (run_here sp see log consumed ear stage s (given log') (lines ++ ear'.rest.items) come
      ∙ ap (λ ls. taken log ++ text_from sp see stage ls) (lines_append lines ear'.rest.items h.3)) (t more)
