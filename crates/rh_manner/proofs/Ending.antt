-- How a dialogue ends, by what became of its parts.
use Rattle.std.proofs.Common.{◌≡◌, ◌<◌, ◌+◌, ◌∙◌, ℕ, List, [], ◌∷◌, ◌++◌, length, Option, Some, None, Ok, Err, inl, inr, refl, sym, ap, arith, append_assoc, append-nil}
use Rattle.std.proofs.lemmas.List.{length-append}
use Rattle.rh_devices.specs.declared.fault.WriteFault.{WriteFault}
use Rattle.rh_devices.specs.declared.fault.WriteFault.TheVariants as writing
use Rattle.rh_devices.specs.declared.watched.Watched.{Watched}
use Rattle.rh_devices.specs.Devices.{WroteFront}
use Rattle.rh_script.specs.Lines.{raw_lines}
use Rattle.rh_run.specs.declared.fault.Told.{Told}
use Rattle.rh_run.specs.declared.fault.Told.TheVariants as told
use Rattle.rh_run.specs.Faults.{ended}
use Rattle.rh_run.specs.RunText.{Wrote}
use Rattle.rh_manner.specs.declared.ear.Ear.{Ear}
use Rattle.rh_manner.specs.declared.fault.DialogueFault.{DialogueFault}
use Rattle.rh_manner.specs.declared.fault.DialogueFault.TheVariants as fault
use Rattle.rh_manner.specs.declared.stage.Stage.{Stage}
use Rattle.rh_manner.specs.Speech.{Speech, spoken}
use Rattle.rh_manner.specs.Deeds.{Deed, Gave, Flushed, given, taken, Goes}
use Rattle.rh_manner.specs.DialogueText.{DialogueGives, IsPrompt}
use Rattle.rh_manner.specs.Faults.{unwritten}
use Rattle.rh_manner.specs.Hearing.{Answered, Hears}
use Rattle.rh_manner.specs.Stages.{text_from, end_from, next_number}
use Rattle.rh_manner.specs.Talking.{Stands, TalkGives}
use Rattle.rh_manner.proofs.Going.{later}
use Rattle.rh_manner.proofs.WholeLines.{lines_few}
use Rattle.rh_manner.proofs.Standing.{run_here, end_here, wrote_some, some_now, up_to_date}

module _ {D : Type 0} (gives : D → D → List ℕ → Type 0) (unread : D → D → Type 0) (takes : D → D → List ℕ → Type 0) (flushes : D → D → Type 0)
    (fails : D → D → Type 0) {R V : Type 0} (sp : Speech V) (see : R → V) (old : Watched D) where
  -- the whole text was written
  pub whole_end : (it : Option Told) (new : Watched D) → TalkGives gives unread takes flushes fails (spoken sp) (Ok it) old new
      → DialogueGives gives unread takes flushes fails (spoken sp) (ended it) old new
  whole_end None new h = (h.0, new.inner, h.1, h.2, (refl, h.3, h.4))
  whole_end (Some (told.Cluster f)) new h = (h.0, new.inner, h.1, h.2, (refl, h.3, h.4))
  whole_end (Some (told.BadLine k)) new h = (h.0, new.inner, h.1, h.2, (refl, h.3, h.4))
  whole_end (Some (told.Sweep f)) new h = (h.0, new.inner, h.1, h.2, (refl, h.3, h.4))
  whole_end (Some told.Refused) new h = (h.0, new.inner, h.1, h.2, (refl, h.3, h.4))
  whole_end (Some told.Differs) new h = (h.0, new.inner, h.1, h.2, (refl, h.3, h.4))
  whole_end (Some told.Unfinished) new h = (h.0, new.inner, h.1, h.2, (refl, h.3, h.4))

  -- a text that is the next one was not written whole
  pub write_fails : (f : WriteFault) (log : List Deed) (mid new : Watched D) (text : List ℕ) → Goes gives takes flushes old.inner mid.inner log
      → IsPrompt (spoken sp) log → spoken sp (given log) ≡ taken log ++ text → WroteFront takes fails f text mid new
      → TalkGives gives unread takes flushes fails (spoken sp) (Err (unwritten f)) old new
  write_fails writing.Failed log mid new text goes prompt is h =
      let front = h.0.0 in
      let rest = h.0.1 in
      let l = later gives takes flushes old.inner mid.inner h.0.2.0 log front goes h.0.2.1 in (
        l.log',
        h.0.2.0,
        l.goes,
        l.prompt (spoken sp) prompt,
        (
          h.0.2.2,
          h.1,
          (
            rest,
            ap (spoken sp) l.came ∙ is ∙ ap (λ t. taken log ++ t) h.0.3 ∙ sym (append_assoc (taken log) front rest)
                ∙ ap (λ t. t ++ rest) (sym l.took),
          ),
        ),
      )
  write_fails writing.OutOfMemory log mid new text goes prompt is h =
      let front = h.0.0 in
      let rest = h.0.1 in
      let l = later gives takes flushes old.inner mid.inner new.inner log front goes h.0.2 in (
        l.log',
        new.inner,
        l.goes,
        l.prompt (spoken sp) prompt,
        (
          refl,
          h.1,
          (
            rest,
            ap (spoken sp) l.came ∙ is ∙ ap (λ t. taken log ++ t) h.0.3 ∙ sym (append_assoc (taken log) front rest)
                ∙ ap (λ t. t ++ rest) (sym l.took),
          ),
        ),
      )

  module _ (log : List Deed) (consumed : List ℕ) (ear : Ear) (stage : Stage R) (here : Watched D)
      (goes : Goes gives takes flushes old.inner here.inner log) (prompt : IsPrompt (spoken sp) log) (s : Stands sp see log consumed ear stage) where
    -- the device gave these bytes, flushed before
    pub heard_goes : (bytes : List ℕ) (new : Watched D) → Answered gives flushes here new bytes
        → Goes gives takes flushes old.inner new.inner (Gave bytes ∷ Flushed ∷ log)
    heard_goes bytes new h = (h.0, (here.inner, goes, h.1), h.2)

    pub heard_prompt : (bytes : List ℕ) → IsPrompt (spoken sp) (Gave bytes ∷ Flushed ∷ log)
    heard_prompt bytes = (up_to_date sp see log consumed ear stage s, prompt)

    -- nothing more was heard
    pub hear_fails : (f : DialogueFault) (after : Ear) (new : Watched D) → Hears gives unread flushes fails (Err f) here new ear after
        → TalkGives gives unread takes flushes fails (spoken sp) (Err f) old new
    hear_fails fault.Unheard after new h =
        (Flushed ∷ log, h.0, (here.inner, goes, h.1), prompt, inl (h.2, h.3, up_to_date sp see log consumed ear stage s))
    hear_fails fault.TooLong after new h = (
      Gave h.0 ∷ Flushed ∷ log,
      new.inner,
      heard_goes h.0 new h.1,
      heard_prompt h.0,
      inr (refl, h.1.3, omega (arith, h.2, s.count, length-append (given log) h.0)),
    )
    hear_fails fault.Unsaid after new h = (log, here.inner, goes, prompt, (h.0, h.1, some_now sp see log consumed ear stage s))
    hear_fails fault.OutOfMemory after new h = (
      Gave h.0 ∷ Flushed ∷ log,
      new.inner,
      heard_goes h.0 new h.1,
      heard_prompt h.0,
      (
        refl,
        h.1.3,
        wrote_some sp see log consumed ear stage s (Gave h.0 ∷ Flushed ∷ log) (ear.rest.items ++ h.0)
            (ap (λ t. t ++ h.0) s.come ∙ append_assoc consumed ear.rest.items h.0) refl,
      ),
    )

    -- the input is at its end
    module _ (mid : Watched D) (h : Answered gives flushes here mid []) where
      at_end : given (Gave [] ∷ Flushed ∷ log) ≡ consumed ++ ear.rest.items
      at_end = append-nil (given log) ∙ s.come

      pub room : next_number stage + length (raw_lines ear.rest.items) < 18446744073709551616
      room =
          omega (
            arith,
            s.number,
            s.limit,
            s.count,
            ap length s.come,
            length-append consumed ear.rest.items,
            lines_few consumed,
            lines_few ear.rest.items,
          )

      pub end_written : (it owed : Option Told) (text : List ℕ) (new : Watched D) → owed ≡ end_from sp see stage (raw_lines ear.rest.items)
          → text ≡ text_from sp see stage (raw_lines ear.rest.items) → Wrote takes fails (Ok it) text owed mid new
          → TalkGives gives unread takes flushes fails (spoken sp) (Ok it) old new
      end_written it owed text new is_owed is_text w =
          let l = later gives takes flushes old.inner mid.inner new.inner (Gave [] ∷ Flushed ∷ log) text (heard_goes [] mid h) w.1 in
          let bytes : given l.log' ≡ consumed ++ ear.rest.items = l.came ∙ at_end in (
            l.log',
            l.goes,
            l.prompt (spoken sp) (heard_prompt []),
            w.2,
            record {
              text = l.took ∙ ap (λ t. taken log ++ t) is_text ∙ sym (run_here sp see log consumed ear stage s (given l.log') ear.rest.items bytes);
              told = ap ended (sym w.0 ∙ is_owed ∙ sym (end_here sp see log consumed ear stage s (given l.log') ear.rest.items bytes));
              limit = omega (arith, s.limit, s.count, ap length bytes, ap length s.come);
              whole = inl l.end;
            },
          )

      pub end_fails : (f : WriteFault) (new : Watched D) → WroteFront takes fails f (text_from sp see stage (raw_lines ear.rest.items)) mid new
          → TalkGives gives unread takes flushes fails (spoken sp) (Err (unwritten f)) old new
      end_fails f new w =
          write_fails f (Gave [] ∷ Flushed ∷ log) mid new (text_from sp see stage (raw_lines ear.rest.items)) (heard_goes [] mid h) (heard_prompt [])
          (run_here sp see log consumed ear stage s (given (Gave [] ∷ Flushed ∷ log)) ear.rest.items at_end) w
