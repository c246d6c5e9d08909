use Rattle.std.proofs.Common.{◌≡◌, ◌∙◌, ◌++◌, [], sym, ap, List, ℕ, false}
use Rattle.rh_devices.specs.declared.memory.Bytes.{Bytes}
use Rattle.rh_devices.specs.declared.memory.Text.{Text}
use Rattle.rh_devices.specs.declared.watched.Watched.{Watched}
use Rattle.rh_run.specs.Faults.{ended}
use Rattle.rh_run.specs.RunText.{run_text, run_end}
use Rattle.rh_app.proofs.OverMemory.{Is, in_memory}
use Rattle.rh_app.proofs.memory.run_in_memory.Goals as goal

-- what the run did over the two devices
module _ (c : goal.In-Some) where
  abbrev left : Bytes → List ℕ
  left b = b.rest.now

  all : c.new-reader.result.inner.rest.now ≡ c.args.input.now
  all = ap (λ (w : Watched Bytes). w.inner.rest.now) c.new-reader.ensures ∙ c.new.ensures

  empty : c.new-writer.result.inner.bytes.items ≡ []
  empty = ap (λ (w : Watched Text). w.inner.bytes.items) c.new-writer.ensures ∙ c.new-2.ensures.empty

  whole : c.run.new.writer.inner.lacked ≡ false
  whole = ap (λ (t : Text). t.lacked) (sym c.into_inner.ensures) ∙ c.in-Some.ensures.whole.0

  text : c.in-Some.text.items ≡ c.run.new.writer.inner.bytes.items
  text = c.in-Some.ensures.whole.1 ∙ ap (λ (t : Text). t.bytes.items) c.into_inner.ensures

  is : Is (λ (b : Bytes). b.rest.now) (λ (t : Text). t.lacked) (λ (t : Text). t.bytes.items) c.args.pick c.new-reader.result c.run.new.reader
      c.new-writer.result c.run.new.writer empty whole c.in_ok-end.end
  is =
      in_memory (λ (b : Bytes). b.rest.now) (λ (t : Text). t.lacked) (λ (t : Text). t.bytes.items) c.args.pick c.new-reader.result c.run.new.reader
      c.new-writer.result c.run.new.writer empty whole c.in_ok-end.end c.in_ok-end.ensures.other (rw c.in_ok-end.ensures.same c.run.ensures)

pub returns-in-Some-clause-text : goal.returns-in-Some-clause-text
returns-in-Some-clause-text c = λ few. text c ∙ ((is c).0 (rw (all c) few)).0 ∙ ap (λ bs. run_text bs c.args.pick) (all c)

pub returns-in-Some-clause-end : goal.returns-in-Some-clause-end
returns-in-Some-clause-end c = λ few. ((is c).0 (rw (all c) few)).1 ∙ ap (λ bs. ended (run_end bs)) (all c)

pub returns-in-Some-clause-long : goal.returns-in-Some-clause-long
returns-in-Some-clause-long c = λ many. (text c ∙ ((is c).1 (rw (all c) many)).0, ((is c).1 (rw (all c) many)).1)
