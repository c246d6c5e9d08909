use Rattle.std.proofs.Common.{◌≤◌, ◌∙◌, List, ℕ, length, sym, ap, subst}
use Rattle.rh_devices.specs.declared.memory.Bytes.{Bytes}
use Rattle.rh_devices.specs.declared.watched.Watched.{Watched}
use Rattle.rh_devices.specs.Devices.{input_limit}
use Rattle.rh_run.specs.RunText.{Broke}
use Rattle.rh_run.specs.CheckText.{check_end}
use Rattle.rh_json.specs.CheckJson.{check_json}
use Rattle.rh_json.specs.Parts.{part_ended}
use Rattle.rh_json.proofs.Memory.{is_part}
use Rattle.rh_json.proofs.parts.write_check.Goals as goal

pub returns : goal.returns
returns g c =
    let takes = g.K.Sink.takes in
    let fails = g.K.Sink.fails in
    let all = ap (λ (w : Watched Bytes). w.inner.rest.now) c.new-reader.ensures ∙ c.new.ensures in
    rw c.part_ended.ensures
    (subst (λ (bs : List ℕ). Broke takes fails (part_ended c.check_json.result) (check_json bs) c.args.writer.now c.check_json.new.writer) all
    (is_part (λ (b : Bytes). b.rest.now) takes fails check_json check_end c.new-reader.result c.check_json.new.reader c.args.writer.now
    c.check_json.new.writer c.check_json.result c.requires.writer (subst (λ (bs : List ℕ). length bs ≤ input_limit) (sym all) c.requires.limit) c.check_json.ensures))
