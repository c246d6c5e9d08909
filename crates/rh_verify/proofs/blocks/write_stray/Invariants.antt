use Rattle.std.proofs.Common.{◌≡◌, ◌≤◌, ◌+◌, ◌++◌, ℕ, List, length, map, drop, filter, false}
use Rattle.std.specs.List.{flat_map}
use Rattle.std.specs.Borrow.{Bor}
use Rattle.rh_devices.specs.Devices.{Passed}
use Rattle.rh_verify.specs.Expected.{numbered, is_expectation}
use Rattle.rh_verify.specs.Blocks.{stray_text}
use Rattle.rh_verify.proofs.blocks.write_stray.Given as goal

abbrev pub invariant-loop-place : goal.invariant-loop-place
invariant-loop-place g l = record {
  text : (done : List (ℕ × List ℕ)) × Passed g.K.Sink.takes l.fn.writer.inner l.writer.inner (flat_map stray_text done)
      × (filter (λ at. is_expectation at.1) (numbered l.first (map (λ (line : Bor (List ℕ)). line.now) l.lines))
      ≡ done ++ filter (λ at. is_expectation at.1) (numbered (l.first + l.place) (map (λ (line : Bor (List ℕ)). line.now) (drop l.place l.lines))))
      × (length done ≡ l.count);
  within : l.count ≤ l.place;
  watch : l.writer.failed ≡ false;
}
