-- How it is told in what two nodes differ that have to agree (ours).
use Rattle.std.specs.Prelude.{ℕ, ◌+◌, List, ◌++◌, codes, slice_get, Option, Some, None}
use Rattle.std.specs.List.{find}
use Rattle.std.specs.Option.{option_and_then}
use Rattle.rh_findings.specs.declared.finding.Finding.{Finding}
use Rattle.rh_findings.specs.declared.parts.Part.{Part}
use Rattle.rh_findings.specs.Parts.{parts_at}
use Rattle.rh_cluster_lint.specs.declared.blame.Step.{Step}
use Rattle.rh_cluster_lint.specs.declared.taking_part.Sides.{Sides}
use Rattle.rh_cluster_lint.specs.Differing.{key_word, sides_in}
use Rattle.rh_cluster_lint.specs.Spans.{span, parts_in}
use Rattle.rh_cluster_lint.specs.Telling.{shown}
use Rattle.rh_cluster_lint.specs.Ways.{term_way}
use Rattle.rh_cluster_lint.specs.Words.{second_word, is_headed}

-- the first part of this name that stands so deep in a part
abbrev pub named_in : List ℕ → ℕ → List ℕ → Part → Option Part
named_in text depth name outer = find (λ p. is_headed name (span text p)) (parts_in text depth outer)

-- a parameter of the section `kernel` of a node's term
unfoldable pub parameter : List ℕ → List ℕ → Part → Option Part
parameter text key term = option_and_then (named_in text 4 key) (named_in text 2 (codes "kernel") term)

-- what a node has there, in whose term this part stands
abbrev pub has : List ℕ → Option Part → List ℕ
has text None = codes "none"
has text (Some p) = shown (span text p)

-- a finding with a parameter that a node has, or with its term where it has none
unfoldable pub with_own : List ℕ → List ℕ → Step → Option Part → Finding → Finding
with_own text key s None f = record { line = Some s.part.line; kind = f.kind; text = f.text ++ (codes ": " ++ shown (span text s.part)); path = Some (term_way text s) }
with_own text key s (Some p) f =
    record { line = Some p.line; kind = f.kind; text = f.text ++ (codes ": " ++ shown (span text p)); path = Some (term_way text s ++ (codes ", kernel, " ++ key)) }

-- and with what the first node that takes part has
unfoldable pub with_first : List ℕ → Part → Option Part → Finding → Finding
with_first text term o f = record {
  line = f.line;
  kind = f.kind;
  text = f.text ++ (codes "; " ++ (second_word (span text term) ++ (codes " has " ++ has text o)));
  path = f.path;
}

abbrev pub sided : List ℕ → Finding → Sides → Option Part → Option Part → Finding
sided text f s (Some own) (Some first) =
    with_first text first (parameter text (key_word s.parameter) first)
    (with_own text (key_word s.parameter) (record { part = own; number = s.own + 1 }) (parameter text (key_word s.parameter) own) f)
sided text f s _ _ = f

abbrev pub sided_by : List ℕ → Finding → Option Sides → Finding
sided_by text f None = f
sided_by text f (Some s) = sided text f s (slice_get (parts_at 0 text) s.own) (slice_get (parts_at 0 text) s.first)

-- a finding that the node of this name differs, with where it does, and from what
unfoldable pub with_sides : List ℕ → List ℕ → Finding → Finding
with_sides text name f = sided_by text f (sides_in text name)
