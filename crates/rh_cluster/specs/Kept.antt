-- What of a file's terms is read; the rest is skipped (config(4), app(4), ours).
use Rattle.std.specs.Prelude.{ℕ, List, Option, Some, None, option_map, codes, if◌then◌else◌}
use Rattle.std.specs.Str.{bytes_eq}
use Rattle.rh_base.specs.Tree.{Trees}
use Rattle.rh_terms.specs.declared.keep.Next.TheVariants.{Each}
use Rattle.rh_terms.specs.Kept.{kept_trees}
use Rattle.rh_cluster.specs.declared.kept.Part.{Part}
use Rattle.rh_cluster.specs.declared.kept.Part.TheVariants as part
use Rattle.rh_cluster.specs.declared.sections.SectionKey.{SectionKey}
use Rattle.rh_cluster.specs.declared.sections.SectionKey.TheVariants.{Kernel, Rehearse}
use Rattle.rh_cluster.specs.Sections.{section_key, kernel_key, app_key}

-- the terms of a file that are read
abbrev pub term_part : List ℕ → Option Part
term_part word =
    if bytes_eq word (codes "node") then Some part.Node
    else if bytes_eq word (codes "application") then Some part.App
    else if bytes_eq word (codes "profile") then Some part.Value
    else None

-- the sections of a SysConfig that are read
abbrev pub section_part : Option SectionKey → Option Part
section_part (Some Kernel) = Some part.Kernel
section_part (Some Rehearse) = Some part.Value
section_part None = None

-- what is read behind a key, where such a part is read; all of a value is
abbrev pub read_behind : Part → List ℕ → Option Part
read_behind part.File word = term_part word
read_behind part.Node key = section_part (section_key key)
read_behind part.Kernel key = option_map (λ _. part.Value) (kernel_key key)
read_behind part.App key = option_map (λ _. part.Value) (app_key key)
read_behind part.Value key = Some part.Value

-- the terms of a file, as they are kept: of what is skipped, whether it is a list
abbrev pub kept_terms : Trees → Trees
kept_terms ts = kept_trees read_behind (Each part.File) ts
